use Rattle.std.proofs.Common.{◌≡◌, None, sym, arith, rules, ◌∙◌}
use Rattle.jc_types.specs.Accessors.{methods_of}
use Rattle.jc_overriding.specs.Overriding.{standing_in}
use Rattle.jc_members.proofs.Standing.{stands_up}
use Rattle.jc_members.proofs.selecting.standing_within.Goals as goal

pub loop-left-preserved : goal.loop-left-preserved
loop-left-preserved c =
    let none : standing_in c.args.table.now c.args.k c.args.m (methods_of c.args.table.now c.loop-left.at) ≡ None = search rules in
    stands_up c.args.table.now c.args.k c.args.m c.loop-left.left c.loop-left.at c.in-Some-superclass.up (omega arith) none (sym c.in-Some-superclass.ensures) ∙ c.loop-left.invariant
