use Rattle.std.proofs.Common.{length, arith, ap, ◌∙◌}
use Rattle.jc_types.specs.Accessors.{method_name_of}
use Rattle.jc_members.specs.Named.{ids_in}
use Rattle.jc_clashes.specs.Shapes.{groups}
use Rattle.jc_clashes.proofs.Grown.{group_on}
use Rattle.jc_clashes.proofs.shapes.groups.Goals as goal

pub loop-number-preserved : goal.loop-number-preserved
loop-number-preserved c =
    let T = c.args.table.now in
    group_on T c.loop-number.number (length T.methods) c.loop-number.out _ (groups T) _ (omega arith) c.in_ok-push_group.ensures
    (c.named-ids.ensures ∙ ap (ids_in c.args.index.now.names c.args.index.now.groups) c.method_name.ensures ∙ c.requires.ids (method_name_of T (record { 0 = c.loop-number.number })))
    c.loop-number.invariant
