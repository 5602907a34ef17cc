use Rattle.std.proofs.Common.{rules, ◌≡◌, ◌∙◌, ◌<◌, ◌-◌, true, false, sym, length, arith}
use Rattle.std.specs.Str.{bytes_eq}
use Rattle.std.specs.declared.option.Option.TheVariants.{Some, None}
use Rattle.jc_frames_types.specs.Names.{superclass_named}
use Rattle.jc_frames_types.proofs.Lines.{line_here, line_above, line_over}
use Rattle.jc_frames_types.proofs.below.has_in_line.Goals as goal

pub returns-then-eq : goal.returns-then-eq
returns-then-eq c =
    let same : bytes_eq c.loop.name.now c.args.to.now ≡ true = search rules in
    sym (line_here c.args.types.now (length c.args.types.now - c.loop.counter) c.args.to.now c.loop.name.now same) ∙ c.loop.invariant

pub returns-in-None : goal.returns-in-None
returns-in-None c =
    let less : c.loop.counter < length c.args.types.now = omega (arith, c.loop-test.true, c.count-end.ensures) in
    let other : bytes_eq c.loop.name.now c.args.to.now ≡ false = search rules in
    let is : superclass_named c.args.types.now c.loop.name.now ≡ None = search rules in
    sym (line_over c.args.types.now (length c.args.types.now) c.loop.counter c.args.to.now c.loop.name.now less other is) ∙ c.loop.invariant

pub loop-preserved : goal.loop-preserved
loop-preserved c =
    let less : c.loop.counter < length c.args.types.now = omega (arith, c.loop-test.true, c.count-end.ensures) in
    let other : bytes_eq c.loop.name.now c.args.to.now ≡ false = search rules in
    let is : superclass_named c.args.types.now c.loop.name.now ≡ Some c.in-Some.above.now = search rules in
    line_above c.args.types.now (length c.args.types.now) c.loop.counter c.args.to.now c.loop.name.now c.in-Some.above.now less other is ∙ c.loop.invariant
