use Rattle.std.proofs.Common.{ℕ, List, ◌+◌, ◌-◌, length, drop, get_or, arith, ap, ◌∙◌}
use Rattle.std.proofs.lemmas.List.{take_all, length-drop}
use Rattle.std.specs.declared.option.Option.{Option}
use Rattle.jc_jvm.specs.declared.value.Shape.{Shape}
use Rattle.jc_lookups.specs.Deepened.{deepened, bare_shape}
use Rattle.jc_lookups.proofs.Depths.{bare_at}
use Rattle.jc_lookups.proofs.shapes.shape_by_descriptor.Goals as goal

pub returns-then-unit-ne91 : goal.returns-then-unit-ne91
returns-then-unit-ne91 c =
    let d = c.args.descriptor.now in
    let i = c.loop-dims.dims in
    c.wrapped.ensures
    ∙ ap (λ (s : Option Shape). deepened i s) c.shape_without_dims.ensures.value
    ∙ ap (λ (us : List ℕ). deepened i (bare_shape c.args.classes.now (get_or d i 0) us)) (take_all (length d - (i + 1)) (drop (i + 1) d) (omega (arith, length-drop (i + 1) d)))
    ∙ bare_at c.args.classes.now d i _ c.loop-dims-test.true c.if-unit-ne91.true c.loop-dims.invariant
