use Rattle.std.proofs.Common.{◌<◌, sym, ap, ◌∙◌, arith, length}
use Rattle.jc_types.specs.declared.form.Ty.TheVariants.{Array, Meet}
use Rattle.jc_types.proofs.Cores.{reaches_element, reaches_first}
use Rattle.jc_types.proofs.erasing.inner_type.Goals as goal

pub loop-inner-preserved-in-Array : goal.loop-inner-preserved-in-Array
loop-inner-preserved-in-Array c =
    reaches_element _ _ _ _ _ _ c.loop-inner.invariant (c.in-Array.is ∙ ap (λ e. Array e c.in-Array.further) (sym c.get-inner.ensures)) c.more_dims-dims.ensures

pub loop-inner-preserved : goal.loop-inner-preserved
loop-inner-preserved c =
    let some : 0 < length c.slice.result.now = omega (arith, c.in-len1-up.len_at_least) in
    reaches_first _ _ _ c.slice.result.now _ c.loop-inner.invariant (c.in-Meet.is ∙ ap Meet (sym c.slice.ensures)) some c.first-item.is
