use Rattle.std.proofs.Common.{arith, length, refl, ap, ◌∙◌}
use Rattle.std.specs.Prelude.{slice_get}
use Rattle.jc_clashes.specs.Shapes.{above_at, row_in, set_in, shapes_of}
use Rattle.jc_clashes.specs.Spreading.{spread}
use Rattle.jc_clashes.proofs.Rounds.{shape_on}
use Rattle.jc_clashes.proofs.shapes.shapes_of.Goals as goal

pub loop-at-preserved : goal.loop-at-preserved
loop-at-preserved c =
    let T = c.args.table.now in
    let all = c.args.all.now in
    let at = c.loop-at.at in
    let belows = c.in_ok-belows.belows in
    shape_on T all at _ _ c.in_ok-below.below c.in_ok-above.above c.in_ok-erasures.erasures belows c.in_ok-sets.sets c.loop-at.out c.push.new.self (shapes_of T all all) (omega arith) c.in_ok-push.ensures.ok refl c.in_ok-belows.ensures
    (c.in_ok-sets.ensures ∙ ap (λ bs. spread bs c.len.result c.in_ok-own.own) c.slice.ensures ∙ ap (λ n. spread belows n c.in_ok-own.own) c.len.ensures ∙ ap (spread belows (length T.methods)) c.in_ok-own.ensures)
    (c.in_ok-above.ensures ∙ ap (above_at at all) c.slice-in-loop-at-2.ensures) (c.in_ok-below.ensures ∙ ap (λ bs. row_in (slice_get bs at)) c.slice-in-loop-at.ensures)
    (c.in_ok-erasures.ensures ∙ ap (λ ss. set_in (slice_get ss at)) c.slice-in-loop-at-3.ensures) c.loop-at.invariant
