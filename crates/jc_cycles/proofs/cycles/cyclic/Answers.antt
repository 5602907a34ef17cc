use Rattle.std.proofs.Common.{◌≡◌, ℕ, List, length, sym, ap, subst, ◌∙◌}
use Rattle.jc_declares.specs.Looking.{Knowledge}
use Rattle.jc_declares.specs.Knowing.{known}
use Rattle.jc_looking.specs.Members.{known_in}
use Rattle.jc_components.specs.Reach.{IsClosed}
use Rattle.jc_components.specs.Marks.{AreReached}
use Rattle.jc_cycles.specs.Cycles.{rows_below}
use Rattle.jc_cycles.proofs.Rowed.{rows_closed, rows_count, all_told}
use Rattle.jc_cycles.proofs.cycles.cyclic.Goals as goal

pub on_cycles-requires : goal.on_cycles-requires
on_cycles-requires c =
    subst IsClosed (sym (c.slice.ensures ∙ c.in_ok-rows.ensures)) (rows_closed c.args.scene.now.declared.heads.now (known_in c.args.scene.now.known.now) c.len-count.result)

pub returns : goal.returns
returns c =
    let heads = c.args.scene.now.declared.heads.now in
    let rows : c.in_ok-rows.rows ≡ rows_below heads (known heads) (length heads.classes) (length heads.classes) =
    c.in_ok-rows.ensures ∙ ap (λ (k : Knowledge). rows_below heads k c.len-count.result c.len-count.result) c.requires.known
    ∙ ap (λ (n : ℕ). rows_below heads (known heads) n n) c.len-count.ensures in
    let count : length c.in_ok-rows.rows ≡ length heads.classes = ap length rows ∙ rows_count heads (known heads) (length heads.classes) (length heads.classes) in
    let reached : AreReached c.in_ok-rows.rows c.in_ok-marks.marks (length c.in_ok-rows.rows) =
    subst (λ (es : List (List ℕ)). AreReached es c.in_ok-marks.marks (length es)) c.slice.ensures c.in_ok-marks.ensures in
    all_told heads c.in_ok-rows.rows c.in_ok-marks.marks rows (subst (AreReached c.in_ok-rows.rows c.in_ok-marks.marks) count reached)
