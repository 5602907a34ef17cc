-- What an item makes of the code's state: the walk goes through the item's expression, and the step is the same from there.
use Rattle.std.proofs.Common.{◌≡◌, refl, ap, sym, ◌∙◌, ℕ, Bool, List, [], ◌∷◌, ◌++◌, Option, Some, None}
use Rattle.jc_types.specs.declared.table.Table.{Table}
use Rattle.jc_typed.specs.Parts.{Grows}
use Rattle.jc_typed.specs.Trees.{Operand}
use Rattle.jc_exprs_nodes_spec.specs.Told.{Ran, Run, Standing, ran}
use Rattle.jc_exprs_nodes_spec.specs.Gates.{gated}
use Rattle.jc_exprs_nodes_spec.specs.Typeds.{Typed}
use Rattle.jc_exprs_nodes.specs.Walks.{now}
use Rattle.jc_exprs_nodes.specs.declared.walk.Walk.{Walk}
use Rattle.jc_stmts_spec.specs.Plans.{Want}
use Rattle.jc_stmts_spec.specs.Courses.{Elements, Key}
use Rattle.jc_stmts_course.specs.declared.course.Course.{Course}
use Rattle.jc_stmts_course.specs.Laws.{Later, resumed}
use Rattle.jc_stmts_course.specs.Nows.{IsCourse, stage, told, with_walk}
use Rattle.jc_stmts_course.specs.Steps.{Stage, asked, filled, gone_over, labelled}
use Rattle.jc_stmts_course.proofs.Ending.{gone_over_at}
use Rattle.jc_stmts_course.proofs.Resuming.{asked_on, filled_on, gated_later, labelled_on, later_of, stage_on}

same_run : {A : Type 0} (r : Ran A) (s : Standing) (o : Option A) → r.state ≡ s → r.has ≡ o → r ≡ told s o
same_run r s o e f = rw (← e, ← f) refl

found_same : (s r : Standing) → s ≡ r → s.found ≡ r.found
found_same s r e = ap (λ (x : Standing). x.found) e

module _ (c : Course) (v : Walk) (b : IsCourse c) (g : Grows c.walk.nodes v.nodes) where
  -- the stage behind a run of the walk
  resumed_there : {A : Type 0} (m : Run A) → (ran m (now c.walk)).state ≡ now v → stage (with_walk v c) ≡ resumed (now v) (stage c)
  resumed_there m e = stage_on c v b g (λ n. later_of m (now c.walk) (found_same (ran m (now c.walk)).state (now v) e ∙ n))

  later_there : (s : Standing) → s ≡ now v → Later (now v) s
  later_there s e n = sym (found_same s (now v) e) ∙ n

  pub filled_through : (T : Table) (m : Run Operand) (o : Option Operand) → (ran m (now c.walk)).state ≡ now v → (ran m (now c.walk)).has ≡ o →
      filled T (ran m (now c.walk)) (stage c) ≡ filled T (told (now v) o) (stage (with_walk v c))
  filled_through T m o e f =
      let r = ran m (now c.walk) in
      sym (filled_on T r (now v) (stage c) (later_there r.state e))
      ∙ ap (filled T r) (sym (resumed_there m e))
      ∙ ap (λ (q : Ran Operand). filled T q (stage (with_walk v c))) (same_run r (now v) o e f)

  pub gone_over_through : (m : Run Elements) (o : Option Elements) → (ran m (now c.walk)).state ≡ now v → (ran m (now c.walk)).has ≡ o →
      gone_over (ran m (now c.walk)) (stage c) ≡ gone_over (told (now v) o) (stage (with_walk v c))
  gone_over_through m o e f = gone_over_at c v b g (ran m (now c.walk)) o (later_of m (now c.walk)) e f

  -- an item's rule behind its expression
  pub asked_through : (w : Want) (f : Typed → Run Operand) (m : Run Typed) (o : Option Typed) (r : Ran Operand) →
      r ≡ gated f (ran m (now c.walk)).has (ran m (now c.walk)).state → (ran m (now c.walk)).state ≡ now v → (ran m (now c.walk)).has ≡ o →
      asked w r (stage c) ≡ asked w (gated f o (now v)) (stage (with_walk v c))
  asked_through w f m o r is e h =
      let q = gated f o (now v) in
      let same : r ≡ q = is ∙ rw (e, h) refl in
      ap (λ (x : Ran Operand). asked w x (stage c)) same
      ∙ sym (asked_on w q (now v) (stage c) (gated_later f o (now v)))
      ∙ ap (asked w q) (sym (resumed_there m e))

  pub labelled_through : (f : Typed → Run Key) (m : Run Typed) (o : Option Typed) (r : Ran Key) →
      r ≡ gated f (ran m (now c.walk)).has (ran m (now c.walk)).state → (ran m (now c.walk)).state ≡ now v → (ran m (now c.walk)).has ≡ o →
      labelled r (stage c) ≡ labelled (gated f o (now v)) (stage (with_walk v c))
  labelled_through f m o r is e h =
      let q = gated f o (now v) in
      let same : r ≡ q = is ∙ rw (e, h) refl in
      ap (λ (x : Ran Key). labelled x (stage c)) same
      ∙ sym (labelled_on q (now v) (stage c) (gated_later f o (now v)))
      ∙ ap (labelled q) (sym (resumed_there m e))
