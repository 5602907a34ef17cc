-- A walk that has gone on loses nothing that is broken, and the steps of items are the same from there.
use Rattle.std.proofs.Common.{◌≡◌, refl, ap, sym, ◌∙◌, Bool, true, false, List, [], ◌∷◌, ◌++◌, Option, Some, None, if◌then◌else◌}
use Rattle.std.proofs.lemmas.List.{append-nil}
use Rattle.jc_rules.specs.declared.rule.Refusal.{Refusal}
use Rattle.jc_types.specs.Breaks.{before, least}
use Rattle.jc_typed.specs.Parts.{Grows}
use Rattle.jc_typed.specs.Trees.{Operand}
use Rattle.jc_exprs_nodes_spec.specs.Told.{Ran, Run, Standing, breaks, ran}
use Rattle.jc_exprs_nodes_spec.specs.Gates.{gated}
use Rattle.jc_exprs_nodes.specs.Walks.{now}
use Rattle.jc_exprs_nodes.specs.declared.walk.Walk.{Walk}
use Rattle.jc_stmts_spec.specs.Plans.{Effect, Truth, Result, Nowhere, Selector, Thrown}
use Rattle.jc_stmts_spec.specs.Courses.{Answer, AnOperand, AKey, AnEach, Key, keys_of, top_of, below_top}
use Rattle.jc_stmts_answers.specs.Answers.{answers_of}
use Rattle.jc_stmts_answers.proofs.Staying.{answers_stay}
use Rattle.jc_stmts_course.specs.declared.course.Course.{Course}
use Rattle.jc_stmts_course.specs.Laws.{AskedResumes, FilledResumes, GoneOverResumes, LabelledResumes, Later, RunsAreLater, resumed}
use Rattle.jc_stmts_course.specs.Nows.{IsCourse, stage, told, with_walk}
use Rattle.jc_stmts_course.specs.Steps.{Stage, answer_if, answered, keeping, while_whole, with_value}
use Rattle.jc_stmts_course.proofs.Lasting.{while_later}

-- ---- what is broken

by_test : (t : Bool) (b c : Refusal) (bs : List Refusal) → ((d : Refusal) → least (Some d) bs ≡ None → ⊥) → least (if t then Some c else Some b) bs ≡ None → ⊥
by_test true b c bs h e = h c e
by_test false b c bs h e = h b e

some_least : (b : Refusal) (bs : List Refusal) → least (Some b) bs ≡ None → ⊥
some_least b [] e = cc
some_least b (c ∷ bs) e = by_test (before c b) b c bs (λ d f. some_least d bs f) e

pub least_later : (f : Option Refusal) (bs : List Refusal) → least f bs ≡ None → f ≡ None
least_later None bs e = refl
least_later (Some b) bs e = absurd (some_least b bs e)

pub later_of : {A : Type 0} (m : Run A) (s : Standing) → Later s (ran m s).state
unfolding ran
later_of m s e = least_later s.found (breaks (m s.env).told) e

pub gated_later : {A B : Type 0} (f : A → Run B) (o : Option A) (s : Standing) → Later s (gated f o s).state
gated_later f None s e = e
gated_later f (Some a) s e = later_of (f a) s e

pub run_later : RunsAreLater
run_later = (λ m s. later_of m s, λ m s. later_of m s)

-- ---- steps

pub answered_on : (s r : Standing) (xs : List Answer) (c : Stage) → Later s r → answered r xs (resumed s c) ≡ answered r xs c
answered_on s r xs c h =
    ap (λ (ys : List Answer). record c { standing = r; answers = ys })
    (while_later s.found r.found (c.answers ++ []) xs h ∙ ap (λ ys. while_whole r.found (ys ++ xs)) (append-nil c.answers))

pub filled_on : FilledResumes
filled_on T r s c h =
    ap (with_value T r.has) (answered_on s r.state (answer_if (λ x. AnOperand x) r.has) c h)

operand_on : (r : Ran Operand) (s : Standing) (c : Stage) → Later s r.state → answered r.state (answer_if (λ x. AnOperand x) r.has) (resumed s c) ≡ answered r.state (answer_if (λ x. AnOperand x) r.has) c
operand_on r s c h = answered_on s r.state (answer_if (λ x. AnOperand x) r.has) c h

pub asked_on : AskedResumes
asked_on Selector r s c h = ap (keeping r.has) (operand_on r s c h)
asked_on Effect r s c h = operand_on r s c h
asked_on Truth r s c h = operand_on r s c h
asked_on Result r s c h = operand_on r s c h
asked_on Nowhere r s c h = operand_on r s c h
asked_on (Thrown n) r s c h = operand_on r s c h

pub labelled_on : LabelledResumes
labelled_on r s c h =
    ap (λ (d : Stage). record d { scopes = record (top_of d.scopes) { keys = (top_of d.scopes).keys ++ keys_of r.has } ∷ below_top d.scopes })
    (answered_on s r.state (answer_if (λ (k : Key). AKey k.value k.named) r.has) c h)

pub gone_over_on : GoneOverResumes
gone_over_on r s c h = answered_on s r.state (answer_if (λ x. AnEach x) r.has) c h

-- ---- the code's state

pub stage_on : (c : Course) (w : Walk) → IsCourse c → Grows c.walk.nodes w.nodes → Later (now c.walk) (now w) → stage (with_walk w c) ≡ resumed (now w) (stage c)
stage_on c w b g h =
    let xs = answers_of c.walk.nodes c.answers in
    ap (λ (ys : List Answer). record (stage c) { standing = now w; answers = ys })
    (ap (while_whole w.found) (answers_stay c.walk.nodes w.nodes c.answers g b) ∙ ap (while_whole w.found) (sym (append-nil xs)) ∙ sym (while_later c.walk.found w.found xs [] h))
