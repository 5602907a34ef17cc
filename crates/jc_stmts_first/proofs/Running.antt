-- What is seen of a state behind a run that goes on with it.
use Rattle.std.proofs.Common.{◌≡◌, refl, ap, sym, ◌∙◌, List, [], ◌∷◌, ◌++◌, Option, Some, None}
use Rattle.std.proofs.lemmas.List.{append-nil}
use Rattle.jc_rules.specs.declared.rule.Place.{Place}
use Rattle.jc_rules.specs.declared.rule.Refusal.{Refusal}
use Rattle.jc_types.specs.Breaks.{least}
use Rattle.jc_types.specs.declared.environment.Bounds.{Bounds}
use Rattle.jc_typed.specs.Parts.{Grows}
use Rattle.jc_typed.specs.Trees.{StmtForm}
use Rattle.jc_exprs_nodes_spec.specs.Told.{Told, Fine, Broken, Run, breaks, ran, standing, typed}
use Rattle.jc_exprs_nodes.specs.Walks.{now}
use Rattle.jc_exprs_nodes.specs.declared.walk.Walk.{Walk}
use Rattle.jc_stmts_spec.specs.Courses.{Course as Counted}
use Rattle.jc_stmts_spec.specs.Typed.{begun_stmts}
use Rattle.jc_stmts_course.specs.declared.course.Course.{Course}
use Rattle.jc_stmts_course.specs.Laws.{resumed}
use Rattle.jc_stmts_course.specs.Nows.{IsCourse, stage, with_walk}
use Rattle.jc_stmts_course.specs.Steps.{Stage, answered, seen}
use Rattle.jc_stmts_course.proofs.Resuming.{later_of, stage_on}
use Rattle.jc_stmts_course.proofs.Seeing.{more_seen}
use Rattle.jc_stmts_first.specs.Firsts.{stmts_begun, told_again}

more_broken : (c : Counted) (env : List Bounds) (bs : List Refusal) →
    seen (record c { env = env; broken = c.broken ++ bs }) ≡ answered (standing env (least (least None c.broken) bs)) [] (seen c)
more_broken c env bs =
    ap (λ xs. seen (record c { env = env; broken = c.broken ++ bs; answers = xs })) (sym (append-nil c.answers)) ∙ more_seen c env bs []

-- a state whose walk has gone through a part
module _ {A : Type 0} (m : Run A) (c : Counted) (d : Course) (v : Walk) (same : seen c ≡ stage d) where
  run_there : ran m (seen c).standing ≡ ran m (now d.walk)
  run_there = ap (λ (s : Stage). ran m s.standing) same

  pub run_seen : IsCourse d → Grows d.walk.nodes v.nodes → (ran m (now d.walk)).state ≡ now v →
      seen (record c { env = (m c.env).env; broken = c.broken ++ breaks (m c.env).told }) ≡ stage (with_walk v d)
  unfolding ran
  run_seen b g e =
      more_broken c (m c.env).env (breaks (m c.env).told)
      ∙ ap (λ s. resumed (ran m s.standing).state s) same
      ∙ ap (λ s. resumed s (stage d)) e
      ∙ sym (stage_on d v b g (λ n. later_of m (now d.walk) (ap (λ s. s.found) e ∙ n)))

  -- what is told there, as the walk has it
  pub told_there : typed (m c.env).told ≡ (ran m (now d.walk)).has
  unfolding ran
  told_there = ap (λ r. r.has) run_there

begun_again : (place : Place) (t : Told StmtForm) → begun_stmts place t ≡ stmts_begun place (typed t)
begun_again place (Fine f) = refl
begun_again place (Broken b bs) = refl

pub begun_by_run : (place : Place) (t : Told StmtForm) (o : Option StmtForm) → typed t ≡ o → begun_stmts place t ≡ stmts_begun place o
begun_by_run place t o e = begun_again place t ∙ ap (stmts_begun place) e
