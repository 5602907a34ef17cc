-- How a walk goes through the expressions that items ask.
use Rattle.std.proofs.Common.{◌≡◌, refl, List, Option, None}
use Rattle.jc_rules.specs.declared.rule.Refusal.{Refusal}
use Rattle.jc_types.specs.declared.environment.Bounds.{Bounds}
use Rattle.jc_types.specs.Breaks.{least}
use Rattle.jc_exprs_nodes_spec.specs.Told.{Told, Fine, Broken, Run, Standing, after, breaks, onward, ran, ran_of, standing, typed}
use Rattle.jc_exprs_nodes_spec.specs.Gates.{gated}
use Rattle.jc_exprs_nodes_spec.specs.Typeds.{settled}
use Rattle.jc_exprs_nodes_spec.proofs.Runs.{ran_onward}
use Rattle.jc_exprs_spec.specs.Typing.{effect, typing}
use Rattle.jc_stmts_spec.specs.Plans.{Effect, Truth, Result, Nowhere, Selector, Thrown}
use Rattle.jc_stmts_spec.specs.Courses.{each_type, label_of}
use Rattle.jc_stmts_wants.specs.Laws.{WantedPart, LabelPart, EachPart}
use Rattle.jc_stmts_wants.specs.Wanting.{wanted_by}
use Rattle.jc_declares.specs.HeadBreaks.{class_file}

pub wanted_after : WantedPart
wanted_after W result e Effect s = ran_onward (wanted_by W.table result (class_file W.heads W.class.0) Effect) (effect W e) s
wanted_after W result e Truth s = ran_onward (wanted_by W.table result (class_file W.heads W.class.0) Truth) (typing W None e) s
wanted_after W result e Result s = ran_onward (wanted_by W.table result (class_file W.heads W.class.0) Result) (typing W result e) s
wanted_after W result e Nowhere s = ran_onward (wanted_by W.table result (class_file W.heads W.class.0) Nowhere) (typing W None e) s
wanted_after W result e Selector s = ran_onward (wanted_by W.table result (class_file W.heads W.class.0) Selector) (typing W None e) s
wanted_after W result e (Thrown n) s = ran_onward (wanted_by W.table result (class_file W.heads W.class.0) (Thrown n)) (typing W None e) s

pub label_after : LabelPart
label_after W place scope e s = ran_onward (label_of W.table place scope) (typing W None e) s

-- a rule behind a rule
module _ {A B C : Type 0} (f : A → Run B) (g : B → Run C) where
  by_told : (x : Option Refusal) (a : Told A) (env : List Bounds) →
      ran_of x (after (after a env f).told (after a env f).env g) ≡ gated (λ b. onward (f b) g) (typed a) (standing env (least x (breaks a)))
  unfolding ran onward
  by_told x (Fine a) env = refl
  by_told x (Broken b bs) env = refl

  ran_twice : (m : Run A) (s : Standing) → ran (onward (onward m f) g) s ≡ gated (λ b. onward (f b) g) (ran m s).has (ran m s).state
  unfolding ran onward
  ran_twice m s = by_told s.found ((m s.env).told) ((m s.env).env)

pub each_after : EachPart
each_after W e to s = ran_twice (settled W.table) (each_type W to) (typing W None e) s
