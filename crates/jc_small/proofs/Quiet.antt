-- Steps of the machine that show nothing.
use Rattle.std.proofs.Common.{◌≡◌, ◌≤◌, ℕ, zero, suc, ◌+◌, List, [], refl, ap, ◌∙◌, arith}
use Rattle.jc_class_out.specs.declared.model.ClassModel.{ClassModel}
use Rattle.jc_machine.specs.declared.machine.Ran.TheVariants.{StepsReached}
use Rattle.jc_machine.specs.declared.machine.Stepped.TheVariants.{Went}
use Rattle.jc_machine.specs.Table.{State, step_of}
use Rattle.jc_machine.specs.Runs.{Seen, run_of, run_after}

-- nothing is put out within k steps, which lead to another state
pub record Quiet (classes : List ClassModel) (k : ℕ) (from to : State) : Type 0 where
  pub silent : (j : ℕ) → j ≤ k → (run_of classes j from).output ≡ []
  pub going : (j : ℕ) → j ≤ k → (run_of classes j from).ending ≡ StepsReached
  pub then : (r : ℕ) → run_of classes (k + r) from ≡ run_of classes r to

module _ (classes : List ClassModel) where
  pub quiet_none : (s : State) → Quiet classes 0 s s
  unfolding run_of
  quiet_none s = record {
    silent = λ j h. let e : j ≡ 0 = omega arith in rw e refl;
    going = λ j h. let e : j ≡ 0 = omega arith in rw e refl;
    then = λ r. ap (λ (n : ℕ). run_of classes n s) (omega arith);
  }

  one_step : (from next : State) (r : ℕ) → step_of classes from ≡ (Went, next) → run_of classes (suc r) from ≡ run_of classes r next
  unfolding run_of
  one_step from next r e = ap (λ m. run_after m (run_of classes r)) e

  silent_step : (k : ℕ) (from next to : State) → step_of classes from ≡ (Went, next) → Quiet classes k next to → (j : ℕ) → j ≤ suc k → (run_of classes j from).output ≡ []
  unfolding run_of
  silent_step k from next to e more zero h = refl
  silent_step k from next to e more (suc j) h = ap (λ (s : Seen). s.output) (one_step from next j e) ∙ more.silent j (omega arith)

  going_step : (k : ℕ) (from next to : State) → step_of classes from ≡ (Went, next) → Quiet classes k next to → (j : ℕ) → j ≤ suc k → (run_of classes j from).ending ≡ StepsReached
  unfolding run_of
  going_step k from next to e more zero h = refl
  going_step k from next to e more (suc j) h = ap (λ (s : Seen). s.ending) (one_step from next j e) ∙ more.going j (omega arith)

  pub quiet_step : (k : ℕ) (from next to : State) → step_of classes from ≡ (Went, next) → Quiet classes k next to → Quiet classes (suc k) from to
  quiet_step k from next to e more = record {
    silent = silent_step k from next to e more;
    going = going_step k from next to e more;
    then = λ r. ap (λ (n : ℕ). run_of classes n from) (omega arith) ∙ one_step from next (k + r) e ∙ more.then r;
  }
