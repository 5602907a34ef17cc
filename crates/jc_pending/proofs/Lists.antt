-- Lists of computations from their last member on.
use Rattle.std.proofs.Common.{◌≡◌, ℕ, List, [], ◌∷◌, ◌++◌, refl, ap, ◌∙◌, append_assoc}
use Rattle.jc_running.specs.declared.value.Value.{Value}
use Rattle.jc_running.specs.declared.value.Completion.{Completion}
use Rattle.jc_running.specs.Outcomes.{Out, Val, Thrown, Exited, Going, Wrong, give, throw, bind, on_both}
use Rattle.jc_typed.specs.declared.program.TypedProgram.{TypedProgram}
use Rattle.jc_typed.specs.Trees.{Step, Operand, Operands, NoOperands, MoreOperands, Arms, NoArms, MoreArms}
use Rattle.jc_places.specs.Sorts.{Arm, arms_before}
use Rattle.jc_meaning.specs.Kept.{TypedState, TypedRun}
use Rattle.jc_meaning.specs.Programs.{operand_list, operands_before}
use Rattle.jc_meaning.specs.Calls.{Bodies}
use Rattle.jc_meaning.specs.Expressions as e
use Rattle.jc_meaning.specs.Statements as s
use Rattle.jc_meaning.specs.Steps as t
use Rattle.jc_pending.specs.Level.{if_on, inner, run}

same_out : {A : Type 0} (o : Out TypedState A) → on_both o give throw ≡ o
same_out (Val v u s) = refl
same_out (Thrown a u s) = refl
same_out (Exited c s) = refl
same_out (Going s) = refl
same_out Wrong = refl

-- the steps of a value end in the last one
module _ (P : TypedProgram) (body : Bodies) (ready : t.Ready) where
  behind_first : (o : Out TypedState Value) (xs : List Step) (y : Step)
      → ((v : Value) (u : ℕ) (s : TypedState) → t.steps P body ready (xs ++ y ∷ []) v u s ≡ on_both (t.steps P body ready xs v u s) (t.step P body ready y) throw)
      → on_both o (t.steps P body ready (xs ++ y ∷ [])) throw ≡ on_both (on_both o (t.steps P body ready xs) throw) (t.step P body ready y) throw
  behind_first (Val v u s) xs y h = h v u s
  behind_first (Thrown a u s) xs y h = refl
  behind_first (Exited c s) xs y h = refl
  behind_first (Going s) xs y h = refl
  behind_first Wrong xs y h = refl

  pub steps_more : (xs : List Step) (y : Step) (v : Value) (u : ℕ) (s : TypedState)
      → t.steps P body ready (xs ++ y ∷ []) v u s ≡ on_both (t.steps P body ready xs v u s) (t.step P body ready y) throw
  steps_more [] y v u s = same_out (t.step P body ready y v u s)
  steps_more (x ∷ xs) y v u s = behind_first (t.step P body ready x v u s) xs y (steps_more xs y)

-- the values of operands end in that of the last one
led : (q : Out TypedState Value) (v : Value) (vs : List Value)
    → on_both (on_both q (λ w. give (vs ++ w ∷ [])) throw) (λ ws. give (v ∷ ws)) throw ≡ on_both q (λ w. give ((v ∷ vs) ++ w ∷ [])) throw
led (Val w u s) v vs = refl
led (Thrown a u s) v vs = refl
led (Exited c s) v vs = refl
led (Going s) v vs = refl
led Wrong v vs = refl

abbrev and_last : TypedRun Value → List Value → TypedRun (List Value)
and_last m vs = bind m (λ w. give (vs ++ w ∷ []))

led_all : (p : Out TypedState (List Value)) (m : TypedRun Value) (v : Value)
    → on_both (on_both p (and_last m) throw) (λ ws. give (v ∷ ws)) throw ≡ on_both (on_both p (λ vs. give (v ∷ vs)) throw) (and_last m) throw
led_all (Val vs u s) m v = led (m u s) v vs
led_all (Thrown a u s) m v = refl
led_all (Exited c s) m v = refl
led_all (Going s) m v = refl
led_all Wrong m v = refl

behind_value : (o : Out TypedState Value) (m : TypedRun Value) (all some : TypedRun (List Value))
    → ((u : ℕ) (s : TypedState) → all u s ≡ on_both (some u s) (and_last m) throw)
    → on_both o (λ v. bind all (λ vs. give (v ∷ vs))) throw ≡ on_both (on_both o (λ v. bind some (λ vs. give (v ∷ vs))) throw) (and_last m) throw
behind_value (Val v u s) m all some h =
    ap (λ (p : Out TypedState (List Value)). on_both p (λ vs. give (v ∷ vs)) throw) (h u s) ∙ led_all (some u s) m v
behind_value (Thrown a u s) m all some h = refl
behind_value (Exited c s) m all some h = refl
behind_value (Going s) m all some h = refl
behind_value Wrong m all some h = refl

pub values_more : (P : TypedProgram) (r : e.Inner) (xs : List Operand) (y : Operand) (u : ℕ) (s : TypedState)
    → e.values_of P r (xs ++ y ∷ []) u s ≡ on_both (e.values_of P r xs u s) (λ vs. bind (e.value_of P r y) (λ w. give (vs ++ w ∷ []))) throw
values_more P r [] y u s = refl
values_more P r (x ∷ xs) y u s =
    behind_value (e.value_of P r x u s) (e.value_of P r y) (e.values_of P r (xs ++ y ∷ [])) (e.values_of P r xs) (values_more P r xs y)

operands_onto : (os : Operands) (more : List Operand) → operands_before os more ≡ operand_list os ++ more
operands_onto NoOperands more = refl
operands_onto (MoreOperands before last) more =
    let whole : operands_before before (last ∷ more) ≡ operand_list before ++ (last ∷ more) = operands_onto before (last ∷ more) in
    let one : operands_before before (last ∷ []) ≡ operand_list before ++ last ∷ [] = operands_onto before (last ∷ []) in
    rw (whole, one, append_assoc) refl

pub operands_more : (before : Operands) (last : Operand) → operand_list (MoreOperands before last) ≡ operand_list before ++ last ∷ []
operands_more before last = operands_onto before (last ∷ [])

-- the tests of an `if` as a list
pub arms_on : (P : TypedProgram) (d : ℕ) (arms : Arms) (more : List Arm) (other : TypedRun Completion)
    → s.if_any P (inner P d) (run P d) d arms (if_on P d more other) ≡ if_on P d (arms_before arms more) other
arms_on P d NoArms more other = refl
arms_on P d (MoreArms before test first) more other = arms_on P d before (record { test = test; then = first } ∷ more) other
