-- Lists of computations as loops go through them.
use Rattle.std.proofs.Common.{◌≡◌, ℕ, List, [], ◌∷◌, ◌++◌, refl, ap, sym, ◌∙◌, append_assoc}
use Rattle.jc_running.specs.Outcomes.{Out, Val, Thrown, Exited, Going, Wrong, give, throw, on_both}
use Rattle.jc_running.specs.declared.value.Value.{Value}
use Rattle.jc_types.specs.declared.constant.Op.{Op}
use Rattle.jc_heaps.specs.Making.{given}
use Rattle.jc_heaps.specs.Numbers.{prefixed}
use Rattle.jc_typed.specs.declared.program.TypedProgram.{TypedProgram}
use Rattle.jc_meaning.specs.Kept.{TypedState, TypedRun, typed_keeping}
use Rattle.jc_meaning.specs.Expressions as e
use Rattle.jc_values.specs.Idle.{idle}

-- values that came before stand before the others
pub moved : {A : Type 0} (o : Out TypedState (List A)) (out : List A) (v : A)
    → on_both (on_both o (λ vs. give (v ∷ vs)) throw) (λ vs. give (out ++ vs)) throw ≡ on_both o (λ vs. give ((out ++ v ∷ []) ++ vs)) throw
moved (Val vs u s) out v = ap (λ ws. Val ws u s) (let e : out ++ (v ∷ vs) ≡ (out ++ v ∷ []) ++ vs = rw append_assoc refl in e)
moved (Thrown a u s) out v = refl
moved (Exited c s) out v = refl
moved (Going s) out v = refl
moved Wrong out v = refl

pub same_values : {A : Type 0} (o : Out TypedState (List A)) → o ≡ on_both o (λ vs. give ([] ++ vs)) throw
same_values (Val vs u s) = refl
same_values (Thrown a u s) = refl
same_values (Exited c s) = refl
same_values (Going s) = refl
same_values Wrong = refl

same_out : {A : Type 0} (o : Out TypedState A) → on_both o give throw ≡ o
same_out (Val v u s) = refl
same_out (Thrown a u s) = refl
same_out (Exited c s) = refl
same_out (Going s) = refl
same_out Wrong = refl

joined : {A B C : Type 0} (o : Out TypedState A) (f : A → TypedRun B) (g : B → TypedRun C)
    → on_both (on_both o f throw) g throw ≡ on_both o (λ a u s. on_both (f a u s) g throw) throw
joined (Val v u s) f g = refl
joined (Thrown a u s) f g = refl
joined (Exited c s) f g = refl
joined (Going s) f g = refl
joined Wrong f g = refl

-- the innermost prefix operator comes first
pub innermost : (P : TypedProgram) (ops : List Op) (op : Op) (v : Value) (u : ℕ) (s : TypedState)
    → e.prefixes P idle (ops ++ op ∷ []) v u s ≡ on_both (given (typed_keeping P.table) P.table P.known (prefixed op v) u s) (e.prefixes P idle ops) throw
innermost P [] op v u s = sym (same_out (given (typed_keeping P.table) P.table P.known (prefixed op v) u s))
innermost P (x ∷ ops) op v u s =
    let act : Value → TypedRun Value = λ w. given (typed_keeping P.table) P.table P.known (prefixed x w) in
    ap (λ (o : Out TypedState Value). on_both o act throw) (innermost P ops op v u s)
    ∙ joined (given (typed_keeping P.table) P.table P.known (prefixed op v) u s) (e.prefixes P idle ops) act
