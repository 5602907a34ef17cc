-- Runs with more units show more.
use Rattle.std.proofs.Common.{◌≡◌, ℕ, zero, suc, ◌+◌, ◌≤◌, List, [], ◌∷◌, ◌++◌, Option, Some, None, refl, sym, ap, ◌∙◌, subst, arith, append_assoc}
use Rattle.jc_types.specs.declared.ids.MethodId.{MethodId}
use Rattle.jc_running.specs.declared.seen.Shown.{Shown}
use Rattle.jc_running.specs.declared.value.Value.{Value}
use Rattle.jc_running.specs.Shows.{AtMostOneMore, nothing_more, a_byte_more, one_more_taken, a_failure_more, with_byte, with_taken}
use Rattle.jc_running.specs.Outcomes.{Out, Val, Thrown, Exited, Going, Wrong, WithOneUnitMore}
use Rattle.jc_heaps.specs.States.{shown_of}
use Rattle.jc_typed.specs.declared.program.TypedProgram.{TypedProgram}
use Rattle.jc_meaning.specs.Kept.{TypedState}
use Rattle.jc_meaning.specs.Meaning.{main_outcome, outcome}
use Rattle.jc_meaning.proofs.SmoothMeaning.{run_goes_on, main_goes_on}
use Rattle.jc_meaning_laws.specs.FirstParts.{FirstPart, GoesOn, shown_by}

no_more : {A : Type 0} (xs : List A) → xs ≡ xs ++ []
no_more [] = refl
no_more (x ∷ xs) = ap (λ ys. x ∷ ys) (no_more xs)

same_part : (p : Shown) → FirstPart p p
same_part p = record {
  further_output = [];
  output = no_more p.output;
  taken = omega arith;
  further_failures = [];
  failed = no_more p.failed;
}

both_parts : (p q r : Shown) → FirstPart p q → FirstPart q r → FirstPart p r
both_parts p q r a b = record {
  further_output = a.further_output ++ b.further_output;
  output = b.output ∙ ap (λ xs. xs ++ b.further_output) a.output ∙ append_assoc p.output a.further_output b.further_output;
  taken = let first : p.taken ≤ q.taken = a.taken in let second : q.taken ≤ r.taken = b.taken in omega arith;
  further_failures = a.further_failures ++ b.further_failures;
  failed = b.failed ∙ ap (λ xs. xs ++ b.further_failures) a.failed ∙ append_assoc p.failed a.further_failures b.further_failures;
}

part_of_byte : (p : Shown) (b : ℕ) → FirstPart p (with_byte b p)
part_of_byte p b = record {
  further_output = b ∷ [];
  output = refl;
  taken = omega arith;
  further_failures = [];
  failed = no_more p.failed;
}

part_of_taken : (p : Shown) → FirstPart p (with_taken p)
part_of_taken p = record {
  further_output = [];
  output = no_more p.output;
  taken = omega arith;
  further_failures = [];
  failed = no_more p.failed;
}

one_more : (p q : Shown) → AtMostOneMore p q → FirstPart p q
one_more p q (nothing_more e) = subst (λ r. FirstPart p r) (sym e) (same_part p)
one_more p q (a_byte_more b e) = subst (λ r. FirstPart p r) (sym e) (part_of_byte p b)
one_more p q (one_more_taken e) = subst (λ r. FirstPart p r) (sym e) (part_of_taken p)
one_more p q (a_failure_more c e) =
    subst (λ r. FirstPart p r) (sym e)
    (record { further_output = []; output = no_more p.output; taken = omega arith; further_failures = c ∷ []; failed = refl })

same_shown : (p : Shown) (q : Shown) → q ≡ p → FirstPart p q
same_shown p q e = subst (λ r. FirstPart p r) (sym e) (same_part p)

goes_once : (o o' : Out TypedState Value) → WithOneUnitMore shown_of o o' → GoesOn (shown_by o) (shown_by o')
goes_once (Val v u s) o' g = rw g (same_part s.shown)
goes_once (Thrown a u s) o' g = rw g (same_part s.shown)
goes_once (Exited code s) o' g = rw g (same_part s.shown)
goes_once (Going s) (Val v u t) g = same_shown s.shown t.shown g
goes_once (Going s) (Thrown a u t) g = same_shown s.shown t.shown g
goes_once (Going s) (Exited code t) g = same_shown s.shown t.shown g
goes_once (Going s) (Going t) g = one_more s.shown t.shown g
goes_once (Going s) Wrong g = tt
goes_once Wrong o' g = ap shown_by g

goes_both : (a b c : Option Shown) → GoesOn a b → GoesOn b c → GoesOn a c
goes_both None None c e f = f
goes_both None (Some q) c e f = cc
goes_both (Some p) None None e f = tt
goes_both (Some p) None (Some r) e f = cc
goes_both (Some p) (Some q) None e f = tt
goes_both (Some p) (Some q) (Some r) e f = both_parts p q r e f

goes_none : (a : Option Shown) → GoesOn a a
goes_none None = refl
goes_none (Some p) = same_part p

goes_further : (f : ℕ → Out TypedState Value) → ((n : ℕ) → WithOneUnitMore shown_of (f n) (f (suc n))) → (n k : ℕ) → GoesOn (shown_by (f n)) (shown_by (f (n + k)))
goes_further f g n zero =
    let e : n ≡ n + 0 = omega arith in subst (λ i. GoesOn (shown_by (f n)) (shown_by (f i))) e (goes_none (shown_by (f n)))
goes_further f g n (suc k) =
    let e : suc (n + k) ≡ n + suc k = omega arith in
    subst (λ i. GoesOn (shown_by (f n)) (shown_by (f i))) e
    (goes_both (shown_by (f n)) (shown_by (f (n + k))) (shown_by (f (suc (n + k)))) (goes_further f g n k) (goes_once (f (n + k)) (f (suc (n + k))) (g (n + k))))

pub methods_go_on : (P : TypedProgram) (m : MethodId) (input : List ℕ) (n k : ℕ) → GoesOn (shown_by (outcome P m input n)) (shown_by (outcome P m input (n + k)))
methods_go_on P m input n k = goes_further (outcome P m input) (run_goes_on P m input) n k

pub mains_go_on : (P : TypedProgram) (m : MethodId) (args : List (List ℕ)) (input : List ℕ) (n k : ℕ) → GoesOn (shown_by (main_outcome P m args input n)) (shown_by (main_outcome P m args input (n + k)))
mains_go_on P m args input n k = goes_further (main_outcome P m args input) (main_goes_on P m args input) n k
