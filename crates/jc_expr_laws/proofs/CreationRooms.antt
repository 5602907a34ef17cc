-- What is read where there is room for an expression, and small steps of choices.
use Rattle.std.proofs.Common.{◌≡◌, ℕ, zero, suc, true, false, List, length, refl, sym, ◌∙◌, subst, ⊎_elim, ◌⊎◌, inl, inr, arith}
use Rattle.std.proofs.lemmas.Bool.{false≢true, cond-true, cond-false}
use Rattle.jc_lexer.specs.declared.token.Token.{Token}
use Rattle.jc_tree.specs.declared.expression.Expr.{Expr}
use Rattle.jc_tree.specs.declared.expression.ArrayInit.{ArrayInit}
use Rattle.jc_reading.specs.Kinds.{one_of}
use Rattle.jc_reading.specs.Reading.{Read, Found, Stopped, Run, becoming, Either, This, That, either}
use Rattle.jc_reading.proofs.Steps.{IsFound, Refuses, found_becoming}
use Rattle.jc_reading.proofs.Forms.{Lawful}
use Rattle.jc_reading.specs.Further.{with_room}
use Rattle.jc_reading.proofs.Coded.{Coded, formed, one_or, Apart}
use Rattle.jc_reading.proofs.Lowest.{Law, Void, roomy, rerun_laws, one_or_law}
use Rattle.jc_expr_laws.proofs.PrimeTokens.{any_expr}
use Rattle.jc_expr_laws.proofs.CreationArrays.{array_coded}

pub room_same : {A : Type 0} (h : ℕ) (run : Run A) → (h ≡ 0 → ⊥) → (ts : List Token) → run ts ≡ with_room h run ts
unfolding with_room
room_same zero run n ts = absurd (n refl)
room_same (suc h) run n ts = refl

pub room_stops : {A : Type 0} (h : ℕ) (run : Run A) → h ≡ 0 → (ts : List Token) → with_room h run ts ≡ Stopped (length ts)
unfolding with_room
room_stops zero run e ts = refl
room_stops (suc h) run e ts = absurd (omega (arith, e))

pub lawful_room : (A : Type 0) (c : Coded A) (h : ℕ) → (h ≡ 0 → ⊥) → Lawful A (formed c) → Lawful A (formed (roomy h c))
lawful_room A c h n la = rerun_laws A c (with_room h c.run) (room_same h c.run n) la

pub void_room : (A : Type 0) (c : Coded A) (h : ℕ) → h ≡ 0 → ((a : A) → c.fits a ≡ false) → Void A (roomy h c)
void_room A c h e n = record { stops = room_stops h c.run e; never = n }

-- how expressions and array initialisers of height at most h are read: there are none at height 0
abbrev pub Below : ℕ → Run Expr → Run ArrayInit → Type 0
Below h expr array =
    ((h ≡ 0) × (Void Expr (any_expr h expr) × Void ArrayInit (array_coded h array)))
    ⊎ ((h ≡ 0 → ⊥) × (Lawful Expr (formed (any_expr h expr)) × Lawful ArrayInit (formed (array_coded h array))))

pub expr_below : (h : ℕ) (expr : Run Expr) (array : Run ArrayInit) → Below h expr array → Law Expr (any_expr h expr)
expr_below h expr array b = ⊎_elim (λ v. inr v.1.0) (λ l. inl l.1.0) b

-- what has a value is lawful
pub has_value : (A : Type 0) (c : Coded A) → Law A c → (a : A) → c.fits a ≡ true → Lawful A (formed c)
has_value A c l a g = ⊎_elim (λ la. la) (λ v. absurd (false≢true (sym (v.never a) ∙ g))) l

pub one_or_second : (A B : Type 0) (codes : List ℕ) (ca : Coded A) (cb : Coded B) → Apart A B codes ca cb → Law A ca → Lawful B (formed cb) → Lawful (Either A B) (formed (one_or codes ca cb))
one_or_second A B codes ca cb d l lb = has_value (Either A B) (one_or codes ca cb) (one_or_law A B codes ca cb d l (inl lb)) (That lb.least.value) (lb.least.spelled lb.least.tokens).1

pub one_or_first : (A B : Type 0) (codes : List ℕ) (ca : Coded A) (cb : Coded B) → Apart A B codes ca cb → Lawful A (formed ca) → Law B cb → Lawful (Either A B) (formed (one_or codes ca cb))
one_or_first A B codes ca cb d la l = has_value (Either A B) (one_or codes ca cb) (one_or_law A B codes ca cb d (inl la) l) (This la.least.value) (la.least.spelled la.least.tokens).1

pub found_this : {A B : Type 0} (codes : List ℕ) (m : Run A) (n : Run B) (ts : List Token) (a : A) (r : List Token) → one_of codes ts ≡ true → IsFound a r (m ts) → IsFound (This a) r (either codes m n ts)
found_this {B = B} codes m n ts a r e f = subst (λ (v : Read (Either _ B)). IsFound (This a) r v) (sym (cond-true (one_of codes ts) (becoming This (m ts)) (becoming That (n ts)) e)) (found_becoming This a r (m ts) f)

pub found_that : {A B : Type 0} (codes : List ℕ) (m : Run A) (n : Run B) (ts : List Token) (b : B) (r : List Token) → one_of codes ts ≡ false → IsFound b r (n ts) → IsFound (That b) r (either codes m n ts)
found_that {A = A} codes m n ts b r e f = subst (λ (v : Read (Either A _)). IsFound (That b) r v) (sym (cond-false (one_of codes ts) (becoming This (m ts)) (becoming That (n ts)) e)) (found_becoming That b r (n ts) f)

pub refuses_becoming : {A B : Type 0} (f : A → B) (ts : List Token) (m : Read A) → Refuses false ts m → Refuses false ts (becoming f m)
refuses_becoming f ts (Found a q l) k = absurd (false≢true k.0)
refuses_becoming f ts (Stopped l) k = refl
