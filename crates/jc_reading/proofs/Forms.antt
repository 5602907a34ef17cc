-- A form of the grammar with how it is read, the laws of the two, and the forms that are made of others.
use Rattle.std.proofs.Common.{◌≡◌, ℕ, ◌<◌, ◌≤◌, min, Bool, true, false, List, [], ◌++◌, length, append_assoc, refl, sym, ap, ◌∙◌, subst, ⊎_elim, ◌⊎◌, arith}
use Rattle.std.proofs.lemmas.Bool.{cases_lt}
use Rattle.jc_lexer.specs.declared.token.Token.{Token}
use Rattle.jc_grammar.specs.Told.{Told}
use Rattle.jc_reading.specs.Reading.{Run, Takes}
use Rattle.jc_reading.proofs.Steps.{Good, Goes, IsFound, Refuses, reach, Moves, Plain, takes_front}
use Rattle.jc_reading.specs.Reach.{Within}

-- what its values tell, which of them it has, how it is read, where it may begin, and where a value may go on that is read already;
-- and whether a value may be empty
pub record Form (A : Type 0) : Type 0 where
  pub tell : A → List Told → List Told
  pub fits : A → Bool
  pub run : Run A
  pub starts : List Token → Bool
  pub goes_on : List Token → Bool
  pub empties : Bool

-- a value of the form stands at the front, and r follows
abbrev pub Stands : {A : Type 0} → Form A → List Token → A → List Token → Type 0
Stands form ts a r = Takes false (form.tell a []) ts r × (form.fits a ≡ true)

-- with k tokens left, what stands before them begins a value
pub record Begins (A : Type 0) (form : Form A) (ts : List Token) (k : ℕ) : Type 0 where
  pub front : List Token
  pub back : List Token
  pub whole : ts ≡ front ++ back
  pub left : length back ≡ k
  pub value : A
  pub more : List Token
  pub spelled : (z : List Token) → Stands form (front ++ (more ++ z)) value z

-- a value that the form has
pub record Least (A : Type 0) (form : Form A) : Type 0 where
  pub value : A
  pub tokens : List Token
  pub spelled : (z : List Token) → Stands form (tokens ++ z) value z

abbrev pub Opens : {A : Type 0} → Form A → List Token → List Token → Type 0
Opens form ts r = ((form.starts ts ≡ true) × (length r < length ts)) ⊎ ((ts ≡ r) × (form.empties ≡ true))

pub record Lawful (A : Type 0) (form : Form A) : Type 0 where
  pub appends : (a : A) (r : List Told) → form.fits a ≡ true → form.tell a r ≡ form.tell a [] ++ r
  pub plain : (a : A) → form.fits a ≡ true → Plain (form.tell a [])
  pub within : (ts : List Token) → Within (length ts) (form.run ts)
  pub sound : (ts : List Token) → Good (Stands form ts) (form.run ts)
  pub longest : (ts : List Token) (a : A) (r : List Token) → Stands form ts a r → Goes (length r) (form.run ts)
  pub exact : (ts : List Token) (a : A) (r : List Token) → Stands form ts a r → form.goes_on r ≡ false → IsFound a r (form.run ts)
  pub opens : (ts : List Token) (a : A) (r : List Token) → Stands form ts a r → Opens form ts r
  pub refuses : (ts : List Token) → form.starts ts ≡ false → Refuses form.empties ts (form.run ts)
  pub total : form.empties ≡ true → (ts : List Token) → Goes (length ts) (form.run ts)
  pub local : (p x y : List Token) → Moves x y (form.run (p ++ x)) (form.run (p ++ y))
  pub begins : (ts : List Token) → Begins A form ts (reach (form.run ts))
  pub least : Least A form

-- beginnings

pub begins_pick : (A : Type 0) (form : Form A) (ts : List Token) (j k : ℕ) → Begins A form ts j → Begins A form ts k → Begins A form ts (min j k)
begins_pick A form ts j k b c =
    ⊎_elim (λ (h : j < k). let e : j ≡ min j k = omega arith in subst (λ n. Begins A form ts n) e b)
    (λ (h : k ≤ j). let e : k ≡ min j k = omega arith in subst (λ n. Begins A form ts n) e c) (cases_lt j k)

-- nothing yet
pub begins_start : (A : Type 0) (form : Form A) (ts : List Token) → Least A form → Begins A form ts (length ts)
begins_start A form ts l = record { front = []; back = ts; whole = refl; left = refl; value = l.value; more = l.tokens; spelled = l.spelled }

-- a whole value
pub begins_full : (A : Type 0) (form : Form A) (ts : List Token) (a : A) (r : List Token) → Stands form ts a r → Begins A form ts (length r)
begins_full A form ts a r s =
    let f = takes_front false (form.tell a []) ts r s.0 in
    record { front = f.0; back = r; whole = f.1; left = refl; value = a; more = []; spelled = λ z. (f.2 z, s.1) }

-- a value of one form, and then some tokens, is one of another
pub begins_fill : (A B : Type 0) (form : Form A) (other : Form B) (make : A → B) (rest ts : List Token) (k : ℕ) → ((us : List Token) (a : A) (z : List Token) → Stands form us a (rest ++ z) → Stands other us (make a) z) → Begins A form ts k → Begins B other ts k
begins_fill A B form other make rest ts k f b = record {
  front = b.front;
  back = b.back;
  whole = b.whole;
  left = b.left;
  value = make b.value;
  more = b.more ++ rest;
  spelled = λ z. subst (λ (l : List Token). Stands other (b.front ++ l) (make b.value) z) (sym (append_assoc b.more rest z)) (f (b.front ++ (b.more ++ (rest ++ z))) b.value z (b.spelled (rest ++ z)));
}

pub begins_as : (A B : Type 0) (form : Form A) (other : Form B) (make : A → B) (ts : List Token) (k : ℕ) → ((us : List Token) (a : A) (z : List Token) → Stands form us a z → Stands other us (make a) z) → Begins A form ts k → Begins B other ts k
begins_as A B form other make ts k f b = begins_fill A B form other make [] ts k f b

-- behind some tokens
pub begins_behind : (A B : Type 0) (form : Form A) (other : Form B) (make : A → B) (pre m ts : List Token) (k : ℕ) → ts ≡ pre ++ m → ((us : List Token) (a : A) (z : List Token) → Stands form us a z → Stands other (pre ++ us) (make a) z) → Begins A form m k → Begins B other ts k
begins_behind A B form other make pre m ts k e f b = record {
  front = pre ++ b.front;
  back = b.back;
  whole = e ∙ ap (λ (l : List Token). pre ++ l) b.whole ∙ sym (append_assoc pre b.front b.back);
  left = b.left;
  value = make b.value;
  more = b.more;
  spelled = λ z. subst (λ (l : List Token). Stands other l (make b.value) z) (sym (append_assoc pre b.front (b.more ++ z))) (f (b.front ++ (b.more ++ z)) b.value z (b.spelled z));
}
