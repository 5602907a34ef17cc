-- The operators of each level, told without the rule that no `>` before one touches it.
use Rattle.std.proofs.Common.{◌≡◌, ℕ, ◌≤◌, Bool, true, false, List, [], ◌∷◌, length, Some, None, refl, sym, ap, ◌∙◌, subst, ⊎_elim, arith}
use Rattle.std.proofs.lemmas.Bool.{false≢true, eqb-true, eq-eqb, or_left, or_right, or_cases, and_from, and_parts, cond-true, cond-false, cases_Bool}
use Rattle.std.specs.Prelude.{◌==◌, ◌&&◌, ◌||◌}
use Rattle.jc_lexer.specs.declared.token.Sign.{Sign}
use Rattle.jc_lexer.specs.declared.token.Sign.TheVariants as sign_of
use Rattle.jc_lexer.specs.declared.token.Token.{Token}
use Rattle.jc_lexer.specs.declared.token.TokenKind.TheVariants as kind_of
use Rattle.jc_tree.specs.declared.expression.BinaryOp.{BinaryOp}
use Rattle.jc_tree.specs.declared.expression.BinaryOp.TheVariants as binary_of
use Rattle.jc_grammar.specs.Told.{Told, Spelled, sign}
use Rattle.jc_grammar.specs.Expressions.{inner}
use Rattle.jc_grammar.specs.Shapes.{binary_level}
use Rattle.jc_reading.specs.Kinds.{kind_code, sign_code, is_in, one_of}
use Rattle.jc_reading.specs.Reading.{Run, Either, This, That, Takes}
use Rattle.jc_reading.proofs.Codes.{kind_is_sign, none_is}
use Rattle.jc_reading.proofs.Forms.{Form, Lawful}
use Rattle.jc_reading.proofs.Kindly.{token, token_laws}
use Rattle.jc_reading.proofs.Signs.{sign_laws}
use Rattle.jc_reading.proofs.Coded.{Coded, formed, coded, in_order, in_order_laws, one_or, one_or_laws, made_laws}
use Rattle.jc_reading.proofs.Prefers.{preferred, preferred_laws}
use Rattle.jc_part_laws.proofs.PartForms.{sign_form}
use Rattle.jc_part_laws.proofs.ExprForms.{expr_codes}
use Rattle.jc_expr_laws.specs.LevelReading.{picks_touching, or_else_op, and_also_op, or_op, xor_op, and_op, equal_op, less_op, shift_op, plus_op, times_op, or_else_run, and_also_run, or_run, xor_run, and_run, equal_run, less_run, shift_run, plus_run, times_run}
use Rattle.jc_expr_laws.proofs.LevelTests.{matches, acts}

-- a `>` that touches the next token

from_touching : (t : Token) (u : Unit {0}) → picks_touching t ≡ Some u → (t.kind ≡ kind_of.Sign sign_of.Greater) × (t.touches ≡ true)
from_touching t u e =
    ⊎_elim
    (λ (b : ((kind_code t.kind == sign_code sign_of.Greater) && t.touches) ≡ true).
    let p = and_parts (kind_code t.kind == sign_code sign_of.Greater) t.touches b in
    (kind_is_sign t.kind sign_of.Greater (eqb-true (kind_code t.kind) (sign_code sign_of.Greater) p.0), p.1))
    (λ (f : ((kind_code t.kind == sign_code sign_of.Greater) && t.touches) ≡ false). absurd (none_is u (sym (cond-false ((kind_code t.kind == sign_code sign_of.Greater) && t.touches) (Some tt) None f) ∙ e)))
    (cases_Bool ((kind_code t.kind == sign_code sign_of.Greater) && t.touches))

to_touching : (t : Token) → t.kind ≡ kind_of.Sign sign_of.Greater → t.touches ≡ true → picks_touching t ≡ Some tt
to_touching t k e =
    cond-true ((kind_code t.kind == sign_code sign_of.Greater) && t.touches) (Some tt) None
    (and_from (kind_code t.kind == sign_code sign_of.Greater) t.touches (eq-eqb (kind_code t.kind) (sign_code sign_of.Greater) (ap kind_code k)) e)

abbrev Touching : Form (Unit {0})
Touching = token (Unit {0}) (sign_code sign_of.Greater ∷ []) picks_touching (λ u. inner)

pub touching_laws : Lawful (Unit {0}) Touching
touching_laws = token_laws (Unit {0}) (sign_code sign_of.Greater ∷ []) picks_touching (λ u. inner) (record {
  tells = λ t u e. let w = from_touching t u e in (w.0, tt, λ q. w.1, λ q. absurd (false≢true q));
  picks = λ t u i. to_touching t i.0 (i.2 refl);
  coded = λ t u e. let w = from_touching t u e in subst (λ k. is_in (sign_code sign_of.Greater ∷ []) (kind_code k) ≡ true) (sym w.0) refl;
  apart = λ u. refl;
  sample = record { kind = kind_of.Sign sign_of.Greater; from = 0; to = 0; touches = true };
  value = tt;
  sampled = refl;
})

abbrev pub touching_form : Coded (Unit {0})
touching_form = coded Touching (sign_code sign_of.Greater ∷ []) []

-- the tokens of an operator, where any token may stand before it
abbrev pub flat_tokens : BinaryOp → Spelled
flat_tokens binary_of.Greater r = sign sign_of.Greater ∷ r
flat_tokens binary_of.GreaterEqual r = inner ∷ sign sign_of.Assign ∷ r
flat_tokens binary_of.ShiftRight r = inner ∷ sign sign_of.Greater ∷ r
flat_tokens binary_of.ShiftRightZero r = inner ∷ inner ∷ sign sign_of.Greater ∷ r
flat_tokens binary_of.OrElse r = sign sign_of.OrOr ∷ r
flat_tokens binary_of.AndAlso r = sign sign_of.AndAnd ∷ r
flat_tokens binary_of.Or r = sign sign_of.Or ∷ r
flat_tokens binary_of.Xor r = sign sign_of.Caret ∷ r
flat_tokens binary_of.And r = sign sign_of.And ∷ r
flat_tokens binary_of.Equal r = sign sign_of.Equal ∷ r
flat_tokens binary_of.NotEqual r = sign sign_of.NotEqual ∷ r
flat_tokens binary_of.Less r = sign sign_of.Less ∷ r
flat_tokens binary_of.LessEqual r = sign sign_of.LessEqual ∷ r
flat_tokens binary_of.ShiftLeft r = sign sign_of.ShiftLeft ∷ r
flat_tokens binary_of.Plus r = sign sign_of.Plus ∷ r
flat_tokens binary_of.Minus r = sign sign_of.Minus ∷ r
flat_tokens binary_of.Times r = sign sign_of.Star ∷ r
flat_tokens binary_of.Divide r = sign sign_of.Slash ∷ r
flat_tokens binary_of.Remainder r = sign sign_of.Percent ∷ r

abbrev pub op_coded : ℕ → Run BinaryOp → List ℕ → List ℕ → Coded BinaryOp
op_coded level run starts goes = record { tell = flat_tokens; fits = λ op. binary_level op == level; run = run; starts = starts; goes = goes; empties = false }

-- levels of one operator

pub or_else_laws : Lawful BinaryOp (formed (op_coded 2 or_else_run (sign_code sign_of.OrOr ∷ []) []))
unfolding or_else_run
or_else_laws = made_laws (Unit {0}) BinaryOp (sign_form sign_of.OrOr) or_else_op flat_tokens (λ op. binary_level op == 2) (sign_laws sign_of.OrOr)
    (record { told = λ u r g. refl; forth = λ u g. refl; back = back })
  where
    back : (op : BinaryOp) → (binary_level op == 2) ≡ true → (u : Unit {0}) × (or_else_op u ≡ op) × (true ≡ true)
    back binary_of.OrElse g = (tt, refl, refl)
    back _ g = absurd (false≢true g)

pub and_also_laws : Lawful BinaryOp (formed (op_coded 3 and_also_run (sign_code sign_of.AndAnd ∷ []) []))
unfolding and_also_run
and_also_laws = made_laws (Unit {0}) BinaryOp (sign_form sign_of.AndAnd) and_also_op flat_tokens (λ op. binary_level op == 3) (sign_laws sign_of.AndAnd)
    (record { told = λ u r g. refl; forth = λ u g. refl; back = back })
  where
    back : (op : BinaryOp) → (binary_level op == 3) ≡ true → (u : Unit {0}) × (and_also_op u ≡ op) × (true ≡ true)
    back binary_of.AndAlso g = (tt, refl, refl)
    back _ g = absurd (false≢true g)

pub or_laws : Lawful BinaryOp (formed (op_coded 4 or_run (sign_code sign_of.Or ∷ []) []))
unfolding or_run
or_laws = made_laws (Unit {0}) BinaryOp (sign_form sign_of.Or) or_op flat_tokens (λ op. binary_level op == 4) (sign_laws sign_of.Or)
    (record { told = λ u r g. refl; forth = λ u g. refl; back = back })
  where
    back : (op : BinaryOp) → (binary_level op == 4) ≡ true → (u : Unit {0}) × (or_op u ≡ op) × (true ≡ true)
    back binary_of.Or g = (tt, refl, refl)
    back _ g = absurd (false≢true g)

pub xor_laws : Lawful BinaryOp (formed (op_coded 5 xor_run (sign_code sign_of.Caret ∷ []) []))
unfolding xor_run
xor_laws = made_laws (Unit {0}) BinaryOp (sign_form sign_of.Caret) xor_op flat_tokens (λ op. binary_level op == 5) (sign_laws sign_of.Caret)
    (record { told = λ u r g. refl; forth = λ u g. refl; back = back })
  where
    back : (op : BinaryOp) → (binary_level op == 5) ≡ true → (u : Unit {0}) × (xor_op u ≡ op) × (true ≡ true)
    back binary_of.Xor g = (tt, refl, refl)
    back _ g = absurd (false≢true g)

pub and_laws : Lawful BinaryOp (formed (op_coded 6 and_run (sign_code sign_of.And ∷ []) []))
unfolding and_run
and_laws = made_laws (Unit {0}) BinaryOp (sign_form sign_of.And) and_op flat_tokens (λ op. binary_level op == 6) (sign_laws sign_of.And)
    (record { told = λ u r g. refl; forth = λ u g. refl; back = back })
  where
    back : (op : BinaryOp) → (binary_level op == 6) ≡ true → (u : Unit {0}) × (and_op u ≡ op) × (true ≡ true)
    back binary_of.And g = (tt, refl, refl)
    back _ g = absurd (false≢true g)

-- levels of two and of three

abbrev One : Type 0
One = Unit {0}

abbrev EqualForm : Coded (Either One One)
EqualForm = one_or (sign_code sign_of.Equal ∷ []) (sign_form sign_of.Equal) (sign_form sign_of.NotEqual)

pub equal_laws : Lawful BinaryOp (formed (op_coded 7 equal_run (sign_code sign_of.Equal ∷ sign_code sign_of.NotEqual ∷ []) []))
unfolding equal_run
equal_laws = made_laws (Either One One) BinaryOp EqualForm equal_op flat_tokens (λ op. binary_level op == 7)
    (one_or_laws One One (sign_code sign_of.Equal ∷ []) (sign_form sign_of.Equal) (sign_form sign_of.NotEqual) (sign_laws sign_of.Equal) (sign_laws sign_of.NotEqual) (record { solid = refl; solid' = refl; this = refl; that = refl }))
    (record { told = told; forth = forth; back = back })
  where
    told : (o : Either One One) (r : List Told) → EqualForm.fits o ≡ true → flat_tokens (equal_op o) r ≡ EqualForm.tell o r
    told (This u) r g = refl
    told (That u) r g = refl

    forth : (o : Either One One) → EqualForm.fits o ≡ true → (binary_level (equal_op o) == 7) ≡ true
    forth (This u) g = refl
    forth (That u) g = refl

    back : (op : BinaryOp) → (binary_level op == 7) ≡ true → (o : Either One One) × (equal_op o ≡ op) × (EqualForm.fits o ≡ true)
    back binary_of.Equal g = (This tt, refl, refl)
    back binary_of.NotEqual g = (That tt, refl, refl)
    back _ g = absurd (false≢true g)

abbrev PlusForm : Coded (Either One One)
PlusForm = one_or (sign_code sign_of.Plus ∷ []) (sign_form sign_of.Plus) (sign_form sign_of.Minus)

pub plus_laws : Lawful BinaryOp (formed (op_coded 10 plus_run (sign_code sign_of.Plus ∷ sign_code sign_of.Minus ∷ []) []))
unfolding plus_run
plus_laws = made_laws (Either One One) BinaryOp PlusForm plus_op flat_tokens (λ op. binary_level op == 10)
    (one_or_laws One One (sign_code sign_of.Plus ∷ []) (sign_form sign_of.Plus) (sign_form sign_of.Minus) (sign_laws sign_of.Plus) (sign_laws sign_of.Minus) (record { solid = refl; solid' = refl; this = refl; that = refl }))
    (record { told = told; forth = forth; back = back })
  where
    told : (o : Either One One) (r : List Told) → PlusForm.fits o ≡ true → flat_tokens (plus_op o) r ≡ PlusForm.tell o r
    told (This u) r g = refl
    told (That u) r g = refl

    forth : (o : Either One One) → PlusForm.fits o ≡ true → (binary_level (plus_op o) == 10) ≡ true
    forth (This u) g = refl
    forth (That u) g = refl

    back : (op : BinaryOp) → (binary_level op == 10) ≡ true → (o : Either One One) × (plus_op o ≡ op) × (PlusForm.fits o ≡ true)
    back binary_of.Plus g = (This tt, refl, refl)
    back binary_of.Minus g = (That tt, refl, refl)
    back _ g = absurd (false≢true g)

abbrev DivideForm : Coded (Either One One)
DivideForm = one_or (sign_code sign_of.Slash ∷ []) (sign_form sign_of.Slash) (sign_form sign_of.Percent)

abbrev TimesForm : Coded (Either One (Either One One))
TimesForm = one_or (sign_code sign_of.Star ∷ []) (sign_form sign_of.Star) DivideForm

pub times_laws : Lawful BinaryOp (formed (op_coded 11 times_run (sign_code sign_of.Star ∷ sign_code sign_of.Slash ∷ sign_code sign_of.Percent ∷ []) []))
unfolding times_run
times_laws = made_laws (Either One (Either One One)) BinaryOp TimesForm times_op flat_tokens (λ op. binary_level op == 11)
    (one_or_laws One (Either One One) (sign_code sign_of.Star ∷ []) (sign_form sign_of.Star) DivideForm (sign_laws sign_of.Star)
    (one_or_laws One One (sign_code sign_of.Slash ∷ []) (sign_form sign_of.Slash) (sign_form sign_of.Percent) (sign_laws sign_of.Slash) (sign_laws sign_of.Percent) (record { solid = refl; solid' = refl; this = refl; that = refl }))
    (record { solid = refl; solid' = refl; this = refl; that = refl }))
    (record { told = told; forth = forth; back = back })
  where
    told : (o : Either One (Either One One)) (r : List Told) → TimesForm.fits o ≡ true → flat_tokens (times_op o) r ≡ TimesForm.tell o r
    told (This u) r g = refl
    told (That (This u)) r g = refl
    told (That (That u)) r g = refl

    forth : (o : Either One (Either One One)) → TimesForm.fits o ≡ true → (binary_level (times_op o) == 11) ≡ true
    forth (This u) g = refl
    forth (That (This u)) g = refl
    forth (That (That u)) g = refl

    back : (op : BinaryOp) → (binary_level op == 11) ≡ true → (o : Either One (Either One One)) × (times_op o ≡ op) × (TimesForm.fits o ≡ true)
    back binary_of.Times g = (This tt, refl, refl)
    back binary_of.Divide g = (That (This tt), refl, refl)
    back binary_of.Remainder g = (That (That tt), refl, refl)
    back _ g = absurd (false≢true g)

-- runs of touching `>`: the longer one where both stand

longer_run : (s : Sign) (ts q r : List Token) → Takes false (inner ∷ sign s ∷ []) ts q → Takes false (sign sign_of.Greater ∷ []) ts r → (length q ≤ length r) × (one_of (sign_code s ∷ []) r ≡ true)
longer_run s [] q r f g = absurd f
longer_run s (t ∷ []) q r f g = absurd f.1
longer_run s (t ∷ u ∷ us) q r f g = (
  omega (arith, ap length f.1.1, ap length g.1),
  subst (λ (l : List Token). one_of (sign_code s ∷ []) l ≡ true) g.1
      (or_left (sign_code s == kind_code u.kind) false (eq-eqb (sign_code s) (kind_code u.kind) (sym (ap kind_code f.1.0.0)))),
)

abbrev pub run_form : Sign → Coded (Either (One × One) One)
run_form s = preferred (One × One) One (sign_code s ∷ []) (in_order touching_form (sign_form s)) (sign_form sign_of.Greater)

run_laws : (s : Sign) → Lawful (Either (One × One) One) (formed (run_form s))
run_laws s = preferred_laws (One × One) One (sign_code s ∷ []) (in_order touching_form (sign_form s)) (sign_form sign_of.Greater)
    (in_order_laws One One touching_form (sign_form s) touching_laws (sign_laws s) refl) (sign_laws sign_of.Greater)
    (record {
      solid = refl;
      solid' = refl;
      goes_first = λ r g. refl;
      goes_second = λ r g. refl;
      longer = λ ts a q b r f g. longer_run s ts q r f.0 g.0;
    })

abbrev ShiftForm : Coded (Either One (One × Either (One × One) One))
ShiftForm = one_or (sign_code sign_of.ShiftLeft ∷ []) (sign_form sign_of.ShiftLeft) (in_order touching_form (run_form sign_of.Greater))

pub shift_laws : Lawful BinaryOp (formed (op_coded 9 shift_run (sign_code sign_of.ShiftLeft ∷ sign_code sign_of.Greater ∷ []) (sign_code sign_of.Greater ∷ [])))
unfolding shift_run
shift_laws = made_laws (Either One (One × Either (One × One) One)) BinaryOp ShiftForm shift_op flat_tokens (λ op. binary_level op == 9)
    (one_or_laws One (One × Either (One × One) One) (sign_code sign_of.ShiftLeft ∷ []) (sign_form sign_of.ShiftLeft) (in_order touching_form (run_form sign_of.Greater)) (sign_laws sign_of.ShiftLeft)
    (in_order_laws One (Either (One × One) One) touching_form (run_form sign_of.Greater) touching_laws (run_laws sign_of.Greater) refl)
    (record { solid = refl; solid' = refl; this = refl; that = refl }))
    (record { told = told; forth = forth; back = back })
  where
    told : (o : Either One (One × Either (One × One) One)) (r : List Told) → ShiftForm.fits o ≡ true → flat_tokens (shift_op o) r ≡ ShiftForm.tell o r
    told (This u) r g = refl
    told (That (u, This p)) r g = refl
    told (That (u, That v)) r g = refl

    forth : (o : Either One (One × Either (One × One) One)) → ShiftForm.fits o ≡ true → (binary_level (shift_op o) == 9) ≡ true
    forth (This u) g = refl
    forth (That (u, This p)) g = refl
    forth (That (u, That v)) g = refl

    back : (op : BinaryOp) → (binary_level op == 9) ≡ true → (o : Either One (One × Either (One × One) One)) × (shift_op o ≡ op) × (ShiftForm.fits o ≡ true)
    back binary_of.ShiftLeft g = (This tt, refl, refl)
    back binary_of.ShiftRightZero g = (That (tt, This (tt, tt)), refl, refl)
    back binary_of.ShiftRight g = (That (tt, That tt), refl, refl)
    back _ g = absurd (false≢true g)

abbrev GreaterForm : Coded (Either One (Either (One × One) One))
GreaterForm = one_or (sign_code sign_of.LessEqual ∷ []) (sign_form sign_of.LessEqual) (run_form sign_of.Assign)

abbrev LessForm : Coded (Either One (Either One (Either (One × One) One)))
LessForm = one_or (sign_code sign_of.Less ∷ []) (sign_form sign_of.Less) GreaterForm

pub less_laws : Lawful BinaryOp (formed (op_coded 8 less_run (sign_code sign_of.Less ∷ sign_code sign_of.LessEqual ∷ sign_code sign_of.Greater ∷ sign_code sign_of.Greater ∷ []) (sign_code sign_of.Assign ∷ [])))
unfolding less_run
less_laws = made_laws (Either One (Either One (Either (One × One) One))) BinaryOp LessForm less_op flat_tokens (λ op. binary_level op == 8)
    (one_or_laws One (Either One (Either (One × One) One)) (sign_code sign_of.Less ∷ []) (sign_form sign_of.Less) GreaterForm (sign_laws sign_of.Less)
    (one_or_laws One (Either (One × One) One) (sign_code sign_of.LessEqual ∷ []) (sign_form sign_of.LessEqual) (run_form sign_of.Assign) (sign_laws sign_of.LessEqual) (run_laws sign_of.Assign)
    (record { solid = refl; solid' = refl; this = refl; that = refl }))
    (record { solid = refl; solid' = refl; this = refl; that = refl }))
    (record { told = told; forth = forth; back = back })
  where
    told : (o : Either One (Either One (Either (One × One) One))) (r : List Told) → LessForm.fits o ≡ true → flat_tokens (less_op o) r ≡ LessForm.tell o r
    told (This u) r g = refl
    told (That (This u)) r g = refl
    told (That (That (This p))) r g = refl
    told (That (That (That u))) r g = refl

    forth : (o : Either One (Either One (Either (One × One) One))) → LessForm.fits o ≡ true → (binary_level (less_op o) == 8) ≡ true
    forth (This u) g = refl
    forth (That (This u)) g = refl
    forth (That (That (This p))) g = refl
    forth (That (That (That u))) g = refl

    back : (op : BinaryOp) → (binary_level op == 8) ≡ true → (o : Either One (Either One (Either (One × One) One))) × (less_op o ≡ op) × (LessForm.fits o ≡ true)
    back binary_of.Less g = (This tt, refl, refl)
    back binary_of.LessEqual g = (That (This tt), refl, refl)
    back binary_of.GreaterEqual g = (That (That (This (tt, tt))), refl, refl)
    back binary_of.Greater g = (That (That (That tt)), refl, refl)
    back _ g = absurd (false≢true g)

-- the tokens of an operator as a test sees them

abbrev pub told_codes : List Told → List ℕ
told_codes [] = []
told_codes (d ∷ told) = kind_code d.kind ∷ told_codes told

pub told_match : (b : Bool) (told : List Told) (ts m : List Token) → Takes b told ts m → one_of expr_codes m ≡ true → matches (told_codes told) ts ≡ true
told_match b [] ts m s e = subst (λ (l : List Token). one_of expr_codes l ≡ true) (sym s) e
told_match b (d ∷ told) [] m s e = absurd s
told_match b (d ∷ told) (t ∷ ts) m s e =
    and_from (kind_code t.kind == kind_code d.kind) (matches (told_codes told) ts) (eq-eqb (kind_code t.kind) (kind_code d.kind) (ap kind_code s.0.0)) (told_match _ told ts m s.1 e)

abbrev same_codes : List ℕ → List ℕ → Bool
same_codes [] [] = true
same_codes [] (d ∷ ds) = false
same_codes (c ∷ cs) [] = false
same_codes (c ∷ cs) (d ∷ ds) = (c == d) && same_codes cs ds

are_same : (cs ds : List ℕ) → same_codes cs ds ≡ true → cs ≡ ds
are_same [] [] e = refl
are_same [] (d ∷ ds) e = absurd (false≢true e)
are_same (c ∷ cs) [] e = absurd (false≢true e)
are_same (c ∷ cs) (d ∷ ds) e =
    let p = and_parts (c == d) (same_codes cs ds) e in
    ap (λ (k : ℕ). k ∷ cs) (eqb-true c d p.0) ∙ ap (λ (l : List ℕ). d ∷ l) (are_same cs ds p.1)

abbrev pub has : List ℕ → List (List ℕ) → Bool
has op [] = false
has op (other ∷ ops) = same_codes op other || has op ops

pub has_acts : (op : List ℕ) (ops : List (List ℕ)) (ts : List Token) → has op ops ≡ true → matches op ts ≡ true → acts ops ts ≡ true
has_acts op [] ts h m = absurd (false≢true h)
has_acts op (other ∷ ops) ts h m =
    ⊎_elim (λ (e : same_codes op other ≡ true). or_left (matches other ts) (acts ops ts) (subst (λ (l : List ℕ). matches l ts ≡ true) (are_same op other e) m))
    (λ (e : has op ops ≡ true). or_right (matches other ts) (acts ops ts) (has_acts op ops ts e m)) (or_cases (same_codes op other) (has op ops) h)

pub op_acts : (ops : List (List ℕ)) (op : BinaryOp) (ts m : List Token) → has (told_codes (flat_tokens op [])) ops ≡ true → Takes false (flat_tokens op []) ts m → one_of expr_codes m ≡ true → acts ops ts ≡ true
op_acts ops op ts m h s e = has_acts (told_codes (flat_tokens op [])) ops ts h (told_match false (flat_tokens op []) ts m s e)

-- the operators of the levels, by their tokens

abbrev pub or_else_ops : List (List ℕ)
or_else_ops = (sign_code sign_of.OrOr ∷ []) ∷ []

abbrev pub and_also_ops : List (List ℕ)
and_also_ops = (sign_code sign_of.AndAnd ∷ []) ∷ []

abbrev pub or_ops : List (List ℕ)
or_ops = (sign_code sign_of.Or ∷ []) ∷ []

abbrev pub xor_ops : List (List ℕ)
xor_ops = (sign_code sign_of.Caret ∷ []) ∷ []

abbrev pub and_ops : List (List ℕ)
and_ops = (sign_code sign_of.And ∷ []) ∷ []

abbrev pub equal_ops : List (List ℕ)
equal_ops = (sign_code sign_of.Equal ∷ []) ∷ (sign_code sign_of.NotEqual ∷ []) ∷ []

abbrev pub less_ops : List (List ℕ)
less_ops = (sign_code sign_of.Less ∷ []) ∷ (sign_code sign_of.LessEqual ∷ []) ∷ (sign_code sign_of.Greater ∷ []) ∷ (sign_code sign_of.Greater ∷ sign_code sign_of.Assign ∷ []) ∷ []

abbrev pub shift_ops : List (List ℕ)
shift_ops = (sign_code sign_of.ShiftLeft ∷ []) ∷ (sign_code sign_of.Greater ∷ sign_code sign_of.Greater ∷ []) ∷ (sign_code sign_of.Greater ∷ sign_code sign_of.Greater ∷ sign_code sign_of.Greater ∷ []) ∷ []

abbrev pub plus_ops : List (List ℕ)
plus_ops = (sign_code sign_of.Plus ∷ []) ∷ (sign_code sign_of.Minus ∷ []) ∷ []

abbrev pub times_ops : List (List ℕ)
times_ops = (sign_code sign_of.Star ∷ []) ∷ (sign_code sign_of.Slash ∷ []) ∷ (sign_code sign_of.Percent ∷ []) ∷ []

abbrev pub HasAll : ℕ → List (List ℕ) → Type 0
HasAll level ops = (op : BinaryOp) → (binary_level op == level) ≡ true → has (told_codes (flat_tokens op [])) ops ≡ true

pub has_or_else : HasAll 2 or_else_ops
has_or_else binary_of.OrElse g = refl
has_or_else _ g = absurd (false≢true g)

pub has_and_also : HasAll 3 and_also_ops
has_and_also binary_of.AndAlso g = refl
has_and_also _ g = absurd (false≢true g)

pub has_or : HasAll 4 or_ops
has_or binary_of.Or g = refl
has_or _ g = absurd (false≢true g)

pub has_xor : HasAll 5 xor_ops
has_xor binary_of.Xor g = refl
has_xor _ g = absurd (false≢true g)

pub has_and : HasAll 6 and_ops
has_and binary_of.And g = refl
has_and _ g = absurd (false≢true g)

pub has_equal : HasAll 7 equal_ops
has_equal binary_of.Equal g = refl
has_equal binary_of.NotEqual g = refl
has_equal _ g = absurd (false≢true g)

pub has_less : HasAll 8 less_ops
has_less binary_of.Less g = refl
has_less binary_of.LessEqual g = refl
has_less binary_of.GreaterEqual g = refl
has_less binary_of.Greater g = refl
has_less _ g = absurd (false≢true g)

pub has_shift : HasAll 9 shift_ops
has_shift binary_of.ShiftLeft g = refl
has_shift binary_of.ShiftRight g = refl
has_shift binary_of.ShiftRightZero g = refl
has_shift _ g = absurd (false≢true g)

pub has_plus : HasAll 10 plus_ops
has_plus binary_of.Plus g = refl
has_plus binary_of.Minus g = refl
has_plus _ g = absurd (false≢true g)

pub has_times : HasAll 11 times_ops
has_times binary_of.Times g = refl
has_times binary_of.Divide g = refl
has_times binary_of.Remainder g = refl
has_times _ g = absurd (false≢true g)
