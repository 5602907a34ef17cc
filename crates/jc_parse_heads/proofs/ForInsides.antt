-- What is read of a `for` up to its body has its reach not behind what is left.
use Rattle.std.proofs.Common.{ℕ, zero, suc, ◌≤◌, List, [], ◌∷◌, length, arith}
use Rattle.jc_parse_expr.proofs.PrimeNears.{near_dims}
use Rattle.jc_parse_parts.proofs.PartInsides.{assigned_inside, modifier_ahead, type_inside, var_inside}
use Rattle.jc_lexer.specs.declared.token.Key.TheVariants as key_of
use Rattle.jc_lexer.specs.declared.token.Sign.TheVariants as sign_of
use Rattle.jc_lexer.specs.declared.token.Token.{Token}
use Rattle.jc_reading.specs.Kinds.{sign_code, key_code, word_code, one_of}
use Rattle.jc_reading.specs.Reading.{Read, Found, Stopped, Run, noting, becoming, in_turn, perhaps, of_kind, at_kind, an_ident_at, each_behind, commas_run, Either, This, That, either}
use Rattle.jc_reading.specs.Further.{tried, with_room}
use Rattle.jc_parse_type.specs.TypeReading.{dims_run, type_run}
use Rattle.jc_part_laws.specs.PartReading.{modifier_run, modifiers_run, var_run}
use Rattle.jc_expr_laws.specs.ExprReading.{exprs}
use Rattle.jc_unit_laws.specs.UnitReading.{effect_in_run, expr_in_run, for_head_made, for_head_run, for_named_run, for_rest_run, semicolon_run}
use Rattle.jc_reading.specs.Reach.{Within, Near}
use Rattle.jc_reading.proofs.Nears.{ahead_near, near_as, near_commas, near_each, near_either, near_perhaps, near_picking, near_room, near_turn, within_cond}
use Rattle.jc_parse_heads.specs.UnitCode.{for_opening, for_opening_run}
use Rattle.jc_parse_heads.specs.Beginnings.{modifier_codes}
use Rattle.jc_parse_heads.specs.HeadCode.{effecting_run, given_run, kinds_run, moded_run, resting_run, colon_codes, each_kind_run, tried_run}
use Rattle.jc_parse_heads.proofs.Aheads.{expr_inside, modifiers_inside}
use Rattle.jc_parse_heads.proofs.ForUpdates.{effect_inside}

semicolon : Near semicolon_run
semicolon = near_picking _

given_inside : (h : ℕ) → Near (given_run h)
given_inside h = near_perhaps (with_room h (in_turn (of_kind (sign_code sign_of.Assign)) (exprs.init h))) (assigned_inside h)

updating_inside : (h : ℕ) → Near (effect_in_run exprs h)
unfolding with_room
updating_inside zero ts = omega arith
updating_inside (suc k) ts = effect_inside k ts

rest_inside : (h : ℕ) → Near (for_rest_run exprs h)
unfolding for_rest_run
rest_inside h =
    near_turn semicolon_run _ semicolon (near_turn (perhaps (expr_in_run exprs h)) _ (near_perhaps (expr_in_run exprs h) (near_room h (exprs.expr h) (expr_inside h)))
    (near_turn semicolon_run (perhaps (commas_run (effect_in_run exprs h))) semicolon (near_perhaps (commas_run (effect_in_run exprs h)) (near_commas (effect_in_run exprs h) (updating_inside h)))))

kinds_inside : (h : ℕ) → Near (kinds_run h)
kinds_inside h =
    near_either colon_codes (each_kind_run h) (in_turn (given_run h) (resting_run h))
    (near_turn (of_kind (sign_code sign_of.Colon)) (exprs.expr h) (near_picking _) (expr_inside h))
    (near_turn (given_run h) (resting_run h) (given_inside h) (near_turn (each_behind sign_of.Comma (var_run exprs h)) (for_rest_run exprs h) (near_each sign_of.Comma (var_run exprs h) (var_inside h)) (rest_inside h)))

named_inside : (h : ℕ) → Near (for_named_run exprs h)
unfolding for_named_run
named_inside h = near_turn an_ident_at (in_turn dims_run (kinds_run h)) (near_picking _) (near_turn dims_run (kinds_run h) near_dims (kinds_inside h))

moded_inside : (h : ℕ) → Near (moded_run h)
moded_inside h =
    near_turn (modifier_run exprs h) _ (ahead_near (modifier_run exprs h) (modifier_ahead h)) (near_turn (modifiers_run exprs h) _ (modifiers_inside h)
    (near_turn (type_run h) (for_named_run exprs h) (type_inside h) (named_inside h)))

effecting_inside : (k : ℕ) → Near (effecting_run (suc k))
effecting_inside k = near_turn (commas_run (exprs.effect (suc k))) (for_rest_run exprs (suc k)) (near_commas (exprs.effect (suc k)) (effect_inside k)) (rest_inside (suc k))

-- one and more behind it, or the other

near_note : {A B : Type 0} (ts q : List Token) (l : ℕ) (f : A → B) (m : Read A) → l ≤ length ts → length q ≤ length ts → Within (length q) m → Within (length ts) (noting l (becoming f m))
near_note ts q l f (Found a r k) e g w = (omega (arith, w.0), omega (arith, w.1, g))
near_note ts q l f (Stopped k) e g w = omega (arith, w, e, g)

near_tried : {A B C : Type 0} (codes : List ℕ) (ts : List Token) (m : Read A) (k : Run C) (n : Run B) → Within (length ts) m → Near k → Near n → Within (length ts) (tried codes ts m k n)
near_tried {A = A} {B = B} {C = C} codes ts (Found a r l) k n w v u =
    let near : l ≤ length ts = omega (arith, w.0, w.1) in
    let same : length ts ≤ length ts = omega arith in
    let one : C → Either (A × C) B = λ c. This (a, c) in
    let other : B → Either (A × C) B = λ b. That b in
    within_cond (length ts) (one_of codes r) (noting l (becoming one (k r))) (noting l (becoming other (n ts))) (near_note ts r l one (k r) near w.1 (v r)) (near_note ts ts l other (n ts) near same (u ts))
near_tried {A = A} {B = B} {C = C} codes ts (Stopped l) k n w v u =
    let same : length ts ≤ length ts = omega arith in
    let other : B → Either (A × C) B = λ b. That b in
    near_note ts ts l other (n ts) w same (u ts)

tried_inside : (k : ℕ) → Near (tried_run (suc k))
tried_inside k ts = near_tried (word_code ∷ []) ts (type_run (suc k) ts) (for_named_run exprs (suc k)) (effecting_run (suc k)) (type_inside (suc k) ts) (named_inside (suc k)) (effecting_inside k)

head_inside : (k : ℕ) → Near (for_head_run exprs (suc k))
unfolding for_head_run
head_inside k =
    near_as for_head_made _
    (near_either (sign_code sign_of.Semicolon ∷ []) (for_rest_run exprs (suc k)) (either modifier_codes (moded_run (suc k)) (tried_run (suc k))) (rest_inside (suc k))
    (near_either modifier_codes (moded_run (suc k)) (tried_run (suc k)) (moded_inside (suc k)) (tried_inside k)))

pub for_inside : (h : ℕ) → Near (for_opening_run h)
unfolding for_opening_run with_room
for_inside zero ts = omega arith
for_inside (suc k) ts =
    near_as for_opening _ (near_turn (at_kind (key_code key_of.For)) _ (near_picking _) (near_turn (of_kind (sign_code sign_of.LeftParen)) _ (near_picking _)
    (near_turn (for_head_run exprs (suc k)) (of_kind (sign_code sign_of.RightParen)) (head_inside k) (near_picking _)))) ts
