-- Effects before the signs that end them, as the code reads them.
use Rattle.std.proofs.Common.{◌≡◌, ℕ, zero, suc, false, List, length, refl, ap}
use Rattle.jc_lexer.specs.declared.token.Sign.{Sign}
use Rattle.jc_lexer.specs.declared.token.Sign.TheVariants as sign_of
use Rattle.jc_lexer.specs.declared.token.Token.{Token}
use Rattle.jc_tree.specs.declared.expression.Expr.{Expr}
use Rattle.jc_reading.specs.Kinds.{sign_code, is_in, one_of}
use Rattle.jc_reading.specs.Reading.{Read, Stopped, Run, ◌>>=◌, becoming, joined, in_turn, of_kind, commas_run}
use Rattle.jc_expr_laws.specs.ExprReading.{readers, exprs, strict_effect}
use Rattle.jc_expr_laws.proofs.LevelPrefixes.{post_goes}
use Rattle.jc_expr_laws.proofs.LevelKnot.{all_laws}
use Rattle.jc_expr_laws.proofs.EffectStrict.{Nearly, effect_nearly, no_effect_nearly, effect_then}
use Rattle.jc_expr_laws.proofs.EffectCommas.{after_codes, kind_stops, effects_then}

pub turn_stops : {A B : Type 0} (m : Run A) (n : Run B) (q : List Token) → m q ≡ Stopped (length q) → in_turn m n q ≡ Stopped (length q)
turn_stops {A} m n q e = ap (λ (x : Read A). x >>= (λ a z. becoming (joined a) (n z))) e

nearly_at : (h : ℕ) (ts : List Token) → Nearly Expr (one_of post_goes) (exprs.effect h ts) (strict_effect h ts)
unfolding readers
nearly_at zero ts = no_effect_nearly (readers zero).levels.bare (readers zero).levels.expr ts
nearly_at (suc h) ts = effect_nearly (suc h) (readers (suc h)).levels.bare (readers (suc h)).post (readers (suc h)).levels.expr (all_laws h).post_law ts

-- an effect and its semicolon
pub effect_and_semicolon : (h : ℕ) (ts : List Token) → in_turn (exprs.effect h) (of_kind (sign_code sign_of.Semicolon)) ts ≡ in_turn (strict_effect h) (of_kind (sign_code sign_of.Semicolon)) ts
effect_and_semicolon h ts = effect_then (exprs.effect h) (strict_effect h) (nearly_at h) (Unit {0}) (of_kind (sign_code sign_of.Semicolon)) (kind_stops (sign_code sign_of.Semicolon) post_goes refl refl) ts

-- effects with commas between them, and what begins with a sign
pub effects_and_sign : (s : Sign) (h : ℕ) (ts : List Token) → is_in after_codes (sign_code s) ≡ false → in_turn (commas_run (exprs.effect h)) (of_kind (sign_code s)) ts ≡ in_turn (commas_run (strict_effect h)) (of_kind (sign_code s)) ts
effects_and_sign s h ts n = effects_then (exprs.effect h) (strict_effect h) (nearly_at h) (Unit {0}) (of_kind (sign_code s)) (kind_stops (sign_code s) after_codes n refl) ts

pub effects_and_more : (s : Sign) {C : Type 0} (last : Run C) (h : ℕ) (ts : List Token) → is_in after_codes (sign_code s) ≡ false →
    in_turn (commas_run (exprs.effect h)) (in_turn (of_kind (sign_code s)) last) ts ≡ in_turn (commas_run (strict_effect h)) (in_turn (of_kind (sign_code s)) last) ts
effects_and_more s {C} last h ts n =
    effects_then (exprs.effect h) (strict_effect h) (nearly_at h) (Unit {0} × C) (in_turn (of_kind (sign_code s)) last)
    (λ q e. turn_stops (of_kind (sign_code s)) last q (kind_stops (sign_code s) after_codes n refl q e)) ts
