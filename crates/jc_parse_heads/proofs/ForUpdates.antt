-- Updates of a `for` and the right parenthesis behind them, as the code reads them.
use Rattle.std.proofs.Common.{◌≡◌, ℕ, zero, suc, ◌≤◌, ◌<◌, min, true, false, List, [], ◌∷◌, length, Some, None, refl, sym, ap, ◌∙◌, subst, ⊎_elim, arith}
use Rattle.std.proofs.lemmas.Bool.{false≢true, cases_Bool, eqb-true, eq-eqb, or_left}
use Rattle.std.specs.Prelude.{◌==◌, ◌||◌}
use Rattle.jc_lexer.specs.declared.token.Sign.TheVariants as sign_of
use Rattle.jc_lexer.specs.declared.token.Token.{Token}
use Rattle.jc_tree.specs.declared.expression.Expr.{Expr}
use Rattle.jc_reading.specs.Kinds.{sign_code, front_code, one_of}
use Rattle.jc_reading.specs.Reading.{Read, Found, Stopped, Run, noting, becoming, joined, ◌>>=◌, perhaps_from, before_it, each_behind, first_and_more, commas_run}
use Rattle.jc_reading.specs.Further.{with_room}
use Rattle.jc_reading.proofs.Signs.{apart_sets}
use Rattle.jc_reading.proofs.Steps.{Refuses, reach}
use Rattle.jc_part_laws.proofs.ExprForms.{expr_codes}
use Rattle.jc_expr_laws.specs.ExprReading.{exprs, readers, strict_effect}
use Rattle.jc_expr_laws.proofs.EffectEndings.{effects_and_sign}
use Rattle.jc_expr_laws.proofs.EffectStrict.{Back, Nearly, effect_nearly, no_effect_nearly}
use Rattle.jc_expr_laws.proofs.ExprWhole.{expr_laws}
use Rattle.jc_expr_laws.proofs.LevelPrefixes.{post_goes}
use Rattle.jc_expr_laws.proofs.LevelKnot.{all_laws}
use Rattle.jc_unit_laws.specs.UnitReading.{effect_in_run}
use Rattle.jc_reading.specs.Reach.{Within, Near}
use Rattle.jc_reading.proofs.Nears.{near_commas}
use Rattle.jc_parse_heads.proofs.Joinings.{room_gone, room_there}
use Rattle.jc_parse_heads.specs.HeadCode.{effects_run, effects_in_run, no_updates, parens_end, updates_made, updates_run}
use Rattle.jc_parse_expr.proofs.Quiets.{kind_quiet as kind_gone}

-- an effect

pub effect_inside : (k : ℕ) → Near (exprs.effect (suc k))
effect_inside k ts = (expr_laws.effect k).within ts

nearly_at : (h : ℕ) (ts : List Token) → Nearly Expr (one_of post_goes) (exprs.effect h ts) (strict_effect h ts)
unfolding readers
nearly_at zero ts = no_effect_nearly (readers zero).levels.bare (readers zero).levels.expr ts
nearly_at (suc h) ts = effect_nearly (suc h) (readers (suc h)).levels.bare (readers (suc h)).post (readers (suc h)).levels.expr (all_laws h).post_law ts

abbrev stopped_at : ℕ → Read Expr
stopped_at l = Stopped l

near_strict : (ts : List Token) (m n : Read Expr) → Within (length ts) m → Nearly Expr (one_of post_goes) m n → Within (length ts) n
near_strict ts m n w h =
    ⊎_elim (λ (e : m ≡ n). subst (λ (v : Read Expr). Within (length ts) v) e w)
    (λ (b : Back Expr (one_of post_goes) m n).
    let found : Within (length ts) (Found b.value b.rest b.left) = subst (λ (v : Read Expr). Within (length ts) v) b.finds w in
    let stopped : Within (length ts) (stopped_at b.left) = omega (arith, found.0, found.1) in
    subst (λ (v : Read Expr). Within (length ts) v) (sym b.stops) stopped) h

strict_within : (k : ℕ) → Near (strict_effect (suc k))
strict_within k ts = near_strict ts (exprs.effect (suc k) ts) (strict_effect (suc k) ts) (effect_inside k ts) (nearly_at (suc k) ts)

pub strict_inside : (h : ℕ) → 0 < h → Near (strict_effect h)
strict_inside zero n = let no : ⊥ = omega (arith, n) in absurd no
strict_inside (suc k) n = strict_within k

-- no effect begins with a right parenthesis

abbrev Close : List ℕ
Close = sign_code sign_of.RightParen ∷ []

abbrev Stops : {A : Type 0} → Read A → Type 0
Stops {A = A} m = (l : ℕ) × (m ≡ Stopped l)

refused : {A : Type 0} (ts : List Token) (m : Read A) → Refuses false ts m → Stops m
refused ts (Found a r l) w = absurd (false≢true w.0)
refused ts (Stopped l) w = (l, refl)

effect_refused : (k : ℕ) (ts : List Token) → one_of Close ts ≡ true → Stops (exprs.effect (suc k) ts)
effect_refused k ts e = refused ts (exprs.effect (suc k) ts) ((expr_laws.effect k).refuses ts (apart_sets Close expr_codes refl (front_code ts) e))

not_both : {A : Type 0} (a : A) (r : List Token) (l k : ℕ) → Found a r l ≡ Stopped k → ⊥
not_both {A = A} a r l k e = subst (λ (v : Read A). Is_found v) e tt
  where
    Is_found : Read A → Type 0
    Is_found (Found b q j) = Unit {0}
    Is_found (Stopped j) = ⊥

strict_refused : (k : ℕ) (ts : List Token) → one_of Close ts ≡ true → Stops (strict_effect (suc k) ts)
strict_refused k ts e =
    let w = effect_refused k ts e in
    ⊎_elim (λ (s : exprs.effect (suc k) ts ≡ strict_effect (suc k) ts). (w.0, sym s ∙ w.1))
    (λ (b : Back Expr (one_of post_goes) (exprs.effect (suc k) ts) (strict_effect (suc k) ts)). (b.left, b.stops)) (nearly_at (suc k) ts)

commas_refused : (run : Run Expr) (ts : List Token) → Stops (run ts) → Stops (commas_run run ts)
commas_refused run ts w = (w.0, ap (λ (v : Read Expr). becoming first_and_more (v >>= (λ a q. becoming (joined a) (each_behind sign_of.Comma run q)))) w.1)

-- where something is read no right parenthesis stands there

abbrev Quiet : List Token → Read (List Expr) → Type 0
Quiet ts m = one_of Close ts ≡ true → Stops m

other_code : (code n : ℕ) → ((code == n) || false) ≡ false → (n == code) ≡ false
other_code code n e =
    ⊎_elim (λ (t : (n == code) ≡ true). absurd (false≢true (sym e ∙ or_left (code == n) false (eq-eqb code n (sym (eqb-true n code t))))))
    (λ (f : (n == code) ≡ false). f) (cases_Bool (n == code))

end_stops : (ts : List Token) → one_of Close ts ≡ false → parens_end ts ≡ Stopped (length ts)
end_stops ts e = kind_gone (sign_code sign_of.RightParen) ts e

no_end : (ts : List Token) (a : List Expr) (r : List Token) (l : ℕ) → Quiet ts (Found a r l) → parens_end ts ≡ Stopped (length ts)
no_end ts a r l w = ⊎_elim (λ (t : one_of Close ts ≡ true). absurd (not_both a r l (w t).0 (w t).1)) (λ (f : one_of Close ts ≡ false). end_stops ts f) (cases_Bool (one_of Close ts))

abbrev Then : {A : Type 0} → Read A → Read (A × Unit {0})
Then m = m >>= (λ a q. becoming (joined a) (parens_end q))

abbrev Update : List Token → Read (List Expr) → Read (List Expr)
Update ts m = becoming updates_made (Then (perhaps_from ts m))

some_part : (a : List Expr) (l : ℕ) (v : Read (Unit {0})) → becoming updates_made (noting l (becoming (joined (Some a)) v)) ≡ becoming before_it (noting l (becoming (joined a) v))
some_part a l (Found u r k) = refl
some_part a l (Stopped k) = refl

-- nothing but what stops there
gone : (ts : List Token) (k : ℕ) → k ≤ length ts → parens_end ts ≡ Stopped (length ts) → Update ts (Stopped k) ≡ Stopped k
gone ts k w e = ap (λ (v : Read (Unit {0})). becoming updates_made (noting k (becoming (joined None) v))) e ∙ (let m : min k (length ts) ≡ k = omega (arith, w) in ap (λ (i : ℕ). Stopped i) m)

alike : (ts : List Token) (m n : Read (List Expr)) → Then m ≡ Then n → Quiet ts m → Quiet ts n → Within (length ts) m → Within (length ts) n → Update ts m ≡ Update ts n
alike ts (Found a r l) (Found b q k) p u v w x = some_part a l (parens_end r) ∙ ap (becoming before_it) p ∙ sym (some_part b k (parens_end q))
alike ts (Found a r l) (Stopped k) p u v w x = some_part a l (parens_end r) ∙ ap (becoming before_it) p ∙ sym (gone ts k x (no_end ts a r l u))
alike ts (Stopped l) (Found b q k) p u v w x = gone ts l w (no_end ts b q k v) ∙ ap (becoming before_it) p ∙ sym (some_part b k (parens_end q))
alike ts (Stopped l) (Stopped k) p u v w x = let e : l ≡ k = ap reach p in ap (λ (j : ℕ). Update ts (Stopped j)) e

updates_alike : (h : ℕ) (ts : List Token) → Update ts (commas_run (effect_in_run exprs h) ts) ≡ Update ts (effects_in_run h ts)
unfolding effects_in_run with_room
updates_alike zero ts = refl
updates_alike (suc k) ts =
    alike ts (commas_run (exprs.effect (suc k)) ts) (commas_run (strict_effect (suc k)) ts) (effects_and_sign sign_of.RightParen (suc k) ts refl)
    (λ e. commas_refused (exprs.effect (suc k)) ts (effect_refused k ts e)) (λ e. commas_refused (strict_effect (suc k)) ts (strict_refused k ts e))
    (near_commas (exprs.effect (suc k)) (effect_inside k) ts) (near_commas (strict_effect (suc k)) (strict_within k) ts)

pub updates_is : (h : ℕ) (ts : List Token) → updates_run h ts ≡ Update ts (effects_in_run h ts)
unfolding updates_run
updates_is h ts = updates_alike h ts

value_part : (a : List Expr) (l : ℕ) (v : Read (Unit {0})) → becoming before_it (noting l (becoming (joined a) v)) ≡ noting l (becoming (λ (u : Unit {0}). a) v)
value_part a l (Found u r k) = refl
value_part a l (Stopped k) = refl

pub updates_found : (h : ℕ) (ts q : List Token) (effects : List Expr) (l : ℕ) → effects_in_run h ts ≡ Found effects q l → updates_run h ts ≡ noting l (becoming (λ (u : Unit {0}). effects) (parens_end q))
updates_found h ts q effects l e = updates_is h ts ∙ ap (Update ts) e ∙ some_part effects l (parens_end q) ∙ value_part effects l (parens_end q)

none_part : (l : ℕ) (v : Read (Unit {0})) → becoming updates_made (noting l (becoming (joined None) v)) ≡ noting l (becoming no_updates v)
none_part l (Found u r k) = refl
none_part l (Stopped k) = refl

pub updates_stop : (h : ℕ) (ts : List Token) (l : ℕ) → effects_in_run h ts ≡ Stopped l → updates_run h ts ≡ noting l (becoming no_updates (parens_end ts))
updates_stop h ts l e = updates_is h ts ∙ ap (Update ts) e ∙ none_part l (parens_end ts)

pub effects_in_none : (h : ℕ) (ts : List Token) → h ≡ 0 → effects_in_run h ts ≡ Stopped (length ts)
unfolding effects_in_run
effects_in_none h ts e = room_gone h (commas_run (strict_effect h)) ts e

pub effects_in_there : (h : ℕ) (ts : List Token) → (h ≡ 0 → ⊥) → effects_in_run h ts ≡ effects_run h ts
unfolding effects_in_run
effects_in_there h ts n = room_there h (commas_run (strict_effect h)) ts n

pub positive : (n : ℕ) → (n ≡ 0 → ⊥) → 0 < n
positive zero f = absurd (f refl)
positive (suc n) f = omega arith
