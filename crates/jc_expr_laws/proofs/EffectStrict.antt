-- Before a sign that ends it an effect is found without a step back.
use Rattle.std.proofs.Common.{◌≡◌, ℕ, ◌-◌, ◌≤◌, min, Bool, true, false, cond, List, length, Option, refl, sym, ap, ◌∙◌, subst, ⊎_elim, ◌⊎◌, inl, inr, arith}
use Rattle.std.proofs.lemmas.Bool.{false≢true, cases_Bool}
use Rattle.jc_lexer.specs.declared.token.Token.{Token}
use Rattle.jc_tree.specs.declared.expression.AssignOp.{AssignOp}
use Rattle.jc_tree.specs.declared.expression.Expr.{Expr}
use Rattle.jc_grammar.specs.Shapes.{is_effect}
use Rattle.jc_reading.specs.Kinds.{one_of}
use Rattle.jc_reading.specs.Reading.{Read, Found, Stopped, Run, noting, ◌>>=◌, becoming, joined, in_turn, Either, This, That}
use Rattle.jc_reading.proofs.Steps.{Good, Goes, IsFound, reach}
use Rattle.jc_reading.proofs.Forms.{Form, Lawful}
use Rattle.jc_reading.proofs.Coded.{formed}
use Rattle.jc_reading.specs.Reach.{Within}
use Rattle.jc_expr_laws.specs.LevelReading.{prefix_run, assign_run, none_at}
use Rattle.jc_expr_laws.specs.EffectReading.{longest_passing, with_none, closed_by, closing_on, closing, strictly_by, strictly_on, strictly_closing, crement_op_run, crement_codes, effect_made, effect_run, strict_effect_run}
use Rattle.jc_expr_laws.proofs.LevelPrefixes.{post_goes}
use Rattle.jc_expr_laws.proofs.LevelCasts.{post_coded}
use Rattle.jc_expr_laws.proofs.EffectEnds.{Passing, reach_longest, sound_longest}

abbrev value_of : {A : Type 0} → A → Read A → A
value_of o (Found c z n) = c
value_of o (Stopped n) = o

-- the one finds by a step back what the other doesn't find, and more goes on behind it
pub record Back (A : Type 0) (goes_on : List Token → Bool) (m n : Read A) : Type 0 where
  pub value : A
  pub rest : List Token
  pub left : ℕ
  pub finds : m ≡ Found value rest left
  pub stops : n ≡ Stopped left
  pub goes : goes_on rest ≡ true
  pub near : left ≤ length rest

abbrev pub Nearly : (A : Type 0) → (List Token → Bool) → Read A → Read A → Type 0
Nearly A goes_on m n = (m ≡ n) ⊎ Back A goes_on m n

pub nearly_becoming : {A B : Type 0} (goes_on : List Token → Bool) (f : A → B) (m n : Read A) → Nearly A goes_on m n → Nearly B goes_on (becoming f m) (becoming f n)
nearly_becoming goes_on f m n h =
    ⊎_elim (λ e. inl (ap (becoming f) e))
    (λ w. inr (record { value = f w.value; rest = w.rest; left = w.left; finds = ap (becoming f) w.finds; stops = ap (becoming f) w.stops; goes = w.goes; near = w.near })) h

-- what is behind stops where more could go on
pub nearly_bind : {A C : Type 0} (goes_on : List Token → Bool) (m n : Read A) (next : A → List Token → Read C) → Nearly A goes_on m n → ((a : A) (q : List Token) → goes_on q ≡ true → next a q ≡ Stopped (length q)) → (m >>= next) ≡ (n >>= next)
nearly_bind {A} {C} goes_on m n next h stops =
    ⊎_elim (λ e. ap (λ (x : Read A). x >>= next) e)
    (λ w.
    let k : min w.left (length w.rest) ≡ w.left = omega (arith, w.near) in
    ap (λ (x : Read A). x >>= next) w.finds ∙ ap (noting w.left) (stops w.value w.rest w.goes) ∙ ap (λ (j : ℕ). Stopped j) k ∙ sym (ap (λ (x : Read A). x >>= next) w.stops)) h

module _ (A B : Type 0) (passes : A → Bool) (fa : Form A) (la : Lawful A fa) (more : Run B) where
  module _ (ts : List Token) (a : A) (r : List Token) (l : ℕ) (it : fa.run ts ≡ Found a r l) where
    abbrev Longest : ℕ → Read A
    Longest n = longest_passing passes fa.run ts (min l n) (length ts - length r)

    other : passes a ≡ false → (b : A) (q : List Token) → Passing A passes fa la ts b q → IsFound b q (fa.run ts) → ⊥
    other fails b q s w = false≢true (sym fails ∙ ap passes (ap (value_of a) (sym it ∙ w.1)) ∙ s.1)

    goes_behind : passes a ≡ false → (b : A) (q : List Token) → Passing A passes fa la ts b q → fa.goes_on q ≡ true
    goes_behind fails b q s =
        ⊎_elim (λ (t : fa.goes_on q ≡ true). t) (λ (f : fa.goes_on q ≡ false). absurd (other fails b q s (la.exact ts b q s.0 f))) (cases_Bool (fa.goes_on q))

    later : (b : A) (q : List Token) → Passing A passes fa la ts b q → length r ≤ length q
    later b q s = subst (λ (m : Read A). Goes (length q) m) it (la.longest ts b q s.0)

    reached : l ≤ length r
    reached = (subst (λ (m : Read A). Within (length ts) m) it (la.within ts)).0

    stepped : passes a ≡ false → (n : ℕ) (m : Read A) → Good (Passing A passes fa la ts) m → reach m ≡ min l n → Nearly (A × Option B) fa.goes_on (becoming with_none m) (Stopped (min l n))
    stepped fails n (Found b q k) g e =
        let h = later b q g in
        inr (record { value = with_none b; rest = q; left = min l n; finds = ap (λ (j : ℕ). Found (with_none b) q j) e; stops = refl; goes = goes_behind fails b q g; near = omega (arith, h, reached) })
    stepped fails n (Stopped k) g e = inl (ap (λ (j : ℕ). Stopped j) e)

    same_alone : (n : ℕ) (b : Bool) → passes a ≡ b → Nearly (A × Option B) fa.goes_on (becoming with_none (cond b (Found a r (min l n)) (Longest n))) (cond b (Found (with_none a) r (min l n)) (Stopped (min l n)))
    same_alone n true e = inl refl
    same_alone n false e = stepped e n (Longest n) (sound_longest A passes fa la ts (min l n) (length ts - length r)) (reach_longest A passes fa la ts (min l n) (length ts - length r))

    same_after : (m : Read B) → Nearly (A × Option B) fa.goes_on (closed_by passes fa.run ts a r l m) (strictly_by passes a r l m)
    same_after (Found b q n) = inl refl
    same_after (Stopped n) = same_alone n (passes a) refl

  same_on : (ts : List Token) (m : Read A) → fa.run ts ≡ m → Nearly (A × Option B) fa.goes_on (closing_on passes fa.run ts m more) (strictly_on passes m more)
  same_on ts (Found a r l) it = same_after ts a r l it (more r)
  same_on ts (Stopped l) it = inl refl

  pub closing_nearly : (ts : List Token) → Nearly (A × Option B) fa.goes_on (closing passes fa.run more ts) (strictly_closing passes fa.run more ts)
  unfolding closing strictly_closing
  closing_nearly ts = same_on ts (fa.run ts) refl

module _ (h : ℕ) (bare post expr : Run Expr) (lp : Lawful Expr (formed (post_coded h post))) where
  abbrev Whole : Run Expr
  Whole = effect_run bare post expr

  abbrev Strict : Run Expr
  Strict = strict_effect_run bare post expr

  either_nearly : {B : Type 0} (c : Bool) (p : Read Expr) (m n : Read B) → Nearly B (one_of post_goes) m n → Nearly (Either Expr B) (one_of post_goes) (cond c (becoming This p) (becoming That m)) (cond c (becoming This p) (becoming That n))
  either_nearly true p m n e = inl refl
  either_nearly false p m n e = nearly_becoming (one_of post_goes) That m n e

  pub effect_nearly : (ts : List Token) → Nearly Expr (one_of post_goes) (Whole ts) (Strict ts)
  unfolding effect_run strict_effect_run
  effect_nearly ts =
      let m = closing is_effect post (in_turn assign_run expr) ts in
      let n = strictly_closing is_effect post (in_turn assign_run expr) ts in
      nearly_becoming (one_of post_goes) effect_made (cond (one_of crement_codes ts) (becoming This (prefix_run crement_op_run bare ts)) (becoming That m)) (cond (one_of crement_codes ts) (becoming This (prefix_run crement_op_run bare ts)) (becoming That n))
      (either_nearly (one_of crement_codes ts) (prefix_run crement_op_run bare ts) m n (closing_nearly Expr (AssignOp × Expr) is_effect (formed (post_coded h post)) lp (in_turn assign_run expr) ts))

-- where no value is read at all
pub no_effect_nearly : (bare expr : Run Expr) (ts : List Token) → Nearly Expr (one_of post_goes) (effect_run bare none_at expr ts) (strict_effect_run bare none_at expr ts)
unfolding effect_run strict_effect_run closing strictly_closing
no_effect_nearly bare expr ts = inl refl

-- one of the two before what stops where more could go on
pub effect_then : (Whole Strict : Run Expr) → ((ts : List Token) → Nearly Expr (one_of post_goes) (Whole ts) (Strict ts)) → (C : Type 0) (last : Run C) → ((q : List Token) → one_of post_goes q ≡ true → last q ≡ Stopped (length q)) → (ts : List Token) → in_turn Whole last ts ≡ in_turn Strict last ts
effect_then Whole Strict nearly C last stops ts = nearly_bind (one_of post_goes) (Whole ts) (Strict ts) (λ e q. becoming (joined e) (last q)) (nearly ts) (λ e q g. ap (becoming (joined e)) (stops q g))
