-- Effects with commas between them, before a sign that ends them, are found without a step back.
use Rattle.std.proofs.Common.{◌≡◌, ℕ, zero, suc, ◌≤◌, min, Bool, true, false, cond, List, [], ◌∷◌, length, Option, Some, None, refl, sym, ap, ◌∙◌, subst, ⊎_elim, arith}
use Rattle.std.proofs.lemmas.Bool.{false≢true, cases_Bool, eqb-true, eq-eqb, or_left, or_right}
use Rattle.std.specs.Prelude.{◌==◌}
use Rattle.jc_lexer.specs.declared.token.Sign.TheVariants as sign_of
use Rattle.jc_lexer.specs.declared.token.Token.{Token}
use Rattle.jc_tree.specs.declared.expression.Expr.{Expr}
use Rattle.jc_reading.specs.Kinds.{kind_code, sign_code, is_in, front_code, one_of}
use Rattle.jc_reading.specs.Reading.{Read, Found, Stopped, Run, found, noting, ◌>>=◌, becoming, joined, in_turn, one_more, times, any_number, on_pick, of_kind, first_and_more, commas_run}
use Rattle.jc_reading.proofs.Steps.{reach}
use Rattle.jc_expr_laws.proofs.LevelPrefixes.{post_goes}
use Rattle.jc_expr_laws.proofs.EffectStrict.{Nearly, nearly_bind}

abbrev comma : ℕ
comma = sign_code sign_of.Comma

abbrev Next : Run Expr → Run (Unit {0} × Expr)
Next run = in_turn (of_kind comma) run

-- what ends a list of effects stops at a comma and where more of an effect could go on
abbrev pub after_codes : List ℕ
after_codes = comma ∷ post_goes

abbrev pub Ending : {A C : Type 0} → (A → List Token → Read C) → Type 0
Ending {A} next = (a : A) (q : List Token) → one_of after_codes q ≡ true → next a q ≡ Stopped (length q)

bind_becoming : {A B C : Type 0} (f : A → B) (m : Read A) (j : B → List Token → Read C) → (becoming f m >>= j) ≡ (m >>= (λ a q. j (f a) q))
bind_becoming f (Found a r l) j = refl
bind_becoming f (Stopped l) j = refl

noting_twice : {C : Type 0} (k l : ℕ) (m : Read C) → noting (min k l) m ≡ noting k (noting l m)
noting_twice k l (Found c q n) = ap (λ (i : ℕ). Found c q i) (omega arith)
noting_twice k l (Stopped n) = ap (λ (i : ℕ). Stopped i) (omega arith)

noting_bind : {A C : Type 0} (k : ℕ) (m : Read A) (j : A → List Token → Read C) → (noting k m >>= j) ≡ noting k (m >>= j)
noting_bind k (Found a r l) j = noting_twice k l (j a r)
noting_bind k (Stopped l) j = refl

bind_bind : {A B C : Type 0} (m : Read A) (f : A → List Token → Read B) (g : B → List Token → Read C) → ((m >>= f) >>= g) ≡ (m >>= (λ a q. f a q >>= g))
bind_bind (Found a r l) f g = noting_bind l (f a r) g
bind_bind (Stopped l) f g = refl

bind_same : {A C : Type 0} (m : Read A) (f g : A → List Token → Read C) → ((a : A) (q : List Token) → f a q ≡ g a q) → (m >>= f) ≡ (m >>= g)
bind_same (Found a r l) f g e = ap (noting l) (e a r)
bind_same (Stopped l) f g e = refl

abbrev is_found : {A : Type 0} → Read A → Bool
is_found (Found a r n) = true
is_found (Stopped n) = false

abbrev picked : Bool → Option (Unit {0})
picked b = cond b (Some tt) None

other_kind : (c code : ℕ) (codes : List ℕ) → is_in codes code ≡ false → is_in codes c ≡ true → (c == code) ≡ false
other_kind c code codes n e = ⊎_elim (λ (t : (c == code) ≡ true). absurd (false≢true (sym n ∙ subst (λ (i : ℕ). is_in codes i ≡ true) (eqb-true c code t) e))) (λ (f : (c == code) ≡ false). f) (cases_Bool (c == code))

-- a token of another kind
pub kind_stops : (code : ℕ) (codes : List ℕ) → is_in codes code ≡ false → is_in codes 999 ≡ false → (q : List Token) → one_of codes q ≡ true → of_kind code q ≡ Stopped (length q)
kind_stops code codes n m [] e = absurd (false≢true (sym m ∙ e))
kind_stops code codes n m (t ∷ q) e = ap (λ (b : Bool). on_pick (picked b) q) (other_kind (kind_code t.kind) code codes n e)

no_more : (run : Run Expr) (n : ℕ) (q : List Token) → one_of post_goes q ≡ true → times n (Next run) q ≡ found [] q
unfolding times
no_more run zero q e = refl
no_more run (suc n) q e = ap (λ (m : Read (Unit {0})). one_more q (m >>= (λ u z. becoming (joined u) (run z))) (times n (Next run))) (kind_stops comma post_goes refl refl q e)

-- what stands at a comma
at_comma : (t : Token) (q : List Token) (u : Unit {0}) (z : List Token) (l : ℕ) (b : Bool) → (kind_code t.kind == comma) ≡ b → on_pick (picked b) q ≡ Found u z l → (one_of after_codes (t ∷ q) ≡ true) × (l ≤ length (t ∷ q))
at_comma t q u z l true p f = (or_left (comma == kind_code t.kind) (is_in post_goes (kind_code t.kind)) (eq-eqb comma (kind_code t.kind) (sym (eqb-true (kind_code t.kind) comma p))), let k : length q ≡ l = ap reach f in omega (arith, k))
at_comma t q u z l false p f = absurd (false≢true (ap is_found f))

comma_front : (q : List Token) (u : Unit {0}) (z : List Token) (l : ℕ) → of_kind comma q ≡ Found u z l → (one_of after_codes q ≡ true) × (l ≤ length q)
comma_front [] u z l e = absurd (false≢true (ap is_found e))
comma_front (t ∷ q) u z l e = at_comma t q u z l (kind_code t.kind == comma) refl e

-- two readers of effects of which one steps back
module _ (Whole Strict : Run Expr) (nearly : (ts : List Token) → Nearly Expr (one_of post_goes) (Whole ts) (Strict ts)) (C : Type 0) where
  abbrev Same : ℕ → Type 0
  Same n = (q : List Token) (next : List (Unit {0} × Expr) → List Token → Read C) → Ending next → (times n (Next Whole) q >>= next) ≡ (times n (Next Strict) q >>= next)

  abbrev Part : Read (Unit {0}) → Run Expr → Read (Unit {0} × Expr)
  Part m run = m >>= (λ u z. becoming (joined u) (run z))

  module _ (n : ℕ) (more : Same n) (q : List Token) (next : List (Unit {0} × Expr) → List Token → Read C) (s : Ending next) (u : Unit {0}) (l : ℕ) (front : (one_of after_codes q ≡ true) × (l ≤ length q)) where
    abbrev One : Read Expr → Run Expr → Read C
    One x run = one_more q (noting l (becoming (joined u) x)) (times n (Next run)) >>= next

    equal_part : (x : Read Expr) → One x Whole ≡ One x Strict
    equal_part (Stopped j) = refl
    equal_part (Found a r j) =
        noting_bind (min l j) (becoming (λ list. (u, a) ∷ list) (times n (Next Whole) r)) next
        ∙ ap (noting (min l j)) (bind_becoming (λ list. (u, a) ∷ list) (times n (Next Whole) r) next ∙ more r (λ list z. next ((u, a) ∷ list) z) (λ list z e. s ((u, a) ∷ list) z e) ∙ sym (bind_becoming (λ list. (u, a) ∷ list) (times n (Next Strict) r) next))
        ∙ sym (noting_bind (min l j) (becoming (λ list. (u, a) ∷ list) (times n (Next Strict) r)) next)

    -- the step back is in vain
    back_part : (e : Expr) (r : List Token) (j : ℕ) → one_of post_goes r ≡ true → j ≤ length r → One (Found e r j) Whole ≡ One (Stopped j) Strict
    back_part e r j g le =
        let w : One (Found e r j) Whole ≡ Stopped (min (min (min l j) (length r)) (length r)) =
        ap (λ (m : Read (List (Unit {0} × Expr))). noting (min l j) (becoming (λ list. (u, e) ∷ list) m) >>= next) (no_more Whole n r g)
        ∙ ap (noting (min (min l j) (length r))) (s ((u, e) ∷ []) r (or_right (comma == front_code r) (one_of post_goes r) g)) in
        let v : One (Stopped j) Strict ≡ Stopped (min (min l j) (length q)) = ap (noting (min l j)) (s [] q front.0) in
        let same : min (min (min l j) (length r)) (length r) ≡ min (min l j) (length q) = omega (arith, le, front.1) in
        w ∙ ap (λ (i : ℕ). Stopped i) same ∙ sym v

    each_part : (x y : Read Expr) → Nearly Expr (one_of post_goes) x y → One x Whole ≡ One y Strict
    each_part x y d =
        ⊎_elim (λ e. equal_part x ∙ ap (λ (m : Read Expr). One m Strict) e)
        (λ w. ap (λ (m : Read Expr). One m Whole) w.finds ∙ back_part w.value w.rest w.left w.goes w.near ∙ sym (ap (λ (m : Read Expr). One m Strict) w.stops)) d

  by_comma : (n : ℕ) → Same n → (q : List Token) (next : List (Unit {0} × Expr) → List Token → Read C) → Ending next → (m : Read (Unit {0})) → of_kind comma q ≡ m → (one_more q (Part m Whole) (times n (Next Whole)) >>= next) ≡ (one_more q (Part m Strict) (times n (Next Strict)) >>= next)
  by_comma n more q next s (Stopped l) e = refl
  by_comma n more q next s (Found u z l) e = each_part n more q next s u l (comma_front q u z l e) (Whole z) (Strict z) (nearly z)

  same_more : (n : ℕ) → Same n
  unfolding times
  same_more zero q next s = refl
  same_more (suc n) q next s = by_comma n (same_more n) q next s (of_kind comma q) refl

module _ (Whole Strict : Run Expr) (nearly : (ts : List Token) → Nearly Expr (one_of post_goes) (Whole ts) (Strict ts)) (C : Type 0) (last : Run C) (stops : (q : List Token) → one_of after_codes q ≡ true → last q ≡ Stopped (length q)) where
  abbrev Then : (Expr × List (Unit {0} × Expr)) → List Token → Read (List Expr × C)
  Then p z = becoming (joined (first_and_more p)) (last z)

  abbrev Listed : Run Expr → Expr → List Token → Read (List Expr × C)
  Listed run a q = becoming (joined a) (any_number (Next run) q) >>= Then

  spread : (run : Run Expr) (ts : List Token) → in_turn (commas_run run) last ts ≡ (run ts >>= Listed run)
  spread run ts =
      bind_becoming first_and_more (run ts >>= (λ a q. becoming (joined a) (any_number (Next run) q))) (λ c z. becoming (joined c) (last z))
      ∙ bind_bind (run ts) (λ a q. becoming (joined a) (any_number (Next run) q)) Then

  listed_same : (a : Expr) (q : List Token) → Listed Whole a q ≡ Listed Strict a q
  listed_same a q =
      bind_becoming (joined a) (any_number (Next Whole) q) Then
      ∙ same_more Whole Strict nearly (List Expr × C) (length q) q (λ list z. Then (a, list) z) (λ list z e. ap (becoming (joined (first_and_more (a, list)))) (stops z e))
      ∙ sym (bind_becoming (joined a) (any_number (Next Strict) q) Then)

  listed_stops : (a : Expr) (q : List Token) → one_of post_goes q ≡ true → Listed Strict a q ≡ Stopped (length q)
  listed_stops a q e =
      let same : min (length q) (length q) ≡ length q = omega arith in
      ap (λ (m : Read (List (Unit {0} × Expr))). becoming (joined a) m >>= Then) (no_more Strict (length q) q e)
      ∙ ap (λ (m : Read C). noting (length q) (becoming (joined (first_and_more (a, []))) m)) (stops q (or_right (comma == front_code q) (one_of post_goes q) e))
      ∙ ap (λ (i : ℕ). Stopped i) same

  pub effects_then : (ts : List Token) → in_turn (commas_run Whole) last ts ≡ in_turn (commas_run Strict) last ts
  effects_then ts =
      spread Whole ts
      ∙ bind_same (Whole ts) (Listed Whole) (Listed Strict) listed_same
      ∙ nearly_bind (one_of post_goes) (Whole ts) (Strict ts) (Listed Strict) (nearly ts) listed_stops
      ∙ sym (spread Strict ts)
