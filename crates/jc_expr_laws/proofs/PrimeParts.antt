-- What selectors make of a value: its tokens, its height and where it may stand; and how a primary is taken apart.
use Rattle.std.proofs.Common.{◌≡◌, ℕ, suc, max, ◌≤◌, Bool, true, false, List, [], ◌∷◌, map, Some, None, refl, sym, ap, ◌∙◌, arith}
use Rattle.std.proofs.lemmas.Bool.{false≢true, and_parts, and_from, leb-true, le-leb}
use Rattle.std.proofs.lemmas.Grind.{common_steps}
use Rattle.std.specs.Prelude.{◌&&◌, not, nat_le}
use Rattle.jc_tree.specs.declared.expression.Creation.{Creation}
use Rattle.jc_tree.specs.declared.expression.Init.{Init}
use Rattle.jc_tree.specs.declared.expression.Operand.{Operand}
use Rattle.jc_tree.specs.declared.expression.ArrayInit.{ArrayInit}
use Rattle.jc_tree.specs.declared.expression.Expr.{Expr, Expr-F, out-Expr, roll-Expr, roll-out-Expr}
use Rattle.jc_tree.specs.declared.expression.Expr.TheVariants as expr_of
use Rattle.jc_tree.specs.Heights.{most, arg_height, expr_height, creation_height}
use Rattle.jc_tree.proofs.HeightsOfExpressions.{expr_height-Index, expr_height-InnerNew, expr_height-Call, expr_height-Field}
use Rattle.jc_grammar.specs.Told.{Told}
use Rattle.jc_grammar.specs.Expressions.{expr_tokens}
use Rattle.jc_grammar.specs.Shapes.{stands, all_stand, any_level, prime_level, is_expr, expr_shape, creation_shape}
use Rattle.jc_grammar.proofs.ShapesOfExpressions.{expr_shape-Index, expr_shape-InnerNew, expr_shape-Call, expr_shape-Field}
use Rattle.jc_grammar.proofs.TokensOfExpressions.{expr_tokens-Index, expr_tokens-InnerNew, expr_tokens-Call, expr_tokens-Field}
use Rattle.jc_reading.specs.Reading.{Run, This, That}
use Rattle.jc_reading.proofs.Lists.{tell_all}
use Rattle.jc_reading.proofs.Rooms.{room_above, room_max, room_all}
use Rattle.jc_reading.specs.Growing.{grown}
use Rattle.jc_expr_laws.specs.PrimeReading.{Selector, selected, selectors_run}
use Rattle.jc_reading.proofs.Stepwise.{fits_from}
use Rattle.jc_expr_laws.proofs.PrimeSelectors.{selector, part_fits, sel_fits, sel_starts, prime_goes}
use Rattle.jc_expr_laws.proofs.PrimeStarts.{prime_fits, fits_at}
use Rattle.jc_expr_laws.proofs.CreationRooms.{Below}
use Rattle.jc_reading.specs.Kinds.{one_of}

shuffle_index : (n e s z x : Bool) → ((n && e) && (((s && z) && x) && true)) ≡ (s && (n && (z && ((e && x) && true))))
shuffle_index n e s z x = grind (arith, common_steps)

shuffle_new : (n c s g : Bool) → ((n && c) && ((s && g) && true)) ≡ (s && (n && (c && g)))
shuffle_new n c s g = grind (arith, common_steps)

shuffle_call : (n a m s g : Bool) → (((n && a) && m) && ((s && g) && true)) ≡ (s && (n && ((a && true) && (m && g))))
shuffle_call n a m s g = grind (arith, common_steps)

shuffle_field : (n s : Bool) → (n && (s && true)) ≡ (s && (n && true))
shuffle_field n s = grind (arith, common_steps)

abbrev pub select_layer : Expr-F Creation Expr Init Operand ArrayInit → Bool
select_layer (Expr-F.Field of_it name) = true
select_layer (Expr-F.Call of_it args name list) = true
select_layer (Expr-F.Index of_it index) = true
select_layer (Expr-F.InnerNew of_it creation) = true
select_layer _ = false

module _ (h : ℕ) (expr : Run Expr) (array : Run ArrayInit) (below : Below h expr array) where
  abbrev Fits : Selector → Bool
  Fits = (selector h expr array below).fits

  -- behind an array with lengths stands no bracket
  abbrev free : Bool → Selector → Bool
  free sized (This p) = not sized
  free sized (That d) = true

  part_fits_is : (room sized : Bool) (p : Selector) → part_fits h expr array below room sized p ≡ (room && (free sized p && Fits p))
  part_fits_is true false (This p) = refl
  part_fits_is true false (That d) = refl
  part_fits_is true true (This p) = refl
  part_fits_is true true (That d) = refl
  part_fits_is false sized p = refl

  -- a member with arguments of its own has some
  abbrev pub proper : Selector → Bool
  proper (That (u, That (This ((v, ([], w)), p)))) = false
  proper _ = true

  fit_selected : (v : Expr) (p : Selector) → proper p ≡ true → prime_fits h (selected v p) ≡ (stands prime_level (expr_shape v) && (nat_le (expr_height v) h && (free (expr_shape v).sized p && Fits p)))
  fit_selected v (This (u, (e, w))) g =
      fits_at h (expr_of.Index v e) _ _ (expr_height-Index v e) (expr_shape-Index v e)
      ∙ ap (λ b. b && (((stands prime_level (expr_shape v) && not (expr_shape v).sized) && is_expr e) && true)) (room_max (expr_height v) (expr_height e) h)
      ∙ shuffle_index (nat_le (expr_height v) h) (nat_le (expr_height e) h) (stands prime_level (expr_shape v)) (not (expr_shape v).sized) (is_expr e)
  fit_selected v (That (u, This (w, c))) g =
      fits_at h (expr_of.InnerNew v c) _ _ (expr_height-InnerNew v c) (expr_shape-InnerNew v c)
      ∙ ap (λ b. b && ((stands prime_level (expr_shape v) && (creation_shape c).good) && true)) (room_max (expr_height v) (creation_height c) h)
      ∙ shuffle_new (nat_le (expr_height v) h) (nat_le (creation_height c) h) (stands prime_level (expr_shape v)) (creation_shape c).good
  fit_selected v (That (u, That (This ((w, ([], x)), p)))) g = absurd (false≢true g)
  fit_selected v (That (u, That (This ((w, (a ∷ args, x)), p)))) g =
      fits_at h (expr_of.Call v (a ∷ args) p.0 p.1) _ _ (expr_height-Call v (a ∷ args) p.0 p.1) (expr_shape-Call v (a ∷ args) p.0 p.1)
      ∙ ap (λ b. b && ((stands prime_level (expr_shape v) && all_stand any_level (map expr_shape p.1)) && true))
      (room_max (max (expr_height v) (most (map arg_height (a ∷ args)))) (most (map expr_height p.1)) h ∙ ap (λ b. b && nat_le (most (map expr_height p.1)) h) (room_max (expr_height v) (most (map arg_height (a ∷ args))) h))
      ∙ shuffle_call (nat_le (expr_height v) h) (nat_le (most (map arg_height (a ∷ args))) h) (nat_le (most (map expr_height p.1)) h) (stands prime_level (expr_shape v)) (all_stand any_level (map expr_shape p.1))
      ∙ ap (λ b. stands prime_level (expr_shape v) && (nat_le (expr_height v) h && ((b && true) && (nat_le (most (map expr_height p.1)) h && all_stand any_level (map expr_shape p.1))))) (room_all arg_height h (a ∷ args))
  fit_selected v (That (u, That (That (name, None)))) g =
      fits_at h (expr_of.Field v name) _ _ (expr_height-Field v name) (expr_shape-Field v name) ∙ shuffle_field (nat_le (expr_height v) h) (stands prime_level (expr_shape v))
  fit_selected v (That (u, That (That (name, Some list)))) g =
      fits_at h (expr_of.Call v [] name list) _ _ (expr_height-Call v [] name list) (expr_shape-Call v [] name list)
      ∙ ap (λ b. b && ((stands prime_level (expr_shape v) && all_stand any_level (map expr_shape list)) && true))
      (room_max (max (expr_height v) 0) (most (map expr_height list)) h ∙ ap (λ b. b && nat_le (most (map expr_height list)) h) (room_max (expr_height v) 0 h ∙ ap (λ b. nat_le (expr_height v) h && b) (room_above h)))
      ∙ shuffle_call (nat_le (expr_height v) h) true (nat_le (most (map expr_height list)) h) (stands prime_level (expr_shape v)) (all_stand any_level (map expr_shape list))

  fits_proper : (v : Expr) (p : Selector) → sel_fits h expr array below v p ≡ true → proper p ≡ true
  fits_proper v (This p) g = refl
  fits_proper v (That (u, This p)) g = refl
  fits_proper v (That (u, That (This ((w, ([], x)), p)))) g =
      let f = and_parts (nat_le (expr_height v) h) false (sym (part_fits_is (nat_le (expr_height v) h) (expr_shape v).sized (That (u, That (This ((w, ([], x)), p))))) ∙ g) in absurd (false≢true f.1)
  fits_proper v (That (u, That (This ((w, (a ∷ args, x)), p)))) g = refl
  fits_proper v (That (u, That (That p))) g = refl

  -- a value with a selector is a primary exactly where the value is one and takes the selector
  pub fits_selected : (v : Expr) (p : Selector) → proper p ≡ true → prime_fits h (selected v p) ≡ (stands prime_level (expr_shape v) && sel_fits h expr array below v p)
  fits_selected v p g = fit_selected v p g ∙ ap (λ b. stands prime_level (expr_shape v) && b) (sym (part_fits_is (nat_le (expr_height v) h) (expr_shape v).sized p))

  abbrev pub Sel_tell : Selector → List Told → List Told
  Sel_tell = (selector h expr array below).tell

  pub told_selected : (v : Expr) (p : Selector) (r : List Told) → sel_fits h expr array below v p ≡ true → expr_tokens (selected v p) r ≡ expr_tokens v (Sel_tell p r)
  told_selected v (This p) r g = expr_tokens-Index v p.1.0 r
  told_selected v (That (u, This p)) r g = expr_tokens-InnerNew v p.1 r
  told_selected v (That (u, That (This ((w, ([], x)), p)))) r g = absurd (false≢true (fits_proper v (That (u, That (This ((w, ([], x)), p)))) g))
  told_selected v (That (u, That (This ((w, (a ∷ args, x)), p)))) r g = expr_tokens-Call v (a ∷ args) p.0 p.1 r
  told_selected v (That (u, That (That (name, None)))) r g = expr_tokens-Field v name r
  told_selected v (That (u, That (That (name, Some list)))) r g = expr_tokens-Call v [] name list r

  abbrev pub From : Expr → List Selector → Bool
  From v list = fits_from Expr Selector selected Sel_tell (sel_fits h expr array below) (selectors_run h expr array) (sel_starts h expr array below) (one_of prime_goes) v list

  pub told_grown : (v : Expr) (list : List Selector) (r : List Told) → From v list ≡ true → expr_tokens (grown selected v list) r ≡ expr_tokens v (tell_all Sel_tell list r)
  told_grown v [] r g = refl
  told_grown v (p ∷ list) r g =
      let f = and_parts (sel_fits h expr array below v p) (From (selected v p) list) g in
      told_grown (selected v p) list r f.1 ∙ told_selected v p (tell_all Sel_tell list r) f.0

  pub fits_grown : (v : Expr) (list : List Selector) → prime_fits h v ≡ true → From v list ≡ true → prime_fits h (grown selected v list) ≡ true
  fits_grown v [] e g = e
  fits_grown v (p ∷ list) e g =
      let f = and_parts (sel_fits h expr array below v p) (From (selected v p) list) g in
      let s = (and_parts (nat_le (expr_height v) (suc h)) (stands prime_level (expr_shape v)) e).1 in
      fits_grown (selected v p) list (fits_selected v p (fits_proper v p f.0) ∙ and_from (stands prime_level (expr_shape v)) (sel_fits h expr array below v p) s f.0) f.1

  -- what a primary is selected from
  pub record Selects (e : Expr) : Type 0 where
    pub of_it : Expr
    pub by_it : Selector
    pub same : selected of_it by_it ≡ e
    pub good : proper by_it ≡ true
    pub lower : suc (expr_height of_it) ≤ expr_height e

  pub selects_fit : (e : Expr) (s : Selects e) → prime_fits h e ≡ true → (prime_fits h s.of_it ≡ true) × (sel_fits h expr array below s.of_it s.by_it ≡ true)
  selects_fit e s g =
      let w = and_parts (stands prime_level (expr_shape s.of_it)) (sel_fits h expr array below s.of_it s.by_it) (sym (fits_selected s.of_it s.by_it s.good) ∙ ap (prime_fits h) s.same ∙ g) in
      let n = (and_parts (nat_le (expr_height s.of_it) h) (free (expr_shape s.of_it).sized s.by_it && Fits s.by_it) (sym (part_fits_is (nat_le (expr_height s.of_it) h) (expr_shape s.of_it).sized s.by_it) ∙ w.1)).0 in
      (and_from (nat_le (expr_height s.of_it) (suc h)) (stands prime_level (expr_shape s.of_it)) (le-leb (expr_height s.of_it) (suc h) (omega (arith, leb-true (expr_height s.of_it) h n))) w.0, w.1)

  rolled : (e : Expr) (l : Expr-F Creation Expr Init Operand ArrayInit) (d : Expr) → out-Expr e ≡ l → roll-Expr l ≡ d → d ≡ e
  rolled e l d q r = sym r ∙ ap roll-Expr (sym q) ∙ roll-out-Expr e

  under : (e d : Expr) (n m : ℕ) → d ≡ e → expr_height d ≡ suc m → n ≤ m → suc n ≤ expr_height e
  under e d n m same t le = let k : expr_height e ≡ suc m = ap expr_height (sym same) ∙ t in omega (arith, k, le)

  pub selects : (e : Expr) (l : Expr-F Creation Expr Init Operand ArrayInit) → out-Expr e ≡ l → select_layer l ≡ true → Selects e
  selects e (Expr-F.Field of_it name) q k =
      let s = rolled e _ (expr_of.Field of_it name) q (expr_of.rolls-Field of_it name) in
      record { of_it = of_it; by_it = That (tt, That (That (name, None))); same = s; good = refl; lower = under e (expr_of.Field of_it name) (expr_height of_it) _ s (expr_height-Field of_it name) (omega arith) }
  selects e (Expr-F.Call of_it [] name list) q k =
      let s = rolled e _ (expr_of.Call of_it [] name list) q (expr_of.rolls-Call of_it [] name list) in
      record { of_it = of_it; by_it = That (tt, That (That (name, Some list))); same = s; good = refl; lower = under e (expr_of.Call of_it [] name list) (expr_height of_it) _ s (expr_height-Call of_it [] name list) (omega arith) }
  selects e (Expr-F.Call of_it (a ∷ args) name list) q k =
      let s = rolled e _ (expr_of.Call of_it (a ∷ args) name list) q (expr_of.rolls-Call of_it (a ∷ args) name list) in
      record { of_it = of_it; by_it = That (tt, That (This ((tt, (a ∷ args, tt)), (name, list)))); same = s; good = refl; lower = under e (expr_of.Call of_it (a ∷ args) name list) (expr_height of_it) _ s (expr_height-Call of_it (a ∷ args) name list) (omega arith) }
  selects e (Expr-F.Index of_it index) q k =
      let s = rolled e _ (expr_of.Index of_it index) q (expr_of.rolls-Index of_it index) in
      record { of_it = of_it; by_it = This (tt, (index, tt)); same = s; good = refl; lower = under e (expr_of.Index of_it index) (expr_height of_it) _ s (expr_height-Index of_it index) (omega arith) }
  selects e (Expr-F.InnerNew of_it creation) q k =
      let s = rolled e _ (expr_of.InnerNew of_it creation) q (expr_of.rolls-InnerNew of_it creation) in
      record { of_it = of_it; by_it = That (tt, This (tt, creation)); same = s; good = refl; lower = under e (expr_of.InnerNew of_it creation) (expr_height of_it) _ s (expr_height-InnerNew of_it creation) (omega arith) }
  selects e _ q k = absurd (false≢true k)
