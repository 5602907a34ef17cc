-- The form of the starts of primaries, but for class literals and outer `this`, and that they are read as they are to be.
use Rattle.std.proofs.Common.{◌≡◌, ℕ, suc, Bool, true, false, List, [], ◌∷◌, map, Option, Some, None, refl, sym, ap, ◌∙◌, subst, ⊎_elim, inl, inr}
use Rattle.std.proofs.Math.Bool.{and-true}
use Rattle.std.proofs.lemmas.Bool.{false≢true, and_left, and_parts, and_from}
use Rattle.std.specs.Prelude.{◌&&◌, nat_le}
use Rattle.jc_rules.proofs.Truths.{and_assoc}
use Rattle.jc_lexer.specs.declared.token.Key.TheVariants as key_of
use Rattle.jc_lexer.specs.declared.token.Sign.TheVariants as sign_of
use Rattle.jc_lexer.specs.declared.token.Token.{Token}
use Rattle.jc_tree.specs.declared.name.Ident.{Ident}
use Rattle.jc_tree.specs.declared.expression.Literal.{Literal}
use Rattle.jc_tree.specs.declared.expression.Creation.{Creation}
use Rattle.jc_tree.specs.declared.expression.Init.{Init}
use Rattle.jc_tree.specs.declared.expression.Operand.{Operand}
use Rattle.jc_tree.specs.declared.expression.ArrayInit.{ArrayInit}
use Rattle.jc_tree.specs.declared.expression.Expr.{Expr, Expr-F, out-Expr, roll-Expr, roll-out-Expr}
use Rattle.jc_tree.specs.declared.expression.Expr.TheVariants as expr_of
use Rattle.jc_tree.specs.Heights.{most, arg_height, expr_height, creation_height}
use Rattle.jc_tree.proofs.HeightsOfExpressions.{expr_height-Name, expr_height-Invoke, expr_height-Literal, expr_height-This, expr_height-SuperField, expr_height-SuperCall, expr_height-New, expr_height-VoidLiteral, expr_height-Paren}
use Rattle.jc_grammar.specs.Told.{Told}
use Rattle.jc_grammar.specs.Expressions.{expr_tokens}
use Rattle.jc_grammar.specs.Shapes.{Shape, stands, all_stand, any_level, prime_level, is_expr, expr_shape, creation_shape}
use Rattle.jc_grammar.proofs.ShapesOfExpressions.{expr_shape-Name, expr_shape-Invoke, expr_shape-Literal, expr_shape-This, expr_shape-SuperField, expr_shape-SuperCall, expr_shape-New, expr_shape-VoidLiteral, expr_shape-Paren}
use Rattle.jc_grammar.proofs.TokensOfExpressions.{expr_tokens-Name, expr_tokens-Invoke, expr_tokens-Literal, expr_tokens-This, expr_tokens-SuperField, expr_tokens-SuperCall, expr_tokens-New, expr_tokens-VoidLiteral, expr_tokens-Paren}
use Rattle.jc_reading.specs.Kinds.{sign_code, key_code, word_code, front_code, one_of}
use Rattle.jc_reading.specs.Reading.{Run, becoming, joined, Either, This, That, either, Takes}
use Rattle.jc_reading.proofs.Steps.{IsFound, found_becoming, found_bind}
use Rattle.jc_reading.proofs.Forms.{Lawful, Stands}
use Rattle.jc_reading.proofs.Pairs.{cut}
use Rattle.jc_reading.proofs.Rooms.{room_above, room_suc, room_max, room_all}
use Rattle.jc_reading.proofs.Signs.{apart_sets, within_sets, all_in, none_common, sign_laws, key_laws, key_at_laws, sign_at_laws}
use Rattle.jc_reading.proofs.Coded.{Coded, formed, in_order, in_order_laws, one_or, one_or_laws, made_laws}
use Rattle.jc_reading.proofs.Lowest.{Law, roomy}
use Rattle.jc_part_laws.proofs.PartForms.{sign_form, sign_at_form, key_form, key_at_form}
use Rattle.jc_expr_laws.specs.PrimeReading.{literal_codes, Member, creation_run}
use Rattle.jc_expr_laws.specs.StartReading.{DotClass, Supers, Voids, Parens, Keyed, Plain, plain_made, plain_run}
use Rattle.jc_expr_laws.proofs.PrimeTokens.{any_expr, literal_form, literal_laws}
use Rattle.jc_expr_laws.proofs.PrimeSelectors.{New, member, member_laws, named, named_laws}
use Rattle.jc_expr_laws.proofs.CreationRooms.{Below, lawful_room, void_room, one_or_first, found_this, found_that}
use Rattle.jc_expr_laws.proofs.CreationForms.{creation_laws, creation_next, selector_codes}

abbrev pub dot_class : Coded DotClass
dot_class = in_order (sign_form sign_of.Dot) (key_form key_of.Class)

pub dot_class_laws : Lawful DotClass (formed dot_class)
dot_class_laws = in_order_laws (Unit {0}) (Unit {0}) (sign_form sign_of.Dot) (key_form key_of.Class) (sign_laws sign_of.Dot) (key_laws key_of.Class) refl

abbrev pub plain_layer : Expr-F Creation Expr Init Operand ArrayInit → Bool
plain_layer (Expr-F.Literal at value) = true
plain_layer (Expr-F.This at) = true
plain_layer (Expr-F.SuperField at name) = true
plain_layer (Expr-F.SuperCall at args name list) = true
plain_layer (Expr-F.Paren at inner) = true
plain_layer (Expr-F.Name name) = true
plain_layer (Expr-F.Invoke name list) = true
plain_layer (Expr-F.New at c) = true
plain_layer (Expr-F.VoidLiteral at) = true
plain_layer _ = false

-- the start of a primary that is no class literal of a type and no outer `this`
abbrev pub is_plain : Expr → Bool
is_plain e = plain_layer (out-Expr e)

kind_plain : (a : Plain) → is_plain (plain_made a) ≡ true
kind_plain (This (name, None)) = ap plain_layer (expr_of.outs-Name name)
kind_plain (This (name, Some list)) = ap plain_layer (expr_of.outs-Invoke name list)
kind_plain (That (This p)) = ap plain_layer (expr_of.outs-Literal p.0 p.1)
kind_plain (That (That (This at))) = ap plain_layer (expr_of.outs-This at)
kind_plain (That (That (That (This (at, (u, This p)))))) = ap plain_layer (expr_of.outs-SuperCall at p.0.1.0 p.1.0 p.1.1)
kind_plain (That (That (That (This (at, (u, That (name, None))))))) = ap plain_layer (expr_of.outs-SuperField at name)
kind_plain (That (That (That (This (at, (u, That (name, Some list))))))) = ap plain_layer (expr_of.outs-SuperCall at [] name list)
kind_plain (That (That (That (That (This p))))) = ap plain_layer (expr_of.outs-New p.0 p.1)
kind_plain (That (That (That (That (That (This p)))))) = ap plain_layer (expr_of.outs-VoidLiteral p.0)
kind_plain (That (That (That (That (That (That p)))))) = ap plain_layer (expr_of.outs-Paren p.0 p.1.0)

-- a member with arguments of its own has some
abbrev pub proper_member : Member → Bool
proper_member (This ((u, ([], v)), p)) = false
proper_member (This ((u, (a ∷ list, v)), p)) = true
proper_member (That p) = true

abbrev proper : Plain → Bool
proper (That (That (That (This (at, (u, m)))))) = proper_member m
proper _ = true

pub join_two : (a m g : Bool) → ((a && m) && (g && true)) ≡ ((a && true) && (m && g))
join_two true m g = ap (λ b. m && b) (and-true g)
join_two false m g = refl

module _ (h : ℕ) where
  -- a primary of height at most one more than h
  abbrev pub prime_fits : Expr → Bool
  prime_fits e = nat_le (expr_height e) (suc h) && stands prime_level (expr_shape e)

  pub fits_at : (e : Expr) (n : ℕ) (s : Shape) → expr_height e ≡ suc n → expr_shape e ≡ s → prime_fits e ≡ (nat_le n h && stands prime_level s)
  fits_at e n s p q = ap (λ k. nat_le k (suc h) && stands prime_level (expr_shape e)) p ∙ ap (λ b. b && stands prime_level (expr_shape e)) (room_suc n h) ∙ ap (λ (t : Shape). nat_le n h && stands prime_level t) q

module _ (h : ℕ) (expr : Run Expr) (array : Run ArrayInit) (below : Below h expr array) where
  abbrev Supering : Coded Supers
  Supering = in_order (key_at_form key_of.Super) (in_order (sign_form sign_of.Dot) (member h expr array below))

  abbrev Making : Coded (ℕ × Creation)
  Making = in_order (key_at_form key_of.New) (New h expr array below)

  abbrev Voiding : Coded Voids
  Voiding = in_order (key_at_form key_of.Void) dot_class

  abbrev InParens : Coded Parens
  InParens = in_order (sign_at_form sign_of.LeftParen) (in_order (any_expr h expr) (sign_form sign_of.RightParen))

  abbrev Parening : Coded Parens
  Parening = roomy h InParens

  abbrev VoidOr : Coded (Either Voids Parens)
  VoidOr = one_or (key_code key_of.Void ∷ []) Voiding Parening

  abbrev NewOr : Coded (Either (ℕ × Creation) (Either Voids Parens))
  NewOr = one_or (key_code key_of.New ∷ []) Making VoidOr

  abbrev KeyedOnes : Coded Keyed
  KeyedOnes = one_or (key_code key_of.Super ∷ []) Supering NewOr

  abbrev ThisOr : Coded (Either ℕ Keyed)
  ThisOr = one_or (key_code key_of.This ∷ []) (key_at_form key_of.This) KeyedOnes

  abbrev pub LiteralOr : Coded (Either (ℕ × Literal) (Either ℕ Keyed))
  LiteralOr = one_or literal_codes literal_form ThisOr

  abbrev pub Plains : Coded Plain
  Plains = one_or (word_code ∷ []) (named h expr array below) LiteralOr

  parening_law : Law Parens Parening
  parening_law =
      ⊎_elim
      (λ v. inr (void_room Parens InParens h v.0 (λ p. and_left ((any_expr h expr).fits p.1.0) true (v.1.0.never p.1.0))))
      (λ l. inl (lawful_room Parens InParens h l.0
      (in_order_laws ℕ (Expr × Unit {0}) (sign_at_form sign_of.LeftParen) (in_order (any_expr h expr) (sign_form sign_of.RightParen)) (sign_at_laws sign_of.LeftParen)
      (in_order_laws Expr (Unit {0}) (any_expr h expr) (sign_form sign_of.RightParen) l.1.0 (sign_laws sign_of.RightParen) refl) refl)))
      below

  voiding_laws : Lawful Voids (formed Voiding)
  voiding_laws = in_order_laws ℕ DotClass (key_at_form key_of.Void) dot_class (key_at_laws key_of.Void) dot_class_laws refl

  void_or_laws : Lawful (Either Voids Parens) (formed VoidOr)
  void_or_laws = one_or_first Voids Parens (key_code key_of.Void ∷ []) Voiding Parening (record { solid = refl; solid' = refl; this = refl; that = refl }) voiding_laws parening_law

  making_laws : Lawful (ℕ × Creation) (formed Making)
  making_laws = in_order_laws ℕ Creation (key_at_form key_of.New) (New h expr array below) (key_at_laws key_of.New) (creation_laws h expr array below) refl

  new_or_laws : Lawful (Either (ℕ × Creation) (Either Voids Parens)) (formed NewOr)
  new_or_laws = one_or_laws (ℕ × Creation) (Either Voids Parens) (key_code key_of.New ∷ []) Making VoidOr making_laws void_or_laws (record { solid = refl; solid' = refl; this = refl; that = refl })

  supering_laws : Lawful Supers (formed Supering)
  supering_laws =
      in_order_laws ℕ (Unit {0} × Member) (key_at_form key_of.Super) (in_order (sign_form sign_of.Dot) (member h expr array below)) (key_at_laws key_of.Super)
      (in_order_laws (Unit {0}) Member (sign_form sign_of.Dot) (member h expr array below) (sign_laws sign_of.Dot) (member_laws h expr array below) refl) refl

  keyed_laws : Lawful Keyed (formed KeyedOnes)
  keyed_laws = one_or_laws Supers (Either (ℕ × Creation) (Either Voids Parens)) (key_code key_of.Super ∷ []) Supering NewOr supering_laws new_or_laws (record { solid = refl; solid' = refl; this = refl; that = refl })

  this_or_laws : Lawful (Either ℕ Keyed) (formed ThisOr)
  this_or_laws = one_or_laws ℕ Keyed (key_code key_of.This ∷ []) (key_at_form key_of.This) KeyedOnes (key_at_laws key_of.This) keyed_laws (record { solid = refl; solid' = refl; this = refl; that = refl })

  pub literal_or_laws : Lawful (Either (ℕ × Literal) (Either ℕ Keyed)) (formed LiteralOr)
  literal_or_laws = one_or_laws (ℕ × Literal) (Either ℕ Keyed) literal_codes literal_form ThisOr literal_laws this_or_laws (record { solid = refl; solid' = refl; this = refl; that = refl })

  pub plains_laws : Lawful Plain (formed Plains)
  plains_laws = one_or_laws (Ident × Option (List Expr)) (Either (ℕ × Literal) (Either ℕ Keyed)) (word_code ∷ []) (named h expr array below) LiteralOr (named_laws h expr array below) literal_or_laws (record { solid = refl; solid' = refl; this = refl; that = refl })

  told_plain : (a : Plain) (r : List Told) → Plains.fits a ≡ true → expr_tokens (plain_made a) r ≡ Plains.tell a r
  told_plain (This (name, None)) r g = expr_tokens-Name name r
  told_plain (This (name, Some list)) r g = expr_tokens-Invoke name list r
  told_plain (That (This p)) r g = expr_tokens-Literal p.0 p.1 r
  told_plain (That (That (This at))) r g = expr_tokens-This at r
  told_plain (That (That (That (This (at, (u, This ((v, ([], w)), p))))))) r g = absurd (false≢true g)
  told_plain (That (That (That (This (at, (u, This ((v, (a ∷ args, w)), p))))))) r g = expr_tokens-SuperCall at (a ∷ args) p.0 p.1 r
  told_plain (That (That (That (This (at, (u, That (name, None))))))) r g = expr_tokens-SuperField at name r
  told_plain (That (That (That (This (at, (u, That (name, Some list))))))) r g = expr_tokens-SuperCall at [] name list r
  told_plain (That (That (That (That (This p))))) r g = expr_tokens-New p.0 p.1 r
  told_plain (That (That (That (That (That (This p)))))) r g = expr_tokens-VoidLiteral p.0 r
  told_plain (That (That (That (That (That (That p)))))) r g = expr_tokens-Paren p.0 p.1.0 r

  low : (nat_le 0 h && true) ≡ true
  low = and-true (nat_le 0 h) ∙ room_above h

  fit_plain : (a : Plain) → proper a ≡ true → prime_fits h (plain_made a) ≡ Plains.fits a
  fit_plain (This (name, None)) g = fits_at h (expr_of.Name name) 0 _ (expr_height-Name name) (expr_shape-Name name) ∙ low
  fit_plain (This (name, Some list)) g =
      fits_at h (expr_of.Invoke name list) _ _ (expr_height-Invoke name list) (expr_shape-Invoke name list)
      ∙ ap (λ b. nat_le (most (map expr_height list)) h && b) (and-true (all_stand any_level (map expr_shape list)))
  fit_plain (That (This p)) g = fits_at h (expr_of.Literal p.0 p.1) 0 _ (expr_height-Literal p.0 p.1) (expr_shape-Literal p.0 p.1) ∙ low
  fit_plain (That (That (This at))) g = fits_at h (expr_of.This at) 0 _ (expr_height-This at) (expr_shape-This at) ∙ low
  fit_plain (That (That (That (This (at, (u, This ((v, ([], w)), p))))))) g = absurd (false≢true g)
  fit_plain (That (That (That (This (at, (u, This ((v, (a ∷ args, w)), p))))))) g =
      fits_at h (expr_of.SuperCall at (a ∷ args) p.0 p.1) _ _ (expr_height-SuperCall at (a ∷ args) p.0 p.1) (expr_shape-SuperCall at (a ∷ args) p.0 p.1)
      ∙ ap (λ b. b && (all_stand any_level (map expr_shape p.1) && true)) (room_max (most (map arg_height (a ∷ args))) (most (map expr_height p.1)) h)
      ∙ join_two (nat_le (most (map arg_height (a ∷ args))) h) (nat_le (most (map expr_height p.1)) h) (all_stand any_level (map expr_shape p.1))
      ∙ ap (λ b. (b && true) && (nat_le (most (map expr_height p.1)) h && all_stand any_level (map expr_shape p.1))) (room_all arg_height h (a ∷ args))
  fit_plain (That (That (That (This (at, (u, That (name, None))))))) g = fits_at h (expr_of.SuperField at name) 0 _ (expr_height-SuperField at name) (expr_shape-SuperField at name) ∙ low
  fit_plain (That (That (That (This (at, (u, That (name, Some list))))))) g =
      fits_at h (expr_of.SuperCall at [] name list) _ _ (expr_height-SuperCall at [] name list) (expr_shape-SuperCall at [] name list)
      ∙ ap (λ b. b && (all_stand any_level (map expr_shape list) && true)) (room_max 0 (most (map expr_height list)) h ∙ ap (λ b. b && nat_le (most (map expr_height list)) h) (room_above h))
      ∙ ap (λ b. nat_le (most (map expr_height list)) h && b) (and-true (all_stand any_level (map expr_shape list)))
  fit_plain (That (That (That (That (This p))))) g =
      fits_at h (expr_of.New p.0 p.1) _ _ (expr_height-New p.0 p.1) (expr_shape-New p.0 p.1) ∙ ap (λ b. nat_le (creation_height p.1) h && b) (and-true (creation_shape p.1).good)
  fit_plain (That (That (That (That (That (This p)))))) g = fits_at h (expr_of.VoidLiteral p.0) 0 _ (expr_height-VoidLiteral p.0) (expr_shape-VoidLiteral p.0) ∙ low
  fit_plain (That (That (That (That (That (That p)))))) g =
      fits_at h (expr_of.Paren p.0 p.1.0) _ _ (expr_height-Paren p.0 p.1.0) (expr_shape-Paren p.0 p.1.0) ∙ sym (and_assoc (nat_le (expr_height p.1.0) h) (is_expr p.1.0) true)

  fits_proper : (a : Plain) → Plains.fits a ≡ true → proper a ≡ true
  fits_proper (This p) g = refl
  fits_proper (That (This p)) g = refl
  fits_proper (That (That (This at))) g = refl
  fits_proper (That (That (That (This (at, (u, This ((v, ([], w)), p))))))) g = absurd (false≢true g)
  fits_proper (That (That (That (This (at, (u, This ((v, (a ∷ args, w)), p))))))) g = refl
  fits_proper (That (That (That (This (at, (u, That p)))))) g = refl
  fits_proper (That (That (That (That p)))) g = refl

  record Made (e : Expr) : Type 0 where
    of_it : Plain
    same : plain_made of_it ≡ e
    good : proper of_it ≡ true

  made_of : (e : Expr) (l : Expr-F Creation Expr Init Operand ArrayInit) → out-Expr e ≡ l → plain_layer l ≡ true → Made e
  made_of e (Expr-F.Literal at value) q k = record { of_it = That (This (at, value)); same = sym (expr_of.rolls-Literal at value) ∙ ap roll-Expr (sym q) ∙ roll-out-Expr e; good = refl }
  made_of e (Expr-F.This at) q k = record { of_it = That (That (This at)); same = sym (expr_of.rolls-This at) ∙ ap roll-Expr (sym q) ∙ roll-out-Expr e; good = refl }
  made_of e (Expr-F.SuperField at name) q k = record { of_it = That (That (That (This (at, (tt, That (name, None)))))); same = sym (expr_of.rolls-SuperField at name) ∙ ap roll-Expr (sym q) ∙ roll-out-Expr e; good = refl }
  made_of e (Expr-F.SuperCall at [] name list) q k = record { of_it = That (That (That (This (at, (tt, That (name, Some list)))))); same = sym (expr_of.rolls-SuperCall at [] name list) ∙ ap roll-Expr (sym q) ∙ roll-out-Expr e; good = refl }
  made_of e (Expr-F.SuperCall at (a ∷ args) name list) q k = record { of_it = That (That (That (This (at, (tt, This ((tt, (a ∷ args, tt)), (name, list))))))); same = sym (expr_of.rolls-SuperCall at (a ∷ args) name list) ∙ ap roll-Expr (sym q) ∙ roll-out-Expr e; good = refl }
  made_of e (Expr-F.Paren at inner) q k = record { of_it = That (That (That (That (That (That (at, (inner, tt))))))); same = sym (expr_of.rolls-Paren at inner) ∙ ap roll-Expr (sym q) ∙ roll-out-Expr e; good = refl }
  made_of e (Expr-F.Name name) q k = record { of_it = This (name, None); same = sym (expr_of.rolls-Name name) ∙ ap roll-Expr (sym q) ∙ roll-out-Expr e; good = refl }
  made_of e (Expr-F.Invoke name list) q k = record { of_it = This (name, Some list); same = sym (expr_of.rolls-Invoke name list) ∙ ap roll-Expr (sym q) ∙ roll-out-Expr e; good = refl }
  made_of e (Expr-F.New at c) q k = record { of_it = That (That (That (That (This (at, c))))); same = sym (expr_of.rolls-New at c) ∙ ap roll-Expr (sym q) ∙ roll-out-Expr e; good = refl }
  made_of e (Expr-F.VoidLiteral at) q k = record { of_it = That (That (That (That (That (This (at, (tt, tt))))))); same = sym (expr_of.rolls-VoidLiteral at) ∙ ap roll-Expr (sym q) ∙ roll-out-Expr e; good = refl }
  made_of e _ q k = absurd (false≢true k)

  abbrev pub plain_fits : Expr → Bool
  plain_fits e = is_plain e && prime_fits h e

  abbrev pub plain_coded : Coded Expr
  plain_coded = record { tell = expr_tokens; fits = plain_fits; run = plain_run h expr array; starts = Plains.starts; goes = Plains.goes; empties = false }

  back_plain : (e : Expr) → plain_fits e ≡ true → (a : Plain) × (plain_made a ≡ e) × (Plains.fits a ≡ true)
  back_plain e g =
      let f = and_parts (is_plain e) (prime_fits h e) g in
      let m = made_of e (out-Expr e) refl f.0 in
      (m.of_it, m.same, sym (fit_plain m.of_it m.good) ∙ ap (prime_fits h) m.same ∙ f.1)

  pub plain_laws : Lawful Expr (formed plain_coded)
  unfolding plain_run
  plain_laws =
      made_laws Plain Expr Plains plain_made expr_tokens plain_fits plains_laws
      (record { told = told_plain; forth = λ a g. and_from (is_plain (plain_made a)) (prime_fits h (plain_made a)) (kind_plain a) (fit_plain a (fits_proper a g) ∙ g); back = back_plain })

  -- a start that is followed by a selector is found exactly

  here : (A B : Type 0) (codes : List ℕ) (ca : Coded A) (cb : Coded B) → Lawful A (formed ca) → ca.empties ≡ false → all_in ca.starts codes ≡ true → (ts : List Token) (a : A) (r : List Token) → Stands (formed ca) ts a r → IsFound a r (ca.run ts) → IsFound (This a) r (either codes ca.run cb.run ts)
  here A B codes ca cb lw solid e ts a r s f =
      found_this codes ca.run cb.run ts a r (⊎_elim (λ o. within_sets ca.starts codes e (front_code ts) o.0) (λ o. absurd (false≢true (sym solid ∙ o.1))) (lw.opens ts a r s)) f

  down : (A B : Type 0) (codes : List ℕ) (ca : Coded A) (cb : Coded B) → Lawful B (formed cb) → cb.empties ≡ false → none_common cb.starts codes ≡ true → (ts : List Token) (b : B) (r : List Token) → Stands (formed cb) ts b r → IsFound b r (cb.run ts) → IsFound (That b) r (either codes ca.run cb.run ts)
  down A B codes ca cb lw solid e ts b r s f =
      found_that codes ca.run cb.run ts b r (⊎_elim (λ o. apart_sets cb.starts codes e (front_code ts) o.0) (λ o. absurd (false≢true (sym solid ∙ o.1))) (lw.opens ts b r s)) f

  abbrev Behind : List Token → Bool → Type 0
  Behind r sized = (one_of selector_codes r ≡ true) × (sized ≡ true → one_of (sign_code sign_of.Dot ∷ []) r ≡ true)

  abbrev New_sized : Either (ℕ × Creation) (Either Voids Parens) → Bool
  New_sized (This p) = (creation_shape p.1).sized
  New_sized (That o) = false

  abbrev Keyed_sized : Keyed → Bool
  Keyed_sized (This p) = false
  Keyed_sized (That o) = New_sized o

  abbrev Plain_sized : Plain → Bool
  Plain_sized (This p) = false
  Plain_sized (That (This p)) = false
  Plain_sized (That (That (This at))) = false
  Plain_sized (That (That (That k))) = Keyed_sized k

  sized_plain : (a : Plain) → (expr_shape (plain_made a)).sized ≡ Plain_sized a
  sized_plain (This (name, None)) = ap (λ (s : Shape). s.sized) (expr_shape-Name name)
  sized_plain (This (name, Some list)) = ap (λ (s : Shape). s.sized) (expr_shape-Invoke name list)
  sized_plain (That (This p)) = ap (λ (s : Shape). s.sized) (expr_shape-Literal p.0 p.1)
  sized_plain (That (That (This at))) = ap (λ (s : Shape). s.sized) (expr_shape-This at)
  sized_plain (That (That (That (This (at, (u, This p)))))) = ap (λ (s : Shape). s.sized) (expr_shape-SuperCall at p.0.1.0 p.1.0 p.1.1)
  sized_plain (That (That (That (This (at, (u, That (name, None))))))) = ap (λ (s : Shape). s.sized) (expr_shape-SuperField at name)
  sized_plain (That (That (That (This (at, (u, That (name, Some list))))))) = ap (λ (s : Shape). s.sized) (expr_shape-SuperCall at [] name list)
  sized_plain (That (That (That (That (This p))))) = ap (λ (s : Shape). s.sized) (expr_shape-New p.0 p.1)
  sized_plain (That (That (That (That (That (This p)))))) = ap (λ (s : Shape). s.sized) (expr_shape-VoidLiteral p.0)
  sized_plain (That (That (That (That (That (That p)))))) = ap (λ (s : Shape). s.sized) (expr_shape-Paren p.0 p.1.0)

  new_next : (ts : List Token) (o : Either (ℕ × Creation) (Either Voids Parens)) (r : List Token) → Stands (formed NewOr) ts o r → Behind r (New_sized o) → IsFound o r (NewOr.run ts)
  new_next ts (This (at, c)) r s b =
      let w = cut ℕ Creation (formed (key_at_form key_of.New)) (formed (New h expr array below)) (key_at_laws key_of.New) (creation_laws h expr array below) (λ us q. refl) ts (at, c) r s in
      here (ℕ × Creation) (Either Voids Parens) (key_code key_of.New ∷ []) Making VoidOr making_laws refl refl ts (at, c) r s
      (found_bind at w.0 (at, c) r ((key_at_form key_of.New).run ts) (λ a q. becoming (joined a) (creation_run h expr array q)) ((key_at_laws key_of.New).exact ts at w.0 w.1 refl) (found_becoming (joined at) c r (creation_run h expr array w.0) (creation_next h expr array below w.0 c r w.2 b.0 b.1)))
  new_next ts (That o) r s b = down (ℕ × Creation) (Either Voids Parens) (key_code key_of.New ∷ []) Making VoidOr void_or_laws refl refl ts o r s (void_or_laws.exact ts o r s refl)

  keyed_next : (ts : List Token) (k : Keyed) (r : List Token) → Stands (formed KeyedOnes) ts k r → Behind r (Keyed_sized k) → IsFound k r (KeyedOnes.run ts)
  keyed_next ts (This p) r s b = here Supers (Either (ℕ × Creation) (Either Voids Parens)) (key_code key_of.Super ∷ []) Supering NewOr supering_laws refl refl ts p r s (supering_laws.exact ts p r s (apart_sets selector_codes Supering.goes refl (front_code r) b.0))
  keyed_next ts (That o) r s b = down Supers (Either (ℕ × Creation) (Either Voids Parens)) (key_code key_of.Super ∷ []) Supering NewOr new_or_laws refl refl ts o r s (new_next ts o r s b)

  this_next : (ts : List Token) (k : Either ℕ Keyed) (r : List Token) → Stands (formed ThisOr) ts k r → Behind r (Plain_sized (That (That k))) → IsFound k r (ThisOr.run ts)
  this_next ts (This at) r s b = here ℕ Keyed (key_code key_of.This ∷ []) (key_at_form key_of.This) KeyedOnes (key_at_laws key_of.This) refl refl ts at r s ((key_at_laws key_of.This).exact ts at r s refl)
  this_next ts (That k) r s b = down ℕ Keyed (key_code key_of.This ∷ []) (key_at_form key_of.This) KeyedOnes keyed_laws refl refl ts k r s (keyed_next ts k r s b)

  literal_next : (ts : List Token) (k : Either (ℕ × Literal) (Either ℕ Keyed)) (r : List Token) → Stands (formed LiteralOr) ts k r → Behind r (Plain_sized (That k)) → IsFound k r (LiteralOr.run ts)
  literal_next ts (This p) r s b = here (ℕ × Literal) (Either ℕ Keyed) literal_codes literal_form ThisOr literal_laws refl refl ts p r s (literal_laws.exact ts p r s refl)
  literal_next ts (That k) r s b = down (ℕ × Literal) (Either ℕ Keyed) literal_codes literal_form ThisOr this_or_laws refl refl ts k r s (this_next ts k r s b)

  plains_next : (ts : List Token) (a : Plain) (r : List Token) → Stands (formed Plains) ts a r → Behind r (Plain_sized a) → IsFound a r (Plains.run ts)
  plains_next ts (This p) r s b =
      here (Ident × Option (List Expr)) (Either (ℕ × Literal) (Either ℕ Keyed)) (word_code ∷ []) (named h expr array below) LiteralOr (named_laws h expr array below) refl refl ts p r s
      ((named_laws h expr array below).exact ts p r s (apart_sets selector_codes (named h expr array below).goes refl (front_code r) b.0))
  plains_next ts (That k) r s b = down (Ident × Option (List Expr)) (Either (ℕ × Literal) (Either ℕ Keyed)) (word_code ∷ []) (named h expr array below) LiteralOr literal_or_laws refl refl ts k r s (literal_next ts k r s b)

  -- what a start is made of, where it stands
  pub plain_of : (ts : List Token) (e : Expr) (r : List Token) → Stands (formed plain_coded) ts e r → (a : Plain) × (plain_made a ≡ e) × Stands (formed Plains) ts a r
  plain_of ts e r s =
      let w = back_plain e s.1 in
      (w.0, w.1, (subst (λ (l : List Told). Takes false l ts r) (ap (λ (d : Expr). expr_tokens d []) (sym w.1) ∙ told_plain w.0 [] w.2) s.0, w.2))

  pub plain_next : (ts : List Token) (e : Expr) (r : List Token) → Stands (formed plain_coded) ts e r → one_of selector_codes r ≡ true → ((expr_shape e).sized ≡ true → one_of (sign_code sign_of.Dot ∷ []) r ≡ true) → IsFound e r (plain_run h expr array ts)
  unfolding plain_run
  plain_next ts e r s d f =
      let w = plain_of ts e r s in
      let g = plains_next ts w.0 r w.2 (d, λ t. f (ap (λ (x : Expr). (expr_shape x).sized) (sym w.1) ∙ sized_plain w.0 ∙ t)) in
      subst (λ (x : Expr). IsFound x r (becoming plain_made (Plains.run ts))) w.1 (found_becoming plain_made w.0 r (Plains.run ts) g)
