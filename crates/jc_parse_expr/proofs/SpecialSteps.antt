-- What the steps of the code of class literals, outer `this` and skipped bodies read.
use Rattle.std.proofs.Common.{◌≡◌, ℕ, ◌<◌, min, true, false, List, [], ◌∷◌, length, refl, ap, ◌∙◌, arith}
use Rattle.std.proofs.lemmas.Bool.{cond-true, cond-false}
use Rattle.jc_lexer.specs.declared.token.Sign.TheVariants as sign_of
use Rattle.jc_lexer.specs.declared.token.Token.{Token}
use Rattle.jc_tree.specs.declared.name.Ident.{Ident}
use Rattle.jc_tree.specs.declared.types.PrimitiveWord.{PrimitiveWord}
use Rattle.jc_tree.specs.declared.expression.SkipPart.TheVariants as skip_part_of
use Rattle.jc_reading.specs.Kinds.{sign_code, one_of}
use Rattle.jc_reading.specs.Reading.{Read, Found, Stopped, found, noting, becoming, as_new, in_turn, an_ident_at, picking, This, That}
use Rattle.jc_parse_type.specs.TypeReading.{dims_run, word_run, primitive_codes}
use Rattle.jc_part_laws.specs.PartReading.{more_names_run}
use Rattle.jc_expr_laws.specs.PrimeReading.{picks_skipped, skip_part_made, skip_run}
use Rattle.jc_expr_laws.specs.StartReading.{dot_class_run, special_made, class_dims_run, dot_key_run, special_run, SpecialTail}
use Rattle.jc_parse_expr.specs.PrimeCode.{class_dims_made, dot_key_made, names_special_made, names_special_run, skip_item_run, skipped_token, special_tail_made, special_tail_run, word_class_made}
use Rattle.jc_parse_expr.proofs.MeasuredSteps.{twice, then_made}
use Rattle.jc_parse_expr.proofs.CreationSteps.{room, no_room}

-- skipped bodies

pub skip_token : (h : ℕ) (ts : List Token) → one_of (sign_code sign_of.LeftBrace ∷ []) ts ≡ false → skip_item_run h ts ≡ as_new skipped_token (picking picks_skipped) ts
skip_token h ts e = ap (becoming skip_part_made) (cond-false (one_of (sign_code sign_of.LeftBrace ∷ []) ts) _ _ e) ∙ twice skip_part_made That skipped_token (picking picks_skipped ts) (λ a. refl)

pub skip_inner : (h : ℕ) (ts : List Token) → one_of (sign_code sign_of.LeftBrace ∷ []) ts ≡ true → skip_item_run h ts ≡ becoming skip_part_of.Inner (skip_run h ts)
skip_inner h ts e = ap (becoming skip_part_made) (cond-true (one_of (sign_code sign_of.LeftBrace ∷ []) ts) _ _ e) ∙ twice skip_part_made This skip_part_of.Inner (skip_run h ts) (λ a. refl)

-- class literals and outer `this`

module _ (h : ℕ) where
  pub tail_dims : (first : Ident) (more : List Ident) (ts : List Token) → one_of (sign_code sign_of.LeftBracket ∷ []) ts ≡ true → as_new (special_tail_made first more) (special_tail_run h) ts ≡ as_new (class_dims_made first more) (class_dims_run h) ts
  tail_dims first more ts e =
      ap (becoming (special_tail_made first more)) (cond-true (one_of (sign_code sign_of.LeftBracket ∷ []) ts) _ _ e) ∙ twice (special_tail_made first more) This (class_dims_made first more) (class_dims_run h ts) (λ a. refl)

  pub tail_key : (first : Ident) (more : List Ident) (ts : List Token) → one_of (sign_code sign_of.LeftBracket ∷ []) ts ≡ false → as_new (special_tail_made first more) (special_tail_run h) ts ≡ as_new (dot_key_made first more) (dot_key_run h) ts
  tail_key first more ts e =
      ap (becoming (special_tail_made first more)) (cond-false (one_of (sign_code sign_of.LeftBracket ∷ []) ts) _ _ e) ∙ twice (special_tail_made first more) That (dot_key_made first more) (dot_key_run h ts) (λ a. refl)

  noted_again : {A : Type 0} (l k : ℕ) (m : Read A) → noting l (noting k m) ≡ noting (min l k) m
  noted_again l k (Found a r j) = let e : min l (min k j) ≡ min (min l k) j = omega arith in ap (λ i. Found a r i) e
  noted_again l k (Stopped j) = let e : min l (min k j) ≡ min (min l k) j = omega arith in ap (λ i. Stopped i) e

  pub names_tail : (ts q r : List Token) (first : Ident) (more : List Ident) (l k : ℕ) → an_ident_at ts ≡ Found first q l → more_names_run q ≡ Found more r k
      → as_new names_special_made (names_special_run h) ts ≡ noting (min l k) (as_new (special_tail_made first more) (special_tail_run h) r)
  names_tail ts q r first more l k e f =
      then_made names_special_made an_ident_at (in_turn more_names_run (special_tail_run h)) ts q first l e
      ∙ ap (noting l) (then_made (λ (x : List Ident × SpecialTail). names_special_made (first, x)) more_names_run (special_tail_run h) q r more k f)
      ∙ noted_again l k (as_new (special_tail_made first more) (special_tail_run h) r)

  pub special_names : (ts : List Token) → one_of primitive_codes ts ≡ false → special_run h ts ≡ as_new names_special_made (names_special_run h) ts
  unfolding special_run
  special_names ts e = ap (becoming special_made) (cond-false (one_of primitive_codes ts) _ _ e) ∙ twice special_made That names_special_made (names_special_run h ts) (λ a. refl)

  pub special_word : (ts q : List Token) (at : ℕ) (w : PrimitiveWord) → 0 < h → one_of primitive_codes ts ≡ true → word_run ts ≡ found (at, w) q → special_run h ts ≡ noting (length q) (as_new (word_class_made at w) (in_turn dims_run dot_class_run) q)
  unfolding special_run
  special_word ts q at w p e f =
      ap (becoming special_made) (cond-true (one_of primitive_codes ts) _ _ e ∙ ap (becoming This) (room h _ ts p))
      ∙ twice special_made This (λ x. special_made (This x)) (in_turn word_run (in_turn dims_run dot_class_run) ts) (λ a. refl)
      ∙ then_made (λ x. special_made (This x)) word_run (in_turn dims_run dot_class_run) ts q (at, w) (length q) f

  pub special_low : (ts : List Token) → h ≡ 0 → one_of primitive_codes ts ≡ true → special_run h ts ≡ Stopped (length ts)
  unfolding special_run
  special_low ts p e = ap (becoming special_made) (cond-true (one_of primitive_codes ts) _ _ e ∙ ap (becoming This) (no_room h _ ts p))
