-- What the steps of the code of members, selectors and starts read.
use Rattle.std.proofs.Common.{◌≡◌, ℕ, ◌+◌, ◌^◌, ◌<◌, ◌≤◌, Bool, true, false, nat_le, List, [], ◌∷◌, length, Option, Some, None, refl, sym, ap, ◌∙◌, arith}
use Rattle.std.proofs.lemmas.Bool.{cond-true, cond-false, le-leb, lt-leb}
use Rattle.jc_lexer.specs.declared.token.Key.TheVariants as key_of
use Rattle.jc_lexer.specs.declared.token.Sign.TheVariants as sign_of
use Rattle.jc_lexer.specs.declared.token.Token.{Token}
use Rattle.jc_tree.specs.declared.name.Ident.{Ident}
use Rattle.jc_tree.specs.declared.types.TypeArg.{TypeArg}
use Rattle.jc_tree.specs.declared.expression.ArrayInit.{ArrayInit}
use Rattle.jc_tree.specs.declared.expression.Creation.{Creation}
use Rattle.jc_tree.specs.declared.expression.Expr.{Expr}
use Rattle.jc_tree.specs.declared.expression.Expr.TheVariants as expr_of
use Rattle.jc_tree.specs.declared.expression.Literal.{Literal}
use Rattle.jc_tree.specs.Heights.{capped, expr_height}
use Rattle.jc_grammar.specs.Shapes.{expr_shape}
use Rattle.jc_reading.specs.Kinds.{sign_code, key_code, word_code, one_of}
use Rattle.jc_reading.specs.Reading.{Read, Found, Stopped, Run, found, noting, ◌>>=◌, becoming, joined, as_new, in_turn, of_kind, at_kind, an_ident_at, picking, before_it, commas_run, This, That, Either, either}
use Rattle.jc_reading.specs.Reach.{Near}
use Rattle.jc_reading.proofs.Nears.{near_turn, near_kind}
use Rattle.jc_parse_type.specs.TypeReading.{arg_run, type_run}
use Rattle.jc_expr_laws.specs.PrimeReading.{Member, actuals_run, creation_run, some_args_run, named_run, member_run, indexed_run, dotted_run, selector_run, picks_literal, literal_codes}
use Rattle.jc_expr_laws.specs.StartReading.{Keyed, dot_class_run, plain_made, parens_run, keyed_run, plain_run}
use Rattle.jc_parse_expr.specs.PrimeCode.{array_in, expr_in, member_tree, named_tree, called_tree, some_args_list, dotted_tree, dotted_inside, pointed_tree, index_tree, selector_tree, selector_at, of_super, super_made, keyed_made, named_made, void_made, parens_made, literal_made, started}
use Rattle.jc_parse_expr.specs.declared.parts.SelectorTree.TheVariants as selector_of
use Rattle.jc_parse_expr.proofs.PrimeNears.{near_args, near_bracketed, near_creation, near_dot_class, near_dotted_inside, near_member}
use Rattle.jc_parse_expr.proofs.LevelNears.{near_expr, near_array_of}
use Rattle.jc_parse_expr.proofs.MeasuredSteps.{twice, mapped_made, mapped_stops, behind_kind, behind_place}
use Rattle.jc_parse_expr.proofs.CreationSteps.{room, no_room}

module _ (h : ℕ) where
  abbrev E : Run Expr
  E = expr_in h

  abbrev A : Run ArrayInit
  A = array_in h

  -- members

  pub member_named : (ts : List Token) → one_of (sign_code sign_of.Less ∷ []) ts ≡ false → as_new member_tree (member_run h E) ts ≡ as_new named_tree (named_run E) ts
  member_named ts e = ap (becoming member_tree) (cond-false (one_of (sign_code sign_of.Less ∷ []) ts) _ _ e) ∙ twice member_tree That named_tree (named_run E ts) (λ a. refl)

  with_args : (ts : List Token) → one_of (sign_code sign_of.Less ∷ []) ts ≡ true → as_new member_tree (member_run h E) ts ≡ as_new (λ p. member_tree (This p)) (in_turn (some_args_run h) (in_turn an_ident_at (actuals_run E))) ts
  with_args ts e =
      ap (becoming member_tree) (cond-true (one_of (sign_code sign_of.Less ∷ []) ts) _ _ e)
      ∙ twice member_tree This (λ p. member_tree (This p)) (in_turn (some_args_run h) (in_turn an_ident_at (actuals_run E)) ts) (λ a. refl)

  pub member_called : (ts q : List Token) (list : List TypeArg) (l : ℕ) → one_of (sign_code sign_of.Less ∷ []) ts ≡ true → as_new some_args_list (some_args_run h) ts ≡ Found list q l
      → as_new member_tree (member_run h E) ts ≡ noting l (as_new (called_tree list) (in_turn an_ident_at (actuals_run E)) q)
  member_called ts q list l e f =
      with_args ts e
      ∙ mapped_made (λ p. member_tree (This p)) some_args_list (λ (x : List TypeArg × (Ident × List Expr)). called_tree x.0 x.1) (λ a b. refl) (some_args_run h) (in_turn an_ident_at (actuals_run E)) ts q list l f

  pub member_stops : (ts : List Token) (l : ℕ) → one_of (sign_code sign_of.Less ∷ []) ts ≡ true → as_new some_args_list (some_args_run h) ts ≡ Stopped l → as_new member_tree (member_run h E) ts ≡ Stopped l
  member_stops ts l e f = with_args ts e ∙ mapped_stops (λ p. member_tree (This p)) some_args_list (some_args_run h) (in_turn an_ident_at (actuals_run E)) ts l f

  pub args_inside : (ts q : List Token) → of_kind (sign_code sign_of.Less) ts ≡ found tt q → as_new some_args_list (some_args_run h) ts ≡ as_new before_it (in_turn (commas_run (arg_run h (type_run h))) (of_kind (sign_code sign_of.Greater))) q
  args_inside ts q e =
      behind_kind some_args_list (sign_code sign_of.Less) (in_turn (commas_run (arg_run h (type_run h))) (of_kind (sign_code sign_of.Greater))) ts q (near_turn (commas_run (arg_run h (type_run h))) (of_kind (sign_code sign_of.Greater)) (near_args h) (near_kind (sign_code sign_of.Greater))) e

  pub args_open : (ts : List Token) → of_kind (sign_code sign_of.Less) ts ≡ Stopped (length ts) → as_new some_args_list (some_args_run h) ts ≡ Stopped (length ts)
  args_open ts e = ap (λ (v : Read (Unit {0})). becoming some_args_list (v >>= (λ (u : Unit {0}) q. becoming (joined u) (in_turn (commas_run (arg_run h (type_run h))) (of_kind (sign_code sign_of.Greater)) q)))) e

  -- behind a point

  pub dotted_new : (ts q : List Token) → one_of (key_code key_of.New ∷ []) ts ≡ true → of_kind (key_code key_of.New) ts ≡ found tt q → as_new dotted_tree (dotted_inside h E A) ts ≡ becoming selector_of.New (creation_run h E A q)
  dotted_new ts q e f =
      ap (becoming dotted_tree) (cond-true (one_of (key_code key_of.New ∷ []) ts) _ _ e)
      ∙ twice dotted_tree This (λ p. selector_of.New p.1) (in_turn (of_kind (key_code key_of.New)) (creation_run h E A) ts) (λ a. refl)
      ∙ behind_kind (λ p. selector_of.New p.1) (key_code key_of.New) (creation_run h E A) ts q (near_creation h E A (near_expr h) (near_array_of h)) f

  pub dotted_member : (ts : List Token) → one_of (key_code key_of.New ∷ []) ts ≡ false → as_new dotted_tree (dotted_inside h E A) ts ≡ becoming selector_of.Member (as_new member_tree (member_run h E) ts)
  dotted_member ts e =
      ap (becoming dotted_tree) (cond-false (one_of (key_code key_of.New ∷ []) ts) _ _ e)
      ∙ twice dotted_tree That (λ m. selector_of.Member (member_tree m)) (member_run h E ts) (λ a. refl)
      ∙ sym (twice selector_of.Member member_tree (λ m. selector_of.Member (member_tree m)) (member_run h E ts) (λ a. refl))

  pub pointed_inside : (ts q : List Token) → of_kind (sign_code sign_of.Dot) ts ≡ found tt q → as_new pointed_tree (dotted_run h E A) ts ≡ as_new dotted_tree (dotted_inside h E A) q
  pointed_inside ts q e = behind_kind pointed_tree (sign_code sign_of.Dot) (dotted_inside h E A) ts q (near_dotted_inside h E A (near_expr h) (near_array_of h)) e

  pub pointed_open : (ts : List Token) → of_kind (sign_code sign_of.Dot) ts ≡ Stopped (length ts) → as_new pointed_tree (dotted_run h E A) ts ≡ Stopped (length ts)
  pointed_open ts e = ap (λ (v : Read (Unit {0})). becoming pointed_tree (v >>= (λ (u : Unit {0}) q. becoming (joined u) (dotted_inside h E A q)))) e

  pub index_bracketed : (ts : List Token) → as_new index_tree (in_turn E (of_kind (sign_code sign_of.RightBracket))) ts ≡ becoming selector_of.Index (as_new before_it (in_turn E (of_kind (sign_code sign_of.RightBracket))) ts)
  index_bracketed ts = sym (twice selector_of.Index before_it index_tree (in_turn E (of_kind (sign_code sign_of.RightBracket)) ts) (λ a. refl))

  -- selectors

  by_tests : (v : Expr) (a b : Bool) (ts : List Token) → nat_le (expr_height v) h ≡ a → (expr_shape v).sized ≡ b → selector_at h v ts ≡ as_new selector_tree (selector_run h E A a b) ts
  by_tests v a b ts e f = ap (λ (x : Bool). as_new selector_tree (selector_run h E A x (expr_shape v).sized) ts) e ∙ ap (λ (x : Bool). as_new selector_tree (selector_run h E A a x) ts) f

  bracket_first : (v : Expr) (ts : List Token) → nat_le (expr_height v) h ≡ true → (expr_shape v).sized ≡ false → one_of (sign_code sign_of.LeftBracket ∷ []) ts ≡ true → selector_at h v ts ≡ becoming (λ p. index_tree p.1) (indexed_run h E ts)
  bracket_first v ts e f g =
      by_tests v true false ts e f ∙ ap (becoming selector_tree) (cond-true (one_of (sign_code sign_of.LeftBracket ∷ []) ts) _ _ g) ∙ twice selector_tree This (λ p. index_tree p.1) (indexed_run h E ts) (λ a. refl)

  -- where the value has the height n, as far as a u32 holds it

  pub selector_tall : (v : Expr) (ts : List Token) (n : ℕ) → n ≡ capped (expr_height v) → h < n → selector_at h v ts ≡ Stopped (length ts)
  selector_tall v ts n c lt = by_tests v false (expr_shape v).sized ts (lt-leb (expr_height v) h (omega (arith, c, lt))) refl

  pub selector_sized : (v : Expr) (ts : List Token) (n : ℕ) → n ≡ capped (expr_height v) → n ≤ h → h + 1 < 2 ^ 32 → (expr_shape v).sized ≡ true → selector_at h v ts ≡ as_new pointed_tree (dotted_run h E A) ts
  selector_sized v ts n c le w f = by_tests v true true ts (le-leb (expr_height v) h (omega (arith, c, le, w))) f ∙ twice selector_tree That pointed_tree (dotted_run h E A ts) (λ a. refl)

  pub selector_pointed : (v : Expr) (ts : List Token) (n : ℕ) → n ≡ capped (expr_height v) → n ≤ h → h + 1 < 2 ^ 32 → (expr_shape v).sized ≡ false → one_of (sign_code sign_of.LeftBracket ∷ []) ts ≡ false
      → selector_at h v ts ≡ as_new pointed_tree (dotted_run h E A) ts
  selector_pointed v ts n c le w f g =
      by_tests v true false ts (le-leb (expr_height v) h (omega (arith, c, le, w))) f ∙ ap (becoming selector_tree) (cond-false (one_of (sign_code sign_of.LeftBracket ∷ []) ts) _ _ g)
      ∙ twice selector_tree That pointed_tree (dotted_run h E A ts) (λ a. refl)

  pub selector_index : (v : Expr) (ts q : List Token) (n : ℕ) → n ≡ capped (expr_height v) → n ≤ h → h + 1 < 2 ^ 32 → (expr_shape v).sized ≡ false → one_of (sign_code sign_of.LeftBracket ∷ []) ts ≡ true → 0 < h
      → of_kind (sign_code sign_of.LeftBracket) ts ≡ found tt q → selector_at h v ts ≡ as_new index_tree (in_turn E (of_kind (sign_code sign_of.RightBracket))) q
  selector_index v ts q n c le w f g p i =
      bracket_first v ts (le-leb (expr_height v) h (omega (arith, c, le, w))) f g ∙ ap (becoming (λ p. index_tree p.1)) (room h _ ts p)
      ∙ behind_kind (λ p. index_tree p.1) (sign_code sign_of.LeftBracket) (in_turn E (of_kind (sign_code sign_of.RightBracket))) ts q (near_bracketed h E A (near_expr h) (near_array_of h)) i

  pub selector_low : (v : Expr) (ts : List Token) (n : ℕ) → n ≡ capped (expr_height v) → n ≤ h → h + 1 < 2 ^ 32 → (expr_shape v).sized ≡ false → one_of (sign_code sign_of.LeftBracket ∷ []) ts ≡ true → h ≡ 0 → selector_at h v ts ≡ Stopped (length ts)
  selector_low v ts n c le w f g p = bracket_first v ts (le-leb (expr_height v) h (omega (arith, c, le, w))) f g ∙ ap (becoming (λ p. index_tree p.1)) (no_room h _ ts p)

  -- starts

  pub super_inside : (at : ℕ) (ts q : List Token) → of_kind (sign_code sign_of.Dot) ts ≡ found tt q → as_new (super_made at) (in_turn (of_kind (sign_code sign_of.Dot)) (member_run h E)) ts ≡ becoming (of_super at) (as_new member_tree (member_run h E) q)
  super_inside at ts q e =
      behind_kind (super_made at) (sign_code sign_of.Dot) (member_run h E) ts q (near_member h E A (near_expr h) (near_array_of h)) e
      ∙ sym (twice (of_super at) member_tree (λ m. of_super at (member_tree m)) (member_run h E q) (λ a. refl))

  pub super_open : (at : ℕ) (ts : List Token) → of_kind (sign_code sign_of.Dot) ts ≡ Stopped (length ts) → as_new (super_made at) (in_turn (of_kind (sign_code sign_of.Dot)) (member_run h E)) ts ≡ Stopped (length ts)
  super_open at ts e = ap (λ (v : Read (Unit {0})). becoming (super_made at) (v >>= (λ (u : Unit {0}) q. becoming (joined u) (member_run h E q)))) e

  near_closed : Near (in_turn E (of_kind (sign_code sign_of.RightParen)))
  near_closed = near_turn E (of_kind (sign_code sign_of.RightParen)) (near_expr h) (near_kind (sign_code sign_of.RightParen))

  pub parens_inside : (at : ℕ) (ts q : List Token) → 0 < h → at_kind (sign_code sign_of.LeftParen) ts ≡ found at q → as_new parens_made (parens_run h E) ts ≡ as_new (λ (p : Expr × Unit {0}). expr_of.Paren at p.0) (in_turn E (of_kind (sign_code sign_of.RightParen))) q
  parens_inside at ts q p e = ap (becoming parens_made) (room h _ ts p) ∙ behind_place parens_made (sign_code sign_of.LeftParen) (in_turn E (of_kind (sign_code sign_of.RightParen))) ts q at near_closed e

  pub parens_open : (ts : List Token) → 0 < h → at_kind (sign_code sign_of.LeftParen) ts ≡ Stopped (length ts) → as_new parens_made (parens_run h E) ts ≡ Stopped (length ts)
  parens_open ts p e = ap (becoming parens_made) (room h _ ts p) ∙ ap (λ (v : Read ℕ). becoming parens_made (v >>= (λ (u : ℕ) q. becoming (joined u) (in_turn E (of_kind (sign_code sign_of.RightParen)) q)))) e

  pub parens_low : (ts : List Token) → h ≡ 0 → as_new parens_made (parens_run h E) ts ≡ Stopped (length ts)
  parens_low ts p = ap (becoming parens_made) (no_room h _ ts p)

  keyed_super_same : (at : ℕ) (p : Unit {0} × Member) → keyed_made (This (at, p)) ≡ super_made at p
  keyed_super_same at (u, This p) = refl
  keyed_super_same at (u, That (name, None)) = refl
  keyed_super_same at (u, That (name, Some list)) = refl

  near_super : Near (in_turn (of_kind (sign_code sign_of.Dot)) (member_run h E))
  near_super = near_turn (of_kind (sign_code sign_of.Dot)) (member_run h E) (near_kind (sign_code sign_of.Dot)) (near_member h E A (near_expr h) (near_array_of h))

  pub keyed_super : (ts q : List Token) (at : ℕ) → one_of (key_code key_of.Super ∷ []) ts ≡ true → at_kind (key_code key_of.Super) ts ≡ found at q → as_new keyed_made (keyed_run h E A) ts ≡ as_new (super_made at) (in_turn (of_kind (sign_code sign_of.Dot)) (member_run h E)) q
  keyed_super ts q at e f =
      ap (becoming keyed_made) (cond-true (one_of (key_code key_of.Super ∷ []) ts) _ _ e)
      ∙ twice keyed_made This (λ x. super_made x.0 x.1) (in_turn (at_kind (key_code key_of.Super)) (in_turn (of_kind (sign_code sign_of.Dot)) (member_run h E)) ts) (λ a. keyed_super_same a.0 a.1)
      ∙ behind_place (λ x. super_made x.0 x.1) (key_code key_of.Super) (in_turn (of_kind (sign_code sign_of.Dot)) (member_run h E)) ts q at near_super f

  abbrev Later : Type 0
  Later = Either (ℕ × Creation) (Either (ℕ × (Unit {0} × Unit {0})) (ℕ × (Expr × Unit {0})))

  abbrev later_run : Run Later
  later_run =
      either (key_code key_of.New ∷ []) (in_turn (at_kind (key_code key_of.New)) (creation_run h E A)) (either (key_code key_of.Void ∷ []) (in_turn (at_kind (key_code key_of.Void)) dot_class_run) (parens_run h E))

  not_super : (ts : List Token) → one_of (key_code key_of.Super ∷ []) ts ≡ false → as_new keyed_made (keyed_run h E A) ts ≡ becoming (λ (x : Later). keyed_made (That x)) (later_run ts)
  not_super ts e = ap (becoming keyed_made) (cond-false (one_of (key_code key_of.Super ∷ []) ts) _ _ e) ∙ twice keyed_made That (λ (x : Later). keyed_made (That x)) (later_run ts) (λ a. refl)

  pub keyed_new : (ts q : List Token) (at : ℕ) → one_of (key_code key_of.Super ∷ []) ts ≡ false → one_of (key_code key_of.New ∷ []) ts ≡ true → at_kind (key_code key_of.New) ts ≡ found at q
      → as_new keyed_made (keyed_run h E A) ts ≡ as_new (expr_of.New at) (creation_run h E A) q
  keyed_new ts q at e f g =
      not_super ts e ∙ ap (becoming (λ (x : Later). keyed_made (That x))) (cond-true (one_of (key_code key_of.New ∷ []) ts) _ _ f)
      ∙ twice (λ (x : Later). keyed_made (That x)) This (λ p. expr_of.New p.0 p.1) (in_turn (at_kind (key_code key_of.New)) (creation_run h E A) ts) (λ a. refl)
      ∙ behind_place (λ p. expr_of.New p.0 p.1) (key_code key_of.New) (creation_run h E A) ts q at (near_creation h E A (near_expr h) (near_array_of h)) g

  abbrev Last : Type 0
  Last = Either (ℕ × (Unit {0} × Unit {0})) (ℕ × (Expr × Unit {0}))

  not_new : (ts : List Token) → one_of (key_code key_of.Super ∷ []) ts ≡ false → one_of (key_code key_of.New ∷ []) ts ≡ false
      → as_new keyed_made (keyed_run h E A) ts ≡ becoming (λ (x : Last). keyed_made (That (That x))) (either (key_code key_of.Void ∷ []) (in_turn (at_kind (key_code key_of.Void)) dot_class_run) (parens_run h E) ts)
  not_new ts e f =
      not_super ts e ∙ ap (becoming (λ (x : Later). keyed_made (That x))) (cond-false (one_of (key_code key_of.New ∷ []) ts) _ _ f)
      ∙ twice (λ (x : Later). keyed_made (That x)) That (λ (x : Last). keyed_made (That (That x))) (either (key_code key_of.Void ∷ []) (in_turn (at_kind (key_code key_of.Void)) dot_class_run) (parens_run h E) ts) (λ a. refl)

  pub keyed_void : (ts q : List Token) (at : ℕ) → one_of (key_code key_of.Super ∷ []) ts ≡ false → one_of (key_code key_of.New ∷ []) ts ≡ false → one_of (key_code key_of.Void ∷ []) ts ≡ true → at_kind (key_code key_of.Void) ts ≡ found at q
      → as_new keyed_made (keyed_run h E A) ts ≡ as_new (void_made at) dot_class_run q
  keyed_void ts q at e f g i =
      not_new ts e f ∙ ap (becoming (λ (x : Last). keyed_made (That (That x)))) (cond-true (one_of (key_code key_of.Void ∷ []) ts) _ _ g)
      ∙ twice (λ (x : Last). keyed_made (That (That x))) This (λ p. void_made p.0 p.1) (in_turn (at_kind (key_code key_of.Void)) dot_class_run ts) (λ a. refl)
      ∙ behind_place (λ p. void_made p.0 p.1) (key_code key_of.Void) dot_class_run ts q at near_dot_class i

  pub keyed_parens : (ts : List Token) → one_of (key_code key_of.Super ∷ []) ts ≡ false → one_of (key_code key_of.New ∷ []) ts ≡ false → one_of (key_code key_of.Void ∷ []) ts ≡ false → as_new keyed_made (keyed_run h E A) ts ≡ as_new parens_made (parens_run h E) ts
  keyed_parens ts e f g =
      not_new ts e f ∙ ap (becoming (λ (x : Last). keyed_made (That (That x)))) (cond-false (one_of (key_code key_of.Void ∷ []) ts) _ _ g)
      ∙ twice (λ (x : Last). keyed_made (That (That x))) That parens_made (parens_run h E ts) (λ a. refl)

  started_same : (p : Ident × Option (List Expr)) → started (named_tree p) ≡ named_made p
  started_same (name, None) = refl
  started_same (name, Some list) = refl

  pub started_named : (ts : List Token) → as_new named_made (named_run E) ts ≡ becoming started (as_new named_tree (named_run E) ts)
  started_named ts = sym (twice started named_tree named_made (named_run E ts) started_same)

  pub plain_named : (ts : List Token) → one_of (word_code ∷ []) ts ≡ true → plain_run h E A ts ≡ as_new named_made (named_run E) ts
  unfolding plain_run
  plain_named ts e = ap (becoming plain_made) (cond-true (one_of (word_code ∷ []) ts) _ _ e) ∙ twice plain_made This named_made (named_run E ts) (λ a. refl)

  abbrev Unnamed : Type 0
  Unnamed = Either (ℕ × Literal) (Either ℕ Keyed)

  unnamed : (ts : List Token) → one_of (word_code ∷ []) ts ≡ false → plain_run h E A ts ≡ becoming (λ (x : Unnamed). plain_made (That x)) (either literal_codes (picking picks_literal) (either (key_code key_of.This ∷ []) (at_kind (key_code key_of.This)) (keyed_run h E A)) ts)
  unfolding plain_run
  unnamed ts e =
      ap (becoming plain_made) (cond-false (one_of (word_code ∷ []) ts) _ _ e)
      ∙ twice plain_made That (λ (x : Unnamed). plain_made (That x)) (either literal_codes (picking picks_literal) (either (key_code key_of.This ∷ []) (at_kind (key_code key_of.This)) (keyed_run h E A)) ts) (λ a. refl)

  pub plain_literal : (ts : List Token) → one_of (word_code ∷ []) ts ≡ false → one_of literal_codes ts ≡ true → plain_run h E A ts ≡ as_new literal_made (picking picks_literal) ts
  plain_literal ts e f =
      unnamed ts e ∙ ap (becoming (λ (x : Unnamed). plain_made (That x))) (cond-true (one_of literal_codes ts) _ _ f) ∙ twice (λ (x : Unnamed). plain_made (That x)) This literal_made (picking picks_literal ts) (λ a. refl)

  abbrev Unlit : Type 0
  Unlit = Either ℕ Keyed

  unlit : (ts : List Token) → one_of (word_code ∷ []) ts ≡ false → one_of literal_codes ts ≡ false → plain_run h E A ts ≡ becoming (λ (x : Unlit). plain_made (That (That x))) (either (key_code key_of.This ∷ []) (at_kind (key_code key_of.This)) (keyed_run h E A) ts)
  unlit ts e f =
      unnamed ts e ∙ ap (becoming (λ (x : Unnamed). plain_made (That x))) (cond-false (one_of literal_codes ts) _ _ f)
      ∙ twice (λ (x : Unnamed). plain_made (That x)) That (λ (x : Unlit). plain_made (That (That x))) (either (key_code key_of.This ∷ []) (at_kind (key_code key_of.This)) (keyed_run h E A) ts) (λ a. refl)

  pub plain_this : (ts q : List Token) (at : ℕ) → one_of (word_code ∷ []) ts ≡ false → one_of literal_codes ts ≡ false → one_of (key_code key_of.This ∷ []) ts ≡ true → at_kind (key_code key_of.This) ts ≡ found at q → plain_run h E A ts ≡ found (expr_of.This at) q
  plain_this ts q at e f g i =
      unlit ts e f ∙ ap (becoming (λ (x : Unlit). plain_made (That (That x)))) (cond-true (one_of (key_code key_of.This ∷ []) ts) _ _ g ∙ ap (becoming This) i)

  pub plain_keyed : (ts : List Token) → one_of (word_code ∷ []) ts ≡ false → one_of literal_codes ts ≡ false → one_of (key_code key_of.This ∷ []) ts ≡ false → plain_run h E A ts ≡ as_new keyed_made (keyed_run h E A) ts
  plain_keyed ts e f g =
      unlit ts e f ∙ ap (becoming (λ (x : Unlit). plain_made (That (That x)))) (cond-false (one_of (key_code key_of.This ∷ []) ts) _ _ g)
      ∙ twice (λ (x : Unlit). plain_made (That (That x))) That keyed_made (keyed_run h E A ts) (λ a. refl)
