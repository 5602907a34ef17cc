-- Heads of `for`, as the code reads them.
use Rattle.std.proofs.Common.{◌≡◌, ℕ, min, Bool, true, false, cond, List, [], ◌∷◌, map, length, Option, Some, None, refl, sym, ap, ◌∙◌, arith}
use Rattle.std.proofs.lemmas.Bool.{cond-true, cond-false}
use Rattle.jc_lexer.specs.declared.token.Key.TheVariants as key_of
use Rattle.jc_lexer.specs.declared.token.Sign.TheVariants as sign_of
use Rattle.jc_lexer.specs.declared.token.Token.{Token}
use Rattle.jc_tree.specs.declared.name.Ident.{Ident}
use Rattle.jc_tree.specs.declared.expression.Expr.{Expr}
use Rattle.jc_tree.specs.declared.expression.Init.{Init}
use Rattle.jc_tree.specs.declared.statement.ForHead.{ForHead}
use Rattle.jc_tree.specs.declared.statement.ForHead.TheVariants as for_of
use Rattle.jc_tree.specs.declared.statement.ForInit.TheVariants as init_of
use Rattle.jc_tree.specs.declared.statement.Modifier.{Modifier}
use Rattle.jc_tree.specs.declared.statement.Var.{Var}
use Rattle.jc_tree.specs.declared.types.TypeTree.{TypeTree}
use Rattle.jc_reading.specs.Kinds.{sign_code, word_code, one_of}
use Rattle.jc_reading.specs.Reading.{Read, Found, Stopped, Run, noting, becoming, joined, ◌>>=◌, as_new, in_turn, perhaps, of_kind, an_ident_at, before_it, behind_it, each_behind, commas_run, Either, This, That, either}
use Rattle.jc_reading.specs.Further.{tried}
use Rattle.jc_parse_type.specs.TypeReading.{dims_run, type_run}
use Rattle.jc_part_laws.specs.PartReading.{modifier_run, modifiers_run, var_run}
use Rattle.jc_expr_laws.specs.ExprReading.{exprs, strict_effect}
use Rattle.jc_expr_laws.proofs.EffectEndings.{effects_and_more}
use Rattle.jc_unit_laws.specs.UnitReading.{ForRest, ForParts, expr_in_run, for_head_made, for_head_run, for_named_run, for_rest_run, named_made, or_no_effects, or_no_init, semicolon_run}
use Rattle.jc_parse_parts.specs.Parts.{or_no_initial, more_vars_run, initial_run}
use Rattle.jc_parse_heads.specs.UnitCode.{for_opening, for_opening_run, listed}
use Rattle.jc_parse_heads.specs.Beginnings.{modifier_codes}
use Rattle.jc_parse_heads.specs.HeadCode.{opened_run, updating_run, testing_run, parens_end, effects_run, updates_made, updates_run, for_update_made, for_update_run, for_test_made, for_test_run, for_tail_made, for_tail_run, empty_head, Kind, kind_of, resting_run, given_run, each_kind_run, colon_codes, kinds_run, closed_expr_run, for_each_made, for_each_run, each_kind, for_more_made, for_more_run, for_vars_made, for_vars_run, for_kind_made, for_kind_run, for_dims_made, for_dims_run, named_of, for_name_made, for_name_run, for_typed_made, for_typed_run, named_head, typed_head, bare_head, first_modifiers_run, Moded, moded_run, for_moded_made, for_moded_run, effecting_run, for_effects_made, for_effects_run, tried_run, for_other_made, for_other_run, for_typed_or_run, for_ended_run}
use Rattle.jc_parse_nodes.specs.declared.head_parts.ForTail.{ForTail}
use Rattle.jc_parse_nodes.specs.declared.head_parts.ForMore.{ForMore}
use Rattle.jc_parse_nodes.specs.declared.head_parts.ForKind.{ForKind}
use Rattle.jc_parse_nodes.specs.declared.head_parts.ForKind.TheVariants as kind_is
use Rattle.jc_parse_nodes.specs.declared.head_parts.ForDims.{ForDims}
use Rattle.jc_parse_nodes.specs.declared.head_parts.ForNamed.{ForNamed}
use Rattle.jc_parse_nodes.specs.declared.head_parts.ForTyped.{ForTyped}
use Rattle.jc_parse_nodes.specs.declared.pieces.ForOpening.{ForOpening}
use Rattle.jc_parse_heads.proofs.Chains.{behind_opened, ended_step, flat, same_self}
use Rattle.jc_parse_heads.proofs.Joinings.{Splits, cut, first_made, first_read, grouped, room_gone, room_there, second_made, second_same, split_behind, split_here}
use Rattle.jc_parse_expr.proofs.PairSteps.{remade}

-- what is read in the same way but for a sign before it

behind_sign : {A B : Type 0} (m : Run A) (n : Run B) (ts q : List Token) (a : A) (l : ℕ) → m ts ≡ Found a q l → as_new (λ (p : A × B). p.1) (in_turn m n) ts ≡ noting l (n q)
behind_sign {A = A} {B = B} m n ts q a l e = cut (λ (p : A × B). p.1) m n ts q a l e ∙ ap (noting l) (same_self (n q))

-- the last of a part

-- a whole that goes apart goes apart with what ends it
split_ended : {P D C E : Type 0} (T : Run P) (F : Run D) (N : Run C) (w : (D × C) → P) (end : Run E) → Splits T F N w → Splits (in_turn T end) F (in_turn N end) (λ (p : D × (C × E)). (w (p.0, p.1.0), p.1.1))
unfolding Splits
split_ended {P = P} {D = D} {C = C} {E = E} T F N w end s ts =
    let make : ((D × C) × E) → (P × E) = λ p. (w p.0, p.1) in
    ap (λ (v : Read P). v >>= (λ a q. becoming (joined a) (end q))) (s ts)
    ∙ sym (first_read make w (λ p. p) end (λ a b. refl) (in_turn F N ts) ∙ same_self (becoming w (in_turn F N ts) >>= (λ a q. becoming (joined a) (end q))))
    ∙ flat make F N end ts

-- tests and updates

module _ (h : ℕ) (ts : List Token) where
  abbrev Updating : Run (Option (List Expr))
  Updating = updating_run h

  pub for_update_is : for_update_run h ts ≡ as_new (λ (p : Unit {0} × List Expr). p.1) (in_turn semicolon_run (updates_run h)) ts
  unfolding for_update_run updates_run
  for_update_is = ended_step for_update_made updates_made (λ p. p.1) (λ a b. refl) semicolon_run Updating parens_end ts

  abbrev pub for_tail_node : (Option Expr × List Expr) → ForTail
  for_tail_node p = record { test = p.0; update = p.1 }

  pub for_test_is : for_test_run h ts ≡ as_new for_tail_node (in_turn (perhaps (expr_in_run exprs h)) (for_update_run h)) ts
  unfolding for_test_run for_update_run
  for_test_is = ended_step for_test_made for_update_made for_tail_node (λ a b. refl) (perhaps (expr_in_run exprs h)) (in_turn semicolon_run Updating) parens_end ts

  pub for_tail_is : for_tail_run h ts ≡ as_new (λ (p : Unit {0} × ForTail). p.1) (in_turn semicolon_run (for_test_run h)) ts
  unfolding for_tail_run for_rest_run for_test_run
  for_tail_is = ended_step for_tail_made for_test_made (λ p. p.1) (λ a b. refl) semicolon_run (testing_run h) parens_end ts

  pub for_update_found : (q : List Token) (l : ℕ) → semicolon_run ts ≡ Found tt q l → for_update_run h ts ≡ noting l (updates_run h q)
  for_update_found q l e = for_update_is ∙ behind_sign semicolon_run (updates_run h) ts q tt l e

  pub for_tail_found : (q : List Token) (l : ℕ) → semicolon_run ts ≡ Found tt q l → for_tail_run h ts ≡ noting l (for_test_run h q)
  for_tail_found q l e = for_tail_is ∙ behind_sign semicolon_run (for_test_run h) ts q tt l e

  -- a first variable

  pub for_more_is : for_more_run h ts ≡ as_new (λ (p : List Var × ForTail). record { more = p.0; test = p.1.test; update = p.1.update }) (in_turn (more_vars_run h) (for_tail_run h)) ts
  unfolding for_more_run for_tail_run
  for_more_is =
      let middle : (List (Unit {0} × Var) × ForTail) → ForMore = λ p. record { more = map behind_it p.0; test = p.1.test; update = p.1.update } in
      let node : (List Var × ForTail) → ForMore = λ p. record { more = p.0; test = p.1.test; update = p.1.update } in
      ended_step for_more_made for_tail_made middle (λ a b. refl) (each_behind sign_of.Comma (var_run exprs h)) (for_rest_run exprs h) parens_end ts
      ∙ first_made middle (map behind_it) node (as_new for_tail_made (in_turn (for_rest_run exprs h) parens_end)) (λ a b. refl) (each_behind sign_of.Comma (var_run exprs h)) ts

  pub for_vars_is : for_vars_run h ts ≡ as_new (λ (p : Option Init × ForMore). kind_is.Basic p.0 p.1) (in_turn (initial_run h) (for_more_run h)) ts
  unfolding for_vars_run for_more_run
  for_vars_is =
      let middle : (Option (Unit {0} × Init) × ForMore) → ForKind = λ p. kind_is.Basic (or_no_initial p.0) p.1 in
      let node : (Option Init × ForMore) → ForKind = λ p. kind_is.Basic p.0 p.1 in
      ended_step for_vars_made for_more_made middle (λ a b. refl) (given_run h) (resting_run h) parens_end ts
      ∙ first_made middle or_no_initial node (as_new for_more_made (in_turn (resting_run h) parens_end)) (λ a b. refl) (given_run h) ts

  pub for_each_is : for_each_run h ts ≡ as_new (λ (p : Unit {0} × Expr). p.1) (in_turn (of_kind (sign_code sign_of.Colon)) (closed_expr_run h)) ts
  unfolding for_each_run closed_expr_run
  for_each_is = ended_step for_each_made before_it (λ p. p.1) (λ a b. refl) (of_kind (sign_code sign_of.Colon)) (exprs.expr h) parens_end ts

  pub for_each_found : (q : List Token) (l : ℕ) → of_kind (sign_code sign_of.Colon) ts ≡ Found tt q l → for_each_run h ts ≡ noting l (closed_expr_run h q)
  for_each_found q l e = for_each_is ∙ behind_sign (of_kind (sign_code sign_of.Colon)) (closed_expr_run h) ts q tt l e

-- the one or the other, and what ends it
module _ {A B C E : Type 0} (make : Either A B → E) (codes : List ℕ) (m : Run A) (n : Run B) (end : Run C) (ts : List Token) where
  abbrev Ended : {P : Type 0} → Read P → Read (P × C)
  Ended v = v >>= (λ a q. becoming (joined a) (end q))

  pub ended_this : one_of codes ts ≡ true → as_new (λ (p : Either A B × C). make p.0) (in_turn (either codes m n) end) ts ≡ as_new (λ (p : A × C). make (This p.0)) (in_turn m end) ts
  ended_this e =
      ap (λ (v : Read (Either A B)). becoming (λ (p : Either A B × C). make p.0) (Ended v)) (cond-true (one_of codes ts) (becoming This (m ts)) (becoming That (n ts)) e)
      ∙ sym (first_read (λ (p : A × C). make (This p.0)) This (λ (p : Either A B × C). make p.0) end (λ a b. refl) (m ts))

  pub ended_that : one_of codes ts ≡ false → as_new (λ (p : Either A B × C). make p.0) (in_turn (either codes m n) end) ts ≡ as_new (λ (p : B × C). make (That p.0)) (in_turn n end) ts
  ended_that e =
      ap (λ (v : Read (Either A B)). becoming (λ (p : Either A B × C). make p.0) (Ended v)) (cond-false (one_of codes ts) (becoming This (m ts)) (becoming That (n ts)) e)
      ∙ sym (first_read (λ (p : B × C). make (That p.0)) That (λ (p : Either A B × C). make p.0) end (λ a b. refl) (n ts))

module _ (h : ℕ) (ts : List Token) where
  pub kind_each : one_of colon_codes ts ≡ true → for_kind_run h ts ≡ becoming each_kind (for_each_run h ts)
  unfolding for_kind_run for_each_run
  kind_each e =
      ended_this kind_of colon_codes (each_kind_run h) (in_turn (given_run h) (resting_run h)) parens_end ts e
      ∙ sym (remade for_each_made each_kind (λ (p : (Unit {0} × Expr) × Unit {0}). kind_of (This p.0)) (in_turn (each_kind_run h) parens_end ts) (λ p. refl))

  pub kind_vars : one_of colon_codes ts ≡ false → for_kind_run h ts ≡ for_vars_run h ts
  unfolding for_kind_run for_vars_run
  kind_vars e = ended_that kind_of colon_codes (each_kind_run h) (in_turn (given_run h) (resting_run h)) parens_end ts e

  pub for_dims_is : for_dims_run h ts ≡ as_new (λ (p : ℕ × ForKind). record { dims = p.0; kind = p.1 }) (in_turn dims_run (for_kind_run h)) ts
  unfolding for_dims_run for_kind_run
  for_dims_is =
      let node : (ℕ × ForKind) → ForDims = λ p. record { dims = p.0; kind = p.1 } in
      ended_step for_dims_made for_kind_made node (λ a b. refl) dims_run (kinds_run h) parens_end ts

  pub for_name_is : for_name_run h ts ≡ as_new (λ (p : Ident × ForDims). record { name = p.0; dims = p.1.dims; kind = p.1.kind }) (in_turn an_ident_at (for_dims_run h)) ts
  unfolding for_name_run for_dims_run for_named_run
  for_name_is =
      let node : (Ident × ForDims) → ForNamed = λ p. record { name = p.0; dims = p.1.dims; kind = p.1.kind } in
      ended_step for_name_made for_dims_made node (λ a b. refl) an_ident_at (in_turn dims_run (kinds_run h)) parens_end ts

  pub for_typed_is : for_typed_run h ts ≡ as_new (λ (p : TypeTree × ForNamed). record { ty = p.0; named = p.1 }) (in_turn (type_run h) (for_name_run h)) ts
  unfolding for_typed_run for_name_run
  for_typed_is =
      let node : (TypeTree × ForNamed) → ForTyped = λ p. record { ty = p.0; named = p.1 } in
      ended_step for_typed_made for_name_made node (λ a b. refl) (type_run h) (for_named_run exprs h) parens_end ts

same_init : (o : Option (Unit {0} × Init)) → or_no_init o ≡ or_no_initial o
same_init None = refl
same_init (Some p) = refl

-- a variable with its modifiers and its type
same_kind : (modifiers : List Modifier) (ty : TypeTree) (name : Ident) (dims : ℕ) (k : Kind) → named_made modifiers ty (name, (dims, k)) ≡ named_head modifiers ty (named_of (name, (dims, k)))
same_kind modifiers ty name dims (This q) = refl
same_kind modifiers ty name dims (That q) =
    ap (λ (o : Option Init). for_of.Basic (init_of.Local (record { modifiers = modifiers; ty = ty; first = record { name = name; dims = dims; init = o }; more = map behind_it q.1.0 })) q.1.1.1.0 (or_no_effects q.1.1.1.1.1)) (same_init q.0)

module _ (h : ℕ) (ts : List Token) where
  pub for_moded_is : for_moded_run h ts ≡ as_new (λ (p : List Modifier × ForTyped). typed_head p.0 p.1) (in_turn (first_modifiers_run h) (for_typed_run h)) ts
  unfolding for_moded_run for_typed_run
  for_moded_is =
      let rest = in_turn (type_run h) (for_named_run exprs h) in
      let middle : (List Modifier × ((TypeTree × (Ident × (ℕ × Kind))) × Unit {0})) → ForHead = λ p. typed_head p.0 (for_typed_made p.1) in
      let node : (List Modifier × ForTyped) → ForHead = λ p. typed_head p.0 p.1 in
      grouped _ _ (in_turn rest parens_end) _ for_moded_made listed middle (split_ended _ _ rest _ parens_end (split_behind (modifier_run exprs h) _ _ rest _ (split_here (modifiers_run exprs h) rest)))
      (λ d c. same_kind (d.0 ∷ d.1) c.0.0 c.0.1.0 c.0.1.1.0 c.0.1.1.1) ts
      ∙ second_made middle for_typed_made node (λ a b. refl) (as_new listed (in_turn (modifier_run exprs h) (modifiers_run exprs h))) (in_turn rest parens_end) ts

  -- effects

  abbrev pub for_effects_node : (List Expr × ForTail) → ForHead
  for_effects_node p = for_of.Basic (init_of.Effects p.0) p.1.test p.1.update

  abbrev Whole : Run (List Expr)
  Whole = commas_run (exprs.effect h)

  abbrev Strict : Run (List Expr)
  Strict = commas_run (strict_effect h)

  abbrev through : (List Expr × (Unit {0} × ForTail)) → ForHead
  through p = for_effects_node (p.0, p.1.1)

  pub for_effects_is : for_effects_run h ts ≡ as_new for_effects_node (in_turn (effects_run h) (for_tail_run h)) ts
  unfolding for_effects_run for_tail_run
  for_effects_is =
      let last : Run (Unit {0} × ForTail) = in_turn semicolon_run (for_test_run h) in
      let behind : (Unit {0} × ForTail) → ForTail = λ p. p.1 in
      ended_step for_effects_made for_tail_made for_effects_node (λ a b. refl) Whole (for_rest_run exprs h) parens_end ts
      ∙ second_same for_effects_node (Whole ts) (for_tail_run h) (as_new behind last) (for_tail_is h)
      ∙ sym (second_made through behind for_effects_node (λ a b. refl) Whole last ts)
      ∙ ap (becoming through) (effects_and_more sign_of.Semicolon (for_test_run h) h ts refl)
      ∙ second_made through behind for_effects_node (λ a b. refl) Strict last ts
      ∙ second_same for_effects_node (Strict ts) (as_new behind last) (for_tail_run h) (λ q. sym (for_tail_is h q))

noted_ended : {A B C E : Type 0} (mk : (B × C) → E) (f : A → B) (l : ℕ) (m : Read A) (end : Run C) → becoming mk (noting l (becoming f m) >>= (λ b q. becoming (joined b) (end q))) ≡ noting l (becoming (λ (p : A × C). mk (f p.0, p.1)) (m >>= (λ a q. becoming (joined a) (end q))))
noted_ended mk f l (Found a q k) end = by_end (end q)
  where
    by_end : (v : Read _) → becoming mk (noting (min l k) (becoming (joined (f a)) v)) ≡ noting l (becoming (λ p. mk (f p.0, p.1)) (noting k (becoming (joined a) v)))
    by_end (Found c r j) = let e : min (min l k) j ≡ min l (min k j) = omega arith in ap (λ (i : ℕ). Found (mk (f a, c)) r i) e
    by_end (Stopped j) = let e : min (min l k) j ≡ min l (min k j) = omega arith in ap (λ (i : ℕ). Stopped i) e
noted_ended mk f l (Stopped k) end = refl

pointwise : {A B : Type 0} (f g : A → B) (m : Read A) → ((a : A) → f a ≡ g a) → becoming f m ≡ becoming g m
pointwise f g (Found a r l) e = ap (λ b. Found b r l) (e a)
pointwise f g (Stopped l) e = refl

module _ (h : ℕ) (ts : List Token) where
  abbrev Tried : Read TypeTree → Read (Either (TypeTree × (Ident × (ℕ × Kind))) (List Expr × ForRest))
  Tried v = tried (word_code ∷ []) ts v (for_named_run exprs h) (effecting_run h)

  abbrev Close : Read (Either (TypeTree × (Ident × (ℕ × Kind))) (List Expr × ForRest)) → Read ForHead
  Close v = becoming for_other_made (v >>= (λ a q. becoming (joined a) (parens_end q)))

  abbrev typing : TypeTree → (Ident × (ℕ × Kind)) → Either (TypeTree × (Ident × (ℕ × Kind))) (List Expr × ForRest)
  typing ty c = This (ty, c)

  as_effects : (l : ℕ) → Close (noting l (becoming That (effecting_run h ts))) ≡ noting l (for_effects_run h ts)
  unfolding for_effects_run
  as_effects l = noted_ended for_other_made That l (effecting_run h ts) parens_end

  as_name : (ty : TypeTree) (r : List Token) (l : ℕ) → Close (noting l (becoming (typing ty) (for_named_run exprs h r))) ≡ noting l (becoming (bare_head ty) (for_name_run h r))
  unfolding for_name_run
  as_name ty r l =
      noted_ended for_other_made (typing ty) l (for_named_run exprs h r) parens_end
      ∙ ap (noting l)
      (pointwise (λ (p : (Ident × (ℕ × Kind)) × Unit {0}). for_other_made (typing ty p.0, p.1)) (λ (p : (Ident × (ℕ × Kind)) × Unit {0}). bare_head ty (for_name_made p)) (in_turn (for_named_run exprs h) parens_end r) (λ p. same_kind [] ty p.0.0 p.0.1.0 p.0.1.1)
      ∙ sym (remade for_name_made (bare_head ty) (λ (p : (Ident × (ℕ × Kind)) × Unit {0}). bare_head ty (for_name_made p)) (in_turn (for_named_run exprs h) parens_end r) (λ p. refl)))

  by_name : (ty : TypeTree) (r : List Token) (l : ℕ) (b : Bool) → Close (cond b (noting l (becoming (typing ty) (for_named_run exprs h r))) (noting l (becoming That (effecting_run h ts)))) ≡ cond b (noting l (becoming (bare_head ty) (for_name_run h r))) (noting l (for_effects_run h ts))
  by_name ty r l true = as_name ty r l
  by_name ty r l false = as_effects l

  pub for_other_found : (r : List Token) (ty : TypeTree) (l : ℕ) → type_run h ts ≡ Found ty r l → for_other_run h ts ≡ for_typed_or_run h ty r l ts
  unfolding for_other_run
  for_other_found r ty l e = ap (λ (v : Read TypeTree). Close (Tried v)) e ∙ by_name ty r l (one_of (word_code ∷ []) r)

  pub for_other_stops : (l : ℕ) → type_run h ts ≡ Stopped l → for_other_run h ts ≡ noting l (for_effects_run h ts)
  unfolding for_other_run
  for_other_stops l e = ap (λ (v : Read TypeTree). Close (Tried v)) e ∙ as_effects l

  -- a whole head

  abbrev Semicolon : List ℕ
  Semicolon = sign_code sign_of.Semicolon ∷ []

  abbrev Others : Run (Either Moded (Either (TypeTree × (Ident × (ℕ × Kind))) (List Expr × ForRest)))
  Others = either modifier_codes (moded_run h) (tried_run h)

  head_is : for_ended_run h ts ≡ as_new (λ (p : ForParts × Unit {0}). for_head_made p.0) (in_turn (either Semicolon (for_rest_run exprs h) Others) parens_end) ts
  unfolding for_ended_run for_head_run
  head_is = sym (first_made (λ (p : ForParts × Unit {0}). for_head_made p.0) for_head_made before_it parens_end (λ a b. refl) (either Semicolon (for_rest_run exprs h) Others) ts)

  pub head_empty : one_of Semicolon ts ≡ true → for_ended_run h ts ≡ becoming empty_head (for_tail_run h ts)
  unfolding for_tail_run
  head_empty e =
      head_is ∙ ended_this for_head_made Semicolon (for_rest_run exprs h) Others parens_end ts e
      ∙ sym (remade for_tail_made empty_head (λ (p : ForRest × Unit {0}). for_head_made (This p.0)) (in_turn (for_rest_run exprs h) parens_end ts) (λ p. refl))

  pub head_moded : one_of Semicolon ts ≡ false → one_of modifier_codes ts ≡ true → for_ended_run h ts ≡ for_moded_run h ts
  unfolding for_moded_run
  head_moded e f =
      head_is ∙ ended_that for_head_made Semicolon (for_rest_run exprs h) Others parens_end ts e
      ∙ ended_this (λ (b : Either Moded (Either (TypeTree × (Ident × (ℕ × Kind))) (List Expr × ForRest))). for_head_made (That b)) modifier_codes (moded_run h) (tried_run h) parens_end ts f

  pub head_other : one_of Semicolon ts ≡ false → one_of modifier_codes ts ≡ false → for_ended_run h ts ≡ for_other_run h ts
  unfolding for_other_run
  head_other e f =
      head_is ∙ ended_that for_head_made Semicolon (for_rest_run exprs h) Others parens_end ts e
      ∙ ended_that (λ (b : Either Moded (Either (TypeTree × (Ident × (ℕ × Kind))) (List Expr × ForRest))). for_head_made (That b)) modifier_codes (moded_run h) (tried_run h) parens_end ts f

  -- up to the body

  abbrev pub for_opening_node : (ℕ × ForHead) → ForOpening
  for_opening_node p = record { at = p.0; head = p.1 }

  pub for_opening_none : h ≡ 0 → for_opening_run h ts ≡ Stopped (length ts)
  unfolding for_opening_run
  for_opening_none e = ap (becoming for_opening) (room_gone h _ ts e)

  pub for_opening_is : (h ≡ 0 → ⊥) → for_opening_run h ts ≡ as_new for_opening_node (in_turn (opened_run key_of.For) (for_ended_run h)) ts
  unfolding for_opening_run for_ended_run
  for_opening_is n =
      let rest = in_turn (for_head_run exprs h) parens_end in
      let middle : (ℕ × (ForHead × Unit {0})) → ForOpening = λ p. record { at = p.0; head = p.1.0 } in
      ap (becoming for_opening) (room_there h _ ts n)
      ∙ behind_opened key_of.For for_opening middle (λ d c. refl) rest ts
      ∙ second_made middle before_it for_opening_node (λ a b. refl) (opened_run key_of.For) rest ts
