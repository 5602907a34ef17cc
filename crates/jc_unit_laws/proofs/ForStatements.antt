-- The statement `for`.
use Rattle.std.proofs.Common.{◌≡◌, ℕ, zero, suc, max, Bool, true, false, List, [], ◌∷◌, map, Option, Some, None, refl, sym, ap, ◌∙◌, subst, arith}
use Rattle.std.proofs.lemmas.Bool.{false≢true, and_right, and_parts, and_from}
use Rattle.std.proofs.lemmas.Grind.{common_steps}
use Rattle.std.specs.Prelude.{◌&&◌, nat_le}
use Rattle.std.specs.List.{list_all}
use Rattle.jc_lexer.specs.declared.token.Key.TheVariants as key_of
use Rattle.jc_lexer.specs.declared.token.Sign.TheVariants as sign_of
use Rattle.jc_lexer.specs.declared.token.Token.{Token}
use Rattle.jc_tree.specs.declared.name.Ident.{Ident}
use Rattle.jc_tree.specs.declared.expression.Expr.{Expr}
use Rattle.jc_tree.specs.declared.types.TypeTree.{TypeTree}
use Rattle.jc_tree.specs.declared.statement.Modifier.{Modifier}
use Rattle.jc_tree.specs.declared.statement.Stmt.{Stmt, Stmt-F, out-Stmt, roll-Stmt, roll-out-Stmt}
use Rattle.jc_tree.specs.declared.statement.Stmt.TheVariants as stmt_of
use Rattle.jc_tree.specs.Heights.{most, in_some, effect_height, expr_height, type_height, modifier_height, stmt_height}
use Rattle.jc_tree.proofs.HeightsOfStatements.{stmt_height-For}
use Rattle.jc_grammar.specs.Told.{Told, sign, ident}
use Rattle.jc_grammar.specs.Expressions.{expr_tokens}
use Rattle.jc_grammar.specs.Types.{type_tokens}
use Rattle.jc_grammar.specs.Parts.{if_some, modifiers_tokens}
use Rattle.jc_grammar.specs.Shapes.{is_expr}
use Rattle.jc_grammar.specs.Statements.{stmt_tokens}
use Rattle.jc_grammar.specs.Units.{is_for_head, is_for_init, are_locals, is_var, is_statement_expr, are_modifiers, StmtShape, if_there_passes, in_body, stmt_shape}
use Rattle.jc_grammar.proofs.ShapesOfStatements.{stmt_shape-For}
use Rattle.jc_grammar.proofs.TokensOfStatements.{stmt_tokens-For}
use Rattle.jc_reading.specs.Kinds.{sign_code, key_code, word_code, front_code, one_of}
use Rattle.jc_reading.specs.Reading.{Takes, Either, This, That, behind_it}
use Rattle.jc_reading.proofs.Steps.{IsFound, takes_cut}
use Rattle.jc_reading.proofs.Forms.{Lawful, Stands}
use Rattle.jc_reading.proofs.Lists.{fits_all}
use Rattle.jc_reading.proofs.Rooms.{room_above, room_max}
use Rattle.jc_reading.specs.Further.{with_room}
use Rattle.jc_part_laws.specs.PartReading.{Exprs}
use Rattle.jc_part_laws.proofs.AnnotationForms.{room_and}
use Rattle.jc_reading.proofs.Coded.{Coded, formed, in_order, optional, one_or, one_or_laws, made_laws, OfKind, kind_makes}
use Rattle.jc_part_laws.proofs.ExprForms.{effect_coded, ExprLaws, expr_coded}
use Rattle.jc_reading.proofs.Lowest.{Law, roomy, optional_law}
use Rattle.jc_part_laws.proofs.ModifierForms.{modifiers_coded, modifiers_coded_laws}
use Rattle.jc_part_laws.proofs.PartForms.{sign_form, key_at_form, ident_form, type_coded, type_coded_laws, behind_each, behind_each_laws}
use Rattle.jc_unit_laws.specs.UnitReading.{ForRest, ForNamed, ForParts, or_no_effects, or_no_init, basic_made, named_made, for_head_made, for_made, for_rest_run, for_named_run, for_head_run, for_run, Level}
use Rattle.jc_unit_laws.proofs.Bundles.{has, a_sign, a_key_at, an_ident, then_a, roomy_zero, roomy_suc}
use Rattle.jc_reading.proofs.Ledby.{unled, unled_back}
use Rattle.jc_unit_laws.proofs.SimpleStatements.{else_codes, behind_codes, body_coded, LevelLaws, Layer, good_at, good_made, stmt_fits, stmt_made_law}
use Rattle.jc_tree.specs.declared.statement.LocalVars.{LocalVars}
use Rattle.jc_tree.specs.declared.expression.Init.{Init}
use Rattle.jc_tree.specs.declared.statement.ForHead.{ForHead}
use Rattle.jc_tree.specs.declared.statement.ForHead.TheVariants as for_of
use Rattle.jc_tree.specs.declared.statement.ForInit.{ForInit}
use Rattle.jc_tree.specs.declared.statement.ForInit.TheVariants as init_of
use Rattle.jc_tree.specs.declared.statement.Var.{Var}
use Rattle.jc_tree.specs.Heights.{for_height, for_init_height, local_height, var_height}
use Rattle.jc_grammar.specs.Told.{after_commas}
use Rattle.jc_grammar.specs.Told.{commas, brackets}
use Rattle.jc_grammar.specs.Parts.{for_tokens, initialised, var_tokens}
use Rattle.jc_reading.proofs.Ledby.{behind_fits}
use Rattle.jc_reading.proofs.Pairs.{cut}
use Rattle.jc_reading.proofs.Signs.{apart_sets}
use Rattle.jc_part_laws.proofs.FormalForms.{var_fits, var_coded}
use Rattle.jc_part_laws.proofs.ModifierForms.{modifier_coded, modifier_coded_laws, modifiers_fit, modifier_fits, fit_modifiers}
use Rattle.jc_part_laws.proofs.PartForms.{told_commas}
use Rattle.jc_reading.proofs.Tries.{attempted, attempted_laws}
use Rattle.jc_unit_laws.proofs.Closed.{closed_order, closed_made}
use Rattle.jc_reading.proofs.Ledby.{fits_some_of}
use Rattle.jc_reading.proofs.Coded.{listed, listed_laws}
use Rattle.jc_part_laws.proofs.ExprForms.{expr_in, expr_law, effect_in, effect_law}
use Rattle.jc_part_laws.proofs.FormalForms.{Given, given_law, dims_coded_laws, var_laws}
use Rattle.jc_reading.proofs.Lowest.{listed_law}
use Rattle.jc_part_laws.proofs.ModifierForms.{modifier_codes}
use Rattle.jc_part_laws.proofs.PartForms.{dims_coded}

module _ (x : Exprs) (h : ℕ) where
  abbrev Updates : Coded (Option (List Expr))
  Updates = optional (listed (effect_in x h))

  abbrev Rest : Coded ForRest
  Rest = in_order (sign_form sign_of.Semicolon) (in_order (optional (expr_in x h)) (in_order (sign_form sign_of.Semicolon) Updates))

  abbrev Equal : Coded (Option (Unit {0} × Init))
  Equal = optional (roomy h (Given x h))

  abbrev MoreVars : Coded (List (Unit {0} × Var))
  MoreVars = behind_each sign_of.Comma (var_coded x h)

  abbrev Ranged : Coded (Unit {0} × Expr)
  Ranged = in_order (sign_form sign_of.Colon) (expr_coded x h)

  abbrev Given_more : Coded (Option (Unit {0} × Init) × (List (Unit {0} × Var) × ForRest))
  Given_more = in_order Equal (in_order MoreVars Rest)

  abbrev NamedForm : Coded ForNamed
  NamedForm = in_order ident_form (in_order dims_coded (one_or (sign_code sign_of.Colon ∷ []) Ranged Given_more))

  abbrev ModsForm : Coded (Modifier × (List Modifier × (TypeTree × ForNamed)))
  ModsForm = in_order (modifier_coded x h) (in_order (modifiers_coded x h) (in_order (type_coded h) NamedForm))

  abbrev EffectsForm : Coded (List Expr × ForRest)
  EffectsForm = in_order (listed (effect_coded x h)) Rest

  abbrev TypeOr : Coded (Either (TypeTree × ForNamed) (List Expr × ForRest))
  TypeOr = attempted TypeTree (List Expr × ForRest) ForNamed (word_code ∷ []) (type_coded h) NamedForm EffectsForm

  abbrev ModsOr : Coded (Either (Modifier × (List Modifier × (TypeTree × ForNamed))) (Either (TypeTree × ForNamed) (List Expr × ForRest)))
  ModsOr = one_or modifier_codes ModsForm TypeOr

  abbrev HeadForm : Coded ForParts
  HeadForm = one_or (sign_code sign_of.Semicolon ∷ []) Rest ModsOr

  abbrev for_fits : ForHead → Bool
  for_fits head = nat_le (for_height head) h && is_for_head head

  abbrev pub for_head_coded : Coded ForHead
  for_head_coded = record { tell = for_tokens; fits = for_fits; run = for_head_run x h; starts = HeadForm.starts; goes = HeadForm.goes; empties = false }

  told_updates : (o : Option (List Expr)) (r : List Told) → Updates.fits o ≡ true → commas (map expr_tokens (or_no_effects o)) r ≡ Updates.tell o r
  told_updates None r g = refl
  told_updates (Some effects) r g = refl

  told_test : (o : Option Expr) (r : List Told) → if_some expr_tokens o r ≡ (optional (expr_in x h)).tell o r
  told_test None r = refl
  told_test (Some e) r = refl

  rest_parts : (p : ForRest) → Rest.fits p ≡ true → ((optional (expr_in x h)).fits p.1.0 ≡ true) × (Updates.fits p.1.1.1 ≡ true)
  rest_parts (u, (test, (v, updates))) g =
      let a = and_parts ((optional (expr_in x h)).fits test) (true && Updates.fits updates) g in (a.0, a.1)

  told_rest : (p : ForRest) (r : List Told) → Rest.fits p ≡ true → (sign sign_of.Semicolon ∷ if_some expr_tokens p.1.0 (sign sign_of.Semicolon ∷ commas (map expr_tokens (or_no_effects p.1.1.1)) r)) ≡ Rest.tell p r
  told_rest (u, (test, (v, updates))) r g =
      ap (λ (t : List Told). sign sign_of.Semicolon ∷ if_some expr_tokens test (sign sign_of.Semicolon ∷ t)) (told_updates updates r (rest_parts (u, (test, (v, updates))) g).1)
      ∙ ap (λ (t : List Told). sign sign_of.Semicolon ∷ t) (told_test test (sign sign_of.Semicolon ∷ Updates.tell updates r))

  effects_fit : (effects : List Expr) → (nat_le (most (map effect_height effects)) h && list_all is_statement_expr effects) ≡ fits_all (effect_coded x h).fits effects
  effects_fit effects = room_and effect_height is_statement_expr h effects

  updates_fit : (o : Option (List Expr)) → Updates.fits o ≡ true → (nat_le (most (map effect_height (or_no_effects o))) h && list_all is_statement_expr (or_no_effects o)) ≡ true
  updates_fit None g = ap (λ b. b && true) (room_above h)
  updates_fit (Some []) g = absurd (false≢true g)
  updates_fit (Some (e ∷ effects)) g = effects_fit (e ∷ effects) ∙ g

  updates_back : (effects : List Expr) → (nat_le (most (map effect_height effects)) h && list_all is_statement_expr effects) ≡ true → (o : Option (List Expr)) × (or_no_effects o ≡ effects) × (Updates.fits o ≡ true)
  updates_back [] g = (None, refl, refl)
  updates_back (e ∷ effects) g = (Some (e ∷ effects), refl, sym (effects_fit (e ∷ effects)) ∙ g)

  test_fit : (o : Option Expr) → (nat_le (in_some expr_height o) h && if_there_passes is_expr o) ≡ (optional (expr_in x h)).fits o
  test_fit None = ap (λ b. b && true) (room_above h)
  test_fit (Some e) = refl

  basic_bits : (i t u a b c : Bool) → (((i && t) && u) && (a && b && c)) ≡ ((i && a) && ((t && b) && (u && c)))
  basic_bits i t u a b c = grind (arith, common_steps)

  fit_basic : (init : ForInit) (test : Option Expr) (update : List Expr) → for_fits (for_of.Basic init test update) ≡ ((nat_le (for_init_height init) h && is_for_init init) && ((nat_le (in_some expr_height test) h && if_there_passes is_expr test) && (nat_le (most (map effect_height update)) h && list_all is_statement_expr update)))
  fit_basic init test update =
      ap (λ b. b && (is_for_init init && if_there_passes is_expr test && list_all is_statement_expr update))
      (room_max (max (for_init_height init) (in_some expr_height test)) (most (map effect_height update)) h ∙ ap (λ b. b && nat_le (most (map effect_height update)) h) (room_max (for_init_height init) (in_some expr_height test) h))
      ∙ basic_bits (nat_le (for_init_height init) h) (nat_le (in_some expr_height test) h) (nat_le (most (map effect_height update)) h) (is_for_init init) (if_there_passes is_expr test) (list_all is_statement_expr update)

  -- a basic head fits where its parts do
  basic_forth : (init : ForInit) (p : ForRest) → (nat_le (for_init_height init) h && is_for_init init) ≡ true → Rest.fits p ≡ true → for_fits (basic_made init p) ≡ true
  basic_forth init p i g =
      let a = rest_parts p g in
      fit_basic init p.1.0 (or_no_effects p.1.1.1)
      ∙ and_from (nat_le (for_init_height init) h && is_for_init init) _ i (and_from (nat_le (in_some expr_height p.1.0) h && if_there_passes is_expr p.1.0) _ (test_fit p.1.0 ∙ a.0) (updates_fit p.1.1.1 a.1))

  record BasicBack (init : ForInit) (test : Option Expr) (update : List Expr) : Type 0 where
    rest : ForRest
    same : basic_made init rest ≡ for_of.Basic init test update
    init_fits : (nat_le (for_init_height init) h && is_for_init init) ≡ true
    rest_fits : Rest.fits rest ≡ true

  basic_back : (init : ForInit) (test : Option Expr) (update : List Expr) → for_fits (for_of.Basic init test update) ≡ true → BasicBack init test update
  basic_back init test update g =
      let a = and_parts (nat_le (for_init_height init) h && is_for_init init) _ (sym (fit_basic init test update) ∙ g) in
      let b = and_parts (nat_le (in_some expr_height test) h && if_there_passes is_expr test) (nat_le (most (map effect_height update)) h && list_all is_statement_expr update) a.1 in
      let w = updates_back update b.1 in
      record {
        rest = (tt, (test, (tt, w.0)));
        same = ap (λ (effects : List Expr). for_of.Basic init test effects) w.1;
        init_fits = a.0;
        rest_fits = and_from ((optional (expr_in x h)).fits test) (true && Updates.fits w.0) (sym (test_fit test) ∙ b.0) w.2;
      }

  -- variables of a head

  var_bits : (m t f r a v w : Bool) → ((((m && t) && f) && r) && (a && v && w)) ≡ ((m && a) && (t && ((f && v) && (r && w))))
  var_bits m t f r a v w = grind (arith, common_steps)

  fit_first : (name : Ident) (dims : ℕ) (o : Option (Unit {0} × Init)) → var_fits x h (record { name = name; dims = dims; init = or_no_init o }) ≡ Equal.fits o
  fit_first name dims None = ap (λ b. b && true) (room_above h)
  fit_first name dims (Some p) = refl

  abbrev vars_of : List Modifier → TypeTree → Ident → ℕ → Option (Unit {0} × Init) → List (Unit {0} × Var) → LocalVars
  vars_of modifiers ty name dims o more = record { modifiers = modifiers; ty = ty; first = record { name = name; dims = dims; init = or_no_init o }; more = map behind_it more }

  fit_vars : (modifiers : List Modifier) (ty : TypeTree) (name : Ident) (dims : ℕ) (o : Option (Unit {0} × Init)) (more : List (Unit {0} × Var)) → (nat_le (local_height (vars_of modifiers ty name dims o more)) h && are_locals (vars_of modifiers ty name dims o more)) ≡ (modifiers_fit x h modifiers && (nat_le (type_height ty) h && (Equal.fits o && MoreVars.fits more)))
  fit_vars modifiers ty name dims o more =
      let first : Var = record { name = name; dims = dims; init = or_no_init o } in
      ap (λ b. b && (are_modifiers modifiers && is_var first && list_all is_var (map behind_it more)))
      (room_max (max (max (most (map modifier_height modifiers)) (type_height ty)) (var_height first)) (most (map var_height (map behind_it more))) h
      ∙ ap (λ b. b && nat_le (most (map var_height (map behind_it more))) h)
      (room_max (max (most (map modifier_height modifiers)) (type_height ty)) (var_height first) h ∙ ap (λ b. b && nat_le (var_height first) h) (room_max (most (map modifier_height modifiers)) (type_height ty) h)))
      ∙ var_bits (nat_le (most (map modifier_height modifiers)) h) (nat_le (type_height ty) h) (nat_le (var_height first) h) (nat_le (most (map var_height (map behind_it more))) h) (are_modifiers modifiers) (is_var first) (list_all is_var (map behind_it more))
      ∙ ap (λ b. modifiers_fit x h modifiers && (nat_le (type_height ty) h && (var_fits x h first && b))) (room_and var_height is_var h (map behind_it more) ∙ sym (behind_fits (var_fits x h) more))
      ∙ ap (λ b. modifiers_fit x h modifiers && (nat_le (type_height ty) h && (b && MoreVars.fits more))) (fit_first name dims o)

  enhanced_bits : (m t e a i : Bool) → (((m && t) && e) && (a && i)) ≡ ((m && a) && (t && (e && i)))
  enhanced_bits m t e a i = grind (arith, common_steps)

  fit_enhanced : (modifiers : List Modifier) (ty : TypeTree) (name : Ident) (dims : ℕ) (e : Expr) → for_fits (for_of.Enhanced modifiers ty name dims e) ≡ (modifiers_fit x h modifiers && (nat_le (type_height ty) h && (expr_coded x h).fits e))
  fit_enhanced modifiers ty name dims e =
      ap (λ b. b && (are_modifiers modifiers && is_expr e))
      (room_max (max (most (map modifier_height modifiers)) (type_height ty)) (expr_height e) h ∙ ap (λ b. b && nat_le (expr_height e) h) (room_max (most (map modifier_height modifiers)) (type_height ty) h))
      ∙ enhanced_bits (nat_le (most (map modifier_height modifiers)) h) (nat_le (type_height ty) h) (nat_le (expr_height e) h) (are_modifiers modifiers) (is_expr e)

  named_forth : (modifiers : List Modifier) (ty : TypeTree) (p : ForNamed) → modifiers_fit x h modifiers ≡ true → nat_le (type_height ty) h ≡ true → NamedForm.fits p ≡ true → for_fits (named_made modifiers ty p) ≡ true
  named_forth modifiers ty (name, (dims, This (u, e))) m t g = fit_enhanced modifiers ty name dims e ∙ and_from (modifiers_fit x h modifiers) _ m (and_from (nat_le (type_height ty) h) _ t g)
  named_forth modifiers ty (name, (dims, That (o, (more, rest)))) m t g =
      let a = and_parts (Equal.fits o) (MoreVars.fits more && Rest.fits rest) g in
      let b = and_parts (MoreVars.fits more) (Rest.fits rest) a.1 in
      basic_forth (init_of.Local (vars_of modifiers ty name dims o more)) rest
      (fit_vars modifiers ty name dims o more ∙ and_from (modifiers_fit x h modifiers) _ m (and_from (nat_le (type_height ty) h) _ t (and_from (Equal.fits o) (MoreVars.fits more) a.0 b.0))) b.1

  named_told : (modifiers : List Modifier) (ty : TypeTree) (p : ForNamed) (r : List Told) → NamedForm.fits p ≡ true → for_tokens (named_made modifiers ty p) r ≡ modifiers_tokens modifiers (type_tokens ty (NamedForm.tell p r))
  named_told modifiers ty (name, (dims, This (u, e))) r g = refl
  named_told modifiers ty (name, (dims, That (None, (more, rest)))) r g =
      let b = and_parts (MoreVars.fits more) (Rest.fits rest) g in
      ap (λ (t : List Told). modifiers_tokens modifiers (type_tokens ty (ident name ∷ brackets dims (after_commas (map var_tokens (map behind_it more)) t)))) (told_rest rest r b.1)
      ∙ ap (λ (t : List Told). modifiers_tokens modifiers (type_tokens ty (ident name ∷ brackets dims t))) (told_commas (var_coded x h) more (Rest.tell rest r))
  named_told modifiers ty (name, (dims, That (Some (u, init), (more, rest)))) r g =
      let a = and_parts ((roomy h (Given x h)).fits (u, init)) (MoreVars.fits more && Rest.fits rest) g in
      let b = and_parts (MoreVars.fits more) (Rest.fits rest) a.1 in
      ap (λ (t : List Told). modifiers_tokens modifiers (type_tokens ty (ident name ∷ brackets dims (initialised init (after_commas (map var_tokens (map behind_it more)) t))))) (told_rest rest r b.1)
      ∙ ap (λ (t : List Told). modifiers_tokens modifiers (type_tokens ty (ident name ∷ brackets dims (initialised init t)))) (told_commas (var_coded x h) more (Rest.tell rest r))

  told_head : (p : ForParts) (r : List Told) → HeadForm.fits p ≡ true → for_tokens (for_head_made p) r ≡ HeadForm.tell p r
  told_head (This rest) r g = told_rest rest r g
  told_head (That (This (m, (modifiers, (ty, p))))) r g =
      let a = and_parts (modifier_fits x h m) (modifiers_fit x h modifiers && (nat_le (type_height ty) h && NamedForm.fits p)) g in
      let b = and_parts (modifiers_fit x h modifiers) (nat_le (type_height ty) h && NamedForm.fits p) a.1 in
      let c = and_parts (nat_le (type_height ty) h) (NamedForm.fits p) b.1 in
      named_told (m ∷ modifiers) ty p r c.1
  told_head (That (That (This (ty, p)))) r g = named_told [] ty p r (and_parts (nat_le (type_height ty) h) (NamedForm.fits p) g).1
  told_head (That (That (That (effects, rest)))) r g =
      ap (commas (map expr_tokens effects)) (told_rest rest r (and_parts (fits_some_of (effect_coded x h).fits effects) (Rest.fits rest) g).1)

  no_mods : modifiers_fit x h [] ≡ true
  no_mods = ap (λ b. b && true) (room_above h)

  some_effects : (effects : List Expr) → fits_some_of (effect_coded x h).fits effects ≡ true → (nat_le (most (map effect_height effects)) h && list_all is_statement_expr effects) ≡ true
  some_effects [] g = absurd (false≢true g)
  some_effects (e ∷ effects) g = effects_fit (e ∷ effects) ∙ g

  forth_head : (p : ForParts) → HeadForm.fits p ≡ true → for_fits (for_head_made p) ≡ true
  forth_head (This rest) g = basic_forth (init_of.Effects []) rest (ap (λ b. b && true) (room_above h)) g
  forth_head (That (This (m, (modifiers, (ty, p))))) g =
      let a = and_parts (modifier_fits x h m) (modifiers_fit x h modifiers && (nat_le (type_height ty) h && NamedForm.fits p)) g in
      let b = and_parts (modifiers_fit x h modifiers) (nat_le (type_height ty) h && NamedForm.fits p) a.1 in
      let c = and_parts (nat_le (type_height ty) h) (NamedForm.fits p) b.1 in
      named_forth (m ∷ modifiers) ty p (fit_modifiers x h (m ∷ modifiers) ∙ and_from (modifier_fits x h m) _ a.0 (sym (fit_modifiers x h modifiers) ∙ b.0)) c.0 c.1
  forth_head (That (That (This (ty, p)))) g = let c = and_parts (nat_le (type_height ty) h) (NamedForm.fits p) g in named_forth [] ty p no_mods c.0 c.1
  forth_head (That (That (That (effects, rest)))) g =
      let a = and_parts (fits_some_of (effect_coded x h).fits effects) (Rest.fits rest) g in
      basic_forth (init_of.Effects effects) rest (some_effects effects a.0) a.1

  -- from a head to its parts

  record NamedBack (head : ForHead) (modifiers : List Modifier) (ty : TypeTree) : Type 0 where
    named : ForNamed
    same : named_made modifiers ty named ≡ head
    mods : modifiers_fit x h modifiers ≡ true
    type_fits : nat_le (type_height ty) h ≡ true
    named_fits : NamedForm.fits named ≡ true

  head_of_named : (head : ForHead) (modifiers : List Modifier) (ty : TypeTree) → NamedBack head modifiers ty → (p : ForParts) × (for_head_made p ≡ head) × (HeadForm.fits p ≡ true)
  head_of_named head [] ty w = (That (That (This (ty, w.named))), w.same, and_from (nat_le (type_height ty) h) (NamedForm.fits w.named) w.type_fits w.named_fits)
  head_of_named head (m ∷ modifiers) ty w =
      let a = and_parts (modifier_fits x h m) (fits_all (modifier_fits x h) modifiers) (sym (fit_modifiers x h (m ∷ modifiers)) ∙ w.mods) in (
        That (This (m, (modifiers, (ty, w.named)))),
        w.same,
        and_from (modifier_fits x h m) _ a.0 (and_from (modifiers_fit x h modifiers) _ (fit_modifiers x h modifiers ∙ a.1) (and_from (nat_le (type_height ty) h) (NamedForm.fits w.named) w.type_fits w.named_fits)),
      )

  var_of : (v : Var) → (o : Option (Unit {0} × Init)) × (record { name = v.name; dims = v.dims; init = or_no_init o } ≡ v)
  var_of v = by v.init refl
    where
      by : (init : Option Init) → v.init ≡ init → (o : Option (Unit {0} × Init)) × (record { name = v.name; dims = v.dims; init = or_no_init o } ≡ v)
      by None e = (None, ap (λ (init : Option Init). record { name = v.name; dims = v.dims; init = init }) (sym e))
      by (Some init) e = (Some (tt, init), ap (λ (init : Option Init). record { name = v.name; dims = v.dims; init = init }) (sym e))

  local_back : (vars : LocalVars) (test : Option Expr) (update : List Expr) → BasicBack (init_of.Local vars) test update → NamedBack (for_of.Basic (init_of.Local vars) test update) vars.modifiers vars.ty
  local_back vars test update w =
      let v = var_of vars.first in
      let e : vars_of vars.modifiers vars.ty vars.first.name vars.first.dims v.0 (unled vars.more) ≡ vars =
      ap (λ (first : Var). record { modifiers = vars.modifiers; ty = vars.ty; first = first; more = map behind_it (unled vars.more) }) v.1
      ∙ ap (λ (more : List Var). record { modifiers = vars.modifiers; ty = vars.ty; first = vars.first; more = more }) (unled_back vars.more) in
      let g = sym (fit_vars vars.modifiers vars.ty vars.first.name vars.first.dims v.0 (unled vars.more)) ∙ ap (λ (u : LocalVars). nat_le (local_height u) h && are_locals u) e ∙ w.init_fits in
      let a = and_parts (modifiers_fit x h vars.modifiers) _ g in
      let b = and_parts (nat_le (type_height vars.ty) h) _ a.1 in
      let c = and_parts (Equal.fits v.0) (MoreVars.fits (unled vars.more)) b.1 in
      record {
        named = (vars.first.name, (vars.first.dims, That (v.0, (unled vars.more, w.rest))));
        same = ap (λ (u : LocalVars). basic_made (init_of.Local u) w.rest) e ∙ w.same;
        mods = a.0;
        type_fits = b.0;
        named_fits = and_from (Equal.fits v.0) _ c.0 (and_from (MoreVars.fits (unled vars.more)) (Rest.fits w.rest) c.1 w.rest_fits);
      }

  effects_back : (effects : List Expr) (test : Option Expr) (update : List Expr) → BasicBack (init_of.Effects effects) test update → (p : ForParts) × (for_head_made p ≡ for_of.Basic (init_of.Effects effects) test update) × (HeadForm.fits p ≡ true)
  effects_back [] test update w = (This w.rest, w.same, w.rest_fits)
  effects_back (e ∷ effects) test update w = (That (That (That (e ∷ effects, w.rest))), w.same, and_from (fits_some_of (effect_coded x h).fits (e ∷ effects)) (Rest.fits w.rest) (sym (effects_fit (e ∷ effects)) ∙ w.init_fits) w.rest_fits)

  back_head : (head : ForHead) → for_fits head ≡ true → (p : ForParts) × (for_head_made p ≡ head) × (HeadForm.fits p ≡ true)
  back_head (for_of.Basic (init_of.Local vars) test update) g = head_of_named (for_of.Basic (init_of.Local vars) test update) vars.modifiers vars.ty (local_back vars test update (basic_back (init_of.Local vars) test update g))
  back_head (for_of.Basic (init_of.Effects effects) test update) g = effects_back effects test update (basic_back (init_of.Effects effects) test update g)
  back_head (for_of.Enhanced modifiers ty name dims e) g =
      let a = and_parts (modifiers_fit x h modifiers) _ (sym (fit_enhanced modifiers ty name dims e) ∙ g) in
      let b = and_parts (nat_le (type_height ty) h) ((expr_coded x h).fits e) a.1 in
      head_of_named (for_of.Enhanced modifiers ty name dims e) modifiers ty (record { named = (name, (dims, This (tt, e))); same = refl; mods = a.0; type_fits = b.0; named_fits = b.1 })

module _ (x : Exprs) (lx : ExprLaws x) (k : ℕ) where
  rest_laws : Lawful ForRest (formed (Rest x (suc k)))
  rest_laws = (then_a (a_sign sign_of.Semicolon) (then_a (has (optional (expr_in x (suc k))) (optional_law Expr (expr_in x (suc k)) (expr_law x lx (suc k)) refl)) (then_a (a_sign sign_of.Semicolon) (has (Updates x (suc k)) (optional_law (List Expr) (listed (effect_in x (suc k))) (listed_law Expr (effect_in x (suc k)) (effect_law x lx (suc k)) refl refl) refl)) refl) refl) refl).laws

  ranged_or_more : Lawful (Either (Unit {0} × Expr) (Option (Unit {0} × Init) × (List (Unit {0} × Var) × ForRest))) (formed (one_or (sign_code sign_of.Colon ∷ []) (Ranged x (suc k)) (Given_more x (suc k))))
  ranged_or_more =
      one_or_laws (Unit {0} × Expr) (Option (Unit {0} × Init) × (List (Unit {0} × Var) × ForRest)) (sign_code sign_of.Colon ∷ []) (Ranged x (suc k)) (Given_more x (suc k))
      (then_a (a_sign sign_of.Colon) (has (expr_coded x (suc k)) (lx.expr k)) refl).laws
      (then_a (has (Equal x (suc k)) (optional_law (Unit {0} × Init) (roomy (suc k) (Given x (suc k))) (given_law x lx (suc k)) refl)) (then_a (has (MoreVars x (suc k)) (behind_each_laws Var sign_of.Comma (var_coded x (suc k)) (var_laws x (suc k) lx) refl refl)) (has (Rest x (suc k)) rest_laws) refl) refl).laws
      (record { solid = refl; solid' = refl; this = refl; that = refl })

  named_laws : Lawful ForNamed (formed (NamedForm x (suc k)))
  named_laws = (then_a an_ident (then_a (has dims_coded dims_coded_laws) (has (one_or (sign_code sign_of.Colon ∷ []) (Ranged x (suc k)) (Given_more x (suc k))) ranged_or_more) refl) refl).laws

  mods_laws : Lawful (Modifier × (List Modifier × (TypeTree × ForNamed))) (formed (ModsForm x (suc k)))
  mods_laws = (then_a (has (modifier_coded x (suc k)) (modifier_coded_laws x (suc k) lx)) (then_a (has (modifiers_coded x (suc k)) (modifiers_coded_laws x (suc k) lx)) (then_a (has (type_coded (suc k)) (type_coded_laws k)) (has (NamedForm x (suc k)) named_laws) refl) refl) refl).laws

  effects_laws : Lawful (List Expr) (formed (listed (effect_coded x (suc k))))
  effects_laws = listed_laws Expr (effect_coded x (suc k)) (lx.effect k) refl refl

  effects_rest_laws : Lawful (List Expr × ForRest) (formed (EffectsForm x (suc k)))
  effects_rest_laws = (then_a (has (listed (effect_coded x (suc k))) effects_laws) (has (Rest x (suc k)) rest_laws) refl).laws

  -- the first of some effects stands there
  first_effect : (ts : List Token) (effects : List Expr) (r : List Token) → Stands (formed (listed (effect_coded x (suc k)))) ts effects r → (e : Expr) × (q : List Token) × Stands (formed (effect_coded x (suc k))) ts e q
  first_effect ts [] r s = absurd (false≢true s.1)
  first_effect ts (e ∷ effects) r s =
      let f = and_parts ((effect_coded x (suc k)).fits e) (fits_all (effect_coded x (suc k)).fits effects) s.1 in
      let t = subst (λ (l : List Told). Takes false l ts r) ((lx.effect k).appends e (after_commas (map expr_tokens effects) []) f.0) s.0 in
      let w = takes_cut false (expr_tokens e []) (after_commas (map expr_tokens effects) []) ts r t in
      (e, w.0, (w.1, f.0))

  type_or_laws : Lawful (Either (TypeTree × ForNamed) (List Expr × ForRest)) (formed (TypeOr x (suc k)))
  type_or_laws =
      attempted_laws TypeTree (List Expr × ForRest) ForNamed (word_code ∷ []) (type_coded (suc k)) (NamedForm x (suc k)) (EffectsForm x (suc k)) (type_coded_laws k) named_laws effects_rest_laws
      (record {
        solid = refl;
        solid' = refl;
        solid'' = refl;
        next = refl;
        meets = refl;
        other = λ ts p r ty q s t e.
            let c = cut (List Expr) ForRest (formed (listed (effect_coded x (suc k)))) (formed (Rest x (suc k))) effects_laws rest_laws (λ v q. apart_sets (sign_code sign_of.Semicolon ∷ []) (listed (effect_coded x (suc k))).goes refl (front_code v) q) ts p r s in
            let w = first_effect ts p.0 c.0 c.1 in
            lx.effect_or_type k ts w.0 w.1 ty q w.2 t e;
      })

  for_head_laws : Lawful ForHead (formed (for_head_coded x (suc k)))
  unfolding for_head_run for_named_run for_rest_run
  for_head_laws =
      made_laws ForParts ForHead (HeadForm x (suc k)) for_head_made for_tokens (for_fits x (suc k))
      (one_or_laws ForRest (Either (Modifier × (List Modifier × (TypeTree × ForNamed))) (Either (TypeTree × ForNamed) (List Expr × ForRest))) (sign_code sign_of.Semicolon ∷ []) (Rest x (suc k)) (ModsOr x (suc k)) rest_laws
      (one_or_laws (Modifier × (List Modifier × (TypeTree × ForNamed))) (Either (TypeTree × ForNamed) (List Expr × ForRest)) modifier_codes (ModsForm x (suc k)) (TypeOr x (suc k)) mods_laws type_or_laws (record { solid = refl; solid' = refl; this = refl; that = refl }))
      (record { solid = refl; solid' = refl; this = refl; that = refl }))
      (record { told = λ p r g. told_head x (suc k) p r g; forth = forth_head x (suc k); back = back_head x (suc k) })

abbrev pub is_for : Layer → Bool
is_for (Stmt-F.For at head body) = true
is_for _ = false

module _ (x : Exprs) (h : ℕ) (l : Level) where
  abbrev pub ForC : Coded (ℕ × (Unit {0} × (ForHead × (Unit {0} × Stmt))))
  ForC = in_order (key_at_form key_of.For) (in_order (sign_form sign_of.LeftParen) (in_order (for_head_coded x h) (in_order (sign_form sign_of.RightParen) (body_coded h l))))

  for_bits : (f b i g : Bool) → ((f && b) && (i && g)) ≡ (true && (true && ((f && i) && (true && (b && g)))))
  for_bits f b i g = grind (arith, common_steps)

  fit_for : (p : ℕ × (Unit {0} × (ForHead × (Unit {0} × Stmt)))) → good_at h (for_made p) ≡ ForC.fits p
  fit_for (at, (u, (head, (v, body)))) =
      good_made h (stmt_of.For at head body) (max (for_height head) (stmt_height body)) _ (stmt_height-For at head body) (stmt_shape-For at head body)
      ∙ ap (λ b. b && (is_for_head head && in_body (stmt_shape body))) (room_max (for_height head) (stmt_height body) h)
      ∙ for_bits (nat_le (for_height head) h) (nat_le (stmt_height body) h) (is_for_head head) (in_body (stmt_shape body))

  back_for : (s : Stmt) (layer : Layer) → out-Stmt s ≡ layer → is_for layer ≡ true → (p : ℕ × (Unit {0} × (ForHead × (Unit {0} × Stmt)))) × (for_made p ≡ s)
  back_for s (Stmt-F.For at head body) e g = ((at, (tt, (head, (tt, body)))), sym (stmt_of.rolls-For at head body) ∙ ap roll-Stmt (sym e) ∙ roll-out-Stmt s)
  back_for s _ e g = absurd (false≢true g)

  pub for_kind : OfKind (ℕ × (Unit {0} × (ForHead × (Unit {0} × Stmt)))) Stmt (roomy h ForC) for_made stmt_tokens (λ s. is_for (out-Stmt s)) (good_at h)
  for_kind = record { told = λ p r. stmt_tokens-For p.0 p.1.1.0 p.1.1.1.1 r; fit = fit_for; is_kind = λ p. ap is_for (stmt_of.outs-For p.0 p.1.1.0 p.1.1.1.1); back = λ s g. back_for s (out-Stmt s) refl g }

for_room : (x : Exprs) (lx : ExprLaws x) (h : ℕ) (l : Level) → LevelLaws h l → Law (ℕ × (Unit {0} × (ForHead × (Unit {0} × Stmt)))) (roomy h (ForC x h l))
for_room x lx zero l f =
    roomy_zero (ForC x 0 l) (λ p. and_right true _ (and_right true _ (and_right ((for_head_coded x 0).fits p.1.1.0) _ (and_right true _ (f.body.never p.1.1.1.1)))))
for_room x lx (suc k) l f =
    roomy_suc k (ForC x (suc k) l) (then_a (a_key_at key_of.For) (then_a (a_sign sign_of.LeftParen) (then_a (has (for_head_coded x (suc k)) (for_head_laws x lx k)) (then_a (a_sign sign_of.RightParen) (has (body_coded (suc k) l) f.body) refl) refl) refl) refl).laws

module _ (x : Exprs) (lx : ExprLaws x) (h : ℕ) (l : Level) where
  abbrev pub for_coded : Coded Stmt
  for_coded = record { tell = stmt_tokens; fits = stmt_fits (ℕ × (Unit {0} × (ForHead × (Unit {0} × Stmt)))) h (roomy h (ForC x h l)) for_made is_for; run = for_run x h l; starts = key_code key_of.For ∷ []; goes = behind_codes; empties = false }

  pub for_law : LevelLaws h l → Law Stmt for_coded
  unfolding for_run
  for_law f = stmt_made_law (ℕ × (Unit {0} × (ForHead × (Unit {0} × Stmt)))) h (roomy h (ForC x h l)) for_made is_for (for_room x lx h l f) (for_kind x h l)

pub closed_for : (x : Exprs) (lx : ExprLaws x) (k : ℕ) (l : Level) (f : LevelLaws (suc k) l) (ts : List Token) (s : Stmt) (r : List Token) → Stands (formed (for_coded x lx (suc k) l)) ts s r → (stmt_shape s).open_end ≡ false → one_of else_codes r ≡ true → IsFound s r (for_run x (suc k) l ts)
unfolding for_run with_room
closed_for x lx k l f ts s r t e y0 =
    let lb = f.body in
    let close = then_a (a_sign sign_of.RightParen) (has (body_coded (suc k) l) lb) refl in
    let headed = then_a (has (for_head_coded x (suc k)) (for_head_laws x lx k)) close refl in
    let opened = then_a (a_sign sign_of.LeftParen) headed refl in
    closed_made (ℕ × (Unit {0} × (ForHead × (Unit {0} × Stmt)))) Stmt (roomy (suc k) (ForC x (suc k) l)) for_made stmt_tokens (stmt_fits (ℕ × (Unit {0} × (ForHead × (Unit {0} × Stmt)))) (suc k) (roomy (suc k) (ForC x (suc k) l)) for_made is_for)
    (kind_makes (ℕ × (Unit {0} × (ForHead × (Unit {0} × Stmt)))) Stmt (roomy (suc k) (ForC x (suc k) l)) for_made stmt_tokens (λ s. is_for (out-Stmt s)) (good_at (suc k)) (for_kind x (suc k) l)) ts s r t
    (λ p q u. closed_order _ _ (key_at_form key_of.For) opened.form (a_key_at key_of.For).laws opened.laws refl refl ts p r u
    (λ m v. closed_order _ _ (sign_form sign_of.LeftParen) headed.form (a_sign sign_of.LeftParen).laws headed.laws refl refl m p.1 r v
    (λ n w. closed_order _ _ (for_head_coded x (suc k)) close.form (for_head_laws x lx k) close.laws refl refl n p.1.1 r w
    (λ o y. closed_order _ _ (sign_form sign_of.RightParen) (body_coded (suc k) l) (a_sign sign_of.RightParen).laws lb refl refl o p.1.1.1 r y
    (λ a z. f.closed a p.1.1.1.1 r z (sym (ap (λ (g : StmtShape). g.open_end) (stmt_shape-For p.0 p.1.1.0 p.1.1.1.1)) ∙ ap (λ (v : Stmt). (stmt_shape v).open_end) q ∙ e) y0)))))
