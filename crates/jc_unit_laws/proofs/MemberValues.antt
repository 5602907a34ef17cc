-- Heights and shapes of methods, constructors and fields by their parts.
use Rattle.std.proofs.Common.{◌≡◌, ℕ, max, Bool, true, List, ◌∷◌, map, Option, Some, None, refl, sym, ap, ◌∙◌, arith}
use Rattle.std.proofs.Math.Bool.{and-true}
use Rattle.std.proofs.lemmas.Grind.{common_steps}
use Rattle.std.specs.Prelude.{◌&&◌, nat_le}
use Rattle.std.specs.List.{list_all}
use Rattle.jc_lexer.specs.declared.token.Key.TheVariants as key_of
use Rattle.jc_lexer.specs.declared.token.Sign.TheVariants as sign_of
use Rattle.jc_tree.specs.declared.name.Ident.{Ident}
use Rattle.jc_tree.specs.declared.types.ClassTree.{ClassTree}
use Rattle.jc_tree.specs.declared.statement.Formal.{Formal}
use Rattle.jc_tree.specs.declared.statement.Member.{Member}
use Rattle.jc_tree.specs.declared.statement.Member.TheVariants as member_of
use Rattle.jc_tree.specs.declared.statement.MethodHead.{MethodHead}
use Rattle.jc_tree.specs.declared.statement.Modifier.{Modifier}
use Rattle.jc_tree.specs.declared.statement.ResultType.{ResultType}
use Rattle.jc_tree.specs.declared.statement.Stmt.{Stmt}
use Rattle.jc_tree.specs.declared.statement.TypeParams.{TypeParams}
use Rattle.jc_tree.specs.declared.types.TypeTree.{TypeTree}
use Rattle.jc_tree.specs.declared.expression.Init.{Init}
use Rattle.jc_tree.specs.declared.statement.LocalVars.{LocalVars}
use Rattle.jc_tree.specs.declared.statement.Var.{Var}
use Rattle.jc_tree.specs.Heights.{most, in_some, class_height, modifier_height, params_of_height, result_height, formal_height, method_height, member_height, stmt_height, type_height, var_height, local_height}
use Rattle.jc_tree.proofs.HeightsOfStatements.{member_height-Bare, member_height-Method, member_height-Fields}
use Rattle.jc_grammar.specs.Told.{Told, sign, ident, brackets}
use Rattle.jc_grammar.specs.Types.{type_tokens}
use Rattle.jc_grammar.specs.Parts.{if_some, initialised, modifiers_tokens, params_of_tokens, result_tokens, method_tokens}
use Rattle.jc_grammar.specs.Statements.{member_tokens, stmt_tokens, braced}
use Rattle.jc_grammar.specs.Units.{is_var, are_modifiers, are_formals, is_method_head, has_result, body_good, constructor_good, in_block, is_member, stmt_shape}
use Rattle.jc_grammar.proofs.ShapesOfStatements.{is_member-Bare, is_member-Method, is_member-Fields}
use Rattle.jc_grammar.proofs.TokensOfStatements.{member_tokens-Bare, member_tokens-Method, member_tokens-Fields}
use Rattle.jc_reading.specs.Reading.{Either, This, That, behind_it}
use Rattle.jc_reading.proofs.Lists.{fits_all}
use Rattle.jc_reading.proofs.Rooms.{room_above, room_max}
use Rattle.jc_part_laws.specs.PartReading.{Exprs}
use Rattle.jc_reading.proofs.Ledby.{behind_fits}
use Rattle.jc_part_laws.proofs.AnnotationForms.{room_and}
use Rattle.jc_part_laws.proofs.Bools.{swap_four}
use Rattle.jc_reading.proofs.Coded.{optional}
use Rattle.jc_reading.proofs.Lowest.{roomy}
use Rattle.jc_part_laws.proofs.FormalForms.{formals_fit, var_fits, var_coded, Given}
use Rattle.jc_part_laws.proofs.ModifierForms.{modifiers_fit}
use Rattle.jc_part_laws.proofs.PartForms.{classes_fit, behind_each, told_commas}
use Rattle.jc_unit_laws.specs.UnitReading.{Level, or_no_init}
use Rattle.jc_unit_laws.specs.MemberReading.{FieldTail, fields_made, MethodTail, ConstructorTail, method_head, method_made, constructor_items, constructor_made}
use Rattle.jc_unit_laws.proofs.MethodForms.{MethodEnd, FieldEnd, ConstructorItems, ConstructorForm}
use Rattle.jc_unit_laws.proofs.SimpleStatements.{item_coded, items_fit, told_items}
use Rattle.jc_unit_laws.proofs.TryClauses.{told_braced}

module _ (x : Exprs) (h : ℕ) (l : Level) where
  head_bits : (m p r f t a g : Bool) → (((((m && p) && r) && f) && t) && (a && g)) ≡ ((m && a) && (p && (r && ((f && g) && t))))
  head_bits m p r f t a g = grind (arith, common_steps)

  -- a head fits where its parts do
  fit_head : (modifiers : List Modifier) (params : Option TypeParams) (result : Option ResultType) (name : Ident) (formals : List Formal) (throws : List ClassTree)
      → (nat_le (method_height (method_head modifiers params result name formals throws)) h && is_method_head (method_head modifiers params result name formals throws))
      ≡ (modifiers_fit x h modifiers && (nat_le (in_some params_of_height params) h && (nat_le (in_some result_height result) h && (formals_fit x h formals && nat_le (most (map class_height throws)) h))))
  fit_head modifiers params result name formals throws =
      ap (λ b. b && (are_modifiers modifiers && are_formals formals))
      (room_max (max (max (max (most (map modifier_height modifiers)) (in_some params_of_height params)) (in_some result_height result)) (most (map formal_height formals))) (most (map class_height throws)) h
      ∙ ap (λ b. b && nat_le (most (map class_height throws)) h)
      (room_max (max (max (most (map modifier_height modifiers)) (in_some params_of_height params)) (in_some result_height result)) (most (map formal_height formals)) h
      ∙ ap (λ b. b && nat_le (most (map formal_height formals)) h)
      (room_max (max (most (map modifier_height modifiers)) (in_some params_of_height params)) (in_some result_height result) h
      ∙ ap (λ b. b && nat_le (in_some result_height result) h) (room_max (most (map modifier_height modifiers)) (in_some params_of_height params) h))))
      ∙ head_bits (nat_le (most (map modifier_height modifiers)) h) (nat_le (in_some params_of_height params) h) (nat_le (in_some result_height result) h) (nat_le (most (map formal_height formals)) h) (nat_le (most (map class_height throws)) h) (are_modifiers modifiers) (are_formals formals)

  abbrev member_fits : Member → Bool
  member_fits m = nat_le (member_height m) h && is_member m

  fit_method : (head : MethodHead) (items : List Stmt) → member_fits (member_of.Method head items) ≡ ((nat_le (method_height head) h && is_method_head head) && (nat_le (most (map stmt_height items)) h && body_good head.result (map stmt_shape items)))
  fit_method head items =
      ap (λ n. nat_le n h && is_member (member_of.Method head items)) (member_height-Method head items)
      ∙ ap (λ b. nat_le (max (method_height head) (most (map stmt_height items))) h && b) (is_member-Method head items)
      ∙ ap (λ b. b && (is_method_head head && body_good head.result (map stmt_shape items))) (room_max (method_height head) (most (map stmt_height items)) h)
      ∙ swap_four (nat_le (method_height head) h) (nat_le (most (map stmt_height items)) h) (is_method_head head) (body_good head.result (map stmt_shape items))

  fit_bare : (head : MethodHead) → member_fits (member_of.Bare head) ≡ ((nat_le (method_height head) h && is_method_head head) && has_result head)
  fit_bare head =
      ap (λ n. nat_le n h && is_member (member_of.Bare head)) (member_height-Bare head) ∙ ap (λ b. nat_le (method_height head) h && b) (is_member-Bare head)
      ∙ bits (nat_le (method_height head) h) (is_method_head head) (has_result head)
    where
      bits : (n i r : Bool) → (n && (i && r)) ≡ ((n && i) && r)
      bits n i r = grind (arith, common_steps)

  tail_bits : (m p r f t e : Bool) → ((m && (p && (r && (f && t)))) && e) ≡ (m && (p && (r && (f && (t && e)))))
  tail_bits m p r f t e = grind (arith, common_steps)

  -- a method with a result
  pub fit_method_made : (modifiers : List Modifier) (params : Option TypeParams) (result : ResultType) (name : Ident) (tail : MethodTail)
      → member_fits (method_made modifiers params result name tail) ≡ (modifiers_fit x h modifiers && (nat_le (in_some params_of_height params) h && (nat_le (result_height result) h && (MethodEnd x h l).fits tail)))
  fit_method_made modifiers params result name (formals, (throws, This (u, (items, v)))) =
      fit_method (method_head modifiers params (Some result) name formals throws) items
      ∙ ap (λ b. b && (nat_le (most (map stmt_height items)) h && list_all in_block (map stmt_shape items))) (fit_head modifiers params (Some result) name formals throws)
      ∙ tail_bits (modifiers_fit x h modifiers) (nat_le (in_some params_of_height params) h) (nat_le (result_height result) h) (formals_fit x h formals) (nat_le (most (map class_height throws)) h) (nat_le (most (map stmt_height items)) h && list_all in_block (map stmt_shape items))
      ∙ ap (λ b. modifiers_fit x h modifiers && (nat_le (in_some params_of_height params) h && (nat_le (result_height result) h && (formals_fit x h formals && (nat_le (most (map class_height throws)) h && b))))) (items_fit x h l items ∙ sym (and-true (fits_all (item_coded h l).fits items)))
  fit_method_made modifiers params result name (formals, (throws, That u)) =
      fit_bare (method_head modifiers params (Some result) name formals throws)
      ∙ ap (λ b. b && true) (fit_head modifiers params (Some result) name formals throws)
      ∙ tail_bits (modifiers_fit x h modifiers) (nat_le (in_some params_of_height params) h) (nat_le (result_height result) h) (formals_fit x h formals) (nat_le (most (map class_height throws)) h) true

  -- the statements of a constructor
  items_of : (o : Either (Unit {0}) (Stmt × (List Stmt × Unit {0}))) → (nat_le (most (map stmt_height (constructor_items o))) h && constructor_good (map stmt_shape (constructor_items o))) ≡ (ConstructorItems h l).fits o
  items_of (This u) = ap (λ b. b && true) (room_above h)
  items_of (That (s, (items, u))) =
      ap (λ b. b && ((stmt_shape s).good && list_all in_block (map stmt_shape items))) (room_max (stmt_height s) (most (map stmt_height items)) h)
      ∙ swap_four (nat_le (stmt_height s) h) (nat_le (most (map stmt_height items)) h) (stmt_shape s).good (list_all in_block (map stmt_shape items))
      ∙ ap (λ b. (nat_le (stmt_height s) h && (stmt_shape s).good) && b) (items_fit x h l items ∙ sym (and-true (fits_all (item_coded h l).fits items)))

  none_bits : (m p r f t e : Bool) → r ≡ true → ((m && (p && (r && (f && t)))) && e) ≡ (m && (p && (true && (f && (t && (true && e))))))
  none_bits m p r f t e q = ap (λ b. (m && (p && (b && (f && t)))) && e) q ∙ bits m p f t e
    where
      bits : (m p f t e : Bool) → ((m && (p && (f && t))) && e) ≡ (m && (p && (f && (t && e))))
      bits m p f t e = grind (arith, common_steps)

  pub fit_constructor_made : (modifiers : List Modifier) (params : Option TypeParams) (p : Ident × ConstructorTail)
      → member_fits (constructor_made modifiers params p) ≡ (modifiers_fit x h modifiers && (nat_le (in_some params_of_height params) h && (true && (formals_fit x h p.1.0 && (classes_fit key_of.Throws h p.1.1.0 && (true && (ConstructorItems h l).fits p.1.1.1.1))))))
  fit_constructor_made modifiers params (name, (formals, (throws, (u, items)))) =
      fit_method (method_head modifiers params None name formals throws) (constructor_items items)
      ∙ ap (λ b. b && (nat_le (most (map stmt_height (constructor_items items))) h && constructor_good (map stmt_shape (constructor_items items)))) (fit_head modifiers params None name formals throws)
      ∙ ap (λ b. (modifiers_fit x h modifiers && (nat_le (in_some params_of_height params) h && (nat_le 0 h && (formals_fit x h formals && nat_le (most (map class_height throws)) h)))) && b) (items_of items)
      ∙ none_bits (modifiers_fit x h modifiers) (nat_le (in_some params_of_height params) h) (nat_le 0 h) (formals_fit x h formals) (nat_le (most (map class_height throws)) h) ((ConstructorItems h l).fits items) (room_above h)

  -- tokens

  pub told_method : (modifiers : List Modifier) (params : Option TypeParams) (result : ResultType) (name : Ident) (tail : MethodTail) (r : List Told)
      → member_tokens (method_made modifiers params result name tail) r ≡ modifiers_tokens modifiers (if_some params_of_tokens params (result_tokens result (ident name ∷ (MethodEnd x h l).tell tail r)))
  told_method modifiers params result name (formals, (throws, This braces)) r =
      member_tokens-Method (method_head modifiers params (Some result) name formals throws) braces.1.0 r
      ∙ ap (λ (t : List Told). method_tokens (method_head modifiers params (Some result) name formals throws) t) (told_braced h l braces r)
  told_method modifiers params result name (formals, (throws, That u)) r = member_tokens-Bare (method_head modifiers params (Some result) name formals throws) r

  told_items_of : (o : Either (Unit {0}) (Stmt × (List Stmt × Unit {0}))) (r : List Told) → braced (map stmt_tokens (constructor_items o)) r ≡ (sign sign_of.LeftBrace ∷ (ConstructorItems h l).tell o r)
  told_items_of (This u) r = refl
  told_items_of (That (s, (items, u))) r = ap (λ (t : List Told). sign sign_of.LeftBrace ∷ stmt_tokens s t) (told_items items (sign sign_of.RightBrace ∷ r))

  pub told_constructor : (modifiers : List Modifier) (params : Option TypeParams) (p : Ident × ConstructorTail) (r : List Told)
      → member_tokens (constructor_made modifiers params p) r ≡ modifiers_tokens modifiers (if_some params_of_tokens params ((ConstructorForm x h l (ConstructorItems h l)).tell p r))
  told_constructor modifiers params (name, (formals, (throws, (u, items)))) r =
      member_tokens-Method (method_head modifiers params None name formals throws) (constructor_items items) r
      ∙ ap (λ (t : List Told). method_tokens (method_head modifiers params None name formals throws) t) (told_items_of items r)

  -- fields

  abbrev field_vars : List Modifier → TypeTree → Ident → ℕ → Option (Unit {0} × Init) → List (Unit {0} × Var) → LocalVars
  field_vars modifiers ty name dims o more = record { modifiers = modifiers; ty = ty; first = record { name = name; dims = dims; init = or_no_init o }; more = map behind_it more }

  field_bits : (m t f r a v w : Bool) → ((((m && t) && f) && r) && (a && v && w)) ≡ ((m && a) && (t && ((f && v) && ((r && w) && true))))
  field_bits m t f r a v w = grind (arith, common_steps)

  fit_first : (name : Ident) (dims : ℕ) (o : Option (Unit {0} × Init)) → var_fits x h (record { name = name; dims = dims; init = or_no_init o }) ≡ (optional (roomy h (Given x h))).fits o
  fit_first name dims None = ap (λ b. b && true) (room_above h)
  fit_first name dims (Some p) = refl

  pub fit_fields : (modifiers : List Modifier) (ty : TypeTree) (name : Ident) (tail : FieldTail) → member_fits (fields_made modifiers ty name tail) ≡ (modifiers_fit x h modifiers && (nat_le (type_height ty) h && (true && (FieldEnd x h l).fits tail)))
  fit_fields modifiers ty name (dims, (o, (more, u))) =
      let vars : LocalVars = field_vars modifiers ty name dims o more in
      let first : Var = record { name = name; dims = dims; init = or_no_init o } in
      ap (λ n. nat_le n h && is_member (member_of.Fields vars)) (member_height-Fields vars) ∙ ap (λ b. nat_le (local_height vars) h && b) (is_member-Fields vars)
      ∙ ap (λ b. b && (are_modifiers modifiers && is_var first && list_all is_var (map behind_it more)))
      (room_max (max (max (most (map modifier_height modifiers)) (type_height ty)) (var_height first)) (most (map var_height (map behind_it more))) h
      ∙ ap (λ b. b && nat_le (most (map var_height (map behind_it more))) h)
      (room_max (max (most (map modifier_height modifiers)) (type_height ty)) (var_height first) h ∙ ap (λ b. b && nat_le (var_height first) h) (room_max (most (map modifier_height modifiers)) (type_height ty) h)))
      ∙ field_bits (nat_le (most (map modifier_height modifiers)) h) (nat_le (type_height ty) h) (nat_le (var_height first) h) (nat_le (most (map var_height (map behind_it more))) h) (are_modifiers modifiers) (is_var first) (list_all is_var (map behind_it more))
      ∙ ap (λ b. modifiers_fit x h modifiers && (nat_le (type_height ty) h && (var_fits x h first && (b && true)))) (room_and var_height is_var h (map behind_it more) ∙ sym (behind_fits (var_fits x h) more))
      ∙ ap (λ b. modifiers_fit x h modifiers && (nat_le (type_height ty) h && (b && ((behind_each sign_of.Comma (var_coded x h)).fits more && true)))) (fit_first name dims o)

  pub told_fields : (modifiers : List Modifier) (ty : TypeTree) (name : Ident) (tail : FieldTail) (r : List Told) → member_tokens (fields_made modifiers ty name tail) r ≡ modifiers_tokens modifiers (type_tokens ty (ident name ∷ (FieldEnd x h l).tell tail r))
  told_fields modifiers ty name (dims, (None, (more, u))) r =
      member_tokens-Fields (field_vars modifiers ty name dims None more) r
      ∙ ap (λ (t : List Told). modifiers_tokens modifiers (type_tokens ty (ident name ∷ brackets dims t))) (told_commas (var_coded x h) more (sign sign_of.Semicolon ∷ r))
  told_fields modifiers ty name (dims, (Some (v, init), (more, u))) r =
      member_tokens-Fields (field_vars modifiers ty name dims (Some (v, init)) more) r
      ∙ ap (λ (t : List Told). modifiers_tokens modifiers (type_tokens ty (ident name ∷ brackets dims (initialised init t)))) (told_commas (var_coded x h) more (sign sign_of.Semicolon ∷ r))
