-- Resources, and the statement `try`.
use Rattle.std.proofs.Common.{◌≡◌, ℕ, zero, suc, max, Bool, true, false, List, [], ◌∷◌, map, Some, None, refl, sym, ap, ◌∙◌, inl, arith}
use Rattle.std.proofs.lemmas.Bool.{false≢true, and_left, and_right}
use Rattle.std.proofs.lemmas.Grind.{common_steps}
use Rattle.std.specs.Prelude.{◌&&◌, nat_le}
use Rattle.std.specs.List.{list_all}
use Rattle.jc_lexer.specs.declared.token.Key.TheVariants as key_of
use Rattle.jc_lexer.specs.declared.token.Sign.TheVariants as sign_of
use Rattle.jc_tree.specs.declared.name.Ident.{Ident}
use Rattle.jc_tree.specs.declared.expression.Expr.{Expr}
use Rattle.jc_tree.specs.declared.statement.Clause.{Clause}
use Rattle.jc_tree.specs.declared.types.TypeTree.{TypeTree}
use Rattle.jc_tree.specs.declared.statement.Modifier.{Modifier}
use Rattle.jc_tree.specs.declared.statement.Resource.{Resource}
use Rattle.jc_tree.specs.declared.statement.Resources.{Resources}
use Rattle.jc_tree.specs.declared.statement.Stmt.{Stmt, Stmt-F, out-Stmt, roll-Stmt, roll-out-Stmt}
use Rattle.jc_tree.specs.declared.statement.Stmt.TheVariants as stmt_of
use Rattle.jc_tree.specs.Heights.{most, expr_height, type_height, modifier_height, clause_height, resource_height, resources_of_height, stmt_height}
use Rattle.jc_tree.proofs.HeightsOfStatements.{stmt_height-Try}
use Rattle.jc_grammar.specs.Told.{Told, sign, key_at, each}
use Rattle.jc_grammar.specs.Expressions.{if_there}
use Rattle.jc_grammar.specs.Parts.{resource_tokens, after_semicolons, resources_tokens}
use Rattle.jc_grammar.specs.Shapes.{is_expr}
use Rattle.jc_grammar.specs.Statements.{stmt_tokens, clause_tokens}
use Rattle.jc_grammar.specs.Units.{clause_shape, catches_good, some_clause, are_modifiers, is_resource, are_resources, in_block, stmt_shape}
use Rattle.jc_grammar.proofs.ShapesOfStatements.{stmt_shape-Try}
use Rattle.jc_grammar.proofs.TokensOfStatements.{stmt_tokens-Try}
use Rattle.jc_reading.specs.Kinds.{sign_code, key_code}
use Rattle.jc_reading.specs.Reading.{Either, This, That, behind_it}
use Rattle.jc_reading.proofs.Forms.{Lawful}
use Rattle.jc_reading.proofs.Lists.{tell_all, fits_all}
use Rattle.jc_reading.proofs.Rooms.{room_above, room_max}
use Rattle.jc_part_laws.specs.PartReading.{Exprs}
use Rattle.jc_part_laws.proofs.AnnotationForms.{room_and}
use Rattle.jc_reading.proofs.Coded.{Coded, formed, in_order, in_order_laws, one_or, same_makes, made_laws}
use Rattle.jc_part_laws.proofs.ExprForms.{ExprLaws, expr_coded, expr_tall}
use Rattle.jc_reading.proofs.Lowest.{Law, roomy, one_or_law, never_first}
use Rattle.jc_part_laws.proofs.ModifierForms.{modifiers_coded, modifiers_coded_laws}
use Rattle.jc_part_laws.proofs.PartForms.{sign_form, key_at_form, ident_form, type_coded, type_coded_laws}
use Rattle.jc_unit_laws.specs.UnitReading.{Level, Braces, resource_made, resource_run, resources_made, resources_run, TryParts, try_made, try_run}
use Rattle.jc_unit_laws.proofs.Bundles.{has, a_sign, a_key_at, an_ident, then_a, roomy_zero, roomy_suc, lawful_by}
use Rattle.jc_reading.proofs.Ledby.{led, behind_fits, unled, unled_back}
use Rattle.jc_part_laws.proofs.Rows.{rows, rows_tail, rows_tail_laws, Separate}
use Rattle.jc_unit_laws.proofs.SimpleStatements.{LevelLaws, Layer, good_at, good_made, stmt_fits, stmt_made_law, items_fit}
use Rattle.jc_unit_laws.proofs.TryClauses.{Braced, braced_has, told_braced, clauses_coded, clauses_laws, some_clauses_coded, some_clauses_laws}

module _ (x : Exprs) (h : ℕ) (l : Level) where
  abbrev ResourceParts : Coded (List Modifier × (TypeTree × (Ident × (Unit {0} × Expr))))
  ResourceParts = in_order (modifiers_coded x h) (in_order (type_coded h) (in_order ident_form (in_order (sign_form sign_of.Assign) (expr_coded x h))))

  abbrev resource_fits : Resource → Bool
  resource_fits r = nat_le (resource_height r) h && is_resource r

  abbrev resource_coded : Coded Resource
  resource_coded = record { tell = resource_tokens; fits = resource_fits; run = resource_run x h l; starts = ResourceParts.starts; goes = ResourceParts.goes; empties = false }

  resource_bits : (m t e a i : Bool) → (((m && t) && e) && (a && i)) ≡ ((m && a) && (t && (true && (true && (e && i)))))
  resource_bits m t e a i = grind (arith, common_steps)

  fit_resource : (p : List Modifier × (TypeTree × (Ident × (Unit {0} × Expr)))) → resource_fits (resource_made p) ≡ ResourceParts.fits p
  fit_resource (modifiers, (ty, (name, (u, e)))) =
      ap (λ b. b && (are_modifiers modifiers && is_expr e))
      (room_max (max (most (map modifier_height modifiers)) (type_height ty)) (expr_height e) h
      ∙ ap (λ b. b && nat_le (expr_height e) h) (room_max (most (map modifier_height modifiers)) (type_height ty) h))
      ∙ resource_bits (nat_le (most (map modifier_height modifiers)) h) (nat_le (type_height ty) h) (nat_le (expr_height e) h) (are_modifiers modifiers) (is_expr e)

  abbrev Rows : Coded (Resource × (List (Unit {0} × Resource) × Bool))
  Rows = rows sign_of.Semicolon sign_of.RightParen refl Resource resource_coded

  abbrev ResourcesParts : Coded (Unit {0} × (Resource × (List (Unit {0} × Resource) × Bool)))
  ResourcesParts = in_order (sign_form sign_of.LeftParen) Rows

  abbrev resources_fits : Resources → Bool
  resources_fits r = nat_le (resources_of_height r) h && are_resources r

  abbrev resources_coded : Coded Resources
  resources_coded = record { tell = resources_tokens; fits = resources_fits; run = resources_run x h l; starts = sign_code sign_of.LeftParen ∷ []; goes = []; empties = false }

  rows_bits : (f m a s : Bool) → ((f && m) && (a && s)) ≡ (true && ((f && a) && ((m && s) && true)))
  rows_bits f m a s = grind (arith, common_steps)

  behind_resources : (more : List (Unit {0} × Resource)) → (nat_le (most (map resource_height (map behind_it more))) h && list_all is_resource (map behind_it more)) ≡ fits_all (λ (p : Unit {0} × Resource). true && resource_fits p.1) more
  behind_resources more = room_and resource_height is_resource h (map behind_it more) ∙ sym (behind_fits resource_fits more)

  fit_resources : (p : Unit {0} × (Resource × (List (Unit {0} × Resource) × Bool))) → resources_fits (resources_made p) ≡ ResourcesParts.fits p
  fit_resources (u, (first, (more, trailing))) =
      ap (λ b. b && (is_resource first && list_all is_resource (map behind_it more))) (room_max (resource_height first) (most (map resource_height (map behind_it more))) h)
      ∙ rows_bits (nat_le (resource_height first) h) (nat_le (most (map resource_height (map behind_it more))) h) (is_resource first) (list_all is_resource (map behind_it more))
      ∙ ap (λ b. true && ((nat_le (resource_height first) h && is_resource first) && (b && true))) (behind_resources more)

  told_resources : (list : List (Unit {0} × Resource)) (r : List Told) → after_semicolons (map behind_it list) r ≡ tell_all (led Resource sign_of.Semicolon (formed resource_coded)).tell list r
  told_resources [] r = refl
  told_resources (p ∷ list) r = ap (λ (t : List Told). sign sign_of.Semicolon ∷ resource_tokens p.1 t) (told_resources list r)

  abbrev With : Coded (Resources × (Braces Stmt × List Clause))
  With = in_order resources_coded (in_order (Braced h l) (clauses_coded x h l))

  abbrev Without : Coded (Braces Stmt × List Clause)
  Without = in_order (Braced h l) (some_clauses_coded x h l)

  abbrev TryC : Coded TryParts
  TryC = in_order (key_at_form key_of.Try) (one_or (sign_code sign_of.LeftParen ∷ []) (roomy h With) Without)

resource_laws : (x : Exprs) (lx : ExprLaws x) (k : ℕ) (l : Level) → Lawful Resource (formed (resource_coded x (suc k) l))
unfolding resource_run
resource_laws x lx k l =
    made_laws (List Modifier × (TypeTree × (Ident × (Unit {0} × Expr)))) Resource (ResourceParts x (suc k) l) resource_made resource_tokens (resource_fits x (suc k) l)
    (then_a (has (modifiers_coded x (suc k)) (modifiers_coded_laws x (suc k) lx)) (then_a (has (type_coded (suc k)) (type_coded_laws k)) (then_a an_ident (then_a (a_sign sign_of.Assign) (has (expr_coded x (suc k)) (lx.expr k)) refl) refl) refl) refl).laws
    (same_makes (List Modifier × (TypeTree × (Ident × (Unit {0} × Expr)))) Resource (ResourceParts x (suc k) l) resource_made resource_tokens (resource_fits x (suc k) l)
    (record { told = λ p r. refl; fit = fit_resource x (suc k) l; back = λ r. ((r.modifiers, (r.ty, (r.name, (tt, r.value)))), refl) }))

resources_laws : (x : Exprs) (lx : ExprLaws x) (k : ℕ) (l : Level) → Lawful Resources (formed (resources_coded x (suc k) l))
unfolding resources_run
resources_laws x lx k l =
    let la = resource_laws x lx k l in
    let h : Separate sign_of.Semicolon sign_of.RightParen refl Resource (resource_coded x (suc k) l) = record { solid = refl; not_end = refl; stops = refl } in
    made_laws (Unit {0} × (Resource × (List (Unit {0} × Resource) × Bool))) Resources (ResourcesParts x (suc k) l) resources_made resources_tokens (resources_fits x (suc k) l)
    (then_a (a_sign sign_of.LeftParen) (has (Rows x (suc k) l) (in_order_laws Resource (List (Unit {0} × Resource) × Bool) (resource_coded x (suc k) l) (rows_tail sign_of.Semicolon sign_of.RightParen refl Resource (resource_coded x (suc k) l)) la (rows_tail_laws sign_of.Semicolon sign_of.RightParen refl Resource (resource_coded x (suc k) l) la h) refl)) refl).laws
    (same_makes (Unit {0} × (Resource × (List (Unit {0} × Resource) × Bool))) Resources (ResourcesParts x (suc k) l) resources_made resources_tokens (resources_fits x (suc k) l)
    (record {
      told = λ p r. ap (λ (t : List Told). sign sign_of.LeftParen ∷ resource_tokens p.1.0 t) (told_resources x (suc k) l p.1.1.0 (if_there p.1.1.1 sign_of.Semicolon (sign sign_of.RightParen ∷ r)));
      fit = fit_resources x (suc k) l;
      back = λ s. ((tt, (s.first, (unled s.more, s.trailing))), ap (λ (more : List Resource). record { first = s.first; more = more; trailing = s.trailing }) (unled_back s.more));
    }))

resource_low : (r : Resource) → nat_le (resource_height r) 0 ≡ false
resource_low r =
    room_max (max (most (map modifier_height r.modifiers)) (type_height r.ty)) (expr_height r.value) 0
    ∙ and_right (nat_le (max (most (map modifier_height r.modifiers)) (type_height r.ty)) 0) (nat_le (expr_height r.value) 0) (expr_tall r.value)

resources_never : (x : Exprs) (l : Level) (r : Resources) → resources_fits x 0 l r ≡ false
resources_never x l r =
    and_left (nat_le (resources_of_height r) 0) (are_resources r) (room_max (resource_height r.first) (most (map resource_height r.more)) 0
    ∙ and_left (nat_le (resource_height r.first) 0) (nat_le (most (map resource_height r.more)) 0) (resource_low r.first))

abbrev pub is_try : Layer → Bool
is_try (Stmt-F.Try at resources items clauses) = true
is_try _ = false

module _ (x : Exprs) (h : ℕ) (l : Level) where
  with_bits : (r i c a s g : Bool) → (((r && i) && c) && (a && (s && g))) ≡ (true && ((r && s) && ((true && ((i && a) && true)) && (c && g))))
  with_bits r i c a s g = grind (arith, common_steps)

  without_bits : (i c a s g : Bool) → ((i && c) && (a && (s && g))) ≡ (true && ((true && ((i && a) && true)) && (c && (s && g))))
  without_bits i c a s g = grind (arith, common_steps)

  fit_try : (p : TryParts) → good_at h (try_made p) ≡ (TryC x h l).fits p
  fit_try (at, This (resources, ((u, (items, v)), clauses))) =
      good_made h (stmt_of.Try at (Some resources) items clauses) (max (max (resources_of_height resources) (most (map stmt_height items))) (most (map clause_height clauses))) _ (stmt_height-Try at (Some resources) items clauses) (stmt_shape-Try at (Some resources) items clauses)
      ∙ ap (λ b. b && (list_all in_block (map stmt_shape items) && (are_resources resources && catches_good (map clause_shape clauses))))
      (room_max (max (resources_of_height resources) (most (map stmt_height items))) (most (map clause_height clauses)) h
      ∙ ap (λ b. b && nat_le (most (map clause_height clauses)) h) (room_max (resources_of_height resources) (most (map stmt_height items)) h))
      ∙ with_bits (nat_le (resources_of_height resources) h) (nat_le (most (map stmt_height items)) h) (nat_le (most (map clause_height clauses)) h) (list_all in_block (map stmt_shape items)) (are_resources resources) (catches_good (map clause_shape clauses))
      ∙ ap (λ b. true && ((nat_le (resources_of_height resources) h && are_resources resources) && ((true && (b && true)) && (nat_le (most (map clause_height clauses)) h && catches_good (map clause_shape clauses))))) (items_fit x h l items)
  fit_try (at, That ((u, (items, v)), clauses)) =
      good_made h (stmt_of.Try at None items clauses) (max (max 0 (most (map stmt_height items))) (most (map clause_height clauses))) _ (stmt_height-Try at None items clauses) (stmt_shape-Try at None items clauses)
      ∙ ap (λ b. b && (list_all in_block (map stmt_shape items) && (some_clause (map clause_shape clauses) && catches_good (map clause_shape clauses))))
      (room_max (max 0 (most (map stmt_height items))) (most (map clause_height clauses)) h
      ∙ ap (λ b. b && nat_le (most (map clause_height clauses)) h) (room_max 0 (most (map stmt_height items)) h ∙ ap (λ b. b && nat_le (most (map stmt_height items)) h) (room_above h)))
      ∙ without_bits (nat_le (most (map stmt_height items)) h) (nat_le (most (map clause_height clauses)) h) (list_all in_block (map stmt_shape items)) (some_clause (map clause_shape clauses)) (catches_good (map clause_shape clauses))
      ∙ ap (λ b. true && ((true && (b && true)) && (nat_le (most (map clause_height clauses)) h && (some_clause (map clause_shape clauses) && catches_good (map clause_shape clauses))))) (items_fit x h l items)

  told_try : (p : TryParts) (r : List Told) → stmt_tokens (try_made p) r ≡ (TryC x h l).tell p r
  told_try (at, This (resources, (braces, clauses))) r =
      stmt_tokens-Try at (Some resources) braces.1.0 clauses r ∙ ap (λ (t : List Told). key_at key_of.Try at ∷ resources_tokens resources t) (told_braced h l braces (each (map clause_tokens clauses) r))
  told_try (at, That (braces, clauses)) r =
      stmt_tokens-Try at None braces.1.0 clauses r ∙ ap (λ (t : List Told). key_at key_of.Try at ∷ t) (told_braced h l braces (each (map clause_tokens clauses) r))

  kind_try : (p : TryParts) → is_try (out-Stmt (try_made p)) ≡ true
  kind_try (at, This (resources, (braces, clauses))) = ap is_try (stmt_of.outs-Try at (Some resources) braces.1.0 clauses)
  kind_try (at, That (braces, clauses)) = ap is_try (stmt_of.outs-Try at None braces.1.0 clauses)

  back_try : (s : Stmt) (layer : Layer) → out-Stmt s ≡ layer → is_try layer ≡ true → (p : TryParts) × (try_made p ≡ s)
  back_try s (Stmt-F.Try at (Some resources) items clauses) e g = ((at, This (resources, ((tt, (items, tt)), clauses))), sym (stmt_of.rolls-Try at (Some resources) items clauses) ∙ ap roll-Stmt (sym e) ∙ roll-out-Stmt s)
  back_try s (Stmt-F.Try at None items clauses) e g = ((at, That ((tt, (items, tt)), clauses)), sym (stmt_of.rolls-Try at None items clauses) ∙ ap roll-Stmt (sym e) ∙ roll-out-Stmt s)
  back_try s _ e g = absurd (false≢true g)

with_room_law : (x : Exprs) (lx : ExprLaws x) (h : ℕ) (l : Level) → LevelLaws h l → Law (Resources × (Braces Stmt × List Clause)) (roomy h (With x h l))
with_room_law x lx zero l f = roomy_zero (With x 0 l) (never_first Resources (Braces Stmt × List Clause) (resources_coded x 0 l) (in_order (Braced 0 l) (clauses_coded x 0 l)) (resources_never x l))
with_room_law x lx (suc k) l f =
    roomy_suc k (With x (suc k) l) (then_a (has (resources_coded x (suc k) l) (resources_laws x lx k l)) (then_a (braced_has (suc k) l f) (has (clauses_coded x (suc k) l) (clauses_laws x (suc k) l lx f)) refl) refl).laws

either_try : (x : Exprs) (lx : ExprLaws x) (h : ℕ) (l : Level) (f : LevelLaws h l) → Lawful (Either (Resources × (Braces Stmt × List Clause)) (Braces Stmt × List Clause)) (formed (one_or (sign_code sign_of.LeftParen ∷ []) (roomy h (With x h l)) (Without x h l)))
either_try x lx h l f =
    let lb = (then_a (braced_has h l f) (has (some_clauses_coded x h l) (some_clauses_laws x h l lx f)) refl).laws in
    lawful_by (one_or (sign_code sign_of.LeftParen ∷ []) (roomy h (With x h l)) (Without x h l)) (That lb.least.value) (lb.least.spelled []).1
    (one_or_law (Resources × (Braces Stmt × List Clause)) (Braces Stmt × List Clause) (sign_code sign_of.LeftParen ∷ []) (roomy h (With x h l)) (Without x h l) (record { solid = refl; solid' = refl; this = refl; that = refl }) (with_room_law x lx h l f) (inl lb))

module _ (x : Exprs) (lx : ExprLaws x) (h : ℕ) (l : Level) where
  abbrev pub try_coded : Coded Stmt
  try_coded = record { tell = stmt_tokens; fits = stmt_fits TryParts h (TryC x h l) try_made is_try; run = try_run x h l; starts = key_code key_of.Try ∷ []; goes = (TryC x h l).goes; empties = false }

  pub try_law : LevelLaws h l → Law Stmt try_coded
  unfolding try_run
  try_law f =
      stmt_made_law TryParts h (TryC x h l) try_made is_try (inl (then_a (a_key_at key_of.Try) (has (one_or (sign_code sign_of.LeftParen ∷ []) (roomy h (With x h l)) (Without x h l)) (either_try x lx h l f)) refl).laws)
      (record { told = told_try x h l; fit = fit_try x h l; is_kind = kind_try x h l; back = λ s g. back_try x h l s (out-Stmt s) refl g })
