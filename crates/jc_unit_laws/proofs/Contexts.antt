-- The statements of each context, together.
use Rattle.std.proofs.Common.{◌≡◌, ℕ, suc, Bool, true, false, List, [], ◌∷◌, ◌++◌, refl, sym, ap, ◌∙◌, subst, ⊎_elim, arith}
use Rattle.std.proofs.Math.Bool.{and_comm}
use Rattle.std.proofs.Math.Path.{fun_ext}
use Rattle.std.proofs.lemmas.Bool.{false≢true, or_cases, cond-true, cond-false}
use Rattle.std.proofs.lemmas.Grind.{common_steps}
use Rattle.std.specs.Prelude.{not, ◌&&◌, ◌||◌, nat_le}
use Rattle.jc_rules.proofs.Truths.{or_none}
use Rattle.jc_lexer.specs.declared.token.Key.TheVariants as key_of
use Rattle.jc_lexer.specs.declared.token.Sign.TheVariants as sign_of
use Rattle.jc_lexer.specs.declared.token.Token.{Token}
use Rattle.jc_tree.specs.declared.statement.Clause.{Clause}
use Rattle.jc_tree.specs.declared.statement.Declaration.{Declaration}
use Rattle.jc_tree.specs.declared.statement.Member.{Member}
use Rattle.jc_tree.specs.declared.statement.Stmt.{Stmt, Stmt-F, out-Stmt, map-Stmt}
use Rattle.jc_tree.specs.declared.statement.Stmt.TheVariants as stmt_of
use Rattle.jc_tree.specs.Heights.{stmt_height}
use Rattle.jc_tree.proofs.HeightsOfStatements.{stmt_height-Empty}
use Rattle.jc_grammar.specs.Told.{Told}
use Rattle.jc_grammar.specs.Statements.{stmt_tokens}
use Rattle.jc_grammar.specs.Units.{StmtShape, ClauseShape, role_in_body, role_behind_else, role_in_switch, in_body, in_switch, behind_else, stmt_shape, stmt_shape_step, is_member, clause_shape, is_declaration}
use Rattle.jc_grammar.proofs.ShapesOfStatements.{stmt_shape-out, stmt_shape-Empty}
use Rattle.jc_reading.specs.Kinds.{sign_code, key_code, front_code, one_of}
use Rattle.jc_reading.specs.Reading.{Read, becoming, Takes, Either, This, That}
use Rattle.jc_reading.proofs.Steps.{IsFound, found_becoming}
use Rattle.jc_reading.proofs.Forms.{Lawful, Stands}
use Rattle.jc_reading.proofs.Rooms.{room_above, room_suc}
use Rattle.jc_reading.proofs.Signs.{none_common, all_in, apart_sets, within_sets}
use Rattle.jc_reading.specs.Further.{either_one}
use Rattle.jc_part_laws.specs.PartReading.{Exprs}
use Rattle.jc_reading.proofs.Coded.{Coded, formed, Apart, widened_laws}
use Rattle.jc_part_laws.proofs.ExprForms.{ExprLaws, expr_codes}
use Rattle.jc_reading.proofs.Lowest.{Law, merged, merged_law}
use Rattle.jc_part_laws.proofs.ModifierForms.{modifier_codes}
use Rattle.jc_unit_laws.specs.UnitReading.{Level, if_codes, statement_codes, other_run, body_run, case_item_run}
use Rattle.jc_unit_laws.proofs.Bundles.{lawful_by}
use Rattle.jc_unit_laws.proofs.SimpleStatements.{stmt_codes, else_codes, behind_codes, LevelLaws, Layer, good_at, is_block, is_empty, is_while, is_do, is_return, is_break, is_continue, is_throw, block_coded, block_law, empty_coded, empty_law, while_coded, while_law}
use Rattle.jc_unit_laws.proofs.Jumps.{do_coded, do_law, return_coded, return_law, break_coded, break_law, continue_coded, continue_law, throw_coded, throw_law}
use Rattle.jc_unit_laws.proofs.Switches.{is_switch, switch_coded, switch_law}
use Rattle.jc_unit_laws.proofs.TryStatements.{is_try, try_coded, try_law}
use Rattle.jc_unit_laws.proofs.ForStatements.{is_for, for_coded, for_law}
use Rattle.jc_unit_laws.proofs.IfStatements.{is_if, if_coded, if_law}
use Rattle.jc_unit_laws.proofs.WordStatements.{has_modifiers, is_plain, is_moded_local, is_word, plain_coded, plain_law, local_coded, local_law, word_coded, word_law}

-- kinds of statements together

abbrev pub is_simple : Layer → Bool
is_simple (Stmt-F.Block at items) = true
is_simple (Stmt-F.Empty at) = true
is_simple (Stmt-F.While at test body) = true
is_simple (Stmt-F.Do at body test) = true
is_simple (Stmt-F.For at head body) = true
is_simple (Stmt-F.Switch at selector groups) = true
is_simple (Stmt-F.Return at value) = true
is_simple (Stmt-F.Break at label) = true
is_simple (Stmt-F.Continue at label) = true
is_simple (Stmt-F.Throw at value) = true
is_simple (Stmt-F.Try at resources items clauses) = true
is_simple _ = false

abbrev any_simple : Layer → Bool → Bool
any_simple layer g = ((is_block layer && g) || ((is_empty layer && g) || ((is_while layer && g) || ((is_do layer && g) || ((is_for layer && g) || ((is_switch layer && g) || ((is_return layer && g) || ((is_break layer && g) || ((is_continue layer && g) || ((is_throw layer && g) || (is_try layer && g)))))))))))

pub simple_is : (layer : Layer) (g : Bool) → any_simple layer g ≡ (is_simple layer && g)
simple_is (Stmt-F.Local vars) g = refl
simple_is (Stmt-F.Declared d) g = refl
simple_is (Stmt-F.Block at items) g = or_none g
simple_is (Stmt-F.Empty at) g = or_none g
simple_is (Stmt-F.Effect e) g = refl
simple_is (Stmt-F.Labeled label body) g = refl
simple_is (Stmt-F.While at test body) g = or_none g
simple_is (Stmt-F.Do at body test) g = or_none g
simple_is (Stmt-F.For at head body) g = or_none g
simple_is (Stmt-F.Switch at selector groups) g = or_none g
simple_is (Stmt-F.Return at value) g = or_none g
simple_is (Stmt-F.Break at label) g = or_none g
simple_is (Stmt-F.Continue at label) g = or_none g
simple_is (Stmt-F.Throw at value) g = or_none g
simple_is (Stmt-F.Try at resources items clauses) g = refl
simple_is (Stmt-F.ThisCall at actuals) g = refl
simple_is (Stmt-F.SuperCall at actuals) g = refl
simple_is (Stmt-F.If arms otherwise) g = refl

pub both_kinds : (a b g : Bool) → ((a && g) || (b && g)) ≡ ((a || b) && g)
both_kinds a b g = grind (arith, common_steps)

pub always : (b : Bool) → (b || not b) ≡ true
always true = refl
always false = refl

-- the shape of a statement by its parts
abbrev pub shape_of : Layer → StmtShape
shape_of layer = stmt_shape_step (map-Stmt Member Stmt Clause Declaration Bool StmtShape ClauseShape Bool is_member stmt_shape clause_shape is_declaration layer)

abbrev pub allowed_other : Layer → Bool
allowed_other layer = (is_simple layer || is_plain layer)

roles_other : (layer : Layer) → ((shape_of layer).good && role_behind_else (shape_of layer).role) ≡ (allowed_other layer && (shape_of layer).good)
roles_other (Stmt-F.Local vars) = and_comm (shape_of (Stmt-F.Local vars)).good (allowed_other (Stmt-F.Local vars))
roles_other (Stmt-F.Declared d) = and_comm (shape_of (Stmt-F.Declared d)).good (allowed_other (Stmt-F.Declared d))
roles_other (Stmt-F.Block at items) = and_comm (shape_of (Stmt-F.Block at items)).good (allowed_other (Stmt-F.Block at items))
roles_other (Stmt-F.Empty at) = and_comm (shape_of (Stmt-F.Empty at)).good (allowed_other (Stmt-F.Empty at))
roles_other (Stmt-F.Effect e) = and_comm (shape_of (Stmt-F.Effect e)).good (allowed_other (Stmt-F.Effect e))
roles_other (Stmt-F.Labeled label body) = and_comm (shape_of (Stmt-F.Labeled label body)).good (allowed_other (Stmt-F.Labeled label body))
roles_other (Stmt-F.While at test body) = and_comm (shape_of (Stmt-F.While at test body)).good (allowed_other (Stmt-F.While at test body))
roles_other (Stmt-F.Do at body test) = and_comm (shape_of (Stmt-F.Do at body test)).good (allowed_other (Stmt-F.Do at body test))
roles_other (Stmt-F.For at head body) = and_comm (shape_of (Stmt-F.For at head body)).good (allowed_other (Stmt-F.For at head body))
roles_other (Stmt-F.Switch at selector groups) = and_comm (shape_of (Stmt-F.Switch at selector groups)).good (allowed_other (Stmt-F.Switch at selector groups))
roles_other (Stmt-F.Return at value) = and_comm (shape_of (Stmt-F.Return at value)).good (allowed_other (Stmt-F.Return at value))
roles_other (Stmt-F.Break at label) = and_comm (shape_of (Stmt-F.Break at label)).good (allowed_other (Stmt-F.Break at label))
roles_other (Stmt-F.Continue at label) = and_comm (shape_of (Stmt-F.Continue at label)).good (allowed_other (Stmt-F.Continue at label))
roles_other (Stmt-F.Throw at value) = and_comm (shape_of (Stmt-F.Throw at value)).good (allowed_other (Stmt-F.Throw at value))
roles_other (Stmt-F.Try at resources items clauses) = and_comm (shape_of (Stmt-F.Try at resources items clauses)).good (allowed_other (Stmt-F.Try at resources items clauses))
roles_other (Stmt-F.ThisCall at actuals) = and_comm (shape_of (Stmt-F.ThisCall at actuals)).good (allowed_other (Stmt-F.ThisCall at actuals))
roles_other (Stmt-F.SuperCall at actuals) = and_comm (shape_of (Stmt-F.SuperCall at actuals)).good (allowed_other (Stmt-F.SuperCall at actuals))
roles_other (Stmt-F.If [] []) = refl
roles_other (Stmt-F.If [] (s ∷ [])) = refl
roles_other (Stmt-F.If [] (s ∷ t ∷ items)) = refl
roles_other (Stmt-F.If (c ∷ arms) []) = and_comm (shape_of (Stmt-F.If (c ∷ arms) [])).good (allowed_other (Stmt-F.If (c ∷ arms) []))
roles_other (Stmt-F.If (c ∷ arms) (s ∷ [])) = and_comm (shape_of (Stmt-F.If (c ∷ arms) (s ∷ []))).good (allowed_other (Stmt-F.If (c ∷ arms) (s ∷ [])))
roles_other (Stmt-F.If (c ∷ arms) (s ∷ t ∷ items)) = refl

shaped_other : (s : Stmt) → behind_else (stmt_shape s) ≡ (allowed_other (out-Stmt s) && (stmt_shape s).good)
shaped_other s = ap (λ (g : StmtShape). behind_else g) (stmt_shape-out s) ∙ roles_other (out-Stmt s) ∙ ap (λ (g : StmtShape). allowed_other (out-Stmt s) && g.good) (sym (stmt_shape-out s))

room_other : (h : ℕ) (s : Stmt) → (nat_le (stmt_height s) (suc h) && behind_else (stmt_shape s)) ≡ (allowed_other (out-Stmt s) && good_at h s)
room_other h s = ap (λ b. nat_le (stmt_height s) (suc h) && b) (shaped_other s) ∙ swap (nat_le (stmt_height s) (suc h)) (allowed_other (out-Stmt s)) (stmt_shape s).good
  where
    swap : (n a g : Bool) → (n && (a && g)) ≡ (a && (n && g))
    swap n a g = grind (arith, common_steps)

abbrev pub allowed_body : Layer → Bool
allowed_body layer = (is_if layer || (is_simple layer || is_plain layer))

roles_body : (layer : Layer) → ((shape_of layer).good && role_in_body (shape_of layer).role) ≡ (allowed_body layer && (shape_of layer).good)
roles_body (Stmt-F.Local vars) = and_comm (shape_of (Stmt-F.Local vars)).good (allowed_body (Stmt-F.Local vars))
roles_body (Stmt-F.Declared d) = and_comm (shape_of (Stmt-F.Declared d)).good (allowed_body (Stmt-F.Declared d))
roles_body (Stmt-F.Block at items) = and_comm (shape_of (Stmt-F.Block at items)).good (allowed_body (Stmt-F.Block at items))
roles_body (Stmt-F.Empty at) = and_comm (shape_of (Stmt-F.Empty at)).good (allowed_body (Stmt-F.Empty at))
roles_body (Stmt-F.Effect e) = and_comm (shape_of (Stmt-F.Effect e)).good (allowed_body (Stmt-F.Effect e))
roles_body (Stmt-F.Labeled label body) = and_comm (shape_of (Stmt-F.Labeled label body)).good (allowed_body (Stmt-F.Labeled label body))
roles_body (Stmt-F.While at test body) = and_comm (shape_of (Stmt-F.While at test body)).good (allowed_body (Stmt-F.While at test body))
roles_body (Stmt-F.Do at body test) = and_comm (shape_of (Stmt-F.Do at body test)).good (allowed_body (Stmt-F.Do at body test))
roles_body (Stmt-F.For at head body) = and_comm (shape_of (Stmt-F.For at head body)).good (allowed_body (Stmt-F.For at head body))
roles_body (Stmt-F.Switch at selector groups) = and_comm (shape_of (Stmt-F.Switch at selector groups)).good (allowed_body (Stmt-F.Switch at selector groups))
roles_body (Stmt-F.Return at value) = and_comm (shape_of (Stmt-F.Return at value)).good (allowed_body (Stmt-F.Return at value))
roles_body (Stmt-F.Break at label) = and_comm (shape_of (Stmt-F.Break at label)).good (allowed_body (Stmt-F.Break at label))
roles_body (Stmt-F.Continue at label) = and_comm (shape_of (Stmt-F.Continue at label)).good (allowed_body (Stmt-F.Continue at label))
roles_body (Stmt-F.Throw at value) = and_comm (shape_of (Stmt-F.Throw at value)).good (allowed_body (Stmt-F.Throw at value))
roles_body (Stmt-F.Try at resources items clauses) = and_comm (shape_of (Stmt-F.Try at resources items clauses)).good (allowed_body (Stmt-F.Try at resources items clauses))
roles_body (Stmt-F.ThisCall at actuals) = and_comm (shape_of (Stmt-F.ThisCall at actuals)).good (allowed_body (Stmt-F.ThisCall at actuals))
roles_body (Stmt-F.SuperCall at actuals) = and_comm (shape_of (Stmt-F.SuperCall at actuals)).good (allowed_body (Stmt-F.SuperCall at actuals))
roles_body (Stmt-F.If [] []) = refl
roles_body (Stmt-F.If [] (s ∷ [])) = refl
roles_body (Stmt-F.If [] (s ∷ t ∷ items)) = refl
roles_body (Stmt-F.If (c ∷ arms) []) = and_comm (shape_of (Stmt-F.If (c ∷ arms) [])).good (allowed_body (Stmt-F.If (c ∷ arms) []))
roles_body (Stmt-F.If (c ∷ arms) (s ∷ [])) = and_comm (shape_of (Stmt-F.If (c ∷ arms) (s ∷ []))).good (allowed_body (Stmt-F.If (c ∷ arms) (s ∷ [])))
roles_body (Stmt-F.If (c ∷ arms) (s ∷ t ∷ items)) = refl

shaped_body : (s : Stmt) → in_body (stmt_shape s) ≡ (allowed_body (out-Stmt s) && (stmt_shape s).good)
shaped_body s = ap (λ (g : StmtShape). in_body g) (stmt_shape-out s) ∙ roles_body (out-Stmt s) ∙ ap (λ (g : StmtShape). allowed_body (out-Stmt s) && g.good) (sym (stmt_shape-out s))

room_body : (h : ℕ) (s : Stmt) → (nat_le (stmt_height s) (suc h) && in_body (stmt_shape s)) ≡ (allowed_body (out-Stmt s) && good_at h s)
room_body h s = ap (λ b. nat_le (stmt_height s) (suc h) && b) (shaped_body s) ∙ swap (nat_le (stmt_height s) (suc h)) (allowed_body (out-Stmt s)) (stmt_shape s).good
  where
    swap : (n a g : Bool) → (n && (a && g)) ≡ (a && (n && g))
    swap n a g = grind (arith, common_steps)

abbrev pub allowed_switch : Layer → Bool
allowed_switch layer = (is_if layer || (is_simple layer || (is_moded_local layer || is_word layer)))

roles_switch : (layer : Layer) → ((shape_of layer).good && role_in_switch (shape_of layer).role) ≡ (allowed_switch layer && (shape_of layer).good)
roles_switch (Stmt-F.Local vars) = and_comm (shape_of (Stmt-F.Local vars)).good true ∙ ap (λ b. b && (shape_of (Stmt-F.Local vars)).good) (sym (always (has_modifiers vars.modifiers)))
roles_switch (Stmt-F.Declared d) = and_comm (shape_of (Stmt-F.Declared d)).good (allowed_switch (Stmt-F.Declared d))
roles_switch (Stmt-F.Block at items) = and_comm (shape_of (Stmt-F.Block at items)).good (allowed_switch (Stmt-F.Block at items))
roles_switch (Stmt-F.Empty at) = and_comm (shape_of (Stmt-F.Empty at)).good (allowed_switch (Stmt-F.Empty at))
roles_switch (Stmt-F.Effect e) = and_comm (shape_of (Stmt-F.Effect e)).good (allowed_switch (Stmt-F.Effect e))
roles_switch (Stmt-F.Labeled label body) = and_comm (shape_of (Stmt-F.Labeled label body)).good (allowed_switch (Stmt-F.Labeled label body))
roles_switch (Stmt-F.While at test body) = and_comm (shape_of (Stmt-F.While at test body)).good (allowed_switch (Stmt-F.While at test body))
roles_switch (Stmt-F.Do at body test) = and_comm (shape_of (Stmt-F.Do at body test)).good (allowed_switch (Stmt-F.Do at body test))
roles_switch (Stmt-F.For at head body) = and_comm (shape_of (Stmt-F.For at head body)).good (allowed_switch (Stmt-F.For at head body))
roles_switch (Stmt-F.Switch at selector groups) = and_comm (shape_of (Stmt-F.Switch at selector groups)).good (allowed_switch (Stmt-F.Switch at selector groups))
roles_switch (Stmt-F.Return at value) = and_comm (shape_of (Stmt-F.Return at value)).good (allowed_switch (Stmt-F.Return at value))
roles_switch (Stmt-F.Break at label) = and_comm (shape_of (Stmt-F.Break at label)).good (allowed_switch (Stmt-F.Break at label))
roles_switch (Stmt-F.Continue at label) = and_comm (shape_of (Stmt-F.Continue at label)).good (allowed_switch (Stmt-F.Continue at label))
roles_switch (Stmt-F.Throw at value) = and_comm (shape_of (Stmt-F.Throw at value)).good (allowed_switch (Stmt-F.Throw at value))
roles_switch (Stmt-F.Try at resources items clauses) = and_comm (shape_of (Stmt-F.Try at resources items clauses)).good (allowed_switch (Stmt-F.Try at resources items clauses))
roles_switch (Stmt-F.ThisCall at actuals) = and_comm (shape_of (Stmt-F.ThisCall at actuals)).good (allowed_switch (Stmt-F.ThisCall at actuals))
roles_switch (Stmt-F.SuperCall at actuals) = and_comm (shape_of (Stmt-F.SuperCall at actuals)).good (allowed_switch (Stmt-F.SuperCall at actuals))
roles_switch (Stmt-F.If [] []) = refl
roles_switch (Stmt-F.If [] (s ∷ [])) = refl
roles_switch (Stmt-F.If [] (s ∷ t ∷ items)) = refl
roles_switch (Stmt-F.If (c ∷ arms) []) = and_comm (shape_of (Stmt-F.If (c ∷ arms) [])).good (allowed_switch (Stmt-F.If (c ∷ arms) []))
roles_switch (Stmt-F.If (c ∷ arms) (s ∷ [])) = and_comm (shape_of (Stmt-F.If (c ∷ arms) (s ∷ []))).good (allowed_switch (Stmt-F.If (c ∷ arms) (s ∷ [])))
roles_switch (Stmt-F.If (c ∷ arms) (s ∷ t ∷ items)) = refl

shaped_switch : (s : Stmt) → in_switch (stmt_shape s) ≡ (allowed_switch (out-Stmt s) && (stmt_shape s).good)
shaped_switch s = ap (λ (g : StmtShape). in_switch g) (stmt_shape-out s) ∙ roles_switch (out-Stmt s) ∙ ap (λ (g : StmtShape). allowed_switch (out-Stmt s) && g.good) (sym (stmt_shape-out s))

room_switch : (h : ℕ) (s : Stmt) → (nat_le (stmt_height s) (suc h) && in_switch (stmt_shape s)) ≡ (allowed_switch (out-Stmt s) && good_at h s)
room_switch h s = ap (λ b. nat_le (stmt_height s) (suc h) && b) (shaped_switch s) ∙ swap (nat_le (stmt_height s) (suc h)) (allowed_switch (out-Stmt s)) (stmt_shape s).good
  where
    swap : (n a g : Bool) → (n && (a && g)) ≡ (a && (n && g))
    swap n a g = grind (arith, common_steps)

-- the forms

module _ (x : Exprs) (lx : ExprLaws x) (h : ℕ) (l : Level) where
  abbrev From9 : Coded Stmt
  From9 = merged (key_code key_of.Throw ∷ []) (throw_coded x lx h l) (try_coded x lx h l)

  abbrev From8 : Coded Stmt
  From8 = merged (key_code key_of.Continue ∷ []) (continue_coded x h l) From9

  abbrev From7 : Coded Stmt
  From7 = merged (key_code key_of.Break ∷ []) (break_coded x h l) From8

  abbrev From6 : Coded Stmt
  From6 = merged (key_code key_of.Return ∷ []) (return_coded x h l) From7

  abbrev From5 : Coded Stmt
  From5 = merged (key_code key_of.Switch ∷ []) (switch_coded x lx h l) From6

  abbrev From4 : Coded Stmt
  From4 = merged (key_code key_of.For ∷ []) (for_coded x lx h l) From5

  abbrev From3 : Coded Stmt
  From3 = merged (key_code key_of.Do ∷ []) (do_coded x lx h l) From4

  abbrev From2 : Coded Stmt
  From2 = merged (key_code key_of.While ∷ []) (while_coded x lx h l) From3

  abbrev From1 : Coded Stmt
  From1 = merged (sign_code sign_of.Semicolon ∷ []) (empty_coded x h l) From2

  abbrev pub From0 : Coded Stmt
  From0 = merged (sign_code sign_of.LeftBrace ∷ []) (block_coded x h l) From1

  from9_law : LevelLaws h l → Law Stmt From9
  from9_law f = merged_law Stmt (key_code key_of.Throw ∷ []) (throw_coded x lx h l) (try_coded x lx h l) (throw_law x lx h l) (try_law x lx h l f) (record { solid = refl; solid' = refl; this = refl; that = refl }) (λ s r. refl)

  from8_law : LevelLaws h l → Law Stmt From8
  from8_law f = merged_law Stmt (key_code key_of.Continue ∷ []) (continue_coded x h l) From9 (continue_law x h l) (from9_law f) (record { solid = refl; solid' = refl; this = refl; that = refl }) (λ s r. refl)

  from7_law : LevelLaws h l → Law Stmt From7
  from7_law f = merged_law Stmt (key_code key_of.Break ∷ []) (break_coded x h l) From8 (break_law x h l) (from8_law f) (record { solid = refl; solid' = refl; this = refl; that = refl }) (λ s r. refl)

  from6_law : LevelLaws h l → Law Stmt From6
  from6_law f = merged_law Stmt (key_code key_of.Return ∷ []) (return_coded x h l) From7 (return_law x h lx l) (from7_law f) (record { solid = refl; solid' = refl; this = refl; that = refl }) (λ s r. refl)

  from5_law : LevelLaws h l → Law Stmt From5
  from5_law f = merged_law Stmt (key_code key_of.Switch ∷ []) (switch_coded x lx h l) From6 (switch_law x lx h l f) (from6_law f) (record { solid = refl; solid' = refl; this = refl; that = refl }) (λ s r. refl)

  from4_law : LevelLaws h l → Law Stmt From4
  from4_law f = merged_law Stmt (key_code key_of.For ∷ []) (for_coded x lx h l) From5 (for_law x lx h l f) (from5_law f) (record { solid = refl; solid' = refl; this = refl; that = refl }) (λ s r. refl)

  from3_law : LevelLaws h l → Law Stmt From3
  from3_law f = merged_law Stmt (key_code key_of.Do ∷ []) (do_coded x lx h l) From4 (do_law x lx h l f) (from4_law f) (record { solid = refl; solid' = refl; this = refl; that = refl }) (λ s r. refl)

  from2_law : LevelLaws h l → Law Stmt From2
  from2_law f = merged_law Stmt (key_code key_of.While ∷ []) (while_coded x lx h l) From3 (while_law x lx h l f) (from3_law f) (record { solid = refl; solid' = refl; this = refl; that = refl }) (λ s r. refl)

  from1_law : LevelLaws h l → Law Stmt From1
  from1_law f = merged_law Stmt (sign_code sign_of.Semicolon ∷ []) (empty_coded x h l) From2 (empty_law x h l) (from2_law f) (record { solid = refl; solid' = refl; this = refl; that = refl }) (λ s r. refl)

  pub from0_law : LevelLaws h l → Law Stmt From0
  from0_law f = merged_law Stmt (sign_code sign_of.LeftBrace ∷ []) (block_coded x h l) From1 (block_law x h l f) (from1_law f) (record { solid = refl; solid' = refl; this = refl; that = refl }) (λ s r. refl)

  abbrev Others : Coded Stmt
  Others = merged statement_codes From0 (plain_coded x lx h l)

  others_law : LevelLaws h l → Law Stmt Others
  others_law f = merged_law Stmt statement_codes From0 (plain_coded x lx h l) (from0_law f) (plain_law x lx h l f) (record { solid = refl; solid' = refl; this = refl; that = refl }) (λ s r. refl)

  abbrev Bodies : Coded Stmt
  Bodies = merged if_codes (if_coded x lx h l) Others

  bodies_law : LevelLaws h l → Law Stmt Bodies
  bodies_law f = merged_law Stmt if_codes (if_coded x lx h l) Others (if_law x lx h l f) (others_law f) (record { solid = refl; solid' = refl; this = refl; that = refl }) (λ s r. refl)

  abbrev pub Worded : Coded Stmt
  Worded = merged modifier_codes (local_coded x lx h) (word_coded x lx h l)

  abbrev CaseItems : Coded Stmt
  CaseItems = merged if_codes (if_coded x lx h l) (merged statement_codes From0 Worded)

  worded_law : LevelLaws h l → Law Stmt Worded
  worded_law f = merged_law Stmt modifier_codes (local_coded x lx h) (word_coded x lx h l) (local_law x lx h) (word_law x lx h l f) (record { solid = refl; solid' = refl; this = refl; that = refl }) (λ s r. refl)

  case_items_law : LevelLaws h l → Law Stmt CaseItems
  case_items_law f =
      merged_law Stmt if_codes (if_coded x lx h l) (merged statement_codes From0 Worded) (if_law x lx h l f)
      (merged_law Stmt statement_codes From0 Worded (from0_law f) (worded_law f) (record { solid = refl; solid' = refl; this = refl; that = refl }) (λ s r. refl))
      (record { solid = refl; solid' = refl; this = refl; that = refl }) (λ s r. refl)

  -- what they have

  fits_others : (s : Stmt) → Others.fits s ≡ (nat_le (stmt_height s) (suc h) && behind_else (stmt_shape s))
  fits_others s = ap (λ b. b || (is_plain (out-Stmt s) && good_at h s)) (simple_is (out-Stmt s) (good_at h s)) ∙ both_kinds (is_simple (out-Stmt s)) (is_plain (out-Stmt s)) (good_at h s) ∙ sym (room_other h s)

  fits_bodies : (s : Stmt) → Bodies.fits s ≡ (nat_le (stmt_height s) (suc h) && in_body (stmt_shape s))
  fits_bodies s =
      ap (λ b. (is_if (out-Stmt s) && good_at h s) || b) (ap (λ b. b || (is_plain (out-Stmt s) && good_at h s)) (simple_is (out-Stmt s) (good_at h s)) ∙ both_kinds (is_simple (out-Stmt s)) (is_plain (out-Stmt s)) (good_at h s))
      ∙ both_kinds (is_if (out-Stmt s)) (is_simple (out-Stmt s) || is_plain (out-Stmt s)) (good_at h s) ∙ sym (room_body h s)

  fits_case_items : (s : Stmt) → CaseItems.fits s ≡ (nat_le (stmt_height s) (suc h) && in_switch (stmt_shape s))
  fits_case_items s =
      ap (λ b. (is_if (out-Stmt s) && good_at h s) || b)
      (ap (λ b. b || ((is_moded_local (out-Stmt s) && good_at h s) || (is_word (out-Stmt s) && good_at h s))) (simple_is (out-Stmt s) (good_at h s))
      ∙ ap (λ b. (is_simple (out-Stmt s) && good_at h s) || b) (both_kinds (is_moded_local (out-Stmt s)) (is_word (out-Stmt s)) (good_at h s))
      ∙ both_kinds (is_simple (out-Stmt s)) (is_moded_local (out-Stmt s) || is_word (out-Stmt s)) (good_at h s))
      ∙ both_kinds (is_if (out-Stmt s)) (is_simple (out-Stmt s) || (is_moded_local (out-Stmt s) || is_word (out-Stmt s))) (good_at h s) ∙ sym (room_switch h s)

-- with these values, and larger sets
pub refitted : (c : Coded Stmt) (fits : Stmt → Bool) (starts goes : List ℕ) → ((s : Stmt) → c.fits s ≡ fits s) → Lawful Stmt (formed c) → all_in c.starts starts ≡ true → all_in c.goes goes ≡ true → Lawful Stmt (formed (record { tell = c.tell; fits = fits; run = c.run; starts = starts; goes = goes; empties = c.empties }))
refitted c fits starts goes e la s g = subst (λ (f : Stmt → Bool). Lawful Stmt (formed (record { tell = c.tell; fits = f; run = c.run; starts = starts; goes = goes; empties = c.empties }))) (fun_ext e) (widened_laws Stmt c starts goes la s g)

empty_body : (h : ℕ) → (nat_le (stmt_height (stmt_of.Empty 0)) (suc h) && in_body (stmt_shape (stmt_of.Empty 0))) ≡ true
empty_body h = ap (λ n. nat_le n (suc h) && in_body (stmt_shape (stmt_of.Empty 0))) (stmt_height-Empty 0) ∙ ap (λ (g : StmtShape). nat_le 1 (suc h) && in_body g) (stmt_shape-Empty 0) ∙ ap (λ b. b && true) (room_suc 0 h ∙ room_above h)

empty_other : (h : ℕ) → (nat_le (stmt_height (stmt_of.Empty 0)) (suc h) && behind_else (stmt_shape (stmt_of.Empty 0))) ≡ true
empty_other h = ap (λ n. nat_le n (suc h) && behind_else (stmt_shape (stmt_of.Empty 0))) (stmt_height-Empty 0) ∙ ap (λ (g : StmtShape). nat_le 1 (suc h) && behind_else g) (stmt_shape-Empty 0) ∙ ap (λ b. b && true) (room_suc 0 h ∙ room_above h)

empty_switch : (h : ℕ) → (nat_le (stmt_height (stmt_of.Empty 0)) (suc h) && in_switch (stmt_shape (stmt_of.Empty 0))) ≡ true
empty_switch h = ap (λ n. nat_le n (suc h) && in_switch (stmt_shape (stmt_of.Empty 0))) (stmt_height-Empty 0) ∙ ap (λ (g : StmtShape). nat_le 1 (suc h) && in_switch g) (stmt_shape-Empty 0) ∙ ap (λ b. b && true) (room_suc 0 h ∙ room_above h)

module _ (x : Exprs) (lx : ExprLaws x) (h : ℕ) (l : Level) (f : LevelLaws h l) where
  pub other_laws : Lawful Stmt (formed (record { tell = stmt_tokens; fits = λ s. nat_le (stmt_height s) (suc h) && behind_else (stmt_shape s); run = other_run x h l; starts = statement_codes ++ expr_codes; goes = behind_codes; empties = false }))
  unfolding other_run
  other_laws = refitted (Others x lx h l) (λ s. nat_le (stmt_height s) (suc h) && behind_else (stmt_shape s)) (statement_codes ++ expr_codes) behind_codes (fits_others x lx h l)
      (lawful_by (Others x lx h l) (stmt_of.Empty 0) (fits_others x lx h l (stmt_of.Empty 0) ∙ empty_other h) (others_law x lx h l f)) refl refl

  pub body_laws : Lawful Stmt (formed (record { tell = stmt_tokens; fits = λ s. nat_le (stmt_height s) (suc h) && in_body (stmt_shape s); run = body_run x h l; starts = stmt_codes; goes = behind_codes; empties = false }))
  unfolding body_run
  body_laws = refitted (Bodies x lx h l) (λ s. nat_le (stmt_height s) (suc h) && in_body (stmt_shape s)) stmt_codes behind_codes (fits_bodies x lx h l)
      (lawful_by (Bodies x lx h l) (stmt_of.Empty 0) (fits_bodies x lx h l (stmt_of.Empty 0) ∙ empty_body h) (bodies_law x lx h l f)) refl refl

  pub case_item_laws : Lawful Stmt (formed (record { tell = stmt_tokens; fits = λ s. nat_le (stmt_height s) (suc h) && in_switch (stmt_shape s); run = case_item_run x h l; starts = modifier_codes ++ stmt_codes; goes = behind_codes; empties = false }))
  unfolding case_item_run
  case_item_laws = refitted (CaseItems x lx h l) (λ s. nat_le (stmt_height s) (suc h) && in_switch (stmt_shape s)) (modifier_codes ++ stmt_codes) behind_codes (fits_case_items x lx h l)
      (lawful_by (CaseItems x lx h l) (stmt_of.Empty 0) (fits_case_items x lx h l (stmt_of.Empty 0) ∙ empty_switch h) (case_items_law x lx h l f)) refl refl

-- which statements are found before an `else`

found_settled : (c : Coded Stmt) → Law Stmt c → none_common else_codes c.goes ≡ true → (ts : List Token) (s : Stmt) (r : List Token) → Stands (formed c) ts s r → one_of else_codes r ≡ true → IsFound s r (c.run ts)
found_settled c l n ts s r t z = ⊎_elim (λ (la : Lawful Stmt (formed c)). la.exact ts s r t (apart_sets else_codes c.goes n (front_code r) z)) (λ v. absurd (false≢true (sym (v.never s) ∙ t.1))) l

pub begun_there : (c : Coded Stmt) → Law Stmt c → c.empties ≡ false → (ts : List Token) (s : Stmt) (r : List Token) → Stands (formed c) ts s r → one_of c.starts ts ≡ true
begun_there c l e ts s r t = ⊎_elim (λ (la : Lawful Stmt (formed c)). ⊎_elim (λ o. o.0) (λ o. absurd (false≢true (sym e ∙ o.1))) (la.opens ts s r t)) (λ v. absurd (false≢true (sym (v.never s) ∙ t.1))) l

found_merged : (codes : List ℕ) (ca cb : Coded Stmt) → Law Stmt ca → Law Stmt cb → Apart Stmt Stmt codes ca cb → ((s : Stmt) (r : List Told) → ca.tell s r ≡ cb.tell s r) → (ts : List Token) (s : Stmt) (r : List Token) → Stands (formed (merged codes ca cb)) ts s r
    → (Stands (formed ca) ts s r → IsFound s r (ca.run ts)) → (Stands (formed cb) ts s r → IsFound s r (cb.run ts)) → IsFound s r ((merged codes ca cb).run ts)
found_merged codes ca cb l m d same ts s r t f g =
    ⊎_elim
    (λ a. let u : Stands (formed ca) ts s r = (t.0, a) in
    let q : one_of codes ts ≡ true = within_sets ca.starts codes d.this (front_code ts) (begun_there ca l d.solid ts s r u) in
    found_becoming either_one (This s) r _ (subst (λ (v : Read (Either Stmt Stmt)). IsFound (This s) r v) (sym (cond-true (one_of codes ts) (becoming This (ca.run ts)) (becoming That (cb.run ts)) q)) (found_becoming This s r (ca.run ts) (f u))))
    (λ b. let u : Stands (formed cb) ts s r = (subst (λ (l : List Told). Takes false l ts r) (same s []) t.0, b) in
    let q : one_of codes ts ≡ false = apart_sets cb.starts codes d.that (front_code ts) (begun_there cb m d.solid' ts s r u) in
    found_becoming either_one (That s) r _ (subst (λ (v : Read (Either Stmt Stmt)). IsFound (That s) r v) (sym (cond-false (one_of codes ts) (becoming This (ca.run ts)) (becoming That (cb.run ts)) q)) (found_becoming That s r (cb.run ts) (g u))))
    (or_cases (ca.fits s) (cb.fits s) t.1)

-- where those statements are found that end with a body
pub record Settles (x : Exprs) (lx : ExprLaws x) (h : ℕ) (l : Level) (ts : List Token) (s : Stmt) (r : List Token) : Type 0 where
  pub while_it : Stands (formed (while_coded x lx h l)) ts s r → IsFound s r ((while_coded x lx h l).run ts)
  pub for_it : Stands (formed (for_coded x lx h l)) ts s r → IsFound s r ((for_coded x lx h l).run ts)
  pub plain_it : Stands (formed (plain_coded x lx h l)) ts s r → IsFound s r ((plain_coded x lx h l).run ts)
  pub if_it : Stands (formed (if_coded x lx h l)) ts s r → IsFound s r ((if_coded x lx h l).run ts)

module _ (x : Exprs) (lx : ExprLaws x) (h : ℕ) (l : Level) (f : LevelLaws h l) (ts : List Token) (s : Stmt) (r : List Token) (settles : Settles x lx h l ts s r) (z : one_of else_codes r ≡ true) where
  found_from9 : Stands (formed (From9 x lx h l)) ts s r → IsFound s r ((From9 x lx h l).run ts)
  found_from9 t = found_merged (key_code key_of.Throw ∷ []) (throw_coded x lx h l) (try_coded x lx h l) (throw_law x lx h l) (try_law x lx h l f) (record { solid = refl; solid' = refl; this = refl; that = refl }) (λ s r. refl) ts s r t (λ u. found_settled (throw_coded x lx h l) (throw_law x lx h l) refl ts s r u z) (λ u. found_settled (try_coded x lx h l) (try_law x lx h l f) refl ts s r u z)

  found_from8 : Stands (formed (From8 x lx h l)) ts s r → IsFound s r ((From8 x lx h l).run ts)
  found_from8 t = found_merged (key_code key_of.Continue ∷ []) (continue_coded x h l) (From9 x lx h l) (continue_law x h l) (from9_law x lx h l f) (record { solid = refl; solid' = refl; this = refl; that = refl }) (λ s r. refl) ts s r t (λ u. found_settled (continue_coded x h l) (continue_law x h l) refl ts s r u z) found_from9

  found_from7 : Stands (formed (From7 x lx h l)) ts s r → IsFound s r ((From7 x lx h l).run ts)
  found_from7 t = found_merged (key_code key_of.Break ∷ []) (break_coded x h l) (From8 x lx h l) (break_law x h l) (from8_law x lx h l f) (record { solid = refl; solid' = refl; this = refl; that = refl }) (λ s r. refl) ts s r t (λ u. found_settled (break_coded x h l) (break_law x h l) refl ts s r u z) found_from8

  found_from6 : Stands (formed (From6 x lx h l)) ts s r → IsFound s r ((From6 x lx h l).run ts)
  found_from6 t = found_merged (key_code key_of.Return ∷ []) (return_coded x h l) (From7 x lx h l) (return_law x h lx l) (from7_law x lx h l f) (record { solid = refl; solid' = refl; this = refl; that = refl }) (λ s r. refl) ts s r t (λ u. found_settled (return_coded x h l) (return_law x h lx l) refl ts s r u z) found_from7

  found_from5 : Stands (formed (From5 x lx h l)) ts s r → IsFound s r ((From5 x lx h l).run ts)
  found_from5 t = found_merged (key_code key_of.Switch ∷ []) (switch_coded x lx h l) (From6 x lx h l) (switch_law x lx h l f) (from6_law x lx h l f) (record { solid = refl; solid' = refl; this = refl; that = refl }) (λ s r. refl) ts s r t (λ u. found_settled (switch_coded x lx h l) (switch_law x lx h l f) refl ts s r u z) found_from6

  found_from4 : Stands (formed (From4 x lx h l)) ts s r → IsFound s r ((From4 x lx h l).run ts)
  found_from4 t = found_merged (key_code key_of.For ∷ []) (for_coded x lx h l) (From5 x lx h l) (for_law x lx h l f) (from5_law x lx h l f) (record { solid = refl; solid' = refl; this = refl; that = refl }) (λ s r. refl) ts s r t settles.for_it found_from5

  found_from3 : Stands (formed (From3 x lx h l)) ts s r → IsFound s r ((From3 x lx h l).run ts)
  found_from3 t = found_merged (key_code key_of.Do ∷ []) (do_coded x lx h l) (From4 x lx h l) (do_law x lx h l f) (from4_law x lx h l f) (record { solid = refl; solid' = refl; this = refl; that = refl }) (λ s r. refl) ts s r t (λ u. found_settled (do_coded x lx h l) (do_law x lx h l f) refl ts s r u z) found_from4

  found_from2 : Stands (formed (From2 x lx h l)) ts s r → IsFound s r ((From2 x lx h l).run ts)
  found_from2 t = found_merged (key_code key_of.While ∷ []) (while_coded x lx h l) (From3 x lx h l) (while_law x lx h l f) (from3_law x lx h l f) (record { solid = refl; solid' = refl; this = refl; that = refl }) (λ s r. refl) ts s r t settles.while_it found_from3

  found_from1 : Stands (formed (From1 x lx h l)) ts s r → IsFound s r ((From1 x lx h l).run ts)
  found_from1 t = found_merged (sign_code sign_of.Semicolon ∷ []) (empty_coded x h l) (From2 x lx h l) (empty_law x h l) (from2_law x lx h l f) (record { solid = refl; solid' = refl; this = refl; that = refl }) (λ s r. refl) ts s r t (λ u. found_settled (empty_coded x h l) (empty_law x h l) refl ts s r u z) found_from2

  found_from0 : Stands (formed (From0 x lx h l)) ts s r → IsFound s r ((From0 x lx h l).run ts)
  found_from0 t = found_merged (sign_code sign_of.LeftBrace ∷ []) (block_coded x h l) (From1 x lx h l) (block_law x h l f) (from1_law x lx h l f) (record { solid = refl; solid' = refl; this = refl; that = refl }) (λ s r. refl) ts s r t (λ u. found_settled (block_coded x h l) (block_law x h l f) refl ts s r u z) found_from1

  found_others : Stands (formed (Others x lx h l)) ts s r → IsFound s r ((Others x lx h l).run ts)
  found_others t =
      found_merged statement_codes (From0 x lx h l) (plain_coded x lx h l) (from0_law x lx h l f) (plain_law x lx h l f) (record { solid = refl; solid' = refl; this = refl; that = refl }) (λ s r. refl) ts s r t
      found_from0 settles.plain_it

  found_bodies : Stands (formed (Bodies x lx h l)) ts s r → IsFound s r ((Bodies x lx h l).run ts)
  found_bodies t =
      found_merged if_codes (if_coded x lx h l) (Others x lx h l) (if_law x lx h l f) (others_law x lx h l f) (record { solid = refl; solid' = refl; this = refl; that = refl }) (λ s r. refl) ts s r t
      settles.if_it found_others

  pub closed_other : Takes false (stmt_tokens s []) ts r → (nat_le (stmt_height s) (suc h) && behind_else (stmt_shape s)) ≡ true → IsFound s r (other_run x h l ts)
  unfolding other_run
  closed_other t g = found_others (t, fits_others x lx h l s ∙ g)

  pub closed_body : Takes false (stmt_tokens s []) ts r → (nat_le (stmt_height s) (suc h) && in_body (stmt_shape s)) ≡ true → IsFound s r (body_run x h l ts)
  unfolding body_run
  closed_body t g = found_bodies (t, fits_bodies x lx h l s ∙ g)
