-- Statements of a block.
use Rattle.std.proofs.Common.{◌≡◌, ℕ, suc, Bool, true, false, List, [], ◌∷◌, refl, sym, ap, ◌∙◌, inl, arith}
use Rattle.std.proofs.Math.Bool.{and_comm}
use Rattle.std.proofs.lemmas.Grind.{common_steps}
use Rattle.std.specs.Prelude.{◌&&◌, ◌||◌, nat_le}
use Rattle.jc_lexer.specs.declared.token.Key.TheVariants as key_of
use Rattle.jc_tree.specs.declared.statement.Stmt.{Stmt, Stmt-F, out-Stmt}
use Rattle.jc_tree.specs.declared.statement.Stmt.TheVariants as stmt_of
use Rattle.jc_tree.specs.Heights.{stmt_height}
use Rattle.jc_tree.proofs.HeightsOfStatements.{stmt_height-Empty}
use Rattle.jc_grammar.specs.Statements.{stmt_tokens}
use Rattle.jc_grammar.specs.Units.{StmtShape, in_block, role_in_block, stmt_shape}
use Rattle.jc_grammar.proofs.ShapesOfStatements.{stmt_shape-out, stmt_shape-Empty}
use Rattle.jc_reading.specs.Kinds.{key_code}
use Rattle.jc_reading.proofs.Coded.{Coded, formed}
use Rattle.jc_reading.proofs.Forms.{Lawful}
use Rattle.jc_reading.proofs.Lowest.{Law, merged, merged_law}
use Rattle.jc_reading.proofs.Rooms.{room_above, room_suc}
use Rattle.jc_part_laws.specs.PartReading.{Exprs}
use Rattle.jc_part_laws.proofs.ExprForms.{ExprLaws}
use Rattle.jc_part_laws.proofs.ModifierForms.{modifier_codes}
use Rattle.jc_unit_laws.specs.UnitReading.{Level, DeclarationRest, if_codes, statement_codes}
use Rattle.jc_unit_laws.specs.MemberReading.{item_run}
use Rattle.jc_unit_laws.proofs.Bundles.{lawful_by}
use Rattle.jc_unit_laws.proofs.Contexts.{From0, from0_law, is_simple, shape_of, simple_is, both_kinds, always, refitted}
use Rattle.jc_unit_laws.proofs.IfStatements.{is_if, if_coded, if_law}
use Rattle.jc_unit_laws.proofs.ItemRests.{Rest, is_moded_item, moded_item_coded, moded_item_laws}
use Rattle.jc_unit_laws.proofs.SimpleStatements.{Layer, LevelLaws, behind_codes, good_at, item_codes}
use Rattle.jc_unit_laws.proofs.WordStatements.{has_modifiers, is_word, word_coded, word_law}

abbrev pub allowed_block : Layer → Bool
allowed_block layer = (is_if layer || (is_simple layer || (is_moded_item layer || is_word layer)))

roles_block : (layer : Layer) → ((shape_of layer).good && role_in_block (shape_of layer).role) ≡ (allowed_block layer && (shape_of layer).good)
roles_block (Stmt-F.Local vars) = and_comm (shape_of (Stmt-F.Local vars)).good true ∙ ap (λ b. b && (shape_of (Stmt-F.Local vars)).good) (sym (always (has_modifiers vars.modifiers)))
roles_block (Stmt-F.Declared d) = and_comm (shape_of (Stmt-F.Declared d)).good (allowed_block (Stmt-F.Declared d))
roles_block (Stmt-F.Block at items) = and_comm (shape_of (Stmt-F.Block at items)).good (allowed_block (Stmt-F.Block at items))
roles_block (Stmt-F.Empty at) = and_comm (shape_of (Stmt-F.Empty at)).good (allowed_block (Stmt-F.Empty at))
roles_block (Stmt-F.Effect e) = and_comm (shape_of (Stmt-F.Effect e)).good (allowed_block (Stmt-F.Effect e))
roles_block (Stmt-F.Labeled label body) = and_comm (shape_of (Stmt-F.Labeled label body)).good (allowed_block (Stmt-F.Labeled label body))
roles_block (Stmt-F.While at test body) = and_comm (shape_of (Stmt-F.While at test body)).good (allowed_block (Stmt-F.While at test body))
roles_block (Stmt-F.Do at body test) = and_comm (shape_of (Stmt-F.Do at body test)).good (allowed_block (Stmt-F.Do at body test))
roles_block (Stmt-F.For at head body) = and_comm (shape_of (Stmt-F.For at head body)).good (allowed_block (Stmt-F.For at head body))
roles_block (Stmt-F.Switch at selector groups) = and_comm (shape_of (Stmt-F.Switch at selector groups)).good (allowed_block (Stmt-F.Switch at selector groups))
roles_block (Stmt-F.Return at value) = and_comm (shape_of (Stmt-F.Return at value)).good (allowed_block (Stmt-F.Return at value))
roles_block (Stmt-F.Break at label) = and_comm (shape_of (Stmt-F.Break at label)).good (allowed_block (Stmt-F.Break at label))
roles_block (Stmt-F.Continue at label) = and_comm (shape_of (Stmt-F.Continue at label)).good (allowed_block (Stmt-F.Continue at label))
roles_block (Stmt-F.Throw at value) = and_comm (shape_of (Stmt-F.Throw at value)).good (allowed_block (Stmt-F.Throw at value))
roles_block (Stmt-F.Try at resources items clauses) = and_comm (shape_of (Stmt-F.Try at resources items clauses)).good (allowed_block (Stmt-F.Try at resources items clauses))
roles_block (Stmt-F.ThisCall at actuals) = and_comm (shape_of (Stmt-F.ThisCall at actuals)).good (allowed_block (Stmt-F.ThisCall at actuals))
roles_block (Stmt-F.SuperCall at actuals) = and_comm (shape_of (Stmt-F.SuperCall at actuals)).good (allowed_block (Stmt-F.SuperCall at actuals))
roles_block (Stmt-F.If [] []) = refl
roles_block (Stmt-F.If [] (s ∷ [])) = refl
roles_block (Stmt-F.If [] (s ∷ t ∷ items)) = refl
roles_block (Stmt-F.If (c ∷ arms) []) = and_comm (shape_of (Stmt-F.If (c ∷ arms) [])).good (allowed_block (Stmt-F.If (c ∷ arms) []))
roles_block (Stmt-F.If (c ∷ arms) (s ∷ [])) = and_comm (shape_of (Stmt-F.If (c ∷ arms) (s ∷ []))).good (allowed_block (Stmt-F.If (c ∷ arms) (s ∷ [])))
roles_block (Stmt-F.If (c ∷ arms) (s ∷ t ∷ items)) = refl

pub room_block : (h : ℕ) (s : Stmt) → (nat_le (stmt_height s) (suc h) && in_block (stmt_shape s)) ≡ (allowed_block (out-Stmt s) && good_at h s)
room_block h s =
    ap (λ b. nat_le (stmt_height s) (suc h) && b)
    (ap (λ (g : StmtShape). in_block g) (stmt_shape-out s) ∙ roles_block (out-Stmt s) ∙ ap (λ (g : StmtShape). allowed_block (out-Stmt s) && g.good) (sym (stmt_shape-out s)))
    ∙ swap (nat_le (stmt_height s) (suc h)) (allowed_block (out-Stmt s)) (stmt_shape s).good
  where
    swap : (n a g : Bool) → (n && (a && g)) ≡ (a && (n && g))
    swap n a g = grind (arith, common_steps)

module _ (x : Exprs) (lx : ExprLaws x) (h : ℕ) (l : Level) where
  abbrev pub moded_codes : List ℕ
  moded_codes = key_code key_of.Class ∷ key_code key_of.Interface ∷ modifier_codes

  abbrev pub Worded : Coded Stmt
  Worded = merged moded_codes (moded_item_coded x h l) (word_coded x lx h l)

  abbrev pub Simple_or : Coded Stmt
  Simple_or = merged statement_codes (From0 x lx h l) Worded

  abbrev pub BlockItems : Coded Stmt
  BlockItems = merged if_codes (if_coded x lx h l) Simple_or

  items_law : LevelLaws h l → Lawful DeclarationRest (Rest x h l) → Law Stmt BlockItems
  items_law f lr =
      merged_law Stmt if_codes (if_coded x lx h l) Simple_or (if_law x lx h l f)
      (merged_law Stmt statement_codes (From0 x lx h l) Worded (from0_law x lx h l f)
      (merged_law Stmt moded_codes (moded_item_coded x h l) (word_coded x lx h l) (inl (moded_item_laws x h l lx lr)) (word_law x lx h l f) (record { solid = refl; solid' = refl; this = refl; that = refl }) (λ s r. refl))
      (record { solid = refl; solid' = refl; this = refl; that = refl }) (λ s r. refl))
      (record { solid = refl; solid' = refl; this = refl; that = refl }) (λ s r. refl)

  pub fits_items : (s : Stmt) → BlockItems.fits s ≡ (nat_le (stmt_height s) (suc h) && in_block (stmt_shape s))
  fits_items s =
      ap (λ b. (is_if (out-Stmt s) && good_at h s) || b)
      (ap (λ b. b || ((is_moded_item (out-Stmt s) && good_at h s) || (is_word (out-Stmt s) && good_at h s))) (simple_is (out-Stmt s) (good_at h s))
      ∙ ap (λ b. (is_simple (out-Stmt s) && good_at h s) || b) (both_kinds (is_moded_item (out-Stmt s)) (is_word (out-Stmt s)) (good_at h s))
      ∙ both_kinds (is_simple (out-Stmt s)) (is_moded_item (out-Stmt s) || is_word (out-Stmt s)) (good_at h s))
      ∙ both_kinds (is_if (out-Stmt s)) (is_simple (out-Stmt s) || (is_moded_item (out-Stmt s) || is_word (out-Stmt s))) (good_at h s) ∙ sym (room_block h s)

  abbrev pub item_form : Coded Stmt
  item_form = record { tell = stmt_tokens; fits = λ s. nat_le (stmt_height s) (suc h) && in_block (stmt_shape s); run = item_run x h l; starts = item_codes; goes = behind_codes; empties = false }

empty_block : (h : ℕ) → (nat_le (stmt_height (stmt_of.Empty 0)) (suc h) && in_block (stmt_shape (stmt_of.Empty 0))) ≡ true
empty_block h = ap (λ n. nat_le n (suc h) && in_block (stmt_shape (stmt_of.Empty 0))) (stmt_height-Empty 0) ∙ ap (λ (g : StmtShape). nat_le 1 (suc h) && in_block g) (stmt_shape-Empty 0) ∙ ap (λ b. b && true) (room_suc 0 h ∙ room_above h)

module _ (x : Exprs) (lx : ExprLaws x) (h : ℕ) (l : Level) (f : LevelLaws h l) (lr : Lawful DeclarationRest (Rest x h l)) where
  pub item_laws : Lawful Stmt (formed (item_form x lx h l))
  unfolding item_run
  item_laws = refitted (BlockItems x lx h l) (λ s. nat_le (stmt_height s) (suc h) && in_block (stmt_shape s)) item_codes behind_codes (fits_items x lx h l)
      (lawful_by (BlockItems x lx h l) (stmt_of.Empty 0) (fits_items x lx h l (stmt_of.Empty 0) ∙ empty_block h) (items_law x lx h l f lr)) refl refl
