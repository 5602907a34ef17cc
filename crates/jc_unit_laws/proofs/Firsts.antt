-- What stands first in a constructor: a call of another one, or any statement of a block.
use Rattle.std.proofs.Common.{◌≡◌, ℕ, suc, ◌≤◌, Bool, true, false, List, [], ◌∷◌, map, length, Option, Some, None, refl, sym, ap, ◌∙◌, subst, ⊎_elim, inl, arith}
use Rattle.std.proofs.Math.Bool.{and-true}
use Rattle.std.proofs.Math.Path.{fun_ext}
use Rattle.std.proofs.lemmas.Bool.{false≢true, false_from_ne_true, and_from, and_left, and_parts, or_cases, or_left, eqb-true, eq-eqb}
use Rattle.std.proofs.lemmas.Grind.{common_steps}
use Rattle.std.specs.Prelude.{not, ◌&&◌, ◌||◌, ◌==◌, nat_le}
use Rattle.std.specs.List.{list_all}
use Rattle.jc_lexer.specs.declared.token.Key.{Key}
use Rattle.jc_lexer.specs.declared.token.Key.TheVariants as key_of
use Rattle.jc_lexer.specs.declared.token.Sign.TheVariants as sign_of
use Rattle.jc_lexer.specs.declared.token.Token.{Token}
use Rattle.jc_tree.specs.declared.expression.Expr.{Expr}
use Rattle.jc_tree.specs.declared.statement.Modifier.{Modifier}
use Rattle.jc_tree.specs.declared.statement.Stmt.{Stmt, Stmt-F, out-Stmt, roll-Stmt, roll-out-Stmt}
use Rattle.jc_tree.specs.declared.statement.Stmt.TheVariants as stmt_of
use Rattle.jc_tree.specs.Heights.{most, expr_height, stmt_height}
use Rattle.jc_tree.proofs.HeightsOfStatements.{stmt_height-ThisCall, stmt_height-SuperCall}
use Rattle.jc_grammar.specs.Told.{Told, actuals, commas, key_at, sign}
use Rattle.jc_grammar.specs.Expressions.{expr_tokens}
use Rattle.jc_grammar.specs.Parts.{modifiers_tokens}
use Rattle.jc_grammar.specs.Shapes.{is_expr}
use Rattle.jc_grammar.specs.Statements.{stmt_tokens}
use Rattle.jc_grammar.specs.Units.{StmtShape, Constructs, role_in_block, statement, stmt_shape}
use Rattle.jc_grammar.proofs.ShapesOfStatements.{stmt_shape-out, stmt_shape-ThisCall, stmt_shape-SuperCall}
use Rattle.jc_grammar.proofs.TokensOfStatements.{stmt_tokens-Effect, stmt_tokens-Labeled, stmt_tokens-Local, stmt_tokens-ThisCall, stmt_tokens-SuperCall}
use Rattle.jc_reading.specs.Kinds.{kind_code, key_code, is_in, front_code, one_of}
use Rattle.jc_reading.specs.Reading.{Takes, as_new, becoming, joined}
use Rattle.jc_reading.specs.Further.{second_is}
use Rattle.jc_reading.proofs.Codes.{kind_is_key}
use Rattle.jc_reading.proofs.Coded.{Coded, formed, in_order, listed, optional, Makes, made_laws, widened_laws}
use Rattle.jc_reading.proofs.Forms.{Lawful, Stands}
use Rattle.jc_reading.proofs.Lists.{fits_all}
use Rattle.jc_reading.proofs.Lowest.{listed_law, optional_law}
use Rattle.jc_reading.proofs.Seconds.{takes_first}
use Rattle.jc_reading.proofs.Signs.{none_common, apart_sets, key_at_laws}
use Rattle.jc_reading.proofs.Steps.{reach, reach_becoming}
use Rattle.jc_part_laws.specs.PartReading.{Exprs}
use Rattle.jc_part_laws.proofs.AnnotationForms.{room_and}
use Rattle.jc_part_laws.proofs.ExprForms.{ExprLaws, expr_in, expr_law}
use Rattle.jc_part_laws.proofs.PartForms.{sign_form, key_at_form}
use Rattle.jc_unit_laws.specs.UnitReading.{DeclarationRest, Level}
use Rattle.jc_unit_laws.specs.MemberReading.{Actuals, actuals_run, first_run, or_no_actuals, paren_codes, super_run, this_run}
use Rattle.jc_unit_laws.proofs.Bundles.{has, a_sign, a_key_at, then_a}
use Rattle.jc_unit_laws.proofs.Calls.{expr_apart, no_call, no_calls, takes_apart, type_front}
use Rattle.jc_unit_laws.proofs.Contexts.{From0, begun_there, both_kinds, from0_law, shape_of}
use Rattle.jc_unit_laws.proofs.IfStatements.{if_coded, if_law}
use Rattle.jc_unit_laws.proofs.ItemRests.{Rest, moded_item_coded, moded_item_laws}
use Rattle.jc_unit_laws.proofs.Items.{Simple_or, Worded, fits_items, item_form, item_laws}
use Rattle.jc_unit_laws.proofs.SecondsMerged.{by_two, by_two_laws}
use Rattle.jc_unit_laws.proofs.SimpleStatements.{Layer, LevelLaws, behind_codes, good_at, good_made, item_codes}
use Rattle.jc_unit_laws.proofs.WordStatements.{has_modifiers, is_word, reach_order, word_coded}

-- no token of this kind stands first, so no such token with another one behind it
pub starts_apart : (code : ℕ) (codes starts : List ℕ) (ts : List Token) → none_common starts (code ∷ []) ≡ true → one_of starts ts ≡ true → second_is code codes ts ≡ false
starts_apart code codes starts [] n e = refl
starts_apart code codes starts (t ∷ ts) n e =
    and_left (kind_code t.kind == code) (one_of codes ts)
    (false_from_ne_true (kind_code t.kind == code) (λ q. false≢true (sym (apart_sets starts (code ∷ []) n (front_code (t ∷ ts)) e) ∙ or_left (code == kind_code t.kind) false (eq-eqb code (kind_code t.kind) (sym (eqb-true (kind_code t.kind) code q))))))

-- what a statement is that calls a constructor
record Caller (word : Key) (make : ℕ → List Expr → Stmt) (kind : Layer → Bool) : Type 0 where
  told : (at : ℕ) (args : List Expr) (r : List Told) → stmt_tokens (make at args) r ≡ (key_at word at ∷ actuals (map expr_tokens args) (sign sign_of.Semicolon ∷ r))
  height : (at : ℕ) (args : List Expr) → stmt_height (make at args) ≡ suc (most (map expr_height args))
  shape : (at : ℕ) (args : List Expr) → stmt_shape (make at args) ≡ statement Constructs (list_all is_expr args)
  kinded : (at : ℕ) (args : List Expr) → kind (out-Stmt (make at args)) ≡ true
  back : (s : Stmt) → kind (out-Stmt s) ≡ true → (at : ℕ) × (args : List Expr) × (make at args ≡ s)

module _ (x : Exprs) (h : ℕ) where
  abbrev Arguments : Coded (Option (List Expr))
  Arguments = optional (listed (expr_in x h))

  abbrev InParens : Coded Actuals
  InParens = in_order (sign_form sign_of.LeftParen) (in_order Arguments (sign_form sign_of.RightParen))

  arguments_told : (o : Option (List Expr)) (r : List Told) → Arguments.fits o ≡ true → commas (map expr_tokens (or_no_actuals o)) r ≡ Arguments.tell o r
  arguments_told None r g = refl
  arguments_told (Some []) r g = absurd (false≢true g)
  arguments_told (Some (e ∷ args)) r g = refl

  arguments_forth : (o : Option (List Expr)) → Arguments.fits o ≡ true → fits_all (expr_in x h).fits (or_no_actuals o) ≡ true
  arguments_forth None g = refl
  arguments_forth (Some []) g = refl
  arguments_forth (Some (e ∷ args)) g = g

  arguments_back : (args : List Expr) → fits_all (expr_in x h).fits args ≡ true → (o : Option (List Expr)) × (or_no_actuals o ≡ args) × (Arguments.fits o ≡ true)
  arguments_back [] g = (None, refl, refl)
  arguments_back (e ∷ args) g = (Some (e ∷ args), refl, g)

  module _ (word : Key) (make : ℕ → List Expr → Stmt) (kind : Layer → Bool) where
    abbrev CallParts : Coded (ℕ × (Actuals × Unit {0}))
    CallParts = in_order (key_at_form word) (in_order InParens (sign_form sign_of.Semicolon))

    abbrev call_made : (ℕ × (Actuals × Unit {0})) → Stmt
    call_made p = make p.0 (or_no_actuals p.1.0.1.0)

    abbrev call_fits : Stmt → Bool
    call_fits s = kind (out-Stmt s) && good_at h s

    abbrev call_coded : Coded Stmt
    call_coded = record { tell = stmt_tokens; fits = call_fits; run = as_new call_made CallParts.run; starts = key_code word ∷ []; goes = []; empties = false }

    fit_call : Caller word make kind → (at : ℕ) (args : List Expr) → good_at h (make at args) ≡ fits_all (expr_in x h).fits args
    fit_call c at args =
        good_made h (make at args) (most (map expr_height args)) (statement Constructs (list_all is_expr args)) (c.height at args) (c.shape at args) ∙ room_and expr_height is_expr h args

    parts_bits : (o : Bool) → (true && ((true && (o && true)) && true)) ≡ o
    parts_bits o = and-true (o && true) ∙ and-true o

    call_makes : Caller word make kind → Makes (ℕ × (Actuals × Unit {0})) Stmt CallParts call_made stmt_tokens call_fits
    call_makes c = record {
      told = λ p r g. c.told p.0 (or_no_actuals p.1.0.1.0) r
          ∙ ap (λ (l : List Told). key_at word p.0 ∷ sign sign_of.LeftParen ∷ l) (arguments_told p.1.0.1.0 (sign sign_of.RightParen ∷ sign sign_of.Semicolon ∷ r) (sym (parts_bits (Arguments.fits p.1.0.1.0)) ∙ g));
      forth = λ p g. and_from (kind (out-Stmt (call_made p))) (good_at h (call_made p)) (c.kinded p.0 (or_no_actuals p.1.0.1.0))
          (fit_call c p.0 (or_no_actuals p.1.0.1.0) ∙ arguments_forth p.1.0.1.0 (sym (parts_bits (Arguments.fits p.1.0.1.0)) ∙ g));
      back = λ s g.
          let a = and_parts (kind (out-Stmt s)) (good_at h s) g in
          let w = c.back s a.0 in
          let o = arguments_back w.1 (sym (fit_call c w.0 w.1) ∙ ap (good_at h) w.2 ∙ a.1) in
          ((w.0, ((tt, (o.0, tt)), tt)), ap (λ (args : List Expr). make w.0 args) o.1 ∙ w.2, parts_bits (Arguments.fits o.0) ∙ o.2);
    }

    call_laws : ExprLaws x → Caller word make kind → Lawful Stmt (formed call_coded)
    call_laws lx c =
        made_laws (ℕ × (Actuals × Unit {0})) Stmt CallParts call_made stmt_tokens call_fits
        (then_a (a_key_at word) (then_a (then_a (a_sign sign_of.LeftParen) (then_a (has Arguments (optional_law (List Expr) (listed (expr_in x h)) (listed_law Expr (expr_in x h) (expr_law x lx h) refl refl) refl)) (a_sign sign_of.RightParen) refl) refl) (a_sign sign_of.Semicolon) refl) refl).laws
        (call_makes c)

    call_there : Caller word make kind → (ts : List Token) (s : Stmt) (r : List Token) → Stands (formed call_coded) ts s r → second_is (key_code word) paren_codes ts ≡ true
    call_there c ts s r t =
        let m = call_makes c in
        let w = m.back s t.1 in
        there ts w.0 (subst (λ (l : List Told). Takes false l ts r) (ap (λ (v : Stmt). stmt_tokens v []) (sym w.1) ∙ m.told w.0 [] w.2) t.0)
      where
        there : (ts : List Token) (p : ℕ × (Actuals × Unit {0})) → Takes false (CallParts.tell p []) ts r → second_is (key_code word) paren_codes ts ≡ true
        there [] p s = absurd s
        there (t ∷ []) p s = absurd s.1
        there (t ∷ u ∷ us) p s = and_from (kind_code t.kind == key_code word) (one_of paren_codes (u ∷ us)) (eq-eqb (kind_code t.kind) (key_code word) (ap kind_code s.0.0)) (ap (λ n. is_in paren_codes n) (ap kind_code s.1.0.0))

    call_passes : (t : Token) (ts : List Token) → kind_code t.kind ≡ key_code word → reach (call_coded.run (t ∷ ts)) ≤ length ts
    call_passes t ts e =
        let near = takes_first ℕ (formed (key_at_form word)) (key_at_laws word) refl t [] t.from [] (((kind_is_key t.kind word e, refl, λ q. absurd (false≢true q), λ q. absurd (false≢true q)), refl), refl) ts in
        let less = reach_order ((key_at_form word).run (t ∷ ts)) (λ a q. becoming (joined a) ((in_order InParens (sign_form sign_of.Semicolon)).run q)) in
        let same : reach (call_coded.run (t ∷ ts)) ≡ reach (CallParts.run (t ∷ ts)) = reach_becoming call_made (CallParts.run (t ∷ ts)) in
        omega (arith, near, less, same)

abbrev is_this : Layer → Bool
is_this (Stmt-F.ThisCall at args) = true
is_this _ = false

abbrev is_super : Layer → Bool
is_super (Stmt-F.SuperCall at args) = true
is_super _ = false

back_this : (s : Stmt) (layer : Layer) → out-Stmt s ≡ layer → is_this layer ≡ true → (at : ℕ) × (args : List Expr) × (stmt_of.ThisCall at args ≡ s)
back_this s (Stmt-F.ThisCall at args) e g = (at, args, sym (stmt_of.rolls-ThisCall at args) ∙ ap roll-Stmt (sym e) ∙ roll-out-Stmt s)
back_this s _ e g = absurd (false≢true g)

back_super : (s : Stmt) (layer : Layer) → out-Stmt s ≡ layer → is_super layer ≡ true → (at : ℕ) × (args : List Expr) × (stmt_of.SuperCall at args ≡ s)
back_super s (Stmt-F.SuperCall at args) e g = (at, args, sym (stmt_of.rolls-SuperCall at args) ∙ ap roll-Stmt (sym e) ∙ roll-out-Stmt s)
back_super s _ e g = absurd (false≢true g)

this_caller : Caller key_of.This stmt_of.ThisCall is_this
this_caller = record { told = stmt_tokens-ThisCall; height = stmt_height-ThisCall; shape = stmt_shape-ThisCall; kinded = λ at args. ap is_this (stmt_of.outs-ThisCall at args); back = λ s g. back_this s (out-Stmt s) refl g }

super_caller : Caller key_of.Super stmt_of.SuperCall is_super
super_caller = record { told = stmt_tokens-SuperCall; height = stmt_height-SuperCall; shape = stmt_shape-SuperCall; kinded = λ at args. ap is_super (stmt_of.outs-SuperCall at args); back = λ s g. back_super s (out-Stmt s) refl g }

-- no other statement begins with such a call

no_mods_front : (modifiers : List Modifier) (list : List Told) → not (has_modifiers modifiers) ≡ true → no_calls list ≡ true → no_calls (modifiers_tokens modifiers list) ≡ true
no_mods_front [] list e n = n
no_mods_front (m ∷ modifiers) list e n = absurd (false≢true e)

word_front : (s : Stmt) (layer : Layer) → out-Stmt s ≡ layer → is_word layer ≡ true → no_calls (stmt_tokens s []) ≡ true
word_front s (Stmt-F.Labeled label body) e g = ap (λ (v : Stmt). no_calls (stmt_tokens v [])) (sym (roll-out-Stmt s) ∙ ap roll-Stmt e ∙ stmt_of.rolls-Labeled label body) ∙ ap no_calls (stmt_tokens-Labeled label body [])
word_front s (Stmt-F.Effect it) e g =
    ap (λ (v : Stmt). no_calls (stmt_tokens v [])) (sym (roll-out-Stmt s) ∙ ap roll-Stmt e ∙ stmt_of.rolls-Effect it) ∙ ap no_calls (stmt_tokens-Effect it []) ∙ expr_apart it (sign sign_of.Semicolon ∷ []) refl
word_front s (Stmt-F.Local vars) e g =
    ap (λ (v : Stmt). no_calls (stmt_tokens v [])) (sym (roll-out-Stmt s) ∙ ap roll-Stmt e ∙ stmt_of.rolls-Local vars) ∙ ap no_calls (stmt_tokens-Local vars []) ∙ no_mods_front vars.modifiers _ g (type_front vars.ty _)
word_front s _ e g = absurd (false≢true g)

module _ (x : Exprs) (lx : ExprLaws x) (h : ℕ) (l : Level) (f : LevelLaws h l) (lr : Lawful DeclarationRest (Rest x h l)) where
  item_calls : (ts : List Token) (s : Stmt) (r : List Token) → Stands (formed (item_form x lx h l)) ts s r → (second_is (key_code key_of.This) paren_codes ts ≡ false) × (second_is (key_code key_of.Super) paren_codes ts ≡ false)
  item_calls ts s r t =
      ⊎_elim (λ a. by_starts (if_coded x lx h l).starts refl refl (begun_there (if_coded x lx h l) (if_law x lx h l f) refl ts s r (t.0, a)))
      (λ o. ⊎_elim (λ a. by_starts (From0 x lx h l).starts refl refl (begun_there (From0 x lx h l) (from0_law x lx h l f) refl ts s r (t.0, a)))
      (λ o. ⊎_elim (λ a. by_starts (moded_item_coded x h l).starts refl refl (begun_there (moded_item_coded x h l) (inl (moded_item_laws x h l lx lr)) refl ts s r (t.0, a)))
      (λ a. by_front (word_front s (out-Stmt s) refl (and_parts (is_word (out-Stmt s)) (good_at h s) a).0))
      (or_cases ((moded_item_coded x h l).fits s) ((word_coded x lx h l).fits s) o))
      (or_cases ((From0 x lx h l).fits s) ((Worded x lx h l).fits s) o))
      (or_cases ((if_coded x lx h l).fits s) ((Simple_or x lx h l).fits s) (fits_items x lx h l s ∙ t.1))
    where
      by_starts : (starts : List ℕ) → none_common starts (key_code key_of.This ∷ []) ≡ true → none_common starts (key_code key_of.Super ∷ []) ≡ true → one_of starts ts ≡ true → (second_is (key_code key_of.This) paren_codes ts ≡ false) × (second_is (key_code key_of.Super) paren_codes ts ≡ false)
      by_starts starts n m e = (starts_apart (key_code key_of.This) paren_codes starts ts n e, starts_apart (key_code key_of.Super) paren_codes starts ts m e)

      by_front : no_calls (stmt_tokens s []) ≡ true → (second_is (key_code key_of.This) paren_codes ts ≡ false) × (second_is (key_code key_of.Super) paren_codes ts ≡ false)
      by_front n =
          let p = and_parts (no_call (key_code key_of.This) (stmt_tokens s [])) (no_call (key_code key_of.Super) (stmt_tokens s [])) n in
          (takes_apart (key_code key_of.This) false (stmt_tokens s []) ts r p.0 t.0, takes_apart (key_code key_of.Super) false (stmt_tokens s []) ts r p.1 t.0)

  abbrev ThisCalls : Coded Stmt
  ThisCalls = call_coded x h key_of.This stmt_of.ThisCall is_this

  abbrev SuperCalls : Coded Stmt
  SuperCalls = call_coded x h key_of.Super stmt_of.SuperCall is_super

  abbrev Later : Coded Stmt
  Later = by_two (key_code key_of.Super) paren_codes SuperCalls (item_form x lx h l)

  abbrev Firsts : Coded Stmt
  Firsts = by_two (key_code key_of.This) paren_codes ThisCalls Later

  later_laws : Lawful Stmt (formed Later)
  later_laws =
      by_two_laws Stmt (key_code key_of.Super) paren_codes SuperCalls (item_form x lx h l) (call_laws x h key_of.Super stmt_of.SuperCall is_super lx super_caller) (item_laws x lx h l f lr)
      (record { solid = refl; solid' = refl; this = call_there x h key_of.Super stmt_of.SuperCall is_super super_caller; that = λ ts s r t. (item_calls ts s r t).1; passes = call_passes x h key_of.Super stmt_of.SuperCall is_super }) (λ s r. refl)

  later_apart : (ts : List Token) (s : Stmt) (r : List Token) → Stands (formed Later) ts s r → second_is (key_code key_of.This) paren_codes ts ≡ false
  later_apart ts s r t =
      ⊎_elim (λ a. starts_apart (key_code key_of.This) paren_codes SuperCalls.starts ts refl (begun_there SuperCalls (inl (call_laws x h key_of.Super stmt_of.SuperCall is_super lx super_caller)) refl ts s r (t.0, a)))
      (λ a. (item_calls ts s r (t.0, a)).0) (or_cases (SuperCalls.fits s) ((item_form x lx h l).fits s) t.1)

  firsts_laws : Lawful Stmt (formed Firsts)
  firsts_laws =
      by_two_laws Stmt (key_code key_of.This) paren_codes ThisCalls Later (call_laws x h key_of.This stmt_of.ThisCall is_this lx this_caller) later_laws
      (record { solid = refl; solid' = refl; this = call_there x h key_of.This stmt_of.ThisCall is_this this_caller; that = later_apart; passes = call_passes x h key_of.This stmt_of.ThisCall is_this }) (λ s r. refl)

-- every statement is a call of a constructor or may stand in a block

roles_first : (layer : Layer) → (is_this layer || (is_super layer || role_in_block (shape_of layer).role)) ≡ true
roles_first (Stmt-F.If [] []) = refl
roles_first (Stmt-F.If [] (s ∷ [])) = refl
roles_first (Stmt-F.If [] (s ∷ t ∷ items)) = refl
roles_first (Stmt-F.If (c ∷ arms) []) = refl
roles_first (Stmt-F.If (c ∷ arms) (s ∷ [])) = refl
roles_first (Stmt-F.If (c ∷ arms) (s ∷ t ∷ items)) = refl
roles_first _ = refl

module _ (x : Exprs) (lx : ExprLaws x) (h : ℕ) (l : Level) (f : LevelLaws h l) (lr : Lawful DeclarationRest (Rest x h l)) where
  fits_firsts : (s : Stmt) → (Firsts x lx h l f lr).fits s ≡ good_at h s
  fits_firsts s =
      let m = good_at h s in
      let t = is_this (out-Stmt s) in
      let u = is_super (out-Stmt s) in
      let role = role_in_block (stmt_shape s).role in
      ap (λ b. (t && m) || ((u && m) || b)) (swap (nat_le (stmt_height s) (suc h)) (stmt_shape s).good role)
      ∙ ap (λ b. (t && m) || b) (both_kinds u role m) ∙ both_kinds t (u || role) m
      ∙ ap (λ (g : StmtShape). (t || (u || role_in_block g.role)) && m) (stmt_shape-out s) ∙ ap (λ b. b && m) (roles_first (out-Stmt s))
    where
      swap : (n g r : Bool) → (n && (g && r)) ≡ (r && (n && g))
      swap n g r = grind (arith, common_steps)

  pub first_laws : Lawful Stmt (formed (record { tell = stmt_tokens; fits = λ s. nat_le (stmt_height s) (suc h) && (stmt_shape s).good; run = first_run x h l; starts = item_codes; goes = behind_codes; empties = false }))
  unfolding first_run this_run super_run actuals_run
  first_laws =
      subst (λ (g : Stmt → Bool). Lawful Stmt (formed (record { tell = stmt_tokens; fits = g; run = first_run x h l; starts = item_codes; goes = behind_codes; empties = false }))) (fun_ext fits_firsts)
      (widened_laws Stmt (Firsts x lx h l f lr) item_codes behind_codes (firsts_laws x lx h l f lr) refl refl)
