-- Statements that begin with an expression, a label or a type.
use Rattle.std.proofs.Common.{length-append, ◌≡◌, ℕ, zero, suc, max, Bool, true, false, List, [], ◌∷◌, ◌++◌, map, length, refl, sym, ap, ◌∙◌, subst, ⊎_elim, arith}
use Rattle.std.proofs.Math.Bool.{and-true}
use Rattle.std.proofs.lemmas.Bool.{false≢true, and_left, and_right, and_parts, and_from, leb-true, le-leb}
use Rattle.std.proofs.lemmas.Grind.{common_steps}
use Rattle.std.specs.Prelude.{not, min, ◌≤◌, ◌<◌, ◌&&◌, ◌==◌, nat_le}
use Rattle.std.specs.List.{list_all}
use Rattle.jc_lexer.specs.declared.token.Key.TheVariants as key_of
use Rattle.jc_lexer.specs.declared.token.Sign.TheVariants as sign_of
use Rattle.jc_lexer.specs.declared.token.Token.{Token}
use Rattle.jc_tree.specs.declared.name.Ident.{Ident}
use Rattle.jc_tree.specs.declared.expression.ArrayInit.{ArrayInit}
use Rattle.jc_tree.specs.declared.expression.Creation.{Creation}
use Rattle.jc_tree.specs.declared.expression.Expr.{Expr, Expr-F, map-Expr, out-Expr}
use Rattle.jc_tree.specs.declared.expression.Init.{Init}
use Rattle.jc_tree.specs.declared.expression.Operand.{Operand}
use Rattle.jc_tree.specs.declared.types.ClassTree.{ClassTree}
use Rattle.jc_tree.specs.declared.types.TypeTree.{TypeTree}
use Rattle.jc_tree.specs.declared.statement.Modifier.{Modifier}
use Rattle.jc_tree.specs.declared.statement.Stmt.{Stmt, Stmt-F, out-Stmt, roll-Stmt, roll-out-Stmt}
use Rattle.jc_tree.specs.declared.statement.Stmt.TheVariants as stmt_of
use Rattle.jc_tree.specs.Heights.{most, array_height, creation_height, effect_height, effect_over, expr_height, expr_step, init_height, operand_height, type_height, modifier_height, stmt_height}
use Rattle.jc_tree.proofs.HeightsOfStatements.{stmt_height-Local, stmt_height-Effect, stmt_height-Labeled}
use Rattle.jc_grammar.specs.Told.{Told, sign}
use Rattle.jc_grammar.specs.Expressions.{expr_tokens}
use Rattle.jc_grammar.specs.Types.{type_tokens}
use Rattle.jc_grammar.specs.Parts.{modifiers_tokens}
use Rattle.jc_grammar.specs.Shapes.{is_expr}
use Rattle.jc_grammar.specs.Statements.{stmt_tokens}
use Rattle.jc_grammar.specs.Units.{are_locals, is_var, is_statement_expr, are_modifiers, StmtShape, stmt_shape}
use Rattle.jc_grammar.proofs.ShapesOfStatements.{stmt_shape-Local, stmt_shape-Effect, stmt_shape-Labeled}
use Rattle.jc_grammar.proofs.TokensOfStatements.{stmt_tokens-Local, stmt_tokens-Effect, stmt_tokens-Labeled}
use Rattle.jc_reading.specs.Kinds.{kind_code, sign_code, key_code, word_code, is_in, front_code, one_of}
use Rattle.jc_reading.specs.Reading.{Read, Found, Stopped, ◌>>=◌, joined, noting, becoming, Takes, rest_of, Either, This, That, behind_it}
use Rattle.jc_reading.proofs.Steps.{Goes, IsFound, reach, reach_noting, found_becoming, found_noting, takes_front}
use Rattle.jc_reading.proofs.Forms.{Lawful, Stands}
use Rattle.jc_reading.proofs.Lists.{fits_all}
use Rattle.jc_reading.proofs.Rooms.{room_above, room_suc, room_max}
use Rattle.jc_reading.specs.Further.{with_room}
use Rattle.jc_part_laws.specs.PartReading.{Exprs}
use Rattle.jc_part_laws.proofs.AnnotationForms.{room_and}
use Rattle.jc_reading.proofs.Coded.{Coded, formed, in_order, OfKind, kind_makes}
use Rattle.jc_part_laws.proofs.ExprForms.{effect_coded, ExprLaws, expr_coded, effect_tall}
use Rattle.jc_reading.proofs.Lowest.{Law, Void, roomy, never_first, never_second}
use Rattle.jc_part_laws.proofs.ModifierForms.{modifiers_coded, modifiers_coded_laws}
use Rattle.jc_part_laws.proofs.PartForms.{sign_form, ident_form, type_coded, type_coded_laws, type_never}
use Rattle.jc_unit_laws.specs.UnitReading.{labeled_or, labeled_made, effect_made, local_or_effect, local_made, variables_made, Variables, plain_run, word_run, local_run, Level}
use Rattle.jc_unit_laws.proofs.Bundles.{has, a_sign, an_ident, then_a, roomy_zero, roomy_suc}
use Rattle.jc_reading.proofs.Ledby.{unled, unled_back}
use Rattle.jc_unit_laws.proofs.SimpleStatements.{else_codes, behind_codes, body_coded, LevelLaws, Layer, good_at, good_made, stmt_fits, stmt_made_law}
use Rattle.std.proofs.lemmas.Bool.{cond-true, cond-false, cond_both, eq-eqb, false_from_ne_true}
use Rattle.jc_lexer.specs.declared.token.Key.{Key}
use Rattle.jc_lexer.specs.declared.token.Sign.{Sign}
use Rattle.jc_lexer.specs.declared.token.TokenKind.{TokenKind}
use Rattle.jc_lexer.specs.declared.token.TokenKind.TheVariants as kind_of
use Rattle.jc_rules.specs.declared.text.Text.{Text}
use Rattle.jc_tree.specs.declared.types.BaseTree.TheVariants as base_of
use Rattle.jc_tree.specs.declared.types.ClassTree.{roll-ClassTree}
use Rattle.jc_tree.specs.declared.types.TypePart.{TypePart, roll-TypePart}
use Rattle.jc_tree.specs.declared.types.TypeTree.{roll-TypeTree}
use Rattle.jc_tree.specs.declared.expression.Expr.TheVariants as expr_of
use Rattle.jc_tree.specs.declared.statement.LocalVars.{LocalVars}
use Rattle.jc_tree.specs.declared.statement.Var.{Var}
use Rattle.jc_tree.specs.Heights.{local_height, var_height, base_height}
use Rattle.jc_tree.proofs.HeightsOfTypes.{base_height-Class, class_height-made, part_height-made, type_height-made}
use Rattle.jc_tree.proofs.HeightsOfExpressions.{expr_height-Name, expr_height-out}
use Rattle.jc_grammar.specs.Parts.{local_tokens, var_tokens}
use Rattle.jc_grammar.specs.Shapes.{is_effect}
use Rattle.jc_grammar.proofs.ShapesOfExpressions.{expr_shape-Name}
use Rattle.jc_grammar.proofs.TokensOfExpressions.{expr_tokens-Name}
use Rattle.jc_grammar.proofs.TokensOfTypes.{base_tokens-Class, class_tokens-made, part_tokens-made, type_tokens-made}
use Rattle.jc_reading.proofs.Ledby.{behind_fits}
use Rattle.jc_reading.proofs.Pairs.{cut}
use Rattle.jc_reading.proofs.Signs.{ident_laws, apart_sets}
use Rattle.jc_reading.specs.Further.{second_is, past}
use Rattle.jc_part_laws.proofs.FormalForms.{vars_coded, vars_laws, var_fits, var_coded}
use Rattle.jc_part_laws.proofs.ModifierForms.{modifier_coded, modifier_coded_laws, modifiers_fit, modifier_fits, fit_modifiers}
use Rattle.jc_part_laws.proofs.PartForms.{told_commas}
use Rattle.jc_reading.proofs.Seconds.{seconds, Parts, seconds_laws, takes_first}
use Rattle.jc_reading.proofs.Tries.{attempted, Attempts, attempted_laws}
use Rattle.jc_unit_laws.proofs.Closed.{closed_order, closed_made}

-- a token of the code of words is one

no_key : (k : Key) → (key_code k == word_code) ≡ false
no_key key_of.Abstract = refl
no_key _ = refl

no_sign : (s : Sign) → (sign_code s == word_code) ≡ false
no_sign sign_of.Ellipsis = refl
no_sign _ = refl

pub word_kind : (k : TokenKind) → (kind_code k == word_code) ≡ true → (text : Text) × (k ≡ kind_of.Word text)
word_kind (kind_of.Word text) e = (text, refl)
word_kind (kind_of.Number v w d) e = absurd (false≢true e)
word_kind (kind_of.CharLit u) e = absurd (false≢true e)
word_kind (kind_of.StringLit u) e = absurd (false≢true e)
word_kind (kind_of.Key k) e = absurd (false≢true (sym (no_key k) ∙ e))
word_kind (kind_of.Sign s) e = absurd (false≢true (sym (no_sign s) ∙ e))

-- a word alone is an expression, and a type

pub stands_name : (x : Exprs) (k : ℕ) (t : Token) (text : Text) (r : List Token) → t.kind ≡ kind_of.Word text → Stands (formed (expr_coded x (suc k))) (t ∷ r) (expr_of.Name (record { at = t.from; text = text })) r
stands_name x k t text r e =
    let i : Ident = record { at = t.from; text = text } in (
      subst (λ (l : List Told). Takes false l (t ∷ r) r) (sym (expr_tokens-Name i [])) ((e, refl, λ q. absurd (false≢true q), λ q. absurd (false≢true q)), refl),
      ap (λ n. nat_le n (suc k) && is_expr (expr_of.Name i)) (expr_height-Name i) ∙ ap (λ b. b && is_expr (expr_of.Name i)) (room_suc 0 k ∙ room_above k) ∙ ap (λ s. s.good && nat_le 0 s.level) (expr_shape-Name i),
    )

pub simple_type : ℕ → Text → TypeTree
simple_type at text = roll-TypeTree (record { base = base_of.Class (roll-ClassTree (record { first = roll-TypePart (record { name = record { at = at; text = text }; args = [] }); more = [] })); dims = 0 })

pub stands_type : (k : ℕ) (t : Token) (text : Text) (r : List Token) → t.kind ≡ kind_of.Word text → Stands (formed (type_coded (suc k))) (t ∷ r) (simple_type t.from text) r
unfolding simple_type
stands_type k t text r e =
    let i : Ident = record { at = t.from; text = text } in
    let part : TypePart = roll-TypePart (record { name = i; args = [] }) in
    let class : ClassTree = roll-ClassTree (record { first = part; more = [] }) in (
      subst (λ (l : List Told). Takes false l (t ∷ r) r) (sym (type_tokens-made (base_of.Class class) 0 [] ∙ base_tokens-Class class [] ∙ class_tokens-made part [] [] ∙ part_tokens-made i [] []))
          ((e, refl, λ q. absurd (false≢true q), λ q. absurd (false≢true q)), refl),
      ap (λ n. nat_le n (suc k)) (type_height-made (base_of.Class class) 0) ∙ room_suc (base_height (base_of.Class class)) k
          ∙ ap (λ n. nat_le n k) (base_height-Class class ∙ class_height-made part [] ∙ ap (λ n. max n 0) (part_height-made i [])) ∙ room_above k,
    )

-- reading in order reaches no further back than the first reading
pub reach_order : {A B : Type 0} (m : Read A) (f : A → List Token → Read B) → reach (m >>= f) ≤ reach m
reach_order (Found a q l) f = let e : reach (noting l (f a q)) ≡ min l (reach (f a q)) = reach_noting l (f a q) in omega (arith, e)
reach_order (Stopped l) f = omega arith

-- labels

module _ (h : ℕ) (l : Level) where
  abbrev Label : Coded (Ident × (Unit {0} × Stmt))
  Label = in_order ident_form (in_order (sign_form sign_of.Colon) (body_coded h l))

  abbrev colon_codes : List ℕ
  colon_codes = sign_code sign_of.Colon ∷ []

  label_there : (ts : List Token) (a : Ident × (Unit {0} × Stmt)) (r : List Token) → Stands (formed Label) ts a r → second_is word_code colon_codes ts ≡ true
  label_there [] a r s = absurd s.0
  label_there (t ∷ []) a r s = absurd s.0.1
  label_there (t ∷ u ∷ ts) a r s = ap (λ n. (n == word_code) && one_of colon_codes (u ∷ ts)) (ap kind_code s.0.0.0) ∙ ap (λ n. is_in colon_codes n) (ap kind_code s.0.1.0.0)

  label_passes : (t : Token) (ts : List Token) → kind_code t.kind ≡ word_code → reach (Label.run (t ∷ ts)) ≤ length ts
  label_passes t ts e =
      let w = word_kind t.kind (eq-eqb (kind_code t.kind) word_code e) in
      let near = takes_first Ident (formed ident_form) ident_laws refl t [] (record { at = t.from; text = w.0 }) [] (((w.1, refl, λ q. absurd (false≢true q), λ q. absurd (false≢true q)), refl), refl) ts in
      let less = reach_order (ident_form.run (t ∷ ts)) (λ a q. becoming (joined a) ((in_order (sign_form sign_of.Colon) (body_coded h l)).run q)) in
      omega (arith, near, less)

-- an effect is an expression, at most one higher

abbrev heights_in : Expr-F Creation Expr Init Operand ArrayInit → Expr-F ℕ ℕ ℕ ℕ ℕ
heights_in l = map-Expr Creation Expr Init Operand ArrayInit ℕ ℕ ℕ ℕ ℕ creation_height expr_height init_height operand_height array_height l

layer_room : (l : Expr-F Creation Expr Init Operand ArrayInit) (n h : ℕ) → n ≡ expr_step (heights_in l) → nat_le (effect_over l n) h ≡ true → nat_le n (suc h) ≡ true
layer_room (Expr-F.Assign target op value) n h q e = ap (λ k. nat_le k (suc h)) q ∙ room_suc (max (expr_height target) (expr_height value)) h ∙ e
layer_room (Expr-F.Prefix first more operand) n h q e = ap (λ k. nat_le k (suc h)) q ∙ room_suc (expr_height operand) h ∙ e
layer_room _ n h q e = let le : n ≤ h = leb-true n h e in le-leb n (suc h) (omega (arith, le))

effect_room : (e : Expr) (h : ℕ) → nat_le (effect_height e) h ≡ true → nat_le (expr_height e) (suc h) ≡ true
effect_room e h g = layer_room (out-Expr e) (expr_height e) h (expr_height-out e) g

module _ (x : Exprs) (lx : ExprLaws x) (k : ℕ) where
  abbrev Effect : Coded (Expr × Unit {0})
  Effect = in_order (effect_coded x (suc k)) (sign_form sign_of.Semicolon)

  effect_laws : Lawful (Expr × Unit {0}) (formed Effect)
  effect_laws = (then_a (has (effect_coded x (suc k)) (lx.effect k)) (a_sign sign_of.Semicolon) refl).laws

  -- an effect is an expression
  effect_expr : (ts : List Token) (e : Expr) (r : List Token) → Stands (formed (effect_coded x (suc k))) ts e r → Stands (formed (expr_coded x (suc (suc k)))) ts e r
  effect_expr ts e r s =
      let a = and_parts (nat_le (effect_height e) (suc k)) (is_statement_expr e) s.1 in
      (s.0, and_from (nat_le (expr_height e) (suc (suc k))) (is_expr e) (effect_room e (suc k) a.0) (and_parts (is_expr e) (is_effect e) a.1).0)

  same_rest : (front r us : List Token) (t : Token) → (t ∷ us) ≡ front ++ r → length r ≡ length us → us ≡ r
  same_rest [] r us t e l = absurd (omega (arith, ap length e, l))
  same_rest (f ∷ []) r us t e l = ap rest_of e
  same_rest (f ∷ g ∷ front) r us t e l = absurd (omega (arith, ap length e, length-append front r, l))

  -- no effect and its semicolon is a word with a colon behind it
  effect_apart : (ts : List Token) (p : Expr × Unit {0}) (r : List Token) → Stands (formed Effect) ts p r → second_is word_code (sign_code sign_of.Colon ∷ []) ts ≡ false
  effect_apart ts p r s = false_from_ne_true (second_is word_code (sign_code sign_of.Colon ∷ []) ts) (λ e. clash ts s e)
    where
      clash : (ts : List Token) → Stands (formed Effect) ts p r → second_is word_code (sign_code sign_of.Colon ∷ []) ts ≡ true → ⊥
      clash [] s e = false≢true e
      clash (t ∷ []) s e = false≢true (sym (and_right (kind_code t.kind == word_code) false refl) ∙ e)
      clash (t ∷ u ∷ us) s e =
          let a = and_parts (kind_code t.kind == word_code) (one_of (sign_code sign_of.Colon ∷ []) (u ∷ us)) e in
          let w = word_kind t.kind a.0 in
          let c = cut Expr (Unit {0}) (formed (effect_coded x (suc k))) (formed (sign_form sign_of.Semicolon)) (lx.effect k) (a_sign sign_of.Semicolon).laws (λ v q. apart_sets (sign_code sign_of.Semicolon ∷ []) (effect_coded x (suc k)).goes refl (front_code v) q) (t ∷ u ∷ us) p r s in
          let name = stands_name x (suc k) t w.0 (u ∷ us) w.1 in
          let ends : one_of (expr_coded x (suc (suc k))).goes (u ∷ us) ≡ false = apart_sets (sign_code sign_of.Colon ∷ []) (expr_coded x (suc (suc k))).goes refl (front_code (u ∷ us)) a.1 in
          let exactly = (lx.expr (suc k)).exact (t ∷ u ∷ us) (expr_of.Name (record { at = t.from; text = w.0 })) (u ∷ us) name ends in
          let most_left : length (u ∷ us) ≤ length c.0 = subst (λ (v : Read Expr). Goes (length c.0) v) exactly.1 ((lx.expr (suc k)).longest (t ∷ u ∷ us) p.0 c.0 (effect_expr (t ∷ u ∷ us) p.0 c.0 c.1)) in
          let some_taken : length c.0 < length (t ∷ u ∷ us) = ⊎_elim (λ o. o.1) (λ o. absurd (false≢true o.1)) ((lx.effect k).opens (t ∷ u ∷ us) p.0 c.0 c.1) in
          let f = takes_front false (expr_tokens p.0 []) (t ∷ u ∷ us) c.0 c.1.0 in
          let rest : (u ∷ us) ≡ c.0 = same_rest f.0 c.0 (u ∷ us) t f.1 (omega (arith, most_left, some_taken)) in
          let semicolon : one_of (sign_code sign_of.Semicolon ∷ []) c.0 ≡ true = ⊎_elim (λ o. o.0) (λ o. absurd (false≢true o.1)) ((a_sign sign_of.Semicolon).laws.opens c.0 p.1 r c.2) in
          false≢true (sym (apart_sets (sign_code sign_of.Colon ∷ []) (sign_code sign_of.Semicolon ∷ []) refl (front_code (u ∷ us)) a.1) ∙ subst (λ (v : List Token). one_of (sign_code sign_of.Semicolon ∷ []) v ≡ true) (sym rest) semicolon)

-- a label, or an effect

abbrev pub is_plain : Layer → Bool
is_plain (Stmt-F.Labeled label body) = true
is_plain (Stmt-F.Effect e) = true
is_plain _ = false

module _ (x : Exprs) (h : ℕ) (l : Level) where
  abbrev PlainEffect : Coded (Expr × Unit {0})
  PlainEffect = in_order (effect_coded x h) (sign_form sign_of.Semicolon)

  abbrev pub Plains : Coded (Either (Ident × (Unit {0} × Stmt)) (Expr × Unit {0}))
  Plains = seconds word_code (sign_code sign_of.Colon ∷ []) (Label h l) PlainEffect

  fit_label : (p : Ident × (Unit {0} × Stmt)) → good_at h (labeled_made p) ≡ (Label h l).fits p
  fit_label (name, (u, body)) = good_made h (stmt_of.Labeled name body) (stmt_height body) _ (stmt_height-Labeled name body) (stmt_shape-Labeled name body)

  fit_effect : (p : Expr × Unit {0}) → good_at h (effect_made p) ≡ PlainEffect.fits p
  fit_effect (e, u) = good_made h (stmt_of.Effect e) (effect_height e) _ (stmt_height-Effect e) (stmt_shape-Effect e) ∙ sym (and-true (nat_le (effect_height e) h && is_statement_expr e))

  fit_plain : (o : Either (Ident × (Unit {0} × Stmt)) (Expr × Unit {0})) → good_at h (labeled_or effect_made o) ≡ Plains.fits o
  fit_plain (This p) = fit_label p
  fit_plain (That p) = fit_effect p

  told_plain : (o : Either (Ident × (Unit {0} × Stmt)) (Expr × Unit {0})) (r : List Told) → stmt_tokens (labeled_or effect_made o) r ≡ Plains.tell o r
  told_plain (This (name, (u, body))) r = stmt_tokens-Labeled name body r
  told_plain (That (e, u)) r = stmt_tokens-Effect e r

  kind_plain : (o : Either (Ident × (Unit {0} × Stmt)) (Expr × Unit {0})) → is_plain (out-Stmt (labeled_or effect_made o)) ≡ true
  kind_plain (This (name, (u, body))) = ap is_plain (stmt_of.outs-Labeled name body)
  kind_plain (That (e, u)) = ap is_plain (stmt_of.outs-Effect e)

  back_plain : (s : Stmt) (layer : Layer) → out-Stmt s ≡ layer → is_plain layer ≡ true → (o : Either (Ident × (Unit {0} × Stmt)) (Expr × Unit {0})) × (labeled_or effect_made o ≡ s)
  back_plain s (Stmt-F.Labeled label body) e g = (This (label, (tt, body)), sym (stmt_of.rolls-Labeled label body) ∙ ap roll-Stmt (sym e) ∙ roll-out-Stmt s)
  back_plain s (Stmt-F.Effect it) e g = (That (it, tt), sym (stmt_of.rolls-Effect it) ∙ ap roll-Stmt (sym e) ∙ roll-out-Stmt s)
  back_plain s _ e g = absurd (false≢true g)

  pub plain_kind : OfKind (Either (Ident × (Unit {0} × Stmt)) (Expr × Unit {0})) Stmt (roomy h Plains) (labeled_or effect_made) stmt_tokens (λ s. is_plain (out-Stmt s)) (good_at h)
  plain_kind = record { told = told_plain; fit = fit_plain; is_kind = kind_plain; back = λ s g. back_plain s (out-Stmt s) refl g }

label_laws : (k : ℕ) (l : Level) (f : LevelLaws (suc k) l) → Lawful (Ident × (Unit {0} × Stmt)) (formed (Label (suc k) l))
label_laws k l f = (then_a an_ident (then_a (a_sign sign_of.Colon) (has (body_coded (suc k) l) f.body) refl) refl).laws

plain_parts : (x : Exprs) (lx : ExprLaws x) (k : ℕ) (l : Level) → Parts (Ident × (Unit {0} × Stmt)) (Expr × Unit {0}) word_code (sign_code sign_of.Colon ∷ []) (Label (suc k) l) (Effect x lx k)
plain_parts x lx k l = record { solid = refl; solid' = refl; this = label_there (suc k) l; that = effect_apart x lx k; passes = label_passes (suc k) l }

pub plains_never : (x : Exprs) (l : Level) → Void Stmt (body_coded 0 l) → (o : Either (Ident × (Unit {0} × Stmt)) (Expr × Unit {0})) → (Plains x 0 l).fits o ≡ false
plains_never x l v (This p) = never_second Ident (Unit {0} × Stmt) ident_form (in_order (sign_form sign_of.Colon) (body_coded 0 l)) (never_second (Unit {0}) Stmt (sign_form sign_of.Colon) (body_coded 0 l) v.never) p
plains_never x l v (That p) = never_first Expr (Unit {0}) (effect_coded x 0) (sign_form sign_of.Semicolon) (λ e. and_left (nat_le (effect_height e) 0) (is_statement_expr e) (effect_tall e)) p

plain_room : (x : Exprs) (lx : ExprLaws x) (h : ℕ) (l : Level) → LevelLaws h l → Law (Either (Ident × (Unit {0} × Stmt)) (Expr × Unit {0})) (roomy h (Plains x h l))
plain_room x lx zero l f = roomy_zero (Plains x 0 l) (plains_never x l f.body)
plain_room x lx (suc k) l f =
    roomy_suc k (Plains x (suc k) l) (seconds_laws (Ident × (Unit {0} × Stmt)) (Expr × Unit {0}) word_code (sign_code sign_of.Colon ∷ []) (Label (suc k) l) (Effect x lx k) (label_laws k l f) (effect_laws x lx k) (plain_parts x lx k l))

module _ (x : Exprs) (lx : ExprLaws x) (h : ℕ) (l : Level) where
  abbrev pub plain_coded : Coded Stmt
  plain_coded = record { tell = stmt_tokens; fits = stmt_fits (Either (Ident × (Unit {0} × Stmt)) (Expr × Unit {0})) h (roomy h (Plains x h l)) (labeled_or effect_made) is_plain; run = plain_run x h l; starts = (Plains x h l).starts; goes = behind_codes; empties = false }

  pub plain_law : LevelLaws h l → Law Stmt plain_coded
  unfolding plain_run
  plain_law f = stmt_made_law (Either (Ident × (Unit {0} × Stmt)) (Expr × Unit {0})) h (roomy h (Plains x h l)) (labeled_or effect_made) is_plain (plain_room x lx h l f) (plain_kind x h l)

-- variables

module _ (x : Exprs) (h : ℕ) where
  abbrev pub Declares : Coded Variables
  Declares = in_order (vars_coded x h) (sign_form sign_of.Semicolon)

  pub declares_laws : ExprLaws x → Lawful Variables (formed Declares)
  declares_laws lx = (then_a (has (vars_coded x h) (vars_laws x h lx)) (a_sign sign_of.Semicolon) refl).laws

  behind_vars : (more : List (Unit {0} × Var)) → (nat_le (most (map var_height (map behind_it more))) h && list_all is_var (map behind_it more)) ≡ fits_all (λ (p : Unit {0} × Var). true && var_fits x h p.1) more
  behind_vars more = room_and var_height is_var h (map behind_it more) ∙ sym (behind_fits (var_fits x h) more)

  local_bits : (m t f r a v w : Bool) → ((((m && t) && f) && r) && (a && v && w)) ≡ ((m && a) && (t && (((f && v) && (r && w)) && true)))
  local_bits m t f r a v w = grind (arith, common_steps)

  -- heights and shapes of variables together
  pub fit_local : (modifiers : List Modifier) (ty : TypeTree) (p : Variables) → (nat_le (local_height (variables_made modifiers ty p.0)) h && are_locals (variables_made modifiers ty p.0)) ≡ (modifiers_fit x h modifiers && (nat_le (type_height ty) h && Declares.fits p))
  fit_local modifiers ty ((first, more), u) =
      ap (λ b. b && (are_modifiers modifiers && is_var first && list_all is_var (map behind_it more)))
      (room_max (max (max (most (map modifier_height modifiers)) (type_height ty)) (var_height first)) (most (map var_height (map behind_it more))) h
      ∙ ap (λ b. b && nat_le (most (map var_height (map behind_it more))) h)
      (room_max (max (most (map modifier_height modifiers)) (type_height ty)) (var_height first) h ∙ ap (λ b. b && nat_le (var_height first) h) (room_max (most (map modifier_height modifiers)) (type_height ty) h)))
      ∙ local_bits (nat_le (most (map modifier_height modifiers)) h) (nat_le (type_height ty) h) (nat_le (var_height first) h) (nat_le (most (map var_height (map behind_it more))) h) (are_modifiers modifiers) (is_var first) (list_all is_var (map behind_it more))
      ∙ ap (λ b. modifiers_fit x h modifiers && (nat_le (type_height ty) h && ((var_fits x h first && b) && true))) (behind_vars more)

  pub told_local : (modifiers : List Modifier) (ty : TypeTree) (p : Variables) (r : List Told) → local_tokens (variables_made modifiers ty p.0) (sign sign_of.Semicolon ∷ r) ≡ modifiers_tokens modifiers (type_tokens ty (Declares.tell p r))
  told_local modifiers ty ((first, more), u) r = ap (λ (t : List Told). modifiers_tokens modifiers (type_tokens ty (var_tokens first t))) (told_commas (var_coded x h) more (sign sign_of.Semicolon ∷ r))

pub back_variables : (vars : LocalVars) → (p : Variables) × (variables_made vars.modifiers vars.ty p.0 ≡ vars)
back_variables vars = (((vars.first, unled vars.more), tt), ap (λ (more : List Var). record { modifiers = vars.modifiers; ty = vars.ty; first = vars.first; more = more }) (unled_back vars.more))

-- with modifiers

abbrev pub has_modifiers : List Modifier → Bool
has_modifiers [] = false
has_modifiers (m ∷ modifiers) = true

abbrev pub is_moded_local : Layer → Bool
is_moded_local (Stmt-F.Local vars) = has_modifiers vars.modifiers
is_moded_local _ = false

module _ (x : Exprs) (h : ℕ) where
  abbrev LocalParts : Coded (Modifier × (List Modifier × (TypeTree × Variables)))
  LocalParts = in_order (modifier_coded x h) (in_order (modifiers_coded x h) (in_order (type_coded h) (Declares x h)))

  mods_bits : (a b c : Bool) → ((a && b) && c) ≡ (a && (b && c))
  mods_bits a b c = grind (arith, common_steps)

  fit_moded : (p : Modifier × (List Modifier × (TypeTree × Variables))) → good_at h (local_made p) ≡ LocalParts.fits p
  fit_moded (m, (modifiers, (ty, vars))) =
      good_made h (stmt_of.Local (variables_made (m ∷ modifiers) ty vars.0)) (local_height (variables_made (m ∷ modifiers) ty vars.0)) _ (stmt_height-Local (variables_made (m ∷ modifiers) ty vars.0)) (stmt_shape-Local (variables_made (m ∷ modifiers) ty vars.0))
      ∙ fit_local x h (m ∷ modifiers) ty vars
      ∙ ap (λ b. b && (nat_le (type_height ty) h && (Declares x h).fits vars)) (fit_modifiers x h (m ∷ modifiers) ∙ ap (λ b. modifier_fits x h m && b) (sym (fit_modifiers x h modifiers)))
      ∙ mods_bits (modifier_fits x h m) (modifiers_fit x h modifiers) (nat_le (type_height ty) h && (Declares x h).fits vars)

  back_moded : (s : Stmt) (layer : Layer) → out-Stmt s ≡ layer → is_moded_local layer ≡ true → (p : Modifier × (List Modifier × (TypeTree × Variables))) × (local_made p ≡ s)
  back_moded s (Stmt-F.Local vars) e g = by vars.modifiers refl g
    where
      by : (modifiers : List Modifier) → vars.modifiers ≡ modifiers → has_modifiers modifiers ≡ true → (p : Modifier × (List Modifier × (TypeTree × Variables))) × (local_made p ≡ s)
      by [] q g = absurd (false≢true g)
      by (m ∷ modifiers) q g =
          let w = back_variables vars in
          ((m, (modifiers, (vars.ty, w.0))), ap (λ (list : List Modifier). stmt_of.Local (variables_made list vars.ty w.0.0)) (sym q) ∙ ap (λ (v : LocalVars). stmt_of.Local v) w.1 ∙ sym (stmt_of.rolls-Local vars) ∙ ap roll-Stmt (sym e) ∙ roll-out-Stmt s)
  back_moded s _ e g = absurd (false≢true g)

moded_room : (x : Exprs) (lx : ExprLaws x) (h : ℕ) → Law (Modifier × (List Modifier × (TypeTree × Variables))) (roomy h (LocalParts x h))
moded_room x lx zero =
    roomy_zero (LocalParts x 0) (never_second Modifier (List Modifier × (TypeTree × Variables)) (modifier_coded x 0) (in_order (modifiers_coded x 0) (in_order (type_coded 0) (Declares x 0)))
    (never_second (List Modifier) (TypeTree × Variables) (modifiers_coded x 0) (in_order (type_coded 0) (Declares x 0)) (never_first TypeTree Variables (type_coded 0) (Declares x 0) type_never)))
moded_room x lx (suc k) =
    roomy_suc k (LocalParts x (suc k))
    (then_a (has (modifier_coded x (suc k)) (modifier_coded_laws x (suc k) lx)) (then_a (has (modifiers_coded x (suc k)) (modifiers_coded_laws x (suc k) lx)) (then_a (has (type_coded (suc k)) (type_coded_laws k)) (has (Declares x (suc k)) (declares_laws x (suc k) lx)) refl) refl) refl).laws

module _ (x : Exprs) (lx : ExprLaws x) (h : ℕ) where
  abbrev pub local_coded : Coded Stmt
  local_coded = record { tell = stmt_tokens; fits = stmt_fits (Modifier × (List Modifier × (TypeTree × Variables))) h (roomy h (LocalParts x h)) local_made is_moded_local; run = local_run x h; starts = (LocalParts x h).starts; goes = []; empties = false }

  pub local_law : Law Stmt local_coded
  unfolding local_run
  local_law =
      stmt_made_law (Modifier × (List Modifier × (TypeTree × Variables))) h (roomy h (LocalParts x h)) local_made is_moded_local (moded_room x lx h)
      (record {
        told = λ p r. stmt_tokens-Local (variables_made (p.0 ∷ p.1.0) p.1.1.0 p.1.1.1.0) r ∙ told_local x h (p.0 ∷ p.1.0) p.1.1.0 p.1.1.1 r;
        fit = fit_moded x h;
        is_kind = λ p. ap is_moded_local (stmt_of.outs-Local (variables_made (p.0 ∷ p.1.0) p.1.1.0 p.1.1.1.0));
        back = λ s g. back_moded x h s (out-Stmt s) refl g;
      })

-- a label, variables without modifiers, or an effect

abbrev pub is_word : Layer → Bool
is_word (Stmt-F.Labeled label body) = true
is_word (Stmt-F.Effect e) = true
is_word (Stmt-F.Local vars) = not (has_modifiers vars.modifiers)
is_word _ = false

abbrev LocalOrEffect : Type 0
LocalOrEffect = Either (TypeTree × Variables) (Expr × Unit {0})

module _ (x : Exprs) (h : ℕ) (l : Level) where
  abbrev Attempt : Coded LocalOrEffect
  Attempt = attempted TypeTree (Expr × Unit {0}) Variables (word_code ∷ []) (type_coded h) (Declares x h) (PlainEffect x h l)

  abbrev WordForm : Coded (Either (Ident × (Unit {0} × Stmt)) LocalOrEffect)
  WordForm = seconds word_code (sign_code sign_of.Colon ∷ []) (Label h l) Attempt

  fit_word : (o : Either (Ident × (Unit {0} × Stmt)) LocalOrEffect) → good_at h (labeled_or local_or_effect o) ≡ WordForm.fits o
  fit_word (This p) = fit_label x h l p
  fit_word (That (This (ty, vars))) =
      good_made h (stmt_of.Local (variables_made [] ty vars.0)) (local_height (variables_made [] ty vars.0)) _ (stmt_height-Local (variables_made [] ty vars.0)) (stmt_shape-Local (variables_made [] ty vars.0))
      ∙ fit_local x h [] ty vars ∙ ap (λ b. (b && true) && (nat_le (type_height ty) h && (Declares x h).fits vars)) (room_above h)
  fit_word (That (That p)) = fit_effect x h l p

  told_word : (o : Either (Ident × (Unit {0} × Stmt)) LocalOrEffect) (r : List Told) → stmt_tokens (labeled_or local_or_effect o) r ≡ WordForm.tell o r
  told_word (This (name, (u, body))) r = stmt_tokens-Labeled name body r
  told_word (That (This (ty, vars))) r = stmt_tokens-Local (variables_made [] ty vars.0) r ∙ told_local x h [] ty vars r
  told_word (That (That (e, u))) r = stmt_tokens-Effect e r

  kind_word : (o : Either (Ident × (Unit {0} × Stmt)) LocalOrEffect) → is_word (out-Stmt (labeled_or local_or_effect o)) ≡ true
  kind_word (This (name, (u, body))) = ap is_word (stmt_of.outs-Labeled name body)
  kind_word (That (This (ty, vars))) = ap is_word (stmt_of.outs-Local (variables_made [] ty vars.0))
  kind_word (That (That (e, u))) = ap is_word (stmt_of.outs-Effect e)

  back_word : (s : Stmt) (layer : Layer) → out-Stmt s ≡ layer → is_word layer ≡ true → (o : Either (Ident × (Unit {0} × Stmt)) LocalOrEffect) × (labeled_or local_or_effect o ≡ s)
  back_word s (Stmt-F.Labeled label body) e g = (This (label, (tt, body)), sym (stmt_of.rolls-Labeled label body) ∙ ap roll-Stmt (sym e) ∙ roll-out-Stmt s)
  back_word s (Stmt-F.Effect it) e g = (That (That (it, tt)), sym (stmt_of.rolls-Effect it) ∙ ap roll-Stmt (sym e) ∙ roll-out-Stmt s)
  back_word s (Stmt-F.Local vars) e g = by vars.modifiers refl g
    where
      by : (modifiers : List Modifier) → vars.modifiers ≡ modifiers → not (has_modifiers modifiers) ≡ true → (o : Either (Ident × (Unit {0} × Stmt)) LocalOrEffect) × (labeled_or local_or_effect o ≡ s)
      by [] q g =
          let w = back_variables vars in
          (That (This (vars.ty, w.0)), ap (λ (list : List Modifier). stmt_of.Local (variables_made list vars.ty w.0.0)) (sym q) ∙ ap (λ (v : LocalVars). stmt_of.Local v) w.1 ∙ sym (stmt_of.rolls-Local vars) ∙ ap roll-Stmt (sym e) ∙ roll-out-Stmt s)
      by (m ∷ modifiers) q g = absurd (false≢true g)
  back_word s _ e g = absurd (false≢true g)

module _ (x : Exprs) (lx : ExprLaws x) (k : ℕ) (l : Level) where
  attempts : Attempts TypeTree (Expr × Unit {0}) Variables (word_code ∷ []) (type_coded (suc k)) (Declares x (suc k)) (Effect x lx k)
  attempts = record {
    solid = refl;
    solid' = refl;
    solid'' = refl;
    next = refl;
    meets = refl;
    other = λ ts p r ty q s t e.
        let c = cut Expr (Unit {0}) (formed (effect_coded x (suc k))) (formed (sign_form sign_of.Semicolon)) (lx.effect k) (a_sign sign_of.Semicolon).laws (λ v q. apart_sets (sign_code sign_of.Semicolon ∷ []) (effect_coded x (suc k)).goes refl (front_code v) q) ts p r s in
        lx.effect_or_type k ts p.0 c.0 ty q c.1 t e;
  }

  attempt_laws : Lawful LocalOrEffect (formed (Attempt x (suc k) l))
  attempt_laws = attempted_laws TypeTree (Expr × Unit {0}) Variables (word_code ∷ []) (type_coded (suc k)) (Declares x (suc k)) (Effect x lx k) (type_coded_laws k) (declares_laws x (suc k) lx) (effect_laws x lx k) attempts

  -- no type with a word behind it is a word with a colon behind it
  type_apart : (t u : Token) (us : List Token) (ty : TypeTree) (m : List Token) → Stands (formed (type_coded (suc k))) (t ∷ u ∷ us) ty m → one_of (word_code ∷ []) m ≡ true → second_is word_code (sign_code sign_of.Colon ∷ []) (t ∷ u ∷ us) ≡ true → ⊥
  type_apart t u us ty m s n e =
      let a = and_parts (kind_code t.kind == word_code) (one_of (sign_code sign_of.Colon ∷ []) (u ∷ us)) e in
      let w = word_kind t.kind a.0 in
      let lt = type_coded_laws k in
      let one = lt.exact (t ∷ u ∷ us) (simple_type t.from w.0) (u ∷ us) (stands_type k t w.0 (u ∷ us) w.1) (apart_sets (sign_code sign_of.Colon ∷ []) (type_coded (suc k)).goes refl (front_code (u ∷ us)) a.1) in
      let two = lt.exact (t ∷ u ∷ us) ty m s (apart_sets (word_code ∷ []) (type_coded (suc k)).goes refl (front_code m) n) in
      let same : (u ∷ us) ≡ m = ap (λ (v : Read TypeTree). rest_or m v) (sym one.1 ∙ two.1) in
      false≢true (sym (apart_sets (word_code ∷ []) (sign_code sign_of.Colon ∷ []) refl (front_code m) n) ∙ subst (λ (v : List Token). one_of (sign_code sign_of.Colon ∷ []) v ≡ true) same a.1)
    where
      rest_or : List Token → Read TypeTree → List Token
      rest_or d (Found b q n) = q
      rest_or d (Stopped n) = d

  attempt_apart : (ts : List Token) (o : LocalOrEffect) (r : List Token) → Stands (formed (Attempt x (suc k) l)) ts o r → second_is word_code (sign_code sign_of.Colon ∷ []) ts ≡ false
  attempt_apart ts (That p) r s = effect_apart x lx k ts p r s
  attempt_apart ts (This (ty, vars)) r s = false_from_ne_true (second_is word_code (sign_code sign_of.Colon ∷ []) ts) (λ e. clash ts s e)
    where
      clash : (ts : List Token) → Stands (formed (in_order (type_coded (suc k)) (Declares x (suc k)))) ts (ty, vars) r → second_is word_code (sign_code sign_of.Colon ∷ []) ts ≡ true → ⊥
      clash [] s e = false≢true e
      clash (t ∷ []) s e = false≢true (sym (and_right (kind_code t.kind == word_code) false refl) ∙ e)
      clash (t ∷ u ∷ us) s e =
          let c = cut TypeTree Variables (formed (type_coded (suc k))) (formed (Declares x (suc k))) (type_coded_laws k) (declares_laws x (suc k) lx) (λ v q. apart_sets (word_code ∷ []) (type_coded (suc k)).goes refl (front_code v) q) (t ∷ u ∷ us) (ty, vars) r s in
          let n : one_of (word_code ∷ []) c.0 ≡ true = ⊎_elim (λ o. o.0) (λ o. absurd (false≢true o.1)) ((declares_laws x (suc k) lx).opens c.0 vars r c.2) in
          type_apart t u us ty c.0 c.1 n e

word_room : (x : Exprs) (lx : ExprLaws x) (h : ℕ) (l : Level) → LevelLaws h l → Law (Either (Ident × (Unit {0} × Stmt)) LocalOrEffect) (roomy h (WordForm x h l))
word_room x lx zero l f = roomy_zero (WordForm x 0 l) none
  where
    none : (o : Either (Ident × (Unit {0} × Stmt)) LocalOrEffect) → (WordForm x 0 l).fits o ≡ false
    none (This p) = plains_never x l f.body (This p)
    none (That (This p)) = never_first TypeTree Variables (type_coded 0) (Declares x 0) type_never p
    none (That (That p)) = plains_never x l f.body (That p)
word_room x lx (suc k) l f =
    roomy_suc k (WordForm x (suc k) l)
    (seconds_laws (Ident × (Unit {0} × Stmt)) LocalOrEffect word_code (sign_code sign_of.Colon ∷ []) (Label (suc k) l) (Attempt x (suc k) l) (label_laws k l f) (attempt_laws x lx k l)
    (record { solid = refl; solid' = refl; this = label_there (suc k) l; that = attempt_apart x lx k l; passes = label_passes (suc k) l }))

module _ (x : Exprs) (lx : ExprLaws x) (h : ℕ) (l : Level) where
  abbrev pub word_coded : Coded Stmt
  word_coded = record { tell = stmt_tokens; fits = stmt_fits (Either (Ident × (Unit {0} × Stmt)) LocalOrEffect) h (roomy h (WordForm x h l)) (labeled_or local_or_effect) is_word; run = word_run x h l; starts = (WordForm x h l).starts; goes = behind_codes; empties = false }

  pub word_law : LevelLaws h l → Law Stmt word_coded
  unfolding word_run
  word_law f =
      stmt_made_law (Either (Ident × (Unit {0} × Stmt)) LocalOrEffect) h (roomy h (WordForm x h l)) (labeled_or local_or_effect) is_word (word_room x lx h l f)
      (record { told = told_word x h l; fit = fit_word x h l; is_kind = kind_word x h l; back = λ s g. back_word x h l s (out-Stmt s) refl g })

-- what takes no `else` behind it is found whatever follows

pub closed_plain : (x : Exprs) (lx : ExprLaws x) (k : ℕ) (l : Level) (f : LevelLaws (suc k) l) (ts : List Token) (s : Stmt) (r : List Token) → Stands (formed (plain_coded x lx (suc k) l)) ts s r → (stmt_shape s).open_end ≡ false → one_of else_codes r ≡ true → IsFound s r (plain_run x (suc k) l ts)
unfolding plain_run with_room
closed_plain x lx k l f ts s r t e z =
    closed_made (Either (Ident × (Unit {0} × Stmt)) (Expr × Unit {0})) Stmt (roomy (suc k) (Plains x (suc k) l)) (labeled_or effect_made) stmt_tokens (stmt_fits (Either (Ident × (Unit {0} × Stmt)) (Expr × Unit {0})) (suc k) (roomy (suc k) (Plains x (suc k) l)) (labeled_or effect_made) is_plain)
    (kind_makes (Either (Ident × (Unit {0} × Stmt)) (Expr × Unit {0})) Stmt (roomy (suc k) (Plains x (suc k) l)) (labeled_or effect_made) stmt_tokens (λ s. is_plain (out-Stmt s)) (good_at (suc k)) (plain_kind x (suc k) l)) ts s r t
    (λ o q u. by o (ap (λ (v : Stmt). (stmt_shape v).open_end) q ∙ e) u)
  where
    by : (o : Either (Ident × (Unit {0} × Stmt)) (Expr × Unit {0})) → (stmt_shape (labeled_or effect_made o)).open_end ≡ false → Stands (formed (Plains x (suc k) l)) ts o r → IsFound o r ((Plains x (suc k) l).run ts)
    by (That p) e u =
        subst (λ (m : Read (Either (Ident × (Unit {0} × Stmt)) (Expr × Unit {0}))). IsFound (That p) r m) (sym (cond-false (second_is word_code (sign_code sign_of.Colon ∷ []) ts) _ _ (effect_apart x lx k ts p r u)))
        (past_found ts (found_becoming That p r ((Effect x lx k).run ts) ((effect_laws x lx k).exact ts p r u refl)))
      where
        past_found : (ts : List Token) {m : Read (Either (Ident × (Unit {0} × Stmt)) (Expr × Unit {0}))} → IsFound (That p) r m → IsFound (That p) r (past word_code ts m)
        past_found [] f = f
        past_found (t ∷ us) {m} f = cond_both (kind_code t.kind == word_code) (noting (length us) m) m (IsFound (That p) r) (λ q. found_noting (length us) (That p) r m f) (λ q. f)
    by (This p) e u =
        subst (λ (m : Read (Either (Ident × (Unit {0} × Stmt)) (Expr × Unit {0}))). IsFound (This p) r m) (sym (cond-true (second_is word_code (sign_code sign_of.Colon ∷ []) ts) _ _ (label_there (suc k) l ts p r u)))
        (found_becoming This p r ((Label (suc k) l).run ts)
        (closed_order Ident (Unit {0} × Stmt) ident_form (in_order (sign_form sign_of.Colon) (body_coded (suc k) l)) ident_laws (then_a (a_sign sign_of.Colon) (has (body_coded (suc k) l) f.body) refl).laws refl refl ts p r u
        (λ m v. closed_order (Unit {0}) Stmt (sign_form sign_of.Colon) (body_coded (suc k) l) (a_sign sign_of.Colon).laws f.body refl refl m p.1 r v
        (λ n w. f.closed n p.1.1 r w (sym (ap (λ (g : StmtShape). g.open_end) (stmt_shape-Labeled p.0 p.1.1)) ∙ e) z))))
