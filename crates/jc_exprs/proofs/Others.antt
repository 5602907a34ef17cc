-- Expressions of which a reading is that of their value, by one layer of their tree.
use Rattle.std.proofs.Common.{◌≡◌, refl, ap, sym, ◌∙◌, ℕ, List, Option, None}
use Rattle.jc_tree.specs.declared.expression.ArrayInit.{ArrayInit}
use Rattle.jc_tree.specs.declared.expression.Creation.{Creation}
use Rattle.jc_tree.specs.declared.expression.Expr.{Expr, Expr-F, fold_out-Expr, map-Expr, out-Expr, roll-Expr, roll-out-Expr}
use Rattle.jc_tree.specs.declared.expression.Expr.TheVariants as anExpr
use Rattle.jc_tree.specs.declared.expression.Init.{Init}
use Rattle.jc_tree.specs.declared.expression.Literal.{Literal}
use Rattle.jc_tree.specs.declared.expression.Operand.{Operand}
use Rattle.jc_tree.specs.declared.name.Ident.{Ident}
use Rattle.jc_tree.specs.declared.types.TypeArg.{TypeArg}
use Rattle.jc_exprs_nodes_spec.specs.Told.{Standing, by_rule, fine, ran}
use Rattle.jc_exprs_nodes_spec.specs.Gates.{gated}
use Rattle.jc_exprs_nodes_spec.specs.Typeds.{Typed}
use Rattle.jc_exprs_nodes_spec.proofs.Runs.{ran_onward}
use Rattle.jc_exprs_parts_spec.specs.Names.{Located, Value}
use Rattle.jc_exprs_parts_spec.specs.Worlds.{World}
use Rattle.jc_exprs_spec.specs.Typing.{Created, Further, Given, Listing, Node, array_step, as_meaning, creation_step, effect, expr_step, init_step, made, made_array, made_creation, made_init, made_operand, no_variable, operand_step, typing}
use Rattle.jc_exprs_forms.specs.Forms.{located, meant, negated}

abbrev Layer : Type 0
Layer = Expr-F Creation Expr Init Operand ArrayInit

abbrev step : World → Layer → Node
step W l = expr_step W (map-Expr Creation Expr Init Operand ArrayInit Created Node Given Further Listing (made_creation W) (made W) (made_init W) (made_operand W) (made_array W) l)

made_at : (W : World) (e : Expr) → made W e ≡ step W (out-Expr e)
unfolding made made_creation made_init made_operand made_array
made_at W e = fold_out-Expr Created Node Given Further Listing (creation_step W) (expr_step W) (init_step W) operand_step (array_step W) e

rolled : (e : Expr) (l : Layer) → out-Expr e ≡ l → e ≡ roll-Expr l
rolled e l q = sym (roll-out-Expr e) ∙ ap roll-Expr q

-- ---- which forms an expression hasn't

abbrev pub IsNoLiteral : Expr → Type 0
IsNoLiteral e = (n : ℕ) (value : Literal) → e ≡ anExpr.Literal n value → ⊥

abbrev pub IsNoField : Expr → Type 0
IsNoField e = (of_it : Expr) (name : Ident) → e ≡ anExpr.Field of_it name → ⊥

abbrev pub IsNoName : Expr → Type 0
IsNoName e = (it : Ident) → e ≡ anExpr.Name it → ⊥

abbrev pub IsNoIndex : Expr → Type 0
IsNoIndex e = (of_it index : Expr) → e ≡ anExpr.Index of_it index → ⊥

abbrev pub IsNoSuperField : Expr → Type 0
IsNoSuperField e = (n : ℕ) (name : Ident) → e ≡ anExpr.SuperField n name → ⊥

abbrev pub IsNoParen : Expr → Type 0
IsNoParen e = (n : ℕ) (inner : Expr) → e ≡ anExpr.Paren n inner → ⊥

abbrev pub IsNoCall : Expr → Type 0
IsNoCall e = (of_it : Expr) (args : List TypeArg) (name : Ident) (actuals : List Expr) → e ≡ anExpr.Call of_it args name actuals → ⊥

abbrev pub IsNoSuperCall : Expr → Type 0
IsNoSuperCall e = (n : ℕ) (args : List TypeArg) (name : Ident) (actuals : List Expr) → e ≡ anExpr.SuperCall n args name actuals → ⊥

abbrev pub IsNoInvoke : Expr → Type 0
IsNoInvoke e = (name : Ident) (actuals : List Expr) → e ≡ anExpr.Invoke name actuals → ⊥

-- ---- negated

negated_step : (W : World) (e : Expr) (l : Layer) → out-Expr e ≡ l → IsNoLiteral e → (step W l).negated ≡ (step W l).run None
negated_step W e (Expr-F.Assign l o r) q noLiteral = refl
negated_step W e (Expr-F.Conditional x a b) q noLiteral = refl
negated_step W e (Expr-F.Chain first rest) q noLiteral = refl
negated_step W e (Expr-F.Prefix first more operand) q noLiteral = refl
negated_step W e (Expr-F.Cast n ty operand) q noLiteral = refl
negated_step W e (Expr-F.Postfix of_it o) q noLiteral = refl
negated_step W e (Expr-F.Field of_it name) q noLiteral = refl
negated_step W e (Expr-F.Call of_it args name actuals) q noLiteral = refl
negated_step W e (Expr-F.Index of_it index) q noLiteral = refl
negated_step W e (Expr-F.InnerNew of_it creation) q noLiteral = refl
negated_step W e (Expr-F.Literal n value) q noLiteral = absurd (noLiteral n value (rolled e (Expr-F.Literal n value) q ∙ anExpr.rolls-Literal n value))
negated_step W e (Expr-F.This n) q noLiteral = refl
negated_step W e (Expr-F.SuperField n name) q noLiteral = refl
negated_step W e (Expr-F.SuperCall n args name actuals) q noLiteral = refl
negated_step W e (Expr-F.Paren n inner) q noLiteral = refl
negated_step W e (Expr-F.Name it) q noLiteral = refl
negated_step W e (Expr-F.Invoke name actuals) q noLiteral = refl
negated_step W e (Expr-F.New n creation) q noLiteral = refl
negated_step W e (Expr-F.ClassLiteral ty) q noLiteral = refl
negated_step W e (Expr-F.VoidLiteral n) q noLiteral = refl
negated_step W e (Expr-F.OuterThis first more) q noLiteral = refl

pub negated_value : (W : World) (e : Expr) → IsNoLiteral e → negated W e ≡ typing W None e
unfolding negated typing
negated_value W e noLiteral =
    ap (λ (n : Node). n.negated) (made_at W e) ∙ negated_step W e (out-Expr e) refl noLiteral ∙ sym (ap (λ (n : Node). n.run None) (made_at W e))

-- ---- meant

meant_step : (W : World) (e : Expr) (l : Layer) → out-Expr e ≡ l → IsNoField e → IsNoName e → (step W l).meaning ≡ as_meaning ((step W l).run None)
meant_step W e (Expr-F.Assign l o r) q noField noName = refl
meant_step W e (Expr-F.Conditional x a b) q noField noName = refl
meant_step W e (Expr-F.Chain first rest) q noField noName = refl
meant_step W e (Expr-F.Prefix first more operand) q noField noName = refl
meant_step W e (Expr-F.Cast n ty operand) q noField noName = refl
meant_step W e (Expr-F.Postfix of_it o) q noField noName = refl
meant_step W e (Expr-F.Field of_it name) q noField noName = absurd (noField of_it name (rolled e (Expr-F.Field of_it name) q ∙ anExpr.rolls-Field of_it name))
meant_step W e (Expr-F.Call of_it args name actuals) q noField noName = refl
meant_step W e (Expr-F.Index of_it index) q noField noName = refl
meant_step W e (Expr-F.InnerNew of_it creation) q noField noName = refl
meant_step W e (Expr-F.Literal n value) q noField noName = refl
meant_step W e (Expr-F.This n) q noField noName = refl
meant_step W e (Expr-F.SuperField n name) q noField noName = refl
meant_step W e (Expr-F.SuperCall n args name actuals) q noField noName = refl
meant_step W e (Expr-F.Paren n inner) q noField noName = refl
meant_step W e (Expr-F.Name it) q noField noName = absurd (noName it (rolled e (Expr-F.Name it) q ∙ anExpr.rolls-Name it))
meant_step W e (Expr-F.Invoke name actuals) q noField noName = refl
meant_step W e (Expr-F.New n creation) q noField noName = refl
meant_step W e (Expr-F.ClassLiteral ty) q noField noName = refl
meant_step W e (Expr-F.VoidLiteral n) q noField noName = refl
meant_step W e (Expr-F.OuterThis first more) q noField noName = refl

pub meant_value : (W : World) (e : Expr) → IsNoField e → IsNoName e → meant W e ≡ as_meaning (typing W None e)
unfolding meant typing
meant_value W e noField noName =
    ap (λ (n : Node). n.meaning) (made_at W e) ∙ meant_step W e (out-Expr e) refl noField noName ∙ sym (ap (λ (n : Node). as_meaning (n.run None)) (made_at W e))

-- ---- located

located_step : (W : World) (e : Expr) (l : Layer) → out-Expr e ≡ l → IsNoField e → IsNoIndex e → IsNoSuperField e → IsNoParen e → IsNoName e → (step W l).located ≡ no_variable ((step W l).run None)
located_step W e (Expr-F.Assign l o r) q noField noIndex noSuperField noParen noName = refl
located_step W e (Expr-F.Conditional x a b) q noField noIndex noSuperField noParen noName = refl
located_step W e (Expr-F.Chain first rest) q noField noIndex noSuperField noParen noName = refl
located_step W e (Expr-F.Prefix first more operand) q noField noIndex noSuperField noParen noName = refl
located_step W e (Expr-F.Cast n ty operand) q noField noIndex noSuperField noParen noName = refl
located_step W e (Expr-F.Postfix of_it o) q noField noIndex noSuperField noParen noName = refl
located_step W e (Expr-F.Field of_it name) q noField noIndex noSuperField noParen noName = absurd (noField of_it name (rolled e (Expr-F.Field of_it name) q ∙ anExpr.rolls-Field of_it name))
located_step W e (Expr-F.Call of_it args name actuals) q noField noIndex noSuperField noParen noName = refl
located_step W e (Expr-F.Index of_it index) q noField noIndex noSuperField noParen noName = absurd (noIndex of_it index (rolled e (Expr-F.Index of_it index) q ∙ anExpr.rolls-Index of_it index))
located_step W e (Expr-F.InnerNew of_it creation) q noField noIndex noSuperField noParen noName = refl
located_step W e (Expr-F.Literal n value) q noField noIndex noSuperField noParen noName = refl
located_step W e (Expr-F.This n) q noField noIndex noSuperField noParen noName = refl
located_step W e (Expr-F.SuperField n name) q noField noIndex noSuperField noParen noName = absurd (noSuperField n name (rolled e (Expr-F.SuperField n name) q ∙ anExpr.rolls-SuperField n name))
located_step W e (Expr-F.SuperCall n args name actuals) q noField noIndex noSuperField noParen noName = refl
located_step W e (Expr-F.Paren n inner) q noField noIndex noSuperField noParen noName = absurd (noParen n inner (rolled e (Expr-F.Paren n inner) q ∙ anExpr.rolls-Paren n inner))
located_step W e (Expr-F.Name it) q noField noIndex noSuperField noParen noName = absurd (noName it (rolled e (Expr-F.Name it) q ∙ anExpr.rolls-Name it))
located_step W e (Expr-F.Invoke name actuals) q noField noIndex noSuperField noParen noName = refl
located_step W e (Expr-F.New n creation) q noField noIndex noSuperField noParen noName = refl
located_step W e (Expr-F.ClassLiteral ty) q noField noIndex noSuperField noParen noName = refl
located_step W e (Expr-F.VoidLiteral n) q noField noIndex noSuperField noParen noName = refl
located_step W e (Expr-F.OuterThis first more) q noField noIndex noSuperField noParen noName = refl

pub located_value : (W : World) (e : Expr) → IsNoField e → IsNoIndex e → IsNoSuperField e → IsNoParen e → IsNoName e → located W e ≡ no_variable (typing W None e)
unfolding located typing
located_value W e noField noIndex noSuperField noParen noName =
    ap (λ (n : Node). n.located) (made_at W e) ∙ located_step W e (out-Expr e) refl noField noIndex noSuperField noParen noName ∙ sym (ap (λ (n : Node). no_variable (n.run None)) (made_at W e))

-- ---- effect

effect_step : (W : World) (e : Expr) (l : Layer) → out-Expr e ≡ l → IsNoCall e → IsNoSuperCall e → IsNoInvoke e → (step W l).effect ≡ (step W l).run None
effect_step W e (Expr-F.Assign l o r) q noCall noSuperCall noInvoke = refl
effect_step W e (Expr-F.Conditional x a b) q noCall noSuperCall noInvoke = refl
effect_step W e (Expr-F.Chain first rest) q noCall noSuperCall noInvoke = refl
effect_step W e (Expr-F.Prefix first more operand) q noCall noSuperCall noInvoke = refl
effect_step W e (Expr-F.Cast n ty operand) q noCall noSuperCall noInvoke = refl
effect_step W e (Expr-F.Postfix of_it o) q noCall noSuperCall noInvoke = refl
effect_step W e (Expr-F.Field of_it name) q noCall noSuperCall noInvoke = refl
effect_step W e (Expr-F.Call of_it args name actuals) q noCall noSuperCall noInvoke = absurd (noCall of_it args name actuals (rolled e (Expr-F.Call of_it args name actuals) q ∙ anExpr.rolls-Call of_it args name actuals))
effect_step W e (Expr-F.Index of_it index) q noCall noSuperCall noInvoke = refl
effect_step W e (Expr-F.InnerNew of_it creation) q noCall noSuperCall noInvoke = refl
effect_step W e (Expr-F.Literal n value) q noCall noSuperCall noInvoke = refl
effect_step W e (Expr-F.This n) q noCall noSuperCall noInvoke = refl
effect_step W e (Expr-F.SuperField n name) q noCall noSuperCall noInvoke = refl
effect_step W e (Expr-F.SuperCall n args name actuals) q noCall noSuperCall noInvoke = absurd (noSuperCall n args name actuals (rolled e (Expr-F.SuperCall n args name actuals) q ∙ anExpr.rolls-SuperCall n args name actuals))
effect_step W e (Expr-F.Paren n inner) q noCall noSuperCall noInvoke = refl
effect_step W e (Expr-F.Name it) q noCall noSuperCall noInvoke = refl
effect_step W e (Expr-F.Invoke name actuals) q noCall noSuperCall noInvoke = absurd (noInvoke name actuals (rolled e (Expr-F.Invoke name actuals) q ∙ anExpr.rolls-Invoke name actuals))
effect_step W e (Expr-F.New n creation) q noCall noSuperCall noInvoke = refl
effect_step W e (Expr-F.ClassLiteral ty) q noCall noSuperCall noInvoke = refl
effect_step W e (Expr-F.VoidLiteral n) q noCall noSuperCall noInvoke = refl
effect_step W e (Expr-F.OuterThis first more) q noCall noSuperCall noInvoke = refl

pub effect_value : (W : World) (e : Expr) → IsNoCall e → IsNoSuperCall e → IsNoInvoke e → effect W e ≡ typing W None e
unfolding effect typing
effect_value W e noCall noSuperCall noInvoke =
    ap (λ (n : Node). n.effect) (made_at W e) ∙ effect_step W e (out-Expr e) refl noCall noSuperCall noInvoke ∙ sym (ap (λ (n : Node). n.run None) (made_at W e))

-- ---- a walk through what means its value, and through what is no variable

pub meant_through : (W : World) (e : Expr) (s t : Standing) (x : Option Typed) → IsNoField e → IsNoName e → (ran (typing W None e) s).state ≡ t → (ran (typing W None e) s).has ≡ x →
    ran (meant W e) s ≡ gated (λ v. fine (Value v)) x t
meant_through W e s t x noField noName u v = rw (meant_value W e noField noName) (ran_onward (λ v. fine (Value v)) (typing W None e) s ∙ rw (u, v) refl)

pub located_through : (W : World) (e : Expr) (s t : Standing) (x : Option Typed) → IsNoField e → IsNoIndex e → IsNoSuperField e → IsNoParen e → IsNoName e → (ran (typing W None e) s).state ≡ t → (ran (typing W None e) s).has ≡ x →
    ran (located W e) s ≡ gated (λ v. by_rule {A = Located} 610 v.place) x t
located_through W e s t x a b c d f u v =
    rw (located_value W e a b c d f) (ran_onward (λ v. by_rule {A = Located} 610 v.place) (typing W None e) s ∙ rw (u, v) refl)
