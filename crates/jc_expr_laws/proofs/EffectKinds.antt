-- Which expressions stand as statements: assignments, chains of prefix operators, and some of the postfix level.
use Rattle.std.proofs.Common.{◌≡◌, ℕ, ◌≤◌, max, Bool, true, List, [], ◌∷◌, refl, sym, ap, ◌∙◌, subst, ⊎_elim, ◌⊎◌, inl, inr, arith}
use Rattle.std.proofs.lemmas.Bool.{false≢true, and_parts, and_from, leb-true, le-leb}
use Rattle.std.specs.Prelude.{nat_le}
use Rattle.jc_tree.specs.declared.expression.ArrayInit.{ArrayInit}
use Rattle.jc_tree.specs.declared.expression.AssignOp.{AssignOp}
use Rattle.jc_tree.specs.declared.expression.Creation.{Creation}
use Rattle.jc_tree.specs.declared.expression.Expr.{Expr, Expr-F, out-Expr, roll-Expr, roll-out-Expr, map-Expr}
use Rattle.jc_tree.specs.declared.expression.Expr.TheVariants as expr_of
use Rattle.jc_tree.specs.declared.expression.Init.{Init}
use Rattle.jc_tree.specs.declared.expression.Operand.{Operand}
use Rattle.jc_tree.specs.declared.expression.PrefixOp.{PrefixOp}
use Rattle.jc_tree.specs.declared.expression.PrefixSign.{PrefixSign}
use Rattle.jc_tree.specs.declared.expression.PrefixSign.TheVariants as prefix_of
use Rattle.jc_tree.specs.Heights.{expr_height, effect_height, effect_over}
use Rattle.jc_grammar.specs.Shapes.{Shape, CreationShape, OperandShape, stands, prefix_level, expr_shape, creation_shape, operand_shape, is_init, is_array, expr_shape_step, is_effect}
use Rattle.jc_grammar.proofs.ShapesOfExpressions.{expr_shape-out}
use Rattle.jc_expr_laws.proofs.LevelPrefixes.{IsPrefix}
use Rattle.jc_expr_laws.proofs.LevelAssigns.{IsAssign}

abbrev Layer : Type 0
Layer = Expr-F Creation Expr Init Operand ArrayInit

abbrev shaped : Layer → Shape
shaped l = expr_shape_step (map-Expr Creation Expr Init Operand ArrayInit CreationShape Shape Bool OperandShape Bool creation_shape expr_shape is_init operand_shape is_array l)

-- their heights

pub effect_height-Assign : (target : Expr) (op : AssignOp) (value : Expr) → effect_height (expr_of.Assign target op value) ≡ max (expr_height target) (expr_height value)
effect_height-Assign target op value = ap (λ (l : Layer). effect_over l (expr_height (expr_of.Assign target op value))) (expr_of.outs-Assign target op value)

pub effect_height-Prefix : (first : PrefixOp) (more : List PrefixOp) (operand : Expr) → effect_height (expr_of.Prefix first more operand) ≡ expr_height operand
effect_height-Prefix first more operand = ap (λ (l : Layer). effect_over l (expr_height (expr_of.Prefix first more operand))) (expr_of.outs-Prefix first more operand)

prefix_loose : (s : PrefixSign) → prefix_level s ≤ 13
prefix_loose prefix_of.Plus = omega arith
prefix_loose prefix_of.Minus = omega arith
prefix_loose prefix_of.Increment = omega arith
prefix_loose prefix_of.Decrement = omega arith
prefix_loose prefix_of.Not = omega arith
prefix_loose prefix_of.Complement = omega arith

high_over : (l : Layer) (n : ℕ) → 14 ≤ (shaped l).level → effect_over l n ≡ n
high_over (Expr-F.Assign target op value) n g = absurd (omega (arith, g))
high_over (Expr-F.Prefix first more operand) n g = let k = prefix_loose first.sign in absurd (omega (arith, g, k))
high_over _ n g = refl

-- one of the postfix level is as deep as it is anywhere
pub effect_height-post : (e : Expr) → stands 14 (expr_shape e) ≡ true → effect_height e ≡ expr_height e
effect_height-post e s =
    let h : 14 ≤ (expr_shape e).level = leb-true 14 (expr_shape e).level (and_parts (expr_shape e).good (nat_le 14 (expr_shape e).level) s).1 in
    high_over (out-Expr e) (expr_height e) (subst (λ (z : Shape). 14 ≤ z.level) (expr_shape-out e) h)

abbrev Kinds : Expr → Layer → Type 0
Kinds e l = IsAssign e ⊎ (IsPrefix e ⊎ (14 ≤ (shaped l).level))

kinds : (e : Expr) (l : Layer) → out-Expr e ≡ l → (shaped l).effect ≡ true → Kinds e l
kinds e (Expr-F.Assign target op value) q g = inl (record { target = target; op = op; value = value; is_it = sym (expr_of.rolls-Assign target op value) ∙ ap roll-Expr (sym q) ∙ roll-out-Expr e })
kinds e (Expr-F.Prefix first more operand) q g = inr (inl (record { first = first; more = more; operand = operand; is_it = sym (expr_of.rolls-Prefix first more operand) ∙ ap roll-Expr (sym q) ∙ roll-out-Expr e }))
kinds e (Expr-F.Conditional test then_it else_it) q g = absurd (false≢true g)
kinds e (Expr-F.Chain first []) q g = absurd (false≢true g)
kinds e (Expr-F.Chain first (o ∷ rest)) q g = absurd (false≢true g)
kinds e (Expr-F.Cast at ty operand) q g = absurd (false≢true g)
kinds e _ q g = inr (inr (omega arith))

pub effect_kinds : (e : Expr) → stands 0 (expr_shape e) ≡ true → is_effect e ≡ true → IsAssign e ⊎ (IsPrefix e ⊎ (stands 14 (expr_shape e) ≡ true))
effect_kinds e s g =
    ⊎_elim (λ a. inl a)
    (λ o. ⊎_elim (λ p. inr (inl p))
    (λ h. let k : 14 ≤ (expr_shape e).level = subst (λ (z : Shape). 14 ≤ z.level) (sym (expr_shape-out e)) h in
    inr (inr (and_from (expr_shape e).good (nat_le 14 (expr_shape e).level) (and_parts (expr_shape e).good (nat_le 0 (expr_shape e).level) s).0 (le-leb 14 (expr_shape e).level k)))) o)
    (kinds e (out-Expr e) refl (sym (ap (λ (z : Shape). z.effect) (expr_shape-out e)) ∙ g))
