-- The heights of nodes that are built of trees with their heights.
use Rattle.std.proofs.Common.{◌≡◌, ℕ, ◌<◌, max, List, [], ◌∷◌, map, ap, ◌∙◌, arith}
use Rattle.std.proofs.lemmas.Bool.Decides.{nat_tests}
use Rattle.jc_tree.specs.declared.types.TypeTree.{TypeTree}
use Rattle.jc_tree.specs.declared.expression.AssignOp.{AssignOp}
use Rattle.jc_tree.specs.declared.expression.PrefixOp.{PrefixOp}
use Rattle.jc_tree.specs.declared.expression.Expr.{Expr}
use Rattle.jc_tree.specs.declared.expression.Expr.TheVariants as expr_of
use Rattle.jc_tree.specs.declared.expression.Operand.{Operand}
use Rattle.jc_tree.specs.declared.expression.Operand.TheVariants as operand_of
use Rattle.jc_tree.specs.Heights.{capped, most, expr_height, operand_height, type_height}
use Rattle.jc_tree.proofs.HeightsOfExpressions.{expr_height-Assign, expr_height-Conditional, expr_height-Chain, expr_height-Prefix, expr_height-Cast, operand_height-InstanceOf}
use Rattle.jc_part_laws.proofs.ExprForms.{expr_tall}
use Rattle.jc_parse_expr.specs.declared.measured.Measured.{Measured}
use Rattle.jc_parse_expr.specs.Measuring.{measured, measured_operands, of_height}
use Rattle.jc_parse_expr.specs.Nodes.{above, assign_node, conditional_node, chain_node, prefix_node, cast_node}
use Rattle.jc_parse_expr.specs.BinaryLevels.{chain_of}

pub height_of_instance : (ty : TypeTree) → operand_height (operand_of.InstanceOf ty) ≡ type_height ty
height_of_instance ty = operand_height-InstanceOf ty

pub tall_one : (e : Expr) → 0 < expr_height e
tall_one e = let t = expr_tall e in grind (arith, nat_tests)

by_height : {A : Type 0} (e : A) (n k : ℕ) → n ≡ capped k → record { tree = e; height = n } ≡ of_height e k
by_height {A = A} e n k f = ap (λ (i : ℕ). record { tree = e; height = i }) f

pub assign_measured : (a : Measured Expr) (op : AssignOp) (b : Measured Expr) → a.height ≡ capped (expr_height a.tree) → b.height ≡ capped (expr_height b.tree) → assign_node a op b ≡ measured (expr_of.Assign a.tree op b.tree)
assign_measured a op b e f =
    let t = expr_height-Assign a.tree op b.tree in
    by_height (expr_of.Assign a.tree op b.tree) (above (max a.height b.height)) (expr_height (expr_of.Assign a.tree op b.tree)) (omega (arith, t, e, f))

pub conditional_measured : (a b c : Measured Expr) → a.height ≡ capped (expr_height a.tree) → b.height ≡ capped (expr_height b.tree) → c.height ≡ capped (expr_height c.tree) → conditional_node a b c ≡ measured (expr_of.Conditional a.tree b.tree c.tree)
conditional_measured a b c e f g =
    let t = expr_height-Conditional a.tree b.tree c.tree in
    by_height (expr_of.Conditional a.tree b.tree c.tree) (above (max (max a.height b.height) c.height)) (expr_height (expr_of.Conditional a.tree b.tree c.tree)) (omega (arith, t, e, f, g))

pub chain_measured : (a : Measured Expr) (rest : Measured (List Operand)) → a.height ≡ capped (expr_height a.tree) → rest ≡ measured_operands rest.tree → chain_node a rest ≡ measured (chain_of (a.tree, rest.tree))
chain_measured a rest e f = ap (chain_node a) f ∙ over rest.tree
  where
    over : (list : List Operand) → chain_node a (measured_operands list) ≡ measured (chain_of (a.tree, list))
    over [] = ap (λ (i : ℕ). record { tree = a.tree; height = i }) e
    over (operand ∷ more) =
        let t = expr_height-Chain a.tree (operand ∷ more) in
        by_height (expr_of.Chain a.tree (operand ∷ more)) (above (max a.height (capped (most (map operand_height (operand ∷ more)))))) (expr_height (expr_of.Chain a.tree (operand ∷ more))) (omega (arith, t, e))

pub prefix_measured : (first : PrefixOp) (more : List PrefixOp) (a : Measured Expr) → a.height ≡ capped (expr_height a.tree) → prefix_node first more a ≡ measured (expr_of.Prefix first more a.tree)
prefix_measured first more a e =
    let t = expr_height-Prefix first more a.tree in
    by_height (expr_of.Prefix first more a.tree) (above a.height) (expr_height (expr_of.Prefix first more a.tree)) (omega (arith, t, e))

pub cast_measured : (at : ℕ) (ty : TypeTree) (a : Measured Expr) → a.height ≡ capped (expr_height a.tree) → cast_node at ty a ≡ measured (expr_of.Cast at ty a.tree)
cast_measured at ty a e =
    let t = expr_height-Cast at ty a.tree in
    by_height (expr_of.Cast at ty a.tree) (above (max (capped (type_height ty)) a.height)) (expr_height (expr_of.Cast at ty a.tree)) (omega (arith, t, e))
