-- Nodes that are built of trees with their heights.
use Rattle.std.specs.Prelude.{ℕ, ◌+◌, min, max, List, [], ◌∷◌}
use Rattle.jc_tree.specs.declared.types.TypeTree.{TypeTree}
use Rattle.jc_tree.specs.declared.expression.AssignOp.{AssignOp}
use Rattle.jc_tree.specs.declared.expression.BinaryOp.{BinaryOp}
use Rattle.jc_tree.specs.declared.expression.PrefixOp.{PrefixOp}
use Rattle.jc_tree.specs.declared.expression.Expr.{Expr}
use Rattle.jc_tree.specs.declared.expression.Expr.TheVariants as expr_of
use Rattle.jc_tree.specs.declared.expression.Operand.{Operand}
use Rattle.jc_tree.specs.declared.expression.Operand.TheVariants as operand_of
use Rattle.jc_tree.specs.Heights.{capped, type_height}
use Rattle.jc_parse_expr.specs.declared.measured.Measured.{Measured}

-- one more, where a u32 has room for it
abbrev pub above : ℕ → ℕ
above n = min (n + 1) 4294967295

-- one higher than the highest of their parts
abbrev pub assign_node : Measured Expr → AssignOp → Measured Expr → Measured Expr
assign_node a op b = record { tree = expr_of.Assign a.tree op b.tree; height = above (max a.height b.height) }

abbrev pub conditional_node : Measured Expr → Measured Expr → Measured Expr → Measured Expr
conditional_node a b c = record { tree = expr_of.Conditional a.tree b.tree c.tree; height = above (max (max a.height b.height) c.height) }

-- what stands behind the first operand has height n; where nothing does, the first keeps its own
abbrev pub chain_over : Measured Expr → List Operand → ℕ → Measured Expr
chain_over first [] n = first
chain_over first (operand ∷ more) n = record { tree = expr_of.Chain first.tree (operand ∷ more); height = above (max first.height n) }

-- a first operand alone, or a chain
abbrev pub chain_node : Measured Expr → Measured (List Operand) → Measured Expr
chain_node first rest = chain_over first rest.tree rest.height

-- prefix operators are one higher than their operand, and a cast than the higher one of its operand and its type
abbrev pub prefix_node : PrefixOp → List PrefixOp → Measured Expr → Measured Expr
prefix_node first more operand = record { tree = expr_of.Prefix first more operand.tree; height = above operand.height }

abbrev pub cast_node : ℕ → TypeTree → Measured Expr → Measured Expr
cast_node at ty operand = record { tree = expr_of.Cast at ty operand.tree; height = above (max (capped (type_height ty)) operand.height) }

-- an operand as high as its right side
abbrev pub binary_node : BinaryOp → Measured Expr → Measured Operand
binary_node op right = record { tree = operand_of.Binary op right.tree; height = right.height }
