-- Trees with their heights, which are counted as the trees are built.
use Rattle.std.specs.Prelude.{ℕ, List, map}
use Rattle.jc_tree.specs.declared.expression.ArrayInit.{ArrayInit}
use Rattle.jc_tree.specs.declared.expression.Expr.{Expr}
use Rattle.jc_tree.specs.declared.expression.Operand.{Operand}
use Rattle.jc_tree.specs.Heights.{capped, most, array_height, expr_height, operand_height}
use Rattle.jc_parse_expr.specs.declared.measured.Measured.{Measured}

-- a tree of a height
abbrev pub of_height : {A : Type 0} → A → ℕ → Measured A
of_height tree n = record { tree = tree; height = capped n }

-- expressions and array initialisers with their heights
abbrev pub measured : Expr → Measured Expr
measured e = of_height e (expr_height e)

abbrev pub measured_array : ArrayInit → Measured ArrayInit
measured_array array = of_height array (array_height array)

-- lists, by the greatest height of what stands in them

abbrev pub measured_operands : List Operand → Measured (List Operand)
measured_operands list = of_height list (most (map operand_height list))
