-- The parts of an expression as those of a constant one, and names as constant expressions.
use Rattle.std.specs.Prelude.{ℕ, List, [], ◌∷◌, ◌++◌, Option, Some, None}
use Rattle.jc_tree.specs.declared.expression.ArrayInit.{ArrayInit, fold-ArrayInit}
use Rattle.jc_tree.specs.declared.expression.Creation.{Creation, fold-Creation}
use Rattle.jc_tree.specs.declared.expression.Init.{Init, fold-Init}
use Rattle.jc_tree.specs.declared.expression.Operand.{Operand, fold-Operand}
use Rattle.jc_types.specs.declared.constant.ConstantExpr.{ConstantExpr}
use Rattle.jc_types.specs.declared.constant.ConstantExpr.TheVariants as expr
use Rattle.jc_declares.specs.declared.heads.Heads.{Heads}
use Rattle.jc_declares.specs.declared.heads.Path.{Path}
use Rattle.jc_declares.specs.Looking.{Knowledge}
use Rattle.jc_declares.specs.Writing.{Reading}
use Rattle.jc_declares.specs.Constants.{Formed, Right, none_of_creation, expr_formed, none_of_init, operand_formed, none_of_array}

-- creations and initialisers beside expressions: they have no constant form
unfoldable pub formed_creation : Heads → Knowledge → ℕ → Reading → Creation → Formed
formed_creation H K file r node = fold-Creation Formed Formed Formed Right Formed none_of_creation (expr_formed H K file r) none_of_init operand_formed none_of_array node

unfoldable pub formed_init : Heads → Knowledge → ℕ → Reading → Init → Formed
formed_init H K file r node = fold-Init Formed Formed Formed Right Formed none_of_creation (expr_formed H K file r) none_of_init operand_formed none_of_array node

-- what stands on the right of an operator
unfoldable pub formed_operand : Heads → Knowledge → ℕ → Reading → Operand → Right
formed_operand H K file r node = fold-Operand Formed Formed Formed Right Formed none_of_creation (expr_formed H K file r) none_of_init operand_formed none_of_array node

-- an array initialiser, which has no constant form
unfoldable pub formed_array : Heads → Knowledge → ℕ → Reading → ArrayInit → Formed
formed_array H K file r node = fold-ArrayInit Formed Formed Formed Right Formed none_of_creation (expr_formed H K file r) none_of_init operand_formed none_of_array node

-- the name that an expression is, if it is one
abbrev pub named_at : ℕ → List (List ℕ) → Option Path
named_at at [] = None
named_at at (p ∷ ps) = Some (record { at = at; first = p; more = ps })

-- the name that a form is of; None where it is of no name
abbrev pub named_by : Formed → Option Path
named_by f = named_at f.place f.name

-- a name with one part more; what is no name stays none
abbrev pub with_part : List ℕ → Option Path → Option Path
with_part n None = None
with_part n (Some p) = Some (record p { more = p.more ++ n ∷ [] })

-- a name as a constant expression, at its offset in a file; what is no name is none
abbrev pub path_expr : ℕ → Path → ConstantExpr
path_expr file p = expr.Name (record { file = file; at = p.at }) (p.first ∷ p.more)

abbrev pub name_expr : ℕ → Option Path → Option ConstantExpr
name_expr file None = None
name_expr file (Some p) = Some (path_expr file p)

-- behind others, if there are any
abbrev pub behind : {X : Type 0} → List X → Option (List X) → Option (List X)
behind list None = None
behind list (Some more) = Some (list ++ more)
