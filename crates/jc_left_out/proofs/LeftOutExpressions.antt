-- The left-out forms of expressions by their parts.
use Rattle.std.proofs.Common.{◌≡◌, ℕ, Bool, List, [], ◌∷◌, ◌++◌, map, refl, sym, ap, subst, ◌∙◌}
use Rattle.jc_tree.specs.declared.name.Ident.{Ident}
use Rattle.jc_tree.specs.declared.types.BaseTree.{BaseTree}
use Rattle.jc_tree.specs.declared.types.ClassTree.{ClassTree}
use Rattle.jc_tree.specs.declared.types.TypeArg.{TypeArg}
use Rattle.jc_tree.specs.declared.types.TypeTree.{TypeTree}
use Rattle.jc_tree.specs.declared.expression.ArrayInit.{ArrayInit, out-ArrayInit}
use Rattle.jc_tree.specs.declared.expression.AssignOp.{AssignOp}
use Rattle.jc_tree.specs.declared.expression.BinaryOp.{BinaryOp}
use Rattle.jc_tree.specs.declared.expression.Creation.{Creation}
use Rattle.jc_tree.specs.declared.expression.Creation.TheVariants as creation_of
use Rattle.jc_tree.specs.declared.expression.Expr.{Expr, Expr-F, roll-Expr, map-Expr, fold-roll-Expr, ind-Expr}
use Rattle.jc_tree.specs.declared.expression.Expr.TheVariants as expr_of
use Rattle.jc_tree.specs.declared.expression.Init.{Init}
use Rattle.jc_tree.specs.declared.expression.Init.TheVariants as init_of
use Rattle.jc_tree.specs.declared.expression.Literal.{Literal}
use Rattle.jc_tree.specs.declared.expression.Operand.{Operand}
use Rattle.jc_tree.specs.declared.expression.Operand.TheVariants as operand_of
use Rattle.jc_tree.specs.declared.expression.PostfixOp.{PostfixOp}
use Rattle.jc_tree.specs.declared.expression.PrefixOp.{PrefixOp}
use Rattle.jc_tree.specs.declared.expression.Skip.{Skip}
use Rattle.jc_tree.specs.Offsets.{array_first, creation_first, expr_first, first_offset_of_array, first_offset_of_class, first_offset_of_creation, first_offset_of_expr, first_offset_of_init, first_offset_of_operand, first_offset_of_type, init_first, operand_first}
use Rattle.jc_left_out.specs.LeftOut.{Part, array_part, creation_part, expr_part, forms_in, in_each, init_part, left_out_of_array, left_out_of_creation, left_out_of_expr, left_out_of_init, left_out_of_operand, operand_part, part_of_array, part_of_creation, part_of_expr, part_of_init, part_of_operand}
use Rattle.jc_left_out.proofs.LeftOutForms.{part_of_array-out, part_of_creation-at, part_of_expr-at, part_of_init-at, part_of_operand-at}

-- the first part of what is computed is the first offset

abbrev Agrees : Expr → Type 0
Agrees expr = (part_of_expr expr).0 ≡ first_offset_of_expr expr

abbrev SomeExpr : Type 0
SomeExpr = (expr : Expr) × Agrees expr

abbrev SomeCreation : Type 0
SomeCreation = (creation : Creation) × Unit {0}

abbrev SomeInit : Type 0
SomeInit = (init : Init) × Unit {0}

abbrev SomeOperand : Type 0
SomeOperand = (operand : Operand) × Unit {0}

abbrev SomeArray : Type 0
SomeArray = (array : ArrayInit) × Unit {0}

abbrev plain : Expr-F SomeCreation SomeExpr SomeInit SomeOperand SomeArray → Expr-F Creation Expr Init Operand ArrayInit
plain y = map-Expr SomeCreation SomeExpr SomeInit SomeOperand SomeArray Creation Expr Init Operand ArrayInit (λ z. z.0) (λ z. z.0) (λ z. z.0) (λ z. z.0) (λ z. z.0) y

abbrev firsts : Expr-F Creation Expr Init Operand ArrayInit → Expr-F ℕ ℕ ℕ ℕ ℕ
firsts l = map-Expr Creation Expr Init Operand ArrayInit ℕ ℕ ℕ ℕ ℕ first_offset_of_creation first_offset_of_expr first_offset_of_init first_offset_of_operand first_offset_of_array l

abbrev parted : Expr-F Creation Expr Init Operand ArrayInit → Expr-F Part Part Part Part Part
parted l = map-Expr Creation Expr Init Operand ArrayInit Part Part Part Part Part part_of_creation part_of_expr part_of_init part_of_operand part_of_array l

layer_agrees : (y : Expr-F SomeCreation SomeExpr SomeInit SomeOperand SomeArray) → (expr_part (parted (plain y))).0 ≡ expr_first (firsts (plain y))
layer_agrees (Expr-F.Assign target op value) = target.1
layer_agrees (Expr-F.Conditional test then_it else_it) = test.1
layer_agrees (Expr-F.Chain first rest) = first.1
layer_agrees (Expr-F.Prefix first more operand) = refl
layer_agrees (Expr-F.Cast at ty operand) = refl
layer_agrees (Expr-F.Postfix of_it op) = of_it.1
layer_agrees (Expr-F.Field of_it name) = of_it.1
layer_agrees (Expr-F.Call of_it type_args name args) = of_it.1
layer_agrees (Expr-F.Index of_it index) = of_it.1
layer_agrees (Expr-F.InnerNew of_it creation) = of_it.1
layer_agrees (Expr-F.Literal at value) = refl
layer_agrees (Expr-F.This at) = refl
layer_agrees (Expr-F.SuperField at name) = refl
layer_agrees (Expr-F.SuperCall at type_args name args) = refl
layer_agrees (Expr-F.Paren at inside) = refl
layer_agrees (Expr-F.Name name) = refl
layer_agrees (Expr-F.Invoke name args) = refl
layer_agrees (Expr-F.New at creation) = refl
layer_agrees (Expr-F.ClassLiteral ty) = refl
layer_agrees (Expr-F.VoidLiteral at) = refl
layer_agrees (Expr-F.OuterThis first more) = refl

first_rolled : (l : Expr-F Creation Expr Init Operand ArrayInit) → first_offset_of_expr (roll-Expr l) ≡ expr_first (firsts l)
unfolding first_offset_of_creation first_offset_of_expr first_offset_of_init first_offset_of_operand first_offset_of_array
first_rolled l = fold-roll-Expr ℕ ℕ ℕ ℕ ℕ creation_first expr_first init_first operand_first array_first l

part_rolled : (l : Expr-F Creation Expr Init Operand ArrayInit) → part_of_expr (roll-Expr l) ≡ expr_part (parted l)
unfolding part_of_creation part_of_expr part_of_init part_of_operand part_of_array
part_rolled l = fold-roll-Expr Part Part Part Part Part creation_part expr_part init_part operand_part array_part l

rolled_agrees : (y : Expr-F SomeCreation SomeExpr SomeInit SomeOperand SomeArray) → Agrees (roll-Expr (plain y))
rolled_agrees y = ap (λ (p : Part). p.0) (part_rolled (plain y)) ∙ layer_agrees y ∙ sym (first_rolled (plain y))

pub part_first : (expr : Expr) → (part_of_expr expr).0 ≡ first_offset_of_expr expr
part_first = ind-Expr (λ _. Unit {0}) Agrees (λ _. Unit {0}) (λ _. Unit {0}) (λ _. Unit {0})
    (λ x y is. tt)
    (λ x y is. subst (λ (x : Expr-F Creation Expr Init Operand ArrayInit). Agrees (roll-Expr x)) is (rolled_agrees y))
    (λ x y is. tt)
    (λ x y is. tt)
    (λ x y is. tt)

-- lists of parts

exprs_forms : (list : List Expr) → forms_in (map part_of_expr list) ≡ in_each left_out_of_expr list
exprs_forms [] = refl
exprs_forms (e ∷ list) = ap (λ (l : List ℕ). left_out_of_expr e ++ l) (exprs_forms list)

operands_forms : (list : List Operand) → forms_in (map part_of_operand list) ≡ in_each left_out_of_operand list
operands_forms [] = refl
operands_forms (o ∷ list) = ap (λ (l : List ℕ). left_out_of_operand o ++ l) (operands_forms list)

inits_forms : (list : List Init) → forms_in (map part_of_init list) ≡ in_each left_out_of_init list
inits_forms [] = refl
inits_forms (i ∷ list) = ap (λ (l : List ℕ). left_out_of_init i ++ l) (inits_forms list)

-- each kind of expression

pub left_out-Assign : (target : Expr) (op : AssignOp) (value : Expr) → left_out_of_expr (expr_of.Assign target op value) ≡ left_out_of_expr target ++ left_out_of_expr value
left_out-Assign target op value = ap (λ (p : Part). p.1) (part_of_expr-at (expr_of.Assign target op value) _ (expr_of.outs-Assign target op value))

pub left_out-Conditional : (test then_it else_it : Expr) → left_out_of_expr (expr_of.Conditional test then_it else_it) ≡ left_out_of_expr test ++ left_out_of_expr then_it ++ left_out_of_expr else_it
left_out-Conditional test then_it else_it = ap (λ (p : Part). p.1) (part_of_expr-at (expr_of.Conditional test then_it else_it) _ (expr_of.outs-Conditional test then_it else_it))

pub left_out-Chain : (first : Expr) (rest : List Operand) → left_out_of_expr (expr_of.Chain first rest) ≡ left_out_of_expr first ++ in_each left_out_of_operand rest
left_out-Chain first rest = ap (λ (p : Part). p.1) (part_of_expr-at (expr_of.Chain first rest) _ (expr_of.outs-Chain first rest)) ∙ ap (λ (l : List ℕ). left_out_of_expr first ++ l) (operands_forms rest)

pub left_out-Prefix : (first : PrefixOp) (more : List PrefixOp) (operand : Expr) → left_out_of_expr (expr_of.Prefix first more operand) ≡ left_out_of_expr operand
left_out-Prefix first more operand = ap (λ (p : Part). p.1) (part_of_expr-at (expr_of.Prefix first more operand) _ (expr_of.outs-Prefix first more operand))

pub left_out-Cast : (at : ℕ) (ty : TypeTree) (operand : Expr) → left_out_of_expr (expr_of.Cast at ty operand) ≡ left_out_of_expr operand
left_out-Cast at ty operand = ap (λ (p : Part). p.1) (part_of_expr-at (expr_of.Cast at ty operand) _ (expr_of.outs-Cast at ty operand))

pub left_out-Postfix : (of_it : Expr) (op : PostfixOp) → left_out_of_expr (expr_of.Postfix of_it op) ≡ left_out_of_expr of_it
left_out-Postfix of_it op = ap (λ (p : Part). p.1) (part_of_expr-at (expr_of.Postfix of_it op) _ (expr_of.outs-Postfix of_it op))

pub left_out-Field : (of_it : Expr) (name : Ident) → left_out_of_expr (expr_of.Field of_it name) ≡ left_out_of_expr of_it
left_out-Field of_it name = ap (λ (p : Part). p.1) (part_of_expr-at (expr_of.Field of_it name) _ (expr_of.outs-Field of_it name))

pub left_out-Call : (of_it : Expr) (type_args : List TypeArg) (name : Ident) (args : List Expr) → left_out_of_expr (expr_of.Call of_it type_args name args) ≡ left_out_of_expr of_it ++ in_each left_out_of_expr args
left_out-Call of_it type_args name args = ap (λ (p : Part). p.1) (part_of_expr-at (expr_of.Call of_it type_args name args) _ (expr_of.outs-Call of_it type_args name args)) ∙ ap (λ (l : List ℕ). left_out_of_expr of_it ++ l) (exprs_forms args)

pub left_out-Index : (of_it index : Expr) → left_out_of_expr (expr_of.Index of_it index) ≡ left_out_of_expr of_it ++ left_out_of_expr index
left_out-Index of_it index = ap (λ (p : Part). p.1) (part_of_expr-at (expr_of.Index of_it index) _ (expr_of.outs-Index of_it index))

pub left_out-InnerNew : (of_it : Expr) (creation : Creation) → left_out_of_expr (expr_of.InnerNew of_it creation) ≡ first_offset_of_expr of_it ∷ left_out_of_expr of_it ++ left_out_of_creation creation
left_out-InnerNew of_it creation =
    ap (λ (p : Part). p.1) (part_of_expr-at (expr_of.InnerNew of_it creation) _ (expr_of.outs-InnerNew of_it creation)) ∙ ap (λ n. n ∷ left_out_of_expr of_it ++ left_out_of_creation creation) (part_first of_it)

pub left_out-Literal : (at : ℕ) (value : Literal) → left_out_of_expr (expr_of.Literal at value) ≡ []
left_out-Literal at value = ap (λ (p : Part). p.1) (part_of_expr-at (expr_of.Literal at value) _ (expr_of.outs-Literal at value))

pub left_out-This : (at : ℕ) → left_out_of_expr (expr_of.This at) ≡ []
left_out-This at = ap (λ (p : Part). p.1) (part_of_expr-at (expr_of.This at) _ (expr_of.outs-This at))

pub left_out-SuperField : (at : ℕ) (name : Ident) → left_out_of_expr (expr_of.SuperField at name) ≡ []
left_out-SuperField at name = ap (λ (p : Part). p.1) (part_of_expr-at (expr_of.SuperField at name) _ (expr_of.outs-SuperField at name))

pub left_out-SuperCall : (at : ℕ) (type_args : List TypeArg) (name : Ident) (args : List Expr) → left_out_of_expr (expr_of.SuperCall at type_args name args) ≡ in_each left_out_of_expr args
left_out-SuperCall at type_args name args = ap (λ (p : Part). p.1) (part_of_expr-at (expr_of.SuperCall at type_args name args) _ (expr_of.outs-SuperCall at type_args name args)) ∙ exprs_forms args

pub left_out-Paren : (at : ℕ) (inner : Expr) → left_out_of_expr (expr_of.Paren at inner) ≡ left_out_of_expr inner
left_out-Paren at inner = ap (λ (p : Part). p.1) (part_of_expr-at (expr_of.Paren at inner) _ (expr_of.outs-Paren at inner))

pub left_out-Name : (name : Ident) → left_out_of_expr (expr_of.Name name) ≡ []
left_out-Name name = ap (λ (p : Part). p.1) (part_of_expr-at (expr_of.Name name) _ (expr_of.outs-Name name))

pub left_out-Invoke : (name : Ident) (args : List Expr) → left_out_of_expr (expr_of.Invoke name args) ≡ in_each left_out_of_expr args
left_out-Invoke name args = ap (λ (p : Part). p.1) (part_of_expr-at (expr_of.Invoke name args) _ (expr_of.outs-Invoke name args)) ∙ exprs_forms args

pub left_out-New : (at : ℕ) (creation : Creation) → left_out_of_expr (expr_of.New at creation) ≡ left_out_of_creation creation
left_out-New at creation = ap (λ (p : Part). p.1) (part_of_expr-at (expr_of.New at creation) _ (expr_of.outs-New at creation))

pub left_out-ClassLiteral : (ty : TypeTree) → left_out_of_expr (expr_of.ClassLiteral ty) ≡ first_offset_of_type ty ∷ []
left_out-ClassLiteral ty = ap (λ (p : Part). p.1) (part_of_expr-at (expr_of.ClassLiteral ty) _ (expr_of.outs-ClassLiteral ty))

pub left_out-VoidLiteral : (at : ℕ) → left_out_of_expr (expr_of.VoidLiteral at) ≡ at ∷ []
left_out-VoidLiteral at = ap (λ (p : Part). p.1) (part_of_expr-at (expr_of.VoidLiteral at) _ (expr_of.outs-VoidLiteral at))

pub left_out-OuterThis : (first : Ident) (more : List Ident) → left_out_of_expr (expr_of.OuterThis first more) ≡ first.at ∷ []
left_out-OuterThis first more = ap (λ (p : Part). p.1) (part_of_expr-at (expr_of.OuterThis first more) _ (expr_of.outs-OuterThis first more))

-- what stands in them

abbrev pub body_forms : List Skip → ℕ → List ℕ
body_forms [] at = []
body_forms (skip ∷ body) at = at ∷ []

pub left_out-Object : (class : ClassTree) (diamond : Bool) (args : List Expr) (body : List Skip) → left_out_of_creation (creation_of.Object class diamond args body) ≡ body_forms body (first_offset_of_class class) ++ in_each left_out_of_expr args
left_out-Object class diamond args [] = ap (λ (p : Part). p.1) (part_of_creation-at (creation_of.Object class diamond args []) _ (creation_of.outs-Object class diamond args [])) ∙ exprs_forms args
left_out-Object class diamond args (skip ∷ body) =
    ap (λ (p : Part). p.1) (part_of_creation-at (creation_of.Object class diamond args (skip ∷ body)) _ (creation_of.outs-Object class diamond args (skip ∷ body))) ∙ ap (λ (l : List ℕ). first_offset_of_class class ∷ l) (exprs_forms args)

pub left_out-Sized : (element : BaseTree) (first : Expr) (more : List Expr) (dims : ℕ) → left_out_of_creation (creation_of.Sized element first more dims) ≡ left_out_of_expr first ++ in_each left_out_of_expr more
left_out-Sized element first more dims = ap (λ (p : Part). p.1) (part_of_creation-at (creation_of.Sized element first more dims) _ (creation_of.outs-Sized element first more dims)) ∙ ap (λ (l : List ℕ). left_out_of_expr first ++ l) (exprs_forms more)

pub left_out-Initialised : (element : BaseTree) (dims : ℕ) (init : ArrayInit) → left_out_of_creation (creation_of.Initialised element dims init) ≡ left_out_of_array init
left_out-Initialised element dims init = ap (λ (p : Part). p.1) (part_of_creation-at (creation_of.Initialised element dims init) _ (creation_of.outs-Initialised element dims init))

pub left_out-Value : (expr : Expr) → left_out_of_init (init_of.Value expr) ≡ left_out_of_expr expr
left_out-Value expr = ap (λ (p : Part). p.1) (part_of_init-at (init_of.Value expr) _ (init_of.outs-Value expr))

pub left_out-Nested : (array : ArrayInit) → left_out_of_init (init_of.Nested array) ≡ left_out_of_array array
left_out-Nested array = ap (λ (p : Part). p.1) (part_of_init-at (init_of.Nested array) _ (init_of.outs-Nested array))

pub left_out-Binary : (op : BinaryOp) (right : Expr) → left_out_of_operand (operand_of.Binary op right) ≡ left_out_of_expr right
left_out-Binary op right = ap (λ (p : Part). p.1) (part_of_operand-at (operand_of.Binary op right) _ (operand_of.outs-Binary op right))

pub left_out-InstanceOf : (ty : TypeTree) → left_out_of_operand (operand_of.InstanceOf ty) ≡ []
left_out-InstanceOf ty = ap (λ (p : Part). p.1) (part_of_operand-at (operand_of.InstanceOf ty) _ (operand_of.outs-InstanceOf ty))

pub left_out-array : (node : ArrayInit) → left_out_of_array node ≡ in_each left_out_of_init (out-ArrayInit node).inits
left_out-array node = ap (λ (p : Part). p.1) (part_of_array-out node) ∙ inits_forms (out-ArrayInit node).inits
