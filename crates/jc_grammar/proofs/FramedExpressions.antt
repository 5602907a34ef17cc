-- Expressions put their tokens before those that follow.
use Rattle.std.proofs.Common.{refl, subst}
use Rattle.std.specs.Prelude.{[], ◌∷◌, Bool, List, None, Some, false, true}
use Rattle.jc_tree.specs.declared.expression.AssignOp.TheVariants as assign_of
use Rattle.jc_tree.specs.declared.expression.BinaryOp.TheVariants as binary_of
use Rattle.jc_lexer.specs.declared.token.Key.TheVariants as key_of
use Rattle.jc_lexer.specs.declared.token.Sign.TheVariants as sign_of
use Rattle.jc_tree.specs.declared.expression.ArrayInit.{ArrayInit, ArrayInit-F, fold-roll-ArrayInit, ind-ArrayInit, map-ArrayInit, roll-ArrayInit}
use Rattle.jc_tree.specs.declared.expression.AssignOp.{AssignOp}
use Rattle.jc_tree.specs.declared.expression.BinaryOp.{BinaryOp}
use Rattle.jc_tree.specs.declared.expression.Creation.{Creation, Creation-F, fold-roll-Creation, ind-Creation, map-Creation, roll-Creation}
use Rattle.jc_tree.specs.declared.expression.Expr.{Expr, Expr-F, fold-roll-Expr, ind-Expr, map-Expr, roll-Expr}
use Rattle.jc_tree.specs.declared.expression.Init.{Init, Init-F, fold-roll-Init, ind-Init, map-Init, roll-Init}
use Rattle.jc_tree.specs.declared.expression.Operand.{Operand, Operand-F, fold-roll-Operand, ind-Operand, map-Operand, roll-Operand}
use Rattle.jc_tree.specs.declared.expression.PrefixOp.{PrefixOp}
use Rattle.jc_tree.specs.declared.expression.Skip.{Skip, Skip-F, fold-roll-Skip, ind-Skip, map-Skip, roll-Skip}
use Rattle.jc_tree.specs.declared.expression.SkipPart.{SkipPart, SkipPart-F, fold-roll-SkipPart, ind-SkipPart, map-SkipPart, roll-SkipPart}
use Rattle.jc_grammar.proofs.Framed.{Frames, actuals_frames, all_frame, all_given, all_in_brackets, brackets_frame, commas_frames, each_frames, frames_along, if_there_frames, in_brackets_frame, names_frame, nothing, seq, token}
use Rattle.jc_grammar.proofs.FramedTypes.{args_frames, base_frames, class_frames, type_frames}
use Rattle.jc_grammar.specs.Expressions.{array_tokens, array_told, assign_tokens, binary_tokens, creation_tokens, creation_told, diamond_tokens, expr_tokens, expr_told, init_tokens, init_told, literal_kind, operand_tokens, operand_told, postfix_sign, prefix_sign, prefix_tokens, skip_part_tokens, skip_part_told, skip_tokens, skip_told}
use Rattle.jc_grammar.specs.Told.{Spelled, ident, key, key_at, sign, sign_at, told}

assign_frames : (op : AssignOp) → Frames (assign_tokens op)
assign_frames assign_of.Plain = record { at = λ r s. refl }
assign_frames assign_of.Plus = record { at = λ r s. refl }
assign_frames assign_of.Minus = record { at = λ r s. refl }
assign_frames assign_of.Times = record { at = λ r s. refl }
assign_frames assign_of.Divide = record { at = λ r s. refl }
assign_frames assign_of.Remainder = record { at = λ r s. refl }
assign_frames assign_of.And = record { at = λ r s. refl }
assign_frames assign_of.Or = record { at = λ r s. refl }
assign_frames assign_of.Xor = record { at = λ r s. refl }
assign_frames assign_of.ShiftLeft = record { at = λ r s. refl }
assign_frames assign_of.ShiftRight = record { at = λ r s. refl }
assign_frames assign_of.ShiftRightZero = record { at = λ r s. refl }

binary_frames : (op : BinaryOp) → Frames (binary_tokens op)
binary_frames binary_of.OrElse = record { at = λ r s. refl }
binary_frames binary_of.AndAlso = record { at = λ r s. refl }
binary_frames binary_of.Or = record { at = λ r s. refl }
binary_frames binary_of.Xor = record { at = λ r s. refl }
binary_frames binary_of.And = record { at = λ r s. refl }
binary_frames binary_of.Equal = record { at = λ r s. refl }
binary_frames binary_of.NotEqual = record { at = λ r s. refl }
binary_frames binary_of.Less = record { at = λ r s. refl }
binary_frames binary_of.Greater = record { at = λ r s. refl }
binary_frames binary_of.LessEqual = record { at = λ r s. refl }
binary_frames binary_of.GreaterEqual = record { at = λ r s. refl }
binary_frames binary_of.ShiftLeft = record { at = λ r s. refl }
binary_frames binary_of.ShiftRight = record { at = λ r s. refl }
binary_frames binary_of.ShiftRightZero = record { at = λ r s. refl }
binary_frames binary_of.Plus = record { at = λ r s. refl }
binary_frames binary_of.Minus = record { at = λ r s. refl }
binary_frames binary_of.Times = record { at = λ r s. refl }
binary_frames binary_of.Divide = record { at = λ r s. refl }
binary_frames binary_of.Remainder = record { at = λ r s. refl }

prefix_frames : (ops : List PrefixOp) → Frames (prefix_tokens ops)
prefix_frames [] = nothing
prefix_frames (op ∷ ops) = seq (token (sign_at (prefix_sign op.sign) op.at)) (prefix_frames ops)

diamond_frames : (diamond : Bool) → Frames (diamond_tokens diamond)
diamond_frames true = seq (token (sign sign_of.Less)) (token (sign sign_of.Greater))
diamond_frames false = nothing

abbrev SomeSkipPart : Type 0
SomeSkipPart = (x : SkipPart) × Frames (skip_part_tokens x)

abbrev SomeSkip : Type 0
SomeSkip = (x : Skip) × Frames (skip_tokens x)

abbrev plain_skip_part : SkipPart-F SomeSkipPart SomeSkip → SkipPart-F SkipPart Skip
plain_skip_part y = map-SkipPart SomeSkipPart SomeSkip SkipPart Skip (λ z. z.0) (λ z. z.0) y

skip_part_layer : (y : SkipPart-F SomeSkipPart SomeSkip) → Frames (skip_part_told (map-SkipPart SkipPart Skip Spelled Spelled skip_part_tokens skip_tokens (plain_skip_part y)))
skip_part_layer (SkipPart-F.Inner skip) = skip.1
skip_part_layer (SkipPart-F.Token kind) = token (told kind None)

skip_part_rolled : (y : SkipPart-F SomeSkipPart SomeSkip) → Frames (skip_part_tokens (roll-SkipPart (plain_skip_part y)))
unfolding skip_part_tokens skip_tokens
skip_part_rolled y = frames_along (fold-roll-SkipPart Spelled Spelled skip_part_told skip_told (plain_skip_part y)) (skip_part_layer y)

abbrev plain_skip : Skip-F SomeSkipPart SomeSkip → Skip-F SkipPart Skip
plain_skip y = map-Skip SomeSkipPart SomeSkip SkipPart Skip (λ z. z.0) (λ z. z.0) y

skip_layer : (y : Skip-F SomeSkipPart SomeSkip) → Frames (skip_told (map-Skip SkipPart Skip Spelled Spelled skip_part_tokens skip_tokens (plain_skip y)))
skip_layer y = seq (token (sign sign_of.LeftBrace)) (seq (each_frames (all_given skip_part_tokens y.parts)) (token (sign sign_of.RightBrace)))

skip_rolled : (y : Skip-F SomeSkipPart SomeSkip) → Frames (skip_tokens (roll-Skip (plain_skip y)))
unfolding skip_part_tokens skip_tokens
skip_rolled y = frames_along (fold-roll-Skip Spelled Spelled skip_part_told skip_told (plain_skip y)) (skip_layer y)

pub skip_part_frames : (x : SkipPart) → Frames (skip_part_tokens x)
skip_part_frames = ind-SkipPart (λ x. Frames (skip_part_tokens x)) (λ x. Frames (skip_tokens x))
    (λ x y is. subst (λ (x : SkipPart-F SkipPart Skip). Frames (skip_part_tokens (roll-SkipPart x))) is (skip_part_rolled y))
    (λ x y is. subst (λ (x : Skip-F SkipPart Skip). Frames (skip_tokens (roll-Skip x))) is (skip_rolled y))

pub skip_frames : (x : Skip) → Frames (skip_tokens x)
skip_frames = ind-Skip (λ x. Frames (skip_part_tokens x)) (λ x. Frames (skip_tokens x))
    (λ x y is. subst (λ (x : SkipPart-F SkipPart Skip). Frames (skip_part_tokens (roll-SkipPart x))) is (skip_part_rolled y))
    (λ x y is. subst (λ (x : Skip-F SkipPart Skip). Frames (skip_tokens (roll-Skip x))) is (skip_rolled y))

abbrev SomeCreation : Type 0
SomeCreation = (x : Creation) × Frames (creation_tokens x)

abbrev SomeExpr : Type 0
SomeExpr = (x : Expr) × Frames (expr_tokens x)

abbrev SomeInit : Type 0
SomeInit = (x : Init) × Frames (init_tokens x)

abbrev SomeOperand : Type 0
SomeOperand = (x : Operand) × Frames (operand_tokens x)

abbrev SomeArrayInit : Type 0
SomeArrayInit = (x : ArrayInit) × Frames (array_tokens x)

abbrev plain_creation : Creation-F SomeCreation SomeExpr SomeInit SomeOperand SomeArrayInit → Creation-F Creation Expr Init Operand ArrayInit
plain_creation y = map-Creation SomeCreation SomeExpr SomeInit SomeOperand SomeArrayInit Creation Expr Init Operand ArrayInit (λ z. z.0) (λ z. z.0) (λ z. z.0) (λ z. z.0) (λ z. z.0) y

creation_layer : (y : Creation-F SomeCreation SomeExpr SomeInit SomeOperand SomeArrayInit) → Frames (creation_told (map-Creation Creation Expr Init Operand ArrayInit Spelled Spelled Spelled Spelled Spelled creation_tokens expr_tokens init_tokens operand_tokens array_tokens (plain_creation y)))
creation_layer (Creation-F.Object class diamond args body) = seq (class_frames class) (seq (diamond_frames diamond) (seq (actuals_frames (all_given expr_tokens args)) (each_frames (all_frame skip_tokens skip_frames body))))
creation_layer (Creation-F.Sized element first more dims) = seq (base_frames element) (seq (in_brackets_frame first.1) (seq (each_frames (all_in_brackets (all_given expr_tokens more))) (brackets_frame dims)))
creation_layer (Creation-F.Initialised element dims init) = seq (base_frames element) (seq (token (sign sign_of.LeftBracket)) (seq (token (sign sign_of.RightBracket)) (seq (brackets_frame dims) init.1)))

creation_rolled : (y : Creation-F SomeCreation SomeExpr SomeInit SomeOperand SomeArrayInit) → Frames (creation_tokens (roll-Creation (plain_creation y)))
unfolding creation_tokens expr_tokens init_tokens operand_tokens array_tokens
creation_rolled y = frames_along (fold-roll-Creation Spelled Spelled Spelled Spelled Spelled creation_told expr_told init_told operand_told array_told (plain_creation y)) (creation_layer y)

abbrev plain_expr : Expr-F SomeCreation SomeExpr SomeInit SomeOperand SomeArrayInit → Expr-F Creation Expr Init Operand ArrayInit
plain_expr y = map-Expr SomeCreation SomeExpr SomeInit SomeOperand SomeArrayInit Creation Expr Init Operand ArrayInit (λ z. z.0) (λ z. z.0) (λ z. z.0) (λ z. z.0) (λ z. z.0) y

expr_layer : (y : Expr-F SomeCreation SomeExpr SomeInit SomeOperand SomeArrayInit) → Frames (expr_told (map-Expr Creation Expr Init Operand ArrayInit Spelled Spelled Spelled Spelled Spelled creation_tokens expr_tokens init_tokens operand_tokens array_tokens (plain_expr y)))
expr_layer (Expr-F.Assign target op value) = seq target.1 (seq (assign_frames op) value.1)
expr_layer (Expr-F.Conditional test then_it else_it) = seq test.1 (seq (token (sign sign_of.Question)) (seq then_it.1 (seq (token (sign sign_of.Colon)) else_it.1)))
expr_layer (Expr-F.Chain first rest) = seq first.1 (each_frames (all_given operand_tokens rest))
expr_layer (Expr-F.Prefix first more operand) = seq (prefix_frames (first ∷ more)) operand.1
expr_layer (Expr-F.Cast at ty operand) = seq (token (sign_at sign_of.LeftParen at)) (seq (type_frames ty) (seq (token (sign sign_of.RightParen)) operand.1))
expr_layer (Expr-F.Postfix of_it op) = seq of_it.1 (token (sign (postfix_sign op)))
expr_layer (Expr-F.Field of_it name) = seq of_it.1 (seq (token (sign sign_of.Dot)) (token (ident name)))
expr_layer (Expr-F.Call of_it type_args name args) = seq of_it.1 (seq (token (sign sign_of.Dot)) (seq (args_frames type_args) (seq (token (ident name)) (actuals_frames (all_given expr_tokens args)))))
expr_layer (Expr-F.Index of_it index) = seq of_it.1 (in_brackets_frame index.1)
expr_layer (Expr-F.InnerNew of_it creation) = seq of_it.1 (seq (token (sign sign_of.Dot)) (seq (token (key key_of.New)) creation.1))
expr_layer (Expr-F.Literal at value) = token (told (literal_kind value) (Some at))
expr_layer (Expr-F.This at) = token (key_at key_of.This at)
expr_layer (Expr-F.SuperField at name) = seq (token (key_at key_of.Super at)) (seq (token (sign sign_of.Dot)) (token (ident name)))
expr_layer (Expr-F.SuperCall at type_args name args) = seq (token (key_at key_of.Super at)) (seq (token (sign sign_of.Dot)) (seq (args_frames type_args) (seq (token (ident name)) (actuals_frames (all_given expr_tokens args)))))
expr_layer (Expr-F.Paren at inside) = seq (token (sign_at sign_of.LeftParen at)) (seq inside.1 (token (sign sign_of.RightParen)))
expr_layer (Expr-F.Name name) = token (ident name)
expr_layer (Expr-F.Invoke name args) = seq (token (ident name)) (actuals_frames (all_given expr_tokens args))
expr_layer (Expr-F.New at creation) = seq (token (key_at key_of.New at)) creation.1
expr_layer (Expr-F.ClassLiteral ty) = seq (type_frames ty) (seq (token (sign sign_of.Dot)) (token (key key_of.Class)))
expr_layer (Expr-F.VoidLiteral at) = seq (token (key_at key_of.Void at)) (seq (token (sign sign_of.Dot)) (token (key key_of.Class)))
expr_layer (Expr-F.OuterThis first more) = seq (token (ident first)) (seq (names_frame more) (seq (token (sign sign_of.Dot)) (token (key key_of.This))))

expr_rolled : (y : Expr-F SomeCreation SomeExpr SomeInit SomeOperand SomeArrayInit) → Frames (expr_tokens (roll-Expr (plain_expr y)))
unfolding creation_tokens expr_tokens init_tokens operand_tokens array_tokens
expr_rolled y = frames_along (fold-roll-Expr Spelled Spelled Spelled Spelled Spelled creation_told expr_told init_told operand_told array_told (plain_expr y)) (expr_layer y)

abbrev plain_init : Init-F SomeCreation SomeExpr SomeInit SomeOperand SomeArrayInit → Init-F Creation Expr Init Operand ArrayInit
plain_init y = map-Init SomeCreation SomeExpr SomeInit SomeOperand SomeArrayInit Creation Expr Init Operand ArrayInit (λ z. z.0) (λ z. z.0) (λ z. z.0) (λ z. z.0) (λ z. z.0) y

init_layer : (y : Init-F SomeCreation SomeExpr SomeInit SomeOperand SomeArrayInit) → Frames (init_told (map-Init Creation Expr Init Operand ArrayInit Spelled Spelled Spelled Spelled Spelled creation_tokens expr_tokens init_tokens operand_tokens array_tokens (plain_init y)))
init_layer (Init-F.Value expr) = expr.1
init_layer (Init-F.Nested array) = array.1

init_rolled : (y : Init-F SomeCreation SomeExpr SomeInit SomeOperand SomeArrayInit) → Frames (init_tokens (roll-Init (plain_init y)))
unfolding creation_tokens expr_tokens init_tokens operand_tokens array_tokens
init_rolled y = frames_along (fold-roll-Init Spelled Spelled Spelled Spelled Spelled creation_told expr_told init_told operand_told array_told (plain_init y)) (init_layer y)

abbrev plain_operand : Operand-F SomeCreation SomeExpr SomeInit SomeOperand SomeArrayInit → Operand-F Creation Expr Init Operand ArrayInit
plain_operand y = map-Operand SomeCreation SomeExpr SomeInit SomeOperand SomeArrayInit Creation Expr Init Operand ArrayInit (λ z. z.0) (λ z. z.0) (λ z. z.0) (λ z. z.0) (λ z. z.0) y

operand_layer : (y : Operand-F SomeCreation SomeExpr SomeInit SomeOperand SomeArrayInit) → Frames (operand_told (map-Operand Creation Expr Init Operand ArrayInit Spelled Spelled Spelled Spelled Spelled creation_tokens expr_tokens init_tokens operand_tokens array_tokens (plain_operand y)))
operand_layer (Operand-F.Binary op right) = seq (binary_frames op) right.1
operand_layer (Operand-F.InstanceOf ty) = seq (token (key key_of.Instanceof)) (type_frames ty)

operand_rolled : (y : Operand-F SomeCreation SomeExpr SomeInit SomeOperand SomeArrayInit) → Frames (operand_tokens (roll-Operand (plain_operand y)))
unfolding creation_tokens expr_tokens init_tokens operand_tokens array_tokens
operand_rolled y = frames_along (fold-roll-Operand Spelled Spelled Spelled Spelled Spelled creation_told expr_told init_told operand_told array_told (plain_operand y)) (operand_layer y)

abbrev plain_array : ArrayInit-F SomeCreation SomeExpr SomeInit SomeOperand SomeArrayInit → ArrayInit-F Creation Expr Init Operand ArrayInit
plain_array y = map-ArrayInit SomeCreation SomeExpr SomeInit SomeOperand SomeArrayInit Creation Expr Init Operand ArrayInit (λ z. z.0) (λ z. z.0) (λ z. z.0) (λ z. z.0) (λ z. z.0) y

array_layer : (y : ArrayInit-F SomeCreation SomeExpr SomeInit SomeOperand SomeArrayInit) → Frames (array_told (map-ArrayInit Creation Expr Init Operand ArrayInit Spelled Spelled Spelled Spelled Spelled creation_tokens expr_tokens init_tokens operand_tokens array_tokens (plain_array y)))
array_layer y = seq (token (sign_at sign_of.LeftBrace y.at)) (seq (commas_frames (all_given init_tokens y.inits)) (seq (if_there_frames y.trailing sign_of.Comma) (token (sign sign_of.RightBrace))))

array_rolled : (y : ArrayInit-F SomeCreation SomeExpr SomeInit SomeOperand SomeArrayInit) → Frames (array_tokens (roll-ArrayInit (plain_array y)))
unfolding creation_tokens expr_tokens init_tokens operand_tokens array_tokens
array_rolled y = frames_along (fold-roll-ArrayInit Spelled Spelled Spelled Spelled Spelled creation_told expr_told init_told operand_told array_told (plain_array y)) (array_layer y)

pub creation_frames : (x : Creation) → Frames (creation_tokens x)
creation_frames = ind-Creation (λ x. Frames (creation_tokens x)) (λ x. Frames (expr_tokens x)) (λ x. Frames (init_tokens x)) (λ x. Frames (operand_tokens x)) (λ x. Frames (array_tokens x))
    (λ x y is. subst (λ (x : Creation-F Creation Expr Init Operand ArrayInit). Frames (creation_tokens (roll-Creation x))) is (creation_rolled y))
    (λ x y is. subst (λ (x : Expr-F Creation Expr Init Operand ArrayInit). Frames (expr_tokens (roll-Expr x))) is (expr_rolled y))
    (λ x y is. subst (λ (x : Init-F Creation Expr Init Operand ArrayInit). Frames (init_tokens (roll-Init x))) is (init_rolled y))
    (λ x y is. subst (λ (x : Operand-F Creation Expr Init Operand ArrayInit). Frames (operand_tokens (roll-Operand x))) is (operand_rolled y))
    (λ x y is. subst (λ (x : ArrayInit-F Creation Expr Init Operand ArrayInit). Frames (array_tokens (roll-ArrayInit x))) is (array_rolled y))

pub expr_frames : (x : Expr) → Frames (expr_tokens x)
expr_frames = ind-Expr (λ x. Frames (creation_tokens x)) (λ x. Frames (expr_tokens x)) (λ x. Frames (init_tokens x)) (λ x. Frames (operand_tokens x)) (λ x. Frames (array_tokens x))
    (λ x y is. subst (λ (x : Creation-F Creation Expr Init Operand ArrayInit). Frames (creation_tokens (roll-Creation x))) is (creation_rolled y))
    (λ x y is. subst (λ (x : Expr-F Creation Expr Init Operand ArrayInit). Frames (expr_tokens (roll-Expr x))) is (expr_rolled y))
    (λ x y is. subst (λ (x : Init-F Creation Expr Init Operand ArrayInit). Frames (init_tokens (roll-Init x))) is (init_rolled y))
    (λ x y is. subst (λ (x : Operand-F Creation Expr Init Operand ArrayInit). Frames (operand_tokens (roll-Operand x))) is (operand_rolled y))
    (λ x y is. subst (λ (x : ArrayInit-F Creation Expr Init Operand ArrayInit). Frames (array_tokens (roll-ArrayInit x))) is (array_rolled y))

pub init_frames : (x : Init) → Frames (init_tokens x)
init_frames = ind-Init (λ x. Frames (creation_tokens x)) (λ x. Frames (expr_tokens x)) (λ x. Frames (init_tokens x)) (λ x. Frames (operand_tokens x)) (λ x. Frames (array_tokens x))
    (λ x y is. subst (λ (x : Creation-F Creation Expr Init Operand ArrayInit). Frames (creation_tokens (roll-Creation x))) is (creation_rolled y))
    (λ x y is. subst (λ (x : Expr-F Creation Expr Init Operand ArrayInit). Frames (expr_tokens (roll-Expr x))) is (expr_rolled y))
    (λ x y is. subst (λ (x : Init-F Creation Expr Init Operand ArrayInit). Frames (init_tokens (roll-Init x))) is (init_rolled y))
    (λ x y is. subst (λ (x : Operand-F Creation Expr Init Operand ArrayInit). Frames (operand_tokens (roll-Operand x))) is (operand_rolled y))
    (λ x y is. subst (λ (x : ArrayInit-F Creation Expr Init Operand ArrayInit). Frames (array_tokens (roll-ArrayInit x))) is (array_rolled y))

pub operand_frames : (x : Operand) → Frames (operand_tokens x)
operand_frames = ind-Operand (λ x. Frames (creation_tokens x)) (λ x. Frames (expr_tokens x)) (λ x. Frames (init_tokens x)) (λ x. Frames (operand_tokens x)) (λ x. Frames (array_tokens x))
    (λ x y is. subst (λ (x : Creation-F Creation Expr Init Operand ArrayInit). Frames (creation_tokens (roll-Creation x))) is (creation_rolled y))
    (λ x y is. subst (λ (x : Expr-F Creation Expr Init Operand ArrayInit). Frames (expr_tokens (roll-Expr x))) is (expr_rolled y))
    (λ x y is. subst (λ (x : Init-F Creation Expr Init Operand ArrayInit). Frames (init_tokens (roll-Init x))) is (init_rolled y))
    (λ x y is. subst (λ (x : Operand-F Creation Expr Init Operand ArrayInit). Frames (operand_tokens (roll-Operand x))) is (operand_rolled y))
    (λ x y is. subst (λ (x : ArrayInit-F Creation Expr Init Operand ArrayInit). Frames (array_tokens (roll-ArrayInit x))) is (array_rolled y))

pub array_frames : (x : ArrayInit) → Frames (array_tokens x)
array_frames = ind-ArrayInit (λ x. Frames (creation_tokens x)) (λ x. Frames (expr_tokens x)) (λ x. Frames (init_tokens x)) (λ x. Frames (operand_tokens x)) (λ x. Frames (array_tokens x))
    (λ x y is. subst (λ (x : Creation-F Creation Expr Init Operand ArrayInit). Frames (creation_tokens (roll-Creation x))) is (creation_rolled y))
    (λ x y is. subst (λ (x : Expr-F Creation Expr Init Operand ArrayInit). Frames (expr_tokens (roll-Expr x))) is (expr_rolled y))
    (λ x y is. subst (λ (x : Init-F Creation Expr Init Operand ArrayInit). Frames (init_tokens (roll-Init x))) is (init_rolled y))
    (λ x y is. subst (λ (x : Operand-F Creation Expr Init Operand ArrayInit). Frames (operand_tokens (roll-Operand x))) is (operand_rolled y))
    (λ x y is. subst (λ (x : ArrayInit-F Creation Expr Init Operand ArrayInit). Frames (array_tokens (roll-ArrayInit x))) is (array_rolled y))
