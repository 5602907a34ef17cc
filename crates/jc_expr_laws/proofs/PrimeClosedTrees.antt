-- The tokens of expressions of the grammar have no parentheses that stay open.
use Rattle.std.proofs.Common.{◌≡◌, ℕ, map, length, refl, sym, ap, ◌∙◌, subst}
use Rattle.std.proofs.lemmas.Bool.{false≢true, and_parts}
use Rattle.std.specs.Prelude.{◌&&◌, ◌||◌, ◌==◌, ◌+◌, not, nat_le, [], ◌∷◌, Bool, List, None, Some, false, true}
use Rattle.std.specs.List.{list_all}
use Rattle.jc_rules.proofs.Truths.{not_false}
use Rattle.jc_tree.specs.declared.expression.AssignOp.TheVariants as assign_of
use Rattle.jc_tree.specs.declared.expression.BinaryOp.TheVariants as binary_of
use Rattle.jc_lexer.specs.declared.token.Key.TheVariants as key_of
use Rattle.jc_lexer.specs.declared.token.Sign.TheVariants as sign_of
use Rattle.jc_tree.specs.declared.expression.ArrayInit.{ArrayInit, ArrayInit-F, fold-roll-ArrayInit, map-ArrayInit, roll-ArrayInit}
use Rattle.jc_tree.specs.declared.expression.AssignOp.{AssignOp}
use Rattle.jc_tree.specs.declared.expression.BinaryOp.{BinaryOp}
use Rattle.jc_tree.specs.declared.expression.Creation.{Creation, Creation-F, fold-roll-Creation, map-Creation, roll-Creation}
use Rattle.jc_tree.specs.declared.expression.Expr.{Expr, Expr-F, fold-roll-Expr, ind-Expr, map-Expr, roll-Expr}
use Rattle.jc_tree.specs.declared.expression.Init.{Init, Init-F, fold-roll-Init, map-Init, roll-Init}
use Rattle.jc_tree.specs.declared.expression.Operand.{Operand, Operand-F, fold-roll-Operand, map-Operand, roll-Operand}
use Rattle.jc_tree.specs.declared.expression.PrefixOp.{PrefixOp}
use Rattle.jc_tree.specs.declared.expression.Skip.{Skip, Skip-F, fold-roll-Skip, ind-Skip, map-Skip, roll-Skip}
use Rattle.jc_tree.specs.declared.expression.SkipPart.{SkipPart, SkipPart-F, fold-roll-SkipPart, map-SkipPart, roll-SkipPart}
use Rattle.jc_expr_laws.proofs.PrimeClosedTypes.{args_closed, base_closed, class_closed, type_closed}
use Rattle.jc_grammar.specs.Expressions.{array_tokens, array_told, assign_tokens, binary_tokens, creation_tokens, creation_told, diamond_tokens, expr_tokens, expr_told, init_tokens, init_told, literal_kind, operand_tokens, operand_told, postfix_sign, prefix_sign, prefix_tokens, skip_part_tokens, skip_part_told, skip_tokens, skip_told, if_there, opening, inner}
use Rattle.jc_grammar.specs.Told.{Spelled, each, commas, ident, key, key_at, sign, sign_at, told}
use Rattle.jc_grammar.specs.Types.{type_tokens}
use Rattle.jc_grammar.specs.Shapes.{is_brace, Shape, CreationShape, OperandShape, stands, all_stand, all_true, any_level, binary_level, of_level, longest_types, ends_bare, skip_part_step, skip_step, is_skip, is_skip_part, creation_shape_step, expr_shape_step, init_step, operand_shape_step, array_step, expr_shape, creation_shape, operand_shape, is_init, is_array}
use Rattle.jc_expr_laws.proofs.PrimeClosed.{Closed, Inside, AllClosed, ended, joined, actuals_closed, all_in_brackets, brackets_closed, commas_closed, each_closed, closed_along, inside_along, if_there_closed, in_brackets_closed, names_closed, nothing, nothing_inside, seq, seq_inside, token, token_inside, also_inside, in_parens, in_braces, no_brace}
use Rattle.jc_tree.specs.declared.expression.Literal.{Literal}
use Rattle.jc_tree.specs.declared.expression.Literal.TheVariants as literal_of
use Rattle.jc_tree.specs.declared.expression.PrefixSign.{PrefixSign}
use Rattle.jc_tree.specs.declared.expression.PrefixSign.TheVariants as prefix_of
use Rattle.jc_tree.specs.declared.expression.PostfixOp.{PostfixOp}
use Rattle.jc_tree.specs.declared.expression.PostfixOp.TheVariants as postfix_of

assign_closed : (op : AssignOp) → Closed (assign_tokens op)
assign_closed assign_of.Plain = token (sign sign_of.Assign) (λ s. refl)
assign_closed assign_of.Plus = token (sign sign_of.PlusAssign) (λ s. refl)
assign_closed assign_of.Minus = token (sign sign_of.MinusAssign) (λ s. refl)
assign_closed assign_of.Times = token (sign sign_of.StarAssign) (λ s. refl)
assign_closed assign_of.Divide = token (sign sign_of.SlashAssign) (λ s. refl)
assign_closed assign_of.Remainder = token (sign sign_of.PercentAssign) (λ s. refl)
assign_closed assign_of.And = token (sign sign_of.AndAssign) (λ s. refl)
assign_closed assign_of.Or = token (sign sign_of.OrAssign) (λ s. refl)
assign_closed assign_of.Xor = token (sign sign_of.CaretAssign) (λ s. refl)
assign_closed assign_of.ShiftLeft = token (sign sign_of.ShiftLeftAssign) (λ s. refl)
assign_closed assign_of.ShiftRight = seq (token (opening true) (λ s. refl)) (seq (token inner (λ s. refl)) (token (sign sign_of.Assign) (λ s. refl)))
assign_closed assign_of.ShiftRightZero = seq (token (opening true) (λ s. refl)) (seq (token inner (λ s. refl)) (seq (token inner (λ s. refl)) (token (sign sign_of.Assign) (λ s. refl))))

binary_closed : (op : BinaryOp) → Closed (binary_tokens op)
binary_closed binary_of.OrElse = token (sign sign_of.OrOr) (λ s. refl)
binary_closed binary_of.AndAlso = token (sign sign_of.AndAnd) (λ s. refl)
binary_closed binary_of.Or = token (sign sign_of.Or) (λ s. refl)
binary_closed binary_of.Xor = token (sign sign_of.Caret) (λ s. refl)
binary_closed binary_of.And = token (sign sign_of.And) (λ s. refl)
binary_closed binary_of.Equal = token (sign sign_of.Equal) (λ s. refl)
binary_closed binary_of.NotEqual = token (sign sign_of.NotEqual) (λ s. refl)
binary_closed binary_of.Less = token (sign sign_of.Less) (λ s. refl)
binary_closed binary_of.LessEqual = token (sign sign_of.LessEqual) (λ s. refl)
binary_closed binary_of.ShiftLeft = token (sign sign_of.ShiftLeft) (λ s. refl)
binary_closed binary_of.Plus = token (sign sign_of.Plus) (λ s. refl)
binary_closed binary_of.Minus = token (sign sign_of.Minus) (λ s. refl)
binary_closed binary_of.Times = token (sign sign_of.Star) (λ s. refl)
binary_closed binary_of.Divide = token (sign sign_of.Slash) (λ s. refl)
binary_closed binary_of.Remainder = token (sign sign_of.Percent) (λ s. refl)
binary_closed binary_of.Greater = token (opening false) (λ s. refl)
binary_closed binary_of.GreaterEqual = seq (token (opening true) (λ s. refl)) (token (sign sign_of.Assign) (λ s. refl))
binary_closed binary_of.ShiftRight = seq (token (opening true) (λ s. refl)) (token (sign sign_of.Greater) (λ s. refl))
binary_closed binary_of.ShiftRightZero = seq (token (opening true) (λ s. refl)) (seq (token inner (λ s. refl)) (token (sign sign_of.Greater) (λ s. refl)))

prefix_one : (op : PrefixOp) → Closed (λ r. sign_at (prefix_sign op.sign) op.at ∷ r)
prefix_one op = of_sign op.sign op.at
  where
    of_sign : (s : PrefixSign) (at : ℕ) → Closed (λ r. sign_at (prefix_sign s) at ∷ r)
    of_sign prefix_of.Plus at = token (sign_at sign_of.Plus at) (λ s. refl)
    of_sign prefix_of.Minus at = token (sign_at sign_of.Minus at) (λ s. refl)
    of_sign prefix_of.Increment at = token (sign_at sign_of.Increment at) (λ s. refl)
    of_sign prefix_of.Decrement at = token (sign_at sign_of.Decrement at) (λ s. refl)
    of_sign prefix_of.Not at = token (sign_at sign_of.Not at) (λ s. refl)
    of_sign prefix_of.Complement at = token (sign_at sign_of.Tilde at) (λ s. refl)

prefix_closed : (ops : List PrefixOp) → Closed (prefix_tokens ops)
prefix_closed [] = nothing
prefix_closed (op ∷ ops) = seq (prefix_one op) (prefix_closed ops)

postfix_closed : (op : PostfixOp) → Closed (λ r. sign (postfix_sign op) ∷ r)
postfix_closed postfix_of.Increment = token (sign sign_of.Increment) (λ s. refl)
postfix_closed postfix_of.Decrement = token (sign sign_of.Decrement) (λ s. refl)

literal_closed : (value : Literal) (at : ℕ) → Closed (λ r. told (literal_kind value) (Some at) ∷ r)
literal_closed (literal_of.Number v l d) at = token (told (literal_kind (literal_of.Number v l d)) (Some at)) (λ s. refl)
literal_closed (literal_of.Char u) at = token (told (literal_kind (literal_of.Char u)) (Some at)) (λ s. refl)
literal_closed (literal_of.String u) at = token (told (literal_kind (literal_of.String u)) (Some at)) (λ s. refl)
literal_closed (literal_of.Boolean true) at = token (told (literal_kind (literal_of.Boolean true)) (Some at)) (λ s. refl)
literal_closed (literal_of.Boolean false) at = token (told (literal_kind (literal_of.Boolean false)) (Some at)) (λ s. refl)
literal_closed literal_of.Null at = token (told (literal_kind literal_of.Null) (Some at)) (λ s. refl)

diamond_closed : (diamond : Bool) → Closed (diamond_tokens diamond)
diamond_closed true = seq (token (sign sign_of.Less) (λ s. refl)) (token (sign sign_of.Greater) (λ s. refl))
diamond_closed false = nothing

abbrev PartClosed : SkipPart → Type 0
PartClosed x = is_skip_part x ≡ true → Inside (skip_part_tokens x)

abbrev SkipClosed : Skip → Type 0
SkipClosed x = is_skip x ≡ true → Closed (skip_tokens x)

abbrev SomeSkipPart : Type 0
SomeSkipPart = (x : SkipPart) × PartClosed x

abbrev SomeSkip : Type 0
SomeSkip = (x : Skip) × SkipClosed x

abbrev plain_skip_part : SkipPart-F SomeSkipPart SomeSkip → SkipPart-F SkipPart Skip
plain_skip_part y = map-SkipPart SomeSkipPart SomeSkip SkipPart Skip (λ z. z.0) (λ z. z.0) y

skip_part_layer : (y : SkipPart-F SomeSkipPart SomeSkip) → skip_part_step (map-SkipPart SkipPart Skip Bool Bool is_skip_part is_skip (plain_skip_part y)) ≡ true → Inside (skip_part_told (map-SkipPart SkipPart Skip Spelled Spelled skip_part_tokens skip_tokens (plain_skip_part y)))
skip_part_layer (SkipPart-F.Inner skip) g = also_inside (skip.1 g)
skip_part_layer (SkipPart-F.Token kind) g = token_inside (told kind None) (λ a c. no_brace kind a c (not_false (is_brace kind) g))

skip_part_rolled : (y : SkipPart-F SomeSkipPart SomeSkip) → PartClosed (roll-SkipPart (plain_skip_part y))
unfolding skip_part_tokens skip_tokens is_skip_part is_skip
skip_part_rolled y g = inside_along (fold-roll-SkipPart Spelled Spelled skip_part_told skip_told (plain_skip_part y)) (skip_part_layer y (sym (fold-roll-SkipPart Bool Bool skip_part_step skip_step (plain_skip_part y)) ∙ g))

abbrev plain_skip : Skip-F SomeSkipPart SomeSkip → Skip-F SkipPart Skip
plain_skip y = map-Skip SomeSkipPart SomeSkip SkipPart Skip (λ z. z.0) (λ z. z.0) y

parts_inside : (zs : List SomeSkipPart) → all_true (map is_skip_part (map (λ z. z.0) zs)) ≡ true → Inside (each (map skip_part_tokens (map (λ z. z.0) zs)))
parts_inside [] g = nothing_inside
parts_inside (z ∷ zs) g = let f = and_parts (is_skip_part z.0) (all_true (map is_skip_part (map (λ z. z.0) zs))) g in seq_inside (z.1 f.0) (parts_inside zs f.1)

skip_layer : (y : Skip-F SomeSkipPart SomeSkip) → skip_step (map-Skip SkipPart Skip Bool Bool is_skip_part is_skip (plain_skip y)) ≡ true → Closed (skip_told (map-Skip SkipPart Skip Spelled Spelled skip_part_tokens skip_tokens (plain_skip y)))
skip_layer y g = in_braces {f = each (map skip_part_tokens (map (λ z. z.0) y.parts))} (sign sign_of.LeftBrace) (sign sign_of.RightBrace) (parts_inside y.parts g) refl refl

skip_rolled : (y : Skip-F SomeSkipPart SomeSkip) → SkipClosed (roll-Skip (plain_skip y))
unfolding skip_part_tokens skip_tokens is_skip_part is_skip
skip_rolled y g = closed_along (fold-roll-Skip Spelled Spelled skip_part_told skip_told (plain_skip y)) (skip_layer y (sym (fold-roll-Skip Bool Bool skip_part_step skip_step (plain_skip y)) ∙ g))

pub skip_closed : (x : Skip) → SkipClosed x
skip_closed = ind-Skip PartClosed SkipClosed
    (λ x y is. subst (λ (x : SkipPart-F SkipPart Skip). PartClosed (roll-SkipPart x)) is (skip_part_rolled y))
    (λ x y is. subst (λ (x : Skip-F SkipPart Skip). SkipClosed (roll-Skip x)) is (skip_rolled y))

-- the tokens of expressions of the grammar

abbrev CreationClosed : Creation → Type 0
CreationClosed x = (creation_shape x).good ≡ true → Closed (creation_tokens x)

abbrev ExprClosed : Expr → Type 0
ExprClosed x = (expr_shape x).good ≡ true → Closed (expr_tokens x)

abbrev InitClosed : Init → Type 0
InitClosed x = is_init x ≡ true → Closed (init_tokens x)

abbrev OperandClosed : Operand → Type 0
OperandClosed x = (operand_shape x).good ≡ true → Closed (operand_tokens x)

abbrev ArrayClosed : ArrayInit → Type 0
ArrayClosed x = is_array x ≡ true → Closed (array_tokens x)

abbrev SomeCreation : Type 0
SomeCreation = (x : Creation) × CreationClosed x

abbrev SomeExpr : Type 0
SomeExpr = (x : Expr) × ExprClosed x

abbrev SomeInit : Type 0
SomeInit = (x : Init) × InitClosed x

abbrev SomeOperand : Type 0
SomeOperand = (x : Operand) × OperandClosed x

abbrev SomeArrayInit : Type 0
SomeArrayInit = (x : ArrayInit) × ArrayClosed x

-- what stands at a level is of the grammar
at_level : (level : ℕ) (z : SomeExpr) → stands level (expr_shape z.0) ≡ true → Closed (expr_tokens z.0)
at_level level z g = z.1 (and_parts (expr_shape z.0).good (nat_le level (expr_shape z.0).level) g).0

all_standing : (zs : List SomeExpr) → all_stand any_level (map expr_shape (map (λ z. z.0) zs)) ≡ true → AllClosed (map expr_tokens (map (λ z. z.0) zs))
all_standing [] g = ended
all_standing (z ∷ zs) g = let f = and_parts (stands any_level (expr_shape z.0)) (all_stand any_level (map expr_shape (map (λ z. z.0) zs))) g in joined (at_level any_level z f.0) (all_standing zs f.1)

all_bodies : (body : List Skip) → list_all is_skip body ≡ true → AllClosed (map skip_tokens body)
all_bodies [] g = ended
all_bodies (s ∷ body) g = let f = and_parts (is_skip s) (list_all is_skip body) g in joined (skip_closed s f.0) (all_bodies body f.1)

all_inits : (zs : List SomeInit) → all_true (map is_init (map (λ z. z.0) zs)) ≡ true → AllClosed (map init_tokens (map (λ z. z.0) zs))
all_inits [] g = ended
all_inits (z ∷ zs) g = let f = and_parts (is_init z.0) (all_true (map is_init (map (λ z. z.0) zs))) g in joined (z.1 f.0) (all_inits zs f.1)

all_operands : (level : ℕ) (zs : List SomeOperand) → list_all (of_level level) (map operand_shape (map (λ z. z.0) zs)) ≡ true → AllClosed (map operand_tokens (map (λ z. z.0) zs))
all_operands level [] g = ended
all_operands level (z ∷ zs) g =
    let f = and_parts (of_level level (operand_shape z.0)) (list_all (of_level level) (map operand_shape (map (λ z. z.0) zs))) g in
    joined (z.1 (and_parts (operand_shape z.0).good ((operand_shape z.0).level == level) f.0).0) (all_operands level zs f.1)

abbrev plain_creation : Creation-F SomeCreation SomeExpr SomeInit SomeOperand SomeArrayInit → Creation-F Creation Expr Init Operand ArrayInit
plain_creation y = map-Creation SomeCreation SomeExpr SomeInit SomeOperand SomeArrayInit Creation Expr Init Operand ArrayInit (λ z. z.0) (λ z. z.0) (λ z. z.0) (λ z. z.0) (λ z. z.0) y

abbrev plain_expr : Expr-F SomeCreation SomeExpr SomeInit SomeOperand SomeArrayInit → Expr-F Creation Expr Init Operand ArrayInit
plain_expr y = map-Expr SomeCreation SomeExpr SomeInit SomeOperand SomeArrayInit Creation Expr Init Operand ArrayInit (λ z. z.0) (λ z. z.0) (λ z. z.0) (λ z. z.0) (λ z. z.0) y

abbrev plain_init : Init-F SomeCreation SomeExpr SomeInit SomeOperand SomeArrayInit → Init-F Creation Expr Init Operand ArrayInit
plain_init y = map-Init SomeCreation SomeExpr SomeInit SomeOperand SomeArrayInit Creation Expr Init Operand ArrayInit (λ z. z.0) (λ z. z.0) (λ z. z.0) (λ z. z.0) (λ z. z.0) y

abbrev plain_operand : Operand-F SomeCreation SomeExpr SomeInit SomeOperand SomeArrayInit → Operand-F Creation Expr Init Operand ArrayInit
plain_operand y = map-Operand SomeCreation SomeExpr SomeInit SomeOperand SomeArrayInit Creation Expr Init Operand ArrayInit (λ z. z.0) (λ z. z.0) (λ z. z.0) (λ z. z.0) (λ z. z.0) y

abbrev plain_array : ArrayInit-F SomeCreation SomeExpr SomeInit SomeOperand SomeArrayInit → ArrayInit-F Creation Expr Init Operand ArrayInit
plain_array y = map-ArrayInit SomeCreation SomeExpr SomeInit SomeOperand SomeArrayInit Creation Expr Init Operand ArrayInit (λ z. z.0) (λ z. z.0) (λ z. z.0) (λ z. z.0) (λ z. z.0) y

creation_layer : (y : Creation-F SomeCreation SomeExpr SomeInit SomeOperand SomeArrayInit) → (creation_shape_step (map-Creation Creation Expr Init Operand ArrayInit CreationShape Shape Bool OperandShape Bool creation_shape expr_shape is_init operand_shape is_array (plain_creation y))).good ≡ true → Closed (creation_told (map-Creation Creation Expr Init Operand ArrayInit Spelled Spelled Spelled Spelled Spelled creation_tokens expr_tokens init_tokens operand_tokens array_tokens (plain_creation y)))
creation_layer (Creation-F.Object class diamond args body) g =
    let f = and_parts (((not diamond || ends_bare class) && all_stand any_level (map expr_shape (map (λ z. z.0) args))) && list_all is_skip body) (nat_le (length body) 1) g in
    let k = and_parts ((not diamond || ends_bare class) && all_stand any_level (map expr_shape (map (λ z. z.0) args))) (list_all is_skip body) f.0 in
    let l = and_parts (not diamond || ends_bare class) (all_stand any_level (map expr_shape (map (λ z. z.0) args))) k.0 in
    seq (class_closed class) (seq (diamond_closed diamond) (seq (actuals_closed (all_standing args l.1)) (each_closed (all_bodies body k.1))))
creation_layer (Creation-F.Sized element first more dims) g =
    let f = and_parts (stands any_level (expr_shape first.0)) (all_stand any_level (map expr_shape (map (λ z. z.0) more))) g in
    seq (base_closed element) (seq (in_brackets_closed (at_level any_level first f.0)) (seq (each_closed (all_in_brackets (all_standing more f.1))) (brackets_closed dims)))
creation_layer (Creation-F.Initialised element dims init) g = seq (base_closed element) (seq (token (sign sign_of.LeftBracket) (λ s. refl)) (seq (token (sign sign_of.RightBracket) (λ s. refl)) (seq (brackets_closed dims) (init.1 g))))

expr_layer : (y : Expr-F SomeCreation SomeExpr SomeInit SomeOperand SomeArrayInit) → (expr_shape_step (map-Expr Creation Expr Init Operand ArrayInit CreationShape Shape Bool OperandShape Bool creation_shape expr_shape is_init operand_shape is_array (plain_expr y))).good ≡ true → Closed (expr_told (map-Expr Creation Expr Init Operand ArrayInit Spelled Spelled Spelled Spelled Spelled creation_tokens expr_tokens init_tokens operand_tokens array_tokens (plain_expr y)))
expr_layer (Expr-F.Assign target op value) g = let f = and_parts (stands 14 (expr_shape target.0)) (stands any_level (expr_shape value.0)) g in seq (at_level 14 target f.0) (seq (assign_closed op) (at_level any_level value f.1))
expr_layer (Expr-F.Conditional test then_it else_it) g =
    let f = and_parts (stands 2 (expr_shape test.0) && stands any_level (expr_shape then_it.0)) (stands 1 (expr_shape else_it.0)) g in
    let k = and_parts (stands 2 (expr_shape test.0)) (stands any_level (expr_shape then_it.0)) f.0 in
    seq (at_level 2 test k.0) (seq (token (sign sign_of.Question) (λ s. refl)) (seq (at_level any_level then_it k.1) (seq (token (sign sign_of.Colon) (λ s. refl)) (at_level 1 else_it f.1))))
expr_layer (Expr-F.Chain first []) g = absurd (false≢true g)
expr_layer (Expr-F.Chain first (o ∷ rest)) g =
    let level : ℕ = (operand_shape o.0).level in
    let all : Bool = list_all (of_level level) (map operand_shape (map (λ z. z.0) (o ∷ rest))) in
    let f = and_parts (stands (level + 1) (expr_shape first.0) && all) (longest_types (operand_shape o.0) (map operand_shape (map (λ z. z.0) rest))) g in
    let k = and_parts (stands (level + 1) (expr_shape first.0)) all f.0 in
    seq (at_level (level + 1) first k.0) (each_closed (all_operands level (o ∷ rest) k.1))
expr_layer (Expr-F.Prefix first more operand) g = let f = and_parts (stands 13 (expr_shape operand.0)) (not (expr_shape operand.0).prefix) g in seq (prefix_closed (first ∷ more)) (at_level 13 operand f.0)
expr_layer (Expr-F.Cast at ty operand) g = seq (in_parens {f = type_tokens ty} (sign_at sign_of.LeftParen at) (sign sign_of.RightParen) (type_closed ty) refl refl) (at_level _ operand g)
expr_layer (Expr-F.Postfix of_it op) g = seq (at_level 14 of_it g) (postfix_closed op)
expr_layer (Expr-F.Field of_it name) g = seq (at_level 15 of_it g) (seq (token (sign sign_of.Dot) (λ s. refl)) (token (ident name) (λ s. refl)))
expr_layer (Expr-F.Call of_it type_args name args) g =
    let f = and_parts (stands 15 (expr_shape of_it.0)) (all_stand any_level (map expr_shape (map (λ z. z.0) args))) g in
    seq (at_level 15 of_it f.0) (seq (token (sign sign_of.Dot) (λ s. refl)) (seq (args_closed type_args) (seq (token (ident name) (λ s. refl)) (actuals_closed (all_standing args f.1)))))
expr_layer (Expr-F.Index of_it index) g =
    let f = and_parts (stands 15 (expr_shape of_it.0) && not (expr_shape of_it.0).sized) (stands any_level (expr_shape index.0)) g in
    let k = and_parts (stands 15 (expr_shape of_it.0)) (not (expr_shape of_it.0).sized) f.0 in
    seq (at_level 15 of_it k.0) (in_brackets_closed (at_level any_level index f.1))
expr_layer (Expr-F.InnerNew of_it creation) g =
    let f = and_parts (stands 15 (expr_shape of_it.0)) (creation_shape creation.0).good g in
    seq (at_level 15 of_it f.0) (seq (token (sign sign_of.Dot) (λ s. refl)) (seq (token (key key_of.New) (λ s. refl)) (creation.1 f.1)))
expr_layer (Expr-F.Literal at value) g = literal_closed value at
expr_layer (Expr-F.This at) g = token (key_at key_of.This at) (λ s. refl)
expr_layer (Expr-F.SuperField at name) g = seq (token (key_at key_of.Super at) (λ s. refl)) (seq (token (sign sign_of.Dot) (λ s. refl)) (token (ident name) (λ s. refl)))
expr_layer (Expr-F.SuperCall at type_args name args) g = seq (token (key_at key_of.Super at) (λ s. refl)) (seq (token (sign sign_of.Dot) (λ s. refl)) (seq (args_closed type_args) (seq (token (ident name) (λ s. refl)) (actuals_closed (all_standing args g)))))
expr_layer (Expr-F.Paren at inside) g = in_parens {f = expr_tokens inside.0} (sign_at sign_of.LeftParen at) (sign sign_of.RightParen) (at_level any_level inside g) refl refl
expr_layer (Expr-F.Name name) g = token (ident name) (λ s. refl)
expr_layer (Expr-F.Invoke name args) g = seq (token (ident name) (λ s. refl)) (actuals_closed (all_standing args g))
expr_layer (Expr-F.New at creation) g = seq (token (key_at key_of.New at) (λ s. refl)) (creation.1 g)
expr_layer (Expr-F.ClassLiteral ty) g = seq (type_closed ty) (seq (token (sign sign_of.Dot) (λ s. refl)) (token (key key_of.Class) (λ s. refl)))
expr_layer (Expr-F.VoidLiteral at) g = seq (token (key_at key_of.Void at) (λ s. refl)) (seq (token (sign sign_of.Dot) (λ s. refl)) (token (key key_of.Class) (λ s. refl)))
expr_layer (Expr-F.OuterThis first more) g = seq (token (ident first) (λ s. refl)) (seq (names_closed more) (seq (token (sign sign_of.Dot) (λ s. refl)) (token (key key_of.This) (λ s. refl))))

init_layer : (y : Init-F SomeCreation SomeExpr SomeInit SomeOperand SomeArrayInit) → init_step (map-Init Creation Expr Init Operand ArrayInit CreationShape Shape Bool OperandShape Bool creation_shape expr_shape is_init operand_shape is_array (plain_init y)) ≡ true → Closed (init_told (map-Init Creation Expr Init Operand ArrayInit Spelled Spelled Spelled Spelled Spelled creation_tokens expr_tokens init_tokens operand_tokens array_tokens (plain_init y)))
init_layer (Init-F.Value expr) g = at_level any_level expr g
init_layer (Init-F.Nested array) g = array.1 g

operand_layer : (y : Operand-F SomeCreation SomeExpr SomeInit SomeOperand SomeArrayInit) → (operand_shape_step (map-Operand Creation Expr Init Operand ArrayInit CreationShape Shape Bool OperandShape Bool creation_shape expr_shape is_init operand_shape is_array (plain_operand y))).good ≡ true → Closed (operand_told (map-Operand Creation Expr Init Operand ArrayInit Spelled Spelled Spelled Spelled Spelled creation_tokens expr_tokens init_tokens operand_tokens array_tokens (plain_operand y)))
operand_layer (Operand-F.Binary op right) g = seq (binary_closed op) (at_level (binary_level op + 1) right g)
operand_layer (Operand-F.InstanceOf ty) g = seq (token (key key_of.Instanceof) (λ s. refl)) (type_closed ty)

array_layer : (y : ArrayInit-F SomeCreation SomeExpr SomeInit SomeOperand SomeArrayInit) → array_step (map-ArrayInit Creation Expr Init Operand ArrayInit CreationShape Shape Bool OperandShape Bool creation_shape expr_shape is_init operand_shape is_array (plain_array y)) ≡ true → Closed (array_told (map-ArrayInit Creation Expr Init Operand ArrayInit Spelled Spelled Spelled Spelled Spelled creation_tokens expr_tokens init_tokens operand_tokens array_tokens (plain_array y)))
array_layer y g =
    in_braces {f = λ r. commas (map init_tokens (map (λ z. z.0) y.inits)) (if_there y.trailing sign_of.Comma r)} (sign_at sign_of.LeftBrace y.at) (sign sign_of.RightBrace)
    (also_inside (seq (commas_closed (all_inits y.inits g)) (if_there_closed y.trailing sign_of.Comma (λ s. refl)))) refl refl

creation_rolled : (y : Creation-F SomeCreation SomeExpr SomeInit SomeOperand SomeArrayInit) → CreationClosed (roll-Creation (plain_creation y))
unfolding creation_tokens expr_tokens init_tokens operand_tokens array_tokens creation_shape expr_shape is_init operand_shape is_array
creation_rolled y g = closed_along (fold-roll-Creation Spelled Spelled Spelled Spelled Spelled creation_told expr_told init_told operand_told array_told (plain_creation y)) (creation_layer y (sym (ap (λ s. s.good) (fold-roll-Creation CreationShape Shape Bool OperandShape Bool creation_shape_step expr_shape_step init_step operand_shape_step array_step (plain_creation y))) ∙ g))

expr_rolled : (y : Expr-F SomeCreation SomeExpr SomeInit SomeOperand SomeArrayInit) → ExprClosed (roll-Expr (plain_expr y))
unfolding creation_tokens expr_tokens init_tokens operand_tokens array_tokens creation_shape expr_shape is_init operand_shape is_array
expr_rolled y g = closed_along (fold-roll-Expr Spelled Spelled Spelled Spelled Spelled creation_told expr_told init_told operand_told array_told (plain_expr y)) (expr_layer y (sym (ap (λ s. s.good) (fold-roll-Expr CreationShape Shape Bool OperandShape Bool creation_shape_step expr_shape_step init_step operand_shape_step array_step (plain_expr y))) ∙ g))

init_rolled : (y : Init-F SomeCreation SomeExpr SomeInit SomeOperand SomeArrayInit) → InitClosed (roll-Init (plain_init y))
unfolding creation_tokens expr_tokens init_tokens operand_tokens array_tokens creation_shape expr_shape is_init operand_shape is_array
init_rolled y g = closed_along (fold-roll-Init Spelled Spelled Spelled Spelled Spelled creation_told expr_told init_told operand_told array_told (plain_init y)) (init_layer y (sym (fold-roll-Init CreationShape Shape Bool OperandShape Bool creation_shape_step expr_shape_step init_step operand_shape_step array_step (plain_init y)) ∙ g))

operand_rolled : (y : Operand-F SomeCreation SomeExpr SomeInit SomeOperand SomeArrayInit) → OperandClosed (roll-Operand (plain_operand y))
unfolding creation_tokens expr_tokens init_tokens operand_tokens array_tokens creation_shape expr_shape is_init operand_shape is_array
operand_rolled y g = closed_along (fold-roll-Operand Spelled Spelled Spelled Spelled Spelled creation_told expr_told init_told operand_told array_told (plain_operand y)) (operand_layer y (sym (ap (λ s. s.good) (fold-roll-Operand CreationShape Shape Bool OperandShape Bool creation_shape_step expr_shape_step init_step operand_shape_step array_step (plain_operand y))) ∙ g))

array_rolled : (y : ArrayInit-F SomeCreation SomeExpr SomeInit SomeOperand SomeArrayInit) → ArrayClosed (roll-ArrayInit (plain_array y))
unfolding creation_tokens expr_tokens init_tokens operand_tokens array_tokens creation_shape expr_shape is_init operand_shape is_array
array_rolled y g = closed_along (fold-roll-ArrayInit Spelled Spelled Spelled Spelled Spelled creation_told expr_told init_told operand_told array_told (plain_array y)) (array_layer y (sym (fold-roll-ArrayInit CreationShape Shape Bool OperandShape Bool creation_shape_step expr_shape_step init_step operand_shape_step array_step (plain_array y)) ∙ g))

-- each expression of the grammar closes its parentheses
pub expr_closed : (x : Expr) → (expr_shape x).good ≡ true → Closed (expr_tokens x)
expr_closed = ind-Expr CreationClosed ExprClosed InitClosed OperandClosed ArrayClosed
    (λ x y is. subst (λ (x : Creation-F Creation Expr Init Operand ArrayInit). CreationClosed (roll-Creation x)) is (creation_rolled y))
    (λ x y is. subst (λ (x : Expr-F Creation Expr Init Operand ArrayInit). ExprClosed (roll-Expr x)) is (expr_rolled y))
    (λ x y is. subst (λ (x : Init-F Creation Expr Init Operand ArrayInit). InitClosed (roll-Init x)) is (init_rolled y))
    (λ x y is. subst (λ (x : Operand-F Creation Expr Init Operand ArrayInit). OperandClosed (roll-Operand x)) is (operand_rolled y))
    (λ x y is. subst (λ (x : ArrayInit-F Creation Expr Init Operand ArrayInit). ArrayClosed (roll-ArrayInit x)) is (array_rolled y))
