-- Heights by those of the parts, as calls that count them use them.
use Rattle.std.proofs.Common.{◌≡◌, ℕ, ◌+◌, max, List, [], ◌∷◌, ◌++◌, map, ap, ◌∙◌, arith}
use Rattle.jc_tree.specs.declared.types.BaseTree.TheVariants as anBaseTree
use Rattle.jc_tree.specs.declared.types.TypeArg.TheVariants as anTypeArg
use Rattle.jc_tree.specs.declared.expression.Creation.TheVariants as anCreation
use Rattle.jc_tree.specs.declared.expression.Expr.TheVariants as anExpr
use Rattle.jc_tree.specs.declared.expression.Init.TheVariants as anInit
use Rattle.jc_tree.specs.declared.expression.SkipPart.TheVariants as anSkipPart
use Rattle.jc_tree.specs.Heights.{capped, most}
use Rattle.jc_tree.proofs.HeightsOfTypes.{base_height-out, arg_height-out, class_height-parts, part_height-parts, type_height-parts}
use Rattle.jc_tree.proofs.HeightsOfExpressions.{skip_part_height-out, skip_height-parts, creation_height-out, creation_height-Object, creation_height-Sized, expr_height-out, expr_height-Call, expr_height-SuperCall, expr_height-Invoke, init_height-out, array_height-parts}
use Rattle.jc_tree.proofs.Capped.{capped_max, capped_suc}

pub ruleset types = (capped_max, capped_suc, base_height-out, anBaseTree.outs-Primitive, anBaseTree.outs-Class, arg_height-out, anTypeArg.outs-Exact, anTypeArg.outs-Any, anTypeArg.outs-Extends, anTypeArg.outs-Super, class_height-parts, part_height-parts, type_height-parts)

pub ruleset skips = (capped_max, capped_suc, skip_part_height-out, anSkipPart.outs-Inner, anSkipPart.outs-Token, skip_height-parts)

pub ruleset primes = (capped_max, capped_suc, creation_height-out, creation_height-Object, creation_height-Sized, anCreation.outs-Initialised, expr_height-out, anExpr.outs-Postfix, anExpr.outs-Field, expr_height-Call, anExpr.outs-Index, anExpr.outs-InnerNew, anExpr.outs-Literal, anExpr.outs-This, anExpr.outs-SuperField, expr_height-SuperCall, anExpr.outs-Paren, anExpr.outs-Name, expr_height-Invoke, anExpr.outs-New, anExpr.outs-ClassLiteral, anExpr.outs-VoidLiteral, anExpr.outs-OuterThis, init_height-out, anInit.outs-Value, anInit.outs-Nested, array_height-parts)

-- lists that grow by one

most_push : {A : Type 0} (f : A → ℕ) (list : List A) (a : A) → most (map f (list ++ a ∷ [])) ≡ max (most (map f list)) (f a)
most_push f [] a = omega arith
most_push f (b ∷ list) a = ap (λ (n : ℕ). max (f b) n) (most_push f list a) ∙ omega arith

pub pushed : {A : Type 0} (f : A → ℕ) (list : List A) (a : A) → capped (most (map f (list ++ a ∷ []))) ≡ max (capped (most (map f list))) (capped (f a))
pushed f list a = ap capped (most_push f list a) ∙ capped_max (most (map f list)) (f a)

pub one_height : {A : Type 0} (f : A → ℕ) (a : A) → capped (most (map f (a ∷ []))) ≡ capped (f a)
one_height f a = omega arith
