-- The readings of each form of expressions, by its parts.
use Rattle.std.proofs.Common.{◌≡◌, ℕ, suc, ◌+◌, Bool, false, List, [], ◌∷◌, Option, Some, None, map, length, refl, ap, sym, ◌∙◌}
use Rattle.jc_rules.specs.declared.rule.Place.{Place}
use Rattle.jc_tree.specs.declared.expression.ArrayInit.{ArrayInit, fold_out-ArrayInit, map-ArrayInit, out-ArrayInit}
use Rattle.jc_tree.specs.declared.expression.AssignOp.{AssignOp}
use Rattle.jc_tree.specs.declared.expression.BinaryOp.{BinaryOp}
use Rattle.jc_tree.specs.declared.expression.Creation.{Creation, Creation-F, fold_out-Creation, map-Creation, out-Creation}
use Rattle.jc_tree.specs.declared.expression.Creation.TheVariants as aCreation
use Rattle.jc_tree.specs.declared.expression.Expr.{Expr, Expr-F, fold_out-Expr, map-Expr, out-Expr}
use Rattle.jc_tree.specs.declared.expression.Expr.TheVariants as anExpr
use Rattle.jc_tree.specs.declared.expression.Init.{Init, Init-F, fold_out-Init, map-Init, out-Init}
use Rattle.jc_tree.specs.declared.expression.Init.TheVariants as anInit
use Rattle.jc_tree.specs.declared.expression.Literal.{Literal}
use Rattle.jc_tree.specs.declared.expression.Operand.{Operand, Operand-F, fold_out-Operand, map-Operand, out-Operand}
use Rattle.jc_tree.specs.declared.expression.Operand.TheVariants as anOperand
use Rattle.jc_tree.specs.declared.expression.PostfixOp.{PostfixOp}
use Rattle.jc_tree.specs.declared.expression.PrefixOp.{PrefixOp}
use Rattle.jc_tree.specs.declared.expression.PrefixSign.{PrefixSign}
use Rattle.jc_tree.specs.declared.expression.PrefixSign.TheVariants as sign
use Rattle.jc_tree.specs.declared.name.Ident.{Ident}
use Rattle.jc_tree.specs.declared.expression.Skip.{Skip}
use Rattle.jc_tree.specs.declared.types.BaseTree.{BaseTree}
use Rattle.jc_tree.specs.declared.types.ClassTree.{ClassTree}
use Rattle.jc_tree.specs.declared.types.TypeArg.{TypeArg}
use Rattle.jc_tree.specs.declared.types.TypeTree.{TypeTree}
use Rattle.jc_types.specs.declared.form.Ty.{Ty}
use Rattle.jc_overriding.specs.Viewing.{with_dims}
use Rattle.jc_typed.specs.Trees.{Operand as Operated}
use Rattle.jc_exprs_nodes_spec.specs.Told.{Run, fine, by_rule, both, onward, every}
use Rattle.jc_exprs_nodes_spec.specs.Typeds.{Typed, plain}
use Rattle.jc_exprs_parts_spec.specs.Assigning.{changed}
use Rattle.jc_exprs_parts_spec.specs.Chains.{Unsigned, signed}
use Rattle.jc_exprs_parts_spec.specs.Names.{first_meant, located_behind, next_meant, simple_located, super_member, this_value, value_of}
use Rattle.jc_exprs_parts_spec.specs.Values.{cast_to, sized}
use Rattle.jc_exprs_parts_spec.specs.Worlds.{World, at, written, written_base, written_class}
use Rattle.jc_exprs_spec.specs.Calls.{asked, call_here, call_on, call_super}
use Rattle.jc_exprs_spec.specs.Creations.{created}
use Rattle.jc_exprs_spec.specs.Typing.{Ahead, Binary, Created, Further, Given, InstanceOf, Listing, Node, ahead_by, array_step, as_meaning, assignment, chain, creation_step, effect, element_of_some, expr_step, given_to, givens, init_step, initialised, listed_as, literal_value, made, made_array, made_creation, made_init, made_operand, negated_literal, no_variable, operand_ahead, operand_run, operand_step, operator_of, postfix_op, prefixed, restarted, runs, typing, with_value}
use Rattle.jc_exprs_forms.specs.Forms.{ahead_in, assigning, branching, calling, chaining, creating, creating_object, creating_sized, further, furthers, giving, giving_value, givings, indexing, invoking, listing, listing_all, located, meant, negated, prefixing, sign_operand, starts, super_calling, targeted, typings}

-- ---- the fold, one layer at a time

abbrev step : World → Expr-F Creation Expr Init Operand ArrayInit → Node
step W l = expr_step W (map-Expr Creation Expr Init Operand ArrayInit Created Node Given Further Listing (made_creation W) (made W) (made_init W) (made_operand W) (made_array W) l)

made_at : (W : World) (e : Expr) (l : Expr-F Creation Expr Init Operand ArrayInit) → out-Expr e ≡ l → made W e ≡ step W l
unfolding made made_creation made_init made_operand made_array
made_at W e l q = fold_out-Expr Created Node Given Further Listing (creation_step W) (expr_step W) (init_step W) operand_step (array_step W) e ∙ ap (step W) q

creation_at : (W : World) (e : Creation) (l : Creation-F Creation Expr Init Operand ArrayInit) → out-Creation e ≡ l → made_creation W e ≡ creation_step W (map-Creation Creation Expr Init Operand ArrayInit Created Node Given Further Listing (made_creation W) (made W) (made_init W) (made_operand W) (made_array W) l)
unfolding made made_creation made_init made_operand made_array
creation_at W e l q =
    fold_out-Creation Created Node Given Further Listing (creation_step W) (expr_step W) (init_step W) operand_step (array_step W) e
    ∙ ap (λ (l : Creation-F Creation Expr Init Operand ArrayInit). creation_step W (map-Creation Creation Expr Init Operand ArrayInit Created Node Given Further Listing (made_creation W) (made W) (made_init W) (made_operand W) (made_array W) l)) q

init_at : (W : World) (e : Init) (l : Init-F Creation Expr Init Operand ArrayInit) → out-Init e ≡ l → made_init W e ≡ init_step W (map-Init Creation Expr Init Operand ArrayInit Created Node Given Further Listing (made_creation W) (made W) (made_init W) (made_operand W) (made_array W) l)
unfolding made made_creation made_init made_operand made_array
init_at W e l q =
    fold_out-Init Created Node Given Further Listing (creation_step W) (expr_step W) (init_step W) operand_step (array_step W) e
    ∙ ap (λ (l : Init-F Creation Expr Init Operand ArrayInit). init_step W (map-Init Creation Expr Init Operand ArrayInit Created Node Given Further Listing (made_creation W) (made W) (made_init W) (made_operand W) (made_array W) l)) q

operand_at : (W : World) (e : Operand) (l : Operand-F Creation Expr Init Operand ArrayInit) → out-Operand e ≡ l → made_operand W e ≡ operand_step (map-Operand Creation Expr Init Operand ArrayInit Created Node Given Further Listing (made_creation W) (made W) (made_init W) (made_operand W) (made_array W) l)
unfolding made made_creation made_init made_operand made_array
operand_at W e l q =
    fold_out-Operand Created Node Given Further Listing (creation_step W) (expr_step W) (init_step W) operand_step (array_step W) e
    ∙ ap (λ (l : Operand-F Creation Expr Init Operand ArrayInit). operand_step (map-Operand Creation Expr Init Operand ArrayInit Created Node Given Further Listing (made_creation W) (made W) (made_init W) (made_operand W) (made_array W) l)) q

array_out : (W : World) (e : ArrayInit) → made_array W e ≡ array_step W (map-ArrayInit Creation Expr Init Operand ArrayInit Created Node Given Further Listing (made_creation W) (made W) (made_init W) (made_operand W) (made_array W) (out-ArrayInit e))
unfolding made made_creation made_init made_operand made_array
array_out W e = fold_out-ArrayInit Created Node Given Further Listing (creation_step W) (expr_step W) (init_step W) operand_step (array_step W) e

-- ---- lists of parts

of_runs : (W : World) (es : List Expr) → runs (map (made W) es) ≡ typings W es
unfolding typing
of_runs W [] = refl
of_runs W (e ∷ es) = ap (λ ms. typing W None e ∷ ms) (of_runs W es)

of_givens : (W : World) (t : Option Ty) (is : List Init) → givens t (map (made_init W) is) ≡ givings W t is
unfolding giving
of_givens W t [] = refl
of_givens W t (i ∷ is) = ap (λ ms. giving W t i ∷ ms) (of_givens W t is)

of_furthers : (W : World) (os : List Operand) → map (made_operand W) os ≡ furthers W os
unfolding further
of_furthers W [] = refl
of_furthers W (o ∷ os) = ap (λ fs. further W o ∷ fs) (of_furthers W os)

counted : (W : World) (es : List Expr) → length (map (made W) es) ≡ length es
counted W [] = refl
counted W (e ∷ es) = ap suc (counted W es)

-- ---- prefix operators

sign_operand_is : (W : World) (s : PrefixSign) (e : Expr) → operand_run s (made W e) ≡ sign_operand W s e
unfolding typing negated
sign_operand_is W sign.Minus e = refl
sign_operand_is W sign.Plus e = refl
sign_operand_is W sign.Increment e = refl
sign_operand_is W sign.Decrement e = refl
sign_operand_is W sign.Not e = refl
sign_operand_is W sign.Complement e = refl

ahead_is : (W : World) (s : PrefixSign) (e : Expr) → operand_ahead W s (made W e) ≡ ahead_in W s e
unfolding located starts
ahead_is W s e = ap (λ (m : Run Typed). record { signs = onward m (λ t. fine (Unsigned t)); variable = targeted W e }) (sign_operand_is W s e)

prefixed_is : (W : World) (p : PrefixOp) (more : List PrefixOp) (e : Expr) → prefixed W p more (made W e) ≡ prefixing W p more e
prefixed_is W p [] e = ap (λ (a : Ahead). ahead_by W (at W p.at) p.sign a) (ahead_is W p.sign e)
prefixed_is W p (q ∷ qs) e = ap (λ (a : Ahead). ahead_by W (at W p.at) p.sign a) (prefixed_is W q qs e)

assigning_is : (W : World) (l r : Expr) (o : Option BinaryOp) → assignment W (made W l) o (made W r) ≡ assigning W l o r
unfolding typing located starts
assigning_is W l r None = refl
assigning_is W l r (Some o) = refl

-- ---- each form

pub starts-Assign : (W : World) (l : Expr) (o : AssignOp) (r : Expr) → starts W (anExpr.Assign l o r) ≡ starts W l
unfolding typing effect negated meant located starts creating giving listing further
starts-Assign W l o r = ap (λ (n : Node). n.start) (made_at W (anExpr.Assign l o r) _ (anExpr.outs-Assign l o r))

pub typing-Assign : (W : World) (l : Expr) (o : AssignOp) (r : Expr) (t : Option Ty) → typing W t (anExpr.Assign l o r) ≡ assigning W l (operator_of o) r
unfolding typing effect negated meant located starts creating giving listing further
typing-Assign W l o r t = ap (λ (n : Node). n.run t) (made_at W (anExpr.Assign l o r) _ (anExpr.outs-Assign l o r)) ∙ assigning_is W l r (operator_of o)

pub effect-Assign : (W : World) (l : Expr) (o : AssignOp) (r : Expr) → effect W (anExpr.Assign l o r) ≡ typing W None (anExpr.Assign l o r)
unfolding typing effect negated meant located starts creating giving listing further
effect-Assign W l o r = ap (λ (n : Node). n.effect) (made_at W (anExpr.Assign l o r) _ (anExpr.outs-Assign l o r)) ∙ sym (ap (λ (n : Node). n.run None) (made_at W (anExpr.Assign l o r) _ (anExpr.outs-Assign l o r)))

pub negated-Assign : (W : World) (l : Expr) (o : AssignOp) (r : Expr) → negated W (anExpr.Assign l o r) ≡ typing W None (anExpr.Assign l o r)
unfolding typing effect negated meant located starts creating giving listing further
negated-Assign W l o r = ap (λ (n : Node). n.negated) (made_at W (anExpr.Assign l o r) _ (anExpr.outs-Assign l o r)) ∙ sym (ap (λ (n : Node). n.run None) (made_at W (anExpr.Assign l o r) _ (anExpr.outs-Assign l o r)))

pub meant-Assign : (W : World) (l : Expr) (o : AssignOp) (r : Expr) → meant W (anExpr.Assign l o r) ≡ as_meaning (typing W None (anExpr.Assign l o r))
unfolding typing effect negated meant located starts creating giving listing further
meant-Assign W l o r = ap (λ (n : Node). n.meaning) (made_at W (anExpr.Assign l o r) _ (anExpr.outs-Assign l o r)) ∙ ap as_meaning (sym (ap (λ (n : Node). n.run None) (made_at W (anExpr.Assign l o r) _ (anExpr.outs-Assign l o r))))

pub located-Assign : (W : World) (l : Expr) (o : AssignOp) (r : Expr) → located W (anExpr.Assign l o r) ≡ no_variable (typing W None (anExpr.Assign l o r))
unfolding typing effect negated meant located starts creating giving listing further
located-Assign W l o r = ap (λ (n : Node). n.located) (made_at W (anExpr.Assign l o r) _ (anExpr.outs-Assign l o r)) ∙ ap no_variable (sym (ap (λ (n : Node). n.run None) (made_at W (anExpr.Assign l o r) _ (anExpr.outs-Assign l o r))))

pub starts-Conditional : (W : World) (q a b : Expr) → starts W (anExpr.Conditional q a b) ≡ starts W q
unfolding typing effect negated meant located starts creating giving listing further
starts-Conditional W q a b = ap (λ (n : Node). n.start) (made_at W (anExpr.Conditional q a b) _ (anExpr.outs-Conditional q a b))

pub typing-Conditional : (W : World) (q a b : Expr) (t : Option Ty) → typing W t (anExpr.Conditional q a b) ≡ branching W q a b
unfolding typing effect negated meant located starts creating giving listing further
typing-Conditional W q a b t = ap (λ (n : Node). n.run t) (made_at W (anExpr.Conditional q a b) _ (anExpr.outs-Conditional q a b))

pub effect-Conditional : (W : World) (q a b : Expr) → effect W (anExpr.Conditional q a b) ≡ typing W None (anExpr.Conditional q a b)
unfolding typing effect negated meant located starts creating giving listing further
effect-Conditional W q a b = ap (λ (n : Node). n.effect) (made_at W (anExpr.Conditional q a b) _ (anExpr.outs-Conditional q a b)) ∙ sym (ap (λ (n : Node). n.run None) (made_at W (anExpr.Conditional q a b) _ (anExpr.outs-Conditional q a b)))

pub negated-Conditional : (W : World) (q a b : Expr) → negated W (anExpr.Conditional q a b) ≡ typing W None (anExpr.Conditional q a b)
unfolding typing effect negated meant located starts creating giving listing further
negated-Conditional W q a b = ap (λ (n : Node). n.negated) (made_at W (anExpr.Conditional q a b) _ (anExpr.outs-Conditional q a b)) ∙ sym (ap (λ (n : Node). n.run None) (made_at W (anExpr.Conditional q a b) _ (anExpr.outs-Conditional q a b)))

pub meant-Conditional : (W : World) (q a b : Expr) → meant W (anExpr.Conditional q a b) ≡ as_meaning (typing W None (anExpr.Conditional q a b))
unfolding typing effect negated meant located starts creating giving listing further
meant-Conditional W q a b = ap (λ (n : Node). n.meaning) (made_at W (anExpr.Conditional q a b) _ (anExpr.outs-Conditional q a b)) ∙ ap as_meaning (sym (ap (λ (n : Node). n.run None) (made_at W (anExpr.Conditional q a b) _ (anExpr.outs-Conditional q a b))))

pub located-Conditional : (W : World) (q a b : Expr) → located W (anExpr.Conditional q a b) ≡ no_variable (typing W None (anExpr.Conditional q a b))
unfolding typing effect negated meant located starts creating giving listing further
located-Conditional W q a b = ap (λ (n : Node). n.located) (made_at W (anExpr.Conditional q a b) _ (anExpr.outs-Conditional q a b)) ∙ ap no_variable (sym (ap (λ (n : Node). n.run None) (made_at W (anExpr.Conditional q a b) _ (anExpr.outs-Conditional q a b))))

pub starts-Chain : (W : World) (first : Expr) (rest : List Operand) → starts W (anExpr.Chain first rest) ≡ starts W first
unfolding typing effect negated meant located starts creating giving listing further
starts-Chain W first rest = ap (λ (n : Node). n.start) (made_at W (anExpr.Chain first rest) _ (anExpr.outs-Chain first rest))

pub typing-Chain : (W : World) (first : Expr) (rest : List Operand) (t : Option Ty) → typing W t (anExpr.Chain first rest) ≡ chaining W first rest
unfolding typing effect negated meant located starts creating giving listing further
typing-Chain W first rest t = ap (λ (n : Node). n.run t) (made_at W (anExpr.Chain first rest) _ (anExpr.outs-Chain first rest)) ∙ ap (λ fs. chain W (typing W None first) fs) (of_furthers W rest)

pub effect-Chain : (W : World) (first : Expr) (rest : List Operand) → effect W (anExpr.Chain first rest) ≡ typing W None (anExpr.Chain first rest)
unfolding typing effect negated meant located starts creating giving listing further
effect-Chain W first rest = ap (λ (n : Node). n.effect) (made_at W (anExpr.Chain first rest) _ (anExpr.outs-Chain first rest)) ∙ sym (ap (λ (n : Node). n.run None) (made_at W (anExpr.Chain first rest) _ (anExpr.outs-Chain first rest)))

pub negated-Chain : (W : World) (first : Expr) (rest : List Operand) → negated W (anExpr.Chain first rest) ≡ typing W None (anExpr.Chain first rest)
unfolding typing effect negated meant located starts creating giving listing further
negated-Chain W first rest = ap (λ (n : Node). n.negated) (made_at W (anExpr.Chain first rest) _ (anExpr.outs-Chain first rest)) ∙ sym (ap (λ (n : Node). n.run None) (made_at W (anExpr.Chain first rest) _ (anExpr.outs-Chain first rest)))

pub meant-Chain : (W : World) (first : Expr) (rest : List Operand) → meant W (anExpr.Chain first rest) ≡ as_meaning (typing W None (anExpr.Chain first rest))
unfolding typing effect negated meant located starts creating giving listing further
meant-Chain W first rest = ap (λ (n : Node). n.meaning) (made_at W (anExpr.Chain first rest) _ (anExpr.outs-Chain first rest)) ∙ ap as_meaning (sym (ap (λ (n : Node). n.run None) (made_at W (anExpr.Chain first rest) _ (anExpr.outs-Chain first rest))))

pub located-Chain : (W : World) (first : Expr) (rest : List Operand) → located W (anExpr.Chain first rest) ≡ no_variable (typing W None (anExpr.Chain first rest))
unfolding typing effect negated meant located starts creating giving listing further
located-Chain W first rest = ap (λ (n : Node). n.located) (made_at W (anExpr.Chain first rest) _ (anExpr.outs-Chain first rest)) ∙ ap no_variable (sym (ap (λ (n : Node). n.run None) (made_at W (anExpr.Chain first rest) _ (anExpr.outs-Chain first rest))))

pub starts-Prefix : (W : World) (first : PrefixOp) (more : List PrefixOp) (operand : Expr) → starts W (anExpr.Prefix first more operand) ≡ at W first.at
unfolding typing effect negated meant located starts creating giving listing further
starts-Prefix W first more operand = ap (λ (n : Node). n.start) (made_at W (anExpr.Prefix first more operand) _ (anExpr.outs-Prefix first more operand))

pub typing-Prefix : (W : World) (first : PrefixOp) (more : List PrefixOp) (operand : Expr) (t : Option Ty) → typing W t (anExpr.Prefix first more operand) ≡ onward (prefixing W first more operand).signs (λ s. fine (signed s))
unfolding typing effect negated meant located starts creating giving listing further
typing-Prefix W first more operand t = ap (λ (n : Node). n.run t) (made_at W (anExpr.Prefix first more operand) _ (anExpr.outs-Prefix first more operand)) ∙ ap (λ (a : Ahead). onward a.signs (λ s. fine (signed s))) (prefixed_is W first more operand)

pub effect-Prefix : (W : World) (first : PrefixOp) (more : List PrefixOp) (operand : Expr) → effect W (anExpr.Prefix first more operand) ≡ typing W None (anExpr.Prefix first more operand)
unfolding typing effect negated meant located starts creating giving listing further
effect-Prefix W first more operand = ap (λ (n : Node). n.effect) (made_at W (anExpr.Prefix first more operand) _ (anExpr.outs-Prefix first more operand)) ∙ sym (ap (λ (n : Node). n.run None) (made_at W (anExpr.Prefix first more operand) _ (anExpr.outs-Prefix first more operand)))

pub negated-Prefix : (W : World) (first : PrefixOp) (more : List PrefixOp) (operand : Expr) → negated W (anExpr.Prefix first more operand) ≡ typing W None (anExpr.Prefix first more operand)
unfolding typing effect negated meant located starts creating giving listing further
negated-Prefix W first more operand = ap (λ (n : Node). n.negated) (made_at W (anExpr.Prefix first more operand) _ (anExpr.outs-Prefix first more operand)) ∙ sym (ap (λ (n : Node). n.run None) (made_at W (anExpr.Prefix first more operand) _ (anExpr.outs-Prefix first more operand)))

pub meant-Prefix : (W : World) (first : PrefixOp) (more : List PrefixOp) (operand : Expr) → meant W (anExpr.Prefix first more operand) ≡ as_meaning (typing W None (anExpr.Prefix first more operand))
unfolding typing effect negated meant located starts creating giving listing further
meant-Prefix W first more operand = ap (λ (n : Node). n.meaning) (made_at W (anExpr.Prefix first more operand) _ (anExpr.outs-Prefix first more operand)) ∙ ap as_meaning (sym (ap (λ (n : Node). n.run None) (made_at W (anExpr.Prefix first more operand) _ (anExpr.outs-Prefix first more operand))))

pub located-Prefix : (W : World) (first : PrefixOp) (more : List PrefixOp) (operand : Expr) → located W (anExpr.Prefix first more operand) ≡ no_variable (typing W None (anExpr.Prefix first more operand))
unfolding typing effect negated meant located starts creating giving listing further
located-Prefix W first more operand = ap (λ (n : Node). n.located) (made_at W (anExpr.Prefix first more operand) _ (anExpr.outs-Prefix first more operand)) ∙ ap no_variable (sym (ap (λ (n : Node). n.run None) (made_at W (anExpr.Prefix first more operand) _ (anExpr.outs-Prefix first more operand))))

pub starts-Cast : (W : World) (n : ℕ) (ty : TypeTree) (operand : Expr) → starts W (anExpr.Cast n ty operand) ≡ at W n
unfolding typing effect negated meant located starts creating giving listing further
starts-Cast W n ty operand = ap (λ (n : Node). n.start) (made_at W (anExpr.Cast n ty operand) _ (anExpr.outs-Cast n ty operand))

pub typing-Cast : (W : World) (n : ℕ) (ty : TypeTree) (operand : Expr) (t : Option Ty) → typing W t (anExpr.Cast n ty operand) ≡ onward (typing W None operand) (cast_to W.table (at W n) (written W ty))
unfolding typing effect negated meant located starts creating giving listing further
typing-Cast W n ty operand t = ap (λ (n : Node). n.run t) (made_at W (anExpr.Cast n ty operand) _ (anExpr.outs-Cast n ty operand))

pub effect-Cast : (W : World) (n : ℕ) (ty : TypeTree) (operand : Expr) → effect W (anExpr.Cast n ty operand) ≡ typing W None (anExpr.Cast n ty operand)
unfolding typing effect negated meant located starts creating giving listing further
effect-Cast W n ty operand = ap (λ (n : Node). n.effect) (made_at W (anExpr.Cast n ty operand) _ (anExpr.outs-Cast n ty operand)) ∙ sym (ap (λ (n : Node). n.run None) (made_at W (anExpr.Cast n ty operand) _ (anExpr.outs-Cast n ty operand)))

pub negated-Cast : (W : World) (n : ℕ) (ty : TypeTree) (operand : Expr) → negated W (anExpr.Cast n ty operand) ≡ typing W None (anExpr.Cast n ty operand)
unfolding typing effect negated meant located starts creating giving listing further
negated-Cast W n ty operand = ap (λ (n : Node). n.negated) (made_at W (anExpr.Cast n ty operand) _ (anExpr.outs-Cast n ty operand)) ∙ sym (ap (λ (n : Node). n.run None) (made_at W (anExpr.Cast n ty operand) _ (anExpr.outs-Cast n ty operand)))

pub meant-Cast : (W : World) (n : ℕ) (ty : TypeTree) (operand : Expr) → meant W (anExpr.Cast n ty operand) ≡ as_meaning (typing W None (anExpr.Cast n ty operand))
unfolding typing effect negated meant located starts creating giving listing further
meant-Cast W n ty operand = ap (λ (n : Node). n.meaning) (made_at W (anExpr.Cast n ty operand) _ (anExpr.outs-Cast n ty operand)) ∙ ap as_meaning (sym (ap (λ (n : Node). n.run None) (made_at W (anExpr.Cast n ty operand) _ (anExpr.outs-Cast n ty operand))))

pub located-Cast : (W : World) (n : ℕ) (ty : TypeTree) (operand : Expr) → located W (anExpr.Cast n ty operand) ≡ no_variable (typing W None (anExpr.Cast n ty operand))
unfolding typing effect negated meant located starts creating giving listing further
located-Cast W n ty operand = ap (λ (n : Node). n.located) (made_at W (anExpr.Cast n ty operand) _ (anExpr.outs-Cast n ty operand)) ∙ ap no_variable (sym (ap (λ (n : Node). n.run None) (made_at W (anExpr.Cast n ty operand) _ (anExpr.outs-Cast n ty operand))))

pub starts-Postfix : (W : World) (of_it : Expr) (o : PostfixOp) → starts W (anExpr.Postfix of_it o) ≡ starts W of_it
unfolding typing effect negated meant located starts creating giving listing further
starts-Postfix W of_it o = ap (λ (n : Node). n.start) (made_at W (anExpr.Postfix of_it o) _ (anExpr.outs-Postfix of_it o))

pub typing-Postfix : (W : World) (of_it : Expr) (o : PostfixOp) (t : Option Ty) → typing W t (anExpr.Postfix of_it o) ≡ onward (targeted W of_it) (changed W.table (starts W of_it) (postfix_op o) false)
unfolding typing effect negated meant located starts creating giving listing further
typing-Postfix W of_it o t = ap (λ (n : Node). n.run t) (made_at W (anExpr.Postfix of_it o) _ (anExpr.outs-Postfix of_it o))

pub effect-Postfix : (W : World) (of_it : Expr) (o : PostfixOp) → effect W (anExpr.Postfix of_it o) ≡ typing W None (anExpr.Postfix of_it o)
unfolding typing effect negated meant located starts creating giving listing further
effect-Postfix W of_it o = ap (λ (n : Node). n.effect) (made_at W (anExpr.Postfix of_it o) _ (anExpr.outs-Postfix of_it o)) ∙ sym (ap (λ (n : Node). n.run None) (made_at W (anExpr.Postfix of_it o) _ (anExpr.outs-Postfix of_it o)))

pub negated-Postfix : (W : World) (of_it : Expr) (o : PostfixOp) → negated W (anExpr.Postfix of_it o) ≡ typing W None (anExpr.Postfix of_it o)
unfolding typing effect negated meant located starts creating giving listing further
negated-Postfix W of_it o = ap (λ (n : Node). n.negated) (made_at W (anExpr.Postfix of_it o) _ (anExpr.outs-Postfix of_it o)) ∙ sym (ap (λ (n : Node). n.run None) (made_at W (anExpr.Postfix of_it o) _ (anExpr.outs-Postfix of_it o)))

pub meant-Postfix : (W : World) (of_it : Expr) (o : PostfixOp) → meant W (anExpr.Postfix of_it o) ≡ as_meaning (typing W None (anExpr.Postfix of_it o))
unfolding typing effect negated meant located starts creating giving listing further
meant-Postfix W of_it o = ap (λ (n : Node). n.meaning) (made_at W (anExpr.Postfix of_it o) _ (anExpr.outs-Postfix of_it o)) ∙ ap as_meaning (sym (ap (λ (n : Node). n.run None) (made_at W (anExpr.Postfix of_it o) _ (anExpr.outs-Postfix of_it o))))

pub located-Postfix : (W : World) (of_it : Expr) (o : PostfixOp) → located W (anExpr.Postfix of_it o) ≡ no_variable (typing W None (anExpr.Postfix of_it o))
unfolding typing effect negated meant located starts creating giving listing further
located-Postfix W of_it o = ap (λ (n : Node). n.located) (made_at W (anExpr.Postfix of_it o) _ (anExpr.outs-Postfix of_it o)) ∙ ap no_variable (sym (ap (λ (n : Node). n.run None) (made_at W (anExpr.Postfix of_it o) _ (anExpr.outs-Postfix of_it o))))

pub starts-Field : (W : World) (of_it : Expr) (name : Ident) → starts W (anExpr.Field of_it name) ≡ starts W of_it
unfolding typing effect negated meant located starts creating giving listing further
starts-Field W of_it name = ap (λ (n : Node). n.start) (made_at W (anExpr.Field of_it name) _ (anExpr.outs-Field of_it name))

pub typing-Field : (W : World) (of_it : Expr) (name : Ident) (t : Option Ty) → typing W t (anExpr.Field of_it name) ≡ onward (onward (meant W of_it) (located_behind W (starts W of_it) name.text)) (value_of W)
unfolding typing effect negated meant located starts creating giving listing further
typing-Field W of_it name t = ap (λ (n : Node). n.run t) (made_at W (anExpr.Field of_it name) _ (anExpr.outs-Field of_it name))

pub effect-Field : (W : World) (of_it : Expr) (name : Ident) → effect W (anExpr.Field of_it name) ≡ typing W None (anExpr.Field of_it name)
unfolding typing effect negated meant located starts creating giving listing further
effect-Field W of_it name = ap (λ (n : Node). n.effect) (made_at W (anExpr.Field of_it name) _ (anExpr.outs-Field of_it name)) ∙ sym (ap (λ (n : Node). n.run None) (made_at W (anExpr.Field of_it name) _ (anExpr.outs-Field of_it name)))

pub negated-Field : (W : World) (of_it : Expr) (name : Ident) → negated W (anExpr.Field of_it name) ≡ typing W None (anExpr.Field of_it name)
unfolding typing effect negated meant located starts creating giving listing further
negated-Field W of_it name = ap (λ (n : Node). n.negated) (made_at W (anExpr.Field of_it name) _ (anExpr.outs-Field of_it name)) ∙ sym (ap (λ (n : Node). n.run None) (made_at W (anExpr.Field of_it name) _ (anExpr.outs-Field of_it name)))

pub meant-Field : (W : World) (of_it : Expr) (name : Ident) → meant W (anExpr.Field of_it name) ≡ onward (meant W of_it) (next_meant W (starts W of_it) name.text)
unfolding typing effect negated meant located starts creating giving listing further
meant-Field W of_it name = ap (λ (n : Node). n.meaning) (made_at W (anExpr.Field of_it name) _ (anExpr.outs-Field of_it name))

pub located-Field : (W : World) (of_it : Expr) (name : Ident) → located W (anExpr.Field of_it name) ≡ onward (meant W of_it) (located_behind W (starts W of_it) name.text)
unfolding typing effect negated meant located starts creating giving listing further
located-Field W of_it name = ap (λ (n : Node). n.located) (made_at W (anExpr.Field of_it name) _ (anExpr.outs-Field of_it name))

pub starts-Call : (W : World) (of_it : Expr) (type_args : List TypeArg) (name : Ident) (actuals : List Expr) → starts W (anExpr.Call of_it type_args name actuals) ≡ starts W of_it
unfolding typing effect negated meant located starts creating giving listing further
starts-Call W of_it type_args name actuals = ap (λ (n : Node). n.start) (made_at W (anExpr.Call of_it type_args name actuals) _ (anExpr.outs-Call of_it type_args name actuals))

pub typing-Call : (W : World) (of_it : Expr) (type_args : List TypeArg) (name : Ident) (actuals : List Expr) (t : Option Ty) → typing W t (anExpr.Call of_it type_args name actuals) ≡ onward (calling W of_it type_args name actuals t) (with_value W.table)
unfolding typing effect negated meant located starts creating giving listing further
typing-Call W of_it type_args name actuals t = ap (λ (n : Node). n.run t) (made_at W (anExpr.Call of_it type_args name actuals) _ (anExpr.outs-Call of_it type_args name actuals)) ∙ ap (λ (ms : List (Run Typed)). onward (onward (both (onward (meant W of_it) (asked W)) (every ms)) (λ p. call_on W (starts W of_it) name.text type_args t p.0 p.1)) (with_value W.table)) (of_runs W actuals)

pub effect-Call : (W : World) (of_it : Expr) (type_args : List TypeArg) (name : Ident) (actuals : List Expr) → effect W (anExpr.Call of_it type_args name actuals) ≡ calling W of_it type_args name actuals None
unfolding typing effect negated meant located starts creating giving listing further
effect-Call W of_it type_args name actuals = ap (λ (n : Node). n.effect) (made_at W (anExpr.Call of_it type_args name actuals) _ (anExpr.outs-Call of_it type_args name actuals)) ∙ ap (λ ms. onward (both (onward (meant W of_it) (asked W)) (every ms)) (λ p. call_on W (starts W of_it) name.text type_args None p.0 p.1)) (of_runs W actuals)

pub negated-Call : (W : World) (of_it : Expr) (type_args : List TypeArg) (name : Ident) (actuals : List Expr) → negated W (anExpr.Call of_it type_args name actuals) ≡ typing W None (anExpr.Call of_it type_args name actuals)
unfolding typing effect negated meant located starts creating giving listing further
negated-Call W of_it type_args name actuals = ap (λ (n : Node). n.negated) (made_at W (anExpr.Call of_it type_args name actuals) _ (anExpr.outs-Call of_it type_args name actuals)) ∙ sym (ap (λ (n : Node). n.run None) (made_at W (anExpr.Call of_it type_args name actuals) _ (anExpr.outs-Call of_it type_args name actuals)))

pub meant-Call : (W : World) (of_it : Expr) (type_args : List TypeArg) (name : Ident) (actuals : List Expr) → meant W (anExpr.Call of_it type_args name actuals) ≡ as_meaning (typing W None (anExpr.Call of_it type_args name actuals))
unfolding typing effect negated meant located starts creating giving listing further
meant-Call W of_it type_args name actuals = ap (λ (n : Node). n.meaning) (made_at W (anExpr.Call of_it type_args name actuals) _ (anExpr.outs-Call of_it type_args name actuals)) ∙ ap as_meaning (sym (ap (λ (n : Node). n.run None) (made_at W (anExpr.Call of_it type_args name actuals) _ (anExpr.outs-Call of_it type_args name actuals))))

pub located-Call : (W : World) (of_it : Expr) (type_args : List TypeArg) (name : Ident) (actuals : List Expr) → located W (anExpr.Call of_it type_args name actuals) ≡ no_variable (typing W None (anExpr.Call of_it type_args name actuals))
unfolding typing effect negated meant located starts creating giving listing further
located-Call W of_it type_args name actuals = ap (λ (n : Node). n.located) (made_at W (anExpr.Call of_it type_args name actuals) _ (anExpr.outs-Call of_it type_args name actuals)) ∙ ap no_variable (sym (ap (λ (n : Node). n.run None) (made_at W (anExpr.Call of_it type_args name actuals) _ (anExpr.outs-Call of_it type_args name actuals))))

pub starts-Index : (W : World) (of_it index : Expr) → starts W (anExpr.Index of_it index) ≡ starts W of_it
unfolding typing effect negated meant located starts creating giving listing further
starts-Index W of_it index = ap (λ (n : Node). n.start) (made_at W (anExpr.Index of_it index) _ (anExpr.outs-Index of_it index))

pub typing-Index : (W : World) (of_it index : Expr) (t : Option Ty) → typing W t (anExpr.Index of_it index) ≡ onward (indexing W of_it index) (value_of W)
unfolding typing effect negated meant located starts creating giving listing further
typing-Index W of_it index t = ap (λ (n : Node). n.run t) (made_at W (anExpr.Index of_it index) _ (anExpr.outs-Index of_it index))

pub effect-Index : (W : World) (of_it index : Expr) → effect W (anExpr.Index of_it index) ≡ typing W None (anExpr.Index of_it index)
unfolding typing effect negated meant located starts creating giving listing further
effect-Index W of_it index = ap (λ (n : Node). n.effect) (made_at W (anExpr.Index of_it index) _ (anExpr.outs-Index of_it index)) ∙ sym (ap (λ (n : Node). n.run None) (made_at W (anExpr.Index of_it index) _ (anExpr.outs-Index of_it index)))

pub negated-Index : (W : World) (of_it index : Expr) → negated W (anExpr.Index of_it index) ≡ typing W None (anExpr.Index of_it index)
unfolding typing effect negated meant located starts creating giving listing further
negated-Index W of_it index = ap (λ (n : Node). n.negated) (made_at W (anExpr.Index of_it index) _ (anExpr.outs-Index of_it index)) ∙ sym (ap (λ (n : Node). n.run None) (made_at W (anExpr.Index of_it index) _ (anExpr.outs-Index of_it index)))

pub meant-Index : (W : World) (of_it index : Expr) → meant W (anExpr.Index of_it index) ≡ as_meaning (onward (indexing W of_it index) (value_of W))
unfolding typing effect negated meant located starts creating giving listing further
meant-Index W of_it index = ap (λ (n : Node). n.meaning) (made_at W (anExpr.Index of_it index) _ (anExpr.outs-Index of_it index))

pub located-Index : (W : World) (of_it index : Expr) → located W (anExpr.Index of_it index) ≡ indexing W of_it index
unfolding typing effect negated meant located starts creating giving listing further
located-Index W of_it index = ap (λ (n : Node). n.located) (made_at W (anExpr.Index of_it index) _ (anExpr.outs-Index of_it index))

pub starts-InnerNew : (W : World) (of_it : Expr) (creation : Creation) → starts W (anExpr.InnerNew of_it creation) ≡ starts W of_it
unfolding typing effect negated meant located starts creating giving listing further
starts-InnerNew W of_it creation = ap (λ (n : Node). n.start) (made_at W (anExpr.InnerNew of_it creation) _ (anExpr.outs-InnerNew of_it creation))

pub typing-InnerNew : (W : World) (of_it : Expr) (creation : Creation) (t : Option Ty) → typing W t (anExpr.InnerNew of_it creation) ≡ by_rule 203 (starts W of_it)
unfolding typing effect negated meant located starts creating giving listing further
typing-InnerNew W of_it creation t = ap (λ (n : Node). n.run t) (made_at W (anExpr.InnerNew of_it creation) _ (anExpr.outs-InnerNew of_it creation))

pub effect-InnerNew : (W : World) (of_it : Expr) (creation : Creation) → effect W (anExpr.InnerNew of_it creation) ≡ typing W None (anExpr.InnerNew of_it creation)
unfolding typing effect negated meant located starts creating giving listing further
effect-InnerNew W of_it creation = ap (λ (n : Node). n.effect) (made_at W (anExpr.InnerNew of_it creation) _ (anExpr.outs-InnerNew of_it creation)) ∙ sym (ap (λ (n : Node). n.run None) (made_at W (anExpr.InnerNew of_it creation) _ (anExpr.outs-InnerNew of_it creation)))

pub negated-InnerNew : (W : World) (of_it : Expr) (creation : Creation) → negated W (anExpr.InnerNew of_it creation) ≡ typing W None (anExpr.InnerNew of_it creation)
unfolding typing effect negated meant located starts creating giving listing further
negated-InnerNew W of_it creation = ap (λ (n : Node). n.negated) (made_at W (anExpr.InnerNew of_it creation) _ (anExpr.outs-InnerNew of_it creation)) ∙ sym (ap (λ (n : Node). n.run None) (made_at W (anExpr.InnerNew of_it creation) _ (anExpr.outs-InnerNew of_it creation)))

pub meant-InnerNew : (W : World) (of_it : Expr) (creation : Creation) → meant W (anExpr.InnerNew of_it creation) ≡ as_meaning (typing W None (anExpr.InnerNew of_it creation))
unfolding typing effect negated meant located starts creating giving listing further
meant-InnerNew W of_it creation = ap (λ (n : Node). n.meaning) (made_at W (anExpr.InnerNew of_it creation) _ (anExpr.outs-InnerNew of_it creation)) ∙ ap as_meaning (sym (ap (λ (n : Node). n.run None) (made_at W (anExpr.InnerNew of_it creation) _ (anExpr.outs-InnerNew of_it creation))))

pub located-InnerNew : (W : World) (of_it : Expr) (creation : Creation) → located W (anExpr.InnerNew of_it creation) ≡ no_variable (typing W None (anExpr.InnerNew of_it creation))
unfolding typing effect negated meant located starts creating giving listing further
located-InnerNew W of_it creation = ap (λ (n : Node). n.located) (made_at W (anExpr.InnerNew of_it creation) _ (anExpr.outs-InnerNew of_it creation)) ∙ ap no_variable (sym (ap (λ (n : Node). n.run None) (made_at W (anExpr.InnerNew of_it creation) _ (anExpr.outs-InnerNew of_it creation))))

pub starts-Literal : (W : World) (n : ℕ) (value : Literal) → starts W (anExpr.Literal n value) ≡ at W n
unfolding typing effect negated meant located starts creating giving listing further
starts-Literal W n value = ap (λ (n : Node). n.start) (made_at W (anExpr.Literal n value) _ (anExpr.outs-Literal n value))

pub typing-Literal : (W : World) (n : ℕ) (value : Literal) (t : Option Ty) → typing W t (anExpr.Literal n value) ≡ literal_value W (at W n) value
unfolding typing effect negated meant located starts creating giving listing further
typing-Literal W n value t = ap (λ (n : Node). n.run t) (made_at W (anExpr.Literal n value) _ (anExpr.outs-Literal n value))

pub effect-Literal : (W : World) (n : ℕ) (value : Literal) → effect W (anExpr.Literal n value) ≡ typing W None (anExpr.Literal n value)
unfolding typing effect negated meant located starts creating giving listing further
effect-Literal W n value = ap (λ (n : Node). n.effect) (made_at W (anExpr.Literal n value) _ (anExpr.outs-Literal n value)) ∙ sym (ap (λ (n : Node). n.run None) (made_at W (anExpr.Literal n value) _ (anExpr.outs-Literal n value)))

pub negated-Literal : (W : World) (n : ℕ) (value : Literal) → negated W (anExpr.Literal n value) ≡ negated_literal W (at W n) value
unfolding typing effect negated meant located starts creating giving listing further
negated-Literal W n value = ap (λ (n : Node). n.negated) (made_at W (anExpr.Literal n value) _ (anExpr.outs-Literal n value))

pub meant-Literal : (W : World) (n : ℕ) (value : Literal) → meant W (anExpr.Literal n value) ≡ as_meaning (typing W None (anExpr.Literal n value))
unfolding typing effect negated meant located starts creating giving listing further
meant-Literal W n value = ap (λ (n : Node). n.meaning) (made_at W (anExpr.Literal n value) _ (anExpr.outs-Literal n value)) ∙ ap as_meaning (sym (ap (λ (n : Node). n.run None) (made_at W (anExpr.Literal n value) _ (anExpr.outs-Literal n value))))

pub located-Literal : (W : World) (n : ℕ) (value : Literal) → located W (anExpr.Literal n value) ≡ no_variable (typing W None (anExpr.Literal n value))
unfolding typing effect negated meant located starts creating giving listing further
located-Literal W n value = ap (λ (n : Node). n.located) (made_at W (anExpr.Literal n value) _ (anExpr.outs-Literal n value)) ∙ ap no_variable (sym (ap (λ (n : Node). n.run None) (made_at W (anExpr.Literal n value) _ (anExpr.outs-Literal n value))))

pub starts-This : (W : World) (n : ℕ) → starts W (anExpr.This n) ≡ at W n
unfolding typing effect negated meant located starts creating giving listing further
starts-This W n = ap (λ (n : Node). n.start) (made_at W (anExpr.This n) _ (anExpr.outs-This n))

pub typing-This : (W : World) (n : ℕ) (t : Option Ty) → typing W t (anExpr.This n) ≡ this_value W (at W n)
unfolding typing effect negated meant located starts creating giving listing further
typing-This W n t = ap (λ (n : Node). n.run t) (made_at W (anExpr.This n) _ (anExpr.outs-This n))

pub effect-This : (W : World) (n : ℕ) → effect W (anExpr.This n) ≡ typing W None (anExpr.This n)
unfolding typing effect negated meant located starts creating giving listing further
effect-This W n = ap (λ (n : Node). n.effect) (made_at W (anExpr.This n) _ (anExpr.outs-This n)) ∙ sym (ap (λ (n : Node). n.run None) (made_at W (anExpr.This n) _ (anExpr.outs-This n)))

pub negated-This : (W : World) (n : ℕ) → negated W (anExpr.This n) ≡ typing W None (anExpr.This n)
unfolding typing effect negated meant located starts creating giving listing further
negated-This W n = ap (λ (n : Node). n.negated) (made_at W (anExpr.This n) _ (anExpr.outs-This n)) ∙ sym (ap (λ (n : Node). n.run None) (made_at W (anExpr.This n) _ (anExpr.outs-This n)))

pub meant-This : (W : World) (n : ℕ) → meant W (anExpr.This n) ≡ as_meaning (typing W None (anExpr.This n))
unfolding typing effect negated meant located starts creating giving listing further
meant-This W n = ap (λ (n : Node). n.meaning) (made_at W (anExpr.This n) _ (anExpr.outs-This n)) ∙ ap as_meaning (sym (ap (λ (n : Node). n.run None) (made_at W (anExpr.This n) _ (anExpr.outs-This n))))

pub located-This : (W : World) (n : ℕ) → located W (anExpr.This n) ≡ no_variable (typing W None (anExpr.This n))
unfolding typing effect negated meant located starts creating giving listing further
located-This W n = ap (λ (n : Node). n.located) (made_at W (anExpr.This n) _ (anExpr.outs-This n)) ∙ ap no_variable (sym (ap (λ (n : Node). n.run None) (made_at W (anExpr.This n) _ (anExpr.outs-This n))))

pub starts-SuperField : (W : World) (n : ℕ) (name : Ident) → starts W (anExpr.SuperField n name) ≡ at W n
unfolding typing effect negated meant located starts creating giving listing further
starts-SuperField W n name = ap (λ (n : Node). n.start) (made_at W (anExpr.SuperField n name) _ (anExpr.outs-SuperField n name))

pub typing-SuperField : (W : World) (n : ℕ) (name : Ident) (t : Option Ty) → typing W t (anExpr.SuperField n name) ≡ onward (super_member W (at W n) name.text) (value_of W)
unfolding typing effect negated meant located starts creating giving listing further
typing-SuperField W n name t = ap (λ (n : Node). n.run t) (made_at W (anExpr.SuperField n name) _ (anExpr.outs-SuperField n name))

pub effect-SuperField : (W : World) (n : ℕ) (name : Ident) → effect W (anExpr.SuperField n name) ≡ typing W None (anExpr.SuperField n name)
unfolding typing effect negated meant located starts creating giving listing further
effect-SuperField W n name = ap (λ (n : Node). n.effect) (made_at W (anExpr.SuperField n name) _ (anExpr.outs-SuperField n name)) ∙ sym (ap (λ (n : Node). n.run None) (made_at W (anExpr.SuperField n name) _ (anExpr.outs-SuperField n name)))

pub negated-SuperField : (W : World) (n : ℕ) (name : Ident) → negated W (anExpr.SuperField n name) ≡ typing W None (anExpr.SuperField n name)
unfolding typing effect negated meant located starts creating giving listing further
negated-SuperField W n name = ap (λ (n : Node). n.negated) (made_at W (anExpr.SuperField n name) _ (anExpr.outs-SuperField n name)) ∙ sym (ap (λ (n : Node). n.run None) (made_at W (anExpr.SuperField n name) _ (anExpr.outs-SuperField n name)))

pub meant-SuperField : (W : World) (n : ℕ) (name : Ident) → meant W (anExpr.SuperField n name) ≡ as_meaning (onward (super_member W (at W n) name.text) (value_of W))
unfolding typing effect negated meant located starts creating giving listing further
meant-SuperField W n name = ap (λ (n : Node). n.meaning) (made_at W (anExpr.SuperField n name) _ (anExpr.outs-SuperField n name))

pub located-SuperField : (W : World) (n : ℕ) (name : Ident) → located W (anExpr.SuperField n name) ≡ super_member W (at W n) name.text
unfolding typing effect negated meant located starts creating giving listing further
located-SuperField W n name = ap (λ (n : Node). n.located) (made_at W (anExpr.SuperField n name) _ (anExpr.outs-SuperField n name))

pub starts-SuperCall : (W : World) (n : ℕ) (type_args : List TypeArg) (name : Ident) (actuals : List Expr) → starts W (anExpr.SuperCall n type_args name actuals) ≡ at W n
unfolding typing effect negated meant located starts creating giving listing further
starts-SuperCall W n type_args name actuals = ap (λ (n : Node). n.start) (made_at W (anExpr.SuperCall n type_args name actuals) _ (anExpr.outs-SuperCall n type_args name actuals))

pub typing-SuperCall : (W : World) (n : ℕ) (type_args : List TypeArg) (name : Ident) (actuals : List Expr) (t : Option Ty) → typing W t (anExpr.SuperCall n type_args name actuals) ≡ onward (super_calling W n type_args name actuals t) (with_value W.table)
unfolding typing effect negated meant located starts creating giving listing further
typing-SuperCall W n type_args name actuals t = ap (λ (n : Node). n.run t) (made_at W (anExpr.SuperCall n type_args name actuals) _ (anExpr.outs-SuperCall n type_args name actuals)) ∙ ap (λ (ms : List (Run Typed)). onward (onward (every ms) (λ ts. call_super W (at W n) name.text type_args t ts)) (with_value W.table)) (of_runs W actuals)

pub effect-SuperCall : (W : World) (n : ℕ) (type_args : List TypeArg) (name : Ident) (actuals : List Expr) → effect W (anExpr.SuperCall n type_args name actuals) ≡ super_calling W n type_args name actuals None
unfolding typing effect negated meant located starts creating giving listing further
effect-SuperCall W n type_args name actuals = ap (λ (n : Node). n.effect) (made_at W (anExpr.SuperCall n type_args name actuals) _ (anExpr.outs-SuperCall n type_args name actuals)) ∙ ap (λ ms. onward (every ms) (λ ts. call_super W (at W n) name.text type_args None ts)) (of_runs W actuals)

pub negated-SuperCall : (W : World) (n : ℕ) (type_args : List TypeArg) (name : Ident) (actuals : List Expr) → negated W (anExpr.SuperCall n type_args name actuals) ≡ typing W None (anExpr.SuperCall n type_args name actuals)
unfolding typing effect negated meant located starts creating giving listing further
negated-SuperCall W n type_args name actuals = ap (λ (n : Node). n.negated) (made_at W (anExpr.SuperCall n type_args name actuals) _ (anExpr.outs-SuperCall n type_args name actuals)) ∙ sym (ap (λ (n : Node). n.run None) (made_at W (anExpr.SuperCall n type_args name actuals) _ (anExpr.outs-SuperCall n type_args name actuals)))

pub meant-SuperCall : (W : World) (n : ℕ) (type_args : List TypeArg) (name : Ident) (actuals : List Expr) → meant W (anExpr.SuperCall n type_args name actuals) ≡ as_meaning (typing W None (anExpr.SuperCall n type_args name actuals))
unfolding typing effect negated meant located starts creating giving listing further
meant-SuperCall W n type_args name actuals = ap (λ (n : Node). n.meaning) (made_at W (anExpr.SuperCall n type_args name actuals) _ (anExpr.outs-SuperCall n type_args name actuals)) ∙ ap as_meaning (sym (ap (λ (n : Node). n.run None) (made_at W (anExpr.SuperCall n type_args name actuals) _ (anExpr.outs-SuperCall n type_args name actuals))))

pub located-SuperCall : (W : World) (n : ℕ) (type_args : List TypeArg) (name : Ident) (actuals : List Expr) → located W (anExpr.SuperCall n type_args name actuals) ≡ no_variable (typing W None (anExpr.SuperCall n type_args name actuals))
unfolding typing effect negated meant located starts creating giving listing further
located-SuperCall W n type_args name actuals = ap (λ (n : Node). n.located) (made_at W (anExpr.SuperCall n type_args name actuals) _ (anExpr.outs-SuperCall n type_args name actuals)) ∙ ap no_variable (sym (ap (λ (n : Node). n.run None) (made_at W (anExpr.SuperCall n type_args name actuals) _ (anExpr.outs-SuperCall n type_args name actuals))))

pub starts-Paren : (W : World) (n : ℕ) (inner : Expr) → starts W (anExpr.Paren n inner) ≡ at W n
unfolding typing effect negated meant located starts creating giving listing further
starts-Paren W n inner = ap (λ (n : Node). n.start) (made_at W (anExpr.Paren n inner) _ (anExpr.outs-Paren n inner))

pub typing-Paren : (W : World) (n : ℕ) (inner : Expr) (t : Option Ty) → typing W t (anExpr.Paren n inner) ≡ onward (typing W t inner) (restarted (at W n))
unfolding typing effect negated meant located starts creating giving listing further
typing-Paren W n inner t = ap (λ (n : Node). n.run t) (made_at W (anExpr.Paren n inner) _ (anExpr.outs-Paren n inner))

pub effect-Paren : (W : World) (n : ℕ) (inner : Expr) → effect W (anExpr.Paren n inner) ≡ typing W None (anExpr.Paren n inner)
unfolding typing effect negated meant located starts creating giving listing further
effect-Paren W n inner = ap (λ (n : Node). n.effect) (made_at W (anExpr.Paren n inner) _ (anExpr.outs-Paren n inner)) ∙ sym (ap (λ (n : Node). n.run None) (made_at W (anExpr.Paren n inner) _ (anExpr.outs-Paren n inner)))

pub negated-Paren : (W : World) (n : ℕ) (inner : Expr) → negated W (anExpr.Paren n inner) ≡ typing W None (anExpr.Paren n inner)
unfolding typing effect negated meant located starts creating giving listing further
negated-Paren W n inner = ap (λ (n : Node). n.negated) (made_at W (anExpr.Paren n inner) _ (anExpr.outs-Paren n inner)) ∙ sym (ap (λ (n : Node). n.run None) (made_at W (anExpr.Paren n inner) _ (anExpr.outs-Paren n inner)))

pub meant-Paren : (W : World) (n : ℕ) (inner : Expr) → meant W (anExpr.Paren n inner) ≡ as_meaning (typing W None (anExpr.Paren n inner))
unfolding typing effect negated meant located starts creating giving listing further
meant-Paren W n inner = ap (λ (n : Node). n.meaning) (made_at W (anExpr.Paren n inner) _ (anExpr.outs-Paren n inner)) ∙ ap as_meaning (sym (ap (λ (n : Node). n.run None) (made_at W (anExpr.Paren n inner) _ (anExpr.outs-Paren n inner))))

pub located-Paren : (W : World) (n : ℕ) (inner : Expr) → located W (anExpr.Paren n inner) ≡ located W inner
unfolding typing effect negated meant located starts creating giving listing further
located-Paren W n inner = ap (λ (n : Node). n.located) (made_at W (anExpr.Paren n inner) _ (anExpr.outs-Paren n inner))

pub starts-Name : (W : World) (it : Ident) → starts W (anExpr.Name it) ≡ at W it.at
unfolding typing effect negated meant located starts creating giving listing further
starts-Name W it = ap (λ (n : Node). n.start) (made_at W (anExpr.Name it) _ (anExpr.outs-Name it))

pub typing-Name : (W : World) (it : Ident) (t : Option Ty) → typing W t (anExpr.Name it) ≡ onward (simple_located W (at W it.at) it.text) (value_of W)
unfolding typing effect negated meant located starts creating giving listing further
typing-Name W it t = ap (λ (n : Node). n.run t) (made_at W (anExpr.Name it) _ (anExpr.outs-Name it))

pub effect-Name : (W : World) (it : Ident) → effect W (anExpr.Name it) ≡ typing W None (anExpr.Name it)
unfolding typing effect negated meant located starts creating giving listing further
effect-Name W it = ap (λ (n : Node). n.effect) (made_at W (anExpr.Name it) _ (anExpr.outs-Name it)) ∙ sym (ap (λ (n : Node). n.run None) (made_at W (anExpr.Name it) _ (anExpr.outs-Name it)))

pub negated-Name : (W : World) (it : Ident) → negated W (anExpr.Name it) ≡ typing W None (anExpr.Name it)
unfolding typing effect negated meant located starts creating giving listing further
negated-Name W it = ap (λ (n : Node). n.negated) (made_at W (anExpr.Name it) _ (anExpr.outs-Name it)) ∙ sym (ap (λ (n : Node). n.run None) (made_at W (anExpr.Name it) _ (anExpr.outs-Name it)))

pub meant-Name : (W : World) (it : Ident) → meant W (anExpr.Name it) ≡ first_meant W (at W it.at) it.text
unfolding typing effect negated meant located starts creating giving listing further
meant-Name W it = ap (λ (n : Node). n.meaning) (made_at W (anExpr.Name it) _ (anExpr.outs-Name it))

pub located-Name : (W : World) (it : Ident) → located W (anExpr.Name it) ≡ simple_located W (at W it.at) it.text
unfolding typing effect negated meant located starts creating giving listing further
located-Name W it = ap (λ (n : Node). n.located) (made_at W (anExpr.Name it) _ (anExpr.outs-Name it))

pub starts-Invoke : (W : World) (name : Ident) (actuals : List Expr) → starts W (anExpr.Invoke name actuals) ≡ at W name.at
unfolding typing effect negated meant located starts creating giving listing further
starts-Invoke W name actuals = ap (λ (n : Node). n.start) (made_at W (anExpr.Invoke name actuals) _ (anExpr.outs-Invoke name actuals))

pub typing-Invoke : (W : World) (name : Ident) (actuals : List Expr) (t : Option Ty) → typing W t (anExpr.Invoke name actuals) ≡ onward (invoking W name actuals t) (with_value W.table)
unfolding typing effect negated meant located starts creating giving listing further
typing-Invoke W name actuals t = ap (λ (n : Node). n.run t) (made_at W (anExpr.Invoke name actuals) _ (anExpr.outs-Invoke name actuals)) ∙ ap (λ (ms : List (Run Typed)). onward (onward (every ms) (λ ts. call_here W (at W name.at) name.text t ts)) (with_value W.table)) (of_runs W actuals)

pub effect-Invoke : (W : World) (name : Ident) (actuals : List Expr) → effect W (anExpr.Invoke name actuals) ≡ invoking W name actuals None
unfolding typing effect negated meant located starts creating giving listing further
effect-Invoke W name actuals = ap (λ (n : Node). n.effect) (made_at W (anExpr.Invoke name actuals) _ (anExpr.outs-Invoke name actuals)) ∙ ap (λ ms. onward (every ms) (λ ts. call_here W (at W name.at) name.text None ts)) (of_runs W actuals)

pub negated-Invoke : (W : World) (name : Ident) (actuals : List Expr) → negated W (anExpr.Invoke name actuals) ≡ typing W None (anExpr.Invoke name actuals)
unfolding typing effect negated meant located starts creating giving listing further
negated-Invoke W name actuals = ap (λ (n : Node). n.negated) (made_at W (anExpr.Invoke name actuals) _ (anExpr.outs-Invoke name actuals)) ∙ sym (ap (λ (n : Node). n.run None) (made_at W (anExpr.Invoke name actuals) _ (anExpr.outs-Invoke name actuals)))

pub meant-Invoke : (W : World) (name : Ident) (actuals : List Expr) → meant W (anExpr.Invoke name actuals) ≡ as_meaning (typing W None (anExpr.Invoke name actuals))
unfolding typing effect negated meant located starts creating giving listing further
meant-Invoke W name actuals = ap (λ (n : Node). n.meaning) (made_at W (anExpr.Invoke name actuals) _ (anExpr.outs-Invoke name actuals)) ∙ ap as_meaning (sym (ap (λ (n : Node). n.run None) (made_at W (anExpr.Invoke name actuals) _ (anExpr.outs-Invoke name actuals))))

pub located-Invoke : (W : World) (name : Ident) (actuals : List Expr) → located W (anExpr.Invoke name actuals) ≡ no_variable (typing W None (anExpr.Invoke name actuals))
unfolding typing effect negated meant located starts creating giving listing further
located-Invoke W name actuals = ap (λ (n : Node). n.located) (made_at W (anExpr.Invoke name actuals) _ (anExpr.outs-Invoke name actuals)) ∙ ap no_variable (sym (ap (λ (n : Node). n.run None) (made_at W (anExpr.Invoke name actuals) _ (anExpr.outs-Invoke name actuals))))

pub starts-New : (W : World) (n : ℕ) (creation : Creation) → starts W (anExpr.New n creation) ≡ at W n
unfolding typing effect negated meant located starts creating giving listing further
starts-New W n creation = ap (λ (n : Node). n.start) (made_at W (anExpr.New n creation) _ (anExpr.outs-New n creation))

pub typing-New : (W : World) (n : ℕ) (creation : Creation) (t : Option Ty) → typing W t (anExpr.New n creation) ≡ creating W (at W n) t creation
unfolding typing effect negated meant located starts creating giving listing further
typing-New W n creation t = ap (λ (n : Node). n.run t) (made_at W (anExpr.New n creation) _ (anExpr.outs-New n creation))

pub effect-New : (W : World) (n : ℕ) (creation : Creation) → effect W (anExpr.New n creation) ≡ typing W None (anExpr.New n creation)
unfolding typing effect negated meant located starts creating giving listing further
effect-New W n creation = ap (λ (n : Node). n.effect) (made_at W (anExpr.New n creation) _ (anExpr.outs-New n creation)) ∙ sym (ap (λ (n : Node). n.run None) (made_at W (anExpr.New n creation) _ (anExpr.outs-New n creation)))

pub negated-New : (W : World) (n : ℕ) (creation : Creation) → negated W (anExpr.New n creation) ≡ typing W None (anExpr.New n creation)
unfolding typing effect negated meant located starts creating giving listing further
negated-New W n creation = ap (λ (n : Node). n.negated) (made_at W (anExpr.New n creation) _ (anExpr.outs-New n creation)) ∙ sym (ap (λ (n : Node). n.run None) (made_at W (anExpr.New n creation) _ (anExpr.outs-New n creation)))

pub meant-New : (W : World) (n : ℕ) (creation : Creation) → meant W (anExpr.New n creation) ≡ as_meaning (typing W None (anExpr.New n creation))
unfolding typing effect negated meant located starts creating giving listing further
meant-New W n creation = ap (λ (n : Node). n.meaning) (made_at W (anExpr.New n creation) _ (anExpr.outs-New n creation)) ∙ ap as_meaning (sym (ap (λ (n : Node). n.run None) (made_at W (anExpr.New n creation) _ (anExpr.outs-New n creation))))

pub located-New : (W : World) (n : ℕ) (creation : Creation) → located W (anExpr.New n creation) ≡ no_variable (typing W None (anExpr.New n creation))
unfolding typing effect negated meant located starts creating giving listing further
located-New W n creation = ap (λ (n : Node). n.located) (made_at W (anExpr.New n creation) _ (anExpr.outs-New n creation)) ∙ ap no_variable (sym (ap (λ (n : Node). n.run None) (made_at W (anExpr.New n creation) _ (anExpr.outs-New n creation))))

pub starts-ClassLiteral : (W : World) (ty : TypeTree) → starts W (anExpr.ClassLiteral ty) ≡ at W 0
unfolding typing effect negated meant located starts creating giving listing further
starts-ClassLiteral W ty = ap (λ (n : Node). n.start) (made_at W (anExpr.ClassLiteral ty) _ (anExpr.outs-ClassLiteral ty))

pub typing-ClassLiteral : (W : World) (ty : TypeTree) (t : Option Ty) → typing W t (anExpr.ClassLiteral ty) ≡ by_rule 203 (at W 0)
unfolding typing effect negated meant located starts creating giving listing further
typing-ClassLiteral W ty t = ap (λ (n : Node). n.run t) (made_at W (anExpr.ClassLiteral ty) _ (anExpr.outs-ClassLiteral ty))

pub effect-ClassLiteral : (W : World) (ty : TypeTree) → effect W (anExpr.ClassLiteral ty) ≡ typing W None (anExpr.ClassLiteral ty)
unfolding typing effect negated meant located starts creating giving listing further
effect-ClassLiteral W ty = ap (λ (n : Node). n.effect) (made_at W (anExpr.ClassLiteral ty) _ (anExpr.outs-ClassLiteral ty)) ∙ sym (ap (λ (n : Node). n.run None) (made_at W (anExpr.ClassLiteral ty) _ (anExpr.outs-ClassLiteral ty)))

pub negated-ClassLiteral : (W : World) (ty : TypeTree) → negated W (anExpr.ClassLiteral ty) ≡ typing W None (anExpr.ClassLiteral ty)
unfolding typing effect negated meant located starts creating giving listing further
negated-ClassLiteral W ty = ap (λ (n : Node). n.negated) (made_at W (anExpr.ClassLiteral ty) _ (anExpr.outs-ClassLiteral ty)) ∙ sym (ap (λ (n : Node). n.run None) (made_at W (anExpr.ClassLiteral ty) _ (anExpr.outs-ClassLiteral ty)))

pub meant-ClassLiteral : (W : World) (ty : TypeTree) → meant W (anExpr.ClassLiteral ty) ≡ as_meaning (typing W None (anExpr.ClassLiteral ty))
unfolding typing effect negated meant located starts creating giving listing further
meant-ClassLiteral W ty = ap (λ (n : Node). n.meaning) (made_at W (anExpr.ClassLiteral ty) _ (anExpr.outs-ClassLiteral ty)) ∙ ap as_meaning (sym (ap (λ (n : Node). n.run None) (made_at W (anExpr.ClassLiteral ty) _ (anExpr.outs-ClassLiteral ty))))

pub located-ClassLiteral : (W : World) (ty : TypeTree) → located W (anExpr.ClassLiteral ty) ≡ no_variable (typing W None (anExpr.ClassLiteral ty))
unfolding typing effect negated meant located starts creating giving listing further
located-ClassLiteral W ty = ap (λ (n : Node). n.located) (made_at W (anExpr.ClassLiteral ty) _ (anExpr.outs-ClassLiteral ty)) ∙ ap no_variable (sym (ap (λ (n : Node). n.run None) (made_at W (anExpr.ClassLiteral ty) _ (anExpr.outs-ClassLiteral ty))))

pub starts-VoidLiteral : (W : World) (n : ℕ) → starts W (anExpr.VoidLiteral n) ≡ at W n
unfolding typing effect negated meant located starts creating giving listing further
starts-VoidLiteral W n = ap (λ (n : Node). n.start) (made_at W (anExpr.VoidLiteral n) _ (anExpr.outs-VoidLiteral n))

pub typing-VoidLiteral : (W : World) (n : ℕ) (t : Option Ty) → typing W t (anExpr.VoidLiteral n) ≡ by_rule 203 (at W n)
unfolding typing effect negated meant located starts creating giving listing further
typing-VoidLiteral W n t = ap (λ (n : Node). n.run t) (made_at W (anExpr.VoidLiteral n) _ (anExpr.outs-VoidLiteral n))

pub effect-VoidLiteral : (W : World) (n : ℕ) → effect W (anExpr.VoidLiteral n) ≡ typing W None (anExpr.VoidLiteral n)
unfolding typing effect negated meant located starts creating giving listing further
effect-VoidLiteral W n = ap (λ (n : Node). n.effect) (made_at W (anExpr.VoidLiteral n) _ (anExpr.outs-VoidLiteral n)) ∙ sym (ap (λ (n : Node). n.run None) (made_at W (anExpr.VoidLiteral n) _ (anExpr.outs-VoidLiteral n)))

pub negated-VoidLiteral : (W : World) (n : ℕ) → negated W (anExpr.VoidLiteral n) ≡ typing W None (anExpr.VoidLiteral n)
unfolding typing effect negated meant located starts creating giving listing further
negated-VoidLiteral W n = ap (λ (n : Node). n.negated) (made_at W (anExpr.VoidLiteral n) _ (anExpr.outs-VoidLiteral n)) ∙ sym (ap (λ (n : Node). n.run None) (made_at W (anExpr.VoidLiteral n) _ (anExpr.outs-VoidLiteral n)))

pub meant-VoidLiteral : (W : World) (n : ℕ) → meant W (anExpr.VoidLiteral n) ≡ as_meaning (typing W None (anExpr.VoidLiteral n))
unfolding typing effect negated meant located starts creating giving listing further
meant-VoidLiteral W n = ap (λ (n : Node). n.meaning) (made_at W (anExpr.VoidLiteral n) _ (anExpr.outs-VoidLiteral n)) ∙ ap as_meaning (sym (ap (λ (n : Node). n.run None) (made_at W (anExpr.VoidLiteral n) _ (anExpr.outs-VoidLiteral n))))

pub located-VoidLiteral : (W : World) (n : ℕ) → located W (anExpr.VoidLiteral n) ≡ no_variable (typing W None (anExpr.VoidLiteral n))
unfolding typing effect negated meant located starts creating giving listing further
located-VoidLiteral W n = ap (λ (n : Node). n.located) (made_at W (anExpr.VoidLiteral n) _ (anExpr.outs-VoidLiteral n)) ∙ ap no_variable (sym (ap (λ (n : Node). n.run None) (made_at W (anExpr.VoidLiteral n) _ (anExpr.outs-VoidLiteral n))))

pub starts-OuterThis : (W : World) (first : Ident) (more : List Ident) → starts W (anExpr.OuterThis first more) ≡ at W first.at
unfolding typing effect negated meant located starts creating giving listing further
starts-OuterThis W first more = ap (λ (n : Node). n.start) (made_at W (anExpr.OuterThis first more) _ (anExpr.outs-OuterThis first more))

pub typing-OuterThis : (W : World) (first : Ident) (more : List Ident) (t : Option Ty) → typing W t (anExpr.OuterThis first more) ≡ by_rule 203 (at W first.at)
unfolding typing effect negated meant located starts creating giving listing further
typing-OuterThis W first more t = ap (λ (n : Node). n.run t) (made_at W (anExpr.OuterThis first more) _ (anExpr.outs-OuterThis first more))

pub effect-OuterThis : (W : World) (first : Ident) (more : List Ident) → effect W (anExpr.OuterThis first more) ≡ typing W None (anExpr.OuterThis first more)
unfolding typing effect negated meant located starts creating giving listing further
effect-OuterThis W first more = ap (λ (n : Node). n.effect) (made_at W (anExpr.OuterThis first more) _ (anExpr.outs-OuterThis first more)) ∙ sym (ap (λ (n : Node). n.run None) (made_at W (anExpr.OuterThis first more) _ (anExpr.outs-OuterThis first more)))

pub negated-OuterThis : (W : World) (first : Ident) (more : List Ident) → negated W (anExpr.OuterThis first more) ≡ typing W None (anExpr.OuterThis first more)
unfolding typing effect negated meant located starts creating giving listing further
negated-OuterThis W first more = ap (λ (n : Node). n.negated) (made_at W (anExpr.OuterThis first more) _ (anExpr.outs-OuterThis first more)) ∙ sym (ap (λ (n : Node). n.run None) (made_at W (anExpr.OuterThis first more) _ (anExpr.outs-OuterThis first more)))

pub meant-OuterThis : (W : World) (first : Ident) (more : List Ident) → meant W (anExpr.OuterThis first more) ≡ as_meaning (typing W None (anExpr.OuterThis first more))
unfolding typing effect negated meant located starts creating giving listing further
meant-OuterThis W first more = ap (λ (n : Node). n.meaning) (made_at W (anExpr.OuterThis first more) _ (anExpr.outs-OuterThis first more)) ∙ ap as_meaning (sym (ap (λ (n : Node). n.run None) (made_at W (anExpr.OuterThis first more) _ (anExpr.outs-OuterThis first more))))

pub located-OuterThis : (W : World) (first : Ident) (more : List Ident) → located W (anExpr.OuterThis first more) ≡ no_variable (typing W None (anExpr.OuterThis first more))
unfolding typing effect negated meant located starts creating giving listing further
located-OuterThis W first more = ap (λ (n : Node). n.located) (made_at W (anExpr.OuterThis first more) _ (anExpr.outs-OuterThis first more)) ∙ ap no_variable (sym (ap (λ (n : Node). n.run None) (made_at W (anExpr.OuterThis first more) _ (anExpr.outs-OuterThis first more))))

-- ---- creations, initialisers and operands

pub creating-Object : (W : World) (class : ClassTree) (diamond : Bool) (actuals : List Expr) (body : List Skip) (place : Place) (t : Option Ty) →
    creating W place t (aCreation.Object class diamond actuals body) ≡ creating_object W place t class diamond actuals
unfolding creating typing
creating-Object W class diamond actuals body place t =
    ap (λ (f : Created). f place t) (creation_at W (aCreation.Object class diamond actuals body) _ (aCreation.outs-Object class diamond actuals body))
    ∙ ap (λ (ms : List (Run Typed)). onward (every ms) (λ ts. created W place (written_class W class) diamond t ts)) (of_runs W actuals)

pub creating-Sized : (W : World) (element : BaseTree) (first : Expr) (more : List Expr) (dims : ℕ) (place : Place) (t : Option Ty) →
    creating W place t (aCreation.Sized element first more dims) ≡ creating_sized W place element first more dims
unfolding creating typing
creating-Sized W element first more dims place t =
    ap (λ (f : Created). f place t) (creation_at W (aCreation.Sized element first more dims) _ (aCreation.outs-Sized element first more dims))
    ∙ ap (λ (ms : List (Run Typed)). onward (every (typing W None first ∷ ms)) (λ ts. sized W.table place (with_dims (length (map (made W) more) + 1 + dims) (written_base W element)) ts)) (of_runs W more)
    ∙ ap (λ (n : ℕ). onward (every (typing W None first ∷ typings W more)) (λ ts. sized W.table place (with_dims (n + 1 + dims) (written_base W element)) ts)) (counted W more)

pub creating-Initialised : (W : World) (element : BaseTree) (dims : ℕ) (init : ArrayInit) (place : Place) (t : Option Ty) →
    creating W place t (aCreation.Initialised element dims init) ≡ listing W place (Some (with_dims (dims + 1) (written_base W element))) init
unfolding creating listing
creating-Initialised W element dims init place t =
    ap (λ (f : Created). f place t) (creation_at W (aCreation.Initialised element dims init) _ (aCreation.outs-Initialised element dims init))

giving_value_is : (W : World) (e : Expr) (t : Option Ty) → given_to W t (made W e) ≡ giving_value W t e
unfolding typing
giving_value_is W e None = refl
giving_value_is W e (Some t) = refl

pub giving-Value : (W : World) (e : Expr) (t : Option Ty) → giving W t (anInit.Value e) ≡ giving_value W t e
unfolding giving
giving-Value W e t = ap (λ (f : Given). f t) (init_at W (anInit.Value e) _ (anInit.outs-Value e)) ∙ giving_value_is W e t

pub giving-Nested : (W : World) (a : ArrayInit) (t : Option Ty) →
    giving W t (anInit.Nested a) ≡ onward (listing W (at W (out-ArrayInit a).at) t a) (λ t. fine (plain t))
unfolding giving listing
giving-Nested W a t =
    ap (λ (f : Given). f t) (init_at W (anInit.Nested a) _ (anInit.outs-Nested a))
    ∙ ap (λ (p : Place). onward ((made_array W a).run p t) (λ t. fine (plain t))) (ap (λ (l : Listing). l.start) (array_out W a))

pub listing-all : (W : World) (a : ArrayInit) (place : Place) (t : Option Ty) → listing W place t a ≡ listing_all W place t (out-ArrayInit a).inits
unfolding listing
listing-all W a place t =
    ap (λ (l : Listing). l.run place t) (array_out W a)
    ∙ ap (λ (ms : List (Run Operated)). onward (every ms) (listed_as W place t)) (of_givens W (element_of_some t) (out-ArrayInit a).inits)

pub further-Binary : (W : World) (o : BinaryOp) (right : Expr) → further W (anOperand.Binary o right) ≡ Binary o (typing W None right)
unfolding further typing
further-Binary W o right = operand_at W (anOperand.Binary o right) _ (anOperand.outs-Binary o right)

pub further-InstanceOf : (W : World) (ty : TypeTree) → further W (anOperand.InstanceOf ty) ≡ InstanceOf ty
unfolding further
further-InstanceOf W ty = operand_at W (anOperand.InstanceOf ty) _ (anOperand.outs-InstanceOf ty)

pub initialised-is : (W : World) (t : Ty) (i : Init) → initialised W t i ≡ giving W (Some t) i
unfolding initialised giving
initialised-is W t i = refl

pub ruleset by_typing = (typing-Assign, typing-Conditional, typing-Chain, typing-Prefix, typing-Cast, typing-Postfix, typing-Field, typing-Call, typing-Index, typing-InnerNew, typing-Literal, typing-This, typing-SuperField, typing-SuperCall, typing-Paren, typing-Name, typing-Invoke, typing-New, typing-ClassLiteral, typing-VoidLiteral, typing-OuterThis)

pub ruleset by_effect = (effect-Assign, effect-Conditional, effect-Chain, effect-Prefix, effect-Cast, effect-Postfix, effect-Field, effect-Call, effect-Index, effect-InnerNew, effect-Literal, effect-This, effect-SuperField, effect-SuperCall, effect-Paren, effect-Name, effect-Invoke, effect-New, effect-ClassLiteral, effect-VoidLiteral, effect-OuterThis)

pub ruleset by_negated = (negated-Assign, negated-Conditional, negated-Chain, negated-Prefix, negated-Cast, negated-Postfix, negated-Field, negated-Call, negated-Index, negated-InnerNew, negated-Literal, negated-This, negated-SuperField, negated-SuperCall, negated-Paren, negated-Name, negated-Invoke, negated-New, negated-ClassLiteral, negated-VoidLiteral, negated-OuterThis)

pub ruleset by_meant = (meant-Assign, meant-Conditional, meant-Chain, meant-Prefix, meant-Cast, meant-Postfix, meant-Field, meant-Call, meant-Index, meant-InnerNew, meant-Literal, meant-This, meant-SuperField, meant-SuperCall, meant-Paren, meant-Name, meant-Invoke, meant-New, meant-ClassLiteral, meant-VoidLiteral, meant-OuterThis)

pub ruleset by_located = (located-Assign, located-Conditional, located-Chain, located-Prefix, located-Cast, located-Postfix, located-Field, located-Call, located-Index, located-InnerNew, located-Literal, located-This, located-SuperField, located-SuperCall, located-Paren, located-Name, located-Invoke, located-New, located-ClassLiteral, located-VoidLiteral, located-OuterThis)

pub ruleset by_start = (starts-Assign, starts-Conditional, starts-Chain, starts-Prefix, starts-Cast, starts-Postfix, starts-Field, starts-Call, starts-Index, starts-InnerNew, starts-Literal, starts-This, starts-SuperField, starts-SuperCall, starts-Paren, starts-Name, starts-Invoke, starts-New, starts-ClassLiteral, starts-VoidLiteral, starts-OuterThis)

pub ruleset by_creating = (creating-Object, creating-Sized, creating-Initialised)

pub ruleset by_giving = (giving-Value, giving-Nested, listing-all)

pub ruleset by_further = (further-Binary, further-InstanceOf)
