-- What is made of an expression, each of its readings by itself, and each form by its parts (JLS 15).
use Rattle.std.specs.Prelude.{ℕ, ◌+◌, Bool, List, [], ◌∷◌, length, Option, Some, None}
use Rattle.jc_rules.specs.declared.rule.Place.{Place}
use Rattle.jc_tree.specs.declared.expression.ArrayInit.{ArrayInit}
use Rattle.jc_tree.specs.declared.expression.BinaryOp.{BinaryOp}
use Rattle.jc_tree.specs.declared.expression.Creation.{Creation}
use Rattle.jc_tree.specs.declared.expression.Expr.{Expr}
use Rattle.jc_tree.specs.declared.expression.Init.{Init}
use Rattle.jc_tree.specs.declared.expression.Operand.{Operand}
use Rattle.jc_tree.specs.declared.expression.PrefixOp.{PrefixOp}
use Rattle.jc_tree.specs.declared.expression.PrefixSign.{PrefixSign}
use Rattle.jc_tree.specs.declared.expression.PrefixSign.TheVariants as sign
use Rattle.jc_tree.specs.declared.name.Ident.{Ident}
use Rattle.jc_tree.specs.declared.types.BaseTree.{BaseTree}
use Rattle.jc_tree.specs.declared.types.ClassTree.{ClassTree}
use Rattle.jc_tree.specs.declared.types.TypeArg.{TypeArg}
use Rattle.jc_types.specs.declared.form.Ty.{Ty}
use Rattle.jc_overriding.specs.Viewing.{with_dims}
use Rattle.jc_typed.specs.Trees.{Operand as Operated}
use Rattle.jc_exprs_nodes_spec.specs.Told.{Run, fine, both, feeding, onward, every, spanned}
use Rattle.jc_exprs_nodes_spec.specs.Typeds.{Typed, plain}
use Rattle.jc_exprs_parts_spec.specs.Assigning.{Target, compound, stored}
use Rattle.jc_exprs_parts_spec.specs.Chains.{Unsigned}
use Rattle.jc_exprs_parts_spec.specs.Names.{Located, Meaning, element_of, target_of}
use Rattle.jc_exprs_parts_spec.specs.Values.{assigned, chosen, sized}
use Rattle.jc_exprs_parts_spec.specs.Worlds.{World, at, written_base, written_class}
use Rattle.jc_exprs_spec.specs.Calls.{asked, call_here, call_on, call_super}
use Rattle.jc_exprs_spec.specs.Creations.{created}
use Rattle.jc_exprs_spec.specs.Typing.{Ahead, Further, ahead_by, aimed, chain, element_of_some, listed_as, made, made_array, made_creation, made_init, made_operand, started, typing}

-- ---- the readings: where it begins; the operand of a minus; what it means before a point; and the variable that it is

unfoldable pub starts : World → Expr → Place
starts W e = (made W e).start

unfoldable pub negated : World → Expr → Run Typed
negated W e = (made W e).negated

unfoldable pub meant : World → Expr → Run Meaning
meant W e = (made W e).meaning

unfoldable pub located : World → Expr → Run Located
located W e = (made W e).located

-- what stands behind `new`, by its place and the type that is wanted; an initialiser, and an array initialiser that is created at a place
unfoldable pub creating : World → Place → Option Ty → Creation → Run Typed
creating W place wanted c = made_creation W c place wanted

unfoldable pub giving : World → Option Ty → Init → Run Operated
giving W wanted i = made_init W i wanted

unfoldable pub listing : World → Place → Option Ty → ArrayInit → Run Typed
listing W place wanted a = (made_array W a).run place wanted

unfoldable pub further : World → Operand → Further
further W o = made_operand W o

-- ---- parts

-- the variable that an expression is, where it is assigned
abbrev pub targeted : World → Expr → Run Target
targeted W e = onward (located W e) (λ l. onward (target_of W l) (started (starts W e)))

-- several expressions, each of which is assigned to nothing; several initialisers; what stands behind the first operand of a chain
abbrev pub typings : World → List Expr → List (Run Typed)
typings W [] = []
typings W (e ∷ es) = typing W None e ∷ typings W es

abbrev pub givings : World → Option Ty → List Init → List (Run Operated)
givings W wanted [] = []
givings W wanted (i ∷ is) = giving W wanted i ∷ givings W wanted is

abbrev pub furthers : World → List Operand → List Further
furthers W [] = []
furthers W (o ∷ os) = further W o ∷ furthers W os

-- ---- forms

abbrev pub assigning : World → Expr → Option BinaryOp → Expr → Run Typed
assigning W left None right = onward (feeding (targeted W left) (λ v. typing W (aimed v) right)) (λ p. stored W.table p.0 p.1)
assigning W left (Some o) right = onward (both (targeted W left) (typing W None right)) (λ p. compound W.table o p.0 p.1)

abbrev pub branching : World → Expr → Expr → Expr → Run Typed
branching W test a b =
    onward (both (typing W None test) (spanned (both (typing W None a) (typing W None b)))) (λ p. chosen W.table p.0 p.1)

abbrev pub chaining : World → Expr → List Operand → Run Typed
chaining W first rest = chain W (typing W None first) (furthers W rest)

-- prefix operators: a minus that stands at the operand allows the greatest literal
abbrev pub sign_operand : World → PrefixSign → Expr → Run Typed
sign_operand W sign.Minus e = negated W e
sign_operand W _ e = typing W None e

abbrev pub ahead_in : World → PrefixSign → Expr → Ahead
ahead_in W s e = record { signs = onward (sign_operand W s e) (λ t. fine (Unsigned t)); variable = targeted W e }

abbrev pub prefixing : World → PrefixOp → List PrefixOp → Expr → Ahead
prefixing W p [] e = ahead_by W (at W p.at) p.sign (ahead_in W p.sign e)
prefixing W p (q ∷ qs) e = ahead_by W (at W p.at) p.sign (prefixing W q qs e)

abbrev pub indexing : World → Expr → Expr → Run Located
indexing W of_it index = onward (both (typing W None of_it) (typing W None index)) (λ p. element_of W p.0 p.1)

abbrev pub calling : World → Expr → List TypeArg → Ident → List Expr → Option Ty → Run Typed
calling W of_it type_args name actuals wanted =
    onward (both (onward (meant W of_it) (asked W)) (every (typings W actuals)))
    (λ p. call_on W (starts W of_it) name.text type_args wanted p.0 p.1)

abbrev pub super_calling : World → ℕ → List TypeArg → Ident → List Expr → Option Ty → Run Typed
super_calling W n type_args name actuals wanted = onward (every (typings W actuals)) (λ ts. call_super W (at W n) name.text type_args wanted ts)

abbrev pub invoking : World → Ident → List Expr → Option Ty → Run Typed
invoking W name actuals wanted = onward (every (typings W actuals)) (λ ts. call_here W (at W name.at) name.text wanted ts)

-- ---- creations and initialisers

abbrev pub creating_object : World → Place → Option Ty → ClassTree → Bool → List Expr → Run Typed
creating_object W place wanted class diamond actuals =
    onward (every (typings W actuals)) (λ ts. created W place (written_class W class) diamond wanted ts)

abbrev pub creating_sized : World → Place → BaseTree → Expr → List Expr → ℕ → Run Typed
creating_sized W place element first more dims =
    onward (every (typing W None first ∷ typings W more)) (λ ts. sized W.table place (with_dims (length more + 1 + dims) (written_base W element)) ts)

-- a value of an initialiser goes to the type that is wanted, if it is known
abbrev pub giving_value : World → Option Ty → Expr → Run Operated
giving_value W None e = onward (typing W None e) (λ t. fine (plain t))
giving_value W (Some t) e = onward (typing W (Some t) e) (assigned W.table t)

abbrev pub listing_all : World → Place → Option Ty → List Init → Run Typed
listing_all W place wanted inits = onward (every (givings W (element_of_some wanted) inits)) (listed_as W place wanted)
