-- Heads of catches, `try` and `for`, as the code reads them.
use Rattle.std.specs.Prelude.{ℕ, Bool, List, [], ◌∷◌, map, Option, cond}
use Rattle.jc_lexer.specs.declared.token.Token.{Token}
use Rattle.jc_tree.specs.declared.expression.Init.{Init}
use Rattle.jc_tree.specs.declared.statement.ForHead.{ForHead}
use Rattle.jc_tree.specs.declared.statement.ForHead.TheVariants as for_of
use Rattle.jc_tree.specs.declared.statement.ForInit.TheVariants as init_of
use Rattle.jc_tree.specs.declared.statement.Var.{Var}
use Rattle.jc_reading.specs.Reading.{Read, Either, This, That, becoming, noting, perhaps, commas_run, either}
use Rattle.jc_reading.specs.Further.{trying, with_room}
use Rattle.jc_reading.specs.Kinds.{one_of, word_code}
use Rattle.jc_parse_type.specs.TypeReading.{dims_run}
use Rattle.jc_part_laws.specs.PartReading.{modifier_run, var_run}
use Rattle.jc_expr_laws.specs.ExprReading.{strict_effect}
use Rattle.jc_unit_laws.specs.UnitReading.{ForRest, effect_in_run, expr_in_run, for_head_made, for_head_run, for_named_run, for_rest_run, or_no_effects, semicolon_run}
use Rattle.jc_parse_parts.specs.Parts.{or_no_initial}
use Rattle.jc_parse_heads.specs.UnitCode.{listed}
use Rattle.jc_parse_nodes.specs.declared.head_parts.ForTail.{ForTail}
use Rattle.jc_parse_nodes.specs.declared.head_parts.ForMore.{ForMore}
use Rattle.jc_parse_nodes.specs.declared.head_parts.ForKind.{ForKind}
use Rattle.jc_parse_nodes.specs.declared.head_parts.ForDims.{ForDims}
use Rattle.jc_parse_nodes.specs.declared.head_parts.ForNamed.{ForNamed}
use Rattle.jc_parse_nodes.specs.declared.head_parts.ForTyped.{ForTyped}
use Rattle.jc_parse_nodes.specs.declared.head_parts.ForKind.TheVariants as kind_is
use Rattle.jc_lexer.specs.declared.token.Key.{Key}
use Rattle.jc_lexer.specs.declared.token.Sign.TheVariants as sign_of
use Rattle.jc_tree.specs.declared.name.Ident.{Ident}
use Rattle.jc_tree.specs.declared.expression.Expr.{Expr}
use Rattle.jc_tree.specs.declared.statement.ClauseHead.{ClauseHead}
use Rattle.jc_tree.specs.declared.statement.ClauseHead.TheVariants as clause_of
use Rattle.jc_tree.specs.declared.statement.Modifier.{Modifier}
use Rattle.jc_tree.specs.declared.statement.Resource.{Resource}
use Rattle.jc_tree.specs.declared.statement.Resources.{Resources}
use Rattle.jc_tree.specs.declared.types.ClassTree.{ClassTree}
use Rattle.jc_tree.specs.declared.types.TypeTree.{TypeTree}
use Rattle.jc_reading.specs.Kinds.{sign_code, key_code}
use Rattle.jc_reading.specs.Reading.{Run, as_new, in_turn, of_kind, at_kind, an_ident_at, before_it, behind_it, each_behind}
use Rattle.jc_parse_type.specs.TypeReading.{class_run, type_run}
use Rattle.jc_part_laws.specs.PartReading.{modifiers_run, rows_tail_run}
use Rattle.jc_expr_laws.specs.ExprReading.{exprs}
use Rattle.jc_unit_laws.specs.UnitReading.{resource_run}
use Rattle.jc_unit_laws.specs.MemberReading.{levels}
use Rattle.jc_parse_nodes.specs.declared.head_parts.Caught.{Caught}
use Rattle.jc_parse_nodes.specs.declared.head_parts.CaughtTypes.{CaughtTypes}
use Rattle.jc_parse_nodes.specs.declared.head_parts.MoreResources.{MoreResources}
use Rattle.jc_parse_nodes.specs.declared.head_parts.TypedValue.{TypedValue}
use Rattle.jc_parse_nodes.specs.declared.head_parts.Valued.{Valued}

-- a keyword and a left parenthesis
unfoldable pub opened_run : Key → Run ℕ
opened_run key = as_new before_it (in_turn (at_kind (key_code key)) (of_kind (sign_code sign_of.LeftParen)))

-- catches

-- the name of the variable of a catch, and the right parenthesis
unfoldable pub closed_name_run : Run Ident
closed_name_run = as_new before_it (in_turn an_ident_at (of_kind (sign_code sign_of.RightParen)))

abbrev pub caught_made : (List (Unit {0} × ClassTree) × (Ident × Unit {0})) → Caught
caught_made p = record { more = map behind_it p.0; name = p.1.0 }

-- types behind the first one, and the name
unfoldable pub caught_run : ℕ → Run Caught
caught_run h = as_new caught_made (in_turn (each_behind sign_of.Or (class_run h)) (in_turn an_ident_at (of_kind (sign_code sign_of.RightParen))))

-- all types that a catch names, and the name (JLS 14.20)
abbrev pub caught_types_made : (ClassTree × (List (Unit {0} × ClassTree) × (Ident × Unit {0}))) → CaughtTypes
caught_types_made p = record { first = p.0; more = map behind_it p.1.0; name = p.1.1.0 }

unfoldable pub caught_types_run : ℕ → Run CaughtTypes
caught_types_run h = as_new caught_types_made (in_turn (class_run h) (in_turn (each_behind sign_of.Or (class_run h)) (in_turn an_ident_at (of_kind (sign_code sign_of.RightParen)))))

-- the same behind modifiers, as the head of a clause
abbrev pub catch_head_made : (List Modifier × (ClassTree × (List (Unit {0} × ClassTree) × (Ident × Unit {0})))) → ClauseHead
catch_head_made p = clause_of.Catch p.0 p.1.0 (map behind_it p.1.1.0) p.1.1.1.0

unfoldable pub catch_head_run : ℕ → Run ClauseHead
catch_head_run h = as_new catch_head_made (in_turn (modifiers_run exprs h) (in_turn (class_run h) (in_turn (each_behind sign_of.Or (class_run h)) (in_turn an_ident_at (of_kind (sign_code sign_of.RightParen))))))

-- resources

-- a resource's name with `=`; with its value behind that; and with its type before it (JLS 14.20.3)
unfoldable pub assigned_name_run : Run Ident
assigned_name_run = as_new before_it (in_turn an_ident_at (of_kind (sign_code sign_of.Assign)))

abbrev pub valued_made : (Ident × (Unit {0} × Expr)) → Valued
valued_made p = record { name = p.0; value = p.1.1 }

unfoldable pub valued_run : ℕ → Run Valued
valued_run h = as_new valued_made (in_turn an_ident_at (in_turn (of_kind (sign_code sign_of.Assign)) (exprs.expr h)))

abbrev pub typed_value_made : (TypeTree × (Ident × (Unit {0} × Expr))) → TypedValue
typed_value_made p = record { ty = p.0; name = p.1.0; value = p.1.1.1 }

unfoldable pub typed_value_run : ℕ → Run TypedValue
typed_value_run h = as_new typed_value_made (in_turn (type_run h) (in_turn an_ident_at (in_turn (of_kind (sign_code sign_of.Assign)) (exprs.expr h))))

-- a resource
abbrev pub one_resource_run : ℕ → Run Resource
one_resource_run h = resource_run exprs h (levels exprs h)

-- resources behind the first one, and all of them, with whether a semicolon stands behind the last
abbrev pub more_resources_made : (List (Unit {0} × Resource) × Bool) → MoreResources
more_resources_made p = record { more = map behind_it p.0; trailing = p.1 }

unfoldable pub more_resources_run : ℕ → Run MoreResources
more_resources_run h = as_new more_resources_made (rows_tail_run sign_of.Semicolon sign_of.RightParen (one_resource_run h))

abbrev pub some_resources_made : (Resource × (List (Unit {0} × Resource) × Bool)) → Resources
some_resources_made p = record { first = p.0; more = map behind_it p.1.0; trailing = p.1.1 }

unfoldable pub some_resources_run : ℕ → Run Resources
some_resources_run h = as_new some_resources_made (in_turn (one_resource_run h) (rows_tail_run sign_of.Semicolon sign_of.RightParen (one_resource_run h)))

-- heads of `for`

-- what stands behind the first semicolon of a `for`: a test or none, a semicolon, and updates or none (JLS 14.14.1)
abbrev pub Test : Type 0
Test = Option Expr × (Unit {0} × Option (List Expr))

abbrev pub updating_run : ℕ → Run (Option (List Expr))
updating_run h = perhaps (commas_run (effect_in_run exprs h))

abbrev pub testing_run : ℕ → Run Test
testing_run h = in_turn (perhaps (expr_in_run exprs h)) (in_turn semicolon_run (updating_run h))

-- the right parenthesis
abbrev pub parens_end : Run (Unit {0})
parens_end = of_kind (sign_code sign_of.RightParen)

-- effects as the code reads them
abbrev pub effects_run : ℕ → Run (List Expr)
effects_run h = commas_run (strict_effect h)

unfoldable pub effects_in_run : ℕ → Run (List Expr)
effects_in_run h = with_room h (commas_run (strict_effect h))

-- updates, or none, and the right parenthesis

abbrev pub updates_made : (Option (List Expr) × Unit {0}) → List Expr
updates_made p = or_no_effects p.0

unfoldable pub updates_run : ℕ → Run (List Expr)
updates_run h = as_new updates_made (in_turn (updating_run h) parens_end)

-- no updates, made of a token alone
abbrev pub no_updates : Unit {0} → List Expr
no_updates u = []

-- the same behind a semicolon
abbrev pub for_update_made : ((Unit {0} × Option (List Expr)) × Unit {0}) → List Expr
for_update_made p = or_no_effects p.0.1

unfoldable pub for_update_run : ℕ → Run (List Expr)
for_update_run h = as_new for_update_made (in_turn (in_turn semicolon_run (updating_run h)) parens_end)

-- a test or none, a semicolon, the updates or none, and the right parenthesis
abbrev pub for_test_made : (Test × Unit {0}) → ForTail
for_test_made p = record { test = p.0.0; update = or_no_effects p.0.1.1 }

unfoldable pub for_test_run : ℕ → Run ForTail
for_test_run h = as_new for_test_made (in_turn (testing_run h) parens_end)

-- from the first semicolon on: the test and the updates; and below, with the right parenthesis
abbrev pub tail_of : ForRest → ForTail
tail_of r = record { test = r.1.0; update = or_no_effects r.1.1.1 }

abbrev pub for_tail_made : (ForRest × Unit {0}) → ForTail
for_tail_made p = tail_of p.0

unfoldable pub for_tail_run : ℕ → Run ForTail
for_tail_run h = as_new for_tail_made (in_turn (for_rest_run exprs h) parens_end)

-- a basic `for` without an initialisation (JLS 14.14.1)
abbrev pub empty_head : ForTail → ForHead
empty_head tail = for_of.Basic (init_of.Effects []) tail.test tail.update

-- a first variable and what is behind it

-- further variables, and then the test and the updates
abbrev pub Rest : Type 0
Rest = List (Unit {0} × Var) × ForRest

-- what stands behind the first variable: a colon and an expression, or its initialiser or none, and the rest (JLS 14.14)
abbrev pub Kind : Type 0
Kind = Either (Unit {0} × Expr) (Option (Unit {0} × Init) × Rest)

-- the rest, and what stands behind the first variable, as nodes
abbrev pub more_of : Rest → ForMore
more_of r = record { more = map behind_it r.0; test = r.1.1.0; update = or_no_effects r.1.1.1.1 }

abbrev pub kind_of : Kind → ForKind
kind_of (This q) = kind_is.Each q.1
kind_of (That q) = kind_is.Basic (or_no_initial q.0) (more_of q.1)

-- the reads of these: the rest, the initialiser or none, the colon with its expression, and either of the two kinds, told by the colon
abbrev pub resting_run : ℕ → Run Rest
resting_run h = in_turn (each_behind sign_of.Comma (var_run exprs h)) (for_rest_run exprs h)

abbrev pub given_run : ℕ → Run (Option (Unit {0} × Init))
given_run h = perhaps (with_room h (in_turn (of_kind (sign_code sign_of.Assign)) (exprs.init h)))

abbrev pub each_kind_run : ℕ → Run (Unit {0} × Expr)
each_kind_run h = in_turn (of_kind (sign_code sign_of.Colon)) (exprs.expr h)

abbrev pub colon_codes : List ℕ
colon_codes = sign_code sign_of.Colon ∷ []

abbrev pub kinds_run : ℕ → Run Kind
kinds_run h = either colon_codes (each_kind_run h) (in_turn (given_run h) (resting_run h))

-- the expression of an enhanced `for` and the right parenthesis; and below, the same with the colon before it (JLS 14.14.2)
unfoldable pub closed_expr_run : ℕ → Run Expr
closed_expr_run h = as_new before_it (in_turn (exprs.expr h) parens_end)

abbrev pub for_each_made : ((Unit {0} × Expr) × Unit {0}) → Expr
for_each_made p = p.0.1

unfoldable pub for_each_run : ℕ → Run Expr
for_each_run h = as_new for_each_made (in_turn (each_kind_run h) parens_end)

-- what an expression behind a colon makes of it
abbrev pub each_kind : Expr → ForKind
each_kind e = kind_is.Each e

-- the rest up to the right parenthesis; and below, with the initialiser or none before it
abbrev pub for_more_made : (Rest × Unit {0}) → ForMore
for_more_made p = more_of p.0

unfoldable pub for_more_run : ℕ → Run ForMore
for_more_run h = as_new for_more_made (in_turn (resting_run h) parens_end)

abbrev pub for_vars_made : ((Option (Unit {0} × Init) × Rest) × Unit {0}) → ForKind
for_vars_made p = kind_of (That p.0)

unfoldable pub for_vars_run : ℕ → Run ForKind
for_vars_run h = as_new for_vars_made (in_turn (in_turn (given_run h) (resting_run h)) parens_end)

-- what stands behind the first variable, up to the right parenthesis; and below, with the brackets before it
abbrev pub for_kind_made : (Kind × Unit {0}) → ForKind
for_kind_made p = kind_of p.0

unfoldable pub for_kind_run : ℕ → Run ForKind
for_kind_run h = as_new for_kind_made (in_turn (kinds_run h) parens_end)

abbrev pub for_dims_made : ((ℕ × Kind) × Unit {0}) → ForDims
for_dims_made p = record { dims = p.0.0; kind = kind_of p.0.1 }

unfoldable pub for_dims_run : ℕ → Run ForDims
for_dims_run h = as_new for_dims_made (in_turn (in_turn dims_run (kinds_run h)) parens_end)

-- the name of the first variable and all behind it, up to the right parenthesis; and below, with its type before it
abbrev pub named_of : (Ident × (ℕ × Kind)) → ForNamed
named_of p = record { name = p.0; dims = p.1.0; kind = kind_of p.1.1 }

abbrev pub for_name_made : ((Ident × (ℕ × Kind)) × Unit {0}) → ForNamed
for_name_made p = named_of p.0

unfoldable pub for_name_run : ℕ → Run ForNamed
for_name_run h = as_new for_name_made (in_turn (for_named_run exprs h) parens_end)

abbrev pub for_typed_made : ((TypeTree × (Ident × (ℕ × Kind))) × Unit {0}) → ForTyped
for_typed_made p = record { ty = p.0.0; named = named_of p.0.1 }

unfoldable pub for_typed_run : ℕ → Run ForTyped
for_typed_run h = as_new for_typed_made (in_turn (in_turn (type_run h) (for_named_run exprs h)) parens_end)

-- the head that a variable makes with its modifiers and its type

-- an enhanced `for` has the one variable; a basic one declares it with its initialiser and further ones
abbrev pub kind_head : List Modifier → TypeTree → Ident → ℕ → ForKind → ForHead
kind_head modifiers ty name dims (kind_is.Each e) = for_of.Enhanced modifiers ty name dims e
kind_head modifiers ty name dims (kind_is.Basic init more) =
    for_of.Basic (init_of.Local (record { modifiers = modifiers; ty = ty; first = record { name = name; dims = dims; init = init }; more = more.more })) more.test more.update

abbrev pub named_head : List Modifier → TypeTree → ForNamed → ForHead
named_head modifiers ty named = kind_head modifiers ty named.name named.dims named.kind

abbrev pub typed_head : List Modifier → ForTyped → ForHead
typed_head modifiers typed = named_head modifiers typed.ty typed.named

-- the same without modifiers
abbrev pub bare_head : TypeTree → ForNamed → ForHead
bare_head ty named = named_head [] ty named

-- one modifier or more
abbrev pub first_modifiers_run : ℕ → Run (List Modifier)
first_modifiers_run h = as_new listed (in_turn (modifier_run exprs h) (modifiers_run exprs h))

-- a head that begins with a modifier: one or more, the type, the name and all behind it
abbrev pub Moded : Type 0
Moded = Modifier × (List Modifier × (TypeTree × (Ident × (ℕ × Kind))))

abbrev pub moded_run : ℕ → Run Moded
moded_run h = in_turn (modifier_run exprs h) (in_turn (modifiers_run exprs h) (in_turn (type_run h) (for_named_run exprs h)))

abbrev pub for_moded_made : (Moded × Unit {0}) → ForHead
for_moded_made p = for_head_made (That (This p.0))

unfoldable pub for_moded_run : ℕ → Run ForHead
for_moded_run h = as_new for_moded_made (in_turn (moded_run h) parens_end)

-- a head that begins with effects
abbrev pub effecting_run : ℕ → Run (List Expr × ForRest)
effecting_run h = in_turn (commas_run (exprs.effect h)) (for_rest_run exprs h)

abbrev pub for_effects_made : ((List Expr × ForRest) × Unit {0}) → ForHead
for_effects_made p = for_head_made (That (That (That p.0)))

unfoldable pub for_effects_run : ℕ → Run ForHead
for_effects_run h = as_new for_effects_made (in_turn (effecting_run h) parens_end)

-- a type and a variable without modifiers, or effects
abbrev pub tried_run : ℕ → Run (Either (TypeTree × (Ident × (ℕ × Kind))) (List Expr × ForRest))
tried_run h = trying (word_code ∷ []) (type_run h) (for_named_run exprs h) (effecting_run h)

abbrev pub for_other_made : (Either (TypeTree × (Ident × (ℕ × Kind))) (List Expr × ForRest) × Unit {0}) → ForHead
for_other_made p = for_head_made (That (That p.0))

unfoldable pub for_other_run : ℕ → Run ForHead
for_other_run h = as_new for_other_made (in_turn (tried_run h) parens_end)

-- behind a type: a variable where a name stands there; else the whole is read as effects, from where the type begins
abbrev pub for_typed_or_run : ℕ → TypeTree → List Token → ℕ → List Token → Read ForHead
for_typed_or_run h ty rest left ts = cond (one_of (word_code ∷ []) rest) (noting left (becoming (bare_head ty) (for_name_run h rest))) (noting left (for_effects_run h ts))

-- a whole head and the right parenthesis
unfoldable pub for_ended_run : ℕ → Run ForHead
for_ended_run h = as_new before_it (in_turn (for_head_run exprs h) parens_end)
