-- Resources of a `try`, as the code reads them.
use Rattle.std.proofs.Common.{◌≡◌, ℕ, Bool, List, map, length, refl, sym, ◌∙◌, subst}
use Rattle.jc_lexer.specs.declared.token.Sign.TheVariants as sign_of
use Rattle.jc_lexer.specs.declared.token.Token.{Token}
use Rattle.jc_tree.specs.declared.name.Ident.{Ident}
use Rattle.jc_tree.specs.declared.expression.Expr.{Expr}
use Rattle.jc_tree.specs.declared.statement.Modifier.{Modifier}
use Rattle.jc_tree.specs.declared.statement.Resource.{Resource}
use Rattle.jc_tree.specs.declared.statement.Resources.{Resources}
use Rattle.jc_tree.specs.declared.types.TypeTree.{TypeTree}
use Rattle.jc_reading.specs.declared.reading.Halt.{Halt}
use Rattle.jc_reading.specs.Giving.{Halts}
use Rattle.jc_reading.specs.Kinds.{sign_code}
use Rattle.jc_reading.specs.Reading.{Read, Found, Stopped, Run, noting, as_new, in_turn, of_kind, an_ident_at, before_it, behind_it, each_behind}
use Rattle.jc_parse_type.specs.TypeReading.{type_run}
use Rattle.jc_part_laws.specs.PartReading.{closing_run, modifiers_run, rows_tail_run}
use Rattle.jc_expr_laws.specs.ExprReading.{exprs}
use Rattle.jc_unit_laws.specs.UnitReading.{resource_made, resource_run, resources_made, resources_run}
use Rattle.jc_unit_laws.specs.MemberReading.{levels}
use Rattle.jc_parse_heads.specs.UnitCode.{roomy_resources_run}
use Rattle.jc_parse_heads.specs.HeadCode.{assigned_name_run, valued_made, valued_run, typed_value_made, typed_value_run, one_resource_run, more_resources_made, more_resources_run, some_resources_made, some_resources_run}
use Rattle.jc_parse_nodes.specs.declared.head_parts.MoreResources.{MoreResources}
use Rattle.jc_parse_nodes.specs.declared.head_parts.TypedValue.{TypedValue}
use Rattle.jc_parse_nodes.specs.declared.head_parts.Valued.{Valued}
use Rattle.jc_parse_heads.proofs.Joinings.{cut, first_made, grouped, room_gone, room_there, second_made, split_behind, split_here, two_halts}

abbrev pub valued_node : (Ident × Expr) → Valued
valued_node p = record { name = p.0; value = p.1 }

pub valued_is : (h : ℕ) (ts : List Token) → valued_run h ts ≡ as_new valued_node (in_turn assigned_name_run (exprs.expr h)) ts
unfolding valued_run assigned_name_run
valued_is h ts =
    grouped _ _ (exprs.expr h) _ valued_made before_it valued_node (split_behind an_ident_at _ _ (exprs.expr h) _ (split_here (of_kind (sign_code sign_of.Assign)) (exprs.expr h))) (λ d c. refl) ts

abbrev Valued_parts : ℕ → Run (Ident × (Unit {0} × Expr))
Valued_parts h = in_turn an_ident_at (in_turn (of_kind (sign_code sign_of.Assign)) (exprs.expr h))

abbrev pub typed_value_node : (TypeTree × Valued) → TypedValue
typed_value_node p = record { ty = p.0; name = p.1.name; value = p.1.value }

pub typed_value_is : (h : ℕ) (ts : List Token) → typed_value_run h ts ≡ as_new typed_value_node (in_turn (type_run h) (valued_run h)) ts
unfolding typed_value_run valued_run
typed_value_is h ts = second_made typed_value_made valued_made typed_value_node (λ a b. refl) (type_run h) (Valued_parts h) ts

abbrev pub resource_node : (List Modifier × TypedValue) → Resource
resource_node p = record { modifiers = p.0; ty = p.1.ty; name = p.1.name; value = p.1.value }

pub resource_is : (h : ℕ) (ts : List Token) → one_resource_run h ts ≡ as_new resource_node (in_turn (modifiers_run exprs h) (typed_value_run h)) ts
unfolding resource_run typed_value_run
resource_is h ts = second_made resource_made typed_value_made resource_node (λ a b. refl) (modifiers_run exprs h) (in_turn (type_run h) (Valued_parts h)) ts

abbrev pub more_resources_node : (List Resource × Bool) → MoreResources
more_resources_node p = record { more = p.0; trailing = p.1 }

pub more_resources_is : (h : ℕ) (ts : List Token) → more_resources_run h ts ≡ as_new more_resources_node (in_turn (as_new (map behind_it) (each_behind sign_of.Semicolon (one_resource_run h))) (closing_run sign_of.Semicolon sign_of.RightParen)) ts
unfolding more_resources_run
more_resources_is h ts = first_made more_resources_made (map behind_it) more_resources_node (closing_run sign_of.Semicolon sign_of.RightParen) (λ a b. refl) (each_behind sign_of.Semicolon (one_resource_run h)) ts

abbrev pub some_resources_node : (Resource × MoreResources) → Resources
some_resources_node p = record { first = p.0; more = p.1.more; trailing = p.1.trailing }

pub some_resources_is : (h : ℕ) (ts : List Token) → some_resources_run h ts ≡ as_new some_resources_node (in_turn (one_resource_run h) (more_resources_run h)) ts
unfolding some_resources_run more_resources_run
some_resources_is h ts = second_made some_resources_made more_resources_made some_resources_node (λ a b. refl) (one_resource_run h) (rows_tail_run sign_of.Semicolon sign_of.RightParen (one_resource_run h)) ts

abbrev Open : Run (Unit {0})
Open = of_kind (sign_code sign_of.LeftParen)

abbrev Parts : ℕ → Run (Resource × (List (Unit {0} × Resource) × Bool))
Parts h = in_turn (one_resource_run h) (rows_tail_run sign_of.Semicolon sign_of.RightParen (one_resource_run h))

pub resources_none : (h : ℕ) (ts : List Token) → h ≡ 0 → roomy_resources_run h ts ≡ Stopped (length ts)
unfolding roomy_resources_run
resources_none h ts e = room_gone h (resources_run exprs h (levels exprs h)) ts e

resources_there : (h : ℕ) (ts : List Token) → (h ≡ 0 → ⊥) → roomy_resources_run h ts ≡ as_new resources_made (in_turn Open (Parts h)) ts
unfolding roomy_resources_run resources_run
resources_there h ts n = room_there h (resources_run exprs h (levels exprs h)) ts n

pub resources_halts : (h : ℕ) (ts : List Token) (e : Halt) → (h ≡ 0 → ⊥) → Halts e (Open ts) → Halts e (roomy_resources_run h ts)
resources_halts h ts e n g = subst (λ (v : Read Resources). Halts e v) (sym (resources_there h ts n)) (two_halts resources_made (Open ts) (Parts h) e g)

pub resources_found : (h : ℕ) (ts q : List Token) (l : ℕ) → (h ≡ 0 → ⊥) → Open ts ≡ Found tt q l → roomy_resources_run h ts ≡ noting l (some_resources_run h q)
unfolding some_resources_run
resources_found h ts q l n e = resources_there h ts n ∙ cut resources_made Open (Parts h) ts q tt l e
