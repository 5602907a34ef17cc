-- Catches up to their blocks, as the code reads them.
use Rattle.std.proofs.Common.{◌≡◌, ℕ, List, map, refl, ◌∙◌}
use Rattle.jc_lexer.specs.declared.token.Key.TheVariants as key_of
use Rattle.jc_lexer.specs.declared.token.Sign.TheVariants as sign_of
use Rattle.jc_lexer.specs.declared.token.Token.{Token}
use Rattle.jc_tree.specs.declared.name.Ident.{Ident}
use Rattle.jc_tree.specs.declared.statement.ClauseHead.{ClauseHead}
use Rattle.jc_tree.specs.declared.statement.ClauseHead.TheVariants as clause_of
use Rattle.jc_tree.specs.declared.statement.Modifier.{Modifier}
use Rattle.jc_tree.specs.declared.types.ClassTree.{ClassTree}
use Rattle.jc_reading.specs.Kinds.{sign_code}
use Rattle.jc_reading.specs.Reading.{Run, as_new, in_turn, of_kind, an_ident_at, before_it, behind_it, each_behind}
use Rattle.jc_parse_type.specs.TypeReading.{class_run}
use Rattle.jc_part_laws.specs.PartReading.{modifiers_run}
use Rattle.jc_expr_laws.specs.ExprReading.{exprs}
use Rattle.jc_parse_heads.specs.UnitCode.{catch_opening, catch_opening_run}
use Rattle.jc_parse_heads.specs.HeadCode.{opened_run, closed_name_run, caught_made, caught_run, caught_types_made, caught_types_run, catch_head_made, catch_head_run}
use Rattle.jc_parse_nodes.specs.declared.head_parts.Caught.{Caught}
use Rattle.jc_parse_nodes.specs.declared.head_parts.CaughtTypes.{CaughtTypes}
use Rattle.jc_parse_nodes.specs.declared.pieces.Opening.{Opening}
use Rattle.jc_parse_heads.proofs.Chains.{behind_opened, both_made}
use Rattle.jc_parse_heads.proofs.Joinings.{second_made}

abbrev Named : Run (Ident × Unit {0})
Named = in_turn an_ident_at (of_kind (sign_code sign_of.RightParen))

abbrev More : ℕ → Run (List (Unit {0} × ClassTree) × (Ident × Unit {0}))
More h = in_turn (each_behind sign_of.Or (class_run h)) Named

abbrev Types : ℕ → Run (ClassTree × (List (Unit {0} × ClassTree) × (Ident × Unit {0})))
Types h = in_turn (class_run h) (More h)

abbrev pub caught_node : (List ClassTree × Ident) → Caught
caught_node p = record { more = p.0; name = p.1 }

pub caught_is : (h : ℕ) (ts : List Token) → caught_run h ts ≡ as_new caught_node (in_turn (as_new (map behind_it) (each_behind sign_of.Or (class_run h))) closed_name_run) ts
unfolding caught_run closed_name_run
caught_is h ts = both_made caught_made (map behind_it) before_it caught_node (λ a b. refl) (each_behind sign_of.Or (class_run h)) Named ts

abbrev pub caught_types_node : (ClassTree × Caught) → CaughtTypes
caught_types_node p = record { first = p.0; more = p.1.more; name = p.1.name }

pub caught_types_is : (h : ℕ) (ts : List Token) → caught_types_run h ts ≡ as_new caught_types_node (in_turn (class_run h) (caught_run h)) ts
unfolding caught_types_run caught_run
caught_types_is h ts = second_made caught_types_made caught_made caught_types_node (λ a b. refl) (class_run h) (More h) ts

abbrev pub catch_head_node : (List Modifier × CaughtTypes) → ClauseHead
catch_head_node p = clause_of.Catch p.0 p.1.first p.1.more p.1.name

pub catch_head_is : (h : ℕ) (ts : List Token) → catch_head_run h ts ≡ as_new catch_head_node (in_turn (modifiers_run exprs h) (caught_types_run h)) ts
unfolding catch_head_run caught_types_run
catch_head_is h ts = second_made catch_head_made caught_types_made catch_head_node (λ a b. refl) (modifiers_run exprs h) (Types h) ts

abbrev pub catch_node : (ℕ × ClauseHead) → Opening
catch_node p = record { at = p.0; head = p.1 }

pub catch_opening_is : (h : ℕ) (ts : List Token) → catch_opening_run h ts ≡ as_new catch_node (in_turn (opened_run key_of.Catch) (catch_head_run h)) ts
unfolding catch_opening_run catch_head_run
catch_opening_is h ts =
    let middle : (ℕ × (List Modifier × (ClassTree × (List (Unit {0} × ClassTree) × (Ident × Unit {0}))))) → Opening = λ p. record { at = p.0; head = catch_head_made p.1 } in
    behind_opened key_of.Catch catch_opening middle (λ d c. refl) (in_turn (modifiers_run exprs h) (Types h)) ts
    ∙ second_made middle catch_head_made catch_node (λ a b. refl) (opened_run key_of.Catch) (in_turn (modifiers_run exprs h) (Types h)) ts
