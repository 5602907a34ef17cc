-- Source files, as the code reads them.
use Rattle.std.proofs.Common.{◌≡◌, ℕ, true, false, List, [], ◌∷◌, refl, ap}
use Rattle.jc_lexer.specs.declared.token.Sign.TheVariants as sign_of
use Rattle.jc_lexer.specs.declared.token.Token.{Token}
use Rattle.jc_tree.specs.declared.statement.Import.{Import}
use Rattle.jc_tree.specs.declared.statement.Modifier.{Modifier}
use Rattle.jc_tree.specs.declared.statement.TopLevel.{TopLevel}
use Rattle.jc_tree.specs.declared.statement.TopLevel.TheVariants as top_level_of
use Rattle.jc_reading.specs.Kinds.{one_of, sign_code}
use Rattle.jc_reading.specs.Reading.{as_new, at_kind, in_turn}
use Rattle.jc_reading.proofs.Coded.{formed}
use Rattle.jc_reading.proofs.Turns.{lawful_ahead}
use Rattle.jc_part_laws.specs.PartReading.{modifiers_run}
use Rattle.jc_expr_laws.specs.ExprReading.{exprs}
use Rattle.jc_unit_laws.specs.UnitReading.{DeclarationRest}
use Rattle.jc_unit_laws.specs.MemberReading.{declared_made, import_run, levels, rest_run, top_run}
use Rattle.jc_unit_laws.proofs.FileForms.{import_coded, import_laws}
use Rattle.jc_reading.specs.Reach.{GoesAhead}
use Rattle.jc_parse_nodes.specs.declared.pieces.Body.{Body}
use Rattle.jc_parse_heads.specs.UnitCode.{body_made, declaration_rest_run, declared_top_run}
use Rattle.jc_parse_nodes.specs.Nodes.{declaration_of}
use Rattle.jc_parse_heads.proofs.Joinings.{or_this, or_that, second_made}
use Rattle.jc_parse_unit.proofs.Moded.{declared_same}

abbrev pub top_node : (List Modifier × Body) → TopLevel
top_node p = top_level_of.Declaration (declaration_of p.0 p.1)

pub declared_is : (ts : List Token) → declared_top_run ts ≡ as_new top_node (in_turn (modifiers_run exprs 198) (declaration_rest_run 198)) ts
unfolding declared_top_run declaration_rest_run
declared_is ts = second_made declared_made body_made top_node (λ (a : List Modifier) (b : DeclarationRest). ap (λ d. top_level_of.Declaration d) (declared_same a b)) (modifiers_run exprs 198) (rest_run exprs 198 (levels exprs 198)) ts

abbrev Semicolon : List ℕ
Semicolon = sign_code sign_of.Semicolon ∷ []

pub top_semicolon : (ts : List Token) → one_of Semicolon ts ≡ true → top_run exprs 199 ts ≡ as_new top_level_of.Semicolon (at_kind (sign_code sign_of.Semicolon)) ts
unfolding top_run
top_semicolon ts e = or_this Semicolon (as_new top_level_of.Semicolon (at_kind (sign_code sign_of.Semicolon))) (as_new declared_made (in_turn (modifiers_run exprs 198) (rest_run exprs 198 (levels exprs 198)))) ts e

pub top_declared : (ts : List Token) → one_of Semicolon ts ≡ false → top_run exprs 199 ts ≡ declared_top_run ts
unfolding top_run declared_top_run
top_declared ts e = or_that Semicolon (as_new top_level_of.Semicolon (at_kind (sign_code sign_of.Semicolon))) (as_new declared_made (in_turn (modifiers_run exprs 198) (rest_run exprs 198 (levels exprs 198)))) ts e

pub import_ahead : GoesAhead import_run
import_ahead = lawful_ahead Import (formed import_coded) import_laws refl
