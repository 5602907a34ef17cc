-- What is read of heads of catches, `try` and `for` has its reach not behind what is left.
use Rattle.std.proofs.Common.{ℕ, [], ◌∷◌, arith}
use Rattle.jc_parse_expr.proofs.PrimeNears.{near_class}
use Rattle.jc_parse_parts.proofs.PartInsides.{type_inside}
use Rattle.jc_lexer.specs.declared.token.Key.TheVariants as key_of
use Rattle.jc_lexer.specs.declared.token.Sign.TheVariants as sign_of
use Rattle.jc_reading.specs.Kinds.{sign_code, key_code}
use Rattle.jc_reading.specs.Reading.{in_turn, of_kind, at_kind, an_ident_at, each_behind}
use Rattle.jc_parse_type.specs.TypeReading.{class_run, type_run}
use Rattle.jc_part_laws.specs.PartReading.{closing_run, modifiers_run, which}
use Rattle.jc_expr_laws.specs.ExprReading.{exprs}
use Rattle.jc_unit_laws.specs.UnitReading.{resource_made, resource_run, resources_made, resources_run}
use Rattle.jc_reading.specs.Reach.{Near}
use Rattle.jc_reading.proofs.Nears.{near_as, near_each, near_either, near_picking, near_room, near_turn}
use Rattle.jc_parse_heads.specs.UnitCode.{catch_opening, catch_opening_run, roomy_resources_run}
use Rattle.jc_parse_heads.specs.HeadCode.{one_resource_run}
use Rattle.jc_parse_heads.proofs.Aheads.{expr_inside, modifiers_inside}

pub catch_inside : (h : ℕ) → Near (catch_opening_run h)
unfolding catch_opening_run
catch_inside h =
    near_as catch_opening _
    (near_turn (at_kind (key_code key_of.Catch)) _ (near_picking _) (near_turn (of_kind (sign_code sign_of.LeftParen)) _ (near_picking _) (near_turn (modifiers_run exprs h) _ (modifiers_inside h) (near_turn (class_run h) _ (near_class h)
    (near_turn (each_behind sign_of.Or (class_run h)) _ (near_each sign_of.Or (class_run h) (near_class h)) (near_turn an_ident_at (of_kind (sign_code sign_of.RightParen)) (near_picking _) (near_picking _)))))))

pub resource_inside : (h : ℕ) → Near (one_resource_run h)
unfolding resource_run
resource_inside h =
    near_as resource_made _
    (near_turn (modifiers_run exprs h) _ (modifiers_inside h) (near_turn (type_run h) _ (type_inside h) (near_turn an_ident_at _ (near_picking _) (near_turn (of_kind (sign_code sign_of.Assign)) (exprs.expr h) (near_picking _) (expr_inside h)))))

closing_inside : Near (closing_run sign_of.Semicolon sign_of.RightParen)
closing_inside =
    near_as which _ (near_either (sign_code sign_of.Semicolon ∷ []) (in_turn (of_kind (sign_code sign_of.Semicolon)) (of_kind (sign_code sign_of.RightParen))) (of_kind (sign_code sign_of.RightParen))
    (near_turn (of_kind (sign_code sign_of.Semicolon)) (of_kind (sign_code sign_of.RightParen)) (near_picking _) (near_picking _)) (near_picking _))

pub resources_inside : (h : ℕ) → Near (roomy_resources_run h)
unfolding roomy_resources_run resources_run
resources_inside h =
    near_room h _
    (near_as resources_made _ (near_turn (of_kind (sign_code sign_of.LeftParen)) _ (near_picking _) (near_turn (one_resource_run h) _ (resource_inside h)
    (near_turn (each_behind sign_of.Semicolon (one_resource_run h)) (closing_run sign_of.Semicolon sign_of.RightParen) (near_each sign_of.Semicolon (one_resource_run h) (resource_inside h)) closing_inside))))
