-- The readers of parts take no less than they should, and their reach is not behind what is left.
use Rattle.std.proofs.Common.{ℕ, zero, suc, [], ◌∷◌, arith}
use Rattle.jc_lexer.specs.declared.token.Key.TheVariants as key_of
use Rattle.jc_lexer.specs.declared.token.Sign.TheVariants as sign_of
use Rattle.jc_tree.specs.declared.statement.AnnotationValue.{AnnotationValue}
use Rattle.jc_reading.specs.Kinds.{sign_code, key_code}
use Rattle.jc_reading.specs.Reading.{Run, in_turn, perhaps, any_number, each_behind, commas_run, of_kind, at_kind, an_ident_at, picking, picks_at}
use Rattle.jc_reading.specs.Further.{with_room}
use Rattle.jc_parse_type.specs.TypeReading.{class_run, dims_run, type_run}
use Rattle.jc_parse_type.proofs.CodeSteps.{within_type}
use Rattle.jc_part_laws.specs.PartReading.{more_names_run, bounds_made, bounds_run, param_made, param_run, which, closing_run, rows_tail_run, row_made, row_run, value_made, value_run, pair_made, pair_run, pairs_made, pairs_run, annotation_made, annotation_run, picks_modifier, modifier_made, modifier_run, formal_made, formal_run, var_made, var_run}
use Rattle.jc_expr_laws.specs.ExprReading.{exprs, readers}
use Rattle.jc_expr_laws.proofs.ExprWhole.{expr_laws}
use Rattle.jc_reading.specs.Reach.{GoesAhead, Near}
use Rattle.jc_reading.proofs.Nears.{ahead_as, ahead_either, ahead_picking, ahead_turn, near_as, near_commas, near_each, near_either, near_ident, near_kind, near_perhaps, near_picking, near_prefer, near_room, near_turn, near_any, ahead_near}
use Rattle.jc_parse_expr.proofs.PrimeNears.{near_class, near_dims, near_names}

pub type_inside : (h : ℕ) → Near (type_run h)
type_inside h ts = (within_type h ts)

-- type parameters

bounds_inside : (h : ℕ) → Near (bounds_run (class_run h))
unfolding bounds_run
bounds_inside h =
    near_as bounds_made _ (near_perhaps _ (near_turn (of_kind (key_code key_of.Extends)) _ (near_kind (key_code key_of.Extends)) (near_turn (class_run h) _ (near_class h) (near_each sign_of.And (class_run h) (near_class h)))))

pub param_inside : (h : ℕ) → Near (param_run (class_run h))
unfolding param_run
param_inside h = near_as param_made _ (near_turn an_ident_at _ near_ident (bounds_inside h))

-- annotations

conditional_inside : (h : ℕ) → Near (exprs.conditional h)
unfolding readers
conditional_inside zero ts = omega arith
conditional_inside (suc h) ts = (expr_laws.conditional h).within ts

init_inside : (h : ℕ) → Near (with_room h (exprs.init h))
unfolding with_room
init_inside zero ts = omega arith
init_inside (suc h) ts = (expr_laws.init h).within ts

closing_inside : Near (closing_run sign_of.Comma sign_of.RightBrace)
closing_inside =
    near_as which _ (near_either (sign_code sign_of.Comma ∷ []) (in_turn (of_kind (sign_code sign_of.Comma)) (of_kind (sign_code sign_of.RightBrace))) (of_kind (sign_code sign_of.RightBrace))
    (near_turn (of_kind (sign_code sign_of.Comma)) (of_kind (sign_code sign_of.RightBrace)) (near_kind (sign_code sign_of.Comma)) (near_kind (sign_code sign_of.RightBrace))) (near_kind (sign_code sign_of.RightBrace)))

row_inside : (run : Run AnnotationValue) → Near run → Near (row_run sign_of.Comma sign_of.RightBrace run)
row_inside run w =
    near_as row_made _ (near_either (sign_code sign_of.Comma ∷ sign_code sign_of.RightBrace ∷ []) (closing_run sign_of.Comma sign_of.RightBrace) (in_turn run (rows_tail_run sign_of.Comma sign_of.RightBrace run))
    closing_inside (near_turn run (rows_tail_run sign_of.Comma sign_of.RightBrace run) w (near_turn (each_behind sign_of.Comma run) (closing_run sign_of.Comma sign_of.RightBrace) (near_each sign_of.Comma run w) closing_inside)))

pub value_inside : (h : ℕ) → Near (value_run exprs h)
unfolding value_run
value_inside zero ts = omega arith
value_inside (suc h) ts =
    near_as value_made _ (near_either (sign_code sign_of.LeftBrace ∷ []) (in_turn (at_kind (sign_code sign_of.LeftBrace)) (row_run sign_of.Comma sign_of.RightBrace (value_run exprs h))) (exprs.conditional (suc h))
    (near_turn (at_kind (sign_code sign_of.LeftBrace)) (row_run sign_of.Comma sign_of.RightBrace (value_run exprs h)) (near_picking (picks_at (sign_code sign_of.LeftBrace))) (row_inside (value_run exprs h) (value_inside h))) (conditional_inside (suc h))) ts

pub pair_inside : (h : ℕ) → Near (pair_run exprs h)
unfolding pair_run
pair_inside h =
    near_room h _ (near_as (pair_made exprs) _ (near_prefer (in_turn an_ident_at (in_turn (of_kind (sign_code sign_of.Assign)) (value_run exprs h))) (value_run exprs h)
    (near_turn an_ident_at (in_turn (of_kind (sign_code sign_of.Assign)) (value_run exprs h)) near_ident (near_turn (of_kind (sign_code sign_of.Assign)) (value_run exprs h) (near_kind (sign_code sign_of.Assign)) (value_inside h))) (value_inside h)))

pairs_inside : (h : ℕ) → Near (pairs_run exprs h)
unfolding pairs_run
pairs_inside h =
    near_as (pairs_made exprs) _ (near_turn (of_kind (sign_code sign_of.LeftParen)) (in_turn (perhaps (commas_run (pair_run exprs h))) (of_kind (sign_code sign_of.RightParen))) (near_kind (sign_code sign_of.LeftParen))
    (near_turn (perhaps (commas_run (pair_run exprs h))) (of_kind (sign_code sign_of.RightParen)) (near_perhaps (commas_run (pair_run exprs h)) (near_commas (pair_run exprs h) (pair_inside h))) (near_kind (sign_code sign_of.RightParen))))

annotation_ahead : (h : ℕ) → GoesAhead (annotation_run exprs h)
unfolding annotation_run
annotation_ahead h =
    ahead_as (annotation_made exprs) _ (ahead_turn (at_kind (sign_code sign_of.At)) (in_turn an_ident_at (in_turn more_names_run (perhaps (pairs_run exprs h)))) (ahead_picking (picks_at (sign_code sign_of.At)))
    (near_turn an_ident_at (in_turn more_names_run (perhaps (pairs_run exprs h))) near_ident (near_turn more_names_run (perhaps (pairs_run exprs h)) near_names (near_perhaps (pairs_run exprs h) (pairs_inside h)))))

pub modifier_ahead : (h : ℕ) → GoesAhead (modifier_run exprs h)
unfolding modifier_run
modifier_ahead h = ahead_as modifier_made _ (ahead_either (sign_code sign_of.At ∷ []) (annotation_run exprs h) (picking picks_modifier) (annotation_ahead h) (ahead_picking picks_modifier))

-- formal parameters and variables

pub formal_inside : (h : ℕ) → Near (formal_run exprs h)
unfolding formal_run
formal_inside h =
    let ellipsis = perhaps (of_kind (sign_code sign_of.Ellipsis)) in
    near_room h _ (near_as formal_made _ (near_turn (any_number (modifier_run exprs h)) (in_turn (type_run h) (in_turn ellipsis (in_turn an_ident_at dims_run))) (near_any (modifier_run exprs h) (ahead_near (modifier_run exprs h) (modifier_ahead h)))
    (near_turn (type_run h) (in_turn ellipsis (in_turn an_ident_at dims_run)) (type_inside h) (near_turn ellipsis (in_turn an_ident_at dims_run) (near_perhaps (of_kind (sign_code sign_of.Ellipsis)) (near_kind (sign_code sign_of.Ellipsis)))
    (near_turn an_ident_at dims_run near_ident near_dims)))))

pub assigned_inside : (h : ℕ) → Near (with_room h (in_turn (of_kind (sign_code sign_of.Assign)) (exprs.init h)))
unfolding with_room
assigned_inside zero ts = omega arith
assigned_inside (suc h) ts = near_turn (of_kind (sign_code sign_of.Assign)) (exprs.init (suc h)) (near_kind (sign_code sign_of.Assign)) (init_inside (suc h)) ts

pub var_inside : (h : ℕ) → Near (var_run exprs h)
unfolding var_run
var_inside h =
    let given = perhaps (with_room h (in_turn (of_kind (sign_code sign_of.Assign)) (exprs.init h))) in
    near_as var_made _ (near_turn an_ident_at (in_turn dims_run given) near_ident (near_turn dims_run given near_dims (near_perhaps (with_room h (in_turn (of_kind (sign_code sign_of.Assign)) (exprs.init h))) (assigned_inside h))))
