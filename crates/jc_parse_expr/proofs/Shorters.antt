-- Readers that take a token at least.
use Rattle.std.proofs.Common.{◌≡◌, ℕ, zero, suc, ◌+◌, ◌<◌, ◌≤◌, Bool, true, false, nat_le, List, [], ◌∷◌, length, arith}
use Rattle.jc_lexer.specs.declared.token.Sign.{Sign}
use Rattle.jc_lexer.specs.declared.token.Sign.TheVariants as sign_of
use Rattle.jc_lexer.specs.declared.token.Token.{Token}
use Rattle.jc_tree.specs.declared.name.Ident.{Ident}
use Rattle.jc_tree.specs.declared.expression.Expr.{Expr}
use Rattle.jc_tree.specs.Heights.{expr_height}
use Rattle.jc_grammar.specs.Shapes.{expr_shape}
use Rattle.jc_reading.specs.Kinds.{sign_code}
use Rattle.jc_reading.specs.Reading.{Read, Found, Stopped, Run, noting, becoming, as_new, in_turn, That, either, picking, picks, of_kind, an_ident_at, any_number, times, one_more, behind_it}
use Rattle.jc_reading.proofs.Steps.{Good}
use Rattle.jc_reading.proofs.Turns.{times_as}
use Rattle.jc_reading.specs.Reach.{Near, GoesAhead, Ahead}
use Rattle.jc_reading.proofs.Nears.{near_turn, near_any, near_kind, near_ident, ahead_as, ahead_behind, ahead_either, ahead_picking, ahead_room, ahead_turn}
use Rattle.jc_parse_type.specs.TypeReading.{bracket_run, dims_run}
use Rattle.jc_part_laws.specs.PartReading.{more_names_run}
use Rattle.jc_expr_laws.specs.PrimeReading.{picks_skipped, skip_part_made, skip_made, skip_run, indexed_run, dotted_run, selector_run, selectors_run}
use Rattle.jc_expr_laws.specs.PostReading.{picks_op, op_run, ops_run}
use Rattle.jc_parse_expr.specs.PrimeCode.{array_in, expr_in, init_in, length_of, length_run, selector_at, selector_tree, skip_item_run}
use Rattle.jc_parse_expr.proofs.PrimeNears.{near_bracketed, near_dotted_inside, near_init, near_skipped}
use Rattle.jc_parse_expr.proofs.LevelNears.{near_expr, near_array_of}

ahead_sign : {A : Type 0} (s : Sign) (m : Run A) → Near m → GoesAhead (in_turn (of_kind (sign_code s)) m)
ahead_sign s m w = ahead_turn (of_kind (sign_code s)) m (ahead_picking (picks (sign_code s))) w

-- how many there are at most

count_one : {A : Type 0} (ts : List Token) (r : Read A) (rest : List Token → Read (List A)) → Ahead ts r → ((q : List Token) → Good (λ list r. length list + length r ≤ length q) (rest q)) → Good (λ list r. length list + length r ≤ length ts) (one_more ts r rest)
count_one ts (Found a q l) rest g f = count_more (length ts) q l a (rest q) g.1 (f q)
  where
    count_more : {A : Type 0} (n : ℕ) (q : List Token) (l : ℕ) (a : A) (m : Read (List A)) → length q < n → Good (λ list r. length list + length r ≤ length q) m → Good (λ list r. length list + length r ≤ n) (noting l (becoming (λ more. a ∷ more) m))
    count_more n q l a (Found list r k) lt g = omega (arith, lt, g)
    count_more n q l a (Stopped k) lt g = tt
count_one ts (Stopped l) rest g f = omega arith

count : {A : Type 0} (n : ℕ) (m : Run A) (ts : List Token) → GoesAhead m → Good (λ list r. length list + length r ≤ length ts) (times n m ts)
unfolding times
count zero m ts w = omega arith
count (suc n) m ts w = count_one ts (m ts) (times n m) (w ts) (λ q. count n m q w)

bracket_ahead : GoesAhead bracket_run
bracket_ahead =
    ahead_turn (of_kind (sign_code sign_of.LeftBracket)) (of_kind (sign_code sign_of.RightBracket)) (ahead_picking (picks (sign_code sign_of.LeftBracket))) (near_kind (sign_code sign_of.RightBracket))

count_dims : (ts : List Token) (m : Read (List (Unit {0} × Unit {0}))) (n : ℕ) (r : List Token) (l : ℕ) → Good (λ list r. length list + length r ≤ length ts) m → becoming length m ≡ Found n r l → n ≤ length ts
count_dims ts (Found list q k) n r l g e = let x : length list ≡ n = cc in omega (arith, g, x)
count_dims ts (Stopped k) n r l g e = cc

pub dims_count : (ts r : List Token) (n l : ℕ) → dims_run ts ≡ Found n r l → n ≤ length ts
unfolding dims_run
dims_count ts r n l e = count_dims ts (any_number bracket_run ts) n r l (count (length ts) bracket_run ts bracket_ahead) e

-- lists

pub comma_exprs : (h : ℕ) → GoesAhead (as_new behind_it (in_turn (of_kind (sign_code sign_of.Comma)) (expr_in h)))
comma_exprs h = ahead_behind behind_it (sign_code sign_of.Comma) (expr_in h) (near_expr h)

pub comma_inits : (h : ℕ) → GoesAhead (as_new behind_it (in_turn (of_kind (sign_code sign_of.Comma)) (init_in h)))
comma_inits h = ahead_behind behind_it (sign_code sign_of.Comma) (init_in h) (near_init (expr_in h) (array_in h) (near_expr h) (near_array_of h))

pub length_steps : (h : ℕ) → GoesAhead (length_run (expr_in h))
length_steps h = ahead_behind length_of (sign_code sign_of.LeftBracket) _ (near_bracketed h (expr_in h) (array_in h) (near_expr h) (near_array_of h))

-- names, and what is skipped

abbrev pub dot_name_run : Run Ident
dot_name_run = as_new behind_it (in_turn (of_kind (sign_code sign_of.Dot)) an_ident_at)

pub dot_names : GoesAhead dot_name_run
dot_names = ahead_behind behind_it (sign_code sign_of.Dot) an_ident_at near_ident

pub names_as : (ts : List Token) → more_names_run ts ≡ any_number dot_name_run ts
unfolding more_names_run
names_as ts = times_as behind_it (length ts) (in_turn (of_kind (sign_code sign_of.Dot)) an_ident_at) ts

skip_ahead : (h : ℕ) → GoesAhead (skip_run h)
unfolding skip_run
skip_ahead zero ts = omega arith
skip_ahead (suc h) ts =
    ahead_behind skip_made (sign_code sign_of.LeftBrace) (in_turn (any_number (skip_item_run h)) (of_kind (sign_code sign_of.RightBrace)))
    (near_turn (any_number (skip_item_run h)) (of_kind (sign_code sign_of.RightBrace)) (near_any (skip_item_run h) (near_skipped h)) (near_kind (sign_code sign_of.RightBrace))) ts

pub skip_steps : (h : ℕ) → GoesAhead (skip_item_run h)
skip_steps h = ahead_as skip_part_made (either (sign_code sign_of.LeftBrace ∷ []) (skip_run h) (picking picks_skipped)) (ahead_either (sign_code sign_of.LeftBrace ∷ []) (skip_run h) (picking picks_skipped) (skip_ahead h) (ahead_picking picks_skipped))

-- selectors and postfix operators

selector_ahead : (h : ℕ) (room sized : Bool) → GoesAhead (selector_run h (expr_in h) (array_in h) room sized)
selector_ahead h true false =
    ahead_either (sign_code sign_of.LeftBracket ∷ []) (indexed_run h (expr_in h)) (dotted_run h (expr_in h) (array_in h)) (ahead_room h _ (ahead_sign sign_of.LeftBracket _ (near_bracketed h (expr_in h) (array_in h) (near_expr h) (near_array_of h))))
    (ahead_sign sign_of.Dot _ (near_dotted_inside h (expr_in h) (array_in h) (near_expr h) (near_array_of h)))
selector_ahead h true true = ahead_as That (dotted_run h (expr_in h) (array_in h)) (ahead_sign sign_of.Dot _ (near_dotted_inside h (expr_in h) (array_in h) (near_expr h) (near_array_of h)))
selector_ahead h false sized = λ ts. omega arith

pub selector_advances : (h : ℕ) (v : Expr) → GoesAhead (selector_at h v)
selector_advances h v = ahead_as selector_tree (selectors_run h (expr_in h) (array_in h) v) (selector_ahead h (nat_le (expr_height v) h) (expr_shape v).sized)

op_ahead : (room : Bool) → GoesAhead (op_run room)
op_ahead true = ahead_picking picks_op
op_ahead false = λ ts. omega arith

pub op_advances : (h : ℕ) (v : Expr) → GoesAhead (ops_run h v)
op_advances h v = op_ahead (nat_le (expr_height v) h)
