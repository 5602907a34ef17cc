-- What is left behind what was read is no longer than what stood there.
use Rattle.std.proofs.Common.{◌≡◌, ℕ, ◌≤◌, List, length}
use Rattle.jc_lexer.specs.declared.token.Sign.TheVariants as sign_of
use Rattle.jc_lexer.specs.declared.token.Token.{Token}
use Rattle.jc_tree.specs.declared.types.ClassTree.{ClassTree}
use Rattle.jc_tree.specs.declared.types.TypeArg.{TypeArg}
use Rattle.jc_tree.specs.declared.expression.Expr.{Expr}
use Rattle.jc_tree.specs.declared.expression.Init.{Init}
use Rattle.jc_reading.specs.Kinds.{sign_code}
use Rattle.jc_reading.specs.Reading.{Found, as_new, in_turn, of_kind, before_it, an_ident_at}
use Rattle.jc_reading.proofs.Nears.{near_as, near_ident, near_kind, near_turn}
use Rattle.jc_parse_type.specs.TypeReading.{class_run, dims_run}
use Rattle.jc_part_laws.specs.PartReading.{more_names_run}
use Rattle.jc_parse_expr.specs.SpecialCode.{forgetting}
use Rattle.jc_expr_laws.specs.PrimeReading.{some_args_run}
use Rattle.jc_expr_laws.specs.StartReading.{plain_run, special_run}
use Rattle.jc_parse_expr.specs.PrimeCode.{array_in, expr_in, init_in, some_args_list}
use Rattle.jc_parse_expr.proofs.LevelNears.{near_expr, near_array_of}
use Rattle.jc_parse_expr.proofs.ListSteps.{near_init_in}
use Rattle.jc_parse_expr.proofs.MeasuredSteps.{rest_of_near}
use Rattle.jc_parse_expr.proofs.PrimeNears.{near_args, near_bracketed, near_class, near_dims, near_names, near_plain, near_special}

pub rest_expr : (h : ℕ) (ts r : List Token) (e : Expr) (l : ℕ) → expr_in h ts ≡ Found e r l → length r ≤ length ts
rest_expr h ts r e l f = rest_of_near (expr_in h) ts e r l (near_expr h) f

pub rest_init : (h : ℕ) (ts r : List Token) (e : Init) (l : ℕ) → init_in h ts ≡ Found e r l → length r ≤ length ts
rest_init h ts r e l f = rest_of_near (init_in h) ts e r l (near_init_in h) f

pub rest_index : (h : ℕ) (ts r : List Token) (e : Expr) (l : ℕ) → as_new before_it (in_turn (expr_in h) (of_kind (sign_code sign_of.RightBracket))) ts ≡ Found e r l → length r ≤ length ts
rest_index h ts r e l f =
    rest_of_near (as_new before_it (in_turn (expr_in h) (of_kind (sign_code sign_of.RightBracket)))) ts e r l
    (near_as before_it (in_turn (expr_in h) (of_kind (sign_code sign_of.RightBracket))) (near_bracketed h (expr_in h) (array_in h) (near_expr h) (near_array_of h))) f

pub rest_dims : (ts r : List Token) (n l : ℕ) → dims_run ts ≡ Found n r l → length r ≤ length ts
rest_dims ts r n l f = rest_of_near dims_run ts n r l near_dims f

pub rest_class : (h : ℕ) (ts r : List Token) (class : ClassTree) (l : ℕ) → class_run h ts ≡ Found class r l → length r ≤ length ts
rest_class h ts r class l f = rest_of_near (class_run h) ts class r l (near_class h) f

pub rest_args : (h : ℕ) (ts r : List Token) (args : List TypeArg) (l : ℕ) → as_new some_args_list (some_args_run h) ts ≡ Found args r l → length r ≤ length ts
rest_args h ts r args l f =
    rest_of_near (as_new some_args_list (some_args_run h)) ts args r l
    (near_as some_args_list (some_args_run h) (near_turn (of_kind (sign_code sign_of.Less)) _ (near_kind (sign_code sign_of.Less)) (near_turn _ (of_kind (sign_code sign_of.Greater)) (near_args h) (near_kind (sign_code sign_of.Greater))))) f

pub rest_plain : (h : ℕ) (ts r : List Token) (e : Expr) (l : ℕ) → plain_run h (expr_in h) (array_in h) ts ≡ Found e r l → length r ≤ length ts
rest_plain h ts r e l f = rest_of_near (plain_run h (expr_in h) (array_in h)) ts e r l (near_plain h (expr_in h) (array_in h) (near_expr h) (near_array_of h)) f

pub rest_special : (h : ℕ) (ts r : List Token) (e : Expr) (l : ℕ) → special_run h ts ≡ Found e r l → length r ≤ length ts
rest_special h ts r e l f = rest_of_near (special_run h) ts e r l (near_special h) f

pub rest_name : (ts r : List Token) (l : ℕ) → as_new forgetting an_ident_at ts ≡ Found tt r l → length r ≤ length ts
rest_name ts r l f = rest_of_near (as_new forgetting an_ident_at) ts tt r l (near_as forgetting an_ident_at near_ident) f

pub rest_names : (ts r : List Token) (l : ℕ) → as_new forgetting more_names_run ts ≡ Found tt r l → length r ≤ length ts
rest_names ts r l f = rest_of_near (as_new forgetting more_names_run) ts tt r l (near_as forgetting more_names_run near_names) f
