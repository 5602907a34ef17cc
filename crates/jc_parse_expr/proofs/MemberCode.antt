-- What parts of members read one behind the other.
use Rattle.std.proofs.Common.{◌≡◌, ℕ, min, List, length, ap, ◌∙◌}
use Rattle.jc_lexer.specs.declared.token.Sign.TheVariants as sign_of
use Rattle.jc_lexer.specs.declared.token.Token.{Token}
use Rattle.jc_tree.specs.declared.name.Ident.{Ident}
use Rattle.jc_tree.specs.declared.types.TypeArg.{TypeArg}
use Rattle.jc_reading.specs.Kinds.{sign_code}
use Rattle.jc_reading.specs.Reading.{Read, Found, Stopped, found, noting, becoming, joined, ◌>>=◌, perhaps, as_new, in_turn, of_kind, before_it, commas_run, an_ident_at}
use Rattle.jc_parse_type.specs.TypeReading.{arg_run, type_run}
use Rattle.jc_expr_laws.specs.PrimeReading.{actuals_run, named_run, some_args_run}
use Rattle.jc_parse_expr.specs.PrimeCode.{called_tree, expr_in, named_made, named_tree, some_args_list}
use Rattle.jc_parse_expr.proofs.MemberSteps.{args_inside}

inside_by : (h : ℕ) (ts q : List Token) → of_kind (sign_code sign_of.Less) ts ≡ found tt q → (v : Read (List TypeArg)) → commas_run (arg_run h (type_run h)) q ≡ v
    → as_new some_args_list (some_args_run h) ts ≡ becoming before_it (v >>= (λ a r. becoming (joined a) (of_kind (sign_code sign_of.Greater) r)))
inside_by h ts q e v f = args_inside h ts q e ∙ ap (λ (v : Read (List TypeArg)). becoming before_it (v >>= (λ a r. becoming (joined a) (of_kind (sign_code sign_of.Greater) r)))) f

pub args_closed : (h : ℕ) (ts q r s : List Token) (list : List TypeArg) (l : ℕ) → of_kind (sign_code sign_of.Less) ts ≡ found tt q → commas_run (arg_run h (type_run h)) q ≡ Found list r l → of_kind (sign_code sign_of.Greater) r ≡ found tt s
    → as_new some_args_list (some_args_run h) ts ≡ Found list s (min l (length s))
args_closed h ts q r s list l e f g = inside_by h ts q e (Found list r l) f ∙ ap (λ (v : Read (Unit {0})). becoming before_it (noting l (becoming (joined list) v))) g

pub args_unclosed : (h : ℕ) (ts q r : List Token) (list : List TypeArg) (l : ℕ) → of_kind (sign_code sign_of.Less) ts ≡ found tt q → commas_run (arg_run h (type_run h)) q ≡ Found list r l → of_kind (sign_code sign_of.Greater) r ≡ Stopped (length r)
    → as_new some_args_list (some_args_run h) ts ≡ Stopped (min l (length r))
args_unclosed h ts q r list l e f g = inside_by h ts q e (Found list r l) f ∙ ap (λ (v : Read (Unit {0})). becoming before_it (noting l (becoming (joined list) v))) g

pub args_stop : (h : ℕ) (ts q : List Token) (l : ℕ) → of_kind (sign_code sign_of.Less) ts ≡ found tt q → commas_run (arg_run h (type_run h)) q ≡ Stopped l → as_new some_args_list (some_args_run h) ts ≡ Stopped l
args_stop h ts q l e f = inside_by h ts q e (Stopped l) f

pub called_first : (args : List TypeArg) (h : ℕ) (ts : List Token) (l : ℕ) → an_ident_at ts ≡ Stopped l → as_new (called_tree args) (in_turn an_ident_at (actuals_run (expr_in h))) ts ≡ Stopped l
called_first args h ts l e = ap (λ (v : Read Ident). becoming (called_tree args) (v >>= (λ a q. becoming (joined a) (actuals_run (expr_in h) q)))) e

pub named_first : (h : ℕ) (ts : List Token) (l : ℕ) → an_ident_at ts ≡ Stopped l → as_new named_tree (named_run (expr_in h)) ts ≡ Stopped l
named_first h ts l e = ap (λ (v : Read Ident). becoming named_tree (v >>= (λ a q. becoming (joined a) (perhaps (actuals_run (expr_in h)) q)))) e

pub started_first : (h : ℕ) (ts : List Token) (l : ℕ) → an_ident_at ts ≡ Stopped l → as_new named_made (named_run (expr_in h)) ts ≡ Stopped l
started_first h ts l e = ap (λ (v : Read Ident). becoming named_made (v >>= (λ a q. becoming (joined a) (perhaps (actuals_run (expr_in h)) q)))) e
