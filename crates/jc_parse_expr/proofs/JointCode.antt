-- What parts of primaries read one behind the other.
use Rattle.std.proofs.Common.{◌≡◌, ℕ, min, Bool, List, [], ap, ◌∙◌}
use Rattle.jc_lexer.specs.declared.token.Sign.TheVariants as sign_of
use Rattle.jc_lexer.specs.declared.token.Token.{Token}
use Rattle.jc_tree.specs.declared.name.Ident.{Ident}
use Rattle.jc_tree.specs.declared.types.BaseTree.{BaseTree}
use Rattle.jc_tree.specs.declared.types.ClassTree.{ClassTree}
use Rattle.jc_tree.specs.declared.types.TypeArg.{TypeArg}
use Rattle.jc_tree.specs.declared.expression.Creation.TheVariants as creation_of
use Rattle.jc_tree.specs.declared.expression.Expr.{Expr}
use Rattle.jc_tree.specs.declared.expression.Expr.TheVariants as expr_of
use Rattle.jc_tree.specs.declared.expression.Skip.{Skip}
use Rattle.jc_reading.specs.Kinds.{sign_code}
use Rattle.jc_reading.specs.Reading.{Read, Found, Stopped, noting, becoming, perhaps_from, perhaps, as_new, in_turn, of_kind, before_it, any_number, an_ident_at}
use Rattle.jc_parse_type.specs.TypeReading.{dims_run}
use Rattle.jc_expr_laws.specs.PrimeReading.{actuals_run, body_run, named_run, object_run}
use Rattle.jc_parse_expr.specs.PrimeCode.{called_tree, expr_in, length_run, named_made, named_tree, object_made, sized_made, sized_run}
use Rattle.jc_parse_expr.specs.declared.parts.MemberTree.TheVariants as member_of
use Rattle.jc_parse_expr.proofs.CreationSteps.{sized_found}
use Rattle.jc_parse_expr.proofs.ListSteps.{lengths_as}
use Rattle.jc_parse_expr.proofs.MeasuredSteps.{then_made}

pub sized_reads : (element : BaseTree) (h : ℕ) (ts q r s : List Token) (e : Expr) (more : List Expr) (d l k j : ℕ) → as_new before_it (in_turn (expr_in h) (of_kind (sign_code sign_of.RightBracket))) ts ≡ Found e q l → any_number (length_run (expr_in h)) q ≡ Found more r k
    → dims_run r ≡ Found d s j → as_new (sized_made element) (sized_run (expr_in h)) ts ≡ Found (creation_of.Sized element e more d) s (min l (min k j))
sized_reads element h ts q r s e more d l k j f g i = sized_found element (expr_in h) ts q r s e more d l k j f (lengths_as (expr_in h) q ∙ g) i

pub object_reads : (class : ClassTree) (diamond : Bool) (h : ℕ) (ts q r : List Token) (list : List Expr) (body : List Skip) (l k : ℕ) → actuals_run (expr_in h) ts ≡ Found list q l → body_run h q ≡ Found body r k
    → as_new (object_made class diamond) (object_run h (expr_in h)) ts ≡ Found (creation_of.Object class diamond list body) r (min l k)
object_reads class diamond h ts q r list body l k e f =
    then_made (object_made class diamond) (actuals_run (expr_in h)) (body_run h) ts q list l e ∙ ap (λ (v : Read (List Skip)). noting l (becoming (λ b. object_made class diamond (list, b)) v)) f

pub called_reads : (args : List TypeArg) (h : ℕ) (ts q r : List Token) (name : Ident) (list : List Expr) (l k : ℕ) → an_ident_at ts ≡ Found name q l → actuals_run (expr_in h) q ≡ Found list r k
    → as_new (called_tree args) (in_turn an_ident_at (actuals_run (expr_in h))) ts ≡ Found (member_of.Call args name list) r (min l k)
called_reads args h ts q r name list l k e f =
    then_made (called_tree args) an_ident_at (actuals_run (expr_in h)) ts q name l e ∙ ap (λ (v : Read (List Expr)). noting l (becoming (λ b. called_tree args (name, b)) v)) f

pub called_stops : (args : List TypeArg) (h : ℕ) (ts q : List Token) (name : Ident) (l k : ℕ) → an_ident_at ts ≡ Found name q l → actuals_run (expr_in h) q ≡ Stopped k
    → as_new (called_tree args) (in_turn an_ident_at (actuals_run (expr_in h))) ts ≡ Stopped (min l k)
called_stops args h ts q name l k e f =
    then_made (called_tree args) an_ident_at (actuals_run (expr_in h)) ts q name l e ∙ ap (λ (v : Read (List Expr)). noting l (becoming (λ b. called_tree args (name, b)) v)) f

pub named_reads : (h : ℕ) (ts q r : List Token) (name : Ident) (list : List Expr) (l k : ℕ) → an_ident_at ts ≡ Found name q l → actuals_run (expr_in h) q ≡ Found list r k → as_new named_tree (named_run (expr_in h)) ts ≡ Found (member_of.Call [] name list) r (min l k)
named_reads h ts q r name list l k e f =
    then_made named_tree an_ident_at (perhaps (actuals_run (expr_in h))) ts q name l e ∙ ap (λ (v : Read (List Expr)). noting l (becoming (λ b. named_tree (name, b)) (perhaps_from q v))) f

pub named_alone : (h : ℕ) (ts q : List Token) (name : Ident) (l k : ℕ) → an_ident_at ts ≡ Found name q l → actuals_run (expr_in h) q ≡ Stopped k → as_new named_tree (named_run (expr_in h)) ts ≡ Found (member_of.Field name) q (min l k)
named_alone h ts q name l k e f =
    then_made named_tree an_ident_at (perhaps (actuals_run (expr_in h))) ts q name l e ∙ ap (λ (v : Read (List Expr)). noting l (becoming (λ b. named_tree (name, b)) (perhaps_from q v))) f

pub started_reads : (h : ℕ) (ts q r : List Token) (name : Ident) (list : List Expr) (l k : ℕ) → an_ident_at ts ≡ Found name q l → actuals_run (expr_in h) q ≡ Found list r k → as_new named_made (named_run (expr_in h)) ts ≡ Found (expr_of.Invoke name list) r (min l k)
started_reads h ts q r name list l k e f =
    then_made named_made an_ident_at (perhaps (actuals_run (expr_in h))) ts q name l e ∙ ap (λ (v : Read (List Expr)). noting l (becoming (λ b. named_made (name, b)) (perhaps_from q v))) f

pub started_alone : (h : ℕ) (ts q : List Token) (name : Ident) (l k : ℕ) → an_ident_at ts ≡ Found name q l → actuals_run (expr_in h) q ≡ Stopped k → as_new named_made (named_run (expr_in h)) ts ≡ Found (expr_of.Name name) q (min l k)
started_alone h ts q name l k e f =
    then_made named_made an_ident_at (perhaps (actuals_run (expr_in h))) ts q name l e ∙ ap (λ (v : Read (List Expr)). noting l (becoming (λ b. named_made (name, b)) (perhaps_from q v))) f
