-- What parts of creations read one behind the other.
use Rattle.std.proofs.Common.{◌≡◌, ℕ, min, Bool, List, ap, ◌∙◌}
use Rattle.jc_lexer.specs.declared.token.Token.{Token}
use Rattle.jc_tree.specs.declared.types.BaseTree.{BaseTree}
use Rattle.jc_tree.specs.declared.types.ClassTree.{ClassTree}
use Rattle.jc_tree.specs.declared.expression.ArrayInit.{ArrayInit}
use Rattle.jc_tree.specs.declared.expression.Creation.TheVariants as creation_of
use Rattle.jc_tree.specs.declared.expression.Expr.{Expr}
use Rattle.jc_reading.specs.Reading.{Read, Found, Stopped, noting, becoming, joined, ◌>>=◌, as_new, in_turn}
use Rattle.jc_parse_type.specs.TypeReading.{dims_run}
use Rattle.jc_expr_laws.specs.PrimeReading.{actuals_run, body_run, object_run}
use Rattle.jc_parse_expr.specs.PrimeCode.{array_in, expr_in, initial_made, object_made}
use Rattle.jc_parse_expr.proofs.MeasuredSteps.{then_made}

pub initial_reads : (element : BaseTree) (h : ℕ) (ts q r : List Token) (d : ℕ) (array : ArrayInit) (l k : ℕ) → dims_run ts ≡ Found d q l → array_in h q ≡ Found array r k → as_new (initial_made element) (in_turn dims_run (array_in h)) ts ≡ Found (creation_of.Initialised element d array) r (min l k)
initial_reads element h ts q r d array l k e f = then_made (initial_made element) dims_run (array_in h) ts q d l e ∙ ap (λ (v : Read ArrayInit). noting l (becoming (λ b. initial_made element (d, b)) v)) f

pub initial_stops : (element : BaseTree) (h : ℕ) (ts q : List Token) (d l k : ℕ) → dims_run ts ≡ Found d q l → array_in h q ≡ Stopped k → as_new (initial_made element) (in_turn dims_run (array_in h)) ts ≡ Stopped (min l k)
initial_stops element h ts q d l k e f = then_made (initial_made element) dims_run (array_in h) ts q d l e ∙ ap (λ (v : Read ArrayInit). noting l (becoming (λ b. initial_made element (d, b)) v)) f

pub object_stops : (class : ClassTree) (diamond : Bool) (h : ℕ) (ts : List Token) (l : ℕ) → actuals_run (expr_in h) ts ≡ Stopped l → as_new (object_made class diamond) (object_run h (expr_in h)) ts ≡ Stopped l
object_stops class diamond h ts l e = ap (λ (v : Read (List Expr)). becoming (object_made class diamond) (v >>= (λ a q. becoming (joined a) (body_run h q)))) e
