-- Elements of arrays: one step up to a bound, and one dimension down.
use Rattle.std.proofs.Common.{◌≡◌, ℕ, zero, suc, ◌<◌, ◌-◌, ◌+◌, Option, Some, None, arith, sym, ap, ◌∙◌}
use Rattle.std.specs.Prelude.{option_and_then, List}
use Rattle.jc_types.specs.declared.environment.Bounds.{Bounds}
use Rattle.jc_types.specs.declared.form.Ty.{Ty}
use Rattle.jc_types.specs.declared.table.Table.{Table}
use Rattle.jc_judge.specs.Views.{or_else, first_of}
use Rattle.jc_constraints.specs.Constraints.{bounds, down, reference_element, up_element_within}

pub element_here : (T : Table) (env : List Bounds) (n : ℕ) (t e : Ty) → 0 < n → reference_element t ≡ Some e → up_element_within T env n t ≡ Some e
element_here T env zero t e lt h = absurd (omega arith)
element_here T env (suc n) t e lt h = ap (λ (o : Option Ty). or_else o (first_of (up_element_within T env n) (bounds T env t))) h

pub element_up : (T : Table) (env : List Bounds) (n : ℕ) (t : Ty) → 0 < n → reference_element t ≡ None → up_element_within T env n t ≡ first_of (up_element_within T env (n - 1)) (bounds T env t)
element_up T env zero t lt h = absurd (omega arith)
element_up T env (suc n) t lt h =
    let less : suc n - 1 ≡ n = omega arith in
    ap (λ (o : Option Ty). or_else o (first_of (up_element_within T env n) (bounds T env t))) h ∙ ap (λ (m : ℕ). first_of (up_element_within T env m) (bounds T env t)) (sym less)

-- one dimension of those that are left
pub down_more : (e : Ty → Option Ty) (further i : ℕ) (o : Option Ty) → i < further → down e (further - i) o ≡ down e (further - (i + 1)) (option_and_then e o)
down_more e further i o lt = let less : further - i ≡ suc (further - (i + 1)) = omega arith in ap (λ (n : ℕ). down e n o) less
