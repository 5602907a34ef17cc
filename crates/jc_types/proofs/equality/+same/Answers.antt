use Rattle.std.proofs.Common.{arith, rules, refl, sym, ◌∙◌, ◌≡◌}
use Rattle.jc_types.proofs.Pointwise.{ext_slice_get}
use Rattle.jc_types.proofs.Pointwise.{class_same}
use Rattle.jc_types.proofs.equality.+same.Goals as goal

pub equal_types-returns-then-eq : goal.equal_types-returns-then-eq
equal_types-returns-then-eq t c =
    let id : c.in-Class-Class.id ≡ c.in-Class-Class.other = search rules in
    let same = class_same _ _ _ _ _ _ c.in-Class-Class.is-0 c.in-Class-Class.is-1 id in
    (λ h. same.0 (sym c.slice.ensures ∙ c.equal_arg_lists.ensures.0 h ∙ c.slice-then-eq.ensures), λ e. c.equal_arg_lists.ensures.1 (c.slice.ensures ∙ same.1 e ∙ sym c.slice-then-eq.ensures))

pub equal_arg_lists-returns : goal.equal_arg_lists-returns
equal_arg_lists-returns t c = (λ _. ext_slice_get _ _ c.loop-i.invariant.0 (λ k lt. c.loop-i.invariant.1 k (omega arith)), λ _. refl)

pub equal_lists-returns : goal.equal_lists-returns
equal_lists-returns t c = (λ _. ext_slice_get _ _ c.loop-i.invariant.0 (λ k lt. c.loop-i.invariant.1 k (omega arith)), λ _. refl)
