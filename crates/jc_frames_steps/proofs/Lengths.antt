-- Lengths of arrays, as a loop takes them.
use Rattle.std.proofs.Common.{◌≡◌, ◌+◌, ◌-◌, ◌<◌, ◌≤◌, ℕ, suc, List, refl, arith}
use Rattle.std.specs.declared.option.Option.TheVariants.{Some, None}
use Rattle.jc_class_out.specs.declared.model.ClassModel.{ClassModel}
use Rattle.jc_frames_types.specs.States.{TypeState, taken}
use Rattle.jc_frames_types.specs.declared.wanted.Wanted.TheVariants.{Whole}
use Rattle.jc_frames_steps.specs.Rules.{lengths_taken}

pub lengths_more : (classes : List ClassModel) (n i : ℕ) (s t : TypeState) → i < n → taken classes Whole s ≡ Some t → lengths_taken classes (n - (i + 1)) t ≡ lengths_taken classes (n - i) s
unfolding lengths_taken
lengths_more classes n i s t less one =
    let k : n - i ≡ suc (n - (i + 1)) = omega arith in
    rw (k, one) refl

pub lengths_not : (classes : List ClassModel) (n i : ℕ) (s : TypeState) → i < n → taken classes Whole s ≡ None → lengths_taken classes (n - i) s ≡ None
unfolding lengths_taken
lengths_not classes n i s less one =
    let k : n - i ≡ suc (n - (i + 1)) = omega arith in
    rw (k, one) refl

pub lengths_all : (classes : List ClassModel) (n i : ℕ) (s : TypeState) → n ≤ i → lengths_taken classes (n - i) s ≡ Some s
unfolding lengths_taken
lengths_all classes n i s past = let k : n - i ≡ 0 = omega arith in rw k refl

pub ruleset length_rules = (lengths_more, lengths_not, lengths_all)
