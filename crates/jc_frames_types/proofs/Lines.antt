-- Lines of superclasses, as a loop walks up.
use Rattle.std.proofs.Common.{◌≡◌, ◌<◌, ◌≤◌, ◌-◌, ◌+◌, ℕ, zero, suc, true, false, List, refl, arith}
use Rattle.std.specs.Str.{bytes_eq}
use Rattle.std.specs.declared.option.Option.TheVariants.{Some, None}
use Rattle.jc_class_out.specs.declared.model.ClassModel.{ClassModel}
use Rattle.jc_frames_types.specs.Names.{superclass_named, is_in_line}

-- the name itself is in its line
pub line_here : (classes : List ClassModel) (n : ℕ) (to name : List ℕ) → bytes_eq name to ≡ true → is_in_line classes n to name ≡ true
unfolding is_in_line
line_here classes zero to name same = same
line_here classes (suc n) to name same = rw same refl

-- or the line goes on with the superclass
pub line_above : (classes : List ClassModel) (n i : ℕ) (to name above : List ℕ) → i < n → bytes_eq name to ≡ false → superclass_named classes name ≡ Some above →
    is_in_line classes (n - (i + 1)) to above ≡ is_in_line classes (n - i) to name
unfolding is_in_line
line_above classes n i to name above less other is =
    let k : n - i ≡ suc (n - (i + 1)) = omega arith in
    rw (k, other, is) refl

-- or it ends
pub line_over : (classes : List ClassModel) (n i : ℕ) (to name : List ℕ) → i < n → bytes_eq name to ≡ false → superclass_named classes name ≡ None → is_in_line classes (n - i) to name ≡ false
unfolding is_in_line
line_over classes n i to name less other is =
    let k : n - i ≡ suc (n - (i + 1)) = omega arith in
    rw (k, other, is) refl

-- behind so many steps only the name itself counts
pub line_last : (classes : List ClassModel) (n i : ℕ) (to name : List ℕ) → n ≤ i → is_in_line classes (n - i) to name ≡ bytes_eq name to
unfolding is_in_line
line_last classes n i to name past = let k : n - i ≡ 0 = omega arith in rw k refl

pub ruleset line_rules = (line_here, line_above, line_over, line_last)
