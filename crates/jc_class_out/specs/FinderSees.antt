-- What the visitors of `fits` do with a constant.
use Rattle.std.specs.Prelude.{◌≡◌, ℕ, ◌+◌, ◌-◌, ◌^◌, min, Bool, ◌&&◌, ◌||◌, nat_lt, take, if◌then◌else◌}
use Rattle.jc_class_out.specs.declared.model.ClassModel.{ClassModel}
use Rattle.jc_class_out.specs.Pool.{Known}
use Rattle.jc_class_out.specs.Spelling.{same_known, has, uses}

-- it looks while some are left
pub record FinderSees (wanted : Known) (left : ℕ) (found : Bool) (k : Known) (wanted-after : Known) (left-after : ℕ) (found-after : Bool) : Type 0 where
  pub same : wanted-after ≡ wanted
  pub fewer : left-after ≡ left - 1
  pub finds : found-after ≡ (found || (nat_lt 0 left && same_known wanted k))

-- it counts what isn't among those before
pub record CensusSees (class : ClassModel) (at count : ℕ) (k : Known) (class-after : ClassModel) (at-after count-after : ℕ) : Type 0 where
  pub same : class-after ≡ class
  pub on : at-after ≡ min (at + 1) (2 ^ 64 - 1)
  pub counts : count-after ≡ (if has (take at (uses class)) k then count else min (count + 1) (2 ^ 64 - 1))
