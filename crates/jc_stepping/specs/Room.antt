-- Room for the arguments of a call (JVMS 2.6.1): a long takes two locals.
use Rattle.std.specs.Prelude.{ℕ, ◌-◌, Bool, true, ◌&&◌, nat_le, List, [], ◌∷◌}
use Rattle.jc_jvm.specs.Stacked.{units_of}
use Rattle.jc_jvm.specs.declared.value.Value.{Value}

-- so many locals are enough
abbrev pub fit_in : ℕ → List Value → Bool
fit_in count [] = true
fit_in count (v ∷ vs) = nat_le (units_of v) count && fit_in (count - units_of v) vs
