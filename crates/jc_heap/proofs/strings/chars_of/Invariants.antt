use Rattle.std.proofs.Common.{◌≡◌, ℕ, map, take, pos}
use Rattle.jc_jvm.specs.declared.value.Value.TheVariants.{Whole}
use Rattle.jc_heap.proofs.strings.chars_of.Given as goal

abbrev pub invariant-loop-unit : goal.invariant-loop-unit
invariant-loop-unit l = l.items.items ≡ map (λ (u : ℕ). Whole (pos u)) (take l.unit-index l.text)
