use Rattle.std.proofs.Common.{◌≡◌, ℕ, ◌<◌, length, slice_get}
use Rattle.jc_types.proofs.equality.+same.Given as goal

abbrev pub invariant-equal_arg_lists-loop-i : goal.invariant-equal_arg_lists-loop-i
invariant-equal_arg_lists-loop-i l = (length l.xs ≡ length l.ys) × ((k : ℕ) → k < l.i → slice_get l.xs k ≡ slice_get l.ys k)

abbrev pub invariant-equal_lists-loop-i : goal.invariant-equal_lists-loop-i
invariant-equal_lists-loop-i l = (length l.xs ≡ length l.ys) × ((k : ℕ) → k < l.i → slice_get l.xs k ≡ slice_get l.ys k)
