use Rattle.std.proofs.Common.{◌≡◌, ◌<◌, ℕ, length}
use Rattle.jc_method_rules.specs.Owned.{is_owned, numbers_at, picked}
use Rattle.jc_method_rules.proofs.owned.owner_index.Given as goal

abbrev pub invariant-loop-i : goal.invariant-loop-i
invariant-loop-i l = record {
  groups : length l.groups.items ≡ length l.table.classes;
  ids : (k : ℕ) → k < length l.groups.items → numbers_at l.groups.items k ≡ picked (is_owned l.table k) 0 l.i;
}
