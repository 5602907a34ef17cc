use Rattle.std.proofs.Common.{◌≡◌, List, ℕ, length}
use Rattle.jc_members.specs.Named.{IsNumbered, ids_in, named_from}
use Rattle.jc_members.proofs.named.method_index.Given as goal

abbrev pub invariant-loop-i : goal.invariant-loop-i
invariant-loop-i l = record {
  numbered : IsNumbered l.names (length l.groups.items);
  ids : (q : List ℕ) → ids_in l.names l.groups.items q ≡ named_from l.table q 0 l.i;
}
