use Rattle.std.proofs.Common.{◌≡◌, ◌+◌, length}
use Rattle.jc_heaps.specs.Layout.{place_in}
use Rattle.jc_layout.proofs.Places.{further}
use Rattle.jc_layout.proofs.fields.place_in.Given as goal

abbrev pub invariant-loop-rest : goal.invariant-loop-rest
invariant-loop-rest l = record {
  found : place_in l.f l.fn.fields ≡ further l.at (place_in l.f l.rest);
  count : l.at + length l.rest ≡ length l.fn.fields;
}

abbrev pub decreases-loop-rest : goal.decreases-loop-rest
decreases-loop-rest l = length l.rest
