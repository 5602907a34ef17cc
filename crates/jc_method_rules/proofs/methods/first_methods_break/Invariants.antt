use Rattle.std.proofs.Common.{◌≡◌, drop}
use Rattle.jc_types.specs.Breaks.{least}
use Rattle.jc_overriding.specs.Viewing.{own_type}
use Rattle.jc_members.specs.Supertypes.{IsSupertypes}
use Rattle.jc_header_rules.specs.Headers.{method_breaks}
use Rattle.jc_header_rules.specs.Places.{of_each}
use Rattle.jc_method_rules.specs.Owned.{standing}
use Rattle.jc_method_rules.proofs.methods.first_methods_break.Given as goal

abbrev pub invariant-loop-number : goal.invariant-loop-number
invariant-loop-number l = record {
  known : IsSupertypes l.table l.above;
  own : l.above.of ≡ own_type l.table l.of;
  all : l.all ≡ standing l.table l.of;
  least : least l.found (of_each (method_breaks l.table) l.number (drop l.number l.methods)) ≡ least l.initial.found (of_each (method_breaks l.table) 0 l.methods);
}
