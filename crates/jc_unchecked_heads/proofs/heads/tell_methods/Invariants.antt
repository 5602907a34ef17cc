use Rattle.std.proofs.Common.{◌≡◌, drop}
use Rattle.jc_overriding.specs.Viewing.{own_type}
use Rattle.jc_members.specs.Supertypes.{IsSupertypes}
use Rattle.jc_method_rules.specs.Owned.{standing}
use Rattle.jc_unchecked_spec.specs.Heads.{method_warned}
use Rattle.jc_unchecked_list.specs.Telling.{each_told}
use Rattle.jc_unchecked_heads.proofs.heads.tell_methods.Given as goal

abbrev pub invariant-loop-number : goal.invariant-loop-number
invariant-loop-number l = record {
  known : IsSupertypes l.table l.above;
  own : l.above.of ≡ own_type l.table l.of;
  all : l.all ≡ standing l.table l.of;
  whole : each_told (method_warned l.table) l.number (drop l.number l.methods) l.out ≡ each_told (method_warned l.table) 0 l.methods l.fn.out;
}
