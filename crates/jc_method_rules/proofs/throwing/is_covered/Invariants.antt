use Rattle.std.proofs.Common.{◌≡◌, length}
use Rattle.std.specs.List.{list_any}
use Rattle.jc_header_rules.specs.Results.{is_within, thrown_class}
use Rattle.jc_method_rules.proofs.throwing.is_covered.Given as goal

abbrev pub invariant-loop-rest : goal.invariant-loop-rest
invariant-loop-rest l = list_any (λ u. is_within l.table (thrown_class l.table l.b u) l.k) l.rest ≡ list_any (λ u. is_within l.table (thrown_class l.table l.b u) l.k) l.b.thrown

abbrev pub decreases-loop-rest : goal.decreases-loop-rest
decreases-loop-rest l = length l.rest
