use Rattle.std.proofs.Common.{◌≡◌, ◌||◌, length}
use Rattle.std.specs.List.{list_all, list_any}
use Rattle.jc_header_rules.specs.Results.{is_unchecked, is_within, thrown_class, thrown_fits}
use Rattle.jc_method_rules.proofs.throwing.thrown_fits.Given as goal

abbrev pub invariant-loop-rest : goal.invariant-loop-rest
invariant-loop-rest l =
    list_all (λ t. is_unchecked l.table (thrown_class l.table l.a t) || list_any (λ u. is_within l.table (thrown_class l.table l.b u) (thrown_class l.table l.a t)) l.b.thrown) l.rest
    ≡ thrown_fits l.table l.a l.b

abbrev pub decreases-loop-rest : goal.decreases-loop-rest
decreases-loop-rest l = length l.rest
