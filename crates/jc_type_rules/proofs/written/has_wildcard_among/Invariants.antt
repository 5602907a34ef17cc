use Rattle.std.proofs.Common.{◌≡◌, length}
use Rattle.std.specs.List.{list_any}
use Rattle.jc_types.specs.declared.form.Arg.{out-Arg}
use Rattle.jc_header_rules.specs.Types.{is_wildcard_at}
use Rattle.jc_type_rules.proofs.written.has_wildcard_among.Given as goal

abbrev pub invariant-loop-rest : goal.invariant-loop-rest
invariant-loop-rest l = list_any (λ a. is_wildcard_at (out-Arg a)) l.rest ≡ list_any (λ a. is_wildcard_at (out-Arg a)) l.args

abbrev pub decreases-loop-rest : goal.decreases-loop-rest
decreases-loop-rest l = length l.rest
