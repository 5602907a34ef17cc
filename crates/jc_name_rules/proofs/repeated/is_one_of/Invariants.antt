use Rattle.std.proofs.Common.{◌≡◌, drop}
use Rattle.jc_types.specs.Sameness.{same}
use Rattle.jc_declares.specs.HeadBreaks.{some_in}
use Rattle.jc_name_rules.proofs.repeated.is_one_of.Given as goal

abbrev pub invariant-loop-other : goal.invariant-loop-other
invariant-loop-other l = some_in (same l.ty) (drop l.other-index l.types) ≡ some_in (same l.ty) l.types
