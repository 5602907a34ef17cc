use Rattle.std.proofs.Common.{◌≡◌, length, ◌+◌}
use Rattle.jc_class_out.specs.Descriptors.{type_end}
use Rattle.jc_class_out.proofs.descriptors.behind_type.Given as goal

abbrev pub invariant-loop-dims : goal.invariant-loop-dims
invariant-loop-dims l = record { same : type_end l.dims l.rest ≡ type_end 0 l.units; long : length l.rest + l.dims ≡ length l.units }
