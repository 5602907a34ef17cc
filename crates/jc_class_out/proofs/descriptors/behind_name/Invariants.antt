use Rattle.std.proofs.Common.{◌≡◌, true, length, ◌+◌}
use Rattle.jc_class_out.specs.Descriptors.{name_end}
use Rattle.jc_class_out.proofs.descriptors.behind_name.Given as goal

abbrev pub invariant-loop : goal.invariant-loop
invariant-loop l = record { same : name_end l.begins l.rest ≡ name_end true l.units; long : length l.rest + l.counter ≡ length l.units }
