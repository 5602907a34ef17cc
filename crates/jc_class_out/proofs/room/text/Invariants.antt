use Rattle.std.proofs.Common.{◌≡◌, ◌+◌, ◌<◌, length, drop}
use Rattle.std.specs.List.{list_all}
use Rattle.jc_class_out.specs.Texts.{text_bytes}
use Rattle.jc_class_out.specs.Fitting.{is_u16}
use Rattle.jc_class_out.proofs.room.text.Given as goal

abbrev pub invariant-loop-unit : goal.invariant-loop-unit
invariant-loop-unit l = record { units : list_all is_u16 (drop l.unit-index l.units) ≡ list_all is_u16 l.units; size : l.total + length (text_bytes (drop l.unit-index l.units)) ≡ length (text_bytes l.units); small : l.total < 65536 }
