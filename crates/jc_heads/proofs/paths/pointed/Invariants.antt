use Rattle.std.proofs.Common.{◌≡◌, drop, map}
use Rattle.std.specs.Prelude.{string_bytes}
use Rattle.jc_declares.specs.Heads.{text_of, with_points}
use Rattle.jc_heads.proofs.paths.pointed.Given as goal

abbrev pub invariant-loop-part : goal.invariant-loop-part
invariant-loop-part l = with_points (string_bytes l.name) (map text_of (drop l.part-index l.declared.more)) ≡ with_points l.declared.first.text (map text_of l.declared.more)
