use Rattle.std.proofs.Common.{◌≡◌, ◌-◌, length}
use Rattle.jc_class_out.specs.Code.{code_on}
use Rattle.jc_class_in.proofs.Rows.{with_front}
use Rattle.jc_class_in.proofs.code.instructions.Given as goal

abbrev pub invariant-loop : goal.invariant-loop
invariant-loop l = with_front l.list (code_on l.pool (length l.bytes) l.len (l.len - l.counter) l.rest) ≡ code_on l.pool (length l.bytes) l.len l.len l.bytes
