use Rattle.std.proofs.Common.{◌≡◌, ◌-◌, length}
use Rattle.jc_jvm.specs.Classes.{is_method, method_of}
use Rattle.jc_calls.proofs.MethodLines.{among_on}
use Rattle.jc_calls.proofs.methods.find_method.Given as goal

-- what is still to come gives the answer
abbrev pub invariant-loop-done : goal.invariant-loop-done
invariant-loop-done l = among_on l.classes (is_method l.name l.descriptor) (length l.classes - l.done) l.here ≡ method_of l.classes l.name l.descriptor l.class
