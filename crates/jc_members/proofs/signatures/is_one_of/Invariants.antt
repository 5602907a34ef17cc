use Rattle.std.proofs.Common.{◌≡◌, length}
use Rattle.jc_overriding.specs.Signatures.{is_one_of}
use Rattle.jc_members.proofs.signatures.is_one_of.Given as goal

abbrev pub invariant-loop-ts : goal.invariant-loop-ts
invariant-loop-ts l = is_one_of l.s l.ts ≡ is_one_of l.s l.types

abbrev pub decreases-loop-ts : goal.decreases-loop-ts
decreases-loop-ts l = length l.ts
