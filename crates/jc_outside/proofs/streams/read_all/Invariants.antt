use Rattle.std.proofs.Common.{◌≡◌, List, ℕ, ◌++◌}
use Rattle.std.specs.Io.KnownBytes.{Consumes}
use Rattle.jc_outside.proofs.streams.read_all.Given as goal

-- what was read stands at the end of `into`
abbrev pub invariant-loop : goal.invariant-loop
invariant-loop g l = (more : List ℕ) × (l.into.items ≡ l.fn.into.items ++ more) × Consumes (g.R.Read.remaining l.fn.from) (g.R.Read.remaining l.from) more
