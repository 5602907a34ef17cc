-- What a run shows on its way.
use Rattle.std.specs.Prelude.{◌≡◌, ℕ, ◌+◌, [], ◌∷◌, ◌++◌}
use Rattle.jc_running.specs.declared.seen.Check.{Check}
use Rattle.jc_running.specs.declared.seen.Shown.{Shown}

-- no byte went out, none was taken, and no check failed
abbrev pub nothing_shown : Shown
nothing_shown = record { output = []; taken = 0; failed = [] }

-- a byte more, at the end of what went out
abbrev pub with_byte : ℕ → Shown → Shown
with_byte b p = record p { output = p.output ++ b ∷ [] }

-- one byte more was taken from the input
abbrev pub with_taken : Shown → Shown
with_taken p = record p { taken = p.taken + 1 }

-- one more failed check, behind those that failed before
abbrev pub with_failure : Check → Shown → Shown
with_failure c p = record p { failed = p.failed ++ c ∷ [] }

-- nothing more is shown, or one thing more: a byte out, a byte in, or a failed check
pub data AtMostOneMore (p q : Shown) : Type 0 where
  nothing_more : q ≡ p → AtMostOneMore p q
  a_byte_more : (b : ℕ) → q ≡ with_byte b p → AtMostOneMore p q
  one_more_taken : q ≡ with_taken p → AtMostOneMore p q
  a_failure_more : (c : Check) → q ≡ with_failure c p → AtMostOneMore p q
