-- How far a reader looks, and how many tokens it leaves.
use Rattle.std.specs.Prelude.{ℕ, ◌<◌, ◌≤◌, List, ◌++◌, length}
use Rattle.jc_lexer.specs.declared.token.Token.{Token}
use Rattle.jc_reading.specs.Reading.{Read, Found, Stopped, Run, noting, becoming}

-- the reach is not before the next token, and that not before n tokens are left
abbrev pub Within : {A : Type 0} → ℕ → Read A → Type 0
Within n (Found a r l) = (l ≤ length r) × (length r ≤ n)
Within n (Stopped l) = l ≤ n

-- of a reader, whatever stands there
abbrev pub Near : {A : Type 0} → Run A → Type 0
Near run = (ts : List Token) → Within (length ts) (run ts)

-- what is read takes a token at least
abbrev pub Ahead : {A : Type 0} → List Token → Read A → Type 0
Ahead ts (Found a r l) = (l ≤ length r) × (length r < length ts)
Ahead ts (Stopped l) = l ≤ length ts

-- of a reader, whatever stands there
abbrev pub GoesAhead : {A : Type 0} → Run A → Type 0
GoesAhead run = (ts : List Token) → Ahead ts (run ts)

-- what is read from here on, behind a list that is read already
abbrev pub onto : {A : Type 0} → List A → ℕ → Read (List A) → Read (List A)
onto list left m = noting left (becoming (λ more. list ++ more) m)
