-- How a value is read that parts behind it grow.
use Rattle.std.specs.Prelude.{ℕ, zero, suc, List, [], ◌∷◌, length}
use Rattle.jc_lexer.specs.declared.token.Token.{Token}
use Rattle.jc_reading.specs.Reading.{Read, Found, Stopped, Run, found, noting, becoming}
use Rattle.jc_reading.specs.Further.{by_value}

-- a part, and the rest behind it; where no part is read, none, and no token is taken
abbrev pub one_then : {P : Type 0} → List Token → Read P → (P → List Token → Read (List P)) → Read (List P)
one_then ts (Found p q l) rest = noting l (becoming (λ more. p ∷ more) (rest p q))
one_then ts (Stopped l) rest = Found [] ts l

-- any number of parts, with room for n of them: each makes a new value, which tells how the next one is read
unfoldable pub steps : {V P : Type 0} → ℕ → (V → P → V) → (V → Run P) → V → Run (List P)
steps zero make part v ts = found [] ts
steps (suc n) make part v ts = one_then ts (part v ts) (λ p. steps n make part (make v p))

-- a first value, and the parts behind it
abbrev pub growing : {V P : Type 0} → Run V → (V → P → V) → (V → Run P) → Run (V × List P)
growing first make part = by_value first (λ v ts. steps (length ts) make part v ts)

-- the value that the parts make
abbrev pub grown : {V P : Type 0} → (V → P → V) → V → List P → V
grown make v [] = v
grown make v (p ∷ list) = grown make (make v p) list
