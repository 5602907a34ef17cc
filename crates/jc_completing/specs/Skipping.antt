-- The statements that a `switch` runs (JLS 14.11).
use Rattle.std.specs.Prelude.{ℕ, List, [], drop, Option, Some, None}

-- the statements behind so many; none where no label was found and there is no `default`
abbrev pub behind_label : {A : Type 0} → Option ℕ → List A → List A
behind_label None ss = []
behind_label (Some n) ss = drop n ss
