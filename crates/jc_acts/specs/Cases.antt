-- The cases of a `switch` (JLS 14.11) in an arena, as the meaning has them over any program.
use Rattle.std.specs.Prelude.{ℕ, ℤ, Bool, true, false, List, [], ◌∷◌, Option, Some, None, if◌then◌else◌}
use Rattle.jc_heaps.specs.Numbers.{int_eq}
use Rattle.jc_typed.specs.declared.lists.Case.{Case}

-- whether a number is that of a label; `default`, which has none, isn't reached by a number
abbrev pub is_key : ℤ → Option ℤ → Bool
is_key n (Some key) = int_eq n key
is_key n None = false

-- how many statements stand before the label of a number
abbrev pub labelled : ℤ → List Case → Option ℕ
labelled n [] = None
labelled n (c ∷ cs) = if is_key n c.key then Some c.skips else labelled n cs

-- whether a label is `default`
abbrev pub is_default : Option ℤ → Bool
is_default (Some key) = false
is_default None = true

-- .. and before `default`
abbrev pub default_in : List Case → Option ℕ
default_in [] = None
default_in (c ∷ cs) = if is_default c.key then Some c.skips else default_in cs
