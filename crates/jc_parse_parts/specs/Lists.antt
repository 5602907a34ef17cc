-- Lists that may be left out.
use Rattle.std.specs.Prelude.{Option, Some, None, [], List}

-- the list, and the empty one where it is left out
abbrev pub or_no_list : {A : Type 0} → Option (List A) → List A
or_no_list None = []
or_no_list (Some list) = list
