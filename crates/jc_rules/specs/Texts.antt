-- The bytes of a text, wherever they lie.
use Rattle.std.specs.Prelude.{ℕ, List, string_bytes}
use Rattle.jc_rules.specs.declared.text.Storage.{Storage}

-- a short text lies in the value itself, a long one in a string
abbrev pub stored : Storage → List ℕ
stored (Storage.Short bytes) = bytes
stored (Storage.Long text) = string_bytes text.value
