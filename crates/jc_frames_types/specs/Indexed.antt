-- Classes found by their names.
use Rattle.std.specs.Prelude.{◌≡◌, ℕ, List, if◌then◌else◌}
use Rattle.std.specs.Str.{bytes_eq}
use Rattle.std.specs.declared.option.Option.TheVariants.{Some, None}
use Rattle.jc_class_out.specs.declared.model.ClassModel.{ClassModel}
use Rattle.jc_jvm.specs.Classes.{class_named, or_else}
use Rattle.jc_jvm.specs.Numbered.{numbered}

-- each name has the number of the first class that has it
abbrev pub AreNumbers : List ClassModel → List (List ℕ × ℕ) → Type 0
AreNumbers classes numbers = (name : List ℕ) → numbered name numbers ≡ class_named classes name

-- this name has a number too, if it had none
abbrev pub NamesMore : List (List ℕ × ℕ) → List (List ℕ × ℕ) → List ℕ → ℕ → Type 0
NamesMore before after name number = (wanted : List ℕ) → numbered wanted after ≡ or_else (numbered wanted before) (if bytes_eq name wanted then Some number else None)
