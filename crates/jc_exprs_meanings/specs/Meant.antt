-- What stands before a point, as the arena of typed expressions has it.
use Rattle.std.specs.Prelude.{◌≡◌, List, Option, Some, None}
use Rattle.jc_typed.specs.declared.nodes.Node.{Node}
use Rattle.jc_typed.specs.Parts.{Grows}
use Rattle.jc_exprs_nodes.specs.Walks.{IsPart, known}
use Rattle.jc_exprs_parts_spec.specs.Names.{Meaning, Value, Other}
use Rattle.jc_exprs_senses.specs.Sensed.{sense_of}
use Rattle.jc_exprs_meanings.specs.declared.meaning.MeaningAt.{MeaningAt}
use Rattle.jc_exprs_meanings.specs.declared.meaning.MeaningAt.TheVariants as at

abbrev pub meaning_of : List Node → MeaningAt → Meaning
meaning_of ns (at.Value p) = Value (known ns p.at)
meaning_of ns (at.Other s) = Other (sense_of s)

-- if there is something
abbrev pub has_meaning : List Node → Option MeaningAt → Option Meaning
has_meaning ns None = None
has_meaning ns (Some m) = Some (meaning_of ns m)

-- its part stands in the arena
abbrev pub IsMeaning : List Node → MeaningAt → Type 0
IsMeaning ns (at.Value p) = IsPart ns p
IsMeaning ns (at.Other s) = Unit {0}

abbrev pub MeaningBelow : List Node → Option MeaningAt → Type 0
MeaningBelow ns None = Unit {0}
MeaningBelow ns (Some m) = IsMeaning ns m

-- ---- laws: where the arena grows

abbrev pub MeaningStays : Type 0
MeaningStays = (old new : List Node) (m : Option MeaningAt) → Grows old new → MeaningBelow old m → has_meaning new m ≡ has_meaning old m

abbrev pub MeaningStaysBelow : Type 0
MeaningStaysBelow = (old new : List Node) (m : Option MeaningAt) → Grows old new → MeaningBelow old m → MeaningBelow new m
