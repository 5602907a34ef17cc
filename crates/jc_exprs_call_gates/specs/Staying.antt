-- What stands before the point of a call, in an arena that grows.
use Rattle.std.specs.Prelude.{◌≡◌, List, Option}
use Rattle.jc_typed.specs.declared.nodes.Node.{Node}
use Rattle.jc_typed.specs.Parts.{Grows}
use Rattle.jc_exprs_calls.specs.declared.finding.BeforeAt.{BeforeAt}
use Rattle.jc_exprs_calls.specs.Placing.{AreBefore, has_before}

abbrev pub BeforeStays : Type 0
BeforeStays = (old new : List Node) (b : Option BeforeAt) → Grows old new → AreBefore old b → has_before new b ≡ has_before old b

abbrev pub BeforeStaysThere : Type 0
BeforeStaysThere = (old new : List Node) (b : Option BeforeAt) → Grows old new → AreBefore old b → AreBefore new b
