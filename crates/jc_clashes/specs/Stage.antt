-- The stage of clashes: which tables have none, and which is named.
use Rattle.std.specs.Prelude.{◌≡◌, ◌++◌, List, [], Option, Some, None}
use Rattle.jc_rules.specs.declared.rule.Refusal.{Refusal}
use Rattle.jc_rules.specs.declared.stop.Stop.{Stop}
use Rattle.jc_rules.specs.declared.stop.Stop.TheVariants as stop_of
use Rattle.jc_types.specs.declared.table.Table.{Table}
use Rattle.jc_types.specs.Breaks.{IsLeast, IsOf}
use Rattle.jc_header_rules.specs.Clashes.{clashes_breaks}
use Rattle.jc_clashes.specs.Constructors.{constructors_breaks}

-- the clashes of methods (JLS 8.4.2, 8.4.8.3, 9.4.1), and those of constructors (JLS 8.8.2)
abbrev pub all_clashes : Table → List Refusal
all_clashes T = clashes_breaks T ++ constructors_breaks T

-- no methods clash, and no constructors
abbrev pub HasNoClash : Table → Type 0
HasNoClash T = all_clashes T ≡ []

-- the least of the clashes by file, offset and number
abbrev pub IsLeastClash : Table → Refusal → Type 0
IsLeastClash T refused = IsLeast (λ b. IsOf b (all_clashes T)) refused

-- the clash that is named, or that there is none
abbrev pub IsFirstClash : Table → Option Refusal → Type 0
IsFirstClash T None = HasNoClash T
IsFirstClash T (Some refused) = IsLeastClash T refused

-- the stage stops with its least clash; that memory was wanting says nothing of the table
abbrev pub IsClashesStop : Table → Stop Refusal → Type 0
IsClashesStop T (stop_of.Refused refused) = IsLeastClash T refused
IsClashesStop T stop_of.WantOfMemory = Unit {0}
