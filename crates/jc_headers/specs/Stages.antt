-- The stages of types and of headers: which tables break none of their rules, and which break is named.
use Rattle.std.specs.Prelude.{◌≡◌, ◌⊎◌, List, [], Option, Some, None}
use Rattle.jc_rules.specs.declared.rule.Refusal.{Refusal}
use Rattle.jc_rules.specs.declared.stop.Stop.{Stop}
use Rattle.jc_rules.specs.declared.stop.Stop.TheVariants as stop_of
use Rattle.jc_types.specs.declared.table.Table.{Table}
use Rattle.jc_types.specs.Breaks.{IsLeast, IsOf}
use Rattle.jc_header_rules.specs.Clashes.{headers_breaks}
use Rattle.jc_header_rules.specs.Types.{types_breaks}

-- no rule of types is broken, and none of headers
pub record IsUnbroken (T : Table) : Type 0 where
  pub types : types_breaks T ≡ []
  pub headers : headers_breaks T ≡ []

-- the least of these by file, offset and number
abbrev pub IsLeastOf : List Refusal → Refusal → Type 0
IsLeastOf breaks refused = IsLeast (λ b. IsOf b breaks) refused

-- the least break of the stage of types, or of that of headers, which is entered where the one before it has none
abbrev pub BreaksHeaders : Table → Refusal → Type 0
BreaksHeaders T refused = IsLeastOf (types_breaks T) refused ⊎ ((types_breaks T ≡ []) × IsLeastOf (headers_breaks T) refused)

-- the break that is named, or that there is none
abbrev pub IsFirst : Table → Option Refusal → Type 0
IsFirst T None = IsUnbroken T
IsFirst T (Some refused) = BreaksHeaders T refused

-- the stages stop with the break that is named; that memory was wanting says nothing of the table
abbrev pub IsHeadersStop : Table → Stop Refusal → Type 0
IsHeadersStop T (stop_of.Refused refused) = BreaksHeaders T refused
IsHeadersStop T stop_of.WantOfMemory = Unit {0}
