-- The stage of names: what units are whose names break no rule, and what stops it.
use Rattle.std.specs.Prelude.{◌≡◌, List}
use Rattle.jc_rules.specs.declared.rule.Refusal.{Refusal}
use Rattle.jc_rules.specs.declared.stop.Stop.{Stop}
use Rattle.jc_rules.specs.declared.stop.Stop.TheVariants as stop_of
use Rattle.jc_types.specs.Breaks.{IsLeast}
use Rattle.jc_types.specs.declared.table.Table.{Table}
use Rattle.jc_declares.specs.declared.unit.SourceUnit.{SourceUnit}
use Rattle.jc_declares.specs.Breaks.{BreaksNames}
use Rattle.jc_declares.specs.Making.{table_of}
use Rattle.jc_declares.specs.Sites.{Sites, sites_of}

-- the names in these units break no rule, and this is the table of what they declare
pub record IsNamed (units : List SourceUnit) (table : Table) : Type 0 where
  pub unbroken : (refused : Refusal) → BreaksNames (sites_of units) refused → ⊥
  pub is_table : table ≡ table_of (sites_of units)

-- a refusal is the least break by file, offset and number
abbrev pub IsSitesStop : Sites → Stop Refusal → Type 0
IsSitesStop S (stop_of.Refused refused) = IsLeast (BreaksNames S) refused
IsSitesStop S stop_of.WantOfMemory = Unit {0}

-- the same, of units; want of memory may stop it at any time, and says nothing of them
abbrev pub IsNamesStop : List SourceUnit → Stop Refusal → Type 0
IsNamesStop units stop = IsSitesStop (sites_of units) stop
