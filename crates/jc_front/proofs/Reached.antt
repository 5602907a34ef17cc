-- What all stages leave unbroken.
use Rattle.std.proofs.Common.{ℕ, List, inl, inr}
use Rattle.jc_rules.specs.declared.rule.Refusal.{Refusal}
use Rattle.jc_rules.specs.declared.stop.Stop.{Stop}
use Rattle.jc_rules.specs.declared.stop.Stop.TheVariants as stop_of
use Rattle.jc_headers.specs.Stages.{IsHeadersStop, IsUnbroken}
use Rattle.jc_clashes.specs.Stage.{HasNoClash, IsClashesStop}
use Rattle.jc_lexer.specs.declared.token.Token.{Token}
use Rattle.jc_types.specs.declared.table.Table.{Table}
use Rattle.jc_declares.specs.declared.unit.SourceUnit.{SourceUnit}
use Rattle.jc_names.specs.Stage.{IsNamed, IsNamesStop}
use Rattle.jc_front.specs.Stages.{AreSources, AreUnbroken, BeginsWithObject, HaveTrees, IsBreak, StopsUnits}

pub are_unbroken : (units : List SourceUnit) (table : Table) → IsNamed units table → BeginsWithObject table → IsUnbroken table → HasNoClash table → AreUnbroken units table
are_unbroken units table names object headers clashes = record { names = names; object = object; headers = headers; clashes = clashes }

pub are_sources : (texts : List (List ℕ)) (lists : List (List Token)) (units : List SourceUnit) (table : Table) → HaveTrees texts lists units → AreUnbroken units table → AreSources texts (record { tokens = lists; units = units; table = table })
are_sources texts lists units table trees unbroken =
    record { declared = record { trees = trees; names = unbroken.names; object = unbroken.object }; headers = unbroken.headers; clashes = unbroken.clashes }

pub short_of_memory : (units : List SourceUnit) → StopsUnits units stop_of.WantOfMemory
short_of_memory units = record { breaks = λ texts lists trees. tt }

pub names_stop : (units : List SourceUnit) (stop : Stop Refusal) → IsNamesStop units stop → StopsUnits units stop
names_stop units (stop_of.Refused refused) least = record { breaks = λ texts lists trees. inr (inr (inr (inl (lists, units, trees, least)))) }
names_stop units stop_of.WantOfMemory least = short_of_memory units

pub headers_stop : (units : List SourceUnit) (table : Table) (stop : Stop Refusal) → IsNamed units table → BeginsWithObject table → IsHeadersStop table stop → StopsUnits units stop
headers_stop units table (stop_of.Refused refused) names object breaks =
    record { breaks = λ texts lists trees. inr (inr (inr (inr (inl (lists, units, table, record { trees = trees; names = names; object = object }, breaks))))) }
headers_stop units table stop_of.WantOfMemory names object breaks = short_of_memory units

pub clashes_stop : (units : List SourceUnit) (table : Table) (stop : Stop Refusal) → IsNamed units table → BeginsWithObject table → IsUnbroken table → IsClashesStop table stop → StopsUnits units stop
clashes_stop units table (stop_of.Refused refused) names object headers least =
    record { breaks = λ texts lists trees. inr (inr (inr (inr (inr (lists, units, table, record { trees = trees; names = names; object = object }, headers, least))))) }
clashes_stop units table stop_of.WantOfMemory names object headers least = short_of_memory units

pub units_stop : (texts : List (List ℕ)) (lists : List (List Token)) (units : List SourceUnit) (stop : Stop Refusal) → HaveTrees texts lists units → StopsUnits units stop → IsBreak texts stop
units_stop texts lists units stop trees stops = stops.breaks texts lists trees
