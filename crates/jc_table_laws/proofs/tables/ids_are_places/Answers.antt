use Rattle.jc_table_laws.proofs.IdsFit.{ids_are}
use Rattle.jc_table_laws.proofs.tables.ids_are_places.Goals as goal

pub returns : goal.returns
returns c = λ units. ids_are units
