use Rattle.jc_declares.specs.Sites.{sites_of}
use Rattle.jc_table_laws.proofs.IdsFit.{ids_are}
use Rattle.jc_table_laws.proofs.Indexed.{indexed}
use Rattle.jc_table_laws.proofs.PlacesFit.{places_are}
use Rattle.jc_table_laws.proofs.tables.names_make_a_table.Goals as goal

pub returns : goal.returns
returns c = λ units unbroken. record { index = indexed (sites_of units); ids = ids_are units; places = places_are units unbroken }
