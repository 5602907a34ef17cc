use Rattle.jc_table_laws.proofs.Acyclic.{acyclic}
use Rattle.jc_table_laws.proofs.hierarchy.no_class_is_its_own_supertype.Goals as goal

pub returns : goal.returns
returns c = λ S unbroken object. acyclic S object unbroken
