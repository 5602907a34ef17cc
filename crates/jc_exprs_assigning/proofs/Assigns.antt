-- What a walk makes of the type of a variable that is assigned.
use Rattle.std.proofs.Common.{◌≡◌, refl, List}
use Rattle.jc_rules.specs.declared.rule.Place.{Place}
use Rattle.jc_types.specs.declared.form.Ty.{Ty}
use Rattle.jc_types.specs.declared.table.Table.{Table}
use Rattle.jc_typed.specs.Trees.{Form, Step}
use Rattle.jc_exprs_nodes_spec.specs.Told.{Standing, ran}
use Rattle.jc_exprs_nodes_spec.specs.Typeds.{captured}

pub captured_by : (T : Table) (place : Place) (t u : Ty) (f g : Form) (ls ks : List Step) (s : Standing) → t ≡ u → f ≡ g → ls ≡ ks → ran (captured T place t f ls) s ≡ ran (captured T place u g ks) s
captured_by T place t u f g ls ks s d e h = rw (d, e, h) refl
