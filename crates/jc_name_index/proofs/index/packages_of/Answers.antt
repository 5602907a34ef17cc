use Rattle.jc_name_index.specs.Index.{as_package}
use Rattle.jc_name_index.proofs.Picked.{noted_from_empty}
use Rattle.jc_name_index.proofs.index.packages_of.Goals as goal

pub returns : goal.returns
returns c = λ p. noted_from_empty as_package c.slice.result.now c.args.heads.now.units c.in_ok-packages.packages c.note_packages.new.spaces 1 c.slice.ensures c.in_ok-packages.ensures c.in_ok-note_packages.ensures 0 p
