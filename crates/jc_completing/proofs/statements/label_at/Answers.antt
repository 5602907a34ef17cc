use Rattle.std.proofs.lemmas.Int.{to_z-of_z}
use Rattle.std.specs.Int.{w32}
use Rattle.jc_typed.specs.Parts.{parts}
use Rattle.jc_completing.proofs.statements.label_at.Goals as goal

pub returns : goal.returns
returns c =
    let same = to_z-of_z w32 c.args.n c.ranges.n in
    rw c.in_ok-list.ensures (rw (c.slice.ensures, same) at (c.label_of.ensures (parts c.args.nodes.now)))
