-- Places that follow one another.
use Rattle.std.proofs.Common.{append_assoc, append-nil}
use Rattle.std.proofs.lemmas.List.{map-append}
use Rattle.jc_tree.proofs.OffsetsOfTypes.{first_offset_of_base-Primitive, first_offset_of_base-Class}

pub ruleset placing = (map-append, append_assoc, append-nil)

pub ruleset begun = (first_offset_of_base-Primitive, first_offset_of_base-Class)
