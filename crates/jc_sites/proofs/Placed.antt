-- Parts of bodies that follow one another.
use Rattle.std.proofs.Common.{◌≡◌, ◌++◌, List, append_assoc, append-nil}
use Rattle.std.proofs.lemmas.List.{map-append}
use Rattle.jc_declares.specs.Sites.{BodyPart}
use Rattle.jc_sites.specs.declared.parts.Spot.{Spot}
use Rattle.jc_sites.specs.Joining.{placed}

pub placed-append : (p : Spot) (xs ys : List BodyPart) → placed p (xs ++ ys) ≡ placed p xs ++ placed p ys
placed-append p xs ys = map-append _ xs ys

pub ruleset placing = (placed-append, append_assoc, append-nil)
