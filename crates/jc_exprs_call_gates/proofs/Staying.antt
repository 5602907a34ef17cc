-- What stands before the point of a call, in an arena that grows.
use Rattle.std.proofs.Common.{◌≡◌, refl, List, Option, Some, None}
use Rattle.jc_typed.specs.declared.nodes.Node.{Node}
use Rattle.jc_typed.specs.Parts.{Grows}
use Rattle.jc_typed.proofs.Growing.{within}
use Rattle.jc_exprs_nodes.proofs.Staying.{known_stays, part_stays}
use Rattle.jc_exprs_calls.specs.declared.finding.BeforeAt.{BeforeAt}
use Rattle.jc_exprs_calls.specs.declared.finding.BeforeAt.TheVariants as at
use Rattle.jc_exprs_calls.specs.Placing.{AreBefore, has_before}

pub before_stays : (ms ns : List Node) (b : Option BeforeAt) → Grows ms ns → AreBefore ms b → has_before ns b ≡ has_before ms b
before_stays ms ns None g h = refl
before_stays ms ns (Some (at.OfValue s)) g h = rw (known_stays ms ns s.part.at g h.0.below.0, g.kept s.ty h.1) refl
before_stays ms ns (Some (at.OfSense s)) g h = refl

pub before_there : (ms ns : List Node) (b : Option BeforeAt) → Grows ms ns → AreBefore ms b → AreBefore ns b
before_there ms ns None g h = h
before_there ms ns (Some (at.OfValue s)) g h = (part_stays ms ns s.part g h.0, within ms ns s.ty g h.1)
before_there ms ns (Some (at.OfSense s)) g h = h

pub ruleset before_staying = (before_stays, before_there)
