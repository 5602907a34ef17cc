-- Typed parts stay what they are where the arena grows.
use Rattle.std.proofs.Common.{◌≡◌, refl, ap, ℕ, List, ◌<◌, length}
use Rattle.jc_typed.specs.declared.nodes.Node.{Node}
use Rattle.jc_typed.specs.Parts.{Grows}
use Rattle.jc_typed.proofs.Growing.{within}
use Rattle.jc_exprs_nodes.specs.declared.walk.Part.{Part}
use Rattle.jc_exprs_nodes.specs.Walks.{IsPart, has, known, or_null}

pub has_stays : (ms ns : List Node) (at : ℕ) → Grows ms ns → at < length ms → has ns at ≡ has ms at
has_stays ms ns at g b = rw (g.kept at b) refl

pub known_stays : (ms ns : List Node) (at : ℕ) → Grows ms ns → at < length ms → known ns at ≡ known ms at
unfolding known
known_stays ms ns at g b = ap or_null (has_stays ms ns at g b)

pub part_stays : (ms ns : List Node) (p : Part) → Grows ms ns → IsPart ms p → IsPart ns p
part_stays ms ns p g i =
    let e = known_stays ms ns p.at g i.below.0 in
    record {
      it = rw (has_stays ms ns p.at g i.below.0, e) i.it;
      operand = rw (g.kept p.at i.below.0, e) i.operand;
      tree = rw (g.kept p.of i.below.1, e) i.tree;
      start = rw e i.start;
      place = rw e i.place;
      ty = rw (e, g.kept p.ty i.below.2) i.ty;
      lead = rw (e, g.kept p.lead i.below.3) i.lead;
      below = (within ms ns p.at g i.below.0, within ms ns p.of g i.below.1, within ms ns p.ty g i.below.2, within ms ns p.lead g i.below.3);
    }

pub ruleset staying = (has_stays, known_stays, part_stays)
