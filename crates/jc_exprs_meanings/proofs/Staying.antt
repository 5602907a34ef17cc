-- What stands before a point stays what it is where the arena grows.
use Rattle.std.proofs.Common.{◌≡◌, refl, ap, List, None, Some}
use Rattle.jc_typed.specs.declared.nodes.Node.{Node}
use Rattle.jc_typed.specs.Parts.{Grows}
use Rattle.jc_exprs_nodes.proofs.Staying.{known_stays, part_stays}
use Rattle.jc_exprs_parts_spec.specs.Names.{Value}
use Rattle.jc_exprs_meanings.specs.declared.meaning.MeaningAt.{MeaningAt}
use Rattle.jc_exprs_meanings.specs.declared.meaning.MeaningAt.TheVariants as at
use Rattle.jc_exprs_meanings.specs.Meant.{IsMeaning, MeaningStays, MeaningStaysBelow, meaning_of}

pub meaning_kept : (ms ns : List Node) (m : MeaningAt) → Grows ms ns → IsMeaning ms m → meaning_of ns m ≡ meaning_of ms m
meaning_kept ms ns (at.Value p) g h = ap Value (known_stays ms ns p.at g h.below.0)
meaning_kept ms ns (at.Other s) g h = refl

pub meaning_there : (ms ns : List Node) (m : MeaningAt) → Grows ms ns → IsMeaning ms m → IsMeaning ns m
meaning_there ms ns (at.Value p) g h = part_stays ms ns p g h
meaning_there ms ns (at.Other s) g h = h

pub has_meaning_kept : MeaningStays
has_meaning_kept ms ns None g h = refl
has_meaning_kept ms ns (Some m) g h = ap Some (meaning_kept ms ns m g h)

pub has_meaning_there : MeaningStaysBelow
has_meaning_there ms ns None g h = h
has_meaning_there ms ns (Some m) g h = meaning_there ms ns m g h

-- the first two rewrite where it is known what stands there
pub ruleset meanings_stay = (meaning_kept, meaning_there, has_meaning_kept, has_meaning_there)
