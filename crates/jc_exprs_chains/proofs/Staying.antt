-- What is joined so far stays what it is where the arena grows.
use Rattle.std.proofs.Common.{◌≡◌, refl, ap, ℕ, List, ◌<◌, None, Some, length}
use Rattle.jc_rules.specs.declared.rule.Place.{Place}
use Rattle.jc_typed.specs.declared.nodes.Node.{Node}
use Rattle.jc_typed.specs.Parts.{Grows, type_of}
use Rattle.jc_typed.proofs.Growing.{within}
use Rattle.jc_exprs_nodes.proofs.Staying.{known_stays, part_stays}
use Rattle.jc_exprs_parts_spec.specs.Chains.{Whole, Unsigned}
use Rattle.jc_exprs_chains.specs.declared.joined.JoinedAt.{JoinedAt}
use Rattle.jc_exprs_chains.specs.declared.joined.JoinedForm.{JoinedForm}
use Rattle.jc_exprs_chains.specs.declared.joined.JoinedForm.TheVariants as made
use Rattle.jc_exprs_chains.specs.declared.signed.SignedAt.{SignedAt}
use Rattle.jc_exprs_chains.specs.declared.signed.SignedAt.TheVariants as signs
use Rattle.jc_exprs_chains.specs.Chaining.{FormIn, IsJoined, IsSigned, JoinedStays, JoinedStaysIn, SignedStays, SignedStaysIn, joined_at, joined_in, signed_in}

form_kept : (ms ns : List Node) (start : Place) (ty : ℕ) (f : JoinedForm) → Grows ms ns → ty < length ms → FormIn ms f →
    joined_in ns start (type_of ns ty) f ≡ joined_in ms start (type_of ms ty) f
form_kept ms ns start ty (made.Whole p) g b i = ap Whole (known_stays ms ns p.at g i.below.0)
form_kept ms ns start ty (made.Fixed f) g b i = rw (g.kept ty b, g.kept f.mentions.named i.0, g.kept f.mentions.casts i.1) refl
form_kept ms ns start ty (made.Linked first links) g b i = rw (g.kept ty b, g.kept first i.0, g.kept links i.1) refl
form_kept ms ns start ty (made.Listed is_and os from up_to) g b i = rw (g.kept os i) refl

form_within : (ms ns : List Node) (f : JoinedForm) → Grows ms ns → FormIn ms f → FormIn ns f
form_within ms ns (made.Whole p) g i = part_stays ms ns p g i
form_within ms ns (made.Fixed f) g i = (within ms ns f.mentions.named g i.0, within ms ns f.mentions.casts g i.1)
form_within ms ns (made.Linked first links) g i = (within ms ns first g i.0, within ms ns links g i.1)
form_within ms ns (made.Listed is_and os from up_to) g i = within ms ns os g i

pub joined_kept : (ms ns : List Node) (j : JoinedAt) → Grows ms ns → IsJoined ms j → joined_at ns j ≡ joined_at ms j
joined_kept ms ns j g i = form_kept ms ns j.start j.ty j.form g i.below i.form

pub joined_within : (ms ns : List Node) (j : JoinedAt) → Grows ms ns → IsJoined ms j → IsJoined ns j
joined_within ms ns j g i =
    record {
      start = rw (joined_kept ms ns j g i) i.start;
      ty = rw (joined_kept ms ns j g i, g.kept j.ty i.below) i.ty;
      below = within ms ns j.ty g i.below;
      form = form_within ms ns j.form g i.form;
    }

pub has_joined_kept : JoinedStays
has_joined_kept ms ns None g i = refl
has_joined_kept ms ns (Some j) g i = ap Some (joined_kept ms ns j g i)

pub joined_in_within : JoinedStaysIn
joined_in_within ms ns None g i = i
joined_in_within ms ns (Some j) g i = joined_within ms ns j g i

pub signed_kept : (ms ns : List Node) (s : SignedAt) → Grows ms ns → IsSigned ms s → signed_in ns s ≡ signed_in ms s
signed_kept ms ns (signs.Unsigned p) g i = ap Unsigned (known_stays ms ns p.at g i.below.0)
signed_kept ms ns (signs.Under place to ops of_it) g i = rw (g.kept of_it i) refl

pub signed_within : (ms ns : List Node) (s : SignedAt) → Grows ms ns → IsSigned ms s → IsSigned ns s
signed_within ms ns (signs.Unsigned p) g i = part_stays ms ns p g i
signed_within ms ns (signs.Under place to ops of_it) g i = within ms ns of_it g i

pub has_signed_kept : SignedStays
has_signed_kept ms ns None g i = refl
has_signed_kept ms ns (Some s) g i = ap Some (signed_kept ms ns s g i)

pub signed_in_within : SignedStaysIn
signed_in_within ms ns None g i = i
signed_in_within ms ns (Some s) g i = signed_within ms ns s g i

pub ruleset chains_stay = (joined_kept, joined_within, has_joined_kept, joined_in_within, signed_kept, signed_within, has_signed_kept, signed_in_within)
