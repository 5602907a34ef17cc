-- Constant expressions as a walk has them.
use Rattle.std.specs.Prelude.{◌≡◌, ℕ, ◌<◌, List, Option, Some, None}
use Rattle.jc_types.specs.declared.constant.Constant.TheVariants.{Text}
use Rattle.jc_typed.specs.declared.nodes.Node.{Node}
use Rattle.jc_typed.specs.Parts.{constant_of, names_of, places_of}
use Rattle.jc_exprs_nodes_spec.specs.Typeds.{Known}
use Rattle.jc_exprs_operators.specs.declared.constants.Mentions.{Mentions}
use Rattle.jc_exprs_operators.specs.declared.constants.KnownAt.{KnownAt}
use Rattle.jc_exprs_operators.specs.declared.constants.Folded.{Folded}
use Rattle.jc_exprs_operators.specs.declared.constants.Grown.{Grown}
use Rattle.jc_exprs_operators.specs.declared.constants.Grown.TheVariants.{More, Same}

abbrev pub MentionsBelow : ℕ → Mentions → Type 0
MentionsBelow n m = (m.named < n) × (m.casts < n)

-- in the arena
abbrev pub known_at : List Node → KnownAt → Known
known_at ns k = record { value = constant_of ns k.value; named = names_of ns k.mentions.named; casts = places_of ns k.mentions.casts }

abbrev pub has_known : List Node → Option KnownAt → Option Known
has_known ns None = None
has_known ns (Some k) = Some (known_at ns k)

abbrev pub KnownBelow : ℕ → Option KnownAt → Type 0
KnownBelow n None = Unit {0}
KnownBelow n (Some k) = (k.value < n) × MentionsBelow n k.mentions

-- .. and with a value outside of it
abbrev pub folded_in : List Node → Folded → Known
folded_in ns f = record { value = f.value; named = names_of ns f.mentions.named; casts = places_of ns f.mentions.casts }

abbrev pub has_folded : List Node → Option Folded → Option Known
has_folded ns None = None
has_folded ns (Some f) = Some (folded_in ns f)

abbrev pub FoldedBelow : ℕ → Option Folded → Type 0
FoldedBelow n None = Unit {0}
FoldedBelow n (Some f) = MentionsBelow n f.mentions

-- a string with what it mentions
abbrev pub text_in : List Node → List ℕ → Mentions → Known
text_in ns units m = record { value = Text units; named = names_of ns m.named; casts = places_of ns m.casts }

-- a further operand
abbrev pub has_grown : List Node → Grown → Option Known
has_grown ns (More f) = Some (folded_in ns f)
has_grown ns (Same f) = None

abbrev pub IsSame : List Node → Known → Grown → Type 0
IsSame ns k (More f) = Unit {0}
IsSame ns k (Same f) = folded_in ns f ≡ k

abbrev pub GrownBelow : ℕ → Grown → Type 0
GrownBelow n (More f) = MentionsBelow n f.mentions
GrownBelow n (Same f) = MentionsBelow n f.mentions
