-- What a walk has in its arena of constants.
use Rattle.std.specs.Prelude.{ℕ, ◌<◌, List, [], ◌∷◌, Option, Some, None}
use Rattle.jc_typed.specs.declared.nodes.Node.{Node}
use Rattle.jc_typed.specs.Parts.{constant_of, names_of, places_of}
use Rattle.jc_typed.specs.Trees.{Named, Operands, NoOperands, MoreOperands}
use Rattle.jc_exprs_nodes_spec.specs.Typeds.{Known}
use Rattle.jc_exprs_constants.specs.declared.known.KnownAt.{KnownAt}
use Rattle.jc_exprs_constants.specs.declared.lists.NamedLocal.{NamedLocal}

-- a constant, with the locals that its expression names and the places of its casts to String
abbrev pub known_at : List Node → KnownAt → Known
known_at ns k = record { value = constant_of ns k.value; named = names_of ns k.named; casts = places_of ns k.casts }

abbrev pub has_known : List Node → Option KnownAt → Option Known
has_known ns None = None
has_known ns (Some k) = Some (known_at ns k)

abbrev pub KnownBelow : ℕ → Option KnownAt → Type 0
KnownBelow n None = Unit {0}
KnownBelow n (Some k) = (k.value < n) × (k.named < n) × (k.casts < n)

-- one that is named through an operand is none
abbrev pub if_unnamed : Operands → Known → Option Known
if_unnamed NoOperands k = Some k
if_unnamed (MoreOperands before last) k = None

-- the members of a stack, the last one first
abbrev pub unstacked : {A : Type 0} → List A → List A → List A
unstacked [] ys = ys
unstacked (x ∷ xs) ys = unstacked xs (x ∷ ys)

abbrev pub named_of : NamedLocal → Named
named_of n = record { place = n.place; local = n.local }

abbrev pub unstacked_names : List NamedLocal → List Named → List Named
unstacked_names [] ys = ys
unstacked_names (x ∷ xs) ys = unstacked_names xs (named_of x ∷ ys)
