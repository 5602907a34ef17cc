-- Lists of parts: what a walk has of them in its arena, where it has all of them, and how it goes through them one after another.
use Rattle.std.specs.Prelude.{◌≡◌, ℕ, ◌<◌, ◌&&◌, Bool, true, false, List, [], ◌∷◌, Option, Some, None, is_some, length}
use Rattle.jc_typed.specs.declared.nodes.Node.{Node}
use Rattle.jc_typed.specs.Parts.{operand_of}
use Rattle.jc_typed.specs.Trees.{Operand, NoOperand, operand}
use Rattle.jc_exprs_nodes_spec.specs.Told.{Run, Ran, Standing, both, every, onward, ran}
use Rattle.jc_exprs_nodes_spec.specs.Gates.{gated, gated_two}
use Rattle.jc_exprs_nodes_spec.specs.Typeds.{Typed}
use Rattle.jc_exprs_nodes.specs.Laws.{with_more}
use Rattle.jc_exprs_nodes.specs.Walks.{has, known}

-- behind those of a list, what stands at each of these places
abbrev pub gathered : {A : Type 0} → (ℕ → Option A) → Option (List A) → List ℕ → Option (List A)
gathered f o [] = o
gathered f o (at ∷ ats) = gathered f (with_more o (f at)) ats

-- something stands at each of these places
abbrev pub all_there : {A : Type 0} → (ℕ → Option A) → List ℕ → Bool
all_there f [] = true
all_there f (at ∷ ats) = is_some (f at) && all_there f ats

abbrev pub where_all : {A : Type 0} → Bool → List A → Option (List A)
where_all true ts = Some ts
where_all false ts = None

-- ---- expressions

-- the typed expressions at these places, where each of them has a typing
unfoldable pub has_all : List Node → List ℕ → Option (List Typed)
has_all ns ats = gathered (has ns) (Some []) ats

-- this place has a typing
pub record IsTyped (ns : List Node) (at : ℕ) : Type 0 where
  pub it : has ns at ≡ Some (known ns at)
  pub below : at < length ns

-- each of these places has one
abbrev pub AllParts : List Node → List ℕ → Type 0
AllParts ns [] = Unit {0}
AllParts ns (at ∷ ats) = IsTyped ns at × AllParts ns ats

-- ---- operands

abbrev pub if_given : Operand → Option Operand
if_given NoOperand = None
if_given (operand place e steps) = Some (operand place e steps)

abbrev pub has_operand : List Node → ℕ → Option Operand
has_operand ns at = if_given (operand_of ns at)

-- the operands at these places, where each of them is there
unfoldable pub has_operands : List Node → List ℕ → Option (List Operand)
has_operands ns ats = gathered (has_operand ns) (Some []) ats

-- ---- how a walk goes through them

-- behind what it has so far
abbrev pub walked : {A : Type 0} → Option (List A) → List (Run A) → Standing → Ran (List A)
walked o [] s = record { state = s; has = o }
walked o (m ∷ ms) s = walked (with_more o (ran m s).has) ms (ran m s).state

-- ---- laws

abbrev pub EveryIsWalked : Type 0
EveryIsWalked = (ms : List (Run Typed)) (s : Standing) → ran (every ms) s ≡ walked (Some []) ms s

abbrev pub ListOfParts : Type 0
ListOfParts = (f : List Typed → Run Typed) (ms : List (Run Typed)) (s : Standing) → ran (onward (every ms) f) s ≡ gated f (ran (every ms) s).has (ran (every ms) s).state

abbrev pub ListBehind : Type 0
ListBehind =
    (f : Typed → List Typed → Run Typed) (m : Run Typed) (ms : List (Run Typed)) (s : Standing) →
    ran (onward (both m (every ms)) (λ p. f p.0 p.1)) s ≡ gated_two f (ran m s).has (ran (every ms) (ran m s).state).has (ran (every ms) (ran m s).state).state
