-- What a walk makes of parts together, of a list of parts, and of a part with the captured variables of it.
use Rattle.std.specs.Prelude.{◌≡◌, ℕ, List, [], ◌∷◌, ◌++◌, Option, Some, None, length}
use Rattle.jc_exprs_nodes_spec.specs.Told.{Run, Ran, Standing, Spanned, both, every, feeding, onward, ran, spanned}
use Rattle.jc_exprs_nodes_spec.specs.Gates.{gated_two}
use Rattle.jc_exprs_nodes_spec.specs.Typeds.{Typed}

-- both, where each of them is there
abbrev pub paired : {A B : Type 0} → Option A → Option B → Option (A × B)
paired None b = None
paired (Some a) None = None
paired (Some a) (Some b) = Some (a, b)

abbrev pub ran_pair : {A B : Type 0} → Ran A → Ran B → Ran (A × B)
ran_pair m n = record { state = n.state; has = paired m.has n.has }

-- a list with one member more
abbrev pub with_more : {A : Type 0} → Option (List A) → Option A → Option (List A)
with_more None a = None
with_more (Some ts) None = None
with_more (Some ts) (Some t) = Some (ts ++ t ∷ [])

abbrev pub ran_more : {A : Type 0} → Ran (List A) → Ran A → Ran (List A)
ran_more m n = record { state = n.state; has = with_more m.has n.has }

-- with the numbers of the captured variables before it and behind it
abbrev pub span_of : {A : Type 0} → Option A → ℕ → ℕ → Option (Spanned A)
span_of None from up_to = None
span_of (Some a) from up_to = Some (record { it = a; from = from; up_to = up_to })

abbrev pub ran_span : {A : Type 0} → Standing → Ran A → Ran (Spanned A)
ran_span s m = record { state = m.state; has = span_of m.has (length s.env) (length m.state.env) }

-- ---- laws, of expressions

-- a second part that is asked by the first one
abbrev pub FeedingParts : Type 0
FeedingParts =
    (f : Typed → Typed → Run Typed) (m : Run Typed) (g : Option Typed → Run Typed) (s : Standing) →
    ran (onward (feeding m g) (λ p. f p.0 p.1)) s ≡ gated_two f (ran m s).has (ran (g (ran m s).has) (ran m s).state).has (ran (g (ran m s).has) (ran m s).state).state

abbrev pub BothParts : Type 0
BothParts = (m n : Run Typed) (s : Standing) → ran (both m n) s ≡ ran_pair (ran m s) (ran n (ran m s).state)

abbrev pub SpannedPart : Type 0
SpannedPart = (m : Run Typed) (s : Standing) → ran (spanned m) s ≡ ran_span s (ran m s)

-- a list of parts begins with none, and grows by one
abbrev pub NoParts : Type 0
NoParts = (s : Standing) → ran (every {A = Typed} []) s ≡ record { state = s; has = Some [] }

abbrev pub MoreParts : Type 0
MoreParts = (ms : List (Run Typed)) (m : Run Typed) (s : Standing) → ran (every (ms ++ m ∷ [])) s ≡ ran_more (ran (every ms) s) (ran m (ran (every ms) s).state)
