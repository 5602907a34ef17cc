-- What a walk makes of a node by which of its parts have typings, and the laws of that.
use Rattle.std.specs.Prelude.{◌≡◌, List, Option, Some, None}
use Rattle.jc_types.specs.declared.environment.Bounds.{Bounds}
use Rattle.jc_types.specs.Breaks.{IsOf, LeastOf}
use Rattle.jc_exprs_nodes_spec.specs.Told.{Run, Ran, Standing, both, breaks, onward, ran, standing, three}
use Rattle.jc_exprs_nodes_spec.specs.Typeds.{Typed}

-- a node one of whose parts has no typing
abbrev pub stopped : {A : Type 0} → Standing → Ran A
stopped s = record { state = s; has = None }

-- a node's rule, where its parts have typings
abbrev pub gated : {A B : Type 0} → (A → Run B) → Option A → Standing → Ran B
gated f None s = stopped s
gated f (Some a) s = ran (f a) s

abbrev pub gated_two : {A B C : Type 0} → (A → B → Run C) → Option A → Option B → Standing → Ran C
gated_two f None b s = stopped s
gated_two f (Some a) None s = stopped s
gated_two f (Some a) (Some b) s = ran (f a b) s

abbrev pub gated_three : {A B C D : Type 0} → (A → B → C → Run D) → Option A → Option B → Option C → Standing → Ran D
gated_three f None b c s = stopped s
gated_three f (Some a) None c s = stopped s
gated_three f (Some a) (Some b) None s = stopped s
gated_three f (Some a) (Some b) (Some c) s = ran (f a b c) s

-- ---- laws, of expressions

-- one part: a walk goes through it, and then the rule is asked
abbrev pub OnePart : Type 0
OnePart = (f : Typed → Run Typed) (m : Run Typed) (s : Standing) → ran (onward m f) s ≡ gated f (ran m s).has (ran m s).state

-- two parts, and three: each from where the walk stands behind the one before
abbrev pub TwoParts : Type 0
TwoParts =
    (f : Typed → Typed → Run Typed) (m n : Run Typed) (s : Standing) →
    ran (onward (both m n) (λ p. f p.0 p.1)) s ≡ gated_two f (ran m s).has (ran n (ran m s).state).has (ran n (ran m s).state).state

abbrev pub behind_two : Run Typed → Run Typed → Standing → Standing
behind_two m n s = (ran n (ran m s).state).state

abbrev pub ThreeParts : Type 0
ThreeParts =
    (f : Typed → Typed → Typed → Run Typed) (m n l : Run Typed) (s : Standing) →
    ran (onward (three m n l) (λ p. f p.0 p.1 p.2)) s
    ≡ gated_three f (ran m s).has (ran n (ran m s).state).has (ran l (behind_two m n s)).has (ran l (behind_two m n s)).state

-- what a walk has found behind its first node is the least of the node's breaks
abbrev pub FoundIsLeast : Type 0
FoundIsLeast = (m : Run Typed) (env : List Bounds) → LeastOf (λ b. IsOf b (breaks (m env).told)) (ran m (standing env None)).state.found
