-- What is made of a first value that was read and of what was read behind it.
use Rattle.std.specs.Prelude.{◌≡◌, ℕ, min, List, [], ◌∷◌, Result, Ok, Err}
use Rattle.jc_reading.specs.declared.reading.Found as answer
use Rattle.jc_reading.specs.declared.reading.Halt.{Halt}
use Rattle.jc_reading.specs.declared.reading.Halt.TheVariants as halt_of

-- what stops behind tokens whose reach is told
abbrev pub behind : ℕ → Halt → Halt
behind left (halt_of.Stopped reach) = halt_of.Stopped (min left reach)
behind left halt_of.WantOfMemory = halt_of.WantOfMemory

-- a value of both, the tokens behind them and the further reach
abbrev pub Both : {A B C : Type 0} → (A → B → C) → answer.Found A → answer.Found B → answer.Found C → Type 0
Both node first more r = (r.value ≡ node first.value more.value) × (r.rest.now ≡ more.rest.now) × (r.left ≡ min first.left more.left)

-- the node of both, where memory isn't wanting
abbrev pub Built : {A B C : Type 0} → (A → B → C) → answer.Found A → answer.Found B → Result (answer.Found C) Halt → Type 0
Built node first more (Ok r) = Both node first more r
Built node first more (Err halt) = halt ≡ halt_of.WantOfMemory

-- nothing is built, for this reason
abbrev pub Stops : {C : Type 0} → Halt → Result (answer.Found C) Halt → Type 0
Stops stop (Ok r) = ⊥
Stops stop (Err halt) = halt ≡ stop

-- where nothing stands behind the first, there is neither
abbrev pub Joined : {A B C : Type 0} → (A → B → C) → answer.Found A → Result (answer.Found B) Halt → Result (answer.Found C) Halt → Type 0
Joined node first (Ok more) result = Built node first more result
Joined node first (Err halt) result = Stops (behind first.left halt) result

-- a list of one
abbrev pub alone : {A : Type 0} → A → List A
alone a = a ∷ []
