-- What is built of a first value that was read and of what was read behind it.
use Rattle.std.specs.Prelude.{◌≡◌, ℕ, min, Result, Ok, Err}
use Rattle.jc_tree.specs.declared.expression.AssignOp.{AssignOp}
use Rattle.jc_tree.specs.declared.expression.Expr.{Expr}
use Rattle.jc_reading.specs.declared.reading.Found.{Found}
use Rattle.jc_reading.specs.declared.reading.Halt.{Halt}
use Rattle.jc_reading.specs.declared.reading.Halt.TheVariants as halt_of
use Rattle.jc_parse_expr.specs.declared.measured.Measured.{Measured}
use Rattle.jc_parse_expr.specs.Nodes.{assign_node, conditional_node}

-- the tokens behind both, and the further reach
abbrev pub Both : {A B C : Type 0} → (A → B → C) → Found A → Found B → Found C → Type 0
Both node first more r = (r.value ≡ node first.value more.value) × (r.rest.now ≡ more.rest.now) × (r.left ≡ min first.left more.left)

-- the node of both, where memory isn't wanting
abbrev pub Built : {A B C : Type 0} → (A → B → C) → Found A → Found B → Result (Found C) Halt → Type 0
Built node first more (Ok r) = Both node first more r
Built node first more (Err halt) = halt ≡ halt_of.WantOfMemory

-- the first value as it is, where what stopped behind it has `left` tokens from its reach on
abbrev pub Alone : {A : Type 0} → Found A → ℕ → Result (Found A) Halt → Type 0
Alone first left (Ok r) = (r.value ≡ first.value) × (r.rest.now ≡ first.rest.now) × (r.left ≡ min first.left left)
Alone first left (Err halt) = ⊥

-- nothing is built, as memory is wanting
abbrev pub Wants : {C : Type 0} → Result (Found C) Halt → Type 0
Wants (Ok r) = ⊥
Wants (Err halt) = halt ≡ halt_of.WantOfMemory

-- nothing is built, and `left` tokens are left from the reach on
abbrev pub Stops : {C : Type 0} → ℕ → Result (Found C) Halt → Type 0
Stops left (Ok r) = ⊥
Stops left (Err halt) = halt ≡ halt_of.Stopped left

-- where nothing stands behind the first, it stands alone
abbrev pub After : {A B : Type 0} → (A → B → A) → Found A → Result (Found B) Halt → Result (Found A) Halt → Type 0
After node first (Ok more) result = Built node first more result
After node first (Err (halt_of.Stopped left)) result = Alone first left result
After node first (Err halt_of.WantOfMemory) result = Wants result

-- where nothing stands behind the first, there is neither
abbrev pub Joined : {A B C : Type 0} → (A → B → C) → Found A → Result (Found B) Halt → Result (Found C) Halt → Type 0
Joined node first (Ok more) result = Built node first more result
Joined node first (Err (halt_of.Stopped left)) result = Stops (min first.left left) result
Joined node first (Err halt_of.WantOfMemory) result = Wants result

-- an assignment of its target and of what stands behind it
abbrev pub assign_right : Measured Expr → (AssignOp × Measured Expr) → Measured Expr
assign_right v p = assign_node v p.0 p.1

-- both values as a pair
abbrev pub pair_of : {A B : Type 0} → A → B → A × B
pair_of a b = (a, b)

-- a test and both branches
abbrev pub AllThree : Found (Measured Expr) → Found (Measured Expr) → Found (Measured Expr) → Result (Found (Measured Expr)) Halt → Type 0
AllThree test then other (Ok r) = (r.value ≡ conditional_node test.value then.value other.value) × (r.rest.now ≡ other.rest.now) × (r.left ≡ min test.left (min then.left other.left))
AllThree test then other (Err halt) = halt ≡ halt_of.WantOfMemory

-- where nothing stands behind the first branch, the test stands alone
abbrev pub Chosen : Found (Measured Expr) → Found (Measured Expr) → Result (Found (Measured Expr)) Halt → Result (Found (Measured Expr)) Halt → Type 0
Chosen test then (Ok other) result = AllThree test then other result
Chosen test then (Err (halt_of.Stopped left)) result = Alone test (min then.left left) result
Chosen test then (Err halt_of.WantOfMemory) result = Wants result

-- a value alone, where no more stands behind what reaches so far
abbrev pub LeftAlone : {A : Type 0} → Found A → ℕ → Halt → Result (Found A) Halt → Type 0
LeftAlone first reach (halt_of.Stopped left) result = Alone first (min reach left) result
LeftAlone first reach halt_of.WantOfMemory result = Wants result
