-- Nodes at a depth: each spends a unit as it is entered, and its act is one level down.
use Rattle.std.proofs.Common.{◌≡◌, ℕ, zero, suc, ◌-◌, ◌<◌, refl, arith}
use Rattle.jc_types.specs.declared.ids.ClassId.{ClassId}
use Rattle.jc_types.specs.declared.ids.MethodId.{MethodId}
use Rattle.jc_running.specs.Outcomes.{Going, leave}
use Rattle.jc_typed.specs.declared.program.TypedProgram.{TypedProgram}
use Rattle.jc_typed.specs.Trees.{Expr, Stmt}
use Rattle.jc_meaning.specs.Kept.{TypedState}
use Rattle.jc_meaning.specs.Expressions as e
use Rattle.jc_meaning.specs.Statements as s
use Rattle.jc_meaning.specs.Classes as k
use Rattle.jc_meaning.specs.Meaning.{meaning, body_act}
use Rattle.jc_pending.specs.Level.{first_use, inner, run}

pub expr_none : (P : TypedProgram) (d : ℕ) (x : Expr) (u : ℕ) (s : TypedState) → d ≡ 0 → (meaning P d).expr x u s ≡ Going s
unfolding meaning
expr_none P d x u s h = rw h refl

pub expr_spent : (P : TypedProgram) (d : ℕ) (x : Expr) (u : ℕ) (s : TypedState) → u ≡ 0 → (meaning P d).expr x u s ≡ Going s
unfolding meaning
expr_spent P zero x u s h = refl
expr_spent P (suc d) x u s h = rw h refl

pub expr_at : (P : TypedProgram) (d : ℕ) (x : Expr) (u : ℕ) (s : TypedState) → 0 < d → 0 < u
    → (meaning P d).expr x u s ≡ leave (e.expr_act P (inner P (d - 1)) x (u - 1) s)
unfolding meaning
expr_at P zero x u s h g = absurd (omega arith)
expr_at P (suc d) x zero s h g = absurd (omega arith)
expr_at P (suc d) x (suc u) s h g =
    let a : d ≡ suc d - 1 = omega arith in
    let b : u ≡ suc u - 1 = omega arith in
    rw (← a, ← b) refl

pub stmt_none : (P : TypedProgram) (d : ℕ) (x : Stmt) (u : ℕ) (s : TypedState) → d ≡ 0 → (meaning P d).stmt x u s ≡ Going s
unfolding meaning
stmt_none P d x u s h = rw h refl

pub stmt_spent : (P : TypedProgram) (d : ℕ) (x : Stmt) (u : ℕ) (s : TypedState) → u ≡ 0 → (meaning P d).stmt x u s ≡ Going s
unfolding meaning
stmt_spent P zero x u s h = refl
stmt_spent P (suc d) x u s h = rw h refl

pub stmt_at : (P : TypedProgram) (d : ℕ) (x : Stmt) (u : ℕ) (t : TypedState) → 0 < d → 0 < u
    → (meaning P d).stmt x u t ≡ leave (s.stmt_act P (inner P (d - 1)) (run P (d - 1)) (d - 1) x (u - 1) t)
unfolding meaning
stmt_at P zero x u t h g = absurd (omega arith)
stmt_at P (suc d) x zero t h g = absurd (omega arith)
stmt_at P (suc d) x (suc u) t h g =
    let a : d ≡ suc d - 1 = omega arith in
    let b : u ≡ suc u - 1 = omega arith in
    rw (← a, ← b) refl

pub body_none : (P : TypedProgram) (d : ℕ) (m : MethodId) (u : ℕ) (s : TypedState) → d ≡ 0 → (meaning P d).body m u s ≡ Going s
unfolding meaning
body_none P d m u s h = rw h refl

pub body_spent : (P : TypedProgram) (d : ℕ) (m : MethodId) (u : ℕ) (s : TypedState) → u ≡ 0 → (meaning P d).body m u s ≡ Going s
unfolding meaning
body_spent P zero m u s h = refl
body_spent P (suc d) m u s h = rw h refl

pub body_at : (P : TypedProgram) (d : ℕ) (m : MethodId) (u : ℕ) (t : TypedState) → 0 < d → 0 < u
    → (meaning P d).body m u t ≡ leave (body_act P (meaning P (d - 1)) (d - 1) m (u - 1) t)
unfolding meaning
body_at P zero m u t h g = absurd (omega arith)
body_at P (suc d) m zero t h g = absurd (omega arith)
body_at P (suc d) m (suc u) t h g =
    let a : d ≡ suc d - 1 = omega arith in
    let b : u ≡ suc u - 1 = omega arith in
    rw (← a, ← b) refl

pub use_none : (P : TypedProgram) (d : ℕ) (c : ClassId) (u : ℕ) (s : TypedState) → d ≡ 0 → first_use P d c u s ≡ Going s
use_none P d c u s h = rw h refl

pub use_spent : (P : TypedProgram) (d : ℕ) (c : ClassId) (u : ℕ) (s : TypedState) → u ≡ 0 → first_use P d c u s ≡ Going s
use_spent P zero c u s h = refl
use_spent P (suc d) c u s h = rw h refl

pub use_at : (P : TypedProgram) (d : ℕ) (c : ClassId) (u : ℕ) (t : TypedState) → 0 < d → 0 < u
    → first_use P d c u t ≡ leave (k.initialise P (meaning P (d - 1)).body (meaning P (d - 1)).ready c (u - 1) t)
use_at P zero c u t h g = absurd (omega arith)
use_at P (suc d) c zero t h g = absurd (omega arith)
use_at P (suc d) c (suc u) t h g =
    let a : d ≡ suc d - 1 = omega arith in
    let b : u ≡ suc u - 1 = omega arith in
    rw (← a, ← b) refl

-- a class is made ready by its first use
pub ready_is : (P : TypedProgram) (d : ℕ) (c : ClassId) (u : ℕ) (s : TypedState) → (meaning P d).ready c u s ≡ k.ready_by P (first_use P d) c u s
unfolding meaning
ready_is P zero c u s = refl
ready_is P (suc d) c u s = refl
