-- Computations that run no body do the same whatever runs bodies.
use Rattle.std.proofs.Common.{◌≡◌, ℕ, List, refl}
use Rattle.jc_types.specs.declared.form.Ty.{Ty}
use Rattle.jc_types.specs.declared.constant.Op.{Op}
use Rattle.jc_types.specs.declared.constant.Constant.{Constant}
use Rattle.jc_types.specs.declared.erased.Erased.{Erased}
use Rattle.jc_running.specs.declared.value.Value.{Value}
use Rattle.jc_running.specs.declared.value.Completion.{Completion}
use Rattle.jc_running.specs.Outcomes.{stop}
use Rattle.jc_typed.specs.declared.lists.Capture.{Capture}
use Rattle.jc_typed.specs.declared.program.TypedProgram.{TypedProgram}
use Rattle.jc_typed.specs.Trees.{Stmt}
use Rattle.jc_meaning.specs.Kept.{TypedState, TypedRun}
use Rattle.jc_meaning.specs.Expressions as e
use Rattle.jc_meaning.specs.Statements as s
use Rattle.jc_values.specs.Idle.{idle}

module _ (P : TypedProgram) (r : e.Inner) where
  pub capture_idle : (v : Value) (cs : List Capture) (u : ℕ) (s : TypedState) → e.capture P idle v cs u s ≡ e.capture P r v cs u s
  capture_idle v cs u s = refl

  pub forget_idle : (from n u : ℕ) (s : TypedState) → e.forget P idle from n u s ≡ e.forget P r from n u s
  forget_idle from n u s = refl

  pub prefixes_idle : (ops : List Op) (v : Value) (u : ℕ) (s : TypedState) → e.prefixes P idle ops v u s ≡ e.prefixes P r ops v u s
  prefixes_idle ops v u s = refl

  pub constant_idle : (c : Constant) (u : ℕ) (s : TypedState) → e.constant_value P idle c u s ≡ e.constant_value P r c u s
  constant_idle c u s = refl

  pub arrays_idle : (t : Ty) (ns : List ℕ) (u : ℕ) (s : TypedState) → e.arrays P idle t ns u s ≡ e.arrays P r t ns u s
  arrays_idle t ns u s = refl

  pub any_idle : (run : Stmt → TypedRun Completion) (k : ℕ) (x : Erased) (ts : List Ty)
      → s.is_any_of P idle (λ y. stop) 0 x ts ≡ s.is_any_of P r run k x ts
  any_idle run k x ts = refl

pub ruleset idles = (capture_idle, forget_idle, prefixes_idle, constant_idle, arrays_idle, any_idle)
