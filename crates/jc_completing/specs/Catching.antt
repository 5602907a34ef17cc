-- The catch clause that takes an exception (JLS 14.20.1).
use Rattle.std.specs.Prelude.{ℕ, List, [], ◌∷◌, Option, Some, None, if◌then◌else◌}
use Rattle.jc_types.specs.declared.erased.Erased.{Erased}
use Rattle.jc_running.specs.declared.value.Value.TheVariants.{Address}
use Rattle.jc_running.specs.declared.value.Completion.{Completion}
use Rattle.jc_running.specs.Outcomes.{throw, behind, stop}
use Rattle.jc_heaps.specs.States.{set_local}
use Rattle.jc_typed.specs.declared.program.TypedProgram.{TypedProgram}
use Rattle.jc_meaning.specs.Kept.{TypedRun}
use Rattle.jc_meaning.specs.Statements as s
use Rattle.jc_values.specs.Idle.{idle}
use Rattle.jc_places.specs.Sorts.{Catch}
use Rattle.jc_pending.specs.Level as l

-- the first clause one of whose alternatives the exception is of
abbrev pub first_catch : TypedProgram → Erased → List Catch → Option Catch
first_catch P e [] = None
first_catch P e (c ∷ more) = if s.is_any_of P idle (λ x. stop) 0 e c.types then Some c else first_catch P e more

-- its block, with the exception in its variable; where there is none, the exception is thrown on
abbrev pub taken : TypedProgram → ℕ → ℕ → Option Catch → TypedRun Completion
taken P d a None = throw a
taken P d a (Some c) = behind (set_local c.local (Address a)) (l.run P d c.body)
