-- An array of arrays (JLS 15.10.1).
use Rattle.std.specs.Prelude.{ℕ, List}
use Rattle.jc_types.specs.declared.form.Ty.{Ty}
use Rattle.jc_running.specs.declared.value.Value.{Value}
use Rattle.jc_running.specs.declared.value.Value.TheVariants.{Address}
use Rattle.jc_running.specs.Outcomes.{give, bind, behind}
use Rattle.jc_typed.specs.declared.program.TypedProgram.{TypedProgram}
use Rattle.jc_meaning.specs.Kept.{TypedRun}
use Rattle.jc_meaning.specs.Expressions as e
use Rattle.jc_values.specs.Idle.{idle}

-- an array, and then each of its elements, which are arrays of the further lengths
abbrev pub rows : TypedProgram → Ty → ℕ → List ℕ → TypedRun Value
rows P t n more =
    bind (e.new_array P idle t n) (λ a.
    behind (e.fill P idle a 0 n (e.arrays P idle (e.element_type P idle t) more)) (give (Address a)))
