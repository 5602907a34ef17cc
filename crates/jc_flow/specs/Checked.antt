-- What it says that a method is taken, or that it is refused.
use Rattle.std.specs.Prelude.{◌≡◌, true, false, List, All, IsSome, Option, Some, None}
use Rattle.jc_rules.specs.declared.rule.Refusal.{Refusal}
use Rattle.jc_rules.specs.declared.stop.Stop.{Stop}
use Rattle.jc_rules.specs.declared.stop.Stop.TheVariants as stop_of
use Rattle.jc_types.specs.declared.form.Ty.{Ty}
use Rattle.jc_types.specs.declared.table.Table.{Table}
use Rattle.jc_types.specs.declared.environment.Bounds.{Bounds}
use Rattle.jc_types.specs.Accessors.{result_of, thrown_of}
use Rattle.jc_types.specs.Breaks.{IsLeast}
use Rattle.jc_typed.specs.declared.program.Body.{Body}
use Rattle.jc_typed.specs.declared.program.TypedMethod.{TypedMethod}
use Rattle.jc_flow_spec.specs.declared.flow.Thrown.{Thrown}
use Rattle.jc_flow_spec.specs.Throwing.{is_below_any, is_checked}
use Rattle.jc_flow_spec.specs.Methods.{BreaksFlow, end_of}

-- the least break of a method is named; that memory was wanting says nothing of the method
abbrev pub IsFlowStop : Table → TypedMethod → Stop Refusal → Type 0
IsFlowStop T m (stop_of.Refused refused) = IsLeast (BreaksFlow T m) refused
IsFlowStop T m stop_of.WantOfMemory = Unit {0}

-- control doesn't come to the end of the body of a method that has a result (JLS 8.4.7)
abbrev pub ReturnsAlways : Table → TypedMethod → Option Body → Type 0
ReturnsAlways T m None = Unit {0}
ReturnsAlways T m (Some b) = IsSome (result_of T m.id) → (end_of T m b).live ≡ false

-- a type needs no clause, or is a subtype of one that the method declares (JLS 11.2)
abbrev pub MayBeThrown : Table → List Bounds → List Ty → Thrown → Type 0
MayBeThrown T env declared x = is_checked T env x.ty ≡ true → is_below_any T env x.ty declared ≡ true

-- so with each type that the body throws and no clause of its own catches
abbrev pub ThrowsDeclared : Table → TypedMethod → Option Body → Type 0
ThrowsDeclared T m None = Unit {0}
ThrowsDeclared T m (Some b) = All (MayBeThrown T m.captured.bounds (thrown_of T m.id)) (end_of T m b).ways.thrown
