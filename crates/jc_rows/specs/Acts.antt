-- What a row does: the instruction table (JVMS 6.5) once more, over what the names mean.
use Rattle.std.specs.Prelude.{ℕ, List, ◌∷◌, option_and_then, slice_get}
use Rattle.std.specs.declared.option.Option.{Option}
use Rattle.std.specs.declared.option.Option.TheVariants.{Some, None}
use Rattle.jc_class_out.specs.declared.model.ClassModel.{ClassModel}
use Rattle.jc_heap.specs.Signatures.{selected_as}
use Rattle.jc_jvm.specs.Calls.{Step, stuck, acts, arguments_of, called, called_specially, called_statically, null_pointer, selecting_class}
use Rattle.jc_jvm.specs.Objects.{Act_in, element_loaded, element_stored, array_length, array_made, arrays_made, object_made, field_loaded, field_stored, field_pushed, literal_pushed}
use Rattle.jc_jvm.specs.Table.{plain_act, switches, given_back, returns_by, throws_top, first_initialised, static_kept, casts, tests}
use Rattle.jc_jvm.specs.Worlds.{statics_at}
use Rattle.jc_jvm.specs.declared.frame.Frame.{Frame}
use Rattle.jc_jvm.specs.declared.frame.Waiting.{Waiting}
use Rattle.jc_jvm.specs.declared.value.Value.{Value}
use Rattle.jc_jvm.specs.declared.value.Value.TheVariants.{Address, NullValue}
use Rattle.jc_jvm.specs.declared.world.World.{World}
use Rattle.jc_rows.specs.declared.row.Row.{Row}
use Rattle.jc_rows.specs.declared.row.Row.TheVariants as row

-- the rows that run no other code
abbrev pub row_act : List ClassModel → World → ℕ → Frame → Row → Option Act_in
row_act classes world next now (row.Alone plain) = Some (world, plain_act plain next now)
row_act classes world next now (row.Literal text) = Some (literal_pushed classes text world next now)
row_act classes world next now (row.LoadElement element) = Some (world, element_loaded element world next now now.stack.values)
row_act classes world next now (row.StoreElement element) = Some (element_stored classes element world next now now.stack.values)
row_act classes world next now (row.Switch otherwise cases) = Some (world, switches otherwise cases now now.stack.values)
row_act classes world next now (row.LoadField sort slot) = Some (world, field_loaded sort slot world next now now.stack.values)
row_act classes world next now (row.StoreField sort slot) = Some (field_stored sort slot world next now now.stack.values)
row_act classes world next now (row.NewArray of) = Some (array_made of world next now now.stack.values)
row_act classes world next now (row.NewNest shape dims) = Some (arrays_made shape dims world next now)
row_act classes world next now row.Length = Some (world, array_length world next now now.stack.values)
row_act classes world next now (row.Cast shape) = Some (world, casts classes world next now shape now.stack.values)
row_act classes world next now (row.Test shape) = Some (world, tests classes world next now shape now.stack.values)
row_act classes world next now _ = None

-- a call on an object of the method of this number
abbrev pub called_by_number : List ClassModel → Option ℕ → World → ℕ → Frame → List Waiting → Option (List Value × List Value) → Step
called_by_number classes signature world next now waiting (Some (Address at ∷ more, rest)) =
    called classes world next now waiting (Address at ∷ more) rest (option_and_then (selected_as classes signature) (selecting_class classes (slice_get world.heap at)))
called_by_number classes signature world next now waiting (Some (NullValue ∷ more, rest)) = null_pointer classes world now waiting
called_by_number classes signature world next now waiting _ = stuck

-- the other rows
abbrev pub row_run : List ClassModel → World → ℕ → Frame → List Waiting → Row → Step
row_run classes world next now waiting (row.Return wanted given) = returns_by classes world waiting (given_back wanted given now.stack.values)
row_run classes world next now waiting row.Throw = throws_top classes world now waiting now.stack.values
row_run classes world next now waiting (row.LoadStatic sort class field) =
    first_initialised classes world now waiting class (acts classes waiting (world, field_pushed sort next now now.stack.values (statics_at world (class, field))))
row_run classes world next now waiting (row.StoreStatic sort class field) =
    first_initialised classes world now waiting class (acts classes waiting (static_kept sort world next now (class, field) now.stack.values))
row_run classes world next now waiting (row.CallVirtual signature sorts) =
    called_by_number classes signature world next now waiting (arguments_of sorts now.stack.values)
row_run classes world next now waiting (row.CallSpecial target sorts) = called_specially classes target world next now waiting (arguments_of sorts now.stack.values)
row_run classes world next now waiting (row.CallStatic class method sorts) =
    first_initialised classes world now waiting class (called_statically classes (class, method) world next now waiting (arguments_of sorts now.stack.values))
row_run classes world next now waiting (row.New class) = first_initialised classes world now waiting class (acts classes waiting (object_made classes class world next now))
row_run classes world next now waiting _ = stuck

-- what the row did to its frame, or else the step that it ran
abbrev pub row_settled : List ClassModel → List Waiting → Step → Option Act_in → Step
row_settled classes waiting run (Some done) = acts classes waiting done
row_settled classes waiting run None = run

-- one step of a frame whose instruction is this row, with the place behind it
abbrev pub row_step : List ClassModel → World → ℕ → Frame → List Waiting → Row → Step
row_step classes world next now waiting row = row_settled classes waiting (row_run classes world next now waiting row) (row_act classes world next now row)
