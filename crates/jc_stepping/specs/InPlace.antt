-- What a row does in place: it runs no other code, and makes no object, array, string or frame (JVMS 6.5).
use Rattle.std.specs.Prelude.{ℕ, Bool, true, false, List}
use Rattle.std.specs.declared.option.Option.{Option}
use Rattle.std.specs.declared.option.Option.TheVariants.{Some, None}
use Rattle.jc_class_out.specs.declared.model.ClassModel.{ClassModel}
use Rattle.jc_jvm.specs.Frames.{pushes}
use Rattle.jc_jvm.specs.Objects.{Act_in, element_loaded, element_stored, array_length, field_loaded, field_stored, field_pushed}
use Rattle.jc_jvm.specs.Table.{plain_act, switches, static_kept, casts, tests}
use Rattle.jc_jvm.specs.Worlds.{interned_in, state_of_class, statics_at}
use Rattle.jc_jvm.specs.declared.frame.Frame.{Frame}
use Rattle.jc_jvm.specs.declared.value.Value.TheVariants.{Address}
use Rattle.jc_jvm.specs.declared.world.World.{World}
use Rattle.jc_rows.specs.declared.row.Row.{Row}
use Rattle.jc_rows.specs.declared.row.Row.TheVariants as row
use Rattle.jc_waiting.specs.Readying.{is_open}

-- a literal that was used before
abbrev pub literal_known : World → ℕ → Frame → Option ℕ → Option Act_in
literal_known world next now (Some address) = Some (world, pushes next now now.stack.values (Address address))
literal_known world next now None = None

-- what an instruction on a class does that needs no initialisation
abbrev pub if_open : Bool → Act_in → Option Act_in
if_open true done = Some done
if_open false done = None

-- none for the other rows, for a class that is to be initialised first, and for a literal that was not used before
abbrev pub in_place : List ClassModel → World → ℕ → Frame → Row → Option Act_in
in_place classes world next now (row.Alone plain) = Some (world, plain_act plain next now)
in_place classes world next now (row.Literal text) = literal_known world next now (interned_in world.interned text)
in_place classes world next now (row.LoadElement element) = Some (world, element_loaded element world next now now.stack.values)
in_place classes world next now (row.StoreElement element) = Some (element_stored classes element world next now now.stack.values)
in_place classes world next now (row.Switch otherwise cases) = Some (world, switches otherwise cases now now.stack.values)
in_place classes world next now (row.LoadStatic sort class field) =
    if_open (is_open (state_of_class world class)) (world, field_pushed sort next now now.stack.values (statics_at world (class, field)))
in_place classes world next now (row.StoreStatic sort class field) =
    if_open (is_open (state_of_class world class)) (static_kept sort world next now (class, field) now.stack.values)
in_place classes world next now (row.LoadField sort slot) = Some (world, field_loaded sort slot world next now now.stack.values)
in_place classes world next now (row.StoreField sort slot) = Some (field_stored sort slot world next now now.stack.values)
in_place classes world next now row.Length = Some (world, array_length world next now now.stack.values)
in_place classes world next now (row.Cast shape) = Some (world, casts classes world next now shape now.stack.values)
in_place classes world next now (row.Test shape) = Some (world, tests classes world next now shape now.stack.values)
in_place classes world next now _ = None
