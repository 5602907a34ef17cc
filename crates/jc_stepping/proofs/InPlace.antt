-- What a row does in place is what its step does.
use Rattle.std.proofs.Common.{◌≡◌, ℕ, Bool, true, false, List, ap, refl}
use Rattle.std.specs.declared.option.Option.{Option}
use Rattle.std.specs.declared.option.Option.TheVariants.{Some, None}
use Rattle.jc_class_out.specs.declared.model.ClassModel.{ClassModel}
use Rattle.jc_jvm.specs.Calls.{acts}
use Rattle.jc_jvm.specs.Objects.{Act_in, element_loaded, element_stored, array_length, field_loaded, field_stored, field_pushed, literal_by}
use Rattle.jc_jvm.specs.Table.{initialised_first, plain_act, switches, static_kept, casts, tests}
use Rattle.jc_jvm.specs.Worlds.{interned_in, state_of_class, statics_at}
use Rattle.jc_jvm.specs.declared.frame.Frame.{Frame}
use Rattle.jc_jvm.specs.declared.frame.Waiting.{Waiting}
use Rattle.jc_jvm.specs.declared.world.ClassState.{ClassState}
use Rattle.jc_jvm.specs.declared.world.ClassState.TheVariants.{Untouched, InProgress, Ready, Failed}
use Rattle.jc_jvm.specs.declared.world.World.{World}
use Rattle.jc_rows.specs.Acts.{row_step}
use Rattle.jc_rows.specs.declared.row.Row.{Row}
use Rattle.jc_rows.specs.declared.row.Row.TheVariants as row
use Rattle.jc_stepping.specs.InPlace.{if_open, literal_known, in_place}
use Rattle.jc_waiting.specs.Readying.{is_open}

same_acts : (classes : List ClassModel) (waiting : List Waiting) (x done : Act_in) → Some x ≡ Some done → acts classes waiting x ≡ acts classes waiting done
same_acts classes waiting x done e = let same : x ≡ done = cc in ap (λ (d : Act_in). acts classes waiting d) same

known_acts : (classes : List ClassModel) (text : List ℕ) (world : World) (next : ℕ) (now : Frame) (waiting : List Waiting) (o : Option ℕ) (done : Act_in) →
    literal_known world next now o ≡ Some done → acts classes waiting (literal_by classes text world next now o) ≡ acts classes waiting done
known_acts classes text world next now waiting (Some address) done e = same_acts classes waiting (literal_by classes text world next now (Some address)) done e
known_acts classes text world next now waiting None done e = cc

open_acts : (classes : List ClassModel) (world : World) (now : Frame) (waiting : List Waiting) (state : Option ClassState) (class : ℕ) (x done : Act_in) →
    if_open (is_open state) x ≡ Some done → initialised_first classes world now waiting state class (acts classes waiting x) ≡ acts classes waiting done
open_acts classes world now waiting (Some Ready) class x done e = same_acts classes waiting x done e
open_acts classes world now waiting (Some InProgress) class x done e = same_acts classes waiting x done e
open_acts classes world now waiting (Some Untouched) class x done e = cc
open_acts classes world now waiting (Some Failed) class x done e = cc
open_acts classes world now waiting None class x done e = cc

-- where a row acts in place
pub acts_in_place : (classes : List ClassModel) (world : World) (next : ℕ) (now : Frame) (waiting : List Waiting) (r : Row) (done : Act_in) →
    in_place classes world next now r ≡ Some done → row_step classes world next now waiting r ≡ acts classes waiting done
acts_in_place classes world next now waiting (row.Alone plain) done e = same_acts classes waiting (world, plain_act plain next now) done e
acts_in_place classes world next now waiting (row.Literal text) done e = known_acts classes text world next now waiting (interned_in world.interned text) done e
acts_in_place classes world next now waiting (row.LoadElement element) done e = same_acts classes waiting (world, element_loaded element world next now now.stack.values) done e
acts_in_place classes world next now waiting (row.StoreElement element) done e = same_acts classes waiting (element_stored classes element world next now now.stack.values) done e
acts_in_place classes world next now waiting (row.Switch otherwise cases) done e = same_acts classes waiting (world, switches otherwise cases now now.stack.values) done e
acts_in_place classes world next now waiting (row.LoadStatic sort class field) done e =
    open_acts classes world now waiting (state_of_class world class) class (world, field_pushed sort next now now.stack.values (statics_at world (class, field))) done e
acts_in_place classes world next now waiting (row.StoreStatic sort class field) done e =
    open_acts classes world now waiting (state_of_class world class) class (static_kept sort world next now (class, field) now.stack.values) done e
acts_in_place classes world next now waiting (row.LoadField sort slot) done e = same_acts classes waiting (world, field_loaded sort slot world next now now.stack.values) done e
acts_in_place classes world next now waiting (row.StoreField sort slot) done e = same_acts classes waiting (field_stored sort slot world next now now.stack.values) done e
acts_in_place classes world next now waiting row.Length done e = same_acts classes waiting (world, array_length world next now now.stack.values) done e
acts_in_place classes world next now waiting (row.Cast shape) done e = same_acts classes waiting (world, casts classes world next now shape now.stack.values) done e
acts_in_place classes world next now waiting (row.Test shape) done e = same_acts classes waiting (world, tests classes world next now shape now.stack.values) done e
acts_in_place classes world next now waiting _ done e = cc

closed : (b : Bool) (x : Act_in) → if_open b x ≡ None → b ≡ false
closed true x e = cc
closed false x e = refl

-- where a row on a class isn't done in place
pub closed_class : (world : World) (class : ℕ) (x : Act_in) → if_open (is_open (state_of_class world class)) x ≡ None → is_open (state_of_class world class) ≡ false
closed_class world class x e = closed (is_open (state_of_class world class)) x e

-- where a literal wasn't used before
pub unknown_literal : (world : World) (next : ℕ) (now : Frame) (o : Option ℕ) → literal_known world next now o ≡ None → o ≡ None
unknown_literal world next now (Some address) e = cc
unknown_literal world next now None e = refl
