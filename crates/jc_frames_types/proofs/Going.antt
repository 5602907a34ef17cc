-- Units beside the items of a frame.
use Rattle.std.proofs.Common.{◌≡◌, ◌∙◌, ◌≤◌, ℕ, true, false, List, [], ◌∷◌, length, map, drop, subst, sym, ap, refl, arith}
use Rattle.std.specs.declared.option.Option.{Option}
use Rattle.std.specs.declared.option.Option.TheVariants.{Some, None}
use Rattle.jc_class_out.specs.declared.model.ClassModel.{ClassModel}
use Rattle.jc_class_out.specs.declared.model.Item.{Item}
use Rattle.jc_class_out.specs.declared.model.Item.TheVariants as item
use Rattle.jc_frames_types.specs.Items.{item_of, is_assignable}
use Rattle.jc_frames_types.specs.States.{behind_assignable}
use Rattle.jc_frames_types.specs.Taken.{units_used, Goes}
use Rattle.jc_frames_types.specs.declared.units.UnitType.{UnitType}

-- nothing goes where there is nothing
pub goes_none : (classes : List ClassModel) (j : Item) (units : List UnitType) → units ≡ [] → Goes classes j units None
goes_none classes j units none = ap (λ (us : List UnitType). behind_assignable classes j (map item_of us)) none

-- the first unit doesn't go
pub goes_not : (classes : List ClassModel) (j : Item) (u : UnitType) (us units : List UnitType) → units ≡ u ∷ us → is_assignable classes (item_of u) j ≡ false → Goes classes j units None
goes_not classes j u us units is fails = ap (λ (xs : List UnitType). behind_assignable classes j (map item_of xs)) is ∙ rw fails refl

by_item : (classes : List ClassModel) (j : Item) (u : UnitType) (us : List UnitType) → is_assignable classes (item_of u) j ≡ true → Goes classes j (u ∷ us) (units_used j us)
by_item classes item.Long u [] goes = rw goes refl
by_item classes item.Long u (v ∷ vs) goes = (omega arith, rw goes refl)
by_item classes item.Top u us goes = (omega arith, rw goes refl)
by_item classes item.Integer u us goes = (omega arith, rw goes refl)
by_item classes item.NullItem u us goes = (omega arith, rw goes refl)
by_item classes item.UninitializedThis u us goes = (omega arith, rw goes refl)
by_item classes (item.Object name) u us goes = (omega arith, rw goes refl)
by_item classes (item.Uninitialized at) u us goes = (omega arith, rw goes refl)

-- it does
pub goes_some : (classes : List ClassModel) (j : Item) (u : UnitType) (us units : List UnitType) (used : Option ℕ) → units ≡ u ∷ us → is_assignable classes (item_of u) j ≡ true → used ≡ units_used j us →
    Goes classes j units used
goes_some classes j u us units used is goes so =
    let P : List UnitType → Type 0 = λ xs. Goes classes j xs used in
    let Q : Option ℕ → Type 0 = λ o. Goes classes j (u ∷ us) o in
    subst P (sym is) (subst Q (sym so) (by_item classes j u us goes))

pub ruleset going_rules = (goes_none, goes_not, goes_some)
