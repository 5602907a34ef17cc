-- Elements that are read where the index and the array were taken from the stack.
use Rattle.std.proofs.Common.{◌≡◌, ℕ, Bool, true, false, List, ◌∷◌, slice_get, option_and_then, ℤ, refl, sym, ap, ◌∙◌, if◌then◌else◌}
use Rattle.std.specs.declared.option.Option.{Option}
use Rattle.std.specs.declared.option.Option.TheVariants.{Some, None}
use Rattle.jc_jvm.specs.Frames.{Act, Fails}
use Rattle.jc_jvm.specs.Objects.{is_array_of, place_in, element_pushed, element_of, element_loaded}
use Rattle.jc_jvm.specs.Stacked.{Stacked}
use Rattle.jc_jvm.specs.declared.cells.Cell.{Cell}
use Rattle.jc_jvm.specs.declared.cells.Cell.TheVariants.{Instance, Array}
use Rattle.jc_jvm.specs.declared.frame.Frame.{Frame}
use Rattle.jc_jvm.specs.declared.groups.Element.{Element}
use Rattle.jc_jvm.specs.declared.value.Value.{Value}
use Rattle.jc_jvm.specs.declared.value.Value.TheVariants.{Whole, Address}
use Rattle.jc_jvm.specs.declared.world.World.{World}

pushed_same : (next : ℕ) (now : Frame) (rest : List Value) (item : Option Value) →
    element_pushed next (record now { stack = record now.stack { values = rest } }) rest item ≡ element_pushed next now rest item
pushed_same next now rest (Some v) = refl
pushed_same next now rest None = refl

chosen_same : (b : Bool) (next : ℕ) (now : Frame) (rest : List Value) (item : Option Value) →
    (if b then element_pushed next (record now { stack = record now.stack { values = rest } }) rest item else Fails) ≡ (if b then element_pushed next now rest item else Fails)
chosen_same true next now rest item = pushed_same next now rest item
chosen_same false next now rest item = refl

of_same : (element : Element) (cell : Option Cell) (index : ℤ) (next : ℕ) (now : Frame) (rest : List Value) →
    element_of element cell index next (record now { stack = record now.stack { values = rest } }) rest ≡ element_of element cell index next now rest
of_same element (Some (Array of items)) index next now rest = chosen_same (is_array_of element of) next now rest (option_and_then (slice_get items) (place_in items index))
of_same element (Some (Instance class fields)) index next now rest = refl
of_same element None index next now rest = refl

taken : (now : Frame) (stack : Stacked) → stack.limit ≡ now.stack.limit → stack ≡ record now.stack { values = stack.values }
taken now stack e = ap (λ (n : ℕ). let s : Stacked = record { values = stack.values; limit = n } in s) e

-- what is read on the stack that is left is what is read
pub loaded_at : (element : Element) (world : World) (next : ℕ) (now : Frame) (seen index : ℤ) (at : ℕ) (stack : Stacked) (act : Act) →
    seen ≡ index → now.stack.values ≡ Whole index ∷ Address at ∷ stack.values → stack.limit ≡ now.stack.limit →
    element_of element (slice_get world.heap at) seen next (record now { stack = stack }) stack.values ≡ act →
    element_loaded element world next now now.stack.values ≡ act
loaded_at element world next now seen index at stack act sees values limit done =
    let same : element_of element (slice_get world.heap at) index next (record now { stack = stack }) stack.values ≡ element_of element (slice_get world.heap at) index next now stack.values =
    rw (taken now stack limit) (of_same element (slice_get world.heap at) index next now stack.values) in
    ap (λ (vs : List Value). element_loaded element world next now vs) values ∙ (sym same ∙ (ap (λ (i : ℤ). element_of element (slice_get world.heap at) i next (record now { stack = stack }) stack.values) (sym sees) ∙ done))
