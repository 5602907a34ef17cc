-- Calls of native methods, by how many arguments stand on the stack.
use Rattle.std.proofs.Common.{◌≡◌, ◌≤◌, ◌∙◌, [], ◌∷◌, ◌&&◌, ℕ, Bool, true, List, arith, drop, length, refl, reverse, sym, take, ap}
use Rattle.std.proofs.lemmas.List.{length-reverse, length-take}
use Rattle.std.specs.Option.{option_map}
use Rattle.std.specs.Prelude.{IsTrue, is_some, slice_get}
use Rattle.std.specs.declared.option.Option.{Option}
use Rattle.std.specs.declared.option.Option.TheVariants.{Some, None}
use Rattle.jc_class_out.specs.declared.model.ClassModel.{ClassModel}
use Rattle.jc_jvm.specs.Calls.{named, name_made, native_call, stuck}
use Rattle.jc_jvm.specs.Frames.{with_values}
use Rattle.jc_jvm.specs.Stacked.{Stacked}
use Rattle.jc_jvm.specs.Types.{name_of_shape, shape_of_cell}
use Rattle.jc_jvm.specs.Worlds.{with_string}
use Rattle.jc_jvm.specs.declared.cells.Cell.{Cell}
use Rattle.jc_jvm.specs.declared.frame.Frame.{Frame}
use Rattle.jc_jvm.specs.declared.frame.Waiting.{Waiting}
use Rattle.jc_jvm.specs.declared.value.Shape.{Shape}
use Rattle.jc_jvm.specs.declared.value.Value.{Value}
use Rattle.jc_jvm.specs.declared.value.Value.TheVariants.{Whole, Address}
use Rattle.jc_jvm.specs.declared.world.Native.{Native}
use Rattle.jc_jvm.specs.declared.world.Native.TheVariants as native
use Rattle.jc_jvm.specs.declared.world.World.{World}
use Rattle.jc_heap.proofs.StringPlaces.{no_string}
use Rattle.jc_heap.specs.Strings.{string_place}
use Rattle.jc_heap.specs.declared.places.StringPlace.{StringPlace}
use Rattle.jc_stepping.specs.Done.{KeptWhenAsks, NeverAsks}
use Rattle.jc_stepping.specs.Makes.{have_strings, native_makes}
use Rattle.jc_stepping.specs.declared.did.Did.{Did}
use Rattle.jc_stepping.specs.declared.did.Did.TheVariants as did

-- no name without a class for strings
pub named_nowhere : (classes : List ClassModel) (world : World) (next : ℕ) (now : Frame) (waiting : List Waiting) (rest : List Value) (cell : Option Cell) → string_place classes ≡ None →
    named classes world next now waiting rest cell ≡ stuck
named_nowhere classes world next now waiting rest (Some cell) none =
    ap (λ (made : Option World). name_made classes world next now waiting rest made) (no_string classes (name_of_shape classes (shape_of_cell cell)) world none)
named_nowhere classes world next now waiting rest None none = refl

strings_by : (place : Option StringPlace) (p : StringPlace) (b : Bool) → place ≡ Some p → b ≡ true → (is_some place && b) ≡ true
strings_by (Some q) p b there e = e
strings_by None p b there e = cc

-- with one, and an object that is there, a string is made
pub name_there : (classes : List ClassModel) (p : StringPlace) (cell : Option Cell) → string_place classes ≡ Some p → is_some cell ≡ true → IsTrue (have_strings classes && is_some cell)
name_there classes p cell there e = strings_by (string_place classes) p (is_some cell) there e

pub cell_there : (cell : Option Cell) (shape : Shape) → option_map shape_of_cell cell ≡ Some shape → is_some cell ≡ true
cell_there (Some cell) shape e = refl
cell_there None shape e = cc

pub ruleset name_rules = (named_nowhere, name_there, cell_there)

-- what a native method does is the same with and without its arguments on the stack

name_made_same : (classes : List ClassModel) (world : World) (next : ℕ) (now : Frame) (waiting : List Waiting) (rest : List Value) (made : Option World) →
    name_made classes world next now waiting rest made ≡ name_made classes world next (with_values rest now) waiting rest made
name_made_same classes world next now waiting rest (Some made) = refl
name_made_same classes world next now waiting rest None = refl

named_same : (classes : List ClassModel) (world : World) (next : ℕ) (now : Frame) (waiting : List Waiting) (rest : List Value) (cell : Option Cell) →
    named classes world next now waiting rest cell ≡ named classes world next (with_values rest now) waiting rest cell
named_same classes world next now waiting rest (Some cell) = name_made_same classes world next now waiting rest (with_string classes (name_of_shape classes (shape_of_cell cell)) world)
named_same classes world next now waiting rest None = refl

native_same : (classes : List ClassModel) (world : World) (next : ℕ) (now : Frame) (waiting : List Waiting) (n : Native) (arguments rest : List Value) →
    native_call classes world next now waiting n arguments rest ≡ native_call classes world next (with_values rest now) waiting n arguments rest
native_same classes world next now waiting native.HashCode (Address at ∷ []) rest = refl
native_same classes world next now waiting native.ClassName (Address at ∷ []) rest = named_same classes world next now waiting rest (slice_get world.heap at)
native_same classes world next now waiting native.Halt (Whole code ∷ []) rest = refl
native_same classes world next now waiting native.ReadByte [] rest = refl
native_same classes world next now waiting native.Put (Whole n ∷ []) rest = refl
native_same classes world next now waiting _ _ rest = refl

taken_is : (now : Frame) (stack : Stacked) → stack.limit ≡ now.stack.limit → with_values stack.values now ≡ record now { stack = stack }
taken_is now stack e = ap (λ (n : ℕ). let s : Stacked = record { values = stack.values; limit = n } in let f : Frame = record now { stack = s } in f) (sym e)

-- with one argument, which was taken
pub native_of_one : (classes : List ClassModel) (world : World) (next : ℕ) (now : Frame) (waiting : List Waiting) (n : Native) (count : ℕ) (v : Value) (stack : Stacked) →
    count ≡ 1 → stack.limit ≡ now.stack.limit → now.stack.values ≡ v ∷ stack.values →
    native_call classes world next now waiting n (reverse (take count now.stack.values)) (drop count now.stack.values) ≡ native_call classes world next (record now { stack = stack }) waiting n (v ∷ []) stack.values
native_of_one classes world next now waiting n count v stack one limit is =
    ap (λ (k : ℕ). native_call classes world next now waiting n (reverse (take k now.stack.values)) (drop k now.stack.values)) one
    ∙ ap (λ (vs : List Value). native_call classes world next now waiting n (reverse (take 1 vs)) (drop 1 vs)) is
    ∙ native_same classes world next now waiting n (v ∷ []) stack.values
    ∙ ap (λ (f : Frame). native_call classes world next f waiting n (v ∷ []) stack.values) (taken_is now stack limit)

-- what it makes with one argument
pub native_makes_one : (classes : List ClassModel) (world : World) (n : Native) (count : ℕ) (v : Value) (vs rest : List Value) → count ≡ 1 → vs ≡ v ∷ rest →
    IsTrue (native_makes classes world n (v ∷ [])) → IsTrue (native_makes classes world n (reverse (take count vs)))
native_makes_one classes world n count v vs rest one is h =
    ap (λ (k : ℕ). native_makes classes world n (reverse (take k vs))) one ∙ ap (λ (xs : List Value). native_makes classes world n (reverse (take 1 xs))) is ∙ h

-- with none
pub native_of_none : (classes : List ClassModel) (world : World) (next : ℕ) (now : Frame) (waiting : List Waiting) (n : Native) (count : ℕ) (vs : List Value) →
    count ≡ 0 → native_call classes world next now waiting n (reverse (take count vs)) (drop count vs) ≡ native_call classes world next now waiting n [] vs
native_of_none classes world next now waiting n count vs none = ap (λ (k : ℕ). native_call classes world next now waiting n (reverse (take k vs)) (drop k vs)) none

several : (classes : List ClassModel) (world : World) (next : ℕ) (now : Frame) (waiting : List Waiting) (n : Native) (arguments rest : List Value) → 2 ≤ length arguments →
    native_call classes world next now waiting n arguments rest ≡ stuck
several classes world next now waiting n [] rest h = absurd (omega arith)
several classes world next now waiting n (a ∷ []) rest h = absurd (omega arith)
several classes world next now waiting native.HashCode (Address at ∷ b ∷ more) rest h = refl
several classes world next now waiting native.ClassName (Address at ∷ b ∷ more) rest h = refl
several classes world next now waiting native.Halt (Whole code ∷ b ∷ more) rest h = refl
several classes world next now waiting native.Put (Whole n ∷ b ∷ more) rest h = refl
several classes world next now waiting _ (a ∷ b ∷ more) rest h = refl

-- with several
pub native_of_several : (classes : List ClassModel) (world : World) (next : ℕ) (now : Frame) (waiting : List Waiting) (n : Native) (count : ℕ) (vs : List Value) → 2 ≤ count → count ≤ length vs →
    native_call classes world next now waiting n (reverse (take count vs)) (drop count vs) ≡ stuck
native_of_several classes world next now waiting n count vs many there =
    several classes world next now waiting n (reverse (take count vs)) (drop count vs) (omega (arith, length-reverse (take count vs), length-take count vs))

-- a step that asks for nothing keeps what one that asks would keep
pub never_kept : (d : Did) (world : World) (now : Frame) (waiting : List Waiting) (world' : World) (now' : Frame) (waiting' : List Waiting) → NeverAsks d → KeptWhenAsks d world now waiting world' now' waiting'
never_kept (did.Moves on) world now waiting world' now' waiting' h = tt
never_kept (did.Puts byte on) world now waiting world' now' waiting' h = tt
never_kept (did.Asks next) world now waiting world' now' waiting' h = absurd h

pub ruleset native_rules = (native_of_one, native_makes_one, native_of_none, native_of_several, never_kept)
