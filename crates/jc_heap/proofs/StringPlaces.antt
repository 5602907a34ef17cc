-- Strings by their place.
use Rattle.std.proofs.Common.{◌≡◌, ℕ, ◌+◌, List, option_and_then, refl, sym, ap, ◌∙◌}
use Rattle.std.specs.Option.{option_map}
use Rattle.std.specs.declared.option.Option.{Option}
use Rattle.std.specs.declared.option.Option.TheVariants.{Some, None}
use Rattle.jc_class_out.specs.declared.model.ClassModel.{ClassModel}
use Rattle.jc_jvm.specs.Worlds.{string_class, chars_slot, string_cell, chars_cell, with_cell, with_string, next_address, interned_in}
use Rattle.jc_jvm.specs.declared.world.Interned.{Interned}
use Rattle.jc_jvm.specs.declared.world.World.{World}
use Rattle.jc_heap.specs.declared.places.StringPlace.{StringPlace}
use Rattle.jc_heap.specs.Strings.{place_by, string_place, StringMade}

slot_case : {A : Type 0} (make : ℕ → ℕ → A) (k : ℕ) (slot : Option ℕ) →
    option_map (λ (s : ℕ). make k s) slot ≡ option_map (λ (p : StringPlace). make p.class p.slot) (option_map (λ (s : ℕ). let p : StringPlace = record { class = k; slot = s } in p) slot)
slot_case make k (Some s) = refl
slot_case make k None = refl

class_case : {A : Type 0} (make : ℕ → ℕ → A) (slots : ℕ → Option ℕ) (class : Option ℕ) →
    option_and_then (λ (k : ℕ). option_map (λ (s : ℕ). make k s) (slots k)) class ≡ option_map (λ (p : StringPlace). make p.class p.slot) (place_by slots class)
class_case make slots (Some k) = slot_case make k (slots k)
class_case make slots None = refl

-- a String is made where there is a place for it
pub with_string_by : (classes : List ClassModel) (text : List ℕ) (world : World) →
    with_string classes text world ≡ option_map (λ (p : StringPlace). with_cell (string_cell classes p.class p.slot (next_address world)) (with_cell (chars_cell text) world)) (string_place classes)
unfolding string_place
with_string_by classes text world =
    class_case (λ k slot. with_cell (string_cell classes k slot (next_address world)) (with_cell (chars_cell text) world)) (chars_slot classes) (string_class classes)

-- a String that was made at its place
pub string_made : (classes : List ClassModel) (text : List ℕ) (before : World) (place : StringPlace) (after : World) (at : ℕ) →
    string_place classes ≡ Some place → after ≡ with_cell (string_cell classes place.class place.slot (next_address before)) (with_cell (chars_cell text) before) → at ≡ next_address before + 1 →
    StringMade classes text before (Some at) after
string_made classes text before place after at e made is = (
  is,
  with_string_by classes text before
      ∙ ap (λ (found : Option StringPlace). option_map (λ (p : StringPlace). with_cell (string_cell classes p.class p.slot (next_address before)) (with_cell (chars_cell text) before)) found) e
      ∙ ap (λ (world : World). Some world) (sym made),
)

pub no_string : (classes : List ClassModel) (text : List ℕ) (before : World) → string_place classes ≡ None → with_string classes text before ≡ None
no_string classes text before e =
    with_string_by classes text before
    ∙ ap (λ (found : Option StringPlace). option_map (λ (p : StringPlace). with_cell (string_cell classes p.class p.slot (next_address before)) (with_cell (chars_cell text) before)) found) e

-- a new String is no literal
pub as_interned : (classes : List ClassModel) (text : List ℕ) (before after : World) → with_string classes text before ≡ Some after → after.interned ≡ before.interned
as_interned classes text before after e = by (string_class classes) e
  where
    at_slot : (k : ℕ) (slot : Option ℕ) → option_map (λ (s : ℕ). with_cell (string_cell classes k s (next_address before)) (with_cell (chars_cell text) before)) slot ≡ Some after → after.interned ≡ before.interned
    at_slot k (Some s) e = let same : with_cell (string_cell classes k s (next_address before)) (with_cell (chars_cell text) before) ≡ after = cc in ap (λ (w : World). w.interned) (sym same)
    at_slot k None e = cc

    by : (class : Option ℕ) → option_and_then (λ (k : ℕ). option_map (λ (s : ℕ). with_cell (string_cell classes k s (next_address before)) (with_cell (chars_cell text) before)) (chars_slot classes k)) class ≡ Some after →
        after.interned ≡ before.interned
    by (Some k) e = at_slot k (chars_slot classes k) e
    by None e = cc

pub not_interned : (classes : List ClassModel) (text : List ℕ) (before after : World) → with_string classes text before ≡ Some after → interned_in before.interned text ≡ None → interned_in after.interned text ≡ None
not_interned classes text before after e none = ap (λ (is : List Interned). interned_in is text) (as_interned classes text before after e) ∙ none

pub ruleset new_literal = (not_interned)
