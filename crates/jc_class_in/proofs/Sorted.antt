-- Look-ups of what sort of descriptor an entry is.
use Rattle.std.proofs.Common.{◌≡◌, ℕ, zero, suc, ◌-◌, ◌<◌, Bool, false, List, [], ◌∷◌, map, Option, Some, None, option_and_then, refl, sym, ap, ◌∙◌, arith}
use Rattle.std.specs.List.{slice_get}
use Rattle.jc_class_out.specs.declared.format.Slot.{Slot}
use Rattle.jc_class_out.specs.Descriptors.{is_field_descriptor, is_method_descriptor}
use Rattle.jc_class_out.specs.Pool.{entry_of, text_of, a_text, text_is}
use Rattle.jc_class_in.specs.declared.sorts.Sort.{Sort}
use Rattle.jc_class_in.specs.Sorts.{sort_of}

abbrev with_sort : Option Slot → Option Sort
with_sort None = None
with_sort (Some s) = Some (sort_of s)

get_map : (pool : List Slot) (i : ℕ) → slice_get (map sort_of pool) i ≡ with_sort (slice_get pool i)
get_map [] i = refl
get_map (s ∷ pool) zero = refl
get_map (s ∷ pool) (suc i) = get_map pool i

-- the text of a slot, if there is one
abbrev text_at : Option Slot → Option (List ℕ)
text_at o = option_and_then a_text (option_and_then (λ (s : Slot). Some s.entry) o)

text_there : (pool : List Slot) (i : ℕ) → text_of pool (suc i) ≡ text_at (slice_get pool i)
unfolding entry_of
text_there pool i = refl

field_there : (o : Option Slot) (s : Sort) → with_sort o ≡ Some s → s.field ≡ text_is is_field_descriptor (text_at o)
field_there None s h = absurd cc
field_there (Some slot) s h = let e : sort_of slot ≡ s = cc in ap (λ (x : Sort). x.field) (sym e)

method_there : (o : Option Slot) (s : Sort) → with_sort o ≡ Some s → s.method ≡ text_is is_method_descriptor (text_at o)
method_there None s h = absurd cc
method_there (Some slot) s h = let e : sort_of slot ≡ s = cc in ap (λ (x : Sort). x.method) (sym e)

none_there : (test : List ℕ → Bool) (o : Option Slot) → with_sort o ≡ None → false ≡ text_is test (text_at o)
none_there test None h = refl
none_there test (Some slot) h = absurd cc

numbered : (index i : ℕ) → 0 < index → i ≡ index - 1 → index ≡ suc i
numbered index i some is = omega (arith, some, is)

pub sorted_field : (sorts : List Sort) (pool : List Slot) (index i : ℕ) (s : Sort) → sorts ≡ map sort_of pool → 0 < index → i ≡ index - 1 → Some s ≡ slice_get sorts i → s.field ≡ text_is is_field_descriptor (text_of pool index)
sorted_field sorts pool index i s e some is h =
    rw (numbered index i some is, text_there pool i) (field_there (slice_get pool i) s (sym (get_map pool i) ∙ ap (λ (x : List Sort). slice_get x i) (sym e) ∙ sym h))

pub sorted_method : (sorts : List Sort) (pool : List Slot) (index i : ℕ) (s : Sort) → sorts ≡ map sort_of pool → 0 < index → i ≡ index - 1 → Some s ≡ slice_get sorts i → s.method ≡ text_is is_method_descriptor (text_of pool index)
sorted_method sorts pool index i s e some is h =
    rw (numbered index i some is, text_there pool i) (method_there (slice_get pool i) s (sym (get_map pool i) ∙ ap (λ (x : List Sort). slice_get x i) (sym e) ∙ sym h))

pub sorted_none : (test : List ℕ → Bool) (sorts : List Sort) (pool : List Slot) (index i : ℕ) → sorts ≡ map sort_of pool → 0 < index → i ≡ index - 1 → None ≡ slice_get sorts i → false ≡ text_is test (text_of pool index)
sorted_none test sorts pool index i e some is h =
    rw (numbered index i some is, text_there pool i) (none_there test (slice_get pool i) (sym (get_map pool i) ∙ ap (λ (x : List Sort). slice_get x i) (sym e) ∙ sym h))

zero_there : (test : List ℕ → Bool) (pool : List Slot) → false ≡ text_is test (text_of pool 0)
unfolding entry_of
zero_there test pool = refl

pub sorted_zero : (test : List ℕ → Bool) (pool : List Slot) (index : ℕ) → index ≡ 0 → false ≡ text_is test (text_of pool index)
sorted_zero test pool index none = rw none (zero_there test pool)
