-- Descriptors (JVMS 4.3). The types float and double are left out of the profile.
use Rattle.std.specs.Prelude.{ℕ, zero, suc, Bool, true, false, not, ◌&&◌, ◌||◌, ◌==◌, ◌+◌, ◌-◌, ◌/◌, ◌%◌, nat_lt, List, [], ◌∷◌, length, take, drop, codes, Option, Some, None, option_and_then, if◌then◌else◌}
use Rattle.std.specs.Str.{bytes_eq}
use Rattle.jc_class_out.specs.declared.model.Item.{Item}
use Rattle.jc_class_out.specs.declared.model.Item.TheVariants.{Integer, Long, Object, UninitializedThis}

-- B, C, I, J, S, Z
abbrev pub is_base : ℕ → Bool
is_base u = u == 66 || u == 67 || u == 73 || u == 74 || u == 83 || u == 90

-- What stands behind the `;` of a class name: its parts have a unit each, and none of `.`, `[` (JVMS 4.2). The first
-- argument says that a part begins here.
unfoldable pub name_end : Bool → List ℕ → Option (List ℕ)
name_end begins [] = None
name_end begins (u ∷ us) =
    if u == 59 then (if begins then None else Some us) else
    if u == 47 then (if begins then None else name_end true us) else
    if u == 46 || u == 91 then None else name_end false us

-- what stands behind a type; its dimensions are so many already, and at most 255
unfoldable pub type_end : ℕ → List ℕ → Option (List ℕ)
type_end dims [] = None
type_end dims (u ∷ us) =
    if is_base u then Some us else
    if u == 76 then name_end true us else
    if u == 91 && nat_lt dims 255 then type_end (dims + 1) us else None

-- the type is whole, and the text ends with it
abbrev pub nothing_left : Option (List ℕ) → Bool
nothing_left None = false
nothing_left (Some []) = true
nothing_left (Some (u ∷ us)) = false

-- JVMS 4.3.2
abbrev pub is_field_descriptor : List ℕ → Bool
is_field_descriptor d = nothing_left (type_end 0 d)

-- a long takes two units
abbrev pub units_of_type : ℕ → ℕ
units_of_type u = if u == 74 then 2 else 1

-- The units of the parameters, of which so many are counted already, and what stands behind the `)`; there are at most so
-- many parameters, and at most 255 units.
unfoldable pub parameters_on : ℕ → ℕ → List ℕ → Option (ℕ × List ℕ)
parameters_on n used [] = None
parameters_on zero used (u ∷ us) = None
parameters_on (suc n) used (u ∷ us) =
    if u == 41 then Some (used, us) else
    if nat_lt 255 (used + units_of_type u) then None else
    option_and_then (λ (rest : List ℕ). parameters_on n (used + units_of_type u) rest) (type_end 0 (u ∷ us))

-- V, or a type
abbrev pub is_result : List ℕ → Bool
is_result d = bytes_eq d (codes "V") || is_field_descriptor d

-- The units of a method's parameters (JVMS 4.3.3); none where it is no descriptor of a method.
abbrev pub units_if : Option (ℕ × List ℕ) → Option ℕ
units_if None = None
units_if (Some p) = if is_result p.1 then Some p.0 else None

-- from the `(` on
unfoldable pub parameter_units : List ℕ → Option ℕ
parameter_units [] = None
parameter_units (u ∷ us) = if u == 40 then units_if (parameters_on (length us) 0 us) else None

-- a descriptor of a method is one whose parameters have units, which a wrong one hasn't
abbrev pub is_there : {A : Type 0} → Option A → Bool
is_there None = false
is_there (Some x) = true

abbrev pub is_method_descriptor : List ℕ → Bool
is_method_descriptor d = is_there (parameter_units d)

-- the number, or 0 where there is none
abbrev pub or_zero : Option ℕ → ℕ
or_zero None = 0
or_zero (Some n) = n

-- ---- the locals at a method's entry (JVMS 4.10.1.6)

-- what a value of this type is to the verifier: `J` a Long, `Lname;` an Object of that name, an array one of its descriptor
abbrev pub item_of_type : List ℕ → Item
item_of_type [] = Integer
item_of_type (u ∷ us) =
    if u == 74 then Long else
    if u == 76 then Object (take (length us - 1) us) else
    if u == 91 then Object (u ∷ us) else Integer

-- the first type is what `rest` lacks of `us`
abbrev pub items_by : List ℕ → (List ℕ → List Item) → Option (List ℕ) → List Item
items_by us later None = []
items_by us later (Some rest) = item_of_type (take (length us - length rest) us) ∷ later rest

-- of at most so many types
unfoldable pub items_on : ℕ → List ℕ → List Item
items_on zero us = []
items_on (suc n) us = items_by us (λ rest. items_on n rest) (type_end 0 us)

-- of the parameters
abbrev pub parameter_items : List ℕ → List Item
parameter_items d = items_on (length d) (drop 1 d)

-- ACC_STATIC, 0x0008 (JVMS 4.6)
abbrev pub is_static : ℕ → Bool
is_static flags = flags / 8 % 2 == 1

-- in a constructor `this` isn't initialised yet, but in that of Object
abbrev pub this_item : List ℕ → List ℕ → Item
this_item class name = if bytes_eq name (codes "<init>") && not (bytes_eq class (codes "java/lang/Object")) then UninitializedThis else Object class

-- of a method of this class with these flags, this name and this descriptor
abbrev pub entry_locals : List ℕ → ℕ → List ℕ → List ℕ → List Item
entry_locals class flags name descriptor = if is_static flags then parameter_items descriptor else this_item class name ∷ parameter_items descriptor
