-- Numbers that stand for the names and descriptors of methods, and selection by them (JVMS 6.5, invokevirtual).
use Rattle.std.specs.Prelude.{◌≡◌, ℕ, ◌&&◌, List, [], ◌∷◌, ◌++◌, map, position, if◌then◌else◌}
use Rattle.std.specs.List.{flat_map}
use Rattle.std.specs.Str.{bytes_eq}
use Rattle.std.specs.declared.option.Option.{Option}
use Rattle.std.specs.declared.option.Option.TheVariants.{Some, None}
use Rattle.jc_class_out.specs.declared.model.ClassModel.{ClassModel}
use Rattle.jc_class_out.specs.declared.model.MethodModel.{MethodModel}
use Rattle.jc_jvm.specs.Classes.{is_method, is_selectable, line_of, method_among, or_else}
use Rattle.jc_jvm.specs.Numbered.{numbered}
use Rattle.jc_selecting.specs.Found.{is_number}

-- all methods of all classes, class by class, each in its order
abbrev pub all_methods : List ClassModel → List MethodModel
all_methods classes = flat_map (λ c. c.methods) classes

-- A name and a descriptor have the number of the first method that has both.
abbrev pub signature_of : List ClassModel → List ℕ → List ℕ → Option ℕ
signature_of classes name descriptor = position (is_method name descriptor) (all_methods classes)

-- the method that an object of a class selects by the number of a name and a descriptor
abbrev pub selected_as : List ClassModel → Option ℕ → ℕ → Option (ℕ × ℕ)
selected_as classes (Some s) k = method_among classes (λ m. is_number s (signature_of classes m.name m.descriptor) && is_selectable m) (line_of classes k)
selected_as classes None k = None

-- of each method of a class its number, where it may be selected
abbrev pub number_of : List ClassModel → MethodModel → Option ℕ
number_of classes m = if is_selectable m then signature_of classes m.name m.descriptor else None

-- the numbers of the methods of one class, and of each class
abbrev pub numbers_in : List ClassModel → ClassModel → List (Option ℕ)
numbers_in classes c = map (number_of classes) c.methods

-- of all classes, in their order
unfoldable pub all_numbers : List ClassModel → List (List (Option ℕ))
all_numbers classes = map (numbers_in classes) classes

-- ---- a name and a descriptor as one text, of which both can be told

-- each unit of the name stands behind a 1, and the descriptor behind a 0, so that one text has only one name and one descriptor
abbrev pub marked : ℕ → List ℕ
marked u = 1 ∷ u ∷ []

abbrev pub joined : List ℕ → List ℕ → List ℕ
joined name descriptor = flat_map marked name ++ 0 ∷ descriptor

-- each has the number of the first method that has both
abbrev pub AreSignatures : List MethodModel → List (List ℕ × ℕ) → Type 0
AreSignatures methods numbers = (name descriptor : List ℕ) → numbered (joined name descriptor) numbers ≡ position (is_method name descriptor) methods

-- these have a number too, if they had none
abbrev pub SignaturesMore : List (List ℕ × ℕ) → List (List ℕ × ℕ) → List ℕ → List ℕ → ℕ → Type 0
SignaturesMore before after name descriptor number =
    (n d : List ℕ) → numbered (joined n d) after ≡ or_else (numbered (joined n d) before) (if bytes_eq name n && bytes_eq descriptor d then Some number else None)
