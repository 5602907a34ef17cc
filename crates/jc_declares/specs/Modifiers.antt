-- The modifiers of declarations: those that are written, those that are implied, and those that a declaration can't have (JLS 8.1.1, 8.3.1, 8.4.1, 8.4.3,
-- 8.5.1, 8.8.3, 9.1.1, 9.3, 9.4, 9.5, 9.6.3, 9.7, 14.4).
use Rattle.std.specs.Prelude.{ℕ, Bool, true, false, not, ◌&&◌, ◌||◌, List, [], ◌∷◌, ◌++◌, codes, Option, Some, None}
use Rattle.std.specs.Str.{bytes_eq}
use Rattle.jc_tree.specs.declared.statement.Formal.{Formal}
use Rattle.jc_tree.specs.declared.statement.MethodHead.{MethodHead}
use Rattle.jc_tree.specs.declared.statement.Modifier.{Modifier}
use Rattle.jc_tree.specs.declared.statement.Modifier.TheVariants as modifier_of
use Rattle.jc_tree.specs.declared.statement.ModifierWord.{ModifierWord}
use Rattle.jc_tree.specs.declared.statement.ModifierWord.TheVariants as word_of
use Rattle.jc_tree.specs.declared.statement.ResultType.{ResultType}
use Rattle.jc_types.specs.declared.declarations.Access.{Access}
use Rattle.jc_types.specs.declared.declarations.Access.TheVariants as access
use Rattle.jc_types.specs.declared.declarations.Modifiers.{Modifiers}
use Rattle.jc_declares.specs.Words.{same_word, says}
use Rattle.jc_declares.specs.Heads.{written_access, access_with}

-- the first part of an annotation's name is this; words are no annotations
abbrev pub is_annotation : List ℕ → Modifier → Bool
is_annotation name (modifier_of.Annotation a) = bytes_eq a.first.text name
is_annotation name (modifier_of.Word at v) = false

-- one of these modifiers is such an annotation
abbrev pub annotated : List ℕ → List Modifier → Bool
annotated name [] = false
annotated name (m ∷ ms) = is_annotation name m || annotated name ms

-- it is private access
abbrev pub is_private : Access → Bool
is_private access.Private = true
is_private _ = false

-- ---- all modifiers of a declaration, the implied ones among them

-- no words but those
abbrev pub written_modifiers : List Modifier → Modifiers
written_modifiers ms =
    record {
      access = written_access ms;
      is_abstract = says word_of.Abstract ms;
      is_static = says word_of.Static ms;
      is_final = says word_of.Final ms;
      is_native = says word_of.Native ms;
      is_transient = says word_of.Transient ms;
      is_volatile = says word_of.Volatile ms;
      says_override = annotated (codes "Override") ms;
    }

-- a type: an interface is abstract, and a member type of an interface is public (JLS 9.1.1.1, 9.5). Every member type is static, since the language has
-- no inner classes
abbrev pub class_modifiers : Bool → Bool → Bool → List Modifier → Modifiers
class_modifiers is_interface is_member of_interface ms =
    record (written_modifiers ms) { access = access_with of_interface ms; is_abstract = is_interface || says word_of.Abstract ms; is_static = is_member }

-- the fields of an interface are public, static and final (JLS 9.3)
abbrev pub field_modifiers : Bool → List Modifier → Modifiers
field_modifiers of_interface ms =
    record (written_modifiers ms) {
      access = access_with of_interface ms;
      is_static = of_interface || says word_of.Static ms;
      is_final = of_interface || says word_of.Final ms;
    }

-- the methods of an interface are public and abstract (JLS 9.4)
abbrev pub method_modifiers : Bool → List Modifier → Modifiers
method_modifiers of_interface ms =
    record (written_modifiers ms) { access = access_with of_interface ms; is_abstract = of_interface || says word_of.Abstract ms }

-- ---- modifiers that a declaration can't have

-- a word is one of these
abbrev pub word_in : ModifierWord → List ModifierWord → Bool
word_in w [] = false
word_in w (v ∷ vs) = same_word w v || word_in w vs

-- each word is one of these
abbrev pub only_words : List ModifierWord → List Modifier → Bool
only_words allowed [] = true
only_words allowed (modifier_of.Annotation a ∷ ms) = only_words allowed ms
only_words allowed (modifier_of.Word at w ∷ ms) = word_in w allowed && only_words allowed ms

-- a word or an annotation stands twice (JLS 8.1.1, 9.7)
abbrev pub is_again : Modifier → List Modifier → Bool
is_again (modifier_of.Annotation a) ms = annotated a.first.text ms
is_again (modifier_of.Word at w) ms = says w ms

-- one of them stands again behind itself
abbrev pub repeats : List Modifier → Bool
repeats [] = false
repeats (m ∷ ms) = is_again m ms || repeats ms

-- two words stand among the same modifiers
abbrev pub both : ModifierWord → ModifierWord → List Modifier → Bool
both v w ms = says v ms && says w ms

-- no word twice, and at most one of those for access
abbrev pub is_consistent : List Modifier → Bool
is_consistent ms =
    not (repeats ms) && not (both word_of.Public word_of.Protected ms) && not (both word_of.Public word_of.Private ms) && not (both word_of.Protected word_of.Private ms)

-- `@Override` stands at methods alone, `@SafeVarargs` at methods and constructors (JLS 9.6.3.4, 9.6.3.7)
abbrev pub no_override : List Modifier → Bool
no_override ms = not (annotated (codes "Override") ms)

-- there is no `@SafeVarargs`
abbrev pub no_safe_varargs : List Modifier → Bool
no_safe_varargs ms = not (annotated (codes "SafeVarargs") ms)

-- the words for access (JLS 6.6)
abbrev pub access_words : List ModifierWord
access_words = word_of.Public ∷ word_of.Protected ∷ word_of.Private ∷ []

-- a type of a package may be public; a member type of a class what else there is for access, and static; one of an interface public and static
abbrev pub place_words : Bool → Bool → List ModifierWord
place_words false of_interface = word_of.Public ∷ []
place_words true false = word_of.Public ∷ word_of.Protected ∷ word_of.Private ∷ word_of.Static ∷ []
place_words true true = word_of.Public ∷ word_of.Static ∷ []

-- an interface may be abstract, a class abstract or final
abbrev pub kind_words : Bool → List ModifierWord
kind_words true = word_of.Abstract ∷ []
kind_words false = word_of.Abstract ∷ word_of.Final ∷ []

-- a type (JLS 8.1.1, 8.5.1, 9.1.1, 9.5)
abbrev pub class_modifiers_fit : Bool → Bool → Bool → List Modifier → Bool
class_modifiers_fit is_interface is_member of_interface ms =
    only_words (place_words is_member of_interface ++ kind_words is_interface) ms && is_consistent ms && not (both word_of.Abstract word_of.Final ms) && no_override ms
    && no_safe_varargs ms

-- a field (JLS 8.3.1, 9.3)
abbrev pub field_words : Bool → List ModifierWord
field_words true = word_of.Public ∷ word_of.Static ∷ word_of.Final ∷ []
field_words false = word_of.Public ∷ word_of.Protected ∷ word_of.Private ∷ word_of.Static ∷ word_of.Final ∷ word_of.Transient ∷ word_of.Volatile ∷ []

-- a field has words of fields alone, and isn't both final and volatile (JLS 8.3.1.4)
abbrev pub field_modifiers_fit : Bool → List Modifier → Bool
field_modifiers_fit of_interface ms =
    only_words (field_words of_interface) ms && is_consistent ms && not (both word_of.Final word_of.Volatile ms) && no_override ms && no_safe_varargs ms

-- a method (JLS 8.4.3, 9.4)
abbrev pub method_words : Bool → List ModifierWord
method_words true = word_of.Public ∷ word_of.Abstract ∷ []
method_words false = word_of.Public ∷ word_of.Protected ∷ word_of.Private ∷ word_of.Abstract ∷ word_of.Static ∷ word_of.Final ∷ word_of.Native ∷ []

-- an abstract method has none of these words beside it (JLS 8.4.3.1)
abbrev pub abstract_alone : List Modifier → Bool
abstract_alone ms =
    not (says word_of.Abstract ms) || not (says word_of.Private ms || says word_of.Static ms || says word_of.Final ms || says word_of.Native ms)

-- the last formal parameter is one of variable arity; false where there is none
abbrev pub last_is_variable : List Formal → Bool
last_is_variable [] = false
last_is_variable (f ∷ []) = f.variable_arity
last_is_variable (f ∷ g ∷ fs) = last_is_variable (g ∷ fs)

-- `@SafeVarargs` needs a variable arity, and a constructor or a method that is static or final (JLS 9.6.3.7)
abbrev pub safe_varargs_fits : Bool → MethodHead → Bool
safe_varargs_fits constructs head =
    no_safe_varargs head.modifiers || (last_is_variable head.formals && (constructs || says word_of.Static head.modifiers || says word_of.Final head.modifiers))

-- what has no result is a constructor
abbrev pub is_constructor : Option ResultType → Bool
is_constructor None = true
is_constructor (Some result) = false

-- a constructor has words for access alone (JLS 8.8.3)
abbrev pub words_of_method : Bool → Bool → List ModifierWord
words_of_method true of_interface = access_words
words_of_method false of_interface = method_words of_interface

-- a constructor has no `@Override`
abbrev pub override_fits : Bool → List Modifier → Bool
override_fits true ms = no_override ms
override_fits false ms = true

-- a method or constructor (JLS 8.4.3, 8.8.3, 9.4)
abbrev pub method_modifiers_fit : Bool → MethodHead → Bool
method_modifiers_fit of_interface head =
    let constructs : Bool = is_constructor head.result in
    only_words (words_of_method constructs of_interface) head.modifiers && is_consistent head.modifiers && abstract_alone head.modifiers && override_fits constructs head.modifiers
    && safe_varargs_fits constructs head

-- a parameter and a local variable (JLS 8.4.1, 14.4)
abbrev pub local_modifiers_fit : List Modifier → Bool
local_modifiers_fit ms = only_words (word_of.Final ∷ []) ms && is_consistent ms && no_override ms && no_safe_varargs ms
