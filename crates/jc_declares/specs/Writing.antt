-- What a type means that is written somewhere (JLS 4.3, 4.5, 4.8, 6.5.5): the type, the places of the class types inside it, and the broken rules of
-- the names in it.
use Rattle.std.specs.Prelude.{ℕ, zero, suc, Bool, true, false, cond, List, [], ◌∷◌, ◌++◌, map, Option, Some, None}
use Rattle.jc_tree.specs.declared.name.Ident.{Ident}
use Rattle.jc_tree.specs.declared.types.BaseTree.{BaseTree, BaseTree-F, fold-BaseTree}
use Rattle.jc_tree.specs.declared.types.ClassTree.{ClassTree, ClassTree-F, fold-ClassTree}
use Rattle.jc_tree.specs.declared.types.PrimitiveWord.{PrimitiveWord}
use Rattle.jc_tree.specs.declared.types.PrimitiveWord.TheVariants as word
use Rattle.jc_tree.specs.declared.types.TypeArg.{TypeArg, TypeArg-F, fold-TypeArg}
use Rattle.jc_tree.specs.declared.types.TypePart.{TypePart, TypePart-F, fold-TypePart}
use Rattle.jc_tree.specs.declared.types.TypeTree.{TypeTree, TypeTree-F, fold-TypeTree}
use Rattle.jc_types.specs.declared.form.Arg.{Arg}
use Rattle.jc_types.specs.declared.form.Arg.TheVariants as arg
use Rattle.jc_types.specs.declared.form.Primitive.{Primitive}
use Rattle.jc_types.specs.declared.form.Primitive.TheVariants as primitive
use Rattle.jc_types.specs.declared.form.Ty.{Ty}
use Rattle.jc_types.specs.declared.form.Ty.TheVariants.{Prim, Class, Raw, Variable}
use Rattle.jc_types.specs.Arrays.{array_over}
use Rattle.jc_declares.specs.declared.heads.Heads.{Heads}
use Rattle.jc_declares.specs.Heads.{class_variables, owner_of}
use Rattle.jc_declares.specs.Looking.{AClass, AVariable, Look, Knowledge, Asker, look_up, all_accessible, is_own}
use Rattle.jc_declares.specs.Knowing.{passed_all}

-- Where a type is written: how a simple name is looked up there, who asks, and the class whose type variables may be named, which a static place has not.
pub record Reading : Type 0 where
  pub find : List ℕ → Look
  pub asker : Asker
  pub own : Option ℕ

-- a broken rule, at an offset
pub record Broken : Type 0 where
  pub rule : ℕ
  pub at : ℕ

-- a written type, with the offsets of the class types inside it, and the broken rules
pub record Wrote : Type 0 where
  pub ty : Ty
  pub places : List ℕ
  pub broken : List Broken

-- a written type argument, with the offsets of the class types inside it, and the broken rules
pub record WroteArg : Type 0 where
  pub arg : Arg
  pub places : List ℕ
  pub broken : List Broken

-- one part of a class type: its name and its arguments, of which there may be none
pub record WrotePart : Type 0 where
  pub name : Ident
  pub args : List WroteArg

-- the primitive type of a word; the language has no float and no double
abbrev pub primitive_of : PrimitiveWord → Primitive
primitive_of word.Boolean = primitive.Boolean
primitive_of word.Byte = primitive.Byte
primitive_of word.Short = primitive.Short
primitive_of word.Char = primitive.Char
primitive_of word.Int = primitive.Int
primitive_of word.Long = primitive.Long

-- there is nothing in the list
abbrev pub is_empty : {X : Type 0} → List X → Bool
is_empty [] = true
is_empty (x ∷ xs) = false

-- ---- a class type

-- the name of a part, and the arguments of the last part behind p
abbrev pub name_of_part : WrotePart → List ℕ
name_of_part p = p.name.text

abbrev pub last_args : WrotePart → List WrotePart → List WroteArg
last_args p [] = p.args
last_args p (q ∷ qs) = last_args q qs

-- a generic class without arguments is raw (JLS 4.8)
abbrev pub class_type : Heads → ℕ → List Arg → Ty
class_type H c [] = cond (is_empty (class_variables H c)) (Class (record { 0 = c }) []) (Raw (record { 0 = c }))
class_type H c (a ∷ args) = Class (record { 0 = c }) (a ∷ args)

-- where a name has no meaning, or several, a rule is broken, and it doesn't matter which type it is
abbrev pub meant_type : Heads → Look → List Arg → Ty
meant_type H (Some (AClass c ∷ [])) args = class_type H c args
meant_type H (Some (AVariable v ∷ [])) args = Variable (record { 0 = v })
meant_type H _ args = Class (record { 0 = 0 }) []

-- the name counts as that of a class type: all but a type variable
abbrev pub is_class_meant : Look → Bool
is_class_meant (Some (AVariable v ∷ [])) = false
is_class_meant _ = true

-- the offsets and the broken rules of arguments, and the broken rules of the arguments of all parts
abbrev pub arg_places : List WroteArg → List ℕ
arg_places [] = []
arg_places (a ∷ args) = a.places ++ arg_places args

abbrev pub arg_broken : List WroteArg → List Broken
arg_broken [] = []
arg_broken (a ∷ args) = a.broken ++ arg_broken args

abbrev pub part_broken : List WrotePart → List Broken
part_broken [] = []
part_broken (p ∷ ps) = arg_broken p.args ++ part_broken ps

-- arguments stand behind the last part alone: all types but that of the last part are static here (JLS 4.8, 8.5.1)
abbrev pub early_args : WrotePart → List WrotePart → List Broken
early_args p [] = []
early_args p (q ∷ qs) = cond (is_empty p.args) [] (record { rule = 302; at = p.name.at } ∷ []) ++ early_args q qs

-- a type variable that may be named or not, without arguments or with them; one with arguments is no generic class (302)
abbrev pub variable_broken : Bool → Bool → ℕ → List Broken
variable_broken true true at = []
variable_broken true false at = record { rule = 302; at = at } ∷ []
variable_broken false without_args at = record { rule = 311; at = at } ∷ []

-- what a name means, with arguments or without: nothing (302), several types (303), or a variable that can't be named there (311). A class that depends on
-- itself breaks a rule of its own
abbrev pub meaning_broken : Heads → Reading → Look → Bool → ℕ → List Broken
meaning_broken H r None without_args at = []
meaning_broken H r (Some []) without_args at = record { rule = 302; at = at } ∷ []
meaning_broken H r (Some (AClass c ∷ [])) without_args at = []
meaning_broken H r (Some (AVariable v ∷ [])) without_args at = variable_broken (is_own (owner_of H v) r.own) without_args at
meaning_broken H r (Some (m ∷ n ∷ ms)) without_args at = record { rule = 303; at = at } ∷ []

-- where one of the classes that it names can't be named there (310), nothing else is asked of a name (JLS 6.6)
abbrev pub if_accessible : Bool → List Broken → ℕ → List Broken
if_accessible true broken at = broken
if_accessible false broken at = record { rule = 310; at = at } ∷ []

-- what the name of a class type breaks, and the arguments before its last part
abbrev pub name_broken : Heads → Knowledge → Reading → WrotePart → List WrotePart → List Broken
name_broken H K r first more =
    let look : Look = look_up H K r.find (name_of_part first) (map name_of_part more) in
    if_accessible (all_accessible H r.asker (passed_all H K (name_of_part first) (map name_of_part more) (r.find (name_of_part first))))
    (meaning_broken H r look (is_empty (last_args first more)) first.name.at)
    first.name.at
    ++ early_args first more

-- the types of these arguments
abbrev pub args_in : List WroteArg → List Arg
args_in args = map (λ (a : WroteArg). a.arg) args

-- a class type of these parts; only the arguments of the last part are kept
abbrev pub class_wrote : Heads → Knowledge → Reading → WrotePart → List WrotePart → Wrote
class_wrote H K r first more =
    let look : Look = look_up H K r.find (name_of_part first) (map name_of_part more) in
    record {
      ty = meant_type H look (args_in (last_args first more));
      places = cond (is_class_meant look) (first.name.at ∷ arg_places (last_args first more)) [];
      broken = name_broken H K r first more ++ part_broken (first ∷ more);
    }

-- ---- types

-- the step at what an array is over, or a type without brackets
abbrev pub base_wrote : BaseTree-F Wrote WroteArg Wrote WrotePart Wrote → Wrote
base_wrote (BaseTree-F.Primitive at w) = record { ty = Prim (primitive_of w); places = []; broken = [] }
base_wrote (BaseTree-F.Class it) = it

-- the steps at a type argument: exact, a wildcard, or one with a bound (JLS 4.5.1)
abbrev pub arg_with : (Ty → Arg) → Wrote → WroteArg
arg_with f w = record { arg = f w.ty; places = w.places; broken = w.broken }

abbrev pub arg_wrote : TypeArg-F Wrote WroteArg Wrote WrotePart Wrote → WroteArg
arg_wrote (TypeArg-F.Exact w) = arg_with (λ t. arg.Exact t) w
arg_wrote (TypeArg-F.Any at) = record { arg = arg.Any; places = []; broken = [] }
arg_wrote (TypeArg-F.Extends at w) = arg_with (λ t. arg.Extends t) w
arg_wrote (TypeArg-F.Super at w) = arg_with (λ t. arg.Super t) w

-- the steps at a class type and at its parts
abbrev pub class_tree_wrote : Heads → Knowledge → Reading → ClassTree-F Wrote WroteArg Wrote WrotePart Wrote → Wrote
class_tree_wrote H K r node = class_wrote H K r node.first node.more

abbrev pub part_wrote : TypePart-F Wrote WroteArg Wrote WrotePart Wrote → WrotePart
part_wrote node = record { name = node.name; args = node.args }

-- so many pairs of brackets behind a type (JLS 10.1)
abbrev pub with_dims : ℕ → Ty → Ty
with_dims zero t = t
with_dims (suc n) t = array_over n t

-- the same with so many dimensions more; and the step at a type, which is its base with its dimensions
abbrev pub with_more_dims : ℕ → Wrote → Wrote
with_more_dims n w = record w { ty = with_dims n w.ty }

abbrev pub type_wrote : TypeTree-F Wrote WroteArg Wrote WrotePart Wrote → Wrote
type_wrote node = with_more_dims node.dims node.base

-- what each kind of tree writes in a reading: bases, arguments, class types, their parts, and types
unfoldable pub wrote_base : Heads → Knowledge → Reading → BaseTree → Wrote
wrote_base H K r node = fold-BaseTree Wrote WroteArg Wrote WrotePart Wrote base_wrote arg_wrote (class_tree_wrote H K r) part_wrote type_wrote node

unfoldable pub wrote_arg : Heads → Knowledge → Reading → TypeArg → WroteArg
wrote_arg H K r node = fold-TypeArg Wrote WroteArg Wrote WrotePart Wrote base_wrote arg_wrote (class_tree_wrote H K r) part_wrote type_wrote node

unfoldable pub wrote_class : Heads → Knowledge → Reading → ClassTree → Wrote
wrote_class H K r node = fold-ClassTree Wrote WroteArg Wrote WrotePart Wrote base_wrote arg_wrote (class_tree_wrote H K r) part_wrote type_wrote node

unfoldable pub wrote_part : Heads → Knowledge → Reading → TypePart → WrotePart
wrote_part H K r node = fold-TypePart Wrote WroteArg Wrote WrotePart Wrote base_wrote arg_wrote (class_tree_wrote H K r) part_wrote type_wrote node

unfoldable pub wrote_type : Heads → Knowledge → Reading → TypeTree → Wrote
wrote_type H K r node = fold-TypeTree Wrote WroteArg Wrote WrotePart Wrote base_wrote arg_wrote (class_tree_wrote H K r) part_wrote type_wrote node
