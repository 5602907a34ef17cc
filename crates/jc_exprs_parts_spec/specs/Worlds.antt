-- What a place in a body stands in: the program's declarations, its class, the locals in scope, and whether there is an instance (JLS 6.3, 8.1.3, 8.8.7.1).
use Rattle.std.specs.Prelude.{ℕ, ◌||◌, Bool, true, false, List, [], ◌∷◌, Option, Some, None, slice_get, if◌then◌else◌}
use Rattle.std.specs.Str.{bytes_eq}
use Rattle.jc_rules.specs.declared.rule.Place.{Place}
use Rattle.jc_tree.specs.declared.types.BaseTree.{BaseTree}
use Rattle.jc_tree.specs.declared.types.ClassTree.{ClassTree}
use Rattle.jc_tree.specs.declared.types.TypeArg.{TypeArg}
use Rattle.jc_tree.specs.declared.types.TypeTree.{TypeTree}
use Rattle.jc_types.specs.declared.constant.Constant.{Constant}
use Rattle.jc_types.specs.declared.form.Arg.{Arg}
use Rattle.jc_types.specs.declared.form.Ty.{Ty}
use Rattle.jc_types.specs.declared.form.Ty.TheVariants.{Class, Raw}
use Rattle.jc_types.specs.declared.ids.ClassId.{ClassId}
use Rattle.jc_types.specs.declared.ids.FieldId.{FieldId}
use Rattle.jc_types.specs.declared.ids.VarId.{VarId}
use Rattle.jc_types.specs.declared.table.Table.{Table}
use Rattle.jc_types.specs.Accessors.{vars_of}
use Rattle.jc_overriding.specs.Viewing.{own_type}
use Rattle.jc_declares.specs.declared.heads.Heads.{Heads}
use Rattle.jc_declares.specs.HeadBreaks.{class_file}
use Rattle.jc_declares.specs.Heads.{is_interface, round_of}
use Rattle.jc_declares.specs.Looking.{Knowledge}
use Rattle.jc_declares.specs.Making.{class_id}
use Rattle.jc_declares.specs.Readings.{reading_of}
use Rattle.jc_declares.specs.Writing.{Reading, wrote_arg, wrote_base, wrote_class, wrote_type}

-- whether there is an instance of the class: none in a static place (JLS 8.1.3), and none yet among the arguments of a constructor's call of
-- another constructor (JLS 8.8.7.1)
pub data Here : Type 0 where
  Instance : Here
  Static : Here
  Early : Here

-- a local variable or parameter in scope, by its number in the method; one that is a constant variable has its value (JLS 4.12.4)
pub record LocalIn : Type 0 where
  pub name : List ℕ
  pub number : ℕ
  pub ty : Ty
  pub is_final : Bool
  pub constant : Option Constant

-- an initialiser, of a field or a block (JLS 8.3.2, 8.6, 8.7): whether it is static, and the field that it is of
pub record Initialising : Type 0 where
  pub is_static : Bool
  pub field : Option FieldId

-- `constants` has for each field of the table its value, where it is a constant variable
pub record World : Type 0 where
  pub table : Table
  pub heads : Heads
  pub knowledge : Knowledge
  pub constants : List (Option Constant)
  pub class : ClassId
  pub scope : ℕ
  pub here : Here
  pub initialising : Option Initialising
  pub locals : List LocalIn

-- ---- places

abbrev pub at : World → ℕ → Place
at W n = record { file = class_file W.heads W.class.0; at = n }

-- ---- types that are written there (JLS 6.5.5): a class's type variables may not be named in a static place

abbrev pub is_static_here : Here → Bool
is_static_here Static = true
is_static_here _ = false

abbrev pub reading : World → Reading
reading W = reading_of W.heads W.knowledge W.scope (is_static_here W.here || is_interface W.heads W.class.0)

abbrev pub written : World → TypeTree → Ty
written W tree = (wrote_type W.heads W.knowledge (reading W) tree).ty

abbrev pub written_class : World → ClassTree → Ty
written_class W tree = (wrote_class W.heads W.knowledge (reading W) tree).ty

abbrev pub written_base : World → BaseTree → Ty
written_base W tree = (wrote_base W.heads W.knowledge (reading W) tree).ty

abbrev pub written_arg : World → TypeArg → Arg
written_arg W tree = (wrote_arg W.heads W.knowledge (reading W) tree).arg

-- ---- its class

-- the type of `this` (JLS 15.8.3)
abbrev pub this_type : World → Ty
this_type W = own_type W.table W.class

-- the classes round the place, its own first
abbrev pub class_ids : List ℕ → List ClassId
class_ids [] = []
class_ids (c ∷ cs) = class_id c ∷ class_ids cs

abbrev pub round : World → List ClassId
round W = W.class ∷ class_ids (round_of W.heads W.class.0)

-- a class by its name alone, as static members are named through it: raw where it has parameters (JLS 4.8)
abbrev pub class_or_raw : ClassId → List VarId → Ty
class_or_raw k [] = Class k []
class_or_raw k (v ∷ vs) = Raw k

abbrev pub named_class : Table → ClassId → Ty
named_class T k = class_or_raw k (vars_of T k)

-- ---- locals and constants

-- the local of a name that was declared last; no two of them are in scope together in a body that breaks no rule (616)
abbrev pub later : List ℕ → LocalIn → Option LocalIn → Option LocalIn
later n l found = if bytes_eq n l.name then Some l else found

abbrev pub local_in : List ℕ → List LocalIn → Option LocalIn → Option LocalIn
local_in n [] found = found
local_in n (l ∷ ls) found = local_in n ls (later n l found)

abbrev pub local_named : World → List ℕ → Option LocalIn
local_named W n = local_in n W.locals None

abbrev pub or_unknown : Option (Option Constant) → Option Constant
or_unknown (Some c) = c
or_unknown None = None

-- the value of a field that is a constant variable
abbrev pub constant_field : World → FieldId → Option Constant
constant_field W f = or_unknown (slice_get W.constants f.0)
