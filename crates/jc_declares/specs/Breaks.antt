-- The broken rules of names (301 to 311), each with the node at which it stands: those that the heads tell, superinterfaces that stand twice (305), formal
-- parameters of one name (307), modifiers (309), and the names of written types (302, 303, 310, 311).
use Rattle.std.specs.Prelude.{ℕ, ◌⊎◌, Bool, false, cond, not, ◌||◌, List, [], ◌∷◌, ◌++◌, Option, Some, None}
use Rattle.std.specs.Str.{bytes_eq}
use Rattle.jc_rules.specs.declared.rule.Refusal.{Refusal}
use Rattle.jc_tree.specs.declared.statement.Formal.{Formal}
use Rattle.jc_tree.specs.declared.statement.ResultType.{ResultType}
use Rattle.jc_tree.specs.declared.statement.ResultType.TheVariants as result_of
use Rattle.jc_tree.specs.declared.statement.TypeParam.{TypeParam}
use Rattle.jc_tree.specs.declared.types.ClassTree.{ClassTree}
use Rattle.jc_tree.specs.Offsets.{first_offset_of_class, first_offset_of_head, first_offset_of_method, first_offset_of_locals, first_offset_of_formal}
use Rattle.jc_types.specs.declared.form.Ty.{Ty}
use Rattle.jc_types.specs.Breaks.{IsOf}
use Rattle.jc_types.specs.Sameness.{same}
use Rattle.jc_declares.specs.declared.heads.Heads.{Heads}
use Rattle.jc_declares.specs.Words.{says_static}
use Rattle.jc_declares.specs.Sites.{Sites, ClassSite, MethodSite, FieldSite, UseSite, BodyPart, OfType, OfClassType, OfDiamond, OfElement, OfVariable, MethodForm, Headed, ImpliedConstructor, StaticInitialiser, is_interface_head, listed_params, params_of_head}
use Rattle.jc_declares.specs.Heads.{heads_of, modifiers_in_head, superclass_trees, interface_trees, is_top, is_interface}
use Rattle.jc_declares.specs.Modifiers.{class_modifiers_fit, field_modifiers_fit, method_modifiers_fit, local_modifiers_fit}
use Rattle.jc_declares.specs.Looking.{Knowledge}
use Rattle.jc_declares.specs.Knowing.{known}
use Rattle.jc_declares.specs.Writing.{Broken, Wrote, Reading, is_empty, wrote_class, wrote_type}
use Rattle.jc_declares.specs.Readings.{head_reading, body_reading, method_reading, wrote_in_use}
use Rattle.jc_declares.specs.HeadBreaks.{broken_at, unless, of_each, some_in, some_before, class_file, head_breaks, IsCycle}

-- broken rules at offsets of a file, as refusals there
abbrev pub in_file : ℕ → List Broken → List Refusal
in_file file [] = []
in_file file (b ∷ bs) = broken_at b.rule file b.at ++ in_file file bs

-- ---- 305: a type stands twice among the superinterfaces of one clause (JLS 8.1.5, 9.1.3). One interface with different arguments, or raw and with arguments, is
-- no type twice: that breaks a rule of headers

-- the type that is written, if its names break no rule
abbrev pub sound_type : Wrote → Option Ty
sound_type w = cond (is_empty w.broken) (Some w.ty) None

-- there is a type, and it is one of these
abbrev pub is_repeated : Option Ty → List Ty → Bool
is_repeated None before = false
is_repeated (Some t) before = some_in (same t) before

-- these types, and one more where there is one
abbrev pub with_type : List Ty → Option Ty → List Ty
with_type before None = before
with_type before (Some t) = before ++ t ∷ []

-- of superinterfaces that write these types: the rule at each that is written behind the same type; `before` holds the types before them
abbrev pub repeated_breaks : Heads → Knowledge → Reading → ℕ → List Ty → List ClassTree → List Refusal
repeated_breaks H K r file before [] = []
repeated_breaks H K r file before (t ∷ ts) =
    unless (not (is_repeated (sound_type (wrote_class H K r t)) before)) (broken_at 305 file (first_offset_of_class t))
    ++ repeated_breaks H K r file (with_type before (sound_type (wrote_class H K r t))) ts

-- of the head of class c
abbrev pub class_repeated_breaks : Heads → Knowledge → ℕ → ClassSite → List Refusal
class_repeated_breaks H K c s = repeated_breaks H K (head_reading H K c) s.file [] (interface_trees s.head)

-- ---- 307: formal parameters of one name, with or without a body behind them (JLS 8.4.1, 8.8.1)

-- parameter k has the name of one before it
abbrev pub twice_formal : ℕ → List Formal → ℕ → Formal → List Refusal
twice_formal file formals k f = unless (not (some_before (λ (g : Formal). bytes_eq f.name.text g.name.text) k formals)) (broken_at 307 file f.name.at)

abbrev pub formals_twice : ℕ → List Formal → List Refusal
formals_twice file formals = of_each (twice_formal file formals) 0 formals

abbrev pub method_repeated_breaks : Heads → ℕ → MethodForm → List Refusal
method_repeated_breaks H c (Headed head has_block) = formals_twice (class_file H c) head.formals
method_repeated_breaks H c ImpliedConstructor = []
method_repeated_breaks H c StaticInitialiser = []

-- ---- 309: modifiers

-- a type, a field, formal parameters and the head of a method, and a local variable: one refusal at its offset where its modifiers don't fit
abbrev pub class_modifier_breaks : ClassSite → List Refusal
class_modifier_breaks s =
    unless (class_modifiers_fit (is_interface_head s.head) (not (is_top s.round)) s.of_interface (modifiers_in_head s.head)) (broken_at 309 s.file (first_offset_of_head s.head))

abbrev pub field_modifier_breaks : Heads → FieldSite → List Refusal
field_modifier_breaks H f =
    unless (field_modifiers_fit (is_interface H f.class) f.vars.modifiers) (broken_at 309 (class_file H f.class) (first_offset_of_locals f.vars))

abbrev pub formal_modifier_breaks : ℕ → List Formal → List Refusal
formal_modifier_breaks file [] = []
formal_modifier_breaks file (f ∷ fs) = unless (local_modifiers_fit f.modifiers) (broken_at 309 file (first_offset_of_formal f)) ++ formal_modifier_breaks file fs

abbrev pub method_modifier_breaks : Heads → ℕ → MethodForm → List Refusal
method_modifier_breaks H c (Headed head has_block) =
    unless (method_modifiers_fit (is_interface H c) head) (broken_at 309 (class_file H c) (first_offset_of_method head))
    ++ formal_modifier_breaks (class_file H c) head.formals
method_modifier_breaks H c ImpliedConstructor = []
method_modifier_breaks H c StaticInitialiser = []

abbrev pub local_modifier_breaks : ℕ → BodyPart → List Refusal
local_modifier_breaks file (OfVariable modifiers at) = unless (local_modifiers_fit modifiers) (broken_at 309 file at)
local_modifier_breaks file (OfType t) = []
local_modifier_breaks file (OfClassType t) = []
local_modifier_breaks file (OfDiamond t) = []
local_modifier_breaks file (OfElement t) = []

-- ---- 302, 303, 310 and 311: the names of written types

-- what these class types break, and the bounds of these type parameters, in a reading
abbrev pub class_trees_broken : Heads → Knowledge → Reading → List ClassTree → List Broken
class_trees_broken H K r [] = []
class_trees_broken H K r (t ∷ ts) = (wrote_class H K r t).broken ++ class_trees_broken H K r ts

abbrev pub bounds_broken : Heads → Knowledge → Reading → List TypeParam → List Broken
bounds_broken H K r [] = []
bounds_broken H K r (p ∷ ps) = class_trees_broken H K r p.bounds ++ bounds_broken H K r ps

-- of the head of class c
abbrev pub class_broken : Heads → Knowledge → ℕ → ClassSite → List Refusal
class_broken H K c s =
    let r : Reading = head_reading H K c in
    in_file s.file (bounds_broken H K r (params_of_head s.head) ++ class_trees_broken H K r (superclass_trees s.head) ++ class_trees_broken H K r (interface_trees s.head))

-- what the types of formal parameters break, and the result; no result (of a constructor) and void break nothing
abbrev pub formals_broken : Heads → Knowledge → Reading → List Formal → List Broken
formals_broken H K r [] = []
formals_broken H K r (f ∷ fs) = (wrote_type H K r f.ty).broken ++ formals_broken H K r fs

abbrev pub result_broken : Heads → Knowledge → Reading → Option ResultType → List Broken
result_broken H K r None = []
result_broken H K r (Some (result_of.Void at)) = []
result_broken H K r (Some (result_of.Type t)) = (wrote_type H K r t).broken

-- of the head of method m of class c
abbrev pub method_broken : Heads → Knowledge → ℕ → ℕ → MethodForm → List Refusal
method_broken H K m c (Headed head has_block) =
    let r : Reading = method_reading H K m c (says_static head.modifiers) in
    in_file (class_file H c)
    (bounds_broken H K r (listed_params head.params) ++ result_broken H K r head.result ++ formals_broken H K r head.formals ++ class_trees_broken H K r head.throws)
method_broken H K m c ImpliedConstructor = []
method_broken H K m c StaticInitialiser = []

-- static fields, and those of interfaces, stand in a static place
abbrev pub is_static_field : Heads → FieldSite → Bool
is_static_field H f = is_interface H f.class || says_static f.vars.modifiers

-- of a field's type
abbrev pub field_broken : Heads → Knowledge → FieldSite → List Refusal
field_broken H K f = in_file (class_file H f.class) (wrote_type H K (body_reading H K f.class (is_static_field H f)) f.vars.ty).broken

-- what the types break that a part of a body writes, in the file of its class
abbrev pub wrotes_broken : List Wrote → List Broken
wrotes_broken [] = []
wrotes_broken (w ∷ ws) = w.broken ++ wrotes_broken ws

abbrev pub use_broken : Heads → Knowledge → UseSite → List Refusal
use_broken H K u = in_file (class_file H u.class) (wrotes_broken (wrote_in_use H K u))

-- ---- all of them

-- of each class, method, field and part of a body: what stands twice in it, what its modifiers break, and then what its types do; and all of these
abbrev pub class_site_breaks : Heads → Knowledge → ℕ → ClassSite → List Refusal
class_site_breaks H K c s = class_repeated_breaks H K c s ++ class_modifier_breaks s ++ class_broken H K c s

abbrev pub method_site_breaks : Heads → Knowledge → ℕ → MethodSite → List Refusal
method_site_breaks H K m s = method_repeated_breaks H s.class s.form ++ method_modifier_breaks H s.class s.form ++ method_broken H K m s.class s.form

abbrev pub field_site_breaks : Heads → Knowledge → ℕ → FieldSite → List Refusal
field_site_breaks H K k f = field_modifier_breaks H f ++ field_broken H K f

abbrev pub use_site_breaks : Heads → Knowledge → ℕ → UseSite → List Refusal
use_site_breaks H K k u = local_modifier_breaks (class_file H u.class) u.part ++ use_broken H K u

abbrev pub site_breaks : Sites → Heads → Knowledge → List Refusal
site_breaks S H K =
    of_each (class_site_breaks H K) 0 S.classes ++ of_each (method_site_breaks H K) 0 S.methods ++ of_each (field_site_breaks H K) 0 S.fields
    ++ of_each (use_site_breaks H K) 0 S.uses

-- all but the cycles
abbrev pub listed_breaks : Sites → Heads → Knowledge → List Refusal
listed_breaks S H K = head_breaks H K ++ site_breaks S H K

-- the broken rules of names in these sources
abbrev pub BreaksNames : Sites → Refusal → Type 0
BreaksNames S b = IsOf b (listed_breaks S (heads_of S) (known (heads_of S))) ⊎ IsCycle (heads_of S) b
