-- The table of what a program declares (JLS 8 and 9): each declaration with what it says and what is implied, in the order of the sources.
use Rattle.std.specs.Prelude.{ℕ, suc, ◌+◌, ◌==◌, Bool, true, false, cond, not, List, [], ◌∷◌, ◌++◌, map, codes, Option, Some, None, slice_get}
use Rattle.jc_rules.specs.declared.rule.Place.{Place}
use Rattle.jc_tree.specs.declared.statement.Formal.{Formal}
use Rattle.jc_tree.specs.declared.statement.MethodHead.{MethodHead}
use Rattle.jc_tree.specs.declared.statement.ModifierWord.TheVariants as word_of
use Rattle.jc_tree.specs.declared.statement.ResultType.{ResultType}
use Rattle.jc_tree.specs.declared.statement.ResultType.TheVariants as result_of
use Rattle.jc_tree.specs.declared.types.ClassTree.{ClassTree}
use Rattle.jc_tree.specs.Offsets.{first_offset_of_head, first_offset_of_class, first_offset_of_type, first_offset_of_base, first_offset_of_method}
use Rattle.jc_types.specs.declared.ids.ClassId.{ClassId}
use Rattle.jc_types.specs.declared.ids.MethodId.{MethodId}
use Rattle.jc_types.specs.declared.ids.FieldId.{FieldId}
use Rattle.jc_types.specs.declared.ids.VarId.{VarId}
use Rattle.jc_types.specs.declared.ids.ScopeId.{ScopeId}
use Rattle.jc_types.specs.declared.constant.ConstantExpr.{ConstantExpr}
use Rattle.jc_types.specs.declared.declarations.ClassDecl.{ClassDecl}
use Rattle.jc_types.specs.declared.declarations.FieldDecl.{FieldDecl}
use Rattle.jc_types.specs.declared.declarations.FieldValue.{FieldValue}
use Rattle.jc_types.specs.declared.declarations.FieldValue.TheVariants.{Unknown, Initialiser}
use Rattle.jc_types.specs.declared.declarations.MethodDecl.{MethodDecl}
use Rattle.jc_types.specs.declared.declarations.MethodKind.{MethodKind}
use Rattle.jc_types.specs.declared.declarations.MethodKind.TheVariants as method_kind
use Rattle.jc_types.specs.declared.declarations.Modifiers.{Modifiers}
use Rattle.jc_types.specs.declared.declarations.Owner.{Owner}
use Rattle.jc_types.specs.declared.declarations.Owner.TheVariants as owner
use Rattle.jc_types.specs.declared.declarations.ParamName.{ParamName}
use Rattle.jc_types.specs.declared.declarations.TypePlaces.{TypePlaces}
use Rattle.jc_types.specs.declared.declarations.VariableDecl.{VariableDecl}
use Rattle.jc_types.specs.declared.declarations.Written.{Written}
use Rattle.jc_types.specs.declared.declarations.WrittenTypes.{WrittenTypes}
use Rattle.jc_types.specs.declared.form.Ty.{Ty}
use Rattle.jc_types.specs.declared.form.Ty.TheVariants.{Class}
use Rattle.jc_types.specs.declared.scopes.Demand.{Demand}
use Rattle.jc_types.specs.declared.scopes.Demand.TheVariants as demand
use Rattle.jc_types.specs.declared.scopes.Inherited.{Inherited}
use Rattle.jc_types.specs.declared.scopes.Scope.{Scope}
use Rattle.jc_types.specs.declared.scopes.ScopeOf.{ScopeOf}
use Rattle.jc_types.specs.declared.scopes.ScopeOf.TheVariants as scope
use Rattle.jc_types.specs.declared.scopes.Use.{Use}
use Rattle.jc_types.specs.declared.scopes.UseKind.{UseKind}
use Rattle.jc_types.specs.declared.scopes.UseKind.TheVariants as use_kind
use Rattle.jc_types.specs.declared.table.Table.{Table}
use Rattle.jc_types.specs.Names.{named}
use Rattle.jc_declares.specs.Words.{says, says_static}
use Rattle.jc_declares.specs.declared.heads.ClassHead.{ClassHead}
use Rattle.jc_declares.specs.declared.heads.FieldHead.{FieldHead}
use Rattle.jc_declares.specs.declared.heads.Heads.{Heads}
use Rattle.jc_declares.specs.declared.heads.ImportHead.{ImportHead}
use Rattle.jc_declares.specs.declared.heads.MethodPlace.{MethodPlace}
use Rattle.jc_declares.specs.declared.heads.ScopeForm.{ScopeForm}
use Rattle.jc_declares.specs.declared.heads.ScopeForm.TheVariants as scope_of
use Rattle.jc_declares.specs.declared.heads.ScopeHead.{ScopeHead}
use Rattle.jc_declares.specs.declared.heads.UnitHead.{UnitHead}
use Rattle.jc_declares.specs.Sites.{Sites, ClassSite, MethodSite, FieldSite, VariableSite, UseSite, BodyPart, OfType, OfClassType, OfDiamond, OfElement, OfVariable, MethodForm, Headed, ImpliedConstructor, StaticInitialiser, is_interface_head}
use Rattle.jc_declares.specs.Heads.{Named, heads_of, name_in_head, modifiers_in_head, kind_of_head, superclass_trees, interface_trees, access_of, name_of, package_of, round_of, binary_of, is_top, is_interface, declared_of, types_of_unit, unit_package, imports_of, class_variables, method_variables}
use Rattle.jc_declares.specs.Modifiers.{written_modifiers, class_modifiers, field_modifiers, method_modifiers, last_is_variable}
use Rattle.jc_declares.specs.Looking.{Knowledge, Found, InPackage, AtClass, Nowhere, imported, singles}
use Rattle.jc_declares.specs.Knowing.{known, is_some}
use Rattle.jc_declares.specs.Writing.{Reading, Wrote, wrote_class, wrote_type, with_dims}
use Rattle.jc_declares.specs.Readings.{head_reading, body_reading, method_reading, wrote_in_use}
use Rattle.jc_declares.specs.Constants.{constant_of}
use Rattle.jc_declares.specs.Breaks.{is_static_field}
use Rattle.jc_declares.specs.HeadBreaks.{class_file, class_in, owner_file}

-- places, classes and the numbers of names, as the table has them
abbrev pub place_at : ℕ → ℕ → Place
place_at file at = record { file = file; at = at }

abbrev pub class_id : ℕ → ClassId
class_id c = record { 0 = c }

abbrev pub numbers : Named → List ℕ
numbers [] = []
numbers (e ∷ es) = e.1 ∷ numbers es

-- ---- written types

-- a type's first place, and those of the class types inside it, all in one file
abbrev pub type_places : ℕ → ℕ → List ℕ → TypePlaces
type_places file at offsets = record { first = place_at file at; classes = map (λ o. place_at file o) offsets }

-- a written type that begins at an offset, with more dimensions than are written with it
abbrev pub written_at : ℕ → ℕ → ℕ → Wrote → Written
written_at file at dims w = record { ty = with_dims dims w.ty; places = type_places file at w.places }

-- the class of number 0, without arguments
abbrev pub object : Ty
object = Class (class_id 0) []

-- Object where no type is written
abbrev pub implied_object : ℕ → ℕ → Written
implied_object file at = record { ty = object; places = type_places file at [] }

-- written class types, with their places in a file
abbrev pub written_class : Heads → Knowledge → ℕ → Reading → ClassTree → Written
written_class H K file r t = written_at file (first_offset_of_class t) 0 (wrote_class H K r t)

abbrev pub written_classes : Heads → Knowledge → ℕ → Reading → List ClassTree → List Written
written_classes H K file r trees = map (λ t. written_class H K file r t) trees

-- types beside their places, in the same order
abbrev pub types : List Written → WrittenTypes
types list = record { types = map (λ (w : Written). w.ty) list; places = map (λ (w : Written). w.places) list }

-- ---- classes

-- the class that a member type is a member of; None for a type of a unit
abbrev pub outer_id : List ℕ → Option ClassId
outer_id [] = None
outer_id (c ∷ round) = Some (class_id c)

-- Object where no superclass is written, and for an interface
abbrev pub or_object : ℕ → ℕ → List Written → List Written
or_object file at [] = implied_object file at ∷ []
or_object file at (w ∷ ws) = w ∷ ws

-- the superclass, which is Object where none is written and for an interface, and then the superinterfaces; Object alone, the first class, has none
-- (JLS 8.1.4, 9.1.3)
abbrev pub super_list : Heads → Knowledge → ℕ → ClassSite → List Written
super_list H K c s =
    cond (c == 0) [] (or_object s.file (first_offset_of_head s.head) (written_classes H K s.file (head_reading H K c) (superclass_trees s.head)))
    ++ written_classes H K s.file (head_reading H K c) (interface_trees s.head)

-- of these methods, and of these fields, counted from i, those of class c
abbrev pub methods_from : ℕ → ℕ → List MethodPlace → List MethodId
methods_from c i [] = []
methods_from c i (m ∷ ms) = cond (m.class == c) (record { 0 = i } ∷ []) [] ++ methods_from c (suc i) ms

abbrev pub fields_from : ℕ → ℕ → List FieldHead → List FieldId
fields_from c i [] = []
fields_from c i (f ∷ fs) = cond (f.class == c) (record { 0 = i } ∷ []) [] ++ fields_from c (suc i) fs

-- the numbers as those of type variables
abbrev pub variable_ids : Named → List VarId
variable_ids names = map (λ v. record { 0 = v }) (numbers names)

-- class c of the table: what its head says and implies, with what it declares, in the order of the sources
abbrev pub class_decl : Heads → Knowledge → ℕ → ClassSite → ClassDecl
class_decl H K c s =
    record {
      place = place_at s.file (first_offset_of_head s.head);
      name = name_in_head s.head;
      binary = binary_of H c;
      «package» = package_of H c;
      outer = outer_id s.round;
      members = map class_id (numbers (declared_of H c));
      scope = record { 0 = s.scope };
      modifiers = class_modifiers (is_interface_head s.head) (not (is_top s.round)) (s.of_interface) (modifiers_in_head s.head);
      kind = kind_of_head s.head;
      vars = variable_ids (class_variables H c);
      supers = types (super_list H K c s);
      methods = methods_from c 0 H.methods;
      fields = fields_from c 0 H.fields;
    }

-- ---- methods

-- one where it holds, as a number
abbrev pub one_more : Bool → ℕ
one_more true = 1
one_more false = 0

-- a parameter of variable arity is an array of what is written (JLS 8.4.1)
abbrev pub written_formal : Heads → Knowledge → ℕ → Reading → Formal → Written
written_formal H K file r f = written_at file (first_offset_of_type f.ty) (f.dims + one_more f.variable_arity) (wrote_type H K r f.ty)

-- a formal parameter's name, its place, and whether it is final
abbrev pub param_name : ℕ → Formal → ParamName
param_name file f = record { place = place_at file f.name.at; name = f.name.text; is_final = says word_of.Final f.modifiers }

-- the type of a result; None for void, and for a constructor, which has no result
abbrev pub written_result : Heads → Knowledge → ℕ → Reading → Option ResultType → Option Written
written_result H K file r None = None
written_result H K file r (Some (result_of.Void at)) = None
written_result H K file r (Some (result_of.Type t)) = Some (written_at file (first_offset_of_type t) 0 (wrote_type H K r t))

-- what is written without a result is a constructor (JLS 8.8)
abbrev pub kind_of_method : Option ResultType → MethodKind
kind_of_method None = method_kind.Constructor
kind_of_method (Some result) = method_kind.Method

-- method m that is written with a head, and with a block or without one; its types are read with its own type parameters
abbrev pub headed_method : Heads → Knowledge → ℕ → MethodSite → MethodHead → Bool → MethodDecl
headed_method H K m s head has_block =
    let file : ℕ = class_file H s.class in let r : Reading = method_reading H K m s.class (says_static head.modifiers) in
    record {
      place = place_at file (first_offset_of_method head);
      class = class_id s.class;
      name = head.name.text;
      kind = kind_of_method head.result;
      modifiers = method_modifiers (is_interface H s.class) head.modifiers;
      scope = record { 0 = s.scope };
      vars = variable_ids (method_variables H m);
      params = types (map (written_formal H K file r) head.formals);
      param_names = map (param_name file) head.formals;
      result = written_result H K file r head.result;
      thrown = types (written_classes H K file r head.throws);
      is_variable_arity = last_is_variable head.formals;
      has_body = has_block;
    }

-- the offset of a class's declaration
abbrev pub class_at_in : Option ClassHead → ℕ
class_at_in (Some c) = c.at
class_at_in None = 0

-- no types, and no places
abbrev pub no_types : WrittenTypes
no_types = record { types = []; places = [] }

-- what no source writes stands at its class
abbrev pub implied_method : Heads → MethodSite → List ℕ → MethodKind → Modifiers → MethodDecl
implied_method H s name kind modifiers =
    record {
      place = place_at (class_file H s.class) (class_at_in (slice_get H.classes s.class));
      class = class_id s.class;
      name = name;
      kind = kind;
      modifiers = modifiers;
      scope = record { 0 = s.scope };
      vars = [];
      params = no_types;
      param_names = [];
      result = None;
      thrown = no_types;
      is_variable_arity = false;
      has_body = true;
    }

-- an implied constructor has the access of its class (JLS 8.8.9); a static initialiser is static, and has the name that class files give it (JVMS 2.9)
abbrev pub method_decl_of : Heads → Knowledge → ℕ → MethodSite → MethodForm → MethodDecl
method_decl_of H K m s (Headed head has_block) = headed_method H K m s head has_block
method_decl_of H K m s ImpliedConstructor =
    implied_method H s (name_of H s.class) method_kind.ImpliedConstructor (record (written_modifiers []) { access = access_of H s.class })
method_decl_of H K m s StaticInitialiser = implied_method H s (codes "<clinit>") method_kind.StaticInitialiser (record (written_modifiers []) { is_static = true })

-- method m of the table, as it is written or implied
abbrev pub method_decl : Heads → Knowledge → ℕ → MethodSite → MethodDecl
method_decl H K m s = method_decl_of H K m s s.form

-- ---- fields

-- the initialiser with its scope, or unknown where it has no constant form
abbrev pub constant_value : ℕ → Option ConstantExpr → FieldValue
constant_value s None = Unknown
constant_value s (Some e) = Initialiser (record { 0 = s }) e

-- a final field whose initialiser has only the forms of a constant expression keeps it, and its scope (JLS 4.12.4, 15.28)
abbrev pub field_value : Heads → Knowledge → FieldSite → Bool → FieldValue
field_value H K f true =
    constant_value f.scope (constant_of H K (class_file H f.class) (body_reading H K f.class (is_static_field H f)) f.var.init)
field_value H K f false = Unknown

-- field k of the table; the dimensions behind its name belong to its type (JLS 8.3)
abbrev pub field_decl : Heads → Knowledge → ℕ → FieldSite → FieldDecl
field_decl H K k f =
    let file : ℕ = class_file H f.class in let ms : Modifiers = field_modifiers (is_interface H f.class) f.vars.modifiers in
    record {
      place = place_at file f.var.name.at;
      class = class_id f.class;
      name = f.var.name.text;
      modifiers = ms;
      ty = written_at file (first_offset_of_type f.vars.ty) f.var.dims (wrote_type H K (body_reading H K f.class (is_static_field H f)) f.vars.ty);
      value = field_value H K f ms.is_final;
    }

-- ---- type variables, with Object where no bound is written (JLS 4.4)

-- where the bounds of type parameters are read: in the head of their class, or in their method
abbrev pub owner_reading : Heads → Knowledge → Owner → Reading
owner_reading H K (owner.Class c) = head_reading H K c.0
owner_reading H K (owner.Method m) = method_reading H K m.0 (class_in (slice_get H.methods m.0)) false

-- type variable k of the table, with its bounds in their order
abbrev pub variable_decl : Heads → Knowledge → ℕ → VariableSite → VariableDecl
variable_decl H K k v =
    let file : ℕ = owner_file H v.owner in
    record {
      place = place_at file v.param.name.at;
      name = v.param.name.text;
      owner = v.owner;
      bounds = types (or_object file v.param.name.at (written_classes H K file (owner_reading H K v.owner) v.param.bounds));
    }

-- ---- scopes

-- each name once, where it stands first
abbrev pub first_names : Named → Named → Named
first_names found [] = found
first_names found (e ∷ es) = first_names (cond (is_some (named e.0 found)) found (found ++ e ∷ [])) es

-- what an import on demand imports from, a package or a type; nothing for single imports and for those that name nothing
abbrev pub demand_by : ℕ → ImportHead → Found → List Demand
demand_by file i (InPackage p) = cond i.on_demand (demand.Package (place_at file i.at) p ∷ []) []
demand_by file i (AtClass c) = cond i.on_demand (demand.Type (place_at file i.at) (class_id c) ∷ []) []
demand_by file i Nowhere = []

abbrev pub demands : Heads → ℕ → List ImportHead → List Demand
demands H file [] = []
demands H file (i ∷ is) = demand_by file i (imported H i) ++ demands H file is

-- the file of unit u; 0 where there is no such unit
abbrev pub file_in_unit : Option UnitHead → ℕ
file_in_unit (Some u) = u.file
file_in_unit None = 0

abbrev pub unit_file : Heads → ℕ → ℕ
unit_file H u = file_in_unit (slice_get H.units u)

-- the member types that are inherited, by name; none where they aren't known
abbrev pub inherited_list : Option Named → List Inherited
inherited_list None = []
inherited_list (Some es) = map (λ (e : List ℕ × ℕ). record { name = e.0; class = class_id e.1 }) es

-- what a unit, a class and a method bring into scope by simple names (JLS 6.3)
abbrev pub scope_of_form : Heads → Knowledge → ScopeForm → ScopeOf
scope_of_form H K (scope_of.Unit u) =
    scope.Unit (first_names [] (singles H (imports_of H u) ++ types_of_unit H u)) (unit_package H u) (demands H (unit_file H u) (imports_of H u))
scope_of_form H K (scope_of.Class c) =
    scope.Type (class_id c) (map class_id (round_of H c)) (first_names [] (class_variables H c)) (first_names [] (declared_of H c)) (inherited_list (K c))
scope_of_form H K (scope_of.Method m) = scope.Method (record { 0 = m }) (first_names [] (method_variables H m))

-- the scope round it; None for a unit's
abbrev pub outer_scope : Option ℕ → Option ScopeId
outer_scope None = None
outer_scope (Some s) = Some (record { 0 = s })

-- scope k of the table
abbrev pub scope_decl : Heads → Knowledge → ℕ → ScopeHead → Scope
scope_decl H K k s = record { outer = outer_scope s.outer; of = scope_of_form H K s.form }

-- ---- the types that bodies write

-- the offset at which a part of a body begins
abbrev pub part_at : BodyPart → ℕ
part_at (OfType t) = first_offset_of_type t
part_at (OfClassType t) = first_offset_of_class t
part_at (OfDiamond t) = first_offset_of_class t
part_at (OfElement t) = first_offset_of_base t
part_at (OfVariable modifiers at) = at

-- a class type before a diamond has a kind of its own, since its arguments are inferred (JLS 15.9.3)
abbrev pub kind_of_part : BodyPart → UseKind
kind_of_part (OfDiamond t) = use_kind.Diamond
kind_of_part _ = use_kind.Type

-- each written type of a part of a body, and of all parts in their order; declared variables' modifiers write none
abbrev pub use_with : Heads → UseSite → List Wrote → List Use
use_with H u [] = []
use_with H u (w ∷ ws) =
    record {
      class = class_id u.class;
      scope = record { 0 = u.scope };
      ty = written_at (class_file H u.class) (part_at u.part) 0 w;
      kind = kind_of_part u.part;
    }
    ∷ use_with H u ws

abbrev pub use_decls : Heads → Knowledge → List UseSite → List Use
use_decls H K [] = []
use_decls H K (u ∷ us) = use_with H u (wrote_in_use H K u) ++ use_decls H K us

-- ---- the whole

-- each of a list by its number, counted from i
abbrev pub numbered : {X Y : Type 0} → (ℕ → X → Y) → ℕ → List X → List Y
numbered f i [] = []
numbered f i (x ∷ xs) = f i x ∷ numbered f (suc i) xs

-- the binary names of these classes, counted from i (JLS 13.1)
abbrev pub binaries_from : Heads → ℕ → List ClassHead → Named
binaries_from H i [] = []
binaries_from H i (c ∷ cs) = (binary_of H i, i) ∷ binaries_from H (suc i) cs

-- the table of these declarations, where this is known of their classes
abbrev pub table_with : Sites → Heads → Knowledge → Table
table_with S H K =
    record {
      classes = numbered (class_decl H K) 0 S.classes;
      methods = numbered (method_decl H K) 0 S.methods;
      fields = numbered (field_decl H K) 0 S.fields;
      variables = numbered (variable_decl H K) 0 S.variables;
      scopes = numbered (scope_decl H K) 0 H.scopes;
      uses = use_decls H K S.uses;
      index = first_names [] (binaries_from H 0 H.classes);
    }

-- the table of a program's declarations, with all that is known of its classes
abbrev pub table_of : Sites → Table
table_of S = table_with S (heads_of S) (known (heads_of S))
