-- The declarations of a program, each with its tree and where it stands, in the order in which they are written (JLS 7 to 9). A number of a
-- class, method, field, variable or scope is its place in its list. The types that bodies write stand in a list of their own.
use Rattle.std.specs.Prelude.{ℕ, ◌+◌, Bool, true, false, cond, not, ◌&&◌, ◌||◌, List, [], ◌∷◌, ◌++◌, map, length, Option, Some, None}
use Rattle.jc_tree.specs.declared.expression.ArrayInit.{ArrayInit, ArrayInit-F, fold-ArrayInit}
use Rattle.jc_tree.specs.declared.expression.Creation.{Creation, Creation-F, fold-Creation}
use Rattle.jc_tree.specs.declared.expression.Expr.{Expr, Expr-F, fold-Expr}
use Rattle.jc_tree.specs.declared.expression.Init.{Init, Init-F, fold-Init}
use Rattle.jc_tree.specs.declared.expression.Operand.{Operand, Operand-F, fold-Operand}
use Rattle.jc_tree.specs.declared.statement.Clause.{Clause, Clause-F, fold-Clause}
use Rattle.jc_tree.specs.declared.statement.ClauseHead.{ClauseHead}
use Rattle.jc_tree.specs.declared.statement.ClauseHead.TheVariants as clause_of
use Rattle.jc_tree.specs.declared.statement.Declaration.{Declaration, Declaration-F, fold-Declaration}
use Rattle.jc_tree.specs.declared.statement.DeclarationHead.{DeclarationHead}
use Rattle.jc_tree.specs.declared.statement.DeclarationHead.TheVariants as head_of
use Rattle.jc_tree.specs.declared.statement.ForHead.{ForHead}
use Rattle.jc_tree.specs.declared.statement.ForHead.TheVariants as for_of
use Rattle.jc_tree.specs.declared.statement.ForInit.{ForInit}
use Rattle.jc_tree.specs.declared.statement.ForInit.TheVariants as init_of
use Rattle.jc_tree.specs.declared.statement.Import.{Import}
use Rattle.jc_tree.specs.declared.statement.LocalVars.{LocalVars}
use Rattle.jc_tree.specs.declared.statement.Member.{Member, Member-F, fold-Member}
use Rattle.jc_tree.specs.declared.statement.MethodHead.{MethodHead}
use Rattle.jc_tree.specs.declared.statement.Modifier.{Modifier}
use Rattle.jc_tree.specs.declared.statement.Package.{Package}
use Rattle.jc_tree.specs.declared.statement.ResultType.{ResultType}
use Rattle.jc_tree.specs.declared.statement.Stmt.{Stmt, Stmt-F, fold-Stmt}
use Rattle.jc_tree.specs.declared.statement.TopLevel.{TopLevel}
use Rattle.jc_tree.specs.declared.statement.TopLevel.TheVariants as top_of
use Rattle.jc_tree.specs.declared.statement.TypeParam.{TypeParam}
use Rattle.jc_tree.specs.declared.statement.TypeParams.{TypeParams}
use Rattle.jc_tree.specs.declared.statement.Var.{Var}
use Rattle.jc_tree.specs.declared.types.BaseTree.{BaseTree}
use Rattle.jc_tree.specs.declared.types.ClassTree.{ClassTree}
use Rattle.jc_tree.specs.declared.types.TypeArg.{TypeArg, TypeArg-F, out-TypeArg}
use Rattle.jc_tree.specs.declared.types.TypePart.{TypePart}
use Rattle.jc_tree.specs.declared.types.TypeTree.{TypeTree}
use Rattle.jc_tree.specs.Offsets.{modifiers_first, first_offset_of_class, first_offset_of_locals, first_offset_of_type}
use Rattle.jc_types.specs.declared.declarations.Owner.{Owner}
use Rattle.jc_types.specs.declared.declarations.Owner.TheVariants as owner
use Rattle.jc_declares.specs.Words.{says_static}
use Rattle.jc_declares.specs.declared.heads.ScopeForm.TheVariants as scope_of
use Rattle.jc_declares.specs.declared.heads.ScopeHead.{ScopeHead}
use Rattle.jc_declares.specs.declared.heads.Standing.{Standing}
use Rattle.jc_declares.specs.declared.unit.SourceUnit.{SourceUnit}

-- a source: its file, its scope, and what stands before its types (JLS 7.3)
pub record UnitSite : Type 0 where
  pub file : ℕ
  pub scope : ℕ
  pub «package» : Option Package
  pub imports : List Import

-- a class or interface: its file and unit, the classes round it from the innermost outwards, whether it is a member of an interface, and the scope of
-- its body
pub record ClassSite : Type 0 where
  pub file : ℕ
  pub unit : ℕ
  pub round : List ℕ
  pub of_interface : Bool
  pub scope : ℕ
  pub head : DeclarationHead

-- how a method is written: with a block or without one, or not at all (JLS 8.8.9, 12.4)
pub data MethodForm : Type 0 where
  Headed : MethodHead → Bool → MethodForm
  ImpliedConstructor : MethodForm
  StaticInitialiser : MethodForm

-- a method of a class, with the scope of its own, and how it is written
pub record MethodSite : Type 0 where
  pub class : ℕ
  pub scope : ℕ
  pub form : MethodForm

-- one of the variables that are declared together, in the scope of its class
pub record FieldSite : Type 0 where
  pub class : ℕ
  pub scope : ℕ
  pub vars : LocalVars
  pub var : Var

-- a type parameter of a class or a method
pub record VariableSite : Type 0 where
  pub owner : Owner
  pub param : TypeParam

-- What is read of a body without typing it: a type as it is written, whole, as a class with its arguments or with a diamond, or as what an array is
-- over; and the modifiers of a variable that is declared there, with the offset of the declaration.
pub data BodyPart : Type 0 where
  OfType : TypeTree → BodyPart
  OfClassType : ClassTree → BodyPart
  OfDiamond : ClassTree → BodyPart
  OfElement : BaseTree → BodyPart
  OfVariable : List Modifier → ℕ → BodyPart

-- where it stands: in the body of a class, in a scope, in a static place or not (JLS 8.1.3)
pub record UseSite : Type 0 where
  pub class : ℕ
  pub scope : ℕ
  pub is_static : Bool
  pub part : BodyPart

-- all declarations of a program, in seven lists, and the types that bodies write
pub record Sites : Type 0 where
  pub units : List UnitSite
  pub classes : List ClassSite
  pub methods : List MethodSite
  pub fields : List FieldSite
  pub variables : List VariableSite
  pub scopes : List ScopeHead
  pub uses : List UseSite

-- nothing declared
abbrev pub no_sites : Sites
no_sites = record { units = []; classes = []; methods = []; fields = []; variables = []; scopes = []; uses = [] }

-- the ones and then the others
abbrev pub joined : Sites → Sites → Sites
joined a b =
    record {
      units = a.units ++ b.units;
      classes = a.classes ++ b.classes;
      methods = a.methods ++ b.methods;
      fields = a.fields ++ b.fields;
      variables = a.variables ++ b.variables;
      scopes = a.scopes ++ b.scopes;
      uses = a.uses ++ b.uses;
    }

-- how many classes, methods and scopes are declared before
pub record Counts : Type 0 where
  pub classes : ℕ
  pub methods : ℕ
  pub scopes : ℕ

-- how many there are behind these as well
abbrev pub behind : Counts → Sites → Counts
behind n s = record { classes = n.classes + length s.classes; methods = n.methods + length s.methods; scopes = n.scopes + length s.scopes }

-- ---- the types that expressions and statements write, in their order

-- one list behind the other; of a part that may be left out; and of each of a list
abbrev pub uses_of_lists : List (List BodyPart) → List BodyPart
uses_of_lists [] = []
uses_of_lists (uses ∷ more) = uses ++ uses_of_lists more

abbrev pub uses_in_some : {X : Type 0} → (X → List BodyPart) → Option X → List BodyPart
uses_in_some f None = []
uses_in_some f (Some x) = f x

abbrev pub uses_in_each : {X : Type 0} → (X → List BodyPart) → List X → List BodyPart
uses_in_each f list = uses_of_lists (map f list)

-- the type in a type argument of a call; the wildcard without a bound writes none (JLS 4.5.1)
abbrev pub use_at_arg : TypeArg-F BaseTree TypeArg ClassTree TypePart TypeTree → List BodyPart
use_at_arg (TypeArg-F.Exact ty) = OfType ty ∷ []
use_at_arg (TypeArg-F.Any at) = []
use_at_arg (TypeArg-F.Extends at bound) = OfType bound ∷ []
use_at_arg (TypeArg-F.Super at bound) = OfType bound ∷ []

abbrev pub use_of_arg : TypeArg → List BodyPart
use_of_arg a = use_at_arg (out-TypeArg a)

-- the types that a part of a body writes, in their order
abbrev pub Uses : Type 0
Uses = List BodyPart

-- a creation: the class or the element type first, then what the arguments or dimensions write; a diamond is told apart
abbrev pub creation_uses : Creation-F Uses Uses Uses Uses Uses → Uses
creation_uses (Creation-F.Object class true actuals body) = OfDiamond class ∷ uses_of_lists actuals
creation_uses (Creation-F.Object class false actuals body) = OfClassType class ∷ uses_of_lists actuals
creation_uses (Creation-F.Sized element first more dims) = OfElement element ∷ first ++ uses_of_lists more
creation_uses (Creation-F.Initialised element dims init) = OfElement element ∷ init

-- a name that stands for a type before a point is no written type: it is told from the names of an expression
abbrev pub expr_uses : Expr-F Uses Uses Uses Uses Uses → Uses
expr_uses (Expr-F.Assign target op value) = target ++ value
expr_uses (Expr-F.Conditional test then_it else_it) = test ++ then_it ++ else_it
expr_uses (Expr-F.Chain first rest) = first ++ uses_of_lists rest
expr_uses (Expr-F.Prefix first more operand) = operand
expr_uses (Expr-F.Cast at ty operand) = OfType ty ∷ operand
expr_uses (Expr-F.Postfix of_it op) = of_it
expr_uses (Expr-F.Field of_it name) = of_it
expr_uses (Expr-F.Call of_it type_args name actuals) = of_it ++ uses_in_each use_of_arg type_args ++ uses_of_lists actuals
expr_uses (Expr-F.Index of_it index) = of_it ++ index
expr_uses (Expr-F.InnerNew of_it creation) = of_it ++ creation
expr_uses (Expr-F.Literal at value) = []
expr_uses (Expr-F.This at) = []
expr_uses (Expr-F.SuperField at name) = []
expr_uses (Expr-F.SuperCall at type_args name actuals) = uses_in_each use_of_arg type_args ++ uses_of_lists actuals
expr_uses (Expr-F.Paren at inner) = inner
expr_uses (Expr-F.Name name) = []
expr_uses (Expr-F.Invoke name actuals) = uses_of_lists actuals
expr_uses (Expr-F.New at creation) = creation
expr_uses (Expr-F.ClassLiteral ty) = []
expr_uses (Expr-F.VoidLiteral at) = []
expr_uses (Expr-F.OuterThis first more) = []

-- the steps at initialisers, operands and array initialisers
abbrev pub init_uses : Init-F Uses Uses Uses Uses Uses → Uses
init_uses (Init-F.Value it) = it
init_uses (Init-F.Nested it) = it

abbrev pub operand_uses : Operand-F Uses Uses Uses Uses Uses → Uses
operand_uses (Operand-F.Binary op right) = right
operand_uses (Operand-F.InstanceOf ty) = OfType ty ∷ []

abbrev pub array_uses : ArrayInit-F Uses Uses Uses Uses Uses → Uses
array_uses node = uses_of_lists node.inits

-- the types that an expression writes, and its parts: initialisers, creations, operands and array initialisers
unfoldable pub uses_of_expr : Expr → Uses
uses_of_expr node = fold-Expr Uses Uses Uses Uses Uses creation_uses expr_uses init_uses operand_uses array_uses node

unfoldable pub uses_of_init : Init → Uses
uses_of_init node = fold-Init Uses Uses Uses Uses Uses creation_uses expr_uses init_uses operand_uses array_uses node

unfoldable pub uses_of_creation : Creation → Uses
uses_of_creation node = fold-Creation Uses Uses Uses Uses Uses creation_uses expr_uses init_uses operand_uses array_uses node

unfoldable pub uses_of_operand : Operand → Uses
uses_of_operand node = fold-Operand Uses Uses Uses Uses Uses creation_uses expr_uses init_uses operand_uses array_uses node

unfoldable pub uses_of_array : ArrayInit → Uses
uses_of_array node = fold-ArrayInit Uses Uses Uses Uses Uses creation_uses expr_uses init_uses operand_uses array_uses node

-- of variables that are declared together: their modifiers, their type, and then their initialisers
abbrev pub uses_of_var : Var → Uses
uses_of_var v = uses_in_some uses_of_init v.init

abbrev pub uses_of_locals : LocalVars → Uses
uses_of_locals vars = OfVariable vars.modifiers (first_offset_of_locals vars) ∷ OfType vars.ty ∷ uses_of_var vars.first ++ uses_in_each uses_of_var vars.more

-- of the head of a for statement (JLS 14.14)
abbrev pub uses_of_for_init : ForInit → Uses
uses_of_for_init (init_of.Local vars) = uses_of_locals vars
uses_of_for_init (init_of.Effects effects) = uses_in_each uses_of_expr effects

abbrev pub uses_of_for : ForHead → Uses
uses_of_for (for_of.Basic init test update) = uses_of_for_init init ++ uses_in_some uses_of_expr test ++ uses_in_each uses_of_expr update
uses_of_for (for_of.Enhanced modifiers ty name dims iterable) =
    OfVariable modifiers (modifiers_first modifiers (first_offset_of_type ty)) ∷ OfType ty ∷ uses_of_expr iterable

-- of the head of a clause; a catch clause declares a variable and writes one type or several (JLS 14.20)
abbrev pub uses_of_clause_head : ClauseHead → Uses
uses_of_clause_head (clause_of.If test) = uses_of_expr test
uses_of_clause_head (clause_of.Case label) = uses_of_expr label
uses_of_clause_head clause_of.Default = []
uses_of_clause_head (clause_of.Catch modifiers first more name) =
    OfVariable modifiers (modifiers_first modifiers (first_offset_of_class first)) ∷ OfClassType first ∷ map (λ c. OfClassType c) more
uses_of_clause_head clause_of.Finally = []

-- ---- members

-- what is declared at a standing, where so much is declared before it
abbrev pub Walk : Type 0
Walk = Standing → Counts → Sites

-- what all these declare, each behind those before it
abbrev pub walked : List Walk → Walk
walked [] at n = no_sites
walked (w ∷ ws) at n = let s : Sites = w at n in joined s (walked ws at (behind n s))

-- the class in whose body it stands; 0 where there is none
abbrev pub innermost : List ℕ → ℕ
innermost [] = 0
innermost (c ∷ round) = c

-- these parts of a body, at a standing and in a scope
abbrev pub used_at : Standing → ℕ → Bool → Uses → List UseSite
used_at at scope is_static trees = map (λ t. record { class = innermost at.round; scope = scope; is_static = is_static; part = t }) trees

-- nothing declared but these types of bodies
abbrev pub only_uses : List UseSite → Sites
only_uses uses = record { units = []; classes = []; methods = []; fields = []; variables = []; scopes = []; uses = uses }

-- a site for each variable of a declaration of fields, with the types that their initialisers write
abbrev pub field_sites : Standing → LocalVars → List Var → List FieldSite
field_sites at vars list = map (λ v. record { class = innermost at.round; scope = at.scope; vars = vars; var = v }) list

abbrev pub field_walk : Bool → LocalVars → Walk
field_walk is_static vars at n =
    record {
      units = [];
      classes = [];
      methods = [];
      fields = field_sites at vars (vars.first ∷ vars.more);
      variables = [];
      scopes = [];
      uses = used_at at at.scope is_static (uses_in_each uses_of_var (vars.first ∷ vars.more));
    }

-- a site for each type parameter of an owner
abbrev pub variable_sites : Owner → List TypeParam → List VariableSite
variable_sites o params = map (λ p. record { owner = o; param = p }) params

-- the type parameters of a head; none where it writes none
abbrev pub listed_params : Option TypeParams → List TypeParam
listed_params None = []
listed_params (Some params) = params.first ∷ params.more

-- a method that is written: itself, its type parameters, its scope, and what its body writes, which is read in that scope
abbrev pub method_walk : MethodHead → Bool → Uses → Walk
method_walk head has_block trees at n =
    record {
      units = [];
      classes = [];
      methods = record { class = innermost at.round; scope = n.scopes; form = Headed head has_block } ∷ [];
      fields = [];
      variables = variable_sites (owner.Method (record { 0 = n.methods })) (listed_params head.params);
      scopes = record { outer = Some at.scope; form = scope_of.Method n.methods } ∷ [];
      uses = used_at at n.scopes (says_static head.modifiers) trees;
    }

-- of a member: its sites, and what its declaration has to know of it: that it is a constructor, a static block or a field, static or not
pub record Membered : Type 0 where
  pub walk : Walk
  pub constructs : Bool
  pub is_static_part : Bool
  pub is_field : Bool

-- what is written without a result is a constructor (JLS 8.8)
abbrev pub has_no_result : Option ResultType → Bool
has_no_result None = true
has_no_result (Some result) = false

-- whether a field stands in an interface doesn't matter here: it is static there in any case, and so is its initialiser
abbrev pub member_sites : Member-F Membered Uses Uses Walk → Membered
member_sites (Member-F.Semicolon at) = record { walk = walked []; constructs = false; is_static_part = false; is_field = false }
member_sites (Member-F.Initialiser at is_static items) =
    record { walk = λ (s : Standing) (n : Counts). only_uses (used_at s s.scope is_static (uses_of_lists items)); constructs = false; is_static_part = is_static; is_field = false }
member_sites (Member-F.Fields vars) =
    record { walk = field_walk (says_static vars.modifiers) vars; constructs = false; is_static_part = says_static vars.modifiers; is_field = true }
member_sites (Member-F.Bare head) = record { walk = method_walk head false []; constructs = has_no_result head.result; is_static_part = false; is_field = false }
member_sites (Member-F.Method head items) =
    record { walk = method_walk head true (uses_of_lists items); constructs = has_no_result head.result; is_static_part = false; is_field = false }
member_sites (Member-F.Nested d) = record { walk = d; constructs = false; is_static_part = false; is_field = false }

-- the step at a statement and at a clause: the types that they write, in their order; local classes aren't in the language
abbrev pub stmt_uses : Stmt-F Membered Uses Uses Walk → Uses
stmt_uses (Stmt-F.Local vars) = uses_of_locals vars
stmt_uses (Stmt-F.Declared d) = []
stmt_uses (Stmt-F.Block at items) = uses_of_lists items
stmt_uses (Stmt-F.Empty at) = []
stmt_uses (Stmt-F.Effect expr) = uses_of_expr expr
stmt_uses (Stmt-F.Labeled label body) = body
stmt_uses (Stmt-F.If arms otherwise) = uses_of_lists arms ++ uses_of_lists otherwise
stmt_uses (Stmt-F.While at test body) = uses_of_expr test ++ body
stmt_uses (Stmt-F.Do at body test) = body ++ uses_of_expr test
stmt_uses (Stmt-F.For at head body) = uses_of_for head ++ body
stmt_uses (Stmt-F.Switch at selector groups) = uses_of_expr selector ++ uses_of_lists groups
stmt_uses (Stmt-F.Return at value) = uses_in_some uses_of_expr value
stmt_uses (Stmt-F.Break at label) = []
stmt_uses (Stmt-F.Continue at label) = []
stmt_uses (Stmt-F.Throw at value) = uses_of_expr value
stmt_uses (Stmt-F.Try at resources items clauses) = uses_of_lists items ++ uses_of_lists clauses
stmt_uses (Stmt-F.ThisCall at actuals) = uses_in_each uses_of_expr actuals
stmt_uses (Stmt-F.SuperCall at actuals) = uses_in_each uses_of_expr actuals

abbrev pub clause_uses : Clause-F Membered Uses Uses Walk → Uses
clause_uses clause = uses_of_clause_head clause.head ++ uses_of_lists clause.items

-- ---- types

-- an annotation type is an interface too (JLS 9.6)
abbrev pub is_interface_head : DeclarationHead → Bool
is_interface_head (head_of.Class modifiers at name params extends implements) = false
is_interface_head (head_of.Interface modifiers at name params extends) = true
is_interface_head (head_of.Annotation modifiers at name) = true

-- the type parameters of a head; an annotation type has none
abbrev pub params_of_head : DeclarationHead → List TypeParam
params_of_head (head_of.Class modifiers at name params extends implements) = params
params_of_head (head_of.Interface modifiers at name params extends) = params
params_of_head (head_of.Annotation modifiers at name) = []

-- one of the members passes a test
abbrev pub some_of : (Membered → Bool) → List Membered → Bool
some_of test [] = false
some_of test (m ∷ members) = test m || some_of test members

-- a class without a constructor has an implied one (JLS 8.8.9)
abbrev pub is_constructor_implied : DeclarationHead → List Membered → Bool
is_constructor_implied head members = not (is_interface_head head) && not (some_of (λ (m : Membered). m.constructs) members)

-- a type with a static block or a static field has a static initialiser; the fields of an interface are static (JLS 9.3)
abbrev pub is_static_initialiser_implied : DeclarationHead → List Membered → Bool
is_static_initialiser_implied head members =
    some_of (λ (m : Membered). m.is_static_part || (is_interface_head head && m.is_field)) members

-- what no source writes stands before what the body declares: first the static initialiser, then the constructor
abbrev pub implied_forms : DeclarationHead → List Membered → List MethodForm
implied_forms head members =
    cond (is_static_initialiser_implied head members) (StaticInitialiser ∷ []) [] ++ cond (is_constructor_implied head members) (ImpliedConstructor ∷ []) []

-- a method that no source writes, with its scope
abbrev pub implied_sites : MethodForm → Walk
implied_sites form at n =
    record {
      units = [];
      classes = [];
      methods = record { class = innermost at.round; scope = n.scopes; form = form } ∷ [];
      fields = [];
      variables = [];
      scopes = record { outer = Some at.scope; form = scope_of.Method n.methods } ∷ [];
      uses = [];
    }

-- a class itself: with its type parameters, and the scope of its body
abbrev pub class_sites : DeclarationHead → Walk
class_sites head at n =
    record {
      units = [];
      classes = record { file = at.file; unit = at.unit; round = at.round; of_interface = at.of_interface; scope = n.scopes; head = head } ∷ [];
      methods = [];
      fields = [];
      variables = variable_sites (owner.Class (record { 0 = n.classes })) (params_of_head head);
      scopes = record { outer = Some at.scope; form = scope_of.Class n.classes } ∷ [];
      uses = [];
    }

-- inside a class
abbrev pub within : DeclarationHead → Standing → Counts → Standing
within head at n = record { file = at.file; unit = at.unit; round = n.classes ∷ at.round; of_interface = is_interface_head head; scope = n.scopes }

-- a type, and then what its body declares
abbrev pub declaration_walk : DeclarationHead → List Membered → Walk
declaration_walk head members at n =
    let own : Sites = class_sites head at n in
    joined own (walked (map implied_sites (implied_forms head members) ++ map (λ (m : Membered). m.walk) members) (within head at n) (behind n own))

-- the step at a declaration
abbrev pub declaration_sites : Declaration-F Membered Uses Uses Walk → Walk
declaration_sites node = declaration_walk node.head node.members

-- the fold of each kind of node: a member, a statement, a clause and a declaration
unfoldable pub membered : Member → Membered
membered node = fold-Member Membered Uses Uses Walk member_sites stmt_uses clause_uses declaration_sites node

unfoldable pub uses_of_stmt : Stmt → Uses
uses_of_stmt node = fold-Stmt Membered Uses Uses Walk member_sites stmt_uses clause_uses declaration_sites node

unfoldable pub uses_of_clause : Clause → Uses
uses_of_clause node = fold-Clause Membered Uses Uses Walk member_sites stmt_uses clause_uses declaration_sites node

unfoldable pub sites_of_declaration : Declaration → Walk
sites_of_declaration node = fold-Declaration Membered Uses Uses Walk member_sites stmt_uses clause_uses declaration_sites node

-- ---- sources

-- what a declaration in a unit declares; a semicolon declares nothing (JLS 7.6)
abbrev pub sites_of_top : TopLevel → Walk
sites_of_top (top_of.Declaration d) = sites_of_declaration d
sites_of_top (top_of.Semicolon at) = walked []

-- a unit alone, and its scope alone, which is in no other one
abbrev pub unit_site : SourceUnit → ℕ → Sites
unit_site u scope =
    record {
      units = record { file = u.file; scope = scope; «package» = u.unit.«package»; imports = u.unit.imports } ∷ [];
      classes = [];
      methods = [];
      fields = [];
      variables = [];
      scopes = [];
      uses = [];
    }

abbrev pub unit_scope : ℕ → Sites
unit_scope unit =
    record { units = []; classes = []; methods = []; fields = []; variables = []; scopes = record { outer = None; form = scope_of.Unit unit } ∷ []; uses = [] }

-- a source and its scope
abbrev pub unit_front : SourceUnit → ℕ → ℕ → Sites
unit_front u unit scope = joined (unit_site u scope) (unit_scope unit)

-- a source, which is the unit of this number, where so much is declared before it
abbrev pub sites_of_unit : SourceUnit → ℕ → Counts → Sites
sites_of_unit u unit n =
    let own : Sites = unit_front u unit n.scopes in
    joined own (walked (map sites_of_top u.unit.types) (record { file = u.file; unit = unit; round = []; of_interface = false; scope = n.scopes }) (behind n own))

-- these sources, the units of which are counted from a number
abbrev pub sites_from : List SourceUnit → ℕ → Counts → Sites
sites_from [] unit n = no_sites
sites_from (u ∷ units) unit n = let s : Sites = sites_of_unit u unit n in joined s (sites_from units (unit + 1) (behind n s))

-- the declarations of these sources, in their order
abbrev pub sites_of : List SourceUnit → Sites
sites_of units = sites_from units 0 (record { classes = 0; methods = 0; scopes = 0 })
