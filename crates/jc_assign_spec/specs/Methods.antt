-- Definite assignment of all variables of a method.
use Rattle.std.specs.Prelude.{ℕ, suc, ◌==◌, ◌+◌, Bool, true, false, not, ◌&&◌, ◌||◌, List, [], ◌∷◌, ◌++◌, length, nat_lt, Option, Some, None, if◌then◌else◌}
use Rattle.jc_rules.specs.declared.rule.Place.{Place}
use Rattle.jc_rules.specs.declared.rule.Refusal.{Refusal}
use Rattle.jc_types.specs.declared.ids.FieldId.{FieldId}
use Rattle.jc_types.specs.declared.ids.MethodId.{MethodId}
use Rattle.jc_types.specs.declared.table.Table.{Table}
use Rattle.jc_types.specs.declared.declarations.FieldDecl.{FieldDecl}
use Rattle.jc_types.specs.declared.declarations.FieldValue.{FieldValue}
use Rattle.jc_types.specs.declared.declarations.FieldValue.TheVariants.{Unknown, Initialiser, Known as KnownValue}
use Rattle.jc_types.specs.declared.declarations.MethodDecl.{MethodDecl}
use Rattle.jc_types.specs.declared.declarations.MethodKind.{MethodKind}
use Rattle.jc_types.specs.declared.declarations.MethodKind.TheVariants as kind
use Rattle.jc_types.specs.Breaks.{IsOf}
use Rattle.jc_types.specs.Accessors.{fields_of}
use Rattle.std.specs.Prelude.{slice_get}
use Rattle.jc_typed.specs.declared.program.Body.{Body}
use Rattle.jc_typed.specs.declared.program.Local.{Local}
use Rattle.jc_typed.specs.declared.program.TypedMethod.{TypedMethod}
use Rattle.jc_typed.specs.Trees.{Stmt, stmt, StmtForm, Initialise, Construct, Stmts, NoStmts, MoreStmts}
use Rattle.jc_typed.specs.Parts.{stmt_of, stmts_of}
use Rattle.jc_assign_spec.specs.declared.marks.Mark.{Mark}
use Rattle.jc_assign_spec.specs.declared.marks.Jump.TheVariants as jump
use Rattle.jc_assign_spec.specs.declared.marks.Variable.{Variable as Tracked}
use Rattle.jc_assign_spec.specs.declared.marks.Variable.TheVariants as v
use Rattle.jc_assign_spec.specs.Marks.{Known, fresh, gone, landed, broken_if}
use Rattle.jc_assign_spec.specs.Statements.{stmt_known, stmts_known}

-- a field has an initialiser among these statements
abbrev pub form_initialises : FieldId → StmtForm → Bool
form_initialises f (Initialise g value) = f.0 == g.0
form_initialises f _ = false

abbrev pub stmt_initialises : FieldId → Stmt → Bool
stmt_initialises f (stmt p form) = form_initialises f form

abbrev pub initialises : FieldId → Stmts → Bool
initialises f NoStmts = false
initialises f (MoreStmts before last) = initialises f before || stmt_initialises f last

abbrev pub is_unknown : FieldValue → Bool
is_unknown Unknown = true
is_unknown (Initialiser scope value) = false
is_unknown (KnownValue value) = false

-- a field is final
abbrev pub field_final : Option FieldDecl → Bool
field_final None = false
field_final (Some d) = d.modifiers.is_final

abbrev pub is_final_field : Table → FieldId → Bool
is_final_field T f = field_final (slice_get T.fields f.0)

-- a final field without an initialiser, static or not (JLS 8.3.1.2)
abbrev pub blank_as : Bool → Bool → Option FieldDecl → Bool
blank_as is_static initialised None = false
blank_as is_static initialised (Some d) = d.modifiers.is_final && not initialised && is_unknown d.value && (if is_static then d.modifiers.is_static else not d.modifiers.is_static)

abbrev pub blank_of : Table → Bool → Stmts → List FieldId → List FieldId
blank_of T is_static inits [] = []
blank_of T is_static inits (f ∷ fs) = if blank_as is_static (initialises f inits) (slice_get T.fields f.0) then f ∷ blank_of T is_static inits fs else blank_of T is_static inits fs

-- the blank final fields that a method may assign: a constructor those of its instance, a static initialiser those of its class
abbrev pub own_fields_by : Table → Stmts → MethodDecl → MethodKind → List FieldId
own_fields_by T inits d kind.Constructor = blank_of T false inits (fields_of T d.class)
own_fields_by T inits d kind.ImpliedConstructor = blank_of T false inits (fields_of T d.class)
own_fields_by T inits d kind.StaticInitialiser = blank_of T true inits (fields_of T d.class)
own_fields_by T inits d kind.Method = []

abbrev pub own_fields_in : Table → Stmts → Option MethodDecl → List FieldId
own_fields_in T inits None = []
own_fields_in T inits (Some d) = own_fields_by T inits d d.kind

-- a constructor begins with a call of another one of its class, which has assigned its fields (JLS 16.9)
abbrev pub same_class : Option MethodDecl → Option MethodDecl → Bool
same_class None e = false
same_class (Some d) None = false
same_class (Some d) (Some e) = d.class.0 == e.class.0

abbrev pub calls_own : Table → MethodId → MethodId → Bool
calls_own T m n = same_class (slice_get T.methods m.0) (slice_get T.methods n.0)

abbrev pub form_delegates : Table → MethodId → StmtForm → Bool
form_delegates T m (Construct n args phase thrown is_raw) = calls_own T m n
form_delegates T m _ = false

abbrev pub delegates : Table → MethodId → Stmts → Bool
delegates T m NoStmts = false
delegates T m (MoreStmts before (stmt p form)) = form_delegates T m form

-- where the walk of a variable begins: parameters are assigned, other locals aren't, nor are the blank fields, unless another
-- constructor has run
abbrev pub begins : Bool → Mark → Known
begins fixed m = record { now = m; wrote = false; fixed = fixed; exits = []; broken = [] }

-- the walk over the parts of a body, and where all ways that leave it come together
abbrev pub parts_known : Tracked → Bool → (Bool → FieldId → Bool) → Stmts → Stmts → Stmt → Known → Known
parts_known var is_final foreign call inits rest s =
    landed jump.Return (stmt_known var is_final foreign rest (stmts_known var is_final foreign inits (stmts_known var is_final foreign call s)))

-- a field is among these
abbrev pub has_field : FieldId → List FieldId → Bool
has_field f [] = false
has_field f (g ∷ gs) = (f.0 == g.0) || has_field f gs

-- a final field may not be assigned by this name: it isn't one of these, or is named otherwise than by its simple name or `this`
abbrev pub foreign_to : Table → List FieldId → Bool → FieldId → Bool
foreign_to T own named f = is_final_field T f && not (named && has_field f own)

-- how many of the locals are `this` and the parameters
abbrev pub entry_count : Option MethodDecl → ℕ
entry_count None = 0
entry_count (Some d) = if d.modifiers.is_static then length d.params.types else length d.params.types + 1

-- where a field is declared
abbrev pub field_place : Option FieldDecl → List Place
field_place None = []
field_place (Some d) = d.place ∷ []

-- 707 where a field may be unassigned at the end (JLS 8.3.1.2)
abbrev pub left_blank : Mark → List Place → List Refusal
left_blank m [] = []
left_blank m (p ∷ ps) = broken_if (not m.set) 707 p []

module _ (T : Table) (own : List FieldId) (call inits : Stmts) (rest : Stmt) where
  abbrev walk_of : Tracked → Bool → Bool → Mark → Known
  walk_of var is_final fixed m = parts_known var is_final (foreign_to T own) call inits rest (begins fixed m)

  -- all breaks at each local variable, counted from n, and at each blank field
  abbrev pub locals_broken : ℕ → ℕ → List Local → List Refusal
  locals_broken given n [] = []
  locals_broken given n (l ∷ ls) = (walk_of (v.Local n) l.is_final (nat_lt n given) (if nat_lt n given then gone else fresh)).broken ++ locals_broken given (suc n) ls

  abbrev pub field_broken : FieldId → Known → List Refusal
  field_broken f s = s.broken ++ left_blank s.now (field_place (slice_get T.fields f.0))

  abbrev pub fields_broken : Mark → List FieldId → List Refusal
  fields_broken m [] = []
  fields_broken m (f ∷ fs) = field_broken f (walk_of (v.Own f) true false m) ++ fields_broken m fs

  abbrev pub all_broken : ℕ → Mark → List Local → List Refusal
  all_broken given m locals = locals_broken given 0 locals ++ fields_broken m own ++ (walk_of v.Foreign true true gone).broken

-- all breaks of the rules 705 to 707 in a method; one without a body has none
abbrev pub assigned_breaks_by : Table → TypedMethod → Stmts → Stmts → Stmt → List Refusal
assigned_breaks_by T m call inits rest =
    all_broken T (own_fields_in T inits (slice_get T.methods m.id.0)) call inits rest (entry_count (slice_get T.methods m.id.0)) (if delegates T m.id call then gone else fresh) m.locals

abbrev pub assigned_breaks_in : Table → TypedMethod → Option Body → List Refusal
assigned_breaks_in T m None = []
assigned_breaks_in T m (Some b) = assigned_breaks_by T m (stmts_of m.nodes b.call) (stmts_of m.nodes b.initialisers) (stmt_of m.nodes b.rest)

abbrev pub assigned_breaks : Table → TypedMethod → List Refusal
assigned_breaks T m = assigned_breaks_in T m m.body

-- this rule of definite assignment is broken at this place
abbrev pub BreaksAssigned : Table → TypedMethod → Refusal → Type 0
BreaksAssigned T m b = IsOf b (assigned_breaks T m)
