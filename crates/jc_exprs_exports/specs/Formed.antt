-- Where the type of a form is well formed (JLS 4.5): a type that is written or declared by itself, one that is inferred where it stands, and a least upper bound as it was repaired.
use Rattle.std.specs.Prelude.{◌≡◌, ◌⊎◌, List, [], ◌∷◌, map, Option, Some, None}
use Rattle.jc_types.specs.declared.environment.Bounds.{Bounds}
use Rattle.jc_types.specs.declared.form.Ty.{Ty}
use Rattle.jc_types.specs.declared.table.Table.{Table}
use Rattle.jc_types.specs.Accessors.{field_type_of, result_of}
use Rattle.jc_types.specs.Substitution.{subst}
use Rattle.jc_judge.specs.Forming.{IsWellFormed}
use Rattle.jc_judge.specs.Trees.{Proof}
use Rattle.jc_overriding.specs.declared.view.MethodView.{MethodView}
use Rattle.jc_repair.specs.Repairing.{repaired}
use Rattle.jc_typed.specs.Trees.{Form, Local, This, StaticField, Field, Assign, Compound, Change, Call, New, NewArray, Cast, Variable, LocalVariable, StaticVariable, FieldVariable, ElementVariable}

-- a type that is written: no captured variable is there
abbrev pub IsDeclared : Table → Ty → Type 0
IsDeclared T t = IsWellFormed T 64 [] t

abbrev pub DeclaredIf : Table → Option Ty → Type 0
DeclaredIf T None = Unit {0}
DeclaredIf T (Some t) = IsDeclared T t

-- a variable's type is written, or the least upper bound of the types of a catch clause, repaired (JLS 14.20)
abbrev pub LocalFormed : Table → Ty → Type 0
LocalFormed T u = IsDeclared T u ⊎ ((env : List Bounds) × ((t : Ty) × (u ≡ repaired T env t)))

-- .. of what an assignment changes; the type of an element is inside its array's
abbrev pub VariableFormed : Table → Variable → Ty → Type 0
VariableFormed T (LocalVariable place x) u = LocalFormed T u
VariableFormed T (StaticVariable place before f is_simple) u = DeclaredIf T (field_type_of T f)
VariableFormed T (FieldVariable place of_it f is_raw) u = DeclaredIf T (field_type_of T f)
VariableFormed T (ElementVariable place array index) u = Unit {0}

-- The type u of a form, with the bounds of the captured variables that are there. A field's and a result's type are declared ones, of which the view and the type arguments are put in; that of a
-- creation is written, or inferred where it stands. A conditional's is that of a branch, or a least upper bound that is repaired (JLS 15.25). Other forms have a type that is primitive, String or the null type, or inside another
abbrev pub FormedIs : Table → List Bounds → Form → Ty → Type 0
FormedIs T env (Local x) u = LocalFormed T u
FormedIs T env This u = IsDeclared T u
FormedIs T env (StaticField before f is_simple) u = DeclaredIf T (field_type_of T f)
FormedIs T env (Field of_it f) u = DeclaredIf T (field_type_of T f)
FormedIs T env (Assign variable value store) u = VariableFormed T variable u
FormedIs T env (Compound variable joint left right into) u = VariableFormed T variable u
FormedIs T env (Change variable op from into is_prefix) u = VariableFormed T variable u
FormedIs T env (Call kind receiver m types args phase thrown is_raw) u = DeclaredIf T (result_of T m)
FormedIs T env (New m args phase thrown is_raw) u = IsDeclared T u ⊎ IsWellFormed T 64 env u
FormedIs T env (NewArray lengths) u = IsDeclared T u
FormedIs T env (Cast of_it to ss is_below) u = IsDeclared T u
FormedIs T env _ u = Unit {0}

-- a type below each of these bounds
abbrev pub BelowAll : Table → List Bounds → Ty → List Ty → Type 0
BelowAll T env t [] = Unit {0}
BelowAll T env t (b ∷ bs) = Proof T 64 env t b × BelowAll T env t bs

-- as many types as lists of bounds: each is well formed, and below its bounds with the types put in
abbrev pub TypesWithin : Table → List Bounds → (Ty → Ty) → List (List Ty) → List Ty → Type 0
TypesWithin T env put [] [] = Unit {0}
TypesWithin T env put (bs ∷ bss) (t ∷ ts) = IsWellFormed T 64 env t × BelowAll T env t (map put bs) × TypesWithin T env put bss ts
TypesWithin T env put _ _ = ⊥

-- the type arguments of a call are within the bounds that the method's parameters have as the receiver has it (JLS 15.12.2.2)
abbrev pub TypeArgsFit : Table → List Bounds → MethodView → List Ty → Type 0
TypeArgsFit T env b types = TypesWithin T env (subst b.vars types) b.bounds types
