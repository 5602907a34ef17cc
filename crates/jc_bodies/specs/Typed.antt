-- The typed methods of a program, and the rules that are broken in its bodies (JLS 8.4.7, 8.8.7, 14, 15).
use Rattle.std.specs.Prelude.{◌≡◌, ℕ, ◌+◌, ◌==◌, List, [], ◌∷◌, ◌++◌, length, Option, Some, None, slice_get, if◌then◌else◌}
use Rattle.jc_rules.specs.declared.rule.Refusal.{Refusal}
use Rattle.jc_rules.specs.declared.stop.Stop.{Stop}
use Rattle.jc_rules.specs.declared.stop.Stop.TheVariants as stop_of
use Rattle.jc_types.specs.declared.ids.MethodId.{MethodId}
use Rattle.jc_types.specs.declared.table.Table.{Table}
use Rattle.jc_types.specs.Breaks.{IsLeast, IsOf}
use Rattle.jc_declares.specs.declared.heads.Heads.{Heads}
use Rattle.jc_declares.specs.declared.unit.SourceUnit.{SourceUnit}
use Rattle.jc_declares.specs.Looking.{Knowledge}
use Rattle.jc_overriding.specs.Viewing.{is_static}
use Rattle.jc_typed.specs.declared.program.TypedMethod.{TypedMethod}
use Rattle.jc_bridges_spec.specs.Entering.{entry_checks}
use Rattle.jc_stmts_spec.specs.Bodies.{MethodBody, bodies}
use Rattle.jc_stmts_spec.specs.Typed.{IsBody, body_breaks, params, this_local}

-- ---- the bodies of a program

-- of units that are numbered from n
abbrev pub bodies_from : Table → Heads → ℕ → List SourceUnit → List MethodBody
bodies_from T H n [] = []
bodies_from T H n (unit ∷ units) = bodies T H n unit ++ bodies_from T H (n + 1) units

abbrev pub bodies_of : Table → Heads → List SourceUnit → List MethodBody
bodies_of T H units = bodies_from T H 0 units

-- the body of the method of this number, if it has one
abbrev pub body_of : List MethodBody → ℕ → Option MethodBody
body_of [] n = None
body_of (b ∷ bs) n = if b.method.0 == n then Some b else body_of bs n

-- ---- the rules that are broken in bodies, where `all` are those of the program: constructors that call each other by `this` are among them

abbrev pub breaks_in : Table → Heads → Knowledge → List MethodBody → List MethodBody → List Refusal
breaks_in T H K all [] = []
breaks_in T H K all (b ∷ bs) = body_breaks T H K all b ++ breaks_in T H K all bs

abbrev pub BreaksBodies : Table → Heads → Knowledge → List SourceUnit → Refusal → Type 0
BreaksBodies T H K units refused = IsOf refused (breaks_in T H K (bodies_of T H units) (bodies_of T H units))

-- ---- typed methods

-- a method without a body, abstract or native, has its first locals alone (JLS 8.4.3.1, 8.4.3.4)
pub record IsBodiless (T : Table) (method : MethodId) (m : TypedMethod) : Type 0 where
  pub id : m.id ≡ method
  pub locals : m.locals ≡ this_local T method (is_static T method) ++ params T method
  pub captured : m.captured.bounds ≡ []
  pub nodes : m.nodes ≡ []
  pub body : m.body ≡ None
  pub checks : m.entry_checks ≡ entry_checks T method

-- the method of this number, which has this body or none
abbrev pub IsMethod : Table → Heads → Knowledge → List MethodBody → ℕ → Option MethodBody → TypedMethod → Type 0
IsMethod T H K all n None m = IsBodiless T (record { 0 = n }) m
IsMethod T H K all n (Some b) m = IsBody T H K all b m

-- no rule is broken in the bodies, and these are the program's methods with their typing, in the order of the table
pub record AreTyped (T : Table) (H : Heads) (K : Knowledge) (units : List SourceUnit) (ms : List TypedMethod) : Type 0 where
  pub unbroken : (refused : Refusal) → BreaksBodies T H K units refused → ⊥
  pub as_many : length ms ≡ length T.methods
  pub methods : (n : ℕ) (m : TypedMethod) → slice_get ms n ≡ Some m → IsMethod T H K (bodies_of T H units) n (body_of (bodies_of T H units) n) m

-- a refusal is the least break by file, offset and number; want of memory says nothing of the bodies
abbrev pub IsBodiesStop : Table → Heads → Knowledge → List SourceUnit → Stop Refusal → Type 0
IsBodiesStop T H K units (stop_of.Refused refused) = IsLeast (BreaksBodies T H K units) refused
IsBodiesStop T H K units stop_of.WantOfMemory = Unit {0}
