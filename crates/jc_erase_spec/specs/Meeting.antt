-- What the erasure of a program has to meet (JLS 4.6): it says the same of its classes, each of its methods is the erasure of a typed one, and with the
-- same units it does, on the erased state, what the typed one does. Guards, conversions and bridges spend no units in either.
use Rattle.std.specs.Prelude.{◌≡◌, ℕ, suc, List, [], ◌∷◌, map}
use Rattle.jc_types.specs.Erasing.{erasure}
use Rattle.jc_types.specs.declared.declarations.ClassDecl.{ClassDecl}
use Rattle.jc_types.specs.declared.environment.Bounds.{Bounds}
use Rattle.jc_types.specs.declared.ids.MethodId.{MethodId}
use Rattle.jc_types.specs.declared.table.Table.{Table}
use Rattle.jc_running.specs.declared.value.Value.{Value}
use Rattle.jc_heaps.specs.Erases.{Erases, erase_out}
use Rattle.jc_heaps.specs.Layout.{default_value}
use Rattle.jc_typed.specs.Bulk.{method_bulk}
use Rattle.jc_typed.specs.declared.program.Local.{Local}
use Rattle.jc_typed.specs.declared.program.TypedMethod.{TypedMethod}
use Rattle.jc_typed.specs.declared.program.TypedProgram.{TypedProgram}
use Rattle.jc_meaning.specs.Meaning.{meaning, outcome, main_outcome, seen}
use Rattle.jc_meaning.specs.Programs.{local_types}
use Rattle.jc_bridges_spec.specs.declared.bridge.Bridge.{Bridge}
use Rattle.jc_bridges_spec.specs.Bridging.{bridges}
use Rattle.jc_erased.specs.declared.program.ErasedMethod.{ErasedMethod}
use Rattle.jc_erased.specs.declared.program.ErasedProgram.{ErasedProgram}
use Rattle.jc_erased.specs.Meaning.{meaning as erased_meaning, outcome as erased_outcome, main_outcome as erased_main_outcome, seen as erased_seen}
use Rattle.jc_erase_spec.specs.Naming.{erased_name}
use Rattle.jc_erase_spec.specs.Trees.{erase_nodes, erased_as_type}

-- the bridges of each of these classes, counted from i
abbrev pub bridges_from : Table → ℕ → List ClassDecl → List (List Bridge)
bridges_from T i [] = []
bridges_from T i (c ∷ cs) = bridges T (record { 0 = i }) ∷ bridges_from T (suc i) cs

-- a method's captured variables
abbrev pub env_of : TypedMethod → List Bounds
env_of m = m.captured.bounds

-- the default values of a method's variables
abbrev pub defaults_of : List Local → List Value
defaults_of ls = map default_value (local_types ls)

-- A method and its erasure: the same method under the name that its class file has for it, with its body at the same places of an arena whose types are
-- erased, variables of erased types that begin with the same values, and as much Bulk
pub record IsErasedMethod (P : TypedProgram) (m : TypedMethod) (e : ErasedMethod) : Type 0 where
  pub id : e.id ≡ m.id
  pub tree : e.tree.id ≡ m.id
  pub name : e.name ≡ erased_name P m.id
  pub nodes : e.tree.nodes ≡ erase_nodes P.table (env_of m) m.nodes
  pub body : e.tree.body ≡ m.body
  pub locals : local_types e.tree.locals ≡ map (erased_as_type P.table (env_of m)) (local_types m.locals)
  pub defaults : defaults_of e.tree.locals ≡ defaults_of m.locals
  pub entry_checks : e.tree.entry_checks ≡ m.entry_checks
  pub bulk : method_bulk e.tree ≡ method_bulk m

-- as many methods, each the erasure of the typed one
abbrev pub AreErasedMethods : TypedProgram → List TypedMethod → List ErasedMethod → Type 0
AreErasedMethods P [] [] = Unit {0}
AreErasedMethods P (m ∷ ms) (e ∷ es) = IsErasedMethod P m e × AreErasedMethods P ms es
AreErasedMethods P _ _ = ⊥

-- the same table, known classes and selections, the bridges of each class, and the erasure of each method; and at every depth the body of every method does, with
-- every number of units, on every erased state what the typed one does
pub record IsErasureOf (P : TypedProgram) (E : ErasedProgram) : Type 0 where
  pub table : E.table ≡ P.table
  pub known : E.known ≡ P.known
  pub selections : E.selections ≡ P.selections
  pub bridges : E.bridges ≡ bridges_from P.table 0 P.table.classes
  pub methods : AreErasedMethods P P.methods E.methods
  pub bodies : (d : ℕ) (m : MethodId) → Erases (erasure P.table []) ((meaning P d).body m) ((erased_meaning E d).body m)

-- The outcomes of the two are the same but for erased states: of runs of static methods without parameters, and of main methods. They show the same
pub record RunsAlike (P : TypedProgram) (E : ErasedProgram) : Type 0 where
  pub methods : (m : MethodId) (input : List ℕ) (n : ℕ) → erase_out (erasure P.table []) (outcome P m input n) ≡ erased_outcome E m input n
  pub mains : (m : MethodId) (args : List (List ℕ)) (input : List ℕ) (n : ℕ) → erase_out (erasure P.table []) (main_outcome P m args input n) ≡ erased_main_outcome E m args input n
  pub methods_seen : (m : MethodId) (input : List ℕ) (n : ℕ) → erased_seen E (erased_outcome E m input n) ≡ seen P (outcome P m input n)
  pub mains_seen : (m : MethodId) (args : List (List ℕ)) (input : List ℕ) (n : ℕ) → erased_seen E (erased_main_outcome E m args input n) ≡ seen P (main_outcome P m args input n)

-- what is the erasure of a program runs like it
abbrev pub ErasuresRunAlike : Type 0
ErasuresRunAlike = (P : TypedProgram) (E : ErasedProgram) → IsErasureOf P E → RunsAlike P E
