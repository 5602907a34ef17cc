-- The meaning at a depth, and the computations of the meaning over it, by the places of the parts in the nodes of a method.
use Rattle.std.specs.Prelude.{ℕ, zero, suc, List, [], ◌∷◌, map, reverse, Option, Some, None, slice_get}
use Rattle.jc_types.specs.declared.ids.ClassId.{ClassId}
use Rattle.jc_types.specs.declared.ids.MethodId.{MethodId}
use Rattle.jc_running.specs.declared.value.Value.{Value}
use Rattle.jc_running.specs.declared.value.Completion.{Completion}
use Rattle.jc_running.specs.Outcomes.{bind, node, stop, both_ways, behind}
use Rattle.jc_running.specs.declared.value.Readiness.TheVariants.{Ready as IsReady, Failed}
use Rattle.jc_typed.specs.declared.nodes.Node.{Node}
use Rattle.jc_typed.specs.declared.program.TypedMethod.{TypedMethod}
use Rattle.jc_typed.specs.declared.program.TypedProgram.{TypedProgram}
use Rattle.jc_typed.specs.Trees.{Step, Stmt, Operand}
use Rattle.jc_typed.specs.Parts.{operand_of, stmt_of}
use Rattle.jc_places.specs.declared.sorts.ArmPlaces.{ArmPlaces}
use Rattle.jc_places.specs.Sorts.{Arm, arm_of}
use Rattle.jc_meaning.specs.Kept.{TypedRun}
use Rattle.jc_meaning.specs.Programs.{initialiser_of}
use Rattle.jc_meaning.specs.Expressions as e
use Rattle.jc_meaning.specs.Statements as s
use Rattle.jc_meaning.specs.Calls as c
use Rattle.jc_meaning.specs.Classes as k
use Rattle.jc_meaning.specs.Steps as t
use Rattle.jc_meaning.specs.Meaning.{meaning, inner_of}

-- the nodes of a method; none where the program has no such method
abbrev pub nodes_in : Option TypedMethod → List Node
nodes_in (Some m) = m.nodes
nodes_in None = []

-- .. by its number
abbrev pub nodes_of : TypedProgram → MethodId → List Node
nodes_of P m = nodes_in (slice_get P.methods m.0)

-- the use of a class that nothing used before, as a node
abbrev pub first_use : TypedProgram → ℕ → ClassId → TypedRun (Unit {0})
first_use P zero c = stop
first_use P (suc d) c = node (k.initialise P (meaning P d).body (meaning P d).ready c)

module _ (P : TypedProgram) (d : ℕ) where
  -- the meaning at the depth: parts of forms, statements, classes and bodies
  abbrev pub inner : e.Inner
  inner = inner_of (meaning P d)

  abbrev pub run : Stmt → TypedRun Completion
  run = (meaning P d).stmt

  abbrev pub run_all : List Stmt → TypedRun Completion
  run_all = s.run_all P inner run d

  abbrev pub ready : ClassId → TypedRun (Unit {0})
  ready = (meaning P d).ready

  abbrev pub body : MethodId → TypedRun Completion
  body = (meaning P d).body

  -- steps and calls over this meaning; these calls give no types for the parameters of a method
  abbrev pub steps : List Step → Value → TypedRun Value
  steps = t.steps P body ready

  abbrev pub call_static : MethodId → List Value → TypedRun Value
  call_static m args = c.call_static P body m args []

  abbrev pub call_direct : MethodId → Value → List Value → TypedRun Value
  call_direct m receiver args = c.call_direct P body m receiver args []

  abbrev pub call_virtual : MethodId → Value → TypedRun Value
  call_virtual m receiver = c.call_virtual P body m receiver [] []

  -- tests of an `if`, as a list from the first one on (JLS 14.9)
  abbrev pub if_on : List Arm → TypedRun Completion → TypedRun Completion
  if_on [] other = other
  if_on (a ∷ more) other = bind (e.value_of P inner a.test) (λ v. e.if_true P inner v (run a.then) (if_on more other))

  -- the class's own initialiser, behind its superclass (JLS 12.4.2)
  abbrev pub own_initialiser : ClassId → TypedRun (Unit {0})
  own_initialiser c =
      both_ways (k.run_initialiser P body (initialiser_of P.table c))
      (λ _. k.set_readiness c IsReady)
      (λ a. behind (k.set_readiness c Failed) (k.as_error P a))

-- the parts at the places of a list that stands in reverse order
abbrev pub operands_back : List Node → List ℕ → List Operand
operands_back ns back = map (operand_of ns) (reverse back)

abbrev pub stmts_back : List Node → List ℕ → List Stmt
stmts_back ns back = map (stmt_of ns) (reverse back)

abbrev pub arms_back : List Node → List ArmPlaces → List Arm
arms_back ns back = map (arm_of ns) (reverse back)
