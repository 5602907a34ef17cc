-- Reachability and exceptions of a method as a whole.
use Rattle.std.specs.Prelude.{ℕ, Bool, true, false, not, ◌&&◌, List, [], ◌∷◌, ◌++◌, Option, Some, None, is_some, if◌then◌else◌}
use Rattle.jc_rules.specs.declared.rule.Place.{Place}
use Rattle.jc_rules.specs.declared.rule.Refusal.{Refusal}
use Rattle.jc_types.specs.declared.form.Ty.{Ty}
use Rattle.jc_types.specs.declared.table.Table.{Table}
use Rattle.jc_types.specs.declared.environment.Bounds.{Bounds}
use Rattle.jc_types.specs.declared.ids.MethodId.{MethodId}
use Rattle.jc_types.specs.Accessors.{method_place_of, result_of, thrown_of}
use Rattle.jc_types.specs.Breaks.{IsOf}
use Rattle.jc_typed.specs.declared.nodes.Node.{Node}
use Rattle.jc_typed.specs.declared.program.Body.{Body}
use Rattle.jc_typed.specs.declared.program.TypedMethod.{TypedMethod}
use Rattle.jc_typed.specs.Trees.{Stmt, stmt, Stmts, NoStmts, MoreStmts}
use Rattle.jc_typed.specs.Parts.{nowhere, stmt_of, stmts_of}
use Rattle.jc_flow_spec.specs.declared.flow.Flow.{Flow}
use Rattle.jc_flow_spec.specs.declared.flow.Thrown.{Thrown}
use Rattle.jc_flow_spec.specs.Throwing.{is_undeclared}
use Rattle.jc_flow_spec.specs.States.{with_live, no_ways, break_of, breaks_if}
use Rattle.jc_flow_spec.specs.Statements.{stmt_flow, stmts_flow}

-- where control comes in
abbrev pub entered : Flow
entered = record { live = true; ways = no_ways; assigned = []; exact = []; broken = [] }

-- where a statement stands
abbrev pub place_of : Stmt → Place
place_of (stmt p form) = p

-- where a method is declared
abbrev pub place_or_none : Option Place → Place
place_or_none (Some p) = p
place_or_none None = nowhere

-- an initialiser begins reachable, and has to complete: 708 (JLS 8.6, 8.7)
abbrev pub completes_at : Place → Flow → Flow
completes_at p s = breaks_if (not s.live) 708 p s

-- each type that is thrown out of the method and needs a clause: 703 where it is thrown
abbrev pub uncaught_breaks : Table → List Bounds → List Ty → List Thrown → List Refusal
uncaught_breaks T env declared [] = []
uncaught_breaks T env declared (x ∷ xs) = break_of (is_undeclared T env declared x.ty) 703 x.place ++ uncaught_breaks T env declared xs

module _ (T : Table) (env : List Bounds) (assigned : List ℕ) where
  abbrev pub initialisers_flow : Stmts → Flow → Flow
  initialisers_flow NoStmts s = s
  initialisers_flow (MoreStmts before last) s = completes_at (place_of last) (stmt_flow T env assigned last (with_live true (initialisers_flow before s)))

  -- a constructor's call of another one, the initialisers, and the block
  abbrev pub parts_flow : Stmts → Stmts → Stmt → Flow → Flow
  parts_flow call initialisers block s = stmt_flow T env assigned block (with_live true (initialisers_flow initialisers (stmts_flow T env assigned call s)))

  abbrev pub body_flow : List Node → Body → Flow
  body_flow nodes b = parts_flow (stmts_of nodes b.call) (stmts_of nodes b.initialisers) (stmt_of nodes b.rest) entered

-- the locals that a body assigns, and what a walk over it with them comes to
abbrev pub assigned_in : Table → TypedMethod → Body → List ℕ
assigned_in T m b = (body_flow T m.captured.bounds [] m.nodes b).assigned

unfoldable pub end_of : Table → TypedMethod → Body → Flow
end_of T m b = body_flow T m.captured.bounds (assigned_in T m b) m.nodes b

-- with the end of the body of a method that has a result, 702, and what it throws but doesn't declare
abbrev pub ended_breaks : Table → List Bounds → MethodId → Flow → List Refusal
ended_breaks T env id s =
    s.broken ++ break_of (is_some (result_of T id) && s.live) 702 (place_or_none (method_place_of T id)) ++ uncaught_breaks T env (thrown_of T id) s.ways.thrown

-- all breaks of the rules 701 to 704 and 708 in a method; one without a body has none
abbrev pub flow_breaks_in : Table → TypedMethod → Option Body → List Refusal
flow_breaks_in T m None = []
flow_breaks_in T m (Some b) = ended_breaks T m.captured.bounds m.id (end_of T m b)

abbrev pub flow_breaks : Table → TypedMethod → List Refusal
flow_breaks T m = flow_breaks_in T m m.body

-- this rule of the flow is broken at this place
abbrev pub BreaksFlow : Table → TypedMethod → Refusal → Type 0
BreaksFlow T m b = IsOf b (flow_breaks T m)
