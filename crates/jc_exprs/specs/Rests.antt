-- What a walk makes of the rest of a form, where what comes first in it is asked already (JLS 15.7, 15.10, 15.12, 15.13, 15.25, 15.26).
use Rattle.std.specs.Prelude.{ℕ, List, [], Option, Some, None, length}
use Rattle.jc_rules.specs.declared.rule.Place.{Place}
use Rattle.jc_tree.specs.declared.expression.BinaryOp.{BinaryOp}
use Rattle.jc_tree.specs.declared.expression.Expr.{Expr}
use Rattle.jc_tree.specs.declared.expression.Operand.{Operand}
use Rattle.jc_tree.specs.declared.types.TypeArg.{TypeArg}
use Rattle.jc_types.specs.declared.form.Ty.{Ty}
use Rattle.jc_exprs_nodes_spec.specs.Told.{Ran, Standing, every, ran}
use Rattle.jc_exprs_nodes_spec.specs.Gates.{gated, gated_two}
use Rattle.jc_exprs_nodes_spec.specs.Typeds.{Typed}
use Rattle.jc_exprs_nodes.specs.Laws.{paired, span_of, with_more}
use Rattle.jc_exprs_gathering.specs.Gathered.{walked}
use Rattle.jc_exprs_parts_spec.specs.Assigning.{Target, compound, stored}
use Rattle.jc_exprs_parts_spec.specs.Chains.{Joined}
use Rattle.jc_exprs_parts_spec.specs.Names.{Located, element_of}
use Rattle.jc_exprs_parts_spec.specs.Values.{chosen, sized}
use Rattle.jc_exprs_parts_spec.specs.Worlds.{World}
use Rattle.jc_exprs_spec.specs.Calls.{Before, call_on}
use Rattle.jc_exprs_spec.specs.Typing.{aimed, typing}
use Rattle.jc_exprs_chains.specs.Chaining.{as_first, as_whole}
use Rattle.jc_exprs_forms.specs.Forms.{furthers, typings}
use Rattle.jc_exprs_forms.specs.Walking.{joined_walk}

-- an assignment behind its variable
unfoldable pub assigned_behind : World → Option Target → Option BinaryOp → Expr → Standing → Ran Typed
assigned_behind W v None value s = let r = ran (typing W (aimed v) value) s in gated_two (stored W.table) v r.has r.state
assigned_behind W v (Some o) value s = let r = ran (typing W None value) s in gated_two (compound W.table o) v r.has r.state

-- a conditional behind its test and its first branch, before which there were so many captured variables
unfoldable pub chosen_behind : World → Option Typed → Option Typed → ℕ → Expr → Standing → Ran Typed
chosen_behind W test first from second s =
    let r = ran (typing W None second) s in
    gated_two (chosen W.table) test (span_of (paired first r.has) from (length r.state.env)) r.state

-- a chain of binary operators behind its first operand
abbrev pub ended : Ran Joined → Ran Typed
ended r = record { state = r.state; has = as_whole r.has }

unfoldable pub chained_behind : World → Option Typed → List Operand → Standing → Ran Typed
chained_behind W first rest s = ended (joined_walk W (record { state = s; has = as_first first }) (furthers W rest))

-- an element behind its array
unfoldable pub element_behind : World → Option Typed → Expr → Standing → Ran Located
element_behind W array index s = let r = ran (typing W None index) s in gated_two (element_of W) array r.has r.state

-- a call behind what stands before its point
unfoldable pub called_behind : World → Place → List TypeArg → List ℕ → Option Ty → Option Before → List Expr → Standing → Ran Typed
called_behind W place explicit name wanted before actuals s =
    let r = ran (every (typings W actuals)) s in gated_two (call_on W place name explicit wanted) before r.has r.state

-- an array behind the first of its lengths
unfoldable pub sized_behind : World → Place → Ty → Option Typed → List Expr → Standing → Ran Typed
sized_behind W place ty first more s =
    let r = walked (with_more (Some []) first) (typings W more) s in gated (sized W.table place ty) r.has r.state
