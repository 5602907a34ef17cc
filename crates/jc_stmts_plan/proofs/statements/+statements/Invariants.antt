use Rattle.std.proofs.Common.{◌≡◌, ◌++◌, drop, false}
use Rattle.jc_stmts_plan.specs.Flat.{all_items, arms_items, groups_items, catches_items}
use Rattle.jc_stmts_plan.proofs.statements.+statements.Given as goal

abbrev pub invariant-push_stmts-loop-node : goal.invariant-push_stmts-loop-node
invariant-push_stmts-loop-node l = l.plan ++ all_items (drop l.node-index l.nodes) l.jumps ≡ l.initial.plan ++ all_items l.nodes l.jumps

abbrev pub invariant-push_arms-loop-node : goal.invariant-push_arms-loop-node
invariant-push_arms-loop-node l = l.plan ++ arms_items (drop l.node-index l.nodes) l.jumps ≡ l.initial.plan ++ arms_items l.nodes l.jumps

abbrev pub invariant-push_groups-loop-node : goal.invariant-push_groups-loop-node
invariant-push_groups-loop-node l = l.plan ++ groups_items l.had (drop l.node-index l.nodes) l.jumps ≡ l.initial.plan ++ groups_items false l.nodes l.jumps

abbrev pub invariant-push_catches-loop-node : goal.invariant-push_catches-loop-node
invariant-push_catches-loop-node l = l.plan ++ catches_items (drop l.node-index l.nodes) l.jumps ≡ l.initial.plan ++ catches_items l.nodes l.jumps
