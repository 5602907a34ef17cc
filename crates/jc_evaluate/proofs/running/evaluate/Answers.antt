use Rattle.std.proofs.Common.{◌-◌, List, [], subst, arith}
use Rattle.jc_running.specs.declared.value.Value.{Value}
use Rattle.jc_running.specs.Outcomes.{behind}
use Rattle.jc_values.specs.Doing.{Does}
use Rattle.jc_meaning.specs.Calls as m
use Rattle.jc_meaning.specs.Meaning.{first_state, meaning, outcome, run_static}
use Rattle.jc_meaning.specs.Programs.{method_class}
use Rattle.jc_evaluate.proofs.Starts.{going_first, left_last}
use Rattle.jc_evaluate.proofs.running.evaluate.Goals as goal

pub returns-then-units-eq0 : goal.returns-then-units-eq0
returns-then-units-eq0 c = c.seen_from.ensures (outcome c.args.program.now c.args.m c.args.input c.args.units)
    (going_first (run_static c.args.program.now c.args.m c.args.units) c.args.units (first_state c.args.program.now c.args.m c.args.input) c.in_ok-run.run' (omega arith) c.in_ok-run.ensures.state)

pub returns : goal.returns
returns c = c.seen_from-2.ensures (outcome c.args.program.now c.args.m c.args.input c.args.units)
    (left_last (run_static c.args.program.now c.args.m c.args.units) c.args.units (first_state c.args.program.now c.args.m c.args.input) c.in_ok-run.run' c.left_value-outcome.new.run c.left_value-outcome.result (omega arith) c.in_ok-run.ensures.units c.in_ok-run.ensures.state
    (c.left_value-outcome.ensures (run_static c.args.program.now c.args.m c.args.units (c.in_ok-run.run'.units - 1) c.in_ok-run.run'.state)
    (subst (λ (args : List Value). Does (behind ((meaning c.args.program.now c.args.units).ready (method_class c.args.program.now.table c.args.m)) (m.call_static c.args.program.now (meaning c.args.program.now c.args.units).body c.args.m args []) (c.in_ok-run.run'.units - 1) c.in_ok-run.run'.state) c.run_call-outcome.result c.run_call-outcome.new.run)
    c.new.ensures c.run_call-outcome.ensures)))
