use Rattle.jc_evaluate.proofs.Starts.{call_begun}
use Rattle.jc_evaluate.proofs.running.run_call.Goals as goal

pub returns : goal.returns
returns c = c.do_all.ensures _
    (call_begun c.args.program.now c.args.run.now (record { method = c.args.method; depth = c.args.depth }) c.args.method c.args.args c.new.result c.method_class.result c.new-entries.result c.push.new.self c.push-2.new.self
    c.new.ensures c.method_class.ensures c.new-entries.ensures c.in_ok-push.ensures.ok c.in_ok-push-2.ensures.ok)
