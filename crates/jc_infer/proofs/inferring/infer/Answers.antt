use Rattle.std.proofs.Common.{◌≡◌, rules}
use Rattle.std.specs.Option.{option_copied}
use Rattle.jc_infer.specs.Steps.{by_call, parameters}
use Rattle.jc_infer.proofs.Composed.{inferred_by}
use Rattle.jc_infer.proofs.inferring.infer.Goals as goal

pub returns : goal.returns
returns c =
    let implied : c.in_ok-implied.implied ≡ by_call c.args.table.now c.args.env.now.bounds c.args.method.now c.args.phase c.args.args.now = search rules in
    let all : c.slice-3.result.now ≡ parameters c.args.table.now c.args.env.now.bounds c.in_ok-implied.implied c.args.method.now.vars c.args.method.now.bounds = search rules in
    inferred_by c.args.table.now c.args.env.now.bounds c.args.method.now c.args.phase c.args.args.now (option_copied c.args.target) c.in_ok-implied.implied c.slice-3.result.now c.in_ok-found.found implied all c.in_ok-found.ensures
