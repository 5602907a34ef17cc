use Rattle.std.proofs.Common.{◌≡◌, ◌++◌, rules}
use Rattle.std.specs.Option.{option_copied}
use Rattle.jc_infer.specs.Steps.{late}
use Rattle.jc_infer.proofs.Composed.{inferred_with}
use Rattle.jc_infer.proofs.inferring.inferred_for.Goals as goal

pub returns : goal.returns
returns c =
    let all : c.slice-2.result.now ≡ c.args.implied ++ late c.args.table.now c.args.env.now.bounds c.args.method.now c.args.parameters.now (option_copied c.args.target) = search rules in
    inferred_with c.args.table.now c.args.env.now.bounds c.args.method.now c.args.implied c.args.parameters.now (option_copied c.args.target) c.slice-2.result.now c.in_ok-found.found all c.in_ok-found.ensures
