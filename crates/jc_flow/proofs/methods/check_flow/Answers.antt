use Rattle.std.proofs.Common.{◌≡◌, None, Some}
use Rattle.jc_types.specs.Breaks.{least}
use Rattle.jc_flow_spec.specs.Methods.{flow_breaks}
use Rattle.jc_flow.proofs.Told.{refused_least}
use Rattle.jc_flow.proofs.methods.check_flow.Goals as goal

pub returns-in-Some-clause-refused : goal.returns-in-Some-clause-refused
returns-in-Some-clause-refused c =
    let e : least None (flow_breaks c.args.table.now c.args.method.now) ≡ Some c.in-Some.refusal = cc (c.in-Some.ensures, c.slice.ensures, c.in_ok-broken.ensures) in
    refused_least c.args.table.now c.args.method.now c.in-Some.refusal e
