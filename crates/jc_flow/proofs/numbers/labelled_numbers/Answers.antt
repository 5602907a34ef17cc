use Rattle.std.proofs.Common.{arith}
use Rattle.jc_typed.specs.Parts.{case_over, cases_of, parts}
use Rattle.jc_flow.proofs.Marking.{label_step}
use Rattle.jc_flow.proofs.numbers.labelled_numbers.Goals as goal

pub cases_left-preserved : goal.cases_left-preserved
cases_left-preserved c = record {
  whole = λ i. label_step i (cases_of c.args.nodes.now c.in-More.before) (cases_of c.args.nodes.now c.cases_left.list) (case_over (parts c.args.nodes.now) c.in-More.last) c.cases_left.out c.push.new.self _ c.in-More.ensures.value c.in_ok-push-in-More.ensures.ok (c.cases_left.invariant.whole i);
  within = omega (arith, c.in-More.ensures.below.0, c.cases_left.invariant.within);
  not_above = omega (arith, c.in-More.ensures.below.0, c.cases_left.invariant.not_above);
}
