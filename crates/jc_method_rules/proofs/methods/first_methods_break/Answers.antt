use Rattle.std.proofs.Common.{arith, ap, ◌∙◌}
use Rattle.jc_overriding.specs.Viewing.{own_type}
use Rattle.jc_header_rules.specs.Headers.{method_breaks}
use Rattle.jc_header_rules.proofs.Turning.{each_turn}
use Rattle.jc_method_rules.specs.Owned.{standing}
use Rattle.jc_method_rules.proofs.methods.first_methods_break.Goals as goal

pub method_broken-requires-clause-own : goal.method_broken-requires-clause-own
method_broken-requires-clause-own c = c.in_ok-above-2.ensures.own ∙ ap (own_type c.args.table.now) c.owner-k.ensures

pub method_broken-requires-clause-all : goal.method_broken-requires-clause-all
method_broken-requires-clause-all c = c.slice.ensures ∙ c.in_ok-all-2.ensures ∙ ap (standing c.args.table.now) c.owner-k.ensures

pub loop-number-preserved : goal.loop-number-preserved
loop-number-preserved c = record {
  known = c.in_ok-above-2.ensures.known;
  own = c.in_ok-above-2.ensures.own;
  all = c.in_ok-all-2.ensures;
  least = each_turn (method_breaks c.args.table.now) c.loop-number.found c.in_ok-found.found c.slice-methods.result.now c.loop-number.number c.index-methods-number.result (omega arith) c.index-methods-number.is c.in_ok-found.ensures
      ∙ c.loop-number.invariant.least;
}
