use Rattle.std.proofs.Common.{arith, ap, ◌∙◌}
use Rattle.jc_overriding.specs.Viewing.{own_type}
use Rattle.jc_method_rules.specs.Owned.{standing}
use Rattle.jc_unchecked_spec.specs.Heads.{method_warned}
use Rattle.jc_unchecked_list.proofs.Told.{each_turn}
use Rattle.jc_unchecked_heads.proofs.heads.tell_methods.Goals as goal

pub tell_method-requires-clause-own : goal.tell_method-requires-clause-own
tell_method-requires-clause-own c = c.in_ok-above-2.ensures.own ∙ ap (own_type c.args.table.now) c.owner-k.ensures

pub tell_method-requires-clause-all : goal.tell_method-requires-clause-all
tell_method-requires-clause-all c = c.slice.ensures ∙ c.in_ok-all-2.ensures ∙ ap (standing c.args.table.now) c.owner-k.ensures

pub loop-number-preserved : goal.loop-number-preserved
loop-number-preserved c = record {
  known = c.in_ok-above-2.ensures.known;
  own = c.in_ok-above-2.ensures.own;
  all = c.in_ok-all-2.ensures;
  whole = each_turn (method_warned c.args.table.now) c.loop-number.out _ c.slice-methods.result.now c.loop-number.number c.index-methods-number.result (omega arith) c.index-methods-number.is c.in_ok-tell_method.ensures
      ∙ c.loop-number.invariant.whole;
}
