use Rattle.std.proofs.Common.{◌≡◌, false, arith, rules, sym, ap, ◌∙◌}
use Rattle.jc_class_rules.specs.Climbing.{meets_other}
use Rattle.jc_class_rules.proofs.Climbed.{climb_next}
use Rattle.jc_class_rules.proofs.climbing.meets_other.Goals as goal

pub loop-left-preserved : goal.loop-left-preserved
loop-left-preserved c =
    let T = c.args.table.now in
    let none : c.in_ok-found.found ≡ false = search rules in
    record {
      same = climb_next T c.loop-left.left c.loop-left.met c.slice.result.now _ _ _ (omega arith) (sym none ∙ c.in_ok-found.ensures.other) c.in_ok-found.ensures.met c.in_ok-found.ensures.new (search rules)
          ∙ ap (meets_other T c.loop-left.left c.loop-left.met) c.slice.ensures ∙ c.loop-left.invariant.same;
      firsts = c.in_ok-found.ensures.firsts;
    }
