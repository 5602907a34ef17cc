use Rattle.std.proofs.Common.{rules, List, [], ◌≡◌, ◌∙◌, ap}
use Rattle.jc_class_out.specs.declared.writer.Gatherer.{Gatherer}
use Rattle.jc_class_out.specs.Spelling.{knowns, adds, uses}
use Rattle.jc_class_out.proofs.Tellings.{told_adds}
use Rattle.jc_class_out.proofs.writer.pool_of.Goals as goal

pub returns : goal.returns
returns c =
    let e : c.new.result.keys ≡ [] = search rules in
    told_adds (λ (s : Gatherer). knowns s.pool.keys) _ c.tell_uses.new.visitor (uses c.args.class.now) c.in_ok-tell_uses.ensures ∙ ap (λ (x : List _). adds (knowns x) (uses c.args.class.now)) e
