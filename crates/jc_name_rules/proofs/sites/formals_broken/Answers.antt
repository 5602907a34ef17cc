use Rattle.std.proofs.Common.{List, ◌∙◌}
use Rattle.jc_tree.specs.declared.statement.Formal.{Formal}
use Rattle.jc_declares.specs.Breaks.{in_file, formals_broken}
use Rattle.jc_declares.specs.Writing.{Reading, wrote_type}
use Rattle.jc_looking.specs.Members.{known_in}
use Rattle.jc_written.specs.At.{reading_at}
use Rattle.jc_written.proofs.Counting.{turn, in_file-append}
use Rattle.jc_name_rules.proofs.sites.formals_broken.Goals as goal

pub loop-formal-preserved : goal.loop-formal-preserved
loop-formal-preserved c =
    let H = c.args.scene.now.declared.heads.now in let K = known_in c.args.scene.now.known.now in let r : Reading = reading_at H K c.args.reading in
    turn (λ (l : List Formal). in_file c.args.file (formals_broken H K r l)) (λ (x : Formal). in_file c.args.file ((wrote_type H K r x.ty).broken))
    (λ x l. in_file-append c.args.file ((wrote_type H K r x.ty).broken) (formals_broken H K r l))
    c.loop-formal.found c.in_ok-found.found c.args.formals.now c.loop-formal.formal-index c.formal-item.result c.loop-formal-test.true c.formal-item.is c.in_ok-found.ensures
    ∙ c.loop-formal.invariant
