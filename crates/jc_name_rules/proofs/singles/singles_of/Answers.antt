use Rattle.std.proofs.Common.{List, sym, ap, ◌∙◌}
use Rattle.std.proofs.lemmas.List.{drop_all}
use Rattle.jc_declares.specs.declared.heads.ImportHead.{ImportHead}
use Rattle.jc_declares.specs.Looking.{singles}
use Rattle.jc_name_rules.specs.Singles.{with_entries}
use Rattle.jc_name_rules.proofs.Singled.{all_entries}
use Rattle.jc_name_rules.proofs.singles.singles_of.Goals as goal

pub returns : goal.returns
returns c =
    let H = c.args.declared.now.heads.now in
    all_entries (singles H c.args.imports.now) c.no_singles-singles.result c.loop-import.singles c.no_singles-singles.ensures
    (ap (λ (l : List ImportHead). with_entries (singles H l) c.loop-import.singles) (sym (drop_all c.loop-import.import-index c.args.imports.now c.loop-import-test.false)) ∙ c.loop-import.invariant)
