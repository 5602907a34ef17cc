use Rattle.std.proofs.Common.{List, ap, ◌∙◌}
use Rattle.jc_types.specs.Breaks.{least}
use Rattle.jc_declares.specs.declared.heads.ImportHead.{ImportHead}
use Rattle.jc_declares.specs.HeadBreaks.{of_each, package_breaks, twice_import, import_breaks}
use Rattle.jc_name_rules.specs.Singles.{twice_in}
use Rattle.jc_name_rules.proofs.Counting.{three}
use Rattle.jc_name_rules.proofs.least.unit_broken.Goals as goal

pub returns : goal.returns
returns c =
    let H = c.args.declared.now.heads.now in
    λ k. three (package_breaks H c.args.unit.now) (of_each (twice_import H c.args.unit.now) 0 c.args.unit.now.imports) (of_each (import_breaks H c.args.unit.now) 0 c.args.unit.now.imports)
    c.args.found c.package_broken-found.result c.in_ok-found.found c.in_ok-found-2.found
    (c.package_broken-found.ensures H c.requires.first)
    (c.in_ok-found.ensures ∙ ap (λ (l : List ImportHead). least c.package_broken-found.result (of_each (twice_in H c.args.unit.now.file l) 0 l)) c.slice.ensures)
    c.in_ok-found-2.ensures
