use Rattle.std.proofs.Common.{◌≡◌, drop}
use Rattle.jc_types.specs.Breaks.{least}
use Rattle.jc_declares.specs.HeadBreaks.{of_each}
use Rattle.jc_declares.specs.Breaks.{field_site_breaks}
use Rattle.jc_looking.specs.Members.{known_in}
use Rattle.jc_name_rules.proofs.least.field_sites_broken.Given as goal

abbrev pub invariant-loop-site : goal.invariant-loop-site
invariant-loop-site l =
    let H = l.scene.declared.heads.now in let K = known_in l.scene.known.now in
    least l.found (of_each (field_site_breaks H K) l.site-index (drop l.site-index l.sites)) ≡ least l.initial.found (of_each (field_site_breaks H K) 0 l.sites)
