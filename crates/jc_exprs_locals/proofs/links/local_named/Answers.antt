use Rattle.std.proofs.Common.{sym, ap, ◌∙◌}
use Rattle.std.specs.HashMap.{get_by_text}
use Rattle.jc_exprs_locals.specs.Links.{local_in_entry}
use Rattle.jc_exprs_locals.proofs.Linked.{found_at}
use Rattle.jc_exprs_locals.proofs.links.local_named.Goals as goal

pub returns-in-None : goal.returns-in-None
returns-in-None c =
    let es = c.args.entries.now in
    sym (found_at c.args.name.now es (get_by_text c.args.newest.now) c.requires ∙ ap (local_in_entry es) (sym c.place_of.ensures ∙ c.in-None.is))

pub returns-in-Some : goal.returns-in-Some
returns-in-Some c =
    let es = c.args.entries.now in
    c.local_at.ensures ∙ sym (found_at c.args.name.now es (get_by_text c.args.newest.now) c.requires ∙ ap (local_in_entry es) (sym c.place_of.ensures ∙ c.in-Some.is))
