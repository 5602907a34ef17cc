use Rattle.std.proofs.Common.{sym, ap, ◌∙◌, subst, IsSome, List, if◌then◌else◌}
use Rattle.std.specs.HashMap.{get_by_text}
use Rattle.std.specs.Str.{bytes_eq}
use Rattle.jc_exprs_locals.specs.declared.scoped.Entry.{Entry}
use Rattle.jc_exprs_locals.specs.Links.{IsIndexed, or_none}
use Rattle.jc_exprs_locals.proofs.Linked.{indexed_less, has_place}
use Rattle.jc_exprs_locals.proofs.links.pop.Goals as goal

pub relink-requires : goal.relink-requires
relink-requires c =
    let f = get_by_text c.args.newest.now in
    let i = subst (λ (l : List Entry). IsIndexed l f) c.in-Some.ensures.items c.requires.indexed in
    subst (λ n. IsSome (f n)) (sym c.str.ensures) (has_place c.pop.new.self.items c.in-Some.entry f i)

pub returns-in-Some-clause-indexed : goal.returns-in-Some-clause-indexed
returns-in-Some-clause-indexed c =
    let f = get_by_text c.args.newest.now in
    let e = c.in-Some.entry in
    let i = subst (λ (l : List Entry). IsIndexed l f) c.in-Some.ensures.items c.requires.indexed in
    indexed_less c.pop.new.self.items e f (get_by_text c.relink.new.newest) i
    (λ q. c.relink.ensures q ∙ ap (λ n. if bytes_eq q n then e.before else or_none (f q)) c.str.ensures)
