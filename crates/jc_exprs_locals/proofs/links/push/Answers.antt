use Rattle.std.proofs.Common.{◌≡◌, sym, ap, ◌∙◌, Some, List, length, string_bytes, if◌then◌else◌, subst}
use Rattle.std.specs.HashMap.{get_by_text}
use Rattle.std.specs.Str.{bytes_eq}
use Rattle.jc_exprs_locals.specs.declared.scoped.Entry.{Entry}
use Rattle.jc_exprs_locals.specs.Links.{IsIndexed, or_none}
use Rattle.jc_exprs_locals.proofs.Linked.{indexed_more}
use Rattle.jc_exprs_locals.proofs.links.push.Goals as goal

pub returns-in-Ok-clause-indexed : goal.returns-in-Ok-clause-indexed
returns-in-Ok-clause-indexed c =
    let m = c.args.newest.now in
    let es = c.args.entries.now.items in
    let e : Entry = record { local = c.args.local; before = c.place_of-before.result } in
    let b = c.place_of-before.ensures ∙ ap (λ n. or_none (get_by_text m n)) c.str-2.ensures in
    let n : string_bytes c.in_ok-name.name ≡ c.args.local.name = c.in_ok-name.ensures.ok ∙ c.str.ensures in
    subst (λ (l : List Entry). IsIndexed l (get_by_text c.link.new.newest)) (sym c.in_ok-push.ensures.items)
    (indexed_more es e (get_by_text m) (get_by_text c.link.new.newest) c.requires b
    (λ q. c.in-Ok.ensures.ok q
    ∙ ap (λ k. if bytes_eq q (string_bytes c.in_ok-name.name) then Some k else or_none (get_by_text m q)) (c.len-at.ensures ∙ c.args.entries.now.ok.0)
    ∙ ap (λ k. if bytes_eq q k then Some (length es) else or_none (get_by_text m q)) n))
