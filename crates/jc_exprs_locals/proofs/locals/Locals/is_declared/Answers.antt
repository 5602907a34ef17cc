use Rattle.std.proofs.Common.{sym, ap, ◌∙◌, is_some}
use Rattle.std.specs.HashMap.{get_by_text}
use Rattle.jc_exprs_locals.specs.Scoped.{is_named, locals_of}
use Rattle.jc_exprs_locals.proofs.Linked.{declared_at}
use Rattle.jc_exprs_locals.proofs.locals.Locals.is_declared.Goals as goal

pub returns : goal.returns
returns c =
    let n = c.args.name.now in
    c.is_some.ensures ∙ ap is_some c.place_of.ensures ∙ sym (declared_at n c.self.inside.entries.items (get_by_text c.self.inside.newest) c.self.invariant)
    ∙ ap (λ ls. is_named n (locals_of ls)) c.self.view_is
