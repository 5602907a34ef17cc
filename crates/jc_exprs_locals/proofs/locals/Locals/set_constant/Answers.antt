use Rattle.std.proofs.Common.{sym, subst, List}
use Rattle.std.specs.HashMap.{get_by_text}
use Rattle.jc_exprs_locals.specs.declared.scoped.Entry.{Entry}
use Rattle.jc_exprs_locals.specs.Links.{IsIndexed}
use Rattle.jc_exprs_locals.proofs.Linked.{last_indexed}
use Rattle.jc_exprs_locals.proofs.locals.Locals.set_constant.Goals as goal

pub invariant_of-self : goal.invariant_of-self
invariant_of-self c =
    let f = get_by_text c.self.inside.newest in
    subst (λ (l : List Entry). IsIndexed l f) (sym c.set_last.ensures) (last_indexed c.args.constant c.self.inside.entries.items f c.self.invariant)
