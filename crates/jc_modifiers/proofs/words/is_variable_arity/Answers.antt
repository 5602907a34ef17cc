use Rattle.std.proofs.Common.{List, sym, ap, ◌∙◌}
use Rattle.std.proofs.lemmas.List.{drop_all}
use Rattle.jc_tree.specs.declared.statement.Formal.{Formal}
use Rattle.jc_modifiers.specs.LastFormal.{last_or}
use Rattle.jc_modifiers.proofs.LastFormal.{last_told}
use Rattle.jc_modifiers.proofs.words.is_variable_arity.Goals as goal

pub returns : goal.returns
returns c =
    ap (λ (l : List Formal). last_or c.loop-formal.last l) (sym (drop_all c.loop-formal.formal-index c.args.formals.now c.loop-formal-test.false))
    ∙ c.loop-formal.invariant
    ∙ last_told c.args.formals.now
