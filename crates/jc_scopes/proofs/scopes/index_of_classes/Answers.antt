use Rattle.std.proofs.Common.{ℕ, List, arith, ap, ◌∙◌}
use Rattle.jc_scopes.specs.Entries.{with_entry}
use Rattle.jc_scopes.proofs.Turned.{binaries_turn}
use Rattle.jc_scopes.proofs.scopes.index_of_classes.Goals as goal

pub loop-number-preserved : goal.loop-number-preserved
loop-number-preserved c =
    binaries_turn c.args.heads.now c.loop-number.names c.add_first.new.names c.args.heads.now.classes c.loop-number.number (omega arith)
    (c.in_ok-add_first.ensures ∙ ap (λ (n : List ℕ). with_entry n c.loop-number.number c.loop-number.names) (c.as_str.ensures.value ∙ c.in_ok-name.ensures))
    ∙ c.loop-number.invariant
