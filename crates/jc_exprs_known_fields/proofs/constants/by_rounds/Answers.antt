use Rattle.std.proofs.Common.{◌≡◌, ℕ, length, ap, ◌∙◌, arith}
use Rattle.jc_exprs_parts_spec.specs.Constants.{constants_within}
use Rattle.jc_exprs_known_fields.specs.Programs.{heads_in, knowledge_in}
use Rattle.jc_exprs_known_fields.proofs.Settled.{all_rounds}
use Rattle.jc_exprs_known_fields.proofs.constants.by_rounds.Goals as goal

pub returns : goal.returns
returns c =
    let p = c.args.program.now in
    let whole : c.loop-round._round ≡ length p.table.now.fields = omega arith in
    c.loop-round.invariant ∙ ap (λ (n : ℕ). constants_within p.table.now (heads_in p) (knowledge_in p) n) whole ∙ all_rounds p.table.now (heads_in p) (knowledge_in p)
