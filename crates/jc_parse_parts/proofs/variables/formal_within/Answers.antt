use Rattle.std.proofs.Common.{length, sym, subst, arith}
use Rattle.jc_reading.specs.Giving.{Gives}
use Rattle.jc_parse_parts.proofs.ChainSteps.{no_longer}
use Rattle.jc_parse_parts.proofs.FormalSteps.{formal_low, formal_on}
use Rattle.jc_parse_parts.proofs.variables.formal_within.Goals as goal

pub returns-then-height-eq0-clause-read : goal.returns-then-height-eq0-clause-read
returns-then-height-eq0-clause-read c = formal_low c.args.height c.args.tokens.now (omega arith)

pub returns-clause-read : goal.returns-clause-read
returns-clause-read c =
    let modifiers = c.in_ok-modifiers.modifiers in
    subst (λ v. Gives c.formal_of.result v) (sym (formal_on c.args.height c.args.tokens.now modifiers.rest.now modifiers.value modifiers.left (omega arith) c.in_ok-modifiers.ensures.read)) (c.formal_of.ensures.read _ c.formal_tail.ensures.read)

pub returns-clause-shorter : goal.returns-clause-shorter
returns-clause-shorter c =
    let modifiers = c.in_ok-modifiers.modifiers in
    no_longer c.formal_of.result (length modifiers.rest.now) (length c.args.tokens.now) c.in_ok-modifiers.ensures.shorter (c.formal_of.ensures.shorter (length modifiers.rest.now) c.formal_tail.ensures.shorter)
