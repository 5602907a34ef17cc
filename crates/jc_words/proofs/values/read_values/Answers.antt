use Rattle.std.proofs.Common.{◌∙◌}
use Rattle.jc_words.proofs.Jobs.{values_taken, words_refused}
use Rattle.jc_words.proofs.values.read_values.Goals as goal

pub returns-in-Ok : goal.returns-in-Ok
returns-in-Ok c =
    values_taken c.args.words.now _ c.in_ok-command.ensures _ c.in_ok-values_of-in-Ok.field-0 c.in-Ok.ensures.kinds c.in-Ok.ensures.matches c.in_ok-values_of-in-Ok.ensures

pub returns : goal.returns
returns c =
    words_refused c.args.words.now _ c.in_ok-command.ensures c.in-Err.error c.in-Err.ensures.kinds (λ memory. c.in_default.not-OutOfMemory (c.kind.ensures ∙ memory))
