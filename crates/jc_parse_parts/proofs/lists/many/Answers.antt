use Rattle.std.proofs.Common.{List, length, IfOk, sym, ◌∙◌, ap, subst}
use Rattle.jc_reading.specs.Giving.{Is}
use Rattle.jc_reading.specs.Reading.{any_number}
use Rattle.jc_reading.specs.Reach.{onto}
use Rattle.jc_reading.proofs.Turns.{onto_none}
use Rattle.jc_reading.proofs.Nears.{near_any, ahead_near}
use Rattle.jc_parse_parts.proofs.lists.many.Goals as goal

pub returns-clause-read : goal.returns-clause-read
returns-clause-read g c = λ run moves reads.
    let whole = ap (λ (l : List g.row.T.Denot). onto l (length c.args.tokens.now) (any_number run c.args.tokens.now)) c.new.ensures ∙ sym (onto_none (length c.args.tokens.now) (any_number run c.args.tokens.now) (near_any run (ahead_near run moves) c.args.tokens.now)) in
    subst (λ v. IfOk c.grow.result (λ f. Is f v)) whole (c.grow.ensures.read run moves reads)
