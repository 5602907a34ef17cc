use Rattle.std.proofs.Common.{List, length, IfOk, sym, ◌∙◌, ap, subst}
use Rattle.jc_reading.specs.Giving.{Is}
use Rattle.jc_reading.specs.Kinds.{sign_code}
use Rattle.jc_reading.specs.Reading.{any_number, behind_it}
use Rattle.jc_reading.specs.Reach.{onto}
use Rattle.jc_reading.proofs.Turns.{onto_none}
use Rattle.jc_reading.proofs.Nears.{near_any, ahead_near, ahead_behind}
use Rattle.jc_parse_parts.proofs.Growths.{each_as, led}
use Rattle.jc_parse_parts.proofs.lists.each.Goals as goal

pub returns-clause-read : goal.returns-clause-read
returns-clause-read g c = λ run inside reads.
    let s = c.args.sign in
    let m = led s run in
    let ts = c.args.tokens.now in
    let whole = ap (λ (l : List g.row.T.Denot). onto l (length ts) (any_number m ts)) c.new.ensures ∙ sym (onto_none (length ts) (any_number m ts) (near_any m (ahead_near m (ahead_behind behind_it (sign_code s) run inside)) ts)) ∙ sym (each_as (sign_code s) run ts) in
    subst (λ v. IfOk c.trail.result (λ f. Is f v)) whole (c.trail.ensures.read run inside reads)
