use Rattle.std.proofs.Common.{◌≡◌, List, [], ◌∷◌, ◌++◌, ◌∙◌, ap, subst}
use Rattle.jc_reading.specs.Giving.{Is}
use Rattle.jc_reading.specs.Reading.{Found, any_number}
use Rattle.jc_reading.specs.Reach.{onto}
use Rattle.jc_parse_parts.proofs.Growths.{first_then, led}
use Rattle.jc_parse_parts.proofs.lists.separated.Goals as goal

pub returns-clause-read : goal.returns-clause-read
returns-clause-read g c = λ run inside reads.
    let first = c.in_ok-first.first in
    let m = led c.args.sign run in
    let held : c.push.new.self ≡ first.value ∷ [] = c.in_ok-push.ensures.ok ∙ ap (λ (l : List g.row.T.Denot). l ++ first.value ∷ []) c.new-items.ensures in
    let one : run c.args.tokens.now ≡ Found first.value first.rest.now first.left = reads c.args.tokens _ c.in_ok-first.ensures in
    first_then c.args.sign run c.args.tokens.now first.rest.now first.value first.left one
    ∙ subst (λ (l : List g.row.T.Denot). Is c.in_ok-trail.field-0 (onto l first.left (any_number m first.rest.now))) held (c.in_ok-trail.ensures.read run inside reads)
