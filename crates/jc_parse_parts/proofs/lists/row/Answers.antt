use Rattle.std.proofs.Common.{◌≡◌, List, [], ◌∷◌, ◌++◌, IfOk, ◌∙◌, ap, subst}
use Rattle.jc_reading.specs.Giving.{Is}
use Rattle.jc_reading.specs.Reading.{any_number}
use Rattle.jc_reading.specs.Reach.{onto}
use Rattle.jc_parse_parts.proofs.lists.row.Goals as goal

pub returns-clause-read : goal.returns-clause-read
returns-clause-read g c = λ run moves reads.
    let first = c.args.first in
    let held : c.push.new.self ≡ first.value ∷ [] = c.in_ok-push.ensures.ok ∙ ap (λ (l : List g.row.T.Denot). l ++ first.value ∷ []) c.new-items.ensures in
    subst (λ (l : List g.row.T.Denot). IfOk c.grow.result (λ f. Is f (onto l first.left (any_number run first.rest.now)))) held (c.grow.ensures.read run moves reads)
