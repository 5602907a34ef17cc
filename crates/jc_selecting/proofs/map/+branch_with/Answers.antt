use Rattle.std.proofs.Common.{◌∙◌, ap}
use Rattle.std.specs.declared.option.Option.{Option}
use Rattle.jc_selecting.proofs.Bits.{here_even, here_odd, here_zero, others_even, others_odd, others_zero}
use Rattle.jc_selecting.specs.Held.{content, held_on}
use Rattle.jc_selecting.specs.declared.map.Branch.{Branch}
use Rattle.jc_selecting.proofs.map.+branch_with.Goals as goal

pub returns-then-key-eq0-clause-here : goal.returns-then-key-eq0-clause-here
returns-then-key-eq0-clause-here t c = here_zero (content c.in_ok-zeroth.zeroth) _ c.args.key c.if-key-eq0.true c.in_ok-zeroth.ensures.value

pub returns-then-key-eq0-clause-others : goal.returns-then-key-eq0-clause-others
returns-then-key-eq0-clause-others t c = others_zero (content c.in_ok-zeroth.zeroth) (content c.args.branch.now) c.args.key c.if-key-eq0.true c.in_ok-zeroth.ensures.odd c.in_ok-zeroth.ensures.even

pub returns-in_ok-grown-clause-here : goal.returns-in_ok-grown-clause-here
returns-in_ok-grown-clause-here t c = here_odd (content c.in_ok-grown.grown) (content c.in_ok-odd.odd) _ c.args.key c.if-key-eq0.false c.if-key-eq1.true c.in_ok-grown.ensures.odd c.in_ok-odd.ensures.here

pub returns-in_ok-grown-clause-others : goal.returns-in_ok-grown-clause-others
returns-in_ok-grown-clause-others t c = others_odd (content c.in_ok-grown.grown) (content c.args.branch.now) (content c.in_ok-odd.odd) c.args.key c.if-key-eq1.true c.in_ok-grown.ensures.value c.in_ok-grown.ensures.odd c.in_ok-grown.ensures.even
    (λ m j other. c.in_ok-odd.ensures.others m j other ∙ ap (λ (b : Option Branch). held_on m b j) c.in_ok-half.ensures)

pub returns-in_ok-wider-clause-here : goal.returns-in_ok-wider-clause-here
returns-in_ok-wider-clause-here t c = here_even (content c.in_ok-wider.wider) (content c.in_ok-even.even) _ c.args.key c.if-key-eq0.false c.if-key-eq1.false c.in_ok-wider.ensures.even c.in_ok-even.ensures.here

pub returns-in_ok-wider-clause-others : goal.returns-in_ok-wider-clause-others
returns-in_ok-wider-clause-others t c = others_even (content c.in_ok-wider.wider) (content c.args.branch.now) (content c.in_ok-even.even) c.args.key c.if-key-eq1.false c.in_ok-wider.ensures.value c.in_ok-wider.ensures.even c.in_ok-wider.ensures.odd
    (λ m j other. c.in_ok-even.ensures.others m j other ∙ ap (λ (b : Option Branch). held_on m b j) c.in_ok-other.ensures)
