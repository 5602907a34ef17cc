use Rattle.jc_typed.proofs.Reading.{well_pushed, grows_pushed, value_pushed}
use Rattle.jc_typed.proofs.nodes.Nodes.push.Goals as goal

pub invariant_of-self-2 : goal.invariant_of-self-2
invariant_of-self-2 c =
    (rw c.in_ok-push.ensures.items (well_pushed c.self.inside.nodes.items c.args.node c.self.invariant.0 (rw c.self.view_is c.requires)), c.self.invariant.1, c.self.invariant.2)

pub returns-clause-value : goal.returns-clause-value
returns-clause-value c =
    rw (c.in_ok-push.ensures.items, c.len-at.ensures, ← c.self.view_is) (value_pushed c.self.inside.nodes.items c.args.node)

pub returns-clause-grows : goal.returns-clause-grows
returns-clause-grows c =
    rw (c.in_ok-push.ensures.items, ← c.self.view_is) (grows_pushed c.self.inside.nodes.items c.args.node)
