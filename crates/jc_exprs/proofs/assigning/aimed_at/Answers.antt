use Rattle.jc_exprs.proofs.assigning.aimed_at.Goals as goal

pub returns-clause-value : goal.returns-clause-value
returns-clause-value c = c.aimed.ensures.value c.args.nodes.now

pub returns-clause-below : goal.returns-clause-below
returns-clause-below c = c.aimed.ensures.below _ c.requires
