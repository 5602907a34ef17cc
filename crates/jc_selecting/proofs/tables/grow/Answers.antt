use Rattle.jc_selecting.proofs.tables.grow.Goals as goal

pub returns-in_ok-made-in-Some : goal.returns-in_ok-made-in-Some
returns-in_ok-made-in-Some c = c.keep.ensures c.args.parents.now c.args.own.now c.in_ok-made-in-Some.ensures c.requires
