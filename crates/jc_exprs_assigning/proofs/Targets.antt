-- How a walk goes through a variable that is assigned.
use Rattle.jc_exprs_nodes_spec.proofs.Runs.{ran_onward, ran_two}
use Rattle.jc_exprs_nodes.proofs.Gathering.{ran_feeding}
use Rattle.jc_exprs_assigning.specs.Storing.{BothWithTarget, FeedingTarget, OneTarget}

pub one_target : OneTarget
one_target f m s = ran_onward f m s

pub feeding_target : FeedingTarget
feeding_target f m g s = ran_feeding f m g s

pub both_with_target : BothWithTarget
both_with_target f m n s = ran_two f m n s
