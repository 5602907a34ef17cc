use Rattle.jc_exprs_worlds.specs.Scenes.{world_of}
use Rattle.jc_exprs_calls.proofs.invoking.call_broken.Goals as goal

pub returns : goal.returns
unfolding world_of
returns c = λ ns. let f = c.receiver_break-first.ensures ns in let u = c.is_super-through_super.ensures ns in cc
