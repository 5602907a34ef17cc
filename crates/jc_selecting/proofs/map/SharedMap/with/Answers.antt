use Rattle.jc_selecting.proofs.Bits.{held_with}
use Rattle.jc_selecting.specs.Held.{content}
use Rattle.jc_selecting.proofs.map.SharedMap.with.Goals as goal

pub returns : goal.returns
returns c = held_with (content c.in_ok-root.root) (content c.args.self.now.root) c.args.key c.args.value c.in_ok-root.ensures.here c.in_ok-root.ensures.others
