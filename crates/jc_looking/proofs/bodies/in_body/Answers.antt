use Rattle.jc_declares.specs.Heads.{unit_of, round_of}
use Rattle.jc_looking.specs.Members.{known_in}
use Rattle.jc_looking.proofs.Seen.{classes_seen}
use Rattle.jc_looking.proofs.bodies.in_body.Goals as goal

pub returns : goal.returns
returns c =
    let e = classes_seen c.args.scene.now.declared.heads.now (known_in c.args.scene.now.known.now) c.args.name.now
    (unit_of c.args.scene.now.declared.heads.now c.args.class) c.args.class (round_of c.args.scene.now.declared.heads.now c.args.class) in cc
