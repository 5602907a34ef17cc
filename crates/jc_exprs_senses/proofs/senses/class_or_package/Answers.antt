use Rattle.std.proofs.Common.{◌≡◌, ap, sym, ◌∙◌, subst, IfOk}
use Rattle.jc_declares.specs.Writing.{Reading}
use Rattle.jc_looking.specs.Sights.{seen}
use Rattle.jc_exprs_parts_spec.specs.Senses.{Sense, sense_of_look}
use Rattle.jc_exprs_parts_spec.specs.Worlds.{reading}
use Rattle.jc_exprs_worlds.specs.Scenes.{world_of}
use Rattle.jc_exprs_senses.specs.Sensed.{sense_of, sense_of_sight}
use Rattle.jc_exprs_senses.proofs.Sensing.{look_seen}
use Rattle.jc_exprs_senses.proofs.senses.class_or_package.Goals as goal

pub returns : goal.returns
unfolding world_of
returns c =
    let n = c.args.name.now in
    let W = world_of c.args.scene.now in
    let e : sense_of_look n ((reading W).find n) ≡ sense_of_sight n c.first_meaning-sight.result =
    look_seen n ((reading W).find n) ∙ ap (λ (r : Reading). sense_of_sight n (seen (r.find n))) (sym c.reading.ensures) ∙ ap (sense_of_sight n) (sym c.first_meaning-sight.ensures) in
    subst (λ (x : Sense). IfOk c.sense_of_sight.result (λ s. sense_of s ≡ x)) (sym e) c.sense_of_sight.ensures
