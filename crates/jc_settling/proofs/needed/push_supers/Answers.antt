use Rattle.std.proofs.Common.{◌<◌, ◌+◌, ◌++◌, ℕ, List, length, drop, arith, sym, ap, ◌∙◌}
use Rattle.jc_declares.specs.Knowing.{written_supers}
use Rattle.jc_looking.specs.declared.scene.Sight.{Sight}
use Rattle.jc_looking.specs.Members.{known_in}
use Rattle.jc_looking.specs.Sights.{class_in}
use Rattle.jc_settling.specs.Supers.{asks, before}
use Rattle.jc_settling.proofs.Supers.{supers_step}
use Rattle.jc_settling.proofs.needed.push_supers.Goals as goal

pub loop-name-preserved : goal.loop-name-preserved
loop-name-preserved c =
    let within : c.loop-name.name-index < length c.args.names.now = omega arith in
    let step = supers_step c.args.scene.now.declared.heads.now (known_in c.args.scene.now.known.now) c.args.class c.args.names.now c.loop-name.name-index c.name-item.result c.loop-name.supers within c.name-item.is
    (ap asks (sym c.in_ok-sight.ensures) ∙ sym c.asks.ensures ∙ c.if-asks.false) in
    ap (λ (found : List ℕ). before found (written_supers c.args.scene.now.declared.heads.now (known_in c.args.scene.now.known.now) c.args.class (drop (c.loop-name.name-index + 1) c.args.names.now)))
    (c.in_ok-push_class.ensures ∙ ap (λ (s : Sight). c.loop-name.supers ++ class_in s) c.in_ok-sight.ensures)
    ∙ sym step ∙ c.loop-name.invariant
