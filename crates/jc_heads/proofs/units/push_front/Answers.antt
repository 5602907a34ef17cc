use Rattle.std.proofs.Common.{◌++◌, [], ◌∷◌, length, append-nil, sym, ap, ◌∙◌}
use Rattle.jc_declares.specs.declared.heads.UnitHead.{UnitHead}
use Rattle.jc_heads.proofs.Joinings.{same_parts}
use Rattle.jc_heads.proofs.units.push_front.Goals as goal

pub returns : goal.returns
returns c =
    same_parts (c.in_ok-push.ensures.ok ∙ ap (λ (u : UnitHead). c.args.heads.now.units ++ u ∷ []) (c.in_ok-unit_head.ensures (length c.args.heads.now.scopes)))
    (sym (append-nil c.args.heads.now.classes))
    (sym (append-nil c.args.heads.now.methods))
    (sym (append-nil c.args.heads.now.fields))
    (sym (append-nil c.args.heads.now.variables))
    c.in_ok-push-2.ensures.ok
