use Rattle.std.proofs.Common.{append-nil, sym, ap, ◌∙◌}
use Rattle.jc_declares.specs.Sites.{innermost}
use Rattle.jc_heads.proofs.Declared.{fields_all}
use Rattle.jc_heads.proofs.Joinings.{same_parts}
use Rattle.jc_heads.proofs.lists.push_fields.Goals as goal

pub returns : goal.returns
returns c =
    λ is_static. same_parts (sym (append-nil c.args.heads.now.units)) (sym (append-nil c.args.heads.now.classes)) (sym (append-nil c.args.heads.now.methods))
    (fields_all c.args.heads.now.fields c.push_field.new.list c.push_vars.new.list c.args.at.now c.args.vars.now c.innermost-class.result c.slice-2.result.now
    (c.innermost-class.ensures ∙ ap innermost c.slice.ensures)
    c.slice-2.ensures
    c.in_ok-push_field.ensures
    c.in_ok-push_vars.ensures)
    (sym (append-nil c.args.heads.now.variables))
    (sym (append-nil c.args.heads.now.scopes))
