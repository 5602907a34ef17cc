use Rattle.std.proofs.Common.{◌≡◌, ◌++◌, ◌-◌, suc, ap, ◌∙◌, arith, IfOk, List, subst, sym}
use Rattle.jc_types.specs.declared.ids.FieldId.{FieldId}
use Rattle.jc_types.specs.Accessors.{fields_of}
use Rattle.jc_exprs_parts_spec.specs.Fields.{named_fields}
use Rattle.jc_exprs_fields.proofs.Within.{empty_told, others_within, own_within, some_told}
use Rattle.jc_exprs_fields.proofs.hiding.+fields.Goals as goal

pub fields_within-returns-then-not-is_empty : goal.fields_within-returns-then-not-is_empty
fields_within-returns-then-not-is_empty t c =
    let T = c.args.table.now in
    let n = c.args.name.now in
    let h : c.args.steps ≡ suc (c.args.steps - 1) = omega arith in
    let e : c.push_named.new.out ≡ named_fields T n (fields_of T c.args.class) =
    c.in_ok-push_named.ensures ∙ ap (λ xs. xs ++ named_fields T n c.class_fields.result.now) c.new-found.ensures ∙ ap (named_fields T n) c.class_fields.ensures in
    own_within T n c.args.steps (c.args.steps - 1) c.args.class c.push_named.new.out h e (some_told c.is_empty.result c.push_named.new.out c.is_empty.ensures c.if-not-is_empty.true)

pub fields_within-returns : goal.fields_within-returns
fields_within-returns t c =
    let T = c.args.table.now in
    let n = c.args.name.now in
    let h : c.args.steps ≡ suc (c.args.steps - 1) = omega arith in
    let e : c.push_named.new.out ≡ named_fields T n (fields_of T c.args.class) =
    c.in_ok-push_named.ensures ∙ ap (λ xs. xs ++ named_fields T n c.class_fields.result.now) c.new-found.ensures ∙ ap (named_fields T n) c.class_fields.ensures in
    let o = others_within T n c.args.steps (c.args.steps - 1) c.args.class h (sym (empty_told c.is_empty.result c.push_named.new.out c.is_empty.ensures c.if-not-is_empty.false) ∙ e) in
    subst (λ (xs : List FieldId). IfOk c.inherited_fields.result (λ fields. fields ≡ xs)) o c.inherited_fields.ensures
