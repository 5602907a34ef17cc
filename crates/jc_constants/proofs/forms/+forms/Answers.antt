use Rattle.std.proofs.Common.{◌≡◌, ◌∷◌, [], IfOk, Option, Some, List, map, refl, sym, ap, subst, ◌∙◌}
use Rattle.jc_tree.specs.declared.expression.Expr.{Expr}
use Rattle.jc_tree.specs.declared.expression.Operand.{Operand}
use Rattle.jc_tree.specs.declared.expression.PrefixOp.{PrefixOp}
use Rattle.jc_tree.specs.declared.types.TypeTree.{TypeTree}
use Rattle.jc_types.specs.declared.constant.ConstantExpr.{ConstantExpr}
use Rattle.jc_types.specs.declared.constant.ConstantPart.{ConstantPart}
use Rattle.jc_types.specs.declared.constant.ConstantType.{ConstantType}
use Rattle.jc_types.specs.declared.constant.Op.{Op}
use Rattle.jc_declares.specs.Constants.{Formed, Right, formed_expr, conditional, prefixed, prefix_operators, cast_formed, cast_to, and_then, all_parts, binary_operator, of_name, longer_name}
use Rattle.jc_declares.specs.Writing.{Reading, wrote_type}
use Rattle.jc_looking.specs.Members.{known_in}
use Rattle.jc_written.specs.At.{reading_at}
use Rattle.jc_constants.specs.Forms.{formed_operand, named_by, name_expr}
use Rattle.jc_constants.proofs.Behind.{parts_turn, parts_stop}
use Rattle.jc_constants.proofs.FormsByParts.{formed_expr-Conditional, formed_expr-Prefix, formed_expr-Cast, formed_expr-Field, formed_expr-Name, formed_operand-Binary}
use Rattle.jc_constants.proofs.Named.{constant_longer}
use Rattle.jc_constants.proofs.forms.+forms.Goals as goal

pub constant_expr-returns-in_ok-other-in-Conditional : goal.constant_expr-returns-in_ok-other-in-Conditional
constant_expr-returns-in_ok-other-in-Conditional t c =
    let H = c.args.scene.now.declared.heads.now in let K = known_in c.args.scene.now.known.now in let r : Reading = reading_at H K c.args.reading in
    let F : Expr → Option ConstantExpr = λ (e : Expr). (formed_expr H K c.args.file r e).constant in
    let told =
    ap (λ (a : Option ConstantExpr). conditional a c.in_ok-then-in-Conditional.then c.in_ok-other-in-Conditional.other) (c.in_ok-test-in-Conditional.ensures ∙ ap F c.get.ensures)
    ∙ ap (λ (a : Option ConstantExpr). conditional (F c.in-Conditional.test) a c.in_ok-other-in-Conditional.other) (c.in_ok-then-in-Conditional.ensures ∙ ap F c.get-in-Conditional.ensures)
    ∙ ap (λ (a : Option ConstantExpr). conditional (F c.in-Conditional.test) (F c.in-Conditional.then) a) (c.in_ok-other-in-Conditional.ensures ∙ ap F c.get-in-Conditional-2.ensures)
    ∙ sym (ap F c.in-Conditional.is ∙ ap (λ (f : Formed). f.constant) (formed_expr-Conditional H K c.args.file r c.in-Conditional.test c.in-Conditional.then c.in-Conditional.otherwise)) in
    subst (λ (x : Option ConstantExpr). IfOk c.conditional.result (λ it. it ≡ x)) told c.conditional.ensures

pub constant_expr-returns-in_ok-operand-in-Prefix : goal.constant_expr-returns-in_ok-operand-in-Prefix
constant_expr-returns-in_ok-operand-in-Prefix t c =
    let H = c.args.scene.now.declared.heads.now in let K = known_in c.args.scene.now.known.now in let r : Reading = reading_at H K c.args.reading in
    let F : Expr → Option ConstantExpr = λ (e : Expr). (formed_expr H K c.args.file r e).constant in
    let told =
    ap (λ (o : Option (List Op)). prefixed o c.in_ok-operand-in-Prefix.operand) (c.in_ok-ops-in-Prefix.ensures ∙ ap (λ (l : List PrefixOp). prefix_operators (c.in-Prefix.first ∷ l)) (c.slice-in-Prefix.ensures ∙ c.get-in-Prefix.ensures))
    ∙ ap (λ (a : Option ConstantExpr). prefixed (prefix_operators (c.in-Prefix.first ∷ c.in-Prefix.more)) a) (c.in_ok-operand-in-Prefix.ensures ∙ ap F c.get-in-Prefix-2.ensures)
    ∙ sym (ap F c.in-Prefix.is ∙ ap (λ (f : Formed). f.constant) (formed_expr-Prefix H K c.args.file r c.in-Prefix.first c.in-Prefix.more c.in-Prefix.operand)) in
    subst (λ (x : Option ConstantExpr). IfOk c.prefixed.result (λ it. it ≡ x)) told c.prefixed.ensures

pub constant_expr-returns-in_ok-operand-in-Cast : goal.constant_expr-returns-in_ok-operand-in-Cast
constant_expr-returns-in_ok-operand-in-Cast t c =
    let H = c.args.scene.now.declared.heads.now in let K = known_in c.args.scene.now.known.now in let r : Reading = reading_at H K c.args.reading in
    let F : Expr → Option ConstantExpr = λ (e : Expr). (formed_expr H K c.args.file r e).constant in
    let told =
    ap (λ (o : Option ConstantType). cast_formed o c.in_ok-operand-in-Cast.operand) (c.in_ok-to-in-Cast.ensures ∙ ap (λ (y : TypeTree). cast_to H (wrote_type H K r y).ty) c.get-in-Cast.ensures)
    ∙ ap (λ (a : Option ConstantExpr). cast_formed (cast_to H (wrote_type H K r c.in-Cast.ty).ty) a) (c.in_ok-operand-in-Cast.ensures ∙ ap F c.get-in-Cast-2.ensures)
    ∙ sym (ap F c.in-Cast.is ∙ ap (λ (f : Formed). f.constant) (formed_expr-Cast H K c.args.file r c.in-Cast.at c.in-Cast.ty c.in-Cast.operand)) in
    subst (λ (x : Option ConstantExpr). IfOk c.cast_formed.result (λ it. it ≡ x)) told c.cast_formed.ensures

pub constant_expr-returns-in-Field : goal.constant_expr-returns-in-Field
constant_expr-returns-in-Field t c =
    let H = c.args.scene.now.declared.heads.now in let K = known_in c.args.scene.now.known.now in let r : Reading = reading_at H K c.args.reading in
    let is : formed_expr H K c.args.file r c.args.tree.now ≡ longer_name c.args.file (formed_expr H K c.args.file r c.in-Field.of) c.in-Field.name.text =
    ap (λ (e : Expr). formed_expr H K c.args.file r e) c.in-Field.is ∙ formed_expr-Field H K c.args.file r c.in-Field.of c.in-Field.name in
    let told : name_expr c.args.file (named_by (formed_expr H K c.args.file r c.args.tree.now)) ≡ (formed_expr H K c.args.file r c.args.tree.now).constant =
    subst (λ (f : Formed). name_expr c.args.file (named_by f) ≡ f.constant) (sym is) (sym (constant_longer c.args.file (formed_expr H K c.args.file r c.in-Field.of) c.in-Field.name.text)) in
    subst (λ (x : Option ConstantExpr). IfOk c.name_expr.result (λ it. it ≡ x)) told (c.name_expr.ensures H K r)

pub constant_expr-returns-in-Name : goal.constant_expr-returns-in-Name
constant_expr-returns-in-Name t c =
    let H = c.args.scene.now.declared.heads.now in let K = known_in c.args.scene.now.known.now in let r : Reading = reading_at H K c.args.reading in
    let is : formed_expr H K c.args.file r c.args.tree.now ≡ of_name c.args.file c.in-Name.field-0.at (c.in-Name.field-0.text ∷ []) =
    ap (λ (e : Expr). formed_expr H K c.args.file r e) c.in-Name.is ∙ formed_expr-Name H K c.args.file r c.in-Name.field-0 in
    let told : name_expr c.args.file (named_by (formed_expr H K c.args.file r c.args.tree.now)) ≡ (formed_expr H K c.args.file r c.args.tree.now).constant =
    subst (λ (f : Formed). name_expr c.args.file (named_by f) ≡ f.constant) (sym is) refl in
    subst (λ (x : Option ConstantExpr). IfOk c.name_expr-in-Name.result (λ it. it ≡ x)) told (c.name_expr-in-Name.ensures H K r)

pub part-returns-in-Some : goal.part-returns-in-Some
part-returns-in-Some t c =
    let H = c.args.scene.now.declared.heads.now in let K = known_in c.args.scene.now.known.now in let r : Reading = reading_at H K c.args.reading in
    ap (λ (p : ConstantPart). Some p) c.part_with.ensures
    ∙ ap (λ (x : Option ConstantExpr). and_then x (λ e. let p : ConstantPart = record { op = binary_operator c.in-Binary.op; operand = e } in Some p)) (sym c.in-Some.is ∙ c.in_ok-right-in-Binary.ensures)
    ∙ sym (ap (λ (o : Operand). (formed_operand H K c.args.file r o).part) c.in-Binary.is ∙ ap (λ (x : Right). x.part) (formed_operand-Binary H K c.args.file r c.in-Binary.op c.in-Binary.right))

pub parts-returns-in-None : goal.parts-returns-in-None
parts-returns-in-None t c =
    let H = c.args.scene.now.declared.heads.now in let K = known_in c.args.scene.now.known.now in let r : Reading = reading_at H K c.args.reading in
    parts_stop (formed_operand H K c.args.file r) c.loop-operand.list (all_parts (map (formed_operand H K c.args.file r) c.args.operands.now)) c.args.operands.now c.loop-operand.operand-index c.operand-item.result
    c.loop-operand-test.true c.operand-item.is (sym c.in-None.is ∙ c.in_ok-part.ensures) c.loop-operand.invariant

pub parts-loop-operand-preserved : goal.parts-loop-operand-preserved
parts-loop-operand-preserved t c =
    let H = c.args.scene.now.declared.heads.now in let K = known_in c.args.scene.now.known.now in let r : Reading = reading_at H K c.args.reading in
    parts_turn (formed_operand H K c.args.file r) c.loop-operand.list c.push.new.self c.args.operands.now c.loop-operand.operand-index c.operand-item.result c.in-Some.part
    c.loop-operand-test.true c.operand-item.is (sym c.in-Some.is ∙ c.in_ok-part.ensures) c.in_ok-push-in-Some.ensures.ok
    ∙ c.loop-operand.invariant
