use Rattle.std.proofs.Common.{◌≡◌, ℕ, List, map, IfOk, Option, sym, ap, subst, ◌∙◌}
use Rattle.jc_types.specs.declared.constant.Constant.{Constant}
use Rattle.jc_types.specs.declared.constant.ConstantPart.{ConstantPart}
use Rattle.jc_types.specs.declared.constant.Op.{Op}
use Rattle.jc_exprs_parts_spec.specs.Constants.{Right, cast_of, chained, conditional_constant, constant_named, from_some, prefixes, valued}
use Rattle.jc_exprs_worlds.specs.Scenes.{world_of}
use Rattle.jc_exprs_known_fields.specs.Rounds.{right_of}
use Rattle.jc_exprs_known_fields.proofs.Chained.{chained_turn}
use Rattle.jc_exprs_known_fields.proofs.ValuesByParts.{right_of-parts, valued-Cast, valued-Chain, valued-Conditional, valued-Prefix}
use Rattle.jc_exprs_known_fields.proofs.evaluating.+values.Goals as goal

pub chained-loop-part-preserved : goal.chained-loop-part-preserved
chained-loop-part-preserved t c =
    let names : List (List ℕ) → Option Constant = constant_named (world_of c.args.scene.now) in
    let p : ConstantPart = c.part-item.result in
    let told = right_of-parts names p in
    let op : p.op ≡ (right_of names p).op = sym (ap (λ (r : Right). r.op) told) in
    let operand : valued names p.operand ≡ (right_of names p).operand = sym (ap (λ (r : Right). r.operand) told) in
    chained_turn (right_of names) c.loop-part.value c.in_ok-value.value c.args.parts.now c.loop-part.part-index p p.op c.in_ok-right.right c.loop-part-test.true c.part-item.is op (c.in_ok-right.ensures ∙ operand) c.in_ok-value.ensures
    ∙ c.loop-part.invariant

pub valued-returns-in_ok-value-in-Cast : goal.valued-returns-in_ok-value-in-Cast
valued-returns-in_ok-value-in-Cast t c =
    let names : List (List ℕ) → Option Constant = constant_named (world_of c.args.scene.now) in
    c.cast_of.ensures
    ∙ ap (λ (x : Option Constant). from_some x (cast_of c.in-Cast.to)) (c.in_ok-value-in-Cast.ensures ∙ ap (valued names) c.get.ensures)
    ∙ sym (ap (valued names) c.in-Cast.is ∙ valued-Cast names c.in-Cast.to c.in-Cast.of)

pub valued-returns-in_ok-value-in-Prefix : goal.valued-returns-in_ok-value-in-Prefix
valued-returns-in_ok-value-in-Prefix t c =
    let names : List (List ℕ) → Option Constant = constant_named (world_of c.args.scene.now) in
    c.prefixes.ensures
    ∙ ap (λ (os : List Op). prefixes os c.in_ok-value-in-Prefix.value) c.slice-in-Prefix.ensures
    ∙ ap (prefixes c.in-Prefix.ops) (c.in_ok-value-in-Prefix.ensures ∙ ap (valued names) c.get-in-Prefix.ensures)
    ∙ sym (ap (valued names) c.in-Prefix.is ∙ valued-Prefix names c.in-Prefix.ops c.in-Prefix.of)

pub valued-returns-in_ok-value-in-Chain : goal.valued-returns-in_ok-value-in-Chain
valued-returns-in_ok-value-in-Chain t c =
    let names : List (List ℕ) → Option Constant = constant_named (world_of c.args.scene.now) in
    let told =
    ap (λ (ps : List ConstantPart). chained c.in_ok-value-in-Chain.value (map (right_of names) ps)) c.slice-in-Chain.ensures
    ∙ ap (λ (x : Option Constant). chained x (map (right_of names) c.in-Chain.rest)) (c.in_ok-value-in-Chain.ensures ∙ ap (valued names) c.get-in-Chain.ensures)
    ∙ sym (ap (valued names) c.in-Chain.is ∙ valued-Chain names c.in-Chain.first c.in-Chain.rest) in
    subst (λ (x : Option Constant). IfOk c.chained.result (λ r. r ≡ x)) told c.chained.ensures

pub valued-returns-in_ok-other-in-Conditional : goal.valued-returns-in_ok-other-in-Conditional
valued-returns-in_ok-other-in-Conditional t c =
    let names : List (List ℕ) → Option Constant = constant_named (world_of c.args.scene.now) in
    let test = c.in_ok-test-in-Conditional.ensures ∙ ap (valued names) c.get-in-Conditional.ensures in
    let first = c.in_ok-then-in-Conditional.ensures ∙ ap (valued names) c.get-in-Conditional-2.ensures in
    let other = c.in_ok-other-in-Conditional.ensures ∙ ap (valued names) c.get-in-Conditional-3.ensures in
    let told =
    ap (λ (x : Option Constant). from_some x (λ t. from_some c.in_ok-then-in-Conditional.then (λ x. from_some c.in_ok-other-in-Conditional.other (conditional_constant t x)))) test
    ∙ ap (λ (y : Option Constant). from_some (valued names c.in-Conditional.test) (λ t. from_some y (λ x. from_some c.in_ok-other-in-Conditional.other (conditional_constant t x)))) first
    ∙ ap (λ (z : Option Constant). from_some (valued names c.in-Conditional.test) (λ t. from_some (valued names c.in-Conditional.then) (λ x. from_some z (conditional_constant t x)))) other
    ∙ sym (ap (valued names) c.in-Conditional.is ∙ valued-Conditional names c.in-Conditional.test c.in-Conditional.then c.in-Conditional.other) in
    subst (λ (x : Option Constant). IfOk c.conditional.result (λ r. r ≡ x)) told c.conditional.ensures
