-- What the code answers where it joins a value and what was read behind it.
use Rattle.std.proofs.Common.{◌≡◌, ℕ, ◌-◌, ◌<◌, ◌≤◌, ◌^◌, min, List, true, length, Result, Ok, Err, refl, sym, ap, ◌∙◌, subst, arith}
use Rattle.std.specs.Prelude.{nat_le}
use Rattle.jc_lexer.specs.declared.token.Sign.TheVariants as sign_of
use Rattle.jc_lexer.specs.declared.token.Token.{Token}
use Rattle.jc_tree.specs.declared.types.TypeTree.{TypeTree}
use Rattle.jc_tree.specs.declared.expression.AssignOp.{AssignOp}
use Rattle.jc_tree.specs.declared.expression.BinaryOp.{BinaryOp}
use Rattle.jc_tree.specs.declared.expression.PrefixOp.{PrefixOp}
use Rattle.jc_tree.specs.declared.expression.Expr.{Expr}
use Rattle.jc_tree.specs.declared.expression.Operand.{Operand}
use Rattle.jc_grammar.specs.Shapes.{expr_shape, is_primitive, post_level}
use Rattle.jc_reading.specs.declared.reading.Found.{Found}
use Rattle.jc_reading.specs.declared.reading.Halt.{Halt}
use Rattle.jc_reading.specs.declared.reading.Halt.TheVariants as halt_of
use Rattle.jc_reading.specs.Giving.{Gives, Halts, Is}
use Rattle.jc_reading.specs.Kinds.{sign_code}
use Rattle.jc_reading.specs.Reading.{Read, becoming, found, in_turn, any_number, at_kind}
use Rattle.jc_reading.specs.Reading as reading
use Rattle.jc_reading.proofs.Nears.{near_any, near_picking}
use Rattle.jc_parse_expr.specs.declared.measured.Measured.{Measured}
use Rattle.jc_parse_expr.specs.Measuring.{measured}
use Rattle.jc_expr_laws.specs.LevelReading.{assign_run, cast_run, operand_for, picks_prefix, prefix_op_run}
use Rattle.jc_parse_expr.specs.Nodes.{binary_node, cast_node, prefix_node}
use Rattle.jc_parse_expr.specs.After.{After, Joined, assign_right, pair_of}
use Rattle.jc_parse_expr.specs.declared.operators.Level.{Level}
use Rattle.jc_parse_expr.specs.BinaryLevels.{levels_at, operator_run, operand_run, measured_right, measured_operand, prefixed_run, cast_type_run, cast_made}
use Rattle.jc_parse_expr.proofs.CodeFacts.{rest_within}
use Rattle.jc_parse_expr.proofs.RungSteps.{expr_alone, expr_assigns}
use Rattle.jc_parse_expr.proofs.LevelCode.{assigned_found, assigned_stops}
use Rattle.jc_parse_expr.proofs.OperandCode.{operand_found, operand_stops}
use Rattle.jc_parse_expr.proofs.PrefixCode.{prefixed_found, prefixed_stops}
use Rattle.jc_parse_expr.proofs.CastCode.{cast_found, cast_stops}

pub found_same : {A : Type 0} (m : Read A) (a b : A) (q r : List Token) (l k : ℕ) → m ≡ reading.Found a q l → b ≡ a → r ≡ q → k ≡ l → m ≡ reading.Found b r k
found_same m a b q r l k e f g h = e ∙ ap (λ x. reading.Found x q l) (sym f) ∙ ap (λ x. reading.Found b x l) (sym g) ∙ ap (λ x. reading.Found b r x) (sym h)

pub wants : {A : Type 0} (m : Read A) (halt : Halt) → halt ≡ halt_of.WantOfMemory → Halts halt m
wants m halt e = subst (λ (h : Halt). Halts h m) (sym e) tt

pub stops : {A : Type 0} (m : Read A) (halt : Halt) (l : ℕ) → halt ≡ halt_of.Stopped l → m ≡ reading.Stopped l → Halts halt m
stops m halt l e f = subst (λ (h : Halt). Halts h m) (sym e) f

abbrev M : Type 0
M = Measured Expr

module _ (h : ℕ) (ts : List Token) where
  pub expr_gives : (v : Found M) (more : Result (Found (AssignOp × M)) Halt) (result : Result (Found M) Halt) → Is v (becoming measured ((levels_at h).conditional ts)) → v.value.height < h → h < 2 ^ 32 → nat_le post_level (expr_shape v.value.tree).level ≡ true → Gives more (becoming measured_right (in_turn assign_run (levels_at (h - 1)).expr v.rest.now)) → After assign_right v more result → Gives result (becoming measured ((levels_at h).expr ts))
  expr_gives v (Ok p) (Ok r) e g w t m b =
      found_same _ (assign_right v.value p.value) r.value p.rest.now r.rest.now (min v.left p.left) r.left (expr_assigns h ts v.value v.rest.now v.left p.left p.value.0 p.value.1 (assign_right v.value p.value) p.rest.now e g w t m refl) b.0 b.1 b.2
  expr_gives v (Ok p) (Err halt) e g w t m b = wants _ halt b
  expr_gives v (Err (halt_of.Stopped l)) (Ok r) e g w t m b =
      found_same _ v.value r.value v.rest.now r.rest.now (min v.left l) r.left (expr_alone h ts v.value v.rest.now v.left l e g w t m) b.0 b.1 b.2
  expr_gives v (Err (halt_of.Stopped l)) (Err halt) e g w t m b = absurd b
  expr_gives v (Err halt_of.WantOfMemory) (Ok r) e g w t m b = absurd b
  expr_gives v (Err halt_of.WantOfMemory) (Err halt) e g w t m b = wants _ halt b

  pub assigned_gives : (op : Found AssignOp) (more : Result (Found M) Halt) (result : Result (Found (AssignOp × M)) Halt) → Is op (assign_run ts) → Gives more (becoming measured ((levels_at h).expr op.rest.now)) → Joined pair_of op more result → Gives result (becoming measured_right (in_turn assign_run (levels_at h).expr ts))
  assigned_gives op (Ok p) (Ok r) e m b =
      found_same _ (op.value, p.value) r.value p.rest.now r.rest.now (min op.left p.left) r.left (assigned_found h ts op.rest.now p.rest.now op.value p.value op.left p.left e m) b.0 b.1 b.2
  assigned_gives op (Ok p) (Err halt) e m b = wants _ halt b
  assigned_gives op (Err (halt_of.Stopped l)) (Ok r) e m b = absurd b
  assigned_gives op (Err (halt_of.Stopped l)) (Err halt) e m b = stops _ halt (min op.left l) b (assigned_stops h ts op.rest.now op.value op.left l e m)
  assigned_gives op (Err halt_of.WantOfMemory) (Ok r) e m b = absurd b
  assigned_gives op (Err halt_of.WantOfMemory) (Err halt) e m b = wants _ halt b

  pub cast_gives : (at : ℕ) (q : List Token) (ty : Found TypeTree) (more : Result (Found M) Halt) (result : Result (Found M) Halt) → at_kind (sign_code sign_of.LeftParen) ts ≡ found at q → Is ty (cast_type_run h q) → Gives more (becoming measured (operand_for (is_primitive ty.value) (levels_at h).unary (levels_at h).plain ty.rest.now)) → Joined (cast_node at) ty more result → Gives result (becoming measured (becoming cast_made (cast_run h (levels_at h).unary (levels_at h).plain ts)))
  cast_gives at q ty (Ok p) (Ok r) f e m b =
      found_same _ (cast_node at ty.value p.value) r.value p.rest.now r.rest.now (min ty.left p.left) r.left (cast_found h at ts q ty.rest.now p.rest.now ty.value p.value (cast_node at ty.value p.value) ty.left p.left f e m refl) b.0 b.1 b.2
  cast_gives at q ty (Ok p) (Err halt) f e m b = wants _ halt b
  cast_gives at q ty (Err (halt_of.Stopped l)) (Ok r) f e m b = absurd b
  cast_gives at q ty (Err (halt_of.Stopped l)) (Err halt) f e m b = stops _ halt (min ty.left l) b (cast_stops h at ts q ty.rest.now ty.value ty.left l f e m)
  cast_gives at q ty (Err halt_of.WantOfMemory) (Ok r) f e m b = absurd b
  cast_gives at q ty (Err halt_of.WantOfMemory) (Err halt) f e m b = wants _ halt b

pub operand_gives : (level : Level) (next : List Token → Read Expr) (ts : List Token) (op : Found BinaryOp) (more : Result (Found M) Halt) (result : Result (Found (Measured Operand)) Halt) → Is op (operator_run level ts) → Gives more (becoming measured (next op.rest.now)) → Joined binary_node op more result → Gives result (becoming measured_operand (operand_run level next ts))
operand_gives level next ts op (Ok p) (Ok r) e m b =
    found_same _ (binary_node op.value p.value) r.value p.rest.now r.rest.now (min op.left p.left) r.left (operand_found level next ts op.rest.now p.rest.now op.value p.value (binary_node op.value p.value) op.left p.left e m refl) b.0 b.1 b.2
operand_gives level next ts op (Ok p) (Err halt) e m b = wants _ halt b
operand_gives level next ts op (Err (halt_of.Stopped l)) (Ok r) e m b = absurd b
operand_gives level next ts op (Err (halt_of.Stopped l)) (Err halt) e m b = stops _ halt (min op.left l) b (operand_stops level next ts op.rest.now op.value op.left l e m)
operand_gives level next ts op (Err halt_of.WantOfMemory) (Ok r) e m b = absurd b
operand_gives level next ts op (Err halt_of.WantOfMemory) (Err halt) e m b = wants _ halt b

ops_far : (ts : List Token) (ops : Found (List PrefixOp)) → Is ops (any_number prefix_op_run ts) → ops.left ≤ length ts
ops_far ts ops e =
    let n = rest_within (length ts) (any_number prefix_op_run ts) ops.value ops.rest.now ops.left (near_any prefix_op_run (near_picking picks_prefix) ts) e in
    omega (arith, n.0, n.1)

pub prefixed_gives : (first : PrefixOp) (bare : List Token → Read Expr) (ts : List Token) (ops : Found (List PrefixOp)) (more : Result (Found M) Halt) (result : Result (Found M) Halt) → Is ops (any_number prefix_op_run ts) → Gives more (becoming measured (bare ops.rest.now)) → Joined (prefix_node first) ops more result → Gives result (becoming measured (prefixed_run first bare ts))
prefixed_gives first bare ts ops (Ok p) (Ok r) e m b =
    let n = ops_far ts ops e in
    let far : min ops.left p.left ≡ min (length ts) (min ops.left p.left) = omega (arith, n) in
    found_same _ (prefix_node first ops.value p.value) r.value p.rest.now r.rest.now (min (length ts) (min ops.left p.left)) r.left (prefixed_found first bare ts ops.rest.now p.rest.now ops.value p.value (prefix_node first ops.value p.value) ops.left p.left e m refl) b.0 b.1 (b.2 ∙ far)
prefixed_gives first bare ts ops (Ok p) (Err halt) e m b = wants _ halt b
prefixed_gives first bare ts ops (Err (halt_of.Stopped l)) (Ok r) e m b = absurd b
prefixed_gives first bare ts ops (Err (halt_of.Stopped l)) (Err halt) e m b =
    let n = ops_far ts ops e in
    let far : min ops.left l ≡ min (length ts) (min ops.left l) = omega (arith, n) in
    stops _ halt (min (length ts) (min ops.left l)) (b ∙ ap (λ (k : ℕ). halt_of.Stopped k) far) (prefixed_stops first bare ts ops.rest.now ops.value ops.left l e m)
prefixed_gives first bare ts ops (Err halt_of.WantOfMemory) (Ok r) e m b = absurd b
prefixed_gives first bare ts ops (Err halt_of.WantOfMemory) (Err halt) e m b = wants _ halt b
