-- Level after level of binary operators, the tightest first: a level whose operators cannot begin behind an operand adds nothing to it.
use Rattle.std.proofs.Common.{◌≡◌, ℕ, ◌-◌, ◌<◌, ◌≤◌, ◌^◌, min, false, ◌||◌, map, List, [], ◌∷◌, length, Result, Ok, Err, refl, ap, ◌∙◌, ⊎_elim, arith}
use Rattle.std.specs.Prelude.{IfOk}
use Rattle.std.proofs.lemmas.Bool.{cases_lt, or_parts}
use Rattle.jc_lexer.specs.declared.token.Key.TheVariants as key_of
use Rattle.jc_lexer.specs.declared.token.Sign.TheVariants as sign_of
use Rattle.jc_lexer.specs.declared.token.Token.{Token}
use Rattle.jc_tree.specs.declared.expression.Expr.{Expr}
use Rattle.jc_tree.specs.declared.expression.Operand.{Operand}
use Rattle.jc_reading.specs.declared.reading.Found as its
use Rattle.jc_reading.specs.declared.reading.Halt.{Halt}
use Rattle.jc_reading.specs.Giving.{Halts, Is}
use Rattle.jc_reading.specs.Kinds.{key_code, one_of, sign_code}
use Rattle.jc_reading.specs.Reading.{Read, Found, Stopped, Run, found, becoming, either, in_turn, of_kind}
use Rattle.jc_reading.specs.Further.{preferring}
use Rattle.jc_reading.specs.Growing.{one_then}
use Rattle.jc_parse_type.specs.TypeReading.{type_run}
use Rattle.jc_expr_laws.specs.CompareReading.{Comparison, behind_part, compared_operand, comparisons_run, links, next_comparison_run, touched_before}
use Rattle.jc_expr_laws.specs.LevelReading.{and_also_op, and_also_run, and_op, and_run, equal_op, equal_run, less_op, less_run, operand_made, or_else_op, or_else_run, or_op, or_run, plus_op, plus_run, shift_op, shift_run, times_op, times_run, touching_run, xor_op, xor_run}
use Rattle.jc_parse_expr.specs.declared.measured.Measured.{Measured}
use Rattle.jc_parse_expr.specs.declared.operators.Level.{Level}
use Rattle.jc_parse_expr.specs.declared.operators.Level.TheVariants as level_of
use Rattle.jc_parse_expr.specs.After.{Both}
use Rattle.jc_parse_expr.specs.BinaryLevels.{level_run, levels_at, may_operate, operand_run, operands_run, operator_run, tighter_run}
use Rattle.jc_parse_expr.specs.Measuring.{measured, measured_operands}
use Rattle.jc_parse_expr.specs.Nodes.{chain_node}
use Rattle.jc_parse_expr.proofs.BinarySteps.{binary_chain, binary_halts, binary_tall}
use Rattle.jc_parse_expr.proofs.CodeFacts.{rest_within, within_tighter}
use Rattle.jc_parse_expr.proofs.JoinedSteps.{found_same}
use Rattle.jc_parse_expr.proofs.MeasuredRead.{measured_found}
use Rattle.jc_parse_expr.proofs.PairSteps.{pair_first}
use Rattle.jc_parse_expr.proofs.Quiets.{any_quiet, either_quiet, kind_quiet, prefer_quiet, touching_quiet}
use Rattle.jc_tree.specs.Heights.{expr_height}

-- the operators

pub operator_quiet : (level : Level) (ts : List Token) → may_operate level ts ≡ false → operator_run level ts ≡ Stopped (length ts)
unfolding or_else_run and_also_run or_run xor_run and_run equal_run less_run shift_run plus_run times_run
operator_quiet level_of.OrElse ts e = ap (becoming or_else_op) (kind_quiet (sign_code sign_of.OrOr) ts e)
operator_quiet level_of.AndAlso ts e = ap (becoming and_also_op) (kind_quiet (sign_code sign_of.AndAnd) ts e)
operator_quiet level_of.Or ts e = ap (becoming or_op) (kind_quiet (sign_code sign_of.Or) ts e)
operator_quiet level_of.Xor ts e = ap (becoming xor_op) (kind_quiet (sign_code sign_of.Caret) ts e)
operator_quiet level_of.And ts e = ap (becoming and_op) (kind_quiet (sign_code sign_of.And) ts e)
operator_quiet level_of.Equal ts e =
    let p = or_parts (one_of (sign_code sign_of.Equal ∷ []) ts) (one_of (sign_code sign_of.NotEqual ∷ []) ts) e in
    ap (becoming equal_op) (either_quiet (sign_code sign_of.Equal) (of_kind (sign_code sign_of.Equal)) (of_kind (sign_code sign_of.NotEqual)) ts p.0 (kind_quiet (sign_code sign_of.NotEqual) ts p.1))
operator_quiet level_of.Compared ts e =
    let less = one_of (sign_code sign_of.Less ∷ []) ts in
    let equal = one_of (sign_code sign_of.LessEqual ∷ []) ts in
    let greater = one_of (sign_code sign_of.Greater ∷ []) ts in
    let p = or_parts (less || equal || greater) (one_of (key_code key_of.Instanceof ∷ []) ts) e in
    let q = or_parts (less || equal) greater p.0 in
    let r = or_parts less equal q.0 in
    let last = in_turn touching_run (of_kind (sign_code sign_of.Assign)) in
    let far = prefer_quiet last (of_kind (sign_code sign_of.Greater)) ts (pair_first touching_run (of_kind (sign_code sign_of.Assign)) ts (length ts) (touching_quiet ts q.1)) (kind_quiet (sign_code sign_of.Greater) ts q.1) in
    let more = preferring last (of_kind (sign_code sign_of.Greater)) in
    ap (becoming less_op) (either_quiet (sign_code sign_of.Less) (of_kind (sign_code sign_of.Less)) (either (sign_code sign_of.LessEqual ∷ []) (of_kind (sign_code sign_of.LessEqual)) more) ts r.0 (either_quiet (sign_code sign_of.LessEqual) (of_kind (sign_code sign_of.LessEqual)) more ts r.1 far))
operator_quiet level_of.Shift ts e =
    let p = or_parts (one_of (sign_code sign_of.ShiftLeft ∷ []) ts) (one_of (sign_code sign_of.Greater ∷ []) ts) e in
    let more = preferring (in_turn touching_run (of_kind (sign_code sign_of.Greater))) (of_kind (sign_code sign_of.Greater)) in
    ap (becoming shift_op) (either_quiet (sign_code sign_of.ShiftLeft) (of_kind (sign_code sign_of.ShiftLeft)) (in_turn touching_run more) ts p.0 (pair_first touching_run more ts (length ts) (touching_quiet ts p.1)))
operator_quiet level_of.Plus ts e =
    let p = or_parts (one_of (sign_code sign_of.Plus ∷ []) ts) (one_of (sign_code sign_of.Minus ∷ []) ts) e in
    ap (becoming plus_op) (either_quiet (sign_code sign_of.Plus) (of_kind (sign_code sign_of.Plus)) (of_kind (sign_code sign_of.Minus)) ts p.0 (kind_quiet (sign_code sign_of.Minus) ts p.1))
operator_quiet level_of.Times ts e =
    let p = or_parts (one_of (sign_code sign_of.Star ∷ []) ts || one_of (sign_code sign_of.Slash ∷ []) ts) (one_of (sign_code sign_of.Percent ∷ []) ts) e in
    let q = or_parts (one_of (sign_code sign_of.Star ∷ []) ts) (one_of (sign_code sign_of.Slash ∷ []) ts) p.0 in
    let more = either (sign_code sign_of.Slash ∷ []) (of_kind (sign_code sign_of.Slash)) (of_kind (sign_code sign_of.Percent)) in
    ap (becoming times_op) (either_quiet (sign_code sign_of.Star) (of_kind (sign_code sign_of.Star)) more ts q.0 (either_quiet (sign_code sign_of.Slash) (of_kind (sign_code sign_of.Slash)) (of_kind (sign_code sign_of.Percent)) ts q.1 (kind_quiet (sign_code sign_of.Percent) ts p.1)))

operand_quiet : (level : Level) (next : Run Expr) (ts : List Token) → may_operate level ts ≡ false → operand_run level next ts ≡ Stopped (length ts)
operand_quiet level next ts e = ap (becoming operand_made) (pair_first (operator_run level) next ts (length ts) (operator_quiet level ts e))

comparison_quiet : (h : ℕ) (next : Run Expr) (ts : List Token) → may_operate level_of.Compared ts ≡ false → next_comparison_run h next false false ts ≡ Stopped (length ts)
comparison_quiet h next ts e =
    let p = or_parts (one_of (sign_code sign_of.Less ∷ []) ts || one_of (sign_code sign_of.LessEqual ∷ []) ts || one_of (sign_code sign_of.Greater ∷ []) ts) (one_of (key_code key_of.Instanceof ∷ []) ts) e in
    either_quiet (key_code key_of.Instanceof) (in_turn (of_kind (key_code key_of.Instanceof)) (type_run h)) (in_turn less_run next) ts p.1 (pair_first less_run next ts (length ts) (operator_quiet level_of.Compared ts e))

comparisons_quiet : (h : ℕ) (next : Run Expr) (ts : List Token) → may_operate level_of.Compared ts ≡ false → comparisons_run h next ts ≡ found [] ts
unfolding comparisons_run links
comparisons_quiet h next [] e = refl
comparisons_quiet h next (t ∷ q) e =
    ap (λ (v : Read Comparison). one_then (t ∷ q) v (λ p r. links (length q) behind_part (next_comparison_run h next) (behind_part false p) (touched_before (t ∷ q) (length r)) r)) (comparison_quiet h next (t ∷ q) e)

operands_quiet : (level : Level) (h : ℕ) (next : Run Expr) (ts : List Token) → may_operate level ts ≡ false → operands_run level h next ts ≡ found [] ts
operands_quiet level_of.OrElse h next ts e = any_quiet (operand_run level_of.OrElse next) ts (operand_quiet level_of.OrElse next ts e)
operands_quiet level_of.AndAlso h next ts e = any_quiet (operand_run level_of.AndAlso next) ts (operand_quiet level_of.AndAlso next ts e)
operands_quiet level_of.Or h next ts e = any_quiet (operand_run level_of.Or next) ts (operand_quiet level_of.Or next ts e)
operands_quiet level_of.Xor h next ts e = any_quiet (operand_run level_of.Xor next) ts (operand_quiet level_of.Xor next ts e)
operands_quiet level_of.And h next ts e = any_quiet (operand_run level_of.And next) ts (operand_quiet level_of.And next ts e)
operands_quiet level_of.Equal h next ts e = any_quiet (operand_run level_of.Equal next) ts (operand_quiet level_of.Equal next ts e)
operands_quiet level_of.Compared h next ts e = ap (becoming (map compared_operand)) (comparisons_quiet h next ts e)
operands_quiet level_of.Shift h next ts e = any_quiet (operand_run level_of.Shift next) ts (operand_quiet level_of.Shift next ts e)
operands_quiet level_of.Plus h next ts e = any_quiet (operand_run level_of.Plus next) ts (operand_quiet level_of.Plus next ts e)
operands_quiet level_of.Times h next ts e = any_quiet (operand_run level_of.Times next) ts (operand_quiet level_of.Times next ts e)

-- a level

abbrev M : Type 0
M = Measured Expr

module _ (level : Level) (h : ℕ) (ts : List Token) where
  abbrev Operand_read : M → List Token → ℕ → Type 0
  Operand_read v r l = becoming measured (tighter_run level (levels_at h) ts) ≡ Found v r l

  pub level_quiet : (v : M) (r : List Token) (l : ℕ) → Operand_read v r l → h < 2 ^ 32 → may_operate level r ≡ false → becoming measured (level_run level (levels_at h) ts) ≡ Found v r l
  level_quiet v r l e wide f =
      let far : l ≤ length r = (rest_within (length ts) (tighter_run level (levels_at h) ts) v.tree r l (within_tighter level h ts) (measured_found expr_height (tighter_run level (levels_at h) ts) v r l e).0).0 in
      ⊎_elim (λ (lt : v.height < h). binary_chain level h ts v r l (length r) (record { tree = []; height = 0 }) v r e lt wide (ap (becoming measured_operands) (operands_quiet level (h - 1) (tighter_run level (levels_at (h - 1))) r f)) refl
      ∙ (let i : min l (length r) ≡ l = omega (arith, far) in ap (λ (k : ℕ). Found v r k) i))
      (λ (le : h ≤ v.height). binary_tall level h ts v r l e le) (cases_lt v.height h)

  pub level_chained : (v : its.Found M) (more : its.Found (Measured (List Operand))) (r : its.Found M) → Is v (becoming measured (tighter_run level (levels_at h) ts)) → v.value.height < h → h < 2 ^ 32 → Is more (becoming measured_operands (operands_run level (h - 1) (tighter_run level (levels_at (h - 1))) v.rest.now)) → Both chain_node v more r
      → Is r (becoming measured (level_run level (levels_at h) ts))
  level_chained v p r e g w m b =
      found_same _ (chain_node v.value p.value) r.value p.rest.now r.rest.now (min v.left p.left) r.left (binary_chain level h ts v.value v.rest.now v.left p.left p.value (chain_node v.value p.value) p.rest.now e g w m refl) b.0 b.1 b.2

pub chain_answers : {E : Type 0} (level : Level) (h : ℕ) (v : its.Found M) (more : its.Found (Measured (List Operand))) (result : Result (its.Found M) E) → v.value.height < h → h < 2 ^ 32 → Is more (becoming measured_operands (operands_run level (h - 1) (tighter_run level (levels_at (h - 1))) v.rest.now)) → IfOk result (λ r. Both chain_node v more r)
    → IfOk result (λ f. (ts : List Token) → Is v (becoming measured (tighter_run level (levels_at h) ts)) → Is f (becoming measured (level_run level (levels_at h) ts)))
chain_answers level h v more (Ok r) g w m b = λ ts e. level_chained level h ts v more r e g w m b
chain_answers level h v more (Err fault) g w m b = tt

-- what halts the operand halts each level

module _ (h : ℕ) (ts : List Token) (e : Halt) (stop : Halts e (becoming measured ((levels_at h).unary ts))) where
  times_halts : Halts e (becoming measured ((levels_at h).times ts))
  times_halts = binary_halts level_of.Times h ts e stop

  plus_halts : Halts e (becoming measured ((levels_at h).plus ts))
  plus_halts = binary_halts level_of.Plus h ts e times_halts

  shift_halts : Halts e (becoming measured ((levels_at h).shift ts))
  shift_halts = binary_halts level_of.Shift h ts e plus_halts

  compared_halts : Halts e (becoming measured ((levels_at h).compared ts))
  compared_halts = binary_halts level_of.Compared h ts e shift_halts

  equal_halts : Halts e (becoming measured ((levels_at h).equal ts))
  equal_halts = binary_halts level_of.Equal h ts e compared_halts

  and_halts : Halts e (becoming measured ((levels_at h).bit_and ts))
  and_halts = binary_halts level_of.And h ts e equal_halts

  xor_halts : Halts e (becoming measured ((levels_at h).bit_xor ts))
  xor_halts = binary_halts level_of.Xor h ts e and_halts

  or_halts : Halts e (becoming measured ((levels_at h).bit_or ts))
  or_halts = binary_halts level_of.Or h ts e xor_halts

  and_also_halts : Halts e (becoming measured ((levels_at h).and_also ts))
  and_also_halts = binary_halts level_of.AndAlso h ts e or_halts

  pub levels_halt : (level : Level) → Halts e (becoming measured (level_run level (levels_at h) ts))
  levels_halt level_of.OrElse = binary_halts level_of.OrElse h ts e and_also_halts
  levels_halt level_of.AndAlso = and_also_halts
  levels_halt level_of.Or = or_halts
  levels_halt level_of.Xor = xor_halts
  levels_halt level_of.And = and_halts
  levels_halt level_of.Equal = equal_halts
  levels_halt level_of.Compared = compared_halts
  levels_halt level_of.Shift = shift_halts
  levels_halt level_of.Plus = plus_halts
  levels_halt level_of.Times = times_halts

-- levels by how loose they are
