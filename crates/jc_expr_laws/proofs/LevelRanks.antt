-- The operators of the binary levels, but for the one of `<` and `instanceof`.
use Rattle.std.proofs.Common.{◌≡◌, ℕ, suc, ◌+◌, ◌≤◌, Bool, true, false, [], ◌∷◌, refl, sym, ◌∙◌, subst, arith}
use Rattle.std.proofs.lemmas.Bool.{false≢true, and_parts}
use Rattle.std.specs.Prelude.{◌&&◌, ◌||◌, nat_le, not, ◌==◌}
use Rattle.jc_lexer.specs.declared.token.Sign.TheVariants as sign_of
use Rattle.jc_tree.specs.declared.expression.BinaryOp.{BinaryOp}
use Rattle.jc_tree.specs.declared.expression.BinaryOp.TheVariants as binary_of
use Rattle.jc_tree.specs.declared.expression.Expr.{Expr}
use Rattle.jc_tree.specs.Heights.{expr_height}
use Rattle.jc_grammar.specs.Expressions.{expr_tokens}
use Rattle.jc_grammar.specs.Shapes.{stands, expr_shape, binary_level, is_none}
use Rattle.jc_grammar.proofs.Stands.{stands_looser}
use Rattle.jc_reading.specs.Kinds.{sign_code}
use Rattle.jc_expr_laws.specs.LevelReading.{is_tall, or_else_run, and_also_run, or_run, xor_run, and_run, equal_run, shift_run, plus_run, times_run}
use Rattle.jc_expr_laws.proofs.LevelOps.{or_else_laws, and_also_laws, or_laws, xor_laws, and_laws, equal_laws, shift_laws, plus_laws, times_laws, or_else_ops, and_also_ops, or_ops, xor_ops, and_ops, equal_ops, shift_ops, plus_ops, times_ops, has_or_else, has_and_also, has_or, has_xor, has_and, has_equal, has_shift, has_plus, has_times}
use Rattle.jc_expr_laws.proofs.LevelLasts.{ends_open, Silent, expr_silent}
use Rattle.jc_expr_laws.proofs.LevelFlat.{Flat, flat_expr, flat_list, flat_anywhere, is_flat, flat_tail, real_tail}
use Rattle.jc_expr_laws.proofs.LevelShapes.{operands_fit}
use Rattle.jc_expr_laws.proofs.LevelChains.{Ranked, Tells}

pub or_else_rank : Ranked 2 or_else_run or_else_ops
or_else_rank = record { lo = omega arith; hi = omega arith; other = refl; starts = sign_code sign_of.OrOr ∷ []; goes = []; laws = or_else_laws; all = has_or_else; met = refl }

pub and_also_rank : Ranked 3 and_also_run and_also_ops
and_also_rank = record { lo = omega arith; hi = omega arith; other = refl; starts = sign_code sign_of.AndAnd ∷ []; goes = []; laws = and_also_laws; all = has_and_also; met = refl }

pub or_rank : Ranked 4 or_run or_ops
or_rank = record { lo = omega arith; hi = omega arith; other = refl; starts = sign_code sign_of.Or ∷ []; goes = []; laws = or_laws; all = has_or; met = refl }

pub xor_rank : Ranked 5 xor_run xor_ops
xor_rank = record { lo = omega arith; hi = omega arith; other = refl; starts = sign_code sign_of.Caret ∷ []; goes = []; laws = xor_laws; all = has_xor; met = refl }

pub and_rank : Ranked 6 and_run and_ops
and_rank = record { lo = omega arith; hi = omega arith; other = refl; starts = sign_code sign_of.And ∷ []; goes = []; laws = and_laws; all = has_and; met = refl }

pub equal_rank : Ranked 7 equal_run equal_ops
equal_rank = record { lo = omega arith; hi = omega arith; other = refl; starts = sign_code sign_of.Equal ∷ sign_code sign_of.NotEqual ∷ []; goes = []; laws = equal_laws; all = has_equal; met = refl }

pub shift_rank : Ranked 9 shift_run shift_ops
shift_rank = record { lo = omega arith; hi = omega arith; other = refl; starts = sign_code sign_of.ShiftLeft ∷ sign_code sign_of.Greater ∷ []; goes = sign_code sign_of.Greater ∷ []; laws = shift_laws; all = has_shift; met = refl }

pub plus_rank : Ranked 10 plus_run plus_ops
plus_rank = record { lo = omega arith; hi = omega arith; other = refl; starts = sign_code sign_of.Plus ∷ sign_code sign_of.Minus ∷ []; goes = []; laws = plus_laws; all = has_plus; met = refl }

pub times_rank : Ranked 11 times_run times_ops
times_rank = record { lo = omega arith; hi = omega arith; other = refl; starts = sign_code sign_of.Star ∷ sign_code sign_of.Slash ∷ sign_code sign_of.Percent ∷ []; goes = []; laws = times_laws; all = has_times; met = refl }

-- what stands at the level of shifts or tighter ends with no `>`
pub tight_tells : (level h : ℕ) → 9 ≤ level → Tells level h
tight_tells level h nine p g =
    let a = and_parts (nat_le (expr_height p.0) (suc h) && stands (level + 1) (expr_shape p.0)) (operands_fit level h p.1 && (is_none p.1 || not (is_tall h p.0))) g in
    let first = and_parts (nat_le (expr_height p.0) (suc h)) (stands (level + 1) (expr_shape p.0)) a.0 in
    let list = and_parts (operands_fit level h p.1) (is_none p.1 || not (is_tall h p.0)) a.1 in
    flat_expr false p.0 (flat_tail p.1 []) (real_tail p.1 [])
    (subst (λ (c : Bool). Flat c (flat_tail p.1 []) (real_tail p.1 [])) (sym (quiet p.0 first.1 false))
    (flat_list (λ (q : BinaryOp × Expr). (binary_level q.0 == level) && (nat_le (expr_height q.1) h && stands (level + 1) (expr_shape q.1))) each_quiet p.1 list.0))
  where
    quiet : (e : Expr) → stands (level + 1) (expr_shape e) ≡ true → Silent (expr_tokens e [])
    quiet e s = expr_silent e (stands_looser 9 (level + 1) (expr_shape e) (omega (arith, nine)) s)

    each_quiet : (q : BinaryOp × Expr) → ((binary_level q.0 == level) && (nat_le (expr_height q.1) h && stands (level + 1) (expr_shape q.1))) ≡ true → Silent (expr_tokens q.1 [])
    each_quiet q f = quiet q.1 (and_parts (nat_le (expr_height q.1) h) (stands (level + 1) (expr_shape q.1)) (and_parts (binary_level q.0 == level) (nat_le (expr_height q.1) h && stands (level + 1) (expr_shape q.1)) f).1).1

flat_unless : (level : ℕ) → (8 == level) ≡ false → (9 == level) ≡ false → (op : BinaryOp) → (binary_level op == level) ≡ true → is_flat op ≡ true
flat_unless level e f binary_of.Greater g = absurd (false≢true (sym e ∙ g))
flat_unless level e f binary_of.GreaterEqual g = absurd (false≢true (sym e ∙ g))
flat_unless level e f binary_of.ShiftRight g = absurd (false≢true (sym f ∙ g))
flat_unless level e f binary_of.ShiftRightZero g = absurd (false≢true (sym f ∙ g))
flat_unless level e f _ g = refl

-- no operator of the level begins with a `>`
pub loose_tells : (level h : ℕ) → (8 == level) ≡ false → (9 == level) ≡ false → Tells level h
loose_tells level h e f p g =
    let a = and_parts (nat_le (expr_height p.0) (suc h) && stands (level + 1) (expr_shape p.0)) (operands_fit level h p.1 && (is_none p.1 || not (is_tall h p.0))) g in
    let list = and_parts (operands_fit level h p.1) (is_none p.1 || not (is_tall h p.0)) a.1 in
    flat_expr false p.0 (flat_tail p.1 []) (real_tail p.1 [])
    (flat_anywhere (λ (q : BinaryOp × Expr). (binary_level q.0 == level) && (nat_le (expr_height q.1) h && stands (level + 1) (expr_shape q.1)))
    (λ q t. flat_unless level e f q.0 (and_parts (binary_level q.0 == level) (nat_le (expr_height q.1) h && stands (level + 1) (expr_shape q.1)) t).0) p.1 list.0 (ends_open false (expr_tokens p.0 [])))
