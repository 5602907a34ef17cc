-- What is read without its height.
use Rattle.std.proofs.Common.{◌≡◌, ℕ, ◌≤◌, true, List, length, sym, subst}
use Rattle.jc_lexer.specs.declared.token.Token.{Token}
use Rattle.jc_tree.specs.declared.expression.PrefixOp.{PrefixOp}
use Rattle.jc_tree.specs.declared.expression.Expr.{Expr}
use Rattle.jc_tree.specs.Heights.{expr_height}
use Rattle.jc_reading.specs.declared.reading.Halt.{Halt}
use Rattle.jc_reading.specs.Giving.{Halts}
use Rattle.jc_reading.specs.Kinds.{one_of}
use Rattle.jc_reading.specs.Reading.{Read, Found, Run, becoming, found}
use Rattle.jc_parse_expr.specs.declared.measured.Measured.{Measured}
use Rattle.jc_parse_expr.specs.Measuring.{measured}
use Rattle.jc_expr_laws.specs.EffectReading.{crement_codes, crement_op_run, strict_effect_run}
use Rattle.jc_parse_expr.specs.BinaryLevels.{post_at, prefixed_run}
use Rattle.jc_parse_expr.proofs.MeasuredRead.{measured_found, measured_halts}
use Rattle.jc_parse_expr.proofs.EffectCode.{effect_prefix}
use Rattle.jc_parse_expr.proofs.CodeFacts.{within_post}
use Rattle.jc_parse_expr.proofs.LoopSteps.{measured_rest}

pub plain_halts : (m : Read Expr) (e : Halt) → Halts e (becoming measured m) → Halts e m
plain_halts m e h = measured_halts expr_height m e h

pub plain_found : (m : Read Expr) (v : Measured Expr) (r : List Token) (l : ℕ) → becoming measured m ≡ Found v r l → m ≡ Found v.tree r l
plain_found m v r l e = (measured_found expr_height m v r l e).0

pub effect_prefix_halts : (bare post expr : Run Expr) (ts q : List Token) (op : PrefixOp) (e : Halt) → one_of crement_codes ts ≡ true → crement_op_run ts ≡ found op q → Halts e (becoming measured (prefixed_run op bare q)) → Halts e (strict_effect_run bare post expr ts)
effect_prefix_halts bare post expr ts q op e f g h = subst (λ (m : Read Expr). Halts e m) (sym (effect_prefix bare post expr ts q op f g)) (plain_halts (prefixed_run op bare q) e h)

pub effect_prefix_found : (bare post expr : Run Expr) (ts q : List Token) (op : PrefixOp) (v : Measured Expr) (r : List Token) (l : ℕ) → one_of crement_codes ts ≡ true → crement_op_run ts ≡ found op q → becoming measured (prefixed_run op bare q) ≡ Found v r l → strict_effect_run bare post expr ts ≡ Found v.tree r l
effect_prefix_found bare post expr ts q op v r l f g h = subst (λ (m : Read Expr). m ≡ Found v.tree r l) (sym (effect_prefix bare post expr ts q op f g)) (plain_found (prefixed_run op bare q) v r l h)

pub post_rest : (h : ℕ) (ts : List Token) (v : Measured Expr) (r : List Token) (l : ℕ) → becoming measured (post_at h ts) ≡ Found v r l → length r ≤ length ts
post_rest h ts v r l e = measured_rest (length ts) (post_at h ts) v r l (within_post h ts) e
