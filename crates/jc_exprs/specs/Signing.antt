-- How a walk goes from the last of prefix operators to the first (JLS 15.15).
use Rattle.std.specs.Prelude.{ℕ, zero, suc, List}
use Rattle.jc_tree.specs.declared.expression.Expr.{Expr}
use Rattle.jc_tree.specs.declared.expression.PrefixOp.{PrefixOp}
use Rattle.jc_exprs_nodes_spec.specs.Told.{Ran, Run}
use Rattle.jc_exprs_parts_spec.specs.Chains.{Signed}
use Rattle.jc_exprs_parts_spec.specs.Worlds.{World, at}
use Rattle.jc_exprs_spec.specs.Typing.{ahead_by}
use Rattle.jc_exprs_forms.specs.Forms.{ahead_in}
use Rattle.jc_exprs_forms.specs.Walking.{op_at, signed_by}

-- an operator that stands at the operand
unfoldable pub last_signs : World → PrefixOp → Expr → Run Signed
last_signs W q e = (ahead_by W (at W q.at) q.sign (ahead_in W q.sign e)).signs

-- the first i operators, before those behind them
abbrev pub signed_walk : World → PrefixOp → List PrefixOp → ℕ → Ran Signed → Ran Signed
signed_walk W p more zero r = r
signed_walk W p more (suc i) r = signed_walk W p more i (signed_by W (at W (op_at p more i).at) (op_at p more i).sign r)
