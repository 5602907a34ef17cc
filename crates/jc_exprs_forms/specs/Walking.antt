-- How a walk goes along a chain of binary operators, and along prefix operators.
use Rattle.std.specs.Prelude.{ℕ, zero, suc, List, [], ◌∷◌, Option, Some, None, length, slice_get}
use Rattle.jc_rules.specs.declared.rule.Place.{Place}
use Rattle.jc_tree.specs.declared.expression.Expr.{Expr}
use Rattle.jc_tree.specs.declared.expression.PrefixOp.{PrefixOp}
use Rattle.jc_tree.specs.declared.expression.PrefixSign.{PrefixSign}
use Rattle.jc_tree.specs.declared.expression.PrefixSign.TheVariants as sign
use Rattle.jc_tree.specs.declared.types.TypeArg.{TypeArg}
use Rattle.jc_types.specs.declared.constant.Op.TheVariants as op
use Rattle.jc_types.specs.declared.form.Ty.{Ty}
use Rattle.jc_exprs_nodes_spec.specs.Told.{Run, Ran, both, by_rule, every, fine, onward, ran}
use Rattle.jc_exprs_nodes_spec.specs.Gates.{gated, gated_two}
use Rattle.jc_exprs_nodes_spec.specs.Typeds.{Typed}
use Rattle.jc_exprs_nodes.specs.Laws.{span_of}
use Rattle.jc_exprs_parts_spec.specs.Chains.{Joined, Signed, Whole, joining, signed, signing, tested}
use Rattle.jc_exprs_parts_spec.specs.Worlds.{World, written}
use Rattle.jc_exprs_spec.specs.Calls.{asked, call_on, call_super}
use Rattle.jc_exprs_forms.specs.Forms.{meant, prefixing, typings}
use Rattle.jc_exprs_spec.specs.Typing.{Ahead, Further, Binary, InstanceOf}

-- ---- chains

-- an operator of a chain more
abbrev pub joined_step : World → Ran Joined → Further → Ran Joined
joined_step W r (Binary o m) =
    gated_two (joining W.table o) r.has (span_of (ran m r.state).has (length r.state.env) (length (ran m r.state).state.env)) (ran m r.state).state
joined_step W r (InstanceOf t) = gated (tested W.table (written W t)) r.has r.state

-- behind the first operand
abbrev pub joined_begun : Ran Typed → Ran Joined
joined_begun r = gated (λ t. fine (Whole t)) r.has r.state

abbrev pub joined_walk : World → Ran Joined → List Further → Ran Joined
joined_walk W r [] = r
joined_walk W r (f ∷ fs) = joined_walk W (joined_step W r f) fs

-- ---- prefix operators

-- an operator more before those behind it: only a variable is incremented (610)
abbrev pub signed_by : World → Place → PrefixSign → Ran Signed → Ran Signed
signed_by W place sign.Increment r = gated (λ s. by_rule {A = Signed} 610 (signed s).place) r.has r.state
signed_by W place sign.Decrement r = gated (λ s. by_rule {A = Signed} 610 (signed s).place) r.has r.state
signed_by W place sign.Plus r = gated (signing W.table place op.Positive) r.has r.state
signed_by W place sign.Minus r = gated (signing W.table place op.Negative) r.has r.state
signed_by W place sign.Not r = gated (signing W.table place op.Not) r.has r.state
signed_by W place sign.Complement r = gated (signing W.table place op.Complement) r.has r.state

-- the operator at a place, counted from the first
abbrev pub op_or : PrefixOp → Option PrefixOp → PrefixOp
op_or p None = p
op_or p (Some q) = q

abbrev pub op_at : PrefixOp → List PrefixOp → ℕ → PrefixOp
op_at p more zero = p
op_at p more (suc i) = op_or p (slice_get more i)

-- from a place on
abbrev pub prefixing_from : World → ℕ → PrefixOp → List PrefixOp → Expr → Ahead
prefixing_from W zero p more e = prefixing W p more e
prefixing_from W (suc i) p [] e = prefixing W p [] e
prefixing_from W (suc i) p (q ∷ qs) e = prefixing_from W i q qs e

-- ---- calls, for an expression that begins at a place

abbrev pub called_at : World → Expr → Place → List TypeArg → List ℕ → List Expr → Option Ty → Run Typed
called_at W of_it place type_args name actuals wanted =
    onward (both (onward (meant W of_it) (asked W)) (every (typings W actuals))) (λ p. call_on W place name type_args wanted p.0 p.1)

abbrev pub super_called_at : World → Place → List TypeArg → List ℕ → List Expr → Option Ty → Run Typed
super_called_at W place type_args name actuals wanted = onward (every (typings W actuals)) (λ ts. call_super W place name type_args wanted ts)
