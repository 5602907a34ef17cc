-- At a place beyond its nodes an arena has nothing.
use Rattle.std.proofs.Common.{◌≡◌, ℕ, zero, suc, ◌+◌, ◌≤◌, List, [], ◌∷◌, ◌++◌, length, refl, arith, length-append, slice_index_or, ap}
use Rattle.jc_typed.specs.declared.nodes.Node.{Node}
use Rattle.jc_typed.specs.Parts.{Part, OfStmts, part_in, part_of, part_over, parts, parts_on, nowhere, zero_constant, stmt_of, as_stmt, type_of, as_type, constant_of, as_constant, expr_of, expr_at, as_expr, operand_of, operand_at, as_operand, variable_of, variable_at, as_variable, operands_of, operands_at, as_operands, stmts_of, stmts_at, as_stmts, types_of, types_at, as_types, steps_of, steps_at, as_steps, captures_of, captures_at, as_captures, ops_of, ops_at, as_ops, cases_of, cases_at, as_cases, links_of, links_at, as_links, declared_of, declared_at, as_declared, arms_of, arms_at, as_arms, catches_of, catches_at, as_catches}
use Rattle.jc_typed.specs.Trees.{NoStmts, stmt, Empty}
use Rattle.jc_types.specs.declared.form.Ty.TheVariants.{NullTy}
use Rattle.jc_typed.specs.declared.expressions.ExprNode.TheVariants as e
use Rattle.jc_typed.specs.declared.expressions.OperandNode.TheVariants as o
use Rattle.jc_typed.specs.declared.expressions.VariableNode.TheVariants as v
use Rattle.jc_typed.specs.declared.lists.ListNode.TheVariants as l
use Rattle.jc_typed.specs.declared.lists.StepsNode.TheVariants as st
use Rattle.jc_typed.specs.declared.lists.CapturesNode.TheVariants as ca
use Rattle.jc_typed.specs.declared.lists.OpsNode.TheVariants as op
use Rattle.jc_typed.specs.declared.lists.CasesNode.TheVariants as cs
use Rattle.jc_typed.specs.declared.lists.LinksNode.TheVariants as li
use Rattle.jc_typed.specs.declared.lists.DeclaredNode.TheVariants as d
use Rattle.jc_typed.specs.declared.lists.ArmsNode.TheVariants as ar
use Rattle.jc_typed.specs.declared.lists.CatchesNode.TheVariants as ct

length_on : (ps : List Part) (ns : List Node) → length (parts_on ps ns) ≡ length ps + length ns
length_on ps [] = omega arith
length_on ps (n ∷ ns) =
    let more : length (ps ++ part_over ps n ∷ []) ≡ length ps + 1 = length-append ps (part_over ps n ∷ []) in
    let rest : length (parts_on (ps ++ part_over ps n ∷ []) ns) ≡ length (ps ++ part_over ps n ∷ []) + length ns = length_on (ps ++ part_over ps n ∷ []) ns in
    omega arith

past : (ps : List Part) (i : ℕ) (d : Part) → length ps ≤ i → slice_index_or ps i d ≡ d
past [] i d h = refl
past (p ∷ ps) zero d h = absurd (omega arith)
past (p ∷ ps) (suc i) d h = past ps i d (omega arith)

pub beyond : (ns : List Node) (i : ℕ) → length ns ≤ i → part_of ns i ≡ OfStmts NoStmts
unfolding parts part_in
beyond ns i h =
    let long : length (parts_on [] ns) ≡ length ns = omega (arith, length_on [] ns) in
    past (parts_on [] ns) i (OfStmts NoStmts) (omega arith)

pub no_expr : (ns : List Node) (i : ℕ) → length ns ≤ i → expr_of ns i ≡ expr_at ns (e.Missing)
no_expr ns i h = ap as_expr (beyond ns i h)

pub no_operand : (ns : List Node) (i : ℕ) → length ns ≤ i → operand_of ns i ≡ operand_at ns (o.Missing)
no_operand ns i h = ap as_operand (beyond ns i h)

pub no_variable : (ns : List Node) (i : ℕ) → length ns ≤ i → variable_of ns i ≡ variable_at ns (v.Local nowhere 0)
no_variable ns i h = ap as_variable (beyond ns i h)

pub no_operands : (ns : List Node) (i : ℕ) → length ns ≤ i → operands_of ns i ≡ operands_at ns (l.Empty)
no_operands ns i h = ap as_operands (beyond ns i h)

pub no_stmts : (ns : List Node) (i : ℕ) → length ns ≤ i → stmts_of ns i ≡ stmts_at ns (l.Empty)
no_stmts ns i h = ap as_stmts (beyond ns i h)

pub no_types : (ns : List Node) (i : ℕ) → length ns ≤ i → types_of ns i ≡ types_at ns (l.Empty)
no_types ns i h = ap as_types (beyond ns i h)

pub no_steps : (ns : List Node) (i : ℕ) → length ns ≤ i → steps_of ns i ≡ steps_at ns (st.Empty)
no_steps ns i h = ap as_steps (beyond ns i h)

pub no_captures : (ns : List Node) (i : ℕ) → length ns ≤ i → captures_of ns i ≡ captures_at ns (ca.Empty)
no_captures ns i h = ap as_captures (beyond ns i h)

pub no_ops : (ns : List Node) (i : ℕ) → length ns ≤ i → ops_of ns i ≡ ops_at ns (op.Empty)
no_ops ns i h = ap as_ops (beyond ns i h)

pub no_cases : (ns : List Node) (i : ℕ) → length ns ≤ i → cases_of ns i ≡ cases_at ns (cs.Empty)
no_cases ns i h = ap as_cases (beyond ns i h)

pub no_links : (ns : List Node) (i : ℕ) → length ns ≤ i → links_of ns i ≡ links_at ns (li.Empty)
no_links ns i h = ap as_links (beyond ns i h)

pub no_declared : (ns : List Node) (i : ℕ) → length ns ≤ i → declared_of ns i ≡ declared_at ns (d.Empty)
no_declared ns i h = ap as_declared (beyond ns i h)

pub no_arms : (ns : List Node) (i : ℕ) → length ns ≤ i → arms_of ns i ≡ arms_at ns (ar.Empty)
no_arms ns i h = ap as_arms (beyond ns i h)

pub no_catches : (ns : List Node) (i : ℕ) → length ns ≤ i → catches_of ns i ≡ catches_at ns (ct.Empty)
no_catches ns i h = ap as_catches (beyond ns i h)

pub no_stmt : (ns : List Node) (i : ℕ) → length ns ≤ i → stmt_of ns i ≡ stmt nowhere Empty
no_stmt ns i h = ap as_stmt (beyond ns i h)

pub no_type : (ns : List Node) (i : ℕ) → length ns ≤ i → type_of ns i ≡ NullTy
no_type ns i h = ap as_type (beyond ns i h)

pub no_constant : (ns : List Node) (i : ℕ) → length ns ≤ i → constant_of ns i ≡ zero_constant
no_constant ns i h = ap as_constant (beyond ns i h)

pub ruleset nothing = (no_expr, no_operand, no_variable, no_operands, no_stmts, no_types, no_steps, no_captures, no_ops, no_cases, no_links, no_declared, no_arms, no_catches, no_stmt, no_type, no_constant)
