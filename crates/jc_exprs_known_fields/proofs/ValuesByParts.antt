-- Constant expressions by their parts.
use Rattle.std.proofs.Common.{◌≡◌, ℕ, List, map, Option, Some, ap, ◌∙◌}
use Rattle.jc_rules.specs.declared.rule.Place.{Place}
use Rattle.jc_types.specs.declared.constant.Constant.{Constant}
use Rattle.jc_types.specs.declared.constant.ConstantExpr.TheVariants as expr
use Rattle.jc_types.specs.declared.constant.ConstantExpr.{ConstantExpr, ConstantExpr-F, fold_out-ConstantExpr, map-ConstantExpr, out-ConstantExpr}
use Rattle.jc_types.specs.declared.constant.ConstantPart.{ConstantPart, fold_out-ConstantPart, out-ConstantPart}
use Rattle.jc_types.specs.declared.constant.ConstantType.{ConstantType}
use Rattle.jc_types.specs.declared.constant.Op.{Op}
use Rattle.jc_exprs_parts_spec.specs.Constants.{Right, constant_step, right_step, valued}
use Rattle.jc_exprs_known_fields.specs.Rounds.{right_of}

module _ (names : List (List ℕ) → Option Constant) where
  abbrev stepped : ConstantExpr-F ConstantExpr ConstantPart → Option Constant
  stepped l = constant_step names (map-ConstantExpr ConstantExpr ConstantPart (Option Constant) Right (valued names) (right_of names) l)

  valued-out : (e : ConstantExpr) → valued names e ≡ stepped (out-ConstantExpr e)
  unfolding valued right_of
  valued-out e = fold_out-ConstantExpr (Option Constant) Right (constant_step names) right_step e

  valued-at : (e : ConstantExpr) (l : ConstantExpr-F ConstantExpr ConstantPart) → out-ConstantExpr e ≡ l → valued names e ≡ stepped l
  valued-at e l is = valued-out e ∙ ap stepped is

  pub valued-Literal : (c : Constant) → valued names (expr.Literal c) ≡ Some c
  valued-Literal c = valued-at (expr.Literal c) _ (expr.outs-Literal c)

  pub valued-Name : (place : Place) (parts : List (List ℕ)) → valued names (expr.Name place parts) ≡ names parts
  valued-Name place parts = valued-at (expr.Name place parts) _ (expr.outs-Name place parts)

  pub valued-Cast : (to : ConstantType) (of_it : ConstantExpr) → valued names (expr.Cast to of_it) ≡ constant_step names (ConstantExpr-F.Cast to (valued names of_it))
  valued-Cast to of_it = valued-at (expr.Cast to of_it) _ (expr.outs-Cast to of_it)

  pub valued-Prefix : (ops : List Op) (of_it : ConstantExpr) → valued names (expr.Prefix ops of_it) ≡ constant_step names (ConstantExpr-F.Prefix ops (valued names of_it))
  valued-Prefix ops of_it = valued-at (expr.Prefix ops of_it) _ (expr.outs-Prefix ops of_it)

  pub valued-Chain : (first : ConstantExpr) (rest : List ConstantPart) → valued names (expr.Chain first rest) ≡ constant_step names (ConstantExpr-F.Chain (valued names first) (map (right_of names) rest))
  valued-Chain first rest = valued-at (expr.Chain first rest) _ (expr.outs-Chain first rest)

  pub valued-Conditional : (test first second : ConstantExpr) → valued names (expr.Conditional test first second) ≡ constant_step names (ConstantExpr-F.Conditional (valued names test) (valued names first) (valued names second))
  valued-Conditional test first second = valued-at (expr.Conditional test first second) _ (expr.outs-Conditional test first second)

  pub right_of-parts : (p : ConstantPart) → right_of names p ≡ record { op = (out-ConstantPart p).op; operand = valued names (out-ConstantPart p).operand }
  unfolding valued right_of
  right_of-parts p = fold_out-ConstantPart (Option Constant) Right (constant_step names) right_step p

pub ruleset parts = (valued-Literal, valued-Name, valued-Cast, valued-Prefix, valued-Chain, valued-Conditional)
