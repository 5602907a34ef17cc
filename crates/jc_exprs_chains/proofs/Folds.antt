-- What an operator makes of constants.
use Rattle.std.proofs.Common.{◌≡◌, refl, List, Option, None, Some}
use Rattle.jc_rules.specs.declared.rule.Place.{Place}
use Rattle.jc_tree.specs.declared.expression.BinaryOp.{BinaryOp}
use Rattle.jc_types.specs.declared.constant.Op.{Op}
use Rattle.jc_types.specs.declared.environment.Bounds.{Bounds}
use Rattle.jc_types.specs.declared.form.Ty.{Ty}
use Rattle.jc_types.specs.declared.table.Table.{Table}
use Rattle.jc_folding.specs.Folding.{fold}
use Rattle.jc_exprs_nodes_spec.specs.Told.{Spanned}
use Rattle.jc_exprs_nodes_spec.specs.Typeds.{Known, Typed, fixed, known_of}
use Rattle.jc_exprs_parts_spec.specs.Chains.{Joined, Whole, folded, joined_start, known_both, known_or, known_so_far, op_of}
use Rattle.jc_exprs_operators.specs.declared.taking.Taking.{Taking}
use Rattle.jc_exprs_operators.specs.Takings.{joint_of, result_in}
use Rattle.jc_exprs_chains.specs.Chaining.{join_with, joined_by_taking}

no_right : (o : Op) (a : Option Known) → folded o a None ≡ None
no_right o None = refl
no_right o (Some a) = refl

module _ (T : Table) (env : List Bounds) (o : BinaryOp) (taking : Taking) (j : Joined) (r : Spanned Typed) where
  -- what is no constant isn't folded
  pub right_unknown : known_of r.it ≡ None → joined_by_taking T env o taking j r ≡ join_with T env o taking j r
  right_unknown e = rw (e, no_right (op_of (joint_of taking)) (known_so_far j)) refl

  pub left_unknown : known_so_far j ≡ None → joined_by_taking T env o taking j r ≡ join_with T env o taking j r
  left_unknown e = rw e refl

  -- two constants
  pub both_known : (q : Op) (a b : Known) (d : Option Known) → op_of (joint_of taking) ≡ q → known_so_far j ≡ Some a → known_of r.it ≡ Some b → known_both a b (fold q a.value b.value) ≡ d →
      joined_by_taking T env o taking j r ≡ known_or (joined_start j) (result_in T taking) d (join_with T env o taking j r)
  both_known q a b d e f g h = rw (e, f, g, h) refl

-- behind a constant that stays as it was
pub same_fixed : (T : Table) (env : List Bounds) (o : BinaryOp) (taking : Taking) (start : Place) (t u : Ty) (a b : Known) (r q : Spanned Typed) → t ≡ u → a ≡ b → r ≡ q →
    join_with T env o taking (Whole (fixed start t a)) r ≡ join_with T env o taking (Whole (fixed start u b)) q
same_fixed T env o taking start t u a b r q e f g = rw (e, f, g) refl

pub ruleset folds = (right_unknown, left_unknown, both_known)
