-- What is joined so far as the first operand of links, or of `&&` or `||`.
use Rattle.std.proofs.Common.{◌≡◌, refl, Bool, List}
use Rattle.jc_rules.specs.declared.rule.Place.{Place}
use Rattle.jc_types.specs.declared.environment.Bounds.{Bounds}
use Rattle.jc_types.specs.declared.form.Ty.{Ty}
use Rattle.jc_types.specs.declared.table.Table.{Table}
use Rattle.jc_typed.specs.Trees.{Operand, Operands, MoreOperands, Links, NoLinks, MoreLinks}
use Rattle.jc_exprs_nodes_spec.specs.Told.{Spanned}
use Rattle.jc_exprs_nodes_spec.specs.Typeds.{Typed, one_operand, plain, type_of}
use Rattle.jc_exprs_parts_spec.specs.Chains.{Linked, Listed, linked_first, listed_first, steps_to}
use Rattle.jc_exprs_operators.specs.declared.taking.Taking.{Taking}
use Rattle.jc_exprs_operators.specs.Takings.{joint_of, left_of, result_in, right_of, takes_in, wanted}
use Rattle.jc_exprs_chains.specs.Chaining.{operand_for}

module _ (T : Table) (env : List Bounds) (taking : Taking) (t : Typed) (start : Place) where
  pub linked_by : (r q : Typed) (u : Ty) (first : Operand) (links : Links) → t.start ≡ start → type_of t ≡ u → plain t ≡ first → links ≡ NoLinks → q ≡ r →
      Linked start (result_in T taking) first (MoreLinks links (joint_of taking) (steps_to T env u (wanted u (left_of taking))) (operand_for T env q (right_of taking)))
      ≡ linked_first T env t (takes_in T (type_of t) (type_of r) taking) r
  linked_by r q u first links a b d e f = rw (← a, ← b, ← d, e, f) refl

  pub listed_by : (is_and : Bool) (r : Spanned Typed) (q : Typed) (os : Operands) → t.start ≡ start → os ≡ one_operand (operand_for T env t (left_of taking)) → q ≡ r.it →
      Listed start is_and (MoreOperands os (operand_for T env q (right_of taking))) r.from r.up_to ≡ listed_first T env t is_and (takes_in T (type_of t) (type_of r.it) taking) r
  listed_by is_and r q os a b d = rw (← a, b, d) refl
