-- How a walk goes through prefix operators.
use Rattle.std.proofs.Common.{◌≡◌, refl, ap, ◌∙◌, ℕ, zero, suc, ◌≤◌, arith, List, Option, Some, None, length}
use Rattle.jc_tree.specs.declared.expression.Expr.{Expr}
use Rattle.jc_tree.specs.declared.expression.PrefixOp.{PrefixOp}
use Rattle.jc_exprs_nodes_spec.specs.Told.{Ran, Run, Standing, fine, onward, ran}
use Rattle.jc_exprs_nodes_spec.specs.Gates.{gated}
use Rattle.jc_exprs_nodes_spec.specs.Typeds.{Typed}
use Rattle.jc_exprs_nodes_spec.proofs.Runs.{ran_onward}
use Rattle.jc_exprs_parts_spec.specs.Chains.{Signed, Unsigned, signed}
use Rattle.jc_exprs_parts_spec.specs.Worlds.{World, at}
use Rattle.jc_exprs_chains.specs.Chaining.{as_signed, as_unsigned}
use Rattle.jc_exprs_forms.specs.Forms.{prefixing}
use Rattle.jc_exprs_forms.specs.Walking.{op_at, prefixing_from, signed_by}
use Rattle.jc_exprs_forms.proofs.Walks.{from_last, of_prefix}
use Rattle.jc_exprs.specs.Signing.{last_signs, signed_walk}

-- the operand, and it with its prefix operators as one expression
unsigned_has : (x : Option Typed) (s : Standing) → gated (λ t. fine (Unsigned t)) x s ≡ record { state = s; has = as_unsigned x }
unfolding ran
unsigned_has None s = refl
unsigned_has (Some t) s = refl

signed_has : (x : Option Signed) (s : Standing) → gated (λ g. fine (signed g)) x s ≡ record { state = s; has = as_signed x }
unfolding ran
signed_has None s = refl
signed_has (Some g) s = refl

pub of_unsigned : (m : Run Typed) (s : Standing) → ran (onward m (λ t. fine (Unsigned t))) s ≡ record { state = (ran m s).state; has = as_unsigned (ran m s).has }
of_unsigned m s = ran_onward (λ t. fine (Unsigned t)) m s ∙ unsigned_has (ran m s).has (ran m s).state

pub of_signed : (m : Run Signed) (s : Standing) → ran (onward m (λ g. fine (signed g))) s ≡ record { state = (ran m s).state; has = as_signed (ran m s).has }
of_signed m s = ran_onward (λ g. fine (signed g)) m s ∙ signed_has (ran m s).has (ran m s).state

pub ruleset signs = (of_unsigned)

module _ (W : World) where
  -- from the last operator to the first
  from_here : (i : ℕ) (p : PrefixOp) (more : List PrefixOp) (e : Expr) (s : Standing) (r : Ran Signed) → i ≤ length more → ran (prefixing_from W i p more e).signs s ≡ r →
      ran (prefixing W p more e).signs s ≡ signed_walk W p more i r
  from_here zero p more e s r h q = q
  from_here (suc i) p more e s r h q =
      from_here i p more e s (signed_by W (at W (op_at p more i).at) (op_at p more i).sign r) (omega (arith, h))
      (of_prefix W i p more e s (omega (arith, h)) ∙ ap (signed_by W (at W (op_at p more i).at) (op_at p more i).sign) q)

  pub of_prefixing : (p : PrefixOp) (more : List PrefixOp) (e : Expr) (s : Standing) → ran (prefixing W p more e).signs s ≡ signed_walk W p more (length more) (ran (last_signs W (op_at p more (length more)) e) s)
  unfolding last_signs
  of_prefixing p more e s = from_here (length more) p more e s _ (omega arith) (ap (λ a. ran a.signs s) (from_last W p more e))
