-- How a walk goes through the parts of each form of expressions.
use Rattle.std.proofs.Common.{◌≡◌, refl, ap, sym, ◌∙◌, ℕ, zero, suc, ◌<◌, ◌≤◌, arith, true, List, [], ◌∷◌, Option, Some, None, length}
use Rattle.std.proofs.lemmas.Option.{slice_get-get_or}
use Rattle.jc_rules.specs.declared.rule.Place.{Place}
use Rattle.jc_tree.specs.declared.expression.BinaryOp.{BinaryOp}
use Rattle.jc_tree.specs.declared.expression.Expr.{Expr}
use Rattle.jc_tree.specs.declared.expression.Operand.{Operand}
use Rattle.jc_tree.specs.declared.expression.PrefixOp.{PrefixOp}
use Rattle.jc_tree.specs.declared.expression.PrefixSign.{PrefixSign}
use Rattle.jc_tree.specs.declared.expression.PrefixSign.TheVariants as sign
use Rattle.jc_tree.specs.declared.types.TypeArg.{TypeArg}
use Rattle.jc_types.specs.declared.constant.Op.{Op}
use Rattle.jc_types.specs.declared.constant.Op.TheVariants as op
use Rattle.jc_types.specs.declared.form.Ty.{Ty}
use Rattle.jc_exprs_nodes_spec.specs.Told.{Run, Ran, Standing, both, by_rule, every, fine, onward, ran, spanned}
use Rattle.jc_exprs_nodes_spec.specs.Gates.{gated, gated_two}
use Rattle.jc_exprs_nodes_spec.specs.Typeds.{Typed}
use Rattle.jc_exprs_nodes_spec.proofs.Runs.{ran_onward, ran_two}
use Rattle.jc_exprs_nodes.specs.Laws.{paired, ran_span, span_of}
use Rattle.jc_exprs_nodes.proofs.Gathering.{ran_both, ran_feeding, ran_spanned}
use Rattle.jc_exprs_parts_spec.specs.Assigning.{Target, changed, compound, stored}
use Rattle.jc_exprs_parts_spec.specs.Chains.{Joined, Signed, Unsigned, Whole, joining, signed, signing, tested, whole}
use Rattle.jc_exprs_parts_spec.specs.Names.{element_of}
use Rattle.jc_exprs_parts_spec.specs.Values.{chosen}
use Rattle.jc_exprs_parts_spec.specs.Worlds.{World, at, written}
use Rattle.jc_exprs_spec.specs.Calls.{asked, call_on}
use Rattle.jc_exprs_spec.specs.Typing.{Ahead, Further, Binary, InstanceOf, ahead_by, ahead_of, aimed, joined_all, joined_more, typing}
use Rattle.jc_exprs_forms.specs.Forms.{ahead_in, assigning, branching, chaining, furthers, indexing, meant, prefixing, targeted, typings}
use Rattle.jc_exprs_forms.specs.Walking.{called_at, joined_begun, joined_step, joined_walk, op_at, op_or, prefixing_from, signed_by}

module _ (W : World) where
  -- an element
  pub of_indexing : (a i : Expr) (s : Standing) →
      ran (indexing W a i) s
      ≡ gated_two (element_of W) (ran (typing W None a) s).has (ran (typing W None i) (ran (typing W None a) s).state).has (ran (typing W None i) (ran (typing W None a) s).state).state
  of_indexing a i s = ran_two (element_of W) (typing W None a) (typing W None i) s

  -- assignments
  pub of_plain : (l r : Expr) (s : Standing) →
      ran (assigning W l None r) s
      ≡ gated_two (stored W.table) (ran (targeted W l) s).has (ran (typing W (aimed (ran (targeted W l) s).has) r) (ran (targeted W l) s).state).has (ran (typing W (aimed (ran (targeted W l) s).has) r) (ran (targeted W l) s).state).state
  of_plain l r s = ran_feeding (stored W.table) (targeted W l) (λ v. typing W (aimed v) r) s

  pub of_compound : (l r : Expr) (o : BinaryOp) (s : Standing) →
      ran (assigning W l (Some o) r) s
      ≡ gated_two (compound W.table o) (ran (targeted W l) s).has (ran (typing W None r) (ran (targeted W l) s).state).has (ran (typing W None r) (ran (targeted W l) s).state).state
  of_compound l r o s = ran_two (compound W.table o) (targeted W l) (typing W None r) s

  -- conditionals
  abbrev pub behind_test : Expr → Standing → Standing
  behind_test q s = (ran (typing W None q) s).state

  abbrev pub behind_both : Expr → Expr → Standing → Standing
  behind_both a b s = (ran (typing W None b) (ran (typing W None a) s).state).state

  pub of_branching : (q a b : Expr) (s : Standing) →
      ran (branching W q a b) s
      ≡ gated_two (chosen W.table) (ran (typing W None q) s).has
      (span_of (paired (ran (typing W None a) (behind_test q s)).has (ran (typing W None b) (ran (typing W None a) (behind_test q s)).state).has) (length (behind_test q s).env) (length (behind_both a b (behind_test q s)).env))
      (behind_both a b (behind_test q s))
  of_branching q a b s =
      let t = behind_test q s in
      ran_two (chosen W.table) (typing W None q) (spanned (both (typing W None a) (typing W None b))) s
      ∙ ap (λ (x : Ran _). gated_two (chosen W.table) (ran (typing W None q) s).has x.has x.state)
      (ran_spanned (both (typing W None a) (typing W None b)) t ∙ ap (λ (y : Ran (Typed × Typed)). ran_span t y) (ran_both (typing W None a) (typing W None b) t))

  -- calls and creations
  pub of_call : (e : Expr) (place : Place) (args : List TypeArg) (name : List ℕ) (es : List Expr) (wanted : Option Ty) (s : Standing) →
      ran (called_at W e place args name es wanted) s
      ≡ gated_two (call_on W place name args wanted) (ran (onward (meant W e) (asked W)) s).has (ran (every (typings W es)) (ran (onward (meant W e) (asked W)) s).state).has (ran (every (typings W es)) (ran (onward (meant W e) (asked W)) s).state).state
  of_call e place args name es wanted s = ran_two (call_on W place name args wanted) (onward (meant W e) (asked W)) (every (typings W es)) s

  -- chains
  pub of_more : (m : Run Joined) (f : Further) (s : Standing) → ran (joined_more W m f) s ≡ joined_step W (ran m s) f
  of_more m (Binary o r) s =
      ran_two (joining W.table o) m (spanned r) s
      ∙ ap (λ (x : Ran _). gated_two (joining W.table o) (ran m s).has x.has x.state) (ran_spanned r (ran m s).state)
  of_more m (InstanceOf t) s = ran_onward (tested W.table (written W t)) m s

  pub of_all : (m : Run Joined) (fs : List Further) (s : Standing) → ran (joined_all W m fs) s ≡ joined_walk W (ran m s) fs
  of_all m [] s = refl
  of_all m (f ∷ fs) s = of_all (joined_more W m f) fs s ∙ ap (λ (r : Ran Joined). joined_walk W r fs) (of_more m f s)

  abbrev pub ended : Ran Joined → Ran Typed
  ended r = gated (λ j. fine (whole j)) r.has r.state

  pub of_chaining : (first : Expr) (rest : List Operand) (s : Standing) →
      ran (chaining W first rest) s ≡ ended (joined_walk W (joined_begun (ran (typing W None first) s)) (furthers W rest))
  of_chaining first rest s =
      let m = onward (typing W None first) (λ t. fine (Whole t)) in
      ran_onward (λ j. fine (whole j)) (joined_all W m (furthers W rest)) s
      ∙ ap ended (of_all m (furthers W rest) s ∙ ap (λ (r : Ran Joined). joined_walk W r (furthers W rest)) (ran_onward (λ t. fine (Whole t)) (typing W None first) s))

  -- ---- prefix operators

  -- what is asked of what was asked
  asked_twice : {A B C : Type 0} (f : A → Run B) (g : B → Run C) (x : Option A) (s : Standing) → gated g (gated f x s).has (gated f x s).state ≡ gated (λ a. onward (f a) g) x s
  asked_twice f g None s = refl
  asked_twice f g (Some a) s = sym (ran_onward g (f a) s)

  -- an operator before those behind it
  no_variable_ended : (f : Target → Run Typed) (x : Option Signed) (t : Standing) →
      gated (λ t. fine (Unsigned t)) (gated f (gated (λ v. by_rule {A = Target} 610 (signed v).place) x t).has (gated (λ v. by_rule {A = Target} 610 (signed v).place) x t).state).has
      (gated f (gated (λ v. by_rule {A = Target} 610 (signed v).place) x t).has (gated (λ v. by_rule {A = Target} 610 (signed v).place) x t).state).state
      ≡ gated (λ v. by_rule {A = Signed} 610 (signed v).place) x t
  unfolding ran
  no_variable_ended f None t = refl
  no_variable_ended f (Some v) t = refl

  pub of_increment : (o : Op) (place : Place) (e : Expr) (s : Standing) →
      ran (onward (onward (targeted W e) (changed W.table place o true)) (λ t. fine (Unsigned t))) s
      ≡ gated (λ v. onward (changed W.table place o true v) (λ t. fine (Unsigned t))) (ran (targeted W e) s).has (ran (targeted W e) s).state
  of_increment o place e s =
      let f = changed W.table place o true in
      ran_onward (λ t. fine (Unsigned t)) (onward (targeted W e) f) s
      ∙ ap (λ (r : Ran Typed). gated (λ t. fine (Unsigned t)) r.has r.state) (ran_onward f (targeted W e) s)
      ∙ asked_twice f (λ t. fine (Unsigned t)) (ran (targeted W e) s).has (ran (targeted W e) s).state

  no_variable_then : (m : Run Signed) (f : Target → Run Typed) (s : Standing) →
      ran (onward (onward (onward m (λ v. by_rule {A = Target} 610 (signed v).place)) f) (λ t. fine (Unsigned t))) s ≡ gated (λ v. by_rule {A = Signed} 610 (signed v).place) (ran m s).has (ran m s).state
  no_variable_then m f s =
      let v = onward m (λ v. by_rule {A = Target} 610 (signed v).place) in
      ran_onward (λ t. fine (Unsigned t)) (onward v f) s
      ∙ ap (λ (r : Ran Typed). gated (λ t. fine (Unsigned t)) r.has r.state) (ran_onward f v s ∙ ap (λ (r : Ran Target). gated f r.has r.state) (ran_onward (λ v. by_rule {A = Target} 610 (signed v).place) m s))
      ∙ no_variable_ended f (ran m s).has (ran m s).state

  of_sign : (place : Place) (g : PrefixSign) (m : Run Signed) (s : Standing) → ran (ahead_by W place g (ahead_of m)).signs s ≡ signed_by W place g (ran m s)
  of_sign place sign.Increment m s = no_variable_then m (changed W.table place op.Increment true) s
  of_sign place sign.Decrement m s = no_variable_then m (changed W.table place op.Decrement true) s
  of_sign place sign.Plus m s = ran_onward (signing W.table place op.Positive) m s
  of_sign place sign.Minus m s = ran_onward (signing W.table place op.Negative) m s
  of_sign place sign.Not m s = ran_onward (signing W.table place op.Not) m s
  of_sign place sign.Complement m s = ran_onward (signing W.table place op.Complement) m s

  is_ahead_by : (place : Place) (g : PrefixSign) (a : Ahead) → ahead_by W place g a ≡ ahead_of (ahead_by W place g a).signs
  is_ahead_by place sign.Increment a = refl
  is_ahead_by place sign.Decrement a = refl
  is_ahead_by place sign.Plus a = refl
  is_ahead_by place sign.Minus a = refl
  is_ahead_by place sign.Not a = refl
  is_ahead_by place sign.Complement a = refl

  is_ahead : (p : PrefixOp) (more : List PrefixOp) (e : Expr) → prefixing W p more e ≡ ahead_of (prefixing W p more e).signs
  is_ahead p [] e = is_ahead_by (at W p.at) p.sign (ahead_in W p.sign e)
  is_ahead p (q ∷ qs) e = is_ahead_by (at W p.at) p.sign (prefixing W q qs e)

  op_shift : (p q : PrefixOp) (qs : List PrefixOp) (i : ℕ) → i ≤ length qs → op_at p (q ∷ qs) (suc i) ≡ op_at q qs i
  op_shift p q qs zero h = refl
  op_shift p q qs (suc i) h = ap (op_or p) (slice_get-get_or qs i q h) ∙ sym (ap (op_or q) (slice_get-get_or qs i q h))

  pub from_last : (p : PrefixOp) (more : List PrefixOp) (e : Expr) → prefixing_from W (length more) p more e ≡ ahead_by W (at W (op_at p more (length more)).at) (op_at p more (length more)).sign (ahead_in W (op_at p more (length more)).sign e)
  from_last p [] e = refl
  from_last p (q ∷ qs) e =
      from_last q qs e ∙ ap (λ (o : PrefixOp). ahead_by W (at W o.at) o.sign (ahead_in W o.sign e)) (sym (op_shift p q qs (length qs) (omega arith)))

  from_step : (i : ℕ) (p : PrefixOp) (more : List PrefixOp) (e : Expr) → i < length more →
      prefixing_from W i p more e ≡ ahead_by W (at W (op_at p more i).at) (op_at p more i).sign (ahead_of (prefixing_from W (suc i) p more e).signs)
  from_step zero p [] e h = absurd (omega (arith, h))
  from_step (suc i) p [] e h = absurd (omega (arith, h))
  from_step zero p (q ∷ qs) e h = ap (λ (a : Ahead). ahead_by W (at W p.at) p.sign a) (is_ahead q qs e)
  from_step (suc i) p (q ∷ qs) e h =
      from_step i q qs e (omega (arith, h)) ∙ ap (λ (o : PrefixOp). ahead_by W (at W o.at) o.sign (ahead_of (prefixing_from W (suc i) q qs e).signs)) (sym (op_shift p q qs i (omega (arith, h))))

  pub of_prefix : (i : ℕ) (p : PrefixOp) (more : List PrefixOp) (e : Expr) (s : Standing) → i < length more →
      ran (prefixing_from W i p more e).signs s ≡ signed_by W (at W (op_at p more i).at) (op_at p more i).sign (ran (prefixing_from W (suc i) p more e).signs s)
  of_prefix i p more e s h =
      ap (λ (a : Ahead). ran a.signs s) (from_step i p more e h) ∙ of_sign (at W (op_at p more i).at) (op_at p more i).sign (prefixing_from W (suc i) p more e).signs s

pub ruleset walks = (of_indexing, of_plain, of_compound, of_branching, of_call)

pub ruleset chains = (of_chaining, of_more)

pub ruleset signs = (of_increment, from_last)
