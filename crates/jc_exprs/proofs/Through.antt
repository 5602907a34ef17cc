-- How a walk goes through a form: what comes first in it, and then the rest.
use Rattle.std.proofs.Common.{◌≡◌, refl, ap, ◌∙◌, ℕ, ◌+◌, List, ◌∷◌, Option, Some, None, length}
use Rattle.jc_rules.specs.declared.rule.Place.{Place}
use Rattle.jc_tree.specs.declared.expression.BinaryOp.{BinaryOp}
use Rattle.jc_tree.specs.declared.expression.Expr.{Expr}
use Rattle.jc_tree.specs.declared.expression.Expr.TheVariants as anExpr
use Rattle.jc_tree.specs.declared.expression.Operand.{Operand}
use Rattle.jc_tree.specs.declared.name.Ident.{Ident}
use Rattle.jc_tree.specs.declared.types.BaseTree.{BaseTree}
use Rattle.jc_tree.specs.declared.types.TypeArg.{TypeArg}
use Rattle.jc_types.specs.declared.form.Ty.{Ty}
use Rattle.jc_types.specs.declared.table.Table.{Table}
use Rattle.jc_overriding.specs.Viewing.{with_dims}
use Rattle.jc_exprs_nodes_spec.specs.Told.{Ran, Standing, every, fine, onward, ran}
use Rattle.jc_exprs_nodes_spec.specs.Gates.{gated, gated_two}
use Rattle.jc_exprs_nodes_spec.specs.Typeds.{Typed}
use Rattle.jc_exprs_nodes_spec.proofs.Runs.{ran_fine, ran_onward}
use Rattle.jc_exprs_nodes.specs.Laws.{paired, span_of}
use Rattle.jc_exprs_gathering.proofs.Gathering.{ran_every}
use Rattle.jc_exprs_parts_spec.specs.Chains.{Joined, Whole, whole}
use Rattle.jc_exprs_parts_spec.specs.Names.{Located, this_value, value_of}
use Rattle.jc_exprs_parts_spec.specs.Values.{chosen, sized}
use Rattle.jc_exprs_parts_spec.specs.Worlds.{World, at, written_base}
use Rattle.jc_exprs_spec.specs.Calls.{Before, asked}
use Rattle.jc_exprs_spec.specs.Typing.{effect, typing, with_value}
use Rattle.jc_exprs_chains.specs.Chaining.{as_first, as_whole}
use Rattle.jc_exprs_forms.specs.Forms.{assigning, branching, calling, chaining, creating_sized, furthers, indexing, meant, starts, targeted, typings}
use Rattle.jc_exprs_forms.specs.Walking.{joined_begun, joined_walk}
use Rattle.jc_exprs_forms.proofs.ByForms.{effect-Call, typing-Call, typing-Conditional, typing-Index, typing-This}
use Rattle.jc_exprs_forms.proofs.Walks as walks
use Rattle.jc_exprs.specs.Rests.{assigned_behind, called_behind, chained_behind, chosen_behind, element_behind, ended, sized_behind}

-- the first operand of a chain, and the chain as one expression
begun : (x : Option Typed) (s : Standing) → gated (λ t. fine (Whole t)) x s ≡ record { state = s; has = as_first x }
begun None s = refl
begun (Some t) s = ran_fine (Whole t) s

finished : (x : Option Joined) (s : Standing) → gated (λ j. fine (whole j)) x s ≡ record { state = s; has = as_whole x }
finished None s = refl
finished (Some j) s = ran_fine (whole j) s

module _ (W : World) where
  pub of_assigning : (l r : Expr) (o : Option BinaryOp) (s : Standing) → ran (assigning W l o r) s ≡ assigned_behind W (ran (targeted W l) s).has o r (ran (targeted W l) s).state
  unfolding assigned_behind
  of_assigning l r None s = walks.of_plain W l r s
  of_assigning l r (Some o) s = walks.of_compound W l r o s

  pub of_branching : (q a b : Expr) (s : Standing) →
      ran (branching W q a b) s
      ≡ chosen_behind W (ran (typing W None q) s).has (ran (typing W None a) (ran (typing W None q) s).state).has (length (ran (typing W None q) s).state.env) b (ran (typing W None a) (ran (typing W None q) s).state).state
  unfolding chosen_behind
  of_branching q a b s = walks.of_branching W q a b s

  pub of_chaining : (first : Expr) (rest : List Operand) (s : Standing) →
      ran (chaining W first rest) s ≡ chained_behind W (ran (typing W None first) s).has rest (ran (typing W None first) s).state
  unfolding chained_behind
  of_chaining first rest s =
      let r = ran (typing W None first) s in
      walks.of_chaining W first rest s
      ∙ finished (joined_walk W (joined_begun r) (furthers W rest)).has (joined_walk W (joined_begun r) (furthers W rest)).state
      ∙ ap (λ (x : Ran Joined). ended (joined_walk W x (furthers W rest))) (begun r.has r.state)

  pub of_indexing : (a i : Expr) (s : Standing) → ran (indexing W a i) s ≡ element_behind W (ran (typing W None a) s).has i (ran (typing W None a) s).state
  unfolding element_behind
  of_indexing a i s = walks.of_indexing W a i s

  pub of_calling : (e : Expr) (args : List TypeArg) (name : Ident) (es : List Expr) (wanted : Option Ty) (s : Standing) →
      ran (calling W e args name es wanted) s
      ≡ called_behind W (starts W e) args name.text wanted (ran (onward (meant W e) (asked W)) s).has es (ran (onward (meant W e) (asked W)) s).state
  unfolding called_behind
  of_calling e args name es wanted s = walks.of_call W e (starts W e) args name.text es wanted s

  pub of_sized : (place : Place) (base : BaseTree) (first : Expr) (more : List Expr) (dims : ℕ) (s : Standing) →
      ran (creating_sized W place base first more dims) s
      ≡ sized_behind W place (with_dims (length more + 1 + dims) (written_base W base)) (ran (typing W None first) s).has more (ran (typing W None first) s).state
  unfolding sized_behind
  of_sized place base first more dims s =
      let f = λ (ts : List Typed). sized W.table place (with_dims (length more + 1 + dims) (written_base W base)) ts in
      ran_onward f (every (typing W None first ∷ typings W more)) s
      ∙ ap (λ (r : Ran (List Typed)). gated f r.has r.state) (ran_every (typing W None first ∷ typings W more) s)

-- the second branch of a conditional, where it is known how the walk stands behind it, and what it has
module _ (W : World) (T : Table) (same : W.table ≡ T) where
  pub chosen_through : (q r a b : Option Typed) (from : ℕ) (e : Expr) (s t : Standing) (y : Option Typed) → r ≡ q → b ≡ a → (ran (typing W None e) s).state ≡ t → (ran (typing W None e) s).has ≡ y →
      chosen_behind W q a from e s ≡ gated_two (chosen T) r (span_of (paired b y) from (length t.env)) t
  unfolding chosen_behind
  chosen_through q r a b from e s t y g h u v = rw (g, h, v, u, same) refl

-- ---- forms of an expression that is known to be one, where it is known how the walk stands behind each of their parts, and what it has

module _ (W : World) (e : Expr) (t : Option Ty) where
  pub conditional_through : (q a b : Expr) → e ≡ anExpr.Conditional q a b → (s0 s1 s2 : Standing) (x y : Option Typed) (r : Ran Typed) → (ran (typing W None q) s0).state ≡ s1 → (ran (typing W None q) s0).has ≡ x →
      (ran (typing W None a) s1).state ≡ s2 → (ran (typing W None a) s1).has ≡ y → chosen_behind W x y (length s1.env) b s2 ≡ r → ran (typing W t e) s0 ≡ r
  conditional_through q a b is s0 s1 s2 x y r u v p w z =
      rw (is, typing-Conditional W q a b t) (of_branching W q a b s0 ∙ rw (u, v, p, w) z)

  pub element_through : (a i : Expr) → e ≡ anExpr.Index a i → (s0 s1 s2 : Standing) (x : Option Typed) (y : Option Located) → (ran (typing W None a) s0).state ≡ s1 → (ran (typing W None a) s0).has ≡ x →
      (element_behind W x i s1).state ≡ s2 → (element_behind W x i s1).has ≡ y → ran (typing W t e) s0 ≡ gated (value_of W) y s2
  element_through a i is s0 s1 s2 x y u v p w =
      rw (is, typing-Index W a i t) (ran_onward (value_of W) (indexing W a i) s0 ∙ rw (of_indexing W a i s0, u, v, p, w) refl)

  pub call_through : (T : Table) (same : W.table ≡ T) (of_it : Expr) (args : List TypeArg) (name : Ident) (es : List Expr) → e ≡ anExpr.Call of_it args name es → (place : Place) → place ≡ starts W of_it → (w : Option Ty) → w ≡ t →
      (s0 s1 s2 : Standing) (b : Option Before) (y : Option Typed) → (ran (onward (meant W of_it) (asked W)) s0).state ≡ s1 → (ran (onward (meant W of_it) (asked W)) s0).has ≡ b →
      (called_behind W place args name.text w b es s1).state ≡ s2 → (called_behind W place args name.text w b es s1).has ≡ y → ran (typing W t e) s0 ≡ gated (with_value T) y s2
  call_through T same of_it args name es is place begins w aimed_same s0 s1 s2 b y u v p q =
      let z : ran (calling W of_it args name es t) s0 ≡ record { state = s2; has = y } =
      of_calling W of_it args name es t s0 ∙ rw (u, v, ← begins, ← aimed_same) (rw (← p, ← q) refl) in
      rw (is, typing-Call W of_it args name es t) (ran_onward (with_value W.table) (calling W of_it args name es t) s0 ∙ rw (z, same) refl)

  pub this_through : (n : ℕ) → e ≡ anExpr.This n → (place : Place) → place ≡ at W n → (s : Standing) → ran (typing W t e) s ≡ ran (this_value W place) s
  this_through n is place begins s = rw (is, typing-This W n t, begins) refl

  pub effect_through : (of_it : Expr) (args : List TypeArg) (name : Ident) (es : List Expr) → e ≡ anExpr.Call of_it args name es → (place : Place) → place ≡ starts W of_it → (s0 s1 : Standing) (b : Option Before) →
      (ran (onward (meant W of_it) (asked W)) s0).state ≡ s1 → (ran (onward (meant W of_it) (asked W)) s0).has ≡ b → ran (effect W e) s0 ≡ called_behind W place args name.text None b es s1
  effect_through of_it args name es is place begins s0 s1 b u v = rw (is, effect-Call W of_it args name es) (of_calling W of_it args name es None s0 ∙ rw (u, v, ← begins) refl)

pub ruleset rests = (of_assigning, of_branching, of_chaining, of_indexing, of_calling, of_sized)
