-- One turn of each loop of the walk, and all prefix operators.
use Rattle.std.proofs.Common.{◌≡◌, refl, ap, sym, ◌∙◌, ℕ, zero, suc, ◌+◌, ◌<◌, ◌≤◌, arith, List, [], ◌∷◌, drop, get_or, Ok, Err, Option, None, length, add-one}
use Rattle.std.proofs.Math.Seq.{drop-cons}
use Rattle.std.specs.Prelude.{OnOk, Result}
use Rattle.jc_tree.specs.declared.expression.Expr.{Expr}
use Rattle.jc_tree.specs.declared.expression.Init.{Init}
use Rattle.jc_tree.specs.declared.expression.Operand.{Operand}
use Rattle.jc_tree.specs.declared.expression.PrefixOp.{PrefixOp}
use Rattle.jc_types.specs.declared.form.Ty.{Ty}
use Rattle.jc_typed.specs.Trees.{Operand as Operated}
use Rattle.jc_exprs_nodes_spec.specs.Told.{Ran, Standing, fine, onward, ran}
use Rattle.jc_exprs_nodes_spec.specs.Typeds.{Typed}
use Rattle.jc_exprs_nodes.specs.Laws.{with_more}
use Rattle.jc_exprs_gathering.specs.Gathered.{walked}
use Rattle.jc_exprs_parts_spec.specs.Chains.{Joined, Signed, signed}
use Rattle.jc_exprs_parts_spec.specs.Worlds.{World, at}
use Rattle.jc_exprs_spec.specs.Typing.{typing}
use Rattle.jc_exprs_chains.specs.Chaining.{as_signed}
use Rattle.jc_exprs_forms.specs.Forms.{further, furthers, giving, givings, prefixing, typings}
use Rattle.jc_exprs_forms.specs.Walking.{joined_step, joined_walk, op_at, signed_by}
use Rattle.jc_exprs.specs.Signing.{last_signs, signed_walk}
use Rattle.jc_exprs.proofs.Prefixes.{of_prefixing, of_signed}

next_one : {X : Type 0} (xs : List X) (i : ℕ) (x : X) → i < length xs → x ≡ get_or xs i x → drop i xs ≡ x ∷ drop (i + 1) xs
next_one {X = X} xs i x lt e = rw (add-one i) (drop-cons xs i x lt ∙ ap (λ (y : X). y ∷ drop (suc i) xs) (sym e))

nothing_left : {X : Type 0} (xs : List X) (i : ℕ) → length xs ≤ i → drop i xs ≡ []
nothing_left [] zero h = refl
nothing_left [] (suc i) h = refl
nothing_left (x ∷ xs) zero h = absurd (omega (arith, h))
nothing_left (x ∷ xs) (suc i) h = nothing_left xs i (omega (arith, h))

-- what holds, holds where memory was found
pub on_ok : {A E P : Type 0} (r : Result A E) → P → OnOk r P
on_ok (Ok a) p = p
on_ok (Err e) p = tt

same_ran : {A : Type 0} (r : Ran A) (s : Standing) (x : Option A) → r.state ≡ s → r.has ≡ x → r ≡ record { state = s; has = x }
same_ran r s x p q = rw (← p, ← q) refl

module _ (W : World) where
  -- an expression more
  pub typed_turn : (es : List Expr) (i : ℕ) (e : Expr) (o p : Option (List Typed)) (s t : Standing) (x : Option Typed) (all : Ran (List Typed)) → i < length es → e ≡ get_or es i e →
      (ran (typing W None e) s).state ≡ t → (ran (typing W None e) s).has ≡ x → p ≡ with_more o x →
      walked o (typings W (drop i es)) s ≡ all → walked p (typings W (drop (i + 1) es)) t ≡ all
  typed_turn es i e o p s t x all lt is u v w inv =
      rw (w, ← v, ← u) (ap (λ (l : List Expr). walked o (typings W l) s) (sym (next_one es i e lt is)) ∙ inv)

  -- an initialiser more
  pub given_turn : (wanted : Option Ty) (is : List Init) (i : ℕ) (e : Init) (o p : Option (List Operated)) (s t : Standing) (x : Option Operated) (all : Ran (List Operated)) → i < length is → e ≡ get_or is i e →
      (ran (giving W wanted e) s).state ≡ t → (ran (giving W wanted e) s).has ≡ x → p ≡ with_more o x →
      walked o (givings W wanted (drop i is)) s ≡ all → walked p (givings W wanted (drop (i + 1) is)) t ≡ all
  given_turn wanted is i e o p s t x all lt at_i u v w inv =
      rw (w, ← v, ← u) (ap (λ (l : List Init). walked o (givings W wanted l) s) (sym (next_one is i e lt at_i)) ∙ inv)

  -- .. and none more
  pub given_end : (wanted : Option Ty) (is : List Init) (i : ℕ) (o : Option (List Operated)) (s : Standing) (all : Ran (List Operated)) → length is ≤ i → walked o (givings W wanted (drop i is)) s ≡ all → all ≡ record { state = s; has = o }
  given_end wanted is i o s all h inv = sym inv ∙ ap (λ (l : List Init). walked o (givings W wanted l) s) (nothing_left is i h)

  -- an operator of a chain more
  pub chained_turn : (os : List Operand) (i : ℕ) (o : Operand) (r : Ran Joined) (t : Standing) (x : Option Joined) (all : Ran Joined) → i < length os → o ≡ get_or os i o →
      (joined_step W r (further W o)).state ≡ t → (joined_step W r (further W o)).has ≡ x →
      joined_walk W r (furthers W (drop i os)) ≡ all → joined_walk W (record { state = t; has = x }) (furthers W (drop (i + 1) os)) ≡ all
  chained_turn os i o r t x all lt is u v inv =
      ap (λ (q : Ran Joined). joined_walk W q (furthers W (drop (i + 1) os))) (sym (same_ran (joined_step W r (further W o)) t x u v))
      ∙ ap (λ (l : List Operand). joined_walk W r (furthers W l)) (sym (next_one os i o lt is))
      ∙ inv

  -- a prefix operator more
  pub signed_turn : (p : PrefixOp) (more : List PrefixOp) (i : ℕ) (r : Ran Signed) (t : Standing) (x : Option Signed) (all : Ran Signed) →
      (signed_by W (at W (op_at p more i).at) (op_at p more i).sign r).state ≡ t → (signed_by W (at W (op_at p more i).at) (op_at p more i).sign r).has ≡ x →
      signed_walk W p more (suc i) r ≡ all → signed_walk W p more i (record { state = t; has = x }) ≡ all
  signed_turn p more i r t x all u v inv =
      ap (λ (q : Ran Signed). signed_walk W p more i q) (sym (same_ran (signed_by W (at W (op_at p more i).at) (op_at p more i).sign r) t x u v)) ∙ inv

  -- all of them
  pub prefixed_through : (p : PrefixOp) (more : List PrefixOp) (e : Expr) (s t u : Standing) (x y : Option Signed) →
      (ran (last_signs W (op_at p more (length more)) e) s).state ≡ t → (ran (last_signs W (op_at p more (length more)) e) s).has ≡ x →
      (signed_walk W p more (length more) (record { state = t; has = x })).state ≡ u → (signed_walk W p more (length more) (record { state = t; has = x })).has ≡ y →
      ran (onward (prefixing W p more e).signs (λ g. fine (signed g))) s ≡ record { state = u; has = as_signed y }
  prefixed_through p more e s t u x y a b c d =
      let w = signed_walk W p more (length more) (record { state = t; has = x }) in
      let z : ran (prefixing W p more e).signs s ≡ record { state = u; has = y } =
      of_prefixing W p more e s
      ∙ ap (λ (q : Ran Signed). signed_walk W p more (length more) q) (same_ran (ran (last_signs W (op_at p more (length more)) e) s) t x a b)
      ∙ same_ran w u y c d in
      of_signed (prefixing W p more e).signs s ∙ ap (λ (q : Ran Signed). record { state = q.state; has = as_signed q.has }) z
