-- What the steps of the code of primaries read.
use Rattle.std.proofs.Common.{◌≡◌, ℕ, zero, suc, ◌-◌, ◌<◌, min, List, ◌∷◌, length, Some, None, refl, sym, ap, ◌∙◌, arith}
use Rattle.jc_lexer.specs.declared.token.Token.{Token}
use Rattle.jc_tree.specs.declared.expression.Expr.{Expr}
use Rattle.jc_reading.specs.Reading.{Read, Found, Stopped, Run, noting, ◌>>=◌, becoming, joined, This, That}
use Rattle.jc_reading.specs.Further.{or_else}
use Rattle.jc_reading.specs.Growing.{one_then, steps, grown}
use Rattle.jc_expr_laws.specs.PrimeReading.{Selector, selected, selectors_run}
use Rattle.jc_expr_laws.specs.StartReading.{plain_run, special_run, which_grown, prime_run}
use Rattle.jc_expr_laws.specs.PostReading.{changed, changed_by, ops_run, post_run}
use Rattle.jc_tree.specs.Heights.{capped, expr_height}
use Rattle.jc_expr_laws.specs.ExprReading.{readers, next_readers}
use Rattle.jc_parse_expr.specs.Measuring.{measured}
use Rattle.jc_parse_expr.specs.declared.measured.Measured.{Measured}
use Rattle.jc_parse_expr.specs.PrimeCode.{array_in, expr_in, post_in, changed_on, selected_on, selector_tree, of_selector}
use Rattle.jc_parse_expr.proofs.Grows.{steps_as}

-- something is found
Finds : {A : Type 0} → Read A → Type 0
Finds (Found a r l) = Unit {0}
Finds (Stopped l) = ⊥

finds_noting : {A B : Type 0} (k : ℕ) (f : A → B) (m : Read A) → Finds m → Finds (noting k (becoming f m))
unfolding Finds
finds_noting k f (Found a r l) h = tt
finds_noting k f (Stopped l) h = absurd h

finds_then : {P : Type 0} (ts : List Token) (m : Read P) (rest : P → List Token → Read (List P)) → ((p : P) (q : List Token) → Finds (rest p q)) → Finds (one_then ts m rest)
unfolding Finds
finds_then ts (Found p q l) rest f = finds_noting l (λ more. p ∷ more) (rest p q) (f p q)
finds_then ts (Stopped l) rest f = tt

steps_finds : {V P : Type 0} (n : ℕ) (make : V → P → V) (part : V → Run P) (v : V) (ts : List Token) → Finds (steps n make part v ts)
unfolding steps Finds
steps_finds zero make part v ts = tt
steps_finds (suc n) make part v ts = finds_then ts (part v ts) (λ p. steps n make part (make v p)) (λ p q. steps_finds n make part (make v p) q)

same_selected : (v : Expr) (p : Selector) → selected v p ≡ of_selector v (selector_tree p)
same_selected v (This p) = refl
same_selected v (That (u, This p)) = refl
same_selected v (That (u, That (This p))) = refl
same_selected v (That (u, That (That (name, None)))) = refl
same_selected v (That (u, That (That (name, Some list)))) = refl

module _ (h : ℕ) where
  selecting : Expr → List Token → Read (List Selector)
  selecting v ts = steps (length ts) selected (selectors_run h (expr_in h) (array_in h)) v ts

  on_selected : (v : Expr) (ts : List Token) (k : ℕ) → noting k (becoming (grown selected v) (selecting v ts)) ≡ selected_on h v ts k
  unfolding selecting
  on_selected v ts k = ap (noting k) (steps_as selected of_selector selector_tree (selectors_run h (expr_in h) (array_in h)) same_selected (length ts) v ts)

  special_by : (v : Expr) (ts q : List Token) (l : ℕ) (m : Read (List Selector)) (n : Run (Expr × List Selector)) → Finds m → becoming which_grown (or_else ts (noting l (becoming (joined v) m)) n) ≡ noting l (becoming (grown selected v) m)
  unfolding Finds
  special_by v ts q l (Found list r k) n h = refl
  special_by v ts q l (Stopped k) n h = absurd h

  pub prime_special : (ts r : List Token) (v : Expr) (l : ℕ) → special_run h ts ≡ Found v r l → prime_run h (expr_in h) (array_in h) ts ≡ selected_on h v r l
  unfolding prime_run selecting
  prime_special ts r v l e =
      ap (λ (m : Read Expr). becoming which_grown (or_else ts (m >>= (λ v q. becoming (joined v) (selecting v q))) (λ ts. plain_run h (expr_in h) (array_in h) ts >>= (λ v q. becoming (joined v) (selecting v q))))) e
      ∙ special_by v ts r l (selecting v r) _ (steps_finds (length r) selected (selectors_run h (expr_in h) (array_in h)) v r) ∙ on_selected v r l

  plain_by : (v : Expr) (k l : ℕ) (m : Read (List Selector)) → becoming which_grown (noting k (becoming That (noting l (becoming (joined v) m)))) ≡ noting (min k l) (becoming (grown selected v) m)
  plain_by v k l (Found list r j) = let e : min k (min l j) ≡ min (min k l) j = omega arith in ap (λ i. Found (grown selected v list) r i) e
  plain_by v k l (Stopped j) = let e : min k (min l j) ≡ min (min k l) j = omega arith in ap (λ i. Stopped i) e

  after_special : (ts : List Token) (k : ℕ) → special_run h ts ≡ Stopped k → prime_run h (expr_in h) (array_in h) ts ≡ becoming which_grown (noting k (becoming That (plain_run h (expr_in h) (array_in h) ts >>= (λ v q. becoming (joined v) (selecting v q)))))
  unfolding prime_run selecting
  after_special ts k e = ap (λ (m : Read Expr). becoming which_grown (or_else ts (m >>= (λ v q. becoming (joined v) (selecting v q))) (λ ts. plain_run h (expr_in h) (array_in h) ts >>= (λ v q. becoming (joined v) (selecting v q))))) e

  pub prime_plain : (ts r : List Token) (v : Expr) (k l : ℕ) → special_run h ts ≡ Stopped k → plain_run h (expr_in h) (array_in h) ts ≡ Found v r l → prime_run h (expr_in h) (array_in h) ts ≡ selected_on h v r (min k l)
  prime_plain ts r v k l e f =
      after_special ts k e
      ∙ ap (λ (m : Read Expr). becoming which_grown (noting k (becoming That (m >>= (λ v q. becoming (joined v) (selecting v q)))))) f
      ∙ plain_by v k l (selecting v r) ∙ on_selected v r (min k l)

  pub prime_stops : (ts : List Token) (k l : ℕ) → special_run h ts ≡ Stopped k → plain_run h (expr_in h) (array_in h) ts ≡ Stopped l → prime_run h (expr_in h) (array_in h) ts ≡ Stopped (min k l)
  prime_stops ts k l e f =
      after_special ts k e ∙ ap (λ (m : Read Expr). becoming which_grown (noting k (becoming That (m >>= (λ v q. becoming (joined v) (selecting v q)))))) f

  changed_by_parts : (v : Expr) (l : ℕ) (m : Read (List _)) → becoming changed_by (noting l (becoming (joined v) m)) ≡ noting l (becoming (grown changed v) m)
  changed_by_parts v l (Found list r k) = refl
  changed_by_parts v l (Stopped k) = refl

  pub post_found : (ts r : List Token) (v : Expr) (l : ℕ) → prime_run h (expr_in h) (array_in h) ts ≡ Found v r l → post_run h (expr_in h) (array_in h) ts ≡ changed_on h v r l
  unfolding post_run
  post_found ts r v l e =
      ap (λ (m : Read Expr). becoming changed_by (m >>= (λ v q. becoming (joined v) (steps (length q) changed (ops_run h) v q)))) e ∙ changed_by_parts v l (steps (length r) changed (ops_run h) v r)

  pub post_stops : (ts : List Token) (l : ℕ) → prime_run h (expr_in h) (array_in h) ts ≡ Stopped l → post_run h (expr_in h) (array_in h) ts ≡ Stopped l
  unfolding post_run
  post_stops ts l e = ap (λ (m : Read Expr). becoming changed_by (m >>= (λ v q. becoming (joined v) (steps (length q) changed (ops_run h) v q)))) e

-- the postfix level of each height

pub post_low : (h : ℕ) (ts : List Token) → h ≡ 0 → becoming measured (post_in h ts) ≡ Stopped (length ts)
unfolding readers
post_low zero ts e = refl
post_low (suc k) ts e = absurd (omega (arith, e))

post_next : (h : ℕ) (ts : List Token) → 0 < h → post_in h ts ≡ post_run (h - 1) (expr_in (h - 1)) (array_in (h - 1)) ts
unfolding readers next_readers
post_next zero ts p = absurd (omega (arith, p))
post_next (suc k) ts p = let e : k ≡ suc k - 1 = omega arith in ap (λ (n : ℕ). post_run n (expr_in n) (array_in n) ts) e

pub post_made : (h : ℕ) (ts r s : List Token) (v : Expr) (m : Measured Expr) (l k : ℕ) → 0 < h → prime_run (h - 1) (expr_in (h - 1)) (array_in (h - 1)) ts ≡ Found v r l → changed_on (h - 1) v r l ≡ Found m.tree s k → m.height ≡ capped (expr_height m.tree)
    → becoming measured (post_in h ts) ≡ Found m s k
post_made h ts r s v m l k p e f g =
    ap (becoming measured) (post_next h ts p ∙ post_found (h - 1) ts r v l e ∙ f) ∙ ap (λ (n : ℕ). Found (record { tree = m.tree; height = n }) s k) (sym g)

pub post_halts : (h : ℕ) (ts : List Token) (l : ℕ) → 0 < h → prime_run (h - 1) (expr_in (h - 1)) (array_in (h - 1)) ts ≡ Stopped l → becoming measured (post_in h ts) ≡ Stopped l
post_halts h ts l p e = ap (becoming measured) (post_next h ts p ∙ post_stops (h - 1) ts l e)
