-- The level of `<` and `instanceof`: its first operand is of the next level, and behind it stand comparisons.
use Rattle.std.proofs.Common.{◌≡◌, ℕ, suc, ◌+◌, ◌≤◌, max, Bool, true, false, List, [], ◌∷◌, map, length, refl, sym, ap, ◌∙◌, subst, ⊎_elim, arith}
use Rattle.std.proofs.lemmas.Bool.{and_parts, and_from, cases_Bool, leb-true, le-leb, eqb-true}
use Rattle.std.specs.Prelude.{◌&&◌, ◌||◌, nat_le, not, ◌==◌}
use Rattle.std.specs.List.{list_all}
use Rattle.jc_tree.specs.declared.expression.Expr.{Expr}
use Rattle.jc_tree.specs.declared.expression.Expr.TheVariants as expr_of
use Rattle.jc_tree.specs.declared.expression.Operand.{Operand}
use Rattle.jc_tree.specs.Heights.{most, expr_height, operand_height}
use Rattle.jc_tree.proofs.HeightsOfExpressions.{expr_height-Chain}
use Rattle.jc_grammar.specs.Told.{Told, each}
use Rattle.jc_grammar.specs.Expressions.{expr_tokens, operand_tokens}
use Rattle.jc_grammar.specs.Shapes.{Shape, OperandShape, stands, of_level, longest_types, expr_shape, operand_shape, chain_shape, is_none}
use Rattle.jc_grammar.proofs.ShapesOfExpressions.{expr_shape-Chain}
use Rattle.jc_grammar.proofs.Stands.{stands_looser}
use Rattle.jc_grammar.proofs.TokensOfExpressions.{expr_tokens-Chain}
use Rattle.jc_reading.specs.Reading.{Run}
use Rattle.jc_reading.proofs.Lists.{tell_all}
use Rattle.jc_reading.proofs.Rooms.{room_suc, room_max}
use Rattle.jc_expr_laws.specs.LevelReading.{is_tall}
use Rattle.jc_expr_laws.specs.CompareReading.{Comparison, behind_part, compared_operand, compared_made, next_comparison_run}
use Rattle.jc_expr_laws.proofs.LevelShapes.{IsChain, chain_only, exactly}
use Rattle.jc_expr_laws.proofs.CompareLinks.{fits_links}
use Rattle.jc_expr_laws.proofs.CompareParts.{soft, hard, part_starts, part_ends, part_fits}
use Rattle.jc_expr_laws.proofs.CompareLinked.{told_operand}
use Rattle.jc_expr_laws.proofs.CompareShapes.{On, compared_all, OfCompared, compared_back}

told_operands : (list : List Comparison) (r : List Told) → each (map operand_tokens (map compared_operand list)) r ≡ tell_all hard list r
told_operands [] r = refl
told_operands (p ∷ list) r = told_operand p (each (map operand_tokens (map compared_operand list)) r) ∙ ap (hard p) (told_operands list r)

pub compared_tokens : (p : Expr × List Comparison) (r : List Told) → expr_tokens (compared_made p) r ≡ expr_tokens p.0 (tell_all hard p.1 r)
compared_tokens (first, []) r = refl
compared_tokens (first, q ∷ more) r = expr_tokens-Chain first (map compared_operand (q ∷ more)) r ∙ ap (expr_tokens first) (told_operands (q ∷ more) r)

module _ (k : ℕ) (next : Run Expr) where
  abbrev h : ℕ
  h = suc k

  abbrev pub List_fits : List Comparison → Bool
  List_fits list = fits_links Bool Comparison behind_part soft hard (part_fits k next) (next_comparison_run (suc k) next) (part_starts k next) (part_ends k next) false false list

  -- a first operand with what may stand behind it
  abbrev pub fit_compared : Expr × List Comparison → Bool
  fit_compared p = (nat_le (expr_height p.0) (suc h) && stands 9 (expr_shape p.0)) && (List_fits p.1 && (is_none p.1 || not (is_tall h p.0)))

  not_not : (b : Bool) → not (not b) ≡ true → b ≡ true
  not_not true e = refl
  not_not false e = e

  high_chain : (first : Expr) (rest : List Operand) → nat_le (expr_height (expr_of.Chain first rest)) (suc h) ≡ (nat_le (expr_height first) h && nat_le (most (map operand_height rest)) h)
  high_chain first rest = ap (λ (n : ℕ). nat_le n (suc h)) (expr_height-Chain first rest) ∙ room_suc (max (expr_height first) (most (map operand_height rest))) h ∙ room_max (expr_height first) (most (map operand_height rest)) h

  abbrev plain_shape : OperandShape
  plain_shape = record { level = 0; good = true; bare = false; less = false }

  shape_made : (o : OperandShape) (os : List OperandShape) (s : Shape) → stands 9 s ≡ true → list_all (of_level 8) (o ∷ os) ≡ true → longest_types o os ≡ true → stands 8 (chain_shape s (o ∷ os)) ≡ true
  shape_made o os s f all long = shape_at o.level (sym (eqb-true o.level 8 (and_parts o.good (o.level == 8) (and_parts (of_level 8 o) (list_all (of_level 8) os) all).0).1))
    where
      shape_at : (n : ℕ) → 8 ≡ n → (((stands (n + 1) s && list_all (of_level n) (o ∷ os)) && longest_types o os) && nat_le 8 n) ≡ true
      shape_at n e =
          subst (λ (j : ℕ). (((stands (j + 1) s && list_all (of_level j) (o ∷ os)) && longest_types o os) && nat_le 8 j) ≡ true) e
          (and_from ((stands 9 s && list_all (of_level 8) (o ∷ os)) && longest_types o os) (nat_le 8 8)
          (and_from (stands 9 s && list_all (of_level 8) (o ∷ os)) (longest_types o os) (and_from (stands 9 s) (list_all (of_level 8) (o ∷ os)) f all) long)
          refl)

  pub fits_forth : (p : Expr × List Comparison) → fit_compared p ≡ true → (nat_le (expr_height (compared_made p)) (suc h) && stands 8 (expr_shape (compared_made p))) ≡ true
  fits_forth (first, []) g =
      let a = and_parts (nat_le (expr_height first) (suc h) && stands 9 (expr_shape first)) (true && true) g in
      let b = and_parts (nat_le (expr_height first) (suc h)) (stands 9 (expr_shape first)) a.0 in
      and_from (nat_le (expr_height first) (suc h)) (stands 8 (expr_shape first)) b.0 (stands_looser 8 9 (expr_shape first) (omega arith) b.1)
  fits_forth (first, q ∷ more) g =
      let rest = map compared_operand (q ∷ more) in
      let a = and_parts (nat_le (expr_height first) (suc h) && stands 9 (expr_shape first)) (On k next false (q ∷ more) && (false || not (is_tall h first))) g in
      let b = and_parts (nat_le (expr_height first) (suc h)) (stands 9 (expr_shape first)) a.0 in
      let c = and_parts (On k next false (q ∷ more)) (false || not (is_tall h first)) a.1 in
      let all = compared_all k next false (q ∷ more) c.0 in
      let long = and_parts (not (false && (operand_shape (compared_operand q)).less)) (longest_types (operand_shape (compared_operand q)) (map operand_shape (map compared_operand more))) (all.longest plain_shape refl) in
      and_from (nat_le (expr_height (expr_of.Chain first rest)) (suc h)) (stands 8 (expr_shape (expr_of.Chain first rest)))
      (high_chain first rest ∙ and_from (nat_le (expr_height first) h) (nat_le (most (map operand_height rest)) h) (not_not (nat_le (expr_height first) h) c.1) all.heights)
      (subst (λ (z : Shape). stands 8 z ≡ true) (sym (expr_shape-Chain first rest)) (shape_made (operand_shape (compared_operand q)) (map operand_shape (map compared_operand more)) (expr_shape first) b.1 all.shapes long.1))

  pub record OfComparisons (e : Expr) : Type 0 where
    pub value : Expr × List Comparison
    pub is_it : compared_made value ≡ e
    pub fit : fit_compared value ≡ true

  with_list : (first : Expr) (o : Operand) (rest : List Operand) → OfCompared k next false (o ∷ rest) → nat_le (expr_height first) h ≡ true → stands 9 (expr_shape first) ≡ true → OfComparisons (expr_of.Chain first (o ∷ rest))
  with_list first o rest w hf sf = at_list w.list w.are w.fit
    where
      up : nat_le (expr_height first) (suc h) ≡ true
      up = let j : expr_height first ≤ h = leb-true (expr_height first) h hf in le-leb (expr_height first) (suc h) (omega (arith, j))

      no_list : [] ≡ (o ∷ rest) → ⊥
      no_list e = let l : 0 ≡ suc (length rest) = ap length e in omega (arith, l)

      at_list : (list : List Comparison) → map compared_operand list ≡ (o ∷ rest) → On k next false list ≡ true → OfComparisons (expr_of.Chain first (o ∷ rest))
      at_list [] are fit = absurd (no_list are)
      at_list (q ∷ list) are fit = record {
        value = (first, q ∷ list);
        is_it = ap (λ (l : List Operand). expr_of.Chain first l) are;
        fit = and_from (nat_le (expr_height first) (suc h) && stands 9 (expr_shape first)) (On k next false (q ∷ list) && (false || not (is_tall h first)))
            (and_from (nat_le (expr_height first) (suc h)) (stands 9 (expr_shape first)) up sf)
            (and_from (On k next false (q ∷ list)) (false || not (is_tall h first)) fit (ap (λ (b : Bool). not (not b)) hf));
      }

  with_shape : (first : Expr) (o : Operand) (rest : List Operand) (n : ℕ) → n ≡ 8 → (((stands (n + 1) (expr_shape first) && list_all (of_level n) (map operand_shape (o ∷ rest))) && longest_types (operand_shape o) (map operand_shape rest)) && nat_le 8 n) ≡ true
      → nat_le (expr_height first) h ≡ true → nat_le (most (map operand_height (o ∷ rest))) h ≡ true → OfComparisons (expr_of.Chain first (o ∷ rest))
  with_shape first o rest n e s hf hr =
      let p = and_parts ((stands (n + 1) (expr_shape first) && list_all (of_level n) (map operand_shape (o ∷ rest))) && longest_types (operand_shape o) (map operand_shape rest)) (nat_le 8 n) s in
      let q = and_parts (stands (n + 1) (expr_shape first) && list_all (of_level n) (map operand_shape (o ∷ rest))) (longest_types (operand_shape o) (map operand_shape rest)) p.0 in
      let t = and_parts (stands (n + 1) (expr_shape first)) (list_all (of_level n) (map operand_shape (o ∷ rest))) q.0 in
      with_list first o rest
      (compared_back k next (o ∷ rest) false plain_shape refl (subst (λ (j : ℕ). list_all (of_level j) (map operand_shape (o ∷ rest)) ≡ true) e t.1) hr
      (and_from (not (false && (operand_shape o).less)) (longest_types (operand_shape o) (map operand_shape rest)) refl q.1))
      hf (subst (λ (j : ℕ). stands (j + 1) (expr_shape first) ≡ true) e t.0)

  chain_back : (first : Expr) (rest : List Operand) → (nat_le (expr_height (expr_of.Chain first rest)) (suc h) && stands 8 (expr_shape (expr_of.Chain first rest))) ≡ true → (expr_shape (expr_of.Chain first rest)).level ≡ 8 → OfComparisons (expr_of.Chain first rest)
  chain_back first [] g n = let j : 0 ≡ 8 = sym (ap (λ (s : Shape). s.level) (expr_shape-Chain first [])) ∙ n in absurd (omega (arith, j))
  chain_back first (o ∷ rest) g n =
      let a = and_parts (nat_le (expr_height (expr_of.Chain first (o ∷ rest))) (suc h)) (stands 8 (expr_shape (expr_of.Chain first (o ∷ rest)))) g in
      let high = and_parts (nat_le (expr_height first) h) (nat_le (most (map operand_height (o ∷ rest))) h) (sym (high_chain first (o ∷ rest)) ∙ a.0) in
      let j : (operand_shape o).level ≡ 8 = sym (ap (λ (s : Shape). s.level) (expr_shape-Chain first (o ∷ rest))) ∙ n in
      let s : stands 8 (chain_shape (expr_shape first) (map operand_shape (o ∷ rest))) ≡ true = subst (λ (z : Shape). stands 8 z ≡ true) (expr_shape-Chain first (o ∷ rest)) a.1 in
      with_shape first o rest (operand_shape o).level j s high.0 high.1

  pub fits_back : (e : Expr) → (nat_le (expr_height e) (suc h) && stands 8 (expr_shape e)) ≡ true → OfComparisons e
  fits_back e g =
      let a = and_parts (nat_le (expr_height e) (suc h)) (stands 8 (expr_shape e)) g in
      ⊎_elim
      (λ (t : stands 9 (expr_shape e) ≡ true). record {
        value = (e, []);
        is_it = refl;
        fit = and_from (nat_le (expr_height e) (suc h) && stands 9 (expr_shape e)) (true && true) (and_from (nat_le (expr_height e) (suc h)) (stands 9 (expr_shape e)) a.0 t) refl;
      })
      (λ (f : stands 9 (expr_shape e) ≡ false). let n = exactly 8 (expr_shape e) a.1 f in of_chain e g n (chain_only 8 (omega arith) (omega arith) e n))
      (cases_Bool (stands 9 (expr_shape e)))
    where
      of_chain : (e : Expr) → (nat_le (expr_height e) (suc h) && stands 8 (expr_shape e)) ≡ true → (expr_shape e).level ≡ 8 → IsChain e → OfComparisons e
      of_chain e g n c =
          subst (λ (x : Expr). OfComparisons x) c.is_it
          (chain_back c.first c.rest (subst (λ (x : Expr). (nat_le (expr_height x) (suc h) && stands 8 (expr_shape x)) ≡ true) (sym c.is_it) g) (ap (λ (x : Expr). (expr_shape x).level) c.is_it ∙ n))
