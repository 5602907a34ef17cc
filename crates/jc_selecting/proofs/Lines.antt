-- Selection along superclasses.
use Rattle.std.proofs.Common.{◌≡◌, ◌<◌, ◌+◌, ◌-◌, ◌∙◌, ℕ, zero, suc, cond, List, drop, get_or, length, position, replicate, slice_get, refl, sym, ap, arith}
use Rattle.std.proofs.lemmas.Iterator.Adapters.{position_from-zero}
use Rattle.std.proofs.Math.Seq.{drop-cons}
use Rattle.std.specs.List.{position_from}
use Rattle.std.specs.Option.{option_map}
use Rattle.std.specs.declared.option.Option.{Option}
use Rattle.std.specs.declared.option.Option.TheVariants.{Some, None}
use Rattle.jc_selecting.specs.Found.{AreTables, IsTable, found_on, is_number, or_else, own_found, own_of, parent_of}
use Rattle.jc_selecting.specs.Held.{content, held}
use Rattle.jc_selecting.specs.declared.map.SharedMap.{SharedMap}
use Rattle.jc_selecting.specs.declared.tables.Table.{Table}

-- ---- class by class

pub found_none : (parents : List (Option ℕ)) (own : List (List (Option ℕ))) (s n : ℕ) → found_on parents own s n None ≡ None
unfolding found_on
found_none parents own s n = refl

pub found_zero : (parents : List (Option ℕ)) (own : List (List (Option ℕ))) (s : ℕ) (here : Option ℕ) → found_on parents own s 0 here ≡ None
unfolding found_on
found_zero parents own s None = refl
found_zero parents own s (Some k) = refl

pub found_suc : (parents : List (Option ℕ)) (own : List (List (Option ℕ))) (s n k : ℕ) → found_on parents own s (suc n) (Some k) ≡ or_else (own_found k (own_of own k) s) (found_on parents own s n (parent_of parents k))
unfolding found_on
found_suc parents own s n k = refl

step_by : (parents : List (Option ℕ)) (own : List (List (Option ℕ))) (s n i k : ℕ) → i < n →
    found_on parents own s (n - i) (Some k) ≡ or_else (own_found k (own_of own k) s) (found_on parents own s (n - (i + 1)) (parent_of parents k))
step_by parents own s n i k below = ap (λ (m : ℕ). found_on parents own s m (Some k)) (let e : n - i ≡ suc (n - (i + 1)) = omega (arith, below) in e) ∙ found_suc parents own s (n - (i + 1)) k

-- the class has such a method
pub walk_found : (parents : List (Option ℕ)) (own : List (List (Option ℕ))) (s n i k m : ℕ) (whole : Option (ℕ × ℕ)) → i < n → position (is_number s) (own_of own k) ≡ Some m →
    found_on parents own s (n - i) (Some k) ≡ whole → Some (k, m) ≡ whole
walk_found parents own s n i k m whole below e is =
    ap (λ (o : Option ℕ). or_else (option_map (λ (x : ℕ). (k, x)) o) (found_on parents own s (n - (i + 1)) (parent_of parents k))) (sym e) ∙ sym (step_by parents own s n i k below) ∙ is

-- it has none
pub walk_more : (parents : List (Option ℕ)) (own : List (List (Option ℕ))) (s n i k : ℕ) (whole : Option (ℕ × ℕ)) → i < n → position (is_number s) (own_of own k) ≡ None →
    found_on parents own s (n - i) (Some k) ≡ whole → found_on parents own s (n - (i + 1)) (parent_of parents k) ≡ whole
walk_more parents own s n i k whole below e is =
    ap (λ (o : Option ℕ). or_else (option_map (λ (x : ℕ). (k, x)) o) (found_on parents own s (n - (i + 1)) (parent_of parents k))) (sym e) ∙ sym (step_by parents own s n i k below) ∙ is

-- there is no class any more
pub walk_end : (parents : List (Option ℕ)) (own : List (List (Option ℕ))) (s n : ℕ) (here : Option ℕ) (whole : Option (ℕ × ℕ)) → here ≡ None → found_on parents own s n here ≡ whole → None ≡ whole
walk_end parents own s n here whole none is = sym (found_none parents own s n) ∙ ap (λ (h : Option ℕ). found_on parents own s n h) (sym none) ∙ is

pub walk_over : (parents : List (Option ℕ)) (own : List (List (Option ℕ))) (s n : ℕ) (here : Option ℕ) (whole : Option (ℕ × ℕ)) → n ≡ 0 → found_on parents own s n here ≡ whole → None ≡ whole
walk_over parents own s n here whole none is = sym (found_zero parents own s here) ∙ ap (λ (m : ℕ). found_on parents own s m here) (sym none) ∙ is

-- ---- the methods of one class, from the last on

-- the first one of this number from a place on
abbrev pub own_from : ℕ → ℕ → ℕ → List (Option ℕ) → Option (ℕ × ℕ)
own_from k s i row = option_map (λ (j : ℕ). (k, j)) (position_from (is_number s) i row)

-- a map with the methods from a place on
abbrev pub Holds : ℕ → List (Option ℕ) → SharedMap → SharedMap → ℕ → Type 0
Holds k row map grown at = (s : ℕ) → held (content grown.root) s ≡ or_else (own_from k s at (drop at row)) (held (content map.root) s)

row_step : (k s i : ℕ) (row : List (Option ℕ)) → i < length row → own_from k s i (drop i row) ≡ option_map (λ (j : ℕ). (k, j)) (cond (is_number s (get_or row i None)) (Some i) (position_from (is_number s) (i + 1) (drop (i + 1) row)))
row_step k s i row inside =
    ap (λ (xs : List (Option ℕ)). own_from k s i xs) (drop-cons row i None inside)
    ∙ ap (λ (n : ℕ). option_map (λ (j : ℕ). (k, j)) (cond (is_number s (get_or row i None)) (Some i) (position_from (is_number s) (i + 1) (drop n row)))) (let e : suc i ≡ i + 1 = omega arith in e)

-- all of them
pub holds_all : (k : ℕ) (row : List (Option ℕ)) (map grown : SharedMap) (at : ℕ) → at ≡ 0 → Holds k row map grown at → (s : ℕ) → held (content grown.root) s ≡ or_else (own_found k row s) (held (content map.root) s)
holds_all k row map grown at start so s =
    so s ∙ ap (λ (n : ℕ). or_else (own_from k s n (drop n row)) (held (content map.root) s)) start
    ∙ ap (λ (o : Option ℕ). or_else (option_map (λ (j : ℕ). (k, j)) o) (held (content map.root) s)) (sym (position_from-zero (is_number s) row))

-- ---- tables

pub table_made : (parents : List (Option ℕ)) (own : List (List (Option ℕ))) (k : ℕ) (map new : SharedMap) (depth : ℕ) → depth < length parents → IsTable parents own (parent_of parents k) map depth →
    ((s : ℕ) → held (content new.root) s ≡ or_else (own_found k (own_of own k) s) (held (content map.root) s)) → IsTable parents own (Some k) new (depth + 1)
table_made parents own k map new depth below above grown = record {
  within = omega (arith, below);
  finds = λ m s h.
      ap (λ (n : ℕ). found_on parents own s n (Some k)) (let e : m ≡ suc (m - 1) = omega (arith, h) in e)
      ∙ found_suc parents own s (m - 1) k
      ∙ ap (λ (o : Option (ℕ × ℕ)). or_else (own_found k (own_of own k) s) o) (above.finds (m - 1) s (omega (arith, h)))
      ∙ sym (grown s);
}

-- where there is no class
pub table_none : (parents : List (Option ℕ)) (own : List (List (Option ℕ))) (map : SharedMap) → ((s : ℕ) → held (content map.root) s ≡ None) → IsTable parents own None map 0
table_none parents own map empty = record {
  within = omega arith;
  finds = λ m s h. found_none parents own s m ∙ sym (empty s);
}

nowhere : (n j : ℕ) (t : Table) → slice_get (replicate n None) j ≡ Some (Some t) → ⊥
nowhere zero j t e = cc
nowhere (suc n) zero t e = cc
nowhere (suc n) (suc j) t e = nowhere n j t e

-- before any is known
pub tables_none : (parents : List (Option ℕ)) (own : List (List (Option ℕ))) (tables : List (Option Table)) (n : ℕ) → tables ≡ replicate n None → AreTables parents own tables
tables_none parents own tables n none = λ k t e. absurd (nowhere n k t (ap (λ (ts : List (Option Table)). slice_get ts k) (sym none) ∙ e))
