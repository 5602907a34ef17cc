-- Where the instructions of `main` stand.
use Rattle.std.proofs.Common.{◌≡◌, ◌≤◌, ◌<◌, ℕ, ◌+◌, ◌-◌, ◌*◌, Bool, true, false, List, [], ◌∷◌, length, refl, ap, ◌∙◌, arith, Some, if◌then◌else◌, le-leb}
use Rattle.std.specs.Prelude.{◌==◌}
use Rattle.std.proofs.Common.{eqb-true}
use Rattle.jc_rules.proofs.Truths.{self_equal}
use Rattle.jc_class_out.specs.declared.model.Ins.{Ins}
use Rattle.jc_machine.specs.declared.rows.Row.{Row}
use Rattle.jc_machine.specs.Rows.{row_of}
use Rattle.jc_machine.specs.Code.{size_of, rest_from, place_of, first_place}
use Rattle.jc_machine.specs.Names.{placed_at}
use Rattle.jc_small.specs.Small.{Program}
use Rattle.jc_small.specs.ClassOf.{main_code, main_class}
use Rattle.jc_machine.proofs.Placement.{has_a_byte as size_some}

unlike : (m n : ℕ) → m < n → (m == n) ≡ false
unlike m n h = by_test (m == n) refl
  where
    by_test : (b : Bool) → (m == n) ≡ b → (m == n) ≡ false
    by_test true e = let same : m ≡ n = eqb-true m n e in absurd (omega arith)
    by_test false e = e

pub rest_here : (at : ℕ) (is : List Ins) → rest_from at is at ≡ is
rest_here at [] = refl
rest_here at (i ∷ is) = rw (self_equal at) refl

-- behind an instruction stand those that come after it
rest_after : (start at : ℕ) (code : List Ins) (i : Ins) (rest : List Ins) → rest_from start code at ≡ i ∷ rest → (start ≤ at) × (rest_from start code (at + size_of at i) ≡ rest)
rest_after start at [] i rest e = cc
rest_after start at (c ∷ cs) i rest e = by_test (start == at) refl e (rest_after (start + size_of start c) at cs i rest)
  where
    by_test : (b : Bool) → (start == at) ≡ b → (if b then c ∷ cs else rest_from (start + size_of start c) cs at) ≡ i ∷ rest
        → (rest_from (start + size_of start c) cs at ≡ i ∷ rest → (start + size_of start c ≤ at) × (rest_from (start + size_of start c) cs (at + size_of at i) ≡ rest))
        → (start ≤ at) × (rest_from start (c ∷ cs) (at + size_of at i) ≡ rest)
    by_test true t f more =
        let same : start ≡ at = eqb-true start at t in
        let first : c ≡ i = cc in
        let others : cs ≡ rest = cc in
        let some = size_some at i in
        let place : start + size_of start c ≡ at + size_of at i = rw (same, first) refl in
        (omega arith, rw (unlike start (at + size_of at i) (omega arith)) (ap (λ (n : ℕ). rest_from n cs (at + size_of at i)) place ∙ rest_here (at + size_of at i) cs ∙ others))
    by_test false t f more =
        let is = more f in
        let some = size_some start c in
        (omega (arith, is.0), rw (unlike start (at + size_of at i) (omega (arith, is.0, size_some at i))) is.1)

module _ (program : Program) where
  -- these instructions of main, to its end, stand at this place
  pub record Stands (at : ℕ) (is : List Ins) : Type 0 where
    pub from : rest_from 0 (main_code program) at ≡ is
    pub room : at + 3 * length is ≤ 65535

  pub stands_next : (at : ℕ) (i : Ins) (rest : List Ins) → size_of at i ≤ 3 → Stands at (i ∷ rest) → Stands (at + size_of at i) rest
  stands_next at i rest small s = record { from = (rest_after 0 at (main_code program) i rest s.from).1; room = omega (arith, s.room) }

  placed_ended : (at : ℕ) (i : Ins) (row : Row) → row_of i ≡ Some row → at + size_of at i ≤ 65535 → place_of at i ≡ Some (record { row = row; next = at + size_of at i })
  placed_ended at i row r h = rw (le-leb (at + size_of at i) 65535 h, r) refl

  -- the machine finds the row of an instruction at its place
  pub placed : (at : ℕ) (i : Ins) (rest : List Ins) (row : Row) → row_of i ≡ Some row → size_of at i ≤ 3 → Stands at (i ∷ rest)
      → placed_at (main_class program ∷ []) 0 1 at ≡ Some (record { row = row; next = at + size_of at i })
  placed at i rest row r small s = ap (first_place at) s.from ∙ placed_ended at i row r (omega (arith, s.room))
