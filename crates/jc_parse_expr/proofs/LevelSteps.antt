-- The readers of each height by those below, as the code goes from one to the other.
use Rattle.std.proofs.Common.{◌≡◌, ℕ, zero, suc, ◌-◌, Bool, true, false, cond, List, [], ◌∷◌, map, length, Option, None, refl, ap, ◌∙◌, subst, arith}
use Rattle.jc_lexer.specs.declared.token.Token.{Token}
use Rattle.jc_tree.specs.declared.expression.AssignOp.{AssignOp}
use Rattle.jc_tree.specs.declared.expression.BinaryOp.{BinaryOp}
use Rattle.jc_tree.specs.declared.expression.Expr.{Expr}
use Rattle.jc_tree.specs.declared.expression.Operand.{Operand}
use Rattle.jc_reading.specs.Reading.{Read, Found, Stopped, Run, found, noting, becoming, joined, as_new, in_turn, perhaps, any_number, ◌>>=◌}
use Rattle.jc_reading.specs.Further.{unless}
use Rattle.jc_reading.proofs.Turns.{times_as}
use Rattle.jc_expr_laws.specs.LevelReading.{is_tall, no_target, operand_made, chain_made, chain_run, Branches, conditional_made, conditional_run, assign_made, assign_run, expr_run, next_levels}
use Rattle.jc_expr_laws.specs.CompareReading.{Comparison, compared_operand, compared_made, comparisons_run, compare_run}
use Rattle.jc_expr_laws.specs.ExprReading.{next_readers, readers}
use Rattle.jc_parse_expr.specs.declared.operators.Level.{Level}
use Rattle.jc_parse_expr.specs.declared.operators.Level.TheVariants as level_of
use Rattle.jc_parse_expr.specs.BinaryLevels.{levels_at, level_run, tighter_run, operands_run, chain_of, branches_run}
use Rattle.jc_parse_expr.proofs.Rungs.{Rung, rung_run}

-- more that is made of others

module _ {T U : Type 0} (f : T → U) (none : T) (made : (Expr × T) → Expr) (made' : (Expr × U) → Expr) (same : (e : Expr) (t : T) → made (e, t) ≡ made' (e, f t)) where
  remade_more : (e : Expr) (m : Read T) (l : ℕ) → becoming made (noting l (becoming (joined e) m)) ≡ becoming made' (noting l (becoming (joined e) (becoming f m)))
  remade_more e (Found t q n) l = ap (λ (x : Expr). noting l (Found x q n)) (same e t)
  remade_more e (Stopped n) l = refl

  remade_there : (b : Bool) (e : Expr) (r : List Token) (m : Read T) (l : ℕ) → becoming made (noting l (cond b (found (e, none) r) (becoming (joined e) m))) ≡ becoming made' (noting l (cond b (found (e, f none) r) (becoming (joined e) (becoming f m))))
  remade_there true e r m l = ap (λ (x : Expr). noting l (found x r)) (same e none)
  remade_there false e r m l = remade_more e m l

  remade_on : (closes : Expr → Bool) (more : Run T) (m : Read Expr) → becoming made (m >>= unless closes none more) ≡ becoming made' (m >>= unless closes (f none) (as_new f more))
  remade_on closes more (Found e r l) = remade_there (closes e) e r (more r) l
  remade_on closes more (Stopped l) = refl

  remade : (closes : Expr → Bool) (first : Run Expr) (more : Run T) (ts : List Token) → rung_run closes none made first more ts ≡ rung_run closes (f none) made' first (as_new f more) ts
  remade closes first more ts = remade_on closes more (first ts)

-- the two last made the same way
module _ {T : Type 0} (made made' : (Expr × T) → Expr) (closes : Expr → Bool) (none : T) (first : Run Expr) (more more' : Run T) (same : (ts : List Token) → more ts ≡ more' ts) where
  rerun_on : (m : Read Expr) → becoming made (m >>= unless closes none more) ≡ becoming made (m >>= unless closes none more')
  rerun_on (Found e r l) = ap (λ (x : Read T). becoming made (noting l (cond (closes e) (found (e, none) r) (becoming (joined e) x)))) (same r)
  rerun_on (Stopped l) = refl

  rerun : (ts : List Token) → rung_run closes none made first more ts ≡ rung_run closes none made first more' ts
  rerun ts = rerun_on (first ts)

-- the last level

pub expr_rung : (h : ℕ) → Rung (Option (AssignOp × Expr)) (no_target (h - 1)) None assign_made (levels_at h).conditional (levels_at h).expr (perhaps (in_turn assign_run (levels_at (h - 1)).expr)) h
unfolding readers next_readers next_levels expr_run
expr_rung zero = record { low = λ ts e. refl; high = λ ts e. absurd (omega (arith, e)); alone = λ e. refl }
expr_rung (suc zero) = record { low = λ ts e. refl; high = λ ts e. absurd (omega (arith, e)); alone = λ e. refl }
expr_rung (suc (suc k)) =
    let j : suc k ≡ suc (suc k) - 1 = omega arith in
    subst (λ (i : ℕ). Rung (Option (AssignOp × Expr)) (no_target i) None assign_made (levels_at (suc (suc k))).conditional (levels_at (suc (suc k))).expr (perhaps (in_turn assign_run (levels_at i).expr)) (suc (suc k))) j
    (record { low = λ ts e. absurd (omega (arith, e)); high = λ ts e. refl; alone = λ e. refl })

pub conditional_rung : (h : ℕ) → Rung Branches (is_tall (h - 1)) None conditional_made (levels_at h).or_else (levels_at h).conditional (perhaps (branches_run (levels_at (h - 1)))) h
unfolding readers next_readers next_levels conditional_run
conditional_rung zero = record { low = λ ts e. refl; high = λ ts e. absurd (omega (arith, e)); alone = λ e. refl }
conditional_rung (suc zero) = record { low = λ ts e. refl; high = λ ts e. absurd (omega (arith, e)); alone = λ e. refl }
conditional_rung (suc (suc k)) =
    let j : suc k ≡ suc (suc k) - 1 = omega arith in
    subst (λ (i : ℕ). Rung Branches (is_tall i) None conditional_made (levels_at (suc (suc k))).or_else (levels_at (suc (suc k))).conditional (perhaps (branches_run (levels_at i))) (suc (suc k))) j
    (record { low = λ ts e. absurd (omega (arith, e)); high = λ ts e. refl; alone = λ e. refl })

-- the binary levels

chain_same : (e : Expr) (t : List (BinaryOp × Expr)) → chain_made (e, t) ≡ chain_of (e, map operand_made t)
chain_same e [] = refl
chain_same e (p ∷ more) = refl

compared_same : (e : Expr) (t : List Comparison) → compared_made (e, t) ≡ chain_of (e, map compared_operand t)
compared_same e [] = refl
compared_same e (p ∷ more) = refl

chain_high : (k : ℕ) (op : Run BinaryOp) (first next : Run Expr) (ts : List Token) → chain_run (suc k) op first next ts ≡ rung_run (is_tall (suc k)) [] chain_of first (any_number (as_new operand_made (in_turn op next))) ts
unfolding chain_run
chain_high k op first next ts =
    remade (map operand_made) [] chain_made chain_of chain_same (is_tall (suc k)) first (any_number (in_turn op next)) ts
    ∙ rerun chain_of chain_of (is_tall (suc k)) [] first (as_new (map operand_made) (any_number (in_turn op next))) (any_number (as_new operand_made (in_turn op next))) (λ q. times_as operand_made (length q) (in_turn op next) q) ts

compared_high : (k : ℕ) (first next : Run Expr) (ts : List Token) → compare_run (suc k) first next ts ≡ rung_run (is_tall (suc k)) [] chain_of first (as_new (map compared_operand) (comparisons_run (suc k) next)) ts
unfolding compare_run
compared_high k first next ts = remade (map compared_operand) [] compared_made chain_of compared_same (is_tall (suc k)) first (comparisons_run (suc k) next) ts

abbrev LevelRung : Level → ℕ → ℕ → Type 0
LevelRung level h i = Rung (List Operand) (is_tall i) [] chain_of (tighter_run level (levels_at h)) (level_run level (levels_at h)) (operands_run level i (tighter_run level (levels_at i))) h

lowest_rung : (level : Level) → LevelRung level zero (zero - 1)
unfolding readers
lowest_rung level_of.OrElse = record { low = λ ts e. refl; high = λ ts e. absurd (omega (arith, e)); alone = λ e. refl }
lowest_rung level_of.AndAlso = record { low = λ ts e. refl; high = λ ts e. absurd (omega (arith, e)); alone = λ e. refl }
lowest_rung level_of.Or = record { low = λ ts e. refl; high = λ ts e. absurd (omega (arith, e)); alone = λ e. refl }
lowest_rung level_of.Xor = record { low = λ ts e. refl; high = λ ts e. absurd (omega (arith, e)); alone = λ e. refl }
lowest_rung level_of.And = record { low = λ ts e. refl; high = λ ts e. absurd (omega (arith, e)); alone = λ e. refl }
lowest_rung level_of.Equal = record { low = λ ts e. refl; high = λ ts e. absurd (omega (arith, e)); alone = λ e. refl }
lowest_rung level_of.Compared = record { low = λ ts e. refl; high = λ ts e. absurd (omega (arith, e)); alone = λ e. refl }
lowest_rung level_of.Shift = record { low = λ ts e. refl; high = λ ts e. absurd (omega (arith, e)); alone = λ e. refl }
lowest_rung level_of.Plus = record { low = λ ts e. refl; high = λ ts e. absurd (omega (arith, e)); alone = λ e. refl }
lowest_rung level_of.Times = record { low = λ ts e. refl; high = λ ts e. absurd (omega (arith, e)); alone = λ e. refl }

low_rung : (level : Level) → LevelRung level (suc zero) (suc zero - 1)
unfolding readers next_readers next_levels chain_run compare_run
low_rung level_of.OrElse = record { low = λ ts e. refl; high = λ ts e. absurd (omega (arith, e)); alone = λ e. refl }
low_rung level_of.AndAlso = record { low = λ ts e. refl; high = λ ts e. absurd (omega (arith, e)); alone = λ e. refl }
low_rung level_of.Or = record { low = λ ts e. refl; high = λ ts e. absurd (omega (arith, e)); alone = λ e. refl }
low_rung level_of.Xor = record { low = λ ts e. refl; high = λ ts e. absurd (omega (arith, e)); alone = λ e. refl }
low_rung level_of.And = record { low = λ ts e. refl; high = λ ts e. absurd (omega (arith, e)); alone = λ e. refl }
low_rung level_of.Equal = record { low = λ ts e. refl; high = λ ts e. absurd (omega (arith, e)); alone = λ e. refl }
low_rung level_of.Compared = record { low = λ ts e. refl; high = λ ts e. absurd (omega (arith, e)); alone = λ e. refl }
low_rung level_of.Shift = record { low = λ ts e. refl; high = λ ts e. absurd (omega (arith, e)); alone = λ e. refl }
low_rung level_of.Plus = record { low = λ ts e. refl; high = λ ts e. absurd (omega (arith, e)); alone = λ e. refl }
low_rung level_of.Times = record { low = λ ts e. refl; high = λ ts e. absurd (omega (arith, e)); alone = λ e. refl }

high_at : (level : Level) (k : ℕ) (ts : List Token) → level_run level (levels_at (suc (suc k))) ts ≡ rung_run (is_tall (suc k)) [] chain_of (tighter_run level (levels_at (suc (suc k)))) (operands_run level (suc k) (tighter_run level (levels_at (suc k)))) ts
unfolding readers next_readers next_levels
high_at level_of.OrElse k ts = chain_high k _ (levels_at (suc (suc k))).and_also (levels_at (suc k)).and_also ts
high_at level_of.AndAlso k ts = chain_high k _ (levels_at (suc (suc k))).bit_or (levels_at (suc k)).bit_or ts
high_at level_of.Or k ts = chain_high k _ (levels_at (suc (suc k))).bit_xor (levels_at (suc k)).bit_xor ts
high_at level_of.Xor k ts = chain_high k _ (levels_at (suc (suc k))).bit_and (levels_at (suc k)).bit_and ts
high_at level_of.And k ts = chain_high k _ (levels_at (suc (suc k))).equal (levels_at (suc k)).equal ts
high_at level_of.Equal k ts = chain_high k _ (levels_at (suc (suc k))).compared (levels_at (suc k)).compared ts
high_at level_of.Compared k ts = compared_high k (levels_at (suc (suc k))).shift (levels_at (suc k)).shift ts
high_at level_of.Shift k ts = chain_high k _ (levels_at (suc (suc k))).plus (levels_at (suc k)).plus ts
high_at level_of.Plus k ts = chain_high k _ (levels_at (suc (suc k))).times (levels_at (suc k)).times ts
high_at level_of.Times k ts = chain_high k _ (levels_at (suc (suc k))).unary (levels_at (suc k)).unary ts

pub level_rung : (level : Level) (h : ℕ) → LevelRung level h (h - 1)
level_rung level zero = lowest_rung level
level_rung level (suc zero) = low_rung level
level_rung level (suc (suc k)) =
    let j : suc k ≡ suc (suc k) - 1 = omega arith in
    subst (LevelRung level (suc (suc k))) j (record { low = λ ts e. absurd (omega (arith, e)); high = λ ts e. high_at level k ts; alone = λ e. refl })
