-- All is read as it is to be, at each height.
use Rattle.std.proofs.Common.{ℕ, zero, suc, refl, inl, inr, arith}
use Rattle.std.proofs.lemmas.Bool.{and_left}
use Rattle.std.specs.Prelude.{nat_le}
use Rattle.jc_tree.specs.declared.expression.ArrayInit.{ArrayInit}
use Rattle.jc_tree.specs.declared.expression.Expr.{Expr}
use Rattle.jc_tree.specs.Heights.{expr_height}
use Rattle.jc_grammar.specs.Shapes.{is_expr}
use Rattle.jc_reading.specs.Reading.{Run}
use Rattle.jc_reading.proofs.Forms.{Lawful}
use Rattle.jc_reading.proofs.Coded.{formed, widened_laws}
use Rattle.jc_reading.proofs.Lowest.{Void}
use Rattle.jc_part_laws.proofs.ExprForms.{bare_codes, expr_tall}
use Rattle.jc_expr_laws.specs.PostReading.{post_run}
use Rattle.jc_expr_laws.specs.LevelReading.{none_at}
use Rattle.jc_expr_laws.specs.CompareReading.{compare_run}
use Rattle.jc_expr_laws.specs.ExprReading.{Readers, no_readers, next_readers, readers}
use Rattle.jc_expr_laws.proofs.PrimeTokens.{any_expr}
use Rattle.jc_expr_laws.proofs.CreationArrays.{array_coded, array_never, init_law, array_next}
use Rattle.jc_expr_laws.proofs.CreationRooms.{Below}
use Rattle.jc_expr_laws.proofs.PrimePosts as posts
use Rattle.jc_expr_laws.proofs.LevelPrefixes.{post_goes}
use Rattle.jc_expr_laws.proofs.LevelCasts.{post_coded}
use Rattle.jc_expr_laws.proofs.LevelTower.{LevelLaws, whole_at, next_laws}
use Rattle.jc_expr_laws.proofs.LevelBase.{base_laws}
use Rattle.jc_expr_laws.proofs.CompareWhole.{comparing, lowest}

pub void_expr : Void Expr (any_expr 0 none_at)
void_expr = record { stops = λ ts. refl; never = λ e. and_left (nat_le (expr_height e) 0) (is_expr e) (expr_tall e) }

pub void_array : Void ArrayInit (array_coded 0 none_at)
void_array = record { stops = λ ts. refl; never = array_never }

abbrev pub below_none : Below 0 none_at none_at
below_none = inl (refl, (void_expr, void_array))

abbrev pub below_some : (k : ℕ) (expr : Run Expr) (array : Run ArrayInit) → Lawful Expr (whole_at (suc k) expr) → Lawful ArrayInit (formed (array_coded (suc k) array)) → Below (suc k) expr array
below_some k expr array le la = inr (λ e. omega (arith, e), (le, la))

pub post_level_laws : (h : ℕ) (expr : Run Expr) (array : Run ArrayInit) → Below h expr array → Lawful Expr (formed (post_coded (suc h) (post_run h expr array)))
post_level_laws h expr array below = widened_laws Expr (posts.post_coded h expr array below) bare_codes post_goes (posts.post_laws h expr array below) refl refl

pub record ReadersLaws (h : ℕ) (r : Readers) : Type 0 where
  pub post_law : Lawful Expr (formed (post_coded h r.post))
  pub levels_law : LevelLaws h r.levels
  pub array_law : Lawful ArrayInit (formed (array_coded h r.array))

lowest_laws : ReadersLaws 1 (next_readers 0 no_readers)
unfolding next_readers
lowest_laws =
    let p = post_level_laws 0 none_at none_at below_none in
    record {
      post_law = p;
      levels_law = base_laws (post_run 0 none_at none_at) p compare_run lowest no_readers.levels;
      array_law = array_next 0 _ (init_law 0 none_at none_at (inr void_expr) (inr void_array));
    }

higher_laws : (k : ℕ) (low : Readers) → ReadersLaws (suc k) low → ReadersLaws (suc (suc k)) (next_readers (suc k) low)
unfolding next_readers
higher_laws k low l =
    let p = post_level_laws (suc k) low.levels.expr low.array (below_some k low.levels.expr low.array l.levels_law.expr l.array_law) in
    record {
      post_law = p;
      levels_law = next_laws compare_run comparing k low.levels l.levels_law (post_run (suc k) low.levels.expr low.array) p;
      array_law = array_next (suc k) _ (init_law (suc k) low.levels.expr low.array (inl l.levels_law.expr) (inl l.array_law));
    }

pub all_laws : (h : ℕ) → ReadersLaws (suc h) (readers (suc h))
unfolding readers
all_laws zero = lowest_laws
all_laws (suc k) = higher_laws k (readers (suc k)) (all_laws k)
