-- How expressions are read at each height.
use Rattle.std.specs.Prelude.{ℕ, zero, suc}
use Rattle.jc_tree.specs.declared.expression.ArrayInit.{ArrayInit}
use Rattle.jc_tree.specs.declared.expression.Expr.{Expr}
use Rattle.jc_reading.specs.Reading.{Run}
use Rattle.jc_part_laws.specs.PartReading.{Exprs}
use Rattle.jc_expr_laws.specs.PrimeReading.{init_run, array_run}
use Rattle.jc_expr_laws.specs.PostReading.{post_run}
use Rattle.jc_expr_laws.specs.LevelReading.{Levels, next_levels, none_at, no_levels}
use Rattle.jc_expr_laws.specs.CompareReading.{compare_run}
use Rattle.jc_expr_laws.specs.EffectReading.{effect_run, strict_effect_run}

-- how expressions and array initialisers of height at most h are read
pub record Readers : Type 0 where
  pub post : Run Expr
  pub levels : Levels
  pub array : Run ArrayInit

-- of height 0: nothing is read
abbrev pub no_readers : Readers
no_readers = record { post = none_at; levels = no_levels; array = none_at }

-- those of height h + 1, of those of height h: the postfix level takes expressions and array initialisers of height h, each other level the
-- tighter one of height h + 1 and parts of height h, and array initialisers take initialisers of height h
unfoldable pub next_readers : ℕ → Readers → Readers
next_readers h low =
    let post : Run Expr = post_run h low.levels.expr low.array in
    record { post = post; levels = next_levels compare_run h low.levels post; array = array_run (init_run low.levels.expr low.array) }

-- of each height, built up from none
unfoldable pub readers : ℕ → Readers
readers zero = no_readers
readers (suc h) = next_readers h (readers h)

-- an initialiser of height h is an expression or an array initialiser of it; an effect of height h has parts of it
abbrev pub exprs : Exprs
exprs = record {
  expr = λ h. (readers h).levels.expr;
  conditional = λ h. (readers h).levels.conditional;
  effect = λ h. effect_run (readers h).levels.bare (readers h).post (readers h).levels.expr;
  init = λ h. init_run (readers h).levels.expr (readers h).array;
}

-- effects as the code reads them: before what ends an effect both readers say the same
abbrev pub strict_effect : ℕ → Run Expr
strict_effect h = strict_effect_run (readers h).levels.bare (readers h).post (readers h).levels.expr
