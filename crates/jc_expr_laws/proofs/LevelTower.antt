-- The levels of one height, of those of one height less.
use Rattle.std.proofs.Common.{ℕ, suc, false, List, [], ◌∷◌, ◌++◌, refl, arith}
use Rattle.std.proofs.lemmas.Bool.{or_left}
use Rattle.std.specs.Prelude.{◌&&◌, nat_le}
use Rattle.jc_lexer.specs.declared.token.Key.TheVariants as key_of
use Rattle.jc_lexer.specs.declared.token.Sign.TheVariants as sign_of
use Rattle.jc_tree.specs.declared.expression.Expr.{Expr}
use Rattle.jc_tree.specs.Heights.{expr_height}
use Rattle.jc_grammar.specs.Expressions.{expr_tokens}
use Rattle.jc_grammar.specs.Shapes.{stands, expr_shape}
use Rattle.jc_reading.specs.Kinds.{sign_code, key_code, one_of}
use Rattle.jc_reading.specs.Reading.{Run}
use Rattle.jc_reading.proofs.Forms.{Form, Lawful}
use Rattle.jc_reading.proofs.Coded.{formed}
use Rattle.jc_part_laws.proofs.ExprForms.{expr_codes, whole_goes}
use Rattle.jc_expr_laws.specs.LevelReading.{Levels, next_levels, bare_run, unary_run, chain_run, conditional_run, expr_run, times_run, plus_run, shift_run, equal_run, and_run, xor_run, or_run, and_also_run, or_else_run}
use Rattle.jc_expr_laws.proofs.LevelSpelled.{loosened_laws}
use Rattle.jc_expr_laws.proofs.LevelOps.{times_ops, plus_ops, shift_ops, less_ops, equal_ops, and_ops, xor_ops, or_ops, and_also_ops, or_else_ops}
use Rattle.jc_expr_laws.proofs.LevelRanks.{times_rank, plus_rank, shift_rank, equal_rank, and_rank, xor_rank, or_rank, and_also_rank, or_else_rank, tight_tells, loose_tells}
use Rattle.jc_expr_laws.proofs.LevelPrefixes.{bare_goes, bare_coded}
use Rattle.jc_expr_laws.proofs.LevelCasts.{post_coded, bare_laws}
use Rattle.jc_expr_laws.proofs.LevelUnaries.{plain_coded, unary_coded, plain_laws, unary_laws}
use Rattle.jc_expr_laws.proofs.LevelChains.{may_go, at_level, chain_laws}
use Rattle.jc_expr_laws.proofs.LevelConditionals.{conditional_laws}
use Rattle.jc_expr_laws.proofs.LevelAssigns.{whole_laws}

-- the operators of a level and of the tighter ones
abbrev pub times_tight : List (List ℕ)
times_tight = times_ops ++ []

abbrev pub plus_tight : List (List ℕ)
plus_tight = plus_ops ++ times_tight

abbrev pub shift_tight : List (List ℕ)
shift_tight = shift_ops ++ plus_tight

abbrev pub less_tight : List (List ℕ)
less_tight = less_ops ++ shift_tight

abbrev pub equal_tight : List (List ℕ)
equal_tight = equal_ops ++ less_tight

abbrev pub and_tight : List (List ℕ)
and_tight = and_ops ++ equal_tight

abbrev pub xor_tight : List (List ℕ)
xor_tight = xor_ops ++ and_tight

abbrev pub or_tight : List (List ℕ)
or_tight = or_ops ++ xor_tight

abbrev pub and_also_tight : List (List ℕ)
and_also_tight = and_also_ops ++ or_tight

abbrev pub or_else_tight : List (List ℕ)
or_else_tight = or_else_ops ++ and_also_tight

-- what may go on from the level of `<` on: also an `instanceof`, and the arguments of a type behind one
abbrev pub compare_goes : List ℕ
compare_goes = key_code key_of.Instanceof ∷ sign_code sign_of.Less ∷ bare_goes

abbrev pub whole_at : ℕ → Run Expr → Form Expr
whole_at h run = record { tell = expr_tokens; fits = λ e. nat_le (expr_height e) h && stands 0 (expr_shape e); run = run; starts = one_of expr_codes; goes_on = one_of whole_goes; empties = false }

pub record LevelLaws (h : ℕ) (l : Levels) : Type 0 where
  pub bare : Lawful Expr (formed (bare_coded h l.bare))
  pub plain : Lawful Expr (formed (plain_coded h l.plain))
  pub unary : Lawful Expr (formed (unary_coded h l.unary))
  pub times : Lawful Expr (at_level 11 h l.times bare_goes times_tight)
  pub plus : Lawful Expr (at_level 10 h l.plus bare_goes plus_tight)
  pub shift : Lawful Expr (at_level 9 h l.shift bare_goes shift_tight)
  pub compared : Lawful Expr (at_level 8 h l.compared compare_goes less_tight)
  pub equal : Lawful Expr (at_level 7 h l.equal compare_goes equal_tight)
  pub bit_and : Lawful Expr (at_level 6 h l.bit_and compare_goes and_tight)
  pub bit_xor : Lawful Expr (at_level 5 h l.bit_xor compare_goes xor_tight)
  pub bit_or : Lawful Expr (at_level 4 h l.bit_or compare_goes or_tight)
  pub and_also : Lawful Expr (at_level 3 h l.and_also compare_goes and_also_tight)
  pub or_else : Lawful Expr (at_level 2 h l.or_else compare_goes or_else_tight)
  pub conditional : Lawful Expr (at_level 1 h l.conditional (sign_code sign_of.Question ∷ compare_goes) or_else_tight)
  pub expr : Lawful Expr (whole_at h l.expr)

-- what is asked of the level of `<` and `instanceof`
abbrev pub Compares : (ℕ → Run Expr → Run Expr → Run Expr) → Type 0
Compares compare =
    (k : ℕ) (first next : Run Expr) → Lawful Expr (at_level 9 (suc (suc k)) first bare_goes shift_tight) → Lawful Expr (at_level 9 (suc k) next bare_goes shift_tight) → Lawful Expr (at_level 8 (suc (suc k)) (compare (suc k) first next) compare_goes less_tight)

as_level : (h : ℕ) (run : Run Expr) → Lawful Expr (formed (unary_coded h run)) → Lawful Expr (at_level 12 h run bare_goes [])
as_level h run la = loosened_laws Expr (formed (unary_coded h run)) (one_of expr_codes) (may_go bare_goes []) la (λ ts e. e) (λ ts e. or_left (one_of bare_goes ts) false e)

module _ (compare : ℕ → Run Expr → Run Expr → Run Expr) (comparing : Compares compare) (k : ℕ) (low : Levels) (ll : LevelLaws (suc k) low) (post : Run Expr) (lp : Lawful Expr (formed (post_coded (suc (suc k)) post))) where
  abbrev bare : Run Expr
  bare = bare_run (suc k) low.unary low.plain post

  bare_law : Lawful Expr (formed (bare_coded (suc (suc k)) bare))
  bare_law = bare_laws k low.unary low.plain post (record { unary_laws = ll.unary; plain_laws = ll.plain; post_laws = lp })

  abbrev unary : Run Expr
  unary = unary_run (suc k) bare low.bare

  unary_law : Lawful Expr (formed (unary_coded (suc (suc k)) unary))
  unary_law = unary_laws k bare low.bare bare_law ll.bare

  abbrev times : Run Expr
  times = chain_run (suc k) times_run unary low.unary

  times_law : Lawful Expr (at_level 11 (suc (suc k)) times bare_goes times_tight)
  times_law = chain_laws 11 k times_run times_ops times_rank (tight_tells 11 (suc k) (omega arith)) unary low.unary bare_goes []
      (record { first_laws = as_level (suc (suc k)) unary unary_law; next_laws = as_level (suc k) low.unary ll.unary; out = refl; clash = refl })

  abbrev plus : Run Expr
  plus = chain_run (suc k) plus_run times low.times

  plus_law : Lawful Expr (at_level 10 (suc (suc k)) plus bare_goes plus_tight)
  plus_law = chain_laws 10 k plus_run plus_ops plus_rank (tight_tells 10 (suc k) (omega arith)) times low.times bare_goes times_tight (record { first_laws = times_law; next_laws = ll.times; out = refl; clash = refl })

  abbrev shift : Run Expr
  shift = chain_run (suc k) shift_run plus low.plus

  shift_law : Lawful Expr (at_level 9 (suc (suc k)) shift bare_goes shift_tight)
  shift_law = chain_laws 9 k shift_run shift_ops shift_rank (tight_tells 9 (suc k) (omega arith)) plus low.plus bare_goes plus_tight (record { first_laws = plus_law; next_laws = ll.plus; out = refl; clash = refl })

  abbrev compared : Run Expr
  compared = compare (suc k) shift low.shift

  compared_law : Lawful Expr (at_level 8 (suc (suc k)) compared compare_goes less_tight)
  compared_law = comparing k shift low.shift shift_law ll.shift

  abbrev equal : Run Expr
  equal = chain_run (suc k) equal_run compared low.compared

  equal_law : Lawful Expr (at_level 7 (suc (suc k)) equal compare_goes equal_tight)
  equal_law = chain_laws 7 k equal_run equal_ops equal_rank (loose_tells 7 (suc k) refl refl) compared low.compared compare_goes less_tight (record { first_laws = compared_law; next_laws = ll.compared; out = refl; clash = refl })

  abbrev bit_and : Run Expr
  bit_and = chain_run (suc k) and_run equal low.equal

  and_law : Lawful Expr (at_level 6 (suc (suc k)) bit_and compare_goes and_tight)
  and_law = chain_laws 6 k and_run and_ops and_rank (loose_tells 6 (suc k) refl refl) equal low.equal compare_goes equal_tight (record { first_laws = equal_law; next_laws = ll.equal; out = refl; clash = refl })

  abbrev bit_xor : Run Expr
  bit_xor = chain_run (suc k) xor_run bit_and low.bit_and

  xor_law : Lawful Expr (at_level 5 (suc (suc k)) bit_xor compare_goes xor_tight)
  xor_law = chain_laws 5 k xor_run xor_ops xor_rank (loose_tells 5 (suc k) refl refl) bit_and low.bit_and compare_goes and_tight (record { first_laws = and_law; next_laws = ll.bit_and; out = refl; clash = refl })

  abbrev bit_or : Run Expr
  bit_or = chain_run (suc k) or_run bit_xor low.bit_xor

  or_law : Lawful Expr (at_level 4 (suc (suc k)) bit_or compare_goes or_tight)
  or_law = chain_laws 4 k or_run or_ops or_rank (loose_tells 4 (suc k) refl refl) bit_xor low.bit_xor compare_goes xor_tight (record { first_laws = xor_law; next_laws = ll.bit_xor; out = refl; clash = refl })

  abbrev and_also : Run Expr
  and_also = chain_run (suc k) and_also_run bit_or low.bit_or

  and_also_law : Lawful Expr (at_level 3 (suc (suc k)) and_also compare_goes and_also_tight)
  and_also_law = chain_laws 3 k and_also_run and_also_ops and_also_rank (loose_tells 3 (suc k) refl refl) bit_or low.bit_or compare_goes or_tight (record { first_laws = or_law; next_laws = ll.bit_or; out = refl; clash = refl })

  abbrev or_else : Run Expr
  or_else = chain_run (suc k) or_else_run and_also low.and_also

  or_else_law : Lawful Expr (at_level 2 (suc (suc k)) or_else compare_goes or_else_tight)
  or_else_law = chain_laws 2 k or_else_run or_else_ops or_else_rank (loose_tells 2 (suc k) refl refl) and_also low.and_also compare_goes and_also_tight (record { first_laws = and_also_law; next_laws = ll.and_also; out = refl; clash = refl })

  abbrev conditional : Run Expr
  conditional = conditional_run (suc k) or_else low.expr low.conditional

  conditional_law : Lawful Expr (at_level 1 (suc (suc k)) conditional (sign_code sign_of.Question ∷ compare_goes) or_else_tight)
  conditional_law = conditional_laws k or_else low.expr low.conditional compare_goes whole_goes or_else_tight
      (record { test_laws = or_else_law; any_laws = ll.expr; other_laws = ll.conditional; colon = refl; question = refl; question_ops = refl })

  expr_law : Lawful Expr (whole_at (suc (suc k)) (expr_run (suc k) conditional low.expr))
  expr_law = whole_laws k conditional low.expr (sign_code sign_of.Question ∷ compare_goes) whole_goes or_else_tight
      (record { cond_laws = conditional_law; any_laws = ll.expr; out = refl; clash = refl; codes_in = refl; ops_in = refl; assigns_in = refl })

  -- the laws of one height, of those of one height less
  pub next_laws : LevelLaws (suc (suc k)) (next_levels compare (suc k) low post)
  unfolding next_levels
  next_laws = record {
    bare = bare_law;
    plain = plain_laws k bare low.bare bare_law ll.bare;
    unary = unary_law;
    times = times_law;
    plus = plus_law;
    shift = shift_law;
    compared = compared_law;
    equal = equal_law;
    bit_and = and_law;
    bit_xor = xor_law;
    bit_or = or_law;
    and_also = and_also_law;
    or_else = or_else_law;
    conditional = conditional_law;
    expr = expr_law;
  }
