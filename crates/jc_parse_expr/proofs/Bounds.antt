-- How many tokens are left behind what is read, and initialisers by what they begin with.
use Rattle.std.proofs.Common.{◌≡◌, ℕ, ◌≤◌, true, false, List, [], ◌∷◌, length, refl, ap, ◌∙◌}
use Rattle.std.proofs.lemmas.Bool.{cond-true, cond-false}
use Rattle.jc_lexer.specs.declared.token.Sign.TheVariants as sign_of
use Rattle.jc_lexer.specs.declared.token.Token.{Token}
use Rattle.jc_tree.specs.declared.expression.ArrayInit.{ArrayInit}
use Rattle.jc_tree.specs.declared.expression.AssignOp.{AssignOp}
use Rattle.jc_tree.specs.declared.expression.BinaryOp.{BinaryOp}
use Rattle.jc_tree.specs.declared.expression.Expr.{Expr}
use Rattle.jc_tree.specs.declared.expression.Init.{Init}
use Rattle.jc_tree.specs.declared.expression.Init.TheVariants as init_of
use Rattle.jc_tree.specs.declared.expression.PrefixOp.{PrefixOp}
use Rattle.jc_tree.specs.Heights.{array_height, expr_height}
use Rattle.jc_reading.specs.declared.reading.Halt.{Halt}
use Rattle.jc_reading.specs.Giving.{Halts}
use Rattle.jc_reading.specs.Kinds.{sign_code, one_of}
use Rattle.jc_reading.specs.Reading.{Read, Found, Stopped, found, becoming, joined, in_turn, any_number, This, That}
use Rattle.jc_reading.proofs.Steps.{within_bind, within_becoming, within_noting}
use Rattle.jc_reading.specs.Reach.{Within, Near}
use Rattle.jc_reading.proofs.Nears.{near_as, near_either, near_place, near_any, near_picking, ahead_near}
use Rattle.jc_expr_laws.specs.EffectReading.{crement_op, crement_op_run}
use Rattle.jc_expr_laws.specs.ExprReading.{readers}
use Rattle.jc_expr_laws.specs.LevelReading.{assign_run, picks_prefix, plain_op, plain_op_run, prefix_op_run}
use Rattle.jc_expr_laws.specs.PrimeReading.{init_made, init_run}
use Rattle.jc_expr_laws.proofs.LevelAssignOps.{assign_op_laws}
use Rattle.jc_parse_expr.specs.declared.measured.Measured.{Measured}
use Rattle.jc_parse_expr.specs.declared.operators.Level.{Level}
use Rattle.jc_parse_expr.specs.Measuring.{measured, measured_array}
use Rattle.jc_parse_expr.specs.BinaryLevels.{levels_at, level_run, measured_right, operator_run, prefixed_run, tighter_run}
use Rattle.jc_parse_expr.proofs.CodeFacts.{operator_steps, rest_within, within_bare, within_conditional, within_expr, within_level, within_tighter}
use Rattle.jc_parse_expr.proofs.LevelNears.{near_array_of}
use Rattle.jc_parse_expr.proofs.LoopSteps.{measured_rest}
use Rattle.jc_parse_expr.proofs.MeasuredRead.{halts_by, measured_found, measured_stopped}
use Rattle.jc_parse_expr.proofs.PairSteps.{made_found}

pub expr_rest : (h : ℕ) (ts : List Token) (v : Measured Expr) (r : List Token) (l : ℕ) → becoming measured ((levels_at h).expr ts) ≡ Found v r l → length r ≤ length ts
expr_rest h ts v r l e = measured_rest (length ts) ((levels_at h).expr ts) v r l (within_expr h ts) e

pub conditional_rest : (h : ℕ) (ts : List Token) (v : Measured Expr) (r : List Token) (l : ℕ) → becoming measured ((levels_at h).conditional ts) ≡ Found v r l → length r ≤ length ts
conditional_rest h ts v r l e = measured_rest (length ts) ((levels_at h).conditional ts) v r l (within_conditional h ts) e

pub level_rest : (level : Level) (h : ℕ) (ts : List Token) (v : Measured Expr) (r : List Token) (l : ℕ) → becoming measured (level_run level (levels_at h) ts) ≡ Found v r l → length r ≤ length ts
level_rest level h ts v r l e = measured_rest (length ts) (level_run level (levels_at h) ts) v r l (within_level level h ts) e

pub tighter_rest : (level : Level) (h : ℕ) (ts : List Token) (v : Measured Expr) (r : List Token) (l : ℕ) → becoming measured (tighter_run level (levels_at h) ts) ≡ Found v r l → length r ≤ length ts
tighter_rest level h ts v r l e = measured_rest (length ts) (tighter_run level (levels_at h) ts) v r l (within_tighter level h ts) e

pub prefixed_rest : (h : ℕ) (op : PrefixOp) (ts : List Token) (v : Measured Expr) (r : List Token) (l : ℕ) → becoming measured (prefixed_run op (levels_at h).bare ts) ≡ Found v r l → length r ≤ length ts
prefixed_rest h op ts v r l e =
    let w : Within (length ts) (in_turn (any_number prefix_op_run) (levels_at h).bare ts) = within_bind (length ts) (any_number prefix_op_run ts) _ (near_any prefix_op_run (near_picking picks_prefix) ts) (λ a q. within_becoming (length q) (joined a) ((levels_at h).bare q) (within_bare h q)) in
    measured_rest (length ts) (prefixed_run op (levels_at h).bare ts) v r l (within_noting (length ts) (length ts) _ (within_becoming (length ts) _ (in_turn (any_number prefix_op_run) (levels_at h).bare ts) w)) e

pub assigned_rest : (h : ℕ) (ts : List Token) (p : AssignOp × Measured Expr) (r : List Token) (l : ℕ) → becoming measured_right (in_turn assign_run (levels_at h).expr ts) ≡ Found p r l → length r ≤ length ts
assigned_rest h ts p r l e =
    let a = made_found measured_right (in_turn assign_run (levels_at h).expr ts) p r l e in
    let w : Within (length ts) (in_turn assign_run (levels_at h).expr ts) = within_bind (length ts) (assign_run ts) _ (assign_op_laws.within ts) (λ a q. within_becoming (length q) (joined a) ((levels_at h).expr q) (within_expr h q)) in
    (rest_within (length ts) (in_turn assign_run (levels_at h).expr ts) a.0 r l w a.1).1

pub operator_rest : (level : Level) (ts : List Token) (op : BinaryOp) (r : List Token) (l : ℕ) → operator_run level ts ≡ Found op r l → length r ≤ length ts
operator_rest level ts op r l e = (rest_within (length ts) (operator_run level ts) op r l (ahead_near (operator_run level) (operator_steps level) ts) e).1

pub prefix_rest : (ts : List Token) (op : PrefixOp) (q : List Token) → prefix_op_run ts ≡ found op q → length q ≤ length ts
prefix_rest ts op q e = (rest_within (length ts) (prefix_op_run ts) op q (length q) (near_picking picks_prefix ts) e).1

near_plain_op : Near plain_op_run
unfolding plain_op_run
near_plain_op = near_as plain_op _ (near_either (sign_code sign_of.Not ∷ []) _ _ (near_place (sign_code sign_of.Not)) (near_place (sign_code sign_of.Tilde)))

pub plain_rest : (ts : List Token) (op : PrefixOp) (q : List Token) → plain_op_run ts ≡ found op q → length q ≤ length ts
plain_rest ts op q e = (rest_within (length ts) (plain_op_run ts) op q (length q) (near_plain_op ts) e).1

near_crement_op : Near crement_op_run
unfolding crement_op_run
near_crement_op = near_as crement_op _ (near_either (sign_code sign_of.Increment ∷ []) _ _ (near_place (sign_code sign_of.Increment)) (near_place (sign_code sign_of.Decrement)))

pub crement_rest : (ts : List Token) (op : PrefixOp) (q : List Token) → crement_op_run ts ≡ found op q → length q ≤ length ts
crement_rest ts op q e = (rest_within (length ts) (crement_op_run ts) op q (length q) (near_crement_op ts) e).1

-- initialisers

module _ (h : ℕ) (ts : List Token) where
  abbrev Initial : Read Init
  Initial = init_run (levels_at h).expr (readers h).array ts

  nested_made : (m : Read ArrayInit) → becoming init_made (becoming This m) ≡ becoming init_of.Nested m
  nested_made (Found a r l) = refl
  nested_made (Stopped l) = refl

  value_made : (m : Read Expr) → becoming init_made (becoming That m) ≡ becoming init_of.Value m
  value_made (Found a r l) = refl
  value_made (Stopped l) = refl

  is_nested : one_of (sign_code sign_of.LeftBrace ∷ []) ts ≡ true → Initial ≡ becoming init_of.Nested ((readers h).array ts)
  unfolding init_run
  is_nested e =
      ap (becoming init_made) (cond-true (one_of (sign_code sign_of.LeftBrace ∷ []) ts) (becoming This ((readers h).array ts)) (becoming That ((levels_at h).expr ts)) e) ∙ nested_made ((readers h).array ts)

  is_value : one_of (sign_code sign_of.LeftBrace ∷ []) ts ≡ false → Initial ≡ becoming init_of.Value ((levels_at h).expr ts)
  unfolding init_run
  is_value e =
      ap (becoming init_made) (cond-false (one_of (sign_code sign_of.LeftBrace ∷ []) ts) (becoming This ((readers h).array ts)) (becoming That ((levels_at h).expr ts)) e) ∙ value_made ((levels_at h).expr ts)

  pub nested_found : (v : Measured ArrayInit) (r : List Token) (l : ℕ) → one_of (sign_code sign_of.LeftBrace ∷ []) ts ≡ true → becoming measured_array ((readers h).array ts) ≡ Found v r l → Initial ≡ Found (init_of.Nested v.tree) r l
  nested_found v r l e f = is_nested e ∙ ap (becoming init_of.Nested) (measured_found array_height ((readers h).array ts) v r l f).0

  pub nested_halts : (e : Halt) → one_of (sign_code sign_of.LeftBrace ∷ []) ts ≡ true → Halts e (becoming measured_array ((readers h).array ts)) → Halts e Initial
  nested_halts e f g = halts_by (becoming measured_array ((readers h).array ts)) Initial (λ l s. is_nested f ∙ ap (becoming init_of.Nested) (measured_stopped array_height ((readers h).array ts) l s)) e g

  pub value_found : (v : Measured Expr) (r : List Token) (l : ℕ) → one_of (sign_code sign_of.LeftBrace ∷ []) ts ≡ false → becoming measured ((levels_at h).expr ts) ≡ Found v r l → Initial ≡ Found (init_of.Value v.tree) r l
  value_found v r l e f = is_value e ∙ ap (becoming init_of.Value) (measured_found expr_height ((levels_at h).expr ts) v r l f).0

  pub value_halts : (e : Halt) → one_of (sign_code sign_of.LeftBrace ∷ []) ts ≡ false → Halts e (becoming measured ((levels_at h).expr ts)) → Halts e Initial
  value_halts e f g = halts_by (becoming measured ((levels_at h).expr ts)) Initial (λ l s. is_value f ∙ ap (becoming init_of.Value) (measured_stopped expr_height ((levels_at h).expr ts) l s)) e g

  pub array_rest : (v : Measured ArrayInit) (r : List Token) (l : ℕ) → becoming measured_array ((readers h).array ts) ≡ Found v r l → length r ≤ length ts
  array_rest v r l e = (rest_within (length ts) ((readers h).array ts) v.tree r l (near_array_of h ts) (measured_found array_height ((readers h).array ts) v r l e).0).1
