-- What the code reads of expressions that may be statements.
use Rattle.std.proofs.Common.{◌≡◌, ℕ, min, Bool, true, false, cond, List, Option, None, refl, ap, ◌∙◌}
use Rattle.std.proofs.lemmas.Bool.{cond-true, cond-false}
use Rattle.jc_lexer.specs.declared.token.Token.{Token}
use Rattle.jc_tree.specs.declared.expression.AssignOp.{AssignOp}
use Rattle.jc_tree.specs.declared.expression.PrefixOp.{PrefixOp}
use Rattle.jc_tree.specs.declared.expression.Expr.{Expr}
use Rattle.jc_tree.specs.declared.expression.Expr.TheVariants as expr_of
use Rattle.jc_tree.specs.Heights.{expr_height}
use Rattle.jc_grammar.specs.Shapes.{is_effect}
use Rattle.jc_reading.specs.declared.reading.Halt.{Halt}
use Rattle.jc_reading.specs.Giving.{Halts}
use Rattle.jc_reading.specs.Kinds.{one_of}
use Rattle.jc_reading.specs.Reading.{Read, Found, Stopped, Run, found, becoming, as_new, in_turn, This, That}
use Rattle.jc_parse_expr.specs.declared.measured.Measured.{Measured}
use Rattle.jc_parse_expr.specs.Measuring.{measured}
use Rattle.jc_expr_laws.specs.LevelReading.{assign_made, assign_run, prefix_run}
use Rattle.jc_expr_laws.specs.EffectReading.{crement_codes, crement_op_run, effect_made, strict_effect_run, strictly_by, strictly_on, strictly_closing}
use Rattle.jc_parse_expr.specs.BinaryLevels.{levels_at, measured_right, prefixed_run}
use Rattle.jc_parse_expr.proofs.MeasuredRead.{halts_by, measured_found, measured_halts}
use Rattle.jc_parse_expr.proofs.PairSteps.{made_found, made_stops}
use Rattle.jc_parse_expr.proofs.PrefixCode.{prefix_there}

first_made : (m : Read Expr) → becoming effect_made (becoming This m) ≡ m
first_made (Found e r l) = refl
first_made (Stopped l) = refl

second_made : (m : Read (Expr × Option (AssignOp × Expr))) → becoming effect_made (becoming That m) ≡ becoming assign_made m
second_made (Found p r l) = refl
second_made (Stopped l) = refl

module _ (bare post expr : Run Expr) (ts : List Token) where
  abbrev Changing : Read (Expr × Option (AssignOp × Expr))
  Changing = strictly_closing is_effect post (in_turn assign_run expr) ts

  pub effect_prefix : (q : List Token) (op : PrefixOp) → one_of crement_codes ts ≡ true → crement_op_run ts ≡ found op q → strict_effect_run bare post expr ts ≡ prefixed_run op bare q
  unfolding strict_effect_run
  effect_prefix q op e f =
      ap (becoming effect_made) (cond-true (one_of crement_codes ts) (becoming This (prefix_run crement_op_run bare ts)) (becoming That Changing) e)
      ∙ first_made (prefix_run crement_op_run bare ts) ∙ prefix_there crement_op_run bare ts q op f

  pub effect_changing : one_of crement_codes ts ≡ false → strict_effect_run bare post expr ts ≡ as_new assign_made (strictly_closing is_effect post (in_turn assign_run expr)) ts
  unfolding strict_effect_run
  effect_changing e =
      ap (becoming effect_made) (cond-false (one_of crement_codes ts) (becoming This (prefix_run crement_op_run bare ts)) (becoming That Changing) e) ∙ second_made Changing

module _ (post : Run Expr) (h : ℕ) (ts : List Token) where
  abbrev Right : List Token → Read (AssignOp × Expr)
  Right r = in_turn assign_run (levels_at h).expr r

  abbrev Changed : Read Expr
  Changed = as_new assign_made (strictly_closing is_effect post (in_turn assign_run (levels_at h).expr)) ts

  pub changing_halts : (e : Halt) → Halts e (becoming measured (post ts)) → Halts e Changed
  unfolding strictly_closing
  changing_halts e m = halts_by (post ts) Changed (λ l s. ap (λ (x : Read Expr). becoming assign_made (strictly_on is_effect x (in_turn assign_run (levels_at h).expr))) s) e (measured_halts expr_height (post ts) e m)

  pub changing_assigns : (v : Measured Expr) (r : List Token) (l n : ℕ) (op : AssignOp) (w : Measured Expr) (q : List Token) → becoming measured (post ts) ≡ Found v r l → becoming measured_right (Right r) ≡ Found (op, w) q n → Changed ≡ Found (expr_of.Assign v.tree op w.tree) q (min l n)
  unfolding strictly_closing
  changing_assigns v r l n op w q e f =
      let b = measured_found expr_height (post ts) v r l e in
      let a = made_found measured_right (Right r) (op, w) q n f in
      let o : a.0.0 ≡ op = ap (λ (p : AssignOp × Measured Expr). p.0) a.2 in
      let tree : a.0.1 ≡ w.tree = ap (λ (p : AssignOp × Measured Expr). p.1.tree) a.2 in
      ap (λ (x : Read Expr). becoming assign_made (strictly_on is_effect x (in_turn assign_run (levels_at h).expr))) b.0
      ∙ ap (λ (x : Read (AssignOp × Expr)). becoming assign_made (strictly_by is_effect v.tree r l x)) a.1
      ∙ ap (λ (y : AssignOp). Found (expr_of.Assign v.tree y a.0.1) q (min l n)) o ∙ ap (λ (y : Expr). Found (expr_of.Assign v.tree op y) q (min l n)) tree

  alone_made : (b : Bool) (v : Expr) (r : List Token) (l : ℕ) → becoming assign_made (cond b (Found (v, None) r l) (Stopped l)) ≡ cond b (Found v r l) (Stopped l)
  alone_made true v r l = refl
  alone_made false v r l = refl

  pub changing_alone : (v : Measured Expr) (r : List Token) (l n : ℕ) → becoming measured (post ts) ≡ Found v r l → becoming measured_right (Right r) ≡ Stopped n → Changed ≡ cond (is_effect v.tree) (Found v.tree r (min l n)) (Stopped (min l n))
  unfolding strictly_closing
  changing_alone v r l n e f =
      let b = measured_found expr_height (post ts) v r l e in
      ap (λ (x : Read Expr). becoming assign_made (strictly_on is_effect x (in_turn assign_run (levels_at h).expr))) b.0
      ∙ ap (λ (x : Read (AssignOp × Expr)). becoming assign_made (strictly_by is_effect v.tree r l x)) (made_stops measured_right (Right r) n f)
      ∙ alone_made (is_effect v.tree) v.tree r (min l n)
