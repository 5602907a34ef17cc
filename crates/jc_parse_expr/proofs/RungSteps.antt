-- The levels from the last one to the binary ones, as the code reads them.
use Rattle.std.proofs.Common.{◌≡◌, ℕ, ◌-◌, ◌<◌, ◌≤◌, ◌^◌, min, true, false, List, length, Option, Some, None, sym, ap, ◌∙◌, arith}
use Rattle.std.specs.Prelude.{not, nat_le}
use Rattle.std.proofs.lemmas.Bool.{and_left, and_right, and_from, lt-leb, le-leb}
use Rattle.jc_lexer.specs.declared.token.Token.{Token}
use Rattle.jc_tree.specs.declared.expression.AssignOp.{AssignOp}
use Rattle.jc_tree.specs.declared.expression.Expr.{Expr}
use Rattle.jc_tree.specs.declared.expression.Expr.TheVariants as expr_of
use Rattle.jc_tree.specs.Heights.{capped, expr_height}
use Rattle.jc_grammar.specs.Shapes.{Shape, stands, expr_shape, post_level}
use Rattle.jc_reading.specs.declared.reading.Halt.{Halt}
use Rattle.jc_reading.specs.Giving.{Halts}
use Rattle.jc_reading.specs.Reading.{Read, Found, Stopped, becoming, in_turn, perhaps, perhaps_from}
use Rattle.jc_parse_expr.specs.declared.measured.Measured.{Measured}
use Rattle.jc_parse_expr.specs.Measuring.{measured}
use Rattle.jc_expr_laws.specs.LevelReading.{no_target, assign_made, assign_run}
use Rattle.jc_parse_expr.specs.Nodes.{assign_node}
use Rattle.jc_parse_expr.specs.BinaryLevels.{levels_at, measured_right}
use Rattle.jc_parse_expr.proofs.MeasuredRead.{measured_found}
use Rattle.jc_parse_expr.proofs.PairSteps.{made_found, made_stops}
use Rattle.jc_parse_expr.proofs.Rungs.{rung_halts, rung_closed, rung_more}
use Rattle.jc_parse_expr.proofs.LevelSteps.{expr_rung}
use Rattle.jc_parse_expr.proofs.NodeHeights.{tall_one, assign_measured}
use Rattle.jc_parse_expr.proofs.CodeFacts.{within_conditional, rest_within, good_conditional}

-- what the height that is kept tells

pub tall : (h : ℕ) (e : Expr) (n : ℕ) → n ≡ capped (expr_height e) → h ≤ n → 1 < h → nat_le (expr_height e) (h - 1) ≡ false
tall h e n f g room = lt-leb (expr_height e) (h - 1) (omega arith)

pub fits : (h : ℕ) (e : Expr) (n : ℕ) → n ≡ capped (expr_height e) → n < h → h < 2 ^ 32 → nat_le (expr_height e) (h - 1) ≡ true
fits h e n f g room = le-leb (expr_height e) (h - 1) (omega arith)

pub roomy : (h : ℕ) (e : Expr) (n : ℕ) → n ≡ capped (expr_height e) → n < h → 1 < h
roomy h e n f g = let t = tall_one e in omega arith

-- assignments

abbrev Right : ℕ → List Token → Read (AssignOp × Expr)
Right h ts = in_turn assign_run (levels_at h).expr ts

module _ (h : ℕ) (ts : List Token) where
  abbrev Ended : Measured Expr → List Token → ℕ → Type 0
  Ended v r l = becoming measured ((levels_at h).conditional ts) ≡ Found v r l

  conditional_far : (v : Measured Expr) (r : List Token) (l : ℕ) → Ended v r l → l ≤ length r
  conditional_far v r l e =
      (rest_within (length ts) ((levels_at h).conditional ts) v.tree r l (within_conditional h ts) (measured_found expr_height ((levels_at h).conditional ts) v r l e).0).0

  pub expr_halts : (e : Halt) → Halts e (becoming measured ((levels_at h).conditional ts)) → Halts e (becoming measured ((levels_at h).expr ts))
  expr_halts e m =
      rung_halts (Option (AssignOp × Expr)) (no_target (h - 1)) None assign_made (levels_at h).conditional (levels_at h).expr (perhaps (Right (h - 1))) h (expr_rung h) ts e m

  expr_closed : (v : Measured Expr) (r : List Token) (l : ℕ) → Ended v r l → (1 < h → no_target (h - 1) v.tree ≡ true) → becoming measured ((levels_at h).expr ts) ≡ Found v r l
  expr_closed v r l e c =
      rung_closed (Option (AssignOp × Expr)) (no_target (h - 1)) None assign_made (levels_at h).conditional (levels_at h).expr (perhaps (Right (h - 1))) h (expr_rung h) ts v r l e c (conditional_far v r l e)

  pub expr_tall : (v : Measured Expr) (r : List Token) (l : ℕ) → Ended v r l → h ≤ v.height → becoming measured ((levels_at h).expr ts) ≡ Found v r l
  expr_tall v r l e g =
      let b = measured_found expr_height ((levels_at h).conditional ts) v r l e in
      expr_closed v r l e (λ room. ap not (and_left (nat_le (expr_height v.tree) (h - 1)) (stands post_level (expr_shape v.tree)) (tall h v.tree v.height b.1 g room)))

  pub expr_untargeted : (v : Measured Expr) (r : List Token) (l : ℕ) → Ended v r l → nat_le post_level (expr_shape v.tree).level ≡ false → becoming measured ((levels_at h).expr ts) ≡ Found v r l
  expr_untargeted v r l e g =
      let s : Shape = expr_shape v.tree in
      expr_closed v r l e (λ room. ap not (and_right (nat_le (expr_height v.tree) (h - 1)) (stands post_level s) (and_right s.good (nat_le post_level s.level) g)))

  targets : (v : Measured Expr) (r : List Token) (l : ℕ) → Ended v r l → v.height < h → h < 2 ^ 32 → nat_le post_level (expr_shape v.tree).level ≡ true → no_target (h - 1) v.tree ≡ false
  targets v r l e g wide t =
      let b = measured_found expr_height ((levels_at h).conditional ts) v r l e in
      let s : Shape = expr_shape v.tree in
      ap not (and_from (nat_le (expr_height v.tree) (h - 1)) (stands post_level s) (fits h v.tree v.height b.1 g wide) (and_from s.good (nat_le post_level s.level) (good_conditional h ts v.tree r l b.0) t))

  pub expr_alone : (v : Measured Expr) (r : List Token) (l n : ℕ) → Ended v r l → v.height < h → h < 2 ^ 32 → nat_le post_level (expr_shape v.tree).level ≡ true → becoming measured_right (Right (h - 1) r) ≡ Stopped n → becoming measured ((levels_at h).expr ts) ≡ Found v r (min l n)
  expr_alone v r l n e g wide t f =
      let b = measured_found expr_height ((levels_at h).conditional ts) v r l e in
      rung_more (Option (AssignOp × Expr)) (no_target (h - 1)) None assign_made (levels_at h).conditional (levels_at h).expr (perhaps (Right (h - 1))) h (expr_rung h) ts v r l None r n v
      (roomy h v.tree v.height b.1 g) e (targets v r l e g wide t) (ap (perhaps_from r) (made_stops measured_right (Right (h - 1) r) n f)) (ap (λ (i : ℕ). record { tree = v.tree; height = i }) b.1)

  pub expr_assigns : (v : Measured Expr) (r : List Token) (l n : ℕ) (op : AssignOp) (w x : Measured Expr) (q : List Token) → Ended v r l → v.height < h → h < 2 ^ 32 → nat_le post_level (expr_shape v.tree).level ≡ true → becoming measured_right (Right (h - 1) r) ≡ Found (op, w) q n → x ≡ assign_node v op w → becoming measured ((levels_at h).expr ts) ≡ Found x q (min l n)
  expr_assigns v r l n op w x q e g wide t f i =
      let b = measured_found expr_height ((levels_at h).conditional ts) v r l e in
      let a = made_found measured_right (Right (h - 1) r) (op, w) q n f in
      let o : a.0.0 ≡ op = ap (λ (p : AssignOp × Measured Expr). p.0) a.2 in
      let m : measured a.0.1 ≡ w = ap (λ (p : AssignOp × Measured Expr). p.1) a.2 in
      let tree : a.0.1 ≡ w.tree = ap (λ (y : Measured Expr). y.tree) m in
      let high : w.height ≡ capped (expr_height w.tree) = sym (ap (λ (y : Measured Expr). y.height) m) ∙ ap (λ (y : Expr). capped (expr_height y)) tree in
      let same : expr_of.Assign v.tree op w.tree ≡ expr_of.Assign v.tree a.0.0 a.0.1 = ap (λ (y : AssignOp). expr_of.Assign v.tree y w.tree) (sym o) ∙ ap (λ (y : Expr). expr_of.Assign v.tree a.0.0 y) (sym tree) in
      rung_more (Option (AssignOp × Expr)) (no_target (h - 1)) None assign_made (levels_at h).conditional (levels_at h).expr (perhaps (Right (h - 1))) h (expr_rung h) ts v r l (Some a.0) q n x
      (roomy h v.tree v.height b.1 g) e (targets v r l e g wide t) (ap (perhaps_from r) a.1) (i ∙ assign_measured v op w b.1 high ∙ ap measured same)
