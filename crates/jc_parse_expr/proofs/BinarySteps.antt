-- Conditionals and binary levels, as the code reads them.
use Rattle.std.proofs.Common.{◌≡◌, ℕ, ◌-◌, ◌<◌, ◌≤◌, ◌^◌, min, map, List, [], length, Some, None, sym, ap, ◌∙◌}
use Rattle.std.specs.Prelude.{not}
use Rattle.jc_lexer.specs.declared.token.Token.{Token}
use Rattle.jc_tree.specs.declared.expression.Expr.{Expr}
use Rattle.jc_tree.specs.declared.expression.Expr.TheVariants as expr_of
use Rattle.jc_tree.specs.declared.expression.Operand.{Operand}
use Rattle.jc_tree.specs.Heights.{capped, most, expr_height, operand_height}
use Rattle.jc_reading.specs.declared.reading.Halt.{Halt}
use Rattle.jc_reading.specs.Giving.{Halts}
use Rattle.jc_reading.specs.Reading.{Read, Found, Stopped, becoming, perhaps, perhaps_from}
use Rattle.jc_parse_expr.specs.declared.measured.Measured.{Measured}
use Rattle.jc_parse_expr.specs.Measuring.{measured, measured_operands}
use Rattle.jc_expr_laws.specs.LevelReading.{is_tall, Branches, conditional_made}
use Rattle.jc_parse_expr.specs.Nodes.{conditional_node, chain_node}
use Rattle.jc_parse_expr.specs.declared.operators.Level.{Level}
use Rattle.jc_parse_expr.specs.declared.operators.Level.TheVariants as level_of
use Rattle.jc_parse_expr.specs.BinaryLevels.{levels_at, level_run, tighter_run, operands_run, chain_of, branches_run, measured_branches}
use Rattle.jc_parse_expr.proofs.MeasuredRead.{measured_found}
use Rattle.jc_parse_expr.proofs.PairSteps.{made_found, made_stops}
use Rattle.jc_parse_expr.proofs.Rungs.{rung_halts, rung_closed, rung_more}
use Rattle.jc_parse_expr.proofs.LevelSteps.{conditional_rung, level_rung}
use Rattle.jc_parse_expr.proofs.NodeHeights.{conditional_measured, chain_measured}
use Rattle.jc_parse_expr.proofs.RungSteps.{tall, fits, roomy}
use Rattle.jc_parse_expr.proofs.CodeFacts.{within_level, within_tighter, rest_within}

-- conditionals

module _ (h : ℕ) (ts : List Token) where
  abbrev Tested : Measured Expr → List Token → ℕ → Type 0
  Tested v r l = becoming measured ((levels_at h).or_else ts) ≡ Found v r l

  pub conditional_halts : (e : Halt) → Halts e (becoming measured ((levels_at h).or_else ts)) → Halts e (becoming measured ((levels_at h).conditional ts))
  conditional_halts e m =
      rung_halts Branches (is_tall (h - 1)) None conditional_made (levels_at h).or_else (levels_at h).conditional (perhaps (branches_run (levels_at (h - 1)))) h (conditional_rung h) ts e m

  pub conditional_tall : (v : Measured Expr) (r : List Token) (l : ℕ) → Tested v r l → h ≤ v.height → becoming measured ((levels_at h).conditional ts) ≡ Found v r l
  conditional_tall v r l e g =
      let b = measured_found expr_height ((levels_at h).or_else ts) v r l e in
      rung_closed Branches (is_tall (h - 1)) None conditional_made (levels_at h).or_else (levels_at h).conditional (perhaps (branches_run (levels_at (h - 1)))) h (conditional_rung h) ts v r l e
      (λ room. ap not (tall h v.tree v.height b.1 g room)) (rest_within (length ts) ((levels_at h).or_else ts) v.tree r l (within_level level_of.OrElse h ts) b.0).0

  pub conditional_alone : (v : Measured Expr) (r : List Token) (l n : ℕ) → Tested v r l → v.height < h → h < 2 ^ 32 → becoming measured_branches (branches_run (levels_at (h - 1)) r) ≡ Stopped n → becoming measured ((levels_at h).conditional ts) ≡ Found v r (min l n)
  conditional_alone v r l n e g wide f =
      let b = measured_found expr_height ((levels_at h).or_else ts) v r l e in
      rung_more Branches (is_tall (h - 1)) None conditional_made (levels_at h).or_else (levels_at h).conditional (perhaps (branches_run (levels_at (h - 1)))) h (conditional_rung h) ts v r l None r n v
      (roomy h v.tree v.height b.1 g) e (ap not (fits h v.tree v.height b.1 g wide)) (ap (perhaps_from r) (made_stops measured_branches (branches_run (levels_at (h - 1)) r) n f)) (ap (λ (i : ℕ). record { tree = v.tree; height = i }) b.1)

  pub conditional_branches : (v : Measured Expr) (r : List Token) (l n : ℕ) (w x y : Measured Expr) (q : List Token) → Tested v r l → v.height < h → h < 2 ^ 32 → becoming measured_branches (branches_run (levels_at (h - 1)) r) ≡ Found (w, x) q n → y ≡ conditional_node v w x → becoming measured ((levels_at h).conditional ts) ≡ Found y q (min l n)
  conditional_branches v r l n w x y q e g wide f i =
      let b = measured_found expr_height ((levels_at h).or_else ts) v r l e in
      let a = made_found measured_branches (branches_run (levels_at (h - 1)) r) (w, x) q n f in
      let m : measured a.0.1.0 ≡ w = ap (λ (p : Measured Expr × Measured Expr). p.0) a.2 in
      let o : measured a.0.1.1.1 ≡ x = ap (λ (p : Measured Expr × Measured Expr). p.1) a.2 in
      let tree : a.0.1.0 ≡ w.tree = ap (λ (z : Measured Expr). z.tree) m in
      let tree' : a.0.1.1.1 ≡ x.tree = ap (λ (z : Measured Expr). z.tree) o in
      let high : w.height ≡ capped (expr_height w.tree) = sym (ap (λ (z : Measured Expr). z.height) m) ∙ ap (λ (z : Expr). capped (expr_height z)) tree in
      let high' : x.height ≡ capped (expr_height x.tree) = sym (ap (λ (z : Measured Expr). z.height) o) ∙ ap (λ (z : Expr). capped (expr_height z)) tree' in
      let same : expr_of.Conditional v.tree w.tree x.tree ≡ expr_of.Conditional v.tree a.0.1.0 a.0.1.1.1 = ap (λ (z : Expr). expr_of.Conditional v.tree z x.tree) (sym tree) ∙ ap (λ (z : Expr). expr_of.Conditional v.tree a.0.1.0 z) (sym tree') in
      rung_more Branches (is_tall (h - 1)) None conditional_made (levels_at h).or_else (levels_at h).conditional (perhaps (branches_run (levels_at (h - 1)))) h (conditional_rung h) ts v r l (Some a.0) q n y
      (roomy h v.tree v.height b.1 g) e (ap not (fits h v.tree v.height b.1 g wide)) (ap (perhaps_from r) a.1) (i ∙ conditional_measured v w x b.1 high high' ∙ ap measured same)

-- binary levels

module _ (level : Level) (h : ℕ) (ts : List Token) where
  abbrev Begun : Measured Expr → List Token → ℕ → Type 0
  Begun v r l = becoming measured (tighter_run level (levels_at h) ts) ≡ Found v r l

  abbrev More : List Token → Read (List Operand)
  More r = operands_run level (h - 1) (tighter_run level (levels_at (h - 1))) r

  pub binary_halts : (e : Halt) → Halts e (becoming measured (tighter_run level (levels_at h) ts)) → Halts e (becoming measured (level_run level (levels_at h) ts))
  binary_halts e m =
      rung_halts (List Operand) (is_tall (h - 1)) [] chain_of (tighter_run level (levels_at h)) (level_run level (levels_at h)) (operands_run level (h - 1) (tighter_run level (levels_at (h - 1)))) h (level_rung level h) ts e m

  pub binary_tall : (v : Measured Expr) (r : List Token) (l : ℕ) → Begun v r l → h ≤ v.height → becoming measured (level_run level (levels_at h) ts) ≡ Found v r l
  binary_tall v r l e g =
      let b = measured_found expr_height (tighter_run level (levels_at h) ts) v r l e in
      rung_closed (List Operand) (is_tall (h - 1)) [] chain_of (tighter_run level (levels_at h)) (level_run level (levels_at h)) (operands_run level (h - 1) (tighter_run level (levels_at (h - 1)))) h (level_rung level h) ts v r l e
      (λ room. ap not (tall h v.tree v.height b.1 g room)) (rest_within (length ts) (tighter_run level (levels_at h) ts) v.tree r l (within_tighter level h ts) b.0).0

  pub binary_chain : (v : Measured Expr) (r : List Token) (l n : ℕ) (w : Measured (List Operand)) (x : Measured Expr) (q : List Token) → Begun v r l → v.height < h → h < 2 ^ 32 → becoming measured_operands (More r) ≡ Found w q n → x ≡ chain_node v w → becoming measured (level_run level (levels_at h) ts) ≡ Found x q (min l n)
  binary_chain v r l n w x q e g wide f i =
      let b = measured_found expr_height (tighter_run level (levels_at h) ts) v r l e in
      let a = measured_found (λ (list : List Operand). most (map operand_height list)) (More r) w q n f in
      rung_more (List Operand) (is_tall (h - 1)) [] chain_of (tighter_run level (levels_at h)) (level_run level (levels_at h)) (operands_run level (h - 1) (tighter_run level (levels_at (h - 1)))) h (level_rung level h) ts v r l w.tree q n x
      (roomy h v.tree v.height b.1 g) e (ap not (fits h v.tree v.height b.1 g wide)) a.0 (i ∙ chain_measured v w b.1 (ap (λ (k : ℕ). record { tree = w.tree; height = k }) a.1))
