-- What the code reads, piece by piece.
use Rattle.std.proofs.Common.{◌≡◌, ℕ, min, List, length, refl, sym, ap, ◌∙◌}
use Rattle.jc_lexer.specs.declared.token.Sign.TheVariants as sign_of
use Rattle.jc_lexer.specs.declared.token.Token.{Token}
use Rattle.jc_tree.specs.declared.expression.AssignOp.{AssignOp}
use Rattle.jc_tree.specs.declared.expression.Expr.{Expr}
use Rattle.jc_tree.specs.Heights.{expr_height}
use Rattle.jc_reading.specs.declared.reading.Halt.{Halt}
use Rattle.jc_reading.specs.Giving.{Halts}
use Rattle.jc_reading.specs.Kinds.{sign_code}
use Rattle.jc_reading.specs.Reading.{Read, Found, Stopped, Run, found, becoming, joined, in_turn, of_kind, behind_it}
use Rattle.jc_reading.proofs.Steps.{within_bind, within_becoming}
use Rattle.jc_reading.proofs.Signs.{sign_laws}
use Rattle.jc_reading.specs.Reach.{Within}
use Rattle.jc_parse_expr.specs.declared.measured.Measured.{Measured}
use Rattle.jc_parse_expr.specs.Measuring.{measured}
use Rattle.jc_expr_laws.specs.LevelReading.{assign_run}
use Rattle.jc_parse_expr.specs.BinaryLevels.{levels_at, measured_branches, measured_right, branches_run, otherwise_run}
use Rattle.jc_parse_expr.proofs.MeasuredRead.{measured_found, measured_stopped, measured_halts, halts_by}
use Rattle.jc_parse_expr.proofs.PairSteps.{pair_found, pair_stops, pair_first, pair_far, made_found, made_stops}
use Rattle.jc_parse_expr.proofs.CodeFacts.{within_expr, within_conditional}

-- assignments

pub assigned_found : (h : ℕ) (ts q r : List Token) (op : AssignOp) (v : Measured Expr) (l k : ℕ) → assign_run ts ≡ Found op q l → becoming measured ((levels_at h).expr q) ≡ Found v r k → becoming measured_right (in_turn assign_run (levels_at h).expr ts) ≡ Found (op, v) r (min l k)
assigned_found h ts q r op v l k e f =
    let b = measured_found expr_height ((levels_at h).expr q) v r k f in
    ap (becoming measured_right) (pair_found assign_run (levels_at h).expr ts op q l v.tree r k e b.0)
    ∙ ap (λ (w : Measured Expr). Found (op, w) r (min l k)) (ap (λ (n : ℕ). record { tree = v.tree; height = n }) (sym b.1))

pub assigned_stops : (h : ℕ) (ts q : List Token) (op : AssignOp) (l k : ℕ) → assign_run ts ≡ Found op q l → becoming measured ((levels_at h).expr q) ≡ Stopped k → becoming measured_right (in_turn assign_run (levels_at h).expr ts) ≡ Stopped (min l k)
assigned_stops h ts q op l k e f = ap (becoming measured_right) (pair_stops assign_run (levels_at h).expr ts op q l k e (measured_stopped expr_height ((levels_at h).expr q) k f))

pub assigned_first : (h : ℕ) (ts : List Token) (e : Halt) → Halts e (assign_run ts) → Halts e (becoming measured_right (in_turn assign_run (levels_at h).expr ts))
assigned_first h ts e m = halts_by (assign_run ts) _ (λ l s. ap (becoming measured_right) (pair_first assign_run (levels_at h).expr ts l s)) e m

-- what stands behind a test

abbrev Question : Run (Unit {0})
Question = of_kind (sign_code sign_of.Question)

abbrev Colon : Run (Unit {0})
Colon = of_kind (sign_code sign_of.Colon)

abbrev Otherwise : ℕ → Run (Unit {0} × Expr)
Otherwise h = in_turn Colon (levels_at h).conditional

abbrev Inside : ℕ → Run (Expr × (Unit {0} × Expr))
Inside h = in_turn (levels_at h).expr (Otherwise h)

within_otherwise : (h : ℕ) (ts : List Token) → Within (length ts) (Otherwise h ts)
within_otherwise h ts = within_bind (length ts) (Colon ts) _ ((sign_laws sign_of.Colon).within ts) (λ a r. within_becoming (length r) (joined a) ((levels_at h).conditional r) (within_conditional h r))

within_inside : (h : ℕ) (ts : List Token) → Within (length ts) (Inside h ts)
within_inside h ts = within_bind (length ts) ((levels_at h).expr ts) _ (within_expr h ts) (λ a r. within_becoming (length r) (joined a) (Otherwise h r) (within_otherwise h r))

branches_are : (h : ℕ) (ts q : List Token) → Question ts ≡ found tt q → branches_run (levels_at h) ts ≡ becoming (joined tt) (Inside h q)
branches_are h ts q e = pair_far Question (Inside h) ts tt q e (within_inside h q)

pub branches_first : (h : ℕ) (ts : List Token) → Question ts ≡ Stopped (length ts) → becoming measured_branches (branches_run (levels_at h) ts) ≡ Stopped (length ts)
branches_first h ts e = ap (becoming measured_branches) (pair_first Question (Inside h) ts (length ts) e)

pub branches_halts : (h : ℕ) (ts q : List Token) (e : Halt) → Question ts ≡ found tt q → Halts e (becoming measured ((levels_at h).expr q)) → Halts e (becoming measured_branches (branches_run (levels_at h) ts))
branches_halts h ts q e f m =
    halts_by ((levels_at h).expr q) _ (λ l s. ap (becoming measured_branches) (branches_are h ts q f ∙ ap (becoming (joined tt)) (pair_first (levels_at h).expr (Otherwise h) q l s))) e (measured_halts expr_height ((levels_at h).expr q) e m)

pub branches_stop : (h : ℕ) (ts q r : List Token) (v : Measured Expr) (l k : ℕ) → Question ts ≡ found tt q → becoming measured ((levels_at h).expr q) ≡ Found v r l → becoming measured (otherwise_run (levels_at h) r) ≡ Stopped k → becoming measured_branches (branches_run (levels_at h) ts) ≡ Stopped (min l k)
branches_stop h ts q r v l k f a b =
    let one = measured_found expr_height ((levels_at h).expr q) v r l a in
    let two = made_stops behind_it (Otherwise h r) k (measured_stopped expr_height (otherwise_run (levels_at h) r) k b) in
    ap (becoming measured_branches) (branches_are h ts q f ∙ ap (becoming (joined tt)) (pair_stops (levels_at h).expr (Otherwise h) q v.tree r l k one.0 two))

pub branches_found : (h : ℕ) (ts q r s : List Token) (v w : Measured Expr) (l k : ℕ) → Question ts ≡ found tt q → becoming measured ((levels_at h).expr q) ≡ Found v r l → becoming measured (otherwise_run (levels_at h) r) ≡ Found w s k → becoming measured_branches (branches_run (levels_at h) ts) ≡ Found (v, w) s (min l k)
branches_found h ts q r s v w l k f a b =
    let one = measured_found expr_height ((levels_at h).expr q) v r l a in
    let last = measured_found expr_height (otherwise_run (levels_at h) r) w s k b in
    let two = made_found behind_it (Otherwise h r) w.tree s k last.0 in
    ap (becoming measured_branches) (branches_are h ts q f ∙ ap (becoming (joined tt)) (pair_found (levels_at h).expr (Otherwise h) q v.tree r l two.0 s k one.0 two.1))
    ∙ ap (λ (p : Measured Expr × Measured Expr). Found p s (min l k))
    (ap (λ (n : ℕ). (record { tree = v.tree; height = n }, measured two.0.1)) (sym one.1) ∙ ap (λ (x : Measured Expr). (v, x)) (ap measured two.2 ∙ ap (λ (n : ℕ). record { tree = w.tree; height = n }) (sym last.1)))

pub otherwise_is : (h : ℕ) (ts q : List Token) → Colon ts ≡ found tt q → otherwise_run (levels_at h) ts ≡ (levels_at h).conditional q
otherwise_is h ts q e = ap (becoming behind_it) (pair_far Colon (levels_at h).conditional ts tt q e (within_conditional h q)) ∙ same ((levels_at h).conditional q)
  where
    same : (m : Read Expr) → becoming behind_it (becoming (joined {A = Unit {0}} tt) m) ≡ m
    same (Found e r l) = refl
    same (Stopped l) = refl

pub otherwise_first : (h : ℕ) (ts : List Token) → Colon ts ≡ Stopped (length ts) → becoming measured (otherwise_run (levels_at h) ts) ≡ Stopped (length ts)
otherwise_first h ts e = ap (λ (m : Read (Unit {0} × Expr)). becoming measured (becoming behind_it m)) (pair_first Colon (levels_at h).conditional ts (length ts) e)
