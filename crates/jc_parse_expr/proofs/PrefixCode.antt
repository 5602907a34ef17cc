-- What the code reads of prefix operators.
use Rattle.std.proofs.Common.{◌≡◌, ℕ, zero, suc, ◌-◌, ◌≤◌, min, true, false, List, length, refl, sym, ap, ◌∙◌, subst, arith}
use Rattle.std.proofs.lemmas.Bool.{cond-true, cond-false}
use Rattle.jc_lexer.specs.declared.token.Token.{Token}
use Rattle.jc_tree.specs.declared.expression.PrefixOp.{PrefixOp}
use Rattle.jc_tree.specs.declared.expression.Expr.{Expr}
use Rattle.jc_tree.specs.Heights.{expr_height}
use Rattle.jc_reading.specs.Kinds.{one_of}
use Rattle.jc_reading.specs.Reading.{Read, Found, Stopped, Run, found, noting, becoming, joined, as_new, in_turn, any_number, This, That, either, ◌>>=◌}
use Rattle.jc_reading.specs.Further.{either_one}
use Rattle.jc_parse_expr.specs.declared.measured.Measured.{Measured}
use Rattle.jc_parse_expr.specs.Measuring.{measured}
use Rattle.jc_expr_laws.specs.LevelReading.{prefix_op_run, plain_op_run, prefix_codes, prefix_made, prefix_run, plain_run, unary_run, next_levels}
use Rattle.jc_expr_laws.specs.ExprReading.{readers, next_readers}
use Rattle.jc_parse_expr.specs.Nodes.{prefix_node}
use Rattle.jc_parse_expr.specs.BinaryLevels.{levels_at, prefixed_run, plain_op_codes}
use Rattle.jc_parse_expr.proofs.MeasuredRead.{measured_found, measured_stopped}
use Rattle.jc_parse_expr.proofs.PairSteps.{pair_found, pair_stops}
use Rattle.jc_parse_expr.proofs.NodeHeights.{prefix_measured}

-- prefix operators

abbrev Prefixed : PrefixOp → List Token → Read (List PrefixOp × Expr) → Read (Measured Expr)
Prefixed first ts m = becoming measured (noting (length ts) (becoming (λ (p : List PrefixOp × Expr). prefix_made (first, p)) m))

pub prefixed_found : (first : PrefixOp) (bare : Run Expr) (ts q r : List Token) (list : List PrefixOp) (v w : Measured Expr) (l k : ℕ) → any_number prefix_op_run ts ≡ Found list q l → becoming measured (bare q) ≡ Found v r k → w ≡ prefix_node first list v → becoming measured (prefixed_run first bare ts) ≡ Found w r (min (length ts) (min l k))
prefixed_found first bare ts q r list v w l k e f g =
    let b = measured_found expr_height (bare q) v r k f in
    ap (Prefixed first ts) (pair_found (any_number prefix_op_run) bare ts list q l v.tree r k e b.0)
    ∙ ap (λ (x : Measured Expr). Found x r (min (length ts) (min l k))) (sym (prefix_measured first list v b.1) ∙ sym g)

pub prefixed_stops : (first : PrefixOp) (bare : Run Expr) (ts q : List Token) (list : List PrefixOp) (l k : ℕ) → any_number prefix_op_run ts ≡ Found list q l → becoming measured (bare q) ≡ Stopped k → becoming measured (prefixed_run first bare ts) ≡ Stopped (min (length ts) (min l k))
prefixed_stops first bare ts q list l k e f =
    ap (Prefixed first ts) (pair_stops (any_number prefix_op_run) bare ts list q l k e (measured_stopped expr_height (bare q) k f))

pub prefix_there : (first : Run PrefixOp) (bare : Run Expr) (ts q : List Token) (op : PrefixOp) → first ts ≡ found op q → prefix_run first bare ts ≡ prefixed_run op bare q
prefix_there first bare ts q op e =
    ap (λ (m : Read PrefixOp). becoming prefix_made (m >>= (λ a q. becoming (joined a) (in_turn (any_number prefix_op_run) bare q)))) e ∙ same (in_turn (any_number prefix_op_run) bare q)
  where
    same : (m : Read (List PrefixOp × Expr)) → becoming prefix_made (noting (length q) (becoming (joined op) m)) ≡ noting (length q) (becoming (λ (p : List PrefixOp × Expr). prefix_made (op, p)) m)
    same (Found p r l) = refl
    same (Stopped l) = refl

this_one : (m : Read Expr) → becoming either_one (becoming This m) ≡ m
this_one (Found e r l) = refl
this_one (Stopped l) = refl

that_one : (m : Read Expr) → becoming either_one (becoming That m) ≡ m
that_one (Found e r l) = refl
that_one (Stopped l) = refl

either_first : (codes : List ℕ) (m n : Run Expr) (ts : List Token) → one_of codes ts ≡ true → as_new either_one (either codes m n) ts ≡ m ts
either_first codes m n ts e = ap (becoming either_one) (cond-true (one_of codes ts) (becoming This (m ts)) (becoming That (n ts)) e) ∙ this_one (m ts)

either_second : (codes : List ℕ) (m n : Run Expr) (ts : List Token) → one_of codes ts ≡ false → as_new either_one (either codes m n) ts ≡ n ts
either_second codes m n ts e = ap (becoming either_one) (cond-false (one_of codes ts) (becoming This (m ts)) (becoming That (n ts)) e) ∙ that_one (n ts)

pub unary_low : (h : ℕ) (ts : List Token) → h ≤ 1 → (levels_at h).unary ts ≡ (levels_at h).bare ts
unfolding readers next_readers next_levels unary_run
unary_low zero ts e = refl
unary_low (suc zero) ts e = refl
unary_low (suc (suc k)) ts e = absurd (omega (arith, e))

pub unary_bare : (h : ℕ) (ts : List Token) → one_of prefix_codes ts ≡ false → (levels_at h).unary ts ≡ (levels_at h).bare ts
unfolding readers next_readers next_levels unary_run
unary_bare zero ts e = refl
unary_bare (suc zero) ts e = refl
unary_bare (suc (suc k)) ts e = either_second prefix_codes (prefix_run prefix_op_run (levels_at (suc k)).bare) (levels_at (suc (suc k))).bare ts e

pub unary_prefix : (h k : ℕ) (ts q : List Token) (op : PrefixOp) → h ≡ suc (suc k) → one_of prefix_codes ts ≡ true → prefix_op_run ts ≡ found op q → (levels_at h).unary ts ≡ prefixed_run op (levels_at (h - 1)).bare q
unfolding readers next_readers next_levels unary_run
unary_prefix h k ts q op room e f =
    let j : suc k ≡ suc (suc k) - 1 = omega arith in
    subst (λ (i : ℕ). (levels_at i).unary ts ≡ prefixed_run op (levels_at (i - 1)).bare q) (sym room)
    (subst (λ (i : ℕ). (levels_at (suc (suc k))).unary ts ≡ prefixed_run op (levels_at i).bare q) j
    (either_first prefix_codes (prefix_run prefix_op_run (levels_at (suc k)).bare) (levels_at (suc (suc k))).bare ts e ∙ prefix_there prefix_op_run (levels_at (suc k)).bare ts q op f))

pub plain_low : (h : ℕ) (ts : List Token) → h ≤ 1 → (levels_at h).plain ts ≡ (levels_at h).bare ts
unfolding readers next_readers next_levels plain_run
plain_low zero ts e = refl
plain_low (suc zero) ts e = refl
plain_low (suc (suc k)) ts e = absurd (omega (arith, e))

pub plain_bare : (h : ℕ) (ts : List Token) → one_of plain_op_codes ts ≡ false → (levels_at h).plain ts ≡ (levels_at h).bare ts
unfolding readers next_readers next_levels plain_run
plain_bare zero ts e = refl
plain_bare (suc zero) ts e = refl
plain_bare (suc (suc k)) ts e = either_second plain_op_codes (prefix_run plain_op_run (levels_at (suc k)).bare) (levels_at (suc (suc k))).bare ts e

pub plain_prefix : (h k : ℕ) (ts q : List Token) (op : PrefixOp) → h ≡ suc (suc k) → one_of plain_op_codes ts ≡ true → plain_op_run ts ≡ found op q → (levels_at h).plain ts ≡ prefixed_run op (levels_at (h - 1)).bare q
unfolding readers next_readers next_levels plain_run
plain_prefix h k ts q op room e f =
    let j : suc k ≡ suc (suc k) - 1 = omega arith in
    subst (λ (i : ℕ). (levels_at i).plain ts ≡ prefixed_run op (levels_at (i - 1)).bare q) (sym room)
    (subst (λ (i : ℕ). (levels_at (suc (suc k))).plain ts ≡ prefixed_run op (levels_at i).bare q) j
    (either_first plain_op_codes (prefix_run plain_op_run (levels_at (suc k)).bare) (levels_at (suc (suc k))).bare ts e ∙ prefix_there plain_op_run (levels_at (suc k)).bare ts q op f))
