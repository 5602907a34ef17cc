-- What the code reads of operators with their operands, and of comparisons.
use Rattle.std.proofs.Common.{◌≡◌, ℕ, min, Bool, true, false, List, [], ◌∷◌, length, refl, sym, ap, ◌∙◌}
use Rattle.std.proofs.lemmas.Bool.{cond-true, cond-false}
use Rattle.jc_lexer.specs.declared.token.Key.TheVariants as key_of
use Rattle.jc_lexer.specs.declared.token.Token.{Token}
use Rattle.jc_tree.specs.declared.types.TypeTree.{TypeTree}
use Rattle.jc_tree.specs.declared.expression.BinaryOp.{BinaryOp}
use Rattle.jc_tree.specs.declared.expression.Expr.{Expr}
use Rattle.jc_tree.specs.declared.expression.Operand.{Operand}
use Rattle.jc_tree.specs.declared.expression.Operand.TheVariants as operand_of
use Rattle.jc_tree.specs.Heights.{expr_height}
use Rattle.jc_reading.specs.declared.reading.Halt.{Halt}
use Rattle.jc_reading.specs.Giving.{Halts}
use Rattle.jc_reading.specs.Kinds.{key_code, one_of}
use Rattle.jc_reading.specs.Reading.{Read, Found, Stopped, Run, found, becoming, joined, as_new, in_turn, This, That, of_kind}
use Rattle.jc_parse_type.specs.TypeReading.{type_run}
use Rattle.jc_parse_type.proofs.CodeSteps.{within_type}
use Rattle.jc_parse_expr.specs.declared.measured.Measured.{Measured}
use Rattle.jc_parse_expr.specs.Measuring.{measured, of_height}
use Rattle.jc_expr_laws.specs.LevelReading.{operand_made, less_run}
use Rattle.jc_expr_laws.specs.CompareReading.{Comparison, comparison_run, barred, compared_operand}
use Rattle.jc_parse_expr.specs.Nodes.{binary_node}
use Rattle.jc_parse_expr.specs.BinaryLevels.{operator_run, measured_operand, operand_run, next_operand_run}
use Rattle.jc_parse_expr.specs.declared.operators.Level.{Level}
use Rattle.jc_parse_expr.specs.declared.operators.Level.TheVariants as level_of
use Rattle.jc_parse_expr.proofs.MeasuredRead.{measured_found, measured_stopped, halts_by}
use Rattle.jc_parse_expr.proofs.PairSteps.{pair_found, pair_stops, pair_first, pair_far}
use Rattle.jc_tree.proofs.HeightsOfExpressions.{operand_height-Binary}

-- operands

pub operand_found : (level : Level) (next : Run Expr) (ts q r : List Token) (op : BinaryOp) (v : Measured Expr) (w : Measured Operand) (l k : ℕ) → operator_run level ts ≡ Found op q l → becoming measured (next q) ≡ Found v r k → w ≡ binary_node op v → becoming measured_operand (operand_run level next ts) ≡ Found w r (min l k)
operand_found level next ts q r op v w l k e f g =
    let b = measured_found expr_height (next q) v r k f in
    ap (λ (m : Read (BinaryOp × Expr)). becoming measured_operand (becoming operand_made m)) (pair_found (operator_run level) next ts op q l v.tree r k e b.0)
    ∙ ap (λ (x : Measured Operand). Found x r (min l k)) (ap (λ (n : ℕ). of_height (operand_of.Binary op v.tree) n) (operand_height-Binary op v.tree) ∙ ap (λ (n : ℕ). record { tree = operand_of.Binary op v.tree; height = n }) (sym b.1) ∙ sym g)

pub operand_stops : (level : Level) (next : Run Expr) (ts q : List Token) (op : BinaryOp) (l k : ℕ) → operator_run level ts ≡ Found op q l → becoming measured (next q) ≡ Stopped k → becoming measured_operand (operand_run level next ts) ≡ Stopped (min l k)
operand_stops level next ts q op l k e f =
    ap (λ (m : Read (BinaryOp × Expr)). becoming measured_operand (becoming operand_made m)) (pair_stops (operator_run level) next ts op q l k e (measured_stopped expr_height (next q) k f))

pub operand_first : (level : Level) (next : Run Expr) (ts : List Token) (e : Halt) → Halts e (operator_run level ts) → Halts e (becoming measured_operand (operand_run level next ts))
operand_first level next ts e m = halts_by (operator_run level ts) _ (λ l s. ap (λ (m : Read (BinaryOp × Expr)). becoming measured_operand (becoming operand_made m)) (pair_first (operator_run level) next ts l s)) e m

-- comparisons

abbrev Instanceof : Run (Unit {0})
Instanceof = of_kind (key_code key_of.Instanceof)

pub comparison_barred : (h : ℕ) (next : Run Expr) (opened touched : Bool) (ts : List Token) → one_of (barred opened touched) ts ≡ true → becoming measured_operand (next_operand_run h next opened touched ts) ≡ Stopped (length ts)
comparison_barred h next opened touched ts e = ap (λ (m : Read Comparison). becoming measured_operand (becoming compared_operand m)) (cond-true (one_of (barred opened touched) ts) (Stopped (length ts)) (comparison_run h next ts) e)

free : (h : ℕ) (next : Run Expr) (opened touched : Bool) (ts : List Token) → one_of (barred opened touched) ts ≡ false → next_operand_run h next opened touched ts ≡ becoming compared_operand (comparison_run h next ts)
free h next opened touched ts e = ap (becoming compared_operand) (cond-false (one_of (barred opened touched) ts) (Stopped (length ts)) (comparison_run h next ts) e)

instance_same : (m : Read TypeTree) → becoming compared_operand (becoming This (becoming (joined {A = Unit {0}} tt) m)) ≡ becoming operand_of.InstanceOf m
instance_same (Found ty r l) = refl
instance_same (Stopped l) = refl

pub comparison_instance : (h : ℕ) (next : Run Expr) (opened touched : Bool) (ts q : List Token) → one_of (barred opened touched) ts ≡ false → one_of (key_code key_of.Instanceof ∷ []) ts ≡ true → Instanceof ts ≡ found tt q → next_operand_run h next opened touched ts ≡ as_new operand_of.InstanceOf (type_run h) q
comparison_instance h next opened touched ts q e f g =
    free h next opened touched ts e
    ∙ ap (becoming compared_operand) (cond-true (one_of (key_code key_of.Instanceof ∷ []) ts) (becoming This (in_turn Instanceof (type_run h) ts)) (becoming That (in_turn less_run next ts)) f)
    ∙ ap (λ (m : Read (Unit {0} × TypeTree)). becoming compared_operand (becoming This m)) (pair_far Instanceof (type_run h) ts tt q g (within_type h q))
    ∙ instance_same (type_run h q)

binary_same : (m : Read (BinaryOp × Expr)) → becoming compared_operand (becoming That m) ≡ becoming operand_made m
binary_same (Found p r l) = refl
binary_same (Stopped l) = refl

pub comparison_binary : (h : ℕ) (next : Run Expr) (opened touched : Bool) (ts : List Token) → one_of (barred opened touched) ts ≡ false → one_of (key_code key_of.Instanceof ∷ []) ts ≡ false → next_operand_run h next opened touched ts ≡ operand_run level_of.Compared next ts
comparison_binary h next opened touched ts e f =
    free h next opened touched ts e
    ∙ ap (becoming compared_operand) (cond-false (one_of (key_code key_of.Instanceof ∷ []) ts) (becoming This (in_turn Instanceof (type_run h) ts)) (becoming That (in_turn less_run next ts)) f)
    ∙ binary_same (in_turn less_run next ts)
