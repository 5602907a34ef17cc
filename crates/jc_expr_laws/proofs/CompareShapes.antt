-- Which lists of operands are comparisons that are read one behind the other: their levels and heights, and what may stand behind a type.
use Rattle.std.proofs.Common.{◌≡◌, ℕ, suc, ◌+◌, Bool, true, false, List, [], ◌∷◌, map, refl, sym, ap, ◌∙◌, subst}
use Rattle.std.proofs.lemmas.Bool.{and_parts, and_from, eqb-true}
use Rattle.std.specs.Prelude.{◌&&◌, nat_le, not, ◌==◌}
use Rattle.std.specs.List.{list_all}
use Rattle.jc_tree.specs.declared.expression.ArrayInit.{ArrayInit}
use Rattle.jc_tree.specs.declared.expression.BinaryOp.{BinaryOp}
use Rattle.jc_tree.specs.declared.expression.BinaryOp.TheVariants as binary_of
use Rattle.jc_tree.specs.declared.expression.Creation.{Creation}
use Rattle.jc_tree.specs.declared.expression.Expr.{Expr}
use Rattle.jc_tree.specs.declared.expression.Init.{Init}
use Rattle.jc_tree.specs.declared.expression.Operand.{Operand, Operand-F, out-Operand, roll-Operand, roll-out-Operand, map-Operand}
use Rattle.jc_tree.specs.declared.expression.Operand.TheVariants as operand_of
use Rattle.jc_tree.specs.Heights.{most, expr_height, operand_height}
use Rattle.jc_tree.proofs.HeightsOfExpressions.{operand_height-Binary, operand_height-InstanceOf}
use Rattle.jc_grammar.specs.Shapes.{Shape, CreationShape, OperandShape, stands, of_level, longest_types, expr_shape, creation_shape, operand_shape, is_init, is_array, operand_shape_step, binary_level, is_less}
use Rattle.jc_grammar.proofs.ShapesOfExpressions.{operand_shape-out, operand_shape-Binary, operand_shape-InstanceOf}
use Rattle.jc_reading.specs.Kinds.{is_in}
use Rattle.jc_reading.specs.Reading.{Run, This, That}
use Rattle.jc_reading.proofs.Rooms.{room_above, room_max}
use Rattle.jc_expr_laws.specs.CompareReading.{Comparison, ends_open_type, barred, behind_part, compared_operand, next_comparison_run}
use Rattle.jc_expr_laws.proofs.CompareLinks.{fits_on}
use Rattle.jc_expr_laws.proofs.CompareParts.{op_lead, lead, soft, hard, part_starts, part_ends, Part, part_fits}

less_part : Comparison → Bool
less_part (This p) = false
less_part (That p) = is_less p.0

shape_less : (p : Comparison) → (operand_shape (compared_operand p)).less ≡ less_part p
unfolding less_part
shape_less (This p) = ap (λ (z : OperandShape). z.less) (operand_shape-InstanceOf p.1)
shape_less (That p) = ap (λ (z : OperandShape). z.less) (operand_shape-Binary p.0 p.1)

shape_bare : (p : Comparison) → (operand_shape (compared_operand p)).bare ≡ ends_open_type p
shape_bare (This p) = ap (λ (z : OperandShape). z.bare) (operand_shape-InstanceOf p.1)
shape_bare (That p) = ap (λ (z : OperandShape). z.bare) (operand_shape-Binary p.0 p.1)

op_free : (bare : Bool) (op : BinaryOp) → not (is_in (barred bare false) (op_lead op)) ≡ not (bare && is_less op)
op_free false op = refl
op_free true binary_of.Less = refl
op_free true binary_of.LessEqual = refl
op_free true _ = refl

part_free : (bare : Bool) (p : Comparison) → not (is_in (barred bare false) (lead p)) ≡ not (bare && less_part p)
unfolding less_part
part_free false (This p) = refl
part_free true (This p) = refl
part_free bare (That p) = op_free bare p.0

-- no `<` stands behind a type that arguments could follow
free : (bare : Bool) (p : Comparison) → not (is_in (barred bare false) (lead p)) ≡ not (bare && (operand_shape (compared_operand p)).less)
free bare p = part_free bare p ∙ ap (λ (c : Bool). not (bare && c)) (sym (shape_less p))

abbrev operand_layer : Operand-F Creation Expr Init Operand ArrayInit → OperandShape
operand_layer l = operand_shape_step (map-Operand Creation Expr Init Operand ArrayInit CreationShape Shape Bool OperandShape Bool creation_shape expr_shape is_init operand_shape is_array l)

module _ (k : ℕ) (next : Run Expr) where
  abbrev pub On : Bool → List Comparison → Bool
  On bare list = fits_on Bool Comparison behind_part soft hard (part_fits k next) (next_comparison_run (suc k) next) (part_starts k next) (part_ends k next) bare list

  part_shape : (p : Comparison) → (Part k next).fits p ≡ true → of_level 8 (operand_shape (compared_operand p)) ≡ true
  part_shape (This p) g = subst (λ (z : OperandShape). of_level 8 z ≡ true) (sym (operand_shape-InstanceOf p.1)) refl
  part_shape (That p) g =
      let a = and_parts (binary_level p.0 == 8) (nat_le (expr_height p.1) (suc k) && stands 9 (expr_shape p.1)) g in
      let b = and_parts (nat_le (expr_height p.1) (suc k)) (stands 9 (expr_shape p.1)) a.1 in
      let e : binary_level p.0 ≡ 8 = eqb-true (binary_level p.0) 8 a.0 in
      subst (λ (z : OperandShape). of_level 8 z ≡ true) (sym (operand_shape-Binary p.0 p.1))
      (and_from (stands (binary_level p.0 + 1) (expr_shape p.1)) (binary_level p.0 == 8) (subst (λ (n : ℕ). stands (n + 1) (expr_shape p.1) ≡ true) (sym e) b.1) a.0)

  part_height : (p : Comparison) → (Part k next).fits p ≡ true → nat_le (operand_height (compared_operand p)) (suc k) ≡ true
  part_height (This p) g = ap (λ (n : ℕ). nat_le n (suc k)) (operand_height-InstanceOf p.1) ∙ g
  part_height (That p) g =
      let a = and_parts (binary_level p.0 == 8) (nat_le (expr_height p.1) (suc k) && stands 9 (expr_shape p.1)) g in
      ap (λ (n : ℕ). nat_le n (suc k)) (operand_height-Binary p.0 p.1) ∙ (and_parts (nat_le (expr_height p.1) (suc k)) (stands 9 (expr_shape p.1)) a.1).0

  pub record Compared (bare : Bool) (list : List Comparison) : Type 0 where
    pub shapes : list_all (of_level 8) (map operand_shape (map compared_operand list)) ≡ true
    pub heights : nat_le (most (map operand_height (map compared_operand list))) (suc k) ≡ true
    pub longest : (o : OperandShape) → o.bare ≡ bare → longest_types o (map operand_shape (map compared_operand list)) ≡ true

  pub compared_all : (bare : Bool) (list : List Comparison) → On bare list ≡ true → Compared bare list
  compared_all bare [] g = record { shapes = refl; heights = room_above (suc k); longest = λ o b. refl }
  compared_all bare (p ∷ list) g =
      let f = and_parts (part_fits k next bare false p) (On (ends_open_type p) list) g in
      let w = and_parts ((Part k next).fits p) (not (is_in (barred bare false) (lead p))) f.0 in
      let more = compared_all (ends_open_type p) list f.1 in
      let s : OperandShape = operand_shape (compared_operand p) in
      record {
        shapes = and_from (of_level 8 s) (list_all (of_level 8) (map operand_shape (map compared_operand list))) (part_shape p w.0) more.shapes;
        heights = room_max (operand_height (compared_operand p)) (most (map operand_height (map compared_operand list))) (suc k)
            ∙ and_from (nat_le (operand_height (compared_operand p)) (suc k)) (nat_le (most (map operand_height (map compared_operand list))) (suc k)) (part_height p w.0) more.heights;
        longest = λ o b. and_from (not (o.bare && s.less)) (longest_types s (map operand_shape (map compared_operand list)))
            (ap (λ (c : Bool). not (c && s.less)) b ∙ sym (free bare p) ∙ w.1) (more.longest s (shape_bare p));
      }

  pub record OfCompared (bare : Bool) (rest : List Operand) : Type 0 where
    pub list : List Comparison
    pub are : map compared_operand list ≡ rest
    pub fit : On bare list ≡ true

  one_of_it : (bare : Bool) (p : Comparison) (o : Operand) (rest : List Operand) → compared_operand p ≡ o → (Part k next).fits p ≡ true → not (bare && (operand_shape o).less) ≡ true → OfCompared (ends_open_type p) rest → OfCompared bare (o ∷ rest)
  one_of_it bare p o rest it f n w = record {
    list = p ∷ w.list;
    are = ap (λ (x : Operand). x ∷ map compared_operand w.list) it ∙ ap (λ (l : List Operand). o ∷ l) w.are;
    fit = and_from (part_fits k next bare false p) (On (ends_open_type p) w.list)
        (and_from ((Part k next).fits p) (not (is_in (barred bare false) (lead p))) f (free bare p ∙ ap (λ (x : Operand). not (bare && (operand_shape x).less)) it ∙ n)) w.fit;
  }

  one_back : (bare : Bool) (o : Operand) (rest : List Operand) (l : Operand-F Creation Expr Init Operand ArrayInit) → out-Operand o ≡ l → of_level 8 (operand_layer l) ≡ true → nat_le (operand_height o) (suc k) ≡ true → not (bare && (operand_shape o).less) ≡ true
      → ((b : Bool) → (operand_shape o).bare ≡ b → OfCompared b rest) → OfCompared bare (o ∷ rest)
  one_back bare o rest (Operand-F.Binary op right) q g h n more =
      let it : operand_of.Binary op right ≡ o = sym (operand_of.rolls-Binary op right) ∙ ap roll-Operand (sym q) ∙ roll-out-Operand o in
      let p = and_parts (stands (binary_level op + 1) (expr_shape right)) (binary_level op == 8) g in
      let e : binary_level op ≡ 8 = eqb-true (binary_level op) 8 p.1 in
      one_of_it bare (That (op, right)) o rest it
      (and_from (binary_level op == 8) (nat_le (expr_height right) (suc k) && stands 9 (expr_shape right)) p.1
      (and_from (nat_le (expr_height right) (suc k)) (stands 9 (expr_shape right)) (ap (λ (n : ℕ). nat_le n (suc k)) (sym (operand_height-Binary op right) ∙ ap operand_height it) ∙ h) (subst (λ (n : ℕ). stands (n + 1) (expr_shape right) ≡ true) e p.0))) n
      (more false (ap (λ (x : Operand). (operand_shape x).bare) (sym it) ∙ shape_bare (That (op, right))))
  one_back bare o rest (Operand-F.InstanceOf ty) q g h n more =
      let it : operand_of.InstanceOf ty ≡ o = sym (operand_of.rolls-InstanceOf ty) ∙ ap roll-Operand (sym q) ∙ roll-out-Operand o in
      one_of_it bare (This (tt, ty)) o rest it (ap (λ (n : ℕ). nat_le n (suc k)) (sym (operand_height-InstanceOf ty) ∙ ap operand_height it) ∙ h) n
      (more (ends_open_type (This (tt, ty))) (ap (λ (x : Operand). (operand_shape x).bare) (sym it) ∙ shape_bare (This (tt, ty))))

  pub compared_back : (rest : List Operand) (bare : Bool) (before : OperandShape) → before.bare ≡ bare → list_all (of_level 8) (map operand_shape rest) ≡ true → nat_le (most (map operand_height rest)) (suc k) ≡ true → longest_types before (map operand_shape rest) ≡ true → OfCompared bare rest
  compared_back [] bare before b g h n = record { list = []; are = refl; fit = refl }
  compared_back (o ∷ rest) bare before b g h n =
      let p = and_parts (of_level 8 (operand_shape o)) (list_all (of_level 8) (map operand_shape rest)) g in
      let m = and_parts (nat_le (operand_height o) (suc k)) (nat_le (most (map operand_height rest)) (suc k)) (sym (room_max (operand_height o) (most (map operand_height rest)) (suc k)) ∙ h) in
      let c = and_parts (not (before.bare && (operand_shape o).less)) (longest_types (operand_shape o) (map operand_shape rest)) n in
      one_back bare o rest (out-Operand o) refl (subst (λ (z : OperandShape). of_level 8 z ≡ true) (operand_shape-out o) p.0) m.0 (ap (λ (d : Bool). not (d && (operand_shape o).less)) (sym b) ∙ c.0)
      (λ d e. compared_back rest d (operand_shape o) e p.1 m.1 c.1)
