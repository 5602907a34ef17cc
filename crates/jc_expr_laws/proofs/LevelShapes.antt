-- Chains by their parts: their heights and levels, and which expressions are chains of a level.
use Rattle.std.proofs.Common.{◌≡◌, ℕ, ◌+◌, ◌<◌, ◌≤◌, Bool, true, false, List, [], ◌∷◌, map, refl, sym, ap, ◌∙◌, subst, ⊎_elim, arith}
use Rattle.std.proofs.lemmas.Bool.{false≢true, and_parts, and_from, leb-true, le-leb, eqb-true, cases_Bool, cases_lt}
use Rattle.std.specs.Prelude.{◌&&◌, nat_le, not, ◌==◌}
use Rattle.std.specs.List.{list_all}
use Rattle.jc_tree.specs.declared.expression.ArrayInit.{ArrayInit}
use Rattle.jc_tree.specs.declared.expression.BinaryOp.{BinaryOp}
use Rattle.jc_tree.specs.declared.expression.Creation.{Creation}
use Rattle.jc_tree.specs.declared.expression.Expr.{Expr, Expr-F, out-Expr, roll-Expr, roll-out-Expr, map-Expr}
use Rattle.jc_tree.specs.declared.expression.Expr.TheVariants as expr_of
use Rattle.jc_tree.specs.declared.expression.Init.{Init}
use Rattle.jc_tree.specs.declared.expression.Operand.{Operand, Operand-F, out-Operand, roll-Operand, roll-out-Operand, map-Operand}
use Rattle.jc_tree.specs.declared.expression.Operand.TheVariants as operand_of
use Rattle.jc_tree.specs.declared.expression.PrefixSign.{PrefixSign}
use Rattle.jc_tree.specs.declared.expression.PrefixSign.TheVariants as prefix_of
use Rattle.jc_tree.specs.Heights.{most, expr_height, operand_height}
use Rattle.jc_tree.proofs.HeightsOfExpressions.{operand_height-Binary}
use Rattle.jc_grammar.specs.Shapes.{Shape, CreationShape, OperandShape, stands, of_level, longest_types, expr_shape, creation_shape, operand_shape, is_init, is_array, expr_shape_step, operand_shape_step, prefix_level, binary_level}
use Rattle.jc_grammar.proofs.ShapesOfExpressions.{expr_shape-out, operand_shape-out, operand_shape-Binary}
use Rattle.jc_reading.proofs.Lists.{fits_all}
use Rattle.jc_reading.proofs.Rooms.{room_above, room_max}
use Rattle.jc_expr_laws.specs.LevelReading.{operand_made}

abbrev Layer : Type 0
Layer = Expr-F Creation Expr Init Operand ArrayInit

abbrev shaped : Layer → Shape
shaped l = expr_shape_step (map-Expr Creation Expr Init Operand ArrayInit CreationShape Shape Bool OperandShape Bool creation_shape expr_shape is_init operand_shape is_array l)

pub record IsChain (e : Expr) : Type 0 where
  pub first : Expr
  pub rest : List Operand
  pub is_it : expr_of.Chain first rest ≡ e

is_Chain : (e : Expr) (first : Expr) (rest : List Operand) → out-Expr e ≡ Expr-F.Chain first rest → IsChain e
is_Chain e first rest q = record { first = first; rest = rest; is_it = sym (expr_of.rolls-Chain first rest) ∙ ap roll-Expr (sym q) ∙ roll-out-Expr e }

unary : (s : PrefixSign) → 12 ≤ prefix_level s
unary prefix_of.Plus = omega arith
unary prefix_of.Minus = omega arith
unary prefix_of.Increment = omega arith
unary prefix_of.Decrement = omega arith
unary prefix_of.Not = omega arith
unary prefix_of.Complement = omega arith

module _ (level : ℕ) (lo : 2 ≤ level) (hi : level ≤ 11) where
  chain_layer : (e : Expr) (l : Layer) → out-Expr e ≡ l → (shaped l).level ≡ level → IsChain e
  chain_layer e (Expr-F.Assign target op value) q g = absurd (omega (arith, g, lo))
  chain_layer e (Expr-F.Conditional test then_it else_it) q g = absurd (omega (arith, g, lo))
  chain_layer e (Expr-F.Chain first rest) q g = is_Chain e first rest q
  chain_layer e (Expr-F.Prefix first more operand) q g = let u = unary first.sign in absurd (omega (arith, g, hi, u))
  chain_layer e (Expr-F.Cast at ty operand) q g = absurd (omega (arith, g, hi))
  chain_layer e (Expr-F.Postfix of_it op) q g = absurd (omega (arith, g, hi))
  chain_layer e (Expr-F.Field of_it name) q g = absurd (omega (arith, g, hi))
  chain_layer e (Expr-F.Call of_it type_args name args) q g = absurd (omega (arith, g, hi))
  chain_layer e (Expr-F.Index of_it index) q g = absurd (omega (arith, g, hi))
  chain_layer e (Expr-F.InnerNew of_it creation) q g = absurd (omega (arith, g, hi))
  chain_layer e (Expr-F.Literal at value) q g = absurd (omega (arith, g, hi))
  chain_layer e (Expr-F.This at) q g = absurd (omega (arith, g, hi))
  chain_layer e (Expr-F.SuperField at name) q g = absurd (omega (arith, g, hi))
  chain_layer e (Expr-F.SuperCall at type_args name args) q g = absurd (omega (arith, g, hi))
  chain_layer e (Expr-F.Paren at inside) q g = absurd (omega (arith, g, hi))
  chain_layer e (Expr-F.Name name) q g = absurd (omega (arith, g, hi))
  chain_layer e (Expr-F.Invoke name args) q g = absurd (omega (arith, g, hi))
  chain_layer e (Expr-F.New at creation) q g = absurd (omega (arith, g, hi))
  chain_layer e (Expr-F.ClassLiteral ty) q g = absurd (omega (arith, g, hi))
  chain_layer e (Expr-F.VoidLiteral at) q g = absurd (omega (arith, g, hi))
  chain_layer e (Expr-F.OuterThis first more) q g = absurd (omega (arith, g, hi))

  -- what stands at a binary level and not at the next one is a chain
  pub chain_only : (e : Expr) → (expr_shape e).level ≡ level → IsChain e
  chain_only e g = chain_layer e (out-Expr e) refl (sym (ap (λ (s : Shape). s.level) (expr_shape-out e)) ∙ g)

pub exactly : (level : ℕ) (s : Shape) → stands level s ≡ true → stands (level + 1) s ≡ false → s.level ≡ level
exactly level s g f =
    let p = and_parts s.good (nat_le level s.level) g in
    let h : level ≤ s.level = leb-true level s.level p.1 in
    ⊎_elim (λ (t : nat_le (level + 1) s.level ≡ true). absurd (false≢true (sym f ∙ and_from s.good (nat_le (level + 1) s.level) p.0 t)))
    (λ (t : nat_le (level + 1) s.level ≡ false). ⊎_elim (λ (lt : s.level < level + 1). let k : s.level ≡ level = omega (arith, lt, h) in k) (λ (le : level + 1 ≤ s.level). absurd (false≢true (sym t ∙ le-leb (level + 1) s.level le))) (cases_lt s.level (level + 1)))
    (cases_Bool (nat_le (level + 1) s.level))

-- operators with operands, of a level and no higher than h
abbrev pub operands_fit : ℕ → ℕ → List (BinaryOp × Expr) → Bool
operands_fit level h list = fits_all (λ (q : BinaryOp × Expr). (binary_level q.0 == level) && (nat_le (expr_height q.1) h && stands (level + 1) (expr_shape q.1))) list

pub record Operands (level h : ℕ) (list : List (BinaryOp × Expr)) : Type 0 where
  pub shapes : list_all (of_level level) (map operand_shape (map operand_made list)) ≡ true
  pub heights : nat_le (most (map operand_height (map operand_made list))) h ≡ true
  pub longest : (o : OperandShape) → o.bare ≡ false → longest_types o (map operand_shape (map operand_made list)) ≡ true

pub operands_made : (level h : ℕ) (list : List (BinaryOp × Expr)) → operands_fit level h list ≡ true → Operands level h list
operands_made level h [] g = record { shapes = refl; heights = room_above h; longest = λ o b. refl }
operands_made level h (q ∷ list) g =
    let p = and_parts ((binary_level q.0 == level) && (nat_le (expr_height q.1) h && stands (level + 1) (expr_shape q.1))) (operands_fit level h list) g in
    let a = and_parts (binary_level q.0 == level) (nat_le (expr_height q.1) h && stands (level + 1) (expr_shape q.1)) p.0 in
    let b = and_parts (nat_le (expr_height q.1) h) (stands (level + 1) (expr_shape q.1)) a.1 in
    let e : binary_level q.0 ≡ level = eqb-true (binary_level q.0) level a.0 in
    let more = operands_made level h list p.1 in
    let shape = operand_shape-Binary q.0 q.1 in
    record {
      shapes = and_from (of_level level (operand_shape (operand_made q))) (list_all (of_level level) (map operand_shape (map operand_made list)))
          (subst (λ (z : OperandShape). of_level level z ≡ true) (sym shape)
          (and_from (stands (binary_level q.0 + 1) (expr_shape q.1)) (binary_level q.0 == level) (subst (λ (n : ℕ). stands (n + 1) (expr_shape q.1) ≡ true) (sym e) b.1) a.0)) more.shapes;
      heights = room_max (operand_height (operand_made q)) (most (map operand_height (map operand_made list))) h
          ∙ and_from (nat_le (operand_height (operand_made q)) h) (nat_le (most (map operand_height (map operand_made list))) h) (ap (λ (n : ℕ). nat_le n h) (operand_height-Binary q.0 q.1) ∙ b.0) more.heights;
      longest = λ o f. and_from (not (o.bare && (operand_shape (operand_made q)).less)) (longest_types (operand_shape (operand_made q)) (map operand_shape (map operand_made list)))
          (ap (λ (c : Bool). not (c && (operand_shape (operand_made q)).less)) f)
          (more.longest (operand_shape (operand_made q)) (ap (λ (z : OperandShape). z.bare) shape));
    }

is_Binary : (o : Operand) (op : BinaryOp) (right : Expr) → out-Operand o ≡ Operand-F.Binary op right → operand_of.Binary op right ≡ o
is_Binary o op right e = sym (operand_of.rolls-Binary op right) ∙ ap roll-Operand (sym e) ∙ roll-out-Operand o

pub record OfOperands (level h : ℕ) (rest : List Operand) : Type 0 where
  pub list : List (BinaryOp × Expr)
  pub are : map operand_made list ≡ rest
  pub fit : operands_fit level h list ≡ true

abbrev operand_layer : Operand-F Creation Expr Init Operand ArrayInit → OperandShape
operand_layer l = operand_shape_step (map-Operand Creation Expr Init Operand ArrayInit CreationShape Shape Bool OperandShape Bool creation_shape expr_shape is_init operand_shape is_array l)

module _ (level h : ℕ) (other : (8 == level) ≡ false) where
  one_more : (o : Operand) (rest : List Operand) (l : Operand-F Creation Expr Init Operand ArrayInit) → out-Operand o ≡ l → of_level level (operand_layer l) ≡ true → nat_le (operand_height o) h ≡ true → OfOperands level h rest → OfOperands level h (o ∷ rest)
  one_more o rest (Operand-F.Binary op right) q g k w =
      let p = and_parts (stands (binary_level op + 1) (expr_shape right)) (binary_level op == level) g in
      let e : binary_level op ≡ level = eqb-true (binary_level op) level p.1 in
      let it = is_Binary o op right q in
      record {
        list = (op, right) ∷ w.list;
        are = ap (λ (x : Operand). x ∷ map operand_made w.list) it ∙ ap (λ (l : List Operand). o ∷ l) w.are;
        fit = and_from ((binary_level op == level) && (nat_le (expr_height right) h && stands (level + 1) (expr_shape right))) (operands_fit level h w.list)
            (and_from (binary_level op == level) (nat_le (expr_height right) h && stands (level + 1) (expr_shape right)) p.1
            (and_from (nat_le (expr_height right) h) (stands (level + 1) (expr_shape right))
            (ap (λ (n : ℕ). nat_le n h) (sym (operand_height-Binary op right) ∙ ap operand_height it) ∙ k)
            (subst (λ (n : ℕ). stands (n + 1) (expr_shape right) ≡ true) e p.0))) w.fit;
      }
  one_more o rest (Operand-F.InstanceOf ty) q g k w = absurd (false≢true (sym other ∙ (and_parts true (8 == level) g).1))

  pub operands_back : (rest : List Operand) → list_all (of_level level) (map operand_shape rest) ≡ true → nat_le (most (map operand_height rest)) h ≡ true → OfOperands level h rest
  operands_back [] g k = record { list = []; are = refl; fit = refl }
  operands_back (o ∷ rest) g k =
      let p = and_parts (of_level level (operand_shape o)) (list_all (of_level level) (map operand_shape rest)) g in
      let m = and_parts (nat_le (operand_height o) h) (nat_le (most (map operand_height rest)) h) (sym (room_max (operand_height o) (most (map operand_height rest)) h) ∙ k) in
      one_more o rest (out-Operand o) refl (subst (λ (z : OperandShape). of_level level z ≡ true) (operand_shape-out o) p.0) m.0 (operands_back rest p.1 m.1)
