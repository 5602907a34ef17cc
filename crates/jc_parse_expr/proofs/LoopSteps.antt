-- The loops of operands, turn by turn, and how many tokens are left behind what is read.
use Rattle.std.proofs.Common.{◌≡◌, ℕ, ◌<◌, ◌≤◌, min, max, Bool, false, List, [], ◌∷◌, ◌++◌, map, length, sym, ap, ◌∙◌, subst, arith}
use Rattle.jc_lexer.specs.declared.token.Key.TheVariants as key_of
use Rattle.jc_lexer.specs.declared.token.Sign.TheVariants as sign_of
use Rattle.jc_lexer.specs.declared.token.Token.{Token}
use Rattle.jc_tree.specs.declared.types.TypeTree.{TypeTree}
use Rattle.jc_tree.specs.declared.expression.AssignOp.{AssignOp}
use Rattle.jc_tree.specs.declared.expression.PrefixOp.{PrefixOp}
use Rattle.jc_tree.specs.declared.expression.Expr.{Expr}
use Rattle.jc_tree.specs.declared.expression.Operand.{Operand}
use Rattle.jc_tree.specs.declared.expression.Operand.TheVariants as operand_of
use Rattle.jc_tree.specs.Heights.{capped, most, expr_height, operand_height}
use Rattle.jc_reading.specs.Kinds.{key_code, sign_code, one_of}
use Rattle.jc_reading.specs.Reading.{Read, Found, Stopped, Run, becoming, found, in_turn, behind_it, times, any_number, This, That, of_kind, at_kind, picks, picks_at}
use Rattle.jc_reading.proofs.Steps.{within_becoming}
use Rattle.jc_reading.proofs.Turns.{Resumes, loop_first, loop_next, loop_stop, loop_shorter}
use Rattle.jc_reading.specs.Reach.{Within, onto, GoesAhead}
use Rattle.jc_reading.proofs.Nears.{near_any, ahead_picking, near_picking, ahead_turn, near_turn, near_kind, ahead_near, ahead_cond, ahead_either}
use Rattle.jc_parse_type.specs.TypeReading.{type_run}
use Rattle.jc_parse_type.proofs.CodeSteps.{within_type}
use Rattle.jc_parse_expr.specs.declared.measured.Measured.{Measured}
use Rattle.jc_parse_expr.specs.Measuring.{measured, measured_operands}
use Rattle.jc_expr_laws.specs.LevelReading.{assign_run, prefix_op_run, picks_prefix, less_run}
use Rattle.jc_expr_laws.specs.CompareReading.{Comparison, comparison_run, barring, barred, behind_part, ends_open_type, next_comparison_run, comparisons_run, compared_operand, touched_before}
use Rattle.jc_parse_expr.specs.declared.operators.Level.{Level}
use Rattle.jc_parse_expr.specs.declared.operators.Level.TheVariants as level_of
use Rattle.jc_parse_expr.specs.BinaryLevels.{levels_at, operand_run, operands_run, tighter_run, measured_operand, next_operand_run, ends_open, open_over, cast_type_run, then_run}
use Rattle.jc_parse_expr.proofs.CodeFacts.{operand_steps, operator_steps, within_expr, within_level, rest_within}
use Rattle.jc_expr_laws.proofs.LevelAssignOps.{assign_op_laws}
use Rattle.jc_parse_expr.proofs.MeasuredRead.{measured_found, measured_stopped}
use Rattle.jc_parse_expr.proofs.PairSteps.{made_found, made_stops}
use Rattle.jc_parse_expr.proofs.CastCode.{within_typed}
use Rattle.jc_parse_expr.proofs.LinkTurns.{LinkResumes, link_first, link_next, link_stop}

-- tokens that are left

pub measured_rest : (k : ℕ) (m : Read Expr) (v : Measured Expr) (r : List Token) (l : ℕ) → Within k m → becoming measured m ≡ Found v r l → length r ≤ k
measured_rest k m v r l w e = (rest_within k m v.tree r l w (measured_found expr_height m v r l e).0).1

pub then_rest : (h : ℕ) (ts : List Token) (v : Measured Expr) (r : List Token) (l : ℕ) → becoming measured (then_run (levels_at h) ts) ≡ Found v r l → length r ≤ length ts
then_rest h ts v r l e =
    let w = near_turn (of_kind (sign_code sign_of.Question)) (levels_at h).expr (near_kind (sign_code sign_of.Question)) (within_expr h) ts in
    measured_rest (length ts) (then_run (levels_at h) ts) v r l (within_becoming (length ts) behind_it (in_turn (of_kind (sign_code sign_of.Question)) (levels_at h).expr ts) w) e

pub assign_rest : (ts : List Token) (op : AssignOp) (r : List Token) (l : ℕ) → assign_run ts ≡ Found op r l → length r ≤ length ts
assign_rest ts op r l e = (rest_within (length ts) (assign_run ts) op r l (assign_op_laws.within ts) e).1

pub kind_rest : (code : ℕ) (ts q : List Token) → of_kind code ts ≡ found tt q → length q ≤ length ts
kind_rest code ts q e = (rest_within (length ts) (of_kind code ts) tt q (length q) (near_picking (picks code) ts) e).1

pub place_rest : (code : ℕ) (ts q : List Token) (at : ℕ) → at_kind code ts ≡ found at q → length q ≤ length ts
place_rest code ts q at e = (rest_within (length ts) (at_kind code ts) at q (length q) (near_picking (picks_at code) ts) e).1

pub ops_rest : (ts : List Token) (list : List PrefixOp) (r : List Token) (l : ℕ) → any_number prefix_op_run ts ≡ Found list r l → length r ≤ length ts
ops_rest ts list r l e = (rest_within (length ts) (any_number prefix_op_run ts) list r l (near_any prefix_op_run (near_picking picks_prefix) ts) e).1

pub cast_type_rest : (h : ℕ) (ts : List Token) (ty : TypeTree) (r : List Token) (l : ℕ) → cast_type_run h ts ≡ Found ty r l → length r ≤ length ts
cast_type_rest h ts ty r l e = (rest_within (length ts) (cast_type_run h ts) ty r l (within_becoming (length ts) _ _ (within_typed h ts)) e).1

-- heights of rows

pub row_height : List Operand → ℕ
row_height list = most (map operand_height list)

pub none_tall : (n : ℕ) (list : List Operand) → n ≡ 0 → list ≡ [] → n ≡ (measured_operands list).height
none_tall n list e f = e ∙ (let z : 0 ≡ capped 0 = omega arith in z) ∙ ap (λ (l : List Operand). capped (most (map operand_height l))) (sym f)

most_more : (list : List Operand) (o : Operand) → most (map operand_height (list ++ o ∷ [])) ≡ max (most (map operand_height list)) (operand_height o)
most_more [] o = omega arith
most_more (x ∷ xs) o = let e = most_more xs o in omega (arith, e)

pub more_tall : (n k j : ℕ) (list new : List Operand) (o : Operand) → n ≡ (measured_operands list).height → k ≡ capped (operand_height o) → j ≡ max n k → new ≡ list ++ o ∷ [] → j ≡ (measured_operands new).height
more_tall n k j list new o e f g i =
    let m = most_more list o in
    let t : j ≡ capped (most (map operand_height (list ++ o ∷ []))) = omega (arith, m, e, f, g) in
    t ∙ ap (λ (l : List Operand). capped (most (map operand_height l))) (sym i)

pub row_measured : (whole : Read (List Operand)) (row : Measured (List Operand)) (r : List Token) (l : ℕ) → whole ≡ Found row.tree r l → row.height ≡ (measured_operands row.tree).height → becoming measured_operands whole ≡ Found row r l
row_measured whole row r l e f = ap (becoming measured_operands) e ∙ ap (λ (n : ℕ). Found (record { tree = row.tree; height = n }) r l) (sym f)

-- operands of one level

module _ (level : Level) (h : ℕ) where
  abbrev One : Run Operand
  One = operand_run level (tighter_run level (levels_at h))

  pub row_first : (ts : List Token) (list : List Operand) → list ≡ [] → Resumes (any_number One ts) list (length ts) One ts
  row_first ts list e =
      let s = loop_first Operand One (operand_steps level h) ts in
      (s.0, s.1, s.2 ∙ ap (λ (l : List Operand). onto l (length ts) (times s.0 One ts)) (sym e))

  pub row_shorter : (ts q : List Token) (v : Measured Operand) (l : ℕ) → becoming measured_operand (One ts) ≡ Found v q l → length q < length ts
  row_shorter ts q v l e = loop_shorter Operand One (operand_steps level h) ts q v.tree l (measured_found operand_height (One ts) v q l e).0

  pub row_next : (whole : Read (List Operand)) (list new : List Operand) (left near : ℕ) (ts q : List Token) (v : Measured Operand) (l : ℕ) → Resumes whole list left One ts → becoming measured_operand (One ts) ≡ Found v q l → new ≡ list ++ v.tree ∷ [] → near ≡ min left l → Resumes whole new near One q
  row_next whole list new left near ts q v l s e f g =
      subst (λ (x : List Operand). Resumes whole x near One q) (sym f)
      (subst (λ (j : ℕ). Resumes whole (list ++ v.tree ∷ []) j One q) (sym g)
      (loop_next Operand One (operand_steps level h) whole list left ts q v.tree l s (measured_found operand_height (One ts) v q l e).0))

  pub row_stop : (whole : Read (List Operand)) (row : Measured (List Operand)) (left near : ℕ) (ts : List Token) (l : ℕ) → Resumes whole row.tree left One ts → becoming measured_operand (One ts) ≡ Stopped l → row.height ≡ (measured_operands row.tree).height → near ≡ min left l → becoming measured_operands whole ≡ Found row ts near
  row_stop whole row left near ts l s e f g =
      row_measured whole row ts near (loop_stop Operand One (operand_steps level h) whole row.tree left ts l s (measured_stopped operand_height (One ts) l e) ∙ ap (λ (j : ℕ). Found row.tree ts j) (sym g)) f

-- comparisons

barring_ahead : {A : Type 0} (codes : List ℕ) (m : Run A) → GoesAhead m → GoesAhead (barring codes m)
barring_ahead codes m v ts = ahead_cond ts (one_of codes ts) (Stopped (length ts)) (m ts) (omega arith) (v ts)

module _ (h : ℕ) where
  abbrev Shift : Run Expr
  Shift = (levels_at h).shift

  comparison_steps : (opened touched : Bool) → GoesAhead (next_comparison_run h Shift opened touched)
  comparison_steps opened touched =
      barring_ahead (barred opened touched) (comparison_run h Shift)
      (ahead_either (key_code key_of.Instanceof ∷ []) (in_turn (of_kind (key_code key_of.Instanceof)) (type_run h)) (in_turn less_run Shift)
      (ahead_turn (of_kind (key_code key_of.Instanceof)) (type_run h) (ahead_picking (picks (key_code key_of.Instanceof))) (within_type h))
      (ahead_turn less_run Shift (operator_steps level_of.Compared) (within_level level_of.Shift h)))

  abbrev Part : Bool → Bool → Run Comparison
  Part = next_comparison_run h Shift

  abbrev pub Whole : List Token → Read (List Operand)
  Whole ts = operands_run level_of.Compared h Shift ts

  open_same : (p : Comparison) → ends_open (compared_operand p) ≡ ends_open_type p
  open_same (This (u, ty)) = ap open_over (operand_of.outs-InstanceOf ty)
  open_same (That (op, e)) = ap open_over (operand_of.outs-Binary op e)

  pub link_begin : (ts : List Token) (list : List Operand) → list ≡ [] → LinkResumes compared_operand behind_part Part (Whole ts) list (length ts) false false ts
  unfolding comparisons_run
  link_begin ts list e =
      let s = link_first compared_operand behind_part Part comparison_steps false false ts in
      subst (λ (l : List Operand). LinkResumes compared_operand behind_part Part (Whole ts) l (length ts) false false ts) (sym e) s

  pub link_shorter : (opened touched : Bool) (ts q : List Token) (v : Measured Operand) (l : ℕ) → becoming measured_operand (next_operand_run h Shift opened touched ts) ≡ Found v q l → length q < length ts
  link_shorter opened touched ts q v l e =
      let p = made_found compared_operand (Part opened touched ts) v.tree q l (measured_found operand_height (next_operand_run h Shift opened touched ts) v q l e).0 in
      loop_shorter Comparison (Part opened touched) (comparison_steps opened touched) ts q p.0 l p.1

  pub link_turn : (whole : Read (List Operand)) (list new : List Operand) (left near : ℕ) (opened touched opened' touched' : Bool) (ts q : List Token) (v : Measured Operand) (l : ℕ) → LinkResumes compared_operand behind_part Part whole list left opened touched ts → becoming measured_operand (next_operand_run h Shift opened touched ts) ≡ Found v q l → new ≡ list ++ v.tree ∷ [] → near ≡ min left l → opened' ≡ ends_open v.tree → touched' ≡ touched_before ts (length q) → LinkResumes compared_operand behind_part Part whole new near opened' touched' q
  link_turn whole list new left near opened touched opened' touched' ts q v l s e f g i j =
      let p = made_found compared_operand (Part opened touched ts) v.tree q l (measured_found operand_height (next_operand_run h Shift opened touched ts) v q l e).0 in
      let lt = loop_shorter Comparison (Part opened touched) (comparison_steps opened touched) ts q p.0 l p.1 in
      let n = link_next compared_operand behind_part Part whole list left opened touched ts q p.0 l s p.1 lt in
      let o : opened' ≡ ends_open_type p.0 = i ∙ ap ends_open (sym p.2) ∙ open_same p.0 in
      let w : new ≡ list ++ compared_operand p.0 ∷ [] = f ∙ ap (λ (x : Operand). list ++ x ∷ []) (sym p.2) in
      subst (λ (x : List Operand). LinkResumes compared_operand behind_part Part whole x near opened' touched' q) (sym w)
      (subst (λ (k : ℕ). LinkResumes compared_operand behind_part Part whole (list ++ compared_operand p.0 ∷ []) k opened' touched' q) (sym g)
      (subst (λ (b : Bool). LinkResumes compared_operand behind_part Part whole (list ++ compared_operand p.0 ∷ []) (min left l) b touched' q) (sym o)
      (subst (λ (b : Bool). LinkResumes compared_operand behind_part Part whole (list ++ compared_operand p.0 ∷ []) (min left l) (ends_open_type p.0) b q) (sym j) n)))

  pub link_end : (whole : Read (List Operand)) (row : Measured (List Operand)) (left near : ℕ) (opened touched : Bool) (ts : List Token) (l : ℕ) → LinkResumes compared_operand behind_part Part whole row.tree left opened touched ts → becoming measured_operand (next_operand_run h Shift opened touched ts) ≡ Stopped l → row.height ≡ (measured_operands row.tree).height → near ≡ min left l → becoming measured_operands whole ≡ Found row ts near
  link_end whole row left near opened touched ts l s e f g =
      let stop = made_stops compared_operand (Part opened touched ts) l (measured_stopped operand_height (next_operand_run h Shift opened touched ts) l e) in
      let w : l ≤ length ts = subst (λ (x : Read Comparison). Within (length ts) x) stop (ahead_near (Part opened touched) (comparison_steps opened touched) ts) in
      row_measured whole row ts near (link_stop compared_operand behind_part Part whole row.tree left opened touched ts l s stop w ∙ ap (λ (j : ℕ). Found row.tree ts j) (sym g)) f
