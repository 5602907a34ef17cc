-- Plain and Unary: chains of prefix operators, or what is none.
use Rattle.std.proofs.Common.{◌≡◌, ℕ, suc, ◌≤◌, Bool, true, false, List, [], ◌∷◌, ◌++◌, refl, sym, ap, ◌∙◌, subst, ⊎_elim, ◌⊎◌, inl, inr, arith}
use Rattle.std.proofs.lemmas.Bool.{false≢true, and_parts, and_from, cases_Bool}
use Rattle.std.specs.Prelude.{◌&&◌, nat_le, not}
use Rattle.jc_lexer.specs.declared.token.Sign.TheVariants as sign_of
use Rattle.jc_tree.specs.declared.expression.ArrayInit.{ArrayInit}
use Rattle.jc_tree.specs.declared.expression.BinaryOp.{BinaryOp}
use Rattle.jc_tree.specs.declared.expression.BinaryOp.TheVariants as binary_of
use Rattle.jc_tree.specs.declared.expression.Creation.{Creation}
use Rattle.jc_tree.specs.declared.expression.Expr.{Expr, Expr-F, out-Expr, map-Expr}
use Rattle.jc_tree.specs.declared.expression.Init.{Init}
use Rattle.jc_tree.specs.declared.expression.Operand.{Operand, Operand-F, out-Operand, map-Operand}
use Rattle.jc_tree.specs.declared.expression.PrefixOp.{PrefixOp}
use Rattle.jc_tree.specs.Heights.{expr_height}
use Rattle.jc_grammar.specs.Told.{Told}
use Rattle.jc_grammar.specs.Expressions.{expr_tokens}
use Rattle.jc_grammar.specs.Shapes.{Shape, CreationShape, OperandShape, stands, expr_shape, creation_shape, operand_shape, is_init, is_array, expr_shape_step, operand_shape_step, binary_level}
use Rattle.jc_grammar.proofs.ShapesOfExpressions.{expr_shape-out, operand_shape-out}
use Rattle.jc_grammar.proofs.Stands.{stands_looser}
use Rattle.jc_reading.specs.Kinds.{sign_code}
use Rattle.jc_reading.specs.Reading.{Read, Found, Stopped, Run, becoming, as_new, Either, This, That, either}
use Rattle.jc_reading.proofs.Forms.{Lawful}
use Rattle.jc_reading.specs.Further.{either_one}
use Rattle.jc_reading.proofs.Coded.{Coded, formed, one_or, Apart, one_or_laws, made_laws, widened_laws}
use Rattle.jc_reading.proofs.Lowest.{rerun_laws}
use Rattle.jc_part_laws.proofs.ExprForms.{expr_codes, plain_codes}
use Rattle.jc_expr_laws.specs.LevelReading.{prefix_op_run, plain_op_run, prefix_codes, plain_run, unary_run}
use Rattle.jc_expr_laws.proofs.LevelPrefixes.{bare_goes, ops_of, any_op_laws, plain_op_laws, bare_fits, bare_coded, prefix_coded, prefix_laws}
use Rattle.jc_expr_laws.proofs.LevelShapes.{exactly}

abbrev pub plain_coded : ℕ → Run Expr → Coded Expr
plain_coded h run = record { tell = expr_tokens; fits = λ e. nat_le (expr_height e) h && stands 13 (expr_shape e); run = run; starts = plain_codes; goes = bare_goes; empties = false }

abbrev pub unary_coded : ℕ → Run Expr → Coded Expr
unary_coded h run = record { tell = expr_tokens; fits = λ e. nat_le (expr_height e) h && stands 12 (expr_shape e); run = run; starts = expr_codes; goes = bare_goes; empties = false }

same_read : {A : Type 0} (m : Read A) → becoming (λ (a : A). a) m ≡ m
same_read (Found a r l) = refl
same_read (Stopped l) = refl

-- one kind or another of expressions, by the first token
module _ (codes : List ℕ) (ca cb : Coded Expr) (fits : Expr → Bool) where
  abbrev pub both : Coded Expr
  both = record { tell = expr_tokens; fits = fits; run = as_new either_one (either codes ca.run cb.run); starts = ca.starts ++ cb.starts; goes = ca.goes ++ cb.goes; empties = false }

  pub record Sums : Type 0 where
    pub told_first : (e : Expr) (r : List Told) → expr_tokens e r ≡ ca.tell e r
    pub told_second : (e : Expr) (r : List Told) → expr_tokens e r ≡ cb.tell e r
    pub first : (e : Expr) → ca.fits e ≡ true → fits e ≡ true
    pub second : (e : Expr) → cb.fits e ≡ true → fits e ≡ true
    pub which : (e : Expr) → fits e ≡ true → (ca.fits e ≡ true) ⊎ (cb.fits e ≡ true)

  pub both_laws : Lawful Expr (formed ca) → Lawful Expr (formed cb) → Apart Expr Expr codes ca cb → Sums → Lawful Expr (formed both)
  both_laws la lb d h = made_laws (Either Expr Expr) Expr (one_or codes ca cb) either_one expr_tokens fits (one_or_laws Expr Expr codes ca cb la lb d)
      (record { told = told; forth = forth; back = λ e g. back e (h.which e g) })
    where
      told : (o : Either Expr Expr) (r : List Told) → (one_or codes ca cb).fits o ≡ true → expr_tokens (either_one o) r ≡ (one_or codes ca cb).tell o r
      told (This e) r g = h.told_first e r
      told (That e) r g = h.told_second e r

      forth : (o : Either Expr Expr) → (one_or codes ca cb).fits o ≡ true → fits (either_one o) ≡ true
      forth (This e) g = h.first e g
      forth (That e) g = h.second e g

      back : (e : Expr) → (ca.fits e ≡ true) ⊎ (cb.fits e ≡ true) → (o : Either Expr Expr) × (either_one o ≡ e) × ((one_or codes ca cb).fits o ≡ true)
      back e (inl t) = (This e, refl, t)
      back e (inr t) = (That e, refl, t)

-- what is no chain of prefix operators and no looser than one is Plain

abbrev Layer : Type 0
Layer = Expr-F Creation Expr Init Operand ArrayInit

abbrev shaped : Layer → Shape
shaped l = expr_shape_step (map-Expr Creation Expr Init Operand ArrayInit CreationShape Shape Bool OperandShape Bool creation_shape expr_shape is_init operand_shape is_array l)

binary_low : (op : BinaryOp) → binary_level op ≤ 11
binary_low binary_of.OrElse = omega arith
binary_low binary_of.AndAlso = omega arith
binary_low binary_of.Or = omega arith
binary_low binary_of.Xor = omega arith
binary_low binary_of.And = omega arith
binary_low binary_of.Equal = omega arith
binary_low binary_of.NotEqual = omega arith
binary_low binary_of.Less = omega arith
binary_low binary_of.Greater = omega arith
binary_low binary_of.LessEqual = omega arith
binary_low binary_of.GreaterEqual = omega arith
binary_low binary_of.ShiftLeft = omega arith
binary_low binary_of.ShiftRight = omega arith
binary_low binary_of.ShiftRightZero = omega arith
binary_low binary_of.Plus = omega arith
binary_low binary_of.Minus = omega arith
binary_low binary_of.Times = omega arith
binary_low binary_of.Divide = omega arith
binary_low binary_of.Remainder = omega arith

operand_low_layer : (l : Operand-F Creation Expr Init Operand ArrayInit) → (operand_shape_step (map-Operand Creation Expr Init Operand ArrayInit CreationShape Shape Bool OperandShape Bool creation_shape expr_shape is_init operand_shape is_array l)).level ≤ 11
operand_low_layer (Operand-F.Binary op right) = binary_low op
operand_low_layer (Operand-F.InstanceOf ty) = omega arith

pub operand_low : (o : Operand) → (operand_shape o).level ≤ 11
operand_low o = subst (λ (s : OperandShape). s.level ≤ 11) (sym (operand_shape-out o)) (operand_low_layer (out-Operand o))

at_unary : (l : Layer) → (shaped l).level ≡ 12 → (shaped l).prefix ≡ true
at_unary (Expr-F.Prefix first more operand) g = refl
at_unary (Expr-F.Assign target op value) g = absurd (omega (arith, g))
at_unary (Expr-F.Conditional test then_it else_it) g = absurd (omega (arith, g))
at_unary (Expr-F.Chain first []) g = absurd (omega (arith, g))
at_unary (Expr-F.Chain first (o ∷ rest)) g = let k = operand_low o in absurd (omega (arith, g, k))
at_unary _ g = absurd (omega (arith, g))

unprefixed : (e : Expr) → stands 12 (expr_shape e) ≡ true → (expr_shape e).prefix ≡ false → stands 13 (expr_shape e) ≡ true
unprefixed e s f =
    ⊎_elim (λ (t : stands 13 (expr_shape e) ≡ true). t)
    (λ (n : stands 13 (expr_shape e) ≡ false).
    let l : (expr_shape e).level ≡ 12 = exactly 12 (expr_shape e) s n in
    let p : (expr_shape e).prefix ≡ true = ap (λ (z : Shape). z.prefix) (expr_shape-out e) ∙ at_unary (out-Expr e) (sym (ap (λ (z : Shape). z.level) (expr_shape-out e)) ∙ l) in
    absurd (false≢true (sym f ∙ p)))
    (cases_Bool (stands 13 (expr_shape e)))

-- an expression of a level that is a chain of prefix operators, or is none and stands at Plain
module _ (level h : ℕ) (loose : level ≤ 13) (tight : (e : Expr) → stands level (expr_shape e) ≡ true → (expr_shape e).prefix ≡ false → stands 13 (expr_shape e) ≡ true) where
  abbrev Fits : Expr → Bool
  Fits e = nat_le (expr_height e) h && stands level (expr_shape e)

  abbrev Prefixed : Expr → Bool
  Prefixed e = nat_le (expr_height e) h && (stands level (expr_shape e) && (expr_shape e).prefix)

  from_prefixed : (e : Expr) → Prefixed e ≡ true → Fits e ≡ true
  from_prefixed e g =
      let a = and_parts (nat_le (expr_height e) h) (stands level (expr_shape e) && (expr_shape e).prefix) g in
      and_from (nat_le (expr_height e) h) (stands level (expr_shape e)) a.0 (and_parts (stands level (expr_shape e)) (expr_shape e).prefix a.1).0

  from_bare : (e : Expr) → bare_fits h e ≡ true → Fits e ≡ true
  from_bare e g =
      let a = and_parts (nat_le (expr_height e) h) (stands 13 (expr_shape e) && not (expr_shape e).prefix) g in
      and_from (nat_le (expr_height e) h) (stands level (expr_shape e)) a.0 (stands_looser level 13 (expr_shape e) loose (and_parts (stands 13 (expr_shape e)) (not (expr_shape e).prefix) a.1).0)

  which : (e : Expr) → Fits e ≡ true → (Prefixed e ≡ true) ⊎ (bare_fits h e ≡ true)
  which e g =
      let a = and_parts (nat_le (expr_height e) h) (stands level (expr_shape e)) g in
      ⊎_elim
      (λ (t : (expr_shape e).prefix ≡ true). inl (and_from (nat_le (expr_height e) h) (stands level (expr_shape e) && (expr_shape e).prefix) a.0 (and_from (stands level (expr_shape e)) (expr_shape e).prefix a.1 t)))
      (λ (f : (expr_shape e).prefix ≡ false). inr (and_from (nat_le (expr_height e) h) (stands 13 (expr_shape e) && not (expr_shape e).prefix) a.0 (and_from (stands 13 (expr_shape e)) (not (expr_shape e).prefix) (tight e a.1 f) (ap not f))))
      (cases_Bool (expr_shape e).prefix)

module _ (k : ℕ) (bare lower : Run Expr) (lb : Lawful Expr (formed (bare_coded (suc (suc k)) bare))) (ll : Lawful Expr (formed (bare_coded (suc k) lower))) where
  abbrev PlainChain : Coded Expr
  PlainChain = prefix_coded 13 (suc k) plain_op_run (sign_code sign_of.Not ∷ sign_code sign_of.Tilde ∷ []) lower

  pub plain_laws : Lawful Expr (formed (plain_coded (suc (suc k)) (plain_run (suc k) bare lower)))
  unfolding plain_run
  plain_laws =
      let codes : List ℕ = sign_code sign_of.Not ∷ sign_code sign_of.Tilde ∷ [] in
      let fits : Expr → Bool = λ e. nat_le (expr_height e) (suc (suc k)) && stands 13 (expr_shape e) in
      let same = λ (e : Expr) (s : stands 13 (expr_shape e) ≡ true) (f : (expr_shape e).prefix ≡ false). s in
      widened_laws Expr (both codes PlainChain (bare_coded (suc (suc k)) bare) fits) plain_codes bare_goes
      (both_laws codes PlainChain (bare_coded (suc (suc k)) bare) fits (prefix_laws 13 (suc k) plain_op_run codes lower plain_op_laws ll) lb (record { solid = refl; solid' = refl; this = refl; that = refl })
      (record {
        told_first = λ e r. refl;
        told_second = λ e r. refl;
        first = from_prefixed 13 (suc (suc k)) (omega arith) same;
        second = from_bare 13 (suc (suc k)) (omega arith) same;
        which = which 13 (suc (suc k)) (omega arith) same;
      })) refl refl

  abbrev AnyChain : Coded Expr
  AnyChain = prefix_coded 12 (suc k) prefix_op_run prefix_codes lower

  any_laws : Lawful Expr (formed AnyChain)
  any_laws = prefix_laws 12 (suc k) prefix_op_run prefix_codes lower
      (rerun_laws PrefixOp (ops_of 12 (as_new (λ op. op) prefix_op_run) prefix_codes) prefix_op_run (λ ts. same_read (prefix_op_run ts)) any_op_laws) ll

  pub unary_laws : Lawful Expr (formed (unary_coded (suc (suc k)) (unary_run (suc k) bare lower)))
  unfolding unary_run
  unary_laws =
      let fits : Expr → Bool = λ e. nat_le (expr_height e) (suc (suc k)) && stands 12 (expr_shape e) in
      widened_laws Expr (both prefix_codes AnyChain (bare_coded (suc (suc k)) bare) fits) expr_codes bare_goes
      (both_laws prefix_codes AnyChain (bare_coded (suc (suc k)) bare) fits any_laws lb (record { solid = refl; solid' = refl; this = refl; that = refl })
      (record {
        told_first = λ e r. refl;
        told_second = λ e r. refl;
        first = from_prefixed 12 (suc (suc k)) (omega arith) unprefixed;
        second = from_bare 12 (suc (suc k)) (omega arith) unprefixed;
        which = which 12 (suc (suc k)) (omega arith) unprefixed;
      })) refl refl
