-- Cond: an expression of the loosest binary level, and behind one that is not too high two branches.
use Rattle.std.proofs.Common.{◌≡◌, ℕ, suc, ◌≤◌, max, Bool, true, false, List, [], ◌∷◌, Option, Some, None, refl, sym, ap, ◌∙◌, subst, ⊎_elim, arith}
use Rattle.std.proofs.lemmas.Bool.{false≢true, and_parts, and_from, or_from, or_left, or_right, or_cases, cases_Bool, leb-true, le-leb}
use Rattle.std.specs.Prelude.{◌&&◌, ◌||◌, nat_le, not, ◌==◌}
use Rattle.jc_lexer.specs.declared.token.Sign.TheVariants as sign_of
use Rattle.jc_lexer.specs.declared.token.Token.{Token}
use Rattle.jc_tree.specs.declared.expression.ArrayInit.{ArrayInit}
use Rattle.jc_tree.specs.declared.expression.BinaryOp.{BinaryOp}
use Rattle.jc_tree.specs.declared.expression.BinaryOp.TheVariants as binary_of
use Rattle.jc_tree.specs.declared.expression.Creation.{Creation}
use Rattle.jc_tree.specs.declared.expression.Expr.{Expr, Expr-F, out-Expr, roll-Expr, roll-out-Expr, map-Expr}
use Rattle.jc_tree.specs.declared.expression.Expr.TheVariants as expr_of
use Rattle.jc_tree.specs.declared.expression.Init.{Init}
use Rattle.jc_tree.specs.declared.expression.Operand.{Operand, Operand-F, out-Operand, map-Operand}
use Rattle.jc_tree.specs.declared.expression.PrefixSign.{PrefixSign}
use Rattle.jc_tree.specs.declared.expression.PrefixSign.TheVariants as prefix_of
use Rattle.jc_tree.specs.Heights.{expr_height}
use Rattle.jc_tree.proofs.HeightsOfExpressions.{expr_height-Conditional}
use Rattle.jc_grammar.specs.Told.{Told}
use Rattle.jc_grammar.specs.Expressions.{expr_tokens}
use Rattle.jc_grammar.specs.Shapes.{Shape, CreationShape, OperandShape, stands, expr_shape, creation_shape, operand_shape, is_init, is_array, expr_shape_step, operand_shape_step, prefix_level, binary_level}
use Rattle.jc_grammar.proofs.ShapesOfExpressions.{expr_shape-out, operand_shape-out, expr_shape-Conditional}
use Rattle.jc_grammar.proofs.Stands.{stands_looser}
use Rattle.jc_grammar.proofs.TokensOfExpressions.{expr_tokens-Conditional}
use Rattle.jc_reading.specs.Kinds.{sign_code, is_in, front_code, one_of}
use Rattle.jc_reading.specs.Reading.{Run}
use Rattle.jc_reading.proofs.Alikes.{alike_laws}
use Rattle.jc_reading.proofs.Forms.{Form, Lawful, Stands}
use Rattle.jc_reading.proofs.Options.{option, option_laws}
use Rattle.jc_reading.proofs.Pairs.{pair, pair_laws}
use Rattle.jc_reading.proofs.Retests.{retested}
use Rattle.jc_reading.proofs.Rooms.{room_suc, room_max}
use Rattle.jc_reading.proofs.Signs.{a_sign, sign_laws, none_common, apart_sets, in_more}
use Rattle.jc_part_laws.proofs.ExprForms.{expr_codes}
use Rattle.jc_expr_laws.specs.LevelReading.{is_tall, Branches, conditional_made, conditional_run}
use Rattle.jc_expr_laws.proofs.LevelTests.{acts, leads, acts_lead}
use Rattle.jc_reading.proofs.FollowedBy.{followed_form, followed_laws}
use Rattle.jc_expr_laws.proofs.LevelSpelled.{loosened_laws}
use Rattle.jc_expr_laws.proofs.LevelShapes.{exactly}
use Rattle.jc_expr_laws.proofs.LevelChains.{may_go, at_level}

abbrev Layer : Type 0
Layer = Expr-F Creation Expr Init Operand ArrayInit

abbrev shaped : Layer → Shape
shaped l = expr_shape_step (map-Expr Creation Expr Init Operand ArrayInit CreationShape Shape Bool OperandShape Bool creation_shape expr_shape is_init operand_shape is_array l)

abbrev pub is_nothing : {A : Type 0} → Option A → Bool
is_nothing None = true
is_nothing (Some a) = false

pub record IsConditional (e : Expr) : Type 0 where
  pub test : Expr
  pub chosen : Expr
  pub other : Expr
  pub is_it : expr_of.Conditional test chosen other ≡ e

binary_high : (op : BinaryOp) → 2 ≤ binary_level op
binary_high binary_of.OrElse = omega arith
binary_high binary_of.AndAlso = omega arith
binary_high binary_of.Or = omega arith
binary_high binary_of.Xor = omega arith
binary_high binary_of.And = omega arith
binary_high binary_of.Equal = omega arith
binary_high binary_of.NotEqual = omega arith
binary_high binary_of.Less = omega arith
binary_high binary_of.Greater = omega arith
binary_high binary_of.LessEqual = omega arith
binary_high binary_of.GreaterEqual = omega arith
binary_high binary_of.ShiftLeft = omega arith
binary_high binary_of.ShiftRight = omega arith
binary_high binary_of.ShiftRightZero = omega arith
binary_high binary_of.Plus = omega arith
binary_high binary_of.Minus = omega arith
binary_high binary_of.Times = omega arith
binary_high binary_of.Divide = omega arith
binary_high binary_of.Remainder = omega arith

operand_high_layer : (l : Operand-F Creation Expr Init Operand ArrayInit) → 2 ≤ (operand_shape_step (map-Operand Creation Expr Init Operand ArrayInit CreationShape Shape Bool OperandShape Bool creation_shape expr_shape is_init operand_shape is_array l)).level
operand_high_layer (Operand-F.Binary op right) = binary_high op
operand_high_layer (Operand-F.InstanceOf ty) = omega arith

pub operand_high : (o : Operand) → 2 ≤ (operand_shape o).level
operand_high o = subst (λ (s : OperandShape). 2 ≤ s.level) (sym (operand_shape-out o)) (operand_high_layer (out-Operand o))

pub unary : (s : PrefixSign) → 12 ≤ prefix_level s
unary prefix_of.Plus = omega arith
unary prefix_of.Minus = omega arith
unary prefix_of.Increment = omega arith
unary prefix_of.Decrement = omega arith
unary prefix_of.Not = omega arith
unary prefix_of.Complement = omega arith

conditional_layer : (e : Expr) (l : Layer) → out-Expr e ≡ l → (shaped l).level ≡ 1 → IsConditional e
conditional_layer e (Expr-F.Conditional test chosen other) q g = record { test = test; chosen = chosen; other = other; is_it = sym (expr_of.rolls-Conditional test chosen other) ∙ ap roll-Expr (sym q) ∙ roll-out-Expr e }
conditional_layer e (Expr-F.Chain first []) q g = absurd (omega (arith, g))
conditional_layer e (Expr-F.Chain first (o ∷ rest)) q g = let k = operand_high o in absurd (omega (arith, g, k))
conditional_layer e (Expr-F.Prefix first more operand) q g = let k = unary first.sign in absurd (omega (arith, g, k))
conditional_layer e _ q g = absurd (omega (arith, g))

conditional_only : (e : Expr) → (expr_shape e).level ≡ 1 → IsConditional e
conditional_only e g = conditional_layer e (out-Expr e) refl (sym (ap (λ (z : Shape). z.level) (expr_shape-out e)) ∙ g)

module _ (k : ℕ) (test expr conditional : Run Expr) (codes goes : List ℕ) (ops : List (List ℕ)) where
  abbrev Test : Form Expr
  Test = at_level 2 (suc (suc k)) test codes ops

  -- any expression, of height h
  abbrev pub any_form : Form Expr
  any_form = record { tell = expr_tokens; fits = λ e. nat_le (expr_height e) (suc k) && stands 0 (expr_shape e); run = expr; starts = one_of expr_codes; goes_on = one_of goes; empties = false }

  abbrev Other : Form Expr
  Other = at_level 1 (suc k) conditional (sign_code sign_of.Question ∷ codes) ops

  abbrev Choice : Form (Unit {0} × (Expr × (Unit {0} × Expr)))
  Choice = pair (Unit {0}) (Expr × (Unit {0} × Expr)) (a_sign sign_of.Question) (pair Expr (Unit {0} × Expr) any_form (pair (Unit {0}) Expr (a_sign sign_of.Colon) Other))

  abbrev Clean : Form (Unit {0} × (Expr × (Unit {0} × Expr)))
  Clean = retested (Unit {0} × (Expr × (Unit {0} × Expr))) Choice (one_of (sign_code sign_of.Question ∷ [])) Other.goes_on

  abbrev Both : Form (Expr × Branches)
  Both = followed_form Expr Branches (is_tall (suc k)) None is_nothing Test (option (Unit {0} × (Expr × (Unit {0} × Expr))) Clean)

  pub record Inner : Type 0 where
    pub test_laws : Lawful Expr Test
    pub any_laws : Lawful Expr any_form
    pub other_laws : Lawful Expr Other
    pub colon : none_common (sign_code sign_of.Colon ∷ []) goes ≡ true
    pub question : none_common (sign_code sign_of.Question ∷ []) codes ≡ true
    pub question_ops : none_common (sign_code sign_of.Question ∷ []) (leads ops) ≡ true

  module _ (d : Inner) where
    alone : (b : Bool) → (b || false) ≡ true → b ≡ true
    alone true e = refl
    alone false e = e

    clean_laws : Lawful (Unit {0} × (Expr × (Unit {0} × Expr))) Clean
    clean_laws = loosened_laws (Unit {0} × (Expr × (Unit {0} × Expr))) Choice (one_of (sign_code sign_of.Question ∷ [])) Other.goes_on
        (pair_laws (Unit {0}) (Expr × (Unit {0} × Expr)) (a_sign sign_of.Question) (pair Expr (Unit {0} × Expr) any_form (pair (Unit {0}) Expr (a_sign sign_of.Colon) Other)) (sign_laws sign_of.Question)
        (pair_laws Expr (Unit {0} × Expr) any_form (pair (Unit {0}) Expr (a_sign sign_of.Colon) Other) d.any_laws
        (pair_laws (Unit {0}) Expr (a_sign sign_of.Colon) Other (sign_laws sign_of.Colon) d.other_laws (λ ts e. refl))
        (λ ts e. apart_sets (sign_code sign_of.Colon ∷ []) goes d.colon (front_code ts) (alone (one_of (sign_code sign_of.Colon ∷ []) ts) e)))
        (λ ts e. refl))
        (λ ts e. alone (one_of (sign_code sign_of.Question ∷ []) ts) e)
        (λ ts e. alone (Other.goes_on ts) (alone (Other.goes_on ts || false) (alone ((Other.goes_on ts || false) || false) e)))

    stops : (ts : List Token) → one_of (sign_code sign_of.Question ∷ []) ts ≡ true → may_go codes ops ts ≡ false
    stops ts e =
        or_from (one_of codes ts) (acts ops ts) (apart_sets (sign_code sign_of.Question ∷ []) codes d.question (front_code ts) e)
        (⊎_elim (λ (t : acts ops ts ≡ true). absurd (false≢true (sym (apart_sets (sign_code sign_of.Question ∷ []) (leads ops) d.question_ops (front_code ts) e) ∙ acts_lead ops ts t))) (λ (f : acts ops ts ≡ false). f) (cases_Bool (acts ops ts)))

    tail_laws : Lawful Branches (option (Unit {0} × (Expr × (Unit {0} × Expr))) Clean)
    tail_laws = option_laws (Unit {0} × (Expr × (Unit {0} × Expr))) Clean clean_laws refl

    some_tail : (ts : List Token) (o : Branches) (r : List Token) → Stands (option (Unit {0} × (Expr × (Unit {0} × Expr))) Clean) ts o r → is_nothing o ≡ false → one_of (sign_code sign_of.Question ∷ []) ts ≡ true
    some_tail ts None r s n = absurd (false≢true (sym n))
    some_tail ts (Some p) r s n = ⊎_elim (λ o. o.0) (λ o. absurd (false≢true o.1)) (clean_laws.opens ts p r s)

    only_none : (o : Branches) → is_nothing o ≡ true → None ≡ o
    only_none None e = refl
    only_none (Some p) e = absurd (false≢true e)

    both_laws : Lawful (Expr × Branches) Both
    both_laws = followed_laws Expr Branches (is_tall (suc k)) None is_nothing Test (option (Unit {0} × (Expr × (Unit {0} × Expr))) Clean) d.test_laws tail_laws
        (record {
          solid = refl;
          free = refl;
          bare = λ r. refl;
          none_fits = refl;
          none_is = refl;
          only = only_none;
          some = some_tail;
          whole = λ ts e r s c t. d.test_laws.exact ts e r s (stops r t);
        })

    told : (p : Expr × Branches) (r : List Told) → Both.fits p ≡ true → expr_tokens (conditional_made p) r ≡ Both.tell p r
    told (test, None) r g = refl
    told (test, Some (u, (chosen, (v, other)))) r g = expr_tokens-Conditional test chosen other r

    abbrev Fits : Expr → Bool
    Fits e = nat_le (expr_height e) (suc (suc k)) && stands 1 (expr_shape e)

    high : (a b c : Expr) → nat_le (expr_height (expr_of.Conditional a b c)) (suc (suc k)) ≡ ((nat_le (expr_height a) (suc k) && nat_le (expr_height b) (suc k)) && nat_le (expr_height c) (suc k))
    high a b c =
        ap (λ (n : ℕ). nat_le n (suc (suc k))) (expr_height-Conditional a b c) ∙ room_suc (max (max (expr_height a) (expr_height b)) (expr_height c)) (suc k)
        ∙ room_max (max (expr_height a) (expr_height b)) (expr_height c) (suc k) ∙ ap (λ (x : Bool). x && nat_le (expr_height c) (suc k)) (room_max (expr_height a) (expr_height b) (suc k))

    not_not : (b : Bool) → not (not b) ≡ true → b ≡ true
    not_not true e = refl
    not_not false e = absurd (false≢true e)

    forth : (p : Expr × Branches) → Both.fits p ≡ true → Fits (conditional_made p) ≡ true
    forth (test, None) g =
        let a = and_parts (nat_le (expr_height test) (suc (suc k)) && stands 2 (expr_shape test)) (true && true) g in
        let b = and_parts (nat_le (expr_height test) (suc (suc k))) (stands 2 (expr_shape test)) a.0 in
        and_from (nat_le (expr_height test) (suc (suc k))) (stands 1 (expr_shape test)) b.0 (stands_looser 1 2 (expr_shape test) (omega arith) b.1)
    forth (test, Some (u, (chosen, (v, other)))) g =
        let a = and_parts (Test.fits test) (Clean.fits (u, (chosen, (v, other))) && (false || not (is_tall (suc k) test))) g in
        let t = and_parts (nat_le (expr_height test) (suc (suc k))) (stands 2 (expr_shape test)) a.0 in
        let b = and_parts (Clean.fits (u, (chosen, (v, other)))) (false || not (is_tall (suc k) test)) a.1 in
        let c = and_parts true (any_form.fits chosen && (true && Other.fits other)) b.0 in
        let e = and_parts (any_form.fits chosen) (true && Other.fits other) c.1 in
        let y = and_parts (nat_le (expr_height chosen) (suc k)) (stands 0 (expr_shape chosen)) e.0 in
        let o = and_parts (nat_le (expr_height other) (suc k)) (stands 1 (expr_shape other)) (and_parts true (Other.fits other) e.1).1 in
        let x = expr_of.Conditional test chosen other in
        and_from (nat_le (expr_height x) (suc (suc k))) (stands 1 (expr_shape x))
        (high test chosen other ∙ and_from (nat_le (expr_height test) (suc k) && nat_le (expr_height chosen) (suc k)) (nat_le (expr_height other) (suc k)) (and_from (nat_le (expr_height test) (suc k)) (nat_le (expr_height chosen) (suc k)) (not_not (nat_le (expr_height test) (suc k)) b.1) y.0) o.0)
        (subst (λ (s : Shape). stands 1 s ≡ true) (sym (expr_shape-Conditional test chosen other))
        (and_from ((stands 2 (expr_shape test) && stands 0 (expr_shape chosen)) && stands 1 (expr_shape other)) true
        (and_from (stands 2 (expr_shape test) && stands 0 (expr_shape chosen)) (stands 1 (expr_shape other)) (and_from (stands 2 (expr_shape test)) (stands 0 (expr_shape chosen)) t.1 y.1) o.1) refl))

    of_conditional : (test chosen other : Expr) → Fits (expr_of.Conditional test chosen other) ≡ true → (p : Expr × Branches) × (conditional_made p ≡ expr_of.Conditional test chosen other) × (Both.fits p ≡ true)
    of_conditional test chosen other g =
        let x = expr_of.Conditional test chosen other in
        let a = and_parts (nat_le (expr_height x) (suc (suc k))) (stands 1 (expr_shape x)) g in
        let h = and_parts (nat_le (expr_height test) (suc k) && nat_le (expr_height chosen) (suc k)) (nat_le (expr_height other) (suc k)) (sym (high test chosen other) ∙ a.0) in
        let i = and_parts (nat_le (expr_height test) (suc k)) (nat_le (expr_height chosen) (suc k)) h.0 in
        let s = and_parts ((stands 2 (expr_shape test) && stands 0 (expr_shape chosen)) && stands 1 (expr_shape other)) true (subst (λ (z : Shape). stands 1 z ≡ true) (expr_shape-Conditional test chosen other) a.1) in
        let t = and_parts (stands 2 (expr_shape test) && stands 0 (expr_shape chosen)) (stands 1 (expr_shape other)) s.0 in
        let u = and_parts (stands 2 (expr_shape test)) (stands 0 (expr_shape chosen)) t.0 in
        let low : nat_le (expr_height test) (suc (suc k)) ≡ true = let j : expr_height test ≤ suc k = leb-true (expr_height test) (suc k) i.0 in le-leb (expr_height test) (suc (suc k)) (omega (arith, j)) in (
          (test, Some (tt, (chosen, (tt, other)))),
          refl,
          and_from (Test.fits test) (Clean.fits (tt, (chosen, (tt, other))) && (false || not (is_tall (suc k) test))) (and_from (nat_le (expr_height test) (suc (suc k))) (stands 2 (expr_shape test)) low u.0)
              (and_from (Clean.fits (tt, (chosen, (tt, other)))) (false || not (is_tall (suc k) test))
              (and_from (any_form.fits chosen) (true && Other.fits other) (and_from (nat_le (expr_height chosen) (suc k)) (stands 0 (expr_shape chosen)) i.1 u.1) (and_from (nat_le (expr_height other) (suc k)) (stands 1 (expr_shape other)) h.1 t.1))
              (ap (λ (b : Bool). not (not b)) i.0)),
        )

    back : (e : Expr) → Fits e ≡ true → (p : Expr × Branches) × (conditional_made p ≡ e) × (Both.fits p ≡ true)
    back e g =
        let a = and_parts (nat_le (expr_height e) (suc (suc k))) (stands 1 (expr_shape e)) g in
        ⊎_elim
        (λ (t : stands 2 (expr_shape e) ≡ true). ((e, None), refl, and_from (Test.fits e) (true && true) (and_from (nat_le (expr_height e) (suc (suc k))) (stands 2 (expr_shape e)) a.0 t) refl))
        (λ (f : stands 2 (expr_shape e) ≡ false).
        let w = conditional_only e (exactly 1 (expr_shape e) a.1 f) in
        subst (λ (x : Expr). (p : Expr × Branches) × (conditional_made p ≡ x) × (Both.fits p ≡ true)) w.is_it (of_conditional w.test w.chosen w.other (subst (λ (x : Expr). Fits x ≡ true) (sym w.is_it) g)))
        (cases_Bool (stands 2 (expr_shape e)))

    goes_of : (ts : List Token) → ((one_of (sign_code sign_of.Question ∷ []) ts || Other.goes_on ts) || may_go codes ops ts) ≡ true → Other.goes_on ts ≡ true
    goes_of ts e =
        ⊎_elim
        (λ (t : (one_of (sign_code sign_of.Question ∷ []) ts || Other.goes_on ts) ≡ true). ⊎_elim
        (λ (q : one_of (sign_code sign_of.Question ∷ []) ts ≡ true). or_left (one_of (sign_code sign_of.Question ∷ codes) ts) (acts ops ts) (in_more (sign_code sign_of.Question) codes ts q)) (λ (q : Other.goes_on ts ≡ true). q)
        (or_cases (one_of (sign_code sign_of.Question ∷ []) ts) (Other.goes_on ts) t))
        (λ (t : may_go codes ops ts ≡ true). ⊎_elim
        (λ (q : one_of codes ts ≡ true). or_left (one_of (sign_code sign_of.Question ∷ codes) ts) (acts ops ts) (or_right (sign_code sign_of.Question == front_code ts) (is_in codes (front_code ts)) q))
        (λ (q : acts ops ts ≡ true). or_right (one_of (sign_code sign_of.Question ∷ codes) ts) (acts ops ts) q) (or_cases (one_of codes ts) (acts ops ts) t))
        (or_cases (one_of (sign_code sign_of.Question ∷ []) ts || Other.goes_on ts) (may_go codes ops ts) e)

    pub conditional_laws : Lawful Expr (at_level 1 (suc (suc k)) (conditional_run (suc k) test expr conditional) (sign_code sign_of.Question ∷ codes) ops)
    unfolding conditional_run
    conditional_laws = alike_laws (Expr × Branches) Expr Both conditional_made expr_tokens Fits (one_of expr_codes) Other.goes_on both_laws
        (record { told = told; forth = forth; back = back; starts_too = λ ts e. e; goes_too = goes_of })
