-- Expr: a Cond, and behind one of the postfix level that is not too high an assignment.
use Rattle.std.proofs.Common.{◌≡◌, ℕ, suc, ◌≤◌, max, Bool, true, false, List, [], ◌∷◌, Option, Some, None, refl, sym, ap, ◌∙◌, subst, ⊎_elim, arith}
use Rattle.std.proofs.lemmas.Bool.{false≢true, and_parts, and_from, or_from, or_cases, cases_Bool, leb-true, le-leb}
use Rattle.std.specs.Prelude.{◌&&◌, ◌||◌, nat_le, not}
use Rattle.jc_lexer.specs.declared.token.Token.{Token}
use Rattle.jc_tree.specs.declared.expression.ArrayInit.{ArrayInit}
use Rattle.jc_tree.specs.declared.expression.AssignOp.{AssignOp}
use Rattle.jc_tree.specs.declared.expression.Creation.{Creation}
use Rattle.jc_tree.specs.declared.expression.Expr.{Expr, Expr-F, out-Expr, roll-Expr, roll-out-Expr, map-Expr}
use Rattle.jc_tree.specs.declared.expression.Expr.TheVariants as expr_of
use Rattle.jc_tree.specs.declared.expression.Init.{Init}
use Rattle.jc_tree.specs.declared.expression.Operand.{Operand}
use Rattle.jc_tree.specs.Heights.{expr_height}
use Rattle.jc_tree.proofs.HeightsOfExpressions.{expr_height-Assign}
use Rattle.jc_grammar.specs.Told.{Told}
use Rattle.jc_grammar.specs.Expressions.{expr_tokens, assign_tokens}
use Rattle.jc_grammar.specs.Shapes.{Shape, CreationShape, OperandShape, stands, expr_shape, creation_shape, operand_shape, is_init, is_array, expr_shape_step}
use Rattle.jc_grammar.proofs.FramedExpressions.{expr_frames}
use Rattle.jc_grammar.proofs.ShapesOfExpressions.{expr_shape-out, expr_shape-Assign}
use Rattle.jc_grammar.proofs.Stands.{stands_looser}
use Rattle.jc_grammar.proofs.TokensOfExpressions.{expr_tokens-Assign}
use Rattle.jc_reading.specs.Kinds.{front_code, one_of}
use Rattle.jc_reading.specs.Reading.{Run, Takes}
use Rattle.jc_reading.proofs.Steps.{Plain}
use Rattle.jc_reading.proofs.Alikes.{alike_laws}
use Rattle.jc_reading.proofs.Forms.{Form, Lawful, Stands}
use Rattle.jc_reading.proofs.Options.{option, option_laws}
use Rattle.jc_reading.proofs.Rooms.{room_suc, room_max}
use Rattle.jc_reading.proofs.Signs.{none_common, all_in, within_sets}
use Rattle.jc_reading.proofs.Coded.{formed}
use Rattle.jc_part_laws.proofs.ExprForms.{expr_codes}
use Rattle.jc_expr_laws.specs.LevelReading.{no_target, assign_made, expr_run}
use Rattle.jc_expr_laws.proofs.LevelTests.{acts, leads, acts_in, acts_out, clashes, acts_apart}
use Rattle.jc_reading.proofs.FollowedBy.{followed_form, followed_laws}
use Rattle.jc_expr_laws.proofs.LevelActs.{acting, acting_laws}
use Rattle.jc_expr_laws.proofs.LevelSpelled.{respelled, respelled_laws}
use Rattle.jc_expr_laws.proofs.LevelLasts.{expr_silent}
use Rattle.jc_expr_laws.proofs.LevelFlat.{Flat, flat_forth, flat_back, flat_expr}
use Rattle.jc_expr_laws.proofs.LevelShapes.{exactly}
use Rattle.jc_expr_laws.proofs.LevelChains.{may_go, at_level, plain_front}
use Rattle.jc_expr_laws.proofs.LevelConditionals.{is_nothing, operand_high, unary}
use Rattle.jc_expr_laws.proofs.LevelAssignOps.{flat_assign, assign_op_coded, assign_op_laws, assign_ops, assign_acts, flat_assigns}

abbrev Layer : Type 0
Layer = Expr-F Creation Expr Init Operand ArrayInit

abbrev shaped : Layer → Shape
shaped l = expr_shape_step (map-Expr Creation Expr Init Operand ArrayInit CreationShape Shape Bool OperandShape Bool creation_shape expr_shape is_init operand_shape is_array l)

pub record IsAssign (e : Expr) : Type 0 where
  pub target : Expr
  pub op : AssignOp
  pub value : Expr
  pub is_it : expr_of.Assign target op value ≡ e

assign_layer : (e : Expr) (l : Layer) → out-Expr e ≡ l → (shaped l).level ≡ 0 → (shaped l).good ≡ true → IsAssign e
assign_layer e (Expr-F.Assign target op value) q g d = record { target = target; op = op; value = value; is_it = sym (expr_of.rolls-Assign target op value) ∙ ap roll-Expr (sym q) ∙ roll-out-Expr e }
assign_layer e (Expr-F.Chain first []) q g d = absurd (false≢true d)
assign_layer e (Expr-F.Chain first (o ∷ rest)) q g d = let k = operand_high o in absurd (omega (arith, g, k))
assign_layer e (Expr-F.Prefix first more operand) q g d = let k = unary first.sign in absurd (omega (arith, g, k))
assign_layer e _ q g d = absurd (omega (arith, g))

assign_only : (e : Expr) → (expr_shape e).level ≡ 0 → (expr_shape e).good ≡ true → IsAssign e
assign_only e g d = assign_layer e (out-Expr e) refl (sym (ap (λ (z : Shape). z.level) (expr_shape-out e)) ∙ g) (sym (ap (λ (z : Shape). z.good) (expr_shape-out e)) ∙ d)

module _ (k : ℕ) (conditional expr : Run Expr) (codes goes : List ℕ) (ops : List (List ℕ)) where
  abbrev Cond : Form Expr
  Cond = at_level 1 (suc (suc k)) conditional codes ops

  abbrev Any : Form Expr
  Any = record { tell = expr_tokens; fits = λ e. nat_le (expr_height e) (suc k) && stands 0 (expr_shape e); run = expr; starts = one_of expr_codes; goes_on = one_of goes; empties = false }

  abbrev Act : Form (AssignOp × Expr)
  Act = acting AssignOp Expr assign_ops (formed assign_op_coded) Any

  abbrev Both : Form (Expr × Option (AssignOp × Expr))
  Both = followed_form Expr (Option (AssignOp × Expr)) (no_target (suc k)) None is_nothing Cond (option (AssignOp × Expr) Act)

  abbrev real : Expr × Option (AssignOp × Expr) → List Told → List Told
  real p r = expr_tokens (assign_made p) r

  abbrev Real : Form (Expr × Option (AssignOp × Expr))
  Real = respelled (Expr × Option (AssignOp × Expr)) Both real

  pub record Inner : Type 0 where
    pub cond_laws : Lawful Expr Cond
    pub any_laws : Lawful Expr Any
    pub out : none_common (leads assign_ops) codes ≡ true
    pub clash : clashes assign_ops ops ≡ true
    pub codes_in : all_in codes goes ≡ true
    pub ops_in : all_in (leads ops) goes ≡ true
    pub assigns_in : all_in (leads assign_ops) goes ≡ true

  module _ (d : Inner) where
    stops : (ts : List Token) → acts assign_ops ts ≡ true → may_go codes ops ts ≡ false
    stops ts e = or_from (one_of codes ts) (acts ops ts) (acts_out assign_ops codes ts d.out e) (acts_apart assign_ops ops ts d.clash e)

    act_laws : Lawful (AssignOp × Expr) Act
    act_laws = acting_laws AssignOp Expr assign_ops (formed assign_op_coded) Any assign_op_laws d.any_laws
        (record { solid = refl; solid' = refl; operand = λ ts e. e; meet = λ ts e. refl; seen = λ ts o m s e. assign_acts o ts m s.0 e })

    tail_laws : Lawful (Option (AssignOp × Expr)) (option (AssignOp × Expr) Act)
    tail_laws = option_laws (AssignOp × Expr) Act act_laws refl

    some_tail : (ts : List Token) (o : Option (AssignOp × Expr)) (r : List Token) → Stands (option (AssignOp × Expr) Act) ts o r → is_nothing o ≡ false → acts assign_ops ts ≡ true
    some_tail ts None r s n = absurd (false≢true (sym n))
    some_tail ts (Some p) r s n = ⊎_elim (λ o. o.0) (λ o. absurd (false≢true o.1)) (act_laws.opens ts p r s)

    only_none : (o : Option (AssignOp × Expr)) → is_nothing o ≡ true → None ≡ o
    only_none None e = refl
    only_none (Some p) e = absurd (false≢true e)

    both_laws : Lawful (Expr × Option (AssignOp × Expr)) Both
    both_laws = followed_laws Expr (Option (AssignOp × Expr)) (no_target (suc k)) None is_nothing Cond (option (AssignOp × Expr) Act) d.cond_laws tail_laws
        (record {
          solid = refl;
          free = refl;
          bare = λ r. refl;
          none_fits = refl;
          none_is = refl;
          only = only_none;
          some = some_tail;
          whole = λ ts e r s c t. d.cond_laws.exact ts e r s (stops r t);
        })

    not_not : (b : Bool) → not (not b) ≡ true → b ≡ true
    not_not true e = refl
    not_not false e = absurd (false≢true e)

    target_of : (e : Expr) (p : AssignOp × Expr) → Both.fits (e, Some p) ≡ true → (nat_le (expr_height e) (suc k) && stands 14 (expr_shape e)) ≡ true
    target_of e p g =
        let a = and_parts (Cond.fits e) (Act.fits p && (false || not (no_target (suc k) e))) g in
        let b = and_parts (Act.fits p) (false || not (no_target (suc k) e)) a.1 in
        not_not (nat_le (expr_height e) (suc k) && stands 14 (expr_shape e)) b.1

    flat : (p : Expr × Option (AssignOp × Expr)) → Both.fits p ≡ true → Flat false (Both.tell p []) (real p [])
    flat (e, None) g = flat_expr false e [] [] tt
    flat (e, Some (op, v)) g =
        let t = and_parts (nat_le (expr_height e) (suc k)) (stands 14 (expr_shape e)) (target_of e (op, v) g) in
        subst (λ (l : List Told). Flat false (expr_tokens e (flat_assign op (expr_tokens v []))) l) (sym (expr_tokens-Assign e op v []))
        (flat_expr false e (flat_assign op (expr_tokens v [])) (assign_tokens op (expr_tokens v []))
        (subst (λ (c : Bool). Flat c (flat_assign op (expr_tokens v [])) (assign_tokens op (expr_tokens v []))) (sym (expr_silent e (stands_looser 9 14 (expr_shape e) (omega arith) t.1) false))
        (flat_assigns op (expr_tokens v []) (expr_tokens v []) (λ b. flat_expr b v [] [] tt))))

    not_empty : (e : Expr) → Cond.fits e ≡ true → expr_tokens e [] ≡ [] → ⊥
    not_empty e g n =
        ⊎_elim (λ o. omega (arith, o.1)) (λ o. false≢true o.1) (d.cond_laws.opens [] e [] (subst (λ (l : List Told). Takes false l [] []) (sym n) refl, g))

    plain_real : (p : Expr × Option (AssignOp × Expr)) → Both.fits p ≡ true → Plain (real p [])
    plain_real (e, None) g = d.cond_laws.plain e (and_parts (Cond.fits e) (true && true) g).0
    plain_real (e, Some (op, v)) g =
        let f = (and_parts (Cond.fits e) (Act.fits (op, v) && (false || not (no_target (suc k) e))) g).0 in
        subst (λ (l : List Told). Plain l) (sym (expr_tokens-Assign e op v [] ∙ (expr_frames e).at [] (assign_tokens op (expr_tokens v []))))
        (plain_front (expr_tokens e []) (assign_tokens op (expr_tokens v [])) (not_empty e f) (d.cond_laws.plain e f))

    real_laws : Lawful (Expr × Option (AssignOp × Expr)) Real
    real_laws = respelled_laws (Expr × Option (AssignOp × Expr)) Both real both_laws (record {
      appends = λ p r g. (expr_frames (assign_made p)).at [] r;
      plain = plain_real;
      forth = λ p ts r g s. flat_forth false false (Both.tell p []) (real p []) ts r (λ e. e) (flat p g) s;
      back = λ p ts r g s. flat_back false false (Both.tell p []) (real p []) ts r (flat p g) s;
    })

    abbrev Fits : Expr → Bool
    Fits e = nat_le (expr_height e) (suc (suc k)) && stands 0 (expr_shape e)

    high : (a : Expr) (op : AssignOp) (b : Expr) → nat_le (expr_height (expr_of.Assign a op b)) (suc (suc k)) ≡ (nat_le (expr_height a) (suc k) && nat_le (expr_height b) (suc k))
    high a op b = ap (λ (n : ℕ). nat_le n (suc (suc k))) (expr_height-Assign a op b) ∙ room_suc (max (expr_height a) (expr_height b)) (suc k) ∙ room_max (expr_height a) (expr_height b) (suc k)

    forth : (p : Expr × Option (AssignOp × Expr)) → Both.fits p ≡ true → Fits (assign_made p) ≡ true
    forth (e, None) g =
        let a = and_parts (Cond.fits e) (true && true) g in
        let b = and_parts (nat_le (expr_height e) (suc (suc k))) (stands 1 (expr_shape e)) a.0 in
        and_from (nat_le (expr_height e) (suc (suc k))) (stands 0 (expr_shape e)) b.0 (stands_looser 0 1 (expr_shape e) (omega arith) b.1)
    forth (e, Some (op, v)) g =
        let x = expr_of.Assign e op v in
        let a = and_parts (Cond.fits e) (Act.fits (op, v) && (false || not (no_target (suc k) e))) g in
        let b = and_parts (Act.fits (op, v)) (false || not (no_target (suc k) e)) a.1 in
        let t = and_parts (nat_le (expr_height e) (suc k)) (stands 14 (expr_shape e)) (target_of e (op, v) g) in
        let c = and_parts (nat_le (expr_height v) (suc k)) (stands 0 (expr_shape v)) b.0 in
        and_from (nat_le (expr_height x) (suc (suc k))) (stands 0 (expr_shape x))
        (high e op v ∙ and_from (nat_le (expr_height e) (suc k)) (nat_le (expr_height v) (suc k)) t.0 c.0)
        (subst (λ (s : Shape). stands 0 s ≡ true) (sym (expr_shape-Assign e op v)) (and_from (stands 14 (expr_shape e) && stands 0 (expr_shape v)) true (and_from (stands 14 (expr_shape e)) (stands 0 (expr_shape v)) t.1 c.1) refl))

    of_assign : (e : Expr) (op : AssignOp) (v : Expr) → Fits (expr_of.Assign e op v) ≡ true → (p : Expr × Option (AssignOp × Expr)) × (assign_made p ≡ expr_of.Assign e op v) × (Both.fits p ≡ true)
    of_assign e op v g =
        let x = expr_of.Assign e op v in
        let a = and_parts (nat_le (expr_height x) (suc (suc k))) (stands 0 (expr_shape x)) g in
        let h = and_parts (nat_le (expr_height e) (suc k)) (nat_le (expr_height v) (suc k)) (sym (high e op v) ∙ a.0) in
        let s = and_parts (stands 14 (expr_shape e) && stands 0 (expr_shape v)) true (subst (λ (z : Shape). stands 0 z ≡ true) (expr_shape-Assign e op v) a.1) in
        let t = and_parts (stands 14 (expr_shape e)) (stands 0 (expr_shape v)) s.0 in
        let low : nat_le (expr_height e) (suc (suc k)) ≡ true = let j : expr_height e ≤ suc k = leb-true (expr_height e) (suc k) h.0 in le-leb (expr_height e) (suc (suc k)) (omega (arith, j)) in
        let is_target = and_from (nat_le (expr_height e) (suc k)) (stands 14 (expr_shape e)) h.0 t.0 in (
          (e, Some (op, v)),
          refl,
          and_from (Cond.fits e) (Act.fits (op, v) && (false || not (no_target (suc k) e)))
              (and_from (nat_le (expr_height e) (suc (suc k))) (stands 1 (expr_shape e)) low (stands_looser 1 14 (expr_shape e) (omega arith) t.0))
              (and_from (Act.fits (op, v)) (false || not (no_target (suc k) e)) (and_from (nat_le (expr_height v) (suc k)) (stands 0 (expr_shape v)) h.1 t.1) (ap (λ (b : Bool). not (not b)) is_target)),
        )

    back : (e : Expr) → Fits e ≡ true → (p : Expr × Option (AssignOp × Expr)) × (assign_made p ≡ e) × (Both.fits p ≡ true)
    back e g =
        let a = and_parts (nat_le (expr_height e) (suc (suc k))) (stands 0 (expr_shape e)) g in
        ⊎_elim
        (λ (t : stands 1 (expr_shape e) ≡ true). ((e, None), refl, and_from (Cond.fits e) (true && true) (and_from (nat_le (expr_height e) (suc (suc k))) (stands 1 (expr_shape e)) a.0 t) refl))
        (λ (f : stands 1 (expr_shape e) ≡ false).
        let w = assign_only e (exactly 0 (expr_shape e) a.1 f) (and_parts (expr_shape e).good (nat_le 0 (expr_shape e).level) a.1).0 in
        subst (λ (x : Expr). (p : Expr × Option (AssignOp × Expr)) × (assign_made p ≡ x) × (Both.fits p ≡ true)) w.is_it (of_assign w.target w.op w.value (subst (λ (x : Expr). Fits x ≡ true) (sym w.is_it) g)))
        (cases_Bool (stands 1 (expr_shape e)))

    goes_of : (ts : List Token) → ((acts assign_ops ts || one_of goes ts) || may_go codes ops ts) ≡ true → one_of goes ts ≡ true
    goes_of ts e =
        ⊎_elim
        (λ (t : (acts assign_ops ts || one_of goes ts) ≡ true). ⊎_elim (λ (q : acts assign_ops ts ≡ true). acts_in assign_ops goes ts d.assigns_in q) (λ (q : one_of goes ts ≡ true). q) (or_cases (acts assign_ops ts) (one_of goes ts) t))
        (λ (t : may_go codes ops ts ≡ true). ⊎_elim (λ (q : one_of codes ts ≡ true). within_sets codes goes d.codes_in (front_code ts) q) (λ (q : acts ops ts ≡ true). acts_in ops goes ts d.ops_in q) (or_cases (one_of codes ts) (acts ops ts) t))
        (or_cases (acts assign_ops ts || one_of goes ts) (may_go codes ops ts) e)

    -- Expr of one height more
    abbrev pub whole_form : Form Expr
    whole_form = record { tell = expr_tokens; fits = Fits; run = expr_run (suc k) conditional expr; starts = one_of expr_codes; goes_on = one_of goes; empties = false }

    pub whole_laws : Lawful Expr whole_form
    unfolding expr_run
    whole_laws = alike_laws (Expr × Option (AssignOp × Expr)) Expr Real assign_made expr_tokens Fits (one_of expr_codes) (one_of goes) real_laws
        (record { told = λ p r g. refl; forth = forth; back = back; starts_too = λ ts e. e; goes_too = goes_of })
