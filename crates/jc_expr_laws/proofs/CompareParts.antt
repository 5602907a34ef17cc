-- The comparisons behind a first operand: `instanceof` and a type, or an operator and its operand.
use Rattle.std.proofs.Common.{◌≡◌, ℕ, suc, Bool, true, false, List, [], ◌∷◌, refl, sym, ap, ◌∙◌, subst, ⊎_elim}
use Rattle.std.proofs.lemmas.Bool.{false≢true, false_from_ne_true, and_parts, or_from, or_left, or_right, or_cases, cond-true, cond-false}
use Rattle.std.specs.Prelude.{◌&&◌, ◌||◌, not, ◌==◌}
use Rattle.jc_lexer.specs.declared.token.Key.TheVariants as key_of
use Rattle.jc_lexer.specs.declared.token.Sign.TheVariants as sign_of
use Rattle.jc_lexer.specs.declared.token.Token.{Token}
use Rattle.jc_tree.specs.declared.expression.BinaryOp.{BinaryOp}
use Rattle.jc_tree.specs.declared.expression.BinaryOp.TheVariants as binary_of
use Rattle.jc_tree.specs.declared.expression.Expr.{Expr}
use Rattle.jc_tree.specs.declared.types.TypeTree.{TypeTree}
use Rattle.jc_grammar.specs.Told.{Told, sign, key}
use Rattle.jc_grammar.specs.Expressions.{inner, expr_tokens, binary_tokens}
use Rattle.jc_grammar.specs.Types.{type_tokens}
use Rattle.jc_grammar.specs.Shapes.{binary_level, takes_args}
use Rattle.jc_reading.specs.Kinds.{kind_code, sign_code, key_code, is_in, front_code, one_of}
use Rattle.jc_reading.specs.Reading.{Read, Run, This, That, becoming, joined, Takes}
use Rattle.jc_reading.proofs.Steps.{IsFound, found_bind, found_becoming, takes_cut}
use Rattle.jc_reading.proofs.Forms.{Form, Lawful, Stands}
use Rattle.jc_reading.proofs.Pairs.{pair, pair_laws}
use Rattle.jc_reading.proofs.Choices.{choice, choice_laws, tell_either}
use Rattle.jc_reading.proofs.Retests.{retested}
use Rattle.jc_reading.proofs.Ledby.{or_false}
use Rattle.jc_reading.proofs.Signs.{a_key, key_laws, apart_sets, within_sets}
use Rattle.jc_reading.proofs.Coded.{formed}
use Rattle.jc_part_laws.proofs.PartForms.{type_coded, type_coded_laws}
use Rattle.jc_part_laws.proofs.ExprForms.{expr_codes}
use Rattle.jc_expr_laws.specs.LevelReading.{less_run}
use Rattle.jc_expr_laws.specs.CompareReading.{Comparison, barred, ends_open_type}
use Rattle.jc_expr_laws.proofs.LevelTests.{acts, acts_apart, acts_out, acts_second, acts_lead, leads}
use Rattle.jc_expr_laws.proofs.LevelActs.{acting, acting_laws}
use Rattle.jc_expr_laws.proofs.LevelSpelled.{loosened_laws}
use Rattle.jc_expr_laws.proofs.LevelOps.{op_coded, less_laws, less_ops, has_less, op_acts, flat_tokens}
use Rattle.jc_expr_laws.proofs.LevelPrefixes.{bare_goes}
use Rattle.jc_expr_laws.proofs.LevelChains.{may_go, at_level}
use Rattle.jc_expr_laws.proofs.LevelTower.{compare_goes, less_tight, shift_tight}
use Rattle.jc_expr_laws.proofs.CompareTypes.{closed_type}

abbrev pub instance_codes : List ℕ
instance_codes = key_code key_of.Instanceof ∷ []

abbrev less_starts : List ℕ
less_starts = sign_code sign_of.Less ∷ sign_code sign_of.LessEqual ∷ sign_code sign_of.Greater ∷ sign_code sign_of.Greater ∷ []

abbrev less_goes : List ℕ
less_goes = sign_code sign_of.Assign ∷ []

-- what may go on in an operand may go on in a comparison
pub wider : (ts : List Token) → may_go bare_goes shift_tight ts ≡ true → may_go compare_goes less_tight ts ≡ true
wider ts t =
    ⊎_elim (λ (a : one_of bare_goes ts ≡ true). or_left (one_of compare_goes ts) (acts less_tight ts) (within_sets bare_goes compare_goes refl (front_code ts) a))
    (λ (a : acts shift_tight ts ≡ true). or_right (one_of compare_goes ts) (acts less_tight ts) (acts_second less_ops shift_tight ts a)) (or_cases (one_of bare_goes ts) (acts shift_tight ts) t)

-- where one of these kinds stands, an operand doesn't go on
no_acts : (ops : List (List ℕ)) (m : List Token) → one_of (leads ops) m ≡ false → acts ops m ≡ false
no_acts ops m e = false_from_ne_true (acts ops m) (λ t. false≢true (sym e ∙ acts_lead ops m t))

at_instance : (m : List Token) → one_of instance_codes m ≡ true → may_go bare_goes shift_tight m ≡ false
at_instance m e = or_from (one_of bare_goes m) (acts shift_tight m) (apart_sets instance_codes bare_goes refl (front_code m) e) (no_acts shift_tight m (apart_sets instance_codes (leads shift_tight) refl (front_code m) e))

at_op : (m : List Token) → acts less_ops m ≡ true → may_go bare_goes shift_tight m ≡ false
at_op m a = or_from (one_of bare_goes m) (acts shift_tight m) (acts_out less_ops bare_goes m refl a) (acts_apart less_ops shift_tight m refl a)

-- the kind of the first token
abbrev pub op_lead : BinaryOp → ℕ
op_lead binary_of.Less = sign_code sign_of.Less
op_lead binary_of.LessEqual = sign_code sign_of.LessEqual
op_lead _ = sign_code sign_of.Greater

abbrev pub lead : Comparison → ℕ
lead (This p) = key_code key_of.Instanceof
lead (That p) = op_lead p.0

-- told where any token may stand before, and where a `>` that touches may not
abbrev pub soft : Comparison → List Told → List Told
soft = tell_either (λ (p : Unit {0} × TypeTree) (r : List Told). key key_of.Instanceof ∷ type_tokens p.1 r) (λ (p : BinaryOp × Expr) (r : List Told). flat_tokens p.0 (expr_tokens p.1 r))

abbrev pub hard : Comparison → List Told → List Told
hard (This p) r = key key_of.Instanceof ∷ type_tokens p.1 r
hard (That p) r = binary_tokens p.0 (expr_tokens p.1 r)

front_told : (b : Bool) (d : Told) (x : List Told) (ts r : List Token) → Takes b (d ∷ x) ts r → front_code ts ≡ kind_code d.kind
front_told b d x [] r t = absurd t
front_told b d x (k ∷ ts) r t = ap kind_code t.0.0

pub lead_op : (op : BinaryOp) → (binary_level op == 8) ≡ true → (x : List Told) (ts r : List Token) → Takes false (flat_tokens op x) ts r → front_code ts ≡ op_lead op
lead_op binary_of.Less g x ts r t = front_told false (sign sign_of.Less) x ts r t
lead_op binary_of.LessEqual g x ts r t = front_told false (sign sign_of.LessEqual) x ts r t
lead_op binary_of.Greater g x ts r t = front_told false (sign sign_of.Greater) x ts r t
lead_op binary_of.GreaterEqual g x ts r t = front_told false inner (sign sign_of.Assign ∷ x) ts r t
lead_op _ g x ts r t = absurd (false≢true g)

module _ (k : ℕ) (next : Run Expr) where
  abbrev pub Next : Form Expr
  Next = at_level 9 (suc k) next bare_goes shift_tight

  abbrev Op : Form BinaryOp
  Op = formed (op_coded 8 less_run less_starts less_goes)

  abbrev Act : Form (BinaryOp × Expr)
  Act = acting BinaryOp Expr less_ops Op Next

  abbrev Types : Form TypeTree
  Types = formed (type_coded (suc k))

  abbrev Instance : Form (Unit {0} × TypeTree)
  Instance = pair (Unit {0}) TypeTree (a_key key_of.Instanceof) Types

  abbrev Chosen : Form Comparison
  Chosen = choice (Unit {0} × TypeTree) (BinaryOp × Expr) instance_codes Instance Act

  abbrev pub part_starts : List Token → Bool
  part_starts ts = Chosen.starts ts

  abbrev pub part_ends : List Token → Bool
  part_ends ts = may_go compare_goes less_tight ts

  abbrev pub Part : Form Comparison
  Part = retested Comparison Chosen part_starts part_ends

  abbrev pub part_fits : Bool → Bool → Comparison → Bool
  part_fits bare touched p = Part.fits p && not (is_in (barred bare touched) (lead p))

  module _ (ln : Lawful Expr Next) where
    act_laws : Lawful (BinaryOp × Expr) Act
    act_laws = acting_laws BinaryOp Expr less_ops Op Next less_laws ln (record {
      solid = refl;
      solid' = refl;
      operand = λ ts e. e;
      meet = λ ts e. apart_sets expr_codes less_goes refl (front_code ts) e;
      seen = λ ts o m s e. op_acts less_ops o ts m (has_less o s.1) s.0 e;
    })

    instance_laws : Lawful (Unit {0} × TypeTree) Instance
    instance_laws = pair_laws (Unit {0}) TypeTree (a_key key_of.Instanceof) Types (key_laws key_of.Instanceof) (type_coded_laws k) (λ ts e. refl)

    chosen_laws : Lawful Comparison Chosen
    chosen_laws = choice_laws (Unit {0} × TypeTree) (BinaryOp × Expr) instance_codes Instance Act instance_laws act_laws (record {
      solid = refl;
      solid' = refl;
      this = λ ts e. or_false (one_of instance_codes ts) e;
      that = λ ts e. acts_out less_ops instance_codes ts refl e;
    })

    goes_of : (ts : List Token) → Chosen.goes_on ts ≡ true → part_ends ts ≡ true
    goes_of ts e =
        ⊎_elim
        (λ (t : (Types.goes_on ts || false) ≡ true). or_left (one_of compare_goes ts) (acts less_tight ts) (within_sets (sign_code sign_of.LeftBracket ∷ sign_code sign_of.Less ∷ sign_code sign_of.Dot ∷ []) compare_goes refl (front_code ts) (or_false (Types.goes_on ts) t)))
        (wider ts)
        (or_cases (Types.goes_on ts || false) (may_go bare_goes shift_tight ts) e)

    pub chosen_part_laws : Lawful Comparison Part
    chosen_part_laws = loosened_laws Comparison Chosen part_starts part_ends chosen_laws (λ ts e. e) goes_of

    pub part_leads : (ts : List Token) (p : Comparison) (r : List Token) → Stands Part ts p r → front_code ts ≡ lead p
    part_leads ts (This p) r s = front_told false (key key_of.Instanceof) (type_tokens p.1 []) ts r s.0
    part_leads ts (That p) r s = lead_op p.0 (and_parts (binary_level p.0 == 8) (Next.fits p.1) s.1).0 (expr_tokens p.1 []) ts r s.0

    -- what stands behind an operand or a type where another comparison follows

    at_front : (codes : List ℕ) (m : List Token) (n : ℕ) → front_code m ≡ n → is_in codes n ≡ false → one_of codes m ≡ false
    at_front codes m n e f = ap (is_in codes) e ∙ f

    pub stops_before : (ts : List Token) → part_starts ts ≡ true → may_go bare_goes shift_tight ts ≡ false
    stops_before ts e = ⊎_elim (λ (i : (one_of instance_codes ts || false) ≡ true). at_instance ts (or_false (one_of instance_codes ts) i)) (at_op ts) (or_cases (one_of instance_codes ts || false) (acts less_ops ts) e)

    behind_operand : (m : List Token) (q : Comparison) (r : List Token) → Stands Part m q r → may_go bare_goes shift_tight m ≡ false
    behind_operand m q r s = stops_before m (⊎_elim (λ o. o.0) (λ o. absurd (false≢true o.1)) (chosen_part_laws.opens m q r s))

    found_instance : (ts : List Token) (p : Unit {0} × TypeTree) (m : List Token) → Stands Instance ts p m → ((us : List Token) → Stands Types us p.1 m → IsFound p.1 m (Types.run us)) → IsFound (This p) m (Part.run ts)
    found_instance ts p m s f =
        let w = takes_cut false (key key_of.Instanceof ∷ []) (type_tokens p.1 []) ts m s.0 in
        let it = found_bind p.0 w.0 p m ((a_key key_of.Instanceof).run ts) _ ((key_laws key_of.Instanceof).exact ts p.0 w.0 (w.1, refl) refl) (found_becoming (joined p.0) p.1 m (Types.run w.0) (f w.0 (w.2, s.1))) in
        let o : one_of instance_codes ts ≡ true = ⊎_elim (λ o. or_false (one_of instance_codes ts) o.0) (λ o. absurd (false≢true o.1)) (instance_laws.opens ts p m s) in
        subst (λ (v : Read Comparison). IsFound (This p) m v) (sym (cond-true (one_of instance_codes ts) (becoming This (Instance.run ts)) (becoming That (Act.run ts)) o)) (found_becoming This p m (Instance.run ts) it)

    found_act : (ts : List Token) (p : BinaryOp × Expr) (m : List Token) → Stands Act ts p m → may_go bare_goes shift_tight m ≡ false → IsFound (That p) m (Part.run ts)
    found_act ts p m s e =
        let a : acts less_ops ts ≡ true = ⊎_elim (λ o. o.0) (λ o. absurd (false≢true o.1)) (act_laws.opens ts p m s) in
        subst (λ (v : Read Comparison). IsFound (That p) m v) (sym (cond-false (one_of instance_codes ts) (becoming This (Instance.run ts)) (becoming That (Act.run ts)) (acts_out less_ops instance_codes ts refl a)))
        (found_becoming That p m (Act.run ts) (act_laws.exact ts p m s e))

    quiet_type : (ts : List Token) (p : Unit {0} × TypeTree) (m : List Token) (n : ℕ) → Stands Instance ts p m → front_code m ≡ n → is_in (sign_code sign_of.LeftBracket ∷ sign_code sign_of.Less ∷ sign_code sign_of.Dot ∷ []) n ≡ false → IsFound (This p) m (Part.run ts)
    quiet_type ts p m n s e f = found_instance ts p m s (λ us t. (type_coded_laws k).exact us p.1 m t (at_front (sign_code sign_of.LeftBracket ∷ sign_code sign_of.Less ∷ sign_code sign_of.Dot ∷ []) m n e f))

    not_bare : (bare touched : Bool) → not (is_in (barred bare touched) (sign_code sign_of.Less)) ≡ true → bare ≡ false
    not_bare true true e = absurd (false≢true e)
    not_bare true false e = absurd (false≢true e)
    not_bare false touched e = refl

    is_less_there : (m : List Token) → front_code m ≡ sign_code sign_of.Less → one_of (sign_code sign_of.Less ∷ []) m ≡ true
    is_less_there m e = ap (is_in (sign_code sign_of.Less ∷ [])) e

    before_op : (ts : List Token) (p : Unit {0} × TypeTree) (m : List Token) (op : BinaryOp) (touched : Bool) → (binary_level op == 8) ≡ true → Stands Instance ts p m → front_code m ≡ op_lead op → not (is_in (barred (takes_args p.1) touched) (op_lead op)) ≡ true → IsFound (This p) m (Part.run ts)
    before_op ts p m binary_of.Less touched g s e n = found_instance ts p m s (λ us t. closed_type k us p.1 m t (not_bare (takes_args p.1) touched n) (is_less_there m e))
    before_op ts p m binary_of.LessEqual touched g s e n = quiet_type ts p m (sign_code sign_of.LessEqual) s e refl
    before_op ts p m binary_of.Greater touched g s e n = quiet_type ts p m (sign_code sign_of.Greater) s e refl
    before_op ts p m binary_of.GreaterEqual touched g s e n = quiet_type ts p m (sign_code sign_of.Greater) s e refl
    before_op ts p m _ touched g s e n = absurd (false≢true g)

    -- a comparison with another one behind it is found exactly
    pub found_before : (ts : List Token) (p : Comparison) (m : List Token) (q : Comparison) (touched : Bool) (r : List Token) → Stands Part ts p m → Stands Part m q r → not (is_in (barred (ends_open_type p) touched) (lead q)) ≡ true → IsFound p m (Part.run ts)
    found_before ts (This p) m (This q) touched r s t n = quiet_type ts p m (key_code key_of.Instanceof) s (part_leads m (This q) r t) refl
    found_before ts (This p) m (That q) touched r s t n = before_op ts p m q.0 touched (and_parts (binary_level q.0 == 8) (Next.fits q.1) t.1).0 s (part_leads m (That q) r t) n
    found_before ts (That p) m q touched r s t n = found_act ts p m s (behind_operand m q r t)
