-- Comparisons one behind the other.
use Rattle.std.proofs.Common.{◌≡◌, ℕ, suc, Bool, true, false, List, [], ◌∷◌, ◌++◌, length, refl, sym, ap, ◌∙◌, subst, ⊎_elim}
use Rattle.std.proofs.lemmas.Bool.{false≢true, false_from_ne_true, and_parts, and_from, or_left, or_right, or_cases}
use Rattle.std.specs.Prelude.{◌||◌, not, ◌==◌}
use Rattle.jc_lexer.specs.declared.token.Key.TheVariants as key_of
use Rattle.jc_lexer.specs.declared.token.Sign.TheVariants as sign_of
use Rattle.jc_lexer.specs.declared.token.Token.{Token}
use Rattle.jc_tree.specs.declared.expression.BinaryOp.{BinaryOp}
use Rattle.jc_tree.specs.declared.expression.BinaryOp.TheVariants as binary_of
use Rattle.jc_tree.specs.declared.expression.Expr.{Expr}
use Rattle.jc_grammar.specs.Told.{Told, sign, key}
use Rattle.jc_grammar.specs.Expressions.{expr_tokens, operand_tokens, binary_tokens}
use Rattle.jc_grammar.specs.Types.{type_tokens}
use Rattle.jc_grammar.specs.Shapes.{binary_level}
use Rattle.jc_grammar.proofs.FramedExpressions.{operand_frames}
use Rattle.jc_grammar.proofs.TokensOfExpressions.{operand_tokens-Binary, operand_tokens-InstanceOf}
use Rattle.jc_reading.specs.Kinds.{sign_code, key_code, is_in, front_code, one_of}
use Rattle.jc_reading.specs.Reading.{Run, This, That, Takes}
use Rattle.jc_reading.proofs.Steps.{IsFound}
use Rattle.jc_reading.proofs.Forms.{Form, Lawful, Stands}
use Rattle.jc_reading.proofs.Stepwise.{Steady}
use Rattle.jc_reading.proofs.Ledby.{or_false}
use Rattle.jc_reading.proofs.Signs.{within_sets}
use Rattle.jc_expr_laws.specs.CompareReading.{touched_before, Comparison, barred, behind_part, compared_operand, next_comparison_run}
use Rattle.jc_expr_laws.proofs.LevelTests.{acts, acts_first}
use Rattle.jc_expr_laws.proofs.LevelOps.{less_ops, flat_tokens}
use Rattle.jc_expr_laws.proofs.LevelTower.{compare_goes, less_tight, shift_tight}
use Rattle.jc_expr_laws.proofs.CompareBars.{barred_steady, found_barred, unbarred}
use Rattle.jc_expr_laws.proofs.CompareLinks.{link, links_form, Linking, links_laws, links_begin}
use Rattle.jc_expr_laws.proofs.CompareParts.{instance_codes, op_lead, lead, soft, hard, Next, part_starts, part_ends, Part, part_fits, chosen_part_laws, part_leads, found_before}

-- what may stand anywhere
same_head : (b c : Bool) (d : Told) (x : List Told) (ts r : List Token) → d.apart ≡ false → Takes c (d ∷ x) ts r → Takes b (d ∷ x) ts r
same_head b c d x [] r a h = absurd h
same_head b c d x (t ∷ ts) r a h = ((h.0.0, h.0.1, h.0.2, λ q. absurd (false≢true (sym a ∙ q))), h.1)

untouched : (bare touched : Bool) → not (is_in (barred bare touched) (sign_code sign_of.Greater)) ≡ true → touched ≡ false
untouched true true e = absurd (false≢true e)
untouched false true e = absurd (false≢true e)
untouched bare false e = refl

less_still : (bare touched : Bool) → not (is_in (barred bare false) (sign_code sign_of.Less)) ≡ true → not (is_in (barred bare touched) (sign_code sign_of.Less)) ≡ true
less_still true touched e = absurd (false≢true e)
less_still false true e = refl
less_still false false e = refl

not_less_equal : (bare touched : Bool) → not (is_in (barred bare touched) (sign_code sign_of.LessEqual)) ≡ true
not_less_equal true true = refl
not_less_equal true false = refl
not_less_equal false true = refl
not_less_equal false false = refl

no_key : (bare touched : Bool) → not (is_in (barred bare touched) (key_code key_of.Instanceof)) ≡ true
no_key true true = refl
no_key true false = refl
no_key false true = refl
no_key false false = refl

still_free : (bare touched : Bool) (n : ℕ) → not (is_in (barred bare touched) n) ≡ true → not (is_in (barred bare false) n) ≡ true
still_free false touched n e = refl
still_free true false n e = e
still_free true true n e = first (sign_code sign_of.Less == n) (is_in (sign_code sign_of.Greater ∷ []) n) e
  where
    first : (a b : Bool) → not (a || b) ≡ true → not (a || false) ≡ true
    first true b e = e
    first false b e = refl

harden_op : (bare touched : Bool) (op : BinaryOp) (x : List Told) (ts r : List Token) → (binary_level op == 8) ≡ true → not (is_in (barred bare touched) (op_lead op)) ≡ true → Takes false (flat_tokens op x) ts r → Takes touched (binary_tokens op x) ts r
harden_op bare touched binary_of.Less x ts r g n h = same_head touched false (sign sign_of.Less) x ts r refl h
harden_op bare touched binary_of.LessEqual x ts r g n h = same_head touched false (sign sign_of.LessEqual) x ts r refl h
harden_op bare touched binary_of.Greater x [] r g n h = absurd h
harden_op bare touched binary_of.Greater x (t ∷ ts) r g n h = ((h.0.0, h.0.1, h.0.2, λ q. untouched bare touched n), h.1)
harden_op bare touched binary_of.GreaterEqual x [] r g n h = absurd h
harden_op bare touched binary_of.GreaterEqual x (t ∷ ts) r g n h = ((h.0.0, h.0.1, h.0.2, λ q. untouched bare touched n), h.1)
harden_op bare touched _ x ts r g n h = absurd (false≢true g)

soften_op : (bare touched : Bool) (op : BinaryOp) (x : List Told) (ts r : List Token) → (binary_level op == 8) ≡ true → not (is_in (barred bare false) (op_lead op)) ≡ true → Takes touched (binary_tokens op x) ts r → Takes false (flat_tokens op x) ts r × (not (is_in (barred bare touched) (op_lead op)) ≡ true)
soften_op bare touched binary_of.Less x ts r g n h = (same_head false touched (sign sign_of.Less) x ts r refl h, less_still bare touched n)
soften_op bare touched binary_of.LessEqual x ts r g n h = (same_head false touched (sign sign_of.LessEqual) x ts r refl h, not_less_equal bare touched)
soften_op bare touched binary_of.Greater x [] r g n h = absurd h
soften_op bare touched binary_of.Greater x (t ∷ ts) r g n h =
    (((h.0.0, h.0.1, h.0.2, λ q. refl), h.1), subst (λ c. not (is_in (barred bare c) (sign_code sign_of.Greater)) ≡ true) (sym (h.0.3 refl)) n)
soften_op bare touched binary_of.GreaterEqual x [] r g n h = absurd h
soften_op bare touched binary_of.GreaterEqual x (t ∷ ts) r g n h =
    (((h.0.0, h.0.1, h.0.2, λ q. refl), h.1), subst (λ c. not (is_in (barred bare c) (sign_code sign_of.Greater)) ≡ true) (sym (h.0.3 refl)) n)
soften_op bare touched _ x ts r g n h = absurd (false≢true g)

pub told_operand : (p : Comparison) (r : List Told) → operand_tokens (compared_operand p) r ≡ hard p r
told_operand (This p) r = operand_tokens-InstanceOf p.1 r
told_operand (That p) r = operand_tokens-Binary p.0 p.1 r

hard_appends : (p : Comparison) (r : List Told) → hard p r ≡ hard p [] ++ r
hard_appends p r = sym (told_operand p r) ∙ (operand_frames (compared_operand p)).at [] r ∙ ap (λ (l : List Told). l ++ r) (told_operand p [])

module _ (k : ℕ) (next : Run Expr) (ln : Lawful Expr (Next k next)) where
  abbrev Fits : Bool → Bool → Comparison → Bool
  Fits bare touched p = part_fits k next bare touched p

  abbrev pub Link : Bool → Bool → Form Comparison
  Link bare touched = link Bool Comparison behind_part soft hard (part_fits k next) (next_comparison_run (suc k) next) (part_starts k next) (part_ends k next) bare touched

  harden : (bare touched : Bool) (p : Comparison) (x : List Told) (ts r : List Token) → Fits bare touched p ≡ true → Takes false (soft p x) ts r → Takes touched (hard p x) ts r
  harden bare touched (This p) x ts r f h = same_head touched false (key key_of.Instanceof) (type_tokens p.1 x) ts r refl h
  harden bare touched (That p) x ts r f h =
      let w = and_parts ((Part k next).fits (That p)) (not (is_in (barred bare touched) (op_lead p.0))) f in
      harden_op bare touched p.0 (expr_tokens p.1 x) ts r (and_parts (binary_level p.0 == 8) ((Next k next).fits p.1) w.0).0 w.1 h

  soften : (bare touched : Bool) (p : Comparison) (x : List Told) (ts r : List Token) → Fits bare false p ≡ true → Takes touched (hard p x) ts r → Takes false (soft p x) ts r × (Fits bare touched p ≡ true)
  soften bare touched (This p) x ts r f h = (
    same_head false touched (key key_of.Instanceof) (type_tokens p.1 x) ts r refl h,
    and_from ((Part k next).fits (This p)) (not (is_in (barred bare touched) (lead (This p)))) (and_parts ((Part k next).fits (This p)) (not (is_in (barred bare false) (lead (This p)))) f).0 (no_key bare touched),
  )
  soften bare touched (That p) x ts r f h =
      let w = and_parts ((Part k next).fits (That p)) (not (is_in (barred bare false) (op_lead p.0))) f in
      let s = soften_op bare touched p.0 (expr_tokens p.1 x) ts r (and_parts (binary_level p.0 == 8) ((Next k next).fits p.1) w.0).0 w.1 h in
      (s.0, and_from ((Part k next).fits (That p)) (not (is_in (barred bare touched) (op_lead p.0))) w.0 s.1)

  looser : (bare touched : Bool) (p : Comparison) → Fits bare touched p ≡ true → Fits bare false p ≡ true
  looser bare touched p f =
      let w = and_parts ((Part k next).fits p) (not (is_in (barred bare touched) (lead p))) f in
      and_from ((Part k next).fits p) (not (is_in (barred bare false) (lead p))) w.0 (still_free bare touched (lead p) w.1)

  over : (ts : List Token) → part_ends k next ts ≡ false → part_starts k next ts ≡ false
  over ts e = false_from_ne_true (part_starts k next ts) (λ t. false≢true (sym e ∙ ends t))
    where
      ends : part_starts k next ts ≡ true → part_ends k next ts ≡ true
      ends t =
          ⊎_elim
          (λ (i : (one_of instance_codes ts || false) ≡ true). or_left (one_of compare_goes ts) (acts less_tight ts) (within_sets instance_codes compare_goes refl (front_code ts) (or_false (one_of instance_codes ts) i)))
          (λ (a : acts less_ops ts ≡ true). or_right (one_of compare_goes ts) (acts less_tight ts) (acts_first less_ops shift_tight ts a))
          (or_cases (one_of instance_codes ts || false) (acts less_ops ts) t)

  found_next : (bare touched : Bool) (ts : List Token) (p : Comparison) (m : List Token) (q : Comparison) (r : List Token) → Stands (Link bare touched) ts p m → Stands (Link (behind_part bare p) (touched_before ts (length m))) m q r → IsFound p m (next_comparison_run (suc k) next bare touched ts)
  found_next bare touched ts p m q r s t =
      let u = unbarred Comparison (barred bare touched) lead (Part k next) (chosen_part_laws k next ln) refl (part_leads k next ln) ts p m s in
      let f = and_parts ((Part k next).fits q) (not (is_in (barred (behind_part bare p) (touched_before ts (length m))) (lead q))) t.1 in
      found_barred Comparison (barred bare touched) lead (Part k next) (chosen_part_laws k next ln) refl (part_leads k next ln) ts p m u.1
      (found_before k next ln ts p m q (touched_before ts (length m)) r u.0 (t.0, f.0) f.1)

  pub link_steady : (bare touched : Bool) → Steady Comparison (Link bare touched)
  link_steady bare touched = barred_steady Comparison (barred bare touched) lead (Part k next) (chosen_part_laws k next ln) refl (part_leads k next ln)

  linking : Linking Bool Comparison behind_part soft hard (part_fits k next) (next_comparison_run (suc k) next) (part_starts k next) (part_ends k next)
  linking = record {
    steady = link_steady;
    hard_appends = hard_appends;
    harden = harden;
    soften = soften;
    looser = looser;
    over = over;
    next = found_next;
  }

  -- any number of comparisons behind what is no type
  abbrev pub Comparisons : Form (List Comparison)
  Comparisons = links_form Bool Comparison behind_part soft hard (part_fits k next) (next_comparison_run (suc k) next) (part_starts k next) (part_ends k next) false false

  pub comparisons_laws : Lawful (List Comparison) Comparisons
  comparisons_laws = links_laws Bool Comparison behind_part soft hard (part_fits k next) (next_comparison_run (suc k) next) (part_starts k next) (part_ends k next) linking false false

  pub some_begin : (ts : List Token) (q : Comparison) (list : List Comparison) (r : List Token) → Stands Comparisons ts (q ∷ list) r → part_starts k next ts ≡ true
  some_begin ts q list r s = links_begin Bool Comparison behind_part soft hard (part_fits k next) (next_comparison_run (suc k) next) (part_starts k next) (part_ends k next) linking false false ts q list r s
