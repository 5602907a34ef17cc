-- That the level of `<` and `instanceof` is read as it is to be.
use Rattle.std.proofs.Common.{◌≡◌, ℕ, suc, Bool, true, false, List, [], ◌∷◌, refl, sym, ◌∙◌, subst, ⊎_elim, inl, inr, arith}
use Rattle.std.proofs.lemmas.Bool.{false≢true, and_parts, or_cases}
use Rattle.std.specs.Prelude.{◌&&◌, ◌||◌, nat_le, ◌==◌}
use Rattle.jc_lexer.specs.declared.token.Sign.TheVariants as sign_of
use Rattle.jc_lexer.specs.declared.token.Token.{Token}
use Rattle.jc_tree.specs.declared.expression.BinaryOp.{BinaryOp}
use Rattle.jc_tree.specs.declared.expression.BinaryOp.TheVariants as binary_of
use Rattle.jc_tree.specs.declared.expression.Expr.{Expr}
use Rattle.jc_tree.specs.Heights.{expr_height}
use Rattle.jc_grammar.specs.Told.{Told, sign}
use Rattle.jc_grammar.specs.Spelling.{is_greater}
use Rattle.jc_grammar.specs.Expressions.{expr_tokens, binary_tokens}
use Rattle.jc_grammar.specs.Shapes.{stands, expr_shape, binary_level, is_none}
use Rattle.jc_grammar.proofs.FramedExpressions.{expr_frames}
use Rattle.jc_reading.specs.Reading.{Run, This, That, Takes}
use Rattle.jc_reading.specs.Kinds.{one_of}
use Rattle.jc_reading.proofs.Steps.{Plain}
use Rattle.jc_reading.proofs.Forms.{Form, Lawful, Stands}
use Rattle.jc_reading.proofs.Lists.{tell_all}
use Rattle.jc_reading.proofs.Alikes.{alike_laws}
use Rattle.jc_reading.proofs.FollowedBy.{followed_form, followed_laws}
use Rattle.jc_part_laws.proofs.ExprForms.{expr_codes}
use Rattle.jc_expr_laws.specs.LevelReading.{is_tall}
use Rattle.jc_expr_laws.specs.CompareReading.{Comparison, compared_made, comparisons_run, compare_run}
use Rattle.jc_expr_laws.proofs.LevelOps.{flat_tokens}
use Rattle.jc_expr_laws.proofs.LevelPrefixes.{bare_goes}
use Rattle.jc_expr_laws.proofs.LevelLasts.{expr_silent}
use Rattle.jc_expr_laws.proofs.LevelFlat.{Flat, flat_forth, flat_back, flat_expr}
use Rattle.jc_expr_laws.proofs.LevelSpelled.{respelled, respelled_laws}
use Rattle.jc_expr_laws.proofs.LevelChains.{may_go, at_level, plain_front}
use Rattle.jc_expr_laws.proofs.LevelTower.{compare_goes, less_tight, shift_tight, Compares}
use Rattle.jc_expr_laws.proofs.CompareParts.{hard, Next, Part, part_fits, stops_before, wider}
use Rattle.jc_expr_laws.proofs.CompareLinked.{Comparisons, comparisons_laws, some_begin}
use Rattle.jc_expr_laws.proofs.CompareChains.{compared_tokens, fits_forth, fits_back}

flat_same : (b : Bool) (x : List Told) → Flat b x x
flat_same b [] = tt
flat_same b (d ∷ x) = (refl, refl, refl, λ e. inl e, λ e. e, flat_same (is_greater d.kind) x)

-- behind what doesn't end with a `>`
flat_op : (op : BinaryOp) → (binary_level op == 8) ≡ true → (x : List Told) → Flat false (flat_tokens op x) (binary_tokens op x)
flat_op binary_of.Less g x = flat_same false (sign sign_of.Less ∷ x)
flat_op binary_of.LessEqual g x = flat_same false (sign sign_of.LessEqual ∷ x)
flat_op binary_of.Greater g x = (refl, refl, refl, λ e. inr refl, λ e. absurd (false≢true e), flat_same true x)
flat_op binary_of.GreaterEqual g x = (refl, refl, refl, λ e. inr refl, λ e. absurd (false≢true e), flat_same true (sign sign_of.Assign ∷ x))
flat_op _ g x = absurd (false≢true g)

module _ (k : ℕ) (first next : Run Expr) (lf : Lawful Expr (at_level 9 (suc (suc k)) first bare_goes shift_tight)) (ln : Lawful Expr (Next k next)) where
  abbrev First : Form Expr
  First = at_level 9 (suc (suc k)) first bare_goes shift_tight

  abbrev Tail : Form (List Comparison)
  Tail = Comparisons k next ln

  abbrev Flats : Form (Expr × List Comparison)
  Flats = followed_form Expr (List Comparison) (is_tall (suc k)) [] is_none First Tail

  abbrev real : Expr × List Comparison → List Told → List Told
  real p r = expr_tokens (compared_made p) r

  abbrev Reals : Form (Expr × List Comparison)
  Reals = respelled (Expr × List Comparison) Flats real

  only_none : (list : List Comparison) → is_none list ≡ true → [] ≡ list
  only_none [] e = refl
  only_none (q ∷ list) e = absurd (false≢true e)

  some_tail : (ts : List Token) (list : List Comparison) (r : List Token) → Stands Tail ts list r → is_none list ≡ false → Tail.starts ts ≡ true
  some_tail ts [] r s n = absurd (false≢true (sym n))
  some_tail ts (q ∷ list) r s n = some_begin k next ln ts q list r s

  flat_laws : Lawful (Expr × List Comparison) Flats
  flat_laws = followed_laws Expr (List Comparison) (is_tall (suc k)) [] is_none First Tail lf (comparisons_laws k next ln) (record {
    solid = refl;
    free = refl;
    bare = λ r. refl;
    none_fits = refl;
    none_is = refl;
    only = only_none;
    some = some_tail;
    whole = λ ts e r s c t. lf.exact ts e r s (stops_before k next ln r t);
  })

  tails_flat : (list : List Comparison) → Tail.fits list ≡ true → Flat false (Tail.tell list []) (tell_all hard list [])
  tails_flat [] g = tt
  tails_flat (This p ∷ list) g = flat_same false (hard (This p) (tell_all hard list []))
  tails_flat (That p ∷ list) g = flat_op p.0 (level_of p list g) (expr_tokens p.1 (tell_all hard list []))
    where
      level_of : (p : BinaryOp × Expr) (list : List Comparison) → Tail.fits (That p ∷ list) ≡ true → (binary_level p.0 == 8) ≡ true
      level_of p list g = (and_parts (binary_level p.0 == 8) ((Next k next).fits p.1) (and_parts ((Part k next).fits (That p)) _ (and_parts (part_fits k next false false (That p)) _ g).0).0).0

  tells_so : (p : Expr × List Comparison) → Flats.fits p ≡ true → Flat false (expr_tokens p.0 (Tail.tell p.1 [])) (expr_tokens p.0 (tell_all hard p.1 []))
  tells_so p g =
      let a = and_parts (First.fits p.0) _ g in
      let s = and_parts (nat_le (expr_height p.0) (suc (suc k))) (stands 9 (expr_shape p.0)) a.0 in
      let t = and_parts (Tail.fits p.1) _ a.1 in
      flat_expr false p.0 (Tail.tell p.1 []) (tell_all hard p.1 [])
      (subst (λ (c : Bool). Flat c (Tail.tell p.1 []) (tell_all hard p.1 [])) (sym (expr_silent p.0 s.1 false)) (tails_flat p.1 t.0))

  not_empty : (e : Expr) → First.fits e ≡ true → expr_tokens e [] ≡ [] → ⊥
  not_empty e g n =
      ⊎_elim (λ o. omega (arith, o.1)) (λ o. false≢true o.1) (lf.opens [] e [] (subst (λ (l : List Told). Takes false l [] []) (sym n) refl, g))

  real_laws : Lawful (Expr × List Comparison) Reals
  real_laws = respelled_laws (Expr × List Comparison) Flats real flat_laws (record {
    appends = λ p r g. (expr_frames (compared_made p)).at [] r;
    plain = λ p g. subst (λ (l : List Told). Plain l) (sym (compared_tokens p [] ∙ (expr_frames p.0).at [] (tell_all hard p.1 [])))
        (plain_front (expr_tokens p.0 []) (tell_all hard p.1 []) (not_empty p.0 (and_parts (First.fits p.0) _ g).0) (lf.plain p.0 (and_parts (First.fits p.0) _ g).0));
    forth = λ p ts r g s. subst (λ (l : List Told). Takes false l ts r) (sym (compared_tokens p [])) (flat_forth false false (expr_tokens p.0 (Tail.tell p.1 [])) (expr_tokens p.0 (tell_all hard p.1 [])) ts r (λ e. e) (tells_so p g) s);
    back = λ p ts r g s. flat_back false false (expr_tokens p.0 (Tail.tell p.1 [])) (expr_tokens p.0 (tell_all hard p.1 [])) ts r (tells_so p g) (subst (λ (l : List Told). Takes false l ts r) (compared_tokens p []) s);
  })

  goes_of : (ts : List Token) → (may_go compare_goes less_tight ts || may_go bare_goes shift_tight ts) ≡ true → may_go compare_goes less_tight ts ≡ true
  goes_of ts e = ⊎_elim (λ (t : may_go compare_goes less_tight ts ≡ true). t) (wider ts) (or_cases (may_go compare_goes less_tight ts) (may_go bare_goes shift_tight ts) e)

  pub compared_laws : Lawful Expr (at_level 8 (suc (suc k)) (compare_run (suc k) first next) compare_goes less_tight)
  unfolding compare_run comparisons_run
  compared_laws = alike_laws (Expr × List Comparison) Expr Reals compared_made expr_tokens (λ e. nat_le (expr_height e) (suc (suc k)) && stands 8 (expr_shape e)) (one_of expr_codes) (may_go compare_goes less_tight) real_laws
      (record {
        told = λ p r g. refl;
        forth = fits_forth k next;
        back = λ e g. let w = fits_back k next e g in (w.value, w.is_it, w.fit);
        starts_too = λ ts e. e;
        goes_too = goes_of;
      })

-- what is asked of it
pub comparing : Compares compare_run
comparing k first next lf ln = compared_laws k first next lf ln

pub lowest : (first next : Run Expr) → first ≡ compare_run 0 first next
unfolding compare_run
lowest first next = refl
