-- The forms of formals, variables and results, and that they are read as they are to be.
use Rattle.std.proofs.Common.{◌≡◌, ℕ, zero, suc, ◌<◌, ◌≤◌, Bool, true, false, cond, List, [], ◌∷◌, map, length, length-append, Option, Some, None, refl, sym, ap, ◌∙◌, ⊎_elim, inl, inr, arith}
use Rattle.std.proofs.Math.Bool.{and-true}
use Rattle.std.proofs.lemmas.Bool.{false≢true, and_parts, and_from, and_left, and_right}
use Rattle.std.proofs.lemmas.Grind.{common_steps}
use Rattle.std.specs.Prelude.{◌&&◌, ◌||◌, not, nat_le}
use Rattle.jc_lexer.specs.declared.token.Sign.TheVariants as sign_of
use Rattle.jc_lexer.specs.declared.token.Token.{Token}
use Rattle.jc_tree.specs.declared.name.Ident.{Ident}
use Rattle.jc_tree.specs.declared.types.TypeTree.{TypeTree}
use Rattle.jc_tree.specs.declared.expression.Init.{Init}
use Rattle.jc_tree.specs.declared.statement.Formal.{Formal}
use Rattle.jc_tree.specs.declared.statement.Modifier.{Modifier}
use Rattle.jc_tree.specs.declared.statement.Var.{Var}
use Rattle.jc_tree.specs.Heights.{most, type_height, init_height, modifier_height, formal_height, var_height}
use Rattle.jc_grammar.specs.Told.{Told, sign, commas, after_commas}
use Rattle.jc_grammar.specs.Parts.{formal_tokens, var_tokens}
use Rattle.jc_grammar.specs.Shapes.{is_init}
use Rattle.jc_grammar.specs.Units.{are_modifiers, are_formals, is_var}
use Rattle.jc_reading.specs.Kinds.{kind_code, sign_code, word_code, is_in, front_code, one_of}
use Rattle.jc_reading.specs.Reading.{Read, Run, found, becoming, joined, of_kind, perhaps_from, ◌>>=◌, Takes}
use Rattle.jc_reading.proofs.Steps.{Good, takes_length}
use Rattle.jc_reading.proofs.Forms.{Lawful}
use Rattle.jc_reading.proofs.Signs.{sign_laws, ident_laws, apart_sets}
use Rattle.jc_reading.proofs.Rooms.{room_above, room_max}
use Rattle.jc_parse_type.proofs.TypeForms.{dims_laws}
use Rattle.jc_reading.specs.Further.{unless, followed}
use Rattle.jc_part_laws.specs.PartReading.{Exprs, formal_made, formal_run, is_variable, or_no_formals, formals_tail_run, formals_made, formals_run, var_made, var_run}
use Rattle.jc_reading.proofs.Coded.{Coded, formed, in_order, in_order_laws, optional, optional_laws, made, made_laws, same_makes, widened_laws}
use Rattle.jc_part_laws.proofs.ExprForms.{ExprLaws, init_coded, init_tall}
use Rattle.jc_reading.proofs.Followed.{following, Follow, following_laws}
use Rattle.jc_reading.proofs.Lowest.{Law, optional_law, roomy, roomy_law, idle_laws, never_second}
use Rattle.jc_part_laws.proofs.ModifierForms.{modifiers_coded, modifiers_coded_laws}
use Rattle.jc_part_laws.proofs.PartForms.{sign_form, ident_form, dims_coded, type_coded, type_coded_laws, type_never, behind_each, behind_each_laws}
use Rattle.jc_reading.proofs.Unbounded.{Grows, unbounded, sized, unbounded_laws, takes_some, bind_same, good_more}

formal_bits : (m t a : Bool) → ((m && t) && a) ≡ ((m && a) && (t && true))
formal_bits m t a = grind (arith, common_steps)

pub dims_coded_laws : Lawful ℕ (formed dims_coded)
dims_coded_laws = dims_laws

module _ (x : Exprs) where
  module _ (h : ℕ) where
    abbrev FormalParts : Coded (List Modifier × (TypeTree × (Option (Unit {0}) × (Ident × ℕ))))
    FormalParts = in_order (modifiers_coded x h) (in_order (type_coded h) (in_order (optional (sign_form sign_of.Ellipsis)) (in_order ident_form dims_coded)))

    abbrev pub formal_fits : Formal → Bool
    formal_fits f = nat_le (formal_height f) h && are_modifiers f.modifiers

    abbrev Formals : Coded Formal
    Formals = made (List Modifier × (TypeTree × (Option (Unit {0}) × (Ident × ℕ)))) Formal FormalParts formal_made formal_tokens formal_fits

    told_formal : (p : List Modifier × (TypeTree × (Option (Unit {0}) × (Ident × ℕ)))) (r : List Told) → formal_tokens (formal_made p) r ≡ FormalParts.tell p r
    told_formal (modifiers, (ty, (None, (name, dims)))) r = refl
    told_formal (modifiers, (ty, (Some u, (name, dims)))) r = refl

    fit_formal : (p : List Modifier × (TypeTree × (Option (Unit {0}) × (Ident × ℕ)))) → formal_fits (formal_made p) ≡ FormalParts.fits p
    fit_formal (modifiers, (ty, (None, (name, dims)))) =
        ap (λ b. b && are_modifiers modifiers) (room_max (most (map modifier_height modifiers)) (type_height ty) h) ∙ formal_bits (nat_le (most (map modifier_height modifiers)) h) (nat_le (type_height ty) h) (are_modifiers modifiers)
    fit_formal (modifiers, (ty, (Some u, (name, dims)))) =
        ap (λ b. b && are_modifiers modifiers) (room_max (most (map modifier_height modifiers)) (type_height ty) h) ∙ formal_bits (nat_le (most (map modifier_height modifiers)) h) (nat_le (type_height ty) h) (are_modifiers modifiers)

    back_formal : (modifiers : List Modifier) (ty : TypeTree) (b : Bool) (name : Ident) (dims : ℕ) → (p : List Modifier × (TypeTree × (Option (Unit {0}) × (Ident × ℕ)))) × (formal_made p ≡ record { modifiers = modifiers; ty = ty; variable_arity = b; name = name; dims = dims })
    back_formal modifiers ty true name dims = ((modifiers, (ty, (Some tt, (name, dims)))), refl)
    back_formal modifiers ty false name dims = ((modifiers, (ty, (None, (name, dims)))), refl)

  formals_at : ExprLaws x → (h : ℕ) → Lawful Formal (formed (Formals (suc h)))
  formals_at lx h =
      made_laws (List Modifier × (TypeTree × (Option (Unit {0}) × (Ident × ℕ)))) Formal (FormalParts (suc h)) formal_made formal_tokens (formal_fits (suc h))
      (in_order_laws (List Modifier) (TypeTree × (Option (Unit {0}) × (Ident × ℕ))) (modifiers_coded x (suc h)) (in_order (type_coded (suc h)) (in_order (optional (sign_form sign_of.Ellipsis)) (in_order ident_form dims_coded))) (modifiers_coded_laws x (suc h) lx)
      (in_order_laws TypeTree (Option (Unit {0}) × (Ident × ℕ)) (type_coded (suc h)) (in_order (optional (sign_form sign_of.Ellipsis)) (in_order ident_form dims_coded)) (type_coded_laws h)
      (in_order_laws (Option (Unit {0})) (Ident × ℕ) (optional (sign_form sign_of.Ellipsis)) (in_order ident_form dims_coded) (optional_laws (Unit {0}) (sign_form sign_of.Ellipsis) (sign_laws sign_of.Ellipsis) refl)
      (in_order_laws Ident ℕ ident_form dims_coded ident_laws dims_coded_laws refl) refl) refl) refl)
      (same_makes (List Modifier × (TypeTree × (Option (Unit {0}) × (Ident × ℕ)))) Formal (FormalParts (suc h)) formal_made formal_tokens (formal_fits (suc h))
      (record { told = told_formal (suc h); fit = fit_formal (suc h); back = λ f. back_formal (suc h) f.modifiers f.ty f.variable_arity f.name f.dims }))

  abbrev pub formal_coded : ℕ → Coded Formal
  formal_coded h = record { tell = formal_tokens; fits = formal_fits h; run = formal_run x h; starts = (Formals h).starts; goes = (Formals h).goes; empties = false }

  formal_never : (f : Formal) → formal_fits 0 f ≡ false
  formal_never f = and_left (nat_le (formal_height f) 0) (are_modifiers f.modifiers) (room_max (most (map modifier_height f.modifiers)) (type_height f.ty) 0 ∙ and_right (nat_le (most (map modifier_height f.modifiers)) 0) (nat_le (type_height f.ty) 0) (type_never f.ty))

  pub formal_law : ExprLaws x → (h : ℕ) → Law Formal (formal_coded h)
  unfolding formal_run
  formal_law lx h = roomy_law Formal Formals formal_never (formals_at lx) h

-- further formals

abbrev is_nil : List Formal → Bool
is_nil [] = true
is_nil (f ∷ list) = false

module _ (x : Exprs) (h : ℕ) where
  abbrev Each : Coded Formal
  Each = formal_coded x h

  -- with room for n
  unfoldable tail_fits : ℕ → List Formal → Bool
  tail_fits n [] = true
  tail_fits zero (f ∷ list) = false
  tail_fits (suc n) (f ∷ list) = Each.fits f && (tail_fits n list && (is_nil list || not (is_variable f)))

  abbrev all_fit : List Formal → Bool
  all_fit [] = true
  all_fit (f ∷ list) = Each.fits f && (all_fit list && (is_nil list || not (is_variable f)))

  abbrev tail_tell : List Formal → List Told → List Told
  tail_tell list r = after_commas (map formal_tokens list) r

  abbrev tail_starts : List ℕ
  tail_starts = sign_code sign_of.Comma ∷ []

  abbrev tail_goes : List ℕ
  tail_goes = sign_code sign_of.Comma ∷ sign_code sign_of.LeftBracket ∷ []

  abbrev tail_run : ℕ → Run (List Formal)
  tail_run n = formals_tail_run n (formal_run x h)

  abbrev Tail : ℕ → Coded (List Formal)
  Tail n = sized (List Formal) tail_tell tail_starts tail_goes true tail_fits tail_run all_fit n

  abbrev Every : Coded (List Formal)
  Every = unbounded (List Formal) tail_tell tail_starts tail_goes true tail_fits tail_run all_fit

  nil_fits : (n : ℕ) → tail_fits n [] ≡ true
  unfolding tail_fits
  nil_fits n = refl

  only_nil : (list : List Formal) → is_nil list ≡ true → [] ≡ list
  only_nil [] e = refl
  only_nil (f ∷ list) e = absurd (false≢true e)

  abbrev Then : ℕ → Coded (Formal × List Formal)
  Then n = following Formal (List Formal) is_variable [] is_nil Each (Tail n)

  some_tail : (ts : List Token) (list : List Formal) (r : List Token) → Takes false (tail_tell list []) ts r → is_nil list ≡ false → one_of tail_starts ts ≡ true
  some_tail ts [] r s e = absurd (false≢true (sym e))
  some_tail [] (f ∷ list) r s e = absurd s
  some_tail (k ∷ ts) (f ∷ list) r s e = ap (λ n. is_in tail_starts n) (ap kind_code s.0.0)

  follow : Lawful Formal (formed Each) → (n : ℕ) → Follow Formal (List Formal) is_variable [] is_nil Each (Tail n)
  follow la n = record {
    solid = refl;
    free = refl;
    bare = λ r. refl;
    none_fits = nil_fits n;
    none_is = refl;
    only = only_nil;
    some = λ ts list r s e. some_tail ts list r s.0 e;
    whole = λ ts f r s e c. la.exact ts f r s (apart_sets tail_starts Each.goes refl (front_code r) c);
  }

  abbrev Next : ℕ → Coded (Option (Unit {0} × (Formal × List Formal)))
  Next n = optional (in_order (sign_form sign_of.Comma) (Then n))

  told_tail : (n : ℕ) (o : Option (Unit {0} × (Formal × List Formal))) (r : List Told) → tail_tell (or_no_formals o) r ≡ (Next n).tell o r
  told_tail n None r = refl
  told_tail n (Some (u, (f, list))) r = refl

  fit_tail : (n : ℕ) (o : Option (Unit {0} × (Formal × List Formal))) → tail_fits (suc n) (or_no_formals o) ≡ (Next n).fits o
  unfolding tail_fits
  fit_tail n None = refl
  fit_tail n (Some (u, (f, list))) = refl

  back_tail : (list : List Formal) → (o : Option (Unit {0} × (Formal × List Formal))) × (or_no_formals o ≡ list)
  back_tail [] = (None, refl)
  back_tail (f ∷ list) = (Some (tt, (f, list)), refl)

  only_none : (list : List Formal) → tail_fits 0 list ≡ true → [] ≡ list
  unfolding tail_fits
  only_none [] e = refl
  only_none (f ∷ list) e = absurd (false≢true e)

  tail_laws : Lawful Formal (formed Each) → (n : ℕ) → Lawful (List Formal) (formed (Tail n))
  unfolding formals_tail_run
  tail_laws la zero = idle_laws (List Formal) (Tail 0) [] (nil_fits 0) only_none (λ r. refl) refl
  tail_laws la (suc n) =
      widened_laws (List Formal) (made (Option (Unit {0} × (Formal × List Formal))) (List Formal) (Next n) or_no_formals tail_tell (tail_fits (suc n))) tail_starts tail_goes
      (made_laws (Option (Unit {0} × (Formal × List Formal))) (List Formal) (Next n) or_no_formals tail_tell (tail_fits (suc n))
      (optional_laws (Unit {0} × (Formal × List Formal)) (in_order (sign_form sign_of.Comma) (Then n))
      (in_order_laws (Unit {0}) (Formal × List Formal) (sign_form sign_of.Comma) (Then n) (sign_laws sign_of.Comma) (following_laws Formal (List Formal) is_variable [] is_nil Each (Tail n) la (tail_laws la n) (follow la n)) refl) refl)
      (same_makes (Option (Unit {0} × (Formal × List Formal))) (List Formal) (Next n) or_no_formals tail_tell (tail_fits (suc n)) (record { told = told_tail n; fit = fit_tail n; back = back_tail })))
      refl refl

  enough : (list : List Formal) (n : ℕ) → length list ≤ n → all_fit list ≡ true → tail_fits n list ≡ true
  unfolding tail_fits
  enough [] n e g = refl
  enough (f ∷ list) zero e g = absurd (omega (arith, e))
  enough (f ∷ list) (suc n) e g =
      let a = and_parts (Each.fits f) (all_fit list && (is_nil list || not (is_variable f))) g in
      let b = and_parts (all_fit list) (is_nil list || not (is_variable f)) a.1 in
      and_from (Each.fits f) (tail_fits n list && (is_nil list || not (is_variable f))) a.0 (and_from (tail_fits n list) (is_nil list || not (is_variable f)) (enough list n (omega (arith, e)) b.0) b.1)

  down : (n : ℕ) (list : List Formal) → tail_fits n list ≡ true → all_fit list ≡ true
  unfolding tail_fits
  down n [] g = refl
  down zero (f ∷ list) g = absurd (false≢true g)
  down (suc n) (f ∷ list) g =
      let a = and_parts (Each.fits f) (tail_fits n list && (is_nil list || not (is_variable f))) g in
      let b = and_parts (tail_fits n list) (is_nil list || not (is_variable f)) a.1 in
      and_from (Each.fits f) (all_fit list && (is_nil list || not (is_variable f))) a.0 (and_from (all_fit list) (is_nil list || not (is_variable f)) (down n list b.0) b.1)

  long_told : Lawful Formal (formed Each) → (list : List Formal) → all_fit list ≡ true → length list ≤ length (tail_tell list [])
  long_told la [] g = omega arith
  long_told la (f ∷ list) g =
      let a = and_parts (Each.fits f) (all_fit list && (is_nil list || not (is_variable f))) g in
      let b = and_parts (all_fit list) (is_nil list || not (is_variable f)) a.1 in
      let i = long_told la list b.0 in
      omega (arith, i, ap length (la.appends f (tail_tell list []) a.0), length-append (formal_tokens f []) (tail_tell list []))

  same_tail : (formal : Run Formal) → ((ts : List Token) → Good (λ f q. length q < length ts) (formal ts)) → ((ts : List Token) → Good (λ (u : Unit {0}) q. length q < length ts) (of_kind (sign_code sign_of.Comma) ts)) → (n k : ℕ) (ts : List Token) → length ts ≤ n → length ts ≤ k → formals_tail_run n formal ts ≡ formals_tail_run k formal ts
  unfolding formals_tail_run
  same_tail formal sf sc zero zero ts e g = refl
  same_tail formal sf sc zero (suc k) [] e g = refl
  same_tail formal sf sc zero (suc k) (t ∷ ts) e g = absurd (omega (arith, e))
  same_tail formal sf sc (suc n) zero [] e g = refl
  same_tail formal sf sc (suc n) zero (t ∷ ts) e g = absurd (omega (arith, g))
  same_tail formal sf sc (suc n) (suc k) ts e g =
      ap (λ (m : Read (Unit {0} × (Formal × List Formal))). becoming or_no_formals (perhaps_from ts m))
      (bind_same (of_kind (sign_code sign_of.Comma) ts) (λ a q. becoming (joined a) (followed is_variable [] formal (formals_tail_run n formal) q)) (λ a q. becoming (joined a) (followed is_variable [] formal (formals_tail_run k formal) q))
      (good_more (λ (u : Unit {0}) q. length q < length ts) _ (of_kind (sign_code sign_of.Comma) ts)
      (λ a q lt. ap (becoming (joined a))
      (bind_same (formal q) (unless is_variable [] (formals_tail_run n formal)) (unless is_variable [] (formals_tail_run k formal))
      (good_more (λ (f : Formal) p. length p < length q) _ (formal q)
      (λ f p lt'. ap (λ (m : Read (List Formal)). cond (is_variable f) (found (f, []) p) (becoming (joined f) m)) (same_tail formal sf sc n k p (omega (arith, lt, lt', e)) (omega (arith, lt, lt', g)))) (sf q))))
      (sc ts)))

  grows : Lawful Formal (formed Each) → Grows (List Formal) tail_tell tail_starts tail_goes true tail_fits tail_run all_fit
  grows la = record {
    lawful = tail_laws la;
    up = λ list g. (length list, enough list (length list) (omega arith) g);
    down = down;
    short = λ n ts list r s e. let i = long_told la list s.1 in enough list n (omega (arith, i, e, takes_length false (tail_tell list []) ts r s.0)) s.1;
    fuel = same_tail (formal_run x h) (takes_some Formal (formed Each) la refl) (takes_some (Unit {0}) (formed (sign_form sign_of.Comma)) (sign_laws sign_of.Comma) refl);
  }

  every_laws : Lawful Formal (formed Each) → Lawful (List Formal) (formed Every)
  every_laws la = unbounded_laws (List Formal) tail_tell tail_starts tail_goes true tail_fits tail_run all_fit (grows la)

-- Formals

base_bits : (m t a n : Bool) → ((m && t) && a) ≡ ((m && a) && (t && (true || n)))
base_bits m t a n = grind (arith, common_steps)

step_bits : (f m a n r : Bool) → ((f && m) && (a && n && r)) ≡ ((f && a) && ((m && r) && (false || n)))
step_bits f m a n r = grind (arith, common_steps)

module _ (x : Exprs) (h : ℕ) where
  abbrev AllThen : Coded (Formal × List Formal)
  AllThen = following Formal (List Formal) is_variable [] is_nil (Each x h) (Every x h)

  abbrev Enclosed : Coded (Unit {0} × (Option (Formal × List Formal) × Unit {0}))
  Enclosed = in_order (sign_form sign_of.LeftParen) (in_order (optional AllThen) (sign_form sign_of.RightParen))

  abbrev pub formals_fit : List Formal → Bool
  formals_fit list = nat_le (most (map formal_height list)) h && are_formals list

  abbrev formals_tell : List Formal → List Told → List Told
  formals_tell list r = sign sign_of.LeftParen ∷ commas (map formal_tokens list) (sign sign_of.RightParen ∷ r)

  abbrev pub formals_coded : Coded (List Formal)
  formals_coded = record { tell = formals_tell; fits = formals_fit; run = formals_run (formal_run x h); starts = sign_code sign_of.LeftParen ∷ []; goes = []; empties = false }

  fit_list : (f : Formal) (list : List Formal) → formals_fit (f ∷ list) ≡ AllThen.fits (f, list)
  fit_list f [] =
      ap (λ b. b && are_modifiers f.modifiers) (room_max (formal_height f) 0 h)
      ∙ base_bits (nat_le (formal_height f) h) (nat_le 0 h) (are_modifiers f.modifiers) (not f.variable_arity)
      ∙ ap (λ b. (nat_le (formal_height f) h && are_modifiers f.modifiers) && (b && true)) (room_above h)
  fit_list f (g ∷ list) =
      ap (λ b. b && (are_modifiers f.modifiers && not f.variable_arity && are_formals (g ∷ list))) (room_max (formal_height f) (most (map formal_height (g ∷ list))) h)
      ∙ step_bits (nat_le (formal_height f) h) (nat_le (most (map formal_height (g ∷ list))) h) (are_modifiers f.modifiers) (not f.variable_arity) (are_formals (g ∷ list))
      ∙ ap (λ b. (nat_le (formal_height f) h && are_modifiers f.modifiers) && (b && (false || not f.variable_arity))) (fit_list g list)

  told_formals : (p : Unit {0} × (Option (Formal × List Formal) × Unit {0})) (r : List Told) → formals_tell (formals_made p) r ≡ Enclosed.tell p r
  told_formals (u, (None, v)) r = refl
  told_formals (u, (Some (f, list), v)) r = refl

  fit_formals : (p : Unit {0} × (Option (Formal × List Formal) × Unit {0})) → formals_fit (formals_made p) ≡ Enclosed.fits p
  fit_formals (u, (None, v)) = ap (λ b. b && true) (room_above h)
  fit_formals (u, (Some (f, list), v)) = fit_list f list ∙ sym (and-true (AllThen.fits (f, list)))

  back_formals : (list : List Formal) → (p : Unit {0} × (Option (Formal × List Formal) × Unit {0})) × (formals_made p ≡ list)
  back_formals [] = ((tt, (None, tt)), refl)
  back_formals (f ∷ list) = ((tt, (Some (f, list), tt)), refl)

  follow_all : Lawful Formal (formed (Each x h)) → Follow Formal (List Formal) is_variable [] is_nil (Each x h) (Every x h)
  follow_all la = record {
    solid = refl;
    free = refl;
    bare = λ r. refl;
    none_fits = refl;
    none_is = refl;
    only = only_nil x h;
    some = λ ts list r s e. some_tail x h ts list r s.0 e;
    whole = λ ts f r s e c. la.exact ts f r s (apart_sets (tail_starts x h) (Each x h).goes refl (front_code r) c);
  }

  then_law : ExprLaws x → Law (Formal × List Formal) AllThen
  then_law lx =
      ⊎_elim (λ la. inl (following_laws Formal (List Formal) is_variable [] is_nil (Each x h) (Every x h) la (every_laws x h la) (follow_all la)))
      (λ v. inr (record {
        stops = λ ts. ap (λ (m : Read Formal). m >>= unless is_variable [] (Every x h).run) (v.stops ts);
        never = λ p. and_left ((Each x h).fits p.0) ((Every x h).fits p.1 && (is_nil p.1 || not (is_variable p.0))) (v.never p.0);
      }))
      (formal_law x lx h)

  pub formals_laws : ExprLaws x → Lawful (List Formal) (formed formals_coded)
  unfolding formals_run
  formals_laws lx =
      made_laws (Unit {0} × (Option (Formal × List Formal) × Unit {0})) (List Formal) Enclosed formals_made formals_tell formals_fit
      (in_order_laws (Unit {0}) (Option (Formal × List Formal) × Unit {0}) (sign_form sign_of.LeftParen) (in_order (optional AllThen) (sign_form sign_of.RightParen)) (sign_laws sign_of.LeftParen)
      (in_order_laws (Option (Formal × List Formal)) (Unit {0}) (optional AllThen) (sign_form sign_of.RightParen) (optional_law (Formal × List Formal) AllThen (then_law lx) refl) (sign_laws sign_of.RightParen) refl) refl)
      (same_makes (Unit {0} × (Option (Formal × List Formal) × Unit {0})) (List Formal) Enclosed formals_made formals_tell formals_fit (record { told = told_formals; fit = fit_formals; back = back_formals }))

-- Var

module _ (x : Exprs) where
  abbrev pub Given : ℕ → Coded (Unit {0} × Init)
  Given h = in_order (sign_form sign_of.Assign) (init_coded x h)

  pub given_law : ExprLaws x → (h : ℕ) → Law (Unit {0} × Init) (roomy h (Given h))
  given_law lx = roomy_law (Unit {0} × Init) Given (never_second (Unit {0}) Init (sign_form sign_of.Assign) (init_coded x 0) (λ i. and_left (nat_le (init_height i) 0) (is_init i) (init_tall i)))
      (λ h. in_order_laws (Unit {0}) Init (sign_form sign_of.Assign) (init_coded x (suc h)) (sign_laws sign_of.Assign) (lx.init h) refl)

  module _ (h : ℕ) where
    abbrev VarParts : Coded (Ident × (ℕ × Option (Unit {0} × Init)))
    VarParts = in_order ident_form (in_order dims_coded (optional (roomy h (Given h))))

    abbrev pub var_fits : Var → Bool
    var_fits v = nat_le (var_height v) h && is_var v

    abbrev pub var_coded : Coded Var
    var_coded = record { tell = var_tokens; fits = var_fits; run = var_run x h; starts = word_code ∷ []; goes = VarParts.goes; empties = false }

    told_var : (p : Ident × (ℕ × Option (Unit {0} × Init))) (r : List Told) → var_tokens (var_made p) r ≡ VarParts.tell p r
    told_var (name, (dims, None)) r = refl
    told_var (name, (dims, Some p)) r = refl

    fit_var : (p : Ident × (ℕ × Option (Unit {0} × Init))) → var_fits (var_made p) ≡ VarParts.fits p
    fit_var (name, (dims, None)) = ap (λ b. b && true) (room_above h)
    fit_var (name, (dims, Some p)) = refl

    back_var : (name : Ident) (dims : ℕ) (init : Option Init) → (p : Ident × (ℕ × Option (Unit {0} × Init))) × (var_made p ≡ record { name = name; dims = dims; init = init })
    back_var name dims None = ((name, (dims, None)), refl)
    back_var name dims (Some init) = ((name, (dims, Some (tt, init))), refl)

    pub var_laws : ExprLaws x → Lawful Var (formed var_coded)
    unfolding var_run
    var_laws lx =
        made_laws (Ident × (ℕ × Option (Unit {0} × Init))) Var VarParts var_made var_tokens var_fits
        (in_order_laws Ident (ℕ × Option (Unit {0} × Init)) ident_form (in_order dims_coded (optional (roomy h (Given h)))) ident_laws
        (in_order_laws ℕ (Option (Unit {0} × Init)) dims_coded (optional (roomy h (Given h))) dims_coded_laws (optional_law (Unit {0} × Init) (roomy h (Given h)) (given_law lx h) refl) refl) refl)
        (same_makes (Ident × (ℕ × Option (Unit {0} × Init))) Var VarParts var_made var_tokens var_fits (record { told = told_var; fit = fit_var; back = λ v. back_var v.name v.dims v.init }))

    -- Var {"," Var}
    abbrev pub vars_coded : Coded (Var × List (Unit {0} × Var))
    vars_coded = in_order var_coded (behind_each sign_of.Comma var_coded)

    pub vars_laws : ExprLaws x → Lawful (Var × List (Unit {0} × Var)) (formed vars_coded)
    vars_laws lx = in_order_laws Var (List (Unit {0} × Var)) var_coded (behind_each sign_of.Comma var_coded) (var_laws lx) (behind_each_laws Var sign_of.Comma var_coded (var_laws lx) refl refl) refl
