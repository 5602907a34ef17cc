-- What stands behind the modifiers of a member: a declaration of a type, where the modifiers leave room for one, or a method, a constructor or
-- fields.
use Rattle.std.proofs.Common.{◌≡◌, ℕ, zero, suc, Bool, true, false, List, [], ◌∷◌, map, refl, sym, ap, ◌∙◌, subst, ⊎_elim}
use Rattle.std.proofs.Math.Path.{fun_ext}
use Rattle.std.proofs.lemmas.Bool.{false≢true, false_from_ne_true, and_parts, and_right, or_cases, or_from, or_right, or_parts, cond-true, cond-false, cases_Bool}
use Rattle.std.specs.Prelude.{◌&&◌, ◌||◌}
use Rattle.jc_lexer.specs.declared.token.Key.TheVariants as key_of
use Rattle.jc_lexer.specs.declared.token.Sign.TheVariants as sign_of
use Rattle.jc_lexer.specs.declared.token.Token.{Token}
use Rattle.jc_tree.specs.declared.statement.Modifier.{Modifier}
use Rattle.jc_tree.specs.Heights.{most, modifier_height}
use Rattle.jc_reading.specs.Kinds.{sign_code, key_code, word_code, front_code, one_of}
use Rattle.jc_reading.specs.Reading.{Run, as_new, Either, This, That, either, rest_of}
use Rattle.jc_reading.proofs.Forms.{Form, Lawful}
use Rattle.jc_reading.proofs.Choices.{choice, choice_laws, tell_either, fits_either}
use Rattle.jc_reading.proofs.Coded.{formed, made, made_laws}
use Rattle.jc_reading.proofs.Depends.{depending, depending_laws}
use Rattle.jc_reading.proofs.Lowest.{rerun}
use Rattle.jc_reading.proofs.Retests.{retested_laws}
use Rattle.jc_reading.proofs.Rooms.{room_none}
use Rattle.jc_reading.proofs.Signs.{none_common, apart_sets, within_sets}
use Rattle.jc_part_laws.specs.PartReading.{Exprs, modifier_word_codes}
use Rattle.jc_part_laws.proofs.ExprForms.{ExprLaws}
use Rattle.jc_part_laws.proofs.HeadForms.{head_starts, at_interface}
use Rattle.jc_part_laws.proofs.ModifierForms.{modifier_starts, modifier_codes, modifiers_form, modifiers_laws}
use Rattle.jc_unit_laws.specs.UnitReading.{Level, DeclarationRest}
use Rattle.jc_unit_laws.specs.MemberReading.{GenericRest, NamedRest, MemberRest, rest_codes, is_low, code_rest_run, member_rest_run, generic_run, named_run, void_method_run, constructor_run, constructor_items_run, method_tail_run, field_tail_run}
use Rattle.jc_unit_laws.proofs.MethodForms.{CodeRest, code_rest_laws}
use Rattle.jc_unit_laws.proofs.RestForms.{rest_form, rest_tell}
use Rattle.jc_unit_laws.proofs.SimpleStatements.{LevelLaws}

-- declarations of a height are read as they are to be
abbrev pub RestLaws : ℕ → Level → Type 0
RestLaws zero l = Unit {0}
RestLaws (suc k) l = Lawful DeclarationRest (rest_form (suc k) l.rest)

-- where a declaration begins there is no modifier

pub head_in : (ts : List Token) → head_starts ts ≡ true → one_of rest_codes ts ≡ true
head_in ts e =
    ⊎_elim (λ c. within_sets (key_code key_of.Class ∷ []) rest_codes refl (front_code ts) c)
    (λ o. ⊎_elim (λ i. within_sets (key_code key_of.Interface ∷ []) rest_codes refl (front_code ts) i)
    (λ a. within_sets (sign_code sign_of.At ∷ []) rest_codes refl (front_code ts) (and_parts (one_of (sign_code sign_of.At ∷ []) ts) _ a).0)
    (or_cases (one_of (key_code key_of.Interface ∷ []) ts) (at_interface ts) o))
    (or_cases (one_of (key_code key_of.Class ∷ []) ts) (one_of (key_code key_of.Interface ∷ []) ts || at_interface ts) e)

abbrev going_codes : List ℕ
going_codes = sign_code sign_of.LeftParen ∷ sign_code sign_of.Dot ∷ []

abbrev pub modifiers_go : List Token → Bool
modifiers_go ts = modifier_starts ts || one_of going_codes ts

pub mod_in : (ts : List Token) → modifier_starts ts ≡ true → one_of modifier_codes ts ≡ true
mod_in ts t =
    ⊎_elim (λ a. within_sets (sign_code sign_of.At ∷ []) modifier_codes refl (front_code ts) (and_parts (one_of (sign_code sign_of.At ∷ []) ts) _ a).0)
    (λ w. within_sets modifier_word_codes modifier_codes refl (front_code ts) w)
    (or_cases (one_of (sign_code sign_of.At ∷ []) ts && one_of (word_code ∷ []) (rest_of ts)) (one_of modifier_word_codes ts) t)

-- no modifier where one of these stands
pub no_modifier : (codes : List ℕ) (ts : List Token) → none_common codes modifier_codes ≡ true → none_common codes going_codes ≡ true → one_of codes ts ≡ true → modifiers_go ts ≡ false
no_modifier codes ts n m e =
    or_from (modifier_starts ts) (one_of going_codes ts)
    (false_from_ne_true (modifier_starts ts) (λ t. false≢true (sym (apart_sets codes modifier_codes n (front_code ts) e) ∙ mod_in ts t)))
    (apart_sets codes going_codes m (front_code ts) e)

pub head_apart : (ts : List Token) → head_starts ts ≡ true → modifiers_go ts ≡ false
head_apart ts e =
    ⊎_elim (λ c. no_modifier (key_code key_of.Class ∷ []) ts refl refl c)
    (λ o. ⊎_elim (λ i. no_modifier (key_code key_of.Interface ∷ []) ts refl refl i) (λ a. annotated a)
    (or_cases (one_of (key_code key_of.Interface ∷ []) ts) (at_interface ts) o))
    (or_cases (one_of (key_code key_of.Class ∷ []) ts) (one_of (key_code key_of.Interface ∷ []) ts || at_interface ts) e)
  where
    annotated : at_interface ts ≡ true → modifiers_go ts ≡ false
    annotated a =
        let p = and_parts (one_of (sign_code sign_of.At ∷ []) ts) (one_of (key_code key_of.Interface ∷ []) (rest_of ts)) a in
        or_from (modifier_starts ts) (one_of going_codes ts)
        (or_from (one_of (sign_code sign_of.At ∷ []) ts && one_of (word_code ∷ []) (rest_of ts)) (one_of modifier_word_codes ts)
        (and_right (one_of (sign_code sign_of.At ∷ []) ts) (one_of (word_code ∷ []) (rest_of ts)) (apart_sets (key_code key_of.Interface ∷ []) (word_code ∷ []) refl (front_code (rest_of ts)) p.1))
        (apart_sets (sign_code sign_of.At ∷ []) modifier_word_codes refl (front_code ts) p.0))
        (apart_sets (sign_code sign_of.At ∷ []) going_codes refl (front_code ts) p.0)

module _ (x : Exprs) (h : ℕ) (l : Level) where
  abbrev Code : Type 0
  Code = Either GenericRest NamedRest

  abbrev pub code_codes : List ℕ
  code_codes = (CodeRest x h l).starts

  code_read : ExprLaws x → LevelLaws h l → Lawful Code (formed (rerun (CodeRest x h l) (code_rest_run x h l)))
  unfolding generic_run named_run void_method_run constructor_run constructor_items_run method_tail_run field_tail_run
  code_read lx f = code_rest_laws x lx h l f

  abbrev pub rest_starts : List Token → Bool
  rest_starts ts = head_starts ts || one_of code_codes ts

  abbrev pub rest_fits_behind : List Modifier → MemberRest → Bool
  rest_fits_behind modifiers (This p) = is_low h modifiers && (rest_form h l.rest).fits p
  rest_fits_behind modifiers (That c) = (CodeRest x h l).fits c

  -- behind modifiers
  abbrev pub behind_modifiers : List Modifier → Form MemberRest
  behind_modifiers modifiers = record { tell = tell_either rest_tell (CodeRest x h l).tell; fits = rest_fits_behind modifiers; run = member_rest_run x h l modifiers; starts = rest_starts; goes_on = λ ts. false; empties = false }

  abbrev Either_rest : Form MemberRest
  Either_rest = choice DeclarationRest Code rest_codes (rest_form h l.rest) (formed (rerun (CodeRest x h l) (code_rest_run x h l)))

  abbrev with_reading : (MemberRest → Bool) → Run MemberRest → Form MemberRest
  with_reading fits run = record { tell = tell_either rest_tell (CodeRest x h l).tell; fits = fits; run = run; starts = rest_starts; goes_on = λ ts. false; empties = false }

  abbrev fits_low : MemberRest → Bool
  fits_low rest = fits_either (rest_form h l.rest).fits (CodeRest x h l).fits rest

  low_laws : Lawful DeclarationRest (rest_form h l.rest) → Lawful Code (formed (rerun (CodeRest x h l) (code_rest_run x h l))) → Lawful MemberRest (with_reading fits_low Either_rest.run)
  low_laws lr lc =
      let la = choice_laws DeclarationRest Code rest_codes (rest_form h l.rest) (formed (rerun (CodeRest x h l) (code_rest_run x h l))) lr lc
      (record { solid = refl; solid' = refl; this = head_in; that = λ ts e. apart_sets code_codes rest_codes refl (front_code ts) e }) in
      retested_laws MemberRest Either_rest rest_starts (λ ts. false) la
      (record { opens = λ ts p r s lt. ⊎_elim (λ o. o.0) (λ o. absurd (false≢true o.1)) (la.opens ts p r s); refuses = la.refuses; goes_too = λ ts e. e })

  abbrev fits_high : MemberRest → Bool
  fits_high (This p) = false
  fits_high (That c) = (CodeRest x h l).fits c

  high_laws : Lawful Code (formed (rerun (CodeRest x h l) (code_rest_run x h l))) → Lawful MemberRest (with_reading fits_high (as_new That (code_rest_run x h l)))
  high_laws lc =
      let mine = made Code MemberRest (rerun (CodeRest x h l) (code_rest_run x h l)) That (tell_either rest_tell (CodeRest x h l).tell) fits_high in
      let la = made_laws Code MemberRest (rerun (CodeRest x h l) (code_rest_run x h l)) That (tell_either rest_tell (CodeRest x h l).tell) fits_high lc (record { told = λ a r g. refl; forth = λ a g. g; back = back }) in
      retested_laws MemberRest (formed mine) rest_starts (λ ts. false) la
      (record {
        opens = λ ts p r s lt. or_right (head_starts ts) (one_of code_codes ts) (⊎_elim (λ o. o.0) (λ o. absurd (false≢true o.1)) (la.opens ts p r s));
        refuses = λ ts e. la.refuses ts (or_parts (head_starts ts) (one_of code_codes ts) e).1;
        goes_too = λ ts e. e;
      })
    where
      back : (o : MemberRest) → fits_high o ≡ true → (c : Code) × (That c ≡ o) × ((CodeRest x h l).fits c ≡ true)
      back (This p) g = absurd (false≢true g)
      back (That c) g = (c, refl, g)

  low_there : (modifiers : List Modifier) → is_low h modifiers ≡ true → (o : MemberRest) → fits_low o ≡ rest_fits_behind modifiers o
  low_there modifiers t (This p) = ap (λ b. b && (rest_form h l.rest).fits p) (sym t)
  low_there modifiers t (That c) = refl

  high_there : (modifiers : List Modifier) → is_low h modifiers ≡ false → (o : MemberRest) → fits_high o ≡ rest_fits_behind modifiers o
  high_there modifiers t (This p) = ap (λ b. b && (rest_form h l.rest).fits p) (sym t)
  high_there modifiers t (That c) = refl

  refitted : (fits other : MemberRest → Bool) (run another : Run MemberRest) → ((o : MemberRest) → fits o ≡ other o) → ((ts : List Token) → run ts ≡ another ts) → Lawful MemberRest (with_reading fits run) → Lawful MemberRest (with_reading other another)
  refitted fits other run another e f la = subst (λ (m : Run MemberRest). Lawful MemberRest (with_reading other m)) (fun_ext f) (subst (λ (g : MemberRest → Bool). Lawful MemberRest (with_reading g run)) (fun_ext e) la)

room_there : (h : ℕ) (l : Level) → RestLaws h l → (modifiers : List Modifier) → is_low h modifiers ≡ true → Lawful DeclarationRest (rest_form h l.rest)
room_there zero l u modifiers e = absurd (false≢true (sym (room_none (most (map modifier_height modifiers))) ∙ e))
room_there (suc k) l la modifiers e = la

module _ (x : Exprs) (lx : ExprLaws x) (h : ℕ) (l : Level) (f : LevelLaws h l) (lr : RestLaws h l) where
  pub behind_modifiers_laws : (modifiers : List Modifier) → Lawful MemberRest (behind_modifiers x h l modifiers)
  behind_modifiers_laws modifiers =
      ⊎_elim
      (λ t. refitted x h l (fits_low x h l) (rest_fits_behind x h l modifiers) (either rest_codes l.rest (code_rest_run x h l)) (member_rest_run x h l modifiers) (low_there x h l modifiers t)
      (λ ts. sym (cond-true (is_low h modifiers) (either rest_codes l.rest (code_rest_run x h l) ts) (as_new That (code_rest_run x h l) ts) t)) (low_laws x h l (room_there h l lr modifiers t) (code_read x h l lx f)))
      (λ t. refitted x h l (fits_high x h l) (rest_fits_behind x h l modifiers) (as_new That (code_rest_run x h l)) (member_rest_run x h l modifiers) (high_there x h l modifiers t)
      (λ ts. sym (cond-false (is_low h modifiers) (either rest_codes l.rest (code_rest_run x h l) ts) (as_new That (code_rest_run x h l) ts) t)) (high_laws x h l (code_read x h l lx f)))
      (cases_Bool (is_low h modifiers))

  -- modifiers, and what stands behind them
  abbrev pub moded : Form (List Modifier × MemberRest)
  moded = depending (List Modifier) MemberRest (modifiers_form x h) (behind_modifiers x h l) (rest_starts x h l) (λ ts. false)

  pub rest_apart : (ts : List Token) → rest_starts x h l ts ≡ true → modifiers_go ts ≡ false
  rest_apart ts e = ⊎_elim (head_apart ts) (no_modifier (code_codes x h l) ts refl refl) (or_cases (head_starts ts) (one_of (code_codes x h l) ts) e)

  pub moded_laws : Lawful (List Modifier × MemberRest) moded
  moded_laws =
      depending_laws (List Modifier) MemberRest (modifiers_form x h) (behind_modifiers x h l) (rest_starts x h l) (λ ts. false) (modifiers_laws x h lx) behind_modifiers_laws
      (record { solid = λ m. refl; begun = λ m ts e. e; going = λ m ts e. e; meet = rest_apart })
