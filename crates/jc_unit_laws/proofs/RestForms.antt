-- Declarations of types behind their modifiers, where their members are read as they are to be.
use Rattle.std.proofs.Common.{◌≡◌, ℕ, suc, max, Bool, true, false, List, [], ◌∷◌, map, refl, sym, ap, ◌∙◌, subst, ⊎_elim, arith}
use Rattle.std.proofs.lemmas.Bool.{false≢true}
use Rattle.std.proofs.Math.Path.{fun_ext}
use Rattle.std.proofs.lemmas.Grind.{common_steps}
use Rattle.std.specs.Prelude.{◌&&◌, ◌||◌, nat_le}
use Rattle.jc_lexer.specs.declared.token.Key.TheVariants as key_of
use Rattle.jc_lexer.specs.declared.token.Sign.TheVariants as sign_of
use Rattle.jc_lexer.specs.declared.token.Token.{Token}
use Rattle.jc_tree.specs.declared.statement.Member.{Member}
use Rattle.jc_tree.specs.declared.statement.Modifier.{Modifier}
use Rattle.jc_tree.specs.Heights.{most, head_height, declaration_height, member_height}
use Rattle.jc_tree.proofs.HeightsOfStatements.{declaration_height-made}
use Rattle.jc_grammar.specs.Told.{Told, sign, each}
use Rattle.jc_grammar.specs.Parts.{modifiers_tokens}
use Rattle.jc_grammar.specs.Shapes.{all_true}
use Rattle.jc_grammar.specs.Statements.{declaration_tokens, member_tokens, braced}
use Rattle.jc_grammar.specs.Units.{is_declaration, is_head, is_member}
use Rattle.jc_grammar.proofs.ShapesOfStatements.{is_declaration-made}
use Rattle.jc_grammar.proofs.TokensOfStatements.{declaration_tokens-made}
use Rattle.jc_reading.specs.Kinds.{sign_code, key_code, word_code, front_code}
use Rattle.jc_reading.specs.Reading.{Run}
use Rattle.jc_reading.proofs.Forms.{Form, Lawful}
use Rattle.jc_reading.proofs.Lists.{tell_all, fits_all}
use Rattle.jc_reading.proofs.Pairs.{pair, pair_laws}
use Rattle.jc_reading.proofs.Retests.{retested_laws}
use Rattle.jc_reading.proofs.Rooms.{room_above, room_suc, room_max}
use Rattle.jc_reading.proofs.Signs.{apart_sets}
use Rattle.jc_part_laws.specs.PartReading.{Exprs, HeadRest, head_made}
use Rattle.jc_part_laws.proofs.AnnotationForms.{room_and, all_mapped}
use Rattle.jc_part_laws.proofs.Bools.{swap_four}
use Rattle.jc_reading.proofs.Coded.{Coded, formed, in_order, repeated}
use Rattle.jc_part_laws.proofs.HeadForms.{head_rest_form, head_rest_laws, head_starts, head_goes, fit_head, told_head}
use Rattle.jc_part_laws.proofs.ModifierForms.{modifier_codes, modifiers_fit}
use Rattle.jc_part_laws.proofs.PartForms.{sign_form}
use Rattle.jc_unit_laws.specs.UnitReading.{Level, Braces, DeclarationRest, declaration_made}
use Rattle.jc_unit_laws.specs.MemberReading.{member_run, rest_run}
use Rattle.jc_unit_laws.proofs.Bundles.{has, a_sign, then_a, any_of}

-- where a member may begin
abbrev pub member_codes : List ℕ
member_codes =
    sign_code sign_of.Semicolon ∷ sign_code sign_of.LeftBrace ∷ key_code key_of.Class ∷ key_code key_of.Interface ∷ sign_code sign_of.Less ∷ key_code key_of.Void ∷ word_code
    ∷ key_code key_of.Boolean ∷ key_code key_of.Byte ∷ key_code key_of.Short ∷ key_code key_of.Char ∷ key_code key_of.Int ∷ key_code key_of.Long ∷ modifier_codes

-- the tokens of a declaration without its modifiers
abbrev pub rest_tell : DeclarationRest → List Told → List Told
rest_tell p r = declaration_tokens (declaration_made [] p) r

-- a declaration behind its modifiers, at most so high
abbrev pub rest_form : ℕ → Run DeclarationRest → Form DeclarationRest
rest_form h run = record { tell = rest_tell; fits = λ p. nat_le (declaration_height (declaration_made [] p)) h && is_declaration (declaration_made [] p); run = run; starts = head_starts; goes_on = λ ts. false; empties = false }

module _ (x : Exprs) (h : ℕ) (l : Level) where
  abbrev pub member_coded : Coded Member
  member_coded = record { tell = member_tokens; fits = λ m. nat_le (member_height m) h && is_member m; run = member_run x h l; starts = member_codes; goes = []; empties = false }

  abbrev Members : Coded (Braces Member)
  Members = in_order (sign_form sign_of.LeftBrace) (in_order (repeated member_coded) (sign_form sign_of.RightBrace))

  abbrev Both : Form DeclarationRest
  Both = pair HeadRest (Braces Member) (head_rest_form h) (formed Members)

  told_members : (members : List Member) (r : List Told) → each (map member_tokens members) r ≡ tell_all member_tokens members r
  told_members [] r = refl
  told_members (m ∷ members) r = ap (member_tokens m) (told_members members r)

  -- the tokens with modifiers
  pub told_declaration : (modifiers : List Modifier) (p : DeclarationRest) (r : List Told) → declaration_tokens (declaration_made modifiers p) r ≡ modifiers_tokens modifiers (Both.tell p r)
  told_declaration modifiers (rest, (u, (members, v))) r =
      declaration_tokens-made (head_made modifiers rest) members r
      ∙ told_head x h modifiers rest (braced (map member_tokens members) r)
      ∙ ap (λ (t : List Told). modifiers_tokens modifiers ((head_rest_form h).tell rest (sign sign_of.LeftBrace ∷ t))) (told_members members (sign sign_of.RightBrace ∷ r))

  members_fit : (members : List Member) → (nat_le (most (map member_height members)) h && all_true (map is_member members)) ≡ fits_all member_coded.fits members
  members_fit members = ap (λ b. nat_le (most (map member_height members)) h && b) (all_mapped is_member members) ∙ room_and member_height is_member h members

  -- heights and shapes with modifiers
  pub fit_declaration : (modifiers : List Modifier) (p : DeclarationRest) → (nat_le (declaration_height (declaration_made modifiers p)) (suc h) && is_declaration (declaration_made modifiers p)) ≡ (modifiers_fit x h modifiers && Both.fits p)
  fit_declaration modifiers (rest, (u, (members, v))) =
      ap (λ n. nat_le n (suc h) && is_declaration (declaration_made modifiers (rest, (u, (members, v))))) (declaration_height-made (head_made modifiers rest) members)
      ∙ ap (λ b. nat_le (suc (max (head_height (head_made modifiers rest)) (most (map member_height members)))) (suc h) && b) (is_declaration-made (head_made modifiers rest) members)
      ∙ ap (λ b. b && (is_head (head_made modifiers rest) && all_true (map is_member members))) (room_suc (max (head_height (head_made modifiers rest)) (most (map member_height members))) h ∙ room_max (head_height (head_made modifiers rest)) (most (map member_height members)) h)
      ∙ swap_four (nat_le (head_height (head_made modifiers rest)) h) (nat_le (most (map member_height members)) h) (is_head (head_made modifiers rest)) (all_true (map is_member members))
      ∙ ap (λ b. b && (nat_le (most (map member_height members)) h && all_true (map is_member members))) (fit_head x h modifiers rest)
      ∙ ap (λ b. (modifiers_fit x h modifiers && (head_rest_form h).fits rest) && b) (members_fit members)
      ∙ bits (modifiers_fit x h modifiers) ((head_rest_form h).fits rest) (fits_all member_coded.fits members)
    where
      bits : (m r a : Bool) → ((m && r) && a) ≡ (m && (r && (true && (a && true))))
      bits m r a = grind (arith, common_steps)

  no_modifiers : modifiers_fit x h [] ≡ true
  no_modifiers = ap (λ b. b && true) (room_above h)

  pub rest_is : (p : DeclarationRest) → Both.fits p ≡ (rest_form (suc h) (rest_run x h l)).fits p
  rest_is p = sym (fit_declaration [] p ∙ ap (λ b. b && Both.fits p) no_modifiers)

  both_laws : Lawful Member (formed member_coded) → Lawful DeclarationRest Both
  both_laws lm =
      pair_laws HeadRest (Braces Member) (head_rest_form h) (formed Members) (head_rest_laws h)
      (then_a (a_sign sign_of.LeftBrace) (then_a (any_of (has member_coded lm) refl refl) (a_sign sign_of.RightBrace) refl) refl).laws
      (λ ts e. apart_sets (sign_code sign_of.LeftBrace ∷ []) head_goes refl (front_code ts) e)

  abbrev Shown : (DeclarationRest → List Told → List Told) → (DeclarationRest → Bool) → Form DeclarationRest
  Shown tell fits = record { tell = tell; fits = fits; run = rest_run x h l; starts = Both.starts; goes_on = Both.goes_on; empties = Both.empties }

  shown_laws : Lawful Member (formed member_coded) → Lawful DeclarationRest (Shown Both.tell Both.fits)
  unfolding rest_run
  shown_laws lm = both_laws lm

  pub rest_laws : Lawful Member (formed member_coded) → Lawful DeclarationRest (rest_form (suc h) (rest_run x h l))
  rest_laws lm =
      let la = subst (λ (t : DeclarationRest → List Told → List Told). Lawful DeclarationRest (Shown t (rest_form (suc h) (rest_run x h l)).fits)) (fun_ext (λ p. fun_ext (λ r. sym (told_declaration [] p r))))
      (subst (λ (f : DeclarationRest → Bool). Lawful DeclarationRest (Shown Both.tell f)) (fun_ext rest_is) (shown_laws lm)) in
      retested_laws DeclarationRest (Shown rest_tell (rest_form (suc h) (rest_run x h l)).fits) head_starts (λ ts. false) la
      (record { opens = λ ts p r s lt. opens ts (⊎_elim (λ o. o.0) (λ o. absurd (false≢true o.1)) (la.opens ts p r s)); refuses = λ ts e. la.refuses ts (back ts e); goes_too = λ ts e. e })
    where
      opens : (ts : List Token) → Both.starts ts ≡ true → head_starts ts ≡ true
      opens ts e = alone (head_starts ts) e
        where
          alone : (b : Bool) → (b || false) ≡ true → b ≡ true
          alone true e = refl
          alone false e = e

      back : (ts : List Token) → head_starts ts ≡ false → Both.starts ts ≡ false
      back ts e = alone (head_starts ts) e
        where
          alone : (b : Bool) → b ≡ false → (b || false) ≡ false
          alone true e = e
          alone false e = e
