-- Members of declarations, and that they are read as they are to be.
use Rattle.std.proofs.Common.{◌≡◌, ℕ, ◌≤◌, Bool, true, false, List, [], ◌∷◌, ◌++◌, map, length, refl, sym, ap, ◌∙◌, subst, ⊎_elim, inl, arith}
use Rattle.std.proofs.Math.Bool.{and-true}
use Rattle.std.proofs.Math.Path.{fun_ext}
use Rattle.std.proofs.lemmas.Bool.{false≢true, false_from_ne_true, and_right, and_parts, or_cases, eqb-true}
use Rattle.std.specs.Prelude.{◌&&◌, ◌||◌, ◌==◌, nat_le}
use Rattle.jc_lexer.specs.declared.token.Key.TheVariants as key_of
use Rattle.jc_lexer.specs.declared.token.Sign.TheVariants as sign_of
use Rattle.jc_lexer.specs.declared.token.Token.{Token}
use Rattle.jc_tree.specs.declared.statement.Member.{Member, Member-F, out-Member, roll-Member, roll-out-Member}
use Rattle.jc_tree.specs.declared.statement.Member.TheVariants as member_of
use Rattle.jc_tree.specs.declared.statement.MethodHead.{MethodHead}
use Rattle.jc_tree.specs.declared.statement.Modifier.{Modifier}
use Rattle.jc_tree.specs.declared.statement.Modifier.TheVariants as modifier_of
use Rattle.jc_tree.specs.declared.statement.ModifierWord.TheVariants as word_of
use Rattle.jc_tree.specs.declared.statement.Stmt.{Stmt}
use Rattle.jc_tree.specs.Heights.{most, stmt_height, member_height}
use Rattle.jc_tree.proofs.HeightsOfStatements.{member_height-Semicolon, member_height-Initialiser}
use Rattle.jc_grammar.specs.Told.{Told, sign, sign_at, key_at}
use Rattle.jc_grammar.specs.Statements.{member_tokens}
use Rattle.jc_grammar.specs.Units.{has_result, is_member, is_method_head}
use Rattle.jc_grammar.proofs.ShapesOfStatements.{is_member-Bare, is_member-Initialiser, is_member-Semicolon}
use Rattle.jc_grammar.proofs.TokensOfStatements.{member_tokens-Initialiser_instance, member_tokens-Initialiser_static, member_tokens-Semicolon}
use Rattle.jc_reading.specs.Kinds.{kind_code, sign_code, key_code, is_in, front_code, one_of}
use Rattle.jc_reading.specs.Reading.{Read, Found, Stopped, as_new, becoming, joined, Takes}
use Rattle.jc_reading.specs.Further.{second_is}
use Rattle.jc_reading.proofs.Codes.{kind_is_key}
use Rattle.jc_reading.proofs.Coded.{Coded, formed, in_order, in_first, in_second, repeated, OfKind, kind_makes, made_laws, widened_laws}
use Rattle.jc_reading.proofs.Forms.{Lawful, Stands}
use Rattle.jc_reading.proofs.Lists.{fits_all}
use Rattle.jc_reading.proofs.Lowest.{Law, merged, merged_law, repeated_law}
use Rattle.jc_reading.proofs.Pairs.{cut}
use Rattle.jc_reading.proofs.Rooms.{room_above}
use Rattle.jc_reading.proofs.Seconds.{takes_first}
use Rattle.jc_reading.proofs.Signs.{apart_sets, key_at_laws}
use Rattle.jc_reading.proofs.Steps.{reach, reach_becoming}
use Rattle.jc_part_laws.specs.PartReading.{Exprs}
use Rattle.jc_part_laws.proofs.ExprForms.{ExprLaws}
use Rattle.jc_part_laws.proofs.HeadForms.{head_starts}
use Rattle.jc_part_laws.proofs.ModifierForms.{fit_modifiers, modifiers_form, modifiers_laws}
use Rattle.jc_part_laws.proofs.PartForms.{sign_form, sign_at_form, key_at_form}
use Rattle.jc_unit_laws.specs.UnitReading.{Braces, Level, PlacedBraces}
use Rattle.jc_unit_laws.specs.MemberReading.{MemberRest, instance_made, member_run, rest_codes, static_made}
use Rattle.jc_unit_laws.proofs.Bundles.{has, a_sign, a_sign_at, a_key_at, then_a, lawful_by}
use Rattle.jc_unit_laws.proofs.MemberKinds.{MemberLayer, is_moded, member_fits, moded_parts, moded_member_coded, moded_member_laws}
use Rattle.jc_unit_laws.proofs.MemberRests.{RestLaws, behind_modifiers, behind_modifiers_laws, code_codes, head_in, moded, no_modifier, rest_apart, rest_starts}
use Rattle.jc_unit_laws.proofs.RestForms.{member_codes, member_coded}
use Rattle.jc_unit_laws.proofs.SecondsMerged.{by_two, by_two_laws}
use Rattle.jc_unit_laws.proofs.SimpleStatements.{LevelLaws, item_coded, item_law, items_fit, told_items}
use Rattle.jc_unit_laws.proofs.TryClauses.{Braced, braced_has, told_braced}
use Rattle.jc_unit_laws.proofs.WordStatements.{reach_order}

abbrev is_semicolon : MemberLayer → Bool
is_semicolon (Member-F.Semicolon at) = true
is_semicolon _ = false

abbrev is_instance : MemberLayer → Bool
is_instance (Member-F.Initialiser at false items) = true
is_instance _ = false

abbrev is_static : MemberLayer → Bool
is_static (Member-F.Initialiser at true items) = true
is_static _ = false

abbrev brace_codes : List ℕ
brace_codes = sign_code sign_of.LeftBrace ∷ []

module _ (x : Exprs) (h : ℕ) (l : Level) where
  abbrev fits_of : (MemberLayer → Bool) → Member → Bool
  fits_of kind m = kind (out-Member m) && member_fits x h l m

  -- ";"

  abbrev Semicolons : Coded Member
  Semicolons = record { tell = member_tokens; fits = fits_of is_semicolon; run = as_new member_of.Semicolon (sign_at_form sign_of.Semicolon).run; starts = sign_code sign_of.Semicolon ∷ []; goes = []; empties = false }

  back_semicolon : (m : Member) (layer : MemberLayer) → out-Member m ≡ layer → is_semicolon layer ≡ true → (at : ℕ) × (member_of.Semicolon at ≡ m)
  back_semicolon m (Member-F.Semicolon at) e g = (at, sym (member_of.rolls-Semicolon at) ∙ ap roll-Member (sym e) ∙ roll-out-Member m)
  back_semicolon m _ e g = absurd (false≢true g)

  fit_semicolon : (at : ℕ) → member_fits x h l (member_of.Semicolon at) ≡ true
  fit_semicolon at = ap (λ n. nat_le n h && is_member (member_of.Semicolon at)) (member_height-Semicolon at) ∙ ap (λ b. nat_le 0 h && b) (is_member-Semicolon at) ∙ ap (λ b. b && true) (room_above h)

  semicolons_laws : Lawful Member (formed Semicolons)
  semicolons_laws =
      made_laws ℕ Member (sign_at_form sign_of.Semicolon) member_of.Semicolon member_tokens (fits_of is_semicolon) (a_sign_at sign_of.Semicolon).laws
      (kind_makes ℕ Member (sign_at_form sign_of.Semicolon) member_of.Semicolon member_tokens (λ m. is_semicolon (out-Member m)) (member_fits x h l)
      (record { told = λ at r. member_tokens-Semicolon at r; fit = fit_semicolon; is_kind = λ at. ap is_semicolon (member_of.outs-Semicolon at); back = λ m g. back_semicolon m (out-Member m) refl g }))

  -- a block that each instance runs, or the class once

  fit_initialiser : (at : ℕ) (is_static : Bool) (items : List Stmt) → member_fits x h l (member_of.Initialiser at is_static items) ≡ (fits_all (item_coded h l).fits items && true)
  fit_initialiser at is_static items =
      ap (λ n. nat_le n h && is_member (member_of.Initialiser at is_static items)) (member_height-Initialiser at is_static items)
      ∙ ap (λ b. nat_le (most (map stmt_height items)) h && b) (is_member-Initialiser at is_static items)
      ∙ items_fit x h l items ∙ sym (and-true (fits_all (item_coded h l).fits items))

  abbrev Block : Coded (PlacedBraces Stmt)
  Block = in_order (sign_at_form sign_of.LeftBrace) (in_order (repeated (item_coded h l)) (sign_form sign_of.RightBrace))

  abbrev Instances : Coded Member
  Instances = record { tell = member_tokens; fits = fits_of is_instance; run = as_new instance_made Block.run; starts = brace_codes; goes = []; empties = false }

  back_instance : (m : Member) (layer : MemberLayer) → out-Member m ≡ layer → is_instance layer ≡ true → (p : PlacedBraces Stmt) × (instance_made p ≡ m)
  back_instance m (Member-F.Initialiser at false items) e g = ((at, (items, tt)), sym (member_of.rolls-Initialiser at false items) ∙ ap roll-Member (sym e) ∙ roll-out-Member m)
  back_instance m _ e g = absurd (false≢true g)

  instances_laws : LevelLaws h l → Lawful Member (formed Instances)
  instances_laws f =
      made_laws (PlacedBraces Stmt) Member Block instance_made member_tokens (fits_of is_instance)
      (then_a (a_sign_at sign_of.LeftBrace) (then_a (has (repeated (item_coded h l)) (repeated_law Stmt (item_coded h l) (item_law h l f) refl refl)) (a_sign sign_of.RightBrace) refl) refl).laws
      (kind_makes (PlacedBraces Stmt) Member Block instance_made member_tokens (λ m. is_instance (out-Member m)) (member_fits x h l)
      (record {
        told = λ p r. member_tokens-Initialiser_instance p.0 p.1.0 r ∙ ap (λ (t : List Told). sign_at sign_of.LeftBrace p.0 ∷ t) (told_items p.1.0 (sign sign_of.RightBrace ∷ r));
        fit = λ p. fit_initialiser p.0 false p.1.0;
        is_kind = λ p. ap is_instance (member_of.outs-Initialiser p.0 false p.1.0);
        back = λ m g. back_instance m (out-Member m) refl g;
      }))

  abbrev StaticBlock : Coded (ℕ × Braces Stmt)
  StaticBlock = in_order (key_at_form key_of.Static) (Braced h l)

  abbrev Statics : Coded Member
  Statics = record { tell = member_tokens; fits = fits_of is_static; run = as_new static_made StaticBlock.run; starts = key_code key_of.Static ∷ []; goes = []; empties = false }

  back_static : (m : Member) (layer : MemberLayer) → out-Member m ≡ layer → is_static layer ≡ true → (p : ℕ × Braces Stmt) × (static_made p ≡ m)
  back_static m (Member-F.Initialiser at true items) e g = ((at, (tt, (items, tt))), sym (member_of.rolls-Initialiser at true items) ∙ ap roll-Member (sym e) ∙ roll-out-Member m)
  back_static m _ e g = absurd (false≢true g)

  told_static : (p : ℕ × Braces Stmt) (r : List Told) → member_tokens (static_made p) r ≡ StaticBlock.tell p r
  told_static p r = member_tokens-Initialiser_static p.0 p.1.1.0 r ∙ ap (λ (t : List Told). key_at key_of.Static p.0 ∷ t) (told_braced h l p.1 r)

  static_kind : OfKind (ℕ × Braces Stmt) Member StaticBlock static_made member_tokens (λ m. is_static (out-Member m)) (member_fits x h l)
  static_kind = record {
    told = told_static;
    fit = λ p. fit_initialiser p.0 true p.1.1.0;
    is_kind = λ p. ap is_static (member_of.outs-Initialiser p.0 true p.1.1.0);
    back = λ m g. back_static m (out-Member m) refl g;
  }

  statics_laws : LevelLaws h l → Lawful Member (formed Statics)
  statics_laws f =
      made_laws (ℕ × Braces Stmt) Member StaticBlock static_made member_tokens (fits_of is_static) (then_a (a_key_at key_of.Static) (braced_has h l f) refl).laws
      (kind_makes (ℕ × Braces Stmt) Member StaticBlock static_made member_tokens (λ m. is_static (out-Member m)) (member_fits x h l) static_kind)

  -- "static" and "{" stand before nothing else

  static_parts : (ts : List Token) (m : Member) (r : List Token) → Stands (formed Statics) ts m r → (p : ℕ × Braces Stmt) × Stands (formed StaticBlock) ts p r
  static_parts ts m r s =
      let makes = kind_makes (ℕ × Braces Stmt) Member StaticBlock static_made member_tokens (λ n. is_static (out-Member n)) (member_fits x h l) static_kind in
      let w = makes.back m s.1 in
      (w.0, (subst (λ (t : List Told). Takes false t ts r) (ap (λ (n : Member). member_tokens n []) (sym w.1) ∙ told_static w.0 []) s.0, w.2))

  static_there : (ts : List Token) (m : Member) (r : List Token) → Stands (formed Statics) ts m r → second_is (key_code key_of.Static) brace_codes ts ≡ true
  static_there ts m r s = let w = static_parts ts m r s in there ts w.0 w.1
    where
      there : (ts : List Token) (p : ℕ × Braces Stmt) → Stands (formed StaticBlock) ts p r → second_is (key_code key_of.Static) brace_codes ts ≡ true
      there [] p s = absurd s.0
      there (t ∷ []) p s = absurd s.0.1
      there (t ∷ u ∷ us) p s = ap (λ n. (n == key_code key_of.Static) && one_of brace_codes (u ∷ us)) (ap kind_code s.0.0.0) ∙ ap (λ n. is_in brace_codes n) (ap kind_code s.0.1.0.0)

  static_passes : (t : Token) (ts : List Token) → kind_code t.kind ≡ key_code key_of.Static → reach (Statics.run (t ∷ ts)) ≤ length ts
  static_passes t ts e =
      let near = takes_first ℕ (formed (key_at_form key_of.Static)) (key_at_laws key_of.Static) refl t [] t.from [] (((kind_is_key t.kind key_of.Static e, refl, λ q. absurd (false≢true q), λ q. absurd (false≢true q)), refl), refl) ts in
      let less = reach_order ((key_at_form key_of.Static).run (t ∷ ts)) (λ a q. becoming (joined a) ((Braced h l).run q)) in
      let same : reach (Statics.run (t ∷ ts)) ≡ reach (StaticBlock.run (t ∷ ts)) = reach_becoming static_made (StaticBlock.run (t ∷ ts)) in
      omega (arith, near, less, same)

  -- one modifier
  stands_static : (t : Token) (r : List Token) → kind_code t.kind ≡ key_code key_of.Static → Stands (modifiers_form x h) (t ∷ r) (modifier_of.Word t.from word_of.Static ∷ []) r
  stands_static t r e = (
    ((kind_is_key t.kind key_of.Static e, refl, λ q. absurd (false≢true q), λ q. absurd (false≢true q)), refl),
    fit_modifiers x h (modifier_of.Word t.from word_of.Static ∷ []) ∙ ap (λ b. (b && true) && true) (room_above h),
  )

  rest_in : (ts : List Token) → rest_starts x h l ts ≡ true → one_of (rest_codes ++ code_codes x h l) ts ≡ true
  rest_in ts e = ⊎_elim (λ d. in_first rest_codes (code_codes x h l) (front_code ts) (head_in ts d)) (λ c. in_second rest_codes (code_codes x h l) (front_code ts) c) (or_cases (head_starts ts) (one_of (code_codes x h l) ts) e)

  -- all kinds together

  or_none : (g : Bool) → (g || false) ≡ g
  or_none true = refl
  or_none false = refl

  implied : (b g : Bool) → (g ≡ true → b ≡ true) → (b && g) ≡ g
  implied true g f = refl
  implied false true f = absurd (false≢true (f refl))
  implied false false f = refl

  abbrev any_kind : MemberLayer → Bool → Bool
  any_kind layer g = (is_semicolon layer && g) || ((is_instance layer && g) || ((is_static layer && g) || (is_moded layer && g)))

  -- a method without a body has a result
  bare_result : (m : Member) → member_fits x h l m ≡ true → (head : MethodHead) → out-Member m ≡ Member-F.Bare head → has_result head ≡ true
  bare_result m g head e =
      let same : m ≡ member_of.Bare head = sym (roll-out-Member m) ∙ ap roll-Member e ∙ member_of.rolls-Bare head in
      let good = (and_parts (nat_le (member_height m) h) (is_member m) g).1 in
      (and_parts (is_method_head head) (has_result head) (sym (is_member-Bare head) ∙ ap is_member (sym same) ∙ good)).1

  by_kind : (m : Member) (layer : MemberLayer) → out-Member m ≡ layer → any_kind layer (member_fits x h l m) ≡ member_fits x h l m
  by_kind m (Member-F.Semicolon at) e = or_none (member_fits x h l m)
  by_kind m (Member-F.Initialiser at true items) e = or_none (member_fits x h l m)
  by_kind m (Member-F.Initialiser at false items) e = or_none (member_fits x h l m)
  by_kind m (Member-F.Fields vars) e = refl
  by_kind m (Member-F.Bare head) e = implied (has_result head) (member_fits x h l m) (λ g. bare_result m g head e)
  by_kind m (Member-F.Method head items) e = refl
  by_kind m (Member-F.Nested d) e = refl

  abbrev Behind : Coded Member
  Behind = by_two (key_code key_of.Static) brace_codes Statics (moded_member_coded x h l)

  abbrev All : Coded Member
  All = merged (sign_code sign_of.Semicolon ∷ []) Semicolons (merged brace_codes Instances Behind)

module _ (x : Exprs) (lx : ExprLaws x) (h : ℕ) (l : Level) (f : LevelLaws h l) (lr : RestLaws h l) where
  static_apart : (ts : List Token) (m : Member) (r : List Token) → Stands (formed (moded_member_coded x h l)) ts m r → second_is (key_code key_of.Static) brace_codes ts ≡ false
  static_apart ts m r s = let w = moded_parts x lx h l f lr ts m r s in false_from_ne_true (second_is (key_code key_of.Static) brace_codes ts) (λ e. clash ts w.0 w.1 e)
    where
      rest_or : List Token → Read (List Modifier) → List Token
      rest_or d (Found b q n) = q
      rest_or d (Stopped n) = d

      clash : (ts : List Token) (p : List Modifier × MemberRest) → Stands (moded x lx h l f lr) ts p r → second_is (key_code key_of.Static) brace_codes ts ≡ true → ⊥
      clash [] p s e = false≢true e
      clash (t ∷ []) p s e = false≢true (sym (and_right (kind_code t.kind == key_code key_of.Static) false refl) ∙ e)
      clash (t ∷ u ∷ us) p s e =
          let a = and_parts (kind_code t.kind == key_code key_of.Static) (one_of brace_codes (u ∷ us)) e in
          let lm = modifiers_laws x h lx in
          let lb = behind_modifiers_laws x lx h l f lr p.0 in
          let c = cut (List Modifier) MemberRest (modifiers_form x h) (behind_modifiers x h l p.0) lm lb (rest_apart x lx h l f lr) (t ∷ u ∷ us) p r s in
          let begun : rest_starts x h l c.0 ≡ true = ⊎_elim (λ o. o.0) (λ o. absurd (false≢true o.1)) (lb.opens c.0 p.1 r c.2) in
          let one = lm.exact (t ∷ u ∷ us) (modifier_of.Word t.from word_of.Static ∷ []) (u ∷ us) (stands_static x h l t (u ∷ us) (eqb-true (kind_code t.kind) (key_code key_of.Static) a.0)) (no_modifier brace_codes (u ∷ us) refl refl a.1) in
          let two = lm.exact (t ∷ u ∷ us) p.0 c.0 c.1 (rest_apart x lx h l f lr c.0 begun) in
          let same : (u ∷ us) ≡ c.0 = ap (λ (v : Read (List Modifier)). rest_or c.0 v) (sym one.1 ∙ two.1) in
          false≢true (sym (apart_sets brace_codes (rest_codes ++ code_codes x h l) refl (front_code (u ∷ us)) a.1) ∙ rest_in x h l (u ∷ us) (subst (λ (v : List Token). rest_starts x h l v ≡ true) (sym same) begun))

  behind_laws : Lawful Member (formed (Behind x h l))
  behind_laws =
      by_two_laws Member (key_code key_of.Static) brace_codes (Statics x h l) (moded_member_coded x h l) (statics_laws x h l f) (moded_member_laws x lx h l f lr)
      (record { solid = refl; solid' = refl; this = static_there x h l; that = static_apart; passes = static_passes x h l }) (λ m r. refl)

  all_law : Law Member (All x h l)
  all_law =
      merged_law Member (sign_code sign_of.Semicolon ∷ []) (Semicolons x h l) (merged brace_codes (Instances x h l) (Behind x h l)) (inl (semicolons_laws x h l))
      (merged_law Member brace_codes (Instances x h l) (Behind x h l) (inl (instances_laws x h l f)) (inl behind_laws) (record { solid = refl; solid' = refl; this = refl; that = refl }) (λ m r. refl))
      (record { solid = refl; solid' = refl; this = refl; that = refl }) (λ m r. refl)

  pub member_laws : Lawful Member (formed (member_coded x h l))
  unfolding member_run
  member_laws =
      let la = lawful_by (All x h l) (member_of.Semicolon 0) (by_kind x h l (member_of.Semicolon 0) (out-Member (member_of.Semicolon 0)) refl ∙ fit_semicolon x h l 0) all_law in
      subst (λ (g : Member → Bool). Lawful Member (formed (record { tell = member_tokens; fits = g; run = member_run x h l; starts = member_codes; goes = []; empties = false }))) (fun_ext (λ m. by_kind x h l m (out-Member m) refl))
      (widened_laws Member (All x h l) member_codes [] la refl refl)
