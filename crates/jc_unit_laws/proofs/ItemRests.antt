-- Statements with modifiers: declarations of types, which may have none, and variables, which have some.
use Rattle.std.proofs.Common.{◌≡◌, ℕ, suc, Bool, true, false, List, [], ◌∷◌, ◌++◌, length, refl, sym, ap, ◌∙◌, subst, ⊎_elim, inl, inr, arith}
use Rattle.std.proofs.lemmas.Bool.{false≢true, and_from, and_parts, or_cases, or_from, or_left, or_right, or_parts, cond_both, cases_Bool}
use Rattle.std.proofs.Math.Path.{fun_ext}
use Rattle.std.specs.Prelude.{◌&&◌, ◌||◌, nat_le}
use Rattle.jc_lexer.specs.declared.token.Token.{Token}
use Rattle.jc_tree.specs.declared.types.TypeTree.{TypeTree}
use Rattle.jc_tree.specs.declared.statement.Declaration.{Declaration}
use Rattle.jc_tree.specs.declared.statement.LocalVars.{LocalVars}
use Rattle.jc_tree.specs.declared.statement.Modifier.{Modifier}
use Rattle.jc_tree.specs.declared.statement.Modifier.TheVariants as modifier_of
use Rattle.jc_tree.specs.declared.statement.Stmt.{Stmt, Stmt-F, out-Stmt, roll-Stmt, roll-out-Stmt}
use Rattle.jc_tree.specs.declared.statement.Stmt.TheVariants as stmt_of
use Rattle.jc_tree.specs.Heights.{declaration_height, local_height}
use Rattle.jc_tree.proofs.HeightsOfStatements.{stmt_height-Declared, stmt_height-Local}
use Rattle.jc_grammar.specs.Told.{Told}
use Rattle.jc_grammar.specs.Parts.{modifiers_tokens}
use Rattle.jc_grammar.specs.Statements.{stmt_tokens}
use Rattle.jc_grammar.specs.Units.{StmtShape, stmt_shape}
use Rattle.jc_grammar.proofs.ShapesOfStatements.{stmt_shape-Declared, stmt_shape-Local}
use Rattle.jc_grammar.proofs.TokensOfStatements.{stmt_tokens-Declared, stmt_tokens-Local}
use Rattle.jc_reading.specs.Kinds.{front_code, one_of}
use Rattle.jc_reading.specs.Reading.{Read, Found, Stopped, Either, This, That, Takes, becoming, joined, noting, ◌>>=◌}
use Rattle.jc_reading.proofs.Alikes.{alike_laws}
use Rattle.jc_reading.proofs.Choices.{tell_either}
use Rattle.jc_reading.proofs.Coded.{Coded, formed, coded, coded_laws, in_order, in_first, in_second, one_or, Apart}
use Rattle.jc_reading.proofs.Depends.{depending, depending_laws}
use Rattle.jc_reading.proofs.Forms.{Form, Lawful, Stands}
use Rattle.jc_reading.proofs.Lowest.{Law, in_order_law, one_or_law}
use Rattle.jc_reading.proofs.Pairs.{cut}
use Rattle.jc_reading.proofs.Retests.{retested_laws}
use Rattle.jc_reading.proofs.Rooms.{room_above}
use Rattle.jc_reading.proofs.Steps.{Refuses, takes_length}
use Rattle.jc_part_laws.specs.PartReading.{Exprs}
use Rattle.jc_part_laws.proofs.ExprForms.{ExprLaws}
use Rattle.jc_part_laws.proofs.HeadForms.{head_starts}
use Rattle.jc_part_laws.proofs.ModifierForms.{modifier_starts, modifier_codes, modifiers_fit, modifiers_form, modifiers_laws}
use Rattle.jc_part_laws.proofs.PartForms.{type_coded, type_law}
use Rattle.jc_unit_laws.specs.UnitReading.{DeclarationRest, Level, Variables, declaration_made, moded_made, variables_made}
use Rattle.jc_unit_laws.specs.MemberReading.{item_rest_run, moded_item_run, rest_codes, rest_run}
use Rattle.jc_unit_laws.proofs.Bundles.{lawful_by}
use Rattle.jc_unit_laws.proofs.MemberKinds.{back_declaration}
use Rattle.jc_unit_laws.proofs.MemberRests.{head_in, head_apart, mod_in, modifiers_go, no_modifier}
use Rattle.jc_unit_laws.proofs.RestForms.{fit_declaration, rest_form, rest_is, rest_tell, told_declaration}
use Rattle.jc_unit_laws.proofs.SimpleStatements.{Layer, good_at, good_made}
use Rattle.jc_unit_laws.proofs.WordStatements.{Declares, back_variables, declares_laws, fit_local, has_modifiers, told_local}

pub refuses_becoming : {A B : Type 0} (ts : List Token) (f : A → B) (m : Read A) → Refuses false ts m → Refuses false ts (becoming f m)
refuses_becoming ts f (Found a r l) h = absurd (false≢true h.0)
refuses_becoming ts f (Stopped l) h = refl

refuses_noting : {A : Type 0} (ts : List Token) (k : ℕ) (m : Read A) → Refuses false ts m → Refuses false ts (noting k m)
refuses_noting ts k (Found a r l) h = absurd (false≢true h.0)
refuses_noting ts k (Stopped l) h = refl

abbrev Item : Type 0
Item = Either DeclarationRest (TypeTree × Variables)

module _ (x : Exprs) (h : ℕ) (l : Level) where
  abbrev pub Rest : Form DeclarationRest
  Rest = rest_form (suc h) (rest_run x h l)

  abbrev TypedVars : Coded (TypeTree × Variables)
  TypedVars = in_order (type_coded h) (Declares x h)

  typed_vars_law : ExprLaws x → Law (TypeTree × Variables) TypedVars
  typed_vars_law lx = in_order_law TypeTree Variables (type_coded h) (Declares x h) (type_law h) (declares_laws x h lx) refl

  abbrev item_fits : List Modifier → Item → Bool
  item_fits modifiers (This p) = Rest.fits p
  item_fits [] (That p) = false
  item_fits (m ∷ modifiers) (That p) = TypedVars.fits p

  abbrev item_starts : List Token → Bool
  item_starts ts = head_starts ts || one_of TypedVars.starts ts

  abbrev behind_item : List Modifier → Form Item
  behind_item modifiers = record { tell = tell_either rest_tell TypedVars.tell; fits = item_fits modifiers; run = item_rest_run x h l modifiers; starts = item_starts; goes_on = λ ts. false; empties = false }

  bare_laws : Lawful DeclarationRest Rest → Lawful Item (behind_item [])
  bare_laws lr =
      alike_laws DeclarationRest Item Rest This (tell_either rest_tell TypedVars.tell) (item_fits []) item_starts (λ ts. false) lr
      (record { told = λ p r g. refl; forth = λ p g. g; back = back; starts_too = λ ts e. or_left (head_starts ts) (one_of TypedVars.starts ts) e; goes_too = λ ts e. e })
    where
      back : (o : Item) → item_fits [] o ≡ true → (p : DeclarationRest) × (This p ≡ o) × (Rest.fits p ≡ true)
      back (This p) g = (p, refl, g)
      back (That p) g = absurd (false≢true g)

  abbrev Declared : Coded DeclarationRest
  Declared = coded Rest rest_codes []

  abbrev Chosen : Coded Item
  Chosen = one_or rest_codes Declared TypedVars

  some_laws : ExprLaws x → Lawful DeclarationRest Rest → (m : Modifier) (modifiers : List Modifier) → Lawful Item (behind_item (m ∷ modifiers))
  some_laws lx lr m modifiers =
      let ld = coded_laws DeclarationRest Rest rest_codes [] lr head_in (λ ts e. absurd (false≢true e)) in
      let la = lawful_by Chosen (This lr.least.value) (lr.least.spelled []).1 (one_or_law DeclarationRest (TypeTree × Variables) rest_codes Declared TypedVars apart (inl ld) (typed_vars_law lx)) in
      retested_laws Item (record { tell = tell_either rest_tell TypedVars.tell; fits = item_fits (m ∷ modifiers); run = Chosen.run; starts = one_of Chosen.starts; goes_on = λ ts. false; empties = false }) item_starts (λ ts. false) (known la)
      (record { opens = λ ts o r s lt. opens ts o r s; refuses = refuses; goes_too = λ ts e. e })
    where
      apart : Apart DeclarationRest (TypeTree × Variables) rest_codes Declared TypedVars
      apart = record { solid = refl; solid' = refl; this = refl; that = refl }

      same_fits : (o : Item) → Chosen.fits o ≡ item_fits (m ∷ modifiers) o
      same_fits (This p) = refl
      same_fits (That p) = refl

      known : Lawful Item (formed Chosen) → Lawful Item (record { tell = tell_either rest_tell TypedVars.tell; fits = item_fits (m ∷ modifiers); run = Chosen.run; starts = one_of Chosen.starts; goes_on = λ ts. false; empties = false })
      known la = subst (λ (f : Item → Bool). Lawful Item (record { tell = tell_either rest_tell TypedVars.tell; fits = f; run = Chosen.run; starts = one_of Chosen.starts; goes_on = λ ts. false; empties = false })) (fun_ext same_fits) la

      opens : (ts : List Token) (o : Item) (r : List Token) → Takes false (tell_either rest_tell TypedVars.tell o []) ts r × (item_fits (m ∷ modifiers) o ≡ true) → item_starts ts ≡ true
      opens ts (This p) r s = or_left (head_starts ts) (one_of TypedVars.starts ts) (⊎_elim (λ o. o.0) (λ o. absurd (false≢true o.1)) (lr.opens ts p r s))
      opens ts (That p) r s =
          or_right (head_starts ts) (one_of TypedVars.starts ts)
          (⊎_elim (λ lv. ⊎_elim (λ o. o.0) (λ o. absurd (false≢true o.1)) (lv.opens ts p r s)) (λ v. absurd (false≢true (sym (v.never p) ∙ s.1))) (typed_vars_law lx))

      stops_vars : (ts : List Token) → one_of TypedVars.starts ts ≡ false → Law (TypeTree × Variables) TypedVars → Refuses false ts (TypedVars.run ts)
      stops_vars ts e (inl lv) = lv.refuses ts e
      stops_vars ts e (inr v) = subst (λ (r : Read (TypeTree × Variables)). Refuses false ts r) (sym (v.stops ts)) refl

      refuses : (ts : List Token) → item_starts ts ≡ false → Refuses false ts (Chosen.run ts)
      refuses ts e =
          let p = or_parts (head_starts ts) (one_of TypedVars.starts ts) e in
          cond_both (one_of rest_codes ts) (becoming This (rest_run x h l ts)) (becoming That (TypedVars.run ts)) (λ r. Refuses false ts r)
          (λ t. refuses_becoming ts This (rest_run x h l ts) (lr.refuses ts p.0)) (λ t. refuses_becoming ts That (TypedVars.run ts) (stops_vars ts p.1 (typed_vars_law lx)))

  behind_laws : ExprLaws x → Lawful DeclarationRest Rest → (modifiers : List Modifier) → Lawful Item (behind_item modifiers)
  behind_laws lx lr [] = bare_laws lr
  behind_laws lx lr (m ∷ modifiers) = some_laws lx lr m modifiers

  abbrev Items : Form (List Modifier × Item)
  Items = depending (List Modifier) Item (modifiers_form x h) behind_item item_starts (λ ts. false)

  item_apart : (ts : List Token) → item_starts ts ≡ true → modifiers_go ts ≡ false
  item_apart ts e = ⊎_elim (head_apart ts) (no_modifier TypedVars.starts ts refl refl) (or_cases (head_starts ts) (one_of TypedVars.starts ts) e)

  items_read : ExprLaws x → Lawful DeclarationRest Rest → Lawful (List Modifier × Item) Items
  items_read lx lr =
      depending_laws (List Modifier) Item (modifiers_form x h) behind_item item_starts (λ ts. false) (modifiers_laws x h lx) (behind_laws lx lr)
      (record { solid = λ m. refl; begun = λ m ts e. e; going = λ m ts e. e; meet = item_apart })

  -- modifiers begin, or a declaration
  abbrev moded_starts : List Token → Bool
  moded_starts ts = modifier_starts ts || head_starts ts

  abbrev Moded : Form (List Modifier × Item)
  Moded = record { tell = Items.tell; fits = Items.fits; run = Items.run; starts = moded_starts; goes_on = λ ts. false; empties = false }

  moded_read : ExprLaws x → Lawful DeclarationRest Rest → Lawful (List Modifier × Item) Moded
  moded_read lx lr =
      retested_laws (List Modifier × Item) Items moded_starts (λ ts. false) (items_read lx lr) (record { opens = λ ts p r s lt. opens ts p r s; refuses = refuses; goes_too = λ ts e. e })
    where
      lm : Lawful (List Modifier) (modifiers_form x h)
      lm = modifiers_laws x h lx

      opens : (ts : List Token) (p : List Modifier × Item) (r : List Token) → Stands Items ts p r → moded_starts ts ≡ true
      opens ts ([], This p) r s = or_right (modifier_starts ts) (head_starts ts) (⊎_elim (λ o. o.0) (λ o. absurd (false≢true o.1)) (lr.opens ts p r (s.0, (and_parts (modifiers_fit x h []) (Rest.fits p) s.1).1)))
      opens ts ([], That p) r s = absurd (false≢true (and_parts (modifiers_fit x h []) false s.1).1)
      opens ts (m ∷ modifiers, o) r s =
          or_left (modifier_starts ts) (head_starts ts)
          (let c = cut (List Modifier) Item (modifiers_form x h) (behind_item (m ∷ modifiers)) lm (behind_laws lx lr (m ∷ modifiers)) item_apart ts (m ∷ modifiers, o) r s in some_there ts c.0 c.1)
        where
          some_there : (ts q : List Token) → Stands (modifiers_form x h) ts (m ∷ modifiers) q → modifier_starts ts ≡ true
          some_there ts q t = ⊎_elim (λ o. o.0) (λ o. absurd (takes_none ts q (first_told m modifiers) t.0 o.0)) (lm.opens ts (m ∷ modifiers) q t)
            where
              first_told : (m : Modifier) (modifiers : List Modifier) → (d : Told) × (list : List Told) × (modifiers_tokens (m ∷ modifiers) [] ≡ (d ∷ list))
              first_told (modifier_of.Annotation a) modifiers = (_, _, refl)
              first_told (modifier_of.Word at word) modifiers = (_, _, refl)

              takes_none : (ts q : List Token) → ((d : Told) × (list : List Told) × (modifiers_tokens (m ∷ modifiers) [] ≡ (d ∷ list))) → Takes false (modifiers_tokens (m ∷ modifiers) []) ts q → ts ≡ q → ⊥
              takes_none ts q w t e = omega (arith, takes_length false (w.0 ∷ w.1) ts q (subst (λ (v : List Told). Takes false v ts q) w.2 t), ap length e)

      refuses : (ts : List Token) → moded_starts ts ≡ false → Refuses false ts (Items.run ts)
      refuses ts e =
          let p = or_parts (modifier_starts ts) (head_starts ts) e in
          ⊎_elim (λ t. bare ts p.1 (no_modifier TypedVars.starts ts refl refl t)) (λ t. (items_read lx lr).refuses ts (or_from (modifier_starts ts) (true && item_starts ts) p.0 (or_from (head_starts ts) (one_of TypedVars.starts ts) p.1 t)))
          (cases_Bool (one_of TypedVars.starts ts))
        where
          bare : (ts : List Token) → head_starts ts ≡ false → modifiers_go ts ≡ false → Refuses false ts (Items.run ts)
          bare ts n g =
              let none = lm.exact ts [] ts (refl, ap (λ b. b && true) (room_above h)) g in
              subst (λ (m : Read (List Modifier)). Refuses false ts (m >>= (λ a q. becoming (joined a) (item_rest_run x h l a q)))) (sym none.1)
              (refuses_noting ts none.0 _ (refuses_becoming ts (joined []) _ (refuses_becoming ts This (rest_run x h l ts) (lr.refuses ts n))))

-- as statements

abbrev pub is_moded_item : Layer → Bool
is_moded_item (Stmt-F.Declared d) = true
is_moded_item (Stmt-F.Local vars) = has_modifiers vars.modifiers
is_moded_item _ = false

back_item : (s : Stmt) (layer : Layer) → out-Stmt s ≡ layer → is_moded_item layer ≡ true → (p : List Modifier × Item) × (moded_made p ≡ s)
back_item s (Stmt-F.Declared d) e g = let w = back_declaration d in ((w.0, This w.1), ap (λ (v : Declaration). stmt_of.Declared v) w.2 ∙ sym (stmt_of.rolls-Declared d) ∙ ap roll-Stmt (sym e) ∙ roll-out-Stmt s)
back_item s (Stmt-F.Local vars) e g = let w = back_variables vars in ((vars.modifiers, That (vars.ty, w.0)), ap (λ (v : LocalVars). stmt_of.Local v) w.1 ∙ sym (stmt_of.rolls-Local vars) ∙ ap roll-Stmt (sym e) ∙ roll-out-Stmt s)
back_item s _ e g = absurd (false≢true g)

module _ (x : Exprs) (h : ℕ) (l : Level) where
  fit_declared : (modifiers : List Modifier) (p : DeclarationRest) → good_at h (moded_made (modifiers, This p)) ≡ (modifiers_fit x h modifiers && (Rest x h l).fits p)
  fit_declared modifiers p =
      ap (λ n. nat_le n (suc h) && (stmt_shape (moded_made (modifiers, This p))).good) (stmt_height-Declared (declaration_made modifiers p))
      ∙ ap (λ (g : StmtShape). nat_le (declaration_height (declaration_made modifiers p)) (suc h) && g.good) (stmt_shape-Declared (declaration_made modifiers p))
      ∙ fit_declaration x h l modifiers p ∙ ap (λ b. modifiers_fit x h modifiers && b) (rest_is x h l p)

  fit_variables : (modifiers : List Modifier) (p : TypeTree × Variables) → good_at h (moded_made (modifiers, That p)) ≡ (modifiers_fit x h modifiers && (TypedVars x h l).fits p)
  fit_variables modifiers (ty, vars) =
      good_made h (stmt_of.Local (variables_made modifiers ty vars.0)) (local_height (variables_made modifiers ty vars.0)) _ (stmt_height-Local (variables_made modifiers ty vars.0)) (stmt_shape-Local (variables_made modifiers ty vars.0))
      ∙ fit_local x h modifiers ty vars

  told_item : (p : List Modifier × Item) (r : List Told) → stmt_tokens (moded_made p) r ≡ (Items x h l).tell p r
  told_item (modifiers, This p) r =
      stmt_tokens-Declared (declaration_made modifiers p) r ∙ told_declaration x h l modifiers p r ∙ ap (λ (t : List Told). modifiers_tokens modifiers t) (sym (told_declaration x h l [] p r))
  told_item (modifiers, That (ty, vars)) r = stmt_tokens-Local (variables_made modifiers ty vars.0) r ∙ told_local x h modifiers ty vars r

  abbrev moded_item_fits : Stmt → Bool
  moded_item_fits s = is_moded_item (out-Stmt s) && good_at h s

  forth_item : (p : List Modifier × Item) → (Items x h l).fits p ≡ true → moded_item_fits (moded_made p) ≡ true
  forth_item (modifiers, This p) g = and_from (is_moded_item (out-Stmt (moded_made (modifiers, This p)))) (good_at h (moded_made (modifiers, This p))) (ap is_moded_item (stmt_of.outs-Declared (declaration_made modifiers p))) (fit_declared modifiers p ∙ g)
  forth_item ([], That p) g = absurd (false≢true (and_parts (modifiers_fit x h []) false g).1)
  forth_item (m ∷ modifiers, That (ty, vars)) g =
      and_from (is_moded_item (out-Stmt (moded_made (m ∷ modifiers, That (ty, vars))))) (good_at h (moded_made (m ∷ modifiers, That (ty, vars)))) (ap is_moded_item (stmt_of.outs-Local (variables_made (m ∷ modifiers) ty vars.0))) (fit_variables (m ∷ modifiers) (ty, vars) ∙ g)

  -- fits where what is made of it does
  fits_back : (p : List Modifier × Item) → is_moded_item (out-Stmt (moded_made p)) ≡ true → good_at h (moded_made p) ≡ true → (Items x h l).fits p ≡ true
  fits_back (modifiers, This p) k g = sym (fit_declared modifiers p) ∙ g
  fits_back ([], That (ty, vars)) k g = absurd (false≢true (sym (ap is_moded_item (stmt_of.outs-Local (variables_made [] ty vars.0))) ∙ k))
  fits_back (m ∷ modifiers, That p) k g = sym (fit_variables (m ∷ modifiers) p) ∙ g

  abbrev pub moded_item_coded : Coded Stmt
  moded_item_coded = record { tell = stmt_tokens; fits = moded_item_fits; run = moded_item_run x h l; starts = modifier_codes ++ rest_codes; goes = []; empties = false }

  abbrev PlainItem : Form Stmt
  PlainItem = record { tell = stmt_tokens; fits = moded_item_fits; run = moded_item_run x h l; starts = moded_starts x h l; goes_on = λ ts. false; empties = false }

  plain_item_laws : ExprLaws x → Lawful DeclarationRest (Rest x h l) → Lawful Stmt PlainItem
  unfolding moded_item_run
  plain_item_laws lx lr =
      alike_laws (List Modifier × Item) Stmt (Moded x h l) moded_made stmt_tokens moded_item_fits (moded_starts x h l) (λ ts. false) (moded_read x h l lx lr)
      (record {
        told = λ p r g. told_item p r;
        forth = forth_item;
        back = λ s g.
            let a = and_parts (is_moded_item (out-Stmt s)) (good_at h s) g in
            let w = back_item s (out-Stmt s) refl a.0 in
            (w.0, w.1, fits_back w.0 (ap (λ (v : Stmt). is_moded_item (out-Stmt v)) w.1 ∙ a.0) (ap (good_at h) w.1 ∙ a.1));
        starts_too = λ ts e. e;
        goes_too = λ ts e. e;
      })

  pub moded_item_laws : ExprLaws x → Lawful DeclarationRest (Rest x h l) → Lawful Stmt (formed moded_item_coded)
  moded_item_laws lx lr =
      coded_laws Stmt PlainItem (modifier_codes ++ rest_codes) [] (plain_item_laws lx lr)
      (λ ts e. ⊎_elim (λ t. in_first modifier_codes rest_codes (front_code ts) (mod_in ts t)) (λ t. in_second modifier_codes rest_codes (front_code ts) (head_in ts t)) (or_cases (modifier_starts ts) (head_starts ts) e))
      (λ ts e. absurd (false≢true e))
