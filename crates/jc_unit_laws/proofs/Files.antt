-- The form of source files, and that they are read as they are to be.
use Rattle.std.proofs.Common.{◌≡◌, ℕ, zero, suc, Bool, true, false, List, [], ◌∷◌, ◌++◌, map, Option, Some, None, refl, sym, ap, ◌∙◌, subst, ⊎_elim, inl}
use Rattle.std.proofs.Math.Path.{fun_ext}
use Rattle.std.proofs.lemmas.Bool.{false≢true, or_cases}
use Rattle.std.specs.Prelude.{◌&&◌, ◌||◌, nat_le}
use Rattle.jc_lexer.specs.declared.token.Sign.TheVariants as sign_of
use Rattle.jc_lexer.specs.declared.token.Token.{Token}
use Rattle.jc_tree.specs.declared.statement.Declaration.{Declaration}
use Rattle.jc_tree.specs.declared.statement.Import.{Import}
use Rattle.jc_tree.specs.declared.statement.Modifier.{Modifier}
use Rattle.jc_tree.specs.declared.statement.Package.{Package}
use Rattle.jc_tree.specs.declared.statement.SourceFile.{SourceFile}
use Rattle.jc_tree.specs.declared.statement.TopLevel.{TopLevel}
use Rattle.jc_tree.specs.declared.statement.TopLevel.TheVariants as top_of
use Rattle.jc_tree.specs.Heights.{most, top_height}
use Rattle.jc_tree.proofs.HeightsOfStatements.{declaration_height-parts}
use Rattle.jc_grammar.specs.Told.{Told, each}
use Rattle.jc_grammar.specs.Parts.{if_some, modifiers_tokens}
use Rattle.jc_grammar.specs.Statements.{file_tokens, import_tokens, package_tokens, top_tokens}
use Rattle.jc_grammar.specs.Units.{is_declaration, is_file, is_top}
use Rattle.jc_reading.specs.Kinds.{sign_code, front_code}
use Rattle.jc_reading.specs.Reading.{Run, as_new, in_turn}
use Rattle.jc_reading.proofs.Alikes.{alike_laws}
use Rattle.jc_reading.proofs.Coded.{Coded, formed, coded_laws, in_first, in_order, in_second, optional, repeated, made_laws, same_makes, widened_laws}
use Rattle.jc_reading.proofs.Forms.{Form, Lawful}
use Rattle.jc_reading.proofs.Lists.{fits_all, tell_all}
use Rattle.jc_reading.proofs.Lowest.{merged, merged_law}
use Rattle.jc_reading.proofs.Options.{fits_some, tell_some}
use Rattle.jc_reading.proofs.Pairs.{pair, pair_laws}
use Rattle.jc_reading.proofs.Rooms.{room_above, room_none}
use Rattle.jc_part_laws.specs.PartReading.{Exprs, modifiers_run}
use Rattle.jc_part_laws.proofs.AnnotationForms.{room_and}
use Rattle.jc_part_laws.proofs.ExprForms.{ExprLaws}
use Rattle.jc_part_laws.proofs.HeadForms.{head_starts}
use Rattle.jc_part_laws.proofs.ModifierForms.{modifier_codes, modifier_starts, modifiers_fit, modifiers_form, modifiers_laws}
use Rattle.jc_part_laws.proofs.PartForms.{sign_at_form}
use Rattle.jc_unit_laws.specs.UnitReading.{DeclarationRest, Level}
use Rattle.jc_unit_laws.specs.MemberReading.{declared_made, file_made, file_run, levels, rest_codes, rest_run, top_run}
use Rattle.jc_unit_laws.proofs.Bundles.{any_of, a_sign_at, has, lawful_by, maybe_a, then_a}
use Rattle.jc_unit_laws.proofs.FileForms.{import_coded, import_laws, package_coded, package_laws}
use Rattle.jc_unit_laws.proofs.ItemRests.{Rest}
use Rattle.jc_unit_laws.proofs.Levels.{known}
use Rattle.jc_unit_laws.proofs.MemberKinds.{back_declaration}
use Rattle.jc_unit_laws.proofs.MemberRests.{head_apart, head_in, mod_in}
use Rattle.jc_unit_laws.proofs.Members.{member_laws}
use Rattle.jc_unit_laws.proofs.RestForms.{fit_declaration, rest_is, rest_laws, told_declaration}

abbrev is_semicolon : TopLevel → Bool
is_semicolon (top_of.Semicolon at) = true
is_semicolon (top_of.Declaration d) = false

abbrev is_declared : TopLevel → Bool
is_declared (top_of.Semicolon at) = false
is_declared (top_of.Declaration d) = true

abbrev top_fits : ℕ → TopLevel → Bool
top_fits h t = nat_le (top_height t) h && is_top t

abbrev Semicolons : ℕ → Coded TopLevel
Semicolons h = record { tell = top_tokens; fits = λ t. is_semicolon t && top_fits h t; run = as_new top_of.Semicolon (sign_at_form sign_of.Semicolon).run; starts = sign_code sign_of.Semicolon ∷ []; goes = []; empties = false }

semicolons_laws : (h : ℕ) → Lawful TopLevel (formed (Semicolons h))
semicolons_laws h =
    made_laws ℕ TopLevel (sign_at_form sign_of.Semicolon) top_of.Semicolon top_tokens (λ t. is_semicolon t && top_fits h t) (a_sign_at sign_of.Semicolon).laws
    (record { told = λ at r g. refl; forth = λ at g. ap (λ b. b && true) (room_above h); back = back })
  where
    back : (t : TopLevel) → (is_semicolon t && top_fits h t) ≡ true → (at : ℕ) × (top_of.Semicolon at ≡ t) × (true ≡ true)
    back (top_of.Semicolon at) g = (at, refl, refl)
    back (top_of.Declaration d) g = absurd (false≢true g)

module _ (x : Exprs) (h : ℕ) (l : Level) where
  abbrev Both : Form (List Modifier × DeclarationRest)
  Both = pair (List Modifier) DeclarationRest (modifiers_form x h) (Rest x h l)

  abbrev declared_run : Run TopLevel
  declared_run = as_new declared_made (in_turn (modifiers_run x h) (rest_run x h l))

  abbrev declared_starts : List Token → Bool
  declared_starts ts = modifier_starts ts || (true && head_starts ts)

  abbrev declared_fits : TopLevel → Bool
  declared_fits t = is_declared t && top_fits (suc h) t

  abbrev DeclaredForm : Form TopLevel
  DeclaredForm = record { tell = top_tokens; fits = declared_fits; run = declared_run; starts = declared_starts; goes_on = λ ts. false; empties = false }

  abbrev Declareds : Coded TopLevel
  Declareds = record { tell = top_tokens; fits = declared_fits; run = declared_run; starts = modifier_codes ++ rest_codes; goes = []; empties = false }

  fit_declared : (p : List Modifier × DeclarationRest) → declared_fits (declared_made p) ≡ Both.fits p
  fit_declared p = fit_declaration x h l p.0 p.1 ∙ ap (λ b. modifiers_fit x h p.0 && b) (rest_is x h l p.1)

  told_declared : (p : List Modifier × DeclarationRest) (r : List Told) → top_tokens (declared_made p) r ≡ Both.tell p r
  told_declared p r = told_declaration x h l p.0 p.1 r ∙ ap (λ (t : List Told). modifiers_tokens p.0 t) (sym (told_declaration x h l [] p.1 r))

  back_declared : (t : TopLevel) → declared_fits t ≡ true → (p : List Modifier × DeclarationRest) × (declared_made p ≡ t)
  back_declared (top_of.Semicolon at) g = absurd (false≢true g)
  back_declared (top_of.Declaration d) g = let w = back_declaration d in ((w.0, w.1), ap (λ (v : Declaration). top_of.Declaration v) w.2)

  declared_laws : ExprLaws x → Lawful DeclarationRest (Rest x h l) → Lawful TopLevel DeclaredForm
  declared_laws lx lr =
      alike_laws (List Modifier × DeclarationRest) TopLevel Both declared_made top_tokens declared_fits declared_starts (λ ts. false) (pair_laws (List Modifier) DeclarationRest (modifiers_form x h) (Rest x h l) (modifiers_laws x h lx) lr head_apart)
      (record {
        told = λ p r g. told_declared p r;
        forth = λ p g. fit_declared p ∙ g;
        back = λ t g. let w = back_declared t g in (w.0, w.1, sym (fit_declared w.0) ∙ ap declared_fits w.1 ∙ g);
        starts_too = λ ts e. e;
        goes_too = λ ts e. e;
      })

  declareds_laws : ExprLaws x → Lawful DeclarationRest (Rest x h l) → Lawful TopLevel (formed Declareds)
  declareds_laws lx lr =
      coded_laws TopLevel DeclaredForm (modifier_codes ++ rest_codes) [] (declared_laws lx lr)
      (λ ts e. ⊎_elim (λ t. in_first modifier_codes rest_codes (front_code ts) (mod_in ts t)) (λ t. in_second modifier_codes rest_codes (front_code ts) (head_in ts t)) (or_cases (modifier_starts ts) (head_starts ts) e))
      (λ ts e. absurd (false≢true e))

-- ";" or a declaration

abbrev pub top_codes : List ℕ
top_codes = sign_code sign_of.Semicolon ∷ modifier_codes ++ rest_codes

abbrev pub top_coded : Exprs → ℕ → Coded TopLevel
top_coded x h = record { tell = top_tokens; fits = top_fits h; run = top_run x h; starts = top_codes; goes = []; empties = false }

one_kind : (h : ℕ) (t : TopLevel) → ((is_semicolon t && top_fits h t) || (is_declared t && top_fits h t)) ≡ top_fits h t
one_kind h (top_of.Semicolon at) = alone (top_fits h (top_of.Semicolon at))
  where
    alone : (b : Bool) → (b || false) ≡ b
    alone true = refl
    alone false = refl
one_kind h (top_of.Declaration d) = refl

lowest_kind : (t : TopLevel) → (is_semicolon t && top_fits 0 t) ≡ top_fits 0 t
lowest_kind (top_of.Semicolon at) = refl
lowest_kind (top_of.Declaration d) = sym (ap (λ n. nat_le n 0 && is_declaration d) (declaration_height-parts d) ∙ ap (λ b. b && is_declaration d) (room_none _))

refit : (c : Coded TopLevel) (fits : TopLevel → Bool) (run : Run TopLevel) → ((t : TopLevel) → c.fits t ≡ fits t) → c.run ≡ run → Lawful TopLevel (formed c) → Lawful TopLevel (formed (record { tell = c.tell; fits = fits; run = run; starts = c.starts; goes = c.goes; empties = c.empties }))
refit c fits run e q la =
    subst (λ (m : Run TopLevel). Lawful TopLevel (formed (record { tell = c.tell; fits = fits; run = m; starts = c.starts; goes = c.goes; empties = c.empties }))) q
    (subst (λ (g : TopLevel → Bool). Lawful TopLevel (formed (record { tell = c.tell; fits = g; run = c.run; starts = c.starts; goes = c.goes; empties = c.empties }))) (fun_ext e) la)

pub top_laws : (x : Exprs) (lx : ExprLaws x) (h : ℕ) → Lawful TopLevel (formed (top_coded x h))
unfolding top_run
top_laws x lx zero = widened_laws TopLevel (record { tell = top_tokens; fits = top_fits 0; run = top_run x 0; starts = sign_code sign_of.Semicolon ∷ []; goes = []; empties = false }) top_codes [] (refit (Semicolons 0) (top_fits 0) (top_run x 0) lowest_kind refl (semicolons_laws 0)) refl refl
top_laws x lx (suc h) =
    let l = levels x h in
    let k = known x lx h in
    let lr = rest_laws x h l (member_laws x lx h l k.laws k.rest) in
    let all = merged (sign_code sign_of.Semicolon ∷ []) (Semicolons (suc h)) (Declareds x h l) in
    refit all (top_fits (suc h)) (top_run x (suc h)) (one_kind (suc h)) refl
    (lawful_by all (top_of.Semicolon 0) (one_kind (suc h) (top_of.Semicolon 0) ∙ ap (λ b. b && true) (room_above (suc h)))
    (merged_law TopLevel (sign_code sign_of.Semicolon ∷ []) (Semicolons (suc h)) (Declareds x h l) (inl (semicolons_laws (suc h))) (inl (declareds_laws x h l lx lr)) (record { solid = refl; solid' = refl; this = refl; that = refl }) (λ t r. refl)))

-- source files

module _ (x : Exprs) (h : ℕ) where
  abbrev FileParts : Coded (Option Package × (List Import × List TopLevel))
  FileParts = in_order (optional package_coded) (in_order (repeated import_coded) (repeated (top_coded x h)))

  abbrev file_fits : SourceFile → Bool
  file_fits file = nat_le (most (map top_height file.types)) h && is_file file

  abbrev pub file_coded : Coded SourceFile
  file_coded = record { tell = file_tokens; fits = file_fits; run = file_run x h; starts = FileParts.starts; goes = FileParts.goes; empties = true }

  told_package : (o : Option Package) (r : List Told) → if_some package_tokens o r ≡ tell_some package_tokens o r
  told_package None r = refl
  told_package (Some p) r = refl

  told_imports : (list : List Import) (r : List Told) → each (map import_tokens list) r ≡ tell_all import_tokens list r
  told_imports [] r = refl
  told_imports (i ∷ list) r = ap (import_tokens i) (told_imports list r)

  told_tops : (list : List TopLevel) (r : List Told) → each (map top_tokens list) r ≡ tell_all top_tokens list r
  told_tops [] r = refl
  told_tops (t ∷ list) r = ap (top_tokens t) (told_tops list r)

  told_file : (p : Option Package × (List Import × List TopLevel)) (r : List Told) → file_tokens (file_made p) r ≡ FileParts.tell p r
  told_file (o, (imports, types)) r =
      told_package o _ ∙ ap (tell_some package_tokens o) (told_imports imports _ ∙ ap (tell_all import_tokens imports) (told_tops types r))

  some_fits : (o : Option Package) → fits_some package_coded.fits o ≡ true
  some_fits None = refl
  some_fits (Some p) = refl

  all_fit : (list : List Import) → fits_all import_coded.fits list ≡ true
  all_fit [] = refl
  all_fit (i ∷ list) = all_fit list

  fit_file : (p : Option Package × (List Import × List TopLevel)) → file_fits (file_made p) ≡ FileParts.fits p
  fit_file (o, (imports, types)) =
      room_and top_height is_top h types
      ∙ sym (ap (λ b. b && (fits_all import_coded.fits imports && fits_all (top_fits h) types)) (some_fits o) ∙ ap (λ b. b && fits_all (top_fits h) types) (all_fit imports))

  pub file_laws : ExprLaws x → Lawful SourceFile (formed file_coded)
  unfolding file_run
  file_laws lx =
      made_laws (Option Package × (List Import × List TopLevel)) SourceFile FileParts file_made file_tokens file_fits
      (then_a (maybe_a (has package_coded package_laws) refl) (then_a (any_of (has import_coded import_laws) refl refl) (any_of (has (top_coded x h) (top_laws x lx h)) refl refl) refl) refl).laws
      (same_makes (Option Package × (List Import × List TopLevel)) SourceFile FileParts file_made file_tokens file_fits
      (record { told = told_file; fit = fit_file; back = λ file. ((file.package, (file.imports, file.types)), refl) }))
