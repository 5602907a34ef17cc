-- The parts of `try`, and the statement.
use Rattle.std.proofs.Common.{◌≡◌, ℕ, max, Bool, true, false, List, [], ◌∷◌, map, Option, Some, None, refl, sym, ap, ◌∙◌, ⊎_elim, arith}
use Rattle.std.proofs.Math.Bool.{and-true}
use Rattle.std.proofs.lemmas.Bool.{false≢true, and_right, and_parts, and_from, or_cases}
use Rattle.std.proofs.lemmas.Grind.{common_steps}
use Rattle.std.specs.Prelude.{◌&&◌, ◌||◌, nat_le}
use Rattle.std.specs.List.{list_all}
use Rattle.jc_lexer.specs.declared.token.Key.TheVariants as key_of
use Rattle.jc_lexer.specs.declared.token.Sign.TheVariants as sign_of
use Rattle.jc_tree.specs.declared.statement.Clause.{Clause, out-Clause, roll-Clause, roll-out-Clause}
use Rattle.jc_tree.specs.declared.types.ClassTree.{ClassTree}
use Rattle.jc_tree.specs.declared.statement.ClauseHead.{ClauseHead}
use Rattle.jc_tree.specs.declared.statement.ClauseHead.TheVariants as clause_of
use Rattle.jc_tree.specs.declared.statement.Stmt.{Stmt}
use Rattle.jc_tree.specs.Heights.{most, class_height, modifier_height, clause_height, stmt_height}
use Rattle.jc_grammar.specs.Told.{Told, sign, key_at, ident, each}
use Rattle.jc_grammar.specs.Types.{class_tokens}
use Rattle.jc_grammar.specs.Parts.{modifiers_tokens, after_bars}
use Rattle.jc_grammar.specs.Statements.{stmt_tokens, clause_tokens, braced}
use Rattle.jc_grammar.specs.Units.{ClauseShape, is_of_catch, is_of_finally, clause_shape, catches_good, some_clause, are_modifiers, in_block, stmt_shape}
use Rattle.jc_grammar.proofs.TokensOfStatements.{clause_tokens-made}
use Rattle.jc_reading.specs.Kinds.{key_code}
use Rattle.jc_reading.specs.Reading.{Either, This, That, behind_it}
use Rattle.jc_reading.proofs.Forms.{Lawful}
use Rattle.jc_reading.proofs.Lists.{fits_all}
use Rattle.jc_reading.proofs.Rooms.{room_above, room_max}
use Rattle.jc_part_laws.specs.PartReading.{Exprs}
use Rattle.jc_reading.proofs.Coded.{Coded, formed, in_order, optional, repeated, one_or, one_or_laws, made_laws, kind_makes}
use Rattle.jc_part_laws.proofs.ExprForms.{ExprLaws}
use Rattle.jc_reading.proofs.Lowest.{repeated_law}
use Rattle.jc_part_laws.proofs.ModifierForms.{modifiers_coded, modifiers_coded_laws}
use Rattle.jc_part_laws.proofs.PartForms.{sign_form, key_at_form, ident_form, class_coded, class_coded_laws, behind_each, behind_each_laws, room_behind}
use Rattle.jc_unit_laws.specs.UnitReading.{Level, Braces, CatchParts, catch_made, catch_run, finally_made, finally_run, clauses_made, clauses_run, some_clauses_made, some_clauses_run}
use Rattle.jc_unit_laws.proofs.Bundles.{Has, has, a_sign, a_key_at, an_ident, then_a, maybe_a, any_of}
use Rattle.jc_reading.proofs.Ledby.{unled, unled_back}
use Rattle.jc_unit_laws.proofs.SimpleStatements.{item_coded, LevelLaws, item_law, told_items, items_fit}
use Rattle.jc_unit_laws.proofs.Switches.{is_catch, is_finally, catch_part, finally_part, clause_good, clause_good_made}

-- behind each other between braces
abbrev pub Braced : (h : ℕ) (l : Level) → Coded (Braces Stmt)
Braced h l = in_order (sign_form sign_of.LeftBrace) (in_order (repeated (item_coded h l)) (sign_form sign_of.RightBrace))

abbrev pub braced_has : (h : ℕ) (l : Level) (f : LevelLaws h l) → Has (Braces Stmt)
braced_has h l f = then_a (a_sign sign_of.LeftBrace) (then_a (has (repeated (item_coded h l)) (repeated_law Stmt (item_coded h l) (item_law h l f) refl refl)) (a_sign sign_of.RightBrace) refl) refl

pub told_braced : (h : ℕ) (l : Level) (p : Braces Stmt) (r : List Told) → braced (map stmt_tokens p.1.0) r ≡ (Braced h l).tell p r
told_braced h l (u, (items, v)) r = ap (λ (t : List Told). sign sign_of.LeftBrace ∷ t) (told_items items (sign sign_of.RightBrace ∷ r))

module _ (x : Exprs) (h : ℕ) (l : Level) where
  abbrev Catches : Coded CatchParts
  Catches =
      in_order (key_at_form key_of.Catch) (in_order (sign_form sign_of.LeftParen) (in_order (modifiers_coded x h) (in_order (class_coded h) (in_order (behind_each sign_of.Or (class_coded h))
      (in_order ident_form (in_order (sign_form sign_of.RightParen) (Braced h l)))))))

  catch_bits : (m c o i a b : Bool) → ((((m && c) && o) && i) && (a && b)) ≡ (true && (true && ((m && a) && (c && (o && (true && (true && (true && ((i && b) && true)))))))))
  catch_bits m c o i a b = grind (arith, common_steps)

  fit_catch : (p : CatchParts) → clause_good h (catch_made p) ≡ Catches.fits p
  fit_catch (at, (u, (modifiers, (first, (more, (name, (v, (w, (items, z))))))))) =
      clause_good_made h at (clause_of.Catch modifiers first (map behind_it more) name) items
      ∙ ap (λ b. b && (are_modifiers modifiers && list_all in_block (map stmt_shape items)))
      (room_max (max (max (most (map modifier_height modifiers)) (class_height first)) (most (map class_height (map behind_it more)))) (most (map stmt_height items)) h
      ∙ ap (λ b. b && nat_le (most (map stmt_height items)) h)
      (room_max (max (most (map modifier_height modifiers)) (class_height first)) (most (map class_height (map behind_it more))) h
      ∙ ap (λ b. b && nat_le (most (map class_height (map behind_it more))) h) (room_max (most (map modifier_height modifiers)) (class_height first) h)
      ∙ ap (λ b. (nat_le (most (map modifier_height modifiers)) h && nat_le (class_height first) h) && b) (room_behind class_height h more)))
      ∙ catch_bits (nat_le (most (map modifier_height modifiers)) h) (nat_le (class_height first) h) ((behind_each sign_of.Or (class_coded h)).fits more) (nat_le (most (map stmt_height items)) h) (are_modifiers modifiers) (list_all in_block (map stmt_shape items))
      ∙ ap (λ b. true && (true && ((nat_le (most (map modifier_height modifiers)) h && are_modifiers modifiers) && (nat_le (class_height first) h && ((behind_each sign_of.Or (class_coded h)).fits more && (true && (true && (true && (b && true))))))))) (items_fit x h l items)

  told_bars : (list : List (Unit {0} × ClassTree)) (r : List Told) → after_bars (map behind_it list) r ≡ (behind_each sign_of.Or (class_coded h)).tell list r
  told_bars [] r = refl
  told_bars (p ∷ list) r = ap (λ (t : List Told). sign sign_of.Or ∷ class_tokens p.1 t) (told_bars list r)

  told_catch : (p : CatchParts) (r : List Told) → clause_tokens (catch_made p) r ≡ Catches.tell p r
  told_catch (at, (u, (modifiers, (first, (more, (name, (v, braces))))))) r =
      clause_tokens-made at (clause_of.Catch modifiers first (map behind_it more) name) braces.1.0 r
      ∙ ap (λ (t : List Told). key_at key_of.Catch at ∷ sign sign_of.LeftParen ∷ modifiers_tokens modifiers (class_tokens first (after_bars (map behind_it more) (ident name ∷ sign sign_of.RightParen ∷ t)))) (told_braced h l braces r)
      ∙ ap (λ (t : List Told). key_at key_of.Catch at ∷ sign sign_of.LeftParen ∷ modifiers_tokens modifiers (class_tokens first t)) (told_bars more (ident name ∷ sign sign_of.RightParen ∷ (Braced h l).tell braces r))

  back_catch : (c : Clause) (head : ClauseHead) → (out-Clause c).head ≡ head → is_catch head ≡ true → (p : CatchParts) × (catch_made p ≡ c)
  back_catch c (clause_of.Catch modifiers first more name) q g = (
    ((out-Clause c).at, (tt, (modifiers, (first, (unled more, (name, (tt, (tt, ((out-Clause c).items, tt))))))))),
    ap (λ (list : List ClassTree). roll-Clause (record { at = (out-Clause c).at; head = clause_of.Catch modifiers first list name; items = (out-Clause c).items })) (unled_back more)
        ∙ ap (λ (k : ClauseHead). roll-Clause (record { at = (out-Clause c).at; head = k; items = (out-Clause c).items })) (sym q) ∙ roll-out-Clause c,
  )
  back_catch c _ q g = absurd (false≢true g)

  abbrev catch_fits : Clause → Bool
  catch_fits c = is_catch (out-Clause c).head && clause_good h c

  abbrev catch_coded : Coded Clause
  catch_coded = record { tell = clause_tokens; fits = catch_fits; run = catch_run x h l; starts = key_code key_of.Catch ∷ []; goes = []; empties = false }

  catch_laws : ExprLaws x → LevelLaws h l → Lawful Clause (formed catch_coded)
  unfolding catch_run
  catch_laws lx f =
      made_laws CatchParts Clause Catches catch_made clause_tokens catch_fits
      (then_a (a_key_at key_of.Catch) (then_a (a_sign sign_of.LeftParen) (then_a (has (modifiers_coded x h) (modifiers_coded_laws x h lx)) (then_a (has (class_coded h) (class_coded_laws h))
      (then_a (has (behind_each sign_of.Or (class_coded h)) (behind_each_laws ClassTree sign_of.Or (class_coded h) (class_coded_laws h) refl refl)) (then_a an_ident (then_a (a_sign sign_of.RightParen) (braced_has h l f) refl) refl) refl) refl) refl) refl) refl).laws
      (kind_makes CatchParts Clause Catches catch_made clause_tokens (λ c. is_catch (out-Clause c).head) (clause_good h)
      (record { told = told_catch; fit = fit_catch; is_kind = λ p. refl; back = λ c g. back_catch c (out-Clause c).head refl g }))

  -- finally

  abbrev Finals : Coded (ℕ × Braces Stmt)
  Finals = in_order (key_at_form key_of.Finally) (Braced h l)

  fit_finally : (p : ℕ × Braces Stmt) → clause_good h (finally_made p) ≡ Finals.fits p
  fit_finally (at, (u, (items, v))) =
      clause_good_made h at clause_of.Finally items
      ∙ ap (λ b. b && list_all in_block (map stmt_shape items)) (room_max 0 (most (map stmt_height items)) h ∙ ap (λ b. b && nat_le (most (map stmt_height items)) h) (room_above h))
      ∙ items_fit x h l items ∙ sym (and-true (fits_all (item_coded h l).fits items))

  back_finally : (c : Clause) (head : ClauseHead) → (out-Clause c).head ≡ head → is_finally head ≡ true → (p : ℕ × Braces Stmt) × (finally_made p ≡ c)
  back_finally c clause_of.Finally q g = (((out-Clause c).at, (tt, ((out-Clause c).items, tt))), ap (λ (k : ClauseHead). roll-Clause (record { at = (out-Clause c).at; head = k; items = (out-Clause c).items })) (sym q) ∙ roll-out-Clause c)
  back_finally c _ q g = absurd (false≢true g)

  abbrev finally_fits : Clause → Bool
  finally_fits c = is_finally (out-Clause c).head && clause_good h c

  abbrev finally_coded : Coded Clause
  finally_coded = record { tell = clause_tokens; fits = finally_fits; run = finally_run x h l; starts = key_code key_of.Finally ∷ []; goes = []; empties = false }

  finally_laws : LevelLaws h l → Lawful Clause (formed finally_coded)
  unfolding finally_run
  finally_laws f =
      made_laws (ℕ × Braces Stmt) Clause Finals finally_made clause_tokens finally_fits (then_a (a_key_at key_of.Finally) (braced_has h l f) refl).laws
      (kind_makes (ℕ × Braces Stmt) Clause Finals finally_made clause_tokens (λ c. is_finally (out-Clause c).head) (clause_good h)
      (record {
        told = λ p r. clause_tokens-made p.0 clause_of.Finally p.1.1.0 r ∙ ap (λ (t : List Told). key_at key_of.Finally p.0 ∷ t) (told_braced h l p.1 r);
        fit = fit_finally;
        is_kind = λ p. refl;
        back = λ c g. back_finally c (out-Clause c).head refl g;
      }))

  -- catches and then a finally

  abbrev pub catch_list_fits : List Clause → Bool
  catch_list_fits list = nat_le (most (map clause_height list)) h && catches_good (map clause_shape list)

  abbrev Listed : Coded (List Clause × Option Clause)
  Listed = in_order (repeated catch_coded) (optional finally_coded)

  one_catch : (c : Clause) → (nat_le (clause_height c) h && (is_of_catch (clause_shape c).part && (clause_shape c).good)) ≡ catch_fits c
  one_catch c = ap (λ b. nat_le (clause_height c) h && (b && (clause_shape c).good)) (catch_part c) ∙ bits (nat_le (clause_height c) h) (is_catch (out-Clause c).head) (clause_shape c).good
    where
      bits : (n k g : Bool) → (n && (k && g)) ≡ (k && (n && g))
      bits n k g = grind (arith, common_steps)

  one_finally : (c : Clause) → (nat_le (clause_height c) h && (is_of_finally (clause_shape c).part && (clause_shape c).good)) ≡ finally_fits c
  one_finally c = ap (λ b. nat_le (clause_height c) h && (b && (clause_shape c).good)) (finally_part c) ∙ bits (nat_le (clause_height c) h) (is_finally (out-Clause c).head) (clause_shape c).good
    where
      bits : (n k g : Bool) → (n && (k && g)) ≡ (k && (n && g))
      bits n k g = grind (arith, common_steps)

  good_cons : (s : ClauseShape) (rest : List ClauseShape) → (is_of_catch s.part && s.good) ≡ true → catches_good rest ≡ true → catches_good (s ∷ rest) ≡ true
  good_cons s [] e g = bits (is_of_catch s.part) (is_of_finally s.part) s.good e
    where
      bits : (c f g : Bool) → (c && g) ≡ true → ((c || f) && g) ≡ true
      bits c f g e = grind (arith, common_steps)
  good_cons s (t ∷ rest) e g = bits (is_of_catch s.part) s.good (catches_good (t ∷ rest)) e g
    where
      bits : (c g r : Bool) → (c && g) ≡ true → r ≡ true → (c && g && r) ≡ true
      bits c g r e q = grind (arith, common_steps)

  good_only : (s : ClauseShape) → (is_of_finally s.part && s.good) ≡ true → catches_good (s ∷ []) ≡ true
  good_only s e = bits (is_of_catch s.part) (is_of_finally s.part) s.good e
    where
      bits : (c f g : Bool) → (f && g) ≡ true → ((c || f) && g) ≡ true
      bits c f g e = grind (arith, common_steps)

  cons_fits : (c : Clause) (list : List Clause) → catch_fits c ≡ true → catch_list_fits list ≡ true → catch_list_fits (c ∷ list) ≡ true
  cons_fits c list e g =
      let a = and_parts (nat_le (clause_height c) h) (is_of_catch (clause_shape c).part && (clause_shape c).good) (one_catch c ∙ e) in
      let b = and_parts (nat_le (most (map clause_height list)) h) (catches_good (map clause_shape list)) g in
      and_from (nat_le (max (clause_height c) (most (map clause_height list))) h) (catches_good (clause_shape c ∷ map clause_shape list))
      (room_max (clause_height c) (most (map clause_height list)) h ∙ and_from (nat_le (clause_height c) h) (nat_le (most (map clause_height list)) h) a.0 b.0)
      (good_cons (clause_shape c) (map clause_shape list) a.1 b.1)

  only_fits : (c : Clause) → finally_fits c ≡ true → catch_list_fits (c ∷ []) ≡ true
  only_fits c e =
      let a = and_parts (nat_le (clause_height c) h) (is_of_finally (clause_shape c).part && (clause_shape c).good) (one_finally c ∙ e) in
      and_from (nat_le (max (clause_height c) 0) h) (catches_good (clause_shape c ∷ []))
      (room_max (clause_height c) 0 h ∙ and_from (nat_le (clause_height c) h) (nat_le 0 h) a.0 (room_above h))
      (good_only (clause_shape c) a.1)

  forth_list : (catches : List Clause) (o : Option Clause) → Listed.fits (catches, o) ≡ true → catch_list_fits (clauses_made (catches, o)) ≡ true
  forth_list [] None g = ap (λ b. b && true) (room_above h)
  forth_list [] (Some c) g = only_fits c g
  forth_list (c ∷ catches) o g =
      let a = and_parts (catch_fits c && fits_all catch_fits catches) ((optional finally_coded).fits o) g in
      let b = and_parts (catch_fits c) (fits_all catch_fits catches) a.0 in
      cons_fits c (clauses_made (catches, o)) b.0 (forth_list catches o (and_from (fits_all catch_fits catches) ((optional finally_coded).fits o) b.1 a.1))

  record Split (list : List Clause) : Type 0 where
    catches : List Clause
    last : Option Clause
    same : clauses_made (catches, last) ≡ list
    fit : Listed.fits (catches, last) ≡ true

  last_one : (c : Clause) → nat_le (clause_height c) h ≡ true → ((is_of_catch (clause_shape c).part || is_of_finally (clause_shape c).part) && (clause_shape c).good) ≡ true → Split (c ∷ [])
  last_one c n g =
      let a = and_parts (is_of_catch (clause_shape c).part || is_of_finally (clause_shape c).part) (clause_shape c).good g in
      ⊎_elim
      (λ t. record { catches = c ∷ []; last = None; same = refl; fit = and_from (catch_fits c && true) true (and_from (catch_fits c) true (sym (one_catch c) ∙ and_from (nat_le (clause_height c) h) (is_of_catch (clause_shape c).part && (clause_shape c).good) n (and_from (is_of_catch (clause_shape c).part) (clause_shape c).good t a.1)) refl) refl })
      (λ t. record { catches = []; last = Some c; same = refl; fit = sym (one_finally c) ∙ and_from (nat_le (clause_height c) h) (is_of_finally (clause_shape c).part && (clause_shape c).good) n (and_from (is_of_finally (clause_shape c).part) (clause_shape c).good t a.1) })
      (or_cases (is_of_catch (clause_shape c).part) (is_of_finally (clause_shape c).part) a.0)

  split : (list : List Clause) → catch_list_fits list ≡ true → Split list
  split [] g = record { catches = []; last = None; same = refl; fit = refl }
  split (c ∷ []) g =
      let a = and_parts (nat_le (max (clause_height c) 0) h) ((is_of_catch (clause_shape c).part || is_of_finally (clause_shape c).part) && (clause_shape c).good) g in
      let b = and_parts (nat_le (clause_height c) h) (nat_le 0 h) (sym (room_max (clause_height c) 0 h) ∙ a.0) in
      last_one c b.0 a.1
  split (c ∷ d ∷ list) g =
      let a = and_parts (nat_le (max (clause_height c) (most (map clause_height (d ∷ list)))) h) (is_of_catch (clause_shape c).part && (clause_shape c).good && catches_good (map clause_shape (d ∷ list))) g in
      let b = and_parts (nat_le (clause_height c) h) (nat_le (most (map clause_height (d ∷ list))) h) (sym (room_max (clause_height c) (most (map clause_height (d ∷ list))) h) ∙ a.0) in
      let t = three (is_of_catch (clause_shape c).part) (clause_shape c).good (catches_good (map clause_shape (d ∷ list))) a.1 in
      let w = split (d ∷ list) (and_from (nat_le (most (map clause_height (d ∷ list))) h) (catches_good (map clause_shape (d ∷ list))) b.1 t.1) in
      let e : catch_fits c ≡ true = sym (one_catch c) ∙ and_from (nat_le (clause_height c) h) (is_of_catch (clause_shape c).part && (clause_shape c).good) b.0 t.0 in
      let f = and_parts (fits_all catch_fits w.catches) ((optional finally_coded).fits w.last) w.fit in
      record {
        catches = c ∷ w.catches;
        last = w.last;
        same = ap (λ (more : List Clause). c ∷ more) w.same;
        fit = and_from (catch_fits c && fits_all catch_fits w.catches) ((optional finally_coded).fits w.last) (and_from (catch_fits c) (fits_all catch_fits w.catches) e f.0) f.1;
      }
    where
      three : (c g r : Bool) → (c && g && r) ≡ true → ((c && g) ≡ true) × (r ≡ true)
      three c g r e = (grind (arith, common_steps), grind (arith, common_steps))

  told_list : (catches : List Clause) (o : Option Clause) (r : List Told) → each (map clause_tokens (clauses_made (catches, o))) r ≡ Listed.tell (catches, o) r
  told_list [] None r = refl
  told_list [] (Some c) r = refl
  told_list (c ∷ catches) o r = ap (clause_tokens c) (told_list catches o r)

  abbrev pub catch_list_tell : List Clause → List Told → List Told
  catch_list_tell list r = each (map clause_tokens list) r

  abbrev pub clauses_coded : Coded (List Clause)
  clauses_coded = record { tell = catch_list_tell; fits = catch_list_fits; run = clauses_run x h l; starts = Listed.starts; goes = Listed.goes; empties = true }

  listed_has : ExprLaws x → LevelLaws h l → Lawful (List Clause × Option Clause) (formed Listed)
  listed_has lx f = (then_a (any_of (has catch_coded (catch_laws lx f)) refl refl) (maybe_a (has finally_coded (finally_laws f)) refl) refl).laws

  pub clauses_laws : ExprLaws x → LevelLaws h l → Lawful (List Clause) (formed clauses_coded)
  unfolding clauses_run
  clauses_laws lx f =
      made_laws (List Clause × Option Clause) (List Clause) Listed clauses_made catch_list_tell catch_list_fits (listed_has lx f)
      (record {
        told = λ p r g. told_list p.0 p.1 r;
        forth = λ p g. forth_list p.0 p.1 g;
        back = λ list g. let w = split list g in ((w.catches, w.last), w.same, w.fit);
      })

  -- at least one

  abbrev SomeListed : Coded (Either (Clause × (List Clause × Option Clause)) Clause)
  SomeListed = one_or (key_code key_of.Catch ∷ []) (in_order catch_coded Listed) finally_coded

  abbrev pub some_fits : List Clause → Bool
  some_fits list = nat_le (most (map clause_height list)) h && (some_clause (map clause_shape list) && catches_good (map clause_shape list))

  abbrev pub some_clauses_coded : Coded (List Clause)
  some_clauses_coded = record { tell = catch_list_tell; fits = some_fits; run = some_clauses_run x h l; starts = SomeListed.starts; goes = SomeListed.goes; empties = false }

  forth_some : (o : Either (Clause × (List Clause × Option Clause)) Clause) → SomeListed.fits o ≡ true → some_fits (some_clauses_made o) ≡ true
  forth_some (This (c, (catches, o))) g =
      let a = and_parts (catch_fits c) (fits_all catch_fits catches && (optional finally_coded).fits o) g in
      cons_fits c (clauses_made (catches, o)) a.0 (forth_list catches o a.1)
  forth_some (That c) g = only_fits c g

  some_of : (c : Clause) (list : List Clause) → (w : Split (c ∷ list)) → (o : Either (Clause × (List Clause × Option Clause)) Clause) × (some_clauses_made o ≡ c ∷ list) × (SomeListed.fits o ≡ true)
  some_of c list w = by w.catches w.last w.same w.fit
    where
      by : (catches : List Clause) (o : Option Clause) → clauses_made (catches, o) ≡ c ∷ list → Listed.fits (catches, o) ≡ true → (o : Either (Clause × (List Clause × Option Clause)) Clause) × (some_clauses_made o ≡ c ∷ list) × (SomeListed.fits o ≡ true)
      by [] None e g = absurd (empty_list e)
        where
          empty_list : [] ≡ (c ∷ list) → ⊥
          empty_list e = false≢true (ap (λ (v : List Clause). has_one v) e)
            where
              has_one : List Clause → Bool
              has_one [] = false
              has_one (d ∷ more) = true
      by [] (Some d) e g = (That d, e, g)
      by (d ∷ catches) o e g = (This (d, (catches, o)), e, regroup (catch_fits d) (fits_all catch_fits catches) ((optional finally_coded).fits o) g)
        where
          regroup : (a b c : Bool) → ((a && b) && c) ≡ true → (a && (b && c)) ≡ true
          regroup a b c e = grind (arith, common_steps)

  back_some : (list : List Clause) → some_fits list ≡ true → (o : Either (Clause × (List Clause × Option Clause)) Clause) × (some_clauses_made o ≡ list) × (SomeListed.fits o ≡ true)
  back_some [] g = absurd (false≢true (sym (and_right (nat_le 0 h) false refl) ∙ g))
  back_some (c ∷ list) g = some_of c list (split (c ∷ list) g)

  told_some : (o : Either (Clause × (List Clause × Option Clause)) Clause) (r : List Told) → catch_list_tell (some_clauses_made o) r ≡ SomeListed.tell o r
  told_some (This (c, (catches, o))) r = ap (clause_tokens c) (told_list catches o r)
  told_some (That c) r = refl

  pub some_clauses_laws : ExprLaws x → LevelLaws h l → Lawful (List Clause) (formed some_clauses_coded)
  unfolding some_clauses_run
  some_clauses_laws lx f =
      made_laws (Either (Clause × (List Clause × Option Clause)) Clause) (List Clause) SomeListed some_clauses_made catch_list_tell some_fits
      (one_or_laws (Clause × (List Clause × Option Clause)) Clause (key_code key_of.Catch ∷ []) (in_order catch_coded Listed) finally_coded
      (then_a (has catch_coded (catch_laws lx f)) (has Listed (listed_has lx f)) refl).laws (finally_laws f) (record { solid = refl; solid' = refl; this = refl; that = refl }))
      (record { told = λ o r g. told_some o r; forth = forth_some; back = back_some })
