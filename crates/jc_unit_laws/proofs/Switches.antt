-- The parts of `switch` and `try`, and these statements.
use Rattle.std.proofs.Common.{◌≡◌, ℕ, zero, suc, max, Bool, true, false, List, [], ◌∷◌, map, refl, sym, ap, ◌∙◌, inl, arith}
use Rattle.std.proofs.Math.Path.{fun_ext}
use Rattle.std.proofs.lemmas.Bool.{false≢true, and_left}
use Rattle.std.proofs.lemmas.Grind.{common_steps}
use Rattle.std.specs.Prelude.{◌&&◌, nat_le}
use Rattle.std.specs.List.{list_all}
use Rattle.jc_lexer.specs.declared.token.Key.TheVariants as key_of
use Rattle.jc_lexer.specs.declared.token.Sign.TheVariants as sign_of
use Rattle.jc_tree.specs.declared.expression.Expr.{Expr}
use Rattle.jc_tree.specs.declared.statement.Clause.{Clause, out-Clause, roll-Clause, roll-out-Clause}
use Rattle.jc_tree.specs.declared.statement.ClauseHead.{ClauseHead}
use Rattle.jc_tree.specs.declared.statement.ClauseHead.TheVariants as clause_of
use Rattle.jc_tree.specs.declared.statement.Stmt.{Stmt, Stmt-F, out-Stmt, roll-Stmt, roll-out-Stmt}
use Rattle.jc_tree.specs.declared.statement.Stmt.TheVariants as stmt_of
use Rattle.jc_tree.specs.Heights.{most, expr_height, clause_head_height, clause_height, stmt_height}
use Rattle.jc_tree.proofs.HeightsOfStatements.{clause_height-made, stmt_height-Switch}
use Rattle.jc_grammar.specs.Told.{Told, sign, key_at, each}
use Rattle.jc_grammar.specs.Expressions.{expr_tokens}
use Rattle.jc_grammar.specs.Shapes.{is_expr}
use Rattle.jc_grammar.specs.Statements.{stmt_tokens, clause_tokens}
use Rattle.jc_grammar.specs.Units.{ClauseShape, is_of_switch, is_of_catch, is_of_finally, clause_with, clause_shape, switch_good, is_conditional, StmtShape, in_switch, stmt_shape}
use Rattle.jc_grammar.proofs.ShapesOfStatements.{clause_shape-made, clause_shape-parts, stmt_shape-Switch}
use Rattle.jc_grammar.proofs.TokensOfStatements.{clause_tokens-made, stmt_tokens-Switch}
use Rattle.jc_reading.specs.Kinds.{key_code}
use Rattle.jc_reading.specs.Reading.{This, That}
use Rattle.jc_reading.proofs.Forms.{Lawful}
use Rattle.jc_reading.proofs.Lists.{tell_all, fits_all}
use Rattle.jc_reading.proofs.Rooms.{room_above, room_max}
use Rattle.jc_part_laws.specs.PartReading.{Exprs}
use Rattle.jc_part_laws.proofs.AnnotationForms.{room_and}
use Rattle.jc_reading.proofs.Coded.{Coded, formed, in_order, repeated, one_or, made_laws, kind_makes}
use Rattle.jc_part_laws.proofs.ExprForms.{ExprLaws, conditional_coded, expr_tall}
use Rattle.jc_reading.proofs.Lowest.{Law, roomy, one_or_law, repeated_law, never_first, never_second}
use Rattle.jc_part_laws.proofs.PartForms.{sign_form, key_at_form}
use Rattle.jc_unit_laws.specs.UnitReading.{Level, Braces, CaseLabel, case_made, case_run, switch_made, switch_run}
use Rattle.jc_unit_laws.proofs.Bundles.{has, a_sign, a_key_at, then_a, any_of, roomy_zero, roomy_suc, lawful_by}
use Rattle.jc_unit_laws.proofs.SimpleStatements.{case_item_coded, LevelLaws, case_item_law, Layer, good_at, good_made, stmt_fits, stmt_made_law, told_items, all_shaped, Parens, parens_never, parens_has}

-- kinds of parts, by their heads

abbrev pub is_case : ClauseHead → Bool
is_case (clause_of.Case label) = true
is_case clause_of.Default = true
is_case _ = false

abbrev pub is_catch : ClauseHead → Bool
is_catch (clause_of.Catch modifiers first more name) = true
is_catch _ = false

abbrev pub is_finally : ClauseHead → Bool
is_finally clause_of.Finally = true
is_finally _ = false

part_switch : (head : ClauseHead) (items : List StmtShape) → is_of_switch (clause_with head items).part ≡ is_case head
part_switch (clause_of.If test) items = refl
part_switch (clause_of.Case label) items = refl
part_switch clause_of.Default items = refl
part_switch (clause_of.Catch modifiers first more name) items = refl
part_switch clause_of.Finally items = refl

part_catch : (head : ClauseHead) (items : List StmtShape) → is_of_catch (clause_with head items).part ≡ is_catch head
part_catch (clause_of.If test) items = refl
part_catch (clause_of.Case label) items = refl
part_catch clause_of.Default items = refl
part_catch (clause_of.Catch modifiers first more name) items = refl
part_catch clause_of.Finally items = refl

part_finally : (head : ClauseHead) (items : List StmtShape) → is_of_finally (clause_with head items).part ≡ is_finally head
part_finally (clause_of.If test) items = refl
part_finally (clause_of.Case label) items = refl
part_finally clause_of.Default items = refl
part_finally (clause_of.Catch modifiers first more name) items = refl
part_finally clause_of.Finally items = refl

pub switch_part : (c : Clause) → is_of_switch (clause_shape c).part ≡ is_case (out-Clause c).head
switch_part c = ap (λ (s : ClauseShape). is_of_switch s.part) (clause_shape-parts c) ∙ part_switch (out-Clause c).head (map stmt_shape (out-Clause c).items)

pub catch_part : (c : Clause) → is_of_catch (clause_shape c).part ≡ is_catch (out-Clause c).head
catch_part c = ap (λ (s : ClauseShape). is_of_catch s.part) (clause_shape-parts c) ∙ part_catch (out-Clause c).head (map stmt_shape (out-Clause c).items)

pub finally_part : (c : Clause) → is_of_finally (clause_shape c).part ≡ is_finally (out-Clause c).head
finally_part c = ap (λ (s : ClauseShape). is_of_finally s.part) (clause_shape-parts c) ∙ part_finally (out-Clause c).head (map stmt_shape (out-Clause c).items)

abbrev pub clause_good : ℕ → Clause → Bool
clause_good h c = nat_le (clause_height c) h && (clause_shape c).good

pub clause_good_made : (h at : ℕ) (head : ClauseHead) (items : List Stmt) → clause_good h (roll-Clause (record { at = at; head = head; items = items })) ≡ (nat_le (max (clause_head_height head) (most (map stmt_height items))) h && (clause_with head (map stmt_shape items)).good)
clause_good_made h at head items =
    ap (λ n. nat_le n h && (clause_shape (roll-Clause (record { at = at; head = head; items = items }))).good) (clause_height-made at head items)
    ∙ ap (λ (s : ClauseShape). nat_le (max (clause_head_height head) (most (map stmt_height items))) h && s.good) (clause_shape-made at head items)

-- each of a list, as told of one
pub list_fit : {A : Type 0} (height : A → ℕ) (test fits : A → Bool) (h : ℕ) → ((a : A) → (nat_le (height a) h && test a) ≡ fits a) → (list : List A) → (nat_le (most (map height list)) h && list_all test list) ≡ fits_all fits list
list_fit height test fits h e list = room_and height test h list ∙ ap (λ (f : _ → Bool). fits_all f list) (fun_ext e)

pub all_clauses : (test : ClauseShape → Bool) (list : List Clause) → list_all test (map clause_shape list) ≡ list_all (λ c. test (clause_shape c)) list
all_clauses test [] = refl
all_clauses test (c ∷ list) = ap (λ b. test (clause_shape c) && b) (all_clauses test list)

pub told_clauses : (list : List Clause) (r : List Told) → each (map clause_tokens list) r ≡ tell_all clause_tokens list r
told_clauses [] r = refl
told_clauses (c ∷ list) r = ap (clause_tokens c) (told_clauses list r)

-- a switch

module _ (x : Exprs) (h : ℕ) (l : Level) where
  abbrev Labels : Coded CaseLabel
  Labels = one_or (key_code key_of.Case ∷ []) (roomy h (in_order (key_at_form key_of.Case) (in_order (conditional_coded x h) (sign_form sign_of.Colon)))) (in_order (key_at_form key_of.Default) (sign_form sign_of.Colon))

  abbrev CaseParts : Coded (CaseLabel × List Stmt)
  CaseParts = in_order Labels (repeated (case_item_coded h l))

  case_items_fit : (items : List Stmt) → (nat_le (most (map stmt_height items)) h && list_all in_switch (map stmt_shape items)) ≡ fits_all (case_item_coded h l).fits items
  case_items_fit items = ap (λ b. nat_le (most (map stmt_height items)) h && b) (all_shaped in_switch items) ∙ room_and stmt_height (λ s. in_switch (stmt_shape s)) h items

  case_bits : (e m c i : Bool) → ((e && m) && (c && i)) ≡ ((true && ((e && c) && true)) && (m && i))
  case_bits e m c i = grind (arith, common_steps)

  fit_case : (p : CaseLabel × List Stmt) → clause_good h (case_made p) ≡ CaseParts.fits p
  fit_case (This (at, (e, u)), items) =
      clause_good_made h at (clause_of.Case e) items
      ∙ ap (λ b. b && (is_conditional e && list_all in_switch (map stmt_shape items))) (room_max (expr_height e) (most (map stmt_height items)) h)
      ∙ case_bits (nat_le (expr_height e) h) (nat_le (most (map stmt_height items)) h) (is_conditional e) (list_all in_switch (map stmt_shape items))
      ∙ ap (λ b. (true && ((nat_le (expr_height e) h && is_conditional e) && true)) && b) (case_items_fit items)
  fit_case (That (at, u), items) =
      clause_good_made h at clause_of.Default items
      ∙ ap (λ b. b && list_all in_switch (map stmt_shape items)) (room_max 0 (most (map stmt_height items)) h ∙ ap (λ b. b && nat_le (most (map stmt_height items)) h) (room_above h))
      ∙ case_items_fit items

  told_case : (p : CaseLabel × List Stmt) (r : List Told) → clause_tokens (case_made p) r ≡ CaseParts.tell p r
  told_case (This (at, (e, u)), items) r = clause_tokens-made at (clause_of.Case e) items r ∙ ap (λ (t : List Told). key_at key_of.Case at ∷ expr_tokens e (sign sign_of.Colon ∷ t)) (told_items items r)
  told_case (That (at, u), items) r = clause_tokens-made at clause_of.Default items r ∙ ap (λ (t : List Told). key_at key_of.Default at ∷ sign sign_of.Colon ∷ t) (told_items items r)

  kind_case : (p : CaseLabel × List Stmt) → is_case (out-Clause (case_made p)).head ≡ true
  kind_case (This (at, (e, u)), items) = refl
  kind_case (That (at, u), items) = refl

  back_case : (c : Clause) (head : ClauseHead) → (out-Clause c).head ≡ head → is_case head ≡ true → (p : CaseLabel × List Stmt) × (case_made p ≡ c)
  back_case c (clause_of.Case e) q g = ((This ((out-Clause c).at, (e, tt)), (out-Clause c).items), ap (λ (k : ClauseHead). roll-Clause (record { at = (out-Clause c).at; head = k; items = (out-Clause c).items })) (sym q) ∙ roll-out-Clause c)
  back_case c clause_of.Default q g = ((That ((out-Clause c).at, tt), (out-Clause c).items), ap (λ (k : ClauseHead). roll-Clause (record { at = (out-Clause c).at; head = k; items = (out-Clause c).items })) (sym q) ∙ roll-out-Clause c)
  back_case c _ q g = absurd (false≢true g)

  abbrev case_fits : Clause → Bool
  case_fits c = is_case (out-Clause c).head && clause_good h c

  abbrev pub case_coded : Coded Clause
  case_coded = record { tell = clause_tokens; fits = case_fits; run = case_run x h l; starts = CaseParts.starts; goes = CaseParts.goes; empties = false }

labels_laws : (x : Exprs) (lx : ExprLaws x) (h : ℕ) (l : Level) → Lawful CaseLabel (formed (Labels x h l))
labels_laws x lx zero l =
    lawful_by (Labels x 0 l) (That (0, tt)) refl
    (one_or_law (ℕ × (Expr × Unit {0})) (ℕ × Unit {0}) (key_code key_of.Case ∷ []) (roomy 0 (in_order (key_at_form key_of.Case) (in_order (conditional_coded x 0) (sign_form sign_of.Colon)))) (in_order (key_at_form key_of.Default) (sign_form sign_of.Colon))
    (record { solid = refl; solid' = refl; this = refl; that = refl })
    (roomy_zero (in_order (key_at_form key_of.Case) (in_order (conditional_coded x 0) (sign_form sign_of.Colon)))
    (never_second ℕ (Expr × Unit {0}) (key_at_form key_of.Case) (in_order (conditional_coded x 0) (sign_form sign_of.Colon)) (never_first Expr (Unit {0}) (conditional_coded x 0) (sign_form sign_of.Colon) (λ e. and_left (nat_le (expr_height e) 0) (is_conditional e) (expr_tall e)))))
    (inl (then_a (a_key_at key_of.Default) (a_sign sign_of.Colon) refl).laws))
labels_laws x lx (suc k) l =
    lawful_by (Labels x (suc k) l) (That (0, tt)) refl
    (one_or_law (ℕ × (Expr × Unit {0})) (ℕ × Unit {0}) (key_code key_of.Case ∷ []) (roomy (suc k) (in_order (key_at_form key_of.Case) (in_order (conditional_coded x (suc k)) (sign_form sign_of.Colon)))) (in_order (key_at_form key_of.Default) (sign_form sign_of.Colon))
    (record { solid = refl; solid' = refl; this = refl; that = refl })
    (roomy_suc k (in_order (key_at_form key_of.Case) (in_order (conditional_coded x (suc k)) (sign_form sign_of.Colon))) (then_a (a_key_at key_of.Case) (then_a (has (conditional_coded x (suc k)) (lx.conditional k)) (a_sign sign_of.Colon) refl) refl).laws)
    (inl (then_a (a_key_at key_of.Default) (a_sign sign_of.Colon) refl).laws))

pub case_laws : (x : Exprs) (lx : ExprLaws x) (h : ℕ) (l : Level) → LevelLaws h l → Lawful Clause (formed (case_coded x h l))
unfolding case_run
case_laws x lx h l f =
    made_laws (CaseLabel × List Stmt) Clause (CaseParts x h l) case_made clause_tokens (case_fits x h l)
    (then_a (has (Labels x h l) (labels_laws x lx h l)) (has (repeated (case_item_coded h l)) (repeated_law Stmt (case_item_coded h l) (case_item_law h l f) refl refl)) refl).laws
    (kind_makes (CaseLabel × List Stmt) Clause (CaseParts x h l) case_made clause_tokens (λ c. is_case (out-Clause c).head) (clause_good h)
    (record { told = told_case x h l; fit = fit_case x h l; is_kind = kind_case x h l; back = λ c g. back_case x h l c (out-Clause c).head refl g }))

abbrev pub is_switch : Layer → Bool
is_switch (Stmt-F.Switch at selector groups) = true
is_switch _ = false

module _ (x : Exprs) (h : ℕ) (l : Level) where
  abbrev SwitchParts : Coded (ℕ × ((Unit {0} × (Expr × Unit {0})) × Braces Clause))
  SwitchParts = in_order (key_at_form key_of.Switch) (in_order (Parens x h l) (in_order (sign_form sign_of.LeftBrace) (in_order (repeated (case_coded x h l)) (sign_form sign_of.RightBrace))))

  one_group : (c : Clause) → (nat_le (clause_height c) h && (is_of_switch (clause_shape c).part && (clause_shape c).good)) ≡ case_fits x h l c
  one_group c = ap (λ b. nat_le (clause_height c) h && (b && (clause_shape c).good)) (switch_part c) ∙ bits (nat_le (clause_height c) h) (is_case (out-Clause c).head) (clause_shape c).good
    where
      bits : (n k g : Bool) → (n && (k && g)) ≡ (k && (n && g))
      bits n k g = grind (arith, common_steps)

  groups_fit : (groups : List Clause) → (nat_le (most (map clause_height groups)) h && switch_good (map clause_shape groups)) ≡ fits_all (case_fits x h l) groups
  groups_fit groups =
      ap (λ b. nat_le (most (map clause_height groups)) h && b) (all_clauses (λ s. is_of_switch s.part && s.good) groups)
      ∙ list_fit clause_height (λ c. is_of_switch (clause_shape c).part && (clause_shape c).good) (case_fits x h l) h one_group groups

  switch_bits : (e g i s : Bool) → ((e && g) && (i && s)) ≡ (true && ((true && ((e && i) && true)) && (true && ((g && s) && true))))
  switch_bits e g i s = grind (arith, common_steps)

  fit_switch : (p : ℕ × ((Unit {0} × (Expr × Unit {0})) × Braces Clause)) → good_at h (switch_made p) ≡ SwitchParts.fits p
  fit_switch (at, ((u, (test, v)), (w, (groups, z)))) =
      good_made h (stmt_of.Switch at test groups) (max (expr_height test) (most (map clause_height groups))) _ (stmt_height-Switch at test groups) (stmt_shape-Switch at test groups)
      ∙ ap (λ b. b && (is_expr test && switch_good (map clause_shape groups))) (room_max (expr_height test) (most (map clause_height groups)) h)
      ∙ switch_bits (nat_le (expr_height test) h) (nat_le (most (map clause_height groups)) h) (is_expr test) (switch_good (map clause_shape groups))
      ∙ ap (λ b. true && ((true && ((nat_le (expr_height test) h && is_expr test) && true)) && (true && (b && true)))) (groups_fit groups)

  back_switch : (s : Stmt) (layer : Layer) → out-Stmt s ≡ layer → is_switch layer ≡ true → (p : ℕ × ((Unit {0} × (Expr × Unit {0})) × Braces Clause)) × (switch_made p ≡ s)
  back_switch s (Stmt-F.Switch at test groups) e g = ((at, ((tt, (test, tt)), (tt, (groups, tt)))), sym (stmt_of.rolls-Switch at test groups) ∙ ap roll-Stmt (sym e) ∙ roll-out-Stmt s)
  back_switch s _ e g = absurd (false≢true g)

switch_room : (x : Exprs) (lx : ExprLaws x) (h : ℕ) (l : Level) → LevelLaws h l → Law (ℕ × ((Unit {0} × (Expr × Unit {0})) × Braces Clause)) (roomy h (SwitchParts x h l))
switch_room x lx zero l f =
    roomy_zero (SwitchParts x 0 l) (never_second ℕ ((Unit {0} × (Expr × Unit {0})) × Braces Clause) (key_at_form key_of.Switch) (in_order (Parens x 0 l) (in_order (sign_form sign_of.LeftBrace) (in_order (repeated (case_coded x 0 l)) (sign_form sign_of.RightBrace))))
    (never_first (Unit {0} × (Expr × Unit {0})) (Braces Clause) (Parens x 0 l) (in_order (sign_form sign_of.LeftBrace) (in_order (repeated (case_coded x 0 l)) (sign_form sign_of.RightBrace))) (parens_never x l)))
switch_room x lx (suc k) l f =
    roomy_suc k (SwitchParts x (suc k) l)
    (then_a (a_key_at key_of.Switch) (then_a (parens_has x lx k l) (then_a (a_sign sign_of.LeftBrace) (then_a (any_of (has (case_coded x (suc k) l) (case_laws x lx (suc k) l f)) refl refl) (a_sign sign_of.RightBrace) refl) refl) refl) refl).laws

module _ (x : Exprs) (lx : ExprLaws x) (h : ℕ) (l : Level) where
  abbrev pub switch_coded : Coded Stmt
  switch_coded = record { tell = stmt_tokens; fits = stmt_fits (ℕ × ((Unit {0} × (Expr × Unit {0})) × Braces Clause)) h (roomy h (SwitchParts x h l)) switch_made is_switch; run = switch_run x h l; starts = key_code key_of.Switch ∷ []; goes = []; empties = false }

  pub switch_law : LevelLaws h l → Law Stmt switch_coded
  unfolding switch_run
  switch_law f =
      stmt_made_law (ℕ × ((Unit {0} × (Expr × Unit {0})) × Braces Clause)) h (roomy h (SwitchParts x h l)) switch_made is_switch (switch_room x lx h l f)
      (record {
        told = λ p r. stmt_tokens-Switch p.0 p.1.0.1.0 p.1.1.1.0 r ∙ ap (λ (t : List Told). key_at key_of.Switch p.0 ∷ sign sign_of.LeftParen ∷ expr_tokens p.1.0.1.0 (sign sign_of.RightParen ∷ sign sign_of.LeftBrace ∷ t)) (told_clauses p.1.1.1.0 (sign sign_of.RightBrace ∷ r));
        fit = fit_switch x h l;
        is_kind = λ p. ap is_switch (stmt_of.outs-Switch p.0 p.1.0.1.0 p.1.1.1.0);
        back = λ s g. back_switch x h l s (out-Stmt s) refl g;
      })
