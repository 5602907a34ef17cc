-- What is read behind what statements begin with, as the code reads it.
use Rattle.std.proofs.Common.{◌≡◌, ◌==◌, ℕ, true, false, cond, Bool, List, [], ◌∷◌, length, None, refl, sym, ap, ◌∙◌, subst, arith}
use Rattle.std.proofs.lemmas.Bool.{cond-true, cond-false}
use Rattle.jc_lexer.specs.declared.token.Key.TheVariants as key_of
use Rattle.jc_lexer.specs.declared.token.Sign.TheVariants as sign_of
use Rattle.jc_lexer.specs.declared.token.Token.{Token}
use Rattle.jc_tree.specs.declared.expression.Expr.{Expr}
use Rattle.jc_tree.specs.declared.statement.Clause.{Clause}
use Rattle.jc_tree.specs.declared.statement.Resources.{Resources}
use Rattle.jc_tree.specs.declared.statement.Stmt.{Stmt}
use Rattle.jc_tree.specs.declared.statement.Stmt.TheVariants as stmt_of
use Rattle.jc_reading.specs.Kinds.{kind_code, sign_code, key_code, word_code, one_of}
use Rattle.jc_reading.specs.Reading.{Read, Found, Stopped, Run, found, noting, becoming, joined, ◌>>=◌, as_new, in_turn, any_number, perhaps, of_kind, at_kind, an_ident_at, each_behind, This, That, either}
use Rattle.jc_reading.specs.Further.{with_room, by_second, second_is, past, followed, unless, trying}
use Rattle.jc_parse_type.specs.TypeReading.{class_run, type_run}
use Rattle.jc_part_laws.specs.PartReading.{modifiers_run}
use Rattle.jc_expr_laws.specs.ExprReading.{exprs}
use Rattle.jc_unit_laws.specs.UnitReading.{Branch, Braces, arm_open, arm_run, branch_run, braced_run, catch_made, catch_run, clauses_run, do_made, do_run, effect_made, finally_made, finally_run, if_made, if_run, label_run, labeled_made, labeled_or, local_or_effect, no_more, parens_run, plain_run, resources_run, semicolon_run, some_clauses_made, some_clauses_run, try_made, try_run, variables_run, word_run}
use Rattle.jc_unit_laws.specs.MemberReading.{levels}
use Rattle.jc_parse_nodes.specs.Joins.{alone}
use Rattle.jc_parse_heads.specs.UnitCode.{arms_run, branch_of, branch_once_run, braced_items_run, braces_list, do_test, do_test_run, ended_effect_run, finally_opening, finally_opening_run, guarded_made, guarded_run, if_node, listed, local_or_effect_run, plain_guarded_run, roomy_resources_run, some_catches_run, with_last, with_node, catch_opening, catch_opening_run}
use Rattle.jc_parse_nodes.specs.Nodes.{clause_made}
use Rattle.jc_reading.specs.declared.reading.Halt.{Halt}
use Rattle.jc_reading.specs.Giving.{Halts}
use Rattle.jc_parse_nodes.specs.declared.pieces.Branch.TheVariants as branch_is
use Rattle.jc_parse_nodes.specs.declared.pieces.Guarded.{Guarded}
use Rattle.jc_parse_nodes.specs.declared.pieces.Opening.{Opening}
use Rattle.jc_parse_heads.proofs.Joinings.{Two, split_here, split_behind, grouped, first_made, second_made, cut, either_this, either_that, halts_as, halts_bind, two_halts, noted_two, room_first, room_there, room_gone}
use Rattle.jc_parse_expr.proofs.PairSteps.{remade}

module _ (h : ℕ) (ts : List Token) where
  -- `do`

  abbrev DoTail : Run (Unit {0} × ((Unit {0} × (Expr × Unit {0})) × Unit {0}))
  DoTail = in_turn (of_kind (key_code key_of.While)) (in_turn (parens_run (exprs.expr h)) semicolon_run)

  abbrev Do : Run ℕ
  Do = at_kind (key_code key_of.Do)

  abbrev DoParts : Run (ℕ × (Stmt × (Unit {0} × ((Unit {0} × (Expr × Unit {0})) × Unit {0}))))
  DoParts = in_turn Do (in_turn (levels exprs h).body DoTail)

  pub do_none : h ≡ 0 → do_run exprs h (levels exprs h) ts ≡ Stopped (length ts)
  unfolding do_run
  do_none e = ap (becoming do_made) (room_gone h DoParts ts e)

  abbrev pub do_node : ℕ → (Stmt × Expr) → Stmt
  do_node at p = stmt_of.Do at p.0 p.1

  pub do_there : (h ≡ 0 → ⊥) → do_run exprs h (levels exprs h) ts ≡ as_new do_made (in_turn Do (in_turn (levels exprs h).body (in_turn (of_kind (key_code key_of.While)) (in_turn (parens_run (exprs.expr h)) semicolon_run)))) ts
  unfolding do_run
  do_there n = ap (becoming do_made) (room_there h DoParts ts n)

  pub do_is : (at : ℕ) (q : List Token) (l : ℕ) → (h ≡ 0 → ⊥) → Do ts ≡ Found at q l → do_run exprs h (levels exprs h) ts ≡ Two (do_node at) (noting l ((levels exprs h).body q)) (do_test_run h)
  unfolding do_test_run
  do_is at q l n e =
      do_there n ∙ ap (λ (v : Read ℕ). becoming do_made (v >>= (λ a z. becoming (joined a) (in_turn (levels exprs h).body (in_turn (of_kind (key_code key_of.While)) (in_turn (parens_run (exprs.expr h)) semicolon_run)) z)))) e
      ∙ noted_two do_made at do_test (do_node at) (λ b c. refl) l ((levels exprs h).body q) DoTail

  -- clauses

  abbrev pub Catch : Run Clause
  Catch = catch_run exprs h (levels exprs h)

  abbrev pub Finally : Run Clause
  Finally = finally_run exprs h (levels exprs h)

  pub finally_is : Finally ts ≡ as_new clause_made (in_turn finally_opening_run (braced_items_run h)) ts
  unfolding finally_run finally_opening_run braced_items_run
  finally_is =
      first_made finally_made finally_opening (λ (p : Opening × Braces Stmt). clause_made (p.0, p.1.1.0)) (braced_run (levels exprs h).item) (λ a b. refl) (at_kind (key_code key_of.Finally)) ts
      ∙ second_made (λ (p : Opening × Braces Stmt). clause_made (p.0, p.1.1.0)) braces_list clause_made (λ a b. refl) (as_new finally_opening (at_kind (key_code key_of.Finally))) (braced_run (levels exprs h).item) ts

  pub catch_is : Catch ts ≡ as_new clause_made (in_turn (catch_opening_run h) (braced_items_run h)) ts
  unfolding catch_run catch_opening_run braced_items_run
  catch_is =
      let braced = braced_run (levels exprs h).item in
      let middle : (Opening × Braces Stmt) → Clause = λ p. clause_made (p.0, p.1.1.0) in
      grouped _ _ braced _ catch_made catch_opening middle
      (split_behind (at_kind (key_code key_of.Catch)) _ _ braced _ (split_behind (of_kind (sign_code sign_of.LeftParen)) _ _ braced _ (split_behind (modifiers_run exprs h) _ _ braced _ (split_behind (class_run h) _ _ braced _
      (split_behind (each_behind sign_of.Or (class_run h)) _ _ braced _ (split_behind an_ident_at _ _ braced _ (split_here (of_kind (sign_code sign_of.RightParen)) braced)))))))
      (λ d c. refl) ts
      ∙ second_made middle braces_list clause_made (λ a b. refl)
      (as_new catch_opening (in_turn (at_kind (key_code key_of.Catch)) (in_turn (of_kind (sign_code sign_of.LeftParen)) (in_turn (modifiers_run exprs h) (in_turn (class_run h) (in_turn (each_behind sign_of.Or (class_run h))
      (in_turn an_ident_at (of_kind (sign_code sign_of.RightParen)))))))))
      braced ts

  pub clauses_is : clauses_run exprs h (levels exprs h) ts ≡ as_new with_last (in_turn (any_number Catch) (perhaps Finally)) ts
  unfolding clauses_run
  clauses_is = refl

  pub some_catches_is : (c : Clause) (q : List Token) (l : ℕ) → Catch ts ≡ Found c q l → some_catches_run h ts ≡ noting l (becoming (λ more. c ∷ more) (any_number Catch q))
  unfolding some_catches_run
  some_catches_is c q l e = cut listed Catch (any_number Catch) ts q c l e

  abbrev pub CatchCode : List ℕ
  CatchCode = key_code key_of.Catch ∷ []

  pub some_clauses_catch : one_of CatchCode ts ≡ true → some_clauses_run exprs h (levels exprs h) ts ≡ as_new with_last (in_turn (some_catches_run h) (perhaps Finally)) ts
  unfolding some_clauses_run some_catches_run
  some_clauses_catch e =
      either_this some_clauses_made CatchCode (in_turn Catch (in_turn (any_number Catch) (perhaps Finally))) Finally ts e
      ∙ grouped _ _ (perhaps Finally) _ (λ p. some_clauses_made (This p)) listed with_last (split_behind Catch _ _ (perhaps Finally) _ (split_here (any_number Catch) (perhaps Finally))) (λ d c. refl) ts

  pub some_clauses_last : one_of CatchCode ts ≡ false → some_clauses_run exprs h (levels exprs h) ts ≡ as_new alone Finally ts
  unfolding some_clauses_run
  some_clauses_last e = either_that some_clauses_made CatchCode (in_turn Catch (in_turn (any_number Catch) (perhaps Finally))) Finally ts e

  -- `try`

  abbrev pub guarded_node : (List Stmt × List Clause) → Guarded
  guarded_node p = record { items = p.0; clauses = p.1 }

  pub guarded_is : guarded_run h ts ≡ as_new guarded_node (in_turn (braced_items_run h) (clauses_run exprs h (levels exprs h))) ts
  unfolding guarded_run braced_items_run
  guarded_is = first_made guarded_made braces_list guarded_node (clauses_run exprs h (levels exprs h)) (λ a b. refl) (braced_run (levels exprs h).item) ts

  pub plain_guarded_is : plain_guarded_run h ts ≡ as_new guarded_node (in_turn (braced_items_run h) (some_clauses_run exprs h (levels exprs h))) ts
  unfolding plain_guarded_run braced_items_run
  plain_guarded_is = first_made guarded_made braces_list guarded_node (some_clauses_run exprs h (levels exprs h)) (λ a b. refl) (braced_run (levels exprs h).item) ts

  abbrev Try : Run ℕ
  Try = at_kind (key_code key_of.Try)

  abbrev pub Open : List ℕ
  Open = sign_code sign_of.LeftParen ∷ []

  abbrev With : Run (Resources × (Braces Stmt × List Clause))
  With = in_turn (resources_run exprs h (levels exprs h)) (in_turn (braced_run (levels exprs h).item) (clauses_run exprs h (levels exprs h)))

  abbrev Plainly : Run (Braces Stmt × List Clause)
  Plainly = in_turn (braced_run (levels exprs h).item) (some_clauses_run exprs h (levels exprs h))

  pub try_with_is : (at : ℕ) (q : List Token) (l : ℕ) → Try ts ≡ Found at q l → one_of Open q ≡ true → try_run exprs h (levels exprs h) ts ≡ noting l (as_new (with_node at) (in_turn (roomy_resources_run h) (guarded_run h)) q)
  unfolding try_run roomy_resources_run guarded_run
  try_with_is at q l e o =
      cut try_made Try (either Open (with_room h With) Plainly) ts q at l e
      ∙ ap (noting l)
      (either_this (λ b. try_made (at, b)) Open (with_room h With) Plainly q o
      ∙ ap (becoming (λ p. try_made (at, This p))) (room_first h (resources_run exprs h (levels exprs h)) (in_turn (braced_run (levels exprs h).item) (clauses_run exprs h (levels exprs h))) q)
      ∙ second_made (λ p. try_made (at, This p)) guarded_made (with_node at) (λ a b. refl) (with_room h (resources_run exprs h (levels exprs h))) (in_turn (braced_run (levels exprs h).item) (clauses_run exprs h (levels exprs h))) q)

  abbrev pub try_node : (ℕ × Guarded) → Stmt
  try_node p = stmt_of.Try p.0 None p.1.items p.1.clauses

  pub try_plain_is : (at : ℕ) (q : List Token) (l : ℕ) → Try ts ≡ Found at q l → one_of Open q ≡ false → try_run exprs h (levels exprs h) ts ≡ as_new try_node (in_turn Try (plain_guarded_run h)) ts
  unfolding try_run plain_guarded_run
  try_plain_is at q l e o =
      cut try_made Try (either Open (with_room h With) Plainly) ts q at l e
      ∙ ap (noting l)
      (either_that (λ b. try_made (at, b)) Open (with_room h With) Plainly q o
      ∙ sym (remade guarded_made (λ g. try_node (at, g)) (λ b. try_made (at, That b)) (Plainly q) (λ b. refl)))
      ∙ sym (cut try_node Try (as_new guarded_made Plainly) ts q at l e)

  pub try_first : (l : ℕ) → Try ts ≡ Stopped l → try_run exprs h (levels exprs h) ts ≡ Stopped l
  unfolding try_run
  try_first l e = ap (λ (v : Read ℕ). becoming try_made (v >>= (λ a q. becoming (joined a) (either Open (with_room h With) Plainly q)))) e

  -- labels

  abbrev Colon : List ℕ
  Colon = sign_code sign_of.Colon ∷ []

  abbrev Labels : List Token → Bool
  Labels q = second_is word_code Colon q

  pub plain_none : h ≡ 0 → plain_run exprs h (levels exprs h) ts ≡ Stopped (length ts)
  unfolding plain_run
  plain_none e = ap (becoming (labeled_or effect_made)) (room_gone h (by_second word_code Colon (label_run (levels exprs h)) (in_turn (exprs.effect h) semicolon_run)) ts e)

  pub word_none : h ≡ 0 → word_run exprs h (levels exprs h) ts ≡ Stopped (length ts)
  unfolding word_run
  word_none e = ap (becoming (labeled_or local_or_effect)) (room_gone h (by_second word_code Colon (label_run (levels exprs h)) (trying (word_code ∷ []) (type_run h) (variables_run exprs h) (in_turn (exprs.effect h) semicolon_run))) ts e)

  second_this : {A : Type 0} (make : A → Stmt) (n : Run A) → Labels ts ≡ true → becoming (labeled_or make) (by_second word_code Colon (label_run (levels exprs h)) n ts) ≡ as_new labeled_made (label_run (levels exprs h)) ts
  second_this make n e =
      ap (becoming (labeled_or make)) (cond-true (Labels ts) (becoming This (label_run (levels exprs h) ts)) (past word_code ts (becoming That (n ts))) e)
      ∙ remade This (labeled_or make) labeled_made (label_run (levels exprs h) ts) (λ a. refl)

  past_made : {A B : Type 0} (f : A → B) (q : List Token) (m : Read A) → becoming f (past word_code q m) ≡ past word_code q (becoming f m)
  past_made f [] m = refl
  past_made f (t ∷ q) m = by_kind (kind_code t.kind == word_code) m
    where
      by_kind : (b : Bool) (m : Read _) → becoming f (cond b (noting (length q) m) m) ≡ cond b (noting (length q) (becoming f m)) (becoming f m)
      by_kind true (Found a r l) = refl
      by_kind true (Stopped l) = refl
      by_kind false m = refl

  second_that : {A : Type 0} (make : A → Stmt) (n : Run A) → Labels ts ≡ false → becoming (labeled_or make) (by_second word_code Colon (label_run (levels exprs h)) n ts) ≡ past word_code ts (as_new make n ts)
  second_that make n e =
      ap (becoming (labeled_or make)) (cond-false (Labels ts) (becoming This (label_run (levels exprs h) ts)) (past word_code ts (becoming That (n ts))) e)
      ∙ past_made (labeled_or make) ts (becoming That (n ts)) ∙ ap (past word_code ts) (remade That (labeled_or make) make (n ts) (λ a. refl))

  pub plain_label : (h ≡ 0 → ⊥) → Labels ts ≡ true → plain_run exprs h (levels exprs h) ts ≡ as_new labeled_made (label_run (levels exprs h)) ts
  unfolding plain_run
  plain_label n e = ap (becoming (labeled_or effect_made)) (room_there h (by_second word_code Colon (label_run (levels exprs h)) (in_turn (exprs.effect h) semicolon_run)) ts n) ∙ second_this effect_made (in_turn (exprs.effect h) semicolon_run) e

  pub plain_effect : (h ≡ 0 → ⊥) → Labels ts ≡ false → plain_run exprs h (levels exprs h) ts ≡ past word_code ts (ended_effect_run h ts)
  unfolding plain_run ended_effect_run
  plain_effect n e = ap (becoming (labeled_or effect_made)) (room_there h (by_second word_code Colon (label_run (levels exprs h)) (in_turn (exprs.effect h) semicolon_run)) ts n) ∙ second_that effect_made (in_turn (exprs.effect h) semicolon_run) e

  pub word_label : (h ≡ 0 → ⊥) → Labels ts ≡ true → word_run exprs h (levels exprs h) ts ≡ as_new labeled_made (label_run (levels exprs h)) ts
  unfolding word_run
  word_label n e = ap (becoming (labeled_or local_or_effect)) (room_there h (by_second word_code Colon (label_run (levels exprs h)) (trying (word_code ∷ []) (type_run h) (variables_run exprs h) (in_turn (exprs.effect h) semicolon_run))) ts n) ∙ second_this local_or_effect (trying (word_code ∷ []) (type_run h) (variables_run exprs h) (in_turn (exprs.effect h) semicolon_run)) e

  pub word_other : (h ≡ 0 → ⊥) → Labels ts ≡ false → word_run exprs h (levels exprs h) ts ≡ past word_code ts (local_or_effect_run h ts)
  unfolding word_run local_or_effect_run
  word_other n e = ap (becoming (labeled_or local_or_effect)) (room_there h (by_second word_code Colon (label_run (levels exprs h)) (trying (word_code ∷ []) (type_run h) (variables_run exprs h) (in_turn (exprs.effect h) semicolon_run))) ts n) ∙ second_that local_or_effect (trying (word_code ∷ []) (type_run h) (variables_run exprs h) (in_turn (exprs.effect h) semicolon_run)) e

  -- `if`

  abbrev Arm : Run Clause
  Arm = arm_run exprs h (levels exprs h)

  abbrev Behind : Run Branch
  Behind q = branch_run (length q) Arm (levels exprs h).other q

  pub if_none : h ≡ 0 → if_run exprs h (levels exprs h) ts ≡ Stopped (length ts)
  unfolding if_run
  if_none e = ap (becoming if_made) (room_gone h (followed arm_open no_more Arm Behind) ts e)

  pub if_there : (h ≡ 0 → ⊥) → if_run exprs h (levels exprs h) ts ≡ as_new if_made (followed arm_open no_more Arm Behind) ts
  unfolding if_run
  if_there n = ap (becoming if_made) (room_there h (followed arm_open no_more Arm Behind) ts n)

  first_arm : (c : Clause) (q : List Token) (l : ℕ) (closes : Bool) (v : Read Branch) → becoming if_made (noting l (cond closes (found (c, no_more) q) (becoming (joined c) v))) ≡ noting l (becoming (if_node (c ∷ [])) (cond closes (found no_more q) v))
  first_arm c q l true v = refl
  first_arm c q l false (Found b r k) = refl
  first_arm c q l false (Stopped k) = refl

  pub if_is : (c : Clause) (q : List Token) (l : ℕ) → (h ≡ 0 → ⊥) → Arm ts ≡ Found c q l → if_run exprs h (levels exprs h) ts ≡ noting l (arms_run h c q)
  unfolding arms_run
  if_is c q l n e = if_there n ∙ ap (λ (v : Read Clause). becoming if_made (v >>= unless arm_open no_more Behind)) e ∙ first_arm c q l (arm_open c) (Behind q)

  -- what stops at the first token

  pub try_halts : (e : Halt) → Halts e (Try ts) → Halts e (try_run exprs h (levels exprs h) ts)
  unfolding try_run
  try_halts e g = two_halts try_made (Try ts) (either Open (with_room h With) Plainly) e g

  pub if_halts : (e : Halt) → (h ≡ 0 → ⊥) → Halts e (Arm ts) → Halts e (if_run exprs h (levels exprs h) ts)
  if_halts e n g =
      subst (λ (v : Read Stmt). Halts e v) (sym (if_there n)) (halts_as if_made (followed arm_open no_more Arm Behind ts) e (halts_bind (Arm ts) (unless arm_open no_more Behind) e g))

  -- what stands behind an `else`

  abbrev Else : Run (Unit {0})
  Else = of_kind (key_code key_of.Else)

  abbrev IfCode : List ℕ
  IfCode = key_code key_of.If ∷ []

  pub branch_halts : (e : Halt) → Halts e (Else ts) → Halts e (branch_once_run h ts)
  unfolding branch_once_run
  branch_halts e g = two_halts branch_of (Else ts) (either IfCode Arm (levels exprs h).other) e g

  pub branch_arm : (q : List Token) (l : ℕ) → Else ts ≡ Found tt q l → one_of IfCode q ≡ true → branch_once_run h ts ≡ noting l (becoming branch_is.Arm (Arm q))
  unfolding branch_once_run
  branch_arm q l e o = cut branch_of Else (either IfCode Arm (levels exprs h).other) ts q tt l e ∙ ap (noting l) (either_this (λ b. branch_of (tt, b)) IfCode Arm (levels exprs h).other q o)

  pub branch_last : (q : List Token) (l : ℕ) → Else ts ≡ Found tt q l → one_of IfCode q ≡ false → branch_once_run h ts ≡ noting l (becoming branch_is.Last ((levels exprs h).other q))
  unfolding branch_once_run
  branch_last q l e o = cut branch_of Else (either IfCode Arm (levels exprs h).other) ts q tt l e ∙ ap (noting l) (either_that (λ b. branch_of (tt, b)) IfCode Arm (levels exprs h).other q o)
