-- What statements begin with, as the code reads it.
use Rattle.std.proofs.Common.{◌≡◌, ℕ, true, false, List, [], ◌∷◌, length, Option, refl, ap, ◌∙◌, arith}
use Rattle.jc_lexer.specs.declared.token.Key.{Key}
use Rattle.jc_lexer.specs.declared.token.Key.TheVariants as key_of
use Rattle.jc_lexer.specs.declared.token.Sign.TheVariants as sign_of
use Rattle.jc_lexer.specs.declared.token.Token.{Token}
use Rattle.jc_tree.specs.declared.expression.Expr.{Expr}
use Rattle.jc_tree.specs.declared.name.Ident.{Ident}
use Rattle.jc_tree.specs.declared.statement.Clause.{Clause}
use Rattle.jc_tree.specs.declared.statement.ClauseHead.TheVariants as clause_of
use Rattle.jc_tree.specs.declared.statement.Stmt.{Stmt}
use Rattle.jc_tree.specs.declared.statement.Stmt.TheVariants as stmt_of
use Rattle.jc_reading.specs.Kinds.{sign_code, key_code, one_of}
use Rattle.jc_reading.specs.Reading.{Stopped, Run, becoming, as_new, in_turn, any_number, perhaps, of_kind, at_kind, an_ident_at, before_it, This, That, either}
use Rattle.jc_reading.specs.Further.{with_room}
use Rattle.jc_expr_laws.specs.ExprReading.{exprs}
use Rattle.jc_unit_laws.specs.UnitReading.{Braces, CaseLabel, Level, arm_made, arm_run, block_made, block_run, braced_run, break_made, break_run, case_made, case_run, continue_made, continue_run, expr_in_run, for_head_run, for_made, for_run, label_run, labeled_made, parens_run, return_made, return_run, semicolon_run, switch_made, switch_run, throw_made, throw_run, while_made, while_run}
use Rattle.jc_unit_laws.specs.MemberReading.{levels}
use Rattle.jc_parse_nodes.specs.Joins.{alone}
use Rattle.jc_parse_heads.specs.UnitCode as code
use Rattle.jc_parse_heads.specs.UnitCode.{tested_made, tested_run, roomy_tested_run, ended_value_run, ended_label_run, ended_expr_run, braces_list, items_until_run, braced_groups_run, opening_of_label, case_label_run, default_label_run, for_opening, for_opening_run, named_label_run}
use Rattle.jc_parse_nodes.specs.Nodes.{clause_made}
use Rattle.jc_parse_nodes.specs.declared.pieces.ForOpening.{ForOpening}
use Rattle.jc_parse_nodes.specs.declared.pieces.Tested.{Tested}
use Rattle.jc_parse_heads.proofs.Joinings.{split_here, split_behind, split_room, grouped, first_made, second_made, either_this, either_that, room_gone, room_there}

abbrev Case : List ℕ
Case = key_code key_of.Case ∷ []

abbrev Case_label : ℕ → Run (ℕ × (Expr × Unit {0}))
Case_label h = with_room h (in_turn (at_kind (key_code key_of.Case)) (in_turn (exprs.conditional h) (of_kind (sign_code sign_of.Colon))))

abbrev Default_label : Run (ℕ × Unit {0})
Default_label = in_turn (at_kind (key_code key_of.Default)) (of_kind (sign_code sign_of.Colon))

pub label_case : (h : ℕ) (ts : List Token) → one_of Case ts ≡ true → code.label_run h ts ≡ case_label_run h ts
unfolding code.label_run case_label_run
label_case h ts e = either_this opening_of_label Case (Case_label h) Default_label ts e

pub label_default : (h : ℕ) (ts : List Token) → one_of Case ts ≡ false → code.label_run h ts ≡ default_label_run ts
unfolding code.label_run default_label_run
label_default h ts e = either_that opening_of_label Case (Case_label h) Default_label ts e

pub roomy_none : (key : Key) (h : ℕ) (ts : List Token) → h ≡ 0 → roomy_tested_run key h ts ≡ Stopped (length ts)
unfolding roomy_tested_run
roomy_none key h ts e = ap (becoming tested_made) (room_gone h (in_turn (at_kind (key_code key)) (parens_run (exprs.expr h))) ts e)

pub roomy_there : (key : Key) (h : ℕ) (ts : List Token) → (h ≡ 0 → ⊥) → roomy_tested_run key h ts ≡ tested_run key h ts
unfolding roomy_tested_run tested_run
roomy_there key h ts n = ap (becoming tested_made) (room_there h (in_turn (at_kind (key_code key)) (parens_run (exprs.expr h))) ts n)

-- statements of one keyword

abbrev pub while_node : (Tested × Stmt) → Stmt
while_node p = stmt_of.While p.0.at p.0.test p.1

pub while_is : (h : ℕ) (l : Level) (ts : List Token) → while_run exprs h l ts ≡ as_new while_node (in_turn (roomy_tested_run key_of.While h) l.body) ts
unfolding while_run roomy_tested_run
while_is h l ts =
    let at = at_kind (key_code key_of.While) in
    let parens = parens_run (exprs.expr h) in
    grouped _ _ l.body _ while_made tested_made while_node (split_room h _ _ l.body _ (split_behind at _ _ l.body _ (split_here parens l.body))) (λ d c. refl) ts

abbrev pub for_node : (ForOpening × Stmt) → Stmt
for_node p = stmt_of.For p.0.at p.0.head p.1

pub for_is : (h : ℕ) (l : Level) (ts : List Token) → for_run exprs h l ts ≡ as_new for_node (in_turn (for_opening_run h) l.body) ts
unfolding for_run for_opening_run
for_is h l ts =
    grouped _ _ l.body _ for_made for_opening for_node
    (split_room h _ _ l.body _ (split_behind (at_kind (key_code key_of.For)) _ _ l.body _ (split_behind (of_kind (sign_code sign_of.LeftParen)) _ _ l.body _ (split_behind (for_head_run exprs h) _ _ l.body _ (split_here (of_kind (sign_code sign_of.RightParen)) l.body)))))
    (λ d c. refl) ts

abbrev pub switch_node : (Tested × List Clause) → Stmt
switch_node p = stmt_of.Switch p.0.at p.0.test p.1

pub switch_is : (h : ℕ) (ts : List Token) → switch_run exprs h (levels exprs h) ts ≡ as_new switch_node (in_turn (roomy_tested_run key_of.Switch h) (braced_groups_run h)) ts
unfolding switch_run roomy_tested_run braced_groups_run
switch_is h ts =
    let at = at_kind (key_code key_of.Switch) in
    let parens = parens_run (exprs.expr h) in
    let groups = braced_run (case_run exprs h (levels exprs h)) in
    let middle : (Tested × Braces Clause) → Stmt = λ p. stmt_of.Switch p.0.at p.0.test p.1.1.0 in
    grouped _ _ groups _ switch_made tested_made middle (split_room h _ _ groups _ (split_behind at _ _ groups _ (split_here parens groups))) (λ d c. refl) ts
    ∙ second_made middle braces_list switch_node (λ a b. refl) (as_new tested_made (with_room h (in_turn at parens))) groups ts

abbrev pub arm_node : (Tested × List Stmt) → Clause
arm_node p = clause_made (record { at = p.0.at; head = clause_of.If p.0.test }, p.1)

pub arm_is : (h : ℕ) (l : Level) (ts : List Token) → arm_run exprs h l ts ≡ as_new arm_node (in_turn (tested_run key_of.If h) (as_new alone l.body)) ts
unfolding arm_run tested_run
arm_is h l ts =
    let at = at_kind (key_code key_of.If) in
    let parens = parens_run (exprs.expr h) in
    let middle : (Tested × Stmt) → Clause = λ p. clause_made (record { at = p.0.at; head = clause_of.If p.0.test }, p.1 ∷ []) in
    grouped _ _ l.body _ arm_made tested_made middle (split_behind at _ _ l.body _ (split_here parens l.body)) (λ d c. refl) ts
    ∙ second_made middle alone arm_node (λ a b. refl) (as_new tested_made (in_turn at parens)) l.body ts

case_same : (a : CaseLabel) (b : List Stmt) → case_made (a, b) ≡ clause_made (opening_of_label a, b)
case_same (This p) b = refl
case_same (That p) b = refl

pub case_is : (h : ℕ) (l : Level) (ts : List Token) → case_run exprs h l ts ≡ as_new clause_made (in_turn (code.label_run h) (any_number l.case_item)) ts
unfolding case_run code.label_run
case_is h l ts = first_made case_made opening_of_label clause_made (any_number l.case_item) case_same (either Case (Case_label h) Default_label) ts

abbrev pub block_node : (ℕ × List Stmt) → Stmt
block_node p = stmt_of.Block p.0 p.1

pub block_is : (h : ℕ) (ts : List Token) → block_run exprs h (levels exprs h) ts ≡ as_new block_node (in_turn (at_kind (sign_code sign_of.LeftBrace)) (items_until_run h)) ts
unfolding block_run items_until_run
block_is h ts = second_made block_made before_it block_node (λ a b. refl) (at_kind (sign_code sign_of.LeftBrace)) (in_turn (any_number (levels exprs h).item) (of_kind (sign_code sign_of.RightBrace))) ts

abbrev pub labeled_node : (Ident × Stmt) → Stmt
labeled_node p = stmt_of.Labeled p.0 p.1

pub labeled_is : (l : Level) (ts : List Token) → as_new labeled_made (label_run l) ts ≡ as_new labeled_node (in_turn named_label_run l.body) ts
unfolding named_label_run
labeled_is l ts =
    grouped _ _ l.body _ labeled_made before_it labeled_node (split_behind an_ident_at _ _ l.body _ (split_here (of_kind (sign_code sign_of.Colon)) l.body)) (λ d c. refl) ts

-- statements without statements in them

abbrev pub return_node : (ℕ × Option Expr) → Stmt
return_node p = stmt_of.Return p.0 p.1

pub return_is : (h : ℕ) (l : Level) (ts : List Token) → return_run exprs h l ts ≡ as_new return_node (in_turn (at_kind (key_code key_of.Return)) (ended_value_run h)) ts
unfolding return_run ended_value_run
return_is h l ts = second_made return_made before_it return_node (λ a b. refl) (at_kind (key_code key_of.Return)) (in_turn (perhaps (expr_in_run exprs h)) semicolon_run) ts

abbrev pub break_node : (ℕ × Option Ident) → Stmt
break_node p = stmt_of.Break p.0 p.1

pub break_is : (h : ℕ) (l : Level) (ts : List Token) → break_run exprs h l ts ≡ as_new break_node (in_turn (at_kind (key_code key_of.Break)) ended_label_run) ts
unfolding break_run ended_label_run
break_is h l ts = second_made break_made before_it break_node (λ a b. refl) (at_kind (key_code key_of.Break)) (in_turn (perhaps an_ident_at) semicolon_run) ts

abbrev pub continue_node : (ℕ × Option Ident) → Stmt
continue_node p = stmt_of.Continue p.0 p.1

pub continue_is : (h : ℕ) (l : Level) (ts : List Token) → continue_run exprs h l ts ≡ as_new continue_node (in_turn (at_kind (key_code key_of.Continue)) ended_label_run) ts
unfolding continue_run ended_label_run
continue_is h l ts = second_made continue_made before_it continue_node (λ a b. refl) (at_kind (key_code key_of.Continue)) (in_turn (perhaps an_ident_at) semicolon_run) ts

abbrev pub throw_node : (ℕ × Expr) → Stmt
throw_node p = stmt_of.Throw p.0 p.1

pub throw_none : (h : ℕ) (l : Level) (ts : List Token) → h ≡ 0 → throw_run exprs h l ts ≡ Stopped (length ts)
unfolding throw_run
throw_none h l ts e = ap (becoming throw_made) (room_gone h (in_turn (at_kind (key_code key_of.Throw)) (in_turn (exprs.expr h) semicolon_run)) ts e)

pub throw_there : (h : ℕ) (l : Level) (ts : List Token) → (h ≡ 0 → ⊥) → throw_run exprs h l ts ≡ as_new throw_node (in_turn (at_kind (key_code key_of.Throw)) (ended_expr_run h)) ts
unfolding throw_run ended_expr_run
throw_there h l ts n = ap (becoming throw_made) (room_there h (in_turn (at_kind (key_code key_of.Throw)) (in_turn (exprs.expr h) semicolon_run)) ts n) ∙ second_made throw_made before_it throw_node (λ a b. refl) (at_kind (key_code key_of.Throw)) (in_turn (exprs.expr h) semicolon_run) ts
