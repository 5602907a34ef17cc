-- Parts of statements and declarations, as the code reads them.
use Rattle.jc_parse_nodes.specs.Nodes.{bare_local}
use Rattle.std.specs.Prelude.{ℕ, Bool, List, [], ◌∷◌, ◌++◌, map, length, Option, Some, cond}
use Rattle.jc_lexer.specs.declared.token.Key.{Key}
use Rattle.jc_lexer.specs.declared.token.Key.TheVariants as key_of
use Rattle.jc_lexer.specs.declared.token.Sign.TheVariants as sign_of
use Rattle.jc_tree.specs.declared.name.Ident.{Ident}
use Rattle.jc_tree.specs.declared.expression.Expr.{Expr}
use Rattle.jc_tree.specs.declared.statement.Clause.{Clause}
use Rattle.jc_tree.specs.declared.statement.ClauseHead.TheVariants as clause_of
use Rattle.jc_tree.specs.declared.statement.ForHead.{ForHead}
use Rattle.jc_tree.specs.declared.statement.Member.{Member}
use Rattle.jc_tree.specs.declared.statement.Stmt.{Stmt}
use Rattle.jc_tree.specs.declared.statement.Stmt.TheVariants as stmt_of
use Rattle.jc_parse_parts.specs.Parts.{head_tree, vars_tree_run}
use Rattle.jc_parse_nodes.specs.declared.trees.Vars.{Vars}
use Rattle.jc_lexer.specs.declared.token.Token.{Token}
use Rattle.jc_reading.specs.Kinds.{sign_code, key_code, word_code, one_of}
use Rattle.jc_reading.specs.Reading.{Read, Run, noting, Either, This, That, becoming, either, found, as_new, in_turn, any_number, perhaps, of_kind, at_kind, an_ident_at, before_it, behind_it, each_behind}
use Rattle.jc_reading.specs.Further.{trying, with_room}
use Rattle.jc_expr_laws.specs.ExprReading.{exprs, strict_effect}
use Rattle.jc_unit_laws.specs.UnitReading.{Braces, CaseLabel, DeclarationRest, braced_run, break_run, case_run, catch_run, clauses_run, continue_run, effect_made, expr_in_run, for_head_run, for_run, local_or_effect, Variables, or_none, or_others, parens_run, resources_run, return_run, semicolon_run, some_clauses_run, switch_run, throw_run, try_run, variables_run}
use Rattle.jc_parse_type.specs.TypeReading.{class_run, type_run}
use Rattle.jc_part_laws.specs.PartReading.{modifier_run, modifiers_run}
use Rattle.jc_tree.specs.declared.types.ClassTree.{ClassTree}
use Rattle.jc_tree.specs.declared.statement.Modifier.{Modifier}
use Rattle.jc_tree.specs.declared.statement.Resources.{Resources}
use Rattle.jc_unit_laws.specs.MemberReading.{code_rest_run, levels, member_made, member_run, rest_run}
use Rattle.jc_tree.specs.declared.types.TypeTree.{TypeTree}
use Rattle.jc_parse_nodes.specs.declared.pieces.Typed.{Typed}
use Rattle.jc_unit_laws.specs.UnitReading.{arm_open, arm_run, branch_run, no_more, simple_run}
use Rattle.jc_unit_laws.specs.UnitReading.{Branch as UnitBranch}
use Rattle.jc_unit_laws.specs.MemberReading.{declared_made, static_made}
use Rattle.jc_tree.specs.declared.statement.TopLevel.{TopLevel}
use Rattle.jc_parse_nodes.specs.declared.pieces.Branch.{Branch}
use Rattle.jc_parse_nodes.specs.declared.pieces.Branch.TheVariants as branch_is
use Rattle.jc_parse_nodes.specs.declared.pieces.Body.{Body}
use Rattle.jc_parse_nodes.specs.declared.pieces.ForOpening.{ForOpening}
use Rattle.jc_parse_nodes.specs.declared.pieces.Guarded.{Guarded}
use Rattle.jc_parse_nodes.specs.declared.pieces.Opening.{Opening}
use Rattle.jc_parse_nodes.specs.declared.pieces.Tested.{Tested}

-- "(" Expr ")"
abbrev pub inner : (Unit {0} × (Expr × Unit {0})) → Expr
inner p = p.1.0

unfoldable pub inner_run : ℕ → Run Expr
inner_run h = as_new inner (parens_run (exprs.expr h))

-- a keyword and a test
abbrev pub tested_made : (ℕ × (Unit {0} × (Expr × Unit {0}))) → Tested
tested_made p = record { at = p.0; test = p.1.1.0 }

unfoldable pub tested_run : Key → ℕ → Run Tested
tested_run key h = as_new tested_made (in_turn (at_kind (key_code key)) (parens_run (exprs.expr h)))

-- the same, where there is room
unfoldable pub roomy_tested_run : Key → ℕ → Run Tested
roomy_tested_run key h = as_new tested_made (with_room h (in_turn (at_kind (key_code key)) (parens_run (exprs.expr h))))

-- what stands before a semicolon

-- a value or none; a name or none, without and with the semicolon; and an expression
unfoldable pub ended_value_run : ℕ → Run (Option Expr)
ended_value_run h = as_new before_it (in_turn (perhaps (expr_in_run exprs h)) semicolon_run)

unfoldable pub some_name_run : Run (Option Ident)
some_name_run = perhaps an_ident_at

unfoldable pub ended_label_run : Run (Option Ident)
ended_label_run = as_new before_it (in_turn (perhaps an_ident_at) semicolon_run)

unfoldable pub ended_expr_run : ℕ → Run Expr
ended_expr_run h = as_new before_it (in_turn (exprs.expr h) semicolon_run)

-- lists up to a right brace, and between braces

-- any number of them, up to the right brace
abbrev pub until_brace : {A : Type 0} → Run A → Run (List A)
until_brace run = as_new before_it (in_turn (any_number run) (of_kind (sign_code sign_of.RightBrace)))

abbrev pub braces_list : {A : Type 0} → Braces A → List A
braces_list p = p.1.0

-- statements, the groups of a switch, and the members of a type
unfoldable pub items_until_run : ℕ → Run (List Stmt)
items_until_run h = until_brace (levels exprs h).item

unfoldable pub braced_items_run : ℕ → Run (List Stmt)
braced_items_run h = as_new braces_list (braced_run (levels exprs h).item)

unfoldable pub braced_groups_run : ℕ → Run (List Clause)
braced_groups_run h = as_new braces_list (braced_run (case_run exprs h (levels exprs h)))

unfoldable pub braced_members_run : ℕ → Run (List Member)
braced_members_run h = as_new braces_list (braced_run (member_run exprs h (levels exprs h)))

-- parts of statements

-- the place of a label of a switch and what it says, `case` or `default` (JLS 14.11)
abbrev pub opening_of_label : CaseLabel → Opening
opening_of_label (This p) = record { at = p.0; head = clause_of.Case p.1.0 }
opening_of_label (That p) = record { at = p.0; head = clause_of.Default }

abbrev pub case_opening : (ℕ × (Expr × Unit {0})) → Opening
case_opening p = record { at = p.0; head = clause_of.Case p.1.0 }

abbrev pub default_opening : (ℕ × Unit {0}) → Opening
default_opening p = record { at = p.0; head = clause_of.Default }

-- the value of a case and its colon
unfoldable pub case_value_run : ℕ → Run Expr
case_value_run h = as_new before_it (in_turn (exprs.conditional h) (of_kind (sign_code sign_of.Colon)))

-- `case` with its value, where there is room, and `default`, each with its place and its colon
unfoldable pub case_label_run : ℕ → Run Opening
case_label_run h = as_new case_opening (with_room h (in_turn (at_kind (key_code key_of.Case)) (in_turn (exprs.conditional h) (of_kind (sign_code sign_of.Colon)))))

unfoldable pub default_label_run : Run Opening
default_label_run = as_new default_opening (in_turn (at_kind (key_code key_of.Default)) (of_kind (sign_code sign_of.Colon)))

-- a label of a switch
unfoldable pub label_run : ℕ → Run Opening
label_run h = as_new opening_of_label (either (key_code key_of.Case ∷ []) (with_room h (in_turn (at_kind (key_code key_of.Case)) (in_turn (exprs.conditional h) (of_kind (sign_code sign_of.Colon))))) (in_turn (at_kind (key_code key_of.Default)) (of_kind (sign_code sign_of.Colon))))

-- the place of its keyword, and its head
abbrev pub for_opening : (ℕ × (Unit {0} × (ForHead × Unit {0}))) → ForOpening
for_opening p = record { at = p.0; head = p.1.1.0 }

-- a `for` up to its body
unfoldable pub for_opening_run : ℕ → Run ForOpening
for_opening_run h = as_new for_opening (with_room h (in_turn (at_kind (key_code key_of.For)) (in_turn (of_kind (sign_code sign_of.LeftParen)) (in_turn (for_head_run exprs h) (of_kind (sign_code sign_of.RightParen))))))

-- a name and a colon
unfoldable pub named_label_run : Run Ident
named_label_run = as_new before_it (in_turn an_ident_at (of_kind (sign_code sign_of.Colon)))

abbrev pub do_test : (Unit {0} × ((Unit {0} × (Expr × Unit {0})) × Unit {0})) → Expr
do_test p = p.1.0.1.0

-- what stands behind the body of a `do`
unfoldable pub do_test_run : ℕ → Run Expr
do_test_run h = as_new do_test (in_turn (of_kind (key_code key_of.While)) (in_turn (parens_run (exprs.expr h)) semicolon_run))

-- `finally`, with its place
abbrev pub finally_opening : ℕ → Opening
finally_opening at = record { at = at; head = clause_of.Finally }

unfoldable pub finally_opening_run : Run Opening
finally_opening_run = as_new finally_opening (at_kind (key_code key_of.Finally))

-- a catch up to its block
abbrev pub CatchHead : Type 0
CatchHead = ℕ × (Unit {0} × (List Modifier × (ClassTree × (List (Unit {0} × ClassTree) × (Ident × Unit {0})))))

abbrev pub catch_opening : CatchHead → Opening
catch_opening p = record { at = p.0; head = clause_of.Catch p.1.1.0 p.1.1.1.0 (map behind_it p.1.1.1.1.0) p.1.1.1.1.1.0 }

unfoldable pub catch_opening_run : ℕ → Run Opening
catch_opening_run h =
    as_new catch_opening (in_turn (at_kind (key_code key_of.Catch)) (in_turn (of_kind (sign_code sign_of.LeftParen)) (in_turn (modifiers_run exprs h) (in_turn (class_run h) (in_turn (each_behind sign_of.Or (class_run h))
    (in_turn an_ident_at (of_kind (sign_code sign_of.RightParen))))))))

-- the first one before the others
abbrev pub listed : {A : Type 0} → (A × List A) → List A
listed p = p.0 ∷ p.1

-- one catch or more
unfoldable pub some_catches_run : ℕ → Run (List Clause)
some_catches_run h = as_new listed (in_turn (catch_run exprs h (levels exprs h)) (any_number (catch_run exprs h (levels exprs h))))

-- clauses, and a last one or none
abbrev pub with_last : {A : Type 0} → (List A × Option A) → List A
with_last p = p.0 ++ or_none p.1

-- the block of a `try` and its clauses: behind resources there may be none of these (JLS 14.20, 14.20.3)
abbrev pub guarded_made : (Braces Stmt × List Clause) → Guarded
guarded_made p = record { items = p.0.1.0; clauses = p.1 }

unfoldable pub guarded_run : ℕ → Run Guarded
guarded_run h = as_new guarded_made (in_turn (braced_run (levels exprs h).item) (clauses_run exprs h (levels exprs h)))

unfoldable pub plain_guarded_run : ℕ → Run Guarded
plain_guarded_run h = as_new guarded_made (in_turn (braced_run (levels exprs h).item) (some_clauses_run exprs h (levels exprs h)))

-- resources, where there is room, and the statement that they make with a block and its clauses
unfoldable pub roomy_resources_run : ℕ → Run Resources
roomy_resources_run h = with_room h (resources_run exprs h (levels exprs h))

abbrev pub with_node : ℕ → (Resources × Guarded) → Stmt
with_node at p = stmt_of.Try at (Some p.0) p.1.items p.1.clauses

-- an effect and a semicolon
unfoldable pub ended_effect_run : ℕ → Run Stmt
ended_effect_run h = as_new effect_made (in_turn (exprs.effect h) semicolon_run)

-- variables without modifiers, or an effect
unfoldable pub local_or_effect_run : ℕ → Run Stmt
local_or_effect_run h = as_new local_or_effect (trying (word_code ∷ []) (type_run h) (variables_run exprs h) (in_turn (exprs.effect h) semicolon_run))

-- statements of one keyword, without the first ones
unfoldable pub keyed_run : ℕ → Run Stmt
keyed_run h =
    or_others (key_code key_of.For ∷ []) (for_run exprs h (levels exprs h)) (or_others (key_code key_of.Switch ∷ []) (switch_run exprs h (levels exprs h))
    (or_others (key_code key_of.Return ∷ []) (return_run exprs h (levels exprs h)) (or_others (key_code key_of.Break ∷ []) (break_run exprs h (levels exprs h)) (or_others (key_code key_of.Continue ∷ []) (continue_run exprs h (levels exprs h))
    (or_others (key_code key_of.Throw ∷ []) (throw_run exprs h (levels exprs h)) (try_run exprs h (levels exprs h)))))))

-- a declaration behind its modifiers

abbrev pub body_made : DeclarationRest → Body
body_made p = record { head = head_tree p.0; members = p.1.1.0 }

unfoldable pub declaration_rest_run : ℕ → Run Body
declaration_rest_run h = as_new body_made (rest_run exprs h (levels exprs h))

-- variables behind their modifiers

abbrev pub typed_made : (TypeTree × Variables) → Typed
typed_made p = record { ty = p.0; first = p.1.0.0; more = map behind_it p.1.0.1 }

unfoldable pub typed_run : ℕ → Run Typed
typed_run h = as_new typed_made (in_turn (type_run h) (variables_run exprs h))

-- members that are methods, constructors or fields
unfoldable pub coded_member_run : ℕ → List Modifier → Run Member
coded_member_run h modifiers = as_new (λ r. member_made modifiers (That r)) (code_rest_run exprs h (levels exprs h))

-- what stands behind an arm of an `if`

abbrev pub branch_of : (Unit {0} × Either Clause Stmt) → Branch
branch_of (u, This arm) = branch_is.Arm arm
branch_of (u, That stmt) = branch_is.Last stmt

unfoldable pub branch_once_run : ℕ → Run Branch
branch_once_run h = as_new branch_of (in_turn (of_kind (key_code key_of.Else)) (either (key_code key_of.If ∷ []) (arm_run exprs h (levels exprs h)) (levels exprs h).other))

-- the statement of arms that are read already, and of what is read behind them
abbrev pub if_node : List Clause → UnitBranch → Stmt
if_node arms b = stmt_of.If (arms ++ b.0) (or_none b.1)

-- what is read behind an arm, with room for n further ones: nothing where `closes` holds, since an `else` belongs to the arm's body then
abbrev pub more_arms : ℕ → ℕ → Bool → Run UnitBranch
more_arms h n closes ts = cond closes (found no_more ts) (branch_run n (arm_run exprs h (levels exprs h)) (levels exprs h).other ts)

-- what is read behind a first arm
unfoldable pub arms_run : ℕ → Clause → Run Stmt
arms_run h first ts = becoming (if_node (first ∷ [])) (more_arms h (length ts) (arm_open first) ts)

-- a static block
unfoldable pub static_run : ℕ → Run Member
static_run h = as_new static_made (in_turn (at_kind (key_code key_of.Static)) (braced_run (levels exprs h).item))

-- a block, a semicolon or a statement of one keyword
unfoldable pub simply_run : ℕ → Run Stmt
simply_run h = simple_run exprs h (levels exprs h)

-- effects as the code reads them
unfoldable pub ended_strict_run : ℕ → Run Stmt
ended_strict_run h = as_new effect_made (in_turn (strict_effect h) semicolon_run)

-- variables and a semicolon
unfoldable pub ended_vars_run : ℕ → Run Vars
ended_vars_run h = as_new before_it (in_turn (vars_tree_run h) semicolon_run)

-- one modifier or more, where there is room
unfoldable pub roomy_modifiers_run : ℕ → Run (List Modifier)
roomy_modifiers_run h = as_new listed (with_room h (in_turn (modifier_run exprs h) (modifiers_run exprs h)))

-- behind a type: variables where a name stands there, and else an effect in its place
abbrev pub typed_or_run : ℕ → TypeTree → List Token → ℕ → List Token → Read Stmt
typed_or_run h ty rest left ts = cond (one_of (word_code ∷ []) rest) (noting left (becoming (bare_local ty) (ended_vars_run h rest))) (noting left (ended_effect_run h ts))

-- a declaration of a file, with its modifiers
unfoldable pub declared_top_run : Run TopLevel
declared_top_run = as_new declared_made (in_turn (modifiers_run exprs 198) (rest_run exprs 198 (levels exprs 198)))
