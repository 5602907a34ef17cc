-- How statements, members and files are read (JLS 7, 8, 9, 14).
use Rattle.std.specs.Prelude.{ℕ, zero, suc, Bool, ◌++◌, List, [], ◌∷◌, map, length, Option, Some, None}
use Rattle.jc_lexer.specs.declared.token.Key.TheVariants as key_of
use Rattle.jc_lexer.specs.declared.token.Sign.TheVariants as sign_of
use Rattle.jc_tree.specs.declared.name.Ident.{Ident}
use Rattle.jc_tree.specs.declared.types.ClassTree.{ClassTree}
use Rattle.jc_tree.specs.declared.types.TypeTree.{TypeTree}
use Rattle.jc_tree.specs.declared.expression.Expr.{Expr}
use Rattle.jc_tree.specs.declared.expression.Init.{Init}
use Rattle.jc_tree.specs.declared.statement.Clause.{Clause, roll-Clause}
use Rattle.jc_tree.specs.declared.statement.ClauseHead.TheVariants as clause_of
use Rattle.jc_tree.specs.declared.statement.Declaration.{Declaration, roll-Declaration}
use Rattle.jc_tree.specs.declared.statement.ForHead.{ForHead}
use Rattle.jc_tree.specs.declared.statement.ForHead.TheVariants as for_of
use Rattle.jc_tree.specs.declared.statement.ForInit.{ForInit}
use Rattle.jc_tree.specs.declared.statement.ForInit.TheVariants as init_of
use Rattle.jc_tree.specs.declared.statement.LocalVars.{LocalVars}
use Rattle.jc_tree.specs.declared.statement.Member.{Member}
use Rattle.jc_tree.specs.declared.statement.Modifier.{Modifier}
use Rattle.jc_tree.specs.declared.statement.Resource.{Resource}
use Rattle.jc_tree.specs.declared.statement.Resources.{Resources}
use Rattle.jc_tree.specs.declared.statement.Stmt.{Stmt}
use Rattle.jc_tree.specs.declared.statement.Stmt.TheVariants as stmt_of
use Rattle.jc_tree.specs.declared.statement.Var.{Var}
use Rattle.jc_grammar.specs.Units.{clause_shape, stmt_shape}
use Rattle.jc_reading.specs.Kinds.{sign_code, key_code, word_code}
use Rattle.jc_reading.specs.Reading.{Run, found, as_new, in_turn, perhaps, any_number, each_behind, Either, This, That, either, behind_it, commas_run, of_kind, at_kind, an_ident_at}
use Rattle.jc_parse_type.specs.TypeReading.{dims_run, type_run, class_run}
use Rattle.jc_reading.specs.Further.{with_room, followed, by_second, trying, either_one}
use Rattle.jc_part_laws.specs.PartReading.{Exprs, HeadRest, head_made, modifier_word_codes, modifier_run, modifiers_run, rows_tail_run, var_run, vars_run}

-- between braces
abbrev pub Braces : Type 0 → Type 0
Braces A = Unit {0} × (List A × Unit {0})

abbrev pub braced_run : {A : Type 0} → Run A → Run (Braces A)
braced_run run = in_turn (of_kind (sign_code sign_of.LeftBrace)) (in_turn (any_number run) (of_kind (sign_code sign_of.RightBrace)))

-- between braces, with their place
abbrev pub PlacedBraces : Type 0 → Type 0
PlacedBraces A = ℕ × (List A × Unit {0})

abbrev pub braced_at_run : {A : Type 0} → Run A → Run (PlacedBraces A)
braced_at_run run = in_turn (at_kind (sign_code sign_of.LeftBrace)) (in_turn (any_number run) (of_kind (sign_code sign_of.RightBrace)))

-- ";"
abbrev pub semicolon_run : Run (Unit {0})
semicolon_run = of_kind (sign_code sign_of.Semicolon)

-- "(" Expr ")"
abbrev pub parens_run : Run Expr → Run (Unit {0} × (Expr × Unit {0}))
parens_run expr = in_turn (of_kind (sign_code sign_of.LeftParen)) (in_turn expr (of_kind (sign_code sign_of.RightParen)))

-- a declaration behind its modifiers
abbrev pub DeclarationRest : Type 0
DeclarationRest = HeadRest × Braces Member

-- the declaration of its modifiers and of what stands behind them
abbrev pub declaration_made : List Modifier → DeclarationRest → Declaration
declaration_made modifiers p = roll-Declaration (record { head = head_made modifiers p.0; members = p.1.1.0 })

-- how statements and declarations of at most a height are read: as a body, behind an `else`, in a block, behind a label of a switch, first in a
-- constructor; and what stands behind the modifiers of a declaration of a type
pub record Level : Type 0 where
  pub body : Run Stmt
  pub other : Run Stmt
  pub item : Run Stmt
  pub case_item : Run Stmt
  pub first : Run Stmt
  pub rest : Run DeclarationRest

-- statements of one keyword

-- a block, at the place of its brace (JLS 14.2)
abbrev pub block_made : PlacedBraces Stmt → Stmt
block_made p = stmt_of.Block p.0 p.1.0

-- loops, at the place of their first keyword (JLS 14.12, 14.13)
abbrev pub while_made : (ℕ × ((Unit {0} × (Expr × Unit {0})) × Stmt)) → Stmt
while_made p = stmt_of.While p.0 p.1.0.1.0 p.1.1

abbrev pub do_made : (ℕ × (Stmt × (Unit {0} × ((Unit {0} × (Expr × Unit {0})) × Unit {0})))) → Stmt
do_made p = stmt_of.Do p.0 p.1.0 p.1.1.1.0.1.0

-- the value or the label is None where it is left out (JLS 14.15 to 14.17)
abbrev pub return_made : (ℕ × (Option Expr × Unit {0})) → Stmt
return_made p = stmt_of.Return p.0 p.1.0

abbrev pub break_made : (ℕ × (Option Ident × Unit {0})) → Stmt
break_made p = stmt_of.Break p.0 p.1.0

abbrev pub continue_made : (ℕ × (Option Ident × Unit {0})) → Stmt
continue_made p = stmt_of.Continue p.0 p.1.0

-- `throw` has its value always (JLS 14.18)
abbrev pub throw_made : (ℕ × (Expr × Unit {0})) → Stmt
throw_made p = stmt_of.Throw p.0 p.1.0

-- a label of a switch and what stands behind it

-- "case" Cond ":", or "default" ":", with the place of the keyword (JLS 14.11)
abbrev pub CaseLabel : Type 0
CaseLabel = Either (ℕ × (Expr × Unit {0})) (ℕ × Unit {0})

-- the label with the statements behind it, of which there may be none
abbrev pub case_made : (CaseLabel × List Stmt) → Clause
case_made (This p, items) = roll-Clause (record { at = p.0; head = clause_of.Case p.1.0; items = items })
case_made (That p, items) = roll-Clause (record { at = p.0; head = clause_of.Default; items = items })

-- the `switch` of its value and its parts
abbrev pub switch_made : (ℕ × ((Unit {0} × (Expr × Unit {0})) × Braces Clause)) → Stmt
switch_made p = stmt_of.Switch p.0 p.1.0.1.0 p.1.1.1.0

-- catches

-- "catch" "(" Mods ClassT {"|" ClassT} Id ")" Block, with the place of the keyword (JLS 14.20)
abbrev pub CatchParts : Type 0
CatchParts = ℕ × (Unit {0} × (List Modifier × (ClassTree × (List (Unit {0} × ClassTree) × (Ident × (Unit {0} × Braces Stmt))))))

abbrev pub catch_made : CatchParts → Clause
catch_made (at, (u, (modifiers, (first, (more, (name, (v, braces))))))) = roll-Clause (record { at = at; head = clause_of.Catch modifiers first (map behind_it more) name; items = braces.1.0 })

-- "finally" Block, with the place of the keyword (JLS 14.20)
abbrev pub finally_made : (ℕ × Braces Stmt) → Clause
finally_made p = roll-Clause (record { at = p.0; head = clause_of.Finally; items = p.1.1.0 })

-- what may be left out, as a list of at most one
abbrev pub or_none : {A : Type 0} → Option A → List A
or_none None = []
or_none (Some a) = a ∷ []

-- catches, and then at most one `finally`
abbrev pub clauses_made : (List Clause × Option Clause) → List Clause
clauses_made p = p.0 ++ or_none p.1

-- at least one
abbrev pub some_clauses_made : Either (Clause × (List Clause × Option Clause)) Clause → List Clause
some_clauses_made (This p) = p.0 ∷ clauses_made p.1
some_clauses_made (That clause) = clause ∷ []

-- Mods Type Id "=" Expr (JLS 14.20.3)
abbrev pub resource_made : (List Modifier × (TypeTree × (Ident × (Unit {0} × Expr)))) → Resource
resource_made p = record { modifiers = p.0; ty = p.1.0; name = p.1.1.0; value = p.1.1.1.1 }

-- at least one resource, with whether a semicolon stands behind the last one
abbrev pub resources_made : (Unit {0} × (Resource × (List (Unit {0} × Resource) × Bool))) → Resources
resources_made p = record { first = p.1.0; more = map behind_it p.1.1.0; trailing = p.1.1.1 }

-- the place of `try`, and its block and clauses with resources before them or without (JLS 14.20)
abbrev pub TryParts : Type 0
TryParts = ℕ × Either (Resources × (Braces Stmt × List Clause)) (Braces Stmt × List Clause)

-- the resources are None where no parenthesis stands behind `try`
abbrev pub try_made : TryParts → Stmt
try_made (at, This p) = stmt_of.Try at (Some p.0) p.1.0.1.0 p.1.1
try_made (at, That p) = stmt_of.Try at None p.0.1.0 p.1

-- what an `if` has behind its first arm: further arms, each behind an `else`, and what stands behind the last `else`

-- "if" "(" Expr ")" Stmt, whose statement is the only item of the arm (JLS 14.9)
abbrev pub arm_made : (ℕ × ((Unit {0} × (Expr × Unit {0})) × Stmt)) → Clause
arm_made p = roll-Clause (record { at = p.0; head = clause_of.If p.1.0.1.0; items = p.1.1 ∷ [] })

-- the further arms, and the statement behind the last `else`, None where each `else` has an `if` behind it
abbrev pub Branch : Type 0
Branch = List Clause × Option Stmt

abbrev pub no_more : Branch
no_more = ([], None)

-- what stands behind an arm: nothing, an `else` with another arm and more, or one with a statement
abbrev pub branch_made : Option (Unit {0} × Either (Clause × Branch) Stmt) → Branch
branch_made None = no_more
branch_made (Some (u, This (arm, (arms, last)))) = (arm ∷ arms, last)
branch_made (Some (u, That stmt)) = ([], Some stmt)

-- an `if` has at least one arm
abbrev pub if_made : (Clause × Branch) → Stmt
if_made (arm, (arms, last)) = stmt_of.If (arm ∷ arms) (or_none last)

-- variables declared: behind their modifiers and their type
abbrev pub Variables : Type 0
Variables = (Var × List (Unit {0} × Var)) × Unit {0}

-- at least one variable of the type
abbrev pub variables_made : List Modifier → TypeTree → (Var × List (Unit {0} × Var)) → LocalVars
variables_made modifiers ty p = record { modifiers = modifiers; ty = ty; first = p.0; more = map behind_it p.1 }

-- an expression as a statement (JLS 14.8)
abbrev pub effect_made : (Expr × Unit {0}) → Stmt
effect_made p = stmt_of.Effect p.0

-- a label and its statement (JLS 14.7)
abbrev pub labeled_made : (Ident × (Unit {0} × Stmt)) → Stmt
labeled_made p = stmt_of.Labeled p.0 p.1.1

-- variables without modifiers, or an effect
abbrev pub local_or_effect : Either (TypeTree × Variables) (Expr × Unit {0}) → Stmt
local_or_effect (This p) = stmt_of.Local (variables_made [] p.0 p.1.0)
local_or_effect (That p) = effect_made p

-- a labelled statement, or one that `make` builds of what else was read
abbrev pub labeled_or : {A : Type 0} → (A → Stmt) → Either (Ident × (Unit {0} × Stmt)) A → Stmt
labeled_or make (This p) = labeled_made p
labeled_or make (That a) = make a

-- modifiers, and what they belong to
abbrev pub local_made : (Modifier × (List Modifier × (TypeTree × Variables))) → Stmt
local_made p = stmt_of.Local (variables_made (p.0 ∷ p.1.0) p.1.1.0 p.1.1.1.0)

-- a local declaration of a type (JLS 14.3), or variables, with their modifiers (JLS 14.4)
abbrev pub moded_made : (List Modifier × Either DeclarationRest (TypeTree × Variables)) → Stmt
moded_made (modifiers, This rest) = stmt_of.Declared (declaration_made modifiers rest)
moded_made (modifiers, That p) = stmt_of.Local (variables_made modifiers p.0 p.1.0)

module _ (x : Exprs) where
  -- an expression, where there is room for one
  abbrev pub expr_in_run : ℕ → Run Expr
  expr_in_run h = with_room h (x.expr h)

  abbrev pub effect_in_run : ℕ → Run Expr
  effect_in_run h = with_room h (x.effect h)

  module _ (h : ℕ) (l : Level) where
    -- statements of one keyword, a block or a semicolon: those with a part that can't be left out need room for a height
    unfoldable pub block_run : Run Stmt
    block_run = as_new block_made (braced_at_run l.item)

    unfoldable pub empty_run : Run Stmt
    empty_run = as_new stmt_of.Empty (at_kind (sign_code sign_of.Semicolon))

    unfoldable pub while_run : Run Stmt
    while_run = as_new while_made (with_room h (in_turn (at_kind (key_code key_of.While)) (in_turn (parens_run (x.expr h)) l.body)))

    unfoldable pub do_run : Run Stmt
    do_run = as_new do_made (with_room h (in_turn (at_kind (key_code key_of.Do)) (in_turn l.body (in_turn (of_kind (key_code key_of.While)) (in_turn (parens_run (x.expr h)) semicolon_run)))))

    unfoldable pub return_run : Run Stmt
    return_run = as_new return_made (in_turn (at_kind (key_code key_of.Return)) (in_turn (perhaps (expr_in_run h)) semicolon_run))

    -- `break`, `continue` and `throw`
    unfoldable pub break_run : Run Stmt
    break_run = as_new break_made (in_turn (at_kind (key_code key_of.Break)) (in_turn (perhaps an_ident_at) semicolon_run))

    unfoldable pub continue_run : Run Stmt
    continue_run = as_new continue_made (in_turn (at_kind (key_code key_of.Continue)) (in_turn (perhaps an_ident_at) semicolon_run))

    unfoldable pub throw_run : Run Stmt
    throw_run = as_new throw_made (with_room h (in_turn (at_kind (key_code key_of.Throw)) (in_turn (x.expr h) semicolon_run)))

    -- a part of a switch
    unfoldable pub case_run : Run Clause
    case_run = as_new case_made (in_turn (either (key_code key_of.Case ∷ []) (with_room h (in_turn (at_kind (key_code key_of.Case)) (in_turn (x.conditional h) (of_kind (sign_code sign_of.Colon))))) (in_turn (at_kind (key_code key_of.Default)) (of_kind (sign_code sign_of.Colon)))) (any_number l.case_item))

    unfoldable pub switch_run : Run Stmt
    switch_run = as_new switch_made (with_room h (in_turn (at_kind (key_code key_of.Switch)) (in_turn (parens_run (x.expr h)) (braced_run case_run))))

    -- the clauses of a `try` (JLS 14.20)
    unfoldable pub catch_run : Run Clause
    catch_run =
        as_new catch_made (in_turn (at_kind (key_code key_of.Catch)) (in_turn (of_kind (sign_code sign_of.LeftParen)) (in_turn (modifiers_run x h) (in_turn (class_run h) (in_turn (each_behind sign_of.Or (class_run h))
        (in_turn an_ident_at (in_turn (of_kind (sign_code sign_of.RightParen)) (braced_run l.item))))))))

    unfoldable pub finally_run : Run Clause
    finally_run = as_new finally_made (in_turn (at_kind (key_code key_of.Finally)) (braced_run l.item))

    -- any number of catches, and then at most one `finally`; the second reader needs at least one clause
    unfoldable pub clauses_run : Run (List Clause)
    clauses_run = as_new clauses_made (in_turn (any_number catch_run) (perhaps finally_run))

    unfoldable pub some_clauses_run : Run (List Clause)
    some_clauses_run = as_new some_clauses_made (either (key_code key_of.Catch ∷ []) (in_turn catch_run (in_turn (any_number catch_run) (perhaps finally_run))) finally_run)

    -- Mods Type Id "=" Expr
    unfoldable pub resource_run : Run Resource
    resource_run = as_new resource_made (in_turn (modifiers_run x h) (in_turn (type_run h) (in_turn an_ident_at (in_turn (of_kind (sign_code sign_of.Assign)) (x.expr h)))))

    -- a semicolon may stand behind the last one
    unfoldable pub resources_run : Run Resources
    resources_run = as_new resources_made (in_turn (of_kind (sign_code sign_of.LeftParen)) (in_turn resource_run (rows_tail_run sign_of.Semicolon sign_of.RightParen resource_run)))

    -- without resources at least one clause must stand behind the block (JLS 14.20)
    unfoldable pub try_run : Run Stmt
    try_run = as_new try_made (in_turn (at_kind (key_code key_of.Try)) (either (sign_code sign_of.LeftParen ∷ []) (with_room h (in_turn resources_run (in_turn (braced_run l.item) clauses_run))) (in_turn (braced_run l.item) some_clauses_run)))

    -- arms and what is behind the last `else`

    -- an arm with its body, which is read as any other body
    unfoldable pub arm_run : Run Clause
    arm_run = as_new arm_made (in_turn (at_kind (key_code key_of.If)) (in_turn (parens_run (x.expr h)) l.body))

    -- an `else` behind the arm would be the one of its own body
    abbrev pub takes_else : Stmt → Bool
    takes_else s = (stmt_shape s).open_end

-- an `else` behind the arm belongs to its body
abbrev pub arm_open : Clause → Bool
arm_open c = (clause_shape c).open_end

-- what is behind an arm, with room for n arms
unfoldable pub branch_run : ℕ → Run Clause → Run Stmt → Run Branch
branch_run zero arm other ts = found no_more ts
branch_run (suc n) arm other ts =
    as_new branch_made (perhaps (in_turn (of_kind (key_code key_of.Else)) (either (key_code key_of.If ∷ []) (followed arm_open no_more arm (branch_run n arm other)) other))) ts

-- arms, each but the first behind an `else`
unfoldable pub if_run : Exprs → ℕ → Level → Run Stmt
if_run x h l = as_new if_made (with_room h (followed arm_open no_more (arm_run x h l) (λ ts. branch_run (length ts) (arm_run x h l) l.other ts)))

-- a label, or an effect
abbrev pub label_run : Level → Run (Ident × (Unit {0} × Stmt))
label_run l = in_turn an_ident_at (in_turn (of_kind (sign_code sign_of.Colon)) l.body)

-- told apart by the colon behind a name
unfoldable pub plain_run : Exprs → ℕ → Level → Run Stmt
plain_run x h l = as_new (labeled_or effect_made) (with_room h (by_second word_code (sign_code sign_of.Colon ∷ []) (label_run l) (in_turn (x.effect h) semicolon_run)))

-- Vars ";"
abbrev pub variables_run : Exprs → ℕ → Run Variables
variables_run x h = in_turn (vars_run x h) semicolon_run

-- a label, or variables without modifiers, or an effect
unfoldable pub word_run : Exprs → ℕ → Level → Run Stmt
word_run x h l = as_new (labeled_or local_or_effect) (with_room h (by_second word_code (sign_code sign_of.Colon ∷ []) (label_run l) (trying (word_code ∷ []) (type_run h) (variables_run x h) (in_turn (x.effect h) semicolon_run))))

-- variables with modifiers
unfoldable pub local_run : Exprs → ℕ → Run Stmt
local_run x h = as_new local_made (with_room h (in_turn (modifier_run x h) (in_turn (modifiers_run x h) (in_turn (type_run h) (variables_run x h)))))

-- what stands between the parentheses of a `for`

-- ";" [Expr] ";" [Effects]
abbrev pub ForRest : Type 0
ForRest = Unit {0} × (Option Expr × (Unit {0} × Option (List Expr)))

-- Id Dims, and then ":" Expr or more variables
abbrev pub ForNamed : Type 0
ForNamed = Ident × (ℕ × Either (Unit {0} × Expr) (Option (Unit {0} × Init) × (List (Unit {0} × Var) × ForRest)))

-- by what stands first: a semicolon, a modifier, a type with a name behind it, or an effect
abbrev pub ForParts : Type 0
ForParts = Either ForRest (Either (Modifier × (List Modifier × (TypeTree × ForNamed))) (Either (TypeTree × ForNamed) (List Expr × ForRest)))

-- what may be left out: effects, and an initialiser behind its `=`
abbrev pub or_no_effects : Option (List Expr) → List Expr
or_no_effects None = []
or_no_effects (Some effects) = effects

abbrev pub or_no_init : Option (Unit {0} × Init) → Option Init
or_no_init None = None
or_no_init (Some p) = Some p.1

-- a `for` with semicolons; its test is None where it is left out (JLS 14.14.1)
abbrev pub basic_made : ForInit → ForRest → ForHead
basic_made init p = for_of.Basic init p.1.0 (or_no_effects p.1.1.1)

-- a colon behind the name makes it an enhanced `for` (JLS 14.14.2), and else its first part declares variables
abbrev pub named_made : List Modifier → TypeTree → ForNamed → ForHead
named_made modifiers ty (name, (dims, This p)) = for_of.Enhanced modifiers ty name dims p.1
named_made modifiers ty (name, (dims, That (init, (more, rest)))) =
    basic_made (init_of.Local (record { modifiers = modifiers; ty = ty; first = record { name = name; dims = dims; init = or_no_init init }; more = map behind_it more })) rest

-- a `for` whose first part is left out has an empty list of effects there
abbrev pub for_head_made : ForParts → ForHead
for_head_made (This rest) = basic_made (init_of.Effects []) rest
for_head_made (That (This (m, (modifiers, (ty, p))))) = named_made (m ∷ modifiers) ty p
for_head_made (That (That (This (ty, p)))) = named_made [] ty p
for_head_made (That (That (That (effects, rest)))) = basic_made (init_of.Effects effects) rest

-- the `for` at the place of its keyword, of its head and its body
abbrev pub for_made : (ℕ × (Unit {0} × (ForHead × (Unit {0} × Stmt)))) → Stmt
for_made p = stmt_of.For p.0 p.1.1.0 p.1.1.1.1

module _ (x : Exprs) (h : ℕ) where
  -- how the parts above are read; expressions in them need room for a height
  unfoldable pub for_rest_run : Run ForRest
  for_rest_run = in_turn semicolon_run (in_turn (perhaps (expr_in_run x h)) (in_turn semicolon_run (perhaps (commas_run (effect_in_run x h)))))

  unfoldable pub for_named_run : Run ForNamed
  for_named_run =
      in_turn an_ident_at (in_turn dims_run (either (sign_code sign_of.Colon ∷ []) (in_turn (of_kind (sign_code sign_of.Colon)) (x.expr h))
      (in_turn (perhaps (with_room h (in_turn (of_kind (sign_code sign_of.Assign)) (x.init h)))) (in_turn (each_behind sign_of.Comma (var_run x h)) for_rest_run))))

  -- the codes of what begins a modifier
  abbrev pub for_modifier_codes : List ℕ
  for_modifier_codes = sign_code sign_of.At ∷ modifier_word_codes

  -- variables are tried where a type with a name behind it can be read, and effects where not
  unfoldable pub for_head_run : Run ForHead
  for_head_run =
      as_new for_head_made (either (sign_code sign_of.Semicolon ∷ []) for_rest_run
      (either for_modifier_codes (in_turn (modifier_run x h) (in_turn (modifiers_run x h) (in_turn (type_run h) for_named_run)))
      (trying (word_code ∷ []) (type_run h) for_named_run (in_turn (commas_run (x.effect h)) for_rest_run))))

  unfoldable pub for_run : Level → Run Stmt
  for_run l = as_new for_made (with_room h (in_turn (at_kind (key_code key_of.For)) (in_turn (of_kind (sign_code sign_of.LeftParen)) (in_turn for_head_run (in_turn (of_kind (sign_code sign_of.RightParen)) l.body)))))

-- statements

-- the code of `if`, which is read apart from the other statements
abbrev pub if_codes : List ℕ
if_codes = key_code key_of.If ∷ []

-- the one kind where a token of its codes stands, and else the others
abbrev pub or_others : {A : Type 0} → List ℕ → Run A → Run A → Run A
or_others codes m n = as_new either_one (either codes m n)

-- the codes of what begins a statement that its first token tells, `if` left out
abbrev pub statement_codes : List ℕ
statement_codes =
    sign_code sign_of.LeftBrace ∷ sign_code sign_of.Semicolon ∷ key_code key_of.While ∷ key_code key_of.Do ∷ key_code key_of.For ∷ key_code key_of.Switch ∷ key_code key_of.Return ∷ key_code key_of.Break ∷ key_code key_of.Continue
    ∷ key_code key_of.Throw ∷ key_code key_of.Try ∷ []

module _ (x : Exprs) (h : ℕ) (l : Level) where
  -- statements of one keyword, a block or a semicolon
  abbrev pub simple_run : Run Stmt
  simple_run =
      or_others (sign_code sign_of.LeftBrace ∷ []) (block_run x h l) (or_others (sign_code sign_of.Semicolon ∷ []) (empty_run x h l) (or_others (key_code key_of.While ∷ []) (while_run x h l)
      (or_others (key_code key_of.Do ∷ []) (do_run x h l) (or_others (key_code key_of.For ∷ []) (for_run x h l) (or_others (key_code key_of.Switch ∷ []) (switch_run x h l)
      (or_others (key_code key_of.Return ∷ []) (return_run x h l) (or_others (key_code key_of.Break ∷ []) (break_run x h l) (or_others (key_code key_of.Continue ∷ []) (continue_run x h l)
      (or_others (key_code key_of.Throw ∷ []) (throw_run x h l) (try_run x h l))))))))))

  -- behind an `else`: no `if`
  unfoldable pub other_run : Run Stmt
  other_run = or_others statement_codes simple_run (plain_run x h l)

  -- the body of a loop or an arm, or what a label stands before: no declaration (JLS 14.5)
  unfoldable pub body_run : Run Stmt
  body_run = or_others if_codes (if_run x h l) (or_others statement_codes simple_run (plain_run x h l))

  -- behind a label of a switch
  unfoldable pub case_item_run : Run Stmt
  case_item_run = or_others if_codes (if_run x h l) (or_others statement_codes simple_run (or_others (sign_code sign_of.At ∷ modifier_word_codes) (local_run x h) (word_run x h l)))
