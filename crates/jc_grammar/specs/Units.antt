-- Which statements and declarations may stand where (JLS 8, 9, 14).
use Rattle.std.specs.Prelude.{Bool, true, false, not, ◌&&◌, ◌||◌, List, [], ◌∷◌, Option, Some, None}
use Rattle.std.specs.List.{list_all}
use Rattle.jc_tree.specs.declared.expression.Expr.{Expr}
use Rattle.jc_tree.specs.declared.statement.AnnotationValue.{AnnotationValue, AnnotationValue-F, fold-AnnotationValue}
use Rattle.jc_tree.specs.declared.statement.Clause.{Clause, Clause-F, fold-Clause}
use Rattle.jc_tree.specs.declared.statement.ClauseHead.{ClauseHead}
use Rattle.jc_tree.specs.declared.statement.ClauseHead.TheVariants as clause_of
use Rattle.jc_tree.specs.declared.statement.Declaration.{Declaration, Declaration-F, fold-Declaration}
use Rattle.jc_tree.specs.declared.statement.DeclarationHead.{DeclarationHead}
use Rattle.jc_tree.specs.declared.statement.DeclarationHead.TheVariants as head_of
use Rattle.jc_tree.specs.declared.statement.ForHead.{ForHead}
use Rattle.jc_tree.specs.declared.statement.ForHead.TheVariants as for_of
use Rattle.jc_tree.specs.declared.statement.ForInit.{ForInit}
use Rattle.jc_tree.specs.declared.statement.ForInit.TheVariants as init_of
use Rattle.jc_tree.specs.declared.statement.Formal.{Formal}
use Rattle.jc_tree.specs.declared.statement.LocalVars.{LocalVars}
use Rattle.jc_tree.specs.declared.statement.Member.{Member, Member-F, fold-Member}
use Rattle.jc_tree.specs.declared.statement.MethodHead.{MethodHead}
use Rattle.jc_tree.specs.declared.statement.Modifier.{Modifier}
use Rattle.jc_tree.specs.declared.statement.Modifier.TheVariants as modifier_of
use Rattle.jc_tree.specs.declared.statement.Pair.{Pair}
use Rattle.jc_tree.specs.declared.statement.Resource.{Resource}
use Rattle.jc_tree.specs.declared.statement.Resources.{Resources}
use Rattle.jc_tree.specs.declared.statement.ResultType.{ResultType}
use Rattle.jc_tree.specs.declared.statement.SourceFile.{SourceFile}
use Rattle.jc_tree.specs.declared.statement.Stmt.{Stmt, Stmt-F, fold-Stmt}
use Rattle.jc_tree.specs.declared.statement.TopLevel.{TopLevel}
use Rattle.jc_tree.specs.declared.statement.TopLevel.TheVariants as top_of
use Rattle.jc_tree.specs.declared.statement.Var.{Var}
use Rattle.jc_grammar.specs.Shapes.{stands, expr_shape, conditional_level, is_expr, is_effect, is_init, all_true}

-- what is there passes
abbrev pub if_there_passes : {X : Type 0} → (X → Bool) → Option X → Bool
if_there_passes p None = true
if_there_passes p (Some x) = p x

-- Cond
abbrev pub is_conditional : Expr → Bool
is_conditional expr = stands conditional_level (expr_shape expr)

-- Effect
abbrev pub is_statement_expr : Expr → Bool
is_statement_expr expr = is_expr expr && is_effect expr

-- a value of an annotation is good where each expression in it is a Cond (JLS 9.7.1); `is_value` is the fold
abbrev pub value_step : AnnotationValue-F Bool → Bool
value_step (AnnotationValue-F.Value expr) = is_conditional expr
value_step (AnnotationValue-F.List at values trailing) = all_true values

unfoldable pub is_value : AnnotationValue → Bool
is_value value = fold-AnnotationValue Bool value_step value

-- the value of each pair of an annotation is good; where there are no pairs, that holds
abbrev pub are_pairs : List Pair → Bool
are_pairs pairs = list_all (λ (pair : Pair). is_value pair.value) pairs

-- a word is good, and so is an annotation with good pairs or without any; which words may stand together is not told here
abbrev pub is_modifier : Modifier → Bool
is_modifier (modifier_of.Annotation a) = if_there_passes are_pairs a.pairs
is_modifier (modifier_of.Word at word) = true

abbrev pub are_modifiers : List Modifier → Bool
are_modifiers modifiers = list_all is_modifier modifiers

-- "..." stands at the last one alone
abbrev pub are_formals : List Formal → Bool
are_formals [] = true
are_formals (f ∷ []) = are_modifiers f.modifiers
are_formals (f ∷ g ∷ formals) = are_modifiers f.modifiers && not f.variable_arity && are_formals (g ∷ formals)

-- a variable is good without an initialiser, or with a good one
abbrev pub is_var : Var → Bool
is_var v = if_there_passes is_init v.init

-- modifiers and one or more variables of one type, as fields (JLS 8.3) or local ones (JLS 14.4)
abbrev pub are_locals : LocalVars → Bool
are_locals vars = are_modifiers vars.modifiers && is_var vars.first && list_all is_var vars.more

-- of the head of a declaration only the modifiers can be bad
abbrev pub is_head : DeclarationHead → Bool
is_head (head_of.Class modifiers at name params extends implements) = are_modifiers modifiers
is_head (head_of.Interface modifiers at name params extends) = are_modifiers modifiers
is_head (head_of.Annotation modifiers at name) = are_modifiers modifiers

-- the head of a method (JLS 8.4) or of a constructor (JLS 8.8)
abbrev pub is_method_head : MethodHead → Bool
is_method_head head = are_modifiers head.modifiers && are_formals head.formals

-- a basic `for` begins with variables, or with any number of expressions that may be statements (JLS 14.14.1)
abbrev pub is_for_init : ForInit → Bool
is_for_init (init_of.Local vars) = are_locals vars
is_for_init (init_of.Effects effects) = list_all is_statement_expr effects

-- a basic `for`, with a test or without one (JLS 14.14.1), or one over what an expression tells (JLS 14.14.2)
abbrev pub is_for_head : ForHead → Bool
is_for_head (for_of.Basic init test update) = is_for_init init && if_there_passes is_expr test && list_all is_statement_expr update
is_for_head (for_of.Enhanced modifiers ty name dims iterable) = are_modifiers modifiers && is_expr iterable

-- a resource of a `try`, and one or more of them (JLS 14.20.3)
abbrev pub is_resource : Resource → Bool
is_resource resource = are_modifiers resource.modifiers && is_expr resource.value

abbrev pub are_resources : Resources → Bool
are_resources resources = is_resource resources.first && list_all is_resource resources.more

-- where a statement may stand
pub data Role : Type 0 where
  -- anywhere
  Anywhere : Role
  -- an `if`: anywhere but behind the last `else` of another one, whose part it then is
  Branches : Role
  -- a declaration of variables: in a block or behind a label of a switch
  DeclaresVars : Role
  -- a declaration of a type: in a block
  DeclaresType : Role
  -- a call of a constructor: at the start of a constructor's body
  Constructs : Role

-- what the grammar says of a statement: where it may stand, whether its parts stand where they may, and whether an `else` behind it would be its own
pub record StmtShape : Type 0 where
  pub role : Role
  pub good : Bool
  pub open_end : Bool

-- what a clause is a part of: an `if`, a switch, or of a `try` as a `catch` or as the `finally`
pub data Part : Type 0 where
  OfIf : Part
  OfSwitch : Part
  OfCatch : Part
  OfFinally : Part

-- what the grammar says of a clause: what it is a part of, whether its parts stand where they may, and whether an `else` behind it would be its own
pub record ClauseShape : Type 0 where
  pub part : Part
  pub good : Bool
  pub open_end : Bool

-- in a block (JLS 14.2): anything but a call of a constructor
abbrev pub role_in_block : Role → Bool
role_in_block Constructs = false
role_in_block _ = true

-- behind a label of a switch: neither that nor a declaration of a type
abbrev pub role_in_switch : Role → Bool
role_in_switch Constructs = false
role_in_switch DeclaresType = false
role_in_switch _ = true

-- as the body of a loop, of a label or of a part of an `if`: no declaration
abbrev pub role_in_body : Role → Bool
role_in_body Anywhere = true
role_in_body Branches = true
role_in_body _ = false

-- behind the last `else` of an `if`: no declaration, and no `if`, which would be one more part of the first one
abbrev pub role_behind_else : Role → Bool
role_behind_else Anywhere = true
role_behind_else _ = false

-- a good statement whose role may stand there: in a block, behind a label of a switch, as a body, behind the last `else`
abbrev pub in_block : StmtShape → Bool
in_block s = s.good && role_in_block s.role

abbrev pub in_switch : StmtShape → Bool
in_switch s = s.good && role_in_switch s.role

abbrev pub in_body : StmtShape → Bool
in_body s = s.good && role_in_body s.role

abbrev pub behind_else : StmtShape → Bool
behind_else s = s.good && role_behind_else s.role

-- a clause is such a part: of an `if`, of a switch, a `catch`, a `finally`
abbrev pub is_of_if : Part → Bool
is_of_if OfIf = true
is_of_if _ = false

abbrev pub is_of_switch : Part → Bool
is_of_switch OfSwitch = true
is_of_switch _ = false

abbrev pub is_of_catch : Part → Bool
is_of_catch OfCatch = true
is_of_catch _ = false

abbrev pub is_of_finally : Part → Bool
is_of_finally OfFinally = true
is_of_finally _ = false

-- the shape of a statement behind which no `else` would be its own
abbrev pub statement : Role → Bool → StmtShape
statement role good = record { role = role; good = good; open_end = false }

-- exactly one statement, as a body
abbrev pub one_body : List StmtShape → Bool
one_body [] = false
one_body (s ∷ []) = in_body s
one_body (s ∷ t ∷ items) = false

-- whether an `else` behind the first of the statements would be its own; behind none, no
abbrev pub ends_open : List StmtShape → Bool
ends_open [] = false
ends_open (s ∷ items) = s.open_end

-- a clause by its head and the shapes of its statements (JLS 14.9, 14.11, 14.20); none but a part of an `if` ends open
abbrev pub clause_with : ClauseHead → List StmtShape → ClauseShape
clause_with (clause_of.If test) items = record { part = OfIf; good = is_expr test && one_body items; open_end = ends_open items }
clause_with (clause_of.Case label) items = record { part = OfSwitch; good = is_conditional label && list_all in_switch items; open_end = false }
clause_with clause_of.Default items = record { part = OfSwitch; good = list_all in_switch items; open_end = false }
clause_with (clause_of.Catch modifiers first more name) items = record { part = OfCatch; good = are_modifiers modifiers && list_all in_block items; open_end = false }
clause_with clause_of.Finally items = record { part = OfFinally; good = list_all in_block items; open_end = false }

-- the same of a node, as the step of the fold
abbrev pub clause_shape_step : Clause-F Bool StmtShape ClauseShape Bool → ClauseShape
clause_shape_step clause = clause_with clause.head clause.items

-- the parts of an `if`, of which each but the last one has an `else` behind it, and the last one has where told
abbrev pub arms_good : Bool → List ClauseShape → Bool
arms_good followed [] = false
arms_good followed (arm ∷ []) = is_of_if arm.part && arm.good && (not followed || not arm.open_end)
arms_good followed (arm ∷ next ∷ arms) = is_of_if arm.part && arm.good && not arm.open_end && arms_good followed (next ∷ arms)

-- an `if` by its parts and what is behind the last `else` (JLS 14.9): nothing, and then it ends open, or one statement; more are bad
abbrev pub if_shape : List ClauseShape → List StmtShape → StmtShape
if_shape arms [] = record { role = Branches; good = arms_good false arms; open_end = true }
if_shape arms (s ∷ []) = record { role = Branches; good = arms_good true arms && behind_else s; open_end = s.open_end }
if_shape arms (s ∷ t ∷ items) = statement Branches false

-- all clauses of a switch are of a switch, and good; there may be none (JLS 14.11)
abbrev pub switch_good : List ClauseShape → Bool
switch_good groups = list_all (λ (group : ClauseShape). is_of_switch group.part && group.good) groups

-- catches, and then at most one `finally`
abbrev pub catches_good : List ClauseShape → Bool
catches_good [] = true
catches_good (c ∷ []) = (is_of_catch c.part || is_of_finally c.part) && c.good
catches_good (c ∷ d ∷ clauses) = is_of_catch c.part && c.good && catches_good (d ∷ clauses)

-- there is one at least
abbrev pub some_clause : List ClauseShape → Bool
some_clause [] = false
some_clause (c ∷ clauses) = true

-- without resources there is a catch or a `finally`
abbrev pub try_good : Option Resources → List ClauseShape → Bool
try_good None clauses = some_clause clauses && catches_good clauses
try_good (Some resources) clauses = are_resources resources && catches_good clauses

-- a statement by the shapes of its parts (JLS 14); only what ends in a statement can end open
abbrev pub stmt_shape_step : Stmt-F Bool StmtShape ClauseShape Bool → StmtShape
stmt_shape_step (Stmt-F.Local vars) = statement DeclaresVars (are_locals vars)
stmt_shape_step (Stmt-F.Declared declaration) = statement DeclaresType declaration
stmt_shape_step (Stmt-F.Block at items) = statement Anywhere (list_all in_block items)
stmt_shape_step (Stmt-F.Empty at) = statement Anywhere true
stmt_shape_step (Stmt-F.Effect expr) = statement Anywhere (is_statement_expr expr)
stmt_shape_step (Stmt-F.Labeled label body) = record { role = Anywhere; good = in_body body; open_end = body.open_end }
stmt_shape_step (Stmt-F.If arms otherwise) = if_shape arms otherwise
stmt_shape_step (Stmt-F.While at test body) = record { role = Anywhere; good = is_expr test && in_body body; open_end = body.open_end }
stmt_shape_step (Stmt-F.Do at body test) = statement Anywhere (in_body body && is_expr test)
stmt_shape_step (Stmt-F.For at head body) = record { role = Anywhere; good = is_for_head head && in_body body; open_end = body.open_end }
stmt_shape_step (Stmt-F.Switch at selector groups) = statement Anywhere (is_expr selector && switch_good groups)
stmt_shape_step (Stmt-F.Return at value) = statement Anywhere (if_there_passes is_expr value)
stmt_shape_step (Stmt-F.Break at label) = statement Anywhere true
stmt_shape_step (Stmt-F.Continue at label) = statement Anywhere true
stmt_shape_step (Stmt-F.Throw at value) = statement Anywhere (is_expr value)
stmt_shape_step (Stmt-F.Try at resources items clauses) = statement Anywhere (list_all in_block items && try_good resources clauses)
stmt_shape_step (Stmt-F.ThisCall at actuals) = statement Constructs (list_all is_expr actuals)
stmt_shape_step (Stmt-F.SuperCall at actuals) = statement Constructs (list_all is_expr actuals)

-- a constructor's body, which alone may begin with a call of a constructor
abbrev pub constructor_good : List StmtShape → Bool
constructor_good [] = true
constructor_good (s ∷ items) = s.good && list_all in_block items

-- a method has a result, `void` too; a constructor has none
abbrev pub has_result : MethodHead → Bool
has_result head = not (if_there_passes (λ (r : ResultType). false) head.result)

-- the body of a method, which has a result, is a block; that of a constructor may begin with a call of one (JLS 8.8.7)
abbrev pub body_good : Option ResultType → List StmtShape → Bool
body_good (Some result) items = list_all in_block items
body_good None items = constructor_good items

-- a constructor has a body
abbrev pub member_step : Member-F Bool StmtShape ClauseShape Bool → Bool
member_step (Member-F.Semicolon at) = true
member_step (Member-F.Initialiser at is_static items) = list_all in_block items
member_step (Member-F.Fields vars) = are_locals vars
member_step (Member-F.Bare head) = is_method_head head && has_result head
member_step (Member-F.Method head items) = is_method_head head && body_good head.result items
member_step (Member-F.Nested declaration) = declaration

-- a declaration is good where its head and all of its members are; which member may stand in which is not told here
abbrev pub declaration_step : Declaration-F Bool StmtShape ClauseShape Bool → Bool
declaration_step declaration = is_head declaration.head && all_true declaration.members

-- the folds of these steps: the shapes of statements and clauses, and whether members and declarations are good
unfoldable pub stmt_shape : Stmt → StmtShape
stmt_shape stmt = fold-Stmt Bool StmtShape ClauseShape Bool member_step stmt_shape_step clause_shape_step declaration_step stmt

unfoldable pub clause_shape : Clause → ClauseShape
clause_shape clause = fold-Clause Bool StmtShape ClauseShape Bool member_step stmt_shape_step clause_shape_step declaration_step clause

unfoldable pub is_member : Member → Bool
is_member member = fold-Member Bool StmtShape ClauseShape Bool member_step stmt_shape_step clause_shape_step declaration_step member

unfoldable pub is_declaration : Declaration → Bool
is_declaration declaration = fold-Declaration Bool StmtShape ClauseShape Bool member_step stmt_shape_step clause_shape_step declaration_step declaration

-- a declaration, or a stray `;` (JLS 7.6)
abbrev pub is_top : TopLevel → Bool
is_top (top_of.Declaration declaration) = is_declaration declaration
is_top (top_of.Semicolon at) = true

-- the tree is one that the grammar has
abbrev pub is_file : SourceFile → Bool
is_file file = list_all is_top file.types
