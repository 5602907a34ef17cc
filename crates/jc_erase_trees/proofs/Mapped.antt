-- An arena that is changed node by node stands for changed trees.
use Rattle.std.proofs.Common.{◌≡◌, ℕ, zero, suc, List, [], ◌∷◌, ◌++◌, map, refl, sym, ap, ◌∙◌, get_or}
use Rattle.std.proofs.lemmas.List.{map-append}
use Rattle.jc_types.specs.declared.form.Ty.{Ty}
use Rattle.jc_types.specs.declared.form.Ty.TheVariants.{NullTy}
use Rattle.jc_typed.specs.declared.nodes.Node.{Node}
use Rattle.jc_typed.specs.declared.nodes.Node.TheVariants as n
use Rattle.jc_typed.specs.declared.expressions.ExprNode.{ExprNode}
use Rattle.jc_typed.specs.declared.expressions.ExprNode.TheVariants as e
use Rattle.jc_typed.specs.declared.expressions.ExprForm.{ExprForm}
use Rattle.jc_typed.specs.declared.expressions.ExprForm.TheVariants as f
use Rattle.jc_typed.specs.declared.expressions.OperandNode.{OperandNode}
use Rattle.jc_typed.specs.declared.expressions.OperandNode.TheVariants as o
use Rattle.jc_typed.specs.declared.expressions.VariableNode.{VariableNode}
use Rattle.jc_typed.specs.declared.expressions.VariableNode.TheVariants as v
use Rattle.jc_typed.specs.declared.statements.StmtNode.{StmtNode}
use Rattle.jc_typed.specs.declared.statements.StmtForm.{StmtForm as FormNode}
use Rattle.jc_typed.specs.declared.statements.StmtForm.TheVariants as s
use Rattle.jc_typed.specs.declared.lists.ListNode.{ListNode}
use Rattle.jc_typed.specs.declared.lists.ListNode.TheVariants as l
use Rattle.jc_typed.specs.declared.lists.StepNode.{StepNode}
use Rattle.jc_typed.specs.declared.lists.StepNode.TheVariants as step
use Rattle.jc_typed.specs.declared.lists.StepsNode.{StepsNode}
use Rattle.jc_typed.specs.declared.lists.StepsNode.TheVariants as steps
use Rattle.jc_typed.specs.declared.lists.CapturesNode.{CapturesNode}
use Rattle.jc_typed.specs.declared.lists.CapturesNode.TheVariants as captures
use Rattle.jc_typed.specs.declared.lists.OpsNode.{OpsNode}
use Rattle.jc_typed.specs.declared.lists.OpsNode.TheVariants as ops
use Rattle.jc_typed.specs.declared.lists.NamesNode.{NamesNode}
use Rattle.jc_typed.specs.declared.lists.NamesNode.TheVariants as names
use Rattle.jc_typed.specs.declared.lists.PlacesNode.{PlacesNode}
use Rattle.jc_typed.specs.declared.lists.PlacesNode.TheVariants as places
use Rattle.jc_typed.specs.declared.lists.CasesNode.{CasesNode}
use Rattle.jc_typed.specs.declared.lists.CasesNode.TheVariants as cases
use Rattle.jc_typed.specs.declared.lists.LinksNode.{LinksNode}
use Rattle.jc_typed.specs.declared.lists.LinksNode.TheVariants as links
use Rattle.jc_typed.specs.declared.lists.ArmsNode.{ArmsNode}
use Rattle.jc_typed.specs.declared.lists.ArmsNode.TheVariants as arms
use Rattle.jc_typed.specs.declared.lists.DeclaredNode.{DeclaredNode}
use Rattle.jc_typed.specs.declared.lists.DeclaredNode.TheVariants as declared
use Rattle.jc_typed.specs.declared.lists.CatchesNode.{CatchesNode}
use Rattle.jc_typed.specs.declared.lists.CatchesNode.TheVariants as catches
use Rattle.jc_typed.specs.Trees.{NoStmts}
use Rattle.jc_typed.specs.Parts.{Part, OfType, OfTypes, OfConstant, OfSteps, OfCaptures, OfOps, OfNames, OfPlaces, OfCases, OfExpr, OfOperand, OfOperands, OfLinks, OfVariable, OfDeclared, OfStmt, OfStmts, OfArms, OfCatches, as_type, as_types, as_constant, as_steps, as_captures, as_ops, as_names, as_places, as_cases, as_expr, as_operand, as_operands, as_links, as_variable, as_declared, as_stmt, as_stmts, as_arms, as_catches, part_in, type_in, types_in, constant_in, steps_in, captures_in, ops_in, names_in, places_in, cases_in, expr_in, operand_in, operands_in, links_in, variable_in, declared_in, stmt_in, stmts_in, arms_in, catches_in, step_over, types_over, steps_over, captures_over, ops_over, names_over, places_over, cases_over, form_over, expr_over, operand_over, operands_over, links_over, variable_over, declared_over, stmt_form_over, stmt_over, stmts_over, arms_over, catches_over, part_over, parts_on, parts}
use Rattle.jc_erase_trees.specs.Trees.{become_types, become_step, become_steps, become_expr, become_operand, become_form, become_variable, become_operands, become_links, become_declared, become_stmt, become_stmt_form, become_stmts, become_arms, become_catches, become_part}

-- a type becomes another, and each other node stays
abbrev pub node_becomes : (Ty → Ty) → Node → Node
node_becomes g (n.Type t) = n.Type (g t)
node_becomes g node = node

module _ (g : Ty → Ty) (null : g NullTy ≡ NullTy) where
  -- ---- a part as one of its sort
  of_type : (p : Part) → as_type (become_part g p) ≡ g (as_type p)
  of_type (OfType x) = refl
  of_type _ = sym null

  of_types : (p : Part) → as_types (become_part g p) ≡ become_types g (as_types p)
  of_types (OfTypes x) = refl
  of_types _ = refl

  of_constant : (p : Part) → as_constant (become_part g p) ≡ as_constant p
  of_constant (OfConstant x) = refl
  of_constant _ = refl

  of_steps : (p : Part) → as_steps (become_part g p) ≡ become_steps g (as_steps p)
  of_steps (OfSteps x) = refl
  of_steps _ = refl

  of_captures : (p : Part) → as_captures (become_part g p) ≡ as_captures p
  of_captures (OfCaptures x) = refl
  of_captures _ = refl

  of_ops : (p : Part) → as_ops (become_part g p) ≡ as_ops p
  of_ops (OfOps x) = refl
  of_ops _ = refl

  of_names : (p : Part) → as_names (become_part g p) ≡ as_names p
  of_names (OfNames x) = refl
  of_names _ = refl

  of_places : (p : Part) → as_places (become_part g p) ≡ as_places p
  of_places (OfPlaces x) = refl
  of_places _ = refl

  of_cases : (p : Part) → as_cases (become_part g p) ≡ as_cases p
  of_cases (OfCases x) = refl
  of_cases _ = refl

  of_expr : (p : Part) → as_expr (become_part g p) ≡ become_expr g (as_expr p)
  of_expr (OfExpr x) = refl
  of_expr _ = refl

  of_operand : (p : Part) → as_operand (become_part g p) ≡ become_operand g (as_operand p)
  of_operand (OfOperand x) = refl
  of_operand _ = refl

  of_operands : (p : Part) → as_operands (become_part g p) ≡ become_operands g (as_operands p)
  of_operands (OfOperands x) = refl
  of_operands _ = refl

  of_links : (p : Part) → as_links (become_part g p) ≡ become_links g (as_links p)
  of_links (OfLinks x) = refl
  of_links _ = refl

  of_variable : (p : Part) → as_variable (become_part g p) ≡ become_variable g (as_variable p)
  of_variable (OfVariable x) = refl
  of_variable _ = refl

  of_declared : (p : Part) → as_declared (become_part g p) ≡ become_declared g (as_declared p)
  of_declared (OfDeclared x) = refl
  of_declared _ = refl

  pub of_stmt : (p : Part) → as_stmt (become_part g p) ≡ become_stmt g (as_stmt p)
  of_stmt (OfStmt x) = refl
  of_stmt _ = refl

  pub of_stmts : (p : Part) → as_stmts (become_part g p) ≡ become_stmts g (as_stmts p)
  of_stmts (OfStmts x) = refl
  of_stmts _ = refl

  of_arms : (p : Part) → as_arms (become_part g p) ≡ become_arms g (as_arms p)
  of_arms (OfArms x) = refl
  of_arms _ = refl

  of_catches : (p : Part) → as_catches (become_part g p) ≡ become_catches g (as_catches p)
  of_catches (OfCatches x) = refl
  of_catches _ = refl

  nth : (ps : List Part) (i : ℕ) → get_or (map (become_part g) ps) i (OfStmts NoStmts) ≡ become_part g (get_or ps i (OfStmts NoStmts))
  nth [] i = refl
  nth (p ∷ ps) zero = refl
  nth (p ∷ ps) (suc i) = nth ps i

  pub in_mapped : (ps : List Part) (i : ℕ) → part_in (map (become_part g) ps) i ≡ become_part g (part_in ps i)
  unfolding part_in
  in_mapped ps i = nth ps i

  -- ---- nodes over parts that become others
  module _ (ps : List Part) where
    abbrev qs : List Part
    qs = map (become_part g) ps

    by : {A : Type 0} (sort : Part → A) (change : A → A) → ((p : Part) → sort (become_part g p) ≡ change (sort p)) → (i : ℕ) → sort (part_in qs i) ≡ change (sort (part_in ps i))
    by sort change h i = ap sort (in_mapped ps i) ∙ h (part_in ps i)

    ty : (i : ℕ) → type_in qs i ≡ g (type_in ps i)
    ty i = by as_type g of_type i

    tys : (i : ℕ) → types_in qs i ≡ become_types g (types_in ps i)
    tys i = by as_types (become_types g) of_types i

    con : (i : ℕ) → constant_in qs i ≡ constant_in ps i
    con i = by as_constant (λ x. x) of_constant i

    stp : (i : ℕ) → steps_in qs i ≡ become_steps g (steps_in ps i)
    stp i = by as_steps (become_steps g) of_steps i

    cap : (i : ℕ) → captures_in qs i ≡ captures_in ps i
    cap i = by as_captures (λ x. x) of_captures i

    op : (i : ℕ) → ops_in qs i ≡ ops_in ps i
    op i = by as_ops (λ x. x) of_ops i

    nam : (i : ℕ) → names_in qs i ≡ names_in ps i
    nam i = by as_names (λ x. x) of_names i

    pla : (i : ℕ) → places_in qs i ≡ places_in ps i
    pla i = by as_places (λ x. x) of_places i

    cas : (i : ℕ) → cases_in qs i ≡ cases_in ps i
    cas i = by as_cases (λ x. x) of_cases i

    exp : (i : ℕ) → expr_in qs i ≡ become_expr g (expr_in ps i)
    exp i = by as_expr (become_expr g) of_expr i

    opd : (i : ℕ) → operand_in qs i ≡ become_operand g (operand_in ps i)
    opd i = by as_operand (become_operand g) of_operand i

    opds : (i : ℕ) → operands_in qs i ≡ become_operands g (operands_in ps i)
    opds i = by as_operands (become_operands g) of_operands i

    lin : (i : ℕ) → links_in qs i ≡ become_links g (links_in ps i)
    lin i = by as_links (become_links g) of_links i

    var : (i : ℕ) → variable_in qs i ≡ become_variable g (variable_in ps i)
    var i = by as_variable (become_variable g) of_variable i

    dec : (i : ℕ) → declared_in qs i ≡ become_declared g (declared_in ps i)
    dec i = by as_declared (become_declared g) of_declared i

    stm : (i : ℕ) → stmt_in qs i ≡ become_stmt g (stmt_in ps i)
    stm i = by as_stmt (become_stmt g) of_stmt i

    stms : (i : ℕ) → stmts_in qs i ≡ become_stmts g (stmts_in ps i)
    stms i = by as_stmts (become_stmts g) of_stmts i

    arm : (i : ℕ) → arms_in qs i ≡ become_arms g (arms_in ps i)
    arm i = by as_arms (become_arms g) of_arms i

    cat : (i : ℕ) → catches_in qs i ≡ become_catches g (catches_in ps i)
    cat i = by as_catches (become_catches g) of_catches i

    step_is : (x : StepNode) → step_over qs x ≡ become_step g (step_over ps x)
    step_is (step.Widen p) = refl
    step_is (step.Narrow p) = refl
    step_is (step.BoxUp p) = refl
    step_is (step.Unbox p) = refl
    step_is (step.Up to unchecked) = rw (ty to) refl
    step_is (step.Test check to) = refl

    types_is : (x : ListNode) → types_over qs x ≡ become_types g (types_over ps x)
    types_is l.Empty = refl
    types_is (l.More before last) = rw (tys before, ty last) (sym (map-append g (types_in ps before) (type_in ps last ∷ [])))

    steps_is : (x : StepsNode) → steps_over qs x ≡ become_steps g (steps_over ps x)
    steps_is steps.Empty = refl
    steps_is (steps.More before last) = rw (stp before, step_is last) (sym (map-append (become_step g) (steps_in ps before) (step_over ps last ∷ [])))

    captures_is : (x : CapturesNode) → captures_over qs x ≡ captures_over ps x
    captures_is captures.Empty = refl
    captures_is (captures.More before last) = rw (cap before) refl

    ops_is : (x : OpsNode) → ops_over qs x ≡ ops_over ps x
    ops_is ops.Empty = refl
    ops_is (ops.More before last) = rw (op before) refl

    names_is : (x : NamesNode) → names_over qs x ≡ names_over ps x
    names_is names.Empty = refl
    names_is (names.More before place local) = rw (nam before) refl

    places_is : (x : PlacesNode) → places_over qs x ≡ places_over ps x
    places_is places.Empty = refl
    places_is (places.More before last) = rw (pla before) refl

    cases_is : (x : CasesNode) → cases_over qs x ≡ cases_over ps x
    cases_is cases.Empty = refl
    cases_is (cases.More before last) = rw (cas before, nam last.named) refl

    form_is : (x : ExprForm) → form_over qs x ≡ become_form g (form_over ps x)
    form_is (f.Constant before value named casts) = rw (opds before, con value, nam named, pla casts) refl
    form_is f.Null = refl
    form_is (f.Local local) = refl
    form_is f.This = refl
    form_is (f.StaticField before field is_simple) = rw (opds before) refl
    form_is (f.Field of_it field) = rw (opd of_it) refl
    form_is (f.Element array index) = rw (opd array, opd index) refl
    form_is (f.Length array) = rw (opd array) refl
    form_is (f.Prefix ops of_it) = rw (op ops, opd of_it) refl
    form_is (f.Chain first links) = rw (opd first, lin links) refl
    form_is (f.AllOf operands from up_to) = rw (opds operands) refl
    form_is (f.AnyOf operands from up_to) = rw (opds operands) refl
    form_is (f.InstanceOf of_it to) = rw (opd of_it) refl
    form_is (f.Conditional test first other from up_to) = rw (opd test, opd first, opd other) refl
    form_is (f.Assign variable value store) = rw (var variable, opd value, stp store) refl
    form_is (f.Compound variable joint left right into) = rw (var variable, stp left, opd right, stp into) refl
    form_is (f.Change variable op from into is_prefix) = rw (var variable, stp from, stp into) refl
    form_is (f.Call kind receiver method type_args args phase thrown is_raw) = rw (opds receiver, tys type_args, opds args, tys thrown) refl
    form_is (f.New constructor args phase thrown is_raw) = rw (opds args, tys thrown) refl
    form_is (f.NewArray lengths) = rw (opds lengths) refl
    form_is (f.ArrayOf elements) = rw (opds elements) refl
    form_is (f.Cast of_it to steps is_below) = rw (opd of_it, ty to, stp steps) refl

    expr_is : (x : ExprNode) → expr_over qs x ≡ become_expr g (expr_over ps x)
    expr_is e.Missing = refl
    expr_is (e.Expr place t captures form) = rw (ty t, cap captures, form_is form) refl

    operand_is : (x : OperandNode) → operand_over qs x ≡ become_operand g (operand_over ps x)
    operand_is o.Missing = refl
    operand_is (o.Operand place of_it steps) = rw (exp of_it, stp steps) refl

    operands_is : (x : ListNode) → operands_over qs x ≡ become_operands g (operands_over ps x)
    operands_is l.Empty = refl
    operands_is (l.More before last) = rw (opds before, opd last) refl

    links_is : (x : LinksNode) → links_over qs x ≡ become_links g (links_over ps x)
    links_is links.Empty = refl
    links_is (links.More before joint left right) = rw (lin before, stp left, opd right) refl

    variable_is : (x : VariableNode) → variable_over qs x ≡ become_variable g (variable_over ps x)
    variable_is (v.Local place local) = refl
    variable_is (v.StaticField place before field is_simple) = rw (opds before) refl
    variable_is (v.Field place of_it field is_raw) = rw (opd of_it) refl
    variable_is (v.Element place array index) = rw (opd array, opd index) refl

    declared_is : (x : DeclaredNode) → declared_over qs x ≡ become_declared g (declared_over ps x)
    declared_is declared.Empty = refl
    declared_is (declared.More before place local value) = rw (dec before, opds value) refl

    stmt_form_is : (x : FormNode) → stmt_form_over qs x ≡ become_stmt_form g (stmt_form_over ps x)
    stmt_form_is s.Empty = refl
    stmt_form_is (s.Block stmts) = rw (stms stmts) refl
    stmt_form_is (s.Locals declared) = rw (dec declared) refl
    stmt_form_is (s.Effect of_it) = rw (opd of_it) refl
    stmt_form_is (s.If arms other) = rw (arm arms, stms other) refl
    stmt_form_is (s.Labelled target body) = rw (stm body) refl
    stmt_form_is (s.While target test body) = rw (opd test, stm body) refl
    stmt_form_is (s.Do target body test) = rw (stm body, opd test) refl
    stmt_form_is (s.For target declared before test update body) = rw (dec declared, opds before, opds test, opds update, stm body) refl
    stmt_form_is (s.ForArray target of_it t captures steps local body) = rw (opd of_it, ty t, cap captures, stp steps, stm body) refl
    stmt_form_is (s.ForIterable target of_it t captures steps local body) = rw (opd of_it, ty t, cap captures, stp steps, stm body) refl
    stmt_form_is (s.Switch target of_it cases stmts) = rw (opd of_it, cas cases, stms stmts) refl
    stmt_form_is (s.Return value) = rw (opds value) refl
    stmt_form_is (s.Break target) = refl
    stmt_form_is (s.Continue target) = refl
    stmt_form_is (s.Throw of_it) = rw (opd of_it) refl
    stmt_form_is (s.Try body catches last copies) = rw (stm body, cat catches, stms last) refl
    stmt_form_is (s.Construct constructor args phase thrown is_raw) = rw (opds args, tys thrown) refl
    stmt_form_is (s.Initialise field value) = rw (opd value) refl

    stmt_is : (x : StmtNode) → stmt_over qs x ≡ become_stmt g (stmt_over ps x)
    stmt_is x = rw (stmt_form_is x.form) refl

    stmts_is : (x : ListNode) → stmts_over qs x ≡ become_stmts g (stmts_over ps x)
    stmts_is l.Empty = refl
    stmts_is (l.More before last) = rw (stms before, stm last) refl

    arms_is : (x : ArmsNode) → arms_over qs x ≡ become_arms g (arms_over ps x)
    arms_is arms.Empty = refl
    arms_is (arms.More before test taken) = rw (arm before, opd test, stm taken) refl

    catches_is : (x : CatchesNode) → catches_over qs x ≡ become_catches g (catches_over ps x)
    catches_is catches.Empty = refl
    catches_is (catches.More before place local types body) = rw (cat before, tys types, stm body) refl

    part_is : (x : Node) → part_over qs (node_becomes g x) ≡ become_part g (part_over ps x)
    part_is (n.Type x) = refl
    part_is (n.Types x) = ap OfTypes (types_is x)
    part_is (n.Constant x) = refl
    part_is (n.Steps x) = ap OfSteps (steps_is x)
    part_is (n.Captures x) = ap OfCaptures (captures_is x)
    part_is (n.Ops x) = ap OfOps (ops_is x)
    part_is (n.Names x) = ap OfNames (names_is x)
    part_is (n.Places x) = ap OfPlaces (places_is x)
    part_is (n.Cases x) = ap OfCases (cases_is x)
    part_is (n.Expr x) = ap OfExpr (expr_is x)
    part_is (n.Operand x) = ap OfOperand (operand_is x)
    part_is (n.Operands x) = ap OfOperands (operands_is x)
    part_is (n.Links x) = ap OfLinks (links_is x)
    part_is (n.Variable x) = ap OfVariable (variable_is x)
    part_is (n.Declared x) = ap OfDeclared (declared_is x)
    part_is (n.Stmt x) = ap OfStmt (stmt_is x)
    part_is (n.Stmts x) = ap OfStmts (stmts_is x)
    part_is (n.Arms x) = ap OfArms (arms_is x)
    part_is (n.Catches x) = ap OfCatches (catches_is x)

  parts_mapped : (ps : List Part) (ns : List Node) → parts_on (map (become_part g) ps) (map (node_becomes g) ns) ≡ map (become_part g) (parts_on ps ns)
  parts_mapped ps [] = refl
  parts_mapped ps (x ∷ ns) =
      ap (λ p. parts_on (map (become_part g) ps ++ p ∷ []) (map (node_becomes g) ns)) (part_is ps x)
      ∙ ap (λ l. parts_on l (map (node_becomes g) ns)) (sym (map-append (become_part g) ps (part_over ps x ∷ [])))
      ∙ parts_mapped (ps ++ part_over ps x ∷ []) ns

  pub parts_become : (ns : List Node) → parts (map (node_becomes g) ns) ≡ map (become_part g) (parts ns)
  unfolding parts
  parts_become ns = parts_mapped [] ns
