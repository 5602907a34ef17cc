-- What stands at a place.
use Rattle.std.proofs.Common.{◌≡◌, refl, ap, sym, ◌∙◌, ℕ, List, [], ◌∷◌, ◌++◌, ◌<◌, ◌≤◌, ◌+◌, length, arith, get_or, subst, zero, suc}
use Rattle.std.proofs.lemmas.List.{get_or_append_left}
use Rattle.std.proofs.Math.Seq.{get_or-append_seam}
use Rattle.std.proofs.Math.ListN.{length-append}
use Rattle.jc_typed.specs.declared.nodes.Node.{Node}
use Rattle.jc_typed.specs.declared.nodes.Node.TheVariants as n
use Rattle.jc_typed.specs.declared.expressions.ExprNode.{ExprNode}
use Rattle.jc_typed.specs.declared.expressions.ExprNode.TheVariants as e
use Rattle.jc_typed.specs.declared.expressions.ExprForm.{ExprForm}
use Rattle.jc_typed.specs.declared.expressions.ExprForm.TheVariants as f
use Rattle.jc_typed.specs.declared.expressions.OperandNode.{OperandNode}
use Rattle.jc_typed.specs.declared.expressions.OperandNode.TheVariants as o
use Rattle.jc_typed.specs.declared.expressions.VariableNode.{VariableNode}
use Rattle.jc_typed.specs.declared.expressions.VariableNode.TheVariants as v
use Rattle.jc_typed.specs.declared.statements.StmtNode.{StmtNode}
use Rattle.jc_typed.specs.declared.statements.StmtForm.{StmtForm as FormNode}
use Rattle.jc_typed.specs.declared.statements.StmtForm.TheVariants as s
use Rattle.jc_typed.specs.declared.lists.ListNode.{ListNode}
use Rattle.jc_typed.specs.declared.lists.ListNode.TheVariants as l
use Rattle.jc_typed.specs.declared.lists.StepNode.{StepNode}
use Rattle.jc_typed.specs.declared.lists.StepNode.TheVariants as step
use Rattle.jc_typed.specs.declared.lists.StepsNode.{StepsNode}
use Rattle.jc_typed.specs.declared.lists.StepsNode.TheVariants as steps
use Rattle.jc_typed.specs.declared.lists.CapturesNode.{CapturesNode}
use Rattle.jc_typed.specs.declared.lists.CapturesNode.TheVariants as captures
use Rattle.jc_typed.specs.declared.lists.OpsNode.{OpsNode}
use Rattle.jc_typed.specs.declared.lists.OpsNode.TheVariants as ops
use Rattle.jc_typed.specs.declared.lists.NamesNode.{NamesNode}
use Rattle.jc_typed.specs.declared.lists.NamesNode.TheVariants as names
use Rattle.jc_typed.specs.declared.lists.PlacesNode.{PlacesNode}
use Rattle.jc_typed.specs.declared.lists.PlacesNode.TheVariants as places
use Rattle.jc_typed.specs.declared.lists.CasesNode.{CasesNode}
use Rattle.jc_typed.specs.declared.lists.CasesNode.TheVariants as cases
use Rattle.jc_typed.specs.declared.lists.LinksNode.{LinksNode}
use Rattle.jc_typed.specs.declared.lists.LinksNode.TheVariants as links
use Rattle.jc_typed.specs.declared.lists.ArmsNode.{ArmsNode}
use Rattle.jc_typed.specs.declared.lists.ArmsNode.TheVariants as arms
use Rattle.jc_typed.specs.declared.lists.DeclaredNode.{DeclaredNode}
use Rattle.jc_typed.specs.declared.lists.DeclaredNode.TheVariants as declared
use Rattle.jc_typed.specs.declared.lists.CatchesNode.{CatchesNode}
use Rattle.jc_typed.specs.declared.lists.CatchesNode.TheVariants as catches
use Rattle.jc_typed.specs.Trees.{stmt, NoStmts}
use Rattle.jc_typed.specs.Parts.{Part, FormsStay, Grows, part_of, part_at, Below, WellFormed, parts_on, parts, part_over, part_in, step_over, form_over, stmt_form_over, BelowStep, BelowForm, BelowStmtForm, BelowArms, BelowCaptures, BelowCases, BelowCatches, BelowDeclared, BelowExpr, BelowLinks, BelowList, BelowNames, BelowOperand, BelowOps, BelowPlaces, BelowSteps, BelowStmt, BelowVariable, OfTypes, types_over, OfSteps, steps_over, OfCaptures, captures_over, OfOps, ops_over, OfNames, names_over, OfPlaces, places_over, OfCases, cases_over, OfExpr, expr_over, OfOperand, operand_over, OfOperands, operands_over, OfLinks, links_over, OfVariable, variable_over, OfDeclared, declared_over, OfStmt, stmt_over, OfStmts, stmts_over, OfArms, arms_over, OfCatches, catches_over}

pub record GrowsIn (old new : List Part) : Type 0 where
  pub longer : length old ≤ length new
  pub kept : (i : ℕ) → i < length old → part_in new i ≡ part_in old i

grows_none : (ps : List Part) → GrowsIn ps ps
grows_none ps = record { longer = omega arith; kept = λ i h. refl }

grows_both : (ps qs rs : List Part) → GrowsIn ps qs → GrowsIn qs rs → GrowsIn ps rs
grows_both ps qs rs g h = record {
  longer = omega (arith, g.longer, h.longer);
  kept = λ i l. h.kept i (omega (arith, l, g.longer)) ∙ g.kept i l;
}

grows_more : (ps : List Part) (p : Part) → GrowsIn ps (ps ++ p ∷ [])
unfolding part_in
grows_more ps p = record {
  longer = let e : length (ps ++ p ∷ []) ≡ length ps + 1 = length-append ps (p ∷ []) in omega (arith, e);
  kept = λ i h. get_or_append_left ps (p ∷ []) (OfStmts NoStmts) i h;
}

grows_on : (ps : List Part) (ns : List Node) → GrowsIn ps (parts_on ps ns)
grows_on ps [] = grows_none ps
grows_on ps (n ∷ ns) = grows_both ps (ps ++ part_over ps n ∷ []) (parts_on (ps ++ part_over ps n ∷ []) ns) (grows_more ps (part_over ps n)) (grows_on (ps ++ part_over ps n ∷ []) ns)

same_step : (ps qs : List Part) (n : StepNode) → GrowsIn ps qs → BelowStep (length ps) n → step_over qs n ≡ step_over ps n
same_step ps qs (step.Widen p) g b = refl
same_step ps qs (step.Narrow p) g b = refl
same_step ps qs (step.BoxUp p) g b = refl
same_step ps qs (step.Unbox p) g b = refl
same_step ps qs (step.Up ty unchecked) g b = rw (g.kept ty b) refl
same_step ps qs (step.Test check to) g b = refl

same_types : (ps qs : List Part) (n : ListNode) → GrowsIn ps qs → BelowList (length ps) n → types_over qs n ≡ types_over ps n
same_types ps qs l.Empty g b = refl
same_types ps qs (l.More before last) g b = rw (g.kept before (b.0), g.kept last (b.1)) refl

same_steps : (ps qs : List Part) (n : StepsNode) → GrowsIn ps qs → BelowSteps (length ps) n → steps_over qs n ≡ steps_over ps n
same_steps ps qs steps.Empty g b = refl
same_steps ps qs (steps.More before last) g b = rw (g.kept before (b.0), same_step ps qs last g (b.1)) refl

same_captures : (ps qs : List Part) (n : CapturesNode) → GrowsIn ps qs → BelowCaptures (length ps) n → captures_over qs n ≡ captures_over ps n
same_captures ps qs captures.Empty g b = refl
same_captures ps qs (captures.More before last) g b = rw (g.kept before b) refl

same_ops : (ps qs : List Part) (n : OpsNode) → GrowsIn ps qs → BelowOps (length ps) n → ops_over qs n ≡ ops_over ps n
same_ops ps qs ops.Empty g b = refl
same_ops ps qs (ops.More before last) g b = rw (g.kept before b) refl

same_names : (ps qs : List Part) (n : NamesNode) → GrowsIn ps qs → BelowNames (length ps) n → names_over qs n ≡ names_over ps n
same_names ps qs names.Empty g b = refl
same_names ps qs (names.More before place local) g b = rw (g.kept before b) refl

same_places : (ps qs : List Part) (n : PlacesNode) → GrowsIn ps qs → BelowPlaces (length ps) n → places_over qs n ≡ places_over ps n
same_places ps qs places.Empty g b = refl
same_places ps qs (places.More before last) g b = rw (g.kept before b) refl

same_cases : (ps qs : List Part) (n : CasesNode) → GrowsIn ps qs → BelowCases (length ps) n → cases_over qs n ≡ cases_over ps n
same_cases ps qs cases.Empty g b = refl
same_cases ps qs (cases.More before last) g b = rw (g.kept before (b.0), g.kept last.named (b.1)) refl

same_form : (ps qs : List Part) (n : ExprForm) → GrowsIn ps qs → BelowForm (length ps) n → form_over qs n ≡ form_over ps n
same_form ps qs (f.Constant before value named casts) g b = rw (g.kept before (b.0), g.kept value (b.1), g.kept named (b.2), g.kept casts (b.3)) refl
same_form ps qs f.Null g b = refl
same_form ps qs (f.Local local) g b = refl
same_form ps qs f.This g b = refl
same_form ps qs (f.StaticField before field is_simple) g b = rw (g.kept before b) refl
same_form ps qs (f.Field of_it field) g b = rw (g.kept of_it b) refl
same_form ps qs (f.Element array index) g b = rw (g.kept array (b.0), g.kept index (b.1)) refl
same_form ps qs (f.Length array) g b = rw (g.kept array b) refl
same_form ps qs (f.Prefix ops of_it) g b = rw (g.kept ops (b.0), g.kept of_it (b.1)) refl
same_form ps qs (f.Chain first links) g b = rw (g.kept first (b.0), g.kept links (b.1)) refl
same_form ps qs (f.AllOf operands from up_to) g b = rw (g.kept operands b) refl
same_form ps qs (f.AnyOf operands from up_to) g b = rw (g.kept operands b) refl
same_form ps qs (f.InstanceOf of_it to) g b = rw (g.kept of_it b) refl
same_form ps qs (f.Conditional test then other from up_to) g b = rw (g.kept test (b.0), g.kept then (b.1), g.kept other (b.2)) refl
same_form ps qs (f.Assign variable value store) g b = rw (g.kept variable (b.0), g.kept value (b.1), g.kept store (b.2)) refl
same_form ps qs (f.Compound variable joint left right into) g b = rw (g.kept variable (b.0), g.kept left (b.1), g.kept right (b.2), g.kept into (b.3)) refl
same_form ps qs (f.Change variable op from into is_prefix) g b = rw (g.kept variable (b.0), g.kept from (b.1), g.kept into (b.2)) refl
same_form ps qs (f.Call kind receiver method type_args args phase thrown is_raw) g b = rw (g.kept receiver (b.0), g.kept type_args (b.1), g.kept args (b.2), g.kept thrown (b.3)) refl
same_form ps qs (f.New constructor args phase thrown is_raw) g b = rw (g.kept args (b.0), g.kept thrown (b.1)) refl
same_form ps qs (f.NewArray lengths) g b = rw (g.kept lengths b) refl
same_form ps qs (f.ArrayOf elements) g b = rw (g.kept elements b) refl
same_form ps qs (f.Cast of_it to steps is_below) g b = rw (g.kept of_it (b.0), g.kept to (b.1), g.kept steps (b.2)) refl

same_expr : (ps qs : List Part) (n : ExprNode) → GrowsIn ps qs → BelowExpr (length ps) n → expr_over qs n ≡ expr_over ps n
same_expr ps qs e.Missing g b = refl
same_expr ps qs (e.Expr place ty captures form) g b = rw (g.kept ty (b.0), g.kept captures (b.1), same_form ps qs form g (b.2)) refl

same_operand : (ps qs : List Part) (n : OperandNode) → GrowsIn ps qs → BelowOperand (length ps) n → operand_over qs n ≡ operand_over ps n
same_operand ps qs o.Missing g b = refl
same_operand ps qs (o.Operand place of_it steps) g b = rw (g.kept of_it (b.0), g.kept steps (b.1)) refl

same_operands : (ps qs : List Part) (n : ListNode) → GrowsIn ps qs → BelowList (length ps) n → operands_over qs n ≡ operands_over ps n
same_operands ps qs l.Empty g b = refl
same_operands ps qs (l.More before last) g b = rw (g.kept before (b.0), g.kept last (b.1)) refl

same_links : (ps qs : List Part) (n : LinksNode) → GrowsIn ps qs → BelowLinks (length ps) n → links_over qs n ≡ links_over ps n
same_links ps qs links.Empty g b = refl
same_links ps qs (links.More before joint left right) g b = rw (g.kept before (b.0), g.kept left (b.1), g.kept right (b.2)) refl

same_variable : (ps qs : List Part) (n : VariableNode) → GrowsIn ps qs → BelowVariable (length ps) n → variable_over qs n ≡ variable_over ps n
same_variable ps qs (v.Local place local) g b = refl
same_variable ps qs (v.StaticField place before field is_simple) g b = rw (g.kept before b) refl
same_variable ps qs (v.Field place of_it field is_raw) g b = rw (g.kept of_it b) refl
same_variable ps qs (v.Element place array index) g b = rw (g.kept array (b.0), g.kept index (b.1)) refl

same_declared : (ps qs : List Part) (n : DeclaredNode) → GrowsIn ps qs → BelowDeclared (length ps) n → declared_over qs n ≡ declared_over ps n
same_declared ps qs declared.Empty g b = refl
same_declared ps qs (declared.More before place local value) g b = rw (g.kept before (b.0), g.kept value (b.1)) refl

same_stmt_form : (ps qs : List Part) (n : FormNode) → GrowsIn ps qs → BelowStmtForm (length ps) n → stmt_form_over qs n ≡ stmt_form_over ps n
same_stmt_form ps qs s.Empty g b = refl
same_stmt_form ps qs (s.Block stmts) g b = rw (g.kept stmts b) refl
same_stmt_form ps qs (s.Locals declared) g b = rw (g.kept declared b) refl
same_stmt_form ps qs (s.Effect of_it) g b = rw (g.kept of_it b) refl
same_stmt_form ps qs (s.If arms other) g b = rw (g.kept arms (b.0), g.kept other (b.1)) refl
same_stmt_form ps qs (s.Labelled target body) g b = rw (g.kept body b) refl
same_stmt_form ps qs (s.While target test body) g b = rw (g.kept test (b.0), g.kept body (b.1)) refl
same_stmt_form ps qs (s.Do target body test) g b = rw (g.kept body (b.0), g.kept test (b.1)) refl
same_stmt_form ps qs (s.For target declared before test update body) g b = rw (g.kept declared (b.0), g.kept before (b.1), g.kept test (b.2), g.kept update (b.3), g.kept body (b.4)) refl
same_stmt_form ps qs (s.ForArray target of_it ty captures steps local body) g b = rw (g.kept of_it (b.0), g.kept ty (b.1), g.kept captures (b.2), g.kept steps (b.3), g.kept body (b.4)) refl
same_stmt_form ps qs (s.ForIterable target of_it ty captures steps local body) g b = rw (g.kept of_it (b.0), g.kept ty (b.1), g.kept captures (b.2), g.kept steps (b.3), g.kept body (b.4)) refl
same_stmt_form ps qs (s.Switch target of_it cases stmts) g b = rw (g.kept of_it (b.0), g.kept cases (b.1), g.kept stmts (b.2)) refl
same_stmt_form ps qs (s.Return value) g b = rw (g.kept value b) refl
same_stmt_form ps qs (s.Break target) g b = refl
same_stmt_form ps qs (s.Continue target) g b = refl
same_stmt_form ps qs (s.Throw of_it) g b = rw (g.kept of_it b) refl
same_stmt_form ps qs (s.Try body catches last copies) g b = rw (g.kept body (b.0), g.kept catches (b.1), g.kept last (b.2)) refl
same_stmt_form ps qs (s.Construct constructor args phase thrown is_raw) g b = rw (g.kept args (b.0), g.kept thrown (b.1)) refl
same_stmt_form ps qs (s.Initialise field value) g b = rw (g.kept value b) refl

same_stmt : (ps qs : List Part) (n : StmtNode) → GrowsIn ps qs → BelowStmt (length ps) n → stmt_over qs n ≡ stmt_over ps n
same_stmt ps qs n g b = ap (stmt n.place) (same_stmt_form ps qs n.form g b)

same_stmts : (ps qs : List Part) (n : ListNode) → GrowsIn ps qs → BelowList (length ps) n → stmts_over qs n ≡ stmts_over ps n
same_stmts ps qs l.Empty g b = refl
same_stmts ps qs (l.More before last) g b = rw (g.kept before (b.0), g.kept last (b.1)) refl

same_arms : (ps qs : List Part) (n : ArmsNode) → GrowsIn ps qs → BelowArms (length ps) n → arms_over qs n ≡ arms_over ps n
same_arms ps qs arms.Empty g b = refl
same_arms ps qs (arms.More before test then) g b = rw (g.kept before (b.0), g.kept test (b.1), g.kept then (b.2)) refl

same_catches : (ps qs : List Part) (n : CatchesNode) → GrowsIn ps qs → BelowCatches (length ps) n → catches_over qs n ≡ catches_over ps n
same_catches ps qs catches.Empty g b = refl
same_catches ps qs (catches.More before place local types body) g b = rw (g.kept before (b.0), g.kept types (b.1), g.kept body (b.2)) refl

-- a node over what was there already stands for the same later
same_at : (ps qs : List Part) (n : Node) → GrowsIn ps qs → Below (length ps) n → part_over qs n ≡ part_over ps n
same_at ps qs (n.Type x) g b = refl
same_at ps qs (n.Types x) g b = ap OfTypes (same_types ps qs x g b)
same_at ps qs (n.Constant x) g b = refl
same_at ps qs (n.Steps x) g b = ap OfSteps (same_steps ps qs x g b)
same_at ps qs (n.Captures x) g b = ap OfCaptures (same_captures ps qs x g b)
same_at ps qs (n.Ops x) g b = ap OfOps (same_ops ps qs x g b)
same_at ps qs (n.Names x) g b = ap OfNames (same_names ps qs x g b)
same_at ps qs (n.Places x) g b = ap OfPlaces (same_places ps qs x g b)
same_at ps qs (n.Cases x) g b = ap OfCases (same_cases ps qs x g b)
same_at ps qs (n.Expr x) g b = ap OfExpr (same_expr ps qs x g b)
same_at ps qs (n.Operand x) g b = ap OfOperand (same_operand ps qs x g b)
same_at ps qs (n.Operands x) g b = ap OfOperands (same_operands ps qs x g b)
same_at ps qs (n.Links x) g b = ap OfLinks (same_links ps qs x g b)
same_at ps qs (n.Variable x) g b = ap OfVariable (same_variable ps qs x g b)
same_at ps qs (n.Declared x) g b = ap OfDeclared (same_declared ps qs x g b)
same_at ps qs (n.Stmt x) g b = ap OfStmt (same_stmt ps qs x g b)
same_at ps qs (n.Stmts x) g b = ap OfStmts (same_stmts ps qs x g b)
same_at ps qs (n.Arms x) g b = ap OfArms (same_arms ps qs x g b)
same_at ps qs (n.Catches x) g b = ap OfCatches (same_catches ps qs x g b)

parts_on_more : (ps : List Part) (ns : List Node) (n : Node) → parts_on ps (ns ++ n ∷ []) ≡ parts_on ps ns ++ part_over (parts_on ps ns) n ∷ []
parts_on_more ps [] n = refl
parts_on_more ps (m ∷ ns) n = parts_on_more (ps ++ part_over ps m ∷ []) ns n

pub parts_more : (ns : List Node) (n : Node) → parts (ns ++ n ∷ []) ≡ parts ns ++ part_over (parts ns) n ∷ []
unfolding parts
parts_more ns n = parts_on_more [] ns n

length_on : (ps : List Part) (ns : List Node) → length (parts_on ps ns) ≡ length ps + length ns
length_on ps [] = omega arith
length_on ps (n ∷ ns) =
    let e : length (ps ++ part_over ps n ∷ []) ≡ length ps + 1 = length-append ps (part_over ps n ∷ []) in
    let f : length (parts_on (ps ++ part_over ps n ∷ []) ns) ≡ length (ps ++ part_over ps n ∷ []) + length ns = length_on (ps ++ part_over ps n ∷ []) ns in
    omega (arith, e, f)

pub parts_length : (ns : List Node) → length (parts ns) ≡ length ns
unfolding parts
parts_length ns = let e : length (parts_on [] ns) ≡ 0 + length ns = length_on [] ns in omega (arith, e)

well_more : (k : ℕ) (ns : List Node) (n : Node) → WellFormed k ns → Below (k + length ns) n → WellFormed k (ns ++ n ∷ [])
well_more k [] n w b = let e : k + 0 ≡ k = omega arith in (subst (λ j. Below j n) e b, tt)
well_more k (m ∷ ns) n w b = let e : k + length (m ∷ ns) ≡ k + 1 + length ns = omega arith in
    (w.0, well_more (k + 1) ns n w.1 (subst (λ j. Below j n) e b))

seam : (ps : List Part) (p : Part) → part_in (ps ++ p ∷ []) (length ps) ≡ p
unfolding part_in
seam ps p = get_or-append_seam ps p [] (OfStmts NoStmts)

-- an arena that grows, by its parts
grows_parts : (ps qs : List Node) → Grows ps qs → GrowsIn (parts ps) (parts qs)
grows_parts ps qs g = record {
  longer = let e : length (parts ps) ≡ length ps = parts_length ps in let f : length (parts qs) ≡ length qs = parts_length qs in omega (arith, e, f, g.longer);
  kept = λ i h. g.kept i (subst (λ k. i < k) (parts_length ps) h);
}

pub forms_stay : FormsStay
forms_stay old new form g b = same_form (parts old) (parts new) form (grows_parts old new g) (subst (λ k. BelowForm k form) (sym (parts_length old)) b)

-- the invariant after a push
pub well_pushed : (ns : List Node) (n : Node) → WellFormed 0 ns → Below (length ns) n → WellFormed 0 (ns ++ n ∷ [])
well_pushed ns n w b = let e : length ns ≡ 0 + length ns = omega arith in well_more 0 ns n w (subst (λ j. Below j n) e b)

pub grows_pushed : (ns : List Node) (n : Node) → Grows ns (ns ++ n ∷ [])
grows_pushed ns n =
    let g : GrowsIn (parts ns) (parts (ns ++ n ∷ [])) = subst (λ qs. GrowsIn (parts ns) qs) (sym (parts_more ns n)) (grows_more (parts ns) (part_over (parts ns) n)) in
    let long : length (ns ++ n ∷ []) ≡ length ns + 1 = length-append ns (n ∷ []) in
    record { longer = omega (arith, long); kept = λ i h. g.kept i (subst (λ k. i < k) (sym (parts_length ns)) h) }

pub value_pushed : (ns : List Node) (n : Node) → part_of (ns ++ n ∷ []) (length ns) ≡ part_at ns n
value_pushed ns n = ap (λ qs. part_in qs (length ns)) (parts_more ns n)
    ∙ (ap (λ k. part_in (parts ns ++ part_over (parts ns) n ∷ []) k) (sym (parts_length ns)) ∙ seam (parts ns) (part_over (parts ns) n))

pub record Stands (ps : List Part) (k : ℕ) (n : Node) : Type 0 where
  pub value : part_in ps k ≡ part_over ps n
  pub below : Below k n

stands_on : (ps : List Part) (ns : List Node) (i : ℕ) (d : Node) → WellFormed (length ps) ns → i < length ns → Stands (parts_on ps ns) (length ps + i) (get_or ns i d)
stands_on ps [] i d w h = absurd (omega (arith, h))
stands_on ps (n ∷ ns) zero d w h =
    let long : length (ps ++ part_over ps n ∷ []) ≡ length ps + 1 = length-append ps (part_over ps n ∷ []) in
    let e : length ps ≡ length ps + 0 = omega arith in
    let lt : length ps < length (ps ++ part_over ps n ∷ []) = omega (arith, long) in
    let more : GrowsIn (ps ++ part_over ps n ∷ []) (parts_on (ps ++ part_over ps n ∷ []) ns) = grows_on (ps ++ part_over ps n ∷ []) ns in
    subst (λ k. Stands (parts_on (ps ++ part_over ps n ∷ []) ns) k n) e
    (record {
      value = more.kept (length ps) lt ∙ (seam ps (part_over ps n) ∙ sym (same_at ps (parts_on (ps ++ part_over ps n ∷ []) ns) n (grows_both ps (ps ++ part_over ps n ∷ []) (parts_on (ps ++ part_over ps n ∷ []) ns) (grows_more ps (part_over ps n)) more) w.0));
      below = w.0;
    })
stands_on ps (n ∷ ns) (suc i) d w h =
    let long : length (ps ++ part_over ps n ∷ []) ≡ length ps + 1 = length-append ps (part_over ps n ∷ []) in
    let e : length (ps ++ part_over ps n ∷ []) + i ≡ length ps + suc i = omega (arith, long) in
    let lt : i < length ns = omega (arith, h) in
    subst (λ k. Stands (parts_on (ps ++ part_over ps n ∷ []) ns) k (get_or ns i d)) e
    (stands_on (ps ++ part_over ps n ∷ []) ns i d (subst (λ k. WellFormed k ns) (sym long) w.1) lt)

-- what an arena answers at a place
pub stands : (ns : List Node) (i : ℕ) (d : Node) → WellFormed 0 ns → i < length ns → Stands (parts ns) i (get_or ns i d)
unfolding parts
stands ns i d w h = let e : 0 + i ≡ i = omega arith in subst (λ k. Stands (parts_on [] ns) k (get_or ns i d)) e (stands_on [] ns i d w h)
