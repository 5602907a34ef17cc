-- The trees of an erased arena.
use Rattle.std.proofs.Common.{◌≡◌, ℕ, List, [], ◌∷◌, ◌++◌, map, refl, sym, ap, ◌∙◌, Option, Some, None}
use Rattle.std.proofs.lemmas.List.{map-append}
use Rattle.jc_types.specs.declared.environment.Bounds.{Bounds}
use Rattle.jc_types.specs.declared.erased.Erased.{Erased}
use Rattle.jc_types.specs.declared.erased.Base.TheVariants as base
use Rattle.jc_types.specs.declared.form.Arg.{Arg}
use Rattle.jc_types.specs.declared.form.Ty.{Ty, map-Ty, fold_out-Ty}
use Rattle.jc_types.specs.declared.form.Ty.TheVariants.{NullTy, outs-NullTy}
use Rattle.jc_types.specs.declared.ids.CaptureId.{CaptureId}
use Rattle.jc_types.specs.declared.ids.VarId.{VarId}
use Rattle.jc_types.specs.declared.table.Table.{Table}
use Rattle.jc_types.specs.Erasing.{erasure, erased_within, erased_by, erased_step, capped, plain}
use Rattle.jc_overriding.specs.Viewing.{erased_type}
use Rattle.jc_typed.specs.declared.nodes.Node.{Node}
use Rattle.jc_typed.specs.declared.nodes.Node.TheVariants as n
use Rattle.jc_typed.specs.declared.program.Body.{Body}
use Rattle.jc_typed.specs.declared.program.TypedMethod.{TypedMethod}
use Rattle.jc_typed.specs.Bulk.{body_bulk}
use Rattle.jc_typed.specs.Parts.{as_stmt, as_stmts, part_in, part_of, parts, stmt_of, stmts_of}
use Rattle.jc_typed.specs.Trees.{Stmt, Stmts, NoStmts, MoreStmts}
use Rattle.jc_meaning.specs.Programs.{body_in, stmt_list, stmts_before}
use Rattle.jc_erase_spec.specs.Trees.{erase_node, erase_nodes, erased_as_type}
use Rattle.jc_erase_trees.specs.Laws.{BodiesAreErased, BulkStays, PartsAreErased}
use Rattle.jc_erase_trees.specs.Trees.{become_body, become_stmt, become_stmts}
use Rattle.jc_erase_trees.proofs.Mapped.{node_becomes, in_mapped, of_stmt, of_stmts, parts_become}
use Rattle.jc_erase_trees.proofs.Weights.{stmt_same, stmts_same}

-- the null type stays
null_by : (vs : VarId → Erased) (cs : CaptureId → Erased) → erased_by vs cs NullTy ≡ plain base.NullTy
unfolding erased_by
null_by vs cs = fold_out-Ty (Unit {0}) Erased (λ _. tt) (erased_step vs cs) NullTy ∙ ap (λ l. erased_step vs cs (map-Ty Arg Ty (Unit {0}) Erased (λ _. tt) (erased_by vs cs) l)) outs-NullTy

null_erased : (T : Table) (env : List Bounds) → erasure T env NullTy ≡ plain base.NullTy
unfolding erasure erased_within
null_erased T env = ap capped (null_by _ _)

pub null_stays : (T : Table) (env : List Bounds) → erased_as_type T env NullTy ≡ NullTy
unfolding erased_as_type
null_stays T env = ap (erased_type T) (null_erased T env)

-- ---- the trees at places
node_is : (T : Table) (env : List Bounds) (x : Node) → erase_node T env x ≡ node_becomes (erased_as_type T env) x
node_is T env (n.Type t) = refl
node_is T env _ = refl

nodes_are : (T : Table) (env : List Bounds) (ns : List Node) → erase_nodes T env ns ≡ map (node_becomes (erased_as_type T env)) ns
nodes_are T env [] = refl
nodes_are T env (x ∷ ns) = rw (node_is T env x, nodes_are T env ns) refl

pub parts_erased : PartsAreErased
parts_erased T env ns i =
    let g = erased_as_type T env in
    let h = null_stays T env in
    ap (λ xs. part_of xs i) (nodes_are T env ns) ∙ ap (λ ps. part_in ps i) (parts_become g h ns) ∙ in_mapped g h (parts ns) i

stmt_erased : (T : Table) (env : List Bounds) (ns : List Node) (i : ℕ) → stmt_of (erase_nodes T env ns) i ≡ become_stmt (erased_as_type T env) (stmt_of ns i)
stmt_erased T env ns i = ap as_stmt (parts_erased T env ns i) ∙ of_stmt (erased_as_type T env) (null_stays T env) (part_of ns i)

stmts_erased : (T : Table) (env : List Bounds) (ns : List Node) (i : ℕ) → stmts_of (erase_nodes T env ns) i ≡ become_stmts (erased_as_type T env) (stmts_of ns i)
stmts_erased T env ns i = ap as_stmts (parts_erased T env ns i) ∙ of_stmts (erased_as_type T env) (null_stays T env) (part_of ns i)

-- ---- bodies
pub before_becomes : (g : Ty → Ty) (x : Stmts) (ss : List Stmt) → stmts_before (become_stmts g x) (map (become_stmt g) ss) ≡ map (become_stmt g) (stmts_before x ss)
before_becomes g NoStmts ss = refl
before_becomes g (MoreStmts before last) ss = before_becomes g before (last ∷ ss)

pub list_becomes : (g : Ty → Ty) (x : Stmts) → stmt_list (become_stmts g x) ≡ map (become_stmt g) (stmt_list x)
list_becomes g x = before_becomes g x []

over_nodes : (T : Table) (env : List Bounds) (ns : List Node) (b : Body) →
    stmt_list (stmts_of (erase_nodes T env ns) b.call) ++ stmt_list (stmts_of (erase_nodes T env ns) b.initialisers) ++ stmt_of (erase_nodes T env ns) b.rest ∷ []
    ≡ map (become_stmt (erased_as_type T env)) (stmt_list (stmts_of ns b.call) ++ stmt_list (stmts_of ns b.initialisers) ++ stmt_of ns b.rest ∷ [])
over_nodes T env ns b =
    let g = erased_as_type T env in
    rw (stmts_erased T env ns b.call, stmts_erased T env ns b.initialisers, stmt_erased T env ns b.rest, list_becomes g (stmts_of ns b.call), list_becomes g (stmts_of ns b.initialisers))
    (sym (map-append (become_stmt g) (stmt_list (stmts_of ns b.call) ++ stmt_list (stmts_of ns b.initialisers)) (stmt_of ns b.rest ∷ [])
    ∙ ap (λ ss. ss ++ become_stmt g (stmt_of ns b.rest) ∷ []) (map-append (become_stmt g) (stmt_list (stmts_of ns b.call)) (stmt_list (stmts_of ns b.initialisers)))))

by_body : (T : Table) (env : List Bounds) (m e : TypedMethod) → e.nodes ≡ erase_nodes T env m.nodes → (o : Option Body) → body_in e o ≡ become_body (erased_as_type T env) (body_in m o)
by_body T env m e en None = refl
by_body T env m e en (Some b) = rw en (ap Some (over_nodes T env m.nodes b))

pub bodies_erased : BodiesAreErased
bodies_erased T env m e en eb = ap (body_in e) eb ∙ by_body T env m e en m.body

-- ---- weights
bulk_over : (T : Table) (env : List Bounds) (ns : List Node) (o : Option Body) → body_bulk (erase_nodes T env ns) o ≡ body_bulk ns o
bulk_over T env ns None = refl
bulk_over T env ns (Some b) =
    let g = erased_as_type T env in
    rw (stmts_erased T env ns b.call, stmts_erased T env ns b.initialisers, stmt_erased T env ns b.rest, stmts_same g (stmts_of ns b.call), stmts_same g (stmts_of ns b.initialisers), stmt_same g (stmt_of ns b.rest)) refl

pub bulk_same : BulkStays
bulk_same T env m e en eb ec = rw (en, eb, ec, bulk_over T env m.nodes m.body) refl
