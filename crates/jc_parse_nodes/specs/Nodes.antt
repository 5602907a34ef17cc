-- Nodes of a first part and of what was read behind it.
use Rattle.std.specs.Prelude.{Bool, true, false, List, [], ◌∷◌, Option, Some, None}
use Rattle.jc_tree.specs.declared.statement.Clause.{Clause, roll-Clause}
use Rattle.jc_tree.specs.declared.statement.Declaration.{Declaration, roll-Declaration}
use Rattle.jc_tree.specs.declared.statement.DeclarationHead.{DeclarationHead}
use Rattle.jc_tree.specs.declared.statement.DeclarationHead.TheVariants as declaration_head_of
use Rattle.jc_tree.specs.declared.statement.LocalVars.{LocalVars}
use Rattle.jc_tree.specs.declared.statement.Member.{Member}
use Rattle.jc_tree.specs.declared.statement.Member.TheVariants as member_of
use Rattle.jc_tree.specs.declared.statement.MethodHead.{MethodHead}
use Rattle.jc_tree.specs.declared.statement.Modifier.{Modifier}
use Rattle.jc_tree.specs.declared.statement.ResultType.TheVariants as result_of
use Rattle.jc_tree.specs.declared.statement.Stmt.{Stmt}
use Rattle.jc_tree.specs.declared.statement.Stmt.TheVariants as stmt_of
use Rattle.jc_tree.specs.declared.statement.TypeParams.{TypeParams}
use Rattle.jc_tree.specs.declared.types.TypeTree.{TypeTree}
use Rattle.jc_grammar.specs.Units.{stmt_shape}
use Rattle.jc_unit_laws.specs.MemberReading.{method_head}
use Rattle.jc_parse_nodes.specs.declared.heads.CodeHead.{CodeHead}
use Rattle.jc_parse_nodes.specs.declared.heads.MemberHead.{MemberHead}
use Rattle.jc_parse_nodes.specs.declared.heads.MemberHead.TheVariants as head_of
use Rattle.jc_parse_nodes.specs.declared.heads.NamedTail.{NamedTail}
use Rattle.jc_parse_nodes.specs.declared.heads.NamedTail.TheVariants as tail_of
use Rattle.jc_parse_nodes.specs.declared.heads.Shape.{Shape}
use Rattle.jc_parse_nodes.specs.declared.heads.Shape.TheVariants as shape_of
use Rattle.jc_parse_nodes.specs.declared.pieces.Body.{Body}
use Rattle.jc_parse_nodes.specs.declared.pieces.Opening.{Opening}
use Rattle.jc_parse_nodes.specs.declared.pieces.Typed.{Typed}
use Rattle.jc_parse_nodes.specs.declared.trees.HeadTree.{HeadTree}
use Rattle.jc_parse_nodes.specs.declared.trees.HeadTree.TheVariants as head_tree_of
use Rattle.jc_parse_nodes.specs.declared.trees.Vars.{Vars}

-- ---- clauses, declarations and variables

-- a clause of what it begins with and of its statements
abbrev pub clause_made : (Opening × List Stmt) → Clause
clause_made p = roll-Clause (record { at = p.0.at; head = p.0.head; items = p.1 })

-- a declaration of a type of its modifiers, its head and its members
abbrev pub tree_head : List Modifier → HeadTree → DeclarationHead
tree_head modifiers (head_tree_of.Class at name params extends implements) = declaration_head_of.Class modifiers at name params extends implements
tree_head modifiers (head_tree_of.Interface at name params extends) = declaration_head_of.Interface modifiers at name params extends
tree_head modifiers (head_tree_of.Annotation at name) = declaration_head_of.Annotation modifiers at name

abbrev pub declaration_of : List Modifier → Body → Declaration
declaration_of modifiers body = roll-Declaration (record { head = tree_head modifiers body.head; members = body.members })

-- local variables of one type, with modifiers and without
abbrev pub locals_of : List Modifier → Typed → LocalVars
locals_of modifiers typed = record { modifiers = modifiers; ty = typed.ty; first = typed.first; more = typed.more }

abbrev pub bare_local : TypeTree → Vars → Stmt
bare_local ty vars = stmt_of.Local (record { modifiers = []; ty = ty; first = vars.first; more = vars.more })

-- an `else` behind an `if` with these statements behind its last `else` would be its own, or that of the one
abbrev pub alone_open : List Stmt → Bool
alone_open [] = true
alone_open (s ∷ []) = (stmt_shape s).open_end
alone_open (s ∷ t ∷ more) = false

-- an `else` behind the first of these statements would belong to it; there is none to take it where the list is empty
abbrev pub first_open : List Stmt → Bool
first_open [] = false
first_open (s ∷ items) = (stmt_shape s).open_end

-- ---- members

-- a method of its head and its statements, or without any
abbrev pub method_member : MethodHead → Option (List Stmt) → Member
method_member head None = member_of.Bare head
method_member head (Some items) = member_of.Method head items

-- a method of a type, or fields of it, by what stands behind the type
abbrev pub typed_shape : (TypeTree × NamedTail) → Shape
typed_shape (ty, tail_of.Method named) = shape_of.Method (result_of.Type ty) named
typed_shape (ty, tail_of.Fields name tail) = shape_of.Fields (record { ty = ty; first = record { name = name; dims = tail.dims; init = tail.init }; more = tail.more })

-- the head of a member with its modifiers; a constructor has no result, and fields have no type parameters
abbrev pub with_shape : List Modifier → Option TypeParams → Shape → MemberHead
with_shape modifiers params (shape_of.Method result n) = head_of.Method (method_head modifiers params (Some result) n.name n.signature.formals n.signature.throws)
with_shape modifiers params (shape_of.Constructor n) = head_of.Constructor (method_head modifiers params None n.name n.signature.formals n.signature.throws)
with_shape modifiers params (shape_of.Fields typed) = head_of.Fields (locals_of modifiers typed)

abbrev pub with_head : List Modifier → CodeHead → MemberHead
with_head modifiers head = with_shape modifiers head.params head.shape
