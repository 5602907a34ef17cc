-- An initialiser behind a body's parts.
use Rattle.std.proofs.Common.{◌≡◌, ◌<◌, refl, ap, sym, ◌∙◌, ℕ, List, [], ◌++◌, Option, None, length, slice_get}
use Rattle.jc_tree.specs.declared.statement.Stmt.{Stmt as Source}
use Rattle.jc_types.specs.declared.form.Ty.{Ty}
use Rattle.jc_types.specs.declared.ids.FieldId.{FieldId}
use Rattle.jc_types.specs.declared.table.Table.{Table}
use Rattle.jc_typed.specs.Parts.{Grows, as_stmts, stmts_of}
use Rattle.jc_typed.specs.Trees.{Block, Initialise, MoreStmts, Operand, stmt}
use Rattle.jc_typed.specs.declared.nodes.Node.{Node}
use Rattle.jc_typed.proofs.Growing.{kept}
use Rattle.jc_exprs_nodes_spec.specs.Told.{Run, breaks}
use Rattle.jc_exprs_parts_spec.specs.Worlds.{World, LocalIn}
use Rattle.jc_stmts_spec.specs.Assembling.{assemble}
use Rattle.jc_stmts_spec.specs.Courses.{Course as Counted, items_on}
use Rattle.jc_stmts_spec.specs.Plans.{Jumps, enclosed, plan}
use Rattle.jc_stmts_spec.specs.Typed.{Parts, field_initialised, field_place_in, opened, operand_or}
use Rattle.jc_stmts_course.specs.declared.course.Course.{Course}
use Rattle.jc_stmts_course.specs.Nows.{stage}
use Rattle.jc_stmts_course.specs.Steps.{seen}
use Rattle.jc_stmts_first.specs.Firsts.{opened_stage}
use Rattle.jc_stmts_whole.specs.Parts.{IsParts, run_on}
use Rattle.jc_stmts_whole.proofs.Going.{Unbroken, broken_before, items_unbroken}
use Rattle.jc_stmts_whole.proofs.Placing.{parts_behind}

pub stmts_kept : (ms ns : List Node) (at : ℕ) → Grows ms ns → at < length ms → stmts_of ns at ≡ stmts_of ms at
stmts_kept ms ns at g b = ap as_stmts (kept ms ns at g b)

-- the initialiser of a field
pub field_behind : (T : Table) (f : FieldId) (m : Run Operand) (p : Parts) (d e g : Course) (list next : ℕ) (o : Operand) → IsParts p d list →
    seen (run_on m p.course) ≡ stage e → operand_or (m p.course.env).told ≡ o → stage e ≡ stage g →
    stmts_of g.walk.nodes next ≡ MoreStmts (stmts_of d.walk.nodes list) (stmt (field_place_in (slice_get T.fields f.0)) (Initialise f o)) →
    IsParts (field_initialised T f (m p.course.env) p) g next
field_behind T f m p d e g list next o h s v same is =
    let place = field_place_in (slice_get T.fields f.0) in
    parts_behind p (run_on m p.course) (stmt place (Initialise f (operand_or (m p.course.env).told))) d g list next h (s ∙ same)
    (λ n. broken_before p.course.broken (breaks (m p.course.env).told) n)
    (λ n. is ∙ ap (λ x. MoreStmts (stmts_of d.walk.nodes list) (stmt place (Initialise f x))) (sym v))

-- a part that begins with these locals, and goes through the items of statements in a scope of their own
abbrev pub part_on : (List LocalIn → World) → Option Ty → Jumps → List Source → List LocalIn → Counted → Counted
part_on W result j ss ls k = items_on W result (opened ls k) (enclosed (plan j ss))

pub part_seen : (W : List LocalIn → World) (result : Option Ty) (j : Jumps) (ss : List Source) (ls : List LocalIn) (k : Counted) (d e f : Course) →
    seen k ≡ stage d → opened_stage ls (stage d) ≡ stage e →
    ((l : Counted) → seen l ≡ stage e → seen (items_on W result l (enclosed (plan j ss))) ≡ stage f) → seen (part_on W result j ss ls k) ≡ stage f
part_seen W result j ss ls k d e f same begun going = going (opened ls k) (ap (opened_stage ls) same ∙ begun)

pub part_unbroken : (W : List LocalIn → World) (result : Option Ty) (j : Jumps) (ss : List Source) (ls : List LocalIn) (k : Counted) →
    Unbroken (part_on W result j ss ls k) → Unbroken k
part_unbroken W result j ss ls k e = items_unbroken W result (opened ls k) (enclosed (plan j ss)) e

-- a block that is an initialiser
pub block_behind : (W : List LocalIn → World) (result : Option Ty) (j : Jumps) (file n : ℕ) (ss : List Source) (p : Parts) (d g : Course) (list next : ℕ) →
    IsParts p d list → seen (part_on W result j ss [] p.course) ≡ stage g →
    (g.walk.found ≡ None → stmts_of g.walk.nodes next ≡ MoreStmts (stmts_of d.walk.nodes list) (stmt (record { file = file; at = n }) (Block (assemble file j ss (part_on W result j ss [] p.course).answers).it))) →
    IsParts (record { course = part_on W result j ss [] p.course; stmts = MoreStmts p.stmts (stmt (record { file = file; at = n }) (Block (assemble file j ss (part_on W result j ss [] p.course).answers).it)) }) g next
block_behind W result j file n ss p d g list next h same is =
    let q = part_on W result j ss [] p.course in
    parts_behind p q (stmt (record { file = file; at = n }) (Block (assemble file j ss q.answers).it)) d g list next h same (λ e. part_unbroken W result j ss [] p.course e) is
