-- A body so far, as the code has it: what is seen of the definition's state, and the statements, which are there as long as nothing is broken.
use Rattle.std.specs.Prelude.{◌≡◌, ◌++◌, ℕ, ◌<◌, Bool, [], Some, None, length}
use Rattle.jc_tree.specs.declared.expression.Init.{Init}
use Rattle.jc_types.specs.declared.ids.ClassId.{ClassId}
use Rattle.jc_types.specs.declared.ids.FieldId.{FieldId}
use Rattle.jc_types.specs.declared.table.Table.{Table}
use Rattle.jc_declares.specs.declared.heads.Heads.{Heads}
use Rattle.jc_declares.specs.Looking.{Knowledge}
use Rattle.jc_typed.specs.Parts.{stmt_of, stmts_of}
use Rattle.jc_typed.specs.Trees.{Operand}
use Rattle.jc_exprs_nodes_spec.specs.Told.{Run, breaks}
use Rattle.jc_exprs_parts_spec.specs.Fields.{declared_field}
use Rattle.jc_exprs_spec.specs.Typing.{initialised}
use Rattle.jc_stmts_spec.specs.Courses.{Course as Counted}
use Rattle.jc_stmts_spec.specs.Typed.{Parts, Whole, initialiser_world}
use Rattle.jc_stmts_course.specs.declared.course.Course.{Course}
use Rattle.jc_stmts_course.specs.Nows.{IsCourse, stage}
use Rattle.jc_stmts_course.specs.Steps.{seen}
use Rattle.jc_stmts_whole.specs.declared.whole.Whole.{Whole as WholeIn}

-- with the statements of a list in the arena
pub record IsParts (p : Parts) (c : Course) (list : ℕ) : Type 0 where
  pub course : seen p.course ≡ stage c
  pub stmts : c.walk.found ≡ None → p.stmts ≡ stmts_of c.walk.nodes list

-- the places of a body's parts stand in the arena
pub record IsWithin (w : WholeIn) : Type 0 where
  pub call : w.body.call < length w.course.walk.nodes
  pub initialisers : w.body.initialisers < length w.course.walk.nodes
  pub rest : w.body.rest < length w.course.walk.nodes

pub record IsWhole (d : Whole) (w : WholeIn) : Type 0 where
  pub course : seen d.course ≡ stage w.course
  pub call : w.course.walk.found ≡ None → stmts_of w.course.walk.nodes w.body.call ≡ d.call
  pub initialisers : w.course.walk.found ≡ None → stmts_of w.course.walk.nodes w.body.initialisers ≡ d.initialisers
  pub rest : w.course.walk.found ≡ None → stmt_of w.course.walk.nodes w.body.rest ≡ d.rest

-- ---- the initialiser of a field

abbrev pub field_run : Table → Heads → Knowledge → ClassId → Bool → FieldId → Init → Run Operand
field_run T H K k is_static f i = initialised (initialiser_world T H K k is_static (Some f) []) (declared_field T f) i

-- what a run makes of the definition's state
abbrev pub run_on : Run Operand → Counted → Counted
run_on m k = record k { env = (m k.env).env; broken = k.broken ++ breaks (m k.env).told }
