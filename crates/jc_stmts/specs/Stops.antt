-- What comes of the check of a body: its typed method, or the least of the rules that are broken in it.
use Rattle.std.specs.Prelude.{◌≡◌, List, Option, Some, None}
use Rattle.jc_rules.specs.declared.rule.Refusal.{Refusal}
use Rattle.jc_rules.specs.declared.stop.Stop.{Stop}
use Rattle.jc_rules.specs.declared.stop.Stop.TheVariants as stop_of
use Rattle.jc_types.specs.declared.ids.MethodId.{MethodId}
use Rattle.jc_types.specs.declared.table.Table.{Table}
use Rattle.jc_types.specs.Breaks.{IsLeast}
use Rattle.jc_declares.specs.declared.heads.Heads.{Heads}
use Rattle.jc_declares.specs.Looking.{Knowledge}
use Rattle.jc_bridges_spec.specs.Entering.{entry_checks}
use Rattle.jc_typed.specs.declared.program.TypedMethod.{TypedMethod}
use Rattle.jc_stmts_spec.specs.Bodies.{MethodBody}
use Rattle.jc_stmts_spec.specs.Typed.{BreaksBody}
use Rattle.jc_stmts_whole.specs.declared.whole.Whole.{Whole}

abbrev pub IsBodyStop : Table → Heads → Knowledge → List MethodBody → MethodBody → Stop Refusal → Type 0
IsBodyStop T H K calls b (stop_of.Refused refusal) = IsLeast (BreaksBody T H K calls b) refusal
IsBodyStop T H K calls b stop_of.WantOfMemory = Unit {0}

-- what a walk has found
abbrev pub IsFoundStop : Option Refusal → Stop Refusal → Type 0
IsFoundStop found (stop_of.Refused refusal) = found ≡ Some refusal
IsFoundStop found stop_of.WantOfMemory = Unit {0}

-- this is the typed method of a body through which a walk has gone, and found nothing
pub record IsTyped (T : Table) (method : MethodId) (w : Whole) (m : TypedMethod) : Type 0 where
  pub none : w.course.walk.found ≡ None
  pub id : m.id ≡ method
  pub locals : m.locals ≡ w.course.all
  pub captured : m.captured.bounds ≡ w.course.walk.env.bounds
  pub nodes : m.nodes ≡ w.course.walk.nodes
  pub body : m.body ≡ Some w.body
  pub checks : m.entry_checks ≡ entry_checks T method
