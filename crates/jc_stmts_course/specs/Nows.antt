-- What the code's state of a walk through items is.
use Rattle.std.specs.Prelude.{◌∷◌, ◌++◌, List, [], length, Option, Some, None}
use Rattle.jc_types.specs.declared.constant.Constant.{Constant}
use Rattle.jc_types.specs.declared.form.Ty.{Ty}
use Rattle.jc_types.specs.declared.table.Table.{Table}
use Rattle.jc_exprs_parts_spec.specs.Constants.{constant_as}
use Rattle.jc_stmts_spec.specs.Courses.{AKey, Key, Scope, keys_of}
use Rattle.jc_exprs_locals.specs.Scoped.{locals_of}
use Rattle.jc_exprs_nodes.specs.Walks.{now}
use Rattle.jc_exprs_nodes.specs.declared.walk.Walk.{Walk}
use Rattle.jc_exprs_nodes_spec.specs.Told.{Ran, Standing}
use Rattle.jc_stmts_answers.specs.Answers.{AnswersBelow, answers_of}
use Rattle.jc_stmts_wants.specs.Wanting.{scope_of}
use Rattle.jc_stmts_wants.specs.declared.answers.Scope.{Scope as ScopeIn}
use Rattle.jc_stmts_course.specs.declared.course.Course.{Course}
use Rattle.jc_stmts_course.specs.Steps.{Stage, behind, while_whole}

-- scopes, the innermost of which is the last in the code and the first in the definition
abbrev pub scopes_on : List ScopeIn → List Scope → List Scope
scopes_on [] outer = outer
scopes_on (s ∷ ss) outer = scopes_on ss (scope_of s ∷ outer)

abbrev pub stage : Course → Stage
stage c =
    record {
      locals = locals_of c.locals;
      all = c.all;
      scopes = scopes_on c.scopes [];
      caught = c.caught;
      standing = now c.walk;
      answers = while_whole c.walk.found (answers_of c.walk.nodes c.answers);
    }

-- what the answers name stands in the arena
abbrev pub IsCourse : Course → Type 0
IsCourse c = AnswersBelow (length c.walk.nodes) c.answers

-- what a walk has of a part, and where it stands behind it
abbrev pub told : {A : Type 0} → Standing → Option A → Ran A
told s x = record { state = s; has = x }

-- the state of a walk that has gone on
abbrev pub with_walk : Walk → Course → Course
with_walk w c = record c { walk = w }

-- the value of a local of this type from that of its initialiser
abbrev pub constant_from_value : Table → Ty → Option Constant → Option Constant
constant_from_value T t None = None
constant_from_value T t (Some c) = constant_as T t c

-- a label in the scope of its `switch`, which stands outside of the others
abbrev pub kept_label : Scope → Ran Key → Stage → Stage
kept_label scope r c =
    let d = behind (λ (k : Key). AKey k.value k.named) r c in record d { scopes = record scope { keys = scope.keys ++ keys_of r.has } ∷ d.scopes }
