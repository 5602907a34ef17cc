-- The steps of a walk make of what it has of the definition's state what it has of the state behind the same items.
use Rattle.std.specs.Prelude.{◌≡◌, [], List, Option, None}
use Rattle.jc_types.specs.declared.form.Ty.{Ty}
use Rattle.jc_types.specs.declared.table.Table.{Table}
use Rattle.jc_exprs_nodes_spec.specs.Told.{Ran, Run, Standing, ran}
use Rattle.jc_exprs_nodes_spec.specs.Typeds.{Typed}
use Rattle.jc_exprs_parts_spec.specs.Worlds.{World, LocalIn}
use Rattle.jc_typed.specs.Trees.{Operand}
use Rattle.jc_stmts_spec.specs.Plans.{Item, Want}
use Rattle.jc_stmts_spec.specs.Courses.{Course, Elements, Key, items_on}
use Rattle.jc_stmts_course.specs.Steps.{Stage, answered, asked, filled, gone_over, labelled, seen, steps_on}

abbrev pub StepsAreSeen : Type 0
StepsAreSeen = (W : List LocalIn → World) (result : Option Ty) (c : Course) (items : List Item) → seen (items_on W result c items) ≡ steps_on W result (seen c) items

-- where nothing is broken there, nothing was before
abbrev pub Later : Standing → Standing → Type 0
Later s r = r.found ≡ None → s.found ≡ None

-- a run of a walk never loses what is broken
abbrev pub RunsAreLater : Type 0
RunsAreLater = ((m : Run Typed) (s : Standing) → Later s (ran m s).state) × ((m : Run Operand) (s : Standing) → Later s (ran m s).state)

-- a stage whose walk has gone through the parts of an item: the item's step is the same from there
abbrev pub resumed : Standing → Stage → Stage
resumed s c = answered s [] c

abbrev pub FilledResumes : Type 0
FilledResumes = (T : Table) (r : Ran Operand) (s : Standing) (c : Stage) → Later s r.state → filled T r (resumed s c) ≡ filled T r c

abbrev pub AskedResumes : Type 0
AskedResumes = (w : Want) (r : Ran Operand) (s : Standing) (c : Stage) → Later s r.state → asked w r (resumed s c) ≡ asked w r c

abbrev pub LabelledResumes : Type 0
LabelledResumes = (r : Ran Key) (s : Standing) (c : Stage) → Later s r.state → labelled r (resumed s c) ≡ labelled r c

abbrev pub GoneOverResumes : Type 0
GoneOverResumes = (r : Ran Elements) (s : Standing) (c : Stage) → Later s r.state → gone_over r (resumed s c) ≡ gone_over r c
