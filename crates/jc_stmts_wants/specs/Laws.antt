-- What a walk makes of an item that asks an expression: it goes through the expression, and then asks the item's rule.
use Rattle.std.specs.Prelude.{◌≡◌, Option, None}
use Rattle.jc_rules.specs.declared.rule.Place.{Place}
use Rattle.jc_tree.specs.declared.expression.Expr.{Expr}
use Rattle.jc_types.specs.declared.form.Ty.{Ty}
use Rattle.jc_declares.specs.HeadBreaks.{class_file}
use Rattle.jc_exprs_nodes_spec.specs.Told.{Run, Standing, onward, ran}
use Rattle.jc_exprs_nodes_spec.specs.Gates.{gated}
use Rattle.jc_exprs_nodes_spec.specs.Typeds.{Typed}
use Rattle.jc_exprs_parts_spec.specs.Worlds.{World}
use Rattle.jc_exprs_spec.specs.Typing.{effect, typing}
use Rattle.jc_stmts_spec.specs.Plans.{Want, Effect, Truth, Result, Nowhere, Selector, Thrown}
use Rattle.jc_stmts_spec.specs.Courses.{Scope, each, label_of, wanted}
use Rattle.jc_stmts_wants.specs.Wanting.{each_by_type, wanted_by}

-- how an expression is asked by what it is wanted for
abbrev pub asked : World → Option Ty → Expr → Want → Run Typed
asked W result e Effect = effect W e
asked W result e Truth = typing W None e
asked W result e Result = typing W result e
asked W result e Nowhere = typing W None e
asked W result e Selector = typing W None e
asked W result e (Thrown n) = typing W None e

-- an expression that is wanted for something
abbrev pub WantedPart : Type 0
WantedPart =
    (W : World) (result : Option Ty) (e : Expr) (want : Want) (s : Standing) →
    ran (wanted W result e want) s
    ≡ gated (wanted_by W.table result (class_file W.heads W.class.0) want) (ran (asked W result e want) s).has (ran (asked W result e want) s).state

-- a label of a `switch`
abbrev pub LabelPart : Type 0
LabelPart =
    (W : World) (place : Place) (scope : Scope) (e : Expr) (s : Standing) →
    ran (onward (typing W None e) (label_of W.table place scope)) s
    ≡ gated (label_of W.table place scope) (ran (typing W None e) s).has (ran (typing W None e) s).state

-- what an enhanced `for` goes over
abbrev pub EachPart : Type 0
EachPart =
    (W : World) (e : Expr) (to : Ty) (s : Standing) →
    ran (each W e to) s ≡ gated (each_by_type W to) (ran (typing W None e) s).has (ran (typing W None e) s).state
