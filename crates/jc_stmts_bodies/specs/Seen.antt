-- What the code's parts of a body are in the definition.
use Rattle.std.specs.Prelude.{Option, Some, None}
use Rattle.jc_stmts_spec.specs.Bodies as spec
use Rattle.jc_stmts_bodies.specs.declared.body.Begins.{Begins}
use Rattle.jc_stmts_bodies.specs.declared.body.Begins.TheVariants as begins
use Rattle.jc_stmts_bodies.specs.declared.body.InitialiserForm.{InitialiserForm}
use Rattle.jc_stmts_bodies.specs.declared.body.InitialiserForm.TheVariants as form

abbrev pub begins_seen : Begins → spec.Begins
begins_seen (begins.WithThis at actuals) = spec.WithThis at actuals.now
begins_seen (begins.WithSuper at actuals) = spec.WithSuper at actuals.now
begins_seen begins.WithImplied = spec.WithImplied
begins_seen begins.WithNone = spec.WithNone

abbrev pub has_begins : Option Begins → Option spec.Begins
has_begins None = None
has_begins (Some b) = Some (begins_seen b)

abbrev pub initialiser_seen : InitialiserForm → spec.Initialiser
initialiser_seen (form.OfField field init) = spec.OfField field init.now
initialiser_seen (form.OfBlock at items) = spec.OfBlock at items.now
