use Rattle.std.proofs.Common.{◌≡◌, ℕ, Bool, Option, Some, refl, ap, ◌∙◌}
use Rattle.jc_declares.specs.declared.heads.Heads.{Heads}
use Rattle.jc_declares.specs.declared.heads.ScopeForm.{ScopeForm}
use Rattle.jc_declares.specs.declared.heads.ScopeForm.TheVariants as scope_of
use Rattle.jc_declares.specs.declared.heads.ScopeHead.{ScopeHead}
use Rattle.jc_declares.specs.Looking.{Knowledge}
use Rattle.jc_declares.specs.Readings.{reading_in}
use Rattle.jc_written.specs.At.{form_reading}
use Rattle.jc_written.proofs.reading.reading_in_scope.Goals as goal

by_form : (H : Heads) (K : Knowledge) (outer : Option ℕ) (form : ScopeForm) (is_static : Bool) → form_reading H K form is_static ≡ reading_in H K (Some (record { outer = outer; form = form })) is_static
by_form H K outer (scope_of.Unit u) is_static = refl
by_form H K outer (scope_of.Class c) is_static = refl
by_form H K outer (scope_of.Method m) is_static = refl

pub returns-in-Some : goal.returns-in-Some
returns-in-Some c =
    λ K. c.reading_in_form.ensures K ∙ by_form c.args.heads.now K c.in-Some.head.now.outer c.in-Some.head.now.form c.args.is_static
    ∙ ap (λ (o : Option ScopeHead). reading_in c.args.heads.now K o c.args.is_static) c.in-Some.ensures.value

pub returns-in-None : goal.returns-in-None
returns-in-None c =
    λ K. c.unit_reading.ensures c.args.heads.now K ∙ ap (λ (o : Option ScopeHead). reading_in c.args.heads.now K o c.args.is_static) c.in-None.ensures.value
