-- What the code's forms and parts are in the definition.
use Rattle.jc_declares.specs.Sites as site
use Rattle.jc_sites.specs.declared.parts.BodyPart.{BodyPart}
use Rattle.jc_sites.specs.declared.parts.BodyPart.TheVariants as part
use Rattle.jc_sites.specs.declared.parts.MethodForm.{MethodForm}
use Rattle.jc_sites.specs.declared.parts.MethodForm.TheVariants as form

-- the form of a method, and a part of a body, with the trees that the code's nodes hold now
abbrev pub form_seen : MethodForm → site.MethodForm
form_seen (form.Headed head has_block) = site.Headed head.now has_block
form_seen form.ImpliedConstructor = site.ImpliedConstructor
form_seen form.StaticInitialiser = site.StaticInitialiser

abbrev pub part_seen : BodyPart → site.BodyPart
part_seen (part.Type t) = site.OfType t.now
part_seen (part.ClassType t) = site.OfClassType t.now
part_seen (part.Diamond t) = site.OfDiamond t.now
part_seen (part.Element t) = site.OfElement t.now
part_seen (part.Variable modifiers at) = site.OfVariable modifiers.now at
