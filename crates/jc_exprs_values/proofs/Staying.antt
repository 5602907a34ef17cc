-- Forms of expressions in an arena that grows.
use Rattle.std.proofs.Common.{◌≡◌, List, length}
use Rattle.jc_typed.specs.declared.expressions.ExprForm.{ExprForm}
use Rattle.jc_typed.specs.declared.nodes.Node.{Node}
use Rattle.jc_typed.specs.Parts.{BelowForm, FormsStay, FormsStayAbove, Grows, form_over, parts}

pub form_stays : FormsStay → (ms ns : List Node) (f : ExprForm) → Grows ms ns → BelowForm (length ms) f → form_over (parts ns) f ≡ form_over (parts ms) f
form_stays h ms ns f g b = h ms ns f g b

pub form_above : FormsStayAbove → (ms ns : List Node) (f : ExprForm) → Grows ms ns → BelowForm (length ms) f → BelowForm (length ns) f
form_above h ms ns f g b = h ms ns f g b

pub ruleset forms = (form_stays, form_above)
