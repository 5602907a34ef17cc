use Rattle.std.proofs.Common.{◌∙◌, ℕ, List, ap}
use Rattle.jc_class_out.specs.declared.model.ClassModel.{ClassModel}
use Rattle.jc_jvm.specs.Numbered.{numbered}
use Rattle.jc_heap.specs.Signatures.{signature_of}
use Rattle.jc_heap.proofs.named.NamedClasses.number_for.Goals as goal

pub returns : goal.returns
returns c = λ name descriptor is.
    c.find.ensures
    ∙ ap (λ (text : List ℕ). numbered text c.self.inside.signatures) is
    ∙ c.self.invariant.1 name descriptor
    ∙ ap (λ (cs : List ClassModel). signature_of cs name descriptor) c.self.view_is
