use Rattle.std.proofs.Common.{◌≡◌, ◌∷◌, ◌∙◌, ap, rules, w32, List}
use Rattle.jc_jvm.specs.declared.value.Value.{Value}
use Rattle.jc_jvm.specs.declared.value.Value.TheVariants.{Whole, Address}
use Rattle.std.proofs.lemmas.Int.{to_z-of_z}
use Rattle.jc_heap.proofs.LoadedElements.{loaded_at}
use Rattle.jc_heap.proofs.elements.load_element.Goals as goal

pub returns-in-Some-Whole-Some-Address : goal.returns-in-Some-Whole-Some-Address
returns-in-Some-Whole-Some-Address c =
    let first : c.args.now.now.stack.values ≡ Whole c.in-Some-Whole-Some-Address.index ∷ c.pop.new.self.values = search rules in
    let second : c.pop.new.self.values ≡ Address c.in-Some-Whole-Some-Address.at ∷ c.pop-2.new.self.values = search rules in
    let values : c.args.now.now.stack.values ≡ Whole c.in-Some-Whole-Some-Address.index ∷ Address c.in-Some-Whole-Some-Address.at ∷ c.pop-2.new.self.values =
    first ∙ ap (λ (rest : List Value). Whole c.in-Some-Whole-Some-Address.index ∷ rest) second in
    loaded_at c.args.element c.args.world.now c.args.next c.args.now.now _ c.in-Some-Whole-Some-Address.index c.in-Some-Whole-Some-Address.at c.pop-2.new.self _ (to_z-of_z w32 c.in-Some-Whole-Some-Address.index (search rules)) values (c.pop-2.ensures.limit ∙ c.pop.ensures.limit) c.load_at.ensures
