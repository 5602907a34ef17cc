use Rattle.std.proofs.Common.{arith, ◌≡◌, ◌-◌, ◌+◌, ◌∙◌, ap, sym, suc, ℕ, Bool, true, false, List, ◌∷◌, Some, length, take, drop, refl}
use Rattle.std.specs.Prelude.{◌&&◌}
use Rattle.std.proofs.lemmas.Grind.{common_steps}
use Rattle.jc_class_out.specs.declared.model.Item.{Item}
use Rattle.jc_class_out.specs.Descriptors.{item_of_type, items_on, type_end}
use Rattle.jc_class_out.specs.Forms.{alike, first_alike}
use Rattle.jc_class_out.proofs.forms.beside_parameters.Goals as goal
use Rattle.jc_class_out.proofs.forms.beside_parameters.Goals.{then-alike, else-alike}

items_next : (n : ℕ) (us rest : List ℕ) → type_end 0 us ≡ Some rest → items_on (suc n) us ≡ item_of_type (take (length us - length rest) us) ∷ items_on n rest
unfolding items_on
items_next n us rest h = rw h refl

and_assoc : (a b c : Bool) → ((a && b) && c) ≡ (a && (b && c))
and_assoc true b c = refl
and_assoc false b c = refl

alike_next : (a b : Bool) (x : Item) (xs ys : List Item) → b ≡ (a && first_alike x ys) → (b && alike xs (drop 1 ys)) ≡ (a && alike (x ∷ xs) ys)
unfolding alike
alike_next a b x xs ys h = rw h (and_assoc a (first_alike x ys) (alike xs (drop 1 ys)))

pub loop-preserved : goal.loop-preserved
loop-preserved c =
    let us = c.loop.rest.now in
    let left = c.loop.left.now in
    let d = c.args.descriptor.now in
    let k : length c.args.descriptor.now - c.loop.counter ≡ suc (length c.args.descriptor.now - (c.loop.counter + 1)) = omega arith in
    let x = item_of_type (take (length c.loop.rest.now - length c.in-Some.behind.now) c.loop.rest.now) in
    let xs = items_on (length c.args.descriptor.now - (c.loop.counter + 1)) c.in-Some.behind.now in
    let step : items_on (length c.args.descriptor.now - c.loop.counter) c.loop.rest.now ≡ item_of_type (take (length c.loop.rest.now - length c.in-Some.behind.now) c.loop.rest.now) ∷ items_on (length c.args.descriptor.now - (c.loop.counter + 1)) c.in-Some.behind.now =
    rw k (items_next (length c.args.descriptor.now - (c.loop.counter + 1)) c.loop.rest.now c.in-Some.behind.now c.in-Some.ensures) in
    let first : c.if-alike.alike ≡ (c.loop.alike && first_alike (item_of_type (take (length c.loop.rest.now - length c.in-Some.behind.now) c.loop.rest.now)) c.loop.left.now) =
    elim c.if-alike.branch [
      | then-alike w ↦ grind (arith, common_steps)
      | else-alike w ↦ grind (arith, common_steps)
    ] in
    let behind : c.behind_first-left.result.now ≡ drop 1 c.loop.left.now = c.behind_first-left.ensures in
    record {
      counted = omega (arith, ap (length {A = Item}) step, c.loop.invariant.counted);
      few = omega (arith, c.loop.invariant.few);
      same = rw behind (alike_next c.loop.alike c.if-alike.alike x xs left first ∙ ap (λ (l : List Item). c.loop.alike && alike l c.loop.left.now) (sym step) ∙ c.loop.invariant.same);
    }
