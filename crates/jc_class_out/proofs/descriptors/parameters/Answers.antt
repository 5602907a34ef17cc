use Rattle.std.proofs.Common.{arith, ◌≡◌, ◌-◌, ◌+◌, suc, length}
use Rattle.std.proofs.lemmas.Grind.{common_steps}
use Rattle.jc_class_out.specs.Descriptors.{parameters_on}
use Rattle.jc_class_out.proofs.descriptors.parameters.Goals as goal

pub returns-then-unit-eq41 : goal.returns-then-unit-eq41
unfolding parameters_on
returns-then-unit-eq41 c =
    let k : length c.args.units.now - c.loop.counter ≡ suc (length c.args.units.now - (c.loop.counter + 1)) = omega arith in
    let so_far = rw k at c.loop.invariant.same in
    grind (arith, common_steps)

pub returns-then-used-type_units-gt255 : goal.returns-then-used-type_units-gt255
unfolding parameters_on
returns-then-used-type_units-gt255 c =
    let k : length c.args.units.now - c.loop.counter ≡ suc (length c.args.units.now - (c.loop.counter + 1)) = omega arith in
    let so_far = rw k at c.loop.invariant.same in
    grind (arith, common_steps)

pub returns-in-None : goal.returns-in-None
unfolding parameters_on
returns-in-None c =
    let k : length c.args.units.now - c.loop.counter ≡ suc (length c.args.units.now - (c.loop.counter + 1)) = omega arith in
    let so_far = rw k at c.loop.invariant.same in
    grind (arith, common_steps)

pub loop-preserved : goal.loop-preserved
unfolding parameters_on
loop-preserved c =
    let k : length c.args.units.now - c.loop.counter ≡ suc (length c.args.units.now - (c.loop.counter + 1)) = omega arith in
    let so_far = rw k at c.loop.invariant.same in
    grind (arith, common_steps)
