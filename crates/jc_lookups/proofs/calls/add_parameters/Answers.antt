use Rattle.std.proofs.Common.{◌-◌, ◌+◌, ◌++◌, ◌∙◌, ℕ, List, length, map, ap, arith}
use Rattle.jc_class_out.specs.Descriptors.{item_of_type, items_on}
use Rattle.jc_jvm.specs.Types.{sort_of_item}
use Rattle.jc_jvm.specs.declared.operands.Sort.{Sort}
use Rattle.jc_lookups.proofs.ParameterSorts.{sort_more, sorts_end, sorts_over}
use Rattle.jc_lookups.proofs.calls.add_parameters.Goals as goal

pub loop-counted-preserved : goal.loop-counted-preserved
loop-counted-preserved c =
    ap (λ (found : List Sort). found ++ map sort_of_item (items_on (length c.args.descriptor.now - (c.loop-counted.counted + 1)) c.in-Some.behind.now)) c.in_ok-push-in-Some.ensures.ok
    ∙ sort_more c.loop-counted.found _ (length c.args.descriptor.now) c.loop-counted.counted c.loop-counted.rest.now c.in-Some.behind.now c.type_sort.result c.loop-counted-test.true c.in-Some.ensures
    (c.type_sort.ensures ∙ ap (λ (us : List ℕ). sort_of_item (item_of_type us)) c.in_front.ensures) c.loop-counted.invariant

pub returns-in-None : goal.returns-in-None
returns-in-None c = sorts_end c.loop-counted.found _ (length c.args.descriptor.now - c.loop-counted.counted) c.loop-counted.rest.now c.in-None.ensures c.loop-counted.invariant

pub returns : goal.returns
returns c = sorts_over c.loop-counted.found _ (length c.args.descriptor.now - c.loop-counted.counted) c.loop-counted.rest.now (omega arith) c.loop-counted.invariant
