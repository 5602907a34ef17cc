use Rattle.std.proofs.Common.{◌∙◌}
use Rattle.jc_heap.proofs.selection.find_signature.Goals as goal

pub returns : goal.returns
returns c = c.number_for.ensures c.args.name.now c.args.descriptor.now (c.slice.ensures ∙ c.in_ok-text.ensures)
