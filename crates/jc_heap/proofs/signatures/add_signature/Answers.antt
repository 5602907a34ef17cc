use Rattle.std.proofs.Common.{◌∙◌}
use Rattle.jc_heap.proofs.Signing.{joined_more}
use Rattle.jc_heap.proofs.signatures.add_signature.Goals as goal

pub returns : goal.returns
returns c =
    joined_more c.args.numbers.now c.add_name.new.numbers c.slice.result.now c.args.name.now c.args.descriptor.now c.args.number (c.slice.ensures ∙ c.in_ok-text.ensures) c.in_ok-add_name.ensures
