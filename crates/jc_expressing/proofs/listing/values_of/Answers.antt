use Rattle.std.proofs.Common.{List, ap, sym, ◌∙◌}
use Rattle.jc_typed.specs.Trees.{Operand, Operands}
use Rattle.jc_typed.specs.Parts.{operand_of, operands_of}
use Rattle.jc_meaning.specs.Programs.{operand_list}
use Rattle.jc_meaning.specs.Expressions as e
use Rattle.jc_pending.specs.Level.{inner}
use Rattle.jc_pending.proofs.Lists.{operands_more, values_more}
use Rattle.jc_expressing.proofs.listing.values_of.Goals as goal

-- the values end in that of the last operand
pub returns-in-More : goal.returns-in-More
returns-in-More c = λ k coherent.
    sym (ap k.values
    (ap (λ (os : Operands). e.values_of c.args.program.now (inner c.args.program.now c.args.depth) (operand_list os) c.args.run.now.units c.args.run.now.state) c.in-More.ensures.value
    ∙ (ap (λ (os : List Operand). e.values_of c.args.program.now (inner c.args.program.now c.args.depth) os c.args.run.now.units c.args.run.now.state)
    (operands_more (operands_of c.args.nodes.now c.in-More.before) (operand_of c.args.nodes.now c.in-More.last))
    ∙ values_more c.args.program.now (inner c.args.program.now c.args.depth) (operand_list (operands_of c.args.nodes.now c.in-More.before)) (operand_of c.args.nodes.now c.in-More.last) c.args.run.now.units c.args.run.now.state)))
