use Rattle.jc_types.proofs.Sameness.{is_same}
use Rattle.jc_types.proofs.equality.same_type.Goals as goal

pub returns-clause-told : goal.returns-clause-told
returns-clause-told c = is_same _ _ _ c.equal_types.ensures
