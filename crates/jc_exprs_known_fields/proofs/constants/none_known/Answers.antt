use Rattle.std.proofs.Common.{List, Option, [], sym, subst}
use Rattle.jc_types.specs.declared.constant.Constant.{Constant}
use Rattle.jc_exprs_known_fields.specs.Rounds.{Below}
use Rattle.jc_exprs_known_fields.proofs.Settled.{blank_below}
use Rattle.jc_exprs_known_fields.proofs.constants.none_known.Goals as goal

pub returns-clause-none : goal.returns-clause-none
returns-clause-none c = subst (λ (x : List (Option Constant)). Below x []) (sym c.loop-field.invariant) (blank_below c.loop-field._field)
