use Rattle.std.proofs.Common.{ℕ, ◌≤◌, length, sym, subst, arith, rules}
use Rattle.jc_unit_laws.specs.UnitAnswers.{NoFileStands}
use Rattle.jc_parse_unit.proofs.UnitTurns.{file_ended}
use Rattle.jc_parse_unit.proofs.parsing.whole.Goals as goal

pub returns-clause-none : goal.returns-clause-none
returns-clause-none c =
    let found = c.in_ok-found.found in
    let some : 1 ≤ length found.rest.now = Prim.search rules in
    subst (λ (n : ℕ). NoFileStands c.args.tokens.now n) (sym c.place.ensures) (file_ended c.args.tokens.now found.value found.rest.now found.left c.in_ok-found.ensures some)
