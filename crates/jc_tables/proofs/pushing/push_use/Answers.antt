use Rattle.std.proofs.Common.{IsTrue, List, sym, subst}
use Rattle.jc_types.specs.declared.scopes.Use.{Use}
use Rattle.jc_types.specs.declared.table.Table.{Table}
use Rattle.jc_types.specs.Tables.{IsTable}
use Rattle.jc_tables.specs.Making.{use_stands}
use Rattle.jc_tables.proofs.Kept.{use_kept}
use Rattle.jc_tables.proofs.pushing.push_use.Goals as goal

pub returns-clause-kept : goal.returns-clause-kept
returns-clause-kept c = λ is stands.
    let T = c.args.table.now in
    let made = λ (xs : List Use). let U : Table = record T { uses = xs } in U in
    let e = c.in_ok-push.ensures.ok in
    subst (λ xs. IsTable (made xs)) (sym e) (use_kept T c.args.written is (subst (λ xs. IsTrue (use_stands (made xs) c.args.written)) e stands))
