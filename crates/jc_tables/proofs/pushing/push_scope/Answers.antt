use Rattle.std.proofs.Common.{IsTrue, List, sym, subst}
use Rattle.jc_types.specs.declared.scopes.Scope.{Scope}
use Rattle.jc_types.specs.declared.table.Table.{Table}
use Rattle.jc_types.specs.Tables.{IsTable, scope_fits}
use Rattle.jc_tables.proofs.Kept.{scope_kept}
use Rattle.jc_tables.proofs.pushing.push_scope.Goals as goal

pub returns-clause-kept : goal.returns-clause-kept
returns-clause-kept c = λ is stands.
    let T = c.args.table.now in
    let made = λ (xs : List Scope). let U : Table = record T { scopes = xs } in U in
    let e = c.in_ok-push.ensures.ok in
    subst (λ xs. IsTable (made xs)) (sym e) (scope_kept T c.args.scope is (subst (λ xs. IsTrue (scope_fits (made xs) c.args.scope)) e stands))
