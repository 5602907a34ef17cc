use Rattle.std.proofs.Common.{IsTrue, sym, subst}
use Rattle.jc_types.specs.Tables.{IsTable}
use Rattle.jc_tables.specs.Making.{class_stands}
use Rattle.jc_tables.proofs.Kept.{class_kept}
use Rattle.jc_tables.proofs.classes.push_class.Goals as goal

pub returns-clause-kept : goal.returns-clause-kept
returns-clause-kept c = λ is stands.
    let e = c.in_ok-put_class.ensures.ok in
    subst IsTable (sym e) (class_kept c.args.table.now c.args.class is (subst (λ U. IsTrue (class_stands U c.args.class)) e stands))
