use Rattle.jc_tables.proofs.Kept.{same_table, popped}
use Rattle.jc_tables.proofs.classes.push_named.Goals as goal

pub returns-in-Err-clause-err : goal.returns-in-Err-clause-err
returns-in-Err-clause-err c =
    same_table c.args.table.now _ _ (popped c.pop-last.result c.push.new.self c.pop-last.new.self c.args.table.now.classes c.args.class c.in_ok-push.ensures.ok c.pop-last.ensures) c.in-Err.ensures.err
