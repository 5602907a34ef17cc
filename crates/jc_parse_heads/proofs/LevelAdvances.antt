-- What is read of statements, members and declarations at each height takes a token at least.
use Rattle.std.proofs.Common.{ℕ, refl, arith}
use Rattle.jc_tree.specs.declared.statement.Member.{Member}
use Rattle.jc_tree.specs.declared.statement.TopLevel.{TopLevel}
use Rattle.jc_reading.proofs.Coded.{formed}
use Rattle.jc_reading.proofs.Turns.{lawful_ahead}
use Rattle.jc_reading.specs.Reach.{GoesAhead}
use Rattle.jc_expr_laws.specs.ExprReading.{exprs}
use Rattle.jc_expr_laws.proofs.ExprWhole.{expr_laws}
use Rattle.jc_unit_laws.specs.MemberReading.{levels, member_run, top_run}
use Rattle.jc_unit_laws.proofs.Files.{top_coded, top_laws}
use Rattle.jc_unit_laws.proofs.Levels.{known}
use Rattle.jc_unit_laws.proofs.Members.{member_laws}
use Rattle.jc_unit_laws.proofs.RestForms.{member_coded}

pub member_advances : (h : ℕ) → GoesAhead (member_run exprs h (levels exprs h))
member_advances h =
    let k = known exprs expr_laws h in
    lawful_ahead Member (formed (member_coded exprs h (levels exprs h))) (member_laws exprs expr_laws h (levels exprs h) k.laws k.rest) refl

pub top_advances : (h : ℕ) → GoesAhead (top_run exprs h)
top_advances h = lawful_ahead TopLevel (formed (top_coded exprs h)) (top_laws exprs expr_laws h) refl
