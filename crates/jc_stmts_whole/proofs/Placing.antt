-- A body's parts with one statement more.
use Rattle.std.proofs.Common.{◌≡◌, refl, ap, sym, ◌∙◌, ℕ, Option, Some, None}
use Rattle.std.specs.Prelude.{IfOk, OnOk, Result, Ok, Err}
use Rattle.jc_types.specs.Breaks.{least}
use Rattle.jc_typed.specs.Parts.{stmts_of}
use Rattle.jc_typed.specs.Trees.{Operand, NoOperand, operand, Stmt, MoreStmts}
use Rattle.jc_exprs_nodes_spec.specs.Told.{Told, Fine, Broken, typed}
use Rattle.jc_exprs_gathering.specs.Gathered.{if_given}
use Rattle.jc_stmts_spec.specs.Courses.{Course as Counted}
use Rattle.jc_stmts_spec.specs.Typed.{Parts, operand_or}
use Rattle.jc_stmts_course.specs.declared.course.Course.{Course}
use Rattle.jc_stmts_course.specs.Nows.{stage}
use Rattle.jc_stmts_course.specs.Steps.{seen}
use Rattle.jc_stmts_whole.specs.Parts.{IsParts}
use Rattle.jc_stmts_whole.proofs.Going.{Unbroken, found_seen}

-- two facts of one answer
pub ok_both : {T E : Type 0} (r : Result T E) (P R : T → Type 0) (Q : Type 0) → ((x : T) → P x → Q → R x) → IfOk r P → OnOk r Q → IfOk r R
ok_both (Ok x) P R Q f p q = f x p q
ok_both (Err e) P R Q f p q = tt

-- what a walk has of an operand is what stands there
pub operand_told : (t : Told Operand) (o : Operand) → typed t ≡ if_given o → operand_or t ≡ o
operand_told (Fine x) NoOperand e = cc
operand_told (Fine x) (operand start y steps) e = cc
operand_told (Broken b bs) NoOperand e = refl
operand_told (Broken b bs) (operand start y steps) e = cc

-- a state behind the parts, with a statement more
pub parts_behind : (p : Parts) (q : Counted) (x : Stmt) (d g : Course) (list next : ℕ) → IsParts p d list → seen q ≡ stage g → (Unbroken q → Unbroken p.course) →
    (g.walk.found ≡ None → stmts_of g.walk.nodes next ≡ MoreStmts (stmts_of d.walk.nodes list) x) →
    IsParts (record { course = q; stmts = MoreStmts p.stmts x }) g next
parts_behind p q x d g list next h same later is =
    record {
      course = same;
      stmts = λ n. ap (λ xs. MoreStmts xs x) (h.stmts (sym (found_seen p.course d h.course) ∙ later (found_seen q g same ∙ n))) ∙ sym (is n);
    }
