use Rattle.std.proofs.Common.{Option, ap, subst, ◌∙◌}
use Rattle.jc_rules.specs.declared.rule.Refusal.{Refusal}
use Rattle.jc_types.specs.Breaks.{IsOf, LeastOf}
use Rattle.jc_looking.specs.Members.{known_in}
use Rattle.jc_written.specs.At.{reading_at}
use Rattle.jc_written_in.specs.Writings.{rules_in}
use Rattle.jc_written_in.proofs.Told.{least_told, type_told}
use Rattle.jc_written_in.proofs.writing.written.Goals as goal

pub returns-in-Some-clause-refused : goal.returns-in-Some-clause-refused
returns-in-Some-clause-refused c =
    subst (λ (x : Option Refusal). LeastOf (λ b. IsOf b (rules_in c.args.naming.now.heads (known_in c.args.naming.now.known) c.args.spot c.args.tree.now)) x) c.in-Some.is
    (least_told c.args.naming.now.heads (known_in c.slice.result.now) (known_in c.args.naming.now.known)
    (reading_at c.args.naming.now.heads (known_in c.slice.result.now) c.reading_in_scope-reading.result) c.args.spot c.args.tree.now
    (ap known_in c.slice.ensures) (c.reading_in_scope-reading.ensures (known_in c.slice.result.now)) c.in_ok-refusal.field-0 c.in_ok-refusal.ensures)

pub returns-in_ok-written_type-in-None-clause-written : goal.returns-in_ok-written_type-in-None-clause-written
returns-in_ok-written_type-in-None-clause-written c =
    record {
      unbroken =
          subst (λ (x : Option Refusal). LeastOf (λ b. IsOf b (rules_in c.args.naming.now.heads (known_in c.args.naming.now.known) c.args.spot c.args.tree.now)) x) c.in-None.is
          (least_told c.args.naming.now.heads (known_in c.slice.result.now) (known_in c.args.naming.now.known)
          (reading_at c.args.naming.now.heads (known_in c.slice.result.now) c.reading_in_scope-reading.result) c.args.spot c.args.tree.now
          (ap known_in c.slice.ensures) (c.reading_in_scope-reading.ensures (known_in c.slice.result.now)) c.in_ok-refusal.field-0 c.in_ok-refusal.ensures);
      is =
          c.in_ok-written_type-in-None.ensures
          ∙ type_told c.args.naming.now.heads (known_in c.slice.result.now) (known_in c.args.naming.now.known)
          (reading_at c.args.naming.now.heads (known_in c.slice.result.now) c.reading_in_scope-reading.result) c.args.spot c.args.tree.now
          (ap known_in c.slice.ensures) (c.reading_in_scope-reading.ensures (known_in c.slice.result.now));
    }
