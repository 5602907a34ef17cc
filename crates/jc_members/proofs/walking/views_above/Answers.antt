use Rattle.std.proofs.Common.{◌≡◌, ℕ, true, arith, rules, sym, subst}
use Rattle.std.specs.Prelude.{nat_eq}
use Rattle.std.specs.HashMap.{get}
use Rattle.std.specs.HashSet.{contains}
use Rattle.jc_members.proofs.Walked.{Walks, walk_back, walk_begins, walk_ends, walk_past, walk_up}
use Rattle.jc_members.proofs.walking.views_above.Goals as goal
use Rattle.jc_members.proofs.walking.views_above.Goals.{in-Left+in_ok-next-in-Left, in-Open+else-len-most+in_ok-note_up-in-Open+in_ok-push-in-Open, in-End+in_ok-mark-in-End+in-Some+in_ok-next-in-Some}

pub loop-turn-init : goal.loop-turn-init
loop-turn-init c =
    let none : (y : ℕ) → contains nat_eq c.new-left.result y ≡ true → ⊥ = search rules in
    subst (λ fs. Walks c.args.table.now c.args.from c.args.t.now c.args.from 0 fs (λ y. get nat_eq c.in_ok-views.views y) (λ y. contains nat_eq c.new-left.result y)) (sym c.new-turns.ensures)
    (walk_begins c.args.table.now c.args.from c.args.t.now (λ y. get nat_eq c.in_ok-views.views y) (λ y. contains nat_eq c.new-left.result y) c.requires.class c.in_ok-views.ensures none)

pub returns-in-None-clause-whole : goal.returns-in-None-clause-whole
returns-in-None-clause-whole c = λ _ l e. walk_ends _ _ _ _ _ _ _ _ c.loop-turn.invariant c.in-End.ensures c.in-None.ensures.0 c.requires.class l e

pub loop-turn-preserved : goal.loop-turn-preserved
loop-turn-preserved c =
    elim c.match-seen_at.branch [
      | in-Left+in_ok-next-in-Left w ↦
          rw (w.views-is, w.turns-is, w.left-is, w.at-is, w.next-is)
          (walk_past _ _ _ _ _ _ _ _ c.loop-turn.invariant _ _ w.in-Left.ensures.1 w.in-Left.ensures.2 w.in_ok-next-in-Left.ensures)
      | in-Open+else-len-most+in_ok-note_up-in-Open+in_ok-push-in-Open w ↦
          rw (w.views-is, w.turns-is, w.left-is, w.at-is, w.next-is, w.in_ok-push-in-Open.ensures.ok)
          (walk_up _ _ _ _ _ _ _ _ c.loop-turn.invariant _ (λ y. get nat_eq w.note_up.new.views y) w.in-Open.ensures.0 w.in-Open.ensures.1 c.requires.class (omega arith) w.in_ok-note_up-in-Open.ensures)
      | in-End+in_ok-mark-in-End+in-Some+in_ok-next-in-Some w ↦
          rw (w.views-is, w.turns-is, w.left-is, w.at-is, w.next-is)
          (walk_back _ _ _ _ _ _ _ _ c.loop-turn.invariant _ _ _ (λ y. contains nat_eq w.mark.new.left y) w.in-End.ensures w.in-Some.ensures w.in_ok-next-in-Some.ensures w.in_ok-mark-in-End.ensures)
    ]
