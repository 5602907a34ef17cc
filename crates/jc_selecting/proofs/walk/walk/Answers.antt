use Rattle.std.proofs.Common.{◌-◌, ◌+◌, ◌∙◌, ℕ, List, length, position, sym, ap, arith}
use Rattle.std.specs.declared.option.Option.{Option}
use Rattle.jc_selecting.specs.Found.{found_on, is_number}
use Rattle.jc_selecting.proofs.Lines.{walk_end, walk_found, walk_more, walk_over}
use Rattle.jc_selecting.proofs.walk.walk.Goals as goal

pub returns : goal.returns
returns c = walk_over c.args.parents.now c.args.own.now c.args.number (length c.args.parents.now - c.loop-done.done) c.loop-done.here _ (omega (arith, c.loop-done-test.false)) c.loop-done.invariant

pub returns-in-None : goal.returns-in-None
returns-in-None c = walk_end c.args.parents.now c.args.own.now c.args.number (length c.args.parents.now - c.loop-done.done) c.loop-done.here _ c.in-None.is c.loop-done.invariant

pub returns-in-Some-place_in : goal.returns-in-Some-place_in
returns-in-Some-place_in c =
    walk_found c.args.parents.now c.args.own.now c.args.number (length c.args.parents.now) c.loop-done.done c.in-Some.k c.in-Some-place_in.place _ c.loop-done-test.true
    (ap (λ (row : List (Option ℕ)). position (is_number c.args.number) row) (sym c.row_at.ensures) ∙ sym c.in-Some-place_in.ensures)
    (ap (λ (here : Option ℕ). found_on c.args.parents.now c.args.own.now c.args.number (length c.args.parents.now - c.loop-done.done) here) (sym c.in-Some.is) ∙ c.loop-done.invariant)

pub loop-done-preserved : goal.loop-done-preserved
loop-done-preserved c =
    ap (λ (here : Option ℕ). found_on c.args.parents.now c.args.own.now c.args.number (length c.args.parents.now - (c.loop-done.done + 1)) here) c.parent_at-here.ensures
    ∙ walk_more c.args.parents.now c.args.own.now c.args.number (length c.args.parents.now) c.loop-done.done c.in-Some.k _ c.loop-done-test.true
    (ap (λ (row : List (Option ℕ)). position (is_number c.args.number) row) (sym c.row_at.ensures) ∙ sym c.in-None-place_in.ensures)
    (ap (λ (here : Option ℕ). found_on c.args.parents.now c.args.own.now c.args.number (length c.args.parents.now - c.loop-done.done) here) (sym c.in-Some.is) ∙ c.loop-done.invariant)
