use Rattle.std.proofs.Common.{arith, length, ◌<◌, ◌≤◌, ◌≡◌, ℕ, List, slice_index_or, ap, subst, sym, ◌∙◌}
use Rattle.jc_heap.specs.Above.{Added, AreAbove, IsIn, Put}
use Rattle.jc_heap.specs.Supers.{supers_at}
use Rattle.jc_heap.proofs.Walks.{begun, found, found_within, turn_at}
use Rattle.jc_heap.proofs.above.above_of.Goals as goal

pub upward-init : goal.upward-init
upward-init c =
    begun c.args.supers.now c.args.class c.args.marks.now.items c.add.new.marks.items c.add.new.found.items c.requires.blank
    (subst (λ (xs : List ℕ). Put c.args.marks.now.items c.add.new.marks.items xs c.add.new.found.items c.args.class) c.new-found.ensures.items c.in_ok-add.ensures)

pub add_all-requires : goal.add_all-requires
add_all-requires c = λ x i.
    let m = subst (IsIn x) c.row_at.ensures i in
    let b : x < length c.args.supers.now = c.requires.closed _ x m in
    let z = c.upward.invariant.walk.size in
    omega arith

pub upward-preserved : goal.upward-preserved
upward-preserved c =
    let same : c.row_at.result.now ≡ supers_at c.args.supers.now (slice_index_or c.upward.found.items c.upward.at 0) =
    c.row_at.ensures ∙ ap (λ r. supers_at c.args.supers.now (slice_index_or r c.upward.at 0)) c.as_slice.ensures.value in
    let within : c.upward.at < length c.upward.found.items = omega arith in
    turn_at c.args.supers.now c.args.class c.upward.marks.items c.add_all.new.marks.items c.upward.found.items c.add_all.new.found.items c.upward.at c.upward.invariant within
    (subst (λ xs. Added c.upward.marks.items c.add_all.new.marks.items c.upward.found.items c.add_all.new.found.items xs) same c.in_ok-add_all.ensures.added)
    (λ f w. c.in_ok-add_all.ensures.walk c.args.supers.now c.args.class (λ x i. f x (subst (IsIn x) same i)) w)

pub unmark-requires-clause-within : goal.unmark-requires-clause-within
unmark-requires-clause-within c = λ x i. found_within c.args.supers.now c.args.class c.upward.marks.items c.upward.found.items c.upward.at c.upward.invariant x (subst (IsIn x) c.as_slice-2.ensures.value i)

pub returns-clause-above : goal.returns-clause-above
returns-clause-above c =
    let past : length c.upward.found.items ≤ c.upward.at = omega arith in
    subst (λ (r : List ℕ). AreAbove c.args.supers.now c.args.class r) (sym c.of.ensures) (found c.args.supers.now c.args.class c.upward.marks.items c.upward.found.items c.upward.at c.upward.invariant past)
