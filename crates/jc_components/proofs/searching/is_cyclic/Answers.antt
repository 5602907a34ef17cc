use Rattle.std.proofs.Common.{arith, length, ◌<◌, ◌≤◌, ◌≡◌, subst, ℕ, slice_index_or, ap, ◌∙◌}
use Rattle.jc_components.specs.Reach.{Walk, one, IsIn, row, Added, Reach}
use Rattle.jc_components.proofs.Walks.{begun, turn_at, answer, walk_none}
use Rattle.jc_components.proofs.searching.is_cyclic.Goals as goal

pub add_all-requires : goal.add_all-requires
add_all-requires c = λ x i.
    let m : IsIn x (row c.args.rows.now c.args.a) = subst (IsIn x) c.row.ensures i in
    let b : x < length c.args.rows.now = c.requires.closed c.args.a x m in
    let w = (walk_none c.args.rows.now c.args.a).size in
    let e = ap length c.in_ok-marks.ensures in
    omega arith

pub search-init : goal.search-init
search-init c =
    let start : Walk c.args.rows.now c.args.a c.in_ok-marks.marks.items c.new-reached.result.items = rw (c.in_ok-marks.ensures, c.new-reached.ensures.items) (walk_none c.args.rows.now c.args.a) in
    let reached : (x : ℕ) → IsIn x c.row.result.now → Reach c.args.rows.now c.args.a x = λ x i. one x (subst (IsIn x) c.row.ensures i) in
    begun c.args.rows.now c.args.a c.in_ok-marks.marks.items c.add_all.new.marks.items c.new-reached.result.items c.add_all.new.reached.items
    (subst (λ xs. Added c.in_ok-marks.marks.items c.add_all.new.marks.items c.new-reached.result.items c.add_all.new.reached.items xs) c.row.ensures c.in_ok-add_all.ensures.added)
    (c.in_ok-add_all.ensures.walk c.args.rows.now c.args.a reached start)

pub add_all-requires-in-search : goal.add_all-requires-in-search
add_all-requires-in-search c = λ x i.
    let m = subst (IsIn x) c.row-in-search.ensures i in
    let b : x < length c.args.rows.now = c.requires.closed _ x m in
    let z = c.search.invariant.walk.size in
    omega arith

pub search-preserved : goal.search-preserved
search-preserved c =
    let same : c.row-in-search.result.now ≡ row c.args.rows.now (slice_index_or c.search.reached.items c.search.at 0) =
    c.row-in-search.ensures ∙ ap (λ r. row c.args.rows.now (slice_index_or r c.search.at 0)) c.as_slice.ensures.value in
    let within : c.search.at < length c.search.reached.items = omega arith in
    turn_at c.args.rows.now c.args.a c.search.marks.items c.add_all-in-search.new.marks.items c.search.reached.items c.add_all-in-search.new.reached.items c.search.at c.search.invariant within
    (subst (λ xs. Added c.search.marks.items c.add_all-in-search.new.marks.items c.search.reached.items c.add_all-in-search.new.reached.items xs) same c.in_ok-add_all-2.ensures.added)
    (λ f w. c.in_ok-add_all-2.ensures.walk c.args.rows.now c.args.a (λ x i. f x (subst (IsIn x) same i)) w)

pub returns : goal.returns
returns c =
    let past : length c.search.reached.items ≤ c.search.at = omega arith in
    rw c.as_slice-2.ensures.value (answer c.args.rows.now c.args.a c.search.marks.items c.search.reached.items c.search.at c.search.invariant past c.requires.place)
