use Rattle.std.proofs.Common.{rules, ◌≡◌, ◌∙◌, ◌<◌, ◌+◌, true, false, sym, ap, subst, set, get_or, length, map, vec_capacity, List, arith}
use Rattle.std.proofs.lemmas.List.{length-map, map-set}
use Rattle.jc_class_out.specs.declared.model.Item.{Item}
use Rattle.jc_class_out.specs.Forms.{same_item}
use Rattle.jc_frames_types.specs.Items.{item_of}
use Rattle.jc_frames_types.proofs.Swapping.{SwappedTo, swapped_one, kept_one, get_or-map}
use Rattle.jc_frames_types.proofs.states.replace.Goals as goal
use Rattle.jc_frames_types.proofs.states.replace.Goals.{then-is_same, else-is_same}

pub loop-at-preserved : goal.loop-at-preserved
loop-at-preserved c =
    let d = item_of c.index.result.now in
    let here : get_or (map item_of c.loop-at.units.items) c.loop-at.at (item_of c.index.result.now) ≡ item_of c.index.result.now =
    get_or-map item_of c.loop-at.units.items c.loop-at.at c.index.result.now ∙ ap item_of (sym c.index.ensures) in
    let count : c.len-at-end.result ≡ length c.args.units.now.items = search rules in
    let less : c.loop-at.at < length (map item_of c.args.units.now.items) = omega (arith, c.loop-at-test.true, count, length-map c.args.units.now.items item_of) in
    let same_as : same_item (get_or (map item_of c.loop-at.units.items) c.loop-at.at (item_of c.index.result.now)) (item_of c.args.old) ≡ c.is_same.result =
    ap (λ (x : Item). same_item x (item_of c.args.old)) here ∙ sym c.is_same.ensures in
    elim c.if-is_same.branch [
      | then-is_same w ↦
          let room : vec_capacity c.if-is_same.units ≡ vec_capacity c.args.units.now = ap vec_capacity w.units-is ∙ c.loop-at.invariant.0 in
          let is : map item_of c.if-is_same.units.items ≡ set (map item_of c.loop-at.units.items) c.loop-at.at (item_of c.args.new) =
          ap (λ v. map item_of v.items) w.units-is ∙ map-set item_of c.loop-at.units.items c.loop-at.at c.args.new in (
            room,
            swapped_one (item_of c.args.old) (item_of c.args.new) c.loop-at.at (map item_of c.args.units.now.items) (map item_of c.loop-at.units.items) (map item_of c.if-is_same.units.items) d less c.loop-at.invariant.1
                (same_as ∙ w.if-is_same.true) is,
          )
      | else-is_same w ↦
          let kept = kept_one (item_of c.args.old) (item_of c.args.new) c.loop-at.at (map item_of c.args.units.now.items) (map item_of c.loop-at.units.items) d less c.loop-at.invariant.1 (same_as ∙ w.if-is_same.false) in
          let room : vec_capacity c.if-is_same.units ≡ vec_capacity c.args.units.now = ap vec_capacity w.units-is ∙ c.loop-at.invariant.0 in
          let is : map item_of c.loop-at.units.items ≡ map item_of c.if-is_same.units.items = sym (ap (λ v. map item_of v.items) w.units-is) in
          let P : List Item → Type 0 = λ xs. SwappedTo (item_of c.args.old) (item_of c.args.new) (c.loop-at.at + 1) (map item_of c.args.units.now.items) xs in
          (room, subst P is kept)
    ]
