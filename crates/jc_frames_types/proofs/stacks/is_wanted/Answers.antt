use Rattle.std.proofs.Common.{◌≡◌, ◌∙◌, ℕ, List, ap}
use Rattle.jc_class_out.specs.declared.model.Item.TheVariants.{Object}
use Rattle.jc_frames_types.specs.Items.{item_of, is_assignable}
use Rattle.jc_frames_types.proofs.stacks.is_wanted.Goals as goal

pub returns-in-ObjectArray : goal.returns-in-ObjectArray
returns-in-ObjectArray c =
    rw c.in-ObjectArray.is (c.is_object_of-in-ObjectArray.ensures ∙ ap (λ (name : List ℕ). is_assignable c.args.types.now (item_of c.args.unit) (Object name)) c.as_slice-in-ObjectArray.ensures)
