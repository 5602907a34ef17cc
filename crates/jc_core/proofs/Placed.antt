-- A step of a frame is that of the row at its place.
use Rattle.std.proofs.Common.{◌≡◌, ◌∙◌, ℕ, List, refl, ap}
use Rattle.std.specs.Option.{option_map}
use Rattle.std.specs.declared.option.Option.{Option}
use Rattle.std.specs.declared.option.Option.TheVariants.{Some, None}
use Rattle.jc_class_out.specs.declared.model.ClassModel.{ClassModel}
use Rattle.jc_class_out.specs.declared.model.Ins.{Ins}
use Rattle.jc_jvm.specs.Calls.{stuck}
use Rattle.jc_jvm.specs.Table.{placed_row}
use Rattle.jc_jvm.specs.declared.frame.Frame.{Frame}
use Rattle.jc_jvm.specs.declared.frame.Waiting.{Waiting}
use Rattle.jc_jvm.specs.declared.world.World.{World}
use Rattle.jc_rows.specs.Acts.{row_step}
use Rattle.jc_rows.specs.Laid.{placed_as}
use Rattle.jc_rows.specs.declared.row.Placed.{Placed}
use Rattle.jc_rows.proofs.SameRows.{same_row}

-- where a row stands
pub same_by : (classes : List ClassModel) (world : World) (now : Frame) (waiting : List Waiting) (o : Option (Ins × ℕ)) (p : Placed) →
    option_map (placed_as classes (now.class, now.method)) o ≡ Some p → placed_row classes world now waiting o ≡ row_step classes world p.next now waiting p.row
same_by classes world now waiting None p e = cc
same_by classes world now waiting (Some placed) p e =
    let same : placed_as classes (now.class, now.method) placed ≡ p = cc in
    same_row classes world placed.1 now waiting placed.0 ∙ ap (λ (x : Placed). row_step classes world x.next now waiting x.row) same

-- where none stands
pub none_stands : (classes : List ClassModel) (world : World) (now : Frame) (waiting : List Waiting) (o : Option (Ins × ℕ)) →
    None ≡ option_map (placed_as classes (now.class, now.method)) o → placed_row classes world now waiting o ≡ stuck
none_stands classes world now waiting None e = refl
none_stands classes world now waiting (Some placed) e = cc

pub ruleset placed_rules = (none_stands)
