-- Rows of an exception table.
use Rattle.std.proofs.Common.{◌≡◌, ℕ, ◌&&◌, Bool, true, false, List, [], ◌∷◌, cond, option_and_then, refl, ap, ◌∙◌, if◌then◌else◌}
use Rattle.std.specs.Prelude.{find}
use Rattle.std.specs.Option.{option_map}
use Rattle.std.specs.declared.option.Option.{Option}
use Rattle.std.specs.declared.option.Option.TheVariants.{Some}
use Rattle.jc_class_out.specs.declared.model.ClassModel.{ClassModel}
use Rattle.jc_class_out.specs.declared.model.CodeModel.{CodeModel}
use Rattle.jc_class_out.specs.declared.model.Handler.{Handler}
use Rattle.jc_jvm.specs.Classes.{code_at}
use Rattle.jc_jvm.specs.declared.frame.Frame.{Frame}
use Rattle.jc_jvm.specs.Thrown.{catches, covers, handler_of}
use Rattle.jc_calls.specs.Handled.{handled_at}

row_case : (b : Bool) (row : Handler) (more : Option Handler) (rest : Option ℕ) → rest ≡ option_map (λ (r : Handler). r.at) more → (if b then Some row.at else rest) ≡ option_map (λ (r : Handler). r.at) (cond b (Some row) more)
row_case true row more rest e = refl
row_case false row more rest e = e

pub handled_by : (classes : List ClassModel) (thrown at : ℕ) (rows : List Handler) →
    handled_at classes thrown at rows ≡ option_map (λ (r : Handler). r.at) (find (λ (r : Handler). covers at r && catches classes thrown r.class) rows)
handled_by classes thrown at [] = refl
handled_by classes thrown at (row ∷ rows) = row_case (covers at row && catches classes thrown row.class) row (find (λ (r : Handler). covers at r && catches classes thrown r.class) rows) (handled_at classes thrown at rows) (handled_by classes thrown at rows)

-- a frame whose method has this code
pub handled_in : (classes : List ClassModel) (thrown : ℕ) (now : Frame) (code : CodeModel) → Some code ≡ code_at classes now.class now.method → handled_at classes thrown now.at code.handlers ≡ handler_of classes thrown now
handled_in classes thrown now code e =
    handled_by classes thrown now.at code.handlers
    ∙ ap (λ (o : Option CodeModel). option_and_then (λ (c : CodeModel). option_map (λ (r : Handler). r.at) (find (λ (r : Handler). covers now.at r && catches classes thrown r.class) c.handlers)) o) e
