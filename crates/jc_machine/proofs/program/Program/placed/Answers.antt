use Rattle.std.proofs.Common.{◌≡◌, List, Option, None, Some, ◌∙◌, sym, ap}
use Rattle.std.specs.Option.{option_copied}
use Rattle.std.specs.Prelude.{slice_get}
use Rattle.jc_class_out.specs.declared.model.ClassModel.{ClassModel}
use Rattle.jc_machine.specs.declared.rows.Placed.{Placed}
use Rattle.jc_machine.specs.Places.{places_of_classes}
use Rattle.jc_machine.proofs.Placement.{placed_none, placed_some}
use Rattle.jc_machine.proofs.program.Program.placed.Goals as goal

pub returns-in_err-placed : goal.returns-in_err-placed
returns-in_err-placed c =
    let ms : slice_get (places_of_classes c.args.self.now) c.args.class ≡ Some c.in_ok-methods.methods.now = ap (λ (cs : List ClassModel). slice_get (places_of_classes cs) c.args.class) (sym c.self.view_is) ∙ ap (λ (l : List (List (List (Option Placed)))). slice_get l c.args.class) (sym c.self.invariant) ∙ sym c.get.ensures.value ∙ ap option_copied c.in_ok-methods.was in
    let ps : slice_get c.in_ok-methods.methods.now c.args.method ≡ Some c.in_ok-places.places.now = sym c.get-2.ensures.value ∙ ap option_copied c.in_ok-places.was in
    let none : slice_get c.in_ok-places.places.now c.args.at ≡ None = sym c.get-3.ensures.value ∙ ap option_copied c.in_err-placed.was in
    c.from_residual-in_err-placed.ensures ∙ placed_none c.args.self.now _ _ c.args.class c.args.method c.args.at ms ps none

pub returns : goal.returns
returns c =
    let ms : slice_get (places_of_classes c.args.self.now) c.args.class ≡ Some c.in_ok-methods.methods.now = ap (λ (cs : List ClassModel). slice_get (places_of_classes cs) c.args.class) (sym c.self.view_is) ∙ ap (λ (l : List (List (List (Option Placed)))). slice_get l c.args.class) (sym c.self.invariant) ∙ sym c.get.ensures.value ∙ ap option_copied c.in_ok-methods.was in
    let ps : slice_get c.in_ok-methods.methods.now c.args.method ≡ Some c.in_ok-places.places.now = sym c.get-2.ensures.value ∙ ap option_copied c.in_ok-places.was in
    let some : slice_get c.in_ok-places.places.now c.args.at ≡ Some c.in_ok-placed.placed.now = sym c.get-3.ensures.value ∙ ap option_copied c.in_ok-placed.was in
    placed_some c.args.self.now _ _ _ c.args.class c.args.method c.args.at ms ps some
