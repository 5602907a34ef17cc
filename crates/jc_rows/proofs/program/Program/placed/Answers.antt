use Rattle.std.proofs.Common.{◌∙◌, List, sym, ap}
use Rattle.std.specs.Option.{option_copied}
use Rattle.jc_class_out.specs.declared.model.ClassModel.{ClassModel}
use Rattle.jc_rows.specs.Laid.{all_rows}
use Rattle.jc_rows.proofs.Placement.{no_class, no_method, no_place, placed_is}
use Rattle.jc_rows.proofs.program.Program.placed.Goals as goal

pub returns-in_err-methods : goal.returns-in_err-methods
returns-in_err-methods c =
    let all = c.self.invariant ∙ ap (λ (cs : List ClassModel). all_rows cs) c.self.view_is in
    ap option_copied c.from_residual.ensures
    ∙ no_class c.args.self.now _ c.args.class c.args.method c.args.at all (sym c.get.ensures.value ∙ ap option_copied c.in_err-methods.was)

pub returns-in_err-places : goal.returns-in_err-places
returns-in_err-places c =
    let all = c.self.invariant ∙ ap (λ (cs : List ClassModel). all_rows cs) c.self.view_is in
    ap option_copied c.from_residual-in_err-places.ensures
    ∙ no_method c.args.self.now _ c.in_ok-methods.methods.now c.args.class c.args.method c.args.at all (sym c.get.ensures.value ∙ ap option_copied c.in_ok-methods.was) (sym c.get-2.ensures.value ∙ ap option_copied c.in_err-places.was)

pub returns-in_err-placed : goal.returns-in_err-placed
returns-in_err-placed c =
    let all = c.self.invariant ∙ ap (λ (cs : List ClassModel). all_rows cs) c.self.view_is in
    ap option_copied c.from_residual-in_err-placed.ensures
    ∙ no_place c.args.self.now _ c.in_ok-methods.methods.now c.in_ok-places.places.now c.args.class c.args.method c.args.at all
    (sym c.get.ensures.value ∙ ap option_copied c.in_ok-methods.was) (sym c.get-2.ensures.value ∙ ap option_copied c.in_ok-places.was) (sym c.get-3.ensures.value ∙ ap option_copied c.in_err-placed.was)

pub returns : goal.returns
returns c =
    let all = c.self.invariant ∙ ap (λ (cs : List ClassModel). all_rows cs) c.self.view_is in
    c.as_ref.ensures.value
    ∙ placed_is c.args.self.now _ c.in_ok-methods.methods.now c.in_ok-places.places.now c.in_ok-placed.placed.now c.args.class c.args.method c.args.at all
    (sym c.get.ensures.value ∙ ap option_copied c.in_ok-methods.was) (sym c.get-2.ensures.value ∙ ap option_copied c.in_ok-places.was) (sym c.get-3.ensures.value ∙ ap option_copied c.in_ok-placed.was)
