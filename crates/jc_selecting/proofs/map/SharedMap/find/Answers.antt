use Rattle.std.proofs.Common.{◌∙◌, ap, sym}
use Rattle.std.specs.declared.alloc.Global.{Global}
use Rattle.std.specs.declared.option.Option.{Option}
use Rattle.std.specs.declared.option.Option.TheVariants.{Some}
use Rattle.std.specs.declared.rc.Rc.{Rc}
use Rattle.jc_selecting.proofs.Bits.{search_half, search_zero}
use Rattle.jc_selecting.specs.Held.{content, half_of, value_of}
use Rattle.jc_selecting.specs.declared.map.Branch.{Branch, out-Branch}
use Rattle.jc_selecting.proofs.map.SharedMap.find.Goals as goal

pub returns-then-left-eq0 : goal.returns-then-left-eq0
returns-then-left-eq0 c =
    ap (λ (b : Branch). (out-Branch b).value) c.deref.ensures
    ∙ ap (λ (o : Option (Rc Branch Global)). value_of (content o)) (sym c.in-Some.is)
    ∙ search_zero (content c.bits.here.now) c.bits.left _ c.if-left-eq0.true c.bits.invariant

pub bits-preserved : goal.bits-preserved
bits-preserved c =
    search_half (content c.bits.here.now) (content c.half-here.result.now) c.bits.left _ c.if-left-eq0.false
    (c.half-here.ensures
    ∙ ap (λ (b : Branch). half_of (Some b) c.bits.left) c.as_ref.ensures
    ∙ ap (λ (o : Option (Rc Branch Global)). half_of (content o) c.bits.left) (sym c.in-Some.is))
    c.bits.invariant
