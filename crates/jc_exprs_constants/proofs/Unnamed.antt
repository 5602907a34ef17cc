-- Constants that are named through no operand.
use Rattle.std.proofs.Common.{◌≡◌, refl, List}
use Rattle.jc_rules.specs.declared.rule.Place.{Place}
use Rattle.jc_types.specs.declared.constant.Constant.{Constant}
use Rattle.jc_typed.specs.Trees.{Fixed, MoreOperands, Named, NoOperands, Operands}
use Rattle.jc_exprs_nodes_spec.specs.Typeds.{known_in}
use Rattle.jc_exprs_constants.specs.Knowing.{if_unnamed}

pub known_fixed : (before : Operands) (c : Constant) (named : List Named) (casts : List Place) →
    known_in (Fixed before c named casts) ≡ if_unnamed before (record { value = c; named = named; casts = casts })
known_fixed NoOperands c named casts = refl
known_fixed (MoreOperands before last) c named casts = refl
