-- The premises of an element, one by one.
use Rattle.std.proofs.Common.{◌≡◌, refl, ◌++◌, Option, None, Some}
use Rattle.jc_types.specs.declared.form.Ty.{Ty}
use Rattle.jc_convert.specs.declared.answer.Converts.{Converts}
use Rattle.jc_exprs_nodes_spec.specs.Typeds.{Typed, unconverted}
use Rattle.jc_exprs_parts_spec.specs.Names.{element_breaks}
use Rattle.jc_exprs_located.specs.Locations.{array_breaks}

pub breaks_apart : (a i : Typed) (o : Option Ty) (c : Converts) → element_breaks a i o c ≡ array_breaks a.place o ++ unconverted 607 i.start c
breaks_apart a i None c = refl
breaks_apart a i (Some t) c = refl
