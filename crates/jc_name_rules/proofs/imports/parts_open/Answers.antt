use Rattle.std.proofs.Common.{None, arith, ◌∙◌}
use Rattle.std.specs.Prelude.{string_bytes}
use Rattle.jc_looking.specs.Standings.{asking}
use Rattle.jc_name_rules.proofs.PartsOpen.{package_some}
use Rattle.jc_name_rules.proofs.imports.parts_open.Goals as goal

pub returns-in-Some : goal.returns-in-Some
returns-in-Some c =
    c.class_open.ensures
    ∙ package_some c.args.declared.now.heads.now (asking c.args.«package».now None) c.args.parts.now c.loop-at.at c.in-Some.class (string_bytes c.loop-at.prefix) c.as_str.result.now c.index-parts-at.result c.str-part.result.now (omega arith) c.index-parts-at.is
    c.str-part.ensures c.as_str.ensures.value c.in-Some.ensures
    ∙ c.loop-at.invariant
