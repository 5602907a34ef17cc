use Rattle.std.proofs.Common.{◌≡◌, drop}
use Rattle.jc_types.specs.Breaks.{least}
use Rattle.jc_declares.specs.Breaks.{formal_modifier_breaks}
use Rattle.jc_name_rules.proofs.sites.formal_modifiers_broken.Given as goal

abbrev pub invariant-loop-formal : goal.invariant-loop-formal
invariant-loop-formal l = least l.found (formal_modifier_breaks l.file (drop l.formal-index l.formals)) ≡ least l.initial.found (formal_modifier_breaks l.file l.formals)
