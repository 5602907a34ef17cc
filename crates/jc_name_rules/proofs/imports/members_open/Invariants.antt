use Rattle.std.proofs.Common.{◌≡◌, drop}
use Rattle.std.specs.Prelude.{None}
use Rattle.jc_declares.specs.Looking.{AtClass}
use Rattle.jc_looking.specs.Standings.{asking}
use Rattle.jc_name_rules.specs.Opened.{parts_open}
use Rattle.jc_name_rules.proofs.imports.members_open.Given as goal

abbrev pub invariant-loop-at : goal.invariant-loop-at
invariant-loop-at l = parts_open l.declared.heads.now (asking l.«package» None) (AtClass l.outer) (drop l.at l.parts) ≡ parts_open l.declared.heads.now (asking l.«package» None) (AtClass l.class) (drop l.from l.parts)
