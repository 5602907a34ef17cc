use Rattle.std.proofs.Common.{◌≡◌, drop}
use Rattle.std.specs.Prelude.{None, string_bytes}
use Rattle.jc_declares.specs.Looking.{InPackage}
use Rattle.jc_looking.specs.Standings.{asking}
use Rattle.jc_name_rules.specs.Opened.{parts_open}
use Rattle.jc_name_rules.proofs.imports.parts_open.Given as goal

abbrev pub invariant-loop-at : goal.invariant-loop-at
invariant-loop-at l = parts_open l.declared.heads.now (asking l.«package» None) (InPackage (string_bytes l.prefix)) (drop l.at l.parts) ≡ parts_open l.declared.heads.now (asking l.«package» None) (InPackage l.first) l.parts
