use Rattle.std.proofs.Common.{rules, arith}
use Rattle.jc_unit_laws.specs.MemberReading.{import_run}
use Rattle.jc_parse_unit.proofs.Filing.{import_ahead}
use Rattle.jc_parse_unit.proofs.files.imports.Goals as goal

pub many-requires : goal.many-requires
many-requires c κs = (search rules, (λ ts h. tt, (import_run, import_ahead, λ ts r p. search rules)))

pub returns-clause-read : goal.returns-clause-read
returns-clause-read c = c.many.ensures.read import_run import_ahead (λ ts r p. search rules)
