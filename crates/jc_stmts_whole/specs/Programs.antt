-- What the bodies of a program stand in, as the definitions speak of it.
use Rattle.std.specs.Prelude.{◌≡◌}
use Rattle.jc_declares.specs.declared.heads.Heads.{Heads}
use Rattle.jc_declares.specs.Looking.{Knowledge}
use Rattle.jc_looking.specs.Members.{known_in}
use Rattle.jc_looking.specs.Scenes.{IsScene}
use Rattle.jc_members.specs.Named.{IsMethodIndex}
use Rattle.jc_exprs_parts_spec.specs.Constants.{constants_of}
use Rattle.jc_stmts_whole.specs.declared.program.Program.{Program}

abbrev pub heads_in : Program → Heads
heads_in p = p.names.declared.heads.now

abbrev pub knowledge_in : Program → Knowledge
knowledge_in p = known_in p.names.known.now

-- names, methods and the values of fields are looked up by what the heads and the table have
pub record IsProgram (p : Program) : Type 0 where
  pub names : IsScene p.names.declared.heads.now p.names.declared.index.now p.names.imports.now
  pub methods : IsMethodIndex p.table.now p.index.now
  pub constants : p.constants.now ≡ constants_of p.table.now (heads_in p) (knowledge_in p)
