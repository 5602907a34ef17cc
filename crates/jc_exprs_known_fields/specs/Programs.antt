-- What fields are declared in, as the definitions speak of it.
use Rattle.jc_declares.specs.declared.heads.Heads.{Heads}
use Rattle.jc_declares.specs.Looking.{Knowledge}
use Rattle.jc_looking.specs.Members.{known_in}
use Rattle.jc_looking.specs.Scenes.{IsScene}
use Rattle.jc_exprs_known_fields.specs.declared.program.Program.{Program}

abbrev pub heads_in : Program → Heads
heads_in p = p.names.declared.heads.now

abbrev pub knowledge_in : Program → Knowledge
knowledge_in p = known_in p.names.known.now

-- the index and the imports that names are looked up by are those of the heads
abbrev pub IsProgram : Program → Type 0
IsProgram p = IsScene p.names.declared.heads.now p.names.declared.index.now p.names.imports.now
