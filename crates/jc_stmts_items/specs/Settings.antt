-- Where the items of a body stand, as the definition of bodies has it: a world for the locals in scope.
use Rattle.std.specs.Prelude.{List}
use Rattle.jc_looking.specs.Members.{known_in}
use Rattle.jc_looking.specs.Scenes.{IsScene}
use Rattle.jc_members.specs.Named.{IsMethodIndex}
use Rattle.jc_exprs_parts_spec.specs.Worlds.{World, LocalIn}
use Rattle.jc_exprs_worlds.specs.Scenes.{here_of, initialising_of}
use Rattle.jc_stmts_items.specs.declared.setting.Setting.{Setting}

unfoldable pub world_within : Setting → List LocalIn → World
world_within s ls =
    record {
      table = s.table.now;
      heads = s.names.declared.heads.now;
      knowledge = known_in s.names.known.now;
      constants = s.constants.now;
      class = s.class;
      scope = s.scope;
      here = here_of s.here;
      initialising = initialising_of s.initialising;
      locals = ls;
    }

-- what names and methods are looked up by are those of the heads and of the table
pub record IsSetting (s : Setting) : Type 0 where
  pub names : IsScene s.names.declared.heads.now s.names.declared.index.now s.names.imports.now
  pub methods : IsMethodIndex s.table.now s.index.now
