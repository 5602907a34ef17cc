-- A place in a body as the definition of bodies has it.
use Rattle.std.specs.Prelude.{◌≡◌, Option, Some, None}
use Rattle.jc_looking.specs.Members.{known_in}
use Rattle.jc_looking.specs.Scenes.{IsScene}
use Rattle.jc_exprs_parts_spec.specs.Worlds.{World, Here, Instance, Static, Early, Initialising}
use Rattle.jc_exprs_locals.specs.Scoped.{locals_of}
use Rattle.jc_exprs_worlds.specs.declared.scene.Here.{Here as HereIn}
use Rattle.jc_exprs_worlds.specs.declared.scene.Here.TheVariants as here
use Rattle.jc_exprs_worlds.specs.declared.scene.Initialising.{Initialising as InitialisingIn}
use Rattle.jc_exprs_worlds.specs.declared.scene.Scene.{Scene}

abbrev pub here_of : HereIn → Here
here_of here.Instance = Instance
here_of here.Static = Static
here_of here.Early = Early

abbrev pub initialising_of : Option InitialisingIn → Option Initialising
initialising_of None = None
initialising_of (Some i) = Some (record { is_static = i.is_static; field = i.field })

unfoldable pub world_of : Scene → World
world_of s =
    record {
      table = s.table.now;
      heads = s.names.declared.heads.now;
      knowledge = known_in s.names.known.now;
      constants = s.constants.now;
      class = s.class;
      scope = s.scope;
      here = here_of s.here;
      initialising = initialising_of s.initialising;
      locals = locals_of s.locals.now;
    }

-- the index and the imports that names are looked up by are those of the heads
abbrev pub IsWorldly : Scene → Type 0
IsWorldly s = IsScene s.names.declared.heads.now s.names.declared.index.now s.names.imports.now

-- what is read of a place, part by part
pub record IsTold (s : Scene) : Type 0 where
  pub table : (world_of s).table ≡ s.table.now
  pub heads : (world_of s).heads ≡ s.names.declared.heads.now
  pub knowledge : (world_of s).knowledge ≡ known_in s.names.known.now
  pub constants : (world_of s).constants ≡ s.constants.now
  pub class : (world_of s).class ≡ s.class
  pub scope : (world_of s).scope ≡ s.scope
  pub here : (world_of s).here ≡ here_of s.here
  pub initialising : (world_of s).initialising ≡ initialising_of s.initialising
  pub locals : (world_of s).locals ≡ locals_of s.locals.now

abbrev pub WorldsAreTold : Type 0
WorldsAreTold = (s : Scene) → IsTold s
