-- What is read of a place in a body, part by part.
use Rattle.std.proofs.Common.{◌≡◌, refl}
use Rattle.jc_looking.specs.Members.{known_in}
use Rattle.jc_exprs_locals.specs.Scoped.{locals_of}
use Rattle.jc_exprs_worlds.specs.declared.scene.Scene.{Scene}
use Rattle.jc_exprs_worlds.specs.Scenes.{WorldsAreTold, here_of, initialising_of, world_of}

pub table_told : (s : Scene) → (world_of s).table ≡ s.table.now
unfolding world_of
table_told s = refl

pub heads_told : (s : Scene) → (world_of s).heads ≡ s.names.declared.heads.now
unfolding world_of
heads_told s = refl

pub knowledge_told : (s : Scene) → (world_of s).knowledge ≡ known_in s.names.known.now
unfolding world_of
knowledge_told s = refl

pub constants_told : (s : Scene) → (world_of s).constants ≡ s.constants.now
unfolding world_of
constants_told s = refl

pub class_told : (s : Scene) → (world_of s).class ≡ s.class
unfolding world_of
class_told s = refl

pub scope_told : (s : Scene) → (world_of s).scope ≡ s.scope
unfolding world_of
scope_told s = refl

pub here_told : (s : Scene) → (world_of s).here ≡ here_of s.here
unfolding world_of
here_told s = refl

pub initialising_told : (s : Scene) → (world_of s).initialising ≡ initialising_of s.initialising
unfolding world_of
initialising_told s = refl

pub locals_told : (s : Scene) → (world_of s).locals ≡ locals_of s.locals.now
unfolding world_of
locals_told s = refl

pub ruleset worlds = (table_told, heads_told, knowledge_told, constants_told, class_told, scope_told, here_told, initialising_told, locals_told)

pub worlds_told : WorldsAreTold
worlds_told s = record {
  table = table_told s;
  heads = heads_told s;
  knowledge = knowledge_told s;
  constants = constants_told s;
  class = class_told s;
  scope = scope_told s;
  here = here_told s;
  initialising = initialising_told s;
  locals = locals_told s;
}
