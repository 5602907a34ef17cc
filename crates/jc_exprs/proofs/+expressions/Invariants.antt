use Rattle.std.proofs.Common.{◌≡◌, drop, length, [], Some}
use Rattle.jc_typed.specs.Parts.{Grows}
use Rattle.jc_exprs_nodes.specs.Walks.{AllBelow, has, now}
use Rattle.jc_exprs_gathering.specs.Gathered.{has_all, has_operands, walked}
use Rattle.jc_exprs_chains.specs.Chaining.{JoinedIn, as_first, has_joined}
use Rattle.jc_exprs_starts.specs.Wanted.{wanted_in}
use Rattle.jc_exprs_worlds.specs.Scenes.{world_of}
use Rattle.jc_exprs_forms.specs.Forms.{furthers, givings, typings}
use Rattle.jc_exprs_forms.specs.Walking.{joined_walk}
use Rattle.jc_exprs.proofs.+expressions.Given as goal

abbrev pub invariant-lists::typed_onto-loop-e : goal.invariant-lists::typed_onto-loop-e
invariant-lists::typed_onto-loop-e l = record {
  walks : walked (has_all l.walk.nodes l.ats) (typings (world_of l.methods.scene.now) (drop l.e-index l.es)) (now l.walk) ≡ walked (has_all l.fn.walk.nodes l.fn.before) (typings (world_of l.methods.scene.now) l.es) (now l.fn.walk);
  below : AllBelow (length l.walk.nodes) l.ats;
  grows : Grows l.fn.walk.nodes l.walk.nodes;
}

abbrev pub invariant-initialisers::given_all-loop-init : goal.invariant-initialisers::given_all-loop-init
invariant-initialisers::given_all-loop-init l = record {
  walks : walked (has_operands l.walk.nodes l.ats) (givings (world_of l.methods.scene.now) (wanted_in l.fn.walk.nodes l.wanted) (drop l.init-index l.inits)) (now l.walk) ≡ walked (Some []) (givings (world_of l.methods.scene.now) (wanted_in l.fn.walk.nodes l.wanted) l.inits) (now l.fn.walk);
  below : AllBelow (length l.walk.nodes) l.ats;
  grows : Grows l.fn.walk.nodes l.walk.nodes;
}

abbrev pub invariant-chains::chained-loop-operand : goal.invariant-chains::chained-loop-operand
invariant-chains::chained-loop-operand l = record {
  walks : joined_walk (world_of l.methods.scene.now) (record { state = now l.walk; has = has_joined l.walk.nodes l.joined }) (furthers (world_of l.methods.scene.now) (drop l.operand-index l.rest)) ≡ joined_walk (world_of l.methods.scene.now) (record { state = now l.fn.walk; has = as_first (has l.fn.walk.nodes l.fn.first) }) (furthers (world_of l.methods.scene.now) l.rest);
  joined : JoinedIn l.walk.nodes l.joined;
  grows : Grows l.fn.walk.nodes l.walk.nodes;
}
