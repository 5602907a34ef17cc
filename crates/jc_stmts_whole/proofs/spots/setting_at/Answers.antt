use Rattle.std.proofs.Common.{◌≡◌, ap, List, Option}
use Rattle.jc_types.specs.declared.constant.Constant.{Constant}
use Rattle.jc_looking.specs.Members.{known_in}
use Rattle.jc_exprs_parts_spec.specs.Worlds.{World, LocalIn}
use Rattle.jc_exprs_worlds.specs.Scenes.{here_of, initialising_of}
use Rattle.jc_stmts_items.specs.Settings.{world_within}
use Rattle.jc_stmts_whole.proofs.spots.setting_at.Goals as goal

pub returns-clause-world : goal.returns-clause-world
unfolding world_within
returns-clause-world c =
    let p = c.args.program.now in
    let spot = c.args.spot in
    let W : List (Option Constant) → List LocalIn → World = λ cs ls.
    record {
      table = p.table.now;
      heads = p.names.declared.heads.now;
      knowledge = known_in p.names.known.now;
      constants = cs;
      class = spot.class;
      scope = spot.scope;
      here = here_of spot.here;
      initialising = initialising_of spot.initialising;
      locals = ls;
    } in
    ap W c.requires.constants
