use Rattle.std.proofs.Common.{[], ap, ◌∙◌}
use Rattle.jc_types.specs.declared.table.Table.{Table}
use Rattle.jc_declares.specs.Heads.{Named}
use Rattle.jc_looking.specs.Members.{known_in}
use Rattle.jc_sites.specs.Joining.{sites_seen}
use Rattle.jc_table.specs.Filling.{with_declarations}
use Rattle.jc_table.proofs.table.table_with.Goals as goal

pub returns : goal.returns
returns c =
    let H = c.args.scene.now.declared.heads.now in let K = known_in c.args.scene.now.known.now in
    c.in_ok-fill.ensures
    ∙ ap (λ (T : Table). with_declarations (sites_seen c.args.sites.now) H K T) c.table_of_names-table.ensures
    ∙ ap (λ (names : Named). let T : Table = record { classes = []; methods = []; fields = []; variables = []; scopes = []; uses = []; index = names } in with_declarations (sites_seen c.args.sites.now) H K T) c.in_ok-index.ensures
