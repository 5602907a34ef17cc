use Rattle.std.proofs.Common.{◌∙◌, ℕ, List, ap}
use Rattle.std.specs.declared.option.Option.{Option}
use Rattle.jc_selecting.specs.Found.{or_else, own_found}
use Rattle.jc_selecting.specs.Held.{content, held}
use Rattle.jc_selecting.proofs.Lines.{table_made}
use Rattle.jc_selecting.proofs.tables.made.Goals as goal

pub returns : goal.returns
returns c =
    table_made c.args.parents.now c.args.own.now c.args.class c.args.above.map c.in_ok-map.map c.args.above.depth c.requires.within c.requires.above
    (λ s. c.in_ok-map.ensures s ∙ ap (λ (row : List (Option ℕ)). or_else (own_found c.args.class row s) (held (content c.args.above.map.root) s)) c.row_at.ensures)
