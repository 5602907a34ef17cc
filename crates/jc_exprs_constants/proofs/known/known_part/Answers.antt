use Rattle.std.proofs.Common.{ap, ◌∙◌}
use Rattle.jc_typed.specs.Parts.{constant_of, form_over, names_of, operands_of, parts, places_of}
use Rattle.jc_exprs_nodes_spec.specs.Typeds.{known_in}
use Rattle.jc_exprs_constants.proofs.Unnamed.{known_fixed}
use Rattle.jc_exprs_constants.proofs.known.known_part.Goals as goal

pub returns-in-Constant-clause-value : goal.returns-in-Constant-clause-value
returns-in-Constant-clause-value c =
    let ns = c.args.nodes.now in
    let f = c.in-Constant in
    ap known_in (c.inside.ensures.form ∙ ap (form_over (parts ns)) f.is)
    ∙ known_fixed (operands_of ns f.before) (constant_of ns f.value) (names_of ns f.named) (places_of ns f.casts)
    ∙ c.if_unnamed.ensures.value
