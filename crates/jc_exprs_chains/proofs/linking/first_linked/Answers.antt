use Rattle.std.proofs.Common.{◌≡◌, refl, ap, sym, ◌∙◌, subst}
use Rattle.std.specs.Prelude.{IfOk}
use Rattle.jc_typed.specs.Parts.{links_of, operand_of, type_of}
use Rattle.jc_typed.proofs.Growing.{within}
use Rattle.jc_exprs_nodes_spec.specs.Typeds.{plain, type_of as counted_type}
use Rattle.jc_exprs_nodes.specs.Walks.{known}
use Rattle.jc_exprs_nodes.proofs.Staying.{known_stays}
use Rattle.jc_exprs_parts_spec.specs.Chains.{Joined, whole}
use Rattle.jc_exprs_chains.specs.Chaining.{joined_at}
use Rattle.jc_exprs_chains.proofs.Firsts.{linked_by}
use Rattle.jc_exprs_chains.proofs.linking.first_linked.Goals as goal

pub returns-clause-value : goal.returns-clause-value
returns-clause-value c =
    let T = c.args.judging.now.table.now in
    let env = c.args.judging.now.env.now.bounds in
    let old = c.args.nodes.now in
    let mid = c.whole.new.nodes in
    let new = c.push_links.new.self in
    let left = c.args.left in
    let right = c.args.right.at in
    let t = whole (joined_at old left) in
    let first = c.in_ok-first.first in
    let one = c.in_ok-first.ensures.grows in
    let two = c.in_ok-links.ensures.grows in
    let below = c.requires.left.below in
    let ty : counted_type t ≡ type_of new left.ty = c.requires.left.ty ∙ rw (two.kept left.ty (within old mid left.ty one below), one.kept left.ty below) refl in
    let operand : plain t ≡ operand_of new first.at =
    ap plain c.in_ok-first.ensures.value ∙ sym c.in_ok-first.ensures.part.operand ∙ rw (two.kept first.at c.in_ok-first.ensures.part.below.0) refl in
    let r : known new right ≡ known old right =
    known_stays mid new right two (within old mid right one c.requires.right.below.0) ∙ known_stays old mid right one c.requires.right.below.0 in
    let z = linked_by T env c.args.taking t left.start (known old right) (known new right) (type_of new left.ty) (operand_of new first.at) (links_of new c.in_ok-links.links) c.requires.left.start ty operand c.in_ok-links.ensures.value r in
    subst (λ (x : Joined). IfOk c.linked.result (λ j. x ≡ joined_at c.linked.new.nodes j)) z c.linked.ensures.value
