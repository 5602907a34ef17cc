use Rattle.std.proofs.Common.{◌≡◌, refl, sym, ◌∙◌, List, [], ◌++◌, Option}
use Rattle.std.proofs.lemmas.Result.{IfOk-weaker}
use Rattle.jc_types.specs.declared.environment.Bounds.{Bounds}
use Rattle.jc_types.specs.declared.form.Primitive.{Primitive}
use Rattle.jc_types.specs.declared.form.Ty.{Ty}
use Rattle.jc_types.specs.declared.table.Table.{Table}
use Rattle.jc_typed.specs.declared.expressions.Joint.{Joint}
use Rattle.jc_typed.specs.Parts.{links_of, operand_of, steps_of, type_of}
use Rattle.jc_typed.specs.Trees.{Links, MoreLinks, Operand, Step}
use Rattle.jc_typed.proofs.Growing.{grows_both}
use Rattle.jc_exprs_nodes_spec.specs.Typeds.{Typed}
use Rattle.jc_exprs_nodes.specs.Walks.{known}
use Rattle.jc_exprs_nodes.proofs.Staying.{known_stays}
use Rattle.jc_exprs_parts_spec.specs.Chains.{steps_to}
use Rattle.jc_exprs_operators.specs.declared.taking.Taking.{Taking}
use Rattle.jc_exprs_operators.specs.Takings.{joint_of, left_of, right_of, wanted}
use Rattle.jc_exprs_chains.specs.Chaining.{operand_for}
use Rattle.jc_exprs_chains.proofs.linking.push_link.Goals as goal

link_by : (T : Table) (env : List Bounds) (taking : Taking) (ls ms : Links) (j : Joint) (u v : Ty) (none left : List Step) (r q : Typed) (o : Operand) (to : Option Primitive) →
    ms ≡ ls → joint_of taking ≡ j → v ≡ u → none ≡ [] → left ≡ none ++ steps_to T env v (wanted v (left_of taking)) → q ≡ r → right_of taking ≡ to → o ≡ operand_for T env q to →
    MoreLinks ls (joint_of taking) (steps_to T env u (wanted u (left_of taking))) (operand_for T env r (right_of taking)) ≡ MoreLinks ms j left o
link_by T env taking ls ms j u v none left r q o to a b d e f g h i = rw (i, f, e, a, ← b, d, g, ← h) refl

pub returns-clause-value : goal.returns-clause-value
returns-clause-value c =
    let T = c.args.judging.now.table.now in
    let env = c.args.judging.now.env.now.bounds in
    let old = c.args.nodes.now in
    let one = c.push_steps.new.self in
    let two = c.push_left_steps.new.nodes in
    let three = c.push_operand_to.new.nodes in
    let head = c.args.head in
    let taking = c.args.taking in
    let right = c.args.right.at in
    let to_one = c.in_ok-none.ensures.grows in
    let to_two = c.in_ok-left.ensures.grows in
    let to_three = c.in_ok-right.ensures.grows in
    let both = grows_both old one two to_one to_two in
    let links : links_of three head.links ≡ links_of old head.links = rw ((grows_both old two three both to_three).kept head.links c.requires.links) refl in
    let ty : type_of one head.ty ≡ type_of old head.ty = rw (to_one.kept head.ty c.requires.ty) refl in
    let left : steps_of three c.in_ok-left.left ≡ steps_of two c.in_ok-left.left = rw (to_three.kept c.in_ok-left.left c.in_ok-left.ensures.within) refl in
    let r : known two right ≡ known old right = known_stays old two right both c.requires.right.below.0 in
    let z = link_by T env taking (links_of old head.links) (links_of three head.links) c.joint_of.result (type_of old head.ty) (type_of one head.ty) (steps_of one c.in_ok-none.none)
    (steps_of three c.in_ok-left.left) (known old right) (known two right) (operand_of three c.in_ok-right.right) c.right_of.result
    links c.joint_of.ensures ty c.in_ok-none.ensures.value (left ∙ c.in_ok-left.ensures.value) r c.right_of.ensures c.in_ok-right.ensures.value in
    IfOk-weaker c.push_links.result _ _ (λ at e. z ∙ sym e) c.push_links.ensures.value
