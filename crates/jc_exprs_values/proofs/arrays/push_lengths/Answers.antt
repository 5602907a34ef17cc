use Rattle.std.proofs.Common.{◌≡◌, ℕ, ◌-◌, ap, sym, ◌∙◌, subst, List, ◌∷◌, take, drop, length, get_or}
use Rattle.jc_typed.specs.Parts.{operands_of}
use Rattle.jc_typed.specs.Trees.{NoOperands}
use Rattle.jc_typed.proofs.Growing.{grows_both}
use Rattle.jc_exprs_nodes_spec.specs.Told.{Standing}
use Rattle.jc_exprs_nodes_spec.specs.Typeds.{Typed}
use Rattle.jc_exprs_nodes.specs.Walks.{known, now}
use Rattle.jc_exprs_nodes.proofs.Staying.{known_stays}
use Rattle.jc_exprs_gathering.specs.Gathered.{AllParts}
use Rattle.jc_exprs_values.specs.Noted.{is_broken, noted}
use Rattle.jc_exprs_values.proofs.Lengths.{breaks_in, left_over, next_broken, next_operands, next_state, operands_in}
use Rattle.jc_exprs_values.proofs.arrays.push_lengths.Goals as goal

pub loop-rest-preserved : goal.loop-rest-preserved
loop-rest-preserved c =
    let T = c.args.table.now in
    let env = c.args.walk.now.env.bounds in
    let ns = c.args.walk.now.nodes in
    let now_ns = c.loop-rest.walk.nodes in
    let ats : List ℕ = c.args.ats.now in
    let rest : List ℕ = c.loop-rest.rest.now in
    let at : ℕ = get_or rest 0 0 in
    let more : List ℕ = take (length rest - 1) (drop 1 rest) in
    let i = c.loop-rest.invariant in
    let t : Typed = known now_ns at in
    let w : Standing = now c.loop-rest.walk in
    let v : Standing = now c.push_length_behind.new.walk in
    let er : rest ≡ at ∷ more = left_over rest c.in-len1-up.len_at_least in
    let parts : AllParts ns (at ∷ more) = subst (λ (l : List ℕ). AllParts ns l) er i.5 in
    let et : t ≡ known ns at = known_stays ns now_ns at i.6 parts.0.below in
    let done = c.in_ok-lengths.ensures in (
      next_state T env ns rest more at t w.env w v (noted (now c.args.walk.now) (breaks_in T env ns ats)) er et i.3 done.state i.0,
      next_broken T env ns rest more at t w.env c.loop-rest.lengths.is_broken c.in_ok-lengths.lengths.is_broken (is_broken (breaks_in T env ns ats)) er et i.3 done.broken i.1,
      next_operands T env ns rest more at t w.env (operands_of now_ns c.loop-rest.lengths.at) (operands_of c.push_length_behind.new.walk.nodes c.in_ok-lengths.lengths.at) (operands_in T env ns ats NoOperands) er et i.3 done.value i.2,
      ap (λ (q : Standing). q.env) (sym done.state) ∙ i.3,
      done.within,
      parts.1,
      grows_both ns now_ns c.push_length_behind.new.walk.nodes i.6 done.grows,
    )
