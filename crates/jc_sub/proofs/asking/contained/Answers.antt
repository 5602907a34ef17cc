use Rattle.std.proofs.Common.{◌≡◌, ◌++◌}
use Rattle.jc_judge.specs.Deciding.{contained_answer}
use Rattle.jc_judge.specs.Trees.{Answers, Proof, Refute, PartProved, PartRefuted}
use Rattle.jc_sub.proofs.Decided.{if_ok_along}
use Rattle.jc_sub.proofs.Single.{contained_told}
use Rattle.jc_sub.proofs.asking.contained.Goals as goal

pub returns-clause-answer : goal.returns-clause-answer
returns-clause-answer c =
    let T = c.args.table.now in
    let env = c.args.env.now.bounds in
    let seen = c.slice.result.now in
    let fresh = c.new-fresh.result in
    let a = c.args.a.now in
    let b = c.args.b.now in
    let p = c.in_ok-part.part in
    if_ok_along c.part_answer.result (λ r. Answers (PartProved (Proof T 64 (seen ++ fresh)) p) (PartRefuted (Refute T 64 (seen ++ fresh)) p) r) (λ r. r ≡ contained_answer T 64 env a b)
    (λ r h. contained_told T env seen fresh 64 a b p r c.slice.ensures c.new-fresh.ensures c.in_ok-part.ensures h) c.part_answer.ensures.answer
