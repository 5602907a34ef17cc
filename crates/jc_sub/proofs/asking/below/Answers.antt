use Rattle.std.proofs.Common.{◌≡◌, ◌++◌}
use Rattle.jc_judge.specs.Deciding.{answer_of}
use Rattle.jc_judge.specs.Trees.{Answers, Proof, Refute}
use Rattle.jc_sub.proofs.Decided.{if_ok_along}
use Rattle.jc_sub.proofs.Single.{answer_told}
use Rattle.jc_sub.proofs.asking.below.Goals as goal

pub returns-clause-answer : goal.returns-clause-answer
returns-clause-answer c =
    let T = c.args.table.now in
    let env = c.args.env.now.bounds in
    let seen = c.slice.result.now in
    let fresh = c.new-fresh.result in
    let s = c.args.s.now in
    let t = c.args.t.now in
    if_ok_along c.below_at.result (λ a. Answers (Proof T 64 (seen ++ fresh) s t) (Refute T 64 (seen ++ fresh) s t) a) (λ a. a ≡ answer_of T 64 env s t)
    (λ a h. answer_told T env seen fresh 64 s t a c.slice.ensures c.new-fresh.ensures h) c.below_at.ensures.answer
