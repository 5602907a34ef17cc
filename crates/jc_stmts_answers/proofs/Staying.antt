-- Answers stay what they are where the arena grows.
use Rattle.std.proofs.Common.{◌≡◌, refl, ap, ℕ, List, [], ◌∷◌, ◌++◌, length}
use Rattle.jc_typed.specs.declared.nodes.Node.{Node}
use Rattle.jc_typed.specs.Parts.{Grows}
use Rattle.jc_typed.proofs.Growing.{within}
use Rattle.jc_stmts_answers.specs.declared.answers.AnswerAt.{AnswerAt}
use Rattle.jc_stmts_answers.specs.declared.answers.AnswerAt.TheVariants as a
use Rattle.jc_stmts_answers.specs.Answers.{AnswerBelow, AnswersBelow, answer_of, answers_of}

pub answer_stays : (ms ns : List Node) (x : AnswerAt) → Grows ms ns → AnswerBelow (length ms) x → answer_of ns x ≡ answer_of ms x
answer_stays ms ns (a.AnOperand at) g b = rw (g.kept at b) refl
answer_stays ms ns (a.ALocal place number) g b = refl
answer_stays ms ns (a.AKey value names) g b = rw (g.kept names b) refl
answer_stays ms ns (a.AnEach e) g b = rw (g.kept e.of b.0, g.kept e.ty b.1, g.kept e.captures b.2, g.kept e.steps b.3) refl
answer_stays ms ns (a.SomeTypes types) g b = rw (g.kept types b) refl

pub answers_stay : (ms ns : List Node) (xs : List AnswerAt) → Grows ms ns → AnswersBelow (length ms) xs → answers_of ns xs ≡ answers_of ms xs
answers_stay ms ns [] g b = refl
answers_stay ms ns (x ∷ xs) g b = rw (answer_stays ms ns x g b.0, answers_stay ms ns xs g b.1) refl

pub answer_below : (ms ns : List Node) (x : AnswerAt) → Grows ms ns → AnswerBelow (length ms) x → AnswerBelow (length ns) x
answer_below ms ns (a.AnOperand at) g b = within ms ns at g b
answer_below ms ns (a.ALocal place number) g b = b
answer_below ms ns (a.AKey value names) g b = within ms ns names g b
answer_below ms ns (a.AnEach e) g b = (within ms ns e.of g b.0, within ms ns e.ty g b.1, within ms ns e.captures g b.2, within ms ns e.steps g b.3)
answer_below ms ns (a.SomeTypes types) g b = within ms ns types g b

pub answers_below : (ms ns : List Node) (xs : List AnswerAt) → Grows ms ns → AnswersBelow (length ms) xs → AnswersBelow (length ns) xs
answers_below ms ns [] g b = b
answers_below ms ns (x ∷ xs) g b = (answer_below ms ns x g b.0, answers_below ms ns xs g b.1)

-- one answer more at the end
pub answers_more : (ns : List Node) (xs : List AnswerAt) (x : AnswerAt) → answers_of ns (xs ++ x ∷ []) ≡ answers_of ns xs ++ answer_of ns x ∷ []
answers_more ns [] x = refl
answers_more ns (y ∷ ys) x = ap (λ zs. answer_of ns y ∷ zs) (answers_more ns ys x)

pub below_more : (k : ℕ) (xs : List AnswerAt) (x : AnswerAt) → AnswersBelow k xs → AnswerBelow k x → AnswersBelow k (xs ++ x ∷ [])
below_more k [] x b c = (c, tt)
below_more k (y ∷ ys) x b c = (b.0, below_more k ys x b.1 c)

-- where the arena stays or grows
pub ruleset staying = (answer_stays, answers_stay, answer_below, answers_below)

-- where an answer is added
pub ruleset adding = (answers_more, below_more)
