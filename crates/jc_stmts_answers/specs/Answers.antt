-- What the answers of the code are in the definition.
use Rattle.std.specs.Prelude.{ℕ, ◌<◌, List, [], ◌∷◌, map}
use Rattle.jc_typed.specs.declared.nodes.Node.{Node}
use Rattle.jc_typed.specs.Parts.{captures_of, names_of, operand_of, steps_of, type_of, types_of}
use Rattle.jc_stmts_spec.specs.Courses.{Answer, AnOperand, ALocal, AKey, AnEach, SomeTypes, Elements}
use Rattle.jc_stmts_answers.specs.declared.answers.AnswerAt.{AnswerAt}
use Rattle.jc_stmts_answers.specs.declared.answers.AnswerAt.TheVariants as a
use Rattle.jc_stmts_answers.specs.declared.answers.ElementsAt.{ElementsAt}

abbrev pub elements_of : List Node → ElementsAt → Elements
elements_of ns e = record { is_array = e.is_array; of_it = operand_of ns e.of; ty = type_of ns e.ty; captures = captures_of ns e.captures; steps = steps_of ns e.steps }

-- an answer, by what stands in the arena
abbrev pub answer_of : List Node → AnswerAt → Answer
answer_of ns (a.AnOperand at) = AnOperand (operand_of ns at)
answer_of ns (a.ALocal place number) = ALocal place number
answer_of ns (a.AKey value names) = AKey value (names_of ns names)
answer_of ns (a.AnEach e) = AnEach (elements_of ns e)
answer_of ns (a.SomeTypes types) = SomeTypes (types_of ns types)

abbrev pub answers_of : List Node → List AnswerAt → List Answer
answers_of ns xs = map (answer_of ns) xs

-- what it names stands below a place
abbrev pub ElementsBelow : ℕ → ElementsAt → Type 0
ElementsBelow k e = (e.of < k) × (e.ty < k) × (e.captures < k) × (e.steps < k)

abbrev pub AnswerBelow : ℕ → AnswerAt → Type 0
AnswerBelow k (a.AnOperand at) = at < k
AnswerBelow k (a.ALocal place number) = Unit {0}
AnswerBelow k (a.AKey value names) = names < k
AnswerBelow k (a.AnEach e) = ElementsBelow k e
AnswerBelow k (a.SomeTypes types) = types < k

abbrev pub AnswersBelow : ℕ → List AnswerAt → Type 0
AnswersBelow k [] = Unit {0}
AnswersBelow k (x ∷ xs) = AnswerBelow k x × AnswersBelow k xs
