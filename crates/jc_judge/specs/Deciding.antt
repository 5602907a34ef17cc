-- The answer to a question of subtyping and to one of containment, as functions.
use Rattle.std.specs.Prelude.{ℕ, zero, suc, List, [], ◌∷◌, ◌++◌, if◌then◌else◌}
use Rattle.jc_types.specs.declared.form.Ty.{Ty}
use Rattle.jc_types.specs.declared.form.Arg.{Arg}
use Rattle.jc_types.specs.declared.table.Table.{Table}
use Rattle.jc_types.specs.declared.environment.Bounds.{Bounds}
use Rattle.jc_types.specs.Sameness.{same}
use Rattle.jc_judge.specs.declared.question.Part.{Part}
use Rattle.jc_judge.specs.declared.question.Part.TheVariants.{Sure, Never, Ask, Same}
use Rattle.jc_judge.specs.declared.question.Question.{Question}
use Rattle.jc_judge.specs.declared.question.Question.TheVariants.{Holds, Fails, Every, SomeOf}
use Rattle.jc_judge.specs.declared.question.Answer.{Answer}
use Rattle.jc_judge.specs.declared.question.Answer.TheVariants.{Yes, No, Deep}
use Rattle.jc_judge.specs.Asking.{question, contained}
use Rattle.jc_judge.specs.Trees.{both, either}

-- of a part, by the answers to the questions of subtyping
abbrev pub part_answer : (Ty → Ty → Answer) → Part → Answer
part_answer ask Sure = Yes
part_answer ask Never = No
part_answer ask (Ask s t) = ask s t
part_answer ask (Same s t) = if same s t then Yes else No

-- whether every part holds, and whether some part does
abbrev pub every_answer : (Part → Answer) → List Part → Answer
every_answer f [] = Yes
every_answer f (p ∷ ps) = both (f p) (every_answer f ps)

abbrev pub some_answer : (Part → Answer) → List Part → Answer
some_answer f [] = No
some_answer f (p ∷ ps) = either (f p) (some_answer f ps)

-- of what a question leads to
abbrev pub question_answer : (List Bounds → Ty → Ty → Answer) → List Bounds → Question → Answer
question_answer ask env Holds = Yes
question_answer ask env Fails = No
question_answer ask env (Every fresh parts) = every_answer (part_answer (ask (env ++ fresh))) parts
question_answer ask env (SomeOf parts) = some_answer (part_answer (ask env)) parts

-- whether S is below T, by trees of at most this height (JLS 4.10): Yes where there is a proof, No where there is a refutation,
-- and Deep where there is neither
unfoldable pub answer_of : Table → ℕ → List Bounds → Ty → Ty → Answer
answer_of T zero env s t = Deep
answer_of T (suc d) env s t = if same s t then Yes else question_answer (answer_of T d) env (question T env s t)

-- whether the second argument contains the first (JLS 4.5.1), by trees of at most this height where subtyping is asked
abbrev pub contained_answer : Table → ℕ → List Bounds → Arg → Arg → Answer
contained_answer T d env a b = part_answer (answer_of T d env) (contained a b)
