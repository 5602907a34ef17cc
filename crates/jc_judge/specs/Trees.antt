-- Proof trees and refutation trees of subtyping, of a given height (JLS 4.10).
use Rattle.std.specs.Prelude.{◌≡◌, ◌≢◌, ◌↔◌, ℕ, zero, suc, ◌⊎◌, List, [], ◌∷◌, ◌++◌}
use Rattle.jc_types.specs.declared.form.Ty.{Ty}
use Rattle.jc_types.specs.declared.form.Arg.{Arg}
use Rattle.jc_types.specs.declared.table.Table.{Table}
use Rattle.jc_types.specs.declared.environment.Bounds.{Bounds}
use Rattle.jc_judge.specs.declared.question.Part.{Part}
use Rattle.jc_judge.specs.declared.question.Part.TheVariants.{Sure, Never, Ask, Same}
use Rattle.jc_judge.specs.declared.question.Question.{Question}
use Rattle.jc_judge.specs.declared.question.Question.TheVariants.{Holds, Fails, Every, SomeOf}
use Rattle.jc_judge.specs.declared.question.Answer.{Answer}
use Rattle.jc_judge.specs.declared.question.Answer.TheVariants.{Yes, No, Deep}
use Rattle.jc_judge.specs.Asking.{question, contained}

-- each part, and some part
abbrev pub Each : (Part → Type 0) → List Part → Type 0
Each P [] = Unit {0}
Each P (p ∷ ps) = P p × Each P ps

abbrev pub OneOf : (Part → Type 0) → List Part → Type 0
OneOf P [] = ⊥
OneOf P (p ∷ ps) = P p ⊎ OneOf P ps

-- trees of one height: in an env, of a type below another
abbrev pub Trees : Type 1
Trees = List Bounds → Ty → Ty → Type 0

-- a part is proved by a tree of its question
abbrev pub PartProved : (Ty → Ty → Type 0) → Part → Type 0
PartProved tree Sure = Unit {0}
PartProved tree Never = ⊥
PartProved tree (Ask s t) = tree s t
PartProved tree (Same s t) = s ≡ t

-- a part is refuted by a refutation tree of its question, or where the two are not the same type
abbrev pub PartRefuted : (Ty → Ty → Type 0) → Part → Type 0
PartRefuted tree Sure = ⊥
PartRefuted tree Never = Unit {0}
PartRefuted tree (Ask s t) = tree s t
PartRefuted tree (Same s t) = s ≢ t

-- a question is proved by trees of all its parts, or of one of them
abbrev pub Proved : Trees → List Bounds → Question → Type 0
Proved tree env Holds = Unit {0}
Proved tree env Fails = ⊥
Proved tree env (Every fresh parts) = Each (PartProved (tree (env ++ fresh))) parts
Proved tree env (SomeOf parts) = OneOf (PartProved (tree env)) parts

-- and refuted the other way round
abbrev pub Refuted : Trees → List Bounds → Question → Type 0
Refuted tree env Holds = ⊥
Refuted tree env Fails = Unit {0}
Refuted tree env (Every fresh parts) = OneOf (PartRefuted (tree (env ++ fresh))) parts
Refuted tree env (SomeOf parts) = Each (PartRefuted (tree env)) parts

-- a proof tree of at most this height, of S below T
unfoldable pub Proof : Table → ℕ → List Bounds → Ty → Ty → Type 0
Proof T zero env s t = ⊥
Proof T (suc d) env s t = (s ≡ t) ⊎ Proved (Proof T d) env (question T env s t)

-- a refutation tree of at most this height
unfoldable pub Refute : Table → ℕ → List Bounds → Ty → Ty → Type 0
Refute T zero env s t = ⊥
Refute T (suc d) env s t = (s ≢ t) × Refuted (Refute T d) env (question T env s t)

-- the second argument contains the first, by a tree of at most this height where subtyping is asked
abbrev pub Contains : Table → ℕ → List Bounds → Arg → Arg → Type 0
Contains T d env a b = PartProved (Proof T d env) (contained a b)

-- the second argument doesn't contain the first, by a refutation tree of at most this height where subtyping is asked
abbrev pub Excludes : Table → ℕ → List Bounds → Arg → Arg → Type 0
Excludes T d env a b = PartRefuted (Refute T d env) (contained a b)

-- Yes exactly where there is a proof, and No exactly where there is a refutation
pub record Answers (P R : Type 0) (a : Answer) : Type 0 where
  pub yes : (a ≡ Yes) ↔ P
  pub no : (a ≡ No) ↔ R

-- the answer where both have to hold
abbrev pub both_deep : Answer → Answer
both_deep No = No
both_deep _ = Deep

abbrev pub both : Answer → Answer → Answer
both Yes b = b
both No b = No
both Deep b = both_deep b

-- the answer where one has to hold
abbrev pub either_deep : Answer → Answer
either_deep Yes = Yes
either_deep _ = Deep

abbrev pub either : Answer → Answer → Answer
either No b = b
either Yes b = Yes
either Deep b = either_deep b
