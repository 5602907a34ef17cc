-- Answers, which are there only as long as nothing is broken.
use Rattle.std.proofs.Common.{◌≡◌, refl, List, [], ◌++◌, Option, Some, None}
use Rattle.std.proofs.lemmas.List.{append-nil}
use Rattle.jc_rules.specs.declared.rule.Refusal.{Refusal}
use Rattle.jc_stmts_spec.specs.Courses.{Answer}
use Rattle.jc_stmts_course.specs.Steps.{while_whole}

pub while_twice : (f : Option Refusal) (xs ys : List Answer) → while_whole f (while_whole f xs ++ ys) ≡ while_whole f (xs ++ ys)
while_twice None xs ys = refl
while_twice (Some b) xs ys = refl

pub while_none : (f : Option Refusal) (xs : List Answer) → while_whole f (while_whole f xs ++ []) ≡ while_whole f xs
while_none None xs = append-nil xs
while_none (Some b) xs = refl

pub while_later : (f g : Option Refusal) (xs ys : List Answer) → (g ≡ None → f ≡ None) → while_whole g (while_whole f xs ++ ys) ≡ while_whole g (xs ++ ys)
while_later f None xs ys h = rw (h refl) refl
while_later f (Some b) xs ys h = refl

pub ruleset answering = (while_twice, while_none)
