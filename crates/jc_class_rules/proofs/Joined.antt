-- Answers that are joined one after the other.
use Rattle.std.proofs.Common.{◌≡◌, Bool, ◌&&◌, ◌||◌, List, [], ◌∷◌, refl, ap, ◌∙◌}
use Rattle.std.specs.List.{list_any}
use Rattle.jc_types.specs.declared.ids.ClassId.{ClassId}
use Rattle.jc_types.specs.declared.table.Table.{Table}
use Rattle.jc_judge.specs.declared.question.Answer.{Answer}
use Rattle.jc_judge.specs.declared.question.Answer.TheVariants.{Yes, No, Deep}
use Rattle.jc_judge.specs.Trees.{both, either}
use Rattle.jc_overriding.specs.declared.view.MethodView.{MethodView}
use Rattle.jc_header_rules.specs.Inheriting.{meets, meets_body, one_stands, stands_for_all, with_body}
use Rattle.jc_class_rules.specs.Grouping.{all_answers, all_from, meets_with_body, one_at, one_from, stands_at}

pub both_assoc : (a b c : Answer) → both (both a b) c ≡ both a (both b c)
both_assoc Yes b c = refl
both_assoc No b c = refl
both_assoc Deep Yes c = refl
both_assoc Deep No c = refl
both_assoc Deep Deep Yes = refl
both_assoc Deep Deep No = refl
both_assoc Deep Deep Deep = refl

pub both_comm : (a b : Answer) → both a b ≡ both b a
both_comm Yes Yes = refl
both_comm Yes No = refl
both_comm Yes Deep = refl
both_comm No Yes = refl
both_comm No No = refl
both_comm No Deep = refl
both_comm Deep Yes = refl
both_comm Deep No = refl
both_comm Deep Deep = refl

pub both_self : (a : Answer) → both a a ≡ a
both_self Yes = refl
both_self No = refl
both_self Deep = refl

both_yes : (a : Answer) → a ≡ both a Yes
both_yes Yes = refl
both_yes No = refl
both_yes Deep = refl

either_assoc : (a b c : Answer) → either (either a b) c ≡ either a (either b c)
either_assoc Yes b c = refl
either_assoc No b c = refl
either_assoc Deep Yes c = refl
either_assoc Deep No c = refl
either_assoc Deep Deep Yes = refl
either_assoc Deep Deep No = refl
either_assoc Deep Deep Deep = refl

either_no : (a : Answer) → a ≡ either a No
either_no Yes = refl
either_no No = refl
either_no Deep = refl

from_told : {X : Type 0} (f : X → Answer) (a : Answer) (xs : List X) → all_from f a xs ≡ both a (all_answers f xs)
from_told f a [] = both_yes a
from_told f a (x ∷ xs) = from_told f (both a (f x)) xs ∙ both_assoc a (f x) (all_answers f xs)

pub all_told : {X : Type 0} (f : X → Answer) (xs : List X) → all_from f Yes xs ≡ all_answers f xs
all_told f xs = from_told f Yes xs

stands_each : (T : Table) (k : ClassId) (v : MethodView) (ms : List MethodView) → all_answers (stands_at T k v) ms ≡ stands_for_all T k v ms
unfolding stands_at
stands_each T k v [] = refl
stands_each T k v (w ∷ ws) = ap (both (stands_at T k v w)) (stands_each T k v ws)

stands_told : (T : Table) (k : ClassId) (v : MethodView) (ms : List MethodView) → all_from (stands_at T k v) Yes ms ≡ stands_for_all T k v ms
stands_told T k v ms = all_told (stands_at T k v) ms ∙ stands_each T k v ms

one_each : (T : Table) (k : ClassId) (v : MethodView) (all : List MethodView) (a : Answer) (ms : List MethodView) → one_from (one_at T k v all) a ms ≡ either a (one_stands T k v all ms)
unfolding one_at
one_each T k v all a [] = either_no a
one_each T k v all a (w ∷ ws) = one_each T k v all (either a (one_at T k v all w)) ws ∙ either_assoc a (one_at T k v all w) (one_stands T k v all ws)

one_told : (T : Table) (k : ClassId) (v : MethodView) (all ms : List MethodView) → one_from (one_at T k v all) No ms ≡ one_stands T k v all ms
one_told T k v all ms = one_each T k v all No ms

body_each : (T : Table) (k : ClassId) (v : MethodView) (ms : List MethodView) → list_any (meets_with_body T k v) ms ≡ meets_body T k v ms
unfolding meets_with_body
body_each T k v [] = refl
body_each T k v (w ∷ ws) = ap (λ b. (meets T k v w && with_body T w) || b) (body_each T k v ws)

pub body_told : (T : Table) (k : ClassId) (v : MethodView) (ms : List MethodView) (b : Bool) → b ≡ list_any (meets_with_body T k v) ms → b ≡ meets_body T k v ms
body_told T k v ms b e = e ∙ body_each T k v ms

pub stands_joined : (T : Table) (k : ClassId) (v : MethodView) (ms : List MethodView) (a : Answer) → a ≡ all_from (stands_at T k v) Yes ms → a ≡ stands_for_all T k v ms
stands_joined T k v ms a e = e ∙ stands_told T k v ms

pub one_joined : (T : Table) (k : ClassId) (v : MethodView) (ms : List MethodView) (a : Answer) → a ≡ one_from (one_at T k v ms) No ms → a ≡ one_stands T k v ms ms
one_joined T k v ms a e = e ∙ one_told T k v ms ms
