-- Supertypes of one class, methods that override, and bodies.
use Rattle.std.proofs.Common.{◌≡◌, ◌⊎◌, ℕ, suc, ◌+◌, Bool, true, false, not, ◌&&◌, ◌||◌, if◌then◌else◌, inl, inr, List, [], ◌∷◌, ◌++◌, Option, Some, None, refl, sym, ap, ◌∙◌, arith}
use Rattle.std.proofs.Math.Numerals.{add-one}
use Rattle.std.specs.List.{list_any}
use Rattle.std.proofs.lemmas.Bool.{and_from, or_parts}
use Rattle.jc_rules.proofs.Truths.{self_equal}
use Rattle.jc_rules.specs.declared.rule.Place.{Place}
use Rattle.jc_rules.specs.declared.rule.Refusal.{Refusal}
use Rattle.jc_types.specs.declared.declarations.ClassDecl.{ClassDecl}
use Rattle.jc_types.specs.declared.declarations.MethodDecl.{MethodDecl}
use Rattle.jc_types.specs.declared.form.Ty.{Ty}
use Rattle.jc_types.specs.declared.ids.ClassId.{ClassId}
use Rattle.jc_types.specs.declared.ids.MethodId.{MethodId}
use Rattle.jc_types.specs.declared.table.Table.{Table}
use Rattle.jc_types.specs.Sameness.{same}
use Rattle.jc_types.proofs.Sameness.{same_told}
use Rattle.jc_judge.specs.declared.question.Answer.{Answer}
use Rattle.jc_judge.specs.declared.question.Answer.TheVariants.{Yes, No, Deep}
use Rattle.jc_judge.specs.Deciding.{answer_of}
use Rattle.jc_judge.specs.Kinds.{class_of, is_primitive}
use Rattle.jc_judge.specs.Views.{is_class}
use Rattle.jc_judge_laws.proofs.Decides.{answer_right}
use Rattle.jc_overriding.specs.declared.view.MethodView.{MethodView}
use Rattle.jc_overriding.specs.Overriding.{access_of, is_instance, owner, select, is_abstract}
use Rattle.jc_overriding.specs.Signatures.{adapted, erased_in}
use Rattle.jc_overriding.specs.Viewing.{class_view}
use Rattle.jc_header_rules.specs.Places.{broken_if, of_each, of_written}
use Rattle.jc_header_rules.specs.Clashes.{headers_breaks}
use Rattle.jc_header_rules.specs.Headers.{answer_of_views, differ, says_wrongly, thrown_broken, wants_body, is_final, is_weaker, method_breaks, pair_broken, repeats, replaces, replacing_broken, result_answer_of, result_broken, statics_meet, throws_more}
use Rattle.jc_header_rules.specs.Inheriting.{agreement_broken, agreements, all_members, all_above, class_breaks, conflicts, has_conflict, has_no_body, is_concrete, is_generic_throwable, is_left_open, is_member_above, is_none, is_of_class, is_overridden_above, leaves_open, members_disagree}
use Rattle.jc_header_rules.specs.Results.{answer_by, converts_unchecked, reference_answer, result_answer, yes_if}
use Rattle.jc_header_laws.specs.Facts.{AreOne, Fit, FindsBody, IsNumber, ReferenceFits, ResultFits, TypeFits}
use Rattle.jc_header_laws.proofs.Lists.{and_rest, each_unbroken, fore, none_is, not_broken, not_false, rear}

-- ---- at a class

-- the breaks at a class, in order
abbrev pub generic : Table → ClassId → ClassDecl → List Refusal
generic T k c = broken_if (is_generic_throwable T k) 501 c.place

abbrev pub conflicting : Table → ClassId → ClassDecl → List Refusal
conflicting T k c = broken_if (has_conflict (all_above T k)) 502 c.place

abbrev pub left_open : Table → ClassId → ClassDecl → List Refusal
left_open T k c = broken_if (is_concrete T k c && leaves_open T k 0 T.methods) 509 c.place

abbrev pub disagreeing : Table → ClassId → ClassDecl → List Refusal
disagreeing T k c = broken_if (members_disagree T k (all_members T k)) 511 c.place

abbrev pub unsettled : Table → ClassId → ClassDecl → List Refusal
unsettled T k c = agreement_broken (agreements T k (all_members T k) (all_members T k)) c.place

pub of_class : (T : Table) → headers_breaks T ≡ [] → (n : ℕ) (c : ClassDecl) → IsNumber 0 n c T.classes → class_breaks T n c ≡ []
of_class T e n c at = each_unbroken (class_breaks T) 0 n c T.classes (rear (of_each (method_breaks T) 0 T.methods) (of_each (class_breaks T) 0 T.classes) e) at

first_three : (T : Table) (k : ClassId) (n : ℕ) (c : ClassDecl) → ((((generic T k c ++ conflicting T k c) ++ left_open T k c) ++ disagreeing T k c) ++ unsettled T k c) ≡ [] → (generic T k c ++ conflicting T k c) ++ left_open T k c ≡ []
first_three T k n c e =
    fore ((generic T k c ++ conflicting T k c) ++ left_open T k c) (disagreeing T k c)
    (fore (((generic T k c ++ conflicting T k c) ++ left_open T k c) ++ disagreeing T k c) (unsettled T k c) e)

are_of_class : (s t : Ty) (l : ClassId) → class_of s ≡ Some l → class_of t ≡ Some l → is_of_class (class_of s) t ≡ true
are_of_class s t l h g = ap (λ o. is_of_class o t) h ∙ ap (is_class l) g ∙ self_equal l.0

pub are_one : (T : Table) → headers_breaks T ≡ [] → (n : ℕ) (c : ClassDecl) → IsNumber 0 n c T.classes → AreOne T (record { 0 = n })
are_one T e n c at s t l h g p q =
    let k : ClassId = record { 0 = n } in
    let above : List Ty = all_above T k in
    let three : (generic T k c ++ conflicting T k c) ++ left_open T k c ≡ [] = first_three T k n c (of_class T e n c at) in
    let none : has_conflict above ≡ false = not_broken (has_conflict above) 502 c.place (rear (generic T k c) (conflicting T k c) (fore (generic T k c ++ conflicting T k c) (left_open T k c) three)) in
    let pair : conflicts s t ≡ false = none_is (conflicts s) t above (none_is (λ x. list_any (conflicts x) above) s above none h) g in
    same_told s t (not_false (same s t) (and_rest (is_of_class (class_of s) t) (not (same s t)) (are_of_class s t l p q) pair))

and_first : (a b : Bool) → b ≡ true → a && b ≡ false → a ≡ false
and_first true b e f = sym e ∙ f
and_first false b e f = refl

some_of : {X : Type 0} (o : Option X) → is_none o ≡ false → (x : X) × (o ≡ Some x)
some_of None e = absurd cc
some_of (Some x) e = (x, refl)

not_left : (T : Table) (k : ClassId) (i m : ℕ) (d : MethodDecl) (ds : List MethodDecl) → leaves_open T k i ds ≡ false → IsNumber i m d ds → is_left_open T k (record { 0 = m }) ≡ false
not_left T k i m d [] e h = absurd h
not_left T k i m d (x ∷ ds) e (inl h) =
    ap (λ (j : ℕ). is_left_open T k (record { 0 = j })) h.0 ∙ (or_parts (is_left_open T k (record { 0 = i })) (leaves_open T k (i + 1) ds) e).0
not_left T k i m d (x ∷ ds) e (inr h) =
    not_left T k (suc i) m d ds (ap (λ j. leaves_open T k j ds) (sym (add-one i)) ∙ (or_parts (is_left_open T k (record { 0 = i })) (leaves_open T k (i + 1) ds) e).1) h

pub finds_body : (T : Table) → headers_breaks T ≡ [] → (n m : ℕ) (c : ClassDecl) (d : MethodDecl) → IsNumber 0 n c T.classes → IsNumber 0 m d T.methods → FindsBody T (record { 0 = n }) c (record { 0 = m })
finds_body T e n m c d at there concrete instance abstract member plain =
    let k : ClassId = record { 0 = n } in
    let i : MethodId = record { 0 = m } in
    let open_here : Bool = leaves_open T k 0 T.methods in
    let three : (generic T k c ++ conflicting T k c) ++ left_open T k c ≡ [] = first_three T k n c (of_class T e n c at) in
    let third : left_open T k c ≡ [] = rear (generic T k c ++ conflicting T k c) (left_open T k c) three in
    let none : open_here ≡ false = and_rest (is_concrete T k c) open_here concrete (not_broken (is_concrete T k c && open_here) 509 c.place third) in
    let closed : is_left_open T k i ≡ false = not_left T k 0 m d T.methods none there in
    let two : (is_instance T i && is_abstract T i) ≡ true = and_from (is_instance T i) (is_abstract T i) instance abstract in
    let three : (is_instance T i && is_abstract T i && is_member_above T k i) ≡ true = and_from (is_instance T i && is_abstract T i) (is_member_above T k i) two member in
    let bare : has_no_body T k i ≡ false = and_first (has_no_body T k i) (not (is_overridden_above T k i 0 T.methods)) (ap not plain) closed in
    let found : is_none (select T k i) ≡ false = and_rest (is_instance T i && is_abstract T i && is_member_above T k i) (is_none (select T k i)) three bare in
    some_of (select T k i) found

-- ---- at two methods

-- the breaks at a method behind those of its pairs
abbrev pub overriding_none : Table → MethodId → MethodDecl → List Refusal
overriding_none T m d = broken_if (says_wrongly T m d) 510 d.place

abbrev pub throwing_others : Table → MethodId → MethodDecl → List Refusal
throwing_others T m d = of_written (thrown_broken T m) d.thrown.types d.thrown.places

abbrev pub without_body : MethodDecl → List Refusal
without_body d = broken_if (differ (wants_body d) d.has_body) 514 d.place

-- those of a pair where the one replaces the other
abbrev finals : Table → MethodId → Place → List Refusal
finals T n place = broken_if (is_final T n) 504 place

abbrev weaker : Table → MethodId → MethodId → Place → List Refusal
weaker T m n place = broken_if (is_weaker (access_of T m) (access_of T n)) 506 place

abbrev resulting : Table → MethodId → MethodId → Place → List Refusal
resulting T m n place = result_broken (result_answer_of T m n) place

abbrev throwing : Table → MethodId → MethodId → Place → List Refusal
throwing T m n place = broken_if (throws_more T m n) 508 place

yes_of : (a : Answer) (place : Place) → result_broken a place ≡ [] → a ≡ Yes
yes_of Yes place e = refl
yes_of No place e = absurd cc
yes_of Deep place e = absurd cc

or_by : (x y : Bool) (a : Answer) → (if x || y then Yes else a) ≡ Yes → (x ≡ true) ⊎ ((y ≡ true) ⊎ (a ≡ Yes))
or_by true y a e = inl refl
or_by false true a e = inr (inl refl)
or_by false false a e = inr (inr e)

same_yes : (x : Bool) → yes_if x ≡ Yes → x ≡ true
same_yes true e = refl
same_yes false e = absurd cc

reference_fits : (T : Table) (a b : MethodView) (s t : Ty) → reference_answer T a b s t ≡ Yes → ReferenceFits T a b s t
reference_fits T a b s t e = by (or_by (same s (erased_in T b t)) (converts_unchecked T s (adapted a b t)) (answer_of T 64 [] s (adapted a b t)) e)
  where
    by : ((same s (erased_in T b t) ≡ true) ⊎ ((converts_unchecked T s (adapted a b t) ≡ true) ⊎ (answer_of T 64 [] s (adapted a b t) ≡ Yes))) → ReferenceFits T a b s t
    by (inl h) = inl (same_told s (erased_in T b t) h)
    by (inr (inl h)) = inr (inl h)
    by (inr (inr h)) = inr (inr ((answer_right T 64 [] s (adapted a b t)).yes.0 h))

type_fits : (T : Table) (a b : MethodView) (s t : Ty) (p : Bool) → (if p then yes_if (same s t) else reference_answer T a b s t) ≡ Yes → TypeFits T a b s t p
type_fits T a b s t true e = same_told s t (same_yes (same s t) e)
type_fits T a b s t false e = reference_fits T a b s t e

result_fits : (T : Table) (a b : MethodView) (s t : Option Ty) → answer_by T a b s t ≡ Yes → ResultFits T a b s t
result_fits T a b None None e = tt
result_fits T a b None (Some t) e = absurd cc
result_fits T a b (Some s) None e = absurd cc
result_fits T a b (Some s) (Some t) e = type_fits T a b s t (is_primitive s || is_primitive t) e

of_views : (T : Table) (x y : Option MethodView) (a b : MethodView) → answer_of_views T x y ≡ Yes → x ≡ Some a → y ≡ Some b → result_answer T a b ≡ Yes
of_views T x y a b e h g = ap (λ o. answer_of_views T o (Some b)) (sym h) ∙ ap (answer_of_views T x) (sym g) ∙ e

pub first_one : (a b c d : List Refusal) → ((a ++ b) ++ c) ++ d ≡ [] → a ≡ []
first_one a b c d e = fore a b (fore (a ++ b) c (fore ((a ++ b) ++ c) d e))

pub fit : (T : Table) → headers_breaks T ≡ [] → (m n : ℕ) (d e : MethodDecl) → IsNumber 0 m d T.methods → IsNumber 0 n e T.methods → Fit T (record { 0 = m }) (record { 0 = n })
fit T unbroken m n d e at there stands =
    let i : MethodId = record { 0 = m } in
    let j : MethodId = record { 0 = n } in
    let own : method_breaks T m d ≡ [] = each_unbroken (method_breaks T) 0 m d T.methods (fore (of_each (method_breaks T) 0 T.methods) (of_each (class_breaks T) 0 T.classes) unbroken) at in
    let pairs : of_each (pair_broken T i d.place) 0 T.methods ≡ [] = first_one (of_each (pair_broken T i d.place) 0 T.methods) (overriding_none T i d) (throwing_others T i d) (without_body d) own in
    let pair : pair_broken T i d.place n e ≡ [] = each_unbroken (pair_broken T i d.place) 0 n e T.methods pairs there in
    let both : replacing_broken T i j d.place (replaces T i j) ≡ [] =
    rear (broken_if (repeats T i j) 503 d.place ++ broken_if (statics_meet T i j) 505 d.place) (replacing_broken T i j d.place (replaces T i j)) pair in
    let all : replacing_broken T i j d.place true ≡ [] = ap (replacing_broken T i j d.place) (sym stands) ∙ both in
    let before : (finals T j d.place ++ weaker T i j d.place) ++ resulting T i j d.place ≡ [] =
    fore ((finals T j d.place ++ weaker T i j d.place) ++ resulting T i j d.place) (throwing T i j d.place) all in
    let two : finals T j d.place ++ weaker T i j d.place ≡ [] = fore (finals T j d.place ++ weaker T i j d.place) (resulting T i j d.place) before in
    let yes : result_answer_of T i j ≡ Yes = yes_of (result_answer_of T i j) d.place (rear (finals T j d.place ++ weaker T i j d.place) (resulting T i j d.place) before) in
    record {
      open_to_it = not_broken (is_final T j) 504 d.place (fore (finals T j d.place) (weaker T i j d.place) two);
      as_open = not_broken (is_weaker (access_of T i) (access_of T j)) 506 d.place (rear (finals T j d.place) (weaker T i j d.place) two);
      result = λ a b h g. result_fits T a b a.result b.result (of_views T (class_view T (owner T i) i) (class_view T (owner T i) j) a b yes h g);
      thrown = not_broken (throws_more T i j) 508 d.place (rear ((finals T j d.place ++ weaker T i j d.place) ++ resulting T i j d.place) (throwing T i j d.place) all);
    }
