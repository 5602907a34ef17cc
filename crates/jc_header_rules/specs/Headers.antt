-- The stage of headers at methods: same signatures, overriding and hiding, thrown types, bodies (JLS 8.4, 9.4, 9.6.3.4).
use Rattle.std.specs.Prelude.{ℕ, nat_lt, ◌+◌, Bool, true, false, not, ◌&&◌, ◌||◌, List, [], ◌∷◌, ◌++◌, Option, Some, None}
use Rattle.jc_rules.specs.declared.rule.Place.{Place}
use Rattle.jc_rules.specs.declared.rule.Refusal.{Refusal}
use Rattle.jc_types.specs.declared.declarations.Access.{Access}
use Rattle.jc_types.specs.declared.declarations.Access.TheVariants as access
use Rattle.jc_types.specs.declared.declarations.MethodDecl.{MethodDecl}
use Rattle.jc_types.specs.declared.declarations.Modifiers.{Modifiers}
use Rattle.jc_types.specs.declared.declarations.TypePlaces.{TypePlaces}
use Rattle.jc_types.specs.declared.form.Ty.{Ty}
use Rattle.jc_types.specs.declared.ids.MethodId.{MethodId}
use Rattle.jc_types.specs.declared.table.Table.{Table}
use Rattle.jc_types.specs.Accessors.{method_modifiers_of}
use Rattle.jc_judge.specs.declared.question.Answer.{Answer}
use Rattle.jc_judge.specs.declared.question.Answer.TheVariants.{Yes, No, Deep}
use Rattle.jc_overriding.specs.declared.view.MethodView.{MethodView}
use Rattle.jc_overriding.specs.Overriding.{access_of, hides, is_above, is_inheritable, is_method, is_method_kind, overrides, owner, same_class, subsignature_of}
use Rattle.jc_overriding.specs.Signatures.{override_equivalent}
use Rattle.jc_overriding.specs.Viewing.{class_view, declared_view, is_static}
use Rattle.jc_header_rules.specs.Places.{broken_if, of_each, of_written}
use Rattle.jc_header_rules.specs.Results.{is_throwable, result_answer, thrown_class, thrown_fits}

-- ---- 503: two methods, or two constructors, of one class whose signatures are override-equivalent (JLS 8.4.2, 8.8.2)

-- n stands before m in the table, and both are of one class
abbrev pub is_before : Table → MethodId → MethodId → Bool
is_before T n m = nat_lt n.0 m.0 && same_class (owner T n) (owner T m)

-- both are methods, or neither is one
abbrev pub is_same_sort : Table → MethodId → MethodId → Bool
is_same_sort T n m = (is_method T n && is_method T m) || (not (is_method T n) && not (is_method T m))

-- an earlier n of m's class and sort has a signature that is override-equivalent to m's, as both are declared
abbrev pub repeats : Table → MethodId → MethodId → Bool
repeats T m n = is_before T n m && is_same_sort T n m && override_equivalent T (declared_view T m) (declared_view T n)

-- ---- what overriding and hiding ask (JLS 8.4.3.3, 8.4.8.1 to 8.4.8.3)

-- the modifiers of a method have `final`; a method that the table doesn't have isn't final
abbrev pub final_in : Option Modifiers → Bool
final_in (Some m) = m.is_final
final_in None = false

abbrev pub is_final : Table → MethodId → Bool
is_final T m = final_in (method_modifiers_of T m)

-- m overrides or hides n
abbrev pub replaces : Table → MethodId → MethodId → Bool
replaces T m n = overrides T m n || hides T m n

-- exactly one of the two is true
abbrev pub differ : Bool → Bool → Bool
differ true b = not b
differ false b = b

-- 505: one of them is static, and otherwise it would override or hide
abbrev pub statics_meet : Table → MethodId → MethodId → Bool
statics_meet T m n =
    is_method T m && is_method T n && differ (is_static T m) (is_static T n) && is_above T (owner T m) (owner T n) && is_inheritable T (owner T m) n
    && subsignature_of T (class_view T (owner T m) m) (class_view T (owner T m) n)

-- how much access is given, least by private (JLS 8.4.8.3)
abbrev pub openness : Access → ℕ
openness access.Public = 3
openness access.Protected = 2
openness access.Package = 1
openness access.Private = 0

abbrev pub is_weaker : Access → Access → Bool
is_weaker a b = nat_lt (openness a) (openness b)

-- whether the result of the first method may stand for that of the second, as views have them; Yes where a view is missing
abbrev pub answer_of_views : Table → Option MethodView → Option MethodView → Answer
answer_of_views T (Some a) (Some b) = result_answer T a b
answer_of_views T _ _ = Yes

-- whether m's result may stand for n's (JLS 8.4.5), as the class of m has both
abbrev pub result_answer_of : Table → MethodId → MethodId → Answer
result_answer_of T m n = answer_of_views T (class_view T (owner T m) m) (class_view T (owner T m) n)

-- m throws a checked exception that n's clause doesn't allow (JLS 8.4.8.3), as the class of m has both
abbrev pub views_throw : Table → Option MethodView → Option MethodView → Bool
views_throw T (Some a) (Some b) = not (thrown_fits T a b)
views_throw T _ _ = false

abbrev pub throws_more : Table → MethodId → MethodId → Bool
throws_more T m n = views_throw T (class_view T (owner T m) m) (class_view T (owner T m) n)

-- a result that doesn't fit breaks 507, and one of which that can't be told 512
abbrev pub result_broken : Answer → Place → List Refusal
result_broken Yes place = []
result_broken No place = broken_if true 507 place
result_broken Deep place = broken_if true 512 place

-- where m overrides or hides n: a final n breaks 504, weaker access 506, the result 507 or 512, thrown types 508
abbrev pub replacing_broken : Table → MethodId → MethodId → Place → Bool → List Refusal
replacing_broken T m n place false = []
replacing_broken T m n place true =
    broken_if (is_final T n) 504 place ++ broken_if (is_weaker (access_of T m) (access_of T n)) 506 place ++ result_broken (result_answer_of T m n) place
    ++ broken_if (throws_more T m n) 508 place

-- of method m, beside method n
abbrev pub pair_broken : Table → MethodId → Place → ℕ → MethodDecl → List Refusal
pair_broken T m place j d =
    let n : MethodId = record { 0 = j } in
    broken_if (repeats T m n) 503 place ++ broken_if (statics_meet T m n) 505 place ++ replacing_broken T m n place (replaces T m n)

-- ---- 510: `@Override` at a method that overrides none

-- m overrides one of these methods, counted from j
abbrev pub overrides_some : Table → MethodId → ℕ → List MethodDecl → Bool
overrides_some T m j [] = false
overrides_some T m j (d ∷ ds) = overrides T m (record { 0 = j }) || overrides_some T m (j + 1) ds

-- a method says `@Override` and overrides none of the table
abbrev pub says_wrongly : Table → MethodId → MethodDecl → Bool
says_wrongly T m d = d.modifiers.says_override && not (overrides_some T m 0 T.methods)

-- ---- 513: a thrown type that is no Throwable (JLS 8.4.6)

-- by the class of the thrown type's erasure, of a method as it is declared
abbrev pub thrown_broken : Table → MethodId → Ty → TypePlaces → List Refusal
thrown_broken T m t places = broken_if (not (is_throwable T (thrown_class T (declared_view T m) t))) 513 places.first

-- ---- 514: a method has a body unless it is abstract or native, and a constructor has one (JLS 8.4.7, 9.4)

-- whether a body has to be there; a declaration that differs from that breaks the rule
abbrev pub wants_body : MethodDecl → Bool
wants_body d = not (is_method_kind d.kind) || not (d.modifiers.is_abstract || d.modifiers.is_native)

-- ---- all of them

-- what method i breaks, beside each method of the table and by itself
abbrev pub method_breaks : Table → ℕ → MethodDecl → List Refusal
method_breaks T i d =
    let m : MethodId = record { 0 = i } in
    of_each (pair_broken T m d.place) 0 T.methods ++ broken_if (says_wrongly T m d) 510 d.place ++ of_written (thrown_broken T m) d.thrown.types d.thrown.places
    ++ broken_if (differ (wants_body d) d.has_body) 514 d.place
