-- The stage of headers at classes: Throwable, one view of each class, methods left open, and inherited methods that agree (JLS 8.1.1.1, 8.1.2, 8.1.5, 8.4.8.4, 9.4.1).
use Rattle.std.specs.Prelude.{ℕ, zero, suc, ◌+◌, ◌==◌, Bool, true, false, not, cond, ◌&&◌, ◌||◌, List, [], ◌∷◌, ◌++◌, Option, Some, None}
use Rattle.std.specs.List.{list_any}
use Rattle.jc_rules.specs.declared.rule.Place.{Place}
use Rattle.jc_rules.specs.declared.rule.Refusal.{Refusal}
use Rattle.jc_types.specs.declared.declarations.ClassDecl.{ClassDecl}
use Rattle.jc_types.specs.declared.declarations.MethodDecl.{MethodDecl}
use Rattle.jc_types.specs.declared.form.Ty.{Ty}
use Rattle.jc_types.specs.declared.ids.ClassId.{ClassId}
use Rattle.jc_types.specs.declared.ids.MethodId.{MethodId}
use Rattle.jc_types.specs.declared.table.Table.{Table}
use Rattle.jc_types.specs.Accessors.{class_count, is_interface, vars_of}
use Rattle.jc_types.specs.Sameness.{same}
use Rattle.jc_judge.specs.declared.question.Answer.{Answer}
use Rattle.jc_judge.specs.declared.question.Answer.TheVariants.{Yes, No, Deep}
use Rattle.jc_judge.specs.Kinds.{class_of}
use Rattle.jc_judge.specs.Trees.{both, either}
use Rattle.jc_judge.specs.Views.{is_class, supers}
use Rattle.jc_overriding.specs.declared.view.MethodView.{MethodView}
use Rattle.jc_overriding.specs.Overriding.{access_of, candidates, is_above, is_abstract, is_inheritable, is_instance, overrides, owner, remaining, same_class, select}
use Rattle.jc_overriding.specs.Signatures.{override_equivalent}
use Rattle.jc_overriding.specs.Viewing.{is_static, own_type}
use Rattle.jc_header_rules.specs.Places.{broken_if}
use Rattle.jc_header_rules.specs.Headers.{is_weaker}
use Rattle.jc_header_rules.specs.Results.{has_parameters, is_throwable, result_answer, thrown_fits}

-- ---- 501: a generic class isn't below Throwable (JLS 8.1.2)

-- class k has type parameters, and is Throwable or below it
abbrev pub is_generic_throwable : Table → ClassId → Bool
is_generic_throwable T k = has_parameters (vars_of T k) && is_throwable T k

-- ---- 502: all supertypes of one class are the same type, raw ones included (JLS 8.1.5, 9.1.3)

-- each of these, with what lies above it
abbrev pub with_above : (Ty → List Ty) → List Ty → List Ty
with_above above [] = []
with_above above (t ∷ ts) = (t ∷ above t) ++ with_above above ts

-- the supertypes of a type, in at most n steps
unfoldable pub above_within : Table → ℕ → Ty → List Ty
above_within T zero t = []
above_within T (suc n) t = with_above (above_within T n) (supers T t)

-- all supertypes of the type that class k has inside of it; no way upwards is longer than there are classes
abbrev pub all_above : Table → ClassId → List Ty
all_above T k = above_within T (class_count T) (own_type T k)

-- a type is of this class; where there is no class none is
abbrev pub is_of_class : Option ClassId → Ty → Bool
is_of_class None t = false
is_of_class (Some k) t = is_class k (class_of t)

-- two types of one class that aren't the same
abbrev pub conflicts : Ty → Ty → Bool
conflicts s t = is_of_class (class_of s) t && not (same s t)

-- two of these types conflict
abbrev pub has_conflict : List Ty → Bool
has_conflict ts = list_any (λ s. list_any (conflicts s) ts) ts

-- ---- methods that a class inherits

-- the methods of a class, of any name, without overridden and hidden ones
abbrev pub all_members : Table → ClassId → List MethodView
all_members T k = remaining T (candidates T (λ m. true) (own_type T k))

-- ---- 509: a class that isn't abstract has a body for each abstract method that it declares or inherits (JLS 8.1.1.1, 8.4.8)

-- nothing is there
abbrev pub is_none : {X : Type 0} → Option X → Bool
is_none None = true
is_none (Some x) = false

-- class k declares method m, or may inherit it from a class above
abbrev pub is_member_above : Table → ClassId → MethodId → Bool
is_member_above T k m = same_class (owner T m) k || (is_above T k (owner T m) && is_inheritable T k m)

-- One of these methods, counted from i, that class k declares or may inherit from a class above, overrides method m, as its own class has both. So k doesn't
-- inherit m, not even where k has that class raw, so that their signatures no longer agree in k (JLS 8.4.8, 9.4.1)
abbrev pub is_overridden_above : Table → ClassId → MethodId → ℕ → List MethodDecl → Bool
is_overridden_above T k m i [] = false
is_overridden_above T k m i (d ∷ ds) =
    (is_member_above T k (record { 0 = i }) && overrides T (record { 0 = i }) m) || is_overridden_above T k m (i + 1) ds

-- an abstract instance method that class k declares or may inherit, and no body that k has stands for it
abbrev pub has_no_body : Table → ClassId → MethodId → Bool
has_no_body T k m = is_instance T m && is_abstract T m && is_member_above T k m && is_none (select T k m)

-- .. and no other method that k has overrides it
abbrev pub is_left_open : Table → ClassId → MethodId → Bool
is_left_open T k m = has_no_body T k m && not (is_overridden_above T k m 0 T.methods)

-- one of these methods, counted from i, is left open
abbrev pub leaves_open : Table → ClassId → ℕ → List MethodDecl → Bool
leaves_open T k i [] = false
leaves_open T k i (d ∷ ds) = is_left_open T k (record { 0 = i }) || leaves_open T k (i + 1) ds

-- neither declared abstract nor an interface
abbrev pub is_concrete : Table → ClassId → ClassDecl → Bool
is_concrete T k c = not c.modifiers.is_abstract && not (is_interface T k)

-- ---- 511: inherited methods of override-equivalent signatures (JLS 8.4.8.4, 9.4.1)

-- an inherited member beside another one
abbrev pub meets : Table → ClassId → MethodView → MethodView → Bool
meets T k v w =
    not (v.id.0 == w.id.0) && not (same_class (owner T v.id) k) && not (same_class (owner T w.id) k) && override_equivalent T v w

-- a method that isn't abstract; a native one counts as having a body
abbrev pub with_body : Table → MethodView → Bool
with_body T v = not (is_abstract T v.id)

-- two of them with bodies, or one that is static beside another
abbrev pub bodies_meet : Table → MethodView → MethodView → Bool
bodies_meet T v w = with_body T v && (with_body T w || is_static T v.id)

-- a body stands for the abstract method beside it: it isn't less open, and throws no more
abbrev pub fits_badly : Table → MethodView → MethodView → Bool
fits_badly T v w = with_body T v && not (with_body T w) && (is_weaker (access_of T v.id) (access_of T w.id) || not (thrown_fits T v w))

-- in one of these two ways
abbrev pub disagrees : Table → MethodView → MethodView → Bool
disagrees T v w = bodies_meet T v w || fits_badly T v w

-- some two of these members meet and disagree
abbrev pub members_disagree : Table → ClassId → List MethodView → Bool
members_disagree T k ms = list_any (λ v. list_any (λ w. meets T k v w && disagrees T v w) ms) ms

-- whether v's result may stand for those of all that it meets, itself included
abbrev pub stands_for_all : Table → ClassId → MethodView → List MethodView → Answer
stands_for_all T k v [] = Yes
stands_for_all T k v (w ∷ ws) = both (cond (meets T k v w) (result_answer T v w) Yes) (stands_for_all T k v ws)

-- a body's result stands for those of all that it meets; of abstract methods alone one has such a result
abbrev pub one_stands : Table → ClassId → MethodView → List MethodView → List MethodView → Answer
one_stands T k v all [] = No
one_stands T k v all (w ∷ ws) = either (cond (meets T k v w) (stands_for_all T k w all) No) (one_stands T k v all ws)

-- v meets a member that has a body
abbrev pub meets_body : Table → ClassId → MethodView → List MethodView → Bool
meets_body T k v ms = list_any (λ w. meets T k v w && with_body T w) ms

-- an abstract member that meets a body asks nothing; of others v's result stands for all that v meets, or, if abstract, that of one of these
abbrev pub agreement : Table → ClassId → List MethodView → MethodView → Answer
agreement T k ms v =
    cond (with_body T v) (stands_for_all T k v ms) (cond (meets_body T k v ms) Yes (either (stands_for_all T k v ms) (one_stands T k v ms ms)))

-- whether each of these agrees with all
abbrev pub agreements : Table → ClassId → List MethodView → List MethodView → Answer
agreements T k all [] = Yes
agreements T k all (v ∷ vs) = both (agreement T k all v) (agreements T k all vs)

-- results of which none stands for all break 511, and where that can't be told 512
abbrev pub agreement_broken : Answer → Place → List Refusal
agreement_broken Yes place = []
agreement_broken No place = broken_if true 511 place
agreement_broken Deep place = broken_if true 512 place

-- ---- all of them

-- what class i breaks, each at the class's own place
abbrev pub class_breaks : Table → ℕ → ClassDecl → List Refusal
class_breaks T i c =
    let k : ClassId = record { 0 = i } in
    broken_if (is_generic_throwable T k) 501 c.place ++ broken_if (has_conflict (all_above T k)) 502 c.place
    ++ broken_if (is_concrete T k c && leaves_open T k 0 T.methods) 509 c.place ++ broken_if (members_disagree T k (all_members T k)) 511 c.place
    ++ agreement_broken (agreements T k (all_members T k) (all_members T k)) c.place
