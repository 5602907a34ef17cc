-- The stage of clashes: methods of one erasure of which neither overrides the other (JLS 8.4.8.3); and the breaks of the three stages of headers.
use Rattle.std.specs.Prelude.{ℕ, zero, suc, ◌+◌, ◌==◌, nat_lt, Bool, true, false, not, ◌&&◌, ◌||◌, List, [], ◌∷◌, ◌++◌, map, length, Option, Some, None, if◌then◌else◌}
use Rattle.std.specs.List.{list_any}
use Rattle.std.specs.Str.{bytes_eq}
use Rattle.jc_rules.specs.declared.rule.Place.{Place}
use Rattle.jc_rules.specs.declared.rule.Refusal.{Refusal}
use Rattle.jc_types.specs.declared.declarations.ClassDecl.{ClassDecl}
use Rattle.jc_types.specs.declared.declarations.MethodDecl.{MethodDecl}
use Rattle.jc_types.specs.declared.form.Ty.{Ty}
use Rattle.jc_types.specs.declared.ids.ClassId.{ClassId}
use Rattle.jc_types.specs.declared.ids.MethodId.{MethodId}
use Rattle.jc_types.specs.declared.table.Table.{Table}
use Rattle.jc_types.specs.Accessors.{method_name_of, method_place_of, params_of}
use Rattle.jc_overriding.specs.declared.view.MethodView.{MethodView}
use Rattle.jc_overriding.specs.Overriding.{candidates, owner, remaining, same_class}
use Rattle.jc_overriding.specs.Signatures.{same_all, subsignature}
use Rattle.jc_overriding.specs.Viewing.{own_type, plain}
use Rattle.jc_header_rules.specs.Places.{broken_if, of_each}
use Rattle.jc_header_rules.specs.Headers.{method_breaks, replaces}
use Rattle.jc_header_rules.specs.Inheriting.{class_breaks, with_body}

-- ---- what a method overrides or hides, directly or indirectly (JLS 8.4.8.1, 8.4.8.2, 9.4.1)

-- of these methods, counted from i, one of which a test holds overrides or hides method p
abbrev pub is_replaced_by_some : Table → (MethodId → Bool) → MethodId → ℕ → List MethodDecl → Bool
is_replaced_by_some T holds p i [] = false
is_replaced_by_some T holds p i (d ∷ ds) =
    (holds (record { 0 = i }) && replaces T (record { 0 = i }) p) || is_replaced_by_some T holds p (i + 1) ds

-- in at most n steps, each of overriding or hiding outright, method p is reached from method m
unfoldable pub reaches_within : Table → ℕ → MethodId → MethodId → Bool
reaches_within T zero m p = m.0 == p.0
reaches_within T (suc n) m p = (m.0 == p.0) || is_replaced_by_some T (reaches_within T n m) p 0 T.methods

-- p is m, or m overrides or hides it, directly or indirectly. No way needs more steps than there are methods
abbrev pub reaches : Table → MethodId → MethodId → Bool
reaches T m p = reaches_within T (length T.methods) m p

-- ---- the erasures of a method's parameters, and of those that it overrides or hides (JLS 4.6, 8.4.8.3)

-- the erasures of a method's parameters as it is declared, in their order
abbrev pub erased_params : Table → MethodId → List Ty
erased_params T m = map (plain T) (params_of T m)

-- one of these methods, counted from j, that n reaches has the erased parameters of m
abbrev pub share_erasure : Table → MethodId → MethodId → ℕ → List MethodDecl → Bool
share_erasure T m n j [] = false
share_erasure T m n j (d ∷ ds) =
    (reaches T n (record { 0 = j }) && same_all (erased_params T m) (erased_params T (record { 0 = j }))) || share_erasure T m n (j + 1) ds

-- m, or a method that it overrides or hides, has the erasure of n, or of one that n overrides or hides
abbrev pub erasures_meet : Table → MethodId → MethodId → ℕ → List MethodDecl → Bool
erasures_meet T m n i [] = false
erasures_meet T m n i (d ∷ ds) =
    (reaches T m (record { 0 = i }) && share_erasure T (record { 0 = i }) n 0 T.methods) || erasures_meet T m n (i + 1) ds

-- ---- 801

-- what a class declares or may inherit, overridden or not
abbrev pub all_methods : Table → ClassId → List MethodView
all_methods T k = candidates T (λ m. true) (own_type T k)

-- method m is one of these
abbrev pub is_among : MethodId → List MethodView → Bool
is_among m vs = list_any (λ (v : MethodView). v.id.0 == m.0) vs

-- of two inherited members w stands in v's place: its signature is a subsignature of v's, where v has no body or w has one
abbrev pub is_settled : Table → ClassId → List MethodView → MethodView → MethodView → Bool
is_settled T k members v w =
    not (same_class (owner T v.id) k) && is_among w.id members && subsignature T w v && (not (with_body T v) || with_body T w)

-- member v of class k clashes with method w of k or of a supertype
abbrev pub clashes : Table → ClassId → List MethodView → MethodView → MethodView → Bool
clashes T k members v w =
    not (v.id.0 == w.id.0) && bytes_eq (method_name_of T v.id) (method_name_of T w.id) && not (subsignature T v w) && not (is_settled T k members v w)
    && erasures_meet T v.id w.id 0 T.methods

-- the second place, or the first where there is none
abbrev pub place_or : Place → Option Place → Place
place_or place None = place
place_or place (Some p) = p

-- the first of these methods, counted from i, that class k declares and that overrides or hides method n
abbrev pub own_replacing : Table → ClassId → MethodId → ℕ → List MethodDecl → Option MethodId
own_replacing T k n i [] = None
own_replacing T k n i (d ∷ ds) =
    if same_class (owner T (record { 0 = i })) k && replaces T (record { 0 = i }) n then Some (record { 0 = i }) else own_replacing T k n (i + 1) ds

-- the place of a method, or this one where there is none
abbrev pub place_of_some : Table → Place → Option MethodId → Place
place_of_some T place None = place
place_of_some T place (Some d) = place_or place (method_place_of T d)

-- the place at which class k's clash of m and n is told: that of the method that k declares, of two the later one; and `other` where k declares neither. `place`
-- is that of the class
abbrev pub clash_place_or : Table → ClassId → Place → MethodId → MethodId → Place → Place
clash_place_or T k place m n other = by (same_class (owner T m) k) (same_class (owner T n) k)
  where
    later : Bool → Place
    later true = place_or place (method_place_of T n)
    later false = place_or place (method_place_of T m)

    by : Bool → Bool → Place
    by true true = later (nat_lt m.0 n.0)
    by true false = place_or place (method_place_of T m)
    by false true = place_or place (method_place_of T n)
    by false false = other

-- .. of a clash of member m with n: where k declares neither, at a method of k that overrides or hides n, and at the class only where k inherits both
abbrev pub clash_place : Table → ClassId → Place → MethodId → MethodId → Place
clash_place T k place m n = clash_place_or T k place m n (place_of_some T place (own_replacing T k n 0 T.methods))

-- a broken rule for each of these methods that member v clashes with
abbrev pub pairs_broken : Table → ClassId → Place → List MethodView → MethodView → List MethodView → List Refusal
pairs_broken T k place members v [] = []
pairs_broken T k place members v (w ∷ ws) =
    broken_if (clashes T k members v w) 801 (clash_place T k place v.id w.id) ++ pairs_broken T k place members v ws

-- .. for each of these members, beside all methods that the class has
abbrev pub members_broken : Table → ClassId → Place → List MethodView → List MethodView → List MethodView → List Refusal
members_broken T k place all members [] = []
members_broken T k place all members (v ∷ vs) = pairs_broken T k place members v all ++ members_broken T k place all members vs

-- the clashes in class i: its members beside all that it declares or may inherit
abbrev pub clashes_in : Table → ℕ → ClassDecl → List Refusal
clashes_in T i c =
    let k : ClassId = record { 0 = i } in
    members_broken T k c.place (all_methods T k) (remaining T (all_methods T k)) (remaining T (all_methods T k))

-- ---- the stages

-- the broken rules of the stage of headers, and of that of clashes
abbrev pub headers_breaks : Table → List Refusal
headers_breaks T = of_each (method_breaks T) 0 T.methods ++ of_each (class_breaks T) 0 T.classes

abbrev pub clashes_breaks : Table → List Refusal
clashes_breaks T = of_each (clashes_in T) 0 T.classes
