-- Bodies of methods that are members of one class.
use Rattle.std.proofs.Common.{◌≡◌, ◌⊎◌, ℕ, suc, ◌==◌, nat_lt, Bool, true, false, not, ◌&&◌, ◌||◌, cond, inl, inr, List, [], ◌∷◌, ◌++◌, Option, Some, None, refl, sym, ap, ◌∙◌, arith}
use Rattle.std.proofs.lemmas.Bool.Decides.{nat_tests}
use Rattle.std.specs.List.{list_any}
use Rattle.std.proofs.lemmas.Bool.{or_left, true≢false}
use Rattle.jc_rules.proofs.Truths.{self_equal, and_first}
use Rattle.jc_types.specs.declared.declarations.ClassDecl.{ClassDecl}
use Rattle.jc_types.specs.declared.declarations.MethodDecl.{MethodDecl}
use Rattle.jc_types.specs.declared.ids.ClassId.{ClassId}
use Rattle.jc_types.specs.declared.ids.MethodId.{MethodId}
use Rattle.jc_types.specs.declared.table.Table.{Table}
use Rattle.jc_overriding.specs.declared.view.MethodView.{MethodView}
use Rattle.jc_overriding.specs.Overriding.{candidates_from, inherits_in, is_candidate, is_inheritable, is_instance, is_member_of, is_method, is_own, owner, replaced, same_class, stands_for, subsignature_of, with_view, without_replaced, is_abstract}
use Rattle.jc_overriding.specs.Signatures.{override_equivalent, subsignature}
use Rattle.jc_overriding.specs.Viewing.{class_view, declared_view, is_static, own_type}
use Rattle.jc_judge.specs.Kinds.{class_of}
use Rattle.jc_header_rules.specs.Checked.{IsAmong}
use Rattle.jc_header_rules.specs.Clashes.{all_methods, headers_breaks}
use Rattle.jc_header_rules.specs.Headers.{is_same_sort, method_breaks, pair_broken, repeats, replaces, replacing_broken, statics_meet}
use Rattle.jc_header_rules.specs.Inheriting.{all_members, class_breaks, disagrees, fits_badly, meets, members_disagree}
use Rattle.jc_header_rules.specs.Places.{broken_if, of_each}
use Rattle.jc_header_laws.specs.Facts.{HasNoParameters, IsNumber, IsOwnOrMember, OneBody, OneDeclaration, OneSelected}
use Rattle.jc_header_laws.proofs.Fitting.{conflicting, disagreeing, generic, left_open, of_class, overriding_none, throwing_others, unsettled, without_body, first_one}
use Rattle.jc_header_laws.proofs.Lists.{each_unbroken, fore, none_is, not_broken, rear}
use Rattle.jc_header_laws.proofs.Owned.{declared_here}
use Rattle.jc_header_laws.proofs.Standing.{equivalent, no_bounds}
use Rattle.jc_members.proofs.Remaining.{id_of_view as id_of}

-- ---- tests

swapped : (a b : Bool) → (a || b) ≡ true → (b || a) ≡ true
swapped true true e = refl
swapped true false e = refl
swapped false true e = refl
swapped false false e = cc

same_turned : (a b : ℕ) → (a == b) ≡ true → (b == a) ≡ true
same_turned a b e = grind (arith, nat_tests)

method_same : (m n : MethodId) → m.0 ≡ n.0 → m ≡ n
method_same m n e = ap (λ (i : ℕ). let r : MethodId = record { 0 = i } in r) e

class_same : (k l : ClassId) → same_class k l ≡ true → k ≡ l
class_same k l e = ap (λ (i : ℕ). let r : ClassId = record { 0 = i } in r) (let is : k.0 ≡ l.0 = grind (arith, nat_tests) in is)

both_sorts : (a b : Bool) → ((a && b) || (not a && not b)) ≡ true → ((b && a) || (not b && not a)) ≡ true
both_sorts true true e = refl
both_sorts true false e = cc
both_sorts false true e = cc
both_sorts false false e = refl

all_three : (a b c d : Bool) → a ≡ true → b ≡ true → c ≡ true → d ≡ true → (a && b && c && d) ≡ false → ⊥
all_three true true true true e f g h is = cc
all_three true true true false e f g h is = cc
all_three true true false d e f g h is = cc
all_three true false c d e f g h is = cc
all_three false b c d e f g h is = cc

-- ---- two declarations of one class

module _ (T : Table) (unbroken : headers_breaks T ≡ []) where
  not_repeated : (m n : ℕ) (d e : MethodDecl) → IsNumber 0 m d T.methods → IsNumber 0 n e T.methods → repeats T (record { 0 = m }) (record { 0 = n }) ≡ false
  not_repeated m n d e at there =
      let i : MethodId = record { 0 = m } in
      let j : MethodId = record { 0 = n } in
      let own : method_breaks T m d ≡ [] = each_unbroken (method_breaks T) 0 m d T.methods (fore (of_each (method_breaks T) 0 T.methods) (of_each (class_breaks T) 0 T.classes) unbroken) at in
      let pairs : of_each (pair_broken T i d.place) 0 T.methods ≡ [] = first_one (of_each (pair_broken T i d.place) 0 T.methods) (overriding_none T i d) (throwing_others T i d) (without_body d) own in
      let pair : pair_broken T i d.place n e ≡ [] = each_unbroken (pair_broken T i d.place) 0 n e T.methods pairs there in
      not_broken (repeats T i j) 503 d.place
      (fore (broken_if (repeats T i j) 503 d.place) (broken_if (statics_meet T i j) 505 d.place)
      (fore (broken_if (repeats T i j) 503 d.place ++ broken_if (statics_meet T i j) 505 d.place) (replacing_broken T i j d.place (replaces T i j)) pair))

  pub one_declaration : (m n : ℕ) (d e : MethodDecl) → IsNumber 0 m d T.methods → IsNumber 0 n e T.methods → OneDeclaration T (record { 0 = m }) (record { 0 = n })
  one_declaration m n d e at there sort owned equivalent = by (nat_lt m n) (nat_lt n m) refl refl
    where
      i : MethodId
      i = record { 0 = m }

      j : MethodId
      j = record { 0 = n }

      by : (a b : Bool) → nat_lt m n ≡ a → nat_lt n m ≡ b → i ≡ j
      by true b g h =
          absurd
          (all_three (nat_lt m n) (same_class (owner T i) (owner T j)) (is_same_sort T i j) (override_equivalent T (declared_view T j) (declared_view T i)) g owned sort
          (swapped (subsignature T (declared_view T i) (declared_view T j)) (subsignature T (declared_view T j) (declared_view T i)) equivalent) (not_repeated n m e d there at))
      by false true g h =
          absurd
          (all_three (nat_lt n m) (same_class (owner T j) (owner T i)) (is_same_sort T j i) (override_equivalent T (declared_view T i) (declared_view T j)) h (same_turned (owner T i).0 (owner T j).0 owned)
          (both_sorts (is_method T i) (is_method T j) sort) equivalent (not_repeated m n d e at there))
      by false false g h = method_same i j (let is : m ≡ n = grind (arith, nat_tests) in is)

-- ---- members

among_either : {X : Type 0} (x : X) (xs ys : List X) → IsAmong x (xs ++ ys) → IsAmong x xs ⊎ IsAmong x ys
among_either x [] ys h = inr h
among_either x (y ∷ xs) ys (inl e) = inl (inl e)
among_either x (y ∷ xs) ys (inr h) = by (among_either x xs ys h)
  where
    by : IsAmong x xs ⊎ IsAmong x ys → IsAmong x (y ∷ xs) ⊎ IsAmong x ys
    by (inl h) = inl (inr h)
    by (inr h) = inr h

module _ (T : Table) (k : ClassId) where
  -- a method as the class has it
  pub record Has (i : ℕ) (ds : List MethodDecl) (v : MethodView) : Type 0 where
    pub declaration : MethodDecl
    pub number : IsNumber i v.id.0 declaration ds
    pub view : class_view T k v.id ≡ Some v
    pub candidate : is_candidate T (own_type T k) v.id ≡ true

  with_in : (m : MethodId) (o : Option MethodView) (v : MethodView) → IsAmong v (with_view T (λ _. true) (own_type T k) m o) → (o ≡ Some v) × (is_candidate T (own_type T k) m ≡ true)
  with_in m None v h = absurd h
  with_in m (Some w) v h = by (is_candidate T (own_type T k) m) refl h
    where
      by : (c : Bool) → is_candidate T (own_type T k) m ≡ c → IsAmong v (cond c (w ∷ []) []) → (Some w ≡ Some v) × (is_candidate T (own_type T k) m ≡ true)
      by true f (inl e) = (ap Some (sym e), f)
      by true f (inr h) = absurd h
      by false f h = absurd h

  has_from : (i : ℕ) (ds : List MethodDecl) (v : MethodView) → IsAmong v (candidates_from T (λ _. true) (own_type T k) i ds) → Has i ds v
  has_from i [] v h = absurd h
  has_from i (d ∷ ds) v h =
      by (among_either v (with_view T (λ _. true) (own_type T k) (record { 0 = i }) (class_view T k (record { 0 = i }))) (candidates_from T (λ _. true) (own_type T k) (suc i) ds) h) (λ h. has_from (suc i) ds v h)
    where
      by : IsAmong v (with_view T (λ _. true) (own_type T k) (record { 0 = i }) (class_view T k (record { 0 = i }))) ⊎ IsAmong v (candidates_from T (λ _. true) (own_type T k) (suc i) ds)
          → (IsAmong v (candidates_from T (λ _. true) (own_type T k) (suc i) ds) → Has (suc i) ds v) → Has i (d ∷ ds) v
      by (inl h) g =
          let p = with_in (record { 0 = i }) (class_view T k (record { 0 = i })) v h in
          let same : v.id ≡ record { 0 = i } = id_of T (own_type T k) (record { 0 = i }) v p.0 in
          record {
            declaration = d;
            number = inl (ap (λ (n : MethodId). n.0) same, refl);
            view = ap (class_view T k) same ∙ p.0;
            candidate = ap (is_candidate T (own_type T k)) same ∙ p.1;
          }
      by (inr h) g = let rest = g h in record { declaration = rest.declaration; number = inr rest.number; view = rest.view; candidate = rest.candidate }

  among_remaining : (all vs : List MethodView) (v : MethodView) → IsAmong v (without_replaced T all vs) → IsAmong v vs
  among_remaining all [] v h = absurd h
  among_remaining all (w ∷ ws) v h = by (replaced T w all) (among_either v (cond (replaced T w all) [] (w ∷ [])) (without_replaced T all ws) h) (λ h. among_remaining all ws v h)
    where
      by : (b : Bool) → IsAmong v (cond b [] (w ∷ [])) ⊎ IsAmong v (without_replaced T all ws) → (IsAmong v (without_replaced T all ws) → IsAmong v ws) → IsAmong v (w ∷ ws)
      by true (inl h) g = absurd h
      by false (inl (inl e)) g = inl e
      by false (inl (inr h)) g = absurd h
      by b (inr h) g = inr (g h)

  pub has : (v : MethodView) → IsOwnOrMember T k v → Has 0 T.methods v
  has v (inl h) = has_from 0 T.methods v h.0
  has v (inr h) = has_from 0 T.methods v (among_remaining (all_methods T k) (all_methods T k) v h)

  not_own : (v : MethodView) → same_class (owner T v.id) k ≡ false → IsOwnOrMember T k v → IsAmong v (all_members T k)
  not_own v e (inl h) = absurd (let no : true ≡ false = sym h.1 ∙ e in true≢false no)
  not_own v e (inr h) = h

-- ---- of one class

one_sort : (a b : Bool) → a ≡ true → b ≡ true → ((a && b) || (not a && not b)) ≡ true
one_sort true true e f = refl
one_sort true false e f = cc
one_sort false b e f = cc

-- of two inherited ones: they are one, or they disagree
met : (same here there equal body other static rest : Bool) → here ≡ false → there ≡ false → equal ≡ true → body ≡ false → other ≡ false
    → ((not same && not here && not there && equal) && ((not body && (not other || static)) || rest)) ≡ false → same ≡ true
met true here there equal body other static rest a b c d e is = refl
met false false false true false false static rest a b c d e is = cc
met false true there equal body other static rest a b c d e is = cc
met false here true equal body other static rest a b c d e is = cc
met false here there false body other static rest a b c d e is = cc
met false here there equal true other static rest a b c d e is = cc
met false here there equal body true static rest a b c d e is = cc

module _ (T : Table) (unbroken : headers_breaks T ≡ []) where
  inherited : (n : ℕ) (c : ClassDecl) → IsNumber 0 n c T.classes → (v w : MethodView) → IsAmong v (all_members T (record { 0 = n })) → IsAmong w (all_members T (record { 0 = n }))
      → (meets T (record { 0 = n }) v w && disagrees T v w) ≡ false
  inherited n c at v w h g =
      let k : ClassId = record { 0 = n } in
      let ms : List MethodView = all_members T k in
      let own : class_breaks T n c ≡ [] = of_class T unbroken n c at in
      let four : ((generic T k c ++ conflicting T k c) ++ left_open T k c) ++ disagreeing T k c ≡ [] = fore (((generic T k c ++ conflicting T k c) ++ left_open T k c) ++ disagreeing T k c) (unsettled T k c) own in
      let none : members_disagree T k ms ≡ false = not_broken (members_disagree T k ms) 511 c.place (rear ((generic T k c ++ conflicting T k c) ++ left_open T k c) (disagreeing T k c) four) in
      none_is (λ x. meets T k v x && disagrees T v x) w ms (none_is (λ x. list_any (λ y. meets T k x y && disagrees T x y) ms) v ms none h) g

  pub one_body : (n : ℕ) (c : ClassDecl) → IsNumber 0 n c T.classes → OneBody T (record { 0 = n })
  one_body n c at v w h g alike body other equivalent = by (same_class (owner T v.id) k) refl
    where
      k : ClassId
      k = record { 0 = n }

      by : (b : Bool) → same_class (owner T v.id) k ≡ b → v.id ≡ w.id
      by false f =
          method_same v.id w.id
          (let is : (v.id.0 == w.id.0) ≡ true = met (v.id.0 == w.id.0) (same_class (owner T v.id) k) (same_class (owner T w.id) k) (override_equivalent T v w) (is_abstract T v.id) (is_abstract T w.id) (is_static T v.id) (fits_badly T v w)
          f (sym alike ∙ f) equivalent body other (inherited n c at v w (not_own T k v f h) (not_own T k w (sym alike ∙ f) g)) in
          let one : v.id.0 ≡ w.id.0 = grind (arith, nat_tests) in
          one)
      by true f =
          let mine : Has T k 0 T.methods v = has T k v h in
          let theirs : Has T k 0 T.methods w = has T k w g in
          let here : owner T v.id ≡ k = class_same (owner T v.id) k f in
          let there : owner T w.id ≡ k = class_same (owner T w.id) k (sym alike ∙ f) in
          let one : v ≡ declared_view T v.id = declared_here T k v.id v here mine.view in
          let two : w ≡ declared_view T w.id = declared_here T k w.id w there theirs.view in
          one_declaration T unbroken v.id.0 w.id.0 mine.declaration theirs.declaration mine.number theirs.number
          (one_sort (is_method T v.id) (is_method T w.id) (and_first (is_method T v.id) (is_own T (own_type T k) v.id || inherits_in T (class_of (own_type T k)) v.id) mine.candidate)
          (and_first (is_method T w.id) (is_own T (own_type T k) w.id || inherits_in T (class_of (own_type T k)) w.id) theirs.candidate))
          (ap (λ (l : ClassId). same_class l (owner T w.id)) here ∙ ap (same_class k) there ∙ self_equal n)
          (ap (λ x. override_equivalent T x (declared_view T w.id)) (sym one) ∙ ap (override_equivalent T v) (sym two) ∙ equivalent)

-- ---- for one method

-- which of two methods that stand for one it is, or that both have its signature
standing : (same other rest : Bool) → (same || (other && rest)) ≡ true → (same ≡ true) ⊎ (rest ≡ true)
standing true other rest e = inl refl
standing false true rest e = inr e
standing false false rest e = cc

module _ (T : Table) (k : ClassId) where
  signed : (m : MethodId) (v w : MethodView) → class_view T k v.id ≡ Some v → class_view T k m ≡ Some w → subsignature_of T (class_view T k v.id) (class_view T k m) ≡ true → subsignature T v w ≡ true
  signed m v w e f h = ap (λ o. subsignature_of T o (Some w)) (sym e) ∙ ap (subsignature_of T (class_view T k v.id)) (sym f) ∙ h

  stood : (m : MethodId) (v : MethodView) → stands_for T k v.id m ≡ true → (v.id ≡ m) ⊎ (subsignature_of T (class_view T k v.id) (class_view T k m) ≡ true)
  stood m v e = by (standing (v.id.0 == m.0) (is_instance T v.id && is_instance T m && is_member_of T k v.id && is_inheritable T (owner T v.id) m) (subsignature_of T (class_view T k v.id) (class_view T k m)) e)
    where
      by : ((v.id.0 == m.0) ≡ true) ⊎ (subsignature_of T (class_view T k v.id) (class_view T k m) ≡ true) → (v.id ≡ m) ⊎ (subsignature_of T (class_view T k v.id) (class_view T k m) ≡ true)
      by (inl h) = inl (method_same v.id m (let is : v.id.0 ≡ m.0 = grind (arith, nat_tests) in is))
      by (inr h) = inr h

  -- both are the method, or one has a subsignature of the other's
  alike : (m : MethodId) (v w : MethodView) → class_view T k v.id ≡ Some v → class_view T k w.id ≡ Some w → stands_for T k v.id m ≡ true → stands_for T k w.id m ≡ true
      → (v.id ≡ m) ⊎ ((w.id ≡ m) ⊎ HasNoParameters (class_view T k m)) → (v.id ≡ w.id) ⊎ (override_equivalent T v w ≡ true)
  alike m v w e f g h is = by (stood m v g) (stood m w h) is
    where
      by : (v.id ≡ m) ⊎ (subsignature_of T (class_view T k v.id) (class_view T k m) ≡ true) → (w.id ≡ m) ⊎ (subsignature_of T (class_view T k w.id) (class_view T k m) ≡ true)
          → (v.id ≡ m) ⊎ ((w.id ≡ m) ⊎ HasNoParameters (class_view T k m)) → (v.id ≡ w.id) ⊎ (override_equivalent T v w ≡ true)
      by (inl p) (inl q) is = inl (p ∙ sym q)
      by (inl p) (inr q) is = inr (swapped (subsignature T w v) (subsignature T v w) (or_left (subsignature T w v) (subsignature T v w) (signed m w v f (ap (class_view T k) (sym p) ∙ e) q)))
      by (inr p) (inl q) is = inr (or_left (subsignature T v w) (subsignature T w v) (signed m v w e (ap (class_view T k) (sym q) ∙ f) p))
      by (inr p) (inr q) (inl r) = inr (swapped (subsignature T w v) (subsignature T v w) (or_left (subsignature T w v) (subsignature T v w) (signed m w v f (ap (class_view T k) (sym r) ∙ e) q)))
      by (inr p) (inr q) (inr (inl r)) = inr (or_left (subsignature T v w) (subsignature T w v) (signed m v w e (ap (class_view T k) (sym r) ∙ f) p))
      by (inr p) (inr q) (inr (inr r)) = in_view (class_view T k m) refl r
        where
          in_view : (o : Option MethodView) → class_view T k m ≡ o → HasNoParameters o → (v.id ≡ w.id) ⊎ (override_equivalent T v w ≡ true)
          in_view None s none = absurd none
          in_view (Some x) s none = inr (equivalent T v w x none (no_bounds T k v.id v e) (no_bounds T k w.id w f) (signed m v x e s p) (signed m w x f s q))

module _ (T : Table) (unbroken : headers_breaks T ≡ []) where
  pub one_selected : (n : ℕ) (c : ClassDecl) → IsNumber 0 n c T.classes → OneSelected T (record { 0 = n })
  one_selected n c at m v w h g same body other e f is =
      by (alike T k m v w mine.view theirs.view e f is)
    where
      k : ClassId
      k = record { 0 = n }

      mine : Has T k 0 T.methods v
      mine = has T k v h

      theirs : Has T k 0 T.methods w
      theirs = has T k w g

      by : (v.id ≡ w.id) ⊎ (override_equivalent T v w ≡ true) → v.id ≡ w.id
      by (inl e) = e
      by (inr e) = one_body T unbroken n c at v w h g same body other e
