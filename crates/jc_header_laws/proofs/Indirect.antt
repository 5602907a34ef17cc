-- What a method overrides or hides indirectly, it overrides or hides outright.
use Rattle.std.proofs.Common.{◌≡◌, ◌⊎◌, ◌≢◌, inl, inr, ℕ, zero, suc, ◌+◌, ◌-◌, ◌==◌, ◌<◌, ◌≤◌, arith, Bool, true, false, not, ◌&&◌, ◌||◌, Option, Some, None, List, [], ◌∷◌, length, slice_get, refl, sym, ap, subst, ◌∙◌}
use Rattle.std.proofs.lemmas.Bool.Decides.{nat_tests}
use Rattle.std.proofs.lemmas.Option.{slice_get_within}
use Rattle.std.specs.Str.{bytes_eq}
use Rattle.std.proofs.lemmas.Bool.{and_from, and_parts, or_left}
use Rattle.jc_rules.proofs.Truths.{own_bytes, not_both, self_equal}
use Rattle.jc_types.specs.declared.declarations.ClassDecl.{ClassDecl}
use Rattle.jc_types.specs.declared.declarations.MethodDecl.{MethodDecl}
use Rattle.jc_types.specs.declared.ids.ClassId.{ClassId}
use Rattle.jc_types.specs.declared.ids.MethodId.{MethodId}
use Rattle.jc_types.specs.declared.table.Table.{Table}
use Rattle.jc_types.specs.Accessors.{method_kind_in, method_name_of, method_owner_of}
use Rattle.jc_judge.specs.Views.{view}
use Rattle.jc_judge_laws.specs.Hierarchy.{IsHierarchy}
use Rattle.jc_overriding.specs.declared.view.MethodView.{MethodView}
use Rattle.jc_overriding.specs.Overriding.{is_above, is_inheritable, is_instance, is_method, is_viewed, kind_in, or_object, overrides, owner, remaining, replaced, same_class, subsignature_of}
use Rattle.jc_overriding.specs.Overriding.{hides}
use Rattle.jc_overriding.specs.Signatures.{subsignature}
use Rattle.jc_overriding.specs.Viewing.{class_view, is_static, own_type, view_of_owner, viewed_in}
use Rattle.jc_header_rules.specs.Checked.{IsAmong}
use Rattle.jc_header_rules.specs.Clashes.{all_methods, erased_params, erasures_meet, is_among, is_settled, reaches, reaches_within}
use Rattle.jc_header_rules.specs.Inheriting.{with_body}
use Rattle.jc_members.specs.Below.{replaces}
use Rattle.jc_members.specs.Listing.{has_method}
use Rattle.jc_members.proofs.Replacing.{overrides_told, own_below, replaces_alike, replaces_no_method, replaces_none, replaces_unlike}
use Rattle.jc_clashes.specs.Stage.{HasNoClash}
use Rattle.jc_clashes.proofs.Alike.{of_meeting}
use Rattle.jc_clashes.proofs.Lists.{In, is_false, self_same}
use Rattle.jc_clashes.proofs.Reaching.{further, here, reached_told, reaches_named, step}
use Rattle.jc_clashes.proofs.Told.{View, belongs_has, has_of, in_replaced, of_has, viewed, without_in}
use Rattle.jc_header_laws.specs.Facts.{ErasuresStand, IsNumber, OverridesBeyond, ReplacesReached, SignsReached}
use Rattle.jc_header_laws.proofs.Above.{Up, above_up, no_round, of_table, up_above, up_is_above, up_up, viewed_above}
use Rattle.jc_header_laws.proofs.Clashing.{erasures_stand, of_methods}

-- ---- lists

among_of : {X : Type 0} (x : X) (xs : List X) → In x xs → IsAmong x xs
among_of x [] m = m
among_of x (y ∷ ys) (inl e) = inl e
among_of x (y ∷ ys) (inr m) = inr (among_of x ys m)

in_of : {X : Type 0} (x : X) (xs : List X) → IsAmong x xs → In x xs
in_of x [] m = m
in_of x (y ∷ ys) (inl e) = inl e
in_of x (y ∷ ys) (inr m) = inr (in_of x ys m)

numbered_in : {X : Type 0} (xs : List X) (i n : ℕ) → n < length xs → (x : X) × IsNumber i (i + n) x xs
numbered_in [] i n lt = absurd (omega arith)
numbered_in (x ∷ xs) i zero lt = (x, inl (omega arith, refl))
numbered_in (x ∷ xs) i (suc n) lt =
    let rest = numbered_in xs (suc i) n (omega arith) in
    let same : suc i + n ≡ i + suc n = omega arith in
    (rest.0, inr (subst (λ j. IsNumber (suc i) j rest.0 xs) same rest.1))

-- ---- what one step tells

module _ (T : Table) where
  record Parts (m n : MethodId) : Type 0 where
    pub method : is_method T m ≡ true
    pub other : is_method T n ≡ true
    pub alike : is_static T m ≡ is_static T n
    pub below : own_below T m n ≡ true
    pub above : is_above T (owner T m) (owner T n) ≡ true
    pub signed : subsignature_of T (class_view T (owner T m) m) (class_view T (owner T m) n) ≡ true

  parts : (m n : MethodId) → replaces T m n ≡ true → Parts m n
  parts m n e =
      let one = method_of (is_method T m) refl in
      let two = other_of (is_method T n) refl in
      let same = alike_of (is_static T m) (is_static T n) refl refl in
      let below : own_below T m n ≡ true = sym (replaces_alike T m n one two same) ∙ e in
      let both = and_parts (is_above T (owner T m) (owner T n) && is_inheritable T (owner T m) n) (subsignature_of T (class_view T (owner T m) m) (class_view T (owner T m) n)) below in
      record { method = one; other = two; alike = same; below = below; above = (and_parts (is_above T (owner T m) (owner T n)) (is_inheritable T (owner T m) n) both.0).0; signed = both.1 }
    where
      method_of : (b : Bool) → is_method T m ≡ b → is_method T m ≡ true
      method_of true f = f
      method_of false f = absurd (not_both (replaces T m n) e (replaces_no_method T m n f))

      other_of : (b : Bool) → is_method T n ≡ b → is_method T n ≡ true
      other_of true f = f
      other_of false f = absurd (not_both (replaces T m n) e (replaces_none T m n f))

      alike_of : (b c : Bool) → is_static T m ≡ b → is_static T n ≡ c → is_static T m ≡ is_static T n
      alike_of true true f g = f ∙ sym g
      alike_of false false f g = f ∙ sym g
      alike_of true false f g = absurd (not_both (replaces T m n) e (replaces_unlike T m n (λ s. let no : true ≡ false = sym f ∙ (s ∙ g) in cc)))
      alike_of false true f g = absurd (not_both (replaces T m n) e (replaces_unlike T m n (λ s. let no : false ≡ true = sym f ∙ (s ∙ g) in cc)))

  seen_of : (a b : Option MethodView) → subsignature_of T a b ≡ true → ((v : MethodView) × (a ≡ Some v)) × ((w : MethodView) × (b ≡ Some w))
  seen_of None b e = cc
  seen_of (Some v) None e = cc
  seen_of (Some v) (Some w) e = ((v, refl), (w, refl))

  owned_by : (k : ClassId) (n : MethodId) (v : MethodView) → class_view T k n ≡ Some v → method_owner_of T n ≡ Some (owner T n)
  owned_by k n v e = by (method_owner_of T n) e
    where
      by : (o : Option ClassId) → viewed_in T n (view_of_owner T (own_type T k) o) ≡ Some v → o ≡ Some (or_object o)
      by None h = cc
      by (Some l) h = refl

  method_within : (p : MethodId) → is_method T p ≡ true → p.0 < length T.methods
  method_within p e = by (slice_get T.methods p.0) refl e
    where
      by : (o : Option MethodDecl) → slice_get T.methods p.0 ≡ o → kind_in (method_kind_in o) ≡ true → p.0 < length T.methods
      by None f e = cc
      by (Some d) f e = slice_get_within T.methods p.0 d f

  -- ---- what a way of several tells

  module _ (h : IsHierarchy T) (m : MethodId) where
    record Chain (p : MethodId) : Type 0 where
      pub up : Up T (owner T m).0 (owner T p).0
      pub method : is_method T m ≡ true
      pub other : is_method T p ≡ true
      pub alike : is_static T m ≡ is_static T p
      pub seen : (v : MethodView) × (class_view T (owner T m) m ≡ Some v)
      pub owned : method_owner_of T p ≡ Some (owner T p)

    of_step : (p : MethodId) → replaces T m p ≡ true → Chain p
    of_step p e =
        let it = parts m p e in
        let views = seen_of (class_view T (owner T m) m) (class_view T (owner T m) p) it.signed in
        record {
          up = above_up T h (owner T m) (owner T p) it.above;
          method = it.method;
          other = it.other;
          alike = it.alike;
          seen = views.0;
          owned = owned_by (owner T m) p views.1.0 views.1.1;
        }

    longer : (q p : MethodId) → Chain q → replaces T q p ≡ true → Chain p
    longer q p c e =
        let it = parts q p e in
        let views = seen_of (class_view T (owner T q) q) (class_view T (owner T q) p) it.signed in
        record {
          up = up_up T (owner T m).0 (owner T q).0 (owner T p).0 c.up (above_up T h (owner T q) (owner T p) it.above);
          method = c.method;
          other = it.other;
          alike = c.alike ∙ it.alike;
          seen = c.seen;
          owned = owned_by (owner T q) p views.1.0 views.1.1;
        }

    chain_of : (p : MethodId) → reaches T m p ≡ true → (m ≡ p) ⊎ Chain p
    chain_of p e = reached_told T m (λ q. (m ≡ q) ⊎ Chain q) (inl refl) next p e
      where
        next : (q p : MethodId) → q.0 < length T.methods → (m ≡ q) ⊎ Chain q → replaces T q p ≡ true → (m ≡ p) ⊎ Chain p
        next q p within (inl is) r = inr (of_step p (subst (λ n. replaces T n p ≡ true) (sym is) r))
        next q p within (inr c) r = inr (longer q p c r)

    -- ---- in the method's class

    abbrev k : ClassId
    k = owner T m

    module _ (p : MethodId) (way : reaches T m p ≡ true) (c : Chain p) (open_to : is_inheritable T (owner T m) p ≡ true) where
      above_it : is_above T k (owner T p) ≡ true
      above_it = up_is_above T h k (owner T p) c.up

      has_other : has_method T (own_type T k) p ≡ true
      has_other = ap (λ o. is_viewed (view_of_owner T (own_type T k) o)) c.owned ∙ (and_parts (not (same_class k (owner T p))) (is_viewed (view T (owner T p) (own_type T k))) above_it).1

      own : View T k m
      own =
          belongs_has T k m (method_within m c.method)
          (and_from (is_method T m && (same_class k (owner T m) || is_inheritable T k m)) (has_method T (own_type T k) m)
          (and_from (is_method T m) (same_class k (owner T m) || is_inheritable T k m) c.method (or_left (same_class k k) (is_inheritable T k m) (self_equal k.0))) (viewed T k m c.seen.0 c.seen.1))

      other_second : (a b : Bool) → b ≡ true → (a || b) ≡ true
      other_second true b e = refl
      other_second false b e = e

      inherited : View T k p
      inherited =
          belongs_has T k p (method_within p c.other)
          (and_from (is_method T p && (same_class k (owner T p) || is_inheritable T k p)) (has_method T (own_type T k) p)
          (and_from (is_method T p) (same_class k (owner T p) || is_inheritable T k p) c.other (other_second (same_class k (owner T p)) (is_inheritable T k p) open_to)) has_other)

      -- nothing that the class has is below its own method
      not_replaced : replaced T own.view (all_methods T k) ≡ false
      not_replaced = is_false (replaced T own.view (all_methods T k)) none
        where
          none : replaced T own.view (all_methods T k) ≡ true → ⊥
          none e =
              let found = in_replaced T k own.view (all_methods T k) e in
              let w = found.0 in
              let it = parts w.id m (subst (λ n. replaces T w.id n ≡ true) own.is found.2) in
              let has = has_of T k w found.1 in
              let up : Up T (owner T w.id).0 k.0 = above_up T h (owner T w.id) k it.above in
              let there : is_viewed (view T (owner T w.id) (own_type T k)) ≡ true =
              sym (ap (λ o. is_viewed (view_of_owner T (own_type T k) o)) (owned_by k w.id w has.view)) ∙ viewed T k w.id w has.view in
              no_round T h.acyclic k.0 k.0 (up_above T k.0 (owner T w.id).0 k.0 (viewed_above T h k (owner T w.id) there) up) refl

      is_member : In own.view (remaining T (all_methods T k))
      is_member = without_in T k (all_methods T k) (all_methods T k) own.view (of_has T k own.view own.has) not_replaced

      meets : erasures_meet T m p 0 T.methods ≡ true
      meets =
          of_meeting T m p (method_name_of T m)
          (record {
            left = p;
            right = p;
            left_named = record { within = method_within p c.other; name = sym (reaches_named T m p way) };
            right_named = record { within = method_within p c.other; name = sym (reaches_named T m p way) };
            left_below = way;
            right_below = here T p (length T.methods);
            same = self_same (erased_params T p);
          })

      names : bytes_eq (method_name_of T own.view.id) (method_name_of T inherited.view.id) ≡ true
      names =
          ap (λ n. bytes_eq (method_name_of T n) (method_name_of T inherited.view.id)) own.is ∙ ap (λ n. bytes_eq (method_name_of T m) (method_name_of T n)) inherited.is
          ∙ ap (λ x. bytes_eq x (method_name_of T p)) (reaches_named T m p way) ∙ own_bytes (method_name_of T p)

      met : erasures_meet T own.view.id inherited.view.id 0 T.methods ≡ true
      met = ap (λ n. erasures_meet T n inherited.view.id 0 T.methods) own.is ∙ ap (λ n. erasures_meet T m n 0 T.methods) inherited.is ∙ meets

      signed_there : ErasuresStand T k → subsignature T own.view inherited.view ≡ true
      signed_there stand = by (stand own.view inherited.view (among_of own.view (remaining T (all_methods T k)) is_member) (among_of inherited.view (all_methods T k) (of_has T k inherited.view inherited.has)) names met)
        where
          same_class_twice : same_class (owner T own.view.id) k ≡ true
          same_class_twice = ap (λ n. same_class (owner T n) k) own.is ∙ self_equal k.0

          by : ((own.view.id.0 == inherited.view.id.0) ≡ true) ⊎ ((subsignature T own.view inherited.view ≡ true) ⊎ (is_settled T k (remaining T (all_methods T k)) own.view inherited.view ≡ true))
              → subsignature T own.view inherited.view ≡ true
          by (inl e) =
              let one : own.view.id.0 ≡ m.0 = ap (λ (n : MethodId). n.0) own.is in
              let two : inherited.view.id.0 ≡ p.0 = ap (λ (n : MethodId). n.0) inherited.is in
              let is : m.0 ≡ p.0 = grind (arith, nat_tests) in
              let same : m ≡ p = ap (λ j. record { 0 = j }) is in
              absurd (no_round T h.acyclic k.0 (owner T p).0 c.up (ap (λ n. (owner T n).0) same))
          by (inr (inl e)) = e
          by (inr (inr e)) =
              let mine = not (same_class (owner T own.view.id) k) in
              let among = is_among inherited.view.id (remaining T (all_methods T k)) in
              let back = subsignature T inherited.view own.view in
              let bodies = not (with_body T own.view) || with_body T inherited.view in
              let first = and_parts mine among (and_parts (mine && among) back (and_parts (mine && among && back) bodies e).0).0 in
              absurd (let no : not true ≡ true = ap not (sym same_class_twice) ∙ first.0 in cc)

      outright : ErasuresStand T k → replaces T m p ≡ true
      outright stand =
          let mine : class_view T k m ≡ Some own.view = ap (class_view T k) (sym own.is) ∙ own.has.view in
          let theirs : class_view T k p ≡ Some inherited.view = ap (class_view T k) (sym inherited.is) ∙ inherited.has.view in
          let signs : subsignature_of T (class_view T k m) (class_view T k p) ≡ true =
          ap (λ o. subsignature_of T o (class_view T k p)) mine ∙ ap (λ o. subsignature_of T (Some own.view) o) theirs ∙ signed_there stand in
          replaces_alike T m p c.method c.other c.alike
          ∙ and_from (is_above T k (owner T p) && is_inheritable T k p) (subsignature_of T (class_view T k m) (class_view T k p)) (and_from (is_above T k (owner T p)) (is_inheritable T k p) above_it open_to) signs

  -- ---- the laws

  module _ (h : IsHierarchy T) (clear : HasNoClash T) where
    stands_in : (k : ClassId) → k.0 < length T.classes → ErasuresStand T k
    stands_in k lt =
        let found = numbered_in T.classes 0 k.0 lt in
        let same : 0 + k.0 ≡ k.0 = omega arith in
        erasures_stand T (of_methods T clear) k.0 found.0 (subst (λ j. IsNumber 0 j found.0 T.classes) same found.1)

    pub replaces_reached : (m p : MethodId) → ReplacesReached T m p
    replaces_reached m p other way open_to = by (chain_of h m p way)
      where
        by : (m ≡ p) ⊎ Chain h m p → replaces T m p ≡ true
        by (inl is) = absurd (other is)
        by (inr c) = outright h m p way c open_to (stands_in (owner T m) (of_table T (owner T m).0 (owner T p).0 c.up))

    in_more : (m : MethodId) (k n : ℕ) (p : MethodId) → reaches_within T n m p ≡ true → reaches_within T (k + n) m p ≡ true
    in_more m zero n p e = let none : 0 + n ≡ n = omega arith in subst (λ j. reaches_within T j m p ≡ true) (sym none) e
    in_more m (suc k) n p e =
        let one : suc k + n ≡ suc (k + n) = omega arith in
        subst (λ j. reaches_within T j m p ≡ true) (sym one) (further T m (k + n) p (in_more m k n p e))

    apart : (a b n : ℕ) → (a ≡ b → ⊥) → a < n → b < n → (n - 2) + 2 ≡ n
    apart a b n ne le lt = by (a == b) refl
      where
        by : (c : Bool) → (a == b) ≡ c → (n - 2) + 2 ≡ n
        by true e = absurd (ne (grind (arith, nat_tests)))
        by false e = let other : a ≢ b = ne in let two : 2 ≤ n = grind (arith, nat_tests) in omega arith

    pub overrides_beyond : (m n p : MethodId) → OverridesBeyond T m n p
    overrides_beyond m n p e f open_to =
        let first : replaces T m n ≡ true = or_left (overrides T m n) (hides T m n) e in
        let second : replaces T n p ≡ true = or_left (overrides T n p) (hides T n p) f in
        let one = parts m n first in
        let two = parts n p second in
        let up : Up T (owner T m).0 (owner T n).0 = above_up T h (owner T m) (owner T n) one.above in
        let over : Up T (owner T m).0 (owner T p).0 = up_up T (owner T m).0 (owner T n).0 (owner T p).0 up (above_up T h (owner T n) (owner T p) two.above) in
        let within : m.0 < length T.methods = method_within m one.method in
        let there : n.0 < length T.methods = method_within n one.other in
        let ne : m.0 ≡ n.0 → ⊥ = λ is. no_round T h.acyclic (owner T m).0 (owner T n).0 up (ap (λ j. (owner T (record { 0 = j })).0) is) in
        let beyond : m ≡ p → ⊥ = λ is. no_round T h.acyclic (owner T m).0 (owner T p).0 over (ap (λ q. (owner T q).0) is) in
        let enough : (length T.methods - 2) + 2 ≡ length T.methods = apart m.0 n.0 (length T.methods) ne within there in
        let way : reaches T m p ≡ true =
        subst (λ j. reaches_within T j m p ≡ true) enough (in_more m (length T.methods - 2) 2 p (step T m 1 n p there (step T m 0 m n within (here T m 0) first) second)) in
        let it = parts m p (replaces_reached m p beyond way open_to) in
        let mine = and_parts (is_instance T m) (is_instance T n) (and_parts (is_instance T m && is_instance T n) (own_below T m n) (sym (overrides_told T m n) ∙ e)).0 in
        let theirs = and_parts (is_instance T n) (is_instance T p) (and_parts (is_instance T n && is_instance T p) (own_below T n p) (sym (overrides_told T n p) ∙ f)).0 in
        overrides_told T m p ∙ and_from (is_instance T m && is_instance T p) (own_below T m p) (and_from (is_instance T m) (is_instance T p) mine.0 theirs.1) it.below

  pub signs_reached : (clear : HasNoClash T) (n : ℕ) (c : ClassDecl) → IsNumber 0 n c T.classes → SignsReached T (record { 0 = n })
  signs_reached clear n c at v w member there way = by (erasures_stand T (of_methods T clear) n c at v w member there names met)
    where
      names : bytes_eq (method_name_of T v.id) (method_name_of T w.id) ≡ true
      names = ap (λ x. bytes_eq x (method_name_of T w.id)) (reaches_named T v.id w.id way) ∙ own_bytes (method_name_of T w.id)

      within : w.id.0 < length T.methods
      within = (has_of T (record { 0 = n }) w (in_of w (all_methods T (record { 0 = n })) there)).within

      met : erasures_meet T v.id w.id 0 T.methods ≡ true
      met =
          of_meeting T v.id w.id (method_name_of T v.id)
          (record {
            left = w.id;
            right = w.id;
            left_named = record { within = within; name = sym (reaches_named T v.id w.id way) };
            right_named = record { within = within; name = sym (reaches_named T v.id w.id way) };
            left_below = way;
            right_below = here T w.id (length T.methods);
            same = self_same (erased_params T w.id);
          })

      by : ((v.id.0 == w.id.0) ≡ true) ⊎ ((subsignature T v w ≡ true) ⊎ (is_settled T (record { 0 = n }) (remaining T (all_methods T (record { 0 = n }))) v w ≡ true))
          → (v.id ≡ w.id) ⊎ ((subsignature T v w ≡ true) ⊎ (is_settled T (record { 0 = n }) (remaining T (all_methods T (record { 0 = n }))) v w ≡ true))
      by (inl e) =
          let is : v.id.0 ≡ w.id.0 = grind (arith, nat_tests) in
          inl (ap (λ j. record { 0 = j }) is)
      by (inr e) = inr e
