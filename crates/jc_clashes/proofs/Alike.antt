-- The methods of a name, their erasures and their groups.
use Rattle.std.proofs.Common.{◌≡◌, ◌⊎◌, inl, inr, ℕ, zero, suc, ◌+◌, ◌==◌, ◌<◌, ◌≤◌, arith, Bool, true, false, not, ◌&&◌, ◌||◌, cond, List, [], ◌∷◌, ◌++◌, length, refl, sym, ap, subst, ◌∙◌}
use Rattle.std.proofs.lemmas.Bool.Decides.{nat_tests}
use Rattle.std.specs.List.{list_any}
use Rattle.std.specs.Str.{bytes_eq}
use Rattle.std.proofs.lemmas.Bool.{or_right, and_from, and_parts}
use Rattle.jc_rules.proofs.Truths.{same_bytes, own_bytes, as_true, self_equal, equal_numbers}
use Rattle.jc_types.specs.declared.declarations.MethodDecl.{MethodDecl}
use Rattle.jc_types.specs.declared.ids.MethodId.{MethodId}
use Rattle.jc_types.specs.declared.table.Table.{Table}
use Rattle.jc_types.specs.Accessors.{method_name_of}
use Rattle.jc_overriding.specs.Overriding.{has_name}
use Rattle.jc_overriding.specs.Signatures.{same_all}
use Rattle.jc_header_rules.specs.Clashes.{erased_params, erasures_meet, reaches, share_erasure}
use Rattle.jc_members.specs.Below.{replaces}
use Rattle.jc_members.specs.Fixed.{is_fixed}
use Rattle.jc_members.specs.Named.{all_named, named_from}
use Rattle.jc_clashes.specs.declared.shapes.Shape.{Shape}
use Rattle.jc_clashes.specs.Erasures.{share_some}
use Rattle.jc_clashes.specs.Shapes.{above_in, all_fixed, group_of, groups, groups_from, leads, shape_of, shapes_of}
use Rattle.jc_clashes.specs.Spreading.{erasures_within}
use Rattle.jc_clashes.proofs.Lists.{In, any_in, in_any, in_either, in_left, in_right}
use Rattle.jc_clashes.proofs.Named.{IsNamed}
use Rattle.jc_clashes.proofs.Reaching.{Found, reaches_named}
use Rattle.jc_clashes.proofs.Spread.{erasure_in, of_erasure}

-- ---- erasures that two methods share

module _ (T : Table) (m : MethodId) where
  abbrev shares : MethodId → MethodId → Bool
  shares n j = reaches T n j && same_all (erased_params T m) (erased_params T j)

  share_found : (n : MethodId) (i : ℕ) (ds : List MethodDecl) → share_erasure T m n i ds ≡ true → Found (i + length ds) (shares n)
  share_found n i [] e = cc
  share_found n i (d ∷ ds) e = by (shares n (record { 0 = i })) refl (λ g. share_found n (i + 1) ds g) e
    where
      by : (b : Bool) → shares n (record { 0 = i }) ≡ b → (share_erasure T m n (i + 1) ds ≡ true → Found (i + 1 + length ds) (shares n)) → (b || share_erasure T m n (i + 1) ds) ≡ true → Found (i + length (d ∷ ds)) (shares n)
      by true f g e = record { id = record { 0 = i }; within = omega arith; holds = f }
      by false f g e = let rest = g e in let low : rest.id.0 < i + 1 + length ds = rest.within in record { id = rest.id; within = omega arith; holds = rest.holds }

  found_share : (n j : MethodId) (i : ℕ) (ds : List MethodDecl) → i ≤ j.0 → j.0 < i + length ds → shares n j ≡ true → share_erasure T m n i ds ≡ true
  found_share n j i [] from to e = absurd (omega arith)
  found_share n j i (d ∷ ds) from to e = by (j.0 == i) refl (λ low. found_share n j (i + 1) ds low (omega arith) e)
    where
      up : (j.0 == i) ≡ false → i + 1 ≤ j.0
      up f = grind (arith, nat_tests)

      by : (b : Bool) → (j.0 == i) ≡ b → (i + 1 ≤ j.0 → share_erasure T m n (i + 1) ds ≡ true) → (shares n (record { 0 = i }) || share_erasure T m n (i + 1) ds) ≡ true
      by true f g =
          let is : j.0 ≡ i = equal_numbers j.0 i f in
          ap (λ b. b || share_erasure T m n (i + 1) ds) (subst (λ k. shares n (record { 0 = k }) ≡ true) is e)
      by false f g = or_right (shares n (record { 0 = i })) (share_erasure T m n (i + 1) ds) (g (up f))

module _ (T : Table) (m n : MethodId) where
  abbrev meets_at : MethodId → Bool
  meets_at i = reaches T m i && share_erasure T i n 0 T.methods

  meet_found : (i : ℕ) (ds : List MethodDecl) → erasures_meet T m n i ds ≡ true → Found (i + length ds) meets_at
  meet_found i [] e = cc
  meet_found i (d ∷ ds) e = by (meets_at (record { 0 = i })) refl (λ g. meet_found (i + 1) ds g) e
    where
      by : (b : Bool) → meets_at (record { 0 = i }) ≡ b → (erasures_meet T m n (i + 1) ds ≡ true → Found (i + 1 + length ds) meets_at) → (b || erasures_meet T m n (i + 1) ds) ≡ true → Found (i + length (d ∷ ds)) meets_at
      by true f g e = record { id = record { 0 = i }; within = omega arith; holds = f }
      by false f g e = let rest = g e in let low : rest.id.0 < i + 1 + length ds = rest.within in record { id = rest.id; within = omega arith; holds = rest.holds }

  found_meet : (j : MethodId) (i : ℕ) (ds : List MethodDecl) → i ≤ j.0 → j.0 < i + length ds → meets_at j ≡ true → erasures_meet T m n i ds ≡ true
  found_meet j i [] from to e = absurd (omega arith)
  found_meet j i (d ∷ ds) from to e = by (j.0 == i) refl (λ low. found_meet j (i + 1) ds low (omega arith) e)
    where
      up : (j.0 == i) ≡ false → i + 1 ≤ j.0
      up f = grind (arith, nat_tests)

      by : (b : Bool) → (j.0 == i) ≡ b → (i + 1 ≤ j.0 → erasures_meet T m n (i + 1) ds ≡ true) → (meets_at (record { 0 = i }) || erasures_meet T m n (i + 1) ds) ≡ true
      by true f g =
          let is : j.0 ≡ i = equal_numbers j.0 i f in
          ap (λ b. b || erasures_meet T m n (i + 1) ds) (subst (λ k. meets_at (record { 0 = k }) ≡ true) is e)
      by false f g = or_right (meets_at (record { 0 = i })) (erasures_meet T m n (i + 1) ds) (g (up f))

  -- of one name: they or methods that they reach have one erasure
  pub record Meeting (x : List ℕ) : Type 0 where
    pub left : MethodId
    pub right : MethodId
    pub left_named : IsNamed T x left
    pub right_named : IsNamed T x right
    pub left_below : reaches T m left ≡ true
    pub right_below : reaches T n right ≡ true
    pub same : same_all (erased_params T left) (erased_params T right) ≡ true

  pub meeting_of : (x : List ℕ) → method_name_of T m ≡ x → method_name_of T n ≡ x → erasures_meet T m n 0 T.methods ≡ true → Meeting x
  meeting_of x em en e =
      let one = meet_found 0 T.methods e in
      let here = and_parts (reaches T m one.id) (share_erasure T one.id n 0 T.methods) one.holds in
      let two = share_found T one.id n 0 T.methods here.1 in
      let there = and_parts (reaches T n two.id) (same_all (erased_params T one.id) (erased_params T two.id)) two.holds in
      let low : one.id.0 < 0 + length T.methods = one.within in
      let high : two.id.0 < 0 + length T.methods = two.within in
      record {
        left = one.id;
        right = two.id;
        left_named = record { within = omega arith; name = sym (reaches_named T m one.id here.0) ∙ em };
        right_named = record { within = omega arith; name = sym (reaches_named T n two.id there.0) ∙ en };
        left_below = here.0;
        right_below = there.0;
        same = there.1;
      }

  pub of_meeting : (x : List ℕ) → Meeting x → erasures_meet T m n 0 T.methods ≡ true
  of_meeting x h =
      let low : h.left.0 < length T.methods = h.left_named.within in
      let high : h.right.0 < length T.methods = h.right_named.within in
      let share : share_erasure T h.left n 0 T.methods ≡ true =
      found_share T h.left n h.right 0 T.methods (omega arith) (omega arith) (and_from (reaches T n h.right) (same_all (erased_params T h.left) (erased_params T h.right)) h.right_below h.same) in
      found_meet h.left 0 T.methods (omega arith) (omega arith) (and_from (reaches T m h.left) (share_erasure T h.left n 0 T.methods) h.left_below share)

  abbrev share_in : List MethodId → Bool
  share_in all = share_some (erasures_within T all (length T.methods) m) (erasures_within T all (length T.methods) n)

  module _ (x : List ℕ) (hm : IsNamed T x m) (hn : IsNamed T x n) where
    share_meeting : Meeting x → share_in (all_named T x) ≡ true
    share_meeting h =
        let es = erasures_within T (all_named T x) (length T.methods) m in
        let fs = erasures_within T (all_named T x) (length T.methods) n in
        any_in (λ e. list_any (same_all e) fs) (erased_params T h.left) es (erasure_in T x m h.left hm h.left_named h.left_below)
        (any_in (same_all (erased_params T h.left)) (erased_params T h.right) fs (erasure_in T x n h.right hn h.right_named h.right_below) h.same)

    meeting_share : share_in (all_named T x) ≡ true → Meeting x
    meeting_share e =
        let es = erasures_within T (all_named T x) (length T.methods) m in
        let fs = erasures_within T (all_named T x) (length T.methods) n in
        let one = in_any (λ e. list_any (same_all e) fs) es e in
        let two = in_any (same_all one.0) fs one.2 in
        let here = of_erasure T x m one.0 hm one.1 in
        let there = of_erasure T x n two.0 hn two.1 in
        record {
          left = here.0;
          right = there.0;
          left_named = here.1;
          right_named = there.1;
          left_below = here.2;
          right_below = there.2;
          same = subst (λ fs. same_all (erased_params T here.0) fs ≡ true) there.3 (subst (λ es. same_all es two.0 ≡ true) here.3 two.2);
        }

    pub meet_told : share_in (all_named T x) ≡ erasures_meet T m n 0 T.methods
    meet_told = as_true (share_in (all_named T x)) (erasures_meet T m n 0 T.methods) (λ e. of_meeting x (meeting_share e)) (λ e. share_meeting (meeting_of x hm.name hn.name e))

-- ---- what replaces a method

module _ (T : Table) (m : MethodId) where
  pub in_above : (w : MethodId) (js : List MethodId) → In w js → replaces T w m ≡ true → In w (above_in T m js)
  in_above w [] h e = absurd h
  in_above w (j ∷ js) (inl is) e =
      in_left w (cond (replaces T j m) (j ∷ []) []) (above_in T m js) (subst (λ c. In w (cond c (j ∷ []) [])) (sym (ap (λ i. replaces T i m) (sym is) ∙ e)) (inl is))
  in_above w (j ∷ js) (inr h) e = in_right w (cond (replaces T j m) (j ∷ []) []) (above_in T m js) (in_above w js h e)

  pub above_told : (w : MethodId) (js : List MethodId) → In w (above_in T m js) → In w js × (replaces T w m ≡ true)
  above_told w [] h = absurd h
  above_told w (j ∷ js) h = by (replaces T j m) refl (in_either w (cond (replaces T j m) (j ∷ []) []) (above_in T m js) h) (λ h. above_told w js h)
    where
      by : (b : Bool) → replaces T j m ≡ b → In w (cond b (j ∷ []) []) ⊎ In w (above_in T m js)
          → (In w (above_in T m js) → In w js × (replaces T w m ≡ true)) → In w (j ∷ js) × (replaces T w m ≡ true)
      by true f (inl (inl is)) g = (inl is, ap (λ i. replaces T i m) is ∙ f)
      by true f (inl (inr h)) g = absurd h
      by false f (inl h) g = absurd h
      by true f (inr h) g = let rest = g h in (inr rest.0, rest.1)
      by false f (inr h) g = let rest = g h in (inr rest.0, rest.1)

-- ---- shapes

module _ (T : Table) (all : List MethodId) where
  pub shape_in : (m : MethodId) (ms : List MethodId) → In m ms → In (shape_of T all m) (shapes_of T all ms)
  shape_in m [] h = absurd h
  shape_in m (n ∷ ms) (inl e) = inl (ap (shape_of T all) e)
  shape_in m (n ∷ ms) (inr h) = inr (shape_in m ms h)

  pub of_shape : (s : Shape) (ms : List MethodId) → In s (shapes_of T all ms) → (m : MethodId) × In m ms × (s ≡ shape_of T all m)
  of_shape s [] h = absurd h
  of_shape s (n ∷ ms) (inl e) = (n, inl refl, e)
  of_shape s (n ∷ ms) (inr h) = let rest = of_shape s ms h in (rest.0, inr rest.1, rest.2)

-- ---- groups

abbrev pub group_named : Table → List ℕ → List Shape
group_named T x = shapes_of T (all_named T x) (all_named T x)

abbrev pub fixed_name : Table → List ℕ → Bool
fixed_name T x = all_fixed T (all_named T x)

pub fixed_of : (T : Table) (m : MethodId) (ms : List MethodId) → all_fixed T ms ≡ true → In m ms → is_fixed T m ≡ true
fixed_of T m [] e h = absurd h
fixed_of T m (n ∷ ms) e (inl is) = ap (is_fixed T) is ∙ (and_parts (is_fixed T n) (all_fixed T ms) e).0
fixed_of T m (n ∷ ms) e (inr h) = fixed_of T m ms (and_parts (is_fixed T n) (all_fixed T ms) e).1 h

module _ (T : Table) where
  -- where one of n methods from number i on has a name, there is a first one
  record First (x : List ℕ) (i n : ℕ) : Type 0 where
    pub id : MethodId
    pub named : has_name T x id ≡ true
    pub from : i ≤ id.0
    pub to : id.0 < i + n
    pub is : all_fixed T (named_from T x i n) ≡ false → leads T id (named_from T x i n) ≡ true

  beyond_named : (x : List ℕ) (i : ℕ) (m : MethodId) → has_name T x m ≡ true → has_name T x (record { 0 = i }) ≡ false → i ≤ m.0 → suc i ≤ m.0
  beyond_named x i m named e from = less i m.0 from same
    where
      less : (a b : ℕ) → a ≤ b → (b ≡ a → ⊥) → suc a ≤ b
      less a b le ne = grind arith

      same : m.0 ≡ i → ⊥
      same is = let f : has_name T x (record { 0 = i }) ≡ true = subst (λ j. has_name T x (record { 0 = j }) ≡ true) is named in cc

  first_named : (x : List ℕ) (i n : ℕ) (m : MethodId) → has_name T x m ≡ true → i ≤ m.0 → m.0 < i + n → First x i n
  first_named x i zero m named from to = absurd (omega arith)
  first_named x i (suc n) m named from to = by (has_name T x (record { 0 = i })) refl (λ low. first_named x (suc i) n m named low (omega arith))
    where
      led : (ids : List MethodId) → all_fixed T (record { 0 = i } ∷ ids) ≡ false → leads T (record { 0 = i }) (record { 0 = i } ∷ ids) ≡ true
      led ids e = and_from (i == i) (not (all_fixed T (record { 0 = i } ∷ ids))) (self_equal i) (ap not e)

      next : has_name T x (record { 0 = i }) ≡ false → First x (suc i) n → First x i (suc n)
      next e rest =
          let low : suc i ≤ rest.id.0 = rest.from in
          let high : rest.id.0 < suc i + n = rest.to in
          record {
            id = rest.id;
            named = rest.named;
            from = omega arith;
            to = omega arith;
            is = subst (λ b. all_fixed T (cond b (record { 0 = i } ∷ []) [] ++ named_from T x (suc i) n) ≡ false → leads T rest.id (cond b (record { 0 = i } ∷ []) [] ++ named_from T x (suc i) n) ≡ true) (sym e) rest.is;
          }

      by : (b : Bool) → has_name T x (record { 0 = i }) ≡ b → (suc i ≤ m.0 → First x (suc i) n) → First x i (suc n)
      by true e h =
          record {
            id = record { 0 = i };
            named = e;
            from = omega arith;
            to = omega arith;
            is = subst (λ b. all_fixed T (cond b (record { 0 = i } ∷ []) [] ++ named_from T x (suc i) n) ≡ false → leads T (record { 0 = i }) (cond b (record { 0 = i } ∷ []) [] ++ named_from T x (suc i) n) ≡ true) (sym e) (led (named_from T x (suc i) n));
          }
      by false e h = next e (h (beyond_named x i m named e from))

  abbrev group_at : MethodId → List (List Shape)
  group_at m = group_of T m (all_named T (method_name_of T m))

  in_groups : (i n : ℕ) (m : MethodId) (g : List Shape) → i ≤ m.0 → m.0 < i + n → In g (group_at m) → In g (groups_from T i n)
  in_groups i zero m g from to h = absurd (omega arith)
  in_groups i (suc n) m g from to h = by (m.0 == i) refl (λ low. in_groups (suc i) n m g low (omega arith) h)
    where
      up : (m.0 == i) ≡ false → suc i ≤ m.0
      up f = grind (arith, nat_tests)

      by : (b : Bool) → (m.0 == i) ≡ b → (suc i ≤ m.0 → In g (groups_from T (suc i) n)) → In g (groups_from T i (suc n))
      by true f k = in_left g (group_at (record { 0 = i })) (groups_from T (suc i) n) (subst (λ j. In g (group_at (record { 0 = j }))) (equal_numbers m.0 i f) h)
      by false f k = in_right g (group_at (record { 0 = i })) (groups_from T (suc i) n) (k (up f))

  of_groups : (i n : ℕ) (g : List Shape) → In g (groups_from T i n) → (x : List ℕ) × (g ≡ group_named T x)
  of_groups i zero g h = absurd h
  of_groups i (suc n) g h = by (leads T (record { 0 = i }) (all_named T (method_name_of T (record { 0 = i })))) (in_either g (group_at (record { 0 = i })) (groups_from T (suc i) n) h) (λ h. of_groups (suc i) n g h)
    where
      by : (b : Bool) → In g (cond b (group_named T (method_name_of T (record { 0 = i })) ∷ []) []) ⊎ In g (groups_from T (suc i) n) → (In g (groups_from T (suc i) n) → (x : List ℕ) × (g ≡ group_named T x)) → (x : List ℕ) × (g ≡ group_named T x)
      by true (inl (inl e)) k = (method_name_of T (record { 0 = i }), e)
      by true (inl (inr h)) k = absurd h
      by false (inl h) k = absurd h
      by true (inr h) k = k h
      by false (inr h) k = k h

  pub group_told : (g : List Shape) → In g (groups T) → (x : List ℕ) × (g ≡ group_named T x)
  group_told g h = of_groups 0 (length T.methods) g h

  pub group_in : (x : List ℕ) (m : MethodId) → IsNamed T x m → fixed_name T x ≡ false → In (group_named T x) (groups T)
  group_in x m h e =
      let within : m.0 < length T.methods = h.within in
      let first = first_named x 0 (length T.methods) m (ap (λ y. bytes_eq y x) h.name ∙ own_bytes x) (omega arith) (omega arith) in
      let high : first.id.0 < 0 + length T.methods = first.to in
      let same : method_name_of T first.id ≡ x = same_bytes (method_name_of T first.id) x first.named in
      let led : leads T first.id (all_named T x) ≡ true = first.is e in
      let here : In (group_named T x) (group_of T first.id (all_named T x)) =
      subst (λ b. In (group_named T x) (cond b (group_named T x ∷ []) [])) (sym led) (inl refl) in
      in_groups 0 (length T.methods) first.id (group_named T x) (omega arith) high (subst (λ y. In (group_named T x) (group_of T first.id (all_named T y))) (sym same) here)
