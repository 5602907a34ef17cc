-- What is found in lists of methods and of bridges, and what the bridges of a class are.
use Rattle.std.proofs.Common.{◌≡◌, ◌≢◌, ◌⊎◌, ◌<◌, inl, inr, ℕ, zero, suc, ◌+◌, Bool, true, false, not, List, [], ◌∷◌, ◌++◌, Option, Some, None, length, refl, sym, ◌∙◌, ap, subst, arith, cond, slice_get}
use Rattle.std.specs.Prelude.{◌&&◌, ◌||◌, ◌==◌, if◌then◌else◌}
use Rattle.std.specs.Str.{bytes_eq}
use Rattle.std.proofs.lemmas.Option.{slice_get_within}
use Rattle.jc_rules.proofs.Truths.{and_first, and_second, equal_numbers, not_both, not_false, other_numbers, same_bytes}
use Rattle.jc_types.specs.declared.declarations.MethodDecl.{MethodDecl}
use Rattle.jc_types.specs.declared.ids.ClassId.{ClassId}
use Rattle.jc_types.specs.declared.ids.MethodId.{MethodId}
use Rattle.jc_types.specs.declared.table.Table.{Table}
use Rattle.jc_types.specs.Accessors.{class_count, is_interface, method_kind_in, method_name_of, methods_of}
use Rattle.jc_overriding.specs.Overriding.{access_of, body_for, declared_for, if_body, in_superclass, is_abstract, is_above, is_method, kind_in, or_further, owner, select, standing_in, standing_within, stands_for, superclass}
use Rattle.jc_overriding.specs.Viewing.{is_static}
use Rattle.jc_members.proofs.Standing.{not_standing}
use Rattle.jc_bridges_spec.specs.declared.bridge.Bridge.{Bridge}
use Rattle.jc_bridges_spec.specs.Bridging.{bridges, bridges_for, bridges_if, goes_across, goes_on, is_at, is_bridged, is_led_astray, leads_among, leads_by, wants_bridge, with_bridge, with_bridge_to}
use Rattle.jc_bridges_spec.specs.Descriptors.{is_called_as, is_private, is_selectable, same_descriptor}
use Rattle.jc_bridges_laws.specs.Bodies.{IsListed}
use Rattle.jc_bridges_laws.specs.Selecting.{Selected, Written, Across, among_bridges, among_methods}
use Rattle.jc_bridges_laws.proofs.Keys.{both, called_self, method, never}

-- ---- among methods

abbrev pub IsFound : Table → MethodId → List MethodId → Option Selected → Type 0
IsFound T m ns r = (n : MethodId) × IsListed n ns × (is_selectable T n ≡ true) × (is_called_as T n m ≡ true) × (r ≡ Some (Written n))

abbrev pub HasNone : Table → MethodId → List MethodId → Type 0
HasNone T m ns = (n : MethodId) → IsListed n ns → is_selectable T n ≡ true → is_called_as T n m ≡ true → ⊥

pub among : (T : Table) (m : MethodId) (ns : List MethodId) (other : Option Selected)
    → IsFound T m ns (among_methods T m ns other) ⊎ ((among_methods T m ns other ≡ other) × HasNone T m ns)
among T m [] other = inr (refl, λ n l s c. l)
among T m (x ∷ xs) other = by (is_selectable T x && is_called_as T x m) refl (among T m xs other)
  where
    turned : (b : Bool) → (is_selectable T x && is_called_as T x m) ≡ b → among_methods T m (x ∷ xs) other ≡ cond b (Some (Written x)) (among_methods T m xs other)
    turned b e = ap (λ c. cond c (Some (Written x)) (among_methods T m xs other)) e

    none : (is_selectable T x && is_called_as T x m) ≡ false → HasNone T m xs → HasNone T m (x ∷ xs)
    none e f n (inl is) s c =
        not_both (is_selectable T x && is_called_as T x m)
        (both (is_selectable T x) (is_called_as T x m) (subst (λ y. is_selectable T y ≡ true) is s) (subst (λ y. is_called_as T y m ≡ true) is c)) e
    none e f n (inr l) s c = f n l s c

    by : (b : Bool) → (is_selectable T x && is_called_as T x m) ≡ b
        → IsFound T m xs (among_methods T m xs other) ⊎ ((among_methods T m xs other ≡ other) × HasNone T m xs)
        → IsFound T m (x ∷ xs) (among_methods T m (x ∷ xs) other) ⊎ ((among_methods T m (x ∷ xs) other ≡ other) × HasNone T m (x ∷ xs))
    by true e further =
        inl (x, inl refl, and_first (is_selectable T x) (is_called_as T x m) e, and_second (is_selectable T x) (is_called_as T x m) e, turned true e)
    by false e (inl found) = inl (found.0, inr found.1, found.2, found.3, turned false e ∙ found.4)
    by false e (inr other_is) = inr (turned false e ∙ other_is.0, none e other_is.1)

-- ---- among bridges

abbrev pub IsCrossed : Table → MethodId → List Bridge → Option Selected → Type 0
IsCrossed T m bs r = (b : Bridge) × IsListed b bs × (is_called_as T b.called m ≡ true) × (r ≡ Some (Across b))

abbrev pub HasNoBridge : Table → MethodId → List Bridge → Type 0
HasNoBridge T m bs = (b : Bridge) → IsListed b bs → is_called_as T b.called m ≡ true → ⊥

pub across : (T : Table) (m : MethodId) (bs : List Bridge) → IsCrossed T m bs (among_bridges T m bs) ⊎ ((among_bridges T m bs ≡ None) × HasNoBridge T m bs)
across T m [] = inr (refl, λ b l c. l)
across T m (x ∷ xs) = by (is_called_as T x.called m) refl (across T m xs)
  where
    turned : (b : Bool) → is_called_as T x.called m ≡ b → among_bridges T m (x ∷ xs) ≡ cond b (Some (Across x)) (among_bridges T m xs)
    turned b e = ap (λ c. cond c (Some (Across x)) (among_bridges T m xs)) e

    none : is_called_as T x.called m ≡ false → HasNoBridge T m xs → HasNoBridge T m (x ∷ xs)
    none e f b (inl is) c = not_both (is_called_as T x.called m) (subst (λ (y : Bridge). is_called_as T y.called m ≡ true) is c) e
    none e f b (inr l) c = f b l c

    by : (b : Bool) → is_called_as T x.called m ≡ b
        → IsCrossed T m xs (among_bridges T m xs) ⊎ ((among_bridges T m xs ≡ None) × HasNoBridge T m xs)
        → IsCrossed T m (x ∷ xs) (among_bridges T m (x ∷ xs)) ⊎ ((among_bridges T m (x ∷ xs) ≡ None) × HasNoBridge T m (x ∷ xs))
    by true e further = inl (x, inl refl, e, turned true e)
    by false e (inl found) = inl (found.0, inr found.1, found.2, turned false e ∙ found.3)
    by false e (inr none_is) = inr (turned false e ∙ none_is.0, none e none_is.1)

-- ---- lists

pub listed_before : {X : Type 0} (x : X) (xs ys : List X) → IsListed x xs → IsListed x (xs ++ ys)
listed_before x [] ys l = absurd l
listed_before x (z ∷ zs) ys (inl e) = inl e
listed_before x (z ∷ zs) ys (inr l) = inr (listed_before x zs ys l)

pub listed_last : {X : Type 0} (x : X) (xs : List X) → IsListed x (xs ++ x ∷ [])
listed_last x [] = inl refl
listed_last x (z ∷ zs) = inr (listed_last x zs)

pub listed_either : {X : Type 0} (x : X) (xs ys : List X) → IsListed x (xs ++ ys) → IsListed x xs ⊎ IsListed x ys
listed_either x [] ys l = inr l
listed_either x (z ∷ zs) ys (inl e) = inl (inl e)
listed_either x (z ∷ zs) ys (inr l) = by (listed_either x zs ys l)
  where
    by : IsListed x zs ⊎ IsListed x ys → IsListed x (z ∷ zs) ⊎ IsListed x ys
    by (inl m) = inl (inr m)
    by (inr m) = inr m

any_listed : (T : Table) (m : MethodId) (bs : List Bridge) → is_bridged T m bs ≡ true → (b : Bridge) × IsListed b bs × (is_called_as T b.called m ≡ true)
any_listed T m [] e = absurd (never e)
any_listed T m (x ∷ xs) e = by (any_listed T m xs) (is_called_as T x.called m) refl e
  where
    more : (b : Bridge) × IsListed b xs × (is_called_as T b.called m ≡ true) → (b : Bridge) × IsListed b (x ∷ xs) × (is_called_as T b.called m ≡ true)
    more l = (l.0, inr l.1, l.2)

    by : (is_bridged T m xs ≡ true → (b : Bridge) × IsListed b xs × (is_called_as T b.called m ≡ true))
        → (b : Bool) → is_called_as T x.called m ≡ b → (b || is_bridged T m xs) ≡ true → (b : Bridge) × IsListed b (x ∷ xs) × (is_called_as T b.called m ≡ true)
    by further true c f = (x, inl refl, c)
    by further false c f = more (further f)

-- ---- the bridges of a class

-- a bridge is from a method that wants one to the body that the class has for it
abbrev pub IsRight : Table → ClassId → Bridge → Type 0
IsRight T k b = (wants_bridge T k b.called ≡ true) × (select T k b.called ≡ Some b.own)

abbrev bridge : MethodId → MethodId → Bridge
bridge m own = record { called = m; own = own }

abbrev AreRight : Table → ClassId → List Bridge → Type 0
AreRight T k bs = (b : Bridge) → IsListed b bs → IsRight T k b

right_more : (T : Table) (k : ClassId) (bs : List Bridge) (m own : MethodId) → AreRight T k bs → wants_bridge T k m ≡ true → select T k m ≡ Some own → AreRight T k (bs ++ bridge m own ∷ [])
right_more T k bs m own r e s b l = by (listed_either b bs (bridge m own ∷ []) l)
  where
    by : IsListed b bs ⊎ IsListed b (bridge m own ∷ []) → IsRight T k b
    by (inl l) = r b l
    by (inr (inl is)) = subst (λ (x : Bridge). IsRight T k x) (sym is) (e, s)
    by (inr (inr l)) = absurd l

right_with : (T : Table) (k : ClassId) (bs : List Bridge) (m : MethodId) → AreRight T k bs → AreRight T k (with_bridge T k bs m)
right_with T k bs m r = by (wants_bridge T k m) refl (not (is_bridged T m bs)) (select T k m) refl
  where
    by : (w : Bool) → wants_bridge T k m ≡ w → (f : Bool) → (o : Option MethodId) → select T k m ≡ o → AreRight T k (cond (w && f) (with_bridge_to m bs o) bs)
    by false e f o s = r
    by true e false o s = r
    by true e true None s = r
    by true e true (Some own) s = right_more T k bs m own r e s

right_for : (T : Table) (k : ClassId) (n : ℕ) → AreRight T k (bridges_for T k n)
right_for T k zero = λ b l. absurd l
right_for T k (suc n) = right_with T k (bridges_for T k n) (method n) (right_for T k n)

pub bridges_right : (T : Table) (k : ClassId) (b : Bridge) → IsListed b (bridges T k) → IsRight T k b
unfolding bridges
bridges_right T k b l = by (is_interface T k) l
  where
    by : (i : Bool) → IsListed b (bridges_if T k i) → IsRight T k b
    by true l = absurd l
    by false l = right_for T k (length T.methods) b l

kept_with : (T : Table) (k : ClassId) (bs : List Bridge) (m : MethodId) (b : Bridge) → IsListed b bs → IsListed b (with_bridge T k bs m)
kept_with T k bs m b l = by (wants_bridge T k m && not (is_bridged T m bs)) (select T k m)
  where
    by : (w : Bool) (o : Option MethodId) → IsListed b (cond w (with_bridge_to m bs o) bs)
    by false o = l
    by true None = l
    by true (Some own) = listed_before b bs (bridge m own ∷ []) l

abbrev IsBridgedIn : Table → MethodId → List Bridge → Type 0
IsBridgedIn T m bs = (b : Bridge) × IsListed b bs × (is_called_as T b.called m ≡ true)

-- what wants a bridge is above the class, may be selected, and has a body there with another descriptor
pub record Wants (T : Table) (k : ClassId) (m : MethodId) : Type 0 where
  pub selectable : is_selectable T m ≡ true
  pub above : is_above T k (owner T m) ≡ true
  pub astray : is_led_astray T k m (select T k m) ≡ true

pub wanted : (T : Table) (k : ClassId) (m : MethodId) → wants_bridge T k m ≡ true → Wants T k m
unfolding wants_bridge
wanted T k m e =
    let both_first : (is_selectable T m && is_above T k (owner T m)) ≡ true = and_first (is_selectable T m && is_above T k (owner T m)) (is_led_astray T k m (select T k m)) e in
    record {
      selectable = and_first (is_selectable T m) (is_above T k (owner T m)) both_first;
      above = and_second (is_selectable T m) (is_above T k (owner T m)) both_first;
      astray = and_second (is_selectable T m && is_above T k (owner T m)) (is_led_astray T k m (select T k m)) e;
    }

pub wanting : (T : Table) (k : ClassId) (m : MethodId) → Wants T k m → wants_bridge T k m ≡ true
unfolding wants_bridge
wanting T k m w =
    both (is_selectable T m && is_above T k (owner T m)) (is_led_astray T k m (select T k m))
    (both (is_selectable T m) (is_above T k (owner T m)) w.selectable w.above) w.astray

bridged_with : (T : Table) (k : ClassId) (bs : List Bridge) (m : MethodId) → wants_bridge T k m ≡ true → IsBridgedIn T m (with_bridge T k bs m)
bridged_with T k bs m w = by (is_bridged T m bs) refl (select T k m) refl
  where
    bodied : is_led_astray T k m None ≡ true → ⊥
    bodied e = never e

    by : (f : Bool) → is_bridged T m bs ≡ f → (o : Option MethodId) → select T k m ≡ o → IsBridgedIn T m (with_bridge T k bs m)
    by true f o s =
        let was = any_listed T m bs f in
        (was.0, kept_with T k bs m was.0 was.1, was.2)
    by false f None s = absurd (bodied (subst (λ o. is_led_astray T k m o ≡ true) s ((wanted T k m w).astray)))
    by false f (Some own) s =
        let b : Bridge = bridge m own in
        let is : with_bridge T k bs m ≡ bs ++ b ∷ [] =
        ap (λ c. cond (c && not (is_bridged T m bs)) (with_bridge_to m bs (select T k m)) bs) w
        ∙ ap (λ c. cond (true && not c) (with_bridge_to m bs (select T k m)) bs) f ∙ ap (with_bridge_to m bs) s in
        (b, subst (λ xs. IsListed b xs) (sym is) (listed_last b bs), called_self T m)

bridged_for : (T : Table) (k : ClassId) (n : ℕ) (m : MethodId) → m.0 < n → wants_bridge T k m ≡ true → IsBridgedIn T m (bridges_for T k n)
bridged_for T k zero m lt w = absurd (omega (arith, lt))
bridged_for T k (suc n) m lt w = by (λ less. bridged_for T k n m less w) (m.0 == n) refl
  where
    kept : IsBridgedIn T m (bridges_for T k n) → IsBridgedIn T m (bridges_for T k (suc n))
    kept was = (was.0, kept_with T k (bridges_for T k n) (method n) was.0 was.1, was.2)

    by : (m.0 < n → IsBridgedIn T m (bridges_for T k n)) → (b : Bool) → (m.0 == n) ≡ b → IsBridgedIn T m (bridges_for T k (suc n))
    by further true e =
        let is : m ≡ method n = ap method (equal_numbers m.0 n e) in
        subst (λ x. IsBridgedIn T x (bridges_for T k (suc n))) (sym is) (bridged_with T k (bridges_for T k n) (method n) (subst (λ x. wants_bridge T k x ≡ true) is w))
    by further false e =
        let apart : m.0 ≢ n = other_numbers m.0 n e in
        let less : m.0 < n = omega (arith, lt, apart) in
        kept (further less)

-- a method that may be selected is one of the table
in_table : (T : Table) (m : MethodId) → is_selectable T m ≡ true → m.0 < length T.methods
in_table T m s = by (slice_get T.methods m.0) refl
  where
    instance_is : (is_method T m && not (is_static T m)) ≡ true
    instance_is = and_first (is_method T m && not (is_static T m)) (not (is_private (access_of T m))) s

    kind : kind_in (method_kind_in (slice_get T.methods m.0)) ≡ true
    kind = and_first (is_method T m) (not (is_static T m)) instance_is

    missing : kind_in (method_kind_in None) ≡ true → ⊥
    missing e = never e

    by : (o : Option MethodDecl) → slice_get T.methods m.0 ≡ o → m.0 < length T.methods
    by None e = absurd (missing (subst (λ o. kind_in (method_kind_in o) ≡ true) e kind))
    by (Some d) e = slice_get_within T.methods m.0 d e

-- in a class that is no interface a method that wants a bridge has one, for its name and descriptor
pub bridged : (T : Table) (k : ClassId) (m : MethodId) → is_interface T k ≡ false → wants_bridge T k m ≡ true → HasNoBridge T m (bridges T k) → ⊥
unfolding bridges
bridged T k m i w none =
    let is : bridges_if T k (is_interface T k) ≡ bridges_for T k (length T.methods) = ap (bridges_if T k) i in
    let b = bridged_for T k (length T.methods) m (in_table T m ((wanted T k m w).selectable)) w in
    none b.0 (subst (λ xs. IsListed b.0 xs) (sym is) b.1) b.2

-- ---- names

abbrev IsNamed : Table → MethodId → MethodId → Type 0
IsNamed T n m = method_name_of T n ≡ method_name_of T m

stood : (T : Table) (k : ClassId) (n m : MethodId) → stands_for T k n m ≡ true → IsNamed T n m
stood T k n m s = by (n.0 == m.0) refl (bytes_eq (method_name_of T n) (method_name_of T m)) refl
  where
    by : (a : Bool) → (n.0 == m.0) ≡ a → (b : Bool) → bytes_eq (method_name_of T n) (method_name_of T m) ≡ b → IsNamed T n m
    by true e b f = ap (λ i. method_name_of T (method i)) (equal_numbers n.0 m.0 e)
    by false e true f = same_bytes (method_name_of T n) (method_name_of T m) f
    by false e false f = absurd (not_both (stands_for T k n m) s (not_standing T k n m e f))

body_named : (T : Table) (k : ClassId) (m : MethodId) (ns : List MethodId) (own : MethodId) → body_for T k m ns ≡ Some own → IsNamed T own m
body_named T k m [] own e = cc
body_named T k m (n ∷ ns) own e = by (body_named T k m ns own) (not (is_abstract T n) && stands_for T k n m) refl e
  where
    taken : (n : MethodId) → stands_for T k n m ≡ true → Some n ≡ Some own → IsNamed T own m
    taken n s f = let is : n ≡ own = cc in subst (λ x. IsNamed T x m) is (stood T k n m s)

    by : (body_for T k m ns ≡ Some own → IsNamed T own m) → (b : Bool) → (not (is_abstract T n) && stands_for T k n m) ≡ b → (if b then Some n else body_for T k m ns) ≡ Some own → IsNamed T own m
    by further true s f = taken n (and_second (not (is_abstract T n)) (stands_for T k n m) s) f
    by further false s f = further f

declared_named : (T : Table) (k : ClassId) (m : MethodId) (ns : List MethodId) (own : MethodId) → declared_for T k m ns ≡ Some own → IsNamed T own m
declared_named T k m [] own e = cc
declared_named T k m (n ∷ ns) own e = by (declared_named T k m ns own) (stands_for T k n m) refl e
  where
    taken : (n : MethodId) → stands_for T k n m ≡ true → Some n ≡ Some own → IsNamed T own m
    taken n s f = let is : n ≡ own = cc in subst (λ x. IsNamed T x m) is (stood T k n m s)

    by : (declared_for T k m ns ≡ Some own → IsNamed T own m) → (b : Bool) → stands_for T k n m ≡ b → (if b then Some n else declared_for T k m ns) ≡ Some own → IsNamed T own m
    by further true s f = taken n s f
    by further false s f = further f

further_named : (T : Table) (m own : MethodId) (a b : Option MethodId) → (a ≡ Some own → IsNamed T own m) → (b ≡ Some own → IsNamed T own m) → or_further a b ≡ Some own → IsNamed T own m
further_named T m own (Some x) b f g e = f e
further_named T m own None b f g e = g e

within_named : (T : Table) (n : ℕ) (k : ClassId) (m : MethodId) (c : ClassId) (own : MethodId) → standing_within T n k m c ≡ Some own → IsNamed T own m
unfolding standing_within
within_named T zero k m c own e = cc
within_named T (suc n) k m c own e =
    further_named T m own (standing_in T k m (methods_of T c)) (in_superclass (standing_within T n k m) (superclass T c))
    (further_named T m own (body_for T k m (methods_of T c)) (declared_for T k m (methods_of T c)) (body_named T k m (methods_of T c) own) (declared_named T k m (methods_of T c) own))
    (up (λ u. within_named T n k m u own) (superclass T c)) e
  where
    up : ((u : ClassId) → standing_within T n k m u ≡ Some own → IsNamed T own m) → (o : Option ClassId) → in_superclass (standing_within T n k m) o ≡ Some own → IsNamed T own m
    up further None f = cc
    up further (Some u) f = further u f

if_body_is : (T : Table) (o : Option MethodId) (own : MethodId) → if_body T o ≡ Some own → o ≡ Some own
if_body_is T None own e = cc
if_body_is T (Some n) own e = by (is_abstract T n) e
  where
    by : (b : Bool) → cond b None (Some n) ≡ Some own → Some n ≡ Some own
    by true f = cc
    by false f = f

-- a body has the name of the method that is called
pub body_name : (T : Table) (k : ClassId) (m own : MethodId) → select T k m ≡ Some own → method_name_of T own ≡ method_name_of T m
body_name T k m own e = within_named T (class_count T + 1) k m k own (if_body_is T (standing_within T (class_count T + 1) k m k) own e)

-- ---- what leads

-- the superclass has for one of these methods a body under another descriptor, and a call of that comes to `own`
pub record Led (T : Table) (k c : ClassId) (m own : MethodId) : Type 0 where
  pub by : MethodId
  pub selectable : is_selectable T by ≡ true
  pub called : is_called_as T by m ≡ true
  pub here : is_at T c by ≡ true
  pub old : MethodId
  pub body : select T c by ≡ Some old
  pub other : same_descriptor T m old ≡ false
  pub on : goes_on T k own old ≡ true

led_by : (T : Table) (k c : ClassId) (m own n : MethodId) → leads_by T k c m own n ≡ true → Led T k c m own
led_by T k c m own n e = crossed (select T c n) refl (and_second (is_selectable T n && is_called_as T n m && is_at T c n) (goes_across T k m own (select T c n)) e)
  where
    three : (is_selectable T n && is_called_as T n m && is_at T c n) ≡ true
    three = and_first (is_selectable T n && is_called_as T n m && is_at T c n) (goes_across T k m own (select T c n)) e

    two : (is_selectable T n && is_called_as T n m) ≡ true
    two = and_first (is_selectable T n && is_called_as T n m) (is_at T c n) three

    crossed : (o : Option MethodId) → select T c n ≡ o → goes_across T k m own o ≡ true → Led T k c m own
    crossed None s g = absurd (never g)
    crossed (Some old) s g = record {
      by = n;
      selectable = and_first (is_selectable T n) (is_called_as T n m) two;
      called = and_second (is_selectable T n) (is_called_as T n m) two;
      here = and_second (is_selectable T n && is_called_as T n m) (is_at T c n) three;
      old = old;
      body = s;
      other = not_false (same_descriptor T m old) (and_first (not (same_descriptor T m old)) (goes_on T k own old) g);
      on = and_second (not (same_descriptor T m old)) (goes_on T k own old) g;
    }

pub led_among : (T : Table) (k c : ClassId) (m own : MethodId) (ns : List MethodId) → leads_among T k c m own ns ≡ true → Led T k c m own
led_among T k c m own [] e = absurd (never e)
led_among T k c m own (n ∷ ns) e = by (led_among T k c m own ns) (leads_by T k c m own n) refl e
  where
    by : (leads_among T k c m own ns ≡ true → Led T k c m own) → (b : Bool) → leads_by T k c m own n ≡ b → (b || leads_among T k c m own ns) ≡ true → Led T k c m own
    by further true f g = led_by T k c m own n f
    by further false f g = further g
