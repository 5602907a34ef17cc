-- Selection by name and descriptor leads to the body that a class has for a method: by induction along the superclasses.
use Rattle.std.proofs.Common.{◌≡◌, ◌⊎◌, ◌<◌, inl, inr, ℕ, zero, suc, ◌+◌, Bool, true, false, not, List, [], ◌∷◌, Option, Some, None, length, refl, sym, ◌∙◌, ap, subst, arith, cond}
use Rattle.std.specs.Prelude.{◌&&◌, ◌||◌, ◌==◌}
use Rattle.jc_rules.proofs.Truths.{and_first, and_second, as_true, equal_numbers, not_both, not_false, or_true}
use Rattle.jc_types.specs.declared.ids.ClassId.{ClassId}
use Rattle.jc_types.specs.declared.ids.MethodId.{MethodId}
use Rattle.jc_types.specs.declared.table.Table.{Table}
use Rattle.jc_types.specs.Accessors.{class_count, is_interface, method_name_of, methods_of}
use Rattle.jc_overriding.specs.Overriding.{is_above, owner, same_class, select, superclass}
use Rattle.jc_members.specs.Named.{all_named}
use Rattle.jc_bridges_spec.specs.declared.bridge.Bridge.{Bridge}
use Rattle.jc_bridges_spec.specs.Bridging.{bridges, goes_on, is_led_astray, leads_in}
use Rattle.jc_bridges_spec.specs.Descriptors.{is_called_as, is_selectable, same_descriptor}
use Rattle.jc_bridges_laws.specs.Bodies.{HasBodies, IsBody, IsLine, IsListed, IsVirtual, LeadsTo}
use Rattle.jc_bridges_laws.specs.Selecting.{Selected, Written, Across, among_bridges, among_methods, in_class, or_above, selected_within}
use Rattle.jc_bridges_laws.proofs.Found.{HasNoBridge, HasNone, IsCrossed, IsFound, IsRight, Led, across, among, body_name, bridged, bridges_right, led_among, wanted, wanting}
use Rattle.jc_bridges_laws.proofs.Keys.{called_back, called_descriptor, called_key, called_on, called_self, key, key_called, method, named_called, never}

-- ---- one step upwards

pub selected_step : (T : Table) (m : MethodId) (n : ℕ) (k : ClassId) (o : Option Selected) (s : Option ClassId) → in_class T m k ≡ o → superclass T k ≡ s
    → selected_within T m (suc n) k ≡ or_above (selected_within T m n) o s
unfolding selected_within
selected_step T m n k o s e f = ap (λ x. or_above (selected_within T m n) x (superclass T k)) e ∙ ap (λ x. or_above (selected_within T m n) o x) f

-- ---- methods that are called alike are selected alike

called_alike : (T : Table) (l m x : MethodId) → key T l ≡ key T m → is_called_as T x l ≡ is_called_as T x m
called_alike T l m x e =
    as_true (is_called_as T x l) (is_called_as T x m) (λ h. key_called T x m (called_key T x l h ∙ e)) (λ h. key_called T x l (called_key T x m h ∙ sym e))

bridges_alike : (T : Table) (l m : MethodId) → key T l ≡ key T m → (bs : List Bridge) → among_bridges T l bs ≡ among_bridges T m bs
bridges_alike T l m e [] = refl
bridges_alike T l m e (b ∷ bs) =
    ap (λ c. cond c (Some (Across b)) (among_bridges T l bs)) (called_alike T l m b.called e)
    ∙ ap (λ r. cond (is_called_as T b.called m) (Some (Across b)) r) (bridges_alike T l m e bs)

methods_alike : (T : Table) (l m : MethodId) → key T l ≡ key T m → (ns : List MethodId) (o p : Option Selected) → o ≡ p → among_methods T l ns o ≡ among_methods T m ns p
methods_alike T l m e [] o p f = f
methods_alike T l m e (n ∷ ns) o p f =
    ap (λ c. cond (is_selectable T n && c) (Some (Written n)) (among_methods T l ns o)) (called_alike T l m n e)
    ∙ ap (λ r. cond (is_selectable T n && is_called_as T n m) (Some (Written n)) r) (methods_alike T l m e ns o p f)

above_alike : (f g : ClassId → Option Selected) → ((c : ClassId) → f c ≡ g c) → (o : Option Selected) (s : Option ClassId) → or_above f o s ≡ or_above g o s
above_alike f g e (Some x) s = refl
above_alike f g e None (Some c) = e c
above_alike f g e None None = refl

selected_alike : (T : Table) (l m : MethodId) → key T l ≡ key T m → (n : ℕ) (k : ClassId) → selected_within T l n k ≡ selected_within T m n k
unfolding selected_within
selected_alike T l m e zero k = refl
selected_alike T l m e (suc n) k =
    ap (λ o. or_above (selected_within T l n) o (superclass T k)) (methods_alike T l m e (methods_of T k) (among_bridges T l (bridges T k)) (among_bridges T m (bridges T k)) (bridges_alike T l m e (bridges T k)))
    ∙ above_alike (selected_within T l n) (selected_within T m n) (selected_alike T l m e n) (in_class T m k) (superclass T k)

-- ---- what a class has itself

declared_virtual : (T : Table) → HasBodies T → (k : ClassId) (n : MethodId) → IsListed n (methods_of T k) → is_selectable T n ≡ true → IsVirtual T k n
declared_virtual T H k n l s = record { selectable = s; here = ap (λ b. b || is_above T k (owner T n)) (H.owned k n l) }

pub bridge_virtual : (T : Table) (k : ClassId) (b : Bridge) → IsRight T k b → IsVirtual T k b.called
bridge_virtual T k b r = record {
  selectable = (wanted T k b.called r.0).selectable;
  here = ap (λ c. same_class (owner T b.called) k || c) ((wanted T k b.called r.0).above) ∙ or_true (same_class (owner T b.called) k);
}

pub same_body : (T : Table) (k : ClassId) (a b : MethodId) (o : Option MethodId) → o ≡ Some a → o ≡ Some b → a ≡ b
same_body T k a b o e f = let g : Some a ≡ Some b = sym e ∙ f in cc

-- a method of the class itself with m's name and descriptor is the body
written_is : (T : Table) → HasBodies T → (k : ClassId) (m own n : MethodId) → IsBody T k m own → IsListed n (methods_of T k) → is_selectable T n ≡ true → is_called_as T n m ≡ true → own ≡ n
written_is T H k m own n body l s c =
    let v : IsVirtual T k n = declared_virtual T H k n l s in
    H.declared k n own l (record { virtual = v; body = H.one k n m v body.virtual c ∙ body.body })

-- a bridge of the class for m's name and descriptor leads to the body
crossed_is : (T : Table) → HasBodies T → (k : ClassId) (m own : MethodId) (b : Bridge) → IsBody T k m own → IsListed b (bridges T k) → is_called_as T b.called m ≡ true → b.own ≡ own
crossed_is T H k m own b body l c =
    let r : IsRight T k b = bridges_right T k b l in
    same_body T k b.own own (select T k b.called) r.1 (H.one k b.called m (bridge_virtual T k b r) body.virtual c ∙ body.body)

-- a bridge leads to a method with another descriptor
crossed_differs : (T : Table) (k : ClassId) (b : Bridge) → IsListed b (bridges T k) → same_descriptor T b.called b.own ≡ true → ⊥
crossed_differs T k b l e =
    let r : IsRight T k b = bridges_right T k b l in
    let astray : is_led_astray T k b.called (Some b.own) ≡ true = subst (λ o. is_led_astray T k b.called o ≡ true) r.1 ((wanted T k b.called r.0).astray) in
    not_both (same_descriptor T b.called b.own) e
    (not_false (same_descriptor T b.called b.own) (and_first (not (same_descriptor T b.called b.own)) (not (leads_in T k b.called b.own (superclass T k))) astray))

-- ---- a body leads to itself

-- the same one class further up
abbrev UpSelf : Table → ℕ → MethodId → MethodId → Type 0
UpSelf T n own m = (c : ClassId) (cs : List ClassId) → IsLine T c cs → IsBody T c own own → length cs < n → selected_within T m n c ≡ Some (Written own)

self_led : (T : Table) → HasBodies T → (n : ℕ) (k : ClassId) (cs : List ClassId) → IsLine T k cs → (own : MethodId) → IsBody T k own own → (m : MethodId) → is_called_as T own m ≡ true → length cs < n
    → selected_within T m n k ≡ Some (Written own)
self_led T H zero k cs line own body m called lt = absurd (omega (arith, lt))
self_led T H (suc n) k cs line own body m called lt = by (λ c ds l b less. self_led T H n c ds l own b m called less) (among T m (methods_of T k) (among_bridges T m (bridges T k)))
  where
    back : is_called_as T m own ≡ true
    back = called_back T own m called

    here : HasNone T m (methods_of T k) → same_class (owner T own) k ≡ true → ⊥
    here none e = none own (H.listed k own body.virtual.selectable e) body.virtual.selectable called

    up : UpSelf T n own m → in_class T m k ≡ None → HasNone T m (methods_of T k) → (cs : List ClassId) → IsLine T k cs → length cs < suc n → selected_within T m (suc n) k ≡ Some (Written own)
    up above e none [] l lt = absurd (here none (H.rooted k own l.1 body.virtual.here))
    up above e none (c ∷ cs) l lt = further (same_class (owner T own) k) refl
      where
        further : (b : Bool) → same_class (owner T own) k ≡ b → selected_within T m (suc n) k ≡ Some (Written own)
        further true f = absurd (here none f)
        further false f =
            let shorter : length cs < n = omega (arith, lt) in
            selected_step T m n k None (Some c) e l.1 ∙ above c cs l.2 (H.inherited k c own l.1 body f) shorter

    crossing : UpSelf T n own m → (in_class T m k ≡ among_bridges T m (bridges T k)) → HasNone T m (methods_of T k)
        → IsCrossed T m (bridges T k) (among_bridges T m (bridges T k)) ⊎ ((among_bridges T m (bridges T k) ≡ None) × HasNoBridge T m (bridges T k))
        → selected_within T m (suc n) k ≡ Some (Written own)
    crossing above e none (inl x) =
        let c : is_called_as T x.0.called own ≡ true = called_on T x.0.called m own x.2 back in
        let is : x.0.own ≡ own = crossed_is T H k own own x.0 body x.1 c in
        absurd (crossed_differs T k x.0 x.1 (subst (λ o. same_descriptor T x.0.called o ≡ true) (sym is) (called_descriptor T x.0.called own c)))
    crossing above e none (inr y) = up above (e ∙ y.0) none cs line lt

    by : UpSelf T n own m → IsFound T m (methods_of T k) (in_class T m k) ⊎ ((in_class T m k ≡ among_bridges T m (bridges T k)) × HasNone T m (methods_of T k)) → selected_within T m (suc n) k ≡ Some (Written own)
    by above (inl f) =
        let is : own ≡ f.0 = written_is T H k own own f.0 body f.1 f.2 (called_on T f.0 m own f.3 back) in
        selected_step T m n k (Some (Written f.0)) (superclass T k) f.4 refl ∙ ap (λ x. Some (Written x)) (sym is)
    by above (inr g) = crossing above g.0 g.1 (across T m (bridges T k))

-- ---- every method leads to its body

abbrev Leads : Table → ℕ → ClassId → MethodId → MethodId → Type 0
Leads T n k m own =
    ((selected_within T m n k ≡ Some (Written own)) × (is_called_as T own m ≡ true))
    ⊎ ((b : Bridge) × (selected_within T m n k ≡ Some (Across b)) × (is_called_as T b.called m ≡ true) × (is_called_as T own b.own ≡ true))

-- a call of the superclass's body comes to `own`
goes : (T : Table) (k : ClassId) (own old : MethodId) (x : MethodId) → goes_on T k own old ≡ true → is_called_as T old x ≡ true → is_called_as T own x ≡ true
goes T k own old x e c = by (old.0 == own.0) refl e
  where
    by : (b : Bool) → (old.0 == own.0) ≡ b → (b || (same_class (owner T own) k && is_called_as T own old)) ≡ true → is_called_as T own x ≡ true
    by true f g = subst (λ o. is_called_as T o x ≡ true) (ap method (equal_numbers old.0 own.0 f)) c
    by false f g = called_on T own old x (and_second (same_class (owner T own) k) (is_called_as T own old) g) c

-- the same one class further up
abbrev UpAll : Table → ℕ → Type 0
UpAll T n = (c : ClassId) (cs : List ClassId) → IsLine T c cs → (m own : MethodId) → IsBody T c m own → length cs < n → Leads T n c m own

led : (T : Table) → HasBodies T → (n : ℕ) (k : ClassId) (cs : List ClassId) → IsLine T k cs → (m own : MethodId) → IsBody T k m own → length cs < n → Leads T n k m own
led T H zero k cs line m own body lt = absurd (omega (arith, lt))
led T H (suc n) k cs line m own body lt = by (led T H n) (among T m (methods_of T k) (among_bridges T m (bridges T k)))
  where
    leading : same_descriptor T m own ≡ false → is_led_astray T k m (select T k m) ≡ false → leads_in T k m own (superclass T k) ≡ true
    leading d f = turned (leads_in T k m own (superclass T k)) refl
      where
        astray : (not (same_descriptor T m own) && not (leads_in T k m own (superclass T k))) ≡ false
        astray = subst (λ o. is_led_astray T k m o ≡ false) body.body f

        turned : (b : Bool) → leads_in T k m own (superclass T k) ≡ b → b ≡ true
        turned true g = refl
        turned false g =
            let h : (not false && not false) ≡ false = subst (λ x. (not x && not false) ≡ false) d (subst (λ x. (not (same_descriptor T m own) && not x) ≡ false) g astray) in cc

    across_up : UpAll T n → in_class T m k ≡ None → (c : ClassId) (cs : List ClassId) → superclass T k ≡ Some c → IsLine T c cs → length cs < n → Led T k c m own → Leads T (suc n) k m own
    across_up higher e c cs s line lt l = found (higher c cs line l.by l.old (record { virtual = record { selectable = l.selectable; here = l.here }; body = l.body }) lt)
      where
        stepped : selected_within T m (suc n) k ≡ selected_within T l.by n c
        stepped = selected_step T m n k None (Some c) e s ∙ selected_alike T m l.by (sym (called_key T l.by m l.called)) n c

        found : Leads T n c l.by l.old → Leads T (suc n) k m own
        found (inl w) = absurd (not_both (same_descriptor T m l.old) (called_descriptor T m l.old (called_back T l.old m (called_on T l.old l.by m w.1 l.called))) l.other)
        found (inr b) = inr (b.0, stepped ∙ b.1, called_on T b.0.called l.by m b.2 l.called, goes T k own l.old b.0.own l.on b.3)

    unbridged : UpAll T n → in_class T m k ≡ None → same_descriptor T m own ≡ false → is_led_astray T k m (select T k m) ≡ false → (cs : List ClassId) → IsLine T k cs → length cs < suc n → Leads T (suc n) k m own
    unbridged higher e d f [] l lt = absurd (none_leads (subst (λ s. leads_in T k m own s ≡ true) l.1 (leading d f)))
      where
        none_leads : leads_in T k m own None ≡ true → ⊥
        none_leads g = never g
    unbridged higher e d f (c ∷ cs) l lt =
        let shorter : length cs < n = omega (arith, lt) in
        across_up higher e c cs l.1 l.2 shorter (led_among T k c m own (all_named T (method_name_of T m)) (subst (λ s. leads_in T k m own s ≡ true) l.1 (leading d f)))

    above : HasNone T m (methods_of T k) → is_above T k (owner T m) ≡ true
    above none = further (same_class (owner T m) k) refl body.virtual.here
      where
        further : (b : Bool) → same_class (owner T m) k ≡ b → (b || is_above T k (owner T m)) ≡ true → is_above T k (owner T m) ≡ true
        further true f g = absurd (none m (H.listed k m body.virtual.selectable f) body.virtual.selectable (called_self T m))
        further false f g = g

    class_is : (cs : List ClassId) → IsLine T k cs → is_interface T k ≡ false
    class_is [] l = l.0
    class_is (c ∷ cs) l = l.0

    astray : UpAll T n → in_class T m k ≡ None → HasNone T m (methods_of T k) → HasNoBridge T m (bridges T k) → same_descriptor T m own ≡ false → (b : Bool) → is_led_astray T k m (select T k m) ≡ b → Leads T (suc n) k m own
    astray higher e none no_bridge d true f =
        absurd (bridged T k m (class_is cs line) (wanting T k m (record { selectable = body.virtual.selectable; above = above none; astray = f })) no_bridge)
    astray higher e none no_bridge d false f = unbridged higher e d f cs line lt

    described : UpAll T n → in_class T m k ≡ None → HasNone T m (methods_of T k) → HasNoBridge T m (bridges T k) → (b : Bool) → same_descriptor T m own ≡ b → Leads T (suc n) k m own
    described higher e none no_bridge true d =
        let c : is_called_as T own m ≡ true = called_back T m own (named_called T m own (sym (body_name T k m own body.body)) d) in
        inl (self_led T H (suc n) k cs line own (H.itself k m own body) m c lt, c)
    described higher e none no_bridge false d = astray higher e none no_bridge d (is_led_astray T k m (select T k m)) refl

    plain : UpAll T n → in_class T m k ≡ None → HasNone T m (methods_of T k) → HasNoBridge T m (bridges T k) → Leads T (suc n) k m own
    plain higher e none no_bridge = described higher e none no_bridge (same_descriptor T m own) refl

    crossing : UpAll T n → (in_class T m k ≡ among_bridges T m (bridges T k)) → HasNone T m (methods_of T k)
        → IsCrossed T m (bridges T k) (among_bridges T m (bridges T k)) ⊎ ((among_bridges T m (bridges T k) ≡ None) × HasNoBridge T m (bridges T k))
        → Leads T (suc n) k m own
    crossing higher e none (inl x) =
        let is : x.0.own ≡ own = crossed_is T H k m own x.0 body x.1 x.2 in
        inr (x.0, selected_step T m n k (Some (Across x.0)) (superclass T k) (e ∙ x.3) refl, x.2, subst (λ o. is_called_as T own o ≡ true) (sym is) (called_self T own))
    crossing higher e none (inr y) = plain higher (e ∙ y.0) none y.1

    by : UpAll T n → IsFound T m (methods_of T k) (in_class T m k) ⊎ ((in_class T m k ≡ among_bridges T m (bridges T k)) × HasNone T m (methods_of T k)) → Leads T (suc n) k m own
    by higher (inl f) =
        let is : own ≡ f.0 = written_is T H k m own f.0 body f.1 f.2 f.3 in
        inl (selected_step T m n k (Some (Written f.0)) (superclass T k) f.4 refl ∙ ap (λ x. Some (Written x)) (sym is), subst (λ x. is_called_as T x m ≡ true) (sym is) f.3)
    by higher (inr g) = crossing higher g.0 g.1 (across T m (bridges T k))

pub bridges_lead : (T : Table) → HasBodies T → (k : ClassId) (m own : MethodId) → is_interface T k ≡ false → IsBody T k m own → LeadsTo T k m own
bridges_lead T H k m own i body = by (H.lines k i)
  where
    with_line : (cs : List ClassId) → IsLine T k cs → length cs < class_count T + 1 → Leads T (class_count T + 1) k m own → LeadsTo T k m own
    with_line cs line lt (inl w) = inl w
    with_line cs line lt (inr b) = inr (b.0, b.1, b.2, b.3, self_led T H (class_count T + 1) k cs line own (H.itself k m own body) b.0.own b.3 lt)

    by : ((cs : List ClassId) × IsLine T k cs × (length cs < class_count T + 1)) → LeadsTo T k m own
    by l = with_line l.0 l.1 l.2 (led T H (class_count T + 1) k l.0 l.1 m own body l.2)
