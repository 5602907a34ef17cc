-- A view has the class that was asked for, is there exactly where that class is above, and stays with more steps.
use Rattle.std.proofs.Common.{◌≡◌, ◌↔◌, ◌⊎◌, inl, inr, ℕ, zero, suc, ◌+◌, ◌-◌, ◌<◌, ◌≤◌, ◌==◌, Bool, true, false, Option, Some, None, List, [], ◌∷◌, length, map, if◌then◌else◌, slice_get, arith, refl, sym, ap, subst, ◌∙◌}
use Rattle.std.proofs.lemmas.Bool.Decides.{nat_tests}
use Rattle.std.proofs.lemmas.Option.{slice_get_within}
use Rattle.jc_types.specs.declared.form.Ty.{Ty, Ty-F, out-Ty}
use Rattle.jc_types.specs.declared.form.Ty.TheVariants.{Class, outs-Class}
use Rattle.jc_types.specs.declared.form.Arg.{Arg}
use Rattle.jc_types.specs.declared.ids.ClassId.{ClassId}
use Rattle.jc_types.specs.declared.table.Table.{Table}
use Rattle.jc_types.specs.declared.declarations.ClassDecl.{ClassDecl}
use Rattle.jc_types.specs.Accessors.{vars_of, supers_of, supers_in, class_count}
use Rattle.jc_types.specs.Reifying.{counted}
use Rattle.jc_types.specs.Substitution.{subst as put}
use Rattle.jc_judge.specs.Kinds.{Layer, class_of, class_at}
use Rattle.jc_judge.specs.Views.{view, view_within, class_supers, first_of, or_else, is_class, supers, supers_at, exacts, erased}
use Rattle.jc_judge.specs.Supers.{Path, IsIn, IsSuper, IsAbove, numbered}
use Rattle.jc_judge.proofs.Finds.{put_class, erased_class, view_finds}
use Rattle.jc_judge_laws.specs.Hierarchy.{IsOfTable, IsHierarchy, PartHas_at, OneHas, HasSupertype, HasSupertype_at, IsNoMeet_at, AreNoMeets, IsFlat, IsFlat_at}
use Rattle.jc_judge_laws.proofs.StrictPaths.{path_is_shorter}

abbrev IsFound : Option Ty → Type 0
IsFound o = (v : Ty) × (o ≡ Some v)

-- one step of a view
step_same : (k : ClassId) (t : Ty) (b : Bool) (o : Option Ty) (v : Ty) → (b ≡ true → class_of t ≡ Some k) → (o ≡ Some v → class_of v ≡ Some k) → (if b then Some t else o) ≡ Some v → class_of v ≡ Some k
step_same k t true o v f g e = let same : t ≡ v = cc in subst (λ v. class_of v ≡ Some k) same (f refl)
step_same k t false o v f g e = g e

class_told : (k : ClassId) (o : Option ClassId) → is_class k o ≡ true → o ≡ Some k
class_told k None e = cc
class_told k (Some id) e =
    let same : id.0 ≡ k.0 = grind (arith, nat_tests) in
    ap (λ (n : ℕ). let r : Option ClassId = Some (record { 0 = n }) in r) same

first_told : (k : ClassId) (f : Ty → Option Ty) → ((u v : Ty) → f u ≡ Some v → class_of v ≡ Some k) → (ts : List Ty) (v : Ty) → first_of f ts ≡ Some v → class_of v ≡ Some k
first_told k f g [] v e = cc
first_told k f g (t ∷ ts) v e = by_head (first_told k f g ts v) (f t) refl e
  where
    by_head : (first_of f ts ≡ Some v → class_of v ≡ Some k) → (o : Option Ty) → f t ≡ o → or_else o (first_of f ts) ≡ Some v → class_of v ≡ Some k
    by_head rest None h e = rest e
    by_head rest (Some w) h e = g t v (h ∙ e)

pub view_told : (T : Table) (n : ℕ) (k : ClassId) (t v : Ty) → view_within T n k t ≡ Some v → class_of v ≡ Some k
view_told T zero k t v e = cc
view_told T (suc n) k t v e =
    step_same k t (is_class k (class_of t)) (first_of (view_within T n k) (supers T t)) v (class_told k (class_of t)) (first_told k (view_within T n k) (view_told T n k) (supers T t) v) e

pub view_has_class : (T : Table) (k : ClassId) (t v : Ty) → view T k t ≡ Some v → class_of v ≡ Some k
unfolding view
view_has_class T k t v e = view_told T (class_count T + 1) k t v e

-- each member of a mapped list comes from one
mapped : (f : Ty → Ty) (u : Ty) (ts : List Ty) → IsIn u (map f ts) → (w : Ty) × IsIn w ts × (u ≡ f w)
mapped f u [] m = absurd m
mapped f u (t ∷ ts) (inl e) = (t, inl refl, e)
mapped f u (t ∷ ts) (inr m) = let r = mapped f u ts m in (r.0, inr r.1, r.2)

first_along : (f g : Ty → Option Ty) (ts : List Ty) → ((u : Ty) → IsIn u ts → f u ≡ g u) → first_of f ts ≡ first_of g ts
first_along f g [] h = refl
first_along f g (t ∷ ts) h =
    ap (λ o. or_else o (first_of f ts)) (h t (inl refl)) ∙ ap (or_else (g t)) (first_along f g ts (λ u m. h u (inr m)))

first_from : (f : Ty → Option Ty) (ts : List Ty) (v : Ty) → first_of f ts ≡ Some v → (u : Ty) × IsIn u ts × (f u ≡ Some v)
first_from f [] v e = cc
first_from f (t ∷ ts) v e = by_head (first_from f ts v) (f t) refl e
  where
    by_head : (first_of f ts ≡ Some v → (u : Ty) × IsIn u ts × (f u ≡ Some v)) → (o : Option Ty) → f t ≡ o → or_else o (first_of f ts) ≡ Some v → (u : Ty) × IsIn u (t ∷ ts) × (f u ≡ Some v)
    by_head rest None h e = let r = rest e in (r.0, inr r.1, r.2)
    by_head rest (Some w) h e = (t, inl refl, h ∙ e)

module _ (T : Table) (h : IsHierarchy T) where
  declared_class : (a : ℕ) (w : Ty) → IsIn w (supers_of T (numbered a)) → (c : ℕ) × (class_of w ≡ Some (numbered c)) × (c < class_count T)
  declared_class a w m = by_class (class_of w) (h.classes a w m)
    where
      by_class : (o : Option ClassId) → IsOfTable T o → (c : ℕ) × (o ≡ Some (numbered c)) × (c < class_count T)
      by_class None i = absurd i
      by_class (Some id) i = (id.0, refl, i)

  abbrev Up : ℕ → Ty → Type 0
  Up a u = (c : ℕ) × (class_of u ≡ Some (numbered c)) × IsSuper T a c

  up_from : (a : ℕ) (f : Ty → Ty) → ((w : Ty) (k : ClassId) → class_of w ≡ Some k → class_of (f w) ≡ Some k) → (u : Ty) → IsIn u (map f (supers_of T (numbered a))) → Up a u
  up_from a f keeps u m =
      let r = mapped f u (supers_of T (numbered a)) m in
      let d = declared_class a r.0 r.1 in
      (d.0, subst (λ u. class_of u ≡ Some (numbered d.0)) (sym r.2) (keeps r.0 (numbered d.0) d.1), (r.0, r.1, d.1))

  up_by : (a : ℕ) (o : Option (List Arg)) (u : Ty) → IsIn u (class_supers T (numbered a) o) → Up a u
  up_by a None u m = up_from a erased erased_class u m
  up_by a (Some xs) u m = by_count (length (exacts xs) == length (vars_of T (numbered a))) m
    where
      by_count : (b : Bool) → IsIn u (if b then map (put (vars_of T (numbered a)) (exacts xs)) (supers_of T (numbered a)) else map erased (supers_of T (numbered a))) → Up a u
      by_count true m = up_from a (put (vars_of T (numbered a)) (exacts xs)) (put_class (vars_of T (numbered a)) (exacts xs)) u m
      by_count false m = up_from a erased erased_class u m

  up_at : (l : Layer) (a : ℕ) (u : Ty) → class_at l ≡ Some (numbered a) → IsIn u (supers_at T l) → Up a u
  up_at (Ty-F.Class i xs) a u e m =
      let same : i ≡ numbered a = cc in
      up_by a (counted (vars_of T i) xs) u (subst (λ j. IsIn u (class_supers T j (counted (vars_of T i) xs))) same m)
  up_at (Ty-F.Raw i) a u e m =
      let same : i ≡ numbered a = cc in
      up_by a (counted (vars_of T i) []) u (subst (λ j. IsIn u (class_supers T j (counted (vars_of T i) []))) same m)
  up_at _ a u e m = cc

  -- the class of each direct supertype is declared
  up_of : (t : Ty) (a : ℕ) (u : Ty) → class_of t ≡ Some (numbered a) → IsIn u (supers T t) → Up a u
  unfolding class_of supers
  up_of t a u e m = up_at (out-Ty t) a u e m

  above_told : (n : ℕ) (k : ClassId) (t v : Ty) (a : ℕ) → class_of t ≡ Some (numbered a) → view_within T n k t ≡ Some v → IsAbove T a k.0
  above_told zero k t v a e w = cc
  above_told (suc n) k t v a e w = by_test (λ u c. above_told n k u v c) (is_class k (class_of t)) (class_told k (class_of t)) w
    where
      by_test : ((u : Ty) (c : ℕ) → class_of u ≡ Some (numbered c) → view_within T n k u ≡ Some v → IsAbove T c k.0) → (b : Bool) → (b ≡ true → class_of t ≡ Some k) → (if b then Some t else first_of (view_within T n k) (supers T t)) ≡ Some v → IsAbove T a k.0
      by_test rest true f w =
          let both : numbered a ≡ k = (let w : Some (numbered a) ≡ Some k = sym e ∙ f refl in cc) in
          ([], ap (λ (i : ClassId). i.0) both)
      by_test rest false f w =
          let r = first_from (view_within T n k) (supers T t) v w in
          let up = up_of t a r.0 e r.1 in
          let above = rest r.0 up.0 up.1 r.2 in
          (a ∷ above.0, (refl, up.0, up.2, above.1))

  bounded : (a b : ℕ) → IsSuper T a b → a < class_count T
  bounded a b s = by_class (slice_get T.classes a) refl s.1
    where
      by_class : (o : Option ClassDecl) → slice_get T.classes a ≡ o → IsIn s.0 (supers_in o) → a < class_count T
      by_class (Some c) e m = slice_get_within T.classes a c e
      by_class None e m = absurd m

  target : (a b : ℕ) → IsSuper T a b → b < class_count T
  target a b s =
      let d = declared_class a s.0 s.1 in
      let same : numbered d.0 ≡ numbered b = (let w : Some (numbered d.0) ≡ Some (numbered b) = sym d.1 ∙ s.2 in cc) in
      subst (λ (i : ClassId). i.0 < class_count T) same d.2

  ends : (xs : List ℕ) (a b c : ℕ) → IsSuper T a c → Path (IsSuper T) xs c b → b < class_count T
  ends [] a b c s p = subst (λ b. b < class_count T) p (target a c s)
  ends (x ∷ xs) a b c s p = ends xs c b p.1 p.2 p.3

  shorter : (xs : List ℕ) (a b : ℕ) → Path (IsSuper T) xs a b → length xs < class_count T
  shorter [] a b p = let several : 1 < class_count T = h.several in omega arith
  shorter (x ∷ xs) a b p = path_is_shorter (IsSuper T) (class_count T) bounded h.acyclic (x ∷ xs) a b p (ends xs a b p.1 p.2 p.3)

  -- every path from a has at most m steps
  abbrev Reach : ℕ → ℕ → Type 0
  Reach a m = (xs : List ℕ) (b : ℕ) → Path (IsSuper T) xs a b → length xs ≤ m

  class_stays : (n m : ℕ) (k : ClassId) (t : Ty) (a : ℕ) → class_of t ≡ Some (numbered a) → Reach a m → m < n → view_within T n k t ≡ view_within T (suc n) k t
  class_stays zero m k t a e r lt = absurd (omega arith)
  class_stays (suc n) m k t a e r lt =
      ap (λ o. if is_class k (class_of t) then Some t else o) (first_along (view_within T n k) (view_within T (suc n) k) (supers T t) (λ u i. by_up u (λ m c. class_stays n m k u c) (up_of t a u e i)))
    where
      by_up : (u : Ty) → ((m c : ℕ) → class_of u ≡ Some (numbered c) → Reach c m → m < n → view_within T n k u ≡ view_within T (suc n) k u) → Up a u → view_within T n k u ≡ view_within T (suc n) k u
      by_up u rest up =
          let one : length (a ∷ []) ≤ m = r (a ∷ []) up.0 (refl, up.0, up.2, refl) in
          let reached : Reach up.0 (m - 1) = (λ xs b p. let more : length (a ∷ xs) ≤ m = r (a ∷ xs) b (refl, up.0, up.2, p) in omega arith) in
          rest (m - 1) up.0 up.1 reached (omega arith)

  object_ends : (xs : List ℕ) (b : ℕ) → Path (IsSuper T) xs 0 b → length xs ≤ 0
  object_ends [] b p = omega arith
  object_ends (x ∷ xs) b p = absurd (subst (λ ts. IsIn p.2.0 ts) h.object p.2.1)

  object_class : class_of (Class (record { 0 = 0 }) []) ≡ Some (numbered 0)
  unfolding class_of
  object_class = ap class_at (outs-Class (record { 0 = 0 }) [])

  none_along : (f g : Ty → Option Ty) (ts : List Ty) → ts ≡ [] → first_of f ts ≡ first_of g ts
  none_along f g ts e = subst (λ ts. first_of f ts ≡ first_of g ts) (sym e) refl

  -- a type without supertypes, and an array, whose supertype is Object
  bare_stays : (n : ℕ) (k : ClassId) (t : Ty) → supers T t ≡ [] → class_count T ≤ n → view_within T n k t ≡ view_within T (suc n) k t
  bare_stays zero k t e le = absurd (let several : 1 < class_count T = h.several in omega arith)
  bare_stays (suc n) k t e le = ap (λ o. if is_class k (class_of t) then Some t else o) (none_along (view_within T n k) (view_within T (suc n) k) (supers T t) e)

  array_stays : (n : ℕ) (k : ClassId) (t : Ty) → supers T t ≡ Class (record { 0 = 0 }) [] ∷ [] → class_count T ≤ n → view_within T n k t ≡ view_within T (suc n) k t
  array_stays zero k t e le = absurd (let several : 1 < class_count T = h.several in omega arith)
  array_stays (suc n) k t e le = ap (λ o. if is_class k (class_of t) then Some t else o) (along (supers T t) e)
    where
      along : (ts : List Ty) → ts ≡ Class (record { 0 = 0 }) [] ∷ [] → first_of (view_within T n k) ts ≡ first_of (view_within T (suc n) k) ts
      along ts s =
          subst (λ ts. first_of (view_within T n k) ts ≡ first_of (view_within T (suc n) k) ts) (sym s)
          (ap (λ o. or_else o None) (class_stays n 0 k (Class (record { 0 = 0 }) []) 0 object_class object_ends (let several : 1 < class_count T = h.several in omega arith)))

  long_enough : (n : ℕ) → class_count T ≤ n → class_count T - 1 < n
  long_enough n le = let several : 1 < class_count T = h.several in omega arith

  reach : (a : ℕ) → Reach a (class_count T - 1)
  reach a xs b p = let lt : length xs < class_count T = shorter xs a b p in omega arith

  -- what is no intersection, with as many steps as there are classes
  part_stays_at : (l : Layer) (n : ℕ) (k : ClassId) (t : Ty) → out-Ty t ≡ l → IsNoMeet_at l → class_count T ≤ n → view_within T n k t ≡ view_within T (suc n) k t
  unfolding class_of supers
  part_stays_at (Ty-F.Class i xs) n k t e f le = class_stays n (class_count T - 1) k t i.0 (ap class_at e) (reach i.0) (long_enough n le)
  part_stays_at (Ty-F.Raw i) n k t e f le = class_stays n (class_count T - 1) k t i.0 (ap class_at e) (reach i.0) (long_enough n le)
  part_stays_at (Ty-F.Array u m) n k t e f le = array_stays n k t (ap (supers_at T) e) le
  part_stays_at (Ty-F.Meet ts) n k t e f le = absurd f
  part_stays_at (Ty-F.Prim p) n k t e f le = bare_stays n k t (ap (supers_at T) e) le
  part_stays_at (Ty-F.Variable v) n k t e f le = bare_stays n k t (ap (supers_at T) e) le
  part_stays_at (Ty-F.Captured c) n k t e f le = bare_stays n k t (ap (supers_at T) e) le
  part_stays_at Ty-F.NullTy n k t e f le = bare_stays n k t (ap (supers_at T) e) le

  no_meet : (ts : List Ty) (u : Ty) → AreNoMeets ts → IsIn u ts → IsNoMeet_at (out-Ty u)
  no_meet [] u f m = absurd m
  no_meet (t ∷ ts) u f (inl e) = subst (λ t. IsNoMeet_at (out-Ty t)) (sym e) f.0
  no_meet (t ∷ ts) u f (inr m) = no_meet ts u f.1 m

  parts_stay : (n : ℕ) (k : ClassId) (ts : List Ty) → AreNoMeets ts → class_count T ≤ n → first_of (view_within T n k) ts ≡ first_of (view_within T (suc n) k) ts
  parts_stay n k ts f le = first_along (view_within T n k) (view_within T (suc n) k) ts (λ u m. part_stays_at (out-Ty u) n k u refl (no_meet ts u f m) le)

  meet_stays : (n : ℕ) (k : ClassId) (t : Ty) (ts : List Ty) → supers T t ≡ ts → AreNoMeets ts → class_count T < n → view_within T n k t ≡ view_within T (suc n) k t
  meet_stays zero k t ts e f lt = absurd (omega arith)
  meet_stays (suc n) k t ts e f lt =
      ap (λ o. if is_class k (class_of t) then Some t else o) (subst (λ us. first_of (view_within T n k) us ≡ first_of (view_within T (suc n) k) us) (sym e) (parts_stay n k ts f (omega arith)))

  flat_stays_at : (l : Layer) (n : ℕ) (k : ClassId) (t : Ty) → out-Ty t ≡ l → IsFlat t → class_count T < n → view_within T n k t ≡ view_within T (suc n) k t
  unfolding supers IsFlat
  flat_stays_at (Ty-F.Meet ts) n k t e f lt = meet_stays n k t ts (ap (supers_at T) e) (subst (λ l. IsFlat_at l) e f) lt
  flat_stays_at (Ty-F.Class i xs) n k t e f lt = part_stays_at (Ty-F.Class i xs) n k t e tt (omega arith)
  flat_stays_at (Ty-F.Raw i) n k t e f lt = part_stays_at (Ty-F.Raw i) n k t e tt (omega arith)
  flat_stays_at (Ty-F.Array u m) n k t e f lt = part_stays_at (Ty-F.Array u m) n k t e tt (omega arith)
  flat_stays_at (Ty-F.Prim p) n k t e f lt = part_stays_at (Ty-F.Prim p) n k t e tt (omega arith)
  flat_stays_at (Ty-F.Variable v) n k t e f lt = part_stays_at (Ty-F.Variable v) n k t e tt (omega arith)
  flat_stays_at (Ty-F.Captured c) n k t e f lt = part_stays_at (Ty-F.Captured c) n k t e tt (omega arith)
  flat_stays_at Ty-F.NullTy n k t e f lt = part_stays_at Ty-F.NullTy n k t e tt (omega arith)

  stays_up : (k : ClassId) (t : Ty) → IsFlat t → (j m : ℕ) → class_count T < m → view_within T m k t ≡ view_within T (j + m) k t
  stays_up k t f zero m lt = ap (λ n. view_within T n k t) (let e : m ≡ 0 + m = omega arith in e)
  stays_up k t f (suc j) m lt =
      stays_up k t f j m lt ∙ flat_stays_at (out-Ty t) (j + m) k t refl f (omega arith) ∙ ap (λ n. view_within T n k t) (let e : suc (j + m) ≡ suc j + m = omega arith in e)

  -- more steps change nothing
  pub view_stable : (k : ClassId) (t : Ty) (n : ℕ) → IsFlat t → class_count T < n → view_within T n k t ≡ view T k t
  unfolding view
  view_stable k t n f lt =
      let from : class_count T < class_count T + 1 = omega arith in
      let whole : (n - (class_count T + 1)) + (class_count T + 1) ≡ n = omega arith in
      sym (stays_up k t f (n - (class_count T + 1)) (class_count T + 1) from ∙ ap (λ n. view_within T n k t) whole)

  -- where a view is found
  class_exact : (n : ℕ) (k : ClassId) (t : Ty) (a : ℕ) → class_of t ≡ Some (numbered a) → class_count T ≤ n → IsFound (view_within T n k t) ↔ IsAbove T a k.0
  class_exact n k t a e le = (λ f. above_told n k t f.0 a e f.1, λ above. view_finds T above.0 n k t a above.1 e (let lt : length above.0 < class_count T = shorter above.0 a k.0 above.1 in omega arith))

  nothing : (n : ℕ) (k : ClassId) (t : Ty) → class_of t ≡ None → supers T t ≡ [] → view_within T n k t ≡ None
  nothing zero k t e f = refl
  nothing (suc n) k t e f = ap (λ o. if is_class k o then Some t else first_of (view_within T n k) (supers T t)) e ∙ ap (first_of (view_within T n k)) f

  bare_exact : (n : ℕ) (k : ClassId) (t : Ty) → class_of t ≡ None → supers T t ≡ [] → IsFound (view_within T n k t) ↔ ⊥
  bare_exact n k t e f = (λ found. (let w : None ≡ Some found.0 = sym (nothing n k t e f) ∙ found.1 in cc), λ x. absurd x)

  or_nothing : (o : Option Ty) → or_else o None ≡ o
  or_nothing None = refl
  or_nothing (Some t) = refl

  array_view : (n : ℕ) (k : ClassId) (t : Ty) → class_of t ≡ None → supers T t ≡ Class (record { 0 = 0 }) [] ∷ [] → view_within T (suc n) k t ≡ view_within T n k (Class (record { 0 = 0 }) [])
  array_view n k t e f =
      ap (λ o. if is_class k o then Some t else first_of (view_within T n k) (supers T t)) e ∙ ap (first_of (view_within T n k)) f ∙ or_nothing (view_within T n k (Class (record { 0 = 0 }) []))

  array_exact : (n : ℕ) (k : ClassId) (t : Ty) → class_of t ≡ None → supers T t ≡ Class (record { 0 = 0 }) [] ∷ [] → class_count T ≤ n → IsFound (view_within T n k t) ↔ IsAbove T 0 k.0
  array_exact zero k t e f le = absurd (let several : 1 < class_count T = h.several in omega arith)
  array_exact (suc n) k t e f le = (
    λ found. above_told n k (Class (record { 0 = 0 }) []) found.0 0 object_class (sym (array_view n k t e f) ∙ found.1),
    λ above.
        let found : IsFound (view_within T n k (Class (record { 0 = 0 }) [])) =
        view_finds T above.0 n k (Class (record { 0 = 0 }) []) 0 above.1 object_class (let short : length above.0 ≤ 0 = object_ends above.0 k.0 above.1 in let several : 1 < class_count T = h.several in omega arith) in
        (found.0, array_view n k t e f ∙ found.1),
  )

  part_exact_at : (l : Layer) (n : ℕ) (k : ClassId) (t : Ty) → out-Ty t ≡ l → IsNoMeet_at l → class_count T ≤ n → IsFound (view_within T n k t) ↔ PartHas_at T k l
  unfolding class_of supers
  part_exact_at (Ty-F.Class i xs) n k t e f le = class_exact n k t i.0 (ap class_at e) le
  part_exact_at (Ty-F.Raw i) n k t e f le = class_exact n k t i.0 (ap class_at e) le
  part_exact_at (Ty-F.Array u m) n k t e f le = array_exact n k t (ap class_at e) (ap (supers_at T) e) le
  part_exact_at (Ty-F.Meet ts) n k t e f le = absurd f
  part_exact_at (Ty-F.Prim p) n k t e f le = bare_exact n k t (ap class_at e) (ap (supers_at T) e)
  part_exact_at (Ty-F.Variable v) n k t e f le = bare_exact n k t (ap class_at e) (ap (supers_at T) e)
  part_exact_at (Ty-F.Captured c) n k t e f le = bare_exact n k t (ap class_at e) (ap (supers_at T) e)
  part_exact_at Ty-F.NullTy n k t e f le = bare_exact n k t (ap class_at e) (ap (supers_at T) e)

  either_found : (o p : Option Ty) → IsFound (or_else o p) ↔ (IsFound o ⊎ IsFound p)
  either_found None p = (λ f. inr f, elim [ inl f ↦ absurd (let w : None ≡ Some f.0 = f.1 in cc) | inr f ↦ f ])
  either_found (Some t) p = (λ f. inl f, λ f. (t, refl))

  parts_exact : (n : ℕ) (k : ClassId) (ts : List Ty) → AreNoMeets ts → class_count T ≤ n → IsFound (first_of (view_within T n k) ts) ↔ OneHas T k ts
  parts_exact n k [] f le = (λ found. (let w : None ≡ Some found.0 = found.1 in cc), λ x. absurd x)
  parts_exact n k (t ∷ ts) f le =
      let here = part_exact_at (out-Ty t) n k t refl f.0 le in
      let rest = parts_exact n k ts f.1 le in
      let split = either_found (view_within T n k t) (first_of (view_within T n k) ts) in
      (λ found. elim (split.0 found) [ inl x ↦ inl (here.0 x) | inr x ↦ inr (rest.0 x) ], λ has. split.1 (elim has [ inl x ↦ inl (here.1 x) | inr x ↦ inr (rest.1 x) ]))

  meet_view : (n : ℕ) (k : ClassId) (t : Ty) (ts : List Ty) → class_of t ≡ None → supers T t ≡ ts → view_within T (suc n) k t ≡ first_of (view_within T n k) ts
  meet_view n k t ts e f = ap (λ o. if is_class k o then Some t else first_of (view_within T n k) (supers T t)) e ∙ ap (first_of (view_within T n k)) f

  meet_exact : (n : ℕ) (k : ClassId) (t : Ty) (ts : List Ty) → class_of t ≡ None → supers T t ≡ ts → AreNoMeets ts → class_count T < n → IsFound (view_within T n k t) ↔ OneHas T k ts
  meet_exact zero k t ts e f m lt = absurd (omega arith)
  meet_exact (suc n) k t ts e f m lt =
      let parts = parts_exact n k ts m (omega arith) in
      (λ found. parts.0 (found.0, sym (meet_view n k t ts e f) ∙ found.1), λ has. let found = parts.1 has in (found.0, meet_view n k t ts e f ∙ found.1))

  flat_exact_at : (l : Layer) (n : ℕ) (k : ClassId) (t : Ty) → out-Ty t ≡ l → IsFlat_at l → class_count T < n → IsFound (view_within T n k t) ↔ HasSupertype_at T k l
  unfolding class_of supers
  flat_exact_at (Ty-F.Meet ts) n k t e f lt = meet_exact n k t ts (ap class_at e) (ap (supers_at T) e) f lt
  flat_exact_at (Ty-F.Class i xs) n k t e f lt = part_exact_at (Ty-F.Class i xs) n k t e tt (omega arith)
  flat_exact_at (Ty-F.Raw i) n k t e f lt = part_exact_at (Ty-F.Raw i) n k t e tt (omega arith)
  flat_exact_at (Ty-F.Array u m) n k t e f lt = part_exact_at (Ty-F.Array u m) n k t e tt (omega arith)
  flat_exact_at (Ty-F.Prim p) n k t e f lt = part_exact_at (Ty-F.Prim p) n k t e tt (omega arith)
  flat_exact_at (Ty-F.Variable v) n k t e f lt = part_exact_at (Ty-F.Variable v) n k t e tt (omega arith)
  flat_exact_at (Ty-F.Captured c) n k t e f lt = part_exact_at (Ty-F.Captured c) n k t e tt (omega arith)
  flat_exact_at Ty-F.NullTy n k t e f lt = part_exact_at Ty-F.NullTy n k t e tt (omega arith)

  -- a view is there exactly where its class is above the type
  pub view_exact : (k : ClassId) (t : Ty) → IsFlat t → IsFound (view T k t) ↔ HasSupertype T k t
  unfolding view IsFlat HasSupertype
  view_exact k t f = flat_exact_at (out-Ty t) (class_count T + 1) k t refl f (omega arith)

-- the view of an array as Object is Object
view_at_object : (T : Table) (n : ℕ) (t : Ty) → 1 < n → class_of t ≡ None → supers T t ≡ Class (record { 0 = 0 }) [] ∷ [] → view_within T n (numbered 0) t ≡ Some (Class (record { 0 = 0 }) [])
unfolding class_of
view_at_object T zero t lt e f = absurd (omega arith)
view_at_object T (suc zero) t lt e f = absurd (omega arith)
view_at_object T (suc (suc n)) t lt e f =
    let object : Ty = Class (record { 0 = 0 }) [] in
    let itself : view_within T (suc n) (numbered 0) object ≡ Some object = ap (λ o. if is_class (numbered 0) o then Some object else first_of (view_within T n (numbered 0)) (supers T object)) (ap class_at (outs-Class (record { 0 = 0 }) [])) in
    ap (λ o. if is_class (numbered 0) o then Some t else first_of (view_within T (suc n) (numbered 0)) (supers T t)) e ∙ ap (first_of (view_within T (suc n) (numbered 0))) f ∙ ap (λ o. or_else o None) itself

pub array_view_is_object : (T : Table) (t u : Ty) (m : ℕ) → 0 < class_count T → out-Ty t ≡ Ty-F.Array u m → view T (numbered 0) t ≡ Some (Class (record { 0 = 0 }) [])
unfolding view class_of supers
array_view_is_object T t u m lt e = view_at_object T (class_count T + 1) t (omega arith) (ap class_at e) (ap (supers_at T) e)
