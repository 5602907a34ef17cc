-- Of a type with exact arguments the supertypes of one class are one, so that a view of a view is a view.
use Rattle.std.proofs.Common.{◌≡◌, ◌≢◌, inl, inr, ℕ, zero, suc, ◌+◌, ◌==◌, Bool, true, false, Option, Some, None, List, [], ◌∷◌, ◌++◌, length, map, if◌then◌else◌, arith, refl, sym, ap, subst as along, ◌∙◌}
use Rattle.std.proofs.lemmas.List.{length-map}
use Rattle.std.proofs.lemmas.Bool.Decides.{nat_tests}
use Rattle.jc_types.specs.declared.form.Arg.{Arg, Arg-F}
use Rattle.jc_types.specs.declared.form.Arg.TheVariants.{Exact, outs-Exact}
use Rattle.jc_types.specs.declared.form.Ty.{Ty, Ty-F, out-Ty}
use Rattle.jc_types.specs.declared.form.Ty.TheVariants.{Class, Raw, Variable, outs-Class, outs-Raw}
use Rattle.jc_types.specs.declared.ids.ClassId.{ClassId}
use Rattle.jc_types.specs.declared.ids.VarId.{VarId}
use Rattle.jc_types.specs.declared.table.Table.{Table}
use Rattle.jc_types.specs.Accessors.{supers_of, vars_of, class_count}
use Rattle.jc_types.specs.Reifying.{counted}
use Rattle.jc_types.specs.Substitution.{subst, subst_arg, replacement}
use Rattle.jc_types.proofs.Substituted.{subst-Class, subst-Raw, subst-Variable, subst_arg-Exact}
use Rattle.jc_judge.specs.Kinds.{class_of, class_at}
use Rattle.jc_judge.specs.Supers.{IsIn, IsAbove}
use Rattle.jc_judge.specs.Views.{exacts, exact_at, erased, erased_at, class_supers, supers, supers_at, or_else, first_of, is_class, view_within, view}
use Rattle.jc_judge.proofs.Finds.{views_found}
use Rattle.jc_sub.specs.Reaching.{own_arg}
use Rattle.jc_header_rules.specs.Checked.{IsAmong, AreDistinct, IsSupertype, with_arguments, without, HasHeaders}
use Rattle.jc_lub_laws.proofs.Homs.{Hom, substitution}
use Rattle.jc_lub_laws.proofs.Listed.{IsUp, itself, above, own_type, one_up}
use Rattle.jc_lub_laws.proofs.Viewed.{HasClass, in_mapped, into_mapped, class_kept, up_of, supers_mapped}

-- ---- the class of a type

pub class_made : (i : ClassId) (xs : List Arg) → class_of (Class i xs) ≡ Some i
unfolding class_of
class_made i xs = ap class_at (outs-Class i xs)

pub raw_made : (i : ClassId) → class_of (Raw i) ≡ Some i
unfolding class_of
raw_made i = ap class_at (outs-Raw i)

id_same : (i j : ClassId) → Some i ≡ Some j → i ≡ j
id_same i j e = cc

class_told : (k : ClassId) (o : Option ClassId) → is_class k o ≡ true → o ≡ Some k
class_told k None e = cc
class_told k (Some id) e =
    let same : id.0 ≡ k.0 = grind (arith, nat_tests) in
    ap (λ (n : ℕ). let r : Option ClassId = Some (record { 0 = n }) in r) same

-- ---- supertypes

pub first_from : (f : Ty → Option Ty) (v : Ty) (ts : List Ty) → first_of f ts ≡ Some v → (m : Ty) × IsIn m ts × (f m ≡ Some v)
first_from f v [] e = cc
first_from f v (t ∷ ts) e = by_first (f t) refl e (first_from f v ts)
  where
    by_first : (o : Option Ty) → f t ≡ o → or_else o (first_of f ts) ≡ Some v → (first_of f ts ≡ Some v → (m : Ty) × IsIn m ts × (f m ≡ Some v)) → (m : Ty) × IsIn m (t ∷ ts) × (f m ≡ Some v)
    by_first (Some x) e h r = (t, (inl refl), (e ∙ h))
    by_first None e h r = let x = r h in (x.0, (inr x.1), x.2)

module _ (T : Table) where
  pub up_trans : (s t u : Ty) → IsUp T s t → IsUp T t u → IsUp T s u
  up_trans s t u (itself e) g = along (λ s. IsUp T s u) (sym e) g
  up_trans s t u (above m i f) g = above m i (up_trans m t u f g)

  -- a view is a supertype, and of the class that is asked for
  view_up_within : (n : ℕ) (k : ClassId) (s v : Ty) → view_within T n k s ≡ Some v → IsUp T s v × (class_of v ≡ Some k)
  view_up_within zero k s v e = cc
  view_up_within (suc n) k s v e = by_test (is_class k (class_of s)) (class_told k (class_of s)) e (λ m. view_up_within n k m v)
    where
      by_test : (b : Bool) → (b ≡ true → class_of s ≡ Some k) → (if b then Some s else first_of (view_within T n k) (supers T s)) ≡ Some v → ((m : Ty) → view_within T n k m ≡ Some v → IsUp T m v × (class_of v ≡ Some k)) → IsUp T s v × (class_of v ≡ Some k)
      by_test true c e r = let same : s ≡ v = cc in (itself same, along (λ v. class_of v ≡ Some k) same (c refl))
      by_test false c e r = let x = first_from (view_within T n k) v (supers T s) e in let y = r x.0 x.2 in (above x.0 x.1 y.0, y.1)

  pub view_up : (k : ClassId) (s v : Ty) → view T k s ≡ Some v → IsUp T s v × (class_of v ≡ Some k)
  unfolding view
  view_up k s v e = view_up_within (class_count T + 1) k s v e

-- ---- parameters and what stands for them

var_same : (v w : VarId) → (v.0 == w.0) ≡ true → v ≡ w
var_same v w e = let n : v.0 ≡ w.0 = grind (arith, nat_tests) in ap (λ (n : ℕ). let r : VarId = record { 0 = n } in r) n

skipped : (w : VarId) (e : Ty) (vars : List VarId) (es : List Ty) (xs : List VarId) → (IsAmong w xs → ⊥) → map (replacement (w ∷ vars) (e ∷ es)) xs ≡ map (replacement vars es) xs
skipped w e vars es [] apart = refl
skipped w e vars es (x ∷ xs) apart = by_test (w.0 == x.0) (var_same w x) (skipped w e vars es xs (λ m. apart (inr m)))
  where
    by_test : (b : Bool) → (b ≡ true → w ≡ x) → map (replacement (w ∷ vars) (e ∷ es)) xs ≡ map (replacement vars es) xs → (if b then e else replacement vars es x) ∷ map (replacement (w ∷ vars) (e ∷ es)) xs ≡ replacement vars es x ∷ map (replacement vars es) xs
    by_test true f r = absurd (apart (inl (f refl)))
    by_test false f r = ap (λ ts. replacement vars es x ∷ ts) r

all_replaced : (vars : List VarId) (es : List Ty) → AreDistinct vars → length es ≡ length vars → map (replacement vars es) vars ≡ es
all_replaced [] [] d e = refl
all_replaced [] (t ∷ es) d e = absurd (omega (arith, e))
all_replaced (w ∷ vars) [] d e = absurd (omega (arith, e))
all_replaced (w ∷ vars) (t ∷ es) d e =
    let met : (w.0 == w.0) ≡ true = grind (arith, nat_tests) in
    ap (λ (b : Bool). (if b then t else replacement vars es w) ∷ map (replacement (w ∷ vars) (t ∷ es)) vars) met
    ∙ ap (λ ts. t ∷ ts) (skipped w t vars es vars d.0 ∙ all_replaced vars es d.1 (let l : length es ≡ length vars = omega (arith, e) in l))

own_replaced : (vars : List VarId) (es : List Ty) (xs : List VarId) → map (subst_arg vars es) (map own_arg xs) ≡ map Exact (map (replacement vars es) xs)
own_replaced vars es [] = refl
own_replaced vars es (x ∷ xs) =
    let head : subst_arg vars es (own_arg x) ≡ Exact (replacement vars es x) = subst_arg-Exact vars es (Variable x) ∙ ap Exact (subst-Variable vars es x) in
    ap (λ (a : Arg). a ∷ map (subst_arg vars es) (map own_arg xs)) head ∙ ap (λ more. Exact (replacement vars es x) ∷ more) (own_replaced vars es xs)

pub exact_put : (vars : List VarId) (es ts : List Ty) → map (subst_arg vars es) (map Exact ts) ≡ map Exact (map (subst vars es) ts)
exact_put vars es [] = refl
exact_put vars es (t ∷ ts) =
    ap (λ (a : Arg). a ∷ map (subst_arg vars es) (map Exact ts)) (subst_arg-Exact vars es t) ∙ ap (λ more. Exact (subst vars es t) ∷ more) (exact_put vars es ts)

pub exacts_made : (es : List Ty) → exacts (map Exact es) ≡ es
exacts_made [] = refl
exacts_made (e ∷ es) = ap (λ (l : Arg-F Arg Ty). exact_at l ++ exacts (map Exact es)) (outs-Exact e) ∙ ap (λ ts. e ∷ ts) (exacts_made es)

counted_all : (vars : List VarId) (args : List Arg) → length args ≡ length vars → counted vars args ≡ Some args
counted_all [] [] e = refl
counted_all [] (a ∷ args) e = absurd (omega (arith, e))
counted_all (v ∷ vars) args e = ap (λ (b : Bool). if b then Some args else None) (let same : (length args == length (v ∷ vars)) ≡ true = grind (arith, nat_tests) in same)

abbrev the_empty : List Arg
the_empty = []

counted_none : (vars : List VarId) → vars ≢ [] → counted vars (the_empty) ≡ None
counted_none [] ne = absurd (ne refl)
counted_none (v ∷ vars) ne = ap (λ (b : Bool). if b then Some the_empty else None) (let same : (0 == length (v ∷ vars)) ≡ false = grind (arith, nat_tests) in same)

module _ (T : Table) where
  -- the supertypes of a type with exact arguments, and of a raw one
  pub full_supers : (id : ClassId) (es : List Ty) → length es ≡ length (vars_of T id) → supers T (Class id (map Exact es)) ≡ map (subst (vars_of T id) es) (supers_of T id)
  unfolding supers
  full_supers id es e =
      let many : length (map Exact es) ≡ length (vars_of T id) = length-map es Exact ∙ e in
      let test : (length es == length (vars_of T id)) ≡ true = grind (arith, nat_tests, e) in
      ap (supers_at T) (outs-Class id (map Exact es))
      ∙ ap (class_supers T id) (counted_all (vars_of T id) (map Exact es) many)
      ∙ ap (λ ts. if length ts == length (vars_of T id) then map (subst (vars_of T id) ts) (supers_of T id) else map erased (supers_of T id)) (exacts_made es)
      ∙ ap (λ (b : Bool). if b then map (subst (vars_of T id) es) (supers_of T id) else map erased (supers_of T id)) test

  pub raw_supers : (id : ClassId) → vars_of T id ≢ [] → supers T (Raw id) ≡ map erased (supers_of T id)
  unfolding supers
  raw_supers id ne = ap (supers_at T) (outs-Raw id) ∙ ap (class_supers T id) (counted_none (vars_of T id) ne)

  pub plain_supers : (id : ClassId) → vars_of T id ≡ [] → supers T (Raw id) ≡ supers T (Class id [])
  unfolding supers
  plain_supers id e = ap (supers_at T) (outs-Raw id) ∙ sym (ap (supers_at T) (outs-Class id []))

pub erased_made : (i : ClassId) (x : Arg) (xs : List Arg) → erased (Class i (x ∷ xs)) ≡ Raw i
unfolding erased
erased_made i x xs = ap (erased_at (Class i (x ∷ xs))) (outs-Class i (x ∷ xs))

pub erased_plain : (i : ClassId) → erased (Class i []) ≡ Class i []
unfolding erased
erased_plain i = ap (erased_at (Class i [])) (outs-Class i [])

pub erased_raw : (i : ClassId) → erased (Raw i) ≡ Raw i
unfolding erased
erased_raw i = ap (erased_at (Raw i)) (outs-Raw i)

module _ (T : Table) (H : HasHeaders T) where
  put_supertype : (vars : List VarId) (es : List Ty) (s : Ty) → IsSupertype T s → IsSupertype T (subst vars es s)
  put_supertype vars es s (with_arguments {id = j} types e l) =
      with_arguments (map (subst vars es) types) (ap (subst vars es) e ∙ subst-Class vars es j (map Exact types) ∙ ap (Class j) (exact_put vars es types)) (length-map types (subst vars es) ∙ l)
  put_supertype vars es s (without {id = j} e ne) = without (ap (subst vars es) e ∙ subst-Raw vars es j) ne

  none_left : (vars : List VarId) (n : ℕ) → suc n ≡ length vars → vars ≢ []
  none_left [] n e f = absurd (omega (arith, e))
  none_left (v ∷ vars) n e f = cc

  erased_supertype : (s : Ty) → IsSupertype T s → IsSupertype T (erased s)
  erased_supertype s (with_arguments {id = j} [] e l) = with_arguments [] (ap erased e ∙ erased_plain j) l
  erased_supertype s (with_arguments {id = j} (t ∷ types) e l) =
      without (ap erased e ∙ erased_made j (Exact t) (map Exact types)) (none_left (vars_of T j) (length types) (let m : suc (length types) ≡ length (vars_of T j) = omega (arith, l) in m))
  erased_supertype s (without {id = j} e ne) = without (ap erased e ∙ erased_raw j) ne

  pub super_supertype : (t m : Ty) → IsSupertype T t → IsIn m (supers T t) → IsSupertype T m
  super_supertype t m (with_arguments {id = i} es e l) n =
      let p = in_mapped (subst (vars_of T i) es) m (supers_of T i) (along (IsIn m) (ap (supers T) e ∙ full_supers T i es l) n) in
      along (IsSupertype T) (sym p.2) (put_supertype (vars_of T i) es p.0 (H.supertypes i p.0 p.1))
  super_supertype t m (without {id = i} e ne) n =
      let p = in_mapped erased m (supers_of T i) (along (IsIn m) (ap (supers T) e ∙ raw_supers T i ne) n) in
      along (IsSupertype T) (sym p.2) (erased_supertype p.0 (H.supertypes i p.0 p.1))

  pub up_supertype : (t v : Ty) → IsSupertype T t → IsUp T t v → IsSupertype T v
  up_supertype t v s (itself e) = along (IsSupertype T) e s
  up_supertype t v s (above m i f) = up_supertype m v (super_supertype t m s i) f

  pub up_above : (t : Ty) (a : ClassId) (v : Ty) → class_of t ≡ Some a → IsUp T t v → (c : ClassId) × (class_of v ≡ Some c) × IsAbove T a.0 c.0
  up_above t a v e (itself s) = (a, ap class_of (sym s) ∙ e, ([], refl))
  up_above t a v e (above m i f) =
      let u = up_of T H t a m e i in
      let r = up_above m u.0 v u.1 f in
      (r.0, r.1, (a.0 ∷ r.2.0, (refl, u.0.0, u.2, r.2.1)))

  pub found : (t : Ty) (a : ClassId) (v : Ty) (k : ClassId) → class_of t ≡ Some a → IsUp T t v → class_of v ≡ Some k → (w : Ty) × (view T k t ≡ Some w)
  found t a v k e f c =
      let r = up_above t a v e f in
      let same : r.0 ≡ k = id_same r.0 k (sym r.1 ∙ c) in
      views_found T H.hierarchy.acyclic k t a.0 e (along (λ (j : ClassId). IsAbove T a.0 j.0) same r.2)

  -- a supertype of an image is the image of a supertype
  up_mapped : (g : Ty → Ty) (h : Arg → Arg) → Hom g h → (s t v : Ty) → HasClass t → s ≡ g t → IsUp T s v → (w : Ty) × IsUp T t w × HasClass w × (v ≡ g w)
  up_mapped g h hom s t v c e (itself f) = (t, itself refl, c, sym f ∙ e)
  up_mapped g h hom s t v c e (above m i f) =
      let p = in_mapped g m (supers T t) (along (IsIn m) (ap (supers T) e ∙ supers_mapped T H g h hom t c) i) in
      let u = up_of T H t c.0 p.0 c.1 p.1 in
      let r = up_mapped g h hom m p.0 v (u.0, u.1) p.2 f in
      (r.0, above p.0 p.1 r.1, r.2, r.3)

  abbrev pub IsFull : Ty → Type 0
  IsFull t = (id : ClassId) × (ks : List Ty) × (t ≡ Class id (map Exact ks)) × (length ks ≡ length (vars_of T id))

  pub full_own : (id : ClassId) (ks : List Ty) → length ks ≡ length (vars_of T id) → Class id (map Exact ks) ≡ subst (vars_of T id) ks (own_type T id)
  full_own id ks e =
      sym (subst-Class (vars_of T id) ks id (map own_arg (vars_of T id))
      ∙ ap (Class id) (own_replaced (vars_of T id) ks (vars_of T id) ∙ ap (map Exact) (all_replaced (vars_of T id) ks (H.parameters id) e)))

  -- of one class there is one
  one_each : (k v w : Ty) (j : ClassId) → IsFull k → IsUp T k v → IsUp T k w → class_of v ≡ Some j → class_of w ≡ Some j → v ≡ w
  one_each k v w j full f g ev ew =
      let id = full.0 in
      let h = substitution (vars_of T id) full.1 in
      let e : k ≡ subst (vars_of T id) full.1 (own_type T id) = full.2 ∙ full_own id full.1 full.3 in
      let c : HasClass (own_type T id) = (id, class_made id (map own_arg (vars_of T id))) in
      let x = up_mapped (subst (vars_of T id) full.1) (subst_arg (vars_of T id) full.1) h k (own_type T id) v c e f in
      let y = up_mapped (subst (vars_of T id) full.1) (subst_arg (vars_of T id) full.1) h k (own_type T id) w c e g in
      let cx : class_of x.0 ≡ Some j = x.2.1 ∙ sym (class_kept (subst (vars_of T id) full.1) (subst_arg (vars_of T id) full.1) h x.0 x.2.0 x.2.1) ∙ sym (ap class_of x.3) ∙ ev in
      let cy : class_of y.0 ≡ Some j = y.2.1 ∙ sym (class_kept (subst (vars_of T id) full.1) (subst_arg (vars_of T id) full.1) h y.0 y.2.0 y.2.1) ∙ sym (ap class_of y.3) ∙ ew in
      x.3 ∙ ap (subst (vars_of T id) full.1) (one_up T H id j x.0 y.0 (class_made id (map own_arg (vars_of T id))) x.1 y.1 cx cy) ∙ sym y.3

  full_class : (k : Ty) (full : IsFull k) → class_of k ≡ Some full.0
  full_class k full = ap class_of full.2 ∙ class_made full.0 (map Exact full.1)

  pub view_of_up : (k v : Ty) (j : ClassId) → IsFull k → IsUp T k v → class_of v ≡ Some j → view T j k ≡ Some v
  view_of_up k v j full f c =
      let w = found k full.0 v j (full_class k full) f c in
      let u = view_up T j k w.0 w.1 in
      w.1 ∙ ap Some (one_each k w.0 v j full u.0 f u.1 c)

  -- a view of a view is a view
  pub compose : (k w v : Ty) (i j : ClassId) → IsFull k → view T i k ≡ Some w → view T j w ≡ Some v → view T j k ≡ Some v
  compose k w v i j full e f =
      let a = view_up T i k w e in
      let b = view_up T j w v f in
      view_of_up k v j full (up_trans T k w v a.0 b.0) b.1

  pub view_supertype : (k v : Ty) (j : ClassId) → IsFull k → view T j k ≡ Some v → IsSupertype T v
  view_supertype k v j full e = up_supertype k v (with_arguments full.1 full.2 full.3) (view_up T j k v e).0

  -- a supertype with arguments of a raw type is one of each type of its class
  raw_not_class : (i j : ClassId) (xs : List Arg) → Raw i ≡ Class j xs → ⊥
  raw_not_class i j xs e = let o : Ty-F.Raw i ≡ Ty-F.Class j xs = sym (outs-Raw i) ∙ ap out-Ty e ∙ outs-Class j xs in cc

  class_id : (i j : ClassId) (xs : List Arg) (t : Ty) → t ≡ Class i xs → class_of t ≡ Some j → i ≡ j
  class_id i j xs t e c = id_same i j (sym (class_made i xs) ∙ sym (ap class_of e) ∙ c)

  raw_id : (i j : ClassId) (t : Ty) → t ≡ Raw i → class_of t ≡ Some j → i ≡ j
  raw_id i j t e c = id_same i j (sym (raw_made i) ∙ sym (ap class_of e) ∙ c)

  pub raw_up : (r k v : Ty) (i : ClassId) → r ≡ Raw i → IsSupertype T k → class_of k ≡ Some i → IsUp T r v → IsFull v → IsUp T k v
  raw_up r k v i e s c (itself f) full = absurd (raw_not_class i full.0 (map Exact full.1) (sym e ∙ f ∙ full.2))
  raw_up r k v i e (without {id = j} g ne) c (above m n f) full =
      let same : j ≡ i = raw_id j i k g c in
      along (λ (x : Ty). IsUp T x v) (e ∙ ap Raw (sym same) ∙ sym g) (above m n f)
  raw_up r k v i e (with_arguments {id = j} es g l) c (above m n f) full =
      let same : j ≡ i = class_id j i (map Exact es) k g c in
      let many : length es ≡ length (vars_of T i) = l ∙ ap (λ x. length (vars_of T x)) same in
      let is : k ≡ Class i (map Exact es) = g ∙ ap (λ x. Class x (map Exact es)) same in
      by_vars (λ k j e s c. raw_up m k v j e s c f full) is many (vars_of T i) refl
    where
      no_types : (xs : List Ty) (vs : List VarId) → length xs ≡ length vs → vs ≡ [] → xs ≡ []
      no_types [] vs l z = refl
      no_types (x ∷ xs) [] l z = absurd (omega (arith, l))
      no_types (x ∷ xs) (y ∷ ys) l z = cc

      by_super : (w : Ty) → IsIn w (supers_of T i) → m ≡ erased w → k ≡ Class i (map Exact es) → length es ≡ length (vars_of T i)
          → ((k : Ty) (j : ClassId) → m ≡ Raw j → IsSupertype T k → class_of k ≡ Some j → IsUp T k v) → IsSupertype T w → IsUp T k v
      by_super w o q is many rest (with_arguments {id = d} [] x y) =
          let same : subst (vars_of T i) es w ≡ m = ap (subst (vars_of T i) es) x ∙ subst-Class (vars_of T i) es d [] ∙ sym (q ∙ ap erased x ∙ erased_plain d) in
          above m (along (IsIn m) (sym (ap (supers T) is ∙ full_supers T i es many)) (along (λ z. IsIn z (map (subst (vars_of T i) es) (supers_of T i))) same (into_mapped (subst (vars_of T i) es) w (supers_of T i) o))) f
      by_super w o q is many rest (with_arguments {id = d} (t ∷ ts) x y) =
          let u : Ty = subst (vars_of T i) es w in
          let member : IsIn u (supers T k) = along (IsIn u) (sym (ap (supers T) is ∙ full_supers T i es many)) (into_mapped (subst (vars_of T i) es) w (supers_of T i) o) in
          let made : u ≡ Class d (map (subst_arg (vars_of T i) es) (map Exact (t ∷ ts))) = ap (subst (vars_of T i) es) x ∙ subst-Class (vars_of T i) es d (map Exact (t ∷ ts)) in
          above u member (rest u d (q ∙ ap erased x ∙ erased_made d (Exact t) (map Exact ts)) (put_supertype (vars_of T i) es w (with_arguments (t ∷ ts) x y)) (ap class_of made ∙ class_made d (map (subst_arg (vars_of T i) es) (map Exact (t ∷ ts)))))
      by_super w o q is many rest (without {id = d} x ne) =
          let same : subst (vars_of T i) es w ≡ m = ap (subst (vars_of T i) es) x ∙ subst-Raw (vars_of T i) es d ∙ sym (q ∙ ap erased x ∙ erased_raw d) in
          above m (along (IsIn m) (sym (ap (supers T) is ∙ full_supers T i es many)) (along (λ z. IsIn z (map (subst (vars_of T i) es) (supers_of T i))) same (into_mapped (subst (vars_of T i) es) w (supers_of T i) o))) f

      by_vars : ((k : Ty) (j : ClassId) → m ≡ Raw j → IsSupertype T k → class_of k ≡ Some j → IsUp T k v) → k ≡ Class i (map Exact es) → length es ≡ length (vars_of T i) → (vs : List VarId) → vars_of T i ≡ vs → IsUp T k v
      by_vars rest is many [] z =
          let none : es ≡ [] = no_types es (vars_of T i) many z in
          let alike : supers T r ≡ supers T k = ap (supers T) e ∙ plain_supers T i z ∙ sym (ap (supers T) (is ∙ ap (λ ts. Class i (map Exact ts)) none)) in
          above m (along (IsIn m) alike n) f
      by_vars rest is many (x ∷ xs) z =
          let p = in_mapped erased m (supers_of T i) (along (IsIn m) (ap (supers T) e ∙ raw_supers T i (λ none. let no : x ∷ xs ≡ [] = sym z ∙ none in cc)) n) in
          by_super p.0 p.1 p.2 is many rest (H.supertypes i p.0 p.1)

  -- .. so its views with arguments are theirs
  pub raw_compose : (k w v : Ty) (i j : ClassId) → IsFull k → view T i k ≡ Some w → view T j (Raw i) ≡ Some v → IsFull v → view T j k ≡ Some v
  raw_compose k w v i j full e f is =
      let a = view_up T i k w e in
      let b = view_up T j (Raw i) v f in
      view_of_up k v j full (up_trans T k w v a.0 (raw_up (Raw i) w v i refl (view_supertype k w i full e) a.1 b.0 is)) b.1
