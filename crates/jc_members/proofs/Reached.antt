-- A class whose supertypes are all dead is dead, and a way leads to the view.
use Rattle.std.proofs.Common.{◌≡◌, ◌≢◌, ℕ, zero, suc, ◌+◌, ◌<◌, ◌==◌, Bool, true, false, Option, Some, None, List, [], ◌∷◌, ◌++◌, length, map, take, cond, slice_get, if◌then◌else◌, refl, sym, ap, subst, ◌∙◌, arith}
use Rattle.std.specs.Prelude.{nat_eq}
use Rattle.std.proofs.lemmas.Bool.Decides.{nat_tests}
use Rattle.jc_types.specs.declared.form.Ty.{Ty, Ty-F, out-Ty}
use Rattle.jc_types.specs.declared.form.Arg.{Arg}
use Rattle.jc_types.specs.declared.ids.ClassId.{ClassId}
use Rattle.jc_types.specs.declared.table.Table.{Table}
use Rattle.jc_types.specs.Accessors.{vars_of, supers_of}
use Rattle.jc_types.specs.Reifying.{counted}
use Rattle.jc_types.specs.Substitution.{subst as put}
use Rattle.jc_judge.specs.Kinds.{class_of, class_at}
use Rattle.jc_judge.specs.Supers.{numbered}
use Rattle.jc_judge.specs.Views.{view_within, first_of, or_else, is_class, supers, supers_at, class_supers, exacts, erased}
use Rattle.jc_judge.proofs.Finds.{put_class, erased_class}
use Rattle.jc_sub.specs.Reaching.{IsDead, ClassDead, AllDead, IsUp, Leads, super_with, and_then}
use Rattle.jc_members.specs.declared.walking.Turn.{Turn}
use Rattle.jc_members.specs.Walking.{IsWay}

-- the type to which turns lead
abbrev pub follow : Table → List Turn → Ty → Option Ty
follow T [] t = Some t
follow T (f ∷ fs) t = and_then (slice_get (supers T t) f.next) (follow T fs)

-- the supertypes of a type of a class are the declared ones with its arguments
pub mapped : (T : Table) (i : ClassId) (o : Option (List Arg)) → class_supers T i o ≡ map (super_with T i o) (supers_of T i)
mapped T i None = refl
mapped T i (Some xs) = by_count (length (exacts xs) == length (vars_of T i))
  where
    by_count : (b : Bool) → (if b then map (put (vars_of T i) (exacts xs)) (supers_of T i) else map erased (supers_of T i)) ≡ map (λ t. if b then put (vars_of T i) (exacts xs) t else erased t) (supers_of T i)
    by_count true = refl
    by_count false = refl

pub keeps : (T : Table) (i : ClassId) (o : Option (List Arg)) (t : Ty) (id : ClassId) → class_of t ≡ Some id → class_of (super_with T i o t) ≡ Some id
keeps T i None t id e = erased_class t id e
keeps T i (Some xs) t id e = by_count (length (exacts xs) == length (vars_of T i))
  where
    by_count : (b : Bool) → class_of (if b then put (vars_of T i) (exacts xs) t else erased t) ≡ Some id
    by_count true = put_class (vars_of T i) (exacts xs) t id e
    by_count false = erased_class t id e

of_layer : (T : Table) (l : Ty-F Arg Ty) (x : ClassId) → class_at l ≡ Some x → (o : Option (List Arg)) × (supers_at T l ≡ class_supers T x o)
of_layer T (Ty-F.Class i xs) x e =
    let same : i ≡ x = cc in
    (counted (vars_of T i) xs, ap (λ x. class_supers T x (counted (vars_of T i) xs)) same)
of_layer T (Ty-F.Raw i) x e =
    let same : i ≡ x = cc in
    (counted (vars_of T i) [], ap (λ x. class_supers T x (counted (vars_of T i) [])) same)
of_layer T (Ty-F.Prim p) x e = cc
of_layer T (Ty-F.Array u n) x e = cc
of_layer T (Ty-F.Variable v) x e = cc
of_layer T (Ty-F.Captured v) x e = cc
of_layer T (Ty-F.Meet ts) x e = cc
of_layer T Ty-F.NullTy x e = cc

pub of_class : (T : Table) (t : Ty) (x : ClassId) → class_of t ≡ Some x → (o : Option (List Arg)) × (supers T t ≡ map (super_with T x o) (supers_of T x))
unfolding class_of supers
of_class T t x e = let up = of_layer T (out-Ty t) x e in (up.0, up.1 ∙ mapped T x up.0)

module _ (T : Table) (k : ClassId) where
  none_first : (n : ℕ) (g : Ty → Ty) → ((t : Ty) (id : ClassId) → class_of t ≡ Some id → class_of (g t) ≡ Some id) → (ts : List Ty) → AllDead T k ts → first_of (view_within T n k) (map g ts) ≡ None
  none_first n g same [] h = refl
  none_first n g same (t ∷ ts) h = by_class (none_first n g same ts h.1) (class_of t) refl h.0
    where
      by_class : first_of (view_within T n k) (map g ts) ≡ None → (o : Option ClassId) → class_of t ≡ o → ClassDead T k o → or_else (view_within T n k (g t)) (first_of (view_within T n k) (map g ts)) ≡ None
      by_class rest None e d = absurd d
      by_class rest (Some id) e d = ap (λ o. or_else o (first_of (view_within T n k) (map g ts))) (d (g t) (same t id e) n) ∙ rest

  not_class : (t : Ty) (x : ℕ) → class_of t ≡ Some (numbered x) → x ≢ k.0 → is_class k (class_of t) ≡ false
  not_class t x e ne = ap (is_class k) e ∙ grind (arith, nat_tests)

  dead_at : (x : ℕ) → x ≢ k.0 → AllDead T k (supers_of T (numbered x)) → (t : Ty) → class_of t ≡ Some (numbered x) → (n : ℕ) → view_within T n k t ≡ None
  dead_at x ne h t e zero = refl
  dead_at x ne h t e (suc n) =
      let up = of_class T t (numbered x) e in
      ap (λ (b : Bool). if b then Some t else first_of (view_within T n k) (supers T t)) (not_class t x e ne)
      ∙ ap (first_of (view_within T n k)) up.1 ∙ none_first n (super_with T (numbered x) up.0) (keeps T (numbered x) up.0) (supers_of T (numbered x)) h

  dead_more : (ts : List Ty) (i : ℕ) (t : Ty) → slice_get ts i ≡ Some t → ClassDead T k (class_of t) → AllDead T k (take i ts) → AllDead T k (take (suc i) ts)
  dead_more [] i t e d h = cc
  dead_more (u ∷ ts) zero t e d h = let same : t ≡ u = cc in (subst (λ u. ClassDead T k (class_of u)) same d, tt)
  dead_more (u ∷ ts) (suc i) t e d h = (h.0, dead_more ts i t e d h.1)

  dead_whole : (ts : List Ty) (i : ℕ) → slice_get ts i ≡ None → AllDead T k (take i ts) → AllDead T k ts
  dead_whole [] i e h = tt
  dead_whole (t ∷ ts) zero e h = cc
  dead_whole (t ∷ ts) (suc i) e h = (h.0, dead_whole ts i e h.1)

  -- one turn more
  way_more : (fs : List Turn) (x : ℕ) (f : Turn) (z : ℕ) → IsWay T k x fs f.from.0 → Leads T k f.from.0 f.next z → IsWay T k x (fs ++ f ∷ []) z
  way_more [] x f z e l = (sym e, z, subst (λ y. Leads T k y f.next z) (sym e) l, refl)
  way_more (g ∷ fs) x f z p l = (p.0, p.1, p.2, way_more fs p.1 f z p.3 l)

  -- and one less
  way_less : (fs : List Turn) (x : ℕ) (f : Turn) (z : ℕ) → IsWay T k x (fs ++ f ∷ []) z → IsWay T k x fs f.from.0 × Leads T k f.from.0 f.next z
  way_less [] x f z p = (sym p.0, subst (λ y. Leads T k y f.next z) (sym p.0) (subst (λ w. Leads T k x f.next w) p.3 p.2))
  way_less (g ∷ fs) x f z p = let r = way_less fs p.1 f z p.3 in ((p.0, p.1, p.2, r.0), r.1)

-- a walk from a class has come to another one, of whose supertypes this many are dead. The classes that are marked are dead
pub record Walking (T : Table) (k : ClassId) (from : ℕ) (at : ClassId) (next : ℕ) (turns : List Turn) (Marked : ℕ → Type 0) : Type 0 where
  pub way : IsWay T k from turns at.0
  pub other : at.0 ≢ k.0
  pub dead : AllDead T k (take next (supers_of T (numbered at.0)))
  pub left : (y : ℕ) → Marked y → IsDead T k y

module _ (T : Table) (k : ClassId) (from : ℕ) (at : ClassId) (next : ℕ) (turns : List Turn) (M : ℕ → Type 0) (w : Walking T k from at next turns M) where
  abbrev turn : Turn
  turn = record { from = at; next = next }

  class_dead : (o : Option ClassId) (y : ℕ) → o ≡ Some (numbered y) → IsDead T k y → ClassDead T k o
  class_dead None y e d = cc
  class_dead (Some id) y e d = let same : y ≡ id.0 = ap (λ (o : Option ClassId). number o) (sym e) in subst (λ y. IsDead T k y) same d
    where
      number : Option ClassId → ℕ
      number None = 0
      number (Some id) = id.0

  pub goes_past : (y n : ℕ) → IsUp T at.0 next y → M y → n ≡ next + 1 → Walking T k from at n turns M
  goes_past y n u m en = record {
    way = w.way;
    other = w.other;
    dead = subst (λ n. AllDead T k (take n (supers_of T (numbered at.0)))) (let e : suc next ≡ n = omega arith in e) (dead_more T k _ next u.up u.is (class_dead _ y u.class (w.left y m)) w.dead);
    left = w.left;
  }

  pub goes_up : (to : ClassId) → IsUp T at.0 next to.0 → to.0 ≢ k.0 → Walking T k from to 0 (turns ++ turn ∷ []) M
  goes_up to u ne = record {
    way = way_more T k turns from turn to.0 w.way (record { other = w.other; dead = w.dead; goes = u });
    other = ne;
    dead = tt;
    left = w.left;
  }

  pub arrives : IsUp T at.0 next k.0 → IsWay T k from (turns ++ turn ∷ []) k.0
  arrives u = way_more T k turns from turn k.0 w.way (record { other = w.other; dead = w.dead; goes = u })

  left_dead : slice_get (supers_of T (numbered at.0)) next ≡ None → IsDead T k at.0
  left_dead e = dead_at T k at.0 w.other (dead_whole T k _ next e w.dead)

  pub ends : slice_get (supers_of T (numbered at.0)) next ≡ None → turns ≡ [] → IsDead T k from
  ends e none =
      let same : from ≡ at.0 = subst (λ fs. IsWay T k from fs at.0) none w.way in
      subst (λ y. IsDead T k y) (sym same) (left_dead e)

  pub goes_back : (fs : List Turn) (f : Turn) (n : ℕ) (old new : ℕ → Bool) → slice_get (supers_of T (numbered at.0)) next ≡ None → turns ≡ fs ++ f ∷ [] → n ≡ f.next + 1
      → ((y : ℕ) → old y ≡ true → M y) → ((y : ℕ) → new y ≡ cond (nat_eq at.0 y) true (old y)) → Walking T k from f.from n fs (λ y. new y ≡ true)
  goes_back fs f n old new e split en marks more =
      let r = way_less T k fs from f at.0 (subst (λ fs. IsWay T k from fs at.0) split w.way) in
      record {
        way = r.0;
        other = r.1.other;
        dead = subst (λ n. AllDead T k (take n (supers_of T (numbered f.from.0)))) (let e : suc f.next ≡ n = omega arith in e) (dead_more T k _ f.next r.1.goes.up r.1.goes.is (class_dead _ at.0 r.1.goes.class (left_dead e)) r.1.dead);
        left = λ y m. by_mark y (nat_eq at.0 y) refl (sym (more y) ∙ m);
      }
    where
      by_mark : (y : ℕ) (b : Bool) → nat_eq at.0 y ≡ b → cond b true (old y) ≡ true → IsDead T k y
      by_mark y true eq m = let same : at.0 ≡ y = grind (arith, nat_tests) in subst (λ y. IsDead T k y) same (left_dead e)
      by_mark y false eq m = w.left y (marks y m)

pub begins : (T : Table) (k from : ClassId) (M : ℕ → Type 0) → from.0 ≢ k.0 → ((y : ℕ) → M y → ⊥) → Walking T k from.0 from 0 [] M
begins T k from M ne none = record { way = refl; other = ne; dead = tt; left = λ y m. absurd (none y m) }

dead_one : (T : Table) (k : ClassId) (n : ℕ) (g : Ty → Ty) → ((t : Ty) (id : ClassId) → class_of t ≡ Some id → class_of (g t) ≡ Some id) → (t : Ty) (o : Option ClassId)
    → class_of t ≡ o → ClassDead T k o → view_within T n k (g t) ≡ None
dead_one T k n g same t None e d = absurd d
dead_one T k n g same t (Some id) e d = d (g t) (same t id e) n

-- the first supertype with a view, behind those that are dead
first_up : (T : Table) (k : ClassId) (n : ℕ) (g : Ty → Ty) → ((t : Ty) (id : ClassId) → class_of t ≡ Some id → class_of (g t) ≡ Some id) → (ts : List Ty) (i : ℕ) (u v : Ty)
    → slice_get ts i ≡ Some u → AllDead T k (take i ts) → view_within T n k (g u) ≡ Some v → first_of (view_within T n k) (map g ts) ≡ Some v
first_up T k n g same [] i u v e d s = cc
first_up T k n g same (t ∷ ts) zero u v e d s =
    let here : u ≡ t = cc in
    ap (λ o. or_else o (first_of (view_within T n k) (map g ts))) (subst (λ t. view_within T n k (g t) ≡ Some v) here s)
first_up T k n g same (t ∷ ts) (suc i) u v e d s =
    ap (λ o. or_else o (first_of (view_within T n k) (map g ts))) (dead_one T k n g same t (class_of t) refl d.0) ∙ first_up T k n g same ts i u v e d.1 s

mapped_get : (g : Ty → Ty) (ts : List Ty) (i : ℕ) (u : Ty) → slice_get ts i ≡ Some u → slice_get (map g ts) i ≡ Some (g u)
mapped_get g [] i u e = cc
mapped_get g (t ∷ ts) zero u e = let same : t ≡ u = cc in ap (λ t. let r : Option Ty = Some (g t) in r) same
mapped_get g (t ∷ ts) (suc i) u e = mapped_get g ts i u e

-- a way leads to the view, where there are more steps than turns
pub led : (T : Table) (k : ClassId) (fs : List Turn) (x n : ℕ) (t : Ty) → IsWay T k x fs k.0 → class_of t ≡ Some (numbered x) → length fs < n
    → (v : Ty) × (follow T fs t ≡ Some v) × (view_within T n k t ≡ Some v)
led T k [] x zero t p e lt = absurd (omega arith)
led T k [] x (suc n) t p e lt =
    let here : is_class k (class_of t) ≡ true = ap (is_class k) e ∙ (let same : x ≡ k.0 = p in grind (arith, nat_tests)) in
    (t, refl, ap (λ (b : Bool). if b then Some t else first_of (view_within T n k) (supers T t)) here)
led T k (f ∷ fs) x zero t p e lt = absurd (omega arith)
led T k (f ∷ fs) x (suc n) t p e lt =
    let up = of_class T t (numbered x) e in
    let g = super_with T (numbered x) up.0 in
    let go = p.2.goes in
    let rest = led T k fs p.1 n (g go.up) p.3 (keeps T (numbered x) up.0 go.up (numbered p.1) go.class) (omega arith) in
    let got : slice_get (supers T t) f.next ≡ Some (g go.up) = ap (λ us. slice_get us f.next) up.1 ∙ mapped_get g _ f.next go.up go.is in (
      rest.0,
      ap (λ o. and_then o (follow T fs)) got ∙ rest.1,
      ap (λ (b : Bool). if b then Some t else first_of (view_within T n k) (supers T t)) (not_class T k t x e p.2.other)
          ∙ ap (first_of (view_within T n k)) up.1 ∙ first_up T k n g (keeps T (numbered x) up.0) _ f.next go.up rest.0 go.is p.2.dead rest.2,
    )

pub led_view : (T : Table) (k from : ClassId) (fs : List Turn) (n : ℕ) (t : Ty) → IsWay T k from.0 fs k.0 → class_of t ≡ Some from → length fs < n → follow T fs t ≡ view_within T n k t
led_view T k from fs n t p e lt = let r = led T k fs from.0 n t p e lt in r.1 ∙ sym r.2

-- ---- one of the supertypes

abbrev mapped_one : (Ty → Ty) → Option Ty → Option Ty
mapped_one g None = None
mapped_one g (Some t) = Some (g t)

get_map : (g : Ty → Ty) (ts : List Ty) (i : ℕ) → slice_get (map g ts) i ≡ mapped_one g (slice_get ts i)
get_map g [] i = refl
get_map g (t ∷ ts) zero = refl
get_map g (t ∷ ts) (suc i) = get_map g ts i

-- one of the supertypes
pub super_got : (T : Table) (i : ClassId) (o : Option (List Arg)) (n : ℕ) (t : Ty) → Some t ≡ slice_get (supers_of T i) n → Some (super_with T i o t) ≡ slice_get (class_supers T i o) n
super_got T i o n t e = ap (mapped_one (super_with T i o)) e ∙ sym (get_map (super_with T i o) (supers_of T i) n) ∙ ap (λ ts. slice_get ts n) (sym (mapped T i o))

pub super_missed : (T : Table) (i : ClassId) (o : Option (List Arg)) (n : ℕ) → None ≡ slice_get (supers_of T i) n → None ≡ slice_get (class_supers T i o) n
super_missed T i o n e = ap (mapped_one (super_with T i o)) e ∙ sym (get_map (super_with T i o) (supers_of T i) n) ∙ ap (λ ts. slice_get ts n) (sym (mapped T i o))
