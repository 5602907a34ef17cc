-- Two different supertypes of one class are met exactly where there are two.
use Rattle.std.proofs.lemmas.Bool.Decides.{nat_tests}
use Rattle.std.proofs.Common.{◌≡◌, ◌⊎◌, inl, inr, ℕ, zero, suc, ◌==◌, ◌-◌, ◌<◌, arith, Bool, true, false, not, ◌&&◌, ◌||◌, Option, Some, None, List, [], ◌∷◌, ◌++◌, if◌then◌else◌, refl, sym, ap, subst, ◌∙◌}
use Rattle.std.specs.List.{list_any}
use Rattle.std.proofs.lemmas.Bool.{or_parts}
use Rattle.jc_rules.proofs.Truths.{or_true}
use Rattle.jc_types.specs.declared.form.Ty.{Ty}
use Rattle.jc_types.specs.declared.ids.ClassId.{ClassId}
use Rattle.jc_types.specs.declared.table.Table.{Table}
use Rattle.jc_types.specs.Sameness.{same}
use Rattle.jc_types.proofs.Sameness.{same_self, same_told}
use Rattle.jc_judge.specs.Kinds.{class_of}
use Rattle.jc_judge.specs.Supers.{IsIn}
use Rattle.jc_judge.specs.Views.{is_class, supers}
use Rattle.jc_header_rules.specs.Inheriting.{above_within, conflicts, has_conflict, is_of_class, with_above}
use Rattle.jc_class_rules.specs.Climbing.{all_new, all_supers, differs, if_new, is_other, meets_other, met_as, new_beside, some_other}

-- ---- lists

in_left : (x : Ty) (xs ys : List Ty) → IsIn x xs → IsIn x (xs ++ ys)
in_left x [] ys m = absurd m
in_left x (y ∷ xs) ys (inl e) = inl e
in_left x (y ∷ xs) ys (inr m) = inr (in_left x xs ys m)

in_right : (x : Ty) (xs ys : List Ty) → IsIn x ys → IsIn x (xs ++ ys)
in_right x [] ys m = m
in_right x (y ∷ xs) ys m = inr (in_right x xs ys m)

in_either : (x : Ty) (xs ys : List Ty) → IsIn x (xs ++ ys) → IsIn x xs ⊎ IsIn x ys
in_either x [] ys m = inr m
in_either x (y ∷ xs) ys (inl e) = inl (inl e)
in_either x (y ∷ xs) ys (inr m) = by (in_either x xs ys m)
  where
    by : IsIn x xs ⊎ IsIn x ys → IsIn x (y ∷ xs) ⊎ IsIn x ys
    by (inl m) = inl (inr m)
    by (inr m) = inr m

any_of : (f : Ty → Bool) (x : Ty) (xs : List Ty) → IsIn x xs → f x ≡ true → list_any f xs ≡ true
any_of f x [] m e = absurd m
any_of f x (y ∷ ys) (inl is) e = ap (λ b. b || list_any f ys) (ap f (sym is) ∙ e)
any_of f x (y ∷ ys) (inr m) e = ap (λ b. f y || b) (any_of f x ys m e) ∙ or_true (f y)

one_of : (f : Ty → Bool) (xs : List Ty) → list_any f xs ≡ true → (x : Ty) × IsIn x xs × (f x ≡ true)
one_of f [] e = cc
one_of f (y ∷ ys) e = by (f y) refl (λ k. one_of f ys k) e
  where
    by : (b : Bool) → f y ≡ b → (list_any f ys ≡ true → (x : Ty) × IsIn x ys × (f x ≡ true)) → (b || list_any f ys) ≡ true → (x : Ty) × IsIn x (y ∷ ys) × (f x ≡ true)
    by true g h e = (y, inl refl, g)
    by false g h e = let rest = h e in (rest.0, inr rest.1, rest.2)

-- ---- of one class

turned : (x y : Ty) → is_of_class (class_of x) y ≡ true → is_of_class (class_of y) x ≡ true
turned x y e = by (class_of x) (class_of y) refl refl e
  where
    number : (a b : ℕ) → (b == a) ≡ true → (a == b) ≡ true
    number a b e = grind (arith, nat_tests)

    by : (k l : Option ClassId) → class_of x ≡ k → class_of y ≡ l → is_of_class k y ≡ true → is_of_class l x ≡ true
    by None l f g e = cc
    by (Some k) None f g e = let h : false ≡ true = sym (ap (is_class k) g) ∙ e in cc
    by (Some k) (Some l) f g e = ap (is_class l) f ∙ number k.0 l.0 (sym (ap (is_class k) g) ∙ e)

-- of each class there is one
abbrev Unique : List Ty → Type 0
Unique met = (x y : Ty) → IsIn x met → IsIn y met → is_of_class (class_of x) y ≡ true → x ≡ y

no_conflict : (met : List Ty) → Unique met → (x y : Ty) → IsIn x met → IsIn y met → conflicts x y ≡ true → ⊥
no_conflict met u x y m n e = by (is_of_class (class_of x) y) refl e
  where
    by : (b : Bool) → is_of_class (class_of x) y ≡ b → (b && not (same x y)) ≡ true → ⊥
    by false g e = cc
    by true g e = let s : same x y ≡ true = subst (λ z. same x z ≡ true) (u x y m n g) (same_self x) in let f : not true ≡ true = subst (λ b. not b ≡ true) s e in cc

-- ---- what was met of a class

met_in : (met : List Ty) (s v : Ty) → met_as met s ≡ Some v → IsIn v met × (is_of_class (class_of s) v ≡ true)
met_in [] s v e = cc
met_in (w ∷ ws) s v e = by (is_of_class (class_of s) w) refl (λ k. met_in ws s v k) e
  where
    or_w : Option Ty → Ty
    or_w None = w
    or_w (Some u) = u

    by : (b : Bool) → is_of_class (class_of s) w ≡ b → (met_as ws s ≡ Some v → IsIn v ws × (is_of_class (class_of s) v ≡ true)) → (if b then Some w else met_as ws s) ≡ Some v → IsIn v (w ∷ ws) × (is_of_class (class_of s) v ≡ true)
    by true g h e = let is : w ≡ v = ap or_w e in (inl (sym is), subst (λ u. is_of_class (class_of s) u ≡ true) is g)
    by false g h e = let rest = h e in (inr rest.0, rest.1)

none_met : (met : List Ty) (s : Ty) → met_as met s ≡ None → (v : Ty) → IsIn v met → is_of_class (class_of s) v ≡ true → ⊥
none_met [] s e v m f = m
none_met (w ∷ ws) s e v m f = by (is_of_class (class_of s) w) refl (λ k m. none_met ws s k v m f) e m
  where
    by : (b : Bool) → is_of_class (class_of s) w ≡ b → (met_as ws s ≡ None → IsIn v ws → ⊥) → (if b then Some w else met_as ws s) ≡ None → IsIn v (w ∷ ws) → ⊥
    by true g h e m = cc
    by false g h e (inl is) = let k : is_of_class (class_of s) w ≡ true = subst (λ u. is_of_class (class_of s) u ≡ true) is f in cc
    by false g h e (inr m) = h e m

new_is : (o : Option Ty) (s x : Ty) → IsIn x (new_beside o s) → (x ≡ s) × (o ≡ None)
new_is None s x (inl e) = (e, refl)
new_is None s x (inr m) = absurd m
new_is (Some v) s x m = absurd m

unique_more : (met : List Ty) (s : Ty) → Unique met → Unique (met ++ if_new met s)
unique_more met s u x y m n e = by (in_either x met (if_new met s) m) (in_either y met (if_new met s) n)
  where
    by : IsIn x met ⊎ IsIn x (if_new met s) → IsIn y met ⊎ IsIn y (if_new met s) → x ≡ y
    by (inl m) (inl n) = u x y m n e
    by (inl m) (inr n) =
        let new = new_is (met_as met s) s y n in
        absurd (none_met met s new.1 x m (subst (λ z. is_of_class (class_of z) x ≡ true) new.0 (turned x y e)))
    by (inr m) (inl n) = let new = new_is (met_as met s) s x m in absurd (none_met met s new.1 y n (subst (λ z. is_of_class (class_of z) y ≡ true) new.0 e))
    by (inr m) (inr n) = (new_is (met_as met s) s x m).0 ∙ sym ((new_is (met_as met s) s y n).0)

-- it is noted, or was met, where no other one was
noted : (met : List Ty) (s : Ty) → is_other met s ≡ false → IsIn s (met ++ if_new met s)
noted met s e = by (met_as met s) refl e
  where
    by : (o : Option Ty) → met_as met s ≡ o → differs o s ≡ false → IsIn s (met ++ new_beside o s)
    by None f e = in_right s met (s ∷ []) (inl refl)
    by (Some v) f e = in_left s met [] (subst (λ u. IsIn u met) (sym (same_told s v (is_true (same s v) e))) (met_in met s v f).0)
      where
        is_true : (b : Bool) → not b ≡ false → b ≡ true
        is_true true e = refl
        is_true false e = cc

-- ---- a level

assoc : (xs ys zs : List Ty) → (xs ++ ys) ++ zs ≡ xs ++ (ys ++ zs)
assoc [] ys zs = refl
assoc (x ∷ xs) ys zs = ap (λ l. x ∷ l) (assoc xs ys zs)

nothing_more : (xs : List Ty) → xs ≡ xs ++ []
nothing_more [] = refl
nothing_more (x ∷ xs) = ap (λ l. x ∷ l) (nothing_more xs)

unique_all : (met ss : List Ty) → Unique met → Unique (met ++ all_new met ss)
unique_all met [] u = subst Unique (nothing_more met) u
unique_all met (s ∷ ss) u =
    subst Unique (assoc met (if_new met s) (all_new (met ++ if_new met s) ss)) (unique_all (met ++ if_new met s) ss (unique_more met s u))

noted_all : (met ss : List Ty) → some_other met ss ≡ false → (x : Ty) → IsIn x ss → IsIn x (met ++ all_new met ss)
noted_all met [] e x m = absurd m
noted_all met (s ∷ ss) e x m =
    let both = or_parts (is_other met s) (some_other (met ++ if_new met s) ss) e in
    subst (IsIn x) (assoc met (if_new met s) (all_new (met ++ if_new met s) ss)) (by both.0 (λ m. noted_all (met ++ if_new met s) ss both.1 x m) m)
  where
    by : is_other met s ≡ false → (IsIn x ss → IsIn x ((met ++ if_new met s) ++ all_new (met ++ if_new met s) ss)) → IsIn x (s ∷ ss) → IsIn x ((met ++ if_new met s) ++ all_new (met ++ if_new met s) ss)
    by f h (inl is) = in_left x (met ++ if_new met s) (all_new (met ++ if_new met s) ss) (subst (λ y. IsIn y (met ++ if_new met s)) (sym is) (noted met s f))
    by f h (inr m) = h m

new_among : (met ss : List Ty) (x : Ty) → IsIn x (all_new met ss) → IsIn x ss
new_among met [] x m = m
new_among met (s ∷ ss) x m = by (in_either x (if_new met s) (all_new (met ++ if_new met s) ss) m) (λ m. new_among (met ++ if_new met s) ss x m)
  where
    by : IsIn x (if_new met s) ⊎ IsIn x (all_new (met ++ if_new met s) ss) → (IsIn x (all_new (met ++ if_new met s) ss) → IsIn x ss) → IsIn x (s ∷ ss)
    by (inl m) h = inl ((new_is (met_as met s) s x m).0)
    by (inr m) h = inr (h m)

-- two types that are there, and conflict
abbrev Two : List Ty → Type 0
Two all = (x : Ty) × (y : Ty) × IsIn x all × IsIn y all × (conflicts x y ≡ true)

widen : (met ss : List Ty) (s x : Ty) → IsIn x ((met ++ if_new met s) ++ ss) → IsIn x (met ++ (s ∷ ss))
widen met ss s x m = first (in_either x (met ++ if_new met s) ss m)
  where
    second : IsIn x met ⊎ IsIn x (if_new met s) → IsIn x (met ++ (s ∷ ss))
    second (inl m) = in_left x met (s ∷ ss) m
    second (inr m) = in_right x met (s ∷ ss) (inl ((new_is (met_as met s) s x m).0))

    first : IsIn x (met ++ if_new met s) ⊎ IsIn x ss → IsIn x (met ++ (s ∷ ss))
    first (inl m) = second (in_either x met (if_new met s) m)
    first (inr m) = in_right x met (s ∷ ss) (inr m)

widened : (met ss : List Ty) (s : Ty) → Two ((met ++ if_new met s) ++ ss) → Two (met ++ (s ∷ ss))
widened met ss s two = (two.0, two.1, widen met ss s two.0 two.2, widen met ss s two.1 two.3, two.4)

met_two : (met ss : List Ty) (s v : Ty) → met_as met s ≡ Some v → same s v ≡ false → Two (met ++ (s ∷ ss))
met_two met ss s v f g =
    let found = met_in met s v f in
    (s, v, in_right s met (s ∷ ss) (inl refl), in_left v met (s ∷ ss) found.0, ap (λ b. b && not (same s v)) found.1 ∙ ap not g)

clash_of : (met ss : List Ty) → some_other met ss ≡ true → Two (met ++ ss)
clash_of met [] e = cc
clash_of met (s ∷ ss) e = by (met_as met s) refl (λ k. widened met ss s (clash_of (met ++ if_new met s) ss k)) e
  where
    here : (v : Ty) (b : Bool) → same s v ≡ b → met_as met s ≡ Some v → (some_other (met ++ if_new met s) ss ≡ true → Two (met ++ (s ∷ ss))) → (not b || some_other (met ++ if_new met s) ss) ≡ true → Two (met ++ (s ∷ ss))
    here v true g f h e = h e
    here v false g f h e = met_two met ss s v f g

    by : (o : Option Ty) → met_as met s ≡ o → (some_other (met ++ if_new met s) ss ≡ true → Two (met ++ (s ∷ ss))) → (differs o s || some_other (met ++ if_new met s) ss) ≡ true → Two (met ++ (s ∷ ss))
    by None f h e = h e
    by (Some v) f h e = here v (same s v) refl f h e

-- ---- supertypes

super_of : (T : Table) (level : List Ty) (s : Ty) → IsIn s (all_supers T level) → (t : Ty) × IsIn t level × IsIn s (supers T t)
super_of T [] s m = absurd m
super_of T (t ∷ ts) s m = by (in_either s (supers T t) (all_supers T ts) m) (λ m. super_of T ts s m)
  where
    by : IsIn s (supers T t) ⊎ IsIn s (all_supers T ts) → (IsIn s (all_supers T ts) → (u : Ty) × IsIn u ts × IsIn s (supers T u)) → (u : Ty) × IsIn u (t ∷ ts) × IsIn s (supers T u)
    by (inl m) h = (t, inl refl, m)
    by (inr m) h = let rest = h m in (rest.0, inr rest.1, rest.2)

super_in : (T : Table) (level : List Ty) (t s : Ty) → IsIn t level → IsIn s (supers T t) → IsIn s (all_supers T level)
super_in T [] t s m n = absurd m
super_in T (u ∷ us) t s (inl is) n = in_left s (supers T u) (all_supers T us) (subst (λ v. IsIn s (supers T v)) is n)
super_in T (u ∷ us) t s (inr m) n = in_right s (supers T u) (all_supers T us) (super_in T us t s m n)

above_in : (f : Ty → List Ty) (ts : List Ty) (s x : Ty) → IsIn s ts → (x ≡ s) ⊎ IsIn x (f s) → IsIn x (with_above f ts)
above_in f [] s x m o = absurd m
above_in f (t ∷ ts) s x (inl is) (inl e) = in_left x (t ∷ f t) (with_above f ts) (inl (e ∙ is))
above_in f (t ∷ ts) s x (inl is) (inr n) = in_left x (t ∷ f t) (with_above f ts) (inr (subst (λ u. IsIn x (f u)) is n))
above_in f (t ∷ ts) s x (inr m) o = in_right x (t ∷ f t) (with_above f ts) (above_in f ts s x m o)

above_of : (f : Ty → List Ty) (ts : List Ty) (x : Ty) → IsIn x (with_above f ts) → (s : Ty) × IsIn s ts × ((x ≡ s) ⊎ IsIn x (f s))
above_of f [] x m = absurd m
above_of f (t ∷ ts) x m = by (in_either x (t ∷ f t) (with_above f ts) m) (λ m. above_of f ts x m)
  where
    by : IsIn x (t ∷ f t) ⊎ IsIn x (with_above f ts) → (IsIn x (with_above f ts) → (s : Ty) × IsIn s ts × ((x ≡ s) ⊎ IsIn x (f s))) → (s : Ty) × IsIn s (t ∷ ts) × ((x ≡ s) ⊎ IsIn x (f s))
    by (inl (inl e)) h = (t, inl refl, inl e)
    by (inl (inr n)) h = (t, inl refl, inr n)
    by (inr n) h = let rest = h n in (rest.0, inr rest.1, rest.2)

-- ---- what is met as another one is one of two

-- of the supertypes of a level those that are met first of their classes
abbrev next : Table → List Ty → List Ty → List Ty
next T met level = all_new met (all_supers T level)

module _ (T : Table) (all : List Ty) where
  sound : (n : ℕ) (met level : List Ty) → ((x : Ty) → IsIn x met → IsIn x all) → ((t x : Ty) → IsIn t level → IsIn x (above_within T n t) → IsIn x all) → meets_other T n met level ≡ true → Two all
  unfolding meets_other above_within
  sound zero met level h g e = cc
  sound (suc n) met level h g e = by (some_other met (all_supers T level)) refl (λ k. sound n (met ++ next T met level) (next T met level) more further k) e
    where
      direct : (x : Ty) → IsIn x (all_supers T level) → IsIn x all
      direct x m = let up = super_of T level x m in g up.0 x up.1 (above_in (above_within T n) (supers T up.0) x x up.2 (inl refl))

      one : (x : Ty) → IsIn x met ⊎ IsIn x (all_supers T level) → IsIn x all
      one x (inl m) = h x m
      one x (inr m) = direct x m

      there : (x : Ty) → IsIn x (met ++ all_supers T level) → IsIn x all
      there x m = one x (in_either x met (all_supers T level) m)

      other : (x : Ty) → IsIn x met ⊎ IsIn x (next T met level) → IsIn x all
      other x (inl m) = h x m
      other x (inr m) = direct x (new_among met (all_supers T level) x m)

      more : (x : Ty) → IsIn x (met ++ next T met level) → IsIn x all
      more x m = other x (in_either x met (next T met level) m)

      further : (t x : Ty) → IsIn t (next T met level) → IsIn x (above_within T n t) → IsIn x all
      further t x m o =
          let up = super_of T level t (new_among met (all_supers T level) t m) in
          g up.0 x up.1 (above_in (above_within T n) (supers T up.0) t x up.2 (inr o))

      by : (b : Bool) → some_other met (all_supers T level) ≡ b → (meets_other T n (met ++ next T met level) (next T met level) ≡ true → Two all)
          → (b || meets_other T n (met ++ next T met level) (next T met level)) ≡ true → Two all
      by true f k e = let two = clash_of met (all_supers T level) f in (two.0, two.1, there two.0 two.2, there two.1 two.3, two.4)
      by false f k e = k e

-- ---- where none is met as another one, all are met

-- the direct supertypes of what was met are met too, but of those of the last level
abbrev Closed : Table → List Ty → List Ty → Type 0
Closed T met level = (v : Ty) → IsIn v met → IsIn v level ⊎ ((s : Ty) → IsIn s (supers T v) → IsIn s met)

record Reached (T : Table) (n : ℕ) (met level : List Ty) : Type 0 where
  pub all : List Ty
  pub unique : Unique all
  pub kept : (x : Ty) → IsIn x met → IsIn x all
  pub above : (v x : Ty) → IsIn v met ⊎ IsIn v level → IsIn x (above_within T n v) → IsIn x all

super_noted : (T : Table) (met level : List Ty) → some_other met (all_supers T level) ≡ false → (v s : Ty) → IsIn v level → IsIn s (supers T v) → IsIn s (met ++ next T met level)
super_noted T met level e v s l k = noted_all met (all_supers T level) e s (super_in T level v s l k)

super_met : (T : Table) (met level : List Ty) → some_other met (all_supers T level) ≡ false → Closed T met level → (v s : Ty) → IsIn v met ⊎ IsIn v level → IsIn s (supers T v) → IsIn s (met ++ next T met level)
super_met T met level e c v s (inr l) k = super_noted T met level e v s l k
super_met T met level e c v s (inl m) k = by (c v m)
  where
    by : IsIn v level ⊎ ((s : Ty) → IsIn s (supers T v) → IsIn s met) → IsIn s (met ++ next T met level)
    by (inl l) = super_noted T met level e v s l k
    by (inr h) = in_left s met (next T met level) (h s k)

closed_more : (T : Table) (met level : List Ty) → some_other met (all_supers T level) ≡ false → Closed T met level → Closed T (met ++ next T met level) (next T met level)
closed_more T met level e c v m = by (in_either v met (next T met level) m)
  where
    by : IsIn v met ⊎ IsIn v (next T met level) → IsIn v (next T met level) ⊎ ((s : Ty) → IsIn s (supers T v) → IsIn s (met ++ next T met level))
    by (inl m) = inr (λ s k. super_met T met level e c v s (inl m) k)
    by (inr m) = inl m

complete : (T : Table) (n : ℕ) (met level : List Ty) → Unique met → Closed T met level → meets_other T n met level ≡ false → Reached T n met level
unfolding meets_other above_within
complete T zero met level u c e = record { all = met; unique = u; kept = λ x m. m; above = λ v x o m. absurd m }
complete T (suc n) met level u c e =
    let parts = or_parts (some_other met (all_supers T level)) (meets_other T n (met ++ next T met level) (next T met level)) e in
    made parts.0 (complete T n (met ++ next T met level) (next T met level) (unique_all met (all_supers T level) u) (closed_more T met level parts.0 c) parts.1)
  where
    reach : (rest : Reached T n (met ++ next T met level) (next T met level)) (x s : Ty) → IsIn s (met ++ next T met level) → (x ≡ s) ⊎ IsIn x (above_within T n s) → IsIn x rest.all
    reach rest x s k (inl e) = subst (λ y. IsIn y rest.all) (sym e) (rest.kept s k)
    reach rest x s k (inr j) = rest.above s x (inl k) j

    made : some_other met (all_supers T level) ≡ false → Reached T n (met ++ next T met level) (next T met level) → Reached T (suc n) met level
    made f rest = record {
      all = rest.all;
      unique = rest.unique;
      kept = λ x m. rest.kept x (in_left x met (next T met level) m);
      above = λ v x o m. let up = above_of (above_within T n) (supers T v) x m in reach rest x up.0 (super_met T met level f c v up.0 o up.1) up.2;
    }

-- ---- both

own_above : (T : Table) (n : ℕ) (own t x : Ty) → IsIn t (own ∷ []) → IsIn x (above_within T n t) → IsIn x (above_within T n own)
own_above T n own t x (inl e) m = subst (λ u. IsIn x (above_within T n u)) e m
own_above T n own t x (inr k) m = absurd k

none_met_told : (T : Table) (n : ℕ) (own : Ty) → meets_other T n [] (own ∷ []) ≡ false → (b : Bool) → has_conflict (above_within T n own) ≡ b → false ≡ b
none_met_told T n own e false f = refl
none_met_told T n own e true f =
    let reached = complete T n [] (own ∷ []) (λ x y m k f. absurd m) (λ v m. absurd m) e in
    let one = one_of (λ s. list_any (conflicts s) (above_within T n own)) (above_within T n own) f in
    let two = one_of (conflicts one.0) (above_within T n own) one.2 in
    absurd (no_conflict reached.all reached.unique one.0 two.0 (reached.above own one.0 (inr (inl refl)) one.1) (reached.above own two.0 (inr (inl refl)) two.1) two.2)

met_told : (T : Table) (n : ℕ) (own : Ty) → meets_other T n [] (own ∷ []) ≡ has_conflict (above_within T n own)
met_told T n own = by (meets_other T n [] (own ∷ [])) refl
  where
    by : (b : Bool) → meets_other T n [] (own ∷ []) ≡ b → b ≡ has_conflict (above_within T n own)
    by true e =
        let two = sound T (above_within T n own) n [] (own ∷ []) (λ x m. absurd m) (λ t x m k. own_above T n own t x m k) e in
        sym (any_of (λ s. list_any (conflicts s) (above_within T n own)) two.0 (above_within T n own) two.2 (any_of (conflicts two.0) two.1 (above_within T n own) two.3 two.4))
    by false e = none_met_told T n own e (has_conflict (above_within T n own)) refl

pub conflict_told : (T : Table) (n : ℕ) (own : Ty) (b : Bool) → b ≡ meets_other T n [] (own ∷ []) → b ≡ has_conflict (above_within T n own)
conflict_told T n own b e = e ∙ met_told T n own

-- a level with no types leads nowhere
nothing_met : (T : Table) (n : ℕ) (met : List Ty) → meets_other T n met [] ≡ false
unfolding meets_other
nothing_met T zero met = refl
nothing_met T (suc n) met = nothing_met T n (met ++ [])

-- one level further
climb_on : (T : Table) (n : ℕ) (met level more next : List Ty) → 0 < n → false ≡ some_other met (all_supers T level) → more ≡ met ++ all_new met (all_supers T level) → next ≡ all_new met (all_supers T level) → meets_other T (n - 1) more next ≡ meets_other T n met level
unfolding meets_other
climb_on T zero met level more next lt e f g = absurd (omega arith)
climb_on T (suc n) met level more next lt e f g =
    let one : suc n - 1 ≡ n = omega arith in
    ap (λ m. meets_other T m more next) one ∙ ap (λ l. meets_other T n l next) f ∙ ap (meets_other T n (met ++ all_new met (all_supers T level))) g
    ∙ ap (λ b. b || meets_other T n (met ++ all_new met (all_supers T level)) (all_new met (all_supers T level))) e

pub climb_next : (T : Table) (n : ℕ) (met level more next old : List Ty) → 0 < n → false ≡ some_other met (all_supers T level) → more ≡ met ++ all_new met (all_supers T level) → next ≡ old ++ all_new met (all_supers T level) → old ≡ []
    → meets_other T (n - 1) more next ≡ meets_other T n met level
climb_next T n met level more next old lt e f g none = climb_on T n met level more next lt e f (g ∙ ap (λ l. l ++ all_new met (all_supers T level)) none)

pub climb_found : (T : Table) (n : ℕ) (met level : List Ty) → 0 < n → true ≡ some_other met (all_supers T level) → true ≡ meets_other T n met level
unfolding meets_other
climb_found T zero met level lt e = absurd (omega arith)
climb_found T (suc n) met level lt e = ap (λ b. b || meets_other T n (met ++ all_new met (all_supers T level)) (all_new met (all_supers T level))) e

pub climb_done : (T : Table) (n : ℕ) (met level : List Ty) → n ≡ 0 → false ≡ meets_other T n met level
unfolding meets_other
climb_done T zero met level e = refl
climb_done T (suc n) met level e = absurd (omega arith)

pub nothing_left : (T : Table) (n : ℕ) (met level : List Ty) → level ≡ [] → false ≡ meets_other T n met level
nothing_left T n met level e = sym (ap (meets_other T n met) e ∙ nothing_met T n met)

pub ruleset climbing = (climb_found, climb_done, nothing_left)
