-- The supertypes of a type, and that those of a class are listed within as many steps as there are classes.
use Rattle.std.proofs.Common.{◌≡◌, ◌⊎◌, inl, inr, ℕ, zero, suc, ◌≤◌, ◌<◌, Option, Some, None, List, [], ◌∷◌, ◌++◌, length, map, slice_get, refl, sym, ap, subst as along, ◌∙◌, arith}
use Rattle.std.proofs.lemmas.Option.{slice_get_within}
use Rattle.jc_types.specs.declared.declarations.ClassDecl.{ClassDecl}
use Rattle.jc_types.specs.declared.form.Ty.{Ty}
use Rattle.jc_types.specs.declared.form.Ty.TheVariants.{Class}
use Rattle.jc_types.specs.declared.ids.ClassId.{ClassId}
use Rattle.jc_types.specs.declared.table.Table.{Table}
use Rattle.jc_types.specs.Accessors.{supers_in, vars_of, class_count}
use Rattle.jc_judge.specs.Kinds.{class_of}
use Rattle.jc_judge.specs.Supers.{IsIn, IsSuper, Path}
use Rattle.jc_judge.specs.Views.{supers}
use Rattle.jc_judge.proofs.ShortPaths.{path_is_short}
use Rattle.jc_header_rules.specs.Checked.{IsAmong, HasHeaders}
use Rattle.jc_header_rules.specs.Inheriting.{with_above, above_within}
use Rattle.jc_sub.specs.Reaching.{own_arg}
use Rattle.jc_lub_laws.proofs.Viewed.{up_of}

-- a supertype of a type, itself included
pub data IsUp (T : Table) : Ty → Ty → Type 0 where
  itself : {s t : Ty} → s ≡ t → IsUp T s t
  above : {s t : Ty} (m : Ty) → IsIn m (supers T s) → IsUp T m t → IsUp T s t

-- the type of a class with its own parameters
abbrev pub own_type : Table → ClassId → Ty
own_type T id = Class id (map own_arg (vars_of T id))

among_front : (v : Ty) (xs ys : List Ty) → IsAmong v xs → IsAmong v (xs ++ ys)
among_front v [] ys o = absurd o
among_front v (x ∷ xs) ys (inl e) = inl e
among_front v (x ∷ xs) ys (inr o) = inr (among_front v xs ys o)

among_back : (v : Ty) (xs ys : List Ty) → IsAmong v ys → IsAmong v (xs ++ ys)
among_back v [] ys o = o
among_back v (x ∷ xs) ys o = inr (among_back v xs ys o)

among_above : (g : Ty → List Ty) (m v : Ty) (ts : List Ty) → IsIn m ts → (v ≡ m) ⊎ IsAmong v (g m) → IsAmong v (with_above g ts)
among_above g m v [] i o = absurd i
among_above g m v (t ∷ ts) (inl e) (inl s) = inl (s ∙ e)
among_above g m v (t ∷ ts) (inl e) (inr o) = inr (among_front v (g t) (with_above g ts) (along (λ x. IsAmong v (g x)) e o))
among_above g m v (t ∷ ts) (inr i) o = inr (among_back v (g t) (with_above g ts) (among_above g m v ts i o))

bounded : (T : Table) (a b : ℕ) → IsSuper T a b → a < class_count T
bounded T a b s = by_class (slice_get T.classes a) refl s.1
  where
    by_class : (o : Option ClassDecl) → slice_get T.classes a ≡ o → IsIn s.0 (supers_in o) → a < class_count T
    by_class (Some c) e m = slice_get_within T.classes a c e
    by_class None e m = absurd m

-- where a supertype stands: it is the type itself, or it is listed behind a path that isn't empty
data Place (T : Table) (t : Ty) (a : ℕ) (v : Ty) : Type 0 where
  here : t ≡ v → Place T t a v
  there : (x : ℕ) (xs : List ℕ) (c : ClassId) → Path (IsSuper T) (x ∷ xs) a c.0 → class_of v ≡ Some c → ((n : ℕ) → length (x ∷ xs) ≤ n → IsAmong v (above_within T n t)) → Place T t a v

module _ (T : Table) (H : HasHeaders T) where
  step_listed : (t m v : Ty) (xs : List ℕ) → IsIn m (supers T t) → (v ≡ m) ⊎ ((n : ℕ) → length xs ≤ n → IsAmong v (above_within T n m)) → (n : ℕ) → suc (length xs) ≤ n → IsAmong v (above_within T n t)
  unfolding above_within
  step_listed t m v xs i o zero l = absurd (omega (arith, l))
  step_listed t m v xs i (inl e) (suc n) l = among_above (above_within T n) m v (supers T t) i (inl e)
  step_listed t m v xs i (inr f) (suc n) l = among_above (above_within T n) m v (supers T t) i (inr (f n (let k : length xs ≤ n = omega (arith, l) in k)))

  placed : (t : Ty) (a : ClassId) (v : Ty) → class_of t ≡ Some a → IsUp T t v → Place T t a.0 v
  placed t a v e (itself s) = here s
  placed t a v e (above m i f) = let u = up_of T H t a m e i in by_place u.0 u.1 u.2 (placed m u.0 v u.1 f)
    where
      by_place : (c : ClassId) → class_of m ≡ Some c → IsSuper T a.0 c.0 → Place T m c.0 v → Place T t a.0 v
      by_place c k s (here q) =
          there a.0 [] c (refl, c.0, s, refl) (ap class_of (sym q) ∙ k) (step_listed t m v [] i (inl (sym q)))
      by_place c k s (there x xs d p q o) =
          there a.0 (x ∷ xs) d (refl, c.0, s, p) q (step_listed t m v (x ∷ xs) i (inr o))

  pub one_up : (id k : ClassId) (v w : Ty) → class_of (own_type T id) ≡ Some id → IsUp T (own_type T id) v → IsUp T (own_type T id) w → class_of v ≡ Some k → class_of w ≡ Some k → v ≡ w
  one_up id k v w c f g ev ew = by_places (placed (own_type T id) id v c f) (placed (own_type T id) id w c g)
    where
      id_same : (i j : ClassId) → Some i ≡ Some j → i ≡ j
      id_same i j e = cc

      short : (x : ℕ) (xs : List ℕ) (d : ClassId) → Path (IsSuper T) (x ∷ xs) id.0 d.0 → length (x ∷ xs) ≤ class_count T
      short x xs d p = path_is_short (IsSuper T) H.hierarchy.acyclic (class_count T) (bounded T) (x ∷ xs) id.0 d.0 p

      cycle : (u z : Ty) (x : ℕ) (xs : List ℕ) (d : ClassId) → own_type T id ≡ u → class_of u ≡ Some k → class_of z ≡ Some k → Path (IsSuper T) (x ∷ xs) id.0 d.0 → class_of z ≡ Some d → ⊥
      cycle u z x xs d s cu cz p cd =
          let own : id ≡ k = id_same id k (sym c ∙ ap class_of s ∙ cu) in
          let same : d ≡ id = id_same d k (sym cd ∙ cz) ∙ sym own in
          H.hierarchy.acyclic x xs id.0 (along (λ (j : ClassId). Path (IsSuper T) (x ∷ xs) id.0 j.0) same p)

      by_places : Place T (own_type T id) id.0 v → Place T (own_type T id) id.0 w → v ≡ w
      by_places (here s) (here t) = sym s ∙ t
      by_places (here s) (there x xs d p e o) = absurd (cycle v w x xs d s ev ew p e)
      by_places (there x xs d p e o) (here s) = absurd (cycle w v x xs d s ew ev p e)
      by_places (there x xs d p e o) (there y ys b q f r) = H.one id k v w (o (class_count T) (short x xs d p)) (r (class_count T) (short y ys b q)) ev ew
