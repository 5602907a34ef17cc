-- Classes above one another, by paths (JLS 8.1.4, 9.1.3).
use Rattle.std.proofs.Common.{◌≡◌, ℕ, ◌<◌, arith, Bool, true, false, not, ◌&&◌, Option, Some, None, List, [], ◌∷◌, length, map, slice_get, refl, sym, ap, subst, ◌∙◌}
use Rattle.std.proofs.lemmas.Bool.Decides.{nat_tests}
use Rattle.std.proofs.lemmas.Option.{slice_get_within}
use Rattle.jc_types.specs.declared.declarations.ClassDecl.{ClassDecl}
use Rattle.jc_types.specs.declared.form.Arg.TheVariants.{Exact}
use Rattle.jc_types.specs.declared.form.Ty.{Ty}
use Rattle.jc_types.specs.declared.form.Ty.TheVariants.{Variable, outs-Class}
use Rattle.jc_types.specs.declared.ids.ClassId.{ClassId}
use Rattle.jc_types.specs.declared.table.Table.{Table}
use Rattle.jc_types.specs.Accessors.{supers_in, vars_of}
use Rattle.jc_judge.specs.Kinds.{class_at, class_of}
use Rattle.jc_judge.specs.Supers.{HasNoCycle, IsAbove, IsIn, IsSuper, Path}
use Rattle.jc_judge.specs.Views.{view}
use Rattle.jc_judge.proofs.Finds.{views_found}
use Rattle.jc_judge_laws.specs.Hierarchy.{HasSupertype, HasSupertype_at, IsFlat, IsFlat_at, IsHierarchy}
use Rattle.jc_judge_laws.proofs.Viewed.{view_exact}
use Rattle.jc_overriding.specs.Overriding.{is_above, is_viewed, same_class}
use Rattle.jc_overriding.specs.Viewing.{own_type}

-- ---- paths

-- with one step at least
abbrev pub Up : Table → ℕ → ℕ → Type 0
Up T a b = (x : ℕ) × (xs : List ℕ) × Path (IsSuper T) (x ∷ xs) a b

module _ (T : Table) where
  joined : (xs : List ℕ) (a b c : ℕ) → Path (IsSuper T) xs a b → Up T b c → Up T a c
  joined [] a b c p q = subst (λ d. Up T d c) (sym p) q
  joined (x ∷ xs) a b c p q = let rest = joined xs p.1 b c p.3 q in (a, rest.0 ∷ rest.1, (refl, p.1, p.2, rest.2))

  pub up_above : (a b c : ℕ) → IsAbove T a b → Up T b c → Up T a c
  up_above a b c p q = joined p.0 a b c p.1 q

  pub up_up : (a b c : ℕ) → Up T a b → Up T b c → Up T a c
  up_up a b c p q = up_above a b c (p.0 ∷ p.1, p.2) q

  pub no_round : HasNoCycle T → (a b : ℕ) → Up T a b → a ≡ b → ⊥
  no_round acyclic a b p is = acyclic p.0 p.1 a (subst (λ c. Path (IsSuper T) (p.0 ∷ p.1) a c) (sym is) p.2)

  -- a class with one above it is of the table
  pub of_table : (a b : ℕ) → Up T a b → a < length T.classes
  of_table a b p = by (slice_get T.classes a) refl p.2.2.1
    where
      by : (o : Option ClassDecl) → slice_get T.classes a ≡ o → IsIn p.2.2.0 (supers_in o) → a < length T.classes
      by (Some c) e m = slice_get_within T.classes a c e
      by None e m = absurd m

-- ---- views

module _ (T : Table) (h : IsHierarchy T) (k l : ClassId) where
  flat_own : IsFlat (own_type T k)
  unfolding IsFlat
  flat_own = subst IsFlat_at (sym (outs-Class k (map (λ v. Exact (Variable v)) (vars_of T k)))) tt

  has_above : HasSupertype T l (own_type T k) → IsAbove T k.0 l.0
  unfolding HasSupertype
  has_above s = subst (HasSupertype_at T l) (outs-Class k (map (λ v. Exact (Variable v)) (vars_of T k))) s

  class_own : class_of (own_type T k) ≡ Some k
  unfolding class_of
  class_own = ap class_at (outs-Class k (map (λ v. Exact (Variable v)) (vars_of T k)))

  -- a class as which the type of class k has a view is k, or above it
  pub viewed_above : is_viewed (view T l (own_type T k)) ≡ true → IsAbove T k.0 l.0
  viewed_above e = by (view T l (own_type T k)) refl e
    where
      by : (o : Option Ty) → view T l (own_type T k) ≡ o → is_viewed o ≡ true → IsAbove T k.0 l.0
      by None f e = cc
      by (Some v) f e = has_above ((view_exact T h l (own_type T k) flat_own).0 (v, f))

  one_step : same_class k l ≡ false → IsAbove T k.0 l.0 → Up T k.0 l.0
  one_step e ([], p) = absurd (grind (arith, nat_tests))
  one_step e (x ∷ xs, p) = (x, xs, p)

  halves : (a b : Bool) → (a && b) ≡ true → (a ≡ true) × (b ≡ true)
  halves true b e = (refl, e)
  halves false b e = cc

  not_true : (b : Bool) → not b ≡ true → b ≡ false
  not_true true e = cc
  not_true false e = refl

  pub above_up : is_above T k l ≡ true → Up T k.0 l.0
  above_up e =
      let both = halves (not (same_class k l)) (is_viewed (view T l (own_type T k))) e in
      one_step (not_true (same_class k l) both.0) (viewed_above both.1)

  pub up_is_above : Up T k.0 l.0 → is_above T k l ≡ true
  up_is_above p = by (same_class k l) refl
    where
      seen : (v : Ty) × (view T l (own_type T k) ≡ Some v)
      seen = views_found T h.acyclic l (own_type T k) k.0 class_own (p.0 ∷ p.1, p.2)

      by : (b : Bool) → same_class k l ≡ b → is_above T k l ≡ true
      by true e = absurd (no_round T h.acyclic k.0 l.0 p (let is : k.0 ≡ l.0 = grind (arith, nat_tests) in is))
      by false e = ap (λ b. not b && is_viewed (view T l (own_type T k))) e ∙ ap is_viewed seen.1
