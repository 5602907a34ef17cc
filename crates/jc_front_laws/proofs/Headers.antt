-- The table of sources that break no rule is a hierarchy, and has the headers of checked classes.
use Rattle.std.proofs.Common.{◌≡◌, ◌⊎◌, inl, inr, ◌<◌, ◌+◌, ◌==◌, ℕ, zero, suc, Bool, true, false, Option, Some, None, List, [], ◌∷◌, length, map, slice_get, if◌then◌else◌, arith, refl, sym, ap, subst, ◌∙◌}
use Rattle.jc_types.specs.declared.declarations.ClassDecl.{ClassDecl}
use Rattle.jc_types.specs.declared.declarations.TypePlaces.{TypePlaces}
use Rattle.jc_types.specs.declared.form.Arg.{Arg}
use Rattle.jc_types.specs.declared.form.Arg.TheVariants.{Exact}
use Rattle.jc_types.specs.declared.form.Ty.{Ty}
use Rattle.jc_types.specs.declared.form.Ty.TheVariants.{Variable, outs-Class}
use Rattle.jc_types.specs.declared.ids.ClassId.{ClassId}
use Rattle.jc_types.specs.declared.table.Table.{Table}
use Rattle.jc_types.specs.Accessors.{class_count, supers_in, supers_of, vars_of}
use Rattle.jc_types.specs.Inside.{inside}
use Rattle.jc_types.specs.Reifying.{counted}
use Rattle.jc_types.specs.Substitution.{subst as put}
use Rattle.jc_judge.specs.Kinds.{class_of}
use Rattle.jc_judge.specs.Supers.{IsIn, numbered}
use Rattle.jc_judge.specs.Views.{class_supers, erased, exacts, supers, supers_at}
use Rattle.jc_judge_laws.specs.Hierarchy.{IsHierarchy}
use Rattle.jc_overriding.specs.Viewing.{own_type}
use Rattle.jc_header_rules.specs.Checked.{AreDistinct, HasHeaders, IsAmong, IsOver, IsSupertype, with_arguments}
use Rattle.jc_header_rules.specs.Inheriting.{above_within, all_above, with_above}
use Rattle.jc_header_laws.specs.Facts.{IsNumber, IsPair}
use Rattle.jc_header_laws.proofs.Fitting.{are_one}
use Rattle.jc_header_laws.proofs.Supertypes.{supertype}
use Rattle.jc_declares.specs.Making.{object, table_of}
use Rattle.jc_declares.specs.Sites.{sites_of}
use Rattle.jc_table_laws.specs.Supertypes.{IsClassType}
use Rattle.jc_table_laws.proofs.Distinct.{parameters_distinct}
use Rattle.jc_table_laws.proofs.Hierarchies.{hierarchy}
use Rattle.jc_table_laws.proofs.Supers.{supers_formed, supers_over, supers_placed}
use Rattle.jc_front.specs.declared.reading.Sources.{Sources}
use Rattle.jc_front.specs.Stages.{AreSources}

-- ---- places in lists

in_at : (t : Ty) (ts : List Ty) → IsIn t ts → (n : ℕ) × (slice_get ts n ≡ Some t)
in_at t [] m = absurd m
in_at t (u ∷ us) (inl e) = (zero, ap (λ (x : Ty). Some x) (sym e))
in_at t (u ∷ us) (inr m) = let rest = in_at t us m in (suc rest.0, rest.1)

number_from : {X : Type 0} (i : ℕ) (x : X) (xs : List X) (n : ℕ) → slice_get xs n ≡ Some x → IsNumber i (i + n) x xs
number_from i x [] zero e = absurd (let z : ⊥ = cc in z)
number_from i x [] (suc n) e = absurd (let z : ⊥ = cc in z)
number_from i x (y ∷ ys) zero e = inl ((let g : i + 0 ≡ i = omega arith in g), (let g : x ≡ y = cc in g))
number_from i x (y ∷ ys) (suc n) e = inr (subst (λ (k : ℕ). IsNumber (suc i) k x ys) (let g : suc i + n ≡ i + suc n = omega arith in g) (number_from (suc i) x ys n e))

number_at : {X : Type 0} (x : X) (xs : List X) (n : ℕ) → slice_get xs n ≡ Some x → IsNumber 0 n x xs
number_at x xs n e = subst (λ (k : ℕ). IsNumber 0 k x xs) (let g : 0 + n ≡ n = omega arith in g) (number_from 0 x xs n e)

pair_at : (t : Ty) (p : TypePlaces) (ts : List Ty) (ps : List TypePlaces) (n : ℕ) → slice_get ts n ≡ Some t → slice_get ps n ≡ Some p → IsPair t p ts ps
pair_at t p [] ps zero e f = absurd (let z : ⊥ = cc in z)
pair_at t p [] ps (suc n) e f = absurd (let z : ⊥ = cc in z)
pair_at t p (u ∷ us) [] zero e f = absurd (let z : ⊥ = cc in z)
pair_at t p (u ∷ us) [] (suc n) e f = absurd (let z : ⊥ = cc in z)
pair_at t p (u ∷ us) (q ∷ qs) zero e f = inl ((let g : t ≡ u = cc in g), (let g : p ≡ q = cc in g))
pair_at t p (u ∷ us) (q ∷ qs) (suc n) e f = inr (pair_at t p us qs n e f)

-- ---- above what is no class there is nothing

module _ (T : Table) (id : ClassId) (none : supers_of T id ≡ []) where
  by_count : (b : Bool) (args : List Arg) → (if b then map (put (vars_of T id) (exacts args)) (supers_of T id) else map erased (supers_of T id)) ≡ []
  by_count true args = ap (λ (ts : List Ty). map (put (vars_of T id) (exacts args)) ts) none
  by_count false args = ap (λ (ts : List Ty). map erased ts) none

  no_supers : (o : Option (List Arg)) → class_supers T id o ≡ []
  no_supers None = ap (λ (ts : List Ty). map erased ts) none
  no_supers (Some args) = by_count (length (exacts args) == length (vars_of T id)) args

  own_alone : supers T (own_type T id) ≡ []
  unfolding supers
  own_alone =
      ap (supers_at T) (outs-Class id (map (λ v. Exact (Variable v)) (vars_of T id))) ∙ no_supers (counted (vars_of T id) (map (λ v. Exact (Variable v)) (vars_of T id)))

none_above : (T : Table) (n : ℕ) (t : Ty) → supers T t ≡ [] → above_within T n t ≡ []
unfolding above_within
none_above T zero t e = refl
none_above T (suc n) t e = ap (with_above (above_within T n)) e

-- ---- sources

module _ (texts : List (List ℕ)) (sources : Sources) (are : AreSources texts sources) where
  abbrev T : Table
  T = sources.table

  is_table : T ≡ table_of (sites_of sources.units)
  is_table = are.declared.names.is_table

  -- what holds of the table of the units
  moved : (P : Table → Type 0) → P (table_of (sites_of sources.units)) → P sources.table
  moved P p = subst P (sym is_table) p

  pub have_hierarchy : IsHierarchy sources.table
  have_hierarchy =
      moved IsHierarchy
      (hierarchy sources.units are.declared.names.unbroken (subst (λ (t : Table). supers_of t (numbered 0) ≡ []) is_table are.declared.object.supers)
      (subst (λ (t : Table). 1 < class_count t) is_table are.declared.object.others))

  have_parameters : (id : ClassId) → AreDistinct (vars_of T id)
  have_parameters = moved (λ (t : Table). (id : ClassId) → AreDistinct (vars_of t id)) (parameters_distinct (sites_of sources.units))

  have_scoped : (id : ClassId) (s : Ty) → IsIn s (supers_of T id) → IsOver (λ v. IsAmong v (vars_of T id)) s
  have_scoped =
      moved (λ (t : Table). (id : ClassId) (s : Ty) → IsIn s (supers_of t id) → IsOver (λ v. IsAmong v (vars_of t id)) s) (supers_over sources.units are.declared.names.unbroken)

  have_formed : (id : ClassId) (s : Ty) → IsIn s (supers_of T id) → IsClassType T s
  have_formed = moved (λ (t : Table). (id : ClassId) (s : Ty) → IsIn s (supers_of t id) → IsClassType t s) (supers_formed sources.units are.declared.names.unbroken)

  have_placed : (c n : ℕ) (class : ClassDecl) (t : Ty) → slice_get T.classes c ≡ Some class → slice_get class.supers.types n ≡ Some t
      → (p : TypePlaces) × (slice_get class.supers.places n ≡ Some p) × ((t ≡ object) ⊎ (length p.classes ≡ length (inside t)))
  have_placed =
      moved
      (λ (table : Table). (c n : ℕ) (class : ClassDecl) (t : Ty) → slice_get table.classes c ≡ Some class → slice_get class.supers.types n ≡ Some t
      → (p : TypePlaces) × (slice_get class.supers.places n ≡ Some p) × ((t ≡ object) ⊎ (length p.classes ≡ length (inside t))))
      (supers_placed sources.units are.declared.names.unbroken)

  object_supertype : (t : Ty) → t ≡ object → IsSupertype T t
  object_supertype t e = with_arguments [] e (sym (ap (λ vs. length vs) are.declared.object.parameters))

  declared_supertype : (id : ClassId) (class : ClassDecl) → slice_get T.classes id.0 ≡ Some class → (t : Ty) → IsIn t class.supers.types → IsClassType T t → IsSupertype T t
  declared_supertype id class at t m formed =
      let place = in_at t class.supers.types m in
      let placed = have_placed id.0 place.0 class t at place.1 in
      elim placed.2 [
        | inl e ↦ object_supertype t e
        | inr l ↦ supertype T t formed.class are.headers.types id.0 class (number_at class T.classes id.0 at) placed.0 (pair_at t placed.0 class.supers.types class.supers.places place.0 place.1 placed.1) l formed.is
            formed.raw
      ]

  have_supertypes : (id : ClassId) (s : Ty) → IsIn s (supers_of T id) → IsSupertype T s
  have_supertypes id s m = by (slice_get T.classes id.0) refl m
    where
      by : (o : Option ClassDecl) → slice_get T.classes id.0 ≡ o → IsIn s (supers_in o) → IsSupertype T s
      by None e h = absurd h
      by (Some class) e h = declared_supertype id class e s h (have_formed id s m)

  have_one : (id k : ClassId) (s t : Ty) → IsAmong s (all_above T id) → IsAmong t (all_above T id) → class_of s ≡ Some k → class_of t ≡ Some k → s ≡ t
  have_one id k s t m n e f = by (slice_get T.classes id.0) refl
    where
      by : (o : Option ClassDecl) → slice_get T.classes id.0 ≡ o → s ≡ t
      by (Some class) at = are_one T are.headers.headers id.0 class (number_at class T.classes id.0 at) s t k m n e f
      by None at =
          let nothing : all_above T id ≡ [] = none_above T (class_count T) (own_type T id) (own_alone T id (ap supers_in at)) in
          absurd (subst (λ (ts : List Ty). IsAmong s ts) nothing m)

  pub have_headers : HasHeaders sources.table
  have_headers = record { hierarchy = have_hierarchy; parameters = have_parameters; scoped = have_scoped; supertypes = have_supertypes; one = have_one }
