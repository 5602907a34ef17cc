-- Objects, strings, stores and checks are alike in typed and in erased runs.
use Rattle.std.proofs.Common.{◌≡◌, ℕ, zero, suc, List, [], ◌∷◌, ◌++◌, map, Bool, true, false, Option, Some, None, refl, ap, sym, ◌∙◌, arith}
use Rattle.std.proofs.lemmas.Bool.Decides.{nat_tests}
use Rattle.std.specs.Prelude.{pos, ◌==◌, if◌then◌else◌, int_lt, nat_lt, unsigned_abs, length, slice_get}
use Rattle.jc_types.specs.declared.erased.Base.TheVariants as base
use Rattle.jc_types.specs.declared.erased.Erased.{Erased}
use Rattle.jc_types.specs.declared.form.Arg.{Arg}
use Rattle.jc_types.specs.declared.form.Ty.{Ty, Ty-F, out-Ty}
use Rattle.jc_types.specs.declared.ids.ClassId.{ClassId}
use Rattle.jc_types.specs.declared.table.Table.{Table}
use Rattle.jc_types.specs.Erasing.{erasure, own_base}
use Rattle.jc_running.specs.declared.seen.Check.{Check}
use Rattle.jc_running.specs.declared.value.Value.{Value}
use Rattle.jc_running.specs.declared.value.Value.TheVariants.{Whole, Long, Address, Null}
use Rattle.jc_running.specs.Outcomes.{Val, give, both_ways, spend}
use Rattle.jc_running.specs.Shows.{with_failure}
use Rattle.jc_heaps.specs.declared.given.Given.{Given}
use Rattle.jc_heaps.specs.declared.given.Given.TheVariants.{Gives, ByZero, Unfit}
use Rattle.jc_heaps.specs.declared.state.Object.{Object}
use Rattle.jc_heaps.specs.Classes.{element_of, is_of}
use Rattle.jc_heaps.specs.Erases.{ErasedState, erase_object, erase_state}
use Rattle.jc_heaps.specs.Making.{checked, constant_string, fail, given, if_interned, if_passes, interned_in, keep_string, kept_as, passes, place_of, storable, store, stored_if}
use Rattle.jc_heaps.specs.States.{change, look, local, set_kept, set_kept_in, set_local, some_or_wrong}
use Rattle.jc_heaps.proofs.Erases as x
use Rattle.jc_typed.specs.declared.program.Known.{Known}
use Rattle.jc_meaning.specs.declared.frame.Frame.{Frame}
use Rattle.jc_meaning.specs.declared.frame.Read.{Read}
use Rattle.jc_right.specs.Firm.{is_base_layer}
use Rattle.jc_meaning.specs.Kept.{TypedRun, TypedState, born, born_at, typed_keeping}
use Rattle.jc_erased.specs.Programs.{ErasedRun, erased_keeping}
use Rattle.jc_erase_spec.proofs.Heaps as h
use Rattle.jc_erase_spec.proofs.Keeps as k
use Rattle.jc_erase_laws.proofs.Types.{HasBase, erasure_base}

module _ (T : Table) where
  -- ---- choices and parts of states
  pub if_alike : {A : Type 0} (b : Bool) {m n : TypedRun A} {m' n' : ErasedRun A} → k.Alike T m m' → k.Alike T n n' → k.Alike T (if b then m else n) (if b then m' else n')
  if_alike true em en = em
  if_alike false em en = en

  pub both : {A B : Type 0} {m : TypedRun A} {m' : ErasedRun A} {f : A → TypedRun B} {f' : A → ErasedRun B} {g : ℕ → TypedRun B} {g' : ℕ → ErasedRun B} →
      k.Alike T m m' → ((a : A) → k.Alike T (f a) (f' a)) → ((a : ℕ) → k.Alike T (g a) (g' a)) → k.Alike T (both_ways m f g) (both_ways m' f' g')
  both {m = m} {m' = m'} {f = f} {f' = f'} {g = g} {g' = g'} em ef eg =
      record { same = x.erases_both Ty Frame (List Read) (erasure T []) m m' f f' g g' em.same (λ a. (ef a).same) (λ a. (eg a).same) }

  pub somes : {A : Type 0} (o : Option A) → k.Alike T (some_or_wrong o) (some_or_wrong o)
  somes o = record { same = h.erases_some Ty Frame (List Read) (erasure T []) o }

  pub looks : {A : Type 0} (f : TypedState → Option A) (f' : ErasedState → Option A) → ((s : TypedState) → f s ≡ f' (erase_state (erasure T []) s)) → k.Alike T (look f) (look f')
  looks f f' e = record { same = h.erases_look Ty Frame (List Read) (erasure T []) f f' e }

  pub changes : (f : TypedState → TypedState) (f' : ErasedState → ErasedState) → ((s : TypedState) → erase_state (erasure T []) (f s) ≡ f' (erase_state (erasure T []) s)) → k.Alike T (change f) (change f')
  changes f f' e = record { same = h.erases_change Ty Frame (List Read) (erasure T []) f f' e }

  pub locals : (n : ℕ) → k.Alike T (local n) (local n)
  locals n = record { same = h.erases_local Ty Frame (List Read) (erasure T []) n }

  pub sets_local : (n : ℕ) (v : Value) → k.Alike T (set_local n v) (set_local n v)
  sets_local n v = record { same = h.erases_set_local Ty Frame (List Read) (erasure T []) n v }

  spends : {A : Type 0} {m : TypedRun A} {m' : ErasedRun A} → k.Alike T m m' → k.Alike T (spend m) (spend m')
  spends {m = m} {m' = m'} em = record { same = x.erases_spend Ty Frame (List Read) (erasure T []) m m' em.same }

  -- ---- what a new object keeps becomes its type, whose erasure it has already
  one_more : (o : Object Ty) (os : List (Object Ty)) (a : ℕ) (f : Ty → Ty) (p : Option (Object Ty)) → set_kept_in (o ∷ os) (suc a) f p ≡ o ∷ set_kept_in os a f p
  one_more o os a f None = refl
  one_more o os a f (Some p) = refl

  heap_same : (f : Ty → Ty) → ((t : Ty) → erasure T [] (f t) ≡ erasure T [] t) → (os : List (Object Ty)) (a : ℕ) →
      map (erase_object (erasure T [])) (set_kept_in os a f (slice_get os a)) ≡ map (erase_object (erasure T [])) os
  heap_same f same [] a = refl
  heap_same f same (o ∷ os) zero = ap (λ (e : Erased). let p : Object Erased = record { kept = e; parts = o.parts } in p ∷ map (erase_object (erasure T [])) os) (same o.kept)
  heap_same f same (o ∷ os) (suc a) = ap (map (erase_object (erasure T []))) (one_more o os a f (slice_get os a)) ∙ ap (λ ps. erase_object (erasure T []) o ∷ ps) (heap_same f same os a)

  pub keeps : (a : ℕ) (f : Ty → Ty) → ((t : Ty) → erasure T [] (f t) ≡ erasure T [] t) → k.Alike T (set_kept a f) (give tt)
  keeps a f same = record { same = λ u s. ap (λ (os : List (Object Erased)). Val tt u (record (erase_state (erasure T []) s) { heap = os })) (heap_same f same s.heap a) }

  -- by the type's layer: what was born as a class alone has the class's erasure already
  born_layer : (x : ClassId) (t kept : Ty) → HasBase (base.Class x) t → (l : Ty-F Arg Ty) → out-Ty kept ≡ l → erasure T [] (born_at x t kept l) ≡ erasure T [] kept
  born_layer x t kept ht (Ty-F.Raw c) e = by (c.0 == x.0) refl
    where
      hk : HasBase (base.Class c) kept
      hk = record { layer = ap is_base_layer e; base = ap own_base e }

      by : (b : Bool) → (c.0 == x.0) ≡ b → erasure T [] (if b then t else kept) ≡ erasure T [] kept
      by true q =
          let n : c.0 ≡ x.0 = grind (arith, nat_tests) in
          erasure_base T [] (base.Class x) t ht
          ∙ ap (λ (d : ℕ). let i : ClassId = record { 0 = d } in let r : Erased = record { base = base.Class i; dims = 0 } in r) (sym n)
          ∙ sym (erasure_base T [] (base.Class c) kept hk)
      by false q = refl
  born_layer x t kept ht (Ty-F.Prim p) e = refl
  born_layer x t kept ht (Ty-F.Class c args) e = refl
  born_layer x t kept ht (Ty-F.Array u n) e = refl
  born_layer x t kept ht (Ty-F.Variable v) e = refl
  born_layer x t kept ht (Ty-F.Captured c) e = refl
  born_layer x t kept ht (Ty-F.Meet ts) e = refl
  born_layer x t kept ht Ty-F.NullTy e = refl

  born_same : (x : ClassId) (t kept : Ty) → HasBase (base.Class x) t → erasure T [] (born x t kept) ≡ erasure T [] kept
  unfolding born
  born_same x t kept ht = born_layer x t kept ht (out-Ty kept) refl

  pub is_born : (a : ℕ) (x : ClassId) (t : Ty) → HasBase (base.Class x) t → k.Alike T (set_kept a (λ kept. born x t kept)) (give tt)
  is_born a x t ht = keeps a (λ kept. born x t kept) (λ kept. born_same x t kept ht)

  -- ---- strings, operators, places and checks
  module _ (known : Known) where
    keeps_string : (units : List ℕ) (v : Value) → k.Alike T (keep_string units v) (keep_string units v)
    keeps_string units (Address a) = k.andso T (changes (λ s. record s { strings = s.strings ++ record { units = units; address = a } ∷ [] }) (λ s. record s { strings = s.strings ++ record { units = units; address = a } ∷ [] }) (λ s. refl)) (λ _. k.gives T (Address a))
    keeps_string units Null = k.wrongs T
    keeps_string units (Whole n) = k.wrongs T
    keeps_string units (Long n) = k.wrongs T

    interns : (units : List ℕ) (o : Option ℕ) → k.Alike T (if_interned (typed_keeping T) T known units o) (if_interned erased_keeping T known units o)
    interns units (Some a) = k.gives T (Address a)
    interns units None = k.andso T (k.makes_string T known units) (keeps_string units)

    pub constants : (units : List ℕ) → k.Alike T (constant_string (typed_keeping T) T known units) (constant_string erased_keeping T known units)
    constants units = record { same = λ u s. (interns units (interned_in units s.strings)).same u s }

    pub givens : (g : Given) → k.Alike T (given (typed_keeping T) T known g) (given erased_keeping T known g)
    givens (Gives v) = k.gives T v
    givens ByZero = k.raises T known.thrown.arithmetic
    givens Unfit = k.wrongs T

    pub places : (o : Object Ty) (i : Value) → k.Alike T (place_of (typed_keeping T) T known o i) (place_of erased_keeping T known (erase_object (erasure T []) o) i)
    places o (Whole n) =
        if_alike (int_lt n (pos 0)) (k.raises T known.thrown.out_of_bounds)
        (if_alike (nat_lt (unsigned_abs n) (length o.parts)) (k.gives T (unsigned_abs n)) (k.raises T known.thrown.out_of_bounds))
    places o (Long n) = k.wrongs T
    places o (Address a) = k.wrongs T
    places o Null = k.wrongs T

    pub tests : (to : Erased) (v : Value) → k.Alike T (passes (typed_keeping T) T to v) (passes erased_keeping T to v)
    tests to Null = k.gives T true
    tests to (Address a) = k.objects T a (λ o. k.gives T (is_of T (erasure T [] o.kept) to))
    tests to (Whole n) = k.wrongs T
    tests to (Long n) = k.wrongs T

    fails : {A : Type 0} (check : Check) → k.Alike T {A = A} (fail (typed_keeping T) T known check) (fail erased_keeping T known check)
    fails check = k.andso T (spends (changes (λ s. record s { shown = with_failure check s.shown }) (λ s. record s { shown = with_failure check s.shown }) (λ s. refl))) (λ _. k.raises T known.thrown.class_cast)

    passed : (check : Check) (v : Value) (b : Bool) → k.Alike T (if_passes (typed_keeping T) T known check v b) (if_passes erased_keeping T known check v b)
    passed check v true = k.gives T v
    passed check v false = fails check

    pub checks : (check : Check) (to : Erased) (v : Value) → k.Alike T (checked (typed_keeping T) T known check to v) (checked erased_keeping T known check to v)
    checks check to v = k.andso T (tests to v) (passed check v)

    fits : (o : Object Ty) (v : Value) → k.Alike T (storable (typed_keeping T) T o v) (storable erased_keeping T (erase_object (erasure T []) o) v)
    fits o (Address a) = tests (element_of (erasure T [] o.kept)) (Address a)
    fits o Null = k.gives T true
    fits o (Whole n) = k.gives T true
    fits o (Long n) = k.gives T true

    stored : (at place : ℕ) (v : Value) (b : Bool) → k.Alike T (stored_if (typed_keeping T) T known at place v b) (stored_if erased_keeping T known at place v b)
    stored at place v true = k.sets_part T at place v
    stored at place v false = k.raises T known.thrown.array_store

    pub stores : (at : ℕ) (o : Object Ty) (place : ℕ) (v : Value) → k.Alike T (store (typed_keeping T) T known at o place v) (store erased_keeping T known at (erase_object (erasure T []) o) place v)
    stores at o place v = k.andso T (fits o v) (stored at place (kept_as (element_of (erasure T [] o.kept)) v))
