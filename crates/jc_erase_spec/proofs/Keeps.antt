-- Objects, strings and exceptions are made alike in typed and in erased runs, and native methods act alike.
use Rattle.std.proofs.Common.{◌≡◌, ℕ, List, [], ◌∷◌, refl, ap, ◌∙◌, subst, Option, Some, None, map, ◌<◌, arith}
use Rattle.std.specs.Prelude.{ℤ, ◌%◌}
use Rattle.std.specs.Int.{w32, cast_unsigned}
use Rattle.jc_types.specs.declared.form.Ty.{Ty, Ty-F, out-Ty, map-Ty, fold_out-Ty}
use Rattle.jc_types.specs.declared.form.Arg.{Arg}
use Rattle.jc_types.specs.declared.ids.VarId.{VarId}
use Rattle.jc_types.specs.declared.ids.CaptureId.{CaptureId}
use Rattle.jc_types.specs.declared.erased.Base.{Base}
use Rattle.jc_types.specs.declared.form.Ty.TheVariants.{Class, Array, Prim, outs-Class, outs-Array, outs-Prim}
use Rattle.jc_types.specs.declared.form.Primitive.TheVariants.{Char}
use Rattle.jc_types.specs.declared.ids.ClassId.{ClassId}
use Rattle.jc_types.specs.declared.erased.Erased.{Erased}
use Rattle.jc_types.specs.declared.erased.Base.TheVariants as base
use Rattle.jc_types.specs.declared.table.Table.{Table}
use Rattle.jc_types.specs.Arrays.{array_over, array_over_at}
use Rattle.jc_types.specs.Erasing.{erasure, erased_within, erased_by, erased_step, capped, plain, raised}
use Rattle.jc_running.specs.declared.value.Value.{Value}
use Rattle.jc_running.specs.declared.value.Value.TheVariants.{Whole, Long, Address, Null}
use Rattle.jc_running.specs.Shows.{with_byte, with_taken}
use Rattle.jc_running.specs.Outcomes.{give, throw, wrong, bind, spend}
use Rattle.jc_heaps.specs.declared.state.Object.{Object}
use Rattle.jc_heaps.specs.Numbers.{whole_of}
use Rattle.jc_heaps.specs.States.{some_or_wrong, change, local, object_at, set_part}
use Rattle.jc_heaps.specs.Erases.{ErasedState, Erases, erase_object, erase_state}
use Rattle.jc_heaps.specs.Layout.{new_fields, slot_of}
use Rattle.jc_heaps.specs.Making.{make, make_plain, raise, address_of, set_chars, make_string, char_value, units_of_text, put_byte, taken_from, take_byte, exit_with}
use Rattle.jc_heaps.proofs.Erases as x
use Rattle.jc_typed.specs.declared.program.Known.{Known}
use Rattle.jc_meaning.specs.declared.frame.Frame.{Frame}
use Rattle.jc_meaning.specs.declared.frame.Read.{Read}
use Rattle.jc_meaning.specs.declared.target.Native.{Native}
use Rattle.jc_meaning.specs.declared.target.Native.TheVariants.{HashCode, ClassName, Put, ReadByte, Halt}
use Rattle.jc_meaning.specs.Natives.{native_act, address_in, whole_in, name_of}
use Rattle.jc_meaning.specs.Kept.{TypedState, TypedRun, typed_keeping}
use Rattle.jc_erased.specs.Programs.{ErasedRun, erased_keeping}
use Rattle.jc_erase_spec.proofs.Heaps as h

-- the erased computation does what the typed one does
pub record Alike (T : Table) {A : Type 0} (m : TypedRun A) (m' : ErasedRun A) : Type 0 where
  pub same : Erases {K = Ty} {F = Frame} {R = List Read} (erasure T []) m m'

module _ (T : Table) where
  pub andso : {A B : Type 0} {m : TypedRun A} {m' : ErasedRun A} {f : A → TypedRun B} {f' : A → ErasedRun B} → Alike T m m' → ((a : A) → Alike T (f a) (f' a)) → Alike T (bind m f) (bind m' f')
  andso {m = m} {m' = m'} {f = f} {f' = f'} em ef = record { same = x.erases_bind Ty Frame (List Read) (erasure T []) m m' f f' em.same (λ a. (ef a).same) }

  pub gives : {A : Type 0} (a : A) → Alike T (give a) (give a)
  gives a = record { same = λ u s. refl }

  pub throws : {A : Type 0} (a : ℕ) → Alike T {A = A} (throw a) (throw a)
  throws a = record { same = λ u s. refl }

  pub wrongs : {A : Type 0} → Alike T {A = A} wrong wrong
  wrongs = record { same = λ u s. refl }

  pub objects : {B : Type 0} (a : ℕ) {f : Object Ty → TypedRun B} {f' : Object Erased → ErasedRun B} → ((o : Object Ty) → Alike T (f o) (f' (erase_object (erasure T []) o))) → Alike T (bind (object_at a) f) (bind (object_at a) f')
  objects a {f = f} {f' = f'} ef = record { same = h.erases_object Ty Frame (List Read) (erasure T []) a f f' (λ o. (ef o).same) }

  -- the erasure of a type whose layers tell it
  by_layer : (vs : VarId → Erased) (cs : CaptureId → Erased) (t : Ty) (l : Ty-F Arg Ty) → out-Ty t ≡ l → erased_by vs cs t ≡ erased_step vs cs (map-Ty Arg Ty (Unit {0}) Erased (λ _. tt) (erased_by vs cs) l)
  unfolding erased_by
  by_layer vs cs t l e = fold_out-Ty (Unit {0}) Erased (λ _. tt) (erased_step vs cs) t ∙ ap (λ l. erased_step vs cs (map-Ty Arg Ty (Unit {0}) Erased (λ _. tt) (erased_by vs cs) l)) e

  few_dims : (b : Base) (n : ℕ) → n < 256 → capped (record { base = b; dims = n }) ≡ record { base = b; dims = n }
  few_dims b n small = ap (λ (d : ℕ). let e : Erased = record { base = b; dims = d } in e) (omega (arith, small))

  erasure_is : (t : Ty) (b : Base) (n : ℕ) → n < 256 → ((vs : VarId → Erased) (cs : CaptureId → Erased) → erased_by vs cs t ≡ record { base = b; dims = n }) → erasure T [] t ≡ record { base = b; dims = n }
  unfolding erasure erased_within
  erasure_is t b n small h = ap capped (h _ _) ∙ few_dims b n small

  class_with : (k : ClassId) (args : List Arg) (vs : VarId → Erased) (cs : CaptureId → Erased) → erased_by vs cs (Class k args) ≡ plain (base.Class k)
  class_with k args vs cs = by_layer vs cs (Class k args) (Ty-F.Class k args) (outs-Class k args)

  pub plain_with : (k : ClassId) (args : List Arg) → erasure T [] (Class k args) ≡ plain (base.Class k)
  plain_with k args = erasure_is (Class k args) (base.Class k) 0 (omega arith) (class_with k args)

  class_by : (k : ClassId) (vs : VarId → Erased) (cs : CaptureId → Erased) → erased_by vs cs (Class k []) ≡ plain (base.Class k)
  class_by k vs cs = by_layer vs cs (Class k []) (Ty-F.Class k []) (outs-Class k [])

  char_by : (vs : VarId → Erased) (cs : CaptureId → Erased) → erased_by vs cs (Prim Char) ≡ plain (base.Prim Char)
  char_by vs cs = by_layer vs cs (Prim Char) (Ty-F.Prim Char) (outs-Prim Char)

  array_by : (t : Ty) (b : Base) (vs : VarId → Erased) (cs : CaptureId → Erased) → erased_by vs cs t ≡ plain b → erased_by vs cs (Array t 0) ≡ raised 1 (plain b)
  array_by t b vs cs e = by_layer vs cs (Array t 0) (Ty-F.Array t 0) (outs-Array t 0) ∙ ap (raised 1) e

  pub plain_class : (k : ClassId) → erasure T [] (Class k []) ≡ plain (base.Class k)
  plain_class k = erasure_is (Class k []) (base.Class k) 0 (omega arith) (class_by k)

  plain_chars : erasure T [] (Array (Prim Char) 0) ≡ raised 1 (plain (base.Prim Char))
  plain_chars = erasure_is (Array (Prim Char) 0) (base.Prim Char) 1 (omega arith) (λ vs cs. array_by (Prim Char) (base.Prim Char) vs cs (char_by vs cs))

  over_class : (k : ClassId) → array_over 0 (Class k []) ≡ Array (Class k []) 0
  unfolding array_over
  over_class k = ap (array_over_at 0 (Class k [])) (outs-Class k [])

  pub plain_array : (k : ClassId) → erasure T [] (array_over 0 (Class k [])) ≡ raised 1 (plain (base.Class k))
  plain_array k = ap (erasure T []) (over_class k) ∙ erasure_is (Array (Class k []) 0) (base.Class k) 1 (omega arith) (λ vs cs. array_by (Class k []) (base.Class k) vs cs (class_by k vs cs))

  pub sets_part : (a n : ℕ) (v : Value) → Alike T (set_part a n v) (set_part a n v)
  sets_part a n v = record { same = h.erases_set_part Ty Frame (List Read) (erasure T []) a n v }

  -- an object that keeps a type, and one that keeps its erasure
  pub makes : (kept : Ty) (e : Erased) (parts : List Value) → erasure T [] kept ≡ e → Alike T (make (record { kept = kept; parts = parts })) (make (record { kept = e; parts = parts }))
  makes kept e parts same =
      subst (λ k. Alike T (make (record { kept = kept; parts = parts })) (make (record { kept = k; parts = parts }))) same
      (record { same = h.erases_make Ty Frame (List Read) (erasure T []) (record { kept = kept; parts = parts }) })

  pub plains : (k : ClassId) → Alike T (make_plain (typed_keeping T) T k) (make_plain erased_keeping T k)
  plains k = makes (Class k []) (plain (base.Class k)) (new_fields T k) (plain_class k)

  pub raises : {A : Type 0} (k : ClassId) → Alike T {A = A} (raise (typed_keeping T) T k) (raise erased_keeping T k)
  raises k = andso (plains k) throws

  module _ (known : Known) where
    pub addresses : (v : Value) → Alike T (address_of (typed_keeping T) T known v) (address_of erased_keeping T known v)
    addresses (Address a) = gives a
    addresses Null = raises known.thrown.null_pointer
    addresses (Whole n) = wrongs
    addresses (Long n) = wrongs

    sets_chars : (slot : Option ℕ) (at chars : ℕ) → Alike T (set_chars slot at chars) (set_chars slot at chars)
    sets_chars None at chars = wrongs
    sets_chars (Some slot) at chars = andso (sets_part at slot (Address chars)) (λ _. gives (Address at))

    pub makes_string : (units : List ℕ) → Alike T (make_string (typed_keeping T) T known units) (make_string erased_keeping T known units)
    makes_string units =
        andso (makes (Array (Prim Char) 0) (raised 1 (plain (base.Prim Char))) (map char_value units) plain_chars) (λ chars.
        andso (plains known.string) (λ at. sets_chars (slot_of T known.chars) at chars))

    -- native methods
    spends : {A : Type 0} {m : TypedRun A} {m' : ErasedRun A} → Alike T m m' → Alike T (spend m) (spend m')
    spends {m = m} {m' = m'} em = record { same = x.erases_spend Ty Frame (List Read) (erasure T []) m m' em.same }

    locals_alike : (n : ℕ) → Alike T (local n) (local n)
    locals_alike n = record { same = h.erases_local Ty Frame (List Read) (erasure T []) n }

    in_value : (v : Value) → Alike T (address_in v) (address_in v)
    in_value (Address a) = gives a
    in_value Null = wrongs
    in_value (Whole n) = wrongs
    in_value (Long n) = wrongs

    somes : {A : Type 0} (o : Option A) → Alike T (some_or_wrong o) (some_or_wrong o)
    somes o = record { same = h.erases_some Ty Frame (List Read) (erasure T []) o }

    wholes : (n : ℕ) → Alike T (whole_in n) (whole_in n)
    wholes n = andso (locals_alike n) (λ v. somes (whole_of v))

    changes : (f : TypedState → TypedState) (f' : ErasedState → ErasedState) → ((s : TypedState) → erase_state (erasure T []) (f s) ≡ f' (erase_state (erasure T []) s)) → Alike T (change f) (change f')
    changes f f' e = record { same = h.erases_change Ty Frame (List Read) (erasure T []) f f' e }

    puts : (b : ℕ) → Alike T (put_byte b) (put_byte b)
    puts b = spends (changes (λ s. record s { shown = with_byte b s.shown }) (λ s. record s { shown = with_byte b s.shown }) (λ s. refl))

    takes_from : (bytes : List ℕ) → Alike T (taken_from bytes) (taken_from bytes)
    takes_from [] = gives _
    takes_from (b ∷ bs) = andso (spends (changes (λ s. record s { input = bs; shown = with_taken s.shown }) (λ s. record s { input = bs; shown = with_taken s.shown }) (λ s. refl))) (λ _. gives _)

    takes : Alike T take_byte take_byte
    takes = record { same = λ u s. (takes_from s.input).same u s }

    exits : {A : Type 0} (code : ℤ) → Alike T {A = A} (exit_with code) (exit_with code)
    exits code = spends (record { same = λ u s. refl })

    pub natives : (n : Native) → Alike T (native_act (typed_keeping T) T known n) (native_act erased_keeping T known n)
    natives HashCode = andso (locals_alike 0) (λ v. andso (in_value v) (λ a. gives _))
    natives ClassName = andso (locals_alike 0) (λ v. andso (in_value v) (λ a. objects a (λ o. makes_string (units_of_text (name_of T (erasure T [] o.kept))))))
    natives Put = andso (wholes 0) (λ n. andso (puts (cast_unsigned w32 n % 256)) (λ _. gives Null))
    natives ReadByte = takes
    natives Halt = andso (wholes 0) exits
