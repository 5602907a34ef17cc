-- What is done with heaps is smooth in its units.
use Rattle.std.proofs.Common.{◌≡◌, ℕ, suc, List, [], ◌∷◌, refl, arith}
use Rattle.std.specs.Prelude.{ℤ, pos, Bool, true, false, Option, Some, None, length, slice_get, if◌then◌else◌, int_lt, nat_lt, unsigned_abs}
use Rattle.jc_types.specs.declared.ids.ClassId.{ClassId}
use Rattle.jc_types.specs.declared.erased.Erased.{Erased}
use Rattle.jc_types.specs.declared.table.Table.{Table}
use Rattle.jc_typed.specs.declared.program.Known.{Known}
use Rattle.jc_running.specs.declared.value.Value.{Value}
use Rattle.jc_running.specs.declared.value.Value.TheVariants.{Whole, Long, Address, Null}
use Rattle.jc_running.specs.declared.seen.Check.{Check}
use Rattle.jc_running.specs.declared.seen.Shown.{Shown}
use Rattle.jc_running.specs.Shows.{a_byte_more, one_more_taken, a_failure_more}
use Rattle.jc_running.specs.Outcomes.{Out, Val, Thrown, Exited, Going, Wrong, Run, give, throw, wrong}
use Rattle.jc_running.proofs.Smooth.{Smooth, Quiet, Grow, smooth_give, smooth_throw, smooth_wrong, smooth_change, smooth_show, smooth_exit}
use Rattle.jc_heaps.specs.declared.state.Object.{Object}
use Rattle.jc_heaps.specs.declared.state.State.{State}
use Rattle.jc_heaps.specs.States.{shown_of, some_or_wrong, look, change, set_local, object_at, set_part, set_kept, back_in, in_frame}
use Rattle.jc_heaps.specs.declared.given.Given.{Given}
use Rattle.jc_heaps.specs.declared.given.Given.TheVariants.{Gives, ByZero, Unfit}
use Rattle.jc_heaps.specs.Classes.{element_of}
use Rattle.jc_heaps.specs.Layout.{slot_of, new_fields}
use Rattle.jc_heaps.specs.Making.{Keeping, make, raise, set_chars, make_string, interned_in, keep_string, if_interned, constant_string, address_of, place_of, passes, fail, if_passes, checked, stored_if, kept_as, storable, store, given, put_byte, taken_from, take_byte, exit_with}
use Rattle.jc_heaps.proofs.Plain.{seq, soft}

module _ (K F R : Type 0) (D : ℕ) where
  abbrev pub S : Type 0
  S = State K F R

  abbrev pub Steady : {A : Type 0} → Run S A → Run S A → Type 0
  Steady m m' = Smooth S shown_of D 0 m m'

  pub gives : {A : Type 0} (a : A) → Steady (give a) (give a)
  gives a = smooth_give S shown_of D a

  pub throws : {A : Type 0} (v : ℕ) → Steady {A = A} (throw v) (throw v)
  throws v = smooth_throw S shown_of D v

  pub wrongs : {A : Type 0} → Steady {A = A} wrong wrong
  wrongs = smooth_wrong S shown_of D

  pub somes : {A : Type 0} (o : Option A) → Steady (some_or_wrong o) (some_or_wrong o)
  somes None = wrongs
  somes (Some a) = gives a

  -- what depends on the state alone
  look_grow : {A : Type 0} (u : ℕ) (s : S) (o : Option A) → Grow S shown_of 0 u (some_or_wrong o u s) (some_or_wrong o (suc u) s)
  look_grow u s None = refl
  look_grow u s (Some a) = (refl, omega arith)

  look_quiet : {A : Type 0} (s : S) (o : Option A) → Quiet S shown_of (some_or_wrong o 0 s) (shown_of s)
  look_quiet s None = tt
  look_quiet s (Some a) = (refl, refl)

  pub looks : {A : Type 0} (f : S → Option A) → Steady (look f) (look f)
  looks f = record { grow = λ u s hu. look_grow u s (f s); quiet = λ s. look_quiet s (f s) }

  -- a computation that is chosen by the state
  pub by_state : {A : Type 0} (m m' : S → Run S A) → ((s : S) → Steady (m s) (m' s)) → Steady (λ u s. m s u s) (λ u s. m' s u s)
  by_state m m' sm = record { grow = λ u s hu. (sm s).grow u s hu; quiet = λ s. (sm s).quiet s }

  pub changes : (f : S → S) → ((s : S) → shown_of (f s) ≡ shown_of s) → Steady (change f) (change f)
  changes f same = smooth_change S shown_of D f (λ s. tt) same

  pub makes : (o : Object K) → Steady (make o) (make o)
  makes o = smooth_change S shown_of D _ (λ s. length s.heap) (λ s. refl)

  pub sets_local : (n : ℕ) (v : Value) → Steady (set_local n v) (set_local n v)
  sets_local n v = changes _ (λ s. refl)

  pub sets_part : (a n : ℕ) (v : Value) → Steady (set_part a n v) (set_part a n v)
  sets_part a n v = changes _ (λ s. refl)

  pub sets_kept : (a : ℕ) (f : K → K) → Steady (set_kept a f) (set_kept a f)
  sets_kept a f = changes _ (λ s. refl)

  pub objects : (a : ℕ) → Steady (object_at a) (object_at a)
  objects a = looks (λ s. slice_get s.heap a)

  -- in a frame of its own
  frame_grow : {A : Type 0} (u : ℕ) (locals : List Value) (frame : F) (o o' : Out S A) → Grow S shown_of 0 u o o' → Grow S shown_of 0 u (back_in locals frame o) (back_in locals frame o')
  frame_grow u locals frame (Val a u1 s) o' g = (rw g.0 refl, g.1)
  frame_grow u locals frame (Thrown v u1 s) o' g = (rw g.0 refl, g.1)
  frame_grow u locals frame (Exited c s) o' g = rw g refl
  frame_grow u locals frame (Going s) (Val a u1 s1) g = g
  frame_grow u locals frame (Going s) (Thrown v u1 s1) g = g
  frame_grow u locals frame (Going s) (Exited c s1) g = g
  frame_grow u locals frame (Going s) (Going s1) g = g
  frame_grow u locals frame (Going s) Wrong g = tt
  frame_grow u locals frame Wrong o' g = rw g refl

  frame_quiet : {A : Type 0} (locals : List Value) (frame : F) (o : Out S A) (p : Shown) → Quiet S shown_of o p → Quiet S shown_of (back_in locals frame o) p
  frame_quiet locals frame (Val a u s) p q = q
  frame_quiet locals frame (Thrown v u s) p q = q
  frame_quiet locals frame (Exited c s) p q = q
  frame_quiet locals frame (Going s) p q = q
  frame_quiet locals frame Wrong p q = tt

  pub frames : {A : Type 0} (locals : List Value) (frame : F) (m m' : Run S A) → Steady m m' → Steady (in_frame locals frame m) (in_frame locals frame m')
  frames locals frame m m' sm = record {
    grow = λ u s hu. frame_grow u s.locals s.frame (m u (record s { locals = locals; frame = frame })) (m' (suc u) (record s { locals = locals; frame = frame })) (sm.grow u (record s { locals = locals; frame = frame }) hu);
    quiet = λ s. frame_quiet s.locals s.frame (m' 0 (record s { locals = locals; frame = frame })) (shown_of s) (sm.quiet (record s { locals = locals; frame = frame }));
  }

  module _ (keeping : Keeping K) (T : Table) (known : Known) where
    pub raises : {A : Type 0} (k : ClassId) → Steady {A = A} (raise keeping T k) (raise keeping T k)
    raises k = seq S shown_of D (makes _) throws

    sets_chars : (slot : Option ℕ) (at chars : ℕ) → Steady (set_chars slot at chars) (set_chars slot at chars)
    sets_chars None at chars = wrongs
    sets_chars (Some slot) at chars = seq S shown_of D (sets_part at slot (Address chars)) (λ _. gives (Address at))

    pub makes_string : (units : List ℕ) → Steady (make_string keeping T known units) (make_string keeping T known units)
    makes_string units = seq S shown_of D (makes _) (λ chars. seq S shown_of D (makes (record { kept = keeping.of_class known.string; parts = new_fields T known.string })) (λ at. sets_chars (slot_of T known.chars) at chars))

    keeps_string : (units : List ℕ) (v : Value) → Steady (keep_string units v) (keep_string units v)
    keeps_string units (Address a) = seq S shown_of D (changes _ (λ s. refl)) (λ _. gives (Address a))
    keeps_string units (Whole n) = wrongs
    keeps_string units (Long n) = wrongs
    keeps_string units Null = wrongs

    interns : (units : List ℕ) (o : Option ℕ) → Steady (if_interned keeping T known units o) (if_interned keeping T known units o)
    interns units (Some a) = gives (Address a)
    interns units None = seq S shown_of D (makes_string units) (keeps_string units)

    pub constants : (units : List ℕ) → Steady (constant_string keeping T known units) (constant_string keeping T known units)
    constants units = by_state _ _ (λ s. interns units (interned_in units s.strings))

    pub addresses : (v : Value) → Steady (address_of keeping T known v) (address_of keeping T known v)
    addresses (Address a) = gives a
    addresses Null = raises known.thrown.null_pointer
    addresses (Whole n) = wrongs
    addresses (Long n) = wrongs

    pub chooses : {A : Type 0} (b : Bool) {m m' n n' : Run S A} → Steady m m' → Steady n n' → Steady (if b then m else n) (if b then m' else n')
    chooses true sm sn = sm
    chooses false sm sn = sn

    pub places : (o : Object K) (v : Value) → Steady (place_of keeping T known o v) (place_of keeping T known o v)
    places o (Whole n) = chooses (int_lt n (pos 0)) (raises known.thrown.out_of_bounds) (chooses (nat_lt (unsigned_abs n) (length o.parts)) (gives (unsigned_abs n)) (raises known.thrown.out_of_bounds))
    places o (Long n) = wrongs
    places o (Address a) = wrongs
    places o Null = wrongs

    pub tests : (to : Erased) (v : Value) → Steady (passes keeping T to v) (passes keeping T to v)
    tests to Null = gives true
    tests to (Address a) = seq S shown_of D (objects a) (λ o. gives _)
    tests to (Whole n) = wrongs
    tests to (Long n) = wrongs

    pub fails : {A : Type 0} (check : Check) → Steady {A = A} (fail keeping T known check) (fail keeping T known check)
    fails check = seq S shown_of D (soft S shown_of D (smooth_show S shown_of D _ (λ s. tt) (λ s. a_failure_more check refl))) (λ _. raises known.thrown.class_cast)

    if_tests : (check : Check) (v : Value) (b : Bool) → Steady (if_passes keeping T known check v b) (if_passes keeping T known check v b)
    if_tests check v true = gives v
    if_tests check v false = fails check

    pub checks : (check : Check) (to : Erased) (v : Value) → Steady (checked keeping T known check to v) (checked keeping T known check to v)
    checks check to v = seq S shown_of D (tests to v) (if_tests check v)

    if_stores : (at place : ℕ) (v : Value) (b : Bool) → Steady (stored_if keeping T known at place v b) (stored_if keeping T known at place v b)
    if_stores at place v true = sets_part at place v
    if_stores at place v false = raises known.thrown.array_store

    storables : (o : Object K) (v : Value) → Steady (storable keeping T o v) (storable keeping T o v)
    storables o (Address a) = tests (element_of (keeping.erased o.kept)) (Address a)
    storables o (Whole n) = gives true
    storables o (Long n) = gives true
    storables o Null = gives true

    pub stores : (at : ℕ) (o : Object K) (place : ℕ) (v : Value) → Steady (store keeping T known at o place v) (store keeping T known at o place v)
    stores at o place v = seq S shown_of D (storables o v) (if_stores at place (kept_as (element_of (keeping.erased o.kept)) v))

    pub givens : (g : Given) → Steady (given keeping T known g) (given keeping T known g)
    givens (Gives v) = gives v
    givens ByZero = raises known.thrown.arithmetic
    givens Unfit = wrongs

  pub puts : (b : ℕ) → Steady (put_byte b) (put_byte b)
  puts b = soft S shown_of D (smooth_show S shown_of D _ (λ s. tt) (λ s. a_byte_more b refl))

  takes_from : (bytes : List ℕ) → Steady (taken_from bytes) (taken_from bytes)
  takes_from [] = gives _
  takes_from (b ∷ bs) = seq S shown_of D (soft S shown_of D (smooth_show S shown_of D _ (λ s. tt) (λ s. one_more_taken refl))) (λ _. gives _)

  pub takes : Steady take_byte take_byte
  takes = by_state _ _ (λ s. takes_from s.input)

  pub exits : {A : Type 0} (code : ℤ) → Steady {A = A} (exit_with code) (exit_with code)
  exits code = soft S shown_of D (smooth_exit S shown_of D code)
