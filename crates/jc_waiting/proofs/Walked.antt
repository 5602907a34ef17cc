-- The initialisation of classes that makes nothing, as a walk upward: each class is ready at once, and the uppermost initialiser tells what comes of it.
use Rattle.std.proofs.Common.{◌≡◌, ◌<◌, ◌-◌, ◌∙◌, [], ◌∷◌, ℕ, zero, suc, Bool, true, false, List, refl, sym, ap, arith, slice_get, slice_set, if◌then◌else◌}
use Rattle.std.specs.Prelude.{IfOk, IsTrue, OnErr, is_some}
use Rattle.std.specs.Option.{option_map}
use Rattle.std.specs.declared.option.Option.{Option}
use Rattle.std.specs.declared.option.Option.TheVariants.{Some, None}
use Rattle.std.specs.declared.result.Result.{Result}
use Rattle.std.specs.declared.result.Result.TheVariants.{Ok, Err}
use Rattle.jc_class_out.specs.declared.model.ClassModel.{ClassModel}
use Rattle.jc_class_out.specs.declared.model.CodeModel.{CodeModel}
use Rattle.jc_jvm.specs.Classes.{code_at, initialiser_of}
use Rattle.jc_jvm.specs.Initialising.{first_super, initialised_on, resumed}
use Rattle.jc_jvm.specs.Thrown.{State, Over, fault_among, fault_class, unwound}
use Rattle.jc_jvm.specs.Worlds.{next_address, with_object, with_state}
use Rattle.jc_jvm.specs.declared.frame.Waiting.{Waiting}
use Rattle.jc_jvm.specs.declared.frame.Waiting.TheVariants.{Prepared}
use Rattle.jc_jvm.specs.declared.world.ClassState.{ClassState}
use Rattle.jc_jvm.specs.declared.world.ClassState.TheVariants.{InProgress, Ready}
use Rattle.jc_jvm.specs.declared.world.Ending.TheVariants.{Stuck}
use Rattle.jc_jvm.specs.declared.world.Fault.TheVariants.{NoClassDefFound}
use Rattle.jc_jvm.specs.declared.world.World.{World}
use Rattle.jc_waiting.proofs.Begun.{not_begun}
use Rattle.jc_waiting.proofs.Readied.{begins_not, begun_state, frame_there, goes_on, makes_begun, makes_is, makes_on, resumed_is}
use Rattle.jc_waiting.specs.Alone.{InitialisedAlone, by_code, ended_alone, or_below, or_below_by, refused_alone}
use Rattle.jc_waiting.specs.Memory.{initialised_makes, ready_makes}
use Rattle.jc_waiting.specs.Onwards.{first_by_state, first_of}
use Rattle.jc_waiting.specs.declared.alone.Uppermost.{Uppermost}
use Rattle.jc_waiting.specs.declared.alone.Uppermost.TheVariants.{Absent, Framed, Codeless}
use Rattle.jc_waiting.specs.declared.initialising.First.{First}
use Rattle.jc_waiting.specs.declared.initialising.First.TheVariants as first

-- ---- the walk

abbrev pub with_world : World → Option Bool → Option (Bool × World)
with_world world o = option_map (λ (done : Bool). (done, world)) o

-- whether all are ready, and the world then; None where memory is wanted
unfoldable pub walked : List ClassModel → ℕ → ℕ → World → Uppermost → Option (Bool × World)
walked classes zero c world up = Some (false, world)
walked classes (suc n) c world up = elim (first_of (with_state Ready c world) (first_super classes c)) [
  | first.Untouched before ↦ walked classes n before (with_state Ready c world) (or_below classes c up)
  | first.Failed ↦ with_world (with_state Ready c world) (refused_alone classes)
  | first.Nothing ↦ with_world (with_state Ready c world) (ended_alone (or_below classes c up))
]

abbrev pub walked_by : List ClassModel → ℕ → World → Uppermost → First → Option (Bool × World)
walked_by classes n world up (first.Untouched before) = walked classes n before world up
walked_by classes n world up first.Failed = with_world world (refused_alone classes)
walked_by classes n world up first.Nothing = with_world world (ended_alone up)

by_first : (classes : List ClassModel) (n : ℕ) (world : World) (up : Uppermost) (f : First) →
    (elim f [
      | first.Untouched before ↦ walked classes n before world up
      | first.Failed ↦ with_world world (refused_alone classes)
      | first.Nothing ↦ with_world world (ended_alone up)
    ]) ≡ walked_by classes n world up f
by_first classes n world up (first.Untouched before) = refl
by_first classes n world up first.Failed = refl
by_first classes n world up first.Nothing = refl

walked_suc : (classes : List ClassModel) (n c : ℕ) (world : World) (up : Uppermost) →
    walked classes (suc n) c world up ≡ walked_by classes n (with_state Ready c world) (or_below classes c up) (first_of (with_state Ready c world) (first_super classes c))
unfolding walked
walked_suc classes n c world up = by_first classes n (with_state Ready c world) (or_below classes c up) (first_of (with_state Ready c world) (first_super classes c))

pub walked_none : (classes : List ClassModel) (c : ℕ) (world : World) (up : Uppermost) → walked classes 0 c world up ≡ Some (false, world)
unfolding walked
walked_none classes c world up = refl

-- with a step left
pub walked_first : (classes : List ClassModel) (n m c : ℕ) (world : World) (up : Uppermost) (f : First) → 0 < n → m ≡ n - 1 → first_of (with_state Ready c world) (first_super classes c) ≡ f →
    walked classes n c world up ≡ walked_by classes m (with_state Ready c world) (or_below classes c up) f
walked_first classes zero m c world up f h e is = absurd (omega arith)
walked_first classes (suc n) m c world up f h e is =
    walked_suc classes n c world up
    ∙ ap (λ (g : First). walked_by classes n (with_state Ready c world) (or_below classes c up) g) is
    ∙ ap (λ (k : ℕ). walked_by classes k (with_state Ready c world) (or_below classes c up) f) (omega (arith, e))

-- ---- states in which the same has to be done about superclasses

abbrev Alike : List ClassState → List ClassState → Type 0
Alike xs ys = (t i : ℕ) → first_by_state t (slice_get xs i) ≡ first_by_state t (slice_get ys i)

alike_set : (c : ℕ) (xs ys : List ClassState) → Alike xs ys → Alike (slice_set xs c InProgress) (slice_set ys c Ready)
alike_set c [] [] h t i = refl
alike_set zero [] (y ∷ ys) h t zero = refl
alike_set zero [] (y ∷ ys) h t (suc i) = h t (suc i)
alike_set (suc c) [] (y ∷ ys) h t zero = h t zero
alike_set (suc c) [] (y ∷ ys) h t (suc i) = alike_set c [] ys (λ t i. h t (suc i)) t i
alike_set zero (x ∷ xs) [] h t zero = refl
alike_set zero (x ∷ xs) [] h t (suc i) = h t (suc i)
alike_set (suc c) (x ∷ xs) [] h t zero = h t zero
alike_set (suc c) (x ∷ xs) [] h t (suc i) = alike_set c xs [] (λ t i. h t (suc i)) t i
alike_set zero (x ∷ xs) (y ∷ ys) h t zero = refl
alike_set zero (x ∷ xs) (y ∷ ys) h t (suc i) = h t (suc i)
alike_set (suc c) (x ∷ xs) (y ∷ ys) h t zero = h t zero
alike_set (suc c) (x ∷ xs) (y ∷ ys) h t (suc i) = alike_set c xs ys (λ t i. h t (suc i)) t i

first_alike : (w v : World) (o : Option ℕ) → Alike w.states v.states → first_of w o ≡ first_of v o
first_alike w v (Some s) h = h s s
first_alike w v None h = refl

set_twice : (xs : List ClassState) (c : ℕ) (a b : ClassState) → slice_set (slice_set xs c a) c b ≡ slice_set xs c b
set_twice [] c a b = refl
set_twice (x ∷ xs) zero a b = refl
set_twice (x ∷ xs) (suc c) a b = ap (λ (l : List ClassState). x ∷ l) (set_twice xs c a b)

set_both : (xs : List ClassState) (c k : ℕ) (a : ClassState) → slice_set (slice_set xs c a) k a ≡ slice_set (slice_set xs k a) c a
set_both [] c k a = refl
set_both (x ∷ xs) zero zero a = refl
set_both (x ∷ xs) zero (suc k) a = refl
set_both (x ∷ xs) (suc c) zero a = refl
set_both (x ∷ xs) (suc c) (suc k) a = ap (λ (l : List ClassState). x ∷ l) (set_both xs c k a)

abbrev in_states : World → List ClassState → World
in_states world states = record world { states = states }

-- ---- classes whose superclass comes first, the nearest first

abbrev pub prepared : List ℕ → List Waiting → List Waiting
prepared [] waiting = waiting
prepared (c ∷ cs) waiting = Prepared c ∷ prepared cs waiting

abbrev pub readied : List ℕ → World → World
readied [] world = world
readied (c ∷ cs) world = readied cs (with_state Ready c world)

abbrev pub uppermost_of : List ClassModel → List ℕ → Uppermost
uppermost_of classes [] = Absent
uppermost_of classes (c ∷ cs) = or_below classes c (uppermost_of classes cs)

abbrev pub makes_all : List ClassModel → List ℕ → Bool → Bool
makes_all classes [] behind = behind
makes_all classes (c ∷ cs) behind = ready_makes classes c (makes_all classes cs behind)

ready_last : (c : ℕ) (cs : List ℕ) (world : World) → with_state Ready c (readied cs world) ≡ readied cs (with_state Ready c world)
ready_last c [] world = refl
ready_last c (k ∷ ks) world =
    ready_last c ks (with_state Ready k world) ∙ ap (λ (l : List ClassState). readied ks (in_states world l)) (set_both world.states k c Ready)

ready_first : (c : ℕ) (cs : List ℕ) (world : World) → with_state Ready c (readied cs world) ≡ readied (c ∷ cs) (with_state InProgress c world)
ready_first c cs world = ready_last c cs world ∙ ap (λ (l : List ClassState). readied cs (in_states world l)) (sym (set_twice world.states c InProgress Ready))

-- ---- what the uppermost initialiser tells

not_absent : (o : Option CodeModel) → by_code o ≡ Absent → ⊥
not_absent (Some code) e = cc
not_absent None e = cc

codeless : (o : Option CodeModel) → by_code o ≡ Codeless → o ≡ None
codeless (Some code) e = cc
codeless None e = refl

framed : (o : Option CodeModel) → by_code o ≡ Framed → (code : CodeModel) × (o ≡ Some code)
framed (Some code) e = (code, refl)
framed None e = cc

-- none begins: all are ready
goes_by : (classes : List ClassModel) (c : ℕ) (cs : List ℕ) (waiting : List Waiting) (world : World) (o : Option ℕ) → initialiser_of classes c ≡ o → or_below_by classes c (uppermost_of classes cs) o ≡ Absent →
    ((w : World) → uppermost_of classes cs ≡ Absent → resumed classes w (prepared cs waiting) ≡ resumed classes (readied cs w) waiting) →
    resumed classes world (Prepared c ∷ prepared cs waiting) ≡ resumed classes (readied cs (with_state Ready c world)) waiting
goes_by classes c cs waiting world None is e more = resumed_is classes world c (prepared cs waiting) None is ∙ more (with_state Ready c world) e
goes_by classes c cs waiting world (Some m) is e more = absurd (not_absent (code_at classes c m) e)

goes_up : (classes : List ClassModel) (cs : List ℕ) (waiting : List Waiting) (world : World) → uppermost_of classes cs ≡ Absent → resumed classes world (prepared cs waiting) ≡ resumed classes (readied cs world) waiting
goes_up classes [] waiting world e = refl
goes_up classes (c ∷ cs) waiting world e = goes_by classes c cs waiting world (initialiser_of classes c) refl e (goes_up classes cs waiting)

no_more_by : (classes : List ClassModel) (c : ℕ) (cs : List ℕ) (behind : Bool) (o : Option ℕ) → initialiser_of classes c ≡ o → or_below_by classes c (uppermost_of classes cs) o ≡ Absent →
    (uppermost_of classes cs ≡ Absent → makes_all classes cs behind ≡ behind) → ready_makes classes c (makes_all classes cs behind) ≡ behind
no_more_by classes c cs behind None is e more = makes_is classes c (makes_all classes cs behind) None is ∙ more e
no_more_by classes c cs behind (Some m) is e more = absurd (not_absent (code_at classes c m) e)

makes_no_more : (classes : List ClassModel) (cs : List ℕ) (behind : Bool) → uppermost_of classes cs ≡ Absent → makes_all classes cs behind ≡ behind
makes_no_more classes [] behind e = refl
makes_no_more classes (c ∷ cs) behind e = no_more_by classes c cs behind (initialiser_of classes c) refl e (makes_no_more classes cs behind)

-- the first has no code
stays_by : (classes : List ClassModel) (c : ℕ) (cs : List ℕ) (waiting : List Waiting) (world : World) (o : Option ℕ) → initialiser_of classes c ≡ o → or_below_by classes c (uppermost_of classes cs) o ≡ Codeless →
    ((w : World) → uppermost_of classes cs ≡ Codeless → resumed classes w (prepared cs waiting) ≡ Over Stuck) → resumed classes world (Prepared c ∷ prepared cs waiting) ≡ Over Stuck
stays_by classes c cs waiting world None is e more = resumed_is classes world c (prepared cs waiting) None is ∙ more (with_state Ready c world) e
stays_by classes c cs waiting world (Some m) is e more = resumed_is classes world c (prepared cs waiting) (Some m) is ∙ begins_not classes world c m (prepared cs waiting) (codeless (code_at classes c m) e)

stays : (classes : List ClassModel) (cs : List ℕ) (waiting : List Waiting) (world : World) → uppermost_of classes cs ≡ Codeless → resumed classes world (prepared cs waiting) ≡ Over Stuck
stays classes [] waiting world e = cc
stays classes (c ∷ cs) waiting world e = stays_by classes c cs waiting world (initialiser_of classes c) refl e (stays classes cs waiting)

-- a frame is made for the first
makes_by_code : (classes : List ClassModel) (c : ℕ) (cs : List ℕ) (behind : Bool) (o : Option ℕ) → initialiser_of classes c ≡ o → or_below_by classes c (uppermost_of classes cs) o ≡ Framed →
    (uppermost_of classes cs ≡ Framed → makes_all classes cs behind ≡ true) → ready_makes classes c (makes_all classes cs behind) ≡ true
makes_by_code classes c cs behind None is e more = makes_is classes c (makes_all classes cs behind) None is ∙ more e
makes_by_code classes c cs behind (Some m) is e more =
    let there = framed (code_at classes c m) e in makes_is classes c (makes_all classes cs behind) (Some m) is ∙ frame_there classes c m there.0 there.1

makes_frame : (classes : List ClassModel) (cs : List ℕ) (behind : Bool) → uppermost_of classes cs ≡ Framed → makes_all classes cs behind ≡ true
makes_frame classes [] behind e = cc
makes_frame classes (c ∷ cs) behind e = makes_by_code classes c cs behind (initialiser_of classes c) refl e (makes_frame classes cs behind)

-- ---- the walk is the initialisation, with these classes in what waits

abbrev AloneAmong : List ClassModel → ℕ → ℕ → World → List ℕ → Bool → World → Type 0
AloneAmong classes n c world cs true after =
    ((waiting : List Waiting) → initialised_on classes n c world (prepared cs waiting) ≡ resumed classes after waiting) × ((behind : Bool) → initialised_makes classes n c world (makes_all classes cs behind) ≡ behind)
AloneAmong classes n c world cs false after = (waiting : List Waiting) → initialised_on classes n c world (prepared cs waiting) ≡ Over Stuck

abbrev begun_to : List ClassModel → ℕ → World → List Waiting → First → State
begun_to classes n world waiting (first.Untouched s) = initialised_on classes n s world waiting
begun_to classes n world waiting first.Failed = fault_among classes world waiting NoClassDefFound
begun_to classes n world waiting first.Nothing = resumed classes world waiting

-- the first step, by what has to be done about the superclass
goes : (classes : List ClassModel) (n c : ℕ) (world : World) (waiting : List Waiting) (f : First) → first_of (with_state InProgress c world) (first_super classes c) ≡ f →
    initialised_on classes (suc n) c world waiting ≡ begun_to classes n (with_state InProgress c world) (Prepared c ∷ waiting) f
goes classes n c world waiting (first.Untouched s) is = sym (goes_on classes (suc n) n c s world waiting (omega arith) (omega arith) is)
goes classes n c world waiting first.Failed is = begun_state classes (suc n) c world waiting first.Failed (omega arith) is
goes classes n c world waiting first.Nothing is = begun_state classes (suc n) c world waiting first.Nothing (omega arith) is

tells_true : (x y : World) (done : Bool) → (let p : Option (Bool × World) = Some (true, x) in p) ≡ Some (done, y) → (done ≡ true) × (x ≡ y)
tells_true x y done e = (ap (λ (o : Option (Bool × World)). elim o [ Some p ↦ p.0 | None ↦ true ]) (sym e), ap (λ (o : Option (Bool × World)). elim o [ Some p ↦ p.1 | None ↦ x ]) e)

tells_false : (x y : World) (done : Bool) → (let p : Option (Bool × World) = Some (false, x) in p) ≡ Some (done, y) → done ≡ false
tells_false x y done e = ap (λ (o : Option (Bool × World)). elim o [ Some p ↦ p.0 | None ↦ false ]) (sym e)

-- nothing has to be done about it
nothing_true : (classes : List ClassModel) (n c : ℕ) (w v after : World) (cs : List ℕ) (done : Bool) → first_of (with_state InProgress c w) (first_super classes c) ≡ first.Nothing → v ≡ readied (c ∷ cs) (with_state InProgress c w) →
    uppermost_of classes (c ∷ cs) ≡ Absent → done ≡ true → v ≡ after → AloneAmong classes (suc n) c w cs done after
nothing_true classes n c w v after cs true is at none d e = (
  (λ waiting.
      goes classes n c w (prepared cs waiting) first.Nothing is
      ∙ goes_up classes (c ∷ cs) waiting (with_state InProgress c w) none
      ∙ ap (λ (x : World). resumed classes x waiting) (sym at ∙ e)),
  (λ behind. makes_begun classes (suc n) c w (makes_all classes cs behind) first.Nothing (omega arith) is ∙ makes_no_more classes (c ∷ cs) behind none),
)
nothing_true classes n c w v after cs false is at none d e = cc

nothing_false : (classes : List ClassModel) (n c : ℕ) (w after : World) (cs : List ℕ) (done : Bool) → first_of (with_state InProgress c w) (first_super classes c) ≡ first.Nothing →
    uppermost_of classes (c ∷ cs) ≡ Codeless → done ≡ false → AloneAmong classes (suc n) c w cs done after
nothing_false classes n c w after cs true is none d = cc
nothing_false classes n c w after cs false is none d = λ waiting. goes classes n c w (prepared cs waiting) first.Nothing is ∙ stays classes (c ∷ cs) waiting (with_state InProgress c w) none

nothing_by : (classes : List ClassModel) (n c : ℕ) (w v after : World) (cs : List ℕ) (done : Bool) (up : Uppermost) → first_of (with_state InProgress c w) (first_super classes c) ≡ first.Nothing →
    v ≡ readied (c ∷ cs) (with_state InProgress c w) → uppermost_of classes (c ∷ cs) ≡ up → with_world v (ended_alone up) ≡ Some (done, after) → AloneAmong classes (suc n) c w cs done after
nothing_by classes n c w v after cs done Absent is at none e = let t = tells_true v after done e in nothing_true classes n c w v after cs done is at none t.0 t.1
nothing_by classes n c w v after cs done Framed is at none e = cc
nothing_by classes n c w v after cs done Codeless is at none e = nothing_false classes n c w after cs done is none (tells_false v after done e)

-- it has failed
among_by : (classes : List ClassModel) (world : World) (waiting : List Waiting) (o : Option ℕ) → o ≡ None →
    (elim o [ Some k ↦ unwound classes waiting (with_object classes k world) k (next_address world) | None ↦ Over Stuck ]) ≡ Over Stuck
among_by classes world waiting (Some k) e = cc
among_by classes world waiting None e = refl

failed_false : (classes : List ClassModel) (n c : ℕ) (w after : World) (cs : List ℕ) (done : Bool) → first_of (with_state InProgress c w) (first_super classes c) ≡ first.Failed →
    fault_class classes NoClassDefFound ≡ None → done ≡ false → AloneAmong classes (suc n) c w cs done after
failed_false classes n c w after cs true is none d = cc
failed_false classes n c w after cs false is none d = λ waiting.
    goes classes n c w (prepared cs waiting) first.Failed is ∙ among_by classes (with_state InProgress c w) (Prepared c ∷ prepared cs waiting) (fault_class classes NoClassDefFound) none

failed_by : (classes : List ClassModel) (n c : ℕ) (w v after : World) (cs : List ℕ) (done : Bool) (o : Option ℕ) → first_of (with_state InProgress c w) (first_super classes c) ≡ first.Failed →
    fault_class classes NoClassDefFound ≡ o → with_world v (if is_some o then None else Some false) ≡ Some (done, after) → AloneAmong classes (suc n) c w cs done after
failed_by classes n c w v after cs done (Some k) is none e = cc
failed_by classes n c w v after cs done None is none e = failed_false classes n c w after cs done is none (tells_false v after done e)

-- it comes first
before_by : (classes : List ClassModel) (n c s : ℕ) (w after : World) (cs : List ℕ) (done : Bool) → first_of (with_state InProgress c w) (first_super classes c) ≡ first.Untouched s →
    AloneAmong classes n s (with_state InProgress c w) (c ∷ cs) done after → AloneAmong classes (suc n) c w cs done after
before_by classes n c s w after cs true is told = (
  (λ waiting. goes classes n c w (prepared cs waiting) (first.Untouched s) is ∙ told.0 waiting),
  (λ behind. sym (makes_on classes (suc n) n c s w (makes_all classes cs behind) (omega arith) (omega arith) is) ∙ told.1 behind),
)
before_by classes n c s w after cs false is told = λ waiting. goes classes n c w (prepared cs waiting) (first.Untouched s) is ∙ told waiting

abbrev Tells : List ClassModel → ℕ → Type 0
Tells classes n = (c : ℕ) (w v : World) (cs : List ℕ) → Alike w.states v.states → v ≡ readied cs w → (done : Bool) (after : World) → walked classes n c v (uppermost_of classes cs) ≡ Some (done, after) → AloneAmong classes n c w cs done after

tells_first : (classes : List ClassModel) (n : ℕ) → Tells classes n → (c : ℕ) (w v : World) (cs : List ℕ) → Alike w.states v.states → v ≡ readied cs w → (done : Bool) (after : World) (f : First) →
    first_of (with_state InProgress c w) (first_super classes c) ≡ f → walked_by classes n (with_state Ready c v) (uppermost_of classes (c ∷ cs)) f ≡ Some (done, after) → AloneAmong classes (suc n) c w cs done after
tells_first classes n more c w v cs h at done after (first.Untouched s) is e =
    before_by classes n c s w after cs done is (more s (with_state InProgress c w) (with_state Ready c v) (c ∷ cs) (alike_set c w.states v.states h) (ap (λ (x : World). with_state Ready c x) at ∙ ready_first c cs w) done after e)
tells_first classes n more c w v cs h at done after first.Failed is e = failed_by classes n c w (with_state Ready c v) after cs done (fault_class classes NoClassDefFound) is refl e
tells_first classes n more c w v cs h at done after first.Nothing is e =
    nothing_by classes n c w (with_state Ready c v) after cs done (uppermost_of classes (c ∷ cs)) is (ap (λ (x : World). with_state Ready c x) at ∙ ready_first c cs w) refl e

-- the walk's first step, by what the initialisation's is
walks : (classes : List ClassModel) (n c : ℕ) (w v : World) (up : Uppermost) → Alike w.states v.states →
    walked classes (suc n) c v up ≡ walked_by classes n (with_state Ready c v) (or_below classes c up) (first_of (with_state InProgress c w) (first_super classes c))
walks classes n c w v up h =
    walked_first classes (suc n) n c v up (first_of (with_state InProgress c w) (first_super classes c)) (omega arith) (omega arith)
    (sym (first_alike (with_state InProgress c w) (with_state Ready c v) (first_super classes c) (alike_set c w.states v.states h)))

zero_by : (classes : List ClassModel) (c : ℕ) (w after : World) (cs : List ℕ) (done : Bool) → done ≡ false → AloneAmong classes 0 c w cs done after
zero_by classes c w after cs true d = cc
zero_by classes c w after cs false d = λ waiting. not_begun classes c w (prepared cs waiting)

tells : (classes : List ClassModel) (n : ℕ) → Tells classes n
tells classes zero c w v cs h at done after e = zero_by classes c w after cs done (tells_false v after done (sym (walked_none classes c v (uppermost_of classes cs)) ∙ e))
tells classes (suc n) c w v cs h at done after e =
    tells_first classes n (tells classes n) c w v cs h at done after (first_of (with_state InProgress c w) (first_super classes c)) refl (sym (walks classes n c w v (uppermost_of classes cs) h) ∙ e)

pub walked_alone : (classes : List ClassModel) (n c : ℕ) (world after : World) (done : Bool) → walked classes n c world Absent ≡ Some (done, after) → InitialisedAlone classes n c world done after
walked_alone classes n c world after true e = tells classes n c world world [] (λ t i. refl) refl true after e
walked_alone classes n c world after false e = tells classes n c world world [] (λ t i. refl) refl false after e

-- ---- where memory is wanted

abbrev Wants : List ClassModel → ℕ → Type 0
Wants classes n = (c : ℕ) (w v : World) (cs : List ℕ) → Alike w.states v.states → walked classes n c v (uppermost_of classes cs) ≡ None → (behind : Bool) → IsTrue (initialised_makes classes n c w (makes_all classes cs behind))

nothing_wants : (classes : List ClassModel) (n c : ℕ) (w v : World) (cs : List ℕ) (up : Uppermost) (behind : Bool) → first_of (with_state InProgress c w) (first_super classes c) ≡ first.Nothing → uppermost_of classes (c ∷ cs) ≡ up →
    with_world v (ended_alone up) ≡ None → IsTrue (initialised_makes classes (suc n) c w (makes_all classes cs behind))
nothing_wants classes n c w v cs Absent behind is at e = cc
nothing_wants classes n c w v cs Framed behind is at e = makes_begun classes (suc n) c w (makes_all classes cs behind) first.Nothing (omega arith) is ∙ makes_frame classes (c ∷ cs) behind at
nothing_wants classes n c w v cs Codeless behind is at e = cc

failed_wants : (classes : List ClassModel) (n c : ℕ) (w v : World) (cs : List ℕ) (o : Option ℕ) (behind : Bool) → first_of (with_state InProgress c w) (first_super classes c) ≡ first.Failed → fault_class classes NoClassDefFound ≡ o →
    with_world v (if is_some o then None else Some false) ≡ None → IsTrue (initialised_makes classes (suc n) c w (makes_all classes cs behind))
failed_wants classes n c w v cs (Some k) behind is at e = makes_begun classes (suc n) c w (makes_all classes cs behind) first.Failed (omega arith) is ∙ ap (λ (o : Option ℕ). is_some o) at
failed_wants classes n c w v cs None behind is at e = cc

wants_first : (classes : List ClassModel) (n : ℕ) → Wants classes n → (c : ℕ) (w v : World) (cs : List ℕ) → Alike w.states v.states → (behind : Bool) (f : First) →
    first_of (with_state InProgress c w) (first_super classes c) ≡ f → walked_by classes n (with_state Ready c v) (uppermost_of classes (c ∷ cs)) f ≡ None → IsTrue (initialised_makes classes (suc n) c w (makes_all classes cs behind))
wants_first classes n more c w v cs h behind (first.Untouched s) is e =
    sym (makes_on classes (suc n) n c s w (makes_all classes cs behind) (omega arith) (omega arith) is) ∙ more s (with_state InProgress c w) (with_state Ready c v) (c ∷ cs) (alike_set c w.states v.states h) e behind
wants_first classes n more c w v cs h behind first.Failed is e = failed_wants classes n c w (with_state Ready c v) cs (fault_class classes NoClassDefFound) behind is refl e
wants_first classes n more c w v cs h behind first.Nothing is e = nothing_wants classes n c w (with_state Ready c v) cs (uppermost_of classes (c ∷ cs)) behind is refl e

wants : (classes : List ClassModel) (n : ℕ) → Wants classes n
wants classes zero c w v cs h e behind = let never : (let p : Option (Bool × World) = Some (false, v) in p) ≡ None = sym (walked_none classes c v (uppermost_of classes cs)) ∙ e in cc
wants classes (suc n) c w v cs h e behind =
    wants_first classes n (wants classes n) c w v cs h behind (first_of (with_state InProgress c w) (first_super classes c)) refl (sym (walks classes n c w v (uppermost_of classes cs) h) ∙ e)

pub walked_wants : (classes : List ClassModel) (n c : ℕ) (world : World) → walked classes n c world Absent ≡ None → (behind : Bool) → IsTrue (initialised_makes classes n c world behind)
walked_wants classes n c world e behind = wants classes n c world world [] (λ t i. refl) e behind

-- ---- the loop that walks

-- one class further
pub walk_on : (classes : List ClassModel) (n m c : ℕ) (world after : World) (up above : Uppermost) (f : First) → 0 < n → m ≡ n - 1 → after ≡ with_state Ready c world → above ≡ or_below classes c up →
    first_of after (first_super classes c) ≡ f → walked_by classes m after above f ≡ walked classes n c world up
walk_on classes n m c world after up above f h e at so is =
    ap (λ (x : World). walked_by classes m x above f) at
    ∙ ap (λ (x : Uppermost). walked_by classes m (with_state Ready c world) x f) so
    ∙ sym (walked_first classes n m c world up f h e (ap (λ (x : World). first_of x (first_super classes c)) (sym at) ∙ is))

-- what the last class told
pub told_ready : {E : Type 0} (r : Result Bool E) (classes : List ClassModel) (n c : ℕ) (before after : World) (o : Option Bool) → IfOk r (λ done. o ≡ Some done) → walked classes n c before Absent ≡ with_world after o →
    IfOk r (λ done. InitialisedAlone classes n c before done after)
told_ready (Ok done) classes n c before after o is e = walked_alone classes n c before after done (e ∙ ap (λ (x : Option Bool). with_world after x) is)
told_ready (Err fault) classes n c before after o is e = tt

pub told_wanting : {E : Type 0} (r : Result Bool E) (classes : List ClassModel) (n c : ℕ) (before after : World) (o : Option Bool) → OnErr r (o ≡ None) → walked classes n c before Absent ≡ with_world after o →
    OnErr r ((behind : Bool) → IsTrue (initialised_makes classes n c before behind))
told_wanting (Ok done) classes n c before after o is e = tt
told_wanting (Err fault) classes n c before after o is e = walked_wants classes n c before (e ∙ ap (λ (x : Option Bool). with_world after x) is)
