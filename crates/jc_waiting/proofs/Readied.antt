-- The initialisation of classes that makes nothing.
use Rattle.std.proofs.Common.{◌≡◌, ◌<◌, ◌-◌, ◌∙◌, [], ◌∷◌, ◌++◌, ℕ, zero, suc, Bool, true, false, List, refl, sym, ap, arith, nat_le, option_and_then, replicate, if◌then◌else◌}
use Rattle.std.proofs.lemmas.Bool.{le-leb}
use Rattle.std.specs.Prelude.{IfOk, IsTrue, OnErr, is_some}
use Rattle.std.specs.Option.{option_map}
use Rattle.std.specs.declared.option.Option.{Option}
use Rattle.std.specs.declared.option.Option.TheVariants.{Some, None}
use Rattle.std.specs.declared.result.Result.{Result}
use Rattle.std.specs.declared.result.Result.TheVariants.{Ok, Err}
use Rattle.jc_class_out.specs.declared.model.ClassModel.{ClassModel}
use Rattle.jc_class_out.specs.declared.model.CodeModel.{CodeModel}
use Rattle.jc_jvm.specs.Classes.{code_at, initialiser_of}
use Rattle.jc_jvm.specs.Frames.{frame_by, frame_of, locals_of}
use Rattle.jc_jvm.specs.Initialising.{first_super, initialised_on, initialiser_begins, resumed}
use Rattle.jc_jvm.specs.Thrown.{State, Over}
use Rattle.jc_jvm.specs.Worlds.{with_state}
use Rattle.jc_jvm.specs.declared.frame.Frame.{Frame}
use Rattle.jc_jvm.specs.declared.frame.Waiting.{Waiting}
use Rattle.jc_jvm.specs.declared.frame.Waiting.TheVariants.{Prepared}
use Rattle.jc_jvm.specs.declared.world.ClassState.TheVariants.{InProgress, Ready}
use Rattle.jc_jvm.specs.declared.world.Ending.TheVariants.{Stuck}
use Rattle.jc_jvm.specs.declared.world.Fault.TheVariants.{NoClassDefFound}
use Rattle.jc_jvm.specs.declared.world.World.{World}
use Rattle.jc_waiting.proofs.Begun.{begun, begun_by}
use Rattle.jc_waiting.specs.Alone.{InitialisedAlone}
use Rattle.jc_waiting.specs.Memory.{fault_makes, initialised_makes, ready_makes, resumed_makes}
use Rattle.jc_waiting.specs.Onwards.{first_of}
use Rattle.jc_waiting.specs.declared.initialising.First.{First}
use Rattle.jc_waiting.specs.declared.initialising.First.TheVariants as first
use Rattle.jc_waiting.specs.declared.onward.Onward.{Onward}

-- ---- a class whose superclass is done

abbrev pub resumed_by : List ClassModel → World → ℕ → List Waiting → Option ℕ → State
resumed_by classes world c waiting (Some m) = initialiser_begins classes world c waiting (frame_of classes (c, m) [])
resumed_by classes world c waiting None = resumed classes (with_state Ready c world) waiting

resumed_at : (classes : List ClassModel) (world : World) (c : ℕ) (waiting : List Waiting) (o : Option ℕ) →
    (elim o [ Some m ↦ initialiser_begins classes world c waiting (frame_of classes (c, m) []) | None ↦ resumed classes (with_state Ready c world) waiting ]) ≡ resumed_by classes world c waiting o
resumed_at classes world c waiting (Some m) = refl
resumed_at classes world c waiting None = refl

pub resumed_is : (classes : List ClassModel) (world : World) (c : ℕ) (waiting : List Waiting) (o : Option ℕ) → initialiser_of classes c ≡ o →
    resumed classes world (Prepared c ∷ waiting) ≡ resumed_by classes world c waiting o
resumed_is classes world c waiting o e = resumed_at classes world c waiting (initialiser_of classes c) ∙ ap (λ (i : Option ℕ). resumed_by classes world c waiting i) e

abbrev pub makes_by : List ClassModel → ℕ → Bool → Option ℕ → Bool
makes_by classes c behind (Some m) = is_some (frame_of classes (c, m) [])
makes_by classes c behind None = behind

makes_at : (classes : List ClassModel) (c : ℕ) (behind : Bool) (o : Option ℕ) → (elim o [ Some m ↦ is_some (frame_of classes (c, m) []) | None ↦ behind ]) ≡ makes_by classes c behind o
makes_at classes c behind (Some m) = refl
makes_at classes c behind None = refl

pub makes_is : (classes : List ClassModel) (c : ℕ) (behind : Bool) (o : Option ℕ) → initialiser_of classes c ≡ o → ready_makes classes c behind ≡ makes_by classes c behind o
makes_is classes c behind o e = makes_at classes c behind (initialiser_of classes c) ∙ ap (λ (i : Option ℕ). makes_by classes c behind i) e

frame_is : (classes : List ClassModel) (c m : ℕ) (o : Option CodeModel) → code_at classes c m ≡ o →
    frame_of classes (c, m) [] ≡ option_and_then (λ (code : CodeModel). option_map (frame_by c m code) (locals_of code.locals [])) o
frame_is classes c m o e = ap (λ (o : Option CodeModel). option_and_then (λ (code : CodeModel). option_map (frame_by c m code) (locals_of code.locals [])) o) e

there_by : (c m : ℕ) (code : CodeModel) (b : Bool) → b ≡ true → is_some (option_map (frame_by c m code) (if b then Some ([] ++ replicate (code.locals - 0) None) else None)) ≡ true
there_by c m code true e = refl
there_by c m code false e = cc

-- the frame of an initialiser, by its code
pub frame_there : (classes : List ClassModel) (c m : ℕ) (code : CodeModel) → code_at classes c m ≡ Some code → IsTrue (is_some (frame_of classes (c, m) []))
frame_there classes c m code is =
    ap (λ (o : Option Frame). is_some o) (frame_is classes c m (Some code) is) ∙ there_by c m code (nat_le 0 code.locals) (le-leb 0 code.locals (omega arith))

pub begins_not : (classes : List ClassModel) (world : World) (c m : ℕ) (waiting : List Waiting) → code_at classes c m ≡ None → initialiser_begins classes world c waiting (frame_of classes (c, m) []) ≡ Over Stuck
begins_not classes world c m waiting none = ap (λ (o : Option Frame). initialiser_begins classes world c waiting o) (frame_is classes c m None none)

pub ruleset begin_rules = (frame_there, begins_not)

-- ---- a class that isn't touched yet

abbrev pub begun_makes : List ClassModel → ℕ → ℕ → World → Bool → First → Bool
begun_makes classes n c started behind (first.Untouched before) = initialised_makes classes n before started (ready_makes classes c behind)
begun_makes classes n c started behind first.Failed = fault_makes classes NoClassDefFound
begun_makes classes n c started behind first.Nothing = ready_makes classes c behind

begun_at : (classes : List ClassModel) (n c : ℕ) (started : World) (behind : Bool) (f : First) →
    (elim f [
      | first.Untouched before ↦ initialised_makes classes n before started (ready_makes classes c behind)
      | first.Failed ↦ fault_makes classes NoClassDefFound
      | first.Nothing ↦ ready_makes classes c behind
    ]) ≡ begun_makes classes n c started behind f
begun_at classes n c started behind (first.Untouched before) = refl
begun_at classes n c started behind first.Failed = refl
begun_at classes n c started behind first.Nothing = refl

makes_suc : (classes : List ClassModel) (n c : ℕ) (world : World) (behind : Bool) →
    initialised_makes classes (suc n) c world behind ≡ begun_makes classes n c (with_state InProgress c world) behind (first_of (with_state InProgress c world) (first_super classes c))
unfolding initialised_makes
makes_suc classes n c world behind = begun_at classes n c (with_state InProgress c world) behind (first_of (with_state InProgress c world) (first_super classes c))

-- what it makes, by what has to be done about the superclass
pub makes_first : (classes : List ClassModel) (n c : ℕ) (world : World) (behind : Bool) → 0 < n →
    initialised_makes classes n c world behind ≡ begun_makes classes (n - 1) c (with_state InProgress c world) behind (first_of (with_state InProgress c world) (first_super classes c))
makes_first classes zero c world behind h = absurd (omega arith)
makes_first classes (suc n) c world behind h =
    let k : suc n - 1 ≡ n = omega arith in
    makes_suc classes n c world behind
    ∙ ap (λ (m : ℕ). begun_makes classes m c (with_state InProgress c world) behind (first_of (with_state InProgress c world) (first_super classes c))) (sym k)

pub makes_begun : (classes : List ClassModel) (n c : ℕ) (world : World) (behind : Bool) (f : First) → 0 < n → first_of (with_state InProgress c world) (first_super classes c) ≡ f →
    initialised_makes classes n c world behind ≡ begun_makes classes (n - 1) c (with_state InProgress c world) behind f
makes_begun classes n c world behind f h e = makes_first classes n c world behind h ∙ ap (λ (g : First). begun_makes classes (n - 1) c (with_state InProgress c world) behind g) e

-- the state, by the same
pub begun_state : (classes : List ClassModel) (n c : ℕ) (world : World) (waiting : List Waiting) (f : First) → 0 < n → first_of (with_state InProgress c world) (first_super classes c) ≡ f →
    initialised_on classes n c world waiting ≡ begun_by classes (n - 1) f (with_state InProgress c world) (Prepared c ∷ waiting)
begun_state classes n c world waiting f h e = begun classes n c world waiting h ∙ ap (λ (g : First). begun_by classes (n - 1) g (with_state InProgress c world) (Prepared c ∷ waiting)) e

-- ---- the whole of it, one superclass after the other

-- a superclass comes first
pub goes_on : (classes : List ClassModel) (n m c before : ℕ) (world : World) (waiting : List Waiting) → 0 < n → m ≡ n - 1 → first_of (with_state InProgress c world) (first_super classes c) ≡ first.Untouched before →
    initialised_on classes m before (with_state InProgress c world) (Prepared c ∷ waiting) ≡ initialised_on classes n c world waiting
goes_on classes n m c before world waiting h e is =
    ap (λ (k : ℕ). initialised_on classes k before (with_state InProgress c world) (Prepared c ∷ waiting)) e ∙ sym (begun_state classes n c world waiting (first.Untouched before) h is)

pub makes_on : (classes : List ClassModel) (n m c before : ℕ) (world : World) (behind : Bool) → 0 < n → m ≡ n - 1 → first_of (with_state InProgress c world) (first_super classes c) ≡ first.Untouched before →
    initialised_makes classes m before (with_state InProgress c world) (ready_makes classes c behind) ≡ initialised_makes classes n c world behind
makes_on classes n m c before world behind h e is =
    ap (λ (k : ℕ). initialised_makes classes k before (with_state InProgress c world) (ready_makes classes c behind)) e ∙ sym (makes_begun classes n c world behind (first.Untouched before) h is)

-- ---- what it came to

pub alone_goes : (classes : List ClassModel) (n c : ℕ) (before after : World) (done : Bool) (waiting : List Waiting) → done ≡ true → InitialisedAlone classes n c before done after →
    initialised_on classes n c before waiting ≡ resumed classes after waiting
alone_goes classes n c before after true waiting e told = told.0 waiting
alone_goes classes n c before after false waiting e told = cc

pub alone_makes : (classes : List ClassModel) (n c : ℕ) (before after : World) (done behind : Bool) → done ≡ true → InitialisedAlone classes n c before done after → initialised_makes classes n c before behind ≡ behind
alone_makes classes n c before after true behind e told = told.1 behind
alone_makes classes n c before after false behind e told = cc

pub alone_over : (classes : List ClassModel) (n c : ℕ) (before after : World) (done : Bool) (waiting : List Waiting) → done ≡ false → InitialisedAlone classes n c before done after →
    initialised_on classes n c before waiting ≡ Over Stuck
alone_over classes n c before after true waiting e told = cc
alone_over classes n c before after false waiting e told = told waiting

pub ruleset alone_told = (alone_goes, alone_makes, alone_over)

-- ---- the loop that begins

-- a class was kept in what waits, and is in progress
pub begun_on : (classes : List ClassModel) (n m c : ℕ) (world started : World) (waiting more : List Waiting) (f : First) → 0 < n → m ≡ n - 1 → started ≡ with_state InProgress c world → more ≡ Prepared c ∷ waiting →
    first_of started (first_super classes c) ≡ f → begun_by classes m f started more ≡ initialised_on classes n c world waiting
begun_on classes n m c world started waiting more f h e at kept is =
    ap (λ (k : ℕ). begun_by classes k f started more) e
    ∙ ap (λ (x : World). begun_by classes (n - 1) f x more) at
    ∙ ap (λ (w : List Waiting). begun_by classes (n - 1) f (with_state InProgress c world) w) kept
    ∙ sym (begun_state classes n c world waiting f h (ap (λ (x : World). first_of x (first_super classes c)) (sym at) ∙ is))

abbrev pub making_to : List ClassModel → ℕ → World → List Waiting → First → Bool
making_to classes n started more (first.Untouched before) = initialised_makes classes n before started (resumed_makes classes more)
making_to classes n started more first.Failed = fault_makes classes NoClassDefFound
making_to classes n started more first.Nothing = resumed_makes classes more

making_begun : (classes : List ClassModel) (n c : ℕ) (started : World) (waiting : List Waiting) (f : First) → making_to classes n started (Prepared c ∷ waiting) f ≡ begun_makes classes n c started (resumed_makes classes waiting) f
making_begun classes n c started waiting (first.Untouched before) = refl
making_begun classes n c started waiting first.Failed = refl
making_begun classes n c started waiting first.Nothing = refl

pub making_on : (classes : List ClassModel) (n m c : ℕ) (world started : World) (waiting more : List Waiting) (f : First) → 0 < n → m ≡ n - 1 → started ≡ with_state InProgress c world → more ≡ Prepared c ∷ waiting →
    first_of started (first_super classes c) ≡ f → making_to classes m started more f ≡ initialised_makes classes n c world (resumed_makes classes waiting)
making_on classes n m c world started waiting more f h e at kept is =
    ap (λ (k : ℕ). making_to classes k started more f) e
    ∙ ap (λ (x : World). making_to classes (n - 1) x more f) at
    ∙ ap (λ (w : List Waiting). making_to classes (n - 1) (with_state InProgress c world) w f) kept
    ∙ making_begun classes (n - 1) c (with_state InProgress c world) waiting f
    ∙ sym (makes_begun classes n c world (resumed_makes classes waiting) f h (ap (λ (x : World). first_of x (first_super classes c)) (sym at) ∙ is))

-- what the last call told, of a state and a want that are the same
pub if_state : {E : Type 0} (r : Result Onward E) (told : Onward → State) (a b : State) → b ≡ a → IfOk r (λ on. a ≡ told on) → IfOk r (λ on. b ≡ told on)
if_state (Ok on) told a b e is = e ∙ is
if_state (Err fault) told a b e is = tt

pub if_wanting : {E : Type 0} (r : Result Onward E) (a b : Bool) → b ≡ a → OnErr r (IsTrue a) → OnErr r (IsTrue b)
if_wanting (Ok on) a b e is = tt
if_wanting (Err fault) a b e is = e ∙ is
