-- What a program does is smooth in its units.
use Rattle.std.proofs.Common.{◌≡◌, ℕ, zero, suc, ◌+◌, List, [], ◌∷◌, inl, inr, refl, subst, ◌∙◌, arith}
use Rattle.std.specs.Prelude.{Bool, true, false, Option, Some, None, if◌then◌else◌}
use Rattle.jc_types.specs.declared.erased.Erased.{Erased}
use Rattle.jc_types.specs.declared.erased.Base.TheVariants as base
use Rattle.jc_types.specs.Erasing.{plain, raised}
use Rattle.jc_types.specs.declared.ids.ClassId.{ClassId}
use Rattle.jc_types.specs.declared.ids.MethodId.{MethodId}
use Rattle.jc_types.specs.Accessors.{is_interface}
use Rattle.jc_running.specs.declared.value.Value.{Value}
use Rattle.jc_running.specs.declared.value.Value.TheVariants.{Whole, Long, Address, Null}
use Rattle.jc_running.specs.declared.value.Readiness.{Readiness}
use Rattle.jc_running.specs.declared.value.Readiness.TheVariants.{Untouched, Begun, Ready, Failed}
use Rattle.jc_running.specs.declared.value.Completion.{Completion}
use Rattle.jc_running.specs.Outcomes.{Out, Val, Thrown, Exited, Going, Wrong, give, stop, bind, WithOneUnitMore}
use Rattle.jc_running.proofs.Smooth.{Smooth, smooth_less, smooth_node, smooth_first, smooth_stop, node_goes_on}
use Rattle.jc_heaps.specs.States.{shown_of}
use Rattle.jc_heaps.specs.Numbers.{whole_of}
use Rattle.jc_heaps.specs.Classes.{superclass_of}
use Rattle.jc_heaps.proofs.Plain.{seq, both}
use Rattle.jc_heaps.proofs.SmoothHeaps as h
use Rattle.jc_erased.specs.declared.program.ErasedProgram.{ErasedProgram}
use Rattle.jc_typed.specs.Trees.{Expr, Stmt}
use Rattle.jc_heaps.specs.Erases.{ErasedState}
use Rattle.jc_meaning.specs.Programs.{initialiser_of, method_class}
use Rattle.jc_erased.specs.Programs.{ErasedRun, erased_keeping, body_of}
use Rattle.jc_erased.specs.Classes.{set_readiness, if_superclass, superclass_first, run_initialiser, as_error, initialise, use_class, ready_by}
use Rattle.jc_meaning.specs.declared.target.Native.{Native}
use Rattle.jc_meaning.specs.declared.target.Native.TheVariants.{HashCode, ClassName, Put, ReadByte, Halt}
use Rattle.jc_meaning.specs.Natives.{native_of, native_act, address_in}
use Rattle.jc_erased.specs.Meaning.{Meaning, inner_of, written_body, native_or, body_act, meaning, run_static, run_main, argument_strings, outcome, main_outcome, first_state, seen, is_over}
use Rattle.jc_erased.proofs.SmoothCalls as c
use Rattle.jc_erased.proofs.SmoothExpressions as e
use Rattle.jc_erased.proofs.SmoothExpressions.{Levels}
use Rattle.jc_erased.proofs.SmoothStatements as t

module _ (D : ℕ) where
  abbrev Steady : {A : Type 0} → ErasedRun A → ErasedRun A → Type 0
  Steady m m' = Smooth ErasedState shown_of D 0 m m'

  andso : {A B : Type 0} {m m' : ErasedRun A} {f f' : A → ErasedRun B} → Steady m m' → ((a : A) → Steady (f a) (f' a)) → Steady (bind m f) (bind m' f')
  andso sm sf = seq ErasedState shown_of D sm sf

  gives : {A : Type 0} (a : A) → Steady (give a) (give a)
  gives a = h.gives Erased (Unit {0}) (Unit {0}) D a

  if_then : {A : Type 0} (b : Bool) {m m' n n' : ErasedRun A} → Steady m m' → Steady n n' → Steady (if b then m else n) (if b then m' else n')
  if_then true sm sn = sm
  if_then false sm sn = sn

  -- native methods
  addressed : (v : Value) → Steady (address_in v) (address_in v)
  addressed (Address a) = gives a
  addressed (Whole n) = h.wrongs Erased (Unit {0}) (Unit {0}) D
  addressed (Long n) = h.wrongs Erased (Unit {0}) (Unit {0}) D
  addressed Null = h.wrongs Erased (Unit {0}) (Unit {0}) D

  natives : (P : ErasedProgram) (n : Native) → Steady (native_act erased_keeping P.table P.known n) (native_act erased_keeping P.table P.known n)
  natives P HashCode = andso (h.looks Erased (Unit {0}) (Unit {0}) D _) (λ v. andso (addressed v) (λ a. gives _))
  natives P ClassName = andso (h.looks Erased (Unit {0}) (Unit {0}) D _) (λ v. andso (addressed v) (λ a. andso (h.objects Erased (Unit {0}) (Unit {0}) D a) (λ o. h.makes_string Erased (Unit {0}) (Unit {0}) D erased_keeping P.table P.known _)))
  natives P Put = andso (andso (h.looks Erased (Unit {0}) (Unit {0}) D _) (λ v. h.somes Erased (Unit {0}) (Unit {0}) D (whole_of v))) (λ n. andso (h.puts Erased (Unit {0}) (Unit {0}) D _) (λ _. gives _))
  natives P ReadByte = h.takes Erased (Unit {0}) (Unit {0}) D
  natives P Halt = andso (andso (h.looks Erased (Unit {0}) (Unit {0}) D _) (λ v. h.somes Erased (Unit {0}) (Unit {0}) D (whole_of v))) (λ n. h.exits Erased (Unit {0}) (Unit {0}) D n)

  module _ (P : ErasedProgram) where
    -- uses of classes
    uses : {m m' : ErasedRun (Unit {0})} → Steady m m' → (x : Readiness) → Steady (use_class P m x) (use_class P m' x)
    uses sm Untouched = sm
    uses sm Begun = gives tt
    uses sm Ready = gives tt
    uses sm Failed = h.raises Erased (Unit {0}) (Unit {0}) D erased_keeping P.table P.known P.known.thrown.no_class

    pub readies : (f f' : ClassId → ErasedRun (Unit {0})) → ((k : ClassId) → Steady (f k) (f' k)) → (k : ClassId) → Steady (ready_by P f k) (ready_by P f' k)
    readies f f' sf k = andso (h.looks Erased (Unit {0}) (Unit {0}) D _) (uses (sf k))

    module _ (r r' : Meaning) (k k' : ℕ) (L : Levels D (inner_of r) (inner_of r')) (SR : (x : Stmt) → Smooth ErasedState shown_of D 1 (r.stmt x) (r'.stmt x)) where
      written : (o : Option (List Stmt)) → Steady (written_body P r k o) (written_body P r' k' o)
      written None = h.wrongs Erased (Unit {0}) (Unit {0}) D
      written (Some ss) = t.all_s P (inner_of r) (inner_of r') r.stmt r'.stmt k k' D L SR ss

      or_native : (o : Option Native) {m m' : ErasedRun Completion} → Steady m m' → Steady (native_or P o m) (native_or P o m')
      or_native (Some n) sm = andso (natives P n) (λ v. gives _)
      or_native None sm = sm

      pub body_s : (m : MethodId) → Steady (body_act P r k m) (body_act P r' k' m)
      body_s m = or_native (native_of P.known.natives m) (written (body_of P m))

      if_super : (o : Option ClassId) → Steady (if_superclass r.ready o) (if_superclass r'.ready o)
      if_super None = gives tt
      if_super (Some x) = L.readies x

      super_s : (x : ClassId) → Steady (superclass_first P r.ready x) (superclass_first P r'.ready x)
      super_s x = if_then (is_interface P.table x) (gives tt) (if_super (superclass_of P.table x))

      own_s : (o : Option MethodId) → Steady (run_initialiser P r.body o) (run_initialiser P r'.body o)
      own_s None = gives tt
      own_s (Some m) = andso (c.calls_static D P r.body r'.body L.bodies m []) (λ v. gives tt)

      error_s : (a : ℕ) → Steady (as_error P a) (as_error P a)
      error_s a = andso (h.objects Erased (Unit {0}) (Unit {0}) D a) (λ o. if_then _ (h.throws Erased (Unit {0}) (Unit {0}) D a) (h.raises Erased (Unit {0}) (Unit {0}) D erased_keeping P.table P.known P.known.thrown.in_initialiser))

      marks : (x : ClassId) (y : Readiness) → Steady (set_readiness x y) (set_readiness x y)
      marks x y = h.changes Erased (Unit {0}) (Unit {0}) D _ (λ s. refl)

      pub initialise_s : (x : ClassId) → Steady (initialise P r.body r.ready x) (initialise P r'.body r'.ready x)
      initialise_s x =
          andso (marks x Begun) (λ _.
          both ErasedState shown_of D (super_s x)
          (λ _. both ErasedState shown_of D (own_s (initialiser_of P.table x)) (λ _. marks x Ready) (λ a. andso (marks x Failed) (λ _. error_s a)))
          (λ a. andso (marks x Failed) (λ _. h.throws Erased (Unit {0}) (Unit {0}) D a)))

-- two depths, one after the other
pub record Smooths (P : ErasedProgram) (d : ℕ) : Type 0 where
  pub exprs : (x : Expr) → Smooth ErasedState shown_of d 1 ((meaning P d).expr x) ((meaning P (suc d)).expr x)
  pub stmts : (x : Stmt) → Smooth ErasedState shown_of d 1 ((meaning P d).stmt x) ((meaning P (suc d)).stmt x)
  pub bodies : (m : MethodId) → Smooth ErasedState shown_of d 1 ((meaning P d).body m) ((meaning P (suc d)).body m)
  pub readies : (k : ClassId) → Smooth ErasedState shown_of d 0 ((meaning P d).ready k) ((meaning P (suc d)).ready k)

levels_of : (P : ErasedProgram) (d : ℕ) → Smooths P d → Levels d (inner_of (meaning P d)) (inner_of (meaning P (suc d)))
levels_of P d h = record { exprs = h.exprs; bodies = h.bodies; readies = h.readies }

no_levels : (P : ErasedProgram) → Levels 0 (inner_of (meaning P 0)) (inner_of (meaning P 0))
unfolding meaning
no_levels P = record {
  exprs = λ x. smooth_stop ErasedState shown_of 0 1;
  bodies = λ m. smooth_stop ErasedState shown_of 0 1;
  readies = readies 0 P (λ k. stop) (λ k. stop) (λ k. smooth_stop ErasedState shown_of 0 0);
}

pub smooths : (P : ErasedProgram) (d : ℕ) → Smooths P d
unfolding meaning
smooths P zero =
    let z = meaning P 0 in
    let L = no_levels P in
    let SR : (x : Stmt) → Smooth ErasedState shown_of 0 1 (z.stmt x) (z.stmt x) = λ x. smooth_stop ErasedState shown_of 0 1 in
    record {
      exprs = λ x. smooth_first ErasedState shown_of _ (λ s. (e.expr_s 0 P (inner_of z) (inner_of z) L x).quiet s);
      stmts = λ x. smooth_first ErasedState shown_of _ (λ s. (t.stmt_s P (inner_of z) (inner_of z) z.stmt z.stmt 0 0 (inr (refl, refl)) L SR x).quiet s);
      bodies = λ m. smooth_first ErasedState shown_of _ (λ s. (body_s 0 P z z 0 0 L SR m).quiet s);
      readies = readies 0 P _ _ (λ k. smooth_less ErasedState shown_of 0 1 0 0 _ _ (omega arith) (omega arith) (smooth_first ErasedState shown_of _ (λ s. (initialise_s 0 P z z 0 0 L SR k).quiet s)));
    }
smooths P (suc d) =
    let a = meaning P d in let b = meaning P (suc d) in
    let h = smooths P d in
    let L = levels_of P d h in
    record {
      exprs = λ x. smooth_node ErasedState shown_of d _ _ (e.expr_s d P (inner_of a) (inner_of b) L x);
      stmts = λ x. smooth_node ErasedState shown_of d _ _ (t.stmt_s P (inner_of a) (inner_of b) a.stmt b.stmt d (suc d) (inl refl) L h.stmts x);
      bodies = λ m. smooth_node ErasedState shown_of d _ _ (body_s d P a b d (suc d) L h.stmts m);
      readies = readies (suc d) P _ _ (λ k. smooth_less ErasedState shown_of (suc d) 1 (suc d) 0 _ _ (omega arith) (omega arith) (smooth_node ErasedState shown_of d _ _ (initialise_s d P a b d (suc d) L h.stmts k)));
    }

-- a run with one unit more
pub run_goes_on : (P : ErasedProgram) (m : MethodId) (input : List ℕ) (n : ℕ) → WithOneUnitMore shown_of (outcome P m input n) (outcome P m input (suc n))
run_goes_on P m input n =
    node_goes_on ErasedState shown_of n n (run_static P m n) (run_static P m (suc n)) (first_state P input)
    (andso n ((smooths P n).readies (method_class P.table m)) (λ _. c.calls_static n P _ _ (smooths P n).bodies m []))
    (omega arith)

module _ (D : ℕ) (P : ErasedProgram) where
  arguments_s : (texts : List (List ℕ)) → Smooth ErasedState shown_of D 0 (argument_strings P texts) (argument_strings P texts)
  arguments_s [] = gives D []
  arguments_s (text ∷ texts) =
      andso D (h.makes_string Erased (Unit {0}) (Unit {0}) D erased_keeping P.table P.known text) (λ v. andso D (arguments_s texts) (λ vs. gives D (v ∷ vs)))

-- a run of a main method with one unit more
pub main_goes_on : (P : ErasedProgram) (m : MethodId) (args : List (List ℕ)) (input : List ℕ) (n : ℕ) → WithOneUnitMore shown_of (main_outcome P m args input n) (main_outcome P m args input (suc n))
main_goes_on P m args input n =
    node_goes_on ErasedState shown_of n n (run_main P m args n) (run_main P m args (suc n)) (first_state P input)
    (andso n (arguments_s n P args) (λ vs.
    andso n (h.makes Erased (Unit {0}) (Unit {0}) n (record { kept = raised 1 (plain (base.Class P.known.string)); parts = vs })) (λ a.
    andso n ((smooths P n).readies (method_class P.table m)) (λ _. c.calls_static n P _ _ (smooths P n).bodies m (Address a ∷ [])))))
    (omega arith)

-- what is over stays as it is
record Stays (P : ErasedProgram) (o o' : Out ErasedState Value) : Type 0 where
  over : is_over o' ≡ true
  same : seen P o' ≡ seen P o

stays_once : (P : ErasedProgram) (o o' : Out ErasedState Value) → is_over o ≡ true → WithOneUnitMore shown_of o o' → Stays P o o'
stays_once P (Val v u s) o' h g = record { over = rw g refl; same = rw g refl }
stays_once P (Thrown a u s) o' h g = record { over = rw g refl; same = rw g refl }
stays_once P (Exited code s) o' h g = record { over = rw g refl; same = rw g refl }
stays_once P (Going s) o' h g = cc
stays_once P Wrong o' h g = record { over = rw g refl; same = rw g refl }

stays_on : (P : ErasedProgram) (f : ℕ → Out ErasedState Value) → ((n : ℕ) → WithOneUnitMore shown_of (f n) (f (suc n))) → (n k : ℕ) → is_over (f n) ≡ true → Stays P (f n) (f (n + k))
stays_on P f g n zero h = let e : n ≡ n + 0 = omega arith in subst (λ i. Stays P (f n) (f i)) e (record { over = h; same = refl })
stays_on P f g n (suc k) h =
    let first : Stays P (f n) (f (n + k)) = stays_on P f g n k h in
    let once : Stays P (f (n + k)) (f (suc (n + k))) = stays_once P (f (n + k)) (f (suc (n + k))) first.over (g (n + k)) in
    let e : suc (n + k) ≡ n + suc k = omega arith in
    subst (λ i. Stays P (f n) (f i)) e (record { over = once.over; same = once.same ∙ first.same })

pub run_stays : (P : ErasedProgram) (m : MethodId) (input : List ℕ) (n k : ℕ) → is_over (outcome P m input n) ≡ true → seen P (outcome P m input (n + k)) ≡ seen P (outcome P m input n)
run_stays P m input n k h = (stays_on P (outcome P m input) (run_goes_on P m input) n k h).same

pub main_stays : (P : ErasedProgram) (m : MethodId) (args : List (List ℕ)) (input : List ℕ) (n k : ℕ) → is_over (main_outcome P m args input n) ≡ true → seen P (main_outcome P m args input (n + k)) ≡ seen P (main_outcome P m args input n)
main_stays P m args input n k h = (stays_on P (main_outcome P m args input) (main_goes_on P m args input) n k h).same
