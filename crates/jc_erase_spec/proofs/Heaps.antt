-- What is done with states and heaps erases.
use Rattle.std.proofs.Common.{◌≡◌, ℕ, List, [], ◌∷◌, refl, ap, sym, ◌∙◌, Option, Some, None, map}
use Rattle.std.specs.Prelude.{slice_get}
use Rattle.std.specs.Option.{option_map}
use Rattle.std.proofs.lemmas.List.{map-append, length-map, map-set}
use Rattle.std.proofs.lemmas.Option.{slice_get-map}
use Rattle.jc_types.specs.declared.erased.Erased.{Erased}
use Rattle.jc_running.specs.declared.value.Value.{Value}
use Rattle.jc_running.specs.Outcomes.{Out, Val, Thrown, Exited, Going, Wrong, Run, throw, wrong, on_both, bind}
use Rattle.jc_heaps.specs.declared.state.Object.{Object}
use Rattle.jc_heaps.specs.declared.state.State.{State}
use Rattle.jc_heaps.specs.States.{some_or_wrong, look, change, object_at, with_part, set_part_in, set_part, set_local, local, back_in, in_frame}
use Rattle.jc_heaps.specs.Erases.{ErasedState, erase_object, erase_state, erase_out, Erases}
use Rattle.jc_heaps.specs.Making.{make}

module _ (K F R : Type 0) (erased : K → Erased) where
  abbrev S : Type 0
  S = State K F R

  pub erases_wrong : {A : Type 0} → Erases {A = A} erased (wrong {S = S}) wrong
  erases_wrong u s = refl

  pub erases_some : {A : Type 0} (o : Option A) → Erases erased (some_or_wrong {S = S} o) (some_or_wrong o)
  erases_some None u s = refl
  erases_some (Some a) u s = refl

  pub erases_look : {A : Type 0} (f : S → Option A) (f' : ErasedState → Option A) → ((s : S) → f s ≡ f' (erase_state erased s)) → Erases erased (look f) (look f')
  erases_look f f' h u s = erases_some (f s) u s ∙ ap (λ o. some_or_wrong o u (erase_state erased s)) (h s)

  pub erases_change : (f : S → S) (f' : ErasedState → ErasedState) → ((s : S) → erase_state erased (f s) ≡ f' (erase_state erased s)) → Erases erased (change f) (change f')
  erases_change f f' h u s = ap (λ t. Val tt u t) (h s)

  -- a computation that the state chooses
  pub erases_by : {A : Type 0} (m : S → Run S A) (m' : ErasedState → Run ErasedState A) → ((s : S) → Erases erased (m s) (m' (erase_state erased s))) → Erases erased (λ u s. m s u s) (λ u s. m' s u s)
  erases_by m m' h u s = h s u s

  pub erases_local : (n : ℕ) → Erases erased (local {K = K} {F = F} {R = R} n) (local n)
  erases_local n = erases_look (λ s. slice_get s.locals n) (λ s. slice_get s.locals n) (λ s. refl)

  pub erases_set_local : (n : ℕ) (v : Value) → Erases erased (set_local {K = K} {F = F} {R = R} n v) (set_local n v)
  erases_set_local n v u s = refl

  object_out : {B : Type 0} (f : Object K → Run S B) (f' : Object Erased → Run ErasedState B) → ((o : Object K) → Erases erased (f o) (f' (erase_object erased o))) → (o : Option (Object K)) (u : ℕ) (s : S) →
      erase_out erased (on_both (some_or_wrong o u s) f throw) ≡ on_both (some_or_wrong (option_map (erase_object erased) o) u (erase_state erased s)) f' throw
  object_out f f' ef None u s = refl
  object_out f f' ef (Some o) u s = ef o u s

  -- what an address stands for, and what is done with it
  pub erases_object : {B : Type 0} (a : ℕ) (f : Object K → Run S B) (f' : Object Erased → Run ErasedState B) → ((o : Object K) → Erases erased (f o) (f' (erase_object erased o))) → Erases erased (bind (object_at a) f) (bind (object_at a) f')
  erases_object a f f' ef u s =
      object_out f f' ef (slice_get s.heap a) u s
      ∙ ap (λ o. on_both (some_or_wrong o u (erase_state erased s)) f' throw) (sym (slice_get-map (erase_object erased) s.heap a))

  pub erases_make : (o : Object K) → Erases erased (make {F = F} {R = R} o) (make (erase_object erased o))
  erases_make o u s = rw (length-map s.heap (erase_object erased), map-append (erase_object erased) s.heap (o ∷ [])) refl

  heap_part : (heap : List (Object K)) (a n : ℕ) (v : Value) (o : Option (Object K)) →
      map (erase_object erased) (set_part_in heap a n v o) ≡ set_part_in (map (erase_object erased) heap) a n v (option_map (erase_object erased) o)
  heap_part heap a n v None = refl
  heap_part heap a n v (Some o) = map-set (erase_object erased) heap a (with_part o n v)

  pub erases_set_part : (a n : ℕ) (v : Value) → Erases erased (set_part {K = K} {F = F} {R = R} a n v) (set_part a n v)
  erases_set_part a n v =
      erases_change (λ s. record s { heap = set_part_in s.heap a n v (slice_get s.heap a) }) (λ s. record s { heap = set_part_in s.heap a n v (slice_get s.heap a) })
      (λ s. ap (λ h. record (erase_state erased s) { heap = h })
      (heap_part s.heap a n v (slice_get s.heap a) ∙ ap (set_part_in (map (erase_object erased) s.heap) a n v) (sym (slice_get-map (erase_object erased) s.heap a))))

  back_out : {A : Type 0} (locals : List Value) (frame : F) (o : Out S A) → erase_out erased (back_in locals frame o) ≡ back_in locals tt (erase_out erased o)
  back_out locals frame (Val a u s) = refl
  back_out locals frame (Thrown a u s) = refl
  back_out locals frame (Exited code s) = refl
  back_out locals frame (Going s) = refl
  back_out locals frame Wrong = refl

  -- in variables and a frame of its own
  pub erases_frame : {A : Type 0} (locals : List Value) (frame : F) (m : Run S A) (m' : Run ErasedState A) → Erases erased m m' → Erases erased (in_frame locals frame m) (in_frame locals tt m')
  erases_frame locals frame m m' em u s =
      back_out s.locals s.frame (m u (record s { locals = locals; frame = frame })) ∙ ap (back_in s.locals tt) (em u (record s { locals = locals; frame = frame }))
