-- What erases goes through the ways in which computations are put together.
use Rattle.std.proofs.Common.{◌≡◌, ℕ, zero, suc, refl, ap, ◌∙◌}
use Rattle.jc_types.specs.declared.erased.Erased.{Erased}
use Rattle.jc_running.specs.declared.value.Completion.{Completion}
use Rattle.jc_running.specs.declared.value.Turn.{Turn}
use Rattle.jc_running.specs.declared.value.Turn.TheVariants.{Again, Last}
use Rattle.jc_running.specs.Outcomes.{Out, Val, Thrown, Exited, Going, Wrong, Run, give, throw, on_both, both_ways, bind, spend, leave, node, on_turn, turns}
use Rattle.jc_heaps.specs.declared.state.State.{State}
use Rattle.jc_heaps.specs.Erases.{ErasedState, erase_out, Erases}

module _ (K F R : Type 0) (erased : K → Erased) where
  abbrev S : Type 0
  S = State K F R

  out_both : {A B : Type 0} (f : A → Run S B) (g : ℕ → Run S B) (f' : A → Run ErasedState B) (g' : ℕ → Run ErasedState B) → ((a : A) → Erases erased (f a) (f' a)) → ((v : ℕ) → Erases erased (g v) (g' v)) → (o : Out S A) → erase_out erased (on_both o f g) ≡ on_both (erase_out erased o) f' g'
  out_both f g f' g' ef eg (Val a u s) = ef a u s
  out_both f g f' g' ef eg (Thrown v u s) = eg v u s
  out_both f g f' g' ef eg (Exited code s) = refl
  out_both f g f' g' ef eg (Going s) = refl
  out_both f g f' g' ef eg Wrong = refl

  pub erases_both : {A B : Type 0} (m : Run S A) (m' : Run ErasedState A) (f : A → Run S B) (f' : A → Run ErasedState B) (g : ℕ → Run S B) (g' : ℕ → Run ErasedState B) → Erases erased m m' → ((a : A) → Erases erased (f a) (f' a)) → ((v : ℕ) → Erases erased (g v) (g' v)) → Erases erased (both_ways m f g) (both_ways m' f' g')
  erases_both m m' f f' g g' em ef eg u s = out_both f g f' g' ef eg (m u s) ∙ ap (λ o. on_both o f' g') (em u s)

  pub erases_give : {A : Type 0} (a : A) → Erases erased (give {S = S} a) (give a)
  erases_give a u s = refl

  pub erases_throw : {A : Type 0} (v : ℕ) → Erases {A = A} erased (throw {S = S} v) (throw v)
  erases_throw v u s = refl

  pub erases_bind : {A B : Type 0} (m : Run S A) (m' : Run ErasedState A) (f : A → Run S B) (f' : A → Run ErasedState B) → Erases erased m m' → ((a : A) → Erases erased (f a) (f' a)) → Erases erased (bind m f) (bind m' f')
  erases_bind m m' f f' em ef = erases_both m m' f f' throw throw em ef (λ v u s. refl)

  pub erases_spend : {A : Type 0} (m : Run S A) (m' : Run ErasedState A) → Erases erased m m' → Erases erased (spend m) (spend m')
  erases_spend m m' em zero s = refl
  erases_spend m m' em (suc u) s = em u s

  pub erases_node : {A : Type 0} (m : Run S A) (m' : Run ErasedState A) → Erases erased m m' → Erases erased (node m) (node m')
  erases_node {A} m m' em =
      erases_spend (λ u s. leave (m u s)) (λ u s. leave (m' u s))
      (erases_both m m' (λ a. spend (give a)) (λ a. spend (give a)) (λ v. spend (throw v)) (λ v. spend (throw v)) em
      (λ a. erases_spend (give a) (give a) (erases_give a))
      (λ v. erases_spend (throw v) (throw v) (λ u s. refl)))

  erases_on : {I : Type 0} (f : I → Run S Completion) (f' : I → Run ErasedState Completion) → ((i : I) → Erases erased (f i) (f' i)) → (t : Turn I) → Erases erased (on_turn t f) (on_turn t f')
  erases_on f f' ef (Again i) = ef i
  erases_on f f' ef (Last c) = erases_give c

  pub erases_turns : {I : Type 0} (k : ℕ) (turn : I → Run S (Turn I)) (turn' : I → Run ErasedState (Turn I)) → ((i : I) → Erases erased (turn i) (turn' i)) → (i : I) → Erases erased (turns k turn i) (turns k turn' i)
  erases_turns zero turn turn' et i = λ u s. refl
  erases_turns (suc k) turn turn' et i =
      erases_spend (bind (turn i) (λ t. on_turn t (turns k turn))) (bind (turn' i) (λ t. on_turn t (turns k turn')))
      (erases_bind (turn i) (turn' i) (λ t. on_turn t (turns k turn)) (λ t. on_turn t (turns k turn')) (et i)
      (erases_on (turns k turn) (turns k turn') (erases_turns k turn turn' et)))
