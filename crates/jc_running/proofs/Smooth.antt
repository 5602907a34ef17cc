-- Computations that are smooth in their units: with one unit more a computation that ended ends alike, and one that was going on
-- shows at most one thing more. `m` and `m'` are a computation and the same one with more room for what is inside it.
use Rattle.std.proofs.Common.{◌≡◌, ℕ, zero, suc, ◌+◌, ◌≤◌, refl, sym, ap, subst, arith}
use Rattle.std.specs.Prelude.{ℤ}
use Rattle.jc_running.specs.declared.seen.Shown.{Shown}
use Rattle.jc_running.specs.Shows.{AtMostOneMore, nothing_more}
use Rattle.jc_running.specs.declared.value.Completion.{Completion}
use Rattle.jc_running.specs.declared.value.Completion.TheVariants.{Normal, Broke, Continued, Returned}
use Rattle.jc_running.specs.declared.value.Turn.{Turn}
use Rattle.jc_running.specs.declared.value.Turn.TheVariants.{Again, Last}
use Rattle.jc_running.specs.Outcomes.{Out, Val, Thrown, Exited, Going, Wrong, Run, give, throw, exit, wrong, stop, on_both, both_ways, bind, spend, leave, node, next, instead, on_turn, turns, OneMore, WithOneUnitMore}

module _ (S : Type 0) (shown : S → Shown) where
  -- with no unit nothing is shown, and the program doesn't exit
  abbrev pub Quiet : {A : Type 0} → Out S A → Shown → Type 0
  Quiet (Val a u s) p = (u ≡ 0) × (shown s ≡ p)
  Quiet (Thrown address u s) p = (u ≡ 0) × (shown s ≡ p)
  Quiet (Exited code s) p = ⊥
  Quiet (Going s) p = shown s ≡ p
  Quiet Wrong p = Unit {0}

  -- what comes with one unit more, where the units ran out after this was shown
  abbrev pub After : {A : Type 0} → Shown → Out S A → Type 0
  After p (Val a u s) = (u ≡ 0) × AtMostOneMore p (shown s)
  After p (Thrown address u s) = (u ≡ 0) × AtMostOneMore p (shown s)
  After p (Exited code s) = shown s ≡ p
  After p (Going s) = AtMostOneMore p (shown s)
  After p Wrong = Unit {0}

  abbrev pub Grow : {A : Type 0} → ℕ → ℕ → Out S A → Out S A → Type 0
  Grow e u (Val a u1 s) o = (o ≡ Val a (suc u1) s) × (u1 + e ≤ u)
  Grow e u (Thrown address u1 s) o = (o ≡ Thrown address (suc u1) s) × (u1 + e ≤ u)
  Grow e u (Exited code s) o = o ≡ Exited code s
  Grow e u (Going s) o = After (shown s) o
  Grow e u Wrong o = o ≡ Wrong

  -- up to D units, m' with one unit more goes on from m; each way out takes e units
  pub record Smooth {A : Type 0} (D e : ℕ) (m m' : Run S A) : Type 0 where
    pub grow : (u : ℕ) (s : S) → u ≤ D → Grow e u (m u s) (m' (suc u) s)
    pub quiet : (s : S) → Quiet (m' 0 s) (shown s)

  grow_less : {A : Type 0} (e e' u v : ℕ) (o o' : Out S A) → u + e' ≤ v + e → Grow e u o o' → Grow e' v o o'
  grow_less e e' u v (Val a u1 s) o' h g = (g.0, let q = g.1 in omega arith)
  grow_less e e' u v (Thrown w u1 s) o' h g = (g.0, let q = g.1 in omega arith)
  grow_less e e' u v (Exited code s) o' h g = g
  grow_less e e' u v (Going s) o' h g = g
  grow_less e e' u v Wrong o' h g = g

  pub smooth_less : {A : Type 0} (D e D' e' : ℕ) (m m' : Run S A) → D' ≤ D → e' ≤ e → Smooth D e m m' → Smooth D' e' m m'
  smooth_less D e D' e' m m' hD he sm = record { grow = λ u s hu. grow_less e e' u u (m u s) (m' (suc u) s) (omega arith) (sm.grow u s (omega arith)); quiet = sm.quiet }

  after_quiet : {A : Type 0} (p q : Shown) (r : Out S A) → AtMostOneMore p q → Quiet r q → After p r
  after_quiet p q (Val a u s) h k = (k.0, subst (AtMostOneMore p) (sym k.1) h)
  after_quiet p q (Thrown a u s) h k = (k.0, subst (AtMostOneMore p) (sym k.1) h)
  after_quiet p q (Exited code s) h k = absurd k
  after_quiet p q (Going s) h k = subst (AtMostOneMore p) (sym k) h
  after_quiet p q Wrong h k = tt

  quiet_shown : {A : Type 0} (p q : Shown) (r : Out S A) → q ≡ p → Quiet r q → Quiet r p
  quiet_shown p q r e k = subst (Quiet r) e k

  after_both : {A B : Type 0} (f : A → Run S B) (g : ℕ → Run S B) (p : Shown) (r : Out S A) → ((a : A) (s : S) → Quiet (f a 0 s) (shown s)) → ((v : ℕ) (s : S) → Quiet (g v 0 s) (shown s)) → After p r → After p (on_both r f g)
  after_both f g p (Val a u s) qf qg h = after_quiet p (shown s) (f a u s) h.1 (subst (λ n. Quiet (f a n s) (shown s)) (sym h.0) (qf a s))
  after_both f g p (Thrown v u s) qf qg h = after_quiet p (shown s) (g v u s) h.1 (subst (λ n. Quiet (g v n s) (shown s)) (sym h.0) (qg v s))
  after_both f g p (Exited code s) qf qg h = h
  after_both f g p (Going s) qf qg h = h
  after_both f g p Wrong qf qg h = tt

  quiet_both : {A B : Type 0} (f : A → Run S B) (g : ℕ → Run S B) (p : Shown) (r : Out S A) → ((a : A) (s : S) → Quiet (f a 0 s) (shown s)) → ((v : ℕ) (s : S) → Quiet (g v 0 s) (shown s)) → Quiet r p → Quiet (on_both r f g) p
  quiet_both f g p (Val a u s) qf qg h = quiet_shown p (shown s) (f a u s) h.1 (subst (λ n. Quiet (f a n s) (shown s)) (sym h.0) (qf a s))
  quiet_both f g p (Thrown v u s) qf qg h = quiet_shown p (shown s) (g v u s) h.1 (subst (λ n. Quiet (g v n s) (shown s)) (sym h.0) (qg v s))
  quiet_both f g p (Exited code s) qf qg h = absurd h
  quiet_both f g p (Going s) qf qg h = h
  quiet_both f g p Wrong qf qg h = tt

  grow_both : {A B : Type 0} (D e D' u : ℕ) (f f' : A → Run S B) (g g' : ℕ → Run S B) (o o' : Out S A) → u ≤ D → D ≤ D' + e → ((a : A) → Smooth D' 0 (f a) (f' a)) → ((v : ℕ) → Smooth D' 0 (g v) (g' v)) → Grow e u o o' → Grow 0 u (on_both o f g) (on_both o' f' g')
  grow_both D e D' u f f' g g' (Val a u1 s) o' hu hD sf sg r =
      let q = r.1 in
      subst (λ x. Grow 0 u (f a u1 s) (on_both x f' g')) (sym r.0) (grow_less 0 0 u1 u (f a u1 s) (f' a (suc u1) s) (omega arith) ((sf a).grow u1 s (omega arith)))
  grow_both D e D' u f f' g g' (Thrown v u1 s) o' hu hD sf sg r =
      let q = r.1 in
      subst (λ x. Grow 0 u (g v u1 s) (on_both x f' g')) (sym r.0) (grow_less 0 0 u1 u (g v u1 s) (g' v (suc u1) s) (omega arith) ((sg v).grow u1 s (omega arith)))
  grow_both D e D' u f f' g g' (Exited code s) o' hu hD sf sg r = ap (λ x. on_both x f' g') r
  grow_both D e D' u f f' g g' (Going s) o' hu hD sf sg r = after_both f' g' (shown s) o' (λ a s. (sf a).quiet s) (λ v s. (sg v).quiet s) r
  grow_both D e D' u f f' g g' Wrong o' hu hD sf sg r = ap (λ x. on_both x f' g') r

  pub smooth_both : {A B : Type 0} (D e D' : ℕ) (m m' : Run S A) (f f' : A → Run S B) (g g' : ℕ → Run S B) → D ≤ D' + e → Smooth D e m m' → ((a : A) → Smooth D' 0 (f a) (f' a)) → ((v : ℕ) → Smooth D' 0 (g v) (g' v)) → Smooth D 0 (both_ways m f g) (both_ways m' f' g')
  smooth_both D e D' m m' f f' g g' hD sm sf sg = record {
    grow = λ u s hu. grow_both D e D' u f f' g g' (m u s) (m' (suc u) s) hu hD sf sg (sm.grow u s hu);
    quiet = λ s. quiet_both f' g' (shown s) (m' 0 s) (λ a s. (sf a).quiet s) (λ v s. (sg v).quiet s) (sm.quiet s);
  }

  pub smooth_throw : {A : Type 0} (D v : ℕ) → Smooth {A = A} D 0 (throw v) (throw v)
  smooth_throw D v = record { grow = λ u s hu. (refl, omega arith); quiet = λ s. (refl, refl) }

  pub smooth_give : {A : Type 0} (D : ℕ) (a : A) → Smooth D 0 (give a) (give a)
  smooth_give D a = record { grow = λ u s hu. (refl, omega arith); quiet = λ s. (refl, refl) }

  pub smooth_wrong : {A : Type 0} (D : ℕ) → Smooth {A = A} D 0 wrong wrong
  smooth_wrong D = record { grow = λ u s hu. refl; quiet = λ s. tt }

  pub smooth_bind : {A B : Type 0} (D e D' : ℕ) (m m' : Run S A) (f f' : A → Run S B) → D ≤ D' + e → Smooth D e m m' → ((a : A) → Smooth D' 0 (f a) (f' a)) → Smooth D 0 (bind m f) (bind m' f')
  smooth_bind D e D' m m' f f' hD sm sf = smooth_both D e D' m m' f f' throw throw hD sm sf (smooth_throw D')

  spend_grow : {A : Type 0} (D e u : ℕ) (m m' : Run S A) (s : S) → Smooth D e m m' → u ≤ suc D → Grow (suc e) u (spend m u s) (spend m' (suc u) s)
  spend_grow D e zero m m' s sm hu = after_quiet (shown s) (shown s) (m' 0 s) (nothing_more refl) (sm.quiet s)
  spend_grow D e (suc u) m m' s sm hu = grow_less e (suc e) u (suc u) (m u s) (m' (suc u) s) (omega arith) (sm.grow u s (omega arith))

  pub smooth_spend : {A : Type 0} (D e : ℕ) (m m' : Run S A) → Smooth D e m m' → Smooth (suc D) (suc e) (spend m) (spend m')
  smooth_spend D e m m' sm = record { grow = λ u s hu. spend_grow D e u m m' s sm hu; quiet = λ s. refl }

  pub smooth_node : {A : Type 0} (D : ℕ) (m m' : Run S A) → Smooth D 0 m m' → Smooth (suc D) 1 (node m) (node m')
  smooth_node D m m' sm =
      smooth_spend D 0 _ _ (smooth_both D 0 D m m' _ _ _ _ (omega arith) sm
      (λ a. smooth_less (suc D) 1 D 0 _ _ (omega arith) (omega arith) (smooth_spend D 0 _ _ (smooth_give D a)))
      (λ v. smooth_less (suc D) 1 D 0 _ _ (omega arith) (omega arith) (smooth_spend D 0 _ _ (smooth_throw D v))))

  -- the end of the units
  pub smooth_stop : {A : Type 0} (D e : ℕ) → Smooth {A = A} D e stop stop
  smooth_stop D e = record { grow = λ u s hu. nothing_more refl; quiet = λ s. refl }

  -- what changes the state, shows nothing and ends with a value
  pub smooth_change : {A : Type 0} (D : ℕ) (f : S → S) (a : S → A) → ((s : S) → shown (f s) ≡ shown s) → Smooth D 0 (λ u s. Val (a s) u (f s)) (λ u s. Val (a s) u (f s))
  smooth_change D f a same = record { grow = λ u s hu. (refl, omega arith); quiet = λ s. (refl, same s) }

  -- one thing is shown behind a unit
  show_grow : {A : Type 0} (u : ℕ) (f : S → S) (a : S → A) (s : S) → AtMostOneMore (shown s) (shown (f s)) → Grow 1 u (spend (λ u s. Val (a s) u (f s)) u s) (spend (λ u s. Val (a s) u (f s)) (suc u) s)
  show_grow zero f a s h = (refl, h)
  show_grow (suc u) f a s h = (refl, omega arith)

  pub smooth_show : {A : Type 0} (D : ℕ) (f : S → S) (a : S → A) → ((s : S) → AtMostOneMore (shown s) (shown (f s))) → Smooth D 1 (spend (λ u s. Val (a s) u (f s))) (spend (λ u s. Val (a s) u (f s)))
  smooth_show D f a one = record { grow = λ u s hu. show_grow u f a s (one s); quiet = λ s. refl }

  -- the program exits behind a unit
  exit_grow : (A : Type 0) (u : ℕ) (code : ℤ) (s : S) → Grow {A = A} 1 u (spend (exit code) u s) (spend (exit code) (suc u) s)
  exit_grow A zero code s = refl
  exit_grow A (suc u) code s = refl

  pub smooth_exit : {A : Type 0} (D : ℕ) (code : ℤ) → Smooth {A = A} D 1 (spend (exit code)) (spend (exit code))
  smooth_exit {A} D code = record { grow = λ u s hu. exit_grow A u code s; quiet = λ s. refl }

  pub smooth_next : (D : ℕ) (m m' : Run S Completion) → Smooth D 0 m m' → (c : Completion) → Smooth D 0 (next c m) (next c m')
  smooth_next D m m' sm Normal = sm
  smooth_next D m m' sm (Broke t) = smooth_give D (Broke t)
  smooth_next D m m' sm (Continued t) = smooth_give D (Continued t)
  smooth_next D m m' sm (Returned v) = smooth_give D (Returned v)

  pub smooth_instead : (D : ℕ) (m m' : Run S Completion) → Smooth D 0 m m' → (c : Completion) → Smooth D 0 (instead c m) (instead c m')
  smooth_instead D m m' sm Normal = sm
  smooth_instead D m m' sm (Broke t) = smooth_give D (Broke t)
  smooth_instead D m m' sm (Continued t) = smooth_give D (Continued t)
  smooth_instead D m m' sm (Returned v) = smooth_give D (Returned v)

  smooth_turn : {I : Type 0} (D : ℕ) (f f' : I → Run S Completion) → ((i : I) → Smooth D 0 (f i) (f' i)) → (t : Turn I) → Smooth D 0 (on_turn t f) (on_turn t f')
  smooth_turn D f f' sf (Again i) = sf i
  smooth_turn D f f' sf (Last c) = smooth_give D c

  zero_grow : {I : Type 0} (turn' : I → Run S (Turn I)) (i : I) (u : ℕ) (s : S) → u ≤ 0 → ((j : I) (s : S) → Quiet (turn' j 0 s) (shown s)) → After (shown s) (turns 1 turn' i (suc u) s)
  zero_grow turn' i u s hu q =
      let e : 0 ≡ u = omega arith in
      subst (λ n. After (shown s) (bind (turn' i) (λ t. on_turn t (turns 0 turn')) n s)) e
      (after_quiet (shown s) (shown s) (bind (turn' i) (λ t. on_turn t (turns 0 turn')) 0 s) (nothing_more refl)
      (quiet_both (λ t. on_turn t (turns 0 turn')) throw (shown s) (turn' i 0 s) (λ t s'. (smooth_turn 0 (turns 0 turn') (turns 0 turn') (λ j. smooth_stop 0 0) t).quiet s') (λ v s'. (refl, refl)) (q i s)))

  -- a loop, where the turns may be one more than the units
  pub smooth_turns : {I : Type 0} (k : ℕ) (turn turn' : I → Run S (Turn I)) → ((D : ℕ) → D ≤ k → (i : I) → Smooth D 0 (turn i) (turn' i)) → (i : I) → Smooth k 0 (turns k turn i) (turns (suc k) turn' i)
  smooth_turns zero turn turn' st i = record {
    grow = λ u s hu. zero_grow turn' i u s hu (λ j s'. (st 0 (omega arith) j).quiet s');
    quiet = λ s. refl;
  }
  smooth_turns (suc k) turn turn' st i =
      smooth_less (suc k) 1 (suc k) 0 _ _ (omega arith) (omega arith)
      (smooth_spend k 0 _ _ (smooth_bind k 0 k _ _ _ _ (omega arith) (st k (omega arith) i) (smooth_turn k _ _ (smooth_turns k turn turn' (λ D hD. st D (omega arith))))))

  -- a node at no depth, and one at the first
  leave_after : {A : Type 0} (p : Shown) (r : Out S A) → Quiet r p → After p (leave r)
  leave_after {A} p (Val a u s) q = subst (λ n. After {A = A} p (spend (give a) n s)) (sym q.0) (subst (AtMostOneMore p) (sym q.1) (nothing_more refl))
  leave_after {A} p (Thrown v u s) q = subst (λ n. After {A = A} p (spend (throw {A = A} v) n s)) (sym q.0) (subst (AtMostOneMore p) (sym q.1) (nothing_more refl))
  leave_after p (Exited code s) q = absurd q
  leave_after p (Going s) q = subst (AtMostOneMore p) (sym q) (nothing_more refl)
  leave_after p Wrong q = tt

  pub smooth_first : {A : Type 0} (m : Run S A) → ((s : S) → Quiet (m 0 s) (shown s)) → Smooth 0 1 stop (node m)
  smooth_first m q = record {
    grow = λ u s hu. let e : 0 ≡ u = omega arith in subst (λ n. After (shown s) (node m (suc n) s)) e (leave_after (shown s) (m 0 s) (q s));
    quiet = λ s. refl;
  }

  -- what is left of a node that ended with the next unit showed nothing more by that
  going_on : {A : Type 0} (p : Shown) (o : Out S A) → After p o → OneMore shown p (leave o)
  going_on {A} p (Val a u s) h = subst (λ n. OneMore {A = A} shown p (spend (give a) n s)) (sym h.0) h.1
  going_on {A} p (Thrown v u s) h = subst (λ n. OneMore {A = A} shown p (spend (throw {A = A} v) n s)) (sym h.0) h.1
  going_on p (Exited code s) h = h
  going_on p (Going s) h = h
  going_on p Wrong h = tt

  left_more : {A : Type 0} (u : ℕ) (o o' : Out S A) → Grow 0 u o o' → WithOneUnitMore shown (leave o) (leave o')
  left_more {A} u (Val a zero s) o' g = subst (λ x. WithOneUnitMore {A = A} shown (Going s) (leave x)) (sym g.0) refl
  left_more u (Val a (suc u1) s) o' g = ap leave g.0
  left_more {A} u (Thrown v zero s) o' g = subst (λ x. WithOneUnitMore {A = A} shown (Going s) (leave x)) (sym g.0) refl
  left_more u (Thrown v (suc u1) s) o' g = ap leave g.0
  left_more u (Exited code s) o' g = ap leave g
  left_more u (Going s) o' g = going_on (shown s) o' g
  left_more u Wrong o' g = ap leave g

  quiet_more : {A : Type 0} (p : Shown) (r : Out S A) → Quiet r p → OneMore shown p (leave r)
  quiet_more p r q = going_on p r (after_quiet p p r (nothing_more refl) q)

  more_at : {A : Type 0} (D u : ℕ) (m m' : Run S A) (s : S) → Smooth D 0 m m' → u ≤ suc D → WithOneUnitMore shown (node m u s) (node m' (suc u) s)
  more_at D zero m m' s sm hu = quiet_more (shown s) (m' 0 s) (sm.quiet s)
  more_at D (suc u) m m' s sm hu = left_more u (m u s) (m' (suc u) s) (sm.grow u s (omega arith))

  -- a node with one unit more
  pub node_goes_on : {A : Type 0} (D u : ℕ) (m m' : Run S A) (s : S) → Smooth D 0 m m' → u ≤ suc D → WithOneUnitMore shown (node m u s) (node m' (suc u) s)
  node_goes_on D u m m' s sm hu = more_at D u m m' s sm hu
