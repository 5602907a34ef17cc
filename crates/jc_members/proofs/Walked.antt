-- A walk upwards that comes to each class by the first way, and what it leaves out.
use Rattle.std.proofs.Common.{◌≡◌, ◌≢◌, ℕ, suc, ◌+◌, ◌<◌, Bool, true, false, cond, Option, Some, None, List, [], ◌∷◌, ◌++◌, length, slice_get, arith, refl, sym, ap, subst, ◌∙◌}
use Rattle.std.specs.Prelude.{nat_eq}
use Rattle.std.proofs.lemmas.Bool.Decides.{nat_tests}
use Rattle.jc_rules.proofs.Truths.{same_number}
use Rattle.jc_types.specs.declared.form.Ty.{Ty}
use Rattle.jc_types.specs.declared.ids.ClassId.{ClassId}
use Rattle.jc_types.specs.declared.table.Table.{Table}
use Rattle.jc_types.specs.Accessors.{supers_of, class_count}
use Rattle.jc_judge.specs.Kinds.{class_of}
use Rattle.jc_judge.specs.Supers.{numbered}
use Rattle.jc_judge.specs.Views.{supers, view}
use Rattle.jc_sub.specs.Reaching.{IsUp, and_then}
use Rattle.jc_members.specs.declared.walking.Turn.{Turn}
use Rattle.jc_members.specs.Walking.{IsWay}
use Rattle.jc_members.proofs.Reached.{Walking, arrives, begins, ends, follow, goes_back, goes_past, goes_up, led, led_view}

other_number : (a b : ℕ) → nat_eq a b ≡ false → a ≢ b
other_number a b e = grind (arith, nat_tests)

own_number : (a : ℕ) → nat_eq a a ≡ true
own_number a = grind (arith, nat_tests)

-- ---- the views of the classes along the turns

-- the views are those that the turns lead to from type t of class x's
abbrev pub Held : Table → (ℕ → Option Ty) → Ty → List Turn → ℕ → Type 0
Held T views t [] x = views x ≡ Some t
Held T views t (f ∷ fs) x = (views f.from.0 ≡ Some t) × (u : Ty) × (slice_get (supers T t) f.next ≡ Some u) × Held T views u fs x

module _ (T : Table) where
  held_more : (old new : ℕ → Option Ty) → ((l : ℕ) (v : Ty) → old l ≡ Some v → new l ≡ Some v) → (t : Ty) (fs : List Turn) (x : ℕ) → Held T old t fs x → Held T new t fs x
  held_more old new more t [] x h = more x t h
  held_more old new more t (f ∷ fs) x h = (more f.from.0 t h.0, h.1, h.2, held_more old new more h.1 fs x h.3)

  held_push : (views : ℕ → Option Ty) (t : Ty) (fs : List Turn) (f : Turn) (u : Ty) (y : ℕ) (c : Ty) → Held T views t fs f.from.0 → views f.from.0 ≡ Some c → slice_get (supers T c) f.next ≡ Some u → views y ≡ Some u
      → Held T views t (fs ++ f ∷ []) y
  held_push views t [] f u y c h at is new =
      let same : t ≡ c = some_same (sym h ∙ at) in (h, u, subst (λ t. slice_get (supers T t) f.next ≡ Some u) (sym same) is, new)
    where
      some_same : {a b : Ty} → Some a ≡ Some b → a ≡ b
      some_same e = cc
  held_push views t (g ∷ fs) f u y c h at is new = (h.0, h.1, h.2, held_push views h.1 fs f u y c h.3 at is new)

  held_pop : (views : ℕ → Option Ty) (t : Ty) (fs : List Turn) (f : Turn) (x : ℕ) → Held T views t (fs ++ f ∷ []) x → Held T views t fs f.from.0
  held_pop views t [] f x h = h.0
  held_pop views t (g ∷ fs) f x h = (h.0, h.1, h.2, held_pop views h.1 fs f x h.3)

  held_last : (views : ℕ → Option Ty) (t : Ty) (fs : List Turn) (x : ℕ) → Held T views t fs x → (c : Ty) × (views x ≡ Some c) × (follow T fs t ≡ Some c)
  held_last views t [] x h = (t, h, refl)
  held_last views t (f ∷ fs) x h = let r = held_last views h.1 fs x h.3 in (r.0, r.1, ap (λ o. and_then o (follow T fs)) h.2 ∙ r.2)

  follow_push : (fs : List Turn) (f : Turn) (t c : Ty) → follow T fs t ≡ Some c → follow T (fs ++ f ∷ []) t ≡ slice_get (supers T c) f.next
  follow_push [] f t c e = let same : t ≡ c = some_same e in subst (λ c. and_then (slice_get (supers T t) f.next) (follow T []) ≡ slice_get (supers T c) f.next) same (and_some (slice_get (supers T t) f.next))
    where
      some_same : {a b : Ty} → Some a ≡ Some b → a ≡ b
      some_same e = cc

      and_some : (o : Option Ty) → and_then o (follow T []) ≡ o
      and_some None = refl
      and_some (Some u) = refl
  follow_push (g ∷ fs) f t c e = by (λ u e. follow_push fs f u c e) (slice_get (supers T t) g.next) e
    where
      by : ((u : Ty) → follow T fs u ≡ Some c → follow T (fs ++ f ∷ []) u ≡ slice_get (supers T c) f.next) → (o : Option Ty) → and_then o (follow T fs) ≡ Some c
          → and_then o (follow T (fs ++ f ∷ [])) ≡ slice_get (supers T c) f.next
      by h None e = cc
      by h (Some u) e = h u e

-- ---- where the walk stands

-- the views that are there are right, a class without one is yet to be come to, or has none, and the turns lead by views that are there
pub record Walks (T : Table) (from : ClassId) (t : Ty) (at : ClassId) (next : ℕ) (turns : List Turn) (views : ℕ → Option Ty) (left : ℕ → Bool) : Type 0 where
  pub kept : (l : ℕ) (v : Ty) → views l ≡ Some v → view T (numbered l) t ≡ Some v
  pub ahead : (y : ℕ) → views y ≡ None → Walking T (numbered y) from.0 at next turns (λ x. left x ≡ true)
  pub held : Held T views t turns at.0

led_to : (T : Table) (k from : ClassId) (fs : List Turn) (t : Ty) → IsWay T k from.0 fs k.0 → class_of t ≡ Some from → length fs < class_count T + 1 → follow T fs t ≡ view T k t
unfolding view
led_to T k from fs t p e lt = led_view T k from fs (class_count T + 1) t p e lt

pub walk_begins : (T : Table) (from : ClassId) (t : Ty) (views : ℕ → Option Ty) (left : ℕ → Bool) → class_of t ≡ Some from → ((l : ℕ) → views l ≡ cond (nat_eq from.0 l) (Some t) None) → ((y : ℕ) → left y ≡ true → ⊥)
    → Walks T from t from 0 [] views left
walk_begins T from t views left class put none =
    record {
      kept = λ l v e. by_kept l v (nat_eq from.0 l) refl (sym (put l) ∙ e);
      ahead = λ y e. begins T (numbered y) from (λ x. left x ≡ true) (by_ahead y (nat_eq from.0 y) refl (sym (put y) ∙ e)) none;
      held = put from.0 ∙ ap (λ (b : Bool). cond b (Some t) None) (own_number from.0);
    }
  where
    own : view T from t ≡ Some t
    own = sym (led_to T from from [] t refl class (omega arith))

    by_kept : (l : ℕ) (v : Ty) (b : Bool) → nat_eq from.0 l ≡ b → cond b (Some t) None ≡ Some v → view T (numbered l) t ≡ Some v
    by_kept l v true f e = subst (λ l. view T (numbered l) t ≡ Some v) (same_number from.0 l f) (own ∙ e)
    by_kept l v false f e = cc

    by_ahead : (y : ℕ) (b : Bool) → nat_eq from.0 y ≡ b → cond b (Some t) None ≡ None → from.0 ≢ y
    by_ahead y true f e = cc
    by_ahead y false f e = other_number from.0 y f

module _ (T : Table) (from : ClassId) (t : Ty) (at : ClassId) (next : ℕ) (turns : List Turn) (views : ℕ → Option Ty) (left : ℕ → Bool) (w : Walks T from t at next turns views left) where
  pub walk_past : (y n : ℕ) → IsUp T at.0 next y → left y ≡ true → n ≡ next + 1 → Walks T from t at n turns views left
  walk_past y n u m e =
      record {
        kept = w.kept;
        ahead = λ l none. goes_past T (numbered l) from.0 at next turns (λ x. left x ≡ true) (w.ahead l none) y n u m e;
        held = w.held;
      }

  pub walk_ends : slice_get (supers_of T (numbered at.0)) next ≡ None → turns ≡ [] → class_of t ≡ Some from → (l : ℕ) → views l ≡ None → view T (numbered l) t ≡ None
  unfolding view
  walk_ends e none class l f = ends T (numbered l) from.0 at next turns (λ x. left x ≡ true) (w.ahead l f) e none t class (class_count T + 1)

  pub walk_back : (fs : List Turn) (f : Turn) (n : ℕ) (new : ℕ → Bool) → slice_get (supers_of T (numbered at.0)) next ≡ None → turns ≡ fs ++ f ∷ [] → n ≡ f.next + 1
      → ((y : ℕ) → new y ≡ cond (nat_eq at.0 y) true (left y)) → Walks T from t f.from n fs views new
  walk_back fs f n new e split en more =
      record {
        kept = w.kept;
        ahead = λ l none. goes_back T (numbered l) from.0 at next turns (λ x. left x ≡ true) (w.ahead l none) fs f n left new e split en (λ y m. m) more;
        held = held_pop T views t fs f at.0 (subst (λ fs. Held T views t fs at.0) split w.held);
      }

  abbrev turn : Turn
  turn = record { from = at; next = next }

  -- the type of the next class, by the view of this one
  record Met (to : ClassId) : Type 0 where
    pub own : Ty
    pub type : Ty
    pub here : views at.0 ≡ Some own
    pub is : slice_get (supers T own) next ≡ Some type
    pub right : view T to t ≡ Some type

  meets : (to : ClassId) → IsUp T at.0 next to.0 → views to.0 ≡ None → class_of t ≡ Some from → length turns < class_count T → Met to
  meets to u none class lt =
      let way = arrives T to from.0 at next turns (λ x. left x ≡ true) (w.ahead to.0 none) u in
      let last = held_last T views t turns at.0 w.held in
      let short : length (turns ++ turn ∷ []) < class_count T + 1 = long turns lt in
      let end = led T to (turns ++ turn ∷ []) from.0 (class_count T + 1) t way class short in
      record {
        own = last.0;
        type = end.0;
        here = last.1;
        is = sym (follow_push T turns turn t last.0 last.2) ∙ end.1;
        right = sym (led_to T to from (turns ++ turn ∷ []) t way class short) ∙ end.1;
      }
    where
      push_length : (fs : List Turn) (f : Turn) → length (fs ++ f ∷ []) ≡ length fs + 1
      push_length [] f = refl
      push_length (g ∷ fs) f =
          let rest : length (fs ++ f ∷ []) ≡ length fs + 1 = push_length fs f in
          let whole : suc (length (fs ++ f ∷ [])) ≡ suc (length fs) + 1 = omega (arith, rest) in whole

      long : (fs : List Turn) → length fs < class_count T → length (fs ++ turn ∷ []) < class_count T + 1
      long fs lt = let e = push_length fs turn in omega (arith, e)

  pub walk_up : (to : ClassId) (new : ℕ → Option Ty) → IsUp T at.0 next to.0 → views to.0 ≡ None → class_of t ≡ Some from → length turns < class_count T
      → ((c u : Ty) → views at.0 ≡ Some c → slice_get (supers T c) next ≡ Some u → (l : ℕ) → new l ≡ cond (nat_eq to.0 l) (Some u) (views l))
      → Walks T from t to 0 (turns ++ turn ∷ []) new left
  walk_up to new u none class lt noted =
      let m = meets to u none class lt in
      let put : (l : ℕ) → new l ≡ cond (nat_eq to.0 l) (Some m.type) (views l) = noted m.own m.type m.here m.is in
      let more : (l : ℕ) (v : Ty) → views l ≡ Some v → new l ≡ Some v = λ l v e. put l ∙ by_more l v m.type (nat_eq to.0 l) refl e in
      record {
        kept = λ l v e. by_kept l v m (nat_eq to.0 l) refl (sym (put l) ∙ e);
        ahead = λ l e. by_ahead l m.type (nat_eq to.0 l) refl (sym (put l) ∙ e);
        held = held_push T new t turns turn m.type to.0 m.own (held_more T views new more t turns at.0 w.held) (more at.0 m.own m.here) m.is (put to.0 ∙ ap (λ (b : Bool). cond b (Some m.type) (views to.0)) (own_number to.0));
      }
    where
      by_more : (l : ℕ) (v type : Ty) (b : Bool) → nat_eq to.0 l ≡ b → views l ≡ Some v → cond b (Some type) (views l) ≡ Some v
      by_more l v type true f e = let g : views l ≡ None = subst (λ l. views l ≡ None) (same_number to.0 l f) none in cc
      by_more l v type false f e = e

      by_kept : (l : ℕ) (v : Ty) (m : Met to) (b : Bool) → nat_eq to.0 l ≡ b → cond b (Some m.type) (views l) ≡ Some v → view T (numbered l) t ≡ Some v
      by_kept l v m true f e = subst (λ l. view T (numbered l) t ≡ Some v) (same_number to.0 l f) (m.right ∙ e)
      by_kept l v m false f e = w.kept l v e

      by_ahead : (l : ℕ) (type : Ty) (b : Bool) → nat_eq to.0 l ≡ b → cond b (Some type) (views l) ≡ None → Walking T (numbered l) from.0 to 0 (turns ++ turn ∷ []) (λ x. left x ≡ true)
      by_ahead l type true f e = cc
      by_ahead l type false f e = goes_up T (numbered l) from.0 at next turns (λ x. left x ≡ true) (w.ahead l e) to u (other_number to.0 l f)
