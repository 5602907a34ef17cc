-- Answers put together.
use Rattle.std.proofs.Common.{◌≡◌, ◌≢◌, ◌↔◌, ◌⊎◌, inl, inr, ℕ, zero, suc, ◌<◌, ◌-◌, ◌+◌, List, [], ◌∷◌, ◌++◌, arith, refl, sym, ap, subst, ◌∙◌, take, get_or, length, append_assoc, append-nil, Result, Ok, Err, IfOk}
use Rattle.std.proofs.lemmas.List.{take_more}
use Rattle.jc_types.specs.declared.form.Ty.{Ty}
use Rattle.jc_types.specs.declared.table.Table.{Table}
use Rattle.jc_types.specs.declared.environment.Bounds.{Bounds}
use Rattle.jc_judge.specs.declared.question.Part.{Part}
use Rattle.jc_judge.specs.declared.question.Question.{Question}
use Rattle.jc_judge.specs.declared.question.Answer.{Answer}
use Rattle.jc_judge.specs.declared.question.Answer.TheVariants.{Yes, No, Deep}
use Rattle.jc_judge.specs.Asking.{question}
use Rattle.jc_judge.specs.declared.question.Question.TheVariants.{Every}
use Rattle.jc_judge.specs.Trees.{Answers, Proof, Refute, Proved, Refuted, PartProved, PartRefuted, Each, OneOf, both, either}

both_yes : (a b : Answer) → (both a b ≡ Yes) ↔ ((a ≡ Yes) × (b ≡ Yes))
both_yes Yes b = (λ e. (refl, e), λ e. e.1)
both_yes No b = (λ e. cc, λ e. cc)
both_yes Deep Yes = (λ e. cc, λ e. cc)
both_yes Deep No = (λ e. cc, λ e. cc)
both_yes Deep Deep = (λ e. cc, λ e. cc)

either_no : (a b : Answer) → (either a b ≡ No) ↔ ((a ≡ No) × (b ≡ No))
either_no No b = (λ e. (refl, e), λ e. e.1)
either_no Yes b = (λ e. cc, λ e. cc)
either_no Deep Yes = (λ e. cc, λ e. cc)
either_no Deep No = (λ e. cc, λ e. cc)
either_no Deep Deep = (λ e. cc, λ e. cc)

both_no : (a b : Answer) → (both a b ≡ No) ↔ ((a ≡ No) ⊎ (b ≡ No))
both_no Yes b = (λ e. inr e, elim [ inl e ↦ cc | inr e ↦ e ])
both_no No b = (λ e. inl refl, λ e. refl)
both_no Deep Yes = (λ e. cc, elim [ inl e ↦ cc | inr e ↦ cc ])
both_no Deep No = (λ e. inr refl, λ e. refl)
both_no Deep Deep = (λ e. cc, elim [ inl e ↦ cc | inr e ↦ cc ])

either_yes : (a b : Answer) → (either a b ≡ Yes) ↔ ((a ≡ Yes) ⊎ (b ≡ Yes))
either_yes No b = (λ e. inr e, elim [ inl e ↦ cc | inr e ↦ e ])
either_yes Yes b = (λ e. inl refl, λ e. refl)
either_yes Deep No = (λ e. cc, elim [ inl e ↦ cc | inr e ↦ cc ])
either_yes Deep Yes = (λ e. inr refl, λ e. refl)
either_yes Deep Deep = (λ e. cc, elim [ inl e ↦ cc | inr e ↦ cc ])

Each-push : (P : Part → Type 0) (ps : List Part) (p : Part) → Each P (ps ++ p ∷ []) ↔ (Each P ps × P p)
Each-push P [] p = (λ h. (tt, h.0), λ h. (h.1, tt))
Each-push P (x ∷ ps) p = let r = Each-push P ps p in (λ h. ((h.0, (r.0 h.1).0), (r.0 h.1).1), λ h. (h.0.0, r.1 (h.0.1, h.1)))

later : {A B C : Type 0} → B ⊎ C → (A ⊎ B) ⊎ C
later (inl h) = inl (inr h)
later (inr h) = inr h

to_push : {A B C D : Type 0} → (D → B ⊎ C) → A ⊎ D → (A ⊎ B) ⊎ C
to_push f (inl h) = inl (inl h)
to_push f (inr h) = later (f h)

from_push : {A B C D : Type 0} → (B ⊎ C → D) → (A ⊎ B) ⊎ C → A ⊎ D
from_push f (inl (inl h)) = inl h
from_push f (inl (inr h)) = inr (f (inl h))
from_push f (inr h) = inr (f (inr h))

OneOf-push : (P : Part → Type 0) (ps : List Part) (p : Part) → OneOf P (ps ++ p ∷ []) ↔ (OneOf P ps ⊎ P p)
OneOf-push P [] p = (elim [ inl h ↦ inr h | inr h ↦ absurd h ], elim [ inl h ↦ absurd h | inr h ↦ inl h ])
OneOf-push P (x ∷ ps) p = (to_push (OneOf-push P ps p).0, from_push (OneOf-push P ps p).1)

through : {A B C : Type 0} → A ↔ B → B ↔ C → A ↔ C
through f g = (λ a. g.0 (f.0 a), λ c. f.1 (g.1 c))

back : {A B : Type 0} → A ↔ B → B ↔ A
back f = (f.1, f.0)

pair_iff : {A B C D : Type 0} → A ↔ B → C ↔ D → (A × C) ↔ (B × D)
pair_iff f g = (λ h. (f.0 h.0, g.0 h.1), λ h. (f.1 h.0, g.1 h.1))

sum_iff : {A B C D : Type 0} → A ↔ B → C ↔ D → (A ⊎ C) ↔ (B ⊎ D)
sum_iff f g = (elim [ inl h ↦ inl (f.0 h) | inr h ↦ inr (g.0 h) ], elim [ inl h ↦ inl (f.1 h) | inr h ↦ inr (g.1 h) ])

module _ (P R : Part → Type 0) (ps : List Part) (p : Part) (a b : Answer) where
  pub every_push : Answers (Each P ps) (OneOf R ps) a → Answers (P p) (R p) b → Answers (Each P (ps ++ p ∷ [])) (OneOf R (ps ++ p ∷ [])) (both a b)
  every_push x y = record {
    yes = through (through (both_yes a b) (pair_iff x.yes y.yes)) (back (Each-push P ps p));
    no = through (through (both_no a b) (sum_iff x.no y.no)) (back (OneOf-push R ps p));
  }

  pub some_push : Answers (OneOf P ps) (Each R ps) a → Answers (P p) (R p) b → Answers (OneOf P (ps ++ p ∷ [])) (Each R (ps ++ p ∷ [])) (either a b)
  some_push x y = record {
    yes = through (through (either_yes a b) (sum_iff x.yes y.yes)) (back (OneOf-push P ps p));
    no = through (through (either_no a b) (pair_iff x.no y.no)) (back (Each-push R ps p));
  }

module _ (T : Table) (env : List Bounds) (s t : Ty) where
  pub at_zero : (n : ℕ) → n ≡ 0 → Answers (Proof T n env s t) (Refute T n env s t) Deep
  unfolding Proof Refute
  at_zero zero e = record { yes = (λ e. cc, λ h. absurd h); no = (λ e. cc, λ h. absurd h) }
  at_zero (suc n) e = absurd (omega arith)

  pub at_same : (n : ℕ) → 0 < n → s ≡ t → Answers (Proof T n env s t) (Refute T n env s t) Yes
  unfolding Proof Refute
  at_same zero lt e = absurd (omega arith)
  at_same (suc n) lt e = record { yes = (λ _. inl e, λ _. refl); no = (λ x. cc, λ h. absurd (h.0 e)) }

  pub at_step : (n : ℕ) (q : Question) (a : Answer) → 0 < n → s ≢ t → q ≡ question T env s t
      → Answers (Proved (Proof T (n - 1)) env q) (Refuted (Refute T (n - 1)) env q) a → Answers (Proof T n env s t) (Refute T n env s t) a
  unfolding Proof Refute
  at_step zero q a lt ne e h = absurd (omega arith)
  at_step (suc n) q a lt ne e h =
      let less : suc n - 1 ≡ n = omega arith in
      let k : Answers (Proved (Proof T n) env (question T env s t)) (Refuted (Refute T n) env (question T env s t)) a =
      subst (λ m. Answers (Proved (Proof T m) env (question T env s t)) (Refuted (Refute T m) env (question T env s t)) a) less
      (subst (λ q. Answers (Proved (Proof T (suc n - 1)) env q) (Refuted (Refute T (suc n - 1)) env q) a) e h) in
      record {
        yes = (λ x. inr (k.yes.0 x), elim [ inl x ↦ absurd (ne x) | inr x ↦ k.yes.1 x ]);
        no = (λ x. (ne, k.no.0 x), λ x. k.no.1 x.1);
      }

module _ (T : Table) (env fresh : List Bounds) where
  pub at_every : (n : ℕ) (grown : List Bounds) (q : Question) (more : List Bounds) (parts ps : List Part) (a : Answer) → q ≡ Every more parts → grown ≡ fresh ++ more → ps ≡ parts
      → Answers (Each (PartProved (Proof T n (env ++ grown))) ps) (OneOf (PartRefuted (Refute T n (env ++ grown))) ps) a → Answers (Proved (Proof T n) (env ++ fresh) q) (Refuted (Refute T n) (env ++ fresh) q) a
  at_every n grown q more parts ps a eq eg ep h =
      let whole : env ++ grown ≡ (env ++ fresh) ++ more = ap (λ g. env ++ g) eg ∙ sym (append_assoc env fresh more) in
      subst (λ q. Answers (Proved (Proof T n) (env ++ fresh) q) (Refuted (Refute T n) (env ++ fresh) q) a) (sym eq)
      (subst (λ g. Answers (Each (PartProved (Proof T n g)) parts) (OneOf (PartRefuted (Refute T n g)) parts) a) whole
      (subst (λ ps. Answers (Each (PartProved (Proof T n (env ++ grown))) ps) (OneOf (PartRefuted (Refute T n (env ++ grown))) ps) a) ep h))

module _ (P : Part → Type 0) where
  each_at : (ps : List Part) (i : ℕ) (p : Part) → i < length ps → p ≡ get_or ps i p → Each P ps → P p
  each_at [] i p lt e h = absurd (omega arith)
  each_at (q ∷ ps) zero p lt e h = subst P (sym e) h.0
  each_at (q ∷ ps) (suc i) p lt e h = each_at ps i p (omega arith) e h.1

  one_at : (ps : List Part) (i : ℕ) (p : Part) → i < length ps → p ≡ get_or ps i p → P p → OneOf P ps
  one_at [] i p lt e h = absurd (omega arith)
  one_at (q ∷ ps) zero p lt e h = inl (subst P e h)
  one_at (q ∷ ps) (suc i) p lt e h = inr (one_at ps i p (omega arith) e h)

module _ (P R : Part → Type 0) (ps : List Part) (i : ℕ) (p : Part) (b : Answer) where
  -- a part that is refuted decides
  pub every_ends : i < length ps → p ≡ get_or ps i p → b ≡ No → Answers (P p) (R p) b → Answers (Each P ps) (OneOf R ps) No
  every_ends lt e eb h = record {
    yes = (λ x. cc, λ all. absurd (let wrong : No ≡ Yes = sym eb ∙ h.yes.1 (each_at P ps i p lt e all) in cc));
    no = (λ x. one_at R ps i p lt e (h.no.0 eb), λ x. refl);
  }

  -- a part that is proved decides
  pub some_ends : i < length ps → p ≡ get_or ps i p → b ≡ Yes → Answers (P p) (R p) b → Answers (OneOf P ps) (Each R ps) Yes
  some_ends lt e eb h = record {
    yes = (λ x. one_at P ps i p lt e (h.yes.0 eb), λ x. refl);
    no = (λ x. cc, λ all. absurd (let wrong : Yes ≡ No = sym eb ∙ h.no.1 (each_at R ps i p lt e all) in cc));
  }

module _ (T : Table) (env : List Bounds) where
  -- with no variable after the env
  pub in_env : (n : ℕ) (s t : Ty) (a : Answer) → Answers (Proof T n (env ++ []) s t) (Refute T n (env ++ []) s t) a → Answers (Proof T n env s t) (Refute T n env s t) a
  in_env n s t a h = subst (λ g. Answers (Proof T n g s t) (Refute T n g s t) a) (append-nil env) h

  pub part_in_env : (n : ℕ) (p : Part) (a : Answer) → Answers (PartProved (Proof T n (env ++ [])) p) (PartRefuted (Refute T n (env ++ [])) p) a → Answers (PartProved (Proof T n env) p) (PartRefuted (Refute T n env) p) a
  part_in_env n p a h = subst (λ g. Answers (PartProved (Proof T n g) p) (PartRefuted (Refute T n g) p) a) (append-nil env) h

module _ (P R : Part → Type 0) (ps : List Part) (i : ℕ) (p : Part) (a b r : Answer) where
  one_more : i < length ps → p ≡ get_or ps i p → take i ps ++ p ∷ [] ≡ take (i + 1) ps
  one_more lt e = ap (λ x. take i ps ++ x ∷ []) e ∙ sym (take_more ps i p lt)

  pub every_step : i < length ps → p ≡ get_or ps i p → r ≡ both a b → Answers (Each P (take i ps)) (OneOf R (take i ps)) a → Answers (P p) (R p) b → Answers (Each P (take (i + 1) ps)) (OneOf R (take (i + 1) ps)) r
  every_step lt e er x y =
      subst (λ r. Answers (Each P (take (i + 1) ps)) (OneOf R (take (i + 1) ps)) r) (sym er)
      (subst (λ l. Answers (Each P l) (OneOf R l) (both a b)) (one_more lt e) (every_push P R (take i ps) p a b x y))

  pub some_step : i < length ps → p ≡ get_or ps i p → r ≡ either a b → Answers (OneOf P (take i ps)) (Each R (take i ps)) a → Answers (P p) (R p) b → Answers (OneOf P (take (i + 1) ps)) (Each R (take (i + 1) ps)) r
  some_step lt e er x y =
      subst (λ r. Answers (OneOf P (take (i + 1) ps)) (Each R (take (i + 1) ps)) r) (sym er)
      (subst (λ l. Answers (OneOf P l) (Each R l) (either a b)) (one_more lt e) (some_push P R (take i ps) p a b x y))

pub if_ok_along : {A E : Type 0} (r : Result A E) (P Q : A → Type 0) → ((a : A) → P a → Q a) → IfOk r P → IfOk r Q
if_ok_along (Ok a) P Q f h = f a h
if_ok_along (Err e) P Q f h = tt
