-- Trees of more height, and that no question has both.
use Rattle.std.proofs.Common.{inl, inr, ℕ, zero, suc, List, [], ◌∷◌, ◌++◌}
use Rattle.jc_types.specs.declared.form.Ty.{Ty}
use Rattle.jc_types.specs.declared.table.Table.{Table}
use Rattle.jc_types.specs.declared.environment.Bounds.{Bounds}
use Rattle.jc_judge.specs.declared.question.Part.{Part}
use Rattle.jc_judge.specs.declared.question.Part.TheVariants.{Sure, Never, Ask, Same}
use Rattle.jc_judge.specs.declared.question.Question.{Question}
use Rattle.jc_judge.specs.declared.question.Question.TheVariants.{Holds, Fails, Every, SomeOf}
use Rattle.jc_judge.specs.Asking.{question}
use Rattle.jc_judge.specs.Trees.{Trees, Proof, Refute, Proved, Refuted, PartProved, PartRefuted, Each, OneOf}

module _ (P Q : Part → Type 0) (f : (p : Part) → P p → Q p) where
  each_along : (ps : List Part) → Each P ps → Each Q ps
  each_along [] h = tt
  each_along (p ∷ ps) h = (f p h.0, each_along ps h.1)

  one_along : (ps : List Part) → OneOf P ps → OneOf Q ps
  one_along [] h = absurd h
  one_along (p ∷ ps) (inl h) = inl (f p h)
  one_along (p ∷ ps) (inr h) = inr (one_along ps h)

clash : (P Q : Part → Type 0) (f : (p : Part) → P p → Q p → ⊥) (ps : List Part) → Each P ps → OneOf Q ps → ⊥
clash P Q f [] h k = k
clash P Q f (p ∷ ps) h (inl k) = f p h.0 k
clash P Q f (p ∷ ps) h (inr k) = clash P Q f ps h.1 k

part_along : (A B : Ty → Ty → Type 0) → ((s t : Ty) → A s t → B s t) → (p : Part) → PartProved A p → PartProved B p
part_along A B f Sure h = tt
part_along A B f Never h = h
part_along A B f (Ask s t) h = f s t h
part_along A B f (Same s t) h = h

refuted_along : (A B : Ty → Ty → Type 0) → ((s t : Ty) → A s t → B s t) → (p : Part) → PartRefuted A p → PartRefuted B p
refuted_along A B f Sure h = h
refuted_along A B f Never h = tt
refuted_along A B f (Ask s t) h = f s t h
refuted_along A B f (Same s t) h = h

part_clash : (A B : Ty → Ty → Type 0) → ((s t : Ty) → A s t → B s t → ⊥) → (p : Part) → PartProved A p → PartRefuted B p → ⊥
part_clash A B f Sure h k = k
part_clash A B f Never h k = h
part_clash A B f (Ask s t) h k = f s t h k
part_clash A B f (Same s t) h k = k h

proved_along : (A B : Trees) → ((env : List Bounds) (s t : Ty) → A env s t → B env s t) → (env : List Bounds) (q : Question) → Proved A env q → Proved B env q
proved_along A B f env Holds h = tt
proved_along A B f env Fails h = h
proved_along A B f env (Every fresh ps) h = each_along (PartProved (A (env ++ fresh))) (PartProved (B (env ++ fresh))) (part_along _ _ (f (env ++ fresh))) ps h
proved_along A B f env (SomeOf ps) h = one_along (PartProved (A env)) (PartProved (B env)) (part_along _ _ (f env)) ps h

refutes_along : (A B : Trees) → ((env : List Bounds) (s t : Ty) → A env s t → B env s t) → (env : List Bounds) (q : Question) → Refuted A env q → Refuted B env q
refutes_along A B f env Holds h = h
refutes_along A B f env Fails h = tt
refutes_along A B f env (Every fresh ps) h = one_along (PartRefuted (A (env ++ fresh))) (PartRefuted (B (env ++ fresh))) (refuted_along _ _ (f (env ++ fresh))) ps h
refutes_along A B f env (SomeOf ps) h = each_along (PartRefuted (A env)) (PartRefuted (B env)) (refuted_along _ _ (f env)) ps h

-- one clash of each list, from either side
question_clash : (A B : Trees) → ((env : List Bounds) (s t : Ty) → A env s t → B env s t → ⊥) → (env : List Bounds) (q : Question) → Proved A env q → Refuted B env q → ⊥
question_clash A B f env Holds h k = k
question_clash A B f env Fails h k = h
question_clash A B f env (Every fresh ps) h k = clash (PartProved (A (env ++ fresh))) (PartRefuted (B (env ++ fresh))) (part_clash _ _ (f (env ++ fresh))) ps h k
question_clash A B f env (SomeOf ps) h k = clash (PartRefuted (B env)) (PartProved (A env)) (λ p y x. part_clash _ _ (f env) p x y) ps k h

module _ (T : Table) where
  pub higher : (d : ℕ) (env : List Bounds) (s t : Ty) → Proof T d env s t → Proof T (suc d) env s t
  unfolding Proof
  higher zero env s t h = absurd h
  higher (suc d) env s t (inl e) = inl e
  higher (suc d) env s t (inr h) = inr (proved_along (Proof T d) (Proof T (suc d)) (higher d) env (question T env s t) h)

  pub higher_refutation : (d : ℕ) (env : List Bounds) (s t : Ty) → Refute T d env s t → Refute T (suc d) env s t
  unfolding Refute
  higher_refutation zero env s t h = absurd h
  higher_refutation (suc d) env s t h = (h.0, refutes_along (Refute T d) (Refute T (suc d)) (higher_refutation d) env (question T env s t) h.1)

  -- at any two heights
  pub never_both : (d e : ℕ) (env : List Bounds) (s t : Ty) → Proof T d env s t → Refute T e env s t → ⊥
  unfolding Proof Refute
  never_both zero e env s t h k = h
  never_both (suc d) zero env s t h k = k
  never_both (suc d) (suc e) env s t (inl x) k = k.0 x
  never_both (suc d) (suc e) env s t (inr h) k = question_clash (Proof T d) (Refute T e) (never_both d e) env (question T env s t) h k.1
