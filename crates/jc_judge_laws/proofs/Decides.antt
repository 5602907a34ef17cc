-- The functions that answer are right.
use Rattle.std.proofs.Common.{◌≡◌, ◌≢◌, ◌⊎◌, inl, inr, ℕ, zero, suc, Bool, true, false, List, [], ◌∷◌, ◌++◌, if◌then◌else◌, refl, sym, subst}
use Rattle.jc_types.specs.declared.form.Ty.{Ty}
use Rattle.jc_types.specs.declared.form.Arg.{Arg}
use Rattle.jc_types.specs.declared.table.Table.{Table}
use Rattle.jc_types.specs.declared.environment.Bounds.{Bounds}
use Rattle.jc_types.specs.Sameness.{same}
use Rattle.jc_types.proofs.Sameness.{same_told, same_self}
use Rattle.jc_judge.specs.declared.question.Part.{Part}
use Rattle.jc_judge.specs.declared.question.Part.TheVariants.{Sure, Never, Ask, Same}
use Rattle.jc_judge.specs.declared.question.Question.{Question}
use Rattle.jc_judge.specs.declared.question.Question.TheVariants.{Holds, Fails, Every, SomeOf}
use Rattle.jc_judge.specs.declared.question.Answer.{Answer}
use Rattle.jc_judge.specs.declared.question.Answer.TheVariants.{Yes, No, Deep}
use Rattle.jc_judge.specs.Asking.{question, contained}
use Rattle.jc_judge.specs.Trees.{Trees, Answers, Proof, Refute, Proved, Refuted, PartProved, PartRefuted, Each, OneOf, Contains, Excludes, both, either}
use Rattle.jc_judge.specs.Deciding.{answer_of, part_answer, every_answer, some_answer, question_answer, contained_answer}
use Rattle.jc_types.specs.Inside.{inside}
use Rattle.jc_judge.specs.Forming.{all_hold, Needs, needs, IsFormedBy, IsIllBy, AllFormed, OneIll, IsWellFormed, IsIllFormed, needs_answer, all_formed_answer, formed_answer}

both_right : {P Q R S : Type 0} (a b : Answer) → Answers P R a → Answers Q S b → Answers (P × Q) (R ⊎ S) (both a b)
both_right Yes Yes x y = record { yes = (λ _. (x.yes.0 refl, y.yes.0 refl), λ _. refl); no = (λ e. cc, elim [ inl r ↦ x.no.1 r | inr s ↦ y.no.1 s ]) }
both_right Yes No x y = record { yes = (λ e. cc, λ h. y.yes.1 h.1); no = (λ _. inr (y.no.0 refl), λ _. refl) }
both_right Yes Deep x y = record { yes = (λ e. cc, λ h. y.yes.1 h.1); no = (λ e. cc, elim [ inl r ↦ absurd (let w : Yes ≡ No = x.no.1 r in cc) | inr s ↦ y.no.1 s ]) }
both_right No b x y = record { yes = (λ e. cc, λ h. x.yes.1 h.0); no = (λ _. inl (x.no.0 refl), λ _. refl) }
both_right Deep No x y = record { yes = (λ e. cc, λ h. y.yes.1 h.1); no = (λ _. inr (y.no.0 refl), λ _. refl) }
both_right Deep Yes x y = record { yes = (λ e. cc, λ h. x.yes.1 h.0); no = (λ e. cc, elim [ inl r ↦ x.no.1 r | inr s ↦ absurd (let w : Yes ≡ No = y.no.1 s in cc) ]) }
both_right Deep Deep x y = record { yes = (λ e. cc, λ h. x.yes.1 h.0); no = (λ e. cc, elim [ inl r ↦ x.no.1 r | inr s ↦ y.no.1 s ]) }

either_right : {P Q R S : Type 0} (a b : Answer) → Answers P R a → Answers Q S b → Answers (P ⊎ Q) (R × S) (either a b)
either_right No No x y = record { yes = (λ e. cc, elim [ inl p ↦ x.yes.1 p | inr q ↦ y.yes.1 q ]); no = (λ _. (x.no.0 refl, y.no.0 refl), λ _. refl) }
either_right No Yes x y = record { yes = (λ _. inr (y.yes.0 refl), λ _. refl); no = (λ e. cc, λ h. y.no.1 h.1) }
either_right No Deep x y = record { yes = (λ e. cc, elim [ inl p ↦ absurd (let w : No ≡ Yes = x.yes.1 p in cc) | inr q ↦ y.yes.1 q ]); no = (λ e. cc, λ h. y.no.1 h.1) }
either_right Yes b x y = record { yes = (λ _. inl (x.yes.0 refl), λ _. refl); no = (λ e. cc, λ h. x.no.1 h.0) }
either_right Deep Yes x y = record { yes = (λ _. inr (y.yes.0 refl), λ _. refl); no = (λ e. cc, λ h. y.no.1 h.1) }
either_right Deep No x y = record { yes = (λ e. cc, elim [ inl p ↦ x.yes.1 p | inr q ↦ absurd (let w : No ≡ Yes = y.yes.1 q in cc) ]); no = (λ e. cc, λ h. x.no.1 h.0) }
either_right Deep Deep x y = record { yes = (λ e. cc, elim [ inl p ↦ x.yes.1 p | inr q ↦ y.yes.1 q ]); no = (λ e. cc, λ h. x.no.1 h.0) }

holds_right : Answers (Unit {0}) ⊥ Yes
holds_right = record { yes = (λ _. tt, λ _. refl); no = (λ e. cc, λ h. absurd h) }

fails_right : Answers ⊥ (Unit {0}) No
fails_right = record { yes = (λ e. cc, λ h. absurd h); no = (λ _. tt, λ _. refl) }

module _ (P R : Part → Type 0) (f : Part → Answer) (g : (p : Part) → Answers (P p) (R p) (f p)) where
  every_right : (ps : List Part) → Answers (Each P ps) (OneOf R ps) (every_answer f ps)
  every_right [] = holds_right
  every_right (p ∷ ps) = both_right (f p) (every_answer f ps) (g p) (every_right ps)

  some_right : (ps : List Part) → Answers (OneOf P ps) (Each R ps) (some_answer f ps)
  some_right [] = fails_right
  some_right (p ∷ ps) = either_right (f p) (some_answer f ps) (g p) (some_right ps)

by_sameness : (s t : Ty) (b : Bool) → (b ≡ true → s ≡ t) → (s ≡ t → b ≡ true) → Answers (s ≡ t) (s ≢ t) (if b then Yes else No)
by_sameness s t true f g = record { yes = (λ _. f refl, λ _. refl); no = (λ e. cc, λ h. absurd (h (f refl))) }
by_sameness s t false f g = record {
  yes = (λ e. cc, λ h. absurd (let w : false ≡ true = g h in cc));
  no = (λ _ h. let w : false ≡ true = g h in cc, λ _. refl);
}

same_if : (s t : Ty) → s ≡ t → same s t ≡ true
same_if s t e = subst (λ u. same s u ≡ true) e (same_self s)

same_right : (s t : Ty) → Answers (s ≡ t) (s ≢ t) (if same s t then Yes else No)
same_right s t = by_sameness s t (same s t) (same_told s t) (same_if s t)

part_right : (A B : Ty → Ty → Type 0) (ask : Ty → Ty → Answer) → ((s t : Ty) → Answers (A s t) (B s t) (ask s t)) → (p : Part) → Answers (PartProved A p) (PartRefuted B p) (part_answer ask p)
part_right A B ask g Sure = holds_right
part_right A B ask g Never = fails_right
part_right A B ask g (Ask s t) = g s t
part_right A B ask g (Same s t) = same_right s t

question_right : (A B : Trees) (ask : List Bounds → Ty → Ty → Answer) → ((env : List Bounds) (s t : Ty) → Answers (A env s t) (B env s t) (ask env s t)) → (env : List Bounds) (q : Question)
    → Answers (Proved A env q) (Refuted B env q) (question_answer ask env q)
question_right A B ask g env Holds = holds_right
question_right A B ask g env Fails = fails_right
question_right A B ask g env (Every fresh ps) = every_right _ _ _ (part_right _ _ _ (g (env ++ fresh))) ps
question_right A B ask g env (SomeOf ps) = some_right _ _ _ (part_right _ _ _ (g env)) ps

-- a question that isn't settled at its root
rooted : (s t : Ty) (P R : Type 0) (b : Bool) (a : Answer) → (b ≡ true → s ≡ t) → (s ≡ t → b ≡ true) → Answers P R a → Answers ((s ≡ t) ⊎ P) ((s ≢ t) × R) (if b then Yes else a)
rooted s t P R true a f g h = record { yes = (λ _. inl (f refl), λ _. refl); no = (λ e. cc, λ h. absurd (h.0 (f refl))) }
rooted s t P R false a f g h = record {
  yes = (λ e. inr (h.yes.0 e), elim [ inl e ↦ absurd (let w : false ≡ true = g e in cc) | inr p ↦ h.yes.1 p ]);
  no = (λ e. (λ x. (let w : false ≡ true = g x in cc), h.no.0 e), λ x. h.no.1 x.1);
}

module _ (T : Table) where
  pub answer_right : (d : ℕ) (env : List Bounds) (s t : Ty) → Answers (Proof T d env s t) (Refute T d env s t) (answer_of T d env s t)
  unfolding Proof Refute answer_of
  answer_right zero env s t = record { yes = (λ e. cc, λ h. absurd h); no = (λ e. cc, λ h. absurd h) }
  answer_right (suc d) env s t =
      rooted s t (Proved (Proof T d) env (question T env s t)) (Refuted (Refute T d) env (question T env s t)) (same s t) (question_answer (answer_of T d) env (question T env s t)) (same_told s t) (same_if s t)
      (question_right (Proof T d) (Refute T d) (answer_of T d) (answer_right d) env (question T env s t))

  pub contained_right : (d : ℕ) (env : List Bounds) (a b : Arg) → Answers (Contains T d env a b) (Excludes T d env a b) (contained_answer T d env a b)
  contained_right d env a b = part_right (Proof T d env) (Refute T d env) (answer_of T d env) (answer_right d env) (contained a b)

  needs_right : (d : ℕ) (n : Needs) → Answers (IsFormedBy (Proof T d) n) (IsIllBy (Refute T d) n) (needs_answer T d n)
  needs_right d n =
      both_right _ _ (every_right _ _ _ (part_right _ _ _ (answer_right d n.full)) n.captured) (every_right _ _ _ (part_right _ _ _ (answer_right d n.plain)) n.lower)

  all_right : (d : ℕ) (env : List Bounds) (ts : List Ty) → Answers (AllFormed (Proof T d) T env ts) (OneIll (Refute T d) T env ts) (all_formed_answer T d env ts)
  all_right d env [] = holds_right
  all_right d env (t ∷ ts) = both_right _ _ (needs_right d (needs T env t)) (all_right d env ts)

  pub formed_right : (d : ℕ) (env : List Bounds) (t : Ty) → Answers (IsWellFormed T d env t) (IsIllFormed T d env t) (formed_answer T d env t)
  unfolding formed_answer
  formed_right d env t = all_right d env (inside t)

-- two right answers are one
pub single : {P R : Type 0} (a b : Answer) → Answers P R a → Answers P R b → a ≡ b
single Yes b x y = sym (y.yes.1 (x.yes.0 refl))
single No b x y = sym (y.no.1 (x.no.0 refl))
single Deep Yes x y = x.yes.1 (y.yes.0 refl)
single Deep No x y = x.no.1 (y.no.0 refl)
single Deep Deep x y = refl

pub answer_single : (T : Table) (d : ℕ) (env : List Bounds) (s t : Ty) (a : Answer) → Answers (Proof T d env s t) (Refute T d env s t) a → a ≡ answer_of T d env s t
answer_single T d env s t a h = single a (answer_of T d env s t) h (answer_right T d env s t)

module _ (T : Table) (d : ℕ) (env : List Bounds) (parts : List Part) where
  pub hold_right : Answers (Each (PartProved (Proof T d env)) parts) (OneOf (PartRefuted (Refute T d env)) parts) (all_hold T d env parts)
  hold_right = every_right _ _ _ (part_right _ _ _ (answer_right T d env)) parts

  pub hold_single : (a : Answer) → Answers (Each (PartProved (Proof T d env)) parts) (OneOf (PartRefuted (Refute T d env)) parts) a → a ≡ all_hold T d env parts
  hold_single a h = single a (all_hold T d env parts) h hold_right
