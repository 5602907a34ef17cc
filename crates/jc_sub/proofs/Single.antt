-- An answer is that of the function that answers.
use Rattle.std.proofs.Common.{◌≡◌, ℕ, List, [], ◌++◌, ap, subst, ◌∙◌, append-nil}
use Rattle.jc_types.specs.declared.form.Ty.{Ty}
use Rattle.jc_types.specs.declared.form.Arg.{Arg}
use Rattle.jc_types.specs.declared.table.Table.{Table}
use Rattle.jc_types.specs.declared.environment.Bounds.{Bounds}
use Rattle.jc_judge.specs.declared.question.Part.{Part}
use Rattle.jc_judge.specs.declared.question.Answer.{Answer}
use Rattle.jc_judge.specs.Asking.{contained}
use Rattle.jc_judge.specs.Trees.{Answers, Proof, Refute, PartProved, PartRefuted}
use Rattle.jc_judge.specs.Deciding.{answer_of, contained_answer}
use Rattle.jc_judge_laws.proofs.Decides.{answer_single, contained_right, single}

module _ (T : Table) (env seen fresh : List Bounds) where
  same_env : seen ≡ env → fresh ≡ [] → seen ++ fresh ≡ env
  same_env e f = ap (λ g. g ++ fresh) e ∙ ap (λ g. env ++ g) f ∙ append-nil env

  pub answer_told : (n : ℕ) (s t : Ty) (a : Answer) → seen ≡ env → fresh ≡ [] → Answers (Proof T n (seen ++ fresh) s t) (Refute T n (seen ++ fresh) s t) a → a ≡ answer_of T n env s t
  answer_told n s t a e f h = answer_single T n env s t a (subst (λ g. Answers (Proof T n g s t) (Refute T n g s t) a) (same_env e f) h)

  pub contained_told : (n : ℕ) (a b : Arg) (p : Part) (r : Answer) → seen ≡ env → fresh ≡ [] → p ≡ contained a b
      → Answers (PartProved (Proof T n (seen ++ fresh)) p) (PartRefuted (Refute T n (seen ++ fresh)) p) r → r ≡ contained_answer T n env a b
  contained_told n a b p r e f ep h =
      single r (contained_answer T n env a b)
      (subst (λ q. Answers (PartProved (Proof T n env) q) (PartRefuted (Refute T n env) q) r) ep
      (subst (λ g. Answers (PartProved (Proof T n g) p) (PartRefuted (Refute T n g) p) r) (same_env e f) h))
      (contained_right T n env a b)
