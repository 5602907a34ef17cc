-- Answers joined from left to right, and what a right answer says of well-formedness.
use Rattle.std.proofs.Common.{◌≡◌, ◌↔◌, ◌==◌, true, List, length, arith, refl, sym, ap, subst, ◌∙◌}
use Rattle.std.proofs.lemmas.Bool.Decides.{nat_tests}
use Rattle.jc_types.specs.declared.form.Ty.{Ty}
use Rattle.jc_types.specs.declared.table.Table.{Table}
use Rattle.jc_types.specs.declared.environment.Bounds.{Bounds}
use Rattle.jc_types.specs.declared.form.Arg.{Arg}
use Rattle.jc_types.specs.declared.form.Ty.TheVariants.{Class, outs-Class}
use Rattle.jc_types.specs.declared.ids.VarId.{VarId}
use Rattle.jc_types.specs.declared.ids.ClassId.{ClassId}
use Rattle.jc_types.specs.Accessors.{vars_of}
use Rattle.jc_judge.specs.declared.question.Answer.{Answer}
use Rattle.jc_judge.specs.declared.question.Answer.TheVariants.{Yes, No, Deep}
use Rattle.jc_judge.specs.Trees.{Answers, both}
use Rattle.jc_judge.specs.Forming.{IsWellFormed, IsIllFormed, formed_answer, needs, needs_at, counted_needs}
use Rattle.jc_judge_laws.proofs.Decides.{formed_right}

pub both-yes : (a : Answer) → both a Yes ≡ a
both-yes Yes = refl
both-yes No = refl
both-yes Deep = refl

pub both-no : (a : Answer) → both a No ≡ No
both-no Yes = refl
both-no No = refl
both-no Deep = refl

pub both-both : (a b c : Answer) → both (both a b) c ≡ both a (both b c)
both-both Yes b c = refl
both-both No b c = refl
both-both Deep Yes c = refl
both-both Deep No c = refl
both-both Deep Deep Yes = refl
both-both Deep Deep No = refl
both-both Deep Deep Deep = refl

pub ruleset both_steps = (both-yes, both-no, both-both)

module _ (T : Table) (env : List Bounds) (t : Ty) (a : Answer) where
  right : a ≡ formed_answer T 64 env t → Answers (IsWellFormed T 64 env t) (IsIllFormed T 64 env t) a
  right e = subst (λ a. Answers (IsWellFormed T 64 env t) (IsIllFormed T 64 env t) a) (let s : formed_answer T 64 env t ≡ a = cc in s) (formed_right T 64 env t)

  pub formed_yes : a ≡ formed_answer T 64 env t → (a ≡ Yes) ↔ IsWellFormed T 64 env t
  formed_yes e = (right e).yes

  pub formed_no : a ≡ formed_answer T 64 env t → (a ≡ No) ↔ IsIllFormed T 64 env t
  formed_no e = (right e).no

pub ruleset formed_clauses = (formed_yes, formed_no)

-- what a class type with as many arguments as its class has parameters asks
pub needs_of_class : (T : Table) (env : List Bounds) (t : Ty) (id : ClassId) (args : List Arg) (vars : List VarId) → t ≡ Class id args → vars ≡ vars_of T id → length args ≡ length vars → needs T env t ≡ counted_needs T env vars args true
unfolding needs
needs_of_class T env t id args vars e ev el =
    let counts : (length args == length vars) ≡ true = grind (arith, nat_tests) in
    ap (needs T env) e ∙ ap (needs_at T env) (outs-Class id args) ∙ ap (λ v. counted_needs T env v args (length args == length v)) (sym ev) ∙ ap (counted_needs T env vars args) counts
