-- Locals and labels that are taken, and how many statements there are.
use Rattle.std.proofs.Common.{◌≡◌, ℕ, ◌+◌, List, [], ◌∷◌, length, refl, arith}
use Rattle.jc_tree.specs.declared.statement.ClauseHead.TheVariants as head
use Rattle.jc_tree.specs.declared.statement.Stmt.{Stmt as Source}
use Rattle.jc_tree.specs.declared.expression.Expr.{Expr}
use Rattle.jc_typed.specs.declared.nodes.Node.{Node}
use Rattle.jc_typed.specs.Trees.{Stmts, MoreStmts}
use Rattle.jc_stmts_spec.specs.Courses.{Answer, AnOperand, ALocal, AKey, AnEach, SomeTypes}
use Rattle.jc_stmts_spec.specs.Plans.{Jumps}
use Rattle.jc_stmts_spec.specs.Assembling.{a_case, a_local, count_of, made}
use Rattle.jc_stmts_answers.specs.declared.answers.AnswerAt.{AnswerAt}
use Rattle.jc_stmts_answers.specs.declared.answers.AnswerAt.TheVariants as a
use Rattle.jc_stmts_answers.specs.Answers.{AnswersBelow, answers_of}
use Rattle.jc_stmts_assembling.specs.Flat.{made_of, stmts_made}
use Rattle.jc_stmts_assembling.specs.Heads.{behind_local, keyed, local_at}

pub local_is : (ns : List Node) (xs : List AnswerAt) → a_local (answers_of ns xs) ≡ made (local_at xs) (answers_of ns (behind_local xs))
local_is ns [] = refl
local_is ns (a.AnOperand at ∷ xs) = refl
local_is ns (a.ALocal place number ∷ xs) = refl
local_is ns (a.AKey value names ∷ xs) = refl
local_is ns (a.AnEach e ∷ xs) = refl
local_is ns (a.SomeTypes types ∷ xs) = refl

pub local_below : (k : ℕ) (xs : List AnswerAt) → AnswersBelow k xs → AnswersBelow k (behind_local xs)
local_below k [] b = b
local_below k (a.AnOperand at ∷ xs) b = b
local_below k (a.ALocal place number ∷ xs) b = b.1
local_below k (a.AKey value names ∷ xs) b = b
local_below k (a.AnEach e ∷ xs) b = b
local_below k (a.SomeTypes types ∷ xs) b = b

pub ruleset locals = (local_is, local_below)

-- a label by its constant
pub key_is : (e : Expr) (n : ℕ) (left : List Answer) → a_case (head.Case e) n left ≡ keyed n left
key_is e n [] = refl
key_is e n (AnOperand o ∷ left) = refl
key_is e n (ALocal place number ∷ left) = refl
key_is e n (AKey value named ∷ left) = refl
key_is e n (AnEach x ∷ left) = refl
key_is e n (SomeTypes ts ∷ left) = refl

pub ruleset keys = (key_is)

-- statements behind some are as many more
pub count_behind : (file : ℕ) (before : Stmts) (ss : List Source) (j : Jumps) (left : List Answer) → count_of (stmts_made file before ss j left).it ≡ count_of before + length ss
unfolding stmts_made
count_behind file before [] j left = omega arith
count_behind file before (s ∷ ss) j left =
    let m = made_of file s j left in
    let e : count_of (stmts_made file (MoreStmts before m.it) ss j m.left).it ≡ count_of before + 1 + length ss = count_behind file (MoreStmts before m.it) ss j m.left in
    omega (arith, e)

pub ruleset counts = (count_behind)
