-- Where expressions may stand.
use Rattle.std.proofs.Common.{◌≡◌, ℕ, ◌≤◌, true, nat_le, arith}
use Rattle.std.proofs.lemmas.Bool.Decides.{nat_tests}
use Rattle.std.proofs.lemmas.Bool.{and_from}
use Rattle.jc_rules.proofs.Truths.{and_first, and_second}
use Rattle.jc_grammar.specs.Shapes.{Shape, stands}

le_true : (m n : ℕ) → m ≤ n → nat_le m n ≡ true
le_true m n h = grind (arith, nat_tests)

true_le : (m n : ℕ) → nat_le m n ≡ true → m ≤ n
true_le m n e = grind (arith, nat_tests)

pub stands_made : (level : ℕ) (s : Shape) → s.good ≡ true → level ≤ s.level → stands level s ≡ true
stands_made level s e h = and_from _ _ e (le_true _ _ h)

pub stands_good : (level : ℕ) (s : Shape) → stands level s ≡ true → s.good ≡ true
stands_good level s e = and_first _ _ e

pub stands_level : (level : ℕ) (s : Shape) → stands level s ≡ true → level ≤ s.level
stands_level level s e = true_le _ _ (and_second s.good _ e)

pub stands_looser : (loose level : ℕ) (s : Shape) → loose ≤ level → stands level s ≡ true → stands loose s ≡ true
stands_looser loose level s h e = stands_made loose s (stands_good level s e) (let k : level ≤ s.level = stands_level level s e in omega arith)
