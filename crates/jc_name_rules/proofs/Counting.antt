-- The least of breaks that follow one another.
use Rattle.std.proofs.Common.{◌≡◌, ℕ, Option, List, ◌++◌, sym, ap, ◌∙◌}
use Rattle.jc_rules.specs.declared.rule.Refusal.{Refusal}
use Rattle.jc_types.specs.Breaks.{least}
use Rattle.jc_types.proofs.Least.{least_append}
use Rattle.jc_declares.specs.Writing.{Broken}
use Rattle.jc_declares.specs.Breaks.{in_file}
use Rattle.jc_written.proofs.Counting.{in_file-append}

pub two : (x y : List Refusal) (a b c : Option Refusal) → b ≡ least a x → c ≡ least b y → c ≡ least a (x ++ y)
two x y a b c e f = f ∙ ap (λ k. least k y) e ∙ sym (least_append a x y)

pub three : (x y z : List Refusal) (a b c d : Option Refusal) → b ≡ least a x → c ≡ least b y → d ≡ least c z → d ≡ least a (x ++ y ++ z)
three x y z a b c d e f g = two (x ++ y) z a c d (two x y a b c e f) g

pub two_in : (file : ℕ) (x y : List Broken) (a b c : Option Refusal) → b ≡ least a (in_file file x) → c ≡ least b (in_file file y) → c ≡ least a (in_file file (x ++ y))
two_in file x y a b c e f = two (in_file file x) (in_file file y) a b c e f ∙ ap (least a) (sym (in_file-append file x y))

pub three_in : (file : ℕ) (x y z : List Broken) (a b c d : Option Refusal) → b ≡ least a (in_file file x) → c ≡ least b (in_file file y) → d ≡ least c (in_file file z) → d ≡ least a (in_file file (x ++ y ++ z))
three_in file x y z a b c d e f g = two_in file (x ++ y) z a c d (two_in file x y a b c e f) g

pub four_in : (file : ℕ) (x y z v : List Broken) (a b c d w : Option Refusal) → b ≡ least a (in_file file x) → c ≡ least b (in_file file y) → d ≡ least c (in_file file z) → w ≡ least d (in_file file v)
    → w ≡ least a (in_file file (x ++ y ++ z ++ v))
four_in file x y z v a b c d w e f g h = two_in file (x ++ y ++ z) v a d w (three_in file x y z a b c d e f g) h

pub ruleset counting = (in_file-append, least_append)
