-- The answers of a walk join in any grouping.
use Rattle.std.proofs.Common.{◌≡◌, refl}
use Rattle.jc_judge.specs.declared.question.Answer.{Answer}
use Rattle.jc_judge.specs.declared.question.Answer.TheVariants.{Yes, No, Deep}
use Rattle.jc_resolve.specs.Specific.{either}

pub either_joined : (a b c : Answer) → either (either a b) c ≡ either a (either b c)
either_joined Deep b c = refl
either_joined No b c = refl
either_joined Yes Deep c = refl
either_joined Yes Yes Deep = refl
either_joined Yes Yes Yes = refl
either_joined Yes Yes No = refl
either_joined Yes No Deep = refl
either_joined Yes No Yes = refl
either_joined Yes No No = refl

pub either_no : (a : Answer) → either a No ≡ a
either_no Deep = refl
either_no Yes = refl
either_no No = refl
