-- Tables of conversions: the first row whose premise isn't refuted decides.
use Rattle.std.specs.Prelude.{Bool, true, false, List, [], ◌∷◌}
use Rattle.jc_types.specs.declared.conversion.Conversion.{Conversion}
use Rattle.jc_types.specs.declared.conversion.Step.{Step}
use Rattle.jc_judge.specs.declared.question.Answer.{Answer}
use Rattle.jc_judge.specs.declared.question.Answer.TheVariants.{Yes, No, Deep}
use Rattle.jc_convert.specs.declared.answer.Converts.{Converts}
use Rattle.jc_convert.specs.declared.answer.Converts.TheVariants as converts

-- a row: its premise, and the conversion that it gives
pub record Row : Type 0 where
  pub premise : Answer
  pub gives : Conversion

-- a conversion by these steps, with no unchecked conversion among them, or with one
abbrev pub checked : List Step → Conversion
checked steps = record { steps = steps; unchecked = false }

abbrev pub unchecked : List Step → Conversion
unchecked steps = record { steps = steps; unchecked = true }

-- a row of an answer and a conversion
abbrev pub row : Answer → Conversion → Row
row a c = record { premise = a; gives = c }

-- the answer of what is known at once
abbrev pub truth : Bool → Answer
truth true = Yes
truth false = No

-- a row whose premise is known at once
abbrev pub plain_row : Bool → Conversion → Row
plain_row b c = row (truth b) c

-- the row's conversion, or what the rows behind it give; Deep where it can't be told which
abbrev pub decided : Answer → Conversion → Converts → Converts
decided Yes c rest = converts.Yes c
decided No c rest = rest
decided Deep c rest = converts.Deep

-- what a table of conversions gives: no conversion where each premise is refuted
abbrev pub first_row : List Row → Converts
first_row [] = converts.NoConversion
first_row (r ∷ rs) = decided r.premise r.gives (first_row rs)
