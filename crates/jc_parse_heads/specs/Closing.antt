-- A sign behind a first value that was read.
use Rattle.jc_lexer.specs.declared.token.Sign.{Sign}
use Rattle.jc_reading.specs.declared.reading.Found as answer
use Rattle.jc_reading.specs.Kinds.{sign_code}
use Rattle.jc_reading.specs.Reading.{Read, noting, becoming, of_kind}

-- what is read of a sign behind a first value
abbrev pub closing : {A : Type 0} → Sign → answer.Found A → Read A
closing sign first = noting first.left (becoming (λ (u : Unit {0}). first.value) (of_kind (sign_code sign) first.rest.now))
