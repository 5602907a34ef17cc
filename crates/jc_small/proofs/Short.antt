-- A program's code has no more instructions than the program has tokens.
use Rattle.std.proofs.Common.{◌≤◌, ℕ, ◌+◌, List, [], ◌∷◌, length, arith, length-append, ap}
use Rattle.std.proofs.lemmas.List.{length-map}
use Rattle.std.specs.Prelude.{flat_map}
use Rattle.std.specs.List.{AllByRecursion}
use Rattle.jc_lexer.specs.declared.token.Token.{Token}
use Rattle.jc_class_out.specs.declared.model.Operand.TheVariants.{Nothing}
use Rattle.jc_small.specs.Small.{Program, IsSum, IsProgram, sum_kinds, write_kinds}
use Rattle.jc_small.specs.ClassOf.{ins, more_code, write_code, main_code, write_ins}
use Rattle.jc_small.specs.declared.fixed.Fixed.TheVariants.{RightParen, Semicolon, RightBrace}
use Rattle.jc_small.specs.Lexemes.{kind_of_fixed}

more_short : (n : ℕ) (ns : List ℕ) → length (more_code ns) + 1 ≤ length (sum_kinds (n ∷ ns))
more_short n [] = omega arith
more_short n (m ∷ ns) = omega (arith, more_short m ns)

write_short : (ns : List ℕ) → IsSum ns → length (write_code ns) ≤ length (write_kinds ns)
write_short [] sum = absurd sum
write_short (n ∷ ns) sum = omega (arith, more_short n ns, length-append (more_code ns) (write_ins ∷ []), length-append (sum_kinds (n ∷ ns)) (kind_of_fixed RightParen ∷ kind_of_fixed Semicolon ∷ []))

writes_short : (program : Program) → AllByRecursion IsSum program → length (flat_map write_code program) ≤ length (flat_map write_kinds program)
writes_short [] sums = omega arith
writes_short (ns ∷ program) sums = omega (arith, write_short ns sums.0, writes_short program sums.1, length-append (write_code ns) (flat_map write_code program), length-append (write_kinds ns) (flat_map write_kinds program))

pub code_short : (tokens : List Token) (program : Program) → IsProgram tokens program → length (main_code program) ≤ 16384
code_short tokens program is =
    omega (
      arith,
      is.short,
      length-map tokens (λ (t : Token). t.kind),
      ap length is.spelled,
      writes_short program is.sums,
      length-append (flat_map write_code program) (ins 0xb1 Nothing ∷ []),
      length-append (flat_map write_kinds program) (kind_of_fixed RightBrace ∷ kind_of_fixed RightBrace ∷ []),
    )
