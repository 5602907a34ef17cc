-- The class of a program shows what the program shows.
use Rattle.std.proofs.Common.{◌≡◌, ◌≤◌, ℕ, List, [], ◌∷◌, length, refl, ap, arith, Some, codes}
use Rattle.std.specs.List.{AllByRecursion}
use Rattle.jc_lexer.specs.declared.token.Token.{Token}
use Rattle.jc_machine.specs.Start.{start_of, first_frame, begins}
use Rattle.std.specs.Option.{option_map}
use Rattle.jc_small.specs.Small.{Program, IsSum, IsProgram}
use Rattle.jc_small.specs.ClassOf.{main_class, main_code, init_method, main_method}
use Rattle.jc_small.specs.Same.{ShowsSame, HasMembers, Compiled}
use Rattle.jc_small.proofs.Short.{code_short}
use Rattle.jc_small.proofs.Standing.{Stands, rest_here}
use Rattle.jc_class_out.proofs.Exact.{spelled}
use Rattle.jc_small.proofs.Fits.{class_fits}
use Rattle.jc_small.proofs.MainRuns.{frame, forwards, backwards}
use Rattle.jc_machine.proofs.Spelling.{main_spelled}

main_starts : (program : Program) (arguments : List (List ℕ)) → start_of (main_class program ∷ []) (codes "Main") arguments ≡ Some (frame program 0 [])
main_starts program arguments = ap (λ (units : List ℕ). option_map (begins arguments) (first_frame (main_class program ∷ []) units)) main_spelled

all_stands : (program : Program) → length (main_code program) ≤ 16384 → Stands program 0 (main_code program)
all_stands program short = record { from = rest_here 0 (main_code program); room = omega (arith, short) }

has_members : (program : Program) → HasMembers (main_class program)
has_members program = record {
  constructor = init_method;
  main = main_method program;
  is_constructor = record { name_is = refl; descriptor_is = refl; flags_are = refl };
  is_main = record { name_is = refl; descriptor_is = refl; flags_are = refl };
  methods = refl;
  name = refl;
  flags = refl;
  superclass = refl;
  interfaces = refl;
  fields = refl;
  inner = refl;
}

shows_same : (program : Program) → AllByRecursion IsSum program → length (main_code program) ≤ 16384 → ShowsSame program (main_class program) (frame program 0 [])
shows_same program sums short = record {
  forwards = λ units. let f = forwards program program 0 units sums (all_stands program short) in (f.0, omega (arith, f.1, short), f.2);
  backwards = λ steps. backwards program program 0 steps sums (all_stands program short);
}

pub compiled : (tokens : List Token) (program : Program) → IsProgram tokens program → Compiled tokens (main_class program)
compiled tokens program is = record {
  program = program;
  is_program = is;
  same = record {
    members = has_members program;
    start = frame program 0 [];
    starts = main_starts program;
    shows = shows_same program is.sums (code_short tokens program is);
  };
  has_file = spelled (main_class program) (class_fits program is.sums (code_short tokens program is));
}
