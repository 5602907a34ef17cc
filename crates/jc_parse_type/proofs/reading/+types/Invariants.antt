use Rattle.std.proofs.Common.{◌+◌, ◌*◌, ◌<◌, ◌^◌, length, map}
use Rattle.jc_lexer.specs.declared.token.Sign.TheVariants as sign_of
use Rattle.jc_reading.specs.Kinds.{sign_code}
use Rattle.jc_reading.specs.Reading.{as_new, behind_it, commas_run, each_behind, in_turn, of_kind}
use Rattle.jc_reading.proofs.Turns.{Resumes}
use Rattle.jc_parse_type.specs.TypeReading.{arg_run, args_run, part_run, type_run}
use Rattle.jc_parse_type.proofs.reading.+types.Given as goal

abbrev pub decreases-arg : goal.decreases-arg
decreases-arg l = 12 * l.height + 2

abbrev pub decreases-args_within : goal.decreases-args_within
decreases-args_within l = 12 * l.height + 5

abbrev pub decreases-base_within : goal.decreases-base_within
decreases-base_within l = 12 * l.height + 10

abbrev pub decreases-class_within : goal.decreases-class_within
decreases-class_within l = 12 * l.height + 9

abbrev pub decreases-comma_arg : goal.decreases-comma_arg
decreases-comma_arg l = 12 * l.height + 3

abbrev pub decreases-dot_part : goal.decreases-dot_part
decreases-dot_part l = 12 * l.height + 7

abbrev pub decreases-exact_arg : goal.decreases-exact_arg
decreases-exact_arg l = 12 * l.height + 1

abbrev pub decreases-more_args : goal.decreases-more_args
decreases-more_args l = 12 * l.height + 4

abbrev pub decreases-more_parts : goal.decreases-more_parts
decreases-more_parts l = 12 * l.height + 8

abbrev pub decreases-part : goal.decreases-part
decreases-part l = 12 * l.height + 6

abbrev pub decreases-type_within : goal.decreases-type_within
decreases-type_within l = 12 * l.height

abbrev pub decreases-wildcard : goal.decreases-wildcard
decreases-wildcard l = 12 * l.height + 1

abbrev pub invariant-more_args-commas : goal.invariant-more_args-commas
invariant-more_args-commas l =
    Resumes (commas_run (arg_run l.height (type_run l.height)) l.fn.tokens) l.args l.left (as_new behind_it (in_turn (of_kind (sign_code sign_of.Comma)) (arg_run l.height (type_run l.height)))) l.rest
    × (length l.rest < 2 ^ 32)

abbrev pub decreases-more_args-commas : goal.decreases-more_args-commas
decreases-more_args-commas l = length l.rest

abbrev pub invariant-more_parts-dots : goal.invariant-more_parts-dots
invariant-more_parts-dots l =
    Resumes (as_new (map behind_it) (each_behind sign_of.Dot (part_run (args_run (arg_run l.height (type_run l.height))))) l.fn.tokens) l.parts l.left (as_new behind_it (in_turn (of_kind (sign_code sign_of.Dot)) (part_run (args_run (arg_run l.height (type_run l.height)))))) l.rest
    × (length l.rest < 2 ^ 32)

abbrev pub decreases-more_parts-dots : goal.decreases-more_parts-dots
decreases-more_parts-dots l = length l.rest
