use Rattle.std.proofs.Common.{◌≡◌, ◌-◌, min, List, [], ◌∷◌, ◌++◌, map, length, sym, ap, ◌∙◌, subst, arith, rules}
use Rattle.jc_lexer.specs.declared.token.Sign.TheVariants as sign_of
use Rattle.jc_reading.specs.Giving.{Gives, Halts}
use Rattle.jc_reading.specs.declared.reading.Halt.{Halt}
use Rattle.jc_reading.specs.Kinds.{sign_code}
use Rattle.jc_reading.specs.Reading.{Found, Stopped, as_new, in_turn, of_kind, behind_it, commas_run, each_behind, times}
use Rattle.jc_reading.proofs.Turns.{Resumes, loop_first, loop_next, loop_stop, loop_shorter, turn_second}
use Rattle.jc_reading.specs.Reach.{onto}
use Rattle.jc_tree.specs.declared.types.TypeArg.{TypeArg}
use Rattle.jc_tree.specs.declared.types.TypePart.{TypePart}
use Rattle.jc_parse_type.specs.TypeReading.{arg_run, args_run, part_run, type_run, base_run}
use Rattle.jc_parse_type.proofs.CodeSteps.{behind_far, within_arg, within_part, within_base, within_rest, comma_steps, dot_steps, commas_first, each_as}
use Rattle.jc_parse_type.proofs.reading.+types.Goals as goal

pub comma_arg-returns-in-Some : goal.comma_arg-returns-in-Some
comma_arg-returns-in-Some t c = subst (λ v. Gives c.arg.result v) (sym (behind_far (sign_code sign_of.Comma) (arg_run c.args.height (type_run c.args.height)) c.args.tokens.now c.in-Some.after.now c.in-Some.ensures.read (within_arg c.args.height c.in-Some.after.now))) c.arg.ensures

pub dot_part-returns-in-Some : goal.dot_part-returns-in-Some
dot_part-returns-in-Some t c = subst (λ v. Gives c.part.result v) (sym (behind_far (sign_code sign_of.Dot) (part_run (args_run (arg_run c.args.height (type_run c.args.height)))) c.args.tokens.now c.in-Some.after.now c.in-Some.ensures.read (within_part c.args.height c.in-Some.after.now))) c.part.ensures

pub more_args-commas-init : goal.more_args-commas-init
more_args-commas-init t c =
    let run = arg_run c.args.height (type_run c.args.height) in
    let first = c.in_ok-first.first in
    let one : run c.args.tokens.now ≡ Found first.value first.rest.now first.left = Prim.search rules in
    let lt = within_rest (length c.args.tokens.now) (run c.args.tokens.now) first.value first.rest.now first.left (within_arg c.args.height c.args.tokens.now) one in
    let s = turn_second (as_new behind_it (in_turn (of_kind (sign_code sign_of.Comma)) run)) first.value first.left first.rest.now in
    let held : c.push.new.self ≡ first.value ∷ [] = c.in_ok-push.ensures.ok ∙ ap (λ (l : List TypeArg). l ++ first.value ∷ []) c.new-args.ensures in
    let whole : commas_run run c.args.tokens.now ≡ _ = commas_first run c.args.tokens.now first.rest.now first.value first.left one in
    ((s.0, s.1, whole ∙ s.2 ∙ ap (λ (l : List TypeArg). onto l first.left (times s.0 (as_new behind_it (in_turn (of_kind (sign_code sign_of.Comma)) run)) first.rest.now)) (sym held)), omega (arith, lt))

pub more_args-commas-smaller : goal.more_args-commas-smaller
more_args-commas-smaller t c =
    let run = arg_run c.args.height (type_run c.args.height) in
    let next : as_new behind_it (in_turn (of_kind (sign_code sign_of.Comma)) run) c.commas.rest.now ≡ Found c.in-Ok.found.value c.in-Ok.found.rest.now c.in-Ok.found.left = c.in-Ok.ensures in
    loop_shorter TypeArg _ (comma_steps c.args.height) c.commas.rest.now c.in-Ok.found.rest.now c.in-Ok.found.value c.in-Ok.found.left next

pub more_args-commas-preserved : goal.more_args-commas-preserved
more_args-commas-preserved t c =
    let run = arg_run c.args.height (type_run c.args.height) in
    let m = as_new behind_it (in_turn (of_kind (sign_code sign_of.Comma)) run) in
    let whole = commas_run run c.args.tokens.now in
    let found = c.in-Ok.found in
    let next : m c.commas.rest.now ≡ Found found.value found.rest.now found.left = c.in-Ok.ensures in
    let lt = loop_shorter TypeArg m (comma_steps c.args.height) c.commas.rest.now found.rest.now found.value found.left next in
    let s = loop_next TypeArg m (comma_steps c.args.height) whole c.commas.args c.commas.left c.commas.rest.now found.rest.now found.value found.left c.commas.invariant.0 next in
    let held : c.push-in-Ok.new.self ≡ c.commas.args ++ found.value ∷ [] = c.in_ok-push-in-Ok.ensures.ok in
    (subst (λ (l : List TypeArg). Resumes whole l c.min-left.result m found.rest.now) (sym held) (subst (λ j. Resumes whole (c.commas.args ++ found.value ∷ []) j m found.rest.now) (sym c.min-left.ensures) s), omega (arith, lt, c.commas.invariant.1))

pub more_args-returns-in-Err-Stopped : goal.more_args-returns-in-Err-Stopped
more_args-returns-in-Err-Stopped t c =
    let run = arg_run c.args.height (type_run c.args.height) in
    let m = as_new behind_it (in_turn (of_kind (sign_code sign_of.Comma)) run) in
    let stop : m c.commas.rest.now ≡ Stopped c.in-Err-Stopped.reach = subst (λ (h : Halt). Halts h (m c.commas.rest.now)) c.in-Err-Stopped.field-0-is c.in-Err-Stopped.ensures in
    loop_stop TypeArg m (comma_steps c.args.height) (commas_run run c.args.tokens.now) c.commas.args c.commas.left c.commas.rest.now c.in-Err-Stopped.reach c.commas.invariant.0 stop
    ∙ ap (λ j. Found c.commas.args c.commas.rest.now j) (sym (c.min.ensures ∙ ap (λ k. min c.commas.left k) c.in-Err-Stopped.reach-is))

pub more_parts-dots-init : goal.more_parts-dots-init
more_parts-dots-init t c =
    let run = part_run (args_run (arg_run c.args.height (type_run c.args.height))) in
    let m = as_new behind_it (in_turn (of_kind (sign_code sign_of.Dot)) run) in
    let s = loop_first TypePart m (dot_steps c.args.height) c.args.tokens.now in
    ((s.0, s.1, each_as run c.args.tokens.now ∙ s.2 ∙ ap (λ (l : List TypePart). onto l (length c.args.tokens.now) (times s.0 m c.args.tokens.now)) (sym c.new-parts.ensures)), c.requires)

pub more_parts-dots-smaller : goal.more_parts-dots-smaller
more_parts-dots-smaller t c =
    let next : as_new behind_it (in_turn (of_kind (sign_code sign_of.Dot)) (part_run (args_run (arg_run c.args.height (type_run c.args.height))))) c.dots.rest.now ≡ Found c.in-Ok.found.value c.in-Ok.found.rest.now c.in-Ok.found.left = c.in-Ok.ensures in
    loop_shorter TypePart _ (dot_steps c.args.height) c.dots.rest.now c.in-Ok.found.rest.now c.in-Ok.found.value c.in-Ok.found.left next

pub more_parts-dots-preserved : goal.more_parts-dots-preserved
more_parts-dots-preserved t c =
    let run = part_run (args_run (arg_run c.args.height (type_run c.args.height))) in
    let m = as_new behind_it (in_turn (of_kind (sign_code sign_of.Dot)) run) in
    let whole = as_new (map behind_it) (each_behind sign_of.Dot run) c.args.tokens.now in
    let found = c.in-Ok.found in
    let next : m c.dots.rest.now ≡ Found found.value found.rest.now found.left = c.in-Ok.ensures in
    let lt = loop_shorter TypePart m (dot_steps c.args.height) c.dots.rest.now found.rest.now found.value found.left next in
    let s = loop_next TypePart m (dot_steps c.args.height) whole c.dots.parts c.dots.left c.dots.rest.now found.rest.now found.value found.left c.dots.invariant.0 next in
    let held : c.push.new.self ≡ c.dots.parts ++ found.value ∷ [] = c.in_ok-push-in-Ok.ensures.ok in
    (subst (λ (l : List TypePart). Resumes whole l c.min-left.result m found.rest.now) (sym held) (subst (λ j. Resumes whole (c.dots.parts ++ found.value ∷ []) j m found.rest.now) (sym c.min-left.ensures) s), omega (arith, lt, c.dots.invariant.1))

pub more_parts-returns-in-Err-Stopped : goal.more_parts-returns-in-Err-Stopped
more_parts-returns-in-Err-Stopped t c =
    let run = part_run (args_run (arg_run c.args.height (type_run c.args.height))) in
    let m = as_new behind_it (in_turn (of_kind (sign_code sign_of.Dot)) run) in
    let stop : m c.dots.rest.now ≡ Stopped c.in-Err-Stopped.reach = subst (λ (h : Halt). Halts h (m c.dots.rest.now)) c.in-Err-Stopped.field-0-is c.in-Err-Stopped.ensures in
    loop_stop TypePart m (dot_steps c.args.height) (as_new (map behind_it) (each_behind sign_of.Dot run) c.args.tokens.now) c.dots.parts c.dots.left c.dots.rest.now c.in-Err-Stopped.reach c.dots.invariant.0 stop
    ∙ ap (λ j. Found c.dots.parts c.dots.rest.now j) (sym (c.min.ensures ∙ ap (λ k. min c.dots.left k) c.in-Err-Stopped.reach-is))

pub class_within-more_parts-requires : goal.class_within-more_parts-requires
class_within-more_parts-requires t c =
    let first = c.in_ok-first.first in
    let run = part_run (args_run (arg_run c.args.height (type_run c.args.height))) in
    let one : run c.args.tokens.now ≡ Found first.value first.rest.now first.left = Prim.search rules in
    let lt = within_rest (length c.args.tokens.now) (run c.args.tokens.now) first.value first.rest.now first.left (within_part c.args.height c.args.tokens.now) one in
    (omega arith, omega (arith, lt))

pub type_within-dims-dims-requires : goal.type_within-dims-dims-requires
type_within-dims-dims-requires t c =
    let base = c.in_ok-base.base in
    let run = base_run (c.args.height - 1) in
    let one : run c.args.tokens.now ≡ Found base.value base.rest.now base.left = Prim.search rules in
    let lt = within_rest (length c.args.tokens.now) (run c.args.tokens.now) base.value base.rest.now base.left (within_base (c.args.height - 1) c.args.tokens.now) one in
    omega (arith, lt)
