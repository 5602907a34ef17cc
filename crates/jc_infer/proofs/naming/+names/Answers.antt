use Rattle.std.proofs.Common.{◌≡◌, true, false, arith, rules}
use Rattle.jc_infer.specs.Naming.{names, names_in_arg}
use Rattle.jc_infer.proofs.Named.{none_more, some_one}
use Rattle.jc_infer.proofs.naming.+names.Goals as goal

pub some_arg_names-loop-i-preserved : goal.some_arg_names-loop-i-preserved
some_arg_names-loop-i-preserved t c =
    let none : names_in_arg c.args.vars.now c.index-args-i.result ≡ false = search rules in
    none_more (names_in_arg c.args.vars.now) _ _ _ (omega arith) c.index-args-i.is c.loop-i.invariant none

pub some_arg_names-returns-then-names_in_arg : goal.some_arg_names-returns-then-names_in_arg
some_arg_names-returns-then-names_in_arg t c =
    let one : names_in_arg c.args.vars.now c.index-args-i.result ≡ true = search rules in
    some_one (names_in_arg c.args.vars.now) _ _ _ (omega arith) c.index-args-i.is one

pub some_names-loop-i-preserved : goal.some_names-loop-i-preserved
some_names-loop-i-preserved t c =
    let none : names c.args.vars.now c.index-types-i.result ≡ false = search rules in
    none_more (names c.args.vars.now) _ _ _ (omega arith) c.index-types-i.is c.loop-i.invariant none

pub some_names-returns-then-names : goal.some_names-returns-then-names
some_names-returns-then-names t c =
    let one : names c.args.vars.now c.index-types-i.result ≡ true = search rules in
    some_one (names c.args.vars.now) _ _ _ (omega arith) c.index-types-i.is one
