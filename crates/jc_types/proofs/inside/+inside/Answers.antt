use Rattle.std.proofs.Common.{◌++◌, ◌∷◌, [], arith, ap, ◌∙◌}
use Rattle.jc_types.specs.Inside.{inside, inside_arg}
use Rattle.jc_types.proofs.Insides.{inside-Prim, inside-Variable, inside-Captured, inside-NullTy, inside_arg-Any, none_inside, args_step, types_step, class_step, on_ok_along}
use Rattle.jc_types.proofs.inside.+inside.Goals as goal

pub push_inside-returns-in_ok-push-in-Class : goal.push_inside-returns-in_ok-push-in-Class
push_inside-returns-in_ok-push-in-Class t c =
    let copied = c.in_ok-push-in-Class.ensures.ok ∙ ap (λ x. c.args.out.now ++ x ∷ []) c.in_ok-copy-in-Class.ensures in
    on_ok_along _ _ _ (class_step _ _ _ _ _ _ _ c.in-Class.is c.slice.ensures copied) c.push_inside_args.ensures

pub push_inside-returns-in-Prim : goal.push_inside-returns-in-Prim
push_inside-returns-in-Prim t c = none_inside _ _ (ap inside c.in-Prim.is ∙ inside-Prim _)

pub push_inside-returns-in-Variable : goal.push_inside-returns-in-Variable
push_inside-returns-in-Variable t c = none_inside _ _ (ap inside c.in-Variable.is ∙ inside-Variable _)

pub push_inside-returns-in-Captured : goal.push_inside-returns-in-Captured
push_inside-returns-in-Captured t c = none_inside _ _ (ap inside c.in-Captured.is ∙ inside-Captured _)

pub push_inside-returns-in-NullTy : goal.push_inside-returns-in-NullTy
push_inside-returns-in-NullTy t c = none_inside _ _ (ap inside c.in-NullTy.is ∙ inside-NullTy)

pub push_inside_arg-returns-in-Any : goal.push_inside_arg-returns-in-Any
push_inside_arg-returns-in-Any t c = none_inside _ _ (ap inside_arg c.in-Any.is ∙ inside_arg-Any)

pub push_inside_args-loop-i-preserved : goal.push_inside_args-loop-i-preserved
push_inside_args-loop-i-preserved t c =
    args_step c.args.out.now c.loop-i.out _ c.args.args.now c.loop-i.i c.index-args-i.result (omega arith) c.index-args-i.is c.loop-i.invariant c.in_ok-push_inside_arg.ensures

pub push_inside_types-loop-i-preserved : goal.push_inside_types-loop-i-preserved
push_inside_types-loop-i-preserved t c =
    types_step c.args.out.now c.loop-i.out _ c.args.types.now c.loop-i.i c.index-types-i.result (omega arith) c.index-types-i.is c.loop-i.invariant c.in_ok-push_inside.ensures
