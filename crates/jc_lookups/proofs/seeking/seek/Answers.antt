use Rattle.std.proofs.Common.{◌++◌, ◌∷◌, ◌∙◌, [], ℕ, List, length, reverse, sym, ap, subst}
use Rattle.jc_jvm.specs.Classes.{field_on}
use Rattle.jc_lookups.specs.Searched.{Stands}
use Rattle.jc_lookups.specs.declared.seeking.Task.{Task}
use Rattle.jc_lookups.specs.declared.seeking.Task.TheVariants.{Visit}
use Rattle.jc_lookups.proofs.Searching.{search_begins, search_turns}
use Rattle.jc_lookups.proofs.seeking.seek.Goals as goal

pub loop-turns-init : goal.loop-turns-init
loop-turns-init c =
    subst (λ (n : ℕ). Stands c.args.classes.now c.args.name.now c.args.descriptor.now c.in_ok-known.known.items (reverse c.push.new.self) (field_on c.args.classes.now c.args.name.now c.args.descriptor.now n c.args.class)) c.len-steps.ensures
    (search_begins c.args.classes.now c.args.name.now c.args.descriptor.now c.in_ok-known.known.items c.len-steps.result c.len-steps.result c.args.class c.push.new.self c.in_ok-known.ensures
    (c.in_ok-push.ensures.ok ∙ ap (λ (l : List Task). l ++ Visit c.len-steps.result c.args.class ∷ []) c.new-tasks.ensures))

pub returns-in-Some-2 : goal.returns-in-Some-2
returns-in-Some-2 c =
    sym ((search_turns c.args.classes.now c.args.name.now c.args.descriptor.now c.loop-turns.known.items c.loop-turns.tasks c.pop.new.self c.in-Some.task c.turn.new.known.items c.turn.new.tasks
    (field_on c.args.classes.now c.args.name.now c.args.descriptor.now (length c.args.classes.now) c.args.class) c.in_ok-found-in-Some.field-0 c.in-Some.ensures c.in_ok-found-in-Some.ensures c.loop-turns.invariant).1 c.in-Some-2.found c.in-Some-2.is)

pub loop-turns-preserved : goal.loop-turns-preserved
loop-turns-preserved c =
    (search_turns c.args.classes.now c.args.name.now c.args.descriptor.now c.loop-turns.known.items c.loop-turns.tasks c.pop.new.self c.in-Some.task c.turn.new.known.items c.turn.new.tasks
    (field_on c.args.classes.now c.args.name.now c.args.descriptor.now (length c.args.classes.now) c.args.class) c.in_ok-found-in-Some.field-0 c.in-Some.ensures c.in_ok-found-in-Some.ensures c.loop-turns.invariant).0 c.in-None-2.is
