use Rattle.std.proofs.Common.{◌∙◌, sym, ap, inr, Ok}
use Rattle.javag.proofs.Works.{start, started, has_main, has_outcome, did_nothing, did_run, cut_short, stays}
use Rattle.javag.proofs.work.produce.Goals as goal

pub run_main-requires : goal.run_main-requires
run_main-requires g c = has_main c.args.job.now c.args.texts.now c.args.class c.requires.class

pub returns-in-None-clause-worked : goal.returns-in-None-clause-worked
returns-in-None-clause-worked g c =
    inr (did_nothing c.args.job.now c.args.texts.now c.args.class c.requires.class c.requires.main c.in-Ok.bytes c.in-Ok.ensures _ (rw (sym c.slice.ensures) c.in-Ok-put_class.ensures.ok) c.in-None.is (stays _))

pub ran_outcome-requires : goal.ran_outcome-requires
ran_outcome-requires g c =
    let s = start c.args.job.now c.args.texts.now c.args.class c.requires.class in
    has_outcome c.args.job.now c.args.texts.now c.args.class c.requires.class c.in-Ok-run_main.ran c.args.job.now.steps _
    (c.in-Ok-run_main.ensures.ends s (started c.args.job.now c.args.texts.now c.args.class c.requires.class))

pub returns-in-Ok-run_main-clause-worked : goal.returns-in-Ok-run_main-clause-worked
returns-in-Ok-run_main-clause-worked g c =
    let s = start c.args.job.now c.args.texts.now c.args.class c.requires.class in
    let started-so = started c.args.job.now c.args.texts.now c.args.class c.requires.class in
    rw c.ran_outcome.ensures
    (did_run c.args.job.now c.args.texts.now c.args.class c.requires.class c.requires.main c.in-Ok.bytes c.in-Ok.ensures _ (rw (sym c.slice.ensures) c.in-Ok-put_class.ensures.ok)
    c.in-Ok-run_main.ran _ c.in-Some.is (has_outcome c.args.job.now c.args.texts.now c.args.class c.requires.class c.in-Ok-run_main.ran c.args.job.now.steps _ (c.in-Ok-run_main.ensures.ends s started-so))
    (c.in-Ok-run_main.ensures.ends s started-so) (λ e. c.run_main.ensures.fault (c.in-Ok-run_main.is ∙ ap Ok e)) (c.run_main.ensures.part s started-so))

pub returns-clause-worked : goal.returns-clause-worked
returns-clause-worked g c =
    let s = start c.args.job.now c.args.texts.now c.args.class c.requires.class in
    let started-so = started c.args.job.now c.args.texts.now c.args.class c.requires.class in
    cut_short c.args.job.now c.args.texts.now c.args.class c.requires.class c.requires.main c.in-Ok.bytes c.in-Ok.ensures _ (rw (sym c.slice.ensures) c.in-Ok-put_class.ensures.ok)
    (c.run_main.ensures.part s started-so)
