use Rattle.std.proofs.Common.{◌≡◌, List, [], Some, ap, subst, sym, ◌∙◌}
use Rattle.jc_overriding.specs.declared.view.MethodView.{MethodView}
use Rattle.jc_resolve.specs.declared.choice.Choice.{Choice}
use Rattle.jc_resolve.specs.declared.choice.Chosen.{Chosen}
use Rattle.jc_exprs_nodes_spec.specs.Told.{Ran, Standing, fine, ran}
use Rattle.jc_exprs_nodes.specs.Walks.{now}
use Rattle.jc_exprs_spec.specs.Calls.{by_choice, members_breaks}
use Rattle.jc_exprs_worlds.specs.Scenes.{world_of}
use Rattle.jc_exprs_choosing.specs.Breaking.{breaks_of}
use Rattle.jc_exprs_choosing.proofs.Chooses.{creating_broken, creating_whole}
use Rattle.jc_exprs_choosing.proofs.choosing.chosen_by_diamond.Goals as goal

pub returns-in-Some-clause-state : goal.returns-in-Some-clause-state
returns-in-Some-clause-state c =
    let W = world_of c.args.scene.now in
    let among = c.args.among.now in
    let s = now c.args.walk.now in
    let m = c.members_break-missing.ensures ∙ ap (λ (xs : List MethodView). members_breaks among.place among.members.now xs) c.slice.ensures in
    let b = c.broken_of.ensures in
    let i = c.in-Some.is in
    let e : members_breaks among.place among.members.now c.args.site.members ≡ breaks_of (Some c.in-Some.broken) = sym m ∙ b ∙ ap breaks_of i in
    let z = creating_broken W among.place among.members.now c.args.site s c.in-Some.broken e in
    ap (λ (x : Ran Chosen). x.state) z ∙ c.note_broken.ensures.state

pub returns-in-Some-clause-value : goal.returns-in-Some-clause-value
returns-in-Some-clause-value c =
    let W = world_of c.args.scene.now in
    let among = c.args.among.now in
    let s = now c.args.walk.now in
    let m = c.members_break-missing.ensures ∙ ap (λ (xs : List MethodView). members_breaks among.place among.members.now xs) c.slice.ensures in
    let b = c.broken_of.ensures in
    let i = c.in-Some.is in
    let e : members_breaks among.place among.members.now c.args.site.members ≡ breaks_of (Some c.in-Some.broken) = sym m ∙ b ∙ ap breaks_of i in
    let z = creating_broken W among.place among.members.now c.args.site s c.in-Some.broken e in
    ap (λ (x : Ran Chosen). x.has) z

pub returns-in_ok-choice-in-None-clause-state : goal.returns-in_ok-choice-in-None-clause-state
returns-in_ok-choice-in-None-clause-state c =
    let W = world_of c.args.scene.now in
    let among = c.args.among.now in
    let s = now c.args.walk.now in
    let m = c.members_break-missing.ensures ∙ ap (λ (xs : List MethodView). members_breaks among.place among.members.now xs) c.slice.ensures in
    let b = c.broken_of.ensures in
    let i = c.in-None.is in
    let e : members_breaks among.place among.members.now c.args.site.members ≡ [] = sym m ∙ b ∙ ap breaks_of i in
    let z = creating_whole W among.place among.members.now c.args.site s e in
    ap (λ (x : Ran Chosen). x.state) z
    ∙ subst (λ (d : Choice). (ran (by_choice {A = Chosen} among.place d (λ x. fine x)) s).state ≡ now c.by_choice.new.walk) c.in_ok-choice-in-None.ensures.choice
    (subst (λ (v : Standing). (ran (by_choice {A = Chosen} among.place c.in_ok-choice-in-None.choice (λ x. fine x)) v).state ≡ now c.by_choice.new.walk) c.in_ok-choice-in-None.ensures.state
    c.by_choice.ensures.state)

pub returns-in_ok-choice-in-None-clause-value : goal.returns-in_ok-choice-in-None-clause-value
returns-in_ok-choice-in-None-clause-value c =
    let W = world_of c.args.scene.now in
    let among = c.args.among.now in
    let s = now c.args.walk.now in
    let m = c.members_break-missing.ensures ∙ ap (λ (xs : List MethodView). members_breaks among.place among.members.now xs) c.slice.ensures in
    let b = c.broken_of.ensures in
    let i = c.in-None.is in
    let e : members_breaks among.place among.members.now c.args.site.members ≡ [] = sym m ∙ b ∙ ap breaks_of i in
    let z = creating_whole W among.place among.members.now c.args.site s e in
    ap (λ (x : Ran Chosen). x.has) z
    ∙ subst (λ (d : Choice). (ran (by_choice {A = Chosen} among.place d (λ x. fine x)) s).has ≡ c.by_choice.result) c.in_ok-choice-in-None.ensures.choice
    (subst (λ (v : Standing). (ran (by_choice {A = Chosen} among.place c.in_ok-choice-in-None.choice (λ x. fine x)) v).has ≡ c.by_choice.result) c.in_ok-choice-in-None.ensures.state
    c.by_choice.ensures.value)
