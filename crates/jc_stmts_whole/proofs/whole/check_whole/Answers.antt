use Rattle.std.proofs.Common.{◌≡◌, ap, sym, ◌∙◌, subst, Bool, List}
use Rattle.jc_types.specs.declared.ids.ClassId.{ClassId}
use Rattle.jc_overriding.specs.Overriding.{owner}
use Rattle.jc_overriding.specs.Viewing.{is_static}
use Rattle.jc_typed.specs.Trees.{NoStmts}
use Rattle.jc_typed.proofs.Growing.{grows_both, within}
use Rattle.jc_stmts_spec.specs.Bodies.{Initialiser, MethodBody}
use Rattle.jc_stmts_spec.specs.Courses.{Course as Counted}
use Rattle.jc_stmts_spec.specs.Typed.{begun, first_course, initialised_all, rest_course, whole}
use Rattle.jc_stmts_course.specs.Nows.{stage}
use Rattle.jc_stmts_course.specs.Steps.{seen}
use Rattle.jc_stmts_whole.specs.Parts.{IsParts}
use Rattle.jc_stmts_whole.specs.Programs.{heads_in, knowledge_in}
use Rattle.jc_stmts_whole.proofs.Behind.{stmts_kept}
use Rattle.jc_stmts_whole.proofs.Going.{found_seen}
use Rattle.jc_stmts_whole.proofs.Rests.{rest_unbroken}
use Rattle.jc_stmts_whole.proofs.whole.check_whole.Goals as goal

pub returns-clause-whole : goal.returns-clause-whole
unfolding whole
returns-clause-whole c =
    let p = c.args.program.now in
    let T = p.table.now in
    let H = heads_in p in
    let K = knowledge_in p in
    let b = c.args.body.now in
    let d = c.in_ok-course.course in
    let e = c.go_through_call.new.course in
    let f = c.initialise.new.course in
    let g = c.go_through_rest.new.course in
    let method : c.body.inside.method ≡ b.method = ap (λ (x : MethodBody). x.method) c.body.view_is in
    let first = first_course T b.method in
    let begins : seen first ≡ stage d = subst (λ m. seen (first_course T m) ≡ stage d) method c.in_ok-course.ensures.stage in
    let call = begun T H K b first in
    let called = c.in_ok-call.ensures.stage first begins in
    let at = c.in_ok-initialisers.initialisers in
    let Behind : ClassId → Bool → List Initialiser → Type 0 = λ x s is. (k : Counted) → seen k ≡ stage e → IsParts (initialised_all T H K x s is (record { course = k; stmts = NoStmts })) f at in
    let behind : Behind (owner T b.method) (is_static T b.method) b.initialisers =
    subst (λ is. Behind (owner T b.method) (is_static T b.method) is) (c.slice.ensures ∙ ap (λ (x : MethodBody). x.initialisers) c.body.view_is)
    (subst (λ s. Behind (owner T b.method) s c.slice.result.now) (c.is_static.ensures ∙ ap (λ m. is_static T m) method) (subst (λ x. Behind x c.is_static.result c.slice.result.now) (c.owner.ensures ∙ ap (λ m. owner T m) method) c.in_ok-initialisers.ensures.parts)) in
    let parts = behind call.course called in
    let inner = initialised_all T H K (owner T b.method) (is_static T b.method) b.initialisers (record { course = call.course; stmts = NoStmts }) in
    let rest = c.in_ok-rest.ensures.stage inner.course parts.course in
    record {
      course = rest;
      call = λ n.
          stmts_kept e.walk.nodes g.walk.nodes c.in_ok-call.call (grows_both e.walk.nodes f.walk.nodes g.walk.nodes c.in_ok-initialisers.ensures.grows c.in_ok-rest.ensures.grows) c.in_ok-call.ensures.within
          ∙ sym (c.in_ok-call.ensures.stmts first begins);
      initialisers = λ n.
          stmts_kept f.walk.nodes g.walk.nodes c.in_ok-initialisers.initialisers c.in_ok-rest.ensures.grows c.in_ok-initialisers.ensures.within
          ∙ sym (parts.stmts (sym (found_seen inner.course f parts.course) ∙ rest_unbroken T H K b inner.course (found_seen (rest_course T H K b inner.course) g rest ∙ n)));
      rest = λ n. c.in_ok-rest.ensures.block inner.course parts.course n;
    }

pub returns-clause-within : goal.returns-clause-within
returns-clause-within c =
    let e = c.go_through_call.new.course in
    let f = c.initialise.new.course in
    let g = c.go_through_rest.new.course in
    let later = c.in_ok-rest.ensures.grows in
    record {
      call = within e.walk.nodes g.walk.nodes c.in_ok-call.call (grows_both e.walk.nodes f.walk.nodes g.walk.nodes c.in_ok-initialisers.ensures.grows later) c.in_ok-call.ensures.within;
      initialisers = within f.walk.nodes g.walk.nodes c.in_ok-initialisers.initialisers later c.in_ok-initialisers.ensures.within;
      rest = c.in_ok-rest.ensures.within;
    }
