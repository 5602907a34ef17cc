use Rattle.std.proofs.Common.{◌≡◌, refl, ap, sym, ◌∙◌, subst, List}
use Rattle.jc_typed.proofs.Growing.{grows_both, grows_none}
use Rattle.jc_stmts_spec.specs.Bodies.{Initialiser}
use Rattle.jc_stmts_spec.specs.Typed.{Parts, initialised_all, initialised_more}
use Rattle.jc_stmts_whole.specs.Parts.{IsParts}
use Rattle.jc_stmts_whole.specs.Programs.{heads_in, knowledge_in}
use Rattle.jc_stmts_whole.proofs.Reaching.{all_done, first_split}
use Rattle.jc_stmts_whole.proofs.initialisers.push_initialisers.Goals as goal

pub loop-rest-init : goal.loop-rest-init
loop-rest-init c = record {
  parts = λ p h. record { at = p; is = h; same = refl };
  within = c.requires.list;
  course = c.requires.course;
  grows = grows_none c.args.course.now.walk.nodes;
}

pub loop-rest-preserved : goal.loop-rest-preserved
loop-rest-preserved c = record {
  parts = λ p h.
      let side = c.args.side.now in
      let r = c.loop-rest.invariant.parts p h in
      let split = first_split c.loop-rest.rest.now c.next-item.result c.in-len1-up.len_at_least c.next-item.is in
      record { at = initialised_more side.program.table.now (heads_in side.program) (knowledge_in side.program) side.class side.is_static c.next-item.result r.at; is = c.in_ok-behind.ensures.parts r.at r.is; same = sym (ap (λ (xs : List Initialiser). initialised_all side.program.table.now (heads_in side.program) (knowledge_in side.program) side.class side.is_static xs r.at) split) ∙ r.same };
  within = c.in_ok-behind.ensures.within;
  course = c.in_ok-behind.ensures.course;
  grows = grows_both _ _ _ c.loop-rest.invariant.grows c.in_ok-behind.ensures.grows;
}

pub returns-clause-parts : goal.returns-clause-parts
returns-clause-parts c p h =
    let r = c.loop-rest.invariant.parts p h in
    let side = c.args.side.now in
    let none : initialised_all side.program.table.now (heads_in side.program) (knowledge_in side.program) side.class side.is_static c.loop-rest.rest.now r.at ≡ r.at =
    all_done side.program.table.now (heads_in side.program) (knowledge_in side.program) side.class side.is_static c.loop-rest.rest.now r.at c.in_default.len_below in
    subst (λ (q : Parts). IsParts q c.loop-rest.course c.loop-rest.behind) (sym none ∙ r.same) r.is
