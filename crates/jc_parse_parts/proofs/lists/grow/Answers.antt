use Rattle.std.proofs.Common.{◌≡◌, List, [], ◌∷◌, ◌++◌, min, sym, ap, ◌∙◌, subst, arith}
use Rattle.jc_reading.specs.Giving.{Halts}
use Rattle.jc_reading.specs.declared.reading.Halt.{Halt}
use Rattle.jc_reading.specs.Reading.{Found, Stopped, any_number}
use Rattle.jc_reading.specs.Reach.{onto}
use Rattle.jc_reading.proofs.Turns.{Resumes, loop_shorter, loop_next, loop_stop}
use Rattle.jc_parse_parts.proofs.lists.grow.Goals as goal

pub turns-preserved : goal.turns-preserved
turns-preserved g c =
    let found = c.in-Ok.found in
    let r = c.requires.reads in
    let one : r.0 c.turns.rest.now ≡ Found found.value found.rest.now found.left = r.2 c.turns.rest _ c.in-Ok.ensures in
    let lt = loop_shorter _ r.0 r.1 c.turns.rest.now found.rest.now found.value found.left one in (
      omega (arith, lt),
      λ run moves reads.
          let whole = onto c.args.items c.args.left (any_number run c.args.tokens.now) in
          let next : run c.turns.rest.now ≡ Found found.value found.rest.now found.left = reads c.turns.rest _ c.in-Ok.ensures in
          let s = loop_next _ run moves whole c.turns.items c.turns.left c.turns.rest.now found.rest.now found.value found.left (c.turns.invariant.1 run moves reads) next in
          let held : c.push.new.self ≡ c.turns.items ++ found.value ∷ [] = c.in_ok-push-in-Ok.ensures.ok in
          subst (λ (l : List g.row.T.Denot). Resumes whole l c.min-left.result run found.rest.now) (sym held) (subst (λ j. Resumes whole (c.turns.items ++ found.value ∷ []) j run found.rest.now) (sym c.min-left.ensures) s),
    )

pub returns-in-Err-Stopped-clause-read : goal.returns-in-Err-Stopped-clause-read
returns-in-Err-Stopped-clause-read g c = λ run moves reads.
    let stop : run c.turns.rest.now ≡ Stopped c.in-Err-Stopped.reach = subst (λ (h : Halt). Halts h (run c.turns.rest.now)) c.in-Err-Stopped.field-0-is (reads c.turns.rest _ c.in-Err-Stopped.ensures) in
    loop_stop _ run moves (onto c.args.items c.args.left (any_number run c.args.tokens.now)) c.turns.items c.turns.left c.turns.rest.now c.in-Err-Stopped.reach (c.turns.invariant.1 run moves reads) stop
    ∙ ap (λ j. Found c.turns.items c.turns.rest.now j) (sym (c.min.ensures ∙ ap (λ k. min c.turns.left k) c.in-Err-Stopped.reach-is))
