use Rattle.std.proofs.Common.{◌∙◌, arith}
use Rattle.javag.proofs.Texts.{texts_more, take_one}
use Rattle.javag.proofs.sources.read_sources.Goals as goal

pub loop-at-preserved : goal.loop-at-preserved
loop-at-preserved g c =
    let next = take_one c.args.names.now c.loop-at.at c.index-names-at.result c.loop-at-test.true c.index-names-at.is in
    let here = rw c.loop-at.invariant.files at c.in-Ok.ensures.ok in
    record {
      read = rw (next.0, c.in_ok-push-in-Ok.ensures.ok, c.in-Ok.text-is) (texts_more _ _ _ _ _ c.loop-at.invariant.read here);
      files = c.in-Ok.ensures.files ∙ c.loop-at.invariant.files;
      later = omega (arith, c.loop-at.invariant.later, c.in-Ok.ensures.later);
    }
