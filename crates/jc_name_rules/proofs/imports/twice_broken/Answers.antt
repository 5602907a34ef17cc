use Rattle.std.proofs.Common.{take, arith, ap, ◌∙◌}
use Rattle.std.specs.Prelude.{not}
use Rattle.jc_types.specs.Breaks.{least}
use Rattle.jc_declares.specs.HeadBreaks.{unless, broken_at}
use Rattle.jc_declares.specs.Looking.{singles}
use Rattle.jc_imports.specs.Founds.{found_of}
use Rattle.jc_written.proofs.Counting.{each_turn}
use Rattle.jc_name_rules.specs.Singles.{twice_in}
use Rattle.jc_name_rules.proofs.Singled.{twice_same, next_import}
use Rattle.jc_name_rules.proofs.imports.twice_broken.Goals as goal

pub loop-number-preserved : goal.loop-number-preserved
loop-number-preserved c =
    let H = c.args.declared.now.heads.now in
    record {
      least =
          each_turn (twice_in H c.args.file c.args.imports.now) c.loop-number.found c.again_broken-found.result c.args.imports.now c.loop-number.number c.index-imports-number.result (omega arith) c.index-imports-number.is
          (c.again_broken-found.ensures (singles H (take c.loop-number.number c.args.imports.now)) c.loop-number.invariant.singles
          ∙ ap (λ b. least c.loop-number.found (unless (not b) (broken_at 301 c.args.file c.index-imports-number.result.at))) (twice_same H c.args.imports.now c.loop-number.number c.index-imports-number.result (found_of c.in_ok-named.named) c.in_ok-named.ensures))
          ∙ c.loop-number.invariant.least;
      singles =
          next_import H c.args.imports.now c.loop-number.number c.index-imports-number.result (found_of c.in_ok-named.named) c.loop-number.singles c.note.new.singles (omega arith) c.index-imports-number.is c.in_ok-named.ensures
          c.loop-number.invariant.singles
          c.in_ok-note.ensures;
    }
