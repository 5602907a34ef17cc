use Rattle.std.proofs.Common.{◌<◌, length, [], sym, ap, ◌∙◌, arith}
use Rattle.std.proofs.lemmas.List.{get_or_read}
use Rattle.std.proofs.lemmas.Result.{err_from_is_err_and}
use Rattle.jc_lexer.proofs.FileTurns.{file_on, file_stops, files_end}
use Rattle.jc_lexer.proofs.files.lex_all.Goals as goal

pub returns-in_err-list-clause-refused : goal.returns-in_err-list-clause-refused
returns-in_err-list-clause-refused c =
    let files = c.args.files.now in
    let n = c.loop-n.n in
    let within : n < length files = omega arith in
    let read = c.slice.ensures ∙ get_or_read files n c.index-files-n.result within c.index-files-n.is [] in
    let p = err_from_is_err_and c.from_residual.result c.from_residual.ensures.1 in
    rw (p.1, p.2) (file_stops files c.loop-n.lists n c.loop-n.before c.loop-n.invariant.read within c.slice.result.now read c.in_err-list.field-0.0 c.in_err-list.ensures.refused)

pub loop-n-preserved : goal.loop-n-preserved
loop-n-preserved c =
    let files = c.args.files.now in
    let n = c.loop-n.n in
    let within : n < length files = omega arith in
    let read = c.slice.ensures ∙ get_or_read files n c.index-files-n.result within c.index-files-n.is [] in
    let size = c.len-before.ensures ∙ ap length (sym c.slice.ensures) in
    record {
      short = omega (arith, size, c.in_ok-list.ensures.short);
      read = file_on files c.loop-n.lists n c.loop-n.before c.loop-n.invariant.read within c.slice.result.now read c.in_ok-list.list c.push.new.self c.len-before.result c.in_ok-list.ensures.found c.in_ok-push.ensures.ok size;
    }

pub returns-clause-found : goal.returns-clause-found
returns-clause-found c = files_end c.args.files.now c.loop-n.lists c.loop-n.n c.loop-n.before c.loop-n.invariant.read (omega arith)
