use Rattle.std.proofs.Common.{rules, ◌≡◌, ◌∙◌, ap}
use Rattle.jc_class_out.specs.Format.{read}
use Rattle.jc_class_out.specs.Spelling.{file_of}
use Rattle.jc_class_out.proofs.Exact.{file_fits}
use Rattle.jc_class_out.proofs.FileAgain.{file_again}
use Rattle.jc_class_out.proofs.writer.class_bytes.Goals as goal

pub returns : goal.returns
returns c =
    let a : c.of.result ≡ file_of c.args.class.now = search rules in
    record { in_range = rw (c.of.ensures) c.in_ok-put_file.ensures.bytes; reads = ap read a ∙ file_again c.args.class.now (file_fits c.args.class.now c.requires) }
