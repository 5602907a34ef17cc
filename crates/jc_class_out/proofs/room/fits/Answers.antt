use Rattle.std.proofs.Common.{◌∙◌, sym}
use Rattle.jc_class_out.proofs.Exact.{file_fits, spelled}
use Rattle.jc_class_out.proofs.room.fits.Goals as goal

pub returns : goal.returns
returns c = (λ t. spelled c.args.class.now (sym c.each_fits.ensures ∙ t), λ h. c.each_fits.ensures ∙ file_fits c.args.class.now h)
