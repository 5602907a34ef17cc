use Rattle.std.proofs.Common.{◌∙◌, ap, List}
use Rattle.jc_lexer.specs.declared.signs.Spelling.{Spelling}
use Rattle.jc_lexer.specs.declared.signs.TheConstants.{SIGNS}
use Rattle.jc_lexer.specs.Signs.{sign_in}
use Rattle.jc_lexer.proofs.Table.{sign_in_behind}
use Rattle.jc_lexer.proofs.signs.signs_of.Goals as goal

pub returns : goal.returns
returns c = λ text h. ap (λ (signs : List Spelling). sign_in signs text) c.split_at.ensures.back ∙ sign_in_behind c.place_of.result SIGNS text c.args.code h c.place_of.ensures.others
