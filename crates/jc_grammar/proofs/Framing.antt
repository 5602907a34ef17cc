-- The law that tokens of trees come first, by the lemmas of each tree.
use Rattle.jc_grammar.specs.Before.{TokensComeFirst}
use Rattle.jc_grammar.proofs.FramedTypes.{type_frames, arg_frames, class_frames}
use Rattle.jc_grammar.proofs.FramedExpressions.{expr_frames, creation_frames, array_frames, init_frames, skip_frames}
use Rattle.jc_grammar.proofs.FramedParts.{value_frames}
use Rattle.jc_grammar.proofs.FramedStatements.{stmt_frames, clause_frames, member_frames, declaration_frames, file_frames}

pub tokens_come_first : TokensComeFirst
tokens_come_first = record {
  types = λ ty. (type_frames ty).at;
  args = λ arg. (arg_frames arg).at;
  classes = λ class. (class_frames class).at;
  expressions = λ expr. (expr_frames expr).at;
  creations = λ creation. (creation_frames creation).at;
  arrays = λ array. (array_frames array).at;
  inits = λ init. (init_frames init).at;
  skips = λ skip. (skip_frames skip).at;
  values = λ value. (value_frames value).at;
  statements = λ stmt. (stmt_frames stmt).at;
  clauses = λ clause. (clause_frames clause).at;
  members = λ member. (member_frames member).at;
  declarations = λ declaration. (declaration_frames declaration).at;
  files = λ file. (file_frames file).at;
}
