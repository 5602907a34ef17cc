use Rattle.std.proofs.Common.{◌≡◌, false, [], ◌∷◌, sym, subst, rules}
use Rattle.jc_lexer.specs.declared.token.Sign.TheVariants as sign_of
use Rattle.jc_reading.specs.Giving.{Gives}
use Rattle.jc_reading.specs.Kinds.{sign_code, one_of}
use Rattle.jc_parse_expr.proofs.AssignCode.{assign_touched}
use Rattle.jc_parse_expr.proofs.operators.assign_op.Goals as goal

pub returns : goal.returns
returns c =
    let e0 : one_of (sign_code sign_of.Assign ∷ []) c.args.tokens.now ≡ false = Prim.search rules in
    let e1 : one_of (sign_code sign_of.PlusAssign ∷ []) c.args.tokens.now ≡ false = Prim.search rules in
    let e2 : one_of (sign_code sign_of.MinusAssign ∷ []) c.args.tokens.now ≡ false = Prim.search rules in
    let e3 : one_of (sign_code sign_of.StarAssign ∷ []) c.args.tokens.now ≡ false = Prim.search rules in
    let e4 : one_of (sign_code sign_of.SlashAssign ∷ []) c.args.tokens.now ≡ false = Prim.search rules in
    let e5 : one_of (sign_code sign_of.PercentAssign ∷ []) c.args.tokens.now ≡ false = Prim.search rules in
    let e6 : one_of (sign_code sign_of.AndAssign ∷ []) c.args.tokens.now ≡ false = Prim.search rules in
    let e7 : one_of (sign_code sign_of.OrAssign ∷ []) c.args.tokens.now ≡ false = Prim.search rules in
    let e8 : one_of (sign_code sign_of.CaretAssign ∷ []) c.args.tokens.now ≡ false = Prim.search rules in
    let e9 : one_of (sign_code sign_of.ShiftLeftAssign ∷ []) c.args.tokens.now ≡ false = Prim.search rules in
    subst (λ v. Gives c.touched_assign.result v) (sym (assign_touched c.args.tokens.now e0 e1 e2 e3 e4 e5 e6 e7 e8 e9)) c.touched_assign.ensures
