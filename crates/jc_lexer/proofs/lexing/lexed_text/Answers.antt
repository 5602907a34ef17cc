use Rattle.std.proofs.Common.{◌++◌, ◌∷◌, [], List, sym, ap, ◌∙◌, subst}
use Rattle.jc_lexer.specs.declared.token.Token.{Token}
use Rattle.jc_lexer.proofs.TokenTurns.{IsLexedTo, begins_lexed, gap_on, lexeme_on, lexed_end, lexed_fault, lexed_out, token_is, some_left, none_left_of}
use Rattle.jc_lexer.proofs.lexing.lexed_text.Goals as goal

pub loop-rest-init : goal.loop-rest-init
loop-rest-init c =
    let P = λ (l : List Token). IsLexedTo c.args.text.now l c.args.text.now in
    subst P (sym c.new-list.ensures) (begins_lexed c.args.text.now)

pub loop-rest-preserved-in-Gap : goal.loop-rest-preserved-in-Gap
loop-rest-preserved-in-Gap c =
    let rest = c.loop-rest.rest.now in
    let some = some_left rest c.is_empty.result c.is_empty.ensures c.loop-rest-test.true in
    gap_on c.args.text.now c.loop-rest.list rest c.loop-rest.invariant some c.in-Gap.len c.behind-rest.result.now (sym c.in-Gap.is ∙ c.in_ok-len.ensures.value)
    (rw c.in-Gap.is at c.in_ok-len.ensures.progress) c.behind-rest.ensures

pub loop-rest-preserved : goal.loop-rest-preserved
loop-rest-preserved c =
    let rest = c.loop-rest.rest.now in
    let next = c.behind-next.result.now in
    let kind = c.in-Lexeme.kind in
    let some = some_left rest c.is_empty.result c.is_empty.ensures c.loop-rest-test.true in
    let same = token_is kind rest next c.from_at.result c.from_at-in-Lexeme.result c.begins_lexeme.result c.from_at.ensures c.from_at-in-Lexeme.ensures c.begins_lexeme.ensures in
    lexeme_on c.args.text.now c.loop-rest.list rest c.loop-rest.invariant some kind c.in-Lexeme.len next c.push.new.self (sym c.in-Lexeme.is ∙ c.in_ok-len.ensures.value)
    (rw c.in-Lexeme.is at c.in_ok-len.ensures.progress) c.behind-next.ensures (c.in_ok-push-in-Lexeme.ensures.ok ∙ ap (λ (t : Token). c.loop-rest.list ++ (t ∷ [])) same)

pub returns-in-End-clause-found : goal.returns-in-End-clause-found
returns-in-End-clause-found c =
    let rest = c.loop-rest.rest.now in
    let some = some_left rest c.is_empty.result c.is_empty.ensures c.loop-rest-test.true in
    lexed_end c.args.text.now c.loop-rest.list rest c.loop-rest.invariant some (sym c.in-End.is ∙ c.in_ok-len.ensures.value)

pub returns-in-Fault-clause-fault : goal.returns-in-Fault-clause-fault
returns-in-Fault-clause-fault c =
    let rest = c.loop-rest.rest.now in
    let some = some_left rest c.is_empty.result c.is_empty.ensures c.loop-rest-test.true in
    lexed_fault c.args.text.now c.loop-rest.list rest c.loop-rest.invariant some c.in-Fault.fault (sym c.in-Fault.is ∙ c.in_ok-len.ensures.value)

pub returns-clause-found : goal.returns-clause-found
returns-clause-found c =
    let rest = c.loop-rest.rest.now in
    lexed_out c.args.text.now c.loop-rest.list rest c.loop-rest.invariant (none_left_of rest c.is_empty.result c.is_empty.ensures c.loop-rest-test.false)
