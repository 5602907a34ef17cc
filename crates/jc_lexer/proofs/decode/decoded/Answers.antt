use Rattle.std.proofs.Common.{ℕ, length, arith, sym, ap, ◌∙◌, ◌∷◌, [], length-drop, subst, List}
use Rattle.jc_lexer.specs.declared.symbol.Symbol.{Symbol}
use Rattle.jc_lexer.specs.declared.decode.Reading.TheVariants.{NotUtf8, BadEscape}
use Rattle.jc_lexer.proofs.Texts.{IsReadTo, begins_read, reads_on, stops_at, ends_at}
use Rattle.jc_lexer.proofs.decode.decoded.Goals as goal
use Rattle.jc_lexer.proofs.decode.decoded.Goals.{in-NotUtf8, in-BadEscape}

abbrev at_place : ℕ → ℕ → Symbol
at_place code from = record { code = code; from = from }

pub loop-rest-init : goal.loop-rest-init
loop-rest-init c =
    record { room = omega arith; read = let P = λ (l : List Symbol). IsReadTo c.args.bytes.now l 0 _ c.args.bytes.now in subst P (sym c.in_ok-text.ensures.items) (begins_read c.args.bytes.now) }

pub loop-rest-preserved : goal.loop-rest-preserved
loop-rest-preserved c =
    let i = c.loop-rest.invariant in
    let rest = c.loop-rest.rest.now in
    let e = c.in-Read.ensures in
    let back = c.split_at.ensures.back in
    record {
      room = omega (arith, i.room, e.fits.0, e.fits.1, ap length back, length-drop c.in-Read.len rest);
      read = reads_on c.args.bytes.now c.loop-rest.text.items c.push.new.self.items c.loop-rest.from c.in-Read.len c.in-Read.code c.loop-rest.odd c.in-Read.next rest c.split_at.result.1.now i.read c.loop-rest-test.true e.value e.fits.0 e.fits.1 c.in_ok-push-in-Read.ensures.items back;
    }

pub returns-in-loop-rest : goal.returns-in-loop-rest
returns-in-loop-rest c =
    let from = c.loop-rest.from in
    let mark = λ (k : ℕ). at_place k from in
    elim c.match-character.branch [
      | in-NotUtf8 w ↦ c.of.ensures ∙ stops_at c.args.bytes.now c.loop-rest.text.items c.push-in-loop-rest.new.self.items from c.loop-rest.odd c.loop-rest.rest.now NotUtf8 (mark c.match-character.code)
          c.loop-rest.invariant.read c.loop-rest-test.true w.in-NotUtf8.ensures.value (λ f. ap (λ (k : ℕ). mark k ∷ []) (sym w.code-is)) c.in_ok-push.ensures.items
      | in-BadEscape w ↦ c.of.ensures ∙ stops_at c.args.bytes.now c.loop-rest.text.items c.push-in-loop-rest.new.self.items from c.loop-rest.odd c.loop-rest.rest.now BadEscape (mark c.match-character.code)
          c.loop-rest.invariant.read c.loop-rest-test.true w.in-BadEscape.ensures.value (λ f. ap (λ (k : ℕ). mark k ∷ []) (sym w.code-is)) c.in_ok-push.ensures.items
    ]

pub returns : goal.returns
returns c = c.of-2.ensures ∙ ends_at c.args.bytes.now c.loop-rest.text.items c.push-2.new.self.items c.loop-rest.from c.loop-rest.odd c.loop-rest.rest.now c.loop-rest.invariant.read c.loop-rest-test.false c.in_ok-push-2.ensures.items
