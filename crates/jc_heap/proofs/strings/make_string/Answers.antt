use Rattle.std.proofs.Common.{sym}
use Rattle.jc_heap.proofs.StringPlaces.{string_made}
use Rattle.jc_heap.proofs.strings.make_string.Goals as goal

pub returns-in_ok-string-in-Some : goal.returns-in_ok-string-in-Some
returns-in_ok-string-in-Some c =
    string_made c.args.classes.now c.args.text.now c.args.world.now c.in-Some.place c.make_string_at.new.world c.in_ok-string-in-Some.string (sym c.in-Some.ensures) c.in_ok-string-in-Some.ensures.world c.in_ok-string-in-Some.ensures.address
