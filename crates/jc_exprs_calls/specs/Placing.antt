-- What stands before a call and before a point, in the arena.
use Rattle.std.specs.Prelude.{List, Option, None, Some}
use Rattle.jc_typed.specs.declared.nodes.Node.{Node}
use Rattle.jc_exprs_settling.specs.Settlings.{IsSettled, settled_of}
use Rattle.jc_exprs_senses.specs.Sensed.{sense_of}
use Rattle.jc_exprs_spec.specs.Calls.{Before, OfSense, OfValue, Receiver}
use Rattle.jc_exprs_calls.specs.declared.receivers.ReceiverAt.{ReceiverAt}
use Rattle.jc_exprs_calls.specs.Receivers.{IsReceiver, receiver_of}
use Rattle.jc_exprs_calls.specs.declared.finding.BeforeAt.{BeforeAt}
use Rattle.jc_exprs_calls.specs.declared.finding.BeforeAt.TheVariants as at

abbrev pub has_receiver : List Node → Option ReceiverAt → Option Receiver
has_receiver ns None = None
has_receiver ns (Some r) = Some (receiver_of ns r)

abbrev pub AreReceivers : List Node → Option ReceiverAt → Type 0
AreReceivers ns None = Unit {0}
AreReceivers ns (Some r) = IsReceiver ns r

abbrev pub before_of : List Node → BeforeAt → Before
before_of ns (at.OfValue s) = OfValue (settled_of ns s)
before_of ns (at.OfSense s) = OfSense (sense_of s)

abbrev pub IsBefore : List Node → BeforeAt → Type 0
IsBefore ns (at.OfValue s) = IsSettled ns (Some s)
IsBefore ns (at.OfSense s) = Unit {0}

abbrev pub has_before : List Node → Option BeforeAt → Option Before
has_before ns None = None
has_before ns (Some b) = Some (before_of ns b)

abbrev pub AreBefore : List Node → Option BeforeAt → Type 0
AreBefore ns None = Unit {0}
AreBefore ns (Some b) = IsBefore ns b
