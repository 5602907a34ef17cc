-- What a walk over the expressions of a body has in its arena of what stands before a call.
use Rattle.std.specs.Prelude.{◌<◌, List, length}
use Rattle.jc_rules.specs.declared.rule.Place.{Place}
use Rattle.jc_types.specs.declared.environment.Bounds.{Bounds}
use Rattle.jc_overriding.specs.Viewing.{is_static}
use Rattle.jc_resolve.specs.declared.choice.Chosen.{Chosen}
use Rattle.jc_typed.specs.declared.nodes.Node.{Node}
use Rattle.jc_typed.specs.Parts.{type_of}
use Rattle.jc_typed.specs.Trees.{Form, Call}
use Rattle.jc_exprs_nodes_spec.specs.Typeds.{Typed}
use Rattle.jc_exprs_nodes.specs.Walks.{IsPart}
use Rattle.jc_exprs_settling.specs.Settlings.{settled_of}
use Rattle.jc_exprs_parts_spec.specs.Worlds.{World}
use Rattle.jc_exprs_spec.specs.Calls.{Receiver, OnValue, OnThis, OnSuper, OnClass, OnOuter, arguments, call_kind, is_raw_call, receiver_operands}
use Rattle.jc_exprs_calls.specs.declared.receivers.ReceiverAt.{ReceiverAt}
use Rattle.jc_exprs_calls.specs.declared.receivers.ReceiverAt.TheVariants as at

abbrev pub receiver_of : List Node → ReceiverAt → Receiver
receiver_of ns (at.OnValue s) = OnValue (settled_of ns s)
receiver_of ns (at.OnThis place) = OnThis place
receiver_of ns (at.OnSuper place ty) = OnSuper place (type_of ns ty)
receiver_of ns (at.OnClass k) = OnClass k
receiver_of ns (at.OnOuter k) = OnOuter k

-- its parts stand in the arena
abbrev pub IsReceiver : List Node → ReceiverAt → Type 0
IsReceiver ns (at.OnValue s) = IsPart ns s.part × (s.ty < length ns)
IsReceiver ns (at.OnThis place) = Unit {0}
IsReceiver ns (at.OnSuper place ty) = ty < length ns
IsReceiver ns (at.OnClass k) = Unit {0}
IsReceiver ns (at.OnOuter k) = Unit {0}

-- the form of a call of a chosen method
abbrev pub call_form : World → List Bounds → Place → Receiver → List Typed → Chosen → Form
call_form W env place r ts c =
    Call (call_kind W.table r c.member.id) (receiver_operands W env r c.member.id (is_static W.table c.member.id)) c.member.id c.type_args (arguments W.table env place ts c) c.phase c.thrown
    (is_raw_call W r c.member.id)
