-- What stands before a call, in an arena that grows.
use Rattle.std.proofs.Common.{◌≡◌, refl, ℕ, Bool, List, Option, None, Some}
use Rattle.jc_types.specs.declared.conversion.Phase.{Phase}
use Rattle.jc_types.specs.declared.form.Ty.{Ty}
use Rattle.jc_types.specs.declared.ids.MethodId.{MethodId}
use Rattle.jc_typed.specs.declared.expressions.CallKind.{CallKind}
use Rattle.jc_typed.specs.Trees.{Call, Operands}
use Rattle.jc_typed.specs.declared.nodes.Node.{Node}
use Rattle.jc_typed.specs.Parts.{Grows}
use Rattle.jc_typed.proofs.Growing.{within}
use Rattle.jc_exprs_nodes.proofs.Staying.{known_stays, part_stays}
use Rattle.jc_exprs_calls.specs.declared.receivers.ReceiverAt.{ReceiverAt}
use Rattle.jc_exprs_calls.specs.declared.receivers.ReceiverAt.TheVariants as at
use Rattle.jc_exprs_choosing.specs.Choosing.{TypeBelow, type_if}
use Rattle.jc_exprs_calls.specs.Receivers.{IsReceiver, receiver_of}

pub receiver_stays : (ms ns : List Node) (r : ReceiverAt) → Grows ms ns → IsReceiver ms r → receiver_of ns r ≡ receiver_of ms r
receiver_stays ms ns (at.OnValue s) g h = rw (known_stays ms ns s.part.at g h.0.below.0, g.kept s.ty h.1) refl
receiver_stays ms ns (at.OnThis place) g h = refl
receiver_stays ms ns (at.OnSuper place ty) g h = rw (g.kept ty h) refl
receiver_stays ms ns (at.OnClass k) g h = refl
receiver_stays ms ns (at.OnOuter k) g h = refl

pub receiver_there : (ms ns : List Node) (r : ReceiverAt) → Grows ms ns → IsReceiver ms r → IsReceiver ns r
receiver_there ms ns (at.OnValue s) g h = (part_stays ms ns s.part g h.0, within ms ns s.ty g h.1)
receiver_there ms ns (at.OnThis place) g h = h
receiver_there ms ns (at.OnSuper place ty) g h = within ms ns ty g h
receiver_there ms ns (at.OnClass k) g h = h
receiver_there ms ns (at.OnOuter k) g h = h

pub target_stays : (ms ns : List Node) (o : Option ℕ) → Grows ms ns → TypeBelow ms o → type_if ns o ≡ type_if ms o
target_stays ms ns None g h = refl
target_stays ms ns (Some at) g h = rw (g.kept at h) refl

pub target_there : (ms ns : List Node) (o : Option ℕ) → Grows ms ns → TypeBelow ms o → TypeBelow ns o
target_there ms ns None g h = h
target_there ms ns (Some at) g h = within ms ns at g h

pub ruleset targets = (target_stays, target_there)

pub ruleset receives = (receiver_stays, receiver_there)

-- a call of the same parts
pub same_call : {k l : CallKind} {r s : Operands} {t u : List Ty} {a b : Operands} {h i : List Ty} {w x : Bool} (m : MethodId) (p : Phase) →
    k ≡ l → r ≡ s → t ≡ u → a ≡ b → h ≡ i → w ≡ x → Call k r m t a p h w ≡ Call l s m u b p i x
same_call m p e f g j n o = rw (e, f, g, j, n, o) refl
