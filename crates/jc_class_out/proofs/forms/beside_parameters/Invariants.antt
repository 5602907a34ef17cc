use Rattle.std.proofs.Common.{◌≡◌, ◌≤◌, ◌+◌, ◌-◌, length}
use Rattle.std.specs.Prelude.{◌&&◌}
use Rattle.jc_class_out.specs.Descriptors.{items_on, parameter_items}
use Rattle.jc_class_out.specs.Forms.{alike}
use Rattle.jc_class_out.proofs.forms.beside_parameters.Given as goal

abbrev pub invariant-loop : goal.invariant-loop
invariant-loop l = record {
  counted : l.count + length (items_on (length l.descriptor - l.counter) l.rest) ≡ length (parameter_items l.descriptor);
  few : l.count ≤ l.counter;
  same : (l.alike && alike (items_on (length l.descriptor - l.counter) l.rest) l.left) ≡ alike (parameter_items l.descriptor) l.locals;
}
