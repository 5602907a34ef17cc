-- The type to which a value is assigned, as a call is asked with it; and calls whose parts are all there.
use Rattle.std.proofs.Common.{◌≡◌, refl, ℕ, List, Option, Some, None, length}
use Rattle.jc_types.specs.declared.form.Ty.{Ty}
use Rattle.jc_typed.specs.declared.nodes.Node.{Node}
use Rattle.jc_exprs_nodes_spec.specs.Told.{Run, Standing, ran}
use Rattle.jc_exprs_nodes_spec.specs.Gates.{gated, gated_two}
use Rattle.jc_exprs_nodes_spec.specs.Typeds.{Typed}
use Rattle.jc_exprs_gathering.specs.Gathered.{has_all}
use Rattle.jc_exprs_spec.specs.Calls.{Before}
use Rattle.jc_exprs_choosing.specs.Choosing.{TypeBelow, type_if}
use Rattle.jc_exprs_starts.specs.Wanted.{WantedBelow, wanted_in}

pub wanted_type : (ns : List Node) (o : Option ℕ) → wanted_in ns o ≡ type_if ns o
wanted_type ns None = refl
wanted_type ns (Some at) = refl

pub wanted_below : (ns : List Node) (o : Option ℕ) → WantedBelow (length ns) o → TypeBelow ns o
wanted_below ns None b = b
wanted_below ns (Some at) b = b

module _ (ns : List Node) (target : Option ℕ) (ats : List ℕ) (s : Standing) where
  pub asked_whole : (f : Option Ty → List Typed → Run Typed) (ts : List Typed) → has_all ns ats ≡ Some ts → ran (f (type_if ns target) ts) s ≡ gated (f (wanted_in ns target)) (has_all ns ats) s
  asked_whole f ts h = rw (wanted_type ns target, h) refl

  pub behind_whole : (f : Option Ty → Before → List Typed → Run Typed) (o : Option Before) (b : Before) (ts : List Typed) → o ≡ Some b → has_all ns ats ≡ Some ts →
      ran (f (type_if ns target) b ts) s ≡ gated_two (f (wanted_in ns target)) o (has_all ns ats) s
  behind_whole f o b ts e h = rw (wanted_type ns target, e, h) refl
