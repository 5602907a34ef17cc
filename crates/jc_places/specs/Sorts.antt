-- The tests of an `if` and the clauses of a `try`, as lists from their first member on.
use Rattle.std.specs.Prelude.{ℕ, List, ◌∷◌}
use Rattle.jc_types.specs.declared.form.Ty.{Ty}
use Rattle.jc_typed.specs.declared.nodes.Node.{Node}
use Rattle.jc_typed.specs.Trees.{Operand, Stmt, Arms, NoArms, MoreArms, Catches, NoCatches, MoreCatches}
use Rattle.jc_typed.specs.Parts.{operand_of, stmt_of, types_of}
use Rattle.jc_places.specs.declared.sorts.ArmPlaces.{ArmPlaces}
use Rattle.jc_places.specs.declared.sorts.CatchPlaces.{CatchPlaces}

-- a test of an `if`, with its statement (JLS 14.9)
pub record Arm : Type 0 where
  pub test : Operand
  pub then : Stmt

-- a catch clause: its parameter, its alternatives and its block (JLS 14.20)
pub record Catch : Type 0 where
  pub local : ℕ
  pub types : List Ty
  pub body : Stmt

-- a list from its first member on, and then `more`
abbrev pub arms_before : Arms → List Arm → List Arm
arms_before NoArms more = more
arms_before (MoreArms before test then) more = arms_before before (record { test = test; then = then } ∷ more)

abbrev pub catches_before : Catches → List Catch → List Catch
catches_before NoCatches more = more
catches_before (MoreCatches before place local types body) more = catches_before before (record { local = local; types = types; body = body } ∷ more)

-- a test or a clause by the places of its parts in an arena
abbrev pub arm_of : List Node → ArmPlaces → Arm
arm_of ns a = record { test = operand_of ns a.test; then = stmt_of ns a.then }

abbrev pub catch_of : List Node → CatchPlaces → Catch
catch_of ns c = record { local = c.local; types = types_of ns c.types; body = stmt_of ns c.body }
