-- The kinds of supertypes, told by what is seen of them.
use Rattle.std.specs.Prelude.{ℕ, Bool, true, not, ◌&&◌, Some}
use Rattle.jc_declares.specs.declared.heads.Heads.{Heads}
use Rattle.jc_declares.specs.Heads.{is_interface, is_final, owner_of}
use Rattle.jc_declares.specs.Looking.{is_own}
use Rattle.jc_looking.specs.declared.scene.Sight.{Sight}
use Rattle.jc_looking.specs.declared.scene.Sight.TheVariants as sight

-- fits as the superclass of class c: a class that isn't final, and no type variable of c's own; what else is seen isn't judged here
abbrev pub superclass_seen : Heads → ℕ → Sight → Bool
superclass_seen H c (sight.Class d) = not (is_interface H d) && not (is_final H d)
superclass_seen H c (sight.Variable v) = not (is_own (owner_of H v) (Some c))
superclass_seen H c _ = true

-- fits as a superinterface of class c: an interface, and no type variable of its own (JLS 8.1.5)
abbrev pub interface_seen : Heads → ℕ → Sight → Bool
interface_seen H c (sight.Class d) = is_interface H d
interface_seen H c (sight.Variable v) = not (is_own (owner_of H v) (Some c))
interface_seen H c _ = true
