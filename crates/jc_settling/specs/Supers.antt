-- The supertypes that a class writes, one behind the other.
use Rattle.std.specs.Prelude.{ℕ, Bool, true, false, List, [], ◌++◌, Option, Some, None}
use Rattle.jc_declares.specs.declared.heads.ClassHead.{ClassHead}
use Rattle.jc_declares.specs.declared.heads.Path.{Path}
use Rattle.jc_looking.specs.declared.scene.Sight.{Sight}
use Rattle.jc_looking.specs.declared.scene.Sight.TheVariants as sight

-- the superclass and the superinterfaces that a head writes, as paths; none where there is no such class
abbrev pub superclass_in : Option ClassHead → List Path
superclass_in None = []
superclass_in (Some c) = c.superclass

abbrev pub interfaces_in : Option ClassHead → List Path
interfaces_in None = []
interfaces_in (Some c) = c.interfaces

-- it isn't known yet what is seen
abbrev pub asks : Sight → Bool
asks sight.Asks = true
asks sight.Nothing = false
asks (sight.Class c) = false
asks (sight.Variable v) = false
asks sight.Several = false

-- what is found, before what is still to be found
abbrev pub before : List ℕ → Option (List ℕ) → Option (List ℕ)
before found None = None
before found (Some cs) = Some (found ++ cs)

-- all that was found, if everything is known; None otherwise
abbrev pub behind : Bool → List ℕ → Option (List ℕ)
behind true found = Some found
behind false found = None
