-- Names that are added one after the other.
use Rattle.std.proofs.Common.{◌≡◌, [], ◌∷◌, ◌++◌, refl}
use Rattle.std.specs.Prelude.{cond}
use Rattle.jc_types.specs.Names.{named}
use Rattle.jc_declares.specs.Heads.{Named}
use Rattle.jc_declares.specs.Knowing.{is_some}
use Rattle.jc_declares.specs.Making.{first_names}

pub first_names-append : (found xs ys : Named) → first_names found (xs ++ ys) ≡ first_names (first_names found xs) ys
first_names-append found [] ys = refl
first_names-append found (x ∷ xs) ys = first_names-append (cond (is_some (named x.0 found)) found (found ++ x ∷ [])) xs ys

pub ruleset firsts = (first_names-append)
