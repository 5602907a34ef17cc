-- Names as constant expressions, part by part.
use Rattle.std.proofs.Common.{◌≡◌, ℕ, List, [], ◌∷◌, refl}
use Rattle.jc_declares.specs.Constants.{Formed, longer_parts, longer_name}
use Rattle.jc_constants.specs.Forms.{named_at, named_by, with_part, name_expr}

named_longer_at : (file at : ℕ) (name : List (List ℕ)) (n : List ℕ) → named_by (longer_parts file at name n) ≡ with_part n (named_at at name)
named_longer_at file at [] n = refl
named_longer_at file at (p ∷ ps) n = refl

pub named_longer : (file : ℕ) (f : Formed) (n : List ℕ) → named_by (longer_name file f n) ≡ with_part n (named_by f)
named_longer file f n = named_longer_at file f.place f.name n

constant_longer_at : (file at : ℕ) (name : List (List ℕ)) (n : List ℕ) → (longer_parts file at name n).constant ≡ name_expr file (named_by (longer_parts file at name n))
constant_longer_at file at [] n = refl
constant_longer_at file at (p ∷ ps) n = refl

pub constant_longer : (file : ℕ) (f : Formed) (n : List ℕ) → (longer_name file f n).constant ≡ name_expr file (named_by (longer_name file f n))
constant_longer file f n = constant_longer_at file f.place f.name n

pub ruleset naming = (named_longer, constant_longer)
