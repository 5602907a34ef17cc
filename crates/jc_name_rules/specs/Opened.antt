-- Whether the classes that an import names may be named.
use Rattle.std.specs.Prelude.{ℕ, Bool, true, ◌&&◌, List, [], ◌∷◌}
use Rattle.jc_declares.specs.declared.heads.Heads.{Heads}
use Rattle.jc_declares.specs.Looking.{Asker, Found, InPackage, AtClass, Nowhere, is_accessible, next_part}

-- what was found may be named by one who asks: a class by its access, a package and nothing in any case
abbrev pub found_open : Heads → Asker → Found → Bool
found_open H a (AtClass c) = is_accessible H a c
found_open H a (InPackage p) = true
found_open H a Nowhere = true

-- each class that further parts name may be named
abbrev pub parts_open : Heads → Asker → Found → List (List ℕ) → Bool
parts_open H a f [] = true
parts_open H a f (n ∷ ns) = found_open H a (next_part H f n) && parts_open H a (next_part H f n) ns
