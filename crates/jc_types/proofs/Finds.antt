-- A look-up in the map is one in the list.
use Rattle.std.proofs.Common.{◌≡◌, ℕ, cond, Some, List, [], ◌∷◌, map, refl, ap}
use Rattle.std.specs.Str.{bytes_eq}
use Rattle.std.specs.Map.{lookup}
use Rattle.indexmap.proofs.CallerLemmas.{insert_entry-new}
use Rattle.jc_types.specs.Names.{named}

pub found : {K : Type 0} (bytes : K → List ℕ) (n : List ℕ) (es : List (K × ℕ)) → lookup (λ k. bytes_eq n (bytes k)) es ≡ named n (map (λ e. (bytes e.0, e.1)) es)
found bytes n [] = refl
found bytes n (e ∷ es) = ap (cond (bytes_eq n (bytes e.0)) (Some e.1)) (found bytes n es)

pub ruleset new_entry = (insert_entry-new)
