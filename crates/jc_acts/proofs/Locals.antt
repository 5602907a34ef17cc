-- The types of the variables behind those that are given.
use Rattle.std.proofs.Common.{◌≡◌, ◌∷◌, ◌∙◌, ◌≤◌, ◌-◌, [], ℕ, zero, suc, List, length, map, take, drop, refl, ap, arith}
use Rattle.std.proofs.lemmas.List.{take_all, length-drop}
use Rattle.jc_heaps.specs.Layout.{default_value}
use Rattle.jc_typed.specs.declared.program.Local.{Local}
use Rattle.jc_meaning.specs.Programs.{local_types}

types_behind : (n : ℕ) (ls : List Local) → local_types (drop n ls) ≡ drop n (local_types ls)
types_behind zero ls = refl
types_behind (suc n) [] = refl
types_behind (suc n) (l ∷ ls) = types_behind n ls

-- a slice has as many members as are left
pub defaults_from : (n : ℕ) (ls : List Local) → map default_value (local_types (take (length ls - n) (drop n ls))) ≡ map default_value (drop n (local_types ls))
defaults_from n ls =
    let all : take (length ls - n) (drop n ls) ≡ drop n ls = take_all (length ls - n) (drop n ls) (omega (arith, length-drop n ls)) in
    ap (λ (xs : List Local). map default_value (local_types xs)) all ∙ ap (map default_value) (types_behind n ls)

pub none_left : (n : ℕ) (ls : List Local) → length ls ≤ n → [] ≡ map default_value (drop n (local_types ls))
none_left zero [] h = refl
none_left zero (l ∷ ls) h = absurd (omega arith)
none_left (suc n) [] h = refl
none_left (suc n) (l ∷ ls) h = none_left n ls (omega arith)

pub none_there : (n : ℕ) → [] ≡ map default_value (drop n [])
none_there zero = refl
none_there (suc n) = refl

pub ruleset defaults = (none_left, none_there)
