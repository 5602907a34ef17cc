-- What is noted of the imports of a unit.
use Rattle.std.proofs.Common.{◌≡◌, ℕ, zero, suc, List, [], ◌∷◌, Option, Some, None, refl, sym, ap, ◌∙◌, slice_get}
use Rattle.std.specs.Prelude.{map}
use Rattle.jc_types.specs.Names.{named}
use Rattle.jc_declares.specs.declared.heads.Heads.{Heads}
use Rattle.jc_declares.specs.declared.heads.UnitHead.{UnitHead}
use Rattle.jc_declares.specs.Heads.{Named, imports_in, imports_of}
use Rattle.jc_declares.specs.Looking.{Found, singles}
use Rattle.jc_name_index.specs.Spaces.{with_first}
use Rattle.jc_name_index.proofs.SpacesNoted.{or_next, named_joined, first_named, or_assoc}
use Rattle.jc_imports.specs.declared.imports.Imports.{Imports}
use Rattle.jc_imports.specs.declared.imports.UnitImports.{UnitImports}
use Rattle.jc_imports.specs.Founds.{found_of}
use Rattle.jc_imports.specs.Imported.{Seen, with_firsts, demands_of, imports_by, imports_seen, IsImports}

named_firsts : (n : List ℕ) (es names : Named) → named n (with_firsts es names) ≡ or_next (named n names) (named n es)
named_firsts n [] names = last (named n names)
  where
    last : (o : Option ℕ) → o ≡ or_next o None
    last None = refl
    last (Some c) = refl
named_firsts n (e ∷ es) names =
    named_firsts n es (with_first e.0 e.1 names)
    ∙ ap (λ o. or_next o (named n es)) (first_named (named e.0 names) n e.0 e.1 names refl)
    ∙ or_assoc (named n names) (named n ((e.0, e.1) ∷ [])) (named n es)
    ∙ ap (or_next (named n names)) (sym (named_joined n ((e.0, e.1) ∷ []) es))

abbrev pub on_some : {A B : Type 0} → (A → B) → Option A → Option B
on_some f None = None
on_some f (Some x) = Some (f x)

get_map : {A B : Type 0} (f : A → B) (xs : List A) (i : ℕ) → slice_get (map f xs) i ≡ on_some f (slice_get xs i)
get_map f [] i = refl
get_map f (x ∷ xs) zero = refl
get_map f (x ∷ xs) (suc i) = get_map f xs i

abbrev pub single_in : List ℕ → Option UnitImports → Option ℕ
single_in n None = None
single_in n (Some u) = named n u.singles

abbrev pub demands_in : Option UnitImports → List Found
demands_in None = []
demands_in (Some u) = map found_of u.demands

abbrev single_by : List ℕ → Option Seen → Option ℕ
single_by n None = None
single_by n (Some s) = named n s.singles

abbrev demands_by : Option Seen → List Found
demands_by None = []
demands_by (Some s) = s.demands

unit_single : (H : Heads) (n : List ℕ) (o : Option UnitHead) → single_by n (on_some (λ (u : UnitHead). imports_by H u.imports) o) ≡ named n (singles H (imports_in o))
unit_single H n None = refl
unit_single H n (Some u) = named_firsts n (singles H u.imports) []

unit_demands : (H : Heads) (o : Option UnitHead) → demands_by (on_some (λ (u : UnitHead). imports_by H u.imports) o) ≡ demands_of H (imports_in o)
unit_demands H None = refl
unit_demands H (Some u) = refl

single_of_seen : (n : List ℕ) (o : Option UnitImports) → single_in n o ≡ single_by n (on_some imports_seen o)
single_of_seen n None = refl
single_of_seen n (Some u) = refl

demands_of_seen : (o : Option UnitImports) → demands_in o ≡ demands_by (on_some imports_seen o)
demands_of_seen None = refl
demands_of_seen (Some u) = refl

at_unit : (H : Heads) (M : Imports) (u : ℕ) → IsImports H M → on_some imports_seen (slice_get M.units u) ≡ on_some (λ (v : UnitHead). imports_by H v.imports) (slice_get H.units u)
at_unit H M u i =
    sym (get_map imports_seen M.units u) ∙ ap (λ (l : List Seen). slice_get l u) i ∙ get_map (λ (v : UnitHead). imports_by H v.imports) H.units u

pub single_named : (H : Heads) (M : Imports) (u : ℕ) (n : List ℕ) → IsImports H M → single_in n (slice_get M.units u) ≡ named n (singles H (imports_of H u))
single_named H M u n i = single_of_seen n (slice_get M.units u) ∙ ap (single_by n) (at_unit H M u i) ∙ unit_single H n (slice_get H.units u)

pub demands_listed : (H : Heads) (M : Imports) (u : ℕ) → IsImports H M → demands_in (slice_get M.units u) ≡ demands_of H (imports_of H u)
demands_listed H M u i = demands_of_seen (slice_get M.units u) ∙ ap demands_by (at_unit H M u i) ∙ unit_demands H (slice_get H.units u)
