-- Written types that are added one after the other.
use Rattle.std.proofs.Common.{◌≡◌, ◌<◌, ◌≤◌, ◌+◌, ℕ, List, [], ◌∷◌, ◌++◌, map, length, drop, get_or, append_assoc, append-nil, refl, sym, ap, ◌∙◌}
use Rattle.std.proofs.lemmas.List.{drop_all}
use Rattle.jc_types.specs.declared.declarations.TypePlaces.{TypePlaces}
use Rattle.jc_types.specs.declared.declarations.Written.{Written}
use Rattle.jc_types.specs.declared.declarations.WrittenTypes.{WrittenTypes}
use Rattle.jc_types.specs.declared.form.Ty.{Ty}
use Rattle.jc_declares.specs.Making.{types}
use Rattle.jc_written.proofs.Counting.{first_left}
use Rattle.jc_declared.specs.Types.{with_types}

both : List Ty → List TypePlaces → WrittenTypes
both tys places = record { types = tys; places = places }

pub with_types-none : (l : WrittenTypes) → with_types l [] ≡ l
unfolding with_types both
with_types-none l = ap (λ tys. both tys (l.places ++ [])) (append-nil l.types) ∙ ap (both l.types) (append-nil l.places)

pub with_types-more : (l : WrittenTypes) (w : Written) (ws : List Written) → with_types (with_types l (w ∷ [])) ws ≡ with_types l (w ∷ ws)
unfolding with_types both
with_types-more l w ws =
    ap (λ tys. both tys ((l.places ++ w.places ∷ []) ++ (types ws).places)) (append_assoc l.types (w.ty ∷ []) (types ws).types)
    ∙ ap (both (l.types ++ (types (w ∷ ws)).types)) (append_assoc l.places (w.places ∷ []) (types ws).places)

pub with_types-first : (ws : List Written) → with_types (types []) ws ≡ types ws
unfolding with_types
with_types-first ws = refl

-- one turn of a loop that adds written types
pub with_types-turn : {X : Type 0} (F : X → Written) (old new : WrittenTypes) (w : Written) (xs : List X) (i : ℕ) (x : X) → i < length xs → x ≡ get_or xs i x → w ≡ F x → new ≡ with_types old (w ∷ [])
    → with_types new (map F (drop (i + 1) xs)) ≡ with_types old (map F (drop i xs))
with_types-turn F old new w xs i x within is made more =
    ap (λ l. with_types l (map F (drop (i + 1) xs))) (more ∙ ap (λ v. with_types old (v ∷ [])) made)
    ∙ with_types-more old (F x) (map F (drop (i + 1) xs))
    ∙ ap (λ l. with_types old (map F l)) (sym (first_left xs i x within is))

-- where nothing is left of it
pub with_types-end : {X : Type 0} (F : X → Written) (now whole : WrittenTypes) (xs : List X) (i : ℕ) → length xs ≤ i → with_types now (map F (drop i xs)) ≡ whole → now ≡ whole
with_types-end F now whole xs i l e = sym (ap (λ ys. with_types now (map F ys)) (drop_all i xs l) ∙ with_types-none now) ∙ e

pub ruleset behinds = (with_types-none, with_types-more, with_types-first)
