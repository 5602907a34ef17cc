-- The loop over the texts of the library, turn by turn.
use Rattle.std.proofs.Common.{◌≡◌, ℕ, ◌+◌, ◌<◌, ◌≤◌, List, [], ◌∷◌, ◌++◌, length, map, drop, get_or, refl, sym, ap, subst, inl, inr, append_assoc}
use Rattle.std.proofs.lemmas.List.{drop_all, drop_more, append-nil}
use Rattle.jc_rules.specs.declared.rule.Refusal.{Refusal}
use Rattle.jc_rules.specs.declared.stop.Stop.{Stop}
use Rattle.jc_rules.specs.declared.stop.Stop.TheVariants as stop_of
use Rattle.jc_tree.specs.declared.statement.SourceFile.{SourceFile}
use Rattle.jc_declares.specs.declared.unit.SourceUnit.{SourceUnit}
use Rattle.jc_front.specs.Library.{AreUnitsOf, BreaksIn, HasTree, IsTextStop}

-- so many bytes stand before what is left, and what is left decides
pub record Goes (texts : List (List ℕ)) (left : List (List ℕ)) (before : ℕ) (units : List SourceUnit) : Type 0 where
  pub more : (rest : List SourceUnit) → AreUnitsOf before left rest → AreUnitsOf 0 texts (units ++ rest)
  pub breaks : (refused : Refusal) → BreaksIn before left refused → BreaksIn 0 texts refused

pub goes : (texts : List (List ℕ)) → Goes texts texts 0 []
goes texts = record { more = λ rest h. h; breaks = λ refused b. b }

pub goes_on : (texts : List (List ℕ)) (text : List ℕ) (left : List (List ℕ)) (before : ℕ) (units : List SourceUnit) (tree : SourceFile) → Goes texts (text ∷ left) before units → HasTree before text tree →
    Goes texts left (before + length text) (units ++ (record { file = 0; unit = tree } ∷ []))
goes_on texts text left before units tree g h =
    record {
      more = λ rest r. subst (λ (us : List SourceUnit). AreUnitsOf 0 texts us) (sym (append_assoc units (record { file = 0; unit = tree } ∷ []) rest)) (g.more (record { file = 0; unit = tree } ∷ rest) (refl, h, r));
      breaks = λ refused b. g.breaks refused (inr ((tree, h), b));
    }

abbrev pub StopsIn : List (List ℕ) → Stop Refusal → Type 0
StopsIn texts (stop_of.Refused refused) = BreaksIn 0 texts refused
StopsIn texts stop_of.WantOfMemory = Unit {0}

pub stops : (texts : List (List ℕ)) (text : List ℕ) (left : List (List ℕ)) (before : ℕ) (units : List SourceUnit) (stop : Stop Refusal) → Goes texts (text ∷ left) before units → IsTextStop before text stop → StopsIn texts stop
stops texts text left before units (stop_of.Refused refused) g b = g.breaks refused (inl b)
stops texts text left before units stop_of.WantOfMemory g b = tt

-- ---- what is left of a list of texts

left_from : {X : Type 0} (f : X → List ℕ) (xs : List X) (i : ℕ) (d : X) → i < length xs → map f (drop i xs) ≡ f (get_or xs i d) ∷ map f (drop (i + 1) xs)
left_from f xs i d l = ap (map f) (drop_more xs i d l)

pub goes_next : {X : Type 0} (f : X → List ℕ) (texts : List (List ℕ)) (xs : List X) (i before : ℕ) (d : X) (units more : List SourceUnit) (tree : SourceFile) → i < length xs → Goes texts (map f (drop i xs)) before units → HasTree before (f (get_or xs i d)) tree →
    more ≡ units ++ (record { file = 0; unit = tree } ∷ []) → Goes texts (map f (drop (i + 1) xs)) (before + length (f (get_or xs i d))) more
goes_next f texts xs i before d units more tree l g h is =
    let here : Goes texts (f (get_or xs i d) ∷ map f (drop (i + 1) xs)) before units = subst (λ (ts : List (List ℕ)). Goes texts ts before units) (left_from f xs i d l) g in
    subst (λ (us : List SourceUnit). Goes texts (map f (drop (i + 1) xs)) (before + length (f (get_or xs i d))) us) (sym is) (goes_on texts (f (get_or xs i d)) (map f (drop (i + 1) xs)) before units tree here h)

pub stops_here : {X : Type 0} (f : X → List ℕ) (texts : List (List ℕ)) (xs : List X) (i before : ℕ) (d : X) (units : List SourceUnit) (stop : Stop Refusal) → i < length xs → Goes texts (map f (drop i xs)) before units → IsTextStop before (f (get_or xs i d)) stop → StopsIn texts stop
stops_here f texts xs i before d units stop l g s =
    stops texts (f (get_or xs i d)) (map f (drop (i + 1) xs)) before units stop (subst (λ (ts : List (List ℕ)). Goes texts ts before units) (left_from f xs i d l) g) s

pub ends : {X : Type 0} (f : X → List ℕ) (texts : List (List ℕ)) (xs : List X) (i before : ℕ) (units : List SourceUnit) → length xs ≤ i → Goes texts (map f (drop i xs)) before units → AreUnitsOf 0 texts units
ends f texts xs i before units l g =
    let none : drop i xs ≡ [] = drop_all i xs l in
    let here : Goes texts [] before units = subst (λ ys. Goes texts (map f ys) before units) none g in
    subst (λ (us : List SourceUnit). AreUnitsOf 0 texts us) (append-nil units) (here.more [] tt)
