-- The supertypes that a class writes, one behind the other.
use Rattle.std.proofs.Common.{◌≡◌, ◌<◌, ◌+◌, ℕ, suc, add-one, drop, drop-cons, get_or, length, Bool, true, false, List, [], ◌∷◌, ◌++◌, Option, Some, None, slice_get, append_assoc, refl, sym, ap, ◌∙◌}
use Rattle.jc_declares.specs.declared.heads.ClassHead.{ClassHead}
use Rattle.jc_declares.specs.declared.heads.Heads.{Heads}
use Rattle.jc_declares.specs.declared.heads.Path.{Path}
use Rattle.jc_declares.specs.Heads.{supers_in, supers_of, round_of}
use Rattle.jc_declares.specs.Looking.{Meaning, AClass, AVariable, Look, Knowledge}
use Rattle.jc_declares.specs.Knowing.{meant_class, and_class, meant_in_head, written_supers, passed_by, passed_by_all, needs}
use Rattle.jc_looking.specs.Sights.{seen, sight_of, class_in}
use Rattle.jc_settling.specs.Supers.{superclass_in, interfaces_in, asks, before, behind}

pub supers_split : (o : Option ClassHead) → supers_in o ≡ superclass_in o ++ interfaces_in o
supers_split None = refl
supers_split (Some c) = refl

-- ---- needs

passed_joined : (H : Heads) (K : Knowledge) (c : ℕ) (ps qs : List Path) → passed_by_all H K c (ps ++ qs) ≡ passed_by_all H K c ps ++ passed_by_all H K c qs
passed_joined H K c [] qs = refl
passed_joined H K c (p ∷ ps) qs =
    ap (λ xs. passed_by H K c p ++ xs) (passed_joined H K c ps qs) ∙ sym (append_assoc (passed_by H K c p) (passed_by_all H K c ps) (passed_by_all H K c qs))

pub needs_joined : (H : Heads) (K : Knowledge) (c : ℕ)
    → needs H K c ≡ (round_of H c ++ passed_by_all H K c (superclass_in (slice_get H.classes c))) ++ passed_by_all H K c (interfaces_in (slice_get H.classes c))
needs_joined H K c =
    ap (λ ps. round_of H c ++ passed_by_all H K c ps) (supers_split (slice_get H.classes c))
    ∙ ap (λ xs. round_of H c ++ xs) (passed_joined H K c (superclass_in (slice_get H.classes c)) (interfaces_in (slice_get H.classes c)))
    ∙ sym (append_assoc (round_of H c) _ _)

-- ---- supertypes

one_meant : (ms : List Meaning) → meant_class ms ≡ class_in (sight_of ms)
one_meant [] = refl
one_meant (AClass c ∷ []) = refl
one_meant (AVariable v ∷ []) = refl
one_meant (AClass c ∷ n ∷ ms) = refl
one_meant (AVariable v ∷ n ∷ ms) = refl

asks_not : (ms : List Meaning) → asks (sight_of ms) ≡ false
asks_not [] = refl
asks_not (AClass c ∷ []) = refl
asks_not (AVariable v ∷ []) = refl
asks_not (AClass c ∷ n ∷ ms) = refl
asks_not (AVariable v ∷ n ∷ ms) = refl

pub stopped : (o : Look) (r : Option (List ℕ)) → asks (seen o) ≡ true → and_class o r ≡ None
stopped None r e = refl
stopped (Some ms) r e = let n : asks (sight_of ms) ≡ false = asks_not ms in cc

pub pushed : (o : Look) (r : Option (List ℕ)) (found : List ℕ) → asks (seen o) ≡ false → before found (and_class o r) ≡ before (found ++ class_in (seen o)) r
pushed None r found e = cc
pushed (Some ms) None found e = refl
pushed (Some ms) (Some cs) found e = ap Some (sym (append_assoc found (meant_class ms) cs) ∙ ap (λ xs. (found ++ xs) ++ cs) (one_meant ms))

abbrev both : Option (List ℕ) → Option (List ℕ) → Option (List ℕ)
both None b = None
both (Some xs) b = before xs b

and_both : (o : Look) (a b : Option (List ℕ)) → and_class o (both a b) ≡ both (and_class o a) b
and_both None a b = refl
and_both (Some ms) None b = refl
and_both (Some ms) (Some xs) None = refl
and_both (Some ms) (Some xs) (Some ys) = ap Some (sym (append_assoc (meant_class ms) xs ys))

written_joined : (H : Heads) (K : Knowledge) (c : ℕ) (ps qs : List Path) → written_supers H K c (ps ++ qs) ≡ both (written_supers H K c ps) (written_supers H K c qs)
written_joined H K c [] qs = none_found (written_supers H K c qs)
  where
    none_found : (b : Option (List ℕ)) → b ≡ before [] b
    none_found None = refl
    none_found (Some ys) = refl
written_joined H K c (p ∷ ps) qs = ap (and_class (meant_in_head H K c p)) (written_joined H K c ps qs) ∙ and_both (meant_in_head H K c p) (written_supers H K c ps) (written_supers H K c qs)

written_split : (H : Heads) (K : Knowledge) (c : ℕ)
    → written_supers H K c (supers_of H c) ≡ both (written_supers H K c (superclass_in (slice_get H.classes c))) (written_supers H K c (interfaces_in (slice_get H.classes c)))
written_split H K c =
    ap (written_supers H K c) (supers_split (slice_get H.classes c)) ∙ written_joined H K c (superclass_in (slice_get H.classes c)) (interfaces_in (slice_get H.classes c))

at_first : (a b : Option (List ℕ)) (all : Bool) (xs : List ℕ) → behind all xs ≡ before [] a → both a b ≡ (let o : Option (List ℕ) = behind all xs in both o b)
at_first None b true xs e = cc
at_first None b false xs e = refl
at_first (Some ys) b true xs e = let f : xs ≡ ys = cc in ap (λ zs. before zs b) (sym f)
at_first (Some ys) b false xs e = cc

-- the supertypes behind the superclass, and behind the interfaces
pub after_first : (H : Heads) (K : Knowledge) (c : ℕ) (xs : List ℕ) → behind false xs ≡ before [] (written_supers H K c (superclass_in (slice_get H.classes c)))
    → written_supers H K c (supers_of H c) ≡ None
after_first H K c xs e = written_split H K c ∙ at_first _ _ false xs e

pub after_both : (H : Heads) (K : Knowledge) (c : ℕ) (all : Bool) (xs ys : List ℕ) → behind true xs ≡ before [] (written_supers H K c (superclass_in (slice_get H.classes c)))
    → behind all ys ≡ before xs (written_supers H K c (interfaces_in (slice_get H.classes c))) → written_supers H K c (supers_of H c) ≡ behind all ys
after_both H K c all xs ys e f = written_split H K c ∙ at_first _ _ true xs e ∙ sym f

-- ---- one name after the other

written_step : (H : Heads) (K : Knowledge) (c : ℕ) (ps : List Path) (i : ℕ) (p : Path) → i < length ps → p ≡ get_or ps i p
    → written_supers H K c (drop i ps) ≡ and_class (meant_in_head H K c p) (written_supers H K c (drop (i + 1) ps))
written_step H K c ps i p l e =
    rw (add-one, drop-cons ps i p) (ap (λ q. and_class (meant_in_head H K c q) (written_supers H K c (drop (suc i) ps))) (sym e))

pub supers_step : (H : Heads) (K : Knowledge) (c : ℕ) (ps : List Path) (i : ℕ) (p : Path) (found : List ℕ) → i < length ps → p ≡ get_or ps i p
    → asks (seen (meant_in_head H K c p)) ≡ false
    → before found (written_supers H K c (drop i ps)) ≡ before (found ++ class_in (seen (meant_in_head H K c p))) (written_supers H K c (drop (i + 1) ps))
supers_step H K c ps i p found l e a =
    ap (before found) (written_step H K c ps i p l e) ∙ pushed (meant_in_head H K c p) (written_supers H K c (drop (i + 1) ps)) found a
