-- What is noted of inherited member types.
use Rattle.std.proofs.Common.{◌≡◌, ℕ, Bool, true, false, List, [], ◌∷◌, ◌++◌, Option, Some, None, refl, sym, ap, ◌∙◌}
use Rattle.std.specs.Prelude.{◌&&◌, ◌||◌, cond, if◌then◌else◌}
use Rattle.std.specs.Str.{bytes_eq}
use Rattle.jc_rules.proofs.Truths.{same_bytes}
use Rattle.jc_types.specs.Names.{named}
use Rattle.jc_declares.specs.Heads.{Named}
use Rattle.jc_declares.specs.Knowing.{is_some}
use Rattle.jc_declares.specs.Looking.{AClass, classes, all_named}
use Rattle.jc_name_index.specs.Spaces.{with_first}
use Rattle.jc_name_index.proofs.SpacesNoted.{or_next, named_joined, first_named}
use Rattle.jc_looking.specs.declared.scene.Sight.TheVariants as sight
use Rattle.jc_looking.specs.Sights.{sight_of, class_sight}
use Rattle.jc_looking.specs.Members.{is_repeated, AreNoted, with_repeated}

-- ---- what a name means

more_at : (b : Bool) (n : List ℕ) (c d : ℕ) (es : Named) → sight_of (AClass c ∷ classes (all_named n es)) ≡ cond (is_some (named n es)) sight.Several (sight.Class c)
    → sight_of (AClass c ∷ classes (cond b (d ∷ []) [] ++ all_named n es)) ≡ cond (is_some (if b then Some d else named n es)) sight.Several (sight.Class c)
more_at true n c d es h = refl
more_at false n c d es h = h

more : (n : List ℕ) (c : ℕ) (es : Named) → sight_of (AClass c ∷ classes (all_named n es)) ≡ cond (is_some (named n es)) sight.Several (sight.Class c)
more n c [] = refl
more n c (e ∷ es) = more_at (bytes_eq n e.0) n c e.1 es (more n c es)

repeated_at : (b r : Bool) (o : Option ℕ) (d : ℕ) → (is_some o || r) ≡ is_some o → (is_some (if b then Some d else o) || ((b && is_some o) || r)) ≡ is_some (if b then Some d else o)
repeated_at true r o d h = refl
repeated_at false r None d h = h
repeated_at false r (Some c) d h = refl

repeated_is_some : (n : List ℕ) (es : Named) → (is_some (named n es) || is_repeated n es) ≡ is_some (named n es)
repeated_is_some n [] = refl
repeated_is_some n (e ∷ es) = repeated_at (bytes_eq n e.0) (is_repeated n es) (named n es) e.1 (repeated_is_some n es)

sight_at : (b : Bool) (n : List ℕ) (d : ℕ) (es : Named) → sight_of (classes (all_named n es)) ≡ cond (is_repeated n es) sight.Several (class_sight (named n es))
    → sight_of (classes (cond b (d ∷ []) [] ++ all_named n es)) ≡ cond ((b && is_some (named n es)) || is_repeated n es) sight.Several (class_sight (if b then Some d else named n es))
sight_at true n d es h = more n d es ∙ ap (λ r. cond r sight.Several (sight.Class d)) (sym (repeated_is_some n es))
sight_at false n d es h = h

-- several classes of a name are ambiguous
pub sight_noted : (n : List ℕ) (es : Named) → sight_of (classes (all_named n es)) ≡ cond (is_repeated n es) sight.Several (class_sight (named n es))
sight_noted n [] = refl
sight_noted n (e ∷ es) = sight_at (bytes_eq n e.0) n e.1 es (sight_noted n es)

pub several_noted : (n : List ℕ) (es firsts repeated : Named) → AreNoted es firsts repeated → is_some (named n repeated) ≡ true → sight_of (classes (all_named n es)) ≡ sight.Several
several_noted n es firsts repeated a h =
    sight_noted n es ∙ ap (λ r. cond r sight.Several (class_sight (named n es))) (sym (a.again n) ∙ h)

pub first_noted : (n : List ℕ) (es firsts repeated : Named) → AreNoted es firsts repeated → is_some (named n repeated) ≡ false → sight_of (classes (all_named n es)) ≡ class_sight (named n firsts)
first_noted n es firsts repeated a h =
    sight_noted n es ∙ ap (λ r. cond r sight.Several (class_sight (named n es))) (sym (a.again n) ∙ h) ∙ ap class_sight (sym (a.first n))

-- ---- one more

some_or : (a b : Option ℕ) → is_some (or_next a b) ≡ (is_some a || is_some b)
some_or None b = refl
some_or (Some c) b = refl

repeats : (b s q r : Bool) → ((b && (s || q)) || (r || (q && s))) ≡ (((b && s) || r) || (q && (b || s)))
repeats true true true true = refl
repeats true true true false = refl
repeats true true false true = refl
repeats true true false false = refl
repeats true false true true = refl
repeats true false true false = refl
repeats true false false true = refl
repeats true false false false = refl
repeats false s q r = refl

some_if : (q : Bool) (c : ℕ) → is_some (if q then Some c else None) ≡ q
some_if true c = refl
some_if false c = refl

some_there : (b : Bool) (d : ℕ) (o : Option ℕ) → is_some (if b then Some d else o) ≡ (b || is_some o)
some_there true d o = refl
some_there false d o = refl

named_behind : (n m : List ℕ) (c : ℕ) (es : Named) → is_some (named n (es ++ (m, c) ∷ [])) ≡ (is_some (named n es) || bytes_eq n m)
named_behind n m c es = ap is_some (named_joined n es ((m, c) ∷ [])) ∙ some_or (named n es) _ ∙ ap (λ x. is_some (named n es) || x) (some_if (bytes_eq n m) c)

repeated_behind : (n m : List ℕ) (c : ℕ) (es : Named) → is_repeated n (es ++ (m, c) ∷ []) ≡ (is_repeated n es || (bytes_eq n m && is_some (named n es)))
repeated_behind n m c [] = none (bytes_eq n m)
  where
    none : (q : Bool) → ((q && false) || false) ≡ (q && false)
    none true = refl
    none false = refl
repeated_behind n m c (e ∷ es) =
    ap (λ x. (bytes_eq n e.0 && x) || is_repeated n (es ++ (m, c) ∷ [])) (named_behind n m c es)
    ∙ ap (λ x. (bytes_eq n e.0 && (is_some (named n es) || bytes_eq n m)) || x) (repeated_behind n m c es)
    ∙ repeats (bytes_eq n e.0) (is_some (named n es)) (bytes_eq n m) (is_repeated n es)
    ∙ ap (λ x. ((bytes_eq n e.0 && is_some (named n es)) || is_repeated n es) || (bytes_eq n m && x)) (sym (some_there (bytes_eq n e.0) e.1 (named n es)))

no_more : (q : Bool) (r : Bool) (o p : Option ℕ) → p ≡ None → (q ≡ true → o ≡ p) → r ≡ (r || (q && is_some o))
no_more true true o p e h = refl
no_more true false o p e h = ap is_some (sym (h refl ∙ e))
no_more false true o p e h = refl
no_more false false o p e h = refl

one_more : (q : Bool) (r : Bool) (o p : Option ℕ) (d : ℕ) → p ≡ Some d → (q ≡ true → o ≡ p) → (r || q) ≡ (r || (q && is_some o))
one_more true true o p d e h = refl
one_more true false o p d e h = ap is_some (sym (h refl ∙ e))
one_more false true o p d e h = refl
one_more false false o p d e h = refl

repeated_with : (o : Option ℕ) (n m : List ℕ) (c : ℕ) (es repeated : Named) → named m es ≡ o → is_some (named n repeated) ≡ is_repeated n es
    → is_some (named n (with_repeated o m c repeated)) ≡ (is_repeated n es || (bytes_eq n m && is_some (named n es)))
repeated_with None n m c es repeated e h =
    h ∙ no_more (bytes_eq n m) (is_repeated n es) (named n es) (named m es) e (λ q. ap (λ k. named k es) (same_bytes n m q))
repeated_with (Some d) n m c es repeated e h =
    ap is_some (first_named (named m repeated) n m c repeated refl) ∙ some_or (named n repeated) _
    ∙ ap (λ x. x || is_some (named n ((m, c) ∷ []))) h ∙ ap (λ x. is_repeated n es || x) (some_if (bytes_eq n m) c)
    ∙ one_more (bytes_eq n m) (is_repeated n es) (named n es) (named m es) d e (λ q. ap (λ k. named k es) (same_bytes n m q))

pub noted_with : (m : List ℕ) (c : ℕ) (es firsts repeated : Named) → AreNoted es firsts repeated
    → AreNoted (es ++ (m, c) ∷ []) (with_first m c firsts) (with_repeated (named m firsts) m c repeated)
noted_with m c es firsts repeated a = record {
  first = λ n. first_named (named m firsts) n m c firsts refl ∙ ap (λ o. or_next o (named n ((m, c) ∷ []))) (a.first n) ∙ sym (named_joined n es ((m, c) ∷ []));
  again = λ n. repeated_with (named m firsts) n m c es repeated (sym (a.first m)) (a.again n) ∙ sym (repeated_behind n m c es);
}
