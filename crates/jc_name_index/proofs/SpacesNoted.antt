-- What is found in a space after all of a list is noted.
use Rattle.std.proofs.Common.{◌≡◌, ◌≢◌, ◌<◌, ◌+◌, ◌-◌, length-set, length-append, replicate, ℕ, zero, suc, Bool, true, false, List, [], ◌∷◌, ◌++◌, Option, Some, None, length, slice_get, slice_set, refl, sym, ap, ◌∙◌, arith}
use Rattle.std.specs.Prelude.{cond, ◌==◌, if◌then◌else◌}
use Rattle.std.specs.Str.{bytes_eq}
use Rattle.std.proofs.lemmas.Grind.{common_steps}
use Rattle.std.proofs.lemmas.List.{get_or-set_same}
use Rattle.std.proofs.lemmas.Option.{slice_get-get_or}
use Rattle.jc_rules.proofs.Truths.{equal_numbers, same_bytes, other_numbers}
use Rattle.jc_types.specs.Names.{named}
use Rattle.jc_name_index.specs.Spaces.{Named, Noting, named_in, space_named, unless_named, with_first, padded, noted_in, noted_as, noted_all, picked_as, picked}

abbrev pub or_next : Option ℕ → Option ℕ → Option ℕ
or_next (Some q) r = Some q
or_next None r = r

named_joined_at : (b : Bool) (n : List ℕ) (p : ℕ) (xs ys : Named) → named n (xs ++ ys) ≡ or_next (named n xs) (named n ys) → (if b then Some p else named n (xs ++ ys)) ≡ or_next (if b then Some p else named n xs) (named n ys)
named_joined_at true n p xs ys h = refl
named_joined_at false n p xs ys h = h

pub named_joined : (n : List ℕ) (xs ys : Named) → named n (xs ++ ys) ≡ or_next (named n xs) (named n ys)
named_joined n [] ys = refl
named_joined n (x ∷ xs) ys = named_joined_at (bytes_eq n x.0) n x.1 xs ys (named_joined n xs ys)

pub or_assoc : (a b c : Option ℕ) → or_next (or_next a b) c ≡ or_next a (or_next b c)
or_assoc (Some q) b c = refl
or_assoc None b c = refl

pub or_none : (a : Option ℕ) → or_next a None ≡ a
or_none (Some q) = refl
or_none None = refl

-- ---- one note

named_here : (b : Bool) (n m : List ℕ) (i q : ℕ) (names : Named) → bytes_eq n m ≡ b → named m names ≡ Some q → (b ≡ true → n ≡ m)
    → named n names ≡ or_next (named n names) (if b then Some i else None)
named_here false n m i q names e f same = sym (or_none (named n names))
named_here true n m i q names e f same =
    let g : named n names ≡ Some q = ap (λ k. named k names) (same refl) ∙ f in
    g ∙ ap (λ o. or_next o (Some i)) (sym g)

pub first_named : (o : Option ℕ) (n m : List ℕ) (i : ℕ) (names : Named) → named m names ≡ o → named n (unless_named o m i names) ≡ or_next (named n names) (named n ((m, i) ∷ []))
first_named (Some q) n m i names f = named_here (bytes_eq n m) n m i q names refl f (λ e. same_bytes n m e)
first_named None n m i names f = named_joined n names ((m, i) ∷ [])

get_same : (T : List Named) (q : ℕ) (y : Named) → q < length T → slice_get (slice_set T q y) q ≡ Some y
get_same T q y l =
    let m : q < length (slice_set T q y) = grind (arith, common_steps, length-set) in
    slice_get-get_or (slice_set T q y) q y m ∙ ap Some (get_or-set_same T q y y l)

get_other : (T : List Named) (q s : ℕ) (y : Named) → s ≢ q → slice_get (slice_set T q y) s ≡ slice_get T s
get_other [] q s y ne = refl
get_other (x ∷ T) zero zero y ne = absurd (ne refl)
get_other (x ∷ T) zero (suc s) y ne = refl
get_other (x ∷ T) (suc q) zero y ne = refl
get_other (x ∷ T) (suc q) (suc s) y ne = get_other T q s y (λ e. ne (ap suc e))

noted_some : (b : Bool) (names : Named) (T : List Named) (q s i : ℕ) (m n : List ℕ) → (s == q) ≡ b → slice_get T q ≡ Some names → q < length T
    → named_in n (slice_get (slice_set T q (with_first m i names)) s) ≡ or_next (named_in n (slice_get T s)) (named n (cond b ((m, i) ∷ []) []))
noted_some true names T q s i m n e f l =
    let sq : s ≡ q = equal_numbers s q e in
    ap (λ k. named_in n (slice_get (slice_set T q (with_first m i names)) k)) sq ∙ ap (named_in n) (get_same T q (with_first m i names) l)
    ∙ first_named (named m names) n m i names refl
    ∙ ap (λ o. or_next o (named n ((m, i) ∷ []))) (sym (ap (λ k. named_in n (slice_get T k)) sq ∙ ap (named_in n) f))
noted_some false names T q s i m n e f l =
    ap (named_in n) (get_other T q s (with_first m i names) (other_numbers s q e)) ∙ sym (or_none (named_in n (slice_get T s)))

-- ---- spaces without a name behind them

pub empty_space : (k s : ℕ) (n : List ℕ) → named_in n (slice_get (replicate k (let l : Named = [] in l)) s) ≡ None
empty_space zero s n = refl
empty_space (suc k) zero n = refl
empty_space (suc k) (suc s) n = empty_space k s n

behind : (T : List Named) (k s : ℕ) (n : List ℕ) → named_in n (slice_get (T ++ replicate k (let l : Named = [] in l)) s) ≡ named_in n (slice_get T s)
behind [] k s n = empty_space k s n
behind (x ∷ T) k zero n = refl
behind (x ∷ T) k (suc s) n = behind T k s n

room : (T : List Named) (q : ℕ) → q < length (padded q T)
room T q =
    let a : length (padded q T) ≡ length T + length (replicate (suc q - length T) (let l : Named = [] in l)) = length-append T _ in
    let b : length (replicate (suc q - length T) (let l : Named = [] in l)) ≡ suc q - length T = grind (arith, common_steps) in
    omega arith

noted_space : (o : Option Named) (T : List Named) (q s i : ℕ) (m n : List ℕ) → slice_get T q ≡ o → q < length T
    → named_in n (slice_get (noted_in q m i T o) s) ≡ or_next (named_in n (slice_get T s)) (named n (cond (s == q) ((m, i) ∷ []) []))
noted_space None T q s i m n f l = absurd (none_some (sym f ∙ slice_get-get_or T q [] l))
  where
    none_some : {x : Named} → None ≡ Some x → ⊥
    none_some e = grind (arith, common_steps)
noted_space (Some names) T q s i m n f l = noted_some (s == q) names T q s i m n refl f l

-- ---- all of a list

as_named : (e : Option (ℕ × List ℕ)) (i : ℕ) (T : List Named) (s : ℕ) (n : List ℕ)
    → space_named (noted_as e i T) s n ≡ or_next (space_named T s n) (named n (picked_as s e i))
as_named None i T s n = sym (or_none (space_named T s n))
as_named (Some e) i T s n =
    noted_space (slice_get (padded e.0 T) e.0) (padded e.0 T) e.0 s i e.1 n refl (room T e.0)
    ∙ ap (λ o. or_next o (named n (picked_as s (Some e) i))) (behind T (suc e.0 - length T) s n)

-- in a space is found what was there, or else the first of what is noted there
pub all_named : {X : Type 0} (f : Noting X) (xs : List X) (i : ℕ) (T : List Named) (s : ℕ) (n : List ℕ)
    → space_named (noted_all f i xs T) s n ≡ or_next (space_named T s n) (named n (picked f s i xs))
all_named f [] i T s n = sym (or_none (space_named T s n))
all_named f (x ∷ xs) i T s n =
    all_named f xs (suc i) (noted_as (f x) i T) s n
    ∙ ap (λ o. or_next o (named n (picked f s (suc i) xs))) (as_named (f x) i T s n)
    ∙ or_assoc (space_named T s n) (named n (picked_as s (f x) i)) (named n (picked f s (suc i) xs))
    ∙ ap (or_next (space_named T s n)) (sym (named_joined n (picked_as s (f x) i) (picked f s (suc i) xs)))
