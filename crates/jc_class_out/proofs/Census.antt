-- Counting the constants that a class uses.
use Rattle.std.proofs.Common.{◌≡◌, ◌<◌, ◌≤◌, ◌^◌, ℕ, zero, suc, ◌+◌, ◌-◌, Bool, true, false, cond, List, [], ◌∷◌, ◌++◌, length, take, min, refl, sym, ap, ◌∙◌, append_assoc, arith}
use Rattle.std.specs.Prelude.{◌&&◌, ◌||◌, nat_lt}
use Rattle.std.specs.List.{list_all}
use Rattle.std.proofs.lemmas.List.{length-append, append-nil, take_at}
use Rattle.jc_rules.proofs.Truths.{or_none, and_assoc, and_all, or_assoc}
use Rattle.jc_class_out.specs.declared.model.ClassModel.{ClassModel}
use Rattle.jc_class_out.specs.Pool.{Known}
use Rattle.jc_class_out.specs.Spelling.{Told, same_known, has, add, adds, uses}
use Rattle.jc_class_out.specs.Fitting.{known_fits, places}
use Rattle.jc_class_out.specs.FinderSees.{FinderSees, CensusSees}
use Rattle.jc_class_out.proofs.Known.{has_pool}
use Rattle.jc_class_out.proofs.FileAgain.{adds_append}

-- ---- checking and plain counting

pub told_checks : {S : Type 0} (view : S → Bool) (s t : S) (us : List Known) → Told (λ (x : S) (k : Known) (y : S). view y ≡ (view x && known_fits k)) s us t → view t ≡ (view s && list_all known_fits us)
told_checks view s t [] h = ap view (sym h) ∙ sym (and_all (view s))
told_checks view s t (u ∷ us) h = told_checks view h.0 t us h.2 ∙ ap (λ (b : Bool). b && list_all known_fits us) h.1 ∙ and_assoc (view s) (known_fits u) (list_all known_fits us)

pub told_counts : {S : Type 0} (view : S → ℕ) (s t : S) (us : List Known) → view s ≤ 65535 → Told (λ (x : S) (k : Known) (y : S). view y ≡ min (view x + 1) 65535) s us t → view t ≡ min (view s + length us) 65535
told_counts view s t [] le h = let e : view t ≡ view s = ap view (sym h) in omega (arith, e, le)
told_counts view s t (u ∷ us) le h =
    let e : view h.0 ≡ min (view s + 1) 65535 = h.1 in
    let ih = told_counts view h.0 t us (omega (arith, e)) h.2 in
    omega (arith, e, ih, le)

-- ---- looking among the first

-- one more of which the first is this
has_take : (us : List Known) (u wanted : Known) (left : ℕ) → has (take left (u ∷ us)) wanted ≡ ((nat_lt 0 left && same_known wanted u) || has (take (left - 1) us) wanted)
unfolding has
has_take us u wanted zero = refl
has_take us u wanted (suc n) = let e : suc n - 1 ≡ n = omega arith in let t : nat_lt 0 (suc n) ≡ true = grind arith in rw (e, t) refl

has_nothing : (n : ℕ) (wanted : Known) → has (take n []) wanted ≡ false
unfolding has
has_nothing zero wanted = refl
has_nothing (suc n) wanted = refl

pub told_finds : {S : Type 0} (wanted : S → Known) (left : S → ℕ) (found : S → Bool) (s t : S) (us : List Known)
    → Told (λ (x : S) (k : Known) (y : S). FinderSees (wanted x) (left x) (found x) k (wanted y) (left y) (found y)) s us t → found t ≡ (found s || has (take (left s) us) (wanted s))
told_finds wanted left found s t [] h = ap found (sym h) ∙ sym (ap (λ (b : Bool). found s || b) (has_nothing (left s) (wanted s)) ∙ or_none (found s))
told_finds wanted left found s t (u ∷ us) h =
    let m = h.0 in
    let one = h.1 in
    let ih = told_finds wanted left found h.0 t us h.2 in
    let e : (found h.0 || has (take (left h.0) us) (wanted h.0)) ≡ ((found s || (nat_lt 0 (left s) && same_known (wanted s) u)) || has (take (left s - 1) us) (wanted s)) = rw (one.finds, one.fewer, one.same) refl in
    ih ∙ e ∙ or_assoc (found s) (nat_lt 0 (left s) && same_known (wanted s) u) (has (take (left s - 1) us) (wanted s)) ∙ ap (λ (b : Bool). found s || b) (sym (has_take us u (wanted s) (left s)))

-- ---- places

length_add : (p : List Known) (k : Known) (b : Bool) → length (cond b p (p ++ k ∷ [])) ≡ cond b (length p) (length p + 1)
length_add p k true = refl
length_add p k false = length-append p (k ∷ [])

places_push : (us : List Known) (k : Known) → places (us ++ k ∷ []) ≡ cond (has us k) (places us) (places us + 1)
unfolding adds
places_push us k = rw (adds_append [] us (k ∷ []), has_pool us k) (length_add (adds [] us) k (has us k))

longer_one : (p : List Known) (k : Known) (b : Bool) → length (cond b p (p ++ k ∷ [])) ≤ length p + 1
longer_one p k true = omega arith
longer_one p k false = omega (arith, length-append p (k ∷ []))

longer : (p us : List Known) → length (adds p us) ≤ length p + length us
unfolding adds
longer p [] = omega arith
longer p (k ∷ ks) = omega (arith, longer_one p k (has p k), longer (add p k) ks)

-- no more places than uses
pub places_few : (us : List Known) → places us ≤ length us
places_few us = omega (arith, longer [] us)

cond_few : (b : Bool) (n limit m : ℕ) → n ≤ limit → m ≤ limit → cond b n (n + 1) ≡ m → m ≡ cond b n (min (n + 1) limit)
cond_few true n limit m le lt e = sym e
cond_few false n limit m le lt e = omega (arith, e, lt)

-- the constants are counted in order, each compared with those before it
pub told_census : {S : Type 0} (class : S → ClassModel) (at count : S → ℕ) (c : ClassModel) (s t : S) (front us rest : List Known)
    → uses c ≡ front ++ (us ++ rest) → length (uses c) < 2 ^ 63 → class s ≡ c → at s ≡ length front → count s ≡ places front
    → Told (λ (x : S) (k : Known) (y : S). CensusSees (class x) (at x) (count x) k (class y) (at y) (count y)) s us t → count t ≡ places (front ++ us)
told_census class at count c s t front [] rest e few is place counted h = ap count (sym h) ∙ counted ∙ ap places (sym (append-nil front))
told_census class at count c s t front (u ∷ us) rest e few is place counted h =
    let one = h.1 in
    let short : length front + 1 ≤ length (uses c) = omega (arith, ap length e, length-append front (u ∷ (us ++ rest))) in
    let before : take (at s) (uses (class s)) ≡ front = rw (is, place, e) (take_at front (u ∷ (us ++ rest)) (length front) refl) in
    let next : count h.0 ≡ cond (has front u) (count s) (min (count s + 1) (2 ^ 64 - 1)) = one.counts ∙ ap (λ (x : List Known). cond (has x u) (count s) (min (count s + 1) (2 ^ 64 - 1))) before in
    let now : count h.0 ≡ places (front ++ u ∷ []) =
    next ∙ sym (cond_few (has front u) (count s) (2 ^ 64 - 1) (places (front ++ u ∷ [])) (omega (arith, counted, places_few front, short, few)) (omega (arith, places_few (front ++ u ∷ []), length-append front (u ∷ []), short, few)) (rw counted (sym (places_push front u)))) in
    let on : at h.0 ≡ length (front ++ u ∷ []) = omega (arith, one.on, place, length-append front (u ∷ []), short, few) in
    let split : uses c ≡ (front ++ u ∷ []) ++ (us ++ rest) = e ∙ sym (append_assoc front (u ∷ []) (us ++ rest)) in
    told_census class at count c h.0 t (front ++ u ∷ []) us rest split few (one.same ∙ is) on now h.2 ∙ ap places (append_assoc front (u ∷ []) us)
