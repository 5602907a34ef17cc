-- The constants of the buckets, counted one bucket after the other, are all of them.
use Rattle.std.proofs.Common.{◌≡◌, ◌<◌, ◌≤◌, ℕ, ◌+◌, ◌%◌, Bool, true, false, cond, ltb, eqb, List, [], ◌∷◌, ◌++◌, length, Option, Some, None, refl, sym, ap, subst, ◌∙◌, arith}
use lib.Dec.{leb}
use Rattle.std.specs.Prelude.{◌&&◌, ◌||◌, nat_lt}
use Rattle.std.specs.List.{filter}
use Rattle.std.proofs.lemmas.Bool.{ltb-true, ltb-false, lt-ltb, le-ltb, eqb-true, eqb-false, ne_eqb, leb-true, leb-false, le-leb, lt-leb}
use Rattle.std.proofs.lemmas.List.{length-append}
use Rattle.jc_rules.proofs.Truths.{or_none, not_both as clash}
use Rattle.jc_class_out.specs.Pool.{Known}
use Rattle.jc_class_out.specs.Spelling.{Told, has, add, adds, same_known}
use Rattle.jc_class_out.specs.Sifting.{spread, is_of, sift, sifted, SieveSees}
use Rattle.jc_class_out.specs.Fitting.{places}
use Rattle.jc_class_out.proofs.Known.{has_add, same_true}

-- ---- one bucket

no_fewer_by : (ks : List Known) (k : Known) (b : Bool) → length ks ≤ length (cond b ks (ks ++ k ∷ []))
no_fewer_by ks k true = omega arith
no_fewer_by ks k false = omega (arith, length-append ks (k ∷ []))

no_fewer : (ks us : List Known) → length ks ≤ length (adds ks us)
unfolding adds
no_fewer ks [] = omega arith
no_fewer ks (u ∷ us) = omega (arith, no_fewer_by ks u (has ks u), no_fewer (add ks u) us)

sift_more : (ks : List Known) (k : Known) (b : Bool) → length ks ≤ length (cond b (add ks k) ks)
sift_more ks k true = no_fewer_by ks k (has ks k)
sift_more ks k false = omega arith

sifted_more : (b : Option ℕ) (ks us : List Known) → length ks ≤ length (sifted b ks us)
unfolding sifted sift
sifted_more b ks [] = omega arith
sifted_more b ks (u ∷ us) = omega (arith, sift_more ks u (is_of b u && nat_lt (length ks) 1024), sifted_more b (sift b ks u) us)

kept_by : (b : Option ℕ) (ks us : List Known) (u : Known) (t : Bool) → ltb (length ks) 1024 ≡ true → adds (cond (t && ltb (length ks) 1024) (add ks u) ks) (filter (is_of b) us) ≡ adds ks (cond t (u ∷ filter (is_of b) us) (filter (is_of b) us))
unfolding adds
kept_by b ks us u true h = rw h refl
kept_by b ks us u false h = refl

-- with room left, all of the bucket were kept
pub kept_all : (b : Option ℕ) (ks us : List Known) → length (sifted b ks us) < 1024 → sifted b ks us ≡ adds ks (filter (is_of b) us)
unfolding sifted sift adds
kept_all b ks [] lt = refl
kept_all b ks (u ∷ us) lt =
    let fewer : length ks < 1024 = omega (arith, lt, sift_more ks u (is_of b u && nat_lt (length ks) 1024), sifted_more b (sift b ks u) us) in
    kept_all b (sift b ks u) us lt ∙ kept_by b ks us u (is_of b u) (lt-ltb (length ks) 1024 fewer)

full_by : (b : Option ℕ) (ks : List Known) (u : Known) (t h : Bool) → h ≡ false → cond (t && h) (add ks u) ks ≡ ks
full_by b ks u true true e = absurd cc
full_by b ks u true false e = refl
full_by b ks u false h e = refl

stays_full : (b : Option ℕ) (ks us : List Known) → 1024 ≤ length ks → sifted b ks us ≡ ks
unfolding sifted sift
stays_full b ks [] le = refl
stays_full b ks (u ∷ us) le =
    let e : sift b ks u ≡ ks = full_by b ks u (is_of b u) (ltb (length ks) 1024) (le-ltb (length ks) 1024 le) in
    ap (λ (x : List Known). sifted b x us) e ∙ stays_full b ks us le

no_more_by : (b : Option ℕ) (ks us : List Known) (u : Known) (t h : Bool) → ltb (length ks) 1024 ≡ h → ((xs : List Known) → length (sifted b xs us) ≤ length (adds xs (filter (is_of b) us)))
    → length (sifted b (cond (t && h) (add ks u) ks) us) ≤ length (adds ks (cond t (u ∷ filter (is_of b) us) (filter (is_of b) us)))
unfolding adds
no_more_by b ks us u true true e ih = ih (add ks u)
no_more_by b ks us u true false e ih = omega (arith, ap (length {A = Known}) (stays_full b ks us (ltb-false (length ks) 1024 e)), no_fewer ks (u ∷ filter (is_of b) us))
no_more_by b ks us u false h e ih = ih ks

-- no more were kept than there are
pub kept_few : (b : Option ℕ) (us ks : List Known) → length (sifted b ks us) ≤ length (adds ks (filter (is_of b) us))
unfolding sifted sift
kept_few b [] ks = no_fewer ks []
kept_few b (u ∷ us) ks = no_more_by b ks us u (is_of b u) (ltb (length ks) 1024) refl (λ xs. kept_few b us xs)

pub of_any : (us : List Known) → filter (is_of None) us ≡ us
of_any [] = refl
of_any (u ∷ us) = ap (λ (x : List Known). u ∷ x) (of_any us)

pub told_sieve : {S : Type 0} (bucket : S → Option ℕ) (kept : S → List Known) (s t : S) (us : List Known) → Told (λ (x : S) (k : Known) (y : S). SieveSees (bucket x) (kept x) k (bucket y) (kept y)) s us t → kept t ≡ sifted (bucket s) (kept s) us
unfolding sifted
told_sieve bucket kept s t [] h = ap kept (sym h)
told_sieve bucket kept s t (u ∷ us) h = told_sieve bucket kept h.0 t us h.2 ∙ (let one = h.1 in rw (one.same, one.kept) refl)

-- ---- all buckets

-- two pools hold what one pool holds
record Split (p q : Known → Bool) (ks ps qs : List Known) : Type 0 where
  size : length ks ≡ length ps + length qs
  first : (k : Known) → p k ≡ true → has ks k ≡ has ps k
  second : (k : Known) → q k ≡ true → has ks k ≡ has qs k

length_add : (ks : List Known) (k : Known) (b : Bool) → length (cond b ks (ks ++ k ∷ [])) ≡ cond b (length ks) (length ks + 1)
length_add ks k true = refl
length_add ks k false = length-append ks (k ∷ [])

other_by : (q : Known → Bool) (k u : Known) (b : Bool) → q k ≡ true → q u ≡ false → same_known k u ≡ b → b ≡ false
other_by q k u false h g e = refl
other_by q k u true h g e = absurd (clash (q u) (subst (λ (x : Known). q x ≡ true) (same_true k u e) h) g)

-- it isn't the same as one of another bucket
other : (q : Known → Bool) (k u : Known) → q k ≡ true → q u ≡ false → same_known k u ≡ false
other q k u h g = other_by q k u (same_known k u) h g refl

cond_more : (b : Bool) (n m : ℕ) → cond b (n + m) (n + m + 1) ≡ cond b n (n + 1) + m
cond_more true n m = refl
cond_more false n m = omega arith

split_first : (p q : Known → Bool) (ks ps qs : List Known) (u : Known) → Split p q ks ps qs → p u ≡ true → q u ≡ false → Split p q (add ks u) (add ps u) qs
split_first p q ks ps qs u s h g = record {
  size = length_add ks u (has ks u) ∙ rw (s.first u h, s.size) (cond_more (has ps u) (length ps) (length qs) ∙ ap (λ (x : ℕ). x + length qs) (sym (length_add ps u (has ps u))));
  first = λ k e. has_add ks u k ∙ ap (λ (b : Bool). b || same_known k u) (s.first k e) ∙ sym (has_add ps u k);
  second = λ k e. has_add ks u k ∙ ap (λ (b : Bool). has ks k || b) (other q k u e g) ∙ or_none (has ks k) ∙ s.second k e;
}

swapped : (p q : Known → Bool) (ks ps qs : List Known) → Split p q ks ps qs → Split q p ks qs ps
swapped p q ks ps qs s = record { size = omega (arith, s.size); first = s.second; second = s.first }

-- each constant is of the one, of the other, or of neither
record Apart (p q r : Known → Bool) : Type 0 where
  either : (k : Known) → r k ≡ (p k || q k)
  not_both : (k : Known) → p k ≡ true → q k ≡ false

counts_by : (p q r : Known → Bool) (us : List Known) (u : Known) (ks ps qs : List Known) (a b : Bool) → Apart p q r → p u ≡ a → q u ≡ b → Split p q ks ps qs
    → ((ks ps qs : List Known) → Split p q ks ps qs → length (adds ks (filter r us)) ≡ length (adds ps (filter p us)) + length (adds qs (filter q us)))
    → length (adds ks (cond (a || b) (u ∷ filter r us) (filter r us))) ≡ length (adds ps (cond a (u ∷ filter p us) (filter p us))) + length (adds qs (cond b (u ∷ filter q us) (filter q us)))
unfolding adds
counts_by p q r us u ks ps qs true true t e f s ih = absurd (clash (q u) f (t.not_both u e))
counts_by p q r us u ks ps qs true false t e f s ih = ih (add ks u) (add ps u) qs (split_first p q ks ps qs u s e f)
counts_by p q r us u ks ps qs false true t e f s ih = ih (add ks u) ps (add qs u) (swapped q p (add ks u) (add qs u) ps (split_first q p ks qs ps u (swapped p q ks ps qs s) f e))
counts_by p q r us u ks ps qs false false t e f s ih = ih ks ps qs s

counts : (p q r : Known → Bool) → Apart p q r → (us ks ps qs : List Known) → Split p q ks ps qs → length (adds ks (filter r us)) ≡ length (adds ps (filter p us)) + length (adds qs (filter q us))
unfolding adds
counts p q r t [] ks ps qs s = s.size
counts p q r t (u ∷ us) ks ps qs s =
    let ih = counts_by p q r us u ks ps qs (p u) (q u) t refl refl s (λ ks ps qs s. counts p q r t us ks ps qs s) in
    ap (λ (b : Bool). length (adds ks (cond b (u ∷ filter r us) (filter r us)))) (t.either u) ∙ ih

-- those of the first so many buckets
abbrev pub is_below : ℕ → Known → Bool
is_below b k = ltb (spread k % 128) b

below_or : (n b : ℕ) (c d : Bool) → ltb n b ≡ c → eqb n b ≡ d → ltb n (b + 1) ≡ (c || d)
below_or n b true d h e = let l = ltb-true n b h in lt-ltb n (b + 1) (omega (arith, l))
below_or n b false true h e = let q = eqb-true n b e in lt-ltb n (b + 1) (omega (arith, q))
below_or n b false false h e = let l = ltb-false n b h in let ne = eqb-false n b e in le-ltb n (b + 1) (omega (arith, l, ne))

apart : (b : ℕ) → Apart (is_below b) (is_of (Some b)) (is_below (b + 1))
apart b = record {
  either = λ k. below_or (spread k % 128) b (ltb (spread k % 128) b) (eqb (spread k % 128) b) refl refl;
  not_both = λ k h. let l = ltb-true (spread k % 128) b h in ne_eqb (spread k % 128) b (λ e. omega (arith, e, l));
}

none_split : (p q : Known → Bool) → Split p q [] [] []
none_split p q = record { size = refl; first = λ k h. refl; second = λ k h. refl }

pub next_bucket : (b : ℕ) (us : List Known) → places (filter (is_below (b + 1)) us) ≡ places (filter (is_below b) us) + places (filter (is_of (Some b)) us)
next_bucket b us = counts (is_below b) (is_of (Some b)) (is_below (b + 1)) (apart b) us [] [] [] (none_split (is_below b) (is_of (Some b)))

pub no_bucket : (us : List Known) → places (filter (is_below 0) us) ≡ 0
unfolding adds
no_bucket [] = refl
no_bucket (u ∷ us) = let e : ltb (spread u % 128) 0 ≡ false = le-ltb _ _ (omega arith) in rw e (no_bucket us)

pub each_bucket : (us : List Known) → filter (is_below 128) us ≡ us
each_bucket [] = refl
each_bucket (u ∷ us) = let e : ltb (spread u % 128) 128 ≡ true = lt-ltb _ _ (omega arith) in rw e (ap (λ (x : List Known). u ∷ x) (each_bucket us))

-- the count of a bucket that isn't full
pub bucket_whole : (b : ℕ) (us : List Known) (n : ℕ) → n ≡ length (sifted (Some b) [] us) → n < 1024 → n ≡ places (filter (is_of (Some b)) us)
bucket_whole b us n e lt = e ∙ ap (length {A = Known}) (kept_all (Some b) [] us (omega (arith, e, lt)))

few_by : (us : List Known) (n : ℕ) (b : Bool) → n ≡ length (sifted None [] us) → leb n 255 ≡ b → b ≡ leb (places us) 255
few_by us n true e h =
    let le = leb-true n 255 h in
    let whole : places (filter (is_of None) us) ≡ length (sifted None [] us) = ap (length {A = Known}) (sym (kept_all None [] us (omega (arith, e, le)))) in
    let same : places (filter (is_of None) us) ≡ places us = ap places (of_any us) in
    sym (le-leb (places us) 255 (omega (arith, le, e, whole, same)))
few_by us n false e h =
    let lt = leb-false n 255 h in
    let more = kept_few None us [] in
    let same : places (filter (is_of None) us) ≡ places us = ap places (of_any us) in
    sym (lt-leb (places us) 255 (omega (arith, lt, e, more, same)))

-- whether there are few, told by what was kept
pub few_sifted : (us : List Known) (n : ℕ) → n ≡ length (sifted None [] us) → leb n 255 ≡ leb (places us) 255
few_sifted us n e = few_by us n (leb n 255) e refl
