-- A part of a text, read alone.
use Rattle.std.proofs.Common.{◌≡◌, ℕ, zero, suc, ◌+◌, ◌<◌, ◌≤◌, min, Bool, true, false, cond, List, [], ◌∷◌, length, take, refl, sym, ap, ◌∙◌, arith}
use Rattle.std.specs.Prelude.{◌==◌, slice_get, option_map, unwrap_or}
use Rattle.std.proofs.lemmas.List.{length-take}
use Rattle.std.proofs.lemmas.Option.{slice_get_past}
use Rattle.jc_lexer.specs.declared.symbol.Class.{Class}
use Rattle.jc_lexer.specs.declared.symbol.Symbol.{Symbol}
use Rattle.jc_lexer.specs.declared.symbol.TheConstants.{END}
use Rattle.jc_lexer.specs.Symbols.{code_at, passes, run_length}

-- what a test leaves

pub no : {A : Type 0} (b : Bool) (x y : A) → b ≡ false → cond b x y ≡ y
no true x y e = absurd (let f : true ≡ false = e in cc)
no false x y e = refl

pub yes : {A : Type 0} (b : Bool) (x y : A) → b ≡ true → cond b x y ≡ x
yes true x y e = refl
yes false x y e = absurd (let f : false ≡ true = e in cc)

get_take : (n k : ℕ) (a : List Symbol) → k < n → slice_get (take n a) k ≡ slice_get a k
get_take zero k a l = absurd (omega arith)
get_take (suc n) k [] l = refl
get_take (suc n) zero (s ∷ a) l = refl
get_take (suc n) (suc k) (s ∷ a) l = get_take n k a (omega arith)

-- inside of a part stands what stands in the text, and behind it nothing

pub code_take : (n k : ℕ) (a : List Symbol) → k < n → code_at (take n a) k ≡ code_at a k
code_take n k a l = ap (λ o. unwrap_or (option_map (λ (s : Symbol). s.code) o) END) (get_take n k a l)

pub code_past : (a : List Symbol) (k : ℕ) → length a ≤ k → code_at a k ≡ END
code_past a k l = ap (λ o. unwrap_or (option_map (λ (s : Symbol). s.code) o) END) (slice_get_past a k l)

pub code_end : (n : ℕ) (a : List Symbol) → code_at (take n a) n ≡ END
code_end n a = code_past (take n a) n (let e : length (take n a) ≡ min n (length a) = length-take n a in omega (arith, e))

-- texts that begin alike have the same codes there
pub code_alike : (n k : ℕ) (a u : List Symbol) → take n u ≡ take n a → k < n → code_at u k ≡ code_at a k
code_alike n k a u e l = sym (code_take n k u l) ∙ (ap (λ (t : List Symbol). code_at t k) e ∙ code_take n k a l)

one_more : (b : Bool) (n k : ℕ) → b ≡ true → n ≡ k → cond b (1 + n) 0 ≡ suc k
one_more true n k e q = omega (arith, q)
one_more false n k e q = absurd (let f : false ≡ true = e in cc)

is_passed : (b : Bool) (n k : ℕ) → cond b (1 + n) 0 ≡ suc k → (b ≡ true) × (n ≡ k)
is_passed true n k e = (refl, omega (arith, e))
is_passed false n k e = absurd (omega (arith, e))

-- a run that begins alike and ends at the same place is as long
pub run_alike : (class : Class) (k : ℕ) (a u : List Symbol) → run_length class a ≡ k → take k u ≡ take k a → passes class (code_at u k) ≡ false → run_length class u ≡ k
run_alike c zero a [] e t f = refl
run_alike c zero a (d ∷ u) e t f = no _ _ _ f
run_alike c (suc k) [] u e t f = absurd (omega (arith, e))
run_alike c (suc k) (s ∷ a) [] e t f = absurd (let g : [] ≡ s ∷ take k a = t in cc)
run_alike c (suc k) (s ∷ a) (d ∷ u) e t f =
    let g : d ∷ take k u ≡ s ∷ take k a = t in
    let same : d ≡ s = cc in
    let more : take k u ≡ take k a = cc in
    let p = is_passed (passes c s.code) (run_length c a) k e in
    one_more (passes c d.code) (run_length c u) k (ap (λ (x : Symbol). passes c x.code) same ∙ p.0) (run_alike c k a u p.1 more f)

-- where a text has a code it goes on
pub there : (a : List Symbol) (k : ℕ) → (code_at a k == END) ≡ false → k < length a
there [] k e = absurd (let f : (END == END) ≡ false = ap (λ (c : ℕ). c == END) (sym (code_past [] k (omega arith))) ∙ e in cc)
there (s ∷ a) zero e = omega arith
there (s ∷ a) (suc k) e = let l = there a k e in omega (arith, l)
