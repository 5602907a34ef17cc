-- Arrays of arrays, as a loop makes them.
use Rattle.std.proofs.Common.{◌≡◌, ◌<◌, ◌≤◌, ◌+◌, ◌-◌, ◌*◌, ℕ, zero, suc, List, [], ◌∷◌, ◌++◌, length, drop, get_or, refl, sym, ap, ◌∙◌, arith, append_assoc, length-append}
use Rattle.std.proofs.lemmas.List.{append-nil}
use Rattle.jc_jvm.specs.Objects.{arrays_within, addresses, cells_of, nest, nested}
use Rattle.jc_jvm.specs.Types.{shallower}
use Rattle.jc_jvm.specs.Worlds.{zeros}
use Rattle.jc_jvm.specs.declared.cells.Cell.{Cell}
use Rattle.jc_jvm.specs.declared.cells.Cell.TheVariants.{Array}
use Rattle.jc_jvm.specs.declared.value.Shape.{Shape}

pub arrays-nil : arrays_within [] ≡ 0
unfolding arrays_within
arrays-nil = refl

pub arrays-cons : (n : ℕ) (rest : List ℕ) → arrays_within (n ∷ rest) ≡ 1 + n * arrays_within rest
unfolding arrays_within
arrays-cons n rest = refl

pub nest-nil : (of : Shape) (at : ℕ) → nest [] of at ≡ []
unfolding nest
nest-nil of at = refl

pub nest-cons : (n : ℕ) (rest : List ℕ) (of : Shape) (at : ℕ) → nest (n ∷ rest) of at ≡ nested of n rest at (nest rest (shallower of))
unfolding nest
nest-cons n rest of at = refl

length-cells : (n far at : ℕ) (inner : ℕ → List Cell) → ((a : ℕ) → length (inner a) ≡ far) → length (cells_of n far at inner) ≡ n * far
length-cells zero far at inner each = let e : 0 ≡ 0 * far = omega arith in e
length-cells (suc n) far at inner each =
    let rest : length (cells_of n far (at + far) inner) ≡ n * far = length-cells n far (at + far) inner each in
    let e : far + n * far ≡ suc n * far = grind arith in
    length-append (inner at) (cells_of n far (at + far) inner) ∙ ap (λ (m : ℕ). m + length (cells_of n far (at + far) inner)) (each at) ∙ ap (λ (m : ℕ). far + m) rest ∙ e

one_and : (n far k : ℕ) (inner : List Cell) (c : Cell) → length inner ≡ n * far → k ≡ 1 + n * far → length (c ∷ inner) ≡ k
one_and n far k inner c e is = let long : length inner ≡ n * far = e in omega (arith, is, long)

length-nested : (n : ℕ) (rest : List ℕ) (of : Shape) (at : ℕ) (inner : ℕ → List Cell) → ((a : ℕ) → length (inner a) ≡ arrays_within rest) → length (nested of n rest at inner) ≡ arrays_within (n ∷ rest)
length-nested n [] of at inner each =
    let e : 1 ≡ 1 + n * 0 = grind arith in
    e ∙ ap (λ (m : ℕ). 1 + n * m) (sym arrays-nil) ∙ sym (arrays-cons n [])
length-nested n (m ∷ more) of at inner each =
    one_and n (arrays_within (m ∷ more)) (arrays_within (n ∷ m ∷ more)) (cells_of n (arrays_within (m ∷ more)) (at + 1) inner) (Array of (addresses n (arrays_within (m ∷ more)) (at + 1))) (length-cells n (arrays_within (m ∷ more)) (at + 1) inner each) (arrays-cons n (m ∷ more))

pub length-nest : (ls : List ℕ) (of : Shape) (at : ℕ) → length (nest ls of at) ≡ arrays_within ls
length-nest [] of at = ap (λ (cells : List Cell). length cells) (nest-nil of at) ∙ sym arrays-nil
length-nest (n ∷ rest) of at =
    ap (λ (cells : List Cell). length cells) (nest-cons n rest of at)
    ∙ length-nested n rest of at (nest rest (shallower of)) (λ a. length-nest rest (shallower of) a)

-- ---- the lengths as a loop sees them

pub nest_nothing : (heap : List Cell) (ls : List ℕ) (of : Shape) (at : ℕ) → length ls < 1 → heap ≡ heap ++ nest ls of at
nest_nothing heap [] of at few = sym (ap (λ (cells : List Cell). heap ++ cells) (nest-nil of at) ∙ append-nil heap)
nest_nothing heap (n ∷ rest) of at few = absurd (omega arith)

pub nest_last : (heap : List Cell) (ls : List ℕ) (of : Shape) (at : ℕ) → length ls ≡ 1 → heap ++ Array of (zeros of (get_or ls 0 0)) ∷ [] ≡ heap ++ nest ls of at
nest_last heap [] of at one = absurd (omega arith)
nest_last heap (n ∷ []) of at one = ap (λ (cells : List Cell). heap ++ cells) (sym (nest-cons n [] of at))
nest_last heap (n ∷ m ∷ rest) of at one = absurd (omega arith)

-- before the first inner array is made
pub nest_begins : (heap after : List Cell) (ls rest : List ℕ) (of inner : Shape) (far n m : ℕ) → m ≡ n → 2 ≤ length ls → rest ≡ drop 1 ls → n ≡ get_or ls 0 0 → far ≡ arrays_within rest → inner ≡ shallower of →
    after ≡ heap ++ Array of (addresses n far (length heap + 1)) ∷ [] → after ++ cells_of m (arrays_within rest) (length after) (nest rest inner) ≡ heap ++ nest ls of (length heap)
nest_begins heap after [] rest of inner far n m all two is first count less made = absurd (omega arith)
nest_begins heap after (k ∷ []) rest of inner far n m all two is first count less made = absurd (omega arith)
nest_begins heap after (k ∷ j ∷ more) rest of inner far n m all two is first count less made =
    let ends : length after ≡ length heap + 1 = ap (λ (cells : List Cell). length cells) made ∙ length-append heap (Array of (addresses n far (length heap + 1)) ∷ []) in
    ap (λ (c : ℕ). after ++ cells_of c (arrays_within rest) (length after) (nest rest inner)) all
    ∙ ap (λ (a : ℕ). after ++ cells_of n (arrays_within rest) a (nest rest inner)) ends
    ∙ ap (λ (cells : List Cell). cells ++ cells_of n (arrays_within rest) (length heap + 1) (nest rest inner)) made
    ∙ append_assoc heap (Array of (addresses n far (length heap + 1)) ∷ []) (cells_of n (arrays_within rest) (length heap + 1) (nest rest inner))
    ∙ ap (λ (f : ℕ). heap ++ Array of (addresses n f (length heap + 1)) ∷ cells_of n (arrays_within rest) (length heap + 1) (nest rest inner)) count
    ∙ ap (λ (s : Shape). heap ++ Array of (addresses n (arrays_within rest) (length heap + 1)) ∷ cells_of n (arrays_within rest) (length heap + 1) (nest rest s)) less
    ∙ ap (λ (ls : List ℕ). heap ++ Array of (addresses n (arrays_within ls) (length heap + 1)) ∷ cells_of n (arrays_within ls) (length heap + 1) (nest ls (shallower of))) is
    ∙ ap (λ (c : ℕ). heap ++ Array of (addresses c (arrays_within (j ∷ more)) (length heap + 1)) ∷ cells_of c (arrays_within (j ∷ more)) (length heap + 1) (nest (j ∷ more) (shallower of))) first
    ∙ ap (λ (cells : List Cell). heap ++ cells) (sym (nest-cons k (j ∷ more) of (length heap)))

-- one inner array more
pub nest_more : (heap after whole : List Cell) (rest : List ℕ) (inner : Shape) (n i : ℕ) → i < n → after ≡ heap ++ nest rest inner (length heap) →
    heap ++ cells_of (n - i) (arrays_within rest) (length heap) (nest rest inner) ≡ whole → after ++ cells_of (n - (i + 1)) (arrays_within rest) (length after) (nest rest inner) ≡ whole
nest_more heap after whole rest inner n i below made so =
    let k : n - i ≡ suc (n - (i + 1)) = omega arith in
    let ends : length after ≡ length heap + arrays_within rest =
    ap (λ (cells : List Cell). length cells) made ∙ length-append heap (nest rest inner (length heap)) ∙ ap (λ (m : ℕ). length heap + m) (length-nest rest inner (length heap)) in
    ap (λ (a : ℕ). after ++ cells_of (n - (i + 1)) (arrays_within rest) a (nest rest inner)) ends
    ∙ ap (λ (cells : List Cell). cells ++ cells_of (n - (i + 1)) (arrays_within rest) (length heap + arrays_within rest) (nest rest inner)) made
    ∙ append_assoc heap (nest rest inner (length heap)) (cells_of (n - (i + 1)) (arrays_within rest) (length heap + arrays_within rest) (nest rest inner))
    ∙ ap (λ (m : ℕ). heap ++ cells_of m (arrays_within rest) (length heap) (nest rest inner)) (sym k)
    ∙ so

-- no inner array is to come
pub nest_over : (heap whole : List Cell) (rest : List ℕ) (inner : Shape) (m : ℕ) → m ≡ 0 → heap ++ cells_of m (arrays_within rest) (length heap) (nest rest inner) ≡ whole → heap ≡ whole
nest_over heap whole rest inner m none so =
    sym (append-nil heap) ∙ ap (λ (n : ℕ). heap ++ cells_of n (arrays_within rest) (length heap) (nest rest inner)) (sym none) ∙ so

pub ruleset nest_lemmas = (nest_nothing, nest_last, nest_begins, nest_more, nest_over)
