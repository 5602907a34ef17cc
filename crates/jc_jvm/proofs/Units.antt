-- Units of values.
use Rattle.std.proofs.Common.{◌≡◌, ◌≤◌, ◌+◌, ◌-◌, ℕ, List, [], ◌∷◌, ◌++◌, length, reverse, take, drop, arith, ◌∙◌, sym, ap}
use Rattle.std.proofs.Math.Seq.{take-append_seam}
use Rattle.std.proofs.lemmas.List.{drop-drop, length-drop, length-reverse, reverse-append, reverse-reverse, take-append-drop, take_rest}
use Rattle.std.specs.Prelude.{MatchOption}
use Rattle.std.specs.declared.option.Option.{Option}
use Rattle.std.specs.declared.option.Option.TheVariants.{Some, None}
use Rattle.jc_jvm.specs.declared.value.Value.{Value}
use Rattle.jc_jvm.specs.declared.value.Value.TheVariants.{Whole, Long, Address, NullValue}
use Rattle.jc_jvm.specs.Stacked.{units_of, units_in}

pub has_a_unit : (v : Value) → 1 ≤ units_of v
has_a_unit (Whole n) = omega arith
has_a_unit (Long n) = omega arith
has_a_unit (Address at) = omega arith
has_a_unit NullValue = omega arith

-- there are at most as many values as units
length_le : (vs : List Value) → length vs ≤ units_in vs
length_le [] = omega arith
length_le (v ∷ vs) = omega (arith, has_a_unit v, length_le vs)

pub length_le_units : (vs : List Value) → length vs ≤ units_in (reverse vs)
length_le_units vs = omega (arith, length_le (reverse vs), length-reverse vs)

-- one value more
pub reverse_more : (vs : List Value) (v : Value) → reverse (vs ++ v ∷ []) ≡ v ∷ reverse vs
reverse_more vs v = reverse-append vs (v ∷ [])

-- the values on top of a stack, the topmost one last
pub last_values : (vs : List Value) (count : ℕ) → count ≤ length vs → reverse (take count (reverse vs)) ≡ drop (length vs - count) vs
last_values vs count h =
    let k = length vs - count in
    let back = reverse (drop k vs) in
    let front = reverse (take k vs) in
    let split : reverse vs ≡ back ++ front = ap reverse (sym (take-append-drop k vs)) ∙ reverse-append (take k vs) (drop k vs) in
    let long : count ≡ length back = omega (arith, length-reverse (drop k vs), length-drop k vs) in
    let first : take count (reverse vs) ≡ back = ap (λ (xs : List Value). take count xs) split ∙ ap (λ (n : ℕ). take n (back ++ front)) long ∙ take-append_seam back front in
    ap reverse first ∙ reverse-reverse (drop k vs)

-- the same, where the stack is seen as a list from the top
pub last_of_stack : (vs items values : List Value) (count : ℕ) → vs ≡ items → reverse items ≡ values → count ≤ length vs →
    (take (length vs - (length vs - count)) (drop (length vs - count) vs) ≡ reverse (take count values)) × (count ≤ length values)
last_of_stack vs items values count is seen h =
    let same : reverse vs ≡ values = ap reverse is ∙ seen in
    (take_rest vs (length vs - count) ∙ sym (last_values vs count h) ∙ ap (λ (xs : List Value). reverse (take count xs)) same, omega (arith, length-reverse vs, ap length same))

drop_next : (xs : List Value) (i : ℕ) → drop 1 (drop i xs) ≡ drop (i + 1) xs
drop_next xs i = drop-drop 1 i xs

-- what is left on a stack where one value more is taken
pub taken_away : (xs before after : List Value) (i : ℕ) (o : Option Value) → before ≡ drop i xs → MatchOption o ((before ≡ []) × (after ≡ [])) (λ top. before ≡ top ∷ after) → after ≡ drop (i + 1) xs
taken_away xs before after i (Some v) is h = ap (λ (vs : List Value). drop 1 vs) (sym h ∙ is) ∙ drop_next xs i
taken_away xs before after i None is h = h.1 ∙ ap (λ (vs : List Value). drop 1 vs) (sym h.0 ∙ is) ∙ drop_next xs i
