-- Lengths and addresses, one after the other.
use Rattle.std.proofs.Common.{◌≡◌, ◌<◌, ◌+◌, ◌-◌, ℕ, suc, false, List, [], ◌∷◌, ◌++◌, reverse, refl, sym, ap, ◌∙◌, arith, append_assoc}
use Rattle.std.specs.Prelude.{ℤ}
use Rattle.std.proofs.lemmas.List.{reverse-append}
use Rattle.std.specs.declared.option.Option.TheVariants.{None}
use Rattle.jc_jvm.specs.Objects.{addresses, lengths_on}
use Rattle.jc_jvm.specs.declared.value.Value.{Value}
use Rattle.jc_jvm.specs.declared.value.Value.TheVariants.{Whole, Long, Address, NullValue}
use Rattle.jc_nests.specs.Lengths.{has_length}

-- one address more
pub addresses_more : (items : List Value) (n i far at next : ℕ) → i < n → next ≡ at + far → (items ++ Address at ∷ []) ++ addresses (n - (i + 1)) far next ≡ items ++ addresses (n - i) far at
addresses_more items n i far at next below is =
    let k : n - i ≡ suc (n - (i + 1)) = omega arith in
    append_assoc items (Address at ∷ []) (addresses (n - (i + 1)) far next)
    ∙ ap (λ (a : ℕ). items ++ Address at ∷ addresses (n - (i + 1)) far a) is
    ∙ ap (λ (m : ℕ). items ++ addresses m far at) (sym k)

-- one length more
pub length_more : (found after : List ℤ) (values rest : List Value) (n i : ℕ) (length : ℤ) → i < n → values ≡ Whole length ∷ rest → after ≡ found ++ length ∷ [] →
    lengths_on (n - (i + 1)) (reverse after) rest ≡ lengths_on (n - i) (reverse found) values
length_more found after values rest n i length below is grown =
    let k : n - i ≡ suc (n - (i + 1)) = omega arith in
    ap (λ (xs : List ℤ). lengths_on (n - (i + 1)) (reverse xs) rest) grown
    ∙ ap (λ (xs : List ℤ). lengths_on (n - (i + 1)) xs rest) (reverse-append found (length ∷ []))
    ∙ ap (λ (vs : List Value). lengths_on (suc (n - (i + 1))) (reverse found) vs) (sym is)
    ∙ ap (λ (m : ℕ). lengths_on m (reverse found) values) (sym k)

none_by : (n : ℕ) (found : List ℤ) (values : List Value) → has_length values ≡ false → lengths_on (suc n) found values ≡ None
none_by n found [] e = refl
none_by n found (Whole m ∷ rest) e = cc
none_by n found (Long m ∷ rest) e = refl
none_by n found (Address at ∷ rest) e = refl
none_by n found (NullValue ∷ rest) e = refl

-- where one is missing
pub length_none : (found : List ℤ) (values : List Value) (n i : ℕ) → i < n → has_length values ≡ false → lengths_on (n - i) found values ≡ None
length_none found values n i below e =
    let k : n - i ≡ suc (n - (i + 1)) = omega arith in
    ap (λ (m : ℕ). lengths_on m found values) k ∙ none_by (n - (i + 1)) found values e

pub ruleset length_rules = (length_more, length_none)
