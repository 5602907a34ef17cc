-- Keywords of one length.
use Rattle.std.proofs.Common.{◌≡◌, ℕ, Bool, true, false, cond, List, [], ◌∷◌, Option, Some, length, refl, sym, ap, ◌∙◌, arith}
use Rattle.std.specs.Prelude.{◌==◌}
use Rattle.std.specs.Str.{bytes_eq}
use Rattle.std.proofs.lemmas.Bool.Decides.{nat_tests}
use Rattle.std.proofs.lemmas.Slice.Eq.{bytes_eq-Decides}
use Rattle.jc_lexer.specs.declared.keyword.TheConstants.{KEYS}
use Rattle.jc_lexer.specs.declared.token.Key.{Key}
use Rattle.jc_lexer.specs.Words.{spelling, key_in}

abbrev pub has_length : ℕ → Key → Bool
has_length n key = length (spelling key) == n

abbrev pub those_of : ℕ → List Key → List Key
those_of n [] = []
those_of n (key ∷ keys) = cond (has_length n key) (key ∷ those_of n keys) (those_of n keys)

not_same : (xs text : List ℕ) → (length xs == length text) ≡ false → bytes_eq xs text ≡ false
not_same xs text h = from (bytes_eq xs text) refl
  where
    from : (b : Bool) → bytes_eq xs text ≡ b → b ≡ false
    from true e =
        let s : length xs ≡ length text = ap length ((bytes_eq-Decides xs text).0 e) in
        let t : (length xs == length text) ≡ true = grind (arith, nat_tests) in cc
    from false e = refl

-- a text spells no keyword of another length
pub key_in_skips : (keys : List Key) (text : List ℕ) → key_in (those_of (length text) keys) text ≡ key_in keys text
key_in_skips [] text = refl
key_in_skips (key ∷ keys) text = from (has_length (length text) key) refl (key_in_skips keys text)
  where
    from : (b : Bool) → has_length (length text) key ≡ b → key_in (those_of (length text) keys) text ≡ key_in keys text →
        key_in (cond b (key ∷ those_of (length text) keys) (those_of (length text) keys)) text ≡ key_in (key ∷ keys) text
    from true e rest = ap (λ (r : Option Key). cond (bytes_eq (spelling key) text) (Some key) r) rest
    from false e rest = rest ∙ rw (not_same (spelling key) text e) refl

pub key_in_of : (n : ℕ) (text : List ℕ) → length text ≡ n → key_in (those_of n KEYS) text ≡ key_in KEYS text
key_in_of n text h = ap (λ (m : ℕ). key_in (those_of m KEYS) text) (sym h) ∙ key_in_skips KEYS text
