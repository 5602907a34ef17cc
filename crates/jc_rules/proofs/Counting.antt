-- Counting the line ends of a text, place by place.
use Rattle.std.proofs.Common.{◌≡◌, ◌≤◌, ◌+◌, ◌-◌, ℕ, zero, suc, Bool, true, false, List, [], ◌∷◌, length, refl, ap, ◌∙◌, arith, None, add-one}
use Rattle.std.specs.Prelude.{slice_get, ◌&&◌, ◌||◌}
use Rattle.jc_rules.specs.Lines.{line_ends_by, ends_line, is_byte}

pub none_before : (text : List ℕ) → line_ends_by text 0 ≡ 0
unfolding line_ends_by
none_before text = refl

pub one_more : (text : List ℕ) (n : ℕ) → ends_line text n ≡ true → line_ends_by text (n + 1) ≡ line_ends_by text n + 1
unfolding line_ends_by
one_more text n e = rw add-one (rw e refl)

pub no_more : (text : List ℕ) (n : ℕ) → ends_line text n ≡ false → line_ends_by text (n + 1) ≡ line_ends_by text n
unfolding line_ends_by
no_more text n e = rw add-one (rw e (omega arith))

none_beyond : (text : List ℕ) (n : ℕ) → length text ≤ n → slice_get text n ≡ None
none_beyond [] n h = refl
none_beyond (x ∷ xs) zero h = absurd (omega arith)
none_beyond (x ∷ xs) (suc n) h = none_beyond xs n (omega arith)

none_of : (a b c : Bool) → a ≡ false → b ≡ false → (a || (b && c)) ≡ false
none_of a b c e f = rw (e, f) refl

no_end_beyond : (text : List ℕ) (n : ℕ) → length text ≤ n → ends_line text n ≡ false
no_end_beyond text n h = let e = none_beyond text n h in none_of _ _ _ (ap (is_byte 10) e) (ap (is_byte 13) e)

-- no line end has its last byte beyond the text
pub all_within : (text : List ℕ) (n : ℕ) → length text ≤ n → line_ends_by text n ≡ line_ends_by text (length text)
all_within text n h = more (n - length text) n (omega arith)
  where
    more : (k m : ℕ) → m ≡ length text + k → line_ends_by text m ≡ line_ends_by text (length text)
    more zero m e = rw e (ap (line_ends_by text) (omega arith))
    more (suc k) m e = let f : m ≡ (length text + k) + 1 = omega arith in
        rw f (no_more text (length text + k) (no_end_beyond text (length text + k) (omega arith)) ∙ more k (length text + k) refl)
