-- Reading bytes from left to right. What is read comes with the bytes behind it; the first field that isn't whole or breaks
-- its rule is the flaw.
use Rattle.std.specs.Prelude.{ℕ, zero, suc, Bool, List, [], ◌∷◌, length, take, drop, Option, Some, None, Result, Ok, Err, nat_lt, if◌then◌else◌}
use Rattle.std.specs.Int.{Width, w16, byte_len, from_be_bytes}
use Rattle.jc_class_out.specs.declared.format.Flaw.{Flaw}
use Rattle.jc_class_out.specs.declared.format.Flaw.TheVariants.{Short, Index}

-- goes on with what was read, or keeps the first flaw
infixl 10 ◌>>=◌
abbrev pub ◌>>=◌ : {A B : Type 0} → Result A Flaw → (A → Result B Flaw) → Result B Flaw
(Ok x) >>= f = f x
(Err e) >>= f = Err e

-- what is there, or a flaw
abbrev pub or_flaw : {A : Type 0} → Option A → Flaw → Result A Flaw
or_flaw (Some x) e = Ok x
or_flaw None e = Err e

-- an index, an offset, a count or a length that has to fit; so many bytes are left from it on
abbrev pub wants : Bool → ℕ → Result ℕ Flaw
wants b left = if b then Ok 0 else Err (Index left)

-- u1
abbrev pub u8_at : List ℕ → Result (ℕ × List ℕ) Flaw
u8_at [] = Err Short
u8_at (b ∷ rest) = Ok (b, rest)

-- u2, u4 and u8: the high byte first (JVMS 4)
abbrev pub number_at : Width → List ℕ → Result (ℕ × List ℕ) Flaw
number_at w bytes = if nat_lt (length bytes) (byte_len w) then Err Short else Ok (from_be_bytes w (take (byte_len w) bytes), drop (byte_len w) bytes)

-- so many of what f reads, one after the other
unfoldable pub many : {A : Type 0} → (List ℕ → Result (A × List ℕ) Flaw) → ℕ → List ℕ → Result (List A × List ℕ) Flaw
many f zero bytes = Ok ([], bytes)
many f (suc n) bytes = f bytes >>= λ x. many f n x.1 >>= λ more. Ok (x.0 ∷ more.0, more.1)

-- a u2 that says how many, and then so many
unfoldable pub listed : {A : Type 0} → (List ℕ → Result (A × List ℕ) Flaw) → List ℕ → Result (List A × List ℕ) Flaw
listed f bytes = number_at w16 bytes >>= λ n. many f n.0 n.1
