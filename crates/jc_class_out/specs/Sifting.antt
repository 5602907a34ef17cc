-- How distinct constants are counted without memory: those of one bucket after the other, in one room.
use Rattle.std.specs.Prelude.{◌≡◌, ℕ, ◌+◌, ◌*◌, ◌%◌, ◌^◌, Bool, true, ◌&&◌, ◌==◌, nat_lt, List, [], ◌∷◌, length, Option, Some, None, if◌then◌else◌}
use Rattle.std.specs.Int.{w32, w64, cast_unsigned}
use Rattle.jc_class_out.specs.Pool.{Known, KnownText, KnownWhole, KnownLong, KnownBehind, KnownClass, KnownLiteral, KnownField, KnownMethod, KnownInterface, KnownPair}
use Rattle.jc_class_out.specs.Spelling.{add}

-- a hash of the units, behind that of what came before
unfoldable pub mix : ℕ → List ℕ → ℕ
mix h [] = h
mix h (u ∷ us) = mix ((h * 31 % 2 ^ 32 + u) % 2 ^ 32) us

-- a number that spreads constants
unfoldable pub spread : Known → ℕ
spread (KnownText t) = mix 1 t
spread (KnownWhole n) = cast_unsigned w32 n
spread (KnownLong n) = cast_unsigned w64 n % 2 ^ 32
spread (KnownBehind n) = cast_unsigned w64 n % 2 ^ 32
spread (KnownClass t) = mix 2 t
spread (KnownLiteral t) = mix 3 t
spread (KnownField c n d) = mix (mix (mix 4 c) n) d
spread (KnownMethod c n d) = mix (mix (mix 5 c) n) d
spread (KnownInterface c n d) = mix (mix (mix 6 c) n) d
spread (KnownPair n d) = mix (mix 7 n) d

-- whether it is of that one of 128 buckets, or of any
abbrev pub is_of : Option ℕ → Known → Bool
is_of None k = true
is_of (Some bucket) k = spread k % 128 == bucket

-- a constant of the bucket is kept while there is room, each once
unfoldable pub sift : Option ℕ → List Known → Known → List Known
sift bucket ks k = if is_of bucket k && nat_lt (length ks) 1024 then add ks k else ks

-- one constant after the other
unfoldable pub sifted : Option ℕ → List Known → List Known → List Known
sifted bucket ks [] = ks
sifted bucket ks (u ∷ us) = sifted bucket (sift bucket ks u) us

-- what a sieve does with a constant
pub record SieveSees (bucket : Option ℕ) (ks : List Known) (k : Known) (bucket-after : Option ℕ) (ks-after : List Known) : Type 0 where
  pub same : bucket-after ≡ bucket
  pub kept : ks-after ≡ sift bucket ks k
