-- Readers that look further than the first token.
use Rattle.std.specs.Prelude.{ℕ, zero, suc, ◌==◌, Bool, false, cond, ◌&&◌, List, [], ◌∷◌, length}
use Rattle.jc_lexer.specs.declared.token.Token.{Token}
use Rattle.jc_reading.specs.Kinds.{kind_code, one_of}
use Rattle.jc_reading.specs.Reading.{Read, Found, Stopped, Run, found, noting, becoming, joined, ◌>>=◌, Either, This, That}

-- a token of `codes` stands behind one of the kind `code`
abbrev pub second_is : ℕ → List ℕ → List Token → Bool
second_is code codes [] = false
second_is code codes (t ∷ ts) = (kind_code t.kind == code) && one_of codes ts

-- the reach is behind the first token, where that is one of the kind `code`
abbrev pub past : {A : Type 0} → ℕ → List Token → Read A → Read A
past code [] m = m
past code (t ∷ ts) m = cond (kind_code t.kind == code) (noting (length ts) m) m

-- the one or the other, by the first two tokens
abbrev pub by_second : {A B : Type 0} → ℕ → List ℕ → Run A → Run B → Run (Either A B)
by_second code codes m n ts = cond (second_is code codes ts) (becoming This (m ts)) (past code ts (becoming That (n ts)))

-- with room for a value at all
unfoldable pub with_room : {A : Type 0} → ℕ → Run A → Run A
with_room zero run ts = Stopped (length ts)
with_room (suc h) run ts = run ts

-- values of one kind or of another
abbrev pub either_one : {A : Type 0} → Either A A → A
either_one (This a) = a
either_one (That a) = a

-- where a value of the one is followed by a token of `codes`, it and more behind it, and else the other
abbrev pub tried : {A B C : Type 0} → List ℕ → List Token → Read A → Run C → Run B → Read (Either (A × C) B)
tried codes ts (Found a r l) k n = cond (one_of codes r) (noting l (becoming (λ c. This (a, c)) (k r))) (noting l (becoming That (n ts)))
tried codes ts (Stopped l) k n = noting l (becoming That (n ts))

-- the same of readers: the second one goes on behind the first one, and the third one starts where that started
abbrev pub trying : {A B C : Type 0} → List ℕ → Run A → Run C → Run B → Run (Either (A × C) B)
trying codes m k n ts = tried codes ts (m ts) k n

-- the one, or where it stops the other
abbrev pub or_else : {A B : Type 0} → List Token → Read A → Run B → Read (Either A B)
or_else ts (Found a r l) n = Found (This a) r l
or_else ts (Stopped l) n = noting l (becoming That (n ts))

-- the same of readers, which both start at the same token
abbrev pub preferring : {A B : Type 0} → Run A → Run B → Run (Either A B)
preferring m n ts = or_else ts (m ts) n

-- a value, and more behind it unless it is one that takes no more
abbrev pub unless : {A T : Type 0} → (A → Bool) → T → Run T → A → List Token → Read (A × T)
unless closes none more a q = cond (closes a) (found (a, none) q) (becoming (joined a) (more q))

-- the same of readers: the second one starts behind the first one
abbrev pub followed : {A T : Type 0} → (A → Bool) → T → Run A → Run T → Run (A × T)
followed closes none m more ts = m ts >>= unless closes none more

-- one, and then another that its value tells
abbrev pub by_value : {A B : Type 0} → Run A → (A → Run B) → Run (A × B)
by_value m n ts = m ts >>= (λ a q. becoming (joined a) (n a q))

-- where there is no room for the other, the one alone; else the one or the other by the first two tokens
unfoldable pub roomy_second : {A B : Type 0} → ℕ → ℕ → List ℕ → Run A → Run B → Run (Either A B)
roomy_second zero code codes m n ts = becoming This (m ts)
roomy_second (suc h) code codes m n ts = by_second code codes m n ts
