-- Reading tokens from left to right.
use Rattle.std.specs.Prelude.{◌≡◌, ℕ, zero, suc, min, ◌==◌, Bool, true, false, cond, ◌&&◌, List, [], ◌∷◌, map, length, Option, Some, None}
use Rattle.jc_lexer.specs.declared.token.Sign.{Sign}
use Rattle.jc_lexer.specs.declared.token.Sign.TheVariants as sign_of
use Rattle.jc_lexer.specs.declared.token.Token.{Token}
use Rattle.jc_lexer.specs.declared.token.TokenKind.{TokenKind}
use Rattle.jc_lexer.specs.declared.token.TokenKind.TheVariants as kind_of
use Rattle.jc_tree.specs.declared.name.Ident.{Ident}
use Rattle.jc_reading.specs.Kinds.{kind_code, sign_code, one_of}
use Rattle.jc_grammar.specs.Told.{Told}
use Rattle.jc_grammar.specs.Spelling.{StandsAt, is_greater}

-- what was read, the tokens behind it, and how many tokens are left from the reach on, which is the first token that may not stand there
pub data Read (A : Type 0) : Type 0 where
  Found : A → List Token → ℕ → Read A
  Stopped : ℕ → Read A

-- a reader: what it reads at the front of tokens
abbrev pub Run : Type 0 → Type 0
Run A = List Token → Read A

-- a value, where the reach is the first token behind it
abbrev pub found : {A : Type 0} → A → List Token → Read A
found a r = Found a r (length r)

-- the reach is at least this far
abbrev pub noting : {A : Type 0} → ℕ → Read A → Read A
noting k (Found a r l) = Found a r (min k l)
noting k (Stopped l) = Stopped (min k l)

-- goes on behind what was read, with its value; the reach is the further one of both
infixl 10 ◌>>=◌
abbrev pub ◌>>=◌ : {A B : Type 0} → Read A → (A → List Token → Read B) → Read B
(Found a r l) >>= f = noting l (f a r)
(Stopped l) >>= f = Stopped l

-- the value as another one, by a function; the tokens and the reach stay
abbrev pub becoming : {A B : Type 0} → (A → B) → Read A → Read B
becoming f (Found a r l) = Found (f a) r l
becoming f (Stopped l) = Stopped l

abbrev pub as_new : {A B : Type 0} → (A → B) → Run A → Run B
as_new f m ts = becoming f (m ts)

-- two values as a pair
abbrev pub joined : {A B : Type 0} → A → B → A × B
joined a b = (a, b)

-- one, and then another
abbrev pub in_turn : {A B : Type 0} → Run A → Run B → Run (A × B)
in_turn m n ts = m ts >>= (λ a q. becoming (joined a) (n q))

-- what may be left out is left out where it stops
abbrev pub perhaps_from : {A : Type 0} → List Token → Read A → Read (Option A)
perhaps_from ts (Found a r l) = Found (Some a) r l
perhaps_from ts (Stopped l) = Found None ts l

-- the same of a reader
abbrev pub perhaps : {A : Type 0} → Run A → Run (Option A)
perhaps m ts = perhaps_from ts (m ts)

-- one, and the rest behind it; where none is read, none, and no token is taken
abbrev pub one_more : {A : Type 0} → List Token → Read A → (List Token → Read (List A)) → Read (List A)
one_more ts (Found a q l) rest = noting l (becoming (λ more. a ∷ more) (rest q))
one_more ts (Stopped l) rest = Found [] ts l

-- any number, with room for n of them
unfoldable pub times : {A : Type 0} → ℕ → Run A → Run (List A)
times zero m ts = found [] ts
times (suc n) m ts = one_more ts (m ts) (times n m)

-- any number, with room for as many as there are tokens
abbrev pub any_number : {A : Type 0} → Run A → Run (List A)
any_number m ts = times (length ts) m ts

-- a value of the one kind or of the other
pub data Either (A B : Type 0) : Type 0 where
  This : A → Either A B
  That : B → Either A B

-- the one or the other, by what stands there
abbrev pub either : {A B : Type 0} → List ℕ → Run A → Run B → Run (Either A B)
either codes m n ts = cond (one_of codes ts) (becoming This (m ts)) (becoming That (n ts))

-- the value of a token; where it has none (None), reading stops, and the reach is that token
abbrev pub on_pick : {A : Type 0} → Option A → List Token → Read A
on_pick (Some a) r = found a r
on_pick None r = Stopped (suc (length r))

-- one token
abbrev pub picking : {A : Type 0} → (Token → Option A) → Run A
picking pick [] = Stopped 0
picking pick (t ∷ ts) = on_pick (pick t) ts

-- the token is as told, where `touched` says whether a `>` before it touches it
abbrev pub IsTold : Bool → Told → Token → Type 0
IsTold touched d t = (t.kind ≡ d.kind) × StandsAt d.at t.from × (d.joins ≡ true → t.touches ≡ true) × (d.apart ≡ true → touched ≡ false)

-- tokens as told stand at the front, and the rest follows
abbrev pub Takes : Bool → List Told → List Token → List Token → Type 0
Takes touched [] ts r = ts ≡ r
Takes touched (d ∷ told) [] r = ⊥
Takes touched (d ∷ told) (t ∷ ts) r = IsTold touched d t × Takes (is_greater t.kind && t.touches) told ts r

-- a token of the kind with this number: that it is one, or its offset
abbrev pub picks : ℕ → Token → Option (Unit {0})
picks code t = cond (kind_code t.kind == code) (Some tt) None

abbrev pub picks_at : ℕ → Token → Option ℕ
picks_at code t = cond (kind_code t.kind == code) (Some t.from) None

-- a sign, or a keyword
abbrev pub of_kind : ℕ → Run (Unit {0})
of_kind code = picking (picks code)

abbrev pub at_kind : ℕ → Run ℕ
at_kind code = picking (picks_at code)

-- the identifier of a word
abbrev pub ident_of_kind : TokenKind → ℕ → Option Ident
ident_of_kind (kind_of.Word text) at = Some (record { at = at; text = text })
ident_of_kind _ at = None

abbrev pub picks_ident : Token → Option Ident
picks_ident t = ident_of_kind t.kind t.from

abbrev pub an_ident_at : Run Ident
an_ident_at = picking picks_ident

-- the tokens behind the first one; none where there is none
abbrev pub rest_of : List Token → List Token
rest_of [] = []
rest_of (t ∷ ts) = ts

-- the value behind what is only a sign
abbrev pub behind_it : {A : Type 0} → (Unit {0} × A) → A
behind_it p = p.1

abbrev pub before_it : {A : Type 0} → (A × Unit {0}) → A
before_it p = p.0

-- a first value and those behind signs, as one list
abbrev pub first_and_more : {A : Type 0} → (A × List (Unit {0} × A)) → List A
first_and_more p = p.0 ∷ map behind_it p.1

-- any number, each behind a sign
abbrev pub each_behind : {A : Type 0} → Sign → Run A → Run (List (Unit {0} × A))
each_behind s run = any_number (in_turn (of_kind (sign_code s)) run)

-- one or more, with commas between them
abbrev pub commas_run : {A : Type 0} → Run A → Run (List A)
commas_run run = as_new first_and_more (in_turn run (each_behind sign_of.Comma run))
