-- What is read from tokens is the program that they are, and no other.
use Rattle.std.proofs.Common.{◌≡◌, ◌≤◌, ℕ, zero, suc, ◌+◌, Bool, true, false, List, [], ◌∷◌, ◌++◌, length, refl, sym, ap, ◌∙◌, append_assoc, arith, Option, Some, None, codes, map, le-leb, leb-true}
use Rattle.std.specs.Prelude.{flat_map, if◌then◌else◌, slice_get, ◌==◌, nat_le}
use Rattle.std.specs.Str.{bytes_eq}
use Rattle.std.proofs.Common.{take, inl, inr, ◌⊎◌, ◌<◌, add-one, eqb-true, Result, Ok, Err, IfOk, MatchOption}
use Rattle.jc_rules.specs.declared.stop.WantOfMemory.{WantOfMemory}
use Rattle.std.proofs.lemmas.Bool.{false≢true}
use Rattle.std.proofs.lemmas.Slice.Eq.{bytes_eq-Decides}
use Rattle.jc_lexer.specs.declared.token.Key.{Key}
use Rattle.jc_lexer.specs.declared.token.Key.TheVariants as key_of
use Rattle.jc_lexer.specs.declared.token.Sign.{Sign}
use Rattle.jc_lexer.specs.declared.token.Sign.TheVariants as sign_of
use Rattle.jc_lexer.specs.declared.token.Token.{Token}
use Rattle.jc_lexer.specs.declared.token.TokenKind.{TokenKind}
use Rattle.jc_lexer.specs.declared.token.TokenKind.TheVariants as kind_of
use Rattle.jc_small.specs.declared.fixed.Fixed.{Fixed}
use Rattle.jc_small.specs.declared.fixed.Fixed.TheVariants as fixed_of
use Rattle.jc_small.specs.declared.reading.Moved.{Moved}
use Rattle.jc_small.specs.declared.reading.Effect.TheVariants.{Nothing, Add}
use Rattle.std.proofs.lemmas.List.{append-nil}
use Rattle.std.specs.List.{AllByRecursion}
use Rattle.jc_small.specs.declared.reading.Point.{Point}
use Rattle.jc_small.specs.declared.reading.Point.TheVariants.{Head, Statement, Write, Number, AfterNumber, Semicolon, LastBrace, End}
use Rattle.jc_small.specs.Lexemes.{kind_of_fixed, is, is_key, is_sign, is_word}
use Rattle.jc_small.specs.Small.{Program, IsSum, IsProgram, IsNoProgram, number, sum_kinds, write_kinds, program_kinds, head, write_rest, kinds}
use Rattle.jc_small.specs.Parse.{moved, run, done_by, now_by, by_lexeme, by_number, number_of, small_number, at_end, go_on}

abbrev heads : List TokenKind
heads = map kind_of_fixed head

abbrev rests : List TokenKind
rests = map kind_of_fixed write_rest

-- ---- single tokens

same_key : (f : Fixed) (k : Key) → is_key f k ≡ true → kind_of.Key k ≡ kind_of_fixed f
same_key fixed_of.Class key_of.Class e = refl
same_key fixed_of.Public key_of.Public e = refl
same_key fixed_of.Static key_of.Static e = refl
same_key fixed_of.Void key_of.Void e = refl
same_key _ _ e = absurd (false≢true e)

same_sign : (f : Fixed) (s : Sign) → is_sign f s ≡ true → kind_of.Sign s ≡ kind_of_fixed f
same_sign fixed_of.Dot sign_of.Dot e = refl
same_sign fixed_of.Plus sign_of.Plus e = refl
same_sign fixed_of.Semicolon sign_of.Semicolon e = refl
same_sign fixed_of.LeftParen sign_of.LeftParen e = refl
same_sign fixed_of.RightParen sign_of.RightParen e = refl
same_sign fixed_of.LeftBracket sign_of.LeftBracket e = refl
same_sign fixed_of.RightBracket sign_of.RightBracket e = refl
same_sign fixed_of.LeftBrace sign_of.LeftBrace e = refl
same_sign fixed_of.RightBrace sign_of.RightBrace e = refl
same_sign _ _ e = absurd (false≢true e)

word_is : (text w : List ℕ) → bytes_eq text w ≡ true → kind_of.Word text ≡ kind_of.Word w
word_is text w e = ap (λ (t : List ℕ). kind_of.Word t) ((bytes_eq-Decides text w).0 e)

same_word : (f : Fixed) (text : List ℕ) → is_word f text ≡ true → kind_of.Word text ≡ kind_of_fixed f
same_word fixed_of.MainClass text e = word_is text (codes "Main") e
same_word fixed_of.MainMethod text e = word_is text (codes "main") e
same_word fixed_of.StringClass text e = word_is text (codes "String") e
same_word fixed_of.Args text e = word_is text (codes "args") e
same_word fixed_of.System text e = word_is text (codes "System") e
same_word fixed_of.Out text e = word_is text (codes "out") e
same_word fixed_of.Write text e = word_is text (codes "write") e
same_word _ text e = absurd (false≢true e)

-- a token that is a lexeme is of its kind
same : (f : Fixed) (t : TokenKind) → is f t ≡ true → t ≡ kind_of_fixed f
same f (kind_of.Key k) e = same_key f k e
same f (kind_of.Sign s) e = same_sign f s e
same f (kind_of.Word text) e = same_word f text e
same f _ e = absurd (false≢true e)

number_small : (n : ℕ) → n ≤ 2147483647 → number_of (number n) ≡ Some n
number_small n h = rw (le-leb n 2147483647 h) refl

record IsNumber (t : TokenKind) (m : Moved) : Type 0 where
  value : ℕ
  token : t ≡ number value
  small : value ≤ 2147483647
  move : record { point = AfterNumber; effect = Add value } ≡ m

a_number : (n : ℕ) (m : Moved) → by_number (small_number n) ≡ Some m → IsNumber (number n) m
a_number n m e = by_test (nat_le n 2147483647) refl e
  where
    by_test : (b : Bool) → nat_le n 2147483647 ≡ b → by_number (if b then Some n else None) ≡ Some m → IsNumber (number n) m
    by_test true t f = record { value = n; token = refl; small = leb-true n 2147483647 t; move = cc }
    by_test false t f = cc

number_step : (t : TokenKind) (m : Moved) → by_number (number_of t) ≡ Some m → IsNumber t m
number_step (kind_of.Number n false true) m e = a_number n m e
number_step _ m e = cc

-- ---- programs

-- what stands behind a sum
abbrev after_sum : List TokenKind → List TokenKind
after_sum rest = kind_of_fixed fixed_of.RightParen ∷ kind_of_fixed fixed_of.Semicolon ∷ rest

-- a sum is read
run_sum : (n : ℕ) (ns now : List ℕ) (done : Program) (rest : List TokenKind) → AllByRecursion (λ n. n ≤ 2147483647) (n ∷ ns) → run (sum_kinds (n ∷ ns) ++ after_sum rest) Number done now ≡ run rest Statement (done ++ (now ++ n ∷ ns) ∷ []) []
unfolding run moved
run_sum n [] now done rest small = rw (number_small n small.0) refl
run_sum n (m ∷ ns) now done rest small = rw (number_small n small.0) (run_sum m ns (now ++ n ∷ []) done rest small.1 ∙ ap (λ (l : List ℕ). run rest Statement (done ++ l ∷ []) []) (append_assoc now (n ∷ []) (m ∷ ns)))

-- the writes are read
run_writes : (program done : Program) → AllByRecursion IsSum program → run (flat_map write_kinds program ++ (kind_of_fixed fixed_of.RightBrace ∷ kind_of_fixed fixed_of.RightBrace ∷ [])) Statement done [] ≡ Some (done ++ program)
unfolding run moved
run_writes [] done sums = ap (λ (l : Program). Some l) (sym (append-nil done))
run_writes ([] ∷ program) done sums = absurd sums.0
run_writes ((n ∷ ns) ∷ program) done sums =
    let behind = flat_map write_kinds program ++ (kind_of_fixed fixed_of.RightBrace ∷ kind_of_fixed fixed_of.RightBrace ∷ []) in
    let words = sum_kinds (n ∷ ns) in
    let close : List TokenKind = kind_of_fixed fixed_of.RightParen ∷ kind_of_fixed fixed_of.Semicolon ∷ [] in
    let apart : (words ++ close) ++ flat_map write_kinds program ++ (kind_of_fixed fixed_of.RightBrace ∷ kind_of_fixed fixed_of.RightBrace ∷ []) ≡ words ++ after_sum behind =
    append_assoc (words ++ close) (flat_map write_kinds program) (kind_of_fixed fixed_of.RightBrace ∷ kind_of_fixed fixed_of.RightBrace ∷ []) ∙ append_assoc words close behind in
    ap (λ (ts : List TokenKind). run ts Number done []) apart
    ∙ run_sum n ns [] done behind sums.0
    ∙ run_writes program (done ++ (n ∷ ns) ∷ []) sums.1
    ∙ ap (λ (l : Program). Some l) (append_assoc done ((n ∷ ns) ∷ []) program)

-- a program's tokens are read as that program
pub run_kinds : (program : Program) → AllByRecursion IsSum program → run (program_kinds program) (Head 0) [] [] ≡ Some program
unfolding run moved
run_kinds program sums = run_writes program [] sums

-- ---- what was read

-- numbers, each with a plus behind
abbrev plus_kinds : List ℕ → List TokenKind
plus_kinds [] = []
plus_kinds (n ∷ ns) = number n ∷ kind_of_fixed fixed_of.Plus ∷ plus_kinds ns

sum_more : (ns : List ℕ) (n : ℕ) → sum_kinds (ns ++ n ∷ []) ≡ plus_kinds ns ++ number n ∷ []
sum_more [] n = refl
sum_more (m ∷ []) n = refl
sum_more (m ∷ k ∷ ns) n = ap (λ (l : List TokenKind). number m ∷ kind_of_fixed fixed_of.Plus ∷ l) (sum_more (k ∷ ns) n)

plus_more : (n : ℕ) (ns : List ℕ) → sum_kinds (n ∷ ns) ++ kind_of_fixed fixed_of.Plus ∷ [] ≡ plus_kinds (n ∷ ns)
plus_more n [] = refl
plus_more n (m ∷ ns) = ap (λ (l : List TokenKind). number n ∷ kind_of_fixed fixed_of.Plus ∷ l) (plus_more m ns)

-- the words of whole writes
abbrev written : Program → List TokenKind
written done = heads ++ flat_map write_kinds done

-- the words before a point
abbrev before : Point → Program → List ℕ → List TokenKind
before (Head k) done now = take k heads
before Statement done now = written done
before (Write k) done now = written done ++ (kind_of_fixed fixed_of.System ∷ take k rests)
before Number done now = written done ++ (kind_of_fixed fixed_of.System ∷ (rests ++ plus_kinds now))
before AfterNumber done now = written done ++ (kind_of_fixed fixed_of.System ∷ (rests ++ sum_kinds now))
before Semicolon done now = written done ++ (kind_of_fixed fixed_of.System ∷ (rests ++ (sum_kinds now ++ kind_of_fixed fixed_of.RightParen ∷ [])))
before LastBrace done now = written done ++ kind_of_fixed fixed_of.RightBrace ∷ []
before End done now = written done ++ kind_of_fixed fixed_of.RightBrace ∷ kind_of_fixed fixed_of.RightBrace ∷ []

-- what holds at a point
abbrev Holds : Point → Program → List ℕ → Type 0
Holds (Head k) done now = (done ≡ []) × (now ≡ [])
Holds Statement done now = AllByRecursion IsSum done × (now ≡ [])
Holds (Write k) done now = AllByRecursion IsSum done × (now ≡ [])
Holds Number done now = AllByRecursion IsSum done × AllByRecursion (λ n. n ≤ 2147483647) now
Holds AfterNumber done now = AllByRecursion IsSum done × IsSum now
Holds Semicolon done now = AllByRecursion IsSum done × IsSum now
Holds LastBrace done now = AllByRecursion IsSum done
Holds End done now = AllByRecursion IsSum done

one_lexeme : (a : Bool) (x m : Moved) → (if a then Some x else None) ≡ Some m → (a ≡ true) × (x ≡ m)
one_lexeme true x m e = (refl, cc)
one_lexeme false x m e = cc

two_lexemes : (a b : Bool) (x y m : Moved) → (if a then Some x else (if b then Some y else None)) ≡ Some m → ((a ≡ true) × (x ≡ m)) ⊎ ((b ≡ true) × (y ≡ m))
two_lexemes true b x y m e = inl (refl, cc)
two_lexemes false true x y m e = inr (refl, cc)
two_lexemes false false x y m e = cc

-- what a point's lexeme does
abbrev Steps : Point → TokenKind → Program → List ℕ → Moved → Type 0
Steps p t done now m = Holds m.point (done_by m.effect done now) (now_by m.effect now) × (before m.point (done_by m.effect done now) (now_by m.effect now) ≡ before p done now ++ t ∷ [])

all_end : {A : Type 0} (P : A → Type 0) (xs : List A) (x : A) → AllByRecursion P xs → P x → AllByRecursion P (xs ++ x ∷ [])
all_end P [] x all here = (here, tt)
all_end P (y ∷ ys) x all here = (all.0, all_end P ys x all.1 here)

is_sum_end : (now : List ℕ) (n : ℕ) → AllByRecursion (λ n. n ≤ 2147483647) now → n ≤ 2147483647 → IsSum (now ++ n ∷ [])
is_sum_end [] n all here = (here, tt)
is_sum_end (m ∷ ms) n all here = (all.0, all_end (λ n. n ≤ 2147483647) ms n all.1 here)

sum_small : (now : List ℕ) → IsSum now → AllByRecursion (λ n. n ≤ 2147483647) now
sum_small [] sum = tt
sum_small (n ∷ ns) sum = sum

step_statement : (t : TokenKind) (done : Program) (now : List ℕ) (m : Moved) → Holds Statement done now → moved Statement t ≡ Some m → Steps Statement t done now m
unfolding moved
step_statement t done now m holds e = by_which (two_lexemes _ _ _ _ m e)
  where
    by_which : ((is fixed_of.System t ≡ true) × (record { point = Write 0; effect = Nothing } ≡ m)) ⊎ ((is fixed_of.RightBrace t ≡ true) × (record { point = LastBrace; effect = Nothing } ≡ m)) → Steps Statement t done now m
    by_which (inl w) = rw (← w.1, same fixed_of.System t w.0) (holds, refl)
    by_which (inr w) = rw (← w.1, same fixed_of.RightBrace t w.0) (holds.0, refl)

-- a fixed lexeme
lexeme_step : (words : List Fixed) (k : ℕ) (t : TokenKind) (p : Point) (m : Moved) → by_lexeme (slice_get words k) t p ≡ Some m
    → (k < length words) × (take (k + 1) (map kind_of_fixed words) ≡ take k (map kind_of_fixed words) ++ t ∷ []) × (record { point = p; effect = Nothing } ≡ m)
lexeme_step [] zero t p m e = cc
lexeme_step [] (suc k) t p m e = cc
lexeme_step (w ∷ ws) zero t p m e = let is = one_lexeme (is w t) _ m e in (omega arith, rw (same w t is.0) refl, is.1)
lexeme_step (w ∷ ws) (suc k) t p m e =
    let rest = lexeme_step ws k t p m e in
    (omega (arith, rest.0), rw add-one (ap (λ (l : List TokenKind). kind_of_fixed w ∷ l) (rw add-one at rest.1)), rest.2)

step_head : (k : ℕ) (t : TokenKind) (done : Program) (now : List ℕ) (m : Moved) → Holds (Head k) done now → moved (Head k) t ≡ Some m → Steps (Head k) t done now m
unfolding moved
step_head k t done now m holds e = by_last (k == 13) refl
  where
    by_last : (b : Bool) → (k == 13) ≡ b → Steps (Head k) t done now m
    by_last true at =
        let is = lexeme_step head k t Statement m (rw at at e) in
        let last : k ≡ 13 = eqb-true k 13 at in
        rw (← is.2, holds.0, holds.1) ((tt, refl), sym (sym is.1 ∙ ap (λ (n : ℕ). take (n + 1) heads) last))
    by_last false at =
        let is = lexeme_step head k t (Head (k + 1)) m (rw at at e) in
        rw (← is.2) (holds, is.1)

step_write : (k : ℕ) (t : TokenKind) (done : Program) (now : List ℕ) (m : Moved) → Holds (Write k) done now → moved (Write k) t ≡ Some m → Steps (Write k) t done now m
unfolding moved
step_write k t done now m holds e = by_last (k == 4) refl
  where
    by_last : (b : Bool) → (k == 4) ≡ b → Steps (Write k) t done now m
    by_last true at =
        let is = lexeme_step write_rest k t Number m (rw at at e) in
        let last : k ≡ 4 = eqb-true k 4 at in
        let full : take k rests ++ t ∷ [] ≡ rests = sym is.1 ∙ ap (λ (n : ℕ). take (n + 1) rests) last in
        rw (← is.2, holds.1) ((holds.0, tt), ap (λ (l : List TokenKind). written done ++ (kind_of_fixed fixed_of.System ∷ l)) (sym full) ∙ sym (append_assoc (written done) (kind_of_fixed fixed_of.System ∷ take k rests) (t ∷ [])))
    by_last false at =
        let is = lexeme_step write_rest k t (Write (k + 1)) m (rw at at e) in
        rw (← is.2) (holds, ap (λ (l : List TokenKind). written done ++ (kind_of_fixed fixed_of.System ∷ l)) is.1 ∙ sym (append_assoc (written done) (kind_of_fixed fixed_of.System ∷ take k rests) (t ∷ [])))

-- a lexeme behind an open write
behind : (done : Program) (words : List TokenKind) (t : TokenKind) → (written done ++ (kind_of_fixed fixed_of.System ∷ (rests ++ words))) ++ t ∷ [] ≡ written done ++ (kind_of_fixed fixed_of.System ∷ (rests ++ (words ++ t ∷ [])))
behind done words t = append_assoc (written done) (kind_of_fixed fixed_of.System ∷ (rests ++ words)) (t ∷ [])

step_number : (t : TokenKind) (done : Program) (now : List ℕ) (m : Moved) → Holds Number done now → moved Number t ≡ Some m → Steps Number t done now m
unfolding moved
step_number t done now m holds e =
    let is = number_step t m e in
    rw (← is.move) (
      (holds.0, is_sum_end now is.value holds.1 is.small),
      ap (λ (l : List TokenKind). written done ++ (kind_of_fixed fixed_of.System ∷ (rests ++ l))) (sum_more now is.value ∙ ap (λ (d : TokenKind). plus_kinds now ++ d ∷ []) (sym is.token)) ∙ sym (behind done (plus_kinds now) t),
    )

plus_all : (now : List ℕ) → IsSum now → sum_kinds now ++ kind_of_fixed fixed_of.Plus ∷ [] ≡ plus_kinds now
plus_all [] sum = absurd sum
plus_all (n ∷ ns) sum = plus_more n ns

step_after : (t : TokenKind) (done : Program) (now : List ℕ) (m : Moved) → Holds AfterNumber done now → moved AfterNumber t ≡ Some m → Steps AfterNumber t done now m
unfolding moved
step_after t done now m holds e = by_which (two_lexemes _ _ _ _ m e)
  where
    by_which : ((is fixed_of.Plus t ≡ true) × (record { point = Number; effect = Nothing } ≡ m)) ⊎ ((is fixed_of.RightParen t ≡ true) × (record { point = Semicolon; effect = Nothing } ≡ m)) → Steps AfterNumber t done now m
    by_which (inl w) = rw (← w.1, same fixed_of.Plus t w.0) (
      (holds.0, sum_small now holds.1),
      ap (λ (l : List TokenKind). written done ++ (kind_of_fixed fixed_of.System ∷ (rests ++ l))) (sym (plus_all now holds.1)) ∙ sym (behind done (sum_kinds now) (kind_of_fixed fixed_of.Plus)),
    )
    by_which (inr w) = rw (← w.1, same fixed_of.RightParen t w.0) (holds, sym (behind done (sum_kinds now) (kind_of_fixed fixed_of.RightParen)))

flat_end : (done : Program) (now : List ℕ) → flat_map write_kinds (done ++ now ∷ []) ≡ flat_map write_kinds done ++ write_kinds now
flat_end [] now = append-nil (write_kinds now)
flat_end (d ∷ done) now = ap (λ (l : List TokenKind). write_kinds d ++ l) (flat_end done now) ∙ sym (append_assoc (write_kinds d) (flat_map write_kinds done) (write_kinds now))

step_semicolon : (t : TokenKind) (done : Program) (now : List ℕ) (m : Moved) → Holds Semicolon done now → moved Semicolon t ≡ Some m → Steps Semicolon t done now m
unfolding moved
step_semicolon t done now m holds e =
    let is = one_lexeme _ _ m e in
    let words = sum_kinds now ++ kind_of_fixed fixed_of.RightParen ∷ [] in
    let close : words ++ kind_of_fixed fixed_of.Semicolon ∷ [] ≡ sum_kinds now ++ (kind_of_fixed fixed_of.RightParen ∷ kind_of_fixed fixed_of.Semicolon ∷ []) = append_assoc (sum_kinds now) (kind_of_fixed fixed_of.RightParen ∷ []) (kind_of_fixed fixed_of.Semicolon ∷ []) in
    rw (← is.1, same fixed_of.Semicolon t is.0) (
      (all_end IsSum done now holds.0 holds.1, refl),
      ap (λ (l : List TokenKind). heads ++ l) (flat_end done now)
          ∙ ap (λ (l : List TokenKind). written done ++ (kind_of_fixed fixed_of.System ∷ (rests ++ l))) (sym close)
          ∙ sym (behind done words (kind_of_fixed fixed_of.Semicolon)),
    )

step_last : (t : TokenKind) (done : Program) (now : List ℕ) (m : Moved) → Holds LastBrace done now → moved LastBrace t ≡ Some m → Steps LastBrace t done now m
unfolding moved
step_last t done now m holds e =
    let is = one_lexeme _ _ m e in
    rw (← is.1, same fixed_of.RightBrace t is.0) (holds, sym (append_assoc (written done) (kind_of_fixed fixed_of.RightBrace ∷ []) (kind_of_fixed fixed_of.RightBrace ∷ [])))

step_any : (p : Point) (t : TokenKind) (done : Program) (now : List ℕ) (m : Moved) → Holds p done now → moved p t ≡ Some m → Steps p t done now m
unfolding moved
step_any (Head k) t done now m holds e = step_head k t done now m holds e
step_any Statement t done now m holds e = step_statement t done now m holds e
step_any (Write k) t done now m holds e = step_write k t done now m holds e
step_any Number t done now m holds e = step_number t done now m holds e
step_any AfterNumber t done now m holds e = step_after t done now m holds e
step_any Semicolon t done now m holds e = step_semicolon t done now m holds e
step_any LastBrace t done now m holds e = step_last t done now m holds e
step_any End t done now m holds e = cc

ended : (p : Point) (done : Program) (now : List ℕ) (program : Program) → Holds p done now → at_end p done ≡ Some program → (before p done now ++ [] ≡ program_kinds program) × AllByRecursion IsSum program
ended (Head k) done now program holds e = cc
ended Statement done now program holds e = cc
ended (Write k) done now program holds e = cc
ended Number done now program holds e = cc
ended AfterNumber done now program holds e = cc
ended Semicolon done now program holds e = cc
ended LastBrace done now program holds e = cc
ended End done now program holds e =
    let is : done ≡ program = cc in
    rw (← is) (append-nil _ ∙ append_assoc heads (flat_map write_kinds done) (kind_of_fixed fixed_of.RightBrace ∷ kind_of_fixed fixed_of.RightBrace ∷ []), holds)

-- what was read is a program, and its words were read
pub run_sound : (ts : List TokenKind) (p : Point) (done : Program) (now : List ℕ) (program : Program) → Holds p done now → run ts p done now ≡ Some program → (before p done now ++ ts ≡ program_kinds program) × AllByRecursion IsSum program
unfolding run
run_sound [] p done now program holds e = ended p done now program holds e
run_sound (t ∷ ts) p done now program holds e = by_move (moved p t) refl e (λ m holds' e'. run_sound ts m.point (done_by m.effect done now) (now_by m.effect now) program holds' e')
  where
    by_move : (o : Option Moved) → moved p t ≡ o → go_on (run ts) o done now ≡ Some program
        → ((m : Moved) → Holds m.point (done_by m.effect done now) (now_by m.effect now) → run ts m.point (done_by m.effect done now) (now_by m.effect now) ≡ Some program → (before m.point (done_by m.effect done now) (now_by m.effect now) ++ ts ≡ program_kinds program) × AllByRecursion IsSum program)
        → (before p done now ++ (t ∷ ts) ≡ program_kinds program) × AllByRecursion IsSum program
    by_move None at f rest = cc
    by_move (Some m) at f rest =
        let steps = step_any p t done now m holds at in
        let all = rest m steps.0 f in
        (sym (append_assoc (before p done now) (t ∷ []) ts) ∙ ap (λ (l : List TokenKind). l ++ ts) (sym steps.1) ∙ all.0, all.1)

-- what reading tokens answers
pub parsed : (tokens : List Token) (r : Result (Option Program) WantOfMemory) → length tokens ≤ 4096 → IfOk r (λ p. p ≡ run (kinds tokens) (Head 0) [] []) → IfOk r (λ p. MatchOption p (IsNoProgram tokens) (λ program. IsProgram tokens program))
parsed tokens (Err e) short read = tt
parsed tokens (Ok None) short read = λ program is.
    let some : run (kinds tokens) (Head 0) [] [] ≡ Some program = ap (λ (l : List TokenKind). run l (Head 0) [] []) is.spelled ∙ run_kinds program is.sums in
    cc
parsed tokens (Ok (Some program)) short read =
    let all = run_sound (kinds tokens) (Head 0) [] [] program (refl, refl) (sym read) in
    record { short = short; spelled = all.0; sums = all.1 }
