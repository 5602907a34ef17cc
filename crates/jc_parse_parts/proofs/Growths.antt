-- Lists that are read turn by turn.
use Rattle.std.proofs.Common.{◌≡◌, ℕ, List, ◌∷◌, map, length, refl, ap, ◌∙◌, arith}
use Rattle.jc_lexer.specs.declared.token.Token.{Token}
use Rattle.jc_lexer.specs.declared.token.Sign.{Sign}
use Rattle.jc_reading.specs.Kinds.{sign_code}
use Rattle.jc_reading.specs.Reading.{Read, Found, Stopped, Run, becoming, joined, noting, ◌>>=◌, any_number, as_new, in_turn, behind_it, of_kind, first_and_more, each_behind}
use Rattle.jc_reading.proofs.Turns.{times_as}

-- what stands behind a sign
abbrev pub led : {A : Type 0} → Sign → Run A → Run A
led s run = as_new behind_it (in_turn (of_kind (sign_code s)) run)

pub each_as : {A : Type 0} (code : ℕ) (run : Run A) (ts : List Token) → as_new (map behind_it) (any_number (in_turn (of_kind code) run)) ts ≡ any_number (as_new behind_it (in_turn (of_kind code) run)) ts
each_as code run ts = times_as behind_it (length ts) (in_turn (of_kind code) run) ts

-- one, and more of it each behind a sign

row_made : {A : Type 0} (l : ℕ) (a : A) (m : Read (List (Unit {0} × A))) → becoming first_and_more (noting l (becoming (joined a) m)) ≡ noting l (becoming (λ more. a ∷ more) (becoming (map behind_it) m))
row_made l a (Found list r k) = refl
row_made l a (Stopped k) = refl

pub first_then : {A : Type 0} (s : Sign) (run : Run A) (ts q : List Token) (a : A) (l : ℕ) → run ts ≡ Found a q l → as_new first_and_more (in_turn run (each_behind s run)) ts ≡ noting l (becoming (λ more. a ∷ more) (any_number (as_new behind_it (in_turn (of_kind (sign_code s)) run)) q))
first_then {A = A} s run ts q a l e =
    ap (λ (v : Read A). becoming first_and_more (v >>= (λ a q. becoming (joined a) (each_behind s run q)))) e
    ∙ row_made l a (each_behind s run q)
    ∙ ap (λ (v : Read (List A)). noting l (becoming (λ more. a ∷ more) v)) (each_as (sign_code s) run q)
