-- An assignment operator that is no single sign.
use Rattle.std.proofs.Common.{◌≡◌, ℕ, false, List, [], ◌∷◌, refl, ap, ◌∙◌}
use Rattle.std.proofs.lemmas.Bool.{cond-false}
use Rattle.jc_lexer.specs.declared.token.Sign.TheVariants as sign_of
use Rattle.jc_lexer.specs.declared.token.Token.{Token}
use Rattle.jc_reading.specs.Kinds.{sign_code, one_of}
use Rattle.jc_reading.specs.Reading.{Read, Found, Stopped, Run, becoming, as_new, Either, This, That, either, of_kind}
use Rattle.jc_expr_laws.specs.LevelReading.{Touched, assign_op, assign_run, touched_assign_run}
use Rattle.jc_parse_expr.specs.BinaryLevels.{touched_assign_made}

abbrev None_of : List Token → ℕ → Type 0
None_of ts code = one_of (code ∷ []) ts ≡ false

later : {A B : Type 0} (code : ℕ) (m : Run A) (n : Run B) (ts : List Token) → None_of ts code → either (code ∷ []) m n ts ≡ becoming That (n ts)
later code m n ts e = cond-false (one_of (code ∷ []) ts) (becoming This (m ts)) (becoming That (n ts)) e

last_made : (m : Read Touched) → becoming assign_op (becoming That (becoming That (becoming That (becoming That (becoming That (becoming That (becoming That (becoming That (becoming That (becoming That m)))))))))) ≡ becoming touched_assign_made m
last_made (Found (u, (v, This w)) r l) = refl
last_made (Found (u, (v, That p)) r l) = refl
last_made (Stopped l) = refl

abbrev Behind10 : Run Touched
Behind10 = touched_assign_run

abbrev Behind9 : Run (Either (Unit {0}) Touched)
Behind9 = either (sign_code sign_of.ShiftLeftAssign ∷ []) (of_kind (sign_code sign_of.ShiftLeftAssign)) Behind10

abbrev Behind8 : Run (Either (Unit {0}) (Either (Unit {0}) Touched))
Behind8 = either (sign_code sign_of.CaretAssign ∷ []) (of_kind (sign_code sign_of.CaretAssign)) Behind9

abbrev Behind7 : Run (Either (Unit {0}) (Either (Unit {0}) (Either (Unit {0}) Touched)))
Behind7 = either (sign_code sign_of.OrAssign ∷ []) (of_kind (sign_code sign_of.OrAssign)) Behind8

abbrev Behind6 : Run (Either (Unit {0}) (Either (Unit {0}) (Either (Unit {0}) (Either (Unit {0}) Touched))))
Behind6 = either (sign_code sign_of.AndAssign ∷ []) (of_kind (sign_code sign_of.AndAssign)) Behind7

abbrev Behind5 : Run (Either (Unit {0}) (Either (Unit {0}) (Either (Unit {0}) (Either (Unit {0}) (Either (Unit {0}) Touched)))))
Behind5 = either (sign_code sign_of.PercentAssign ∷ []) (of_kind (sign_code sign_of.PercentAssign)) Behind6

abbrev Behind4 : Run (Either (Unit {0}) (Either (Unit {0}) (Either (Unit {0}) (Either (Unit {0}) (Either (Unit {0}) (Either (Unit {0}) Touched))))))
Behind4 = either (sign_code sign_of.SlashAssign ∷ []) (of_kind (sign_code sign_of.SlashAssign)) Behind5

abbrev Behind3 : Run (Either (Unit {0}) (Either (Unit {0}) (Either (Unit {0}) (Either (Unit {0}) (Either (Unit {0}) (Either (Unit {0}) (Either (Unit {0}) Touched)))))))
Behind3 = either (sign_code sign_of.StarAssign ∷ []) (of_kind (sign_code sign_of.StarAssign)) Behind4

abbrev Behind2 : Run (Either (Unit {0}) (Either (Unit {0}) (Either (Unit {0}) (Either (Unit {0}) (Either (Unit {0}) (Either (Unit {0}) (Either (Unit {0}) (Either (Unit {0}) Touched))))))))
Behind2 = either (sign_code sign_of.MinusAssign ∷ []) (of_kind (sign_code sign_of.MinusAssign)) Behind3

abbrev Behind1 : Run (Either (Unit {0}) (Either (Unit {0}) (Either (Unit {0}) (Either (Unit {0}) (Either (Unit {0}) (Either (Unit {0}) (Either (Unit {0}) (Either (Unit {0}) (Either (Unit {0}) Touched)))))))))
Behind1 = either (sign_code sign_of.PlusAssign ∷ []) (of_kind (sign_code sign_of.PlusAssign)) Behind2

pub assign_touched : (ts : List Token) → None_of ts (sign_code sign_of.Assign) → None_of ts (sign_code sign_of.PlusAssign) → None_of ts (sign_code sign_of.MinusAssign) → None_of ts (sign_code sign_of.StarAssign) → None_of ts (sign_code sign_of.SlashAssign) → None_of ts (sign_code sign_of.PercentAssign) → None_of ts (sign_code sign_of.AndAssign) → None_of ts (sign_code sign_of.OrAssign) → None_of ts (sign_code sign_of.CaretAssign) → None_of ts (sign_code sign_of.ShiftLeftAssign) → assign_run ts ≡ as_new touched_assign_made touched_assign_run ts
unfolding assign_run
assign_touched ts e0 e1 e2 e3 e4 e5 e6 e7 e8 e9 =
    ap (becoming assign_op) (later (sign_code sign_of.Assign) (of_kind (sign_code sign_of.Assign)) Behind1 ts e0 ∙ ap (becoming That) (later (sign_code sign_of.PlusAssign) (of_kind (sign_code sign_of.PlusAssign)) Behind2 ts e1 ∙ ap (becoming That) (later (sign_code sign_of.MinusAssign) (of_kind (sign_code sign_of.MinusAssign)) Behind3 ts e2 ∙ ap (becoming That) (later (sign_code sign_of.StarAssign) (of_kind (sign_code sign_of.StarAssign)) Behind4 ts e3 ∙ ap (becoming That) (later (sign_code sign_of.SlashAssign) (of_kind (sign_code sign_of.SlashAssign)) Behind5 ts e4 ∙ ap (becoming That) (later (sign_code sign_of.PercentAssign) (of_kind (sign_code sign_of.PercentAssign)) Behind6 ts e5 ∙ ap (becoming That) (later (sign_code sign_of.AndAssign) (of_kind (sign_code sign_of.AndAssign)) Behind7 ts e6 ∙ ap (becoming That) (later (sign_code sign_of.OrAssign) (of_kind (sign_code sign_of.OrAssign)) Behind8 ts e7 ∙ ap (becoming That) (later (sign_code sign_of.CaretAssign) (of_kind (sign_code sign_of.CaretAssign)) Behind9 ts e8 ∙ ap (becoming That) (later (sign_code sign_of.ShiftLeftAssign) (of_kind (sign_code sign_of.ShiftLeftAssign)) Behind10 ts e9))))))))))
    ∙ last_made (touched_assign_run ts)
