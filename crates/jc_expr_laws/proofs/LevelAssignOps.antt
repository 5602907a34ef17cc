-- The operators of assignments, told without the rule that no `>` before one touches it.
use Rattle.std.proofs.Common.{◌≡◌, ℕ, Bool, true, false, List, [], ◌∷◌, refl, inl, inr}
use Rattle.std.proofs.lemmas.Bool.{false≢true}
use Rattle.jc_lexer.specs.declared.token.Sign.TheVariants as sign_of
use Rattle.jc_lexer.specs.declared.token.Token.{Token}
use Rattle.jc_tree.specs.declared.expression.AssignOp.{AssignOp}
use Rattle.jc_tree.specs.declared.expression.AssignOp.TheVariants as assign_of
use Rattle.jc_grammar.specs.Told.{Told, Spelled, sign}
use Rattle.jc_grammar.specs.Expressions.{inner, assign_tokens}
use Rattle.jc_reading.specs.Kinds.{sign_code, one_of}
use Rattle.jc_reading.specs.Reading.{Either, This, That, Takes}
use Rattle.jc_reading.proofs.Forms.{Lawful}
use Rattle.jc_reading.proofs.Signs.{sign_laws}
use Rattle.jc_reading.proofs.Coded.{Coded, formed, in_order, in_order_laws, one_or, one_or_laws, made_laws}
use Rattle.jc_part_laws.proofs.PartForms.{sign_form}
use Rattle.jc_part_laws.proofs.ExprForms.{expr_codes}
use Rattle.jc_expr_laws.specs.LevelReading.{Touched, AssignSign, assign_op, assign_run}
use Rattle.jc_expr_laws.proofs.LevelTests.{acts}
use Rattle.jc_expr_laws.proofs.LevelOps.{touching_form, touching_laws, told_codes, told_match, has, has_acts}
use Rattle.jc_expr_laws.proofs.LevelFlat.{Flat}

abbrev One : Type 0
One = Unit {0}

abbrev pub flat_assign : AssignOp → Spelled
flat_assign assign_of.Plain r = sign sign_of.Assign ∷ r
flat_assign assign_of.Plus r = sign sign_of.PlusAssign ∷ r
flat_assign assign_of.Minus r = sign sign_of.MinusAssign ∷ r
flat_assign assign_of.Times r = sign sign_of.StarAssign ∷ r
flat_assign assign_of.Divide r = sign sign_of.SlashAssign ∷ r
flat_assign assign_of.Remainder r = sign sign_of.PercentAssign ∷ r
flat_assign assign_of.And r = sign sign_of.AndAssign ∷ r
flat_assign assign_of.Or r = sign sign_of.OrAssign ∷ r
flat_assign assign_of.Xor r = sign sign_of.CaretAssign ∷ r
flat_assign assign_of.ShiftLeft r = sign sign_of.ShiftLeftAssign ∷ r
flat_assign assign_of.ShiftRight r = inner ∷ inner ∷ sign sign_of.Assign ∷ r
flat_assign assign_of.ShiftRightZero r = inner ∷ inner ∷ inner ∷ sign sign_of.Assign ∷ r

abbrev Longest : Coded (One × One)
Longest = in_order touching_form (sign_form sign_of.Assign)

abbrev Ending : Coded (Either One (One × One))
Ending = one_or (sign_code sign_of.Assign ∷ []) (sign_form sign_of.Assign) Longest

abbrev Running : Coded Touched
Running = in_order touching_form (in_order touching_form Ending)

running_laws : Lawful Touched (formed Running)
running_laws = in_order_laws One (One × Either One (One × One)) touching_form (in_order touching_form Ending) touching_laws
    (in_order_laws One (Either One (One × One)) touching_form Ending touching_laws
    (one_or_laws One (One × One) (sign_code sign_of.Assign ∷ []) (sign_form sign_of.Assign) Longest (sign_laws sign_of.Assign) (in_order_laws One One touching_form (sign_form sign_of.Assign) touching_laws (sign_laws sign_of.Assign) refl)
    (record { solid = refl; solid' = refl; this = refl; that = refl })) refl) refl

abbrev Signs9 : Coded (Either One (Touched))
Signs9 = one_or (sign_code sign_of.ShiftLeftAssign ∷ []) (sign_form sign_of.ShiftLeftAssign) Running

signs9_laws : Lawful (Either One (Touched)) (formed Signs9)
signs9_laws = one_or_laws One (Touched) (sign_code sign_of.ShiftLeftAssign ∷ []) (sign_form sign_of.ShiftLeftAssign) Running (sign_laws sign_of.ShiftLeftAssign) running_laws (record { solid = refl; solid' = refl; this = refl; that = refl })

abbrev Signs8 : Coded (Either One (Either One (Touched)))
Signs8 = one_or (sign_code sign_of.CaretAssign ∷ []) (sign_form sign_of.CaretAssign) Signs9

signs8_laws : Lawful (Either One (Either One (Touched))) (formed Signs8)
signs8_laws = one_or_laws One (Either One (Touched)) (sign_code sign_of.CaretAssign ∷ []) (sign_form sign_of.CaretAssign) Signs9 (sign_laws sign_of.CaretAssign) signs9_laws (record { solid = refl; solid' = refl; this = refl; that = refl })

abbrev Signs7 : Coded (Either One (Either One (Either One (Touched))))
Signs7 = one_or (sign_code sign_of.OrAssign ∷ []) (sign_form sign_of.OrAssign) Signs8

signs7_laws : Lawful (Either One (Either One (Either One (Touched)))) (formed Signs7)
signs7_laws = one_or_laws One (Either One (Either One (Touched))) (sign_code sign_of.OrAssign ∷ []) (sign_form sign_of.OrAssign) Signs8 (sign_laws sign_of.OrAssign) signs8_laws (record { solid = refl; solid' = refl; this = refl; that = refl })

abbrev Signs6 : Coded (Either One (Either One (Either One (Either One (Touched)))))
Signs6 = one_or (sign_code sign_of.AndAssign ∷ []) (sign_form sign_of.AndAssign) Signs7

signs6_laws : Lawful (Either One (Either One (Either One (Either One (Touched))))) (formed Signs6)
signs6_laws = one_or_laws One (Either One (Either One (Either One (Touched)))) (sign_code sign_of.AndAssign ∷ []) (sign_form sign_of.AndAssign) Signs7 (sign_laws sign_of.AndAssign) signs7_laws (record { solid = refl; solid' = refl; this = refl; that = refl })

abbrev Signs5 : Coded (Either One (Either One (Either One (Either One (Either One (Touched))))))
Signs5 = one_or (sign_code sign_of.PercentAssign ∷ []) (sign_form sign_of.PercentAssign) Signs6

signs5_laws : Lawful (Either One (Either One (Either One (Either One (Either One (Touched)))))) (formed Signs5)
signs5_laws = one_or_laws One (Either One (Either One (Either One (Either One (Touched))))) (sign_code sign_of.PercentAssign ∷ []) (sign_form sign_of.PercentAssign) Signs6 (sign_laws sign_of.PercentAssign) signs6_laws (record { solid = refl; solid' = refl; this = refl; that = refl })

abbrev Signs4 : Coded (Either One (Either One (Either One (Either One (Either One (Either One (Touched)))))))
Signs4 = one_or (sign_code sign_of.SlashAssign ∷ []) (sign_form sign_of.SlashAssign) Signs5

signs4_laws : Lawful (Either One (Either One (Either One (Either One (Either One (Either One (Touched))))))) (formed Signs4)
signs4_laws = one_or_laws One (Either One (Either One (Either One (Either One (Either One (Touched)))))) (sign_code sign_of.SlashAssign ∷ []) (sign_form sign_of.SlashAssign) Signs5 (sign_laws sign_of.SlashAssign) signs5_laws (record { solid = refl; solid' = refl; this = refl; that = refl })

abbrev Signs3 : Coded (Either One (Either One (Either One (Either One (Either One (Either One (Either One (Touched))))))))
Signs3 = one_or (sign_code sign_of.StarAssign ∷ []) (sign_form sign_of.StarAssign) Signs4

signs3_laws : Lawful (Either One (Either One (Either One (Either One (Either One (Either One (Either One (Touched)))))))) (formed Signs3)
signs3_laws = one_or_laws One (Either One (Either One (Either One (Either One (Either One (Either One (Touched))))))) (sign_code sign_of.StarAssign ∷ []) (sign_form sign_of.StarAssign) Signs4 (sign_laws sign_of.StarAssign) signs4_laws (record { solid = refl; solid' = refl; this = refl; that = refl })

abbrev Signs2 : Coded (Either One (Either One (Either One (Either One (Either One (Either One (Either One (Either One (Touched)))))))))
Signs2 = one_or (sign_code sign_of.MinusAssign ∷ []) (sign_form sign_of.MinusAssign) Signs3

signs2_laws : Lawful (Either One (Either One (Either One (Either One (Either One (Either One (Either One (Either One (Touched))))))))) (formed Signs2)
signs2_laws = one_or_laws One (Either One (Either One (Either One (Either One (Either One (Either One (Either One (Touched)))))))) (sign_code sign_of.MinusAssign ∷ []) (sign_form sign_of.MinusAssign) Signs3 (sign_laws sign_of.MinusAssign) signs3_laws (record { solid = refl; solid' = refl; this = refl; that = refl })

abbrev Signs1 : Coded (Either One (Either One (Either One (Either One (Either One (Either One (Either One (Either One (Either One (Touched))))))))))
Signs1 = one_or (sign_code sign_of.PlusAssign ∷ []) (sign_form sign_of.PlusAssign) Signs2

signs1_laws : Lawful (Either One (Either One (Either One (Either One (Either One (Either One (Either One (Either One (Either One (Touched)))))))))) (formed Signs1)
signs1_laws = one_or_laws One (Either One (Either One (Either One (Either One (Either One (Either One (Either One (Either One (Touched))))))))) (sign_code sign_of.PlusAssign ∷ []) (sign_form sign_of.PlusAssign) Signs2 (sign_laws sign_of.PlusAssign) signs2_laws (record { solid = refl; solid' = refl; this = refl; that = refl })

abbrev Signs0 : Coded (Either One (Either One (Either One (Either One (Either One (Either One (Either One (Either One (Either One (Either One (Touched)))))))))))
Signs0 = one_or (sign_code sign_of.Assign ∷ []) (sign_form sign_of.Assign) Signs1

signs0_laws : Lawful (Either One (Either One (Either One (Either One (Either One (Either One (Either One (Either One (Either One (Either One (Touched))))))))))) (formed Signs0)
signs0_laws = one_or_laws One (Either One (Either One (Either One (Either One (Either One (Either One (Either One (Either One (Either One (Touched)))))))))) (sign_code sign_of.Assign ∷ []) (sign_form sign_of.Assign) Signs1 (sign_laws sign_of.Assign) signs1_laws (record { solid = refl; solid' = refl; this = refl; that = refl })

abbrev pub assign_op_coded : Coded AssignOp
assign_op_coded = record { tell = flat_assign; fits = λ op. true; run = assign_run; starts = sign_code sign_of.Assign ∷ sign_code sign_of.PlusAssign ∷ sign_code sign_of.MinusAssign ∷ sign_code sign_of.StarAssign ∷ sign_code sign_of.SlashAssign ∷ sign_code sign_of.PercentAssign ∷ sign_code sign_of.AndAssign ∷ sign_code sign_of.OrAssign ∷ sign_code sign_of.CaretAssign ∷ sign_code sign_of.ShiftLeftAssign ∷ sign_code sign_of.Greater ∷ []; goes = []; empties = false }

told : (o : AssignSign) (r : List Told) → Signs0.fits o ≡ true → flat_assign (assign_op o) r ≡ Signs0.tell o r
told (This u) r g = refl
told (That (This u)) r g = refl
told (That (That (This u))) r g = refl
told (That (That (That (This u)))) r g = refl
told (That (That (That (That (This u))))) r g = refl
told (That (That (That (That (That (This u)))))) r g = refl
told (That (That (That (That (That (That (This u))))))) r g = refl
told (That (That (That (That (That (That (That (This u)))))))) r g = refl
told (That (That (That (That (That (That (That (That (This u))))))))) r g = refl
told (That (That (That (That (That (That (That (That (That (This u)))))))))) r g = refl
told (That (That (That (That (That (That (That (That (That (That ((u, (v, This w))))))))))))) r g = refl
told (That (That (That (That (That (That (That (That (That (That ((u, (v, That p))))))))))))) r g = refl

back : (op : AssignOp) → (o : AssignSign) × (assign_op o ≡ op) × (Signs0.fits o ≡ true)
back assign_of.Plain = (This tt, refl, refl)
back assign_of.Plus = (That (This tt), refl, refl)
back assign_of.Minus = (That (That (This tt)), refl, refl)
back assign_of.Times = (That (That (That (This tt))), refl, refl)
back assign_of.Divide = (That (That (That (That (This tt)))), refl, refl)
back assign_of.Remainder = (That (That (That (That (That (This tt))))), refl, refl)
back assign_of.And = (That (That (That (That (That (That (This tt)))))), refl, refl)
back assign_of.Or = (That (That (That (That (That (That (That (This tt))))))), refl, refl)
back assign_of.Xor = (That (That (That (That (That (That (That (That (This tt)))))))), refl, refl)
back assign_of.ShiftLeft = (That (That (That (That (That (That (That (That (That (This tt))))))))), refl, refl)
back assign_of.ShiftRight = (That (That (That (That (That (That (That (That (That (That ((tt, (tt, This tt)))))))))))), refl, refl)
back assign_of.ShiftRightZero = (That (That (That (That (That (That (That (That (That (That ((tt, (tt, That (tt, tt))))))))))))), refl, refl)

pub assign_op_laws : Lawful AssignOp (formed assign_op_coded)
unfolding assign_run
assign_op_laws = made_laws AssignSign AssignOp Signs0 assign_op flat_assign (λ op. true) signs0_laws (record { told = told; forth = λ o g. refl; back = λ op g. back op })

abbrev pub assign_ops : List (List ℕ)
assign_ops =
    (sign_code sign_of.Assign ∷ []) ∷ (sign_code sign_of.PlusAssign ∷ []) ∷ (sign_code sign_of.MinusAssign ∷ []) ∷ (sign_code sign_of.StarAssign ∷ []) ∷ (sign_code sign_of.SlashAssign ∷ []) ∷ (sign_code sign_of.PercentAssign ∷ []) ∷ (sign_code sign_of.AndAssign ∷ []) ∷ (sign_code sign_of.OrAssign ∷ []) ∷ (sign_code sign_of.CaretAssign ∷ []) ∷ (sign_code sign_of.ShiftLeftAssign ∷ [])
    ∷ (sign_code sign_of.Greater ∷ sign_code sign_of.Greater ∷ sign_code sign_of.Assign ∷ []) ∷ (sign_code sign_of.Greater ∷ sign_code sign_of.Greater ∷ sign_code sign_of.Greater ∷ sign_code sign_of.Assign ∷ []) ∷ []

has_assign : (op : AssignOp) → has (told_codes (flat_assign op [])) assign_ops ≡ true
has_assign assign_of.Plain = refl
has_assign assign_of.Plus = refl
has_assign assign_of.Minus = refl
has_assign assign_of.Times = refl
has_assign assign_of.Divide = refl
has_assign assign_of.Remainder = refl
has_assign assign_of.And = refl
has_assign assign_of.Or = refl
has_assign assign_of.Xor = refl
has_assign assign_of.ShiftLeft = refl
has_assign assign_of.ShiftRight = refl
has_assign assign_of.ShiftRightZero = refl

pub assign_acts : (op : AssignOp) (ts m : List Token) → Takes false (flat_assign op []) ts m → one_of expr_codes m ≡ true → acts assign_ops ts ≡ true
assign_acts op ts m s e = has_acts (told_codes (flat_assign op [])) assign_ops ts (has_assign op) (told_match false (flat_assign op []) ts m s e)

-- behind what doesn't end with a `>`
pub flat_assigns : (op : AssignOp) (f a : List Told) → ((b : Bool) → Flat b f a) → Flat false (flat_assign op f) (assign_tokens op a)
flat_assigns assign_of.Plain f a k = (refl, refl, refl, λ e. inl e, λ e. e, k _)
flat_assigns assign_of.Plus f a k = (refl, refl, refl, λ e. inl e, λ e. e, k _)
flat_assigns assign_of.Minus f a k = (refl, refl, refl, λ e. inl e, λ e. e, k _)
flat_assigns assign_of.Times f a k = (refl, refl, refl, λ e. inl e, λ e. e, k _)
flat_assigns assign_of.Divide f a k = (refl, refl, refl, λ e. inl e, λ e. e, k _)
flat_assigns assign_of.Remainder f a k = (refl, refl, refl, λ e. inl e, λ e. e, k _)
flat_assigns assign_of.And f a k = (refl, refl, refl, λ e. inl e, λ e. e, k _)
flat_assigns assign_of.Or f a k = (refl, refl, refl, λ e. inl e, λ e. e, k _)
flat_assigns assign_of.Xor f a k = (refl, refl, refl, λ e. inl e, λ e. e, k _)
flat_assigns assign_of.ShiftLeft f a k = (refl, refl, refl, λ e. inl e, λ e. e, k _)
flat_assigns assign_of.ShiftRight f a k = (refl, refl, refl, λ e. inr refl, λ e. absurd (false≢true e), (refl, refl, refl, λ e. inl e, λ e. e, (refl, refl, refl, λ e. inl e, λ e. e, k _)))
flat_assigns assign_of.ShiftRightZero f a k = (refl, refl, refl, λ e. inr refl, λ e. absurd (false≢true e), (refl, refl, refl, λ e. inl e, λ e. e, (refl, refl, refl, λ e. inl e, λ e. e, (refl, refl, refl, λ e. inl e, λ e. e, k _))))
