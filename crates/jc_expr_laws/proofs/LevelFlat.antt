-- Tokens told with and without the rule that no `>` before an operator touches it.
use Rattle.std.proofs.Common.{◌≡◌, Bool, true, false, List, [], ◌∷◌, ◌++◌, refl, sym, ◌∙◌, subst, ⊎_elim, ◌⊎◌, inl, inr}
use Rattle.std.proofs.lemmas.Bool.{false≢true, and_parts}
use Rattle.std.specs.Prelude.{◌&&◌}
use Rattle.jc_lexer.specs.declared.token.Token.{Token}
use Rattle.jc_lexer.specs.declared.token.TokenKind.{TokenKind}
use Rattle.jc_tree.specs.declared.expression.BinaryOp.{BinaryOp}
use Rattle.jc_tree.specs.declared.expression.BinaryOp.TheVariants as binary_of
use Rattle.jc_tree.specs.declared.expression.Expr.{Expr}
use Rattle.jc_grammar.specs.Told.{Told}
use Rattle.jc_grammar.specs.Spelling.{StandsAt, is_greater}
use Rattle.jc_grammar.specs.Expressions.{binary_tokens, expr_tokens}
use Rattle.jc_grammar.proofs.FramedExpressions.{expr_frames}
use Rattle.jc_reading.specs.Reading.{Takes}
use Rattle.jc_reading.proofs.Lists.{tell_all, fits_all}
use Rattle.jc_expr_laws.proofs.LevelOps.{flat_tokens}
use Rattle.jc_expr_laws.proofs.LevelLasts.{ends_open, Silent}

-- the same tokens; where the one tells that no `>` touches and the other does not, the token before is none
abbrev pub Flat : Bool → List Told → List Told → Type 0
Flat b [] [] = Unit {0}
Flat b [] (e ∷ a) = ⊥
Flat b (d ∷ f) [] = ⊥
Flat b (d ∷ f) (e ∷ a) =
    (d.kind ≡ e.kind) × (d.at ≡ e.at) × (d.joins ≡ e.joins) × (e.apart ≡ true → (d.apart ≡ true) ⊎ (b ≡ false)) × (d.apart ≡ true → e.apart ≡ true) × Flat (is_greater d.kind) f a

touched_next : (k j : TokenKind) (touches : Bool) → k ≡ j → (is_greater k && touches) ≡ true → is_greater j ≡ true
touched_next k j touches e g = subst (λ (i : TokenKind). is_greater i ≡ true) e (and_parts (is_greater k) touches g).0

never_both : (touched b : Bool) → (touched ≡ true → b ≡ true) → b ≡ false → touched ≡ false
never_both true b f e = absurd (false≢true (sym e ∙ f refl))
never_both false b f e = refl

pub flat_forth : (touched b : Bool) (f a : List Told) (ts r : List Token) → (touched ≡ true → b ≡ true) → Flat b f a → Takes touched f ts r → Takes touched a ts r
flat_forth touched b [] [] ts r w k s = s
flat_forth touched b [] (e ∷ a) ts r w k s = absurd k
flat_forth touched b (d ∷ f) [] ts r w k s = absurd k
flat_forth touched b (d ∷ f) (e ∷ a) [] r w k s = absurd s
flat_forth touched b (d ∷ f) (e ∷ a) (t ∷ ts) r w k s = (
  (s.0.0 ∙ k.0, subst (λ o. StandsAt o t.from) k.1 s.0.1, λ j. s.0.2 (k.2 ∙ j), λ q. ⊎_elim (λ (p : d.apart ≡ true). s.0.3 p) (λ (p : b ≡ false). never_both touched b w p) (k.3 q)),
  flat_forth (is_greater t.kind && t.touches) (is_greater d.kind) f a ts r (touched_next t.kind d.kind t.touches s.0.0) k.5 s.1,
)

pub flat_back : (touched b : Bool) (f a : List Told) (ts r : List Token) → Flat b f a → Takes touched a ts r → Takes touched f ts r
flat_back touched b [] [] ts r k s = s
flat_back touched b [] (e ∷ a) ts r k s = absurd k
flat_back touched b (d ∷ f) [] ts r k s = absurd k
flat_back touched b (d ∷ f) (e ∷ a) [] r k s = absurd s
flat_back touched b (d ∷ f) (e ∷ a) (t ∷ ts) r k s =
    ((s.0.0 ∙ sym k.0, subst (λ o. StandsAt o t.from) (sym k.1) s.0.1, λ j. s.0.2 (sym k.2 ∙ j), λ q. s.0.3 (k.4 q)), flat_back (is_greater t.kind && t.touches) (is_greater d.kind) f a ts r k.5 s.1)

flat_after : (b : Bool) (x f a : List Told) → Flat (ends_open b x) f a → Flat b (x ++ f) (x ++ a)
flat_after b [] f a k = k
flat_after b (d ∷ x) f a k = (refl, refl, refl, λ e. inl e, λ e. e, flat_after (is_greater d.kind) x f a k)

-- behind an expression
pub flat_expr : (b : Bool) (e : Expr) (f a : List Told) → Flat (ends_open b (expr_tokens e [])) f a → Flat b (expr_tokens e f) (expr_tokens e a)
flat_expr b e f a k =
    subst (λ (l : List Told). Flat b l (expr_tokens e a)) (sym ((expr_frames e).at [] f))
    (subst (λ (l : List Told). Flat b (expr_tokens e [] ++ f) l) (sym ((expr_frames e).at [] a)) (flat_after b (expr_tokens e []) f a k))

abbrev Any : List Told → List Told → Type 0
Any f a = (b : Bool) → Flat b f a

-- an operator behind what doesn't end with a `>`
flat_op : (op : BinaryOp) (f a : List Told) → Any f a → Flat false (flat_tokens op f) (binary_tokens op a)
flat_op binary_of.Greater f a k = (refl, refl, refl, λ e. inr refl, λ e. absurd (false≢true e), k _)
flat_op binary_of.GreaterEqual f a k = (refl, refl, refl, λ e. inr refl, λ e. absurd (false≢true e), (refl, refl, refl, λ e. inl e, λ e. e, k _))
flat_op binary_of.ShiftRight f a k = (refl, refl, refl, λ e. inr refl, λ e. absurd (false≢true e), (refl, refl, refl, λ e. inl e, λ e. e, k _))
flat_op binary_of.ShiftRightZero f a k =
    (refl, refl, refl, λ e. inr refl, λ e. absurd (false≢true e), (refl, refl, refl, λ e. inl e, λ e. e, (refl, refl, refl, λ e. inl e, λ e. e, k _)))
flat_op binary_of.OrElse f a k = (refl, refl, refl, λ e. inl e, λ e. e, k _)
flat_op binary_of.AndAlso f a k = (refl, refl, refl, λ e. inl e, λ e. e, k _)
flat_op binary_of.Or f a k = (refl, refl, refl, λ e. inl e, λ e. e, k _)
flat_op binary_of.Xor f a k = (refl, refl, refl, λ e. inl e, λ e. e, k _)
flat_op binary_of.And f a k = (refl, refl, refl, λ e. inl e, λ e. e, k _)
flat_op binary_of.Equal f a k = (refl, refl, refl, λ e. inl e, λ e. e, k _)
flat_op binary_of.NotEqual f a k = (refl, refl, refl, λ e. inl e, λ e. e, k _)
flat_op binary_of.Less f a k = (refl, refl, refl, λ e. inl e, λ e. e, k _)
flat_op binary_of.LessEqual f a k = (refl, refl, refl, λ e. inl e, λ e. e, k _)
flat_op binary_of.ShiftLeft f a k = (refl, refl, refl, λ e. inl e, λ e. e, k _)
flat_op binary_of.Plus f a k = (refl, refl, refl, λ e. inl e, λ e. e, k _)
flat_op binary_of.Minus f a k = (refl, refl, refl, λ e. inl e, λ e. e, k _)
flat_op binary_of.Times f a k = (refl, refl, refl, λ e. inl e, λ e. e, k _)
flat_op binary_of.Divide f a k = (refl, refl, refl, λ e. inl e, λ e. e, k _)
flat_op binary_of.Remainder f a k = (refl, refl, refl, λ e. inl e, λ e. e, k _)

-- the operators of a chain with their operands, told in either way
abbrev pub flat_tail : List (BinaryOp × Expr) → List Told → List Told
flat_tail list r = tell_all (λ (p : BinaryOp × Expr) (s : List Told). flat_tokens p.0 (expr_tokens p.1 s)) list r

abbrev pub real_tail : List (BinaryOp × Expr) → List Told → List Told
real_tail list r = tell_all (λ (p : BinaryOp × Expr) (s : List Told). binary_tokens p.0 (expr_tokens p.1 s)) list r

-- operands that don't end with a `>`
pub flat_list : (quiet : BinaryOp × Expr → Bool) → ((p : BinaryOp × Expr) → quiet p ≡ true → Silent (expr_tokens p.1 [])) → (list : List (BinaryOp × Expr)) → fits_all quiet list ≡ true → Flat false (flat_tail list []) (real_tail list [])
flat_list quiet s [] g = tt
flat_list quiet s (p ∷ list) g =
    let w = and_parts (quiet p) (fits_all quiet list) g in
    flat_op p.0 (expr_tokens p.1 (flat_tail list [])) (expr_tokens p.1 (real_tail list []))
    (λ b. flat_expr b p.1 (flat_tail list []) (real_tail list []) (subst (λ (c : Bool). Flat c (flat_tail list []) (real_tail list [])) (sym (s p w.0 b)) (flat_list quiet s list w.1)))

-- operators that don't begin with a `>`: all but those of the levels of `<` and `<<`
abbrev pub is_flat : BinaryOp → Bool
is_flat binary_of.Greater = false
is_flat binary_of.GreaterEqual = false
is_flat binary_of.ShiftRight = false
is_flat binary_of.ShiftRightZero = false
is_flat _ = true

flat_any : (op : BinaryOp) → is_flat op ≡ true → (f a : List Told) → Any f a → Any (flat_tokens op f) (binary_tokens op a)
flat_any binary_of.Greater g f a k = absurd (false≢true g)
flat_any binary_of.GreaterEqual g f a k = absurd (false≢true g)
flat_any binary_of.ShiftRight g f a k = absurd (false≢true g)
flat_any binary_of.ShiftRightZero g f a k = absurd (false≢true g)
flat_any binary_of.OrElse g f a k = λ b. (refl, refl, refl, λ e. inl e, λ e. e, k _)
flat_any binary_of.AndAlso g f a k = λ b. (refl, refl, refl, λ e. inl e, λ e. e, k _)
flat_any binary_of.Or g f a k = λ b. (refl, refl, refl, λ e. inl e, λ e. e, k _)
flat_any binary_of.Xor g f a k = λ b. (refl, refl, refl, λ e. inl e, λ e. e, k _)
flat_any binary_of.And g f a k = λ b. (refl, refl, refl, λ e. inl e, λ e. e, k _)
flat_any binary_of.Equal g f a k = λ b. (refl, refl, refl, λ e. inl e, λ e. e, k _)
flat_any binary_of.NotEqual g f a k = λ b. (refl, refl, refl, λ e. inl e, λ e. e, k _)
flat_any binary_of.Less g f a k = λ b. (refl, refl, refl, λ e. inl e, λ e. e, k _)
flat_any binary_of.LessEqual g f a k = λ b. (refl, refl, refl, λ e. inl e, λ e. e, k _)
flat_any binary_of.ShiftLeft g f a k = λ b. (refl, refl, refl, λ e. inl e, λ e. e, k _)
flat_any binary_of.Plus g f a k = λ b. (refl, refl, refl, λ e. inl e, λ e. e, k _)
flat_any binary_of.Minus g f a k = λ b. (refl, refl, refl, λ e. inl e, λ e. e, k _)
flat_any binary_of.Times g f a k = λ b. (refl, refl, refl, λ e. inl e, λ e. e, k _)
flat_any binary_of.Divide g f a k = λ b. (refl, refl, refl, λ e. inl e, λ e. e, k _)
flat_any binary_of.Remainder g f a k = λ b. (refl, refl, refl, λ e. inl e, λ e. e, k _)

pub flat_anywhere : (test : BinaryOp × Expr → Bool) → ((p : BinaryOp × Expr) → test p ≡ true → is_flat p.0 ≡ true) → (list : List (BinaryOp × Expr)) → fits_all test list ≡ true → (b : Bool) → Flat b (flat_tail list []) (real_tail list [])
flat_anywhere test s [] g b = tt
flat_anywhere test s (p ∷ list) g b =
    let w = and_parts (test p) (fits_all test list) g in
    flat_any p.0 (s p w.0) (expr_tokens p.1 (flat_tail list [])) (expr_tokens p.1 (real_tail list []))
    (λ c. flat_expr c p.1 (flat_tail list []) (real_tail list []) (flat_anywhere test s list w.1 (ends_open c (expr_tokens p.1 [])))) b
