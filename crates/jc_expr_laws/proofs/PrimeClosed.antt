-- Parentheses come in pairs: what stands behind the parenthesis that closes one that is open. Those between braces don't count, since what
-- is skipped between braces may have any.
use Rattle.std.proofs.Common.{◌≡◌, ℕ, zero, suc, Bool, true, false, List, [], ◌∷◌, map, Option, Some, None, refl, sym, ap, ◌∙◌, subst}
use Rattle.std.proofs.lemmas.Bool.{false≢true}
use Rattle.jc_lexer.specs.declared.token.Sign.{Sign}
use Rattle.jc_lexer.specs.declared.token.Sign.TheVariants as sign_of
use Rattle.jc_lexer.specs.declared.token.Token.{Token}
use Rattle.jc_lexer.specs.declared.token.TokenKind.{TokenKind}
use Rattle.jc_lexer.specs.declared.token.TokenKind.TheVariants as kind_of
use Rattle.jc_tree.specs.declared.name.Ident.{Ident}
use Rattle.jc_grammar.specs.Told.{Told, Spelled, sign, ident, each, after_commas, commas, actuals, after_dots, names_after, brackets}
use Rattle.jc_grammar.specs.Types.{angled}
use Rattle.jc_grammar.specs.Expressions.{in_brackets, if_there}
use Rattle.jc_grammar.specs.Shapes.{is_brace}
use Rattle.jc_reading.specs.Reading.{Takes}

-- how many parentheses are open, and how many braces
abbrev pub Open : Type 0
Open = ℕ × ℕ

pub data Step : Type 0 where
  On : Open → Step
  Closes : Step

abbrev pub paren_opens : ℕ → ℕ → Step
paren_opens zero d = On (suc d, zero)
paren_opens (suc b) d = On (d, suc b)

abbrev pub paren_shuts : ℕ → ℕ → Step
paren_shuts zero zero = Closes
paren_shuts zero (suc d) = On (d, zero)
paren_shuts (suc b) d = On (d, suc b)

abbrev pub one_less : ℕ → ℕ
one_less zero = zero
one_less (suc n) = n

abbrev pub sign_step : Sign → Open → Step
sign_step sign_of.LeftParen s = paren_opens s.1 s.0
sign_step sign_of.RightParen s = paren_shuts s.1 s.0
sign_step sign_of.LeftBrace s = On (s.0, suc s.1)
sign_step sign_of.RightBrace s = On (s.0, one_less s.1)
sign_step _ s = On s

abbrev pub kind_step : TokenKind → Open → Step
kind_step (kind_of.Sign g) s = sign_step g s
kind_step _ s = On s

-- the tokens behind the parenthesis that closes one more than are open
abbrev pub after_step : Step → List Token → (Open → Option (List Token)) → Option (List Token)
after_step (On s) ts go = go s
after_step Closes ts go = Some ts

unfoldable pub after_close : List Token → Open → Option (List Token)
after_close [] s = None
after_close (t ∷ ts) s = after_step (kind_step t.kind s) ts (after_close ts)

-- one token
pub passes_on : (k : Token) (ts : List Token) (j : TokenKind) (s n : Open) → k.kind ≡ j → kind_step j s ≡ On n → after_close (k ∷ ts) s ≡ after_close ts n
unfolding after_close
passes_on k ts j s n e f = ap (λ (i : TokenKind). after_step (kind_step i s) ts (after_close ts)) e ∙ ap (λ (x : Step). after_step x ts (after_close ts)) f

pub closes_at : (k : Token) (ts : List Token) (j : TokenKind) (s : Open) → k.kind ≡ j → kind_step j s ≡ Closes → after_close (k ∷ ts) s ≡ Some ts
unfolding after_close
closes_at k ts j s e f = ap (λ (i : TokenKind). after_step (kind_step i s) ts (after_close ts)) e ∙ ap (λ (x : Step). after_step x ts (after_close ts)) f

-- where tokens that are spelled so stand, what is open behind them is what was open before
pub record Passes (s n : Open) (r : List Told) (ts q : List Token) : Type 0 where
  pub mid : List Token
  pub flag : Bool
  pub rest : Takes flag r mid q
  pub same : after_close ts s ≡ after_close mid n

pub record Closed (f : Spelled) : Type 0 where
  pub at : (s : Open) (r : List Told) (b : Bool) (ts q : List Token) → Takes b (f r) ts q → Passes s s r ts q

-- the same between braces
pub record Inside (f : Spelled) : Type 0 where
  pub at : (d c : ℕ) (r : List Told) (b : Bool) (ts q : List Token) → Takes b (f r) ts q → Passes (d, suc c) (d, suc c) r ts q

pub nothing : Closed (λ r. r)
nothing = record { at = λ s r b ts q t. record { mid = ts; flag = b; rest = t; same = refl } }

pub seq : {f g : Spelled} → Closed f → Closed g → Closed (λ r. f (g r))
seq {f} {g} first second = record {
  at = λ s r b ts q t.
      let p = first.at s (g r) b ts q t in
      let n = second.at s r p.flag p.mid q p.rest in
      record { mid = n.mid; flag = n.flag; rest = n.rest; same = p.same ∙ n.same };
}

pub nothing_inside : Inside (λ r. r)
nothing_inside = record { at = λ d c r b ts q t. record { mid = ts; flag = b; rest = t; same = refl } }

pub seq_inside : {f g : Spelled} → Inside f → Inside g → Inside (λ r. f (g r))
seq_inside {f} {g} first second = record {
  at = λ d c r b ts q t.
      let p = first.at d c (g r) b ts q t in
      let n = second.at d c r p.flag p.mid q p.rest in
      record { mid = n.mid; flag = n.flag; rest = n.rest; same = p.same ∙ n.same };
}

pub one_passes : (d : Told) (s n : Open) (r : List Told) (b : Bool) (ts q : List Token) → kind_step d.kind s ≡ On n → Takes b (d ∷ r) ts q → Passes s n r ts q
one_passes d s n r b [] q e t = absurd t
one_passes d s n r b (k ∷ ts) q e t = record { mid = ts; flag = _; rest = t.1; same = passes_on k ts d.kind s n t.0.0 e }

-- a token that is no parenthesis and no brace
pub token : (d : Told) → ((s : Open) → kind_step d.kind s ≡ On s) → Closed (λ r. d ∷ r)
token d plain = record { at = λ s r b ts q t. one_passes d s s r b ts q (plain s) t }

pub token_inside : (d : Told) → ((a c : ℕ) → kind_step d.kind (a, suc c) ≡ On (a, suc c)) → Inside (λ r. d ∷ r)
token_inside d plain = record { at = λ a c r b ts q t. one_passes d (a, suc c) (a, suc c) r b ts q (plain a c) t }

pub also_inside : {f : Spelled} → Closed f → Inside f
also_inside c = record { at = λ d e r b ts q t. c.at (d, suc e) r b ts q t }

-- two tokens round others, which are open in between
pub round : (f : Spelled) (d e : Told) (s n : Open) (r : List Told) (b : Bool) (ts q : List Token) → kind_step d.kind s ≡ On n → kind_step e.kind n ≡ On s → ((c : Bool) (us : List Token) → Takes c (f (e ∷ r)) us q → Passes n n (e ∷ r) us q) → Takes b (d ∷ f (e ∷ r)) ts q → Passes s s r ts q
round f d e s n r b ts q x y go t =
    let p = one_passes d s n (f (e ∷ r)) b ts q x t in
    let i = go p.flag p.mid p.rest in
    let o = one_passes e n s r i.flag i.mid q y i.rest in
    record { mid = o.mid; flag = o.flag; rest = o.rest; same = p.same ∙ i.same ∙ o.same }

pub in_parens : {f : Spelled} (d e : Told) → Closed f → d.kind ≡ kind_of.Sign sign_of.LeftParen → e.kind ≡ kind_of.Sign sign_of.RightParen → Closed (λ r. d ∷ f (e ∷ r))
in_parens {f} d e c x y = record { at = around }
  where
    around : (s : Open) (r : List Told) (b : Bool) (ts q : List Token) → Takes b (d ∷ f (e ∷ r)) ts q → Passes s s r ts q
    around (a, zero) r b ts q t = round f d e (a, zero) (suc a, zero) r b ts q (ap (λ (k : TokenKind). kind_step k (a, zero)) x) (ap (λ (k : TokenKind). kind_step k (suc a, zero)) y) (λ g us w. c.at (suc a, zero) (e ∷ r) g us q w) t
    around (a, suc m) r b ts q t = round f d e (a, suc m) (a, suc m) r b ts q (ap (λ (k : TokenKind). kind_step k (a, suc m)) x) (ap (λ (k : TokenKind). kind_step k (a, suc m)) y) (λ g us w. c.at (a, suc m) (e ∷ r) g us q w) t

pub in_braces : {f : Spelled} (d e : Told) → Inside f → d.kind ≡ kind_of.Sign sign_of.LeftBrace → e.kind ≡ kind_of.Sign sign_of.RightBrace → Closed (λ r. d ∷ f (e ∷ r))
in_braces {f} d e c x y = record {
  at = λ s r b ts q t. round f d e s (s.0, suc s.1) r b ts q (ap (λ (k : TokenKind). kind_step k s) x) (ap (λ (k : TokenKind). kind_step k (s.0, suc s.1)) y) (λ g us w. c.at s.0 s.1 (e ∷ r) g us q w) t;
}

brace_sign : (g : Sign) (a c : ℕ) → is_brace (kind_of.Sign g) ≡ false → sign_step g (a, suc c) ≡ On (a, suc c)
brace_sign sign_of.LeftBrace a c e = absurd (false≢true (sym e))
brace_sign sign_of.RightBrace a c e = absurd (false≢true (sym e))
brace_sign sign_of.LeftParen a c e = refl
brace_sign sign_of.RightParen a c e = refl
brace_sign _ a c e = refl

pub no_brace : (k : TokenKind) (a c : ℕ) → is_brace k ≡ false → kind_step k (a, suc c) ≡ On (a, suc c)
no_brace (kind_of.Sign g) a c e = brace_sign g a c e
no_brace _ a c e = refl

-- each of them does so
pub data AllClosed : List Spelled → Type 0 where
  ended : AllClosed []
  joined : {f : Spelled} {l : List Spelled} → Closed f → AllClosed l → AllClosed (f ∷ l)

pub all_closed : {X : Type 0} (spell : X → Spelled) → ((x : X) → Closed (spell x)) → (xs : List X) → AllClosed (map spell xs)
all_closed spell h [] = ended
all_closed spell h (x ∷ xs) = joined (h x) (all_closed spell h xs)

pub all_given : {X : Type 0} (spell : X → Spelled) (zs : List ((x : X) × Closed (spell x))) → AllClosed (map spell (map (λ z. z.0) zs))
all_given spell [] = ended
all_given spell (z ∷ zs) = joined z.1 (all_given spell zs)

pub each_closed : {l : List Spelled} → AllClosed l → Closed (each l)
each_closed ended = nothing
each_closed (joined f all) = seq f (each_closed all)

pub after_commas_closed : {l : List Spelled} → AllClosed l → Closed (after_commas l)
after_commas_closed ended = nothing
after_commas_closed (joined f all) = seq (token (sign sign_of.Comma) (λ s. refl)) (seq f (after_commas_closed all))

pub commas_closed : {l : List Spelled} → AllClosed l → Closed (commas l)
commas_closed ended = nothing
commas_closed (joined f all) = seq f (after_commas_closed all)

pub actuals_closed : {l : List Spelled} → AllClosed l → Closed (actuals l)
actuals_closed {l} all = in_parens {f = commas l} (sign sign_of.LeftParen) (sign sign_of.RightParen) (commas_closed all) refl refl

pub after_dots_closed : {l : List Spelled} → AllClosed l → Closed (after_dots l)
after_dots_closed ended = nothing
after_dots_closed (joined f all) = seq (token (sign sign_of.Dot) (λ s. refl)) (seq f (after_dots_closed all))

pub angled_closed : {l : List Spelled} → AllClosed l → Closed (angled l)
angled_closed ended = nothing
angled_closed (joined f all) = seq (token (sign sign_of.Less) (λ s. refl)) (seq (commas_closed (joined f all)) (token (sign sign_of.Greater) (λ s. refl)))

pub names_closed : (names : List Ident) → Closed (names_after names)
names_closed [] = nothing
names_closed (i ∷ names) = seq (token (sign sign_of.Dot) (λ s. refl)) (seq (token (ident i) (λ s. refl)) (names_closed names))

pub brackets_closed : (n : ℕ) → Closed (brackets n)
brackets_closed zero = nothing
brackets_closed (suc n) = seq (token (sign sign_of.LeftBracket) (λ s. refl)) (seq (token (sign sign_of.RightBracket) (λ s. refl)) (brackets_closed n))

pub in_brackets_closed : {f : Spelled} → Closed f → Closed (in_brackets f)
in_brackets_closed f = seq (token (sign sign_of.LeftBracket) (λ s. refl)) (seq f (token (sign sign_of.RightBracket) (λ s. refl)))

pub all_in_brackets : {l : List Spelled} → AllClosed l → AllClosed (map in_brackets l)
all_in_brackets ended = ended
all_in_brackets (joined f all) = joined (in_brackets_closed f) (all_in_brackets all)

pub if_there_closed : (b : Bool) (s : Sign) → ((o : Open) → sign_step s o ≡ On o) → Closed (if_there b s)
if_there_closed true s e = token (sign s) e
if_there_closed false s e = nothing

pub closed_along : {f g : Spelled} → f ≡ g → Closed g → Closed f
closed_along {f} {g} e h = subst (λ (k : Spelled). Closed k) (sym e) h

pub inside_along : {f g : Spelled} → f ≡ g → Inside g → Inside f
inside_along {f} {g} e h = subst (λ (k : Spelled). Inside k) (sym e) h
