-- What stands behind the names and brackets at the front of some tokens, as a type may have them.
use Rattle.std.proofs.Common.{◌≡◌, ℕ, zero, suc, Bool, true, false, cond, List, [], ◌∷◌, ◌++◌, map, refl, sym, ap, ◌∙◌, subst, ⊎_elim, ◌⊎◌, inl, inr}
use Rattle.std.proofs.lemmas.Bool.{false≢true, and_left, and_right, eqb-true}
use Rattle.std.specs.Prelude.{◌||◌, ◌==◌}
use Rattle.std.specs.List.{list_all}
use Rattle.jc_lexer.specs.declared.token.Key.TheVariants as key_of
use Rattle.jc_lexer.specs.declared.token.Sign.TheVariants as sign_of
use Rattle.jc_lexer.specs.declared.token.Token.{Token}
use Rattle.jc_lexer.specs.declared.token.TokenKind.{TokenKind}
use Rattle.jc_tree.specs.declared.name.Ident.{Ident}
use Rattle.jc_tree.specs.declared.types.BaseTree.{BaseTree, BaseTree-F, out-BaseTree, roll-BaseTree, roll-out-BaseTree}
use Rattle.jc_tree.specs.declared.types.BaseTree.TheVariants as base_of
use Rattle.jc_tree.specs.declared.types.ClassTree.{ClassTree, out-ClassTree}
use Rattle.jc_tree.specs.declared.types.PrimitiveWord.{PrimitiveWord}
use Rattle.jc_tree.specs.declared.types.PrimitiveWord.TheVariants as word_of
use Rattle.jc_tree.specs.declared.types.TypeArg.{TypeArg}
use Rattle.jc_tree.specs.declared.types.TypePart.{TypePart, out-TypePart}
use Rattle.jc_tree.specs.declared.types.TypeTree.{TypeTree, out-TypeTree}
use Rattle.jc_grammar.specs.Told.{Told, sign, key_at, ident, names_after, after_dots, brackets}
use Rattle.jc_grammar.specs.Types.{type_tokens, base_tokens, class_tokens, part_tokens, arg_tokens, angled, primitive_key}
use Rattle.jc_grammar.specs.Shapes.{part_is_bare, base_is_bare, is_none}
use Rattle.jc_grammar.proofs.TokensOfTypes.{base_tokens-Primitive, base_tokens-Class, class_tokens-parts, part_tokens-parts, type_tokens-parts}
use Rattle.jc_parse_type.specs.TypeReading.{primitive_codes}
use Rattle.jc_reading.specs.Kinds.{kind_code, sign_code, word_code, is_in, one_of}
use Rattle.jc_reading.specs.Reading.{Takes}

-- nothing is read yet, a name, a point behind one, a bracket behind one, or a pair of brackets or the keyword of a primitive type
pub data State : Type 0 where
  Begun : State
  Named : State
  Dotted : State
  Opened : State
  Dimmed : State

pub data Step : Type 0 where
  On : State → Step
  Ends : ℕ → Step

abbrev pub dot : ℕ
dot = sign_code sign_of.Dot

abbrev pub open_bracket : ℕ
open_bracket = sign_code sign_of.LeftBracket

abbrev pub close_bracket : List ℕ
close_bracket = sign_code sign_of.RightBracket ∷ []

abbrev pub less : ℕ
less = sign_code sign_of.Less

-- no token has this kind
abbrev pub other : ℕ
other = 998

abbrev pub step : State → ℕ → Step
step Begun c = cond (c == word_code) (On Named) (cond (is_in primitive_codes c) (On Dimmed) (Ends other))
step Named c = cond (c == dot) (On Dotted) (cond (c == open_bracket) (On Opened) (Ends c))
step Dotted c = cond (c == word_code) (On Named) (Ends dot)
step Opened c = cond (is_in close_bracket c) (On Dimmed) (Ends open_bracket)
step Dimmed c = cond (c == open_bracket) (On Opened) (Ends c)

abbrev pub after_step : {X : Type 0} → Step → (ℕ → X) → (State → X) → X
after_step (On s) end go = go s
after_step (Ends c) end go = end c

abbrev pub itself : ℕ → ℕ
itself c = c

-- the kind of the token that ends them
unfoldable pub scan : List Token → State → ℕ
scan [] s = 999
scan (t ∷ ts) s = after_step (step s (kind_code t.kind)) itself (scan ts)

-- the same of what is told
abbrev pub walk : List Told → State → Step
walk [] s = On s
walk (d ∷ told) s = after_step (step s (kind_code d.kind)) Ends (walk told)

scans_on : (t : Token) (ts : List Token) (d : Told) (s : State) (x : Step) → t.kind ≡ d.kind → step s (kind_code d.kind) ≡ x → scan (t ∷ ts) s ≡ after_step x itself (scan ts)
unfolding scan
scans_on t ts d s x e f = ap (λ (k : TokenKind). after_step (step s (kind_code k)) itself (scan ts)) e ∙ ap (λ (y : Step). after_step y itself (scan ts)) f

-- where tokens that are told so stand, others follow in another state
pub record Moves (s n : State) (r : List Told) (ts q : List Token) : Type 0 where
  pub mid : List Token
  pub flag : Bool
  pub rest : Takes flag r mid q
  pub same : scan ts s ≡ scan mid n

pub then_moves : {s m n : State} {x r : List Told} {ts q : List Token} → (p : Moves s m x ts q) → Moves m n r p.mid q → Moves s n r ts q
then_moves p w = record { mid = w.mid; flag = w.flag; rest = w.rest; same = p.same ∙ w.same }

abbrev is_on : Step → Bool
is_on (On s) = true
is_on (Ends c) = false

abbrev state_of : Step → State → State
state_of (On s) o = s
state_of (Ends c) o = o

abbrev end_of : Step → ℕ → ℕ
end_of (On s) o = o
end_of (Ends c) o = c

pub walks_on : (told : List Told) (s n : State) (r : List Told) (b : Bool) (ts q : List Token) → walk told s ≡ On n → Takes b (told ++ r) ts q → Moves s n r ts q
walks_on [] s n r b ts q e t = record { mid = ts; flag = b; rest = t; same = ap (λ (x : Step). scan ts (state_of x s)) e }
walks_on (d ∷ told) s n r b [] q e t = absurd t
walks_on (d ∷ told) s n r b (k ∷ ts) q e t = by_step (step s (kind_code d.kind)) refl e (λ m f. walks_on told m n r _ ts q f t.1)
  where
    by_step : (x : Step) → step s (kind_code d.kind) ≡ x → after_step x Ends (walk told) ≡ On n → ((m : State) → walk told m ≡ On n → Moves m n r ts q) → Moves s n r (k ∷ ts) q
    by_step (On m) p e go = let w = go m e in record { mid = w.mid; flag = w.flag; rest = w.rest; same = scans_on k ts d s (On m) t.0.0 p ∙ w.same }
    by_step (Ends c) p e go = absurd (false≢true (ap is_on e))

pub walks_end : (told : List Told) (s : State) (c : ℕ) (r : List Told) (b : Bool) (ts q : List Token) → walk told s ≡ Ends c → Takes b (told ++ r) ts q → scan ts s ≡ c
walks_end [] s c r b ts q e t = absurd (false≢true (sym (ap is_on e)))
walks_end (d ∷ told) s c r b [] q e t = absurd t
walks_end (d ∷ told) s c r b (k ∷ ts) q e t = by_step (step s (kind_code d.kind)) refl e (λ m f. walks_end told m c r _ ts q f t.1)
  where
    by_step : (x : Step) → step s (kind_code d.kind) ≡ x → after_step x Ends (walk told) ≡ Ends c → ((m : State) → walk told m ≡ Ends c → scan ts m ≡ c) → scan (k ∷ ts) s ≡ c
    by_step (On m) p e go = scans_on k ts d s (On m) t.0.0 p ∙ go m e
    by_step (Ends j) p e go = scans_on k ts d s (Ends j) t.0.0 p ∙ ap (λ (x : Step). end_of x c) e

-- names and brackets

pub names_move : (names : List Ident) (r : List Told) (b : Bool) (ts q : List Token) → Takes b (names_after names r) ts q → Moves Named Named r ts q
names_move [] r b ts q t = walks_on [] Named Named r b ts q refl t
names_move (i ∷ names) r b ts q t =
    let w = walks_on (sign sign_of.Dot ∷ ident i ∷ []) Named Named (names_after names r) b ts q refl t in
    then_moves w (names_move names r w.flag w.mid q w.rest)

pub dims_move : (n : ℕ) (r : List Told) (b : Bool) (ts q : List Token) → Takes b (brackets n r) ts q → Moves Dimmed Dimmed r ts q
dims_move zero r b ts q t = walks_on [] Dimmed Dimmed r b ts q refl t
dims_move (suc n) r b ts q t =
    let w = walks_on (sign sign_of.LeftBracket ∷ sign sign_of.RightBracket ∷ []) Dimmed Dimmed (brackets n r) b ts q refl t in
    then_moves w (dims_move n r w.flag w.mid q w.rest)

-- brackets behind a name
pub brackets_move : (n : ℕ) (r : List Told) (b : Bool) (ts q : List Token) → Takes b (brackets n r) ts q → Moves Named Named r ts q ⊎ Moves Named Dimmed r ts q
brackets_move zero r b ts q t = inl (walks_on [] Named Named r b ts q refl t)
brackets_move (suc n) r b ts q t =
    let w = walks_on (sign sign_of.LeftBracket ∷ sign sign_of.RightBracket ∷ []) Named Dimmed (brackets n r) b ts q refl t in
    inr (then_moves w (dims_move n r w.flag w.mid q w.rest))

-- types

abbrev Named_or : State → List Told → List Token → List Token → Bool → Type 0
Named_or s r ts q bare = Moves s Named r ts q ⊎ ((scan ts s ≡ less) × (bare ≡ false))

args_move : (s : State) (name : Ident) (args : List TypeArg) (r : List Told) (b : Bool) (ts q : List Token) → walk (ident name ∷ []) s ≡ On Named → walk (ident name ∷ sign sign_of.Less ∷ []) s ≡ Ends less → Takes b (ident name ∷ angled (map arg_tokens args) r) ts q → Named_or s r ts q (is_none args)
args_move s name [] r b ts q e f t = inl (walks_on (ident name ∷ []) s Named r b ts q e t)
args_move s name (a ∷ args) r b ts q e f t = inr (walks_end (ident name ∷ sign sign_of.Less ∷ []) s less _ b ts q f t, refl)

part_move : (s : State) (part : TypePart) (r : List Told) (b : Bool) (ts q : List Token) → walk (ident (out-TypePart part).name ∷ []) s ≡ On Named → walk (ident (out-TypePart part).name ∷ sign sign_of.Less ∷ []) s ≡ Ends less → Takes b (part_tokens part r) ts q → Named_or s r ts q (part_is_bare part)
part_move s part r b ts q e f t =
    args_move s (out-TypePart part).name (out-TypePart part).args r b ts q e f (subst (λ (l : List Told). Takes b l ts q) (part_tokens-parts part r) t)

parts_move : (more : List TypePart) (r : List Told) (b : Bool) (ts q : List Token) → Takes b (after_dots (map part_tokens more) r) ts q → Named_or Named r ts q (list_all part_is_bare more)
parts_move [] r b ts q t = inl (walks_on [] Named Named r b ts q refl t)
parts_move (part ∷ more) r b ts q t =
    let w = walks_on (sign sign_of.Dot ∷ []) Named Dotted (part_tokens part (after_dots (map part_tokens more) r)) b ts q refl t in
    ⊎_elim
    (λ p. ⊎_elim (λ n. inl (then_moves w (then_moves p n))) (λ o. inr (w.same ∙ p.same ∙ o.0, and_right (part_is_bare part) (list_all part_is_bare more) o.1)) (parts_move more r p.flag p.mid q p.rest))
    (λ o. inr (w.same ∙ o.0, and_left (part_is_bare part) (list_all part_is_bare more) o.1))
    (part_move Dotted part (after_dots (map part_tokens more) r) w.flag w.mid q refl refl w.rest)

pub class_move : (c : ClassTree) (r : List Told) (b : Bool) (ts q : List Token) → Takes b (class_tokens c r) ts q → Named_or Begun r ts q (base_is_bare (BaseTree-F.Class c))
class_move c r b ts q t =
    let first = (out-ClassTree c).first in
    let more = (out-ClassTree c).more in
    ⊎_elim
    (λ p. ⊎_elim (λ n. inl (then_moves p n)) (λ o. inr (p.same ∙ o.0, and_right (part_is_bare first) (list_all part_is_bare more) o.1)) (parts_move more r p.flag p.mid q p.rest))
    (λ o. inr (o.0, and_left (part_is_bare first) (list_all part_is_bare more) o.1))
    (part_move Begun first (after_dots (map part_tokens more) r) b ts q refl refl (subst (λ (l : List Told). Takes b l ts q) (class_tokens-parts c r) t))

pub word_move : (at : ℕ) (w : PrimitiveWord) (r : List Told) (b : Bool) (ts q : List Token) → Takes b (key_at (primitive_key w) at ∷ r) ts q → Moves Begun Dimmed r ts q
word_move at word_of.Boolean r b ts q t = walks_on (key_at key_of.Boolean at ∷ []) Begun Dimmed r b ts q refl t
word_move at word_of.Byte r b ts q t = walks_on (key_at key_of.Byte at ∷ []) Begun Dimmed r b ts q refl t
word_move at word_of.Short r b ts q t = walks_on (key_at key_of.Short at ∷ []) Begun Dimmed r b ts q refl t
word_move at word_of.Char r b ts q t = walks_on (key_at key_of.Char at ∷ []) Begun Dimmed r b ts q refl t
word_move at word_of.Int r b ts q t = walks_on (key_at key_of.Int at ∷ []) Begun Dimmed r b ts q refl t
word_move at word_of.Long r b ts q t = walks_on (key_at key_of.Long at ∷ []) Begun Dimmed r b ts q refl t

-- a whole type: others follow behind a name or brackets, or there are arguments
pub record Typed (r : List Told) (ts q : List Token) : Type 0 where
  pub state : State
  pub is_end : (state ≡ Named) ⊎ (state ≡ Dimmed)
  pub moves : Moves Begun state r ts q

base_move : (n : ℕ) (r : List Told) (base : BaseTree) (l : BaseTree-F BaseTree TypeArg ClassTree TypePart TypeTree) (b : Bool) (ts q : List Token) → out-BaseTree base ≡ l → Takes b (base_tokens base (brackets n r)) ts q → Typed r ts q ⊎ ((scan ts Begun ≡ less) × (base_is_bare l ≡ false))
base_move n r base (BaseTree-F.Primitive at w) b ts q o t =
    let same : base_of.Primitive at w ≡ base = sym (base_of.rolls-Primitive at w) ∙ ap roll-BaseTree (sym o) ∙ roll-out-BaseTree base in
    let p = word_move at w (brackets n r) b ts q (subst (λ (l : List Told). Takes b l ts q) (ap (λ (c : BaseTree). base_tokens c (brackets n r)) (sym same) ∙ base_tokens-Primitive at w (brackets n r)) t) in
    inl (record { state = Dimmed; is_end = inr refl; moves = then_moves p (dims_move n r p.flag p.mid q p.rest) })
base_move n r base (BaseTree-F.Class c) b ts q o t =
    let same : base_of.Class c ≡ base = sym (base_of.rolls-Class c) ∙ ap roll-BaseTree (sym o) ∙ roll-out-BaseTree base in
    ⊎_elim
    (λ p. ⊎_elim (λ w. inl (record { state = Named; is_end = inl refl; moves = then_moves p w })) (λ w. inl (record { state = Dimmed; is_end = inr refl; moves = then_moves p w })) (brackets_move n r p.flag p.mid q p.rest))
    (λ z. inr z)
    (class_move c (brackets n r) b ts q (subst (λ (l : List Told). Takes b l ts q) (ap (λ (d : BaseTree). base_tokens d (brackets n r)) (sym same) ∙ base_tokens-Class c (brackets n r)) t))

pub type_move : (ty : TypeTree) (r : List Told) (b : Bool) (ts q : List Token) → Takes b (type_tokens ty r) ts q → Typed r ts q ⊎ ((scan ts Begun ≡ less) × (base_is_bare (out-BaseTree (out-TypeTree ty).base) ≡ false))
type_move ty r b ts q t =
    base_move (out-TypeTree ty).dims r (out-TypeTree ty).base (out-BaseTree (out-TypeTree ty).base) b ts q refl (subst (λ (l : List Told). Takes b l ts q) (type_tokens-parts ty r) t)

-- behind a type with a word behind it
abbrev pub type_ends : List ℕ
type_ends = word_code ∷ less ∷ []

word_ends : (s : State) (q : List Token) → (s ≡ Named) ⊎ (s ≡ Dimmed) → one_of (word_code ∷ []) q ≡ true → scan q s ≡ word_code
unfolding scan
word_ends s [] h e = absurd (false≢true e)
word_ends s (t ∷ q) h e =
    let k : kind_code t.kind ≡ word_code = sym (eqb-true word_code (kind_code t.kind) (only (word_code == kind_code t.kind) e)) in
    ⊎_elim
    (λ n. ap (λ (z : State). scan (t ∷ q) z) n ∙ ap (λ (c : ℕ). after_step (step Named c) itself (scan q)) k)
    (λ n. ap (λ (z : State). scan (t ∷ q) z) n ∙ ap (λ (c : ℕ). after_step (step Dimmed c) itself (scan q)) k) h
  where
    only : (b : Bool) → (b || false) ≡ true → b ≡ true
    only true e = refl
    only false e = e

pub type_scan : (ty : TypeTree) (ts q : List Token) → Takes false (type_tokens ty []) ts q → one_of (word_code ∷ []) q ≡ true → is_in type_ends (scan ts Begun) ≡ true
type_scan ty ts q t e =
    ⊎_elim
    (λ (y : Typed [] ts q).
    let k : scan y.moves.mid y.state ≡ word_code = subst (λ (us : List Token). scan us y.state ≡ word_code) (sym y.moves.rest) (word_ends y.state q y.is_end e) in
    subst (λ (c : ℕ). is_in type_ends c ≡ true) (sym (y.moves.same ∙ k)) refl)
    (λ z. subst (λ (c : ℕ). is_in type_ends c ≡ true) (sym z.0) refl)
    (type_move ty [] false ts q t)
