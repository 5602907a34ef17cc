-- The forms of types, and that they are read as they are to be.
use Rattle.std.proofs.Common.{◌≡◌, ℕ, zero, suc, Bool, true, false, List, [], ◌∷◌, map, length, Option, Some, None, refl, sym, ap, ◌∙◌, subst, ⊎_elim}
use Rattle.std.proofs.lemmas.Bool.{false≢true, or_cases, or_from, and_left, and_parts}
use Rattle.std.specs.Prelude.{◌&&◌, ◌||◌, ◌==◌, nat_le}
use Rattle.jc_lexer.specs.declared.token.Key.{Key}
use Rattle.jc_lexer.specs.declared.token.Key.TheVariants as key_of
use Rattle.jc_lexer.specs.declared.token.Sign.TheVariants as sign_of
use Rattle.jc_lexer.specs.declared.token.Token.{Token}
use Rattle.jc_lexer.specs.declared.token.TokenKind.{TokenKind}
use Rattle.jc_lexer.specs.declared.token.TokenKind.TheVariants as kind_of
use Rattle.jc_tree.specs.declared.name.Ident.{Ident}
use Rattle.jc_tree.specs.declared.types.BaseTree.{BaseTree, BaseTree-F, roll-BaseTree, out-BaseTree, roll-out-BaseTree}
use Rattle.jc_tree.specs.declared.types.BaseTree.TheVariants as base_of
use Rattle.jc_tree.specs.declared.types.TypeArg.{TypeArg, TypeArg-F, out-TypeArg, roll-TypeArg, roll-out-TypeArg}
use Rattle.jc_tree.specs.declared.types.TypeArg.TheVariants as arg_of
use Rattle.jc_tree.specs.declared.types.ClassTree.{ClassTree, roll-ClassTree, out-ClassTree, roll-out-ClassTree}
use Rattle.jc_tree.specs.declared.types.TypePart.{TypePart, out-TypePart, roll-out-TypePart}
use Rattle.jc_tree.specs.declared.types.TypeTree.{TypeTree, out-TypeTree, roll-out-TypeTree}
use Rattle.jc_tree.specs.declared.types.PrimitiveWord.{PrimitiveWord}
use Rattle.jc_tree.specs.declared.types.PrimitiveWord.TheVariants as word_of
use Rattle.jc_tree.specs.Heights.{most, base_height, arg_height, class_height, part_height, type_height}
use Rattle.jc_tree.proofs.HeightsOfTypes.{type_height-parts, base_height-Primitive, base_height-Class, arg_height-Exact, arg_height-Any, arg_height-Extends, arg_height-Super, class_height-made, part_height-made, type_height-made}
use Rattle.jc_grammar.specs.Told.{Told, sign, key_at, after_dots, brackets}
use Rattle.jc_grammar.specs.Types.{primitive_key, base_tokens, arg_tokens, class_tokens, part_tokens, type_tokens, angled}
use Rattle.jc_grammar.proofs.TokensOfTypes.{base_tokens-Primitive, base_tokens-Class, arg_tokens-Exact, arg_tokens-Any, arg_tokens-Extends, arg_tokens-Super, class_tokens-made, part_tokens-made, type_tokens-made}
use Rattle.jc_reading.specs.Kinds.{kind_code, sign_code, key_code, word_code, is_in, front_code, one_of}
use Rattle.jc_reading.specs.Reading.{Either, This, That, rest_of, behind_it}
use Rattle.jc_reading.proofs.Forms.{Form, Lawful}
use Rattle.jc_reading.proofs.Pairs.{pair, pair_laws}
use Rattle.jc_reading.proofs.Options.{option, option_laws}
use Rattle.jc_reading.proofs.Lists.{many, many_laws, tell_all, fits_all}
use Rattle.jc_reading.proofs.Choices.{choice, choice_laws}
use Rattle.jc_reading.proofs.Alikes.{alike_laws}
use Rattle.jc_reading.proofs.Kindly.{token, token_laws}
use Rattle.jc_reading.proofs.Ledby.{or_false, led, led_starts, led_laws, led_many, led_many_laws, commas_form, comma_starts, commas_laws, unled, unled_back, behind_fits}
use Rattle.jc_reading.proofs.Codes.{some_is, none_is}
use Rattle.jc_reading.proofs.Signs.{a_sign, a_sign_at, a_key, an_ident, sign_laws, sign_at_laws, key_laws, ident_laws, apart_sets, within_sets, in_more}
use Rattle.jc_reading.proofs.Rooms.{room_none, room_above, room_suc, room_max, room_all}
use Rattle.jc_parse_type.specs.TypeReading.{dims_run, word_of_key, word_of_kind, at_its_place, picks_word, primitive_codes, Bound, arg_made, arg_run, or_none, args_run, part_made, part_run, class_made, class_run_of, base_made, base_run_of, type_made, type_run_of, type_run, class_run, base_run}

-- {"[" "]"}

abbrev pub Bracket : Form (Unit {0} × Unit {0})
Bracket = pair (Unit {0}) (Unit {0}) (a_sign sign_of.LeftBracket) (a_sign sign_of.RightBracket)

pub bracket_laws : Lawful (Unit {0} × Unit {0}) Bracket
bracket_laws = pair_laws (Unit {0}) (Unit {0}) (a_sign sign_of.LeftBracket) (a_sign sign_of.RightBracket) (sign_laws sign_of.LeftBracket) (sign_laws sign_of.RightBracket) (λ ts e. refl)

abbrev pub bracket_codes : List ℕ
bracket_codes = sign_code sign_of.LeftBracket ∷ []

abbrev Brackets : Form (List (Unit {0} × Unit {0}))
Brackets = many (Unit {0} × Unit {0}) Bracket

brackets_laws : Lawful (List (Unit {0} × Unit {0})) Brackets
brackets_laws = many_laws (Unit {0} × Unit {0}) Bracket bracket_laws (record { solid = refl; next = λ ts e. refl })

abbrev pub dims_form : Form ℕ
dims_form = record { tell = brackets; fits = λ n. true; run = dims_run; starts = one_of bracket_codes; goes_on = one_of bracket_codes; empties = true }

told_brackets : (list : List (Unit {0} × Unit {0})) (r : List Told) → brackets (length list) r ≡ tell_all Bracket.tell list r
told_brackets [] r = refl
told_brackets (p ∷ list) r = ap (λ (l : List Told). sign sign_of.LeftBracket ∷ sign sign_of.RightBracket ∷ l) (told_brackets list r)

pairs_of : ℕ → List (Unit {0} × Unit {0})
pairs_of zero = []
pairs_of (suc n) = (tt, tt) ∷ pairs_of n

pairs_length : (n : ℕ) → length (pairs_of n) ≡ n
unfolding pairs_of
pairs_length zero = refl
pairs_length (suc n) = ap suc (pairs_length n)

pairs_fit : (n : ℕ) → fits_all Bracket.fits (pairs_of n) ≡ true
unfolding pairs_of
pairs_fit zero = refl
pairs_fit (suc n) = pairs_fit n

pub dims_laws : Lawful ℕ dims_form
unfolding dims_run
dims_laws = alike_laws (List (Unit {0} × Unit {0})) ℕ Brackets length brackets (λ n. true) (one_of bracket_codes) (one_of bracket_codes) brackets_laws
    (record {
      told = λ list r g. told_brackets list r;
      forth = λ a e. refl;
      back = λ n e. (pairs_of n, pairs_length n, pairs_fit n);
      starts_too = λ ts e. or_false (one_of bracket_codes ts) e;
      goes_too = λ ts e. or_false (one_of bracket_codes ts) (or_false (one_of bracket_codes ts || false) e);
    })

-- a primitive type's word

from_key : (k : Key) (w : PrimitiveWord) → word_of_key k ≡ Some w → k ≡ primitive_key w
from_key key_of.Boolean w e = ap primitive_key (some_is word_of.Boolean w e)
from_key key_of.Byte w e = ap primitive_key (some_is word_of.Byte w e)
from_key key_of.Short w e = ap primitive_key (some_is word_of.Short w e)
from_key key_of.Char w e = ap primitive_key (some_is word_of.Char w e)
from_key key_of.Int w e = ap primitive_key (some_is word_of.Int w e)
from_key key_of.Long w e = ap primitive_key (some_is word_of.Long w e)
from_key _ w e = absurd (none_is w e)

from_kind : (k : TokenKind) (w : PrimitiveWord) → word_of_kind k ≡ Some w → k ≡ kind_of.Key (primitive_key w)
from_kind (kind_of.Key k) w e = ap (λ x. kind_of.Key x) (from_key k w e)
from_kind (kind_of.Word t) w e = absurd (none_is w e)
from_kind (kind_of.Number v l d) w e = absurd (none_is w e)
from_kind (kind_of.CharLit u) w e = absurd (none_is w e)
from_kind (kind_of.StringLit u) w e = absurd (none_is w e)
from_kind (kind_of.Sign s) w e = absurd (none_is w e)

to_key : (w : PrimitiveWord) → word_of_key (primitive_key w) ≡ Some w
to_key word_of.Boolean = refl
to_key word_of.Byte = refl
to_key word_of.Short = refl
to_key word_of.Char = refl
to_key word_of.Int = refl
to_key word_of.Long = refl

from_place : {A : Type 0} (at : ℕ) (o : Option A) (p : ℕ × A) → at_its_place at o ≡ Some p → (at ≡ p.0) × (o ≡ Some p.1)
from_place at None p e = absurd (none_is p e)
from_place at (Some a) p e = let w = some_is (at, a) p e in (ap (λ (q : ℕ × _). q.0) w, ap (λ (q : ℕ × _). Some q.1) w)

word_coded : (w : PrimitiveWord) → is_in primitive_codes (key_code (primitive_key w)) ≡ true
word_coded word_of.Boolean = refl
word_coded word_of.Byte = refl
word_coded word_of.Short = refl
word_coded word_of.Char = refl
word_coded word_of.Int = refl
word_coded word_of.Long = refl

abbrev pub word_form : Form (ℕ × PrimitiveWord)
word_form = token (ℕ × PrimitiveWord) primitive_codes picks_word (λ p. key_at (primitive_key p.1) p.0)

pub word_laws : Lawful (ℕ × PrimitiveWord) word_form
word_laws = token_laws (ℕ × PrimitiveWord) primitive_codes picks_word (λ p. key_at (primitive_key p.1) p.0)
    (record {
      tells = λ t p e. let w = from_place t.from (word_of_kind t.kind) p e in (from_kind t.kind p.1 w.1, w.0, λ q. absurd (false≢true q), λ q. absurd (false≢true q));
      picks = λ t p i. ap (λ k. at_its_place t.from (word_of_kind k)) i.0 ∙ ap (at_its_place t.from) (to_key p.1) ∙ ap (λ n. Some (n, p.1)) i.1;
      coded = λ t p e. let w = from_place t.from (word_of_kind t.kind) p e in subst (λ k. is_in primitive_codes (kind_code k) ≡ true) (sym (from_kind t.kind p.1 w.1)) (word_coded p.1);
      apart = λ p. refl;
      sample = record { kind = kind_of.Key key_of.Int; from = 0; to = 0; touches = false };
      value = (0, word_of.Int);
      sampled = refl;
    })

-- where types are read: what begins one, and what may go on in one
abbrev pub type_codes : List ℕ
type_codes = word_code ∷ primitive_codes

-- an argument begins
abbrev pub arg_codes : List ℕ
arg_codes = sign_code sign_of.Question ∷ type_codes

-- `<` and an argument, `.` and an identifier, or `[`
abbrev pub goes_on_class : List Token → Bool
goes_on_class ts = (one_of (sign_code sign_of.Less ∷ []) ts && one_of arg_codes (rest_of ts)) || (one_of (sign_code sign_of.Dot ∷ []) ts && one_of (word_code ∷ []) (rest_of ts))

abbrev pub limit_codes : List ℕ
limit_codes = key_code key_of.Extends ∷ key_code key_of.Super ∷ []

abbrev pub goes_on_type : List Token → Bool
goes_on_type ts = one_of bracket_codes ts || goes_on_class ts

abbrev pub type_form : ℕ → Form TypeTree
type_form h = record { tell = type_tokens; fits = λ ty. nat_le (type_height ty) h; run = type_run h; starts = one_of type_codes; goes_on = goes_on_type; empties = false }

abbrev pub arg_form : ℕ → Form TypeArg
arg_form h = record { tell = arg_tokens; fits = λ arg. nat_le (arg_height arg) h; run = arg_run h (type_run h); starts = one_of arg_codes; goes_on = λ ts. goes_on_type ts || one_of limit_codes ts; empties = false }

-- a wildcard without a bound

is_Exact : (arg : TypeArg) (ty : TypeTree) → out-TypeArg arg ≡ TypeArg-F.Exact ty → arg_of.Exact ty ≡ arg
is_Exact arg ty e = sym (arg_of.rolls-Exact ty) ∙ ap roll-TypeArg (sym e) ∙ roll-out-TypeArg arg

is_Any : (arg : TypeArg) (at : ℕ) → out-TypeArg arg ≡ TypeArg-F.Any at → arg_of.Any at ≡ arg
is_Any arg at e = sym (arg_of.rolls-Any at) ∙ ap roll-TypeArg (sym e) ∙ roll-out-TypeArg arg

is_Extends : (arg : TypeArg) (at : ℕ) (ty : TypeTree) → out-TypeArg arg ≡ TypeArg-F.Extends at ty → arg_of.Extends at ty ≡ arg
is_Extends arg at ty e = sym (arg_of.rolls-Extends at ty) ∙ ap roll-TypeArg (sym e) ∙ roll-out-TypeArg arg

is_Super : (arg : TypeArg) (at : ℕ) (ty : TypeTree) → out-TypeArg arg ≡ TypeArg-F.Super at ty → arg_of.Super at ty ≡ arg
is_Super arg at ty e = sym (arg_of.rolls-Super at ty) ∙ ap roll-TypeArg (sym e) ∙ roll-out-TypeArg arg

-- a type has a height
no_type : (ty : TypeTree) (n : ℕ) → n ≡ type_height ty → nat_le n 0 ≡ true → ⊥
no_type ty n e f = false≢true (sym (room_none (base_height (out-TypeTree ty).base)) ∙ ap (λ k. nat_le k 0) (sym (e ∙ type_height-parts ty)) ∙ f)

any_back : (arg : TypeArg) (layer : TypeArg-F BaseTree TypeArg ClassTree TypePart TypeTree) → out-TypeArg arg ≡ layer → nat_le (arg_height arg) 0 ≡ true → (at : ℕ) × (arg_of.Any at ≡ arg) × (true ≡ true)
any_back arg (TypeArg-F.Exact ty) e f = absurd (no_type ty (arg_height arg) (ap arg_height (sym (is_Exact arg ty e)) ∙ arg_height-Exact ty) f)
any_back arg (TypeArg-F.Any at) e f = (at, is_Any arg at e, refl)
any_back arg (TypeArg-F.Extends at ty) e f = absurd (no_type ty (arg_height arg) (ap arg_height (sym (is_Extends arg at ty e)) ∙ arg_height-Extends at ty) f)
any_back arg (TypeArg-F.Super at ty) e f = absurd (no_type ty (arg_height arg) (ap arg_height (sym (is_Super arg at ty e)) ∙ arg_height-Super at ty) f)

any_laws : Lawful TypeArg (arg_form 0)
unfolding arg_run
any_laws = alike_laws ℕ TypeArg (a_sign_at sign_of.Question) arg_of.Any arg_tokens (λ arg. nat_le (arg_height arg) 0) (one_of arg_codes) (λ ts. goes_on_type ts || one_of limit_codes ts) (sign_at_laws sign_of.Question)
    (record {
      told = λ at r g. arg_tokens-Any at r;
      forth = λ at e. ap (λ n. nat_le n 0) (arg_height-Any at);
      back = λ arg f. any_back arg (out-TypeArg arg) refl f;
      starts_too = λ ts e. in_more (sign_code sign_of.Question) type_codes ts e;
      goes_too = λ ts e. absurd (false≢true e);
    })

-- an argument where types of height h are read

module _ (h : ℕ) (lt : Lawful TypeTree (type_form (suc h))) where
  abbrev Types : Form TypeTree
  Types = type_form (suc h)

  abbrev Upper : Form (Unit {0} × TypeTree)
  Upper = pair (Unit {0}) TypeTree (a_key key_of.Extends) Types

  abbrev Lower : Form (Unit {0} × TypeTree)
  Lower = pair (Unit {0}) TypeTree (a_key key_of.Super) Types

  abbrev Limit : Form (Either (Unit {0} × TypeTree) (Unit {0} × TypeTree))
  Limit = choice (Unit {0} × TypeTree) (Unit {0} × TypeTree) (key_code key_of.Extends ∷ []) Upper Lower

  limit_laws : Lawful (Either (Unit {0} × TypeTree) (Unit {0} × TypeTree)) Limit
  limit_laws = choice_laws (Unit {0} × TypeTree) (Unit {0} × TypeTree) (key_code key_of.Extends ∷ []) Upper Lower
      (pair_laws (Unit {0}) TypeTree (a_key key_of.Extends) Types (key_laws key_of.Extends) lt (λ ts e. refl))
      (pair_laws (Unit {0}) TypeTree (a_key key_of.Super) Types (key_laws key_of.Super) lt (λ ts e. refl))
      (record {
        solid = refl;
        solid' = refl;
        this = λ ts e. or_false (one_of (key_code key_of.Extends ∷ []) ts) e;
        that = λ ts e. apart_sets (key_code key_of.Super ∷ []) (key_code key_of.Extends ∷ []) refl (front_code ts) (or_false (one_of (key_code key_of.Super ∷ []) ts) e);
      })

  abbrev Wild : Form (ℕ × Bound)
  Wild = pair ℕ Bound (a_sign_at sign_of.Question) (option (Either (Unit {0} × TypeTree) (Unit {0} × TypeTree)) Limit)

  abbrev AnyArg : Form (Either (ℕ × Bound) TypeTree)
  AnyArg = choice (ℕ × Bound) TypeTree (sign_code sign_of.Question ∷ []) Wild Types

  any_arg_laws : Lawful (Either (ℕ × Bound) TypeTree) AnyArg
  any_arg_laws = choice_laws (ℕ × Bound) TypeTree (sign_code sign_of.Question ∷ []) Wild Types
      (pair_laws ℕ Bound (a_sign_at sign_of.Question) (option (Either (Unit {0} × TypeTree) (Unit {0} × TypeTree)) Limit) (sign_at_laws sign_of.Question) (option_laws (Either (Unit {0} × TypeTree) (Unit {0} × TypeTree)) Limit limit_laws refl) (λ ts e. refl))
      lt
      (record {
        solid = refl;
        solid' = refl;
        this = λ ts e. or_false (one_of (sign_code sign_of.Question ∷ []) ts) e;
        that = λ ts e. apart_sets type_codes (sign_code sign_of.Question ∷ []) refl (front_code ts) e;
      })

  told_arg : (o : Either (ℕ × Bound) TypeTree) (r : List Told) → arg_tokens (arg_made o) r ≡ AnyArg.tell o r
  told_arg (This (at, None)) r = arg_tokens-Any at r
  told_arg (This (at, Some (This p))) r = arg_tokens-Extends at p.1 r
  told_arg (This (at, Some (That p))) r = arg_tokens-Super at p.1 r
  told_arg (That ty) r = arg_tokens-Exact ty r

  room_arg : (o : Either (ℕ × Bound) TypeTree) → nat_le (arg_height (arg_made o)) (suc h) ≡ AnyArg.fits o
  room_arg (This (at, None)) = ap (λ n. nat_le n (suc h)) (arg_height-Any at) ∙ room_above (suc h)
  room_arg (This (at, Some (This p))) = ap (λ n. nat_le n (suc h)) (arg_height-Extends at p.1)
  room_arg (This (at, Some (That p))) = ap (λ n. nat_le n (suc h)) (arg_height-Super at p.1)
  room_arg (That ty) = ap (λ n. nat_le n (suc h)) (arg_height-Exact ty)

  made_arg : (arg : TypeArg) (layer : TypeArg-F BaseTree TypeArg ClassTree TypePart TypeTree) → out-TypeArg arg ≡ layer → (o : Either (ℕ × Bound) TypeTree) × (arg_made o ≡ arg)
  made_arg arg (TypeArg-F.Exact ty) e = (That ty, is_Exact arg ty e)
  made_arg arg (TypeArg-F.Any at) e = (This (at, None), is_Any arg at e)
  made_arg arg (TypeArg-F.Extends at ty) e = (This (at, Some (This (tt, ty))), is_Extends arg at ty e)
  made_arg arg (TypeArg-F.Super at ty) e = (This (at, Some (That (tt, ty))), is_Super arg at ty e)

  starts_arg : (q x : Bool) → (((q || false) || false) || x) ≡ true → (q || x) ≡ true
  starts_arg true x e = refl
  starts_arg false x e = e

  goes_arg : (p q t : Bool) → ((((((p || false) || false) || ((q || false) || false)) || ((t || false) || (t || false))) || false) || t) ≡ true → (t || (p || (q || false))) ≡ true
  goes_arg p q true e = refl
  goes_arg true q false e = refl
  goes_arg false true false e = refl
  goes_arg false false false e = e

  pub args_next : Lawful TypeArg (arg_form (suc h))
  unfolding arg_run
  args_next = alike_laws (Either (ℕ × Bound) TypeTree) TypeArg AnyArg arg_made arg_tokens (λ arg. nat_le (arg_height arg) (suc h)) (one_of arg_codes) (λ ts. goes_on_type ts || one_of limit_codes ts) any_arg_laws
      (record {
        told = λ o r g. told_arg o r;
        forth = λ o e. room_arg o ∙ e;
        back = λ arg e. let w = made_arg arg (out-TypeArg arg) refl in (w.0, w.1, sym (room_arg w.0) ∙ ap (λ a. nat_le (arg_height a) (suc h)) w.1 ∙ e);
        starts_too = λ ts e. starts_arg (sign_code sign_of.Question == front_code ts) (one_of type_codes ts) e;
        goes_too = λ ts e. goes_arg (key_code key_of.Extends == front_code ts) (key_code key_of.Super == front_code ts) (goes_on_type ts) e;
      })

-- a class type, where arguments of height h are read

-- nothing of a type goes on
stops_at : (ts : List Token) → one_of bracket_codes ts ≡ false → one_of (sign_code sign_of.Less ∷ []) ts ≡ false → one_of (sign_code sign_of.Dot ∷ []) ts ≡ false → one_of limit_codes ts ≡ false → (goes_on_type ts || one_of limit_codes ts) ≡ false
stops_at ts b l d x =
    or_from (goes_on_type ts) (one_of limit_codes ts)
    (or_from (one_of bracket_codes ts) (goes_on_class ts) b (or_from _ _ (and_left (one_of (sign_code sign_of.Less ∷ []) ts) (one_of arg_codes (rest_of ts)) l) (and_left (one_of (sign_code sign_of.Dot ∷ []) ts) (one_of (word_code ∷ []) (rest_of ts)) d))) x

module _ (h : ℕ) (la : Lawful TypeArg (arg_form h)) where
  abbrev Args : Form TypeArg
  Args = arg_form h

  next_arg : (ts : List Token) → comma_starts TypeArg Args ts ≡ true → Args.goes_on ts ≡ false
  next_arg ts e =
      let c = (and_parts (one_of (sign_code sign_of.Comma ∷ []) ts) (one_of arg_codes (rest_of ts)) e).0 in
      stops_at ts (apart_sets (sign_code sign_of.Comma ∷ []) bracket_codes refl (front_code ts) c) (apart_sets (sign_code sign_of.Comma ∷ []) (sign_code sign_of.Less ∷ []) refl (front_code ts) c) (apart_sets (sign_code sign_of.Comma ∷ []) (sign_code sign_of.Dot ∷ []) refl (front_code ts) c) (apart_sets (sign_code sign_of.Comma ∷ []) limit_codes refl (front_code ts) c)

  abbrev pub Row : Form (List TypeArg)
  Row = commas_form TypeArg Args

  pub row_laws : Lawful (List TypeArg) Row
  row_laws = commas_laws TypeArg Args la refl next_arg

  abbrev Inner : Form (List TypeArg × Unit {0})
  Inner = pair (List TypeArg) (Unit {0}) Row (a_sign sign_of.Greater)

  abbrev Angled : Form (Unit {0} × (List TypeArg × Unit {0}))
  Angled = led (List TypeArg × Unit {0}) sign_of.Less Inner

  closes : (ts : List Token) → one_of (sign_code sign_of.Greater ∷ []) ts ≡ true → Row.goes_on ts ≡ false
  closes ts c =
      or_from (comma_starts TypeArg Args ts) (Args.goes_on ts)
      (and_left (one_of (sign_code sign_of.Comma ∷ []) ts) (one_of arg_codes (rest_of ts)) (apart_sets (sign_code sign_of.Greater ∷ []) (sign_code sign_of.Comma ∷ []) refl (front_code ts) c))
      (stops_at ts (apart_sets (sign_code sign_of.Greater ∷ []) bracket_codes refl (front_code ts) c) (apart_sets (sign_code sign_of.Greater ∷ []) (sign_code sign_of.Less ∷ []) refl (front_code ts) c) (apart_sets (sign_code sign_of.Greater ∷ []) (sign_code sign_of.Dot ∷ []) refl (front_code ts) c) (apart_sets (sign_code sign_of.Greater ∷ []) limit_codes refl (front_code ts) c))

  angled_laws : Lawful (Unit {0} × (List TypeArg × Unit {0})) Angled
  angled_laws = led_laws (List TypeArg × Unit {0}) sign_of.Less Inner (pair_laws (List TypeArg) (Unit {0}) Row (a_sign sign_of.Greater) row_laws (sign_laws sign_of.Greater) closes) refl

  told_args : (o : Option (Unit {0} × (List TypeArg × Unit {0}))) (r : List Told) → (option (Unit {0} × (List TypeArg × Unit {0})) Angled).fits o ≡ true → angled (map arg_tokens (or_none o)) r ≡ (option (Unit {0} × (List TypeArg × Unit {0})) Angled).tell o r
  told_args None r g = refl
  told_args (Some (u, ([], v))) r g = absurd (false≢true g)
  told_args (Some (u, (a ∷ list, v))) r g = refl

  abbrev pub fit_args : List TypeArg → Bool
  fit_args args = fits_all (λ a. nat_le (arg_height a) h) args

  and_true : (b : Bool) → (b && true) ≡ b
  and_true true = refl
  and_true false = refl

  forth_args : (o : Option (Unit {0} × (List TypeArg × Unit {0}))) → (option (Unit {0} × (List TypeArg × Unit {0})) Angled).fits o ≡ true → fit_args (or_none o) ≡ true
  forth_args None g = refl
  forth_args (Some (u, ([], v))) g = refl
  forth_args (Some (u, (a ∷ list, v))) g = sym (and_true (fit_args (a ∷ list))) ∙ g

  back_args : (args : List TypeArg) → fit_args args ≡ true → (o : Option (Unit {0} × (List TypeArg × Unit {0}))) × (or_none o ≡ args) × ((option (Unit {0} × (List TypeArg × Unit {0})) Angled).fits o ≡ true)
  back_args [] g = (None, refl, refl)
  back_args (a ∷ list) g = (Some (tt, (a ∷ list, tt)), refl, and_true (fit_args (a ∷ list)) ∙ g)

  abbrev pub less_starts : List Token → Bool
  less_starts ts = one_of (sign_code sign_of.Less ∷ []) ts && one_of arg_codes (rest_of ts)

  less_or : (b c : Bool) → (b && (c || false)) ≡ true → (b && c) ≡ true
  less_or true c e = or_false c e
  less_or false c e = e

  abbrev pub args_form : Form (List TypeArg)
  args_form = record { tell = λ args r. angled (map arg_tokens args) r; fits = fit_args; run = args_run (arg_run h (type_run h)); starts = less_starts; goes_on = less_starts; empties = true }

  args_laws : Lawful (List TypeArg) args_form
  unfolding args_run
  args_laws = alike_laws (Option (Unit {0} × (List TypeArg × Unit {0}))) (List TypeArg) (option (Unit {0} × (List TypeArg × Unit {0})) Angled) or_none (λ args r. angled (map arg_tokens args) r) fit_args less_starts less_starts
      (option_laws (Unit {0} × (List TypeArg × Unit {0})) Angled angled_laws refl)
      (record {
        told = told_args;
        forth = forth_args;
        back = back_args;
        starts_too = λ ts e. less_or (one_of (sign_code sign_of.Less ∷ []) ts) (one_of arg_codes (rest_of ts)) e;
        goes_too = λ ts e. less_or (one_of (sign_code sign_of.Less ∷ []) ts) (one_of arg_codes (rest_of ts)) (or_false _ e);
      })

  -- Id [Args]

  abbrev pub part_form : Form TypePart
  part_form = record { tell = part_tokens; fits = λ part. nat_le (part_height part) h; run = part_run (args_run (arg_run h (type_run h))); starts = one_of (word_code ∷ []); goes_on = less_starts; empties = false }

  room_part : (p : Ident × List TypeArg) → nat_le (part_height (part_made p)) h ≡ (true && fit_args p.1)
  room_part p = ap (λ n. nat_le n h) (part_height-made p.0 p.1) ∙ room_all arg_height h p.1

  pub part_laws : Lawful TypePart part_form
  unfolding part_run
  part_laws = alike_laws (Ident × List TypeArg) TypePart (pair Ident (List TypeArg) an_ident args_form) part_made part_tokens (λ part. nat_le (part_height part) h) (one_of (word_code ∷ [])) less_starts
      (pair_laws Ident (List TypeArg) an_ident args_form ident_laws args_laws (λ ts e. refl))
      (record {
        told = λ p r g. part_tokens-made p.0 p.1 r;
        forth = λ p g. room_part p ∙ g;
        back = λ part g. let p : Ident × List TypeArg = ((out-TypePart part).name, (out-TypePart part).args) in
            let e : part_made p ≡ part = roll-out-TypePart part in (p, e, sym (room_part p) ∙ ap (λ q. nat_le (part_height q) h) e ∙ g);
        starts_too = λ ts e. or_false (one_of (word_code ∷ []) ts) e;
        goes_too = λ ts e. or_false (less_starts ts) e;
      })

  -- ClassT

  abbrev Parts : Form (List (Unit {0} × TypePart))
  Parts = led_many TypePart sign_of.Dot part_form part_laws refl

  next_part : (ts : List Token) → led_starts TypePart sign_of.Dot part_form ts ≡ true → less_starts ts ≡ false
  next_part ts e =
      let c = (and_parts (one_of (sign_code sign_of.Dot ∷ []) ts) (one_of (word_code ∷ []) (rest_of ts)) e).0 in
      and_left (one_of (sign_code sign_of.Less ∷ []) ts) (one_of arg_codes (rest_of ts)) (apart_sets (sign_code sign_of.Dot ∷ []) (sign_code sign_of.Less ∷ []) refl (front_code ts) c)

  abbrev pub class_form : Form ClassTree
  class_form = record { tell = class_tokens; fits = λ class. nat_le (class_height class) h; run = class_run h; starts = one_of (word_code ∷ []); goes_on = goes_on_class; empties = false }

  told_class : (list : List (Unit {0} × TypePart)) (r : List Told) → after_dots (map part_tokens (map behind_it list)) r ≡ Parts.tell list r
  told_class [] r = refl
  told_class (p ∷ list) r = ap (λ (l : List Told). sign sign_of.Dot ∷ part_tokens p.1 l) (told_class list r)

  room_class : (p : TypePart × List (Unit {0} × TypePart)) → nat_le (class_height (class_made p)) h ≡ (part_form.fits p.0 && Parts.fits p.1)
  room_class p =
      ap (λ n. nat_le n h) (class_height-made p.0 (map behind_it p.1)) ∙ room_max (part_height p.0) (most (map part_height (map behind_it p.1))) h
      ∙ ap (λ b. nat_le (part_height p.0) h && b) (room_all part_height h (map behind_it p.1) ∙ sym (behind_fits part_form.fits p.1))

  goes_class : (l d : Bool) → ((d || l) || (true && l)) ≡ true → (l || d) ≡ true
  goes_class true d e = refl
  goes_class false true e = refl
  goes_class false false e = e

  pub class_laws : Lawful ClassTree class_form
  unfolding class_run_of
  class_laws = alike_laws (TypePart × List (Unit {0} × TypePart)) ClassTree (pair TypePart (List (Unit {0} × TypePart)) part_form Parts) class_made class_tokens (λ class. nat_le (class_height class) h) (one_of (word_code ∷ [])) goes_on_class
      (pair_laws TypePart (List (Unit {0} × TypePart)) part_form Parts part_laws (led_many_laws TypePart sign_of.Dot part_form part_laws refl next_part) next_part)
      (record {
        told = λ p r g. class_tokens-made p.0 (map behind_it p.1) r ∙ ap (part_tokens p.0) (told_class p.1 r);
        forth = λ p g. room_class p ∙ g;
        back = λ class g. let p : TypePart × List (Unit {0} × TypePart) = ((out-ClassTree class).first, unled (out-ClassTree class).more) in
            let e : class_made p ≡ class = ap (λ (more : List TypePart). roll-ClassTree (record { first = (out-ClassTree class).first; more = more })) (unled_back (out-ClassTree class).more) ∙ roll-out-ClassTree class in
            (p, e, sym (room_class p) ∙ ap (λ q. nat_le (class_height q) h) e ∙ g);
        starts_too = λ ts e. or_false (one_of (word_code ∷ []) ts) e;
        goes_too = λ ts e. goes_class (less_starts ts) (led_starts TypePart sign_of.Dot part_form ts) e;
      })

  -- Prim | ClassT

  next_dims : (ts : List Token) → one_of bracket_codes ts ≡ true → goes_on_class ts ≡ false
  next_dims ts e =
      or_from (less_starts ts) (led_starts TypePart sign_of.Dot part_form ts)
      (and_left (one_of (sign_code sign_of.Less ∷ []) ts) (one_of arg_codes (rest_of ts)) (apart_sets bracket_codes (sign_code sign_of.Less ∷ []) refl (front_code ts) e))
      (and_left (one_of (sign_code sign_of.Dot ∷ []) ts) (one_of (word_code ∷ []) (rest_of ts)) (apart_sets bracket_codes (sign_code sign_of.Dot ∷ []) refl (front_code ts) e))

  abbrev pub base_form : Form BaseTree
  base_form = record { tell = base_tokens; fits = λ base. nat_le (base_height base) h; run = base_run h; starts = one_of type_codes; goes_on = goes_on_class; empties = false }

  told_base : (o : Either (ℕ × PrimitiveWord) ClassTree) (r : List Told) → base_tokens (base_made o) r ≡ (choice (ℕ × PrimitiveWord) ClassTree primitive_codes word_form class_form).tell o r
  told_base (This p) r = base_tokens-Primitive p.0 p.1 r
  told_base (That class) r = base_tokens-Class class r

  room_base : (o : Either (ℕ × PrimitiveWord) ClassTree) → nat_le (base_height (base_made o)) h ≡ (choice (ℕ × PrimitiveWord) ClassTree primitive_codes word_form class_form).fits o
  room_base (This p) = ap (λ n. nat_le n h) (base_height-Primitive p.0 p.1) ∙ room_above h
  room_base (That class) = ap (λ n. nat_le n h) (base_height-Class class)

  made_base : (base : BaseTree) (layer : BaseTree-F BaseTree TypeArg ClassTree TypePart TypeTree) → out-BaseTree base ≡ layer → (o : Either (ℕ × PrimitiveWord) ClassTree) × (base_made o ≡ base)
  made_base base (BaseTree-F.Primitive at word) e = (This (at, word), sym (base_of.rolls-Primitive at word) ∙ ap roll-BaseTree (sym e) ∙ roll-out-BaseTree base)
  made_base base (BaseTree-F.Class class) e = (That class, sym (base_of.rolls-Class class) ∙ ap roll-BaseTree (sym e) ∙ roll-out-BaseTree base)

  pub base_laws : Lawful BaseTree base_form
  unfolding base_run_of
  base_laws = alike_laws (Either (ℕ × PrimitiveWord) ClassTree) BaseTree (choice (ℕ × PrimitiveWord) ClassTree primitive_codes word_form class_form) base_made base_tokens (λ base. nat_le (base_height base) h) (one_of type_codes) goes_on_class
      (choice_laws (ℕ × PrimitiveWord) ClassTree primitive_codes word_form class_form word_laws class_laws
      (record { solid = refl; solid' = refl; this = λ ts e. e; that = λ ts e. apart_sets (word_code ∷ []) primitive_codes refl (front_code ts) e }))
      (record {
        told = λ o r g. told_base o r;
        forth = λ o g. room_base o ∙ g;
        back = λ base g. let w = made_base base (out-BaseTree base) refl in (w.0, w.1, sym (room_base w.0) ∙ ap (λ b. nat_le (base_height b) h) w.1 ∙ g);
        starts_too = λ ts e. ⊎_elim (λ p. within_sets primitive_codes type_codes refl (front_code ts) p) (λ w. in_more word_code primitive_codes ts w) (or_cases (one_of primitive_codes ts) (one_of (word_code ∷ []) ts) e);
        goes_too = λ ts e. e;
      })

  -- Type

  room_type : (p : BaseTree × ℕ) → nat_le (type_height (type_made p)) (suc h) ≡ (base_form.fits p.0 && true)
  room_type p = ap (λ n. nat_le n (suc h)) (type_height-made p.0 p.1) ∙ room_suc (base_height p.0) h ∙ sym (and_true (nat_le (base_height p.0) h))

  goes_type : (b c : Bool) → (b || (true && c)) ≡ true → (b || c) ≡ true
  goes_type b c e = e

  pub type_next : Lawful TypeTree (type_form (suc h))
  unfolding type_run type_run_of
  type_next = alike_laws (BaseTree × ℕ) TypeTree (pair BaseTree ℕ base_form dims_form) type_made type_tokens (λ ty. nat_le (type_height ty) (suc h)) (one_of type_codes) goes_on_type
      (pair_laws BaseTree ℕ base_form dims_form base_laws dims_laws next_dims)
      (record {
        told = λ p r g. type_tokens-made p.0 p.1 r;
        forth = λ p g. room_type p ∙ g;
        back = λ ty g. let p : BaseTree × ℕ = ((out-TypeTree ty).base, (out-TypeTree ty).dims) in
            let e : type_made p ≡ ty = roll-out-TypeTree ty in (p, e, sym (room_type p) ∙ ap (λ q. nat_le (type_height q) (suc h)) e ∙ g);
        starts_too = λ ts e. or_false (one_of type_codes ts) e;
        goes_too = λ ts e. goes_type (one_of bracket_codes ts) (goes_on_class ts) e;
      })

-- at each height
mutual_type : (h : ℕ) → Lawful TypeArg (arg_form h) × Lawful TypeTree (type_form (suc h))
mutual_type zero = (any_laws, type_next zero any_laws)
mutual_type (suc h) = let w = mutual_type h in let a = args_next h w.1 in (a, type_next (suc h) a)

pub type_laws : (h : ℕ) → Lawful TypeTree (type_form (suc h))
type_laws h = (mutual_type h).1

pub arg_laws : (h : ℕ) → Lawful TypeArg (arg_form h)
arg_laws h = (mutual_type h).0
