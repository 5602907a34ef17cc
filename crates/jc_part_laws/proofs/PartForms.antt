-- The forms of names, classes in lists and type parameters, and that they are read as they are to be.
use Rattle.std.proofs.Common.{◌≡◌, ℕ, zero, suc, Bool, true, false, List, [], ◌∷◌, map, Option, Some, None, refl, sym, ap, ◌∙◌, inl, inr, arith}
use Rattle.std.proofs.Math.Bool.{and-true}
use Rattle.std.proofs.lemmas.Bool.{false≢true, and_parts}
use Rattle.std.proofs.lemmas.Grind.{common_steps}
use Rattle.std.specs.Prelude.{◌&&◌, ◌||◌, ◌==◌, nat_le}
use Rattle.jc_lexer.specs.declared.token.Key.{Key}
use Rattle.jc_lexer.specs.declared.token.Key.TheVariants as key_of
use Rattle.jc_lexer.specs.declared.token.Sign.{Sign}
use Rattle.jc_lexer.specs.declared.token.Sign.TheVariants as sign_of
use Rattle.jc_lexer.specs.declared.token.Token.{Token}
use Rattle.jc_tree.specs.declared.name.Ident.{Ident}
use Rattle.jc_tree.specs.declared.types.ClassTree.{ClassTree}
use Rattle.jc_tree.specs.declared.types.TypeTree.{TypeTree}
use Rattle.jc_tree.specs.declared.statement.TypeParam.{TypeParam}
use Rattle.jc_tree.specs.declared.statement.TypeParams.{TypeParams}
use Rattle.jc_tree.specs.Heights.{most, class_height, type_height, param_height, params_of_height}
use Rattle.jc_tree.proofs.HeightsOfTypes.{type_height-parts}
use Rattle.jc_grammar.specs.Told.{Told, sign, sign_at, key, ident, names_after, after_commas}
use Rattle.jc_grammar.specs.Types.{class_tokens}
use Rattle.jc_grammar.specs.Parts.{keyed_list, after_ands, bounds_tokens, param_tokens, params_tokens, params_of_tokens}
use Rattle.jc_reading.specs.Kinds.{sign_code, key_code, word_code, front_code, one_of}
use Rattle.jc_reading.specs.Reading.{rest_of, behind_it}
use Rattle.jc_reading.proofs.Forms.{Form, Lawful}
use Rattle.jc_reading.proofs.Lists.{fits_all}
use Rattle.jc_reading.proofs.Alikes.{alike_laws}
use Rattle.jc_reading.proofs.Ledby.{led_many, led_many_laws, unled, unled_back, behind_fits, or_false as twice}
use Rattle.jc_reading.proofs.Signs.{a_sign, a_sign_at, a_key, a_key_at, an_ident, sign_laws, sign_at_laws, key_laws, ident_laws, none_common}
use Rattle.jc_reading.proofs.Rooms.{room_none, room_above, room_max, room_all}
use Rattle.jc_parse_type.specs.TypeReading.{type_run, class_run}
use Rattle.jc_parse_type.proofs.TypeForms.{type_codes, type_form, class_form, class_laws, arg_laws, type_laws, bracket_codes, dims_form}
use Rattle.jc_part_laws.specs.PartReading.{more_names_run, or_nothing, keyed_run, bounds_made, bounds_run, param_made, param_run, or_no_params, params_run, params_made, params_of_run}
use Rattle.jc_reading.proofs.Coded.{Coded, formed, coded, coded_laws, with_next, in_order, in_order_laws, optional, optional_laws, repeated, repeated_laws, listed, listed_laws, made, made_laws, same_makes}
use Rattle.jc_reading.proofs.Lowest.{Law}

-- tokens
abbrev pub sign_form : Sign → Coded (Unit {0})
sign_form s = coded (a_sign s) (sign_code s ∷ []) []

abbrev pub sign_at_form : Sign → Coded ℕ
sign_at_form s = coded (a_sign_at s) (sign_code s ∷ []) []

abbrev pub key_form : Key → Coded (Unit {0})
key_form k = coded (a_key k) (key_code k ∷ []) []

abbrev pub key_at_form : Key → Coded ℕ
key_at_form k = coded (a_key_at k) (key_code k ∷ []) []

abbrev pub ident_form : Coded Ident
ident_form = coded an_ident (word_code ∷ []) []

-- pairs of brackets
abbrev pub dims_coded : Coded ℕ
dims_coded = coded dims_form bracket_codes bracket_codes

-- types
abbrev pub type_coded : ℕ → Coded TypeTree
type_coded h = coded (type_form h) type_codes (sign_code sign_of.LeftBracket ∷ sign_code sign_of.Less ∷ sign_code sign_of.Dot ∷ [])

abbrev pub class_coded : ℕ → Coded ClassTree
class_coded h = coded (class_form h (arg_laws h)) (word_code ∷ []) (sign_code sign_of.Less ∷ sign_code sign_of.Dot ∷ [])

two_tests : (n a b : ℕ) (x y : Bool) → (((a == n) || false) && x || ((b == n) || false) && y) ≡ true → ((a == n) || ((b == n) || false)) ≡ true
two_tests n a b x y e = grind (arith, common_steps)

three_tests : (n a b c : ℕ) (x y : Bool) → (((c == n) || false) || (((a == n) || false) && x || ((b == n) || false) && y)) ≡ true → ((c == n) || ((a == n) || ((b == n) || false))) ≡ true
three_tests n a b c x y e = grind (arith, common_steps)

pub class_coded_laws : (h : ℕ) → Lawful ClassTree (formed (class_coded h))
class_coded_laws h =
    coded_laws ClassTree (class_form h (arg_laws h)) (word_code ∷ []) (sign_code sign_of.Less ∷ sign_code sign_of.Dot ∷ []) (class_laws h (arg_laws h)) (λ ts e. e)
    (λ ts e. two_tests (front_code ts) (sign_code sign_of.Less) (sign_code sign_of.Dot) _ _ e)

pub type_coded_laws : (h : ℕ) → Lawful TypeTree (formed (type_coded (suc h)))
type_coded_laws h =
    coded_laws TypeTree (type_form (suc h)) type_codes (sign_code sign_of.LeftBracket ∷ sign_code sign_of.Less ∷ sign_code sign_of.Dot ∷ []) (type_laws h) (λ ts e. e)
    (λ ts e. three_tests (front_code ts) (sign_code sign_of.Less) (sign_code sign_of.Dot) (sign_code sign_of.LeftBracket) _ _ e)

pub type_never : (ty : TypeTree) → nat_le (type_height ty) 0 ≡ false
type_never ty = ap (λ n. nat_le n 0) (type_height-parts ty) ∙ room_none _

pub type_law : (h : ℕ) → Law TypeTree (type_coded h)
unfolding type_run
type_law zero = inr (record { stops = λ ts. refl; never = type_never })
type_law (suc h) = inl (type_coded_laws h)

-- {"." Id}

abbrev Names : Form (List (Unit {0} × Ident))
Names = led_many Ident sign_of.Dot an_ident ident_laws refl

-- a point and an identifier
abbrev pub dot_word : List Token → Bool
dot_word ts = one_of (sign_code sign_of.Dot ∷ []) ts && one_of (word_code ∷ []) (rest_of ts)

abbrev pub more_names_form : Form (List Ident)
more_names_form = record { tell = names_after; fits = λ list. true; run = more_names_run; starts = dot_word; goes_on = dot_word; empties = true }

told_names : (list : List (Unit {0} × Ident)) (r : List Told) → names_after (map behind_it list) r ≡ Names.tell list r
told_names [] r = refl
told_names (p ∷ list) r = ap (λ (l : List Told). sign sign_of.Dot ∷ ident p.1 ∷ l) (told_names list r)

all_true : {A : Type 0} (list : List (Unit {0} × A)) → fits_all (λ (p : Unit {0} × A). true && true) list ≡ true
all_true [] = refl
all_true (p ∷ list) = all_true list

pub more_names_laws : Lawful (List Ident) more_names_form
unfolding more_names_run
more_names_laws = alike_laws (List (Unit {0} × Ident)) (List Ident) Names (map behind_it) names_after (λ list. true) dot_word dot_word
    (led_many_laws Ident sign_of.Dot an_ident ident_laws refl (λ ts e. refl))
    (record {
      told = λ list r g. told_names list r;
      forth = λ list g. refl;
      back = λ list g. (unled list, unled_back list, all_true (unled list));
      starts_too = λ ts e. e;
      goes_too = λ ts e. twice (dot_word ts) e;
    })

abbrev pub more_names_coded : Coded (List Ident)
more_names_coded = coded more_names_form (sign_code sign_of.Dot ∷ []) (sign_code sign_of.Dot ∷ [])

pub more_names_coded_laws : Lawful (List Ident) (formed more_names_coded)
more_names_coded_laws = coded_laws (List Ident) more_names_form (sign_code sign_of.Dot ∷ []) (sign_code sign_of.Dot ∷ []) more_names_laws
    (λ ts e. (and_parts (one_of (sign_code sign_of.Dot ∷ []) ts) (one_of (word_code ∷ []) (rest_of ts)) e).0)
    (λ ts e. (and_parts (one_of (sign_code sign_of.Dot ∷ []) ts) (one_of (word_code ∷ []) (rest_of ts)) e).0)

-- each behind a sign

abbrev pub behind_each : {A : Type 0} → Sign → Coded A → Coded (List (Unit {0} × A))
behind_each s ca = repeated (in_order (sign_form s) ca)

pub behind_each_laws : (A : Type 0) (s : Sign) (ca : Coded A) → Lawful A (formed ca) → ca.empties ≡ false → none_common (sign_code s ∷ []) ca.goes ≡ true → Lawful (List (Unit {0} × A)) (formed (behind_each s ca))
behind_each_laws A s ca la e n =
    repeated_laws (Unit {0} × A) (in_order (sign_form s) ca) (in_order_laws (Unit {0}) A (sign_form s) ca (sign_laws s) la (apart_nothing ca.starts)) refl (plain_goes ca.empties e n)
  where
    apart_nothing : (xs : List ℕ) → none_common xs [] ≡ true
    apart_nothing [] = refl
    apart_nothing (c ∷ xs) = apart_nothing xs

    plain_goes : (b : Bool) → b ≡ false → none_common (sign_code s ∷ []) ca.goes ≡ true → none_common (sign_code s ∷ []) (with_next b ca.goes []) ≡ true
    plain_goes true q e = absurd (false≢true (sym q))
    plain_goes false q e = e

pub told_commas : {A : Type 0} (ca : Coded A) (list : List (Unit {0} × A)) (r : List Told) → after_commas (map ca.tell (map behind_it list)) r ≡ (behind_each sign_of.Comma ca).tell list r
told_commas ca [] r = refl
told_commas ca (p ∷ list) r = ap (λ (l : List Told). sign sign_of.Comma ∷ ca.tell p.1 l) (told_commas ca list r)

told_ands : (h : ℕ) (list : List (Unit {0} × ClassTree)) (r : List Told) → after_ands (map behind_it list) r ≡ (behind_each sign_of.And (class_coded h)).tell list r
told_ands h [] r = refl
told_ands h (p ∷ list) r = ap (λ (l : List Told). sign sign_of.And ∷ class_tokens p.1 l) (told_ands h list r)

-- heights of those behind a sign
pub room_behind : {A : Type 0} (height : A → ℕ) (h : ℕ) (list : List (Unit {0} × A)) → nat_le (most (map height (map behind_it list))) h ≡ fits_all (λ (p : Unit {0} × A). true && nat_le (height p.1) h) list
room_behind height h list = room_all height h (map behind_it list) ∙ sym (behind_fits (λ a. nat_le (height a) h) list)

-- [keyword ClassT {"," ClassT}]

module _ (k : Key) (h : ℕ) where
  abbrev Classes : Coded (List ClassTree)
  Classes = listed (class_coded h)

  abbrev Keyed : Coded (Option (Unit {0} × List ClassTree))
  Keyed = optional (in_order (key_form k) Classes)

  abbrev keyed_tell : List ClassTree → List Told → List Told
  keyed_tell classes r = keyed_list k (map class_tokens classes) r

  abbrev pub classes_fit : List ClassTree → Bool
  classes_fit classes = nat_le (most (map class_height classes)) h

  abbrev pub keyed : Coded (List ClassTree)
  keyed = made (Option (Unit {0} × List ClassTree)) (List ClassTree) Keyed or_nothing keyed_tell classes_fit

  told_keyed : (o : Option (Unit {0} × List ClassTree)) (r : List Told) → Keyed.fits o ≡ true → keyed_tell (or_nothing o) r ≡ Keyed.tell o r
  told_keyed None r g = refl
  told_keyed (Some (u, [])) r g = absurd (false≢true g)
  told_keyed (Some (u, c ∷ list)) r g = refl

  forth_keyed : (o : Option (Unit {0} × List ClassTree)) → Keyed.fits o ≡ true → classes_fit (or_nothing o) ≡ true
  forth_keyed None g = room_above h
  forth_keyed (Some (u, [])) g = absurd (false≢true g)
  forth_keyed (Some (u, c ∷ list)) g = room_all class_height h (c ∷ list) ∙ g

  back_keyed : (classes : List ClassTree) → classes_fit classes ≡ true → (o : Option (Unit {0} × List ClassTree)) × (or_nothing o ≡ classes) × (Keyed.fits o ≡ true)
  back_keyed [] g = (None, refl, refl)
  back_keyed (c ∷ list) g = (Some (tt, c ∷ list), refl, sym (room_all class_height h (c ∷ list)) ∙ g)

pub keyed_laws : (k : Key) (h : ℕ) → none_common (key_code k ∷ []) (sign_code sign_of.Comma ∷ sign_code sign_of.Less ∷ sign_code sign_of.Dot ∷ []) ≡ true → Lawful (List ClassTree) (formed (record { tell = (keyed k h).tell; fits = (keyed k h).fits; run = keyed_run k (class_run h); starts = (keyed k h).starts; goes = (keyed k h).goes; empties = true }))
unfolding keyed_run
keyed_laws k h e =
    made_laws (Option (Unit {0} × List ClassTree)) (List ClassTree) (Keyed k h) or_nothing (keyed_tell k h) (classes_fit k h)
    (optional_laws (Unit {0} × List ClassTree) (in_order (key_form k) (Classes k h))
    (in_order_laws (Unit {0}) (List ClassTree) (key_form k) (Classes k h) (key_laws k) (listed_laws ClassTree (class_coded h) (class_coded_laws h) refl refl) refl) refl)
    (record { told = told_keyed k h; forth = forth_keyed k h; back = back_keyed k h })

-- type parameters

module _ (h : ℕ) where
  abbrev Bounds : Coded (Option (Unit {0} × (ClassTree × List (Unit {0} × ClassTree))))
  Bounds = optional (in_order (key_form key_of.Extends) (in_order (class_coded h) (behind_each sign_of.And (class_coded h))))

  abbrev bounds_fit : List ClassTree → Bool
  bounds_fit classes = nat_le (most (map class_height classes)) h

  abbrev bounds_coded : Coded (List ClassTree)
  bounds_coded = record { tell = bounds_tokens; fits = bounds_fit; run = bounds_run (class_run h); starts = Bounds.starts; goes = Bounds.goes; empties = true }

  told_bounds : (o : Option (Unit {0} × (ClassTree × List (Unit {0} × ClassTree)))) (r : List Told) → bounds_tokens (bounds_made o) r ≡ Bounds.tell o r
  told_bounds None r = refl
  told_bounds (Some (u, (c, list))) r = ap (λ (l : List Told). key key_of.Extends ∷ class_tokens c l) (told_ands h list r)

  fit_bounds : (o : Option (Unit {0} × (ClassTree × List (Unit {0} × ClassTree)))) → bounds_fit (bounds_made o) ≡ Bounds.fits o
  fit_bounds None = room_above h
  fit_bounds (Some (u, (c, list))) = room_max (class_height c) (most (map class_height (map behind_it list))) h ∙ ap (λ b. nat_le (class_height c) h && b) (room_behind class_height h list)

  back_bounds : (classes : List ClassTree) → (o : Option (Unit {0} × (ClassTree × List (Unit {0} × ClassTree)))) × (bounds_made o ≡ classes)
  back_bounds [] = (None, refl)
  back_bounds (c ∷ list) = (Some (tt, (c, unled list)), ap (λ (more : List ClassTree). c ∷ more) (unled_back list))

  bounds_laws : Lawful (List ClassTree) (formed bounds_coded)
  unfolding bounds_run
  bounds_laws =
      made_laws (Option (Unit {0} × (ClassTree × List (Unit {0} × ClassTree)))) (List ClassTree) Bounds bounds_made bounds_tokens bounds_fit
      (optional_laws (Unit {0} × (ClassTree × List (Unit {0} × ClassTree))) (in_order (key_form key_of.Extends) (in_order (class_coded h) (behind_each sign_of.And (class_coded h))))
      (in_order_laws (Unit {0}) (ClassTree × List (Unit {0} × ClassTree)) (key_form key_of.Extends) (in_order (class_coded h) (behind_each sign_of.And (class_coded h))) (key_laws key_of.Extends)
      (in_order_laws ClassTree (List (Unit {0} × ClassTree)) (class_coded h) (behind_each sign_of.And (class_coded h)) (class_coded_laws h) (behind_each_laws ClassTree sign_of.And (class_coded h) (class_coded_laws h) refl refl) refl) refl) refl)
      (same_makes (Option (Unit {0} × (ClassTree × List (Unit {0} × ClassTree)))) (List ClassTree) Bounds bounds_made bounds_tokens bounds_fit (record { told = told_bounds; fit = fit_bounds; back = back_bounds }))

  abbrev pub param_coded : Coded TypeParam
  param_coded = record { tell = param_tokens; fits = λ param. nat_le (param_height param) h; run = param_run (class_run h); starts = word_code ∷ []; goes = bounds_coded.goes; empties = false }

  pub param_laws : Lawful TypeParam (formed param_coded)
  unfolding param_run
  param_laws =
      made_laws (Ident × List ClassTree) TypeParam (in_order ident_form bounds_coded) param_made param_tokens (λ param. nat_le (param_height param) h)
      (in_order_laws Ident (List ClassTree) ident_form bounds_coded ident_laws bounds_laws refl)
      (same_makes (Ident × List ClassTree) TypeParam (in_order ident_form bounds_coded) param_made param_tokens (λ param. nat_le (param_height param) h)
      (record { told = λ p r. refl; fit = λ p. refl; back = λ param. ((param.name, param.bounds), refl) }))

  -- [Params]

  abbrev Params : Coded (Option (Unit {0} × (List TypeParam × Unit {0})))
  Params = optional (in_order (sign_form sign_of.Less) (in_order (listed param_coded) (sign_form sign_of.Greater)))

  abbrev pub params_fit : List TypeParam → Bool
  params_fit params = nat_le (most (map param_height params)) h

  abbrev pub params_coded : Coded (List TypeParam)
  params_coded = record { tell = params_tokens; fits = params_fit; run = params_run (class_run h); starts = Params.starts; goes = Params.goes; empties = true }

  told_params : (o : Option (Unit {0} × (List TypeParam × Unit {0}))) (r : List Told) → Params.fits o ≡ true → params_tokens (or_no_params o) r ≡ Params.tell o r
  told_params None r g = refl
  told_params (Some (u, ([], v))) r g = absurd (false≢true g)
  told_params (Some (u, (p ∷ list, v))) r g = refl

  forth_params : (o : Option (Unit {0} × (List TypeParam × Unit {0}))) → Params.fits o ≡ true → params_fit (or_no_params o) ≡ true
  forth_params None g = room_above h
  forth_params (Some (u, ([], v))) g = absurd (false≢true g)
  forth_params (Some (u, (p ∷ list, v))) g = room_all param_height h (p ∷ list) ∙ sym (and-true (fits_all param_coded.fits (p ∷ list))) ∙ g

  back_params : (params : List TypeParam) → params_fit params ≡ true → (o : Option (Unit {0} × (List TypeParam × Unit {0}))) × (or_no_params o ≡ params) × (Params.fits o ≡ true)
  back_params [] g = (None, refl, refl)
  back_params (p ∷ list) g = (Some (tt, (p ∷ list, tt)), refl, and-true (fits_all param_coded.fits (p ∷ list)) ∙ sym (room_all param_height h (p ∷ list)) ∙ g)

  pub params_laws : Lawful (List TypeParam) (formed params_coded)
  unfolding params_run
  params_laws =
      made_laws (Option (Unit {0} × (List TypeParam × Unit {0}))) (List TypeParam) Params or_no_params params_tokens params_fit
      (optional_laws (Unit {0} × (List TypeParam × Unit {0})) (in_order (sign_form sign_of.Less) (in_order (listed param_coded) (sign_form sign_of.Greater)))
      (in_order_laws (Unit {0}) (List TypeParam × Unit {0}) (sign_form sign_of.Less) (in_order (listed param_coded) (sign_form sign_of.Greater)) (sign_laws sign_of.Less)
      (in_order_laws (List TypeParam) (Unit {0}) (listed param_coded) (sign_form sign_of.Greater) (listed_laws TypeParam param_coded param_laws refl refl) (sign_laws sign_of.Greater) refl) refl) refl)
      (record { told = told_params; forth = forth_params; back = back_params })

  -- Params, with their place

  abbrev ParamRow : Coded (TypeParam × List (Unit {0} × TypeParam))
  ParamRow = in_order param_coded (behind_each sign_of.Comma param_coded)

  abbrev Placed : Coded (ℕ × ((TypeParam × List (Unit {0} × TypeParam)) × Unit {0}))
  Placed = in_order (sign_at_form sign_of.Less) (in_order ParamRow (sign_form sign_of.Greater))

  abbrev params_of_fit : TypeParams → Bool
  params_of_fit p = nat_le (params_of_height p) h

  abbrev pub params_of_coded : Coded TypeParams
  params_of_coded = record { tell = params_of_tokens; fits = params_of_fit; run = params_of_run (class_run h); starts = sign_code sign_of.Less ∷ []; goes = []; empties = false }

  fit_placed : (p : ℕ × ((TypeParam × List (Unit {0} × TypeParam)) × Unit {0})) → params_of_fit (params_made p) ≡ Placed.fits p
  fit_placed p =
      room_max (param_height p.1.0.0) (most (map param_height (map behind_it p.1.0.1))) h ∙ ap (λ b. nat_le (param_height p.1.0.0) h && b) (room_behind param_height h p.1.0.1)
      ∙ sym (and-true _)

  pub params_of_laws : Lawful TypeParams (formed params_of_coded)
  unfolding params_of_run
  params_of_laws =
      made_laws (ℕ × ((TypeParam × List (Unit {0} × TypeParam)) × Unit {0})) TypeParams Placed params_made params_of_tokens params_of_fit
      (in_order_laws ℕ ((TypeParam × List (Unit {0} × TypeParam)) × Unit {0}) (sign_at_form sign_of.Less) (in_order ParamRow (sign_form sign_of.Greater)) (sign_at_laws sign_of.Less)
      (in_order_laws (TypeParam × List (Unit {0} × TypeParam)) (Unit {0}) ParamRow (sign_form sign_of.Greater)
      (in_order_laws TypeParam (List (Unit {0} × TypeParam)) param_coded (behind_each sign_of.Comma param_coded) param_laws (behind_each_laws TypeParam sign_of.Comma param_coded param_laws refl refl) refl)
      (sign_laws sign_of.Greater) refl) refl)
      (same_makes (ℕ × ((TypeParam × List (Unit {0} × TypeParam)) × Unit {0})) TypeParams Placed params_made params_of_tokens params_of_fit
      (record {
        told = λ p r. ap (λ (l : List Told). sign_at sign_of.Less p.0 ∷ param_tokens p.1.0.0 l) (told_commas param_coded p.1.0.1 (sign sign_of.Greater ∷ r));
        fit = fit_placed;
        back = λ p. ((p.at, ((p.first, unled p.more), tt)), ap (λ (more : List TypeParam). record { at = p.at; first = p.first; more = more }) (unled_back p.more));
      }))
