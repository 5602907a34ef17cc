-- The forms of package and import declarations.
use Rattle.std.proofs.Common.{◌≡◌, ℕ, Bool, true, false, List, [], ◌∷◌, Option, Some, None, refl, ⊎_elim}
use Rattle.std.proofs.lemmas.Bool.{false≢true, and_parts, and_left, and_right, or_cases, or_left, or_right}
use Rattle.std.specs.Prelude.{◌==◌}
use Rattle.jc_lexer.specs.declared.token.Key.TheVariants as key_of
use Rattle.jc_lexer.specs.declared.token.Sign.TheVariants as sign_of
use Rattle.jc_lexer.specs.declared.token.Token.{Token}
use Rattle.jc_tree.specs.declared.name.Ident.{Ident}
use Rattle.jc_tree.specs.declared.statement.Import.{Import}
use Rattle.jc_tree.specs.declared.statement.Package.{Package}
use Rattle.jc_grammar.specs.Told.{Told}
use Rattle.jc_grammar.specs.Statements.{package_tokens, import_tokens}
use Rattle.jc_reading.specs.Kinds.{sign_code, key_code, word_code, front_code, one_of}
use Rattle.jc_reading.specs.Reading.{Either, This, That, rest_of}
use Rattle.jc_reading.proofs.Forms.{Form, Lawful}
use Rattle.jc_reading.proofs.Pairs.{pair, pair_laws}
use Rattle.jc_reading.proofs.Choices.{choice, choice_laws}
use Rattle.jc_reading.proofs.Ledby.{led, led_starts, led_laws}
use Rattle.jc_reading.proofs.Signs.{a_sign as sign_token, sign_laws, apart_sets}
use Rattle.jc_reading.proofs.Coded.{Coded, formed, coded, coded_laws, in_order, optional, made_laws, same_makes}
use Rattle.jc_part_laws.proofs.PartForms.{sign_form, key_form, key_at_form, ident_form, more_names_form, more_names_laws, more_names_coded, more_names_coded_laws, dot_word}
use Rattle.jc_unit_laws.specs.MemberReading.{package_made, package_run, import_made, import_run}
use Rattle.jc_unit_laws.proofs.Bundles.{has, a_sign, a_key, a_key_at, an_ident, then_a, maybe_a}

abbrev PackageParts : Coded (ℕ × (Ident × (List Ident × Unit {0})))
PackageParts = in_order (key_at_form key_of.Package) (in_order ident_form (in_order more_names_coded (sign_form sign_of.Semicolon)))

abbrev pub package_coded : Coded Package
package_coded = record { tell = package_tokens; fits = λ p. true; run = package_run; starts = key_code key_of.Package ∷ []; goes = []; empties = false }

pub package_laws : Lawful Package (formed package_coded)
unfolding package_run
package_laws =
    made_laws (ℕ × (Ident × (List Ident × Unit {0}))) Package PackageParts package_made package_tokens (λ p. true)
    (then_a (a_key_at key_of.Package) (then_a an_ident (then_a (has more_names_coded more_names_coded_laws) (a_sign sign_of.Semicolon) refl) refl) refl).laws
    (same_makes (ℕ × (Ident × (List Ident × Unit {0}))) Package PackageParts package_made package_tokens (λ p. true)
    (record { told = λ p r. refl; fit = λ p. refl; back = λ p. ((p.at, (p.first, (p.more, tt))), refl) }))

-- ["." "*"] ";"

abbrev Star : Coded (Unit {0} × Unit {0})
Star = in_order (sign_form sign_of.Star) (sign_form sign_of.Semicolon)

star_laws : Lawful (Unit {0} × Unit {0}) (formed Star)
star_laws = (then_a (a_sign sign_of.Star) (a_sign sign_of.Semicolon) refl).laws

abbrev OnDemand : Form (Unit {0} × (Unit {0} × Unit {0}))
OnDemand = led (Unit {0} × Unit {0}) sign_of.Dot (formed Star)

abbrev ImportEnd : Form (Either (Unit {0} × (Unit {0} × Unit {0})) (Unit {0}))
ImportEnd = choice (Unit {0} × (Unit {0} × Unit {0})) (Unit {0}) (sign_code sign_of.Dot ∷ []) OnDemand (sign_token sign_of.Semicolon)

just_dot : (ts : List Token) → led_starts (Unit {0} × Unit {0}) sign_of.Dot (formed Star) ts ≡ true → one_of (sign_code sign_of.Dot ∷ []) ts ≡ true
just_dot ts e = (and_parts (one_of (sign_code sign_of.Dot ∷ []) ts) (one_of (sign_code sign_of.Star ∷ []) (rest_of ts)) e).0

import_end_laws : Lawful (Either (Unit {0} × (Unit {0} × Unit {0})) (Unit {0})) ImportEnd
import_end_laws =
    choice_laws (Unit {0} × (Unit {0} × Unit {0})) (Unit {0}) (sign_code sign_of.Dot ∷ []) OnDemand (sign_token sign_of.Semicolon) (led_laws (Unit {0} × Unit {0}) sign_of.Dot (formed Star) star_laws refl) (sign_laws sign_of.Semicolon)
    (record { solid = refl; solid' = refl; this = just_dot; that = λ ts e. apart_sets (sign_code sign_of.Semicolon ∷ []) (sign_code sign_of.Dot ∷ []) refl (front_code ts) e })

abbrev NamesEnd : Form (List Ident × Either (Unit {0} × (Unit {0} × Unit {0})) (Unit {0}))
NamesEnd = pair (List Ident) (Either (Unit {0} × (Unit {0} × Unit {0})) (Unit {0})) more_names_form ImportEnd

names_stop : (ts : List Token) → ImportEnd.starts ts ≡ true → dot_word ts ≡ false
names_stop ts e =
    ⊎_elim
    (λ t. and_right (one_of (sign_code sign_of.Dot ∷ []) ts) (one_of (word_code ∷ []) (rest_of ts)) (apart_sets (sign_code sign_of.Star ∷ []) (word_code ∷ []) refl (front_code (rest_of ts)) (and_parts (one_of (sign_code sign_of.Dot ∷ []) ts) (one_of (sign_code sign_of.Star ∷ []) (rest_of ts)) t).1))
    (λ t. and_left (one_of (sign_code sign_of.Dot ∷ []) ts) (one_of (word_code ∷ []) (rest_of ts)) (apart_sets (sign_code sign_of.Semicolon ∷ []) (sign_code sign_of.Dot ∷ []) refl (front_code ts) t))
    (or_cases (led_starts (Unit {0} × Unit {0}) sign_of.Dot (formed Star) ts) (one_of (sign_code sign_of.Semicolon ∷ []) ts) e)

abbrev end_codes : List ℕ
end_codes = sign_code sign_of.Dot ∷ sign_code sign_of.Semicolon ∷ []

abbrev NamesCoded : Coded (List Ident × Either (Unit {0} × (Unit {0} × Unit {0})) (Unit {0}))
NamesCoded = coded NamesEnd end_codes []

in_end : (ts : List Token) → one_of (sign_code sign_of.Dot ∷ []) ts ≡ true → one_of end_codes ts ≡ true
in_end ts e = ⊎_elim (λ t. or_left (sign_code sign_of.Dot == front_code ts) (one_of (sign_code sign_of.Semicolon ∷ []) ts) t) (λ t. absurd (false≢true t)) (or_cases (sign_code sign_of.Dot == front_code ts) false e)

names_coded_laws : Lawful (List Ident × Either (Unit {0} × (Unit {0} × Unit {0})) (Unit {0})) (formed NamesCoded)
names_coded_laws =
    coded_laws (List Ident × Either (Unit {0} × (Unit {0} × Unit {0})) (Unit {0})) NamesEnd end_codes []
    (pair_laws (List Ident) (Either (Unit {0} × (Unit {0} × Unit {0})) (Unit {0})) more_names_form ImportEnd more_names_laws import_end_laws names_stop)
    (λ ts e. ⊎_elim (λ t. in_end ts (and_parts (one_of (sign_code sign_of.Dot ∷ []) ts) (one_of (word_code ∷ []) (rest_of ts)) t).0)
    (λ t. ⊎_elim (λ d. in_end ts (just_dot ts d)) (λ s. or_right (sign_code sign_of.Dot == front_code ts) (one_of (sign_code sign_of.Semicolon ∷ []) ts) s) (or_cases (led_starts (Unit {0} × Unit {0}) sign_of.Dot (formed Star) ts) (one_of (sign_code sign_of.Semicolon ∷ []) ts) t))
    (or_cases (dot_word ts) (ImportEnd.starts ts) e))
    (λ ts e. e)

abbrev ImportParts : Coded (ℕ × (Option (Unit {0}) × (Ident × (List Ident × Either (Unit {0} × (Unit {0} × Unit {0})) (Unit {0})))))
ImportParts = in_order (key_at_form key_of.Import) (in_order (optional (key_form key_of.Static)) (in_order ident_form NamesCoded))

abbrev pub import_coded : Coded Import
import_coded = record { tell = import_tokens; fits = λ i. true; run = import_run; starts = key_code key_of.Import ∷ []; goes = []; empties = false }

told_import : (p : ℕ × (Option (Unit {0}) × (Ident × (List Ident × Either (Unit {0} × (Unit {0} × Unit {0})) (Unit {0}))))) (r : List Told) → import_tokens (import_made p) r ≡ ImportParts.tell p r
told_import (at, (None, (first, (more, This e)))) r = refl
told_import (at, (None, (first, (more, That e)))) r = refl
told_import (at, (Some s, (first, (more, This e)))) r = refl
told_import (at, (Some s, (first, (more, That e)))) r = refl

fit_import : (p : ℕ × (Option (Unit {0}) × (Ident × (List Ident × Either (Unit {0} × (Unit {0} × Unit {0})) (Unit {0}))))) → true ≡ ImportParts.fits p
fit_import (at, (None, (first, (more, This e)))) = refl
fit_import (at, (None, (first, (more, That e)))) = refl
fit_import (at, (Some s, (first, (more, This e)))) = refl
fit_import (at, (Some s, (first, (more, That e)))) = refl

back_import : (at : ℕ) (is_static : Bool) (first : Ident) (more : List Ident) (on_demand : Bool) → (p : ℕ × (Option (Unit {0}) × (Ident × (List Ident × Either (Unit {0} × (Unit {0} × Unit {0})) (Unit {0}))))) × (import_made p ≡ record { at = at; is_static = is_static; first = first; more = more; on_demand = on_demand })
back_import at true first more true = ((at, (Some tt, (first, (more, This (tt, (tt, tt)))))), refl)
back_import at true first more false = ((at, (Some tt, (first, (more, That tt)))), refl)
back_import at false first more true = ((at, (None, (first, (more, This (tt, (tt, tt)))))), refl)
back_import at false first more false = ((at, (None, (first, (more, That tt)))), refl)

pub import_laws : Lawful Import (formed import_coded)
unfolding import_run
import_laws =
    made_laws (ℕ × (Option (Unit {0}) × (Ident × (List Ident × Either (Unit {0} × (Unit {0} × Unit {0})) (Unit {0}))))) Import ImportParts import_made import_tokens (λ i. true)
    (then_a (a_key_at key_of.Import) (then_a (maybe_a (a_key key_of.Static) refl) (then_a an_ident (has NamesCoded names_coded_laws) refl) refl) refl).laws
    (same_makes (ℕ × (Option (Unit {0}) × (Ident × (List Ident × Either (Unit {0} × (Unit {0} × Unit {0})) (Unit {0}))))) Import ImportParts import_made import_tokens (λ i. true)
    (record { told = told_import; fit = fit_import; back = λ i. back_import i.at i.is_static i.first i.more i.on_demand }))
