-- What the steps of the code of initialisers read, and how far.
use Rattle.std.proofs.Common.{◌≡◌, ℕ, ◌-◌, ◌<◌, min, Bool, true, false, List, [], ◌∷◌, length, Result, refl, sym, ap, ◌∙◌}
use Rattle.std.proofs.lemmas.Bool.{cond-true, cond-false}
use Rattle.jc_lexer.specs.declared.token.Sign.TheVariants as sign_of
use Rattle.jc_lexer.specs.declared.token.Token.{Token}
use Rattle.jc_tree.specs.declared.expression.ArrayInit.{ArrayInit}
use Rattle.jc_tree.specs.declared.expression.Expr.{Expr}
use Rattle.jc_tree.specs.declared.expression.Init.{Init}
use Rattle.jc_tree.specs.declared.expression.Init.TheVariants as init_of
use Rattle.jc_tree.specs.Heights.{capped, array_height, expr_height}
use Rattle.jc_reading.specs.declared.reading.Found as its
use Rattle.jc_reading.specs.declared.reading.Halt.{Halt}
use Rattle.jc_reading.specs.Giving.{Gives}
use Rattle.jc_reading.specs.Kinds.{sign_code, one_of}
use Rattle.jc_reading.specs.Reading.{Read, Found, Stopped, Run, found, noting, becoming, joined, ◌>>=◌, as_new, at_kind, commas_run, This, That}
use Rattle.jc_part_laws.specs.PartReading.{closing_run}
use Rattle.jc_expr_laws.specs.PrimeReading.{init_made, init_run, array_made}
use Rattle.jc_parse_expr.specs.declared.measured.Measured.{Measured}
use Rattle.jc_parse_expr.specs.declared.parts.Row.{Row}
use Rattle.jc_parse_expr.specs.Measuring.{measured, measured_array}
use Rattle.jc_parse_expr.specs.PrimeCode.{Measures, array_in, expr_in, init_in, init_row_run, row_tree}
use Rattle.jc_parse_expr.proofs.ListSteps.{row_on, array_low, array_inside, array_open}
use Rattle.jc_parse_expr.proofs.MeasuredSteps.{gives_measures, twice}

pub expr_measures : (h : ℕ) (ts : List Token) (r : Result (its.Found (Measured Expr)) Halt) → Gives r (becoming measured (expr_in h ts)) → Measures expr_height r (expr_in h ts)
expr_measures h ts r g = gives_measures expr_height r (expr_in h ts) g

pub array_measures : (h : ℕ) (ts : List Token) (r : Result (its.Found (Measured ArrayInit)) Halt) → Gives r (becoming measured_array (array_in h ts)) → Measures array_height r (array_in h ts)
array_measures h ts r g = gives_measures array_height r (array_in h ts) g

-- an initialiser

pub init_array : (h : ℕ) (ts : List Token) → one_of (sign_code sign_of.LeftBrace ∷ []) ts ≡ true → init_in h ts ≡ becoming init_of.Nested (array_in h ts)
unfolding init_run
init_array h ts e = ap (becoming init_made) (cond-true (one_of (sign_code sign_of.LeftBrace ∷ []) ts) _ _ e) ∙ twice init_made This init_of.Nested (array_in h ts) (λ a. refl)

pub init_value : (h : ℕ) (ts : List Token) → one_of (sign_code sign_of.LeftBrace ∷ []) ts ≡ false → init_in h ts ≡ becoming init_of.Value (expr_in h ts)
unfolding init_run
init_value h ts e = ap (becoming init_made) (cond-false (one_of (sign_code sign_of.LeftBrace ∷ []) ts) _ _ e) ∙ twice init_made That init_of.Value (expr_in h ts) (λ a. refl)

-- a row of them

closed_by : (init : Run Init) (ts : List Token) → one_of (sign_code sign_of.Comma ∷ sign_code sign_of.RightBrace ∷ []) ts ≡ false → (v : Read (List Init)) → commas_run init ts ≡ v
    → as_new row_tree (init_row_run init) ts ≡ becoming row_tree (v >>= (λ list r. becoming (joined list) (closing_run sign_of.Comma sign_of.RightBrace r)))
closed_by init ts e v f = ap (becoming row_tree) (row_on init ts e ∙ ap (λ (v : Read (List Init)). v >>= (λ list r. becoming (joined list) (closing_run sign_of.Comma sign_of.RightBrace r))) f)

pub row_closed : (init : Run Init) (ts q r : List Token) (list : List Init) (trailing : Bool) (l : ℕ) → one_of (sign_code sign_of.Comma ∷ sign_code sign_of.RightBrace ∷ []) ts ≡ false → commas_run init ts ≡ Found list q l
    → closing_run sign_of.Comma sign_of.RightBrace q ≡ found trailing r → as_new row_tree (init_row_run init) ts ≡ Found (row_tree (list, trailing)) r (min l (length r))
row_closed init ts q r list trailing l e f g = closed_by init ts e (Found list q l) f ∙ ap (λ (v : Read Bool). becoming row_tree (noting l (becoming (joined list) v))) g

pub row_open : (init : Run Init) (ts q : List Token) (list : List Init) (l k : ℕ) → one_of (sign_code sign_of.Comma ∷ sign_code sign_of.RightBrace ∷ []) ts ≡ false → commas_run init ts ≡ Found list q l
    → closing_run sign_of.Comma sign_of.RightBrace q ≡ Stopped k → as_new row_tree (init_row_run init) ts ≡ Stopped (min l k)
row_open init ts q list l k e f g = closed_by init ts e (Found list q l) f ∙ ap (λ (v : Read Bool). becoming row_tree (noting l (becoming (joined list) v))) g

pub row_stops : (init : Run Init) (ts : List Token) (l : ℕ) → one_of (sign_code sign_of.Comma ∷ sign_code sign_of.RightBrace ∷ []) ts ≡ false → commas_run init ts ≡ Stopped l → as_new row_tree (init_row_run init) ts ≡ Stopped l
row_stops init ts l e f = closed_by init ts e (Stopped l) f

-- an array initialiser

with_its_height : (array : Measured ArrayInit) → array.height ≡ capped (array_height array.tree) → measured_array array.tree ≡ array
with_its_height array e = ap (λ (n : ℕ). record { tree = array.tree; height = n }) (sym e)

pub array_gives : (h : ℕ) (ts q r : List Token) (at : ℕ) (row : Row) (array : Measured ArrayInit) (l : ℕ) → 0 < h → at_kind (sign_code sign_of.LeftBrace) ts ≡ found at q → as_new row_tree (init_row_run (init_in (h - 1))) q ≡ Found row r l
    → array.tree ≡ array_made (at, (row.inits, row.trailing)) → array.height ≡ capped (array_height array.tree) → becoming measured_array (array_in h ts) ≡ Found array r l
array_gives h ts q r at row array l p e f g i =
    ap (becoming measured_array) (array_inside h ts q at p e ∙ ap (λ (v : Read Row). becoming (λ (row : Row). array_made (at, (row.inits, row.trailing))) v) f)
    ∙ ap (λ (a : ArrayInit). Found (measured_array a) r l) (sym g) ∙ ap (λ (a : Measured ArrayInit). Found a r l) (with_its_height array i)

pub array_stops : (h : ℕ) (ts q : List Token) (at l : ℕ) → 0 < h → at_kind (sign_code sign_of.LeftBrace) ts ≡ found at q → as_new row_tree (init_row_run (init_in (h - 1))) q ≡ Stopped l → becoming measured_array (array_in h ts) ≡ Stopped l
array_stops h ts q at l p e f =
    ap (becoming measured_array) (array_inside h ts q at p e ∙ ap (λ (v : Read Row). becoming (λ (row : Row). array_made (at, (row.inits, row.trailing))) v) f)

pub array_closed : (h : ℕ) (ts : List Token) → 0 < h → at_kind (sign_code sign_of.LeftBrace) ts ≡ Stopped (length ts) → becoming measured_array (array_in h ts) ≡ Stopped (length ts)
array_closed h ts p e = ap (becoming measured_array) (array_open h ts p e)

pub array_lacks : (h : ℕ) (ts : List Token) → h ≡ 0 → becoming measured_array (array_in h ts) ≡ Stopped (length ts)
array_lacks h ts p = ap (becoming measured_array) (array_low ts h p)
