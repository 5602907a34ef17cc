-- The form of primaries, and that they are read as they are to be.
use Rattle.std.proofs.Common.{ℕ, List, refl}
use Rattle.jc_tree.specs.declared.expression.ArrayInit.{ArrayInit}
use Rattle.jc_tree.specs.declared.expression.Expr.{Expr}
use Rattle.jc_grammar.specs.Told.{Told}
use Rattle.jc_reading.specs.Kinds.{front_code, one_of}
use Rattle.jc_reading.specs.Reading.{Run}
use Rattle.jc_reading.proofs.Forms.{Form, Lawful}
use Rattle.jc_reading.proofs.Coded.{Coded, formed, coded}
use Rattle.jc_expr_laws.specs.PrimeReading.{Selector, selected, selectors_run}
use Rattle.jc_reading.proofs.Growing.{grows, Growing, growing_laws}
use Rattle.jc_expr_laws.proofs.PrimeSelectors.{sel_fits, sel_starts, selecting, first_selector, prime_goes, outside}
use Rattle.jc_expr_laws.proofs.PrimeStarts.{plain_coded, plain_laws, plain_next}
use Rattle.jc_expr_laws.proofs.PrimeSpecials.{special_coded, special_laws}
use Rattle.jc_expr_laws.proofs.PrimeParts.{Sel_tell}
use Rattle.jc_expr_laws.proofs.CreationRooms.{Below}

module _ (h : ℕ) (expr : Run Expr) (array : Run ArrayInit) (below : Below h expr array) where
  abbrev Tell : Selector → List Told → List Told
  Tell = Sel_tell h expr array below

  -- a first value, and selectors behind it
  abbrev pub selections : Coded Expr → Form (Expr × List Selector)
  selections first = grows Expr Selector selected Tell (sel_fits h expr array below) (selectors_run h expr array) (sel_starts h expr array below) (one_of prime_goes) (formed first)

  abbrev pub Plain_first : Coded Expr
  Plain_first = plain_coded h expr array below

  abbrev pub Special_first : Coded Expr
  Special_first = special_coded h

  pub plain_growing : Growing Expr Selector selected Tell (sel_fits h expr array below) (selectors_run h expr array) (sel_starts h expr array below) (one_of prime_goes) (formed Plain_first)
  plain_growing = record {
    stepping = selecting h expr array below;
    lawful = plain_laws h expr array below;
    solid = refl;
    goes = λ ts e. outside Plain_first.goes prime_goes (front_code ts) refl e;
    next = λ ts v m p r s t. let f = first_selector h expr array below v m p r t in plain_next h expr array below ts v m s f.0 f.1;
  }

  pub special_growing : Growing Expr Selector selected Tell (sel_fits h expr array below) (selectors_run h expr array) (sel_starts h expr array below) (one_of prime_goes) (formed Special_first)
  special_growing = record {
    stepping = selecting h expr array below;
    lawful = special_laws h;
    solid = refl;
    goes = λ ts e. refl;
    next = λ ts v m p r s t. (special_laws h).exact ts v m s refl;
  }

  -- coded
  abbrev pub plain_grown : Coded (Expr × List Selector)
  plain_grown = coded (selections Plain_first) Plain_first.starts prime_goes

  abbrev pub special_grown : Coded (Expr × List Selector)
  special_grown = coded (selections Special_first) Special_first.starts prime_goes

  pub plain_grown_laws : Lawful (Expr × List Selector) (formed plain_grown)
  plain_grown_laws = growing_laws Expr Selector selected Tell (sel_fits h expr array below) (selectors_run h expr array) (sel_starts h expr array below) (one_of prime_goes) (formed Plain_first) plain_growing

  pub special_grown_laws : Lawful (Expr × List Selector) (formed special_grown)
  special_grown_laws = growing_laws Expr Selector selected Tell (sel_fits h expr array below) (selectors_run h expr array) (sel_starts h expr array below) (one_of prime_goes) (formed Special_first) special_growing
