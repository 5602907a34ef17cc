-- Texts are read one after the other.
use Rattle.std.proofs.Common.{◌≡◌, ◌<◌, ◌+◌, ℕ, zero, suc, List, [], ◌∷◌, ◌++◌, length, take, get_or, sym, ap, arith, add-one, Option, Some}
use Rattle.std.specs.Prelude.{slice_get, ◌-◌}
use Rattle.jc_outside.specs.Told.{Files}
use Rattle.javag.specs.Objects.{HasBytes, HaveTexts}

pub texts_more : (files : Option Files) (names texts : List (List ℕ)) (name text : List ℕ) → HaveTexts files names texts → HasBytes files name text → HaveTexts files (names ++ name ∷ []) (texts ++ text ∷ [])
texts_more files [] [] name text have here = (here, tt)
texts_more files (n ∷ names) (t ∷ texts) name text have here = (have.0, texts_more files names texts name text have.1 here)
texts_more files [] (t ∷ texts) name text have here = absurd have
texts_more files (n ∷ names) [] name text have here = absurd have

pub take_one : (names : List (List ℕ)) (at : ℕ) (name : List ℕ) → at < length names → name ≡ get_or names at name → (take (at + 1) names ≡ take at names ++ name ∷ []) × (slice_get names at ≡ Some name)
take_one [] at name h e = absurd (omega arith)
take_one (n ∷ names) zero name h e = (ap (λ (x : List ℕ). x ∷ []) (sym e), ap (λ (x : List ℕ). Some x) (sym e))
take_one (n ∷ names) (suc at) name h e = let more = take_one names at name (omega arith) e in (rw add-one (ap (λ (l : List (List ℕ)). n ∷ l) (rw add-one at more.0)), more.1)
