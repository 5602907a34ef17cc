-- Whether names are there is told by what is found.
use Rattle.std.proofs.Common.{◌≡◌, ℕ, Bool, true, false, List, [], ◌∷◌, Option, Some, None, slice_get, refl, sym}
use Rattle.std.specs.Prelude.{not, if◌then◌else◌}
use Rattle.std.specs.Str.{bytes_eq}
use Rattle.jc_rules.proofs.Truths.{own_bytes}
use Rattle.jc_types.specs.Names.{named}
use Rattle.jc_declares.specs.declared.heads.Heads.{Heads}
use Rattle.jc_declares.specs.Heads.{class_variables}
use Rattle.jc_declares.specs.Writing.{is_empty}
use Rattle.jc_name_index.specs.declared.index.Index.{Index}
use Rattle.jc_name_index.specs.Index.{IsIndex}
use Rattle.jc_name_index.specs.Spaces.{Named, named_in, has_some}

found_first : (b : Bool) (p : ℕ) (o : Option ℕ) → b ≡ true → (if b then Some p else o) ≡ None → ⊥
found_first true p o e h = (cc)
found_first false p o e h = (cc)

same_emptiness : (o : Option Named) (ys : Named) → ((n : List ℕ) → named_in n o ≡ named n ys) → has_some o ≡ not (is_empty ys)
same_emptiness None [] h = refl
same_emptiness None (y ∷ ys) h = absurd (found_first (bytes_eq y.0 y.0) y.1 (named y.0 ys) (own_bytes y.0) (sym (h y.0)))
same_emptiness (Some []) [] h = refl
same_emptiness (Some []) (y ∷ ys) h = absurd (found_first (bytes_eq y.0 y.0) y.1 (named y.0 ys) (own_bytes y.0) (sym (h y.0)))
same_emptiness (Some (e ∷ es)) [] h = absurd (found_first (bytes_eq e.0 e.0) e.1 (named e.0 es) (own_bytes e.0) (h e.0))
same_emptiness (Some (e ∷ es)) (y ∷ ys) h = refl

pub generic_told : (H : Heads) (I : Index) (c : ℕ) → IsIndex H I → has_some (slice_get I.class_variables c) ≡ not (is_empty (class_variables H c))
generic_told H I c index = same_emptiness (slice_get I.class_variables c) (class_variables H c) (λ n. index.class_variables c n)
