-- Look-ups of texts.
use Rattle.std.proofs.Common.{◌≡◌, ◌∙◌, ℕ, cond, Some, List, [], ◌∷◌, map, refl, ap}
use Rattle.std.specs.Cmp.Lexicographic.{nat_list_eq_equiv}
use Rattle.std.specs.Str.{bytes_eq}
use Rattle.std.specs.Map.{lookup}
use Rattle.indexmap.proofs.CallerLemmas.{insert_entry-new}
use Rattle.jc_jvm.specs.Numbered.{numbered}
use Rattle.jc_jvm.specs.Worlds.{interned_in}
use Rattle.jc_jvm.specs.declared.world.Interned.{Interned}

pub same_texts : (xs ys : List ℕ) → bytes_eq xs ys ≡ bytes_eq ys xs
same_texts xs ys = nat_list_eq_equiv.symm xs ys

-- a look-up in the map is one in the list
pub found : {K : Type 0} (units : K → List ℕ) (text : List ℕ) (es : List (K × ℕ)) → lookup (λ k. bytes_eq text (units k)) es ≡ numbered text (map (λ e. (units e.0, e.1)) es)
found units text [] = refl
found units text (e ∷ es) =
    ap (cond (bytes_eq text (units e.0)) (Some e.1)) (found units text es)
    ∙ ap (λ b. cond b (Some e.1) (numbered text (map (λ e. (units e.0, e.1)) es))) (same_texts text (units e.0))

-- a look-up in the list of literals is one in that of their texts
pub interned_by : (text : List ℕ) (es : List (List ℕ × ℕ)) → numbered text es ≡ interned_in (map (λ e. let i : Interned = record { text = e.0; address = e.1 } in i) es) text
interned_by text [] = refl
interned_by text (e ∷ es) = ap (cond (bytes_eq e.0 text) (Some e.1)) (interned_by text es)

pub ruleset new_entry = (insert_entry-new)
