-- What stands twice in the head of a type or a method.
use Rattle.std.proofs.Common.{◌≡◌, ◌+◌, ◌<◌, ◌==◌, ℕ, suc, Bool, true, false, not, ◌&&◌, cond, List, [], ◌∷◌, ◌++◌, drop, length, get_or, Option, Some, None, if◌then◌else◌, slice_get, zero-add, arith, refl, sym, ap, ◌∙◌}
use Rattle.std.specs.Str.{bytes_eq}
use Rattle.jc_rules.proofs.Truths.{own_bytes}
use Rattle.jc_rules.specs.declared.rule.Refusal.{Refusal}
use Rattle.jc_tree.specs.declared.statement.Formal.{Formal}
use Rattle.jc_tree.specs.declared.types.ClassTree.{ClassTree}
use Rattle.jc_tree.specs.Offsets.{first_offset_of_class}
use Rattle.jc_types.specs.Breaks.{before, least}
use Rattle.jc_types.specs.Names.{named}
use Rattle.jc_types.specs.declared.form.Ty.{Ty}
use Rattle.jc_types.proofs.Least.{least_append}
use Rattle.jc_declares.specs.declared.heads.Heads.{Heads}
use Rattle.jc_declares.specs.Heads.{Named}
use Rattle.jc_declares.specs.Looking.{Knowledge, is_number}
use Rattle.jc_declares.specs.HeadBreaks.{broken_at, some_before, unless}
use Rattle.jc_declares.specs.Breaks.{formals_twice, in_file, is_repeated, repeated_breaks, sound_type, with_type}
use Rattle.jc_declares.specs.Writing.{Broken, Reading, Wrote, is_empty, wrote_class}
use Rattle.jc_name_index.specs.Spaces.{picked, noted_all, space_named}
use Rattle.jc_name_index.proofs.SpacesNoted.{all_named}
use Rattle.jc_written.proofs.Counting.{first_left}
use Rattle.jc_name_rules.specs.Numbers.{as_formal}
use Rattle.jc_name_rules.proofs.Firsts.{first_of, marked}

-- ---- superinterfaces

either : (c : Bool) (a b : Refusal) (bs : List Refusal) → ((x : Refusal) → least (Some x) bs ≡ None → ⊥) → least (if c then Some b else Some a) bs ≡ None → ⊥
either true a b bs f e = f b e
either false a b bs f e = f a e

-- what is found first stays found
stays_some : (a : Refusal) (bs : List Refusal) → least (Some a) bs ≡ None → ⊥
stays_some a [] e = absurd (let z : ⊥ = cc in z)
stays_some a (b ∷ bs) e = either (before b a) a b bs (λ x. stays_some x bs) e

-- names without a least break break no rule
pub sound_told : (w : Wrote) (file : ℕ) → least None (in_file file w.broken) ≡ None → sound_type w ≡ Some w.ty
sound_told w file e = by w.broken e
  where
    by : (bs : List Broken) → least None (in_file file bs) ≡ None → cond (is_empty bs) (Some w.ty) None ≡ Some w.ty
    by [] e = refl
    by (b ∷ bs) e = absurd (stays_some (record { rule = b.rule; place = record { file = file; at = b.at }; have = 0 }) (in_file file bs) e)

module _ (H : Heads) (K : Knowledge) (r : Reading) (file : ℕ) where
  pub repeated_turn : (found next : Option Refusal) (before after : List Ty) (xs : List ClassTree) (i : ℕ) (t : ClassTree) (o : Option Ty) (repeated : Bool) → i < length xs → t ≡ get_or xs i t
      → o ≡ sound_type (wrote_class H K r t) → repeated ≡ is_repeated o before → next ≡ least found (unless (not repeated) (broken_at 305 file (first_offset_of_class t))) → after ≡ with_type before o
      → least next (repeated_breaks H K r file after (drop (i + 1) xs)) ≡ least found (repeated_breaks H K r file before (drop i xs))
  repeated_turn found next before after xs i t o repeated within is eo er e ea =
      let own : Option Ty = sound_type (wrote_class H K r t) in
      let here : List Refusal = unless (not (is_repeated own before)) (broken_at 305 file (first_offset_of_class t)) in
      let rest : List Refusal = repeated_breaks H K r file (with_type before own) (drop (i + 1) xs) in
      ap (λ (b : List Ty). least next (repeated_breaks H K r file b (drop (i + 1) xs))) (ea ∙ ap (with_type before) eo)
      ∙ ap (λ n. least n rest) (e ∙ ap (λ b. least found (unless (not b) (broken_at 305 file (first_offset_of_class t)))) (er ∙ ap (λ x. is_repeated x before) eo))
      ∙ sym (least_append found here rest)
      ∙ ap (λ (l : List ClassTree). least found (repeated_breaks H K r file before l)) (sym (first_left xs i t within is))

few : (H : Heads) (K : Knowledge) (r : Reading) (file : ℕ) (ts : List ClassTree) → length ts < 2 → repeated_breaks H K r file [] ts ≡ []
few H K r file [] l = refl
few H K r file (t ∷ []) l = by (sound_type (wrote_class H K r t))
  where
    by : (o : Option Ty) → unless (not (is_repeated o [])) (broken_at 305 file (first_offset_of_class t)) ++ [] ≡ []
    by None = refl
    by (Some u) = refl
few H K r file (t ∷ u ∷ ts) l = absurd (omega (arith, l))

-- of one alone none is
pub few_interfaces : (H : Heads) (K : Knowledge) (r : Reading) (file : ℕ) (ts : List ClassTree) (found : Option Refusal) → length ts < 2 → found ≡ least found (repeated_breaks H K r file [] ts)
few_interfaces H K r file ts found l = ap (least found) (sym (few H K r file ts l))

-- ---- formal parameters

picked_marked : (i : ℕ) (fs : List Formal) → picked as_formal 0 i fs ≡ marked (λ (f : Formal). true) (λ (f : Formal). f.name.text) i fs
unfolding marked
picked_marked i [] = refl
picked_marked i (f ∷ fs) = ap (λ (l : Named). (f.name.text, i) ∷ [] ++ l) (picked_marked (suc i) fs)

pub formal_first : (fs : List Formal) (k : ℕ) (f : Formal) → slice_get fs k ≡ Some f
    → is_number (space_named (noted_all as_formal 0 fs []) 0 f.name.text) k ≡ not (some_before (λ (g : Formal). bytes_eq f.name.text g.name.text) k fs)
formal_first fs k f e =
    ap (λ o. is_number o k) (all_named as_formal fs 0 [] 0 f.name.text ∙ ap (λ (l : Named). named f.name.text l) (picked_marked 0 fs))
    ∙ ap (λ j. is_number (named f.name.text (marked (λ (g : Formal). true) (λ (g : Formal). g.name.text) 0 fs)) j) (sym (zero-add k))
    ∙ first_of (λ (g : Formal). true) (λ (g : Formal). g.name.text) f.name.text (λ (g : Formal). bytes_eq f.name.text g.name.text) (λ g. refl) 0 k fs f e refl (own_bytes f.name.text)

one : (file : ℕ) (fs : List Formal) → length fs < 2 → formals_twice file fs ≡ []
one file [] l = refl
one file (f ∷ []) l = refl
one file (f ∷ g ∷ fs) l = absurd (omega (arith, l))

pub few_formals : (file : ℕ) (fs : List Formal) (found : Option Refusal) → length fs < 2 → found ≡ least found (formals_twice file fs)
few_formals file fs found l = ap (least found) (sym (one file fs l))

pub ruleset formal_told = (formal_first)
