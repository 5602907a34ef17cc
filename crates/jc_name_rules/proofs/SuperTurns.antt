-- Steps of the walks over supertypes.
use Rattle.std.proofs.Common.{◌≡◌, ◌+◌, ◌<◌, ℕ, Bool, Option, List, drop, length, get_or, refl, ap, ◌∙◌}
use Rattle.std.specs.Prelude.{not, ◌||◌}
use Rattle.jc_rules.specs.declared.rule.Refusal.{Refusal}
use Rattle.jc_types.specs.Breaks.{least}
use Rattle.jc_declares.specs.declared.heads.ClassHead.{ClassHead}
use Rattle.jc_declares.specs.declared.heads.Heads.{Heads}
use Rattle.jc_declares.specs.declared.heads.Path.{Path}
use Rattle.jc_declares.specs.Looking.{Knowledge}
use Rattle.jc_declares.specs.Knowing.{meant_in_head}
use Rattle.jc_declares.specs.HeadBreaks.{broken_at, unless, is_nameable, superclass_fits, interface_fits, superclass_breaks, interface_breaks}
use Rattle.jc_looking.specs.declared.scene.Sight.{Sight}
use Rattle.jc_looking.specs.Sights.{seen}
use Rattle.jc_written.proofs.Counting.{turn}
use Rattle.jc_name_rules.specs.Sighted.{superclass_seen, interface_seen}
use Rattle.jc_name_rules.proofs.SuperKinds.{superclass_told, interface_told}

module _ (H : Heads) (K : Knowledge) (c : ℕ) (s : ClassHead) where
  pub superclass_turn : (found next : Option Refusal) (xs : List Path) (i : ℕ) (p : Path) (nameable fits : Bool) (sight : Sight) → i < length xs → p ≡ get_or xs i p
      → nameable ≡ is_nameable H K c p → sight ≡ seen (meant_in_head H K c p) → fits ≡ superclass_seen H c sight → next ≡ least found (unless (not nameable || fits) (broken_at 305 s.file p.at))
      → least next (superclass_breaks H K c s (drop (i + 1) xs)) ≡ least found (superclass_breaks H K c s (drop i xs))
  superclass_turn found next xs i p nameable fits sight within is en es ef e =
      turn (λ (l : List Path). superclass_breaks H K c s l) (λ (q : Path). unless (not (is_nameable H K c q) || superclass_fits H c (meant_in_head H K c q)) (broken_at 305 s.file q.at)) (λ q l. refl) found next xs i p within is
      (e ∙ ap (λ b. least found (unless (not b || fits) (broken_at 305 s.file p.at))) en
      ∙ ap (λ b. least found (unless (not (is_nameable H K c p) || b) (broken_at 305 s.file p.at))) (ef ∙ ap (superclass_seen H c) es ∙ superclass_told H c (meant_in_head H K c p)))

  pub interface_turn : (found next : Option Refusal) (xs : List Path) (i : ℕ) (p : Path) (nameable fits : Bool) (sight : Sight) → i < length xs → p ≡ get_or xs i p
      → nameable ≡ is_nameable H K c p → sight ≡ seen (meant_in_head H K c p) → fits ≡ interface_seen H c sight → next ≡ least found (unless (not nameable || fits) (broken_at 305 s.file p.at))
      → least next (interface_breaks H K c s (drop (i + 1) xs)) ≡ least found (interface_breaks H K c s (drop i xs))
  interface_turn found next xs i p nameable fits sight within is en es ef e =
      turn (λ (l : List Path). interface_breaks H K c s l) (λ (q : Path). unless (not (is_nameable H K c q) || interface_fits H c (meant_in_head H K c q)) (broken_at 305 s.file q.at)) (λ q l. refl) found next xs i p within is
      (e ∙ ap (λ b. least found (unless (not b || fits) (broken_at 305 s.file p.at))) en
      ∙ ap (λ b. least found (unless (not (is_nameable H K c p) || b) (broken_at 305 s.file p.at))) (ef ∙ ap (interface_seen H c) es ∙ interface_told H c (meant_in_head H K c p)))
