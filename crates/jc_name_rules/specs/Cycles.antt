-- Classes that depend on themselves, as they are listed.
use Rattle.std.specs.Prelude.{◌≡◌, ℕ, Bool, true, false, cond, List, [], Option, Some, None, slice_get}
use Rattle.jc_rules.specs.declared.rule.Refusal.{Refusal}
use Rattle.jc_declares.specs.declared.heads.ClassHead.{ClassHead}
use Rattle.jc_declares.specs.declared.heads.Heads.{Heads}
use Rattle.jc_declares.specs.Knowing.{Needs}
use Rattle.jc_declares.specs.HeadBreaks.{broken_at}

-- class c is marked; false where there is no mark for it
abbrev pub or_false : Option Bool → Bool
or_false None = false
or_false (Some b) = b

abbrev pub is_marked : List Bool → ℕ → Bool
is_marked marks c = or_false (slice_get marks c)

-- those of the classes are marked that depend on themselves
pub record AreCyclic (H : Heads) (marks : List Bool) : Type 0 where
  pub cyclic : (c : ℕ) → is_marked marks c ≡ true → Needs H c c
  pub marked : (c : ℕ) (s : ClassHead) → slice_get H.classes c ≡ Some s → Needs H c c → is_marked marks c ≡ true

-- rule 304 at a marked class, and nothing at others (JLS 8.1.4, 9.1.3)
abbrev pub cycle_breaks : List Bool → ℕ → ClassHead → List Refusal
cycle_breaks marks c s = cond (is_marked marks c) (broken_at 304 s.file s.at) []
