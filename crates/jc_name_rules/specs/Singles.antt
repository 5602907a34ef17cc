-- The types that single imports import, as they are kept.
use Rattle.std.specs.Prelude.{◌≡◌, ℕ, ◌==◌, Bool, not, ◌&&◌, ◌||◌, List, [], ◌∷◌, ◌++◌, cond, Option, Some, None}
use Rattle.std.specs.Str.{bytes_eq}
use Rattle.jc_rules.specs.declared.rule.Refusal.{Refusal}
use Rattle.jc_types.specs.Names.{named}
use Rattle.jc_declares.specs.declared.heads.ImportHead.{ImportHead}
use Rattle.jc_declares.specs.declared.heads.Heads.{Heads}
use Rattle.jc_declares.specs.declared.heads.UnitHead.{UnitHead}
use Rattle.jc_declares.specs.Heads.{Named}
use Rattle.jc_declares.specs.Looking.{singles}
use Rattle.jc_declares.specs.Knowing.{is_some}
use Rattle.jc_declares.specs.HeadBreaks.{some_in, unless, broken_at, is_imported_twice}
use Rattle.jc_name_rules.specs.declared.singles.Singles.{Singles}

-- another type is among them under a name
abbrev pub other_in : List ℕ → ℕ → Named → Bool
other_in n c es = some_in (λ (e : List ℕ × ℕ). bytes_eq e.0 n && not (e.1 == c)) es

-- another type than c has the name: the first one is another, or several types have it
abbrev pub other_by : Option ℕ → Bool → ℕ → Bool
other_by None several c = several
other_by (Some d) several c = several || not (d == c)

-- the first type of each name is kept, and under which names several types are
pub record AreSingles (es : Named) (s : Singles) : Type 0 where
  pub firsts : (n : List ℕ) → named n s.firsts ≡ named n es
  pub several : (n : List ℕ) (c : ℕ) → other_by (named n s.firsts) (is_some (named n s.several)) c ≡ other_in n c es

-- a type under a name, if there is one
abbrev pub entry_of : List ℕ → Option ℕ → Named
entry_of n None = []
entry_of n (Some c) = (n, c) ∷ []

-- with one type more under a name
abbrev pub with_several : ℕ → List ℕ → ℕ → Singles → Singles
with_several d n c s = cond ((d == c) || is_some (named n s.several)) s (record s { several = s.several ++ (n, c) ∷ [] })

-- the first type under a name is kept as such; one more counts where it is another one
abbrev pub with_first_or : Option ℕ → List ℕ → ℕ → Singles → Singles
with_first_or None n c s = record s { firsts = s.firsts ++ (n, c) ∷ [] }
with_first_or (Some d) n c s = with_several d n c s

abbrev pub with_single : List ℕ → ℕ → Singles → Singles
with_single n c s = with_first_or (named n s.firsts) n c s

-- all these, one after the other
abbrev pub with_entries : Named → Singles → Singles
with_entries [] s = s
with_entries (e ∷ es) s = with_entries es (with_single e.0 e.1 s)

-- of each unit
abbrev pub AreOfUnits : Heads → List UnitHead → List Singles → Type 0
AreOfUnits H [] [] = Unit {0}
AreOfUnits H [] (s ∷ ss) = ⊥
AreOfUnits H (u ∷ us) [] = ⊥
AreOfUnits H (u ∷ us) (s ∷ ss) = AreSingles (singles H u.imports) s × AreOfUnits H us ss

-- for each unit, what is kept of the types that its single imports import
pub record AllSingles (H : Heads) (ss : List Singles) : Type 0 where
  pub each : AreOfUnits H H.units ss

-- ---- imports under whose name another one imports another type

-- rule 301 at import k of these, where a single one before it imports another type under its name (JLS 7.5.1)
abbrev pub twice_in : Heads → ℕ → List ImportHead → ℕ → ImportHead → List Refusal
twice_in H file is k i = unless (not (is_imported_twice H is k i)) (broken_at 301 file i.at)

-- one of the types that an import imports has a name under which another type is among es
abbrev pub is_twice_among : Named → Named → Bool
is_twice_among es of_import = some_in (λ (e : List ℕ × ℕ). other_in e.0 e.1 es) of_import
