-- The cases of a `switch` don't depend on the program that is run.
use Rattle.std.proofs.Common.{◌≡◌, ℕ, ℤ, List, [], ◌∷◌, map, Option, Some, None, refl}
use Rattle.jc_running.specs.declared.value.Completion.{Completion}
use Rattle.jc_typed.specs.declared.lists.Case.{Case}
use Rattle.jc_typed.specs.declared.program.TypedProgram.{TypedProgram}
use Rattle.jc_typed.specs.Parts.{Part, case_over}
use Rattle.jc_typed.specs.Trees.{Stmt}
use Rattle.jc_meaning.specs.Kept.{TypedRun}
use Rattle.jc_meaning.specs.Expressions as e
use Rattle.jc_meaning.specs.Statements as s
use Rattle.jc_acts.specs.Cases.{is_key, labelled, is_default, default_in}

module _ (P : TypedProgram) (inner : e.Inner) (runs : Stmt → TypedRun Completion) (k : ℕ) where
  same_key : (n : ℤ) (key : Option ℤ) → s.is_key P inner runs k n key ≡ is_key n key
  same_key n (Some key) = refl
  same_key n None = refl

  pub same_labelled : (ps : List Part) (n : ℤ) (cs : List Case) → s.labelled P inner runs k n (map (case_over ps) cs) ≡ labelled n cs
  same_labelled ps n [] = refl
  same_labelled ps n (c ∷ cs) = rw (same_key n c.key, same_labelled ps n cs) refl

  same_default : (key : Option ℤ) → s.is_default P inner runs k key ≡ is_default key
  same_default (Some key) = refl
  same_default None = refl

  pub same_default_in : (ps : List Part) (cs : List Case) → s.default_in P inner runs k (map (case_over ps) cs) ≡ default_in cs
  same_default_in ps [] = refl
  same_default_in ps (c ∷ cs) = rw (same_default c.key, same_default_in ps cs) refl
