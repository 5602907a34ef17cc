-- The statements behind a label.
use Rattle.std.proofs.Common.{◌≡◌, ℕ, List, [], ◌∷◌, map, reverse, length, Option, Some, None, refl, ap, sym, arith}
use Rattle.std.proofs.lemmas.List.{drop-map, length-map, length-reverse}
use Rattle.jc_running.specs.declared.value.Completion.{Completion}
use Rattle.jc_typed.specs.declared.program.TypedProgram.{TypedProgram}
use Rattle.jc_typed.specs.Trees.{Stmt}
use Rattle.jc_meaning.specs.Kept.{TypedState, TypedRun}
use Rattle.jc_meaning.specs.Expressions as e
use Rattle.jc_meaning.specs.Statements as s
use Rattle.jc_completing.specs.Skipping.{behind_label}

pub map-behind : {A B : Type 0} (f : A → B) (o : Option ℕ) (xs : List A) → map f (behind_label o xs) ≡ behind_label o (map f xs)
map-behind f None xs = refl
map-behind f (Some n) xs = sym (drop-map f n xs)

run_behind : (P : TypedProgram) (r : e.Inner) (run : Stmt → TypedRun Completion) (k : ℕ) (o : Option ℕ) (ss : List Stmt) (u : ℕ) (t : TypedState)
    → s.run_all P r run k (behind_label o ss) u t ≡ s.run_from P r run k ss o u t
run_behind P r run k None ss u t = refl
run_behind P r run k (Some n) ss u t = refl

pub run_kept : (P : TypedProgram) (r : e.Inner) (run : Stmt → TypedRun Completion) (k : ℕ) (o : Option ℕ) (ss kept : List Stmt) (u : ℕ) (t : TypedState)
    → kept ≡ behind_label o ss → s.run_all P r run k kept u t ≡ s.run_from P r run k ss o u t
run_kept P r run k o ss kept u t h = rw h (run_behind P r run k o ss u t)

pub none_back : {A B : Type 0} (f : A → B) (xs : List A) → map f (reverse xs) ≡ [] → xs ≡ []
none_back f [] h = refl
none_back f (x ∷ xs) h = absurd (omega (arith, simp (length-map, length-reverse) at (ap length h)))
