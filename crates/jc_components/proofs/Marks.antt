-- Marks that grow vertex by vertex.
use Rattle.std.proofs.Common.{◌≡◌, ◌⊎◌, inl, inr, ◌<◌, ◌+◌, ℕ, zero, suc, Bool, true, List, [], ◌∷◌, ◌++◌, Some, length, slice_get, slice_index_or, refl, sym, ap, subst, ◌∙◌, arith}
use Rattle.std.proofs.lemmas.Grind.{common_steps}
use Rattle.jc_components.specs.declared.claims.Claim.{Claim}
use Rattle.jc_components.specs.Reach.{IsIn, Reach, IsClosed}
use Rattle.jc_components.specs.Marks.{or_false, is_marked, AreReached}
use Rattle.jc_components.specs.Claims.{claim_of, AllProper}
use Rattle.jc_components.proofs.Cycles.{cyclic_reached, reached_cyclic}

last_of : {A : Type 0} (xs : List A) (x : A) → slice_get (xs ++ x ∷ []) (length xs) ≡ Some x
last_of [] x = refl
last_of (y ∷ xs) x = last_of xs x

first_of : {A : Type 0} (xs ys : List A) (j : ℕ) → j < length xs → slice_get (xs ++ ys) j ≡ slice_get xs j
first_of [] ys j l = absurd (omega arith)
first_of (x ∷ xs) ys zero l = refl
first_of (x ∷ xs) ys (suc j) l = first_of xs ys j (omega arith)

marked_first : (marks : List Bool) (b : Bool) (c : ℕ) → c < length marks → is_marked (marks ++ b ∷ []) c ≡ is_marked marks c
marked_first marks b c l = ap or_false (first_of marks (b ∷ []) c l)

marked_last : (marks : List Bool) (b : Bool) (c : ℕ) → c ≡ length marks → is_marked (marks ++ b ∷ []) c ≡ b
marked_last marks b c e = subst (λ k. is_marked (marks ++ b ∷ []) k ≡ b) (sym e) (ap or_false (last_of marks b))

pub one_more : (rows : List (List ℕ)) (marks : List Bool) (k : ℕ) (b : Bool) → AreReached rows marks k → (b ≡ true → Reach rows k k) → (Reach rows k k → b ≡ true)
    → AreReached rows (marks ++ b ∷ []) (k + 1)
one_more rows marks k b a f g = record {
  count = let e = a.count in grind (arith, common_steps);
  told = λ c l. by_order c (order c l);
}
  where
    order : (c : ℕ) → c < k + 1 → (c < k) ⊎ (c ≡ k)
    order c l = grind arith

    by_order : (c : ℕ) → (c < k) ⊎ (c ≡ k) → (is_marked (marks ++ b ∷ []) c ≡ true → Reach rows c c) × (Reach rows c c → is_marked (marks ++ b ∷ []) c ≡ true)
    by_order c (inl l) =
        let e : is_marked (marks ++ b ∷ []) c ≡ is_marked marks c = marked_first marks b c (let n = a.count in omega arith) in
        let t = a.told c l in
        (λ m. t.0 (sym e ∙ m), λ r. e ∙ t.1 r)
    by_order c (inr s) =
        let e : is_marked (marks ++ b ∷ []) c ≡ b = marked_last marks b c (s ∙ sym a.count) in
        (λ m. subst (λ x. Reach rows x x) (sym s) (f (sym e ∙ m)), λ r. e ∙ g (subst (λ x. Reach rows x x) s r))

-- ---- members of a row

pub next_in : (x : ℕ) (xs : List ℕ) (i : ℕ) → i < length xs → slice_index_or xs i 0 ≡ x → IsIn x xs
next_in x [] i l e = absurd (omega arith)
next_in x (y ∷ xs) zero l e = inl (sym e)
next_in x (y ∷ xs) (suc i) l e = inr (next_in x xs i (omega arith) e)

-- by what is claimed of the next vertex
pub claimed_more : (rows : List (List ℕ)) (claims : List Claim) (marks : List Bool) (k : ℕ) → IsClosed rows → AllProper rows claims (length rows) → k < length rows
    → AreReached rows marks k → AreReached rows (marks ++ (claim_of claims k).is_cyclic ∷ []) (k + 1)
claimed_more rows claims marks k closed proper l a =
    one_more rows marks k _ a (cyclic_reached rows claims closed proper k l) (reached_cyclic rows claims closed proper k)
