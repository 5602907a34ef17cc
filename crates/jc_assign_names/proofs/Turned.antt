-- Prefix operators: an odd number of `!` turns the answers of a test.
use Rattle.std.proofs.Common.{◌≡◌, Bool, true, false, not, List, [], ◌∷◌, ◌++◌, if◌then◌else◌, refl, sym, ap, ◌∙◌}
use Rattle.std.proofs.Math.Path.{fun_ext}
use Rattle.jc_types.specs.declared.constant.Op.{Op}
use Rattle.jc_types.specs.declared.constant.Op.TheVariants.{Not}
use Rattle.jc_assign_spec.specs.Marks.{Split, turned, with_now}
use Rattle.jc_assign_spec.specs.Expressions.{prefixed}
use Rattle.jc_assign_parts.specs.Lanes.{Knowing, Lane, Marking, knowing, marking}
use Rattle.jc_assign_names.specs.Walks.{differ, is_not, odd_nots, split_at}

pub odd_more : (xs : List Op) (x : Op) → odd_nots (xs ++ x ∷ []) ≡ differ (is_not x) (odd_nots xs)
odd_more [] x = refl
odd_more (y ∷ ys) x = ap (λ (b : Bool). differ (is_not y) b) (odd_more ys x) ∙ swapped (is_not y) (is_not x) (odd_nots ys)
  where
    swapped : (a b c : Bool) → differ a (differ b c) ≡ differ b (differ a c)
    swapped true true c = refl
    swapped true false c = refl
    swapped false true c = refl
    swapped false false c = refl

pub differ_turn : (n f o : Bool) → differ (differ n f) o ≡ differ f (differ n o)
differ_turn true true true = refl
differ_turn true true false = refl
differ_turn true false o = refl
differ_turn false f o = refl

pub differ_none : (f : Bool) → differ f false ≡ f
differ_none true = refl
differ_none false = refl

pub ruleset odds = (odd_more, differ_turn, differ_none)

turn_not : (b : Bool) (r : Split) → turned (if b then turned r else r) ≡ (if not b then turned r else r)
unfolding with_now
turn_not true r = refl
turn_not false r = refl

pub prefixed_odd : (ops : List Op) (r : Split) → prefixed ops r ≡ (if odd_nots ops then turned r else r)
prefixed_odd [] r = refl
prefixed_odd (Not ∷ ops) r = ap turned (prefixed_odd ops r) ∙ turn_not (odd_nots ops) r
prefixed_odd (op ∷ ops) r = prefixed_odd ops r

module _ (ops : List Op) (S : Knowing) (M : Marking) where
  odd_yes : (b : Bool) → b ≡ odd_nots ops → (l : Lane) → (if b then turned (split_at S M l) else split_at S M l).yes ≡ (prefixed ops (split_at S M l)).yes
  odd_yes b e l = ap (λ (x : Bool). (if x then turned (split_at S M l) else split_at S M l).yes) e ∙ ap (λ (r : Split). r.yes) (sym (prefixed_odd ops (split_at S M l)))

  odd_no : (b : Bool) → b ≡ odd_nots ops → (l : Lane) → (if b then turned (split_at S M l) else split_at S M l).no ≡ (prefixed ops (split_at S M l)).no
  odd_no b e l = ap (λ (x : Bool). (if x then turned (split_at S M l) else split_at S M l).no) e ∙ ap (λ (r : Split). r.no) (sym (prefixed_odd ops (split_at S M l)))

  pub turned_yes : (b : Bool) → b ≡ odd_nots ops → b ≡ true → knowing (λ l. with_now (M.each l) (S.each l)) ≡ knowing (λ l. (prefixed ops (split_at S M l)).yes)
  turned_yes b e t = ap knowing (fun_ext (odd_yes true (sym t ∙ e)))

  pub turned_no : (b : Bool) → b ≡ odd_nots ops → b ≡ true → marking (λ l. (S.each l).now) ≡ marking (λ l. (prefixed ops (split_at S M l)).no)
  turned_no b e t = ap marking (fun_ext (odd_no true (sym t ∙ e)))

  pub kept_yes : (b : Bool) → b ≡ odd_nots ops → b ≡ false → S ≡ knowing (λ l. (prefixed ops (split_at S M l)).yes)
  kept_yes b e t = ap knowing (fun_ext (odd_yes false (sym t ∙ e)))

  pub kept_no : (b : Bool) → b ≡ odd_nots ops → b ≡ false → M ≡ marking (λ l. (prefixed ops (split_at S M l)).no)
  kept_no b e t = ap marking (fun_ext (odd_no false (sym t ∙ e)))
