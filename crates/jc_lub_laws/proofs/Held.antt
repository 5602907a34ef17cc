-- The arguments of a kept type's view are held by those of the view of a type that it fits, and by what these are in.
use Rattle.std.proofs.Common.{◌≡◌, ◌⊎◌, inl, inr, ℕ, ◌==◌, Bool, true, false, Option, Some, None, List, [], ◌∷◌, length, map, if◌then◌else◌, refl, sym, ap, subst as along, ◌∙◌, arith}
use Rattle.std.proofs.lemmas.Bool.Decides.{nat_tests}
use Rattle.jc_types.specs.declared.form.Arg.{Arg, Arg-F, out-Arg}
use Rattle.jc_types.specs.declared.form.Arg.TheVariants.{Exact, Any, Extends, Super, outs-Exact, outs-Any, outs-Extends}
use Rattle.jc_types.specs.declared.form.Ty.{Ty, Ty-F, out-Ty}
use Rattle.jc_types.specs.declared.form.Ty.TheVariants.{Raw, Variable, NullTy, outs-Raw, outs-NullTy}
use Rattle.jc_types.specs.declared.ids.VarId.{VarId}
use Rattle.jc_types.specs.declared.table.Table.{Table}
use Rattle.jc_types.specs.Substitution.{subst, subst_arg, replacement}
use Rattle.jc_types.proofs.Sameness.{same_told}
use Rattle.jc_types.proofs.Substituted.{subst-Variable}
use Rattle.jc_judge.specs.Kinds.{Layer}
use Rattle.jc_judge.specs.Supers.{numbered}
use Rattle.jc_lub.specs.Columns.{upper_of, upper_at}
use Rattle.jc_lub.specs.Uncaptured.{same_args, same_arg_at, filled, filled_at, arg_for, parameter_at, whole, whole_at, passed, all_passed}
use Rattle.jc_meaning.specs.declared.frame.Binding.{Binding}
use Rattle.jc_meaning.specs.Kept.{close}
use Rattle.jc_meaning.specs.Levels.{Holds_at, AllHeld, BelowAt}
use Rattle.jc_meaning.proofs.Levels.{below_trans}
use Rattle.jc_header_rules.specs.Checked.{IsAmong, IsOver}
use Rattle.jc_lub_laws.specs.Under.{IsIn, as_it_is, any, extending, AllIn}
use Rattle.jc_lub_laws.proofs.Closing.{close_arg, closing}
use Rattle.jc_lub_laws.proofs.Homs.{Hom, substitution, composed, agree_on, narrow, over_along}
use Rattle.jc_lub_laws.proofs.Layers.{as_exact, as_any, as_extends, as_super, as_variable, exact_parts as exact_both}

-- ---- arguments that are the same

alike_at : (a b : Arg) (l m : Arg-F Arg Ty) → out-Arg a ≡ l → out-Arg b ≡ m → same_arg_at l m ≡ true → a ≡ b
alike_at a b (Arg-F.Exact t) (Arg-F.Exact u) e f s = as_exact a t e ∙ ap Exact (same_told t u s) ∙ sym (as_exact b u f)
alike_at a b Arg-F.Any Arg-F.Any e f s = as_any a e ∙ sym (as_any b f)
alike_at a b (Arg-F.Extends t) (Arg-F.Extends u) e f s = as_extends a t e ∙ ap Extends (same_told t u s) ∙ sym (as_extends b u f)
alike_at a b (Arg-F.Super t) (Arg-F.Super u) e f s = as_super a t e ∙ ap Super (same_told t u s) ∙ sym (as_super b u f)
alike_at a b _ _ e f s = cc

pub alike : (a b : Arg) → same_args a b ≡ true → a ≡ b
unfolding same_args
alike a b s = alike_at a b (out-Arg a) (out-Arg b) refl refl s

null_is_not_raw : NullTy ≡ Raw (numbered 0) → ⊥
null_is_not_raw e = let o : Ty-F.NullTy ≡ Ty-F.Raw (numbered 0) = sym outs-NullTy ∙ ap out-Ty e ∙ outs-Raw (numbered 0) in cc

module _ (T : Table) (n : ℕ) (vars : List Binding) (captured : List Ty) where
  abbrev pub cl : Ty → Ty
  cl t = close vars captured t

  abbrev pub cla : Arg → Arg
  cla a = close_arg vars captured a

  abbrev pub Holds : Arg → Ty → Type 0
  Holds a k = Holds_at (BelowAt T n) (out-Arg (cla a)) k

  abbrev hom : Hom (close vars captured) (close_arg vars captured)
  hom = closing vars captured

  out_exact : (t : Ty) → out-Arg (cla (Exact t)) ≡ Arg-F.Exact (cl t)
  out_exact t = ap out-Arg ((closing vars captured).exacts t) ∙ outs-Exact (cl t)

  out_any : out-Arg (cla Any) ≡ Arg-F.Any
  out_any = ap out-Arg ((closing vars captured).anys) ∙ outs-Any

  out_extends : (t : Ty) → out-Arg (cla (Extends t)) ≡ Arg-F.Extends (cl t)
  out_extends t = ap out-Arg ((closing vars captured).extend t) ∙ outs-Extends (cl t)

  abbrev At : Arg-F Arg Ty → Ty → Type 0
  At l k = Holds_at (BelowAt T n) l k

  pub holds_exact : (t k : Ty) → k ≡ cl t → Holds (Exact t) k
  holds_exact t k e = along (λ l. At l k) (sym (out_exact t)) e

  pub of_exact : (t k : Ty) → Holds (Exact t) k → k ≡ cl t
  of_exact t k h = along (λ l. At l k) (out_exact t) h

  module _ (R : Ty → Ty → Type 0) (carries : (t u : Ty) → R t u → BelowAt T n (close vars captured t) (close vars captured u)) where
    from_upper_at : (a : Arg) (l : Arg-F Arg Ty) (k t u : Ty) → out-Arg a ≡ l → upper_at l ≡ Some t → R t u → Holds a k → BelowAt T n k (cl u)
    from_upper_at a (Arg-F.Exact w) k t u e f r h =
        let s : w ≡ t = cc in
        let is : k ≡ cl t = of_exact w k (along (λ b. Holds b k) (as_exact a w e) h) ∙ ap (close vars captured) s in
        along (λ x. BelowAt T n x (cl u)) (sym is) (carries t u r)
    from_upper_at a (Arg-F.Extends w) k t u e f r h =
        let s : w ≡ t = cc in
        let is : BelowAt T n k (cl t) = along (λ x. BelowAt T n k (cl x)) s (along (λ l. At l k) (out_extends w) (along (λ b. Holds b k) (as_extends a w e) h)) in
        below_trans T n k (cl t) (cl u) is (carries t u r)
    from_upper_at a Arg-F.Any k t u e f r h = cc
    from_upper_at a (Arg-F.Super w) k t u e f r h = cc

    -- what an argument holds is held by each that it is in
    pub held_in : (a b : Arg) (k : Ty) → IsIn R a b → Holds a k → Holds b k
    unfolding upper_of
    held_in a b k (as_it_is _ _ s) h = along (λ x. Holds x k) (alike a b s) h
    held_in a b k (any _) h = along (λ l. At l k) (sym out_any) tt
    held_in a b k (extending _ t u e r) h = along (λ l. At l k) (sym (out_extends u)) (from_upper_at a (out-Arg a) k t u refl e r h)

    -- ---- exact arguments of a closed type

    pub exact_held : (es : List Ty) (bs : List Arg) → ((t : Ty) → IsAmong t es → t ≡ cl t) → AllIn R (map Exact es) bs → AllHeld (BelowAt T n) (map (close_arg vars captured) bs) es
    exact_held [] [] c h = tt
    exact_held [] (b ∷ bs) c h = absurd h
    exact_held (t ∷ es) [] c h = absurd h
    exact_held (t ∷ es) (b ∷ bs) c h = (held_in (Exact t) b t h.0 (holds_exact t t (c t (inl refl))), exact_held es bs (λ u m. c u (inr m)) h.1)

    -- ---- what is passed to a supertype

    module _ (own : List VarId) where
      -- the argument for a parameter holds what stands for it
      for_held : (ps : List VarId) (args : List Arg) (ks : List Ty) (v : VarId) (a : Arg) → length args ≡ length ps → length ks ≡ length ps → AllHeld (BelowAt T n) (map (close_arg vars captured) args) ks
          → arg_for ps args v ≡ Some a → Holds a (replacement ps ks v)
      for_held [] args ks v a l m h e = cc
      for_held (p ∷ ps) [] ks v a l m h e = cc
      for_held (p ∷ ps) (x ∷ args) [] v a l m h e = absurd (omega (arith, m))
      for_held (p ∷ ps) (x ∷ args) (k ∷ ks) v a l m h e =
          by_test (for_held ps args ks v a (let s : length args ≡ length ps = omega (arith, l) in s) (let s : length ks ≡ length ps = omega (arith, m) in s) h.1) (p.0 == v.0) e
        where
          by_test : (arg_for ps args v ≡ Some a → Holds a (replacement ps ks v)) → (b : Bool) → (if b then Some x else arg_for ps args v) ≡ Some a → Holds a (if b then k else replacement ps ks v)
          by_test rest true e = let s : x ≡ a = cc in along (λ y. Holds y k) s h.0
          by_test rest false e = rest e

      -- where both fillings are alike no wildcard stands there
      fillings_at : (x : Arg) (l : Arg-F Arg Ty) (k : Ty) → out-Arg x ≡ l → Holds x k → filled_at NullTy l ≡ filled_at (Raw (numbered 0)) l → cl (filled_at NullTy l) ≡ k
      fillings_at x (Arg-F.Exact t) k e h s = sym (of_exact t k (along (λ b. Holds b k) (as_exact x t e) h))
      fillings_at x Arg-F.Any k e h s = absurd (null_is_not_raw s)
      fillings_at x (Arg-F.Extends t) k e h s = absurd (null_is_not_raw s)
      fillings_at x (Arg-F.Super t) k e h s = absurd (null_is_not_raw s)

      filling_held : (ps : List VarId) (args : List Arg) (ks : List Ty) (v : VarId) → length args ≡ length ps → length ks ≡ length ps → AllHeld (BelowAt T n) (map (close_arg vars captured) args) ks
          → IsAmong v ps → replacement ps (filled NullTy args) v ≡ replacement ps (filled (Raw (numbered 0)) args) v → cl (replacement ps (filled NullTy args) v) ≡ replacement ps ks v
      filling_held [] args ks v l m h o s = absurd o
      filling_held (p ∷ ps) [] ks v l m h o s = absurd (omega (arith, l))
      filling_held (p ∷ ps) (x ∷ args) [] v l m h o s = absurd (omega (arith, m))
      filling_held (p ∷ ps) (x ∷ args) (k ∷ ks) v l m h o s =
          by_test (λ o s. filling_held ps args ks v (let r : length args ≡ length ps = omega (arith, l) in r) (let r : length ks ≡ length ps = omega (arith, m) in r) h.1 o s) (p.0 == v.0) refl o s
        where
          by_test : (IsAmong v ps → replacement ps (filled NullTy args) v ≡ replacement ps (filled (Raw (numbered 0)) args) v → cl (replacement ps (filled NullTy args) v) ≡ replacement ps ks v)
              → (b : Bool) → (p.0 == v.0) ≡ b → (v ≡ p) ⊎ IsAmong v ps
              → (if b then filled_at NullTy (out-Arg x) else replacement ps (filled NullTy args) v) ≡ (if b then filled_at (Raw (numbered 0)) (out-Arg x) else replacement ps (filled (Raw (numbered 0)) args) v)
              → cl (if b then filled_at NullTy (out-Arg x) else replacement ps (filled NullTy args) v) ≡ (if b then k else replacement ps ks v)
          by_test rest true e o s = fillings_at x (out-Arg x) k refl h.0 s
          by_test rest false e (inl q) s = let y : p.0 ≡ v.0 = ap (λ (z : VarId). z.0) (sym q) in let z : true ≡ false = grind (arith, nat_tests, e, y) in cc
          by_test rest false e (inr q) s = rest q s

      module _ (args : List Arg) (ks : List Ty) (l : length args ≡ length own) (m : length ks ≡ length own) (h : AllHeld (BelowAt T n) (map (close_arg vars captured) args) ks) where
        abbrev ones : List Ty
        ones = filled NullTy args

        abbrev others : List Ty
        others = filled (Raw (numbered 0)) args

        -- a type that comes out the same
        same_put : (x : Ty) → IsOver (λ v. IsAmong v own) x → subst own ones x ≡ subst own others x → cl (subst own ones x) ≡ subst own ks x
        same_put x o s =
            agree_on (λ t. close vars captured (subst own ones t)) (λ a. close_arg vars captured (subst_arg own ones a)) (subst own ks) (subst_arg own ks)
            (composed (close vars captured) (close_arg vars captured) (subst own ones) (subst_arg own ones) (closing vars captured) (substitution own ones)) (substitution own ks) x
            (over_along (λ v. IsAmong v own × (subst own ones (Variable v) ≡ subst own others (Variable v))) (λ v. cl (subst own ones (Variable v)) ≡ subst own ks (Variable v))
            (λ v q. ap (close vars captured) (subst-Variable own ones v) ∙ filling_held own args ks v l m h q.0 (sym (subst-Variable own ones v) ∙ q.1 ∙ subst-Variable own others v) ∙ sym (subst-Variable own ks v)) x
            (narrow (subst own ones) (subst_arg own ones) (subst own others) (subst_arg own others) (substitution own ones) (substitution own others) (λ v. IsAmong v own) x o s))

        by_passed : (x : Ty) (o : Option Arg) → IsOver (λ v. IsAmong v own) x → ((a : Arg) → o ≡ Some a → Holds a (subst own ks x)) → Holds (passed o (Exact (subst own ones x)) (Exact (subst own others x))) (subst own ks x)
        by_passed x (Some a) w f = f a refl
        by_passed x None w f = by_test (same_args (Exact (subst own ones x)) (Exact (subst own others x))) refl
          where
            by_test : (b : Bool) → same_args (Exact (subst own ones x)) (Exact (subst own others x)) ≡ b → Holds (if b then Exact (subst own ones x) else Any) (subst own ks x)
            by_test true e = holds_exact (subst own ones x) (subst own ks x) (sym (same_put x w (exact_both (subst own ones x) (subst own others x) (alike (Exact (subst own ones x)) (Exact (subst own others x)) e))))
            by_test false e = along (λ l. At l (subst own ks x)) (sym out_any) tt

        whole_held_at : (x : Ty) (y : Layer) (a : Arg) → out-Ty x ≡ y → parameter_at own args y ≡ Some a → Holds a (subst own ks x)
        whole_held_at x (Ty-F.Variable v) a e f =
            along (λ t. Holds a t) (sym (ap (subst own ks) (as_variable x v e) ∙ subst-Variable own ks v)) (for_held own args ks v a l m h f)
        whole_held_at x _ a e f = cc

        whole_held : (x : Ty) (a : Arg) → whole own args (Exact x) ≡ Some a → Holds a (subst own ks x)
        unfolding whole
        whole_held x a f = whole_held_at x (out-Ty x) a refl (sym (ap (whole_at own args) (outs-Exact x)) ∙ f)

        -- each argument of the supertype holds what it is with what stands for the parameters
        pub passed_held : (xs : List Ty) (bs : List Arg) → ((x : Ty) → IsAmong x xs → IsOver (λ v. IsAmong v own) x)
            → AllIn R (all_passed own args (map Exact xs) (map Exact (map (subst own ones) xs)) (map Exact (map (subst own others) xs))) bs
            → AllHeld (BelowAt T n) (map (close_arg vars captured) bs) (map (subst own ks) xs)
        passed_held [] [] o i = tt
        passed_held [] (b ∷ bs) o i = absurd i
        passed_held (x ∷ xs) [] o i = absurd i
        passed_held (x ∷ xs) (b ∷ bs) o i = (
          held_in (passed (whole own args (Exact x)) (Exact (subst own ones x)) (Exact (subst own others x))) b (subst own ks x) i.0
              (by_passed x (whole own args (Exact x)) (o x (inl refl)) (whole_held x)),
          passed_held xs bs (λ y q. o y (inr q)) i.1,
        )
