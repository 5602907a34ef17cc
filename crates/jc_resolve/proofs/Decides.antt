-- A chosen member is one of the applicable ones, and every other one that none beats has its signature.
use Rattle.std.proofs.Common.{◌≡◌, ◌⊎◌, inl, inr, ℕ, zero, suc, Bool, true, false, cond, Option, Some, None, List, [], ◌∷◌, ap, refl, subst, sym, ◌∙◌}
use Rattle.jc_rules.proofs.Truths.{and_first, and_second}
use Rattle.jc_types.specs.declared.conversion.Phase.{Phase}
use Rattle.jc_types.specs.declared.conversion.Phase.TheVariants.{Subtyping, Invocation, VariableArity}
use Rattle.jc_types.specs.declared.environment.Bounds.{Bounds}
use Rattle.jc_types.specs.declared.form.Ty.{Ty}
use Rattle.jc_types.specs.declared.table.Table.{Table}
use Rattle.jc_types.specs.Accessors.{has_body}
use Rattle.jc_judge.specs.declared.question.Answer.{Answer}
use Rattle.jc_judge.specs.declared.question.Answer.TheVariants.{Yes, No, Deep}
use Rattle.jc_overriding.specs.declared.view.MethodView.{MethodView}
use Rattle.jc_resolve.specs.declared.applied.Applied.{Applied}
use Rattle.jc_resolve.specs.declared.applied.Applied.TheVariants as applied_as
use Rattle.jc_resolve.specs.declared.applied.Candidate.{Candidate}
use Rattle.jc_resolve.specs.declared.choice.Choice.{Choice}
use Rattle.jc_resolve.specs.declared.choice.Chosen.{Chosen}
use Rattle.jc_resolve.specs.declared.choice.Choice.TheVariants as choice
use Rattle.jc_resolve.specs.declared.site.CallSite.{CallSite}
use Rattle.jc_resolve.specs.Applying.{applicable, candidate, gathered, gathered_by, put}
use Rattle.jc_resolve.specs.Specific.{beaten, maximal, put_unless}
use Rattle.jc_resolve.specs.Choosing.{all_equivalent, all_equivalent_to, ambiguous, bodies, by_body, by_result, chosen, chosen_among, chosen_if, chosen_or_ambiguous, decided, equivalent, first_with_body, fits_all, in_phase, most_specific, or_all, or_further, resolved, told, unless_none}
use Rattle.jc_resolve.specs.Laws.{AreEquivalent, IsAmong, IsApplicable, StandsBeside, another, itself}

-- ---- the gathered candidates

abbrev Holds : Table → List Bounds → CallSite → Phase → List MethodView → Candidate → Type 0
Holds T env site phase ms c = IsAmong ms c.member × (applicable T env site phase c.member ≡ applied_as.Applies c.type_args c.formals c.unchecked)

module _ (T : Table) (env : List Bounds) (site : CallSite) (phase : Phase) where
  further : (m : MethodView) (ms : List MethodView) (c : Candidate) → Holds T env site phase ms c → Holds T env site phase (m ∷ ms) c
  further m ms c h = (inr h.0, h.1)

  first : (m : MethodView) (ms : List MethodView) (by to : List Ty) (u : Bool) (c : Candidate) → applicable T env site phase m ≡ applied_as.Applies by to u → c ≡ candidate m by to u → Holds T env site phase (m ∷ ms) c
  first m ms by to u c h e = subst (Holds T env site phase (m ∷ ms)) (sym e) (inl refl, h)

  -- what holds of the candidates of further members
  abbrev Further : List MethodView → Type 0
  Further ms = (cs : List Candidate) → gathered T env site phase ms ≡ Some cs → (c : Candidate) → IsAmong cs c → Holds T env site phase ms c

  same : (l r : List Candidate) → Some l ≡ Some r → l ≡ r
  same l r e = cc

  by_place : (m : MethodView) (ms : List MethodView) (ds : List Candidate) (by to : List Ty) (u : Bool) → Further ms → applicable T env site phase m ≡ applied_as.Applies by to u → gathered T env site phase ms ≡ Some ds
      → (c : Candidate) → IsAmong (candidate m by to u ∷ ds) c → Holds T env site phase (m ∷ ms) c
  by_place m ms ds by to u ih h g c (inl e) = first m ms by to u c h e
  by_place m ms ds by to u ih h g c (inr k) = further m ms c (ih ds g c k)

  by_rest : (m : MethodView) (ms : List MethodView) (cs : List Candidate) (by to : List Ty) (u : Bool) → Further ms → applicable T env site phase m ≡ applied_as.Applies by to u → (g : Option (List Candidate)) → gathered T env site phase ms ≡ g
      → put (candidate m by to u) g ≡ Some cs → (c : Candidate) → IsAmong cs c → Holds T env site phase (m ∷ ms) c
  by_rest m ms cs by to u ih h None g e c among = absurd cc
  by_rest m ms cs by to u ih h (Some ds) g e c among = by_place m ms ds by to u ih h g c (subst (λ (l : List Candidate). IsAmong l c) (sym (same (candidate m by to u ∷ ds) cs e)) among)

  by_answer : (m : MethodView) (ms : List MethodView) (cs : List Candidate) → Further ms → (a : Applied) → applicable T env site phase m ≡ a → gathered_by m a (gathered T env site phase ms) ≡ Some cs → (c : Candidate) → IsAmong cs c
      → Holds T env site phase (m ∷ ms) c
  by_answer m ms cs ih (applied_as.Applies by to u) h e c among = by_rest m ms cs by to u ih h (gathered T env site phase ms) refl e c among
  by_answer m ms cs ih applied_as.Fails h e c among = further m ms c (ih cs e c among)
  by_answer m ms cs ih applied_as.Deep h e c among = absurd cc

  gathered_holds : (ms : List MethodView) → Further ms
  gathered_holds [] cs e c among = absurd (subst (λ (l : List Candidate). IsAmong l c) (sym (same [] cs e)) among)
  gathered_holds (m ∷ ms) cs e c among = by_answer m ms cs (gathered_holds ms) (applicable T env site phase m) refl e c among

-- ---- where a choice comes from

abbrev is_chosen : Choice → Bool
is_chosen (choice.Chosen c) = true
is_chosen _ = false

ambiguous_is_none : (cs : List Candidate) → is_chosen (ambiguous cs) ≡ false
ambiguous_is_none [] = refl
ambiguous_is_none (a ∷ []) = refl
ambiguous_is_none (a ∷ b ∷ cs) = refl

not_chosen : (x y : Choice) → is_chosen y ≡ false → y ≡ x → is_chosen x ≡ true → ⊥
not_chosen x y f e t = absurd (let g : is_chosen y ≡ is_chosen x = ap is_chosen e in cc)

module _ (T : Table) (env : List Bounds) (phase : Phase) where
  abbrev From : List Candidate → Choice → Type 0
  From cs x = (c : Candidate) × IsAmong cs c × (chosen T env phase c ≡ x)

  unless_chosen : (all : List Candidate) (x : Choice) → ambiguous all ≡ x → is_chosen x ≡ true → From all x
  unless_chosen all x e t = absurd (not_chosen x (ambiguous all) (ambiguous_is_none all) e t)

  by_fitting : (all cs : List Candidate) (c : Candidate) (x : Choice) → IsAmong all c → (by_result T env phase all cs ≡ x → From all x) → (a : Answer) → chosen_if T env phase a c (by_result T env phase all cs) ≡ x → is_chosen x ≡ true → From all x
  by_fitting all cs c x within ih Yes e t = (c, within, e)
  by_fitting all cs c x within ih No e t = ih e
  by_fitting all cs c x within ih Deep e t = absurd (not_chosen x choice.Deep refl e t)

  by_result_from : (all cs : List Candidate) (x : Choice) → ((c : Candidate) → IsAmong cs c → IsAmong all c) → by_result T env phase all cs ≡ x → is_chosen x ≡ true → From all x
  by_result_from all [] x within e t = unless_chosen all x e t
  by_result_from all (c ∷ cs) x within e t =
      by_fitting all cs c x (within c (inl refl)) (λ e. by_result_from all cs x (λ d k. within d (inr k)) e t) (fits_all T env c.member all) e t

  body_here : (d : Candidate) (cs : List Candidate) (c : Candidate) → (first_with_body T cs ≡ Some c → IsAmong cs c) → (b : Bool) → cond b (Some d) (first_with_body T cs) ≡ Some c → IsAmong (d ∷ cs) c
  body_here d cs c ih true e = inl (same d c e)
    where
      same : (d c : Candidate) → Some d ≡ Some c → c ≡ d
      same d c e = cc
  body_here d cs c ih false e = inr (ih e)

  body_among : (cs : List Candidate) (c : Candidate) → first_with_body T cs ≡ Some c → IsAmong cs c
  body_among [] c e = absurd cc
  body_among (d ∷ cs) c e = body_here d cs c (body_among cs c) (has_body T d.member.id) e

  by_one_body : (all : List Candidate) (x : Choice) (o : Option Candidate) → first_with_body T all ≡ o → chosen_or_ambiguous T env phase all o ≡ x → is_chosen x ≡ true → From all x
  by_one_body all x None h e t = unless_chosen all x e t
  by_one_body all x (Some c) h e t = (c, body_among all c h, e)

  by_body_from : (all : List Candidate) (n : ℕ) (x : Choice) → by_body T env phase all n ≡ x → is_chosen x ≡ true → From all x
  by_body_from all zero x e t = by_result_from all all x (λ c k. k) e t
  by_body_from all (suc zero) x e t = by_one_body all x (first_with_body T all) refl e t
  by_body_from all (suc (suc n)) x e t = unless_chosen all x e t

  -- the candidate that is chosen, and that all have one signature where there are several
  record Choosing (cs : List Candidate) (x : Choice) : Type 0 where
    from : From cs x
    alike : (c : Candidate) → IsAmong cs c → (c ≡ from.0) ⊎ (all_equivalent T cs ≡ true)

  several : (c d : Candidate) (cs : List Candidate) (x : Choice) (b : Bool) → all_equivalent T (c ∷ d ∷ cs) ≡ b
      → cond b (by_body T env phase (c ∷ d ∷ cs) (bodies T (c ∷ d ∷ cs))) (ambiguous (c ∷ d ∷ cs)) ≡ x → is_chosen x ≡ true → Choosing (c ∷ d ∷ cs) x
  several c d cs x true h e t = record { from = by_body_from (c ∷ d ∷ cs) (bodies T (c ∷ d ∷ cs)) x e t; alike = λ f k. inr h }
  several c d cs x false h e t = absurd (not_chosen x (ambiguous (c ∷ d ∷ cs)) refl e t)

  one : (c d : Candidate) → IsAmong (c ∷ []) d → d ≡ c
  one c d (inl e) = e
  one c d (inr k) = absurd k

  among_from : (cs : List Candidate) (x : Choice) → chosen_among T env phase cs ≡ x → is_chosen x ≡ true → Choosing cs x
  among_from [] x e t = absurd (not_chosen x choice.NoneApplicable refl e t)
  among_from (c ∷ []) x e t = record { from = (c, inl refl, e); alike = λ d k. inl (one c d k) }
  among_from (c ∷ d ∷ cs) x e t = several c d cs x (all_equivalent T (c ∷ d ∷ cs)) refl e t

  -- ---- those that none beats

  same_lists : (l r : List Candidate) → Some l ≡ Some r → l ≡ r
  same_lists l r e = cc

  abbrev Within : List Candidate → List Candidate → Type 0
  Within all ps = (ms : List Candidate) → maximal T env phase all ps ≡ Some ms → (c : Candidate) → IsAmong ms c → IsAmong ps c

  within_put : (all ps ds : List Candidate) (p : Candidate) → Within all ps → maximal T env phase all ps ≡ Some ds → (c : Candidate) → IsAmong (p ∷ ds) c → IsAmong (p ∷ ps) c
  within_put all ps ds p ih h c (inl e) = inl e
  within_put all ps ds p ih h c (inr k) = inr (ih ds h c k)

  within_by : (all ps ms : List Candidate) (p : Candidate) → Within all ps → (a : Answer) (g : Option (List Candidate)) → maximal T env phase all ps ≡ g → put_unless a p g ≡ Some ms → (c : Candidate) → IsAmong ms c → IsAmong (p ∷ ps) c
  within_by all ps ms p ih Deep g h e c k = absurd cc
  within_by all ps ms p ih Yes g h e c k = inr (ih ms (h ∙ e) c k)
  within_by all ps ms p ih No None h e c k = absurd cc
  within_by all ps ms p ih No (Some ds) h e c k = within_put all ps ds p ih h c (subst (λ (l : List Candidate). IsAmong l c) (sym (same_lists (p ∷ ds) ms e)) k)

  maximal_within : (all ps : List Candidate) → Within all ps
  maximal_within all [] ms e c k = subst (λ (l : List Candidate). IsAmong l c) (sym (same_lists [] ms e)) k
  maximal_within all (p ∷ ps) ms e c k = within_by all ps ms p (maximal_within all ps) (beaten T env phase p.member all) (maximal T env phase all ps) refl e c k

  abbrev Kept : List Candidate → List Candidate → Type 0
  Kept all ps = (ms : List Candidate) → maximal T env phase all ps ≡ Some ms → (c : Candidate) → IsAmong ps c → beaten T env phase c.member all ≡ No → IsAmong ms c

  kept_put : (all ps ds : List Candidate) (p : Candidate) → Kept all ps → maximal T env phase all ps ≡ Some ds → (c : Candidate) → IsAmong (p ∷ ps) c → beaten T env phase c.member all ≡ No → IsAmong (p ∷ ds) c
  kept_put all ps ds p ih h c (inl e) n = inl e
  kept_put all ps ds p ih h c (inr k) n = inr (ih ds h c k n)

  beats_itself : (all : List Candidate) (p c : Candidate) → beaten T env phase p.member all ≡ Yes → c ≡ p → beaten T env phase c.member all ≡ No → ⊥
  beats_itself all p c y e n = absurd (let r : beaten T env phase c.member all ≡ beaten T env phase p.member all = ap (λ (d : Candidate). beaten T env phase d.member all) e in cc)

  kept_by : (all ps ms : List Candidate) (p : Candidate) → Kept all ps → (a : Answer) → beaten T env phase p.member all ≡ a → (g : Option (List Candidate)) → maximal T env phase all ps ≡ g → put_unless a p g ≡ Some ms
      → (c : Candidate) → IsAmong (p ∷ ps) c → beaten T env phase c.member all ≡ No → IsAmong ms c
  kept_by all ps ms p ih Deep b g h e c k n = absurd cc
  kept_by all ps ms p ih Yes b g h e c (inl q) n = absurd (beats_itself all p c b q n)
  kept_by all ps ms p ih Yes b g h e c (inr k) n = ih ms (h ∙ e) c k n
  kept_by all ps ms p ih No b None h e c k n = absurd cc
  kept_by all ps ms p ih No b (Some ds) h e c k n = subst (λ (l : List Candidate). IsAmong l c) (same_lists (p ∷ ds) ms e) (kept_put all ps ds p ih h c k n)

  unbeaten_within : (all ps : List Candidate) → Kept all ps
  unbeaten_within all [] ms e c k n = absurd k
  unbeaten_within all (p ∷ ps) ms e c k n = kept_by all ps ms p (unbeaten_within all ps) (beaten T env phase p.member all) refl (maximal T env phase all ps) refl e c k n

  -- ---- signatures

  equivalent_to : (a : MethodView) (cs : List Candidate) → all_equivalent_to T a cs ≡ true → (c : Candidate) → IsAmong cs c → equivalent T a c.member ≡ true
  equivalent_to a [] h c k = absurd k
  equivalent_to a (d ∷ cs) h c (inl e) = subst (λ (x : Candidate). equivalent T a x.member ≡ true) (sym e) (and_first (equivalent T a d.member) (all_equivalent_to T a cs) h)
  equivalent_to a (d ∷ cs) h c (inr k) = equivalent_to a cs (and_second (equivalent T a d.member) (all_equivalent_to T a cs) h) c k

  alike_pairs : (cs : List Candidate) → all_equivalent T cs ≡ true → (a b : Candidate) → IsAmong cs a → IsAmong cs b → (a ≡ b) ⊎ AreEquivalent T a.member b.member
  alike_pairs [] h a b j k = absurd j
  alike_pairs (d ∷ cs) h a b (inl e) (inl f) = inl (e ∙ sym f)
  alike_pairs (d ∷ cs) h a b (inl e) (inr k) =
      inr (inl (subst (λ (x : Candidate). equivalent T x.member b.member ≡ true) (sym e) (equivalent_to d.member cs (and_first (all_equivalent_to T d.member cs) (all_equivalent T cs) h) b k)))
  alike_pairs (d ∷ cs) h a b (inr j) (inl f) =
      inr (inr (subst (λ (x : Candidate). equivalent T x.member a.member ≡ true) (sym f) (equivalent_to d.member cs (and_first (all_equivalent_to T d.member cs) (all_equivalent T cs) h) a j)))
  alike_pairs (d ∷ cs) h a b (inr j) (inr k) = alike_pairs cs (and_second (all_equivalent_to T d.member cs) (all_equivalent T cs) h) a b j k

  -- ---- the whole of a phase

  -- what an applicable member of the phase that none beats is to the chosen one
  record Decides (cs : List Candidate) (x : Choice) : Type 0 where
    from : From cs x
    others : (c : Candidate) → IsAmong cs c → beaten T env phase c.member cs ≡ No → (c ≡ from.0) ⊎ AreEquivalent T c.member (from.0).member

  beside : (ms : List Candidate) (x : Choice) (h : Choosing ms x) → (c : Candidate) → IsAmong ms c → (c ≡ h.from.0) ⊎ AreEquivalent T c.member (h.from.0).member
  beside ms x h c k = by_alike (h.alike c k)
    where
      by_alike : (c ≡ h.from.0) ⊎ (all_equivalent T ms ≡ true) → (c ≡ h.from.0) ⊎ AreEquivalent T c.member (h.from.0).member
      by_alike (inl e) = inl e
      by_alike (inr e) = alike_pairs ms e c (h.from.0) k (h.from.1)

  by_maximal : (all ms : List Candidate) (x : Choice) → maximal T env phase all all ≡ Some ms → chosen_among T env phase (or_all all ms) ≡ x → is_chosen x ≡ true → Decides all x
  by_maximal all [] x h e t =
      let found = among_from all x e t in
      record { from = found.from; others = λ c k n. absurd (unbeaten_within all all [] h c k n) }
  by_maximal all (m ∷ ms) x h e t =
      let found = among_from (m ∷ ms) x e t in
      record {
        from = (found.from.0, maximal_within all all (m ∷ ms) h (found.from.0) (found.from.1), found.from.2);
        others = λ c k n. beside (m ∷ ms) x found c (unbeaten_within all all (m ∷ ms) h c k n);
      }

  by_ranks : (all : List Candidate) (x : Choice) (o : Option (List Candidate)) → maximal T env phase all all ≡ o → most_specific T env phase all o ≡ x → is_chosen x ≡ true → Decides all x
  by_ranks all x None h e t = absurd (not_chosen x choice.Deep refl e t)
  by_ranks all x (Some ms) h e t = by_maximal all ms x h e t

  same_choice : (a b : Choice) → Some a ≡ Some b → a ≡ b
  same_choice a b e = cc

  by_candidates : (o : Option (List Candidate)) (x : Choice) → decided T env phase o ≡ Some x → is_chosen x ≡ true → (cs : List Candidate) × (o ≡ Some cs) × Decides cs x
  by_candidates None x e t = absurd (not_chosen x choice.Deep refl (same_choice choice.Deep x e) t)
  by_candidates (Some []) x e t = absurd cc
  by_candidates (Some (c ∷ cs)) x e t = (c ∷ cs, refl, by_ranks (c ∷ cs) x (maximal T env phase (c ∷ cs) (c ∷ cs)) refl (same_choice (most_specific T env phase (c ∷ cs) (maximal T env phase (c ∷ cs) (c ∷ cs))) x e) t)

-- ---- the phases

module _ (T : Table) (env : List Bounds) (site : CallSite) where
  abbrev Found : Choice → Type 0
  Found x = (phase : Phase) × (in_phase T env site phase ≡ Some x)

  by_further : (phase : Phase) (o : Option Choice) (more x : Choice) → in_phase T env site phase ≡ o → or_further o more ≡ x → (more ≡ x → Found x) → Found x
  by_further phase None more x h e f = f e
  by_further phase (Some y) more x h e f = (phase, h ∙ ap (λ (c : Choice). Some c) e)

  in_some_phase : (x : Choice) → resolved T env site ≡ x → is_chosen x ≡ true → Found x
  unfolding resolved
  in_some_phase x e t = by_members site.members e
    where
      last : Choice
      last = or_further (in_phase T env site VariableArity) choice.NoneApplicable

      middle : Choice
      middle = or_further (in_phase T env site Invocation) last

      by_members : (ms : List MethodView) → unless_none ms (or_further (in_phase T env site Subtyping) middle) ≡ x → Found x
      by_members [] e = absurd (not_chosen x choice.NoMember refl e t)
      by_members (m ∷ ms) e =
          by_further Subtyping (in_phase T env site Subtyping) middle x refl e (λ e. by_further Invocation (in_phase T env site Invocation) last x refl e
          (λ e. by_further VariableArity (in_phase T env site VariableArity) choice.NoneApplicable x refl e (λ e. absurd (not_chosen x choice.NoneApplicable refl e t))))

  module _ (c : Chosen) where
    abbrev x : Choice
    x = choice.Chosen c

    record Known : Type 0 where
      candidates : List Candidate
      gathers : gathered T env site c.phase site.members ≡ Some candidates
      decides : Decides T env c.phase candidates x

    same_told : (a b : Chosen) → choice.Chosen a ≡ choice.Chosen b → a ≡ b
    same_told a b e = cc

    known : resolved T env site ≡ x → Known
    known e = by_phase (in_some_phase x e refl)
      where
        same_phase : (p : Phase) (d : Candidate) → chosen T env p d ≡ x → p ≡ c.phase
        same_phase p d e = ap (λ (a : Chosen). a.phase) (same_told (told T env p d) c e)

        by_phase : Found x → Known
        by_phase f =
            let h = by_candidates T env (f.0) (gathered T env site (f.0) site.members) x (f.1) refl in
            let p = same_phase (f.0) (h.2.from.0) (h.2.from.2) in
            record {
              candidates = h.0;
              gathers = subst (λ (q : Phase). gathered T env site q site.members ≡ Some (h.0)) p (h.1);
              decides = subst (λ (q : Phase). Decides T env q (h.0) x) p (h.2);
            }

    -- what is told of a candidate has its parts
    of_told : (d : Candidate) → IsAmong site.members d.member → applicable T env site c.phase d.member ≡ applied_as.Applies d.type_args d.formals d.unchecked → IsApplicable T env site (told T env c.phase d)
    of_told d among applies = record { among = among; applies = applies; parts = refl }

    pub chosen_applies : resolved T env site ≡ x → IsApplicable T env site c
    chosen_applies e =
        let k = known e in
        let d = k.decides.from.0 in
        let holds = gathered_holds T env site c.phase site.members k.candidates k.gathers d (k.decides.from.1) in
        subst (λ (a : Chosen). IsApplicable T env site a) (same_told (told T env c.phase d) c (k.decides.from.2)) (of_told d (holds.0) (holds.1))

    pub none_left_out : resolved T env site ≡ x → (cs : List Candidate) → gathered T env site c.phase site.members ≡ Some cs → (d : Candidate) → IsAmong cs d → beaten T env c.phase d.member cs ≡ No → StandsBeside T cs c.member.id d
    none_left_out e cs g d k n =
        let known = known e in
        let same : known.candidates ≡ cs = same_lists known.candidates cs (sym known.gathers ∙ g) in
        let decides : Decides T env c.phase cs x = subst (λ (l : List Candidate). Decides T env c.phase l x) same known.decides in
        by_other decides (decides.others d k n)
      where
        same_lists : (l r : List Candidate) → Some l ≡ Some r → l ≡ r
        same_lists l r e = cc

        is : (a : Candidate) → chosen T env c.phase a ≡ x → a.member.id ≡ c.member.id
        is a e = ap (λ (b : Chosen). b.member.id) (same_told (told T env c.phase a) c e)

        by_other : (h : Decides T env c.phase cs x) → (d ≡ h.from.0) ⊎ AreEquivalent T d.member (h.from.0).member → StandsBeside T cs c.member.id d
        by_other h (inl q) = itself (ap (λ (a : Candidate). a.member.id) q ∙ is (h.from.0) (h.from.2))
        by_other h (inr q) = another (h.from.0) (h.from.1) (is (h.from.0) (h.from.2)) q
