-- What a walk makes of the steps that settle a type.
use Rattle.std.proofs.Common.{◌≡◌, refl, ap, sym, ◌∙◌, ℕ, zero, suc, Bool, true, false, List, append_assoc, Option, None, Some}
use Rattle.jc_rules.specs.declared.rule.Place.{Place}
use Rattle.jc_types.specs.declared.form.Ty.{Ty}
use Rattle.jc_types.specs.declared.table.Table.{Table}
use Rattle.jc_typed.specs.declared.lists.Capture.{Capture}
use Rattle.jc_exprs_nodes_spec.specs.Told.{Run, Ran, Standing, fine, onward, ran}
use Rattle.jc_exprs_nodes_spec.specs.Gates.{gated, stopped}
use Rattle.jc_exprs_nodes_spec.specs.Typeds.{Kind, Typed, behind_kind, capturing, is_by_bounds, is_open, of_settled, opened, settled, settled_steps, settling, type_of}
use Rattle.jc_exprs_nodes_spec.proofs.Runs.{ran_fine, ran_onward}
use Rattle.jc_exprs_nodes.specs.Walks.{behind_captures, has_behind}
use Rattle.jc_exprs_settling.specs.Settlings.{ran_behind, with_captures}

module _ (T : Table) (place : Place) where
  -- a step more is asked where a variable is left
  more : (n : ℕ) (k : Kind) (s : Standing) → is_open T s.env k.ty ≡ true →
      ran (settling T place (suc n) k) s ≡ ran (onward (capturing T place (opened T s.env k.ty)) (λ l. settling T place n (behind_kind k l))) s
  unfolding ran settling
  more n k s e = rw e refl

  -- .. and else none
  pub still : (n : ℕ) (k : Kind) (s : Standing) → is_open T s.env k.ty ≡ false → ran (settling T place n k) s ≡ record { state = s; has = Some k }
  unfolding ran settling
  still zero k s e = refl
  still (suc n) k s e = rw e refl

  pub none_left : (k : Kind) (s : Standing) → ran (settling T place 0 k) s ≡ record { state = s; has = Some k }
  unfolding ran settling
  none_left k s = refl

  -- .. nor where no step is left
  pub at_end : (n : ℕ) (k : Kind) (s : Standing) → n ≡ 0 → ran (settling T place n k) s ≡ record { state = s; has = Some k }
  at_end n k s e = rw e (none_left k s)

  further : (n : ℕ) (k l : Kind) (o : Option Kind) (s : Standing) → has_behind k.captures o ≡ Some l →
      gated (λ m. settling T place n (behind_kind k m)) o s ≡ ran (settling T place n l) s
  further n k l None s e = absurd (cc e)
  further n k l (Some m) s e = let f : behind_kind k m ≡ l = cc e in rw f refl

  stopping : (n : ℕ) (k : Kind) (o : Option Kind) (s : Standing) → has_behind k.captures o ≡ None →
      gated (λ m. settling T place n (behind_kind k m)) o s ≡ stopped s
  stopping n k None s e = refl
  stopping n k (Some m) s e = absurd (cc e)

  -- a step of the loop, and its end where two classes meet
  pub stepped : (n m : ℕ) (k l : Kind) (s r : Standing) (t : Ty) → n ≡ suc m → is_open T s.env k.ty ≡ true → t ≡ opened T s.env k.ty →
      (ran (capturing T place t) s).state ≡ r → has_behind k.captures (ran (capturing T place t) s).has ≡ Some l →
      ran (settling T place m l) r ≡ ran (settling T place n k) s
  stepped n m k l s r t en eo et es eh =
      let c = capturing T place t in
      let first : ran (settling T place n k) s ≡ ran (onward c (λ j. settling T place m (behind_kind k j))) s = rw (en, et) (more m k s eo) in
      let second : ran (onward c (λ j. settling T place m (behind_kind k j))) s ≡ gated (λ j. settling T place m (behind_kind k j)) (ran c s).has (ran c s).state = ran_onward (λ j. settling T place m (behind_kind k j)) c s in
      let third : gated (λ j. settling T place m (behind_kind k j)) (ran c s).has (ran c s).state ≡ ran (settling T place m l) (ran c s).state = further m k l (ran c s).has (ran c s).state eh in
      sym (first ∙ second ∙ third ∙ ap (ran (settling T place m l)) es)

  pub meets : (n m : ℕ) (k : Kind) (s r : Standing) (t : Ty) → n ≡ suc m → is_open T s.env k.ty ≡ true → t ≡ opened T s.env k.ty →
      (ran (capturing T place t) s).state ≡ r → has_behind k.captures (ran (capturing T place t) s).has ≡ None →
      ran (settling T place n k) s ≡ stopped r
  meets n m k s r t en eo et es eh =
      let c = capturing T place t in
      let first : ran (settling T place n k) s ≡ ran (onward c (λ j. settling T place m (behind_kind k j))) s = rw (en, et) (more m k s eo) in
      let second : ran (onward c (λ j. settling T place m (behind_kind k j))) s ≡ gated (λ j. settling T place m (behind_kind k j)) (ran c s).has (ran c s).state = ran_onward (λ j. settling T place m (behind_kind k j)) c s in
      let third : gated (λ j. settling T place m (behind_kind k j)) (ran c s).has (ran c s).state ≡ stopped (ran c s).state = stopping m k (ran c s).has (ran c s).state eh in
      first ∙ second ∙ third ∙ ap stopped es

  -- what stands before the captured variables stays there
  behind_each : (n : ℕ) (cs : List Capture) (k : Kind) (o : Option Kind) (s : Standing) →
      ((l : Kind) (r : Standing) → ran (settling T place n (behind_captures cs l)) r ≡ ran_behind cs (ran (settling T place n l) r)) →
      gated (λ l. settling T place n (behind_kind (behind_captures cs k) l)) o s ≡ ran_behind cs (gated (λ l. settling T place n (behind_kind k l)) o s)
  behind_each n cs k None s h = refl
  behind_each n cs k (Some l) s h = rw (append_assoc cs k.captures l.captures) (h (behind_kind k l) s)

  behind_by : (n : ℕ) (cs : List Capture) (k : Kind) (s : Standing) (b : Bool) → is_open T s.env k.ty ≡ b →
      ((l : Kind) (r : Standing) → ran (settling T place n (behind_captures cs l)) r ≡ ran_behind cs (ran (settling T place n l) r)) →
      ran (settling T place (suc n) (behind_captures cs k)) s ≡ ran_behind cs (ran (settling T place (suc n) k) s)
  behind_by n cs k s true e h =
      let m = capturing T place (opened T s.env k.ty) in
      more n (behind_captures cs k) s e
      ∙ ran_onward (λ l. settling T place n (behind_kind (behind_captures cs k) l)) m s
      ∙ behind_each n cs k (ran m s).has (ran m s).state h
      ∙ ap (ran_behind cs) (sym (more n k s e ∙ ran_onward (λ l. settling T place n (behind_kind k l)) m s))
  behind_by n cs k s false e h = still (suc n) (behind_captures cs k) s e ∙ ap (ran_behind cs) (sym (still (suc n) k s e))

  pub settling_behind : (n : ℕ) (cs : List Capture) (k : Kind) (s : Standing) →
      ran (settling T place n (behind_captures cs k)) s ≡ ran_behind cs (ran (settling T place n k) s)
  settling_behind zero cs k s = none_left (behind_captures cs k) s ∙ ap (ran_behind cs) (sym (none_left k s))
  settling_behind (suc n) cs k s = behind_by n cs k s (is_open T s.env k.ty) refl (settling_behind n cs)

  from_first : (n : ℕ) (cs : List Capture) (k : Kind) (o : Option Kind) (s : Standing) → has_behind cs o ≡ Some k →
      ran_behind cs (gated (settling T place n) o s) ≡ ran (settling T place n k) s
  from_first n cs k None s e = absurd (cc e)
  from_first n cs k (Some l) s e = let f : behind_captures cs l ≡ k = cc e in sym (settling_behind n cs l s) ∙ rw f refl

  from_none : (n : ℕ) (cs : List Capture) (o : Option Kind) (s : Standing) → has_behind cs o ≡ None → gated (settling T place n) o s ≡ stopped s
  from_none n cs None s e = refl
  from_none n cs (Some l) s e = absurd (cc e)

  -- the first capture, and the steps behind it
  pub both_parts : (n : ℕ) (cs : List Capture) (k : Kind) (t : Ty) (s r : Standing) → (ran (capturing T place t) s).state ≡ r → has_behind cs (ran (capturing T place t) s).has ≡ Some k →
      ran_behind cs (ran (onward (capturing T place t) (settling T place n)) s) ≡ ran (settling T place n k) r
  both_parts n cs k t s r es eh =
      ap (ran_behind cs) (ran_onward (settling T place n) (capturing T place t) s) ∙ from_first n cs k (ran (capturing T place t) s).has (ran (capturing T place t) s).state eh ∙ rw es refl

  pub first_state : (n : ℕ) (cs : List Capture) (k : Kind) (t : Ty) (s r : Standing) → (ran (capturing T place t) s).state ≡ r → has_behind cs (ran (capturing T place t) s).has ≡ Some k →
      (ran (onward (capturing T place t) (settling T place n)) s).state ≡ (ran (settling T place n k) r).state
  first_state n cs k t s r es eh = ap (λ (x : Ran Kind). x.state) (both_parts n cs k t s r es eh)

  pub first_meets : (n : ℕ) (cs : List Capture) (t : Ty) (s r : Standing) → (ran (capturing T place t) s).state ≡ r → has_behind cs (ran (capturing T place t) s).has ≡ None →
      ran (onward (capturing T place t) (settling T place n)) s ≡ stopped r
  first_meets n cs t s r es eh =
      ran_onward (settling T place n) (capturing T place t) s ∙ from_none n cs (ran (capturing T place t) s).has (ran (capturing T place t) s).state eh ∙ rw es refl

pub ruleset settling_laws = (still, none_left, stepped, meets)

pub ruleset first_laws = (both_parts, first_state, first_meets)

-- ---- a settled expression

abbrev pub kinds : Table → Typed → Standing → Run Kind
kinds T t s = onward (capturing T t.place (type_of t)) (settling T t.place (settled_steps T s.env))

ran_settled : (T : Table) (t : Typed) (s : Standing) → ran (settled T t) s ≡ ran (onward (kinds T t s) (λ k. fine (of_settled (is_by_bounds T s.env (type_of t)) t k))) s
unfolding ran settled
ran_settled T t s = refl

some_of : (b : Bool) (t : Typed) (k : Kind) (o : Option Kind) (s : Standing) → has_behind t.captures o ≡ Some k →
    gated (λ l. fine (of_settled b t l)) o s ≡ record { state = s; has = Some (record { it = with_captures t k.captures; ty = k.ty; by_bounds = b }) }
some_of b t k None s e = absurd (cc e)
some_of b t k (Some l) s e = let f : behind_captures t.captures l ≡ k = cc e in ran_fine (of_settled b t l) s ∙ rw (← f) refl

none_of : (b : Bool) (t : Typed) (o : Option Kind) (s : Standing) → has_behind t.captures o ≡ None → gated (λ l. fine (of_settled b t l)) o s ≡ stopped s
none_of b t None s e = refl
none_of b t (Some l) s e = absurd (cc e)

pub settled_some : (T : Table) (t : Typed) (k : Kind) (b : Bool) (s r : Standing) → is_by_bounds T s.env (type_of t) ≡ b → (ran (kinds T t s) s).state ≡ r → has_behind t.captures (ran (kinds T t s) s).has ≡ Some k →
    ran (settled T t) s ≡ record { state = r; has = Some (record { it = with_captures t k.captures; ty = k.ty; by_bounds = b }) }
settled_some T t k b s r eb es eh =
    ran_settled T t s ∙ ran_onward (λ l. fine (of_settled (is_by_bounds T s.env (type_of t)) t l)) (kinds T t s) s ∙ some_of (is_by_bounds T s.env (type_of t)) t k (ran (kinds T t s) s).has (ran (kinds T t s) s).state eh ∙ rw (es, eb) refl

pub settled_none : (T : Table) (t : Typed) (s r : Standing) → (ran (kinds T t s) s).state ≡ r → has_behind t.captures (ran (kinds T t s) s).has ≡ None → ran (settled T t) s ≡ stopped r
settled_none T t s r es eh =
    ran_settled T t s ∙ ran_onward (λ l. fine (of_settled (is_by_bounds T s.env (type_of t)) t l)) (kinds T t s) s ∙ none_of (is_by_bounds T s.env (type_of t)) t (ran (kinds T t s) s).has (ran (kinds T t s) s).state eh ∙ rw es refl

pub ruleset settled_laws = (settled_some, settled_none)
