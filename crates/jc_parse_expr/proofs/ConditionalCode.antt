-- What the code reads of conditionals.
use Rattle.std.proofs.Common.{◌≡◌, ℕ, suc, ◌-◌, ◌<◌, ◌^◌, min, Bool, true, false, cond, List, [], ◌∷◌, length, Result, Ok, Err, Some, None, refl, sym, ap, ◌∙◌, ◌⊎◌, inl, inr}
use Rattle.std.specs.Prelude.{◌==◌}
use Rattle.jc_lexer.specs.declared.token.Sign.TheVariants as sign_of
use Rattle.jc_lexer.specs.declared.token.Token.{Token}
use Rattle.jc_tree.specs.declared.expression.Expr.{Expr}
use Rattle.jc_reading.specs.declared.reading.Found.{Found}
use Rattle.jc_reading.specs.declared.reading.Halt.{Halt}
use Rattle.jc_reading.specs.declared.reading.Halt.TheVariants as halt_of
use Rattle.jc_reading.specs.Giving.{Gives, Is}
use Rattle.jc_reading.specs.Kinds.{kind_code, sign_code}
use Rattle.jc_reading.specs.Reading.{Read, Run, becoming, joined, found, of_kind, on_pick, behind_it}
use Rattle.jc_reading.specs.Reading as reading
use Rattle.jc_parse_expr.specs.declared.measured.Measured.{Measured}
use Rattle.jc_parse_expr.specs.Measuring.{measured}
use Rattle.jc_parse_expr.specs.Nodes.{conditional_node}
use Rattle.jc_parse_expr.specs.After.{Chosen, Alone}
use Rattle.jc_parse_expr.specs.BinaryLevels.{levels_at, branches_run, otherwise_run, then_run, measured_branches}
use Rattle.jc_parse_expr.proofs.CodeFacts.{within_expr}
use Rattle.jc_parse_expr.proofs.PairSteps.{pair_far, pair_first}
use Rattle.jc_parse_expr.proofs.CastCode.{stopped_same}
use Rattle.jc_parse_expr.proofs.LevelCode.{branches_first, branches_halts, branches_found, branches_stop}
use Rattle.jc_parse_expr.proofs.BinarySteps.{conditional_alone, conditional_branches}
use Rattle.jc_parse_expr.proofs.JoinedSteps.{found_same, wants}

abbrev M : Type 0
M = Measured Expr

abbrev Question : Run (Unit {0})
Question = of_kind (sign_code sign_of.Question)

-- a question mark stands there, or none

There : List Token → Type 0
There ts = (Question ts ≡ reading.Stopped (length ts)) ⊎ ((q : List Token) × (Question ts ≡ found tt q))

picked : Bool → List Token → Read (Unit {0})
picked b ts = on_pick (cond b (Some (tt {0})) None) ts

there_by : (b : Bool) (ts : List Token) → (picked b ts ≡ reading.Stopped (suc (length ts))) ⊎ ((q : List Token) × (picked b ts ≡ found tt q))
unfolding picked
there_by true ts = inr (ts, refl)
there_by false ts = inl refl

there : (ts : List Token) → There ts
unfolding There picked
there [] = inl refl
there (t ∷ ts) = there_by (kind_code t.kind == sign_code sign_of.Question) ts

behind_same : (m : Read Expr) → becoming behind_it (becoming (joined {A = Unit {0}} tt) m) ≡ m
behind_same (reading.Found e r l) = refl
behind_same (reading.Stopped l) = refl

pub then_is : (h : ℕ) (ts q : List Token) → Question ts ≡ found tt q → then_run (levels_at h) ts ≡ (levels_at h).expr q
then_is h ts q e = ap (becoming behind_it) (pair_far Question (levels_at h).expr ts tt q e (within_expr h q)) ∙ behind_same ((levels_at h).expr q)

pub then_first : (h : ℕ) (ts : List Token) → Question ts ≡ reading.Stopped (length ts) → becoming measured (then_run (levels_at h) ts) ≡ reading.Stopped (length ts)
then_first h ts e = ap (λ (m : Read (Unit {0} × Expr)). becoming measured (becoming behind_it m)) (pair_first Question (levels_at h).expr ts (length ts) e)

no_branches : (h : ℕ) (ts : List Token) (n : ℕ) → becoming measured (then_run (levels_at h) ts) ≡ reading.Stopped n → There ts → becoming measured_branches (branches_run (levels_at h) ts) ≡ reading.Stopped n
unfolding There
no_branches h ts n e (inl f) = branches_first h ts f ∙ ap (λ (k : ℕ). reading.Stopped k) (stopped_same M (length ts) n (sym (then_first h ts f) ∙ e))
no_branches h ts n e (inr (q, f)) = branches_halts h ts q (halt_of.Stopped n) f (ap (becoming measured) (sym (then_is h ts q f)) ∙ e)

clash : {A : Type 0} (m : Read A) (l n : ℕ) (a : A) (r : List Token) → m ≡ reading.Stopped n → m ≡ reading.Found a r l → ⊥
clash m l n a r e f = cc

first_branch : (h : ℕ) (ts : List Token) (v : M) (r : List Token) (l : ℕ) → becoming measured (then_run (levels_at h) ts) ≡ reading.Found v r l → There ts → (q : List Token) × (Question ts ≡ found tt q) × (becoming measured ((levels_at h).expr q) ≡ reading.Found v r l)
unfolding There
first_branch h ts v r l e (inl f) = absurd (clash (becoming measured (then_run (levels_at h) ts)) l (length ts) v r (then_first h ts f) e)
first_branch h ts v r l e (inr (q, f)) = (q, f, ap (becoming measured) (sym (then_is h ts q f)) ∙ e)

module _ (h : ℕ) (ts : List Token) where
  pub conditional_left : (v : Found M) (left : ℕ) (r : Found M) → Is v (becoming measured ((levels_at h).or_else ts)) → v.value.height < h → h < 2 ^ 32 → becoming measured (then_run (levels_at (h - 1)) v.rest.now) ≡ reading.Stopped left → Alone v left (Ok r) → Is r (becoming measured ((levels_at h).conditional ts))
  conditional_left v left r e g w m b =
      found_same _ v.value r.value v.rest.now r.rest.now (min v.left left) r.left (conditional_alone h ts v.value v.rest.now v.left left e g w (no_branches (h - 1) v.rest.now left m (there v.rest.now))) b.0 b.1 b.2

  pub conditional_chosen : (v then : Found M) (other : Result (Found M) Halt) (result : Result (Found M) Halt) → Is v (becoming measured ((levels_at h).or_else ts)) → v.value.height < h → h < 2 ^ 32 → Is then (becoming measured (then_run (levels_at (h - 1)) v.rest.now)) → Gives other (becoming measured (otherwise_run (levels_at (h - 1)) then.rest.now)) → Chosen v then other result → Gives result (becoming measured ((levels_at h).conditional ts))
  conditional_chosen v then (Ok p) (Ok r) e g w m o b =
      let q = first_branch (h - 1) v.rest.now then.value then.rest.now then.left m (there v.rest.now) in
      let both = branches_found (h - 1) v.rest.now q.0 then.rest.now p.rest.now then.value p.value then.left p.left q.1 q.2 o in
      found_same _ (conditional_node v.value then.value p.value) r.value p.rest.now r.rest.now (min v.left (min then.left p.left)) r.left (conditional_branches h ts v.value v.rest.now v.left (min then.left p.left) then.value p.value (conditional_node v.value then.value p.value) p.rest.now e g w both refl) b.0 b.1 b.2
  conditional_chosen v then (Ok p) (Err halt) e g w m o b = wants _ halt b
  conditional_chosen v then (Err (halt_of.Stopped l)) (Ok r) e g w m o b =
      let q = first_branch (h - 1) v.rest.now then.value then.rest.now then.left m (there v.rest.now) in
      let none = branches_stop (h - 1) v.rest.now q.0 then.rest.now then.value then.left l q.1 q.2 o in
      found_same _ v.value r.value v.rest.now r.rest.now (min v.left (min then.left l)) r.left (conditional_alone h ts v.value v.rest.now v.left (min then.left l) e g w none) b.0 b.1 b.2
  conditional_chosen v then (Err (halt_of.Stopped l)) (Err halt) e g w m o b = absurd b
  conditional_chosen v then (Err halt_of.WantOfMemory) (Ok r) e g w m o b = absurd b
  conditional_chosen v then (Err halt_of.WantOfMemory) (Err halt) e g w m o b = wants _ halt b
