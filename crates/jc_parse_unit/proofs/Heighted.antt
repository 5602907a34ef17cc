-- Statements and declarations of a height, by those of one less.
use Rattle.std.proofs.Common.{◌≡◌, ℕ, zero, suc, ◌-◌, List, length, refl, ap, arith}
use Rattle.jc_lexer.specs.declared.token.Token.{Token}
use Rattle.jc_reading.specs.Reading.{Stopped, as_new}
use Rattle.jc_expr_laws.specs.ExprReading.{exprs}
use Rattle.jc_unit_laws.specs.UnitReading.{body_run, case_item_run, other_run}
use Rattle.jc_unit_laws.specs.MemberReading.{first_run, item_run, levels, rest_run}
use Rattle.jc_parse_heads.specs.UnitCode.{body_made, declaration_rest_run}

less : (k : ℕ) → k ≡ suc k - 1
less k = omega arith

pub body_none : (h : ℕ) (ts : List Token) → h ≡ 0 → (levels exprs h).body ts ≡ Stopped (length ts)
unfolding levels
body_none h ts e = ap (λ (k : ℕ). (levels exprs k).body ts) e

pub body_next : (h : ℕ) (ts : List Token) → (h ≡ 0 → ⊥) → (levels exprs h).body ts ≡ body_run exprs (h - 1) (levels exprs (h - 1)) ts
unfolding levels
body_next zero ts n = absurd (n refl)
body_next (suc k) ts n = ap (λ (j : ℕ). body_run exprs j (levels exprs j) ts) (less k)

pub other_none : (h : ℕ) (ts : List Token) → h ≡ 0 → (levels exprs h).other ts ≡ Stopped (length ts)
unfolding levels
other_none h ts e = ap (λ (k : ℕ). (levels exprs k).other ts) e

pub other_next : (h : ℕ) (ts : List Token) → (h ≡ 0 → ⊥) → (levels exprs h).other ts ≡ other_run exprs (h - 1) (levels exprs (h - 1)) ts
unfolding levels
other_next zero ts n = absurd (n refl)
other_next (suc k) ts n = ap (λ (j : ℕ). other_run exprs j (levels exprs j) ts) (less k)

pub item_none : (h : ℕ) (ts : List Token) → h ≡ 0 → (levels exprs h).item ts ≡ Stopped (length ts)
unfolding levels
item_none h ts e = ap (λ (k : ℕ). (levels exprs k).item ts) e

pub item_next : (h : ℕ) (ts : List Token) → (h ≡ 0 → ⊥) → (levels exprs h).item ts ≡ item_run exprs (h - 1) (levels exprs (h - 1)) ts
unfolding levels
item_next zero ts n = absurd (n refl)
item_next (suc k) ts n = ap (λ (j : ℕ). item_run exprs j (levels exprs j) ts) (less k)

pub case_item_none : (h : ℕ) (ts : List Token) → h ≡ 0 → (levels exprs h).case_item ts ≡ Stopped (length ts)
unfolding levels
case_item_none h ts e = ap (λ (k : ℕ). (levels exprs k).case_item ts) e

pub case_item_next : (h : ℕ) (ts : List Token) → (h ≡ 0 → ⊥) → (levels exprs h).case_item ts ≡ case_item_run exprs (h - 1) (levels exprs (h - 1)) ts
unfolding levels
case_item_next zero ts n = absurd (n refl)
case_item_next (suc k) ts n = ap (λ (j : ℕ). case_item_run exprs j (levels exprs j) ts) (less k)

pub first_none : (h : ℕ) (ts : List Token) → h ≡ 0 → (levels exprs h).first ts ≡ Stopped (length ts)
unfolding levels
first_none h ts e = ap (λ (k : ℕ). (levels exprs k).first ts) e

pub first_next : (h : ℕ) (ts : List Token) → (h ≡ 0 → ⊥) → (levels exprs h).first ts ≡ first_run exprs (h - 1) (levels exprs (h - 1)) ts
unfolding levels
first_next zero ts n = absurd (n refl)
first_next (suc k) ts n = ap (λ (j : ℕ). first_run exprs j (levels exprs j) ts) (less k)

pub rest_none : (h : ℕ) (ts : List Token) → h ≡ 0 → as_new body_made (levels exprs h).rest ts ≡ Stopped (length ts)
unfolding levels
rest_none h ts e = ap (λ (k : ℕ). as_new body_made (levels exprs k).rest ts) e

pub rest_next : (h : ℕ) (ts : List Token) → (h ≡ 0 → ⊥) → as_new body_made (levels exprs h).rest ts ≡ declaration_rest_run (h - 1) ts
unfolding levels declaration_rest_run
rest_next zero ts n = absurd (n refl)
rest_next (suc k) ts n = ap (λ (j : ℕ). as_new body_made (rest_run exprs j (levels exprs j)) ts) (less k)
