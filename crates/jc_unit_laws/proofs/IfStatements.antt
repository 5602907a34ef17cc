-- The statement `if`: its arms, and what is behind the last `else`.
use Rattle.std.proofs.Common.{length-append, ◌≡◌, ℕ, zero, suc, max, Bool, true, false, cond, List, [], ◌∷◌, map, length, Option, Some, None, refl, sym, ap, ◌∙◌, arith}
use Rattle.std.proofs.Math.Bool.{and-true}
use Rattle.std.proofs.lemmas.Bool.{false≢true, and_left, and_right, and_parts, and_from}
use Rattle.std.proofs.lemmas.Grind.{common_steps}
use Rattle.std.specs.Prelude.{not, ◌≤◌, ◌<◌, ◌&&◌, ◌||◌, nat_le}
use Rattle.jc_lexer.specs.declared.token.Key.TheVariants as key_of
use Rattle.jc_lexer.specs.declared.token.Token.{Token}
use Rattle.jc_tree.specs.declared.expression.Expr.{Expr}
use Rattle.jc_tree.specs.declared.statement.Clause.{Clause, out-Clause, roll-Clause, roll-out-Clause}
use Rattle.jc_tree.specs.declared.statement.ClauseHead.{ClauseHead}
use Rattle.jc_tree.specs.declared.statement.ClauseHead.TheVariants as clause_of
use Rattle.jc_tree.specs.declared.statement.Stmt.{Stmt, Stmt-F, out-Stmt, roll-Stmt, roll-out-Stmt}
use Rattle.jc_tree.specs.declared.statement.Stmt.TheVariants as stmt_of
use Rattle.jc_tree.specs.Heights.{most, expr_height, clause_height, stmt_height}
use Rattle.jc_tree.proofs.HeightsOfStatements.{stmt_height-If}
use Rattle.jc_grammar.specs.Told.{Told}
use Rattle.jc_grammar.specs.Shapes.{is_expr}
use Rattle.jc_grammar.specs.Statements.{stmt_tokens, clause_tokens, after_elses}
use Rattle.jc_grammar.specs.Units.{arms_good, ClauseShape, is_of_if, clause_with, clause_shape, StmtShape, in_body, behind_else, stmt_shape}
use Rattle.jc_grammar.proofs.ShapesOfStatements.{clause_shape-made, clause_shape-parts, stmt_shape-If}
use Rattle.jc_grammar.proofs.TokensOfStatements.{clause_tokens-made, stmt_tokens-If}
use Rattle.jc_reading.specs.Kinds.{kind_code, key_code, is_in, one_of}
use Rattle.jc_reading.specs.Reading.{Read, Run, found, becoming, joined, of_kind, perhaps_from, either, Takes, Either, This, That}
use Rattle.jc_reading.proofs.Steps.{Good, IsFound, takes_length}
use Rattle.jc_reading.proofs.Forms.{Lawful, Stands}
use Rattle.jc_reading.proofs.Rooms.{room_above, room_max}
use Rattle.jc_reading.specs.Further.{with_room}
use Rattle.jc_part_laws.specs.PartReading.{Exprs}
use Rattle.jc_reading.proofs.Coded.{Coded, formed, in_order, in_order_laws, optional, one_or, one_or_laws, same_makes, made, Makes, made_laws, OfKind, kind_makes}
use Rattle.jc_part_laws.proofs.ExprForms.{ExprLaws}
use Rattle.jc_reading.proofs.Lowest.{Law, roomy, never_first, never_second}
use Rattle.jc_part_laws.proofs.PartForms.{key_form, key_at_form}
use Rattle.jc_unit_laws.specs.UnitReading.{arm_made, arm_run, arm_open, Branch, no_more, branch_made, branch_run, if_made, if_run, Level, or_none}
use Rattle.jc_unit_laws.proofs.Bundles.{Has, has, a_key_at, then_a, roomy_zero, roomy_suc}
use Rattle.jc_unit_laws.proofs.SimpleStatements.{else_codes, behind_codes, body_coded, LevelLaws, Layer, good_at, good_made, stmt_fits, stmt_made_law, Parens, parens_never, parens_has}
use Rattle.jc_unit_laws.proofs.Switches.{clause_good, clause_good_made}
use Rattle.std.proofs.lemmas.Bool.{false_from_ne_true}
use Rattle.jc_reading.proofs.Signs.{key_laws}
use Rattle.jc_reading.specs.Further.{unless, followed}
use Rattle.jc_reading.proofs.Coded.{widened_laws, optional_laws}
use Rattle.jc_reading.proofs.Followed.{following, Follow, following_laws, following_whole}
use Rattle.jc_reading.proofs.Lowest.{idle_laws}
use Rattle.jc_reading.proofs.Unbounded.{Grows, unbounded, sized, unbounded_laws, takes_some, bind_same, good_more}
use Rattle.jc_unit_laws.proofs.SimpleStatements.{other_coded}
use Rattle.jc_unit_laws.proofs.Switches.{clause_good, clause_good_made}
use Rattle.jc_unit_laws.proofs.Closed.{closed_order, closed_made, closed_optional, closed_this, closed_that}

-- an `if` with one statement
abbrev is_arm : ClauseHead → List Stmt → Bool
is_arm (clause_of.If test) (s ∷ []) = true
is_arm _ _ = false

module _ (x : Exprs) (h : ℕ) (l : Level) where
  abbrev ArmParts : Coded (ℕ × ((Unit {0} × (Expr × Unit {0})) × Stmt))
  ArmParts = in_order (key_at_form key_of.If) (in_order (Parens x h l) (body_coded h l))

  abbrev pub arm_fits : Clause → Bool
  arm_fits c = is_arm (out-Clause c).head (out-Clause c).items && clause_good h c

  abbrev arm_coded : Coded Clause
  arm_coded = record { tell = clause_tokens; fits = arm_fits; run = arm_run x h l; starts = key_code key_of.If ∷ []; goes = behind_codes; empties = false }

  arm_bits : (e b i g : Bool) → ((e && b) && (i && g)) ≡ (true && ((true && ((e && i) && true)) && (b && g)))
  arm_bits e b i g = grind (arith, common_steps)

  fit_arm : (p : ℕ × ((Unit {0} × (Expr × Unit {0})) × Stmt)) → clause_good h (arm_made p) ≡ ArmParts.fits p
  fit_arm (at, ((u, (test, v)), body)) =
      clause_good_made h at (clause_of.If test) (body ∷ [])
      ∙ ap (λ b. b && (is_expr test && in_body (stmt_shape body))) (room_max (expr_height test) (max (stmt_height body) 0) h ∙ ap (λ b. nat_le (expr_height test) h && b) (room_max (stmt_height body) 0 h ∙ ap (λ b. nat_le (stmt_height body) h && b) (room_above h) ∙ and-true (nat_le (stmt_height body) h)))
      ∙ arm_bits (nat_le (expr_height test) h) (nat_le (stmt_height body) h) (is_expr test) (in_body (stmt_shape body))

  back_arm : (c : Clause) (head : ClauseHead) (items : List Stmt) → (out-Clause c).head ≡ head → (out-Clause c).items ≡ items → is_arm head items ≡ true → (p : ℕ × ((Unit {0} × (Expr × Unit {0})) × Stmt)) × (arm_made p ≡ c)
  back_arm c (clause_of.If test) (s ∷ []) q i g = (
    ((out-Clause c).at, ((tt, (test, tt)), s)),
    ap (λ (k : ClauseHead). roll-Clause (record { at = (out-Clause c).at; head = k; items = s ∷ [] })) (sym q)
        ∙ ap (λ (list : List Stmt). roll-Clause (record { at = (out-Clause c).at; head = (out-Clause c).head; items = list })) (sym i) ∙ roll-out-Clause c,
  )
  back_arm c _ _ q i g = absurd (false≢true g)

  arm_makes : Makes (ℕ × ((Unit {0} × (Expr × Unit {0})) × Stmt)) Clause ArmParts arm_made clause_tokens arm_fits
  arm_makes =
      kind_makes (ℕ × ((Unit {0} × (Expr × Unit {0})) × Stmt)) Clause ArmParts arm_made clause_tokens (λ c. is_arm (out-Clause c).head (out-Clause c).items) (clause_good h)
      (record { told = λ p r. clause_tokens-made p.0 (clause_of.If p.1.0.1.0) (p.1.1 ∷ []) r; fit = fit_arm; is_kind = λ p. refl; back = λ c g. back_arm c (out-Clause c).head (out-Clause c).items refl refl g })

module _ (x : Exprs) (lx : ExprLaws x) (k : ℕ) (l : Level) (f : LevelLaws (suc k) l) where
  abbrev Inner : Has ((Unit {0} × (Expr × Unit {0})) × Stmt)
  Inner = then_a (parens_has x lx k l) (has (body_coded (suc k) l) f.body) refl

  arm_laws : Lawful Clause (formed (arm_coded x (suc k) l))
  unfolding arm_run
  arm_laws = made_laws (ℕ × ((Unit {0} × (Expr × Unit {0})) × Stmt)) Clause (ArmParts x (suc k) l) arm_made clause_tokens (arm_fits x (suc k) l) (then_a (a_key_at key_of.If) Inner refl).laws (arm_makes x (suc k) l)

  open_arm : (p : ℕ × ((Unit {0} × (Expr × Unit {0})) × Stmt)) → arm_open (arm_made p) ≡ (stmt_shape p.1.1).open_end
  open_arm p = ap (λ (s : ClauseShape). s.open_end) (clause_shape-made p.0 (clause_of.If p.1.0.1.0) (p.1.1 ∷ []))

  -- an arm that takes no `else` is found whatever follows
  closed_arm : (ts : List Token) (c : Clause) (r : List Token) → Stands (formed (arm_coded x (suc k) l)) ts c r → arm_open c ≡ false → one_of else_codes r ≡ true → IsFound c r (arm_run x (suc k) l ts)
  unfolding arm_run
  closed_arm ts c r s e z =
      closed_made (ℕ × ((Unit {0} × (Expr × Unit {0})) × Stmt)) Clause (ArmParts x (suc k) l) arm_made clause_tokens (arm_fits x (suc k) l) (arm_makes x (suc k) l) ts c r s
      (λ p q t. closed_order ℕ ((Unit {0} × (Expr × Unit {0})) × Stmt) (key_at_form key_of.If) Inner.form (a_key_at key_of.If).laws Inner.laws refl refl ts p r t
      (λ m u. closed_order (Unit {0} × (Expr × Unit {0})) Stmt (Parens x (suc k) l) (body_coded (suc k) l) (parens_has x lx k l).laws f.body refl refl m p.1 r u
      (λ n v. f.closed n p.1.1 r v (sym (open_arm p) ∙ ap arm_open q ∙ e) z)))

-- behind an arm

abbrev nothing : Branch → Bool
nothing ([], None) = true
nothing _ = false

abbrev open_branch : Branch → Bool
open_branch (arms, None) = true
open_branch (arms, Some s) = (stmt_shape s).open_end

abbrev branch_tell : Branch → List Told → List Told
branch_tell p r = after_elses (map clause_tokens p.0) (after_elses (map stmt_tokens (or_none p.1)) r)

module _ (x : Exprs) (h : ℕ) (l : Level) where
  abbrev Arm : Coded Clause
  Arm = arm_coded x h l

  abbrev Last : Coded Stmt
  Last = other_coded h l

  -- with room for n parts
  unfoldable pub tail_fits : ℕ → Branch → Bool
  tail_fits n ([], None) = true
  tail_fits zero (arms, last) = false
  tail_fits (suc n) ([], Some s) = Last.fits s
  tail_fits (suc n) (c ∷ arms, last) = Arm.fits c && (tail_fits n (arms, last) && (nothing (arms, last) || not (arm_open c)))

  unfoldable pub last_fits : List Clause → Option Stmt → Bool
  last_fits [] None = true
  last_fits [] (Some s) = Last.fits s
  last_fits (c ∷ arms) last = Arm.fits c && (last_fits arms last && (nothing (arms, last) || not (arm_open c)))

  abbrev all_fit : Branch → Bool
  all_fit p = last_fits p.0 p.1

  abbrev tail_run : ℕ → Run Branch
  tail_run n = branch_run n (arm_run x h l) l.other

  abbrev Tail : ℕ → Coded Branch
  Tail n = sized Branch branch_tell else_codes behind_codes true tail_fits tail_run all_fit n

  abbrev Every : Coded Branch
  Every = unbounded Branch branch_tell else_codes behind_codes true tail_fits tail_run all_fit

  abbrev Then : ℕ → Coded (Clause × Branch)
  Then n = following Clause Branch arm_open no_more nothing Arm (Tail n)

  abbrev Next : ℕ → Coded (Option (Unit {0} × Either (Clause × Branch) Stmt))
  Next n = optional (in_order (key_form key_of.Else) (one_or (key_code key_of.If ∷ []) (Then n) Last))

  none_fits : (n : ℕ) → tail_fits n no_more ≡ true
  unfolding tail_fits
  none_fits zero = refl
  none_fits (suc n) = refl

  only_none : (p : Branch) → nothing p ≡ true → no_more ≡ p
  only_none ([], None) e = refl
  only_none ([], Some s) e = absurd (false≢true e)
  only_none (c ∷ arms, o) e = absurd (false≢true e)

  some_tail : (ts : List Token) (p : Branch) (r : List Token) → Takes false (branch_tell p []) ts r → nothing p ≡ false → one_of else_codes ts ≡ true
  some_tail ts ([], None) r s e = absurd (false≢true (sym e))
  some_tail [] ([], Some q) r s e = absurd s
  some_tail [] (c ∷ arms, o) r s e = absurd s
  some_tail (t ∷ ts) ([], Some q) r s e = ap (λ n. is_in else_codes n) (ap kind_code s.0.0)
  some_tail (t ∷ ts) (c ∷ arms, o) r s e = ap (λ n. is_in else_codes n) (ap kind_code s.0.0)

  told_branch : (n : ℕ) (o : Option (Unit {0} × Either (Clause × Branch) Stmt)) (r : List Told) → branch_tell (branch_made o) r ≡ (Next n).tell o r
  told_branch n None r = refl
  told_branch n (Some (u, This (c, (arms, o)))) r = refl
  told_branch n (Some (u, That s)) r = refl

  fit_branch : (n : ℕ) (o : Option (Unit {0} × Either (Clause × Branch) Stmt)) → tail_fits (suc n) (branch_made o) ≡ (Next n).fits o
  unfolding tail_fits
  fit_branch n None = refl
  fit_branch n (Some (u, This (c, (arms, o)))) = refl
  fit_branch n (Some (u, That s)) = refl

  back_branch : (p : Branch) → (o : Option (Unit {0} × Either (Clause × Branch) Stmt)) × (branch_made o ≡ p)
  back_branch ([], None) = (None, refl)
  back_branch ([], Some s) = (Some (tt, That s), refl)
  back_branch (c ∷ arms, o) = (Some (tt, This (c, (arms, o))), refl)

  branch_makes : (n : ℕ) → Makes (Option (Unit {0} × Either (Clause × Branch) Stmt)) Branch (Next n) branch_made branch_tell (tail_fits (suc n))
  branch_makes n = same_makes (Option (Unit {0} × Either (Clause × Branch) Stmt)) Branch (Next n) branch_made branch_tell (tail_fits (suc n)) (record { told = told_branch n; fit = fit_branch n; back = back_branch })

  only_zero : (p : Branch) → tail_fits 0 p ≡ true → no_more ≡ p
  unfolding tail_fits
  only_zero ([], None) e = refl
  only_zero ([], Some s) e = absurd (false≢true e)
  only_zero (c ∷ arms, o) e = absurd (false≢true e)

  -- how many parts there are
  abbrev size : List Clause → Option Stmt → ℕ
  size [] None = 0
  size [] (Some s) = 1
  size (c ∷ arms) o = suc (size arms o)

  enough : (arms : List Clause) (o : Option Stmt) (n : ℕ) → size arms o ≤ n → last_fits arms o ≡ true → tail_fits n (arms, o) ≡ true
  unfolding tail_fits last_fits
  enough [] None zero e g = refl
  enough [] None (suc n) e g = refl
  enough [] (Some s) zero e g = absurd (omega (arith, e))
  enough [] (Some s) (suc n) e g = g
  enough (c ∷ arms) o zero e g = absurd (omega (arith, e))
  enough (c ∷ arms) o (suc n) e g =
      let a = and_parts (Arm.fits c) (last_fits arms o && (nothing (arms, o) || not (arm_open c))) g in
      let b = and_parts (last_fits arms o) (nothing (arms, o) || not (arm_open c)) a.1 in
      and_from (Arm.fits c) (tail_fits n (arms, o) && (nothing (arms, o) || not (arm_open c))) a.0 (and_from (tail_fits n (arms, o)) (nothing (arms, o) || not (arm_open c)) (enough arms o n (omega (arith, e)) b.0) b.1)

  down : (n : ℕ) (arms : List Clause) (o : Option Stmt) → tail_fits n (arms, o) ≡ true → last_fits arms o ≡ true
  unfolding tail_fits last_fits
  down n [] None g = refl
  down zero [] (Some s) g = absurd (false≢true g)
  down (suc n) [] (Some s) g = g
  down zero (c ∷ arms) o g = absurd (false≢true g)
  down (suc n) (c ∷ arms) o g =
      let a = and_parts (Arm.fits c) (tail_fits n (arms, o) && (nothing (arms, o) || not (arm_open c))) g in
      let b = and_parts (tail_fits n (arms, o)) (nothing (arms, o) || not (arm_open c)) a.1 in
      and_from (Arm.fits c) (last_fits arms o && (nothing (arms, o) || not (arm_open c))) a.0 (and_from (last_fits arms o) (nothing (arms, o) || not (arm_open c)) (down n arms o b.0) b.1)

  long_told : Lawful Clause (formed Arm) → Lawful Stmt (formed Last) → (arms : List Clause) (o : Option Stmt) → last_fits arms o ≡ true → size arms o ≤ length (branch_tell (arms, o) [])
  unfolding last_fits
  long_told la lo [] None g = omega arith
  long_told la lo [] (Some s) g = omega arith
  long_told la lo (c ∷ arms) o g =
      let a = and_parts (Arm.fits c) (last_fits arms o && (nothing (arms, o) || not (arm_open c))) g in
      let b = and_parts (last_fits arms o) (nothing (arms, o) || not (arm_open c)) a.1 in
      let i = long_told la lo arms o b.0 in
      omega (arith, i, ap length (la.appends c (branch_tell (arms, o) []) a.0), length-append (clause_tokens c []) (branch_tell (arms, o) []))

  same_tail : (arm : Run Clause) (other : Run Stmt) → ((ts : List Token) → Good (λ c q. length q < length ts) (arm ts)) → ((ts : List Token) → Good (λ (u : Unit {0}) q. length q < length ts) (of_kind (key_code key_of.Else) ts)) → (n k : ℕ) (ts : List Token) → length ts ≤ n → length ts ≤ k → branch_run n arm other ts ≡ branch_run k arm other ts
  unfolding branch_run
  same_tail arm other sa se zero zero ts e g = refl
  same_tail arm other sa se zero (suc k) [] e g = refl
  same_tail arm other sa se zero (suc k) (t ∷ ts) e g = absurd (omega (arith, e))
  same_tail arm other sa se (suc n) zero [] e g = refl
  same_tail arm other sa se (suc n) zero (t ∷ ts) e g = absurd (omega (arith, g))
  same_tail arm other sa se (suc n) (suc k) ts e g =
      ap (λ (m : Read (Unit {0} × Either (Clause × Branch) Stmt)). becoming branch_made (perhaps_from ts m))
      (bind_same (of_kind (key_code key_of.Else) ts) (λ a q. becoming (joined a) (either (key_code key_of.If ∷ []) (followed arm_open no_more arm (branch_run n arm other)) other q)) (λ a q. becoming (joined a) (either (key_code key_of.If ∷ []) (followed arm_open no_more arm (branch_run k arm other)) other q))
      (good_more (λ (u : Unit {0}) q. length q < length ts) _ (of_kind (key_code key_of.Else) ts)
      (λ a q lt. ap (λ (m : Read (Clause × Branch)). becoming (joined a) (cond (one_of (key_code key_of.If ∷ []) q) (becoming This m) (becoming That (other q))))
      (bind_same (arm q) (unless arm_open no_more (branch_run n arm other)) (unless arm_open no_more (branch_run k arm other))
      (good_more (λ (c : Clause) p. length p < length q) _ (arm q)
      (λ c p lt'. ap (λ (m : Read Branch). cond (arm_open c) (found (c, no_more) p) (becoming (joined c) m)) (same_tail arm other sa se n k p (omega (arith, lt, lt', e)) (omega (arith, lt, lt', g)))) (sa q))))
      (se ts)))

module _ (x : Exprs) (lx : ExprLaws x) (k : ℕ) (l : Level) (f : LevelLaws (suc k) l) where
  abbrev la : Lawful Clause (formed (arm_coded x (suc k) l))
  la = arm_laws x lx k l f

  follow : (n : ℕ) → Follow Clause Branch arm_open no_more nothing (Arm x (suc k) l) (Tail x (suc k) l n)
  follow n = record {
    solid = refl;
    free = refl;
    bare = λ r. refl;
    none_fits = none_fits x (suc k) l n;
    none_is = refl;
    only = only_none x (suc k) l;
    some = λ ts p r s e. some_tail x (suc k) l ts p r s.0 e;
    whole = λ ts c r s e q. closed_arm x lx k l f ts c r s e q;
  }

  inner_laws : (n : ℕ) → Lawful Branch (formed (Tail x (suc k) l n)) → Lawful (Either (Clause × Branch) Stmt) (formed (one_or (key_code key_of.If ∷ []) (Then x (suc k) l n) (Last x (suc k) l)))
  inner_laws n lt =
      one_or_laws (Clause × Branch) Stmt (key_code key_of.If ∷ []) (Then x (suc k) l n) (Last x (suc k) l)
      (following_laws Clause Branch arm_open no_more nothing (Arm x (suc k) l) (Tail x (suc k) l n) la lt (follow n)) f.other
      (record { solid = refl; solid' = refl; this = refl; that = refl })

  else_laws : (n : ℕ) → Lawful Branch (formed (Tail x (suc k) l n)) → Lawful (Unit {0} × Either (Clause × Branch) Stmt) (formed (in_order (key_form key_of.Else) (one_or (key_code key_of.If ∷ []) (Then x (suc k) l n) (Last x (suc k) l))))
  else_laws n lt = in_order_laws (Unit {0}) (Either (Clause × Branch) Stmt) (key_form key_of.Else) (one_or (key_code key_of.If ∷ []) (Then x (suc k) l n) (Last x (suc k) l)) (key_laws key_of.Else) (inner_laws n lt) refl

  tail_laws : (n : ℕ) → Lawful Branch (formed (Tail x (suc k) l n))
  unfolding branch_run
  tail_laws zero = idle_laws Branch (Tail x (suc k) l 0) no_more (none_fits x (suc k) l 0) (only_zero x (suc k) l) (λ r. refl) refl
  tail_laws (suc n) =
      widened_laws Branch (made (Option (Unit {0} × Either (Clause × Branch) Stmt)) Branch (Next x (suc k) l n) branch_made branch_tell (tail_fits x (suc k) l (suc n))) else_codes behind_codes
      (made_laws (Option (Unit {0} × Either (Clause × Branch) Stmt)) Branch (Next x (suc k) l n) branch_made branch_tell (tail_fits x (suc k) l (suc n))
      (optional_laws (Unit {0} × Either (Clause × Branch) Stmt) (in_order (key_form key_of.Else) (one_or (key_code key_of.If ∷ []) (Then x (suc k) l n) (Last x (suc k) l))) (else_laws n (tail_laws n)) refl)
      (branch_makes x (suc k) l n)) refl refl

  grows : Grows Branch branch_tell else_codes behind_codes true (tail_fits x (suc k) l) (tail_run x (suc k) l) (all_fit x (suc k) l)
  grows = record {
    lawful = tail_laws;
    up = λ p g. (size x (suc k) l p.0 p.1, enough x (suc k) l p.0 p.1 (size x (suc k) l p.0 p.1) (omega arith) g);
    down = λ n p g. down x (suc k) l n p.0 p.1 g;
    short = λ n ts p r s e. let i = long_told x (suc k) l la f.other p.0 p.1 s.1 in enough x (suc k) l p.0 p.1 n (omega (arith, i, e, takes_length false (branch_tell p []) ts r s.0)) s.1;
    fuel = same_tail x (suc k) l (arm_run x (suc k) l) l.other (takes_some Clause (formed (Arm x (suc k) l)) la refl) (takes_some (Unit {0}) (formed (key_form key_of.Else)) (key_laws key_of.Else) refl);
  }

  every_laws : Lawful Branch (formed (Every x (suc k) l))
  every_laws = unbounded_laws Branch branch_tell else_codes behind_codes true (tail_fits x (suc k) l) (tail_run x (suc k) l) (all_fit x (suc k) l) grows

  -- what is behind an arm is found whatever follows, where its end takes no `else`

  abbrev AllClosed : ℕ → Type 0
  AllClosed n = (ts : List Token) (p : Branch) (r : List Token) → Stands (formed (Tail x (suc k) l n)) ts p r → open_branch p ≡ false → one_of else_codes r ≡ true → IsFound p r (tail_run x (suc k) l n ts)

  not_none : (arms : List Clause) (q : Stmt) → nothing (arms, Some q) ≡ false
  not_none [] q = refl
  not_none (d ∷ arms) q = refl

  closed_choice : (n : ℕ) → AllClosed n → (m : List Token) (o : Either (Clause × Branch) Stmt) (r : List Token) → Stands (formed (one_or (key_code key_of.If ∷ []) (Then x (suc k) l n) (Last x (suc k) l))) m o r → open_branch (branch_made (Some (tt, o))) ≡ false → one_of else_codes r ≡ true → IsFound o r ((one_or (key_code key_of.If ∷ []) (Then x (suc k) l n) (Last x (suc k) l)).run m)
  closed_choice n ih m (This (c, (arms, None))) r u e z = absurd (false≢true (sym e))
  closed_choice n ih m (This (c, (arms, Some q))) r u e z =
      closed_this (Clause × Branch) Stmt (key_code key_of.If ∷ []) (Then x (suc k) l n) (Last x (suc k) l)
      (following_laws Clause Branch arm_open no_more nothing (Arm x (suc k) l) (Tail x (suc k) l n) la (tail_laws n) (follow n)) (record { solid = refl; solid' = refl; this = refl; that = refl })
      m (c, (arms, Some q)) r u
      (following_whole Clause Branch arm_open no_more nothing (Arm x (suc k) l) (Tail x (suc k) l n) la (tail_laws n) (follow n) m (c, (arms, Some q)) r u (not_none arms q) (λ v w. ih v (arms, Some q) r w e z))
  closed_choice n ih m (That q) r u e z =
      closed_that (Clause × Branch) Stmt (key_code key_of.If ∷ []) (Then x (suc k) l n) (Last x (suc k) l) f.other (record { solid = refl; solid' = refl; this = refl; that = refl }) m q r u (f.closed_other m q r u e z)

  closed_next : (n : ℕ) → AllClosed n → (ts : List Token) (p : Branch) (r : List Token) (o : Option (Unit {0} × Either (Clause × Branch) Stmt)) → open_branch p ≡ false → one_of else_codes r ≡ true → branch_made o ≡ p → Stands (formed (Next x (suc k) l n)) ts o r → IsFound o r ((Next x (suc k) l n).run ts)
  closed_next n ih ts p r None e z q t = absurd (false≢true (sym e ∙ ap open_branch (sym q)))
  closed_next n ih ts p r (Some (u, o)) e z q t =
      closed_optional (Unit {0} × Either (Clause × Branch) Stmt) (in_order (key_form key_of.Else) (one_or (key_code key_of.If ∷ []) (Then x (suc k) l n) (Last x (suc k) l))) ts (u, o) r
      (closed_order (Unit {0}) (Either (Clause × Branch) Stmt) (key_form key_of.Else) (one_or (key_code key_of.If ∷ []) (Then x (suc k) l n) (Last x (suc k) l)) (key_laws key_of.Else) (inner_laws n (tail_laws n)) refl refl ts (u, o) r t
      (λ m v. closed_choice n ih m o r v (ap open_branch q ∙ e) z))

  closed_tail : (n : ℕ) → AllClosed n
  unfolding branch_run
  closed_tail zero ts p r s e z = absurd (false≢true (sym e ∙ ap open_branch (sym (only_zero x (suc k) l p s.1))))
  closed_tail (suc n) ts p r s e z =
      closed_made (Option (Unit {0} × Either (Clause × Branch) Stmt)) Branch (Next x (suc k) l n) branch_made branch_tell (tail_fits x (suc k) l (suc n)) (branch_makes x (suc k) l n) ts p r s (λ o q t. closed_next n (closed_tail n) ts p r o e z q t)

-- the statement

abbrev pub is_if : Layer → Bool
is_if (Stmt-F.If (c ∷ arms) []) = true
is_if (Stmt-F.If (c ∷ arms) (s ∷ [])) = true
is_if _ = false

module _ (x : Exprs) (h : ℕ) (l : Level) where
  abbrev pub IfParts : Coded (Clause × Branch)
  IfParts = following Clause Branch arm_open no_more nothing (Arm x h l) (Every x h l)

  arm_shape : (head : ClauseHead) (items : List Stmt) (n : Bool) → (n && (is_of_if (clause_with head (map stmt_shape items)).part && (clause_with head (map stmt_shape items)).good)) ≡ (is_arm head items && (n && (clause_with head (map stmt_shape items)).good))
  arm_shape (clause_of.If test) [] n = none n (is_expr test)
    where
      none : (n e : Bool) → (n && (true && (e && false))) ≡ (false && (n && (e && false)))
      none n e = grind (arith, common_steps)
  arm_shape (clause_of.If test) (s ∷ []) n = refl
  arm_shape (clause_of.If test) (s ∷ t ∷ items) n = none n (is_expr test)
    where
      none : (n e : Bool) → (n && (true && (e && false))) ≡ (false && (n && (e && false)))
      none n e = grind (arith, common_steps)
  arm_shape (clause_of.Case label) items n = and_right n false refl
  arm_shape clause_of.Default items n = and_right n false refl
  arm_shape (clause_of.Catch modifiers first more name) items n = and_right n false refl
  arm_shape clause_of.Finally items n = and_right n false refl

  one_arm : (c : Clause) → (nat_le (clause_height c) h && (is_of_if (clause_shape c).part && (clause_shape c).good)) ≡ arm_fits x h l c
  one_arm c =
      ap (λ (s : ClauseShape). nat_le (clause_height c) h && (is_of_if s.part && s.good)) (clause_shape-parts c) ∙ arm_shape (out-Clause c).head (out-Clause c).items (nat_le (clause_height c) h)
      ∙ ap (λ (s : ClauseShape). is_arm (out-Clause c).head (out-Clause c).items && (nat_le (clause_height c) h && s.good)) (sym (clause_shape-parts c))

  none_bits : (n z k g o : Bool) → (((n && z) && z) && (k && g && (true || o))) ≡ ((n && (k && g)) && (z && (true || o)))
  none_bits n z k g o = grind (arith, common_steps)

  more_bits : (n m z k g o a : Bool) → (((n && m) && z) && (k && g && o && a)) ≡ ((n && (k && g)) && (((m && z) && a) && (false || o)))
  more_bits n m z k g o a = grind (arith, common_steps)

  last_bits : (n m z k g o b : Bool) → (((n && z) && (m && z)) && ((k && g && (false || o)) && b)) ≡ ((n && (k && g)) && (z && ((m && b) && (false || o))))
  last_bits n m z k g o b = grind (arith, common_steps)

  more_last_bits : (n m z k g o a b : Bool) → (((n && m) && z) && ((k && g && o && a) && b)) ≡ ((n && (k && g)) && (((m && z) && (a && b)) && (false || o)))
  more_last_bits n m z k g o a b = grind (arith, common_steps)

  zero_high : nat_le 0 h ≡ true
  zero_high = room_above h

  -- heights and shapes of all the parts together
  fit_arms : (c : Clause) (arms : List Clause) → (nat_le (max (most (map clause_height (c ∷ arms))) 0) h && arms_good false (map clause_shape (c ∷ arms))) ≡ (arm_fits x h l c && (last_fits x h l arms None && (nothing (arms, None) || not (arm_open c))))
  unfolding last_fits
  fit_arms c [] =
      ap (λ b. b && (is_of_if (clause_shape c).part && (clause_shape c).good && (true || not (clause_shape c).open_end)))
      (room_max (max (clause_height c) 0) 0 h ∙ ap (λ b. b && nat_le 0 h) (room_max (clause_height c) 0 h))
      ∙ none_bits (nat_le (clause_height c) h) (nat_le 0 h) (is_of_if (clause_shape c).part) (clause_shape c).good (not (arm_open c))
      ∙ ap (λ b. b && (nat_le 0 h && (true || not (arm_open c)))) (one_arm c) ∙ ap (λ b. arm_fits x h l c && (b && (true || not (arm_open c)))) zero_high
  fit_arms c (d ∷ arms) =
      ap (λ b. b && (is_of_if (clause_shape c).part && (clause_shape c).good && not (clause_shape c).open_end && arms_good false (map clause_shape (d ∷ arms))))
      (room_max (max (clause_height c) (most (map clause_height (d ∷ arms)))) 0 h ∙ ap (λ b. b && nat_le 0 h) (room_max (clause_height c) (most (map clause_height (d ∷ arms))) h))
      ∙ more_bits (nat_le (clause_height c) h) (nat_le (most (map clause_height (d ∷ arms))) h) (nat_le 0 h) (is_of_if (clause_shape c).part) (clause_shape c).good (not (arm_open c)) (arms_good false (map clause_shape (d ∷ arms)))
      ∙ ap (λ b. b && (((nat_le (most (map clause_height (d ∷ arms))) h && nat_le 0 h) && arms_good false (map clause_shape (d ∷ arms))) && (false || not (arm_open c)))) (one_arm c)
      ∙ ap (λ b. arm_fits x h l c && ((b && arms_good false (map clause_shape (d ∷ arms))) && (false || not (arm_open c)))) (sym (room_max (most (map clause_height (d ∷ arms))) 0 h))
      ∙ ap (λ b. arm_fits x h l c && (b && (false || not (arm_open c)))) (fit_arms d arms)

  fit_last : (s : Stmt) (c : Clause) (arms : List Clause) → (nat_le (max (most (map clause_height (c ∷ arms))) (max (stmt_height s) 0)) h && (arms_good true (map clause_shape (c ∷ arms)) && behind_else (stmt_shape s))) ≡ (arm_fits x h l c && (last_fits x h l arms (Some s) && (nothing (arms, Some s) || not (arm_open c))))
  unfolding last_fits
  fit_last s c [] =
      ap (λ b. b && ((is_of_if (clause_shape c).part && (clause_shape c).good && (false || not (clause_shape c).open_end)) && behind_else (stmt_shape s)))
      (room_max (max (clause_height c) 0) (max (stmt_height s) 0) h ∙ ap (λ b. b && nat_le (max (stmt_height s) 0) h) (room_max (clause_height c) 0 h) ∙ ap (λ b. (nat_le (clause_height c) h && nat_le 0 h) && b) (room_max (stmt_height s) 0 h))
      ∙ last_bits (nat_le (clause_height c) h) (nat_le (stmt_height s) h) (nat_le 0 h) (is_of_if (clause_shape c).part) (clause_shape c).good (not (arm_open c)) (behind_else (stmt_shape s))
      ∙ ap (λ b. b && (nat_le 0 h && ((nat_le (stmt_height s) h && behind_else (stmt_shape s)) && (false || not (arm_open c))))) (one_arm c)
      ∙ ap (λ b. arm_fits x h l c && (b && ((nat_le (stmt_height s) h && behind_else (stmt_shape s)) && (false || not (arm_open c))))) zero_high
  fit_last s c (d ∷ arms) =
      ap (λ b. b && ((is_of_if (clause_shape c).part && (clause_shape c).good && not (clause_shape c).open_end && arms_good true (map clause_shape (d ∷ arms))) && behind_else (stmt_shape s)))
      (room_max (max (clause_height c) (most (map clause_height (d ∷ arms)))) (max (stmt_height s) 0) h ∙ ap (λ b. b && nat_le (max (stmt_height s) 0) h) (room_max (clause_height c) (most (map clause_height (d ∷ arms))) h))
      ∙ more_last_bits (nat_le (clause_height c) h) (nat_le (most (map clause_height (d ∷ arms))) h) (nat_le (max (stmt_height s) 0) h) (is_of_if (clause_shape c).part) (clause_shape c).good (not (arm_open c)) (arms_good true (map clause_shape (d ∷ arms))) (behind_else (stmt_shape s))
      ∙ ap (λ b. b && (((nat_le (most (map clause_height (d ∷ arms))) h && nat_le (max (stmt_height s) 0) h) && (arms_good true (map clause_shape (d ∷ arms)) && behind_else (stmt_shape s))) && (false || not (arm_open c)))) (one_arm c)
      ∙ ap (λ b. arm_fits x h l c && ((b && (arms_good true (map clause_shape (d ∷ arms)) && behind_else (stmt_shape s))) && (false || not (arm_open c)))) (sym (room_max (most (map clause_height (d ∷ arms))) (max (stmt_height s) 0) h))
      ∙ ap (λ b. arm_fits x h l c && (b && (false || not (arm_open c)))) (fit_last s d arms)

  fit_if : (p : Clause × Branch) → good_at h (if_made p) ≡ IfParts.fits p
  fit_if (c, (arms, None)) = good_made h (stmt_of.If (c ∷ arms) []) (max (most (map clause_height (c ∷ arms))) 0) _ (stmt_height-If (c ∷ arms) []) (stmt_shape-If (c ∷ arms) []) ∙ fit_arms c arms
  fit_if (c, (arms, Some s)) = good_made h (stmt_of.If (c ∷ arms) (s ∷ [])) (max (most (map clause_height (c ∷ arms))) (max (stmt_height s) 0)) _ (stmt_height-If (c ∷ arms) (s ∷ [])) (stmt_shape-If (c ∷ arms) (s ∷ [])) ∙ fit_last s c arms

  told_if : (p : Clause × Branch) (r : List Told) → stmt_tokens (if_made p) r ≡ IfParts.tell p r
  told_if (c, (arms, o)) r = stmt_tokens-If (c ∷ arms) (or_none o) r

  kind_if : (p : Clause × Branch) → is_if (out-Stmt (if_made p)) ≡ true
  kind_if (c, (arms, None)) = ap is_if (stmt_of.outs-If (c ∷ arms) [])
  kind_if (c, (arms, Some s)) = ap is_if (stmt_of.outs-If (c ∷ arms) (s ∷ []))

  back_if : (s : Stmt) (layer : Layer) → out-Stmt s ≡ layer → is_if layer ≡ true → (p : Clause × Branch) × (if_made p ≡ s)
  back_if s (Stmt-F.If (c ∷ arms) []) e g = ((c, (arms, None)), sym (stmt_of.rolls-If (c ∷ arms) []) ∙ ap roll-Stmt (sym e) ∙ roll-out-Stmt s)
  back_if s (Stmt-F.If (c ∷ arms) (q ∷ [])) e g = ((c, (arms, Some q)), sym (stmt_of.rolls-If (c ∷ arms) (q ∷ [])) ∙ ap roll-Stmt (sym e) ∙ roll-out-Stmt s)
  back_if s _ e g = absurd (false≢true g)

  pub if_kind : OfKind (Clause × Branch) Stmt (roomy h IfParts) if_made stmt_tokens (λ s. is_if (out-Stmt s)) (good_at h)
  if_kind = record { told = told_if; fit = fit_if; is_kind = kind_if; back = λ s g. back_if s (out-Stmt s) refl g }

all_follow : (x : Exprs) (lx : ExprLaws x) (k : ℕ) (l : Level) (f : LevelLaws (suc k) l) → Follow Clause Branch arm_open no_more nothing (Arm x (suc k) l) (Every x (suc k) l)
unfolding last_fits
all_follow x lx k l f = record {
  solid = refl;
  free = refl;
  bare = λ r. refl;
  none_fits = refl;
  none_is = refl;
  only = only_none x (suc k) l;
  some = λ ts p r s e. some_tail x (suc k) l ts p r s.0 e;
  whole = λ ts c r s e q. closed_arm x lx k l f ts c r s e q;
}

if_parts_laws : (x : Exprs) (lx : ExprLaws x) (k : ℕ) (l : Level) (f : LevelLaws (suc k) l) → Lawful (Clause × Branch) (formed (IfParts x (suc k) l))
if_parts_laws x lx k l f = following_laws Clause Branch arm_open no_more nothing (Arm x (suc k) l) (Every x (suc k) l) (arm_laws x lx k l f) (every_laws x lx k l f) (all_follow x lx k l f)

pub arm_never : (x : Exprs) (l : Level) (c : Clause) → arm_fits x 0 l c ≡ false
arm_never x l c = false_from_ne_true (arm_fits x 0 l c)
    (λ t. let w = (arm_makes x 0 l).back c t in false≢true (sym (never_second ℕ ((Unit {0} × (Expr × Unit {0})) × Stmt) (key_at_form key_of.If) (in_order (Parens x 0 l) (body_coded 0 l)) (never_first (Unit {0} × (Expr × Unit {0})) Stmt (Parens x 0 l) (body_coded 0 l) (parens_never x l)) w.0) ∙ w.2))

if_room : (x : Exprs) (lx : ExprLaws x) (h : ℕ) (l : Level) → LevelLaws h l → Law (Clause × Branch) (roomy h (IfParts x h l))
if_room x lx zero l f = roomy_zero (IfParts x 0 l) (λ p. and_left (arm_fits x 0 l p.0) ((Every x 0 l).fits p.1 && (nothing p.1 || not (arm_open p.0))) (arm_never x l p.0))
if_room x lx (suc k) l f = roomy_suc k (IfParts x (suc k) l) (if_parts_laws x lx k l f)

module _ (x : Exprs) (lx : ExprLaws x) (h : ℕ) (l : Level) where
  abbrev pub if_coded : Coded Stmt
  if_coded = record { tell = stmt_tokens; fits = stmt_fits (Clause × Branch) h (roomy h (IfParts x h l)) if_made is_if; run = if_run x h l; starts = key_code key_of.If ∷ []; goes = (IfParts x h l).goes; empties = false }

  pub if_law : LevelLaws h l → Law Stmt if_coded
  unfolding if_run
  if_law f = stmt_made_law (Clause × Branch) h (roomy h (IfParts x h l)) if_made is_if (if_room x lx h l f) (if_kind x h l)

open_if : (p : Clause × Branch) → (stmt_shape (if_made p)).open_end ≡ open_branch p.1
open_if (c, (arms, None)) = ap (λ (s : StmtShape). s.open_end) (stmt_shape-If (c ∷ arms) [])
open_if (c, (arms, Some s)) = ap (λ (s : StmtShape). s.open_end) (stmt_shape-If (c ∷ arms) (s ∷ []))

not_nothing : (p : Branch) → open_branch p ≡ false → nothing p ≡ false
not_nothing ([], None) e = absurd (false≢true (sym e))
not_nothing ([], Some s) e = refl
not_nothing (c ∷ arms, o) e = refl

-- an `if` that takes no `else` behind it is found before one
pub closed_if : (x : Exprs) (lx : ExprLaws x) (k : ℕ) (l : Level) (f : LevelLaws (suc k) l) (ts : List Token) (s : Stmt) (r : List Token) → Stands (formed (if_coded x lx (suc k) l)) ts s r → (stmt_shape s).open_end ≡ false → one_of else_codes r ≡ true → IsFound s r (if_run x (suc k) l ts)
unfolding if_run with_room
closed_if x lx k l f ts s r t e z =
    closed_made (Clause × Branch) Stmt (roomy (suc k) (IfParts x (suc k) l)) if_made stmt_tokens (stmt_fits (Clause × Branch) (suc k) (roomy (suc k) (IfParts x (suc k) l)) if_made is_if)
    (kind_makes (Clause × Branch) Stmt (roomy (suc k) (IfParts x (suc k) l)) if_made stmt_tokens (λ s. is_if (out-Stmt s)) (good_at (suc k)) (if_kind x (suc k) l)) ts s r t
    (λ p q u.
    let o : open_branch p.1 ≡ false = sym (open_if p) ∙ ap (λ (v : Stmt). (stmt_shape v).open_end) q ∙ e in
    following_whole Clause Branch arm_open no_more nothing (Arm x (suc k) l) (Every x (suc k) l) (arm_laws x lx k l f) (every_laws x lx k l f) (all_follow x lx k l f) ts p r u (not_nothing p.1 o)
    (λ m v. closed_tail x lx k l f (length m) m p.1 r (v.0, enough x (suc k) l p.1.0 p.1.1 (length m) (short_there m p.1 v) v.1) o z))
  where
    short_there : (m : List Token) (p : Branch) → Stands (formed (Every x (suc k) l)) m p r → size x (suc k) l p.0 p.1 ≤ length m
    short_there m p v = let i = long_told x (suc k) l (arm_laws x lx k l f) f.other p.0 p.1 v.1 in omega (arith, i, takes_length false (branch_tell p []) m r v.0)
