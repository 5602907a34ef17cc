-- What is read behind the arms of an `if`.
use Rattle.std.proofs.Common.{◌≡◌, ℕ, zero, suc, ◌<◌, ◌≤◌, min, Bool, true, false, cond, List, [], ◌∷◌, ◌++◌, length, Option, Some, None, append_assoc, append-nil, refl, sym, ap, ◌∙◌, subst, arith}
use Rattle.std.specs.Prelude.{IfErr, IfOk, Result, Ok, Err}
use Rattle.jc_reading.specs.declared.reading.Found as answer
use Rattle.jc_reading.specs.declared.reading.Halt.{Halt}
use Rattle.jc_reading.specs.declared.reading.Halt.TheVariants as halt_of
use Rattle.jc_reading.specs.Giving.{Gives}
use Rattle.jc_parse_heads.proofs.Joinings.{found_same}
use Rattle.jc_lexer.specs.declared.token.Key.TheVariants as key_of
use Rattle.jc_lexer.specs.declared.token.Token.{Token}
use Rattle.jc_tree.specs.declared.statement.Clause.{Clause}
use Rattle.jc_tree.specs.declared.statement.Stmt.{Stmt}
use Rattle.jc_tree.specs.declared.statement.Stmt.TheVariants as stmt_of
use Rattle.jc_reading.specs.Kinds.{key_code, one_of}
use Rattle.jc_reading.specs.Reading.{Read, Found, Stopped, Run, found, noting, becoming, joined, ◌>>=◌, as_new, in_turn, of_kind, perhaps_from, Either, This, That, either}
use Rattle.jc_reading.specs.Further.{followed, unless}
use Rattle.jc_unit_laws.specs.UnitReading.{arm_open, branch_made, branch_run, no_more, or_none}
use Rattle.jc_unit_laws.specs.UnitReading.{Branch as UnitBranch}
use Rattle.jc_parse_nodes.specs.declared.pieces.Branch.{Branch}
use Rattle.jc_parse_nodes.specs.declared.pieces.Branch.TheVariants as branch_is
use Rattle.jc_parse_heads.specs.UnitCode.{branch_of, if_node}
use Rattle.jc_parse_expr.proofs.JoinedSteps.{wants}

module _ (arm : Run Clause) (other : Run Stmt) where
  -- something is read always
  abbrev There : Read UnitBranch → Type 0
  There (Found b r l) = Unit {0}
  There (Stopped l) = ⊥

  there_perhaps : {A : Type 0} (f : Option A → UnitBranch) (ts : List Token) (m : Read A) → There (becoming f (perhaps_from ts m))
  there_perhaps f ts (Found a r l) = tt
  there_perhaps f ts (Stopped l) = tt

  there : (n : ℕ) (ts : List Token) → There (branch_run n arm other ts)
  unfolding branch_run
  there zero ts = tt
  there (suc n) ts = there_perhaps branch_made ts _

  abbrev pub More : ℕ → Bool → Run UnitBranch
  More n closes ts = cond closes (found no_more ts) (branch_run n arm other ts)

  abbrev pub grown_by : Clause → UnitBranch → UnitBranch
  grown_by c b = (c ∷ b.0, b.1)

  -- what is read of the first branch, and so of all
  abbrev Goes_on : ℕ → List Token → Read UnitBranch → Read Branch → Type 0
  Goes_on n ts whole (Found (branch_is.Arm c) q l) = whole ≡ noting l (becoming (grown_by c) (More n (arm_open c) q))
  Goes_on n ts whole (Found (branch_is.Last s) q l) = whole ≡ Found ([], Some s) q l
  Goes_on n ts whole (Stopped l) = whole ≡ Found no_more ts l

  abbrev Whole : ℕ → List Token → Read (Unit {0} × Either (Clause × UnitBranch) Stmt) → Read UnitBranch
  Whole n ts m = becoming branch_made (perhaps_from ts m)

  one_arm : (n : ℕ) (ts : List Token) (k l : ℕ) (c : Clause) (q : List Token) (closes : Bool) (v : Read UnitBranch) → There v →
      Whole n ts (noting k (becoming (joined {A = Unit {0}} tt) (becoming This (noting l (cond closes (found (c, no_more) q) (becoming (joined c) v)))))) ≡ noting (min k l) (becoming (grown_by c) (cond closes (found no_more q) v))
  one_arm n ts k l c q true v t = let e : min k (min l (length q)) ≡ min (min k l) (length q) = omega arith in ap (λ (j : ℕ). Found (c ∷ [], None) q j) e
  one_arm n ts k l c q false (Found b r j) t = let e : min k (min l j) ≡ min (min k l) j = omega arith in ap (λ (i : ℕ). Found (c ∷ b.0, b.1) r i) e
  one_arm n ts k l c q false (Stopped j) t = absurd t

  arm_goes : (n : ℕ) (ts : List Token) (k : ℕ) (m : Read Clause) → Goes_on n ts (Whole n ts (noting k (becoming (joined {A = Unit {0}} tt) (becoming This (m >>= unless arm_open no_more (branch_run n arm other)))))) (becoming branch_of (noting k (becoming (joined {A = Unit {0}} tt) (becoming {B = Either Clause Stmt} This m))))
  arm_goes n ts k (Found c q l) = one_arm n ts k l c q (arm_open c) (branch_run n arm other q) (there n q)
  arm_goes n ts k (Stopped l) = refl

  last_goes : (n : ℕ) (ts : List Token) (k : ℕ) (m : Read Stmt) → Goes_on n ts (Whole n ts (noting k (becoming (joined {A = Unit {0}} tt) (becoming That m)))) (becoming branch_of (noting k (becoming (joined {A = Unit {0}} tt) (becoming {B = Either Clause Stmt} That m))))
  last_goes n ts k (Found s q l) = refl
  last_goes n ts k (Stopped l) = refl

  abbrev If : List ℕ
  If = key_code key_of.If ∷ []

  kind_goes : (n : ℕ) (ts : List Token) (k : ℕ) (p : List Token) (b : Bool) →
      Goes_on n ts (Whole n ts (noting k (becoming (joined {A = Unit {0}} tt) (cond b (becoming This (followed arm_open no_more arm (branch_run n arm other) p)) (becoming That (other p))))))
      (becoming branch_of (noting k (becoming (joined {A = Unit {0}} tt) (cond b (becoming {B = Either Clause Stmt} This (arm p)) (becoming That (other p))))))
  kind_goes n ts k p true = arm_goes n ts k (arm p)
  kind_goes n ts k p false = last_goes n ts k (other p)

  key_goes : (n : ℕ) (ts : List Token) (m : Read (Unit {0})) →
      Goes_on n ts (Whole n ts (m >>= (λ u p. becoming (joined u) (either If (followed arm_open no_more arm (branch_run n arm other)) other p)))) (becoming branch_of (m >>= (λ u p. becoming (joined u) (either If arm other p))))
  key_goes n ts (Found u p k) = kind_goes n ts k p (one_of If p)
  key_goes n ts (Stopped k) = refl

  abbrev pub Once : Run Branch
  Once = as_new branch_of (in_turn (of_kind (key_code key_of.Else)) (either If arm other))

  goes_on : (n : ℕ) (ts : List Token) → Goes_on n ts (branch_run (suc n) arm other ts) (Once ts)
  unfolding branch_run
  goes_on n ts = key_goes n ts (of_kind (key_code key_of.Else) ts)

  -- the loop: the arms are read already, and there is room for n more
  pub record Turns (whole : Read Stmt) (arms : List Clause) (left : ℕ) (closes : Bool) (ts : List Token) : Type 0 where
    pub room : ℕ
    pub enough : length ts ≤ room
    pub rest : whole ≡ noting left (becoming (if_node arms) (More room closes ts))

  grow : (arms : List Clause) (c : Clause) (left l : ℕ) (v : Read UnitBranch) → noting left (becoming (if_node arms) (noting l (becoming (grown_by c) v))) ≡ noting (min left l) (becoming (if_node (arms ++ c ∷ [])) v)
  grow arms c left l (Found b r k) =
      ap (λ (list : List Clause). Found (stmt_of.If list (or_none b.1)) r (min left (min l k))) (sym (append_assoc arms (c ∷ []) b.0))
      ∙ (let e : min left (min l k) ≡ min (min left l) k = omega arith in ap (λ (j : ℕ). Found (stmt_of.If ((arms ++ c ∷ []) ++ b.0) (or_none b.1)) r j) e)
  grow arms c left l (Stopped k) = let e : min left (min l k) ≡ min (min left l) k = omega arith in ap (λ (j : ℕ). Stopped j) e

  pub turn_arm : (whole : Read Stmt) (arms : List Clause) (left : ℕ) (ts q : List Token) (c : Clause) (l : ℕ) → Turns whole arms left false ts → Once ts ≡ Found (branch_is.Arm c) q l → length q < length ts → Turns whole (arms ++ c ∷ []) (min left l) (arm_open c) q
  turn_arm whole arms left ts q c l t e lt = by_room t.room t.enough t.rest
    where
      by_room : (n : ℕ) → length ts ≤ n → whole ≡ noting left (becoming (if_node arms) (More n false ts)) → Turns whole (arms ++ c ∷ []) (min left l) (arm_open c) q
      by_room zero le w = absurd (omega (arith, le, lt))
      by_room (suc n) le w = record {
        room = n;
        enough = omega (arith, le, lt);
        rest = w ∙ ap (λ (v : Read UnitBranch). noting left (becoming (if_node arms) v)) (subst (λ (m : Read Branch). Goes_on n ts (branch_run (suc n) arm other ts) m) e (goes_on n ts)) ∙ grow arms c left l (More n (arm_open c) q);
      }

  pub turn_last : (whole : Read Stmt) (arms : List Clause) (left : ℕ) (ts q : List Token) (s : Stmt) (l : ℕ) → Turns whole arms left false ts → Once ts ≡ Found (branch_is.Last s) q l → length q < length ts → whole ≡ Found (stmt_of.If arms (s ∷ [])) q (min left l)
  turn_last whole arms left ts q s l t e lt = by_room t.room t.enough t.rest
    where
      by_room : (n : ℕ) → length ts ≤ n → whole ≡ noting left (becoming (if_node arms) (More n false ts)) → whole ≡ Found (stmt_of.If arms (s ∷ [])) q (min left l)
      by_room zero le w = absurd (omega (arith, le, lt))
      by_room (suc n) le w =
          w ∙ ap (λ (v : Read UnitBranch). noting left (becoming (if_node arms) v)) (subst (λ (m : Read Branch). Goes_on n ts (branch_run (suc n) arm other ts) m) e (goes_on n ts))
          ∙ ap (λ (list : List Clause). Found (stmt_of.If list (s ∷ [])) q (min left l)) (append-nil arms)

  pub turn_stops : (whole : Read Stmt) (arms : List Clause) (left : ℕ) (ts : List Token) (l : ℕ) → Turns whole arms left false ts → Once ts ≡ Stopped l → l ≤ length ts → whole ≡ Found (stmt_of.If arms []) ts (min left l)
  unfolding branch_run
  turn_stops whole arms left ts l t e le = by_room t.room t.enough t.rest
    where
      by_room : (n : ℕ) → length ts ≤ n → whole ≡ noting left (becoming (if_node arms) (More n false ts)) → whole ≡ Found (stmt_of.If arms []) ts (min left l)
      by_room zero w i =
          let k : length ts ≡ l = omega (arith, w, le) in
          i ∙ ap (λ (list : List Clause). Found (stmt_of.If list []) ts (min left (length ts))) (append-nil arms) ∙ ap (λ (j : ℕ). Found (stmt_of.If arms []) ts (min left j)) k
      by_room (suc n) w i =
          i ∙ ap (λ (v : Read UnitBranch). noting left (becoming (if_node arms) v)) (subst (λ (m : Read Branch). Goes_on n ts (branch_run (suc n) arm other ts) m) e (goes_on n ts))
          ∙ ap (λ (list : List Clause). Found (stmt_of.If list []) ts (min left l)) (append-nil arms)

  pub turn_closed : (whole : Read Stmt) (arms : List Clause) (left : ℕ) (ts : List Token) → Turns whole arms left true ts → whole ≡ Found (stmt_of.If arms []) ts (min left (length ts))
  turn_closed whole arms left ts t = t.rest ∙ ap (λ (list : List Clause). Found (stmt_of.If list []) ts (min left (length ts))) (append-nil arms)

pub last_gives : (m : Read Stmt) (result : Result (answer.Found Stmt) Halt) (v : Stmt) (r : List Token) (l : ℕ) →
    IfOk result (λ f. (f.value ≡ v) × (f.rest.now ≡ r) × (f.left ≡ l)) → IfErr result (λ e. e ≡ halt_of.WantOfMemory) → m ≡ Found v r l → Gives result m
last_gives m (Ok f) v r l g w e = found_same m v f.value r f.rest.now l f.left e g.0 g.1 g.2
last_gives m (Err halt) v r l g w e = wants m halt w
