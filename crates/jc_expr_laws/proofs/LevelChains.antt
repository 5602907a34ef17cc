-- One binary level: its first operand is of the next level, and behind it stand operators with operands.
use Rattle.std.proofs.Common.{◌≡◌, ℕ, suc, ◌+◌, ◌≤◌, max, Bool, true, false, List, [], ◌∷◌, ◌++◌, map, length, refl, sym, ap, ◌∙◌, subst, ⊎_elim, arith}
use Rattle.std.proofs.lemmas.Bool.{false≢true, and_parts, and_from, or_from, or_left, or_right, or_cases, cases_Bool, leb-true, le-leb, eqb-true}
use Rattle.std.specs.Prelude.{◌&&◌, ◌||◌, nat_le, not, ◌==◌}
use Rattle.std.specs.List.{list_all}
use Rattle.jc_lexer.specs.declared.token.Token.{Token}
use Rattle.jc_tree.specs.declared.expression.BinaryOp.{BinaryOp}
use Rattle.jc_tree.specs.declared.expression.Expr.{Expr}
use Rattle.jc_tree.specs.declared.expression.Expr.TheVariants as expr_of
use Rattle.jc_tree.specs.declared.expression.Operand.{Operand}
use Rattle.jc_tree.specs.Heights.{most, expr_height, operand_height}
use Rattle.jc_tree.proofs.HeightsOfExpressions.{expr_height-Chain}
use Rattle.jc_grammar.specs.Told.{Told, each}
use Rattle.jc_grammar.specs.Expressions.{expr_tokens, operand_tokens, binary_tokens}
use Rattle.jc_grammar.specs.Shapes.{Shape, OperandShape, stands, of_level, longest_types, expr_shape, operand_shape, chain_shape, is_none}
use Rattle.jc_grammar.proofs.FramedExpressions.{expr_frames}
use Rattle.jc_grammar.proofs.ShapesOfExpressions.{expr_shape-Chain}
use Rattle.jc_grammar.proofs.Stands.{stands_looser}
use Rattle.jc_grammar.proofs.TokensOfExpressions.{expr_tokens-Chain, operand_tokens-Binary}
use Rattle.jc_reading.specs.Kinds.{one_of}
use Rattle.jc_reading.specs.Reading.{Run, Takes}
use Rattle.jc_reading.proofs.Steps.{Plain, takes_cut}
use Rattle.jc_reading.proofs.Forms.{Form, Lawful, Stands}
use Rattle.jc_reading.proofs.Lists.{many, many_laws}
use Rattle.jc_reading.proofs.Alikes.{alike_laws}
use Rattle.jc_reading.proofs.Rooms.{room_suc, room_max}
use Rattle.jc_reading.proofs.Signs.{none_common, apart_sets}
use Rattle.jc_reading.specs.Kinds.{front_code}
use Rattle.jc_reading.proofs.Coded.{formed}
use Rattle.jc_part_laws.proofs.ExprForms.{expr_codes}
use Rattle.jc_expr_laws.specs.LevelReading.{is_tall, operand_made, chain_made, chain_run}
use Rattle.jc_expr_laws.proofs.LevelTests.{acts, clashes, acts_apart, leads, acts_out, acts_first, acts_second}
use Rattle.jc_reading.proofs.FollowedBy.{followed_form, followed_laws}
use Rattle.jc_expr_laws.proofs.LevelActs.{acting, acting_laws}
use Rattle.jc_expr_laws.proofs.LevelSpelled.{respelled, respelled_laws}
use Rattle.jc_expr_laws.proofs.LevelOps.{op_coded, HasAll, op_acts}
use Rattle.jc_expr_laws.proofs.LevelFlat.{Flat, flat_forth, flat_back, flat_tail, real_tail}
use Rattle.jc_expr_laws.proofs.LevelShapes.{IsChain, chain_only, exactly, operands_fit, operands_made, OfOperands, operands_back}

-- a token of one kind, or an operator before what begins an operand
abbrev pub may_go : List ℕ → List (List ℕ) → List Token → Bool
may_go codes ops ts = one_of codes ts || acts ops ts

-- the expressions of a level and of at most a height
abbrev pub at_level : ℕ → ℕ → Run Expr → List ℕ → List (List ℕ) → Form Expr
at_level level h run codes ops = record { tell = expr_tokens; fits = λ e. nat_le (expr_height e) h && stands level (expr_shape e); run = run; starts = one_of expr_codes; goes_on = may_go codes ops; empties = false }

pub plain_front : (x y : List Told) → (x ≡ [] → ⊥) → Plain x → Plain (x ++ y)
plain_front [] y b p = absurd (b refl)
plain_front (d ∷ x) y b p = p

tokens_made : (list : List (BinaryOp × Expr)) (r : List Told) → each (map operand_tokens (map operand_made list)) r ≡ real_tail list r
tokens_made [] r = refl
tokens_made (q ∷ list) r = operand_tokens-Binary q.0 q.1 (each (map operand_tokens (map operand_made list)) r) ∙ ap (λ (l : List Told). binary_tokens q.0 (expr_tokens q.1 l)) (tokens_made list r)

pub chain_tokens : (p : Expr × List (BinaryOp × Expr)) (r : List Told) → expr_tokens (chain_made p) r ≡ expr_tokens p.0 (real_tail p.1 r)
chain_tokens (first, []) r = refl
chain_tokens (first, q ∷ more) r = expr_tokens-Chain first (map operand_made (q ∷ more)) r ∙ ap (expr_tokens first) (tokens_made (q ∷ more) r)

module _ (level h : ℕ) where
  -- a first operand with what may stand behind it
  abbrev pub fit_chain : Expr × List (BinaryOp × Expr) → Bool
  fit_chain p = (nat_le (expr_height p.0) (suc h) && stands (level + 1) (expr_shape p.0)) && (operands_fit level h p.1 && (is_none p.1 || not (is_tall h p.0)))

  not_not : (b : Bool) → not (not b) ≡ true → b ≡ true
  not_not true e = refl
  not_not false e = absurd (false≢true e)

  high_chain : (first : Expr) (rest : List Operand) → nat_le (expr_height (expr_of.Chain first rest)) (suc h) ≡ (nat_le (expr_height first) h && nat_le (most (map operand_height rest)) h)
  high_chain first rest = ap (λ (n : ℕ). nat_le n (suc h)) (expr_height-Chain first rest) ∙ room_suc (max (expr_height first) (most (map operand_height rest))) h ∙ room_max (expr_height first) (most (map operand_height rest)) h

  pub fits_forth : (p : Expr × List (BinaryOp × Expr)) → fit_chain p ≡ true → (nat_le (expr_height (chain_made p)) (suc h) && stands level (expr_shape (chain_made p))) ≡ true
  fits_forth (first, []) g =
      let a = and_parts (nat_le (expr_height first) (suc h) && stands (level + 1) (expr_shape first)) (true && true) g in
      let b = and_parts (nat_le (expr_height first) (suc h)) (stands (level + 1) (expr_shape first)) a.0 in
      and_from (nat_le (expr_height first) (suc h)) (stands level (expr_shape first)) b.0 (stands_looser level (level + 1) (expr_shape first) (omega arith) b.1)
  fits_forth (first, q ∷ more) g =
      let rest = map operand_made (q ∷ more) in
      let a = and_parts (nat_le (expr_height first) (suc h) && stands (level + 1) (expr_shape first)) (operands_fit level h (q ∷ more) && (false || not (is_tall h first))) g in
      let b = and_parts (nat_le (expr_height first) (suc h)) (stands (level + 1) (expr_shape first)) a.0 in
      let c = and_parts (operands_fit level h (q ∷ more)) (false || not (is_tall h first)) a.1 in
      let all = operands_made level h (q ∷ more) c.0 in
      and_from (nat_le (expr_height (expr_of.Chain first rest)) (suc h)) (stands level (expr_shape (expr_of.Chain first rest)))
      (high_chain first rest ∙ and_from (nat_le (expr_height first) h) (nat_le (most (map operand_height rest)) h) (not_not (nat_le (expr_height first) h) c.1) all.heights)
      (subst (λ (z : Shape). stands level z ≡ true) (sym (expr_shape-Chain first rest)) (shape_made (operand_shape (operand_made q)) (map operand_shape (map operand_made more)) (expr_shape first) b.1 all.shapes (and_parts (not (false && (operand_shape (operand_made q)).less)) (longest_types (operand_shape (operand_made q)) (map operand_shape (map operand_made more))) (all.longest (record { level = 0; good = true; bare = false; less = false }) refl)).1))
    where
      shape_made : (o : OperandShape) (os : List OperandShape) (s : Shape) → stands (level + 1) s ≡ true → list_all (of_level level) (o ∷ os) ≡ true → longest_types o os ≡ true → stands level (chain_shape s (o ∷ os)) ≡ true
      shape_made o os s f all long = shape_at o.level (sym (eqb-true o.level level (and_parts o.good (o.level == level) (and_parts (of_level level o) (list_all (of_level level) os) all).0).1))
        where
          shape_at : (n : ℕ) → level ≡ n → (((stands (n + 1) s && list_all (of_level n) (o ∷ os)) && longest_types o os) && nat_le level n) ≡ true
          shape_at n e =
              subst (λ (k : ℕ). (((stands (k + 1) s && list_all (of_level k) (o ∷ os)) && longest_types o os) && nat_le level k) ≡ true) e
              (and_from ((stands (level + 1) s && list_all (of_level level) (o ∷ os)) && longest_types o os) (nat_le level level)
              (and_from (stands (level + 1) s && list_all (of_level level) (o ∷ os)) (longest_types o os) (and_from (stands (level + 1) s) (list_all (of_level level) (o ∷ os)) f all) long)
              (le-leb level level (omega arith)))

  pub record OfChain (e : Expr) : Type 0 where
    pub value : Expr × List (BinaryOp × Expr)
    pub is_it : chain_made value ≡ e
    pub fit : fit_chain value ≡ true

  module _ (lo : 2 ≤ level) (hi : level ≤ 11) (other : (8 == level) ≡ false) where
    chain_back : (first : Expr) (rest : List Operand) → (nat_le (expr_height (expr_of.Chain first rest)) (suc h) && stands level (expr_shape (expr_of.Chain first rest))) ≡ true → (expr_shape (expr_of.Chain first rest)).level ≡ level → OfChain (expr_of.Chain first rest)
    chain_back first [] g n = let k : 0 ≡ level = sym (ap (λ (s : Shape). s.level) (expr_shape-Chain first [])) ∙ n in absurd (omega (arith, k, lo))
    chain_back first (o ∷ rest) g n =
        let a = and_parts (nat_le (expr_height (expr_of.Chain first (o ∷ rest))) (suc h)) (stands level (expr_shape (expr_of.Chain first (o ∷ rest)))) g in
        let high = and_parts (nat_le (expr_height first) h) (nat_le (most (map operand_height (o ∷ rest))) h) (sym (high_chain first (o ∷ rest)) ∙ a.0) in
        let k : (operand_shape o).level ≡ level = sym (ap (λ (s : Shape). s.level) (expr_shape-Chain first (o ∷ rest))) ∙ n in
        let s : stands level (chain_shape (expr_shape first) (map operand_shape (o ∷ rest))) ≡ true = subst (λ (z : Shape). stands level z ≡ true) (expr_shape-Chain first (o ∷ rest)) a.1 in
        with_shape (operand_shape o).level k s high.0 high.1
      where
        with_list : OfOperands level h (o ∷ rest) → nat_le (expr_height first) h ≡ true → stands (level + 1) (expr_shape first) ≡ true → OfChain (expr_of.Chain first (o ∷ rest))
        with_list w hf sf = at_list w.list w.are w.fit
          where
            up : nat_le (expr_height first) (suc h) ≡ true
            up = let j : expr_height first ≤ h = leb-true (expr_height first) h hf in le-leb (expr_height first) (suc h) (omega (arith, j))

            at_list : (list : List (BinaryOp × Expr)) → map operand_made list ≡ (o ∷ rest) → operands_fit level h list ≡ true → OfChain (expr_of.Chain first (o ∷ rest))
            at_list [] are fit = absurd (no_list are)
              where
                no_list : [] ≡ (o ∷ rest) → ⊥
                no_list e = let l : 0 ≡ suc (length rest) = ap length e in omega (arith, l)
            at_list (q ∷ list) are fit = record {
              value = (first, q ∷ list);
              is_it = ap (λ (l : List Operand). expr_of.Chain first l) are;
              fit = and_from (nat_le (expr_height first) (suc h) && stands (level + 1) (expr_shape first)) (operands_fit level h (q ∷ list) && (false || not (is_tall h first)))
                  (and_from (nat_le (expr_height first) (suc h)) (stands (level + 1) (expr_shape first)) up sf)
                  (and_from (operands_fit level h (q ∷ list)) (false || not (is_tall h first)) fit (ap (λ (b : Bool). not (not b)) hf));
            }

        with_shape : (n : ℕ) → n ≡ level → (((stands (n + 1) (expr_shape first) && list_all (of_level n) (map operand_shape (o ∷ rest))) && longest_types (operand_shape o) (map operand_shape rest)) && nat_le level n) ≡ true → nat_le (expr_height first) h ≡ true → nat_le (most (map operand_height (o ∷ rest))) h ≡ true → OfChain (expr_of.Chain first (o ∷ rest))
        with_shape n e s hf hr =
            let p = and_parts ((stands (n + 1) (expr_shape first) && list_all (of_level n) (map operand_shape (o ∷ rest))) && longest_types (operand_shape o) (map operand_shape rest)) (nat_le level n) s in
            let q = and_parts (stands (n + 1) (expr_shape first) && list_all (of_level n) (map operand_shape (o ∷ rest))) (longest_types (operand_shape o) (map operand_shape rest)) p.0 in
            let t = and_parts (stands (n + 1) (expr_shape first)) (list_all (of_level n) (map operand_shape (o ∷ rest))) q.0 in
            with_list (operands_back level h other (o ∷ rest) (subst (λ (k : ℕ). list_all (of_level k) (map operand_shape (o ∷ rest)) ≡ true) e t.1) hr) hf (subst (λ (k : ℕ). stands (k + 1) (expr_shape first) ≡ true) e t.0)

    pub fits_back : (e : Expr) → (nat_le (expr_height e) (suc h) && stands level (expr_shape e)) ≡ true → OfChain e
    fits_back e g =
        let a = and_parts (nat_le (expr_height e) (suc h)) (stands level (expr_shape e)) g in
        ⊎_elim
        (λ (t : stands (level + 1) (expr_shape e) ≡ true). record {
          value = (e, []);
          is_it = refl;
          fit = and_from (nat_le (expr_height e) (suc h) && stands (level + 1) (expr_shape e)) (true && true) (and_from (nat_le (expr_height e) (suc h)) (stands (level + 1) (expr_shape e)) a.0 t) refl;
        })
        (λ (f : stands (level + 1) (expr_shape e) ≡ false). let n = exactly level (expr_shape e) a.1 f in of_chain e g n (chain_only level lo hi e n))
        (cases_Bool (stands (level + 1) (expr_shape e)))
      where
        of_chain : (e : Expr) → (nat_le (expr_height e) (suc h) && stands level (expr_shape e)) ≡ true → (expr_shape e).level ≡ level → IsChain e → OfChain e
        of_chain e g n c =
            subst (λ (x : Expr). OfChain x) c.is_it
            (chain_back c.first c.rest (subst (λ (x : Expr). (nat_le (expr_height x) (suc h) && stands level (expr_shape x)) ≡ true) (sym c.is_it) g) (ap (λ (x : Expr). (expr_shape x).level) c.is_it ∙ n))

-- what the operators of a level are like
pub record Ranked (level : ℕ) (op : Run BinaryOp) (ops : List (List ℕ)) : Type 0 where
  pub lo : 2 ≤ level
  pub hi : level ≤ 11
  pub other : (8 == level) ≡ false
  pub starts : List ℕ
  pub goes : List ℕ
  pub laws : Lawful BinaryOp (formed (op_coded level op starts goes))
  pub all : HasAll level ops
  pub met : none_common expr_codes goes ≡ true

-- told flat, the tokens are the same
abbrev pub Tells : ℕ → ℕ → Type 0
Tells level h = (p : Expr × List (BinaryOp × Expr)) → fit_chain level h p ≡ true → Flat false (expr_tokens p.0 (flat_tail p.1 [])) (expr_tokens p.0 (real_tail p.1 []))

module _ (level k : ℕ) (op : Run BinaryOp) (ops : List (List ℕ)) (rank : Ranked level op ops) (tells : Tells level (suc k)) (first next : Run Expr) (codes : List ℕ) (tighter : List (List ℕ)) where
  abbrev First : Form Expr
  First = at_level (level + 1) (suc (suc k)) first codes tighter

  abbrev Next : Form Expr
  Next = at_level (level + 1) (suc k) next codes tighter

  abbrev Op : Form BinaryOp
  Op = formed (op_coded level op rank.starts rank.goes)

  abbrev Act : Form (BinaryOp × Expr)
  Act = acting BinaryOp Expr ops Op Next

  abbrev Tail : Form (List (BinaryOp × Expr))
  Tail = many (BinaryOp × Expr) Act

  abbrev Flats : Form (Expr × List (BinaryOp × Expr))
  Flats = followed_form Expr (List (BinaryOp × Expr)) (is_tall (suc k)) [] is_none First Tail

  abbrev real : Expr × List (BinaryOp × Expr) → List Told → List Told
  real p r = expr_tokens (chain_made p) r

  abbrev Reals : Form (Expr × List (BinaryOp × Expr))
  Reals = respelled (Expr × List (BinaryOp × Expr)) Flats real

  pub record Parts : Type 0 where
    pub first_laws : Lawful Expr First
    pub next_laws : Lawful Expr Next
    pub out : none_common (leads ops) codes ≡ true
    pub clash : clashes ops tighter ≡ true

  module _ (d : Parts) where
    stops : (ts : List Token) → acts ops ts ≡ true → may_go codes tighter ts ≡ false
    stops ts e = or_from (one_of codes ts) (acts tighter ts) (acts_out ops codes ts d.out e) (acts_apart ops tighter ts d.clash e)

    act_laws : Lawful (BinaryOp × Expr) Act
    act_laws = acting_laws BinaryOp Expr ops Op Next rank.laws d.next_laws (record {
      solid = refl;
      solid' = refl;
      operand = λ ts e. e;
      meet = λ ts e. apart_sets expr_codes rank.goes rank.met (front_code ts) e;
      seen = λ ts o m s e. op_acts ops o ts m (rank.all o s.1) s.0 e;
    })

    tail_laws : Lawful (List (BinaryOp × Expr)) Tail
    tail_laws = many_laws (BinaryOp × Expr) Act act_laws (record { solid = refl; next = stops })

    some_tail : (ts : List Token) (list : List (BinaryOp × Expr)) (r : List Token) → Stands Tail ts list r → is_none list ≡ false → acts ops ts ≡ true
    some_tail ts [] r s n = absurd (false≢true (sym n))
    some_tail ts (q ∷ list) r s n =
        let f = and_parts (Act.fits q) (Tail.fits list) s.1 in
        let e = subst (λ (l : List Told). Takes false l ts r) (act_laws.appends q (Tail.tell list []) f.0) s.0 in
        let w = takes_cut false (Act.tell q []) (Tail.tell list []) ts r e in
        ⊎_elim (λ o. o.0) (λ o. absurd (false≢true o.1)) (act_laws.opens ts q w.0 (w.1, f.0))

    only_none : (list : List (BinaryOp × Expr)) → is_none list ≡ true → [] ≡ list
    only_none [] e = refl
    only_none (q ∷ list) e = absurd (false≢true e)

    flat_laws : Lawful (Expr × List (BinaryOp × Expr)) Flats
    flat_laws = followed_laws Expr (List (BinaryOp × Expr)) (is_tall (suc k)) [] is_none First Tail d.first_laws tail_laws (record {
      solid = refl;
      free = refl;
      bare = λ r. refl;
      none_fits = refl;
      none_is = refl;
      only = only_none;
      some = some_tail;
      whole = λ ts e r s c t. d.first_laws.exact ts e r s (stops r t);
    })

    not_empty : (e : Expr) → First.fits e ≡ true → expr_tokens e [] ≡ [] → ⊥
    not_empty e g n =
        ⊎_elim (λ o. omega (arith, o.1)) (λ o. false≢true o.1) (d.first_laws.opens [] e [] (subst (λ (l : List Told). Takes false l [] []) (sym n) refl, g))

    real_laws : Lawful (Expr × List (BinaryOp × Expr)) Reals
    real_laws = respelled_laws (Expr × List (BinaryOp × Expr)) Flats real flat_laws (record {
      appends = λ p r g. (expr_frames (chain_made p)).at [] r;
      plain = λ p g. subst (λ (l : List Told). Plain l) (sym (chain_tokens p [] ∙ (expr_frames p.0).at [] (real_tail p.1 [])))
          (plain_front (expr_tokens p.0 []) (real_tail p.1 []) (not_empty p.0 (and_parts (First.fits p.0) _ g).0) (d.first_laws.plain p.0 (and_parts (First.fits p.0) _ g).0));
      forth = λ p ts r g s. subst (λ (l : List Told). Takes false l ts r) (sym (chain_tokens p [])) (flat_forth false false (expr_tokens p.0 (flat_tail p.1 [])) (expr_tokens p.0 (real_tail p.1 [])) ts r (λ e. e) (tells p g) s);
      back = λ p ts r g s. flat_back false false (expr_tokens p.0 (flat_tail p.1 [])) (expr_tokens p.0 (real_tail p.1 [])) ts r (tells p g) (subst (λ (l : List Told). Takes false l ts r) (chain_tokens p []) s);
    })

    goes_of : (ts : List Token) → ((acts ops ts || may_go codes tighter ts) || may_go codes tighter ts) ≡ true → may_go codes (ops ++ tighter) ts ≡ true
    goes_of ts e =
        ⊎_elim
        (λ (t : (acts ops ts || may_go codes tighter ts) ≡ true). ⊎_elim (λ (a : acts ops ts ≡ true). or_right (one_of codes ts) (acts (ops ++ tighter) ts) (acts_first ops tighter ts a)) (further ts) (or_cases (acts ops ts) (may_go codes tighter ts) t))
        (further ts) (or_cases (acts ops ts || may_go codes tighter ts) (may_go codes tighter ts) e)
      where
        further : (ts : List Token) → may_go codes tighter ts ≡ true → may_go codes (ops ++ tighter) ts ≡ true
        further ts t = ⊎_elim (λ (a : one_of codes ts ≡ true). or_left (one_of codes ts) (acts (ops ++ tighter) ts) a) (λ (a : acts tighter ts ≡ true). or_right (one_of codes ts) (acts (ops ++ tighter) ts) (acts_second ops tighter ts a)) (or_cases (one_of codes ts) (acts tighter ts) t)

    pub chain_laws : Lawful Expr (at_level level (suc (suc k)) (chain_run (suc k) op first next) codes (ops ++ tighter))
    unfolding chain_run
    chain_laws = alike_laws (Expr × List (BinaryOp × Expr)) Expr Reals chain_made expr_tokens (λ e. nat_le (expr_height e) (suc (suc k)) && stands level (expr_shape e)) (one_of expr_codes) (may_go codes (ops ++ tighter)) real_laws
        (record {
          told = λ p r g. refl;
          forth = fits_forth level (suc k);
          back = λ e g. let w = fits_back level (suc k) rank.lo rank.hi rank.other e g in (w.value, w.is_it, w.fit);
          starts_too = λ ts e. e;
          goes_too = goes_of;
        })
