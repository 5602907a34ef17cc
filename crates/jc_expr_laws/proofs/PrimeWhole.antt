-- Each primary is a first value with selectors behind it, and is read as it is to be.
use Rattle.std.proofs.Common.{◌≡◌, ℕ, zero, suc, ◌≤◌, Bool, true, false, List, [], ◌∷◌, map, refl, sym, ap, ◌∙◌, subst, ⊎_elim, ◌⊎◌, inl, inr, arith}
use Rattle.std.proofs.lemmas.Bool.{false≢true, and_parts, and_from, leb-true, le-leb}
use Rattle.std.specs.Prelude.{◌&&◌, nat_le}
use Rattle.jc_tree.specs.declared.expression.Creation.{Creation}
use Rattle.jc_tree.specs.declared.expression.Init.{Init}
use Rattle.jc_tree.specs.declared.expression.Operand.{Operand, Operand-F, out-Operand, map-Operand}
use Rattle.jc_tree.specs.declared.expression.ArrayInit.{ArrayInit}
use Rattle.jc_tree.specs.declared.expression.PrefixSign.{PrefixSign}
use Rattle.jc_tree.specs.declared.expression.PrefixSign.TheVariants as prefix_of
use Rattle.jc_tree.specs.declared.expression.BinaryOp.{BinaryOp}
use Rattle.jc_tree.specs.declared.expression.BinaryOp.TheVariants as binary_of
use Rattle.jc_tree.specs.declared.expression.Expr.{Expr, Expr-F, out-Expr, map-Expr}
use Rattle.jc_tree.specs.Heights.{expr_height}
use Rattle.jc_grammar.specs.Told.{Told}
use Rattle.jc_grammar.specs.Expressions.{expr_tokens}
use Rattle.jc_grammar.specs.Shapes.{Shape, CreationShape, OperandShape, stands, prime_level, post_level, expr_shape, expr_shape_step, creation_shape, operand_shape, operand_shape_step, is_init, is_array, chain_shape, prefix_level, binary_level}
use Rattle.jc_grammar.proofs.ShapesOfExpressions.{expr_shape-out, operand_shape-out}
use Rattle.jc_reading.specs.Reading.{Run, Either, This, That}
use Rattle.jc_reading.proofs.Forms.{Lawful}
use Rattle.jc_reading.proofs.Coded.{Coded, formed, made_laws}
use Rattle.jc_part_laws.proofs.ExprForms.{expr_tall}
use Rattle.jc_reading.proofs.Prefers.{preferred, preferred_laws}
use Rattle.jc_reading.specs.Growing.{grown}
use Rattle.jc_expr_laws.specs.PrimeReading.{Selector, selected}
use Rattle.jc_expr_laws.specs.StartReading.{which_grown, prime_run}
use Rattle.jc_expr_laws.proofs.PrimeSelectors.{sel_fits, prime_goes}
use Rattle.jc_expr_laws.proofs.PrimeStarts.{prime_fits, is_plain, plain_layer}
use Rattle.jc_expr_laws.proofs.PrimeSpecials.{is_special, special_layer}
use Rattle.jc_expr_laws.proofs.PrimeParts.{From, told_grown, fits_grown, selects, selects_fit, select_layer}
use Rattle.jc_expr_laws.proofs.PrimeForms.{plain_grown, special_grown, plain_grown_laws, special_grown_laws}
use Rattle.jc_expr_laws.proofs.PrimePrefers.{prefer_special}
use Rattle.jc_expr_laws.proofs.CreationRooms.{Below}

-- an expression by its outermost node
abbrev pub Layer : Type 0
Layer = Expr-F Creation Expr Init Operand ArrayInit

abbrev pub postfix_layer : Layer → Bool
postfix_layer (Expr-F.Postfix of_it op) = true
postfix_layer _ = false

low_prefix : (s : PrefixSign) → nat_le post_level (prefix_level s) ≡ false
low_prefix prefix_of.Plus = refl
low_prefix _ = refl

low_binary : (op : BinaryOp) → nat_le post_level (binary_level op) ≡ false
low_binary binary_of.OrElse = refl
low_binary _ = refl

low_operand : (o : Operand) (l : Operand-F Creation Expr Init Operand ArrayInit) → out-Operand o ≡ l → nat_le post_level (operand_shape o).level ≡ false
low_operand o (Operand-F.Binary op right) e = ap (λ (s : OperandShape). nat_le post_level s.level) (operand_shape-out o ∙ ap (λ (l : Operand-F Creation Expr Init Operand ArrayInit). operand_shape_step (map-Operand Creation Expr Init Operand ArrayInit CreationShape Shape Bool OperandShape Bool creation_shape expr_shape is_init operand_shape is_array l)) e) ∙ low_binary op
low_operand o (Operand-F.InstanceOf ty) e = ap (λ (s : OperandShape). nat_le post_level s.level) (operand_shape-out o ∙ ap (λ (l : Operand-F Creation Expr Init Operand ArrayInit). operand_shape_step (map-Operand Creation Expr Init Operand ArrayInit CreationShape Shape Bool OperandShape Bool creation_shape expr_shape is_init operand_shape is_array l)) e)

low_chain : (first : Expr) (rest : List Operand) → stands post_level (chain_shape (expr_shape first) (map operand_shape rest)) ≡ true → ⊥
low_chain first [] e = false≢true e
low_chain first (o ∷ rest) e = false≢true (sym (low_operand o (out-Operand o) refl) ∙ (and_parts _ (nat_le post_level (operand_shape o).level) e).1)

abbrev shape_of : Layer → Shape
shape_of l = expr_shape_step (map-Expr Creation Expr Init Operand ArrayInit CreationShape Shape Bool OperandShape Bool creation_shape expr_shape is_init operand_shape is_array l)

abbrev Kinds : Layer → Type 0
Kinds l = ((plain_layer l ≡ true) ⊎ (special_layer l ≡ true)) ⊎ ((select_layer l ≡ true) ⊎ (postfix_layer l ≡ true))

kinds : (l : Layer) → stands post_level (shape_of l) ≡ true → Kinds l
kinds (Expr-F.Assign target op value) e = absurd (false≢true (and_parts _ false e).1)
kinds (Expr-F.Conditional test then otherwise) e = absurd (false≢true (and_parts _ false e).1)
kinds (Expr-F.Chain first rest) e = absurd (low_chain first rest e)
kinds (Expr-F.Prefix first more operand) e = absurd (false≢true (sym (low_prefix first.sign) ∙ (and_parts _ (nat_le post_level (prefix_level first.sign)) e).1))
kinds (Expr-F.Cast at ty operand) e = absurd (false≢true (and_parts _ false e).1)
kinds (Expr-F.Postfix of_it op) e = inr (inr refl)
kinds (Expr-F.Field of_it name) e = inr (inl refl)
kinds (Expr-F.Call of_it args name list) e = inr (inl refl)
kinds (Expr-F.Index of_it index) e = inr (inl refl)
kinds (Expr-F.InnerNew of_it creation) e = inr (inl refl)
kinds (Expr-F.Literal at value) e = inl (inl refl)
kinds (Expr-F.This at) e = inl (inl refl)
kinds (Expr-F.SuperField at name) e = inl (inl refl)
kinds (Expr-F.SuperCall at args name list) e = inl (inl refl)
kinds (Expr-F.Paren at inner) e = inl (inl refl)
kinds (Expr-F.Name name) e = inl (inl refl)
kinds (Expr-F.Invoke name list) e = inl (inl refl)
kinds (Expr-F.New at creation) e = inl (inl refl)
kinds (Expr-F.ClassLiteral ty) e = inl (inr refl)
kinds (Expr-F.VoidLiteral at) e = inl (inl refl)
kinds (Expr-F.OuterThis first more) e = inl (inr refl)

pub kind_of_post : (e : Expr) → stands post_level (expr_shape e) ≡ true → Kinds (out-Expr e)
kind_of_post e g = kinds (out-Expr e) (ap (λ (s : Shape). stands post_level s) (sym (expr_shape-out e)) ∙ g)

no_postfix : (l : Layer) → stands prime_level (shape_of l) ≡ true → postfix_layer l ≡ true → ⊥
no_postfix (Expr-F.Postfix of_it op) e f = false≢true (and_parts _ false e).1
no_postfix _ e f = false≢true f

pub prime_is_post : (s : Shape) → stands prime_level s ≡ true → stands post_level s ≡ true
prime_is_post s e =
    let f = and_parts s.good (nat_le prime_level s.level) e in
    let n = leb-true prime_level s.level f.1 in
    and_from s.good (nat_le post_level s.level) f.0 (le-leb post_level s.level (omega (arith, n)))

kind_of_prime : (e : Expr) → stands prime_level (expr_shape e) ≡ true → ((is_plain e ≡ true) ⊎ (is_special e ≡ true)) ⊎ (select_layer (out-Expr e) ≡ true)
kind_of_prime e g =
    ⊎_elim (λ k. inl k)
    (λ k. ⊎_elim (λ s. inr s) (λ p. absurd (no_postfix (out-Expr e) (ap (λ (s : Shape). stands prime_level s) (sym (expr_shape-out e)) ∙ g) p)) k)
    (kind_of_post e (prime_is_post (expr_shape e) g))

either_prime : (l : Layer) → stands post_level (shape_of l) ≡ true → (stands prime_level (shape_of l) ≡ true) ⊎ (postfix_layer l ≡ true)
either_prime (Expr-F.Assign target op value) e = absurd (false≢true (and_parts _ false e).1)
either_prime (Expr-F.Conditional test then otherwise) e = absurd (false≢true (and_parts _ false e).1)
either_prime (Expr-F.Chain first rest) e = absurd (low_chain first rest e)
either_prime (Expr-F.Prefix first more operand) e = absurd (false≢true (sym (low_prefix first.sign) ∙ (and_parts _ (nat_le post_level (prefix_level first.sign)) e).1))
either_prime (Expr-F.Cast at ty operand) e = absurd (false≢true (and_parts _ false e).1)
either_prime (Expr-F.Postfix of_it op) e = inr refl
either_prime (Expr-F.Field of_it name) e = inl e
either_prime (Expr-F.Call of_it args name list) e = inl e
either_prime (Expr-F.Index of_it index) e = inl e
either_prime (Expr-F.InnerNew of_it creation) e = inl e
either_prime (Expr-F.Literal at value) e = inl e
either_prime (Expr-F.This at) e = inl e
either_prime (Expr-F.SuperField at name) e = inl e
either_prime (Expr-F.SuperCall at args name list) e = inl e
either_prime (Expr-F.Paren at inner) e = inl e
either_prime (Expr-F.Name name) e = inl e
either_prime (Expr-F.Invoke name list) e = inl e
either_prime (Expr-F.New at creation) e = inl e
either_prime (Expr-F.ClassLiteral ty) e = inl e
either_prime (Expr-F.VoidLiteral at) e = inl e
either_prime (Expr-F.OuterThis first more) e = inl e

pub prime_of_kind : (e : Expr) → stands post_level (expr_shape e) ≡ true → (stands prime_level (expr_shape e) ≡ true) ⊎ (postfix_layer (out-Expr e) ≡ true)
prime_of_kind e g =
    ⊎_elim (λ k. inl (ap (λ (s : Shape). stands prime_level s) (expr_shape-out e) ∙ k)) (λ k. inr k)
    (either_prime (out-Expr e) (ap (λ (s : Shape). stands post_level s) (sym (expr_shape-out e)) ∙ g))

module _ (h : ℕ) (expr : Run Expr) (array : Run ArrayInit) (below : Below h expr array) where
  record Unwound (e : Expr) (acc : List Selector) : Type 0 where
    start : Expr
    list : List Selector
    same : grown selected start list ≡ grown selected e acc
    kind : (is_plain start ≡ true) ⊎ (is_special start ≡ true)
    fits : prime_fits h start ≡ true
    rest : From h expr array below start list ≡ true

  unwind : (n : ℕ) (e : Expr) (acc : List Selector) → expr_height e ≤ n → prime_fits h e ≡ true → From h expr array below e acc ≡ true → Unwound e acc
  unwind zero e acc le f g = absurd (false≢true (sym (expr_tall e) ∙ le-leb (expr_height e) 0 le))
  unwind (suc n) e acc le f g =
      ⊎_elim
      (λ k. record { start = e; list = acc; same = refl; kind = k; fits = f; rest = g })
      (λ k.
      let s = selects h expr array below e (out-Expr e) refl k in
      let w = selects_fit h expr array below e s f in
      let t = and_from (sel_fits h expr array below s.of_it s.by_it) (From h expr array below (selected s.of_it s.by_it) acc) w.1 (subst (λ (d : Expr). From h expr array below d acc ≡ true) (sym s.same) g) in
      let u = unwind n s.of_it (s.by_it ∷ acc) (omega (arith, s.lower, le)) w.0 t in
      record { start = u.start; list = u.list; same = u.same ∙ ap (λ (d : Expr). grown selected d acc) s.same; kind = u.kind; fits = u.fits; rest = u.rest })
      (kind_of_prime e (and_parts (nat_le (expr_height e) (suc h)) (stands prime_level (expr_shape e)) f).1)

  abbrev Primes : Coded (Either (Expr × List Selector) (Expr × List Selector))
  Primes = preferred (Expr × List Selector) (Expr × List Selector) prime_goes (special_grown h expr array below) (plain_grown h expr array below)

  primes_laws : Lawful (Either (Expr × List Selector) (Expr × List Selector)) (formed Primes)
  primes_laws = preferred_laws (Expr × List Selector) (Expr × List Selector) prime_goes (special_grown h expr array below) (plain_grown h expr array below) (special_grown_laws h expr array below) (plain_grown_laws h expr array below) (prefer_special h expr array below)

  -- a primary of height at most one more than h
  abbrev pub prime_coded : Coded Expr
  prime_coded = record { tell = expr_tokens; fits = prime_fits h; run = prime_run h expr array; starts = Primes.starts; goes = prime_goes; empties = false }

  told_prime : (o : Either (Expr × List Selector) (Expr × List Selector)) (r : List Told) → Primes.fits o ≡ true → expr_tokens (which_grown o) r ≡ Primes.tell o r
  told_prime (This g) r e = told_grown h expr array below g.0 g.1 r (and_parts (is_special g.0 && prime_fits h g.0) (From h expr array below g.0 g.1) e).1
  told_prime (That g) r e = told_grown h expr array below g.0 g.1 r (and_parts (is_plain g.0 && prime_fits h g.0) (From h expr array below g.0 g.1) e).1

  forth_prime : (o : Either (Expr × List Selector) (Expr × List Selector)) → Primes.fits o ≡ true → prime_fits h (which_grown o) ≡ true
  forth_prime (This g) e =
      let f = and_parts (is_special g.0 && prime_fits h g.0) (From h expr array below g.0 g.1) e in
      fits_grown h expr array below g.0 g.1 (and_parts (is_special g.0) (prime_fits h g.0) f.0).1 f.1
  forth_prime (That g) e =
      let f = and_parts (is_plain g.0 && prime_fits h g.0) (From h expr array below g.0 g.1) e in
      fits_grown h expr array below g.0 g.1 (and_parts (is_plain g.0) (prime_fits h g.0) f.0).1 f.1

  of_unwound : (e : Expr) → Unwound e [] → (o : Either (Expr × List Selector) (Expr × List Selector)) × (which_grown o ≡ e) × (Primes.fits o ≡ true)
  of_unwound e u =
      ⊎_elim
      (λ k. (That (u.start, u.list), u.same, and_from (is_plain u.start && prime_fits h u.start) (From h expr array below u.start u.list) (and_from (is_plain u.start) (prime_fits h u.start) k u.fits) u.rest))
      (λ k. (This (u.start, u.list), u.same, and_from (is_special u.start && prime_fits h u.start) (From h expr array below u.start u.list) (and_from (is_special u.start) (prime_fits h u.start) k u.fits) u.rest))
      u.kind

  pub prime_laws : Lawful Expr (formed prime_coded)
  unfolding prime_run
  prime_laws =
      made_laws (Either (Expr × List Selector) (Expr × List Selector)) Expr Primes which_grown expr_tokens (prime_fits h) primes_laws
      (record { told = told_prime; forth = forth_prime; back = λ e g. of_unwound e (unwind (expr_height e) e [] (omega arith) g refl) })
