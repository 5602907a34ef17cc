-- Heads of members, as the code reads them.
use Rattle.std.proofs.Common.{◌≡◌, ◌==◌, ℕ, zero, suc, Bool, true, false, cond, List, [], ◌∷◌, length, map, Option, Some, None, refl, ap, ◌∙◌}
use Rattle.std.proofs.lemmas.Bool.{cond-true, cond-false}
use Rattle.jc_lexer.specs.declared.token.Key.TheVariants as key_of
use Rattle.jc_lexer.specs.declared.token.Sign.TheVariants as sign_of
use Rattle.jc_lexer.specs.declared.token.Token.{Token}
use Rattle.jc_reading.specs.Kinds.{key_code, kind_code, one_of, sign_code, word_code}
use Rattle.jc_reading.specs.Reading.{Read, Found, Stopped, Run, Either, This, That, an_ident_at, as_new, becoming, before_it, behind_it, each_behind, either, in_turn, joined, noting, of_kind, perhaps, ◌>>=◌}
use Rattle.jc_reading.specs.Further.{either_one, past, roomy_second, second_is, with_room}
use Rattle.jc_unit_laws.specs.MemberReading.{field_tail_run, paren_codes}
use Rattle.jc_unit_laws.specs.UnitReading.{semicolon_run}
use Rattle.jc_expr_laws.specs.ExprReading.{exprs}
use Rattle.jc_parse_type.specs.TypeReading.{class_run, dims_run}
use Rattle.jc_part_laws.specs.PartReading.{params_of_run, var_run}
use Rattle.jc_parse_parts.specs.Parts.{initial_run, or_no_initial}
use Rattle.jc_tree.specs.declared.expression.Init.{Init}
use Rattle.jc_tree.specs.declared.name.Ident.{Ident}
use Rattle.jc_tree.specs.declared.statement.Var.{Var}
use Rattle.jc_parse_nodes.specs.declared.heads.FieldsTail.{FieldsTail}
use Rattle.jc_parse_nodes.specs.declared.heads.NamedTail.{NamedTail}
use Rattle.jc_parse_nodes.specs.declared.heads.NamedTail.TheVariants as tail_of
use Rattle.jc_parse_nodes.specs.declared.heads.Signature.{Signature}
use Rattle.jc_parse_heads.specs.MemberCode.{code_head_run, ended_more_run, fields_run, fields_tail_made, generic_head, generic_head_run, named_tail_run, plain_head, plain_head_run, signature_run, tail_made, constructor_shape_run, generic_shape_run, method_shape_run, named_shape_run, typed_shape_run, void_shape_run}
use Rattle.jc_parse_heads.proofs.Joinings.{cut, either_this, either_that, first_made, first_read, noted_bind, noted_made, or_this, or_that, second_read, second_same}

module _ {A : Type 0} (m n : Run A) where
  one_same : (v : Read A) → becoming either_one (becoming {A = A} {B = Either A A} This v) ≡ v
  one_same (Found a r l) = refl
  one_same (Stopped l) = refl

  other_same : (v : Read A) → becoming either_one (becoming {A = A} {B = Either A A} That v) ≡ v
  other_same (Found a r l) = refl
  other_same (Stopped l) = refl

  abbrev Pick : ℕ → Run A
  Pick h = as_new either_one (roomy_second h word_code paren_codes m n)

  pick_low : (h : ℕ) (ts : List Token) → h ≡ 0 → Pick h ts ≡ m ts
  unfolding roomy_second
  pick_low zero ts e = one_same (m ts)
  pick_low (suc h) ts e = absurd (cc)

  pick_call : (h : ℕ) (ts : List Token) → (h ≡ 0 → ⊥) → second_is word_code paren_codes ts ≡ true → Pick h ts ≡ m ts
  unfolding roomy_second
  pick_call zero ts z e = absurd (z refl)
  pick_call (suc h) ts z e = ap (becoming either_one) (cond-true (second_is word_code paren_codes ts) (becoming This (m ts)) (past word_code ts (becoming That (n ts))) e) ∙ one_same (m ts)

  past_same : (ts : List Token) (v : Read A) → becoming either_one (past word_code ts (becoming {A = A} {B = Either A A} That v)) ≡ past word_code ts v
  past_same [] v = other_same v
  past_same (t ∷ ts) v = by_kind (kind_code t.kind == word_code) v
    where
      by_kind : (b : Bool) (v : Read A) → becoming either_one (cond b (noting (length ts) (becoming {A = A} {B = Either A A} That v)) (becoming That v)) ≡ cond b (noting (length ts) v) v
      by_kind true (Found a r l) = refl
      by_kind true (Stopped l) = refl
      by_kind false v = other_same v

  pick_other : (h : ℕ) (ts : List Token) → (h ≡ 0 → ⊥) → second_is word_code paren_codes ts ≡ false → Pick h ts ≡ past word_code ts (n ts)
  unfolding roomy_second
  pick_other zero ts z e = absurd (z refl)
  pick_other (suc h) ts z e = ap (becoming either_one) (cond-false (second_is word_code paren_codes ts) (becoming This (m ts)) (past word_code ts (becoming That (n ts))) e) ∙ past_same ts (n ts)

abbrev Void : List ℕ
Void = key_code key_of.Void ∷ []

module _ (h : ℕ) (ts : List Token) where
  pub generic_void : one_of Void ts ≡ true → generic_shape_run h ts ≡ void_shape_run h ts
  unfolding generic_shape_run
  generic_void e = or_this Void (void_shape_run h) (Pick (constructor_shape_run h) (method_shape_run h) h) ts e

  pub generic_low : one_of Void ts ≡ false → h ≡ 0 → generic_shape_run h ts ≡ constructor_shape_run h ts
  unfolding generic_shape_run
  generic_low e z = or_that Void (void_shape_run h) (Pick (constructor_shape_run h) (method_shape_run h) h) ts e ∙ pick_low (constructor_shape_run h) (method_shape_run h) h ts z

  pub generic_call : one_of Void ts ≡ false → (h ≡ 0 → ⊥) → second_is word_code paren_codes ts ≡ true → generic_shape_run h ts ≡ constructor_shape_run h ts
  unfolding generic_shape_run
  generic_call e z s = or_that Void (void_shape_run h) (Pick (constructor_shape_run h) (method_shape_run h) h) ts e ∙ pick_call (constructor_shape_run h) (method_shape_run h) h ts z s

  pub generic_method : one_of Void ts ≡ false → (h ≡ 0 → ⊥) → second_is word_code paren_codes ts ≡ false → generic_shape_run h ts ≡ past word_code ts (method_shape_run h ts)
  unfolding generic_shape_run
  generic_method e z s = or_that Void (void_shape_run h) (Pick (constructor_shape_run h) (method_shape_run h) h) ts e ∙ pick_other (constructor_shape_run h) (method_shape_run h) h ts z s

  pub named_void : one_of Void ts ≡ true → named_shape_run h ts ≡ void_shape_run h ts
  unfolding named_shape_run
  named_void e = or_this Void (void_shape_run h) (Pick (constructor_shape_run h) (typed_shape_run h) h) ts e

  pub named_low : one_of Void ts ≡ false → h ≡ 0 → named_shape_run h ts ≡ constructor_shape_run h ts
  unfolding named_shape_run
  named_low e z = or_that Void (void_shape_run h) (Pick (constructor_shape_run h) (typed_shape_run h) h) ts e ∙ pick_low (constructor_shape_run h) (typed_shape_run h) h ts z

  pub named_call : one_of Void ts ≡ false → (h ≡ 0 → ⊥) → second_is word_code paren_codes ts ≡ true → named_shape_run h ts ≡ constructor_shape_run h ts
  unfolding named_shape_run
  named_call e z s = or_that Void (void_shape_run h) (Pick (constructor_shape_run h) (typed_shape_run h) h) ts e ∙ pick_call (constructor_shape_run h) (typed_shape_run h) h ts z s

  pub named_typed : one_of Void ts ≡ false → (h ≡ 0 → ⊥) → second_is word_code paren_codes ts ≡ false → named_shape_run h ts ≡ past word_code ts (typed_shape_run h ts)
  unfolding named_shape_run
  named_typed e z s = or_that Void (void_shape_run h) (Pick (constructor_shape_run h) (typed_shape_run h) h) ts e ∙ pick_other (constructor_shape_run h) (typed_shape_run h) h ts z s

  abbrev Less : List ℕ
  Less = sign_code sign_of.Less ∷ []

  pub head_generic : one_of Less ts ≡ true → code_head_run h ts ≡ generic_head_run h ts
  unfolding code_head_run generic_head_run
  head_generic e = or_this Less (as_new generic_head (in_turn (params_of_run (class_run h)) (generic_shape_run h))) (as_new plain_head (named_shape_run h)) ts e

  pub head_plain : one_of Less ts ≡ false → code_head_run h ts ≡ plain_head_run h ts
  unfolding code_head_run plain_head_run
  head_plain e = or_that Less (as_new generic_head (in_turn (params_of_run (class_run h)) (generic_shape_run h))) (as_new plain_head (named_shape_run h)) ts e

-- a name, and what stands behind it

abbrev pub tail_method : Ident → Signature → NamedTail
tail_method name s = tail_of.Method (record { name = name; signature = s })

abbrev pub tail_fields : Ident → FieldsTail → NamedTail
tail_fields name t = tail_of.Fields name t

pub named_method : (h : ℕ) (ts q : List Token) (a : Ident) (l : ℕ) → an_ident_at ts ≡ Found a q l → one_of paren_codes q ≡ true → named_tail_run h ts ≡ noting l (becoming (tail_method a) (signature_run h q))
unfolding named_tail_run
named_method h ts q a l e o = cut tail_made an_ident_at (either paren_codes (signature_run h) (fields_run h)) ts q a l e ∙ ap (noting l) (either_this (λ b. tail_made (a, b)) paren_codes (signature_run h) (fields_run h) q o)

pub named_fields : (h : ℕ) (ts q : List Token) (a : Ident) (l : ℕ) → an_ident_at ts ≡ Found a q l → one_of paren_codes q ≡ false → named_tail_run h ts ≡ noting l (becoming (tail_fields a) (fields_run h q))
unfolding named_tail_run
named_fields h ts q a l e o = cut tail_made an_ident_at (either paren_codes (signature_run h) (fields_run h)) ts q a l e ∙ ap (noting l) (either_that (λ b. tail_made (a, b)) paren_codes (signature_run h) (fields_run h) q o)

-- what stands behind the name of a field

abbrev pub fields_node : ℕ → (Option Init × List Var) → FieldsTail
fields_node dims p = record { dims = dims; init = p.0; more = p.1 }

abbrev Commas : ℕ → Run (List (Unit {0} × Var))
Commas h = each_behind sign_of.Comma (var_run exprs h)

abbrev Given : ℕ → Run (Option (Unit {0} × Init))
Given h = perhaps (with_room h (in_turn (of_kind (sign_code sign_of.Assign)) (exprs.init h)))

abbrev commas_list : (List (Unit {0} × Var) × Unit {0}) → List Var
commas_list p = map behind_it p.0

given_same : (d : ℕ) (i : Option (Unit {0} × Init)) (m : List (Unit {0} × Var) × Unit {0}) → fields_tail_made (d, (i, m)) ≡ record { dims = d; init = or_no_initial i; more = commas_list m }
given_same d None m = refl
given_same d (Some p) m = refl

module _ (h : ℕ) where
  commas_end : (q : List Token) → as_new commas_list (in_turn (Commas h) semicolon_run) q ≡ ended_more_run h q
  unfolding ended_more_run
  commas_end q = first_made commas_list (map behind_it) before_it semicolon_run (λ a b. refl) (Commas h) q

  fields_read : (d : ℕ) (l : ℕ) (v : Read (Option (Unit {0} × Init))) → becoming (λ p. fields_tail_made (d, p)) (noting l v >>= (λ b r. becoming (joined b) (in_turn (Commas h) semicolon_run r))) ≡ becoming (fields_node d) (noting l (becoming or_no_initial v) >>= (λ b r. becoming (joined b) (ended_more_run h r)))
  fields_read d l v =
      let middle : (Option Init × (List (Unit {0} × Var) × Unit {0})) → FieldsTail = λ p. record { dims = d; init = p.0; more = commas_list p.1 } in
      first_read (λ p. fields_tail_made (d, p)) or_no_initial middle (in_turn (Commas h) semicolon_run) (given_same d) (noting l v)
      ∙ second_read middle commas_list (fields_node d) (λ a b. refl) (becoming or_no_initial (noting l v)) (in_turn (Commas h) semicolon_run)
      ∙ second_same (fields_node d) (becoming or_no_initial (noting l v)) (as_new commas_list (in_turn (Commas h) semicolon_run)) (ended_more_run h) commas_end
      ∙ ap (λ (w : Read (Option Init)). becoming (fields_node d) (w >>= (λ b r. becoming (joined b) (ended_more_run h r)))) (noted_made or_no_initial l v)

  pub fields_are : (ts q : List Token) (d : ℕ) (l : ℕ) → dims_run ts ≡ Found d q l → fields_run h ts ≡ becoming (fields_node d) (noting l (initial_run h q) >>= (λ b r. becoming (joined b) (ended_more_run h r)))
  unfolding fields_run field_tail_run
  fields_are ts q d l e =
      ap (λ (v : Read ℕ). becoming fields_tail_made (v >>= (λ a z. becoming (joined a) (in_turn (Given h) (in_turn (Commas h) semicolon_run) z)))) e
      ∙ noted_bind fields_tail_made d (in_turn (Commas h) semicolon_run) l (Given h q)
      ∙ fields_read d l (Given h q)
