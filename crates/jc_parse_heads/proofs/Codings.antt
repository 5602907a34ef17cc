-- Members are read as their heads and what stands behind those.
use Rattle.std.proofs.Common.{◌≡◌, ◌==◌, ℕ, zero, suc, min, Bool, true, false, cond, List, [], ◌∷◌, length, Option, Some, None, refl, sym, ap, ◌∙◌, arith}
use Rattle.jc_lexer.specs.declared.token.Key.TheVariants as key_of
use Rattle.jc_lexer.specs.declared.token.Sign.TheVariants as sign_of
use Rattle.jc_lexer.specs.declared.token.Token.{Token}
use Rattle.jc_tree.specs.declared.name.Ident.{Ident}
use Rattle.jc_tree.specs.declared.types.ClassTree.{ClassTree}
use Rattle.jc_tree.specs.declared.types.TypeTree.{TypeTree}
use Rattle.jc_tree.specs.declared.statement.Formal.{Formal}
use Rattle.jc_tree.specs.declared.statement.Member.{Member}
use Rattle.jc_tree.specs.declared.statement.MethodHead.{MethodHead}
use Rattle.jc_tree.specs.declared.statement.Modifier.{Modifier}
use Rattle.jc_tree.specs.declared.statement.ResultType.{ResultType}
use Rattle.jc_tree.specs.declared.statement.ResultType.TheVariants as result_of
use Rattle.jc_tree.specs.declared.statement.TypeParams.{TypeParams}
use Rattle.jc_reading.specs.Kinds.{key_code, kind_code, one_of, sign_code, word_code}
use Rattle.jc_reading.specs.Reading.{Read, Found, Stopped, Run, Either, This, That, an_ident_at, as_new, at_kind, becoming, either, in_turn, joined, noting, ◌>>=◌}
use Rattle.jc_reading.specs.Further.{either_one, past, roomy_second, second_is}
use Rattle.jc_parse_type.specs.TypeReading.{class_run, type_run}
use Rattle.jc_part_laws.specs.PartReading.{formal_run, formals_run, keyed_run, params_of_run}
use Rattle.jc_expr_laws.specs.ExprReading.{exprs}
use Rattle.jc_unit_laws.specs.UnitReading.{or_others}
use Rattle.jc_unit_laws.specs.MemberReading.{Constructor, ConstructorTail, FieldTail, GenericRest, MethodTail, NamedRest, VoidMethod, constructor_made, constructor_run, field_tail_run, fields_made, generic_run, levels, member_made, method_head, method_made, method_tail_run, named_run, paren_codes, void_method_run}
use Rattle.jc_parse_heads.specs.MemberCode.{ConstructorEnd, MethodEnd, code_head_run, constructor_end, constructor_end_run, constructor_shape_run, fields_run, fields_tail_made, finish, generic_head, generic_shape_run, method_end, method_end_run, method_shape, method_shape_run, named_shape_run, named_signature_run, named_tail_run, plain_head, signature_made, signature_run, tail_made, typed_shape_run, void_shape, void_shape_run}
use Rattle.jc_parse_nodes.specs.Nodes.{typed_shape, with_head, with_shape}
use Rattle.jc_parse_heads.specs.UnitCode.{coded_member_run}
use Rattle.jc_parse_nodes.specs.declared.heads.MemberHead.{MemberHead}
use Rattle.jc_parse_nodes.specs.declared.heads.MemberHead.TheVariants as head_of
use Rattle.jc_parse_nodes.specs.declared.heads.FieldsTail.{FieldsTail}
use Rattle.jc_parse_nodes.specs.declared.heads.Named.{Named}
use Rattle.jc_parse_nodes.specs.declared.heads.Shape.{Shape}
use Rattle.jc_parse_nodes.specs.declared.heads.Shape.TheVariants as shape_is
use Rattle.jc_parse_nodes.specs.declared.heads.Signature.{Signature}
use Rattle.jc_parse_expr.proofs.PairSteps.{remade}

-- a name and a signature
abbrev signed : (Ident × Signature) → Named
signed p = record { name = p.0; signature = p.1 }

becoming_same : {A B : Type 0} (f g : A → B) (m : Read A) → ((a : A) → f a ≡ g a) → becoming f m ≡ becoming g m
becoming_same f g (Found a r l) e = ap (λ b. Found b r l) (e a)
becoming_same f g (Stopped l) e = refl

noted_joined : {A B C : Type 0} (make : (A × B) → C) (l : ℕ) (a : A) (v : Read B) → becoming make (noting l (becoming (joined a) v)) ≡ noting l (becoming (λ b. make (a, b)) v)
noted_joined make l a (Found b r k) = refl
noted_joined make l a (Stopped k) = refl

noted_twice : {A : Type 0} (k l : ℕ) (m : Read A) → noting k (noting l m) ≡ noting (min k l) m
noted_twice k l (Found a r j) = let e : min k (min l j) ≡ min (min k l) j = omega arith in ap (λ (i : ℕ). Found a r i) e
noted_twice k l (Stopped j) = let e : min k (min l j) ≡ min (min k l) j = omega arith in ap (λ (i : ℕ). Stopped i) e

module _ (h : ℕ) where
  pub finish_noting : (k : ℕ) (m : Read MemberHead) → noting k (finish h m) ≡ finish h (noting k m)
  finish_noting k (Found (head_of.Method head) r l) = noted_twice k l (becoming (method_end head) (method_end_run h r))
  finish_noting k (Found (head_of.Constructor head) r l) = noted_twice k l (becoming (constructor_end head) (constructor_end_run h r))
  finish_noting k (Found (head_of.Fields vars) r l) = refl
  finish_noting k (Stopped l) = refl

  -- what is read first belongs to the head
  module _ {A P S : Type 0} (make : (A × P) → Member) (T : Run P) (G : Run S) (k : A → S → MemberHead) (goes : (a : A) (q : List Token) → becoming (λ p. make (a, p)) (T q) ≡ finish h (becoming (k a) (G q))) where
    behind_read : (v : Read A) → becoming make (v >>= (λ a q. becoming (joined a) (T q))) ≡ finish h (becoming (λ p. k p.0 p.1) (v >>= (λ a q. becoming (joined a) (G q))))
    behind_read (Found a q l) =
        noted_joined make l a (T q) ∙ ap (noting l) (goes a q) ∙ finish_noting l (becoming (k a) (G q))
        ∙ ap (finish h) (sym (noted_joined (λ (p : A × S). k p.0 p.1) l a (G q)))
    behind_read (Stopped l) = refl

    finish_behind : (m : Run A) (ts : List Token) → becoming make (in_turn m T ts) ≡ finish h (becoming (λ p. k p.0 p.1) (in_turn m G ts))
    finish_behind m ts = behind_read (m ts)

  -- the last part of a head
  method_last : (mk : List ClassTree → MethodHead) (m : Read (List ClassTree)) → becoming (λ (p : List ClassTree × MethodEnd). method_end (mk p.0) p.1) (m >>= (λ t q. becoming (joined t) (method_end_run h q))) ≡ finish h (becoming (λ t. head_of.Method (mk t)) m)
  method_last mk (Found t r l) = noted_joined (λ (p : List ClassTree × MethodEnd). method_end (mk p.0) p.1) l t (method_end_run h r)
  method_last mk (Stopped l) = refl

  constructor_last : (mk : List ClassTree → MethodHead) (m : Read (List ClassTree)) → becoming (λ (p : List ClassTree × ConstructorEnd). constructor_end (mk p.0) p.1) (m >>= (λ t q. becoming (joined t) (constructor_end_run h q))) ≡ finish h (becoming (λ t. head_of.Constructor (mk t)) m)
  constructor_last mk (Found t r l) = noted_joined (λ (p : List ClassTree × ConstructorEnd). constructor_end (mk p.0) p.1) l t (constructor_end_run h r)
  constructor_last mk (Stopped l) = refl

  abbrev Throws : Run (List ClassTree)
  Throws = keyed_run key_of.Throws (class_run h)

  abbrev Formals : Run (List Formal)
  Formals = formals_run (formal_run exprs h)

  -- with formals and what is thrown

  method_tail : (mk : List Formal → List ClassTree → MethodHead) (ts : List Token) →
      becoming (λ (p : MethodTail). method_end (mk p.0 p.1.0) p.1.1) (method_tail_run exprs h (levels exprs h) ts) ≡ finish h (becoming (λ (s : Signature). head_of.Method (mk s.formals s.throws)) (signature_run h ts))
  unfolding method_tail_run signature_run
  method_tail mk ts =
      finish_behind (λ (p : MethodTail). method_end (mk p.0 p.1.0) p.1.1) (in_turn Throws (method_end_run h)) Throws (λ f t. head_of.Method (mk f t)) (λ f q. method_last (mk f) (Throws q)) Formals ts
      ∙ ap (finish h) (sym (remade signature_made (λ (s : Signature). head_of.Method (mk s.formals s.throws)) (λ p. head_of.Method (mk p.0 p.1)) (in_turn Formals Throws ts) (λ p. refl)))

  constructor_tail : (mk : List Formal → List ClassTree → MethodHead) (ts : List Token) →
      becoming (λ (p : ConstructorTail). constructor_end (mk p.0 p.1.0) p.1.1) (in_turn Formals (in_turn Throws (constructor_end_run h)) ts) ≡ finish h (becoming (λ (s : Signature). head_of.Constructor (mk s.formals s.throws)) (signature_run h ts))
  unfolding signature_run
  constructor_tail mk ts =
      finish_behind (λ (p : ConstructorTail). constructor_end (mk p.0 p.1.0) p.1.1) (in_turn Throws (constructor_end_run h)) Throws (λ f t. head_of.Constructor (mk f t)) (λ f q. constructor_last (mk f) (Throws q)) Formals ts
      ∙ ap (finish h) (sym (remade signature_made (λ (s : Signature). head_of.Constructor (mk s.formals s.throws)) (λ p. head_of.Constructor (mk p.0 p.1)) (in_turn Formals Throws ts) (λ p. refl)))

  module _ (modifiers : List Modifier) (params : Option TypeParams) where
    abbrev K : Shape → MemberHead
    K = with_shape modifiers params

    method_same : (r : ResultType) (n : Ident) (p : MethodTail) → method_made modifiers params r n p ≡ method_end (method_head modifiers params (Some r) n p.0 p.1.0) p.1.1
    method_same r n (f, (t, This b)) = refl
    method_same r n (f, (t, That u)) = refl

    method_of : (r : ResultType) (n : Ident) (q : List Token) → becoming (method_made modifiers params r n) (method_tail_run exprs h (levels exprs h) q) ≡ finish h (becoming (λ (s : Signature). head_of.Method (method_head modifiers params (Some r) n s.formals s.throws)) (signature_run h q))
    method_of r n q =
        becoming_same (method_made modifiers params r n) (λ p. method_end (method_head modifiers params (Some r) n p.0 p.1.0) p.1.1) (method_tail_run exprs h (levels exprs h) q) (method_same r n)
        ∙ method_tail (λ f t. method_head modifiers params (Some r) n f t) q

    named_goes_on : (r : ResultType) (q : List Token) → becoming (λ (p : Ident × MethodTail). method_made modifiers params r p.0 p.1) (in_turn an_ident_at (method_tail_run exprs h (levels exprs h)) q) ≡ finish h (becoming (λ (n : Named). K (shape_is.Method r n)) (named_signature_run h q))
    unfolding named_signature_run
    named_goes_on r q =
        finish_behind (λ (p : Ident × MethodTail). method_made modifiers params r p.0 p.1) (method_tail_run exprs h (levels exprs h)) (signature_run h) (λ n s. K (shape_is.Method r (record { name = n; signature = s }))) (λ n z. method_of r n z) an_ident_at q
        ∙ ap (finish h) (sym (remade signed (λ (n : Named). K (shape_is.Method r n)) (λ p. K (shape_is.Method r (signed p))) (in_turn an_ident_at (signature_run h) q) (λ p. refl)))

    void_goes : (ts : List Token) → becoming (λ (p : VoidMethod). method_made modifiers params (result_of.Void p.0) p.1.0 p.1.1) (void_method_run exprs h (levels exprs h) ts) ≡ finish h (becoming K (void_shape_run h ts))
    unfolding void_method_run void_shape_run
    void_goes ts =
        finish_behind (λ (p : VoidMethod). method_made modifiers params (result_of.Void p.0) p.1.0 p.1.1) (in_turn an_ident_at (method_tail_run exprs h (levels exprs h))) (named_signature_run h) (λ at n. K (void_shape (at, n)))
        (λ at q. named_goes_on (result_of.Void at) q) (at_kind (key_code key_of.Void)) ts
        ∙ ap (finish h) (sym (remade void_shape K (λ p. K (void_shape p)) (in_turn (at_kind (key_code key_of.Void)) (named_signature_run h) ts) (λ p. refl)))

    constructor_goes : (ts : List Token) → becoming (constructor_made modifiers params) (constructor_run exprs h (levels exprs h) ts) ≡ finish h (becoming K (constructor_shape_run h ts))
    unfolding constructor_run constructor_shape_run named_signature_run
    constructor_goes ts =
        finish_behind (λ (p : Constructor). constructor_made modifiers params p) (in_turn Formals (in_turn Throws (constructor_end_run h))) (signature_run h) (λ n s. K (shape_is.Constructor (record { name = n; signature = s })))
        (λ n q. constructor_tail (λ f t. method_head modifiers params None n f t) q) an_ident_at ts
        ∙ ap (finish h) (sym (remade signed (λ (n : Named). K (shape_is.Constructor n)) (λ p. K (shape_is.Constructor (signed p))) (in_turn an_ident_at (signature_run h) ts) (λ p. refl))
        ∙ sym (remade shape_is.Constructor K (λ (n : Named). K (shape_is.Constructor n)) (as_new signed (in_turn an_ident_at (signature_run h)) ts) (λ n. refl)))

    method_goes : (ts : List Token) → becoming (λ (p : TypeTree × (Ident × MethodTail)). method_made modifiers params (result_of.Type p.0) p.1.0 p.1.1) (in_turn (type_run h) (in_turn an_ident_at (method_tail_run exprs h (levels exprs h))) ts) ≡ finish h (becoming K (method_shape_run h ts))
    unfolding method_shape_run
    method_goes ts =
        finish_behind (λ (p : TypeTree × (Ident × MethodTail)). method_made modifiers params (result_of.Type p.0) p.1.0 p.1.1) (in_turn an_ident_at (method_tail_run exprs h (levels exprs h))) (named_signature_run h) (λ ty n. K (method_shape (ty, n)))
        (λ ty q. named_goes_on (result_of.Type ty) q) (type_run h) ts
        ∙ ap (finish h) (sym (remade method_shape K (λ p. K (method_shape p)) (in_turn (type_run h) (named_signature_run h) ts) (λ p. refl)))

    abbrev Fields_run : Run FieldTail
    Fields_run = field_tail_run exprs h (levels exprs h)

    abbrev named_made : (TypeTree × (Ident × Either MethodTail FieldTail)) → Member
    named_made (ty, (name, This tail)) = method_made modifiers params (result_of.Type ty) name tail
    named_made (ty, (name, That tail)) = fields_made modifiers ty name tail

    fields_finish : (ty : TypeTree) (n : Ident) (m : Read FieldTail) → becoming (λ t. named_made (ty, (n, That t))) m ≡ finish h (becoming (λ t. K (typed_shape (ty, tail_made (n, That (fields_tail_made t))))) m)
    fields_finish ty n (Found (dims, (init, (more, u))) r l) = refl
    fields_finish ty n (Stopped l) = refl

    abbrev Kind : TypeTree → Ident → Either Signature FieldsTail → MemberHead
    Kind ty n e = K (typed_shape (ty, tail_made (n, e)))

    ends_by : (ty : TypeTree) (n : Ident) (q : List Token) (b : Bool) →
        becoming (λ e. named_made (ty, (n, e))) (cond b (becoming This (method_tail_run exprs h (levels exprs h) q)) (becoming That (Fields_run q))) ≡ finish h (becoming (Kind ty n) (cond b (becoming This (signature_run h q)) (becoming That (fields_run h q))))
    unfolding fields_run
    ends_by ty n q true =
        remade This (λ e. named_made (ty, (n, e))) (method_made modifiers params (result_of.Type ty) n) (method_tail_run exprs h (levels exprs h) q) (λ p. refl) ∙ method_of (result_of.Type ty) n q
        ∙ ap (finish h) (sym (remade This (Kind ty n) (λ (s : Signature). head_of.Method (method_head modifiers params (Some (result_of.Type ty)) n s.formals s.throws)) (signature_run h q) (λ s. refl)))
    ends_by ty n q false =
        remade That (λ e. named_made (ty, (n, e))) (λ t. named_made (ty, (n, That t))) (Fields_run q) (λ p. refl) ∙ fields_finish ty n (Fields_run q)
        ∙ ap (finish h) (sym (remade That (Kind ty n) (λ t. Kind ty n (That t)) (as_new fields_tail_made Fields_run q) (λ t. refl) ∙ remade fields_tail_made (λ t. Kind ty n (That t)) (λ t. Kind ty n (That (fields_tail_made t))) (Fields_run q) (λ t. refl)))

    tail_goes : (ty : TypeTree) (q : List Token) → becoming (λ p. named_made (ty, p)) (in_turn an_ident_at (either paren_codes (method_tail_run exprs h (levels exprs h)) Fields_run) q) ≡ finish h (becoming (λ t. K (typed_shape (ty, t))) (named_tail_run h q))
    unfolding named_tail_run
    tail_goes ty q =
        finish_behind (λ (p : Ident × Either MethodTail FieldTail). named_made (ty, p)) (either paren_codes (method_tail_run exprs h (levels exprs h)) Fields_run) (either paren_codes (signature_run h) (fields_run h)) (λ n e. Kind ty n e) (λ n r. ends_by ty n r (one_of paren_codes r)) an_ident_at q
        ∙ ap (finish h) (sym (remade tail_made (λ t. K (typed_shape (ty, t))) (λ p. Kind ty p.0 p.1) (in_turn an_ident_at (either paren_codes (signature_run h) (fields_run h)) q) (λ p. refl)))

    typed_goes : (ts : List Token) → becoming named_made (in_turn (type_run h) (in_turn an_ident_at (either paren_codes (method_tail_run exprs h (levels exprs h)) Fields_run)) ts) ≡ finish h (becoming K (typed_shape_run h ts))
    unfolding typed_shape_run
    typed_goes ts =
        finish_behind named_made (in_turn an_ident_at (either paren_codes (method_tail_run exprs h (levels exprs h)) Fields_run)) (named_tail_run h) (λ ty t. K (typed_shape (ty, t))) tail_goes (type_run h) ts
        ∙ ap (finish h) (sym (remade typed_shape K (λ p. K (typed_shape p)) (in_turn (type_run h) (named_tail_run h) ts) (λ p. refl)))

  -- one of two kinds
  module _ {A B S : Type 0} (make : Either A B → Member) (k : S → MemberHead) (m : Run A) (n : Run B) (F G : Run S)
      (this : (q : List Token) → becoming (λ a. make (This a)) (m q) ≡ finish h (becoming k (F q))) (that : (q : List Token) → becoming (λ b. make (That b)) (n q) ≡ finish h (becoming k (G q))) where
    this_goes : (q : List Token) → becoming make (becoming This (m q)) ≡ finish h (becoming k (becoming either_one (becoming This (F q))))
    this_goes q = remade This make (λ a. make (This a)) (m q) (λ a. refl) ∙ this q ∙ ap (λ (v : Read S). finish h (becoming k v)) (same (F q))
      where
        same : (v : Read S) → v ≡ becoming either_one (becoming {A = S} {B = Either S S} This v)
        same (Found s r l) = refl
        same (Stopped l) = refl

    that_goes : (q : List Token) → becoming make (becoming That (n q)) ≡ finish h (becoming k (becoming either_one (becoming That (G q))))
    that_goes q = remade That make (λ b. make (That b)) (n q) (λ b. refl) ∙ that q ∙ ap (λ (v : Read S). finish h (becoming k v)) (same (G q))
      where
        same : (v : Read S) → v ≡ becoming either_one (becoming {A = S} {B = Either S S} That v)
        same (Found s r l) = refl
        same (Stopped l) = refl

    cond_goes : (b : Bool) (q : List Token) → becoming make (cond b (becoming This (m q)) (becoming That (n q))) ≡ finish h (becoming k (becoming either_one (cond b (becoming This (F q)) (becoming That (G q)))))
    cond_goes true q = this_goes q
    cond_goes false q = that_goes q

    either_goes : (codes : List ℕ) (q : List Token) → becoming make (either codes m n q) ≡ finish h (becoming k (or_others codes F G q))
    either_goes codes q = cond_goes (one_of codes q) q

    noted_goes : (l : ℕ) (x : Read (Either A B)) (y : Read (Either S S)) → becoming make x ≡ finish h (becoming k (becoming either_one y)) → becoming make (noting l x) ≡ finish h (becoming k (becoming either_one (noting l y)))
    noted_goes l x y e = out l x ∙ ap (noting l) e ∙ finish_noting l (becoming k (becoming either_one y)) ∙ ap (finish h) (back l y)
      where
        out : (l : ℕ) (x : Read (Either A B)) → becoming make (noting l x) ≡ noting l (becoming make x)
        out l (Found a r j) = refl
        out l (Stopped j) = refl

        back : (l : ℕ) (y : Read (Either S S)) → noting l (becoming k (becoming either_one y)) ≡ becoming k (becoming either_one (noting l y))
        back l (Found a r j) = refl
        back l (Stopped j) = refl

    past_by : (b : Bool) (l : ℕ) (q : List Token) → becoming make (cond b (noting l (becoming That (n q))) (becoming That (n q))) ≡ finish h (becoming k (becoming either_one (cond b (noting l (becoming That (G q))) (becoming That (G q)))))
    past_by true l q = noted_goes l (becoming That (n q)) (becoming That (G q)) (that_goes q)
    past_by false l q = that_goes q

    past_goes : (code : ℕ) (q : List Token) → becoming make (past code q (becoming That (n q))) ≡ finish h (becoming k (becoming either_one (past code q (becoming That (G q)))))
    past_goes code [] = that_goes []
    past_goes code (t ∷ q) = past_by (kind_code t.kind == code) (length q) (t ∷ q)

    second_by : (code : ℕ) (codes : List ℕ) (q : List Token) (b : Bool) → becoming make (cond b (becoming This (m q)) (past code q (becoming That (n q)))) ≡ finish h (becoming k (becoming either_one (cond b (becoming This (F q)) (past code q (becoming That (G q))))))
    second_by code codes q true = this_goes q
    second_by code codes q false = past_goes code q

    roomy_goes : (room code : ℕ) (codes : List ℕ) (q : List Token) → becoming make (roomy_second room code codes m n q) ≡ finish h (becoming k (as_new either_one (roomy_second room code codes F G) q))
    unfolding roomy_second
    roomy_goes zero code codes q = this_goes q
    roomy_goes (suc room) code codes q = second_by code codes q (second_is code codes q)

  module _ (modifiers : List Modifier) where
    abbrev generic_made : TypeParams → Either VoidMethod (Either Constructor (TypeTree × (Ident × MethodTail))) → Member
    generic_made params r = member_made modifiers (That (This (params, r)))

    generic_goes : (params : TypeParams) (q : List Token) → becoming (generic_made params) (either (key_code key_of.Void ∷ []) (void_method_run exprs h (levels exprs h)) (roomy_second h word_code paren_codes (constructor_run exprs h (levels exprs h)) (in_turn (type_run h) (in_turn an_ident_at (method_tail_run exprs h (levels exprs h))))) q) ≡ finish h (becoming (with_shape modifiers (Some params)) (generic_shape_run h q))
    unfolding generic_shape_run
    generic_goes params q =
        either_goes (generic_made params) (with_shape modifiers (Some params)) (void_method_run exprs h (levels exprs h)) _ (void_shape_run h) (as_new either_one (roomy_second h word_code paren_codes (constructor_shape_run h) (method_shape_run h)))
        (void_goes modifiers (Some params))
        (roomy_goes (λ e. generic_made params (That e)) (with_shape modifiers (Some params)) (constructor_run exprs h (levels exprs h)) _ (constructor_shape_run h) (method_shape_run h) (constructor_goes modifiers (Some params)) (method_goes modifiers (Some params)) h word_code paren_codes)
        (key_code key_of.Void ∷ []) q

    abbrev plainly_made : NamedRest → Member
    plainly_made r = member_made modifiers (That (That r))

    typed_same : (p : TypeTree × (Ident × Either MethodTail FieldTail)) → plainly_made (That (That p)) ≡ named_made modifiers None p
    typed_same (ty, (n, This t)) = refl
    typed_same (ty, (n, That t)) = refl

    typed_named : (q : List Token) → becoming (λ p. plainly_made (That (That p))) (in_turn (type_run h) (in_turn an_ident_at (either paren_codes (method_tail_run exprs h (levels exprs h)) (field_tail_run exprs h (levels exprs h)))) q) ≡ finish h (becoming (with_shape modifiers None) (typed_shape_run h q))
    typed_named q = becoming_same (λ p. plainly_made (That (That p))) (named_made modifiers None) _ typed_same ∙ typed_goes modifiers None q

    named_goes : (q : List Token) → becoming plainly_made (named_run exprs h (levels exprs h) q) ≡ finish h (becoming (with_shape modifiers None) (named_shape_run h q))
    unfolding named_run named_shape_run
    named_goes q =
        either_goes plainly_made (with_shape modifiers None) (void_method_run exprs h (levels exprs h)) _ (void_shape_run h) (as_new either_one (roomy_second h word_code paren_codes (constructor_shape_run h) (typed_shape_run h)))
        (void_goes modifiers None)
        (roomy_goes (λ e. plainly_made (That e)) (with_shape modifiers None) (constructor_run exprs h (levels exprs h)) _ (constructor_shape_run h) (typed_shape_run h) (constructor_goes modifiers None) typed_named h word_code paren_codes)
        (key_code key_of.Void ∷ []) q

    params_go : (q : List Token) → becoming (λ r. member_made modifiers (That (This r))) (generic_run exprs h (levels exprs h) q) ≡ finish h (becoming (with_head modifiers) (as_new generic_head (in_turn (params_of_run (class_run h)) (generic_shape_run h)) q))
    unfolding generic_run
    params_go q =
        finish_behind (λ (r : GenericRest). member_made modifiers (That (This r))) _ (generic_shape_run h) (λ params shape. with_shape modifiers (Some params) shape) generic_goes (params_of_run (class_run h)) q
        ∙ ap (finish h) (sym (remade generic_head (with_head modifiers) (λ p. with_shape modifiers (Some p.0) p.1) (in_turn (params_of_run (class_run h)) (generic_shape_run h) q) (λ p. refl)))

    plain_goes : (q : List Token) → becoming plainly_made (named_run exprs h (levels exprs h) q) ≡ finish h (becoming (with_head modifiers) (as_new plain_head (named_shape_run h) q))
    plain_goes q = named_goes q ∙ ap (finish h) (sym (remade plain_head (with_head modifiers) (with_shape modifiers None) (named_shape_run h q) (λ p. refl)))

    -- members that are methods, constructors or fields
    pub coded_is : (ts : List Token) → coded_member_run h modifiers ts ≡ finish h (becoming (with_head modifiers) (code_head_run h ts))
    unfolding coded_member_run code_head_run
    coded_is ts =
        either_goes (λ r. member_made modifiers (That r)) (with_head modifiers) (generic_run exprs h (levels exprs h)) (named_run exprs h (levels exprs h)) (as_new generic_head (in_turn (params_of_run (class_run h)) (generic_shape_run h))) (as_new plain_head (named_shape_run h)) params_go plain_goes (sign_code sign_of.Less ∷ []) ts
