-- The forms of what stands behind the modifiers of methods, constructors and fields.
use Rattle.std.proofs.Common.{◌≡◌, ℕ, zero, suc, true, false, List, [], ◌∷◌, ◌++◌, length, refl, sym, ap, ◌∙◌, subst, ⊎_elim, inl, arith}
use Rattle.std.proofs.lemmas.Bool.{false≢true, and_parts, and_left, and_right, false_from_ne_true, eq-eqb}
use Rattle.std.specs.Prelude.{◌&&◌, ◌==◌, ◌≤◌, nat_le}
use Rattle.jc_lexer.specs.declared.token.Key.TheVariants as key_of
use Rattle.jc_lexer.specs.declared.token.Sign.TheVariants as sign_of
use Rattle.jc_lexer.specs.declared.token.Token.{Token}
use Rattle.jc_tree.specs.declared.name.Ident.{Ident}
use Rattle.jc_tree.specs.declared.types.ClassTree.{ClassTree}
use Rattle.jc_tree.specs.declared.types.TypeTree.{TypeTree}
use Rattle.jc_tree.specs.declared.expression.Init.{Init}
use Rattle.jc_tree.specs.declared.statement.Stmt.{Stmt}
use Rattle.jc_tree.specs.declared.statement.Var.{Var}
use Rattle.jc_tree.specs.Heights.{type_height}
use Rattle.jc_reading.specs.Kinds.{kind_code, sign_code, key_code, word_code, is_in, front_code, one_of}
use Rattle.jc_reading.specs.Reading.{Read, Found, Stopped, becoming, joined, Either, This, That}
use Rattle.jc_reading.proofs.Steps.{reach}
use Rattle.jc_reading.proofs.Forms.{Lawful, Stands}
use Rattle.jc_reading.proofs.Choices.{tell_either, fits_either}
use Rattle.jc_reading.proofs.Pairs.{cut}
use Rattle.jc_reading.proofs.Signs.{all_in, apart_sets, within_sets, ident_laws}
use Rattle.jc_reading.specs.Further.{second_is, roomy_second}
use Rattle.jc_part_laws.specs.PartReading.{Exprs}
use Rattle.jc_reading.proofs.Coded.{Coded, formed, coded_laws, in_order, in_order_laws, optional, repeated, one_or, one_or_laws, made, made_laws}
use Rattle.jc_part_laws.proofs.ExprForms.{ExprLaws}
use Rattle.jc_part_laws.proofs.FormalForms.{formals_coded, formals_laws, Given, given_law, dims_coded_laws, var_coded, var_laws}
use Rattle.jc_part_laws.proofs.HeadForms.{keyed_at}
use Rattle.jc_reading.proofs.Lowest.{optional_law, one_or_law, in_order_law, repeated_law, rerun, rerun_laws, roomy}
use Rattle.jc_part_laws.proofs.PartForms.{sign_form, key_at_form, ident_form, keyed_laws, dims_coded, type_coded, type_coded_laws, type_never, behind_each, behind_each_laws, params_of_coded, params_of_laws}
use Rattle.jc_reading.proofs.Seconds.{seconds, Parts, seconds_laws, takes_first}
use Rattle.jc_unit_laws.specs.UnitReading.{Level, Braces}
use Rattle.jc_unit_laws.specs.MemberReading.{MethodTail, ConstructorTail, FieldTail, VoidMethod, Constructor, GenericRest, NamedRest, paren_codes}
use Rattle.jc_unit_laws.proofs.Bundles.{has, a_sign, a_key_at, an_ident, then_a, lawful_by}
use Rattle.jc_unit_laws.proofs.SimpleStatements.{LevelLaws, item_coded, item_law, first_coded, first_law}
use Rattle.jc_unit_laws.proofs.TryClauses.{Braced, braced_has}
use Rattle.jc_unit_laws.proofs.WordStatements.{word_kind, stands_type, simple_type, reach_order}

module _ (x : Exprs) (h : ℕ) (l : Level) where
  abbrev BodyOr : Coded (Either (Braces Stmt) (Unit {0}))
  BodyOr = one_or (sign_code sign_of.LeftBrace ∷ []) (Braced h l) (sign_form sign_of.Semicolon)

  abbrev pub MethodEnd : Coded MethodTail
  MethodEnd = in_order (formals_coded x h) (in_order (keyed_at h key_of.Throws) BodyOr)

  abbrev pub FieldEnd : Coded FieldTail
  FieldEnd = in_order dims_coded (in_order (optional (roomy h (Given x h))) (in_order (behind_each sign_of.Comma (var_coded x h)) (sign_form sign_of.Semicolon)))

  pub throws_laws : Lawful (List ClassTree) (formed (keyed_at h key_of.Throws))
  throws_laws = keyed_laws key_of.Throws h refl

  pub method_end_laws : ExprLaws x → LevelLaws h l → Lawful MethodTail (formed MethodEnd)
  method_end_laws lx f =
      (then_a (has (formals_coded x h) (formals_laws x h lx)) (then_a (has (keyed_at h key_of.Throws) throws_laws)
      (has BodyOr (one_or_laws (Braces Stmt) (Unit {0}) (sign_code sign_of.LeftBrace ∷ []) (Braced h l) (sign_form sign_of.Semicolon) (braced_has h l f).laws (a_sign sign_of.Semicolon).laws (record { solid = refl; solid' = refl; this = refl; that = refl }))) refl) refl).laws

  pub field_end_laws : ExprLaws x → Lawful FieldTail (formed FieldEnd)
  field_end_laws lx =
      (then_a (has dims_coded dims_coded_laws) (then_a (has (optional (roomy h (Given x h))) (optional_law (Unit {0} × Init) (roomy h (Given x h)) (given_law x lx h) refl))
      (then_a (has (behind_each sign_of.Comma (var_coded x h)) (behind_each_laws Var sign_of.Comma (var_coded x h) (var_laws x h lx) refl refl)) (a_sign sign_of.Semicolon) refl) refl) refl).laws

  abbrev pub VoidForm : Coded VoidMethod
  VoidForm = in_order (key_at_form key_of.Void) (in_order ident_form MethodEnd)

  pub void_laws : ExprLaws x → LevelLaws h l → Lawful VoidMethod (formed VoidForm)
  void_laws lx f = (then_a (a_key_at key_of.Void) (then_a an_ident (has MethodEnd (method_end_laws lx f)) refl) refl).laws

  abbrev pub EitherEnd : Coded (Either MethodTail FieldTail)
  EitherEnd = one_or paren_codes MethodEnd FieldEnd

  pub either_end_laws : ExprLaws x → LevelLaws h l → Lawful (Either MethodTail FieldTail) (formed EitherEnd)
  either_end_laws lx f = one_or_laws MethodTail FieldTail paren_codes MethodEnd FieldEnd (method_end_laws lx f) (field_end_laws lx) (record { solid = refl; solid' = refl; this = refl; that = refl })

-- a type, a name and more
module _ (T : Type 0) (h : ℕ) (end : Coded T) where
  abbrev pub Typed : Coded (TypeTree × (Ident × T))
  Typed = in_order (type_coded h) (in_order ident_form end)

-- where a type with a name stands there is no word with a parenthesis behind it
pub typed_apart : (T : Type 0) (k : ℕ) (end : Coded T) → Lawful (Ident × T) (formed (in_order ident_form end)) → (ts : List Token) (p : TypeTree × (Ident × T)) (r : List Token) → Stands (formed (Typed T (suc k) end)) ts p r → second_is word_code paren_codes ts ≡ false
typed_apart T k end le ts p r s = false_from_ne_true (second_is word_code paren_codes ts) (λ e. clash ts s e)
  where
    rest_or : List Token → Read TypeTree → List Token
    rest_or d (Found b q n) = q
    rest_or d (Stopped n) = d

    clash : (ts : List Token) → Stands (formed (Typed T (suc k) end)) ts p r → second_is word_code paren_codes ts ≡ true → ⊥
    clash [] s e = false≢true e
    clash (t ∷ []) s e = false≢true (sym (and_right (kind_code t.kind == word_code) false refl) ∙ e)
    clash (t ∷ u ∷ us) s e =
        let a = and_parts (kind_code t.kind == word_code) (one_of paren_codes (u ∷ us)) e in
        let w = word_kind t.kind a.0 in
        let lt = type_coded_laws k in
        let c = cut TypeTree (Ident × T) (formed (type_coded (suc k))) (formed (in_order ident_form end)) lt le (λ v q. apart_sets (word_code ∷ []) (type_coded (suc k)).goes refl (front_code v) q) (t ∷ u ∷ us) p r s in
        let n : one_of (word_code ∷ []) c.0 ≡ true = ⊎_elim (λ o. o.0) (λ o. absurd (false≢true o.1)) (le.opens c.0 p.1 r c.2) in
        let one = lt.exact (t ∷ u ∷ us) (simple_type t.from w.0) (u ∷ us) (stands_type k t w.0 (u ∷ us) w.1) (apart_sets paren_codes (type_coded (suc k)).goes refl (front_code (u ∷ us)) a.1) in
        let two = lt.exact (t ∷ u ∷ us) p.0 c.0 c.1 (apart_sets (word_code ∷ []) (type_coded (suc k)).goes refl (front_code c.0) n) in
        let same : (u ∷ us) ≡ c.0 = ap (λ (v : Read TypeTree). rest_or c.0 v) (sym one.1 ∙ two.1) in
        false≢true (sym (apart_sets (word_code ∷ []) paren_codes refl (front_code c.0) n) ∙ subst (λ (v : List Token). one_of paren_codes v ≡ true) same a.1)

-- the one where a word and a parenthesis stand, and else, where there is room, the other
abbrev pub roomy_seconds : {A B : Type 0} → ℕ → Coded A → Coded B → Coded (Either A B)
roomy_seconds h ca cb = rerun (seconds word_code paren_codes ca cb) (roomy_second h word_code paren_codes ca.run cb.run)

pub roomy_seconds_zero : (A B : Type 0) (ca : Coded A) (cb : Coded B) → Lawful A (formed ca) → ((b : B) → cb.fits b ≡ false) → ca.empties ≡ false → all_in ca.starts (ca.starts ++ cb.starts) ≡ true → all_in ca.goes (ca.goes ++ cb.goes) ≡ true → Lawful (Either A B) (formed (roomy_seconds 0 ca cb))
unfolding roomy_second
roomy_seconds_zero A B ca cb la none e s g =
    subst (λ b. Lawful (Either A B) (record { tell = tell_either ca.tell cb.tell; fits = fits_either ca.fits cb.fits; run = λ ts. becoming This (ca.run ts); starts = one_of (ca.starts ++ cb.starts); goes_on = one_of (ca.goes ++ cb.goes); empties = b })) e
    (coded_laws (Either A B) (formed (made A (Either A B) ca This (tell_either ca.tell cb.tell) (fits_either ca.fits cb.fits))) (ca.starts ++ cb.starts) (ca.goes ++ cb.goes)
    (made_laws A (Either A B) ca This (tell_either ca.tell cb.tell) (fits_either ca.fits cb.fits) la (record { told = λ a r q. refl; forth = λ a q. q; back = back }))
    (λ ts q. within_sets ca.starts (ca.starts ++ cb.starts) s (front_code ts) q) (λ ts q. within_sets ca.goes (ca.goes ++ cb.goes) g (front_code ts) q))
  where
    back : (o : Either A B) → fits_either ca.fits cb.fits o ≡ true → (a : A) × (This a ≡ o) × (ca.fits a ≡ true)
    back (This a) q = (a, refl, q)
    back (That b) q = absurd (false≢true (sym (none b) ∙ q))

pub roomy_seconds_suc : (A B : Type 0) (k : ℕ) (ca : Coded A) (cb : Coded B) → Lawful A (formed ca) → Lawful B (formed cb) → Parts A B word_code paren_codes ca cb → Lawful (Either A B) (formed (roomy_seconds (suc k) ca cb))
unfolding roomy_second
roomy_seconds_suc A B k ca cb la lb d = rerun_laws (Either A B) (seconds word_code paren_codes ca cb) (roomy_second (suc k) word_code paren_codes ca.run cb.run) (λ ts. refl) (seconds_laws A B word_code paren_codes ca cb la lb d)

-- a constructor, whose statements are read as told

module _ (x : Exprs) (h : ℕ) (l : Level) (items : Coded (Either (Unit {0}) (Stmt × (List Stmt × Unit {0})))) where
  abbrev AfterName : Coded ConstructorTail
  AfterName = in_order (formals_coded x h) (in_order (keyed_at h key_of.Throws) (in_order (sign_form sign_of.LeftBrace) items))

  abbrev pub ConstructorForm : Coded Constructor
  ConstructorForm = in_order ident_form AfterName

  pub constructor_there : (ts : List Token) (p : Constructor) (r : List Token) → Stands (formed ConstructorForm) ts p r → second_is word_code paren_codes ts ≡ true
  constructor_there [] p r s = absurd s.0
  constructor_there (t ∷ []) p r s = absurd s.0.1
  constructor_there (t ∷ u ∷ us) p r s = ap (λ n. (n == word_code) && one_of paren_codes (u ∷ us)) (ap kind_code s.0.0.0) ∙ ap (λ n. is_in paren_codes n) (ap kind_code s.0.1.0.0)

  pub constructor_passes : (t : Token) (ts : List Token) → kind_code t.kind ≡ word_code → reach (ConstructorForm.run (t ∷ ts)) ≤ length ts
  constructor_passes t ts e =
      let w = word_kind t.kind (eq-eqb (kind_code t.kind) word_code e) in
      let near = takes_first Ident (formed ident_form) ident_laws refl t [] (record { at = t.from; text = w.0 }) [] (((w.1, refl, λ q. absurd (false≢true q), λ q. absurd (false≢true q)), refl), refl) ts in
      let less = reach_order (ident_form.run (t ∷ ts)) (λ a q. becoming (joined a) (AfterName.run q)) in
      omega (arith, near, less)

-- the statements of a constructor

module _ (h : ℕ) (l : Level) where
  abbrev FirstItems : Coded (Stmt × (List Stmt × Unit {0}))
  FirstItems = in_order (first_coded h l) (in_order (repeated (item_coded h l)) (sign_form sign_of.RightBrace))

  abbrev pub ConstructorItems : Coded (Either (Unit {0}) (Stmt × (List Stmt × Unit {0})))
  ConstructorItems = one_or (sign_code sign_of.RightBrace ∷ []) (sign_form sign_of.RightBrace) FirstItems

  pub constructor_items_laws : LevelLaws h l → Lawful (Either (Unit {0}) (Stmt × (List Stmt × Unit {0}))) (formed ConstructorItems)
  constructor_items_laws f =
      lawful_by ConstructorItems (This tt) refl
      (one_or_law (Unit {0}) (Stmt × (List Stmt × Unit {0})) (sign_code sign_of.RightBrace ∷ []) (sign_form sign_of.RightBrace) FirstItems (record { solid = refl; solid' = refl; this = refl; that = refl }) (inl (a_sign sign_of.RightBrace).laws)
      (in_order_law Stmt (List Stmt × Unit {0}) (first_coded h l) (in_order (repeated (item_coded h l)) (sign_form sign_of.RightBrace)) (first_law h l f)
      (then_a (has (repeated (item_coded h l)) (repeated_law Stmt (item_coded h l) (item_law h l f) refl refl)) (a_sign sign_of.RightBrace) refl).laws refl))

-- behind the modifiers of a member that is no declaration of a type

module _ (x : Exprs) (h : ℕ) (l : Level) where
  abbrev Made : Coded Constructor
  Made = ConstructorForm x h l (ConstructorItems h l)

  abbrev TypedMethod : Coded (TypeTree × (Ident × MethodTail))
  TypedMethod = Typed MethodTail h (MethodEnd x h l)

  abbrev TypedMember : Coded (TypeTree × (Ident × Either MethodTail FieldTail))
  TypedMember = Typed (Either MethodTail FieldTail) h (EitherEnd x h l)

  abbrev GenericEnd : Coded (Either VoidMethod (Either Constructor (TypeTree × (Ident × MethodTail))))
  GenericEnd = one_or (key_code key_of.Void ∷ []) (VoidForm x h l) (roomy_seconds h Made TypedMethod)

  abbrev pub GenericForm : Coded GenericRest
  GenericForm = in_order (params_of_coded h) GenericEnd

  abbrev pub NamedForm : Coded NamedRest
  NamedForm = one_or (key_code key_of.Void ∷ []) (VoidForm x h l) (roomy_seconds h Made TypedMember)

  abbrev pub CodeRest : Coded (Either GenericRest NamedRest)
  CodeRest = one_or (sign_code sign_of.Less ∷ []) GenericForm NamedForm

  made_laws_of : ExprLaws x → LevelLaws h l → Lawful Constructor (formed Made)
  made_laws_of lx f =
      (then_a an_ident (then_a (has (formals_coded x h) (formals_laws x h lx)) (then_a (has (keyed_at h key_of.Throws) (throws_laws x h l)) (then_a (a_sign sign_of.LeftBrace) (has (ConstructorItems h l) (constructor_items_laws h l f)) refl) refl) refl) refl).laws

constructor_or : (T : Type 0) (x : Exprs) (lx : ExprLaws x) (h : ℕ) (l : Level) (end : Coded T) → LevelLaws h l → Lawful (Ident × T) (formed (in_order ident_form end)) → all_in (Made x h l).goes ((Made x h l).goes ++ (Typed T h end).goes) ≡ true → Lawful (Either Constructor (TypeTree × (Ident × T))) (formed (roomy_seconds h (Made x h l) (Typed T h end)))
constructor_or T x lx zero l end f le g =
    roomy_seconds_zero Constructor (TypeTree × (Ident × T)) (Made x 0 l) (Typed T 0 end) (made_laws_of x 0 l lx f) (λ p. and_left (nat_le (type_height p.0) 0) ((in_order ident_form end).fits p.1) (type_never p.0)) refl refl g
constructor_or T x lx (suc k) l end f le g =
    roomy_seconds_suc Constructor (TypeTree × (Ident × T)) k (Made x (suc k) l) (Typed T (suc k) end) (made_laws_of x (suc k) l lx f)
    (in_order_laws TypeTree (Ident × T) (type_coded (suc k)) (in_order ident_form end) (type_coded_laws k) le refl)
    (record { solid = refl; solid' = refl; this = constructor_there x (suc k) l (ConstructorItems (suc k) l); that = typed_apart T k end le; passes = constructor_passes x (suc k) l (ConstructorItems (suc k) l) })

module _ (x : Exprs) (lx : ExprLaws x) (h : ℕ) (l : Level) (f : LevelLaws h l) where
  generic_end_laws : Lawful (Either VoidMethod (Either Constructor (TypeTree × (Ident × MethodTail)))) (formed (GenericEnd x h l))
  generic_end_laws =
      one_or_laws VoidMethod (Either Constructor (TypeTree × (Ident × MethodTail))) (key_code key_of.Void ∷ []) (VoidForm x h l) (roomy_seconds h (Made x h l) (TypedMethod x h l)) (void_laws x h l lx f)
      (constructor_or MethodTail x lx h l (MethodEnd x h l) f (then_a an_ident (has (MethodEnd x h l) (method_end_laws x h l lx f)) refl).laws refl)
      (record { solid = refl; solid' = refl; this = refl; that = refl })

  pub generic_laws : Lawful GenericRest (formed (GenericForm x h l))
  generic_laws = (then_a (has (params_of_coded h) (params_of_laws h)) (has (GenericEnd x h l) generic_end_laws) refl).laws

  pub named_laws : Lawful NamedRest (formed (NamedForm x h l))
  named_laws =
      one_or_laws VoidMethod (Either Constructor (TypeTree × (Ident × Either MethodTail FieldTail))) (key_code key_of.Void ∷ []) (VoidForm x h l) (roomy_seconds h (Made x h l) (TypedMember x h l)) (void_laws x h l lx f)
      (constructor_or (Either MethodTail FieldTail) x lx h l (EitherEnd x h l) f (then_a an_ident (has (EitherEnd x h l) (either_end_laws x h l lx f)) refl).laws refl)
      (record { solid = refl; solid' = refl; this = refl; that = refl })

  pub code_rest_laws : Lawful (Either GenericRest NamedRest) (formed (CodeRest x h l))
  code_rest_laws = one_or_laws GenericRest NamedRest (sign_code sign_of.Less ∷ []) (GenericForm x h l) (NamedForm x h l) generic_laws named_laws (record { solid = refl; solid' = refl; this = refl; that = refl })
