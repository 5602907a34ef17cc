-- Expressions that stand as statements are read as they are to be.
use Rattle.std.proofs.Common.{◌≡◌, ℕ, suc, Bool, true, false, List, [], ◌∷◌, Option, Some, None, refl, sym, ap, ◌∙◌, subst, ⊎_elim, ◌⊎◌, arith}
use Rattle.std.proofs.lemmas.Bool.{false≢true, and_parts, and_from, or_cases}
use Rattle.std.specs.Prelude.{◌&&◌, ◌||◌, nat_le, not}
use Rattle.jc_lexer.specs.declared.token.Sign.TheVariants as sign_of
use Rattle.jc_lexer.specs.declared.token.Token.{Token}
use Rattle.jc_tree.specs.declared.expression.AssignOp.{AssignOp}
use Rattle.jc_tree.specs.declared.expression.Expr.{Expr}
use Rattle.jc_tree.specs.declared.expression.Expr.TheVariants as expr_of
use Rattle.jc_tree.specs.declared.expression.PrefixOp.{PrefixOp}
use Rattle.jc_tree.specs.declared.expression.PrefixSign.{PrefixSign}
use Rattle.jc_tree.specs.declared.expression.PrefixSign.TheVariants as prefix_of
use Rattle.jc_tree.specs.Heights.{expr_height, effect_height}
use Rattle.jc_grammar.specs.Told.{Told}
use Rattle.jc_grammar.specs.Expressions.{expr_tokens, assign_tokens}
use Rattle.jc_grammar.specs.Shapes.{Shape, stands, changes, expr_shape, is_expr, is_effect, prefix_level}
use Rattle.jc_grammar.specs.Units.{is_statement_expr}
use Rattle.jc_grammar.proofs.FramedExpressions.{expr_frames}
use Rattle.jc_grammar.proofs.ShapesOfExpressions.{expr_shape-Assign, expr_shape-Prefix}
use Rattle.jc_grammar.proofs.Stands.{stands_looser}
use Rattle.jc_grammar.proofs.TokensOfExpressions.{expr_tokens-Assign, expr_tokens-Prefix}
use Rattle.jc_reading.specs.Kinds.{sign_code, front_code, one_of}
use Rattle.jc_reading.specs.Reading.{Run, Takes, Either, This, That}
use Rattle.jc_reading.proofs.Steps.{Plain}
use Rattle.jc_reading.proofs.Forms.{Form, Lawful}
use Rattle.jc_reading.proofs.Rooms.{room_above, room_max}
use Rattle.jc_reading.proofs.Signs.{sign_at_laws, within_sets}
use Rattle.jc_reading.proofs.Coded.{Coded, formed, coded, coded_laws, in_order, in_order_laws, repeated, repeated_laws, one_or, one_or_laws, made, made_laws, widened_laws}
use Rattle.jc_part_laws.proofs.PartForms.{sign_at_form}
use Rattle.jc_part_laws.proofs.ExprForms.{expr_codes, bare_codes, whole_goes}
use Rattle.jc_expr_laws.specs.LevelReading.{prefix_made, prefix_run, assign_made}
use Rattle.jc_expr_laws.specs.EffectReading.{crement_op, crement_op_run, crement_codes, effect_made, effect_run}
use Rattle.jc_expr_laws.proofs.LevelTests.{acts, acts_in, acts_out}
use Rattle.jc_expr_laws.proofs.LevelActs.{acting, acting_laws}
use Rattle.jc_expr_laws.proofs.LevelSpelled.{respelled, respelled_laws}
use Rattle.jc_expr_laws.proofs.LevelLasts.{expr_silent}
use Rattle.jc_expr_laws.proofs.LevelFlat.{Flat, flat_forth, flat_back, flat_expr}
use Rattle.jc_expr_laws.proofs.LevelPrefixes.{post_goes, bare_goes, op_told, op_form, an_op_laws, prefix_told, all_ops, IsPrefix, prefix_only, bare_fits, bare_coded}
use Rattle.jc_expr_laws.proofs.LevelCasts.{post_coded}
use Rattle.jc_expr_laws.proofs.LevelChains.{plain_front}
use Rattle.jc_expr_laws.proofs.LevelAssignOps.{flat_assign, assign_op_coded, assign_op_laws, assign_ops, assign_acts, flat_assigns}
use Rattle.jc_expr_laws.proofs.LevelAssigns.{IsAssign}
use Rattle.jc_expr_laws.proofs.LevelTower.{whole_at}
use Rattle.jc_expr_laws.proofs.EffectCloses.{closing_form, closing_laws}
use Rattle.jc_expr_laws.proofs.EffectKinds.{effect_height-Assign, effect_height-Prefix, effect_height-post, effect_kinds}

-- `++` or `--`
abbrev crement_form : Coded PrefixOp
crement_form = record { tell = λ op r. op_told op ∷ r; fits = λ op. changes op.sign; run = crement_op_run; starts = crement_codes; goes = []; empties = false }

abbrev CrementOp : Coded (Either ℕ ℕ)
CrementOp = one_or (sign_code sign_of.Increment ∷ []) (sign_at_form sign_of.Increment) (sign_at_form sign_of.Decrement)

crement_op_laws : Lawful PrefixOp (formed crement_form)
unfolding crement_op_run
crement_op_laws = made_laws (Either ℕ ℕ) PrefixOp CrementOp crement_op (λ op r. op_told op ∷ r) (λ op. changes op.sign)
    (one_or_laws ℕ ℕ (sign_code sign_of.Increment ∷ []) (sign_at_form sign_of.Increment) (sign_at_form sign_of.Decrement) (sign_at_laws sign_of.Increment) (sign_at_laws sign_of.Decrement) (record { solid = refl; solid' = refl; this = refl; that = refl }))
    (record { told = told; forth = forth; back = λ op g. back op.sign op.at g })
  where
    told : (o : Either ℕ ℕ) (r : List Told) → CrementOp.fits o ≡ true → (op_told (crement_op o) ∷ r) ≡ CrementOp.tell o r
    told (This at) r g = refl
    told (That at) r g = refl

    forth : (o : Either ℕ ℕ) → CrementOp.fits o ≡ true → changes (crement_op o).sign ≡ true
    forth (This at) g = refl
    forth (That at) g = refl

    back : (s : PrefixSign) (at : ℕ) → changes s ≡ true → (o : Either ℕ ℕ) × (crement_op o ≡ record { at = at; sign = s }) × (CrementOp.fits o ≡ true)
    back prefix_of.Increment at g = (This at, refl, refl)
    back prefix_of.Decrement at g = (That at, refl, refl)
    back _ at g = absurd (false≢true g)

module _ (k : ℕ) (bare post expr : Run Expr) where
  abbrev effect_fits : Expr → Bool
  effect_fits e = nat_le (effect_height e) (suc k) && is_statement_expr e

  -- with such an operator first

  abbrev Crements : Coded (PrefixOp × (List PrefixOp × Expr))
  Crements = in_order crement_form (in_order (repeated op_form) (bare_coded (suc k) bare))

  abbrev crement_fits : Expr → Bool
  crement_fits e = effect_fits e && (expr_shape e).prefix

  abbrev Crement : Coded Expr
  Crement = record { tell = expr_tokens; fits = crement_fits; run = prefix_run crement_op_run bare; starts = crement_codes; goes = bare_goes; empties = false }

  forth_crement : (p : PrefixOp × (List PrefixOp × Expr)) → Crements.fits p ≡ true → crement_fits (prefix_made p) ≡ true
  forth_crement (op, (ops, e)) g =
      let x = expr_of.Prefix op ops e in
      let a = and_parts (changes op.sign) ((repeated op_form).fits ops && bare_fits (suc k) e) g in
      let b = and_parts ((repeated op_form).fits ops) (bare_fits (suc k) e) a.1 in
      let c = and_parts (nat_le (expr_height e) (suc k)) (stands 13 (expr_shape e) && not (expr_shape e).prefix) b.1 in
      and_from (effect_fits x) (expr_shape x).prefix
      (and_from (nat_le (effect_height x) (suc k)) (is_statement_expr x)
      (ap (λ (n : ℕ). nat_le n (suc k)) (effect_height-Prefix op ops e) ∙ c.0)
      (subst (λ (s : Shape). (stands 0 s && s.effect) ≡ true) (sym (expr_shape-Prefix op ops e))
      (and_from ((stands 13 (expr_shape e) && not (expr_shape e).prefix) && nat_le 0 (prefix_level op.sign)) (changes op.sign)
      (and_from (stands 13 (expr_shape e) && not (expr_shape e).prefix) (nat_le 0 (prefix_level op.sign)) c.1 (room_above (prefix_level op.sign))) a.0)))
      (ap (λ (s : Shape). s.prefix) (expr_shape-Prefix op ops e))

  back_crement : (e : Expr) → IsPrefix e → effect_fits e ≡ true → (p : PrefixOp × (List PrefixOp × Expr)) × (prefix_made p ≡ e) × (Crements.fits p ≡ true)
  back_crement e w g =
      let x = expr_of.Prefix w.first w.more w.operand in
      let f : effect_fits x ≡ true = subst (λ (y : Expr). effect_fits y ≡ true) (sym w.is_it) g in
      let a = and_parts (nat_le (effect_height x) (suc k)) (is_statement_expr x) f in
      let s = subst (λ (s : Shape). (stands 0 s && s.effect) ≡ true) (expr_shape-Prefix w.first w.more w.operand) a.1 in
      let b = and_parts ((stands 13 (expr_shape w.operand) && not (expr_shape w.operand).prefix) && nat_le 0 (prefix_level w.first.sign)) (changes w.first.sign) s in
      let c = and_parts (stands 13 (expr_shape w.operand) && not (expr_shape w.operand).prefix) (nat_le 0 (prefix_level w.first.sign)) b.0 in
      let n : nat_le (expr_height w.operand) (suc k) ≡ true = sym (ap (λ (n : ℕ). nat_le n (suc k)) (effect_height-Prefix w.first w.more w.operand)) ∙ a.0 in (
        (w.first, (w.more, w.operand)),
        w.is_it,
        and_from (changes w.first.sign) ((repeated op_form).fits w.more && bare_fits (suc k) w.operand) b.1
            (and_from ((repeated op_form).fits w.more) (bare_fits (suc k) w.operand) (all_ops w.more) (and_from (nat_le (expr_height w.operand) (suc k)) (stands 13 (expr_shape w.operand) && not (expr_shape w.operand).prefix) n c.0)),
      )

  crement_laws : Lawful Expr (formed (bare_coded (suc k) bare)) → Lawful Expr (formed Crement)
  crement_laws lb = made_laws (PrefixOp × (List PrefixOp × Expr)) Expr Crements prefix_made expr_tokens crement_fits
      (in_order_laws PrefixOp (List PrefixOp × Expr) crement_form (in_order (repeated op_form) (bare_coded (suc k) bare)) crement_op_laws
      (in_order_laws (List PrefixOp) Expr (repeated op_form) (bare_coded (suc k) bare) (repeated_laws PrefixOp op_form an_op_laws refl refl) lb refl) refl)
      (record {
        told = λ p r g. expr_tokens-Prefix p.0 p.1.0 p.1.1 r ∙ ap (λ (l : List Told). op_told p.0 ∷ l) (prefix_told p.1.0 (expr_tokens p.1.1 r));
        forth = forth_crement;
        back = λ e g. let f = and_parts (effect_fits e) (expr_shape e).prefix g in back_crement e (prefix_only e f.1) f.0;
      })

  -- an assignment, or an effect of the postfix level

  abbrev Post : Form Expr
  Post = formed (post_coded (suc k) post)

  abbrev Any : Form Expr
  Any = whole_at (suc k) expr

  abbrev Act : Form (AssignOp × Expr)
  Act = acting AssignOp Expr assign_ops (formed assign_op_coded) Any

  abbrev Both : Form (Expr × Option (AssignOp × Expr))
  Both = closing_form Expr (AssignOp × Expr) is_effect Post Act

  abbrev real : Expr × Option (AssignOp × Expr) → List Told → List Told
  real p r = expr_tokens (assign_made p) r

  abbrev Real : Form (Expr × Option (AssignOp × Expr))
  Real = respelled (Expr × Option (AssignOp × Expr)) Both real

  abbrev Reals : Coded (Expr × Option (AssignOp × Expr))
  Reals = coded Real bare_codes whole_goes

  abbrev Effects : Coded (Either Expr (Expr × Option (AssignOp × Expr)))
  Effects = one_or crement_codes Crement Reals

  pub record Parts : Type 0 where
    pub bare_laws : Lawful Expr (formed (bare_coded (suc k) bare))
    pub post_laws : Lawful Expr Post
    pub any_laws : Lawful Expr Any

  abbrev pub effect_form : Coded Expr
  effect_form = record { tell = expr_tokens; fits = effect_fits; run = effect_run bare post expr; starts = expr_codes; goes = whole_goes; empties = false }

  module _ (d : Parts) where
    act_laws : Lawful (AssignOp × Expr) Act
    act_laws = acting_laws AssignOp Expr assign_ops (formed assign_op_coded) Any assign_op_laws d.any_laws
        (record { solid = refl; solid' = refl; operand = λ ts e. e; meet = λ ts e. refl; seen = λ ts o m s e. assign_acts o ts m s.0 e })

    both_laws : Lawful (Expr × Option (AssignOp × Expr)) Both
    both_laws = closing_laws Expr (AssignOp × Expr) is_effect Post Act d.post_laws act_laws
        (record { solid = refl; solid' = refl; meet = λ ts e. acts_out assign_ops post_goes ts refl e; quiet = refl })

    post_of : (e : Expr) (b : Bool) → (Post.fits e && b) ≡ true → (nat_le (expr_height e) (suc k) ≡ true) × (stands 14 (expr_shape e) ≡ true)
    post_of e b g = and_parts (nat_le (expr_height e) (suc k)) (stands 14 (expr_shape e)) (and_parts (Post.fits e) b g).0

    flat : (p : Expr × Option (AssignOp × Expr)) → Both.fits p ≡ true → Flat false (Both.tell p []) (real p [])
    flat (e, None) g = flat_expr false e [] [] tt
    flat (e, Some (op, v)) g =
        let t = post_of e (Act.fits (op, v)) g in
        subst (λ (l : List Told). Flat false (expr_tokens e (flat_assign op (expr_tokens v []))) l) (sym (expr_tokens-Assign e op v []))
        (flat_expr false e (flat_assign op (expr_tokens v [])) (assign_tokens op (expr_tokens v []))
        (subst (λ (c : Bool). Flat c (flat_assign op (expr_tokens v [])) (assign_tokens op (expr_tokens v []))) (sym (expr_silent e (stands_looser 9 14 (expr_shape e) (omega arith) t.1) false))
        (flat_assigns op (expr_tokens v []) (expr_tokens v []) (λ b. flat_expr b v [] [] tt))))

    not_empty : (e : Expr) → Post.fits e ≡ true → expr_tokens e [] ≡ [] → ⊥
    not_empty e g n =
        ⊎_elim (λ o. omega (arith, o.1)) (λ o. false≢true o.1) (d.post_laws.opens [] e [] (subst (λ (l : List Told). Takes false l [] []) (sym n) refl, g))

    plain_real : (p : Expr × Option (AssignOp × Expr)) → Both.fits p ≡ true → Plain (real p [])
    plain_real (e, None) g = d.post_laws.plain e (and_parts (Post.fits e) (is_effect e) g).0
    plain_real (e, Some (op, v)) g =
        let f = (and_parts (Post.fits e) (Act.fits (op, v)) g).0 in
        subst (λ (l : List Told). Plain l) (sym (expr_tokens-Assign e op v [] ∙ (expr_frames e).at [] (assign_tokens op (expr_tokens v []))))
        (plain_front (expr_tokens e []) (assign_tokens op (expr_tokens v [])) (not_empty e f) (d.post_laws.plain e f))

    real_laws : Lawful (Expr × Option (AssignOp × Expr)) Real
    real_laws = respelled_laws (Expr × Option (AssignOp × Expr)) Both real both_laws (record {
      appends = λ p r g. (expr_frames (assign_made p)).at [] r;
      plain = plain_real;
      forth = λ p ts r g s. flat_forth false false (Both.tell p []) (real p []) ts r (λ e. e) (flat p g) s;
      back = λ p ts r g s. flat_back false false (Both.tell p []) (real p []) ts r (flat p g) s;
    })

    goes_of : (ts : List Token) → ((acts assign_ops ts || one_of whole_goes ts) || one_of post_goes ts) ≡ true → one_of whole_goes ts ≡ true
    goes_of ts e =
        ⊎_elim
        (λ (t : (acts assign_ops ts || one_of whole_goes ts) ≡ true). ⊎_elim (λ (q : acts assign_ops ts ≡ true). acts_in assign_ops whole_goes ts refl q) (λ (q : one_of whole_goes ts ≡ true). q) (or_cases (acts assign_ops ts) (one_of whole_goes ts) t))
        (λ (t : one_of post_goes ts ≡ true). within_sets post_goes whole_goes refl (front_code ts) t)
        (or_cases (acts assign_ops ts || one_of whole_goes ts) (one_of post_goes ts) e)

    reals_laws : Lawful (Expr × Option (AssignOp × Expr)) (formed Reals)
    reals_laws = coded_laws (Expr × Option (AssignOp × Expr)) Real bare_codes whole_goes real_laws (λ ts e. e) goes_of

    -- both

    told : (o : Either Expr (Expr × Option (AssignOp × Expr))) (r : List Told) → Effects.fits o ≡ true → expr_tokens (effect_made o) r ≡ Effects.tell o r
    told (This e) r g = refl
    told (That p) r g = refl

    high : (a : Expr) (op : AssignOp) (b : Expr) → nat_le (effect_height (expr_of.Assign a op b)) (suc k) ≡ (nat_le (expr_height a) (suc k) && nat_le (expr_height b) (suc k))
    high a op b = ap (λ (n : ℕ). nat_le n (suc k)) (effect_height-Assign a op b) ∙ room_max (expr_height a) (expr_height b) (suc k)

    forth : (o : Either Expr (Expr × Option (AssignOp × Expr))) → Effects.fits o ≡ true → effect_fits (effect_made o) ≡ true
    forth (This e) g = (and_parts (effect_fits e) (expr_shape e).prefix g).0
    forth (That (e, None)) g =
        let t = post_of e (is_effect e) g in
        and_from (nat_le (effect_height e) (suc k)) (is_statement_expr e) (ap (λ (n : ℕ). nat_le n (suc k)) (effect_height-post e t.1) ∙ t.0)
        (and_from (is_expr e) (is_effect e) (stands_looser 0 14 (expr_shape e) (omega arith) t.1) (and_parts (Post.fits e) (is_effect e) g).1)
    forth (That (e, Some (op, v))) g =
        let x = expr_of.Assign e op v in
        let t = post_of e (Act.fits (op, v)) g in
        let c = and_parts (nat_le (expr_height v) (suc k)) (stands 0 (expr_shape v)) (and_parts (Post.fits e) (Act.fits (op, v)) g).1 in
        and_from (nat_le (effect_height x) (suc k)) (is_statement_expr x)
        (high e op v ∙ and_from (nat_le (expr_height e) (suc k)) (nat_le (expr_height v) (suc k)) t.0 c.0)
        (subst (λ (s : Shape). (stands 0 s && s.effect) ≡ true) (sym (expr_shape-Assign e op v))
        (and_from ((stands 14 (expr_shape e) && stands 0 (expr_shape v)) && true) true (and_from (stands 14 (expr_shape e) && stands 0 (expr_shape v)) true (and_from (stands 14 (expr_shape e)) (stands 0 (expr_shape v)) t.1 c.1) refl) refl))

    abbrev Back : Expr → Type 0
    Back e = (o : Either Expr (Expr × Option (AssignOp × Expr))) × (effect_made o ≡ e) × (Effects.fits o ≡ true)

    of_assign : (e : Expr) (op : AssignOp) (v : Expr) → effect_fits (expr_of.Assign e op v) ≡ true → Back (expr_of.Assign e op v)
    of_assign e op v g =
        let x = expr_of.Assign e op v in
        let a = and_parts (nat_le (effect_height x) (suc k)) (is_statement_expr x) g in
        let h = and_parts (nat_le (expr_height e) (suc k)) (nat_le (expr_height v) (suc k)) (sym (high e op v) ∙ a.0) in
        let s = and_parts (stands 14 (expr_shape e) && stands 0 (expr_shape v)) true (and_parts ((stands 14 (expr_shape e) && stands 0 (expr_shape v)) && true) true (subst (λ (z : Shape). (stands 0 z && z.effect) ≡ true) (expr_shape-Assign e op v) a.1)).0 in
        let t = and_parts (stands 14 (expr_shape e)) (stands 0 (expr_shape v)) s.0 in (
          That (e, Some (op, v)),
          refl,
          and_from (Post.fits e) (Act.fits (op, v)) (and_from (nat_le (expr_height e) (suc k)) (stands 14 (expr_shape e)) h.0 t.0) (and_from (nat_le (expr_height v) (suc k)) (stands 0 (expr_shape v)) h.1 t.1),
        )

    prefix_flag : (e : Expr) → IsPrefix e → (expr_shape e).prefix ≡ true
    prefix_flag e w = ap (λ (x : Expr). (expr_shape x).prefix) (sym w.is_it) ∙ ap (λ (s : Shape). s.prefix) (expr_shape-Prefix w.first w.more w.operand)

    back : (e : Expr) → effect_fits e ≡ true → Back e
    back e g =
        let a = and_parts (nat_le (effect_height e) (suc k)) (is_statement_expr e) g in
        let b = and_parts (is_expr e) (is_effect e) a.1 in
        ⊎_elim
        (λ (w : IsAssign e). subst (λ (x : Expr). Back x) w.is_it (of_assign w.target w.op w.value (subst (λ (x : Expr). effect_fits x ≡ true) (sym w.is_it) g)))
        (λ (o : IsPrefix e ⊎ (stands 14 (expr_shape e) ≡ true)).
        ⊎_elim
        (λ (w : IsPrefix e). (This e, refl, and_from (effect_fits e) (expr_shape e).prefix g (prefix_flag e w)))
        (λ (s : stands 14 (expr_shape e) ≡ true).
        (That (e, None), refl, and_from (Post.fits e) (is_effect e) (and_from (nat_le (expr_height e) (suc k)) (stands 14 (expr_shape e)) (sym (ap (λ (n : ℕ). nat_le n (suc k)) (effect_height-post e s)) ∙ a.0) s) b.1))
        o)
        (effect_kinds e b.0 b.1)

    pub effect_laws : Lawful Expr (formed effect_form)
    unfolding effect_run
    effect_laws = widened_laws Expr (made (Either Expr (Expr × Option (AssignOp × Expr))) Expr Effects effect_made expr_tokens effect_fits) expr_codes whole_goes
        (made_laws (Either Expr (Expr × Option (AssignOp × Expr))) Expr Effects effect_made expr_tokens effect_fits
        (one_or_laws Expr (Expr × Option (AssignOp × Expr)) crement_codes Crement Reals (crement_laws d.bare_laws) reals_laws (record { solid = refl; solid' = refl; this = refl; that = refl }))
        (record { told = told; forth = forth; back = back })) refl refl
