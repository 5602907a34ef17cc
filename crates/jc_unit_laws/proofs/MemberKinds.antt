-- Members with modifiers: tokens, heights and shapes by their parts.
use Rattle.std.proofs.Common.{◌≡◌, ℕ, zero, suc, ◌≤◌, Bool, true, false, List, [], ◌∷◌, ◌++◌, map, Option, Some, None, refl, sym, ap, ◌∙◌, subst, ⊎_elim, arith}
use Rattle.std.proofs.lemmas.Bool.{false≢true, and_left, and_right, and_from, and_parts, leb-true, le-leb, or_cases}
use Rattle.std.specs.Prelude.{◌&&◌, ◌||◌, nat_le}
use Rattle.jc_lexer.specs.declared.token.Key.TheVariants as key_of
use Rattle.jc_lexer.specs.declared.token.Token.{Token}
use Rattle.jc_tree.specs.declared.name.Ident.{Ident}
use Rattle.jc_tree.specs.declared.types.ClassTree.{ClassTree}
use Rattle.jc_tree.specs.declared.expression.Init.{Init}
use Rattle.jc_tree.specs.declared.statement.Clause.{Clause}
use Rattle.jc_tree.specs.declared.statement.Declaration.{Declaration, out-Declaration, roll-Declaration, roll-out-Declaration}
use Rattle.jc_tree.specs.declared.statement.DeclarationHead.{DeclarationHead}
use Rattle.jc_tree.specs.declared.statement.Formal.{Formal}
use Rattle.jc_tree.specs.declared.statement.LocalVars.{LocalVars}
use Rattle.jc_tree.specs.declared.statement.Member.{Member, Member-F, out-Member, roll-Member, roll-out-Member}
use Rattle.jc_tree.specs.declared.statement.Member.TheVariants as member_of
use Rattle.jc_tree.specs.declared.statement.Modifier.{Modifier}
use Rattle.jc_tree.specs.declared.statement.ResultType.{ResultType}
use Rattle.jc_tree.specs.declared.statement.ResultType.TheVariants as result_of
use Rattle.jc_tree.specs.declared.statement.Stmt.{Stmt}
use Rattle.jc_tree.specs.declared.statement.TypeParams.{TypeParams}
use Rattle.jc_tree.specs.declared.statement.Var.{Var}
use Rattle.jc_tree.specs.Heights.{most, modifier_height, declaration_height, member_height, params_of_height, type_height}
use Rattle.jc_tree.proofs.HeightsOfStatements.{member_height-Nested, declaration_height-made}
use Rattle.jc_grammar.specs.Told.{Told}
use Rattle.jc_grammar.specs.Parts.{modifiers_tokens}
use Rattle.jc_grammar.specs.Statements.{member_tokens}
use Rattle.jc_grammar.specs.Units.{are_modifiers, is_declaration, is_member, has_result}
use Rattle.jc_grammar.proofs.ShapesOfStatements.{is_member-Nested}
use Rattle.jc_grammar.proofs.TokensOfStatements.{member_tokens-Nested}
use Rattle.jc_reading.specs.Kinds.{front_code, one_of}
use Rattle.jc_reading.specs.Reading.{Either, This, That, Takes}
use Rattle.jc_reading.proofs.Forms.{Form, Lawful, Stands}
use Rattle.jc_reading.proofs.Alikes.{alike_laws}
use Rattle.jc_reading.proofs.Coded.{Coded, formed, coded_laws, in_first, in_second}
use Rattle.jc_reading.proofs.Ledby.{unled, unled_back}
use Rattle.jc_reading.proofs.Rooms.{room_above, room_none, room_suc}
use Rattle.jc_part_laws.specs.PartReading.{Exprs, head_made}
use Rattle.jc_part_laws.proofs.ExprForms.{ExprLaws}
use Rattle.jc_part_laws.proofs.FormalForms.{formals_fit}
use Rattle.jc_part_laws.proofs.HeadForms.{back_head, head_starts}
use Rattle.jc_part_laws.proofs.ModifierForms.{modifiers_fit, modifier_starts, modifier_codes}
use Rattle.jc_part_laws.proofs.PartForms.{classes_fit}
use Rattle.jc_unit_laws.specs.UnitReading.{Level, DeclarationRest, declaration_made, or_no_init}
use Rattle.jc_unit_laws.specs.MemberReading.{MemberRest, ConstructorTail, MethodTail, moded_member, method_head, method_made, constructor_items, constructor_made, is_low, moded_member_run, rest_codes}
use Rattle.jc_unit_laws.proofs.MemberRests.{RestLaws, behind_modifiers, code_codes, head_in, mod_in, moded, moded_laws, rest_starts}
use Rattle.jc_unit_laws.proofs.MemberValues.{fit_method_made, fit_constructor_made, fit_fields, told_method, told_constructor, told_fields}
use Rattle.jc_unit_laws.proofs.MethodForms.{ConstructorItems, MethodEnd}
use Rattle.jc_unit_laws.proofs.RestForms.{rest_form, told_declaration, fit_declaration, rest_is}
use Rattle.jc_unit_laws.proofs.SimpleStatements.{LevelLaws}

abbrev pub MemberLayer : Type 0
MemberLayer = Member-F Member Stmt Clause Declaration

abbrev pub is_moded : MemberLayer → Bool
is_moded (Member-F.Fields vars) = true
is_moded (Member-F.Bare head) = has_result head
is_moded (Member-F.Method head items) = true
is_moded (Member-F.Nested declaration) = true
is_moded _ = false

-- the parts that make a member

method_of : (modifiers : List Modifier) (params : Option TypeParams) (result : ResultType) (name : Ident) (tail : MethodTail) → (p : List Modifier × MemberRest) × (moded_member p ≡ method_made modifiers params result name tail)
method_of modifiers None (result_of.Void at) name tail = ((modifiers, That (That (This (at, (name, tail))))), refl)
method_of modifiers None (result_of.Type ty) name tail = ((modifiers, That (That (That (That (ty, (name, This tail)))))), refl)
method_of modifiers (Some params) (result_of.Void at) name tail = ((modifiers, That (This (params, This (at, (name, tail))))), refl)
method_of modifiers (Some params) (result_of.Type ty) name tail = ((modifiers, That (This (params, That (That (ty, (name, tail)))))), refl)

constructor_of : (modifiers : List Modifier) (params : Option TypeParams) (name : Ident) (tail : ConstructorTail) → (p : List Modifier × MemberRest) × (moded_member p ≡ constructor_made modifiers params (name, tail))
constructor_of modifiers None name tail = ((modifiers, That (That (That (This (name, tail))))), refl)
constructor_of modifiers (Some params) name tail = ((modifiers, That (This (params, That (This (name, tail))))), refl)

items_of : (items : List Stmt) → (o : Either (Unit {0}) (Stmt × (List Stmt × Unit {0}))) × (constructor_items o ≡ items)
items_of [] = (This tt, refl)
items_of (s ∷ items) = (That (s, (items, tt)), refl)

back_method : (modifiers : List Modifier) (params : Option TypeParams) (result : Option ResultType) (name : Ident) (formals : List Formal) (throws : List ClassTree) (items : List Stmt)
    → (p : List Modifier × MemberRest) × (moded_member p ≡ member_of.Method (method_head modifiers params result name formals throws) items)
back_method modifiers params None name formals throws items =
    let w = items_of items in
    let c = constructor_of modifiers params name (formals, (throws, (tt, w.0))) in
    (c.0, c.1 ∙ ap (λ (list : List Stmt). member_of.Method (method_head modifiers params None name formals throws) list) w.1)
back_method modifiers params (Some result) name formals throws items = method_of modifiers params result name (formals, (throws, This (tt, (items, tt))))

back_bare : (modifiers : List Modifier) (params : Option TypeParams) (result : Option ResultType) (name : Ident) (formals : List Formal) (throws : List ClassTree) → has_result (method_head modifiers params result name formals throws) ≡ true
    → (p : List Modifier × MemberRest) × (moded_member p ≡ member_of.Bare (method_head modifiers params result name formals throws))
back_bare modifiers params None name formals throws g = absurd (false≢true g)
back_bare modifiers params (Some result) name formals throws g = method_of modifiers params result name (formals, (throws, That tt))

back_init : (o : Option Init) → (p : Option (Unit {0} × Init)) × (or_no_init p ≡ o)
back_init None = (None, refl)
back_init (Some init) = (Some (tt, init), refl)

back_fields : (vars : LocalVars) → (p : List Modifier × MemberRest) × (moded_member p ≡ member_of.Fields vars)
back_fields vars =
    let w = back_init vars.first.init in (
      (vars.modifiers, That (That (That (That (vars.ty, (vars.first.name, That (vars.first.dims, (w.0, (unled vars.more, tt))))))))),
      ap (λ (o : Option Init). member_of.Fields (record { modifiers = vars.modifiers; ty = vars.ty; first = record { name = vars.first.name; dims = vars.first.dims; init = o }; more = map (λ (p : Unit {0} × Var). p.1) (unled vars.more) })) w.1
          ∙ ap (λ (more : List Var). member_of.Fields (record { modifiers = vars.modifiers; ty = vars.ty; first = vars.first; more = more })) (unled_back vars.more),
    )

pub back_declaration : (d : Declaration) → (modifiers : List Modifier) × (rest : DeclarationRest) × (declaration_made modifiers rest ≡ d)
back_declaration d =
    let w = back_head (out-Declaration d).head in
    (w.0, (w.1, (tt, ((out-Declaration d).members, tt))), ap (λ (head : DeclarationHead). roll-Declaration (record { head = head; members = (out-Declaration d).members })) w.2 ∙ roll-out-Declaration d)

back_moded : (m : Member) (layer : MemberLayer) → out-Member m ≡ layer → is_moded layer ≡ true → (p : List Modifier × MemberRest) × (moded_member p ≡ m)
back_moded m (Member-F.Fields vars) e g = let w = back_fields vars in (w.0, w.1 ∙ sym (member_of.rolls-Fields vars) ∙ ap roll-Member (sym e) ∙ roll-out-Member m)
back_moded m (Member-F.Bare head) e g = let w = back_bare head.modifiers head.params head.result head.name head.formals head.throws g in (w.0, w.1 ∙ sym (member_of.rolls-Bare head) ∙ ap roll-Member (sym e) ∙ roll-out-Member m)
back_moded m (Member-F.Method head items) e g = let w = back_method head.modifiers head.params head.result head.name head.formals head.throws items in (w.0, w.1 ∙ sym (member_of.rolls-Method head items) ∙ ap roll-Member (sym e) ∙ roll-out-Member m)
back_moded m (Member-F.Nested d) e g = let w = back_declaration d in ((w.0, This w.1), ap (λ (v : Declaration). member_of.Nested v) w.2 ∙ sym (member_of.rolls-Nested d) ∙ ap roll-Member (sym e) ∙ roll-out-Member m)
back_moded m _ e g = absurd (false≢true g)

kind_method : (modifiers : List Modifier) (params : Option TypeParams) (result : ResultType) (name : Ident) (tail : MethodTail) → is_moded (out-Member (method_made modifiers params result name tail)) ≡ true
kind_method modifiers params result name (formals, (throws, This (u, (items, v)))) = ap is_moded (member_of.outs-Method (method_head modifiers params (Some result) name formals throws) items)
kind_method modifiers params result name (formals, (throws, That u)) = ap is_moded (member_of.outs-Bare (method_head modifiers params (Some result) name formals throws))

kind_moded : (p : List Modifier × MemberRest) → is_moded (out-Member (moded_member p)) ≡ true
kind_moded (modifiers, This rest) = ap is_moded (member_of.outs-Nested (declaration_made modifiers rest))
kind_moded (modifiers, That (This (params, This (at, (name, tail))))) = kind_method modifiers (Some params) (result_of.Void at) name tail
kind_moded (modifiers, That (This (params, That (This (name, (formals, (throws, (u, items)))))))) = ap is_moded (member_of.outs-Method (method_head modifiers (Some params) None name formals throws) (constructor_items items))
kind_moded (modifiers, That (This (params, That (That (ty, (name, tail)))))) = kind_method modifiers (Some params) (result_of.Type ty) name tail
kind_moded (modifiers, That (That (This (at, (name, tail))))) = kind_method modifiers None (result_of.Void at) name tail
kind_moded (modifiers, That (That (That (This (name, (formals, (throws, (u, items)))))))) = ap is_moded (member_of.outs-Method (method_head modifiers None None name formals throws) (constructor_items items))
kind_moded (modifiers, That (That (That (That (ty, (name, This tail)))))) = kind_method modifiers None (result_of.Type ty) name tail
kind_moded (modifiers, That (That (That (That (ty, (name, That (dims, (init, (more, u))))))))) = ap is_moded (member_of.outs-Fields _)

-- room for a declaration whose modifiers have less

room_less : (a b g r : Bool) → (a ≡ true → b ≡ true) → ((a && g) && r) ≡ ((b && g) && (a && r))
room_less true true g r f = refl
room_less true false g r f = absurd (false≢true (f refl))
room_less false b g r f = sym (and_right (b && g) false refl)

room_more : (n h : ℕ) → nat_le n h ≡ true → nat_le n (suc h) ≡ true
room_more n h e = let le : n ≤ h = leb-true n h e in le-leb n (suc h) (omega (arith, le))

module _ (x : Exprs) (l : Level) where
  fit_nested : (h : ℕ) (modifiers : List Modifier) (rest : DeclarationRest) → (nat_le (declaration_height (declaration_made modifiers rest)) h && is_declaration (declaration_made modifiers rest)) ≡ (modifiers_fit x h modifiers && (is_low h modifiers && (rest_form h l.rest).fits rest))
  fit_nested zero modifiers (head, (u, (members, v))) =
      and_left (nat_le (declaration_height (declaration_made modifiers (head, (u, (members, v))))) 0) (is_declaration (declaration_made modifiers (head, (u, (members, v)))))
      (ap (λ n. nat_le n 0) (declaration_height-made (head_made modifiers head) members) ∙ room_none _)
      ∙ sym (and_right (modifiers_fit x 0 modifiers) (is_low 0 modifiers && (rest_form 0 l.rest).fits (head, (u, (members, v))))
      (and_left (is_low 0 modifiers) ((rest_form 0 l.rest).fits (head, (u, (members, v)))) (room_none (most (map modifier_height modifiers)))))
  fit_nested (suc k) modifiers rest =
      fit_declaration x k l modifiers rest
      ∙ ap (λ b. modifiers_fit x k modifiers && b) (rest_is x k l rest)
      ∙ room_less (nat_le (most (map modifier_height modifiers)) k) (nat_le (most (map modifier_height modifiers)) (suc k)) (are_modifiers modifiers) ((rest_form (suc k) l.rest).fits rest) (room_more (most (map modifier_height modifiers)) k)
      ∙ ap (λ b. modifiers_fit x (suc k) modifiers && (b && (rest_form (suc k) l.rest).fits rest)) (sym (room_suc (most (map modifier_height modifiers)) k))

module _ (x : Exprs) (h : ℕ) (l : Level) where
  abbrev pub member_fits : Member → Bool
  member_fits m = nat_le (member_height m) h && is_member m

  abbrev Parts_fit : (List Modifier × MemberRest) → Bool
  Parts_fit p = modifiers_fit x h p.0 && (behind_modifiers x h l p.0).fits p.1

  fit_moded : (p : List Modifier × MemberRest) → member_fits (moded_member p) ≡ Parts_fit p
  fit_moded (modifiers, This rest) =
      ap (λ n. nat_le n h && is_member (member_of.Nested (declaration_made modifiers rest))) (member_height-Nested (declaration_made modifiers rest))
      ∙ ap (λ b. nat_le (declaration_height (declaration_made modifiers rest)) h && b) (is_member-Nested (declaration_made modifiers rest)) ∙ fit_nested x l h modifiers rest
  fit_moded (modifiers, That (This (params, This (at, (name, tail))))) =
      fit_method_made x h l modifiers (Some params) (result_of.Void at) name tail ∙ ap (λ b. modifiers_fit x h modifiers && (nat_le (params_of_height params) h && (b && (MethodEnd x h l).fits tail))) (room_above h)
  fit_moded (modifiers, That (This (params, That (This p)))) = fit_constructor_made x h l modifiers (Some params) p
  fit_moded (modifiers, That (This (params, That (That (ty, (name, tail)))))) = fit_method_made x h l modifiers (Some params) (result_of.Type ty) name tail
  fit_moded (modifiers, That (That (This (at, (name, tail))))) =
      fit_method_made x h l modifiers None (result_of.Void at) name tail ∙ ap (λ b. modifiers_fit x h modifiers && (b && (b && (MethodEnd x h l).fits tail))) (room_above h)
  fit_moded (modifiers, That (That (That (This p)))) = fit_constructor_made x h l modifiers None p ∙ ap (λ b. modifiers_fit x h modifiers && (b && (true && (formals_fit x h p.1.0 && (classes_fit key_of.Throws h p.1.1.0 && (true && (ConstructorItems h l).fits p.1.1.1.1)))))) (room_above h)
  fit_moded (modifiers, That (That (That (That (ty, (name, This tail)))))) =
      fit_method_made x h l modifiers None (result_of.Type ty) name tail ∙ ap (λ b. modifiers_fit x h modifiers && (b && (nat_le (type_height ty) h && (MethodEnd x h l).fits tail))) (room_above h)
  fit_moded (modifiers, That (That (That (That (ty, (name, That tail)))))) = fit_fields x h l modifiers ty name tail

  told_moded : (p : List Modifier × MemberRest) (r : List Told) → member_tokens (moded_member p) r ≡ modifiers_tokens p.0 ((behind_modifiers x h l p.0).tell p.1 r)
  told_moded (modifiers, This rest) r =
      member_tokens-Nested (declaration_made modifiers rest) r ∙ told_declaration x h l modifiers rest r ∙ ap (λ (t : List Told). modifiers_tokens modifiers t) (sym (told_declaration x h l [] rest r))
  told_moded (modifiers, That (This (params, This (at, (name, tail))))) r = told_method x h l modifiers (Some params) (result_of.Void at) name tail r
  told_moded (modifiers, That (This (params, That (This p)))) r = told_constructor x h l modifiers (Some params) p r
  told_moded (modifiers, That (This (params, That (That (ty, (name, tail)))))) r = told_method x h l modifiers (Some params) (result_of.Type ty) name tail r
  told_moded (modifiers, That (That (This (at, (name, tail))))) r = told_method x h l modifiers None (result_of.Void at) name tail r
  told_moded (modifiers, That (That (That (This p)))) r = told_constructor x h l modifiers None p r
  told_moded (modifiers, That (That (That (That (ty, (name, This tail)))))) r = told_method x h l modifiers None (result_of.Type ty) name tail r
  told_moded (modifiers, That (That (That (That (ty, (name, That tail)))))) r = told_fields x h l modifiers ty name tail r

  abbrev pub moded_codes : List ℕ
  moded_codes = modifier_codes ++ (rest_codes ++ code_codes x h l)

  abbrev pub moded_member_coded : Coded Member
  moded_member_coded = record { tell = member_tokens; fits = λ m. is_moded (out-Member m) && member_fits m; run = moded_member_run x h l; starts = moded_codes; goes = []; empties = false }

  abbrev Plain_moded : Form Member
  Plain_moded = record { tell = member_tokens; fits = λ m. is_moded (out-Member m) && member_fits m; run = moded_member_run x h l; starts = λ ts. modifier_starts ts || (true && rest_starts x h l ts); goes_on = λ ts. false; empties = false }

module _ (x : Exprs) (lx : ExprLaws x) (h : ℕ) (l : Level) (f : LevelLaws h l) (lr : RestLaws h l) where
  plain_moded_laws : Lawful Member (Plain_moded x h l)
  unfolding moded_member_run
  plain_moded_laws =
      alike_laws (List Modifier × MemberRest) Member (moded x lx h l f lr) moded_member member_tokens (λ m. is_moded (out-Member m) && member_fits x h l m) (λ ts. modifier_starts ts || (true && rest_starts x h l ts)) (λ ts. false)
      (moded_laws x lx h l f lr)
      (record {
        told = λ p r g. told_moded x h l p r;
        forth = λ p g. and_from (is_moded (out-Member (moded_member p))) (member_fits x h l (moded_member p)) (kind_moded p) (fit_moded x h l p ∙ g);
        back = λ m g.
            let a = and_parts (is_moded (out-Member m)) (member_fits x h l m) g in
            let w = back_moded m (out-Member m) refl a.0 in
            (w.0, w.1, sym (fit_moded x h l w.0) ∙ ap (member_fits x h l) w.1 ∙ a.1);
        starts_too = λ ts e. e;
        goes_too = λ ts e. e;
      })

  -- what stands there is modifiers and what stands behind them
  pub moded_parts : (ts : List Token) (m : Member) (r : List Token) → Stands (formed (moded_member_coded x h l)) ts m r → (p : List Modifier × MemberRest) × Stands (moded x lx h l f lr) ts p r
  moded_parts ts m r s =
      let a = and_parts (is_moded (out-Member m)) (member_fits x h l m) s.1 in
      let w = back_moded m (out-Member m) refl a.0 in
      (w.0, (subst (λ (t : List Told). Takes false t ts r) (ap (λ (n : Member). member_tokens n []) (sym w.1) ∙ told_moded x h l w.0 []) s.0, sym (fit_moded x h l w.0) ∙ ap (member_fits x h l) w.1 ∙ a.1))

  pub moded_member_laws : Lawful Member (formed (moded_member_coded x h l))
  moded_member_laws =
      coded_laws Member (Plain_moded x h l) (moded_codes x h l) [] plain_moded_laws
      (λ ts e. ⊎_elim (λ t. in_first modifier_codes (rest_codes ++ code_codes x h l) (front_code ts) (mod_in ts t))
      (λ t. in_second modifier_codes (rest_codes ++ code_codes x h l) (front_code ts) (⊎_elim (λ d. in_first rest_codes (code_codes x h l) (front_code ts) (head_in ts d)) (λ c. in_second rest_codes (code_codes x h l) (front_code ts) c) (or_cases (head_starts ts) (one_of (code_codes x h l) ts) t)))
      (or_cases (modifier_starts ts) (rest_starts x h l ts) e))
      (λ ts e. e)
