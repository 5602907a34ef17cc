-- Declarations, variables and members behind their modifiers.
use Rattle.std.specs.Prelude.{◌&&◌}
use Rattle.std.proofs.Common.{◌≡◌, ◌==◌, ℕ, Bool, true, false, cond, List, [], ◌∷◌, length, refl, sym, ap, ◌∙◌}
use Rattle.std.proofs.lemmas.Bool.{cond-true, cond-false}
use Rattle.jc_lexer.specs.declared.token.Key.TheVariants as key_of
use Rattle.jc_lexer.specs.declared.token.Sign.TheVariants as sign_of
use Rattle.jc_lexer.specs.declared.token.Token.{Token}
use Rattle.jc_tree.specs.declared.types.TypeTree.{TypeTree}
use Rattle.jc_tree.specs.declared.statement.Declaration.{roll-Declaration}
use Rattle.jc_tree.specs.declared.statement.DeclarationHead.{DeclarationHead}
use Rattle.jc_tree.specs.declared.statement.Member.{Member}
use Rattle.jc_tree.specs.declared.statement.Member.TheVariants as member_of
use Rattle.jc_tree.specs.declared.statement.Modifier.{Modifier}
use Rattle.jc_tree.specs.declared.statement.Stmt.{Stmt}
use Rattle.jc_tree.specs.declared.statement.Stmt.TheVariants as stmt_of
use Rattle.jc_reading.specs.Kinds.{key_code, kind_code, one_of, sign_code}
use Rattle.jc_reading.specs.Reading.{Read, Found, Stopped, Run, Either, This, That, any_number, as_new, at_kind, becoming, before_it, either, in_turn, joined, noting, of_kind, ◌>>=◌}
use Rattle.jc_reading.specs.Further.{by_second, either_one, past, second_is}
use Rattle.jc_parse_type.specs.TypeReading.{class_run, type_run}
use Rattle.jc_part_laws.specs.PartReading.{HeadRest, head_made, head_rest_run, modifiers_run}
use Rattle.jc_expr_laws.specs.ExprReading.{exprs}
use Rattle.jc_unit_laws.specs.UnitReading.{Braces, DeclarationRest, Variables, braced_at_run, braced_run, declaration_made, moded_made, or_others, variables_run}
use Rattle.jc_unit_laws.specs.MemberReading.{MemberRest, code_rest_run, instance_made, is_low, item_rest_run, levels, member_made, member_rest_run, member_run, moded_item_run, moded_member, moded_member_run, rest_codes, rest_run, static_made}
use Rattle.jc_parse_nodes.specs.declared.trees.HeadTree.{HeadTree}
use Rattle.jc_parse_parts.specs.Parts.{head_tree}
use Rattle.jc_parse_nodes.specs.declared.pieces.Body.{Body}
use Rattle.jc_parse_nodes.specs.declared.pieces.Typed.{Typed}
use Rattle.jc_parse_heads.specs.UnitCode.{body_made, braced_items_run, braced_members_run, braces_list, coded_member_run, declaration_rest_run, items_until_run, static_run, typed_made, typed_run}
use Rattle.jc_parse_nodes.specs.Nodes.{declaration_of, locals_of, tree_head}
use Rattle.jc_parse_heads.proofs.Joinings.{first_made, or_this, or_that, second_made}
use Rattle.jc_parse_expr.proofs.PairSteps.{remade}

same_values : {A B : Type 0} (f g : A → B) (m : Read A) → ((a : A) → f a ≡ g a) → becoming f m ≡ becoming g m
same_values f g (Found a r l) e = ap (λ b. Found b r l) (e a)
same_values f g (Stopped l) e = refl

noted_joined : {A B C : Type 0} (make : (A × B) → C) (l : ℕ) (a : A) (v : Read B) → becoming make (noting l (becoming (joined a) v)) ≡ noting l (becoming (λ b. make (a, b)) v)
noted_joined make l a (Found b r k) = refl
noted_joined make l a (Stopped k) = refl

pub head_same : (ms : List Modifier) (p : HeadRest) → head_made ms p ≡ tree_head ms (head_tree p)
head_same ms (This p) = refl
head_same ms (That (This p)) = refl
head_same ms (That (That p)) = refl

pub declared_same : (ms : List Modifier) (r : DeclarationRest) → declaration_made ms r ≡ declaration_of ms (body_made r)
declared_same ms r = ap (λ (head : DeclarationHead). roll-Declaration (record { head = head; members = r.1.1.0 })) (head_same ms r.0)

abbrev pub body_node : (HeadTree × List Member) → Body
body_node p = record { head = p.0; members = p.1 }

module _ (h : ℕ) (ts : List Token) where
  pub rest_is : declaration_rest_run h ts ≡ as_new body_node (in_turn (as_new head_tree (head_rest_run (class_run h))) (braced_members_run h)) ts
  unfolding declaration_rest_run rest_run braced_members_run
  rest_is =
      let members = braced_run (member_run exprs h (levels exprs h)) in
      let middle : (HeadTree × Braces Member) → Body = λ p. record { head = p.0; members = p.1.1.0 } in
      first_made body_made head_tree middle members (λ a b. refl) (head_rest_run (class_run h)) ts
      ∙ second_made middle braces_list body_node (λ a b. refl) (as_new head_tree (head_rest_run (class_run h))) members ts

  abbrev pub block_member : Bool → (ℕ × List Stmt) → Member
  block_member is_static p = member_of.Initialiser p.0 is_static p.1

  pub instance_is : as_new instance_made (braced_at_run (levels exprs h).item) ts ≡ as_new (block_member false) (in_turn (at_kind (sign_code sign_of.LeftBrace)) (items_until_run h)) ts
  unfolding items_until_run
  instance_is = second_made instance_made before_it (block_member false) (λ a b. refl) (at_kind (sign_code sign_of.LeftBrace)) (in_turn (any_number (levels exprs h).item) (of_kind (sign_code sign_of.RightBrace))) ts

  pub static_is : static_run h ts ≡ as_new (block_member true) (in_turn (at_kind (key_code key_of.Static)) (braced_items_run h)) ts
  unfolding static_run braced_items_run
  static_is = second_made static_made braces_list (block_member true) (λ a b. refl) (at_kind (key_code key_of.Static)) (braced_run (levels exprs h).item) ts

module _ (h : ℕ) where
  abbrev Rest : Run DeclarationRest
  Rest = rest_run exprs h (levels exprs h)

  abbrev Lines : Run (TypeTree × Variables)
  Lines = in_turn (type_run h) (variables_run exprs h)

  abbrev pub declared_node : List Modifier → Body → Stmt
  declared_node ms b = stmt_of.Declared (declaration_of ms b)

  abbrev pub lines_node : List Modifier → Typed → Stmt
  lines_node ms t = stmt_of.Local (locals_of ms t)

  declared_goes : (ms : List Modifier) (q : List Token) → becoming (λ r. moded_made (ms, r)) (as_new This Rest q) ≡ becoming (declared_node ms) (declaration_rest_run h q)
  unfolding declaration_rest_run
  declared_goes ms q =
      remade This (λ r. moded_made (ms, r)) (λ r. stmt_of.Declared (declaration_made ms r)) (Rest q) (λ r. refl)
      ∙ same_values (λ r. stmt_of.Declared (declaration_made ms r)) (λ r. declared_node ms (body_made r)) (Rest q) (λ r. ap (λ d. stmt_of.Declared d) (declared_same ms r))
      ∙ sym (remade body_made (declared_node ms) (λ r. declared_node ms (body_made r)) (Rest q) (λ r. refl))

  lines_goes : (ms : List Modifier) (q : List Token) → becoming (λ r. moded_made (ms, r)) (as_new That Lines q) ≡ becoming (lines_node ms) (typed_run h q)
  unfolding typed_run
  lines_goes ms q =
      remade That (λ r. moded_made (ms, r)) (λ p. lines_node ms (typed_made p)) (Lines q) (λ r. refl)
      ∙ sym (remade typed_made (lines_node ms) (λ p. lines_node ms (typed_made p)) (Lines q) (λ r. refl))

  item_start : (ts q : List Token) (ms : List Modifier) (l : ℕ) → modifiers_run exprs h ts ≡ Found ms q l → moded_item_run exprs h (levels exprs h) ts ≡ noting l (becoming (λ r. moded_made (ms, r)) (item_rest_run exprs h (levels exprs h) ms q))
  unfolding moded_item_run
  item_start ts q ms l e =
      ap (λ (v : Read (List Modifier)). becoming moded_made (v >>= (λ a z. becoming (joined a) (item_rest_run exprs h (levels exprs h) a z)))) e
      ∙ noted_joined moded_made l ms (item_rest_run exprs h (levels exprs h) ms q)

  stands_goes : (ms : List Modifier) (q : List Token) → one_of rest_codes q ≡ true → becoming (λ r. moded_made (ms, r)) (item_rest_run exprs h (levels exprs h) ms q) ≡ becoming (declared_node ms) (declaration_rest_run h q)
  stands_goes [] q e = declared_goes [] q
  stands_goes (m ∷ ms) q e = ap (becoming (λ r. moded_made (m ∷ ms, r))) (cond-true (one_of rest_codes q) (becoming This (Rest q)) (becoming That (Lines q)) e) ∙ declared_goes (m ∷ ms) q

  other_goes : (ms : List Modifier) (q : List Token) → (ms ≡ [] → ⊥) → one_of rest_codes q ≡ false → becoming (λ r. moded_made (ms, r)) (item_rest_run exprs h (levels exprs h) ms q) ≡ becoming (lines_node ms) (typed_run h q)
  other_goes [] q n e = absurd (n refl)
  other_goes (m ∷ ms) q n e = ap (becoming (λ r. moded_made (m ∷ ms, r))) (cond-false (one_of rest_codes q) (becoming This (Rest q)) (becoming That (Lines q)) e) ∙ lines_goes (m ∷ ms) q

  none_goes : (ms : List Modifier) (q : List Token) → ms ≡ [] → becoming (λ r. moded_made (ms, r)) (item_rest_run exprs h (levels exprs h) ms q) ≡ becoming (declared_node ms) (declaration_rest_run h q)
  none_goes [] q e = declared_goes [] q
  none_goes (m ∷ ms) q e = absurd (cc)

  pub item_none : (ts q : List Token) (ms : List Modifier) (l : ℕ) → modifiers_run exprs h ts ≡ Found ms q l → ms ≡ [] → moded_item_run exprs h (levels exprs h) ts ≡ noting l (becoming (declared_node ms) (declaration_rest_run h q))
  item_none ts q ms l e n = item_start ts q ms l e ∙ ap (noting l) (none_goes ms q n)

  pub item_stands : (ts q : List Token) (ms : List Modifier) (l : ℕ) → modifiers_run exprs h ts ≡ Found ms q l → one_of rest_codes q ≡ true → moded_item_run exprs h (levels exprs h) ts ≡ noting l (becoming (declared_node ms) (declaration_rest_run h q))
  item_stands ts q ms l e n = item_start ts q ms l e ∙ ap (noting l) (stands_goes ms q n)

  pub item_lines : (ts q : List Token) (ms : List Modifier) (l : ℕ) → modifiers_run exprs h ts ≡ Found ms q l → (ms ≡ [] → ⊥) → one_of rest_codes q ≡ false → moded_item_run exprs h (levels exprs h) ts ≡ noting l (becoming (lines_node ms) (typed_run h q))
  item_lines ts q ms l e n o = item_start ts q ms l e ∙ ap (noting l) (other_goes ms q n o)

  -- members

  abbrev pub nested_node : List Modifier → Body → Member
  nested_node ms b = member_of.Nested (declaration_of ms b)

  member_start : (ts q : List Token) (ms : List Modifier) (l : ℕ) → modifiers_run exprs h ts ≡ Found ms q l → moded_member_run exprs h (levels exprs h) ts ≡ noting l (becoming (member_made ms) (member_rest_run exprs h (levels exprs h) ms q))
  unfolding moded_member_run
  member_start ts q ms l e =
      ap (λ (v : Read (List Modifier)). becoming moded_member (v >>= (λ a z. becoming (joined a) (member_rest_run exprs h (levels exprs h) a z)))) e
      ∙ noted_joined moded_member l ms (member_rest_run exprs h (levels exprs h) ms q)

  nested_goes : (ms : List Modifier) (q : List Token) → becoming (member_made ms) (becoming This ((levels exprs h).rest q)) ≡ becoming (nested_node ms) (as_new body_made (levels exprs h).rest q)
  nested_goes ms q =
      remade This (member_made ms) (λ r. member_of.Nested (declaration_made ms r)) ((levels exprs h).rest q) (λ r. refl)
      ∙ same_values (λ r. member_of.Nested (declaration_made ms r)) (λ r. nested_node ms (body_made r)) ((levels exprs h).rest q) (λ r. ap (λ d. member_of.Nested d) (declared_same ms r))
      ∙ sym (remade body_made (nested_node ms) (λ r. nested_node ms (body_made r)) ((levels exprs h).rest q) (λ r. refl))

  code_goes : (ms : List Modifier) (q : List Token) → becoming (member_made ms) (becoming That (code_rest_run exprs h (levels exprs h) q)) ≡ coded_member_run h ms q
  unfolding coded_member_run
  code_goes ms q = remade That (member_made ms) (λ r. member_made ms (That r)) (code_rest_run exprs h (levels exprs h) q) (λ r. refl)

  pub member_nested : (ts q : List Token) (ms : List Modifier) (l : ℕ) → modifiers_run exprs h ts ≡ Found ms q l → is_low h ms ≡ true → one_of rest_codes q ≡ true → moded_member_run exprs h (levels exprs h) ts ≡ noting l (becoming (nested_node ms) (as_new body_made (levels exprs h).rest q))
  member_nested ts q ms l e low o =
      member_start ts q ms l e
      ∙ ap (λ (v : Read MemberRest). noting l (becoming (member_made ms) v))
      (cond-true (is_low h ms) (either rest_codes (levels exprs h).rest (code_rest_run exprs h (levels exprs h)) q) (as_new That (code_rest_run exprs h (levels exprs h)) q) low
      ∙ cond-true (one_of rest_codes q) (becoming This ((levels exprs h).rest q)) (becoming That (code_rest_run exprs h (levels exprs h) q)) o)
      ∙ ap (noting l) (nested_goes ms q)

  code_by : (ms : List Modifier) (q : List Token) (low o : Bool) → (low && o) ≡ false → cond low (cond o (becoming This ((levels exprs h).rest q)) (becoming That (code_rest_run exprs h (levels exprs h) q))) (becoming That (code_rest_run exprs h (levels exprs h) q)) ≡ becoming That (code_rest_run exprs h (levels exprs h) q)
  code_by ms q true true e = absurd (cc)
  code_by ms q true false e = refl
  code_by ms q false o e = refl

  pub member_coded : (ts q : List Token) (ms : List Modifier) (l : ℕ) → modifiers_run exprs h ts ≡ Found ms q l → (is_low h ms && one_of rest_codes q) ≡ false → moded_member_run exprs h (levels exprs h) ts ≡ noting l (coded_member_run h ms q)
  member_coded ts q ms l e n =
      member_start ts q ms l e ∙ ap (λ (v : Read MemberRest). noting l (becoming (member_made ms) v)) (code_by ms q (is_low h ms) (one_of rest_codes q) n) ∙ ap (noting l) (code_goes ms q)

  and_none : (b : Bool) → (b && false) ≡ false
  and_none true = refl
  and_none false = refl

  pub member_high : (ts q : List Token) (ms : List Modifier) (l : ℕ) → modifiers_run exprs h ts ≡ Found ms q l → is_low h ms ≡ false → moded_member_run exprs h (levels exprs h) ts ≡ noting l (coded_member_run h ms q)
  member_high ts q ms l e n = member_coded ts q ms l e (ap (λ (b : Bool). b && one_of rest_codes q) n)

  pub member_other : (ts q : List Token) (ms : List Modifier) (l : ℕ) → modifiers_run exprs h ts ≡ Found ms q l → one_of rest_codes q ≡ false → moded_member_run exprs h (levels exprs h) ts ≡ noting l (coded_member_run h ms q)
  member_other ts q ms l e n = member_coded ts q ms l e (ap (λ (b : Bool). is_low h ms && b) n ∙ and_none (is_low h ms))

-- by what stands at the front

abbrev Semicolon : List ℕ
Semicolon = sign_code sign_of.Semicolon ∷ []

abbrev Brace : List ℕ
Brace = sign_code sign_of.LeftBrace ∷ []

module _ (h : ℕ) (ts : List Token) where
  abbrev Second : Bool
  Second = second_is (key_code key_of.Static) Brace ts

  abbrev Static : Run Member
  Static = as_new static_made (in_turn (at_kind (key_code key_of.Static)) (braced_run (levels exprs h).item))

  abbrev Instance : Run Member
  Instance = as_new instance_made (braced_at_run (levels exprs h).item)

  abbrev Third : Run Member
  Third = as_new either_one (by_second (key_code key_of.Static) Brace Static (moded_member_run exprs h (levels exprs h)))

  abbrev Bare : Run Member
  Bare = as_new member_of.Semicolon (at_kind (sign_code sign_of.Semicolon))

  pub member_semicolon : one_of Semicolon ts ≡ true → member_run exprs h (levels exprs h) ts ≡ as_new member_of.Semicolon (at_kind (sign_code sign_of.Semicolon)) ts
  unfolding member_run
  member_semicolon e = or_this Semicolon Bare (or_others Brace Instance Third) ts e

  pub member_block : one_of Semicolon ts ≡ false → one_of Brace ts ≡ true → member_run exprs h (levels exprs h) ts ≡ as_new instance_made (braced_at_run (levels exprs h).item) ts
  unfolding member_run
  member_block e f = or_that Semicolon Bare (or_others Brace Instance Third) ts e ∙ or_this Brace Instance Third ts f

  one_same : (m : Read Member) → becoming either_one (becoming {A = Member} {B = Either Member Member} This m) ≡ m
  one_same (Found a r l) = refl
  one_same (Stopped l) = refl

  other_same : (m : Read Member) → becoming either_one (becoming {A = Member} {B = Either Member Member} That m) ≡ m
  other_same (Found a r l) = refl
  other_same (Stopped l) = refl

  pub member_static : one_of Semicolon ts ≡ false → one_of Brace ts ≡ false → Second ≡ true → member_run exprs h (levels exprs h) ts ≡ static_run h ts
  unfolding member_run static_run
  member_static e f s =
      or_that Semicolon Bare (or_others Brace Instance Third) ts e ∙ or_that Brace Instance Third ts f
      ∙ ap (becoming either_one) (cond-true Second (becoming This (Static ts)) (past (key_code key_of.Static) ts (becoming That (moded_member_run exprs h (levels exprs h) ts))) s) ∙ one_same (Static ts)

  past_same : (q : List Token) (m : Read Member) → becoming either_one (past (key_code key_of.Static) q (becoming {A = Member} {B = Either Member Member} That m)) ≡ past (key_code key_of.Static) q m
  past_same [] m = other_same m
  past_same (t ∷ q) m = by_kind (kind_code t.kind == key_code key_of.Static) m
    where
      by_kind : (b : Bool) (m : Read Member) → becoming either_one (cond b (noting (length q) (becoming {A = Member} {B = Either Member Member} That m)) (becoming That m)) ≡ cond b (noting (length q) m) m
      by_kind true (Found a r l) = refl
      by_kind true (Stopped l) = refl
      by_kind false m = other_same m

  pub member_moded : one_of Semicolon ts ≡ false → one_of Brace ts ≡ false → Second ≡ false → member_run exprs h (levels exprs h) ts ≡ past (key_code key_of.Static) ts (moded_member_run exprs h (levels exprs h) ts)
  unfolding member_run
  member_moded e f s =
      or_that Semicolon Bare (or_others Brace Instance Third) ts e ∙ or_that Brace Instance Third ts f
      ∙ ap (becoming either_one) (cond-false Second (becoming This (Static ts)) (past (key_code key_of.Static) ts (becoming That (moded_member_run exprs h (levels exprs h) ts))) s) ∙ past_same ts (moded_member_run exprs h (levels exprs h) ts)
