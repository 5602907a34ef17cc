-- Statements that their first token tells: blocks, loops and jumps.
use Rattle.std.proofs.Common.{◌≡◌, ℕ, zero, suc, max, Bool, true, false, List, [], ◌∷◌, ◌++◌, map, refl, sym, ap, ◌∙◌, inl, inr, arith}
use Rattle.std.proofs.Math.Bool.{and-true}
use Rattle.std.proofs.lemmas.Bool.{false≢true, and_left}
use Rattle.std.proofs.lemmas.Grind.{common_steps}
use Rattle.std.specs.Prelude.{◌&&◌, nat_le}
use Rattle.std.specs.List.{list_all}
use Rattle.jc_lexer.specs.declared.token.Key.TheVariants as key_of
use Rattle.jc_lexer.specs.declared.token.Sign.TheVariants as sign_of
use Rattle.jc_lexer.specs.declared.token.Token.{Token}
use Rattle.jc_tree.specs.declared.expression.Expr.{Expr}
use Rattle.jc_tree.specs.declared.statement.Clause.{Clause}
use Rattle.jc_tree.specs.declared.statement.Declaration.{Declaration}
use Rattle.jc_tree.specs.declared.statement.Member.{Member}
use Rattle.jc_tree.specs.declared.statement.Stmt.{Stmt, Stmt-F, out-Stmt, roll-Stmt, roll-out-Stmt}
use Rattle.jc_tree.specs.declared.statement.Stmt.TheVariants as stmt_of
use Rattle.jc_tree.specs.Heights.{most, expr_height, stmt_height, declaration_height}
use Rattle.jc_tree.proofs.HeightsOfStatements.{stmt_height-Block, stmt_height-Empty, stmt_height-While}
use Rattle.jc_grammar.specs.Told.{Told, sign, sign_at, each}
use Rattle.jc_grammar.specs.Shapes.{is_expr}
use Rattle.jc_grammar.specs.Statements.{stmt_tokens}
use Rattle.jc_grammar.specs.Units.{StmtShape, Anywhere, statement, in_body, in_block, in_switch, behind_else, stmt_shape, is_declaration}
use Rattle.jc_grammar.proofs.ShapesOfStatements.{stmt_shape-Block, stmt_shape-Empty, stmt_shape-While}
use Rattle.jc_grammar.proofs.TokensOfStatements.{stmt_tokens-Block, stmt_tokens-Empty, stmt_tokens-While}
use Rattle.jc_reading.specs.Kinds.{sign_code, key_code, one_of}
use Rattle.jc_reading.proofs.Steps.{IsFound}
use Rattle.jc_reading.proofs.Forms.{Lawful, Stands}
use Rattle.jc_reading.proofs.Lists.{tell_all, fits_all}
use Rattle.jc_reading.proofs.Rooms.{room_above, room_suc, room_max}
use Rattle.jc_reading.specs.Further.{with_room}
use Rattle.jc_part_laws.specs.PartReading.{Exprs}
use Rattle.jc_part_laws.proofs.AnnotationForms.{room_and}
use Rattle.jc_reading.proofs.Coded.{Coded, formed, in_order, repeated, made, OfKind, kind_makes}
use Rattle.jc_part_laws.proofs.ExprForms.{ExprLaws, expr_codes, expr_coded, expr_tall}
use Rattle.jc_reading.proofs.Lowest.{Law, Void, roomy, made_law, repeated_law, never_first, never_second}
use Rattle.jc_part_laws.proofs.ModifierForms.{modifier_codes}
use Rattle.jc_part_laws.proofs.PartForms.{sign_form, sign_at_form, key_at_form}
use Rattle.jc_unit_laws.specs.UnitReading.{Level, DeclarationRest, declaration_made, PlacedBraces, block_made, while_made, block_run, empty_run, while_run}
use Rattle.jc_unit_laws.proofs.Closed.{closed_order, closed_made}
use Rattle.jc_unit_laws.proofs.Bundles.{Has, has, a_sign, a_sign_at, a_key_at, then_a, roomy_zero, roomy_suc}

-- where a statement may begin that is no declaration: a keyword, a brace, a semicolon or an expression
abbrev pub simple_codes : List ℕ
simple_codes =
    sign_code sign_of.LeftBrace ∷ sign_code sign_of.Semicolon ∷ key_code key_of.While ∷ key_code key_of.Do ∷ key_code key_of.For ∷ key_code key_of.Switch ∷ key_code key_of.Return ∷ key_code key_of.Break ∷ key_code key_of.Continue
    ∷ key_code key_of.Throw ∷ key_code key_of.Try ∷ []

abbrev pub stmt_codes : List ℕ
stmt_codes = key_code key_of.If ∷ simple_codes ++ expr_codes

abbrev pub item_codes : List ℕ
item_codes = key_code key_of.Class ∷ key_code key_of.Interface ∷ modifier_codes ++ stmt_codes

-- behind a statement
abbrev pub else_codes : List ℕ
else_codes = key_code key_of.Else ∷ []

abbrev pub behind_codes : List ℕ
behind_codes = key_code key_of.Else ∷ key_code key_of.Catch ∷ key_code key_of.Finally ∷ []

module _ (h : ℕ) (l : Level) where
  abbrev pub body_coded : Coded Stmt
  body_coded = record { tell = stmt_tokens; fits = λ s. nat_le (stmt_height s) h && in_body (stmt_shape s); run = l.body; starts = stmt_codes; goes = behind_codes; empties = false }

  abbrev pub other_coded : Coded Stmt
  other_coded = record { tell = stmt_tokens; fits = λ s. nat_le (stmt_height s) h && behind_else (stmt_shape s); run = l.other; starts = simple_codes ++ expr_codes; goes = behind_codes; empties = false }

  abbrev pub item_coded : Coded Stmt
  item_coded = record { tell = stmt_tokens; fits = λ s. nat_le (stmt_height s) h && in_block (stmt_shape s); run = l.item; starts = item_codes; goes = behind_codes; empties = false }

  abbrev pub case_item_coded : Coded Stmt
  case_item_coded = record { tell = stmt_tokens; fits = λ s. nat_le (stmt_height s) h && in_switch (stmt_shape s); run = l.case_item; starts = modifier_codes ++ stmt_codes; goes = behind_codes; empties = false }

  abbrev pub first_coded : Coded Stmt
  first_coded = record { tell = stmt_tokens; fits = λ s. nat_le (stmt_height s) h && (stmt_shape s).good; run = l.first; starts = item_codes; goes = behind_codes; empties = false }

  abbrev pub rest_fits : DeclarationRest → Bool
  rest_fits p = nat_le (declaration_height (declaration_made [] p)) h && is_declaration (declaration_made [] p)

  -- no statement has room
  pub record Voids : Type 0 where
    pub body : Void Stmt body_coded
    pub other : Void Stmt other_coded
    pub item : Void Stmt item_coded
    pub case_item : Void Stmt case_item_coded
    pub first : Void Stmt first_coded

  pub record Fulls : Type 0 where
    pub body : Lawful Stmt (formed body_coded)
    pub other : Lawful Stmt (formed other_coded)
    pub item : Lawful Stmt (formed item_coded)
    pub case_item : Lawful Stmt (formed case_item_coded)
    pub first : Lawful Stmt (formed first_coded)
    -- a body that an `else` behind it wouldn't belong to is found before one, and so is what stands behind an `else`
    pub closed : (ts : List Token) (s : Stmt) (r : List Token) → Stands (formed body_coded) ts s r → (stmt_shape s).open_end ≡ false → one_of else_codes r ≡ true → IsFound s r (l.body ts)
    pub closed_other : (ts : List Token) (s : Stmt) (r : List Token) → Stands (formed other_coded) ts s r → (stmt_shape s).open_end ≡ false → one_of else_codes r ≡ true → IsFound s r (l.other ts)

abbrev pub LevelLaws : ℕ → Level → Type 0
LevelLaws zero l = Voids 0 l
LevelLaws (suc k) l = Fulls (suc k) l

pub item_law : (h : ℕ) (l : Level) → LevelLaws h l → Law Stmt (item_coded h l)
item_law zero l v = inr v.item
item_law (suc k) l f = inl f.item

pub case_item_law : (h : ℕ) (l : Level) → LevelLaws h l → Law Stmt (case_item_coded h l)
case_item_law zero l v = inr v.case_item
case_item_law (suc k) l f = inl f.case_item

pub first_law : (h : ℕ) (l : Level) → LevelLaws h l → Law Stmt (first_coded h l)
first_law zero l v = inr v.first
first_law (suc k) l f = inl f.first

pub body_law : (h : ℕ) (l : Level) → LevelLaws h l → Law Stmt (body_coded h l)
body_law zero l v = inr v.body
body_law (suc k) l f = inl f.body

abbrev pub Layer : Type 0
Layer = Stmt-F Member Stmt Clause Declaration

abbrev pub is_block : Layer → Bool
is_block (Stmt-F.Block at items) = true
is_block _ = false

abbrev pub is_empty : Layer → Bool
is_empty (Stmt-F.Empty at) = true
is_empty _ = false

abbrev pub is_while : Layer → Bool
is_while (Stmt-F.While at test body) = true
is_while _ = false

abbrev pub is_do : Layer → Bool
is_do (Stmt-F.Do at body test) = true
is_do _ = false

abbrev pub is_return : Layer → Bool
is_return (Stmt-F.Return at value) = true
is_return _ = false

abbrev pub is_break : Layer → Bool
is_break (Stmt-F.Break at label) = true
is_break _ = false

abbrev pub is_continue : Layer → Bool
is_continue (Stmt-F.Continue at label) = true
is_continue _ = false

abbrev pub is_throw : Layer → Bool
is_throw (Stmt-F.Throw at value) = true
is_throw _ = false

-- a statement that the grammar has, at most so high
abbrev pub good_at : ℕ → Stmt → Bool
good_at h s = nat_le (stmt_height s) (suc h) && (stmt_shape s).good

pub good_made : (h : ℕ) (s : Stmt) (n : ℕ) (g : StmtShape) → stmt_height s ≡ suc n → stmt_shape s ≡ g → good_at h s ≡ (nat_le n h && g.good)
good_made h s n g e f = ap (λ k. nat_le k (suc h) && (stmt_shape s).good) e ∙ ap (λ b. b && (stmt_shape s).good) (room_suc n h) ∙ ap (λ (v : StmtShape). nat_le n h && v.good) f

-- the one kind of statement
module _ (A : Type 0) (h : ℕ) (ca : Coded A) (make : A → Stmt) (kind : Layer → Bool) where
  abbrev pub stmt_fits : Stmt → Bool
  stmt_fits s = kind (out-Stmt s) && good_at h s

  abbrev pub stmt_made : Coded Stmt
  stmt_made = made A Stmt ca make stmt_tokens stmt_fits

  pub stmt_made_law : Law A ca → OfKind A Stmt ca make stmt_tokens (λ s. kind (out-Stmt s)) (good_at h) → Law Stmt stmt_made
  stmt_made_law l o = made_law A Stmt ca make stmt_tokens stmt_fits l (kind_makes A Stmt ca make stmt_tokens (λ s. kind (out-Stmt s)) (good_at h) o)

-- statements one behind the other
pub told_items : (items : List Stmt) (r : List Told) → each (map stmt_tokens items) r ≡ tell_all stmt_tokens items r
told_items [] r = refl
told_items (s ∷ items) r = ap (stmt_tokens s) (told_items items r)

pub all_shaped : (test : StmtShape → Bool) (items : List Stmt) → list_all test (map stmt_shape items) ≡ list_all (λ s. test (stmt_shape s)) items
all_shaped test [] = refl
all_shaped test (s ∷ items) = ap (λ b. test (stmt_shape s) && b) (all_shaped test items)

-- Block

module _ (x : Exprs) (h : ℕ) (l : Level) where
  abbrev BlockParts : Coded (PlacedBraces Stmt)
  BlockParts = in_order (sign_at_form sign_of.LeftBrace) (in_order (repeated (item_coded h l)) (sign_form sign_of.RightBrace))

  pub items_fit : (items : List Stmt) → (nat_le (most (map stmt_height items)) h && list_all in_block (map stmt_shape items)) ≡ fits_all (item_coded h l).fits items
  items_fit items = ap (λ b. nat_le (most (map stmt_height items)) h && b) (all_shaped in_block items) ∙ room_and stmt_height (λ s. in_block (stmt_shape s)) h items

  fit_block : (p : PlacedBraces Stmt) → good_at h (block_made p) ≡ BlockParts.fits p
  fit_block (at, (items, u)) =
      good_made h (stmt_of.Block at items) (most (map stmt_height items)) (statement Anywhere (list_all in_block (map stmt_shape items))) (stmt_height-Block at items) (stmt_shape-Block at items)
      ∙ items_fit items ∙ sym (and-true (fits_all (item_coded h l).fits items))

  back_block : (s : Stmt) (layer : Layer) → out-Stmt s ≡ layer → is_block layer ≡ true → (p : PlacedBraces Stmt) × (block_made p ≡ s)
  back_block s (Stmt-F.Block at items) e g = ((at, (items, tt)), sym (stmt_of.rolls-Block at items) ∙ ap roll-Stmt (sym e) ∙ roll-out-Stmt s)
  back_block s _ e g = absurd (false≢true g)

  abbrev pub block_coded : Coded Stmt
  block_coded = record { tell = stmt_tokens; fits = stmt_fits (PlacedBraces Stmt) h BlockParts block_made is_block; run = block_run x h l; starts = sign_code sign_of.LeftBrace ∷ []; goes = []; empties = false }

  pub block_law : LevelLaws h l → Law Stmt block_coded
  unfolding block_run
  block_law f =
      stmt_made_law (PlacedBraces Stmt) h BlockParts block_made is_block
      (inl (then_a (a_sign_at sign_of.LeftBrace) (then_a (has (repeated (item_coded h l)) (repeated_law Stmt (item_coded h l) (item_law h l f) refl refl)) (a_sign sign_of.RightBrace) refl) refl).laws)
      (record {
        told = λ p r. stmt_tokens-Block p.0 p.1.0 r ∙ ap (λ (t : List Told). sign_at sign_of.LeftBrace p.0 ∷ t) (told_items p.1.0 (sign sign_of.RightBrace ∷ r));
        fit = fit_block;
        is_kind = λ p. ap is_block (stmt_of.outs-Block p.0 p.1.0);
        back = λ s g. back_block s (out-Stmt s) refl g;
      })

  -- Empty

  back_empty : (s : Stmt) (layer : Layer) → out-Stmt s ≡ layer → is_empty layer ≡ true → (at : ℕ) × (stmt_of.Empty at ≡ s)
  back_empty s (Stmt-F.Empty at) e g = (at, sym (stmt_of.rolls-Empty at) ∙ ap roll-Stmt (sym e) ∙ roll-out-Stmt s)
  back_empty s _ e g = absurd (false≢true g)

  abbrev pub empty_coded : Coded Stmt
  empty_coded = record { tell = stmt_tokens; fits = stmt_fits ℕ h (sign_at_form sign_of.Semicolon) stmt_of.Empty is_empty; run = empty_run x h l; starts = sign_code sign_of.Semicolon ∷ []; goes = []; empties = false }

  pub empty_law : Law Stmt empty_coded
  unfolding empty_run
  empty_law =
      stmt_made_law ℕ h (sign_at_form sign_of.Semicolon) stmt_of.Empty is_empty (inl (a_sign_at sign_of.Semicolon).laws)
      (record {
        told = λ at r. stmt_tokens-Empty at r;
        fit = λ at. good_made h (stmt_of.Empty at) 0 (statement Anywhere true) (stmt_height-Empty at) (stmt_shape-Empty at) ∙ ap (λ b. b && true) (room_above h);
        is_kind = λ at. ap is_empty (stmt_of.outs-Empty at);
        back = λ s g. back_empty s (out-Stmt s) refl g;
      })

  -- While

  abbrev pub Parens : Coded (Unit {0} × (Expr × Unit {0}))
  Parens = in_order (sign_form sign_of.LeftParen) (in_order (expr_coded x h) (sign_form sign_of.RightParen))

  abbrev pub WhileParts : Coded (ℕ × ((Unit {0} × (Expr × Unit {0})) × Stmt))
  WhileParts = in_order (key_at_form key_of.While) (in_order Parens (body_coded h l))

  while_bits : (e b i g : Bool) → ((e && b) && (i && g)) ≡ (true && ((true && ((e && i) && true)) && (b && g)))
  while_bits e b i g = grind (arith, common_steps)

  fit_while : (p : ℕ × ((Unit {0} × (Expr × Unit {0})) × Stmt)) → good_at h (while_made p) ≡ WhileParts.fits p
  fit_while (at, ((u, (test, v)), body)) =
      good_made h (stmt_of.While at test body) (max (expr_height test) (stmt_height body)) _ (stmt_height-While at test body) (stmt_shape-While at test body)
      ∙ ap (λ b. b && (is_expr test && in_body (stmt_shape body))) (room_max (expr_height test) (stmt_height body) h)
      ∙ while_bits (nat_le (expr_height test) h) (nat_le (stmt_height body) h) (is_expr test) (in_body (stmt_shape body))

  back_while : (s : Stmt) (layer : Layer) → out-Stmt s ≡ layer → is_while layer ≡ true → (p : ℕ × ((Unit {0} × (Expr × Unit {0})) × Stmt)) × (while_made p ≡ s)
  back_while s (Stmt-F.While at test body) e g = ((at, ((tt, (test, tt)), body)), sym (stmt_of.rolls-While at test body) ∙ ap roll-Stmt (sym e) ∙ roll-out-Stmt s)
  back_while s _ e g = absurd (false≢true g)

  pub while_kind : OfKind (ℕ × ((Unit {0} × (Expr × Unit {0})) × Stmt)) Stmt (roomy h WhileParts) while_made stmt_tokens (λ s. is_while (out-Stmt s)) (good_at h)
  while_kind = record { told = λ p r. stmt_tokens-While p.0 p.1.0.1.0 p.1.1 r; fit = fit_while; is_kind = λ p. ap is_while (stmt_of.outs-While p.0 p.1.0.1.0 p.1.1); back = λ s g. back_while s (out-Stmt s) refl g }

pub expr_never : (x : Exprs) (e : Expr) → (expr_coded x 0).fits e ≡ false
expr_never x e = and_left (nat_le (expr_height e) 0) (is_expr e) (expr_tall e)

pub parens_never : (x : Exprs) (l : Level) (p : Unit {0} × (Expr × Unit {0})) → (Parens x 0 l).fits p ≡ false
parens_never x l = never_second (Unit {0}) (Expr × Unit {0}) (sign_form sign_of.LeftParen) (in_order (expr_coded x 0) (sign_form sign_of.RightParen)) (never_first Expr (Unit {0}) (expr_coded x 0) (sign_form sign_of.RightParen) (expr_never x))

abbrev pub parens_has : (x : Exprs) (lx : ExprLaws x) (k : ℕ) (l : Level) → Has (Unit {0} × (Expr × Unit {0}))
parens_has x lx k l = then_a (a_sign sign_of.LeftParen) (then_a (has (expr_coded x (suc k)) (lx.expr k)) (a_sign sign_of.RightParen) refl) refl

while_room : (x : Exprs) (lx : ExprLaws x) (h : ℕ) (l : Level) → LevelLaws h l → Law (ℕ × ((Unit {0} × (Expr × Unit {0})) × Stmt)) (roomy h (WhileParts x h l))
while_room x lx zero l f = roomy_zero (WhileParts x 0 l) (never_second ℕ ((Unit {0} × (Expr × Unit {0})) × Stmt) (key_at_form key_of.While) (in_order (Parens x 0 l) (body_coded 0 l)) (never_first (Unit {0} × (Expr × Unit {0})) Stmt (Parens x 0 l) (body_coded 0 l) (parens_never x l)))
while_room x lx (suc k) l f = roomy_suc k (WhileParts x (suc k) l) (then_a (a_key_at key_of.While) (then_a (parens_has x lx k l) (has (body_coded (suc k) l) f.body) refl) refl).laws

module _ (x : Exprs) (lx : ExprLaws x) (h : ℕ) (l : Level) where
  abbrev pub while_coded : Coded Stmt
  while_coded = record { tell = stmt_tokens; fits = stmt_fits (ℕ × ((Unit {0} × (Expr × Unit {0})) × Stmt)) h (roomy h (WhileParts x h l)) while_made is_while; run = while_run x h l; starts = key_code key_of.While ∷ []; goes = behind_codes; empties = false }

  pub while_law : LevelLaws h l → Law Stmt while_coded
  unfolding while_run
  while_law f =
      stmt_made_law (ℕ × ((Unit {0} × (Expr × Unit {0})) × Stmt)) h (roomy h (WhileParts x h l)) while_made is_while (while_room x lx h l f)
      (while_kind x h l)

pub closed_while : (x : Exprs) (lx : ExprLaws x) (k : ℕ) (l : Level) (f : LevelLaws (suc k) l) (ts : List Token) (s : Stmt) (r : List Token) → Stands (formed (while_coded x lx (suc k) l)) ts s r → (stmt_shape s).open_end ≡ false → one_of else_codes r ≡ true → IsFound s r (while_run x (suc k) l ts)
unfolding while_run with_room
closed_while x lx k l f ts s r t e n =
    let inner = then_a (parens_has x lx k l) (has (body_coded (suc k) l) f.body) refl in
    closed_made (ℕ × ((Unit {0} × (Expr × Unit {0})) × Stmt)) Stmt (roomy (suc k) (WhileParts x (suc k) l)) while_made stmt_tokens (stmt_fits (ℕ × ((Unit {0} × (Expr × Unit {0})) × Stmt)) (suc k) (roomy (suc k) (WhileParts x (suc k) l)) while_made is_while)
    (kind_makes (ℕ × ((Unit {0} × (Expr × Unit {0})) × Stmt)) Stmt (roomy (suc k) (WhileParts x (suc k) l)) while_made stmt_tokens (λ s. is_while (out-Stmt s)) (good_at (suc k))
    (while_kind x (suc k) l)) ts s r t
    (λ p q u. closed_order _ _ (key_at_form key_of.While) inner.form (a_key_at key_of.While).laws inner.laws refl refl ts p r u
    (λ m v. closed_order _ _ (Parens x (suc k) l) (body_coded (suc k) l) (parens_has x lx k l).laws f.body refl refl m p.1 r v
    (λ o w. f.closed o p.1.1 r w (sym (ap (λ (g : StmtShape). g.open_end) (stmt_shape-While p.0 p.1.0.1.0 p.1.1)) ∙ ap (λ (v : Stmt). (stmt_shape v).open_end) q ∙ e) n)))
