-- Sources break the syntax in one way, or they have trees.
use Rattle.std.proofs.Common.{◌≡◌, ℕ, ◌+◌, ◌<◌, ◌≤◌, false, List, [], ◌∷◌, ◌++◌, length, take, drop, Option, Some, None, refl, sym, ap, ◌∙◌, subst, arith, append_assoc, ◌⊎◌, inl, inr}
use Rattle.std.proofs.lemmas.List.{take-append-drop, take-take}
use Rattle.std.specs.Prelude.{slice_index_or}
use Rattle.jc_rules.specs.declared.rule.Refusal.{Refusal}
use Rattle.jc_lexer.specs.declared.token.Token.{Token}
use Rattle.jc_tree.specs.declared.fault.ParseFault.{ParseFault}
use Rattle.jc_tree.specs.declared.fault.ParseFault.TheVariants as fault_of
use Rattle.jc_tree.specs.declared.statement.SourceFile.{SourceFile}
use Rattle.jc_grammar.specs.Spelling.{most_height, BeginsFile, NoFileBegins, SpellsFile}
use Rattle.jc_left_out.specs.LeftOut.{first_left_out_form, left_out_forms, least_of, place_of}
use Rattle.jc_unit_laws.specs.UnitAnswers.{FileStands, IsFilePlace, NoUnitFault, UnitStands}
use Rattle.jc_unit_laws.proofs.UnitWhole.{only_file}
use Rattle.jc_syntax.specs.Stage.{BreaksIn, BreaksSyntax, HaveUnits, SyntaxIsTold, refusal_of}

-- ---- one file

some_place : (x : Option ℕ) (n m : ℕ) → x ≡ Some n → x ≡ Some m → n ≡ m
some_place x n m e f = cc

no_place : (x : Option ℕ) (n : ℕ) → x ≡ None → x ≡ Some n → ⊥
no_place x n e f = cc

-- what a file begins with it also begins with less of
not_later : (tokens : List Token) (place other : ℕ) → other ≤ length tokens → place < other → BeginsFile most_height (take other tokens) → NoFileBegins most_height (take (place + 1) tokens) → ⊥
not_later tokens place other l h (file, more, spells) none =
    let less : take (place + 1) (take other tokens) ≡ take (place + 1) tokens = take-take (place + 1) other tokens (omega (arith, h)) in
    let whole : take (place + 1) tokens ++ drop (place + 1) (take other tokens) ≡ take other tokens =
    ap (λ (x : List Token). x ++ drop (place + 1) (take other tokens)) (sym less) ∙ take-append-drop (place + 1) (take other tokens) in
    let split : take other tokens ++ more ≡ take (place + 1) tokens ++ (drop (place + 1) (take other tokens) ++ more) =
    ap (λ (x : List Token). x ++ more) (sym whole) ∙ append_assoc (take (place + 1) tokens) (drop (place + 1) (take other tokens)) more in
    none file (drop (place + 1) (take other tokens) ++ more) (subst (λ (x : List Token). SpellsFile most_height x file) split spells)

by_order : (place other : ℕ) → (place ≡ other) ⊎ ((place < other) ⊎ (other < place))
by_order place other = grind arith

one_place : (tokens : List Token) (place other : ℕ) → IsFilePlace tokens place → IsFilePlace tokens other → place ≡ other
one_place tokens place other p q = by (by_order place other)
  where
    by : (place ≡ other) ⊎ ((place < other) ⊎ (other < place)) → place ≡ other
    by (inl e) = e
    by (inr (inl l)) = absurd (not_later tokens place other q.0 l q.1 (p.2 (omega (arith, l, q.0))))
    by (inr (inr l)) = absurd (not_later tokens other place p.0 l p.1 (q.2 (omega (arith, l, p.0))))

-- a file of the language has no form that is left out
no_form : (tokens : List Token) (file other : SourceFile) (place : ℕ) → FileStands tokens file → left_out_forms file ≡ [] → FileStands tokens other → first_left_out_form tokens other ≡ Some place → ⊥
no_form tokens file other place s n t f =
    let same : other ≡ file = only_file tokens other file t s in
    let none : place_of tokens (least_of (left_out_forms other)) ≡ None = ap (λ (x : SourceFile). place_of tokens (least_of (left_out_forms x))) same ∙ ap (λ (x : List ℕ). place_of tokens (least_of x)) n in
    no_place _ place none f

one_form : (tokens : List Token) (file other : SourceFile) (n m : ℕ) → FileStands tokens file → FileStands tokens other → first_left_out_form tokens file ≡ Some n → first_left_out_form tokens other ≡ Some m → n ≡ m
one_form tokens file other n m s t e f = some_place _ n m (ap (λ (x : SourceFile). first_left_out_form tokens x) (only_file tokens other file t s) ∙ e) f

no_fault : (tokens : List Token) (unit : SourceFile) (fault : ParseFault) → UnitStands false tokens unit → NoUnitFault false tokens fault → ⊥
no_fault tokens unit (fault_of.Syntax place) u f = f.1.1 unit u.1
no_fault tokens unit (fault_of.LeftOut rule place) u (inl w) = no_place _ place u.0 w.1
no_fault tokens unit (fault_of.LeftOut rule place) u (inr f) = no_form tokens unit f.2 place u.1 u.2 f.3 f.4

one_fault : (tokens : List Token) (fault other : ParseFault) → NoUnitFault false tokens fault → NoUnitFault false tokens other → fault ≡ other
one_fault tokens (fault_of.Syntax place) (fault_of.Syntax other) p q = ap (λ (n : ℕ). fault_of.Syntax n) (one_place tokens place other p.1.0 q.1.0)
one_fault tokens (fault_of.Syntax place) (fault_of.LeftOut rule other) p (inl w) = absurd (no_place _ other p.0 w.1)
one_fault tokens (fault_of.Syntax place) (fault_of.LeftOut rule other) p (inr f) = absurd (p.1.1 f.2 f.3)
one_fault tokens (fault_of.LeftOut rule place) (fault_of.Syntax other) (inl w) q = absurd (no_place _ place q.0 w.1)
one_fault tokens (fault_of.LeftOut rule place) (fault_of.Syntax other) (inr f) q = absurd (q.1.1 f.2 f.3)
one_fault tokens (fault_of.LeftOut rule place) (fault_of.LeftOut r other) (inl v) (inl w) = same_left v.0 w.0 (some_place _ place other v.1 w.1)
  where
    same_left : rule ≡ 201 → r ≡ 201 → place ≡ other → fault_of.LeftOut rule place ≡ fault_of.LeftOut r other
    same_left a b e = cc
one_fault tokens (fault_of.LeftOut rule place) (fault_of.LeftOut r other) (inl v) (inr f) = absurd (no_place _ place f.1 v.1)
one_fault tokens (fault_of.LeftOut rule place) (fault_of.LeftOut r other) (inr f) (inl v) = absurd (no_place _ other f.1 v.1)
one_fault tokens (fault_of.LeftOut rule place) (fault_of.LeftOut r other) (inr f) (inr g) = same_form f.0 g.0 (one_form tokens f.2 g.2 place other f.3 g.3 f.4 g.4)
  where
    same_form : rule ≡ 203 → r ≡ 203 → place ≡ other → fault_of.LeftOut rule place ≡ fault_of.LeftOut r other
    same_form a b e = cc

-- ---- all files

abbrev Faulty : List Token → Type 0
Faulty tokens = (fault : ParseFault) × NoUnitFault false tokens fault

abbrev head_of : List Token → List (List Token) → List Token
head_of other [] = other
head_of other (l ∷ lists) = l

abbrev tail_of : List (List Token) → List (List Token)
tail_of [] = []
tail_of (l ∷ lists) = lists

heads : (a b : List Token) (x y : List (List Token)) → a ∷ x ≡ b ∷ y → a ≡ b
heads a b x y e = ap (head_of a) e

tails : (a b : List Token) (x y : List (List Token)) → a ∷ x ≡ b ∷ y → x ≡ y
tails a b x y e = ap tail_of e

-- the first file that breaks a rule is one
same_front : (before other : List (List Token)) (units others : List SourceFile) (tokens list : List Token) (after more : List (List Token)) → HaveUnits before units → HaveUnits other others → before ++ (tokens ∷ after) ≡ other ++ (list ∷ more) → Faulty tokens → Faulty list →
    (before ≡ other) × (tokens ≡ list)
same_front [] [] units others tokens list after more h k e f g = (refl, heads tokens list after more e)
same_front [] (o ∷ other) units [] tokens list after more h k e f g = absurd k
same_front [] (o ∷ other) units (u ∷ others) tokens list after more h k e (fault, f) g = absurd (no_fault o u fault k.0 (subst (λ (x : List Token). NoUnitFault false x fault) (heads tokens o after (other ++ (list ∷ more)) e) f))
same_front (b ∷ before) [] [] others tokens list after more h k e f g = absurd h
same_front (b ∷ before) [] (u ∷ units) others tokens list after more h k e f (fault, g) = absurd (no_fault b u fault h.0 (subst (λ (x : List Token). NoUnitFault false x fault) (sym (heads b list (before ++ (tokens ∷ after)) more e)) g))
same_front (b ∷ before) (o ∷ other) [] others tokens list after more h k e f g = absurd h
same_front (b ∷ before) (o ∷ other) (u ∷ units) [] tokens list after more h k e f g = absurd k
same_front (b ∷ before) (o ∷ other) (u ∷ units) (v ∷ others) tokens list after more h k e f g =
    let rest = same_front before other units others tokens list after more h.1 k.1 (tails b o (before ++ (tokens ∷ after)) (other ++ (list ∷ more)) e) f g in
    let first : b ≡ o = heads b o (before ++ (tokens ∷ after)) (other ++ (list ∷ more)) e in
    (ap (λ (x : List Token). x ∷ before) first ∙ ap (λ (x : List (List Token)). o ∷ x) rest.0, rest.1)

one_break_in : (file : ℕ) (tokens : List Token) (size : ℕ) (refused other : Refusal) → BreaksIn file tokens size refused → BreaksIn file tokens size other → refused ≡ other
one_break_in file tokens size refused other (fault, n, e) (second, m, f) = e ∙ ap (λ (x : ParseFault). refusal_of file tokens size x) (one_fault tokens fault second n m) ∙ sym f

abbrev size_at : List (List ℕ) → List (List Token) → ℕ
size_at texts before = length (slice_index_or texts (length before) [])

one_break : (texts : List (List ℕ)) (lists : List (List Token)) (refused other : Refusal) → BreaksSyntax texts lists refused → BreaksSyntax texts lists other → refused ≡ other
one_break texts lists refused other b c =
    let same = same_front b.before c.before b.units c.units b.tokens c.tokens b.after c.after b.unbroken c.unbroken (sym b.all ∙ c.all) (b.breaks.0, b.breaks.1) (c.breaks.0, c.breaks.1) in
    let here : BreaksIn (length c.before + 1) c.tokens (size_at texts c.before) refused =
    subst (λ (x : List Token). BreaksIn (length c.before + 1) x (size_at texts c.before) refused) same.1
    (subst (λ (x : List (List Token)). BreaksIn (length x + 1) b.tokens (size_at texts x) refused) same.0 b.breaks) in
    one_break_in (length c.before + 1) c.tokens (size_at texts c.before) refused other here c.breaks

not_among : (before : List (List Token)) (units : List SourceFile) (tokens : List Token) (after : List (List Token)) → HaveUnits (before ++ (tokens ∷ after)) units → Faulty tokens → ⊥
not_among [] [] tokens after h f = h
not_among [] (u ∷ units) tokens after h (fault, f) = no_fault tokens u fault h.0 f
not_among (b ∷ before) [] tokens after h f = h
not_among (b ∷ before) (u ∷ units) tokens after h f = not_among before units tokens after h.1 f

not_both : (texts : List (List ℕ)) (lists : List (List Token)) (units : List SourceFile) (refused : Refusal) → HaveUnits lists units → BreaksSyntax texts lists refused → ⊥
not_both texts lists units refused h b = not_among b.before units b.tokens b.after (subst (λ (x : List (List Token)). HaveUnits x units) b.all h) (b.breaks.0, b.breaks.1)

pub syntax_is_told : SyntaxIsTold
syntax_is_told = record { one_break = one_break; not_both = not_both }
