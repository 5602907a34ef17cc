-- Each type variable of the declarations is written in the head of the class or method that it says.
use Rattle.std.proofs.Common.{◌≡◌, inl, inr, ◌+◌, ℕ, zero, suc, Bool, false, true, Some, List, [], ◌∷◌, ◌++◌, map, length, slice_get, append_assoc, refl, sym, ap, subst, ◌∙◌}
use Rattle.std.proofs.lemmas.List.{length-append}
use Rattle.jc_tree.specs.declared.statement.Clause.{Clause}
use Rattle.jc_tree.specs.declared.statement.Declaration.{Declaration, Declaration-F, fold-roll-Declaration, ind-Declaration, map-Declaration, roll-Declaration}
use Rattle.jc_tree.specs.declared.statement.DeclarationHead.{DeclarationHead}
use Rattle.jc_tree.specs.declared.statement.Member.{Member, Member-F, fold-roll-Member, map-Member, roll-Member}
use Rattle.jc_tree.specs.declared.statement.MethodHead.{MethodHead}
use Rattle.jc_tree.specs.declared.statement.Stmt.{Stmt}
use Rattle.jc_tree.specs.declared.statement.TopLevel.{TopLevel}
use Rattle.jc_tree.specs.declared.statement.TopLevel.TheVariants as top_of
use Rattle.jc_tree.specs.declared.statement.TypeParam.{TypeParam}
use Rattle.jc_types.specs.declared.declarations.Owner.{Owner}
use Rattle.jc_types.specs.declared.declarations.Owner.TheVariants as owner
use Rattle.jc_header_rules.specs.Checked.{IsAmong}
use Rattle.jc_declares.specs.declared.heads.Standing.{Standing}
use Rattle.jc_declares.specs.declared.unit.SourceUnit.{SourceUnit}
use Rattle.jc_declares.specs.Sites.{Sites, ClassSite, MethodSite, VariableSite, MethodForm, Headed, ImpliedConstructor, StaticInitialiser, Counts, Walk, Uses, Membered, behind, innermost, walked, within, variable_sites, listed_params, params_of_head, class_sites, implied_sites, implied_forms, declaration_walk, declaration_sites, member_sites, stmt_uses, clause_uses, membered, uses_of_stmt, uses_of_clause, sites_of_declaration, sites_of_top, unit_front, sites_of_unit, sites_from, sites_of}
use Rattle.jc_table_laws.proofs.Fitting.{Each, each_joined}

abbrev pub IsInForm : TypeParam → MethodForm → Type 0
IsInForm p (Headed head has_block) = IsAmong p (listed_params head.params)
IsInForm p ImpliedConstructor = ⊥
IsInForm p StaticInitialiser = ⊥

pub record OfClass (cs : List ClassSite) (c : ℕ) (p : TypeParam) : Type 0 where
  pub site : ClassSite
  pub at : slice_get cs c ≡ Some site
  pub written : IsAmong p (params_of_head site.head)

pub record OfMethod (ms : List MethodSite) (m : ℕ) (p : TypeParam) : Type 0 where
  pub site : MethodSite
  pub at : slice_get ms m ≡ Some site
  pub written : IsInForm p site.form

abbrev pub IsOwned : List ClassSite → List MethodSite → Owner → TypeParam → Type 0
IsOwned cs ms (owner.Class c) p = OfClass cs c.0 p
IsOwned cs ms (owner.Method m) p = OfMethod ms m.0 p

abbrev pub Owned : List ClassSite → List MethodSite → List VariableSite → Type 0
Owned cs ms vs = Each (λ (v : VariableSite). IsOwned cs ms v.owner v.param) vs

kept : {X : Type 0} (xs ys : List X) (n : ℕ) (x : X) → slice_get xs n ≡ Some x → slice_get (xs ++ ys) n ≡ Some x
kept [] ys zero x e = cc
kept [] ys (suc n) x e = cc
kept (y ∷ xs) ys zero x e = e
kept (y ∷ xs) ys (suc n) x e = kept xs ys n x e

last_at : {X : Type 0} (xs : List X) (x : X) → slice_get (xs ++ x ∷ []) (length xs) ≡ Some x
last_at [] x = refl
last_at (y ∷ xs) x = last_at xs x

last_is : {X : Type 0} (xs : List X) (x : X) (n : ℕ) → length xs ≡ n → slice_get (xs ++ x ∷ []) n ≡ Some x
last_is xs x n e = subst (λ (k : ℕ). slice_get (xs ++ x ∷ []) k ≡ Some x) e (last_at xs x)

more_owned : (cs ds : List ClassSite) (ms ns : List MethodSite) (o : Owner) (p : TypeParam) → IsOwned cs ms o p → IsOwned (cs ++ ds) (ms ++ ns) o p
more_owned cs ds ms ns (owner.Class c) p f = record { site = f.site; at = kept cs ds c.0 f.site f.at; written = f.written }
more_owned cs ds ms ns (owner.Method m) p f = record { site = f.site; at = kept ms ns m.0 f.site f.at; written = f.written }

all_more : (cs ds : List ClassSite) (ms ns : List MethodSite) (vs : List VariableSite) → Owned cs ms vs → Owned (cs ++ ds) (ms ++ ns) vs
all_more cs ds ms ns [] a = tt
all_more cs ds ms ns (v ∷ vs) a = (more_owned cs ds ms ns v.owner v.param a.0, all_more cs ds ms ns vs a.1)

counted : {X : Type 0} (before more : List X) (n : ℕ) → length before ≡ n → length (before ++ more) ≡ n + length more
counted before more n e = length-append before more ∙ ap (λ k. k + length more) e

-- ---- walks

-- what is declared behind these classes and methods is owned
abbrev Goes : Walk → Type 0
Goes w = (at : Standing) (n : Counts) (cs : List ClassSite) (ms : List MethodSite) → length cs ≡ n.classes → length ms ≡ n.methods → Owned (cs ++ (w at n).classes) (ms ++ (w at n).methods) (w at n).variables

-- what is declared first, and what is declared behind it
both : (cs xs ys : List ClassSite) (ms us vs : List MethodSite) (as_ bs : List VariableSite) → Owned (cs ++ xs) (ms ++ us) as_ → Owned ((cs ++ xs) ++ ys) ((ms ++ us) ++ vs) bs
    → Owned (cs ++ (xs ++ ys)) (ms ++ (us ++ vs)) (as_ ++ bs)
both cs xs ys ms us vs as_ bs a b =
    subst (λ (c : List ClassSite). Owned c (ms ++ (us ++ vs)) (as_ ++ bs)) (append_assoc cs xs ys)
    (subst (λ (m : List MethodSite). Owned ((cs ++ xs) ++ ys) m (as_ ++ bs)) (append_assoc ms us vs)
    (each_joined (λ (v : VariableSite). IsOwned ((cs ++ xs) ++ ys) ((ms ++ us) ++ vs) v.owner v.param) as_ bs (all_more (cs ++ xs) ys (ms ++ us) vs as_ a) b))

walked_goes : (ws : List Walk) → Each Goes ws → Goes (walked ws)
walked_goes [] g at n cs ms l k = tt
walked_goes (w ∷ ws) g at n cs ms l k =
    let s : Sites = w at n in let r : Sites = walked ws at (behind n s) in
    both cs s.classes r.classes ms s.methods r.methods s.variables r.variables (g.0 at n cs ms l k)
    (walked_goes ws g.1 at (behind n s) (cs ++ s.classes) (ms ++ s.methods) (counted cs s.classes n.classes l) (counted ms s.methods n.methods k))

implied_go : (forms : List MethodForm) → Each Goes (map implied_sites forms)
implied_go [] = tt
implied_go (f ∷ forms) = (λ at n cs ms l k. tt, implied_go forms)

class_owned : (c : ℕ) (cs : List ClassSite) (ms : List MethodSite) (s : ClassSite) (ps : List TypeParam) → slice_get cs c ≡ Some s → ((p : TypeParam) → IsAmong p ps → IsAmong p (params_of_head s.head))
    → Owned cs ms (variable_sites (owner.Class (record { 0 = c })) ps)
class_owned c cs ms s [] e f = tt
class_owned c cs ms s (p ∷ ps) e f = (record { site = s; at = e; written = f p (inl refl) }, class_owned c cs ms s ps e (λ q i. f q (inr i)))

method_owned : (m : ℕ) (cs : List ClassSite) (ms : List MethodSite) (s : MethodSite) (ps : List TypeParam) → slice_get ms m ≡ Some s → ((p : TypeParam) → IsAmong p ps → IsInForm p s.form)
    → Owned cs ms (variable_sites (owner.Method (record { 0 = m })) ps)
method_owned m cs ms s [] e f = tt
method_owned m cs ms s (p ∷ ps) e f = (record { site = s; at = e; written = f p (inl refl) }, method_owned m cs ms s ps e (λ q i. f q (inr i)))

class_goes : (head : DeclarationHead) → Goes (class_sites head)
class_goes head at n cs ms l k =
    class_owned n.classes (cs ++ (class_sites head at n).classes) (ms ++ []) (record { file = at.file; unit = at.unit; round = at.round; of_interface = at.of_interface; scope = n.scopes; head = head }) (params_of_head head)
    (last_is cs _ n.classes l) (λ p i. i)

declaration_goes : (head : DeclarationHead) (members : List Membered) → Each Goes (map (λ (m : Membered). m.walk) members) → Goes (declaration_walk head members)
declaration_goes head members g at n cs ms l k =
    let own : Sites = class_sites head at n in
    let ws : List Walk = map implied_sites (implied_forms head members) ++ map (λ (m : Membered). m.walk) members in
    let r : Sites = walked ws (within head at n) (behind n own) in
    both cs own.classes r.classes ms own.methods r.methods own.variables r.variables (class_goes head at n cs ms l k)
    (walked_goes ws (each_joined Goes (map implied_sites (implied_forms head members)) (map (λ (m : Membered). m.walk) members) (implied_go (implied_forms head members)) g) (within head at n) (behind n own)
    (cs ++ own.classes) (ms ++ own.methods) (counted cs own.classes n.classes l) (counted ms own.methods n.methods k))

-- ---- declarations

abbrev MemberGoes : Member → Type 0
MemberGoes x = Goes (membered x).walk

abbrev DeclarationGoes : Declaration → Type 0
DeclarationGoes x = Goes (sites_of_declaration x)

abbrev SomeMember : Type 0
SomeMember = (x : Member) × MemberGoes x

abbrev SomeStmt : Type 0
SomeStmt = (x : Stmt) × Unit {0}

abbrev SomeClause : Type 0
SomeClause = (x : Clause) × Unit {0}

abbrev SomeDeclaration : Type 0
SomeDeclaration = (x : Declaration) × DeclarationGoes x

abbrev plain_member : Member-F SomeMember SomeStmt SomeClause SomeDeclaration → Member-F Member Stmt Clause Declaration
plain_member y = map-Member SomeMember SomeStmt SomeClause SomeDeclaration Member Stmt Clause Declaration (λ z. z.0) (λ z. z.0) (λ z. z.0) (λ z. z.0) y

method_goes : (head : MethodHead) (has_block : Bool) (at : Standing) (n : Counts) (cs : List ClassSite) (ms : List MethodSite) → length ms ≡ n.methods
    → Owned (cs ++ []) (ms ++ record { class = innermost at.round; scope = n.scopes; form = Headed head has_block } ∷ []) (variable_sites (owner.Method (record { 0 = n.methods })) (listed_params head.params))
method_goes head has_block at n cs ms k =
    method_owned n.methods (cs ++ []) (ms ++ record { class = innermost at.round; scope = n.scopes; form = Headed head has_block } ∷ []) (record { class = innermost at.round; scope = n.scopes; form = Headed head has_block })
    (listed_params head.params) (last_is ms _ n.methods k) (λ p i. i)

member_layer : (y : Member-F SomeMember SomeStmt SomeClause SomeDeclaration) → Goes (member_sites (map-Member Member Stmt Clause Declaration Membered Uses Uses Walk membered uses_of_stmt uses_of_clause sites_of_declaration (plain_member y))).walk
member_layer (Member-F.Semicolon at) = λ s n cs ms l k. tt
member_layer (Member-F.Initialiser at is_static items) = λ s n cs ms l k. tt
member_layer (Member-F.Fields vars) = λ s n cs ms l k. tt
member_layer (Member-F.Bare head) = λ s n cs ms l k. method_goes head false s n cs ms k
member_layer (Member-F.Method head items) = λ s n cs ms l k. method_goes head true s n cs ms k
member_layer (Member-F.Nested d) = d.1

goes_along : (v w : Walk) → v ≡ w → Goes w → Goes v
goes_along v w e g = subst Goes (sym e) g

member_rolled : (y : Member-F SomeMember SomeStmt SomeClause SomeDeclaration) → MemberGoes (roll-Member (plain_member y))
unfolding membered uses_of_stmt uses_of_clause sites_of_declaration
member_rolled y = goes_along _ _ (ap (λ (m : Membered). m.walk) (fold-roll-Member Membered Uses Uses Walk member_sites stmt_uses clause_uses declaration_sites (plain_member y))) (member_layer y)

abbrev plain_declaration : Declaration-F SomeMember SomeStmt SomeClause SomeDeclaration → Declaration-F Member Stmt Clause Declaration
plain_declaration y = map-Declaration SomeMember SomeStmt SomeClause SomeDeclaration Member Stmt Clause Declaration (λ z. z.0) (λ z. z.0) (λ z. z.0) (λ z. z.0) y

all_given : (zs : List SomeMember) → Each Goes (map (λ (m : Membered). m.walk) (map membered (map (λ (z : SomeMember). z.0) zs)))
all_given [] = tt
all_given (z ∷ zs) = (z.1, all_given zs)

declaration_layer : (y : Declaration-F SomeMember SomeStmt SomeClause SomeDeclaration)
    → Goes (declaration_sites (map-Declaration Member Stmt Clause Declaration Membered Uses Uses Walk membered uses_of_stmt uses_of_clause sites_of_declaration (plain_declaration y)))
declaration_layer y = declaration_goes y.head _ (all_given y.members)

declaration_rolled : (y : Declaration-F SomeMember SomeStmt SomeClause SomeDeclaration) → DeclarationGoes (roll-Declaration (plain_declaration y))
unfolding membered uses_of_stmt uses_of_clause sites_of_declaration
declaration_rolled y = goes_along _ _ (fold-roll-Declaration Membered Uses Uses Walk member_sites stmt_uses clause_uses declaration_sites (plain_declaration y)) (declaration_layer y)

declared_goes : (x : Declaration) → DeclarationGoes x
declared_goes = ind-Declaration MemberGoes (λ x. Unit {0}) (λ x. Unit {0}) DeclarationGoes
    (λ x y is. subst (λ (x : Member-F Member Stmt Clause Declaration). MemberGoes (roll-Member x)) is (member_rolled y))
    (λ x y is. tt)
    (λ x y is. tt)
    (λ x y is. subst (λ (x : Declaration-F Member Stmt Clause Declaration). DeclarationGoes (roll-Declaration x)) is (declaration_rolled y))

-- ---- units

top_goes : (t : TopLevel) → Goes (sites_of_top t)
top_goes (top_of.Declaration d) = declared_goes d
top_goes (top_of.Semicolon at) = λ s n cs ms l k. tt

tops_go : (ts : List TopLevel) → Each Goes (map sites_of_top ts)
tops_go [] = tt
tops_go (t ∷ ts) = (top_goes t, tops_go ts)

unit_owned : (u : SourceUnit) (unit : ℕ) (n : Counts) (cs : List ClassSite) (ms : List MethodSite) → length cs ≡ n.classes → length ms ≡ n.methods
    → Owned (cs ++ (sites_of_unit u unit n).classes) (ms ++ (sites_of_unit u unit n).methods) (sites_of_unit u unit n).variables
unit_owned u unit n cs ms l k =
    let own : Sites = unit_front u unit n.scopes in
    let at : Standing = record { file = u.file; unit = unit; round = []; of_interface = false; scope = n.scopes } in
    let r : Sites = walked (map sites_of_top u.unit.types) at (behind n own) in
    both cs own.classes r.classes ms own.methods r.methods own.variables r.variables tt
    (walked_goes (map sites_of_top u.unit.types) (tops_go u.unit.types) at (behind n own) (cs ++ own.classes) (ms ++ own.methods) (counted cs own.classes n.classes l) (counted ms own.methods n.methods k))

units_owned : (us : List SourceUnit) (unit : ℕ) (n : Counts) (cs : List ClassSite) (ms : List MethodSite) → length cs ≡ n.classes → length ms ≡ n.methods
    → Owned (cs ++ (sites_from us unit n).classes) (ms ++ (sites_from us unit n).methods) (sites_from us unit n).variables
units_owned [] unit n cs ms l k = tt
units_owned (u ∷ us) unit n cs ms l k =
    let s : Sites = sites_of_unit u unit n in let r : Sites = sites_from us (unit + 1) (behind n s) in
    both cs s.classes r.classes ms s.methods r.methods s.variables r.variables (unit_owned u unit n cs ms l k)
    (units_owned us (unit + 1) (behind n s) (cs ++ s.classes) (ms ++ s.methods) (counted cs s.classes n.classes l) (counted ms s.methods n.methods k))

pub all_owned : (us : List SourceUnit) → Owned (sites_of us).classes (sites_of us).methods (sites_of us).variables
all_owned us = units_owned us 0 (record { classes = 0; methods = 0; scopes = 0 }) [] [] refl refl
