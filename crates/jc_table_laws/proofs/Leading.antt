-- The scopes of all declared classes lead to the units that they are declared in.
use Rattle.std.proofs.Common.{◌≡◌, ◌+◌, ℕ, zero, suc, false, Some, None, List, [], ◌∷◌, ◌++◌, map, length, slice_get, append_assoc, refl, sym, ap, subst, ◌∙◌}
use Rattle.std.proofs.lemmas.List.{length-append}
use Rattle.jc_tree.specs.declared.statement.Clause.{Clause}
use Rattle.jc_tree.specs.declared.statement.Declaration.{Declaration, Declaration-F, fold-roll-Declaration, ind-Declaration, map-Declaration, roll-Declaration}
use Rattle.jc_tree.specs.declared.statement.DeclarationHead.{DeclarationHead}
use Rattle.jc_tree.specs.declared.statement.Member.{Member, Member-F, fold-roll-Member, map-Member, roll-Member}
use Rattle.jc_tree.specs.declared.statement.Stmt.{Stmt}
use Rattle.jc_tree.specs.declared.statement.TopLevel.{TopLevel}
use Rattle.jc_tree.specs.declared.statement.TopLevel.TheVariants as top_of
use Rattle.jc_declares.specs.declared.heads.ScopeForm.{ScopeForm}
use Rattle.jc_declares.specs.declared.heads.ScopeForm.TheVariants as scope_of
use Rattle.jc_declares.specs.declared.heads.ScopeHead.{ScopeHead}
use Rattle.jc_declares.specs.declared.heads.Standing.{Standing}
use Rattle.jc_declares.specs.declared.unit.SourceUnit.{SourceUnit}
use Rattle.jc_declares.specs.Sites.{Sites, ClassSite, MethodForm, Counts, Walk, Uses, Membered, behind, walked, within, class_sites, implied_sites, implied_forms, declaration_walk, declaration_sites, member_sites, stmt_uses, clause_uses, membered, uses_of_stmt, uses_of_clause, sites_of_declaration, sites_of_top, unit_front, sites_of_unit, sites_from, sites_of}

-- from this scope outwards the scopes end at that of a unit
pub data Leads (scopes : List ScopeHead) (u : ℕ) : ℕ → Type 0 where
  at_unit : (s : ℕ) → slice_get scopes s ≡ Some (record { outer = None; form = scope_of.Unit u }) → Leads scopes u s
  further : (s o : ℕ) (form : ScopeForm) → slice_get scopes s ≡ Some (record { outer = Some o; form = form }) → Leads scopes u o → Leads scopes u s

kept : {X : Type 0} (xs ys : List X) (n : ℕ) (x : X) → slice_get xs n ≡ Some x → slice_get (xs ++ ys) n ≡ Some x
kept [] ys zero x e = cc
kept [] ys (suc n) x e = cc
kept (y ∷ xs) ys zero x e = e
kept (y ∷ xs) ys (suc n) x e = kept xs ys n x e

last_at : {X : Type 0} (xs : List X) (x : X) → slice_get (xs ++ x ∷ []) (length xs) ≡ Some x
last_at [] x = refl
last_at (y ∷ xs) x = last_at xs x

last_is : {X : Type 0} (xs : List X) (x : X) (n : ℕ) → length xs ≡ n → slice_get (xs ++ x ∷ []) n ≡ Some x
last_is xs x n e = subst (λ (k : ℕ). slice_get (xs ++ x ∷ []) k ≡ Some x) e (last_at xs x)

longer : (xs ys : List ScopeHead) (u s : ℕ) → Leads xs u s → Leads (xs ++ ys) u s
longer xs ys u _ (at_unit s e) = at_unit s (kept xs ys s _ e)
longer xs ys u _ (further s o form e l) = further s o form (kept xs ys s _ e) (longer xs ys u o l)

abbrev pub AllLead : List ScopeHead → List ClassSite → Type 0
AllLead scopes [] = Unit {0}
AllLead scopes (c ∷ cs) = Leads scopes c.unit c.scope × AllLead scopes cs

all_longer : (xs ys : List ScopeHead) (cs : List ClassSite) → AllLead xs cs → AllLead (xs ++ ys) cs
all_longer xs ys [] a = tt
all_longer xs ys (c ∷ cs) a = (longer xs ys c.unit c.scope a.0, all_longer xs ys cs a.1)

all_joined : (xs : List ScopeHead) (cs ds : List ClassSite) → AllLead xs cs → AllLead xs ds → AllLead xs (cs ++ ds)
all_joined xs [] ds a b = b
all_joined xs (c ∷ cs) ds a b = (a.0, all_joined xs cs ds a.1 b)

-- ---- walks

-- what is declared at a standing, behind these scopes, leads to the unit to which the scope there leads
abbrev Goes : Walk → Type 0
Goes w = (at : Standing) (n : Counts) (before : List ScopeHead) → length before ≡ n.scopes → Leads before at.unit at.scope → AllLead (before ++ (w at n).scopes) (w at n).classes

abbrev AllGo : List Walk → Type 0
AllGo [] = Unit {0}
AllGo (w ∷ ws) = Goes w × AllGo ws

go_joined : (vs ws : List Walk) → AllGo vs → AllGo ws → AllGo (vs ++ ws)
go_joined [] ws a b = b
go_joined (v ∷ vs) ws a b = (a.0, go_joined vs ws a.1 b)

counted : (before more : List ScopeHead) (n : ℕ) → length before ≡ n → length (before ++ more) ≡ n + length more
counted before more n e = length-append before more ∙ ap (λ k. k + length more) e

-- what is declared first, and what is declared behind it
both : (before xs ys : List ScopeHead) (cs ds : List ClassSite) → AllLead (before ++ xs) cs → AllLead ((before ++ xs) ++ ys) ds → AllLead (before ++ (xs ++ ys)) (cs ++ ds)
both before xs ys cs ds a b =
    subst (λ (scopes : List ScopeHead). AllLead scopes (cs ++ ds)) (append_assoc before xs ys) (all_joined ((before ++ xs) ++ ys) cs ds (all_longer (before ++ xs) ys cs a) b)

walked_goes : (ws : List Walk) → AllGo ws → Goes (walked ws)
walked_goes [] g at n before l h = tt
walked_goes (w ∷ ws) g at n before l h =
    let s : Sites = w at n in let r : Sites = walked ws at (behind n s) in
    both before s.scopes r.scopes s.classes r.classes (g.0 at n before l h)
    (walked_goes ws g.1 at (behind n s) (before ++ s.scopes) (counted before s.scopes n.scopes l) (longer before s.scopes at.unit at.scope h))

implied_go : (forms : List MethodForm) → AllGo (map implied_sites forms)
implied_go [] = tt
implied_go (f ∷ forms) = (λ at n before l h. tt, implied_go forms)

class_leads : (head : DeclarationHead) (at : Standing) (n : Counts) (before : List ScopeHead) → length before ≡ n.scopes → Leads before at.unit at.scope
    → Leads (before ++ (class_sites head at n).scopes) at.unit n.scopes
class_leads head at n before l h =
    further n.scopes at.scope (scope_of.Class n.classes) (last_is before _ n.scopes l) (longer before (class_sites head at n).scopes at.unit at.scope h)

declaration_goes : (head : DeclarationHead) (members : List Membered) → AllGo (map (λ (m : Membered). m.walk) members) → Goes (declaration_walk head members)
declaration_goes head members g at n before l h =
    let own : Sites = class_sites head at n in
    let ws : List Walk = map implied_sites (implied_forms head members) ++ map (λ (m : Membered). m.walk) members in
    let r : Sites = walked ws (within head at n) (behind n own) in
    let lead : Leads (before ++ own.scopes) at.unit n.scopes = class_leads head at n before l h in
    both before own.scopes r.scopes own.classes r.classes (lead, tt)
    (walked_goes ws (go_joined (map implied_sites (implied_forms head members)) (map (λ (m : Membered). m.walk) members) (implied_go (implied_forms head members)) g) (within head at n) (behind n own)
    (before ++ own.scopes) (counted before own.scopes n.scopes l) lead)

-- ---- declarations

abbrev MemberGoes : Member → Type 0
MemberGoes x = Goes (membered x).walk

abbrev DeclarationGoes : Declaration → Type 0
DeclarationGoes x = Goes (sites_of_declaration x)

abbrev SomeMember : Type 0
SomeMember = (x : Member) × MemberGoes x

abbrev SomeStmt : Type 0
SomeStmt = (x : Stmt) × Unit {0}

abbrev SomeClause : Type 0
SomeClause = (x : Clause) × Unit {0}

abbrev SomeDeclaration : Type 0
SomeDeclaration = (x : Declaration) × DeclarationGoes x

abbrev plain_member : Member-F SomeMember SomeStmt SomeClause SomeDeclaration → Member-F Member Stmt Clause Declaration
plain_member y = map-Member SomeMember SomeStmt SomeClause SomeDeclaration Member Stmt Clause Declaration (λ z. z.0) (λ z. z.0) (λ z. z.0) (λ z. z.0) y

member_layer : (y : Member-F SomeMember SomeStmt SomeClause SomeDeclaration) → Goes (member_sites (map-Member Member Stmt Clause Declaration Membered Uses Uses Walk membered uses_of_stmt uses_of_clause sites_of_declaration (plain_member y))).walk
member_layer (Member-F.Semicolon at) = λ s n before l h. tt
member_layer (Member-F.Initialiser at is_static items) = λ s n before l h. tt
member_layer (Member-F.Fields vars) = λ s n before l h. tt
member_layer (Member-F.Bare head) = λ s n before l h. tt
member_layer (Member-F.Method head items) = λ s n before l h. tt
member_layer (Member-F.Nested d) = d.1

goes_along : (v w : Walk) → v ≡ w → Goes w → Goes v
goes_along v w e g = subst Goes (sym e) g

member_rolled : (y : Member-F SomeMember SomeStmt SomeClause SomeDeclaration) → MemberGoes (roll-Member (plain_member y))
unfolding membered uses_of_stmt uses_of_clause sites_of_declaration
member_rolled y = goes_along _ _ (ap (λ (m : Membered). m.walk) (fold-roll-Member Membered Uses Uses Walk member_sites stmt_uses clause_uses declaration_sites (plain_member y))) (member_layer y)

abbrev plain_declaration : Declaration-F SomeMember SomeStmt SomeClause SomeDeclaration → Declaration-F Member Stmt Clause Declaration
plain_declaration y = map-Declaration SomeMember SomeStmt SomeClause SomeDeclaration Member Stmt Clause Declaration (λ z. z.0) (λ z. z.0) (λ z. z.0) (λ z. z.0) y

all_given : (zs : List SomeMember) → AllGo (map (λ (m : Membered). m.walk) (map membered (map (λ (z : SomeMember). z.0) zs)))
all_given [] = tt
all_given (z ∷ zs) = (z.1, all_given zs)

declaration_layer : (y : Declaration-F SomeMember SomeStmt SomeClause SomeDeclaration)
    → Goes (declaration_sites (map-Declaration Member Stmt Clause Declaration Membered Uses Uses Walk membered uses_of_stmt uses_of_clause sites_of_declaration (plain_declaration y)))
declaration_layer y = declaration_goes y.head _ (all_given y.members)

declaration_rolled : (y : Declaration-F SomeMember SomeStmt SomeClause SomeDeclaration) → DeclarationGoes (roll-Declaration (plain_declaration y))
unfolding membered uses_of_stmt uses_of_clause sites_of_declaration
declaration_rolled y = goes_along _ _ (fold-roll-Declaration Membered Uses Uses Walk member_sites stmt_uses clause_uses declaration_sites (plain_declaration y)) (declaration_layer y)

declared_goes : (x : Declaration) → DeclarationGoes x
declared_goes = ind-Declaration MemberGoes (λ x. Unit {0}) (λ x. Unit {0}) DeclarationGoes
    (λ x y is. subst (λ (x : Member-F Member Stmt Clause Declaration). MemberGoes (roll-Member x)) is (member_rolled y))
    (λ x y is. tt)
    (λ x y is. tt)
    (λ x y is. subst (λ (x : Declaration-F Member Stmt Clause Declaration). DeclarationGoes (roll-Declaration x)) is (declaration_rolled y))

-- ---- units

top_goes : (t : TopLevel) → Goes (sites_of_top t)
top_goes (top_of.Declaration d) = declared_goes d
top_goes (top_of.Semicolon at) = λ s n before l h. tt

tops_go : (ts : List TopLevel) → AllGo (map sites_of_top ts)
tops_go [] = tt
tops_go (t ∷ ts) = (top_goes t, tops_go ts)

unit_leads : (u : SourceUnit) (unit : ℕ) (n : Counts) (before : List ScopeHead) → length before ≡ n.scopes → AllLead (before ++ (sites_of_unit u unit n).scopes) (sites_of_unit u unit n).classes
unit_leads u unit n before l =
    let own : Sites = unit_front u unit n.scopes in
    let at : Standing = record { file = u.file; unit = unit; round = []; of_interface = false; scope = n.scopes } in
    let r : Sites = walked (map sites_of_top u.unit.types) at (behind n own) in
    both before own.scopes r.scopes own.classes r.classes tt
    (walked_goes (map sites_of_top u.unit.types) (tops_go u.unit.types) at (behind n own) (before ++ own.scopes) (counted before own.scopes n.scopes l) (at_unit n.scopes (last_is before _ n.scopes l)))

units_lead : (us : List SourceUnit) (unit : ℕ) (n : Counts) (before : List ScopeHead) → length before ≡ n.scopes → AllLead (before ++ (sites_from us unit n).scopes) (sites_from us unit n).classes
units_lead [] unit n before l = tt
units_lead (u ∷ us) unit n before l =
    let s : Sites = sites_of_unit u unit n in let r : Sites = sites_from us (unit + 1) (behind n s) in
    both before s.scopes r.scopes s.classes r.classes (unit_leads u unit n before l)
    (units_lead us (unit + 1) (behind n s) (before ++ s.scopes) (counted before s.scopes n.scopes l))

pub all_lead : (us : List SourceUnit) → AllLead (sites_of us).scopes (sites_of us).classes
all_lead us = units_lead us 0 (record { classes = 0; methods = 0; scopes = 0 }) [] refl
