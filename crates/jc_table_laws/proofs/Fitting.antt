-- The numbers that declarations give each other are places in their lists.
use Rattle.std.proofs.Common.{◌≡◌, ◌+◌, ◌<◌, ◌≤◌, ℕ, zero, suc, Bool, true, false, Option, Some, None, List, [], ◌∷◌, ◌++◌, map, length, slice_get, arith, sym, ap, subst}
use Rattle.std.proofs.lemmas.List.{length-append}
use Rattle.jc_tree.specs.declared.statement.Clause.{Clause}
use Rattle.jc_tree.specs.declared.statement.Declaration.{Declaration, Declaration-F, fold-roll-Declaration, ind-Declaration, map-Declaration, roll-Declaration}
use Rattle.jc_tree.specs.declared.statement.DeclarationHead.{DeclarationHead}
use Rattle.jc_tree.specs.declared.statement.LocalVars.{LocalVars}
use Rattle.jc_tree.specs.declared.statement.Member.{Member, Member-F, fold-roll-Member, map-Member, roll-Member}
use Rattle.jc_tree.specs.declared.statement.MethodHead.{MethodHead}
use Rattle.jc_tree.specs.declared.statement.Stmt.{Stmt}
use Rattle.jc_tree.specs.declared.statement.TopLevel.{TopLevel}
use Rattle.jc_tree.specs.declared.statement.TopLevel.TheVariants as top_of
use Rattle.jc_tree.specs.declared.statement.TypeParam.{TypeParam}
use Rattle.jc_tree.specs.declared.statement.Var.{Var}
use Rattle.jc_types.specs.declared.declarations.Owner.{Owner}
use Rattle.jc_types.specs.declared.declarations.Owner.TheVariants as owner
use Rattle.jc_declares.specs.declared.heads.ScopeForm.{ScopeForm}
use Rattle.jc_declares.specs.declared.heads.ScopeForm.TheVariants as scope_of
use Rattle.jc_declares.specs.declared.heads.ScopeHead.{ScopeHead}
use Rattle.jc_declares.specs.declared.heads.Standing.{Standing}
use Rattle.jc_declares.specs.declared.unit.SourceUnit.{SourceUnit}
use Rattle.jc_declares.specs.Words.{says_static}
use Rattle.jc_declares.specs.Sites.{Sites, ClassSite, MethodSite, FieldSite, VariableSite, UseSite, MethodForm, Headed, uses_of_lists, uses_in_each, uses_of_var, Counts, Walk, Uses, Membered, no_sites, joined, behind, innermost, walked, within, used_at, field_sites, variable_sites, listed_params, params_of_head, class_sites, implied_sites, implied_forms, declaration_walk, declaration_sites, member_sites, stmt_uses, clause_uses, membered, uses_of_stmt, uses_of_clause, sites_of_declaration, sites_of_top, unit_front, sites_of_unit, sites_from, sites_of}

-- ---- of each in a list

abbrev pub Each : {X : Type 0} → (X → Type 0) → List X → Type 0
Each P [] = Unit {0}
Each P (x ∷ xs) = P x × Each P xs

pub each_joined : {X : Type 0} (P : X → Type 0) (xs ys : List X) → Each P xs → Each P ys → Each P (xs ++ ys)
each_joined P [] ys a b = b
each_joined P (x ∷ xs) ys a b = (a.0, each_joined P xs ys a.1 b)

pub each_at : {X : Type 0} (P : X → Type 0) (xs : List X) (n : ℕ) (x : X) → slice_get xs n ≡ Some x → Each P xs → P x
each_at P [] zero x e a = absurd (let n : ⊥ = cc in n)
each_at P [] (suc n) x e a = absurd (let n : ⊥ = cc in n)
each_at P (y ∷ xs) zero x e a = subst P (let g : y ≡ x = cc in g) a.0
each_at P (y ∷ xs) (suc n) x e a = each_at P xs n x e a.1

pub each_mapped : {X Y : Type 0} (f : X → Y) (P : X → Type 0) (Q : Y → Type 0) (xs : List X) → ((x : X) → P x → Q (f x)) → Each P xs → Each Q (map f xs)
each_mapped f P Q [] g a = tt
each_mapped f P Q (x ∷ xs) g a = (g x a.0, each_mapped f P Q xs g a.1)

pub each_given : {X Y : Type 0} (f : X → Y) (Q : Y → Type 0) (xs : List X) → ((x : X) → Q (f x)) → Each Q (map f xs)
each_given f Q [] g = tt
each_given f Q (x ∷ xs) g = (g x, each_given f Q xs g)

-- ---- how many there are, and what fits

pub record Sizes : Type 0 where
  pub classes : ℕ
  pub methods : ℕ
  pub scopes : ℕ

abbrev pub IsBelow : ℕ → ℕ → Type 0
IsBelow n c = c < n

pub record ClassFits (z : Sizes) (c : ClassSite) : Type 0 where
  pub round : Each (IsBelow z.classes) c.round
  pub scope : c.scope < z.scopes

pub record MethodFits (z : Sizes) (m : MethodSite) : Type 0 where
  pub class : m.class < z.classes
  pub scope : m.scope < z.scopes

pub record FieldFits (z : Sizes) (f : FieldSite) : Type 0 where
  pub class : f.class < z.classes
  pub scope : f.scope < z.scopes

abbrev pub OwnerFits : Sizes → Owner → Type 0
OwnerFits z (owner.Class c) = c.0 < z.classes
OwnerFits z (owner.Method m) = m.0 < z.methods

abbrev pub VariableFits : Sizes → VariableSite → Type 0
VariableFits z v = OwnerFits z v.owner

abbrev pub OuterFits : Sizes → Option ℕ → Type 0
OuterFits z None = Unit {0}
OuterFits z (Some o) = o < z.scopes

abbrev pub FormFits : Sizes → ScopeForm → Type 0
FormFits z (scope_of.Unit u) = Unit {0}
FormFits z (scope_of.Class c) = c < z.classes
FormFits z (scope_of.Method m) = m < z.methods

abbrev pub ScopeFits : Sizes → ScopeHead → Type 0
ScopeFits z s = OuterFits z s.outer × FormFits z s.form

pub record UseFits (z : Sizes) (u : UseSite) : Type 0 where
  pub class : u.class < z.classes
  pub scope : u.scope < z.scopes

pub record SitesFit (z : Sizes) (S : Sites) : Type 0 where
  pub classes : Each (ClassFits z) S.classes
  pub methods : Each (MethodFits z) S.methods
  pub fields : Each (FieldFits z) S.fields
  pub variables : Each (VariableFits z) S.variables
  pub scopes : Each (ScopeFits z) S.scopes
  pub uses : Each (UseFits z) S.uses

-- there is room for these declarations behind so many
record Room (z : Sizes) (n : Counts) (s : Sites) : Type 0 where
  classes : n.classes + length s.classes ≤ z.classes
  methods : n.methods + length s.methods ≤ z.methods
  scopes : n.scopes + length s.scopes ≤ z.scopes

-- a place at which something is declared
record Stands (z : Sizes) (at : Standing) : Type 0 where
  round : Each (IsBelow z.classes) at.round
  scope : at.scope < z.scopes

split_left : (n a b k : ℕ) {X : Type 0} (xs ys : List X) → n + length (xs ++ ys) ≤ k → n + length xs ≤ k
split_left n a b k xs ys l = omega (arith, l, length-append xs ys)

split_right : (n k : ℕ) {X : Type 0} (xs ys : List X) → n + length (xs ++ ys) ≤ k → n + length xs + length ys ≤ k
split_right n k xs ys l = omega (arith, l, length-append xs ys)

module _ (z : Sizes) where
  none_fits : SitesFit z no_sites
  none_fits = record { classes = tt; methods = tt; fields = tt; variables = tt; scopes = tt; uses = tt }

  fits_joined : (a b : Sites) → SitesFit z a → SitesFit z b → SitesFit z (joined a b)
  fits_joined a b f g =
      record {
        classes = each_joined (ClassFits z) a.classes b.classes f.classes g.classes;
        methods = each_joined (MethodFits z) a.methods b.methods f.methods g.methods;
        fields = each_joined (FieldFits z) a.fields b.fields f.fields g.fields;
        variables = each_joined (VariableFits z) a.variables b.variables f.variables g.variables;
        scopes = each_joined (ScopeFits z) a.scopes b.scopes f.scopes g.scopes;
        uses = each_joined (UseFits z) a.uses b.uses f.uses g.uses;
      }

  room_left : (n : Counts) (a b : Sites) → Room z n (joined a b) → Room z n a
  room_left n a b r =
      record {
        classes = split_left n.classes 0 0 z.classes a.classes b.classes r.classes;
        methods = split_left n.methods 0 0 z.methods a.methods b.methods r.methods;
        scopes = split_left n.scopes 0 0 z.scopes a.scopes b.scopes r.scopes;
      }

  room_right : (n : Counts) (a b : Sites) → Room z n (joined a b) → Room z (behind n a) b
  room_right n a b r =
      record {
        classes = split_right n.classes z.classes a.classes b.classes r.classes;
        methods = split_right n.methods z.methods a.methods b.methods r.methods;
        scopes = split_right n.scopes z.scopes a.scopes b.scopes r.scopes;
      }

  -- ---- walks: inside of a class, and anywhere

  abbrev Goes : Walk → Type 0
  Goes w = (at : Standing) (n : Counts) → Stands z at → innermost at.round < z.classes → Room z n (w at n) → SitesFit z (w at n)

  abbrev GoesFree : Walk → Type 0
  GoesFree w = (at : Standing) (n : Counts) → Stands z at → Room z n (w at n) → SitesFit z (w at n)

  abbrev AllGo : List Walk → Type 0
  AllGo ws = Each Goes ws

  abbrev AllFree : List Walk → Type 0
  AllFree ws = Each GoesFree ws

  walked_goes : (ws : List Walk) → AllGo ws → Goes (walked ws)
  walked_goes [] g at n st i r = none_fits
  walked_goes (w ∷ ws) g at n st i r =
      let s : Sites = w at n in let t : Sites = walked ws at (behind n s) in
      fits_joined s t (g.0 at n st i (room_left n s t r)) (walked_goes ws g.1 at (behind n s) st i (room_right n s t r))

  walked_free : (ws : List Walk) → AllFree ws → GoesFree (walked ws)
  walked_free [] g at n st r = none_fits
  walked_free (w ∷ ws) g at n st r =
      let s : Sites = w at n in let t : Sites = walked ws at (behind n s) in
      fits_joined s t (g.0 at n st (room_left n s t r)) (walked_free ws g.1 at (behind n s) st (room_right n s t r))

  -- ---- members

  uses_fit : (at : Standing) (scope : ℕ) (is_static : Bool) (trees : Uses) → innermost at.round < z.classes → scope < z.scopes → Each (UseFits z) (used_at at scope is_static trees)
  uses_fit at scope is_static trees i l = each_given _ (UseFits z) trees (λ t. record { class = i; scope = l })

  fields_fit : (at : Standing) (vars : LocalVars) (list : List Var) → innermost at.round < z.classes → at.scope < z.scopes → Each (FieldFits z) (field_sites at vars list)
  fields_fit at vars list i l = each_given _ (FieldFits z) list (λ v. record { class = i; scope = l })

  variables_fit : (o : Owner) (params : List TypeParam) → OwnerFits z o → Each (VariableFits z) (variable_sites o params)
  variables_fit o params f = each_given _ (VariableFits z) params (λ p. f)

  one_more : (n k : ℕ) → n + 1 ≤ k → n < k
  one_more n k l = omega (arith, l)

  implied_goes : (form : MethodForm) → Goes (implied_sites form)
  implied_goes form at n st i r =
      record {
        classes = tt;
        methods = (record { class = i; scope = one_more n.scopes z.scopes r.scopes }, tt);
        fields = tt;
        variables = tt;
        scopes = ((st.scope, one_more n.methods z.methods r.methods), tt);
        uses = tt;
      }

  implied_go : (forms : List MethodForm) → AllGo (map implied_sites forms)
  implied_go [] = tt
  implied_go (f ∷ forms) = (implied_goes f, implied_go forms)

  class_fits : (head : DeclarationHead) (at : Standing) (n : Counts) → Stands z at → Room z n (class_sites head at n) → SitesFit z (class_sites head at n)
  class_fits head at n st r =
      let c : n.classes < z.classes = one_more n.classes z.classes r.classes in
      record {
        classes = (record { round = st.round; scope = one_more n.scopes z.scopes r.scopes }, tt);
        methods = tt;
        fields = tt;
        variables = variables_fit (owner.Class (record { 0 = n.classes })) (params_of_head head) c;
        scopes = ((st.scope, c), tt);
        uses = tt;
      }

  declaration_goes : (head : DeclarationHead) (members : List Membered) → AllGo (map (λ (m : Membered). m.walk) members) → GoesFree (declaration_walk head members)
  declaration_goes head members g at n st r =
      let own : Sites = class_sites head at n in
      let ws : List Walk = map implied_sites (implied_forms head members) ++ map (λ (m : Membered). m.walk) members in
      let t : Sites = walked ws (within head at n) (behind n own) in
      let room : Room z n own = room_left n own t r in
      let c : n.classes < z.classes = one_more n.classes z.classes room.classes in
      fits_joined own t (class_fits head at n st room)
      (walked_goes ws (each_joined Goes (map implied_sites (implied_forms head members)) (map (λ (m : Membered). m.walk) members) (implied_go (implied_forms head members)) g) (within head at n) (behind n own)
      (record { round = (c, st.round); scope = one_more n.scopes z.scopes room.scopes }) c (room_right n own t r))

  -- ---- declarations

  abbrev MemberGoes : Member → Type 0
  MemberGoes x = Goes (membered x).walk

  abbrev DeclarationGoes : Declaration → Type 0
  DeclarationGoes x = GoesFree (sites_of_declaration x)

  abbrev SomeMember : Type 0
  SomeMember = (x : Member) × MemberGoes x

  abbrev SomeStmt : Type 0
  SomeStmt = (x : Stmt) × Unit {0}

  abbrev SomeClause : Type 0
  SomeClause = (x : Clause) × Unit {0}

  abbrev SomeDeclaration : Type 0
  SomeDeclaration = (x : Declaration) × DeclarationGoes x

  abbrev plain_member : Member-F SomeMember SomeStmt SomeClause SomeDeclaration → Member-F Member Stmt Clause Declaration
  plain_member y = map-Member SomeMember SomeStmt SomeClause SomeDeclaration Member Stmt Clause Declaration (λ z. z.0) (λ z. z.0) (λ z. z.0) (λ z. z.0) y

  method_goes : (head : MethodHead) (form : MethodForm) (is_static : Bool) (trees : Uses) (at : Standing) (n : Counts) → Stands z at → innermost at.round < z.classes
      → n.methods + 1 ≤ z.methods → n.scopes + 1 ≤ z.scopes
      → SitesFit z (record { units = []; classes = []; methods = record { class = innermost at.round; scope = n.scopes; form = form } ∷ []; fields = []; variables = variable_sites (owner.Method (record { 0 = n.methods })) (listed_params head.params); scopes = record { outer = Some at.scope; form = scope_of.Method n.methods } ∷ []; uses = used_at at n.scopes is_static trees })
  method_goes head form is_static trees at n st i m s =
      record {
        classes = tt;
        methods = (record { class = i; scope = one_more n.scopes z.scopes s }, tt);
        fields = tt;
        variables = variables_fit (owner.Method (record { 0 = n.methods })) (listed_params head.params) (one_more n.methods z.methods m);
        scopes = ((st.scope, one_more n.methods z.methods m), tt);
        uses = uses_fit at n.scopes is_static trees i (one_more n.scopes z.scopes s);
      }

  member_layer : (y : Member-F SomeMember SomeStmt SomeClause SomeDeclaration) → Goes (member_sites (map-Member Member Stmt Clause Declaration Membered Uses Uses Walk membered uses_of_stmt uses_of_clause sites_of_declaration (plain_member y))).walk
  member_layer (Member-F.Semicolon at) = λ s n st i r. none_fits
  member_layer (Member-F.Initialiser at is_static items) = λ s n st i r. record { classes = tt; methods = tt; fields = tt; variables = tt; scopes = tt; uses = uses_fit s s.scope is_static (uses_of_lists (map uses_of_stmt (map (λ (z : SomeStmt). z.0) items))) i st.scope }
  member_layer (Member-F.Fields vars) =
      λ s n st i r. record { classes = tt; methods = tt; fields = fields_fit s vars (vars.first ∷ vars.more) i st.scope; variables = tt; scopes = tt; uses = uses_fit s s.scope (says_static vars.modifiers) (uses_in_each uses_of_var (vars.first ∷ vars.more)) i st.scope }
  member_layer (Member-F.Bare head) = λ s n st i r. method_goes head (Headed head false) (says_static head.modifiers) [] s n st i r.methods r.scopes
  member_layer (Member-F.Method head items) =
      λ s n st i r. method_goes head (Headed head true) (says_static head.modifiers) (uses_of_lists (map uses_of_stmt (map (λ (z : SomeStmt). z.0) items))) s n st i r.methods r.scopes
  member_layer (Member-F.Nested d) = λ s n st i r. d.1 s n st r

  goes_along : (v w : Walk) → v ≡ w → Goes w → Goes v
  goes_along v w e g = subst Goes (sym e) g

  free_along : (v w : Walk) → v ≡ w → GoesFree w → GoesFree v
  free_along v w e g = subst GoesFree (sym e) g

  member_rolled : (y : Member-F SomeMember SomeStmt SomeClause SomeDeclaration) → MemberGoes (roll-Member (plain_member y))
  unfolding membered uses_of_stmt uses_of_clause sites_of_declaration
  member_rolled y = goes_along _ _ (ap (λ (m : Membered). m.walk) (fold-roll-Member Membered Uses Uses Walk member_sites stmt_uses clause_uses declaration_sites (plain_member y))) (member_layer y)

  abbrev plain_declaration : Declaration-F SomeMember SomeStmt SomeClause SomeDeclaration → Declaration-F Member Stmt Clause Declaration
  plain_declaration y = map-Declaration SomeMember SomeStmt SomeClause SomeDeclaration Member Stmt Clause Declaration (λ z. z.0) (λ z. z.0) (λ z. z.0) (λ z. z.0) y

  all_given : (zs : List SomeMember) → AllGo (map (λ (m : Membered). m.walk) (map membered (map (λ (z : SomeMember). z.0) zs)))
  all_given [] = tt
  all_given (z ∷ zs) = (z.1, all_given zs)

  declaration_layer : (y : Declaration-F SomeMember SomeStmt SomeClause SomeDeclaration)
      → GoesFree (declaration_sites (map-Declaration Member Stmt Clause Declaration Membered Uses Uses Walk membered uses_of_stmt uses_of_clause sites_of_declaration (plain_declaration y)))
  declaration_layer y = declaration_goes y.head _ (all_given y.members)

  declaration_rolled : (y : Declaration-F SomeMember SomeStmt SomeClause SomeDeclaration) → DeclarationGoes (roll-Declaration (plain_declaration y))
  unfolding membered uses_of_stmt uses_of_clause sites_of_declaration
  declaration_rolled y = free_along _ _ (fold-roll-Declaration Membered Uses Uses Walk member_sites stmt_uses clause_uses declaration_sites (plain_declaration y)) (declaration_layer y)

  declared_goes : (x : Declaration) → DeclarationGoes x
  declared_goes = ind-Declaration MemberGoes (λ x. Unit {0}) (λ x. Unit {0}) DeclarationGoes
      (λ x y is. subst (λ (x : Member-F Member Stmt Clause Declaration). MemberGoes (roll-Member x)) is (member_rolled y))
      (λ x y is. tt)
      (λ x y is. tt)
      (λ x y is. subst (λ (x : Declaration-F Member Stmt Clause Declaration). DeclarationGoes (roll-Declaration x)) is (declaration_rolled y))

  -- ---- units

  top_goes : (t : TopLevel) → GoesFree (sites_of_top t)
  top_goes (top_of.Declaration d) = declared_goes d
  top_goes (top_of.Semicolon at) = λ s n st r. none_fits

  tops_go : (ts : List TopLevel) → AllFree (map sites_of_top ts)
  tops_go [] = tt
  tops_go (t ∷ ts) = (top_goes t, tops_go ts)

  unit_fits : (u : SourceUnit) (unit : ℕ) (n : Counts) → Room z n (sites_of_unit u unit n) → SitesFit z (sites_of_unit u unit n)
  unit_fits u unit n r =
      let own : Sites = unit_front u unit n.scopes in
      let at : Standing = record { file = u.file; unit = unit; round = []; of_interface = false; scope = n.scopes } in
      let t : Sites = walked (map sites_of_top u.unit.types) at (behind n own) in
      let room : Room z n own = room_left n own t r in
      fits_joined own t (record { classes = tt; methods = tt; fields = tt; variables = tt; scopes = ((tt, tt), tt); uses = tt })
      (walked_free (map sites_of_top u.unit.types) (tops_go u.unit.types) at (behind n own) (record { round = tt; scope = one_more n.scopes z.scopes room.scopes }) (room_right n own t r))

  units_fit : (us : List SourceUnit) (unit : ℕ) (n : Counts) → Room z n (sites_from us unit n) → SitesFit z (sites_from us unit n)
  units_fit [] unit n r = none_fits
  units_fit (u ∷ us) unit n r =
      let s : Sites = sites_of_unit u unit n in let t : Sites = sites_from us (unit + 1) (behind n s) in
      fits_joined s t (unit_fits u unit n (room_left n s t r)) (units_fit us (unit + 1) (behind n s) (room_right n s t r))

abbrev pub sizes : Sites → Sizes
sizes S = record { classes = length S.classes; methods = length S.methods; scopes = length S.scopes }

whole : (n : ℕ) → 0 + n ≤ n
whole n = omega arith

pub all_fit : (us : List SourceUnit) → SitesFit (sizes (sites_of us)) (sites_of us)
all_fit us =
    let S : Sites = sites_of us in
    units_fit (sizes S) us 0 (record { classes = 0; methods = 0; scopes = 0 })
    (record { classes = whole (length S.classes); methods = whole (length S.methods); scopes = whole (length S.scopes) })
