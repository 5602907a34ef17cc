-- The ids of what a program declares ascend with the places.
use Rattle.std.proofs.Common.{◌≡◌, ◌<◌, ◌≤◌, ◌+◌, ℕ, zero, suc, Bool, true, false, Option, Some, None, List, [], ◌∷◌, ◌++◌, map, slice_get, arith, refl, sym, ap, subst, ◌∙◌}
use Rattle.jc_rules.specs.declared.rule.Place.{Place}
use Rattle.jc_lexer.specs.declared.token.Token.{Token}
use Rattle.jc_tree.specs.Offsets.{first_offset_of_head}
use Rattle.jc_types.specs.declared.declarations.ClassDecl.{ClassDecl}
use Rattle.jc_types.specs.declared.declarations.FieldDecl.{FieldDecl}
use Rattle.jc_types.specs.declared.declarations.MethodDecl.{MethodDecl}
use Rattle.jc_types.specs.declared.declarations.Owner.{Owner}
use Rattle.jc_types.specs.declared.declarations.Owner.TheVariants as owner
use Rattle.jc_types.specs.declared.declarations.VariableDecl.{VariableDecl}
use Rattle.jc_grammar.specs.Told.{Told}
use Rattle.jc_grammar.specs.Spelling.{StandsAt, AreTold}
use Rattle.jc_grammar.specs.Statements.{file_tokens}
use Rattle.jc_declares.specs.declared.heads.Heads.{Heads}
use Rattle.jc_declares.specs.declared.unit.SourceUnit.{SourceUnit}
use Rattle.jc_declares.specs.HeadBreaks.{file_in, class_file, class_in}
use Rattle.jc_declares.specs.Heads.{heads_of, class_head, method_place}
use Rattle.jc_declares.specs.Knowing.{known}
use Rattle.jc_declares.specs.Looking.{Knowledge}
use Rattle.jc_declares.specs.Making.{class_at_in, class_decl, method_decl, method_decl_of, field_decl, variable_decl, numbered, table_of}
use Rattle.jc_declares.specs.Sites.{Sites, ClassSite, MethodSite, FieldSite, VariableSite, MethodForm, Headed, ImpliedConstructor, StaticInitialiser, Counts, behind, sites_of_unit, sites_from, sites_of}
use Rattle.jc_order_laws.specs.Order.{Ascend, IsRead, next_file, AreJob, IsAhead, Comes, IdsAscend}
use Rattle.jc_order_laws.proofs.Picks.{Goes, here, skip, pick, again}
use Rattle.jc_order_laws.proofs.Placing.{Each, each_joined, owner_file, form_offset, method_offset, Agrees, agrees_left, agrees_right, Stand, Reads, unit_reads}

-- ---- lists

each_as : {X : Type 0} (P Q : X → Type 0) (xs : List X) → ((x : X) → P x → Q x) → Each P xs → Each Q xs
each_as P Q [] f a = tt
each_as P Q (x ∷ xs) f a = (f x a.0, each_as P Q xs f a.1)

each_always : {X : Type 0} (P : X → Type 0) (xs : List X) → ((x : X) → P x) → Each P xs
each_always P [] f = tt
each_always P (x ∷ xs) f = (f x, each_always P xs f)

each_at : {X : Type 0} (P : X → Type 0) (xs : List X) (n : ℕ) (x : X) → slice_get xs n ≡ Some x → Each P xs → P x
each_at P [] zero x e a = absurd (let n : ⊥ = cc in n)
each_at P [] (suc n) x e a = absurd (let n : ⊥ = cc in n)
each_at P (y ∷ xs) zero x e a = subst P (let g : y ≡ x = cc in g) a.0
each_at P (y ∷ xs) (suc n) x e a = each_at P xs n x e a.1

-- ---- tokens

above_tail : (t : Token) (ts : List Token) → Ascend (t ∷ ts) → Ascend ts
above_tail t [] a = tt
above_tail t (u ∷ us) a = a.1

abbrev From : ℕ → Token → Type 0
From lo t = lo ≤ t.from

all_behind : (t : Token) (ts : List Token) → Ascend (t ∷ ts) → Each (From (suc t.from)) ts
all_behind t [] a = tt
all_behind t (u ∷ us) a =
    let l : t.from < u.from = a.0 in
    (omega (arith, l), each_as (From (suc u.from)) (From (suc t.from)) us (λ v k. omega (arith, k, l)) (all_behind u us a.1))

-- ---- offsets that stand in tokens

abbrev Sorted : Bool → List ℕ → Type 0
Sorted shared [] = Unit {0}
Sorted shared (x ∷ xs) = Each (IsAhead shared x) xs × Sorted shared xs

record Told_in (shared : Bool) (lo : ℕ) (xs : List ℕ) : Type 0 where
  sorted : Sorted shared xs
  above : Each (λ (x : ℕ). lo ≤ x) xs

ahead_by : (shared : Bool) (x y : ℕ) → suc x ≤ y → IsAhead shared x y
ahead_by true x y l = omega (arith, l)
ahead_by false x y l = omega (arith, l)

ahead_shared : (shared : Bool) (x y : ℕ) → shared ≡ true → x ≤ y → IsAhead shared x y
ahead_shared true x y e l = l
ahead_shared false x y e l = cc

stands_there : (at : Option ℕ) (from x : ℕ) → at ≡ Some x → StandsAt at from → from ≡ x
stands_there None from x e s = cc
stands_there (Some y) from x e s = s ∙ (let g : y ≡ x = cc in g)

sorted_in : (shared : Bool) (xs : List ℕ) (d r : List Told) → Goes shared xs d r → (touched : Bool) (tokens : List Token) → AreTold touched d tokens → (lo : ℕ) → Each (From lo) tokens → Ascend tokens → Told_in shared lo xs
sorted_in shared _ _ r (here e) touched tokens told lo l a = record { sorted = tt; above = tt }
sorted_in shared xs _ r (skip d xs1 rest r1 g) touched [] told lo l a = absurd told
sorted_in shared xs _ r (skip d xs1 rest r1 g) touched (t ∷ ts) told lo l a = sorted_in shared xs1 rest r1 g _ ts told.4 lo l.1 (above_tail t ts a)
sorted_in shared _ _ r (pick d x xs rest r1 is g) touched [] told lo l a = absurd told
sorted_in shared _ _ r (pick d x xs rest r1 is g) touched (t ∷ ts) told lo l a =
    let e : t.from ≡ x = stands_there d.at t.from x is told.1 in
    let behind_it : Each (From (suc x)) ts = subst (λ (n : ℕ). Each (From (suc n)) ts) e (all_behind t ts a) in
    let more : Told_in shared (suc x) xs = sorted_in shared xs rest r1 g _ ts told.4 (suc x) behind_it (above_tail t ts a) in
    let low : lo ≤ x = subst (λ (n : ℕ). lo ≤ n) e l.0 in
    record {
      sorted = (each_as (λ (y : ℕ). suc x ≤ y) (IsAhead shared x) xs (λ y k. ahead_by shared x y k) more.above, more.sorted);
      above = (low, each_as (λ (y : ℕ). suc x ≤ y) (λ (y : ℕ). lo ≤ y) xs (λ y k. omega (arith, k, low)) more.above);
    }
sorted_in shared _ _ r (again d x xs rest r1 w is g) touched [] told lo l a = absurd told
sorted_in shared _ _ r (again d x xs rest r1 w is g) touched (t ∷ ts) told lo l a =
    let e : t.from ≡ x = stands_there d.at t.from x is told.1 in
    let behind_it : Each (From (suc x)) ts = subst (λ (n : ℕ). Each (From (suc n)) ts) e (all_behind t ts a) in
    let from_it : Each (From x) (t ∷ ts) = (omega (arith, e), each_as (From (suc x)) (From x) ts (λ v k. omega (arith, k)) behind_it) in
    let more : Told_in shared x xs = sorted_in shared xs (d ∷ rest) r1 g touched (t ∷ ts) told x from_it a in
    let low : lo ≤ x = subst (λ (n : ℕ). lo ≤ n) e l.0 in
    record {
      sorted = (each_as (λ (y : ℕ). x ≤ y) (IsAhead shared x) xs (λ y k. ahead_shared shared x y w k) more.above, more.sorted);
      above = (low, each_as (λ (y : ℕ). x ≤ y) (λ (y : ℕ). lo ≤ y) xs (λ y k. omega (arith, k, low)) more.above);
    }

-- ---- places

abbrev InOrder : {X : Type 0} → Bool → (X → Place) → List X → Type 0
InOrder shared place [] = Unit {0}
InOrder shared place (x ∷ xs) = Each (λ y. Comes shared (place x) (place y)) xs × InOrder shared place xs

next_above : (f : ℕ) → f ≤ next_file f
next_above zero = omega arith
next_above (suc f) = omega arith

next_strict : (f : ℕ) → 0 < f → f < next_file f
next_strict zero l = absurd (omega (arith, l))
next_strict (suc f) l = omega arith

module _ {X : Type 0} (shared : Bool) (fl off : X → ℕ) where
  abbrev place : X → Place
  place x = record { file = fl x; at = off x }

  abbrev pub Of : ℕ → X → Type 0
  Of file x = fl x ≡ file

  -- of one file
  comes_all : (file : ℕ) (x : X) (ys : List X) → fl x ≡ file → Each (Of file) ys → (0 < file → Each (IsAhead shared (off x)) (map off ys)) → Each (λ y. Comes shared (place x) (place y)) ys
  comes_all file x [] e a f = tt
  comes_all file x (y ∷ ys) e a f =
      (record { file = omega (arith, e, a.0); offset = λ is some. (f (omega (arith, e, some))).0 }, comes_all file x ys e a.1 (λ some. (f some).1))

  one_file : (file : ℕ) (xs : List X) → Each (Of file) xs → (0 < file → Sorted shared (map off xs)) → InOrder shared place xs
  one_file file [] a f = tt
  one_file file (x ∷ xs) a f = (comes_all file x xs a.0 a.1 (λ some. (f some).0), one_file file xs a.1 (λ some. (f some).1))

  record Ordered (least : ℕ) (xs : List X) : Type 0 where
    in_order : InOrder shared place xs
    above : Each (λ x. least ≤ fl x) xs

  across : (file : ℕ) (x : X) (ys : List X) → fl x ≡ file → Each (λ y. next_file file ≤ fl y) ys → Each (λ y. Comes shared (place x) (place y)) ys
  across file x [] e a = tt
  across file x (y ∷ ys) e a = (
    record {
      file = omega (arith, e, a.0, next_above file);
      offset = λ is some. absurd (omega (arith, is, e, a.0, next_strict file (let k : 0 < file = omega (arith, e, some) in k)));
    },
    across file x ys e a.1,
  )

  order_joined : (file : ℕ) (xs ys : List X) → InOrder shared place xs → InOrder shared place ys → Each (Of file) xs → Each (λ y. next_file file ≤ fl y) ys → InOrder shared place (xs ++ ys)
  order_joined file [] ys g h a b = h
  order_joined file (x ∷ xs) ys g h a b = (each_joined (λ y. Comes shared (place x) (place y)) xs ys g.0 (across file x ys a.0 b), order_joined file xs ys g.1 h a.1 b)

  file_joined : (least file : ℕ) (xs ys : List X) → least ≤ file → Each (Of file) xs → (0 < file → Sorted shared (map off xs)) → Ordered (next_file file) ys → Ordered least (xs ++ ys)
  file_joined least file xs ys l a f o =
      record {
        in_order = order_joined file xs ys (one_file file xs a f) o.in_order a o.above;
        above = each_joined (λ x. least ≤ fl x) xs ys (each_as (Of file) (λ x. least ≤ fl x) xs (λ x e. omega (arith, e, l)) a) (each_as (λ y. next_file file ≤ fl y) (λ y. least ≤ fl y) ys (λ y k. omega (arith, k, l, next_above file)) o.above);
      }

  order_at : (xs : List X) (i j : ℕ) (x y : X) → i < j → slice_get xs i ≡ Some x → slice_get xs j ≡ Some y → InOrder shared place xs → Comes shared (place x) (place y)
  order_at [] zero j x y l e g o = absurd (let n : ⊥ = cc in n)
  order_at [] (suc i) j x y l e g o = absurd (let n : ⊥ = cc in n)
  order_at (z ∷ xs) i zero x y l e g o = absurd (omega (arith, l))
  order_at (z ∷ xs) zero (suc j) x y l e g o = subst (λ w. Comes shared (place w) (place y)) (let k : z ≡ x = cc in k) (each_at (λ v. Comes shared (place z) (place v)) xs j y g o.0)
  order_at (z ∷ xs) (suc i) (suc j) x y l e g o = order_at xs i j x y (omega (arith, l)) e g o.1

from_at : {X Y : Type 0} (f : ℕ → X → Y) (i : ℕ) (xs : List X) (a : ℕ) (y : Y) → slice_get (numbered f i xs) a ≡ Some y → (x : X) × (slice_get xs a ≡ Some x) × (f (i + a) x ≡ y)
from_at f i [] zero y e = absurd (let n : ⊥ = cc in n)
from_at f i [] (suc a) y e = absurd (let n : ⊥ = cc in n)
from_at f i (x ∷ xs) zero y e = (x, refl, ap (λ n. f n x) (let z : i + 0 ≡ i = omega arith in z) ∙ (let g : f i x ≡ y = cc in g))
from_at f i (x ∷ xs) (suc a) y e =
    let rest = from_at f (suc i) xs a y e in
    (rest.0, rest.1, ap (λ n. f n rest.0) (let z : i + suc a ≡ suc i + a = omega arith in z) ∙ rest.2)

-- what is made of these, one by one, stands where they do
made_in_order : {X Y : Type 0} (shared : Bool) (fl off : X → ℕ) (where_it : Y → Place) (f : ℕ → X → Y) → ((k : ℕ) (x : X) → where_it (f k x) ≡ record { file = fl x; at = off x })
    → (xs : List X) → InOrder shared (place shared fl off) xs → (i j : ℕ) (x y : Y) → i < j → slice_get (numbered f 0 xs) i ≡ Some x → slice_get (numbered f 0 xs) j ≡ Some y → Comes shared (where_it x) (where_it y)
made_in_order shared fl off where_it f is xs o i j x y l e g =
    let a = from_at f 0 xs i x e in
    let b = from_at f 0 xs j y g in
    let here_a : record { file = fl a.0; at = off a.0 } ≡ where_it x = sym (is (0 + i) a.0) ∙ ap where_it a.2 in
    let here_b : record { file = fl b.0; at = off b.0 } ≡ where_it y = sym (is (0 + j) b.0) ∙ ap where_it b.2 in
    subst (λ (p : Place). Comes shared p (where_it y)) here_a (subst (λ (p : Place). Comes shared (record { file = fl a.0; at = off a.0 }) p) here_b (order_at shared fl off xs i j a.0 b.0 l a.1 b.1 o))

mapped_at : {X Y : Type 0} (f : X → Y) (xs : List X) (n : ℕ) (x : X) → slice_get xs n ≡ Some x → slice_get (map f xs) n ≡ Some (f x)
mapped_at f [] zero x e = cc
mapped_at f [] (suc n) x e = cc
mapped_at f (y ∷ xs) zero x e = let g : y ≡ x = cc in ap (λ z. Some (f z)) g
mapped_at f (y ∷ xs) (suc n) x e = mapped_at f xs n x e

module _ (all : Sites) where
  abbrev H : Heads
  H = heads_of all

  abbrev K : Knowledge
  K = known H

  abbrev file_of : ℕ → ℕ
  file_of c = class_file H c

  abbrev offset_of : ℕ → ℕ
  offset_of c = class_at_in (slice_get H.classes c)

  abbrev class_of : ℕ → ℕ
  class_of m = class_in (slice_get H.methods m)

  abbrev class_fl : ClassSite → ℕ
  class_fl c = c.file

  abbrev method_fl : MethodSite → ℕ
  method_fl m = file_of m.class

  abbrev field_fl : FieldSite → ℕ
  field_fl f = file_of f.class

  abbrev variable_fl : VariableSite → ℕ
  variable_fl v = owner_file file_of offset_of class_of v.owner

  abbrev class_off : ClassSite → ℕ
  class_off c = first_offset_of_head c.head

  abbrev method_off : MethodSite → ℕ
  method_off m = method_offset file_of offset_of class_of m

  abbrev field_off : FieldSite → ℕ
  field_off f = f.var.name.at

  abbrev variable_off : VariableSite → ℕ
  variable_off v = v.param.name.at

  record SitesOrdered (least : ℕ) (s : Sites) : Type 0 where
    classes : Ordered false class_fl class_off least s.classes
    methods : Ordered true method_fl method_off least s.methods
    fields : Ordered false field_fl field_off least s.fields
    variables : Ordered false variable_fl variable_off least s.variables

  abbrev Fit : Counts → Sites → Type 0
  Fit n s = Agrees file_of offset_of class_of n s

  offsets_sorted : (u : SourceUnit) (shared : Bool) (xs : List ℕ) → Goes shared xs (file_tokens u.unit []) [] → (0 < u.file → IsRead u) → 0 < u.file → Sorted shared xs
  offsets_sorted u shared xs g read some =
      let it : IsRead u = read some in
      (sorted_in shared xs (file_tokens u.unit []) [] g false it.tokens it.told 0 (each_always (From 0) it.tokens (λ t. omega arith)) it.ascend).sorted

  units_ordered : (us : List SourceUnit) (unit : ℕ) (n : Counts) (least : ℕ) → AreJob least us → Fit n (sites_from us unit n) → SitesOrdered least (sites_from us unit n)
  units_ordered [] unit n least job fit =
      record {
        classes = record { in_order = tt; above = tt };
        methods = record { in_order = tt; above = tt };
        fields = record { in_order = tt; above = tt };
        variables = record { in_order = tt; above = tt };
      }
  units_ordered (u ∷ us) unit n least job fit =
      let s : Sites = sites_of_unit u unit n in let t : Sites = sites_from us (unit + 1) (behind n s) in
      let reads : Reads file_of offset_of class_of u.file s (file_tokens u.unit) = unit_reads file_of offset_of class_of u unit n (agrees_left file_of offset_of class_of n s t fit) in
      let stand : Stand file_of offset_of class_of s (file_tokens u.unit []) [] = reads.stand [] in
      let more : SitesOrdered (next_file u.file) t = units_ordered us (unit + 1) (behind n s) (next_file u.file) job.2 (agrees_right file_of offset_of class_of n s t fit) in
      record {
        classes = file_joined false class_fl class_off least u.file s.classes t.classes job.0 reads.in_file.classes (offsets_sorted u false (map class_off s.classes) stand.classes job.1) more.classes;
        methods = file_joined true method_fl method_off least u.file s.methods t.methods job.0 reads.in_file.methods (offsets_sorted u true (map method_off s.methods) stand.methods job.1) more.methods;
        fields = file_joined false field_fl field_off least u.file s.fields t.fields job.0 reads.in_file.fields (offsets_sorted u false (map field_off s.fields) stand.fields job.1) more.fields;
        variables = file_joined false variable_fl variable_off least u.file s.variables t.variables job.0 reads.in_file.variables (offsets_sorted u false (map variable_off s.variables) stand.variables job.1) more.variables;
      }

  from_zero : (k : ℕ) → 0 + k ≡ k
  from_zero k = omega arith

  whole_fits : Fit (record { classes = 0; methods = 0; scopes = 0 }) all
  whole_fits =
      record {
        classes = λ k c e.
            (ap file_of (from_zero k) ∙ ap file_in (mapped_at class_head all.classes k c e), ap offset_of (from_zero k) ∙ ap class_at_in (mapped_at class_head all.classes k c e));
        methods = λ k m e. ap class_of (from_zero k) ∙ ap class_in (mapped_at method_place all.methods k m e);
      }

  method_stands : (k : ℕ) (m : MethodSite) (form : MethodForm) → (method_decl_of H K k m form).place ≡ record { file = method_fl m; at = form_offset file_of offset_of class_of m.class form }
  method_stands k m (Headed head has_block) = refl
  method_stands k m ImpliedConstructor = refl
  method_stands k m StaticInitialiser = refl

  variable_stands : (k : ℕ) (v : VariableSite) → (variable_decl H K k v).place ≡ record { file = variable_fl v; at = variable_off v }
  variable_stands k v = by_owner v.owner
    where
      by_owner : (o : Owner) → let v2 : VariableSite = record { owner = o; param = v.param } in (variable_decl H K k v2).place ≡ record { file = variable_fl v2; at = variable_off v2 }
      by_owner (owner.Class c) = refl
      by_owner (owner.Method m) = refl

pub ids_ascend : (units : List SourceUnit) → AreJob 0 units → IdsAscend (table_of (sites_of units))
ids_ascend units job =
    let S : Sites = sites_of units in
    let o : SitesOrdered S 0 S = units_ordered S units 0 (record { classes = 0; methods = 0; scopes = 0 }) 0 job (whole_fits S) in
    record {
      classes = made_in_order false (class_fl S) (class_off S) (λ (c : ClassDecl). c.place) (class_decl (heads_of S) (known (heads_of S))) (λ k s. refl) S.classes o.classes.in_order;
      methods = made_in_order true (method_fl S) (method_off S) (λ (m : MethodDecl). m.place) (method_decl (heads_of S) (known (heads_of S))) (λ k m. method_stands S k m m.form) S.methods o.methods.in_order;
      fields = made_in_order false (field_fl S) (field_off S) (λ (f : FieldDecl). f.place) (field_decl (heads_of S) (known (heads_of S))) (λ k f. refl) S.fields o.fields.in_order;
      variables = made_in_order false (variable_fl S) (variable_off S) (λ (v : VariableDecl). v.place) (variable_decl (heads_of S) (known (heads_of S))) (λ k v. variable_stands S k v) S.variables o.variables.in_order;
    }
