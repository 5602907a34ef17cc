-- The bodies of a declaration by its members, and those of a unit by the numbers of its types.
use Rattle.std.proofs.Common.{◌≡◌, ℕ, List, [], ◌∷◌, ◌++◌, map, refl, ap, sym, ◌∙◌}
use Rattle.jc_tree.specs.declared.statement.Clause.{Clause}
use Rattle.jc_tree.specs.declared.statement.Declaration.{Declaration, map-Declaration, out-Declaration, para-roll-Declaration, roll-out-Declaration}
use Rattle.jc_tree.specs.declared.statement.Member.{Member, Member-F, map-Member, out-Member, para-Member, para-roll-Member, roll-out-Member}
use Rattle.jc_tree.specs.declared.statement.Stmt.{Stmt}
use Rattle.jc_tree.specs.declared.statement.TopLevel.{TopLevel}
use Rattle.jc_tree.specs.declared.statement.TopLevel.TheVariants as top_of
use Rattle.jc_types.specs.declared.ids.ClassId.{ClassId}
use Rattle.jc_types.specs.declared.table.Table.{Table}
use Rattle.jc_types.specs.Accessors.{members_of}
use Rattle.jc_declares.specs.declared.heads.Heads.{Heads}
use Rattle.jc_declares.specs.declared.unit.SourceUnit.{SourceUnit}
use Rattle.jc_declares.specs.Heads.{Named, types_of_unit}
use Rattle.jc_declares.specs.Making.{class_id, numbers}
use Rattle.jc_groups.specs.declared.members.Members.{Members}
use Rattle.jc_groups.specs.Groups.{group_in}
use Rattle.jc_groups.specs.Members.{AreMembers}
use Rattle.jc_stmts_spec.specs.Bodies.{Bodied, Inside, MemberLayer, bodies, bodies_of, bodies_of_types, class_bodies, declaration_step, member_step, nested}
use Rattle.jc_stmts_bodies.specs.Flat.{behind_nested, nested_in, of_nested, of_tops, parts_in}

-- ---- one layer at a time

inside_of : Member → Inside
inside_of m = para-Member Inside (Unit {0}) (Unit {0}) Bodied member_step (λ s. tt) (λ c. tt) declaration_step m

abbrev with_inside : Member → Member × Inside
with_inside m = (m, inside_of m)

abbrev with_unit : {A : Type 0} → A → A × Unit {0}
with_unit a = (a, tt)

abbrev with_bodies : Declaration → Declaration × Bodied
with_bodies d = (d, bodies_of d)

declaration-out : (d : Declaration) → bodies_of d ≡ declaration_step (map-Declaration Member Stmt Clause Declaration (Member × Inside) (Stmt × Unit {0}) (Clause × Unit {0}) (Declaration × Bodied) with_inside with_unit with_unit with_bodies (out-Declaration d))
unfolding bodies_of inside_of
declaration-out d = ap bodies_of (sym (roll-out-Declaration d)) ∙ para-roll-Declaration Inside (Unit {0}) (Unit {0}) Bodied member_step (λ s. tt) (λ c. tt) declaration_step (out-Declaration d)

member-out : (m : Member) → inside_of m ≡ member_step (map-Member Member Stmt Clause Declaration (Member × Inside) (Stmt × Unit {0}) (Clause × Unit {0}) (Declaration × Bodied) with_inside with_unit with_unit with_bodies (out-Member m))
unfolding bodies_of inside_of
member-out m = ap inside_of (sym (roll-out-Member m)) ∙ para-roll-Member Inside (Unit {0}) (Unit {0}) Bodied member_step (λ s. tt) (λ c. tt) declaration_step (out-Member m)

-- ---- member types

members_back : (ms : List Member) → map (λ (m : Member × Inside). m.0) (map with_inside ms) ≡ ms
members_back [] = refl
members_back (m ∷ ms) = ap (λ xs. m ∷ xs) (members_back ms)

none_at : (T : Table) (ms : List Member) (l : MemberLayer) → nested_in T ms [] ≡ [] → of_nested T l [] ++ nested_in T ms (behind_nested l []) ≡ []
none_at T ms (Member-F.Semicolon at) e = e
none_at T ms (Member-F.Initialiser at is_static items) e = e
none_at T ms (Member-F.Fields ls) e = e
none_at T ms (Member-F.Bare head) e = e
none_at T ms (Member-F.Method head items) e = e
none_at T ms (Member-F.Nested d) e = e

nested_none : (T : Table) (ms : List Member) → nested_in T ms [] ≡ []
nested_none T [] = refl
nested_none T (m ∷ ms) = none_at T ms (out-Member m) (nested_none T ms)

abbrev layer : MemberLayer → Member-F (Member × Inside) (Stmt × Unit {0}) (Clause × Unit {0}) (Declaration × Bodied)
layer l = map-Member Member Stmt Clause Declaration (Member × Inside) (Stmt × Unit {0}) (Clause × Unit {0}) (Declaration × Bodied) with_inside with_unit with_unit with_bodies l

nested_at : (T : Table) (m : Member) (ms : List Member) (k : ClassId) (ks : List ClassId) (l : MemberLayer) →
    nested T (map with_inside ms) (k ∷ ks) ≡ nested_in T ms (k ∷ ks) → nested T (map with_inside ms) ks ≡ nested_in T ms ks →
    nested T ((m, member_step (layer l)) ∷ map with_inside ms) (k ∷ ks) ≡ of_nested T l (k ∷ ks) ++ nested_in T ms (behind_nested l (k ∷ ks))
nested_at T m ms k ks (Member-F.Semicolon at) same less = same
nested_at T m ms k ks (Member-F.Initialiser at is_static items) same less = same
nested_at T m ms k ks (Member-F.Fields ls) same less = same
nested_at T m ms k ks (Member-F.Bare head) same less = same
nested_at T m ms k ks (Member-F.Method head items) same less = same
nested_at T m ms k ks (Member-F.Nested d) same less = ap (λ xs. bodies_of d T k ++ xs) less

nested_is : (T : Table) (ms : List Member) (ks : List ClassId) → nested T (map with_inside ms) ks ≡ nested_in T ms ks
nested_is T [] ks = refl
nested_is T (m ∷ ms) [] = sym (nested_none T (m ∷ ms))
nested_is T (m ∷ ms) (k ∷ ks) =
    ap (λ (i : Inside). nested T ((m, i) ∷ map with_inside ms) (k ∷ ks)) (member-out m)
    ∙ nested_at T m ms k ks (out-Member m) (nested_is T ms (k ∷ ks)) (nested_is T ms ks)

pub declaration_parts : (d : Declaration) (T : Table) (k : ClassId) → bodies_of d T k ≡ parts_in T k (out-Declaration d).members
declaration_parts d T k =
    ap (λ (b : Bodied). b T k) (declaration-out d)
    ∙ ap (λ xs. class_bodies T k xs ++ nested T (map with_inside (out-Declaration d).members) (members_of T k)) (members_back (out-Declaration d).members)
    ∙ ap (λ xs. class_bodies T k (out-Declaration d).members ++ xs) (nested_is T (out-Declaration d).members (members_of T k))

-- ---- units

tops_none : (T : Table) (ds : List TopLevel) → of_tops T ds [] ≡ []
tops_none T [] = refl
tops_none T (top_of.Semicolon at ∷ ds) = tops_none T ds
tops_none T (top_of.Declaration d ∷ ds) = tops_none T ds

tops_are : (T : Table) (ds : List TopLevel) (ks : Named) → bodies_of_types T ds ks ≡ of_tops T ds (numbers ks)
tops_are T [] ks = refl
tops_are T (top_of.Semicolon at ∷ ds) ks = tops_are T ds ks
tops_are T (top_of.Declaration d ∷ ds) [] = sym (tops_none T ds)
tops_are T (top_of.Declaration d ∷ ds) (k ∷ ks) = ap (λ xs. bodies_of d T (class_id k.1) ++ xs) (tops_are T ds ks)

pub bodies_are : (T : Table) (H : Heads) (M : Members) (u : ℕ) (unit : SourceUnit) → AreMembers H M → bodies T H u unit ≡ of_tops T unit.unit.types (group_in M.tops u)
unfolding bodies
bodies_are T H M u unit m = tops_are T unit.unit.types (types_of_unit H u) ∙ ap (of_tops T unit.unit.types) (sym (m.tops u))

pub ruleset declarations = (declaration_parts)

pub ruleset whole = (bodies_are)
