-- A declaration as a whole, from its parts; and sources one behind the other.
use Rattle.std.proofs.Common.{◌≡◌, ◌++◌, ◌+◌, ℕ, List, [], ◌∷◌, map, length, append_assoc, refl, sym, ap, ◌∙◌}
use Rattle.jc_tree.specs.declared.statement.Declaration.{Declaration, out-Declaration}
use Rattle.jc_tree.specs.declared.statement.DeclarationHead.{DeclarationHead}
use Rattle.jc_tree.specs.declared.statement.LocalVars.{LocalVars}
use Rattle.jc_tree.specs.declared.statement.Member.{Member}
use Rattle.jc_tree.specs.declared.statement.Var.{Var}
use Rattle.jc_declares.specs.declared.heads.FieldHead.{FieldHead}
use Rattle.jc_declares.specs.declared.heads.Heads.{Heads}
use Rattle.jc_declares.specs.declared.heads.Standing.{Standing}
use Rattle.jc_declares.specs.declared.unit.SourceUnit.{SourceUnit}
use Rattle.jc_declares.specs.Sites.{Walk, Membered, MethodForm, membered, walked, behind, innermost, class_sites, field_sites, implied_forms, implied_sites, is_interface_head, within, sites_of_declaration, sites_of_unit, sites_from}
use Rattle.jc_declares.specs.Heads.{heads_of, field_head}
use Rattle.jc_heads.specs.Joining.{joined_heads, counted, field_of_var}
use Rattle.jc_heads.proofs.Joinings.{map_joined, walk_both, own_first, heads_assoc, heads_joined, counted_behind}
use Rattle.jc_heads.proofs.MembersByParts.{declaration-parts}

pub unwritten_both : (old mid : Heads) (at : Standing) (vs ws : List MethodForm) → mid ≡ joined_heads old (heads_of (walked (map implied_sites vs) at (counted old)))
    → joined_heads mid (heads_of (walked (map implied_sites ws) at (counted mid))) ≡ joined_heads old (heads_of (walked (map implied_sites (vs ++ ws)) at (counted old)))
unwritten_both old mid at vs ws e =
    walk_both old mid (joined_heads mid (heads_of (walked (map implied_sites ws) at (counted mid)))) at (map implied_sites vs) (map implied_sites ws) e refl
    ∙ ap (λ (l : List Walk). joined_heads old (heads_of (walked l at (counted old)))) (sym (map_joined implied_sites vs ws))

inner_is : (at inner : Standing) (head : DeclarationHead) (h : Heads) (class scope : ℕ)
    → inner ≡ record { file = at.file; unit = at.unit; round = class ∷ at.round; of_interface = is_interface_head head; scope = scope } → class ≡ length h.classes → scope ≡ length h.scopes
    → inner ≡ within head at (counted h)
inner_is at inner head h class scope e c s =
    e ∙ ap (λ (k : ℕ). let it : Standing = record { file = at.file; unit = at.unit; round = k ∷ at.round; of_interface = is_interface_head head; scope = scope } in it) c
    ∙ ap (λ (k : ℕ). let it : Standing = record { file = at.file; unit = at.unit; round = length h.classes ∷ at.round; of_interface = is_interface_head head; scope = k } in it) s

abbrev walks : List Member → List Walk
walks ms = map (λ (m : Membered). m.walk) (map membered ms)

pub declared_whole : (old own mid : Heads) (at inner : Standing) (d : Declaration) (class scope : ℕ) (xs ys : List Member)
    → own ≡ joined_heads old (heads_of (class_sites (out-Declaration d).head at (counted old)))
    → inner ≡ record { file = at.file; unit = at.unit; round = class ∷ at.round; of_interface = is_interface_head (out-Declaration d).head; scope = scope }
    → class ≡ length old.classes
    → scope ≡ length old.scopes
    → xs ≡ (out-Declaration d).members
    → ys ≡ (out-Declaration d).members
    → mid ≡ joined_heads own (heads_of (walked (map implied_sites (implied_forms (out-Declaration d).head (map membered xs))) inner (counted own)))
    → joined_heads mid (heads_of (walked (map (λ (m : Membered). m.walk) (map membered ys)) inner (counted mid))) ≡ joined_heads old (heads_of (sites_of_declaration d at (counted old)))
declared_whole old own mid at inner d class scope xs ys e ei ec es ex ey em =
    let head : DeclarationHead = (out-Declaration d).head in
    let ms : List Member = (out-Declaration d).members in
    let w : Standing = within head at (counted old) in
    let i : inner ≡ w = inner_is at inner head old class scope ei ec es in
    let forms : List Walk = map implied_sites (implied_forms head (map membered ms)) in
    let em' : mid ≡ joined_heads own (heads_of (walked forms w (counted own))) =
    em ∙ ap (λ (zs : List Member). joined_heads own (heads_of (walked (map implied_sites (implied_forms head (map membered zs))) inner (counted own)))) ex
    ∙ ap (λ (s : Standing). joined_heads own (heads_of (walked forms s (counted own)))) i in
    ap (λ (zs : List Member). joined_heads mid (heads_of (walked (walks zs) inner (counted mid)))) ey
    ∙ ap (λ (s : Standing). joined_heads mid (heads_of (walked (walks ms) s (counted mid)))) i
    ∙ walk_both own mid (joined_heads mid (heads_of (walked (walks ms) w (counted mid)))) w forms (walks ms) em' refl
    ∙ own_first old own (joined_heads own (heads_of (walked (forms ++ walks ms) w (counted own)))) (class_sites head at (counted old)) w (forms ++ walks ms) e refl
    ∙ ap (λ (f : Walk). joined_heads old (heads_of (f at (counted old)))) (sym (declaration-parts d))

fields_are : (at : Standing) (vars : LocalVars) (vs : List Var) → map (field_of_var (innermost at.round)) vs ≡ map field_head (field_sites at vars vs)
fields_are at vars [] = refl
fields_are at vars (v ∷ vs) = ap (λ (l : List FieldHead). field_of_var (innermost at.round) v ∷ l) (fields_are at vars vs)

pub fields_all : (old first all : List FieldHead) (at : Standing) (vars : LocalVars) (class : ℕ) (more : List Var) → class ≡ innermost at.round → more ≡ vars.more → first ≡ old ++ field_of_var class vars.first ∷ []
    → all ≡ first ++ map (field_of_var class) more
    → all ≡ old ++ map field_head (field_sites at vars (vars.first ∷ vars.more))
fields_all old first all at vars class more ec em ef ea =
    ea ∙ ap (λ (l : List FieldHead). l ++ map (field_of_var class) more) ef ∙ append_assoc old (field_of_var class vars.first ∷ []) (map (field_of_var class) more)
    ∙ ap (λ (vs : List Var). old ++ field_of_var class vars.first ∷ map (field_of_var class) vs) em
    ∙ ap (λ (k : ℕ). old ++ field_of_var k vars.first ∷ map (field_of_var k) vars.more) ec
    ∙ ap (λ (l : List FieldHead). old ++ l) (fields_are at vars (vars.first ∷ vars.more))

-- one source, and then the others
pub unit_turn : (old new : Heads) (unit : ℕ) (u : SourceUnit) (us : List SourceUnit) → new ≡ joined_heads old (heads_of (sites_of_unit u unit (counted old)))
    → joined_heads new (heads_of (sites_from us (unit + 1) (counted new))) ≡ joined_heads old (heads_of (sites_from (u ∷ us) unit (counted old)))
unit_turn old new unit u us e =
    ap (λ (h : Heads). joined_heads h (heads_of (sites_from us (unit + 1) (counted h)))) e
    ∙ ap (λ n. joined_heads (joined_heads old (heads_of (sites_of_unit u unit (counted old)))) (heads_of (sites_from us (unit + 1) n))) (counted_behind old (sites_of_unit u unit (counted old)))
    ∙ heads_assoc old (heads_of (sites_of_unit u unit (counted old))) (heads_of (sites_from us (unit + 1) (behind (counted old) (sites_of_unit u unit (counted old)))))
    ∙ ap (joined_heads old) (sym (heads_joined (sites_of_unit u unit (counted old)) (sites_from us (unit + 1) (behind (counted old) (sites_of_unit u unit (counted old))))))
