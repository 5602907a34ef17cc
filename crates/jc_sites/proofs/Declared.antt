-- A declaration as a whole, from its parts; and sources one behind the other.
use Rattle.std.proofs.Common.{◌≡◌, ◌++◌, ◌+◌, ℕ, List, ◌∷◌, map, length, refl, sym, ap, ◌∙◌}
use Rattle.jc_tree.specs.declared.statement.Declaration.{Declaration, out-Declaration}
use Rattle.jc_tree.specs.declared.statement.DeclarationHead.{DeclarationHead}
use Rattle.jc_tree.specs.declared.statement.Member.{Member}
use Rattle.jc_declares.specs.declared.heads.Standing.{Standing}
use Rattle.jc_declares.specs.declared.unit.SourceUnit.{SourceUnit}
use Rattle.jc_declares.specs.Sites.{Walk, Membered, MethodForm, membered, walked, behind, class_sites, implied_forms, implied_sites, is_interface_head, within, sites_of_declaration, sites_of_unit, sites_from}
use Rattle.jc_sites.specs.declared.places.Sites.{Sites}
use Rattle.jc_sites.specs.Joining.{with_sites, counted}
use Rattle.jc_sites.proofs.Joinings.{walk_both, own_first, sites_assoc, counted_behind}
use Rattle.jc_sites.proofs.MembersByParts.{sites_of_declaration-parts}
use Rattle.jc_heads.proofs.Joinings.{map_joined}

pub unwritten_both : (old mid : Sites) (at : Standing) (vs ws : List MethodForm) → mid ≡ with_sites old (walked (map implied_sites vs) at (counted old))
    → with_sites mid (walked (map implied_sites ws) at (counted mid)) ≡ with_sites old (walked (map implied_sites (vs ++ ws)) at (counted old))
unwritten_both old mid at vs ws e =
    walk_both old mid (with_sites mid (walked (map implied_sites ws) at (counted mid))) at (map implied_sites vs) (map implied_sites ws) e refl
    ∙ ap (λ (l : List Walk). with_sites old (walked l at (counted old))) (sym (map_joined implied_sites vs ws))

inner_is : (at inner : Standing) (head : DeclarationHead) (h : Sites) (class scope : ℕ)
    → inner ≡ record { file = at.file; unit = at.unit; round = class ∷ at.round; of_interface = is_interface_head head; scope = scope } → class ≡ length h.classes → scope ≡ length h.scopes
    → inner ≡ within head at (counted h)
inner_is at inner head h class scope e c s =
    e ∙ ap (λ (k : ℕ). let it : Standing = record { file = at.file; unit = at.unit; round = k ∷ at.round; of_interface = is_interface_head head; scope = scope } in it) c
    ∙ ap (λ (k : ℕ). let it : Standing = record { file = at.file; unit = at.unit; round = length h.classes ∷ at.round; of_interface = is_interface_head head; scope = k } in it) s

abbrev walks : List Member → List Walk
walks ms = map (λ (m : Membered). m.walk) (map membered ms)

pub declared_whole : (old own mid : Sites) (at inner : Standing) (d : Declaration) (class scope : ℕ) (xs ys : List Member)
    → own ≡ with_sites old (class_sites (out-Declaration d).head at (counted old))
    → inner ≡ record { file = at.file; unit = at.unit; round = class ∷ at.round; of_interface = is_interface_head (out-Declaration d).head; scope = scope }
    → class ≡ length old.classes
    → scope ≡ length old.scopes
    → xs ≡ (out-Declaration d).members
    → ys ≡ (out-Declaration d).members
    → mid ≡ with_sites own (walked (map implied_sites (implied_forms (out-Declaration d).head (map membered xs))) inner (counted own))
    → with_sites mid (walked (map (λ (m : Membered). m.walk) (map membered ys)) inner (counted mid)) ≡ with_sites old (sites_of_declaration d at (counted old))
declared_whole old own mid at inner d class scope xs ys e ei ec es ex ey em =
    let head : DeclarationHead = (out-Declaration d).head in
    let ms : List Member = (out-Declaration d).members in
    let w : Standing = within head at (counted old) in
    let i : inner ≡ w = inner_is at inner head old class scope ei ec es in
    let forms : List Walk = map implied_sites (implied_forms head (map membered ms)) in
    let em' : mid ≡ with_sites own (walked forms w (counted own)) =
    em ∙ ap (λ (zs : List Member). with_sites own (walked (map implied_sites (implied_forms head (map membered zs))) inner (counted own))) ex
    ∙ ap (λ (s : Standing). with_sites own (walked forms s (counted own))) i in
    ap (λ (zs : List Member). with_sites mid (walked (walks zs) inner (counted mid))) ey
    ∙ ap (λ (s : Standing). with_sites mid (walked (walks ms) s (counted mid))) i
    ∙ walk_both own mid (with_sites mid (walked (walks ms) w (counted mid))) w forms (walks ms) em' refl
    ∙ own_first old own (with_sites own (walked (forms ++ walks ms) w (counted own))) (class_sites head at (counted old)) w (forms ++ walks ms) e refl
    ∙ ap (λ (f : Walk). with_sites old (f at (counted old))) (sym (sites_of_declaration-parts d))

-- one source, and then the others
pub unit_turn : (old new : Sites) (unit : ℕ) (u : SourceUnit) (us : List SourceUnit) → new ≡ with_sites old (sites_of_unit u unit (counted old))
    → with_sites new (sites_from us (unit + 1) (counted new)) ≡ with_sites old (sites_from (u ∷ us) unit (counted old))
unit_turn old new unit u us e =
    ap (λ (h : Sites). with_sites h (sites_from us (unit + 1) (counted h))) e
    ∙ ap (λ n. with_sites (with_sites old (sites_of_unit u unit (counted old))) (sites_from us (unit + 1) n)) (counted_behind old (sites_of_unit u unit (counted old)))
    ∙ sites_assoc old (sites_of_unit u unit (counted old)) (sites_from us (unit + 1) (behind (counted old) (sites_of_unit u unit (counted old))))
