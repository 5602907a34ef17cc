-- Sites that follow one another.
use Rattle.std.proofs.Common.{◌≡◌, ◌++◌, ℕ, List, [], ◌∷◌, append_assoc, append-nil, length-append, refl, sym, ap, ◌∙◌}
use Rattle.jc_declares.specs.declared.heads.ScopeHead.{ScopeHead}
use Rattle.jc_declares.specs.declared.heads.Standing.{Standing}
use Rattle.jc_declares.specs.Sites.{UnitSite, ClassSite, MethodSite, FieldSite, VariableSite, UseSite, Counts, Walk, joined, no_sites, behind, walked}
use Rattle.jc_declares.specs.Sites as site
use Rattle.jc_sites.specs.declared.places.Sites.{Sites}
use Rattle.jc_sites.specs.Joining.{with_sites, counted}

pub same_parts : {u u' : List UnitSite} {c c' : List ClassSite} {m m' : List MethodSite} {f f' : List FieldSite} {v v' : List VariableSite} {s s' : List ScopeHead} {x x' : List UseSite}
    → u ≡ u' → c ≡ c' → m ≡ m' → f ≡ f' → v ≡ v' → s ≡ s' → x ≡ x'
    → (let it : Sites = record { units = u; classes = c; methods = m; fields = f; variables = v; scopes = s; uses = x } in it) ≡ record { units = u'; classes = c'; methods = m'; fields = f'; variables = v'; scopes = s'; uses = x' }
same_parts {u} {u'} {c} {c'} {m} {m'} {f} {f'} {v} {v'} {s} {s'} {x} {x'} eu ec em ef ev es ex =
    ap (λ (y : List UnitSite). let it : Sites = record { units = y; classes = c; methods = m; fields = f; variables = v; scopes = s; uses = x } in it) eu
    ∙ ap (λ (y : List ClassSite). let it : Sites = record { units = u'; classes = y; methods = m; fields = f; variables = v; scopes = s; uses = x } in it) ec
    ∙ ap (λ (y : List MethodSite). let it : Sites = record { units = u'; classes = c'; methods = y; fields = f; variables = v; scopes = s; uses = x } in it) em
    ∙ ap (λ (y : List FieldSite). let it : Sites = record { units = u'; classes = c'; methods = m'; fields = y; variables = v; scopes = s; uses = x } in it) ef
    ∙ ap (λ (y : List VariableSite). let it : Sites = record { units = u'; classes = c'; methods = m'; fields = f'; variables = y; scopes = s; uses = x } in it) ev
    ∙ ap (λ (y : List ScopeHead). let it : Sites = record { units = u'; classes = c'; methods = m'; fields = f'; variables = v'; scopes = y; uses = x } in it) es
    ∙ ap (λ (y : List UseSite). let it : Sites = record { units = u'; classes = c'; methods = m'; fields = f'; variables = v'; scopes = s'; uses = y } in it) ex

pub sites_assoc : (a : Sites) (b c : site.Sites) → with_sites (with_sites a b) c ≡ with_sites a (joined b c)
sites_assoc a b c =
    same_parts (append_assoc a.units b.units c.units) (append_assoc a.classes b.classes c.classes) (append_assoc a.methods b.methods c.methods) (append_assoc a.fields b.fields c.fields)
    (append_assoc a.variables b.variables c.variables)
    (append_assoc a.scopes b.scopes c.scopes)
    (append_assoc a.uses b.uses c.uses)

pub sites_nothing : (h : Sites) → with_sites h no_sites ≡ h
sites_nothing h =
    same_parts (append-nil h.units) (append-nil h.classes) (append-nil h.methods) (append-nil h.fields) (append-nil h.variables) (append-nil h.scopes) (append-nil h.uses)

same_counts : {c c' m m' s s' : ℕ} → c ≡ c' → m ≡ m' → s ≡ s' → (let it : Counts = record { classes = c; methods = m; scopes = s } in it) ≡ record { classes = c'; methods = m'; scopes = s' }
same_counts {c} {c'} {m} {m'} {s} {s'} ec em es =
    ap (λ (x : ℕ). let it : Counts = record { classes = x; methods = m; scopes = s } in it) ec
    ∙ ap (λ (x : ℕ). let it : Counts = record { classes = c'; methods = x; scopes = s } in it) em
    ∙ ap (λ (x : ℕ). let it : Counts = record { classes = c'; methods = m'; scopes = x } in it) es

pub counted_behind : (h : Sites) (s : site.Sites) → counted (with_sites h s) ≡ behind (counted h) s
counted_behind h s = same_counts (length-append h.classes s.classes) (length-append h.methods s.methods) (length-append h.scopes s.scopes)

-- ---- walks

-- one part of a walk, and then the others
pub walk_turn : (old new : Sites) (at : Standing) (w : Walk) (ws : List Walk) → new ≡ with_sites old (w at (counted old))
    → with_sites new (walked ws at (counted new)) ≡ with_sites old (walked (w ∷ ws) at (counted old))
walk_turn old new at w ws e =
    ap (λ (h : Sites). with_sites h (walked ws at (counted h))) e
    ∙ ap (λ n. with_sites (with_sites old (w at (counted old))) (walked ws at n)) (counted_behind old (w at (counted old)))
    ∙ sites_assoc old (w at (counted old)) (walked ws at (behind (counted old) (w at (counted old))))

-- two walks one behind the other
pub walk_both : (h mid new : Sites) (at : Standing) (vs ws : List Walk) → mid ≡ with_sites h (walked vs at (counted h)) → new ≡ with_sites mid (walked ws at (counted mid))
    → new ≡ with_sites h (walked (vs ++ ws) at (counted h))
walk_both h mid new at [] ws e f =
    f ∙ ap (λ (x : Sites). with_sites x (walked ws at (counted x))) (e ∙ sites_nothing h)
walk_both h mid new at (v ∷ vs) ws e f =
    let first : Sites = with_sites h (v at (counted h)) in
    walk_both first mid new at vs ws (e ∙ sym (walk_turn h first at v vs refl)) f ∙ walk_turn h first at v (vs ++ ws) refl

-- a walk that begins with what stands for itself
pub own_first : (h own_sites new : Sites) (own : site.Sites) (at : Standing) (ws : List Walk) → own_sites ≡ with_sites h own → new ≡ with_sites own_sites (walked ws at (counted own_sites))
    → new ≡ with_sites h (joined own (walked ws at (behind (counted h) own)))
own_first h own_sites new own at ws e f =
    f ∙ ap (λ (x : Sites). with_sites x (walked ws at (counted x))) e
    ∙ ap (λ n. with_sites (with_sites h own) (walked ws at n)) (counted_behind h own)
    ∙ sites_assoc h own (walked ws at (behind (counted h) own))

-- a walk of one part
pub walked_one : (h : Sites) (at : Standing) (w : Walk) → with_sites h (walked (w ∷ []) at (counted h)) ≡ with_sites h (w at (counted h))
walked_one h at w = sym (walk_turn h (with_sites h (w at (counted h))) at w [] refl) ∙ sites_nothing (with_sites h (w at (counted h)))
