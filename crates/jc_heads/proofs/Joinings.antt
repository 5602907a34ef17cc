-- Heads that follow one another.
use Rattle.std.proofs.Common.{◌≡◌, ◌++◌, ◌+◌, ℕ, suc, List, [], ◌∷◌, map, length, append_assoc, append-nil, length-append, refl, sym, ap, ◌∙◌}
use Rattle.jc_declares.specs.declared.heads.ClassHead.{ClassHead}
use Rattle.jc_declares.specs.declared.heads.FieldHead.{FieldHead}
use Rattle.jc_declares.specs.declared.heads.Heads.{Heads}
use Rattle.jc_declares.specs.declared.heads.MethodPlace.{MethodPlace}
use Rattle.jc_declares.specs.declared.heads.ScopeHead.{ScopeHead}
use Rattle.jc_declares.specs.declared.heads.Standing.{Standing}
use Rattle.jc_declares.specs.declared.heads.UnitHead.{UnitHead}
use Rattle.jc_declares.specs.declared.heads.VariableHead.{VariableHead}
use Rattle.jc_declares.specs.Sites.{Sites, Counts, Walk, joined, no_sites, behind, walked}
use Rattle.jc_declares.specs.Heads.{heads_of, unit_head, class_head, method_place, field_head, variable_head}
use Rattle.jc_heads.specs.Joining.{joined_heads, counted}

pub same_parts : {u u' : List UnitHead} {c c' : List ClassHead} {m m' : List MethodPlace} {f f' : List FieldHead} {v v' : List VariableHead} {s s' : List ScopeHead}
    → u ≡ u' → c ≡ c' → m ≡ m' → f ≡ f' → v ≡ v' → s ≡ s'
    → (let it : Heads = record { units = u; classes = c; methods = m; fields = f; variables = v; scopes = s } in it) ≡ record { units = u'; classes = c'; methods = m'; fields = f'; variables = v'; scopes = s' }
same_parts {u} {u'} {c} {c'} {m} {m'} {f} {f'} {v} {v'} {s} {s'} eu ec em ef ev es =
    ap (λ (x : List UnitHead). let it : Heads = record { units = x; classes = c; methods = m; fields = f; variables = v; scopes = s } in it) eu
    ∙ ap (λ (x : List ClassHead). let it : Heads = record { units = u'; classes = x; methods = m; fields = f; variables = v; scopes = s } in it) ec
    ∙ ap (λ (x : List MethodPlace). let it : Heads = record { units = u'; classes = c'; methods = x; fields = f; variables = v; scopes = s } in it) em
    ∙ ap (λ (x : List FieldHead). let it : Heads = record { units = u'; classes = c'; methods = m'; fields = x; variables = v; scopes = s } in it) ef
    ∙ ap (λ (x : List VariableHead). let it : Heads = record { units = u'; classes = c'; methods = m'; fields = f'; variables = x; scopes = s } in it) ev
    ∙ ap (λ (x : List ScopeHead). let it : Heads = record { units = u'; classes = c'; methods = m'; fields = f'; variables = v'; scopes = x } in it) es

pub heads_assoc : (a b c : Heads) → joined_heads (joined_heads a b) c ≡ joined_heads a (joined_heads b c)
heads_assoc a b c =
    same_parts (append_assoc a.units b.units c.units) (append_assoc a.classes b.classes c.classes) (append_assoc a.methods b.methods c.methods) (append_assoc a.fields b.fields c.fields)
    (append_assoc a.variables b.variables c.variables)
    (append_assoc a.scopes b.scopes c.scopes)

pub map_joined : {A B : Type 0} (f : A → B) (xs ys : List A) → map f (xs ++ ys) ≡ map f xs ++ map f ys
map_joined f [] ys = refl
map_joined f (x ∷ xs) ys = ap (λ zs. f x ∷ zs) (map_joined f xs ys)

length_mapped : {A B : Type 0} (f : A → B) (xs : List A) → length (map f xs) ≡ length xs
length_mapped f [] = refl
length_mapped f (x ∷ xs) = ap suc (length_mapped f xs)

pub heads_joined : (s t : Sites) → heads_of (joined s t) ≡ joined_heads (heads_of s) (heads_of t)
heads_joined s t =
    same_parts (map_joined unit_head s.units t.units) (map_joined class_head s.classes t.classes) (map_joined method_place s.methods t.methods) (map_joined field_head s.fields t.fields)
    (map_joined variable_head s.variables t.variables)
    refl

pub heads_nothing : (h : Heads) → joined_heads h (heads_of no_sites) ≡ h
heads_nothing h = same_parts (append-nil h.units) (append-nil h.classes) (append-nil h.methods) (append-nil h.fields) (append-nil h.variables) (append-nil h.scopes)

same_counts : {c c' m m' s s' : ℕ} → c ≡ c' → m ≡ m' → s ≡ s' → (let it : Counts = record { classes = c; methods = m; scopes = s } in it) ≡ record { classes = c'; methods = m'; scopes = s' }
same_counts {c} {c'} {m} {m'} {s} {s'} ec em es =
    ap (λ (x : ℕ). let it : Counts = record { classes = x; methods = m; scopes = s } in it) ec
    ∙ ap (λ (x : ℕ). let it : Counts = record { classes = c'; methods = x; scopes = s } in it) em
    ∙ ap (λ (x : ℕ). let it : Counts = record { classes = c'; methods = m'; scopes = x } in it) es

pub counted_behind : (h : Heads) (s : Sites) → counted (joined_heads h (heads_of s)) ≡ behind (counted h) s
counted_behind h s =
    same_counts (length-append h.classes (map class_head s.classes) ∙ ap (λ n. length h.classes + n) (length_mapped class_head s.classes))
    (length-append h.methods (map method_place s.methods) ∙ ap (λ n. length h.methods + n) (length_mapped method_place s.methods))
    (length-append h.scopes s.scopes)

-- ---- walks

-- one part of a walk, and then the others
pub walk_turn : (old new : Heads) (at : Standing) (w : Walk) (ws : List Walk) → new ≡ joined_heads old (heads_of (w at (counted old)))
    → joined_heads new (heads_of (walked ws at (counted new))) ≡ joined_heads old (heads_of (walked (w ∷ ws) at (counted old)))
walk_turn old new at w ws e =
    ap (λ (h : Heads). joined_heads h (heads_of (walked ws at (counted h)))) e
    ∙ ap (λ n. joined_heads (joined_heads old (heads_of (w at (counted old)))) (heads_of (walked ws at n))) (counted_behind old (w at (counted old)))
    ∙ heads_assoc old (heads_of (w at (counted old))) (heads_of (walked ws at (behind (counted old) (w at (counted old)))))
    ∙ ap (joined_heads old) (sym (heads_joined (w at (counted old)) (walked ws at (behind (counted old) (w at (counted old))))))

-- two walks one behind the other
pub walk_both : (h mid new : Heads) (at : Standing) (vs ws : List Walk) → mid ≡ joined_heads h (heads_of (walked vs at (counted h))) → new ≡ joined_heads mid (heads_of (walked ws at (counted mid)))
    → new ≡ joined_heads h (heads_of (walked (vs ++ ws) at (counted h)))
walk_both h mid new at [] ws e f =
    f ∙ ap (λ (x : Heads). joined_heads x (heads_of (walked ws at (counted x)))) (e ∙ heads_nothing h)
walk_both h mid new at (v ∷ vs) ws e f =
    let first : Heads = joined_heads h (heads_of (v at (counted h))) in
    walk_both first mid new at vs ws (e ∙ sym (walk_turn h first at v vs refl)) f ∙ walk_turn h first at v (vs ++ ws) refl

-- a walk that begins with what stands for itself
pub own_first : (h own_heads new : Heads) (own : Sites) (at : Standing) (ws : List Walk) → own_heads ≡ joined_heads h (heads_of own) → new ≡ joined_heads own_heads (heads_of (walked ws at (counted own_heads)))
    → new ≡ joined_heads h (heads_of (joined own (walked ws at (behind (counted h) own))))
own_first h own_heads new own at ws e f =
    f ∙ ap (λ (x : Heads). joined_heads x (heads_of (walked ws at (counted x)))) e
    ∙ ap (λ n. joined_heads (joined_heads h (heads_of own)) (heads_of (walked ws at n))) (counted_behind h own)
    ∙ heads_assoc h (heads_of own) (heads_of (walked ws at (behind (counted h) own)))
    ∙ ap (joined_heads h) (sym (heads_joined own (walked ws at (behind (counted h) own))))

-- a walk of one part
pub walked_one : (h : Heads) (at : Standing) (w : Walk) → joined_heads h (heads_of (walked (w ∷ []) at (counted h))) ≡ joined_heads h (heads_of (w at (counted h)))
walked_one h at w = sym (walk_turn h (joined_heads h (heads_of (w at (counted h)))) at w [] refl) ∙ heads_nothing (joined_heads h (heads_of (w at (counted h))))
