-- Single imports of units that follow one another.
use Rattle.std.proofs.Common.{◌≡◌, ◌+◌, ◌<◌, ℕ, List, [], ◌∷◌, ◌++◌, take, length, get_or, sym, ap, subst, ◌∙◌}
use Rattle.std.proofs.lemmas.List.{take_more}
use Rattle.jc_declares.specs.declared.heads.Heads.{Heads}
use Rattle.jc_declares.specs.declared.heads.ImportHead.{ImportHead}
use Rattle.jc_declares.specs.declared.heads.UnitHead.{UnitHead}
use Rattle.jc_declares.specs.Looking.{singles}
use Rattle.jc_name_rules.specs.declared.singles.Singles.{Singles}
use Rattle.jc_name_rules.specs.Singles.{AreSingles, AreOfUnits}

behind : (H : Heads) (us : List UnitHead) (ss : List Singles) (u : UnitHead) (s : Singles) → AreOfUnits H us ss → AreSingles (singles H u.imports) s → AreOfUnits H (us ++ u ∷ []) (ss ++ s ∷ [])
behind H [] [] u s a h = (h, tt)
behind H [] (t ∷ ss) u s a h = absurd a
behind H (v ∷ us) [] u s a h = absurd a
behind H (v ∷ us) (t ∷ ss) u s a h = (a.0, behind H us ss u s a.1 h)

pub next_unit : (H : Heads) (us : List UnitHead) (old new : List Singles) (i : ℕ) (u : UnitHead) (imports : List ImportHead) (s : Singles) → i < length us → u ≡ get_or us i u → imports ≡ u.imports → AreSingles (singles H imports) s
    → new ≡ old ++ s ∷ [] → AreOfUnits H (take i us) old → AreOfUnits H (take (i + 1) us) new
next_unit H us old new i u imports s within is same h made a =
    subst (λ (l : List UnitHead). AreOfUnits H l new) (sym (take_more us i u within ∙ ap (λ (x : UnitHead). take i us ++ x ∷ []) (sym is)))
    (subst (λ (l : List Singles). AreOfUnits H (take i us ++ u ∷ []) l) (sym made)
    (behind H (take i us) old u s a (subst (λ (l : List ImportHead). AreSingles (singles H l) s) same h)))
