-- The loop over the sources, turn by turn.
use Rattle.std.proofs.Common.{◌≡◌, ℕ, ◌+◌, ◌<◌, false, List, [], ◌∷◌, ◌++◌, length, get_or, take, drop, sym, ap, ◌∙◌, subst, arith}
use Rattle.std.proofs.lemmas.List.{take_more, drop_more, take-append-drop, length-take-le}
use Rattle.jc_rules.specs.declared.rule.Refusal.{Refusal}
use Rattle.jc_rules.specs.declared.stop.Stop.{Stop}
use Rattle.jc_rules.specs.declared.stop.Stop.TheVariants as stop_of
use Rattle.jc_lexer.specs.declared.token.Token.{Token}
use Rattle.jc_tree.specs.declared.statement.SourceFile.{SourceFile}
use Rattle.jc_unit_laws.specs.UnitAnswers.{UnitStands}
use Rattle.jc_syntax.specs.Stage.{BreaksIn, HaveUnits, IsFileStop, IsStageStop}

one_more : (lists : List (List Token)) (units : List SourceFile) (list : List Token) (unit : SourceFile) → HaveUnits lists units → UnitStands false list unit → HaveUnits (lists ++ (list ∷ [])) (units ++ (unit ∷ []))
one_more [] [] list unit h s = (s, tt)
one_more [] (u ∷ units) list unit h s = absurd h
one_more (l ∷ lists) [] list unit h s = absurd h
one_more (l ∷ lists) (u ∷ units) list unit h s = (h.0, one_more lists units list unit h.1 s)

pub unit_on : (lists : List (List Token)) (units : List SourceFile) (n : ℕ) (list : List Token) (unit : SourceFile) (more : List SourceFile) → HaveUnits (take n lists) units → n < length lists → list ≡ get_or lists n [] → UnitStands false list unit → more ≡ units ++ (unit ∷ []) →
    HaveUnits (take (n + 1) lists) more
unit_on lists units n list unit more h l e s g =
    let w = one_more (take n lists) units list unit h s in
    let t : take n lists ++ (list ∷ []) ≡ take (n + 1) lists = ap (λ (x : List Token). take n lists ++ (x ∷ [])) e ∙ sym (take_more lists n [] l) in
    subst (λ (u : List SourceFile). HaveUnits (take (n + 1) lists) u) (sym g) (subst (λ (ls : List (List Token)). HaveUnits ls (units ++ (unit ∷ []))) t w)

pub unit_stops : (texts : List (List ℕ)) (lists : List (List Token)) (units : List SourceFile) (n : ℕ) (list : List Token) (size : ℕ) (stop : Stop Refusal) → HaveUnits (take n lists) units → n < length lists → list ≡ get_or lists n [] → size ≡ length (get_or texts n []) →
    IsFileStop (n + 1) list size stop → IsStageStop texts lists stop
unit_stops texts lists units n list size (stop_of.Refused refused) h l e g b =
    record {
      before = take n lists;
      units = units;
      unbroken = h;
      tokens = list;
      after = drop (n + 1) lists;
      all = sym (take-append-drop n lists) ∙ ap (λ (x : List (List Token)). take n lists ++ x) (drop_more lists n [] l ∙ ap (λ (x : List Token). x ∷ drop (n + 1) lists) (sym e));
      breaks = subst (λ (k : ℕ). BreaksIn (k + 1) list (length (get_or texts k [])) refused) (sym (length-take-le n lists (omega (arith, l)))) (subst (λ (s : ℕ). BreaksIn (n + 1) list s refused) g b);
    }
unit_stops texts lists units n list size stop_of.WantOfMemory h l e g b = tt
