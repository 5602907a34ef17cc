-- One statement further, in a list that is read from its last one.
use Rattle.std.proofs.Common.{◌≡◌, ◌-◌, ℕ, suc, Bool, List, [], ◌∷◌, true, length, drop, refl, sym, ap, ◌∙◌, length-drop}
use Rattle.jc_types.specs.declared.table.Table.{Table}
use Rattle.jc_types.specs.declared.environment.Bounds.{Bounds}
use Rattle.jc_typed.specs.declared.nodes.Node.{Node}
use Rattle.jc_typed.specs.Trees.{Case}
use Rattle.jc_typed.specs.Parts.{stmt_of}
use Rattle.jc_flow_parts.specs.Lists.{IsNext, stmts_by}
use Rattle.jc_flow_spec.specs.declared.flow.Flow.{Flow}
use Rattle.jc_flow_spec.specs.States.{with_live}
use Rattle.jc_flow_spec.specs.Statements.{at_label, is_labelled, labelled_flow, stmt_count, stmt_flow, stmts_flow}
use Rattle.jc_flow_spec.specs.Methods.{completes_at, initialisers_flow, place_of}

pub none_left : (ps : List ℕ) → drop (length ps) ps ≡ []
none_left [] = refl
none_left (p ∷ ps) = none_left ps

pub count_by : (ns : List Node) (ps : List ℕ) → stmt_count (stmts_by ns ps) ≡ length ps
count_by ns [] = refl
count_by ns (p ∷ ps) = ap suc (count_by ns ps)

module _ (T : Table) (env : List Bounds) (assigned : List ℕ) (ns : List Node) (ps : List ℕ) (at : ℕ) where
  pub stmts_turn : (k p : ℕ) (s s1 s0 : Flow) → IsNext ns at ps k p → s ≡ stmts_flow T env assigned (stmts_by ns (drop k ps)) s0 → s1 ≡ stmt_flow T env assigned (stmt_of ns p) s → s1 ≡ stmts_flow T env assigned (stmts_by ns (drop (k - 1) ps)) s0
  stmts_turn k p s s1 s0 n e f = f ∙ ap (stmt_flow T env assigned (stmt_of ns p)) e ∙ sym (ap (λ ss. stmts_flow T env assigned ss s0) n.next)

  pub labelled_turn : (entry : Bool) (cases : List Case) (k p : ℕ) (b : Bool) (s s1 s2 s0 : Flow) → IsNext ns at ps k p → s ≡ labelled_flow T env assigned entry cases (stmts_by ns (drop k ps)) s0 → b ≡ is_labelled cases (length ps - k) → s1 ≡ at_label entry b s → s2 ≡ stmt_flow T env assigned (stmt_of ns p) s1 → s2 ≡ labelled_flow T env assigned entry cases (stmts_by ns (drop (k - 1) ps)) s0
  labelled_turn entry cases k p b s s1 s2 s0 n e g f h =
      let count : stmt_count (stmts_by ns (drop k ps)) ≡ length ps - k = count_by ns (drop k ps) ∙ length-drop k ps in
      let label : s1 ≡ at_label entry (is_labelled cases (stmt_count (stmts_by ns (drop k ps)))) (labelled_flow T env assigned entry cases (stmts_by ns (drop k ps)) s0) = f ∙ ap (λ x. at_label entry x s) (g ∙ ap (is_labelled cases) (sym count)) ∙ ap (at_label entry (is_labelled cases (stmt_count (stmts_by ns (drop k ps))))) e in
      h ∙ ap (stmt_flow T env assigned (stmt_of ns p)) label ∙ sym (ap (λ ss. labelled_flow T env assigned entry cases ss s0) n.next)

  pub initialisers_turn : (k p : ℕ) (s s1 s0 : Flow) → IsNext ns at ps k p → s ≡ initialisers_flow T env assigned (stmts_by ns (drop k ps)) s0 → s1 ≡ completes_at (place_of (stmt_of ns p)) (stmt_flow T env assigned (stmt_of ns p) (with_live true s)) → s1 ≡ initialisers_flow T env assigned (stmts_by ns (drop (k - 1) ps)) s0
  initialisers_turn k p s s1 s0 n e f = f ∙ ap (λ x. completes_at (place_of (stmt_of ns p)) (stmt_flow T env assigned (stmt_of ns p) (with_live true x))) e ∙ sym (ap (λ ss. initialisers_flow T env assigned ss s0) n.next)

  pub stmts_all : (s : Flow) → s ≡ stmts_flow T env assigned (stmts_by ns (drop (length ps) ps)) s
  stmts_all s = sym (ap (λ qs. stmts_flow T env assigned (stmts_by ns qs) s) (none_left ps))

  pub stmts_none : (k : ℕ) (s s0 : Flow) → k ≡ 0 → s ≡ stmts_flow T env assigned (stmts_by ns (drop k ps)) s0 → s ≡ stmts_flow T env assigned (stmts_by ns ps) s0
  stmts_none k s s0 z e = e ∙ ap (λ j. stmts_flow T env assigned (stmts_by ns (drop j ps)) s0) z

  pub labelled_all : (entry : Bool) (cases : List Case) (s : Flow) → s ≡ labelled_flow T env assigned entry cases (stmts_by ns (drop (length ps) ps)) s
  labelled_all entry cases s = sym (ap (λ qs. labelled_flow T env assigned entry cases (stmts_by ns qs) s) (none_left ps))

  pub labelled_none : (entry : Bool) (cases : List Case) (k : ℕ) (s s0 : Flow) → k ≡ 0 → s ≡ labelled_flow T env assigned entry cases (stmts_by ns (drop k ps)) s0 → s ≡ labelled_flow T env assigned entry cases (stmts_by ns ps) s0
  labelled_none entry cases k s s0 z e = e ∙ ap (λ j. labelled_flow T env assigned entry cases (stmts_by ns (drop j ps)) s0) z

  pub initialisers_all : (s : Flow) → s ≡ initialisers_flow T env assigned (stmts_by ns (drop (length ps) ps)) s
  initialisers_all s = sym (ap (λ qs. initialisers_flow T env assigned (stmts_by ns qs) s) (none_left ps))

  pub initialisers_none : (k : ℕ) (s s0 : Flow) → k ≡ 0 → s ≡ initialisers_flow T env assigned (stmts_by ns (drop k ps)) s0 → s ≡ initialisers_flow T env assigned (stmts_by ns ps) s0
  initialisers_none k s s0 z e = e ∙ ap (λ j. initialisers_flow T env assigned (stmts_by ns (drop j ps)) s0) z
