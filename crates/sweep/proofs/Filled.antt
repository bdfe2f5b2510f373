-- A table that is filled by a sweep over the open lines of a network.
use Rattle.std.proofs.Common.{◌≡◌, ℕ, ◌<◌, ◌≤◌, Bool, true, cond, ltb, leb, List, length, get_or, Some, None, Ok, Err, Option, Result, sym, refl, ap, ◌∙◌, subst}
use Rattle.std.proofs.lemmas.Bool.{cond-true, lt-ltb}
use Rattle.network.specs.Net.{Net}
use Rattle.network.specs.Refusals.{judged, left_by}
use Rattle.runs.specs.Graphs.{Graph, arc_at, seen_at, graph_of, open_marks}
use Rattle.sweep.specs.Laws.{Ops}
use Rattle.sweep.specs.Best.{Allowed, BestAt, HoldsBest}
use Rattle.sweep.specs.Values.{sweep_questions, swept_table, place_questions, table_after, or_no_run, OpenLine, Says}
use Rattle.sweep.proofs.Opened.{open_best}

-- what a sweep ensures, of a graph and its marks
abbrev pub Swept : {V : Type 0} → Ops V → ℕ → List (Option V) → List (Option V) → Result (Unit {0}) ℕ → Graph → List Bool → Type 0
Swept ops s was table r graph marks =
    (r ≡ judged (sweep_questions graph s (length was)) tt)
    × (table ≡ left_by was (judged (sweep_questions graph s (length was)) (swept_table ops graph marks s was)))
    × (r ≡ Ok tt → HoldsBest ops (arc_at graph) (Allowed graph marks) graph.points s table)

-- the same of a network, its closures and g channels
abbrev pub Filled : {V : Type 0} → Ops V → ℕ → List (Option V) → List (Option V) → Result (Unit {0}) ℕ → Net → List ℕ → ℕ → Type 0
Filled ops s was table r net closures g =
    (r ≡ judged (place_questions net closures (length was)) tt)
    × (table ≡ table_after ops (place_questions net closures (length was)) net closures g s was)
    × (r ≡ Ok tt → HoldsBest ops (seen_at net closures g) (OpenLine net closures g) net.points s table)

module _ {V : Type 0} (ops : Ops V) (net : Net) (closures : List ℕ) (g s : ℕ) (sn : s < net.points) (few : length net.lines ≤ 512) (bytes : leb (length net.lines) (length closures) ≡ true) where
  same_questions : {A : Type 0} (places : ℕ) (a : A) → judged (sweep_questions (graph_of net closures g) s places) a ≡ judged (place_questions net closures places) a
  same_questions {A} places a =
      let last : Result A ℕ = cond (leb net.points places) (Ok a) (Err 17) in
      cond-true (ltb s net.points) last (Err 11) (lt-ltb s net.points sn) ∙ sym (cond-true (leb (length net.lines) (length closures)) last (Err 16) bytes)

  pub filled : (was table : List (Option V)) (r : Result (Unit {0}) ℕ) (graph : Graph) (marks : List Bool) → graph ≡ graph_of net closures g → marks ≡ open_marks graph → Swept ops s was table r graph marks → Filled ops s was table r net closures g
  filled was table r graph marks e m h =
      let h₁ : Swept ops s was table r graph (open_marks graph) = subst (Swept ops s was table r graph) m h in
      let h₂ : Swept ops s was table r (graph_of net closures g) (open_marks (graph_of net closures g)) = subst (λ (x : Graph). Swept ops s was table r x (open_marks x)) e h₁ in (
        h₂.0 ∙ same_questions (length was) tt,
        h₂.1 ∙ ap (left_by was) (same_questions (length was) (swept_table ops (graph_of net closures g) (open_marks (graph_of net closures g)) s was)),
        λ p v vn. open_best net closures g few ops s v (get_or table v None) (h₂.2 p v vn),
      )

-- what a value read at t says of the runs to t
pub says_found : {V : Type 0} (ops : Ops V) (net : Net) (closures : List ℕ) (g s t : ℕ) (o : Option V) → BestAt ops (seen_at net closures g) (OpenLine net closures g) s t o → Says ops net closures g s t (or_no_run (Ok o))
says_found ops net closures g s t None b = (refl, b)
says_found ops net closures g s t (Some x) b = b
