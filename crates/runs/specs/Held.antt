-- What a table of arcs means, and that it keeps the ranges.
use Rattle.runs.specs.declared.arcs.Arcs.{Arcs}
use Rattle.runs.specs.Graphs.{Graph, Sound}

-- The graph that a table of arcs holds.
abbrev pub graph : Arcs → Graph
graph a = record { points = a.points; arcs = a.arcs.items }

pub sound : (a : Arcs) → Sound (graph a)
sound a = record {
  points_least = a.points_least;
  points_most = a.points_most;
  few = a.few;
  from_below = λ k. (a.fit k).from_below;
  to_below = λ k. (a.fit k).to_below;
  delay_most = λ k. (a.fit k).delay_most;
  room_most = λ k. (a.fit k).room_most;
}
