use Rattle.std.proofs.Common.{◌≡◌, ℕ, ◌<◌, List, [], ◌∷◌, ◌++◌, map, length, get_or, min, sym, ap, ◌∙◌, subst, arith}
use Rattle.std.proofs.iter.Yields.{fronts, nat_range_steps}
use Rattle.std.proofs.lemmas.Iterator.{zips, YieldsList, YieldsList-from_range, YieldsList-from_slice, YieldsList-from_zip}
use Rattle.std.proofs.lemmas.Iterator.Consumers.{YieldsList-turn, YieldsList-end}
use Rattle.std.proofs.lemmas.List.{get_or_read, length_push}
use Rattle.std.proofs.lemmas.List.FromFn.{length-range_with_len, get_or-range_with_len, length-map-range_with_len, map-range_with_len_more}
use Rattle.std.proofs.lemmas.Slice.Zip.{length-zip, get_or-zip}
use Rattle.std.specs.List.{range_with_len, zip}
use Rattle.runs.specs.declared.arc.Arc.{Arc}
use Rattle.runs.specs.Graphs.{Fit, no_arc, seen_at, graph_of}
use Rattle.runs.proofs.Seen.{graph_fit}
use Rattle.runs.proofs.arcs.Arcs.copied.Goals as goal
use Rattle.runs.proofs.arcs.Arcs.copied.Goals.{After-next, In-Some}

-- the loop goes over the numbers of the lines and the closures side by side
chain : (g : _) (c : After-next g) → YieldsList (zips nat_range_steps fronts) (λ p. (p.0, p.1.now)) c.into_iter-k-iterator.result (zip (range_with_len 0 c.line_count.result) c.args.closures.now)
chain g c = YieldsList-from_zip (YieldsList-from_range 0 c.line_count.result c.line_count.result (cc) (omega arith)) (YieldsList-from_slice _ (cc))

-- it has a turn for each line
long : (g : _) (c : After-next g) → length (zip (range_with_len 0 c.line_count.result) c.args.closures.now) ≡ length (g.N.Network.net c.args.network.now).lines
long g c = omega (arith, length-zip (range_with_len 0 c.line_count.result) c.args.closures.now, length-range_with_len 0 c.line_count.result)

-- each turn so far has added an arc
held : (g : _) (c : After-next g) → length c.loop-k.arcs.items ≡ length c.loop-k.yielded
held g c = ap length c.loop-k.invariant.2 ∙ length-map-range_with_len (seen_at (g.N.Network.net c.args.network.now) c.args.closures.now c.args.g) 0 (length c.loop-k.yielded)

-- the next item is the next line's number, with the closure of that line
turn : (g : _) (c : In-Some g) → let n = length c.loop-k.yielded in (n < length (g.N.Network.net c.args.network.now).lines) × (c.in-Some.k ≡ n) × (c.in-Some.closure.now ≡ get_or c.args.closures.now n 0)
turn g c =
    let m = c.line_count.result in
    let bytes = c.args.closures.now in
    let n = length c.loop-k.yielded in
    let q = YieldsList-turn (chain g (goal.at.In-Some g c).After-next) c.loop-k.yielded c.loop-k.k-iterator c.loop-k.yielded_by c.next.result c.next.new.self (c.in-Some.k, c.in-Some.closure) c.in-Some.is c.next.ensures.steps in
    let few : n < min m (length bytes) = omega (arith, q.0, length-zip (range_with_len 0 m) bytes, length-range_with_len 0 m) in
    let lm : n < m = omega arith in
    let lb : n < length bytes = omega arith in
    let at = q.1 ∙ get_or-zip (range_with_len 0 m) bytes n _ (omega (arith, length-range_with_len 0 m)) lb in
    (omega arith, ap (λ z. z.0) at ∙ get_or-range_with_len 0 m n c.in-Some.k lm ∙ (omega arith), get_or_read bytes n _ lb (ap (λ z. z.1) at) 0)

pub push-requires : goal.push-requires
push-requires g c =
    let few = (g.N.Network.ranged c.args.network.now).few in
    let t = turn g (goal.at.push-requires g c).In-Some in
    let h = held g (goal.at.push-requires g c).After-next in
    (omega arith, omega arith)

pub loop-k-preserved : goal.loop-k-preserved
loop-k-preserved g c =
    let t = turn g (goal.at.loop-k-preserved g c).In-Some in
    let n = length c.loop-k.yielded in
    let seen = seen_at (g.N.Network.net c.args.network.now) c.args.closures.now c.args.g in
    let arc : c.seen.result ≡ seen n = rw (c.seen.ensures, t.1, t.2) in
    ((tt, tt), tt, rw (c.push.ensures.items, c.loop-k.invariant.2, length_push c.loop-k.yielded (c.in-Some.k, c.in-Some.closure), map-range_with_len_more seen 0 n n (omega arith)) (ap (λ (a : Arc). map seen (range_with_len 0 n) ++ a ∷ []) arc))

pub invariant_of-result : goal.invariant_of-result
invariant_of-result g c =
    let before = (goal.at.invariant_of-result g c).After-next in
    let end = YieldsList-end (chain g before) c.loop-k.yielded c.loop-k.k-iterator c.loop-k.yielded_by c.next.result c.next.new.self c.in-None.is c.next.ensures.steps in
    let net = g.N.Network.net c.args.network.now in
    let ranged = g.N.Network.ranged c.args.network.now in
    let few = ranged.few in
    let least = ranged.points_least in
    let most = ranged.points_most in
    let h = held g before in
    let all : length c.loop-k.yielded ≡ length net.lines = end.1 ∙ long g before in
    let is : c.loop-k.arcs.items ≡ (graph_of net c.args.closures.now c.args.g).arcs = c.loop-k.invariant.2 ∙ ap (λ (n : ℕ). map (seen_at net c.args.closures.now c.args.g) (range_with_len 0 n)) all in
    record {
      points_least = omega arith;
      points_most = omega arith;
      few = omega arith;
      fit = λ k. subst (λ (n : ℕ). Fit n (get_or c.loop-k.arcs.items k no_arc)) (sym c.points.ensures)
          (subst (λ (xs : List Arc). Fit net.points (get_or xs k no_arc)) (sym is) (graph_fit net c.args.closures.now c.args.g ranged k));
    }
