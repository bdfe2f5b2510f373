-- Networks whose lines are worked out from a number, and lines that are not there.
use Rattle.std.proofs.Common.{◌≡◌, ℕ, ◌-◌, ◌*◌, ◌<◌, ◌≤◌, List, map, length, get_or, sym, ap, ◌∙◌, ⊎_elim, arith}
use Rattle.std.specs.List.{range_with_len}
use Rattle.std.proofs.lemmas.List.FromFn.{length-map-range_with_len}
use Rattle.std.proofs.lemmas.List.{get_or_past}
use Rattle.std.proofs.lemmas.Bool.{cases_lt}
use Rattle.network.specs.declared.line.Line.{Line}
use Rattle.network.specs.Net.{Net, no_line, line_at}
use Rattle.network.specs.Loads.{loaded, lowered, lowered_at}
use Rattle.network.specs.declared.line.Terms.{Terms}
use Rattle.network.specs.Rings.{ring, ring_line}
use Rattle.network.specs.Shown.{made_at}

pub made_past : (f : ℕ → Line) (m k : ℕ) → m ≤ k → get_or (map f (range_with_len 0 m)) k no_line ≡ no_line
made_past f m k h = let e = length-map-range_with_len f 0 m in get_or_past (map f (range_with_len 0 m)) k no_line (omega arith)

-- with no channel taken a line is as it was
pub lowered_none : (l : Line) (x : ℕ) → l.terms.room - x ≡ l.terms.room → l ≡ lowered l x
lowered_none l x e =
    ap
    (λ (room : ℕ). let m : Line = record { from = l.from; to = l.to; terms = record { delay = l.terms.delay; room = room; charges = l.terms.charges } } in m)
    (sym e)

-- each line of a loaded network is the line below it, lowered; past the last line both are all zeros
pub loaded_at : (net : Net) (loads : List ℕ) (k : ℕ) → line_at (loaded net loads) k ≡ lowered (line_at net k) (get_or loads k 0)
loaded_at net loads k =
    ⊎_elim
    (λ (lt : k < length net.lines). made_at (lowered_at net loads) (length net.lines) k lt)
    (λ (le : length net.lines ≤ k).
    let none : line_at net k ≡ no_line = get_or_past net.lines k no_line le in
    made_past (lowered_at net loads) (length net.lines) k le ∙ lowered_none no_line (get_or loads k 0) (omega arith) ∙ ap (λ (l : Line). lowered l (get_or loads k 0)) (sym none))
    (cases_lt k (length net.lines))

pub loaded_count : (net : Net) (loads : List ℕ) → length (loaded net loads).lines ≡ length net.lines
loaded_count net loads = length-map-range_with_len (lowered_at net loads) 0 (length net.lines)

pub ring_count : (n : ℕ) (t : Terms) → length (ring n t).lines ≡ 2 * n
ring_count n t = length-map-range_with_len (ring_line n t) 0 (2 * n)

pub ring_at : (n : ℕ) (t : Terms) (k : ℕ) → k < 2 * n → line_at (ring n t) k ≡ ring_line n t k
ring_at n t k h = made_at (ring_line n t) (2 * n) k h

pub ring_past : (n : ℕ) (t : Terms) (k : ℕ) → 2 * n ≤ k → line_at (ring n t) k ≡ no_line
ring_past n t k h = made_past (ring_line n t) (2 * n) k h
