-- Proofs, not definitions: the networks of this crate keep the ranges.
use Rattle.std.specs.Prelude.{◌≡◌, ℕ, ◌+◌, ◌-◌, ◌*◌, ◌%◌, ◌<◌, ◌≤◌, Bool, true, cond, ◌&&◌, List, map, length, get_or, vec_items, nat_le, nat_lt, slice_index_or}
use Rattle.std.proofs.Common.{⊎_elim, sym, subst, mod-lt, arith}
use Rattle.std.specs.List.{range_with_len}
use Rattle.std.proofs.lemmas.List.FromFn.{length-map-range_with_len, get_or-map-range_with_len}
use Rattle.std.proofs.lemmas.List.{get_or_past}
use Rattle.std.proofs.lemmas.List.Elements.{All-get_or}
use Rattle.std.proofs.lemmas.List.Sums.{AllPass-from_list_all}
use Rattle.std.specs.List.{list_all}
use Rattle.std.proofs.lemmas.Bool.{and_parts, cases_lt, leb-true, ltb-true, lt-ltb, le-ltb}
use Rattle.network.specs.declared.draft.Draft.{Draft}
use Rattle.network.specs.declared.line.Charges.{Charges}
use Rattle.network.specs.declared.line.Line.{Line}
use Rattle.network.specs.declared.line.Terms.{Terms}
use Rattle.network.specs.declared.ring.Ring.{Ring}
use Rattle.network.specs.Net.{Net, no_line, line_at, chargeable, in_range, ends_below, all_below, all_in_range, Fit, Ranged}
use Rattle.network.specs.Rings.{ring_line}
use Rattle.network.specs.Loads.{loaded, lowered_at}
use Rattle.network.specs.Held.{drawn, ring_net}

-- What a tariff sees of a line, in a line's ranges.
pub record Ranges (c : Charges) : Type 0 where
  pub rate_most : c.rate ≤ 10000
  pub class_most : c.class ≤ 7
  pub jitter_most : c.jitter ≤ 1000
  pub loss_most : c.loss ≤ 1000

pub ranges : (c : Charges) → chargeable c ≡ true → Ranges c
ranges c h =
    let u = and_parts (nat_le c.rate 10000) (nat_le c.class 7 && (nat_le c.jitter 1000 && nat_le c.loss 1000)) h in
    let v = and_parts (nat_le c.class 7) (nat_le c.jitter 1000 && nat_le c.loss 1000) u.1 in
    let w = and_parts (nat_le c.jitter 1000) (nat_le c.loss 1000) v.1 in
    record { rate_most = leb-true _ _ u.0; class_most = leb-true _ _ v.0; jitter_most = leb-true _ _ w.0; loss_most = leb-true _ _ w.1 }

-- Terms that pass the test, between ends that are below n, make a line that fits.
pub fit_from : (least n : ℕ) (l : Line) → l.from < n → l.to < n → in_range least l.terms ≡ true → Fit n l
fit_from least n l a b h =
    let t = l.terms in
    let p = and_parts (nat_le t.delay 1000000) (nat_le least t.room && (nat_le t.room 1000 && chargeable t.charges)) h in
    let q = and_parts (nat_le least t.room) (nat_le t.room 1000 && chargeable t.charges) p.1 in
    let r = and_parts (nat_le t.room 1000) (chargeable t.charges) q.1 in
    let c = ranges t.charges r.1 in
    record {
      from_below = a;
      to_below = b;
      delay_most = leb-true _ _ p.0;
      room_most = leb-true _ _ r.0;
      rate_most = c.rate_most;
      class_most = c.class_most;
      jitter_most = c.jitter_most;
      loss_most = c.loss_most;
    }

-- Where there is no line, all zeros fit.
no_line_fits : (n : ℕ) → 2 ≤ n → Fit n no_line
no_line_fits n h = record { from_below = omega arith; to_below = omega arith; delay_most = omega arith; room_most = omega arith; rate_most = omega arith; class_most = omega arith; jitter_most = omega arith; loss_most = omega arith }

-- A network keeps the ranges if each of its lines does.
ranged_from : (net : Net) → 2 ≤ net.points → net.points ≤ 64 → length net.lines ≤ 512 → ((k : ℕ) → k < length net.lines → Fit net.points (line_at net k)) → Ranged net
ranged_from net two most few h =
    record {
      points_least = two;
      points_most = most;
      few = few;
      fit =
          λ k.
          ⊎_elim
          (λ (lt : k < length net.lines). h k lt)
          (λ (le : length net.lines ≤ k). subst (λ (l : Line). Fit net.points l) (sym (get_or_past net.lines k no_line le)) (no_line_fits net.points two))
          (cases_lt k (length net.lines));
    }

-- What passes for each line of a list passes for the line at a number.
pub passes_at : (test : Line → Bool) (ls : List Line) (k : ℕ) → list_all test ls ≡ true → k < length ls → test (slice_index_or ls k no_line) ≡ true
passes_at test ls k p h = All-get_or (λ l. test l ≡ true) ls k no_line h (AllPass-from_list_all test ls p)

fit_at : (least n : ℕ) (ls : List Line) (k : ℕ) → all_below n ls ≡ true → all_in_range least ls ≡ true → k < length ls → Fit n (slice_index_or ls k no_line)
fit_at least n ls k b r h =
    let l : Line = get_or ls k no_line in
    let e = and_parts (nat_lt l.from n) (nat_lt l.to n) (passes_at (ends_below n) ls k b h) in
    fit_from least n l (ltb-true _ _ e.0) (ltb-true _ _ e.1) (passes_at (λ x. in_range least x.terms) ls k r h)

pub drawn_ranged : (d : Draft) → Ranged (drawn d)
drawn_ranged d =
    let few : length (vec_items d.lines) ≤ 512 = omega arith in
    ranged_from (drawn d) d.points_least d.points_most few (λ k h. fit_at 1 d.points (vec_items d.lines) k d.below d.ranged h)

-- The line at a number below the count, of a network whose lines are worked out.
pub made_at : (f : ℕ → Line) (m k : ℕ) → k < m → slice_index_or (map f (range_with_len 0 m)) k no_line ≡ f k
made_at f m k h = get_or-map-range_with_len f 0 m k k no_line h (omega arith)

ranged_made : (n : ℕ) (f : ℕ → Line) (m : ℕ) → 2 ≤ n → n ≤ 64 → m ≤ 512 → ((k : ℕ) → k < m → Fit n (f k)) → Ranged (record { points = n; lines = map f (range_with_len 0 m) })
ranged_made n f m two most few h =
    let e = length-map-range_with_len f 0 m in
    ranged_from (record { points = n; lines = map f (range_with_len 0 m) }) two most (omega arith)
    (λ k l. let lt : k < m = omega arith in subst (λ (x : Line). Fit n x) (sym (made_at f m k lt)) (h k lt))

ring_fit : (n : ℕ) (t : Terms) (k : ℕ) → 2 ≤ n → in_range 0 t ≡ true → k < 2 * n → Fit n (ring_line n t k)
ring_fit n t k two r h =
    let on : Line = record { from = k; to = (k + 1) % n; terms = t } in
    let back : Line = record { from = (k - n + 1) % n; to = k - n; terms = t } in
    let next : (j : ℕ) → j % n < n = λ j. mod-lt j (omega arith) in
    ⊎_elim
    (λ (lt : k < n). subst (λ (b : Bool). Fit n (cond b on back)) (sym (lt-ltb k n lt)) (fit_from 0 n on lt (next (k + 1)) r))
    (λ (le : n ≤ k). subst (λ (b : Bool). Fit n (cond b on back)) (sym (le-ltb k n le)) (fit_from 0 n back (next (k - n + 1)) (omega arith) r))
    (cases_lt k n)

pub ring_ranged : (r : Ring) → Ranged (ring_net r)
ring_ranged r = ranged_made r.points (ring_line r.points r.terms) (2 * r.points) r.points_least r.points_most (omega arith) (λ k h. ring_fit r.points r.terms k r.points_least r.ranged h)

pub loaded_ranged : (net : Net) (loads : List ℕ) → Ranged net → Ranged (loaded net loads)
loaded_ranged net loads r =
    ranged_made net.points (lowered_at net loads) (length net.lines) r.points_least r.points_most r.few
    (λ k h.
    let f = r.fit k in
    record {
      from_below = f.from_below;
      to_below = f.to_below;
      delay_most = f.delay_most;
      room_most = omega arith;
      rate_most = f.rate_most;
      class_most = f.class_most;
      jitter_most = f.jitter_most;
      loss_most = f.loss_most;
    })
