-- Proofs, not definitions: the tariffs of this crate keep what every tariff keeps.
use Rattle.std.specs.Prelude.{◌≡◌, ℕ, ◌*◌, ◌<◌, ◌≤◌, List, All, length, get_or, max, Bool, true, false, cond, ◌&&◌, ◌==◌, refl}
use Rattle.std.proofs.Common.{⊎_elim, sym, subst, mul-le-mul, arith}
use Rattle.std.proofs.lemmas.Bool.{cases_Bool}
use Rattle.std.proofs.lemmas.List.Elements.{All-get_or}
use Rattle.network.specs.declared.line.Charges.{Charges}
use Rattle.network.specs.Net.{chargeable}
use Rattle.network.specs.Shown.{Ranges, ranges}
use Rattle.tariff.specs.Prices.{Priced, in_line, rate_price, balanced_price}
use Rattle.tariff.specs.declared.period.row.Row.{Row}
use Rattle.tariff.specs.Weights.{Weights, no_row, weight_at, freed, settled, period_price}

-- A price that is bounded for charges in range makes a tariff.
priced_from : (price : Charges → ℕ) → ((c : Charges) → Ranges c → price c ≤ 1000000) → Priced (λ c. in_line c (price c))
priced_from price h =
    record {
      most =
          λ c.
          ⊎_elim
          (λ (t : chargeable c ≡ true). subst (λ (b : Bool). cond b (price c) 0 ≤ 1000000) (sym t) (h c (ranges c t)))
          (λ (f : chargeable c ≡ false). subst (λ (b : Bool). cond b (price c) 0 ≤ 1000000) (sym f) (omega arith))
          (cases_Bool (chargeable c));
      outside = λ c f. subst (λ (b : Bool). cond b (price c) 0 ≡ 0) (sym f) refl;
    }

pub rate_priced : Priced rate_price
rate_priced = priced_from (λ c. c.rate) (λ c r. omega arith)

pub balanced_priced : (J L : ℕ) → J ≤ 1000 → L ≤ 1000 → Priced (balanced_price J L)
balanced_priced J L j l =
    priced_from (λ c. max (c.jitter * L) (c.loss * J))
    (λ c r.
    let a : c.jitter * L ≤ 1000000 = mul-le-mul r.jitter_most l in
    let b : c.loss * J ≤ 1000000 = mul-le-mul r.loss_most j in
    omega arith)

-- One of two numbers, neither above the bound.
cond_most : (b : Bool) (x y : ℕ) → x ≤ 1000000 → y ≤ 1000000 → cond b x y ≤ 1000000
cond_most true x y p q = p
cond_most false x y p q = q

settled_most : (period class x : ℕ) → x ≤ 1000000 → settled period class x ≤ 1000000
settled_most period class x h =
    let f : freed class x ≤ 1000000 = cond_most (class == 7) 0 x (omega arith) h in
    cond_most (period == 3 && freed class x == 0) 1 (freed class x) (omega arith) f

-- What holds of each weight of four rows of eight holds of the weight of each period and class.
pub weight_has : (P : ℕ → Type 0) (rows : List Row) → length rows ≡ 4 → All (λ (r : Row). length r.weights ≡ 8) rows → All (λ (r : Row). All P r.weights) rows → (p c : ℕ) → p < 4 → c < 8 → P (weight_at rows p c)
weight_has P rows four eight h p c pl cl =
    let at : p < length rows = omega (arith, four) in
    let long : length (get_or rows p no_row).weights ≡ 8 = All-get_or (λ (r : Row). length r.weights ≡ 8) rows p no_row at eight in
    All-get_or P (get_or rows p no_row).weights c 0 (omega (arith, long)) (All-get_or (λ (r : Row). All P r.weights) rows p no_row at h)

pub period_priced : (w : Weights) → w.period ≤ 3 → ((p c : ℕ) → p < 4 → c < 8 → weight_at w.rows p c ≤ 100) → Priced (period_price w)
period_priced w p h =
    priced_from (λ c. settled w.period c.class (c.rate * weight_at w.rows w.period c.class))
    (λ c r.
    let weight : weight_at w.rows w.period c.class ≤ 100 = h w.period c.class (omega (arith, r.class_most)) (omega (arith, r.class_most)) in
    settled_most w.period c.class (c.rate * weight_at w.rows w.period c.class) (mul-le-mul r.rate_most weight))
