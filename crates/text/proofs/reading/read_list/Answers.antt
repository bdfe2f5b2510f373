use Rattle.std.proofs.Common.{◌≡◌, ℕ, Bool, cond, List, take, ap, ◌∙◌}
use Rattle.network.specs.declared.line.Line.{Line as NetLine}
use Rattle.network.specs.Held.{drawn}
use Rattle.network.specs.Net.{Net}
use Rattle.text.proofs.Cuts.{cuts}
use Rattle.text.proofs.Shaped.{listed}
use Rattle.text.proofs.Whole.{earliest, grown_take, told}
use Rattle.text.proofs.reading.read_list.Goals as goal

pub returns-then-is_err : goal.returns-then-is_err
returns-then-is_err c =
    let d = drawn c.args.draft.now in
    let is = drawn c.list-read.new.draft in
    let left = drawn c.restore.new.draft in
    let first : take c.line_count-count.result is.lines ≡ d.lines = ap (λ (k : ℕ). take k is.lines) c.line_count-count.ensures ∙ grown_take d is c.list-read.ensures.grown in
    let back : left ≡ d =
    c.restore.ensures
    ∙ ap (λ (ls : List NetLine). let m : Net = record { points = c.points-points.result; lines = ls } in m) first
    ∙ ap (λ (k : ℕ). let m : Net = record { points = k; lines = d.lines } in m) c.points-points.ensures in
    let q = told d is left c.args.text.now c.list-read.result c.in_ok-sized.ensures (rw c.new-reader.ensures at c.list-read.ensures.whole) (back ∙ ap (λ (b : Bool). cond b d is) c.if-is_err.ensures.value) in
    record { answer = q.0; after = q.1; earliest = earliest d c.args.text.now c.list-read.result q.0; tokens = cuts 0 c.args.text.now; listed = listed d left c.args.text.now c.list-read.result q.0 q.1 }

pub returns-else-is_err : goal.returns-else-is_err
returns-else-is_err c =
    let d = drawn c.args.draft.now in
    let is = drawn c.list-read.new.draft in
    let q = told d is is c.args.text.now c.list-read.result c.in_ok-sized.ensures (rw c.new-reader.ensures at c.list-read.ensures.whole) (ap (λ (b : Bool). cond b d is) c.if-is_err.ensures.value) in
    record { answer = q.0; after = q.1; earliest = earliest d c.args.text.now c.list-read.result q.0; tokens = cuts 0 c.args.text.now; listed = listed d is c.args.text.now c.list-read.result q.0 q.1 }
