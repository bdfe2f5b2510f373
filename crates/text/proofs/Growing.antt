-- A draft that takes lines one after another.
use Rattle.std.proofs.Common.{◌≡◌, ℕ, true, false, List, [], ◌∷◌, ◌++◌, is_some, Some, None, Option, sym, refl, ap, ◌∙◌, append_assoc}
use Rattle.network.specs.declared.line.Line.{Line as NetLine}
use Rattle.network.specs.Net.{Net}
use Rattle.text.specs.Grammar.{Seen, pointed, with_line}
use Rattle.text.specs.Reads.{Grown, turned}

-- what a turn read, by whether it read a line
pub line_from_some : (o : Option NetLine) → is_some o ≡ true → (l : NetLine) × (o ≡ Some l)
line_from_some None e = cc
line_from_some (Some l) e = (l, refl)

pub none_from_not_some : (o : Option NetLine) → is_some o ≡ false → o ≡ None
none_from_not_some None e = refl
none_from_not_some (Some l) e = cc

-- the draft after a turn that read a line
pub took : (d is : Net) (o : Option NetLine) (l : NetLine) → is ≡ turned d o → o ≡ Some l → is ≡ with_line d l
took d is o l e f = e ∙ ap (turned d) f

pub grown_then : (a b c : Net) → Grown a b → Grown b c → Grown a c
grown_then a b c g h = (g.0 ++ h.0, h.1 ∙ ap (λ ls. ls ++ h.0) g.1 ∙ append_assoc a.lines g.0 h.0)

pub grown_more : (was d is : Net) (l : NetLine) → Grown was d → is ≡ with_line d l → Grown was is
grown_more was d is l g e = grown_then was d is g (l ∷ [], ap (λ (n : Net). n.lines) e)

-- the network with its point count set
pub pointed_net : (s : Seen) (was is : Net) (n : ℕ) → s.net ≡ was → is.points ≡ n → is.lines ≡ was.lines → (pointed s n).net ≡ is
pointed_net s was is n k p l =
    ap (λ (ls : List NetLine). let m : Net = record { points = n; lines = ls } in m) (ap (λ (m : Net). m.lines) k ∙ sym l)
    ∙ ap (λ (q : ℕ). let m : Net = record { points = q; lines = is.lines } in m) (sym p)
