-- One token at one slot.
use Rattle.std.proofs.Common.{◌≡◌, ℕ, Bool, true, false, cond, List, [], ◌∷◌, Some, Ok, Err, Result, refl, ◌∙◌}
use Rattle.network.specs.declared.line.Line.{Line as NetLine}
use Rattle.text.specs.declared.fault.FormFault.{FormFault}
use Rattle.text.specs.declared.token.Kind.TheVariants.{Newline}
use Rattle.text.specs.declared.words.Name.TheVariants.{Fastest, Widest}
use Rattle.text.specs.Left.{Left}
use Rattle.text.specs.Names.{name_of}
use Rattle.text.specs.Items.{Item, is_word}
use Rattle.text.specs.Grammar.{Slot, Seen, run, begun, command, done, line_from, lined, mark, verb_slots}
use Rattle.text.specs.Reads.{Reads, ends_seen, terms_seen}
use Rattle.text.proofs.Scans.{word_is}

-- the eight numbers of a line's form make the line
pub line_got : (c : Seen) (l : NetLine) → c.got ≡ [] → line_from (terms_seen (ends_seen c (l.from, l.to)) l.terms).got ≡ l
line_got c l e = simp e

-- the word of a command
pub verb_word : (c : Seen) (n : ℕ) (ss : List Slot) (t : Item) (ts : List Item) (b : Bool) → is_word t.kind ≡ true → name_of t.bytes ≡ Some (cond b Fastest Widest) → run c n (command ∷ ss) (t ∷ ts) ≡ run (begun c (Some (cond b Fastest Widest))) n (verb_slots (Some (cond b Fastest Widest)) ss) ts
verb_word c n ss t ts true w e = let k = word_is t.kind w in simp (k, e)
verb_word c n ss t ts false w e = let k = word_is t.kind w in simp (k, e)

-- the newline that ends a line's form is a newline, where its line was added before
done_mark : (c : Seen) (n : ℕ) (ss : List Slot) (ts : List Item) → run c n (done ∷ ss) ts ≡ run (lined c (line_from c.got)) n (mark Newline ∷ ss) ts
done_mark c n ss [] = refl
done_mark c n ss (t ∷ ts) = refl

pub done_reads : (was is : Left) (r : Result (Unit {0}) FormFault) → Reads (λ ss. mark Newline ∷ ss) (λ c v. c) was r is → Reads (λ ss. done ∷ ss) (λ c v. lined c (line_from c.got)) was r is
done_reads was is (Ok v) h = record { same = h.same; reads = λ c ss. done_mark c was.size ss was.items ∙ h.reads (lined c (line_from c.got)) ss }
done_reads was is (Err f) h = record { same = h.same; reads = λ c ss. done_mark c was.size ss was.items ∙ h.reads (lined c (line_from c.got)) ss }
