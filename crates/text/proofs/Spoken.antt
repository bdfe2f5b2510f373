-- Commands, from their words to their whole texts.
use Rattle.std.proofs.Common.{◌≡◌, ℕ, ◌<◌, ◌≤◌, Bool, cond, List, [], ◌∷◌, length, IfOk, Some, Ok, Err, Result, sym, refl, ap, ◌∙◌, subst}
use Rattle.network.specs.Drafts.{new_draft}
use Rattle.text.specs.declared.commands.Command.{Command}
use Rattle.text.specs.declared.commands.Command.TheVariants.{Fastest as fastest, Widest as widest}
use Rattle.text.specs.declared.fault.CharCause.{CharCause}
use Rattle.text.specs.declared.fault.CharCause.TheVariants.{TooLong}
use Rattle.text.specs.declared.fault.At.{At}
use Rattle.text.specs.declared.fault.FormFault.{FormFault}
use Rattle.text.specs.declared.fault.FormFault.TheVariants.{Chars, Form}
use Rattle.text.specs.declared.fault.TextFault.{TextFault}
use Rattle.text.specs.declared.fault.TextFault.TheVariants.{Forms}
use Rattle.text.specs.declared.words.Name.{Name}
use Rattle.text.specs.declared.words.Name.TheVariants.{Fastest, Widest}
use Rattle.text.specs.Left.{Left, left_of}
use Rattle.text.specs.Grammar.{Slot, Seen, Out, read, fault, begun, command, command_slots, verb_slots, run, answer}
use Rattle.text.specs.Commands.{Ordered, Spoken, Whole, verb_of, command_from, noted_all, ordered, commanded}
use Rattle.text.specs.Faults.{char_number, form_out}
use Rattle.text.specs.Listing.{Fault, fault_of, faulted, start}
use Rattle.text.specs.Reads.{Chosen, pass}
use Rattle.text.specs.Rule.{Decides, Earliest, text_faults}
use Rattle.text.proofs.Order.{Settles, settles}
use Rattle.text.proofs.Slots.{verb_word}
use Rattle.text.proofs.Whole.{from_start, too_long}

-- a word and what follows it
pub spoken_by : (was mid is : Left) (w : Name) (r : Result Command FormFault) → mid.size ≡ was.size → ((c : Seen) (ss : List Slot) → pass c (command ∷ ss) was ≡ pass (begun c (Some w)) (verb_slots (Some w) ss) mid) → Ordered (verb_slots (Some w)) mid r is → IfOk r (λ x. verb_of x ≡ w) → Spoken was r is
spoken_by was mid is w (Ok (fastest a b g)) s h o v =
    record { same = o.same ∙ s; reads = λ c ss. (noted_all (begun c (Some w)) (a ∷ b ∷ g ∷ []), h c ss ∙ o.reads (begun c (Some w)) ss, ap (λ (u : Name). command_from (Some u) (a ∷ b ∷ g ∷ [])) (sym v)) }
spoken_by was mid is w (Ok (widest a b)) s h o v =
    record { same = o.same ∙ s; reads = λ c ss. (noted_all (begun c (Some w)) (a ∷ b ∷ []), h c ss ∙ o.reads (begun c (Some w)) ss, ap (λ (u : Name). command_from (Some u) (a ∷ b ∷ [])) (sym v)) }
spoken_by was mid is w (Err f) s h o v = record { same = o.same ∙ s; reads = λ c ss. h c ss ∙ o.reads (begun c (Some w)) ss }

-- the same where the word is one of the two
pub spoken_after : (was mid is : Left) (b : Bool) (p : ℕ) (r : Result Command FormFault) → Chosen Fastest Widest was (Ok (b, p)) mid → Ordered (verb_slots (Some (cond b Fastest Widest))) mid r is → IfOk r (λ x. verb_of x ≡ cond b Fastest Widest) → Spoken was r is
spoken_after was mid is b p r h o v =
    let w : Name = cond b Fastest Widest in
    spoken_by was mid is w r h.same
    (λ c ss. ap (λ ts. run c was.size (command ∷ ss) ts) h.chosen.1 ∙ verb_word c was.size ss h.chosen.0 mid.items b h.chosen.2 h.chosen.3 ∙ ap (λ n. run (begun c (Some w)) n (verb_slots (Some w) ss) mid.items) (sym h.same)) o v

form_fault : (f : FormFault) → ordered (form_out f) ≡ Err (fault_of (Forms f))
form_fault (Chars f) = refl
form_fault (Form f) = refl

-- a whole command text
pub told_command : (text : List ℕ) (x : Command) → length text ≤ 65536 → Whole (left_of text) (Ok x) → commanded text ≡ Ok x
told_command text x h w =
    let q = w (start new_draft) in
    ap ordered (from_start (start new_draft) command_slots text h ∙ q.1) ∙ ap (λ (y : Command). let r : Result Command Fault = Ok y in r) q.2

pub told_fault : (text : List ℕ) (f : FormFault) → length text ≤ 65536 → Whole (left_of text) (Err f) → commanded text ≡ Err (fault_of (Forms f))
told_fault text f h w = ap ordered (from_start (start new_draft) command_slots text h ∙ w (start new_draft)) ∙ form_fault f

pub told_too_long : (text : List ℕ) (f : At CharCause) → 65536 < length text → f.cause ≡ TooLong → f.place ≡ 65536 → commanded text ≡ Err (fault_of (Forms (Chars f)))
told_too_long text f h c p =
    let faults : Fault → Result Command Fault = λ x. Err x in
    ap ordered (too_long (start new_draft) command_slots text h) ∙ sym (ap (λ (x : CharCause). faults (record { number = char_number x; place = f.place })) c ∙ ap (λ (x : ℕ). faults (record { number = 1; place = x })) p)

settled : (o : Out) (fs : List Fault) → Settles o fs → Decides (ordered o) fs
settled (read c) fs s = s
settled (fault q p) fs s = s

pub earliest : (text : List ℕ) (r : Result Command TextFault) → faulted r ≡ commanded text → Earliest (start new_draft) command_slots text (faulted r)
earliest text r e h rec =
    let fs = text_faults rec (start new_draft) command_slots text in
    subst (λ (x : Result Command Fault). Decides x fs) (sym e) (settled (answer (start new_draft) command_slots text) fs (settles rec (start new_draft) command_slots text h))
