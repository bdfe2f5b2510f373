-- A word has one name, or none.
use Rattle.std.proofs.Common.{◌≡◌, ℕ, Bool, true, false, List, codes, Option, Some, None, refl, ap}
use Rattle.std.specs.Str.{bytes_eq}
use Rattle.std.proofs.lemmas.Slice.Eq.{bytes_eq-Decides}
use Rattle.text.specs.declared.words.Name.{Name}
use Rattle.text.specs.declared.words.Name.TheVariants.{Points, Line, End, Delay, Rate, Class, Room, Jitter, Loss, Fastest, Widest}
use Rattle.text.specs.Names.{name_of, NameIs}

differs : (w x : List ℕ) → (w ≡ x → ⊥) → bytes_eq w x ≡ false
differs w x h = aux (bytes_eq w x) (bytes_eq-Decides w x).0
  where
    aux : (b : Bool) → (b ≡ true → w ≡ x) → b ≡ false
    aux true k = absurd (h (k refl))
    aux false k = refl

pub name_is : (x : Option Name) (w : List ℕ) → NameIs x w → name_of w ≡ x
name_is (Some Points) w h = ap name_of h
name_is (Some Line) w h = ap name_of h
name_is (Some End) w h = ap name_of h
name_is (Some Delay) w h = ap name_of h
name_is (Some Rate) w h = ap name_of h
name_is (Some Class) w h = ap name_of h
name_is (Some Room) w h = ap name_of h
name_is (Some Jitter) w h = ap name_of h
name_is (Some Loss) w h = ap name_of h
name_is (Some Fastest) w h = ap name_of h
name_is (Some Widest) w h = ap name_of h
name_is None w h = simp (differs w (codes "points") h.0, differs w (codes "line") h.1, differs w (codes "end") h.2, differs w (codes "delay") h.3, differs w (codes "rate") h.4, differs w (codes "class") h.5, differs w (codes "room") h.6, differs w (codes "jitter") h.7, differs w (codes "loss") h.8, differs w (codes "fastest") h.9, differs w (codes "widest") h.10)
