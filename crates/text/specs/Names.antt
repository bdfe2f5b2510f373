-- The words of texts.
use Rattle.std.specs.Prelude.{◌≡◌, ℕ, Bool, true, false, cond, List, codes, Option, Some, None, ◌==◌, ◌≢◌}
use Rattle.std.specs.Str.{bytes_eq}
use Rattle.text.specs.declared.words.Name.{Name}
use Rattle.text.specs.declared.words.Name.TheVariants.{Points, Line, End, Delay, Rate, Class, Room, Jitter, Loss, Fastest, Widest}

-- The name that a word has, if it has one, by comparing all its bytes.
abbrev pub name_of : List ℕ → Option Name
name_of w =
    cond (bytes_eq w (codes "points")) (Some Points)
    (cond (bytes_eq w (codes "line")) (Some Line)
    (cond (bytes_eq w (codes "end")) (Some End)
    (cond (bytes_eq w (codes "delay")) (Some Delay)
    (cond (bytes_eq w (codes "rate")) (Some Rate)
    (cond (bytes_eq w (codes "class")) (Some Class)
    (cond (bytes_eq w (codes "room")) (Some Room)
    (cond (bytes_eq w (codes "jitter")) (Some Jitter)
    (cond (bytes_eq w (codes "loss")) (Some Loss)
    (cond (bytes_eq w (codes "fastest")) (Some Fastest)
    (cond (bytes_eq w (codes "widest")) (Some Widest) None))))))))))

-- The same as a relation.
abbrev pub NameIs : Option Name → List ℕ → Type 0
NameIs (Some Points) w = w ≡ codes "points"
NameIs (Some Line) w = w ≡ codes "line"
NameIs (Some End) w = w ≡ codes "end"
NameIs (Some Delay) w = w ≡ codes "delay"
NameIs (Some Rate) w = w ≡ codes "rate"
NameIs (Some Class) w = w ≡ codes "class"
NameIs (Some Room) w = w ≡ codes "room"
NameIs (Some Jitter) w = w ≡ codes "jitter"
NameIs (Some Loss) w = w ≡ codes "loss"
NameIs (Some Fastest) w = w ≡ codes "fastest"
NameIs (Some Widest) w = w ≡ codes "widest"
NameIs None w = (w ≢ codes "points") × (w ≢ codes "line") × (w ≢ codes "end") × (w ≢ codes "delay") × (w ≢ codes "rate") × (w ≢ codes "class") × (w ≢ codes "room") × (w ≢ codes "jitter") × (w ≢ codes "loss") × (w ≢ codes "fastest") × (w ≢ codes "widest")

-- A number for each name, by which names are compared.
abbrev pub ordinal : Name → ℕ
ordinal Points = 0
ordinal Line = 1
ordinal End = 2
ordinal Delay = 3
ordinal Rate = 4
ordinal Class = 5
ordinal Room = 6
ordinal Jitter = 7
ordinal Loss = 8
ordinal Fastest = 9
ordinal Widest = 10

-- Whether a word with that name, or with none, is the word x.
abbrev pub is_name : Name → Option Name → Bool
is_name x None = false
is_name x (Some y) = ordinal y == ordinal x

-- Whether two words have the same name, or both none.
abbrev pub same_name : Option Name → Option Name → Bool
same_name None None = true
same_name None (Some y) = false
same_name (Some x) w = is_name x w
