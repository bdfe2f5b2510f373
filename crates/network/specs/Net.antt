-- What a network means, and which numbers it may hold.
use Rattle.std.specs.Prelude.{ℕ, ◌<◌, ◌≤◌, Bool, ◌&&◌, List, length, nat_le, nat_lt, slice_index_or}
use Rattle.std.specs.List.{list_all}
use Rattle.network.specs.declared.line.Charges.{Charges}
use Rattle.network.specs.declared.line.Terms.{Terms}
use Rattle.network.specs.declared.line.Line.{Line}
use Rattle.network.specs.declared.line.Figure.{Figure}
use Rattle.network.specs.declared.line.Figure.TheVariants.{From, To, Delay, Rate, Class, Room, Jitter, Loss}

-- A network: how many points it has, numbered from 0, and its lines, numbered from 0 by their place in the list.
pub record Net : Type 0 where
  pub points : ℕ
  pub lines : List Line

-- Where there is no line, every number is 0.
abbrev pub no_line : Line
no_line = record { from = 0; to = 0; terms = record { delay = 0; room = 0; charges = record { rate = 0; class = 0; jitter = 0; loss = 0 } } }

-- Line k of a network.
abbrev pub line_at : Net → ℕ → Line
line_at net k = slice_index_or net.lines k no_line

-- The number of a line that a figure names.
abbrev pub figure_of : Figure → Line → ℕ
figure_of From l = l.from
figure_of To l = l.to
figure_of Delay l = l.terms.delay
figure_of Rate l = l.terms.charges.rate
figure_of Class l = l.terms.charges.class
figure_of Room l = l.terms.room
figure_of Jitter l = l.terms.charges.jitter
figure_of Loss l = l.terms.charges.loss

-- Whether what a tariff sees of a line is in range.
abbrev pub chargeable : Charges → Bool
chargeable c = nat_le c.rate 10000 && (nat_le c.class 7 && (nat_le c.jitter 1000 && nat_le c.loss 1000))

-- Whether all numbers of a line but its ends are in range, with room for at least `least` channels.
abbrev pub in_range : ℕ → Terms → Bool
in_range least t = nat_le t.delay 1000000 && (nat_le least t.room && (nat_le t.room 1000 && chargeable t.charges))

-- Whether both ends of a line are below n.
abbrev pub ends_below : ℕ → Line → Bool
ends_below n l = nat_lt l.from n && nat_lt l.to n

-- Whether each line has both ends below n.
abbrev pub all_below : ℕ → List Line → Bool
all_below n ls = list_all (ends_below n) ls

-- Whether each line has its numbers in range, with room for at least `least` channels.
abbrev pub all_in_range : ℕ → List Line → Bool
all_in_range least ls = list_all (λ l. in_range least l.terms) ls

-- What holds of the line at any number in a network of n points.
pub record Fit (n : ℕ) (l : Line) : Type 0 where
  pub from_below : l.from < n
  pub to_below : l.to < n
  pub delay_most : l.terms.delay ≤ 1000000
  pub room_most : l.terms.room ≤ 1000
  pub rate_most : l.terms.charges.rate ≤ 10000
  pub class_most : l.terms.charges.class ≤ 7
  pub jitter_most : l.terms.charges.jitter ≤ 1000
  pub loss_most : l.terms.charges.loss ≤ 1000

-- What every network keeps. The last holds past the last line too, where every number is 0.
pub record Ranged (net : Net) : Type 0 where
  pub points_least : 2 ≤ net.points
  pub points_most : net.points ≤ 64
  pub few : length net.lines ≤ 512
  pub fit : (k : ℕ) → Fit net.points (line_at net k)
