-- One record of a trace: its layout, what it says, and why it is refused.
use Rattle.std.specs.Prelude.{ℕ, ◌+◌, ◌-◌, ◌*◌, Bool, cond, ◌&&◌, List, length, take, drop, Some, None, Ok, Err, Option, Result, ◌==◌, nat_le, nat_lt, slice_index}
use Rattle.std.specs.List.{list_all}
use Rattle.std.specs.Option.{ok_or}
use Rattle.traces.specs.declared.order.Kind.{Kind}
use Rattle.traces.specs.declared.order.Kind.TheVariants as kind
use Rattle.traces.specs.declared.order.Stage.{Stage}
use Rattle.traces.specs.declared.order.Stage.TheVariants.{Start, Opened, Running, Ended}
use Rattle.traces.specs.declared.event.Fault.{Fault}
use Rattle.traces.specs.declared.event.Fault.TheVariants.{Cut, UnknownKind, Malformed, OutOfOrder, TooLong}
use Rattle.traces.specs.declared.event.Event.{Event}
use Rattle.traces.specs.declared.event.Event.TheVariants as event
use Rattle.traces.specs.declared.decode.Taken.{Taken}

-- what a record says, as plain values
pub data Item : Type 0 where
  table : ℕ → List ℕ → Item
  limit : ℕ → Item
  ticks : ℕ → Item
  request : ℕ → List ℕ → Item
  release : ℕ → Item
  report : ℕ → ℕ → Item
  end : Item

-- what an `Event` shows
abbrev pub item : Event → Item
item (event.Table n rows) = table n rows.now
item (event.Limit l) = limit l
item (event.Ticks c) = ticks c
item (event.Request n note) = request n note.now
item (event.Release n) = release n
item (event.Report n c) = report n c
item event.End = end

-- the number that a fault is told by
abbrev pub told : Fault → ℕ
told Cut = 1
told UnknownKind = 2
told Malformed = 3
told OutOfOrder = 4
told TooLong = 5

-- the kind that a number stands for
abbrev pub kind_of : ℕ → Option Kind
kind_of k =
    cond (k == 1) (Some kind.Table)
    (cond (k == 2) (Some kind.Limit)
    (cond (k == 3) (Some kind.Ticks)
    (cond (k == 4) (Some kind.Request)
    (cond (k == 5) (Some kind.Release)
    (cond (k == 6) (Some kind.Report)
    (cond (k == 7) (Some kind.End) None))))))

-- the stage after a record of kind k, where the order allows it: a table first, a limit right after it or none, the end last
abbrev pub follows : Stage → Kind → Option Stage
follows Start k = elim k [
  | kind.Table ↦ Some Opened
  | kind.Limit ↦ None
  | kind.Ticks ↦ None
  | kind.Request ↦ None
  | kind.Release ↦ None
  | kind.Report ↦ None
  | kind.End ↦ None
]
follows Opened k = elim k [
  | kind.Table ↦ None
  | kind.Limit ↦ Some Running
  | kind.Ticks ↦ Some Running
  | kind.Request ↦ Some Running
  | kind.Release ↦ Some Running
  | kind.Report ↦ Some Running
  | kind.End ↦ Some Ended
]
follows Running k = elim k [
  | kind.Table ↦ None
  | kind.Limit ↦ None
  | kind.Ticks ↦ Some Running
  | kind.Request ↦ Some Running
  | kind.Release ↦ Some Running
  | kind.Report ↦ Some Running
  | kind.End ↦ Some Ended
]
follows Ended k = None

-- the number in the two bytes from place i on, the least first
abbrev pub two : List ℕ → ℕ → ℕ
two bs i = slice_index bs i + slice_index bs (i + 1) * 256

-- the number in the four bytes from place i on, the least first
abbrev pub four : List ℕ → ℕ → ℕ
four bs i = two bs i + two bs (i + 2) * 65536

-- each byte of a note can be printed, and is no space
abbrev pub printable : List ℕ → Bool
printable = list_all (λ b. nat_le 33 b && nat_le b 126)

-- x where the test holds
abbrev pub if : Bool → Item → Option Item
if b x = cond b (Some x) None

-- what a body says, unless it is wrong
abbrev pub content : Kind → List ℕ → Option Item
content kind.Table bs =
    if (nat_le 1 (slice_index bs 2) && nat_le (slice_index bs 2) 16 && length bs == 3 + 12 * slice_index bs 2)
    (table (two bs 0) (drop 3 bs))
content kind.Limit bs = if (length bs == 4) (limit (four bs 0))
content kind.Ticks bs =
    if (length bs == 4 && nat_le 1 (four bs 0) && nat_le (four bs 0) 1000000) (ticks (four bs 0))
content kind.Request bs =
    if (nat_le 2 (length bs) && nat_le (length bs) 18 && printable (drop 2 bs)) (request (two bs 0) (drop 2 bs))
content kind.Release bs = if (length bs == 2) (release (two bs 0))
content kind.Report bs = if (length bs == 6) (report (two bs 0) (four bs 2))
content kind.End bs = if (length bs == 0) end

-- a record that was read: what it says, how many bytes it takes, and the stage after it
pub record Step : Type 0 where
  pub says : Item
  pub size : ℕ
  pub stage : Stage

-- the first test that fails gives its number
infixr 10 ◌then◌
abbrev pub ◌then◌ : {A B : Type 0} → Result A ℕ → (A → Result B ℕ) → Result B ℕ
(Ok x) then f = f x
(Err e) then f = Err e

-- a complete record, of the kind numbered k: an unknown kind is 2, one out of order 4, a wrong body 3
abbrev pub read_body : Stage → ℕ → List ℕ → Result Step ℕ
read_body st k body =
    ok_or (kind_of k) 2 then λ kind.
    ok_or (follows st kind) 4 then λ next.
    ok_or (content kind body) 3 then λ x.
    Ok (record { says = x; size = 4 + length body; stage = next })

-- the record at the front of bs: an incomplete one is 1, a length below 2 is 3
abbrev pub read_one : Stage → List ℕ → Result Step ℕ
read_one st bs =
    cond (nat_lt (length bs) 4) (Err 1)
    (cond (nat_lt (length bs) (2 + two bs 0)) (Err 1)
    (cond (nat_lt (two bs 0) 2) (Err 3)
    (read_body st (two bs 2) (take (two bs 0 - 2) (drop 4 bs)))))

-- what the code's answer shows
abbrev pub shown : Result Taken Fault → Result Step ℕ
shown (Ok t) = Ok (record { says = item t.event; size = t.size; stage = t.stage })
shown (Err f) = Err (told f)
