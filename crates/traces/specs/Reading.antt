-- A whole trace, as a reader hands it out.
use Rattle.std.specs.Prelude.{◌≡◌, ℕ, zero, suc, ◌+◌, Bool, true, false, cond, List, [], ◌∷◌, length, drop, Some, None, Ok, Err, Option, Result, nat_lt}
use Rattle.traces.specs.declared.order.Stage.{Stage}
use Rattle.traces.specs.declared.order.Stage.TheVariants.{Start, Opened, Running, Ended}
use Rattle.traces.specs.declared.event.Record.{Record}
use Rattle.traces.specs.declared.event.Refusal.{Refusal}
use Rattle.traces.specs.Layout.{Item, item, Step, read_one, told}

-- how a reading ends: at the end record, or refused at a place by a number
pub data Ending : Type 0 where
  whole : Ending
  refused : ℕ → ℕ → Ending

-- the records that are handed out, each with its offset, and how it ends
pub record Reading : Type 0 where
  pub records : List (ℕ × Item)
  pub ending : Ending

-- no record, and an ending
abbrev pub ends : Ending → Reading
ends e = record { records = []; ending = e }

-- a record, and then the rest
abbrev pub first : ℕ × Item → Reading → Reading
first x r = record { records = x ∷ r.records; ending = r.ending }

-- past the end record
abbrev pub ended : Stage → Bool
ended Start = false
ended Opened = false
ended Running = false
ended Ended = true

-- nothing may follow the end record
abbrev pub closing : ℕ → List ℕ → Reading
closing n [] = ends whole
closing n (b ∷ bs) = ends (refused n 4)

-- the record at offset n and what goes on behind it, or its refusal
abbrev pub after : (Stage → ℕ → List ℕ → Reading) → ℕ → List ℕ → Result Step ℕ → Reading
after go n bs (Ok t) = first (n, t.says) (go t.stage (n + t.size) (drop t.size bs))
after go n bs (Err e) = ends (refused n e)

-- the reading of the bytes bs that are left at offset n, in fewer than k steps
unfoldable pub onward : ℕ → Stage → ℕ → List ℕ → Reading
onward zero st n bs = ends whole
onward (suc k) st n bs = cond (ended st) (closing n bs) (after (onward k) n bs (read_one st bs))

-- the reading of the bytes bs that are left at offset n
unfoldable pub remaining : Stage → ℕ → List ℕ → Reading
remaining st n bs = onward (suc (length bs)) st n bs

-- the reading of a trace
unfoldable pub reading : List ℕ → Reading
reading bs = cond (nat_lt 65536 (length bs)) (ends (refused 65536 5)) (remaining Start 0 bs)

-- the ending that a refusal tells of
abbrev pub stop : Refusal → Ending
stop e = refused e.place (told e.fault)

-- what was ahead, where `next` answered r and `rest` is ahead now
abbrev pub handed : Result (Option Record) Refusal → Reading → Reading
handed (Ok (Some r)) rest = first (r.offset, item r.event) rest
handed (Ok None) rest = ends whole
handed (Err e) rest = ends (stop e)

-- an answer without a record leaves ahead what was
abbrev pub Stays : Result (Option Record) Refusal → Reading → Reading → Type 0
Stays (Ok (Some r)) before rest = Unit {0}
Stays (Ok None) before rest = rest ≡ before
Stays (Err e) before rest = rest ≡ before

-- P of what the record says that was handed out, if one was
abbrev pub Handed : (Item → Type 0) → Result (Option Record) Refusal → Type 0
Handed P (Ok (Some r)) = P (item r.event)
Handed P (Ok None) = Unit {0}
Handed P (Err e) = Unit {0}

-- the count of the records of a trace that is read whole, or the refusal that it ends by
abbrev pub Counts : Result ℕ Refusal → Reading → Type 0
Counts (Ok n) r = (r.ending ≡ whole) × (n ≡ length r.records)
Counts (Err e) r = r.ending ≡ stop e
