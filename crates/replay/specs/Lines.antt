-- The lines of a report, and how each is written.
use Rattle.std.specs.Prelude.{ℕ, ◌+◌, Bool, cond, List, [], ◌∷◌, ◌++◌, map, codes, decimal}
use Rattle.manager.specs.declared.account.Account.{Account}

-- the device's number; a closed gap with its length, whether it is stuck, its energy, its floor, the state left, the
-- latency and the note; a request that a fault held up, with its place and what the refusal names; the place and the
-- number of a refusal; the account at the end; and the end
pub data Line : Type 0 where
  device : ℕ → Line
  gap : ℕ → Bool → ℕ → ℕ → ℕ → ℕ → List ℕ → Line
  jam : ℕ → List ℕ → Line
  stop : ℕ → ℕ → Line
  total : Account → Line
  end : Line

-- words with a space between each two, and the end of the line
abbrev pub line : List (List ℕ) → List ℕ
line [] = 10 ∷ []
line (w ∷ []) = w ++ 10 ∷ []
line (w ∷ v ∷ ws) = w ++ 32 ∷ line (v ∷ ws)

-- an empty note is written as a hyphen
abbrev pub note_word : List ℕ → List ℕ
note_word [] = codes "-"
note_word (b ∷ bs) = b ∷ bs

-- whether a gap is stuck
abbrev pub stuck_word : Bool → List ℕ
stuck_word b = cond b (codes "stuck") (codes "clean")

-- all the energy of an account: what is clean, stuck, busy and open, without the floor
abbrev pub energy_sum : Account → ℕ
energy_sum a = a.clean + a.stuck + a.busy + a.pending

-- a line as it is written
abbrev pub text : Line → List ℕ
text (device n) = line (codes "device" ∷ decimal n ∷ [])
text (gap length stuck energy floor from latency note) =
    line (codes "gap" ∷ decimal length ∷ stuck_word stuck ∷ decimal energy ∷ decimal floor ∷ decimal from ∷ decimal latency ∷ note_word note ∷ [])
text (jam place names) = line (codes "jam" ∷ decimal place ∷ map decimal names)
text (stop place number) = line (codes "stop" ∷ decimal place ∷ decimal number ∷ [])
text (total a) =
    line (codes "total" ∷ decimal a.clean ∷ decimal a.floor ∷ decimal a.stuck ∷ decimal a.busy ∷ decimal a.pending ∷ decimal (energy_sum a) ∷ [])
text end = line (codes "end" ∷ [])

-- lines, one after the other
abbrev pub written : List Line → List ℕ
written [] = []
written (l ∷ ls) = text l ++ written ls
