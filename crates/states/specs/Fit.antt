-- Which tables are fit, and which number refuses one that is not.
use Rattle.std.specs.Prelude.{◌≡◌, ℕ, suc, ◌<◌, ◌≤◌, Bool, true, cond, ◌&&◌, List, [], ◌∷◌, length, Some, None, Ok, Err, Option, Result, ◌==◌, nat_le, nat_lt}
use Rattle.std.specs.List.{list_all}
use Rattle.states.specs.declared.row.Row.{Row}
use Rattle.states.specs.declared.unfit.Unfit.{Unfit}
use Rattle.states.specs.declared.unfit.Unfit.TheVariants.{StateCount, Number, Order}
use Rattle.states.specs.Table.{row_at}

-- a table has 2 to 16 states
abbrev pub count_fits : List Row → Bool
count_fits rows = nat_le 2 (length rows) && nat_le (length rows) 16

-- each number of the row is at most its maximum
abbrev pub within : Row → Bool
within row = nat_le row.power 1000000 && (nat_le row.wake 1000000000 && nat_le row.latency 100000)

-- so is each number of the table
abbrev pub all_within : List Row → Bool
all_within rows = list_all within rows

-- from one state to the next power falls, wake energy rises, and latency does not fall
abbrev pub deepens : Row → Row → Bool
deepens above below = nat_lt below.power above.power && (nat_lt above.wake below.wake && nat_le above.latency below.latency)

-- so it goes from each state to the next, down from this one
abbrev pub all_deepen : Row → List Row → Bool
all_deepen above [] = true
all_deepen above (row ∷ rows) = deepens above row && all_deepen row rows

-- waking from state 0 draws nothing and takes no time, and each state is deeper than the one before
abbrev pub ordered : List Row → Bool
ordered [] = true
ordered (row ∷ rows) = (row.wake == 0 && row.latency == 0) && all_deepen row rows

-- 12 for the number of states, then 13 for a number above its maximum, then 14 for any other unfitness
unfoldable pub unfitness : List Row → Option ℕ
unfitness rows =
    cond (count_fits rows)
    (cond (all_within rows) (cond (ordered rows) None (Some 14)) (Some 13))
    (Some 12)

-- a table that no number refuses
abbrev pub Fit : List Row → Type 0
Fit rows = (count_fits rows && (all_within rows && ordered rows)) ≡ true

-- what a fit table is, state by state
pub record FitInWords (rows : List Row) : Type 0 where
  pub few : 2 ≤ length rows
  pub many : length rows ≤ 16
  pub powers : (i : ℕ) → i < length rows → (row_at rows i).power ≤ 1000000
  pub wakes : (i : ℕ) → i < length rows → (row_at rows i).wake ≤ 1000000000
  pub latencies : (i : ℕ) → i < length rows → (row_at rows i).latency ≤ 100000
  pub awake_wake : (row_at rows 0).wake ≡ 0
  pub awake_latency : (row_at rows 0).latency ≡ 0
  pub power_falls : (i : ℕ) → suc i < length rows → (row_at rows (suc i)).power < (row_at rows i).power
  pub wake_rises : (i : ℕ) → suc i < length rows → (row_at rows i).wake < (row_at rows (suc i)).wake
  pub latency_stays : (i : ℕ) → suc i < length rows → (row_at rows i).latency ≤ (row_at rows (suc i)).latency

-- the number of each case
abbrev pub unfit_number : Unfit → ℕ
unfit_number StateCount = 12
unfit_number Number = 13
unfit_number Order = 14

-- the number with which an answer refuses the table, if any
abbrev pub told : {X : Type 0} → Result X Unfit → Option ℕ
told (Ok x) = None
told (Err u) = Some (unfit_number u)
