-- A row of a state table as text: three decimal numbers with a space between each two.
use Rattle.std.specs.Prelude.{◌≡◌, ℕ, ◌<◌, List, ◌∷◌, ◌++◌, length, Ok, ◌≢◌, slice_index}
use Rattle.std.specs.Str.Parse.{ParsesUnsigned}
use Rattle.states.specs.declared.row.Row.{Row}
use Rattle.plan.specs.declared.fault.RowFault.{RowFault}
use Rattle.plan.specs.declared.fault.RowFault.TheVariants.{WordCount, Power, Wake, Latency}

-- the word is a decimal text of n, a number of 32 bits
abbrev pub Number : List ℕ → ℕ → Type 0
Number word n = ParsesUnsigned {E = ℕ} 32 10 word (Ok n)

-- it is a text of no such number
abbrev pub NoNumber : List ℕ → Type 0
NoNumber word = (n : ℕ) → Number word n → ⊥

-- the words of a line, and the number that each is a text of: power, wake energy, latency
pub record RowLine (line : List ℕ) (row : Row) : Type 0 where
  pub power : List ℕ
  pub wake : List ℕ
  pub latency : List ℕ
  pub line_is : line ≡ power ++ 32 ∷ (wake ++ 32 ∷ latency)
  pub power_is : Number power row.power
  pub wake_is : Number wake row.wake
  pub latency_is : Number latency row.latency

-- a word has no space in it
abbrev pub Unspaced : List ℕ → Type 0
Unspaced word = (i : ℕ) → i < length word → slice_index word i ≢ 32

-- a line cut at its first two spaces
pub record Cut (line : List ℕ) : Type 0 where
  pub first : List ℕ
  pub second : List ℕ
  pub third : List ℕ
  pub line_is : line ≡ first ++ 32 ∷ (second ++ 32 ∷ third)
  pub first_whole : Unspaced first
  pub second_whole : Unspaced second

-- why a line is no row: it has no two spaces, or which of its words is the first that is no number
abbrev pub IsRowFault : List ℕ → RowFault → Type 0
IsRowFault line WordCount = Cut line → ⊥
IsRowFault line Power = (c : Cut line) × NoNumber c.first
IsRowFault line Wake = (c : Cut line) × ((n : ℕ) × Number c.first n) × NoNumber c.second
IsRowFault line Latency = (c : Cut line) × ((n : ℕ) × Number c.first n) × ((n : ℕ) × Number c.second n) × NoNumber c.third
