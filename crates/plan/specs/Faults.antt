-- The text of each fault.
use Rattle.std.specs.Prelude.{ℕ, List, ◌++◌, codes, decimal}
use Rattle.states.specs.declared.unfit.Unfit.{Unfit}
use Rattle.states.specs.declared.unfit.Unfit.TheVariants.{StateCount, Number, Order}
use Rattle.states.specs.Fit.{unfit_number}
use Rattle.plan.specs.declared.fault.RowFault.{RowFault}
use Rattle.plan.specs.declared.fault.RowFault.TheVariants.{WordCount, Power, Wake, Latency}
use Rattle.plan.specs.declared.fault.Fault.{Fault}
use Rattle.plan.specs.declared.fault.Fault.TheVariants.{Line, TooManyRows, Table, Length, Memory}

-- why a line is no row
abbrev pub row_words : RowFault → List ℕ
row_words WordCount = codes "expected three numbers: power, wake energy, latency"
row_words Power = codes "the power is not a number of 32 bits"
row_words Wake = codes "the wake energy is not a number of 32 bits"
row_words Latency = codes "the latency is not a number of 32 bits"

-- why a table is not fit
abbrev pub unfit_words : Unfit → List ℕ
unfit_words StateCount = codes "a table has 2 to 16 states"
unfit_words Number = codes "a power is at most 1000000, a wake energy 1000000000, a latency 100000"
unfit_words Order = codes "state 0 wakes at no cost, power falls, wake energy rises, latency does not fall"

-- why there is no plan
abbrev pub fault_text : Fault → List ℕ
fault_text (Line n why) = codes "line " ++ (decimal n ++ (codes ": " ++ row_words why))
fault_text (TooManyRows n) = codes "line " ++ (decimal n ++ codes ": a table has at most 16 rows")
fault_text (Table why) = codes "the table is not fit (" ++ (decimal (unfit_number why) ++ (codes "): " ++ unfit_words why))
fault_text (Length n) = codes "argument " ++ (decimal n ++ codes ": a gap length is a number of 32 bits")
fault_text Memory = codes "out of memory"
