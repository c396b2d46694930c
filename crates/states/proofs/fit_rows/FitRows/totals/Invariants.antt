use Rattle.std.proofs.Common.{◌≡◌, ◌+◌, ◌*◌, ◌≤◌, drop}
use Rattle.states.specs.Energy.{energy_of, floor_of, total}
use Rattle.states.proofs.fit_rows.FitRows.totals.Given as goal

-- what is summed and what is left make up the whole, and each gap adds less than 2 to the 64
abbrev pub invariant-loop-gap : goal.invariant-loop-gap
invariant-loop-gap l =
    (l.totals.energy + total (energy_of l.self.rows) (drop l.gap-index l.gaps) ≡ total (energy_of l.self.rows) l.gaps)
    × ((l.totals.floor + total (floor_of l.self.rows) (drop l.gap-index l.gaps) ≡ total (floor_of l.self.rows) l.gaps)
    × ((l.totals.energy ≤ 18446744073709551615 * l.gap-index) × (l.totals.floor ≤ 18446744073709551615 * l.gap-index)))
