use Rattle.std.proofs.Common.{◌≡◌, ◌+◌, length}
use Rattle.traces.specs.Reading.{reading}
use Rattle.traces.proofs.check.Given as goal

-- what was counted and what is ahead make the whole reading
abbrev pub invariant-loop-count : goal.invariant-loop-count
invariant-loop-count l =
    (l.count + length l.reader.records ≡ length (reading l.trace).records)
    × (l.reader.ending ≡ (reading l.trace).ending)

abbrev pub decreases-loop-count : goal.decreases-loop-count
decreases-loop-count l = length l.reader.records
