-- The joined pair: two devices behind a rail.
use Rattle.std.specs.Prelude.{ℕ, ◌+◌, min, max, Bool, cond, ◌&&◌, ◌++◌, map, ◌==◌}
use Rattle.states.specs.Table.{Table, at}
use Rattle.states.specs.declared.row.Row.{Row}
use Rattle.devices.specs.Meaning.{Status, layered}

-- a sum stops at the largest number of 32 bits
abbrev pub capped : ℕ → ℕ
capped n = min n 4294967295

-- each half draws its own; the rail adds its power in every state but the deepest, and its energy in the deepest
abbrev pub joined_row : Table → Table → ℕ → ℕ → ℕ → Row
joined_row a b rail_power rail_energy i = record {
  power = capped ((at a i).power + (at b i).power + cond (i == max a.deepest b.deepest) 0 rail_power);
  wake = capped ((at a i).wake + (at b i).wake + cond (i == max a.deepest b.deepest) rail_energy 0);
  latency = max (at a i).latency (at b i).latency;
}

-- the deeper of the two deepest states is the deepest
abbrev pub joined_table : Table → Table → ℕ → ℕ → Table
joined_table a b rail_power rail_energy = record { deepest = max a.deepest b.deepest; row = joined_row a b rail_power rail_energy }

-- a half stands with the pair in its state, or in its own deepest if that is shallower
abbrev pub abreast : Table → Status → ℕ → Bool
abreast t s i = s.state == min i t.deepest

-- the deeper state, the lesser count, the parts of both a layer further down; settled if both are, and abreast
abbrev pub joined_status : Table → Status → Table → Status → Status
joined_status ta a tb b = record {
  state = max a.state b.state;
  held = min a.held b.held;
  parts = map layered (a.parts ++ b.parts);
  settled = a.settled && (b.settled && (abreast ta a (max a.state b.state) && abreast tb b (max a.state b.state)));
}
