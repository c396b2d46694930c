-- The text of a fault.
use Rattle.std.specs.Prelude.{ℕ, List, ◌∷◌, ◌++◌, decimal}
use Rattle.devices.specs.declared.device.Fault.{Fault}

-- its five numbers with a space between each two
abbrev pub fault_words : Fault → List ℕ
fault_words f = decimal f.number ++ 32 ∷ decimal f.code ++ 32 ∷ decimal f.depth ++ 32 ∷ decimal f.«from» ++ 32 ∷ decimal f.to
