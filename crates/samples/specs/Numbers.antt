-- The numbers of a xorshift generator.
use Rattle.std.specs.Prelude.{ℕ, zero, suc, ◌*◌, ◌/◌, ◌%◌, ◌^◌, bit_xor}

-- the state after a state: shifted and mixed by 13, 7 and 17 bits
abbrev pub stepped : ℕ → ℕ
stepped x = right (bit_xor x (x * 2 ^ 13 % 2 ^ 64))
  where
    left : ℕ → ℕ
    left y = bit_xor y (y * 2 ^ 17 % 2 ^ 64)

    right : ℕ → ℕ
    right y = left (bit_xor y (y / 2 ^ 7))

-- what is given out of a state: all but its lower 11 bits
abbrev pub bits_of : ℕ → ℕ
bits_of x = x / 2 ^ 11

-- the lower 32 bits of that
abbrev pub word_of : ℕ → ℕ
word_of x = bits_of x % 2 ^ 32

-- a number brought below a bound; 0 for bound 0
abbrev pub remainder : ℕ → ℕ → ℕ
remainder n zero = 0
remainder n (suc bound) = n % suc bound
