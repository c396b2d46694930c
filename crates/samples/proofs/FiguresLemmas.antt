-- Lists filled from the front.
use Rattle.std.proofs.Common.{◌≡◌, ℕ, ◌+◌, ◌<◌, List, length, get_or, set, arith}
use Rattle.std.proofs.lemmas.List.{get_or-set_other}
use Rattle.std.proofs.lemmas.Grind.{get_or-set_at}

-- a list whose first elements are those of f has one more of them after the next is written
pub get_or-set_next : {A : Type 0} → (f : ℕ → A) (xs : List A) (i k : ℕ) (d : A) → i < length xs → ((j : ℕ) (e : A) → j < i → get_or xs j e ≡ f j) → k < i + 1 → get_or (set xs i (f i)) k d ≡ f k
get_or-set_next f xs i k d within before low = grind (arith, get_or-set_at, get_or-set_other, before k d)
