-- The least of a list and its first place.
use Rattle.std.proofs.Common.{◌≡◌, ℕ, zero, suc, ◌<◌, ◌≤◌, eqb, List, [], ◌∷◌, length, get_or, sym, refl, inl, inr, arith}
use Rattle.std.proofs.lemmas.Bool.{cases_lt, cond_both, eqb-true, eqb-false}
use Rattle.states.specs.Envelope.{least, place}

pub least_below : (xs : List ℕ) (k : ℕ) → k < length xs → least xs ≤ get_or xs k 0
least_below [] k h = absurd (omega arith)
least_below (x ∷ []) zero h = omega arith
least_below (x ∷ []) (suc k) h = absurd (omega arith)
least_below (x ∷ y ∷ ys) zero h = omega arith
least_below (x ∷ y ∷ ys) (suc k) h = omega (arith, least_below (y ∷ ys) k (omega arith))

-- it is one of them
abbrev Stands : List ℕ → ℕ → Type 0
Stands xs x = (k : ℕ) × (k < length xs) × (get_or xs k 0 ≡ x)

least_stands : (xs : List ℕ) → 0 < length xs → Stands xs (least xs)
least_stands [] h = absurd (omega arith)
least_stands (x ∷ []) h = (0, omega arith, refl)
least_stands (x ∷ y ∷ ys) h =
    let rest = least_stands (y ∷ ys) (omega arith) in
    elim (cases_lt (least (y ∷ ys)) x) [
      | inl l ↦ (suc rest.0, omega (arith, rest.1), omega (arith, rest.2))
      | inr l ↦ (0, omega arith, omega arith)
    ]

-- the first place of a number that stands in the list: it stands there, and nowhere before
pub record Found (x : ℕ) (xs : List ℕ) (p : ℕ) : Type 0 where
  pub inside : p < length xs
  pub at : get_or xs p 0 ≡ x
  pub first : (k : ℕ) → k < p → get_or xs k 0 ≡ x → ⊥

later : (x y : ℕ) (ys : List ℕ) → (x ≡ y → ⊥) → (k : ℕ) → k < suc (length ys) → get_or (y ∷ ys) k 0 ≡ x → Stands ys x
later x y ys other zero h e = absurd (other (sym e))
later x y ys other (suc k) h e = (k, omega arith, e)

found_later : (x y : ℕ) (ys : List ℕ) (p : ℕ) → (x ≡ y → ⊥) → Found x ys p → Found x (y ∷ ys) (suc p)
found_later x y ys p other f = record {
  inside = omega (arith, f.inside);
  at = f.at;
  first = before;
}
  where
    before : (k : ℕ) → k < suc p → get_or (y ∷ ys) k 0 ≡ x → ⊥
    before zero h e = other (sym e)
    before (suc k) h e = f.first k (omega arith) e

place_found : (x : ℕ) (xs : List ℕ) → Stands xs x → Found x xs (place x xs)
place_found x [] s = absurd (omega (arith, s.1))
place_found x (y ∷ ys) s =
    cond_both (eqb x y) 0 (suc (place x ys)) (Found x (y ∷ ys))
    (λ t. record { inside = omega arith; at = sym (eqb-true x y t); first = λ k h e. absurd (omega arith) })
    (λ t. found_later x y ys (place x ys) (eqb-false x y t) (place_found x ys (later x y ys (eqb-false x y t) s.0 s.1 s.2)))

pub least_found : (xs : List ℕ) → 0 < length xs → Found (least xs) xs (place (least xs) xs)
least_found xs h = place_found (least xs) xs (least_stands xs h)
