-- The tick at which a deeper state begins to cost less than the shallower ones.
use Rattle.std.proofs.Common.{◌≡◌, ℕ, ◌+◌, ◌-◌, ◌*◌, ◌/◌, ◌<◌, ◌≤◌, max, ◌↔◌, List, length, get_or, sym, ap, ◌∙◌, inl, inr, mul_comm, div-lt_iff_lt-mul, add-mul, arith}
use Rattle.states.specs.declared.row.Row.{Row}
use Rattle.std.proofs.lemmas.Bool.{cases_lt}
use Rattle.states.specs.Table.{no_row, cost, cost_at}
use Rattle.states.specs.Overtake.{Overtakes, Leads}
use Rattle.states.proofs.Rows.{row_at-get_or}

-- where the difference of the wake energies is e and that of the powers d
pub overtaken : (deeper above : Row) (r : ℕ) → deeper.power < above.power → above.wake ≤ deeper.wake → r ≡ (deeper.wake - above.wake) / (above.power - deeper.power) + 1 → Overtakes deeper above r
overtaken deeper above r p w is n =
    let d = above.power - deeper.power in
    let e = deeper.wake - above.wake in
    let split : above.power * n ≡ deeper.power * n + d * n = ap (λ (k : ℕ). k * n) {x = above.power} {y = deeper.power + d} (omega arith) ∙ add-mul deeper.power d n in
    let turn = mul_comm n d in
    let iff : (e / d < n) ↔ (e < n * d) = div-lt_iff_lt-mul (omega arith) in (
      (λ h. omega (arith, split, turn, iff.0 (omega arith))),
      (λ h. omega (arith, iff.1 (omega (arith, split, turn)))),
    )

module _ (rows : List Row) (i m : ℕ) (here : i < length rows) (there : m < length rows) where
  at_row : (k n : ℕ) → k < length rows → cost (get_or rows k no_row) n ≡ cost_at rows n k
  at_row k n h = ap (λ r. cost r n) (sym (row_at-get_or rows k h))

  -- one shallower state more
  pub leads_more : (a b r : ℕ) → Leads rows i m a → Overtakes (get_or rows i no_row) (get_or rows m no_row) b → r ≡ max a b → Leads rows i (m + 1) r
  leads_more a b r l o is n h = (
    (λ after j below. elim (cases_lt j m) [
      | inl q ↦ (l n h).0 (omega arith) j q
      | inr q ↦ (let same : j ≡ m = omega arith in rw same (omega (arith, (o n).0 (omega arith), at_row i n here, at_row m n there)))
    ]),
    (λ cheaper. omega (arith, (l n h).1 (λ j q. cheaper j (omega arith)), (o n).1 (omega (arith, cheaper m (omega arith), at_row i n here, at_row m n there)))),
  )

pub leads_none : (rows : List Row) (i : ℕ) → Leads rows i 0 1
leads_none rows i n h = ((λ after j below. absurd (omega arith)), (λ cheaper. omega arith))
