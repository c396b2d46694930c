-- The loop of the search: the best of the rows so far.
use Rattle.std.proofs.Common.{◌≡◌, ℕ, ◌+◌, ◌-◌, ◌<◌, ◌≤◌, List, length, get_or, sym, ap, ◌∙◌, inl, inr, arith}
use Rattle.std.proofs.lemmas.Bool.{cases_lt}
use Rattle.states.specs.declared.row.Row.{Row}
use Rattle.states.specs.Table.{no_row, cost, cost_at}
use Rattle.states.specs.Envelope.{Envelope}
use Rattle.states.specs.Overtake.{DeepestFrom}
use Rattle.states.proofs.Rows.{row_at-get_or}

-- a state at its cost: none of the first i states costs less, and each shallower one costs more
pub record Best (rows : List Row) (n i state least : ℕ) : Type 0 where
  pub inside : state < length rows
  pub is : least ≡ cost_at rows n state
  pub none_less : (k : ℕ) → k < i → least ≤ cost_at rows n k
  pub shallowest : (k : ℕ) → k < state → least < cost_at rows n k

module _ (rows : List Row) (n : ℕ) where
  cost_is : (i c : ℕ) → i < length rows → c ≡ cost (get_or rows i no_row) n → c ≡ cost_at rows n i
  cost_is i c h e = e ∙ ap (λ r. cost r n) (sym (row_at-get_or rows i h))

  pub best_none : (c : ℕ) → 0 < length rows → c ≡ cost (get_or rows 0 no_row) n → Best rows n 0 0 c
  best_none c h e = record { inside = h; is = cost_is 0 c h e; none_less = λ k l. absurd (omega arith); shallowest = λ k l. absurd (omega arith) }

  pub best_takes : (i c state least : ℕ) → Best rows n i state least → i < length rows → c ≡ cost (get_or rows i no_row) n → c < least → Best rows n (i + 1) i c
  best_takes i c state least b h e l =
      let is = cost_is i c h e in
      record {
        inside = h;
        is = is;
        none_less = λ k m. elim (cases_lt k i) [ inl q ↦ omega (arith, b.none_less k q) | inr q ↦ (let same : k ≡ i = omega arith in rw same (omega arith)) ];
        shallowest = λ k m. omega (arith, b.none_less k m);
      }

  pub best_keeps : (i c state least : ℕ) → Best rows n i state least → i < length rows → c ≡ cost (get_or rows i no_row) n → least ≤ c → Best rows n (i + 1) state least
  best_keeps i c state least b h e l =
      let is = cost_is i c h e in
      record {
        inside = b.inside;
        is = b.is;
        none_less = λ k m. elim (cases_lt k i) [ inl q ↦ b.none_less k q | inr q ↦ (let same : k ≡ i = omega arith in rw same (omega arith)) ];
        shallowest = b.shallowest;
      }

  pub best_all : (i state least : ℕ) → Best rows n i state least → length rows ≤ i → Envelope rows n (state, least)
  best_all i state least b h = record { inside = b.inside; is = b.is; least = λ k l. b.none_less k (omega arith); shallowest = b.shallowest }

  -- from the tick on from which the deepest state costs less than each other, it is what the search finds
  pub deepest_found : (r c : ℕ) → 0 < length rows → DeepestFrom rows r → r ≤ n → c ≡ cost (get_or rows (length rows - 1) no_row) n → Envelope rows n (length rows - 1, c)
  deepest_found r c some leads late e =
      let last = length rows - 1 in
      let is = cost_is last c (omega arith) e in
      record {
        inside = omega arith;
        is = is;
        least = λ k l. elim (cases_lt k last) [ inl q ↦ omega (arith, leads n k late q) | inr q ↦ (let same : k ≡ last = omega arith in rw same (omega arith)) ];
        shallowest = λ k q. omega (arith, leads n k late q);
      }
