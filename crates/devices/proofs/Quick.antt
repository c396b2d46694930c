-- The deepest state that a limit shows is the one that the law in words tells.
use Rattle.std.proofs.Common.{◌≡◌, ℕ, zero, suc, ◌+◌, ◌<◌, ◌≤◌, true, inl, inr, sym, refl, ◌∙◌, subst, ⊎_elim, add-one, arith}
use Rattle.std.proofs.lemmas.Bool.{and_parts, and_from, le-leb, leb-true, cond-true, cond-false, cond_both, cases_lt, cases_Bool}
use Rattle.std.specs.Option.{unwrap_or}
use Rattle.std.specs.Prelude.{Option, None, Some, MatchOption}
use Rattle.states.specs.Table.{Table, at}
use Rattle.devices.specs.Limit.{all_quick, largest_quick, shown_deepest, ShownInWords}

module _ (t : Table) (limit : ℕ) where
  -- the states 1 to n are quick
  abbrev Quick : ℕ → Type 0
  Quick n = (i : ℕ) → 1 ≤ i → i ≤ n → (at t i).latency ≤ limit

  -- the test says so
  quick_all : (n : ℕ) → Quick n → all_quick t limit n ≡ true
  unfolding all_quick
  quick_all zero q = refl
  quick_all (suc n) q =
      and_from (all_quick t limit n) _ (quick_all n (λ i low high. q i low (omega arith))) (le-leb (at t (suc n)).latency limit (q (suc n) (omega arith) (omega arith)))

  -- and only then
  all_each : (n : ℕ) → all_quick t limit n ≡ true → Quick n
  unfolding all_quick
  all_each zero e i low high = absurd (omega arith)
  all_each (suc n) e i low high =
      let p = and_parts (all_quick t limit n) _ e in
      ⊎_elim (λ less. all_each n p.0 i low (omega arith))
      (λ more. let here : suc n ≡ i = omega arith in subst (λ k. (at t k).latency ≤ limit) here (leb-true (at t (suc n)).latency limit p.1))
      (cases_lt i (suc n))

  -- where each state after one before n is quick, those to n are
  before : (n : ℕ) → ((k : ℕ) → k < n → (at t (k + 1)).latency ≤ limit) → Quick n
  before n q zero low high = absurd (omega arith)
  before n q (suc k) low high = let next : (at t (k + 1)).latency ≤ limit = q k (omega arith) in rw add-one at next

  -- where all up to n are quick, n is the largest
  largest_here : (n : ℕ) → Quick n → largest_quick t limit n ≡ n
  unfolding largest_quick
  largest_here zero q = refl
  largest_here (suc n) q = cond-true (all_quick t limit (suc n)) (suc n) _ (quick_all (suc n) q)

  -- where the state after d is slow, d is
  largest_before : (d : ℕ) → Quick d → limit < (at t (suc d)).latency → (n : ℕ) → d ≤ n → largest_quick t limit n ≡ d
  unfolding largest_quick
  largest_before d q slow zero h = omega arith
  largest_before d q slow (suc n) h =
      ⊎_elim
      (λ less. ⊎_elim
      (λ e. absurd (omega (arith, all_each (suc n) e (suc d) (omega arith) (omega arith))))
      (λ e. cond-false (all_quick t limit (suc n)) (suc n) _ e ∙ largest_before d q slow n (omega arith))
      (cases_Bool (all_quick t limit (suc n))))
      (λ more. let here : suc n ≡ d = omega arith in largest_here (suc n) (λ i low high. q i low (omega arith)) ∙ here)
      (cases_lt d (suc n))

  -- the law in words tells one state alone
  pub the_deepest : (d : ℕ) → ShownInWords t limit d → d ≡ shown_deepest t limit
  the_deepest d s =
      ⊎_elim
      (λ e. subst (λ n. d ≡ largest_quick t limit n) e (sym (largest_here d s.quick)))
      (λ slow. sym (largest_before d s.quick (rw add-one at slow) t.deepest s.within))
      s.last

  -- a state found as the first whose next is slow, or else the deepest of all, is that one
  pub first_slow : (n : ℕ) → n ≡ t.deepest → (r : Option ℕ)
      → MatchOption r ((k : ℕ) → 0 ≤ k → k < n → (at t (k + 1)).latency ≤ limit) (λ d. (0 ≤ d) × (d < n) × (limit < (at t (d + 1)).latency) × ((k : ℕ) → 0 ≤ k → k < d → (at t (k + 1)).latency ≤ limit))
      → ShownInWords t limit (unwrap_or r n)
  first_slow n e None q = record { within = omega (arith, e); quick = before n (λ k less. q k (omega arith) less); last = inl e }
  first_slow n e (Some d) (low, less, slow, q) = record { within = omega (arith, e); quick = before d (λ k below. q k (omega arith) below); last = inr slow }

  -- the largest up to n is at most n
  largest_within : (n : ℕ) → largest_quick t limit n ≤ n
  unfolding largest_quick
  largest_within zero = omega arith
  largest_within (suc n) =
      cond_both (all_quick t limit (suc n)) (suc n) (largest_quick t limit n) (λ d. d ≤ suc n) (λ _. omega arith) (λ _. omega (arith, largest_within n))

  -- nothing is shown beyond the lower device's deepest state
  pub shown_within : shown_deepest t limit ≤ t.deepest
  shown_within = largest_within t.deepest
