-- The envelope state has least cost, and only it is the shallowest of those.
use Rattle.std.proofs.Common.{◌≡◌, ℕ, ◌<◌, List, length, get_or, sym, refl, ap, ◌∙◌, ap₂, inl, inr, arith}
use lib.ListN.{length-map}
use Rattle.std.proofs.lemmas.List.{get_or-map}
use Rattle.std.proofs.lemmas.Bool.{cases_lt}
use Rattle.states.specs.declared.row.Row.{Row}
use Rattle.states.specs.Table.{no_row, cost, cost_at}
use Rattle.states.specs.Envelope.{costs, least_cost, envelope_state, envelope_of, Envelope}
use Rattle.states.specs.Energy.{envelope_rule, FollowsLeast}
use Rattle.states.proofs.Rows.{row_at-get_or}
use Rattle.states.proofs.Minimum.{least_below, least_found}

costs_at : (rows : List Row) (n k : ℕ) → k < length rows → get_or (costs rows n) k 0 ≡ cost_at rows n k
costs_at rows n k h = get_or-map (λ row. cost row n) rows k no_row 0 h ∙ ap (λ r. cost r n) (sym (row_at-get_or rows k h))

pub envelope_is : (rows : List Row) (n : ℕ) → 0 < length rows → Envelope rows n (envelope_of rows n)
unfolding envelope_of
envelope_is rows n h =
    let long = length-map rows (λ row. cost row n) in
    let found = least_found (costs rows n) (omega (arith, long)) in
    let inside : envelope_state rows n < length rows = omega (arith, long, found.inside) in
    record {
      inside = inside;
      is = sym found.at ∙ costs_at rows n (envelope_state rows n) inside;
      least = λ k l. omega (arith, least_below (costs rows n) k (omega (arith, long)), costs_at rows n k l);
      shallowest = λ k l. elim (cases_lt (least_cost rows n) (cost_at rows n k)) [
        | inl m ↦ m
        | inr m ↦ absurd (found.first k l (omega (arith, least_below (costs rows n) k (omega (arith, long)), costs_at rows n k (omega arith))))
      ];
    }

-- there is one such state
pub envelope_one : (rows : List Row) (n : ℕ) (a b : ℕ × ℕ) → Envelope rows n a → Envelope rows n b → a ≡ b
envelope_one rows n a b p q =
    let level : a.1 ≡ b.1 = omega (arith, p.is, q.is, p.least b.0 q.inside, q.least a.0 p.inside) in
    let same : a.0 ≡ b.0 = elim (cases_lt a.0 b.0) [
      | inl l ↦ absurd (omega (arith, level, p.is, q.shallowest a.0 l))
      | inr l ↦ elim (cases_lt b.0 a.0) [ inl m ↦ absurd (omega (arith, level, q.is, p.shallowest b.0 m)) | inr m ↦ omega arith ]
    ] in
    ap₂ (λ s c. (s, c)) same level

pub rule_is : (rows : List Row) (n : ℕ) → envelope_rule rows n ≡ (envelope_of rows n).0
unfolding envelope_rule envelope_of
rule_is rows n = refl

pub rule_envelope : (rows : List Row) (n : ℕ) → 0 < length rows → Envelope rows n (envelope_rule rows n, cost_at rows n (envelope_rule rows n))
unfolding envelope_rule envelope_of
rule_envelope rows n h = let e = envelope_is rows n h in rw (← e.is) e

pub envelope_follows : (rows : List Row) → 0 < length rows → FollowsLeast rows (envelope_rule rows)
envelope_follows rows h n l = let e = rule_envelope rows n h in (e.inside, e.least)
