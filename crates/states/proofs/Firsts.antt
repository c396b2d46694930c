-- The first tick of a state: where it overtakes the last of the shallower ones, if it is the envelope state there.
use Rattle.std.proofs.Common.{◌≡◌, ℕ, zero, suc, ◌+◌, ◌-◌, ◌*◌, ◌<◌, ◌≤◌, eqb, List, length, Some, None, Option, sym, refl, ap, ◌∙◌, inl, inr, mul-le-mul_right, suc-mul, mul-add, arith, MatchOption}
use Rattle.std.proofs.lemmas.Bool.{cases_lt, cond_both, eqb-true, eqb-false}
use Rattle.states.specs.declared.row.Row.{Row}
use Rattle.states.specs.Table.{power_at, wake_at, cost_at}
use Rattle.states.specs.Envelope.{Envelope}
use Rattle.states.specs.Energy.{envelope_rule}
use Rattle.states.specs.Ticks.{IsFirst, IsNever, FirstTick, first_from, first_tick}
use Rattle.states.specs.Fit.{Fit}
use Rattle.states.specs.Overtake.{Leads}
use Rattle.states.proofs.Least.{rule_envelope, envelope_one}
use Rattle.states.proofs.Shape.{shape}

-- state i is not the envelope state at any tick before n
abbrev NotBefore : List Row → ℕ → ℕ → Type 0
NotBefore rows i n = (k : ℕ) → 0 < k → k < n → envelope_rule rows k ≡ i → ⊥

from_is_right : (rows : List Row) (i more n top : ℕ) → 0 < n → top ≡ n + more → NotBefore rows i n → MatchOption (first_from rows i n more) (NotBefore rows i top) (IsFirst rows i)
from_is_right rows i zero n top h e none = λ k l m. none k l (omega arith)
from_is_right rows i (suc more) n top h e none =
    cond_both (eqb (envelope_rule rows n) i) (Some n) (first_from rows i (suc n) more) (λ o. MatchOption o (NotBefore rows i top) (IsFirst rows i))
    (λ t. (h, eqb-true (envelope_rule rows n) i t, none))
    (λ t. from_is_right rows i more (suc n) top (omega arith) (omega arith)
    (λ k l m same. elim (cases_lt k n) [
      | inl b ↦ none k l b same
      | inr b ↦ (let at : k ≡ n = omega arith in eqb-false (envelope_rule rows n) i t (ap (envelope_rule rows) (sym at) ∙ same))
    ]))

-- past the deepest state's wake energy the envelope state is the deepest
deepest_at_last : (rows : List Row) → Fit rows → (n : ℕ) → wake_at rows (length rows - 1) < n → envelope_rule rows n ≡ length rows - 1
deepest_at_last rows fit n h =
    let s = shape rows fit in
    let last = length rows - 1 in
    let a = envelope_rule rows n in
    let e = rule_envelope rows n s.some in
    elim (cases_lt a last) [
      | inl b ↦ absurd (omega (arith, e.least last (omega (arith, s.some)), suc-mul (power_at rows last) n, mul-le-mul_right n (s.falls a last b (omega (arith, s.some)))))
      | inr b ↦ omega (arith, e.inside)
    ]

never_from : (rows : List Row) → Fit rows → (i : ℕ) → NotBefore rows i (suc (suc (wake_at rows (length rows - 1)))) → IsNever rows i
never_from rows fit i none n h same =
    let w = wake_at rows (length rows - 1) in
    elim (cases_lt n (suc (suc w))) [
      | inl b ↦ none n h b same
      | inr b ↦ none (suc w) (omega arith) (omega arith) (deepest_at_last rows fit (suc w) (omega arith) ∙ sym (deepest_at_last rows fit n (omega arith)) ∙ same)
    ]

cases_map : {X : Type 0} (o : Option X) (P Q : Type 0) (R : X → Type 0) → (P → Q) → MatchOption o P R → MatchOption o Q R
cases_map None P Q R f h = f h
cases_map (Some x) P Q R f h = h

pub first_tick_is_right : (rows : List Row) → Fit rows → (i : ℕ) → FirstTick rows i (first_tick rows i)
unfolding first_tick
first_tick_is_right rows fit i =
    let w = wake_at rows (length rows - 1) in
    cases_map (first_from rows i 1 (suc w)) (NotBefore rows i (suc (suc w))) (IsNever rows i) (IsFirst rows i) (never_from rows fit i)
    (from_is_right rows i (suc w) 1 (suc (suc w)) (omega arith) (omega arith) (λ k l m. absurd (omega arith)))

-- there is one answer
pub first_tick_one : (rows : List Row) (i : ℕ) (a b : Option ℕ) → FirstTick rows i a → FirstTick rows i b → a ≡ b
first_tick_one rows i None None p q = refl
first_tick_one rows i None (Some n) p q = absurd (p n q.0 q.1)
first_tick_one rows i (Some m) None p q = absurd (q m p.0 p.1)
first_tick_one rows i (Some m) (Some n) p q =
    elim (cases_lt m n) [
      | inl l ↦ absurd (q.2 m p.0 l p.1)
      | inr l ↦ elim (cases_lt n m) [ inl k ↦ absurd (p.2 n q.0 k q.1) | inr k ↦ ap (λ (x : ℕ). Some x) (omega arith) ]
    ]

-- where a state is the envelope state at some tick, it is so at the tick from which on it leads
leads_first : (rows : List Row) → Fit rows → (i r n : ℕ) → 0 < r → Leads rows i i r → 0 < n → envelope_rule rows n ≡ i → (r ≤ n) × (envelope_rule rows r ≡ i)
leads_first rows fit i r n p leads h same =
    let s = shape rows fit in
    let e = rule_envelope rows n s.some in
    let after : r ≤ n = (leads n h).1 (λ j l. let k : j < envelope_rule rows n = omega arith in omega (arith, e.shallowest j k, ap (cost_at rows n) same)) in
    let inside : i < length rows = omega (arith, e.inside) in
    let level : Envelope rows r (i, cost_at rows r i) = record {
      inside = inside;
      is = refl;
      least = λ k l. elim (cases_lt k i) [
        | inl above ↦ omega (arith, (leads r p).0 (omega arith) k above)
        | inr below ↦ (
            let d = n - r in
            let long : n ≡ r + d = omega arith in
            let x = power_at rows i in
            let y = power_at rows k in
            let ex : x * n ≡ x * r + x * d = ap (λ (m : ℕ). x * m) long ∙ mul-add x r d in
            let ey : y * n ≡ y * r + y * d = ap (λ (m : ℕ). y * m) long ∙ mul-add y r d in
            omega (arith, e.least k l, ap (cost_at rows n) same, mul-le-mul_right d (s.sinks i k below)))
      ];
      shallowest = λ k l. (leads r p).0 (omega arith) k l;
    } in
    (after, ap (λ (b : ℕ × ℕ). b.0) (envelope_one rows r _ _ (rule_envelope rows r s.some) level))

pub first_at_lead : (rows : List Row) → Fit rows → (i r : ℕ) → 0 < r → Leads rows i i r → envelope_rule rows r ≡ i → IsFirst rows i r
first_at_lead rows fit i r p leads at = (p, at, λ k h l same. let q = leads_first rows fit i r k p leads h same in absurd (omega (arith, q.0)))

pub never_past_lead : (rows : List Row) → Fit rows → (i r : ℕ) → 0 < r → Leads rows i i r → (envelope_rule rows r ≡ i → ⊥) → IsNever rows i
never_past_lead rows fit i r p leads not n h same = not (leads_first rows fit i r n p leads h same).1
