use Rattle.std.proofs.Common.{◌∷◌, ◌++◌, None, ap, ◌∙◌, lit<}
use Rattle.std.proofs.lemmas.Str.Pattern.{split_after, split_parts}
use Rattle.plan.specs.Text.{Cut, Number}
use Rattle.plan.proofs.Words.{refused}
use Rattle.plan.proofs.row_text.parse_row.Goals as goal
use Rattle.plan.proofs.row_text.parse_row.Goals.{In_ok-second, In_ok-power, In_ok-wake}

-- the three words
abbrev cut : (c : goal.In_ok-second) → Cut c.args.line.now
cut c =
    let a = split_parts 32 _ _ c.split_once.ensures.cases (lit< tt) in
    let b = split_parts 32 _ _ c.split_once-2.ensures.cases (lit< tt) in
    let parts = rw c.in_ok-first.ensures.ok_part at a in
    let rest_parts = rw c.in_ok-second.ensures.ok_part at b in
    record {
      first = c.in_ok-first.first.now;
      second = c.in_ok-second.second.now;
      third = c.in_ok-second.third.now;
      line_is = parts.0 ∙ ap (λ rest. c.in_ok-first.first.now ++ 32 ∷ rest) rest_parts.0;
      first_whole = parts.1;
      second_whole = rest_parts.1;
    }

-- the first word is a number
abbrev power : (c : goal.In_ok-power) → Number c.in_ok-first.first.now c.in_ok-power.power
power c = rw c.in_ok-power.ensures.ok_part at c.number.ensures

-- the second word is a number
abbrev wake : (c : goal.In_ok-wake) → Number c.in_ok-second.second.now c.in_ok-wake.wake
wake c = rw c.in_ok-wake.ensures.ok_part at c.number-2.ensures

pub returns-in_err-first : goal.returns-in_err-first
returns-in_err-first c =
    refused _ _ _ _ c.from_residual.ensures.1 c.in_err-first.ensures.value (λ none k.
    split_after 32 _ k.first (k.second ++ 32 ∷ k.third) None (rw none at c.split_once.ensures.cases) (lit< tt) k.line_is k.first_whole)

pub returns-in_err-second : goal.returns-in_err-second
returns-in_err-second c =
    refused _ _ _ _ c.from_residual-in_err-second.ensures.1 c.in_err-second.ensures.value (λ none k.
    let cut_at = split_after 32 _ k.first (k.second ++ 32 ∷ k.third) _ c.split_once.ensures.cases (lit< tt) k.line_is k.first_whole in
    let parts = rw c.in_ok-first.ensures.ok_part at cut_at in
    split_after 32 _ k.second k.third None (rw none at c.split_once-2.ensures.cases) (lit< tt) parts.1 k.second_whole)

pub returns-in_err-power : goal.returns-in_err-power
returns-in_err-power c =
    let words = cut (goal.at.returns-in_err-power c).In_ok-second in
    refused _ _ _ _ c.from_residual-in_err-power.ensures.1 c.in_err-power.ensures.value
    (λ none. (words, rw none at c.number.ensures))

pub returns-in_err-wake : goal.returns-in_err-wake
returns-in_err-wake c =
    let at = goal.at.returns-in_err-wake c in
    refused _ _ _ _ c.from_residual-in_err-wake.ensures.1 c.in_err-wake.ensures.value
    (λ none. (cut at.In_ok-second, (_, power at.In_ok-power), rw none at c.number-2.ensures))

pub returns-in_err-latency : goal.returns-in_err-latency
returns-in_err-latency c =
    let at = goal.at.returns-in_err-latency c in
    refused _ _ _ _ c.from_residual-in_err-latency.ensures.1 c.in_err-latency.ensures.value
    (λ none. (cut at.In_ok-second, (_, power at.In_ok-power), (_, wake at.In_ok-wake), rw none at c.number-3.ensures))

pub returns-clause-row : goal.returns-clause-row
returns-clause-row c =
    let at = goal.at.returns-clause-row c in
    let words = cut at.In_ok-second in
    record {
      power = words.first;
      wake = words.second;
      latency = words.third;
      line_is = words.line_is;
      power_is = power at.In_ok-power;
      wake_is = wake at.In_ok-wake;
      latency_is = rw c.in_ok-latency.ensures.ok_part at c.number-3.ensures;
    }
