-- When a hold or a wake-up is not barred.
use Rattle.std.proofs.Common.{◌≡◌, ℕ, ◌≤◌, Bool, true, not, ◌||◌, eqb, ltb, ◌⊎◌, Some, None, Ok, Err, Option, sym, refl, ap, ◌∙◌, inl, inr, ⊎_elim, arith}
use Rattle.std.proofs.lemmas.Bool.{cond-true, cond-false, cond_both, le-ltb, eq-eqb, eqb-true, ltb-false, or_from, or_parts, not_from_true, not-false}
use Rattle.states.specs.Table.{Table, at}
use Rattle.devices.specs.declared.device.Part.{Part}
use Rattle.devices.specs.Meaning.{Status, Refused, plain, reply, jam_between, hold_bar, wake_bar, hold_refusal, wake_refusal}

-- no fault, or no move
abbrev pub Clear : ℕ → ℕ → Option Part → Type 0
Clear from to fault = (to ≡ from) ⊎ (fault ≡ None)

-- a hold that nothing bars
pub record Free (settled : Bool) (state deepest : ℕ) (fault : Option Part) (i : ℕ) : Type 0 where
  pub stands : settled ≡ true
  pub down : state ≤ i
  pub inside : i ≤ deepest
  pub clear : Clear state i fault

-- a fault jams every move
unjammed : (from to : ℕ) (fault : Option Part) → jam_between from to fault ≡ None → fault ≡ None
unjammed from to None e = refl
unjammed from to (Some p) e = absurd (grind arith)

-- no fault jams none
clear_move : (from to : ℕ) (fault : Option Part) → fault ≡ None → jam_between from to fault ≡ None
clear_move from to fault e = ap (jam_between from to) e

-- a hold that is not barred is free
pub hold_free : (settled : Bool) (state deepest : ℕ) (fault : Option Part) (i : ℕ) → hold_bar settled state deepest fault i ≡ None → Free settled state deepest fault i
hold_free settled state deepest fault i =
    let P : Option Refused → Type 0 = λ o. o ≡ None → Free settled state deepest fault i in
    cond_both (not settled) (Some (plain 41)) _ P (λ _ e. absurd (grind arith))
    (λ h. cond_both (ltb i state || ltb deepest i) (Some (plain 42)) _ P (λ _ e. absurd (grind arith))
    (λ k.
    let out = or_parts (ltb i state) (ltb deepest i) k in
    let down = ltb-false i state out.0 in
    let inside = ltb-false deepest i out.1 in
    cond_both (eqb i state) None (jam_between state i fault) P
    (λ m _. record { stands = not-false settled h; down = down; inside = inside; clear = inl (eqb-true i state m) })
    (λ _ e. record { stands = not-false settled h; down = down; inside = inside; clear = inr (unjammed state i fault e) })))

-- and one that is free is not barred
pub free_hold : (settled : Bool) (state deepest : ℕ) (fault : Option Part) (i : ℕ) → Free settled state deepest fault i → hold_bar settled state deepest fault i ≡ None
free_hold settled state deepest fault i f =
    cond-false (not settled) (Some (plain 41)) _ (not_from_true settled f.stands)
    ∙ (cond-false (ltb i state || ltb deepest i) (Some (plain 42)) _ (or_from (ltb i state) (ltb deepest i) (le-ltb i state f.down) (le-ltb deepest i f.inside))
    ∙ ⊎_elim
    (λ e. cond-true (eqb i state) None _ (eq-eqb i state e))
    (λ e. cond_both (eqb i state) None (jam_between state i fault) (λ o. o ≡ None) (λ _. refl) (λ _. clear_move state i fault e))
    f.clear)

-- a wake-up that is not barred is of a settled device, and clear
pub wake_free : (settled : Bool) (state : ℕ) (fault : Option Part) → wake_bar settled state fault ≡ None → (settled ≡ true) × Clear 0 state fault
wake_free settled state fault =
    let P : Option Refused → Type 0 = λ o. o ≡ None → (settled ≡ true) × Clear 0 state fault in
    cond_both (not settled) (Some (plain 41)) _ P (λ _ e. absurd (grind arith))
    (λ h. cond_both (eqb state 0) None (jam_between state 0 fault) P (λ m _. (not-false settled h, inl (eqb-true state 0 m))) (λ _ e. (not-false settled h, inr (unjammed state 0 fault e))))

-- and such a wake-up is not barred
pub free_wake : (settled : Bool) (state : ℕ) (fault : Option Part) → settled ≡ true → Clear 0 state fault → wake_bar settled state fault ≡ None
free_wake settled state fault h f =
    cond-false (not settled) (Some (plain 41)) _ (not_from_true settled h)
    ∙ ⊎_elim
    (λ e. cond-true (eqb state 0) None _ (eq-eqb state 0 e))
    (λ e. cond_both (eqb state 0) None (jam_between state 0 fault) (λ o. o ≡ None) (λ _. refl) (λ _. clear_move state 0 fault e))
    f

-- a command that nothing bars is not refused
never_refused : (r : Refused) (bar : Option Refused) (energy : ℕ) → bar ≡ None → Err r ≡ reply bar energy → ⊥
never_refused r bar energy f e = let both : Err r ≡ Ok energy = e ∙ ap (λ o. reply o energy) f in grind arith

-- so for a hold
pub hold_never : (t : Table) (s : Status) {i j : ℕ} {r : Refused} → i ≡ j → hold_refusal t s j ≡ None → Err r ≡ reply (hold_refusal t s i) (at t i).power → ⊥
hold_never t s {i} {j} {r} e f = never_refused r (hold_refusal t s i) (at t i).power (ap (hold_refusal t s) e ∙ f)

-- so for a wake-up
pub wake_never : (t : Table) (s : Status) {r : Refused} → wake_refusal s ≡ None → Err r ≡ reply (wake_refusal s) (at t s.state).wake → ⊥
wake_never t s {r} = never_refused r (wake_refusal s) (at t s.state).wake

-- a command that nothing bars answers its energy
pub free_answer : {bar : Option Refused} {n energy : ℕ} → bar ≡ None → n ≡ energy → Ok n ≡ reply bar energy
free_answer {bar} {n} {energy} f e = ap Ok e ∙ sym (ap (λ o. reply o energy) f)
