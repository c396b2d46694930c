-- A limit that is free to move has its device free to move, and the device's move makes the limit's.
use Rattle.std.proofs.Common.{◌≡◌, ℕ, ◌≤◌, min, true, leb, None, Result, sym, ap, ◌∙◌, inl, inr, ⊎_elim, arith}
use Rattle.std.proofs.lemmas.Bool.{and_parts, le-leb, leb-true}
use Rattle.states.specs.Table.{Table, at}
use Rattle.devices.specs.Meaning.{Status, Refused, fault_of, hold_refusal, wake_refusal, held, woken, reply, left, reported}
use Rattle.devices.specs.Limit.{shown_deepest, limited_table, limited_status}
use Rattle.devices.proofs.Layers.{coded_layered, sound_below}
use Rattle.devices.proofs.Quick.{shown_within}
use Rattle.devices.proofs.Bars.{Clear, hold_free, free_hold, wake_free, free_wake}

module _ (t : Table) (s : Status) (limit : ℕ) where
  -- the deepest state that is shown
  abbrev shown : ℕ
  shown = shown_deepest t limit

  -- the status of the limit
  abbrev limited : Status
  limited = limited_status t s limit

  -- a fault is seen through the limit
  clear_below : (from to : ℕ) → Clear from to (fault_of limited.parts) → Clear from to (fault_of s.parts)
  clear_below from to = ⊎_elim inl (λ e. inr (sound_below s.parts e))

  -- a hold that the limit does not refuse is not refused below
  hold_below : (i : ℕ) → hold_refusal (limited_table t limit) limited i ≡ None → (hold_refusal t s i ≡ None) × (i ≤ shown)
  hold_below i h =
      let f = hold_free limited.settled s.state shown (fault_of limited.parts) i h in
      let within = shown_within t limit in
      (free_hold s.settled s.state t.deepest (fault_of s.parts) i (record { stands = (and_parts s.settled _ f.stands).0; down = f.down; inside = omega (arith, f.inside); clear = clear_below s.state i f.clear }), f.inside)

  -- nor is such a wake-up
  wake_below : wake_refusal limited ≡ None → (wake_refusal s ≡ None) × (s.state ≤ shown)
  wake_below h =
      let f = wake_free limited.settled s.state (fault_of limited.parts) h in
      let p = and_parts s.settled _ f.0 in
      (free_wake s.settled s.state (fault_of s.parts) p.0 (clear_below 0 s.state f.1), leb-true s.state shown p.1)

  -- a state that is shown is asked about below as it stands
  same_row : (i : ℕ) → i ≤ shown → at t i ≡ at (limited_table t limit) i
  same_row i h = let e : i ≡ min i shown = omega arith in ap (at t) e

  module _ (i : ℕ) (h : hold_refusal (limited_table t limit) limited i ≡ None) where
    -- the answer from below is the limit's
    pub hold_answer : {r : Result ℕ Refused} → r ≡ reply (hold_refusal t s i) (at t i).power → r ≡ reply (hold_refusal (limited_table t limit) limited i) (at (limited_table t limit) i).power
    hold_answer e =
        let f = hold_below i h in
        e ∙ (ap (λ o. reply o (at t i).power) f.0 ∙ (ap (λ r. reply None r.power) (same_row i f.1) ∙ sym (ap (λ o. reply o (at (limited_table t limit) i).power) h)))

    -- and what is left below is what the limit leaves
    pub hold_leaves : {t' : Table} {s' : Status} → t' ≡ t → s' ≡ left (hold_refusal t s i) s (held s i) → limited_status t' s' limit ≡ left (hold_refusal (limited_table t limit) limited i) limited (held limited i)
    hold_leaves {t'} {s'} same after =
        let f = hold_below i h in
        let settled : leb i shown ≡ true = le-leb i shown f.1 in
        let moved : limited_status t (held s i) limit ≡ held limited i = cc in
        ap (λ x. limited_status x s' limit) same ∙ (ap (λ x. limited_status t x limit) (after ∙ ap (λ o. left o s (held s i)) f.0) ∙ (moved ∙ sym (ap (λ o. left o limited (held limited i)) h)))

  module _ (h : wake_refusal limited ≡ None) where
    -- the same for a wake-up
    pub wake_answer : {r : Result ℕ Refused} → r ≡ reply (wake_refusal s) (at t s.state).wake → r ≡ reply (wake_refusal limited) (at (limited_table t limit) s.state).wake
    wake_answer e =
        let f = wake_below h in
        e ∙ (ap (λ o. reply o (at t s.state).wake) f.0 ∙ (ap (λ r. reply None r.wake) (same_row s.state f.1) ∙ sym (ap (λ o. reply o (at (limited_table t limit) s.state).wake) h)))

    pub wake_leaves : {t' : Table} {s' : Status} → t' ≡ t → s' ≡ left (wake_refusal s) s (woken s) → limited_status t' s' limit ≡ left (wake_refusal limited) limited (woken limited)
    wake_leaves {t'} {s'} same after =
        let f = wake_below h in
        let settled : leb 0 shown ≡ true = le-leb 0 shown (omega arith) in
        let moved : limited_status t (woken s) limit ≡ woken limited = cc in
        ap (λ x. limited_status x s' limit) same ∙ (ap (λ x. limited_status t x limit) (after ∙ ap (λ o. left o s (woken s)) f.0) ∙ (moved ∙ sym (ap (λ o. left o limited (woken limited)) h)))

  -- and for a report
  pub report_leaves : (n c : ℕ) {t' : Table} {s' : Status} → t' ≡ t → s' ≡ reported s n c → limited_status t' s' limit ≡ reported limited n c
  report_leaves n c {t'} {s'} same after =
      let parts = coded_layered n c s.parts in
      let told : limited_status t (reported s n c) limit ≡ reported limited n c = cc in
      ap (λ x. limited_status x s' limit) same ∙ (ap (λ x. limited_status t x limit) after ∙ told)
