-- When a settled device refuses.
use Rattle.std.proofs.Common.{◌≡◌, ℕ, ◌≤◌, true, cond, not, ◌||◌, eqb, ltb, List, [], ◌∷◌, Some, None, Option, ◌∙◌}
use Rattle.std.proofs.lemmas.Bool.{cond-true, cond-false, cond_both, le-ltb, eq-eqb, or_from, not_from_true}
use Rattle.devices.specs.declared.device.Part.{Part}
use Rattle.states.specs.Table.{Table}
use Rattle.devices.specs.Meaning.{Status, Refused, plain, fault_of, jam_between, hold_refusal, wake_refusal}

-- no refusal, or 43
pub data FreeOrJammed : Option Refused → Type 0 where
  free : FreeOrJammed None
  jammed : (names : List ℕ) → FreeOrJammed (Some (record { number = 43; names = names }))

jam_cases : (s : Status) (to : ℕ) (p : Option Part) → FreeOrJammed (jam_between s.state to p)
jam_cases s to None = free
jam_cases s to (Some p) = jammed (p.number ∷ p.code ∷ p.depth ∷ s.state ∷ to ∷ [])

module _ (s : Status) (h : s.settled ≡ true) where
  settled_past : (x y : Option Refused) → cond (not s.settled) x y ≡ y
  settled_past x y = cond-false (not s.settled) x y (not_from_true s.settled h)

module _ (t : Table) (s : Status) (i : ℕ) (h : s.settled ≡ true) (l : s.state ≤ i) (m : i ≤ t.deepest) where
  -- settled and in range, only a fault is left
  hold_past : hold_refusal t s i ≡ cond (eqb i s.state) None (jam_between s.state i (fault_of s.parts))
  hold_past =
      settled_past s h (Some (plain 41)) _
      ∙ cond-false (ltb i s.state || ltb t.deepest i) (Some (plain 42)) _ (or_from (ltb i s.state) (ltb t.deepest i) (le-ltb i s.state l) (le-ltb t.deepest i m))

  pub hold_cases : FreeOrJammed (hold_refusal t s i)
  hold_cases =
      rw hold_past (cond_both (eqb i s.state) None (jam_between s.state i (fault_of s.parts)) FreeOrJammed (λ _. free) (λ _. jam_cases s i (fault_of s.parts)))

  -- to stay is never refused
  pub stay : i ≡ s.state → hold_refusal t s i ≡ None
  stay e = hold_past ∙ cond-true (eqb i s.state) None (jam_between s.state i (fault_of s.parts)) (eq-eqb i s.state e)

pub wake_cases : (s : Status) → s.settled ≡ true → FreeOrJammed (wake_refusal s)
wake_cases s h =
    rw (settled_past s h) (cond_both (eqb s.state 0) None (jam_between s.state 0 (fault_of s.parts)) FreeOrJammed (λ _. free) (λ _. jam_cases s 0 (fault_of s.parts)))
