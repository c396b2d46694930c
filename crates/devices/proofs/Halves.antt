-- A joined pair that is free to move has both halves free to move, and both moves make the pair's.
use Rattle.std.proofs.Common.{◌≡◌, ℕ, ◌+◌, ◌≤◌, min, max, true, ◌&&◌, eqb, ◌++◌, map, None, sym, ap, ◌∙◌, inl, inr, ⊎_elim, arith}
use mathlib.Core.List.{map-append}
use Rattle.std.proofs.lemmas.Bool.{and_parts, and_from, eq-eqb, eqb-true}
use Rattle.states.specs.Table.{Table}
use Rattle.devices.specs.Meaning.{Status, fault_of, hold_refusal, wake_refusal, held, left, reported, coded, layered}
use Rattle.devices.specs.Pair.{joined_table, joined_status, abreast}
use Rattle.devices.proofs.Layers.{coded_layered, sound_below, sound_both}
use Rattle.devices.proofs.Bars.{Clear, hold_free, free_hold, wake_free, free_wake}

-- a half that is settled and abreast of the pair
record Level (t : Table) (s : Status) (m : ℕ) : Type 0 where
  stands : s.settled ≡ true
  level : s.state ≡ min m t.deepest

-- such a half goes down with the pair
half_hold : (t : Table) (s : Status) (m i : ℕ) → Level t s m → m ≤ i → Clear m i (fault_of s.parts) → hold_refusal t s (min i t.deepest) ≡ None
half_hold t s m i l down clear =
    let e = l.level in
    free_hold s.settled s.state t.deepest (fault_of s.parts) (min i t.deepest) (record {
      stands = l.stands;
      down = omega arith;
      inside = omega arith;
      clear = ⊎_elim (λ same. inl (omega arith)) inr clear;
    })

-- and wakes with it
half_wake : (t : Table) (s : Status) (m : ℕ) → Level t s m → Clear 0 m (fault_of s.parts) → wake_refusal s ≡ None
half_wake t s m l clear =
    let e = l.level in
    free_wake s.settled s.state (fault_of s.parts) l.stands (⊎_elim (λ zero. inl (omega arith)) inr clear)

-- neither the pair nor a half of it refuses to go down to state i
pub record BothFree (ta tb : Table) (a b : Status) (i : ℕ) : Type 0 where
  pub pair : hold_refusal (joined_table ta tb 0 0) (joined_status ta a tb b) i ≡ None
  pub first : hold_refusal ta a (min i ta.deepest) ≡ None
  pub second : hold_refusal tb b (min i tb.deepest) ≡ None
  pub inside : i ≤ max ta.deepest tb.deepest

-- neither the pair nor a half of it refuses to wake
pub record BothWaking (ta tb : Table) (a b : Status) : Type 0 where
  pub pair : wake_refusal (joined_status ta a tb b) ≡ None
  pub first : wake_refusal a ≡ None
  pub second : wake_refusal b ≡ None

-- halves with the same tables make the same table
pub table_of_halves : (p e : ℕ) {ta ta' tb tb' : Table} → ta' ≡ ta → tb' ≡ tb → joined_table ta' tb' p e ≡ joined_table ta tb p e
table_of_halves p e {ta} {ta'} {tb} {tb'} f g = ap (λ t. joined_table t tb' p e) f ∙ ap (λ t. joined_table ta t p e) g

-- and with the same status, the same status
status_of_halves : {ta ta' tb tb' : Table} {a a' b b' : Status} → ta' ≡ ta → tb' ≡ tb → a' ≡ a → b' ≡ b → joined_status ta' a' tb' b' ≡ joined_status ta a tb b
status_of_halves {ta} {ta'} {tb} {tb'} {a} {a'} {b} {b'} f g h k =
    ap (λ t. joined_status t a' tb' b') f ∙ (ap (λ t. joined_status ta a' t b') g ∙ (ap (λ s. joined_status ta s tb b') h ∙ ap (λ s. joined_status ta a tb s) k))

module _ (ta tb : Table) (a b : Status) where
  -- the state of the pair
  abbrev deeper : ℕ
  deeper = max a.state b.state

  -- the halves of a settled pair are abreast
  levels : (joined_status ta a tb b).settled ≡ true → Level ta a deeper × Level tb b deeper
  levels e =
      let p = and_parts a.settled _ e in
      let q = and_parts b.settled _ p.1 in
      let r = and_parts (abreast ta a deeper) _ q.1 in
      (record { stands = p.0; level = eqb-true a.state (min deeper ta.deepest) r.0 }, record { stands = q.0; level = eqb-true b.state (min deeper tb.deepest) r.1 })

  -- what is clear for the pair is clear for each half
  clears : (from to : ℕ) → Clear from to (fault_of (joined_status ta a tb b).parts) → Clear from to (fault_of a.parts) × Clear from to (fault_of b.parts)
  clears from to =
      ⊎_elim (λ e. (inl e, inl e)) (λ e. let both = sound_both a.parts b.parts (sound_below (a.parts ++ b.parts) e) in (inr both.0, inr both.1))

  -- a hold that the pair does not refuse is not refused by a half
  pub hold_halves : (i : ℕ) → hold_refusal (joined_table ta tb 0 0) (joined_status ta a tb b) i ≡ None → BothFree ta tb a b i
  hold_halves i h =
      let s = joined_status ta a tb b in
      let f = hold_free s.settled s.state (max ta.deepest tb.deepest) (fault_of s.parts) i h in
      let l = levels f.stands in
      let k = clears deeper i f.clear in
      record { pair = h; first = half_hold ta a deeper i l.0 f.down k.0; second = half_hold tb b deeper i l.1 f.down k.1; inside = f.inside }

  -- nor is such a wake-up
  pub wake_halves : wake_refusal (joined_status ta a tb b) ≡ None → BothWaking ta tb a b
  wake_halves h =
      let s = joined_status ta a tb b in
      let f = wake_free s.settled s.state (fault_of s.parts) h in
      let l = levels f.0 in
      let k = clears 0 deeper f.1 in
      record { pair = h; first = half_wake ta a deeper l.0 k.0; second = half_wake tb b deeper l.1 k.1 }

  -- the halves held make the pair held
  held_pair : (i : ℕ) → i ≤ max ta.deepest tb.deepest → joined_status ta (held a (min i ta.deepest)) tb (held b (min i tb.deepest)) ≡ held (joined_status ta a tb b) i
  held_pair i h =
      let x = min i ta.deepest in
      let y = min i tb.deepest in
      let state : max x y ≡ i = omega arith in
      let count : min (min (a.held + 1) 4294967295) (min (b.held + 1) 4294967295) ≡ min (min a.held b.held + 1) 4294967295 = omega arith in
      let settled : (eqb x (min (max x y) ta.deepest) && eqb y (min (max x y) tb.deepest)) ≡ true = and_from (eqb x (min (max x y) ta.deepest)) _ (eq-eqb x _ (omega arith)) (eq-eqb y _ (omega arith)) in
      cc

  -- what the halves' holds leave is what the pair's leaves
  pub held_together : (i : ℕ) {x y : ℕ} {ta' tb' : Table} {a' b' : Status} → BothFree ta tb a b i → x ≡ min i ta.deepest → y ≡ min i tb.deepest → ta' ≡ ta → tb' ≡ tb → a' ≡ left (hold_refusal ta a x) a (held a x) → b' ≡ left (hold_refusal tb b y) b (held b y) → joined_status ta' a' tb' b' ≡ left (hold_refusal (joined_table ta tb 0 0) (joined_status ta a tb b) i) (joined_status ta a tb b) (held (joined_status ta a tb b) i)
  held_together i f ex ey same_a same_b after_a after_b =
      let s = joined_status ta a tb b in
      let down_a = after_a ∙ (ap (λ k. left (hold_refusal ta a k) a (held a k)) ex ∙ ap (λ o. left o a (held a (min i ta.deepest))) f.first) in
      let down_b = after_b ∙ (ap (λ k. left (hold_refusal tb b k) b (held b k)) ey ∙ ap (λ o. left o b (held b (min i tb.deepest))) f.second) in
      status_of_halves same_a same_b down_a down_b ∙ (held_pair i f.inside ∙ sym (ap (λ o. left o s (held s i)) f.pair))

  -- and for a report
  pub reported_together : (n c : ℕ) {ta' tb' : Table} {a' b' : Status} → ta' ≡ ta → tb' ≡ tb → a' ≡ reported a n c → b' ≡ reported b n c → joined_status ta' a' tb' b' ≡ reported (joined_status ta a tb b) n c
  reported_together n c same_a same_b after_a after_b =
      let parts = ap (map layered) (sym (map-append (coded n c) a.parts b.parts)) ∙ sym (coded_layered n c (a.parts ++ b.parts)) in
      let both : joined_status ta (reported a n c) tb (reported b n c) ≡ reported (joined_status ta a tb b) n c = cc in
      status_of_halves same_a same_b after_a after_b ∙ both
