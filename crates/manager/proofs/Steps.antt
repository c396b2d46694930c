-- Each call keeps what holds of an attached manager, and adds to the account what the laws say.
use Rattle.std.proofs.Common.{◌≡◌, ℕ, zero, suc, ◌+◌, ◌≤◌, Bool, true, false, cond, ◌&&◌, ◌||◌, eqb, leb, [], ◌∷◌, Some, None, Option, sym, refl, ap, ◌∙◌, ap₂, arith}
use Rattle.std.specs.List.{AllByRecursion}
use Rattle.std.proofs.lemmas.Bool.{cond_both, cond-true, cond-false, or_parts, both_ways}
use Rattle.states.specs.Fit.{Fit}
use Rattle.states.specs.Energy.{envelope_rule, floor_of, energy_of}
use Rattle.states.proofs.Sums.{powers}
use Rattle.states.proofs.Shape.{shape}
use Rattle.states.specs.Table.{Table, at, rows_of}
use Rattle.devices.specs.Meaning.{Status, Refused, plain, hold_refusal, held, bears}
use Rattle.manager.specs.declared.account.Account.{Account}
use Rattle.manager.specs.Charges.{open_charge, busy_charge}
use Rattle.manager.specs.Rules.{Condition, idle, busy, Managed, Call, tick, request, release, report, figures, refuse, idle_tick_by, waking, reporting, done}
use Rattle.manager.specs.Runs.{Gap, jams, clean_of}
use Rattle.manager.proofs.Sinking.{sunk, sunk_more, powers_more, power_is, wake_is, aim_within, aim_below}
use Rattle.manager.proofs.Devices.{FreeOrJammed, free, jammed, hold_cases, stay, wake_cases}
use Rattle.manager.proofs.Good.{at_work, gap, Idling, Working, Good, idling, working, floors, energies, Carries, Step}

or_false : (b : Bool) → b || false ≡ b
or_false true = refl
or_false false = refl

or_true : (b : Bool) → b || true ≡ true
or_true true = refl
or_true false = refl

-- a refusal that is not 31 leaves the gap as it is
same_gap : (t : Table) (m : Managed) (g : Gap) → Good t m g → Good t m (gap g.length (g.stuck || false) g.over)
same_gap t _ _ (idling number s a n stuck h) = idling number s a n (stuck || false) (record {
  settled = h.settled;
  length_is = h.length_is;
  stuck_is = or_false stuck ∙ h.stuck_is;
  shallow = h.shallow;
  clean_state = h.clean_state;
  clean_energy = h.clean_energy;
})
same_gap t _ _ (working number s a n stuck h) = working number s a n (stuck || false) h

module _ (t : Table) (number : ℕ) (s : Status) (c : Condition) (a : Account) (g : Gap) (h : Good t (at_work number t s c a) g) where
  quiet : (n : ℕ) → eqb n 31 ≡ false → (n ≡ 41 → ⊥) → (n ≡ 42 → ⊥) → Step t g s a (refuse (at_work number t s c a) (plain n))
  quiet n e x y = record {
    good = rw e (same_gap t (at_work number t s c a) g h);
    sums = omega arith;
    floored = omega arith;
    cleaned = omega arith;
    carried = tt;
    fine = ((x, y), tt);
  }

  shown_step : Step t g s a (done (at_work number t s c a) figures)
  shown_step = record { good = h; sums = omega arith; floored = omega arith; cleaned = omega arith; carried = tt; fine = (tt, tt) }

-- a gap that closes, as a reader finds it
module _ (t : Table) where
  -- what the closing of a gap adds
  record Closes (mark stuck : Bool) (n k energy : ℕ) : Type 0 where
    floored : (f : ℕ) → f + cond mark 0 (floor_of (rows_of t) n) ≡ f + floors t (clean_of (record { length = k; stuck = stuck; energy = energy } ∷ []))
    cleaned : (f : ℕ) → f + cond mark 0 energy ≡ f + energies (clean_of (record { length = k; stuck = stuck; energy = energy } ∷ []))
    carried : AllByRecursion (Carries t) (clean_of (record { length = k; stuck = stuck; energy = energy } ∷ []))
    sums : (x y z : ℕ) → (x + cond mark 0 energy) + (y + cond mark energy 0) + z + 0 ≡ x + y + z + energy

  close : (mark stuck : Bool) (n k energy : ℕ) → stuck ≡ mark → k ≡ n → (mark ≡ false → energy ≡ energy_of (rows_of t) n) → Closes mark stuck n k energy
  close true true n k energy e l h = record { floored = λ f. refl; cleaned = λ f. refl; carried = tt; sums = λ x y z. omega arith }
  close false false n k energy e l h = record {
    floored = λ f. omega (arith, ap (floor_of (rows_of t)) l);
    cleaned = λ f. omega arith;
    carried = (h refl ∙ ap (energy_of (rows_of t)) (sym l), tt);
    sums = λ x y z. omega arith;
  }
  close true false n k energy e l h = absurd (both_ways true (sym e) refl)
  close false true n k energy e l h = absurd (both_ways true e refl)

  carries : Fit (rows_of t) → (n state pending : ℕ) → state ≡ sunk (rows_of t) n → pending ≡ powers (rows_of t) n → pending + (at t state).wake ≡ energy_of (rows_of t) n
  carries fit zero state pending e p = omega (arith, ap (λ (i : ℕ). (at t i).wake) e, wake_is t 0, (shape (rows_of t) fit).start)
  carries fit (suc n) state pending e p = omega (arith, ap (λ (i : ℕ). (at t i).wake) e, wake_is t (envelope_rule (rows_of t) (suc n)))

module _ (t : Table) (fit : Fit (rows_of t)) (number : ℕ) (s : Status) (a : Account) (n : ℕ) (stuck : Bool) (h : Idling t s a n stuck) where
  stands : Good t (at_work number t s idle a) (gap n stuck false)
  stands = idling number s a n stuck h

  reaches : s.state ≤ envelope_rule (rows_of t) (a.length + 1)
  reaches = omega (arith, h.shallow, aim_below (rows_of t) fit a.length)

  -- the state that a reader wants of the next tick is the manager's aim
  aims : envelope_rule (rows_of t) (n + 1) ≡ envelope_rule (rows_of t) (a.length + 1)
  aims = ap (λ (k : ℕ). envelope_rule (rows_of t) (k + 1)) h.length_is

  read_jams : (move : Option Refused) → hold_refusal t s (envelope_rule (rows_of t) (a.length + 1)) ≡ move → jams (hold_refusal t s (envelope_rule (rows_of t) (n + 1))) ≡ jams move
  read_jams move e = ap (λ (k : ℕ). jams (hold_refusal t s k)) aims ∙ ap jams e

  follows_jams : (move : Option Refused) → hold_refusal t s (envelope_rule (rows_of t) (a.length + 1)) ≡ move → (stuck || jams (hold_refusal t s (envelope_rule (rows_of t) (n + 1)))) ≡ (a.mark || jams move)
  follows_jams move e = ap₂ (λ (x y : Bool). x || y) h.stuck_is (read_jams move e)

  tick_step : (move : Option Refused) → hold_refusal t s (envelope_rule (rows_of t) (a.length + 1)) ≡ move → FreeOrJammed move → Step t (gap n stuck false) s a (idle_tick_by (at_work number t s idle a) (envelope_rule (rows_of t) (a.length + 1)) move)
  tick_step None e free = rw e (record {
    good = idling number (held s (envelope_rule (rows_of t) (a.length + 1))) (open_charge a (envelope_rule (rows_of t) (a.length + 1)) (at t (envelope_rule (rows_of t) (a.length + 1))).power false) _ _ (record {
      settled = refl;
      length_is = ap (λ (k : ℕ). k + 1) h.length_is;
      stuck_is = follows_jams None e;
      shallow = omega (arith, sunk_more (rows_of t) a.length);
      clean_state = λ q. sym (sunk_more (rows_of t) a.length);
      clean_energy = λ q. omega (arith, powers_more (rows_of t) a.length, h.clean_energy (or_parts a.mark false q).0, power_is t (envelope_rule (rows_of t) (a.length + 1)));
    });
    sums = omega arith;
    floored = omega arith;
    cleaned = omega arith;
    carried = tt;
    fine = (tt, sym (cond-false _ s.state _ (read_jams None e) ∙ aims));
  })
  tick_step (Some r) e (jammed names) = rw (stay t s s.state h.settled (omega arith) (omega (arith, reaches, aim_within t (a.length + 1))) refl) (record {
    good = idling number (held s s.state) (open_charge a s.state (at t s.state).power true) _ _ (record {
      settled = refl;
      length_is = ap (λ (k : ℕ). k + 1) h.length_is;
      stuck_is = follows_jams (Some (record { number = 43; names = names })) e;
      shallow = omega (arith, sunk_more (rows_of t) a.length, reaches);
      clean_state = λ q. absurd (both_ways true (or_parts a.mark true q).1 refl);
      clean_energy = λ q. absurd (both_ways true (or_parts a.mark true q).1 refl);
    });
    sums = omega arith;
    floored = omega arith;
    cleaned = omega arith;
    carried = tt;
    fine = (tt, sym (cond-true _ s.state _ (read_jams (Some (record { number = 43; names = names })) e)));
  })

  wake_step : (refusal : Option Refused) → FreeOrJammed refusal → Step t (gap n stuck false) s a (waking (at_work number t s idle a) refusal)
  wake_step None free =
      let c = close t a.mark stuck a.length n (a.pending + (at t s.state).wake) h.stuck_is h.length_is (λ q. carries t fit a.length s.state a.pending (h.clean_state q) (h.clean_energy q)) in
      record {
        good = working number _ _ n stuck (record { settled = refl; awake = refl; pending = refl; length = refl; mark = refl });
        sums = omega (arith, c.sums a.clean a.stuck a.busy);
        floored = c.floored a.floor;
        cleaned = c.cleaned a.clean;
        carried = c.carried;
        fine = (tt, tt);
      }
  wake_step (Some r) (jammed names) = record {
    good = idling number s _ n _ (record {
      settled = h.settled;
      length_is = h.length_is;
      stuck_is = or_true stuck;
      shallow = h.shallow;
      clean_state = λ q. absurd (both_ways true q refl);
      clean_energy = λ q. absurd (both_ways true q refl);
    });
    sums = omega arith;
    floored = omega arith;
    cleaned = omega arith;
    carried = tt;
    fine = (((λ e. omega arith), (λ e. omega arith)), tt);
  }

  report_step : (code number' : ℕ) → Step t (gap n stuck false) s a (reporting (at_work number t s idle a) number' code)
  report_step code number' =
      cond_both (bears number' s.parts) _ _ (Step t (gap n stuck false) s a)
      (λ _. record {
        good = idling number _ a n stuck (record { settled = h.settled; length_is = h.length_is; stuck_is = h.stuck_is; shallow = h.shallow; clean_state = h.clean_state; clean_energy = h.clean_energy });
        sums = omega arith;
        floored = omega arith;
        cleaned = omega arith;
        carried = tt;
        fine = (tt, tt);
      })
      (λ _. quiet t number s idle a (gap n stuck false) stands 25 refl (λ e. omega arith) (λ e. omega arith))

  idle_step : (call : Call) → Step t (gap n stuck false) s a (done (at_work number t s idle a) call)
  idle_step tick =
      cond_both (leb 1000000 a.ticks) _ _ (Step t (gap n stuck false) s a)
      (λ _. quiet t number s idle a (gap n stuck false) stands 23 refl (λ e. omega arith) (λ e. omega arith))
      (λ _. tick_step _ refl (hold_cases t s (envelope_rule (rows_of t) (a.length + 1)) h.settled reaches (aim_within t (a.length + 1))))
  idle_step request =
      cond_both (leb 1000000 a.gaps) _ _ (Step t (gap n stuck false) s a)
      (λ _. quiet t number s idle a (gap n stuck false) stands 24 refl (λ e. omega arith) (λ e. omega arith))
      (λ _. wake_step _ (wake_cases s h.settled))
  idle_step (release x count) = quiet t number s idle a (gap n stuck false) stands 22 refl (λ e. omega arith) (λ e. omega arith)
  idle_step (report x code) = report_step code x
  idle_step figures = shown_step t number s idle a (gap n stuck false) stands

module _ (t : Table) (number : ℕ) (s : Status) (a : Account) (n : ℕ) (stuck : Bool) (h : Working s a) where
  works : Good t (at_work number t s busy a) (gap n stuck true)
  works = working number s a n stuck h

  busy_step : (call : Call) → Step t (gap n stuck true) s a (done (at_work number t s busy a) call)
  busy_step tick =
      cond_both (leb 1000000 a.ticks) _ _ (Step t (gap n stuck true) s a)
      (λ _. quiet t number s busy a (gap n stuck true) works 23 refl (λ e. omega arith) (λ e. omega arith))
      (λ _. rw (stay t s 0 h.settled (omega (arith, h.awake)) (omega arith) (sym h.awake)) (record {
        good = working number (held s 0) (busy_charge a (at t 0).power) n stuck (record { settled = refl; awake = refl; pending = h.pending; length = h.length; mark = h.mark });
        sums = omega arith;
        floored = omega arith;
        cleaned = omega arith;
        carried = tt;
        fine = (tt, refl);
      }))
  busy_step request = quiet t number s busy a (gap n stuck true) works 21 refl (λ e. omega arith) (λ e. omega arith)
  busy_step (release x count) =
      cond_both (eqb x number && eqb count a.gaps) _ _ (Step t (gap n stuck true) s a)
      (λ _. record {
        good = idling number s a 0 false (record {
          settled = h.settled;
          length_is = sym h.length;
          stuck_is = sym h.mark;
          shallow = omega (arith, h.awake);
          clean_state = λ _. h.awake ∙ ap (sunk (rows_of t)) (sym h.length);
          clean_energy = λ _. h.pending ∙ ap (powers (rows_of t)) (sym h.length);
        });
        sums = omega arith;
        floored = omega arith;
        cleaned = omega arith;
        carried = tt;
        fine = (tt, tt);
      })
      (λ _. quiet t number s busy a (gap n stuck true) works 22 refl (λ e. omega arith) (λ e. omega arith))
  busy_step (report x code) =
      cond_both (bears x s.parts) _ _ (Step t (gap n stuck true) s a)
      (λ _. record {
        good = working number _ a n stuck (record { settled = h.settled; awake = h.awake; pending = h.pending; length = h.length; mark = h.mark });
        sums = omega arith;
        floored = omega arith;
        cleaned = omega arith;
        carried = tt;
        fine = (tt, tt);
      })
      (λ _. quiet t number s busy a (gap n stuck true) works 25 refl (λ e. omega arith) (λ e. omega arith))
  busy_step figures = shown_step t number s busy a (gap n stuck true) works

pub step : (t : Table) → Fit (rows_of t) → (m : Managed) (g : Gap) → Good t m g → (call : Call) → Step t g m.device m.account (done m call)
step t fit _ _ (idling number s a n stuck h) call = idle_step t fit number s a n stuck h call
step t fit _ _ (working number s a n stuck h) call = busy_step t number s a n stuck h call
