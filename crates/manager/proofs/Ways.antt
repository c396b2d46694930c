-- Steps of the rules as the code takes them.
use Rattle.std.proofs.Common.{◌≡◌, ℕ, ◌<◌, false, eqb, leb, List, [], ◌∷◌, map, Some, None, Err, Option, Result, sym, refl, ap, ◌∙◌, ap₂, arith}
use Rattle.std.proofs.lemmas.Bool.{cond-false, or_parts, lt-leb}
use Rattle.states.specs.Table.{Table}
use Rattle.devices.specs.Meaning.{Status, Refused, hold_refusal, held, reply, left, bears, coded, reported}
use Rattle.devices.specs.declared.device.Part.{Part}
use Rattle.manager.specs.Rules.{Condition, idle, busy, Managed, tick, aim, busy_tick, idle_tick, idle_tick_by, stuck_tick, tick_in, done}

pub refused_by : (x : Option Refused) (p : ℕ) (r : Refused) → ◌≡◌ {A = Result ℕ Refused} (Err r) (reply x p) → x ≡ Some r
refused_by None p r e = let z : ◌≡◌ {A = ℕ} 0 1 = cc in absurd (omega arith)
refused_by (Some q) p r e = cc

-- the manager over another device
abbrev pub over : Managed → Table → Status → Managed
over m t s = record { number = m.number; table = t; device = s; condition = m.condition; rows = m.rows; account = m.account }

-- a fault holds the move to state i up, which leaves the device as it was
pub jam_tick :
    (m : Managed) (t : Table) (s : Status) (i p : ℕ) (names : List ℕ) →
    ◌≡◌ {A = Result ℕ Refused} (Err (record { number = 43; names = names })) (reply (hold_refusal m.table m.device i) p) →
    s ≡ left (hold_refusal m.table m.device i) m.device (held m.device i) →
    t ≡ m.table →
    stuck_tick (over m t s) (record { number = 43; names = names }) ≡ idle_tick m i
jam_tick m t s i p names e es et =
    let jam : Refused = record { number = 43; names = names } in
    let x = refused_by (hold_refusal m.table m.device i) p jam e in
    ap₂ (λ (y : Table) (z : Status). stuck_tick (over m y z) jam) et (es ∙ ap (λ (o : Option Refused). left o m.device (held m.device i)) x)
    ∙ sym (ap (idle_tick_by m i) x)

abbrev over_parts : Status → List Part → Status
over_parts s ps = record { state = s.state; held = s.held; parts = ps; settled = s.settled }

-- a report that no part bears changes nothing
unborne : (number code : ℕ) (ps : List Part) → bears number ps ≡ false → map (coded number code) ps ≡ ps
unborne number code [] h = refl
unborne number code (p ∷ ps) h =
    let q = or_parts (eqb p.number number) (bears number ps) h in
    ap₂ (λ (x : Part) (xs : List Part). x ∷ xs) (cond-false (eqb p.number number) _ p q.0) (unborne number code ps q.1)

pub unreported : (s : Status) (number code : ℕ) → bears number s.parts ≡ false → reported s number code ≡ s
unreported s number code h = ap (λ (ps : List Part). over_parts s ps) (unborne number code s.parts h)

-- a tick below the limit, by the manager's condition
module _ (m : Managed) where
  pub idle_goes : m.condition ≡ idle → m.account.ticks < 1000000 → (i : ℕ) → i ≡ aim m → done m tick ≡ idle_tick m i
  idle_goes c l i e = ap (λ (x : Condition). tick_in x m) c ∙ cond-false (leb 1000000 m.account.ticks) _ _ (lt-leb 1000000 m.account.ticks l) ∙ ap (idle_tick m) (sym e)

  pub busy_goes : m.condition ≡ busy → m.account.ticks < 1000000 → done m tick ≡ busy_tick m
  busy_goes c l = ap (λ (x : Condition). tick_in x m) c ∙ cond-false (leb 1000000 m.account.ticks) _ _ (lt-leb 1000000 m.account.ticks l)
