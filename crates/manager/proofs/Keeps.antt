-- What calls leave as it is, from every manager: what a lease hangs on, and what a refusal does not touch.
use Rattle.std.proofs.Common.{◌≡◌, ℕ, zero, suc, eqb, leb, replicate, Some, None, Option, sym, refl, ap, ◌∙◌, subst, arith}
use Rattle.std.proofs.lemmas.Bool.{cond_both}
use Rattle.devices.specs.Meaning.{Refused, hold_refusal, bears}
use Rattle.manager.specs.declared.account.Account.{Account}
use Rattle.manager.specs.Rules.{Condition, shut, idle, busy, Managed, tick, report, refused, Outcome, holding, idle_tick_by, aim, tick_in, reporting, report_in, done}
use Rattle.manager.specs.Runs.{finally}
use Rattle.manager.specs.Meaning.{KeepsLease}

-- condition, number and count stay
pub record SameTerms (m n : Managed) : Type 0 where
  pub condition : n.condition ≡ m.condition
  pub number : n.number ≡ m.number
  pub gaps : n.account.gaps ≡ m.account.gaps

module _ (m : Managed) where
  itself : SameTerms m m
  itself = record { condition = refl; number = refl; gaps = refl }

  holding_terms : (i : ℕ) (hitch : Option Refused) (charged : Account) (r : Option Refused) → charged.gaps ≡ m.account.gaps → SameTerms m (holding m i hitch charged r).after
  holding_terms i hitch charged None e = record { condition = refl; number = refl; gaps = e }
  holding_terms i hitch charged (Some r) e = itself

  idle_terms : (i : ℕ) (move : Option Refused) → SameTerms m (idle_tick_by m i move).after
  idle_terms i None = holding_terms _ _ _ (hold_refusal m.table m.device i) refl
  idle_terms i (Some r) =
      cond_both (eqb r.number 43) _ _ (λ (o : Outcome). SameTerms m o.after)
      (λ _. holding_terms _ _ _ (hold_refusal m.table m.device m.device.state) refl)
      (λ _. itself)

  tick_in_terms : (c : Condition) → SameTerms m (tick_in c m).after
  tick_in_terms (shut n) = itself
  tick_in_terms idle = cond_both (leb 1000000 m.account.ticks) _ _ (λ (o : Outcome). SameTerms m o.after) (λ _. itself) (λ _. idle_terms (aim m) (hold_refusal m.table m.device (aim m)))
  tick_in_terms busy = cond_both (leb 1000000 m.account.ticks) _ _ (λ (o : Outcome). SameTerms m o.after) (λ _. itself) (λ _. holding_terms _ _ _ (hold_refusal m.table m.device 0) refl)

  pub tick_terms : SameTerms m (done m tick).after
  tick_terms = tick_in_terms m.condition

  reporting_terms : (number code : ℕ) → SameTerms m (reporting m number code).after
  reporting_terms number code = cond_both (bears number m.device.parts) _ _ (λ (o : Outcome). SameTerms m o.after) (λ _. record { condition = refl; number = refl; gaps = refl }) (λ _. itself)

  report_in_terms : (c : Condition) (number code : ℕ) → SameTerms m (report_in c m number code).after
  report_in_terms (shut n) number code = itself
  report_in_terms idle number code = reporting_terms number code
  report_in_terms busy number code = reporting_terms number code

  pub report_terms : (number code : ℕ) → SameTerms m (done m (report number code)).after
  report_terms number code = report_in_terms m.condition number code

  -- a refused tick changes nothing
  holding_still : (i : ℕ) (hitch : Option Refused) (charged : Account) (r : Option Refused) (w : Refused) → (holding m i hitch charged r).answer ≡ refused w → (holding m i hitch charged r).after ≡ m
  holding_still i hitch charged None w e = let z : ◌≡◌ {A = ℕ} 0 1 = cc in absurd (omega arith)
  holding_still i hitch charged (Some r) w e = refl

  idle_still : (i : ℕ) (move : Option Refused) (w : Refused) → (idle_tick_by m i move).answer ≡ refused w → (idle_tick_by m i move).after ≡ m
  idle_still i None w = holding_still _ _ _ (hold_refusal m.table m.device i) w
  idle_still i (Some r) w =
      cond_both (eqb r.number 43) _ _ (λ (o : Outcome). o.answer ≡ refused w → o.after ≡ m)
      (λ _. holding_still _ _ _ (hold_refusal m.table m.device m.device.state) w)
      (λ _ _. refl)

  tick_in_still : (c : Condition) (w : Refused) → (tick_in c m).answer ≡ refused w → (tick_in c m).after ≡ m
  tick_in_still (shut n) w = λ _. refl
  tick_in_still idle w =
      cond_both (leb 1000000 m.account.ticks) _ _ (λ (o : Outcome). o.answer ≡ refused w → o.after ≡ m)
      (λ _ _. refl) (λ _. idle_still (aim m) (hold_refusal m.table m.device (aim m)) w)
  tick_in_still busy w =
      cond_both (leb 1000000 m.account.ticks) _ _ (λ (o : Outcome). o.answer ≡ refused w → o.after ≡ m)
      (λ _ _. refl) (λ _. holding_still _ _ _ (hold_refusal m.table m.device 0) w)

  pub tick_still : (w : Refused) → (done m tick).answer ≡ refused w → (done m tick).after ≡ m
  tick_still w = tick_in_still m.condition w

-- refused once, ticks change nothing
pub ticks_still : (k : ℕ) (m n : Managed) (w : Refused) → (done m tick).answer ≡ refused w → n ≡ m → finally n (replicate k tick) ≡ n
ticks_still zero m n w e s = refl
ticks_still (suc k) m n w e s =
    let same : (done n tick).after ≡ n = ap (λ (x : Managed). (done x tick).after) s ∙ tick_still m w e ∙ sym s in
    ticks_still k m (done n tick).after w e (same ∙ s) ∙ same

-- a lease that is out stays out where its terms stay
pub kept : (m n : Managed) → SameTerms m n → KeepsLease m n
kept m n s manager count w = record { condition = s.condition ∙ w.condition; number = w.number ∙ sym s.number; gaps = w.gaps ∙ sym s.gaps }

pub tick_keeps : (m n : Managed) → n ≡ (done m tick).after → KeepsLease m n
tick_keeps m n e = subst (KeepsLease m) (sym e) (kept m (done m tick).after (tick_terms m))
