-- What one record says and leaves.
use Rattle.std.proofs.Common.{◌≡◌, ℕ, true, eqb, List, [], ◌∷◌, Some, None, Option, sym, refl, ap, ◌∙◌, subst, arith}
use Rattle.std.proofs.lemmas.Bool.{cond_both, and_parts, and_from, eq-eqb, eqb-true}
use Rattle.devices.specs.Meaning.{Make}
use Rattle.manager.specs.declared.lease.Lease.{Lease}
use Rattle.manager.specs.declared.manager.Manager.{Manager}
use Rattle.manager.specs.Meaning.{condition_of, meaning, Waits}
use Rattle.manager.proofs.Keeps.{SameTerms, kept}
use Rattle.manager.specs.Rules.{Condition, shut, idle, busy, Managed, Call}
use Rattle.manager.specs.Runs.{history}
use Rattle.traces.specs.Layout.{Item}
use Rattle.manager.specs.Rules as rules
use Rattle.manager.specs.Rules.{Answer}
use Rattle.manager.specs.Runs.{Moment}
use Rattle.devices.specs.Meaning.{Refused}
use Rattle.traces.specs.Layout as layout
use Rattle.traces.specs.Written.{Proper, Printable}
use Rattle.replay.specs.Runs.{Said, jam, halt, astray, calls, objection, voiced, heard, note_of, says}
use Rattle.replay.specs.Leased.{is_idle, is_busy, is_leased}
use Rattle.replay.specs.Shown.{Noted}

-- a lease that is out is the one that the manager waits for, and with none out the manager is idle
abbrev pub Out : Managed → Option Lease → Type 0
Out m None = m.condition ≡ idle
Out m (Some l) = Waits m l.manager l.count

-- a lease that is out stays so where its terms stay
keeps_out : (m n p : Managed) (l : Option Lease) → p ≡ n → SameTerms m n → Out m l → Out p l
keeps_out m n p None e s h = ap (λ (x : Managed). x.condition) e ∙ s.condition ∙ h
keeps_out m n p (Some l) e s h = subst (λ (x : Managed). Out x (Some l)) (sym e) (kept m n s l.manager l.count h)

idle_is : (c : Condition) → is_idle c ≡ true → c ≡ idle
idle_is (shut n) h = absurd (grind arith)
idle_is idle h = refl
idle_is busy h = absurd (grind arith)

busy_is : (c : Condition) → is_busy c ≡ true → c ≡ busy
busy_is (shut n) h = absurd (grind arith)
busy_is idle h = absurd (grind arith)
busy_is busy h = refl

-- the test of a run's lease is that
module _ {D : Type 0} (make : Make D) where
  pub out_from : (m : Manager D) (l : Option Lease) → is_leased m l ≡ true → Out (meaning make m) l
  out_from m None h = idle_is (condition_of m.standing) h
  out_from m (Some l) h =
      let parts = and_parts (is_busy (condition_of m.standing)) _ h in
      let numbers = and_parts (eqb l.manager m.number) (eqb l.count m.books.account.gaps) parts.1 in
      record { condition = busy_is (condition_of m.standing) parts.0; number = eqb-true l.manager m.number numbers.0; gaps = eqb-true l.count m.books.account.gaps numbers.1 }

  pub leased_from : (m : Manager D) (l : Option Lease) → Out (meaning make m) l → is_leased m l ≡ true
  leased_from m None h = ap is_idle h
  leased_from m (Some l) w = and_from (is_busy (condition_of m.standing)) _ (ap is_busy w.condition) (and_from (eqb l.manager m.number) (eqb l.count m.books.account.gaps) (eq-eqb l.manager m.number w.number) (eq-eqb l.count m.books.account.gaps w.gaps))

  -- it stays so where the terms stay
  pub still_leased : (m p : Manager D) (l : Option Lease) (n : Managed) → is_leased m l ≡ true → meaning make p ≡ n → SameTerms (meaning make m) n → is_leased p l ≡ true
  still_leased m p l n h e same = leased_from p l (keeps_out (meaning make m) n (meaning make p) l e same (out_from m l h))

-- a note that can be printed is one when it is said
objection_noted : (c : Call) (r : Refused) → Noted (objection c r)
objection_noted rules.tick r = tt
objection_noted rules.request r = cond_both (eqb r.number 31) (jam r.names) (halt r.number) Noted (λ _. tt) (λ _. tt)
objection_noted (rules.release number count) r = tt
objection_noted (rules.report number code) r = tt
objection_noted rules.figures r = tt

voiced_noted : (note : List ℕ) (c : Call) (a : Answer) (later : Said) → Printable note → Noted later → Noted (voiced note c a later)
voiced_noted note c (rules.refused r) later p h = objection_noted c r
voiced_noted note c (rules.ticked i energy hitch) later p h = h
voiced_noted note c (rules.closed x) later p h = p
voiced_noted note c rules.released later p h = h
voiced_noted note c rules.reportedly later p h = h
voiced_noted note c (rules.shown a) later p h = h

heard_noted : (note : List ℕ) (hs : List Moment) → Printable note → Noted (heard note hs)
heard_noted note [] p = tt
heard_noted note (h ∷ hs) p = voiced_noted note h.call h.answer (heard note hs) p (heard_noted note hs p)

note_proper : (x : Item) → Proper x → Printable (note_of x)
note_proper (layout.table n rows) p = tt
note_proper (layout.limit l) p = tt
note_proper (layout.ticks c) p = tt
note_proper (layout.request n note) p = p.1
note_proper (layout.release n) p = tt
note_proper (layout.report n c) p = tt
note_proper layout.end p = tt

pub says_noted : (m : Managed) (x : Item) → Proper x → Noted (says m x)
says_noted m x p = cond_both (astray m x) (halt 25) _ Noted (λ _. tt) (λ _. heard_noted (note_of x) (history m (calls m x)) (note_proper x p))
