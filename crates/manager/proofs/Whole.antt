-- The laws over every list of calls.
use Rattle.std.proofs.Common.{◌≡◌, ℕ, ◌+◌, ◌≤◌, true, false, cond, ◌&&◌, eqb, List, [], ◌∷◌, ◌++◌, map, Some, None, Option, sym, refl, ap, ◌∙◌, subst, ap₂, arith}
use Rattle.std.specs.List.{AllByRecursion}
use Rattle.std.proofs.ByRecursion.{All-append, All-weaker}
use Rattle.std.proofs.lemmas.Bool.{cond_both, and_parts, eqb-true}
use Rattle.states.specs.Table.{Table, rows_of}
use Rattle.states.specs.Fit.{count_fits, all_within, ordered, unfitness, Fit}
use Rattle.states.specs.Energy.{floor_of, energy_of, total}
use Rattle.states.specs.Laws.{BestPlan}
use Rattle.states.proofs.Fitness.{fit_from_none}
use Rattle.states.proofs.Schedules.{within_twice}
use Rattle.states.proofs.Gaps.{gaps_within_twice, best_plan}
use Rattle.devices.specs.Meaning.{Status}
use Rattle.manager.specs.declared.account.Account.{Account}
use Rattle.manager.specs.Charges.{empty}
use Rattle.manager.specs.Rules.{Managed, Call, tick, request, release, report, figures, attach_refusal, begun, started, done}
use Rattle.manager.specs.Runs.{Moment, Gap, Closed, fresh, history, finally, drawn, follow, closes, gaps_from, gaps, clean_of}
use Rattle.manager.specs.Laws.{Twice, Descends, Laws}
use Rattle.manager.proofs.Good.{Good, idling, sum_of, floors, energies, Carries}
use Rattle.manager.proofs.Steps.{step}

total-++ : {X : Type 0} (f : X → ℕ) (xs ys : List X) → total f (xs ++ ys) ≡ total f xs + total f ys
total-++ f [] ys = omega arith
total-++ f (x ∷ xs) ys = omega (arith, total-++ f xs ys)

clean-++ : (xs ys : List Closed) → clean_of (xs ++ ys) ≡ clean_of xs ++ clean_of ys
clean-++ [] ys = refl
clean-++ (x ∷ xs) ys =
    elim x.stuck as (λ b. cond b (clean_of (xs ++ ys)) (x ∷ clean_of (xs ++ ys)) ≡ cond b (clean_of xs) (x ∷ clean_of xs) ++ clean_of ys)
    [ true ↦ clean-++ xs ys | false ↦ ap (λ (zs : List Closed). x ∷ zs) (clean-++ xs ys) ]

-- what a list of calls adds
record Kept (t : Table) (g : Gap) (m : Managed) (cs : List Call) : Type 0 where
  sums : sum_of (finally m cs).account ≡ sum_of m.account + drawn t (history m cs)
  floored : (finally m cs).account.floor ≡ m.account.floor + floors t (clean_of (gaps_from t g (history m cs)))
  cleaned : (finally m cs).account.clean ≡ m.account.clean + energies (clean_of (gaps_from t g (history m cs)))
  carried : AllByRecursion (Carries t) (clean_of (gaps_from t g (history m cs)))
  fine : Descends t g (history m cs)

kept : (t : Table) → Fit (rows_of t) → (cs : List Call) (m : Managed) (g : Gap) → Good t m g → Kept t g m cs
kept t fit [] m g h = record { sums = omega arith; floored = omega arith; cleaned = omega arith; carried = tt; fine = tt }
kept t fit (c ∷ cs) m g h =
    let one = step t fit m g h c in
    let o = done m c in
    let g' = follow t g m.device o.answer in
    let rest = kept t fit cs o.after g' one.good in
    let here = closes g o.answer in
    let more = gaps_from t g' (history o.after cs) in
    let split = clean-++ here more in
    record {
      sums = omega (arith, one.sums, rest.sums);
      floored = omega (arith, one.floored, rest.floored, ap (floors t) split, total-++ (λ (x : Closed). floor_of (rows_of t) x.length) (clean_of here) (clean_of more));
      cleaned = omega (arith, one.cleaned, rest.cleaned, ap energies split, total-++ (λ (x : Closed). x.energy) (clean_of here) (clean_of more));
      carried = rw split (All-append (Carries t) (clean_of here) (clean_of more) one.carried rest.carried);
      fine = (one.fine, rest.fine);
    }

floors_are : (t : Table) (gs : List Closed) → floors t gs ≡ total (floor_of (rows_of t)) (map (λ g. g.length) gs)
floors_are t [] = refl
floors_are t (g ∷ gs) = ap (λ (x : ℕ). floor_of (rows_of t) g.length + x) (floors_are t gs)

energies_are : (t : Table) (gs : List Closed) → AllByRecursion (Carries t) gs → energies gs ≡ total (energy_of (rows_of t)) (map (λ g. g.length) gs)
energies_are t [] h = refl
energies_are t (g ∷ gs) h = ap₂ (λ (x y : ℕ). x + y) h.0 (energies_are t gs h.1)

-- the laws, from what the clean gaps add
laws_of : (t : Table) → Fit (rows_of t) → (hs : List Moment) (a : Account) → sum_of a ≡ drawn t hs → a.floor ≡ floors t (clean_of (gaps t hs)) → a.clean ≡ energies (clean_of (gaps t hs)) → AllByRecursion (Carries t) (clean_of (gaps t hs)) → Descends t fresh hs → Laws t hs a
laws_of t fit hs a sums floored cleaned carried fine =
    let rows = rows_of t in
    let gs = clean_of (gaps t hs) in
    let ns = map (λ (g : Closed). g.length) gs in
    let f = floored ∙ floors_are t gs in
    let e = cleaned ∙ energies_are t gs carried in
    let two = gaps_within_twice rows fit ns in
    record {
      balance = sums;
      factor_two = (
        All-weaker (Carries t) (Twice t) (λ g c. let w = within_twice rows fit g.length in (omega (arith, c, w.0), omega (arith, c, w.1))) gs carried,
        (omega (arith, f, e, two.0), omega (arith, f, e, two.1)),
      );
      clairvoyant = subst (BestPlan rows ns) (sym f) (best_plan rows fit ns);
      descends = fine;
    }

-- a refused attach: nothing happens
record Still (t : Table) (m : Managed) (cs : List Call) : Type 0 where
  same : (finally m cs).account ≡ m.account
  none : drawn t (history m cs) ≡ 0
  none_closed : (g : Gap) → gaps_from t g (history m cs) ≡ []
  fine : (g : Gap) → Descends t g (history m cs)

module _ (number : ℕ) (t : Table) (s : Status) (n : ℕ) (low : n ≤ 14) where
  still : (cs : List Call) → Still t (begun number t s (Some n)) cs
  still [] = record { same = refl; none = refl; none_closed = λ g. refl; fine = λ g. tt }
  still (tick ∷ cs) = let r = still cs in record { same = r.same; none = omega (arith, r.none); none_closed = λ g. r.none_closed _; fine = λ g. ((((λ e. omega arith), (λ e. omega arith)), tt), r.fine _) }
  still (request ∷ cs) = let r = still cs in record { same = r.same; none = omega (arith, r.none); none_closed = λ g. r.none_closed _; fine = λ g. ((((λ e. omega arith), (λ e. omega arith)), tt), r.fine _) }
  still (release x y ∷ cs) = let r = still cs in record { same = r.same; none = omega (arith, r.none); none_closed = λ g. r.none_closed _; fine = λ g. ((((λ e. omega arith), (λ e. omega arith)), tt), r.fine _) }
  still (report x y ∷ cs) = let r = still cs in record { same = r.same; none = omega (arith, r.none); none_closed = λ g. r.none_closed _; fine = λ g. ((((λ e. omega arith), (λ e. omega arith)), tt), r.fine _) }
  still (figures ∷ cs) = let r = still cs in record { same = r.same; none = omega (arith, r.none); none_closed = λ g. r.none_closed _; fine = λ g. ((tt, tt), r.fine _) }

laws_empty : (t : Table) (hs : List Moment) (a : Account) → a ≡ empty → drawn t hs ≡ 0 → gaps t hs ≡ [] → Descends t fresh hs → Laws t hs a
laws_empty t hs a e d g fine =
    let sums : sum_of a ≡ 0 = ap sum_of e in
    let floored : a.floor ≡ 0 = ap (λ (x : Account). x.floor) e in
    let cleaned : a.clean ≡ 0 = ap (λ (x : Account). x.clean) e in
    let none : clean_of (gaps t hs) ≡ [] = ap clean_of g in
    record {
      balance = omega (arith, sums, d);
      factor_two = (rw none tt, (omega arith, omega arith));
      clairvoyant = (([], (ap (map (λ (x : Closed). x.length)) (sym none), tt), sym floored), (λ plan p. omega arith));
      descends = fine;
    }

-- how attach ends
data Attached (t : Table) (s : Status) : Option ℕ → Type 0 where
  taken : Fit (rows_of t) → s.settled ≡ true → s.state ≡ 0 → Attached t s None
  away : (n : ℕ) → n ≤ 14 → Attached t s (Some n)

-- the numbers of unfitness are at most 14
low_number : (t : Table) (s : Status) → s.settled ≡ true → s.state ≡ 0 → Attached t s (unfitness (rows_of t))
unfolding unfitness
low_number t s h z =
    let rows = rows_of t in
    cond_both (count_fits rows) _ _ (λ r. unfitness rows ≡ r → Attached t s r)
    (λ _. cond_both (all_within rows) _ _ (λ r. unfitness rows ≡ r → Attached t s r)
    (λ _. cond_both (ordered rows) _ _ (λ r. unfitness rows ≡ r → Attached t s r) (λ _ e. taken (fit_from_none rows e) h z) (λ _ _. away 14 (omega arith)))
    (λ _ _. away 13 (omega arith)))
    (λ _ _. away 12 (omega arith)) refl

attached : (t : Table) (s : Status) → Attached t s (attach_refusal t s)
attached t s =
    cond_both (s.settled && eqb s.state 0) _ _ (Attached t s)
    (λ e. let p = and_parts s.settled (eqb s.state 0) e in low_number t s p.0 (eqb-true s.state 0 p.1))
    (λ _. away 11 (omega arith))

laws_from : (number : ℕ) (t : Table) (s : Status) (cs : List Call) (r : Option ℕ) → Attached t s r → Laws t (history (begun number t s r) cs) (finally (begun number t s r) cs).account
laws_from number t s cs None (taken fit settled awake) =
    let start : Good t (begun number t s None) fresh = idling number s empty 0 false (record { settled = settled; length_is = refl; stuck_is = refl; shallow = omega (arith, awake); clean_state = λ _. awake; clean_energy = λ _. refl }) in
    let k : Kept t fresh (begun number t s None) cs = kept t fit cs (begun number t s None) fresh start in
    laws_of t fit (history (begun number t s None) cs) (finally (begun number t s None) cs).account (omega (arith, k.sums)) (omega (arith, k.floored)) (omega (arith, k.cleaned)) k.carried k.fine
laws_from number t s cs (Some _) (away n low) =
    let k = still number t s n low cs in
    laws_empty t (history (begun number t s (Some n)) cs) (finally (begun number t s (Some n)) cs).account k.same k.none (k.none_closed fresh) (k.fine fresh)

-- for every manager number, table, status at attach and list of calls
pub every_run_keeps_the_laws : (number : ℕ) (t : Table) (s : Status) (cs : List Call) → Laws t (history (started number t s) cs) (finally (started number t s) cs).account
every_run_keeps_the_laws number t s cs = laws_from number t s cs (attach_refusal t s) (attached t s)
