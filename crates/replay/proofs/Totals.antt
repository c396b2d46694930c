-- A report that ends with a total tells what all calls of its trace leave.
use Rattle.std.proofs.Common.{◌≡◌, ℕ, cond, List, [], ◌∷◌, ◌++◌, length, Some, None, Option, sym, refl, ap, ◌∙◌, subst, arith, length-append}
use Rattle.manager.specs.declared.account.Account.{Account}
use Rattle.manager.specs.Rules.{Managed, Call, done, attach_refusal}
use Rattle.manager.specs.Runs.{history, finally}
use Rattle.manager.specs.Laws.{Laws}
use Rattle.manager.proofs.Whole.{every_run_keeps_the_laws}
use Rattle.traces.specs.Layout.{Item}
use Rattle.traces.specs.Reading.{Ending, whole, refused, reading}
use Rattle.replay.specs.Lines as lines
use Rattle.replay.specs.Lines.{Line}
use Rattle.replay.specs.Runs.{Said, quiet, gap, jam, halt, calls, says, leaves, goes_on, lines_of, run, all_calls, Opening, begins, course, attached, told_of, opened, lines_for, trace_calls, Kept, Lawful}

-- the last two lines of a run that came to its end
abbrev last_two : Account → List Line
last_two a = lines.total a ∷ lines.end ∷ []

module _ (a : Account) where
  -- fewer lines do not end so
  none_short : (front : List Line) → ◌≡◌ {A = List Line} [] (front ++ last_two a) → ⊥
  none_short front e = omega (arith, ap length e, length-append front (last_two a))

  one_short : (l : Line) (front : List Line) → ◌≡◌ {A = List Line} (l ∷ []) (front ++ last_two a) → ⊥
  one_short l front e = omega (arith, ap length e, length-append front (last_two a))

  -- a first line that is no total stands before them
  past : (l : Line) (ls front : List Line) → ((b : Account) → l ≡ lines.total b → ⊥) → l ∷ ls ≡ front ++ last_two a → (rest : List Line) × (ls ≡ rest ++ last_two a)
  past l ls [] other e = absurd (other a cc)
  past l ls (f ∷ front) other e = (front, cc)

  -- what is left of a run behind a record ends so too
  behind : (place : ℕ) (s : Said) (rest front : List Line) → lines_of place s ++ cond (goes_on s) rest [] ≡ front ++ last_two a → (back : List Line) × (rest ≡ back ++ last_two a)
  behind place quiet rest front e = (front, e)
  behind place (gap length stuck energy floor from latency note) rest front e = past _ rest front (λ b h. let z : ◌≡◌ {A = ℕ} 0 1 = cc in omega arith) e
  behind place (jam names) rest front e = past _ rest front (λ b h. let z : ◌≡◌ {A = ℕ} 0 1 = cc in omega arith) e
  behind place (halt k) rest front e = absurd (one_short _ front e)

  -- the two lines are all
  only : (b : Account) (front : List Line) → last_two b ≡ front ++ last_two a → a ≡ b
  only b [] e = cc
  only b (f ∷ front) e = absurd (omega (arith, ap length e, length-append front (last_two a)))

-- calls in two lists
pub finally-++ : (m : Managed) (cs ds : List Call) → finally m (cs ++ ds) ≡ finally (finally m cs) ds
finally-++ m [] ds = refl
finally-++ m (c ∷ cs) ds = finally-++ (done m c).after cs ds

-- the account of the total is what all calls leave
told_account : (xs : List (ℕ × Item)) (m : Managed) (e : Ending) (a : Account) (front : List Line) → run m xs e ≡ front ++ last_two a → a ≡ (finally m (all_calls m xs)).account
unfolding run all_calls
told_account [] m whole a front h = only a m.account front h
told_account [] m (refused place k) a front h = absurd (one_short a _ front h)
told_account (x ∷ xs) m e a front h =
    let n = leaves m x.1 in
    let b = behind a x.0 (says m x.1) (run n xs e) front h in
    told_account xs n e a b.0 b.1 ∙ sym (ap (λ (k : Managed). k.account) (finally-++ m (calls m x.1) (all_calls n xs)))

-- and keeps the laws
kept : (o : Opening) (a : Account) → a ≡ (finally (begins o) (trace_calls o)).account → Kept o a
kept o a e =
    record {
      account = e;
      laws = subst (Laws o.table (history (begins o) (trace_calls o))) (sym e) (every_run_keeps_the_laws o.number o.table o.status (trace_calls o));
    }

by_attach : (o : Opening) (e : Ending) (r : Option ℕ) (front : List Line) (a : Account) → attached o e r ≡ front ++ last_two a → Kept o a
by_attach o e (Some k) front a h = absurd (one_short a _ front h)
by_attach o e None front a h =
    let b = past a _ (run (begins o) (course o) e) front (λ b h. let z : ◌≡◌ {A = ℕ} 0 1 = cc in omega arith) h in
    kept o a (told_account (course o) (begins o) e a b.0 b.1)

by_opening : (e : Ending) (p : Option Opening) (front : List Line) (a : Account) → told_of e p ≡ front ++ last_two a → (o : Opening) × (p ≡ Some o) × Kept o a
by_opening whole None front a h = absurd (none_short a front h)
by_opening (refused place k) None front a h = absurd (one_short a _ front h)
by_opening e (Some o) front a h = (o, refl, by_attach o e (attach_refusal o.table o.status) front a h)

-- for every trace
pub lawful : (bs : List ℕ) → Lawful bs
unfolding lines_for
lawful bs front a h = by_opening (reading bs).ending (opened (reading bs).records) front a h
