-- How a run goes on, record by record.
use Rattle.std.proofs.Common.{◌≡◌, ℕ, Bool, true, false, cond, List, [], ◌∷◌, ◌++◌, IfOk, Ok, Err, Result, sym, refl, ap, ◌∙◌, append_assoc, append-nil}
use Rattle.manager.specs.Rules.{Managed}
use Rattle.traces.specs.Layout.{Item}
use Rattle.traces.specs.Reading.{Ending, Reading, ends, first}
use Rattle.replay.specs.Lines.{Line, text, written}
use Rattle.replay.specs.Runs.{says, leaves, goes_on, lines_of, closing, run, run_on}

-- a fact of what was made, from two
pub made_both : {X E : Type 0} (r : Result X E) (P Q R : X → Type 0) → ((x : X) → P x → Q x → R x) → IfOk r P → IfOk r Q → IfOk r R
made_both (Ok x) P Q R f h k = f x h k
made_both (Err e) P Q R f h k = tt

-- lines are written one after the other
pub written-++ : (a b : List Line) → written (a ++ b) ≡ written a ++ written b
written-++ [] b = refl
written-++ (l ∷ a) b = ap (λ (s : List ℕ). text l ++ s) (written-++ a b) ∙ sym (append_assoc (text l) (written a) (written b))

written_cond : (on : Bool) (ls : List Line) → written (cond on ls []) ≡ cond on (written ls) []
written_cond true ls = refl
written_cond false ls = refl

-- where nothing is left to read
pub run_ends : (m : Managed) (r : Reading) (e : Ending) → r ≡ ends e → run_on m r ≡ closing m e
unfolding run
run_ends m r e is = ap (run_on m) is

-- where a record is
pub run_step : (m : Managed) (x : ℕ × Item) (xs : List (ℕ × Item)) (e : Ending) → run m (x ∷ xs) e ≡ lines_of x.0 (says m x.1) ++ cond (goes_on (says m x.1)) (run (leaves m x.1) xs e) []
unfolding run
run_step m x xs e = refl

-- the text so far and what is left make the whole
pub step_text : (m n : Managed) (x : ℕ × Item) (rest : Reading) (on : Bool) (before after : List ℕ) →
    n ≡ leaves m x.1 → on ≡ goes_on (says m x.1) → after ≡ before ++ written (lines_of x.0 (says m x.1)) →
    after ++ cond on (written (run_on n rest)) [] ≡ before ++ written (run_on m (first x rest))
step_text m n x rest on before after went goes said =
    let here = lines_of x.0 (says m x.1) in
    let there = cond (goes_on (says m x.1)) (run_on (leaves m x.1) rest) [] in
    ap (λ (s : List ℕ). s ++ cond on (written (run_on n rest)) []) said
    ∙ append_assoc before (written here) (cond on (written (run_on n rest)) [])
    ∙ ap (λ (s : List ℕ). before ++ (written here ++ s)) (sym (written_cond on (run_on n rest)))
    ∙ ap (λ (b : Bool). before ++ (written here ++ written (cond b (run_on n rest) []))) goes
    ∙ ap (λ (k : Managed). before ++ (written here ++ written (cond (goes_on (says m x.1)) (run_on k rest) []))) went
    ∙ ap (λ (s : List ℕ). before ++ s) (sym (written-++ here there))
    ∙ ap (λ (ls : List Line). before ++ written ls) (sym (run_step m x rest.records rest.ending))

-- the text at the end
pub end_text : (m : Managed) (r : Reading) (e : Ending) (before after rest : List ℕ) → r ≡ ends e → after ≡ before ++ written (closing m e) → after ++ cond false rest [] ≡ before ++ written (run_on m r)
end_text m r e before after rest is said = append-nil after ∙ said ∙ ap (λ (ls : List Line). before ++ written ls) (sym (run_ends m r e is))
