-- The first record of a trace is a table.
use Rattle.std.proofs.Common.{◌≡◌, ℕ, ◌+◌, ◌*◌, ◌&&◌, eqb, ltb, leb, List, length, get_or, drop, Some, None, Ok, Err, Option, Result, sym, refl, subst, arith}
use Rattle.std.proofs.lemmas.Bool.{cond_both}
use Rattle.traces.specs.declared.order.Kind.{Kind}
use Rattle.traces.specs.declared.order.Kind.TheVariants as kind
use Rattle.traces.specs.declared.order.Stage.{Stage}
use Rattle.traces.specs.declared.order.Stage.TheVariants.{Start}
use Rattle.traces.specs.Layout.{Item, Step, follows, content, two, read_one, table}
use Rattle.traces.specs.Reading.{Reading, after, remaining, reading}
use Rattle.traces.proofs.Steps.{came, remaining_step}
use Rattle.replay.specs.Runs.{IsTable, Starts}

-- at the start only a table may stand
only_table : (k : Kind) (body : List ℕ) (x : Item) (next : Stage) → follows Start k ≡ Some next → content k body ≡ Some x → IsTable x
only_table kind.Table body x next order says =
    cond_both (leb 1 (get_or body 2 0) && leb (get_or body 2 0) 16 && eqb (length body) (3 + 12 * get_or body 2 0)) (Some (table (two body 0) (drop 3 body))) None (λ (o : Option Item). o ≡ Some x → IsTable x)
    (λ _ e. let same : table (two body 0) (drop 3 body) ≡ x = cc in subst IsTable same tt)
    (λ _ e. let z : ◌≡◌ {A = ℕ} 0 1 = cc in absurd (omega arith))
    says
only_table kind.Limit body x next order says = let z : ◌≡◌ {A = ℕ} 0 1 = cc in absurd (omega arith)
only_table kind.Ticks body x next order says = let z : ◌≡◌ {A = ℕ} 0 1 = cc in absurd (omega arith)
only_table kind.Request body x next order says = let z : ◌≡◌ {A = ℕ} 0 1 = cc in absurd (omega arith)
only_table kind.Release body x next order says = let z : ◌≡◌ {A = ℕ} 0 1 = cc in absurd (omega arith)
only_table kind.Report body x next order says = let z : ◌≡◌ {A = ℕ} 0 1 = cc in absurd (omega arith)
only_table kind.End body x next order says = let z : ◌≡◌ {A = ℕ} 0 1 = cc in absurd (omega arith)

from_start : (bs : List ℕ) → Starts (remaining Start 0 bs).records
from_start bs = subst (λ (r : Reading). Starts r.records) (sym (remaining_step Start 0 bs)) (go (read_one Start bs) refl)
  where
    go : (o : Result Step ℕ) → read_one Start bs ≡ o → Starts (after remaining 0 bs o).records
    go (Err e) is = tt
    go (Ok t) is = let f = came Start bs t is in only_table f.kind _ t.says t.stage f.order f.right

pub starts : (bs : List ℕ) → Starts (reading bs).records
unfolding reading
starts bs = cond_both (ltb 65536 (length bs)) _ _ (λ (r : Reading). Starts r.records) (λ _. tt) (λ _. from_start bs)
