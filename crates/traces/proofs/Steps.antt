-- How a reading goes on, record by record.
use Rattle.std.proofs.Common.{◌≡◌, ℕ, zero, suc, ◌+◌, ◌-◌, ◌*◌, ◌<◌, ◌≤◌, true, false, cond, ltb, List, [], ◌∷◌, length, take, drop, Some, None, Ok, Err, Option, Result, refl, ap, subst, arith, length-drop}
use Rattle.std.specs.Option.{ok_or}
use Rattle.std.proofs.lemmas.List.{length-take-le}
use Rattle.std.proofs.lemmas.Bool.{cond_both, ltb-false}
use Rattle.std.proofs.lemmas.Bool.Decides.{nat_tests}
use Rattle.traces.specs.declared.order.Kind.{Kind}
use Rattle.traces.specs.declared.order.Stage.{Stage}
use Rattle.traces.specs.declared.order.Stage.TheVariants.{Start}
use Rattle.traces.specs.Layout.{Step, kind_of, follows, content, two, read_body, read_one, ◌then◌}
use Rattle.traces.specs.Reading.{Reading, refused, ends, first, ended, closing, after, onward, remaining, reading}

-- what each test found where a record was read
pub record Came (st : Stage) (bs : List ℕ) (t : Step) : Type 0 where
  pub some : 2 ≤ two bs 0
  pub fits : 2 + two bs 0 ≤ length bs
  pub kind : Kind
  pub known : kind_of (two bs 2) ≡ Some kind
  pub order : follows st kind ≡ Some t.stage
  pub right : content kind (take (two bs 0 - 2) (drop 4 bs)) ≡ Some t.says
  pub size : t.size ≡ 2 + two bs 0

-- a test that was passed, and what went on behind it
passed : {A B : Type 0} (o : Option A) (e : ℕ) (f : A → Result B ℕ) (t : B) → (ok_or o e then f) ≡ Ok t → (a : A) × (o ≡ Some a) × (f a ≡ Ok t)
passed None e f t h = absurd cc
passed (Some a) e f t h = (a, refl, h)

pub came : (st : Stage) (bs : List ℕ) (t : Step) → read_one st bs ≡ Ok t → Came st bs t
came st bs t e = go (grind (arith, nat_tests)) (grind (arith, nat_tests)) (grind (arith, nat_tests))
  where
    go : 2 ≤ two bs 0 → 2 + two bs 0 ≤ length bs → read_body st (two bs 2) (take (two bs 0 - 2) (drop 4 bs)) ≡ Ok t → Came st bs t
    go some fits h =
        let body : List ℕ = take (two bs 0 - 2) (drop 4 bs) in
        let k = passed (kind_of (two bs 2)) 2 _ t h in
        let s = passed (follows st k.0) 4 _ t k.2 in
        let x = passed (content k.0 body) 3 _ t s.2 in
        let same : record { says = x.0; size = 4 + length body; stage = s.0 } ≡ t = let e = x.2 in cc in
        subst (Came st bs) same (record {
          some = some;
          fits = fits;
          kind = k.0;
          known = k.1;
          order = s.1;
          right = x.1;
          size = omega (arith, length-take-le (two bs 0 - 2) (drop 4 bs) (omega (arith, length-drop 4 bs)));
        })

-- what holds past the end record and at a refusal, and of a record if it holds of what is behind it, holds of each reading
module _ (P : Stage → ℕ → List ℕ → Reading → Type 0)
    (at_end : (st : Stage) (n : ℕ) (bs : List ℕ) → ended st ≡ true → P st n bs (closing n bs))
    (at_refusal : (st : Stage) (n : ℕ) (bs : List ℕ) (e : ℕ) → ended st ≡ false → read_one st bs ≡ Err e → P st n bs (ends (refused n e)))
    (at_record : (st : Stage) (n : ℕ) (bs : List ℕ) (t : Step) (rest : Reading) → ended st ≡ false → read_one st bs ≡ Ok t → P t.stage (n + t.size) (drop t.size bs) rest → P st n bs (first (n, t.says) rest))
  where
    within : (k : ℕ) (st : Stage) (n : ℕ) (bs : List ℕ) → length bs < k → P st n bs (onward k st n bs)
    unfolding onward
    within zero st n bs h = absurd (omega arith)
    within (suc k) st n bs h =
        cond_both (ended st) _ _ (P st n bs) (at_end st n bs) (λ more. go more (λ t. within k t.stage (n + t.size) (drop t.size bs)) (read_one st bs) refl)
      where
        go : ended st ≡ false → ((t : Step) → length (drop t.size bs) < k → P t.stage (n + t.size) (drop t.size bs) (onward k t.stage (n + t.size) (drop t.size bs))) → (o : Result Step ℕ) → read_one st bs ≡ o → P st n bs (after (onward k) n bs o)
        go more behind (Err e) is = at_refusal st n bs e more is
        go more behind (Ok t) is =
            let f = came st bs t is in
            at_record st n bs t (onward k t.stage (n + t.size) (drop t.size bs)) more is (behind t (omega (arith, length-drop t.size bs)))

    pub induct : (st : Stage) (n : ℕ) (bs : List ℕ) → P st n bs (remaining st n bs)
    unfolding remaining
    induct st n bs = within (suc (length bs)) st n bs (omega arith)

-- more steps than bytes are enough
enough : (k j : ℕ) (st : Stage) (n : ℕ) (bs : List ℕ) → length bs < k → length bs < j → onward k st n bs ≡ onward j st n bs
unfolding onward
enough zero j st n bs h _ = absurd (omega arith)
enough (suc k) zero st n bs _ h = absurd (omega arith)
enough (suc k) (suc j) st n bs hk hj =
    ap (cond (ended st) (closing n bs)) (go (λ t. enough k j t.stage (n + t.size) (drop t.size bs)) (read_one st bs) refl)
  where
    go : ((t : Step) → length (drop t.size bs) < k → length (drop t.size bs) < j → onward k t.stage (n + t.size) (drop t.size bs) ≡ onward j t.stage (n + t.size) (drop t.size bs)) →
        (o : Result Step ℕ) → read_one st bs ≡ o → after (onward k) n bs o ≡ after (onward j) n bs o
    go behind (Err e) is = refl
    go behind (Ok t) is =
        let f = came st bs t is in
        let less : length (drop t.size bs) < length bs = omega (arith, length-drop t.size bs) in
        ap (first (n, t.says)) (behind t (omega arith) (omega arith))

-- one step of a reading
pub remaining_step : (st : Stage) (n : ℕ) (bs : List ℕ) → remaining st n bs ≡ cond (ended st) (closing n bs) (after remaining n bs (read_one st bs))
unfolding onward remaining
remaining_step st n bs = ap (cond (ended st) (closing n bs)) (go (read_one st bs) refl)
  where
    go : (o : Result Step ℕ) → read_one st bs ≡ o → after (onward (length bs)) n bs o ≡ after remaining n bs o
    go (Err e) is = refl
    go (Ok t) is =
        let f = came st bs t is in
        ap (first (n, t.says)) (enough (length bs) (suc (length (drop t.size bs))) t.stage (n + t.size) (drop t.size bs) (omega (arith, length-drop t.size bs)) (omega arith))

-- each record takes at least four bytes
pub few : (st : Stage) (n : ℕ) (bs : List ℕ) → 4 * length (remaining st n bs).records ≤ length bs
few =
    induct (λ _ _ bs r. 4 * length r.records ≤ length bs)
    (λ _ n bs _. closed n bs)
    (λ _ _ _ _ _ _. omega arith)
    (λ st n bs t rest _ is h. let f = came st bs t is in omega (arith, length-drop t.size bs))
  where
    closed : (n : ℕ) (bs : List ℕ) → 4 * length (closing n bs).records ≤ length bs
    closed n [] = omega arith
    closed n (b ∷ bs) = omega arith

-- a trace has at most 16,384 records
pub few_records : (bs : List ℕ) → 4 * length (reading bs).records ≤ 65536
unfolding reading
few_records bs =
    cond_both (ltb 65536 (length bs)) _ _ (λ (r : Reading). 4 * length r.records ≤ 65536) (λ _. omega arith)
    (λ short. omega (arith, few Start 0 bs, ltb-false 65536 (length bs) short))
