-- Writing a trace and reading it are inverse.
use Rattle.std.proofs.Common.{◌≡◌, ℕ, zero, suc, ◌+◌, ◌-◌, ◌/◌, ◌%◌, ◌^◌, ◌<◌, ◌≤◌, Bool, true, false, ltb, List, [], ◌∷◌, ◌++◌, length, get_or, take, drop, Some, Ok, sym, refl, ap, ◌∙◌, subst, arith, w8, Fits, length-append, length-drop}
use Rattle.std.specs.List.{AllByRecursion}
use Rattle.std.proofs.ByRecursion.{All-take, All-drop, All-from_get_or}
use Rattle.std.proofs.lemmas.List.{drop_all, drop_more, nil_from_length, take_at, drop_at, drop-drop, length-take-le, take-append-drop}
use Rattle.std.proofs.lemmas.Bool.Decides.{nat_tests}
use Rattle.std.proofs.lemmas.Option.{cond_some}
use Rattle.std.proofs.lemmas.Bool.{cond-false, cond_both, le-ltb, ltb-false}
use Rattle.traces.specs.declared.order.Kind.{Kind}
use Rattle.traces.specs.declared.order.Kind.TheVariants as kind
use Rattle.traces.specs.declared.order.Stage.{Stage}
use Rattle.traces.specs.declared.order.Stage.TheVariants.{Start, Ended}
use Rattle.traces.specs.Layout.{Item, table, request, Step, printable, two, four, if, content, kind_of, follows, read_body, read_one}
use Rattle.traces.specs.Reading.{Reading, whole, first, ended, closing, after, remaining, reading}
use Rattle.traces.specs.Written.{le2, le4, kind_for, code_of, body_of, encoded, written, placed, Bytes, Printable, Proper, Fitting, Sound, items, ReadsBack, OnlyWritten}
use Rattle.traces.proofs.Stages.{Orderly, by_stages, in_words}
use Rattle.traces.proofs.Steps.{Came, came, induct, remaining_step}

-- numbers come out of their bytes
two_le2 : (n : ℕ) (rest : List ℕ) → two (le2 n ++ rest) 0 ≡ n
two_le2 n rest = omega arith

four_le4 : (n : ℕ) (rest : List ℕ) → four (le4 n ++ rest) 0 ≡ n
four_le4 n rest = omega arith

-- and bytes out of their numbers
byte : (bs : List ℕ) (i : ℕ) → Bytes bs → get_or bs i 0 < 256
byte [] i h = omega arith
byte (b ∷ bs) zero h = h.0
byte (b ∷ bs) (suc i) h = byte bs i h.1

two_fits : (bs : List ℕ) (i : ℕ) → Bytes bs → two bs i < 2 ^ 16
two_fits bs i h = omega (arith, byte bs i h, byte bs (i + 1) h)

two_again : (bs : List ℕ) (i : ℕ) → Bytes bs → i + 2 ≤ length bs → le2 (two bs i) ++ drop (i + 2) bs ≡ drop i bs
two_again bs i h long =
    let low : two bs i % 256 ≡ get_or bs i 0 = omega (arith, byte bs i h) in
    let high : two bs i / 256 ≡ get_or bs (i + 1) 0 = omega (arith, byte bs i h) in
    grind (arith, drop_more)

four_fits : (bs : List ℕ) (i : ℕ) → Bytes bs → four bs i < 2 ^ 32
four_fits bs i h = omega (arith, two_fits bs i h, two_fits bs (i + 2) h)

four_again : (bs : List ℕ) (i : ℕ) → Bytes bs → length bs ≡ i + 4 → le4 (four bs i) ≡ drop i bs
four_again bs i h long =
    let low : four bs i % 65536 ≡ two bs i = omega (arith, two_fits bs i h) in
    let high : four bs i / 65536 ≡ two bs (i + 2) = omega (arith, two_fits bs i h) in
    grind (arith, two_again bs i h, two_again bs (i + 2) h, drop_all (i + 2 + 2) bs)

-- a note's test
printable_all : (bs : List ℕ) → printable bs ≡ true → Printable bs
printable_all [] h = tt
printable_all (b ∷ bs) h = (grind (arith, nat_tests), printable_all bs (grind (arith, nat_tests)))

all_printable : (bs : List ℕ) → Printable bs → printable bs ≡ true
all_printable [] h = refl
all_printable (b ∷ bs) (range, h) = grind (arith, nat_tests, all_printable bs h)

-- the body says the item again
said : (x : Item) → Proper x → content (kind_for x) (body_of x) ≡ Some x
said (table n rows) (k, some, few, long) = grind (arith, nat_tests, two_le2)
said (request n note) (few, clean) = grind (arith, nat_tests, two_le2, all_printable note clean)
said x h = grind (arith, nat_tests, two_le2, four_le4)

-- what holds of an item where its test holds, holds of what was read
from_if : (P : Item → Type 0) {b : Bool} {y x : Item} → if b y ≡ Some x → (b ≡ true → P y) → P x
from_if P e holds = let (t, is) = cond_some _ _ _ e in subst P is (holds t)

-- what is read of a body may be said
pub proper : (k : Kind) (bs : List ℕ) (x : Item) → content k bs ≡ Some x → Proper x
proper kind.Table bs x e = from_if Proper e (λ t. (get_or bs 2 0, grind (arith, nat_tests), grind (arith, nat_tests), grind (arith, nat_tests, length-drop)))
proper kind.Ticks bs x e = from_if Proper e (λ t. grind (arith, nat_tests))
proper kind.Request bs x e = from_if Proper e (λ t. (grind (arith, nat_tests, length-drop), printable_all (drop 2 bs) (grind (arith, nat_tests))))
proper k bs x e = from_if Proper e (λ t. tt)

-- a record that is read keeps its bounds
pub read_proper : (st next : Stage) (bs : List ℕ) (x : Item) (n : ℕ) → read_one st bs ≡ Ok (record { says = x; size = n; stage = next }) → Proper x
read_proper st next bs x n e = let f = came st bs _ e in proper f.kind _ _ f.right

-- an item that was read of a body is written as that body
record Again (k : Kind) (bs : List ℕ) (x : Item) : Type 0 where
  fitting : Fitting x
  kind : kind_for x ≡ k
  body : body_of x ≡ bs

again : (k : Kind) (bs : List ℕ) (x : Item) → Bytes bs → content k bs ≡ Some x → Again k bs x
again kind.Table bs x h e =
    from_if (Again kind.Table bs) e (λ t. record {
      fitting = (two_fits bs 0 h, All-drop _ 3 bs h);
      kind = refl;
      body = grind (arith, nat_tests, length-drop 3 bs, drop_more bs 2 0, two_again bs 0 h);
    })
again kind.Limit bs x h e = from_if (Again kind.Limit bs) e (λ t. record { fitting = four_fits bs 0 h; kind = refl; body = four_again bs 0 h (grind (arith, nat_tests)) })
again kind.Ticks bs x h e = from_if (Again kind.Ticks bs) e (λ t. record { fitting = tt; kind = refl; body = four_again bs 0 h (grind (arith, nat_tests)) })
again kind.Request bs x h e = from_if (Again kind.Request bs) e (λ t. record { fitting = two_fits bs 0 h; kind = refl; body = two_again bs 0 h (grind (arith, nat_tests)) })
again kind.Release bs x h e =
    from_if (Again kind.Release bs) e (λ t.
    let n : length bs ≡ 2 = grind (arith, nat_tests) in
    record { fitting = two_fits bs 0 h; kind = refl; body = rw (drop_all 2 bs (omega arith)) at (two_again bs 0 h (omega arith)) })
again kind.Report bs x h e =
    from_if (Again kind.Report bs) e (λ t.
    let n : length bs ≡ 6 = grind (arith, nat_tests) in
    record { fitting = (two_fits bs 0 h, four_fits bs 2 h); kind = refl; body = grind (arith, two_again bs 0 h, four_again bs 2 h) })
again kind.End bs x h e = from_if (Again kind.End bs) e (λ t. record { fitting = tt; kind = refl; body = sym (nil_from_length bs (grind (arith, nat_tests))) })

known : (k : Kind) → kind_of (code_of k) ≡ Some k
known kind.Table = refl
known k = refl

-- past the tests on the length, the content decides
body_back : (st next : Stage) (k : Kind) (body : List ℕ) (x : Item) → follows st k ≡ Some next → content k body ≡ Some x →
    read_body st (code_of k) body ≡ Ok (record { says = x; size = 4 + length body; stage = next })
body_back st next k body x order right = rw (known k, order, right)

-- a record that is written is read, whatever follows it
record_back : (x : Item) (st next : Stage) (rest : List ℕ) → Proper x → follows st (kind_for x) ≡ Some next →
    read_one st (encoded x ++ rest) ≡ Ok (record { says = x; size = length (encoded x); stage = next })
record_back x st next rest may order =
    let bs : List ℕ = encoded x ++ rest in
    let size : two bs 0 ≡ 2 + length (body_of x) = two_le2 (2 + length (body_of x)) (le2 (code_of (kind_for x)) ++ (body_of x ++ rest)) in
    let code : two bs 2 ≡ code_of (kind_for x) = omega arith in
    let long : length bs ≡ 4 + (length (body_of x) + length rest) = omega (arith, length-append (body_of x) rest) in
    let body : take (two bs 0 - 2) (drop 4 bs) ≡ body_of x = take_at (body_of x) rest (two bs 0 - 2) (omega arith) in
    let whole : read_one st bs ≡ read_body st (two bs 2) (take (two bs 0 - 2) (drop 4 bs)) = grind (arith, nat_tests) in
    whole
    ∙ (λ i. read_body st (code i) (body i))
    ∙ body_back st next (kind_for x) (body_of x) x order (said x may)
    ∙ ap (λ m. Ok (record { says = x; size = m; stage = next })) (omega arith)

-- nothing follows the end
more : (st next : Stage) (k : Kind) → follows st k ≡ Some next → ended st ≡ false
more Ended next k order = absurd cc
more st next k order = refl

rest_back : (xs : List Item) (st : Stage) (n : ℕ) → AllByRecursion Proper xs → Orderly st xs → remaining st n (written xs) ≡ record { records = placed n xs; ending = whole }
rest_back [] st n may order = rw order (remaining_step Ended n [])
rest_back (x ∷ xs) st n (may, mays) (next, order, orders) =
    remaining_step st n (written (x ∷ xs))
    ∙ cond-false (ended st) _ _ (more st next (kind_for x) order)
    ∙ ap (after remaining n (written (x ∷ xs))) (record_back x st next (written xs) may order)
    ∙ ap (λ l. first (n, x) (remaining next (n + length (encoded x)) l)) (drop_at (encoded x) (written xs) _ refl)
    ∙ ap (first (n, x)) (rest_back xs next (n + length (encoded x)) mays orders)

pub reads_back : ReadsBack
unfolding reading
reads_back xs sound =
    cond-false _ _ _ (le-ltb 65536 (length (written xs)) sound.short) ∙ rest_back xs Start 0 sound.proper (by_stages sound.order)

-- the number of a known kind
code_back : (n : ℕ) (k : Kind) → kind_of n ≡ Some k → code_of k ≡ n
code_back n kind.Table e = grind (arith, nat_tests)
code_back n k e = grind (arith, nat_tests)

-- a record that was read is written as the bytes that it took
frame_back : (bs b : List ℕ) (m k : ℕ) → Bytes bs → m + 4 ≤ length bs → two bs 0 ≡ m + 2 → k ≡ two bs 2 → b ≡ take m (drop 4 bs) → le2 (2 + length b) ++ (le2 k ++ b) ++ drop m (drop 4 bs) ≡ bs
frame_back bs b m k h long n code is =
    let size : 2 + length b ≡ two bs 0 = omega (arith, ap length is, length-drop 4 bs, length-take-le m (drop 4 bs) (omega (arith, length-drop 4 bs))) in
    (λ i. le2 (size i) ++ (le2 (code i) ++ is i) ++ drop m (drop 4 bs))
    ∙ grind (arith, two_again bs 0 h, two_again bs 2 h, take-append-drop m (drop 4 bs))

-- the items of a reading that ends whole, and the bytes that they are written as
record From (st : Stage) (bs : List ℕ) (xs : List Item) : Type 0 where
  proper : AllByRecursion Proper xs
  fitting : AllByRecursion Fitting xs
  order : Orderly st xs
  bytes : bs ≡ written xs

from_record : (st : Stage) (bs : List ℕ) (t : Step) (xs : List Item) → Bytes bs → Came st bs t → From t.stage (drop t.size bs) xs → From st bs (t.says ∷ xs)
from_record st bs t xs h f behind =
    let body : List ℕ = take (two bs 0 - 2) (drop 4 bs) in
    let g = again f.kind body t.says (All-take _ (two bs 0 - 2) (drop 4 bs) (All-drop _ 4 bs h)) f.right in
    let rest : drop (two bs 0 - 2) (drop 4 bs) ≡ drop t.size bs = drop-drop (two bs 0 - 2) 4 bs ∙ ap (λ n. drop n bs) (omega (arith, f.size, f.some)) in
    record {
      proper = (proper f.kind body t.says f.right, behind.proper);
      fitting = (g.fitting, behind.fitting);
      order = (t.stage, ap (follows st) g.kind ∙ f.order, behind.order);
      bytes =
          sym (frame_back bs (body_of t.says) (two bs 0 - 2) (code_of (kind_for t.says)) h (omega (arith, f.fits, f.some)) (omega (arith, f.some)) (ap code_of g.kind ∙ code_back (two bs 2) f.kind f.known) g.body)
          ∙ ap (λ l. encoded t.says ++ l) (rest ∙ behind.bytes);
    }

from_whole : (st : Stage) (n : ℕ) (bs : List ℕ) → Bytes bs → (remaining st n bs).ending ≡ whole → From st bs (items (remaining st n bs))
from_whole =
    induct (λ st n bs r. Bytes bs → r.ending ≡ whole → From st bs (items r))
    (λ st n bs done h e. closed st n bs done e)
    (λ st n bs e m is h w. absurd cc)
    (λ st n bs t rest m is behind h e. from_record st bs t (items rest) h (came st bs t is) (behind (All-drop _ t.size bs h) e))
  where
    closed : (st : Stage) (n : ℕ) (bs : List ℕ) → ended st ≡ true → (closing n bs).ending ≡ whole → From st bs (items (closing n bs))
    closed Ended n [] done e = record { proper = tt; fitting = tt; order = refl; bytes = refl }
    closed st n bs done e = absurd cc

pub only_written : (bs : List ℕ) → Bytes bs → OnlyWritten bs
unfolding reading
only_written bs bytes =
    cond_both (ltb 65536 (length bs)) _ _ (λ (r : Reading). r.ending ≡ whole → Sound (items r) × (bs ≡ written (items r)))
    (λ _ e. absurd cc)
    (λ short e.
    let f = from_whole Start 0 bs bytes e in
    (record { proper = f.proper; fitting = f.fitting; order = in_words _ f.order; short = omega (arith, ap length f.bytes, ltb-false 65536 (length bs) short) }, f.bytes))

-- the same, where bytes are known place by place, as those of a slice are
pub only_written_by_place : (bs : List ℕ) → ((i : ℕ) → Fits w8 (get_or bs i 0)) → OnlyWritten bs
only_written_by_place bs fits = only_written bs (All-from_get_or _ bs 0 (λ i _. omega (arith, fits i)))
