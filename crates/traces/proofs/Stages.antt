-- The order of a trace, by stages and in words.
use Rattle.std.proofs.Common.{◌≡◌, ℕ, List, [], ◌∷◌, Some, sym, refl, subst}
use Rattle.traces.specs.declared.order.Stage.{Stage}
use Rattle.traces.specs.declared.order.Stage.TheVariants.{Start, Opened, Running, Ended}
use Rattle.traces.specs.Layout.{Item, table, limit, ticks, request, release, report, end, follows}
use Rattle.traces.specs.Written.{kind_for, Course, ended, ticked, requested, released, reported, InOrder, plain, limited}

-- items that may follow one another from a stage to the end
abbrev pub Orderly : Stage → List Item → Type 0
Orderly st [] = st ≡ Ended
Orderly st (x ∷ xs) = (next : Stage) × (follows st (kind_for x) ≡ Some next) × Orderly next xs

running : {xs : List Item} → Course xs → Orderly Running xs
running ended = (Ended, refl, refl)
running (ticked h) = (Running, refl, running h)
running (requested h) = (Running, refl, running h)
running (released h) = (Running, refl, running h)
running (reported h) = (Running, refl, running h)

opened : {xs : List Item} → Course xs → Orderly Opened xs
opened ended = (Ended, refl, refl)
opened (ticked h) = (Running, refl, running h)
opened (requested h) = (Running, refl, running h)
opened (released h) = (Running, refl, running h)
opened (reported h) = (Running, refl, running h)

pub by_stages : {xs : List Item} → InOrder xs → Orderly Start xs
by_stages (plain h) = (Opened, refl, opened h)
by_stages (limited h) = (Opened, refl, (Running, refl, running h))

nothing_after : (xs : List Item) → Orderly Ended xs → xs ≡ []
nothing_after [] o = refl
nothing_after (x ∷ xs) (next, e, o) = absurd cc

to : (xs : List Item) {st next : Stage} → Some st ≡ Some next → Orderly next xs → Orderly st xs
to xs {st = st} {next = next} e o = let same : next ≡ st = cc in subst (λ s. Orderly s xs) same o

course : (xs : List Item) → Orderly Running xs → Course xs
course (ticks c ∷ xs) (next, e, o) = ticked (course xs (to xs e o))
course (request n note ∷ xs) (next, e, o) = requested (course xs (to xs e o))
course (release n ∷ xs) (next, e, o) = released (course xs (to xs e o))
course (report n c ∷ xs) (next, e, o) = reported (course xs (to xs e o))
course (end ∷ xs) (next, e, o) = subst (λ l. Course (end ∷ l)) (sym (nothing_after xs (to xs e o))) ended
course (table n rows ∷ xs) (next, e, o) = absurd cc
course (limit l ∷ xs) (next, e, o) = absurd cc
course [] o = absurd cc

second : {n : ℕ} {rows : List ℕ} (xs : List Item) → Orderly Opened xs → InOrder (table n rows ∷ xs)
second (limit l ∷ xs) (next, e, o) = limited (course xs (to xs e o))
second (table n rows ∷ xs) (next, e, o) = absurd cc
second [] o = absurd cc
second xs o = plain (course xs o)

pub in_words : (xs : List Item) → Orderly Start xs → InOrder xs
in_words (table n rows ∷ xs) (next, e, o) = second xs (to xs e o)
in_words xs o = absurd cc
