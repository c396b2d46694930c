use Rattle.std.proofs.Common.{◌≡◌, ℕ, false, List, get_or, replicate, refl, ap, ap₂, inl, inr, arith}
use Rattle.std.specs.Array.{AllOfLen}
use Rattle.std.proofs.lemmas.Bool.{cases_lt}
use Rattle.std.proofs.lemmas.List.{get_or-replicate, get_or_past}
use Rattle.std.proofs.lemmas.List.FromFn.{fill_by_all}
use Rattle.manager.specs.declared.account.Account.{Account}
use Rattle.manager.specs.declared.account.Tally.{Tally}
use Rattle.manager.specs.Tallying.{no_tally, no_tallies, Within}
use Rattle.manager.specs.Charges.{empty}
use Rattle.manager.proofs.books.Books.new.Goals as goal

-- sixteen tallies that are all nothing
zeros : (P : Tally → Type 0) (xs : List Tally) → ((t : Tally) → P t → t ≡ no_tally) → AllOfLen P xs 16 → xs ≡ replicate 16 no_tally
zeros P xs is all = fill_by_all (λ k. no_tally) xs 16 no_tally all.long (λ k h. is (get_or xs k no_tally) (all.at k no_tally h))

-- an account of zeros
nothing : (a : Account) → a.clean ≡ 0 → a.floor ≡ 0 → a.stuck ≡ 0 → a.busy ≡ 0 → a.pending ≡ 0 → a.length ≡ 0 → a.mark ≡ false → a.ticks ≡ 0 → a.gaps ≡ 0 → a.tallies ≡ no_tallies → a ≡ empty
nothing a c f s b p l m t g x =
    let all : ◌≡◌ {A = Account} (record { clean = a.clean; floor = a.floor; stuck = a.stuck; busy = a.busy; pending = a.pending; length = a.length; mark = a.mark; ticks = a.ticks; gaps = a.gaps; tallies = a.tallies }) empty = rw (c, f, s, b, p, l, m, t, g, x) refl in
    all

-- nothing is counted of any state
none : (k : ℕ) → get_or (replicate 16 no_tally) k no_tally ≡ no_tally
none k = elim (cases_lt k 16) [
  | inl h ↦ get_or-replicate 16 k no_tally no_tally h
  | inr h ↦ get_or_past (replicate 16 no_tally) k no_tally h
]

within_none : Within no_tallies 0 0
within_none = ((λ k. omega (arith, ap (λ (t : Tally). t.ticks) (none k))), (λ k. omega (arith, ap (λ (t : Tally). t.wakes) (none k))))

is : (a : Account) (P : Tally → Type 0) → ((t : Tally) → P t → t ≡ no_tally) → (a.clean ≡ 0) × ((a.floor ≡ 0) × ((a.stuck ≡ 0) × ((a.busy ≡ 0) × ((a.pending ≡ 0) × ((a.length ≡ 0) × ((a.mark ≡ false) × ((a.ticks ≡ 0) × ((a.gaps ≡ 0) × AllOfLen P a.tallies.each 16)))))))) → a ≡ empty
is a P none_of d =
    let each = zeros P a.tallies.each none_of d.1.1.1.1.1.1.1.1.1 in
    nothing a d.0 d.1.0 d.1.1.0 d.1.1.1.0 d.1.1.1.1.0 d.1.1.1.1.1.0 d.1.1.1.1.1.1.0 d.1.1.1.1.1.1.1.0 d.1.1.1.1.1.1.1.1.0 (ap (λ (xs : List Tally). record { each = xs }) each)

-- a tally of zeros
tally_of_zeros : (t : Tally) → (t.ticks ≡ 0) × (t.wakes ≡ 0) → t ≡ no_tally
tally_of_zeros t h = ap₂ (λ (x y : ℕ). record { ticks = x; wakes = y }) h.0 h.1

pub returns : goal.returns
returns c = is c.default.result _ tally_of_zeros c.default.ensures

pub invariant_of-result : goal.invariant_of-result
invariant_of-result c = rw (is c.default.result _ tally_of_zeros c.default.ensures) (record { ticks_limit = omega arith; gaps_limit = omega arith; lengths = omega arith; energies = omega arith; floors = omega arith; tallied = within_none })
