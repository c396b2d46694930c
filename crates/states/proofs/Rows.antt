-- The rows of a table, state by state.
use Rattle.std.proofs.Common.{◌≡◌, ℕ, suc, ◌+◌, ◌-◌, ◌<◌, ◌≤◌, min, List, [], ◌∷◌, ◌++◌, map, length, get_or, take, replicate, sym, ap, ◌∙◌, append_assoc, add-one, arith}
use Rattle.std.proofs.Math.ListN.{set}
use Rattle.std.proofs.Math.Seq.{set-append_seam, take-append_seam}
use Rattle.std.specs.List.{range_with_len}
use Rattle.std.proofs.lemmas.List.FromFn.{length-map-range_with_len, get_or-map-range_with_len, map-range_with_len_more}
use Rattle.states.specs.declared.row.Row.{Row}
use Rattle.states.specs.Table.{Table, at, rows_of, no_row, row_at}
use Rattle.states.specs.Gathered.{IsFilled}

pub row_at-get_or : (rows : List Row) (k : ℕ) → k < length rows → row_at rows k ≡ get_or rows k no_row
row_at-get_or rows k h = ap (λ (j : ℕ). get_or rows j no_row) (omega arith)

pub length-rows_of : (t : Table) → length (rows_of t) ≡ suc t.deepest
unfolding rows_of
length-rows_of t = length-map-range_with_len (at t) 0 (suc t.deepest)

pub row_at_is : (t : Table) (i : ℕ) → row_at (rows_of t) i ≡ at t i
unfolding rows_of
row_at_is t i =
    let n = length-map-range_with_len (at t) 0 (suc t.deepest) in
    let k : ℕ = min i (length (map (at t) (range_with_len 0 (suc t.deepest))) - 1) in
    let e : k ≡ min i t.deepest = omega (arith, n) in
    let f : min k t.deepest ≡ min i t.deepest = omega (arith, e) in
    get_or-map-range_with_len (at t) 0 (suc t.deepest) k k no_row (omega (arith, e)) (omega arith) ∙ ap (λ (j : ℕ). t.row j) f

-- the first n rows of a table, in sixteen places
abbrev pub places : Table → ℕ → List Row
places t n = map (at t) (range_with_len 0 n) ++ replicate (16 - n) no_row

-- one place more
pub places_more : (t : Table) (each : List Row) (row : Row) (n : ℕ) → n < 16 → each ≡ places t n → row ≡ at t n → set each n row ≡ places t (n + 1)
places_more t each row n h filled is =
    let front = map (at t) (range_with_len 0 n) in
    let long : length front ≡ n = length-map-range_with_len (at t) 0 n in
    let room : 16 - n ≡ suc (16 - (n + 1)) = omega arith in
    ap (λ e. set e n row) filled ∙ ap (λ k. set (front ++ replicate k no_row) n row) room
    ∙ ap (λ k. set (front ++ no_row ∷ replicate (16 - (n + 1)) no_row) k row) (sym long)
    ∙ set-append_seam front no_row (replicate (16 - (n + 1)) no_row) row
    ∙ ap (λ r. front ++ r ∷ replicate (16 - (n + 1)) no_row) is
    ∙ sym (append_assoc front (at t n ∷ []) (replicate (16 - (n + 1)) no_row))
    ∙ ap (λ rs. rs ++ replicate (16 - (n + 1)) no_row) (sym (map-range_with_len_more (at t) 0 n n (omega arith)))

module _ (t : Table) (each : List Row) (count : ℕ) (few : count ≤ 16) (is : each ≡ places t count) where
  held_places : take count each ≡ map (at t) (range_with_len 0 count)
  held_places =
      let front = map (at t) (range_with_len 0 count) in
      let long : length front ≡ count = length-map-range_with_len (at t) 0 count in
      ap (take count) is ∙ ap (λ k. take k (front ++ replicate (16 - count) no_row)) (sym long) ∙ take-append_seam front (replicate (16 - count) no_row)

  pub places_filled : IsFilled (record { each = each; count = count })
  places_filled = record {
    few = few;
    all = ap length held_places ∙ length-map-range_with_len (at t) 0 count;
    empty = ap (λ rs. rs ++ replicate (16 - count) no_row) held_places ∙ sym is;
  }

  -- up to its deepest state they are the table's rows
  pub places_rows : count ≡ t.deepest + 1 → take count each ≡ rows_of t
  unfolding rows_of
  places_rows all = held_places ∙ ap (λ k. map (at t) (range_with_len 0 k)) (all ∙ add-one t.deepest)
