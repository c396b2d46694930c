-- How a trace is written, and that this and its reading are inverse.
use Rattle.std.specs.Prelude.{◌≡◌, ℕ, ◌+◌, ◌*◌, ◌/◌, ◌%◌, ◌^◌, ◌<◌, ◌≤◌, List, [], ◌∷◌, ◌++◌, map, length}
use Rattle.std.specs.List.{AllByRecursion}
use Rattle.traces.specs.declared.order.Kind.{Kind}
use Rattle.traces.specs.declared.order.Kind.TheVariants as kind
use Rattle.traces.specs.Layout.{Item, table, limit, ticks, request, release, report, end}
use Rattle.traces.specs.Reading.{Reading, whole, reading}

-- a number in two bytes, the least first
abbrev pub le2 : ℕ → List ℕ
le2 n = n % 256 ∷ n / 256 ∷ []

-- a number in four bytes, the least first
abbrev pub le4 : ℕ → List ℕ
le4 n = le2 (n % 65536) ++ le2 (n / 65536)

-- the kind of a record
abbrev pub kind_for : Item → Kind
kind_for (table n rows) = kind.Table
kind_for (limit l) = kind.Limit
kind_for (ticks c) = kind.Ticks
kind_for (request n note) = kind.Request
kind_for (release n) = kind.Release
kind_for (report n c) = kind.Report
kind_for end = kind.End

-- the number of a kind
abbrev pub code_of : Kind → ℕ
code_of kind.Table = 1
code_of kind.Limit = 2
code_of kind.Ticks = 3
code_of kind.Request = 4
code_of kind.Release = 5
code_of kind.Report = 6
code_of kind.End = 7

-- the body of a record
abbrev pub body_of : Item → List ℕ
body_of (table n rows) = le2 n ++ (length rows / 12 ∷ rows)
body_of (limit l) = le4 l
body_of (ticks c) = le4 c
body_of (request n note) = le2 n ++ note
body_of (release n) = le2 n
body_of (report n c) = le2 n ++ le4 c
body_of end = []

-- a record: the length of kind and body, the kind, the body
abbrev pub encoded : Item → List ℕ
encoded x = le2 (2 + length (body_of x)) ++ (le2 (code_of (kind_for x)) ++ body_of x)

-- a trace
abbrev pub written : List Item → List ℕ
written [] = []
written (x ∷ xs) = encoded x ++ written xs

-- each item with the offset of its record, the first at n
abbrev pub placed : ℕ → List Item → List (ℕ × Item)
placed n [] = []
placed n (x ∷ xs) = (n, x) ∷ placed (n + length (encoded x)) xs

-- bytes
abbrev pub Bytes : List ℕ → Type 0
Bytes = AllByRecursion (λ b. b < 256)

-- bytes that can be printed, and no space
abbrev pub Printable : List ℕ → Type 0
Printable = AllByRecursion (λ b. (33 ≤ b) × (b ≤ 126))

-- what a record may say: 1 to 16 rows of 12 bytes, 1 to 1,000,000 ticks, a note of at most 16 printable bytes
abbrev pub Proper : Item → Type 0
Proper (table n rows) = (k : ℕ) × (1 ≤ k) × (k ≤ 16) × (length rows ≡ 12 * k)
Proper (limit l) = Unit {0}
Proper (ticks c) = (1 ≤ c) × (c ≤ 1000000)
Proper (request n note) = (length note ≤ 16) × Printable note
Proper (release n) = Unit {0}
Proper (report n c) = Unit {0}
Proper end = Unit {0}

-- each number fits its bytes
abbrev pub Fitting : Item → Type 0
Fitting (table n rows) = (n < 2 ^ 16) × Bytes rows
Fitting (limit l) = l < 2 ^ 32
Fitting (ticks c) = Unit {0}
Fitting (request n note) = n < 2 ^ 16
Fitting (release n) = n < 2 ^ 16
Fitting (report n c) = (n < 2 ^ 16) × (c < 2 ^ 32)
Fitting end = Unit {0}

-- ticks, requests, releases and reports in any number, and the end
pub data Course : List Item → Type 0 where
  ended : Course (end ∷ [])
  ticked : {c : ℕ} {xs : List Item} → Course xs → Course (ticks c ∷ xs)
  requested : {n : ℕ} {note : List ℕ} {xs : List Item} → Course xs → Course (request n note ∷ xs)
  released : {n : ℕ} {xs : List Item} → Course xs → Course (release n ∷ xs)
  reported : {n c : ℕ} {xs : List Item} → Course xs → Course (report n c ∷ xs)

-- a table, a limit or none, and such a course
pub data InOrder : List Item → Type 0 where
  plain : {n : ℕ} {rows : List ℕ} {xs : List Item} → Course xs → InOrder (table n rows ∷ xs)
  limited : {n : ℕ} {rows : List ℕ} {l : ℕ} {xs : List Item} → Course xs → InOrder (table n rows ∷ limit l ∷ xs)

-- items that make a trace
pub record Sound (xs : List Item) : Type 0 where
  pub proper : AllByRecursion Proper xs
  pub fitting : AllByRecursion Fitting xs
  pub order : InOrder xs
  pub short : length (written xs) ≤ 65536

-- the items that are handed out
abbrev pub items : Reading → List Item
items r = map (λ (x : ℕ × Item). x.1) r.records

-- a trace that is written is read back, each record at its offset
abbrev pub ReadsBack : Type 0
ReadsBack = (xs : List Item) → Sound xs → reading (written xs) ≡ record { records = placed 0 xs; ending = whole }

-- bytes that are read whole are those that the items handed out are written as
abbrev pub OnlyWritten : List ℕ → Type 0
OnlyWritten bs = (reading bs).ending ≡ whole → Sound (items (reading bs)) × (bs ≡ written (items (reading bs)))
