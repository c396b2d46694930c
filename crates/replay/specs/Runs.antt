-- What a trace says when its records are worked through one manager.
use Rattle.std.specs.Prelude.{◌≡◌, ℕ, Bool, true, false, cond, not, List, [], ◌∷◌, ◌++◌, replicate, Some, None, Option, ◌==◌}
use Rattle.states.specs.Table.{Table}
use Rattle.devices.specs.Meaning.{Status, Refused}
use Rattle.devices.specs.Rows.{row_table, basic_status}
use Rattle.devices.specs.Limit.{limited_table, limited_status}
use Rattle.manager.specs.declared.account.Account.{Account}
use Rattle.manager.specs.Rules as rules
use Rattle.manager.specs.Rules.{Managed, Call, Answer, attach_refusal, started}
use Rattle.manager.specs.Runs.{Moment, history, finally}
use Rattle.manager.specs.Laws.{Laws}
use Rattle.traces.specs.Layout.{Item, table, limit, ticks, request, release, report, end}
use Rattle.traces.specs.Reading.{Ending, whole, refused, Reading, reading}
use Rattle.replay.specs.Lines as lines
use Rattle.replay.specs.Lines.{Line, written}

-- what a record says: nothing, a closed gap with the record's note, what a fault that held a request up names, or the
-- number of a refusal that ends the run
pub data Said : Type 0 where
  quiet : Said
  gap : ℕ → Bool → ℕ → ℕ → ℕ → ℕ → List ℕ → Said
  jam : List ℕ → Said
  halt : ℕ → Said

-- a request or a release of another number than the manager's
abbrev pub astray : Managed → Item → Bool
astray m (table n rows) = false
astray m (limit l) = false
astray m (ticks c) = false
astray m (request n note) = not (n == m.number)
astray m (release n) = not (n == m.number)
astray m (report n c) = false
astray m end = false

-- the calls that a record makes, if it is not astray: a release bears the manager's own number and count, so that a
-- manager without a lease out refuses it
abbrev pub wants : Managed → Item → List Call
wants m (table n rows) = []
wants m (limit l) = []
wants m (ticks c) = replicate c rules.tick
wants m (request n note) = rules.request ∷ []
wants m (release n) = rules.release m.number m.account.gaps ∷ []
wants m (report n c) = rules.report n c ∷ []
wants m end = []

-- the calls that a record makes
abbrev pub calls : Managed → Item → List Call
calls m x = cond (astray m x) [] (wants m x)

-- what a refused call says: a fault that holds a request up is named and the run goes on, else it ends
abbrev pub objection : Call → Refused → Said
objection rules.tick r = halt r.number
objection rules.request r = cond (r.number == 31) (jam r.names) (halt r.number)
objection (rules.release number count) r = halt r.number
objection (rules.report number code) r = halt r.number
objection rules.figures r = halt r.number

-- what an answer says, or what comes after it if it says nothing
abbrev pub voiced : List ℕ → Call → Answer → Said → Said
voiced note c (rules.refused r) later = objection c r
voiced note c (rules.ticked i energy hitch) later = later
voiced note c (rules.closed g) later = gap g.length g.stuck g.energy g.floor g.from g.latency note
voiced note c rules.released later = later
voiced note c rules.reportedly later = later
voiced note c (rules.shown a) later = later

-- the first that is said in a history
abbrev pub heard : List ℕ → List Moment → Said
heard note [] = quiet
heard note (h ∷ hs) = voiced note h.call h.answer (heard note hs)

-- the note of a record
abbrev pub note_of : Item → List ℕ
note_of (table n rows) = []
note_of (limit l) = []
note_of (ticks c) = []
note_of (request n note) = note
note_of (release n) = []
note_of (report n c) = []
note_of end = []

-- what a record says: 25 if it is astray, else what its calls are answered
abbrev pub says : Managed → Item → Said
says m x = cond (astray m x) (halt 25) (heard (note_of x) (history m (calls m x)))

-- the manager after a record
abbrev pub leaves : Managed → Item → Managed
leaves m x = finally m (calls m x)

-- whether the run goes on
abbrev pub goes_on : Said → Bool
goes_on quiet = true
goes_on (gap length stuck energy floor from latency note) = true
goes_on (jam names) = true
goes_on (halt k) = false

-- the lines of what a record at a place says
abbrev pub lines_of : ℕ → Said → List Line
lines_of place quiet = []
lines_of place (gap length stuck energy floor from latency note) = lines.gap length stuck energy floor from latency note ∷ []
lines_of place (jam names) = lines.jam place names ∷ []
lines_of place (halt k) = lines.stop place k ∷ []

-- at the end record, with nothing behind it, the account and the end; else the refusal of what could not be read
abbrev pub closing : Managed → Ending → List Line
closing m whole = lines.total m.account ∷ lines.end ∷ []
closing m (refused place k) = lines.stop place k ∷ []

-- records worked one after the other, until one ends the run
unfoldable pub run : Managed → List (ℕ × Item) → Ending → List Line
run m [] e = closing m e
run m (x ∷ xs) e = lines_of x.0 (says m x.1) ++ cond (goes_on (says m x.1)) (run (leaves m x.1) xs e) []

-- a reading worked from a manager on
abbrev pub run_on : Managed → Reading → List Line
run_on m r = run m r.records r.ending

-- the calls of all records
unfoldable pub all_calls : Managed → List (ℕ × Item) → List Call
all_calls m [] = []
all_calls m (x ∷ xs) = calls m x.1 ++ all_calls (leaves m x.1) xs

-- what a trace starts with: the device's number, its table and status, and the records behind table and limit, of
-- which there is one at least
pub record Opening : Type 0 where
  pub number : ℕ
  pub table : Table
  pub status : Status
  pub next : ℕ × Item
  pub others : List (ℕ × Item)

-- the status of a table device that is made of rows
abbrev pub new_status : ℕ → List ℕ → Status
new_status n rows = basic_status (record { number = n; rows = rows; state = 0; held = 0; code = 0 })

-- a device and the records behind it
abbrev pub facing : ℕ → Table → Status → List (ℕ × Item) → Option Opening
facing n t s [] = None
facing n t s (x ∷ xs) = Some (record { number = n; table = t; status = s; next = x; others = xs })

-- behind a table: a limit sets the device below it
abbrev pub behind_table : ℕ → List ℕ → (ℕ × Item) → Item → List (ℕ × Item) → Option Opening
behind_table n rows x (limit l) xs = facing n (limited_table (row_table rows) l) (limited_status (row_table rows) (new_status n rows) l) xs
behind_table n rows x (table k r) xs = facing n (row_table rows) (new_status n rows) (x ∷ xs)
behind_table n rows x (ticks c) xs = facing n (row_table rows) (new_status n rows) (x ∷ xs)
behind_table n rows x (request k note) xs = facing n (row_table rows) (new_status n rows) (x ∷ xs)
behind_table n rows x (release k) xs = facing n (row_table rows) (new_status n rows) (x ∷ xs)
behind_table n rows x (report k c) xs = facing n (row_table rows) (new_status n rows) (x ∷ xs)
behind_table n rows x end xs = facing n (row_table rows) (new_status n rows) (x ∷ xs)

-- the same, if any record is there
abbrev pub tabled : ℕ → List ℕ → List (ℕ × Item) → Option Opening
tabled n rows [] = None
tabled n rows (x ∷ xs) = behind_table n rows x x.1 xs

-- by the first record, which is a table
abbrev pub headed : Item → List (ℕ × Item) → Option Opening
headed (table n rows) xs = tabled n rows xs
headed (limit l) xs = None
headed (ticks c) xs = None
headed (request n note) xs = None
headed (release n) xs = None
headed (report n c) xs = None
headed end xs = None

-- a record that says a table
abbrev pub IsTable : Item → Type 0
IsTable (table n rows) = Unit {0}
IsTable (limit l) = ⊥
IsTable (ticks c) = ⊥
IsTable (request n note) = ⊥
IsTable (release n) = ⊥
IsTable (report n c) = ⊥
IsTable end = ⊥

-- records of which the first, if any, says a table
abbrev pub Starts : List (ℕ × Item) → Type 0
Starts [] = Unit {0}
Starts (x ∷ xs) = IsTable x.1

-- what the records of a trace start with, if there are enough
abbrev pub opened : List (ℕ × Item) → Option Opening
opened [] = None
opened (x ∷ xs) = headed x.1 xs

-- a freshly attached manager of the opening's device
abbrev pub begins : Opening → Managed
begins o = started o.number o.table o.status

-- the records behind table and limit
abbrev pub course : Opening → List (ℕ × Item)
course o = o.next ∷ o.others

-- too little to attach: the refusal of what could not be read
abbrev pub cut_short : Ending → List Line
cut_short whole = []
cut_short (refused place k) = lines.stop place k ∷ []

-- attach refused prints its number at place 0; else the device line, and the run
abbrev pub attached : Opening → Ending → Option ℕ → List Line
attached o e None = lines.device o.number ∷ run (begins o) (course o) e
attached o e (Some k) = lines.stop 0 k ∷ []

-- attach comes once there is a record behind table and limit
abbrev pub told_of : Ending → Option Opening → List Line
told_of e None = cut_short e
told_of e (Some o) = attached o e (attach_refusal o.table o.status)

-- the lines of a reading
unfoldable pub lines_for : Reading → List Line
lines_for r = told_of r.ending (opened r.records)

-- the report of a trace
abbrev pub report_of : List ℕ → List ℕ
report_of bs = written (lines_for (reading bs))

-- the calls of a trace with this opening
abbrev pub trace_calls : Opening → List Call
trace_calls o = all_calls (begins o) (course o)

-- a trace whose report ends with the total of an account: that account is what all its calls leave, and it keeps the
-- laws
pub record Kept (o : Opening) (a : Account) : Type 0 where
  pub account : a ≡ (finally (begins o) (trace_calls o)).account
  pub laws : Laws o.table (history (begins o) (trace_calls o)) a

-- so it is for every way in which a report ends with a total
abbrev pub Lawful : List ℕ → Type 0
Lawful bs = (front : List Line) (a : Account) → lines_for (reading bs) ≡ front ++ (lines.total a ∷ lines.end ∷ []) → (o : Opening) × (opened (reading bs).records ≡ Some o) × Kept o a
