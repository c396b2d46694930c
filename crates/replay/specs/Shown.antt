-- What the code's values say.
use Rattle.std.specs.Prelude.{◌≡◌, ℕ, List, [], ◌++◌, Some, None, Ok, Err, Option, Result}
use Rattle.devices.specs.Meaning.{Make, fault_names}
use Rattle.manager.specs.Meaning.{meaning}
use Rattle.manager.specs.Rules.{Managed}
use Rattle.replay.specs.declared.said.Said as code
use Rattle.replay.specs.declared.said.Said.TheVariants as said
use Rattle.replay.specs.declared.said.Halt.{Halt}
use Rattle.replay.specs.Halts.{halt_number}
use Rattle.traces.specs.declared.event.Record.{Record}
use Rattle.traces.specs.Layout.{item}
use Rattle.traces.specs.Reading.{Reading, first}
use Rattle.traces.specs.Written.{Printable, Proper}
use Rattle.replay.specs.Lines.{written}
use Rattle.replay.specs.declared.run.Run.{Run}
use Rattle.replay.specs.Runs.{Said, quiet, gap, jam, halt, cut_short}

-- what was said without a refusal that ends the run
abbrev pub spoken : code.Said → Said
spoken said.Quiet = quiet
spoken (said.Gap g note) = gap g.length g.stuck g.energy g.floor g.from g.latency note.now
spoken (said.Jam f) = jam (fault_names f)

-- what a record's answer says
abbrev pub told : Result code.Said Halt → Said
told (Ok s) = spoken s
told (Err h) = halt (halt_number h)

-- the note of a gap can be printed
abbrev pub Noted : Said → Type 0
Noted quiet = Unit {0}
Noted (gap length stuck energy floor from latency note) = Printable note
Noted (jam names) = Unit {0}
Noted (halt k) = Unit {0}

-- a run's manager
abbrev pub stands : {D : Type 0} → Make D → Run D → Managed
stands make r = meaning make r.manager

-- a record that was handed out is the first that was ahead, and nothing was written; else nothing was ahead, and how the
-- reading ends is written
abbrev pub Opens : Option Record → Reading → Reading → List ℕ → List ℕ → Type 0
Opens (Some x) before after old new = (before ≡ first (x.offset, item x.event) after) × Proper (item x.event) × (new ≡ old)
Opens None before after old new = (before.records ≡ []) × (new ≡ old ++ written (cut_short before.ending))
