-- What a reader has yet to hand out.
use Rattle.std.specs.Prelude.{◌+◌, ◌≤◌, length}
use Rattle.traces.specs.declared.reader.Reader.TheInside.{Inside}
use Rattle.traces.specs.Reading.{Reading, remaining}

-- the reading of what is left of its trace
abbrev pub ahead : Inside → Reading
ahead r = remaining r.stage r.offset r.rest.now

-- what is left ends where a trace ends at the latest
abbrev pub IsWithin : Inside → Type 0
IsWithin r = r.offset + length r.rest.now ≤ 65536
