-- A sink in memory: what it holds, and how much it takes.
use Rattle.std.specs.Prelude.{◌≡◌, ◌⊎◌, ℕ, ◌-◌, ◌<◌, min, List, length, Option}
use Rattle.sig_base.specs.Script.{FailsCall}
use Rattle.sig_base.specs.declared.mem_sink.MemSink.{MemSink}

-- the bytes written so far
abbrev pub held_by : MemSink → List ℕ
held_by sink = sink.bytes.items

-- how many bytes it takes in all, how many in a call, and the numbers of the calls that are to fail
abbrev pub terms_of : MemSink → ℕ × ℕ × List ℕ
terms_of sink = (sink.room, sink.chunk, sink.script.fails)

-- the number of the next call
abbrev pub call_of : MemSink → Option ℕ
call_of sink = sink.script.next

-- how many puts have failed
abbrev pub count_of : MemSink → ℕ
count_of sink = sink.faults

-- how much of a piece it has a place for: the least of the piece's length, what it takes in a call, and the room left
abbrev pub place_for : MemSink → List ℕ → ℕ
place_for sink piece = min (min (length piece) (terms_of sink).1) ((terms_of sink).0 - length (held_by sink))

-- a put of this piece fails now: its number is in the script, or nothing would be taken of a piece that has bytes
abbrev pub FailsOn : MemSink → List ℕ → Type 0
FailsOn sink piece = FailsCall (call_of sink) (terms_of sink).2 ⊎ ((place_for sink piece ≡ 0) × (0 < length piece))
