-- The streams in memory, which tell all their bytes.
use Rattle.std.specs.Prelude.{◌≡◌, ℕ, ◌-◌, Bool, if◌then◌else◌, List, drop, vec_len, vec_capacity, Contains}
use Rattle.byte_streams.specs.Streams.{counted_on}
use Rattle.byte_streams.specs.declared.plan.Plan.{Plan}
use Rattle.byte_streams.specs.declared.mem_source.MemSource.{MemSource}
use Rattle.byte_streams.specs.declared.mem_sink.MemSink.{MemSink}

-- the next call is one of those that are to fail
abbrev pub FailsNext : Plan → Type 0
FailsNext plan = Contains plan.fails.items plan.calls

-- no call yet, and these are to fail
pub record IsFresh (plan : Plan) (numbers : List ℕ) : Type 0 where
  pub fails : plan.fails.items ≡ numbers
  pub calls : plan.calls ≡ 0
  pub faults : plan.faults ≡ 0

-- one call more, and one fault more where it failed
pub record CountsCall (old : Plan) (failed : Bool) (new : Plan) : Type 0 where
  pub fails : new.fails ≡ old.fails
  pub calls : new.calls ≡ counted_on old.calls
  pub faults : new.faults ≡ (if failed then counted_on old.faults else old.faults)

-- the bytes left
abbrev pub left_of : MemSource → List ℕ
left_of source = drop source.at source.bytes.items

-- how many bytes more the sink has room for
abbrev pub room_of : MemSink → ℕ
room_of sink = vec_capacity sink.bytes - vec_len sink.bytes
