-- What a stream answers to the system's results.
use Rattle.std.specs.Prelude.{ℕ, Result, Ok, Err}
use Rattle.std.specs.declared.io.Error.{Error}
use Rattle.byte_streams.specs.declared.failed.Failed.{Failed}
use Rattle.byte_streams.specs.Streams.{counted_on}

-- the system's count of bytes, or a failure for its error
abbrev pub answer_to : Result ℕ Error → Result ℕ Failed
answer_to (Ok n) = Ok n
answer_to (Err e) = Err (record {})

-- one fault more for an error
abbrev pub faults_after : Result ℕ Error → ℕ → ℕ
faults_after (Ok n) faults = faults
faults_after (Err e) faults = counted_on faults
