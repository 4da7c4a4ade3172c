-- A count of faults over several calls.
use Rattle.std.proofs.Common.{ℕ, ◌<◌, ◌≤◌, ◌^◌, inl, inr, arith}
use Rattle.byte_streams.specs.Streams.{HasRisen}

-- it rose before a later call
pub HasRisen-later : (before after later : ℕ) → HasRisen before after → after ≤ later → later < 2 ^ 64 → HasRisen before later
HasRisen-later before after later (inl risen) more fits = inl (omega arith)
HasRisen-later before after later (inr end) more fits = inr (omega arith)

-- it rose after an earlier call
pub HasRisen-earlier : (earlier before after : ℕ) → earlier ≤ before → HasRisen before after → HasRisen earlier after
HasRisen-earlier earlier before after more (inl risen) = inl (omega arith)
HasRisen-earlier earlier before after more (inr end) = inr end
