-- `read_full` ends, as each turn reads a byte or more, and the bytes so far lie within the buffer.
use Rattle.std.proofs.Common.{length, ◌-◌, ◌≤◌}
use Rattle.program_ranges.proofs.read_full.Given as goal

abbrev pub invariant-loop-length : goal.invariant-loop-length
invariant-loop-length l = l.length ≤ length l.buffer

abbrev pub decreases-loop-length : goal.decreases-loop-length
decreases-loop-length l = length l.initial.buffer - l.length
