-- `read_full`: what is read is within the buffer.
use Rattle.std.proofs.Common.{length, ◌≤◌}
use Rattle.report.proofs.read_full.Given as goal

abbrev pub invariant-loop : goal.invariant-loop
invariant-loop g l = l.done ≤ length l.buf
